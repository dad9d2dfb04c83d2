-- What the capture says of the link of one host, and what its controller has told it.
use Rattle.std.proofs.Common.{◌≡◌, ℕ, ◌+◌, Bool, true, false, List, ◌++◌, length, Option, Some, None, refl, sym, ap, ◌∙◌, arith, length-append}
use Rattle.std.specs.Prelude.{option_to_list}
use Rattle.std.specs.Option.{option_map}
use Rattle.std.proofs.lemmas.List.{length-map}
use Rattle.turn_laws.specs.push_terms.specs.declared.word.Side.{Side}
use Rattle.turn_laws.specs.capture.specs.declared.flow.Flow.{Flow}
use Rattle.turn_laws.specs.capture.specs.declared.flow.Flow.TheVariants.{Out}
use Rattle.turn_laws.specs.capture.specs.Entries.{Entry}
use Rattle.turn_laws.specs.capture.specs.Moves.{moves}
use Rattle.turn_laws.specs.capture.specs.Links.{Link, linking, links, link_up}
use Rattle.turn_laws.specs.capture.specs.Pdus.{Pdu, pdus, pieces}
use Rattle.turn_laws.specs.acl_fragments.specs.Answers.{open_after}
use Rattle.turn_laws.specs.radio_model.specs.Controllers.{Answer, Returned, Stated, Called, LinkMade, LinkGone, GivenBack, Controller, after_telling}
use Rattle.turn_laws.specs.radio_model.specs.Radio.{frame_limit}
use Rattle.turn_laws.specs.world_model.specs.Stations.{Order, Reset, ReadBuffers, ReadAddress, Scan, Page, Accept, End, Data, Station, gives}
use Rattle.turn_laws.specs.world_model.specs.PerLink.{Linkage, with_moved}
use Rattle.turn_laws.proofs.Linkages.{said_by, order_by, answer_by}
use Rattle.turn_laws.proofs.Showing.{ShownUp}
use Rattle.turn_laws.proofs.Capturing.{view, ShownAt}

-- ---- how many links a host was told of

abbrev pub links_in : Linkage → ℕ
links_in l = length l.past + length (option_to_list l.up)

same_count : (more : List Pdu) (up : Option (List Pdu)) → length (option_to_list (option_map (λ now. now ++ more) up)) ≡ length (option_to_list up)
same_count more None = refl
same_count more (Some now) = refl

pub moved_count : (flow : Flow) (pdus : List (List ℕ)) (l : Linkage) → links_in (with_moved flow pdus l) ≡ links_in l
moved_count flow pdus l = ap (λ (n : ℕ). length l.past + n) (same_count _ l.up)

said_count : (ours : Bool) (pdus : List (List ℕ)) (l : Linkage) → links_in (said_by ours pdus l) ≡ links_in l
said_count true pdus l = moved_count Out pdus l
said_count false pdus l = refl

pub order_count : (order : Order) (one : Controller) (l : Linkage) → links_in (order_by order one l) ≡ links_in l
order_count (Data handle piece) one l = said_count _ (gives frame_limit one.begun piece) l
order_count Reset one l = refl
order_count ReadBuffers one l = refl
order_count ReadAddress one l = refl
order_count Scan one l = refl
order_count Page one l = refl
order_count Accept one l = refl
order_count (End handle) one l = refl

off_none : (up : Bool) (told : ℕ) (begun joining : List ℕ) (now : Option (List Pdu)) (known : Option Link) → up ≡ false → ShownUp up told begun joining now known → now ≡ None
off_none true told begun joining now known off shown = absurd cc
off_none false told begun joining None known off shown = refl
off_none false told begun joining (Some now) known off shown = absurd shown

-- what a host is told of a link that is made is of the next one, while none is up
abbrev pub IsNextLink : Answer → Controller → Type 0
IsNextLink (LinkMade handle) one = (one.up ≡ false) × (handle ≡ one.told + 1)
IsNextLink answer one = Unit {0}

pub answer_count : (answer : Answer) (one one' : Controller) (l : Linkage) → one'.told ≡ one.told → (one.up ≡ false → l.up ≡ None) → IsNextLink answer one → links_in l ≡ one.told → links_in (answer_by answer l) ≡ (after_telling answer one').told
answer_count (LinkMade handle) one one' l told off next count =
    let none = off next.0 in
    let here = next.1 in
    let empty : length (option_to_list l.up) ≡ 0 = ap (λ (u : Option (List Pdu)). length (option_to_list u)) none in
    omega arith
answer_count (LinkGone handle reason) one one' l told off next count = let both = length-append l.past (option_to_list l.up) in omega arith
answer_count (Returned opcode params) one one' l told off next count = count ∙ sym told
answer_count (Stated opcode) one one' l told off next count = count ∙ sym told
answer_count Called one one' l told off next count = count ∙ sym told
answer_count (GivenBack handle n) one one' l told off next count = count ∙ sym told

-- ---- what the capture says

pub record OnLink (one : Controller) (known : Option Link) : Type 0 where
  pub link : Link
  pub is : known ≡ Some link
  pub handle_is : link.handle ≡ one.told
  pub begun_is : open_after frame_limit (pieces Out one.told link.moves) ≡ one.begun

pub record Known (side : Side) (past : List Entry) (one : Controller) : Type 0 where
  pub count : length (links side past) ≡ one.told
  pub off : one.up ≡ false → link_up side past ≡ None
  pub on : one.up ≡ true → OnLink one (link_up side past)

known_off : (up : Bool) (told : ℕ) (begun joining : List ℕ) (now : Option (List Pdu)) (known : Option Link) → up ≡ false → ShownUp up told begun joining now known → known ≡ None
known_off true told begun joining now known off shown = absurd cc
known_off false told begun joining None None off shown = refl
known_off false told begun joining None (Some link) off shown = absurd shown
known_off false told begun joining (Some now) known off shown = absurd shown

known_on : (one : Controller) (up : Bool) (joining : List ℕ) (now : Option (List Pdu)) (known : Option Link) → up ≡ true → ShownUp up one.told one.begun joining now known → OnLink one known
known_on one true joining (Some now) (Some link) on shown = record { link = link; is = refl; handle_is = shown.handle_is; begun_is = shown.begun_is }
known_on one true joining (Some now) None on shown = absurd shown
known_on one true joining None known on shown = absurd shown
known_on one false joining now known on shown = absurd cc

both_up : (up : Bool) (told : ℕ) (begun joining : List ℕ) (now : Option (List Pdu)) (known : Option Link) → ShownUp up told begun joining now known → length (option_to_list known) ≡ length (option_to_list now)
both_up true told begun joining (Some now) (Some link) shown = refl
both_up true told begun joining (Some now) None shown = absurd shown
both_up true told begun joining None known shown = absurd shown
both_up false told begun joining None None shown = refl
both_up false told begun joining None (Some link) shown = absurd shown
both_up false told begun joining (Some now) known shown = absurd shown

pub known_of : {S : Type 0} (side : Side) (past : List Entry) (one : Controller) (station : Station S) (l : Linkage) → ShownAt (view one station) (linking (moves side past)) l → links_in l ≡ one.told → Known side past one
known_of side past one station l shown counted =
    let before : length (linking (moves side past)).past ≡ length l.past = sym (length-map (linking (moves side past)).past pdus) ∙ ap (λ (p : List (List Pdu)). length p) shown.past in
    let now = both_up one.up one.told one.begun station.joining l.up (linking (moves side past)).up shown.now in
    let all = length-append (linking (moves side past)).past (option_to_list (linking (moves side past)).up) in
    record {
      count = omega arith;
      off = λ off. known_off one.up one.told one.begun station.joining l.up (linking (moves side past)).up off shown.now;
      on = λ on. known_on one one.up station.joining l.up (linking (moves side past)).up on shown.now;
    }

pub up_none : {S : Type 0} (side : Side) (past : List Entry) (one : Controller) (station : Station S) (l : Linkage) → ShownAt (view one station) (linking (moves side past)) l → one.up ≡ false → l.up ≡ None
up_none side past one station l shown off = off_none one.up one.told one.begun station.joining l.up (linking (moves side past)).up off shown.now
