-- What a controller hands over, as its host hears it.
use Rattle.std.proofs.Common.{◌≡◌, ℕ, suc, ◌+◌, ◌≤◌, ◌<◌, List, [], ◌∷◌, ◌++◌, length, take, drop, map, Option, Some, None, refl, sym, ap, subst, ◌∙◌, arith}
use Rattle.std.proofs.Math.Seq.{take-append_seam}
use Rattle.std.proofs.lemmas.List.{append-nil}
use Rattle.bt_base.specs.Streams.{gained}
use Rattle.h4_framing.specs.Packets.{Packet, Command, Acl, Sync, Event, packet, spelling, IsPacket}
use Rattle.h4_framing.specs.declared.leading.Leading.{Leading}
use Rattle.h4_framing.specs.declared.leading.Leading.TheVariants.{Whole, Partial, Refused}
use Rattle.h4_framing.specs.declared.unit.Unit.{Unit}
use Rattle.h4_framing.specs.Leading.{IsLeading}
use Rattle.h4_framing.specs.Laws.{IsWholeOf}
use Rattle.h4_framing.proofs.ReadingLemmas.{written_is_read}
use Rattle.room_laws.specs.acl_fragments.specs.Pieces.{Piece}
use Rattle.push_terms.specs.declared.word.Side.{Side}
use Rattle.push_terms.specs.declared.word.Side.TheVariants.{A, B}
use Rattle.capture.specs.declared.flow.Flow.TheVariants.{Into}
use Rattle.capture.specs.Entries.{Moved, entry_octets, capture_octets}
use Rattle.radio_model.specs.Controllers.{Controller, Answer, Returned, Stated, Called, LinkMade, LinkGone, GivenBack, first_packet, after_first_of, after_telling, after_handing}
use Rattle.radio_model.specs.Queues.{IsHandedOver, IsWritten, IsShort, longest_packet}
use Rattle.radio_model.specs.Radio.{Radio, controller, with_controller, next_packet, after_answer}
use Rattle.room_laws.specs.world_model.specs.Machines.{Upper}
use Rattle.room_laws.specs.world_model.specs.Stations.{Station, Effort}
use Rattle.room_laws.specs.world_model.specs.Worlds.{all_entries}
use Rattle.radio_world.specs.Hosts.{Asking, answering, acl_limit, Coming, Part, Told, coming_packet, hears_coming, MakesEfforts, Reacts}
use Rattle.radio_world.specs.Leaving.{Medium, in_radio}
use Rattle.radio_world.specs.Halves.{Motion, Trying, Entering, happenings_of, MakesAll, Goes, ComesFirst, IsStillIn, comes_count}
use Rattle.radio_world.proofs.Spelled.{each_of_same, packet_is_entry}

-- ---- nothing is handed over

none_by : (side : Side) (number : ℕ) (pieces : List Piece) (owed : List Answer) (from to : List ℕ) → IsHandedOver (first_packet side number pieces owed) None from to → (pieces ≡ []) × (owed ≡ [])
none_by side number (piece ∷ pieces) owed from to handed = absurd handed
none_by side number [] (answer ∷ owed) from to handed = absurd handed
none_by side number [] [] from to handed = (refl, refl)

stays_with : (side : Side) (radio : Radio) → with_controller side (controller side radio) radio ≡ radio
stays_with A radio = refl
stays_with B radio = refl

pub none_comes : (side : Side) (medium : Medium) (result : Option ℕ) (from to : List ℕ) → IsHandedOver (next_packet side medium.radio) result from to → result ≡ None → IsStillIn side medium
none_comes side medium result from to handed none =
    none_by side medium.radio.number (controller side medium.radio).coming (controller side medium.radio).owed from to (subst (λ r. IsHandedOver (next_packet side medium.radio) r from to) none handed)

nothing_after : (controller : Controller) (pieces : List Piece) (owed : List Answer) → pieces ≡ [] → owed ≡ [] → after_first_of pieces owed controller ≡ controller
nothing_after controller pieces owed no_piece none = ap (λ ps. after_first_of ps owed controller) no_piece ∙ ap (λ os. after_first_of [] os controller) none

pub stays_as_it_is : (side : Side) (medium : Medium) → IsStillIn side medium → in_radio (after_answer side medium.radio) medium ≡ medium
stays_as_it_is side medium still =
    ap (λ c. in_radio (with_controller side c medium.radio) medium) (nothing_after (controller side medium.radio) (controller side medium.radio).coming (controller side medium.radio).owed still.0 still.1)
    ∙ ap (λ r. in_radio r medium) (stays_with side medium.radio)

-- ---- something is

pub record IsHanded (side : Side) (radio : Radio) (n : ℕ) (to : List ℕ) : Type 0 where
  pub coming : Coming
  pub comes : ComesFirst side coming radio
  pub front : take n to ≡ spelling (coming_packet side coming)
  pub is : IsPacket acl_limit (coming_packet side coming)
  pub short : IsShort longest_packet (coming_packet side coming)

short_packet : (p : Packet) → IsShort longest_packet p → IsPacket acl_limit p
short_packet (Command opcode params) is = is.0
short_packet (Acl word octets) is = (is.0.0, is.0.1, omega (arith, is.1), is.0.3)
short_packet (Sync word octets) is = is.0
short_packet (Event code params) is = is.0

front_of : (p : Packet) (n : ℕ) (from to : List ℕ) → IsWritten p n from to → take n to ≡ spelling p
front_of p n from to written = ap (λ k. take k to) written.0 ∙ ap (take (length (spelling p))) written.1 ∙ take-append_seam (spelling p) (drop (length (spelling p)) from)

handed_by : (side : Side) (radio : Radio) (number : ℕ) (pieces : List Piece) (owed : List Answer) (n : ℕ) (from to : List ℕ) → number ≡ radio.number → (controller side radio).coming ≡ pieces → (controller side radio).owed ≡ owed
    → IsHandedOver (first_packet side number pieces owed) (Some n) from to → IsHanded side radio n to
handed_by side radio number (piece ∷ pieces) owed n from to same coming_are owed_are handed = record {
  coming = Part number piece;
  comes = (pieces, coming_are, same);
  front = front_of (coming_packet side (Part number piece)) n from to handed.0;
  is = short_packet (coming_packet side (Part number piece)) handed.1;
  short = handed.1;
}
handed_by side radio number [] (answer ∷ owed) n from to same coming_are owed_are handed = record {
  coming = Told answer;
  comes = (owed, coming_are, owed_are);
  front = front_of (coming_packet side (Told answer)) n from to handed.0;
  is = short_packet (coming_packet side (Told answer)) handed.1;
  short = handed.1;
}
handed_by side radio number [] [] n from to same coming_are owed_are handed = let no = handed.0 in absurd cc

pub handed_first : (side : Side) (medium : Medium) (result : Option ℕ) (n : ℕ) (from to : List ℕ) → IsHandedOver (next_packet side medium.radio) result from to → result ≡ Some n → IsHanded side medium.radio n to
handed_first side medium result n from to handed some =
    handed_by side medium.radio medium.radio.number (controller side medium.radio).coming (controller side medium.radio).owed n from to refl refl refl
    (subst (λ r. IsHandedOver (next_packet side medium.radio) r from to) some handed)

-- ---- it is read

read_by : (p : Packet) (octets : List ℕ) (found : Leading) → IsPacket acl_limit p → octets ≡ spelling p → IsLeading acl_limit octets found → IsWholeOf p found
read_by p octets found is spelled leading = written_is_read acl_limit p [] found is (subst (λ xs. IsLeading acl_limit xs found) (spelled ∙ sym (append-nil (spelling p))) leading)

no_whole : (p : Packet) (found : Leading) → IsWholeOf p found → ((unit : Unit) (n : ℕ) → found ≡ Whole unit n → ⊥) → ⊥
no_whole p (Whole unit n) whole none = none unit n refl
no_whole p Partial whole none = whole
no_whole p (Refused refusal place) whole none = whole

pub reads_whole : (side : Side) (radio : Radio) (n : ℕ) (to octets : List ℕ) (found : Leading) → IsHanded side radio n to → octets ≡ take n to → IsLeading acl_limit octets found → ((unit : Unit) (k : ℕ) → found ≡ Whole unit k → ⊥) → ⊥
reads_whole side radio n to octets found handed are leading none =
    no_whole (coming_packet side handed.coming) found (read_by (coming_packet side handed.coming) octets found handed.is (are ∙ handed.front) leading) none

pub reads_same : (side : Side) (radio : Radio) (n : ℕ) (to octets : List ℕ) (unit : Unit) (k : ℕ) (handed : IsHanded side radio n to) → octets ≡ take n to → IsLeading acl_limit octets (Whole unit k)
    → packet unit ≡ coming_packet side handed.coming
reads_same side radio n to octets unit k handed are leading =
    (read_by (coming_packet side handed.coming) octets (Whole unit k) handed.is (are ∙ handed.front) leading).0

-- ---- the host reacts

abbrev pub tryings : List Effort → List Motion
tryings efforts = map Trying efforts

pub silent : (side : Side) (efforts : List Effort) → all_entries (happenings_of side (tryings efforts)) ≡ []
silent side [] = refl
silent side (effort ∷ efforts) = silent side efforts

pub tries : {S G : Type 0} (U : Upper S G) (side : Side) (efforts : List Effort) (medium : Medium) (old new : Station S) → MakesEfforts U side efforts old new
    → MakesAll U side (tryings efforts) (record { medium = medium; station = old }) (record { medium = medium; station = new })
tries {S} U side [] medium old new made = ap (λ (s : Station S). record { medium = medium; station = s }) made
tries U side (effort ∷ efforts) medium old new made =
    (record { medium = medium; station = made.0 }, (made.0, made.1, refl), tries U side efforts medium made.0 new made.2)

pub entering_entry : (side : Side) (coming : Coming) → all_entries (happenings_of side (Entering coming ∷ [])) ≡ Moved side Into (coming_packet side coming) ∷ []
entering_entry side (Part handle piece) = refl
entering_entry side (Told answer) = refl

pub entered : (side : Side) (coming : Coming) (efforts : List Effort) → all_entries (happenings_of side (Entering coming ∷ tryings efforts)) ≡ Moved side Into (coming_packet side coming) ∷ []
entered side (Part handle piece) efforts = ap (λ es. Moved side Into (coming_packet side (Part handle piece)) ∷ es) (silent side efforts)
entered side (Told answer) efforts = ap (λ es. Moved side Into (coming_packet side (Told answer)) ∷ es) (silent side efforts)

unfoldable pub goes_in :
    {S G P : Type 0} (U : Upper S G) (side : Side) (Answers : P → List G → P → Type 0) (coming : Coming) (p : Packet) (medium medium' : Medium) (host host' : Asking S G) (port port' : P) (trace trace' : Option (List ℕ))
    → ComesFirst side coming medium.radio → medium' ≡ in_radio (after_answer side medium.radio) medium → p ≡ coming_packet side coming
    → Reacts U side Answers (hears_coming U side coming) host host' port port' → trace' ≡ gained trace (entry_octets (Moved side Into p))
    → IsPacket acl_limit (coming_packet side coming) → Goes U side Answers medium medium' host host' port port' trace trace'
goes_in {S} {G} U side Answers coming p medium medium' host host' port port' trace trace' comes after same reaction written is = record {
  motions = Entering coming ∷ tryings reaction.efforts;
  used = reaction.used;
  answered = reaction.answered;
  makes = λ rest.
      let heard : Station S = hears_coming U side coming (reaction.used ++ rest) (answering (reaction.used ++ rest) host) in (
        record { medium = medium'; station = heard },
        (comes, reaction.used ++ rest, ap (λ (m : Medium). record { medium = m; station = heard }) after),
        tries U side reaction.efforts medium' heard (answering rest host') (reaction.reacts rest),
      );
  written = written ∙ ap (λ q. gained trace (entry_octets (Moved side Into q))) same
      ∙ ap (gained trace) (sym (append-nil (entry_octets (Moved side Into (coming_packet side coming)))))
      ∙ ap (λ es. gained trace (capture_octets es)) (sym (entered side coming reaction.efforts));
  each = each_of_same _ (Moved side Into (coming_packet side coming) ∷ []) (entered side coming reaction.efforts) (packet_is_entry side Into (coming_packet side coming) is, tt);
}

-- ---- less is left behind it

telling_keeps : (answer : Answer) (c : Controller) → ((after_telling answer c).coming ≡ c.coming) × ((after_telling answer c).owed ≡ c.owed)
telling_keeps (Returned opcode params) c = (refl, refl)
telling_keeps (Stated opcode) c = (refl, refl)
telling_keeps Called c = (refl, refl)
telling_keeps (LinkMade handle) c = (refl, refl)
telling_keeps (LinkGone handle reason) c = (refl, refl)
telling_keeps (GivenBack handle count) c = (refl, refl)

left_behind : (c : Controller) (pieces : List Piece) (owed : List Answer) → c.coming ≡ pieces → c.owed ≡ owed → 1 ≤ length pieces + length owed
    → length (after_first_of pieces owed c).coming + length (after_first_of pieces owed c).owed < length pieces + length owed
left_behind c (piece ∷ pieces) owed coming_are owed_are some = let same : length c.owed ≡ length owed = ap length owed_are in omega arith
left_behind c [] (answer ∷ owed) coming_are owed_are some =
    let keeps = telling_keeps answer (record c { owed = owed }) in
    let none : length (after_telling answer (record c { owed = owed })).coming ≡ 0 = ap length (keeps.0 ∙ coming_are) in
    let rest : length (after_telling answer (record c { owed = owed })).owed ≡ length owed = ap length keeps.1 in
    omega arith
left_behind c [] [] coming_are owed_are some = absurd (omega arith)

some_comes : (side : Side) (coming : Coming) (medium : Medium) → ComesFirst side coming medium.radio → 1 ≤ comes_count side medium
some_comes side (Part handle piece) medium comes = let count : length (controller side medium.radio).coming ≡ suc (length comes.0) = ap length comes.1 in omega arith
some_comes side (Told answer) medium comes = let count : length (controller side medium.radio).owed ≡ suc (length comes.0) = ap length comes.2 in omega arith

handing_at : (side : Side) (radio : Radio) → controller side (after_answer side radio) ≡ after_handing (controller side radio)
handing_at A radio = refl
handing_at B radio = refl

pub comes_less : (side : Side) (coming : Coming) (medium medium' : Medium) → ComesFirst side coming medium.radio → medium' ≡ in_radio (after_answer side medium.radio) medium → comes_count side medium' < comes_count side medium
comes_less side coming medium medium' comes after =
    let one = controller side medium.radio in
    let count : comes_count side medium' ≡ length (after_handing one).coming + length (after_handing one).owed =
    ap (comes_count side) after ∙ ap (λ (c : Controller). length c.coming + length c.owed) (handing_at side medium.radio) in
    let less = left_behind one one.coming one.owed refl refl (some_comes side coming medium comes) in
    omega (arith, count, less)
