-- What happens in the world adds to the links of each host what the capture has of it.
use Rattle.std.proofs.Common.{◌≡◌, ℕ, ◌+◌, ◌-◌, ◌≤◌, ◌==◌, ◌&&◌, ◌||◌, nat_le, min, Bool, true, false, List, [], ◌∷◌, ◌++◌, drop, Option, Some, None, is_none, if◌then◌else◌, refl, sym, ap, ◌∙◌, arith, subst}
use Rattle.std.proofs.lemmas.Bool.{eq-eqb}
use Rattle.byteorder.specs.Endian.{little_number}
use Rattle.world_model.specs.hci_packets.specs.Events.{event_refusal, event_params}
use Rattle.world_model.specs.acl_fragments.specs.Pieces.{Piece}
use Rattle.world_model.specs.push_terms.specs.declared.word.Side.{Side}
use Rattle.world_model.specs.push_terms.specs.declared.word.Side.TheVariants.{A, B}
use Rattle.world_model.specs.capture.specs.declared.flow.Flow.TheVariants.{Into}
use Rattle.world_model.specs.capture.specs.Links.{Linking, Asked, NoNews, link_news, after_move}
use Rattle.world_model.specs.capture.specs.Pdus.{piece_of}
use Rattle.world_model.specs.radio_model.specs.Controllers.{Answer, Returned, Stated, Called, LinkMade, LinkGone, GivenBack, Controller, event_of, answer_packet, piece_packet, after_telling}
use Rattle.world_model.specs.radio_model.specs.Radio.{Radio, Paging, Requested, is_requested, is_reached, after_reaching, may_page, joined, parted, knows_link, owes, scanning, frame_limit, with_piece, after_taking}
use Rattle.world_model.specs.Machines.{Upper}
use Rattle.world_model.specs.PerLink.{Linkage, with_moved, link_begins, link_ends}
use Rattle.world_model.specs.Stations.{Order, Reset, ReadBuffers, ReadAddress, Scan, Page, Accept, End, Data, order_packet, asks, Station, Effort, Taking, Putting, Asking, Leaving, Commanding, MakesEffort, longest_pdu, gives, holds, is_handle, hears_piece, answered, learns, may_accept, hears_answer, told}
use Rattle.world_model.specs.Worlds.{piece_on, after_order}
use Rattle.turn_laws.proofs.Linkages.{order_by, answer_by}
use Rattle.turn_laws.proofs.Leading.{Tiding, Came, Went, tidings, made, Led, led_low}
use Rattle.turn_laws.proofs.Wiring.{asking, count, count-append}
use Rattle.turn_laws.proofs.Stationing.{linked_handle, Steady}
use Rattle.turn_laws.proofs.Departing.{takes_packet}
use Rattle.turn_laws.proofs.Hearing.{with_coming, with_owed, listening, handle_is}
use Rattle.turn_laws.proofs.Answering.{made_by, gone_by}
use Rattle.turn_laws.proofs.Coming.{owed_first}
use Rattle.turn_laws.proofs.Showing.{out_of, into, no-news}
use Rattle.turn_laws.proofs.Capturing.{view, ShownAt, alike_shown, aside_shown, asked_shown, data_shown, piece_shown, made_shown, gone_shown}

-- ---- a host goes on by itself

order_unasked : (asked : Bool) → ◌≡◌ {A = ℕ} (if asked then 1 else 0) 0 → asked ≡ false
order_unasked true none = absurd (omega arith)
order_unasked false none = refl

or_left : (a b : Bool) → b ≡ false → (a || b) ≡ true → a ≡ true
or_left true b off is = refl
or_left false b off is = cc

pub effort_shown : {S G : Type 0} (U : Upper S G) (side : Side) (effort : Effort) (one : Controller) (old new : Station S) (known : Linking) (l : Linkage) → MakesEffort U side effort old new → ShownAt (view one old) known l → ShownAt (view one new) known l
effort_shown U side Taking one old new known l does shown = rw does.new_is (alike_shown (view one old) _ known l (record { asks = λ yes none. (yes, none); up_is = refl; told_is = refl; begun_is = refl; joining_is = refl }) shown)
effort_shown U side Putting one old new known l does shown =
    let counted = count-append old.out (Data does.handle does.piece ∷ []) in
    rw does.new_is (alike_shown (view one old) _ known l (record { asks = λ yes none. (yes, omega arith); up_is = refl; told_is = refl; begun_is = refl; joining_is = refl }) shown)
effort_shown U A Asking one old new known l does shown = rw does.new_is (alike_shown (view one old) _ known l (record { asks = λ yes none. (yes, none); up_is = refl; told_is = refl; begun_is = refl; joining_is = refl }) shown)
effort_shown U B Asking one old new known l does shown = absurd does
effort_shown U side Leaving one old new known l does shown = rw does.new_is (alike_shown (view one old) _ known l (record { asks = λ yes none. (yes, none); up_is = refl; told_is = refl; begun_is = refl; joining_is = refl }) shown)
effort_shown U side Commanding one old new known l does shown =
    let counted = count-append old.out (does.order ∷ []) in
    rw does.new_is (alike_shown (view one old) _ known l (record {
      asks = λ yes none. (or_left old.asked (asks does.order) (order_unasked (asks does.order) (omega arith)) yes, omega arith);
      up_is = refl;
      told_is = refl;
      begun_is = refl;
      joining_is = refl;
    }) shown)

-- ---- controllers that know no more

pub record Stays (one one' : Controller) : Type 0 where
  pub up_is : one'.up ≡ one.up
  pub told_is : one'.told ≡ one.told
  pub begun_is : one'.begun ≡ one.begun

stays_same : (one : Controller) → Stays one one
stays_same one = record { up_is = refl; told_is = refl; begun_is = refl }

pub stays_shown : {S : Type 0} (one one' : Controller) (station : Station S) (known : Linking) (l : Linkage) → Stays one one' → ShownAt (view one station) known l → ShownAt (view one' station) known l
stays_shown one one' station known l stays shown =
    alike_shown (view one station) (view one' station) known l (record { asks = λ yes none. (yes, none); up_is = stays.up_is; told_is = stays.told_is; begun_is = stays.begun_is; joining_is = refl }) shown

pub record BothStay (radio radio' : Radio) : Type 0 where
  pub a : Stays radio.a radio'.a
  pub b : Stays radio.b radio'.b

reach_by : (radio to : Radio) (some : Bool) → BothStay radio to → BothStay radio (if some then to else radio)
reach_by radio to true stay = stay
reach_by radio to false stay = record { a = stays_same radio.a; b = stays_same radio.b }

plain_stay : (a b : Controller) (radio radio' : Radio) → Stays radio.a radio'.a → Stays radio.b radio'.b → BothStay radio radio'
plain_stay a b radio radio' one other = record { a = one; b = other }

refl_stays : (one one' : Controller) → one'.up ≡ one.up → one'.told ≡ one.told → one'.begun ≡ one.begun → Stays one one'
refl_stays one one' up told begun = record { up_is = up; told_is = told; begun_is = begun }

both_refl : (radio radio' : Radio) → radio'.a.up ≡ radio.a.up → radio'.a.told ≡ radio.a.told → radio'.a.begun ≡ radio.a.begun → radio'.b.up ≡ radio.b.up → radio'.b.told ≡ radio.b.told → radio'.b.begun ≡ radio.b.begun → BothStay radio radio'
both_refl radio radio' e f g h i j = record { a = refl_stays radio.a radio'.a e f g; b = refl_stays radio.b radio'.b h i j }

then_stay : (one two three : Radio) → BothStay one two → BothStay two three → BothStay one three
then_stay one two three x y = record {
  a = record { up_is = y.a.up_is ∙ x.a.up_is; told_is = y.a.told_is ∙ x.a.told_is; begun_is = y.a.begun_is ∙ x.a.begun_is };
  b = record { up_is = y.b.up_is ∙ x.b.up_is; told_is = y.b.told_is ∙ x.b.told_is; begun_is = y.b.begun_is ∙ x.b.begun_is };
}

if_stay : (radio one two : Radio) (some : Bool) → BothStay radio one → BothStay radio two → BothStay radio (if some then one else two)
if_stay radio one two true x y = x
if_stay radio one two false x y = y

reaches_stay : (radio : Radio) → BothStay radio (after_reaching radio)
reaches_stay radio =
    let to : Radio = record radio { b = record radio.b { owed = radio.b.owed ++ Called ∷ [] }; phase = Requested } in
    reach_by radio to (is_reached radio) (both_refl radio to refl refl refl refl refl refl)

abbrev pub NoData : Order → Type 0
NoData (Data handle piece) = ⊥
NoData order = Unit {0}

pub order_stays : (side : Side) (order : Order) (radio : Radio) → NoData order → BothStay radio (after_order side order radio)
order_stays A Reset radio plain = both_refl radio (after_order A Reset radio) refl refl refl refl refl refl
order_stays B Reset radio plain = both_refl radio (after_order B Reset radio) refl refl refl refl refl refl
order_stays A ReadBuffers radio plain = both_refl radio (after_order A ReadBuffers radio) refl refl refl refl refl refl
order_stays B ReadBuffers radio plain = both_refl radio (after_order B ReadBuffers radio) refl refl refl refl refl refl
order_stays A ReadAddress radio plain = both_refl radio (after_order A ReadAddress radio) refl refl refl refl refl refl
order_stays B ReadAddress radio plain = both_refl radio (after_order B ReadAddress radio) refl refl refl refl refl refl
order_stays A Scan radio plain =
    let one : Radio = owes A (Returned 0x0C1A (0 ∷ []) ∷ []) (scanning A 0x03 radio) in
    then_stay radio one (after_reaching one) (both_refl radio one refl refl refl refl refl refl) (reaches_stay one)
order_stays B Scan radio plain =
    let one : Radio = owes B (Returned 0x0C1A (0 ∷ []) ∷ []) (scanning B 0x03 radio) in
    then_stay radio one (after_reaching one) (both_refl radio one refl refl refl refl refl refl) (reaches_stay one)
order_stays A Page radio plain =
    let one : Radio = owes A (Stated 0x0405 ∷ []) radio in
    let paging : Radio = record one { phase = Paging } in
    if_stay radio (after_reaching paging) one (may_page one) (then_stay radio paging (after_reaching paging) (both_refl radio paging refl refl refl refl refl refl) (reaches_stay paging)) (both_refl radio one refl refl refl refl refl refl)
order_stays B Page radio plain = both_refl radio (after_order B Page radio) refl refl refl refl refl refl
order_stays A Accept radio plain = both_refl radio (after_order A Accept radio) refl refl refl refl refl refl
order_stays B Accept radio plain =
    let one : Radio = owes B (Stated 0x0409 ∷ []) radio in
    if_stay radio (joined one) one (is_requested radio.phase) (both_refl radio (joined one) refl refl refl refl refl refl) (both_refl radio one refl refl refl refl refl refl)
order_stays A (End handle) radio plain =
    let one : Radio = owes A (Stated 0x0406 ∷ []) radio in
    if_stay radio (parted 0x16 0x13 one) one (knows_link A radio && (handle == radio.number)) (both_refl radio (parted 0x16 0x13 one) refl refl refl refl refl refl) (both_refl radio one refl refl refl refl refl refl)
order_stays B (End handle) radio plain =
    let one : Radio = owes B (Stated 0x0406 ∷ []) radio in
    if_stay radio (parted 0x13 0x16 one) one (knows_link B radio && (handle == radio.number)) (both_refl radio (parted 0x13 0x16 one) refl refl refl refl refl refl) (both_refl radio one refl refl refl refl refl refl)
order_stays A (Data handle piece) radio plain = absurd plain
order_stays B (Data handle piece) radio plain = absurd plain

-- ---- orders

order_plain : {S : Type 0} (side : Side) (order : Order) (one one' : Controller) (old : Station S) (rest : List Order) (known : Linking) (l : Linkage) → old.out ≡ order ∷ rest → asks order ≡ false → link_news (out_of (order_packet side order)) ≡ NoNews
    → piece_of one.told (order_packet side order) ≡ None → Stays one one' → ShownAt (view one old) known l → ShownAt (view one' (record old { out = rest })) (after_move known (out_of (order_packet side order))) l
order_plain side order one one' old rest known l first unasked news none stays shown =
    let counted : count old.out ≡ asking order + count rest = ap (λ (x : List Order). count x) first in
    let zero_is : asking order ≡ 0 = ap (λ (b : Bool). let n : ℕ = if b then 1 else 0 in n) unasked in
    aside_shown (view one old) (view one' (record old { out = rest })) known l (out_of (order_packet side order)) news none
    (record { asks = λ yes empty. (yes, omega arith); up_is = stays.up_is; told_is = stays.told_is; begun_is = stays.begun_is; joining_is = refl }) shown

order_asks : {S : Type 0} (side : Side) (order : Order) (one one' : Controller) (old : Station S) (rest : List Order) (known : Linking) (l : Linkage) → link_news (out_of (order_packet side order)) ≡ Asked → piece_of one.told (order_packet side order) ≡ None
    → Stays one one' → ShownAt (view one old) known l → ShownAt (view one' (record old { out = rest })) (after_move known (out_of (order_packet side order))) l
order_asks side order one one' old rest known l news none stays shown =
    asked_shown (view one old) (view one' (record old { out = rest })) known l (out_of (order_packet side order)) news none stays.up_is stays.told_is stays.begun_is refl shown

-- the order of one host, whatever it is
pub order_shown : {S : Type 0} (side : Side) (order : Order) (one one' : Controller) (old : Station S) (rest : List Order) (known : Linking) (l : Linkage) → NoData order → old.out ≡ order ∷ rest → Stays one one'
    → ShownAt (view one old) known l → ShownAt (view one' (record old { out = rest })) (after_move known (out_of (order_packet side order))) (order_by order one l)
order_shown side Reset one one' old rest known l plain first stays shown = order_plain side Reset one one' old rest known l first refl refl refl stays shown
order_shown side ReadBuffers one one' old rest known l plain first stays shown = order_plain side ReadBuffers one one' old rest known l first refl refl refl stays shown
order_shown side ReadAddress one one' old rest known l plain first stays shown = order_plain side ReadAddress one one' old rest known l first refl refl refl stays shown
order_shown side Scan one one' old rest known l plain first stays shown = order_plain side Scan one one' old rest known l first refl refl refl stays shown
order_shown A Page one one' old rest known l plain first stays shown = order_asks A Page one one' old rest known l refl refl stays shown
order_shown B Page one one' old rest known l plain first stays shown = order_asks B Page one one' old rest known l refl refl stays shown
order_shown A Accept one one' old rest known l plain first stays shown = order_asks A Accept one one' old rest known l refl refl stays shown
order_shown B Accept one one' old rest known l plain first stays shown = order_asks B Accept one one' old rest known l refl refl stays shown
order_shown side (End handle) one one' old rest known l plain first stays shown = order_plain side (End handle) one one' old rest known l first refl refl refl stays shown
order_shown side (Data handle piece) one one' old rest known l plain first stays shown = absurd plain

begun_by : (flies ours : Bool) (one : Controller) (piece : Piece) → (with_piece flies (if ours then Some piece else None) one).begun ≡ (if ours then holds frame_limit one.begun piece else one.begun)
begun_by flies true one piece = refl
begun_by flies false one piece = refl

kept_by : {X : Type 0} (f : Controller → X) (flies ours : Bool) (one : Controller) (piece : Piece) → ((begun : List ℕ) (waiting : List (List ℕ)) → f (record one { begun = begun; waiting = waiting }) ≡ f one) → f (with_piece flies (if ours then Some piece else None) one) ≡ f one
kept_by f flies true one piece same = same _ _
kept_by f flies false one piece same = refl

pub data_moves : {S : Type 0} (flies : Bool) (one : Controller) (old : Station S) (handle : ℕ) (piece : Piece) (rest : List Order) (known : Linking) (l : Linkage) → handle ≤ 0x0EFF → old.out ≡ Data handle piece ∷ rest
    → ShownAt (view one old) known l
    → ShownAt (view (after_taking handle (with_piece flies (piece_on one handle piece) one)) (record old { out = rest })) (after_move known (out_of (order_packet A (Data handle piece)))) (order_by (Data handle piece) one l)
data_moves flies one old handle piece rest known l low first shown =
    let ours = one.up && (handle == one.told) in
    let with : Controller = with_piece flies (piece_on one handle piece) one in
    let took = takes_packet handle with in
    let counted : count old.out ≡ 0 + count rest = ap (λ (x : List Order). count x) first in
    data_shown (view one old) (view (after_taking handle with) (record old { out = rest })) known l handle piece (one.up && (handle == one.told)) low refl refl (omega arith)
    (ap (λ (c : Controller). c.up) took.is ∙ kept_by (λ c. c.up) flies ours one piece (λ begun waiting. refl)) (ap (λ (c : Controller). c.told) took.is ∙ kept_by (λ c. c.told) flies ours one piece (λ begun waiting. refl))
    (ap (λ (c : Controller). c.begun) took.is ∙ begun_by flies ours one piece) refl shown

-- ---- what comes in

field_if : {S X : Type 0} (f : Station S → X) (some : Bool) (one two : Station S) → f two ≡ f one → f (if some then two else one) ≡ f one
field_if f true one two same = same
field_if f false one two same = refl

pub piece_comes : {S G : Type 0} (U : Upper S G) (number : ℕ) (together : Bool) (extra : ℕ) (one : Controller) (old : Station S) (answers : List G) (handle : ℕ) (piece : Piece) (rest : List Piece) (known : Linking) (l : Linkage)
    → number ≤ 0x0EFF → handle ≡ number → one.coming ≡ piece ∷ rest → Steady U number together extra one old → ShownAt (view one old) known l
    → ShownAt (view (with_coming rest one) (hears_piece U answers handle piece old)) (after_move known (into (piece_packet handle piece))) (with_moved Into (gives longest_pdu old.joining piece) l)
piece_comes U number together extra one old answers handle piece rest known l low here first steady shown =
    let listens = listening U one.up one.told number old.upper old.pieces one.coming piece rest first steady.incoming.listens in
    let mine : is_handle handle old.link ≡ true = handle_is one.up one.told handle old.link listens.on (listens.here ∙ sym here) steady.link in
    let low_handle : handle ≤ 0x0EFF = omega arith in
    rw mine (piece_shown (view one old) _ known l handle piece low_handle listens.on (here ∙ sym listens.here) refl refl refl refl refl refl shown)

answer_plain : {S : Type 0} (side : Side) (answer : Answer) (one one' : Controller) (old new : Station S) (known : Linking) (l : Linkage) → link_news (into (answer_packet side answer)) ≡ NoNews → piece_of one.told (answer_packet side answer) ≡ None
    → one'.up ≡ one.up → one'.told ≡ one.told → one'.begun ≡ one.begun → new.asked ≡ old.asked → new.out ≡ old.out → new.joining ≡ old.joining → ShownAt (view one old) known l
    → ShownAt (view one' new) (after_move known (into (answer_packet side answer))) l
answer_plain side answer one one' old new known l news none up told begun asked out joining shown =
    let same = ap count out in
    aside_shown (view one old) (view one' new) known l (into (answer_packet side answer)) news none
    (record { asks = λ yes empty. (sym asked ∙ yes, omega arith); up_is = up; told_is = told; begun_is = begun; joining_is = joining }) shown

buffers_if : {S X : Type 0} (f : Station S → X) (buffers : Bool) (params : List ℕ) (station : Station S) → ((size total : ℕ) → f (record station { size = size; total = total }) ≡ f station) → f (if buffers then learns params station else station) ≡ f station
buffers_if f true params station same = field_if f (is_none station.link && nat_le 27 (little_number 2 (drop 1 params))) station (record station { size = min (little_number 2 (drop 1 params)) 1021; total = min (little_number 2 (drop 4 params)) 64 }) (same _ _)
buffers_if f false params station same = refl

pub answer_comes : {S G : Type 0} (U : Upper S G) (side : Side) (number : ℕ) (together : Bool) (extra : ℕ) (one : Controller) (old : Station S) (answers : List G) (answer : Answer) (rest : List Answer) (known : Linking) (l : Linkage)
    → number ≤ 0x0EFF → one.owed ≡ answer ∷ rest → Steady U number together extra one old → ShownAt (view one old) known l
    → ShownAt (view (after_telling answer (with_owed rest one)) (hears_answer U answers side answer old)) (after_move known (into (answer_packet side answer))) (answer_by answer l)
answer_comes U side number together extra one old answers (Returned opcode params) rest known l low first steady shown =
    let next = record old { awaited = answered opcode old.awaited } in
    answer_plain side (Returned opcode params) one (with_owed rest one) old (hears_answer U answers side (Returned opcode params) old) known l (no-news (is_none (event_refusal 0x0E (event_params (event_of side (Returned opcode params)))))) refl refl refl refl
    (buffers_if (λ s. s.asked) (opcode == 0x1005) params next (λ size total. refl)) (buffers_if (λ s. s.out) (opcode == 0x1005) params next (λ size total. refl)) (buffers_if (λ s. s.joining) (opcode == 0x1005) params next (λ size total. refl)) shown
answer_comes U side number together extra one old answers (Stated opcode) rest known l low first steady shown =
    answer_plain side (Stated opcode) one (with_owed rest one) old (hears_answer U answers side (Stated opcode) old) known l (no-news (is_none (event_refusal 0x0F (event_params (event_of side (Stated opcode)))))) refl refl refl refl refl refl refl shown
answer_comes U side number together extra one old answers Called rest known l low first steady shown =
    let next = record old { waiting = old.waiting ++ Accept ∷ [] } in
    answer_plain side Called one (with_owed rest one) old (hears_answer U answers side Called old) known l (no-news (is_none (event_refusal 0x04 (event_params (event_of side Called))))) refl refl refl refl
    (field_if (λ s. s.asked) (may_accept side old) old next refl) (field_if (λ s. s.out) (may_accept side old) old next refl) (field_if (λ s. s.joining) (may_accept side old) old next refl) shown
answer_comes U side number together extra one old answers (GivenBack handle n) rest known l low first steady shown =
    let next = record old { outstanding = old.outstanding - n } in
    answer_plain side (GivenBack handle n) one (with_owed rest one) old (hears_answer U answers side (GivenBack handle n) old) known l (no-news (is_none (event_refusal 0x13 (event_params (event_of side (GivenBack handle n)))))) refl refl refl refl
    (field_if (λ s. s.asked) (is_handle handle old.link && nat_le n old.outstanding) old next refl) (field_if (λ s. s.out) (is_handle handle old.link && nat_le n old.outstanding) old next refl)
    (field_if (λ s. s.joining) (is_handle handle old.link && nat_le n old.outstanding) old next refl) shown
answer_comes {S} U side number together extra one old answers (LinkMade handle) rest known l low first steady shown =
    let owed = owed_first one.owed rest (LinkMade handle) (Came handle) first refl in
    let led : Led one.told one.up (Came handle ∷ tidings rest) number together = subst (λ (x : List Tiding). Led one.told one.up x number together) owed steady.led in
    let counted : made (tidings one.owed) ≡ 1 + made (tidings rest) = ap made owed in
    let few = steady.awaits.few in
    let asked = steady.awaits.awaited (omega arith) in
    let off : old.link ≡ None = steady.link ∙ ap (λ (b : Bool). linked_handle b one.told) led.0 in
    let most = led_low handle true (tidings rest) number together led.2 in
    subst (λ (station : Station S). ShownAt (view (after_telling (LinkMade handle) (with_owed rest one)) station) (after_move known (into (answer_packet side (LinkMade handle)))) (link_begins l)) (made_by U answers side handle old asked off)
    (made_shown side (view one old) _ known l handle (omega arith) led.0 asked (omega arith) refl refl refl refl refl shown)
answer_comes {S} U side number together extra one old answers (LinkGone handle reason) rest known l low first steady shown =
    let owed = owed_first one.owed rest (LinkGone handle reason) (Went handle reason) first refl in
    let led : Led one.told one.up (Went handle reason ∷ tidings rest) number together = subst (λ (x : List Tiding). Led one.told one.up x number together) owed steady.led in
    let link : old.link ≡ Some one.told = steady.link ∙ ap (λ (b : Bool). linked_handle b one.told) led.0 in
    let here : is_handle handle old.link ≡ true = ap (λ (x : Option ℕ). is_handle handle x) link ∙ eq-eqb one.told handle (sym led.1) in
    let most = led_low one.told false (tidings rest) number together led.2 in
    let same = led.1 in
    subst (λ (station : Station S). ShownAt (view (after_telling (LinkGone handle reason) (with_owed rest one)) station) (after_move known (into (answer_packet side (LinkGone handle reason)))) (link_ends l)) (gone_by U answers side handle reason old here)
    (gone_shown side (view one old) _ known l handle reason (omega arith) led.0 led.1 refl refl refl shown)
