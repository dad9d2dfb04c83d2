-- One host and its controller: what each thing that happens there without a word takes from their weight, or adds to it.
use Rattle.std.proofs.Common.{◌≡◌, ℕ, zero, suc, ◌+◌, ◌-◌, ◌*◌, ◌<◌, ◌≤◌, ◌==◌, ◌&&◌, ◌||◌, nat_lt, nat_le, min, Bool, true, false, List, [], ◌∷◌, ◌++◌, drop, length, Option, Some, None, is_none, if◌then◌else◌, refl, ap, length-append, arith}
use Rattle.std.proofs.lemmas.Bool.{ltb-true}
use Rattle.byteorder.specs.Endian.{little_number}
use Rattle.rest_laws.specs.hci_packets.specs.declared.acl.Boundary.{Boundary}
use Rattle.rest_laws.specs.hci_packets.specs.declared.acl.Boundary.TheVariants.{First, Continuing}
use Rattle.rest_laws.specs.acl_fragments.specs.Pieces.{Piece, starts}
use Rattle.rest_laws.specs.acl_fragments.specs.Cuts.{first_pieces, cut}
use Rattle.rest_laws.specs.acl_fragments.specs.Answers.{Answer as Joined, Pdu, More, Dropped, answer as joined_by}
use Rattle.rest_laws.specs.push_terms.specs.declared.word.Side.{Side}
use Rattle.rest_laws.specs.push_terms.specs.declared.word.Side.TheVariants.{A, B}
use Rattle.rest_laws.specs.radio_model.specs.Controllers.{Answer, Returned, Stated, Called, LinkMade, LinkGone, GivenBack, Controller, gives_back, after_giving_back, after_telling}
use Rattle.rest_laws.specs.radio_model.specs.Radio.{with_piece, after_taking}
use Rattle.rest_laws.specs.world_model.specs.Machines.{LinkEvent, Linked, Heard, Upper}
use Rattle.rest_laws.specs.world_model.specs.Stations.{Order, Page, Accept, End, Data, Station, Effort, Taking, Putting, Asking, Leaving, Commanding, MakesEffort, opcode, asks, longest_pdu, whole_in, gives, holds, hears_each, is_handle, answered, learns, may_accept, event_in, upper_told, hears_piece, hears_answer}
use Rattle.rest_laws.specs.turn_laws.specs.Premises.{SaysFrames}
use Rattle.rest_laws.specs.turn_laws.proofs.Wiring.{asking, count, count-append}
use Rattle.rest_laws.specs.turn_laws.proofs.Stationing.{none_asked}
use Rattle.rest_laws.specs.turn_laws.proofs.Hearing.{with_coming, with_owed}
use Rattle.rest_laws.proofs.Heights.{open_height, asks_height, Shape, IsPlain}
use Rattle.settling_laws.specs.Weights.{SaysAtMost, tiding_weight, piece_weight, answer_weight, owed_weight, side_weight}

-- ---- what a controller owes

owed_append : (most : ℕ) (one two : List Answer) → owed_weight most (one ++ two) ≡ owed_weight most one + owed_weight most two
owed_append most [] two = omega arith
owed_append most (answer ∷ one) two = let same = owed_append most one two in omega arith

pub owed_one : (most : ℕ) (owed : List Answer) (answer : Answer) → owed_weight most (owed ++ answer ∷ []) ≡ owed_weight most owed + answer_weight most answer
owed_one most owed answer = let all = owed_append most owed (answer ∷ []) in omega arith

-- one packet that is given back pays for the event
back_by : (most : ℕ) (some : Bool) (handle n : ℕ) (owed : List Answer) → nat_lt 0 n ≡ some → owed_weight most (owed ++ (if some then GivenBack handle n ∷ [] else [])) ≤ owed_weight most owed + 3 * n
back_by most true handle n owed is = let all = owed_one most owed (GivenBack handle n) in let low = ltb-true 0 n is in omega arith
back_by most false handle n owed is = let all = owed_append most owed [] in omega arith

pub back_few : (most : ℕ) (handle n : ℕ) (owed : List Answer) → owed_weight most (owed ++ gives_back handle n) ≤ owed_weight most owed + 3 * n
back_few most handle n owed = back_by most (nat_lt 0 n) handle n owed refl

-- ---- what a host asks for

same_asks : {S : Type 0} (side : Side) (old new : Station S) → count new.waiting + count new.out ≡ count old.waiting + count old.out → new.ending ≡ old.ending → asks_height side new ≡ asks_height side old
same_asks A old new counted ending = let alike : open_height new.ending ≡ open_height old.ending = ap open_height ending in omega arith
same_asks B old new counted ending = ap open_height ending

open_few : (ending : Bool) → open_height ending ≤ 1
open_few true = omega arith
open_few false = omega arith

few_asks : {S : Type 0} (side : Side) (old new : Station S) → count new.waiting + count new.out ≡ count old.waiting + count old.out → asks_height side new ≤ asks_height side old + 1
few_asks A old new counted = let few = open_few new.ending in omega arith
few_asks B old new counted = let few = open_few new.ending in omega arith

popped_asks : {S : Type 0} (side : Side) (old : Station S) (out : List Order) (n : ℕ) → count old.out ≡ n + count out → asks_height side (record old { out = out }) ≤ asks_height side old + n
popped_asks A old out n counted = omega arith
popped_asks B old out n counted = omega arith

ended_asks : {S : Type 0} (side : Side) (old : Station S) (order : Order) → old.ending ≡ false → asking order ≡ 0 → asks_height side (record old { waiting = old.waiting ++ order ∷ []; ending = true }) + 1 ≤ asks_height side old
ended_asks A old order unended plain =
    let counted = count-append old.waiting (order ∷ []) in
    let was : open_height old.ending ≡ 1 = ap open_height unended in
    omega arith
ended_asks B old order unended plain = let was : open_height old.ending ≡ 1 = ap open_height unended in omega arith

-- ---- a host by itself

pieces_few : (n size : ℕ) (boundary : Boundary) (octets : List ℕ) → length (first_pieces n size boundary octets) ≤ n
pieces_few zero size boundary octets = omega arith
pieces_few (suc n) size boundary [] = omega arith
pieces_few (suc n) size boundary (x ∷ xs) = let few = pieces_few n size Continuing (drop size (x ∷ xs)) in omega arith

pub effort_less : {S G : Type 0} (U : Upper S G) (side : Side) (most : ℕ) (effort : Effort) (one : Controller) (old new : Station S) → SaysFrames U → MakesEffort U side effort old new → (side ≡ A → old.asked ≡ false → count old.out ≡ 0)
    → side_weight U side most one new < side_weight U side most one old
effort_less U side most Taking one old new frames does free =
    let less = U.falls old.upper does.pdu does.after does.next in
    let frame = frames old.upper does.pdu does.after does.next in
    let short = frame.short in
    let few = pieces_few (length does.pdu) old.size First does.pdu in
    rw does.new_is
    (let asks = same_asks side old (record old { upper = does.after; pieces = cut old.size First does.pdu }) refl refl in
    omega arith)
effort_less U side most Putting one old new frames does free =
    let order : Order = Data does.handle does.piece in
    let counted = count-append old.out (order ∷ []) in
    let long = length-append old.out (order ∷ []) in
    let fewer : length old.pieces ≡ suc (length does.rest) = ap (λ (l : List Piece). length l) does.first in
    let asks = same_asks side old (record old { outstanding = old.outstanding + 1; pieces = does.rest; out = old.out ++ order ∷ [] }) (omega arith) refl in
    rw does.new_is (omega arith)
effort_less U A most Asking one old new frames does free =
    let none = none_asked old.waiting does.none_waits in
    let counted = count-append old.waiting (Page ∷ []) in
    let long = length-append old.waiting (Page ∷ []) in
    let nothing = free refl does.unasked in
    rw does.new_is (omega arith)
effort_less U B most Asking one old new frames does free = absurd does
effort_less U side most Leaving one old new frames does free =
    let order : Order = End does.handle in
    let long = length-append old.waiting (order ∷ []) in
    let asks = ended_asks side old order does.unended refl in
    rw does.new_is (omega arith)
effort_less U side most Commanding one old new frames does free =
    let order : Order = does.order in
    let counted = count-append old.out (order ∷ []) in
    let waited : count old.waiting ≡ asking order + count does.rest = ap count does.first in
    let long = length-append old.out (order ∷ []) in
    let fewer : length old.waiting ≡ suc (length does.rest) = ap (λ (l : List Order). length l) does.first in
    let same = same_asks side old (record old { waiting = does.rest; awaited = Some (opcode order); asked = old.asked || asks order; out = old.out ++ order ∷ [] }) (omega arith) refl in
    rw does.new_is (omega arith)

-- ---- an order moves

-- its controller may owe so much more for it
pub pops_few : {S G : Type 0} (U : Upper S G) (side : Side) (most k : ℕ) (one one' : Controller) (old : Station S) (order : Order) (out : List Order) → old.out ≡ order ∷ out → one'.coming ≡ one.coming
    → owed_weight most one'.owed + 3 * one'.taken ≤ k + (owed_weight most one.owed + 3 * one.taken)
    → side_weight U side most one' (record old { out = out }) + 6 ≤ side_weight U side most one old + (9 * asking order + k)
pops_few U side most k one one' old order out first same less =
    let counted : count old.out ≡ asking order + count out = ap count first in
    let fewer : length old.out ≡ suc (length out) = ap (λ (l : List Order). length l) first in
    let asks = popped_asks side old out (asking order) counted in
    let come : piece_weight most * length one'.coming ≡ piece_weight most * length one.coming = ap (λ (l : List Piece). piece_weight most * length l) same in
    omega arith

popped_less : (new old n : ℕ) → n ≡ 0 → new + 6 ≤ old + (9 * n + 4) → new < old
popped_less new old n none few = omega arith

pub pops_less : {S G : Type 0} (U : Upper S G) (side : Side) (most : ℕ) (one one' : Controller) (old : Station S) (order : Order) (out : List Order) → old.out ≡ order ∷ out → asking order ≡ 0 → one'.coming ≡ one.coming
    → owed_weight most one'.owed + 3 * one'.taken ≤ 4 + (owed_weight most one.owed + 3 * one.taken) → side_weight U side most one' (record old { out = out }) < side_weight U side most one old
pops_less U side most one one' old order out first plain same less =
    popped_less _ _ _ plain (pops_few U side most 4 one one' old order out first same less)

-- a packet of data
pub record Bears (most : ℕ) (one one' : Controller) : Type 0 where
  pub coming : one'.coming ≡ one.coming
  pub less : owed_weight most one'.owed + 3 * one'.taken ≤ 4 + (owed_weight most one.owed + 3 * one.taken)

bears_by : (most : ℕ) (one : Controller) (ours full : Bool) → Bears most one (if ours then (if full then record (after_giving_back one) { taken = 1 } else record one { taken = one.taken + 1 }) else one)
bears_by most one true true = let few = back_few most one.told one.taken one.owed in record { coming = refl; less = omega arith }
bears_by most one true false = record { coming = refl; less = omega arith }
bears_by most one false full = record { coming = refl; less = omega arith }

pub bears_data : (most : ℕ) (flies : Bool) (handle : ℕ) (piece : Option Piece) (one : Controller) → Bears most one (after_taking handle (with_piece flies piece one))
bears_data most flies handle None one = bears_by most one ((handle == one.told) && nat_le 1 one.told) (one.taken == 65535)
bears_data most flies handle (Some piece) one =
    let put : Controller = with_piece flies (Some piece) one in
    let is = bears_by most put ((handle == one.told) && nat_le 1 one.told) (one.taken == 65535) in
    record { coming = is.coming; less = is.less }

-- ---- an answer that tells of no link is heard

shape_if : {S : Type 0} (some : Bool) (old one two : Station S) → Shape old one → Shape old two → Shape old (if some then one else two)
shape_if true old one two first second = first
shape_if false old one two first second = second

shape_heard : {S G : Type 0} (U : Upper S G) (answers : List G) (side : Side) (most : ℕ) (answer : Answer) (rest : List Answer) (one : Controller) (old : Station S) → one.owed ≡ answer ∷ rest → answer_weight most answer ≡ 2
    → Shape old (hears_answer U answers side answer old) → (hears_answer U answers side answer old).upper ≡ old.upper
    → side_weight U side most (record one { owed = rest }) (hears_answer U answers side answer old) < side_weight U side most one old
shape_heard U answers side most answer rest one old first weighs shape upper =
    let new = hears_answer U answers side answer old in
    let paid : owed_weight most one.owed ≡ answer_weight most answer + owed_weight most rest = ap (owed_weight most) first in
    let one_is : length new.waiting ≡ length old.waiting = ap (λ (l : List Order). length l) shape.waiting in
    let two_is : length new.pieces ≡ length old.pieces = ap (λ (l : List Piece). length l) shape.pieces in
    let three_is : length new.out ≡ length old.out = ap (λ (l : List Order). length l) shape.out in
    let four_is : count new.waiting ≡ count old.waiting = ap count shape.waiting in
    let five_is : count new.out ≡ count old.out = ap count shape.out in
    let asks = same_asks side old new (omega arith) shape.ending in
    let says : U.left new.upper ≡ U.left old.upper = ap U.left upper in
    omega arith

accepts_less : {S G : Type 0} (U : Upper S G) (most : ℕ) (rest : List Answer) (one : Controller) (old : Station S) (may : Bool) → one.owed ≡ Called ∷ rest
    → side_weight U B most (record one { owed = rest }) (record (if may then record old { waiting = old.waiting ++ Accept ∷ [] } else old) { upper = old.upper }) < side_weight U B most one old
accepts_less U most rest one old true first =
    let paid : owed_weight most one.owed ≡ 10 + owed_weight most rest = ap (owed_weight most) first in
    let more = length-append old.waiting (Accept ∷ []) in
    omega arith
accepts_less U most rest one old false first = let paid : owed_weight most one.owed ≡ 10 + owed_weight most rest = ap (owed_weight most) first in omega arith

called_a : {S G : Type 0} (U : Upper S G) (most : ℕ) (rest : List Answer) (one : Controller) (old : Station S) → one.owed ≡ Called ∷ rest → side_weight U A most (record one { owed = rest }) old < side_weight U A most one old
called_a U most rest one old first = let paid : owed_weight most one.owed ≡ 10 + owed_weight most rest = ap (owed_weight most) first in omega arith

pub plain_heard : {S G : Type 0} (U : Upper S G) (answers : List G) (side : Side) (most : ℕ) (answer : Answer) (rest : List Answer) (one : Controller) (old : Station S) → IsPlain answer → one.owed ≡ answer ∷ rest
    → side_weight U side most (record one { owed = rest }) (hears_answer U answers side answer old) < side_weight U side most one old
plain_heard {S} U answers side most (Returned number params) rest one old plain first =
    let answered_now : Station S = record old { awaited = answered number old.awaited } in
    let learnt : Station S = record answered_now { size = min (little_number 2 (drop 1 params)) 1021; total = min (little_number 2 (drop 4 params)) 64 } in
    let inner = shape_if (is_none old.link && nat_le 27 (little_number 2 (drop 1 params))) old learnt answered_now (record { waiting = refl; pieces = refl; out = refl; ending = refl }) (record { waiting = refl; pieces = refl; out = refl; ending = refl }) in
    let all = shape_if (number == 0x1005) old (learns params answered_now) answered_now inner (record { waiting = refl; pieces = refl; out = refl; ending = refl }) in
    shape_heard U answers side most (Returned number params) rest one old first refl (record { waiting = all.waiting; pieces = all.pieces; out = all.out; ending = all.ending }) refl
plain_heard U answers side most (Stated number) rest one old plain first = shape_heard U answers side most (Stated number) rest one old first refl (record { waiting = refl; pieces = refl; out = refl; ending = refl }) refl
plain_heard U answers A most Called rest one old plain first = called_a U most rest one old first
plain_heard U answers B most Called rest one old plain first = accepts_less U most rest one old (may_accept B old) first
plain_heard {S} U answers side most (GivenBack handle n) rest one old plain first =
    let given : Station S = record old { outstanding = old.outstanding - n } in
    let all = shape_if (is_handle handle old.link && nat_le n old.outstanding) old given old (record { waiting = refl; pieces = refl; out = refl; ending = refl }) (record { waiting = refl; pieces = refl; out = refl; ending = refl }) in
    shape_heard U answers side most (GivenBack handle n) rest one old first refl (record { waiting = all.waiting; pieces = all.pieces; out = all.out; ending = all.ending }) refl
plain_heard U answers side most (LinkMade handle) rest one old plain first = absurd plain
plain_heard U answers side most (LinkGone handle reason) rest one old plain first = absurd plain

-- ---- a link is told of

pub record Loosens {S : Type 0} (old new : Station S) : Type 0 where
  pub waiting : new.waiting ≡ old.waiting
  pub out : new.out ≡ old.out
  pub pieces : length new.pieces ≤ length old.pieces

loosens_if : {S : Type 0} (some : Bool) (old one two : Station S) → Loosens old one → Loosens old two → Loosens old (if some then one else two)
loosens_if true old one two first second = first
loosens_if false old one two first second = second

same_loosely : {S : Type 0} (old : Station S) → Loosens old old
same_loosely old = record { waiting = refl; out = refl; pieces = omega arith }

told_few : {S G : Type 0} (U : Upper S G) (most : ℕ) (answers : List G) (event : Option LinkEvent) (s : S) → SaysAtMost most U → U.left (upper_told U answers event s) ≤ most + U.left s
told_few U most answers None s few = omega arith
told_few U most answers (Some event) s few = few answers (Linked event) s

loosens_heard : {S G : Type 0} (U : Upper S G) (side : Side) (most : ℕ) (rest : List Answer) (answer : Answer) (one one' : Controller) (old new : Station S) → one.owed ≡ answer ∷ rest → answer_weight most answer ≡ tiding_weight most
    → one'.owed ≡ rest → one'.coming ≡ one.coming → one'.taken ≤ one.taken → Loosens old new → U.left new.upper ≤ most + U.left old.upper
    → side_weight U side most one' new < side_weight U side most one old
loosens_heard U side most rest answer one one' old new first weighs owed coming taken loose few =
    let paid : owed_weight most one.owed ≡ answer_weight most answer + owed_weight most rest = ap (owed_weight most) first in
    let still : owed_weight most one'.owed ≡ owed_weight most rest = ap (owed_weight most) owed in
    let come : piece_weight most * length one'.coming ≡ piece_weight most * length one.coming = ap (λ (l : List Piece). piece_weight most * length l) coming in
    let one_is : length new.waiting ≡ length old.waiting = ap (λ (l : List Order). length l) loose.waiting in
    let two_is = loose.pieces in
    let three_is : length new.out ≡ length old.out = ap (λ (l : List Order). length l) loose.out in
    let four_is : count new.waiting ≡ count old.waiting = ap count loose.waiting in
    let five_is : count new.out ≡ count old.out = ap count loose.out in
    let asks = few_asks side old new (omega arith) in
    omega arith

pub made_heard : {S G : Type 0} (U : Upper S G) (answers : List G) (side : Side) (most handle : ℕ) (rest : List Answer) (one : Controller) (old : Station S) → SaysAtMost most U → one.owed ≡ LinkMade handle ∷ rest
    → side_weight U side most (after_telling (LinkMade handle) (with_owed rest one)) (hears_answer U answers side (LinkMade handle) old) < side_weight U side most one old
made_heard {S} U answers side most handle rest one old few first =
    let up : Station S = record old { asked = false; link = Some handle; ending = false; joining = [] } in
    let down : Station S = record old { asked = false } in
    let inner = loosens_if (is_none old.link) old up down (record { waiting = refl; out = refl; pieces = omega arith }) (record { waiting = refl; out = refl; pieces = omega arith }) in
    let all = loosens_if old.asked old (if is_none old.link then up else down) old inner (same_loosely old) in
    loosens_heard U side most rest (LinkMade handle) one (after_telling (LinkMade handle) (with_owed rest one)) old (hears_answer U answers side (LinkMade handle) old) first refl refl refl (omega arith)
    (record { waiting = all.waiting; out = all.out; pieces = all.pieces }) (told_few U most answers (event_in (LinkMade handle) old) old.upper few)

pub gone_heard : {S G : Type 0} (U : Upper S G) (answers : List G) (side : Side) (most handle reason : ℕ) (rest : List Answer) (one : Controller) (old : Station S) → SaysAtMost most U → one.owed ≡ LinkGone handle reason ∷ rest
    → side_weight U side most (after_telling (LinkGone handle reason) (with_owed rest one)) (hears_answer U answers side (LinkGone handle reason) old) < side_weight U side most one old
gone_heard {S} U answers side most handle reason rest one old few first =
    let off : Station S = record old { outstanding = 0; link = None; ending = false; joining = []; pieces = [] } in
    let all = loosens_if (is_handle handle old.link) old off old (record { waiting = refl; out = refl; pieces = omega arith }) (same_loosely old) in
    loosens_heard U side most rest (LinkGone handle reason) one (after_telling (LinkGone handle reason) (with_owed rest one)) old (hears_answer U answers side (LinkGone handle reason) old) first refl refl refl (omega arith)
    (record { waiting = all.waiting; out = all.out; pieces = all.pieces }) (told_few U most answers (event_in (LinkGone handle reason) old) old.upper few)

-- ---- a piece is heard

whole_few : {S G : Type 0} (U : Upper S G) (most : ℕ) (answers : List G) (joined : Joined) (s : S) → SaysAtMost most U → U.left (hears_each U answers (whole_in joined) s) ≤ most + U.left s
whole_few U most answers (Pdu channel octets) s few = few answers (Heard octets) s
whole_few U most answers More s few = omega arith
whole_few U most answers (Dropped reason) s few = omega arith

piece_by : {S G : Type 0} (U : Upper S G) (side : Side) (most : ℕ) (rest : List Piece) (piece : Piece) (one : Controller) (old : Station S) (ours : Bool) (s : S) (joining : List ℕ) → one.coming ≡ piece ∷ rest → U.left s ≤ most + U.left old.upper
    → side_weight U side most (with_coming rest one) (if ours then record old { upper = s; joining = joining } else old) < side_weight U side most one old
piece_by {S} U side most rest piece one old true s joining first few =
    let new : Station S = record old { upper = s; joining = joining } in
    let asks = same_asks side old new refl refl in
    let long : length one.coming ≡ suc (length rest) = ap (λ (l : List Piece). length l) first in
    let paid : piece_weight most * length one.coming ≡ piece_weight most * suc (length rest) = ap (λ (n : ℕ). piece_weight most * n) long in
    omega arith
piece_by U side most rest piece one old false s joining first few =
    let long : length one.coming ≡ suc (length rest) = ap (λ (l : List Piece). length l) first in
    let paid : piece_weight most * length one.coming ≡ piece_weight most * suc (length rest) = ap (λ (n : ℕ). piece_weight most * n) long in
    omega arith

pub piece_heard : {S G : Type 0} (U : Upper S G) (answers : List G) (side : Side) (most handle : ℕ) (rest : List Piece) (piece : Piece) (one : Controller) (old : Station S) → SaysAtMost most U → one.coming ≡ piece ∷ rest
    → side_weight U side most (with_coming rest one) (hears_piece U answers handle piece old) < side_weight U side most one old
piece_heard U answers side most handle rest piece one old few first =
    piece_by U side most rest piece one old (is_handle handle old.link) (hears_each U answers (gives longest_pdu old.joining piece) old.upper) (holds longest_pdu old.joining piece) first
    (whole_few U most answers (joined_by longest_pdu old.joining (starts piece.boundary) piece.octets) old.upper few)
