-- What falls with each thing that happens without a word.
use Rattle.std.proofs.Common.{◌≡◌, ℕ, suc, ◌+◌, ◌-◌, ◌*◌, ◌<◌, ◌≤◌, ◌==◌, ◌&&◌, nat_lt, nat_le, min, Bool, true, false, List, [], ◌∷◌, ◌++◌, drop, length, Option, Some, None, is_none, if◌then◌else◌, inl, inr, refl, ap, length-append, arith}
use Rattle.byteorder.specs.Endian.{little_number}
use Rattle.station_laws.specs.acl_fragments.specs.Pieces.{Piece}
use Rattle.station_laws.specs.push_terms.specs.declared.word.Side.{Side}
use Rattle.station_laws.specs.push_terms.specs.declared.word.Side.TheVariants.{A, B}
use Rattle.station_laws.specs.radio_model.specs.Controllers.{Answer, Returned, Stated, Called, LinkMade, LinkGone, GivenBack, Controller, after_giving_back}
use Rattle.station_laws.specs.radio_model.specs.Radio.{Radio, Phase, Apart, Paging, Requested, Together, with_piece, after_taking}
use Rattle.station_laws.specs.world_model.specs.Machines.{Upper}
use Rattle.station_laws.specs.world_model.specs.Pushes.{Pushes}
use Rattle.station_laws.specs.world_model.specs.Stations.{Order, Page, Accept, End, Data, Station, Effort, Taking, Putting, Asking, Leaving, Commanding, MakesEffort, is_handle, answered, learns, may_accept, hears_answer}
use Rattle.station_laws.specs.world_model.specs.Worlds.{World}
use Rattle.station_laws.specs.turn_laws.proofs.Leading.{tidings}
use Rattle.station_laws.specs.turn_laws.proofs.Wiring.{asking, count, count-append}
use Rattle.station_laws.specs.turn_laws.proofs.Stationing.{none_asked}
use Rattle.station_laws.specs.turn_laws.proofs.Departing.{gives_back_tidings}
use Rattle.rest_laws.proofs.Falling.{IsBelow}
use Rattle.rest_laws.proofs.Calling.{called_by, called, called_same, called_back}

-- ---- the pushes, and the life of their links

abbrev pub going_height : Bool → ℕ
going_height true = 1
going_height false = 0

abbrev pub pushes_height : Pushes → ℕ
pushes_height pushes = 2 * (length pushes.names - pushes.begun) + going_height pushes.going

abbrev pub phase_height : Phase → ℕ
phase_height Together = 4
phase_height Apart = 3
phase_height Paging = 2
phase_height Requested = 1

abbrev pub links_height : Radio → Pushes → ℕ
links_height radio pushes = 5 * (pushes.begun - radio.number) + phase_height radio.phase

-- ---- one host and its controller

abbrev pub open_height : Bool → ℕ
open_height true = 0
open_height false = 1

-- what it can still ask for: a link, and the end of one
abbrev pub asks_height : {S : Type 0} → Side → Station S → ℕ
asks_height A station = (1 - (count station.waiting + count station.out)) + open_height station.ending
asks_height B station = open_height station.ending

-- what waits, what goes, what was taken, and what comes back
abbrev pub moves_height : {S : Type 0} → Controller → Station S → ℕ
moves_height one station = (8 * length station.waiting + (8 * length station.pieces + 6 * length station.out)) + (2 * length one.owed + (8 * called one.owed + 3 * one.taken))

abbrev pub side_height : {S G : Type 0} → Upper S G → Side → Controller → Station S → List ℕ
side_height U side one station = asks_height side station ∷ U.left station.upper ∷ moves_height one station ∷ []

-- ---- both

abbrev pub both_height : List ℕ → List ℕ → List ℕ
both_height [] ys = []
both_height (x ∷ xs) [] = []
both_height (x ∷ xs) (y ∷ ys) = (x + y) ∷ both_height xs ys

abbrev pub height : {S T G H : Type 0} → Upper S G → Upper T H → World S T → List ℕ
height U V w =
    pushes_height w.pushes ∷ links_height w.radio w.pushes ∷ (length (tidings w.radio.a.owed) + length (tidings w.radio.b.owed)) ∷ (length w.radio.a.coming + length w.radio.b.coming)
    ∷ both_height (side_height U A w.radio.a w.a) (side_height V B w.radio.b w.b)

-- what is below on one side is below
pub below_a : (x x' y x2 x2' y2 x3 x3' y3 : ℕ) → IsBelow (x' ∷ x2' ∷ x3' ∷ []) (x ∷ x2 ∷ x3 ∷ []) → IsBelow ((x' + y) ∷ (x2' + y2) ∷ (x3' + y3) ∷ []) ((x + y) ∷ (x2 + y2) ∷ (x3 + y3) ∷ [])
below_a x x' y x2 x2' y2 x3 x3' y3 below = elim below [
  | inl less ↦ inl (omega arith)
  | inr more ↦
      let same : x' + y ≡ x + y = ap (λ (n : ℕ). n + y) more.0 in
      elim more.1 [
        | inl less ↦ inr (same, inl (omega arith))
        | inr last ↦ elim last.1 [ inl less ↦ inr (same, inr (ap (λ (n : ℕ). n + y2) last.0, inl (omega arith))) | inr never ↦ absurd never.1 ]
      ]
]

pub below_b : (x y y' x2 y2 y2' x3 y3 y3' : ℕ) → IsBelow (y' ∷ y2' ∷ y3' ∷ []) (y ∷ y2 ∷ y3 ∷ []) → IsBelow ((x + y') ∷ (x2 + y2') ∷ (x3 + y3') ∷ []) ((x + y) ∷ (x2 + y2) ∷ (x3 + y3) ∷ [])
below_b x y y' x2 y2 y2' x3 y3 y3' below = elim below [
  | inl less ↦ inl (omega arith)
  | inr more ↦
      let same : x + y' ≡ x + y = ap (λ (n : ℕ). x + n) more.0 in
      elim more.1 [
        | inl less ↦ inr (same, inl (omega arith))
        | inr last ↦ elim last.1 [ inl less ↦ inr (same, inr (ap (λ (n : ℕ). x2 + n) last.0, inl (omega arith))) | inr never ↦ absurd never.1 ]
      ]
]

-- ---- a host by itself

abbrev pub SideBelow : {S G : Type 0} → Upper S G → Side → (one' : Controller) → (new : Station S) → (one : Controller) → (old : Station S) → Type 0
SideBelow U side one' new one old = IsBelow (side_height U side one' new) (side_height U side one old)

same_asks : {S : Type 0} (side : Side) (old new : Station S) → count new.waiting + count new.out ≡ count old.waiting + count old.out → new.ending ≡ old.ending → asks_height side new ≡ asks_height side old
same_asks A old new counted ending = let alike : open_height new.ending ≡ open_height old.ending = ap open_height ending in omega arith
same_asks B old new counted ending = ap open_height ending

-- where it asks and says as before, less is to move
pub moves_below : {S G : Type 0} (U : Upper S G) (side : Side) (one one' : Controller) (old new : Station S) → count new.waiting + count new.out ≡ count old.waiting + count old.out → new.ending ≡ old.ending → new.upper ≡ old.upper
    → moves_height one' new < moves_height one old → SideBelow U side one' new one old
moves_below U side one one' old new counted ending upper less = inr (same_asks side old new counted ending, inr (ap U.left upper, inl less))

asks_less : {S : Type 0} (side : Side) (old : Station S) (order : Order) → old.ending ≡ false → asks_height side (record old { waiting = old.waiting ++ order ∷ []; ending = true }) < asks_height side old
asks_less A old order unended =
    let counted = count-append old.waiting (order ∷ []) in
    let was : open_height old.ending ≡ 1 = ap open_height unended in
    omega arith
asks_less B old order unended = let was : open_height old.ending ≡ 1 = ap open_height unended in omega arith

pub effort_below : {S G : Type 0} (U : Upper S G) (side : Side) (effort : Effort) (one : Controller) (old new : Station S) → MakesEffort U side effort old new → (side ≡ A → old.asked ≡ false → count old.out ≡ 0) → SideBelow U side one new one old
effort_below U side Taking one old new does free =
    let less = U.falls old.upper does.pdu does.after does.next in
    rw does.new_is (inr (same_asks side old (record old { upper = does.after; pieces = _ }) refl refl, inl less))
effort_below U side Putting one old new does free =
    let order : Order = Data does.handle does.piece in
    let counted = count-append old.out (order ∷ []) in
    let long = length-append old.out (order ∷ []) in
    let fewer : length old.pieces ≡ suc (length does.rest) = ap (λ (l : List Piece). length l) does.first in
    rw does.new_is (moves_below U side one one old (record old { outstanding = old.outstanding + 1; pieces = does.rest; out = old.out ++ order ∷ [] }) (omega arith) refl refl (omega arith))
effort_below U A Asking one old new does free =
    let none = none_asked old.waiting does.none_waits in
    let counted = count-append old.waiting (Page ∷ []) in
    let nothing = free refl does.unasked in
    rw does.new_is (inl (omega arith))
effort_below U B Asking one old new does free = absurd does
effort_below U side Leaving one old new does free = rw does.new_is (inl (asks_less side old (End does.handle) does.unended))
effort_below U side Commanding one old new does free =
    let order : Order = does.order in
    let counted = count-append old.out (order ∷ []) in
    let waited : count old.waiting ≡ asking order + count does.rest = ap count does.first in
    let long = length-append old.out (order ∷ []) in
    let fewer : length old.waiting ≡ suc (length does.rest) = ap (λ (l : List Order). length l) does.first in
    rw does.new_is (moves_below U side one one old _ (omega arith) refl refl (omega arith))

-- ---- an order moves, and is answered

pub pops_below : {S G : Type 0} (U : Upper S G) (side : Side) (one one' : Controller) (old : Station S) (order : Order) (out : List Order) → old.out ≡ order ∷ out → asking order ≡ 0
    → 2 * length one'.owed + (8 * called one'.owed + 3 * one'.taken) ≤ 5 + (2 * length one.owed + (8 * called one.owed + 3 * one.taken)) → SideBelow U side one' (record old { out = out }) one old
pops_below U side one one' old order out first plain less =
    let counted : count old.out ≡ asking order + count out = ap count first in
    let fewer : length old.out ≡ suc (length out) = ap (λ (l : List Order). length l) first in
    moves_below U side one one' old (record old { out = out }) (omega arith) refl refl (omega arith)

pub owed_more : (one : Controller) (answer : Answer) → called_by answer ≡ 0 → 2 * length (one.owed ++ answer ∷ []) + (8 * called (one.owed ++ answer ∷ []) + 3 * one.taken) ≤ 5 + (2 * length one.owed + (8 * called one.owed + 3 * one.taken))
owed_more one answer none = let long = length-append one.owed (answer ∷ []) in let same = called_same one.owed answer none in omega arith

-- what is given back
back_long : (some : Bool) (handle n : ℕ) (owed : List Answer) → length (owed ++ (if some then GivenBack handle n ∷ [] else [])) ≤ 1 + length owed
back_long true handle n owed = let long = length-append owed (GivenBack handle n ∷ []) in omega arith
back_long false handle n owed = let long = length-append owed [] in omega arith

pub back_below : (one : Controller) → 1 ≤ one.taken → 2 * length (after_giving_back one).owed + (8 * called (after_giving_back one).owed + 0) < 2 * length one.owed + (8 * called one.owed + 3 * one.taken)
back_below one some =
    let long = back_long (nat_lt 0 one.taken) one.told one.taken one.owed in
    let same = called_back one.told one.taken one.owed in
    omega arith

-- a packet of data
pub record Bears (one one' : Controller) : Type 0 where
  pub rest : tidings one'.owed ≡ tidings one.owed
  pub coming : one'.coming ≡ one.coming
  pub less : 2 * length one'.owed + (8 * called one'.owed + 3 * one'.taken) ≤ 5 + (2 * length one.owed + (8 * called one.owed + 3 * one.taken))

bears_by : (one : Controller) (ours full : Bool) → (one.taken == 65535) ≡ full → Bears one (if ours then (if full then record (after_giving_back one) { taken = 1 } else record one { taken = one.taken + 1 }) else one)
bears_by one true true full =
    let long = back_long (nat_lt 0 one.taken) one.told one.taken one.owed in
    let same = called_back one.told one.taken one.owed in
    record { rest = gives_back_tidings one.told one.taken one.owed; coming = refl; less = omega arith }
bears_by one true false full = record { rest = refl; coming = refl; less = omega arith }
bears_by one false full is = record { rest = refl; coming = refl; less = omega arith }

bears_piece : (flies : Bool) (piece : Option Piece) (handle : ℕ) (one : Controller) → Bears one (after_taking handle (with_piece flies piece one))
bears_piece flies None handle one = bears_by one ((handle == one.told) && nat_le 1 one.told) (one.taken == 65535) refl
bears_piece flies (Some piece) handle one =
    let put : Controller = with_piece flies (Some piece) one in
    let is = bears_by put ((handle == one.told) && nat_le 1 one.told) (one.taken == 65535) refl in
    record { rest = is.rest; coming = is.coming; less = is.less }

pub bears_data : (flies : Bool) (handle : ℕ) (piece : Option Piece) (one : Controller) → Bears one (after_taking handle (with_piece flies piece one))
bears_data flies handle piece one = bears_piece flies piece handle one

-- ---- an answer that tells of no link is heard

-- what of a host its heights are made of
pub record Shape {S : Type 0} (old new : Station S) : Type 0 where
  pub waiting : new.waiting ≡ old.waiting
  pub pieces : new.pieces ≡ old.pieces
  pub out : new.out ≡ old.out
  pub ending : new.ending ≡ old.ending

shape_refl : {S : Type 0} (old : Station S) → Shape old old
shape_refl old = record { waiting = refl; pieces = refl; out = refl; ending = refl }

shape_if : {S : Type 0} (some : Bool) (old one two : Station S) → Shape old one → Shape old two → Shape old (if some then one else two)
shape_if true old one two first second = first
shape_if false old one two first second = second

shape_heard : {S G : Type 0} (U : Upper S G) (answers : List G) (side : Side) (answer : Answer) (rest : List Answer) (one : Controller) (old : Station S) → one.owed ≡ answer ∷ rest → Shape old (hears_answer U answers side answer old)
    → (hears_answer U answers side answer old).upper ≡ old.upper → SideBelow U side (record one { owed = rest }) (hears_answer U answers side answer old) one old
shape_heard U answers side answer rest one old first shape upper =
    let new = hears_answer U answers side answer old in
    let long : length one.owed ≡ suc (length rest) = ap (λ (l : List Answer). length l) first in
    let counted : called one.owed ≡ called_by answer + called rest = ap called first in
    let one_is : length new.waiting ≡ length old.waiting = ap (λ (l : List Order). length l) shape.waiting in
    let two_is : length new.pieces ≡ length old.pieces = ap (λ (l : List Piece). length l) shape.pieces in
    let three_is : length new.out ≡ length old.out = ap (λ (l : List Order). length l) shape.out in
    let four_is : count new.waiting ≡ count old.waiting = ap count shape.waiting in
    let five_is : count new.out ≡ count old.out = ap count shape.out in
    moves_below U side one (record one { owed = rest }) old new (omega arith) shape.ending upper (omega arith)

accepts_below : {S G : Type 0} (U : Upper S G) (rest : List Answer) (one : Controller) (old : Station S) (may : Bool) → one.owed ≡ Called ∷ rest
    → SideBelow U B (record one { owed = rest }) (record (if may then record old { waiting = old.waiting ++ Accept ∷ [] } else old) { upper = old.upper }) one old
accepts_below U rest one old true first =
    let long : length one.owed ≡ suc (length rest) = ap (λ (l : List Answer). length l) first in
    let counted : called one.owed ≡ 1 + called rest = ap called first in
    let more = length-append old.waiting (Accept ∷ []) in
    inr (refl, inr (refl, inl (omega arith)))
accepts_below U rest one old false first =
    let long : length one.owed ≡ suc (length rest) = ap (λ (l : List Answer). length l) first in
    let counted : called one.owed ≡ 1 + called rest = ap called first in
    inr (refl, inr (refl, inl (omega arith)))

-- no link is told of
abbrev pub IsPlain : Answer → Type 0
IsPlain (LinkMade handle) = ⊥
IsPlain (LinkGone handle reason) = ⊥
IsPlain answer = Unit {0}

pub heard_below : {S G : Type 0} (U : Upper S G) (answers : List G) (side : Side) (answer : Answer) (rest : List Answer) (one : Controller) (old : Station S) → IsPlain answer → one.owed ≡ answer ∷ rest
    → SideBelow U side (record one { owed = rest }) (hears_answer U answers side answer old) one old
heard_below {S} U answers side (Returned number params) rest one old plain first =
    let answered_now : Station S = record old { awaited = answered number old.awaited } in
    let learnt : Station S = record answered_now { size = min (little_number 2 (drop 1 params)) 1021; total = min (little_number 2 (drop 4 params)) 64 } in
    let inner = shape_if (is_none old.link && nat_le 27 (little_number 2 (drop 1 params))) old learnt answered_now (record { waiting = refl; pieces = refl; out = refl; ending = refl }) (record { waiting = refl; pieces = refl; out = refl; ending = refl }) in
    let all = shape_if (number == 0x1005) old (learns params answered_now) answered_now inner (record { waiting = refl; pieces = refl; out = refl; ending = refl }) in
    shape_heard U answers side (Returned number params) rest one old first (record { waiting = all.waiting; pieces = all.pieces; out = all.out; ending = all.ending }) refl
heard_below U answers side (Stated number) rest one old plain first = shape_heard U answers side (Stated number) rest one old first (record { waiting = refl; pieces = refl; out = refl; ending = refl }) refl
heard_below U answers A Called rest one old plain first = shape_heard U answers A Called rest one old first (record { waiting = refl; pieces = refl; out = refl; ending = refl }) refl
heard_below U answers B Called rest one old plain first = accepts_below U rest one old (may_accept B old) first
heard_below {S} U answers side (GivenBack handle n) rest one old plain first =
    let given : Station S = record old { outstanding = old.outstanding - n } in
    let all = shape_if (is_handle handle old.link && nat_le n old.outstanding) old given old (record { waiting = refl; pieces = refl; out = refl; ending = refl }) (shape_refl old) in
    shape_heard U answers side (GivenBack handle n) rest one old first (record { waiting = all.waiting; pieces = all.pieces; out = all.out; ending = all.ending }) refl
heard_below U answers side (LinkMade handle) rest one old plain first = absurd plain
heard_below U answers side (LinkGone handle reason) rest one old plain first = absurd plain
