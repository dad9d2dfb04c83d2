-- Frames that come lower the number of the pair.
use Rattle.std.proofs.Common.{arith, ◌≡◌, ◌<◌, ◌≤◌, ℕ, ◌+◌, Bool, true, false, ◌&&◌, cond, length, take, List, [], ◌∷◌, Option, Some, None, Ok, refl}
use Rattle.rfcomm_frames.specs.declared.connection.Role.TheVariants.{Initiator, Responder}
use Rattle.rfcomm_frames.specs.Frames.{PlainFrame}
use Rattle.std.specs.Prelude.{not, nat_lt, is_none}
use Rattle.rfcomm_frames.specs.FrameReading.{is_empty}
use Rattle.rfcomm_model.specs.declared.state.Command.TheVariants.{LeaveUser}
use Rattle.rfcomm_model.specs.declared.state.Asks.TheVariants.{Due}
use Rattle.rfcomm_model.specs.Machine.{Mux, may_pass, is_leaving, taken_count, leaves, Kept}
use Rattle.rfcomm_model.specs.Hearing.{hears_answer}
use Rattle.rfcomm_model.specs.Saying.{Said, next}
use Rattle.rfcomm_model.specs.Loads.{weight, weights, load, SaysNoMore}
use Rattle.rfcomm_model.proofs.Loading.{weights_more, answer_load}
use Rattle.rfcomm_model.proofs.Unloading.{load-falls}
use Rattle.rfcomm_model.proofs.Keeping.{answer_keeps, SaysKept, answers_keep}
use Rattle.rfcomm_laws.specs.Pairs.{End, Move, Speak, Give, Deliver, spoken, taking, without_first, near, far, Pair, ByInitiator, ByResponder, new_pair}
use Rattle.rfcomm_laws.specs.Happenings.{Happening, Moves, Closes, happens, all_happen, number, comes, came, all_came, raised_by, raised, all_raised, FramesAreFew}

-- ---- a side, with the frames that it sent

abbrev side_number : End → ℕ
side_number e = load e.mux + weights e.queue

spoken_falls : (o : Option Said) (e : End) → SaysNoMore (load e.mux) o → side_number (spoken o e) ≤ side_number e
spoken_falls None e s = omega arith
spoken_falls (Some said) e s = let more = weights_more e.queue said.frame in omega (arith, s, more)

-- what comes to the other side
abbrev first_weight : Move → List PlainFrame → ℕ
first_weight Speak queue = 0
first_weight (Give octets) queue = 0
first_weight Deliver [] = 0
first_weight Deliver (frame ∷ queue) = weight frame

rest_weight : (queue : List PlainFrame) → first_weight Deliver queue + weights (without_first queue) ≡ weights queue
rest_weight [] = refl
rest_weight (frame ∷ queue) = refl

given_falls : (octets : List ℕ) (may : Bool) (e : End) → side_number (cond may (taking octets e) e) ≤ side_number e + 2
given_falls octets true e = let more = load-falls.giving octets e.mux in omega (arith, more)
given_falls octets false e = omega arith

near_falls : (move : Move) (e : End) → 0 < e.mux.dlci → first_weight move e.queue + side_number (near move e) ≤ side_number e + raised_by move
near_falls Speak e some = let less = spoken_falls (next e.mux) e (load-falls.saying e.mux some) in omega (arith, less)
near_falls (Give octets) e some = let less = given_falls octets (may_pass e.mux) e in omega (arith, less)
near_falls Deliver e some = let all = rest_weight e.queue in omega (arith, all)

far_falls : (move : Move) (queue : List PlainFrame) (e : End) → comes move queue + side_number (far move queue e) ≤ side_number e + first_weight move queue
far_falls Speak queue e = omega arith
far_falls (Give octets) queue e = omega arith
far_falls Deliver [] e = omega arith
far_falls Deliver (frame ∷ queue) e = let less = answer_load (Ok frame) e.mux in omega (arith, less)

pub falls : (p : Pair) (h : Happening) → 0 < p.initiator.mux.dlci → 0 < p.responder.mux.dlci → came h p + number (happens h p) ≤ number p + raised h
falls p (Moves (ByInitiator move)) some also =
    let mine = near_falls move p.initiator some in
    let other = far_falls move p.initiator.queue p.responder in
    omega (arith, mine, other)
falls p (Moves (ByResponder move)) some also =
    let mine = near_falls move p.responder also in
    let other = far_falls move p.responder.queue p.initiator in
    omega (arith, mine, other)
falls p (Closes Initiator) some also = let more = load-falls.leaving p.initiator.mux in omega (arith, more)
falls p (Closes Responder) some also = let more = load-falls.leaving p.responder.mux in omega (arith, more)

-- ---- the user channel stays what it is

abbrev OnUser : Mux → Type 0
OnUser m = 0 < m.dlci

user_if : (b : Bool) (x y : Mux) → OnUser x → OnUser y → OnUser (cond b x y)
user_if true x y p q = p
user_if false x y p q = q

hearing_user : (frame : PlainFrame) (m : Mux) → OnUser m → OnUser (hears_answer (Ok frame) m)
hearing_user frame m some =
    let kept : Kept m.role m.dlci m.largest m.account.cap (hears_answer (Ok frame) m) = answer_keeps m.role m.dlci m.largest m.account.cap (Ok frame) m (refl, refl, refl, refl) in
    let is = kept.1 in
    omega (arith, is, some)

spoken_user : (o : Option Said) (e : End) → SaysKept e.mux o → OnUser e.mux → OnUser (spoken o e).mux
spoken_user None e kept some = some
spoken_user (Some said) e kept some = let is = kept.1 in omega (arith, is, some)

given_user : (octets : List ℕ) (may : Bool) (e : End) → OnUser e.mux → OnUser (cond may (taking octets e) e).mux
given_user octets true e some = user_if (is_empty e.mux.waiting && nat_lt 0 e.mux.account.held) (record e.mux { waiting = take (taken_count (length octets) e.mux) octets }) e.mux some some
given_user octets false e some = some

near_user : (move : Move) (e : End) → OnUser e.mux → OnUser (near move e).mux
near_user Speak e some = spoken_user (next e.mux) e (answers_keep e.mux.answers e.mux) some
near_user (Give octets) e some = given_user octets (may_pass e.mux) e some
near_user Deliver e some = some

far_user : (move : Move) (queue : List PlainFrame) (e : End) → OnUser e.mux → OnUser (far move queue e).mux
far_user Speak queue e some = some
far_user (Give octets) queue e some = some
far_user Deliver [] e some = some
far_user Deliver (frame ∷ queue) e some = hearing_user frame e.mux some

leaves_user : (m : Mux) → OnUser m → OnUser (leaves m)
leaves_user m some = user_if (is_none m.closed && not (is_leaving m.asks)) (record m { asks = Due LeaveUser }) m some some

abbrev pub BothUsers : Pair → Type 0
BothUsers p = OnUser p.initiator.mux × OnUser p.responder.mux

pub users_stay : (h : Happening) (p : Pair) → BothUsers p → BothUsers (happens h p)
users_stay (Moves (ByInitiator move)) p users = (near_user move p.initiator users.0, far_user move p.initiator.queue p.responder users.1)
users_stay (Moves (ByResponder move)) p users = (far_user move p.responder.queue p.initiator users.0, near_user move p.responder users.1)
users_stay (Closes Initiator) p users = (leaves_user p.initiator.mux users.0, users.1)
users_stay (Closes Responder) p users = (users.0, leaves_user p.responder.mux users.1)

-- ---- all that happens

all_fall : (hs : List Happening) (p : Pair) → BothUsers p → all_came hs p + number (all_happen hs p) ≤ number p + all_raised hs
all_fall [] p users = omega arith
all_fall (h ∷ hs) p users =
    let one = falls p h users.0 users.1 in
    let others = all_fall hs (happens h p) (users_stay h p users) in
    omega (arith, one, others)

pub frames-are_few : FramesAreFew
frames-are_few = record {
  falls = falls;
  few = λ t hs.
      let first = load-falls.initiator t.dlci t.own t.own t.cap in
      let second = load-falls.responder t.dlci t.own_peer t.own_peer t.cap_peer in
      let others = all_fall hs (new_pair t) (t.some, t.some) in
      omega (arith, first, second, others);
}
