-- Frames are said and come until all octets have come, and they are few.
use Rattle.std.proofs.Common.{arith, ◌≡◌, ◌⊎◌, ◌≤◌, ℕ, ◌+◌, ◌*◌, Bool, true, false, cond, inl, inr, length, List, [], ◌∷◌, Option, Some, None, refl, ap, length-append}
use Rattle.rfcomm_frames.specs.declared.connection.Role.TheVariants.{Initiator, Responder}
use Rattle.rfcomm_frames.specs.Frames.{PlainFrame}
use Rattle.rfcomm_model.specs.Machine.{may_pass}
use Rattle.rfcomm_model.specs.Saying.{Said, next}
use Rattle.rfcomm_model.specs.Loads.{weights}
use Rattle.rfcomm_model.proofs.Unloading.{load-falls}
use Rattle.rfcomm_laws.specs.Pairs.{End, Move, Speak, Give, Deliver, spoken, taking, near, far, Pair, Turn, ByInitiator, ByResponder, all_turns, Terms, new_pair}
use Rattle.rfcomm_laws.specs.Happenings.{Happening, Moves, Closes, happens, all_happen, number, comes, came, all_raised}
use Rattle.rfcomm_laws.specs.Rests.{IsStill, IsDone, is_said, acted, acts, all_acts, CanAct, OctetsCome}
use Rattle.rfcomm_laws.proofs.Falling.{falls, BothUsers, users_stay}
use Rattle.rfcomm_laws.proofs.Resting.{still-is_done}

-- ---- the frames on the way

spoken_queue : (o : Option Said) (e : End) → is_said o + length e.queue ≤ length (spoken o e).queue
spoken_queue None e = omega arith
spoken_queue (Some said) e = let more = length-append e.queue (said.frame ∷ []) in omega (arith, more)

given_queue : (octets : List ℕ) (may : Bool) (e : End) → length e.queue ≤ length (cond may (taking octets e) e).queue
given_queue octets true e = omega arith
given_queue octets false e = omega arith

delivered_queue : (queue : List PlainFrame) (e : End) → e.queue ≡ queue → comes Deliver e.queue + length e.queue ≤ length (near Deliver e).queue + 2 * comes Deliver e.queue
delivered_queue [] e is = rw is omega arith
delivered_queue (frame ∷ queue) e is = rw is omega arith

-- each frame that is said is on the way, and each that comes was
near_queue : (move : Move) (e : End) → acted move e + length e.queue ≤ length (near move e).queue + 2 * comes move e.queue
near_queue Speak e = let more = spoken_queue (next e.mux) e in omega (arith, more)
near_queue (Give octets) e = let more = given_queue octets (may_pass e.mux) e in omega (arith, more)
near_queue Deliver e = delivered_queue e.queue e refl

far_queue : (move : Move) (queue : List PlainFrame) (e : End) → length (far move queue e).queue ≡ length e.queue
far_queue Speak queue e = refl
far_queue (Give octets) queue e = refl
far_queue Deliver [] e = refl
far_queue Deliver (frame ∷ queue) e = refl

abbrev on_way : Pair → ℕ
on_way p = length p.initiator.queue + length p.responder.queue

on_way_more : (h : Happening) (p : Pair) → acts h p + on_way p ≤ on_way (happens h p) + 2 * came h p
on_way_more (Moves (ByInitiator move)) p =
    let mine = near_queue move p.initiator in
    let other = far_queue move p.initiator.queue p.responder in
    omega (arith, mine, other)
on_way_more (Moves (ByResponder move)) p =
    let mine = near_queue move p.responder in
    let other = far_queue move p.responder.queue p.initiator in
    omega (arith, mine, other)
on_way_more (Closes Initiator) p = omega arith
on_way_more (Closes Responder) p = omega arith

each_weighs : (queue : List PlainFrame) → length queue ≤ weights queue
each_weighs [] = omega arith
each_weighs (frame ∷ queue) = let rest = each_weighs queue in omega (arith, rest)

-- ---- all that happens

all_few : (hs : List Happening) (p : Pair) → BothUsers p → all_acts hs p + (2 * number (all_happen hs p) + on_way p) ≤ 2 * number p + (on_way (all_happen hs p) + 2 * all_raised hs)
all_few [] p users = omega arith
all_few (h ∷ hs) p users =
    let one = falls p h users.0 users.1 in
    let way = on_way_more h p in
    let others = all_few hs (happens h p) (users_stay h p users) in
    omega (arith, one, way, others)

few : (t : Terms) (hs : List Happening) → all_acts hs (new_pair t) ≤ 24 + 2 * all_raised hs
few t hs =
    let q = all_happen hs (new_pair t) in
    let all = all_few hs (new_pair t) (t.some, t.some) in
    let first = load-falls.initiator t.dlci t.own t.own t.cap in
    let second = load-falls.responder t.dlci t.own_peer t.own_peer t.cap_peer in
    let forth = each_weighs q.initiator.queue in
    let back = each_weighs q.responder.queue in
    omega (arith, all, first, second, forth, back)

-- ---- as long as not all has come

-- what a pair can do, by what is said next and what is on the way
next_act : (p : Pair) (oi or : Option Said) (qi qr : List PlainFrame) → next p.initiator.mux ≡ oi → next p.responder.mux ≡ or → p.initiator.queue ≡ qi → p.responder.queue ≡ qr → IsStill p ⊎ CanAct p
next_act p (Some said) or qi qr is_i is_r forth back = inr (ByInitiator Speak, ap is_said is_i)
next_act p None (Some said) qi qr is_i is_r forth back = inr (ByResponder Speak, ap is_said is_r)
next_act p None None (frame ∷ qi) qr is_i is_r forth back = inr (ByInitiator Deliver, ap (comes Deliver) forth)
next_act p None None [] (frame ∷ qr) is_i is_r forth back = inr (ByResponder Deliver, ap (comes Deliver) back)
next_act p None None [] [] is_i is_r forth back = inl (record { none_forth = forth; none_back = back; initiator_silent = is_i; responder_silent = is_r })

goes_on : (t : Terms) (turns : List Turn) → IsDone (all_turns turns (new_pair t)) ⊎ CanAct (all_turns turns (new_pair t))
goes_on t turns = decided (next_act p (next p.initiator.mux) (next p.responder.mux) p.initiator.queue p.responder.queue refl refl refl refl)
  where
    p : Pair
    p = all_turns turns (new_pair t)

    decided : IsStill p ⊎ CanAct p → IsDone p ⊎ CanAct p
    decided (inl still) = inl (still-is_done t turns still)
    decided (inr can) = inr can

pub octets-come : OctetsCome
octets-come = record { few = few; goes_on = goes_on }
