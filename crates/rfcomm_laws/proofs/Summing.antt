-- What a side holds, and what is under way to it, is what it was granted and has not spent.
use Rattle.std.proofs.Common.{arith, ◌≡◌, ◌≤◌, ℕ, ◌+◌, Bool, true, false, ◌&&◌, cond, List, [], ◌∷◌, length, take, Option, Some, None, refl, ap}
use Rattle.std.specs.Prelude.{not, nat_lt, is_none}
use Rattle.rfcomm_frames.specs.declared.connection.Role.{Role}
use Rattle.rfcomm_frames.specs.declared.connection.Role.TheVariants.{Initiator, Responder}
use Rattle.rfcomm_frames.specs.Frames.{PlainFrame}
use Rattle.rfcomm_frames.specs.FrameReading.{is_empty}
use Rattle.rfcomm_model.specs.declared.state.Command.TheVariants.{LeaveUser}
use Rattle.rfcomm_model.specs.declared.state.Asks.TheVariants.{Due}
use Rattle.rfcomm_model.specs.Machine.{Mux, may_pass, is_leaving, taken_count, leaves}
use Rattle.rfcomm_model.specs.Saying.{Said, next}
use Rattle.rfcomm_laws.specs.Pairs.{End, Move, Speak, Give, Deliver, spoken, taking, without_first, hearing, near, far, Pair, ByInitiator, ByResponder, new_pair}
use Rattle.rfcomm_laws.specs.Happenings.{Happening, Moves, Closes, happens}
use Rattle.rfcomm_laws.specs.Totals.{cost_said, bonus_said, cost_moved, bonus_moved, spends, grants_made, all_spent, all_granted, NoneIsOverdrawn}
use Rattle.rfcomm_laws.proofs.Harm.{bonuses_of, bonuses_append}
use Rattle.rfcomm_laws.proofs.Telling.{SaysWell, says_well}
use Rattle.rfcomm_laws.proofs.Ways.{Way}
use Rattle.rfcomm_laws.proofs.Crossings.{Crossing, step_of, step, first}

-- ---- a side

says_held : (terms : Bool) (d : ℕ) (e : End) (o : Option Said) → SaysWell terms d e.mux o → (spoken o e).mux.account.held + cost_said o ≤ e.mux.account.held
says_held terms d e None t = omega arith
says_held terms d e (Some said) t = let held = t.held in omega (arith, held)

says_queue : (d : ℕ) (e : End) (o : Option Said) → bonuses_of d (spoken o e).queue ≤ bonuses_of d e.queue + bonus_said d o
says_queue d e None = omega arith
says_queue d e (Some said) = let more = bonuses_append d e.queue said.frame in omega (arith, more)

takes_held : (octets : List ℕ) (may : Bool) (e : End) → ((cond may (taking octets e) e).mux.account.held ≡ e.mux.account.held) × ((cond may (taking octets e) e).queue ≡ e.queue)
takes_held octets true e = (held_if (is_empty e.mux.waiting && nat_lt 0 e.mux.account.held), refl)
  where
    held_if : (b : Bool) → (cond b (record e.mux { waiting = take (taken_count (length octets) e.mux) octets }) e.mux).account.held ≡ e.mux.account.held
    held_if true = refl
    held_if false = refl
takes_held octets false e = (refl, refl)

leaves_held : (m : Mux) → (leaves m).account.held ≡ m.account.held
leaves_held m = held_if (is_none m.closed && not (is_leaving m.asks))
  where
    held_if : (b : Bool) → (cond b (record m { asks = Due LeaveUser }) m).account.held ≡ m.account.held
    held_if true = refl
    held_if false = refl

hears_held : (from to : Role) (d : ℕ) (s h : End) (q : List PlainFrame) → s.queue ≡ q → Way from d s h → Way to d h s → (hearing q h).mux.account.held + bonuses_of d (without_first q) ≤ h.mux.account.held + bonuses_of d q
hears_held from to d s h [] is w v = omega arith
hears_held from to d s h (f ∷ fs) is w v = let held = (step_of from d s h f fs is w v.fit).held in omega (arith, held)

hears_queue : (q : List PlainFrame) (h : End) → (hearing q h).queue ≡ h.queue
hears_queue [] h = refl
hears_queue (f ∷ fs) h = refl

-- what a side holds, and what comes to it
abbrev purse : ℕ → End → End → ℕ
purse d s h = s.mux.account.held + bonuses_of d h.queue

-- a side moves: its own purse, and the other's
own_purse : (from to : Role) (d : ℕ) (s h : End) → Way from d s h → Way to d h s → (move : Move) → purse d (near move s) (far move s.queue h) + cost_moved move s.mux ≤ purse d s h
own_purse from to d s h w v Speak = let less = says_held h.mux.agreed d s (next s.mux) (says_well h.mux.agreed d s.mux w.fit w.waits w.asks) in omega (arith, less)
own_purse from to d s h w v (Give octets) = let same = (takes_held octets (may_pass s.mux) s).0 in omega (arith, same)
own_purse from to d s h w v Deliver = let same = ap (bonuses_of d) (hears_queue s.queue h) in omega (arith, same)

other_purse : (from to : Role) (d : ℕ) (s h : End) → Way from d s h → Way to d h s → (move : Move) → purse d (far move s.queue h) (near move s) ≤ purse d h s + bonus_moved d move s.mux
other_purse from to d s h w v Speak = let more = says_queue d s (next s.mux) in omega (arith, more)
other_purse from to d s h w v (Give octets) = let same = ap (bonuses_of d) (takes_held octets (may_pass s.mux) s).1 in omega (arith, same)
other_purse from to d s h w v Deliver = let less = hears_held from to d s h s.queue refl w v in omega (arith, less)

-- ---- the pair

forth_step : (d : ℕ) (h : Happening) (p : Pair) → Crossing d p → purse d (happens h p).initiator (happens h p).responder + spends Initiator h p ≤ purse d p.initiator p.responder + grants_made d Responder h p
forth_step d (Moves (ByInitiator move)) p c = let less = own_purse Initiator Responder d p.initiator p.responder c.forth c.back move in omega (arith, less)
forth_step d (Moves (ByResponder move)) p c = let less = other_purse Responder Initiator d p.responder p.initiator c.back c.forth move in omega (arith, less)
forth_step d (Closes Initiator) p c = let same = leaves_held p.initiator.mux in omega (arith, same)
forth_step d (Closes Responder) p c = omega arith

back_step : (d : ℕ) (h : Happening) (p : Pair) → Crossing d p → purse d (happens h p).responder (happens h p).initiator + spends Responder h p ≤ purse d p.responder p.initiator + grants_made d Initiator h p
back_step d (Moves (ByInitiator move)) p c = let less = other_purse Initiator Responder d p.initiator p.responder c.forth c.back move in omega (arith, less)
back_step d (Moves (ByResponder move)) p c = let less = own_purse Responder Initiator d p.responder p.initiator c.back c.forth move in omega (arith, less)
back_step d (Closes Initiator) p c = omega arith
back_step d (Closes Responder) p c = let same = leaves_held p.responder.mux in omega (arith, same)

forth_all : (d : ℕ) (hs : List Happening) (p : Pair) → Crossing d p → all_spent Initiator hs p ≤ purse d p.initiator p.responder + all_granted d Responder hs p
forth_all d [] p c = omega arith
forth_all d (h ∷ hs) p c =
    let one = forth_step d h p c in
    let others = forth_all d hs (happens h p) (step d h p c) in
    omega (arith, one, others)

back_all : (d : ℕ) (hs : List Happening) (p : Pair) → Crossing d p → all_spent Responder hs p ≤ purse d p.responder p.initiator + all_granted d Initiator hs p
back_all d [] p c = omega arith
back_all d (h ∷ hs) p c =
    let one = back_step d h p c in
    let others = back_all d hs (happens h p) (step d h p c) in
    omega (arith, one, others)

pub none-is_overdrawn : NoneIsOverdrawn
none-is_overdrawn t hs =
    let forth = forth_all t.dlci hs (new_pair t) (first t) in
    let back = back_all t.dlci hs (new_pair t) (first t) in
    record { forth = omega (arith, forth); back = omega (arith, back) }
