-- A connection is ended in one pass exactly where it was closed, looking back.
use Rattle.std.proofs.Common.{◌≡◌, inl, inr, ℕ, ◌==◌, Bool, true, false, ◌&&◌, cond, List, [], ◌∷◌, ◌++◌, Option, Some, None, refl, sym, ap, subst, ◌∙◌, append_assoc}
use Rattle.std.specs.List.{cons_option, AllByRecursion}
use Rattle.rfcomm_frames.specs.declared.frame.MuxKind.{MuxKind}
use Rattle.rfcomm_frames.specs.declared.frame.MuxKind.TheVariants.{Sabm, Ua, Dm, Disc, Uih}
use Rattle.rfcomm_frames.specs.declared.connection.Role.{Role}
use Rattle.rfcomm_frames.specs.declared.connection.Role.TheVariants.{Initiator, Responder}
use Rattle.rfcomm_frames.specs.declared.connection.Dlc.{Dlc}
use Rattle.rfcomm_frames.specs.declared.connection.Dlc.TheVariants.{Idle, Asked, Open, Ended}
use Rattle.rfcomm_frames.specs.Connections.{turned, asked, agreed, left}
use Rattle.rfcomm_frames.specs.Multiplexing.{Framed, passing}
use Rattle.rfcomm_frames.specs.LookingBack.{Step, asks, agrees, leaves, step_by, step_of, steps, IsNoAsking, IsPending, IsOpened, connection}
use Rattle.rfcomm_frames.proofs.LookingBack.{looks-back}
use Rattle.rfcomm_model.specs.Closed.{IsAskedFor, CanLeave, WasLeft, EndingsLookBack}

-- ---- one pass over the steps

abbrev moved : Step → Dlc → Dlc
moved asks dlc = asked dlc
moved agrees dlc = agreed dlc
moved (leaves from) dlc = left from dlc

abbrev walk : Dlc → List Step → Dlc
walk dlc [] = dlc
walk dlc (step ∷ rest) = walk (moved step dlc) rest

abbrev moved_by : Option Step → Dlc → Dlc
moved_by None dlc = dlc
moved_by (Some step) dlc = moved step dlc

turned_is : (from : Role) (kind : MuxKind) (dlc : Dlc) → turned from kind dlc ≡ moved_by (step_by from kind) dlc
turned_is Initiator Sabm dlc = refl
turned_is Responder Sabm dlc = refl
turned_is Initiator Ua dlc = refl
turned_is Responder Ua dlc = refl
turned_is Initiator Dm dlc = refl
turned_is Responder Dm dlc = refl
turned_is Initiator Disc dlc = refl
turned_is Responder Disc dlc = refl
turned_is Initiator Uih dlc = refl
turned_is Responder Uih dlc = refl

turned_if : (from : Role) (kind : MuxKind) (here pf : Bool) (dlc : Dlc) → cond here (cond pf (turned from kind dlc) dlc) dlc ≡ moved_by (cond (here && pf) (step_by from kind) None) dlc
turned_if from kind true true dlc = turned_is from kind dlc
turned_if from kind true false dlc = refl
turned_if from kind false pf dlc = refl

walk_option : (o : Option Step) (rest : List Step) (dlc : Dlc) → walk dlc (cons_option o rest) ≡ walk (moved_by o dlc) rest
walk_option None rest dlc = refl
walk_option (Some step) rest dlc = refl

walked : (d : ℕ) (dlc : Dlc) (fs : List Framed) → connection d dlc fs ≡ walk dlc (steps d fs)
walked d dlc [] = refl
walked d dlc (f ∷ fs) =
    walked d (passing d f dlc) fs
    ∙ ap (λ (x : Dlc). walk x (steps d fs)) (turned_if f.from f.frame.kind (f.frame.dlci == d) f.frame.pf dlc)
    ∙ sym (walk_option (step_of d f) (steps d fs) dlc)

walk_append : (dlc : Dlc) (xs ys : List Step) → walk dlc (xs ++ ys) ≡ walk (walk dlc xs) ys
walk_append dlc [] ys = refl
walk_append dlc (x ∷ xs) ys = walk_append (moved x dlc) xs ys

ended_stays : (all : List Step) → walk Ended all ≡ Ended
ended_stays [] = refl
ended_stays (asks ∷ rest) = ended_stays rest
ended_stays (agrees ∷ rest) = ended_stays rest
ended_stays (leaves Initiator ∷ rest) = ended_stays rest
ended_stays (leaves Responder ∷ rest) = ended_stays rest

-- ---- what is open: each step is that of a frame

abbrev frame_of : Step → Framed
frame_of asks = record { from = Initiator; frame = record { dlci = 0; cr = true; kind = Sabm; pf = true; credits = None; octets = [] } }
frame_of agrees = record { from = Responder; frame = record { dlci = 0; cr = true; kind = Ua; pf = true; credits = None; octets = [] } }
frame_of (leaves from) = record { from = from; frame = record { dlci = 0; cr = true; kind = Disc; pf = true; credits = None; octets = [] } }

abbrev frames_of : List Step → List Framed
frames_of [] = []
frames_of (step ∷ rest) = frame_of step ∷ frames_of rest

step_is : (step : Step) → step_of 0 (frame_of step) ≡ Some step
step_is asks = refl
step_is agrees = refl
step_is (leaves Initiator) = refl
step_is (leaves Responder) = refl

steps_are : (all : List Step) → steps 0 (frames_of all) ≡ all
steps_are [] = refl
steps_are (step ∷ rest) = ap (λ (o : Option Step). cons_option o (steps 0 (frames_of rest))) (step_is step) ∙ ap (λ (xs : List Step). step ∷ xs) (steps_are rest)

opened : (all : List Step) → walk Idle all ≡ Open → IsOpened all
opened all is = subst IsOpened (steps_are all) ((looks-back.opened 0 (frames_of all)).0 (walked 0 Idle (frames_of all) ∙ ap (walk Idle) (steps_are all) ∙ is))

opens : (all : List Step) → IsOpened all → walk Idle all ≡ Open
opens all is = ap (walk Idle) (sym (steps_are all)) ∙ sym (walked 0 Idle (frames_of all)) ∙ (looks-back.opened 0 (frames_of all)).1 (subst IsOpened (sym (steps_are all)) is)

-- ---- what is asked for

ended_not_asked : (all : List Step) → walk Ended all ≡ Asked → ⊥
ended_not_asked all is = let never : Ended ≡ Asked = sym (ended_stays all) ∙ is in cc

open_not_asked : (all : List Step) → walk Open all ≡ Asked → ⊥
open_not_asked [] is = cc
open_not_asked (asks ∷ rest) is = open_not_asked rest is
open_not_asked (agrees ∷ rest) is = open_not_asked rest is
open_not_asked (leaves Initiator ∷ rest) is = ended_not_asked rest is
open_not_asked (leaves Responder ∷ rest) is = ended_not_asked rest is

still_asked : (all : List Step) → walk Asked all ≡ Asked → AllByRecursion IsPending all
still_asked [] is = tt
still_asked (asks ∷ rest) is = (tt, still_asked rest is)
still_asked (agrees ∷ rest) is = absurd (open_not_asked rest is)
still_asked (leaves Initiator ∷ rest) is = absurd (ended_not_asked rest is)
still_asked (leaves Responder ∷ rest) is = (tt, still_asked rest is)

later : (step : Step) (rest : List Step) → IsNoAsking step → IsAskedFor rest → IsAskedFor (step ∷ rest)
later step rest is a = record { before = step ∷ a.before; since = a.since; parts = ap (λ (xs : List Step). step ∷ xs) a.parts; first = (is, a.first); pending = a.pending }

asked_for : (all : List Step) → walk Idle all ≡ Asked → IsAskedFor all
asked_for [] is = cc
asked_for (asks ∷ rest) is = record { before = []; since = rest; parts = refl; first = tt; pending = still_asked rest is }
asked_for (agrees ∷ rest) is = later agrees rest tt (asked_for rest is)
asked_for (leaves Initiator ∷ rest) is = later (leaves Initiator) rest tt (asked_for rest is)
asked_for (leaves Responder ∷ rest) is = later (leaves Responder) rest tt (asked_for rest is)

stays_asked : (all : List Step) → AllByRecursion IsPending all → walk Asked all ≡ Asked
stays_asked [] is = refl
stays_asked (asks ∷ rest) is = stays_asked rest is.1
stays_asked (agrees ∷ rest) is = absurd is.0
stays_asked (leaves Initiator ∷ rest) is = absurd is.0
stays_asked (leaves Responder ∷ rest) is = stays_asked rest is.1

stays_idle : (all : List Step) → AllByRecursion IsNoAsking all → walk Idle all ≡ Idle
stays_idle [] is = refl
stays_idle (asks ∷ rest) is = absurd is.0
stays_idle (agrees ∷ rest) is = stays_idle rest is.1
stays_idle (leaves Initiator ∷ rest) is = stays_idle rest is.1
stays_idle (leaves Responder ∷ rest) is = stays_idle rest is.1

asks_for : (all : List Step) → IsAskedFor all → walk Idle all ≡ Asked
asks_for all a =
    ap (walk Idle) a.parts
    ∙ walk_append Idle a.before (asks ∷ a.since)
    ∙ ap (λ (dlc : Dlc). walk dlc (asks ∷ a.since)) (stays_idle a.before a.first)
    ∙ stays_asked a.since a.pending

-- ---- from one pass: what was passed so far, and the rest

closes_here : (past rest : List Step) (from : Role) → CanLeave from past → WasLeft (past ++ (leaves from ∷ rest))
closes_here past rest from could = record { before = past; from = from; since = rest; parts = refl; could = could }

one_on : (past rest : List Step) (step : Step) → WasLeft ((past ++ step ∷ []) ++ rest) → WasLeft (past ++ (step ∷ rest))
one_on past rest step w = subst WasLeft (append_assoc past (step ∷ []) rest) w

now : (past : List Step) (step : Step) (dlc : Dlc) → walk Idle past ≡ dlc → walk Idle (past ++ step ∷ []) ≡ moved step dlc
now past step dlc is = walk_append Idle past (step ∷ []) ∙ ap (moved step) is

left_open : (past all : List Step) → walk Idle past ≡ Open → walk Open all ≡ Ended → WasLeft (past ++ all)
left_open past [] is ended = cc
left_open past (asks ∷ rest) is ended = one_on past rest asks (left_open (past ++ asks ∷ []) rest (now past asks Open is) ended)
left_open past (agrees ∷ rest) is ended = one_on past rest agrees (left_open (past ++ agrees ∷ []) rest (now past agrees Open is) ended)
left_open past (leaves Initiator ∷ rest) is ended = closes_here past rest Initiator (inl (opened past is))
left_open past (leaves Responder ∷ rest) is ended = closes_here past rest Responder (opened past is)

left_asked : (past all : List Step) → walk Idle past ≡ Asked → walk Asked all ≡ Ended → WasLeft (past ++ all)
left_asked past [] is ended = cc
left_asked past (asks ∷ rest) is ended = one_on past rest asks (left_asked (past ++ asks ∷ []) rest (now past asks Asked is) ended)
left_asked past (agrees ∷ rest) is ended = one_on past rest agrees (left_open (past ++ agrees ∷ []) rest (now past agrees Asked is) ended)
left_asked past (leaves Initiator ∷ rest) is ended = closes_here past rest Initiator (inr (asked_for past is))
left_asked past (leaves Responder ∷ rest) is ended = one_on past rest (leaves Responder) (left_asked (past ++ leaves Responder ∷ []) rest (now past (leaves Responder) Asked is) ended)

left_idle : (past all : List Step) → walk Idle past ≡ Idle → walk Idle all ≡ Ended → WasLeft (past ++ all)
left_idle past [] is ended = cc
left_idle past (asks ∷ rest) is ended = one_on past rest asks (left_asked (past ++ asks ∷ []) rest (now past asks Idle is) ended)
left_idle past (agrees ∷ rest) is ended = one_on past rest agrees (left_idle (past ++ agrees ∷ []) rest (now past agrees Idle is) ended)
left_idle past (leaves Initiator ∷ rest) is ended = one_on past rest (leaves Initiator) (left_idle (past ++ leaves Initiator ∷ []) rest (now past (leaves Initiator) Idle is) ended)
left_idle past (leaves Responder ∷ rest) is ended = one_on past rest (leaves Responder) (left_idle (past ++ leaves Responder ∷ []) rest (now past (leaves Responder) Idle is) ended)

-- ---- from looking back

could_leave : (from : Role) (before : List Step) → CanLeave from before → moved (leaves from) (walk Idle before) ≡ Ended
could_leave Initiator before (inl is) = ap (moved (leaves Initiator)) (opens before is)
could_leave Initiator before (inr is) = ap (moved (leaves Initiator)) (asks_for before is)
could_leave Responder before is = ap (moved (leaves Responder)) (opens before is)

was_left : (all : List Step) → WasLeft all → walk Idle all ≡ Ended
was_left all w =
    ap (walk Idle) w.parts
    ∙ walk_append Idle w.before (leaves w.from ∷ w.since)
    ∙ ap (λ (dlc : Dlc). walk dlc w.since) (could_leave w.from w.before w.could)
    ∙ ended_stays w.since

pub endings-look_back : EndingsLookBack
endings-look_back d fs = (λ is. left_idle [] (steps d fs) refl (sym (walked d Idle fs) ∙ is), λ w. walked d Idle fs ∙ was_left (steps d fs) w)
