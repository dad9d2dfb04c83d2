-- One pass and looking back say the same of a connection.
use Rattle.std.proofs.Common.{◌≡◌, ◌↔◌, ℕ, ◌==◌, Bool, true, false, ◌&&◌, cond, List, [], ◌∷◌, ◌++◌, Option, Some, None, refl, sym, ap, subst, ◌∙◌, append_assoc}
use Rattle.std.proofs.lemmas.List.{append-nil}
use Rattle.std.specs.List.{cons_option, filter_map, AllByRecursion}
use Rattle.rfcomm_frames.specs.declared.frame.MuxKind.{MuxKind}
use Rattle.rfcomm_frames.specs.declared.frame.MuxKind.TheVariants.{Sabm, Ua, Dm, Disc, Uih}
use Rattle.rfcomm_frames.specs.declared.connection.Role.{Role}
use Rattle.rfcomm_frames.specs.declared.connection.Role.TheVariants.{Initiator, Responder}
use Rattle.rfcomm_frames.specs.declared.connection.Dlc.{Dlc}
use Rattle.rfcomm_frames.specs.declared.connection.Dlc.TheVariants.{Idle, Asked, Open, Ended}
use Rattle.rfcomm_frames.specs.Connections.{turned}
use Rattle.rfcomm_frames.specs.Multiplexing.{Framed, Connections, passing, no_connections, connections_after, carries_on, information, carried}
use Rattle.rfcomm_frames.specs.LookingBack.{Step, asks, agrees, leaves, step_by, step_of, steps, IsNoAsking, IsPending, IsStaying, IsOpened, connection, connections, LooksBack}

-- ---- steps

abbrev moves : Step → Dlc → Dlc
moves asks Idle = Asked
moves asks Asked = Asked
moves asks Open = Open
moves asks Ended = Ended
moves agrees Idle = Idle
moves agrees Asked = Open
moves agrees Open = Open
moves agrees Ended = Ended
moves (leaves from) Idle = Idle
moves (leaves Initiator) Asked = Ended
moves (leaves Responder) Asked = Asked
moves (leaves from) Open = Ended
moves (leaves from) Ended = Ended

abbrev walk : Dlc → List Step → Dlc
walk dlc [] = dlc
walk dlc (step ∷ rest) = walk (moves step dlc) rest

abbrev after_step : Option Step → Dlc → Dlc
after_step None dlc = dlc
after_step (Some step) dlc = moves step dlc

stepped : (from : Role) (kind : MuxKind) (dlc : Dlc) → turned from kind dlc ≡ after_step (step_by from kind) dlc
stepped Initiator Sabm Idle = refl
stepped Initiator Sabm Asked = refl
stepped Initiator Sabm Open = refl
stepped Initiator Sabm Ended = refl
stepped Responder Sabm dlc = refl
stepped Initiator Ua dlc = refl
stepped Responder Ua Idle = refl
stepped Responder Ua Asked = refl
stepped Responder Ua Open = refl
stepped Responder Ua Ended = refl
stepped Initiator Dm dlc = refl
stepped Responder Dm dlc = refl
stepped Initiator Disc Idle = refl
stepped Initiator Disc Asked = refl
stepped Initiator Disc Open = refl
stepped Initiator Disc Ended = refl
stepped Responder Disc Idle = refl
stepped Responder Disc Asked = refl
stepped Responder Disc Open = refl
stepped Responder Disc Ended = refl
stepped Initiator Uih dlc = refl
stepped Responder Uih dlc = refl

passed_if : (from : Role) (kind : MuxKind) (here pf : Bool) (dlc : Dlc) → cond here (cond pf (turned from kind dlc) dlc) dlc ≡ after_step (cond (here && pf) (step_by from kind) None) dlc
passed_if from kind true true dlc = stepped from kind dlc
passed_if from kind true false dlc = refl
passed_if from kind false pf dlc = refl

kept_step : (o : Option Step) (rest : List Step) (dlc : Dlc) → walk dlc (cons_option o rest) ≡ walk (after_step o dlc) rest
kept_step None rest dlc = refl
kept_step (Some step) rest dlc = refl

walked : (d : ℕ) (dlc : Dlc) (fs : List Framed) → connection d dlc fs ≡ walk dlc (steps d fs)
walked d dlc [] = refl
walked d dlc (f ∷ fs) =
    walked d (passing d f dlc) fs
    ∙ ap (λ (x : Dlc). walk x (steps d fs)) (passed_if f.from f.frame.kind (f.frame.dlci == d) f.frame.pf dlc)
    ∙ sym (kept_step (step_of d f) (steps d fs) dlc)

-- ---- from one pass

ended_stays : (all : List Step) → walk Ended all ≡ Ended
ended_stays [] = refl
ended_stays (asks ∷ rest) = ended_stays rest
ended_stays (agrees ∷ rest) = ended_stays rest
ended_stays (leaves from ∷ rest) = ended_stays rest

never_open : (all : List Step) → walk Ended all ≡ Open → ⊥
never_open all is = let never : Ended ≡ Open = sym (ended_stays all) ∙ is in cc

open_stays : (all : List Step) → walk Open all ≡ Open → AllByRecursion IsStaying all
open_stays [] is = tt
open_stays (asks ∷ rest) is = (tt, open_stays rest is)
open_stays (agrees ∷ rest) is = (tt, open_stays rest is)
open_stays (leaves from ∷ rest) is = absurd (never_open rest is)

record Agreed (all : List Step) : Type 0 where
  between : List Step
  since : List Step
  parts : all ≡ between ++ (agrees ∷ since)
  pending : AllByRecursion IsPending between
  staying : AllByRecursion IsStaying since

later : (step : Step) (rest : List Step) → IsPending step → Agreed rest → Agreed (step ∷ rest)
later step rest is a = record { between = step ∷ a.between; since = a.since; parts = ap (λ (xs : List Step). step ∷ xs) a.parts; pending = (is, a.pending); staying = a.staying }

asked_open : (all : List Step) → walk Asked all ≡ Open → Agreed all
asked_open [] is = cc
asked_open (asks ∷ rest) is = later asks rest tt (asked_open rest is)
asked_open (agrees ∷ rest) is = record { between = []; since = rest; parts = refl; pending = tt; staying = open_stays rest is }
asked_open (leaves Initiator ∷ rest) is = absurd (never_open rest is)
asked_open (leaves Responder ∷ rest) is = later (leaves Responder) rest tt (asked_open rest is)

sooner : (step : Step) (rest : List Step) → IsNoAsking step → IsOpened rest → IsOpened (step ∷ rest)
sooner step rest is o = record { before = step ∷ o.before; between = o.between; since = o.since; parts = ap (λ (xs : List Step). step ∷ xs) o.parts; first = (is, o.first); pending = o.pending; staying = o.staying }

idle_open : (all : List Step) → walk Idle all ≡ Open → IsOpened all
idle_open [] is = cc
idle_open (asks ∷ rest) is =
    let a = asked_open rest is in
    record { before = []; between = a.between; since = a.since; parts = ap (λ (xs : List Step). asks ∷ xs) a.parts; first = tt; pending = a.pending; staying = a.staying }
idle_open (agrees ∷ rest) is = sooner agrees rest tt (idle_open rest is)
idle_open (leaves from ∷ rest) is = sooner (leaves from) rest tt (idle_open rest is)

-- ---- from looking back

stays_open : (all : List Step) → AllByRecursion IsStaying all → walk Open all ≡ Open
stays_open [] is = refl
stays_open (asks ∷ rest) is = stays_open rest is.1
stays_open (agrees ∷ rest) is = stays_open rest is.1
stays_open (leaves from ∷ rest) is = absurd is.0

agreed_opens : (between since : List Step) → AllByRecursion IsPending between → AllByRecursion IsStaying since → walk Asked (between ++ (agrees ∷ since)) ≡ Open
agreed_opens [] since pending staying = stays_open since staying
agreed_opens (asks ∷ rest) since pending staying = agreed_opens rest since pending.1 staying
agreed_opens (agrees ∷ rest) since pending staying = absurd pending.0
agreed_opens (leaves Initiator ∷ rest) since pending staying = absurd pending.0
agreed_opens (leaves Responder ∷ rest) since pending staying = agreed_opens rest since pending.1 staying

asked_opens : (before rest : List Step) → AllByRecursion IsNoAsking before → walk Idle (before ++ (asks ∷ rest)) ≡ walk Asked rest
asked_opens [] rest first = refl
asked_opens (asks ∷ before) rest first = absurd first.0
asked_opens (agrees ∷ before) rest first = asked_opens before rest first.1
asked_opens (leaves from ∷ before) rest first = asked_opens before rest first.1

opened_walk : (all : List Step) → IsOpened all → walk Idle all ≡ Open
opened_walk all o = ap (walk Idle) o.parts ∙ asked_opens o.before (o.between ++ (agrees ∷ o.since)) o.first ∙ agreed_opens o.between o.since o.pending o.staying

-- ---- one frame more

state_more : (d : ℕ) (from : Role) (c : Connections) (fs : List Framed) (f : Framed)
    → carried d from c (fs ++ f ∷ []) ≡ carried d from c fs ++ cond (carries_on (record { control = connection 0 c.control fs; user = connection d c.user fs })) (information d from f) []
state_more d from c [] f = append-nil (cond (carries_on c) (information d from f) [])
state_more d from c (g ∷ fs) f =
    ap (λ (xs : List ℕ). cond (carries_on c) (information d from g) [] ++ xs) (state_more d from (connections_after d c g) fs f)
    ∙ sym (append_assoc (cond (carries_on c) (information d from g) []) (carried d from (connections_after d c g) fs) (cond (carries_on (record { control = connection 0 (passing 0 g c.control) fs; user = connection d (passing d g c.user) fs })) (information d from f) []))

pub looks-back : LooksBack
looks-back = record {
  opened = λ d fs. (λ is. idle_open (steps d fs) (sym (walked d Idle fs) ∙ is), λ o. walked d Idle fs ∙ opened_walk (steps d fs) o);
  brings = λ d from fs f. state_more d from no_connections fs f;
}
