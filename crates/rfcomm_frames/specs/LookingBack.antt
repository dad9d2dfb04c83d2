-- How far a connection is, looking back over all that passed on it (TS 07.10, 5.4.1 and 5.4.2).
use Rattle.std.specs.Prelude.{ℕ, ◌≡◌, ◌≢◌, ◌⊎◌, ◌↔◌, ◌==◌, ◌&&◌, List, [], ◌∷◌, ◌++◌, Option, Some, None, if◌then◌else◌}
use Rattle.std.specs.List.{filter_map, AllByRecursion}
use Rattle.rfcomm_frames.specs.declared.frame.MuxKind.{MuxKind}
use Rattle.rfcomm_frames.specs.declared.frame.MuxKind.TheVariants.{Sabm, Ua, Dm, Disc, Uih}
use Rattle.rfcomm_frames.specs.declared.connection.Role.{Role}
use Rattle.rfcomm_frames.specs.declared.connection.Role.TheVariants.{Initiator, Responder}
use Rattle.rfcomm_frames.specs.declared.connection.Dlc.{Dlc}
use Rattle.rfcomm_frames.specs.declared.connection.Dlc.TheVariants.{Idle, Asked, Open, Ended}
use Rattle.rfcomm_frames.specs.Multiplexing.{Framed, Connections, passing, no_connections, connections_after, carries_on, information, carried}

-- what matters to a connection: SABM of the initiator, UA of the responder, DISC of either, each with the P/F bit
pub data Step : Type 0 where
  asks : Step
  agrees : Step
  leaves : (from : Role) → Step

abbrev pub step_by : Role → MuxKind → Option Step
step_by Initiator Sabm = Some asks
step_by Responder Sabm = None
step_by Initiator Ua = None
step_by Responder Ua = Some agrees
step_by from Dm = None
step_by from Disc = Some (leaves from)
step_by from Uih = None

abbrev pub step_of : ℕ → Framed → Option Step
step_of dlci f = if (f.frame.dlci == dlci) && f.frame.pf then step_by f.from f.frame.kind else None

abbrev pub steps : ℕ → List Framed → List Step
steps dlci fs = filter_map (step_of dlci) fs

abbrev pub IsNoAsking : Step → Type 0
IsNoAsking asks = ⊥
IsNoAsking agrees = Unit {0}
IsNoAsking (leaves from) = Unit {0}

-- neither the responder agrees nor the initiator leaves
abbrev pub IsPending : Step → Type 0
IsPending asks = Unit {0}
IsPending agrees = ⊥
IsPending (leaves Initiator) = ⊥
IsPending (leaves Responder) = Unit {0}

abbrev pub IsStaying : Step → Type 0
IsStaying asks = Unit {0}
IsStaying agrees = Unit {0}
IsStaying (leaves from) = ⊥

-- it is open: the first asking was agreed to before the initiator left, and nobody left since
pub record IsOpened (all : List Step) : Type 0 where
  pub before : List Step
  pub between : List Step
  pub since : List Step
  pub parts : all ≡ before ++ (asks ∷ (between ++ (agrees ∷ since)))
  pub first : AllByRecursion IsNoAsking before
  pub pending : AllByRecursion IsPending between
  pub staying : AllByRecursion IsStaying since

-- the same in one pass
abbrev pub connection : ℕ → Dlc → List Framed → Dlc
connection dlci dlc [] = dlc
connection dlci dlc (f ∷ fs) = connection dlci (passing dlci f dlc) fs

abbrev pub connections : ℕ → List Framed → Connections
connections dlci fs = record { control = connection 0 Idle fs; user = connection dlci Idle fs }

-- A connection is open in one pass exactly where it is, looking back; and each frame brings its information exactly where
-- the connections, after all frames before it, carry octets.
pub record LooksBack : Type 0 where
  pub opened : (dlci : ℕ) (fs : List Framed) → (connection dlci Idle fs ≡ Open) ↔ IsOpened (steps dlci fs)
  pub brings : (dlci : ℕ) (from : Role) (fs : List Framed) (f : Framed) →
      carried dlci from no_connections (fs ++ f ∷ []) ≡ carried dlci from no_connections fs ++ (if carries_on (connections dlci fs) then information dlci from f else [])
