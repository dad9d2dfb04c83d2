-- What a maker calls of a host in code, one call after the other, and what it sees of each: the packet that is whole with the octets that it feeds, and the octets
-- that the host puts out (this project's own).
use Rattle.std.specs.Prelude.{ℕ, ◌≡◌, ◌<◌, List, [], ◌∷◌, ◌++◌, map, length, drop, option_to_list}
use Rattle.std.specs.List.{AllByRecursion}
use Rattle.call_laws.specs.bt_host.specs.bt_base.specs.declared.settings.Settings.{Settings}
use Rattle.call_laws.specs.unit_laws.specs.scenario_laws.specs.h4_framing.specs.Packets.{spellings, IsPacket}
use Rattle.call_laws.specs.bt_host.specs.host_model.specs.Circumstances.{Circumstance}
use Rattle.call_laws.specs.bt_host.specs.host_model.specs.Profiles.{Profile}
use Rattle.call_laws.specs.bt_host.specs.Refusals.{acl_limit}
use Rattle.call_laws.specs.bt_host.specs.Shells.{Shelled}
use Rattle.call_laws.specs.bt_host.specs.capture.specs.Moves.{Move}
use Rattle.receiving.specs.Turns.{Turn}
use Rattle.receive_laws.specs.Moving.{MovesWith, opening}
use Rattle.call_laws.specs.unit_laws.specs.Timed.{Tick, Moves, Fires}
use Rattle.call_laws.specs.HostCalls.{HostCall, Feed, OnTimer, Push, Cancel, PutOut, Taken, PageDevice, piece_of, Calls}

-- a call, and what moves with it
pub record Step : Type 0 where
  pub call : HostCall
  pub turn : Turn

abbrev pub turns_of : List Step → List Turn
turns_of steps = map (λ (step : Step). step.turn) steps

-- what is left of the octets that waited to be taken
abbrev pub left_by : HostCall → List ℕ → List ℕ
left_by (Taken count) out = drop count out
left_by (Feed piece) out = out
left_by OnTimer out = out
left_by (Push name) out = out
left_by Cancel out = out
left_by PutOut out = out
left_by (PageDevice address) out = out

-- a port is left as it was by a call that does not ask it
abbrev pub KeepsPort : {P : Type 0} → HostCall → (port port' : P) → Type 0
KeepsPort (Taken count) port port' = port' ≡ port
KeepsPort (PageDevice address) port port' = port' ≡ port
KeepsPort (Feed piece) port port' = Unit {0}
KeepsPort OnTimer port port' = Unit {0}
KeepsPort (Push name) port port' = Unit {0}
KeepsPort Cancel port port' = Unit {0}
KeepsPort PutOut port port' = Unit {0}

module _ {E S P : Type 0} (profile : Settings → Profile S) (Answers : P → List Circumstance → P → Type 0) (Lacked : P → P → Type 0) (pushing : E → P → List Circumstance → S) where
  -- The call answered Ok. The packet, if there is one, is all that is whole with what it fed; these octets were put out; and fewer than 65,536 wait behind it.
  pub record Takes (step : Step) (old new : Shelled E) (port port' : P) : Type 0 where
    pub calls : Calls profile Answers Lacked pushing step.call old new port port'
    pub each : AllByRecursion (IsPacket acl_limit) (option_to_list step.turn.packet)
    pub whole : old.framing.held ++ piece_of step.call ≡ spellings (option_to_list step.turn.packet) ++ new.framing.held
    pub out : new.stack.line.out ≡ left_by step.call old.stack.line.out ++ step.turn.said
    pub room : length new.stack.line.out < 65536
    pub keeps : KeepsPort step.call port port'

  -- one after the other; between them nobody changes its port
  abbrev pub HasSteps : List Step → (old new : Shelled E) → (port port' : P) → Type 0
  HasSteps [] old new port port' = (new ≡ old) × (port' ≡ port)
  HasSteps (step ∷ steps) old new port port' = (mid : Shelled E) × (next : P) × Takes step old mid port next × HasSteps steps mid new next port'

-- ---- what moves with them, and where the timer fires

abbrev pub call_ticks : HostCall → List Tick
call_ticks OnTimer = Fires ∷ []
call_ticks (Feed piece) = []
call_ticks (Push name) = []
call_ticks Cancel = []
call_ticks PutOut = []
call_ticks (Taken count) = []
call_ticks (PageDevice address) = []

-- with one call its timer fires, if it is that call, and then these units move
pub record TicksWith (step : Step) (list : List Tick) : Type 0 where
  pub moves : List Move
  pub move : MovesWith step.turn moves
  pub ticks_are : list ≡ call_ticks step.call ++ map Moves moves

abbrev pub TickInSteps : List Step → List Tick → Type 0
TickInSteps [] list = list ≡ []
TickInSteps (step ∷ steps) list = (first rest : List Tick) × TicksWith step first × TickInSteps steps rest × (list ≡ first ++ rest)

-- from the first moment on, where these octets were put out
abbrev pub TickFromStart : (said : List ℕ) → List Step → List Tick → Type 0
TickFromStart said steps list = (first : List Move) × (rest : List Tick) × MovesWith (opening said) first × TickInSteps steps rest × (list ≡ map Moves first ++ rest)
