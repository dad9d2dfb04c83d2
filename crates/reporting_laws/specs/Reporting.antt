-- The outcome that a client in code tells of its push, read off what its maker calls of it and the units that move between it and its controller (Object Push
-- Profile 1.2, 4.3; IrOBEX 1.5, 3.2 and 3.4).
use Rattle.std.specs.Prelude.{ℕ, ◌≡◌, ◌↔◌, List, ◌∷◌, ◌++◌, Option, Some, None, IfSome}
use Rattle.std.specs.List.{flat_map}
use Rattle.lending_laws.specs.call_laws.specs.bt_host.specs.bt_base.specs.Objects.{Object}
use Rattle.lending_laws.specs.call_laws.specs.bt_host.specs.bt_base.specs.declared.settings.Settings.{Settings}
use Rattle.lending_laws.specs.call_laws.specs.bt_host.specs.push_terms.specs.declared.outcome.Outcome.{Outcome}
use Rattle.lending_laws.specs.call_laws.specs.bt_host.specs.push_terms.specs.declared.word.Side.TheVariants.{A}
use Rattle.lending_laws.specs.call_laws.specs.bt_host.specs.capture.specs.Moves.{Move}
use Rattle.lending_laws.specs.call_laws.specs.bt_host.specs.host_link.specs.PuttingOut.{started}
use Rattle.lending_laws.specs.call_laws.specs.bt_host.specs.host_link.specs.declared.role.Role.TheVariants.{Client as Paging}
use Rattle.lending_laws.specs.call_laws.specs.bt_host.specs.host_model.specs.Clients.{ClientProfile, client_profile}
use Rattle.lending_laws.specs.call_laws.specs.bt_host.specs.host_model.specs.Hosts.{Host}
use Rattle.lending_laws.specs.call_laws.specs.bt_host.specs.push_model.specs.Client.{new_client}
use Rattle.lending_laws.specs.call_laws.specs.bt_host.specs.Noting.{Noted}
use Rattle.lending_laws.specs.call_laws.specs.bt_host.specs.NotedHosts.{noted_client, client_noting}
use Rattle.lending_laws.specs.call_laws.specs.bt_host.specs.Playing.{fresh_client}
use Rattle.lending_laws.specs.call_laws.specs.bt_host.specs.Pushing.{Lacks}
use Rattle.lending_laws.specs.call_laws.specs.bt_host.specs.PushingLaws.{Answers}
use Rattle.lending_laws.specs.call_laws.specs.bt_host.specs.Shells.{Shelled}
use Rattle.outcome_laws.specs.unit_laws.specs.scenario_laws.specs.h4_framing.specs.Packets.{Packet}
use Rattle.outcome_laws.specs.unit_laws.specs.Living.{LivesBy}
use Rattle.outcome_laws.specs.unit_laws.specs.Units.{lone_capture}
use Rattle.outcome_laws.specs.cause_laws.specs.host_laws.specs.Calls.{HostsAsk}
use Rattle.outcome_laws.specs.cause_laws.specs.host_laws.specs.OverLinks.{talk_marks}
use Rattle.outcome_laws.specs.cause_laws.specs.host_laws.specs.Pushing.{Affair, pushed}
use Rattle.outcome_laws.specs.cause_laws.specs.Said.{Decision, decision_of}
use Rattle.outcome_laws.specs.BroughtAbout.{since_begun, HasCause}
use Rattle.outcome_laws.specs.FirstCause.{first_cause}
use Rattle.outcome_laws.specs.SaidWith.{IsSaidWith, BeginsNone}
use Rattle.lending_laws.specs.receive_laws.specs.Moving.{MoveFromStart}
use Rattle.lending_laws.specs.Comings.{comings_along}
use Rattle.lending_laws.specs.Freely.{AreTold, AreMoved}
use Rattle.lending_laws.specs.Steps.{Step, turns_of, HasSteps}
use Rattle.reporting_laws.specs.Exactly.{IsHeardFirst}

-- ---- what it tells

-- what `outcome` answers
abbrev pub outcome_told : Shelled (Noted ClientProfile) → Option Outcome
outcome_told now = now.stack.upper.end.end.client.cause

-- ---- the first cause

-- all that happened to the client of a host that lives by these units
abbrev pub happened_to : (asks : HostsAsk) (settings : Settings) (moves : List Move) (host : Host ClientProfile) → LivesBy (client_profile settings) (asks.clients settings) A (lone_capture A moves) host → List Affair
happened_to asks settings moves host lives = pushed settings (asks.clients settings) (flat_map talk_marks lives.came.talk) host lives.so.lives

-- A host that lives by these units, and whose client is that of the client in code: what this tells is the first cause of all that happened to it so. It tells what an SDU
-- says exactly where that is heard first.
pub record TellsFirstCause (asks : HostsAsk) (settings : Settings) (moves : List Move) (now : Shelled (Noted ClientProfile)) : Type 0 where
  pub host : Host ClientProfile
  pub client_is : host.profile.client ≡ now.stack.upper.end.end.client
  pub lives : LivesBy (client_profile settings) (asks.clients settings) A (lone_capture A moves) host
  pub first : outcome_told now ≡ first_cause (happened_to asks settings moves host lives) (new_client settings) None
  pub exactly : (outcome : Outcome) (decision : Decision) → decision_of outcome ≡ Some decision → (outcome_told now ≡ Some outcome) ↔ IsHeardFirst settings outcome (happened_to asks settings moves host lives)

-- ---- what says so

-- With one of these calls a piece of a PDU was whole, and behind that call no push was begun; by the units that moved before, it is said with that piece.
pub record WasFed (settings : Settings) (decision : Decision) (steps : List Step) : Type 0 where
  pub ahead : List Step
  pub step : Step
  pub behind : List Step
  pub steps_are : steps ≡ ahead ++ step ∷ behind
  pub none_begun : BeginsNone (comings_along behind)
  pub piece : Packet
  pub packet_is : step.turn.packet ≡ Some piece
  pub moved : List Move
  pub move : MoveFromStart (started Paging).out (turns_of ahead) moved
  pub said : IsSaidWith settings decision moved piece

-- ---- what it reports

-- One thing that came with the calls since a push last began brought about what it tells. And of the units that moved: that is the first cause, and where an SDU says it
-- that was fed.
pub record ClientReports (asks : HostsAsk) (settings : Settings) (steps : List Step) (now : Shelled (Noted ClientProfile)) : Type 0 where
  pub brought : IfSome (outcome_told now) (λ outcome. HasCause outcome (since_begun (comings_along steps)))
  pub moved : AreMoved Paging A steps (λ moves. TellsFirstCause asks settings moves now × IfSome (outcome_told now) (λ outcome. IfSome (decision_of outcome) (λ decision. WasFed settings decision steps)))

-- So does a client, whatever a maker called of it, where it was told all freely.
abbrev pub ClientsReport : Type 0 → Type 0
ClientsReport P = (asks : HostsAsk) (content : P → Option (List Object)) (faults shortages : P → ℕ) (settings : Settings) (shelf shelf' : P) (steps : List Step) (now : Shelled (Noted ClientProfile))
    → HasSteps noted_client (Answers content faults shortages) (Lacks shortages) (client_noting content) steps (fresh_client settings) now shelf shelf' → AreTold (started Paging).out steps → ClientReports asks settings steps now
