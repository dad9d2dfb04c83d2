-- Where the controller of a host in code takes one packet more whenever a maker tells that something, by the units that move between the two alone: no answer waits
-- for a buffer then (Core 5.1, Volume 2 Part E, 4.1.1).
use Rattle.std.specs.Prelude.{ℕ, ◌≡◌, true, false, is_some, List, ◌∷◌, ◌++◌, Option}
use Rattle.std.specs.List.{AllByRecursion}
use Rattle.call_laws.specs.bt_host.specs.bt_base.specs.Objects.{Object, Contents}
use Rattle.call_laws.specs.bt_host.specs.bt_base.specs.declared.settings.Settings.{Settings}
use Rattle.call_laws.specs.bt_host.specs.push_terms.specs.declared.word.Side.{Side}
use Rattle.call_laws.specs.bt_host.specs.push_terms.specs.declared.word.Side.TheVariants as sides
use Rattle.call_laws.specs.bt_host.specs.capture.specs.Links.{linking, link_up}
use Rattle.call_laws.specs.bt_host.specs.capture.specs.Moves.{Move}
use Rattle.call_laws.specs.bt_host.specs.channel_model.specs.Policies.{policy}
use Rattle.call_laws.specs.unit_laws.specs.scenario_laws.specs.h4_framing.specs.Packets.{Packet}
use Rattle.call_laws.specs.bt_host.specs.host_link.specs.PuttingOut.{started}
use Rattle.call_laws.specs.bt_host.specs.host_link.specs.declared.role.Role.{Role}
use Rattle.call_laws.specs.bt_host.specs.host_link.specs.declared.role.Role.TheVariants.{Client, Server}
use Rattle.call_laws.specs.bt_host.specs.host_model.specs.Clients.{ClientProfile}
use Rattle.call_laws.specs.bt_host.specs.Noting.{Noted}
use Rattle.call_laws.specs.bt_host.specs.NotedHosts.{noted_client, noted_server, client_noting, server_noting}
use Rattle.call_laws.specs.bt_host.specs.Playing.{fresh_client, fresh_server}
use Rattle.call_laws.specs.bt_host.specs.Pushing as pushed
use Rattle.call_laws.specs.bt_host.specs.PushingLaws.{Answers}
use Rattle.call_laws.specs.bt_host.specs.Serving as served
use Rattle.call_laws.specs.bt_host.specs.Serving.{Served, Asks}
use Rattle.call_laws.specs.bt_host.specs.Shells.{Shelled}
use Rattle.call_laws.specs.unit_laws.specs.scenario_laws.specs.Parties.{party_of}
use Rattle.call_laws.specs.unit_laws.specs.Capacity.{takes_more}
use Rattle.call_laws.specs.unit_laws.specs.Holding.{AreChannelsAt, AreOfRun}
use Rattle.call_laws.specs.unit_laws.specs.Living.{HaveCommands}
use Rattle.call_laws.specs.unit_laws.specs.Units.{lone_capture}
use Rattle.orderly_laws.specs.Channels.{AreOfLinkUp}
use Rattle.receive_laws.specs.Freely.{ComesFree}
use Rattle.receive_laws.specs.Moving.{MoveFromStart}
use Rattle.call_laws.specs.HostCalls.{HostCall, Feed, OnTimer, Push, Cancel, PutOut, Taken, PageDevice}
use Rattle.call_laws.specs.unit_laws.specs.Timed.{Tick, timed}
use Rattle.lending_laws.specs.Steps.{Step, turns_of, HasSteps, TickFromStart}

-- where a link is up, its controller takes one packet more
abbrev pub IsBufferFree : List Move → Type 0
IsBufferFree moved = is_some (linking moved).up ≡ true → takes_more moved ≡ true

-- so it is behind these units where a PDU is whole with a call, or a Connection Complete, and where the timer fires or a push begins or is given up
abbrev pub TellsFreely : HostCall → Option Packet → List Move → Type 0
TellsFreely (Feed piece) packet moved = ComesFree moved packet
TellsFreely OnTimer packet moved = IsBufferFree moved
TellsFreely (Push name) packet moved = IsBufferFree moved
TellsFreely Cancel packet moved = IsBufferFree moved
TellsFreely PutOut packet moved = Unit {0}
TellsFreely (Taken count) packet moved = Unit {0}
TellsFreely (PageDevice address) packet moved = Unit {0}

-- So it is at each call, behind all that moved before it.
abbrev pub AreTold : (said : List ℕ) → List Step → Type 0
AreTold said steps = (ahead : List Step) (step : Step) (behind : List Step) → steps ≡ ahead ++ step ∷ behind → (moved : List Move) → MoveFromStart said (turns_of ahead) moved → TellsFreely step.call step.turn.packet moved

-- its timer does not fire
abbrev pub FiresNever : Step → Type 0
FiresNever step = (step.call ≡ OnTimer) → ⊥

-- ---- what it lends

-- These units moved with the calls of a new host, from its first command on, and of them, where each PDU on the signalling channel has one command, this is so.
pub record AreMoved (role : Role) (side : Side) (steps : List Step) (IsSo : List Move → Type 0) : Type 0 where
  pub moves : List Move
  pub move : MoveFromStart (started role).out (turns_of steps) moves
  pub so : HaveCommands side (lone_capture side moves) → IsSo moves

-- And these ticked: the same units, with the firings of its timer between.
pub record AreTimed (role : Role) (side : Side) (steps : List Step) (IsSo : List Move → List Tick → Type 0) : Type 0 where
  pub moves : List Move
  pub move : MoveFromStart (started role).out (turns_of steps) moves
  pub list : List Tick
  pub tick : TickFromStart (started role).out steps list
  pub so : HaveCommands side (lone_capture side moves) → IsSo moves list

-- Whatever a maker called of a new host, where it was told all freely: its channels are those that its units say, each open exactly where they say so, on the link
-- that is up; and where its controller takes one packet more, nothing that it said waits.
abbrev pub FreeClientsShow : Type 0 → Type 0
FreeClientsShow P = (content : P → Option (List Object)) (faults shortages : P → ℕ) (settings : Settings) (shelf shelf' : P) (steps : List Step) (now : Shelled (Noted ClientProfile))
    → HasSteps noted_client (Answers content faults shortages) (pushed.Lacks shortages) (client_noting content) steps (fresh_client settings) now shelf shelf' → AreTold (started Client).out steps
    → AreMoved Client sides.A steps (λ moves. AreChannelsAt (policy settings false) (party_of settings sides.A) (IsBufferFree moves) (link_up sides.A (lone_capture sides.A moves)) now.stack.upper.machine.channels)

abbrev pub FreeServersShow : Type 0 → Type 0
FreeServersShow P = (content : P → Option Contents) (faults shortages : P → ℕ) (settings : Settings) (inbox inbox' : P) (steps : List Step) (now : Shelled (Noted Served))
    → HasSteps noted_server (Asks faults shortages) (served.Lacks shortages) (server_noting content) steps (fresh_server settings) now inbox inbox' → AreTold (started Server).out steps
    → AreMoved Server sides.B steps (λ moves. AreChannelsAt (policy settings true) (party_of settings sides.B) (IsBufferFree moves) (link_up sides.B (lone_capture sides.B moves)) now.stack.upper.machine.channels)

-- And of a server whose timer never fired they are those of what moved alone.
abbrev pub FreeServersShowWhatMoved : Type 0 → Type 0
FreeServersShowWhatMoved P = (content : P → Option Contents) (faults shortages : P → ℕ) (settings : Settings) (inbox inbox' : P) (steps : List Step) (now : Shelled (Noted Served))
    → HasSteps noted_server (Asks faults shortages) (served.Lacks shortages) (server_noting content) steps (fresh_server settings) now inbox inbox' → AreTold (started Server).out steps → AllByRecursion FiresNever steps
    → AreMoved Server sides.B steps (λ moves. AreOfLinkUp (policy settings true) (party_of settings sides.B) (IsBufferFree moves) (link_up sides.B (lone_capture sides.B moves)) now.stack.upper.machine.channels)

-- ---- with its timer

-- The channels that a new host lends, where it was told all freely, are those of a run to which happened what moved on the last link, and the firings of its timer
-- between, each in its place.
abbrev pub FreeClientsRun : Type 0 → Type 0
FreeClientsRun P = (content : P → Option (List Object)) (faults shortages : P → ℕ) (settings : Settings) (shelf shelf' : P) (steps : List Step) (now : Shelled (Noted ClientProfile))
    → HasSteps noted_client (Answers content faults shortages) (pushed.Lacks shortages) (client_noting content) steps (fresh_client settings) now shelf shelf' → AreTold (started Client).out steps
    → AreTimed Client sides.A steps (λ moves list. AreOfRun (policy settings false) (IsBufferFree moves) (timed list) now.stack.upper.machine.channels)

abbrev pub FreeServersRun : Type 0 → Type 0
FreeServersRun P = (content : P → Option Contents) (faults shortages : P → ℕ) (settings : Settings) (inbox inbox' : P) (steps : List Step) (now : Shelled (Noted Served))
    → HasSteps noted_server (Asks faults shortages) (served.Lacks shortages) (server_noting content) steps (fresh_server settings) now inbox inbox' → AreTold (started Server).out steps
    → AreTimed Server sides.B steps (λ moves list. AreOfRun (policy settings true) (IsBufferFree moves) (timed list) now.stack.upper.machine.channels)
