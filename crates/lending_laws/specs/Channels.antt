-- The channels that a host in code lends, read off the units that move between it and its controller (Core 5.1, Volume 3 Part A, 4 and 7).
use Rattle.std.specs.Prelude.{ℕ, false, true, List, Option}
use Rattle.std.specs.List.{AllByRecursion}
use Rattle.call_laws.specs.bt_host.specs.bt_base.specs.Objects.{Object, Contents}
use Rattle.call_laws.specs.bt_host.specs.bt_base.specs.declared.settings.Settings.{Settings}
use Rattle.call_laws.specs.bt_host.specs.push_terms.specs.declared.word.Side.{Side}
use Rattle.call_laws.specs.bt_host.specs.push_terms.specs.declared.word.Side.TheVariants as sides
use Rattle.call_laws.specs.bt_host.specs.capture.specs.Entries.{Entry}
use Rattle.call_laws.specs.bt_host.specs.capture.specs.Links.{link_up}
use Rattle.call_laws.specs.bt_host.specs.capture.specs.Moves.{Move}
use Rattle.call_laws.specs.bt_host.specs.channel_model.specs.Policies.{policy}
use Rattle.call_laws.specs.bt_host.specs.host_link.specs.declared.role.Role.{Role}
use Rattle.call_laws.specs.bt_host.specs.host_link.specs.declared.role.Role.TheVariants.{Client, Server}
use Rattle.call_laws.specs.bt_host.specs.host_model.specs.Circumstances.{Circumstance}
use Rattle.call_laws.specs.bt_host.specs.host_model.specs.Clients.{ClientProfile}
use Rattle.call_laws.specs.bt_host.specs.host_model.specs.Profiles.{Profile}
use Rattle.call_laws.specs.bt_host.specs.Noting.{Noted}
use Rattle.call_laws.specs.bt_host.specs.NotedHosts.{noted_client, noted_server, client_noting, server_noting}
use Rattle.call_laws.specs.bt_host.specs.Playing.{fresh_client, fresh_server}
use Rattle.call_laws.specs.bt_host.specs.PushingLaws.{Answers}
use Rattle.call_laws.specs.bt_host.specs.Serving.{Served, Asks}
use Rattle.call_laws.specs.bt_host.specs.Shells.{Shelled}
use Rattle.call_laws.specs.bt_host.specs.Stacks.{Stacked}
use Rattle.call_laws.specs.unit_laws.specs.scenario_laws.specs.Parties.{party_of}
use Rattle.call_laws.specs.unit_laws.specs.Holding.{AreChannelsAt}
use Rattle.call_laws.specs.unit_laws.specs.Living.{HaveCommands}
use Rattle.call_laws.specs.unit_laws.specs.Units.{lone_capture}
use Rattle.orderly_laws.specs.Channels.{AreOfLinkUp}
use Rattle.call_laws.specs.HostCalls.{HostCall, AreImpulses}
use Rattle.call_laws.specs.Impulses.{Impulse, HasImpulses, MovesFromStart}
use Rattle.lending_laws.specs.InTurn.{AllIsSaid, ComeQuietly, FiresNot}

-- These units moved with the impulses that came to a host, and of them, where each PDU on the signalling channel has one command, this is so.
pub record AsMoved {E S P : Type 0} (A : Profile S) (Answered : P → List Circumstance → P → Type 0) (pushing : E → P → List Circumstance → S) (role : Role) (side : Side) (IsSo : List Entry → Type 0) (impulses : List Impulse) (old new : Stacked E) (has : HasImpulses A Answered pushing impulses old new) : Type 0 where
  pub moves : List Move
  pub move : MovesFromStart A Answered pushing role impulses old new has moves
  pub so : HaveCommands side (lone_capture side moves) → IsSo (lone_capture side moves)

-- Whatever a maker called of a host, where what came with that came in turn, its channels are those that its units say, each open exactly where they say so, on the
-- link that is up.
abbrev pub ClientsShow : Type 0 → Type 0
ClientsShow P = (content : P → Option (List Object)) (faults shortages : P → ℕ) (settings : Settings) (shelf : P) (calls : List HostCall) (now : Shelled (Noted ClientProfile)) (impulses : List Impulse)
    → (come : AreImpulses noted_client (Answers content faults shortages) (client_noting content) calls (fresh_client settings) now impulses)
    → ComeQuietly (noted_client settings) (Answers content faults shortages) (client_noting content) impulses (fresh_client settings).stack now.stack come.has shelf
    → AsMoved (noted_client settings) (Answers content faults shortages) (client_noting content) Client sides.A
    (λ (capture : List Entry). AreChannelsAt (policy settings false) (party_of settings sides.A) (AllIsSaid now.stack) (link_up sides.A capture) now.stack.upper.machine.channels) impulses (fresh_client settings).stack now.stack come.has

abbrev pub ServersShow : Type 0 → Type 0
ServersShow P = (content : P → Option Contents) (faults shortages : P → ℕ) (settings : Settings) (inbox : P) (calls : List HostCall) (now : Shelled (Noted Served)) (impulses : List Impulse)
    → (come : AreImpulses noted_server (Asks faults shortages) (server_noting content) calls (fresh_server settings) now impulses)
    → ComeQuietly (noted_server settings) (Asks faults shortages) (server_noting content) impulses (fresh_server settings).stack now.stack come.has inbox
    → AsMoved (noted_server settings) (Asks faults shortages) (server_noting content) Server sides.B
    (λ (capture : List Entry). AreChannelsAt (policy settings true) (party_of settings sides.B) (AllIsSaid now.stack) (link_up sides.B capture) now.stack.upper.machine.channels) impulses (fresh_server settings).stack now.stack come.has

-- And of a server whose timer never fired they are those of what moved alone.
abbrev pub ServersShowWhatMoved : Type 0 → Type 0
ServersShowWhatMoved P = (content : P → Option Contents) (faults shortages : P → ℕ) (settings : Settings) (inbox : P) (calls : List HostCall) (now : Shelled (Noted Served)) (impulses : List Impulse)
    → (come : AreImpulses noted_server (Asks faults shortages) (server_noting content) calls (fresh_server settings) now impulses)
    → ComeQuietly (noted_server settings) (Asks faults shortages) (server_noting content) impulses (fresh_server settings).stack now.stack come.has inbox → AllByRecursion FiresNot impulses
    → AsMoved (noted_server settings) (Asks faults shortages) (server_noting content) Server sides.B
    (λ (capture : List Entry). AreOfLinkUp (policy settings true) (party_of settings sides.B) (AllIsSaid now.stack) (link_up sides.B capture) now.stack.upper.machine.channels) impulses (fresh_server settings).stack now.stack come.has
