-- The channels that a host in code lends, whatever a maker calls of it (Core 5.1, Volume 3 Part A, 4, 6 and 7).
use Rattle.std.specs.Prelude.{ℕ, ◌≡◌, true, false, List, [], ◌++◌, map, Option, None}
use Rattle.std.specs.List.{filter_map}
use Rattle.call_laws.specs.bt_host.specs.bt_base.specs.Objects.{Object, Contents}
use Rattle.call_laws.specs.bt_host.specs.bt_base.specs.declared.settings.Settings.{Settings}
use Rattle.call_laws.specs.bt_host.specs.push_terms.specs.declared.word.Side.TheVariants as sides
use Rattle.call_laws.specs.bt_host.specs.capture.specs.Links.{linking}
use Rattle.call_laws.specs.bt_host.specs.channel_model.specs.Policies.{Policy, policy}
use Rattle.call_laws.specs.bt_host.specs.channel_model.specs.Value.{no_channels}
use Rattle.call_laws.specs.bt_host.specs.host_link.specs.declared.role.Role.{Role}
use Rattle.call_laws.specs.bt_host.specs.host_link.specs.declared.role.Role.TheVariants.{Client, Server}
use Rattle.call_laws.specs.bt_host.specs.host_model.specs.Circumstances.{Circumstance}
use Rattle.call_laws.specs.bt_host.specs.host_model.specs.Clients.{ClientProfile}
use Rattle.call_laws.specs.bt_host.specs.host_model.specs.Profiles.{Profile}
use Rattle.call_laws.specs.bt_host.specs.Noting.{Noted}
use Rattle.call_laws.specs.bt_host.specs.NotedHosts.{noted_client, noted_server, client_noting, server_noting}
use Rattle.call_laws.specs.bt_host.specs.Playing.{fresh_client, fresh_server}
use Rattle.call_laws.specs.bt_host.specs.Pushing as pushed
use Rattle.call_laws.specs.bt_host.specs.PushingLaws.{Answers}
use Rattle.call_laws.specs.bt_host.specs.Serving as served
use Rattle.call_laws.specs.bt_host.specs.Serving.{Served, Asks}
use Rattle.call_laws.specs.bt_host.specs.Shells.{Shelled, settings_of}
use Rattle.call_laws.specs.unit_laws.specs.scenario_laws.specs.channel_laws.specs.Runs.{Occurrence, Gives}
use Rattle.call_laws.specs.unit_laws.specs.scenario_laws.specs.host_laws.specs.Calls.{outer}
use Rattle.call_laws.specs.unit_laws.specs.scenario_laws.specs.link_talk.specs.declared.party.Party.{Party}
use Rattle.call_laws.specs.unit_laws.specs.scenario_laws.specs.Parties.{party_of}
use Rattle.call_laws.specs.unit_laws.specs.Capacity.{takes_more}
use Rattle.call_laws.specs.unit_laws.specs.Timed.{Tick, timed}
use Rattle.call_laws.specs.HostCalls.{HostCall, HasCalls, AreImpulses}
use Rattle.call_laws.specs.Impulses.{Impulse}
use Rattle.call_laws.specs.Laws.{IsRead}
use Rattle.holding_laws.specs.InOrder.{AreToldFromStart}
use Rattle.holding_laws.specs.Incidents.{MayAskAll, MaySendAlone, AreOfIncidents}
use Rattle.holding_laws.specs.Ticking.{moves_among, TicksFromStart, room_along}

-- What a maker called of a new host came to it as these impulses, with all packets that are whole of what it fed; with them units moved and its timer fired,
-- in this order. Its ledger is what these units say, and its channels are those of what so happened on the link that is up; where none is there are none.
-- Where its controller takes one packet more, and room for more was left where it went on last, no PDU is under way. Where that was so whenever a PDU had
-- come in whole or the timer fired, all happened to its channels in the order of the units, and behind that the PDU that is under way was given.
pub record HoldsAsTicked {E S P : Type 0} (profile : Settings → Profile S) (Answered : P → List Circumstance → P → Type 0) (pushing : E → P → List Circumstance → S) (role : Role) (rules : Policy) (party : Party) (MayAsk : Occurrence → Type 0) (calls : List HostCall) (first now : Shelled E) : Type 0 where
  pub impulses : List Impulse
  pub come : AreImpulses profile Answered pushing calls first now impulses
  pub list : List Tick
  pub tick : TicksFromStart (profile (settings_of first)) Answered pushing role impulses first.stack now.stack come.has list
  pub channels : AreOfIncidents rules party MayAsk (timed list) now.stack.upper.machine.channels
  pub read : IsRead (moves_among list) now.stack.line
  pub none_waits : room_along (profile (settings_of first)) Answered pushing impulses first.stack now.stack come.has true ≡ true → takes_more (moves_among list) ≡ true → channels.under_way ≡ []
  pub in_order : AreToldFromStart (profile (settings_of first)) Answered pushing role impulses first.stack now.stack come.has → filter_map outer channels.list ≡ timed list ++ map Gives channels.under_way
  pub off : (linking (moves_among list)).up ≡ None → now.stack.upper.machine.channels ≡ no_channels

-- So it is of both hosts, whatever a maker called of them, in any order, with any ports, while none of its calls was refused or answered want of memory. A
-- server asks nothing of its channels but that SDUs be sent.
abbrev pub ClientsHold : Type 0 → Type 0
ClientsHold P = (content : P → Option (List Object)) (faults shortages : P → ℕ) (settings : Settings) (calls : List HostCall) (now : Shelled (Noted ClientProfile))
    → HasCalls noted_client (Answers content faults shortages) (pushed.Lacks shortages) (client_noting content) calls (fresh_client settings) now
    → HoldsAsTicked noted_client (Answers content faults shortages) (client_noting content) Client (policy settings false) (party_of settings sides.A) MayAskAll calls (fresh_client settings) now

abbrev pub ServersHold : Type 0 → Type 0
ServersHold P = (content : P → Option Contents) (faults shortages : P → ℕ) (settings : Settings) (calls : List HostCall) (now : Shelled (Noted Served))
    → HasCalls noted_server (Asks faults shortages) (served.Lacks shortages) (server_noting content) calls (fresh_server settings) now
    → HoldsAsTicked noted_server (Asks faults shortages) (server_noting content) Server (policy settings true) (party_of settings sides.B) MaySendAlone calls (fresh_server settings) now
