-- What a host in code lends, read off the units that move between it and its controller (Core 5.1, Volume 2 Part E, 4.1.1).
use Rattle.std.specs.Prelude.{ℕ, ◌≡◌, List, Option}
use Rattle.bt_host.specs.bt_base.specs.Objects.{Object, Contents}
use Rattle.bt_host.specs.bt_base.specs.declared.settings.Settings.{Settings}
use Rattle.unit_laws.specs.scenario_laws.specs.acl_credits.specs.Ledgers.{outstanding_on}
use Rattle.unit_laws.specs.scenario_laws.specs.h4_framing.specs.Stream.{IsUnfinished}
use Rattle.bt_host.specs.capture.specs.Buffers as buffers
use Rattle.bt_host.specs.capture.specs.Links.{linking}
use Rattle.bt_host.specs.capture.specs.Moves.{Move}
use Rattle.bt_host.specs.host_link.specs.declared.role.Role.{Role}
use Rattle.bt_host.specs.host_link.specs.declared.role.Role.TheVariants.{Client, Server}
use Rattle.bt_host.specs.host_link.specs.Lines.{Line}
use Rattle.bt_host.specs.host_link.specs.PuttingOut.{has_buffer}
use Rattle.bt_host.specs.host_model.specs.Circumstances.{Circumstance}
use Rattle.bt_host.specs.host_model.specs.Clients.{ClientProfile}
use Rattle.bt_host.specs.host_model.specs.Profiles.{Profile}
use Rattle.bt_host.specs.Noting.{Noted}
use Rattle.bt_host.specs.NotedHosts.{noted_client, noted_server, client_noting, server_noting}
use Rattle.bt_host.specs.Playing.{fresh_client, fresh_server}
use Rattle.bt_host.specs.Pushing as pushed
use Rattle.bt_host.specs.PushingLaws.{Answers}
use Rattle.bt_host.specs.Refusals.{acl_limit}
use Rattle.bt_host.specs.Serving as served
use Rattle.bt_host.specs.Serving.{Served, Asks}
use Rattle.bt_host.specs.Shells.{Shelled, settings_of}
use Rattle.unit_laws.specs.Capacity.{takes_more}
use Rattle.call_laws.specs.HostCalls.{HostCall, HasCalls, AreImpulses}
use Rattle.call_laws.specs.Impulses.{Impulse, MovesFromStart}

-- For every handle a ledger has the packets that these units leave outstanding there; and it has a buffer free exactly where they say so.
pub record IsRead (moves : List Move) (line : Line) : Type 0 where
  pub outstanding : (handle : ℕ) → outstanding_on line.ledger handle ≡ buffers.outstanding_on handle (linking moves).up
  pub free : has_buffer line ≡ takes_more moves

-- What a maker called of a new host came to it as these impulses, with all packets that are whole of what it fed; these units moved with them; and
-- the ledger is what they say.
pub record LendsAsMoved {E S P : Type 0} (profile : Settings → Profile S) (Answered : P → List Circumstance → P → Type 0) (pushing : E → P → List Circumstance → S) (role : Role) (calls : List HostCall) (first now : Shelled E) : Type 0 where
  pub impulses : List Impulse
  pub come : AreImpulses profile Answered pushing calls first now impulses
  pub unfinished : IsUnfinished acl_limit now.framing.held
  pub moves : List Move
  pub move : MovesFromStart (profile (settings_of first)) Answered pushing role impulses first.stack now.stack come.has moves
  pub read : IsRead moves now.stack.line

-- So it is of both hosts, whatever a maker called of them, in any order, while none of its calls was refused or answered want of memory.
abbrev pub ClientsLend : Type 0 → Type 0
ClientsLend P = (content : P → Option (List Object)) (faults shortages : P → ℕ) (settings : Settings) (calls : List HostCall) (now : Shelled (Noted ClientProfile))
    → HasCalls noted_client (Answers content faults shortages) (pushed.Lacks shortages) (client_noting content) calls (fresh_client settings) now
    → LendsAsMoved noted_client (Answers content faults shortages) (client_noting content) Client calls (fresh_client settings) now

abbrev pub ServersLend : Type 0 → Type 0
ServersLend P = (content : P → Option Contents) (faults shortages : P → ℕ) (settings : Settings) (calls : List HostCall) (now : Shelled (Noted Served))
    → HasCalls noted_server (Asks faults shortages) (served.Lacks shortages) (server_noting content) calls (fresh_server settings) now
    → LendsAsMoved noted_server (Asks faults shortages) (server_noting content) Server calls (fresh_server settings) now
