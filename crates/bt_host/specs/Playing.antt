-- A host as a world plays it (this project's own).
use Rattle.std.specs.Prelude.{◌≡◌, Bool, List, Option, None}
use Rattle.bt_base.specs.Objects.{Object, Contents}
use Rattle.push_terms.specs.declared.word.Side.{Side}
use Rattle.push_terms.specs.declared.word.Side.TheVariants.{A, B}
use Rattle.radio_world.specs.radio_model.specs.Controllers.{address}
use Rattle.bt_base.specs.declared.settings.Settings.{Settings}
use Rattle.shelf_model.specs.host_model.specs.Circumstances.{Circumstance}
use Rattle.shelf_model.specs.host_model.specs.Profiles.{Profile}
use Rattle.shelf_model.specs.host_model.specs.Clients.{ClientProfile}
use Rattle.shelf_model.specs.host_model.specs.Settings.{SetHost, set_to}
use Rattle.radio_world.specs.Hosts.{Asking}
use Rattle.line_laws.specs.Seeing.{seen, IsSeen}
use Rattle.bt_host.specs.Uppers.{asking}
use Rattle.bt_host.specs.Stacks.{Stacked, IsResting}
use Rattle.bt_host.specs.Shells.{Shelled}
use Rattle.bt_host.specs.Newness as served
use Rattle.bt_host.specs.Pushing as pushed
use Rattle.bt_host.specs.Pushing.{Pushes}
use Rattle.bt_host.specs.Refusals.{fresh_framing}
use Rattle.bt_host.specs.Serving.{Served, Works}
use Rattle.bt_host.specs.Noting.{Noted}
use Rattle.bt_host.specs.NotedHosts.{noted_client, client_noting, noted_server, server_noting}

-- hosts to which nothing has happened
abbrev pub fresh_client : Settings → Shelled (Noted ClientProfile)
fresh_client settings = record { framing = fresh_framing; stack = pushed.new_stack settings; refusal = None }

abbrev pub fresh_server : Settings → Shelled (Noted Served)
fresh_server settings = record { framing = fresh_framing; stack = served.new_stack settings; refusal = None }

-- what stands above its line, with its settings, for all that its port may answer from now on
abbrev pub set_host : {E S P : Type 0} → (E → P → List Circumstance → S) → P → Stacked E → List Circumstance → SetHost S
set_host pushing port stack rest = set_to stack.upper.machine.settings (asking pushing port stack.upper rest)

-- its line as its octets tell of it, and that machine above it
abbrev pub playing : {E S P : Type 0} → (E → P → List Circumstance → S) → P → Stacked E → Asking (SetHost S) Circumstance
playing pushing port stack = seen (set_host pushing port stack) stack.line

-- Its octets are those of its orders, and it has done all that it can by itself.
pub record IsPlayed {E S P : Type 0} (profile : Settings → Profile S) (side : Side) (pushing : E → P → List Circumstance → S) (stack : Stacked E) (port : P) : Type 0 where
  pub is_seen : (rest : List Circumstance) → IsSeen side (set_host pushing port stack rest) stack.line
  pub rests : IsResting (profile stack.upper.machine.settings) pushing (record { stack = stack; port = port })

-- A client refused nothing, needs no more of its shelf, pages device b, and is played; a server refused nothing, its inbox has an object
-- pending exactly where one is under way, and it is played.
abbrev pub PushesSoundly : {P : Type 0} → (P → Option (List Object)) → Shelled (Noted ClientProfile) → P → Type 0
PushesSoundly content host shelf = (host.refusal ≡ None) × (Pushes host.stack.upper.end.end × (host.stack.paged ≡ address B)) × IsPlayed noted_client A (client_noting content) host.stack shelf

abbrev pub ServesSoundly : {P : Type 0} → (P → Option Contents) → (P → Bool) → Shelled (Noted Served) → P → Type 0
ServesSoundly content pending host inbox = (host.refusal ≡ None) × Works host.stack.upper.end.end (pending inbox) × IsPlayed noted_server B (server_noting content) host.stack inbox
