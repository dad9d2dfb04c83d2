-- A server without a link: it knows no channel in which an SDU could go.
use Rattle.std.proofs.Common.{◌≡◌, List, [], Option, Some, None, refl, subst, sym}
use Rattle.radio_world.specs.bt_base.specs.declared.settings.Settings.{Settings}
use Rattle.radio_world.specs.bt_base.specs.Objects.{Contents}
use Rattle.host_laws.specs.push_model.specs.Server.{Server, Lent, lends, lent_sdu}
use Rattle.host_laws.specs.channel_model.specs.Value.{no_channels}
use Rattle.host_laws.specs.world_model.specs.Machines.{News, Linked, Failed, Heard, TimerFired, Cancelled, Opening}
use Rattle.host_laws.specs.host_model.specs.Circumstances.{Circumstance}
use Rattle.host_laws.specs.host_model.specs.Endpoints.{Endpoint, endpoint_of}
use Rattle.host_laws.specs.host_model.specs.Profiles.{Stride}
use Rattle.host_laws.specs.host_model.specs.Servers.{ServerProfile, server_profile, submits, takes, told, next_stride}
use Rattle.scenario_laws.proofs.Acting.{IsAside}
use Rattle.scenario_laws.proofs.Unlinked.{Keeps}

abbrev pub KnowsNone : ServerProfile → Type 0
KnowsNone serving = serving.endpoints ≡ []

told_none : (circumstances : List Circumstance) (news : News) (serving : ServerProfile) → IsAside news → KnowsNone serving → KnowsNone (told circumstances news serving)
told_none circumstances (Linked event) serving aside none = absurd aside
told_none circumstances (Failed status) serving aside none = none
told_none circumstances (Heard pdu) serving aside none = none
told_none circumstances TimerFired serving aside none = none
told_none circumstances Cancelled serving aside none = none
told_none circumstances (Opening name) serving aside none = none

abbrev Stays : Stride ServerProfile → Type 0
Stays stride = KnowsNone stride.profile × (stride.channels ≡ no_channels)

takes_none : (lent : Option Lent) (server : Server) (serving : ServerProfile) → KnowsNone serving → Stays (takes lent no_channels server serving)
takes_none None server serving none = (none, refl)
takes_none (Some lent) server serving none = subst (λ (endpoints : List Endpoint). Stays (submits (endpoint_of lent.psm endpoints) lent no_channels server serving)) (sym none) (none, refl)

strides_none : (serving : ServerProfile) → KnowsNone serving → Stays (next_stride no_channels serving)
strides_none serving none = let server = lends serving.server in takes_none (lent_sdu server) server serving none

pub servers_keep : (settings : Settings) (content : Option Contents) → Keeps (server_profile settings content) KnowsNone
servers_keep settings content = record {
  first = refl;
  given = λ circumstances serving none. none;
  down = λ circumstances reason serving. refl;
  aside = told_none;
  sent = λ serving none. none;
  steps = strides_none;
  quiet = λ serving none. refl;
}
