-- A server that heard that its link came up, and nothing more, says nothing and does not leave.
use Rattle.std.proofs.Common.{◌≡◌, ℕ, suc, Bool, true, false, not, List, [], Option, Some, None, is_some, refl, sym, ap, subst, ◌∙◌, if◌then◌else◌}
use Rattle.std.proofs.lemmas.Bool.{and_right}
use Rattle.scenario_laws.specs.bt_base.specs.declared.settings.Settings.{Settings}
use Rattle.scenario_laws.specs.bt_base.specs.Objects.{Contents}
use Rattle.channel_laws.specs.channel_model.specs.declared.event.ChannelEvent.{ChannelEvent}
use Rattle.channel_laws.specs.channel_model.specs.Value.{Channels, no_channels}
use Rattle.channel_laws.specs.channel_model.specs.Giving.{next_given}
use Rattle.scenario_laws.specs.push_model.specs.Server.{Server, Lent, lends, lent_sdu}
use Rattle.scenario_laws.specs.world_model.specs.Machines.{Up, Linked, Upper}
use Rattle.scenario_laws.specs.host_model.specs.Circumstances.{Circumstance}
use Rattle.scenario_laws.specs.host_model.specs.Endpoints.{Endpoint, endpoint_of}
use Rattle.scenario_laws.specs.host_model.specs.Hosts.{Host, strides, goes_by, drives, ready, hears_news, has_more, says}
use Rattle.scenario_laws.specs.host_model.specs.Profiles.{Stride}
use Rattle.scenario_laws.specs.host_model.specs.Servers.{ServerProfile, server_profile, submits, takes, next_stride}
use Rattle.scenario_laws.specs.host_model.specs.Machines.{server_host}
use Rattle.pair_laws.proofs.Abreast.{HasToldAll, Awaits}

-- it has no channels, knows of none, and ends no link
pub record IsNew (channels : Channels) (serving : ServerProfile) : Type 0 where
  pub channels_are : channels ≡ no_channels
  pub knows_none : serving.endpoints ≡ []
  pub stays : serving.breaks ≡ false

abbrev pub HasNew : Host ServerProfile → Type 0
HasNew host = IsNew host.channels host.profile

module _ (settings : Settings) (content : Option Contents) where
  -- it takes no step that changes that, and then waits
  record Waits (stride : Stride ServerProfile) : Type 0 where
    new : IsNew stride.channels stride.profile
    ends : stride.more ≡ false

  takes_none : (lent : Option Lent) (server : Server) (serving : ServerProfile) → serving.endpoints ≡ [] → serving.breaks ≡ false → Waits (takes lent no_channels server serving)
  takes_none None server serving none stays = record { new = record { channels_are = refl; knows_none = none; stays = stays }; ends = refl }
  takes_none (Some lent) server serving none stays =
      subst (λ (endpoints : List Endpoint). Waits (submits (endpoint_of lent.psm endpoints) lent no_channels server serving)) (sym none)
      (record { new = record { channels_are = refl; knows_none = none; stays = stays }; ends = refl })

  waits_so : (channels : Channels) (serving : ServerProfile) → IsNew channels serving → Waits (next_stride channels serving)
  waits_so channels serving new =
      subst (λ (v : Channels). Waits (next_stride v serving)) (sym new.channels_are) (let server = lends serving.server in takes_none (lent_sdu server) server serving new.knows_none new.stays)

  strides_new : (stride : Stride ServerProfile) (host : Host ServerProfile) → IsNew stride.channels stride.profile → HasNew (strides (server_profile settings content) stride host)
  strides_new stride host new =
      subst (λ (v : Channels). HasNew (strides (server_profile settings content) (record stride { channels = v }) host)) (sym new.channels_are) (record { channels_are = refl; knows_none = new.knows_none; stays = new.stays })

  goes_new : (more : Host ServerProfile → Host ServerProfile) (test : Bool) (host : Host ServerProfile) (stride : Stride ServerProfile) → stride.more ≡ test → Waits stride → HasNew (if test then more (strides (server_profile settings content) stride host) else strides (server_profile settings content) stride host)
  goes_new more true host stride is waits = let never : true ≡ false = sym is ∙ waits.ends in cc
  goes_new more false host stride is waits = strides_new stride host waits.new

  drives_new : (count : ℕ) (host : Host ServerProfile) → HasNew host → HasNew (drives (server_profile settings content) (suc count) host)
  unfolding drives
  drives_new count host new = by (is_some (next_given host.channels))
    where
      by : (test : Bool) → HasNew (if test then host else goes_by (server_profile settings content) (λ next. drives (server_profile settings content) count next) (next_stride host.channels host.profile) host)
      by true = new
      by false = let stride = next_stride host.channels host.profile in goes_new (λ next. drives (server_profile settings content) count next) stride.more host stride refl (waits_so host.channels host.profile new)

  up_new : (gifts : List Circumstance) (host : Host ServerProfile) → HasToldAll host → HasNew (hears_news (server_profile settings content) gifts (Linked Up) (ready (server_profile settings content) gifts host))
  up_new gifts host told = record { channels_are = ap (λ (events : List ChannelEvent). record no_channels { events = events }) told; knows_none = refl; stays = refl }

  says_nothing : (host : Host ServerProfile) (pdu : List ℕ) (after : Host ServerProfile) → HasNew host → (server_host settings content).next host ≡ Some (pdu, after) → ⊥
  says_nothing host pdu after new is = let none = subst (λ (v : Channels). says (server_profile settings content) (next_given v) host.may_say host ≡ Some (pdu, after)) new.channels_are is in cc

  pub servers-await : {S G : Type 0} (U : Upper S G) → Awaits U (server_host settings content) HasToldAll HasNew
  servers-await U = record {
    rises = λ gifts host told. drives_new 3 (hears_news (server_profile settings content) gifts (Linked Up) (ready (server_profile settings content) gifts host)) (up_new gifts host told);
    says = says_nothing;
    stays = λ host new leaves. let never : true ≡ false = sym leaves ∙ and_right (not (has_more host)) host.profile.breaks new.stays in cc;
  }
