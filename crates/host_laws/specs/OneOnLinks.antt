-- Hosts on whose links one channel alone carries packets, over either transport (Object Push Profile 1.2, 4.3; RFCOMM 1.2, 2.1).
use Rattle.std.specs.Prelude.{ℕ, ◌≡◌, true, List, Option}
use Rattle.std.specs.List.{AllByRecursion, flat_map}
use Rattle.shelf_model.specs.bt_base.specs.declared.settings.Settings.{Settings}
use Rattle.shelf_model.specs.bt_base.specs.declared.settings.Transport.{Transport}
use Rattle.shelf_model.specs.bt_base.specs.declared.settings.Transport.TheVariants.{L2cap, Rfcomm}
use Rattle.shelf_model.specs.bt_base.specs.Objects.{Contents}
use Rattle.push_laws.specs.link_talk.specs.declared.channel.Channel.{Channel}
use Rattle.channel_laws.specs.channel_model.specs.Policies.{Policy, policy}
use Rattle.channel_laws.specs.Runs.{Occurrence, run_of}
use Rattle.push_laws.specs.push_model.specs.Server.{object_psm, rfcomm_psm}
use Rattle.shelf_model.specs.world_model.specs.Talks.{Talk}
use Rattle.shelf_model.specs.host_model.specs.Hosts.{Host}
use Rattle.shelf_model.specs.host_model.specs.Servers.{ServerProfile, server_profile}
use Rattle.host_laws.specs.Calls.{Asks}
use Rattle.host_laws.specs.InOrder.{AsksForOneObject, AsksNoChannels}
use Rattle.host_laws.specs.Lives.{on_links}
use Rattle.host_laws.specs.OneCarrier.{CarriesAlone}
use Rattle.host_laws.specs.OverLinks.{parts, moved_in, talk_marks, TalksOverLinks}

-- the PSM of the channel on which a server has its packets over a transport
abbrev pub packets_psm : Transport → ℕ
packets_psm L2cap = object_psm
packets_psm Rfcomm = rfcomm_psm

-- one channel alone carries packets, to that PSM
pub record CarriesOneOn (carrier : ℕ) (policy : Policy) (list : List Occurrence) : Type 0 where
  pub channel : Channel
  pub psm_is : channel.psm ≡ carrier
  pub alone : CarriesAlone channel (run_of policy list).said

-- So it is on each link of a server whose profile asks for no channel, and whose client asks on each for service discovery and for one channel besides,
-- which may carry packets over the transport.
abbrev pub ServersCarryAlone : Type 0
ServersCarryAlone = (transport : Transport) (settings : Settings) (content : Option Contents) (asks : Asks (server_profile settings content)) (talk : List Talk) (now : Host ServerProfile) (so : TalksOverLinks (server_profile settings content) asks talk now)
    → AsksNoChannels (server_profile settings content) asks → AllByRecursion (λ part. AsksForOneObject transport (moved_in part)) (parts talk)
    → AllByRecursion (CarriesOneOn (packets_psm transport) (policy settings true)) (on_links (server_profile settings content) asks (flat_map talk_marks talk) now so.lives)
