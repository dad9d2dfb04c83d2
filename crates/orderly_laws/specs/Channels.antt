-- The channels of a server whose timer never fired, and which of them are open, as what moved says (Core 5.1, Volume 3 Part A, 4.4, 4.5, 6.1.4 and 7.1).
use Rattle.std.specs.Prelude.{ℕ, ◌≡◌, true, is_some, List, ◌++◌, Option, Some, None}
use Rattle.std.specs.List.{AllByRecursion}
use Rattle.request_laws.specs.bt_base.specs.declared.settings.Settings.{Settings}
use Rattle.request_laws.specs.bt_base.specs.Objects.{Contents}
use Rattle.request_laws.specs.push_terms.specs.declared.word.Side.TheVariants as sides
use Rattle.request_laws.specs.capture.specs.Links.{Link, link_up}
use Rattle.request_laws.specs.link_talk.specs.declared.channel.Channel.{Channel}
use Rattle.request_laws.specs.link_talk.specs.declared.party.Party.{Party}
use Rattle.request_laws.specs.link_talk.specs.Channels.{reading}
use Rattle.request_laws.specs.link_talk.specs.Sayings.{Saying, talk}
use Rattle.request_laws.specs.channel_model.specs.Calls.{peer_mtu}
use Rattle.request_laws.specs.channel_model.specs.Changing.{held_at}
use Rattle.request_laws.specs.channel_model.specs.Policies.{Policy, policy}
use Rattle.request_laws.specs.channel_model.specs.Value.{Channels, no_channels}
use Rattle.request_laws.specs.channel_laws.specs.Views.{IsRead, read_at}
use Rattle.request_laws.specs.host_link.specs.declared.role.Role.TheVariants.{Server}
use Rattle.request_laws.specs.host_model.specs.Circumstances.{Circumstance}
use Rattle.request_laws.specs.host_model.specs.Hosts.{Host}
use Rattle.request_laws.specs.host_model.specs.Machines.{upper}
use Rattle.request_laws.specs.host_model.specs.Servers.{ServerProfile, server_profile}
use Rattle.request_laws.specs.host_laws.specs.OverLinks.{GoesOut}
use Rattle.unit_laws.specs.scenario_laws.specs.Parties.{party_of}
use Rattle.unit_laws.specs.opening_laws.specs.Opening.{says_open}
use Rattle.unit_laws.specs.Laws.{FiresNone}
use Rattle.unit_laws.specs.Living.{Did, HaveCommands}
use Rattle.unit_laws.specs.Units.{Lined, Occasion, units, lone_capture, HasSaidAll}

-- ---- as sayings have them

-- at each own endpoint there is the channel that these sayings have there, as far as they say; and it is open exactly where they say so
pub record AreAsSaid (rules : Policy) (party : Party) (said : List Saying) (channels : Channels) : Type 0 where
  pub read : (own : ℕ) → IsRead rules (held_at own channels) (read_at own (reading said).entries)
  pub opens : (channel : Channel) → is_some (peer_mtu channel.own channels) ≡ says_open party said channel

-- They are those of what moved on a link, and behind it of some sayings that go out, as what the host let wait; where it has said all, of what moved alone.
pub record AreOfLink (rules : Policy) (party : Party) (has_said_all : Type 0) (link : Link) (channels : Channels) : Type 0 where
  pub waits : List Saying
  pub go_out : AllByRecursion GoesOut waits
  pub so : AreAsSaid rules party (talk link ++ waits) channels
  pub moved : has_said_all → AreAsSaid rules party (talk link) channels

-- on the link that is up; where none is there are none
abbrev pub AreOfLinkUp : Policy → Party → Type 0 → Option Link → Channels → Type 0
AreOfLinkUp rules party has_said_all None channels = channels ≡ no_channels
AreOfLinkUp rules party has_said_all (Some link) channels = AreOfLink rules party has_said_all link channels

-- So are those of a server whose timer never fired: its units say all that it said.
abbrev pub ServersHoldWhatMoved : Type 0
ServersHoldWhatMoved = (settings : Settings) (content : Option Contents) (occasions : List (Occasion Circumstance)) (now : Lined (Host ServerProfile)) → Did (server_profile settings content) Server occasions now → HaveCommands sides.B (lone_capture sides.B (units occasions))
    → AllByRecursion FiresNone occasions → AreOfLinkUp (policy settings true) (party_of settings sides.B) (HasSaidAll (upper (server_profile settings content)) now) (link_up sides.B (lone_capture sides.B (units occasions))) now.upper.channels
