-- What the channels of a host are, read off its own units (Core 5.1, Volume 3 Part A, 4 and 7).
use Rattle.std.specs.Prelude.{ℕ, ◌≡◌, true, false, is_some, List, [], ◌++◌, map, Option, Some, None}
use Rattle.std.specs.List.{AllByRecursion, filter_map}
use Rattle.scenario_laws.specs.bt_base.specs.declared.settings.Settings.{Settings}
use Rattle.scenario_laws.specs.bt_base.specs.Objects.{Contents}
use Rattle.scenario_laws.specs.push_terms.specs.declared.word.Side.TheVariants as sides
use Rattle.scenario_laws.specs.capture.specs.Links.{Link, link_up}
use Rattle.scenario_laws.specs.link_talk.specs.declared.channel.Channel.{Channel}
use Rattle.scenario_laws.specs.link_talk.specs.declared.party.Party.{Party}
use Rattle.scenario_laws.specs.link_talk.specs.Channels.{reading}
use Rattle.scenario_laws.specs.link_talk.specs.Sayings.{Saying, talk}
use Rattle.scenario_laws.specs.channel_model.specs.Calls.{peer_mtu}
use Rattle.scenario_laws.specs.channel_model.specs.Changing.{held_at}
use Rattle.scenario_laws.specs.channel_model.specs.Policies.{Policy, policy}
use Rattle.scenario_laws.specs.channel_model.specs.Value.{Channels, no_channels}
use Rattle.scenario_laws.specs.channel_laws.specs.Runs.{Occurrence, Gives, run_of}
use Rattle.scenario_laws.specs.channel_laws.specs.Views.{IsRead, read_at}
use Rattle.opening_laws.specs.Opening.{reads_open, says_open, stays_open}
use Rattle.scenario_laws.specs.host_link.specs.declared.role.Role.TheVariants.{Client, Server}
use Rattle.scenario_laws.specs.host_model.specs.Circumstances.{Circumstance}
use Rattle.scenario_laws.specs.host_model.specs.Hosts.{Host}
use Rattle.scenario_laws.specs.host_model.specs.Clients.{ClientProfile, client_profile}
use Rattle.scenario_laws.specs.host_model.specs.Servers.{ServerProfile, server_profile}
use Rattle.scenario_laws.specs.host_model.specs.Machines.{upper}
use Rattle.scenario_laws.specs.host_laws.specs.Calls.{outer}
use Rattle.scenario_laws.specs.host_laws.specs.OverLinks.{GoesOut}
use Rattle.scenario_laws.specs.host_laws.specs.Seen.{spoken_of}
use Rattle.scenario_laws.specs.Parties.{party_of}
use Rattle.unit_laws.specs.Timed.{ticks, timed}
use Rattle.unit_laws.specs.Units.{Lined, Occasion, units, lone_capture, HasSaidAll}
use Rattle.unit_laws.specs.Living.{Did, HaveCommands}

-- ---- on a link

-- These are the channels of a talk, each as far as it says, and each stays open exactly where it says so; one whose end its host asked for is open only where the
-- talk had it open. The talk is what moved, but for what was given up, and behind it what the host let wait: nothing, where it has said all.
pub record AreChannelsOf (rules : Policy) (party : Party) (has_said_all : Type 0) (moved : List Saying) (channels : Channels) : Type 0 where
  pub said : List Saying
  pub waits : List Saying
  pub talk_is : spoken_of said ≡ moved ++ waits
  pub none : has_said_all → waits ≡ []
  pub go_out : AllByRecursion GoesOut waits
  pub read : (own : ℕ) → IsRead rules (held_at own channels) (read_at own (reading said).entries)
  pub opens : (channel : Channel) → stays_open channel.own channels ≡ says_open party said channel
  pub only : (channel : Channel) → is_some (peer_mtu channel.own channels) ≡ true → reads_open party said channel ≡ true

-- on the link that is up; where none is there are none
abbrev pub AreChannelsAt : Policy → Party → Type 0 → Option Link → Channels → Type 0
AreChannelsAt rules party has_said_all None channels = channels ≡ no_channels
AreChannelsAt rules party has_said_all (Some link) channels = AreChannelsOf rules party has_said_all (talk link) channels

-- ---- with its timer

-- They are those of a run, which says the own talk with all that was given up: to it these things happened, PDUs and firings of the timer, and behind them it gave what
-- did not go out; and between them the host asked for channels, for features and for ends of channels, and had SDUs to send.
pub record AreOfRun (rules : Policy) (has_said_all : Type 0) (happened : List Occurrence) (channels : Channels) : Type 0 where
  pub list : List Occurrence
  pub unsent : List (List ℕ)
  pub happened_is : filter_map outer list ≡ happened ++ map Gives unsent
  pub sent : has_said_all → unsent ≡ []
  pub run : channels ≡ (run_of rules list).value

-- ---- of both hosts

-- Their channels are those that their own units say.
pub record ChannelsAreSeen : Type 0 where
  pub clients : (settings : Settings) (occasions : List (Occasion Circumstance)) (now : Lined (Host ClientProfile)) → Did (client_profile settings) Client occasions now → HaveCommands sides.A (lone_capture sides.A (units occasions))
      → AreChannelsAt (policy settings false) (party_of settings sides.A) (HasSaidAll (upper (client_profile settings)) now) (link_up sides.A (lone_capture sides.A (units occasions))) now.upper.channels
  pub servers : (settings : Settings) (content : Option Contents) (occasions : List (Occasion Circumstance)) (now : Lined (Host ServerProfile)) → Did (server_profile settings content) Server occasions now → HaveCommands sides.B (lone_capture sides.B (units occasions))
      → AreChannelsAt (policy settings true) (party_of settings sides.B) (HasSaidAll (upper (server_profile settings content)) now) (link_up sides.B (lone_capture sides.B (units occasions))) now.upper.channels

-- And they are those of a run to which happened what moved on the last link, with the firings of the timer between, each in its place.
pub record ChannelsAreTimed : Type 0 where
  pub clients : (settings : Settings) (occasions : List (Occasion Circumstance)) (now : Lined (Host ClientProfile)) → Did (client_profile settings) Client occasions now → HaveCommands sides.A (lone_capture sides.A (units occasions))
      → AreOfRun (policy settings false) (HasSaidAll (upper (client_profile settings)) now) (timed (ticks occasions)) now.upper.channels
  pub servers : (settings : Settings) (content : Option Contents) (occasions : List (Occasion Circumstance)) (now : Lined (Host ServerProfile)) → Did (server_profile settings content) Server occasions now → HaveCommands sides.B (lone_capture sides.B (units occasions))
      → AreOfRun (policy settings true) (HasSaidAll (upper (server_profile settings content)) now) (timed (ticks occasions)) now.upper.channels
