-- What the inbox of a server gains over L2CAP, as its own units say, where its client has one channel of objects at a time on a link, and any number of them one
-- behind the other (Object Push Profile 1.2, 4.3; IrOBEX 1.5, 3.4.3; Core 5.1, Volume 3 Part A, 4.3, 4.6 and 4.7).
use Rattle.std.specs.Prelude.{◌≡◌, true, List, [], Option, Some, None}
use Rattle.std.specs.List.{AllByRecursion, flat_map}
use Rattle.request_laws.specs.bt_base.specs.declared.settings.Settings.{Settings}
use Rattle.request_laws.specs.bt_base.specs.declared.settings.Transport.TheVariants.{L2cap}
use Rattle.request_laws.specs.bt_base.specs.Objects.{Object}
use Rattle.request_laws.specs.push_terms.specs.declared.word.Side.TheVariants as sides
use Rattle.request_laws.specs.capture.specs.Entries.{Entry}
use Rattle.request_laws.specs.capture.specs.declared.flow.Flow.TheVariants.{Out, Into}
use Rattle.request_laws.specs.link_talk.specs.declared.call.Call.{Call}
use Rattle.request_laws.specs.link_talk.specs.declared.call.Wanted.{Wanted}
use Rattle.request_laws.specs.link_talk.specs.Captures.{talks}
use Rattle.request_laws.specs.link_talk.specs.Requests.{call}
use Rattle.request_laws.specs.link_talk.specs.Sayings.{Saying, Command, Carried, GaveUp}
use Rattle.request_laws.specs.link_talk.specs.Senses.{sense}
use Rattle.request_laws.specs.host_link.specs.declared.role.Role.TheVariants.{Server}
use Rattle.request_laws.specs.channel_model.specs.Policies.{policy}
use Rattle.request_laws.specs.push_laws.specs.Occurrences.{begun}
use Rattle.request_laws.specs.push_laws.specs.Premises.{AllMayCome}
use Rattle.request_laws.specs.host_model.specs.Circumstances.{Circumstance}
use Rattle.request_laws.specs.host_model.specs.Hosts.{Host}
use Rattle.request_laws.specs.host_model.specs.Servers.{ServerProfile}
use Rattle.request_laws.specs.host_laws.specs.Calls.{HostsAsk}
use Rattle.request_laws.specs.host_laws.specs.Gifts.{gifts_of}
use Rattle.request_laws.specs.host_laws.specs.InOrder.{IsWhole}
use Rattle.request_laws.specs.host_laws.specs.Lives.{on_links}
use Rattle.request_laws.specs.host_laws.specs.OverLinks.{talk_marks, TalksOverLinks}
use Rattle.request_laws.specs.world_model.specs.Talks.{Talk}
use Rattle.unit_laws.specs.scenario_laws.specs.Coming.{CameOver}
use Rattle.unit_laws.specs.scenario_laws.specs.Gains.{holding, serving, asked_by, all_served}
use Rattle.unit_laws.specs.Living.{Did, HaveCommands}
use Rattle.unit_laws.specs.Units.{Lined, Occasion, units, lone_capture}
use Rattle.orderly_laws.specs.Orderly.{IsGrant, IsGranted}
use Rattle.orderly_laws.specs.Served.{GainsOver}
use Rattle.following_laws.specs.OneAtATime.{IsOneAtATime}

-- ---- what is asked of its units

abbrev pub IsDirectWanted : Option Wanted → Type 0
IsDirectWanted None = Unit {0}
IsDirectWanted (Some wanted) = wanted.psm ≡ 0x0003 → ⊥

abbrev pub IsDirectCall : Option Call → Type 0
IsDirectCall None = Unit {0}
IsDirectCall (Some one) = IsDirectWanted one.wanted

-- the client does not ask for the channel of RFCOMM with it
abbrev pub AsksDirectly : Saying → Type 0
AsksDirectly (Command Out answer) = Unit {0}
AsksDirectly (Command Into answer) = IsDirectCall (call (sense (Command Into answer)))
AsksDirectly (Carried flow pdu) = Unit {0}
AsksDirectly (GaveUp forgone) = Unit {0}

-- A PDU on the signalling channel has one command. On each link at each moment at most one channel of objects has not ended for both, and none is asked for
-- over RFCOMM.
pub record IsAskedInTurn (capture : List Entry) : Type 0 where
  pub commands : HaveCommands sides.B capture
  pub single : AllByRecursion IsOneAtATime (talks sides.B capture)
  pub direct : AllByRecursion (AllByRecursion AsksDirectly) (talks sides.B capture)

-- ---- what is asked of how it lived

-- No request is ignored because a response waits, and all that comes on its channels is handed up.
pub record LosesNoneInTurn (asks : HostsAsk) (settings : Settings) (before : List Object) (talk : List Talk) (now : Host ServerProfile) (so : TalksOverLinks (serving settings before) (asked_by asks settings before) talk now) : Type 0 where
  pub come : AllMayCome settings [] (begun settings (holding before)) (all_served asks settings before talk now so)
  pub whole : AllByRecursion (IsWhole (policy settings true)) (on_links (serving settings before) (asked_by asks settings before) (flat_map talk_marks talk) now so.lives)

-- ---- what it gains

-- It came to what its units have by a talk, and lived so through it, with an inbox that grants all calls; and if nothing was lost so, its inbox gained exactly the
-- objects that the packets spell which its host heard, link after link, and on a link channel after channel.
pub record GainsInTurn (asks : HostsAsk) (settings : Settings) (before : List Object) (occasions : List (Occasion Circumstance)) (now : Host ServerProfile) : Type 0 where
  pub came : CameOver (serving settings before) sides.B (lone_capture sides.B (units occasions)) now
  pub so : TalksOverLinks (serving settings before) (asked_by asks settings before) came.talk now
  pub granted : AllByRecursion IsGrant (gifts_of so.lives.feeds)
  pub gains : LosesNoneInTurn asks settings before came.talk now so → GainsOver settings before L2cap occasions now

-- So it is of each server whose timer never fires and whose inbox grants all that it is asked.
pub record ServersGainInTurn : Type 0 where
  pub asks : HostsAsk
  pub gains : (settings : Settings) (before : List Object) (occasions : List (Occasion Circumstance)) (now : Lined (Host ServerProfile)) → Did (serving settings before) Server occasions now → IsGranted occasions
      → IsAskedInTurn (lone_capture sides.B (units occasions)) → GainsInTurn asks settings before occasions now.upper
