-- What the inbox of a server gains over one transport, as its own units say, where nothing that comes to it is lost (Object Push Profile 1.2, 4.3; IrOBEX 1.5,
-- 3.4.3; RFCOMM 1.2, 2.1 and 5.1).
use Rattle.std.specs.Prelude.{◌≡◌, true, List, [], ◌++◌, Some}
use Rattle.std.specs.List.{AllByRecursion, flat_map}
use Rattle.request_laws.specs.bt_base.specs.declared.settings.Settings.{Settings}
use Rattle.request_laws.specs.bt_base.specs.declared.settings.Transport.{Transport}
use Rattle.request_laws.specs.bt_base.specs.declared.settings.Transport.TheVariants.{L2cap, Rfcomm}
use Rattle.request_laws.specs.bt_base.specs.Objects.{Object}
use Rattle.request_laws.specs.push_terms.specs.declared.word.Side.TheVariants as sides
use Rattle.request_laws.specs.capture.specs.Entries.{Entry}
use Rattle.request_laws.specs.link_talk.specs.Captures.{talks, objects_heard}
use Rattle.request_laws.specs.host_link.specs.declared.role.Role.TheVariants.{Server}
use Rattle.request_laws.specs.channel_model.specs.Policies.{policy}
use Rattle.request_laws.specs.push_laws.specs.Laws.{stored_in}
use Rattle.request_laws.specs.push_laws.specs.Occurrences.{begun}
use Rattle.request_laws.specs.push_laws.specs.Premises.{AllMayCome}
use Rattle.request_laws.specs.host_model.specs.Circumstances.{Circumstance}
use Rattle.request_laws.specs.host_model.specs.Hosts.{Host}
use Rattle.request_laws.specs.host_model.specs.Servers.{ServerProfile}
use Rattle.request_laws.specs.host_laws.specs.Calls.{HostsAsk}
use Rattle.request_laws.specs.host_laws.specs.Carriers.{reader}
use Rattle.request_laws.specs.host_laws.specs.Gifts.{gifts_of}
use Rattle.request_laws.specs.host_laws.specs.InOrder.{AsksForOneObject, IsWhole}
use Rattle.request_laws.specs.host_laws.specs.Lives.{on_links}
use Rattle.request_laws.specs.host_laws.specs.OverLinks.{talk_marks, TalksOverLinks}
use Rattle.request_laws.specs.world_model.specs.Talks.{Talk}
use Rattle.unit_laws.specs.scenario_laws.specs.Coming.{CameOver}
use Rattle.unit_laws.specs.scenario_laws.specs.Gains.{holding, serving, asked_by, all_served}
use Rattle.unit_laws.specs.Calls.{gifts_in}
use Rattle.unit_laws.specs.Living.{Did, HaveCommands}
use Rattle.orderly_laws.specs.Orderly.{IsGrant}
use Rattle.unit_laws.specs.Units.{Lined, Occasion, units, lone_capture}

-- ---- what is asked of its units

-- A PDU on the signalling channel has one command, and on each link the client asks for one channel that may carry packets over the transport, besides that of
-- service discovery.
pub record IsAskedOver (transport : Transport) (capture : List Entry) : Type 0 where
  pub commands : HaveCommands sides.B capture
  pub one_channel : AllByRecursion (AsksForOneObject transport) (talks sides.B capture)

-- ---- what is asked of how it lived

-- No request is ignored because a response waits, one transport has an object under way, and over RFCOMM no frame ends two packets, each finds room for its
-- answers, and the multiplexer refuses nothing; over L2CAP besides all that comes on its channels is handed up.
abbrev pub LosesNone : (asks : HostsAsk) (settings : Settings) (before : List Object) → Transport → (talk : List Talk) (now : Host ServerProfile) → TalksOverLinks (serving settings before) (asked_by asks settings before) talk now → Type 0
LosesNone asks settings before Rfcomm talk now so = AllMayCome settings [] (begun settings (holding before)) (all_served asks settings before talk now so)
LosesNone asks settings before L2cap talk now so =
    AllMayCome settings [] (begun settings (holding before)) (all_served asks settings before talk now so) × AllByRecursion (IsWhole (policy settings true)) (on_links (serving settings before) (asked_by asks settings before) (flat_map talk_marks talk) now so.lives)

-- ---- what it gains

abbrev pub GainsOver : Settings → List Object → Transport → List (Occasion Circumstance) → Host ServerProfile → Type 0
GainsOver settings before transport occasions now = stored_in now.profile.inbox.content ≡ Some (before ++ objects_heard (reader settings settings.mps transport) sides.B (lone_capture sides.B (units occasions)))

-- It came to what its units have by a talk, and lived so through it, with an inbox that grants all calls; and if nothing was lost so, its inbox gained exactly
-- the objects that the packets spell which its host heard, as its own units have them, in the order of their last packets.
pub record GainsAsItLived (asks : HostsAsk) (settings : Settings) (before : List Object) (transport : Transport) (occasions : List (Occasion Circumstance)) (now : Host ServerProfile) : Type 0 where
  pub came : CameOver (serving settings before) sides.B (lone_capture sides.B (units occasions)) now
  pub so : TalksOverLinks (serving settings before) (asked_by asks settings before) came.talk now
  pub granted : AllByRecursion IsGrant (gifts_of so.lives.feeds)
  pub gains : LosesNone asks settings before transport came.talk now so → GainsOver settings before transport occasions now

-- So it is of each server whose inbox grants all that it is asked, over either transport, whichever its settings name for its own pushes.
pub record ServersGainServed : Type 0 where
  pub asks : HostsAsk
  pub gains : (transport : Transport) (settings : Settings) (before : List Object) (occasions : List (Occasion Circumstance)) (now : Lined (Host ServerProfile)) → Did (serving settings before) Server occasions now → AllByRecursion IsGrant (gifts_in occasions)
      → IsAskedOver transport (lone_capture sides.B (units occasions)) → GainsAsItLived asks settings before transport occasions now.upper
