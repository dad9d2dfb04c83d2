-- What the inbox of a server gains over links of either transport, where each link's own units say that its input is orderly, and on a link over L2CAP channels of
-- objects may come one behind the other (Object Push Profile 1.2, 4.3; IrOBEX 1.5, 3.2 and 3.4.3; Core 5.1, Volume 3 Part A, 4.2, 4.6 and 4.7; RFCOMM 1.2, 5.1).
use Rattle.std.specs.Prelude.{◌≡◌, ◌⊎◌, ◌==◌, Bool, false, List, ◌++◌, Option, Some, None, if◌then◌else◌}
use Rattle.std.specs.List.{AllByRecursion, flat_map, list_any}
use Rattle.request_laws.specs.bt_base.specs.declared.settings.Settings.{Settings}
use Rattle.request_laws.specs.bt_base.specs.declared.settings.Transport.{Transport}
use Rattle.request_laws.specs.bt_base.specs.declared.settings.Transport.TheVariants.{L2cap, Rfcomm}
use Rattle.request_laws.specs.bt_base.specs.Objects.{Object}
use Rattle.request_laws.specs.push_terms.specs.declared.word.Side.TheVariants as sides
use Rattle.request_laws.specs.capture.specs.declared.flow.Flow.TheVariants.{Into}
use Rattle.request_laws.specs.capture.specs.Entries.{Entry}
use Rattle.request_laws.specs.link_talk.specs.declared.call.Call.{Call}
use Rattle.request_laws.specs.link_talk.specs.declared.call.Wanted.{Wanted}
use Rattle.request_laws.specs.link_talk.specs.Captures.{talks}
use Rattle.request_laws.specs.link_talk.specs.ObjectsHeard.{objects}
use Rattle.request_laws.specs.link_talk.specs.Sayings.{Saying}
use Rattle.request_laws.specs.channel_laws.specs.Singly.{calls_that_went}
use Rattle.request_laws.specs.host_link.specs.declared.role.Role.TheVariants.{Server}
use Rattle.request_laws.specs.push_laws.specs.Laws.{stored_in}
use Rattle.request_laws.specs.host_model.specs.Circumstances.{Circumstance}
use Rattle.request_laws.specs.host_model.specs.Hosts.{Host}
use Rattle.request_laws.specs.host_model.specs.Servers.{ServerProfile}
use Rattle.request_laws.specs.host_laws.specs.Carriers.{reader}
use Rattle.request_laws.specs.host_laws.specs.InOrder.{AsksForOneObject}
use Rattle.orderly_laws.specs.unit_laws.specs.scenario_laws.specs.Gains.{serving}
use Rattle.orderly_laws.specs.unit_laws.specs.scenario_laws.specs.Parties.{party_of}
use Rattle.orderly_laws.specs.unit_laws.specs.Living.{Did, HaveCommands}
use Rattle.orderly_laws.specs.unit_laws.specs.Units.{Lined, Occasion, units, lone_capture}
use Rattle.orderly_laws.specs.Answered.{AreAnswered}
use Rattle.orderly_laws.specs.Carried.{AreInOrder, IsCarriedInput}
use Rattle.orderly_laws.specs.Orderly.{IsGranted, IsOrderlyInput}
use Rattle.behind_laws.specs.following_laws.specs.OneAtATime.{IsOneAtATime}
use Rattle.behind_laws.specs.Orderly.{IsOrderlyInTurn}

-- ---- the transport of a link

-- a request for a channel of multiplexers
abbrev pub wants_multiplexer : Option Wanted → Bool
wants_multiplexer None = false
wants_multiplexer (Some wanted) = wanted.psm == 0x0003

abbrev pub seeks_multiplexer : Call → Bool
seeks_multiplexer one = wants_multiplexer one.wanted

-- A link is over RFCOMM where the client asks there for a channel of multiplexers, and over L2CAP where it does not.
abbrev pub transport_shown : List Saying → Transport
transport_shown talk = if list_any seeks_multiplexer (calls_that_went Into talk) then Rfcomm else L2cap

-- ---- what is asked of a link

-- Over L2CAP the client asks for one channel that may carry packets, besides that of service discovery, or at each moment at most one channel of objects has not ended
-- for both; and on each of them requests come one at a time and are answered. Over RFCOMM it asks for one channel of multiplexers, besides that of service discovery,
-- and each of its frames comes in order.
abbrev pub IsOrderlyOver : Settings → Transport → List Saying → Type 0
IsOrderlyOver settings L2cap talk = (AsksForOneObject L2cap talk ⊎ IsOneAtATime talk) × AreAnswered settings (party_of settings sides.B) talk
IsOrderlyOver settings Rfcomm talk = AsksForOneObject Rfcomm talk × AreInOrder settings talk

-- what comes there is orderly over the link's transport
abbrev pub IsOrderlyLink : Settings → List Saying → Type 0
IsOrderlyLink settings talk = IsOrderlyOver settings (transport_shown talk) talk

-- A PDU on the signalling channel has one command, and each link is orderly over its own transport.
pub record IsOrderlyByLinks (settings : Settings) (capture : List Entry) : Type 0 where
  pub commands : HaveCommands sides.B capture
  pub links : AllByRecursion (IsOrderlyLink settings) (talks sides.B capture)

-- ---- what a server gains

-- the objects that the packets of a link spell, as a server reads them over the link's transport
abbrev pub objects_shown : Settings → List Saying → List Object
objects_shown settings talk = objects (reader settings settings.mps (transport_shown talk)) talk

-- those of all links, one after the other
abbrev pub objects_by_links : Settings → List Entry → List Object
objects_by_links settings capture = flat_map (objects_shown settings) (talks sides.B capture)

-- On such input the inbox of a server gains exactly the objects that the packets spell which its host heard, as its own units have them, link after link: where
-- its timer never fires, and its inbox grants all that it is asked.
abbrev pub ServersGainByLinks : Type 0
ServersGainByLinks = (settings : Settings) (before : List Object) (occasions : List (Occasion Circumstance)) (now : Lined (Host ServerProfile)) → Did (serving settings before) Server occasions now → IsGranted occasions
    → IsOrderlyByLinks settings (lone_capture sides.B (units occasions)) → stored_in now.upper.profile.inbox.content ≡ Some (before ++ objects_by_links settings (lone_capture sides.B (units occasions)))

-- ---- such input

-- Orderly input over L2CAP is such input, with one channel alone on each link and with any number of them one behind the other; and so is that over RFCOMM where on each
-- link a channel of multiplexers is asked for.
pub record OrderlyInputsAreByLinks : Type 0 where
  pub direct : (settings : Settings) (capture : List Entry) → IsOrderlyInput settings capture → IsOrderlyByLinks settings capture
  pub in_turn : (settings : Settings) (capture : List Entry) → IsOrderlyInTurn settings capture → IsOrderlyByLinks settings capture
  pub carried : (settings : Settings) (capture : List Entry) → IsCarriedInput settings capture → AllByRecursion (λ (talk : List Saying). transport_shown talk ≡ Rfcomm) (talks sides.B capture) → IsOrderlyByLinks settings capture
