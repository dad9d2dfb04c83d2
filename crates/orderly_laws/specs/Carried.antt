-- What the inbox of a server gains over RFCOMM on orderly input, as its own units say alone (Object Push Profile 1.2, 4.3; IrOBEX 1.5, 3.2 and 3.4.3; TS 07.10,
-- 5.4; RFCOMM 1.2, 5 and 6.5).
use Rattle.std.specs.Prelude.{◌≡◌, List, map}
use Rattle.std.specs.List.{AllByRecursion}
use Rattle.request_laws.specs.bt_base.specs.declared.settings.Settings.{Settings}
use Rattle.request_laws.specs.bt_base.specs.declared.settings.Transport.TheVariants.{Rfcomm}
use Rattle.request_laws.specs.bt_base.specs.Objects.{Object}
use Rattle.request_laws.specs.push_terms.specs.declared.word.Side.TheVariants as sides
use Rattle.request_laws.specs.capture.specs.Entries.{Entry as Moved}
use Rattle.request_laws.specs.link_talk.specs.declared.channel.Channel.{Channel}
use Rattle.request_laws.specs.link_talk.specs.declared.party.Party.{Party}
use Rattle.request_laws.specs.link_talk.specs.Captures.{talks}
use Rattle.request_laws.specs.link_talk.specs.Channels.{Entry, reading}
use Rattle.request_laws.specs.link_talk.specs.Packets.{passed}
use Rattle.request_laws.specs.link_talk.specs.Sayings.{Saying}
use Rattle.request_laws.specs.link_talk.specs.Sdus.{spoken}
use Rattle.request_laws.specs.rfcomm_frames.specs.Multiplexing.{Passed}
use Rattle.request_laws.specs.host_link.specs.declared.role.Role.TheVariants.{Server}
use Rattle.request_laws.specs.host_model.specs.Circumstances.{Circumstance}
use Rattle.request_laws.specs.host_model.specs.Hosts.{Host}
use Rattle.request_laws.specs.host_model.specs.Servers.{ServerProfile}
use Rattle.request_laws.specs.host_laws.specs.Carriers.{reader}
use Rattle.unit_laws.specs.scenario_laws.specs.Gains.{serving}
use Rattle.unit_laws.specs.Living.{Did}
use Rattle.unit_laws.specs.Units.{Lined, Occasion, units, lone_capture}
use Rattle.carried_laws.specs.Orderly.{IsInOrder}
use Rattle.orderly_laws.specs.Orderly.{IsGranted}
use Rattle.orderly_laws.specs.Served.{IsAskedOver, GainsOver}

-- the SDUs of a channel, both ways, each with the side of the multiplexers from which it came
abbrev pub passed_in : Party → Channel → List Saying → List Passed
passed_in party channel talk = map (passed party) (spoken party channel talk)

-- on the channels of multiplexers each SDU of the client comes in order
abbrev pub AreInOrder : Settings → List Saying → Type 0
AreInOrder settings talk = AllByRecursion (λ (entry : Entry). entry.channel.psm ≡ 0x0003 → IsInOrder settings (passed_in (reader settings settings.mps Rfcomm) entry.channel talk)) (reading talk).entries

-- A PDU on the signalling channel has one command; on each link the client asks for one channel besides that of service discovery, that of the multiplexers;
-- and on that each of its frames comes in order.
pub record IsCarriedInput (settings : Settings) (capture : List Moved) : Type 0 where
  pub asked : IsAskedOver Rfcomm capture
  pub in_order : AllByRecursion (AreInOrder settings) (talks sides.B capture)

-- On such input the inbox of a server gains exactly the objects that the packets spell which its host heard, as its own units have them, in the order of their
-- last packets, over RFCOMM: where it hears one thing at a time, its timer never fires, and its inbox grants all that it is asked.
abbrev pub ServersGainCarried : Type 0
ServersGainCarried = (settings : Settings) (before : List Object) (occasions : List (Occasion Circumstance)) (now : Lined (Host ServerProfile)) → Did (serving settings before) Server occasions now → IsGranted occasions
    → IsCarriedInput settings (lone_capture sides.B (units occasions)) → GainsOver settings before Rfcomm occasions now.upper
