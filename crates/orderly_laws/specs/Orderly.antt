-- What comes to a server is orderly, and then its inbox gains what the packets spell, as its own units say alone (Object Push Profile 1.2, 4.3; IrOBEX 1.5,
-- 3.2 and 3.4.3).
use Rattle.std.specs.Prelude.{◌≡◌, List, ◌++◌, Some}
use Rattle.std.specs.List.{AllByRecursion}
use Rattle.request_laws.specs.bt_base.specs.declared.settings.Settings.{Settings}
use Rattle.request_laws.specs.bt_base.specs.declared.settings.Transport.TheVariants.{L2cap}
use Rattle.request_laws.specs.bt_base.specs.Objects.{Object}
use Rattle.request_laws.specs.push_terms.specs.declared.word.Side.TheVariants as sides
use Rattle.request_laws.specs.capture.specs.Entries.{Entry}
use Rattle.request_laws.specs.link_talk.specs.Captures.{talks, objects_heard}
use Rattle.request_laws.specs.host_link.specs.declared.role.Role.TheVariants.{Server}
use Rattle.request_laws.specs.push_laws.specs.Laws.{stored_in}
use Rattle.request_laws.specs.push_laws.specs.Premises.{AllGranted}
use Rattle.request_laws.specs.host_model.specs.Circumstances.{Circumstance, answers_in}
use Rattle.request_laws.specs.host_model.specs.Hosts.{Host}
use Rattle.request_laws.specs.host_model.specs.Servers.{ServerProfile}
use Rattle.request_laws.specs.host_laws.specs.InOrder.{AsksForOneObject}
use Rattle.unit_laws.specs.scenario_laws.specs.Gains.{serving}
use Rattle.unit_laws.specs.scenario_laws.specs.Parties.{party_of}
use Rattle.unit_laws.specs.Calls.{gifts_in}
use Rattle.unit_laws.specs.Laws.{FiresNone}
use Rattle.unit_laws.specs.Living.{Did, HaveCommands}
use Rattle.unit_laws.specs.Units.{Lined, Occasion, units, lone_capture}
use Rattle.orderly_laws.specs.Answered.{AreAnswered}

-- A PDU on the signalling channel has one command; on each link the client asks for one channel that may carry packets, besides that of service
-- discovery; and on that each request that is not passed over in silence comes behind the response to the one before, and has a response; and where the last of
-- all is passed over it is seen that it was taken.
pub record IsOrderlyInput (settings : Settings) (capture : List Entry) : Type 0 where
  pub commands : HaveCommands sides.B capture
  pub one_channel : AllByRecursion (AsksForOneObject L2cap) (talks sides.B capture)
  pub answered : AllByRecursion (AreAnswered settings (party_of settings sides.B)) (talks sides.B capture)

-- of what the ports are to answer, the inbox grants all
abbrev pub IsGrant : List Circumstance → Type 0
IsGrant gift = AllGranted (answers_in gift)

-- its timer never fires, and its inbox grants all that it is asked
pub record IsGranted (occasions : List (Occasion Circumstance)) : Type 0 where
  pub untimed : AllByRecursion FiresNone occasions
  pub granted : AllByRecursion IsGrant (gifts_in occasions)

-- On orderly input the inbox of such a server gains exactly the objects that the packets spell which its host heard, as its own units have them, in the
-- order of their last packets, over L2CAP: where it hears one thing at a time.
abbrev pub ServersGainAsked : Type 0
ServersGainAsked = (settings : Settings) (before : List Object) (occasions : List (Occasion Circumstance)) (now : Lined (Host ServerProfile)) → settings.transport ≡ L2cap → Did (serving settings before) Server occasions now → IsGranted occasions
    → IsOrderlyInput settings (lone_capture sides.B (units occasions))
    → stored_in now.upper.profile.inbox.content ≡ Some (before ++ objects_heard (party_of settings sides.B) sides.B (lone_capture sides.B (units occasions)))
