-- What comes to a server over L2CAP is orderly where its client has one channel of objects at a time on a link, and then its inbox gains what the packets spell, as
-- its own units say alone (Object Push Profile 1.2, 4.3; IrOBEX 1.5, 3.2 and 3.4.3; Core 5.1, Volume 3 Part A, 4.3, 4.6 and 4.7).
use Rattle.std.specs.Prelude.{List}
use Rattle.std.specs.List.{AllByRecursion}
use Rattle.request_laws.specs.bt_base.specs.declared.settings.Settings.{Settings}
use Rattle.request_laws.specs.bt_base.specs.declared.settings.Transport.TheVariants.{L2cap}
use Rattle.request_laws.specs.bt_base.specs.Objects.{Object}
use Rattle.request_laws.specs.push_terms.specs.declared.word.Side.TheVariants as sides
use Rattle.request_laws.specs.capture.specs.Entries.{Entry}
use Rattle.request_laws.specs.link_talk.specs.Captures.{talks}
use Rattle.request_laws.specs.host_link.specs.declared.role.Role.TheVariants.{Server}
use Rattle.request_laws.specs.host_model.specs.Circumstances.{Circumstance}
use Rattle.request_laws.specs.host_model.specs.Hosts.{Host}
use Rattle.request_laws.specs.host_model.specs.Servers.{ServerProfile}
use Rattle.unit_laws.specs.scenario_laws.specs.Gains.{serving}
use Rattle.unit_laws.specs.scenario_laws.specs.Parties.{party_of}
use Rattle.unit_laws.specs.Living.{Did}
use Rattle.unit_laws.specs.Units.{Lined, Occasion, units, lone_capture}
use Rattle.orderly_laws.specs.Answered.{AreAnswered}
use Rattle.orderly_laws.specs.Orderly.{IsGranted}
use Rattle.orderly_laws.specs.Served.{GainsOver}
use Rattle.behind_laws.specs.InTurn.{IsAskedInTurn}

-- A PDU on the signalling channel has one command. On each link the client has at each moment at most one channel of objects, and any number of them one behind the
-- other; and on each of them each request that is not passed over in silence comes behind the response to the one before, and has a response; and where the last on a
-- channel is passed over it is seen that it was taken.
pub record IsOrderlyInTurn (settings : Settings) (capture : List Entry) : Type 0 where
  pub asked : IsAskedInTurn capture
  pub answered : AllByRecursion (AreAnswered settings (party_of settings sides.B)) (talks sides.B capture)

-- On such input the inbox of a server gains exactly the objects that the packets spell which its host heard, as its own units have them, link after link, and on a
-- link channel after channel: where it hears one thing at a time, its timer never fires, and its inbox grants all that it is asked.
abbrev pub ServersGainOrderlyInTurn : Type 0
ServersGainOrderlyInTurn = (settings : Settings) (before : List Object) (occasions : List (Occasion Circumstance)) (now : Lined (Host ServerProfile)) → Did (serving settings before) Server occasions now → IsGranted occasions
    → IsOrderlyInTurn settings (lone_capture sides.B (units occasions)) → GainsOver settings before L2cap occasions now.upper
