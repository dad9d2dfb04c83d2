-- The objects that the packets spell which a server heard (IrOBEX 1.5, 3.4.3; Object Push Profile 1.2, 4.3).
use Rattle.std.specs.Prelude.{List, ◌++◌}
use Rattle.link_talk.specs.bt_base.specs.declared.settings.Settings.{Settings}
use Rattle.link_talk.specs.bt_base.specs.declared.settings.Transport.{Transport}
use Rattle.link_talk.specs.bt_base.specs.declared.settings.Transport.TheVariants.{L2cap, Rfcomm}
use Rattle.link_talk.specs.bt_base.specs.Objects.{Object}
use Rattle.link_talk.specs.capture.specs.Histories.{given_by}
use Rattle.link_talk.specs.Gains.{gained}
use Rattle.link_talk.specs.ObjectsHeard.{spelled_within}
use Rattle.push_model.specs.Client.{own_maximum}
use Rattle.push_laws.specs.Occurrences.{Occurrence}
use Rattle.push_laws.specs.Readings.{packets_over}

-- those over one transport since its channel was last closed
abbrev pub objects_over : Settings → Transport → List Occurrence → List Object
objects_over settings transport past = spelled_within (own_maximum transport settings) (packets_over transport past)

-- those that are whole with one occurrence more
abbrev pub objects_with : Settings → List Occurrence → Occurrence → List Object
objects_with settings past one = gained (objects_over settings L2cap) past one ++ gained (objects_over settings Rfcomm) past one

-- all of them, in the order of their last packets over both transports
abbrev pub objects : Settings → List Occurrence → List Object
objects settings past = given_by (objects_with settings) past
