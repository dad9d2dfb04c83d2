-- Hosts that ask for no services (Core 5.1, Volume 3 Part B, 4.2 and 4.7): their channels know of all that they wait for.
use Rattle.std.specs.Prelude.{◌≡◌, List, None}
use Rattle.std.specs.List.{AllByRecursion}
use Rattle.talk_laws.specs.l2cap_config.specs.declared.wish.Mode.TheVariants.{Basic}
use Rattle.talk_laws.specs.sdp_elements.specs.Pdus.{pdu_in}
use Rattle.talk_laws.specs.link_talk.specs.declared.party.Party.{Party}
use Rattle.talk_laws.specs.link_talk.specs.ServiceAnswers.{transaction_of}
use Rattle.talk_laws.specs.link_talk.specs.Waits.{waits}
use Rattle.channel_model.specs.Policies.{Policy}
use Rattle.channel_model.specs.Calls.{armed}
use Rattle.own_channel_laws.specs.Runs.{Occurrence, Comes, Connects, AsksFeatures, Disconnects, Sends, Gives, Fires, Tells, run_of}
use Rattle.own_channel_laws.specs.Sdus.{StatesFrame}
use Rattle.own_channel_laws.specs.Frames.{AreUttered}

-- no SDU that the host has for a channel is a request for services
abbrev pub AsksNoServices : Occurrence → Type 0
AsksNoServices (Comes pdu) = Unit {0}
AsksNoServices (Connects psm) = Unit {0}
AsksNoServices AsksFeatures = Unit {0}
AsksNoServices (Disconnects own) = Unit {0}
AsksNoServices (Sends own sdu) = transaction_of (pdu_in sdu) ≡ None
AsksNoServices (Gives pdu) = Unit {0}
AsksNoServices Fires = Unit {0}
AsksNoServices Tells = Unit {0}

-- Then its channels are armed exactly where its own talk says that something waits. Service discovery goes over basic channels.
abbrev pub ChannelsAloneWait : Type 0
ChannelsAloneWait = (policy : Policy) (party : Party) (list : List Occurrence) → StatesFrame policy party → AreUttered policy list → (policy.wish 0x0001).mode ≡ Basic → AllByRecursion AsksNoServices list
    → armed (run_of policy list).value ≡ waits party (run_of policy list).said
