-- The frames of enhanced channels (Core 5.1, Volume 3 Part A, 3.3, 8.3 and 8.6).
use Rattle.std.specs.Prelude.{ℕ, ◌≡◌, ◌<◌, List, [], Option, Some, None}
use Rattle.talk_laws.specs.bt_base.specs.Octets.{IsOctets}
use Rattle.talk_laws.specs.capture.specs.Histories.{EachAfter}
use Rattle.talk_laws.specs.link_talk.specs.declared.channel.Channel.{Channel}
use Rattle.talk_laws.specs.link_talk.specs.declared.party.Party.{Party}
use Rattle.talk_laws.specs.link_talk.specs.Sayings.{Saying}
use Rattle.talk_laws.specs.link_talk.specs.Accounts.{window_used}
use Rattle.talk_laws.specs.link_talk.specs.Waits.{frames_wait}
use Rattle.channel_model.specs.Value.{Setup, Channels}
use Rattle.channel_model.specs.Policies.{Policy}
use Rattle.channel_model.specs.Changing.{held_at}
use Rattle.channel_model.specs.Giving.{Given, IsPdu, next_given}
use Rattle.channel_model.specs.Calls.{setup_on, carrier_armed, carrier_window}
use Rattle.own_channel_laws.specs.Runs.{Occurrence, Comes, Connects, AsksFeatures, Disconnects, Sends, Gives, Fires, Tells, peer_at, run_of}
use Rattle.own_channel_laws.specs.Sdus.{StatesFrame}

-- ---- what goes out

-- the octets are those of what is given
abbrev pub IsSpelled : Option Given → List ℕ → Type 0
IsSpelled None pdu = Unit {0}
IsSpelled (Some given) pdu = IsPdu given pdu × IsOctets pdu

-- what is given has its octets, and an SDU goes to an endpoint of two octets
abbrev pub IsUttered : Occurrence → Channels → Type 0
IsUttered (Comes pdu) v = Unit {0}
IsUttered (Connects psm) v = Unit {0}
IsUttered AsksFeatures v = Unit {0}
IsUttered (Disconnects own) v = Unit {0}
IsUttered (Sends own sdu) v = peer_at (held_at own v) < 65536
IsUttered (Gives pdu) v = IsSpelled (next_given v) pdu
IsUttered Fires v = Unit {0}
IsUttered Tells v = Unit {0}

-- each time
abbrev pub AreUttered : Policy → List Occurrence → Type 0
AreUttered policy list = EachAfter (λ past more. IsUttered more (run_of policy past).value) [] list

-- ---- the law

pub record HoldsFrames (party : Party) (said : List Saying) (channel : Channel) (setup : Setup) : Type 0 where
  -- as many frames as are not acknowledged
  pub window_is : carrier_window setup.carrier ≡ window_used party said channel
  -- and its timer runs where there is one, or a poll is not answered
  pub armed_is : carrier_armed setup.carrier ≡ frames_wait party said channel

-- Of a channel that is there, and that its host has not closed: its host holds as many frames as its own talk says that are
-- not acknowledged, none in basic mode, and awaits what its own talk says.
abbrev pub FramesAreHeld : Type 0
FramesAreHeld = (policy : Policy) (party : Party) (list : List Occurrence) (channel : Channel) (setup : Setup) → StatesFrame policy party → AreUttered policy list
    → setup_on (held_at channel.own (run_of policy list).value) ≡ Some setup → HoldsFrames party (run_of policy list).said channel setup
