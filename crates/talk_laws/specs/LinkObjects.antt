-- The objects of a link in one pass, and by its channels (IrOBEX 1.5, 3.4.3; Core 5.1, Volume 3 Part A, 3.1).
use Rattle.std.specs.Prelude.{ℕ, ◌≡◌, ◌==◌, false, List, [], ◌∷◌, ◌++◌, map, find, Option, Some, None, if◌then◌else◌}
use Rattle.std.specs.List.{filter_map, flat_map}
use Rattle.link_talk.specs.bt_base.specs.Objects.{Object}
use Rattle.link_talk.specs.capture.specs.declared.flow.Flow.TheVariants.{Out, Into}
use Rattle.link_talk.specs.capture.specs.Histories.{given_by}
use Rattle.link_talk.specs.declared.channel.Channel.{Channel}
use Rattle.link_talk.specs.declared.party.Party.{Party}
use Rattle.link_talk.specs.Sayings.{Saying, Command, Carried, GaveUp}
use Rattle.link_talk.specs.Channels.{Entry, Reading, reading}
use Rattle.link_talk.specs.Carriages.{is_heard, taker, has_own}
use Rattle.link_talk.specs.Gains.{beyond}
use Rattle.link_talk.specs.ObjectsHeard.{channel_objects, objects}
use Rattle.talk_laws.specs.Waits.{mode_held}
use Rattle.talk_laws.specs.Spelling.{Hearing, no_hearing, objects_now, hearing_with, objects_told, hearing_of}
use Rattle.talk_laws.specs.LinkPass.{KeptChannel, LinkPass, no_pass, held_by, ChannelStep, pass_after, pass_of, pass_back}

-- ---- one pass over a link

abbrev pub hearing_step : Party → ChannelStep Hearing
hearing_step party channel held hearing saying = hearing_with party channel held hearing saying

-- the objects that are whole with one saying
abbrev pub objects_said : Party → LinkPass Hearing → Saying → List Object
objects_said party pass saying = flat_map (λ (one : KeptChannel Hearing). objects_told party one.entry.channel (held_by pass) one.state saying) pass.kept

abbrev pub objects_along : Party → LinkPass Hearing → List Saying → List Object
objects_along party pass [] = []
objects_along party pass (saying ∷ said) = objects_said party pass saying ++ objects_along party (pass_after (hearing_step party) no_hearing pass saying) said

pub record LinkObjectsLookBack : Type 0 where
  pub held : (party : Party) (said : List Saying) → pass_of (hearing_step party) no_hearing said ≡ pass_back (hearing_of party) said
  pub objects : (party : Party) (said : List Saying) → objects party said ≡ objects_along party (no_pass Hearing) said

-- ---- one saying more

-- A PDU is heard on one channel alone; nothing else brings an object.
abbrev pub objects_by : Party → Reading → (Channel → Hearing) → List ℕ → Option Entry → List Object
objects_by party held hearings pdu None = []
objects_by party held hearings pdu (Some entry) = objects_now party entry.channel (mode_held entry.channel held) (hearings entry.channel) (record { flow = Into; pdu = pdu } ∷ [])

abbrev pub objects_on : Party → Reading → (Channel → Hearing) → Saying → List Object
objects_on party held hearings (Command flow answer) = []
objects_on party held hearings (Carried Out pdu) = []
objects_on party held hearings (Carried Into pdu) = objects_by party held hearings pdu (taker is_heard Into pdu held.entries)
objects_on party held hearings (GaveUp forgone) = []

abbrev pub LinkObjectsGrow : Type 0
LinkObjectsGrow = (party : Party) (said : List Saying) (more : Saying) → objects party (said ++ more ∷ []) ≡ objects party said ++ objects_on party (reading said) (λ channel. hearing_of party channel said) more

-- ---- by channels

-- an object, and the channel on which its last packet came
pub record PlacedObject : Type 0 where
  pub channel : Channel
  pub object : Object

abbrev pub placed_on : Channel → Object → PlacedObject
placed_on channel object = record { channel = channel; object = object }

abbrev pub placed_of : Party → (past now : List Saying) → Entry → List PlacedObject
placed_of party past now entry = map (placed_on entry.channel) (beyond (channel_objects party entry.channel past) (channel_objects party entry.channel now))

abbrev pub placed_with : Party → List Saying → Saying → List PlacedObject
placed_with party past more = flat_map (placed_of party past (past ++ more ∷ [])) (reading past).entries

-- the objects of a link with their channels, in the order of their last packets
abbrev pub placed_objects : Party → List Saying → List PlacedObject
placed_objects party said = given_by (placed_with party) said

abbrev pub object_on : Channel → PlacedObject → Option Object
object_on channel one = if one.channel.own == channel.own then Some one.object else None

pub record ObjectsFallToChannels : Type 0 where
  -- they are the objects of the link
  pub all : (party : Party) (said : List Saying) → map (λ (one : PlacedObject). one.object) (placed_objects party said) ≡ objects party said
  -- those of one channel are its objects, in their order
  pub each : (party : Party) (said : List Saying) (channel : Channel) (entry : Entry) → find (has_own channel) (reading said).entries ≡ Some entry → filter_map (object_on channel) (placed_objects party said) ≡ channel_objects party entry.channel said
  -- and there are no others
  pub none : (party : Party) (said : List Saying) (channel : Channel) → find (has_own channel) (reading said).entries ≡ None → filter_map (object_on channel) (placed_objects party said) ≡ []
  -- where one channel alone has objects they are those of the link
  pub alone : (party : Party) (said : List Saying) (entry : Entry) → find (has_own entry.channel) (reading said).entries ≡ Some entry
      → ((other : Entry) → find (has_own other.channel) (reading said).entries ≡ Some other → (other.channel.own == entry.channel.own) ≡ false → channel_objects party other.channel said ≡ [])
      → objects party said ≡ channel_objects party entry.channel said
