-- The OBEX packets on a channel in one pass (IrOBEX 1.5, 2.2; RFCOMM 1.2, 5 and 6.5).
use Rattle.std.specs.Prelude.{ℕ, ◌≡◌, Bool, false, List, [], ◌∷◌, ◌++◌, length, map, fold, drop, Option, Some, None, if◌then◌else◌}
use Rattle.std.specs.List.{flat_map}
use Rattle.link_talk.specs.capture.specs.declared.flow.Flow.{Flow}
use Rattle.link_talk.specs.capture.specs.declared.flow.Flow.TheVariants.{Out, Into}
use Rattle.link_talk.specs.rfcomm_frames.specs.Multiplexing.{Framed, frames}
use Rattle.link_talk.specs.rfcomm_frames.specs.Ending.{Course, no_course, course_after, is_last, has_last}
use Rattle.link_talk.specs.rfcomm_frames.specs.UserChannel.{live_frames, user_octets}
use Rattle.link_talk.specs.rfcomm_frames.specs.LookingBack.{connections}
use Rattle.link_talk.specs.rfcomm_frames.specs.ObexPackets.{obex_packets}
use Rattle.link_talk.specs.declared.channel.Channel.{Channel}
use Rattle.link_talk.specs.declared.party.Party.{Party}
use Rattle.link_talk.specs.Sayings.{Saying}
use Rattle.link_talk.specs.Carriages.{is_heard, carried, stretch, mode_of}
use Rattle.link_talk.specs.Sdus.{Spoken, spoken_as, spoken}
use Rattle.link_talk.specs.Frames.{frame_in, octets_heard}
use Rattle.link_talk.specs.Packets.{Carrier, OverL2cap, OverRfcomm, OverNothing, carrier, role_of, passed, packets_spoken, packets}
use Rattle.talk_laws.specs.Sdus.{ears_so_far, spoken_from}

-- ---- a stream

-- what stands behind the packets of a stream
abbrev pub rest_of : List ℕ → List ℕ
rest_of stream = drop (length (flat_map (λ (packet : List ℕ). packet) (obex_packets stream))) stream

-- ---- over RFCOMM

-- How far the connections and the closing are, whether the multiplexer was closed, and the octets of each way that are no
-- whole packet yet.
pub record Streams : Type 0 where
  pub course : Course
  pub closed : Bool
  pub out_ : List ℕ
  pub into : List ℕ

abbrev pub no_streams : Streams
no_streams = record { course = no_course; closed = false; out_ = []; into = [] }

abbrev pub begun : Flow → Streams → List ℕ
begun Out streams = streams.out_
begun Into streams = streams.into

-- the frame that an SDU is; behind a closing none counts
abbrev pub frame_of : Party → Streams → Spoken → Option Framed
frame_of party streams sdu = if streams.closed then None else frame_in (role_of party sdu.flow) sdu.octets

abbrev pub course_by : Party → Course → Option Framed → Course
course_by party course None = course
course_by party course (Some f) = course_after party.dlci party.role course f

abbrev pub closed_by : Party → Course → Bool → Option Framed → Bool
closed_by party course closed None = closed
closed_by party course closed (Some f) = is_last party.dlci party.role course f

-- the octets of a packet that is not whole, with those that an SDU brings behind them
abbrev pub stream_with : Party → Flow → Streams → Spoken → List ℕ
stream_with party flow streams sdu = begun flow streams ++ octets_heard party.dlci (role_of party flow) streams.course.lines (frame_of party streams sdu)

abbrev pub streams_after : Party → Streams → Spoken → Streams
streams_after party streams sdu =
    record {
      course = course_by party streams.course (frame_of party streams sdu);
      closed = closed_by party streams.course streams.closed (frame_of party streams sdu);
      out_ = rest_of (stream_with party Out streams sdu);
      into = rest_of (stream_with party Into streams sdu);
    }

abbrev pub streams_so_far : Party → List Spoken → Streams
streams_so_far party sdus = fold (streams_after party) no_streams sdus

-- ---- both ways, in their order

-- the packets that are whole with one SDU
abbrev pub packets_now : Party → Carrier → Streams → Spoken → List Spoken
packets_now party OverL2cap streams sdu = sdu ∷ []
packets_now party OverRfcomm streams sdu = map (spoken_as sdu.flow) (obex_packets (stream_with party sdu.flow streams sdu))
packets_now party OverNothing streams sdu = []

abbrev pub packets_from : Party → Carrier → Streams → List Spoken → List Spoken
packets_from party over streams [] = []
packets_from party over streams (sdu ∷ sdus) = packets_now party over streams sdu ++ packets_from party over (streams_after party streams sdu) sdus

-- ---- the laws

-- what one pass holds is what stands behind the packets of the whole stream, and what it hands up are the packets
pub record PacketsLookBack : Type 0 where
  -- the multiplexer is closed where one of all frames closes it, and the connections are those of the frames up to that one
  pub closed : (party : Party) (sdus : List Spoken) → (streams_so_far party sdus).closed ≡ has_last party.dlci party.role no_course (frames (map (passed party) sdus))
  pub lines : (party : Party) (sdus : List Spoken) → (streams_so_far party sdus).course.lines ≡ connections party.dlci (live_frames party.dlci party.role (map (passed party) sdus))
  pub held : (party : Party) (flow : Flow) (sdus : List Spoken) → begun flow (streams_so_far party sdus) ≡ rest_of (user_octets party.dlci party.role (role_of party flow) (map (passed party) sdus))
  pub spoken : (party : Party) (psm : ℕ) (sdus : List Spoken) → packets_spoken party psm sdus ≡ packets_from party (carrier psm) no_streams sdus

-- the SDUs that one saying more brings to a channel
abbrev pub sdus_said : Party → Channel → List Saying → Saying → List Spoken
sdus_said party channel said more = spoken_from party (mode_of channel said) (ears_so_far party (stretch channel said)) (carried is_heard channel said more)

-- one SDU more, and one saying more, on whatever channel
pub record PacketsAlwaysGrow : Type 0 where
  pub sdu : (party : Party) (psm : ℕ) (sdus : List Spoken) (more : Spoken) → packets_spoken party psm (sdus ++ more ∷ []) ≡ packets_spoken party psm sdus ++ packets_now party (carrier psm) (streams_so_far party sdus) more
  pub sdus : (party : Party) (channel : Channel) (said : List Saying) (more : Saying) → spoken party channel (said ++ more ∷ []) ≡ spoken party channel said ++ sdus_said party channel said more
  pub said : (party : Party) (channel : Channel) (said : List Saying) (more : Saying)
      → packets party channel (said ++ more ∷ []) ≡ packets party channel said ++ packets_from party (carrier channel.psm) (streams_so_far party (spoken party channel said)) (sdus_said party channel said more)
