-- The objects that the packets on a channel spell, in one pass (IrOBEX 1.5, 3.4.1 and 3.4.3).
use Rattle.std.specs.Prelude.{ℕ, ◌≡◌, ◌||◌, ◌&&◌, Bool, false, List, [], ◌∷◌, ◌++◌, map, fold, Option, Some, None, if◌then◌else◌}
use Rattle.std.specs.List.{list_any}
use Rattle.link_talk.specs.bt_base.specs.Objects.{Object}
use Rattle.link_talk.specs.capture.specs.declared.flow.Flow.TheVariants.{Into}
use Rattle.link_talk.specs.l2cap_config.specs.declared.wish.Mode.{Mode}
use Rattle.link_talk.specs.obex_headers.specs.Packets.{PlainPacket}
use Rattle.link_talk.specs.obex_headers.specs.Runs.{is_final, run_headers, breaks, lacks, objects_from}
use Rattle.link_talk.specs.declared.channel.Channel.{Channel}
use Rattle.link_talk.specs.declared.party.Party.{Party}
use Rattle.link_talk.specs.Sayings.{Saying}
use Rattle.link_talk.specs.Channels.{Reading, nothing_read, read_on, reading}
use Rattle.link_talk.specs.Carriages.{Carriage, is_heard, carried_by, stretch, has_own}
use Rattle.link_talk.specs.Sdus.{Spoken, spoken, spoken_one_way}
use Rattle.link_talk.specs.Packets.{carrier, packets_heard}
use Rattle.link_talk.specs.ObjectsHeard.{put_within, spelled_within, channel_objects}
use Rattle.talk_laws.specs.Sdus.{Ears, no_ears, ears_after, ears_so_far, spoken_from}
use Rattle.talk_laws.specs.Packets.{Streams, no_streams, streams_after, streams_so_far, packets_from}
use Rattle.talk_laws.specs.Waits.{mode_held}

-- ---- the PUTs of an object that is not whole

-- a PUT with which a rule is broken, or a final one without a Name or a body
abbrev pub is_refused : List PlainPacket → PlainPacket → Bool
is_refused run put = breaks (run_headers (run ++ put ∷ [])) || (is_final put && lacks (run_headers (run ++ put ∷ [])))

-- what ends a run leaves none
abbrev pub run_with : List PlainPacket → Option PlainPacket → List PlainPacket
run_with run None = []
run_with run (Some put) = if is_refused run put then [] else (if is_final put then [] else run ++ put ∷ [])

-- ---- a channel

-- what one pass holds of it: how far the SDUs are joined, the packets over RFCOMM, and the PUTs of an object that is not whole
pub record Hearing : Type 0 where
  pub ears : Ears
  pub streams : Streams
  pub run : List PlainPacket

abbrev pub no_hearing : Hearing
no_hearing = record { ears = no_ears; streams = no_streams; run = [] }

-- the SDUs that are whole with what it carries, the packets that are heard, and what these are for the receiver
abbrev pub sdus_now : Party → Mode → Hearing → List Carriage → List Spoken
sdus_now party mode hearing carried = spoken_from party mode hearing.ears carried

abbrev pub heard_now : Party → Channel → Mode → Hearing → List Carriage → List (List ℕ)
heard_now party channel mode hearing carried = spoken_one_way Into (packets_from party (carrier channel.psm) hearing.streams (sdus_now party mode hearing carried))

abbrev pub puts_now : Party → Channel → Mode → Hearing → List Carriage → List (Option PlainPacket)
puts_now party channel mode hearing carried = map (put_within party.packet) (heard_now party channel mode hearing carried)

abbrev pub hearing_after : Party → Channel → Mode → Hearing → List Carriage → Hearing
hearing_after party channel mode hearing carried =
    record {
      ears = fold (ears_after party) hearing.ears carried;
      streams = fold (streams_after party) hearing.streams (sdus_now party mode hearing carried);
      run = fold run_with hearing.run (puts_now party channel mode hearing carried);
    }

-- the objects whose last packets these are
abbrev pub objects_now : Party → Channel → Mode → Hearing → List Carriage → List Object
objects_now party channel mode hearing carried = objects_from hearing.run (puts_now party channel mode hearing carried)

-- ---- by what is held of the talk

abbrev pub hearing_with : Party → Channel → Reading → Hearing → Saying → Hearing
hearing_with party channel held hearing saying = hearing_after party channel (mode_held channel held) hearing (carried_by is_heard channel held.entries saying)

abbrev pub objects_told : Party → Channel → Reading → Hearing → Saying → List Object
objects_told party channel held hearing saying = objects_now party channel (mode_held channel held) hearing (carried_by is_heard channel held.entries saying)

abbrev pub objects_passed : Party → Channel → Reading → Hearing → List Saying → List Object
objects_passed party channel held hearing [] = []
objects_passed party channel held hearing (saying ∷ said) =
    objects_told party channel held hearing saying ++ objects_passed party channel (read_on held saying) (hearing_with party channel held hearing saying) said

-- ---- the laws

-- the PUTs of an object that is not whole, behind packets
abbrev pub run_of : ℕ → List (List ℕ) → List PlainPacket
run_of most packets = fold run_with [] (map (put_within most) packets)

-- what is held of a channel, looking back
abbrev pub hearing_of : Party → Channel → List Saying → Hearing
hearing_of party channel said =
    record {
      ears = ears_so_far party (stretch channel said);
      streams = streams_so_far party (spoken party channel said);
      run = run_of party.packet (packets_heard party channel said);
    }

pub record ChannelObjectsLookBack : Type 0 where
  pub objects : (party : Party) (channel : Channel) (said : List Saying) → channel_objects party channel said ≡ objects_passed party channel nothing_read no_hearing said
  -- nothing is held of a channel that has not come to be
  pub before : (party : Party) (channel : Channel) (said : List Saying) → list_any (has_own channel) (reading said).entries ≡ false → hearing_of party channel said ≡ no_hearing

-- some packets more, and one saying more, on whatever channel
pub record ChannelObjectsGrow : Type 0 where
  pub run : (most : ℕ) (packets more : List (List ℕ)) → run_of most (packets ++ more) ≡ fold run_with (run_of most packets) (map (put_within most) more)
  pub packets : (most : ℕ) (packets more : List (List ℕ)) → spelled_within most (packets ++ more) ≡ spelled_within most packets ++ objects_from (run_of most packets) (map (put_within most) more)
  pub hearing : (party : Party) (channel : Channel) (said : List Saying) (more : Saying) → hearing_of party channel (said ++ more ∷ []) ≡ hearing_with party channel (reading said) (hearing_of party channel said) more
  pub objects : (party : Party) (channel : Channel) (said : List Saying) (more : Saying)
      → channel_objects party channel (said ++ more ∷ []) ≡ channel_objects party channel said ++ objects_told party channel (reading said) (hearing_of party channel said) more
