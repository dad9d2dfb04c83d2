-- What matters of what is held of a channel: what its objects are told by (Core 5.1, Volume 3 Part A, 3.3, 7.3 and 8.4;
-- RFCOMM 1.2, 5; IrOBEX 1.5, 3.4.3).
use Rattle.std.specs.Prelude.{ℕ, ◌≡◌, ◌%◌, ◌&&◌, not, nat_lt, Option, Bool, true, false, if◌then◌else◌, List, [], ◌∷◌, ◌++◌, length, take, map, fold, find}
use Rattle.std.specs.List.{flat_map}
use Rattle.capture.specs.declared.flow.Flow.{Flow}
use Rattle.capture.specs.declared.flow.Flow.TheVariants.{Out, Into}
use Rattle.link_readers.specs.l2cap_config.specs.declared.wish.Mode.{Mode}
use Rattle.rfcomm_frames.specs.ObexPackets.{stated_size}
use Rattle.obex_headers.specs.Packets.{PlainPacket}
use Rattle.obex_headers.specs.Runs.{run_headers}
use Rattle.link_talk.specs.declared.channel.Channel.{Channel}
use Rattle.link_talk.specs.declared.party.Party.{Party}
use Rattle.link_talk.specs.Sayings.{Saying}
use Rattle.link_talk.specs.Channels.{Entry, Reading}
use Rattle.link_talk.specs.Carriages.{Carriage, is_heard, carried_by, has_own, entry_mode}
use Rattle.link_talk.specs.Sdus.{longest, Spoken, spoken_one_way}
use Rattle.link_talk.specs.Packets.{Carrier, OverL2cap, OverRfcomm, OverNothing, carrier}
use Rattle.link_talk.specs.ObjectsHeard.{put_within}
use Rattle.link_readers.specs.talk_laws.specs.Sdus.{Ear, Ears, no_ears, nothing_heard, ear_after, ear_of, with_ear, spoken_now}
use Rattle.link_readers.specs.talk_laws.specs.Packets.{Streams, no_streams, streams_after, packets_now}
use Rattle.link_readers.specs.talk_laws.specs.Spelling.{Hearing, hearing_with, objects_told}
use Rattle.link_readers.specs.talk_laws.specs.LinkPass.{KeptChannel, LinkPass, held_by, ChannelStep, pass_after}
use Rattle.object_lines.specs.Tallies.{Told, told, Tally, no_tally, tally_of, tally_after, told_from}

-- how far SDUs are joined, how far the multiplexer is and what it brought that is no whole packet yet, and the tally of
-- the PUTs that go on
pub record Matter : Type 0 where
  pub ears : Ears
  pub streams : Streams
  pub tally : Tally

abbrev pub no_matter : Matter
no_matter = record { ears = no_ears; streams = no_streams; tally = no_tally }

-- frames are numbered modulo 64, and more of a number does not count
abbrev pub short_ear : Ear → Ear
short_ear ear = record { next = ear.next % 64; joining = ear.joining }

abbrev pub short_ears : Ears → Ears
short_ears ears = record { out_ = short_ear ears.out_; into = short_ear ears.into }

abbrev pub ears_with : Party → Ears → Carriage → Ears
ears_with party ears carriage = with_ear carriage.flow ears (short_ear (ear_after (longest party carriage.flow) (ear_of carriage.flow ears) carriage.pdu))

-- the PUTs that packets are for the receiver
abbrev pub puts_of : Party → List Spoken → List (Option PlainPacket)
puts_of party packets = map (put_within party.packet) (spoken_one_way Into packets)

-- ---- an SDU more

-- packets are told of
abbrev pub with_packets : Party → List Spoken → Matter → Matter
with_packets party packets matter = record matter { tally = fold tally_after matter.tally (puts_of party packets) }

-- the packet at the front of a stream states fewer octets than its own head has, so no packet ever stands there
abbrev pub is_stuck : List ℕ → Bool
is_stuck stream = not (nat_lt (length stream) 3) && nat_lt (stated_size stream) 3

-- and that head is all that matters of it
abbrev pub short_stream : List ℕ → List ℕ
short_stream stream = if is_stuck stream then take 3 stream else stream

-- what goes out is no packet that is heard, so of its octets nothing is held
abbrev pub short_streams : Streams → Streams
short_streams streams = record streams { out_ = []; into = short_stream streams.into }

abbrev pub sdu_after : Party → Carrier → Matter → Spoken → Matter
sdu_after party OverL2cap matter sdu = with_packets party (sdu ∷ []) matter
sdu_after party OverRfcomm matter sdu =
    record {
      ears = matter.ears;
      streams = short_streams (streams_after party matter.streams sdu);
      tally = fold tally_after matter.tally (puts_of party (packets_now party OverRfcomm matter.streams sdu));
    }
sdu_after party OverNothing matter sdu = matter

abbrev pub sdu_told : Party → Carrier → Matter → Spoken → List Told
sdu_told party over matter sdu = told_from matter.tally (puts_of party (packets_now party over matter.streams sdu))

abbrev pub sdus_told : Party → Carrier → Matter → List Spoken → List Told
sdus_told party over matter [] = []
sdus_told party over matter (sdu ∷ sdus) = sdu_told party over matter sdu ++ sdus_told party over (sdu_after party over matter sdu) sdus

-- ---- a PDU more

-- what goes on with the SDUs that are whole with it
abbrev pub heard_with : Party → Carrier → Mode → Matter → Carriage → Matter
heard_with party over mode matter carriage =
    fold (sdu_after party over) (record matter { ears = ears_with party matter.ears carriage }) (spoken_now party mode matter.ears carriage)

abbrev pub told_with : Party → Carrier → Mode → Matter → Carriage → List Told
told_with party over mode matter carriage = sdus_told party over matter (spoken_now party mode matter.ears carriage)

-- over L2CAP what goes out does not matter
abbrev pub is_passed_over : Carrier → Flow → Bool
is_passed_over OverL2cap Out = true
is_passed_over OverL2cap Into = false
is_passed_over OverRfcomm flow = false
is_passed_over OverNothing flow = true

abbrev pub matter_after : Party → Carrier → Mode → Matter → Carriage → Matter
matter_after party over mode matter carriage = if is_passed_over over carriage.flow then matter else heard_with party over mode matter carriage

abbrev pub told_now : Party → Carrier → Mode → Matter → Carriage → List Told
told_now party over mode matter carriage = if is_passed_over over carriage.flow then [] else told_with party over mode matter carriage

-- ---- by what is held of the talk

abbrev pub matter_passing : Party → Carrier → Mode → Matter → List Carriage → Matter
matter_passing party over mode matter carried = fold (matter_after party over mode) matter carried

abbrev pub told_passing : Party → Carrier → Mode → Matter → List Carriage → List Told
told_passing party over mode matter [] = []
told_passing party over mode matter (carriage ∷ carried) =
    told_now party over mode matter carriage ++ told_passing party over mode (matter_after party over mode matter carriage) carried

abbrev pub step_among : Party → Channel → List Entry → Matter → Saying → Matter
step_among party channel entries matter saying = matter_passing party (carrier channel.psm) (entry_mode (find (has_own channel) entries)) matter (carried_by is_heard channel entries saying)

abbrev pub told_among : Party → Channel → List Entry → Matter → Saying → List Told
told_among party channel entries matter saying = told_passing party (carrier channel.psm) (entry_mode (find (has_own channel) entries)) matter (carried_by is_heard channel entries saying)

abbrev pub matter_step : Party → ChannelStep Matter
matter_step party channel held matter saying = step_among party channel held.entries matter saying

abbrev pub matter_told : Party → Channel → Reading → Matter → Saying → List Told
matter_told party channel held matter saying = told_among party channel held.entries matter saying

-- a saying more on a link
abbrev pub matter_pass : Party → LinkPass Matter → Saying → LinkPass Matter
matter_pass party pass saying = pass_after (matter_step party) no_matter pass saying

abbrev pub pass_told : Party → LinkPass Matter → Saying → List Told
pass_told party pass saying = flat_map (λ (one : KeptChannel Matter). matter_told party one.entry.channel (held_by pass) one.state saying) pass.kept

-- ---- what matters of what is held of a whole channel

abbrev pub matter_by : Carrier → Hearing → Matter
matter_by OverL2cap hearing = record { ears = record (short_ears hearing.ears) { out_ = nothing_heard }; streams = no_streams; tally = tally_of (run_headers hearing.run) }
matter_by OverRfcomm hearing = record { ears = short_ears hearing.ears; streams = short_streams hearing.streams; tally = tally_of (run_headers hearing.run) }
matter_by OverNothing hearing = no_matter

abbrev pub matter : Channel → Hearing → Matter
matter channel hearing = matter_by (carrier channel.psm) hearing

-- ---- the law

-- one saying more: what matters is told by what mattered before it, and so is what is told
pub record MattersLead : Type 0 where
  pub leads : (party : Party) (channel : Channel) (held : Reading) (hearing : Hearing) (saying : Saying) → matter channel (hearing_with party channel held hearing saying) ≡ matter_step party channel held (matter channel hearing) saying
  pub tells : (party : Party) (channel : Channel) (held : Reading) (hearing : Hearing) (saying : Saying) → map told (objects_told party channel held hearing saying) ≡ matter_told party channel held (matter channel hearing) saying
