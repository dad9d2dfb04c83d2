-- What a host owes and is owed on a channel: I-frames that are not acknowledged (Core 5.1, Volume 3 Part A, 8.3 and 8.6), and
-- credits (RFCOMM 1.2, 6.5).
use Rattle.std.specs.Prelude.{ℕ, ℤ, pos, ◌==◌, ◌&&◌, List, map, fold, max, Option, Some, None, if◌then◌else◌}
use Rattle.std.specs.List.{filter_map}
use Rattle.std.specs.Option.{option_map}
use Rattle.capture.specs.Histories.{last_of}
use Rattle.capture.specs.declared.flow.Flow.{Flow}
use Rattle.capture.specs.declared.flow.Flow.TheVariants as ways
use Rattle.ertm_frames.specs.Frames.{PlainFrame}
use Rattle.ertm_frames.specs.Reading.{frame_in}
use Rattle.ertm_frames.specs.Picking.{Passage, Out, In, outs, ins, unacknowledged}
use Rattle.l2cap_config.specs.declared.wish.Mode.{Mode}
use Rattle.l2cap_config.specs.declared.wish.Mode.TheVariants.{Basic, Enhanced}
use Rattle.rfcomm_frames.specs.UserChannel.{credits_held}
use Rattle.link_talk.specs.declared.channel.Channel.{Channel}
use Rattle.link_talk.specs.Sayings.{Saying}
use Rattle.link_talk.specs.Channels.{Entry, is_alive, reading}
use Rattle.link_talk.specs.Carriages.{Carriage, passages, mode_of}
use Rattle.link_talk.specs.declared.party.Party.{Party}
use Rattle.link_talk.specs.Sdus.{longest, spoken}
use Rattle.link_talk.specs.Packets.{passed}

-- ---- I-frames

abbrev pub passage : Flow → PlainFrame → Passage
passage ways.Out frame = Out frame
passage ways.Into frame = In frame

abbrev pub passage_in : Party → Carriage → Option Passage
passage_in party carriage = option_map (passage carriage.flow) (frame_in (longest party carriage.flow) carriage.pdu)

-- the frames that passed on a channel, both ways
abbrev pub frames_passed : Party → Channel → List Saying → List Passage
frames_passed party channel said = filter_map (passage_in party) (passages channel said)

abbrev pub waiting_frames : Mode → List Passage → ℕ
waiting_frames Basic frames = 0
waiting_frames Enhanced frames = unacknowledged (outs frames) (ins frames)

-- how many I-frames of the host on a channel are not acknowledged
abbrev pub window_used : Party → List Saying → Channel → ℕ
window_used party said channel = waiting_frames (mode_of channel said) (frames_passed party channel said)

-- the most on one channel of a link
abbrev pub widest : Party → List Saying → ℕ
widest party said = fold max 0 (map (λ (entry : Entry). window_used party said entry.channel) (reading said).entries)

-- ---- credits

-- a channel of RFCOMM that its host has not closed
abbrev pub carries_rfcomm : Entry → Option Channel
carries_rfcomm entry = if (entry.channel.psm == 0x0003) && is_alive entry.life then Some entry.channel else None

-- credits count on the one of these that came to be last
abbrev pub multiplexed : List Entry → Option Channel
multiplexed entries = last_of (filter_map carries_rfcomm entries)

abbrev pub credits_on : Party → List Saying → Option Channel → ℤ
credits_on party said None = pos 0
credits_on party said (Some channel) = credits_held party.dlci party.role (map (passed party) (spoken party channel said))

-- the credits that a host holds on a link: granted by its peer, less those that it spent
abbrev pub credits : Party → List Saying → ℤ
credits party said = credits_on party said (multiplexed (reading said).entries)
