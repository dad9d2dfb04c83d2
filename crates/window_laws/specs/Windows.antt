-- The window of an enhanced channel in numbers of I-frames that never wrap: TxSeq and ReqSeq are theirs modulo 64 (Core 5.1, Volume 3 Part A, 3.3.2, 8.3 and 8.6).
use Rattle.std.specs.Prelude.{ℕ, ◌≡◌, ◌+◌, ◌-◌, ◌%◌, ◌≤◌, List, length, map, fold}
use Rattle.own_channel_laws.specs.talk_laws.specs.capture.specs.Histories.{AtEach}
use Rattle.own_channel_laws.specs.talk_laws.specs.ertm_frames.specs.Picking.{Passage, outs, ins, picked, req_of}
use Rattle.own_channel_laws.specs.talk_laws.specs.l2cap_config.specs.declared.wish.Mode.TheVariants.{Enhanced}
use Rattle.own_channel_laws.specs.talk_laws.specs.link_talk.specs.Accounts.{frames_passed}
use Rattle.own_channel_laws.specs.talk_laws.specs.link_talk.specs.Carriages.{mode_of}
use Rattle.own_channel_laws.specs.talk_laws.specs.link_talk.specs.Channels.{reading}
use Rattle.own_channel_laws.specs.talk_laws.specs.link_talk.specs.Sayings.{Saying}
use Rattle.own_channel_laws.specs.talk_laws.specs.link_talk.specs.declared.channel.Channel.{Channel}
use Rattle.own_channel_laws.specs.talk_laws.specs.link_talk.specs.declared.party.Party.{Party}
use Rattle.own_channel_laws.specs.Endpoints.{IsOf}
use Rattle.own_channel_laws.specs.Views.{read_at}

-- the number that is ReqSeq modulo 64, the first from `first` on
abbrev pub number_from : (first req : ℕ) → ℕ
number_from first req = first + (req + 64 - first % 64) % 64

-- All I-frames with a number below it are acknowledged: each ReqSeq that came in stands for the first such number from the one before it on.
abbrev pub acknowledged_of : List Passage → ℕ
acknowledged_of passed = fold number_from 0 (map req_of (ins passed))

-- All I-frames with a number below it went out: each next new one counts, and none that goes out again.
abbrev pub given_of : List Passage → ℕ
given_of passed = length (picked 0 (outs passed))

-- Of those that went out no more are unacknowledged than the window, and none is acknowledged that did not go out.
pub record HoldsAbsolutely (window : ℕ) (passed : List Passage) : Type 0 where
  pub gone : acknowledged_of passed ≤ given_of passed
  pub within : given_of passed ≤ acknowledged_of passed + window

-- So it is at each moment, on each channel that a talk has in enhanced mode, whether it is closed or not.
abbrev pub HoldsOnEach : (List Passage → Type 0) → Party → List Saying → Type 0
HoldsOnEach P party said = (channel : Channel) → IsOf channel (read_at channel.own (reading said).entries) → mode_of channel said ≡ Enhanced → AtEach P (frames_passed party channel said)
