-- What one host takes of the frames that pass on an enhanced channel, whatever comes in (Core 5.1, Volume 3 Part A, 3.3.2, 8.3 and 8.6).
use Rattle.std.specs.Prelude.{ℕ, ◌≡◌, ◌+◌, ◌%◌, ◌≤◌, nat_le, List, length, fold, if◌then◌else◌}
use Rattle.own_channel_laws.specs.talk_laws.specs.capture.specs.Histories.{AtEach}
use Rattle.own_channel_laws.specs.talk_laws.specs.ertm_frames.specs.Picking.{Passage, Out, In, ins, last_req, req_of}
use Rattle.own_channel_laws.specs.talk_laws.specs.link_talk.specs.Picks.{pick}
use Rattle.window_laws.specs.Windows.{number_from, acknowledged_of, given_of}

-- All I-frames of a host with a number below `acknowledged` are acknowledged, and those with a number below `given` went out. Of its peer those with a number below
-- `accepted` came in.
pub record Numbers : Type 0 where
  pub acknowledged : ℕ
  pub given : ℕ
  pub accepted : ℕ

abbrev pub none_given : Numbers
none_given = record { acknowledged = 0; given = 0; accepted = 0 }

-- A ReqSeq is taken as a number that is not above those that went out; any other is refused, and acknowledges none.
abbrev pub acknowledged_with : (acknowledged given number : ℕ) → ℕ
acknowledged_with acknowledged given number = if nat_le number given then number else acknowledged

-- Each way the I-frame with the next number counts, and none that goes again or that is ahead.
abbrev pub numbers_after : Numbers → Passage → Numbers
numbers_after numbers (Out frame) = record numbers { given = numbers.given + length (pick numbers.given frame) }
numbers_after numbers (In frame) = record numbers {
  acknowledged = acknowledged_with numbers.acknowledged numbers.given (number_from numbers.acknowledged (req_of frame));
  accepted = numbers.accepted + length (pick numbers.accepted frame);
}

abbrev pub numbers_of : List Passage → Numbers
numbers_of passed = fold numbers_after none_given passed

-- Of those that went out no more are unacknowledged than the window, by the ReqSeq values that are taken.
pub record HoldsAsTaken (window : ℕ) (passed : List Passage) : Type 0 where
  pub gone : (numbers_of passed).acknowledged ≤ (numbers_of passed).given
  pub within : (numbers_of passed).given ≤ (numbers_of passed).acknowledged + window

-- The last ReqSeq that came in acknowledged the frames below it: it was taken.
abbrev pub LastIsTaken : List Passage → Type 0
LastIsTaken passed = (numbers_of passed).acknowledged % 64 ≡ last_req 0 (ins passed)

-- ---- the law

-- As many went out as are picked. And where no ReqSeq was refused, as many are acknowledged as the ReqSeq values stand for.
pub record NumbersAreRead : Type 0 where
  pub given : (passed : List Passage) → (numbers_of passed).given ≡ given_of passed
  pub acknowledged : (passed : List Passage) → AtEach LastIsTaken passed → (numbers_of passed).acknowledged ≡ acknowledged_of passed
