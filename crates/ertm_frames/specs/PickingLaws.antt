-- What is picked, numbered and awaited, in a reader's form and frame by frame.
use Rattle.std.specs.Prelude.{ℕ, ◌≡◌, ◌↔◌, true, false, List}
use Rattle.std.specs.List.{AllByRecursion}
use Rattle.bt_base.specs.Octets.{IsOctets}
use Rattle.ertm_frames.specs.Frames.{PlainFrame, IsFrame}
use Rattle.ertm_frames.specs.Segments.{Segment}
use Rattle.ertm_frames.specs.Joining.{LongestSpells}
use Rattle.ertm_frames.specs.Reading.{frames_in}
use Rattle.ertm_frames.specs.Picking.{ArePicked, picked, sdus_in, AreNumbers, numbers, Passage, PollWaits, poll_waits}

abbrev pub PickedIsRight : Type 0
PickedIsRight = (n : ℕ) (frames : List PlainFrame) → ArePicked n frames (picked n frames)

abbrev pub PickedIsOne : Type 0
PickedIsOne = (n : ℕ) (frames : List PlainFrame) (segments : List Segment) → ArePicked n frames segments → segments ≡ picked n frames

-- numbers, where there are any, are these
abbrev pub NumbersAreOne : Type 0
NumbersAreOne = (bound : ℕ) (frames : List PlainFrame) (given : List ℕ) → AllByRecursion IsFrame frames → AreNumbers bound frames given → given ≡ numbers bound frames

abbrev pub PollWaitsIsRight : Type 0
PollWaitsIsRight = (passages : List Passage) → (poll_waits false passages ≡ true) ↔ PollWaits passages

-- the SDUs of PDUs are those of the longest front of the segments that are picked which spells SDUs
abbrev pub SdusAreSpelled : Type 0
SdusAreSpelled = (mps : ℕ) (pdus : List (List ℕ)) → AllByRecursion IsOctets pdus → LongestSpells (picked 0 (frames_in mps pdus)) (sdus_in mps pdus)
