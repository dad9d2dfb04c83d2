-- What a reader takes of one frame.
use Rattle.std.specs.Prelude.{ℕ, List, [], Option, Some, None, if◌then◌else◌}
use Rattle.ertm_frames.specs.Frames.{PlainFrame}
use Rattle.ertm_frames.specs.Segments.{Segment}
use Rattle.ertm_frames.specs.Picking.{has_number, segments_in}

-- its segment, where it has the number n
abbrev pub pick : ℕ → PlainFrame → List Segment
pick n frame = if has_number n frame then segments_in frame else []

abbrev pub pick_in : ℕ → Option PlainFrame → List Segment
pick_in n None = []
pick_in n (Some frame) = pick n frame
