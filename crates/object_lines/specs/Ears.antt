-- How far the SDUs of a channel are joined, apart from where their octets lie in memory.
use Rattle.std.specs.Prelude.{ℕ, ◌%◌, Bool, true, false, List, Option, option_map, option_to_list}
use Rattle.ertm_frames.specs.Segments.{Segment}
use Rattle.ertm_frames.specs.Joining.{Begun, Joint, Misplaced, Begins, Ends, Joining, At, Stopped}
use Rattle.link_readers.specs.talk_laws.specs.Sdus.{Ear}
use Rattle.object_lines.specs.declared.segments.Segment.{Segment as LentSegment}
use Rattle.object_lines.specs.declared.segments.Begun.{Begun as LentBegun}
use Rattle.object_lines.specs.declared.segments.Sdu.{Sdu as LentSdu}
use Rattle.object_lines.specs.declared.segments.Sdu.TheVariants as sdus
use Rattle.object_lines.specs.declared.segments.Joint.{Joint as LentJoint}
use Rattle.object_lines.specs.declared.segments.Joint.TheVariants as joints
use Rattle.object_lines.specs.declared.ears.Ear.{Ear as LentEar}

abbrev pub plain_segment : LentSegment → Segment
plain_segment segment = record { sar = segment.sar; total = segment.total; octets = segment.octets.now }

abbrev pub plain_begun : LentBegun → Begun
plain_begun begun = record { total = begun.total; octets = begun.octets.items }

abbrev pub plain_sdu : LentSdu → List ℕ
plain_sdu (sdus.Lent octets) = octets.now
plain_sdu (sdus.Joined octets) = octets.items

abbrev pub plain_sdus : Option LentSdu → List (List ℕ)
plain_sdus sdu = option_to_list (option_map plain_sdu sdu)

abbrev pub plain_joint : LentJoint → Joint
plain_joint joints.Misplaced = Misplaced
plain_joint (joints.Begins begun) = Begins (plain_begun begun)
plain_joint (joints.Ends sdu) = Ends (plain_sdu sdu)

abbrev pub joining_by : Bool → Option LentBegun → Joining
joining_by true begun = Stopped
joining_by false begun = At (option_map plain_begun begun)

abbrev pub plain_joining : LentEar → Joining
plain_joining ear = joining_by ear.stopped ear.begun

-- of its number what counts modulo 64
abbrev pub plain_ear : LentEar → Ear
plain_ear ear = record { next = ear.next % 64; joining = plain_joining ear }
