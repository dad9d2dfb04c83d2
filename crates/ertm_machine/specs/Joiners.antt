-- What a joiner holds, and what it makes of a segment.
use Rattle.std.specs.Prelude.{ℕ, ◌≡◌, ◌≤◌, List, length, Option, Some, None, Result, Ok, Err, vec_capacity}
use Rattle.std.specs.Option.{option_map}
use Rattle.ertm_frames.specs.Segments as frames
use Rattle.ertm_frames.specs.Joining.{Begun, Joint, joint}
use Rattle.ertm_model.specs.declared.reason.ErtmReason.{ErtmReason}
use Rattle.ertm_model.specs.Hearing.{joint_fault, begun_after, sdu_by}
use Rattle.ertm_machine.specs.declared.joiner.Segment.{Segment}
use Rattle.ertm_machine.specs.declared.joiner.Taken.{Taken}
use Rattle.ertm_machine.specs.declared.joiner.Taken.TheVariants.{Nothing, Lent, Joined}
use Rattle.ertm_machine.specs.declared.joiner.Joiner.TheInside.{Inside}
use Rattle.ertm_machine.specs.Values.{JoinerValue}

-- a segment without where its octets lie
abbrev pub plain_segment : Segment → frames.Segment
plain_segment segment = record { sar = segment.sar; total = segment.total; octets = segment.octets.now }

abbrev pub joiner_value : Inside → JoinerValue
joiner_value j = record {
  room = j.room;
  begun = option_map (λ (total : ℕ). record { total = total; octets = j.octets.items }) j.begun;
  octets = j.octets.items;
}

-- the octets of an SDU that has begun are not more than it has, and it is not longer than there is room
abbrev pub IsBegun : Option ℕ → (room count : ℕ) → Type 0
IsBegun None room count = Unit {0}
IsBegun (Some total) room count = (count ≤ total) × (total ≤ room)

pub record IsJoiner (j : Inside) : Type 0 where
  pub room : j.room ≤ vec_capacity j.octets
  pub begun : IsBegun j.begun j.room (length j.octets.items)

-- the SDU that is handed up
abbrev pub HandsUp : Option (List ℕ) → (lent held : List ℕ) → Taken → Type 0
HandsUp sdu lent held Nothing = sdu ≡ None
HandsUp sdu lent held Lent = sdu ≡ Some lent
HandsUp sdu lent held Joined = sdu ≡ Some held

-- a segment with a place is joined to what has begun; with none, or of an SDU that is too long, it changes nothing
abbrev pub TakesJoint : Joint → JoinerValue → (mtu : ℕ) → frames.Segment → Result Taken ErtmReason → JoinerValue → Type 0
TakesJoint place old mtu segment (Ok taken) new =
    (joint_fault place mtu segment ≡ None) × (new.room ≡ old.room) × (new.begun ≡ begun_after place) × HandsUp (sdu_by place) segment.octets new.octets taken
TakesJoint place old mtu segment (Err reason) new = (joint_fault place mtu segment ≡ Some reason) × (new ≡ old)

abbrev pub Takes : JoinerValue → (mtu : ℕ) → frames.Segment → Result Taken ErtmReason → JoinerValue → Type 0
Takes old mtu segment result new = TakesJoint (joint old.begun segment) old mtu segment result new
