-- What a word does to two hosts that run (this project's own).
use Rattle.std.specs.Prelude.{ℕ, ◌||◌, Bool, true, false, List, Option, Some, None, if◌then◌else◌}
use Rattle.push_terms.specs.declared.word.Side.{Side}
use Rattle.push_terms.specs.declared.word.Side.TheVariants.{A, B}
use Rattle.push_terms.specs.declared.word.Way.TheVariants.{Ab, Ba}
use Rattle.radio_model.specs.declared.deed.Deed.{Deed}
use Rattle.radio_model.specs.declared.deed.Deed.TheVariants.{Nothing, Meets, Fires, FiresBoth, Breaks, Cancels}
use Rattle.radio_model.specs.Radio.{Radio, channel}
use Rattle.room_laws.specs.world_model.specs.Machines.{Upper, Cancelled}
use Rattle.room_laws.specs.world_model.specs.Stations.{Station, told}
use Rattle.room_laws.specs.world_model.specs.Pushes.{Pushes}
use Rattle.room_laws.specs.world_model.specs.Turns.{may_be_cancelled}
use Rattle.room_laws.specs.world_model.specs.Worlds.{fired}

-- whether what a word finds can be done
abbrev pub can_be_done : {S T G H : Type 0} → Upper S G → Upper T H → Deed → Pushes → S → T → Bool
can_be_done U V Nothing pushes s t = false
can_be_done U V (Meets way fate) pushes s t = true
can_be_done U V (Fires A) pushes s t = U.armed s
can_be_done U V (Fires B) pushes s t = V.armed t
can_be_done U V FiresBoth pushes s t = U.armed s || V.armed t
can_be_done U V Breaks pushes s t = true
can_be_done U V Cancels pushes s t = may_be_cancelled U pushes s

-- it fires the timer of that host, if it is armed
abbrev pub fires : Side → Deed → Bool
fires A (Fires A) = true
fires B (Fires B) = true
fires side FiresBoth = true
fires side deed = false

-- it cancels the push of that host: host a alone pushes
abbrev pub cancels : Side → Deed → Bool
cancels A Cancels = true
cancels side deed = false

-- what a host does of it, beside the air
abbrev pub doing : {S G : Type 0} → Upper S G → (fires cancels : Bool) → List G → Station S → Station S
doing U fires cancels answers station = if fires then fired U answers station else (if cancels then told U answers Cancelled station else station)

abbrev pub done_by : {S G : Type 0} → Upper S G → Side → Deed → List G → Station S → Station S
done_by U side deed answers station = doing U (fires side deed) (cancels side deed) answers station

-- whether the receiver of a frame has a check word for that channel
abbrev pub checks_on : {S G : Type 0} → Upper S G → S → Option ℕ → Bool
checks_on U s None = false
checks_on U s (Some number) = U.has_check s number

abbrev pub is_checked : {S T G H : Type 0} → Upper S G → Upper T H → Deed → Radio → S → T → Bool
is_checked U V (Meets Ab fate) radio s t = checks_on V t (channel Ab radio)
is_checked U V (Meets Ba fate) radio s t = checks_on U s (channel Ba radio)
is_checked U V deed radio s t = false
