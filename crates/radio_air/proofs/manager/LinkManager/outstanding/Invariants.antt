use Rattle.std.proofs.Common.{◌≡◌, ◌+◌, ◌-◌, ◌^◌, take, map}
use Rattle.std.specs.Prelude.{min}
use Rattle.radio_model.specs.Owed.{back}
use Rattle.radio_air.specs.Plain.{plain_answer}
use Rattle.radio_air.proofs.manager.LinkManager.outstanding.Given as goal

abbrev pub invariant-loop-i : goal.invariant-loop-i
invariant-loop-i l = l.count ≡ min (l.self-inside.taken + back l.self-inside.told (map plain_answer (take l.i l.self-inside.answers.items))) (2 ^ 64 - 1)
