-- What is read as ended was told to have ended.
use Rattle.std.proofs.Common.{◌≡◌, ℕ, ◌<◌, ◌≤◌, Bool, true, false, Option, Some, None, refl, sym, ap, subst, ◌∙◌}
use Rattle.std.specs.Prelude.{nat_lt}
use Rattle.std.proofs.lemmas.Bool.{ltb-true, ltb-false}
use Rattle.talk_laws.specs.link_talk.specs.Channels.{Entry, is_there, Reading, reading}
use Rattle.channel_model.specs.Value.{Stage, Requested, Connected, Leaving, Closing, Crossed, Held}
use Rattle.channel_model.specs.Policies.{Policy}
use Rattle.channel_model.specs.Changing.{held_at}
use Rattle.channel_model.specs.Telling.{is_told_closed}
use Rattle.own_channel_laws.specs.Views.{peer_of, life_of, read_at}
use Rattle.own_channel_laws.specs.Runs.{Run, run_of, arisen}
use Rattle.own_channel_laws.specs.Endings.{HasEnded, EndsAreTold}
use Rattle.own_channel_laws.proofs.Sound.{ReadsBy, Reads, Sound}
use Rattle.own_channel_laws.proofs.Telling.{StageTold, HeldTold, IsEndTold, RunTold, one_told, nothing_told}
use Rattle.own_channel_laws.proofs.Running.{along}

-- what is read has an endpoint that was given
above_by : (policy : Policy) (r : Reading) (run : Run) (own : ℕ) → Sound policy r run.value → HasEnded (read_at own r.entries) → (b : Bool) → nat_lt own 0x0040 ≡ b → 0x0040 ≤ own
above_by policy r run own sound ended true less = absurd (subst HasEnded (sound.core.read_low own (ltb-true own 0x0040 less)) ended)
above_by policy r run own sound ended false less = ltb-false own 0x0040 less

below_by : (policy : Policy) (r : Reading) (run : Run) (own : ℕ) → Sound policy r run.value → HasEnded (read_at own r.entries) → (b : Bool) → nat_lt own run.value.next ≡ b → own < run.value.next
below_by policy r run own sound ended true less = ltb-true own run.value.next less
below_by policy r run own sound ended false less = absurd (subst HasEnded (sound.core.read_below own (ltb-false own run.value.next less)) ended)

stage_ended : (policy : Policy) (held : Held) (stage : Stage) (found : Option Entry) (closed : Bool) → held.stage ≡ stage → ReadsBy policy held (peer_of stage) found → StageTold stage closed → HasEnded found → closed ≡ true
stage_ended policy held stage None closed is reads told ended = absurd ended
stage_ended policy held (Requested request) (Some entry) closed is reads told ended = absurd reads
stage_ended policy held (Connected peer setup) (Some entry) closed is (there, agrees) told ended = let never : true ≡ false = sym (ap is_there (there.life_is ∙ ap life_of is)) ∙ ended in cc
stage_ended policy held (Leaving peer setup request) (Some entry) closed is (there, agrees) told ended = let never : true ≡ false = sym (ap is_there (there.life_is ∙ ap life_of is)) ∙ ended in cc
stage_ended policy held (Closing peer request checked) (Some entry) closed is reads told ended = told
stage_ended policy held (Crossed peer request) (Some entry) closed is reads told ended = told

held_ended : (policy : Policy) (held : Option Held) (found : Option Entry) (closed : Bool) → Reads policy held found → HeldTold held closed → IsEndTold held closed → HasEnded found → closed ≡ true
held_ended policy None found closed reads told gone ended = gone
held_ended policy (Some held) found closed reads told gone ended = stage_ended policy held held.stage found closed refl reads told ended

pub ends-are_told : EndsAreTold
ends-are_told policy list own ended =
    let run : Run = run_of policy list in
    let r : Reading = reading run.said in
    let (sound, told) = along policy RunTold nothing_told (λ before more s t. one_told policy before more s.core.lone t) list in
    held_ended policy (held_at own run.value) (read_at own r.entries) (is_told_closed own (arisen run)) (sound.core.reads own) (told.at own)
    (told.ended own (above_by policy r run own sound ended (nat_lt own 0x0040) refl) (below_by policy r run own sound ended (nat_lt own run.value.next) refl)) ended
