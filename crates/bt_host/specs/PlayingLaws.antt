-- What a host is to a world that plays it (this project's own).
use Rattle.std.specs.Prelude.{◌≡◌, ◌||◌, Bool, true, false, List, [], refl}
use Rattle.bt_base.specs.declared.settings.Settings.{Settings}
use Rattle.push_terms.specs.declared.word.Side.{Side}
use Rattle.shelf_model.specs.world_model.specs.Stations.{IsStopped}
use Rattle.shelf_model.specs.host_model.specs.Circumstances.{Circumstance}
use Rattle.shelf_model.specs.host_model.specs.Profiles.{Profile}
use Rattle.shelf_model.specs.host_model.specs.Settings.{with_settings}
use Rattle.radio_world.specs.Hosts.{answering}
use Rattle.radio_world.specs.Hosts as world
use Rattle.bt_host.specs.Calls.{JoinAnswers}
use Rattle.bt_host.specs.Stacks.{Stacked, standing}
use Rattle.bt_host.specs.Playing.{playing, IsPlayed}
use Rattle.bt_host.specs.Stopping.{has_stopped}

pub joined : {G P : Type 0} (Answers : P → List G → P → Type 0) → JoinAnswers Answers → world.JoinAnswers Answers
joined Answers join = record { none = join.none; then = join.then }

-- where all that it put out was taken, it can do nothing more by itself
pub stops : {E S P : Type 0} (profile : Settings → Profile S) (side : Side) (pushing : E → P → List Circumstance → S) (stack : Stacked E) (port : P) → IsPlayed profile side pushing stack port → (playing pushing port stack).out ≡ []
    → (rest : List Circumstance) → IsStopped (with_settings profile) side (answering rest (playing pushing port stack))
stops profile side pushing stack port is none rest = has_stopped profile side stack.upper.machine.settings (standing pushing port stack rest) (is.is_seen rest) (is.rests rest) none

pub or_nothing : (test : Bool) → test ≡ (test || false)
or_nothing true = refl
or_nothing false = refl
