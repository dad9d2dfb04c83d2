-- How much a host says at most with each thing that it hears (this project's own).
use Rattle.std.specs.Prelude.{ℕ, zero, suc, ◌≡◌, Bool, true, false, List, is_some, refl, if◌then◌else◌}
use Rattle.std.proofs.Common.{◌∙◌, arith}
use Rattle.bt_base.specs.declared.settings.Settings.{Settings}
use Rattle.channel_model.specs.Giving.{next_given}
use Rattle.shelf_model.specs.world_model.specs.Machines.{News, Linked, Up, Down, Failed, Heard, TimerFired, Cancelled, Opening}
use Rattle.shelf_model.specs.host_model.specs.Circumstances.{Circumstance}
use Rattle.shelf_model.specs.host_model.specs.Profiles.{Stride, Profile}
use Rattle.shelf_model.specs.host_model.specs.Hosts.{Host, most_said, most_steps, settles, strides, drives, hears_news, ready, hear}
use Rattle.shelf_model.specs.host_model.specs.Settings.{with_settings}
use Rattle.radio_world.specs.Speaking.{SpeaksWithin}
use Rattle.bt_host.specs.Playing.{playing}
use Rattle.bt_host.specs.Shells.{Shelled}

module _ {P : Type 0} (A : Profile P) where
  driven_may : (more : Host P → Host P) (stride : Stride P) (host : Host P) (has again : Bool) → (more (strides A stride (settles A host))).may_say ≡ host.may_say
      → (let now = settles A host in if has then now else (if again then more (strides A stride now) else strides A stride now)).may_say ≡ host.may_say
  driven_may more stride host true again goes = refl
  driven_may more stride host false true goes = goes
  driven_may more stride host false false goes = refl

  drives_may : (count : ℕ) (host : Host P) → (drives A count host).may_say ≡ host.may_say
  unfolding drives
  drives_may zero host = refl
  drives_may (suc count) host =
      let now = settles A host in
      let stride = A.steps now.channels now.profile in
      driven_may (λ next. drives A count next) stride host (is_some (next_given now.channels)) stride.more (drives_may count (strides A stride now))

  hears_may : (circumstances : List Circumstance) (news : News) (host : Host P) → (hears_news A circumstances news host).may_say ≡ host.may_say
  hears_may circumstances (Linked Up) host = refl
  hears_may circumstances (Linked (Down reason)) host = refl
  hears_may circumstances (Failed status) host = refl
  hears_may circumstances (Heard pdu) host = refl
  hears_may circumstances TimerFired host = refl
  hears_may circumstances Cancelled host = refl
  hears_may circumstances (Opening name) host = refl

  hear_may : (circumstances : List Circumstance) (news : News) (host : Host P) → (hear A circumstances news host).may_say ≡ most_said
  hear_may circumstances news host = let now = ready A circumstances host in drives_may most_steps (hears_news A circumstances news now) ∙ hears_may circumstances news now

-- so many PDUs a host may say with each thing that it hears, whatever its port answers
pub speaks : {E S P : Type 0} (profile : Settings → Profile S) (pushing : E → P → List Circumstance → S) → SpeaksWithin (with_settings profile) (λ (host : Shelled E) (port : P). playing pushing port host.stack) most_said
speaks profile pushing = record {
  few = λ answers news s. let all = hear_may (profile s.settings) answers news s.host in omega (arith, all);
  steady = λ host port rest. refl;
}
