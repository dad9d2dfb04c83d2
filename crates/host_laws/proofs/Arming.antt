-- What the timer of a host finds is what its own talk says.
use Rattle.std.proofs.Common.{◌≡◌, Bool, true, false, ◌||◌, refl, sym, ap, ◌∙◌}
use Rattle.channel_laws.specs.channel_model.specs.Calls.{armed}
use Rattle.channel_laws.specs.channel_model.specs.Policies.{policy}
use Rattle.channel_laws.specs.channel_model.specs.Value.{Channels}
use Rattle.channel_laws.specs.Armed.{services_wait}
use Rattle.channel_laws.specs.Runs.{Run, run_of}
use Rattle.channel_laws.proofs.Arming.{armed-is_what_waits}
use Rattle.channel_laws.proofs.Services.{channels-alone_wait}
use Rattle.shelf_model.specs.host_model.specs.Profiles.{Profile}
use Rattle.host_laws.specs.Armed.{ArmedIsRead, ServersAreArmed}

module _ {P : Type 0} (A : Profile P) where
  pub armed-is_read : ArmedIsRead A
  armed-is_read party asks marks host lives states uttered awaits =
      by (armed host.channels) refl ∙ (ap (λ (v : Channels). armed v || services_wait party run.said) lives.channels_run ∙ sym (armed-is_what_waits A.policy party lives.now states uttered))
    where
      run : Run
      run = run_of A.policy lives.now

      by : (some : Bool) → armed host.channels ≡ some → (armed host.channels || A.armed host.profile) ≡ (armed host.channels || services_wait party run.said)
      by true is = ap (λ b. b || A.armed host.profile) is ∙ sym (ap (λ b. b || services_wait party run.said) is)
      by false is = ap (λ b. armed host.channels || b) (awaits is)

or_false : (b : Bool) → (b || false) ≡ b
or_false true = refl
or_false false = refl

pub servers-are_armed : ServersAreArmed
servers-are_armed settings content party asks marks host lives states uttered none =
    or_false (armed host.channels) ∙ (ap armed lives.channels_run ∙ channels-alone_wait (policy settings true) party lives.now states uttered refl none)
