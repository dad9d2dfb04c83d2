-- A host that notes whether it refused was told news.
use Rattle.std.proofs.Common.{◌≡◌, List, Option, Result, sym, subst}
use Rattle.std.specs.Prelude.{OnOk}
use Rattle.h4_framing.specs.Framing.{Framing}
use Rattle.bt_base.specs.declared.settings.Settings.{Settings}
use Rattle.shelf_model.specs.world_model.specs.Machines.{News}
use Rattle.shelf_model.specs.host_model.specs.Circumstances.{Circumstance}
use Rattle.shelf_model.specs.host_model.specs.Profiles.{Profile}
use Rattle.bt_host.specs.declared.feed_refusal.FeedRefusal.{FeedRefusal}
use Rattle.bt_host.specs.Stacks.{Stacked, HearsNews}
use Rattle.bt_host.specs.Shells.{Shelled, settings_of, moment_of}

pub told_noted : {E S P X Y : Type 0} (profile : Settings → Profile S) (Answers : P → List Circumstance → P → Type 0) (pushing : E → P → List Circumstance → S) (news : News) (framing framing' : Framing) (stack stack' : Stacked E)
    (refusal refusal' : Option FeedRefusal) (now : Shelled E) (port port' : P) (noted done : Result X Y) → record { framing = framing; stack = stack; refusal = refusal } ≡ now → noted ≡ done
    → OnOk done (HearsNews (profile stack.upper.machine.settings) Answers pushing news (record { stack = stack; port = port }) (record { stack = stack'; port = port' }))
    → OnOk noted (HearsNews (profile (settings_of now)) Answers pushing news (moment_of now port) (moment_of (record { framing = framing'; stack = stack'; refusal = refusal' }) port'))
told_noted profile Answers pushing news framing framing' stack stack' refusal refusal' now port port' noted done view same hears =
    subst (λ (h : Shelled _). OnOk noted (HearsNews (profile (settings_of h)) Answers pushing news (moment_of h port) (record { stack = stack'; port = port' }))) view
    (subst (λ (r : Result _ _). OnOk r (HearsNews (profile stack.upper.machine.settings) Answers pushing news (record { stack = stack; port = port }) (record { stack = stack'; port = port' }))) (sym same) hears)
