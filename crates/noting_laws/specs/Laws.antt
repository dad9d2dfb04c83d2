-- That notes change nothing else of a host (this project's own).
use Rattle.std.specs.Prelude.{ℕ}
use Rattle.bt_host.specs.bt_base.specs.declared.settings.Settings.{Settings}
use Rattle.bt_host.specs.run_laws.specs.Embedding.{Embeds}
use Rattle.bt_host.specs.host_model.specs.Profiles.{Profile}
use Rattle.bt_host.specs.host_model.specs.Settings.{with_settings}
use Rattle.bt_host.specs.Noting.{noting}
use Rattle.noting_laws.specs.Noting.{plain_set}

-- A host of a profile that notes is the host of that profile, whatever it counts as credits.
abbrev pub NotesAreMore : Type 0 → Type 0
NotesAreMore S = (credits_in : S → ℕ) (profile : Settings → Profile S) → Embeds plain_set (with_settings (λ settings. noting credits_in (profile settings))) (with_settings profile)
