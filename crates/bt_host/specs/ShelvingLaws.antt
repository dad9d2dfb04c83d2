-- A client hears what does not hang on its shelf as it is, whatever that holds (this project's own).
use Rattle.std.specs.Prelude.{◌≡◌, List, [], map}
use Rattle.std.proofs.Common.{◌∙◌, sym, ap}
use Rattle.bt_base.specs.declared.settings.Settings.{Settings}
use Rattle.shelf_model.specs.world_model.specs.Machines.{News}
use Rattle.shelf_model.specs.host_model.specs.Circumstances.{Circumstance}
use Rattle.shelf_model.specs.host_model.specs.Clients.{ClientProfile}
use Rattle.shelf_model.specs.Held.{held_by}
use Rattle.bt_host.specs.PushingLaws.{told_alone}
use Rattle.bt_host.specs.Shelving.{Shelved, left_behind, in_memory, shelf_profile}
use Rattle.bt_host.specs.Uppers.{IsAside}

pub shelf_told_alone : (settings : Settings) (all : List Circumstance) (news : News) (shelved : Shelved) → IsAside news → (shelf_profile settings).told all news shelved ≡ (shelf_profile settings).told [] news shelved
shelf_told_alone settings all news shelved aside =
    ap (λ (p : ClientProfile). let one : Shelved = record { pushing = p; shelf = shelved.shelf; faults = left_behind news p.client.cause shelved.faults } in one)
    (told_alone settings (held_by shelved.shelf news (map in_memory all)) news shelved.pushing aside ∙ sym (told_alone settings (held_by shelved.shelf news []) news shelved.pushing aside))
