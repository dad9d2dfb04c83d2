-- The outcome of a client with one thing more that happens to it (Object Push Profile 1.2, 4.3).
use Rattle.std.specs.Prelude.{◌≡◌, false, List, Option, None, if◌then◌else◌}
use Rattle.outcome_laws.specs.cause_laws.specs.bt_base.specs.declared.settings.Settings.{Settings}
use Rattle.outcome_laws.specs.cause_laws.specs.push_terms.specs.declared.outcome.Outcome.{Outcome}
use Rattle.outcome_laws.specs.cause_laws.specs.push_model.specs.Shown.{first_of}
use Rattle.outcome_laws.specs.unit_laws.specs.scenario_laws.specs.host_link.specs.declared.role.Role.TheVariants.{Client as Paging}
use Rattle.outcome_laws.specs.cause_laws.specs.world_model.specs.Machines.{Opening}
use Rattle.outcome_laws.specs.cause_laws.specs.host_model.specs.Circumstances.{Circumstance}
use Rattle.outcome_laws.specs.cause_laws.specs.host_model.specs.Clients.{ClientProfile, client_profile}
use Rattle.outcome_laws.specs.cause_laws.specs.host_model.specs.Hosts.{Host}
use Rattle.outcome_laws.specs.cause_laws.specs.host_model.specs.Machines.{upper}
use Rattle.outcome_laws.specs.cause_laws.specs.host_model.specs.Shelves.{size_for}
use Rattle.outcome_laws.specs.unit_laws.specs.Units.{Lined, Occasion, Learns, starting, Happens, Runs, Whatever}
use Rattle.outcome_laws.specs.BroughtAbout.{is_begin}
use Rattle.outcome_laws.specs.FirstCause.{begun_cause}
use Rattle.coming_laws.specs.Telling.{shown_with}
use Rattle.coming_laws.specs.Shelf.{shelf_shows}

-- a push that begins has none, or the fault of a shelf that does not tell the size of its object
abbrev pub shown_at_begin : Occasion Circumstance → Option Outcome
shown_at_begin (Learns gifts (Opening name)) = begun_cause (size_for gifts name) None
shown_at_begin one = None

-- anything else adds what it shows, and behind that what the shelf shows, where nothing did before
abbrev pub outcome_with : Settings → Occasion Circumstance → Lined (Host ClientProfile) → Option Outcome
outcome_with settings one now = if is_begin one then shown_at_begin one else first_of (first_of ((upper (client_profile settings)).outcome now.upper) (shown_with settings one now)) (shelf_shows settings one now)

-- Whatever came to a client, and whatever it does: with one thing more its outcome is this, where it did not lack memory.
abbrev pub OutcomesAddUp : Type 0
OutcomesAddUp = (settings : Settings) (occasions : List (Occasion Circumstance)) (old new : Lined (Host ClientProfile)) (one : Occasion Circumstance)
    → Runs (upper (client_profile settings)) Whatever occasions (starting (upper (client_profile settings)) Paging) old → Happens (upper (client_profile settings)) one old new → new.upper.profile.client.failed ≡ false
    → (upper (client_profile settings)).outcome new.upper ≡ outcome_with settings one old
