-- What is so of a scenario that ran to its end, in one place.
use Rattle.std.proofs.Common.{◌≡◌, List, ◌++◌, Option, sym, ap, ◌∙◌}
use Rattle.radio_world.specs.bt_base.specs.declared.settings.Transport.TheVariants.{L2cap}
use Rattle.radio_world.specs.bt_base.specs.Objects.{Object}
use Rattle.radio_world.specs.push_script.specs.declared.scenario.Scenario.{Scenario}
use Rattle.radio_world.specs.push_terms.specs.declared.outcome.Outcome.{Outcome}
use Rattle.radio_world.specs.push_terms.specs.declared.word.Side.TheVariants.{A, B}
use Rattle.radio_world.specs.capture.specs.Entries.{Entry}
use Rattle.host_laws.specs.world_model.specs.Worlds.{all_entries}
use Rattle.host_laws.specs.push_laws.specs.Laws.{stored_in}
use Rattle.radio_world.specs.Standing.{last_ended, last_entries, all_outcomes}
use Rattle.host_laws.proofs.Asking.{hosts_ask}
use Rattle.scenario_laws.specs.Captures.{Finished}
use Rattle.scenario_laws.specs.Clauses.{Ends, ScenariosEnd}
use Rattle.scenario_laws.specs.Gains.{holding}
use Rattle.scenario_laws.specs.Orderly.{ServesSo}
use Rattle.scenario_laws.specs.Outcomes.{outcomes_of}
use Rattle.scenario_laws.proofs.Accounts.{buffers_kept, controllers_honest, pushes_in_turn}
use Rattle.scenario_laws.proofs.Airs.{air_obeyed}
use Rattle.scenario_laws.proofs.Framing.{windows_kept}
use Rattle.scenario_laws.proofs.Gaining.{gains_exactly}
use Rattle.scenario_laws.proofs.Orderly.{serves-in_order}
use Rattle.scenario_laws.proofs.Outcomes.{outcomes_stated}

ends_so : (scenario : Scenario) (before : List Object) (capture : List Entry) (finished : Finished scenario (holding before) capture) (came : Option Outcome) → finished.ran.ends ≡ last_entries came finished.ran.world.pushes
    → scenario.settings.transport ≡ L2cap → ServesSo hosts_ask scenario.settings before capture finished.ran.world.b.upper → Ends scenario before (stored_in finished.ran.world.b.upper.profile.inbox.content) (all_outcomes (last_ended came finished.ran.world.pushes)) capture
ends_so scenario before capture finished came ends transport serves =
    let ran = finished.ran in
    let content = holding before in
    let stated = outcomes_stated scenario content capture ran in
    record {
      gained = gains_exactly hosts_ask scenario before capture ran transport (serves-in_order scenario before capture ran transport serves);
      within_a = buffers_kept scenario content capture A ran;
      within_b = buffers_kept scenario content capture B ran;
      window_a = windows_kept scenario content capture A ran finished.rests;
      window_b = windows_kept scenario content capture B ran finished.rests;
      honest = controllers_honest scenario content capture ran;
      in_turn = pushes_in_turn scenario content capture ran;
      outcomes_are = stated.all came ∙ ap (outcomes_of scenario) (ap (λ (es : List Entry). all_entries ran.happenings ++ es) (sym ends) ∙ sym ran.capture_is);
      obeys = air_obeyed scenario content capture finished;
    }

pub scenarios_end : ScenariosEnd
scenarios_end = record { asks = hosts_ask; ends = ends_so }
