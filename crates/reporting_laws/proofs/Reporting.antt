-- What a client in code tells of its push is what a run of it over its units has.
use Rattle.std.proofs.Common.{◌≡◌, false, List, [], Option, Some, None, sym, ap, subst, ◌∙◌}
use Rattle.std.specs.Prelude.{IfSome}
use Rattle.lending_laws.specs.call_laws.specs.bt_host.specs.bt_base.specs.declared.settings.Settings.{Settings}
use Rattle.lending_laws.specs.call_laws.specs.bt_host.specs.push_terms.specs.declared.outcome.Outcome.{Outcome}
use Rattle.lending_laws.specs.call_laws.specs.bt_host.specs.host_link.specs.PuttingOut.{started}
use Rattle.lending_laws.specs.call_laws.specs.bt_host.specs.host_link.specs.declared.role.Role.TheVariants.{Client as Paging}
use Rattle.lending_laws.specs.call_laws.specs.bt_host.specs.host_model.specs.Clients.{ClientProfile, client_profile}
use Rattle.lending_laws.specs.call_laws.specs.bt_host.specs.host_model.specs.Hosts.{Host}
use Rattle.lending_laws.specs.call_laws.specs.bt_host.specs.host_model.specs.Machines.{upper}
use Rattle.lending_laws.specs.call_laws.specs.bt_host.specs.push_model.specs.Client.{Client, new_client}
use Rattle.outcome_laws.specs.cause_laws.specs.host_laws.specs.Pushing.{client_behind}
use Rattle.outcome_laws.specs.cause_laws.specs.Said.{Decision, decision_of}
use Rattle.outcome_laws.specs.BroughtAbout.{since_begun, HasCause}
use Rattle.outcome_laws.specs.FirstCause.{first_cause}
use Rattle.outcome_laws.specs.SaidWith.{WasSaid}
use Rattle.outcome_laws.specs.unit_laws.specs.Units.{Lined, starting, units}
use Rattle.outcome_laws.specs.unit_laws.proofs.Gaining.{clients_come}
use Rattle.outcome_laws.specs.unit_laws.proofs.Living.{hosts_live_by_units}
use Rattle.outcome_laws.proofs.Bringing.{outcomes_are_brought_about}
use Rattle.outcome_laws.proofs.Ending.{outcomes_are_said}
use Rattle.outcome_laws.proofs.FirstCause.{outcomes_are_first_causes}
use Rattle.outcome_laws.proofs.Saying.{anyway}
use Rattle.lending_laws.specs.Comings.{comings_along}
use Rattle.lending_laws.specs.Steps.{Step}
use Rattle.lending_laws.proofs.Coming.{One}
use Rattle.lending_laws.proofs.Freed.{closed}
use Rattle.lending_laws.proofs.Happening.{HappenFromStart, comings_are_along}
use Rattle.lending_laws.proofs.Roomy.{well_fed}
use Rattle.reporting_laws.specs.Reporting.{outcome_told, happened_to, WasFed, ClientsReport}
use Rattle.reporting_laws.proofs.Comings.{caused_along}
use Rattle.reporting_laws.proofs.Exactly.{heard_first, first_heard}
use Rattle.reporting_laws.proofs.Finding.{was_fed}

said_along : (settings : Settings) (steps : List Step) (list : List One) (cause : Option Outcome) → HappenFromStart (started Paging).out steps list → IfSome cause (λ outcome. IfSome (decision_of outcome) (λ decision. WasSaid settings decision list))
    → IfSome cause (λ outcome. IfSome (decision_of outcome) (λ decision. WasFed settings decision steps))
said_along settings steps list None happen said = tt
said_along settings steps list (Some outcome) happen said = by (decision_of outcome) said
  where
    by : (found : Option Decision) → IfSome found (λ decision. WasSaid settings decision list) → IfSome found (λ decision. WasFed settings decision steps)
    by None was = tt
    by (Some decision) was = was_fed settings decision steps list happen was

pub clients_report : {P : Type 0} → ClientsReport P
clients_report asks content faults shortages settings shelf shelf' steps now has told =
    let end = (closed content faults shortages settings shelf shelf' steps now has told).reached [] in
    let there : Lined (Host ClientProfile) = record { line = now.stack.line; upper = end.there } in
    let same : end.there.profile.client ≡ now.stack.upper.end.end.client = end.alike.2 in
    let cause : end.there.profile.client.cause ≡ outcome_told now = ap (λ (client : Client). client.cause) same in
    let able : now.stack.upper.end.end.client.failed ≡ false = well_fed settings _ end.alike.3 in
    let well : end.there.profile.client.failed ≡ false = ap (λ (client : Client). client.failed) same ∙ able in
    record {
      brought = subst (λ (c : Option Outcome). IfSome c (λ outcome. HasCause outcome (since_begun (comings_along steps)))) cause
          (caused_along end.there.profile.client.cause end.occasions (comings_along steps) (comings_are_along (started Paging).out steps end.occasions end.happen)
          (outcomes_are_brought_about settings end.occasions there (anyway settings end.occasions (starting (upper (client_profile settings)) Paging) there end.runs) well));
      moved = record {
        moves = units end.occasions;
        move = end.moves;
        so = λ have.
            let lives = hosts_live_by_units.clients asks settings end.occasions there end.runs have in
            let affairs = happened_to asks settings (units end.occasions) end.there lives in
            let first : outcome_told now ≡ first_cause affairs (new_client settings) None = sym cause ∙ outcomes_are_first_causes asks settings end.occasions there end.runs have lives in
            let behind : (client_behind affairs (new_client settings)).failed ≡ false = ap (λ (client : Client). client.failed) (sym (clients_come asks settings end.occasions there end.runs have lives)) ∙ well in (
              record {
                host = end.there;
                client_is = same;
                lives = lives;
                first = first;
                exactly = λ outcome decision said. (
                  λ is. heard_first settings outcome decision said affairs behind (sym first ∙ is),
                  λ heard. first ∙ first_heard settings outcome decision said affairs heard,
                );
              },
              subst (λ (c : Option Outcome). IfSome c (λ outcome. IfSome (decision_of outcome) (λ decision. WasFed settings decision steps))) cause
                  (said_along settings steps end.occasions end.there.profile.client.cause end.happen (outcomes_are_said settings end.occasions there end.runs have well)),
            );
      };
    }
