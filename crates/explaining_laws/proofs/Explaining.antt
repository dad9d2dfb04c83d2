-- What a client in code answers comes about exactly as it does with the run that its calls are.
use Rattle.std.proofs.Common.{◌≡◌, false, ℕ, List, [], ◌∷◌, sym, ap, ◌∙◌}
use Rattle.reporting_laws.specs.lending_laws.specs.call_laws.specs.bt_host.specs.host_link.specs.PuttingOut.{started}
use Rattle.reporting_laws.specs.lending_laws.specs.call_laws.specs.bt_host.specs.host_link.specs.declared.role.Role.TheVariants.{Client as Paging}
use Rattle.reporting_laws.specs.lending_laws.specs.call_laws.specs.bt_host.specs.host_model.specs.Clients.{ClientProfile}
use Rattle.reporting_laws.specs.lending_laws.specs.call_laws.specs.bt_host.specs.host_model.specs.Hosts.{Host}
use Rattle.reporting_laws.specs.lending_laws.specs.call_laws.specs.bt_host.specs.push_model.specs.Client.{Client}
use Rattle.reporting_laws.specs.outcome_laws.specs.unit_laws.specs.Units.{Lined}
use Rattle.reporting_laws.specs.lending_laws.specs.Steps.{Step}
use Rattle.reporting_laws.specs.lending_laws.proofs.Coming.{One}
use Rattle.reporting_laws.specs.lending_laws.proofs.Freed.{closed}
use Rattle.reporting_laws.specs.lending_laws.proofs.Happening.{HappenInSteps, HappenFromStart}
use Rattle.reporting_laws.specs.lending_laws.proofs.Roomy.{well_fed}
use Rattle.reporting_laws.specs.Reporting.{outcome_told}
use Rattle.coming_laws.proofs.Coming.{outcomes_come_about}
use Rattle.explaining_laws.specs.Explaining.{FallToCalls, FallFromStart, ClientsExplain}

falls : (steps : List Step) (list : List One) → HappenInSteps steps list → FallToCalls steps list
falls [] list none = none
falls (step ∷ steps) list (first, rest, one, more, all) = (first, rest, record { comings_are = one.comings_are; move = one.move }, falls steps rest more, all)

from_start : (said : List ℕ) (steps : List Step) (list : List One) → HappenFromStart said steps list → FallFromStart said steps list
from_start said steps list (first, rest, begins, more, all) = (first, rest, record { none_come = begins.none_come; move = begins.move }, falls steps rest more, all)

pub clients_explain : {P : Type 0} → ClientsExplain P
clients_explain content faults shortages settings shelf shelf' steps now has told =
    let end = (closed content faults shortages settings shelf shelf' steps now has told).reached [] in
    let there : Lined (Host ClientProfile) = record { line = now.stack.line; upper = end.there } in
    let same : end.there.profile.client ≡ now.stack.upper.end.end.client = end.alike.2 in
    let cause : end.there.profile.client.cause ≡ outcome_told now = ap (λ (client : Client). client.cause) same in
    let able : now.stack.upper.end.end.client.failed ≡ false = well_fed settings _ end.alike.3 in
    let well : end.there.profile.client.failed ≡ false = ap (λ (client : Client). client.failed) same ∙ able in
    record {
      occasions = end.occasions;
      fall = from_start (started Paging).out steps end.occasions end.happen;
      there = there;
      did = end.runs;
      client_is = same;
      exactly = λ have outcome.
          let about = outcomes_come_about settings end.occasions there end.runs have well outcome in (
            λ is. about.0 (cause ∙ is),
            λ came. sym cause ∙ about.1 came,
          );
    }
