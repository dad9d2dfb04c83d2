-- What a client in code answers of its push comes about exactly with one of the calls of its maker, by the table of what shows which outcome (Object Push
-- Profile 1.2, 4.3; IrOBEX 1.5, 3.2 and 3.4).
use Rattle.std.specs.Prelude.{ℕ, ◌≡◌, ◌↔◌, List, [], ◌∷◌, ◌++◌, Option, Some}
use Rattle.reporting_laws.specs.lending_laws.specs.call_laws.specs.bt_host.specs.bt_base.specs.Objects.{Object}
use Rattle.reporting_laws.specs.lending_laws.specs.call_laws.specs.bt_host.specs.bt_base.specs.declared.settings.Settings.{Settings}
use Rattle.reporting_laws.specs.lending_laws.specs.call_laws.specs.bt_host.specs.push_terms.specs.declared.outcome.Outcome.{Outcome}
use Rattle.reporting_laws.specs.lending_laws.specs.call_laws.specs.bt_host.specs.push_terms.specs.declared.word.Side.TheVariants.{A}
use Rattle.reporting_laws.specs.lending_laws.specs.call_laws.specs.bt_host.specs.host_link.specs.PuttingOut.{started}
use Rattle.reporting_laws.specs.lending_laws.specs.call_laws.specs.bt_host.specs.host_link.specs.declared.role.Role.TheVariants.{Client as Paging}
use Rattle.reporting_laws.specs.lending_laws.specs.call_laws.specs.bt_host.specs.host_model.specs.Circumstances.{Circumstance}
use Rattle.reporting_laws.specs.lending_laws.specs.call_laws.specs.bt_host.specs.host_model.specs.Clients.{ClientProfile, client_profile}
use Rattle.reporting_laws.specs.lending_laws.specs.call_laws.specs.bt_host.specs.host_model.specs.Hosts.{Host}
use Rattle.reporting_laws.specs.lending_laws.specs.call_laws.specs.bt_host.specs.Noting.{Noted}
use Rattle.reporting_laws.specs.lending_laws.specs.call_laws.specs.bt_host.specs.NotedHosts.{noted_client, client_noting}
use Rattle.reporting_laws.specs.lending_laws.specs.call_laws.specs.bt_host.specs.Playing.{fresh_client}
use Rattle.reporting_laws.specs.lending_laws.specs.call_laws.specs.bt_host.specs.Pushing.{Lacks}
use Rattle.reporting_laws.specs.lending_laws.specs.call_laws.specs.bt_host.specs.PushingLaws.{Answers}
use Rattle.reporting_laws.specs.lending_laws.specs.call_laws.specs.bt_host.specs.Shells.{Shelled}
use Rattle.reporting_laws.specs.lending_laws.specs.receive_laws.specs.Moving.{opening, MovesWith}
use Rattle.reporting_laws.specs.lending_laws.specs.Comings.{comings_in, comings_with}
use Rattle.reporting_laws.specs.lending_laws.specs.Freely.{AreTold}
use Rattle.reporting_laws.specs.lending_laws.specs.Steps.{Step, HasSteps}
use Rattle.reporting_laws.specs.outcome_laws.specs.unit_laws.specs.Living.{Did, HaveCommands}
use Rattle.reporting_laws.specs.outcome_laws.specs.unit_laws.specs.Units.{Lined, Occasion, units, lone_capture}
use Rattle.reporting_laws.specs.Reporting.{outcome_told}
use Rattle.coming_laws.specs.ComingAbout.{CameAbout}

-- ---- what happens with each call

-- what comes with it comes, and what moves with it moves
pub record IsPartOf (step : Step) (list : List (Occasion Circumstance)) : Type 0 where
  pub comings_are : comings_in list ≡ comings_with step.call step.turn.packet
  pub move : MovesWith step.turn (units list)

abbrev pub FallToCalls : List Step → List (Occasion Circumstance) → Type 0
FallToCalls [] list = list ≡ []
FallToCalls (step ∷ steps) list = (first rest : List (Occasion Circumstance)) × IsPartOf step first × FallToCalls steps rest × (list ≡ first ++ rest)

-- nothing comes before the first call, and what was put out by then moved
pub record OpensWith (said : List ℕ) (list : List (Occasion Circumstance)) : Type 0 where
  pub none_come : comings_in list ≡ []
  pub move : MovesWith (opening said) (units list)

abbrev pub FallFromStart : (said : List ℕ) → List Step → List (Occasion Circumstance) → Type 0
FallFromStart said steps list = (first rest : List (Occasion Circumstance)) × OpensWith said first × FallToCalls steps rest × (list ≡ first ++ rest)

-- ---- exactly

-- All that happened to it, call by call; and where each PDU on the signalling channel has one command, it answers an outcome exactly where that came about with one of
-- these things.
pub record ClientExplains (settings : Settings) (steps : List Step) (now : Shelled (Noted ClientProfile)) : Type 0 where
  pub occasions : List (Occasion Circumstance)
  pub fall : FallFromStart (started Paging).out steps occasions
  pub there : Lined (Host ClientProfile)
  pub did : Did (client_profile settings) Paging occasions there
  pub client_is : there.upper.profile.client ≡ now.stack.upper.end.end.client
  pub exactly : HaveCommands A (lone_capture A (units occasions)) → (outcome : Outcome) → (outcome_told now ≡ Some outcome) ↔ CameAbout settings outcome occasions there

-- So does a client, whatever a maker called of it, where it was told all freely.
abbrev pub ClientsExplain : Type 0 → Type 0
ClientsExplain P = (content : P → Option (List Object)) (faults shortages : P → ℕ) (settings : Settings) (shelf shelf' : P) (steps : List Step) (now : Shelled (Noted ClientProfile))
    → HasSteps noted_client (Answers content faults shortages) (Lacks shortages) (client_noting content) steps (fresh_client settings) now shelf shelf' → AreTold (started Paging).out steps → ClientExplains settings steps now
