-- The outcome of a client is the first cause of all that happened to it.
use Rattle.std.proofs.Common.{◌≡◌, Bool, true, false, List, [], ◌∷◌, Option, Some, None, Result, Ok, Err, refl, ap, ◌∙◌, if◌then◌else◌, ℕ}
use Rattle.std.specs.List.{flat_map}
use Rattle.cause_laws.specs.bt_base.specs.declared.ports.PortFault.{PortFault}
use Rattle.cause_laws.specs.bt_base.specs.declared.ports.PortFault.TheVariants as fault
use Rattle.cause_laws.specs.push_terms.specs.declared.outcome.Outcome.{Outcome}
use Rattle.cause_laws.specs.push_model.specs.Client.{Client, new_client, begun_by}
use Rattle.cause_laws.specs.push_model.specs.Laws.{Deed, done}
use Rattle.cause_laws.specs.push_model.specs.Shown.{first_of, shows}
use Rattle.cause_laws.specs.push_model.proofs.CauseLaws.{first_causes_stay}
use Rattle.cause_laws.specs.push_model.proofs.ShownLaws.{outcomes_are_shown}
use Rattle.cause_laws.specs.host_laws.specs.OverLinks.{talk_marks}
use Rattle.cause_laws.specs.host_laws.specs.Pushing.{Affair, Begins, Does, client_after, client_behind, pushed}
use Rattle.cause_laws.proofs.Clients.{none_later}
use Rattle.unit_laws.proofs.Gaining.{clients_come}
use Rattle.outcome_laws.specs.FirstCause.{begun_cause, caused_by, first_cause, OutcomesAreFirstCauses}

-- ---- one thing

begun_so : (size : Result ℕ PortFault) (name : List ℕ) (client : Client) → (begun_by size name client).cause ≡ begun_cause size client.cause
begun_so (Ok size) name client = refl
begun_so (Err fault.Failed) name client = refl
begun_so (Err fault.NoMemory) name client = refl

begins_so : (failed : Bool) (size : Result ℕ PortFault) (name : List ℕ) (client : Client) → (if failed then client else begun_by size name client).cause ≡ (if failed then client.cause else begun_cause size client.cause)
begins_so true size name client = refl
begins_so false size name client = begun_so size name client

deed_so : (deed : Deed) (client : Client) → (done deed client).cause ≡ first_of client.cause (shows deed client)
deed_so deed client = by client.cause refl
  where
    by : (cause : Option Outcome) → client.cause ≡ cause → (done deed client).cause ≡ first_of cause (shows deed client)
    by None is = outcomes_are_shown (deed ∷ []) client is ∙ none_later (shows deed client)
    by (Some outcome) is = first_causes_stay (deed ∷ []) client outcome is

after_so : (one : Affair) (client : Client) → (client_after one client).cause ≡ caused_by one client client.cause
after_so (Begins size name) client = begins_so client.failed size name client
after_so (Does deed) client = deed_so deed client

-- ---- all of it

pub causes-are_first : (affairs : List Affair) (client : Client) → (client_behind affairs client).cause ≡ first_cause affairs client client.cause
causes-are_first [] client = refl
causes-are_first (one ∷ rest) client = causes-are_first rest (client_after one client) ∙ ap (first_cause rest (client_after one client)) (after_so one client)

pub outcomes_are_first_causes : OutcomesAreFirstCauses
outcomes_are_first_causes asks settings occasions now did have lives =
    let affairs = pushed settings (asks.clients settings) (flat_map talk_marks lives.came.talk) now.upper lives.so.lives in
    ap (λ (client : Client). client.cause) (clients_come asks settings occasions now did have lives) ∙ causes-are_first affairs (new_client settings)
