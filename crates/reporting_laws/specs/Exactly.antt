-- Which of all that happened to a client says that its push is done or refused, or found no service: an SDU, which shows that as the first thing since the push began
-- (IrOBEX 1.5, 3.2 and 3.4; Core 5.1, Volume 3 Part B, 4.7.2).
use Rattle.std.specs.Prelude.{ℕ, ◌≡◌, true, List, ◌∷◌, ◌++◌, Some, None, is_none}
use Rattle.std.specs.List.{AllByRecursion}
use Rattle.outcome_laws.specs.cause_laws.specs.bt_base.specs.declared.settings.Settings.{Settings}
use Rattle.outcome_laws.specs.cause_laws.specs.push_terms.specs.declared.outcome.Outcome.{Outcome}
use Rattle.outcome_laws.specs.cause_laws.specs.push_terms.specs.declared.outcome.Outcome.TheVariants.{NoService}
use Rattle.outcome_laws.specs.cause_laws.specs.push_model.specs.declared.course.Stage.TheVariants.{Search}
use Rattle.outcome_laws.specs.cause_laws.specs.push_model.specs.Client.{Client, new_client}
use Rattle.outcome_laws.specs.cause_laws.specs.push_model.specs.Events.{Sdu}
use Rattle.outcome_laws.specs.cause_laws.specs.push_model.specs.Laws.{Hears}
use Rattle.outcome_laws.specs.cause_laws.specs.push_model.specs.Shown.{sdu_shows, way_of}
use Rattle.outcome_laws.specs.cause_laws.specs.sdp_client.specs.Hearing.{after_reply}
use Rattle.outcome_laws.specs.cause_laws.specs.sdp_elements.specs.declared.target.Target.{Target}
use Rattle.outcome_laws.specs.cause_laws.specs.sdp_elements.specs.Targets.{target_in}
use Rattle.outcome_laws.specs.cause_laws.specs.host_laws.specs.Pushing.{Affair, Begins, Does, client_behind}
use Rattle.outcome_laws.specs.FirstCause.{first_cause}

-- no push begins
abbrev pub BeginsNoPush : Affair → Type 0
BeginsNoPush (Begins size name) = ⊥
BeginsNoPush (Does deed) = Unit {0}

-- The client asks for services, and with this SDU the answer is whole: the target that it reads names no way over the transport.
pub record IsLacking (settings : Settings) (client : Client) (sdu : List ℕ) : Type 0 where
  pub searches : client.stage ≡ Search
  pub target : Target
  pub read : target_in (after_reply client.query sdu).joined ≡ Some target
  pub none : is_none (way_of settings.transport target) ≡ true

abbrev pub LacksWhere : Settings → Outcome → Client → List ℕ → Type 0
LacksWhere settings NoService client sdu = IsLacking settings client sdu
LacksWhere settings outcome client sdu = Unit {0}

-- A client hears an SDU that shows the outcome. Ahead of that its push had none, so nothing since the push began showed one; a cancel behind the final PUT shows none.
-- Behind it no push begins.
pub record IsHeardFirst (settings : Settings) (outcome : Outcome) (affairs : List Affair) : Type 0 where
  pub before : List Affair
  pub psm : ℕ
  pub sdu : List ℕ
  pub after : List Affair
  pub affairs_are : affairs ≡ before ++ Does (Hears (Sdu psm sdu)) ∷ after
  pub none_ahead : first_cause before (new_client settings) None ≡ None
  pub shown : (let client = client_behind before (new_client settings) in sdu_shows client.stage psm sdu client ≡ Some outcome)
  pub lacks : LacksWhere settings outcome (client_behind before (new_client settings)) sdu
  pub none_begun : AllByRecursion BeginsNoPush after
