-- A client that is told of a loss ends its link.
use Rattle.std.proofs.Common.{◌≡◌, ℕ, true, false, cond, eqb, List, Option, Some, None, refl, ap, ◌∙◌}
use Rattle.std.specs.Prelude.{is_some}
use Rattle.std.proofs.lemmas.Bool.{eq-eqb}
use Rattle.shelf_model.specs.bt_base.specs.declared.settings.Settings.{Settings}
use Rattle.shelf_model.specs.push_terms.specs.declared.outcome.Outcome.{Outcome}
use Rattle.shelf_model.specs.push_terms.specs.declared.outcome.Outcome.TheVariants as outcomes
use Rattle.push_laws.specs.push_model.specs.declared.closing.CloseCause.TheVariants.{RetryLimit, Own}
use Rattle.push_laws.specs.push_model.specs.declared.course.Point.TheVariants.{Due, Asked}
use Rattle.push_laws.specs.push_model.specs.declared.course.Stage.{Stage}
use Rattle.push_laws.specs.push_model.specs.declared.course.Stage.TheVariants.{Rest, Link, SearchChannel, Search, SearchEnd, Features, ObjectChannel, Object, ObjectEnd, LinkEnd, Over}
use Rattle.push_laws.specs.push_model.specs.Client.{Client, at_once, ends_by, ends}
use Rattle.push_laws.specs.push_model.specs.Events.{is_asking_features, search_left, closed_at}
use Rattle.shelf_model.specs.host_model.specs.Clients.{ClientProfile, client_profile, is_at_end}
use Rattle.host_laws.specs.Leaving.{in_use, is_closing, LeavesAtLosses}

-- the link alone is left
ended : (cause : Option Outcome) (client : Client) → at_once client.stage ≡ LinkEnd Due → (ends_by cause outcomes.RetryLimit client).stage ≡ LinkEnd Due
ended None client is = is
ended (Some earlier) client is = is

ends_now : (client : Client) (stage : Stage) → client.stage ≡ stage → at_once stage ≡ LinkEnd Due → (ends outcomes.RetryLimit client).stage ≡ LinkEnd Due
ends_now client stage at is = ended client.cause client (ap at_once at ∙ is)

-- it is the channel's PSM
psm_same : (psm other : ℕ) (one two : Client) → Some other ≡ Some psm → one.stage ≡ LinkEnd Due → (cond (eqb psm other) one two).stage ≡ LinkEnd Due
psm_same psm other one two is stage =
    let same : psm ≡ other = cc in
    ap (λ b. (cond b one two).stage) (eq-eqb psm other same) ∙ stage

closed_retried : (stage : Stage) (client : Client) (psm : ℕ) → client.stage ≡ stage → in_use stage client.psm ≡ Some psm → (closed_at stage psm RetryLimit client).stage ≡ LinkEnd Due
closed_retried Rest client psm at is = cc
closed_retried (Link point) client psm at is = cc
closed_retried (SearchChannel Due) client psm at is = cc
closed_retried (SearchChannel Asked) client psm at is = psm_same psm 0x0001 (ends outcomes.RetryLimit client) client is (ends_now client (SearchChannel Asked) at refl)
closed_retried Search client psm at is = psm_same psm 0x0001 (ends outcomes.RetryLimit client) client is (ends_now client Search at refl)
closed_retried (SearchEnd point) client psm at is = psm_same psm 0x0001 (ends outcomes.RetryLimit client) client is (ends_now client (SearchEnd point) at refl)
closed_retried (Features point) client psm at is = cc
closed_retried (ObjectChannel Due) client psm at is = cc
closed_retried (ObjectChannel Asked) client psm at is = psm_same psm client.psm (ends outcomes.RetryLimit client) client is (ends_now client (ObjectChannel Asked) at refl)
closed_retried Object client psm at is = psm_same psm client.psm (ends outcomes.RetryLimit client) client is (ends_now client Object at refl)
closed_retried (ObjectEnd point) client psm at is = psm_same psm client.psm (record client { stage = LinkEnd Due }) client is refl
closed_retried (LinkEnd point) client psm at is = cc
closed_retried Over client psm at is = cc

features_lost : (stage : Stage) (client : Client) → client.stage ≡ stage → is_asking_features stage ≡ true → (cond (is_asking_features stage) (ends outcomes.RetryLimit client) client).stage ≡ LinkEnd Due
features_lost Rest client at is = cc
features_lost (Link point) client at is = cc
features_lost (SearchChannel point) client at is = cc
features_lost Search client at is = cc
features_lost (SearchEnd point) client at is = cc
features_lost (Features Due) client at is = cc
features_lost (Features Asked) client at is = ends_now client (Features Asked) at refl
features_lost (ObjectChannel point) client at is = cc
features_lost Object client at is = cc
features_lost (ObjectEnd point) client at is = cc
features_lost (LinkEnd point) client at is = cc
features_lost Over client at is = cc

left_over : (cause : Option Outcome) (client : Client) → is_some cause ≡ true → (search_left cause client).stage ≡ LinkEnd Due
left_over None client is = cc
left_over (Some outcome) client is = refl

closed_back : (stage : Stage) (client : Client) (psm : ℕ) → is_closing stage ≡ true → in_use stage client.psm ≡ Some psm → is_some client.cause ≡ true → (closed_at stage psm Own client).stage ≡ LinkEnd Due
closed_back Rest client psm closing is cause = cc
closed_back (Link point) client psm closing is cause = cc
closed_back (SearchChannel point) client psm closing is cause = cc
closed_back Search client psm closing is cause = cc
closed_back (SearchEnd point) client psm closing is cause = psm_same psm 0x0001 (search_left client.cause client) client is (left_over client.cause client cause)
closed_back (Features point) client psm closing is cause = cc
closed_back (ObjectChannel point) client psm closing is cause = cc
closed_back Object client psm closing is cause = cc
closed_back (ObjectEnd point) client psm closing is cause = psm_same psm client.psm (record client { stage = LinkEnd Due }) client is refl
closed_back (LinkEnd point) client psm closing is cause = cc
closed_back Over client psm closing is cause = cc

leaving : (settings : Settings) (pushing : ClientProfile) → pushing.client.stage ≡ LinkEnd Due → (client_profile settings).leaves_link pushing ≡ true
leaving settings pushing at = ap is_at_end at

pub clients_leave_at_losses : LeavesAtLosses
clients_leave_at_losses = record {
  closed = λ client psm is. closed_retried client.stage client psm refl is;
  featureless = λ client is. features_lost client.stage client refl is;
  taken_back = λ client psm closing is cause. closed_back client.stage client psm closing is cause;
  leaves = leaving;
}
