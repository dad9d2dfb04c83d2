-- Where a push has an outcome, one deed showed it first.
use Rattle.std.proofs.Common.{◌≡◌, ◌++◌, List, [], ◌∷◌, Option, Some, None, refl, sym, ap, ◌∙◌}
use Rattle.push_terms.specs.declared.outcome.Outcome.{Outcome}
use Rattle.push_model.specs.Client.{Client}
use Rattle.push_model.specs.ShownFirst.{IsEndedBy, OutcomesEndExactly}
use Rattle.push_model.specs.Laws.{Deed, done, all_done}
use Rattle.push_model.specs.Shown.{first_of, shows, first_shown}
use Rattle.push_model.proofs.ShownLaws.{outcomes_are_shown}

nothing_ends : (cause : Option Outcome) (outcome : Outcome) → cause ≡ None → cause ≡ Some outcome → ⊥
nothing_ends cause outcome none some = let f : None ≡ Some outcome = sym none ∙ some in absurd cc

only_shown : (deeds : List Deed) (client : Client) (outcome : Outcome) → client.cause ≡ None → (all_done deeds client).cause ≡ Some outcome → IsEndedBy outcome deeds client
only_shown [] client outcome start e = absurd (nothing_ends client.cause outcome start e)
only_shown (deed ∷ deeds) client outcome start e = by (shows deed client) refl (λ still. only_shown deeds (done deed client) outcome still e)
  where
    behind : IsEndedBy outcome deeds (done deed client) → IsEndedBy outcome (deed ∷ deeds) client
    behind s = record { before = deed ∷ s.before; deed = s.deed; after = s.after; parts = ap (λ (ds : List Deed). deed ∷ ds) s.parts; first = s.first; shown = s.shown }

    by : (shown : Option Outcome) → shows deed client ≡ shown → ((done deed client).cause ≡ None → IsEndedBy outcome deeds (done deed client)) → IsEndedBy outcome (deed ∷ deeds) client
    by None is more = behind (more (outcomes_are_shown (deed ∷ []) client start ∙ ap (λ (o : Option Outcome). first_of o None) is))
    by (Some first) is more =
        let all : Some first ≡ Some outcome = sym (outcomes_are_shown (deed ∷ deeds) client start ∙ ap (λ (x : Option Outcome). first_of x (first_shown deeds (done deed client))) is) ∙ e in
        record { before = []; deed = deed; after = deeds; parts = refl; first = start; shown = is ∙ all }

pub done_behind : (before rest : List Deed) (client : Client) → all_done (before ++ rest) client ≡ all_done rest (all_done before client)
done_behind [] rest client = refl
done_behind (deed ∷ before) rest client = done_behind before rest (done deed client)

always_ends : (deeds : List Deed) (client : Client) (outcome : Outcome) → IsEndedBy outcome deeds client → (all_done deeds client).cause ≡ Some outcome
always_ends deeds client outcome s =
    let at : Client = all_done s.before client in
    ap (λ (ds : List Deed). (all_done ds client).cause) s.parts ∙ ap (λ (c : Client). c.cause) (done_behind s.before (s.deed ∷ s.after) client)
    ∙ outcomes_are_shown (s.deed ∷ s.after) at s.first ∙ ap (λ (o : Option Outcome). first_of o (first_shown s.after (done s.deed at))) s.shown

pub outcomes_end_exactly : OutcomesEndExactly
outcomes_end_exactly deeds client outcome start = (only_shown deeds client outcome start, always_ends deeds client outcome)
