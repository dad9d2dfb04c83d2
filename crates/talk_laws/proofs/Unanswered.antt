-- Which request of a kind waits, looking back and in one pass.
use Rattle.std.proofs.Common.{◌≡◌, ℕ, List, [], ◌∷◌, ◌++◌, fold, Bool, true, false, cond, ◌||◌, Option, Some, None, refl, sym, ap, ◌∙◌}
use Rattle.std.specs.Prelude.{is_some}
use Rattle.std.specs.Option.{option_or}
use Rattle.std.specs.List.{filter_map, list_any}
use Rattle.std.proofs.lemmas.List.Folds.{list_any-append}
use Rattle.std.proofs.lemmas.List.Sums.{fold-append}
use Rattle.link_talk.specs.capture.specs.Histories.{last_of}
use Rattle.talk_laws.specs.Lists.{behind_last}
use Rattle.talk_laws.specs.Unanswered.{unless_answered, last_unanswered}
use Rattle.talk_laws.proofs.Passes.{from_end, last_picked, behind_last-more}

-- one thing more: it asks, or it may answer what waits
abbrev pub waiting_behind : {X : Type 0} → (X → Option ℕ) → (ℕ → X → Bool) → Option ℕ → X → Option ℕ
waiting_behind asked answers waiting x = option_or (asked x) (unless_answered answers (x ∷ []) waiting)

unless_by : {X : Type 0} (answers : ℕ → X → Bool) (x : X) (identifier : ℕ) (any : Bool)
    → cond (any || list_any (answers identifier) (x ∷ [])) None (Some identifier) ≡ unless_answered answers (x ∷ []) (cond any None (Some identifier))
unless_by answers x identifier true = refl
unless_by answers x identifier false = refl

unless_more : {X : Type 0} (answers : ℕ → X → Bool) (since : List X) (x : X) (last : Option ℕ)
    → unless_answered answers (since ++ x ∷ []) last ≡ unless_answered answers (x ∷ []) (unless_answered answers since last)
unless_more answers since x None = refl
unless_more answers since x (Some identifier) =
    ap (λ b. cond b None (Some identifier)) (list_any-append (answers identifier) since (x ∷ [])) ∙ unless_by answers x identifier (list_any (answers identifier) since)

found_by : {X : Type 0} (answers : ℕ → X → Bool) (since : List X) (x : X) (last found : Option ℕ)
    → unless_answered answers (cond (is_some found) [] (since ++ x ∷ [])) (option_or found last) ≡ option_or found (unless_answered answers (x ∷ []) (unless_answered answers since last))
found_by answers since x last None = unless_more answers since x last
found_by answers since x last (Some identifier) = refl

pub unanswered-more : {X : Type 0} (asked : X → Option ℕ) (answers : ℕ → X → Bool) (past : List X) (x : X)
    → last_unanswered asked answers (past ++ x ∷ []) ≡ waiting_behind asked answers (last_unanswered asked answers past) x
unanswered-more asked answers past x =
    ap (λ since. unless_answered answers since (last_of (filter_map asked (past ++ x ∷ [])))) (behind_last-more (λ one. is_some (asked one)) past x)
    ∙ (ap (unless_answered answers (cond (is_some (asked x)) [] (behind_last (λ one. is_some (asked one)) past ++ x ∷ []))) (last_picked asked past x)
    ∙ found_by answers (behind_last (λ one. is_some (asked one)) past) x (last_of (filter_map asked past)) (asked x))

-- a pass whose steps are these finds it
pub pass-finds : {X : Type 0} (asked : X → Option ℕ) (answers : ℕ → X → Bool) (step : Option ℕ → X → Option ℕ) → ((waiting : Option ℕ) (x : X) → step waiting x ≡ waiting_behind asked answers waiting x)
    → (list : List X) → fold step None list ≡ last_unanswered asked answers list
pass-finds asked answers step steps list =
    from_end (λ past. fold step None past ≡ last_unanswered asked answers past) refl
    (λ past x held. fold-append step None past (x ∷ []) ∙ (ap (λ w. step w x) held ∙ (steps (last_unanswered asked answers past) x ∙ sym (unanswered-more asked answers past x)))) list
