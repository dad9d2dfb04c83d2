-- What happens to a client one thing behind the other, and the link of its push with one thing more.
use Rattle.std.proofs.Common.{◌≡◌, List, [], ◌∷◌, ◌++◌, Some, refl, sym, ap, ◌∙◌, append_assoc, append-nil}
use Rattle.std.specs.List.{AllByRecursion}
use Rattle.outcome_laws.specs.unit_laws.specs.scenario_laws.specs.capture.specs.Moves.{Move}
use Rattle.outcome_laws.specs.cause_laws.specs.push_terms.specs.declared.outcome.Outcome.{Outcome}
use Rattle.outcome_laws.specs.cause_laws.specs.push_model.specs.Client.{Client}
use Rattle.outcome_laws.specs.cause_laws.specs.push_model.specs.Laws.{done}
use Rattle.outcome_laws.specs.cause_laws.specs.push_model.proofs.CauseLaws.{first_causes_stay}
use Rattle.outcome_laws.specs.cause_laws.specs.host_laws.specs.Pushing.{Affair, Begins, Does, client_after, client_behind}
use Rattle.outcome_laws.specs.unit_laws.specs.Units.{Occasion, units_of, units}
use Rattle.coming_laws.specs.OwnLinks.{PushLink, NoPush, link_with, link_from, push_link}

-- ---- affairs

pub behind_both : (xs ys : List Affair) (client : Client) → client_behind (xs ++ ys) client ≡ client_behind ys (client_behind xs client)
behind_both [] ys client = refl
behind_both (one ∷ xs) ys client = behind_both xs ys (client_after one client)

-- none of them begins a push
abbrev pub IsOfNoBegin : Affair → Type 0
IsOfNoBegin (Begins size name) = ⊥
IsOfNoBegin (Does deed) = Unit {0}

pub all_both : {X : Type 0} (P : X → Type 0) (xs ys : List X) → AllByRecursion P xs → AllByRecursion P ys → AllByRecursion P (xs ++ ys)
all_both P [] ys one two = two
all_both P (x ∷ xs) ys one two = (one.0, all_both P xs ys one.1 two)

-- an outcome stays
pub outcome_stays : (affairs : List Affair) (client : Client) (outcome : Outcome) → AllByRecursion IsOfNoBegin affairs → client.cause ≡ Some outcome → (client_behind affairs client).cause ≡ Some outcome
outcome_stays [] client outcome none is = is
outcome_stays (Begins size name ∷ affairs) client outcome none is = absurd none.0
outcome_stays (Does deed ∷ affairs) client outcome none is = outcome_stays affairs (done deed client) outcome none.1 (first_causes_stay (deed ∷ []) client outcome is)

-- ---- the link of a push

link_more : {G : Type 0} (moved : List Move) (link : PushLink) (list : List (Occasion G)) (one : Occasion G) → link_from moved link (list ++ one ∷ []) ≡ link_with (moved ++ units list) (link_from moved link list) one
link_more moved link [] one = ap (λ (m : List Move). link_with m link one) (sym (append-nil moved))
link_more moved link (first ∷ list) one =
    link_more (moved ++ units_of first) (link_with moved link first) list one
    ∙ ap (λ (m : List Move). link_with m (link_from (moved ++ units_of first) (link_with moved link first) list) one) (append_assoc moved (units_of first) (units list))

pub push_link_more : {G : Type 0} (list : List (Occasion G)) (one : Occasion G) → push_link (list ++ one ∷ []) ≡ link_with (units list) (push_link list) one
push_link_more list one = link_more [] NoPush list one
