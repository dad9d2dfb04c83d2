-- Answers of a shelf, one list behind another (this project's own).
use Rattle.std.specs.Prelude.{ℕ, ◌≡◌, ◌≤◌, ◌+◌, Option, List, [], ◌∷◌, ◌++◌, refl}
use Rattle.std.specs.List.{AllByRecursion}
use Rattle.std.proofs.Common.{◌∙◌, arith, inl, inr, subst, sym}
use Rattle.std.proofs.lemmas.Bool.{cases_lt}
use Rattle.bt_base.specs.Counts.{HasRisen, last_count}
use Rattle.bt_base.specs.Objects.{Object}
use Rattle.bt_base.specs.declared.settings.Settings.{Settings}
use Rattle.shelf_model.specs.world_model.specs.Machines.{News, Linked, Up, Down, Failed, Heard, TimerFired, Cancelled, Opening}
use Rattle.shelf_model.specs.host_model.specs.Circumstances.{Circumstance}
use Rattle.shelf_model.specs.host_model.specs.Clients.{ClientProfile, client_profile}
use Rattle.bt_host.specs.Calls.{JoinAnswers}
use Rattle.bt_host.specs.Uppers.{IsAside}
use Rattle.shelf_model.specs.obex_session.specs.Counting.{HasRisenBy}
use Rattle.shelf_model.specs.obex_session.proofs.CountingLaws.{rises_none, rises_both}
use Rattle.bt_host.specs.Pushing.{IsOf, failures_in, AreOf}

rises_later : (a b c : ℕ) → a ≤ b → b ≤ c → HasRisen b c → HasRisen a c
rises_later a b c before behind (inl rose) = inl (omega (arith, before, rose))
rises_later a b c before behind (inr end) = elim (cases_lt a last_count) [ inl below ↦ inl (omega (arith, below, end, behind)) | inr above ↦ inr above ]

each_of : (content : Option (List Object)) (xs ys : List Circumstance) → AllByRecursion (IsOf content) xs → AllByRecursion (IsOf content) ys → AllByRecursion (IsOf content) (xs ++ ys)
each_of content [] ys first second = second
each_of content (x ∷ xs) ys first second = (first.0, each_of content xs ys first.1 second)

pub failures_join : (xs ys : List Circumstance) → failures_in (xs ++ ys) ≡ failures_in xs + failures_in ys
failures_join [] ys = omega arith
failures_join (x ∷ xs) ys = let rest = failures_join xs ys in omega (arith, rest)

module _ {P : Type 0} (content : P → Option (List Object)) (faults shortages : P → ℕ) where
  abbrev pub Answers : P → List Circumstance → P → Type 0
  Answers first used last = AreOf (content first) (content last) (faults first) (faults last) (shortages first) (shortages last) used

  pub joins : JoinAnswers Answers
  joins = record {
    none = λ port. record { content_stays = refl; faults_stay = omega arith; shortages_stay = omega arith; each = tt; few = rises_none (faults port) (faults port) (omega arith) };
    then = λ first mid last xs ys one two. record {
      content_stays = two.content_stays ∙ one.content_stays;
      faults_stay = omega (arith, one.faults_stay, two.faults_stay);
      shortages_stay = omega (arith, one.shortages_stay, two.shortages_stay);
      each = each_of (content first) xs ys one.each (subst (λ c. AllByRecursion (IsOf c) ys) one.content_stays two.each);
      few = subst (λ (n : ℕ). HasRisenBy n (faults first) (faults last)) (sym (failures_join xs ys))
          (rises_both (failures_in xs) (failures_in ys) (faults first) (faults mid) (faults last) two.faults_stay one.few two.few);
    };
  }

  pub lacks : (first mid last : P) (used : List Circumstance) → Answers first used mid → HasRisen (shortages mid) (shortages last) × (shortages mid ≤ shortages last)
      → HasRisen (shortages first) (shortages last) × (shortages first ≤ shortages last)
  lacks first mid last used one (rose, behind) =
      (rises_later (shortages first) (shortages mid) (shortages last) one.shortages_stay behind rose, omega (arith, one.shortages_stay, behind))

pub told_alone : (settings : Settings) (all : List Circumstance) (news : News) (pushing : ClientProfile) → IsAside news → (client_profile settings).told all news pushing ≡ (client_profile settings).told [] news pushing
told_alone settings all (Linked Up) pushing aside = refl
told_alone settings all (Linked (Down reason)) pushing aside = refl
told_alone settings all (Failed status) pushing aside = refl
told_alone settings all (Heard pdu) pushing aside = refl
told_alone settings all TimerFired pushing aside = refl
told_alone settings all Cancelled pushing aside = refl
told_alone settings all (Opening name) pushing aside = absurd aside
