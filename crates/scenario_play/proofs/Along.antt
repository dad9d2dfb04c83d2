-- What is so of a machine at first, and of it after whatever it hears and says, is so along each run.
use Rattle.std.proofs.Common.{◌≡◌, ℕ, List, [], ◌∷◌, ◌++◌, Some, refl, ap, ◌∙◌}
use Rattle.noting_laws.specs.world_model.specs.Machines.{News, Upper}
use Rattle.noting_laws.specs.world_model.specs.Worlds.{World, Happening, Runs}
use Rattle.radio_world.specs.Scenes.{Moment, Plays}
use Rattle.noting_laws.specs.alike_laws.proofs.Alike.{AreAlike, runs_on}

pub record Stays {S G : Type 0} (U : Upper S G) (P : S → Type 0) : Type 0 where
  pub hears : (answers : List G) (news : News) (s : S) → P s → P (U.hear answers news s)
  pub says : (s : S) (pdu : List ℕ) (after : S) → U.next s ≡ Some (pdu, after) → P s → P after

-- the machine beside itself
same_alike : {S G : Type 0} (U : Upper S G) (P : S → Type 0) → Stays U P → AreAlike (λ (s t : S). (t ≡ s) × P s) U U
same_alike {S = S} U P stays = record {
  hear = λ answers news s t so. (answers, (ap (U.hear answers news) so.0, stays.hears answers news s so.1));
  says = λ s t so pdu after next. (after, (refl, stays.says s pdu after next so.1), ap U.next so.0 ∙ next);
  silent = λ s t so none. ap U.next so.0 ∙ none;
  wants_link = λ s t so. ap U.wants_link so.0;
  leaves_link = λ s t so. ap U.leaves_link so.0;
  is_idle = λ s t so. ap U.is_idle so.0;
  outcome = λ s t so. ap U.outcome so.0;
  armed = λ s t so. ap U.armed so.0;
  may_cancel = λ s t so. ap U.may_cancel so.0;
  has_check = λ s t own so. ap (λ (x : S). U.has_check x own) so.0;
}

pub stays_along : {S T G H : Type 0} (U : Upper S G) (V : Upper T H) (P : S → Type 0) (Q : T → Type 0) → Stays U P → Stays V Q → (happenings : List Happening) (old new : World S T) → P old.a.upper → Q old.b.upper → Runs U V happenings old new
    → P new.a.upper × Q new.b.upper
stays_along {S = S} {T = T} U V P Q one other happenings old new first_a first_b runs =
    let (there, alike, ran) = runs_on (λ (s t : S). (t ≡ s) × P s) (λ (s t : T). (t ≡ s) × Q s) U U V V (same_alike U P one) (same_alike V Q other) happenings old.a.upper old.b.upper old new (refl, first_a) (refl, first_b) runs in
    (alike.a.1, alike.b.1)

-- a run stops at each of its moments
pub plays_apart : {S T G H : Type 0} (U : Upper S G) (V : Upper T H) (xs ys : List Happening) (old new : Moment S T) → Plays U V (xs ++ ys) old new → (mid : Moment S T) × Plays U V xs old mid × Plays U V ys mid new
plays_apart U V [] ys old new plays = (old, refl, plays)
plays_apart U V (x ∷ xs) ys old new (mid, happens, plays) = let (at, before, behind) = plays_apart U V xs ys mid new plays in (at, (mid, happens, before), behind)
