-- Two states of one machine that cannot be told apart (this project's own).
use Rattle.std.specs.Prelude.{ℕ, ◌≡◌, ◌⊎◌, List}
use Rattle.run_laws.specs.world_model.specs.Machines.{News, Upper}
use Rattle.run_laws.specs.world_model.specs.Worlds.{World, Happening, Runs, IsAtRest}
use Rattle.run_laws.specs.Embedding.{world_as}

-- The machine says and tells the same in both, and news lead from both to one: what was different is forgotten then.
pub record AreTwins {S G : Type 0} (U : Upper S G) (s t : S) : Type 0 where
  pub hear : (answers : List G) (news : News) → U.hear answers news t ≡ U.hear answers news s
  pub next : U.next t ≡ U.next s
  pub wants_link : U.wants_link t ≡ U.wants_link s
  pub leaves_link : U.leaves_link t ≡ U.leaves_link s
  pub is_idle : U.is_idle t ≡ U.is_idle s
  pub outcome : U.outcome t ≡ U.outcome s
  pub armed : U.armed t ≡ U.armed s
  pub may_cancel : U.may_cancel t ≡ U.may_cancel s
  pub has_check : (own : ℕ) → U.has_check t own ≡ U.has_check s own

-- it is the same, or still the other one of two
abbrev pub IsOther : {S : Type 0} → (first other : S) → S → S → Type 0
IsOther first other s t = (t ≡ s) ⊎ ((s ≡ first) × (t ≡ other))

-- a world with other machines in it
abbrev pub world_with : {S S' T T' : Type 0} → S' → T' → World S T → World S' T'
world_with {S} {S'} {T} {T'} a b w = world_as (λ (s : S). a) (λ (t : T). b) w

-- Both worlds are the same but for their machines, between which these relations hold.
pub record WorldsAlike {S S' T T' : Type 0} (R : S → S' → Type 0) (Q : T → T' → Type 0) (w : World S T) (w' : World S' T') : Type 0 where
  pub a : R w.a.upper w'.a.upper
  pub b : Q w.b.upper w'.b.upper
  pub same : w' ≡ world_with w'.a.upper w'.b.upper w

-- What happens where both machines begin in one state happens where they begin in its twin.
abbrev pub RunsAreOfTwins : {S T G H : Type 0} → (U : Upper S G) (V : Upper T H) → Type 0
RunsAreOfTwins {S} {T} U V =
    (s s' : S) (t t' : T) → AreTwins U s s' → AreTwins V t t' → (happenings : List Happening) (old new : World S T) → old.a.upper ≡ s → old.b.upper ≡ t → Runs U V happenings old new
    → (new' : World S T) × WorldsAlike (IsOther s s') (IsOther t t') new new' × Runs U V happenings (world_with s' t' old) new'

-- And where the one world is at rest the other is.
abbrev pub RestIsOfTwins : {S T G H : Type 0} → (U : Upper S G) (V : Upper T H) → Type 0
RestIsOfTwins {S} {T} U V =
    (s s' : S) (t t' : T) → AreTwins U s s' → AreTwins V t t' → (w w' : World S T) → WorldsAlike (IsOther s s') (IsOther t t') w w' → IsAtRest U V w → IsAtRest U V w'
