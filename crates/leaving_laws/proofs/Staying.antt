-- A host that asked for the end of a channel does not come back to it, and its request for the end was given or waits to be given.
use Rattle.std.proofs.Common.{◌≡◌, ℕ, ◌≤◌, Bool, true, false, eqb, Option, Some, None, refl, sym, ap, subst, ◌∙◌}
use Rattle.std.specs.Prelude.{find}
use Rattle.std.proofs.lemmas.Bool.{eqb-true}
use Rattle.channel_laws.specs.channel_model.specs.declared.errand.Errand.TheVariants as errands
use Rattle.channel_laws.specs.channel_model.specs.Changing.{has_own, held_at}
use Rattle.channel_laws.specs.channel_model.specs.Policies.{Policy}
use Rattle.channel_laws.specs.channel_model.specs.Value.{Request, Carrier, Stage, Requested, Connected, Leaving, Closing, Crossed, Held, Channels}
use Rattle.channel_laws.specs.channel_model.proofs.Lookups.{own_of, Distinct, eqb-same}
use Rattle.channel_laws.specs.Runs.{Occurrence, value_after}
use Rattle.channel_laws.specs.Tries.{request_of, request_at, for_options, for_end}
use Rattle.channel_laws.proofs.Keeping.{OfCarrier, StageKeeps, HeldKeeps, AllKeep, Keeps, Carries, keeps-all}

module _ (own : ℕ) where
  -- the channel of this endpoint is one that the host leaves
  abbrev IsLeft : ℕ → OfCarrier
  IsLeft n wish leaving opened carrier = n ≡ own → leaving ≡ true

  abbrev Any : Carrier → Carrier → Type 0
  Any before after = Unit {0}

  left_keeps : (policy : Policy) → Keeps policy Any IsLeft
  left_keeps policy = record {
    same = λ carrier. tt;
    goes = λ n psm leaving opened after_opened before after shut goes holds. holds;
    leaves = λ n psm opened carrier holds same. refl;
  }

  any_carries : Carries Any
  any_carries = record { sends = λ sdu carrier. tt; gives = λ carrier. tt; hears = λ pdu machine closed. tt; fires = λ machine closed. tt }

  other_keeps : (policy : Policy) (n : ℕ) (found : Option Held) → (n ≡ own → ⊥) → HeldKeeps policy (IsLeft n) found
  other_keeps policy n None apart = tt
  other_keeps policy n (Some held) apart = by held.stage
    where
      by : (stage : Stage) → StageKeeps (IsLeft n) (policy.wish held.psm) stage
      by (Requested request) = λ same. absurd (apart same)
      by (Connected peer setup) = λ same. absurd (apart same)
      by (Leaving peer setup request) = λ same. refl
      by (Closing peer request checked) = tt
      by (Crossed peer request) = tt

  mine_keeps : (policy : Policy) (found : Option Held) (end : Request) → request_at for_end found ≡ Some end → HeldKeeps policy (IsLeft own) found
  mine_keeps policy None end is = tt
  mine_keeps policy (Some held) end is = by held.stage is
    where
      by : (stage : Stage) → for_end stage ≡ Some end → StageKeeps (IsLeft own) (policy.wish held.psm) stage
      by (Requested request) at = cc
      by (Connected peer setup) at = cc
      by (Leaving peer setup request) at = λ same. refl
      by (Closing peer request checked) at = tt
      by (Crossed peer request) at = tt

  -- where its options wait, its end does
  waits_on : (policy : Policy) (found : Option Held) (request : Request) → HeldKeeps policy (IsLeft own) found → request_at for_options found ≡ Some request → request_at for_end found ≡ None → ⊥
  waits_on policy None request keeps is none = cc
  waits_on policy (Some held) request keeps is none = by held.stage keeps is none
    where
      by : (stage : Stage) → StageKeeps (IsLeft own) (policy.wish held.psm) stage → for_options stage ≡ Some request → for_end stage ≡ None → ⊥
      by (Requested r) k at ended = cc
      by (Connected peer setup) k at ended = let never : false ≡ true = k refl in cc
      by (Leaving peer setup r) k at ended = cc
      by (Closing peer r checked) k at ended = cc
      by (Crossed peer r) k at ended = cc

  pub never-back : (policy : Policy) (more : Occurrence) (v : Channels) → Distinct own_of v.held → ((n : ℕ) → v.next ≤ n → find (has_own n) v.held ≡ None) → (end request : Request) → request_of (errands.Disconnection own) v ≡ Some end
      → request_of (errands.Configuration own) (value_after policy more v) ≡ Some request → request_of (errands.Disconnection own) (value_after policy more v) ≡ None → ⊥
  never-back policy more v lone below end request was is none = waits_on policy (held_at own (value_after policy more v)) request (after.at own) is none
    where
      early : v.next ≤ own → ⊥
      early late = let none_there : request_of (errands.Disconnection own) v ≡ None = ap (request_at for_end) (below own late) in let never : None ≡ Some end = sym none_there ∙ was in cc

      before : AllKeep policy IsLeft v
      before = record {
        at = λ n. by n (eqb n own) refl;
        fresh = λ n psm late same. absurd (early (subst (λ m. v.next ≤ m) same late));
        below = below;
      }
        where
          by : (n : ℕ) (b : Bool) → eqb n own ≡ b → HeldKeeps policy (IsLeft n) (held_at n v)
          by n true same = subst (λ m. HeldKeeps policy (IsLeft m) (held_at m v)) (sym (eqb-true n own same)) (mine_keeps policy (held_at own v) end was)
          by n false apart = other_keeps policy n (held_at n v) (λ it. let on : eqb n own ≡ true = subst (λ m. eqb n m ≡ true) it (eqb-same n) in let never : true ≡ false = sym on ∙ apart in cc)

      after : AllKeep policy IsLeft (value_after policy more v)
      after = keeps-all policy Any IsLeft (left_keeps policy) any_carries more v lone before
