-- A channel that has ended for its host, and never carries anything again.
use Rattle.std.proofs.Common.{◌≡◌, ℕ, ◌<◌, Bool, true, false, eqb, Option, Some, None, inl, inr, refl, sym, ap, subst, ◌∙◌, arith}
use Rattle.std.specs.Prelude.{find}
use Rattle.std.proofs.lemmas.Bool.{eqb-true}
use Rattle.std.proofs.lemmas.Bool.Decides.{leb_tells}
use Rattle.own_channel_laws.specs.talk_laws.specs.l2cap_config.specs.declared.wish.Wish.{Wish}
use Rattle.own_channel_laws.specs.channel_model.specs.Value.{Carrier, Stage, Requested, Connected, Leaving, Closing, Crossed, Setup, Held, Channels}
use Rattle.own_channel_laws.specs.channel_model.specs.Policies.{Policy}
use Rattle.own_channel_laws.specs.channel_model.specs.Changing.{has_own, held_at, is_open, setup_of}
use Rattle.own_channel_laws.specs.channel_model.proofs.Lookups.{own_of, Distinct, eqb-same}
use Rattle.own_channel_laws.specs.Runs.{Occurrence, value_after}
use Rattle.own_channel_laws.proofs.Keeping.{OfCarrier, StageKeeps, HeldKeeps, AllKeep, keeps-all}
use Rattle.channel_laws.proofs.Joining.{IsBelow}

-- nothing that may carry is of the endpoint
abbrev pub Never : (own n : ℕ) → OfCarrier
Never own n wish leaving opened carrier = n ≡ own → ⊥

-- nor will there be
abbrev pub Spent : Policy → (own : ℕ) → Channels → Type 0
Spent policy own v = AllKeep policy (Never own) v

abbrev Any : Carrier → Carrier → Type 0
Any before after = Unit {0}

pub spent-on : (policy : Policy) (own : ℕ) (more : Occurrence) (v : Channels) → Distinct own_of v.held → Spent policy own v → Spent policy own (value_after policy more v)
spent-on policy own more v lone spent =
    keeps-all policy Any (Never own) (record { same = λ carrier. tt; goes = λ n psm leaving opened after_opened before after shut goes was. was; leaves = λ n psm opened carrier was. was })
    (record { sends = λ sdu carrier. tt; gives = λ carrier. tt; hears = λ pdu machine open_. tt; fires = λ machine open_. tt }) more v lone spent

any_held : (policy : Policy) (P : OfCarrier) → ((wish : Wish) (leaving opened : Bool) (carrier : Option Carrier) → P wish leaving opened carrier) → (held : Option Held) → HeldKeeps policy P held
any_held policy P all None = tt
any_held policy P all (Some held) = by held.stage
  where
    by : (stage : Stage) → StageKeeps P (policy.wish held.psm) stage
    by (Requested request) = all (policy.wish held.psm) false false None
    by (Connected peer setup) = all (policy.wish held.psm) false (is_open setup) setup.carrier
    by (Leaving peer setup request) = all (policy.wish held.psm) true (is_open setup) setup.carrier
    by (Closing peer request checked) = tt
    by (Crossed peer request) = tt

-- where nothing that may carry is held at an endpoint that was given
pub spent-at : (policy : Policy) (own : ℕ) (v : Channels) → own < v.next → IsBelow v → HeldKeeps policy (Never own own) (held_at own v) → Spent policy own v
spent-at policy own v given below here = record {
  at = λ n. by n (eqb n own) refl;
  fresh = λ n psm above same. omega (arith, given, above, same);
  below = below;
}
  where
    by : (n : ℕ) (mine : Bool) → eqb n own ≡ mine → HeldKeeps policy (Never own n) (find (has_own n) v.held)
    by n true is = let same : own ≡ n = sym (eqb-true n own is) in subst (λ k. HeldKeeps policy (Never own k) (find (has_own k) v.held)) same here
    by n false away = any_held policy (Never own n) (λ wish leaving opened carrier same. let never : true ≡ false = sym (eqb-same own) ∙ (ap (λ k. eqb k own) (sym same) ∙ away) in cc) (find (has_own n) v.held)

-- an endpoint that is held was given
pub held-given : (own : ℕ) (v : Channels) (held : Held) → IsBelow v → held_at own v ≡ Some held → own < v.next
held-given own v held below found =
    elim (leb_tells v.next own) [
      | inl (e, above) ↦ (let never : None ≡ Some held = sym (below own above) ∙ found in absurd (none never))
      | inr (e, lt) ↦ lt
    ]
  where
    none : None ≡ Some held → ⊥
    none is = cc

-- a channel that carries is not spent
pub carries-unspent : (policy : Policy) (own : ℕ) (v : Channels) (held : Held) (setup : Setup) → held_at own v ≡ Some held → setup_of held.stage ≡ Some setup → Spent policy own v → ⊥
carries-unspent policy own v held setup found has spent = by held.stage has (subst (HeldKeeps policy (Never own own)) found (spent.at own))
  where
    by : (stage : Stage) → setup_of stage ≡ Some setup → StageKeeps (Never own own) (policy.wish held.psm) stage → ⊥
    by (Requested request) is never = cc
    by (Connected peer s) is never = never refl
    by (Leaving peer s request) is never = never refl
    by (Closing peer request checked) is never = cc
    by (Crossed peer request) is never = cc
