-- Channels of a client that are open in basic mode stay so, or are closed, whatever happens but that it asks for one more.
use Rattle.std.proofs.Common.{◌≡◌, ◌<◌, ℕ, List, [], ◌∷◌, ◌++◌, Bool, true, false, Option, Some, None, refl, sym, subst, ◌∙◌, inl, inr, arith}
use Rattle.std.specs.Prelude.{nat_lt}
use Rattle.std.proofs.lemmas.Bool.{ltb-true, ltb-false}
use Rattle.limit_laws.specs.pair_laws.specs.bt_base.specs.declared.settings.Settings.{Settings}
use Rattle.limit_laws.specs.pair_laws.specs.l2cap_config.specs.declared.wish.Wish.{Wish}
use Rattle.cause_laws.specs.channel_model.specs.Calls.{carrier_with}
use Rattle.cause_laws.specs.channel_model.specs.Giving.{carrier_given}
use Rattle.cause_laws.specs.channel_model.proofs.Going.{CarrierGoes}
use Rattle.cause_laws.specs.channel_model.specs.Changing.{held_at, is_open}
use Rattle.cause_laws.specs.channel_model.specs.Policies.{Policy, policy}
use Rattle.cause_laws.specs.channel_model.specs.Value.{Carrier, Plain, Retransmitting, Stage, Requested, Connected, Leaving, Closing, Crossed, Held, Channels}
use Rattle.limit_laws.specs.pair_laws.specs.channel_laws.specs.Runs.{Occurrence, run_of}
use Rattle.limit_laws.specs.pair_laws.specs.channel_laws.specs.Singly.{AsksForNoChannel}
use Rattle.limit_laws.specs.pair_laws.specs.channel_laws.proofs.Keeping.{OfCarrier, StageKeeps, HeldKeeps, AllKeep, Keeps, Carries, keeps-all}
use Rattle.limit_laws.specs.pair_laws.specs.channel_laws.proofs.Running.{all-sound}
use Rattle.cause_laws.specs.host_laws.proofs.Refusing.{value-more, stays-free}
use Rattle.limit_laws.specs.told_laws.specs.Limits.{IsPlain}

-- ---- a channel

-- it is open in basic mode, or closed
abbrev pub IsPlainStage : Stage → Type 0
IsPlainStage (Requested request) = ⊥
IsPlainStage (Connected peer setup) = (is_open setup ≡ true) × IsPlain setup.carrier
IsPlainStage (Leaving peer setup request) = (is_open setup ≡ true) × IsPlain setup.carrier
IsPlainStage (Closing peer request checked) = Unit {0}
IsPlainStage (Crossed peer request) = Unit {0}

abbrev pub AllPlain : Channels → Type 0
AllPlain v = (own : ℕ) (held : Held) → held_at own v ≡ Some held → IsPlainStage held.stage

-- ---- what carries its SDUs

abbrev StaysPlain : Carrier → Carrier → Type 0
StaysPlain before after = IsPlain (Some before) → IsPlain (Some after)

-- of the channels with lesser endpoints
abbrev OpenBelow : (bound : ℕ) → ℕ → OfCarrier
OpenBelow bound own wish leaving opened carrier = own < bound → (opened ≡ true) × IsPlain carrier

plain_carries : Carries StaysPlain
plain_carries = record { sends = λ sdu carrier. sends sdu carrier; gives = gives; hears = λ pdu machine closed so. so; fires = λ machine closed so. so }
  where
    sends : (sdu : List ℕ) (carrier : Carrier) → StaysPlain carrier (carrier_with carrier sdu)
    sends sdu (Plain agreed waiting) = λ so. tt
    sends sdu (Retransmitting machine) = λ so. so

    gives : (carrier : Carrier) → StaysPlain carrier (carrier_given carrier)
    gives (Plain agreed waiting) = λ so. tt
    gives (Retransmitting machine) = λ so. so

opened_so : (opened after : Bool) → opened ≡ true → (after ≡ false → opened ≡ false) → after ≡ true
opened_so opened true is shut = refl
opened_so opened false is shut = let never : true ≡ false = sym is ∙ shut refl in cc

plain_keeps : (wanted : Policy) (bound : ℕ) → Keeps wanted StaysPlain (OpenBelow bound)
plain_keeps wanted bound = record {
  same = λ carrier so. so;
  goes = λ own psm leaving opened after_opened before after shut goes holds less. by psm opened after_opened before after shut goes (holds less);
  leaves = λ own psm opened carrier holds. holds;
}
  where
    by : (psm : ℕ) (opened after_opened : Bool) (before after : Option Carrier) → (after_opened ≡ false → opened ≡ false) → CarrierGoes (wanted.wish psm) StaysPlain opened before after → (opened ≡ true) × IsPlain before → (after_opened ≡ true) × IsPlain after
    by psm opened after_opened None after shut goes (is, plain) = elim plain [ ]
    by psm opened after_opened (Some b) None shut goes (is, plain) = elim goes [ ]
    by psm opened after_opened (Some b) (Some a) shut (inl goes) (is, plain) = (opened_so opened after_opened is shut, goes plain)
    by psm opened after_opened (Some b) (Some a) shut (inr fresh) (is, plain) = let never : true ≡ false = sym is ∙ fresh.0 in cc

-- ---- all channels

module _ (settings : Settings) where
  abbrev wanted : Policy
  wanted = policy settings false

  abbrev value : List Occurrence → Channels
  value front = (run_of (policy settings false) front).value

  -- their endpoints were given before
  below : (front : List Occurrence) (own : ℕ) (held : Held) → held_at own (value front) ≡ Some held → own < (value front).next
  below front own held found = by (nat_lt own (value front).next) refl
    where
      by : (less : Bool) → nat_lt own (value front).next ≡ less → own < (value front).next
      by true is = ltb-true own (value front).next is
      by false is = let never : None ≡ Some held = sym ((all-sound wanted front).core.held_below own (ltb-false own (value front).next is)) ∙ found in cc

  all_open : (front : List Occurrence) → AllPlain (value front) → AllKeep wanted (OpenBelow (value front).next) (value front)
  all_open front plain = record {
    at = λ own. by own (held_at own (value front)) refl;
    fresh = λ own psm above less. absurd (omega (arith, above, less));
    below = (all-sound wanted front).core.held_below;
  }
    where
      staged_so : (own : ℕ) (stage : Stage) (wish : Wish) → IsPlainStage stage → StageKeeps (OpenBelow (value front).next own) wish stage
      staged_so own (Requested request) wish so = elim so [ ]
      staged_so own (Connected peer setup) wish so = λ less. so
      staged_so own (Leaving peer setup request) wish so = λ less. so
      staged_so own (Closing peer request checked) wish so = tt
      staged_so own (Crossed peer request) wish so = tt

      by : (own : ℕ) (found : Option Held) → held_at own (value front) ≡ found → HeldKeeps wanted (OpenBelow (value front).next own) found
      by own None found = tt
      by own (Some held) found = staged_so own held.stage (wanted.wish held.psm) (plain own held found)

  pub plain_more : (front : List Occurrence) (more : Occurrence) → AsksForNoChannel more → AllPlain (value front) → AllPlain (value (front ++ more ∷ []))
  plain_more front more quiet plain own held found = by (held_at own v) refl
    where
      v : Channels
      v = value front

      all : AllKeep wanted (OpenBelow v.next) (value (front ++ more ∷ []))
      all = subst (AllKeep wanted (OpenBelow v.next)) (sym (value-more wanted front more)) (keeps-all wanted StaysPlain (OpenBelow v.next) (plain_keeps wanted v.next) plain_carries more v (all-sound wanted front).core.lone (all_open front plain))

      staged_so : (stage : Stage) (wish : Wish) → own < v.next → StageKeeps (OpenBelow v.next own) wish stage → IsPlainStage stage
      staged_so (Requested request) wish less so = let never : false ≡ true = (so less).0 in cc
      staged_so (Connected peer setup) wish less so = so less
      staged_so (Leaving peer setup request) wish less so = so less
      staged_so (Closing peer request checked) wish less so = tt
      staged_so (Crossed peer request) wish less so = tt

      by : (before : Option Held) → held_at own v ≡ before → IsPlainStage held.stage
      by None none = let never : None ≡ Some held = sym (stays-free wanted (λ psm. refl) front more quiet own none) ∙ found in cc
      by (Some h) there = staged_so held.stage (wanted.wish held.psm) (below front own h there) (subst (HeldKeeps wanted (OpenBelow v.next own)) found (all.at own))
