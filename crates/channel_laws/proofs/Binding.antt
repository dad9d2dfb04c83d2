-- What was agreed on a channel stays so while it is open.
use Rattle.std.proofs.Common.{◌≡◌, ℕ, ◌≤◌, List, ◌++◌, Bool, true, false, Option, Some, None, refl, sym, ap, subst, ◌∙◌, inl, inr}
use Rattle.std.proofs.lemmas.List.Sums.{fold-append}
use Rattle.own_channel_laws.specs.talk_laws.specs.l2cap_config.specs.declared.wish.Agreed.{Agreed}
use Rattle.own_channel_laws.specs.talk_laws.specs.l2cap_config.specs.declared.wish.Wish.{Wish}
use Rattle.own_channel_laws.specs.channel_model.specs.ertm_model.specs.Value.{Ertm}
use Rattle.own_channel_laws.specs.channel_model.specs.Value.{Carrier, Retransmitting, Setup, Stage, Requested, Connected, Leaving, Closing, Crossed, Held}
use Rattle.own_channel_laws.specs.channel_model.specs.Policies.{Policy}
use Rattle.own_channel_laws.specs.channel_model.specs.Changing.{held_at, is_open}
use Rattle.own_channel_laws.specs.channel_model.specs.Calls.{setup_on, carrier_if, open_carrier, carrier_at}
use Rattle.own_channel_laws.specs.channel_model.proofs.Going.{CarrierGoes}
use Rattle.own_channel_laws.specs.Runs.{Occurrence, Run, new_link, run_on, run_of}
use Rattle.channel_laws.specs.Suiting.{AgreementsStay}
use Rattle.own_channel_laws.proofs.Keeping.{OfCarrier, StageKeeps, HeldKeeps, AllKeep, Keeps, keeps-all}
use Rattle.own_channel_laws.specs.Agreements.{agreed_of}
use Rattle.own_channel_laws.proofs.Agreed.{SameAgreed, carries-stated}
use Rattle.own_channel_laws.proofs.Running.{IsSound, goes-on, all-sound}

-- it is open by this agreement
abbrev pub IsBy : Agreed → (opened : Bool) → Option Carrier → Type 0
IsBy agreed opened None = ⊥
IsBy agreed opened (Some carrier) = (opened ≡ true) × (agreed_of carrier ≡ agreed)

-- the channel of one endpoint is
abbrev pub Binds : Agreed → (one : ℕ) → ℕ → OfCarrier
Binds agreed one own wish leaving opened carrier = own ≡ one → IsBy agreed opened carrier

stays_open : (opened after_opened : Bool) → (after_opened ≡ false → opened ≡ false) → opened ≡ true → after_opened ≡ true
stays_open opened true shut is = refl
stays_open opened false shut is = let never : true ≡ false = sym is ∙ shut refl in absurd cc

goes_by : (agreed : Agreed) (wish : Wish) (opened after_opened : Bool) (before after : Option Carrier) → (after_opened ≡ false → opened ≡ false) → CarrierGoes wish SameAgreed opened before after → IsBy agreed opened before → IsBy agreed after_opened after
goes_by agreed wish opened after_opened None after shut goes by = elim by [ ]
goes_by agreed wish opened after_opened (Some before) None shut goes by = elim goes [ ]
goes_by agreed wish opened after_opened (Some before) (Some after) shut (inl same) (is, also) = (stays_open opened after_opened shut is, same ∙ also)
goes_by agreed wish opened after_opened (Some before) (Some after) shut (inr (closed, accepted)) (is, also) = let never : true ≡ false = sym is ∙ closed in absurd cc

keeps_bound : (policy : Policy) (agreed : Agreed) (one : ℕ) → Keeps policy SameAgreed (Binds agreed one)
keeps_bound policy agreed one = record {
  same = λ carrier. refl;
  goes = λ own psm leaving opened after_opened before after shut goes was is. goes_by agreed (policy.wish psm) opened after_opened before after shut goes (was is);
  leaves = λ own psm opened carrier was is. was is;
}

-- ---- from when it is open

open_by : (setup : Setup) (carrier : Carrier) → carrier_if (is_open setup) setup ≡ Some carrier → IsBy (agreed_of carrier) (is_open setup) setup.carrier
open_by setup carrier is = by (is_open setup) is
  where
    by : (opened : Bool) → carrier_if opened setup ≡ Some carrier → IsBy (agreed_of carrier) opened setup.carrier
    by true is = subst (IsBy (agreed_of carrier) true) (sym is) (refl, refl)
    by false is = cc

held_by : (policy : Policy) (carrier : Carrier) (one own : ℕ) (held : Option Held) → (own ≡ one → open_carrier (setup_on held) ≡ Some carrier) → HeldKeeps policy (Binds (agreed_of carrier) one own) held
held_by policy carrier one own None is = tt
held_by policy carrier one own (Some held) is = by held.stage is
  where
    by : (stage : Stage) → (let at : Held = record held { stage = stage } in own ≡ one → open_carrier (setup_on (Some at)) ≡ Some carrier) → StageKeeps (Binds (agreed_of carrier) one own) (policy.wish held.psm) stage
    by (Requested request) is = λ same. let never : None ≡ Some carrier = is same in absurd cc
    by (Connected peer setup) is = λ same. open_by setup carrier (is same)
    by (Leaving peer setup request) is = λ same. open_by setup carrier (is same)
    by (Closing peer request checked) is = tt
    by (Crossed peer request) is = tt

bound_at : (policy : Policy) (run : Run) (own : ℕ) (carrier : Carrier) → IsSound policy run → carrier_at own run.value ≡ Some carrier → AllKeep policy (Binds (agreed_of carrier) own) run.value
bound_at policy run own carrier sound is = record {
  at = λ other. held_by policy carrier own other (held_at other run.value) (λ same. subst (λ n. carrier_at n run.value ≡ Some carrier) (sym same) is);
  fresh = λ other psm above same.
      let none : held_at own run.value ≡ None = sound.core.held_below own (subst (λ n. run.value.next ≤ n) same above) in
      let never : None ≡ Some carrier = sym (ap (λ h. open_carrier (setup_on h)) none) ∙ is in absurd cc;
  below = λ other above. sound.core.held_below other above;
}

-- ---- later

carried_by : (agreed : Agreed) (setup : Setup) (again : Carrier) → carrier_if (is_open setup) setup ≡ Some again → IsBy agreed (is_open setup) setup.carrier → agreed_of again ≡ agreed
carried_by agreed setup again is bound = by (is_open setup) is bound
  where
    by : (opened : Bool) → carrier_if opened setup ≡ Some again → IsBy agreed opened setup.carrier → agreed_of again ≡ agreed
    by true is bound = (subst (IsBy agreed true) is bound).1
    by false is bound = cc

agreed_at : (policy : Policy) (agreed : Agreed) (own : ℕ) (held : Option Held) (again : Carrier) → HeldKeeps policy (Binds agreed own own) held → open_carrier (setup_on held) ≡ Some again → agreed_of again ≡ agreed
agreed_at policy agreed own None again keeps is = cc
agreed_at policy agreed own (Some held) again keeps is = by held.stage keeps is
  where
    by : (stage : Stage) → StageKeeps (Binds agreed own own) (policy.wish held.psm) stage → (let at : Held = record held { stage = stage } in open_carrier (setup_on (Some at)) ≡ Some again) → agreed_of again ≡ agreed
    by (Requested request) keeps is = cc
    by (Connected peer setup) keeps is = carried_by agreed setup again is (keeps refl)
    by (Leaving peer setup request) keeps is = carried_by agreed setup again is (keeps refl)
    by (Closing peer request checked) keeps is = cc
    by (Crossed peer request) keeps is = cc

-- at all later moments
pub bound-later : (policy : Policy) (list later : List Occurrence) (own : ℕ) (machine : Ertm) → carrier_at own (run_of policy list).value ≡ Some (Retransmitting machine) → AllKeep policy (Binds machine.agreed own) (run_of policy (list ++ later)).value
bound-later policy list later own machine is =
    subst (λ (run : Run). AllKeep policy (Binds machine.agreed own) run.value) (sym (fold-append (run_on policy) new_link list later))
    (goes-on policy (λ run. AllKeep policy (Binds machine.agreed own) run.value)
    (λ run more sound keeps. keeps-all policy SameAgreed (Binds machine.agreed own) (keeps_bound policy machine.agreed own) carries-stated more run.value sound.core.lone keeps) later (run_of policy list) (all-sound policy list)
    (bound_at policy (run_of policy list) own (Retransmitting machine) (all-sound policy list) is)).1

pub agreements-stay : AgreementsStay
agreements-stay policy list later own machine again is also = agreed_at policy machine.agreed own (held_at own (run_of policy (list ++ later)).value) (Retransmitting again) ((bound-later policy list later own machine is).at own) also
