-- A channel that is open stays so, one in which no SDU waits has none but one that is sent, and each takes 48 octets.
use Rattle.std.proofs.Common.{◌≡◌, ℕ, ◌<◌, ◌≤◌, List, [], ◌∷◌, drop, Bool, true, false, cond, eqb, Option, Some, None, refl, sym, ap, subst, ◌∙◌, ◌⊎◌, inl, inr, arith}
use Rattle.std.specs.Prelude.{find, nat_lt}
use Rattle.std.proofs.lemmas.Bool.{ltb-false}
use Rattle.talk_laws.specs.acl_fragments.specs.Pieces.{channel_of}
use Rattle.talk_laws.specs.l2cap_signal.specs.Reading.{answers}
use Rattle.talk_laws.specs.l2cap_config.specs.declared.agreement.ConfigAnswer.TheVariants.{Accept, Unacceptable, Unknown}
use Rattle.talk_laws.specs.l2cap_config.specs.declared.options.ConfigRefusal.{ConfigRefusal}
use Rattle.talk_laws.specs.l2cap_config.specs.declared.options.Options.{Options}
use Rattle.talk_laws.specs.l2cap_config.specs.declared.wish.Agreed.{Agreed}
use Rattle.talk_laws.specs.l2cap_config.specs.declared.wish.Mode.{Mode}
use Rattle.talk_laws.specs.l2cap_config.specs.declared.wish.Mode.TheVariants.{Basic, Enhanced}
use Rattle.talk_laws.specs.l2cap_config.specs.declared.wish.Wish.{Wish}
use Rattle.talk_laws.specs.l2cap_config.specs.Agreement.{answered, answered_values, agreed_on, asked_mtu, asked_mode}
use Rattle.channel_model.specs.Value.{Carrier, Plain, Retransmitting, Stage, Requested, Connected, Leaving, Closing, Crossed, Held, Channels, no_channels}
use Rattle.channel_model.specs.Policies.{Policy}
use Rattle.channel_model.specs.Changing.{has_own, is_open}
use Rattle.channel_model.specs.Configuring.{bounded_agreement, carrier_by}
use Rattle.channel_model.specs.Hearing.{hears_commands}
use Rattle.channel_model.specs.Carrying.{takes}
use Rattle.channel_model.specs.Calls.{carrier_with}
use Rattle.channel_model.specs.Giving.{carrier_given}
use Rattle.channel_model.proofs.Lookups.{own_of, Distinct, eqb-same}
use Rattle.channel_model.proofs.Going.{IsAccepted, CarrierGoes}
use Rattle.channel_model.proofs.Calling.{connected-goes, asks-features-goes, disconnected-goes, sends-goes, takes-goes, timed-goes, given-goes}
use Rattle.channel_model.proofs.Walking.{commands-go}
use Rattle.own_channel_laws.specs.Agreements.{agreed_of}
use Rattle.own_channel_laws.specs.Runs.{Occurrence, Comes, Connects, AsksFeatures, Disconnects, Sends, Gives, Fires, Tells, value_after, run_of}
use Rattle.own_channel_laws.proofs.Agreed.{SameAgreed, carries-stated}
use Rattle.own_channel_laws.proofs.Attending.{new-carrier, IsNew}
use Rattle.own_channel_laws.proofs.Keeping.{OfCarrier, StageKeeps, HeldKeeps, AllKeep, KeepsOn, Keeps, walks-keep, keeps-all, under}
use Rattle.own_channel_laws.proofs.Running.{along, all-sound}

-- ---- how much it takes

-- no peer's options are accepted that take less (Core 5.1, Volume 3 Part A, 5.1)
abbrev pub Takes : OfCarrier
Takes wish leaving opened None = Unit {0}
Takes wish leaving opened (Some carrier) = 48 ≤ (agreed_of carrier).send_mtu

asked_enough : (wish : Wish) (options given : Options) → answered wish options ≡ Accept given → 48 ≤ asked_mtu options
asked_enough wish options given = by _ _ _ _ _ _ (nat_lt (asked_mtu options) 48) refl
  where
    by : (refusal other : ConfigRefusal) (first second : Options) (unknown mode small : Bool) → nat_lt (asked_mtu options) 48 ≡ small
        → cond unknown Unknown (cond mode (Unacceptable refusal first) (cond small (Unacceptable other second) (answered_values wish.mode (asked_mode options)))) ≡ Accept given → 48 ≤ asked_mtu options
    by refusal other first second true mode small is same = cc
    by refusal other first second false true small is same = cc
    by refusal other first second false false true is same = cc
    by refusal other first second false false false is same = ltb-false (asked_mtu options) 48 is

new_takes : (wish : Wish) (carrier : Carrier) → IsAccepted wish carrier → 48 ≤ (agreed_of carrier).send_mtu
new_takes wish carrier accepted = subst (λ c. 48 ≤ (agreed_of c).send_mtu) (sym accepted.is) (by wish.mode)
  where
    enough : 48 ≤ asked_mtu accepted.options
    enough = asked_enough wish accepted.options accepted.given accepted.accepts

    by : (mode : Mode) → 48 ≤ (agreed_of (carrier_by mode (bounded_agreement (agreed_on wish accepted.options)))).send_mtu
    by Basic = omega (arith, enough)
    by Enhanced = omega (arith, enough)

goes_take : (wish : Wish) (leaving opened after_opened : Bool) (before after : Option Carrier) → CarrierGoes wish SameAgreed opened before after → Takes wish leaving opened before → Takes wish leaving after_opened after
goes_take wish leaving opened after_opened before None goes was = tt
goes_take wish leaving opened after_opened None (Some after) goes was = new_takes wish after goes
goes_take wish leaving opened after_opened (Some before) (Some after) (inl same) was = subst (λ (a : Agreed). 48 ≤ a.send_mtu) (sym same) was
goes_take wish leaving opened after_opened (Some before) (Some after) (inr (shut, accepted)) was = new_takes wish after accepted

keeps_take : (policy : Policy) → Keeps policy SameAgreed (λ own. Takes)
keeps_take policy = record {
  same = λ carrier. refl;
  goes = λ own psm leaving opened after_opened before after shut goes was. goes_take (policy.wish psm) leaving opened after_opened before after goes was;
  leaves = λ own psm opened carrier was. leaves (policy.wish psm) opened carrier was;
}
  where
    leaves : (wish : Wish) (opened : Bool) (carrier : Option Carrier) → Takes wish false opened carrier → Takes wish true opened carrier
    leaves wish opened None was = tt
    leaves wish opened (Some carrier) was = was

none_takes : (policy : Policy) → AllKeep policy (λ own. Takes) no_channels
none_takes policy = record { at = λ own. tt; fresh = λ own psm above. tt; below = λ own above. refl }

-- Whatever happens.
pub all-take : (policy : Policy) (list : List Occurrence) → AllKeep policy (λ own. Takes) (run_of policy list).value
all-take policy list =
    (along policy (λ run. AllKeep policy (λ own. Takes) run.value) (none_takes policy) (λ run more s all. keeps-all policy _ (λ own. Takes) (keeps_take policy) carries-stated more run.value s.core.lone all) list).1

-- ---- whether it is open, and whether an SDU waits

abbrev pub IsFreeCarrier : Carrier → Type 0
IsFreeCarrier (Plain agreed waiting) = waiting ≡ None
IsFreeCarrier (Retransmitting machine) = Unit {0}

abbrev pub IsFreeSome : Option Carrier → Type 0
IsFreeSome None = Unit {0}
IsFreeSome (Some carrier) = IsFreeCarrier carrier

-- of each of them where it is asked
abbrev pub Ready : (opens frees : Bool) → OfCarrier
Ready opens frees wish leaving opened carrier = (opens ≡ true → opened ≡ true) × (frees ≡ true → IsFreeSome carrier)

-- of the channel of one endpoint
abbrev ReadyAt : (own : ℕ) (opens frees : Bool) → ℕ → OfCarrier
ReadyAt own opens frees other wish leaving opened carrier = other ≡ own → Ready opens frees wish leaving opened carrier

abbrev StaysFree : (frees : Bool) → Carrier → Carrier → Type 0
StaysFree frees before after = frees ≡ true → IsFreeCarrier before → IsFreeCarrier after

new_free : (wish : Wish) (carrier : Carrier) → IsAccepted wish carrier → IsFreeCarrier carrier
new_free wish carrier accepted = by (new-carrier wish carrier accepted)
  where
    by : ((a : Agreed) × (carrier ≡ Plain a None) × (wish.mode ≡ Basic)) ⊎ ((a : Agreed) × IsNew wish a carrier) → IsFreeCarrier carrier
    by (inl (a, is, basic)) = subst IsFreeCarrier (sym is) refl
    by (inr (a, made)) = subst IsFreeCarrier (sym made.is) tt

goes_free : (wish : Wish) (frees opened : Bool) (before after : Option Carrier) → CarrierGoes wish (StaysFree frees) opened before after → (frees ≡ true → IsFreeSome before) → frees ≡ true → IsFreeSome after
goes_free wish frees opened None None goes was now = tt
goes_free wish frees opened None (Some after) goes was now = new_free wish after goes
goes_free wish frees opened (Some before) None goes was now = elim goes [ ]
goes_free wish frees opened (Some before) (Some after) (inl stays) was now = stays now (was now)
goes_free wish frees opened (Some before) (Some after) (inr (shut, accepted)) was now = new_free wish after accepted

goes_open : (opens opened after_opened : Bool) → (after_opened ≡ false → opened ≡ false) → (opens ≡ true → opened ≡ true) → opens ≡ true → after_opened ≡ true
goes_open opens opened true shut was now = refl
goes_open opens opened false shut was now = let never : true ≡ false = sym (was now) ∙ shut refl in cc

keeps_ready : (policy : Policy) (own : ℕ) (opens frees : Bool) → Keeps policy (StaysFree frees) (ReadyAt own opens frees)
keeps_ready policy own opens frees = record {
  same = λ carrier now free. free;
  goes = λ other psm leaving opened after_opened before after shut goes was same.
      let ready = was same in (goes_open opens opened after_opened shut ready.0, goes_free (policy.wish psm) frees opened before after goes ready.1);
  leaves = λ other psm opened carrier was. was;
}

given_free : (frees : Bool) (carrier : Carrier) → StaysFree frees carrier (carrier_given carrier)
given_free frees (Plain agreed waiting) now free = refl
given_free frees (Retransmitting machine) now free = tt

sent_free : (frees : Bool) (sdu : List ℕ) → frees ≡ false → (carrier : Carrier) → StaysFree frees carrier (carrier_with carrier sdu)
sent_free frees sdu off carrier now free = let never : true ≡ false = sym now ∙ off in absurd cc

-- none is sent where that is asked
abbrev pub SendsNone : (frees : Bool) → Occurrence → Type 0
SendsNone frees (Sends own sdu) = frees ≡ false
SendsNone frees (Comes pdu) = Unit {0}
SendsNone frees (Connects psm) = Unit {0}
SendsNone frees AsksFeatures = Unit {0}
SendsNone frees (Disconnects own) = Unit {0}
SendsNone frees (Gives pdu) = Unit {0}
SendsNone frees Fires = Unit {0}
SendsNone frees Tells = Unit {0}

module _ (policy : Policy) (own : ℕ) (opens frees : Bool) where
  abbrev K : Channels → Channels → Type 0
  K = KeepsOn policy (ReadyAt own opens frees)

  comes_ready : (pdu : List ℕ) (v : Channels) (signals : Bool) → K v (cond signals (hears_commands policy (answers (drop 4 pdu)) v) (takes (channel_of pdu) pdu v))
  comes_ready pdu v true = commands-go policy (StaysFree frees) K (walks-keep policy (StaysFree frees) (ReadyAt own opens frees) (keeps_ready policy own opens frees)) (answers (drop 4 pdu)) v
  comes_ready pdu v false = takes-goes policy (StaysFree frees) K (walks-keep policy (StaysFree frees) (ReadyAt own opens frees) (keeps_ready policy own opens frees)) (channel_of pdu) pdu v (λ machine open' now free. tt)

  occurs_ready : (more : Occurrence) (v : Channels) → SendsNone frees more → Distinct own_of v.held → K v (value_after policy more v)
  occurs_ready (Comes pdu) v none lone = comes_ready pdu v (eqb (channel_of pdu) 0x0001)
  occurs_ready (Connects psm) v none lone = connected-goes policy (StaysFree frees) K (walks-keep policy (StaysFree frees) (ReadyAt own opens frees) (keeps_ready policy own opens frees)) psm v
  occurs_ready AsksFeatures v none lone = asks-features-goes policy (StaysFree frees) K (walks-keep policy (StaysFree frees) (ReadyAt own opens frees) (keeps_ready policy own opens frees)) v
  occurs_ready (Disconnects other) v none lone = disconnected-goes policy (StaysFree frees) K (walks-keep policy (StaysFree frees) (ReadyAt own opens frees) (keeps_ready policy own opens frees)) other v
  occurs_ready (Sends other sdu) v none lone = sends-goes policy (StaysFree frees) K (walks-keep policy (StaysFree frees) (ReadyAt own opens frees) (keeps_ready policy own opens frees)) other sdu v (sent_free frees sdu none)
  occurs_ready (Gives pdu) v none lone = given-goes policy (StaysFree frees) K (walks-keep policy (StaysFree frees) (ReadyAt own opens frees) (keeps_ready policy own opens frees)) v (given_free frees) lone
  occurs_ready Fires v none lone = timed-goes policy (StaysFree frees) K (walks-keep policy (StaysFree frees) (ReadyAt own opens frees) (keeps_ready policy own opens frees)) v (λ machine open' now free. tt)
  occurs_ready Tells v none lone = λ all. record { at = all.at; fresh = all.fresh; below = all.below }

-- ---- of a channel that is alone

each_stage : (P Q : OfCarrier) (wish : Wish) → ((leaving opened : Bool) (carrier : Option Carrier) → P wish leaving opened carrier → Q wish leaving opened carrier) → (stage : Stage) → StageKeeps P wish stage → StageKeeps Q wish stage
each_stage P Q wish also (Requested request) was = also false false None was
each_stage P Q wish also (Connected peer setup) was = also false (is_open setup) setup.carrier was
each_stage P Q wish also (Leaving peer setup request) was = also true (is_open setup) setup.carrier was
each_stage P Q wish also (Closing peer request checked) was = tt
each_stage P Q wish also (Crossed peer request) was = tt

abbrev pub IsReady : Policy → (opens frees : Bool) → Held → Type 0
IsReady policy opens frees held = StageKeeps (Ready opens frees) (policy.wish held.psm) held.stage

alone_here : (one : Held) (held : List Held) → held ≡ one ∷ [] → find (has_own one.own) held ≡ Some one
alone_here one held is = ap (find (has_own one.own)) is ∙ ap (λ b. cond b (Some one) None) (eqb-same one.own)

-- the only channel is ready still
pub alone-ready : (policy : Policy) (list : List Occurrence) (more : Occurrence) (opens frees : Bool) (one next : Held) → (let v = (run_of policy list).value in v.held ≡ one ∷ [] → (value_after policy more v).held ≡ next ∷ [] → next.own ≡ one.own → SendsNone frees more → IsReady policy opens frees one → IsReady policy opens frees next)
alone-ready policy list more opens frees one next held_is next_is same none ready =
    each_stage (ReadyAt one.own opens frees one.own) (Ready opens frees) (policy.wish next.psm) (λ leaving opened carrier was. was refl) next.stage
    (subst (HeldKeeps policy (ReadyAt one.own opens frees one.own)) (ap (λ n. find (has_own n) w.held) (sym same) ∙ alone_here next w.held next_is) (after.at one.own))
  where
    v : Channels
    v = (run_of policy list).value

    w : Channels
    w = value_after policy more v

    below : (n : ℕ) → v.next ≤ n → find (has_own n) v.held ≡ None
    below = (all-take policy list).below

    less : one.own < v.next
    less = under v one v.next v.next refl below (alone_here one v.held held_is) (omega arith)

    at : (own : ℕ) (b : Bool) → eqb one.own own ≡ b → HeldKeeps policy (ReadyAt one.own opens frees own) (cond b (Some one) None)
    at own true here = each_stage (Ready opens frees) (ReadyAt one.own opens frees own) (policy.wish one.psm) (λ leaving opened carrier was at. was) one.stage ready
    at own false away = tt

    before : AllKeep policy (ReadyAt one.own opens frees) v
    before = record {
      at = λ own. subst (HeldKeeps policy (ReadyAt one.own opens frees own)) (sym (ap (find (has_own own)) held_is)) (at own (eqb one.own own) refl);
      fresh = λ own psm above at. absurd (omega (arith, less, above, at));
      below = below;
    }

    after : AllKeep policy (ReadyAt one.own opens frees) w
    after = occurs_ready policy one.own opens frees more v none (all-sound policy list).core.lone before
