-- A channel of which options were accepted hands up what comes in basic mode; and one that its host has left hands up nothing more.
use Rattle.std.proofs.Common.{◌≡◌, ℕ, ◌≤◌, List, [], ◌∷◌, ◌++◌, fold, drop, Bool, true, false, cond, eqb, Option, Some, None, refl, sym, ap, subst, ◌∙◌, ◌⊎◌, inl, inr, append-nil}
use Rattle.std.specs.Prelude.{find, option_map, option_to_list, is_some}
use Rattle.std.proofs.lemmas.Bool.{eqb-true}
use Rattle.own_channel_laws.specs.talk_laws.specs.acl_fragments.specs.Pieces.{channel_of}
use Rattle.own_channel_laws.specs.talk_laws.specs.l2cap_config.specs.declared.wish.Mode.{Mode}
use Rattle.own_channel_laws.specs.talk_laws.specs.l2cap_config.specs.declared.wish.Mode.TheVariants.{Basic, Enhanced}
use Rattle.own_channel_laws.specs.talk_laws.specs.link_talk.specs.declared.channel.Channel.{Channel}
use Rattle.own_channel_laws.specs.talk_laws.specs.link_talk.specs.Sayings.{Saying}
use Rattle.own_channel_laws.specs.talk_laws.specs.link_talk.specs.Channels.{Entry, reading}
use Rattle.own_channel_laws.specs.channel_model.specs.Value.{Own, Unasked, Asking, Granted, Carrier, Plain, Retransmitting, Setup, Stage, Requested, Connected, Leaving, Closing, Crossed, Held, Channels}
use Rattle.own_channel_laws.specs.channel_model.specs.Policies.{Policy}
use Rattle.own_channel_laws.specs.channel_model.specs.Changing.{has_own, held_at, is_stated, setup_of}
use Rattle.own_channel_laws.specs.channel_model.specs.Carrying.{Nothing, is_taken_with, sdu_with, sdu_at}
use Rattle.own_channel_laws.specs.channel_model.proofs.Going.{IsStated}
use Rattle.own_channel_laws.specs.channel_model.proofs.Lookups.{eqb-same}
use Rattle.own_channel_laws.specs.Runs.{Occurrence, Comes, Connects, AsksFeatures, Disconnects, Sends, Gives, Fires, Tells, up_with, sdus_up, Run, run_on}
use Rattle.own_channel_laws.specs.Views.{carrier_mode, read_at}
use Rattle.own_channel_laws.proofs.Agreed.{SameAgreed, carries-stated}
use Rattle.channel_laws.proofs.Assents.{Took}
use Rattle.channel_laws.proofs.Ferried.{up_of_it, up_of_other}
use Rattle.channel_laws.proofs.Ferrying.{IsBasic}
use Rattle.own_channel_laws.proofs.Holding.{IsRead, is-read}
use Rattle.own_channel_laws.proofs.Keeping.{OfCarrier, StageKeeps, HeldKeeps, AllKeep, Keeps, keeps-all}
use Rattle.channel_laws.proofs.Partaking.{sdu_for}
use Rattle.own_channel_laws.proofs.Receiving.{up-nothing}
use Rattle.own_channel_laws.proofs.Running.{IsSound, goes-on}
use Rattle.own_channel_laws.proofs.Sound.{Reads, requested-unread, Sound}

-- ---- a channel that its host has left

-- it is not there any more, or its end was asked for
abbrev pub Left : (one : ℕ) → ℕ → OfCarrier
Left one own wish leaving opened carrier = own ≡ one → leaving ≡ true

keeps_left : (policy : Policy) (one : ℕ) → Keeps policy SameAgreed (Left one)
keeps_left policy one = record {
  same = λ carrier. refl;
  goes = λ own psm leaving opened after_opened before after shut goes was. was;
  leaves = λ own psm opened carrier was is. refl;
}

left_none : (policy : Policy) (own : ℕ) (held : Option Held) (pdu : List ℕ) → HeldKeeps policy (Left own own) held → sdu_for held pdu ≡ None
left_none policy own None pdu left = refl
left_none policy own (Some held) pdu left = by held.stage left
  where
    by : (stage : Stage) → StageKeeps (Left own own) (policy.wish held.psm) stage → sdu_at stage pdu ≡ None
    by (Requested request) left = refl
    by (Connected peer setup) left = let never : false ≡ true = left refl in absurd cc
    by (Leaving peer setup request) left = refl
    by (Closing peer request checked) left = refl
    by (Crossed peer request) left = refl

others_left : (policy : Policy) (one own : ℕ) (held : Option Held) → eqb own one ≡ false → HeldKeeps policy (Left one own) held
others_left policy one own None away = tt
others_left policy one own (Some held) away = by held.stage
  where
    never : {X : Type 0} → own ≡ one → X
    never same = let both : true ≡ false = sym (ap (λ n. eqb n one) same ∙ eqb-same one) ∙ away in absurd cc

    by : (stage : Stage) → StageKeeps (Left one own) (policy.wish held.psm) stage
    by (Requested request) = λ same. never same
    by (Connected peer setup) = λ same. never same
    by (Leaving peer setup request) = λ same. refl
    by (Closing peer request checked) = tt
    by (Crossed peer request) = tt

pub left-all : (policy : Policy) (said : List Saying) (v : Channels) (own : ℕ) (entry : Entry) → Sound policy (reading said) v → read_at own (reading said).entries ≡ Some entry → HeldKeeps policy (Left own own) (held_at own v) → AllKeep policy (Left own) v
left-all policy said v own entry sound found here = record {
  at = λ other. at other (eqb other own) refl;
  fresh = λ other psm above same.
      let none : read_at own (reading said).entries ≡ None = sound.core.read_below own (subst (λ n. v.next ≤ n) same above) in
      let never : None ≡ Some entry = sym none ∙ found in absurd cc;
  below = λ other above. sound.core.held_below other above;
}
  where
    at : (other : ℕ) (b : Bool) → eqb other own ≡ b → HeldKeeps policy (Left own other) (find (has_own other) v.held)
    at other true same = subst (λ n. HeldKeeps policy (Left own n) (find (has_own n) v.held)) (sym (eqb-true other own same)) here
    at other false away = others_left policy own other (find (has_own other) v.held) away

-- what comes in then is not handed up
pub left-up : (policy : Policy) (own : ℕ) (later : List Occurrence) (run : Run) → 0x0040 ≤ own → IsSound policy run → AllKeep policy (Left own) run.value → sdus_up own (fold (run_on policy) run later).up ≡ sdus_up own run.up
left-up policy own later run high sound left =
    (goes-on policy (λ r. AllKeep policy (Left own) r.value × (sdus_up own r.up ≡ sdus_up own run.up))
    (λ r more so (kept, same). (keeps-all policy SameAgreed (Left own) (keeps_left policy own) carries-stated more r.value so.core.lone kept, up_same r more kept ∙ same)) later run sound (left, refl)).1.1
  where
    up_same : (r : Run) (more : Occurrence) → AllKeep policy (Left own) r.value → sdus_up own (r.up ++ up_with more r.value ∷ []) ≡ sdus_up own r.up
    up_same r (Comes pdu) kept = by (eqb (channel_of pdu) own) refl
      where
        by : (here : Bool) → eqb (channel_of pdu) own ≡ here → sdus_up own (r.up ++ up_with (Comes pdu) r.value ∷ []) ≡ sdus_up own r.up
        by true here =
            up_of_it own r.up r.value pdu high (eqb-true (channel_of pdu) own here)
            ∙ (ap (λ o. sdus_up own r.up ++ option_to_list o) (left_none policy own (held_at own r.value) pdu (kept.at own)) ∙ append-nil (sdus_up own r.up))
        by false away = up_of_other own r.up r.value pdu away
    up_same r (Connects psm) kept = up-nothing own r.up Nothing refl
    up_same r AsksFeatures kept = up-nothing own r.up Nothing refl
    up_same r (Disconnects other) kept = up-nothing own r.up Nothing refl
    up_same r (Sends other sdu) kept = up-nothing own r.up Nothing refl
    up_same r (Gives pdu) kept = up-nothing own r.up Nothing refl
    up_same r Fires kept = up-nothing own r.up Nothing refl
    up_same r Tells kept = up-nothing own r.up Nothing refl

-- once something comes in for it, it stays left
pub left-stays : (policy : Policy) (own : ℕ) (more : Occurrence) (run : Run) → IsSound policy run → AllKeep policy (Left own) run.value → AllKeep policy (Left own) (run_on policy run more).value
left-stays policy own more run sound left = keeps-all policy SameAgreed (Left own) (keeps_left policy own) carries-stated more run.value sound.core.lone left

-- ---- a channel of which options were accepted

-- its host has asked for its own options where it carries
abbrev pub StatesIts : (own : ℕ) → Channels → Type 0
StatesIts own v = (held : Held) (peer : ℕ) (setup : Setup) → held_at own v ≡ Some held → held.stage ≡ Connected peer setup → IsStated setup

plain_taken : (own : Own) (carrier : Carrier) (pdu : List ℕ) → carrier_mode carrier ≡ Basic → is_stated own ≡ true → is_taken_with own carrier pdu ≡ true
plain_taken Unasked carrier pdu basic is = cc
plain_taken (Asking request options) (Plain agreed waiting) pdu basic is = refl
plain_taken (Asking request options) (Retransmitting machine) pdu basic is = let never : Enhanced ≡ Basic = basic in absurd cc
plain_taken Granted carrier pdu basic is = refl

-- hands up what comes in, or its host has left it
pub hands-up : (policy : Policy) (channel : Channel) (said : List Saying) (v : Channels) (pdu : List ℕ) → Sound policy (reading said) v → Took channel said → IsBasic channel.own v → StatesIts channel.own v
    → (sdu_for (held_at channel.own v) pdu ≡ Some (drop 4 pdu)) ⊎ HeldKeeps policy (Left channel.own channel.own) (held_at channel.own v)
hands-up policy channel said v pdu sound took basic states = of (held_at channel.own v) refl
  where
    own : ℕ
    own = channel.own

    some_entry : (a b : Entry) → Some a ≡ Some b → a ≡ b
    some_entry a b is = cc

    carried : (held : Held) (peer : ℕ) (setup : Setup) → held_at own v ≡ Some held → held.stage ≡ Connected peer setup → (carrier : Option Carrier) → setup.carrier ≡ carrier → sdu_with carrier setup.own pdu ≡ Some (drop 4 pdu)
    carried held peer setup at is None carrier_is =
        let r : IsRead policy said own held setup = is-read policy said v own held setup at (ap setup_of is) sound in
        let same : r.entry ≡ took.entry = some_entry r.entry took.entry (sym r.found ∙ took.found) in
        let none : is_some took.entry.setup.accepted ≡ false =
        ap (λ (e : Entry). is_some e.setup.accepted) (sym same) ∙ ap (λ (m : Option Mode). is_some m) (r.agrees.set_up.accepted_is ∙ ap (option_map carrier_mode) carrier_is) in
        let never : false ≡ true = sym none ∙ took.accepted in absurd cc
    carried held peer setup at is (Some (Plain agreed waiting)) carrier_is =
        ap (λ b. cond b (Some (drop 4 pdu)) None) (plain_taken setup.own (Plain agreed waiting) pdu refl (states held peer setup at is (ap is_some carrier_is)))
    carried held peer setup at is (Some (Retransmitting machine)) carrier_is = let never : Enhanced ≡ Basic = basic held setup (Retransmitting machine) at (ap setup_of is) carrier_is in absurd cc

    on : (held : Held) → held_at own v ≡ Some held → (stage : Stage) → held.stage ≡ stage → (sdu_at stage pdu ≡ Some (drop 4 pdu)) ⊎ StageKeeps (Left own own) (policy.wish held.psm) stage
    on held at (Requested request) is =
        let none : read_at own (reading said).entries ≡ None = requested-unread policy held request (read_at own (reading said).entries) is (subst (λ h. Reads policy h (read_at own (reading said).entries)) at (sound.core.reads own)) in
        let never : None ≡ Some took.entry = sym none ∙ took.found in absurd cc
    on held at (Connected peer setup) is = inl (carried held peer setup at is setup.carrier refl)
    on held at (Leaving peer setup request) is = inr (λ same. refl)
    on held at (Closing peer request checked) is = inr tt
    on held at (Crossed peer request) is = inr tt

    of : (held : Option Held) → held_at own v ≡ held → (sdu_for held pdu ≡ Some (drop 4 pdu)) ⊎ HeldKeeps policy (Left own own) held
    of None at = inr tt
    of (Some held) at = on held at held.stage refl
