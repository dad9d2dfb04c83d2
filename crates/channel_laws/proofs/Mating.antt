-- A channel that two hosts have in common is each the other's at every moment.
use Rattle.std.proofs.Common.{◌≡◌, ℕ, ◌<◌, ◌≤◌, List, [], ◌∷◌, ◌++◌, Bool, true, false, Option, Some, None, refl, sym, ap, subst, ◌∙◌, ◌⊎◌, inl, inr}
use Rattle.std.specs.Prelude.{is_some, nat_lt, option_map}
use Rattle.std.proofs.lemmas.Bool.{ltb-false, ltb-true}
use Rattle.own_channel_laws.specs.talk_laws.specs.capture.specs.Histories.{EachAfter}
use Rattle.own_channel_laws.specs.talk_laws.specs.l2cap_config.specs.declared.wish.Agreed.{Agreed}
use Rattle.own_channel_laws.specs.talk_laws.specs.l2cap_config.specs.declared.wish.Mode.{Mode}
use Rattle.own_channel_laws.specs.talk_laws.specs.l2cap_config.specs.declared.wish.Mode.TheVariants.{Basic, Enhanced}
use Rattle.own_channel_laws.specs.talk_laws.specs.link_talk.specs.declared.channel.Channel.{Channel}
use Rattle.own_channel_laws.specs.talk_laws.specs.link_talk.specs.Sayings.{Saying}
use Rattle.own_channel_laws.specs.talk_laws.specs.link_talk.specs.Channels.{Entry, reading}
use Rattle.own_channel_laws.specs.channel_model.specs.Value.{Carrier, Plain, Retransmitting, Setup, Stage, Requested, Connected, Leaving, Closing, Crossed, Held, Channels}
use Rattle.own_channel_laws.specs.channel_model.specs.Policies.{Policy}
use Rattle.own_channel_laws.specs.channel_model.specs.Changing.{held_at, is_open, setup_of}
use Rattle.own_channel_laws.specs.channel_model.specs.Calls.{setup_on, open_carrier, carrier_if}
use Rattle.own_channel_laws.specs.channel_model.proofs.Lookups.{own_of, found-has}
use Rattle.own_channel_laws.specs.Views.{peer_of, carrier_mode, channel_by, read_at, standing}
use Rattle.own_channel_laws.specs.Endpoints.{IsOf}
use Rattle.own_channel_laws.specs.Runs.{Run}
use Rattle.channel_laws.specs.Pairs.{Pair, Side, Near, Far, turned, Turn, pair_of, IsRunOf}
use Rattle.channel_laws.specs.Ends.{end_at}
use Rattle.channel_laws.specs.Belonging.{AreRead}
use Rattle.channel_laws.specs.Common.{mirrored}
use Rattle.channel_laws.specs.Modes.{policy_of, OneWishes}
use Rattle.own_channel_laws.proofs.Sound.{Agrees, AgreesIf, standing-is, ReadsBy, Reads, CarrierIs}
use Rattle.own_channel_laws.proofs.Running.{IsSound, all-sound}
use Rattle.channel_laws.proofs.Partaking.{IsMachine, IsSole, IsMate}
use Rattle.channel_laws.proofs.Sharing.{channels-are_common, stays-of}
use Rattle.channel_laws.proofs.Modes.{modes-are_wished}
use Rattle.channel_laws.proofs.Bonds.{IsAgreed}

-- ---- one moment of all

pub front-each : {X : Type 0} (P : List X → X → Type 0) (done past rest : List X) → EachAfter P done (past ++ rest) → EachAfter P done past
front-each P done [] rest each = tt
front-each P done (x ∷ past) rest (now, each) = (now, front-each P (done ++ x ∷ []) past rest each)

-- what is read of a channel that is held, with a peer's endpoint
record IsThere (policy : Policy) (held : Held) (peer : ℕ) (said : List Saying) : Type 0 where
  entry : Entry
  found : read_at held.own (reading said).entries ≡ Some entry
  channel_is : entry.channel ≡ channel_by held.psm held.own peer
  agrees : AgreesIf (policy.wish held.psm) (standing held.stage) entry.setup

there_by : (policy : Policy) (held : Held) (peer : ℕ) (said : List Saying) (found : Option Entry) → read_at held.own (reading said).entries ≡ found → ReadsBy policy held (Some peer) found → IsThere policy held peer said
there_by policy held peer said None at reads = elim reads [ ]
there_by policy held peer said (Some entry) at (there, agrees) = record { entry = entry; found = at; channel_is = there.channel_is; agrees = agrees }

is_there : (policy : Policy) (held : Held) (peer : ℕ) (said : List Saying) (v : Channels) → Reads policy (held_at held.own v) (read_at held.own (reading said).entries) → held_at held.own v ≡ Some held → peer_of held.stage ≡ Some peer → IsThere policy held peer said
is_there policy held peer said v reads found to =
    there_by policy held peer said (read_at held.own (reading said).entries) refl
    (subst (λ p. ReadsBy policy held p (read_at held.own (reading said).entries)) to (subst (λ h. Reads policy h (read_at held.own (reading said).entries)) found reads))

pub same_channel : (a b : Channel) (found : Option Entry) → IsOf a found → IsOf b found → a ≡ b
same_channel a b None one two = elim one [ ]
same_channel a b (Some entry) one two = sym one ∙ two

pub stays_other : (near far : Policy) (side : Side) (past rest : List Turn) (channel : Channel) (own : ℕ) → IsOf channel (read_at own (reading (end_at side (turned (pair_of near far past))).run.said).entries)
    → IsOf channel (read_at own (reading (end_at side (turned (pair_of near far (past ++ rest)))).run.said).entries)
stays_other near far Near past rest channel own is = stays-of near far Far past rest channel own is
stays_other near far Far past rest channel own is = stays-of near far Near past rest channel own is

-- a channel that talks has an endpoint of the peer
unpeered : {X : Type 0} (held : Held) (setup : Setup) → setup_of held.stage ≡ Some setup → peer_of held.stage ≡ None → X
unpeered held setup has to = by held.stage has to
  where
    by : {X : Type 0} (stage : Stage) → setup_of stage ≡ Some setup → peer_of stage ≡ None → X
    by (Requested request) has to = absurd cc
    by (Connected peer s) has to = absurd cc
    by (Leaving peer s request) has to = absurd cc
    by (Closing peer request checked) has to = absurd cc
    by (Crossed peer request) has to = absurd cc

-- ---- the channel of one end

-- what carries its SDUs has the mode that this host wishes, which is the one that the other wishes
abbrev pub AreWished : (mine other : Mode) (own : ℕ) → Channels → Type 0
AreWished mine other own v = (held : Held) (setup : Setup) (carrier : Carrier) → held_at own v ≡ Some held → setup_of held.stage ≡ Some setup → setup.carrier ≡ Some carrier → (carrier_mode carrier ≡ mine) × (other ≡ carrier_mode carrier)

-- so it is the one that either wishes
pub one-wished : (mode mine other : Mode) (own : ℕ) (v : Channels) → (mine ≡ mode) ⊎ (other ≡ mode) → AreWished mine other own v
    → (held : Held) (setup : Setup) (carrier : Carrier) → held_at own v ≡ Some held → setup_of held.stage ≡ Some setup → setup.carrier ≡ Some carrier → carrier_mode carrier ≡ mode
one-wished mode mine other own v (inl wish) wished held setup carrier found has is = (wished held setup carrier found has is).0 ∙ wish
one-wished mode mine other own v (inr wish) wished held setup carrier found has is = sym (wished held setup carrier found has is).1 ∙ wish

pub other-wishes : (near far : Policy) (psm : ℕ) (mode : Mode) → OneWishes near far psm mode → OneWishes far near psm mode
other-wishes near far psm mode (inl wish) = inr wish
other-wishes near far psm mode (inr wish) = inl wish

pub sole-at : (near far policy : Policy) (past rest : List Turn) (side : Side) (channel : Channel) → AreRead near far (past ++ rest) → (let now : Pair = pair_of near far past in let all : Pair = pair_of near far (past ++ rest) in
    IsSound policy (end_at side now).run → IsOf channel (read_at channel.own (reading (end_at side all).run.said).entries) → IsOf (mirrored channel) (read_at channel.peer (reading (end_at side (turned all)).run.said).entries)
    → IsSole channel.own channel.peer (end_at side now).run.value × AreWished (policy.wish channel.psm).mode ((policy_of side far near).wish channel.psm).mode channel.own (end_at side now).run.value)
sole-at near far policy past rest side channel read sound has other_has = (record { for = for; alone = alone }, mode)
  where
    v : Channels
    v = (end_at side (pair_of near far past)).run.value

    said : List Saying
    said = (end_at side (pair_of near far past)).run.said

    there : (held : Held) (peer : ℕ) → held_at held.own v ≡ Some held → peer_of held.stage ≡ Some peer → IsThere policy held peer said
    there held peer found to = is_there policy held peer said v (sound.core.reads held.own) found to

    -- a channel that is held at the endpoint is this one
    this : (held : Held) (peer : ℕ) → held_at channel.own v ≡ Some held → peer_of held.stage ≡ Some peer → channel ≡ channel_by held.psm held.own peer
    this held peer found to =
        let same : held.own ≡ channel.own = found-has own_of channel.own v.held held found in
        let it = there held peer (ap (λ n. held_at n v) same ∙ found) to in
        let of : IsOf (channel_by held.psm held.own peer) (read_at held.own (reading said).entries) = subst (IsOf (channel_by held.psm held.own peer)) (sym it.found) it.channel_is in
        same_channel channel (channel_by held.psm held.own peer) _ has (subst (λ n. IsOf (channel_by held.psm held.own peer) (read_at n (reading (end_at side (pair_of near far (past ++ rest))).run.said).entries)) same (stays-of near far side past rest (channel_by held.psm held.own peer) held.own of))

    for : (held : Held) (endpoint : ℕ) → held_at channel.own v ≡ Some held → peer_of held.stage ≡ Some endpoint → endpoint ≡ channel.peer
    for held endpoint found to = sym (ap (λ (c : Channel). c.peer) (this held endpoint found to))

    mode : AreWished (policy.wish channel.psm).mode ((policy_of side far near).wish channel.psm).mode channel.own v
    mode held setup carrier found has_setup is = by (peer_of held.stage) refl
      where
        by : (peer : Option ℕ) → peer_of held.stage ≡ peer → (carrier_mode carrier ≡ (policy.wish channel.psm).mode) × (((policy_of side far near).wish channel.psm).mode ≡ carrier_mode carrier)
        by None to = unpeered held setup has_setup to
        by (Some peer) to =
            let same : held.own ≡ channel.own = found-has own_of channel.own v.held held found in
            let it = there held peer (ap (λ n. held_at n v) same ∙ found) to in
            let agrees : Agrees (policy.wish held.psm) setup it.entry.setup = subst (λ s. AgreesIf (policy.wish held.psm) s it.entry.setup) (standing-is held.stage setup has_setup) it.agrees in
            let accepted : it.entry.setup.accepted ≡ Some (carrier_mode carrier) = agrees.set_up.accepted_is ∙ ap (option_map carrier_mode) is in
            let same_channel : channel ≡ it.entry.channel = this held peer found to ∙ sym it.channel_is in (
              subst (CarrierIs (policy.wish held.psm)) is agrees.carrier_is ∙ ap (λ (c : Channel). (policy.wish c.psm).mode) (sym (this held peer found to)),
              ap (λ (c : Channel). ((policy_of side far near).wish c.psm).mode) same_channel ∙ modes-are_wished near far past (front-each _ [] past rest read) side held.own it.entry (carrier_mode carrier) it.found accepted,
            )

    alone : (held : Held) (setup : Setup) (carrier : Carrier) → held_at held.own v ≡ Some held → setup_of held.stage ≡ Some setup → setup.carrier ≡ Some carrier → peer_of held.stage ≡ Some channel.peer → held.own ≡ channel.own
    alone held setup carrier found has_setup is to =
        let it = there held channel.peer found to in
        let agrees : Agrees (policy.wish held.psm) setup it.entry.setup = subst (λ s. AgreesIf (policy.wish held.psm) s it.entry.setup) (standing-is held.stage setup has_setup) it.agrees in
        let accepted : is_some it.entry.setup.accepted ≡ true = ap (λ (m : Option Mode). is_some m) (agrees.set_up.accepted_is ∙ ap (option_map carrier_mode) is) in
        let common : IsOf (mirrored it.entry.channel) (read_at it.entry.channel.peer (reading (end_at side (turned (pair_of near far past))).run.said).entries) = channels-are_common near far past (front-each _ [] past rest read) side held.own it.entry it.found accepted in
        let one : Channel = mirrored (channel_by held.psm held.own channel.peer) in
        let of : IsOf one (read_at channel.peer (reading (end_at side (turned (pair_of near far past))).run.said).entries) =
        subst (λ (c : Channel). IsOf (mirrored c) (read_at c.peer (reading (end_at side (turned (pair_of near far past))).run.said).entries)) it.channel_is common in
        let same : one ≡ mirrored channel = same_channel one (mirrored channel) _ (stays_other near far side past rest one channel.peer of) other_has in
        ap (λ (c : Channel). c.peer) same

pub mates-at : (near far policy : Policy) (past rest : List Turn) (side : Side) (channel : Channel) (agreed : Agreed) → AreRead near far (past ++ rest) → (let now : Pair = pair_of near far past in let all : Pair = pair_of near far (past ++ rest) in
    IsSound policy (end_at side now).run → IsAgreed agreed channel.own (end_at side now).run.value → ((policy.wish channel.psm).mode ≡ Enhanced) ⊎ (((policy_of side far near).wish channel.psm).mode ≡ Enhanced) → IsOf channel (read_at channel.own (reading (end_at side all).run.said).entries)
    → IsOf (mirrored channel) (read_at channel.peer (reading (end_at side (turned all)).run.said).entries) → IsMate agreed channel.own channel.peer (end_at side now).run.value)
mates-at near far policy past rest side channel agreed read sound by_agreement wish has other_has = record { sole = sole.0; enhanced = enhanced }
  where
    v : Channels
    v = (end_at side (pair_of near far past)).run.value

    sole : IsSole channel.own channel.peer v × AreWished (policy.wish channel.psm).mode ((policy_of side far near).wish channel.psm).mode channel.own v
    sole = sole-at near far policy past rest side channel read sound has other_has

    enhanced : (held : Held) (setup : Setup) (carrier : Carrier) → held_at channel.own v ≡ Some held → setup_of held.stage ≡ Some setup → setup.carrier ≡ Some carrier → IsMachine agreed (is_open setup) carrier
    enhanced held setup (Plain other waiting) found has_setup is = let never : Basic ≡ Enhanced = one-wished Enhanced _ _ channel.own v wish sole.1 held setup (Plain other waiting) found has_setup is in absurd cc
    enhanced held setup (Retransmitting machine) found has_setup is = λ opened. by_agreement machine (ap (λ h. open_carrier (setup_on h)) found ∙ (ap open_carrier has_setup ∙ (ap (λ b. carrier_if b setup) opened ∙ is)))

-- no endpoint of a channel that is read is below that (2.1)
pub high-at : (policy : Policy) (run : Run) (channel : Channel) (own : ℕ) → IsRunOf policy run → IsOf channel (read_at own (reading run.said).entries) → 0x0040 ≤ own
high-at policy run channel own (list, is) has = by (nat_lt own 0x0040) refl
  where
    none : own < 0x0040 → ⊥
    none low =
        let sound : IsSound policy run = subst (IsSound policy) (sym is) (all-sound policy list) in
        subst (IsOf channel) (sound.core.read_low own low) has

    by : (low : Bool) → nat_lt own 0x0040 ≡ low → 0x0040 ≤ own
    by true low = absurd (none (ltb-true own 0x0040 low))
    by false low = ltb-false own 0x0040 low
