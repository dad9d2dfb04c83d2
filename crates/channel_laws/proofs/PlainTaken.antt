-- What goes out on a basic channel is what it took, and comes up at the other end.
use Rattle.std.proofs.Common.{◌≡◌, ℕ, ◌<◌, List, [], ◌∷◌, ◌++◌, map, drop, Bool, true, false, cond, eqb, ◌&&◌, Option, Some, None, refl, sym, ap, subst, ◌∙◌, inl, append_assoc, append-nil}
use Rattle.std.specs.Prelude.{unwrap_or}
use Rattle.std.proofs.lemmas.Bool.{eqb-true}
use Rattle.std.proofs.lemmas.List.Sums.{fold-append}
use Rattle.own_channel_laws.specs.talk_laws.specs.bt_base.proofs.OctetLemmas.{le16-number}
use Rattle.own_channel_laws.specs.talk_laws.specs.acl_fragments.specs.Pieces.{channel_of}
use Rattle.own_channel_laws.specs.talk_laws.specs.capture.specs.declared.flow.Flow.TheVariants.{Out, Into}
use Rattle.own_channel_laws.specs.talk_laws.specs.capture.specs.Histories.{EachAfter}
use Rattle.own_channel_laws.specs.talk_laws.specs.capture.proofs.HistoryLaws.{given_by-more}
use Rattle.own_channel_laws.specs.talk_laws.specs.l2cap_signal.specs.Reading.{answers}
use Rattle.own_channel_laws.specs.talk_laws.specs.l2cap_config.specs.declared.wish.Mode.{Mode}
use Rattle.own_channel_laws.specs.talk_laws.specs.l2cap_config.specs.declared.wish.Mode.TheVariants.{Basic, Enhanced}
use Rattle.own_channel_laws.specs.talk_laws.specs.link_talk.specs.declared.channel.Channel.{Channel}
use Rattle.own_channel_laws.specs.talk_laws.specs.link_talk.specs.Sayings.{Saying, Carried}
use Rattle.own_channel_laws.specs.talk_laws.specs.link_talk.specs.Setups.{is_set}
use Rattle.own_channel_laws.specs.talk_laws.specs.link_talk.specs.Channels.{Entry, is_there, reading}
use Rattle.own_channel_laws.specs.talk_laws.specs.link_talk.specs.Carriages.{is_held, is_passed, takes as takes_on_it, pdus_of, entry_mode, mode_of}
use Rattle.own_channel_laws.specs.channel_model.specs.Value.{Carrier, Plain, Retransmitting, Setup, Held, Channels}
use Rattle.own_channel_laws.specs.channel_model.specs.Policies.{Policy}
use Rattle.own_channel_laws.specs.channel_model.specs.Changing.{held_at, is_open, setup_of}
use Rattle.own_channel_laws.specs.channel_model.specs.Carrying.{takes}
use Rattle.own_channel_laws.specs.channel_model.specs.Giving.{Given, Signal, Whole, Framed, headed, carrier_gives, next_given}
use Rattle.own_channel_laws.specs.channel_model.specs.Calls.{setup_on, carrier_if, open_carrier, carrier_at, connected, asks_features, disconnected}
use Rattle.own_channel_laws.specs.channel_model.proofs.Lookups.{eqb-same}
use Rattle.own_channel_laws.specs.OwnTalk.{asked_between, said_with_all}
use Rattle.own_channel_laws.specs.Runs.{Occurrence, Comes, Connects, AsksFeatures, Disconnects, Sends, Gives, Fires, Tells, peer_at, said_by_carrier, said_as, said_in, sdus_up, Run, new_link, run_on, run_of}
use Rattle.own_channel_laws.specs.Views.{read_at}
use Rattle.own_channel_laws.specs.Frames.{IsSpelled, IsUttered, AreUttered}
use Rattle.own_channel_laws.specs.Endpoints.{IsOf}
use Rattle.channel_laws.specs.Pairs.{Pair, Near, Far, pair_of}
use Rattle.channel_laws.specs.Common.{mirrored}
use Rattle.channel_laws.specs.Pipes.{IsFront}
use Rattle.channel_laws.specs.Taken.{is_free, taken_in, taken_of}
use Rattle.channel_laws.specs.Delivered.{IsRunBy}
use Rattle.channel_laws.specs.PlainTaken.{PlainTakenGoesOut, PlainTakenIsDelivered}
use Rattle.channel_laws.proofs.Arrived.{sent_are}
use Rattle.own_channel_laws.proofs.Both.{and-left, and-right}
use Rattle.own_channel_laws.proofs.Carriages.{goes_over, carried-none}
use Rattle.channel_laws.proofs.Delivering.{sent_on, sent-more, sent-elsewhere, sent-heard, sent-bare}
use Rattle.channel_laws.proofs.Ferrying.{IsBasic}
use Rattle.channel_laws.proofs.Flowing.{enhanced-accepted}
use Rattle.own_channel_laws.proofs.Holding.{IsRead, is-read, set-is}
use Rattle.channel_laws.proofs.Mating.{same_channel}
use Rattle.own_channel_laws.proofs.Naming.{endpoints-name_one}
use Rattle.channel_laws.proofs.Ordered.{front-all}
use Rattle.own_channel_laws.proofs.Outgoing.{open-stated}
use Rattle.channel_laws.proofs.OwnModes.{modes-are_own}
use Rattle.own_channel_laws.proofs.Passages.{GoesOut, carried-own, spelled-frame}
use Rattle.own_channel_laws.proofs.Running.{all-sound}
use Rattle.own_channel_laws.proofs.Signalling.{IsBare, bare-asked, bare-left, bare-with_all, bare-fired}
use Rattle.own_channel_laws.proofs.Sound.{ReadsBy, Reads, CarrierIs, Sound}
use Rattle.channel_laws.proofs.Trusting.{Gives_out, queue-out}

-- ---- a PDU that goes out on another channel

elsewhere : (policy : Policy) (channel : Channel) (past : List Saying) (v : Channels) (own : ℕ) (held : Held) (setup : Setup) (pdu : List ℕ) → Sound policy (reading past) v → (r : IsRead policy past own held setup) → channel_of pdu ≡ r.peer → eqb own channel.own ≡ false
    → sent_on channel (past ++ Carried Out pdu ∷ []) ≡ sent_on channel past
elsewhere policy channel past v own held setup pdu sound r to away = sent-elsewhere channel past (Carried Out pdu) (carried-none is_passed channel past Out pdu (by (read_at channel.own (reading past).entries) refl))
  where
    on : (x : Entry) → read_at channel.own (reading past).entries ≡ Some x → (b : Bool) → takes_on_it is_passed Out (channel_of pdu) x ≡ b → b ≡ false
    on x is false now = refl
    on x is true now =
        let there : is_there x.life ≡ true = and-right (is_set x.setup) (is_there x.life) (and-left (is_held x) (eqb x.channel.peer (channel_of pdu)) now) in
        let same : x.channel.peer ≡ r.entry.channel.peer = eqb-true x.channel.peer (channel_of pdu) (and-right (is_held x) (eqb x.channel.peer (channel_of pdu)) now) ∙ (to ∙ sym r.here) in
        let one : channel.own ≡ own = sound.core.apart channel.own own x r.entry is r.found there r.there same in
        let never : true ≡ false = sym (eqb-same own) ∙ (ap (eqb own) (sym one) ∙ away) in absurd cc

    by : (found : Option Entry) → read_at channel.own (reading past).entries ≡ found → goes_over is_passed Out pdu found ≡ false
    by None is = refl
    by (Some x) is = on x is (takes_on_it is_passed Out (channel_of pdu) x) refl

-- ---- what happens

module _ (policy : Policy) (channel : Channel) (past : List Saying) (v : Channels) (sound : Sound policy (reading past) v) (basic : IsBasic channel.own v) where
  abbrev Step : List Saying → List (List ℕ) → Type 0
  Step said taken = sent_on channel (past ++ said) ≡ sent_on channel past ++ taken

  silent : sent_on channel (past ++ []) ≡ sent_on channel past ++ []
  silent = ap (sent_on channel) (append-nil past) ∙ sym (append-nil (sent_on channel past))

  bare : (said : List Saying) → IsBare said → Step said []
  bare said is = sent-bare channel said past is ∙ sym (append-nil (sent_on channel past))

  -- an SDU that its host has for a channel
  sends_by : (own : ℕ) (held : Held) (setup : Setup) (sdu : List ℕ) (here : Bool) → held_at own v ≡ Some held → setup_of held.stage ≡ Some setup → is_open setup ≡ true → peer_at (Some held) < 65536 → eqb own channel.own ≡ here → (carrier : Option Carrier) → setup.carrier ≡ carrier
      → Step (said_by_carrier carrier (peer_at (Some held)) sdu) (cond (here && is_free carrier) (sdu ∷ []) [])
  sends_by own held setup sdu true at has opened fits here None is = silent
  sends_by own held setup sdu true at has opened fits here (Some (Retransmitting machine)) is =
      let mine : own ≡ channel.own = eqb-true own channel.own here in
      let never : Enhanced ≡ Basic = basic held setup (Retransmitting machine) (ap (λ n. held_at n v) (sym mine) ∙ at) has is in absurd cc
  sends_by own held setup sdu true at has opened fits here (Some (Plain agreed (Some waiting))) is = silent
  sends_by own held setup sdu true at has opened fits here (Some (Plain agreed None)) is =
      let mine : own ≡ channel.own = eqb-true own channel.own here in
      let r : IsRead policy past own held setup = is-read policy past v own held setup at has sound in
      let pdu : List ℕ = headed (peer_at (Some held)) sdu in
      let to : channel_of pdu ≡ r.peer = le16-number (peer_at (Some held)) sdu fits ∙ ap (λ p. unwrap_or p 0) r.peer_is in
      let goes : GoesOut past own r.peer = record {
        entry = r.entry;
        found = r.found;
        peer_is = r.here;
        holds = ap (λ b. b && is_there r.entry.life) (set-is policy past own held setup r (Plain agreed None) is (open-stated setup opened)) ∙ r.there;
        only = λ other x found_x there same. sound.core.apart other own x r.entry found_x r.found there r.there (same ∙ sym r.here);
      } in
      sent-more channel past (Carried Out pdu) ∙ ap (λ cs. sent_on channel past ++ map (drop 4) (pdus_of Out cs)) (carried-own channel past r.peer pdu (subst (λ n. GoesOut past n r.peer) mine goes) to)
  sends_by own held setup sdu false at has opened fits here None is = silent
  sends_by own held setup sdu false at has opened fits here (Some (Retransmitting machine)) is = silent
  sends_by own held setup sdu false at has opened fits here (Some (Plain agreed (Some waiting))) is = silent
  sends_by own held setup sdu false at has opened fits here (Some (Plain agreed None)) is =
      let r : IsRead policy past own held setup = is-read policy past v own held setup at has sound in
      let to : channel_of (headed (peer_at (Some held)) sdu) ≡ r.peer = le16-number (peer_at (Some held)) sdu fits ∙ ap (λ p. unwrap_or p 0) r.peer_is in
      elsewhere policy channel past v own held setup (headed (peer_at (Some held)) sdu) sound r to here ∙ sym (append-nil (sent_on channel past))

  none_free : (here : Bool) (sdu : List ℕ) → Step [] (cond (here && is_free None) (sdu ∷ []) [])
  none_free true sdu = silent
  none_free false sdu = silent

  sends_step : (own : ℕ) (sdu : List ℕ) → peer_at (held_at own v) < 65536 → Step (said_by_carrier (carrier_at own v) (peer_at (held_at own v)) sdu) (cond (eqb own channel.own && is_free (carrier_at own v)) (sdu ∷ []) [])
  sends_step own sdu fits = of (held_at own v) refl fits
    where
      here : Bool
      here = eqb own channel.own

      opens : (held : Held) (setup : Setup) (opened : Bool) → held_at own v ≡ Some held → setup_of held.stage ≡ Some setup → is_open setup ≡ opened → peer_at (Some held) < 65536
          → Step (said_by_carrier (carrier_if opened setup) (peer_at (Some held)) sdu) (cond (here && is_free (carrier_if opened setup)) (sdu ∷ []) [])
      opens held setup true at has opened fits = sends_by own held setup sdu here at has opened fits refl setup.carrier refl
      opens held setup false at has opened fits = none_free here sdu

      on : (held : Held) (setup : Option Setup) → held_at own v ≡ Some held → setup_of held.stage ≡ setup → peer_at (Some held) < 65536
          → Step (said_by_carrier (open_carrier setup) (peer_at (Some held)) sdu) (cond (here && is_free (open_carrier setup)) (sdu ∷ []) [])
      on held None at has fits = none_free here sdu
      on held (Some setup) at has fits = opens held setup (is_open setup) at has refl fits

      of : (held : Option Held) → held_at own v ≡ held → peer_at held < 65536 → Step (said_by_carrier (open_carrier (setup_on held)) (peer_at held) sdu) (cond (here && is_free (open_carrier (setup_on held))) (sdu ∷ []) [])
      of None at fits = none_free here sdu
      of (Some held) at fits = on held (setup_of held.stage) at refl fits

  -- a frame is none of it
  gives_step : (given : Option Given) (pdu : List ℕ) → next_given v ≡ given → IsSpelled given pdu → Step (said_as given pdu) []
  gives_step None pdu is spelled = silent
  gives_step (Some (Signal command)) pdu is spelled = silent
  gives_step (Some (Whole peer sdu)) pdu is spelled = silent
  gives_step (Some (Framed peer frame)) pdu is spelled = by g.carrier g.is g.gives_it
    where
      to : channel_of pdu ≡ peer
      to = (spelled-frame peer frame pdu spelled.0 spelled.1).1

      g : Gives_out peer (Framed peer frame) v
      g = queue-out v v.queue peer (Framed peer frame) sound.core.lone is refl

      some_same : (a b : ℕ) → Some a ≡ Some b → a ≡ b
      some_same a b same = cc

      by : (carrier : Carrier) → g.setup.carrier ≡ Some carrier → carrier_gives carrier peer ≡ Some (Framed peer frame) → Step (Carried Out pdu ∷ []) []
      by (Plain agreed None) carrier_is giving = cc
      by (Plain agreed (Some sdu)) carrier_is giving = cc
      by (Retransmitting machine) carrier_is giving = on (eqb g.held.own channel.own) refl
        where
          on : (here : Bool) → eqb g.held.own channel.own ≡ here → Step (Carried Out pdu ∷ []) []
          on true here =
              let mine : held_at channel.own v ≡ Some g.held = ap (λ n. held_at n v) (sym (eqb-true g.held.own channel.own here)) ∙ g.found in
              let never : Enhanced ≡ Basic = basic g.held g.setup (Retransmitting machine) mine g.has carrier_is in absurd cc
          on false away =
              let r : IsRead policy past g.held.own g.held g.setup = is-read policy past v g.held.own g.held g.setup g.found g.has sound in
              elsewhere policy channel past v g.held.own g.held g.setup pdu sound r (to ∙ some_same peer r.peer (sym g.to ∙ r.peer_is)) away ∙ sym (append-nil (sent_on channel past))

  occurs_step : (more : Occurrence) → IsUttered more v → Step (said_in policy more v) (taken_in channel.own more v)
  occurs_step (Comes pdu) uttered = by (eqb (channel_of pdu) 0x0001)
    where
      w : Channels
      w = takes (channel_of pdu) pdu v

      by : (signal : Bool) → Step (cond signal (said_with_all policy (answers (drop 4 pdu)) v) (Carried Into pdu ∷ asked_between v w)) []
      by true = bare (said_with_all policy (answers (drop 4 pdu)) v) (bare-with_all policy (answers (drop 4 pdu)) v)
      by false =
          ap (sent_on channel) (sym (append_assoc past (Carried Into pdu ∷ []) (asked_between v w)))
          ∙ (sent-bare channel (asked_between v w) (past ++ Carried Into pdu ∷ []) (bare-asked v w) ∙ (sent-heard channel past pdu ∙ sym (append-nil (sent_on channel past))))
  occurs_step (Connects psm) uttered = bare (asked_between v (connected psm v)) (bare-asked v (connected psm v))
  occurs_step AsksFeatures uttered = bare (asked_between v (asks_features v)) (bare-asked v (asks_features v))
  occurs_step (Disconnects own) uttered = bare (said_in policy (Disconnects own) v) (bare-left own v (disconnected own v))
  occurs_step (Sends own sdu) uttered = sends_step own sdu uttered
  occurs_step (Gives pdu) uttered = gives_step (next_given v) pdu refl uttered
  occurs_step Fires uttered = bare (said_in policy Fires v) (bare-fired policy.tries (map (λ (held : Held). held.own) v.held) v)
  occurs_step Tells uttered = silent

-- ---- a run

all_taken : (policy : Policy) (channel : Channel) (all past rest : List Occurrence) → all ≡ past ++ rest → ((front behind : List Occurrence) → all ≡ front ++ behind → IsBasic channel.own (run_of policy front).value)
    → EachAfter (λ front more. IsUttered more (run_of policy front).value) past rest → sent_on channel (run_of policy past).said ≡ taken_of policy channel.own past → sent_on channel (run_of policy all).said ≡ taken_of policy channel.own all
all_taken policy channel all past [] is basic uttered same = subst (λ list. sent_on channel (run_of policy list).said ≡ taken_of policy channel.own list) (sym (is ∙ append-nil past)) same
all_taken policy channel all past (more ∷ rest) is basic (now, uttered) same =
    all_taken policy channel all (past ++ more ∷ []) rest (is ∙ sym (append_assoc past (more ∷ []) rest)) basic uttered
    (ap (λ (r : Run). sent_on channel r.said) (fold-append (run_on policy) new_link past (more ∷ []))
    ∙ (occurs_step policy channel run.said run.value (all-sound policy past) (basic past (more ∷ rest) is) more now
    ∙ (ap (λ l. l ++ taken_in channel.own more run.value) same ∙ sym (given_by-more (λ front x. taken_in channel.own x (run_of policy front).value) past more))))
  where
    run : Run
    run = run_of policy past

-- ---- a channel of which its host wishes basic mode

-- what is held at its endpoint has its PSM
psm_at : (policy : Policy) (front behind : List Occurrence) (channel : Channel) (held : Held) (setup : Setup) → IsOf channel (read_at channel.own (reading (run_of policy (front ++ behind)).said).entries) → held_at channel.own (run_of policy front).value ≡ Some held → setup_of held.stage ≡ Some setup
    → held.psm ≡ channel.psm
psm_at policy front behind channel held setup has at is = sym (ap (λ (c : Channel). c.psm) reads.0.channel_is) ∙ ap (λ (c : Channel). c.psm) same
  where
    run : Run
    run = run_of policy front

    sound : Sound policy (reading run.said) run.value
    sound = all-sound policy front

    r : IsRead policy run.said channel.own held setup
    r = is-read policy run.said run.value channel.own held setup at is sound

    reads : ReadsBy policy held (Some r.peer) (Some r.entry)
    reads = subst (λ e. ReadsBy policy held (Some r.peer) e) r.found (subst (λ p. ReadsBy policy held p (read_at channel.own (reading run.said).entries)) r.peer_is (subst (λ h. Reads policy h (read_at channel.own (reading run.said).entries)) at (sound.core.reads channel.own)))

    same : r.entry.channel ≡ channel
    same = same_channel r.entry.channel channel (read_at channel.own (reading (run_of policy (front ++ behind)).said).entries) (endpoints-name_one policy front behind channel.own r.entry r.found) has

pub wished_basic : (policy : Policy) (all : List Occurrence) (channel : Channel) → IsOf channel (read_at channel.own (reading (run_of policy all).said).entries) → (policy.wish channel.psm).mode ≡ Basic → (front behind : List Occurrence) → all ≡ front ++ behind → IsBasic channel.own (run_of policy front).value
wished_basic policy all channel has mode front behind is held setup carrier at talks carrier_is =
    subst (CarrierIs (policy.wish held.psm)) carrier_is r.agrees.carrier_is
    ∙ (ap (λ psm. (policy.wish psm).mode) (psm_at policy front behind channel held setup (subst (λ l. IsOf channel (read_at channel.own (reading (run_of policy l).said).entries)) is has) at talks) ∙ mode)
  where
    r : IsRead policy (run_of policy front).said channel.own held setup
    r = is-read policy (run_of policy front).said (run_of policy front).value channel.own held setup at talks (all-sound policy front)

taken_sent : (policy : Policy) (list : List Occurrence) (channel : Channel) → AreUttered policy list → IsOf channel (read_at channel.own (reading (run_of policy list).said).entries) → (policy.wish channel.psm).mode ≡ Basic → sent_on channel (run_of policy list).said ≡ taken_of policy channel.own list
taken_sent policy list channel uttered has mode = all_taken policy channel list [] list refl (wished_basic policy list channel has mode) uttered refl

-- its talk has it so
pub basic_mode : (policy : Policy) (list : List Occurrence) (channel : Channel) → IsOf channel (read_at channel.own (reading (run_of policy list).said).entries) → (policy.wish channel.psm).mode ≡ Basic → mode_of channel (run_of policy list).said ≡ Basic
basic_mode policy list channel has mode = by (read_at channel.own (reading (run_of policy list).said).entries) refl has
  where
    by : (found : Option Entry) → read_at channel.own (reading (run_of policy list).said).entries ≡ found → IsOf channel found → entry_mode found ≡ Basic
    by None at of = elim of [ ]
    by (Some entry) at of = on (entry_mode (Some entry)) refl
      where
        on : (m : Mode) → entry_mode (Some entry) ≡ m → m ≡ Basic
        on Basic is = refl
        on Enhanced is =
            let wish : (policy.wish entry.channel.psm).mode ≡ Enhanced = modes-are_own policy list channel.own entry Enhanced at (enhanced-accepted entry.setup is) in
            let never : Enhanced ≡ Basic = sym wish ∙ (ap (λ (c : Channel). (policy.wish c.psm).mode) of ∙ mode) in absurd cc

pub plain-goes_out : PlainTakenGoesOut
plain-goes_out policy party list channel uttered has mode = sent_are party channel (run_of policy list).said (basic_mode policy list channel has mode) ∙ taken_sent policy list channel uttered has mode

-- ---- two hosts

sent_run : (policy : Policy) (run : Run) (list : List Occurrence) (channel : Channel) → IsRunBy policy run list → IsOf channel (read_at channel.own (reading run.said).entries) → (policy.wish channel.psm).mode ≡ Basic → sent_on channel run.said ≡ taken_of policy channel.own list
sent_run policy run list channel runs has mode =
    ap (λ (r : Run). sent_on channel r.said) runs.run_is ∙ taken_sent policy list channel runs.uttered (subst (λ (r : Run). IsOf channel (read_at channel.own (reading r.said).entries)) runs.run_is has) mode

pub plain-is_delivered : PlainTakenIsDelivered
plain-is_delivered near far turns channel one other fair read passes have near_mode far_mode near_by far_by = (
  λ ordered.
      subst (IsFront (sdus_up channel.own pair.near.run.up)) (sent_run far pair.far.run other (mirrored channel) far_by have.far_has far_mode) (front-all near far turns channel fair read passes have (inl near_mode) Near ordered),
  λ ordered.
      subst (IsFront (sdus_up channel.peer pair.far.run.up)) (sent_run near pair.near.run one channel near_by have.near_has near_mode) (front-all near far turns channel fair read passes have (inl near_mode) Far ordered),
)
  where
    pair : Pair
    pair = pair_of near far turns
