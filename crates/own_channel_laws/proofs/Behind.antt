-- A host sends on a channel only behind its peer's acceptance.
use Rattle.std.proofs.Common.{◌≡◌, ℕ, ◌<◌, List, [], ◌∷◌, ◌++◌, map, drop, Bool, true, false, cond, eqb, Option, Some, None, refl, sym, ap, subst, ◌∙◌, append_assoc, append-nil}
use Rattle.std.specs.Prelude.{find, option_map, is_some, unwrap_or}
use Rattle.std.specs.List.{list_any}
use Rattle.talk_laws.specs.bt_base.proofs.OctetLemmas.{le16-number}
use Rattle.talk_laws.specs.acl_fragments.specs.Pieces.{channel_of}
use Rattle.talk_laws.specs.capture.specs.declared.flow.Flow.TheVariants.{Out, Into}
use Rattle.talk_laws.specs.capture.specs.Histories.{EachAfter}
use Rattle.talk_laws.specs.l2cap_signal.specs.Commands.{Command}
use Rattle.talk_laws.specs.l2cap_signal.specs.Reading.{answers}
use Rattle.talk_laws.specs.ertm_frames.specs.Frames.{PlainFrame}
use Rattle.talk_laws.specs.ertm_frames.specs.Picking.{Passage}
use Rattle.channel_model.specs.ertm_model.specs.Giving.{next_frame}
use Rattle.talk_laws.specs.link_talk.specs.declared.channel.Channel.{Channel}
use Rattle.talk_laws.specs.link_talk.specs.declared.party.Party.{Party}
use Rattle.talk_laws.specs.link_talk.specs.Sayings.{Saying, Carried}
use Rattle.talk_laws.specs.link_talk.specs.Channels.{reading}
use Rattle.channel_model.specs.Value.{Queued, Answer, Ask, Own, Unasked, Asking, Granted, Carrier, Plain, Retransmitting, Setup, Held, Channels}
use Rattle.channel_model.specs.Policies.{Policy}
use Rattle.channel_model.specs.Changing.{held_at, is_granted, is_open, setup_of}
use Rattle.channel_model.specs.Carrying.{takes}
use Rattle.channel_model.specs.Giving.{Signal, Framed, command_of, headed, gives, stage_gives, some_carrier_gives, held_gives, queue_gives}
use Rattle.channel_model.specs.Calls.{setup_on, own_waits, open_carrier, carrier_if, connected, asks_features, disconnected}
use Rattle.channel_model.proofs.Lookups.{own_of, found-distinct}
use Rattle.own_channel_laws.specs.OwnTalk.{asked_between, said_with_all}
use Rattle.own_channel_laws.specs.Runs.{Occurrence, Comes, Connects, AsksFeatures, Disconnects, Sends, Gives, Fires, Tells, given_up, said_by_channels, said_by_carrier, said_as, said_in, peer_at, Run, run_of}
use Rattle.own_channel_laws.specs.Sdus.{StatesFrame}
use Rattle.own_channel_laws.specs.Frames.{IsSpelled, IsUttered, AreUttered}
use Rattle.own_channel_laws.specs.Acceptance.{IsAccepted, SendsBehindAcceptance}
use Rattle.own_channel_laws.specs.Views.{read_at}
use Rattle.own_channel_laws.proofs.Both.{and-right}
use Rattle.own_channel_laws.proofs.Entries.{read-own}
use Rattle.own_channel_laws.proofs.Sound.{Sound}
use Rattle.own_channel_laws.proofs.Keeping.{HeldKeeps}
use Rattle.own_channel_laws.proofs.Signalling.{is_carried, IsBare, bare-asked, bare-left, bare-with_all, bare-fired}
use Rattle.own_channel_laws.proofs.Options.{options-are_awaited}
use Rattle.own_channel_laws.proofs.Passing.{CarrierPasses, Passed, passing-gives}
use Rattle.own_channel_laws.proofs.Passages.{spelled-frame}
use Rattle.own_channel_laws.proofs.Holding.{frames_on, kept-setup, IsRead, is-read, set-is}
use Rattle.own_channel_laws.proofs.Outgoing.{open-stated, gives-none, gives-by}
use Rattle.own_channel_laws.proofs.Running.{all-sound}
use Rattle.own_channel_laws.proofs.Frames.{RunPasses, run-passes}

-- ---- an open channel

granted_waits : (own : Own) → is_granted own ≡ true → own_waits own ≡ false
granted_waits Unasked is = cc
granted_waits (Asking request options) is = cc
granted_waits Granted is = refl

accepted : (policy : Policy) (party : Party) (list : List Occurrence) (own : ℕ) (held : Held) (setup : Setup) (carrier : Carrier) → StatesFrame policy party → Sound policy (reading (run_of policy list).said) (run_of policy list).value
    → held_at own (run_of policy list).value ≡ Some held → (r : IsRead policy (run_of policy list).said own held setup) → setup_of held.stage ≡ Some setup → setup.carrier ≡ Some carrier → is_open setup ≡ true → IsAccepted party (run_of policy list).said r.peer
accepted policy party list own held setup carrier states sound at r has is opened =
    let own_is : r.entry.channel.own ≡ own = read-own own (reading (run_of policy list).said).entries r.entry r.found in
    record {
      entry = r.entry;
      read = ap (λ n. read_at n (reading (run_of policy list).said).entries) own_is ∙ r.found;
      peer_is = r.here;
      there = r.there;
      set = set-is policy (run_of policy list).said own held setup r carrier is (open-stated setup opened);
      answered =
          options-are_awaited policy party list r.entry.channel setup states (ap (λ n. setup_on (held_at n (run_of policy list).value)) own_is ∙ (ap setup_on at ∙ has))
          ∙ granted_waits setup.own (and-right (is_some setup.carrier) (is_granted setup.own) opened);
    }

-- ---- an SDU

sent_at : (policy : Policy) (party : Party) (list : List Occurrence) (own : ℕ) (held : Held) (setup : Option Setup) (sdu pdu : List ℕ) → StatesFrame policy party → Sound policy (reading (run_of policy list).said) (run_of policy list).value
    → held_at own (run_of policy list).value ≡ Some held → setup_of held.stage ≡ setup → peer_at (Some held) < 65536 → said_by_carrier (open_carrier setup) (peer_at (Some held)) sdu ≡ Carried Out pdu ∷ [] → IsAccepted party (run_of policy list).said (channel_of pdu)
sent_at policy party list own held None sdu pdu states sound at has fits said = cc
sent_at policy party list own held (Some setup) sdu pdu states sound at has fits said = by (is_open setup) refl said
  where
    run : Run
    run = run_of policy list

    r : IsRead policy run.said own held setup
    r = is-read policy run.said run.value own held setup at has sound

    on : (carrier : Option Carrier) → setup.carrier ≡ carrier → is_open setup ≡ true → said_by_carrier carrier (peer_at (Some held)) sdu ≡ Carried Out pdu ∷ [] → IsAccepted party run.said (channel_of pdu)
    on None is opened said = cc
    on (Some (Retransmitting machine)) is opened said = cc
    on (Some (Plain agreed (Some waiting))) is opened said = cc
    on (Some (Plain agreed None)) is opened said =
        let same : headed (peer_at (Some held)) sdu ≡ pdu = cc in
        let to : channel_of pdu ≡ r.peer = ap channel_of (sym same) ∙ (le16-number (peer_at (Some held)) sdu fits ∙ ap (λ p. unwrap_or p 0) r.peer_is) in
        subst (IsAccepted party run.said) (sym to) (accepted policy party list own held setup (Plain agreed None) states sound at r has is opened)

    by : (opened : Bool) → is_open setup ≡ opened → said_by_carrier (carrier_if opened setup) (peer_at (Some held)) sdu ≡ Carried Out pdu ∷ [] → IsAccepted party run.said (channel_of pdu)
    by true opened said = on setup.carrier refl opened said
    by false opened said = cc

sent_of : (policy : Policy) (party : Party) (list : List Occurrence) (own : ℕ) (held : Option Held) (sdu pdu : List ℕ) → StatesFrame policy party → Sound policy (reading (run_of policy list).said) (run_of policy list).value
    → held_at own (run_of policy list).value ≡ held → peer_at held < 65536 → said_by_carrier (open_carrier (setup_on held)) (peer_at held) sdu ≡ Carried Out pdu ∷ [] → IsAccepted party (run_of policy list).said (channel_of pdu)
sent_of policy party list own None sdu pdu states sound at fits said = cc
sent_of policy party list own (Some held) sdu pdu states sound at fits said = sent_at policy party list own held (setup_of held.stage) sdu pdu states sound at refl fits said

-- ---- a frame

-- whatever its peer's endpoint is
abbrev channel_named : Held → Channel
channel_named held = record { psm = held.psm; own = held.own; peer = 0 }

given_by : (policy : Policy) (party : Party) (list : List Occurrence) (held : Held) (setup : Setup) (carrier : Option Carrier) (pdu octets : List ℕ) → StatesFrame policy party → AreUttered policy list → RunPasses policy party (channel_named held) (run_of policy list)
    → held_at held.own (run_of policy list).value ≡ Some held → (r : IsRead policy (run_of policy list).said held.own held setup) → setup_of held.stage ≡ Some setup → setup.carrier ≡ carrier → IsSpelled (some_carrier_gives carrier r.peer) octets
    → said_as (some_carrier_gives carrier r.peer) octets ≡ Carried Out pdu ∷ [] → IsAccepted party (run_of policy list).said (channel_of pdu)
given_by policy party list held setup None pdu octets states uttered passes at r has is spelled said = cc
given_by policy party list held setup (Some (Plain agreed None)) pdu octets states uttered passes at r has is spelled said = cc
given_by policy party list held setup (Some (Plain agreed (Some waiting))) pdu octets states uttered passes at r has is spelled said = cc
given_by policy party list held setup (Some (Retransmitting machine)) pdu octets states uttered (sound, all) at r has is spelled said = by (next_frame machine) refl spelled said
  where
    run : Run
    run = run_of policy list

    frames : List Passage
    frames = frames_on party (channel_named held) run.said held.own

    by : (frame : Option PlainFrame) → next_frame machine ≡ frame → IsSpelled (option_map (Framed r.peer) frame) octets → said_as (option_map (Framed r.peer) frame) octets ≡ Carried Out pdu ∷ [] → IsAccepted party run.said (channel_of pdu)
    by None next spelled said = cc
    by (Some frame) next (spells, are_octets) said =
        let same : octets ≡ pdu = cc in
        let (frame_is, to) = spelled-frame r.peer frame octets spells are_octets in
        let passes : CarrierPasses party.frame frames (policy.wish held.psm) (is_open setup) (Some (Retransmitting machine)) =
        subst (CarrierPasses party.frame frames (policy.wish held.psm) (is_open setup)) is (kept-setup party.frame frames (policy.wish held.psm) held.stage setup has (subst (HeldKeeps policy (Passed party.frame frames)) at (all.at held.own))) in
        subst (IsAccepted party run.said) (sym (ap channel_of (sym same) ∙ to)) (accepted policy party list held.own held setup (Retransmitting machine) states sound at r has is (passing-gives party.frame frames (is_open setup) machine frame next passes).0)

given_at : (policy : Policy) (party : Party) (list : List Occurrence) (held : Held) (setup : Option Setup) (pdu octets : List ℕ) → StatesFrame policy party → AreUttered policy list → RunPasses policy party (channel_named held) (run_of policy list)
    → held_at held.own (run_of policy list).value ≡ Some held → setup_of held.stage ≡ setup → IsSpelled (stage_gives held.stage) octets → said_as (stage_gives held.stage) octets ≡ Carried Out pdu ∷ [] → IsAccepted party (run_of policy list).said (channel_of pdu)
given_at policy party list held None pdu octets states uttered passes at has spelled said =
    let none : [] ≡ Carried Out pdu ∷ [] = sym (ap (λ g. said_as g octets) (gives-none held.stage has)) ∙ said in absurd cc
given_at policy party list held (Some setup) pdu octets states uttered passes at has spelled said =
    let r : IsRead policy (run_of policy list).said held.own held setup = is-read policy (run_of policy list).said (run_of policy list).value held.own held setup at has passes.0 in
    let same : stage_gives held.stage ≡ some_carrier_gives setup.carrier r.peer = gives-by held.stage setup r.peer has r.peer_is in
    given_by policy party list held setup setup.carrier pdu octets states uttered passes at r has refl (subst (λ g. IsSpelled g octets) same spelled) (sym (ap (λ g. said_as g octets) same) ∙ said)

given_on : (policy : Policy) (party : Party) (list : List Occurrence) (held : Option Held) (pdu octets : List ℕ) → StatesFrame policy party → AreUttered policy list → find gives (run_of policy list).value.held ≡ held → IsSpelled (held_gives held) octets
    → said_as (held_gives held) octets ≡ Carried Out pdu ∷ [] → IsAccepted party (run_of policy list).said (channel_of pdu)
given_on policy party list None pdu octets states uttered found spelled said = cc
given_on policy party list (Some held) pdu octets states uttered found spelled said =
    let passes : RunPasses policy party (channel_named held) (run_of policy list) = run-passes policy party (channel_named held) list states uttered in
    given_at policy party list held (setup_of held.stage) pdu octets states uttered passes (found-distinct own_of gives (run_of policy list).value.held held passes.0.core.lone found) refl spelled said

given_from : (policy : Policy) (party : Party) (list : List Occurrence) (queue : List Queued) (pdu octets : List ℕ) → StatesFrame policy party → AreUttered policy list → IsSpelled (queue_gives queue (run_of policy list).value) octets
    → said_as (queue_gives queue (run_of policy list).value) octets ≡ Carried Out pdu ∷ [] → IsAccepted party (run_of policy list).said (channel_of pdu)
given_from policy party list [] pdu octets states uttered spelled said = given_on policy party list (find gives (run_of policy list).value.held) pdu octets states uttered refl spelled said
given_from policy party list (Answer command ∷ behind) pdu octets states uttered spelled said = cc
given_from policy party list (Ask errand ∷ behind) pdu octets states uttered spelled said = by (command_of errand (run_of policy list).value) said
  where
    by : (command : Option Command) → said_as (option_map Signal command) octets ≡ Carried Out pdu ∷ [] → IsAccepted party (run_of policy list).said (channel_of pdu)
    by None said = cc
    by (Some command) said = cc

-- ---- whatever happens

bare_never : (said : List Saying) (pdu : List ℕ) → IsBare said → said ≡ Carried Out pdu ∷ [] → ⊥
bare_never said pdu bare is = let never : true ≡ false = sym (ap (list_any is_carried) is) ∙ bare in cc

comes_never : (policy : Policy) (v : Channels) (octets pdu : List ℕ) (signals : Bool) → cond signals (said_with_all policy (answers (drop 4 octets)) v) (Carried Into octets ∷ asked_between v (takes (channel_of octets) octets v)) ≡ Carried Out pdu ∷ [] → ⊥
comes_never policy v octets pdu true is = bare_never (said_with_all policy (answers (drop 4 octets)) v) pdu (bare-with_all policy (answers (drop 4 octets)) v) is
comes_never policy v octets pdu false is = cc

-- the last of what was uttered
last_uttered : (policy : Policy) (past list : List Occurrence) (more : Occurrence) → EachAfter (λ front one. IsUttered one (run_of policy front).value) past (list ++ more ∷ [])
    → EachAfter (λ front one. IsUttered one (run_of policy front).value) past list × IsUttered more (run_of policy (past ++ list)).value
last_uttered policy past [] more (now, none) = (tt, subst (λ front. IsUttered more (run_of policy front).value) (sym (append-nil past)) now)
last_uttered policy past (one ∷ list) more (now, later) =
    let (rest, last) = last_uttered policy (past ++ one ∷ []) list more later in ((now, rest), subst (λ front. IsUttered more (run_of policy front).value) (append_assoc past (one ∷ []) list) last)

accepted_by : (policy : Policy) (party : Party) (list : List Occurrence) (more : Occurrence) (pdu : List ℕ) → StatesFrame policy party → AreUttered policy list → IsUttered more (run_of policy list).value → said_in policy more (run_of policy list).value ≡ Carried Out pdu ∷ []
    → IsAccepted party (run_of policy list).said (channel_of pdu)
accepted_by policy party list (Comes octets) pdu states uttered now said = absurd (comes_never policy (run_of policy list).value octets pdu (eqb (channel_of octets) 0x0001) said)
accepted_by policy party list (Connects psm) pdu states uttered now said = let v : Channels = (run_of policy list).value in absurd (bare_never (asked_between v (connected psm v)) pdu (bare-asked v (connected psm v)) said)
accepted_by policy party list AsksFeatures pdu states uttered now said = let v : Channels = (run_of policy list).value in absurd (bare_never (asked_between v (asks_features v)) pdu (bare-asked v (asks_features v)) said)
accepted_by policy party list (Disconnects own) pdu states uttered now said =
    let v : Channels = (run_of policy list).value in
    let w : Channels = disconnected own v in
    absurd (bare_never (asked_between v w ++ given_up own v w) pdu (bare-left own v w) said)
accepted_by policy party list (Sends own sdu) pdu states uttered now said =
    sent_of policy party list own (held_at own (run_of policy list).value) sdu pdu states (all-sound policy list) refl now said
accepted_by policy party list (Gives octets) pdu states uttered now said = given_from policy party list (run_of policy list).value.queue pdu octets states uttered now said
accepted_by policy party list Fires pdu states uttered now said =
    let v : Channels = (run_of policy list).value in
    let owns : List ℕ = map (λ held. held.own) v.held in absurd (bare_never (said_by_channels policy.tries owns v) pdu (bare-fired policy.tries owns v) said)
accepted_by policy party list Tells pdu states uttered now said = cc

pub sends-behind_acceptance : SendsBehindAcceptance
sends-behind_acceptance policy party list more pdu states uttered said =
    let (before, now) = last_uttered policy [] list more uttered in accepted_by policy party list more pdu states before now said
