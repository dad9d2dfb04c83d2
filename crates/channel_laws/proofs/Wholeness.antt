-- All SDUs that come on the channels of two hosts are handed up, also where a machine closes.
use Rattle.std.proofs.Common.{◌≡◌, ℕ, List, [], ◌∷◌, ◌++◌, length, drop, fold, Bool, true, false, cond, eqb, ◌&&◌, Option, Some, None, Ok, Err, refl, sym, ap, subst, ◌∙◌, ◌⊎◌, inl, inr, append_assoc, append-nil}
use Rattle.std.specs.Prelude.{nat_lt}
use Rattle.std.proofs.lemmas.List.Sums.{fold-append}
use Rattle.own_channel_laws.specs.talk_laws.specs.acl_fragments.specs.Pieces.{channel_of}
use Rattle.own_channel_laws.specs.talk_laws.specs.capture.specs.Histories.{EachAfter}
use Rattle.own_channel_laws.specs.talk_laws.specs.capture.proofs.HistoryLaws.{each_after-more}
use Rattle.own_channel_laws.specs.talk_laws.specs.l2cap_config.specs.declared.wish.Agreed.{Agreed}
use Rattle.own_channel_laws.specs.talk_laws.specs.l2cap_config.specs.declared.wish.Mode.TheVariants.{Enhanced}
use Rattle.own_channel_laws.specs.talk_laws.specs.ertm_frames.specs.Frames.{PlainFrame, information, supervisory}
use Rattle.own_channel_laws.specs.talk_laws.specs.ertm_frames.specs.Segments.{Segment}
use Rattle.own_channel_laws.specs.talk_laws.specs.ertm_frames.specs.Joining.{Joint, Misplaced, Begins, Ends, joint}
use Rattle.own_channel_laws.specs.talk_laws.specs.ertm_frames.specs.Reading.{answer_in}
use Rattle.own_channel_laws.specs.talk_laws.specs.ertm_frames.specs.declared.refusal.FrameRefusal.TheVariants.{Short, BadFcs}
use Rattle.own_channel_laws.specs.channel_model.specs.ertm_model.specs.declared.reason.ErtmReason.{ErtmReason}
use Rattle.own_channel_laws.specs.channel_model.specs.ertm_model.specs.declared.reason.ErtmReason.TheVariants.{BadReqSeq, RetryLimit, TooLongSdu}
use Rattle.own_channel_laws.specs.channel_model.specs.ertm_model.specs.Value.{Ertm, Poll, NoPoll, Due, Waits, Receiver}
use Rattle.own_channel_laws.specs.channel_model.specs.ertm_model.specs.Hearing.{Place, Expected, Ahead, Other, stated, joint_fault, place_fault, place_in, segment_of, acknowledged, asks_again, is_spent, receiver_fault, or_else, fault, heard_by, open_heard, heard}
use Rattle.own_channel_laws.specs.channel_model.specs.ertm_model.specs.Pair.{Sent, hearing}
use Rattle.own_channel_laws.specs.channel_model.specs.ertm_model.specs.Order.{OnlyRetries}
use Rattle.own_channel_laws.specs.channel_model.specs.ertm_model.proofs.Hearing.{hearing-stands}
use Rattle.own_channel_laws.specs.channel_model.specs.ertm_model.proofs.Ordering.{front-flies}
use Rattle.own_channel_laws.specs.channel_model.specs.ertm_model.proofs.Standing.{swapped}
use Rattle.own_channel_laws.specs.talk_laws.specs.link_talk.specs.declared.channel.Channel.{Channel}
use Rattle.own_channel_laws.specs.talk_laws.specs.link_talk.specs.declared.party.Party.{Party}
use Rattle.own_channel_laws.specs.talk_laws.specs.link_talk.specs.Channels.{reading}
use Rattle.own_channel_laws.specs.talk_laws.specs.link_talk.specs.Sdus.{sdus}
use Rattle.own_channel_laws.specs.talk_laws.specs.capture.specs.declared.flow.Flow.TheVariants.{Into}
use Rattle.own_channel_laws.specs.channel_model.proofs.Lookups.{eqb-same}
use Rattle.own_channel_laws.specs.channel_model.specs.Value.{Carrier, Retransmitting, Setup, Held, Channels}
use Rattle.own_channel_laws.specs.channel_model.specs.Policies.{Policy}
use Rattle.own_channel_laws.specs.channel_model.specs.Changing.{held_at, is_open, setup_of}
use Rattle.own_channel_laws.specs.channel_model.specs.Calls.{carrier_at, has_fcs}
use Rattle.own_channel_laws.specs.channel_model.specs.Carrying.{machine_heard, read_by}
use Rattle.own_channel_laws.specs.channel_model.specs.Giving.{Given, next_given}
use Rattle.own_channel_laws.specs.Runs.{Occurrence, Comes, Connects, AsksFeatures, Disconnects, Sends, Gives, Fires, Tells, Run, new_link, run_on, run_of, sdus_up}
use Rattle.own_channel_laws.specs.Views.{read_at}
use Rattle.own_channel_laws.specs.Endpoints.{IsOf}
use Rattle.own_channel_laws.specs.Agreements.{IsOnHeard}
use Rattle.channel_laws.specs.Pairs.{End, Pair, Happening, Acts, Puts, Takes, Repeats, Loses, Damages, is_alone, occurs, puts, let_go, takes_first, repeats_first, loses_first, damages_first, happens_near, with_near, new_pair, Side, Near, Far, turned, Turn, happens_at, pair_after, pair_of, IsRunOf}
use Rattle.channel_laws.specs.Ends.{DoesSo, AreFair, end_at}
use Rattle.own_channel_laws.specs.Frames.{IsUttered}
use Rattle.channel_laws.specs.Belonging.{IsRead as IsReadAt, AreRead, said_at}
use Rattle.channel_laws.specs.Common.{mirrored}
use Rattle.channel_laws.specs.Modes.{policy_of}
use Rattle.channel_laws.specs.Pipes.{IsSeen, IsCarried, AreCarried, HaveChannel, CanState, CanStateBoth}
use Rattle.own_channel_laws.specs.Sdus.{StatesFrame}
use Rattle.channel_laws.specs.Whole.{BringsNone, ClosesOnNone, ChannelsAreWhole}
use Rattle.own_channel_laws.proofs.Keeping.{HeldKeeps}
use Rattle.channel_laws.proofs.Pairing.{each-end_runs, end-policy}
use Rattle.channel_laws.proofs.Sharing.{channels-are_common, run-grows}
use Rattle.own_channel_laws.proofs.Agreements.{IsRead, accepted-heard}
use Rattle.channel_laws.proofs.Binding.{IsBy, Binds, bound-later}
use Rattle.channel_laws.proofs.Bonds.{runs-at, value_at, heard-within, Bond, bond-of}
use Rattle.channel_laws.proofs.Partaking.{kept-on, frame-within, settle}
use Rattle.channel_laws.proofs.Piping.{heard-machine}
use Rattle.channel_laws.proofs.Joining.{EndsNoWait, AreSpelled, Seen, Terms, other_terms, Joins, Holds, IsEnd}
use Rattle.channel_laws.proofs.Piped.{under_way, Piped}
use Rattle.channel_laws.proofs.Flowing.{turned-piped, terms_of, piped-by}
use Rattle.channel_laws.proofs.HandingUp.{none-handed, one-handed}

-- ---- a machine closes for want of tries

asks_none : (poll : Poll) (tx req sar total : ℕ) (final : Bool) (octets : List ℕ) → final ≡ false → asks_again poll (information tx final req sar total octets) ≡ false
asks_none NoPoll tx req sar total final octets is = refl
asks_none Due tx req sar total final octets is = is
asks_none Waits tx req sar total final octets is = is

joint_other : (found : Joint) (mtu : ℕ) (segment : Segment) → joint_fault found mtu segment ≡ Some RetryLimit → ⊥
joint_other Misplaced mtu segment is = cc
joint_other (Begins begun) mtu segment is = by (nat_lt mtu (stated segment)) is
  where
    by : (long : Bool) → cond long (Some TooLongSdu) None ≡ Some RetryLimit → ⊥
    by true is = cc
    by false is = cc
joint_other (Ends sdu) mtu segment is = by (nat_lt mtu (stated segment)) is
  where
    by : (long : Bool) → cond long (Some TooLongSdu) None ≡ Some RetryLimit → ⊥
    by true is = cc
    by false is = cc

place_other : (place : Place) (mtu : ℕ) (segment : Segment) (r : Receiver) → place_fault place mtu segment r ≡ Some RetryLimit → ⊥
place_other Expected mtu segment r is = joint_other (joint r.begun segment) mtu segment is
place_other Ahead mtu segment r is = cc
place_other Other mtu segment r is = cc

fault_other : (bad again spent : Bool) (other : Option ErtmReason) → again ≡ false → (other ≡ Some RetryLimit → ⊥) → or_else (cond bad (Some BadReqSeq) (cond (again && spent) (Some RetryLimit) None)) other ≡ Some RetryLimit → ⊥
fault_other true again spent other none never is = cc
fault_other false true spent other none never is = cc
fault_other false false spent other none never is = never is

-- no I-frame that ends no wait is the cause
no_retry : (tx req sar total : ℕ) (final : Bool) (octets : List ℕ) (m : Ertm) → final ≡ false → fault (information tx final req sar total octets) m ≡ Some RetryLimit → ⊥
no_retry tx req sar total final octets m none is =
    let i : PlainFrame = information tx final req sar total octets in
    fault_other (nat_lt (length m.sender.unacked) (acknowledged i m.sender)) (asks_again m.sender.poll i) (is_spent m.agreed.tries (drop (acknowledged i m.sender) m.sender.unacked)) (receiver_fault i m)
    (asks_none m.sender.poll tx req sar total final octets none) (place_other (place_in m tx) m.agreed.receive_mtu (segment_of sar total octets) m.receiver) is

fault_of : (cause : Option ErtmReason) (frame : PlainFrame) (m : Ertm) (reason : ErtmReason) → m.closed ≡ None → (heard_by cause frame m).closed ≡ Some reason → cause ≡ Some reason
fault_of None frame m reason open' shut = let never : None ≡ Some reason = sym open' ∙ shut in absurd cc
fault_of (Some cause) frame m reason open' shut = shut

-- so a frame at which a machine closes for want of tries is an S-frame
brings_none : (frame : PlainFrame) (m : Ertm) (reason : ErtmReason) → EndsNoWait frame → m.closed ≡ None → OnlyRetries (heard frame m).closed → (heard frame m).closed ≡ Some reason → BringsNone (Ok frame)
brings_none (supervisory kind poll final req) m reason ends open' only shut = tt
brings_none (information tx final req sar total octets) m reason ends open' (inl none) shut = let never : None ≡ Some reason = sym none ∙ shut in absurd cc
brings_none (information tx final req sar total octets) m reason ends open' (inr retries) shut =
    let i : PlainFrame = information tx final req sar total octets in
    absurd (no_retry tx req sar total final octets m ends (fault_of (fault i m) i m RetryLimit open' (sym (ap (λ c. (open_heard c i m).closed) open') ∙ retries)))

-- ---- two ends

-- the first PDU that is under way to the near one
first_silent : (t : Terms) (d : Seen) (p : _) (pdu : List ℕ) (rest : List (List ℕ)) (reason : ErtmReason) → d.to_near ≡ pdu ∷ rest → Joins t d p → p.a.machine.closed ≡ None → (machine_heard (answer_in t.mine.receive_mps pdu) p.a.machine).closed ≡ Some reason
    → BringsNone (answer_in t.mine.receive_mps pdu)
first_silent t d p pdu rest reason is joins open' shut = by p.b.queue refl (subst (λ pdus. AreSpelled pdus p.b.queue) is joins.far_flies)
  where
    by : (queue : List Sent) → p.b.queue ≡ queue → AreSpelled (pdu ∷ rest) queue → BringsNone (answer_in t.mine.receive_mps pdu)
    by [] none spelled = elim spelled [ ]
    by (sent ∷ queue) first ((ends, read), spelled) =
        let answer : answer_in t.mine.receive_mps pdu ≡ Ok sent.frame =
        read t.mine.receive_mps (frame-within t.mine.receive_mps _ _ _ sent.number p.b.put sent.frame joins.far_tells.short (front-flies p.b p.a sent queue (swapped joins.stands) first)) in
        let only : OnlyRetries (hearing sent.frame p.a).machine.closed = (swapped (hearing-stands p.b p.a sent queue first (swapped joins.stands))).only_x in
        subst BringsNone (sym answer)
        (brings_none sent.frame p.a.machine reason ends open' (subst (λ (m : Ertm). OnlyRetries m.closed) (heard-machine sent.frame p.a) only) (sym (ap (λ a. (machine_heard a p.a.machine).closed) answer) ∙ shut))

piped_silent : (party : Party) (t : Terms) (channel : Channel) (pair : Pair) (pdu : List ℕ) (coming : List (List ℕ)) (held : Held) (setup : Setup) (machine : Ertm) (reason : ErtmReason) → Piped party t channel pair → pair.near.coming ≡ pdu ∷ coming → eqb (channel_of pdu) channel.own ≡ true
    → held_at channel.own pair.near.run.value ≡ Some held → setup_of held.stage ≡ Some setup → setup.carrier ≡ Some (Retransmitting machine) → machine.agreed ≡ t.mine → (machine_heard (read_by machine pdu) machine).closed ≡ Some reason → BringsNone (read_by machine pdu)
piped_silent party t channel pair pdu coming held setup machine reason h is here at has carrier alike shut =
    let (up, holds) = kept-on (IsEnd t.mine (sdus_up channel.own pair.near.run.up) h.pair.a) (pair.near.policy.wish held.psm) held.stage setup has (subst (HeldKeeps pair.near.policy (IsEnd t.mine (sdus_up channel.own pair.near.run.up) h.pair.a)) at h.near_at.held) in
    let (same, open') = settle t.mine h.pair.a (is_open setup) machine alike (subst (Holds t.mine h.pair.a (is_open setup)) carrier holds) in
    let found : read_by machine pdu ≡ answer_in t.mine.receive_mps pdu = ap (λ (a : Agreed). answer_in a.receive_mps pdu) alike in
    subst BringsNone (sym found)
    (first_silent t _ h.pair pdu (under_way channel.own coming) reason (ap (under_way channel.own) is ∙ ap (λ b. cond b (pdu ∷ under_way channel.own coming) (under_way channel.own coming)) here) h.joins
    (sym (ap (λ (m : Ertm). m.closed) same) ∙ open')
    (sym (ap (λ a. (machine_heard a h.pair.a.machine).closed) found) ∙ (sym (ap (λ m. (machine_heard (read_by machine pdu) m).closed) same) ∙ shut)))

-- ---- by what an end has a channel at a moment

-- at all moments before it has it so, too
bond_now : (near far : Policy) (turns : List Turn) → AreRead near far turns → (side : Side) (channel : Channel) (held : Held) (setup : Setup) (machine : Ertm) → held_at channel.own (value_at near far side turns) ≡ Some held → setup_of held.stage ≡ Some setup
    → setup.carrier ≡ Some (Retransmitting machine) → IsOf channel (read_at channel.own (reading (said_at side (pair_of near far turns))).entries) → CanState ((policy_of side near far).wish channel.psm) → CanState ((policy_of side far near).wish channel.psm)
    → ((policy_of side near far).wish channel.psm).mode ≡ Enhanced → IsOnHeard (policy_of side near far) channel.psm channel.own (said_at side (pair_of near far turns)) machine.agreed
    → (bond : Bond near far turns side channel.psm channel.own) × (machine.agreed ≡ bond.agreed)
bond_now near far turns read side channel held setup machine at has carrier is_of can theirs_can mode heard = (
  record { agreed = machine.agreed; within = heard-within near far turns read side channel is_of can theirs_can machine.agreed mode heard; all = all },
  refl,
)
  where
    policy : Policy
    policy = policy_of side near far

    all : (first last : List Turn) → turns ≡ first ++ last → (again : Ertm) → carrier_at channel.own (value_at near far side first) ≡ Some (Retransmitting again) → again.agreed ≡ machine.agreed
    all first last split again carries =
        let (list, runs) = runs-at near far first side in
        let (later, grows) = run-grows near far side first last in
        let now : (end_at side (pair_of near far turns)).run ≡ run_of policy (list ++ later) =
        ap (λ l. (end_at side (pair_of near far l)).run) split ∙ (grows ∙ (ap (λ run. fold (run_on policy) run later) runs ∙ sym (fold-append (run_on policy) new_link list later))) in
        let bound = bound-later policy list later channel.own again (subst (λ (run : Run). carrier_at channel.own run.value ≡ Some (Retransmitting again)) runs carries) in
        let here : held_at channel.own (run_of policy (list ++ later)).value ≡ Some held = sym (ap (λ (run : Run). held_at channel.own run.value) now) ∙ at in
        let (opened, same) = subst (λ (c : Option Carrier). IsBy again.agreed (is_open setup) c) carrier
        (kept-on (Binds again.agreed channel.own channel.own) (policy.wish held.psm) held.stage setup has (subst (HeldKeeps policy (Binds again.agreed channel.own channel.own)) here (bound.at channel.own)) refl) in
        sym same

-- ---- a moment

-- what comes in at an end
abbrev IsComing : Side → Pair → List ℕ → Type 0
IsComing side pair pdu = (coming : List (List ℕ)) × ((end_at side pair).coming ≡ pdu ∷ coming)

module _ (near far : Policy) (turns : List Turn) (fair : AreFair near far turns) (read : AreRead near far turns) (passes : AreCarried near far turns) (can : (psm : ℕ) → CanStateBoth near far psm) where
  abbrev pub pair : Pair
  pair = pair_of near far turns

  -- the channel that a PDU comes in for
  its : (side : Side) (own : ℕ) (held : Held) (setup : Setup) (machine : Ertm) → held_at own (value_at near far side turns) ≡ Some held → setup_of held.stage ≡ Some setup → setup.carrier ≡ Some (Retransmitting machine)
      → IsRead (policy_of side near far) (said_at side pair) own (Retransmitting machine)
  its side own held setup machine at has carrier =
      let policy : Policy = policy_of side near far in
      let (list, runs) = runs-at near far turns side in
      subst (λ (run : Run). IsRead policy run.said own (Retransmitting machine)) (sym runs) (accepted-heard policy list own held setup (Retransmitting machine) (subst (λ (run : Run). held_at own run.value ≡ Some held) runs at) has carrier)

  near_silent : (party : Party) (pdu : List ℕ) → IsComing Near pair pdu → ClosesOnNone (Comes pdu) pair.near.run.value
  near_silent party pdu (coming, is) held setup machine reason at has carrier shut =
      piped_silent party t channel pair pdu coming held setup machine reason (piped-by near far turns fair read passes channel have (can channel.psm) bond.0 far_bond (inl (sym it.mode_is)) party) is
      (ap (λ n. eqb (channel_of pdu) n) it.own_is ∙ eqb-same (channel_of pdu)) here has carrier bond.1 shut
    where
      it : IsRead near pair.near.run.said (channel_of pdu) (Retransmitting machine)
      it = its Near (channel_of pdu) held setup machine at has carrier

      channel : Channel
      channel = it.channel

      here : held_at channel.own pair.near.run.value ≡ Some held
      here = ap (λ n. held_at n pair.near.run.value) it.own_is ∙ at

      near_has : IsOf channel (read_at channel.own (reading pair.near.run.said).entries)
      near_has = subst (λ n. IsOf channel (read_at n (reading pair.near.run.said).entries)) (sym it.own_is) (subst (IsOf channel) (sym it.found) it.channel_is)

      have : HaveChannel near far turns channel
      have = record {
        near_has = near_has;
        far_has = subst (λ (c : Channel). IsOf (mirrored c) (read_at c.peer (reading pair.far.run.said).entries)) it.channel_is (channels-are_common near far turns read Near (channel_of pdu) it.entry it.found it.accepted);
      }

      bond : (bond : Bond near far turns Near channel.psm channel.own) × (machine.agreed ≡ bond.agreed)
      bond = bond_now near far turns read Near channel held setup machine here has carrier near_has (can channel.psm).near_can (can channel.psm).far_can (sym it.mode_is)
          (subst (λ n. IsOnHeard near channel.psm n pair.near.run.said machine.agreed) (sym it.own_is) it.heard)

      far_bond : Bond near far turns Far channel.psm channel.peer
      far_bond = bond-of near far turns read Far (mirrored channel) have.far_has (can channel.psm).far_can (can channel.psm).near_can

      t : Terms
      t = terms_of near far turns channel bond.0 far_bond

  far_silent : (party : Party) (pdu : List ℕ) → IsComing Far pair pdu → ClosesOnNone (Comes pdu) pair.far.run.value
  far_silent party pdu (coming, is) held setup machine reason at has carrier shut =
      piped_silent party (other_terms t) (mirrored channel) (turned pair) pdu coming held setup machine reason
      (turned-piped party t channel pair (piped-by near far turns fair read passes channel have (can channel.psm) near_bond bond.0 (inr (sym it.mode_is)) party)) is
      (ap (λ n. eqb (channel_of pdu) n) it.own_is ∙ eqb-same (channel_of pdu)) here has carrier bond.1 shut
    where
      it : IsRead far pair.far.run.said (channel_of pdu) (Retransmitting machine)
      it = its Far (channel_of pdu) held setup machine at has carrier

      channel : Channel
      channel = mirrored it.channel

      here : held_at channel.peer pair.far.run.value ≡ Some held
      here = ap (λ n. held_at n pair.far.run.value) it.own_is ∙ at

      far_has : IsOf (mirrored channel) (read_at channel.peer (reading pair.far.run.said).entries)
      far_has = subst (λ n. IsOf it.channel (read_at n (reading pair.far.run.said).entries)) (sym it.own_is) (subst (IsOf it.channel) (sym it.found) it.channel_is)

      have : HaveChannel near far turns channel
      have = record {
        near_has = subst (λ (c : Channel). IsOf (mirrored c) (read_at c.peer (reading pair.near.run.said).entries)) it.channel_is (channels-are_common near far turns read Far (channel_of pdu) it.entry it.found it.accepted);
        far_has = far_has;
      }

      bond : (bond : Bond near far turns Far channel.psm channel.peer) × (machine.agreed ≡ bond.agreed)
      bond = bond_now near far turns read Far it.channel held setup machine here has carrier far_has (can channel.psm).far_can (can channel.psm).near_can (sym it.mode_is)
          (subst (λ n. IsOnHeard far channel.psm n pair.far.run.said machine.agreed) (sym it.own_is) it.heard)

      near_bond : Bond near far turns Near channel.psm channel.own
      near_bond = bond-of near far turns read Near channel have.near_has (can channel.psm).near_can (can channel.psm).far_can

      t : Terms
      t = terms_of near far turns channel near_bond bond.0

  pub silent-at : (party : Party) (side : Side) (pdu : List ℕ) → IsComing side pair pdu → ClosesOnNone (Comes pdu) (value_at near far side turns)
  silent-at party Near pdu coming = near_silent party pdu coming
  silent-at party Far pdu coming = far_silent party pdu coming

-- ---- one turn

abbrev IsHanded : Party → Channel → Run → Type 0
IsHanded party channel run = sdus party channel Into run.said ≡ sdus_up channel.own run.up

alone_silent : (occurrence : Occurrence) (v : Channels) → is_alone occurrence ≡ true → ClosesOnNone occurrence v
alone_silent (Comes pdu) v is = cc
alone_silent (Connects psm) v is = tt
alone_silent AsksFeatures v is = tt
alone_silent (Disconnects own) v is = tt
alone_silent (Sends own sdu) v is = tt
alone_silent (Gives pdu) v is = cc
alone_silent Fires v is = tt
alone_silent Tells v is = tt

damaged_silent : (pdu : List ℕ) (coming : List (List ℕ)) (other : List ℕ) (v : Channels) → IsSeen (pdu ∷ coming) other → ClosesOnNone (Comes other) v
damaged_silent pdu coming other v (same, broken) held setup machine reason at has carrier shut = by (broken machine.agreed.receive_mps)
  where
    by : (answer_in machine.agreed.receive_mps other ≡ Err Short) ⊎ (answer_in machine.agreed.receive_mps other ≡ Err BadFcs) → BringsNone (read_by machine other)
    by (inl is) = subst BringsNone (sym is) tt
    by (inr is) = subst BringsNone (sym is) tt

module _ (policy : Policy) (party : Party) (channel : Channel) (states : StatesFrame policy party) where
  occurs_handed : (end' : End) (occurrence : Occurrence) → end'.policy ≡ policy → IsRunOf policy end'.run → ClosesOnNone occurrence end'.run.value → IsHanded party channel end'.run → IsHanded party channel (occurs occurrence end').run
  occurs_handed end' occurrence policy_is (list, is) silent handed =
      subst (λ (r : Run). IsHanded party channel r) (sym (ap (λ p. run_on p end'.run occurrence) policy_is ∙ ap (λ r. run_on policy r occurrence) is))
      (one-handed policy party channel list states occurrence (subst (λ (r : Run). ClosesOnNone occurrence r.value) is silent) (subst (λ (r : Run). IsHanded party channel r) is handed))

  turn_here : (pair : Pair) (happening : Happening) → pair.near.policy ≡ policy → IsRunOf policy pair.near.run → ((pdu : List ℕ) → IsComing Near pair pdu → ClosesOnNone (Comes pdu) pair.near.run.value) → IsCarried happening pair.near
      → IsHanded party channel pair.near.run → IsHanded party channel (happens_near happening pair).near.run
  turn_here pair (Acts occurrence) policy_is runs silent carried handed = by (is_alone occurrence) refl
    where
      by : (alone : Bool) → is_alone occurrence ≡ alone → IsHanded party channel (cond alone (with_near (occurs occurrence pair.near) pair) pair).near.run
      by true is = occurs_handed pair.near occurrence policy_is runs (alone_silent occurrence pair.near.run.value is) handed
      by false is = handed
  turn_here pair (Puts pdu) policy_is runs silent carried handed = by (next_given pair.near.run.value)
    where
      by : (given : Option Given) → IsHanded party channel (puts given pdu pair).near.run
      by None = handed
      by (Some given) = occurs_handed pair.near (Gives pdu) policy_is runs tt handed
  turn_here pair Takes policy_is runs silent carried handed = by pair.near.coming refl
    where
      by : (coming : List (List ℕ)) → pair.near.coming ≡ coming → IsHanded party channel (takes_first coming pair.near).run
      by [] is = handed
      by (pdu ∷ coming) is = occurs_handed (let_go coming pair.near) (Comes pdu) policy_is runs (silent pdu (coming, is)) handed
  turn_here pair Repeats policy_is runs silent carried handed = by pair.near.coming refl
    where
      by : (coming : List (List ℕ)) → pair.near.coming ≡ coming → IsHanded party channel (repeats_first coming pair.near).run
      by [] is = handed
      by (pdu ∷ coming) is = occurs_handed pair.near (Comes pdu) policy_is runs (silent pdu (coming, is)) handed
  turn_here pair Loses policy_is runs silent carried handed = by pair.near.coming
    where
      by : (coming : List (List ℕ)) → IsHanded party channel (loses_first coming pair.near).run
      by [] = handed
      by (pdu ∷ coming) = handed
  turn_here pair (Damages other) policy_is runs silent carried handed = by pair.near.coming carried
    where
      by : (coming : List (List ℕ)) → IsSeen coming other → IsHanded party channel (damages_first other coming pair.near).run
      by [] seen = handed
      by (pdu ∷ coming) seen = checked (has_fcs (channel_of pdu) pair.near.run.value)
        where
          checked : (b : Bool) → IsHanded party channel (cond b (occurs (Comes other) (let_go coming pair.near)) (let_go coming pair.near)).run
          checked true = occurs_handed (let_go coming pair.near) (Comes other) policy_is runs (damaged_silent pdu coming other pair.near.run.value seen) handed
          checked false = handed

-- what one host does is not heard at once by the other
there_same : (both : Pair) (happening : Happening) → (happens_near happening both).far.run ≡ both.far.run
there_same both (Acts occurrence) = by (is_alone occurrence)
  where
    by : (alone : Bool) → (cond alone (with_near (occurs occurrence both.near) both) both).far.run ≡ both.far.run
    by true = refl
    by false = refl
there_same both (Puts pdu) = by (next_given both.near.run.value)
  where
    by : (given : Option Given) → (puts given pdu both).far.run ≡ both.far.run
    by None = refl
    by (Some given) = refl
there_same both Takes = refl
there_same both Repeats = refl
there_same both Loses = refl
there_same both (Damages other) = refl

-- ---- all turns

module _ (near far : Policy) (can : (psm : ℕ) → CanStateBoth near far psm) (party : Party) (channel : Channel) where
  turn_handed : (past : List Turn) (turn : Turn) (side : Side) → AreFair near far past → AreRead near far past → AreCarried near far past → IsCarried turn.happening (end_at turn.side (pair_of near far past)) → StatesFrame (policy_of side near far) party
      → IsHanded party channel (end_at side (pair_of near far past)).run → IsHanded party channel (end_at side (happens_at turn.side turn.happening (pair_of near far past))).run
  turn_handed past turn side fair read passes carried states handed = by turn.side side carried states handed
    where
      pair : Pair
      pair = pair_of near far past

      by : (at here : Side) → IsCarried turn.happening (end_at at pair) → StatesFrame (policy_of here near far) party → IsHanded party channel (end_at here pair).run → IsHanded party channel (end_at here (happens_at at turn.happening pair)).run
      by Near Near carried states handed =
          turn_here near party channel states pair turn.happening (end-policy near far past Near) (each-end_runs near far past).0 (silent-at near far past fair read passes can party Near) carried handed
      by Far Far carried states handed =
          turn_here far party channel states (turned pair) turn.happening (end-policy near far past Far) (each-end_runs near far past).1 (silent-at near far past fair read passes can party Far) carried handed
      by Near Far carried states handed = subst (λ (r : Run). IsHanded party channel r) (sym (there_same pair turn.happening)) handed
      by Far Near carried states handed = subst (λ (r : Run). IsHanded party channel r) (sym (there_same (turned pair) turn.happening)) handed

  all_handed : (side : Side) (past rest : List Turn) → AreFair near far past → AreRead near far past → AreCarried near far past → EachAfter (λ front turn. DoesSo IsUttered turn.happening (end_at turn.side (pair_of near far front))) past rest
      → EachAfter (λ front turn. IsReadAt turn.happening (end_at turn.side (pair_of near far front))) past rest → EachAfter (λ front turn. IsCarried turn.happening (end_at turn.side (pair_of near far front))) past rest → StatesFrame (policy_of side near far) party
      → IsHanded party channel (end_at side (pair_of near far past)).run → IsHanded party channel (end_at side (pair_of near far (past ++ rest))).run
  all_handed side past [] fair read passes f r c states handed = subst (λ l. IsHanded party channel (end_at side (pair_of near far l)).run) (sym (append-nil past)) handed
  all_handed side past (turn ∷ rest) fair read passes (f, fs) (r, rs) (c, cs) states handed =
      subst (λ l. IsHanded party channel (end_at side (pair_of near far l)).run) (append_assoc past (turn ∷ []) rest)
      (all_handed side (past ++ turn ∷ []) rest
      (each_after-more (λ front one. DoesSo IsUttered one.happening (end_at one.side (pair_of near far front))) past turn fair f)
      (each_after-more (λ front one. IsReadAt one.happening (end_at one.side (pair_of near far front))) past turn read r)
      (each_after-more (λ front one. IsCarried one.happening (end_at one.side (pair_of near far front))) past turn passes c) fs rs cs states
      (subst (λ p. IsHanded party channel (end_at side p).run) (sym (fold-append pair_after (new_pair near far) past (turn ∷ []))) (turn_handed past turn side fair read passes c states handed)))

pub channels-are_whole : ChannelsAreWhole
channels-are_whole near far turns fair read passes can = (
  λ party channel states. all_handed near far can party channel Near [] turns tt tt tt fair read passes states (none-handed near party channel states),
  λ party channel states. all_handed near far can party channel Far [] turns tt tt tt fair read passes states (none-handed far party channel states),
)
