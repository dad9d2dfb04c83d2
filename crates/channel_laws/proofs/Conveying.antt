-- Whatever happens on a link, an enhanced channel that two hosts have in common stays a pipe.
use Rattle.std.proofs.Common.{◌≡◌, ℕ, ◌≤◌, List, [], ◌∷◌, ◌++◌, Bool, true, false, cond, eqb, ◌&&◌, Option, Some, None, Err, refl, sym, ap, subst, ◌∙◌, ◌⊎◌, inl, inr, arith, append-nil}
use Rattle.std.specs.Prelude.{find, option_map}
use Rattle.std.proofs.lemmas.Bool.{eqb-true}
use Rattle.std.proofs.lemmas.List.Elements.{filter-append}
use Rattle.own_channel_laws.specs.talk_laws.specs.bt_base.proofs.OctetLemmas.{le16-number}
use Rattle.own_channel_laws.specs.talk_laws.specs.acl_fragments.specs.Pieces.{channel_of}
use Rattle.own_channel_laws.specs.talk_laws.specs.capture.specs.declared.flow.Flow.TheVariants.{Out}
use Rattle.own_channel_laws.specs.talk_laws.specs.l2cap_signal.specs.Commands.{Command, spelling}
use Rattle.own_channel_laws.specs.talk_laws.specs.l2cap_config.specs.declared.wish.Agreed.{Agreed}
use Rattle.own_channel_laws.specs.talk_laws.specs.ertm_frames.specs.declared.refusal.FrameRefusal.TheVariants.{Short, BadFcs}
use Rattle.own_channel_laws.specs.talk_laws.specs.ertm_frames.specs.Frames.{PlainFrame}
use Rattle.own_channel_laws.specs.talk_laws.specs.ertm_frames.specs.Reading.{answer_in, frame_in}
use Rattle.own_channel_laws.specs.talk_laws.specs.ertm_frames.specs.Picking.{outs}
use Rattle.own_channel_laws.specs.talk_laws.specs.ertm_frames.proofs.Spelled.{written-read}
use Rattle.own_channel_laws.specs.talk_laws.specs.ertm_frames.proofs.Telling.{outs-more}
use Rattle.own_channel_laws.specs.talk_laws.specs.ertm_frames.proofs.WorkedOut.{answer-is_worked_out}
use Rattle.own_channel_laws.specs.channel_model.specs.ertm_model.specs.Value.{Ertm}
use Rattle.own_channel_laws.specs.channel_model.specs.ertm_model.specs.Giving.{next_frame}
use Rattle.own_channel_laws.specs.channel_model.specs.ertm_model.specs.Pair.{End as MachineEnd}
use Rattle.own_channel_laws.specs.talk_laws.specs.link_talk.specs.declared.channel.Channel.{Channel}
use Rattle.own_channel_laws.specs.talk_laws.specs.link_talk.specs.declared.party.Party.{Party}
use Rattle.own_channel_laws.specs.talk_laws.specs.link_talk.specs.Sayings.{Saying, Carried}
use Rattle.own_channel_laws.specs.talk_laws.specs.link_talk.specs.Channels.{is_there}
use Rattle.own_channel_laws.specs.talk_laws.specs.link_talk.specs.Carriages.{carried}
use Rattle.own_channel_laws.specs.talk_laws.specs.link_talk.specs.Accounts.{frames_passed}
use Rattle.own_channel_laws.specs.channel_model.specs.declared.errand.Errand.{Errand}
use Rattle.own_channel_laws.specs.channel_model.specs.declared.errand.Errand.TheVariants as errands
use Rattle.own_channel_laws.specs.channel_model.specs.Value.{Queued, Answer, Ask, Carrier, Plain, Retransmitting, Setup, Stage, Held, Channels}
use Rattle.own_channel_laws.specs.channel_model.specs.Policies.{Policy}
use Rattle.own_channel_laws.specs.channel_model.specs.Changing.{has_own, held_at, is_open, setup_of}
use Rattle.own_channel_laws.specs.channel_model.specs.Carrying.{Nothing}
use Rattle.own_channel_laws.specs.channel_model.specs.Giving.{Given, Signal, Whole, Framed, some_carrier_gives, gives, carrier_spent, held_gives, held_given, queue_gives, queue_given, next_given, command_of, stage_given, counted, connection_given, configuration_given, disconnection_given}
use Rattle.own_channel_laws.specs.channel_model.specs.Calls.{has_fcs}
use Rattle.own_channel_laws.specs.channel_model.proofs.Lookups.{own_of, eqb-same, found-distinct, found-placed, find-placed}
use Rattle.own_channel_laws.specs.channel_model.proofs.Going.{staged}
use Rattle.own_channel_laws.specs.channel_model.proofs.Walking.{found-own}
use Rattle.own_channel_laws.specs.Runs.{Comes, said_as, sdus_up}
use Rattle.own_channel_laws.specs.Views.{peer_of}
use Rattle.own_channel_laws.specs.Frames.{IsSpelled, IsUttered}
use Rattle.channel_laws.specs.Pairs.{End, Pair, Happening, Acts, Puts, Takes, Repeats, Loses, Damages, is_alone, occurs, with_near, puts, let_go, takes_first, repeats_first, loses_first, damages_first, happens_near}
use Rattle.channel_laws.specs.Ends.{DoesSo}
use Rattle.channel_laws.specs.Common.{mirrored}
use Rattle.channel_laws.specs.Pipes.{IsAddressed, IsSeen, IsCarried, Suits}
use Rattle.own_channel_laws.proofs.Running.{IsSound}
use Rattle.own_channel_laws.proofs.Keeping.{OfCarrier, HeldKeeps}
use Rattle.own_channel_laws.proofs.Receiving.{up-nothing}
use Rattle.own_channel_laws.proofs.Passages.{GoesOut, out-own, spelled-frame}
use Rattle.own_channel_laws.proofs.Holding.{IsRead, is-read, set-is}
use Rattle.own_channel_laws.proofs.Outgoing.{Counts, connection-counts, configuration-counts, disconnection-counts, open-stated, gives-none, gives-by}
use Rattle.channel_laws.proofs.Joining.{Seen, Terms, Holds, IsEnd, Joined, next-ends_none, joined-same, joined-loses}
use Rattle.channel_laws.proofs.Partaking.{IsSole, IsMate, CanHear, hears-frame, hears-damaged, joined-gives, kept-on}
use Rattle.channel_laws.proofs.Piped.{frames_said, under_way, is_to, Next, Piped, said-elsewhere, acts-next, comes-next}

-- ---- what is under way

pub under-else : (own : ℕ) (coming : List (List ℕ)) (pdu : List ℕ) → eqb (channel_of pdu) own ≡ false → under_way own (coming ++ pdu ∷ []) ≡ under_way own coming
under-else own coming pdu away = filter-append (is_to own) coming (pdu ∷ []) ∙ (ap (λ b. under_way own coming ++ cond b (pdu ∷ []) []) away ∙ append-nil (under_way own coming))

pub under-here : (own : ℕ) (coming : List (List ℕ)) (pdu : List ℕ) → eqb (channel_of pdu) own ≡ true → under_way own (coming ++ pdu ∷ []) ≡ under_way own coming ++ pdu ∷ []
under-here own coming pdu here = filter-append (is_to own) coming (pdu ∷ []) ∙ ap (λ b. under_way own coming ++ cond b (pdu ∷ []) []) here

pub low-apart : (own : ℕ) → 0x0040 ≤ own → eqb 0x0001 own ≡ false
low-apart own high = by (eqb 0x0001 own) refl
  where
    by : (b : Bool) → eqb 0x0001 own ≡ b → b ≡ false
    by false is = refl
    by true is = let same : 0x0001 ≡ own = eqb-true 0x0001 own is in absurd (omega (arith, same, high))

-- ---- an own request is given

stage_held : (policy : Policy) (P : OfCarrier) (n : ℕ) (v : Channels) (g : Stage → Stage) (own : ℕ) (held : Option Held) → Counts g → held_at own v ≡ held → HeldKeeps policy P (held_at n v) → HeldKeeps policy P (held_at n (stage_given g held v)) × ((stage_given g held v).next ≡ v.next)
stage_held policy P n v g own None counts found kept = (kept, refl)
stage_held policy P n v g own (Some held) counts found kept = (by (eqb held.own n) refl, refl)
  where
    z : Channels
    z = stage_given g (Some held) v

    here : find (has_own held.own) v.held ≡ Some held
    here = found-own own v held found

    by : (same : Bool) → eqb held.own n ≡ same → HeldKeeps policy P (held_at n z)
    by false away = subst (HeldKeeps policy P) (sym (find-placed (staged held (g held.stage)) v.held n away)) kept
    by true is =
        let same : held.own ≡ n = eqb-true held.own n is in
        let was : HeldKeeps policy P (Some held) = subst (HeldKeeps policy P) (ap (λ k. find (has_own k) v.held) (sym same) ∙ here) kept in
        let placed : held_at n z ≡ Some (staged held (g held.stage)) = ap (λ k. find (has_own k) z.held) (sym same) ∙ found-placed (staged held (g held.stage)) held v.held here in
        subst (HeldKeeps policy P) (sym placed) (counts P (policy.wish held.psm) held.stage was)

pub counted-held : (policy : Policy) (P : OfCarrier) (n : ℕ) (v : Channels) (errand : Errand) → HeldKeeps policy P (held_at n v) → HeldKeeps policy P (held_at n (counted errand v)) × ((counted errand v).next ≡ v.next)
counted-held policy P n v (errands.Connection own) kept = stage_held policy P n v connection_given own (held_at own v) connection-counts refl kept
counted-held policy P n v (errands.Configuration own) kept = stage_held policy P n v configuration_given own (held_at own v) configuration-counts refl kept
counted-held policy P n v (errands.Disconnection own) kept = stage_held policy P n v disconnection_given own (held_at own v) disconnection-counts refl kept
counted-held policy P n v errands.Features kept = (kept, refl)

counted_joined : (near far : Policy) (t : Terms) (n f : ℕ) (d : Seen) (near_up far_up : List (List ℕ)) (v w : Channels) (errand : Errand) → Joined near far t n f d near_up far_up v w → Joined near far t n f d near_up far_up (counted errand v) w
counted_joined near far t n f d near_up far_up v w errand h =
    let (kept, next_is) = counted-held near (IsEnd t.mine near_up h.pair.a) n v errand h.near_at.held in
    record {
      pair = h.pair;
      joins = h.joins;
      near_at = record { held = kept; before = λ above. h.near_at.before (omega (arith, next_is, above)); front = h.near_at.front };
      far_at = h.far_at;
    }

-- ---- the next PDU is given

-- a machine that has a frame to give is that of an open channel
opened_by : (agreed : Agreed) (e : MachineEnd) (opened : Bool) (machine : Ertm) (frame : PlainFrame) → next_frame machine ≡ Some frame → Holds agreed e opened (Some (Retransmitting machine)) → opened ≡ true
opened_by agreed e opened machine frame next (inl (other, is, new)) = let never : None ≡ Some frame = sym (ap next_frame is) ∙ next in absurd cc
opened_by agreed e opened machine frame next (inr (is, now, open')) = now

-- behind it
abbrev Behind : Party → Terms → Channel → Pair → List ℕ → Option Given → Channels → Type 0
Behind party t channel pair pdu given v =
    Next party t channel pair (frames_said party channel (pair.near.run.said ++ said_as given pdu)) (under_way channel.own pair.near.coming) (under_way channel.peer (pair.far.coming ++ pdu ∷ [])) (sdus_up channel.own (pair.near.run.up ++ Nothing ∷ [])) v

-- something is given that is for no frame of the channel
other_behind : (party : Party) (t : Terms) (channel : Channel) (pair : Pair) (pdu : List ℕ) (given : Option Given) (v : Channels) → eqb (channel_of pdu) channel.peer ≡ false → frames_said party channel (pair.near.run.said ++ said_as given pdu) ≡ frames_said party channel pair.near.run.said
    → Next party t channel pair (frames_said party channel pair.near.run.said) (under_way channel.own pair.near.coming) (under_way channel.peer pair.far.coming) (sdus_up channel.own pair.near.run.up) v → Behind party t channel pair pdu given v
other_behind party t channel pair pdu given v away silent h =
    subst (λ s. Next party t channel pair s (under_way channel.own pair.near.coming) (under_way channel.peer (pair.far.coming ++ pdu ∷ [])) (sdus_up channel.own (pair.near.run.up ++ Nothing ∷ [])) v) (sym silent)
    (subst (λ c. Next party t channel pair (frames_said party channel pair.near.run.said) (under_way channel.own pair.near.coming) c (sdus_up channel.own (pair.near.run.up ++ Nothing ∷ [])) v) (sym (under-else channel.peer pair.far.coming pdu away))
    (subst (λ u. Next party t channel pair (frames_said party channel pair.near.run.said) (under_way channel.own pair.near.coming) (under_way channel.peer pair.far.coming) u v) (sym (up-nothing channel.own pair.near.run.up Nothing refl)) h))

no_words : (party : Party) (channel : Channel) (past : List Saying) → frames_said party channel (past ++ []) ≡ frames_said party channel past
no_words party channel past = ap (frames_said party channel) (append-nil past)

pub flipped : (a b : ℕ) → eqb a b ≡ false → eqb b a ≡ false
flipped a b is = by (eqb b a) refl
  where
    by : (c : Bool) → eqb b a ≡ c → c ≡ false
    by false now = refl
    by true now = let never : true ≡ false = sym (eqb-same b) ∙ (ap (λ n. eqb n b) (eqb-true b a now) ∙ is) in absurd cc

-- another channel that carries something is for another endpoint
pub peers-apart : (own peer : ℕ) (v : Channels) (held : Held) (setup : Setup) (carrier : Carrier) (endpoint : ℕ) → IsSole own peer v → find (has_own held.own) v.held ≡ Some held → setup_of held.stage ≡ Some setup → setup.carrier ≡ Some carrier
    → peer_of held.stage ≡ Some endpoint → eqb held.own own ≡ false → eqb endpoint peer ≡ false
peers-apart own peer v held setup carrier endpoint sole found has is to away = by (eqb endpoint peer) refl
  where
    by : (b : Bool) → eqb endpoint peer ≡ b → b ≡ false
    by false now = refl
    by true now =
        let one : held.own ≡ own = sole.alone held setup carrier found has is (to ∙ ap Some (eqb-true endpoint peer now)) in
        let never : true ≡ false = sym (eqb-same own) ∙ (ap (λ n. eqb n own) (sym one) ∙ away) in absurd cc

pub record Speaks (agreed : Agreed) (party : Party) (channel : Channel) (pair : Pair) : Type 0 where
  pub high : 0x0040 ≤ channel.peer
  pub sound : IsSound pair.near.policy pair.near.run
  pub mate : IsMate agreed channel.own channel.peer pair.near.run.value

other_spent : (party : Party) (t : Terms) (channel : Channel) (pair : Pair) (held : Held) (setup : Setup) → eqb held.own channel.own ≡ false → Piped party t channel pair
    → Next party t channel pair (frames_said party channel pair.near.run.said) (under_way channel.own pair.near.coming) (under_way channel.peer pair.far.coming) (sdus_up channel.own pair.near.run.up) (carrier_spent (Some setup) held pair.near.run.value)
other_spent party t channel pair held setup away h = joined-same pair.near.policy pair.far.policy t channel.own channel.peer _ _ _ pair.near.run.value (carrier_spent (Some setup) held pair.near.run.value) pair.far.run.value (find-placed _ pair.near.run.value.held channel.own away) refl h

frame_behind : (party : Party) (t : Terms) (channel : Channel) (pair : Pair) (pdu : List ℕ) (held : Held) (setup : Setup) (machine : Ertm) (frame : PlainFrame) → Speaks t.mine party channel pair → find (has_own held.own) pair.near.run.value.held ≡ Some held → setup_of held.stage ≡ Some setup
    → setup.carrier ≡ Some (Retransmitting machine) → next_frame machine ≡ Some frame → (r : IsRead pair.near.policy pair.near.run.said held.own held setup) → IsSpelled (Some (Framed r.peer frame)) pdu → Piped party t channel pair
    → Behind party t channel pair pdu (Some (Framed r.peer frame)) (carrier_spent (Some setup) held pair.near.run.value)
frame_behind party t channel pair pdu held setup machine frame speaks found has is next r (spells, octets) h = by (eqb held.own channel.own) refl
  where
    v : Channels
    v = pair.near.run.value

    past : List Saying
    past = pair.near.run.said

    read : (frame_in 65535 pdu ≡ Some frame) × (channel_of pdu ≡ r.peer)
    read = spelled-frame r.peer frame pdu spells octets

    by : (same : Bool) → eqb held.own channel.own ≡ same → Behind party t channel pair pdu (Some (Framed r.peer frame)) (carrier_spent (Some setup) held v)
    by false away =
        let apart : eqb (channel_of pdu) channel.peer ≡ false = ap (λ n. eqb n channel.peer) read.1 ∙ peers-apart channel.own channel.peer v held setup (Retransmitting machine) r.peer speaks.mate.sole found has is r.peer_is away in
        other_behind party t channel pair pdu (Some (Framed r.peer frame)) (carrier_spent (Some setup) held v) apart
        (said-elsewhere pair.near.policy party channel past v pdu speaks.sound speaks.mate.sole (flipped (channel_of pdu) channel.peer apart)) (other_spent party t channel pair held setup away h)
    by true here =
        let same : held.own ≡ channel.own = eqb-true held.own channel.own here in
        let at : held_at channel.own v ≡ Some held = ap (λ k. find (has_own k) v.held) (sym same) ∙ found in
        let peer_is : r.peer ≡ channel.peer = speaks.mate.sole.for held r.peer at r.peer_is in
        let kept = kept-on (IsEnd t.mine (sdus_up channel.own pair.near.run.up) h.pair.a) (pair.near.policy.wish held.psm) held.stage setup has (subst (HeldKeeps pair.near.policy (IsEnd t.mine (sdus_up channel.own pair.near.run.up) h.pair.a)) at h.near_at.held) in
        let opened : is_open setup ≡ true = opened_by t.mine h.pair.a (is_open setup) machine frame next (subst (Holds t.mine h.pair.a (is_open setup)) is kept.1) in
        let goes : GoesOut past held.own r.peer = record {
          entry = r.entry;
          found = r.found;
          peer_is = r.here;
          holds = ap (λ b. b && is_there r.entry.life) (set-is pair.near.policy past held.own held setup r (Retransmitting machine) is (open-stated setup opened)) ∙ r.there;
          only = λ other x found_x there to. speaks.sound.core.apart other held.own x r.entry found_x r.found there r.there (to ∙ sym r.here);
        } in
        let said : frames_said party channel (past ++ Carried Out pdu ∷ []) ≡ frames_said party channel past ++ frame ∷ [] =
        ap outs (out-own party channel past r.peer pdu frame (subst (λ k. GoesOut past k r.peer) same goes) read.1 read.0) ∙ outs-more (frames_passed party channel past) frame in
        subst (λ s. Next party t channel pair s (under_way channel.own pair.near.coming) (under_way channel.peer (pair.far.coming ++ pdu ∷ [])) (sdus_up channel.own (pair.near.run.up ++ Nothing ∷ [])) (carrier_spent (Some setup) held v)) (sym said)
        (subst (λ c. Next party t channel pair (frames_said party channel past ++ frame ∷ []) (under_way channel.own pair.near.coming) c (sdus_up channel.own (pair.near.run.up ++ Nothing ∷ [])) (carrier_spent (Some setup) held v))
        (sym (under-here channel.peer pair.far.coming pdu (ap (λ n. eqb n channel.peer) (read.1 ∙ peer_is) ∙ eqb-same channel.peer)))
        (subst (λ u. Next party t channel pair (frames_said party channel past ++ frame ∷ []) (under_way channel.own pair.near.coming) (under_way channel.peer pair.far.coming ++ pdu ∷ []) u (carrier_spent (Some setup) held v)) (sym (up-nothing channel.own pair.near.run.up Nothing refl))
        (gives_here same)))
      where
        d : Seen
        d = record { near_said = frames_said party channel past; far_said = frames_said party (mirrored channel) pair.far.run.said; to_near = under_way channel.own pair.near.coming; to_far = under_way channel.peer pair.far.coming }

        gives_here : held.own ≡ channel.own → Next party t channel pair (frames_said party channel past ++ frame ∷ []) (under_way channel.own pair.near.coming) (under_way channel.peer pair.far.coming ++ pdu ∷ []) (sdus_up channel.own pair.near.run.up) (carrier_spent (Some setup) held v)
        gives_here same =
            let after : Seen = record { near_said = frames_said party channel past ++ frame ∷ []; far_said = frames_said party (mirrored channel) pair.far.run.said; to_near = under_way channel.own pair.near.coming; to_far = under_way channel.peer pair.far.coming ++ pdu ∷ [] } in
            subst (λ k. Joined pair.near.policy pair.far.policy t k channel.peer after (sdus_up channel.own pair.near.run.up) (sdus_up channel.peer pair.far.run.up) (carrier_spent (Some setup) held v) pair.far.run.value) same
            (joined-gives pair.near.policy pair.far.policy t channel.peer d (sdus_up channel.own pair.near.run.up) (sdus_up channel.peer pair.far.run.up) v pair.far.run.value held setup machine pdu frame speaks.sound.core.held_below found has is next
            (next-ends_none machine frame next, λ most within. written-read r.peer most frame pdu (answer_in most pdu) spells within (answer-is_worked_out most pdu octets))
            (subst (λ k. Joined pair.near.policy pair.far.policy t k channel.peer d (sdus_up channel.own pair.near.run.up) (sdus_up channel.peer pair.far.run.up) v pair.far.run.value) (sym same) h))

spent_behind : (party : Party) (t : Terms) (channel : Channel) (pair : Pair) (pdu : List ℕ) (held : Held) (setup : Setup) (carrier : Option Carrier) → Speaks t.mine party channel pair → find (has_own held.own) pair.near.run.value.held ≡ Some held → setup_of held.stage ≡ Some setup → setup.carrier ≡ carrier
    → (r : IsRead pair.near.policy pair.near.run.said held.own held setup) → (given : Given) → some_carrier_gives carrier r.peer ≡ Some given → IsSpelled (Some given) pdu → IsAddressed (Some given) pdu → Piped party t channel pair
    → Behind party t channel pair pdu (Some given) (carrier_spent (Some setup) held pair.near.run.value)
spent_behind party t channel pair pdu held setup None speaks found has is r given gives spelled addressed h = cc
spent_behind party t channel pair pdu held setup (Some (Plain agreed None)) speaks found has is r given gives spelled addressed h = cc
spent_behind party t channel pair pdu held setup (Some (Plain agreed (Some sdu))) speaks found has is r given gives spelled addressed h =
    let whole : Whole r.peer sdu ≡ given = cc in
    subst (λ g. Behind party t channel pair pdu (Some g) (carrier_spent (Some setup) held pair.near.run.value)) whole
    (other_behind party t channel pair pdu (Some (Whole r.peer sdu)) (carrier_spent (Some setup) held pair.near.run.value)
    (ap (λ n. eqb n channel.peer) (subst (λ g. IsAddressed (Some g) pdu) (sym whole) addressed) ∙ peers-apart channel.own channel.peer pair.near.run.value held setup (Plain agreed (Some sdu)) r.peer speaks.mate.sole found has is r.peer_is (apart (eqb held.own channel.own) refl))
    (no_words party channel pair.near.run.said) (other_spent party t channel pair held setup (apart (eqb held.own channel.own) refl) h))
  where
    apart : (b : Bool) → eqb held.own channel.own ≡ b → eqb held.own channel.own ≡ false
    apart false b_is = b_is
    apart true b_is = absurd (speaks.mate.enhanced held setup (Plain agreed (Some sdu)) (ap (λ k. find (has_own k) pair.near.run.value.held) (sym (eqb-true held.own channel.own b_is)) ∙ found) has is)
spent_behind party t channel pair pdu held setup (Some (Retransmitting machine)) speaks found has is r given gives spelled addressed h = by (next_frame machine) refl gives
  where
    by : (frame : Option PlainFrame) → next_frame machine ≡ frame → option_map (Framed r.peer) frame ≡ Some given → Behind party t channel pair pdu (Some given) (carrier_spent (Some setup) held pair.near.run.value)
    by None next gives = cc
    by (Some frame) next gives =
        let framed : Framed r.peer frame ≡ given = cc in
        subst (λ g. Behind party t channel pair pdu (Some g) (carrier_spent (Some setup) held pair.near.run.value)) framed
        (frame_behind party t channel pair pdu held setup machine frame speaks found has is next r (subst (λ g. IsSpelled (Some g) pdu) (sym framed) spelled) h)

held_behind : (party : Party) (t : Terms) (channel : Channel) (pair : Pair) (pdu : List ℕ) (held : Option Held) → Speaks t.mine party channel pair → find gives pair.near.run.value.held ≡ held → (given : Given) → held_gives held ≡ Some given → IsSpelled (Some given) pdu → IsAddressed (Some given) pdu
    → Piped party t channel pair → Behind party t channel pair pdu (Some given) (held_given held pair.near.run.value)
held_behind party t channel pair pdu None speaks is given gives spelled addressed h = cc
held_behind party t channel pair pdu (Some held) speaks is given giving spelled addressed h = by (setup_of held.stage) refl
  where
    found : find (has_own held.own) pair.near.run.value.held ≡ Some held
    found = found-distinct own_of gives pair.near.run.value.held held speaks.sound.core.lone is

    by : (setup : Option Setup) → setup_of held.stage ≡ setup → Behind party t channel pair pdu (Some given) (carrier_spent setup held pair.near.run.value)
    by None has = let never : None ≡ Some given = sym (gives-none held.stage has) ∙ giving in absurd cc
    by (Some setup) has =
        let r : IsRead pair.near.policy pair.near.run.said held.own held setup = is-read pair.near.policy pair.near.run.said pair.near.run.value held.own held setup found has speaks.sound in
        spent_behind party t channel pair pdu held setup setup.carrier speaks found has refl r given (sym (gives-by held.stage setup r.peer has r.peer_is) ∙ giving) spelled addressed h

-- a command
signal_behind : (party : Party) (t : Terms) (channel : Channel) (pair : Pair) (pdu : List ℕ) (command : Command) (v : Channels) → 0x0040 ≤ channel.peer → IsSpelled (Some (Signal command)) pdu
    → Next party t channel pair (frames_said party channel pair.near.run.said) (under_way channel.own pair.near.coming) (under_way channel.peer pair.far.coming) (sdus_up channel.own pair.near.run.up) v → Behind party t channel pair pdu (Some (Signal command)) v
signal_behind party t channel pair pdu command v high (is, octets) h =
    other_behind party t channel pair pdu (Some (Signal command)) v (ap (λ n. eqb n channel.peer) (ap channel_of is ∙ le16-number 0x0001 (spelling command) (omega arith)) ∙ low-apart channel.peer high) (no_words party channel pair.near.run.said) h

queue_behind : (party : Party) (t : Terms) (channel : Channel) (pair : Pair) (pdu : List ℕ) (queue : List Queued) → Speaks t.mine party channel pair → (given : Given) → queue_gives queue pair.near.run.value ≡ Some given → IsSpelled (Some given) pdu → IsAddressed (Some given) pdu → Piped party t channel pair
    → Behind party t channel pair pdu (Some given) (queue_given queue pair.near.run.value)
queue_behind party t channel pair pdu [] speaks given giving spelled addressed h = held_behind party t channel pair pdu (find gives pair.near.run.value.held) speaks refl given giving spelled addressed h
queue_behind party t channel pair pdu (Answer command ∷ behind) speaks given giving spelled addressed h =
    let one : Signal command ≡ given = cc in
    let w : Channels = queue_given (Answer command ∷ behind) pair.near.run.value in
    subst (λ g. Behind party t channel pair pdu (Some g) w) one
    (signal_behind party t channel pair pdu command w speaks.high (subst (λ g. IsSpelled (Some g) pdu) (sym one) spelled)
    (joined-same pair.near.policy pair.far.policy t channel.own channel.peer _ _ _ pair.near.run.value w pair.far.run.value refl refl h))
queue_behind party t channel pair pdu (Ask errand ∷ behind) speaks given giving spelled addressed h = by (command_of errand pair.near.run.value) giving
  where
    u : Channels
    u = record pair.near.run.value { queue = behind }

    by : (found : Option Command) → option_map Signal found ≡ Some given → Behind party t channel pair pdu (Some given) (counted errand u)
    by None is = cc
    by (Some command) is =
        let one : Signal command ≡ given = cc in
        subst (λ g. Behind party t channel pair pdu (Some g) (counted errand u)) one
        (signal_behind party t channel pair pdu command (counted errand u) speaks.high (subst (λ g. IsSpelled (Some g) pdu) (sym one) spelled)
        (counted_joined pair.near.policy pair.far.policy t channel.own channel.peer _ _ _ u pair.far.run.value errand (joined-same pair.near.policy pair.far.policy t channel.own channel.peer _ _ _ pair.near.run.value u pair.far.run.value refl refl h)))

-- ---- whatever happens at one host

-- the first PDU that is under way is gone
pop : (party : Party) (t : Terms) (channel : Channel) (pair : Pair) (said : List PlainFrame) (to_far near_up : List (List ℕ)) (v : Channels) (pdu : List ℕ) (coming : List (List ℕ)) → Next party t channel pair said (under_way channel.own (pdu ∷ coming)) to_far near_up v
    → Next party t channel pair said (under_way channel.own coming) to_far near_up v
pop party t channel pair said to_far near_up v pdu coming h = by (eqb (channel_of pdu) channel.own) h
  where
    by : (here : Bool) → Next party t channel pair said (cond here (pdu ∷ under_way channel.own coming) (under_way channel.own coming)) to_far near_up v → Next party t channel pair said (under_way channel.own coming) to_far near_up v
    by true h = joined-loses pair.near.policy pair.far.policy t channel.own channel.peer _ near_up (sdus_up channel.peer pair.far.run.up) v pair.far.run.value pdu (under_way channel.own coming) refl h
    by false h = h

-- the first PDU is heard and stays
first_heard : (party : Party) (t : Terms) (channel : Channel) (pair : Pair) (pdu : List ℕ) (coming : List (List ℕ)) → 0x0040 ≤ channel.own → Speaks t.mine party channel pair → pair.near.coming ≡ pdu ∷ coming
    → IsMate t.mine channel.own channel.peer (occurs (Comes pdu) pair.near).run.value → Piped party t channel pair
    → (let now : End = occurs (Comes pdu) pair.near in Next party t channel pair (frames_said party channel now.run.said) (under_way channel.own (pdu ∷ coming)) (under_way channel.peer pair.far.coming) (sdus_up channel.own now.run.up) now.run.value)
first_heard party t channel pair pdu coming high speaks is after h =
    comes-next party t channel pair (under_way channel.own (pdu ∷ coming)) (under_way channel.peer pair.far.coming) pdu high speaks.sound speaks.mate after
    (λ here. hears-frame t _ pdu (under_way channel.own coming) (ap (λ b. cond b (pdu ∷ under_way channel.own coming) (under_way channel.own coming)) here))
    (subst (λ cs. Next party t channel pair (frames_said party channel pair.near.run.said) (under_way channel.own cs) (under_way channel.peer pair.far.coming) (sdus_up channel.own pair.near.run.up) pair.near.run.value) is h)

-- it is heard as nothing
damage_heard : (party : Party) (t : Terms) (channel : Channel) (pair : Pair) (pdu other : List ℕ) (coming : List (List ℕ)) → 0x0040 ≤ channel.own → Speaks t.mine party channel pair → pair.near.coming ≡ pdu ∷ coming → IsSeen (pdu ∷ coming) other
    → IsMate t.mine channel.own channel.peer (occurs (Comes other) pair.near).run.value → Piped party t channel pair
    → (let now : End = occurs (Comes other) pair.near in Next party t channel pair (frames_said party channel now.run.said) (under_way channel.own (pdu ∷ coming)) (under_way channel.peer pair.far.coming) (sdus_up channel.own now.run.up) now.run.value)
damage_heard party t channel pair pdu other coming high speaks is (same, broken) after h =
    comes-next party t channel pair (under_way channel.own (pdu ∷ coming)) (under_way channel.peer pair.far.coming) other high speaks.sound speaks.mate after (λ here. by (broken t.mine.receive_mps))
    (subst (λ cs. Next party t channel pair (frames_said party channel pair.near.run.said) (under_way channel.own cs) (under_way channel.peer pair.far.coming) (sdus_up channel.own pair.near.run.up) pair.near.run.value) is h)
  where
    d : Seen
    d = record { near_said = frames_said party channel pair.near.run.said; far_said = frames_said party (mirrored channel) pair.far.run.said; to_near = under_way channel.own (pdu ∷ coming); to_far = under_way channel.peer pair.far.coming }

    by : (answer_in t.mine.receive_mps other ≡ Err Short) ⊎ (answer_in t.mine.receive_mps other ≡ Err BadFcs) → CanHear t d other
    by (inl short) = hears-damaged t d other Short (inl refl) short
    by (inr bad) = hears-damaged t d other BadFcs (inr refl) bad

pub near-piped : (party : Party) (t : Terms) (channel : Channel) (pair : Pair) (happening : Happening) → 0x0040 ≤ channel.own → Suits t.mine t.other → Speaks t.mine party channel pair → IsMate t.mine channel.own channel.peer (happens_near happening pair).near.run.value → DoesSo IsUttered happening pair.near
    → IsCarried happening pair.near → Piped party t channel pair → Piped party t channel (happens_near happening pair)
near-piped party t channel pair (Acts occurrence) high suits speaks after uttered carried h = by (is_alone occurrence) refl
  where
    by : (alone : Bool) → is_alone occurrence ≡ alone → Piped party t channel (cond alone (with_near (occurs occurrence pair.near) pair) pair)
    by true alone = acts-next party t channel pair occurrence alone suits speaks.sound speaks.mate uttered carried h
    by false alone = h
near-piped party t channel pair (Puts pdu) high suits speaks after uttered carried h = by (next_given pair.near.run.value) refl uttered carried
  where
    by : (given : Option Given) → next_given pair.near.run.value ≡ given → IsSpelled given pdu → IsAddressed given pdu → Piped party t channel (puts given pdu pair)
    by None is spelled addressed = h
    by (Some given) is spelled addressed =
        subst (λ g. Behind party t channel pair pdu g (queue_given pair.near.run.value.queue pair.near.run.value)) (sym is) (queue_behind party t channel pair pdu pair.near.run.value.queue speaks given is spelled addressed h)
near-piped party t channel pair Takes high suits speaks after uttered carried h = by pair.near.coming refl after
  where
    by : (coming : List (List ℕ)) → pair.near.coming ≡ coming → IsMate t.mine channel.own channel.peer (takes_first coming pair.near).run.value → Piped party t channel (with_near (takes_first coming pair.near) pair)
    by [] is after = h
    by (pdu ∷ coming) is after = pop party t channel pair _ _ _ _ pdu coming (first_heard party t channel pair pdu coming high speaks is after h)
near-piped party t channel pair Repeats high suits speaks after uttered carried h = by pair.near.coming refl after
  where
    by : (coming : List (List ℕ)) → pair.near.coming ≡ coming → IsMate t.mine channel.own channel.peer (repeats_first coming pair.near).run.value → Piped party t channel (with_near (repeats_first coming pair.near) pair)
    by [] is after = h
    by (pdu ∷ coming) is after =
        let now : End = occurs (Comes pdu) pair.near in
        subst (λ cs. Next party t channel pair (frames_said party channel now.run.said) (under_way channel.own cs) (under_way channel.peer pair.far.coming) (sdus_up channel.own now.run.up) now.run.value) (sym is)
        (first_heard party t channel pair pdu coming high speaks is after h)
near-piped party t channel pair Loses high suits speaks after uttered carried h = by pair.near.coming refl
  where
    by : (coming : List (List ℕ)) → pair.near.coming ≡ coming → Piped party t channel (with_near (loses_first coming pair.near) pair)
    by [] is = h
    by (pdu ∷ coming) is =
        pop party t channel pair _ _ _ _ pdu coming
        (subst (λ cs. Next party t channel pair (frames_said party channel pair.near.run.said) (under_way channel.own cs) (under_way channel.peer pair.far.coming) (sdus_up channel.own pair.near.run.up) pair.near.run.value) is h)
near-piped party t channel pair (Damages other) high suits speaks after uttered carried h = by pair.near.coming refl after carried
  where
    on : (pdu : List ℕ) (coming : List (List ℕ)) (checked : Bool) → pair.near.coming ≡ pdu ∷ coming → IsSeen (pdu ∷ coming) other → IsMate t.mine channel.own channel.peer (cond checked (occurs (Comes other) (let_go coming pair.near)) (let_go coming pair.near)).run.value
        → Piped party t channel (with_near (cond checked (occurs (Comes other) (let_go coming pair.near)) (let_go coming pair.near)) pair)
    on pdu coming true is seen after = pop party t channel pair _ _ _ _ pdu coming (damage_heard party t channel pair pdu other coming high speaks is seen after h)
    on pdu coming false is seen after =
        pop party t channel pair _ _ _ _ pdu coming
        (subst (λ cs. Next party t channel pair (frames_said party channel pair.near.run.said) (under_way channel.own cs) (under_way channel.peer pair.far.coming) (sdus_up channel.own pair.near.run.up) pair.near.run.value) is h)

    by : (coming : List (List ℕ)) → pair.near.coming ≡ coming → IsMate t.mine channel.own channel.peer (damages_first other coming pair.near).run.value → IsSeen coming other → Piped party t channel (with_near (damages_first other coming pair.near) pair)
    by [] is after seen = h
    by (pdu ∷ coming) is after seen = on pdu coming (has_fcs (channel_of pdu) pair.near.run.value) is seen after
