-- A host sends on a channel only where its peer has accepted options of it.
use Rattle.std.proofs.Common.{◌≡◌, ℕ, ◌%◌, List, [], ◌∷◌, ◌++◌, map, drop, Bool, true, false, cond, eqb, ◌||◌, Option, Some, None, refl, sym, ap, subst, ◌∙◌, ◌⊎◌, inl, inr, arith, append_assoc, append-nil}
use Rattle.std.specs.Prelude.{find, option_map, is_some}
use Rattle.std.specs.List.{list_any}
use Rattle.std.proofs.lemmas.List.Sums.{fold-append}
use Rattle.own_channel_laws.specs.talk_laws.specs.bt_base.proofs.OctetLemmas.{le16-number}
use Rattle.own_channel_laws.specs.talk_laws.specs.acl_fragments.specs.Pieces.{channel_of}
use Rattle.own_channel_laws.specs.talk_laws.specs.capture.specs.declared.flow.Flow.TheVariants.{Into}
use Rattle.own_channel_laws.specs.talk_laws.specs.capture.specs.Histories.{EachAfter}
use Rattle.own_channel_laws.specs.talk_laws.specs.l2cap_signal.specs.Commands.{Command, configuration_response, spelling}
use Rattle.own_channel_laws.specs.talk_laws.specs.l2cap_signal.specs.Reading.{answers}
use Rattle.own_channel_laws.specs.talk_laws.specs.ertm_frames.specs.Frames.{PlainFrame}
use Rattle.own_channel_laws.specs.channel_model.specs.ertm_model.specs.Giving.{next_frame}
use Rattle.own_channel_laws.specs.talk_laws.specs.link_talk.specs.Sayings.{Saying, Carried}
use Rattle.own_channel_laws.specs.channel_model.specs.Value.{Queued, Answer, Ask, Own, Unasked, Asking, Granted, Carrier, Plain, Retransmitting, Setup, Stage, Requested, Connected, Leaving, Closing, Crossed, Held, Channels}
use Rattle.own_channel_laws.specs.channel_model.specs.Policies.{Policy}
use Rattle.own_channel_laws.specs.channel_model.specs.Changing.{has_own, held_at, is_granted, is_open, setup_of}
use Rattle.own_channel_laws.specs.channel_model.specs.Carrying.{takes}
use Rattle.own_channel_laws.specs.channel_model.specs.Giving.{Given, Signal, Whole, Framed, command_of, carrier_gives, some_carrier_gives, stage_gives, gives, held_gives, queue_gives, next_given}
use Rattle.own_channel_laws.specs.channel_model.specs.Calls.{has_fcs, setup_on, carrier_if, open_carrier, carrier_at, connected, asks_features, disconnected}
use Rattle.own_channel_laws.specs.channel_model.proofs.Lookups.{own_of, Distinct, found-distinct}
use Rattle.own_channel_laws.specs.OwnTalk.{spoken, command_with, asked_between, said_with_all}
use Rattle.own_channel_laws.specs.Runs.{Occurrence, Comes, Connects, AsksFeatures, Disconnects, Sends, Gives, Fires, Tells, peer_at, said_by_carrier, said_as, said_in, Run, run_of}
use Rattle.own_channel_laws.specs.Views.{peer_of}
use Rattle.own_channel_laws.specs.Signals.{StandsIn}
use Rattle.own_channel_laws.specs.Frames.{IsSpelled, IsUttered}
use Rattle.channel_laws.specs.Pairs.{End, Pair, new_pair, Happening, Acts, Puts, Takes, Repeats, Loses, Damages, is_alone, occurs, with_near, puts, let_go, takes_first, repeats_first, loses_first, damages_first, happens_near, Side, Near, Far, turned, Turn, happens_at, pair_after, pair_of, IsRunOf}
use Rattle.channel_laws.specs.Ends.{end_at, DoesSo}
use Rattle.channel_laws.specs.Belonging.{said_at, AreRead}
use Rattle.channel_laws.specs.Pipes.{IsAddressed, IsSeen, IsCarried}
use Rattle.channel_laws.specs.Consent.{IsShown, HasAccepted, HasPart, PeersHaveAccepted}
use Rattle.channel_laws.proofs.Assents.{accepted-more, IsCarried as Carries_to, carried-accepted}
use Rattle.channel_laws.proofs.Assenting.{successes-accept}
use Rattle.channel_laws.proofs.Belonging.{pledges-were_said, wishes-wished}
use Rattle.own_channel_laws.proofs.Both.{and-right}
use Rattle.own_channel_laws.proofs.Entries.{or_right}
use Rattle.channel_laws.proofs.Pairing.{each-end_runs, end-policy}
use Rattle.own_channel_laws.proofs.Passages.{spelled-frame}
use Rattle.own_channel_laws.proofs.Running.{IsSound, all-sound}
use Rattle.own_channel_laws.proofs.Saying.{stands-either}
use Rattle.channel_laws.proofs.Shown.{grants-are_shown}
use Rattle.own_channel_laws.proofs.Signalling.{is_carried, IsBare, bare-asked, bare-left, bare-with_all, bare-fired}

-- ---- a PDU that comes in

bare_none : (said : List Saying) (pdu : List ℕ) → IsBare said → StandsIn (Carried Into pdu) said → ⊥
bare_none [] pdu bare is = is
bare_none (s ∷ said) pdu bare (inl same) = let never : true ≡ false = sym (ap (λ x. is_carried x || list_any is_carried said) same) ∙ bare in cc
bare_none (s ∷ said) pdu bare (inr later) = bare_none said pdu (or_right (is_carried s) (list_any is_carried said) bare) later

-- it is what is heard of it
abbrev Brings : Occurrence → List ℕ → Type 0
Brings (Comes octets) pdu = (octets ≡ pdu) × (eqb (channel_of octets) 0x0001 ≡ false)
Brings (Connects psm) pdu = ⊥
Brings AsksFeatures pdu = ⊥
Brings (Disconnects own) pdu = ⊥
Brings (Sends own sdu) pdu = ⊥
Brings (Gives octets) pdu = ⊥
Brings Fires pdu = ⊥
Brings Tells pdu = ⊥

sent_none : (carrier : Option Carrier) (peer : ℕ) (sdu pdu : List ℕ) → StandsIn (Carried Into pdu) (said_by_carrier carrier peer sdu) → ⊥
sent_none None peer sdu pdu is = is
sent_none (Some (Plain agreed None)) peer sdu pdu (inl same) = cc
sent_none (Some (Plain agreed None)) peer sdu pdu (inr none) = none
sent_none (Some (Plain agreed (Some waiting))) peer sdu pdu is = is
sent_none (Some (Retransmitting machine)) peer sdu pdu is = is

given_none : (given : Option Given) (octets pdu : List ℕ) → StandsIn (Carried Into pdu) (said_as given octets) → ⊥
given_none None octets pdu is = is
given_none (Some (Signal command)) octets pdu is = is
given_none (Some (Whole peer sdu)) octets pdu is = is
given_none (Some (Framed peer frame)) octets pdu (inl same) = cc
given_none (Some (Framed peer frame)) octets pdu (inr none) = none

brings_in : (policy : Policy) (more : Occurrence) (v : Channels) (pdu : List ℕ) → StandsIn (Carried Into pdu) (said_in policy more v) → Brings more pdu
brings_in policy (Comes octets) v pdu is = by (eqb (channel_of octets) 0x0001) refl is
  where
    by : (signal : Bool) → eqb (channel_of octets) 0x0001 ≡ signal → StandsIn (Carried Into pdu) (cond signal (said_with_all policy (answers (drop 4 octets)) v) (Carried Into octets ∷ asked_between v (takes (channel_of octets) octets v)))
        → (octets ≡ pdu) × (eqb (channel_of octets) 0x0001 ≡ false)
    by true to stands = absurd (bare_none _ pdu (bare-with_all policy (answers (drop 4 octets)) v) stands)
    by false to (inl same) = (cc, to)
    by false to (inr own) = absurd (bare_none _ pdu (bare-asked v (takes (channel_of octets) octets v)) own)
brings_in policy (Connects psm) v pdu is = bare_none _ pdu (bare-asked v (connected psm v)) is
brings_in policy AsksFeatures v pdu is = bare_none _ pdu (bare-asked v (asks_features v)) is
brings_in policy (Disconnects own) v pdu is = bare_none _ pdu (bare-left own v (disconnected own v)) is
brings_in policy (Sends own sdu) v pdu is = sent_none (carrier_at own v) (peer_at (held_at own v)) sdu pdu is
brings_in policy (Gives octets) v pdu is = given_none (next_given v) octets pdu is
brings_in policy Fires v pdu is = bare_none _ pdu (bare-fired policy.tries (map (λ (held : Held). held.own) v.held) v) is
brings_in policy Tells v pdu is = is

-- ---- a PDU that is given

-- for an endpoint of the peer
abbrev pub GoesTo : Given → ℕ → Type 0
GoesTo (Signal command) peer = ⊥
GoesTo (Whole to sdu) peer = to ≡ peer
GoesTo (Framed to frame) peer = to ≡ peer

pub goes_to : (given : Given) (pdu : List ℕ) → IsSpelled (Some given) pdu → IsAddressed (Some given) pdu → eqb (channel_of pdu) 0x0001 ≡ false → GoesTo given (channel_of pdu)
goes_to (Signal command) pdu spelled addressed apart =
    let to : channel_of pdu ≡ 0x0001 = ap channel_of spelled.0 ∙ le16-number 0x0001 (spelling command) (omega arith) in
    let never : true ≡ false = sym (ap (λ n. eqb n 0x0001) to) ∙ apart in cc
goes_to (Whole peer sdu) pdu spelled addressed apart = sym addressed
goes_to (Framed peer frame) pdu spelled addressed apart = sym (spelled-frame peer frame pdu spelled.0 spelled.1).1

given_peer : (carrier : Carrier) (to peer : ℕ) (given : Given) → carrier_gives carrier to ≡ Some given → GoesTo given peer → to ≡ peer
given_peer (Plain agreed None) to peer given gives goes = cc
given_peer (Plain agreed (Some sdu)) to peer given gives goes = let whole : Whole to sdu ≡ given = cc in subst (λ g. GoesTo g peer) (sym whole) goes
given_peer (Retransmitting machine) to peer given gives goes = by (next_frame machine) gives
  where
    by : (frame : Option PlainFrame) → option_map (Framed to) frame ≡ Some given → to ≡ peer
    by None gives = cc
    by (Some frame) gives = let framed : Framed to frame ≡ given = cc in subst (λ g. GoesTo g peer) (sym framed) goes

-- it comes of what carries the SDUs of a channel for this endpoint
pub record Gives_out (peer : ℕ) (given : Given) (v : Channels) : Type 0 where
  pub held : Held
  pub setup : Setup
  pub carrier : Carrier
  pub found : held_at held.own v ≡ Some held
  pub has : setup_of held.stage ≡ Some setup
  pub is : setup.carrier ≡ Some carrier
  pub to : peer_of held.stage ≡ Some peer
  pub gives_it : carrier_gives carrier peer ≡ Some given

setup_gives : (v : Channels) (held : Held) (setup : Setup) (to peer : ℕ) (given : Given) → find (has_own held.own) v.held ≡ Some held → setup_of held.stage ≡ Some setup → peer_of held.stage ≡ Some to → some_carrier_gives setup.carrier to ≡ Some given → GoesTo given peer → Gives_out peer given v
setup_gives v held setup to peer given found has to_is giving goes = by setup.carrier refl giving
  where
    by : (carrier : Option Carrier) → setup.carrier ≡ carrier → some_carrier_gives carrier to ≡ Some given → Gives_out peer given v
    by None is giving = cc
    by (Some carrier) is giving =
        let same : to ≡ peer = given_peer carrier to peer given giving goes in
        record { held = held; setup = setup; carrier = carrier; found = found; has = has; is = is; to = to_is ∙ ap Some same; gives_it = ap (carrier_gives carrier) (sym same) ∙ giving }

stage_out : (v : Channels) (held : Held) (stage : Stage) (peer : ℕ) (given : Given) → find (has_own held.own) v.held ≡ Some held → held.stage ≡ stage → stage_gives stage ≡ Some given → GoesTo given peer → Gives_out peer given v
stage_out v held (Requested request) peer given found is giving goes = cc
stage_out v held (Connected to setup) peer given found is giving goes = setup_gives v held setup to peer given found (ap setup_of is) (ap peer_of is) giving goes
stage_out v held (Leaving to setup request) peer given found is giving goes = setup_gives v held setup to peer given found (ap setup_of is) (ap peer_of is) giving goes
stage_out v held (Closing to request checked) peer given found is giving goes = cc
stage_out v held (Crossed to request) peer given found is giving goes = cc

pub queue-out : (v : Channels) (queue : List Queued) (peer : ℕ) (given : Given) → Distinct own_of v.held → queue_gives queue v ≡ Some given → GoesTo given peer → Gives_out peer given v
queue-out v [] peer given lone giving goes = by (find gives v.held) refl giving
  where
    by : (held : Option Held) → find gives v.held ≡ held → held_gives held ≡ Some given → Gives_out peer given v
    by None is given_is = cc
    by (Some held) is given_is = stage_out v held held.stage peer given (found-distinct own_of gives v.held held lone is) refl given_is goes
queue-out v (Answer command ∷ behind) peer given lone giving goes = let one : Signal command ≡ given = cc in absurd (subst (λ g. GoesTo g peer) (sym one) goes)
queue-out v (Ask errand ∷ behind) peer given lone giving goes = by (command_of errand v) giving
  where
    by : (command : Option Command) → option_map Signal command ≡ Some given → Gives_out peer given v
    by None is = cc
    by (Some command) is = let one : Signal command ≡ given = cc in absurd (subst (λ g. GoesTo g peer) (sym one) goes)

out_carries : (v : Channels) (peer : ℕ) (given : Given) → Gives_out peer given v → Carries_to peer v
out_carries v peer given g = record { held = g.held; setup = g.setup; found = g.found; has = g.has; to = g.to; carries = ap is_some g.is }

-- ---- both ends

-- each PDU that one end heard on a channel, and each that is under way to it, is of a channel of which the other accepted options
record Trusts (end' : End) (other : List Saying) : Type 0 where
  heard : (pdu : List ℕ) → StandsIn (Carried Into pdu) end'.run.said → HasAccepted (channel_of pdu) other
  coming : (pdu : List ℕ) → StandsIn pdu end'.coming → eqb (channel_of pdu) 0x0001 ≡ false → HasAccepted (channel_of pdu) other

record BothTrust (pair : Pair) : Type 0 where
  near : Trusts pair.near pair.far.run.said
  far : Trusts pair.far pair.near.run.said

more_said : (end' : End) (other more : List Saying) → Trusts end' other → Trusts end' (other ++ more)
more_said end' other more trusts = record { heard = λ pdu is. accepted-more (channel_of pdu) other more (trusts.heard pdu is); coming = λ pdu is apart. accepted-more (channel_of pdu) other more (trusts.coming pdu is apart) }

more_heard : (end' : End) (other : List Saying) (more : Occurrence) → ((pdu : List ℕ) → Brings more pdu → HasAccepted (channel_of pdu) other) → Trusts end' other → Trusts (occurs more end') other
more_heard end' other more brings trusts = record { heard = heard; coming = trusts.coming }
  where
    heard : (pdu : List ℕ) → StandsIn (Carried Into pdu) (end'.run.said ++ said_in end'.policy more end'.run.value) → HasAccepted (channel_of pdu) other
    heard pdu is = by (stands-either (Carried Into pdu) end'.run.said (said_in end'.policy more end'.run.value) is)
      where
        by : StandsIn (Carried Into pdu) end'.run.said ⊎ StandsIn (Carried Into pdu) (said_in end'.policy more end'.run.value) → HasAccepted (channel_of pdu) other
        by (inl old) = trusts.heard pdu old
        by (inr new) = brings pdu (brings_in end'.policy more end'.run.value pdu new)

one_occurs : (pair : Pair) (end' : End) (more : Occurrence) → end'.run ≡ pair.near.run → Trusts end' pair.far.run.said → ((pdu : List ℕ) → Brings more pdu → HasAccepted (channel_of pdu) pair.far.run.said) → BothTrust pair → BothTrust (with_near (occurs more end') pair)
one_occurs pair end' more run_is trusts brings both = record {
  near = more_heard end' pair.far.run.said more brings trusts;
  far = subst (λ (run : Run). Trusts pair.far (run.said ++ said_in end'.policy more end'.run.value)) (sym run_is) (more_said pair.far pair.near.run.said (said_in end'.policy more end'.run.value) both.far);
}

lets_trust : (pair : Pair) (coming : List (List ℕ)) (pdu : List ℕ) → pair.near.coming ≡ pdu ∷ coming → BothTrust pair → Trusts (let_go coming pair.near) pair.far.run.said
lets_trust pair coming pdu is both = record { heard = both.near.heard; coming = λ other stands apart. both.near.coming other (subst (StandsIn other) (sym is) (inr stands)) apart }

-- what comes in was under way
first_brings : (pair : Pair) (coming : List (List ℕ)) (pdu : List ℕ) → pair.near.coming ≡ pdu ∷ coming → BothTrust pair → (other : List ℕ) → Brings (Comes pdu) other → HasAccepted (channel_of other) pair.far.run.said
first_brings pair coming pdu is both other (same, apart) = subst (λ p. HasAccepted (channel_of p) pair.far.run.said) same (both.near.coming pdu (subst (StandsIn pdu) (sym is) (inl refl)) apart)

takes_trust : (pair : Pair) (coming : List (List ℕ)) → pair.near.coming ≡ coming → BothTrust pair → BothTrust (with_near (takes_first coming pair.near) pair)
takes_trust pair [] is both = record { near = both.near; far = both.far }
takes_trust pair (pdu ∷ coming) is both = one_occurs pair (let_go coming pair.near) (Comes pdu) refl (lets_trust pair coming pdu is both) (first_brings pair coming pdu is both) both

repeats_trust : (pair : Pair) (coming : List (List ℕ)) → pair.near.coming ≡ coming → BothTrust pair → BothTrust (with_near (repeats_first coming pair.near) pair)
repeats_trust pair [] is both = record { near = both.near; far = both.far }
repeats_trust pair (pdu ∷ coming) is both = one_occurs pair pair.near (Comes pdu) refl both.near (first_brings pair coming pdu is both) both

loses_trust : (pair : Pair) (coming : List (List ℕ)) → pair.near.coming ≡ coming → BothTrust pair → BothTrust (with_near (loses_first coming pair.near) pair)
loses_trust pair [] is both = record { near = both.near; far = both.far }
loses_trust pair (pdu ∷ coming) is both = record { near = lets_trust pair coming pdu is both; far = both.far }

damages_trust : (pair : Pair) (octets : List ℕ) (coming : List (List ℕ)) → pair.near.coming ≡ coming → IsSeen coming octets → BothTrust pair → BothTrust (with_near (damages_first octets coming pair.near) pair)
damages_trust pair octets [] is seen both = record { near = both.near; far = both.far }
damages_trust pair octets (pdu ∷ coming) is seen both = by (has_fcs (channel_of pdu) pair.near.run.value)
  where
    by : (checked : Bool) → BothTrust (with_near (cond checked (occurs (Comes octets) (let_go coming pair.near)) (let_go coming pair.near)) pair)
    by true =
        one_occurs pair (let_go coming pair.near) (Comes octets) refl (lets_trust pair coming pdu is both)
        (λ other brings.
        subst (λ n. HasAccepted n pair.far.run.said) (sym seen.0 ∙ ap channel_of brings.0) (both.near.coming pdu (subst (StandsIn pdu) (sym is) (inl refl)) (ap (λ n. eqb n 0x0001) (sym seen.0) ∙ brings.1))) both
    by false = record { near = lets_trust pair coming pdu is both; far = both.far }

puts_trust : (pair : Pair) (pdu : List ℕ) (given : Option Given) → IsSound pair.near.policy pair.near.run → next_given pair.near.run.value ≡ given → IsSpelled given pdu → IsAddressed given pdu → BothTrust pair → BothTrust (puts given pdu pair)
puts_trust pair pdu None sound is spelled addressed both = both
puts_trust pair pdu (Some given) sound is spelled addressed both = record { near = after.near; far = record { heard = after.far.heard; coming = coming } }
  where
    after : BothTrust (with_near (occurs (Gives pdu) pair.near) pair)
    after = one_occurs pair pair.near (Gives pdu) refl both.near (λ other none. elim none [ ]) both

    coming : (octets : List ℕ) → StandsIn octets (pair.far.coming ++ pdu ∷ []) → eqb (channel_of octets) 0x0001 ≡ false → HasAccepted (channel_of octets) (pair.near.run.said ++ said_in pair.near.policy (Gives pdu) pair.near.run.value)
    coming octets stands apart = by (stands-either octets pair.far.coming (pdu ∷ []) stands)
      where
        by : StandsIn octets pair.far.coming ⊎ StandsIn octets (pdu ∷ []) → HasAccepted (channel_of octets) (pair.near.run.said ++ said_in pair.near.policy (Gives pdu) pair.near.run.value)
        by (inl old) = after.far.coming octets old apart
        by (inr (inl same)) =
            let here : eqb (channel_of pdu) 0x0001 ≡ false = ap (λ p. eqb (channel_of p) 0x0001) same ∙ apart in
            subst (λ p. HasAccepted (channel_of p) (pair.near.run.said ++ said_in pair.near.policy (Gives pdu) pair.near.run.value)) same
            (accepted-more (channel_of pdu) pair.near.run.said (said_in pair.near.policy (Gives pdu) pair.near.run.value)
            (carried-accepted pair.near.policy pair.near.run.said pair.near.run.value (channel_of pdu) sound
            (out_carries pair.near.run.value (channel_of pdu) given (queue-out pair.near.run.value pair.near.run.value.queue (channel_of pdu) given sound.core.lone is (goes_to given pdu spelled addressed here)))))
        by (inr (inr none)) = elim none [ ]

near_trusts : (happening : Happening) (pair : Pair) → IsSound pair.near.policy pair.near.run → DoesSo IsUttered happening pair.near → IsCarried happening pair.near → BothTrust pair → BothTrust (happens_near happening pair)
near_trusts (Acts occurrence) pair sound uttered carried both = by (is_alone occurrence) refl
  where
    silent : (more : Occurrence) → is_alone more ≡ true → (pdu : List ℕ) → Brings more pdu → HasAccepted (channel_of pdu) pair.far.run.said
    silent (Comes octets) alone pdu brings = cc
    silent (Connects psm) alone pdu none = elim none [ ]
    silent AsksFeatures alone pdu none = elim none [ ]
    silent (Disconnects own) alone pdu none = elim none [ ]
    silent (Sends own sdu) alone pdu none = elim none [ ]
    silent (Gives octets) alone pdu none = cc
    silent Fires alone pdu none = elim none [ ]
    silent Tells alone pdu none = elim none [ ]

    by : (alone : Bool) → is_alone occurrence ≡ alone → BothTrust (cond alone (with_near (occurs occurrence pair.near) pair) pair)
    by true alone = one_occurs pair pair.near occurrence refl both.near (silent occurrence alone) both
    by false alone = both
near_trusts (Puts pdu) pair sound uttered carried both = puts_trust pair pdu (next_given pair.near.run.value) sound refl uttered carried both
near_trusts Takes pair sound uttered carried both = takes_trust pair pair.near.coming refl both
near_trusts Repeats pair sound uttered carried both = repeats_trust pair pair.near.coming refl both
near_trusts Loses pair sound uttered carried both = loses_trust pair pair.near.coming refl both
near_trusts (Damages octets) pair sound uttered carried both = damages_trust pair octets pair.near.coming refl carried both

turned_trust : (pair : Pair) → BothTrust pair → BothTrust (turned pair)
turned_trust pair both = record { near = both.far; far = both.near }

all_trust : (near far : Policy) (past turns : List Turn) → EachAfter (λ front turn. DoesSo IsUttered turn.happening (end_at turn.side (pair_of near far front))) past turns → EachAfter (λ front turn. IsCarried turn.happening (end_at turn.side (pair_of near far front))) past turns
    → ((front : List Turn) → IsSound (pair_of near far front).near.policy (pair_of near far front).near.run × IsSound (pair_of near far front).far.policy (pair_of near far front).far.run) → BothTrust (pair_of near far past) → BothTrust (pair_of near far (past ++ turns))
all_trust near far past [] uttered carried sound both = subst (λ list. BothTrust (pair_of near far list)) (sym (append-nil past)) both
all_trust near far past (turn ∷ turns) (now, uttered) (passes, carried) sound both =
    subst (λ list. BothTrust (pair_of near far list)) (append_assoc past (turn ∷ []) turns)
    (all_trust near far (past ++ turn ∷ []) turns uttered carried sound (subst BothTrust (sym (fold-append pair_after (new_pair near far) past (turn ∷ []))) (at turn.side turn.happening now passes)))
  where
    pair : Pair
    pair = pair_of near far past

    at : (side : Side) (happening : Happening) → DoesSo IsUttered happening (end_at side pair) → IsCarried happening (end_at side pair) → BothTrust (happens_at side happening pair)
    at Near happening so passes = near_trusts happening pair (sound past).0 so passes both
    at Far happening so passes = turned_trust (happens_near happening (turned pair)) (near_trusts happening (turned pair) (sound past).1 so passes (turned_trust pair both))

nothing_yet : (near far : Policy) → BothTrust (new_pair near far)
nothing_yet near far = record { near = record { heard = λ pdu is. elim is [ ]; coming = λ pdu is. elim is [ ] }; far = record { heard = λ pdu is. elim is [ ]; coming = λ pdu is. elim is [ ] } }

-- ---- the law

granted_is : (own : Own) → is_granted own ≡ true → own ≡ Granted
granted_is Unasked is = cc
granted_is (Asking request options) is = cc
granted_is Granted is = refl

opened_shown : (policy : Policy) (list : List Occurrence) (own : ℕ) (carrier : Carrier) → carrier_at own (run_of policy list).value ≡ Some carrier → IsShown own (run_of policy list).said
opened_shown policy list own carrier is = by (setup_on (held_at own (run_of policy list).value)) refl is
  where
    by : (setup : Option Setup) → setup_on (held_at own (run_of policy list).value) ≡ setup → open_carrier setup ≡ Some carrier → IsShown own (run_of policy list).said
    by None at opened = cc
    by (Some setup) at opened = on (is_open setup) refl opened
      where
        on : (b : Bool) → is_open setup ≡ b → carrier_if b setup ≡ Some carrier → IsShown own (run_of policy list).said
        on true shows opened = grants-are_shown policy list own setup at (granted_is setup.own (and-right (is_some setup.carrier) (is_granted setup.own) shows))
        on false shows opened = cc

sound_one : (policy : Policy) (end' : End) → end'.policy ≡ policy → IsRunOf policy end'.run → IsSound end'.policy end'.run
sound_one policy end' is (list, runs) = subst (λ p. IsSound p end'.run) (sym is) (subst (IsSound policy) (sym runs) (all-sound policy list))

pub both-sound : (near far : Policy) (turns : List Turn) → IsSound (pair_of near far turns).near.policy (pair_of near far turns).near.run × IsSound (pair_of near far turns).far.policy (pair_of near far turns).far.run
both-sound near far turns = (
  sound_one near (pair_of near far turns).near (end-policy near far turns Near) (each-end_runs near far turns).0,
  sound_one far (pair_of near far turns).far (end-policy near far turns Far) (each-end_runs near far turns).1,
)

-- no request that comes says that more follow
no_parts : (near far : Policy) (turns : List Turn) → AreRead near far turns → (side : Side) → HasPart (said_at side (pair_of near far turns)) → ⊥
no_parts near far turns read side (identifier, own, flags, options, odd, stands) =
    let none : flags ≡ 0 = (wishes-wished near far turns read side identifier own flags options stands).flags_are in
    let never : false ≡ true = sym (ap (λ n. eqb (n % 2) 1) none) ∙ odd in cc

success_accepts : (near far policy : Policy) (turns : List Turn) → AreRead near far turns → (side : Side) (list : List Occurrence) → said_at side (pair_of near far turns) ≡ (run_of policy list).said → (identifier peer flags : ℕ) (options : List ℕ)
    → StandsIn (spoken (command_with identifier (configuration_response peer flags 0 options))) (said_at side (pair_of near far turns)) → HasAccepted peer (said_at side (pair_of near far turns))
success_accepts near far policy turns read side list is identifier peer flags options stands =
    by (successes-accept policy list identifier peer flags options (subst (StandsIn (spoken (command_with identifier (configuration_response peer flags 0 options)))) is stands))
  where
    by : HasAccepted peer (run_of policy list).said ⊎ HasPart (run_of policy list).said → HasAccepted peer (said_at side (pair_of near far turns))
    by (inl accepted) = subst (HasAccepted peer) (sym is) accepted
    by (inr part) = absurd (no_parts near far turns read side (subst HasPart (sym is) part))

pub peers-have_accepted : PeersHaveAccepted
peers-have_accepted near far turns uttered read passes side own carrier opened = by side opened
  where
    pair : Pair
    pair = pair_of near far turns

    sounds : (front : List Turn) → IsSound (pair_of near far front).near.policy (pair_of near far front).near.run × IsSound (pair_of near far front).far.policy (pair_of near far front).far.run
    sounds front = both-sound near far front

    both : BothTrust pair
    both = all_trust near far [] turns uttered passes sounds (nothing_yet near far)

    by : (side : Side) → carrier_at own (end_at side pair).run.value ≡ Some carrier → HasAccepted own (said_at side (turned pair))
    by Near opened =
        let (list, runs) = (each-end_runs near far turns).0 in
        let (other, also) = (each-end_runs near far turns).1 in
        near_by (subst (λ (run : Run). IsShown own run.said) (sym runs) (opened_shown near list own carrier (subst (λ (run : Run). carrier_at own run.value ≡ Some carrier) runs opened))) other also
      where
        near_by : IsShown own pair.near.run.said → (other : List Occurrence) → pair.far.run ≡ run_of far other → HasAccepted own pair.far.run.said
        near_by (inl (identifier, flags, options, stands)) other also =
            success_accepts near far far turns read Far other (ap (λ (run : Run). run.said) also) identifier own flags options (pledges-were_said near far turns read Near (command_with identifier (configuration_response own flags 0 options)) refl stands)
        near_by (inr (pdu, to, stands)) other also = subst (λ n. HasAccepted n pair.far.run.said) to (both.near.heard pdu stands)
    by Far opened =
        let (list, runs) = (each-end_runs near far turns).1 in
        let (other, also) = (each-end_runs near far turns).0 in
        far_by (subst (λ (run : Run). IsShown own run.said) (sym runs) (opened_shown far list own carrier (subst (λ (run : Run). carrier_at own run.value ≡ Some carrier) runs opened))) other also
      where
        far_by : IsShown own pair.far.run.said → (other : List Occurrence) → pair.near.run ≡ run_of near other → HasAccepted own pair.near.run.said
        far_by (inl (identifier, flags, options, stands)) other also =
            success_accepts near far near turns read Near other (ap (λ (run : Run). run.said) also) identifier own flags options (pledges-were_said near far turns read Far (command_with identifier (configuration_response own flags 0 options)) refl stands)
        far_by (inr (pdu, to, stands)) other also = subst (λ n. HasAccepted n pair.near.run.said) to (both.far.heard pdu stands)
