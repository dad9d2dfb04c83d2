-- What goes out on a channel of a host is what it took, where it sends and gives.
use Rattle.std.proofs.Common.{◌≡◌, ℕ, ◌<◌, List, [], ◌∷◌, ◌++◌, Bool, true, false, cond, eqb, ◌&&◌, Option, Some, None, refl, sym, ap, subst, ◌∙◌, inl, inr, append-nil}
use Rattle.std.specs.Prelude.{find, option_map, unwrap_or, is_some, not}
use Rattle.own_channel_laws.specs.talk_laws.specs.bt_base.proofs.OctetLemmas.{le16-number}
use Rattle.own_channel_laws.specs.talk_laws.specs.capture.specs.declared.flow.Flow.TheVariants.{Out}
use Rattle.own_channel_laws.specs.talk_laws.specs.l2cap_signal.specs.Commands.{Command}
use Rattle.own_channel_laws.specs.talk_laws.specs.l2cap_config.specs.declared.wish.Agreed.{Agreed}
use Rattle.own_channel_laws.specs.talk_laws.specs.l2cap_config.specs.declared.wish.Mode.TheVariants.{Basic}
use Rattle.own_channel_laws.specs.talk_laws.specs.ertm_frames.specs.Frames.{PlainFrame}
use Rattle.own_channel_laws.specs.talk_laws.specs.ertm_frames.specs.Picking.{outs, Passage}
use Rattle.own_channel_laws.specs.channel_model.specs.ertm_model.specs.Submitting.{is_busy, submitted}
use Rattle.own_channel_laws.specs.channel_model.specs.ertm_model.specs.Giving.{next_frame, after_frame}
use Rattle.own_channel_laws.specs.talk_laws.specs.link_talk.specs.declared.channel.Channel.{Channel}
use Rattle.own_channel_laws.specs.talk_laws.specs.link_talk.specs.declared.party.Party.{Party}
use Rattle.own_channel_laws.specs.talk_laws.specs.link_talk.specs.Sayings.{Saying, Carried}
use Rattle.own_channel_laws.specs.talk_laws.specs.link_talk.specs.Setups.{is_set}
use Rattle.own_channel_laws.specs.talk_laws.specs.link_talk.specs.Channels.{is_there, reading}
use Rattle.own_channel_laws.specs.channel_model.specs.declared.errand.Errand.{Errand}
use Rattle.own_channel_laws.specs.channel_model.specs.declared.errand.Errand.TheVariants as errands
use Rattle.own_channel_laws.specs.channel_model.specs.Value.{Queued, Answer, Ask, Carrier, Plain, Retransmitting, Setup, Stage, Held, Channels}
use Rattle.own_channel_laws.specs.channel_model.specs.Policies.{Policy}
use Rattle.own_channel_laws.specs.channel_model.specs.Changing.{has_own, held_at, is_granted, is_open, setup_of, stage_with, to_setup}
use Rattle.own_channel_laws.specs.channel_model.specs.Giving.{command_of, Given, Signal, Framed, next_given, after_given, headed, gives, stage_gives, some_carrier_gives, carrier_given, carrier_spent, held_gives, held_given, queue_gives, queue_given, counted, connection_given, configuration_given, disconnection_given, stage_given}
use Rattle.own_channel_laws.specs.channel_model.specs.Calls.{setup_on, carrier_at, open_carrier, carrier_if, carrier_with, sends_on, sends_held, sends}
use Rattle.own_channel_laws.specs.channel_model.proofs.Lookups.{own_of, found-distinct}
use Rattle.own_channel_laws.specs.channel_model.proofs.Walking.{found-own, with-setup}
use Rattle.own_channel_laws.specs.Runs.{said_by_carrier, said_as, peer_at}
use Rattle.own_channel_laws.specs.Frames.{IsSpelled}
use Rattle.channel_laws.specs.Taken.{is_free}
use Rattle.own_channel_laws.proofs.Both.{and-right}
use Rattle.own_channel_laws.proofs.Sound.{Sound}
use Rattle.own_channel_laws.proofs.Keeping.{StageKeeps, HeldKeeps}
use Rattle.channel_laws.proofs.Partaking.{kept-on, keeps-on}
use Rattle.own_channel_laws.proofs.Incoming.{channel_at}
use Rattle.own_channel_laws.proofs.Passing.{CarrierPasses, Passed, passing-gives}
use Rattle.own_channel_laws.proofs.Passages.{GoesOut, out-other, out-own, spelled-frame}
use Rattle.own_channel_laws.proofs.Holding.{frames_on, Pass, kept-setup, IsRead, is-read, set-is}
use Rattle.own_channel_laws.proofs.Outgoing.{Counts, connection-counts, configuration-counts, disconnection-counts, open-stated, gives-none, gives-by}
use Rattle.channel_laws.proofs.Putting.{Puts, puts-gives, puts-takes}
use Rattle.own_channel_laws.specs.channel_model.proofs.Lookups.{eqb-same, found-has}
use Rattle.channel_laws.proofs.Drawing.{CarrierPuts, Putting, Taken, says_on, Draw, Draws, draw-placed, draws-same}

goes_out : (policy : Policy) (past : List Saying) (v : Channels) (own : ℕ) (held : Held) (setup : Setup) (r : IsRead policy past own held setup) → is_set r.entry.setup ≡ true → Sound policy (reading past) v → GoesOut past own r.peer
goes_out policy past v own held setup r set sound = record {
  entry = r.entry;
  found = r.found;
  peer_is = r.here;
  holds = ap (λ t. t && is_there r.entry.life) set ∙ r.there;
  only = λ other x at there same. sound.core.apart other own x r.entry at r.found there r.there (same ∙ sym r.here);
}

-- ---- an SDU is sent

abbrev pub with_sdu : (own : ℕ) → (free : Bool) → List ℕ → Taken → Taken
with_sdu own free sdu given n = given n ++ cond (eqb own n && free) (sdu ∷ []) []

none_taken : (given : List (List ℕ)) (sdu : List ℕ) (b : Bool) → given ++ cond (b && false) (sdu ∷ []) [] ≡ given
none_taken given sdu true = append-nil given
none_taken given sdu false = append-nil given

other_taken : (given : List (List ℕ)) (sdu : List ℕ) (b free : Bool) → b ≡ false → given ++ cond (b && free) (sdu ∷ []) [] ≡ given
other_taken given sdu true free is = cc
other_taken given sdu false free is = append-nil given

-- in basic mode there is nothing to hold
plain_draws : (policy : Policy) (party : Party) (channel : Channel) (given given' : Taken) (past past' : List Saying) (v : Channels) (held : Held) (setup after : Setup) (agreed : Agreed) (waiting waiting' : Option (List ℕ)) → find (has_own held.own) v.held ≡ Some held → setup_of held.stage ≡ Some setup
    → setup.carrier ≡ Some (Plain agreed waiting) → after.carrier ≡ Some (Plain agreed waiting') → ((own : ℕ) → eqb held.own own ≡ false → (given' own ≡ given own) × (says_on party channel past' own ≡ says_on party channel past own))
    → Draw policy party channel given past v → Draws policy party channel given given' past past' (to_setup held after v)
plain_draws policy party channel given given' past past' v held setup after agreed waiting waiting' found has is after_is others all =
    let P = Putting (given held.own) (says_on party channel past held.own) in
    let basic : (policy.wish held.psm).mode ≡ Basic = subst (CarrierPuts (given held.own) (says_on party channel past held.own) (policy.wish held.psm) (is_open setup)) is (kept-on P (policy.wish held.psm) held.stage setup has (subst (HeldKeeps policy P) found (all.at held.own))) in
    draw-placed policy party channel given given' past past' v (to_setup held after v) held (stage_with after held.stage) found refl refl others
    (keeps-on (Putting (given' held.own) (says_on party channel past' held.own)) (policy.wish held.psm) held.stage setup after has
    (subst (CarrierPuts (given' held.own) (says_on party channel past' held.own) (policy.wish held.psm) (is_open after)) (sym after_is) basic))
    (inr (after, Plain agreed waiting', with-setup held.stage setup after has, after_is)) all

sent_on : (policy : Policy) (party : Party) (channel : Channel) (given : Taken) (past : List Saying) (v : Channels) (held : Held) (setup : Setup) (sdu : List ℕ) (carrier : Option Carrier) → find (has_own held.own) v.held ≡ Some held → setup_of held.stage ≡ Some setup → setup.carrier ≡ carrier
    → is_open setup ≡ true → peer_at (Some held) < 65536 → Sound policy (reading past) v → Draw policy party channel given past v
    → (let after : Setup = record setup { carrier = option_map (λ c. carrier_with c sdu) carrier } in Draws policy party channel given (with_sdu held.own (is_free carrier) sdu given) past (past ++ said_by_carrier carrier (peer_at (Some held)) sdu) (to_setup held after v))
sent_on policy party channel given past v held setup sdu None found has is opened fits sound all = let never : false ≡ true = sym (ap (λ (c : Option Carrier). is_some c && is_granted setup.own) is) ∙ opened in absurd cc
sent_on policy party channel given past v held setup sdu (Some (Retransmitting machine)) found has is opened fits sound all =
    let after : Setup = record setup { carrier = Some (Retransmitting (submitted sdu machine)) } in
    let given' : Taken = with_sdu held.own (not (is_busy machine)) sdu given in
    let before : List PlainFrame = says_on party channel past held.own in
    let P = Putting (given held.own) before in
    let puts : Puts (given held.own) before true machine =
    subst (λ b. Puts (given held.own) before b machine) opened (subst (CarrierPuts (given held.own) before (policy.wish held.psm) (is_open setup)) is (kept-on P (policy.wish held.psm) held.stage setup has (subst (HeldKeeps policy P) found (all.at held.own)))) in
    let now : Puts (given' held.own) before true (submitted sdu machine) =
    subst (λ b. Puts (given held.own ++ cond (b && not (is_busy machine)) (sdu ∷ []) []) before true (submitted sdu machine)) (sym (eqb-same held.own)) (puts-takes (given held.own) before machine sdu (is_busy machine) refl puts) in
    subst (λ said. Draws policy party channel given given' past said (to_setup held after v)) (sym (append-nil past))
    (draw-placed policy party channel given given' past past v (to_setup held after v) held (stage_with after held.stage) found refl refl
    (λ own away. (other_taken (given own) sdu (eqb held.own own) (not (is_busy machine)) away, refl))
    (keeps-on (Putting (given' held.own) before) (policy.wish held.psm) held.stage setup after has
    (subst (λ b. Puts (given' held.own) before b (submitted sdu machine)) (sym (and-right (is_some setup.carrier) (is_granted setup.own) opened)) now))
    (inr (after, Retransmitting (submitted sdu machine), with-setup held.stage setup after has, refl)) all)
sent_on policy party channel given past v held setup sdu (Some (Plain agreed (Some waiting))) found has is opened fits sound all =
    let after : Setup = record setup { carrier = Some (Plain agreed (Some waiting)) } in
    let given' : Taken = with_sdu held.own false sdu given in
    subst (λ said. Draws policy party channel given given' past said (to_setup held after v)) (sym (append-nil past))
    (plain_draws policy party channel given given' past past v held setup after agreed (Some waiting) (Some waiting) found has is refl (λ own away. (none_taken (given own) sdu (eqb held.own own), refl)) all)
sent_on policy party channel given past v held setup sdu (Some (Plain agreed None)) found has is opened fits sound all =
    let after : Setup = record setup { carrier = Some (Plain agreed (Some sdu)) } in
    let r : IsRead policy past held.own held setup = is-read policy past v held.own held setup found has sound in
    let to : peer_at (Some held) ≡ r.peer = ap (λ p. unwrap_or p 0) r.peer_is in
    let out : GoesOut past held.own r.peer = goes_out policy past v held.own held setup r (set-is policy past held.own held setup r (Plain agreed None) is (open-stated setup opened)) sound in
    plain_draws policy party channel given (with_sdu held.own true sdu given) past (past ++ Carried Out (headed (peer_at (Some held)) sdu) ∷ []) v held setup after agreed None (Some sdu) found has is refl
    (λ own away. (other_taken (given own) sdu (eqb held.own own) true away, ap outs (out-other party (channel_at channel own) past held.own r.peer (headed (peer_at (Some held)) sdu) out (le16-number (peer_at (Some held)) sdu fits ∙ to) away))) all

sends_by : (policy : Policy) (party : Party) (channel : Channel) (given : Taken) (past : List Saying) (v : Channels) (held : Held) (setup : Setup) (sdu : List ℕ) (opened : Bool) → find (has_own held.own) v.held ≡ Some held → setup_of held.stage ≡ Some setup → is_open setup ≡ opened
    → peer_at (Some held) < 65536 → Sound policy (reading past) v → Draw policy party channel given past v
    → (let sent : Setup = record setup { carrier = option_map (λ c. carrier_with c sdu) setup.carrier } in
    Draws policy party channel given (with_sdu held.own (is_free (carrier_if opened setup)) sdu given) past (past ++ said_by_carrier (carrier_if opened setup) (peer_at (Some held)) sdu) (to_setup held (cond opened sent setup) v))
sends_by policy party channel given past v held setup sdu true found has opened fits sound all = sent_on policy party channel given past v held setup sdu setup.carrier found has refl opened fits sound all
sends_by policy party channel given past v held setup sdu false found has opened fits sound all =
    let before : List PlainFrame = says_on party channel past held.own in
    let P = Putting (given held.own) before in
    let given' : Taken = with_sdu held.own false sdu given in
    subst (λ said. Draws policy party channel given given' past said (to_setup held setup v)) (sym (append-nil past))
    (draw-placed policy party channel given given' past past v (to_setup held setup v) held (stage_with setup held.stage) found refl refl (λ own away. (none_taken (given own) sdu (eqb held.own own), refl))
    (subst (λ g. StageKeeps (Putting g before) (policy.wish held.psm) (stage_with setup held.stage)) (sym (none_taken (given held.own) sdu (eqb held.own held.own)))
    (keeps-on P (policy.wish held.psm) held.stage setup setup has (kept-on P (policy.wish held.psm) held.stage setup has (subst (HeldKeeps policy P) found (all.at held.own)))))
    (inl (none_taken (given held.own) sdu (eqb held.own held.own), refl)) all)

sends_at : (policy : Policy) (party : Party) (channel : Channel) (given : Taken) (past : List Saying) (v : Channels) (held : Held) (setup : Option Setup) (sdu : List ℕ) → find (has_own held.own) v.held ≡ Some held → setup_of held.stage ≡ setup → peer_at (Some held) < 65536 → Sound policy (reading past) v
    → Draw policy party channel given past v → Draws policy party channel given (with_sdu held.own (is_free (open_carrier setup)) sdu given) past (past ++ said_by_carrier (open_carrier setup) (peer_at (Some held)) sdu) (sends_on setup sdu held v)
sends_at policy party channel given past v held None sdu found has fits sound all =
    draws-same policy party channel given (with_sdu held.own false sdu given) past (past ++ []) v v refl refl (append-nil past) (λ own. none_taken (given own) sdu (eqb held.own own)) all
sends_at policy party channel given past v held (Some setup) sdu found has fits sound all = sends_by policy party channel given past v held setup sdu (is_open setup) found has refl fits sound all

sends_of : (policy : Policy) (party : Party) (channel : Channel) (given : Taken) (past : List Saying) (v : Channels) (own : ℕ) (held : Option Held) (sdu : List ℕ) → find (has_own own) v.held ≡ held → peer_at held < 65536 → Sound policy (reading past) v
    → Draw policy party channel given past v → Draws policy party channel given (with_sdu own (is_free (open_carrier (setup_on held))) sdu given) past (past ++ said_by_carrier (open_carrier (setup_on held)) (peer_at held) sdu) (sends_held held sdu v)
sends_of policy party channel given past v own None sdu found fits sound all =
    draws-same policy party channel given (with_sdu own false sdu given) past (past ++ []) v v refl refl (append-nil past) (λ n. none_taken (given n) sdu (eqb own n)) all
sends_of policy party channel given past v own (Some held) sdu found fits sound all =
    subst (λ n. Draws policy party channel given (with_sdu n (is_free (open_carrier (setup_of held.stage))) sdu given) past (past ++ said_by_carrier (open_carrier (setup_of held.stage)) (peer_at (Some held)) sdu) (sends_on (setup_of held.stage) sdu held v)) (found-has own_of own v.held held found)
    (sends_at policy party channel given past v held (setup_of held.stage) sdu (found-own own v held found) refl fits sound all)

pub sends-draw : (policy : Policy) (party : Party) (channel : Channel) (given : Taken) (past : List Saying) (v : Channels) (own : ℕ) (sdu : List ℕ) → peer_at (held_at own v) < 65536 → Sound policy (reading past) v → Draw policy party channel given past v
    → Draws policy party channel given (with_sdu own (is_free (carrier_at own v)) sdu given) past (past ++ said_by_carrier (carrier_at own v) (peer_at (held_at own v)) sdu) (sends own sdu v)
sends-draw policy party channel given past v own sdu fits sound all = sends_of policy party channel given past v own (held_at own v) sdu refl fits sound all

-- ---- an own request is given

stage_counts : (policy : Policy) (party : Party) (channel : Channel) (given : Taken) (past : List Saying) (v : Channels) (f : Stage → Stage) (own : ℕ) (held : Option Held) → Counts f → find (has_own own) v.held ≡ held → Draw policy party channel given past v → Draws policy party channel given given past past (stage_given f held v)
stage_counts policy party channel given past v f own None counts found all = draws-same policy party channel given given past past v v refl refl refl (λ n. refl) all
stage_counts policy party channel given past v f own (Some held) counts found all =
    let here : find (has_own held.own) v.held ≡ Some held = found-own own v held found in
    let P = Putting (given held.own) (says_on party channel past held.own) in
    draw-placed policy party channel given given past past v (stage_given f (Some held) v) held (f held.stage) here refl refl (λ n away. (refl, refl))
    (counts P (policy.wish held.psm) held.stage (subst (HeldKeeps policy P) here (all.at held.own))) (inl (refl, refl)) all

counted_draws : (policy : Policy) (party : Party) (channel : Channel) (given : Taken) (past : List Saying) (v : Channels) (errand : Errand) → Draw policy party channel given past v → Draws policy party channel given given past past (counted errand v)
counted_draws policy party channel given past v (errands.Connection own) all = stage_counts policy party channel given past v connection_given own (held_at own v) connection-counts refl all
counted_draws policy party channel given past v (errands.Configuration own) all = stage_counts policy party channel given past v configuration_given own (held_at own v) configuration-counts refl all
counted_draws policy party channel given past v (errands.Disconnection own) all = stage_counts policy party channel given past v disconnection_given own (held_at own v) disconnection-counts refl all
counted_draws policy party channel given past v errands.Features all = draws-same policy party channel given given past past v (counted errands.Features v) refl refl refl (λ n. refl) all

-- ---- a frame is given

spent_by : (policy : Policy) (party : Party) (channel : Channel) (given : Taken) (past : List Saying) (v : Channels) (held : Held) (setup : Setup) (carrier : Option Carrier) (pdu : List ℕ) → find (has_own held.own) v.held ≡ Some held → setup_of held.stage ≡ Some setup → setup.carrier ≡ carrier
    → Sound policy (reading past) v → Pass policy party channel past v → Draw policy party channel given past v → (r : IsRead policy past held.own held setup) → is_some (some_carrier_gives carrier r.peer) ≡ true → IsSpelled (some_carrier_gives carrier r.peer) pdu
    → (let after : Setup = record setup { carrier = option_map carrier_given carrier } in Draws policy party channel given given past (past ++ said_as (some_carrier_gives carrier r.peer) pdu) (to_setup held after v))
spent_by policy party channel given past v held setup None pdu found has is sound pass all r gives spelled = cc
spent_by policy party channel given past v held setup (Some (Plain agreed None)) pdu found has is sound pass all r gives spelled = cc
spent_by policy party channel given past v held setup (Some (Plain agreed (Some sdu))) pdu found has is sound pass all r gives spelled =
    let after : Setup = record setup { carrier = Some (Plain agreed None) } in
    subst (λ said. Draws policy party channel given given past said (to_setup held after v)) (sym (append-nil past)) (plain_draws policy party channel given given past past v held setup after agreed (Some sdu) None found has is refl (λ own away. (refl, refl)) all)
spent_by policy party channel given past v held setup (Some (Retransmitting machine)) pdu found has is sound pass all r gives spelled = by (next_frame machine) refl gives spelled
  where
    after : Setup
    after = record setup { carrier = Some (Retransmitting (after_frame machine)) }

    before : List Passage
    before = frames_on party channel past held.own

    puts : Puts (given held.own) (outs before) (is_open setup) machine
    puts =
        let P = Putting (given held.own) (outs before) in
        subst (CarrierPuts (given held.own) (outs before) (policy.wish held.psm) (is_open setup)) is (kept-on P (policy.wish held.psm) held.stage setup has (subst (HeldKeeps policy P) found (all.at held.own)))

    by : (frame : Option PlainFrame) → next_frame machine ≡ frame → is_some (option_map (Framed r.peer) frame) ≡ true → IsSpelled (option_map (Framed r.peer) frame) pdu → Draws policy party channel given given past (past ++ said_as (option_map (Framed r.peer) frame) pdu) (to_setup held after v)
    by None next gives spelled = cc
    by (Some frame) next gives (spells, octets) =
        let (frame_is, to) = spelled-frame r.peer frame pdu spells octets in
        let passes : CarrierPasses party.frame before (policy.wish held.psm) (is_open setup) (Some (Retransmitting machine)) =
        subst (CarrierPasses party.frame before (policy.wish held.psm) (is_open setup)) is (kept-setup party.frame before (policy.wish held.psm) held.stage setup has (subst (HeldKeeps policy (Passed party.frame before)) found (pass.at held.own))) in
        let (opened, passing) = passing-gives party.frame before (is_open setup) machine frame next passes in
        let now = puts-gives party.frame before (given held.own) (is_open setup) machine frame next passes passing puts in
        let out : GoesOut past held.own r.peer = goes_out policy past v held.own held setup r (set-is policy past held.own held setup r (Retransmitting machine) is (open-stated setup opened)) sound in
        draw-placed policy party channel given given past (past ++ Carried Out pdu ∷ []) v (to_setup held after v) held (stage_with after held.stage) found refl refl
        (λ own away. (refl, ap outs (out-other party (channel_at channel own) past held.own r.peer pdu out to away)))
        (keeps-on (Putting (given held.own) (says_on party channel (past ++ Carried Out pdu ∷ []) held.own)) (policy.wish held.psm) held.stage setup after has
        (subst (λ b. Puts (given held.own) (says_on party channel (past ++ Carried Out pdu ∷ []) held.own) b (after_frame machine)) (sym (and-right (is_some setup.carrier) (is_granted setup.own) opened))
        (subst (λ fs. Puts (given held.own) (outs fs) true (after_frame machine)) (sym (out-own party (channel_at channel held.own) past r.peer pdu frame out to frame_is)) now)))
        (inr (after, Retransmitting (after_frame machine), with-setup held.stage setup after has, refl)) all

spent_on : (policy : Policy) (party : Party) (channel : Channel) (given : Taken) (past : List Saying) (v : Channels) (held : Held) (setup : Option Setup) (pdu : List ℕ) → find (has_own held.own) v.held ≡ Some held → setup_of held.stage ≡ setup → Sound policy (reading past) v
    → Pass policy party channel past v → Draw policy party channel given past v → is_some (stage_gives held.stage) ≡ true → IsSpelled (stage_gives held.stage) pdu → Draws policy party channel given given past (past ++ said_as (stage_gives held.stage) pdu) (carrier_spent setup held v)
spent_on policy party channel given past v held None pdu found has sound pass all gives spelled = let never : false ≡ true = sym (ap (λ (g : Option Given). is_some g) (gives-none held.stage has)) ∙ gives in absurd cc
spent_on policy party channel given past v held (Some setup) pdu found has sound pass all gives spelled =
    let r : IsRead policy past held.own held setup = is-read policy past v held.own held setup found has sound in
    let same : stage_gives held.stage ≡ some_carrier_gives setup.carrier r.peer = gives-by held.stage setup r.peer has r.peer_is in
    subst (λ g. Draws policy party channel given given past (past ++ said_as g pdu) (carrier_spent (Some setup) held v)) (sym same)
    (spent_by policy party channel given past v held setup setup.carrier pdu found has refl sound pass all r (sym (ap (λ (g : Option Given). is_some g) same) ∙ gives) (subst (λ g. IsSpelled g pdu) same spelled))

found_gives : (hs : List Held) (held : Held) → find gives hs ≡ Some held → gives held ≡ true
found_gives [] held is = cc
found_gives (h ∷ hs) held is = by (gives h) refl is (found_gives hs held)
  where
    by : (b : Bool) → gives h ≡ b → cond b (Some h) (find gives hs) ≡ Some held → (find gives hs ≡ Some held → gives held ≡ true) → gives held ≡ true
    by true now is later = let same : h ≡ held = cc in subst (λ x. gives x ≡ true) same now
    by false now is later = later is

held_draws : (policy : Policy) (party : Party) (channel : Channel) (given : Taken) (past : List Saying) (v : Channels) (held : Option Held) (pdu : List ℕ) → find gives v.held ≡ held → Sound policy (reading past) v → Pass policy party channel past v → Draw policy party channel given past v → IsSpelled (held_gives held) pdu
    → Draws policy party channel given given past (past ++ said_as (held_gives held) pdu) (held_given held v)
held_draws policy party channel given past v None pdu found sound pass all spelled = draws-same policy party channel given given past (past ++ []) v v refl refl (append-nil past) (λ n. refl) all
held_draws policy party channel given past v (Some held) pdu found sound pass all spelled =
    spent_on policy party channel given past v held (setup_of held.stage) pdu (found-distinct own_of gives v.held held sound.core.lone found) refl sound pass all (found_gives v.held held found) spelled

queue_draws : (policy : Policy) (party : Party) (channel : Channel) (given : Taken) (past : List Saying) (v : Channels) (queue : List Queued) (pdu : List ℕ) → Sound policy (reading past) v → Pass policy party channel past v → Draw policy party channel given past v → IsSpelled (queue_gives queue v) pdu
    → Draws policy party channel given given past (past ++ said_as (queue_gives queue v) pdu) (queue_given queue v)
queue_draws policy party channel given past v [] pdu sound pass all spelled = held_draws policy party channel given past v (find gives v.held) pdu refl sound pass all spelled
queue_draws policy party channel given past v (Answer command ∷ behind) pdu sound pass all spelled = draws-same policy party channel given given past (past ++ []) v (queue_given (Answer command ∷ behind) v) refl refl (append-nil past) (λ n. refl) all
queue_draws policy party channel given past v (Ask errand ∷ behind) pdu sound pass all spelled =
    let u : Channels = record v { queue = behind } in
    subst (λ said. Draws policy party channel given given past said (counted errand u)) (sym (said_none (command_of errand v)))
    (counted_draws policy party channel given past u errand (draws-same policy party channel given given past past v u refl refl refl (λ n. refl) all).draw)
  where
    said_none : (found : Option Command) → past ++ said_as (option_map Signal found) pdu ≡ past
    said_none None = append-nil past
    said_none (Some command) = append-nil past

pub gives-draw : (policy : Policy) (party : Party) (channel : Channel) (given : Taken) (past : List Saying) (v : Channels) (pdu : List ℕ) → Sound policy (reading past) v → Pass policy party channel past v → Draw policy party channel given past v → IsSpelled (next_given v) pdu
    → Draws policy party channel given given past (past ++ said_as (next_given v) pdu) (after_given v)
gives-draw policy party channel given past v pdu sound pass all spelled = queue_draws policy party channel given past v v.queue pdu sound pass all spelled
