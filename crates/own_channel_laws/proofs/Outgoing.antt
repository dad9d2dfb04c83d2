-- What goes out on a channel is held.
use Rattle.std.proofs.Common.{◌≡◌, ℕ, ◌≤◌, ◌<◌, List, [], ◌∷◌, ◌++◌, map, Bool, true, false, cond, eqb, ◌&&◌, Option, Some, None, refl, sym, ap, subst, ◌∙◌, arith, append-nil}
use Rattle.std.specs.Prelude.{find, option_map, unwrap_or, is_some}
use Rattle.talk_laws.specs.bt_base.proofs.OctetLemmas.{le16-number}
use Rattle.talk_laws.specs.capture.specs.declared.flow.Flow.TheVariants.{Out}
use Rattle.talk_laws.specs.l2cap_config.specs.declared.wish.Mode.TheVariants.{Basic}
use Rattle.talk_laws.specs.l2cap_config.specs.declared.wish.Agreed.{Agreed}
use Rattle.talk_laws.specs.l2cap_config.specs.declared.wish.Wish.{Wish}
use Rattle.talk_laws.specs.ertm_frames.specs.Frames.{PlainFrame}
use Rattle.talk_laws.specs.ertm_frames.specs.Picking.{Passage}
use Rattle.channel_model.specs.ertm_model.specs.Submitting.{submitted}
use Rattle.channel_model.specs.ertm_model.specs.Giving.{next_frame, after_frame}
use Rattle.talk_laws.specs.link_talk.specs.declared.channel.Channel.{Channel}
use Rattle.talk_laws.specs.link_talk.specs.declared.party.Party.{Party}
use Rattle.talk_laws.specs.link_talk.specs.Sayings.{Saying, Carried}
use Rattle.talk_laws.specs.link_talk.specs.Setups.{is_set}
use Rattle.talk_laws.specs.link_talk.specs.Channels.{is_there, reading}
use Rattle.channel_model.specs.declared.errand.Errand.{Errand}
use Rattle.channel_model.specs.declared.errand.Errand.TheVariants as errands
use Rattle.channel_model.specs.Value.{Queued, Answer, Ask, Own, Unasked, Asking, Granted, Carrier, Plain, Retransmitting, Setup, Stage, Requested, Connected, Leaving, Closing, Crossed, Held, Channels}
use Rattle.channel_model.specs.Policies.{Policy}
use Rattle.channel_model.specs.Changing.{has_own, is_stated, held_at, is_granted, is_open, setup_of, stage_with, to_setup, in_place_of}
use Rattle.talk_laws.specs.l2cap_signal.specs.Commands.{Command}
use Rattle.channel_model.specs.Giving.{command_of, Given, Signal, Framed, next_given, after_given, headed, gives, stage_gives, some_carrier_gives, carrier_given, carrier_spent, held_gives, held_given, queue_gives, queue_given, counted, connection_given, configuration_given, disconnection_given, setup_given, own_given, stage_given}
use Rattle.channel_model.specs.Calls.{setup_on, carrier_at, open_carrier, carrier_if, carrier_with, sends_on, sends_held, sends}
use Rattle.channel_model.proofs.Lookups.{own_of, found-distinct, found-placed, find-placed}
use Rattle.channel_model.proofs.Going.{staged}
use Rattle.channel_model.proofs.Walking.{found-own, with-setup}
use Rattle.own_channel_laws.specs.Runs.{said_by_carrier, said_as, peer_at}
use Rattle.own_channel_laws.specs.Frames.{IsSpelled}
use Rattle.own_channel_laws.specs.Views.{peer_of}
use Rattle.own_channel_laws.proofs.Both.{and-right}
use Rattle.own_channel_laws.proofs.Sound.{Sound, at_each}
use Rattle.own_channel_laws.proofs.Steps.{less-apart}
use Rattle.own_channel_laws.proofs.Keeping.{OfCarrier, StageKeeps, HeldKeeps, under}
use Rattle.own_channel_laws.proofs.Incoming.{channel_at}
use Rattle.own_channel_laws.proofs.Passing.{Passing, CarrierPasses, Passed, passing-submits, passing-gives}
use Rattle.own_channel_laws.proofs.Passages.{GoesOut, out-other, out-own, spelled-frame}
use Rattle.own_channel_laws.proofs.Holding.{frames_on, Pass, kept-setup, keeps-setup, IsRead, is-read, set-is}

-- ---- one channel goes on

-- with what is said on it
pass_placed : (policy : Policy) (party : Party) (channel : Channel) (past past' : List Saying) (v w : Channels) (held : Held) (stage : Stage) → find (has_own held.own) v.held ≡ Some held → w.held ≡ map (in_place_of (staged held stage)) v.held → w.next ≡ v.next
    → ((own : ℕ) → eqb held.own own ≡ false → frames_on party channel past' own ≡ frames_on party channel past own) → StageKeeps (Passed party.frame (frames_on party channel past' held.own)) (policy.wish held.psm) stage
    → Pass policy party channel past v → Pass policy party channel past' w
pass_placed policy party channel past past' v w held stage found held_is next_is others kept all = record {
  at = at_each (λ n. HeldKeeps policy (Passed party.frame (frames_on party channel past n)) (find (has_own n) v.held)) (λ n. HeldKeeps policy (Passed party.frame (frames_on party channel past' n)) (find (has_own n) w.held)) held.own
      (λ n away was. subst (HeldKeeps policy (Passed party.frame (frames_on party channel past' n))) (sym (ap (find (has_own n)) held_is ∙ find-placed (staged held stage) v.held n away))
      (subst (λ fs. HeldKeeps policy (Passed party.frame fs) (find (has_own n) v.held)) (sym (others n away)) was))
      (subst (HeldKeeps policy (Passed party.frame (frames_on party channel past' held.own))) (sym (ap (find (has_own held.own)) held_is ∙ found-placed (staged held stage) held v.held found)) kept)
      all.at;
  fresh = λ own psm above.
      let high : v.next ≤ own = omega (arith, next_is, above) in
      others own (less-apart held.own own (under v held v.next own refl all.below found high)) ∙ all.fresh own psm high;
  below = λ own above.
      let high : v.next ≤ own = omega (arith, next_is, above) in
      ap (find (has_own own)) held_is ∙ (find-placed (staged held stage) v.held own (less-apart held.own own (under v held v.next own refl all.below found high)) ∙ all.below own high);
}

pub pass-same : (policy : Policy) (party : Party) (channel : Channel) (past past' : List Saying) (v w : Channels) → w.held ≡ v.held → w.next ≡ v.next → past' ≡ past → Pass policy party channel past v → Pass policy party channel past' w
pass-same policy party channel past past' v w held_is next_is same all = subst (λ said. Pass policy party channel said w) (sym same) (record {
  at = λ own. subst (HeldKeeps policy (Passed party.frame (frames_on party channel past own))) (sym (ap (find (has_own own)) held_is)) (all.at own);
  fresh = λ own psm above. all.fresh own psm (omega (arith, next_is, above));
  below = λ own above. ap (find (has_own own)) held_is ∙ all.below own (omega (arith, next_is, above));
})

-- a channel of an endpoint that something goes out on
goes_out : (policy : Policy) (past : List Saying) (v : Channels) (own : ℕ) (held : Held) (setup : Setup) (r : IsRead policy past own held setup) → is_set r.entry.setup ≡ true → Sound policy (reading past) v → GoesOut past own r.peer
goes_out policy past v own held setup r set sound = record {
  entry = r.entry;
  found = r.found;
  peer_is = r.here;
  holds = ap (λ t. t && is_there r.entry.life) set ∙ r.there;
  only = λ other x at there same. sound.core.apart other own x r.entry at r.found there r.there (same ∙ sym r.here);
}

pub open-stated : (setup : Setup) → is_open setup ≡ true → is_stated setup.own ≡ true
open-stated setup is = by setup.own (and-right (is_some setup.carrier) (is_granted setup.own) is)
  where
    by : (own : Own) → is_granted own ≡ true → is_stated own ≡ true
    by Unasked is = cc
    by (Asking request options) is = cc
    by Granted is = refl

-- in basic mode nothing is held
plain_placed : (policy : Policy) (party : Party) (channel : Channel) (past past' : List Saying) (v : Channels) (held : Held) (setup after : Setup) (agreed : Agreed) (waiting waiting' : Option (List ℕ)) → find (has_own held.own) v.held ≡ Some held → setup_of held.stage ≡ Some setup
    → setup.carrier ≡ Some (Plain agreed waiting) → after.carrier ≡ Some (Plain agreed waiting') → ((own : ℕ) → eqb held.own own ≡ false → frames_on party channel past' own ≡ frames_on party channel past own)
    → Pass policy party channel past v → Pass policy party channel past' (to_setup held after v)
plain_placed policy party channel past past' v held setup after agreed waiting waiting' found has is after_is others all =
    let before : List Passage = frames_on party channel past held.own in
    let basic : (policy.wish held.psm).mode ≡ Basic = subst (CarrierPasses party.frame before (policy.wish held.psm) (is_open setup)) is (kept-setup party.frame before (policy.wish held.psm) held.stage setup has (subst (HeldKeeps policy (Passed party.frame before)) found (all.at held.own))) in
    pass_placed policy party channel past past' v (to_setup held after v) held (stage_with after held.stage) found refl refl others
    (keeps-setup party.frame (frames_on party channel past' held.own) (policy.wish held.psm) (stage_with after held.stage) after (with-setup held.stage setup after has)
    (subst (CarrierPasses party.frame (frames_on party channel past' held.own) (policy.wish held.psm) (is_open after)) (sym after_is) basic)) all

-- ---- an SDU is sent

sent_on : (policy : Policy) (party : Party) (channel : Channel) (past : List Saying) (v : Channels) (held : Held) (setup : Setup) (sdu : List ℕ) (carrier : Option Carrier) → find (has_own held.own) v.held ≡ Some held → setup_of held.stage ≡ Some setup → setup.carrier ≡ carrier
    → is_open setup ≡ true → peer_at (Some held) < 65536 → Sound policy (reading past) v → Pass policy party channel past v
    → (let after : Setup = record setup { carrier = option_map (λ c. carrier_with c sdu) carrier } in Pass policy party channel (past ++ said_by_carrier carrier (peer_at (Some held)) sdu) (to_setup held after v))
sent_on policy party channel past v held setup sdu None found has is opened fits sound all = let never : false ≡ true = sym (ap (λ (c : Option Carrier). is_some c && is_granted setup.own) is) ∙ opened in absurd cc
sent_on policy party channel past v held setup sdu (Some (Retransmitting machine)) found has is opened fits sound all =
    let after : Setup = record setup { carrier = Some (Retransmitting (submitted sdu machine)) } in
    let before : List Passage = frames_on party channel past held.own in
    let passes : CarrierPasses party.frame before (policy.wish held.psm) (is_open setup) (Some (Retransmitting machine)) =
    subst (CarrierPasses party.frame before (policy.wish held.psm) (is_open setup)) is (kept-setup party.frame before (policy.wish held.psm) held.stage setup has (subst (HeldKeeps policy (Passed party.frame before)) found (all.at held.own))) in
    subst (λ said. Pass policy party channel said (to_setup held after v)) (sym (append-nil past))
    (pass_placed policy party channel past past v (to_setup held after v) held (stage_with after held.stage) found refl refl (λ own away. refl)
    (keeps-setup party.frame before (policy.wish held.psm) (stage_with after held.stage) after (with-setup held.stage setup after has)
    (subst (λ b. Passing party.frame before b (submitted sdu machine)) (sym (and-right (is_some setup.carrier) (is_granted setup.own) opened)) (passing-submits party.frame before (is_open setup) machine sdu passes))) all)
sent_on policy party channel past v held setup sdu (Some (Plain agreed (Some waiting))) found has is opened fits sound all =
    let after : Setup = record setup { carrier = Some (Plain agreed (Some waiting)) } in
    subst (λ said. Pass policy party channel said (to_setup held after v)) (sym (append-nil past))
    (plain_placed policy party channel past past v held setup after agreed (Some waiting) (Some waiting) found has is refl (λ own away. refl) all)
sent_on policy party channel past v held setup sdu (Some (Plain agreed None)) found has is opened fits sound all =
    let after : Setup = record setup { carrier = Some (Plain agreed (Some sdu)) } in
    let r : IsRead policy past held.own held setup = is-read policy past v held.own held setup found has sound in
    let to : peer_at (Some held) ≡ r.peer = ap (λ p. unwrap_or p 0) r.peer_is in
    let out : GoesOut past held.own r.peer = goes_out policy past v held.own held setup r (set-is policy past held.own held setup r (Plain agreed None) is (open-stated setup opened)) sound in
    plain_placed policy party channel past (past ++ Carried Out (headed (peer_at (Some held)) sdu) ∷ []) v held setup after agreed None (Some sdu) found has is refl
    (λ own away. out-other party (channel_at channel own) past held.own r.peer (headed (peer_at (Some held)) sdu) out (le16-number (peer_at (Some held)) sdu fits ∙ to) away) all

sends_by : (policy : Policy) (party : Party) (channel : Channel) (past : List Saying) (v : Channels) (held : Held) (setup : Setup) (sdu : List ℕ) (opened : Bool) → find (has_own held.own) v.held ≡ Some held → setup_of held.stage ≡ Some setup → is_open setup ≡ opened
    → peer_at (Some held) < 65536 → Sound policy (reading past) v → Pass policy party channel past v
    → (let sent : Setup = record setup { carrier = option_map (λ c. carrier_with c sdu) setup.carrier } in Pass policy party channel (past ++ said_by_carrier (carrier_if opened setup) (peer_at (Some held)) sdu) (to_setup held (cond opened sent setup) v))
sends_by policy party channel past v held setup sdu true found has opened fits sound all = sent_on policy party channel past v held setup sdu setup.carrier found has refl opened fits sound all
sends_by policy party channel past v held setup sdu false found has opened fits sound all =
    let before : List Passage = frames_on party channel past held.own in
    subst (λ said. Pass policy party channel said (to_setup held setup v)) (sym (append-nil past))
    (pass_placed policy party channel past past v (to_setup held setup v) held (stage_with setup held.stage) found refl refl (λ own away. refl)
    (keeps-setup party.frame before (policy.wish held.psm) (stage_with setup held.stage) setup (with-setup held.stage setup setup has)
    (kept-setup party.frame before (policy.wish held.psm) held.stage setup has (subst (HeldKeeps policy (Passed party.frame before)) found (all.at held.own)))) all)

sends_at : (policy : Policy) (party : Party) (channel : Channel) (past : List Saying) (v : Channels) (held : Held) (setup : Option Setup) (sdu : List ℕ) → find (has_own held.own) v.held ≡ Some held → setup_of held.stage ≡ setup → peer_at (Some held) < 65536 → Sound policy (reading past) v
    → Pass policy party channel past v → Pass policy party channel (past ++ said_by_carrier (open_carrier setup) (peer_at (Some held)) sdu) (sends_on setup sdu held v)
sends_at policy party channel past v held None sdu found has fits sound all = pass-same policy party channel past (past ++ []) v v refl refl (append-nil past) all
sends_at policy party channel past v held (Some setup) sdu found has fits sound all = sends_by policy party channel past v held setup sdu (is_open setup) found has refl fits sound all

sends_of : (policy : Policy) (party : Party) (channel : Channel) (past : List Saying) (v : Channels) (own : ℕ) (held : Option Held) (sdu : List ℕ) → find (has_own own) v.held ≡ held → peer_at held < 65536 → Sound policy (reading past) v
    → Pass policy party channel past v → Pass policy party channel (past ++ said_by_carrier (open_carrier (setup_on held)) (peer_at held) sdu) (sends_held held sdu v)
sends_of policy party channel past v own None sdu found fits sound all = pass-same policy party channel past (past ++ []) v v refl refl (append-nil past) all
sends_of policy party channel past v own (Some held) sdu found fits sound all = sends_at policy party channel past v held (setup_of held.stage) sdu (found-own own v held found) refl fits sound all

pub sends-pass : (policy : Policy) (party : Party) (channel : Channel) (past : List Saying) (v : Channels) (own : ℕ) (sdu : List ℕ) → peer_at (held_at own v) < 65536 → Sound policy (reading past) v → Pass policy party channel past v
    → Pass policy party channel (past ++ said_by_carrier (carrier_at own v) (peer_at (held_at own v)) sdu) (sends own sdu v)
sends-pass policy party channel past v own sdu fits sound all = sends_of policy party channel past v own (held_at own v) sdu refl fits sound all

-- ---- an own request is given

given_own : (own : Own) → is_granted (own_given own) ≡ is_granted own
given_own Unasked = refl
given_own (Asking request options) = refl
given_own Granted = refl

-- what carries is the same, and so is all that is said of it
abbrev pub Counts : (Stage → Stage) → Type 1
Counts f = (P : OfCarrier) (wish : Wish) (stage : Stage) → StageKeeps P wish stage → StageKeeps P wish (f stage)

pub connection-counts : Counts connection_given
connection-counts P wish (Requested request) kept = kept
connection-counts P wish (Connected peer setup) kept = kept
connection-counts P wish (Leaving peer setup request) kept = kept
connection-counts P wish (Closing peer request checked) kept = kept
connection-counts P wish (Crossed peer request) kept = kept

setup_counts : (P : OfCarrier) (wish : Wish) (leaving : Bool) (setup : Setup) → P wish leaving (is_open setup) setup.carrier → P wish leaving (is_open (setup_given setup)) setup.carrier
setup_counts P wish leaving setup kept = subst (λ b. P wish leaving (is_some setup.carrier && b) setup.carrier) (sym (given_own setup.own)) kept

pub configuration-counts : Counts configuration_given
configuration-counts P wish (Requested request) kept = kept
configuration-counts P wish (Connected peer setup) kept = setup_counts P wish false setup kept
configuration-counts P wish (Leaving peer setup request) kept = setup_counts P wish true setup kept
configuration-counts P wish (Closing peer request checked) kept = kept
configuration-counts P wish (Crossed peer request) kept = kept

pub disconnection-counts : Counts disconnection_given
disconnection-counts P wish (Requested request) kept = kept
disconnection-counts P wish (Connected peer setup) kept = kept
disconnection-counts P wish (Leaving peer setup request) kept = kept
disconnection-counts P wish (Closing peer request checked) kept = kept
disconnection-counts P wish (Crossed peer request) kept = kept

stage_counts : (policy : Policy) (party : Party) (channel : Channel) (past : List Saying) (v : Channels) (f : Stage → Stage) (own : ℕ) (held : Option Held) → Counts f → find (has_own own) v.held ≡ held → Pass policy party channel past v → Pass policy party channel past (stage_given f held v)
stage_counts policy party channel past v f own None counts found all = all
stage_counts policy party channel past v f own (Some held) counts found all =
    let here : find (has_own held.own) v.held ≡ Some held = found-own own v held found in
    pass_placed policy party channel past past v (stage_given f (Some held) v) held (f held.stage) here refl refl (λ n away. refl)
    (counts (Passed party.frame (frames_on party channel past held.own)) (policy.wish held.psm) held.stage (subst (HeldKeeps policy (Passed party.frame (frames_on party channel past held.own))) here (all.at held.own))) all

counted_passes : (policy : Policy) (party : Party) (channel : Channel) (past : List Saying) (v : Channels) (errand : Errand) → Pass policy party channel past v → Pass policy party channel past (counted errand v)
counted_passes policy party channel past v (errands.Connection own) all = stage_counts policy party channel past v connection_given own (held_at own v) connection-counts refl all
counted_passes policy party channel past v (errands.Configuration own) all = stage_counts policy party channel past v configuration_given own (held_at own v) configuration-counts refl all
counted_passes policy party channel past v (errands.Disconnection own) all = stage_counts policy party channel past v disconnection_given own (held_at own v) disconnection-counts refl all
counted_passes policy party channel past v errands.Features all = pass-same policy party channel past past v (counted errands.Features v) refl refl refl all

-- ---- an SDU or a frame is given

pub gives-none : (stage : Stage) → setup_of stage ≡ None → stage_gives stage ≡ None
gives-none (Requested request) is = refl
gives-none (Connected peer setup) is = cc
gives-none (Leaving peer setup request) is = cc
gives-none (Closing peer request checked) is = refl
gives-none (Crossed peer request) is = refl

pub gives-by : (stage : Stage) (setup : Setup) (peer : ℕ) → setup_of stage ≡ Some setup → peer_of stage ≡ Some peer → stage_gives stage ≡ some_carrier_gives setup.carrier peer
gives-by (Requested request) setup peer is to = cc
gives-by (Connected p s) setup peer is to = let same : s ≡ setup = cc in let at : p ≡ peer = cc in ap (λ (x : Setup). some_carrier_gives x.carrier p) same ∙ ap (some_carrier_gives setup.carrier) at
gives-by (Leaving p s request) setup peer is to = let same : s ≡ setup = cc in let at : p ≡ peer = cc in ap (λ (x : Setup). some_carrier_gives x.carrier p) same ∙ ap (some_carrier_gives setup.carrier) at
gives-by (Closing p request checked) setup peer is to = cc
gives-by (Crossed p request) setup peer is to = cc

-- what its carrier gives, if anything
spent_by : (policy : Policy) (party : Party) (channel : Channel) (past : List Saying) (v : Channels) (held : Held) (setup : Setup) (carrier : Option Carrier) (pdu : List ℕ) → find (has_own held.own) v.held ≡ Some held → setup_of held.stage ≡ Some setup → setup.carrier ≡ carrier
    → Sound policy (reading past) v → Pass policy party channel past v → (r : IsRead policy past held.own held setup) → is_some (some_carrier_gives carrier r.peer) ≡ true → IsSpelled (some_carrier_gives carrier r.peer) pdu
    → (let after : Setup = record setup { carrier = option_map carrier_given carrier } in Pass policy party channel (past ++ said_as (some_carrier_gives carrier r.peer) pdu) (to_setup held after v))
spent_by policy party channel past v held setup None pdu found has is sound all r gives spelled = cc
spent_by policy party channel past v held setup (Some (Plain agreed None)) pdu found has is sound all r gives spelled = cc
spent_by policy party channel past v held setup (Some (Plain agreed (Some sdu))) pdu found has is sound all r gives spelled =
    let after : Setup = record setup { carrier = Some (Plain agreed None) } in
    subst (λ said. Pass policy party channel said (to_setup held after v)) (sym (append-nil past)) (plain_placed policy party channel past past v held setup after agreed (Some sdu) None found has is refl (λ own away. refl) all)
spent_by policy party channel past v held setup (Some (Retransmitting machine)) pdu found has is sound all r gives spelled = by (next_frame machine) refl gives spelled
  where
    after : Setup
    after = record setup { carrier = Some (Retransmitting (after_frame machine)) }

    before : List Passage
    before = frames_on party channel past held.own

    by : (frame : Option PlainFrame) → next_frame machine ≡ frame → is_some (option_map (Framed r.peer) frame) ≡ true → IsSpelled (option_map (Framed r.peer) frame) pdu → Pass policy party channel (past ++ said_as (option_map (Framed r.peer) frame) pdu) (to_setup held after v)
    by None next gives spelled = cc
    by (Some frame) next gives (spells, octets) =
        let (frame_is, to) = spelled-frame r.peer frame pdu spells octets in
        let passes : CarrierPasses party.frame before (policy.wish held.psm) (is_open setup) (Some (Retransmitting machine)) =
        subst (CarrierPasses party.frame before (policy.wish held.psm) (is_open setup)) is (kept-setup party.frame before (policy.wish held.psm) held.stage setup has (subst (HeldKeeps policy (Passed party.frame before)) found (all.at held.own))) in
        let (opened, passing) = passing-gives party.frame before (is_open setup) machine frame next passes in
        let out : GoesOut past held.own r.peer = goes_out policy past v held.own held setup r (set-is policy past held.own held setup r (Retransmitting machine) is (open-stated setup opened)) sound in
        pass_placed policy party channel past (past ++ Carried Out pdu ∷ []) v (to_setup held after v) held (stage_with after held.stage) found refl refl
        (λ own away. out-other party (channel_at channel own) past held.own r.peer pdu out to away)
        (keeps-setup party.frame (frames_on party channel (past ++ Carried Out pdu ∷ []) held.own) (policy.wish held.psm) (stage_with after held.stage) after (with-setup held.stage setup after has)
        (subst (λ b. Passing party.frame (frames_on party channel (past ++ Carried Out pdu ∷ []) held.own) b (after_frame machine)) (sym (and-right (is_some setup.carrier) (is_granted setup.own) opened))
        (subst (λ fs. Passing party.frame fs true (after_frame machine)) (sym (out-own party (channel_at channel held.own) past r.peer pdu frame out to frame_is)) passing))) all

spent_on : (policy : Policy) (party : Party) (channel : Channel) (past : List Saying) (v : Channels) (held : Held) (setup : Option Setup) (pdu : List ℕ) → find (has_own held.own) v.held ≡ Some held → setup_of held.stage ≡ setup → Sound policy (reading past) v
    → Pass policy party channel past v → is_some (stage_gives held.stage) ≡ true → IsSpelled (stage_gives held.stage) pdu → Pass policy party channel (past ++ said_as (stage_gives held.stage) pdu) (carrier_spent setup held v)
spent_on policy party channel past v held None pdu found has sound all gives spelled = let never : false ≡ true = sym (ap (λ (g : Option Given). is_some g) (gives-none held.stage has)) ∙ gives in absurd cc
spent_on policy party channel past v held (Some setup) pdu found has sound all gives spelled =
    let r : IsRead policy past held.own held setup = is-read policy past v held.own held setup found has sound in
    let same : stage_gives held.stage ≡ some_carrier_gives setup.carrier r.peer = gives-by held.stage setup r.peer has r.peer_is in
    subst (λ g. Pass policy party channel (past ++ said_as g pdu) (carrier_spent (Some setup) held v)) (sym same)
    (spent_by policy party channel past v held setup setup.carrier pdu found has refl sound all r (sym (ap (λ (g : Option Given). is_some g) same) ∙ gives) (subst (λ g. IsSpelled g pdu) same spelled))

found_gives : (hs : List Held) (held : Held) → find gives hs ≡ Some held → gives held ≡ true
found_gives [] held is = cc
found_gives (h ∷ hs) held is = by (gives h) refl is (found_gives hs held)
  where
    by : (b : Bool) → gives h ≡ b → cond b (Some h) (find gives hs) ≡ Some held → (find gives hs ≡ Some held → gives held ≡ true) → gives held ≡ true
    by true now is later = let same : h ≡ held = cc in subst (λ x. gives x ≡ true) same now
    by false now is later = later is

held_passes : (policy : Policy) (party : Party) (channel : Channel) (past : List Saying) (v : Channels) (held : Option Held) (pdu : List ℕ) → find gives v.held ≡ held → Sound policy (reading past) v → Pass policy party channel past v → IsSpelled (held_gives held) pdu
    → Pass policy party channel (past ++ said_as (held_gives held) pdu) (held_given held v)
held_passes policy party channel past v None pdu found sound all spelled = pass-same policy party channel past (past ++ []) v v refl refl (append-nil past) all
held_passes policy party channel past v (Some held) pdu found sound all spelled =
    spent_on policy party channel past v held (setup_of held.stage) pdu (found-distinct own_of gives v.held held sound.core.lone found) refl sound all (found_gives v.held held found) spelled

queue_passes : (policy : Policy) (party : Party) (channel : Channel) (past : List Saying) (v : Channels) (queue : List Queued) (pdu : List ℕ) → Sound policy (reading past) v → Pass policy party channel past v → IsSpelled (queue_gives queue v) pdu
    → Pass policy party channel (past ++ said_as (queue_gives queue v) pdu) (queue_given queue v)
queue_passes policy party channel past v [] pdu sound all spelled = held_passes policy party channel past v (find gives v.held) pdu refl sound all spelled
queue_passes policy party channel past v (Answer command ∷ behind) pdu sound all spelled = pass-same policy party channel past (past ++ []) v (queue_given (Answer command ∷ behind) v) refl refl (append-nil past) all
queue_passes policy party channel past v (Ask errand ∷ behind) pdu sound all spelled =
    let u : Channels = record v { queue = behind } in
    subst (λ said. Pass policy party channel said (counted errand u)) (sym (said_none (command_of errand v)))
    (counted_passes policy party channel past u errand (pass-same policy party channel past past v u refl refl refl all))
  where
    said_none : (found : Option Command) → past ++ said_as (option_map Signal found) pdu ≡ past
    said_none None = append-nil past
    said_none (Some command) = append-nil past

pub gives-pass : (policy : Policy) (party : Party) (channel : Channel) (past : List Saying) (v : Channels) (pdu : List ℕ) → Sound policy (reading past) v → Pass policy party channel past v → IsSpelled (next_given v) pdu
    → Pass policy party channel (past ++ said_as (next_given v) pdu) (after_given v)
gives-pass policy party channel past v pdu sound all spelled = queue_passes policy party channel past v v.queue pdu sound all spelled
