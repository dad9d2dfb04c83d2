-- What the channels of a host carry are octets of SDUs that they took, within the windows that are wished; whatever happens.
use Rattle.std.proofs.Common.{◌≡◌, ℕ, zero, suc, ◌+◌, ◌-◌, ◌≤◌, inl, inr, List, [], ◌∷◌, ◌++◌, length, take, drop, Bool, true, false, cond, eqb, Option, Some, None, Ok, Err, refl, sym, subst, arith, length-append, length-take, length-drop}
use Rattle.std.specs.Prelude.{nat_le}
use Rattle.std.specs.List.{AllByRecursion}
use Rattle.std.proofs.lemmas.Bool.{leb-false}
use Rattle.shelf_model.specs.acl_fragments.specs.Pieces.{channel_of}
use Rattle.shelf_model.specs.bt_base.specs.Octets.{IsOctets}
use Rattle.shelf_model.specs.h4_framing.proofs.OctetLists.{IsOctets-drop, IsOctets-take}
use Rattle.shelf_model.specs.ertm_frames.specs.Answers.{Answer}
use Rattle.shelf_model.specs.ertm_frames.specs.Frames.{PlainFrame}
use Rattle.shelf_model.specs.ertm_frames.specs.Segments.{Segment, whole, start, end, continuation}
use Rattle.shelf_model.specs.ertm_frames.specs.declared.refusal.FrameRefusal.{FrameRefusal}
use Rattle.shelf_model.specs.ertm_model.specs.declared.reason.ErtmReason.{ErtmReason}
use Rattle.shelf_model.specs.ertm_model.specs.declared.reason.ErtmReason.TheVariants.{RetryLimit}
use Rattle.shelf_model.specs.ertm_model.specs.Value.{Kept, Poll, NoPoll, Due, Waits, Ertm}
use Rattle.shelf_model.specs.ertm_model.specs.Giving.{Giving, PollAnswer, Acknowledgement, Rejection, Polling, Again, New, given_again, giving, after_by, first_poll, poll_timed, open_timed, timed, closing, polling}
use Rattle.shelf_model.specs.ertm_model.specs.Hearing.{acknowledged, fault, heard_by, open_heard, heard, closed_by, refusal_fault, refused}
use Rattle.shelf_model.specs.ertm_model.specs.Submitting.{later_within, later_segments, cut, is_busy, submitted, taking}
use Rattle.shelf_model.specs.ertm_model.proofs.Inverting.{Gives, gives}
use Rattle.shelf_model.specs.ertm_model.proofs.Lists.{again-length}
use Rattle.shelf_model.specs.l2cap_config.specs.declared.wish.Mode.{Mode}
use Rattle.shelf_model.specs.l2cap_config.specs.declared.wish.Mode.TheVariants.{Basic, Enhanced}
use Rattle.shelf_model.specs.l2cap_config.specs.declared.wish.Wish.{Wish}
use Rattle.shelf_model.specs.l2cap_config.specs.Agreement.{asked_mode, sent_window, agreed_on}
use Rattle.shelf_model.specs.l2cap_signal.specs.Reading.{answers}
use Rattle.channel_laws.specs.channel_model.specs.declared.event.ChannelEvent.{ChannelEvent}
use Rattle.channel_laws.specs.channel_model.specs.Value.{Carrier, Plain, Retransmitting, Channels, no_channels}
use Rattle.channel_laws.specs.channel_model.specs.Policies.{Policy}
use Rattle.channel_laws.specs.channel_model.specs.Configuring.{bounded_agreement, carrier_by}
use Rattle.channel_laws.specs.channel_model.specs.Carrying.{read_by, machine_heard}
use Rattle.channel_laws.specs.channel_model.specs.Giving.{carrier_given}
use Rattle.channel_laws.specs.channel_model.specs.Calls.{carrier_with}
use Rattle.channel_laws.specs.channel_model.specs.Hearing.{hears, hears_commands}
use Rattle.channel_laws.specs.channel_model.specs.Carrying.{takes}
use Rattle.channel_laws.specs.channel_model.specs.Timing.{timed_out}
use Rattle.channel_laws.specs.channel_model.specs.Giving.{after_given}
use Rattle.channel_laws.specs.channel_model.specs.Calls.{connected, asks_features, disconnected, sends}
use Rattle.channel_laws.specs.channel_model.proofs.Going.{IsAccepted, CarrierGoes, Walks}
use Rattle.channel_laws.specs.channel_model.proofs.Lookups.{own_of, Distinct}
use Rattle.channel_laws.specs.channel_model.proofs.Walking.{commands-go}
use Rattle.channel_laws.specs.channel_model.proofs.Calling.{connected-goes, asks-features-goes, disconnected-goes, sends-goes, takes-goes, timed-goes, given-goes}
use Rattle.channel_laws.proofs.Keeping.{OfCarrier, AllKeep, KeepsOn, Keeps, walks-keep}

-- ---- segments

-- the length of its SDU stands in a segment that begins one
abbrev pub lead : ℕ → ℕ
lead sar = cond (eqb sar 1) 2 0

pub record IsCargo (segment : Segment) : Type 0 where
  pub octets : IsOctets segment.octets
  pub short : lead segment.sar + length segment.octets ≤ 32767

abbrev IsKeptCargo : Kept → Type 0
IsKeptCargo kept = IsCargo kept.segment

later_cargo : (count mps : ℕ) (octets : List ℕ) → IsOctets octets → length octets ≤ 32767 → AllByRecursion IsCargo (later_within count mps octets)
later_cargo zero mps octets fits short = (record { octets = fits; short = omega (arith, short) }, tt)
later_cargo (suc count) mps octets fits short =
    by (nat_le (length octets) mps) (later_cargo count mps (drop mps octets) (IsOctets-drop mps octets fits) (let less = length-drop mps octets in omega (arith, less, short)))
  where
    by : (b : Bool) → AllByRecursion IsCargo (later_within count mps (drop mps octets)) → AllByRecursion IsCargo (cond b (end octets ∷ []) (continuation (take mps octets) ∷ later_within count mps (drop mps octets)))
    by true rest = (record { octets = fits; short = omega (arith, short) }, tt)
    by false rest = (record { octets = IsOctets-take mps octets fits; short = let less = length-take mps octets in omega (arith, less, short) }, rest)

cut_cargo : (mps : ℕ) (sdu : List ℕ) → IsOctets sdu → length sdu ≤ 32767 → AllByRecursion IsCargo (cut mps sdu)
cut_cargo mps sdu fits short = by (nat_le (length sdu) mps) refl
  where
    by : (b : Bool) → nat_le (length sdu) mps ≡ b → AllByRecursion IsCargo (cond b (whole sdu ∷ []) (start (length sdu) (take (mps - 2) sdu) ∷ later_segments mps (drop (mps - 2) sdu)))
    by true is = (record { octets = fits; short = omega (arith, short) }, tt)
    by false is = (
      record { octets = IsOctets-take (mps - 2) sdu fits; short = let long = leb-false (length sdu) mps is in let less = length-take (mps - 2) sdu in omega (arith, long, less, short) },
      later_cargo (length (drop (mps - 2) sdu)) mps (drop (mps - 2) sdu) (IsOctets-drop (mps - 2) sdu fits) (let less = length-drop (mps - 2) sdu in omega (arith, less, short)),
    )

-- ---- a machine

pub record IsLaden (window : ℕ) (m : Ertm) : Type 0 where
  pub unacked : AllByRecursion IsKeptCargo m.sender.unacked
  pub fresh : AllByRecursion IsCargo m.sender.fresh
  pub few : length m.sender.unacked ≤ m.agreed.send_window
  pub small : m.agreed.send_window ≤ window

submitted_laden : (window : ℕ) (sdu : List ℕ) (m : Ertm) → IsOctets sdu → length sdu ≤ 32767 → IsLaden window m → IsLaden window (submitted sdu m)
submitted_laden window sdu m fits short so = by (is_busy m)
  where
    by : (b : Bool) → IsLaden window (cond b m (taking sdu m))
    by true = so
    by false = record { unacked = so.unacked; fresh = cut_cargo m.agreed.send_mps sdu fits short; few = so.few; small = so.small }

again_cargo : (place : ℕ) (kept : List Kept) → AllByRecursion IsKeptCargo kept → AllByRecursion IsKeptCargo (given_again place kept)
again_cargo place [] all = tt
again_cargo zero (one ∷ behind) all = (all.0, all.1)
again_cargo (suc place) (one ∷ behind) all = (all.0, again_cargo place behind all.1)

more_cargo : (kept : List Kept) (one : Kept) → AllByRecursion IsKeptCargo kept → IsKeptCargo one → AllByRecursion IsKeptCargo (kept ++ one ∷ [])
more_cargo [] one all now = (now, tt)
more_cargo (other ∷ kept) one all now = (all.0, more_cargo kept one all.1 now)

given_laden : (window : ℕ) (m : Ertm) (found : Option Giving) → Gives m found → IsLaden window m → IsLaden window (after_by found m)
given_laden window m None gives so = so
given_laden window m (Some PollAnswer) gives so = record { unacked = so.unacked; fresh = so.fresh; few = so.few; small = so.small }
given_laden window m (Some Acknowledgement) gives so = record { unacked = so.unacked; fresh = so.fresh; few = so.few; small = so.small }
given_laden window m (Some Rejection) gives so = record { unacked = so.unacked; fresh = so.fresh; few = so.few; small = so.small }
given_laden window m (Some Polling) gives so = record { unacked = so.unacked; fresh = so.fresh; few = so.few; small = so.small }
given_laden window m (Some (Again kept)) gives so =
    let same = again-length m.sender.next m.sender.unacked in
    record { unacked = again_cargo m.sender.next m.sender.unacked so.unacked; fresh = so.fresh; few = subst (λ (n : ℕ). n ≤ m.agreed.send_window) (sym same) so.few; small = so.small }
given_laden window m (Some (New segment behind)) gives so =
    let waiting : AllByRecursion IsCargo (segment ∷ behind) = subst (AllByRecursion IsCargo) gives.2 so.fresh in
    let one : Kept = record { segment = segment; given = 1 } in
    let room = gives.3 in
    let more = length-append m.sender.unacked (one ∷ []) in
    record { unacked = more_cargo m.sender.unacked one so.unacked waiting.0; fresh = waiting.1; few = omega (arith, room, more); small = so.small }

behind_cargo : (k : ℕ) (kept : List Kept) → AllByRecursion IsKeptCargo kept → AllByRecursion IsKeptCargo (drop k kept)
behind_cargo zero kept all = all
behind_cargo (suc k) [] all = tt
behind_cargo (suc k) (one ∷ kept) all = behind_cargo k kept all.1

heard_laden : (window : ℕ) (frame : PlainFrame) (m : Ertm) → IsLaden window m → IsLaden window (heard frame m)
heard_laden window frame m so = by m.closed
  where
    k : ℕ
    k = acknowledged frame m.sender

    on : (cause : Option ErtmReason) → IsLaden window (heard_by cause frame m)
    on None =
        let less = length-drop k m.sender.unacked in
        let few = so.few in
        record { unacked = behind_cargo k m.sender.unacked so.unacked; fresh = so.fresh; few = omega (arith, less, few); small = so.small }
    on (Some cause) = record { unacked = so.unacked; fresh = so.fresh; few = so.few; small = so.small }

    by : (now : Option ErtmReason) → IsLaden window (open_heard now frame m)
    by None = on (fault frame m)
    by (Some cause) = so

refused_laden : (window : ℕ) (refusal : FrameRefusal) (m : Ertm) → IsLaden window m → IsLaden window (refused refusal m)
refused_laden window refusal m so = by m.closed (refusal_fault refusal)
  where
    by : (now cause : Option ErtmReason) → IsLaden window (closed_by now cause m)
    by (Some reason) cause = so
    by None None = so
    by None (Some cause) = record { unacked = so.unacked; fresh = so.fresh; few = so.few; small = so.small }

timed_laden : (window : ℕ) (m : Ertm) → IsLaden window m → IsLaden window (timed m)
timed_laden window m so = by m.closed
  where
    asks : IsLaden window (polling m)
    asks = record { unacked = so.unacked; fresh = so.fresh; few = so.few; small = so.small }

    first : (kept : List Kept) → IsLaden window (first_poll kept m)
    first [] = so
    first (one ∷ behind) = asks

    spent : (b : Bool) → IsLaden window (cond b (closing RetryLimit m) (polling m))
    spent true = record { unacked = so.unacked; fresh = so.fresh; few = so.few; small = so.small }
    spent false = asks

    on : (poll : Poll) → IsLaden window (poll_timed poll m)
    on NoPoll = first m.sender.unacked
    on Due = so
    on Waits = spent (nat_le m.agreed.tries m.sender.polls)

    by : (now : Option ErtmReason) → IsLaden window (open_timed now m)
    by None = on m.sender.poll
    by (Some reason) = so

-- ---- what carries the SDUs of a channel

abbrev IsWaiting : Option (List ℕ) → Type 0
IsWaiting None = Unit {0}
IsWaiting (Some sdu) = IsOctets sdu × (length sdu ≤ 32767)

abbrev pub IsLadenCarrier : ℕ → Carrier → Type 0
IsLadenCarrier window (Plain agreed waiting) = IsWaiting waiting
IsLadenCarrier window (Retransmitting machine) = IsLaden window machine

abbrev StaysLaden : Carrier → Carrier → Type 0
StaysLaden before after = (window : ℕ) → IsLadenCarrier window before → IsLadenCarrier window after

abbrev pub IsLadenSome : ℕ → Option Carrier → Type 0
IsLadenSome window None = Unit {0}
IsLadenSome window (Some carrier) = IsLadenCarrier window carrier

abbrev pub LadenOn : ℕ → OfCarrier
LadenOn own wish leaving opened carrier = IsLadenSome wish.window carrier

new_laden : (wish : Wish) (carrier : Carrier) → IsAccepted wish carrier → IsLadenCarrier wish.window carrier
new_laden wish carrier accepted = subst (IsLadenCarrier wish.window) (sym accepted.is) (by wish.mode refl)
  where
    by : (mode : Mode) → wish.mode ≡ mode → IsLadenCarrier wish.window (carrier_by mode (bounded_agreement (agreed_on wish accepted.options)))
    by Basic is = tt
    by Enhanced is = record { unacked = tt; fresh = tt; few = omega arith; small = subst (λ (m : Mode). sent_window m (asked_mode accepted.options) wish.window ≤ wish.window) (sym is) (omega arith) }

goes_laden : (wish : Wish) (opened : Bool) (before after : Option Carrier) → CarrierGoes wish StaysLaden opened before after → IsLadenSome wish.window before → IsLadenSome wish.window after
goes_laden wish opened None None goes so = tt
goes_laden wish opened None (Some after) goes so = new_laden wish after goes
goes_laden wish opened (Some before) None goes so = absurd goes
goes_laden wish opened (Some before) (Some after) goes so = elim goes [ inl stays ↦ stays wish.window so | inr new ↦ new_laden wish after new.1 ]

keeps_laden : (policy : Policy) → Keeps policy StaysLaden LadenOn
keeps_laden policy = record {
  same = λ carrier window so. so;
  goes = λ own psm leaving opened opened' before after shut goes so. goes_laden (policy.wish psm) opened before after goes so;
  leaves = λ own psm opened carrier so. so;
}

sends_laden : (sdu : List ℕ) (carrier : Carrier) → IsOctets sdu → length sdu ≤ 32767 → StaysLaden carrier (carrier_with carrier sdu)
sends_laden sdu (Plain agreed None) fits short window so = (fits, short)
sends_laden sdu (Plain agreed (Some waiting)) fits short window so = so
sends_laden sdu (Retransmitting machine) fits short window so = submitted_laden window sdu machine fits short so

gives_laden : (carrier : Carrier) → StaysLaden carrier (carrier_given carrier)
gives_laden (Plain agreed waiting) window so = tt
gives_laden (Retransmitting machine) window so = given_laden window machine (giving machine) (gives machine) so

hears_laden : (found : Answer) (machine : Ertm) → StaysLaden (Retransmitting machine) (Retransmitting (machine_heard found machine))
hears_laden (Ok frame) machine window so = heard_laden window frame machine so
hears_laden (Err refusal) machine window so = refused_laden window refusal machine so

-- ---- all channels

abbrev pub AreLaden : Policy → Channels → Type 0
AreLaden policy v = AllKeep policy LadenOn v

abbrev GoesLaden : Policy → Channels → Channels → Type 0
GoesLaden policy v w = KeepsOn policy LadenOn v w

walks_laden : (policy : Policy) → Walks policy StaysLaden (GoesLaden policy)
walks_laden policy = walks-keep policy StaysLaden LadenOn (keeps_laden policy)

pub new-laden : (policy : Policy) (events : List ChannelEvent) → AreLaden policy (record no_channels { events = events })
new-laden policy events = record { at = λ own. tt; fresh = λ own psm above. tt; below = λ own above. refl }

pub told-laden : (policy : Policy) (events : List ChannelEvent) (v : Channels) → AreLaden policy v → AreLaden policy (record v { events = events })
told-laden policy events v so = record { at = so.at; fresh = so.fresh; below = so.below }

pub comes-laden : (policy : Policy) (pdu : List ℕ) (v : Channels) → AreLaden policy v → AreLaden policy (hears policy (channel_of pdu) pdu v)
comes-laden policy pdu v = by (eqb (channel_of pdu) 0x0001)
  where
    by : (signals : Bool) → GoesLaden policy v (cond signals (hears_commands policy (answers (drop 4 pdu)) v) (takes (channel_of pdu) pdu v))
    by true = commands-go policy StaysLaden (GoesLaden policy) (walks_laden policy) (answers (drop 4 pdu)) v
    by false = takes-goes policy StaysLaden (GoesLaden policy) (walks_laden policy) (channel_of pdu) pdu v (λ machine open'. hears_laden (read_by machine pdu) machine)

pub timed-laden : (policy : Policy) (v : Channels) → AreLaden policy v → AreLaden policy (timed_out policy v)
timed-laden policy v = timed-goes policy StaysLaden (GoesLaden policy) (walks_laden policy) v (λ machine open' window so. timed_laden window machine so)

pub gives-laden : (policy : Policy) (v : Channels) → Distinct own_of v.held → AreLaden policy v → AreLaden policy (after_given v)
gives-laden policy v lone = given-goes policy StaysLaden (GoesLaden policy) (walks_laden policy) v gives_laden lone

pub connects-laden : (policy : Policy) (psm : ℕ) (v : Channels) → AreLaden policy v → AreLaden policy (connected psm v)
connects-laden policy psm v = connected-goes policy StaysLaden (GoesLaden policy) (walks_laden policy) psm v

pub asks-laden : (policy : Policy) (v : Channels) → AreLaden policy v → AreLaden policy (asks_features v)
asks-laden policy v = asks-features-goes policy StaysLaden (GoesLaden policy) (walks_laden policy) v

pub disconnects-laden : (policy : Policy) (own : ℕ) (v : Channels) → AreLaden policy v → AreLaden policy (disconnected own v)
disconnects-laden policy own v = disconnected-goes policy StaysLaden (GoesLaden policy) (walks_laden policy) own v

pub sends-laden : (policy : Policy) (own : ℕ) (sdu : List ℕ) (v : Channels) → IsOctets sdu → length sdu ≤ 32767 → AreLaden policy v → AreLaden policy (sends own sdu v)
sends-laden policy own sdu v fits short = sends-goes policy StaysLaden (GoesLaden policy) (walks_laden policy) own sdu v (λ carrier. sends_laden sdu carrier fits short)
