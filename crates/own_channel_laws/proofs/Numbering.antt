-- The numbers of each frame that a host gives fit their fields, where each SDU that it has is one that its channel takes.
use Rattle.std.proofs.Common.{◌≡◌, ◌≢◌, ℕ, zero, suc, ◌-◌, ◌^◌, ◌<◌, ◌≤◌, inl, inr, List, [], ◌∷◌, ◌++◌, length, take, drop, Bool, true, false, cond, eqb, Option, Some, None, Ok, Err, refl, sym, subst, arith}
use Rattle.std.specs.Prelude.{find, nat_le, nat_lt, slice_get, option_map}
use Rattle.std.specs.List.{AllByRecursion}
use Rattle.talk_laws.specs.ertm_frames.specs.Answers.{Answer}
use Rattle.talk_laws.specs.ertm_frames.specs.Frames.{PlainFrame, information, supervisory}
use Rattle.talk_laws.specs.ertm_frames.specs.Segments.{Segment, whole, start, end, continuation}
use Rattle.talk_laws.specs.ertm_frames.specs.declared.refusal.FrameRefusal.{FrameRefusal}
use Rattle.channel_model.specs.ertm_model.specs.declared.reason.ErtmReason.{ErtmReason}
use Rattle.channel_model.specs.ertm_model.specs.declared.reason.ErtmReason.TheVariants.{RetryLimit}
use Rattle.channel_model.specs.ertm_model.specs.Value.{Kept, Poll, NoPoll, Due, Waits, Reply, NoReply, Acknowledges, Rejects, Ertm, Receiver}
use Rattle.channel_model.specs.ertm_model.specs.Giving.{Giving, PollAnswer, Acknowledgement, Rejection, Polling, Again, New, new_giving, data_giving, poll_giving, reply_giving, open_giving, giving, frame_by, given_again, after_by, first_poll, poll_timed, open_timed, timed, closing, polling}
use Rattle.channel_model.specs.ertm_model.specs.Hearing.{acknowledged, fault, heard_by, open_heard, heard, closed_by, refusal_fault, refused, Place, Expected, Ahead, Other, place_in, segment_of, placed_after, receiver_after}
use Rattle.channel_model.specs.ertm_model.specs.Submitting.{later_within, later_segments, cut, is_busy, submitted, taking}
use Rattle.talk_laws.specs.l2cap_config.specs.declared.wish.Mode.{Mode}
use Rattle.talk_laws.specs.l2cap_config.specs.declared.wish.Mode.TheVariants.{Basic, Enhanced}
use Rattle.talk_laws.specs.l2cap_config.specs.declared.wish.Wish.{Wish}
use Rattle.talk_laws.specs.l2cap_config.specs.Agreement.{agreed_on}
use Rattle.channel_model.specs.declared.event.ChannelEvent.{ChannelEvent}
use Rattle.channel_model.specs.Value.{Carrier, Plain, Retransmitting, Setup, Stage, Requested, Connected, Leaving, Closing, Crossed, Held, Channels, no_channels}
use Rattle.channel_model.specs.Policies.{Policy}
use Rattle.channel_model.specs.Changing.{held_at, setup_of, is_open}
use Rattle.channel_model.specs.Configuring.{bounded_agreement, carrier_by}
use Rattle.channel_model.specs.Carrying.{read_by, machine_heard}
use Rattle.channel_model.specs.Giving.{Given, Signal, Whole, Framed, some_carrier_gives, stage_gives, gives, held_gives, queue_gives, next_given, carrier_given, command_of}
use Rattle.channel_model.specs.Value.{Queued, Answer as Answered, Ask}
use Rattle.channel_model.specs.Calls.{carrier_with, carrier_if, open_carrier, setup_on, carrier_mtu, peer_mtu}
use Rattle.channel_model.proofs.Lookups.{own_of, Distinct, distinct-append, found-distinct}
use Rattle.channel_model.proofs.Going.{IsAccepted, CarrierGoes, new_held, Walks}
use Rattle.talk_laws.specs.acl_fragments.specs.Pieces.{channel_of}
use Rattle.talk_laws.specs.l2cap_signal.specs.Commands.{Command}
use Rattle.talk_laws.specs.l2cap_signal.specs.Reading.{answers}
use Rattle.channel_model.specs.Hearing.{hears_commands}
use Rattle.channel_model.specs.Carrying.{takes}
use Rattle.channel_model.proofs.Walking.{commands-go}
use Rattle.channel_model.proofs.Calling.{connected-goes, asks-features-goes, disconnected-goes, sends-goes, takes-goes, timed-goes, given-goes}
use Rattle.own_channel_laws.specs.Runs.{Occurrence, Comes, Connects, AsksFeatures, Disconnects, Sends, Gives, Fires, Tells, value_after}
use Rattle.own_channel_laws.proofs.Keeping.{OfCarrier, StageKeeps, HeldKeeps, AllKeep, Keeps, walks-keep}

-- ---- a machine

-- the fields of a segment fit, and a start alone states a length
pub record IsSmall (segment : Segment) : Type 0 where
  pub sar : segment.sar < 4
  pub total : segment.total < 2 ^ 16
  pub stated : segment.sar ≢ 1 → segment.total ≡ 0

abbrev IsSmallKept : Kept → Type 0
IsSmallKept kept = IsSmall kept.segment

pub record IsNumbered (m : Ertm) : Type 0 where
  pub mtu : m.agreed.send_mtu ≤ 32767
  pub expected : m.receiver.expected < 64
  pub unacked : AllByRecursion IsSmallKept m.sender.unacked
  pub fresh : AllByRecursion IsSmall m.sender.fresh

small_end : (octets : List ℕ) → IsSmall (end octets)
small_end octets = record { sar = omega arith; total = omega arith; stated = λ other. refl }

later_small : (count mps : ℕ) (octets : List ℕ) → AllByRecursion IsSmall (later_within count mps octets)
later_small zero mps octets = (small_end octets, tt)
later_small (suc count) mps octets = by (nat_le (length octets) mps) (later_small count mps (drop mps octets))
  where
    by : (b : Bool) → AllByRecursion IsSmall (later_within count mps (drop mps octets)) → AllByRecursion IsSmall (cond b (end octets ∷ []) (continuation (take mps octets) ∷ later_within count mps (drop mps octets)))
    by true rest = (small_end octets, tt)
    by false rest = (record { sar = omega arith; total = omega arith; stated = λ other. refl }, rest)

cut_small : (mps : ℕ) (sdu : List ℕ) → length sdu < 2 ^ 16 → AllByRecursion IsSmall (cut mps sdu)
cut_small mps sdu short = by (nat_le (length sdu) mps)
  where
    by : (b : Bool) → AllByRecursion IsSmall (cond b (whole sdu ∷ []) (start (length sdu) (take (mps - 2) sdu) ∷ later_segments mps (drop (mps - 2) sdu)))
    by true = (record { sar = omega arith; total = omega arith; stated = λ other. refl }, tt)
    by false = (record { sar = omega arith; total = short; stated = λ other. absurd (other refl) }, later_small (length (drop (mps - 2) sdu)) mps (drop (mps - 2) sdu))

submitted_small : (sdu : List ℕ) (m : Ertm) → length sdu < 2 ^ 16 → IsNumbered m → IsNumbered (submitted sdu m)
submitted_small sdu m short so = by (is_busy m)
  where
    by : (b : Bool) → IsNumbered (cond b m (taking sdu m))
    by true = so
    by false = record { mtu = so.mtu; expected = so.expected; unacked = so.unacked; fresh = cut_small m.agreed.send_mps sdu short }

again_small : (place : ℕ) (kept : List Kept) → AllByRecursion IsSmallKept kept → AllByRecursion IsSmallKept (given_again place kept)
again_small place [] all = tt
again_small zero (one ∷ behind) all = (all.0, all.1)
again_small (suc place) (one ∷ behind) all = (all.0, again_small place behind all.1)

more_kept : (kept : List Kept) (one : Kept) → AllByRecursion IsSmallKept kept → IsSmallKept one → AllByRecursion IsSmallKept (kept ++ one ∷ [])
more_kept [] one all now = (now, tt)
more_kept (other ∷ kept) one all now = (all.0, more_kept kept one all.1 now)

-- what is given is small
abbrev IsSmallGiving : Option Giving → Type 0
IsSmallGiving None = Unit {0}
IsSmallGiving (Some PollAnswer) = Unit {0}
IsSmallGiving (Some Acknowledgement) = Unit {0}
IsSmallGiving (Some Rejection) = Unit {0}
IsSmallGiving (Some Polling) = Unit {0}
IsSmallGiving (Some (Again kept)) = IsSmall kept.segment
IsSmallGiving (Some (New segment behind)) = IsSmall segment × AllByRecursion IsSmall behind

found_kept : (kept : List Kept) (place : ℕ) → AllByRecursion IsSmallKept kept → (one : Kept) → slice_get kept place ≡ Some one → IsSmall one.segment
found_kept [] place all one is = cc
found_kept (other ∷ kept) zero all one is = subst IsSmallKept (let same : other ≡ one = cc in same) all.0
found_kept (other ∷ kept) (suc place) all one is = found_kept kept place all.1 one is

giving_small : (m : Ertm) → IsNumbered m → IsSmallGiving (giving m)
giving_small m so = by_closed m.closed
  where
    new : (room : Bool) (fresh : List Segment) → AllByRecursion IsSmall fresh → IsSmallGiving (new_giving room fresh)
    new room [] all = tt
    new true (segment ∷ behind) all = all
    new false (segment ∷ behind) all = tt

    kept_at : (here : Option Kept) → slice_get m.sender.unacked m.sender.next ≡ here → IsSmallGiving (data_giving here m)
    kept_at (Some kept) is = found_kept m.sender.unacked m.sender.next so.unacked kept is
    kept_at None is = new (nat_lt (length m.sender.unacked) m.agreed.send_window) m.sender.fresh so.fresh

    ready : (busy : Bool) → IsSmallGiving (cond busy None (data_giving (slice_get m.sender.unacked m.sender.next) m))
    ready true = tt
    ready false = kept_at (slice_get m.sender.unacked m.sender.next) refl

    by_poll : (poll : Poll) → IsSmallGiving (poll_giving poll m)
    by_poll Due = tt
    by_poll Waits = tt
    by_poll NoPoll = ready m.sender.busy

    by_reply : (reply : Reply) → IsSmallGiving (reply_giving reply m)
    by_reply Acknowledges = tt
    by_reply Rejects = tt
    by_reply NoReply = by_poll m.sender.poll

    polled : (b : Bool) → IsSmallGiving (cond b (Some PollAnswer) (reply_giving m.receiver.reply m))
    polled true = tt
    polled false = by_reply m.receiver.reply

    by_closed : (reason : Option ErtmReason) → IsSmallGiving (open_giving reason m)
    by_closed (Some reason) = tt
    by_closed None = polled m.receiver.polled

given_small : (m : Ertm) (found : Option Giving) → IsSmallGiving found → IsNumbered m → IsNumbered (after_by found m)
given_small m None small so = so
given_small m (Some PollAnswer) small so = record { mtu = so.mtu; expected = so.expected; unacked = so.unacked; fresh = so.fresh }
given_small m (Some Acknowledgement) small so = record { mtu = so.mtu; expected = so.expected; unacked = so.unacked; fresh = so.fresh }
given_small m (Some Rejection) small so = record { mtu = so.mtu; expected = so.expected; unacked = so.unacked; fresh = so.fresh }
given_small m (Some Polling) small so = record { mtu = so.mtu; expected = so.expected; unacked = so.unacked; fresh = so.fresh }
given_small m (Some (Again kept)) small so = record { mtu = so.mtu; expected = so.expected; unacked = again_small m.sender.next m.sender.unacked so.unacked; fresh = so.fresh }
given_small m (Some (New segment behind)) small so = record { mtu = so.mtu; expected = so.expected; unacked = more_kept m.sender.unacked (record { segment = segment; given = 1 }) so.unacked small.0; fresh = small.1 }

behind_kept : (k : ℕ) (kept : List Kept) → AllByRecursion IsSmallKept kept → AllByRecursion IsSmallKept (drop k kept)
behind_kept zero kept all = all
behind_kept (suc k) [] all = tt
behind_kept (suc k) (one ∷ kept) all = behind_kept k kept all.1

place_numbered : (place : Place) (segment : Segment) (r : Receiver) → r.expected < 64 → (placed_after place segment r).expected < 64
place_numbered Expected segment r low = omega arith
place_numbered Ahead segment r low = by r.rejecting
  where
    by : (b : Bool) → (cond b r (record r { reply = Rejects; rejecting = true })).expected < 64
    by true = low
    by false = low
place_numbered Other segment r low = low

received_numbered : (frame : PlainFrame) (m : Ertm) → m.receiver.expected < 64 → (receiver_after frame m).expected < 64
received_numbered (information tx final req sar total octets) m low = place_numbered (place_in m tx) (segment_of sar total octets) m.receiver low
received_numbered (supervisory kind poll final req) m low = low

heard_small : (frame : PlainFrame) (m : Ertm) → IsNumbered m → IsNumbered (heard frame m)
heard_small frame m so = by m.closed
  where
    on : (cause : Option ErtmReason) → IsNumbered (heard_by cause frame m)
    on None = record { mtu = so.mtu; expected = received_numbered frame m so.expected; unacked = behind_kept (acknowledged frame m.sender) m.sender.unacked so.unacked; fresh = so.fresh }
    on (Some cause) = record { mtu = so.mtu; expected = so.expected; unacked = so.unacked; fresh = so.fresh }

    by : (now : Option ErtmReason) → IsNumbered (open_heard now frame m)
    by None = on (fault frame m)
    by (Some cause) = so

refused_small : (refusal : FrameRefusal) (m : Ertm) → IsNumbered m → IsNumbered (refused refusal m)
refused_small refusal m so = by m.closed (refusal_fault refusal)
  where
    by : (now cause : Option ErtmReason) → IsNumbered (closed_by now cause m)
    by (Some reason) cause = so
    by None None = so
    by None (Some cause) = record { mtu = so.mtu; expected = so.expected; unacked = so.unacked; fresh = so.fresh }

timed_small : (m : Ertm) → IsNumbered m → IsNumbered (timed m)
timed_small m so = by m.closed
  where
    asks : IsNumbered (polling m)
    asks = record { mtu = so.mtu; expected = so.expected; unacked = so.unacked; fresh = so.fresh }

    first : (kept : List Kept) → IsNumbered (first_poll kept m)
    first [] = so
    first (one ∷ behind) = asks

    spent : (b : Bool) → IsNumbered (cond b (closing RetryLimit m) (polling m))
    spent true = record { mtu = so.mtu; expected = so.expected; unacked = so.unacked; fresh = so.fresh }
    spent false = asks

    on : (poll : Poll) → IsNumbered (poll_timed poll m)
    on NoPoll = first m.sender.unacked
    on Due = so
    on Waits = spent (nat_le m.agreed.tries m.sender.polls)

    by : (now : Option ErtmReason) → IsNumbered (open_timed now m)
    by None = on m.sender.poll
    by (Some reason) = so

-- ---- what carries the SDUs of a channel

abbrev IsNumberedCarrier : Carrier → Type 0
IsNumberedCarrier (Plain agreed waiting) = agreed.send_mtu ≤ 32767
IsNumberedCarrier (Retransmitting machine) = IsNumbered machine

abbrev StaysNumbered : Carrier → Carrier → Type 0
StaysNumbered before after = IsNumberedCarrier before → IsNumberedCarrier after

abbrev IsNumberedSome : Option Carrier → Type 0
IsNumberedSome None = Unit {0}
IsNumberedSome (Some carrier) = IsNumberedCarrier carrier

abbrev NumberedOn : ℕ → OfCarrier
NumberedOn own wish leaving opened carrier = IsNumberedSome carrier

new_numbered : (wish : Wish) (carrier : Carrier) → IsAccepted wish carrier → IsNumberedCarrier carrier
new_numbered wish carrier accepted = subst IsNumberedCarrier (sym accepted.is) (by wish.mode)
  where
    by : (mode : Mode) → IsNumberedCarrier (carrier_by mode (bounded_agreement (agreed_on wish accepted.options)))
    by Basic = omega arith
    by Enhanced = record { mtu = omega arith; expected = omega arith; unacked = tt; fresh = tt }

goes_numbered : (wish : Wish) (opened : Bool) (before after : Option Carrier) → CarrierGoes wish StaysNumbered opened before after → IsNumberedSome before → IsNumberedSome after
goes_numbered wish opened None None goes so = tt
goes_numbered wish opened None (Some after) goes so = new_numbered wish after goes
goes_numbered wish opened (Some before) None goes so = absurd goes
goes_numbered wish opened (Some before) (Some after) goes so = elim goes [ inl stays ↦ stays so | inr new ↦ new_numbered wish after new.1 ]

keeps_numbered : (policy : Policy) → Keeps policy StaysNumbered NumberedOn
keeps_numbered policy = record {
  same = λ carrier so. so;
  goes = λ own psm leaving opened opened' before after shut goes so. goes_numbered (policy.wish psm) opened before after goes so;
  leaves = λ own psm opened carrier so. so;
}

sends_numbered : (sdu : List ℕ) (carrier : Carrier) → length sdu < 2 ^ 16 → StaysNumbered carrier (carrier_with carrier sdu)
sends_numbered sdu (Plain agreed waiting) short so = so
sends_numbered sdu (Retransmitting machine) short so = submitted_small sdu machine short so

gives_numbered : (carrier : Carrier) → StaysNumbered carrier (carrier_given carrier)
gives_numbered (Plain agreed waiting) so = so
gives_numbered (Retransmitting machine) so = given_small machine (giving machine) (giving_small machine so) so

hears_numbered : (found : Answer) (machine : Ertm) → StaysNumbered (Retransmitting machine) (Retransmitting (machine_heard found machine))
hears_numbered (Ok frame) machine so = heard_small frame machine so
hears_numbered (Err refusal) machine so = refused_small refusal machine so

-- ---- all channels

-- the endpoints are those of one channel each, and lie below the one that is given next
pub record AreNumbered (policy : Policy) (v : Channels) : Type 0 where
  pub keeps : AllKeep policy NumberedOn v
  pub lone : Distinct own_of v.held

abbrev GoesNumbered : Policy → Channels → Channels → Type 0
GoesNumbered policy v w = AreNumbered policy v → AreNumbered policy w

walks_numbered : (policy : Policy) → Walks policy StaysNumbered (GoesNumbered policy)
walks_numbered policy =
    let walks = walks-keep policy StaysNumbered NumberedOn (keeps_numbered policy) in
    record {
      same = λ carrier so. so;
      still = λ v w held_is next_is events_are so. record { keeps = walks.still v w held_is next_is events_are so.keeps; lone = subst (Distinct own_of) (sym held_is) so.lone };
      tells = λ v w event held_is next_is events_are other so. record { keeps = walks.tells v w event held_is next_is events_are other so.keeps; lone = subst (Distinct own_of) (sym held_is) so.lone };
      both = λ v u w first second so. second (first so);
      made = λ v w psm stage is held_is next_is events_are so. record {
        keeps = walks.made v w psm stage is held_is next_is events_are so.keeps;
        lone = subst (Distinct own_of) (sym held_is) (distinct-append own_of v.held (new_held psm v.next stage) (so.keeps.below v.next (omega arith)) so.lone);
      };
      moves = λ v w held after more moves so. record { keeps = walks.moves v w held after more moves so.keeps; lone = moves.lone so.lone };
    }

pub told-numbered : (policy : Policy) (events : List ChannelEvent) (v : Channels) → AreNumbered policy v → AreNumbered policy (record v { events = events })
told-numbered policy events v so = record { keeps = record { at = so.keeps.at; fresh = so.keeps.fresh; below = so.keeps.below }; lone = so.lone }

-- an SDU is short where it is sent
abbrev pub IsShortIn : Occurrence → Type 0
IsShortIn (Sends own sdu) = length sdu < 2 ^ 16
IsShortIn (Comes pdu) = Unit {0}
IsShortIn (Connects psm) = Unit {0}
IsShortIn AsksFeatures = Unit {0}
IsShortIn (Disconnects own) = Unit {0}
IsShortIn (Gives pdu) = Unit {0}
IsShortIn Fires = Unit {0}
IsShortIn Tells = Unit {0}

heard_so : (policy : Policy) (pdu : List ℕ) (v : Channels) (signals : Bool) → AreNumbered policy v → AreNumbered policy (cond signals (hears_commands policy (answers (drop 4 pdu)) v) (takes (channel_of pdu) pdu v))
heard_so policy pdu v true so = commands-go policy StaysNumbered (GoesNumbered policy) (walks_numbered policy) (answers (drop 4 pdu)) v so
heard_so policy pdu v false so = takes-goes policy StaysNumbered (GoesNumbered policy) (walks_numbered policy) (channel_of pdu) pdu v (λ machine open'. hears_numbered (read_by machine pdu) machine) so

pub occurs-numbered : (policy : Policy) (more : Occurrence) (v : Channels) → IsShortIn more → AreNumbered policy v → AreNumbered policy (value_after policy more v)
occurs-numbered policy (Comes pdu) v short so = heard_so policy pdu v (eqb (channel_of pdu) 0x0001) so
occurs-numbered policy (Connects psm) v short so = connected-goes policy StaysNumbered (GoesNumbered policy) (walks_numbered policy) psm v so
occurs-numbered policy AsksFeatures v short so = asks-features-goes policy StaysNumbered (GoesNumbered policy) (walks_numbered policy) v so
occurs-numbered policy (Disconnects own) v short so = disconnected-goes policy StaysNumbered (GoesNumbered policy) (walks_numbered policy) own v so
occurs-numbered policy (Sends own sdu) v short so = sends-goes policy StaysNumbered (GoesNumbered policy) (walks_numbered policy) own sdu v (λ carrier. sends_numbered sdu carrier short) so
occurs-numbered policy (Gives pdu) v short so = given-goes policy StaysNumbered (GoesNumbered policy) (walks_numbered policy) v gives_numbered so.lone so
occurs-numbered policy Fires v short so = timed-goes policy StaysNumbered (GoesNumbered policy) (walks_numbered policy) v (λ machine open'. timed_small machine) so
occurs-numbered policy Tells v short so = told-numbered policy (drop 1 v.events) v so

-- ---- what is given

-- the numbers of a frame fit, but for its octets
abbrev pub HasNumbers : PlainFrame → Type 0
HasNumbers (information tx final req sar total octets) = (tx < 64) × (req < 64) × (sar < 4) × (total < 2 ^ 16) × (sar ≢ 1 → total ≡ 0)
HasNumbers (supervisory kind poll final req) = req < 64

abbrev pub IsNumberedGiven : Given → Type 0
IsNumberedGiven (Signal command) = Unit {0}
IsNumberedGiven (Whole peer sdu) = Unit {0}
IsNumberedGiven (Framed peer frame) = HasNumbers frame

abbrev IsNumberedGivenSome : Option Given → Type 0
IsNumberedGivenSome None = Unit {0}
IsNumberedGivenSome (Some given) = IsNumberedGiven given

frame_numbers : (m : Ertm) (found : Option Giving) → IsSmallGiving found → IsNumbered m → (peer : ℕ) → IsNumberedGivenSome (option_map (Framed peer) (frame_by found m))
frame_numbers m None small so peer = tt
frame_numbers m (Some PollAnswer) small so peer = so.expected
frame_numbers m (Some Acknowledgement) small so peer = so.expected
frame_numbers m (Some Rejection) small so peer = so.expected
frame_numbers m (Some Polling) small so peer = so.expected
frame_numbers m (Some (Again kept)) small so peer = (omega arith, so.expected, small.sar, small.total, small.stated)
frame_numbers m (Some (New segment behind)) small so peer = (omega arith, so.expected, small.0.sar, small.0.total, small.0.stated)

carrier_numbers : (carrier : Option Carrier) (peer : ℕ) → IsNumberedSome carrier → IsNumberedGivenSome (some_carrier_gives carrier peer)
carrier_numbers None peer so = tt
carrier_numbers (Some (Plain agreed None)) peer so = tt
carrier_numbers (Some (Plain agreed (Some sdu))) peer so = tt
carrier_numbers (Some (Retransmitting machine)) peer so = frame_numbers machine (giving machine) (giving_small machine so) so peer

stage_numbers : (wish : Wish) (stage : Stage) → StageKeeps (NumberedOn 0) wish stage → IsNumberedGivenSome (stage_gives stage)
stage_numbers wish (Requested request) so = tt
stage_numbers wish (Connected peer setup) so = carrier_numbers setup.carrier peer so
stage_numbers wish (Leaving peer setup request) so = carrier_numbers setup.carrier peer so
stage_numbers wish (Closing peer request checked) so = tt
stage_numbers wish (Crossed peer request) so = tt

queue_numbers : (policy : Policy) (queue : List Queued) (v : Channels) → AreNumbered policy v → IsNumberedGivenSome (queue_gives queue v)
queue_numbers policy [] v so = by (find gives v.held) refl
  where
    by : (found : Option Held) → find gives v.held ≡ found → IsNumberedGivenSome (held_gives found)
    by None is = tt
    by (Some held) is = stage_numbers (policy.wish held.psm) held.stage (subst (HeldKeeps policy (NumberedOn held.own)) (found-distinct own_of gives v.held held so.lone is) (so.keeps.at held.own))
queue_numbers policy (Answered command ∷ behind) v so = tt
queue_numbers policy (Ask errand ∷ behind) v so = by (command_of errand v)
  where
    by : (command : Option Command) → IsNumberedGivenSome (option_map Signal command)
    by None = tt
    by (Some command) = tt

pub given-numbered : (policy : Policy) (v : Channels) (given : Given) → AreNumbered policy v → next_given v ≡ Some given → IsNumberedGiven given
given-numbered policy v given so is = subst IsNumberedGivenSome is (queue_numbers policy v.queue v so)

-- ---- what a channel takes is short

some_mtu : (carrier : Option Carrier) (most : ℕ) → IsNumberedSome carrier → option_map carrier_mtu carrier ≡ Some most → most ≤ 32767
some_mtu None most so is = cc
some_mtu (Some (Plain agreed waiting)) most so is = let same : agreed.send_mtu ≡ most = cc in subst (λ (n : ℕ). n ≤ 32767) same so
some_mtu (Some (Retransmitting machine)) most so is = let same : machine.agreed.send_mtu ≡ most = cc in subst (λ (n : ℕ). n ≤ 32767) same so.mtu

setup_mtu : (opened : Bool) (setup : Setup) (most : ℕ) → IsNumberedSome setup.carrier → option_map carrier_mtu (carrier_if opened setup) ≡ Some most → most ≤ 32767
setup_mtu true setup most so is = some_mtu setup.carrier most so is
setup_mtu false setup most so is = cc

stage_mtu : (wish : Wish) (stage : Stage) (most : ℕ) → StageKeeps (NumberedOn 0) wish stage → option_map carrier_mtu (open_carrier (setup_of stage)) ≡ Some most → most ≤ 32767
stage_mtu wish (Requested request) most so is = cc
stage_mtu wish (Connected peer setup) most so is = setup_mtu (is_open setup) setup most so is
stage_mtu wish (Leaving peer setup request) most so is = setup_mtu (is_open setup) setup most so is
stage_mtu wish (Closing peer request checked) most so is = cc
stage_mtu wish (Crossed peer request) most so is = cc

pub mtu-short : (policy : Policy) (own : ℕ) (v : Channels) (most : ℕ) → AreNumbered policy v → peer_mtu own v ≡ Some most → most ≤ 32767
mtu-short policy own v most so is = by (held_at own v) (so.keeps.at own) is
  where
    by : (found : Option Held) → HeldKeeps policy (NumberedOn own) found → option_map carrier_mtu (open_carrier (setup_on found)) ≡ Some most → most ≤ 32767
    by None kept is = cc
    by (Some held) kept is = stage_mtu (policy.wish held.psm) held.stage most kept is

pub new-numbered : (policy : Policy) (events : List ChannelEvent) → AreNumbered policy (record no_channels { events = events })
new-numbered policy events = record { keeps = record { at = λ own. tt; fresh = λ own psm above. tt; below = λ own above. refl }; lone = tt }
