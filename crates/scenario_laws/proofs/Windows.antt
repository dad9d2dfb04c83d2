-- A host has no more I-frames of a channel unacknowledged than the window that it wishes.
use Rattle.std.proofs.Common.{◌≡◌, ℕ, ◌≤◌, ◌<◌, inl, inr, List, [], ◌∷◌, ◌++◌, length, drop, Bool, true, false, cond, Option, Some, None, Ok, Err, refl, sym, ap, subst, arith, append_assoc, append-nil, length-append, length-drop}
use Rattle.std.specs.Prelude.{nat_le}
use Rattle.std.proofs.lemmas.List.Sums.{fold-append}
use Rattle.host_laws.specs.ertm_frames.specs.Answers.{Answer}
use Rattle.host_laws.specs.ertm_frames.specs.Frames.{PlainFrame}
use Rattle.host_laws.specs.ertm_frames.specs.declared.refusal.FrameRefusal.{FrameRefusal}
use Rattle.host_laws.specs.ertm_model.specs.declared.reason.ErtmReason.{ErtmReason}
use Rattle.host_laws.specs.ertm_model.specs.declared.reason.ErtmReason.TheVariants.{RetryLimit}
use Rattle.host_laws.specs.ertm_model.specs.Value.{Kept, Poll, NoPoll, Due, Waits, Ertm}
use Rattle.host_laws.specs.ertm_model.specs.Giving.{Giving, PollAnswer, Acknowledgement, Rejection, Polling, Again, New, giving, after_by, first_poll, poll_timed, open_timed, timed, closing, polling}
use Rattle.host_laws.specs.ertm_model.specs.Hearing.{acknowledged, fault, heard_by, open_heard, heard, closed_by, refusal_fault, refused}
use Rattle.host_laws.specs.ertm_model.specs.Submitting.{is_busy, submitted, taking}
use Rattle.host_laws.specs.ertm_model.proofs.Inverting.{Gives, gives}
use Rattle.host_laws.specs.ertm_model.proofs.Lists.{again-length}
use Rattle.host_laws.specs.l2cap_config.specs.declared.wish.Mode.{Mode}
use Rattle.host_laws.specs.l2cap_config.specs.declared.wish.Mode.TheVariants.{Basic, Enhanced}
use Rattle.host_laws.specs.l2cap_config.specs.declared.wish.Wish.{Wish}
use Rattle.host_laws.specs.l2cap_config.specs.Agreement.{asked_mode, sent_window, agreed_on}
use Rattle.host_laws.specs.channel_model.specs.Configuring.{bounded_agreement, carrier_by}
use Rattle.host_laws.specs.channel_model.specs.Changing.{held_at, setup_of}
use Rattle.host_laws.specs.channel_model.specs.Value.{Carrier, Plain, Retransmitting, Setup, Stage, Requested, Connected, Leaving, Closing, Crossed, Held, Channels}
use Rattle.host_laws.specs.channel_model.specs.Policies.{Policy}
use Rattle.host_laws.specs.channel_model.specs.Calls.{setup_on, carrier_with, carrier_window}
use Rattle.host_laws.specs.channel_model.specs.Carrying.{read_by, machine_heard}
use Rattle.host_laws.specs.channel_model.specs.Giving.{carrier_given}
use Rattle.host_laws.specs.channel_model.proofs.Going.{IsAccepted, CarrierGoes}
use Rattle.host_laws.specs.channel_laws.specs.Runs.{Occurrence, Run, new_link, run_on, run_of}
use Rattle.host_laws.specs.channel_laws.proofs.Keeping.{OfCarrier, StageKeeps, HeldKeeps, AllKeep, Keeps, Carries, keeps-all}
use Rattle.host_laws.specs.channel_laws.proofs.Running.{all-sound}

-- ---- a machine

pub record IsWithin (window : ℕ) (m : Ertm) : Type 0 where
  pub few : length m.sender.unacked ≤ m.agreed.send_window
  pub small : m.agreed.send_window ≤ window

given_within : (window : ℕ) (m : Ertm) (found : Option Giving) → Gives m found → IsWithin window m → IsWithin window (after_by found m)
given_within window m None gives within = within
given_within window m (Some PollAnswer) gives within = record { few = within.few; small = within.small }
given_within window m (Some Acknowledgement) gives within = record { few = within.few; small = within.small }
given_within window m (Some Rejection) gives within = record { few = within.few; small = within.small }
given_within window m (Some Polling) gives within = record { few = within.few; small = within.small }
given_within window m (Some (Again kept)) gives within =
    let same = again-length m.sender.next m.sender.unacked in
    record { few = subst (λ (n : ℕ). n ≤ m.agreed.send_window) (sym same) within.few; small = within.small }
given_within window m (Some (New segment behind)) gives within =
    let room : length m.sender.unacked < m.agreed.send_window = gives.3 in
    let one : Kept = record { segment = segment; given = 1 } in
    let more = length-append m.sender.unacked (one ∷ []) in
    record { few = omega (arith, room, more); small = within.small }

fewer_within : (window k : ℕ) (m after : Ertm) → after.sender.unacked ≡ drop k m.sender.unacked → after.agreed ≡ m.agreed → IsWithin window m → IsWithin window after
fewer_within window k m after left same within =
    let few = within.few in
    let count : length after.sender.unacked ≡ length (drop k m.sender.unacked) = ap length left in
    let less = length-drop k m.sender.unacked in
    let width : after.agreed.send_window ≡ m.agreed.send_window = ap (λ a. a.send_window) same in
    record { few = omega (arith, few, count, less, width); small = subst (λ (n : ℕ). n ≤ window) (sym width) within.small }

heard_within : (window : ℕ) (frame : PlainFrame) (m : Ertm) → IsWithin window m → IsWithin window (heard frame m)
heard_within window frame m within = by m.closed
  where
    on : (cause : Option ErtmReason) → IsWithin window (heard_by cause frame m)
    on None = fewer_within window (acknowledged frame m.sender) m (heard_by None frame m) refl refl within
    on (Some cause) = record { few = within.few; small = within.small }

    by : (now : Option ErtmReason) → IsWithin window (open_heard now frame m)
    by None = on (fault frame m)
    by (Some cause) = within

refused_within : (window : ℕ) (refusal : FrameRefusal) (m : Ertm) → IsWithin window m → IsWithin window (refused refusal m)
refused_within window refusal m within = by m.closed (refusal_fault refusal)
  where
    by : (now cause : Option ErtmReason) → IsWithin window (closed_by now cause m)
    by (Some reason) cause = within
    by None None = within
    by None (Some cause) = record { few = within.few; small = within.small }

timed_within : (window : ℕ) (m : Ertm) → IsWithin window m → IsWithin window (timed m)
timed_within window m within = by m.closed
  where
    asks : IsWithin window (polling m)
    asks = record { few = within.few; small = within.small }

    first : (kept : List Kept) → IsWithin window (first_poll kept m)
    first [] = within
    first (one ∷ behind) = asks

    spent : (b : Bool) → IsWithin window (cond b (closing RetryLimit m) (polling m))
    spent true = record { few = within.few; small = within.small }
    spent false = asks

    on : (poll : Poll) → IsWithin window (poll_timed poll m)
    on NoPoll = first m.sender.unacked
    on Due = within
    on Waits = spent (nat_le m.agreed.tries m.sender.polls)

    by : (now : Option ErtmReason) → IsWithin window (open_timed now m)
    by None = on m.sender.poll
    by (Some reason) = within

submitted_within : (window : ℕ) (sdu : List ℕ) (m : Ertm) → IsWithin window m → IsWithin window (submitted sdu m)
submitted_within window sdu m within = by (is_busy m)
  where
    by : (b : Bool) → IsWithin window (cond b m (taking sdu m))
    by true = within
    by false = record { few = within.few; small = within.small }

-- ---- what carries the SDUs of a channel

abbrev Within : ℕ → Carrier → Type 0
Within window (Plain agreed waiting) = Unit {0}
Within window (Retransmitting machine) = IsWithin window machine

abbrev StaysWithin : Carrier → Carrier → Type 0
StaysWithin before after = (window : ℕ) → Within window before → Within window after

abbrev WithinIf : Wish → Option Carrier → Type 0
WithinIf wish None = Unit {0}
WithinIf wish (Some carrier) = Within wish.window carrier

abbrev WithinWish : ℕ → OfCarrier
WithinWish own wish leaving opened carrier = WithinIf wish carrier

new_within : (wish : Wish) (carrier : Carrier) → IsAccepted wish carrier → Within wish.window carrier
new_within wish carrier accepted = subst (Within wish.window) (sym accepted.is) (by wish.mode refl)
  where
    by : (mode : Mode) → wish.mode ≡ mode → Within wish.window (carrier_by mode (bounded_agreement (agreed_on wish accepted.options)))
    by Basic is = tt
    by Enhanced is = record { few = omega arith; small = subst (λ (m : Mode). sent_window m (asked_mode accepted.options) wish.window ≤ wish.window) (sym is) (omega arith) }

goes_within : (wish : Wish) (opened : Bool) (before after : Option Carrier) → CarrierGoes wish StaysWithin opened before after → WithinIf wish before → WithinIf wish after
goes_within wish opened None None goes within = tt
goes_within wish opened None (Some after) goes within = new_within wish after goes
goes_within wish opened (Some before) None goes within = absurd goes
goes_within wish opened (Some before) (Some after) goes within = elim goes [ inl stays ↦ stays wish.window within | inr new ↦ new_within wish after new.1 ]

keeps_within : (policy : Policy) → Keeps policy StaysWithin WithinWish
keeps_within policy = record {
  same = λ carrier window within. within;
  goes = λ own psm leaving opened opened' before after shut goes within. goes_within (policy.wish psm) opened before after goes within;
  leaves = λ own psm opened carrier within. within;
}

sends_within : (sdu : List ℕ) (carrier : Carrier) → StaysWithin carrier (carrier_with carrier sdu)
sends_within sdu (Plain agreed waiting) window within = tt
sends_within sdu (Retransmitting machine) window within = submitted_within window sdu machine within

gives_within : (carrier : Carrier) → StaysWithin carrier (carrier_given carrier)
gives_within (Plain agreed waiting) window within = tt
gives_within (Retransmitting machine) window within = given_within window machine (giving machine) (gives machine) within

hears_within : (found : Answer) (machine : Ertm) → StaysWithin (Retransmitting machine) (Retransmitting (machine_heard found machine))
hears_within (Ok frame) machine window within = heard_within window frame machine within
hears_within (Err refusal) machine window within = refused_within window refusal machine within

carries_within : Carries StaysWithin
carries_within = record {
  sends = λ sdu carrier. sends_within sdu carrier;
  gives = gives_within;
  hears = λ pdu machine open'. hears_within (read_by machine pdu) machine;
  fires = λ machine open' window within. timed_within window machine within;
}

-- ---- whatever happens

all_within : (policy : Policy) (before later : List Occurrence) → AllKeep policy WithinWish (run_of policy before).value → AllKeep policy WithinWish (run_of policy (before ++ later)).value
all_within policy before [] all = subst (λ (l : List Occurrence). AllKeep policy WithinWish (run_of policy l).value) (sym (append-nil before)) all
all_within policy before (more ∷ later) all =
    let run = run_of policy before in
    let same : run_of policy (before ++ more ∷ []) ≡ run_on policy run more = fold-append (run_on policy) new_link before (more ∷ []) in
    let now = keeps-all policy StaysWithin WithinWish (keeps_within policy) carries_within more run.value (all-sound policy before).core.lone all in
    subst (λ (l : List Occurrence). AllKeep policy WithinWish (run_of policy l).value) (append_assoc before (more ∷ []) later)
    (all_within policy (before ++ more ∷ []) later (subst (λ (r : Run). AllKeep policy WithinWish r.value) (sym same) now))

window_is : (wish : Wish) (carrier : Option Carrier) → WithinIf wish carrier → carrier_window carrier ≤ wish.window
window_is wish None within = omega arith
window_is wish (Some (Plain agreed waiting)) within = omega arith
window_is wish (Some (Retransmitting machine)) within = let few = within.few in let small = within.small in omega (arith, few, small)

stage_within : (wish : Wish) (stage : Stage) (setup : Setup) → setup_of stage ≡ Some setup → StageKeeps (WithinWish 0) wish stage → carrier_window setup.carrier ≤ wish.window
stage_within wish (Requested request) setup is kept = cc
stage_within wish (Connected peer s) setup is kept = let same : s ≡ setup = cc in window_is wish setup.carrier (subst (λ (x : Setup). WithinIf wish x.carrier) same kept)
stage_within wish (Leaving peer s request) setup is kept = let same : s ≡ setup = cc in window_is wish setup.carrier (subst (λ (x : Setup). WithinIf wish x.carrier) same kept)
stage_within wish (Closing peer request checked) setup is kept = cc
stage_within wish (Crossed peer request) setup is kept = cc

-- whatever is wished of a channel of whatever PSM
pub windows_within : (policy : Policy) (window own : ℕ) (list : List Occurrence) (setup : Setup) → ((psm : ℕ) → (policy.wish psm).window ≡ window) → setup_on (held_at own (run_of policy list).value) ≡ Some setup → carrier_window setup.carrier ≤ window
windows_within policy window own list setup wished is = by (held_at own v) refl is
  where
    v : Channels
    v = (run_of policy list).value

    all : AllKeep policy WithinWish v
    all = all_within policy [] list (record { at = λ n. tt; fresh = λ n psm above. tt; below = λ n above. refl })

    by : (held : Option Held) → held_at own v ≡ held → setup_on held ≡ Some setup → carrier_window setup.carrier ≤ window
    by None at has = cc
    by (Some held) at has =
        subst (λ (n : ℕ). carrier_window setup.carrier ≤ n) (wished held.psm) (stage_within (policy.wish held.psm) held.stage setup has (subst (HeldKeeps policy (WithinWish own)) at (all.at own)))
