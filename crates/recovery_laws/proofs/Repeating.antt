-- What an end that has nothing to give makes of the front frame as a sender: whether it gives its frames again.
use Rattle.std.proofs.Common.{ℕ, ◌≡◌, ◌+◌, ◌-◌, ◌*◌, ◌≤◌, ◌⊎◌, inl, inr, Bool, true, false, cond, List, [], ◌∷◌, length, drop, Some, refl, ap, sym, ◌∙◌, arith}
use Rattle.std.specs.List.{AllByRecursion}
use Rattle.std.proofs.lemmas.List.{drop_all}
use Rattle.std.proofs.lemmas.Bool.{both_ways, cases_Bool}
use Rattle.ertm_frames.specs.Picking.{is_final}
use Rattle.ertm_model.specs.Value.{Kept, Poll, NoPoll, Due, Waits}
use Rattle.ertm_model.specs.Giving.{Again}
use Rattle.ertm_model.specs.Hearing.{rejects_frames, acknowledged, poll_after, asks_again, sender_after}
use Rattle.ertm_model.specs.Pair.{Sent, End, acknowledged_by, given_by, accepted_by, gave}
use Rattle.ertm_model.proofs.Lists.{get-none, again-length, dropped}
use Rattle.ertm_model.proofs.Resting.{AtRest}
use Rattle.recovery_laws.specs.Number.{is_waiting, weights, numbers}
use Rattle.recovery_laws.proofs.Runs.{ups}
use Rattle.recovery_laws.proofs.Hearing.{IsPlain, AsksAgain}
use Rattle.recovery_laws.proofs.Due.{repeated, due_data}

-- ---- the frames that are given again

same_acknowledged : (e : End) (kept : Kept) → acknowledged_by (gave (Some (Again kept)) e) ≡ acknowledged_by e
same_acknowledged e kept = let long = again-length e.machine.sender.next e.machine.sender.unacked in omega arith

repeated_numbers : (kepts : List Kept) (e : End) (from : ℕ) → acknowledged_by e + e.machine.sender.next ≡ from → numbers (repeated kepts e) ≡ ups from (length kepts)
repeated_numbers [] e from is = refl
repeated_numbers (kept ∷ more) e from is =
    let same = same_acknowledged e kept in
    let after : End = gave (Some (Again kept)) e in
    ap (λ (n : ℕ). n ∷ numbers (repeated more after)) is ∙ ap (λ (l : List ℕ). from ∷ l) (repeated_numbers more after (from + 1) (omega arith))

repeated_weights : (kepts : List Kept) (e : End) → weights (repeated kepts e) ≡ 2 * length kepts
repeated_weights [] e = refl
repeated_weights (kept ∷ more) e = let rest = repeated_weights more (gave (Some (Again kept)) e) in omega arith

-- each says what was accepted, and none is a REJ
abbrev pub Says : ℕ → Sent → Type 0
Says c sent = (sent.asks ≡ c) × (rejects_frames sent.frame ≡ false)

repeated_say : (kepts : List Kept) (e : End) → AllByRecursion (Says (accepted_by e)) (repeated kepts e)
repeated_say [] e = tt
repeated_say (kept ∷ more) e = ((refl, refl), repeated_say more (gave (Some (Again kept)) e))

pub data-says : (poll : Poll) (e : End) → AllByRecursion (Says (accepted_by e)) (due_data poll e)
data-says NoPoll e = repeated_say (drop e.machine.sender.next e.machine.sender.unacked) e
data-says Due e = ((refl, refl), tt)
data-says Waits e = tt

-- ---- whether they are

-- none, and it waits as before; or all that are not acknowledged, and it waits no more
pub data Repeats (sent : Sent) (y : End) (poll : Poll) (later : End) : Type 0 where
  plainly : IsPlain sent (is_waiting y.machine.sender.poll) → due_data poll later ≡ [] → is_waiting poll ≡ is_waiting y.machine.sender.poll → Repeats sent y poll later
  afresh : (k : ℕ) → AsksAgain sent (is_waiting y.machine.sender.poll) → numbers (due_data poll later) ≡ ups sent.asks k → sent.asks + k ≡ given_by y → weights (due_data poll later) ≡ 2 * k
      → is_waiting poll ≡ false → Repeats sent y poll later

-- what is known of the end behind it
pub record IsLater (sent : Sent) (y later : End) : Type 0 where
  pub sender_is : later.machine.sender ≡ sender_after sent.frame y.machine.sender
  pub acknowledged_is : acknowledged_by later ≡ sent.asks
  pub left : sent.asks + length (drop (acknowledged sent.frame y.machine.sender) y.machine.sender.unacked) ≡ given_by y

no_more : (sent : Sent) (y later : End) → IsLater sent y later → acknowledged sent.frame y.machine.sender ≤ length y.machine.sender.unacked → length y.machine.sender.unacked ≤ y.machine.sender.next
    → asks_again y.machine.sender.poll sent.frame ≡ false → due_data NoPoll later ≡ []
no_more sent y later is few end_ not_again =
    let k = acknowledged sent.frame y.machine.sender in
    let rest = (dropped k y.machine.sender.unacked few).left_length in
    let next_is : later.machine.sender.next ≡ y.machine.sender.next - k = rw (is.sender_is, not_again) refl in
    let unacked_is : later.machine.sender.unacked ≡ drop k y.machine.sender.unacked = rw is.sender_is refl in
    let long = ap length unacked_is in
    ap (λ (l : List Kept). repeated l later) (drop_all later.machine.sender.next later.machine.sender.unacked (omega arith))

all_of : (sent : Sent) (y later : End) → IsLater sent y later → asks_again y.machine.sender.poll sent.frame ≡ true → AsksAgain sent (is_waiting y.machine.sender.poll) → Repeats sent y NoPoll later
all_of sent y later is again asks =
    let k = acknowledged sent.frame y.machine.sender in
    let next_is : later.machine.sender.next ≡ 0 = rw (is.sender_is, again) refl in
    let unacked_is : later.machine.sender.unacked ≡ drop k y.machine.sender.unacked = rw is.sender_is refl in
    let kepts : List Kept = drop later.machine.sender.next later.machine.sender.unacked in
    let kepts_are : kepts ≡ drop k y.machine.sender.unacked = ap (λ (n : ℕ). drop n later.machine.sender.unacked) next_is ∙ unacked_is in
    let long = ap length kepts_are in
    let acknowledged_is = is.acknowledged_is in
    let left = is.left in
    afresh (length kepts) asks (repeated_numbers kepts later sent.asks (omega arith)) (omega arith) (repeated_weights kepts later) refl

stays_by : (final : Bool) → cond final NoPoll NoPoll ≡ NoPoll
stays_by true = refl
stays_by false = refl

stays_quiet : (sent : Sent) (y : End) → y.machine.sender.poll ≡ NoPoll → poll_after sent.frame y.machine.sender.poll ≡ NoPoll
stays_quiet sent y no_poll = rw no_poll (stays_by (is_final sent.frame))

-- in a wait
waits_repeats : (sent : Sent) (y later : End) → IsLater sent y later → y.machine.sender.poll ≡ Waits → (is_final sent.frame ≡ true) ⊎ (is_final sent.frame ≡ false) → Repeats sent y (poll_after sent.frame y.machine.sender.poll) later
waits_repeats sent y later is waits (inl final) =
    let poll_is : poll_after sent.frame y.machine.sender.poll ≡ NoPoll = rw final refl in
    let waiting : is_waiting y.machine.sender.poll ≡ true = rw waits refl in
    let again : asks_again y.machine.sender.poll sent.frame ≡ true = rw waits final in
    rw poll_is (all_of sent y later is again (inr (waiting, final)))
waits_repeats sent y later is waits (inr plain) =
    let poll_is : poll_after sent.frame y.machine.sender.poll ≡ Waits = rw (plain, waits) refl in
    let waiting : is_waiting y.machine.sender.poll ≡ true = rw waits refl in
    rw poll_is (plainly (record { rejects = λ e. absurd (both_ways (is_waiting y.machine.sender.poll) e waiting); ends = λ e. plain }) refl (sym waiting))

-- without one
quiet_repeats : (sent : Sent) (y later : End) → IsLater sent y later → acknowledged sent.frame y.machine.sender ≤ length y.machine.sender.unacked → y.machine.sender.poll ≡ NoPoll → length y.machine.sender.unacked ≤ y.machine.sender.next
    → (rejects_frames sent.frame ≡ true) ⊎ (rejects_frames sent.frame ≡ false) → Repeats sent y (poll_after sent.frame y.machine.sender.poll) later
quiet_repeats sent y later is few no_poll end_ (inl rejects) =
    let poll_is : poll_after sent.frame y.machine.sender.poll ≡ NoPoll = stays_quiet sent y no_poll in
    let waiting : is_waiting y.machine.sender.poll ≡ false = rw no_poll refl in
    let again : asks_again y.machine.sender.poll sent.frame ≡ true = rw no_poll rejects in
    rw poll_is (all_of sent y later is again (inl (waiting, rejects)))
quiet_repeats sent y later is few no_poll end_ (inr mild) =
    let poll_is : poll_after sent.frame y.machine.sender.poll ≡ NoPoll = stays_quiet sent y no_poll in
    let waiting : is_waiting y.machine.sender.poll ≡ false = rw no_poll refl in
    let not_again : asks_again y.machine.sender.poll sent.frame ≡ false = rw no_poll mild in
    rw poll_is (plainly (record { rejects = λ e. mild; ends = λ e. absurd (both_ways (is_waiting y.machine.sender.poll) waiting e) }) (no_more sent y later is few end_ not_again) (sym waiting))

pub repeats : (sent : Sent) (y later : End) → IsLater sent y later → acknowledged sent.frame y.machine.sender ≤ length y.machine.sender.unacked → y.machine.sender.busy ≡ false → AtRest y.machine
    → Repeats sent y (poll_after sent.frame y.machine.sender.poll) later
repeats sent y later is few ready rest = elim rest.rests [
  | inl waits ↦ waits_repeats sent y later is waits (cases_Bool (is_final sent.frame))
  | inr (no_poll, inl busy) ↦ absurd (both_ways y.machine.sender.busy ready busy)
  | inr (no_poll, inr (ready_, spent)) ↦ quiet_repeats sent y later is few no_poll (get-none y.machine.sender.unacked y.machine.sender.next spent.at_end) (cases_Bool (rejects_frames sent.frame))
]
