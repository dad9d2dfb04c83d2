-- An end that gives its frames one after the other comes to have none to give.
use Rattle.std.proofs.Common.{ℕ, zero, suc, ◌≡◌, ◌+◌, ◌-◌, ◌≤◌, List, [], ◌∷◌, length, Option, Some, None, refl, ap, sym, ◌∙◌, subst, arith, length-append}
use Rattle.ertm_model.specs.Value.{Poll, NoPoll, Due, Waits, Reply, NoReply, Acknowledges, Rejects, Ertm}
use Rattle.ertm_model.specs.Giving.{Giving, PollAnswer, Acknowledgement, Rejection, Polling, Again, New, giving, after_giving}
use Rattle.ertm_model.specs.Pair.{End, gave, near, Give, Pair, Turn, ByA, ByB, all_turned}
use Rattle.ertm_model.proofs.Lists.{get-inside, get-none, again-length}
use Rattle.ertm_model.proofs.Inverting.{Gives, gives}
use Rattle.recovery_laws.specs.Words.{AreGiven, EndsFallSilent}
use Rattle.recovery_laws.proofs.Tests.{bit}

-- so many frames, one after the other
abbrev all_given : ℕ → End → End
all_given zero e = e
all_given (suc count) e = all_given count (near Give e)

abbrev reply_count : Reply → ℕ
reply_count NoReply = 0
reply_count Acknowledges = 1
reply_count Rejects = 1

abbrev poll_count : Poll → ℕ
poll_count NoPoll = 0
poll_count Due = 1
poll_count Waits = 0

-- how many frames it may give at most
abbrev frames_count : Ertm → ℕ
frames_count m = bit m.receiver.polled + (reply_count m.receiver.reply + (poll_count m.sender.poll + ((length m.sender.unacked - m.sender.next) + length m.sender.fresh)))

falls : (m : Ertm) (given : Giving) → Gives m (Some given) → frames_count (after_giving given m) + 1 ≤ frames_count m
falls m PollAnswer (open_, polled) = let one : bit m.receiver.polled ≡ 1 = rw polled refl in omega arith
falls m Acknowledgement (open_, unpolled, is) = let one : reply_count m.receiver.reply ≡ 1 = rw is refl in omega arith
falls m Rejection (open_, unpolled, is) = let one : reply_count m.receiver.reply ≡ 1 = rw is refl in omega arith
falls m Polling (quiet, is) = let one : poll_count m.sender.poll ≡ 1 = rw is refl in omega arith
falls m (Again kept) (free, here) =
    let inside = get-inside m.sender.unacked m.sender.next kept here in
    let long = again-length m.sender.next m.sender.unacked in
    omega arith
falls m (New segment behind) (free, none, is, room) =
    let far = get-none m.sender.unacked m.sender.next none in
    let some = ap length is in
    let long = length-append m.sender.unacked (record { segment = segment; given = 1 } ∷ []) in
    omega arith

silent_by : (fuel : ℕ) (e : End) (given : Option Giving) → frames_count e.machine ≤ fuel → giving e.machine ≡ given → (count : ℕ) × (giving (all_given count e).machine ≡ None)
silent_by fuel e None le is = (0, is)
silent_by zero e (Some given) le is = absurd (let less = falls e.machine given (subst (λ (g : Option Giving). Gives e.machine g) is (gives e.machine)) in omega arith)
silent_by (suc fuel) e (Some given) le is =
    let less = falls e.machine given (subst (λ (g : Option Giving). Gives e.machine g) is (gives e.machine)) in
    let rest = silent_by fuel (gave (Some given) e) (giving (after_giving given e.machine)) (omega arith) refl in
    (suc rest.0, subst (λ (g : Option Giving). giving (all_given rest.0 (gave g e)).machine ≡ None) (sym is) rest.1)

silent_end : (e : End) → (count : ℕ) × (giving (all_given count e).machine ≡ None)
silent_end e = silent_by (frames_count e.machine) e (giving e.machine) (omega arith) refl

-- ---- both ends

abbrev given_b : ℕ → List Turn
given_b zero = []
given_b (suc count) = ByB Give ∷ given_b count

abbrev given_a : ℕ → List Turn → List Turn
given_a zero rest = rest
given_a (suc count) rest = ByA Give ∷ given_a count rest

b_given : (count : ℕ) (p : Pair) → all_turned (given_b count) p ≡ record { a = p.a; b = all_given count p.b }
b_given zero p = refl
b_given (suc count) p = b_given count (record { a = p.a; b = near Give p.b })

a_given : (count : ℕ) (rest : List Turn) (p : Pair) → all_turned (given_a count rest) p ≡ all_turned rest (record { a = all_given count p.a; b = p.b })
a_given zero rest p = refl
a_given (suc count) rest p = a_given count rest (record { a = near Give p.a; b = p.b })

b_are : (count : ℕ) → AreGiven (given_b count)
b_are zero = tt
b_are (suc count) = (refl, b_are count)

a_are : (count : ℕ) (rest : List Turn) → AreGiven rest → AreGiven (given_a count rest)
a_are zero rest are = are
a_are (suc count) rest are = (refl, a_are count rest are)

pub ends-fall_silent : EndsFallSilent
ends-fall_silent p =
    let a = silent_end p.a in
    let b = silent_end p.b in
    let turns : List Turn = given_a a.0 (given_b b.0) in
    let are : all_turned turns p ≡ record { a = all_given a.0 p.a; b = all_given b.0 p.b } = a_given a.0 (given_b b.0) p ∙ b_given b.0 (record { a = all_given a.0 p.a; b = p.b }) in (
      turns,
      a_are a.0 (given_b b.0) (b_are b.0),
      subst (λ (q : Pair). giving q.a.machine ≡ None) (sym are) a.1,
      subst (λ (q : Pair). giving q.b.machine ≡ None) (sym are) b.1,
    )
