-- An end whose timer fires where nothing is on its way between the two pays for its poll with what went wrong before, if it has nothing to give
-- and its peer has nothing to reply.
use Rattle.std.proofs.Common.{ℕ, ◌≡◌, ◌+◌, ◌-◌, ◌≤◌, inl, inr, Bool, true, false, cond, List, [], ◌∷◌, length, Option, Some, None, refl, ap, sym, ◌∙◌, subst, arith}
use Rattle.std.specs.Prelude.{nat_le}
use Rattle.std.proofs.lemmas.Bool.Decides.{leb_tells}
use Rattle.channel_laws.specs.ertm_model.specs.declared.reason.ErtmReason.{ErtmReason}
use Rattle.channel_laws.specs.ertm_model.specs.declared.reason.ErtmReason.TheVariants.{RetryLimit}
use Rattle.channel_laws.specs.ertm_model.specs.Value.{Kept, Poll, NoPoll, Due, Waits, Reply, NoReply}
use Rattle.channel_laws.specs.ertm_model.specs.Giving.{giving, closing, polling, first_poll, poll_timed, open_timed, timed}
use Rattle.channel_laws.specs.ertm_model.specs.Pair.{Sent, End}
use Rattle.channel_laws.specs.ertm_model.specs.Order.{Stands}
use Rattle.channel_laws.specs.ertm_model.proofs.Lists.{get-none}
use Rattle.channel_laws.specs.ertm_model.proofs.Inverting.{IsQuiet, IsSpent}
use Rattle.channel_laws.specs.ertm_model.proofs.Sending.{put-length}
use Rattle.channel_laws.specs.ertm_model.proofs.Accounts.{rej_due, poll_due}
use Rattle.channel_laws.specs.ertm_model.proofs.Paying.{Moves, Pays}
use Rattle.channel_laws.specs.ertm_model.proofs.Affording.{PaysOf, Account, Accounts, account_open, same_account, shut_account}
use Rattle.channel_laws.specs.ertm_model.proofs.Resting.{at_rest, silent}

-- x may fire
pub record MayWake (x y : End) : Type 0 where
  pub open_x : x.machine.closed ≡ None
  pub silent_x : giving x.machine ≡ None
  pub quiet_y : IsQuiet y.machine
  pub none_x : x.queue ≡ []
  pub none_y : y.queue ≡ []

-- ---- something is to blame

pub by_poll : (poll : Poll) (a next c gap spare : ℕ) (polled : Bool) (reply : Reply) → polled ≡ false → reply ≡ NoReply → (poll ≡ NoPoll → a + next ≤ c → a ≡ c → ⊥) → (poll ≡ Due → ⊥) → Moves poll a next c gap spare [] polled reply [] → 1 ≤ gap + spare
by_poll NoPoll a next c gap spare polled reply unpolled unreplied never due (inr some, other) = let none : rej_due reply ≡ 0 = rw unreplied refl in omega arith
by_poll NoPoll a next c gap spare polled reply unpolled unreplied never due (inl low, inl (inl same)) = absurd (never refl low same)
by_poll NoPoll a next c gap spare polled reply unpolled unreplied never due (inl low, inl (inr (inl e))) = let f : true ≡ false = sym e ∙ unpolled in cc
by_poll NoPoll a next c gap spare polled reply unpolled unreplied never due (inl low, inl (inr (inr e))) = absurd (e unreplied)
by_poll NoPoll a next c gap spare polled reply unpolled unreplied never due (inl low, inr some) = omega arith
by_poll Due a next c gap spare polled reply unpolled unreplied never due moves = absurd (due refl)
by_poll Waits a next c gap spare polled reply unpolled unreplied never due (final, inl (inl e)) = cc
by_poll Waits a next c gap spare polled reply unpolled unreplied never due (final, inl (inr (inl e))) = let f : true ≡ false = sym e ∙ unpolled in cc
by_poll Waits a next c gap spare polled reply unpolled unreplied never due (final, inl (inr (inr e))) = cc
by_poll Waits a next c gap spare polled reply unpolled unreplied never due (final, inr some) = omega arith

-- so the poll is paid already
woken_pays :
    {wrong a next : ℕ} {unacked : List Kept} {poll : Poll} {polls : ℕ} {shut : Option ErtmReason} {rejecting polled : Bool} {reply : Reply} {c : ℕ} → poll_due poll ≡ 0 → a ≤ c
    → (h : Pays wrong a next unacked poll polls [] shut rejecting polled reply c []) → 1 ≤ h.gap + h.spare → Pays wrong a next unacked Due polls [] shut rejecting polled reply c []
woken_pays {wrong} {a} {next} {unacked} {poll} {polls} {shut} {rejecting} {polled} {reply} {c} none low h some = record {
  gap = 0;
  spare = h.gap + h.spare - 1;
  paid = h.paid;
  enough = let e = h.enough in omega arith;
  within = h.within;
  given = h.given;
  some = λ e. cc;
  live = λ e. record { from = c; chains = omega arith; no_gap = λ f g. omega arith; moves = λ f. cc };
}

-- ---- it polls

module _ (wrong : ℕ) (x y : End) (s : Stands x y) (may : MayWake x y) (h : Account wrong x y) where
  k : PaysOf wrong x y
  k = h.pays may.open_x

  paid : Pays wrong k.a x.machine.sender.next x.machine.sender.unacked x.machine.sender.poll x.machine.sender.polls [] y.machine.closed y.machine.receiver.rejecting y.machine.receiver.polled y.machine.receiver.reply (length y.got) []
  paid =
      subst (λ (l : List Sent). Pays wrong k.a x.machine.sender.next x.machine.sender.unacked x.machine.sender.poll x.machine.sender.polls l y.machine.closed y.machine.receiver.rejecting y.machine.receiver.polled y.machine.receiver.reply (length y.got) []) may.none_x
      (subst (λ (l : List Sent). Pays wrong k.a x.machine.sender.next x.machine.sender.unacked x.machine.sender.poll x.machine.sender.polls x.queue y.machine.closed y.machine.receiver.rejecting y.machine.receiver.polled y.machine.receiver.reply (length y.got) l) may.none_y k.pays)

  polls-free : poll_due x.machine.sender.poll ≡ 0 → (x.machine.sender.poll ≡ NoPoll → k.a + x.machine.sender.next ≤ length y.got → k.a ≡ length y.got → ⊥) → (x.machine.sender.poll ≡ Due → ⊥) → Account wrong (record x { machine = polling x.machine }) y
  polls-free none never due =
      let long = put-length s.there.sends in
      let a_c = s.there.a_c in
      let a_is = k.a_is in
      let l = paid.live may.quiet_y.open_ in
      let some = by_poll x.machine.sender.poll k.a x.machine.sender.next (length y.got) paid.gap paid.spare y.machine.receiver.polled y.machine.receiver.reply may.quiet_y.unpolled may.quiet_y.unreplied never due l.moves in
      account_open wrong (record x { machine = polling x.machine }) y h.ready may.open_x (record {
        a = k.a;
        a_is = k.a_is;
        pays =
            subst (λ (l : List Sent). Pays wrong k.a x.machine.sender.next x.machine.sender.unacked Due x.machine.sender.polls l y.machine.closed y.machine.receiver.rejecting y.machine.receiver.polled y.machine.receiver.reply (length y.got) y.queue) (sym may.none_x)
            (subst (λ (l : List Sent). Pays wrong k.a x.machine.sender.next x.machine.sender.unacked Due x.machine.sender.polls [] y.machine.closed y.machine.receiver.rejecting y.machine.receiver.polled y.machine.receiver.reply (length y.got) l) (sym may.none_y)
            (woken_pays none (omega arith) paid some));
      })

  first : (unacked : List Kept) → x.machine.sender.unacked ≡ unacked → x.machine.sender.poll ≡ NoPoll → IsSpent x.machine → Account wrong (record x { machine = first_poll unacked x.machine }) y
  first [] is no_poll spent = h
  first (kept ∷ behind) is no_poll spent =
      let end = get-none x.machine.sender.unacked x.machine.sender.next spent.at_end in
      let some = ap length is in
      let c_n = s.there.c_n in
      let long = put-length s.there.sends in
      let a_is = k.a_is in
      polls-free (rw no_poll refl) (λ e low same. omega arith) (λ e. let f : NoPoll ≡ Due = sym no_poll ∙ e in cc)

  late : (is_late : Bool) → nat_le x.machine.agreed.tries x.machine.sender.polls ≡ is_late → x.machine.sender.poll ≡ Waits → Account wrong (record x { machine = cond is_late (closing RetryLimit x.machine) (polling x.machine) }) y
  late true is waits =
      let polled = h.affords.polled in
      let few : x.machine.agreed.tries ≤ x.machine.sender.polls = elim (leb_tells x.machine.agreed.tries x.machine.sender.polls) [ inl (e, le) ↦ le | inr (e, lt) ↦ (let f : true ≡ false = sym is ∙ e in cc) ] in
      record { affords = record { given = h.affords.given; polled = h.affords.polled; limit = λ e. omega arith }; ready = h.ready; pays = λ e. cc }
  late false is waits = polls-free (rw waits refl) (λ e. let f : Waits ≡ NoPoll = sym waits ∙ e in cc) (λ e. let f : Waits ≡ Due = sym waits ∙ e in cc)

  by_rest : Account wrong (record x { machine = poll_timed x.machine.sender.poll x.machine }) y
  by_rest =
      let at_ = at_rest x.machine may.open_x (silent x.machine may.silent_x) in
      elim at_.rests [
        | inl waits ↦ subst (λ (q : Poll). Account wrong (record x { machine = poll_timed q x.machine }) y) (sym waits) (late (nat_le x.machine.agreed.tries x.machine.sender.polls) refl waits)
        | inr (no_poll, inl busy) ↦ (let e : true ≡ false = sym busy ∙ h.ready in cc)
        | inr (no_poll, inr (ready, spent)) ↦ subst (λ (q : Poll). Account wrong (record x { machine = poll_timed q x.machine }) y) (sym no_poll) (first x.machine.sender.unacked refl no_poll spent)
      ]

  woken : Account wrong (record x { machine = timed x.machine }) y
  woken = subst (λ (o : Option ErtmReason). Account wrong (record x { machine = open_timed o x.machine }) y) (sym may.open_x) by_rest

-- ---- which is nothing in the account of the other

module _ (wrong : ℕ) (x y : End) (h : Account wrong y x) where
  first_same : (unacked : List Kept) → Account wrong y (record x { machine = first_poll unacked x.machine })
  first_same [] = h
  first_same (kept ∷ behind) = same_account wrong x y (polling x.machine) refl refl refl refl h

  late_same : (is_late : Bool) → Account wrong y (record x { machine = cond is_late (closing RetryLimit x.machine) (polling x.machine) })
  late_same true = shut_account wrong x y RetryLimit (closing RetryLimit x.machine) refl refl refl refl h
  late_same false = same_account wrong x y (polling x.machine) refl refl refl refl h

  poll_same : (poll : Poll) → Account wrong y (record x { machine = poll_timed poll x.machine })
  poll_same NoPoll = first_same x.machine.sender.unacked
  poll_same Due = h
  poll_same Waits = late_same (nat_le x.machine.agreed.tries x.machine.sender.polls)

  timed_same : (shut : Option ErtmReason) → Account wrong y (record x { machine = open_timed shut x.machine })
  timed_same (Some reason) = h
  timed_same None = poll_same x.machine.sender.poll

pub wakes-free : (wrong : ℕ) (x y : End) → Stands x y → MayWake x y → Accounts wrong x y → (let after : End = record x { machine = timed x.machine } in Accounts wrong after y)
wakes-free wrong x y s may h = record { there = woken wrong x y s may h.there; back = timed_same wrong x y h.back x.machine.closed }
