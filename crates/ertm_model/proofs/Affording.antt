-- Two ends never give a frame or a poll more often than what went wrong pays for.
use Rattle.std.proofs.Common.{ℕ, ◌≡◌, ◌+◌, ◌-◌, ◌≤◌, ◌⊎◌, inl, inr, Bool, true, false, cond, List, [], ◌∷◌, ◌++◌, length, drop, Option, Some, None, refl, ap, sym, ◌∙◌, subst, arith, length-append}
use Rattle.std.specs.Prelude.{nat_le, ◌&&◌}
use Rattle.std.proofs.lemmas.Bool.{le-ltb}
use Rattle.std.proofs.lemmas.Bool.Decides.{leb_tells}
use Rattle.ertm_frames.specs.declared.frame.SKind.TheVariants.{Rr, Rej, Rnr, Srej}
use Rattle.ertm_frames.specs.Frames.{PlainFrame, information, supervisory}
use Rattle.ertm_frames.specs.Segments.{Segment}
use Rattle.ertm_frames.specs.Picking.{is_final}
use Rattle.ertm_model.specs.declared.reason.ErtmReason.{ErtmReason}
use Rattle.ertm_model.specs.declared.reason.ErtmReason.TheVariants.{RetryLimit}
use Rattle.ertm_model.specs.Value.{Kept, Poll, NoPoll, Due, Waits, Reply, NoReply, Ertm}
use Rattle.ertm_model.specs.Submitting.{cut, is_busy}
use Rattle.ertm_model.specs.Giving.{Giving, PollAnswer, Acknowledgement, Rejection, Polling, Again, New, next_number, given_again, giving, closing, polling, first_poll, poll_timed, open_timed}
use Rattle.ertm_model.specs.Hearing.{rejects_frames, busy_after, acknowledged, sender_after, asks_again, is_spent, selects_frames, sender_fault, receiver_fault, receiver_after, fault, or_else}
use Rattle.ertm_model.specs.Pair.{Sent, End, Deed, Give, Fire, Submit, Pass, Lose, Repeat, Damage, acknowledged_by, gave, took, segment_in, near, far, behind_front, hearing_by, Pair, Turn, ByA, ByB, turned, MayDo, MayTurn}
use Rattle.ertm_model.specs.Order.{MayFly, WayBy, Stands, StandsBoth}
use Rattle.ertm_model.specs.Recovery.{adverse, adverse_turn, Affords}
use Rattle.ertm_model.proofs.Lists.{get-none, again-length, dropped}
use Rattle.ertm_model.proofs.Inverting.{Gives, gives}
use Rattle.ertm_model.proofs.Sending.{put-length}
use Rattle.ertm_model.proofs.Acknowledging.{acknowledges, selects-none}
use Rattle.ertm_model.proofs.Hearing.{received}
use Rattle.ertm_model.proofs.Ordering.{place-at, front-flies}
use Rattle.ertm_model.proofs.Queues.{rises-between}
use Rattle.ertm_model.proofs.Standing.{no_fresh, damages, swapped}
use Rattle.ertm_model.proofs.Accounts.{one_if, rej_due, given-dropped, given-at_most, at_most-more, spent-means}
use Rattle.ertm_model.proofs.Paying.{Pays, pays-s, pays-poll, pays-again, pays-new, pays-asked, pays-more, pays-shut, pays-due, pays-lost, pays-unheard}
use Rattle.ertm_model.proofs.Spending.{IsPlaced, again_by, pays-received, pays-received_again, pays-acknowledged, again-paid, pays-stays}

-- ---- an end's account

-- so many of its frames are acknowledged, and its sendings are paid
pub record PaysOf (wrong : ℕ) (x y : End) : Type 0 where
  pub a : ℕ
  pub a_is : a + (length x.machine.sender.unacked + length x.machine.sender.fresh) ≡ length x.put
  pub pays : Pays wrong a x.machine.sender.next x.machine.sender.unacked x.machine.sender.poll x.machine.sender.polls x.queue y.machine.closed y.machine.receiver.rejecting y.machine.receiver.polled y.machine.receiver.reply (length y.got) y.queue

-- x is the sender, y the other end; the peer of an end is always ready
pub record Account (wrong : ℕ) (x y : End) : Type 0 where
  pub affords : Affords wrong x
  pub ready : x.machine.sender.busy ≡ false
  pub pays : x.machine.closed ≡ None → PaysOf wrong x y

pub record Accounts (wrong : ℕ) (x y : End) : Type 0 where
  pub there : Account wrong x y
  pub back : Account wrong y x

pub account_open : (wrong : ℕ) (x y : End) → x.machine.sender.busy ≡ false → x.machine.closed ≡ None → PaysOf wrong x y → Account wrong x y
account_open wrong x y ready open_ h = record {
  affords = record {
    given = given-at_most wrong h.pays.paid x.machine.sender.next x.machine.sender.unacked h.pays.given;
    polled = let e = h.pays.enough in let f = h.pays.within in omega arith;
    limit = λ e. (let f : None ≡ Some RetryLimit = sym open_ ∙ e in cc);
  };
  ready = ready;
  pays = λ e. h;
}

affords_more : (wrong : ℕ) (x : End) → Affords wrong x → Affords (1 + wrong) x
affords_more wrong x h = record {
  given = at_most-more wrong (1 + wrong) x.machine.sender.unacked (omega arith) h.given;
  polled = let e = h.polled in omega arith;
  limit = λ e. let f = h.limit e in omega arith;
}

account_more : (wrong : ℕ) (x y : End) → Account wrong x y → Account (1 + wrong) x y
account_more wrong x y h = record {
  affords = affords_more wrong x h.affords;
  ready = h.ready;
  pays = λ open_. let k = h.pays open_ in record { a = k.a; a_is = k.a_is; pays = pays-more k.pays };
}

-- ---- it gives its next frame

numbered : (wrong : ℕ) (x y : End) (h : PaysOf wrong x y) → acknowledged_by x + x.machine.sender.next ≡ h.a + x.machine.sender.next
numbered wrong x y h = let e = h.a_is in omega arith

-- the other end's account, where this one gave a frame
asked_account : (wrong : ℕ) (x y : End) (polled : Bool) (reply : Reply) (sent : Sent) (m : Ertm) → sent.asks ≡ length x.got → (x.machine.receiver.polled ≡ true → (polled ≡ true) ⊎ (is_final sent.frame ≡ true))
    → rej_due reply + one_if (rejects_frames sent.frame) ≡ rej_due x.machine.receiver.reply → m.closed ≡ x.machine.closed → m.receiver.rejecting ≡ x.machine.receiver.rejecting → m.receiver.polled ≡ polled → m.receiver.reply ≡ reply
    → Account wrong y x → Account wrong y (record x { machine = m; queue = x.queue ++ sent ∷ [] })
asked_account wrong x y polled reply sent m is then same closed_is rejecting_is polled_is reply_is h = record {
  affords = record { given = h.affords.given; polled = h.affords.polled; limit = h.affords.limit };
  ready = h.ready;
  pays = λ open_. let k = h.pays open_ in record { a = k.a; a_is = k.a_is; pays = rw (closed_is, rejecting_is, polled_is, reply_is) (pays-asked polled reply sent is then same k.pays) };
}

gave_account : (wrong : ℕ) (x y : End) (g : Option Giving) → Gives x.machine g → Stands x y → Accounts wrong x y → Accounts wrong (gave g x) y
gave_account wrong x y None why s h = h
gave_account wrong x y (Some PollAnswer) (open_, polled) s h =
    let k = h.there.pays open_ in
    record {
      there = account_open wrong (gave (Some PollAnswer) x) y h.there.ready open_ (record { a = k.a; a_is = k.a_is; pays = pays-s Rr false true x.machine.receiver.expected (acknowledged_by x + x.machine.sender.next) (length x.got) k.pays });
      back = asked_account wrong x y false x.machine.receiver.reply _ (gave (Some PollAnswer) x).machine refl (λ e. inr refl) (omega arith) refl refl refl refl h.back;
    }
gave_account wrong x y (Some Acknowledgement) (open_, unpolled, is) s h =
    let k = h.there.pays open_ in
    let none : rej_due x.machine.receiver.reply ≡ 0 = rw is refl in
    record {
      there = account_open wrong (gave (Some Acknowledgement) x) y h.there.ready open_ (record { a = k.a; a_is = k.a_is; pays = pays-s Rr false false x.machine.receiver.expected (acknowledged_by x + x.machine.sender.next) (length x.got) k.pays });
      back = asked_account wrong x y x.machine.receiver.polled NoReply _ (gave (Some Acknowledgement) x).machine refl (λ e. inl e) (omega arith) refl refl refl refl h.back;
    }
gave_account wrong x y (Some Rejection) (open_, unpolled, is) s h =
    let k = h.there.pays open_ in
    let one : rej_due x.machine.receiver.reply ≡ 1 = rw is refl in
    record {
      there = account_open wrong (gave (Some Rejection) x) y h.there.ready open_ (record { a = k.a; a_is = k.a_is; pays = pays-s Rej false false x.machine.receiver.expected (acknowledged_by x + x.machine.sender.next) (length x.got) k.pays });
      back = asked_account wrong x y x.machine.receiver.polled NoReply _ (gave (Some Rejection) x).machine refl (λ e. inl e) (omega arith) refl refl refl refl h.back;
    }
gave_account wrong x y (Some Polling) (quiet, due) s h =
    let k = h.there.pays quiet.open_ in
    let at_due : Pays wrong k.a x.machine.sender.next x.machine.sender.unacked Due x.machine.sender.polls x.queue y.machine.closed y.machine.receiver.rejecting y.machine.receiver.polled y.machine.receiver.reply (length y.got) y.queue =
    subst (λ (p : Poll). Pays wrong k.a x.machine.sender.next x.machine.sender.unacked p x.machine.sender.polls x.queue y.machine.closed y.machine.receiver.rejecting y.machine.receiver.polled y.machine.receiver.reply (length y.got) y.queue) due k.pays in
    record {
      there = account_open wrong (gave (Some Polling) x) y h.there.ready quiet.open_ (record { a = k.a; a_is = k.a_is; pays = pays-poll Rr false x.machine.receiver.expected (acknowledged_by x + x.machine.sender.next) (length x.got) at_due });
      back = asked_account wrong x y x.machine.receiver.polled x.machine.receiver.reply _ (gave (Some Polling) x).machine refl (λ e. inl e) (omega arith) refl refl refl refl h.back;
    }
gave_account wrong x y (Some (Again kept)) (free, at_) s h =
    let k = h.there.pays free.quiet.open_ in
    let idle : Pays wrong k.a x.machine.sender.next x.machine.sender.unacked NoPoll x.machine.sender.polls x.queue y.machine.closed y.machine.receiver.rejecting y.machine.receiver.polled y.machine.receiver.reply (length y.got) y.queue =
    subst (λ (p : Poll). Pays wrong k.a x.machine.sender.next x.machine.sender.unacked p x.machine.sender.polls x.queue y.machine.closed y.machine.receiver.rejecting y.machine.receiver.polled y.machine.receiver.reply (length y.got) y.queue) free.no_poll k.pays in
    let after = pays-again (next_number x.machine) x.machine.receiver.expected kept.segment.sar kept.segment.total false kept.segment.octets (acknowledged_by x + x.machine.sender.next) (length x.got) (numbered wrong x y k) idle in
    let long = again-length x.machine.sender.next x.machine.sender.unacked in
    record {
      there = account_open wrong (gave (Some (Again kept)) x) y h.there.ready free.quiet.open_ (record {
        a = k.a;
        a_is = let e = k.a_is in omega arith;
        pays = subst (λ (p : Poll). Pays wrong k.a (x.machine.sender.next + 1) (given_again x.machine.sender.next x.machine.sender.unacked) p x.machine.sender.polls (gave (Some (Again kept)) x).queue y.machine.closed y.machine.receiver.rejecting y.machine.receiver.polled y.machine.receiver.reply (length y.got) y.queue) (sym free.no_poll) after;
      });
      back = asked_account wrong x y x.machine.receiver.polled x.machine.receiver.reply _ (gave (Some (Again kept)) x).machine refl (λ e. inl e) (omega arith) refl refl refl refl h.back;
    }
gave_account wrong x y (Some (New segment behind)) (free, none, is, room) s h =
    let k = h.there.pays free.quiet.open_ in
    let kept : Kept = record { segment = segment; given = 1 } in
    let idle : Pays wrong k.a x.machine.sender.next x.machine.sender.unacked NoPoll x.machine.sender.polls x.queue y.machine.closed y.machine.receiver.rejecting y.machine.receiver.polled y.machine.receiver.reply (length y.got) y.queue =
    subst (λ (p : Poll). Pays wrong k.a x.machine.sender.next x.machine.sender.unacked p x.machine.sender.polls x.queue y.machine.closed y.machine.receiver.rejecting y.machine.receiver.polled y.machine.receiver.reply (length y.got) y.queue) free.no_poll k.pays in
    let past_end = get-none x.machine.sender.unacked x.machine.sender.next none in
    let next_in = s.there.sends.next_in in
    let after = pays-new kept (next_number x.machine) x.machine.receiver.expected segment.sar segment.total false segment.octets (acknowledged_by x + x.machine.sender.next) (length x.got) (numbered wrong x y k) (omega arith) refl idle in
    let long = length-append x.machine.sender.unacked (kept ∷ []) in
    let some = ap length is in
    record {
      there = account_open wrong (gave (Some (New segment behind)) x) y h.there.ready free.quiet.open_ (record {
        a = k.a;
        a_is = let e = k.a_is in omega arith;
        pays = subst (λ (p : Poll). Pays wrong k.a (x.machine.sender.next + 1) (x.machine.sender.unacked ++ kept ∷ []) p x.machine.sender.polls (gave (Some (New segment behind)) x).queue y.machine.closed y.machine.receiver.rejecting y.machine.receiver.polled y.machine.receiver.reply (length y.got) y.queue) (sym free.no_poll) after;
      });
      back = asked_account wrong x y x.machine.receiver.polled x.machine.receiver.reply _ (gave (Some (New segment behind)) x).machine refl (λ e. inl e) (omega arith) refl refl refl refl h.back;
    }

-- ---- its timer fires

-- the other end's account, where this one may have closed
pub shut_account : (wrong : ℕ) (x y : End) (reason : ErtmReason) (m : Ertm) → m.closed ≡ Some reason → m.receiver.rejecting ≡ x.machine.receiver.rejecting → m.receiver.polled ≡ x.machine.receiver.polled → m.receiver.reply ≡ x.machine.receiver.reply
    → Account wrong y x → Account wrong y (record x { machine = m })
shut_account wrong x y reason m closed_is rejecting_is polled_is reply_is h = record {
  affords = record { given = h.affords.given; polled = h.affords.polled; limit = h.affords.limit };
  ready = h.ready;
  pays = λ open_. let k = h.pays open_ in record { a = k.a; a_is = k.a_is; pays = rw (closed_is, rejecting_is, polled_is, reply_is) (pays-shut reason y.queue k.pays) };
}

pub same_account : (wrong : ℕ) (x y : End) (m : Ertm) → m.closed ≡ x.machine.closed → m.receiver.rejecting ≡ x.machine.receiver.rejecting → m.receiver.polled ≡ x.machine.receiver.polled → m.receiver.reply ≡ x.machine.receiver.reply
    → Account wrong y x → Account wrong y (record x { machine = m })
same_account wrong x y m closed_is rejecting_is polled_is reply_is h = record {
  affords = record { given = h.affords.given; polled = h.affords.polled; limit = h.affords.limit };
  ready = h.ready;
  pays = λ open_. let k = h.pays open_ in record { a = k.a; a_is = k.a_is; pays = rw (closed_is, rejecting_is, polled_is, reply_is) k.pays };
}

polling_account : (wrong : ℕ) (x y : End) → x.machine.closed ≡ None → Accounts wrong x y → Accounts (1 + wrong) (record x { machine = polling x.machine }) y
polling_account wrong x y open_ h =
    let k = h.there.pays open_ in
    record {
      there = account_open (1 + wrong) (record x { machine = polling x.machine }) y h.there.ready open_ (record { a = k.a; a_is = k.a_is; pays = pays-due k.pays });
      back = same_account (1 + wrong) x y (polling x.machine) refl refl refl refl (account_more wrong y x h.back);
    }

-- polls were given as often as may be
closing_account : (wrong : ℕ) (x y : End) → x.machine.agreed.tries ≤ wrong → Accounts wrong x y → Accounts wrong (record x { machine = closing RetryLimit x.machine }) y
closing_account wrong x y few h = record {
  there = record {
    affords = record { given = h.there.affords.given; polled = h.there.affords.polled; limit = λ e. few };
    ready = h.there.ready;
    pays = λ e. cc;
  };
  back = shut_account wrong x y RetryLimit (closing RetryLimit x.machine) refl refl refl refl h.back;
}

more_accounts : (wrong : ℕ) (x y : End) → Accounts wrong x y → Accounts (1 + wrong) x y
more_accounts wrong x y h = record { there = account_more wrong x y h.there; back = account_more wrong y x h.back }

late_account : (wrong : ℕ) (x y : End) (late : Bool) → nat_le x.machine.agreed.tries x.machine.sender.polls ≡ late → x.machine.closed ≡ None → Accounts wrong x y
    → Accounts (1 + wrong) (record x { machine = cond late (closing RetryLimit x.machine) (polling x.machine) }) y
late_account wrong x y true is open_ h =
    let polled = h.there.affords.polled in
    let few : x.machine.agreed.tries ≤ x.machine.sender.polls = elim (leb_tells x.machine.agreed.tries x.machine.sender.polls) [ inl (e, le) ↦ le | inr (e, lt) ↦ (let f : true ≡ false = sym is ∙ e in cc) ] in
    closing_account (1 + wrong) x y (omega arith) (more_accounts wrong x y h)
late_account wrong x y false is open_ h = polling_account wrong x y open_ h

first_account : (wrong : ℕ) (x y : End) (unacked : List Kept) → x.machine.closed ≡ None → Accounts wrong x y → Accounts (1 + wrong) (record x { machine = first_poll unacked x.machine }) y
first_account wrong x y [] open_ h = more_accounts wrong x y h
first_account wrong x y (kept ∷ behind) open_ h = polling_account wrong x y open_ h

poll_account : (wrong : ℕ) (x y : End) (poll : Poll) → x.machine.closed ≡ None → Accounts wrong x y → Accounts (1 + wrong) (record x { machine = poll_timed poll x.machine }) y
poll_account wrong x y NoPoll open_ h = first_account wrong x y x.machine.sender.unacked open_ h
poll_account wrong x y Due open_ h = more_accounts wrong x y h
poll_account wrong x y Waits open_ h = late_account wrong x y (nat_le x.machine.agreed.tries x.machine.sender.polls) refl open_ h

fires_account : (wrong : ℕ) (x y : End) (shut : Option ErtmReason) → x.machine.closed ≡ shut → Accounts wrong x y → Accounts (1 + wrong) (record x { machine = open_timed shut x.machine }) y
fires_account wrong x y (Some reason) is h = more_accounts wrong x y h
fires_account wrong x y None is h = poll_account wrong x y x.machine.sender.poll is h

-- ---- an SDU is submitted

submits_account : (wrong : ℕ) (x y : End) (sdu : List ℕ) (busy : Bool) → is_busy x.machine ≡ busy → Accounts wrong x y → Accounts wrong (cond busy x (took sdu x)) y
submits_account wrong x y sdu true is h = h
submits_account wrong x y sdu false is h = record {
  there = record {
    affords = record { given = h.there.affords.given; polled = h.there.affords.polled; limit = h.there.affords.limit };
    ready = h.there.ready;
    pays = λ open_.
        let k = h.there.pays open_ in
        let none = ap length (no_fresh x.machine.sender.fresh is) in
        let long = length-append x.put (cut x.machine.agreed.send_mps sdu) in
        record { a = k.a; a_is = let e = k.a_is in omega arith; pays = k.pays };
  };
  back = record {
    affords = h.back.affords;
    ready = h.back.ready;
    pays = λ open_. let k = h.back.pays open_ in record { a = k.a; a_is = k.a_is; pays = k.pays };
  };
}

-- ---- the front frame is heard

and_true : (a b : Bool) → (a && b) ≡ true → (a ≡ true) × (b ≡ true)
and_true true b e = (refl, e)
and_true false b e = cc

spent_by : (b : Bool) (r : Option ErtmReason) (cause : ErtmReason) → r ≡ None → or_else (cond b (Some RetryLimit) None) r ≡ Some cause → b ≡ true
spent_by true r cause none is = refl
spent_by false r cause none is = let e : None ≡ Some cause = sym none ∙ is in cc

-- what closes an end
spent_where : (frame : PlainFrame) (m : Ertm) (cause : ErtmReason) → acknowledged frame m.sender ≤ length m.sender.unacked → selects_frames frame ≡ false → receiver_fault frame m ≡ None → fault frame m ≡ Some cause
    → (asks_again m.sender.poll frame ≡ true) × (is_spent m.agreed.tries (drop (acknowledged frame m.sender) m.sender.unacked) ≡ true)
spent_where frame m cause few none harmless is =
    let spent : Bool = asks_again m.sender.poll frame && is_spent m.agreed.tries (drop (acknowledged frame m.sender) m.sender.unacked) in
    let e = le-ltb (length m.sender.unacked) (acknowledged frame m.sender) few in
    let same : sender_fault m.agreed.tries frame m.sender ≡ cond spent (Some RetryLimit) None = rw (e, none) refl in
    and_true (asks_again m.sender.poll frame) (is_spent m.agreed.tries (drop (acknowledged frame m.sender) m.sender.unacked))
    (spent_by spent (receiver_fault frame m) cause harmless (ap (λ (o : Option ErtmReason). or_else o (receiver_fault frame m)) (sym same) ∙ is))

again_same : (poll : Poll) (frame : PlainFrame) → again_by poll (rejects_frames frame) (is_final frame) ≡ asks_again poll frame
again_same NoPoll frame = refl
again_same Due frame = refl
again_same Waits frame = refl

pub still_ready : (window : ℕ) (put : List Segment) (given reach number : ℕ) (frame : PlainFrame) (busy : Bool) → MayFly window put given reach number frame → busy ≡ false → busy_after frame busy ≡ false
still_ready window put given reach number (information tx final req sar total octets) busy may is = is
still_ready window put given reach number (supervisory Rr poll final req) busy may is = refl
still_ready window put given reach number (supervisory Rej poll final req) busy may is = refl
still_ready window put given reach number (supervisory Rnr poll final req) busy may is = elim may [ inl e ↦ cc | inr e ↦ cc ]
still_ready window put given reach number (supervisory Srej poll final req) busy may is = is

pub placed_for : (x y : End) (number : ℕ) (frame : PlainFrame) (h : Stands x y) → MayFly x.machine.agreed.send_window x.put (h.there.a + length x.machine.sender.unacked) (length y.got) number frame → IsPlaced number y.got y.machine frame
placed_for x y number (information tx final req sar total octets) h may = place-at x y number tx req sar total final octets h may
placed_for x y number (supervisory kind poll final req) h may = tt

-- all that is known of a frame at the front
record Front (x y : End) (sent : Sent) (queue : List Sent) : Type 0 where
  is : x.queue ≡ sent ∷ queue
  few : acknowledged sent.frame y.machine.sender ≤ length y.machine.sender.unacked
  -- how many frames y has acknowledged then
  asks : length y.put + acknowledged sent.frame y.machine.sender ≡ sent.asks + (length y.machine.sender.unacked + length y.machine.sender.fresh)
  low : sent.asks ≤ length x.got
  selects : selects_frames sent.frame ≡ false
  harmless : receiver_fault sent.frame y.machine ≡ None
  place : IsPlaced sent.number y.got y.machine sent.frame
  ready : busy_after sent.frame y.machine.sender.busy ≡ false

front : (x y : End) (sent : Sent) (queue : List Sent) → x.queue ≡ sent ∷ queue → y.machine.sender.busy ≡ false → Stands x y → Front x y sent queue
front x y sent queue is ready h =
    let meets = h.meets in
    let met = h.met in
    let there : WayBy x.machine.agreed.send_window y.machine.agreed.receive_mtu x.machine.sender x.put x.sdus (sent ∷ queue) y.machine.receiver y.got y.up y.queue =
    subst (λ (l : List Sent). WayBy x.machine.agreed.send_window y.machine.agreed.receive_mtu x.machine.sender x.put x.sdus l y.machine.receiver y.got y.up y.queue) is h.there in
    let back : WayBy y.machine.agreed.send_window x.machine.agreed.receive_mtu y.machine.sender y.put y.sdus y.queue x.machine.receiver x.got x.up (sent ∷ queue) =
    subst (λ (l : List Sent). WayBy y.machine.agreed.send_window x.machine.agreed.receive_mtu y.machine.sender y.put y.sdus y.queue x.machine.receiver x.got x.up l) is h.back in
    let acks = acknowledges sent queue (acknowledged sent.frame y.machine.sender) (let e = met.within in let f = met.most in omega arith) refl back in
    let may : MayFly x.machine.agreed.send_window x.put (h.there.a + length x.machine.sender.unacked) (length y.got) sent.number sent.frame = front-flies x y sent queue h is in
    record {
      is = is;
      few = acks.few;
      asks = let e = acks.is in let long = put-length back.sends in omega arith;
      low = rises-between sent.asks (length x.got) queue back.rises.2;
      selects = selects-none x.machine.agreed.send_window x.put (h.there.a + length x.machine.sender.unacked) (length y.got) sent.number sent.frame may;
      harmless = (received sent.frame sent.number sent.asks queue y.machine meets.some meets.within meets.most there).harmless;
      place = placed_for x y sent.number sent.frame h may;
      ready = still_ready x.machine.agreed.send_window x.put (h.there.a + length x.machine.sender.unacked) (length y.got) sent.number sent.frame y.machine.sender.busy may ready;
    }

-- the end that heard it: what is acknowledged, over what is on its way to it
record Heard (wrong : ℕ) (x y : End) (sent : Sent) (queue : List Sent) : Type 0 where
  a : ℕ
  asked : a ≡ sent.asks
  a_is : a + (length (drop (acknowledged sent.frame y.machine.sender) y.machine.sender.unacked) + length y.machine.sender.fresh) ≡ length y.put
  pays : Pays wrong a (sender_after sent.frame y.machine.sender).next (sender_after sent.frame y.machine.sender).unacked (sender_after sent.frame y.machine.sender).poll (sender_after sent.frame y.machine.sender).polls y.queue
      x.machine.closed x.machine.receiver.rejecting x.machine.receiver.polled x.machine.receiver.reply (length x.got) queue

front_pays : (wrong : ℕ) (x y : End) (sent : Sent) (queue : List Sent) (f : Front x y sent queue) (k : PaysOf wrong y x)
    → Pays wrong k.a y.machine.sender.next y.machine.sender.unacked y.machine.sender.poll y.machine.sender.polls y.queue x.machine.closed x.machine.receiver.rejecting x.machine.receiver.polled x.machine.receiver.reply (length x.got) (sent ∷ queue)
front_pays wrong x y sent queue f k =
    subst (λ (l : List Sent). Pays wrong k.a y.machine.sender.next y.machine.sender.unacked y.machine.sender.poll y.machine.sender.polls y.queue x.machine.closed x.machine.receiver.rejecting x.machine.receiver.polled x.machine.receiver.reply (length x.got) l) f.is k.pays

hears_paid : (wrong : ℕ) (x y : End) (sent : Sent) (queue : List Sent) → Front x y sent queue → PaysOf wrong y x → Heard wrong x y sent queue
hears_paid wrong x y sent queue f k =
    let n = acknowledged sent.frame y.machine.sender in
    let few = f.few in
    let asks = f.asks in
    let a_is = k.a_is in
    let low = f.low in
    let rest = (dropped n y.machine.sender.unacked few).left_length in
    record {
      a = k.a + n;
      asked = omega arith;
      a_is = omega arith;
      pays =
          subst (λ (b : Bool). Pays wrong (k.a + n) (cond b 0 (y.machine.sender.next - n)) (drop n y.machine.sender.unacked) (cond (is_final sent.frame) NoPoll y.machine.sender.poll) (cond (is_final sent.frame) 0 y.machine.sender.polls) y.queue
          x.machine.closed x.machine.receiver.rejecting x.machine.receiver.polled x.machine.receiver.reply (length x.got) queue) (again_same y.machine.sender.poll sent.frame)
          (pays-acknowledged y.machine.sender.poll (rejects_frames sent.frame) (is_final sent.frame) (k.a + n) n sent queue refl refl refl (omega arith) (omega arith) (front_pays wrong x y sent queue f k));
    }

few_tries : (wrong : ℕ) (x y : End) (sent : Sent) (queue : List Sent) (cause : ErtmReason) → Front x y sent queue → fault sent.frame y.machine ≡ Some cause → PaysOf wrong y x → y.machine.agreed.tries ≤ wrong
few_tries wrong x y sent queue cause f is k =
    let spent = spent_where sent.frame y.machine cause f.few f.selects f.harmless is in
    let h = front_pays wrong x y sent queue f k in
    let some = again-paid y.machine.sender.poll (rejects_frames sent.frame) (is_final sent.frame) sent queue refl (again_same y.machine.sender.poll sent.frame ∙ spent.0) h in
    spent-means wrong h.paid (y.machine.sender.next - acknowledged sent.frame y.machine.sender) y.machine.agreed.tries (drop (acknowledged sent.frame y.machine.sender) y.machine.sender.unacked) some spent.1
    (given-dropped wrong h.paid y.machine.sender.next (acknowledged sent.frame y.machine.sender) y.machine.sender.unacked h.given)

poll_ended : (final : Bool) (poll : Poll) → final ≡ true → cond final NoPoll poll ≡ NoPoll
poll_ended true poll e = refl
poll_ended false poll e = cc

-- ---- and goes

goes_account : (wrong : ℕ) (x y : End) (sent : Sent) (queue : List Sent) (shut cause : Option ErtmReason) → y.machine.closed ≡ shut → fault sent.frame y.machine ≡ cause → Front x y sent queue
    → Accounts wrong x y → Accounts wrong (record x { queue = queue }) (hearing_by shut cause sent.frame y)
goes_account wrong x y sent queue (Some reason) cause shut_is cause_is f h = record {
  there = record {
    affords = record { given = h.there.affords.given; polled = h.there.affords.polled; limit = h.there.affords.limit };
    ready = h.there.ready;
    pays = λ open_. let k = h.there.pays open_ in record { a = k.a; a_is = k.a_is; pays = rw shut_is (pays-shut reason queue k.pays) };
  };
  back = record { affords = h.back.affords; ready = h.back.ready; pays = λ open_. (let e : Some reason ≡ None = sym shut_is ∙ open_ in cc) };
}
goes_account wrong x y sent queue None (Some cause) shut_is cause_is f h = record {
  there = record {
    affords = record { given = h.there.affords.given; polled = h.there.affords.polled; limit = h.there.affords.limit };
    ready = h.there.ready;
    pays = λ open_. let k = h.there.pays open_ in record { a = k.a; a_is = k.a_is; pays = pays-shut cause queue k.pays };
  };
  back = record {
    affords = record { given = h.back.affords.given; polled = h.back.affords.polled; limit = λ e. few_tries wrong x y sent queue cause f cause_is (h.back.pays shut_is) };
    ready = h.back.ready;
    pays = λ e. cc;
  };
}
goes_account wrong x y sent queue None None shut_is cause_is f h =
    let k = hears_paid wrong x y sent queue f (h.back.pays shut_is) in
    record {
      there = record {
        affords = record { given = h.there.affords.given; polled = h.there.affords.polled; limit = h.there.affords.limit };
        ready = h.there.ready;
        pays = λ open_.
            let p = h.there.pays open_ in
            let q = subst (λ (l : List Sent). Pays wrong p.a x.machine.sender.next x.machine.sender.unacked x.machine.sender.poll x.machine.sender.polls l y.machine.closed y.machine.receiver.rejecting y.machine.receiver.polled y.machine.receiver.reply (length y.got) y.queue) f.is p.pays in
            record { a = p.a; a_is = p.a_is; pays = pays-received y.machine.closed y.got y.machine sent shut_is f.place q };
      };
      back = account_open wrong (hearing_by None None sent.frame y) (record x { queue = queue }) f.ready shut_is (record { a = k.a; a_is = k.a_is; pays = k.pays });
    }

-- ---- and stays

stays_account : (wrong : ℕ) (x y : End) (sent : Sent) (queue : List Sent) (shut cause : Option ErtmReason) → y.machine.closed ≡ shut → fault sent.frame y.machine ≡ cause → Front x y sent queue
    → Accounts wrong x y → Accounts (1 + wrong) x (hearing_by shut cause sent.frame y)
stays_account wrong x y sent queue (Some reason) cause shut_is cause_is f h = more_accounts wrong x y h
stays_account wrong x y sent queue None (Some cause) shut_is cause_is f h = record {
  there = record {
    affords = affords_more wrong x h.there.affords;
    ready = h.there.ready;
    pays = λ open_. let k = h.there.pays open_ in record { a = k.a; a_is = k.a_is; pays = pays-shut cause x.queue (pays-more k.pays) };
  };
  back =
      let more = affords_more wrong y h.back.affords in
      record {
        affords = record { given = more.given; polled = more.polled; limit = λ e. let few = few_tries wrong x y sent queue cause f cause_is (h.back.pays shut_is) in omega arith };
        ready = h.back.ready;
        pays = λ e. cc;
      };
}
stays_account wrong x y sent queue None None shut_is cause_is f h =
    let k = hears_paid wrong x y sent queue f (h.back.pays shut_is) in
    record {
      there = record {
        affords = affords_more wrong x h.there.affords;
        ready = h.there.ready;
        pays = λ open_.
            let p = h.there.pays open_ in
            let q = subst (λ (l : List Sent). Pays wrong p.a x.machine.sender.next x.machine.sender.unacked x.machine.sender.poll x.machine.sender.polls l y.machine.closed y.machine.receiver.rejecting y.machine.receiver.polled y.machine.receiver.reply (length y.got) y.queue) f.is p.pays in
            let again = pays-received_again y.machine.closed y.got y.machine sent shut_is f.place q in
            record {
              a = p.a;
              a_is = p.a_is;
              pays = subst (λ (l : List Sent). Pays (1 + wrong) p.a x.machine.sender.next x.machine.sender.unacked x.machine.sender.poll x.machine.sender.polls l y.machine.closed (receiver_after sent.frame y.machine).rejecting (receiver_after sent.frame y.machine).polled (receiver_after sent.frame y.machine).reply (length (y.got ++ segment_in sent.frame y.machine)) y.queue) (sym f.is) again;
            };
      };
      back = account_open (1 + wrong) (hearing_by None None sent.frame y) x f.ready shut_is (record {
        a = k.a;
        a_is = k.a_is;
        pays =
            subst (λ (l : List Sent). Pays (1 + wrong) k.a (sender_after sent.frame y.machine.sender).next (sender_after sent.frame y.machine.sender).unacked (sender_after sent.frame y.machine.sender).poll (sender_after sent.frame y.machine.sender).polls y.queue
            x.machine.closed x.machine.receiver.rejecting x.machine.receiver.polled x.machine.receiver.reply (length x.got) l) (sym f.is)
            (pays-stays sent k.asked (λ e. poll_ended (is_final sent.frame) y.machine.sender.poll e) k.pays);
      });
    }

-- ---- it is lost

-- the same frames are on their way
same_queue : (wrong : ℕ) (x y : End) (queue : List Sent) → x.queue ≡ queue → Accounts wrong x y → Accounts wrong (record x { queue = queue }) y
same_queue wrong x y queue is h = record {
  there = record {
    affords = record { given = h.there.affords.given; polled = h.there.affords.polled; limit = h.there.affords.limit };
    ready = h.there.ready;
    pays = λ open_. let k = h.there.pays open_ in record { a = k.a; a_is = k.a_is; pays = rw (← is) k.pays };
  };
  back = record {
    affords = h.back.affords;
    ready = h.back.ready;
    pays = λ open_. let k = h.back.pays open_ in record { a = k.a; a_is = k.a_is; pays = rw (← is) k.pays };
  };
}

lost_account : (wrong : ℕ) (x y : End) (queue : List Sent) → x.queue ≡ queue → Accounts wrong x y → Accounts (1 + wrong) (record x { queue = behind_front queue }) y
lost_account wrong x y [] is h = same_queue (1 + wrong) x y [] is (more_accounts wrong x y h)
lost_account wrong x y (sent ∷ queue) is h =
    let more = more_accounts wrong x y h in
    record {
      there = record {
        affords = record { given = more.there.affords.given; polled = more.there.affords.polled; limit = more.there.affords.limit };
        ready = more.there.ready;
        pays = λ open_.
            let p = h.there.pays open_ in
            let q = subst (λ (l : List Sent). Pays wrong p.a x.machine.sender.next x.machine.sender.unacked x.machine.sender.poll x.machine.sender.polls l y.machine.closed y.machine.receiver.rejecting y.machine.receiver.polled y.machine.receiver.reply (length y.got) y.queue) is p.pays in
            record { a = p.a; a_is = p.a_is; pays = pays-lost sent.frame sent.number sent.asks q };
      };
      back = record {
        affords = more.back.affords;
        ready = more.back.ready;
        pays = λ open_.
            let p = h.back.pays open_ in
            let q = subst (λ (l : List Sent). Pays wrong p.a y.machine.sender.next y.machine.sender.unacked y.machine.sender.poll y.machine.sender.polls y.queue x.machine.closed x.machine.receiver.rejecting x.machine.receiver.polled x.machine.receiver.reply (length x.got) l) is p.pays in
            record { a = p.a; a_is = p.a_is; pays = pays-unheard sent q };
      };
    }

-- ---- every deed

passes_account : (wrong : ℕ) (x y : End) (queue : List Sent) → x.queue ≡ queue → Stands x y → Accounts wrong x y → Accounts wrong (record x { queue = behind_front queue }) (far Pass queue y)
passes_account wrong x y [] is s h = same_queue wrong x y [] is h
passes_account wrong x y (sent ∷ queue) is s h = goes_account wrong x y sent queue y.machine.closed (fault sent.frame y.machine) refl refl (front x y sent queue is h.back.ready s) h

repeats_account : (wrong : ℕ) (x y : End) (queue : List Sent) → x.queue ≡ queue → Stands x y → Accounts wrong x y → Accounts (1 + wrong) x (far Repeat queue y)
repeats_account wrong x y [] is s h = more_accounts wrong x y h
repeats_account wrong x y (sent ∷ queue) is s h = stays_account wrong x y sent queue y.machine.closed (fault sent.frame y.machine) refl refl (front x y sent queue is h.back.ready s) h

does_account : (wrong : ℕ) (deed : Deed) (x y : End) → MayDo deed x → Stands x y → Accounts wrong x y → Accounts (adverse deed + wrong) (near deed x) (far deed x.queue y)
does_account wrong Give x y may s h = let e : 0 + wrong ≡ wrong = omega arith in rw e (gave_account wrong x y (giving x.machine) (gives x.machine) s h)
does_account wrong Fire x y may s h = fires_account wrong x y x.machine.closed refl h
does_account wrong (Submit sdu) x y may s h = let e : 0 + wrong ≡ wrong = omega arith in rw e (submits_account wrong x y sdu (is_busy x.machine) refl h)
does_account wrong Pass x y may s h = let e : 0 + wrong ≡ wrong = omega arith in rw e (passes_account wrong x y x.queue refl s h)
does_account wrong Lose x y may s h = lost_account wrong x y x.queue refl h
does_account wrong Repeat x y may s h = repeats_account wrong x y x.queue refl s h
does_account wrong (Damage refusal) x y may s h = let e = damages refusal x.queue y may in rw e (lost_account wrong x y x.queue refl h)

swapped_accounts : (wrong : ℕ) (x y : End) → Accounts wrong x y → Accounts wrong y x
swapped_accounts wrong x y h = record { there = h.back; back = h.there }

pub turned_accounts : (wrong : ℕ) (turn : Turn) (p : Pair) → MayTurn turn p → StandsBoth p → Accounts wrong p.a p.b → Accounts (adverse_turn turn + wrong) (turned turn p).a (turned turn p).b
turned_accounts wrong (ByA deed) p may s h = does_account wrong deed p.a p.b may s h
turned_accounts wrong (ByB deed) p may s h =
    swapped_accounts (adverse deed + wrong) (near deed p.b) (far deed p.b.queue p.a) (does_account wrong deed p.b p.a may (swapped s) (swapped_accounts wrong p.a p.b h))
