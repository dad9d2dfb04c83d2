-- Each sending again is paid with what went wrong: a frame is heard.
use Rattle.std.proofs.Common.{ℕ, zero, suc, ◌≡◌, ◌+◌, ◌-◌, ◌<◌, ◌≤◌, ◌⊎◌, inl, inr, max, Bool, true, false, cond, List, [], ◌∷◌, ◌++◌, length, drop, Option, None, refl, ap, sym, ◌∙◌, arith, append-nil, length-append}
use Rattle.std.specs.Prelude.{◌||◌}
use Rattle.ertm_frames.specs.declared.frame.SKind.{SKind}
use Rattle.ertm_frames.specs.Frames.{PlainFrame, information, supervisory}
use Rattle.ertm_frames.specs.Segments.{Segment}
use Rattle.ertm_frames.specs.Picking.{is_poll, is_final}
use Rattle.ertm_model.specs.declared.reason.ErtmReason.{ErtmReason}
use Rattle.ertm_model.specs.Value.{Kept, Poll, NoPoll, Due, Waits, Reply, NoReply, Acknowledges, Rejects, Receiver, Ertm}
use Rattle.ertm_model.specs.Hearing.{rejects_frames, Place, Expected, Ahead, Other, place_in, placed_after, segment_of, receiver_after}
use Rattle.ertm_model.specs.Pair.{Sent, placed_segment, segment_in}
use Rattle.ertm_model.proofs.Accepting.{PlaceIs, at, ahead, behind}
use Rattle.ertm_model.proofs.Accounts.{chains-more, chains-next, Back, back-next, back-end, back-chain, one_if, rejs, rej_due, poll_due, has_poll, has_final, or-right, or-either, given-more, given-from_first, given-dropped}
use Rattle.ertm_model.proofs.Paying.{next_of, Owes, Moves, Live, Pays}

-- ---- the receiver hears the front frame, which goes

pub record After (poll : Poll) (a next gap spare : ℕ) (queue : List Sent) (r after : Receiver) (c : ℕ) (asking : List Sent) : Type 0 where
  pub gap' : ℕ
  pub less : gap' + rej_due after.reply ≤ gap + rej_due r.reply
  pub live : Live poll a next gap' spare queue after.rejecting after.polled after.reply c asking

moves_polled : (poll : Poll) (a next c gap spare : ℕ) (queue : List Sent) (polled : Bool) (reply : Reply) (asking : List Sent) (kind : SKind) (p final : Bool) (req number asks : ℕ)
    → Moves poll a next c gap spare (record { frame = supervisory kind p final req; number = number; asks = asks } ∷ queue) polled reply asking → Moves poll a next c gap spare queue (p || polled) reply asking
moves_polled NoPoll a next c gap spare queue polled reply asking kind true final req number asks h = (elim h.0 [ inl (inl e) ↦ absurd e | inl (inr e) ↦ inl e | inr e ↦ inr e ], inl (inr (inl refl)))
moves_polled NoPoll a next c gap spare queue polled reply asking kind false final req number asks h = (elim h.0 [ inl (inl e) ↦ absurd e | inl (inr e) ↦ inl e | inr e ↦ inr e ], h.1)
moves_polled Due a next c gap spare queue polled reply asking kind true final req number asks h = λ e. inl (inr (inl refl))
moves_polled Due a next c gap spare queue polled reply asking kind false final req number asks h = h
moves_polled Waits a next c gap spare queue polled reply asking kind true final req number asks h = ((λ e. inl (inr (inl refl))), inl (inr (inl refl)))
moves_polled Waits a next c gap spare queue polled reply asking kind false final req number asks h = h

-- something is due, and the frames that come are not ahead, or something is to blame
moves_took : (poll : Poll) (a next c d gap other spare : ℕ) (queue : List Sent) (polled : Bool) (reply after : Reply) (asking : List Sent) (tx req sar total : ℕ) (final : Bool) (octets : List ℕ) (number asks : ℕ)
    → (after ≡ NoReply → ⊥) → Back d (a + next_of poll next) queue ⊎ (1 ≤ other + spare + rej_due after + rejs asking)
    → Moves poll a next c gap spare (record { frame = information tx final req sar total octets; number = number; asks = asks } ∷ queue) polled reply asking → Moves poll a next d other spare queue polled after asking
moves_took NoPoll a next c d gap other spare queue polled reply after asking tx req sar total final octets number asks due then h = (then, inl (inr (inr due)))
moves_took Due a next c d gap other spare queue polled reply after asking tx req sar total final octets number asks due then h = λ e. inl (inr (inr due))
moves_took Waits a next c d gap other spare queue polled reply after asking tx req sar total final octets number asks due then h = ((λ e. inl (inr (inr due))), h.1)

-- an I-frame goes, and nothing else changes
moves_went : (poll : Poll) (a next c gap spare : ℕ) (queue : List Sent) (polled : Bool) (reply : Reply) (asking : List Sent) (tx req sar total : ℕ) (final : Bool) (octets : List ℕ) (number asks : ℕ)
    → (c < number) ⊎ Back c (a + next_of poll next) queue
    → Moves poll a next c gap spare (record { frame = information tx final req sar total octets; number = number; asks = asks } ∷ queue) polled reply asking → Moves poll a next c gap spare queue polled reply asking
moves_went NoPoll a next c gap spare queue polled reply asking tx req sar total final octets number asks far h =
    (elim far [ inr b ↦ inl b | inl lt ↦ elim h.0 [ inl (inl e) ↦ absurd (omega arith) | inl (inr e) ↦ inl e | inr e ↦ inr e ] ], h.1)
moves_went Due a next c gap spare queue polled reply asking tx req sar total final octets number asks far h = h
moves_went Waits a next c gap spare queue polled reply asking tx req sar total final octets number asks far h = h

accepted :
    {poll : Poll} {a next gap spare : ℕ} {queue : List Sent} {asking : List Sent} (c : ℕ) (r after : Receiver) (tx req sar total : ℕ) (final : Bool) (octets : List ℕ) (number asks d : ℕ) → number ≡ c → d ≡ c + 1
    → after.reply ≡ Acknowledges → after.polled ≡ r.polled
    → Live poll a next gap spare (record { frame = information tx final req sar total octets; number = number; asks = asks } ∷ queue) r.rejecting r.polled r.reply c asking
    → After poll a next gap spare queue r after d asking
accepted {poll} {a} {next} {gap} {spare} {queue} {asking} c r after tx req sar total final octets number asks d is more reply polled l =
    let due : rej_due after.reply ≡ 0 = rw reply refl in
    let chain = chains-more c d (a + next_of poll next) (number + 1) queue (omega arith) l.chains.1 in
    record {
      gap' = gap;
      less = omega arith;
      live = record {
        from = number + 1;
        chains = chain;
        no_gap = λ e f. omega arith;
        moves = rw polled (moves_took poll a next c d gap gap spare queue r.polled r.reply after.reply asking tx req sar total final octets number asks (λ e. (let f : Acknowledges ≡ NoReply = sym reply ∙ e in cc)) (inl (back-chain d (a + next_of poll next) (number + 1) queue (omega arith) chain)) l.moves);
      };
    }

some_gap : (gap from c number : ℕ) → (gap ≡ 0 → from ≤ c) → number ≤ max c from → c < number → 1 ≤ gap
some_gap zero from c number none may far = absurd (let e = none refl in omega arith)
some_gap (suc gap) from c number none may far = omega arith

rejected :
    {poll : Poll} {a next gap spare : ℕ} {queue : List Sent} {asking : List Sent} (c : ℕ) (r : Receiver) (tx req sar total : ℕ) (final : Bool) (octets : List ℕ) (number asks : ℕ) (rejecting : Bool) → c < number → r.rejecting ≡ rejecting
    → Live poll a next gap spare (record { frame = information tx final req sar total octets; number = number; asks = asks } ∷ queue) r.rejecting r.polled r.reply c asking
    → After poll a next gap spare queue r (cond rejecting r (record r { reply = Rejects; rejecting = true })) c asking
rejected {poll} {a} {next} {gap} {spare} {queue} {asking} c r tx req sar total final octets number asks true far is l = record {
  gap' = gap;
  less = omega arith;
  live = record {
    from = number + 1;
    chains = l.chains.1;
    no_gap = λ e f. (let g : true ≡ false = sym is ∙ f in cc);
    moves = moves_went poll a next c gap spare queue r.polled r.reply asking tx req sar total final octets number asks (inl far) l.moves;
  };
}
rejected {poll} {a} {next} {gap} {spare} {queue} {asking} c r tx req sar total final octets number asks false far is l =
    let some = some_gap gap l.from c number (λ e. l.no_gap e is) l.chains.0 far in
    record {
      gap' = gap - 1;
      less = omega arith;
      live = record {
        from = number + 1;
        chains = l.chains.1;
        no_gap = λ e f. cc;
        moves = moves_took poll a next c c gap (gap - 1) spare queue r.polled r.reply Rejects asking tx req sar total final octets number asks (λ e. cc) (inr (omega arith)) l.moves;
      };
    }

went :
    {poll : Poll} {a next gap spare : ℕ} {queue : List Sent} {asking : List Sent} (c : ℕ) (r : Receiver) (tx req sar total : ℕ) (final : Bool) (octets : List ℕ) (number asks : ℕ) → (c < number) ⊎ (number < c)
    → Live poll a next gap spare (record { frame = information tx final req sar total octets; number = number; asks = asks } ∷ queue) r.rejecting r.polled r.reply c asking
    → After poll a next gap spare queue r r c asking
went {poll} {a} {next} {gap} {spare} {queue} {asking} c r tx req sar total final octets number asks (inl far) l = record {
  gap' = gap;
  less = omega arith;
  live = record {
    from = number + 1;
    chains = l.chains.1;
    no_gap = λ e f. absurd (let low = l.no_gap e f in let may = l.chains.0 in omega arith);
    moves = moves_went poll a next c gap spare queue r.polled r.reply asking tx req sar total final octets number asks (inl far) l.moves;
  };
}
went {poll} {a} {next} {gap} {spare} {queue} {asking} c r tx req sar total final octets number asks (inr back) l = record {
  gap' = gap;
  less = omega arith;
  live = record {
    from = number + 1;
    chains = l.chains.1;
    no_gap = λ e f. omega arith;
    moves = moves_went poll a next c gap spare queue r.polled r.reply asking tx req sar total final octets number asks (inr (back-chain c (a + next_of poll next) (number + 1) queue (omega arith) l.chains.1)) l.moves;
  };
}

placed :
    {poll : Poll} {a next gap spare : ℕ} {queue : List Sent} {asking : List Sent} (got : List Segment) (r : Receiver) (tx req sar total : ℕ) (final : Bool) (octets : List ℕ) (number asks : ℕ) (segment : Segment) (place : Place) → PlaceIs number (length got) place
    → Live poll a next gap spare (record { frame = information tx final req sar total octets; number = number; asks = asks } ∷ queue) r.rejecting r.polled r.reply (length got) asking
    → After poll a next gap spare queue r (placed_after place segment r) (length (got ++ placed_segment place segment)) asking
placed got r tx req sar total final octets number asks segment Expected (at is e) l =
    accepted (length got) r (placed_after Expected segment r) tx req sar total final octets number asks (length (got ++ segment ∷ [])) is (length-append got (segment ∷ [])) refl refl l
placed got r tx req sar total final octets number asks segment Expected (ahead is (inl e)) l = cc
placed got r tx req sar total final octets number asks segment Expected (ahead is (inr e)) l = cc
placed got r tx req sar total final octets number asks segment Expected (behind is e) l = cc
placed got r tx req sar total final octets number asks segment Ahead (at is e) l = cc
placed got r tx req sar total final octets number asks segment Ahead (ahead is e) l = let f = append-nil got in rw f (rejected (length got) r tx req sar total final octets number asks r.rejecting is refl l)
placed got r tx req sar total final octets number asks segment Ahead (behind is e) l = cc
placed got r tx req sar total final octets number asks segment Other (at is e) l = cc
placed got r tx req sar total final octets number asks segment Other (ahead is e) l = let f = append-nil got in rw f (went (length got) r tx req sar total final octets number asks (inl is) l)
placed got r tx req sar total final octets number asks segment Other (behind is e) l = let f = append-nil got in rw f (went (length got) r tx req sar total final octets number asks (inr is) l)

-- the place of an I-frame
abbrev pub IsPlaced : (number : ℕ) (got : List Segment) (m : Ertm) → PlainFrame → Type 0
IsPlaced number got m (information tx final req sar total octets) = PlaceIs number (length got) (place_in m tx)
IsPlaced number got m (supervisory kind poll final req) = Unit {0}

pub live-heard :
    {poll : Poll} {a next gap spare : ℕ} {queue : List Sent} {asking : List Sent} (got : List Segment) (m : Ertm) (frame : PlainFrame) (number asks : ℕ) → IsPlaced number got m frame
    → Live poll a next gap spare (record { frame = frame; number = number; asks = asks } ∷ queue) m.receiver.rejecting m.receiver.polled m.receiver.reply (length got) asking
    → After poll a next gap spare queue m.receiver (receiver_after frame m) (length (got ++ segment_in frame m)) asking
live-heard got m (information tx final req sar total octets) number asks place l = placed got m.receiver tx req sar total final octets number asks (segment_of sar total octets) (place_in m tx) place l
live-heard {poll} {a} {next} {gap} {spare} {queue} {asking} got m (supervisory kind p final req) number asks place l =
    let f = append-nil got in
    rw f (record {
      gap' = gap;
      less = omega arith;
      live = record {
        from = l.from;
        chains = l.chains.1;
        no_gap = l.no_gap;
        moves = moves_polled poll a next (length got) gap spare queue m.receiver.polled m.receiver.reply asking kind p final req number asks l.moves;
      };
    })

moves_kept : (poll : Poll) (a next c gap spare : ℕ) (queue : List Sent) (polled : Bool) (reply : Reply) (asking : List Sent) (sent : Sent)
    → Moves poll a next c gap spare queue polled reply asking → Moves poll a next c (1 + gap) spare (sent ∷ queue) polled reply asking
moves_kept NoPoll a next c gap spare queue polled reply asking sent h = (inr (omega arith), h.1)
moves_kept Due a next c gap spare queue polled reply asking sent h = h
moves_kept Waits a next c gap spare queue polled reply asking sent h = (
  h.0,
  elim h.1 [
    | inl (inl e) ↦ inl (inl (or-right (is_poll sent.frame) (has_poll queue) e))
    | inl (inr e) ↦ inl (inr e)
    | inr e ↦ inr e
  ],
)

-- it is there again
live_kept :
    {poll : Poll} {a next gap other spare : ℕ} {queue : List Sent} {rejecting polled rejecting' polled' : Bool} {reply reply' : Reply} {c d : ℕ} {asking : List Sent} (sent : Sent) → c ≤ d
    → Live poll a next gap spare (sent ∷ queue) rejecting polled reply c asking → Live poll a next other spare queue rejecting' polled' reply' d asking
    → Live poll a next (1 + other) spare (sent ∷ queue) rejecting' polled' reply' d asking
live_kept {poll} {a} {next} {gap} {other} {spare} {queue} {rejecting} {polled} {rejecting'} {polled'} {reply} {reply'} {c} {d} {asking} sent le before after = record {
  from = before.from;
  chains = chains-more c d (a + next_of poll next) before.from (sent ∷ queue) le before.chains;
  no_gap = λ e f. absurd (omega arith);
  moves = moves_kept poll a next d other spare queue polled' reply' asking sent after.moves;
}

-- the direction whose front frame is heard by an open end, and goes
pub pays-received :
    {wrong a next : ℕ} {unacked : List Kept} {poll : Poll} {polls : ℕ} {queue : List Sent} {asking : List Sent} (shut : Option ErtmReason) (got : List Segment) (m : Ertm) (sent : Sent) → shut ≡ None → IsPlaced sent.number got m sent.frame
    → Pays wrong a next unacked poll polls (sent ∷ queue) shut m.receiver.rejecting m.receiver.polled m.receiver.reply (length got) asking
    → Pays wrong a next unacked poll polls queue shut (receiver_after sent.frame m).rejecting (receiver_after sent.frame m).polled (receiver_after sent.frame m).reply (length (got ++ segment_in sent.frame m)) asking
pays-received {wrong} {a} {next} {unacked} {poll} {polls} {queue} {asking} shut got m sent open_ place h =
    let k = live-heard got m sent.frame sent.number sent.asks place (h.live open_) in
    let less = k.less in
    let enough = h.enough in
    record { gap = k.gap'; spare = h.spare; paid = h.paid; enough = omega arith; within = h.within; given = h.given; some = h.some; live = λ e. k.live }

-- and stays
pub pays-received_again :
    {wrong a next : ℕ} {unacked : List Kept} {poll : Poll} {polls : ℕ} {queue : List Sent} {asking : List Sent} (shut : Option ErtmReason) (got : List Segment) (m : Ertm) (sent : Sent) → shut ≡ None → IsPlaced sent.number got m sent.frame
    → Pays wrong a next unacked poll polls (sent ∷ queue) shut m.receiver.rejecting m.receiver.polled m.receiver.reply (length got) asking
    → Pays (1 + wrong) a next unacked poll polls (sent ∷ queue) shut (receiver_after sent.frame m).rejecting (receiver_after sent.frame m).polled (receiver_after sent.frame m).reply (length (got ++ segment_in sent.frame m)) asking
pays-received_again {wrong} {a} {next} {unacked} {poll} {polls} {queue} {asking} shut got m sent open_ place h =
    let k = live-heard got m sent.frame sent.number sent.asks place (h.live open_) in
    let less = k.less in
    let enough = h.enough in
    let within = h.within in
    let long = length-append got (segment_in sent.frame m) in
    record {
      gap = 1 + k.gap';
      spare = h.spare;
      paid = 1 + h.paid;
      enough = omega arith;
      within = omega arith;
      given = given-more wrong h.paid next unacked h.given;
      some = h.some;
      live = λ e. live_kept sent (omega arith) (h.live open_) k.live;
    }

-- ---- the sender hears the front frame, which goes

popped : (a b c : ℕ) (polled : Bool) (reply : Reply) (sent : Sent) (queue : List Sent) → b ≡ sent.asks → Owes a c polled reply (sent ∷ queue) → Owes b c polled reply queue
popped a b c polled reply sent queue is (inl e) = inl (rw is e)
popped a b c polled reply sent queue is (inr e) = inr e

popped_or : (a b c spare : ℕ) (polled : Bool) (reply : Reply) (sent : Sent) (queue : List Sent) → b ≡ sent.asks → Owes a c polled reply (sent ∷ queue) ⊎ (1 ≤ spare) → Owes b c polled reply queue ⊎ (1 ≤ spare)
popped_or a b c spare polled reply sent queue is (inl e) = inl (popped a b c polled reply sent queue is e)
popped_or a b c spare polled reply sent queue is (inr e) = inr e

-- what a sender is after k of its frames were acknowledged
record Acked (a b c k : ℕ) (sent : Sent) : Type 0 where
  is : b ≡ a + k
  asked : b ≡ sent.asks
  low : b ≤ c

less_one : (paid : ℕ) → 1 ≤ paid → paid - 1 + 1 ≡ paid
less_one paid some = omega arith

-- all are given again: one thing is used up
starts_again :
    {wrong a next : ℕ} {unacked : List Kept} {poll : Poll} {polls : ℕ} {flying : List Sent} {shut : Option ErtmReason} {rejecting polled : Bool} {reply : Reply} {c : ℕ} (b k polls' : ℕ) (sent : Sent) (queue : List Sent) → Acked a b c k sent
    → rejs queue + polls' + 1 ≤ rejs (sent ∷ queue) + (polls + poll_due poll)
    → ((spare gap : ℕ) → Moves poll a next c gap spare flying polled reply (sent ∷ queue) → Owes a c polled reply (sent ∷ queue) ⊎ (1 ≤ spare))
    → Pays wrong a next unacked poll polls flying shut rejecting polled reply c (sent ∷ queue)
    → Pays wrong b 0 (drop k unacked) NoPoll polls' flying shut rejecting polled reply c queue
starts_again {wrong} {a} {next} {unacked} {poll} {polls} {flying} {shut} {rejecting} {polled} {reply} {c} b k polls' sent queue acked fewer owes h =
    let enough = h.enough in
    let within = h.within in
    let low = acked.low in
    let one : h.paid - 1 + 1 ≡ h.paid = less_one h.paid (omega arith) in
    record {
      gap = h.gap;
      spare = h.spare;
      paid = h.paid - 1;
      enough = omega arith;
      within = omega arith;
      given = given-from_first wrong (h.paid - 1) (next - k) (drop k unacked) (rw one (given-dropped wrong h.paid next k unacked h.given));
      some = λ e. cc;
      live = λ e. let l = h.live e in record {
        from = l.from;
        chains = chains-next c (a + next_of poll next) (b + 0) l.from flying (omega arith) l.chains;
        no_gap = l.no_gap;
        moves = (inl (back-end c (b + 0) flying (omega arith)), popped_or a b c h.spare polled reply sent queue acked.asked (owes h.spare h.gap l.moves));
      };
    }

next_low : (poll : Poll) (a next k b c : ℕ) → b ≡ a + k → b ≤ c → b + next_of poll (next - k) ≤ max (a + next_of poll next) c
next_low NoPoll a next k b c is low = omega arith
next_low Due a next k b c is low = omega arith
next_low Waits a next k b c is low = omega arith

moves_popped : (poll : Poll) (a next b c k gap spare : ℕ) (flying : List Sent) (polled : Bool) (reply : Reply) (sent : Sent) (queue : List Sent) → Acked a b c k sent
    → (poll ≡ NoPoll → rejects_frames sent.frame ≡ false) → (poll ≡ Waits → is_final sent.frame ≡ false)
    → Moves poll a next c gap spare flying polled reply (sent ∷ queue) → Moves poll b (next - k) c gap spare flying polled reply queue
moves_popped NoPoll a next b c k gap spare flying polled reply sent queue acked no_rej no_final h =
    let is = acked.is in
    let low = acked.low in
    let none = ap one_if (no_rej refl) in (
      elim h.0 [ inl e ↦ inl (back-next c (a + next) (b + (next - k)) flying (λ l. omega arith) e) | inr e ↦ inr (omega arith) ],
      popped_or a b c spare polled reply sent queue acked.asked h.1,
    )
moves_popped Due a next b c k gap spare flying polled reply sent queue acked no_rej no_final h =
    λ e. popped_or a b c spare polled reply sent queue acked.asked (h (or-right (is_final sent.frame) (has_final queue) e))
moves_popped Waits a next b c k gap spare flying polled reply sent queue acked no_rej no_final h = (
  (λ e. popped_or a b c spare polled reply sent queue acked.asked (h.0 (or-right (is_final sent.frame) (has_final queue) e))),
  elim h.1 [
    | inl (inl e) ↦ inl (inl e)
    | inl (inr (inl e)) ↦ inl (inr (inl e))
    | inl (inr (inr e)) ↦ elim (or-either (is_final sent.frame) (has_final queue) e) [ inl f ↦ (let g : true ≡ false = sym f ∙ no_final refl in cc) | inr f ↦ inl (inr (inr f)) ]
    | inr e ↦ inr e
  ],
)

-- none is given again
goes_on :
    {wrong a next : ℕ} {unacked : List Kept} {poll : Poll} {polls : ℕ} {flying : List Sent} {shut : Option ErtmReason} {rejecting polled : Bool} {reply : Reply} {c : ℕ} (b k polls' : ℕ) (sent : Sent) (queue : List Sent) → Acked a b c k sent
    → polls' ≤ polls → (poll ≡ Waits → polls' ≡ polls) → (poll ≡ NoPoll → rejects_frames sent.frame ≡ false) → (poll ≡ Waits → is_final sent.frame ≡ false)
    → Pays wrong a next unacked poll polls flying shut rejecting polled reply c (sent ∷ queue)
    → Pays wrong b (next - k) (drop k unacked) poll polls' flying shut rejecting polled reply c queue
goes_on {wrong} {a} {next} {unacked} {poll} {polls} {flying} {shut} {rejecting} {polled} {reply} {c} b k polls' sent queue acked less same no_rej no_final h =
    let enough = h.enough in
    record {
      gap = h.gap;
      spare = h.spare;
      paid = h.paid;
      enough = omega arith;
      within = h.within;
      given = given-dropped wrong h.paid next k unacked h.given;
      some = λ e. let f = h.some e in let g = same e in omega arith;
      live = λ e. let l = h.live e in record {
        from = l.from;
        chains = chains-next c (a + next_of poll next) (b + next_of poll (next - k)) l.from flying (next_low poll a next k b c acked.is acked.low) l.chains;
        no_gap = l.no_gap;
        moves = moves_popped poll a next b c k h.gap h.spare flying polled reply sent queue acked no_rej no_final l.moves;
      };
    }

-- as `asks_again` says
abbrev pub again_by : Poll → (rej final : Bool) → Bool
again_by NoPoll rej final = rej
again_by Due rej final = final
again_by Waits rej final = final

pub pays-acknowledged :
    {wrong a next : ℕ} {unacked : List Kept} {polls : ℕ} {flying : List Sent} {shut : Option ErtmReason} {rejecting polled : Bool} {reply : Reply} {c : ℕ} (poll : Poll) (rej final : Bool) (b k : ℕ) (sent : Sent) (queue : List Sent)
    → rejects_frames sent.frame ≡ rej → is_final sent.frame ≡ final → b ≡ a + k → b ≡ sent.asks → b ≤ c
    → Pays wrong a next unacked poll polls flying shut rejecting polled reply c (sent ∷ queue)
    → Pays wrong b (cond (again_by poll rej final) 0 (next - k)) (drop k unacked) (cond final NoPoll poll) (cond final 0 polls) flying shut rejecting polled reply c queue
pays-acknowledged {polls = polls} NoPoll false true b k sent queue rej_is final_is is asked low h = goes_on b k 0 sent queue (record { is = is; asked = asked; low = low }) (omega arith) (λ e. cc) (λ e. rej_is) (λ e. cc) h
pays-acknowledged {polls = polls} NoPoll false false b k sent queue rej_is final_is is asked low h = goes_on b k polls sent queue (record { is = is; asked = asked; low = low }) (omega arith) (λ e. cc) (λ e. rej_is) (λ e. cc) h
pays-acknowledged {polls = polls} NoPoll true true b k sent queue rej_is final_is is asked low h =
    let one = ap one_if rej_is in starts_again b k 0 sent queue (record { is = is; asked = asked; low = low }) (omega arith) (λ spare gap m. m.1) h
pays-acknowledged {polls = polls} NoPoll true false b k sent queue rej_is final_is is asked low h =
    let one = ap one_if rej_is in starts_again b k polls sent queue (record { is = is; asked = asked; low = low }) (omega arith) (λ spare gap m. m.1) h
pays-acknowledged {polls = polls} Due rej true b k sent queue rej_is final_is is asked low h =
    starts_again b k 0 sent queue (record { is = is; asked = asked; low = low }) (omega arith) (λ spare gap m. m (rw final_is refl)) h
pays-acknowledged {polls = polls} Due rej false b k sent queue rej_is final_is is asked low h = goes_on b k polls sent queue (record { is = is; asked = asked; low = low }) (omega arith) (λ e. cc) (λ e. cc) (λ e. cc) h
pays-acknowledged {polls = polls} Waits rej true b k sent queue rej_is final_is is asked low h =
    let some = h.some refl in starts_again b k 0 sent queue (record { is = is; asked = asked; low = low }) (omega arith) (λ spare gap m. m.0 (rw final_is refl)) h
pays-acknowledged {polls = polls} Waits rej false b k sent queue rej_is final_is is asked low h = goes_on b k polls sent queue (record { is = is; asked = asked; low = low }) (omega arith) (λ e. refl) (λ e. cc) (λ e. final_is) h

-- where it asks for frames again, something was paid
pub again-paid :
    {wrong a next : ℕ} {unacked : List Kept} {polls : ℕ} {flying : List Sent} {shut : Option ErtmReason} {rejecting polled : Bool} {reply : Reply} {c : ℕ} (poll : Poll) (rej final : Bool) (sent : Sent) (queue : List Sent)
    → rejects_frames sent.frame ≡ rej → again_by poll rej final ≡ true → (h : Pays wrong a next unacked poll polls flying shut rejecting polled reply c (sent ∷ queue)) → 1 ≤ h.paid
again-paid NoPoll rej final sent queue rej_is again h = let one = ap one_if (rej_is ∙ again) in let e = h.enough in omega arith
again-paid Due rej final sent queue rej_is again h = let e = h.enough in omega arith
again-paid Waits rej final sent queue rej_is again h = let e = h.enough in let some = h.some refl in omega arith

-- ---- it is there again

moves_stays : (poll : Poll) (a next c gap spare : ℕ) (flying : List Sent) (polled : Bool) (reply : Reply) (queue : List Sent) (sent : Sent) → a ≡ sent.asks → (is_final sent.frame ≡ true → poll ≡ NoPoll)
    → Moves poll a next c gap spare flying polled reply queue → Moves poll a next c gap spare flying polled reply (sent ∷ queue)
moves_stays NoPoll a next c gap spare flying polled reply queue sent is ends h = (
  elim h.0 [ inl e ↦ inl e | inr e ↦ inr (omega arith) ],
  elim h.1 [ inl (inl e) ↦ inl (inl (rw (← is) e)) | inl (inr e) ↦ inl (inr e) | inr e ↦ inr e ],
)
moves_stays Due a next c gap spare flying polled reply queue sent is ends h = λ e. elim (or-either (is_final sent.frame) (has_final queue) e) [
  | inl f ↦ (let g = ends f in cc)
  | inr f ↦ elim (h f) [ inl (inl g) ↦ inl (inl (rw (← is) g)) | inl (inr g) ↦ inl (inr g) | inr g ↦ inr g ]
]
moves_stays Waits a next c gap spare flying polled reply queue sent is ends h = (
  (λ e. elim (or-either (is_final sent.frame) (has_final queue) e) [
    | inl f ↦ (let g = ends f in cc)
    | inr f ↦ elim (h.0 f) [ inl (inl g) ↦ inl (inl (rw (← is) g)) | inl (inr g) ↦ inl (inr g) | inr g ↦ inr g ]
  ]),
  elim h.1 [
    | inl (inl e) ↦ inl (inl e)
    | inl (inr (inl e)) ↦ inl (inr (inl e))
    | inl (inr (inr e)) ↦ inl (inr (inr (or-right (is_final sent.frame) (has_final queue) e)))
    | inr e ↦ inr e
  ],
)

at_most_one : (b : Bool) → one_if b ≤ 1
at_most_one true = omega arith
at_most_one false = omega arith

pub pays-stays :
    {wrong a next : ℕ} {unacked : List Kept} {poll : Poll} {polls : ℕ} {flying : List Sent} {shut : Option ErtmReason} {rejecting polled : Bool} {reply : Reply} {c : ℕ} {queue : List Sent} (sent : Sent) → a ≡ sent.asks → (is_final sent.frame ≡ true → poll ≡ NoPoll)
    → Pays wrong a next unacked poll polls flying shut rejecting polled reply c queue → Pays (1 + wrong) a next unacked poll polls flying shut rejecting polled reply c (sent ∷ queue)
pays-stays {wrong} {a} {next} {unacked} {poll} {polls} {flying} {shut} {rejecting} {polled} {reply} {c} {queue} sent is ends h =
    let one = at_most_one (rejects_frames sent.frame) in
    let enough = h.enough in
    let within = h.within in
    record {
      gap = h.gap;
      spare = h.spare;
      paid = 1 + h.paid;
      enough = omega arith;
      within = omega arith;
      given = given-more wrong h.paid next unacked h.given;
      some = h.some;
      live = λ e. let l = h.live e in record { from = l.from; chains = l.chains; no_gap = l.no_gap; moves = moves_stays poll a next c h.gap h.spare flying polled reply queue sent is ends l.moves };
    }
