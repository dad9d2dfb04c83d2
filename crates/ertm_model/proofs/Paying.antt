-- Each sending again is paid with what went wrong: one direction, step by step.
use Rattle.std.proofs.Common.{ℕ, suc, ◌≡◌, ◌+◌, ◌≤◌, ◌⊎◌, inl, inr, Bool, true, false, List, [], ◌∷◌, ◌++◌, length, Option, Some, None, refl, ◌∙◌, arith}
use Rattle.ertm_frames.specs.declared.frame.SKind.{SKind}
use Rattle.ertm_frames.specs.Frames.{PlainFrame, information, supervisory}
use Rattle.ertm_frames.specs.Picking.{is_final}
use Rattle.ertm_model.specs.declared.reason.ErtmReason.{ErtmReason}
use Rattle.ertm_model.specs.Value.{Kept, Poll, NoPoll, Due, Waits, Reply, NoReply}
use Rattle.ertm_model.specs.Giving.{given_again}
use Rattle.ertm_model.specs.Hearing.{rejects_frames}
use Rattle.ertm_model.specs.Pair.{Sent}
use Rattle.ertm_model.proofs.Accounts.{Chains, chains-next, chains-s, chains-i, Back, back-s, back-i, one_if, rejs, rejs-on, rej_due, poll_due, has_poll, has_final, last_asks, last-on, poll-on, final-on, poll-stays, final-stays, Given, given-more, given-once_more, given-first}

-- ---- what holds of a direction

-- in a wait the next frame to be given is the first, once it ends
abbrev pub next_of : Poll → ℕ → ℕ
next_of NoPoll next = next
next_of Due next = 0
next_of Waits next = 0

-- the receiver has something to say; it does, or the last that it said acknowledges all that it accepted
abbrev pub IsDue : Bool → Reply → Type 0
IsDue polled reply = (polled ≡ true) ⊎ (reply ≡ NoReply → ⊥)

abbrev pub Owes : (a c : ℕ) (polled : Bool) (reply : Reply) (asking : List Sent) → Type 0
Owes a c polled reply asking = (last_asks a asking ≡ c) ⊎ IsDue polled reply

abbrev pub Final : (a c spare : ℕ) (polled : Bool) (reply : Reply) (asking : List Sent) → Type 0
Final a c spare polled reply asking = has_final asking ≡ true → Owes a c polled reply asking ⊎ (1 ≤ spare)

-- a poll, its answer that is due, or the answer is on its way
abbrev pub Comes : (flying : List Sent) (polled : Bool) (asking : List Sent) → Type 0
Comes flying polled asking = (has_poll flying ≡ true) ⊎ (polled ≡ true) ⊎ (has_final asking ≡ true)

-- what is wanting comes, or something that went wrong is to blame
abbrev pub Moves : Poll → (a next c gap spare : ℕ) (flying : List Sent) (polled : Bool) (reply : Reply) (asking : List Sent) → Type 0
Moves NoPoll a next c gap spare flying polled reply asking =
    (Back c (a + next) flying ⊎ (1 ≤ gap + spare + rej_due reply + rejs asking)) × (Owes a c polled reply asking ⊎ (1 ≤ spare))
Moves Due a next c gap spare flying polled reply asking = Final a c spare polled reply asking
Moves Waits a next c gap spare flying polled reply asking = Final a c spare polled reply asking × (Comes flying polled asking ⊎ (1 ≤ spare))

pub record Live (poll : Poll) (a next gap spare : ℕ) (flying : List Sent) (rejecting polled : Bool) (reply : Reply) (c : ℕ) (asking : List Sent) : Type 0 where
  pub from : ℕ
  pub chains : Chains c (a + next_of poll next) from flying
  -- without a REJ for it and without blame there is no gap
  pub no_gap : gap ≡ 0 → rejecting ≡ false → from ≤ c
  pub moves : Moves poll a next c gap spare flying polled reply asking

-- What may make the sender give frames again, or poll again, is paid: `gap` and `spare` are things that went wrong and
-- have not been made good.
pub record Pays (wrong a next : ℕ) (unacked : List Kept) (poll : Poll) (polls : ℕ) (flying : List Sent) (shut : Option ErtmReason) (rejecting polled : Bool) (reply : Reply) (c : ℕ) (asking : List Sent) : Type 0 where
  pub gap : ℕ
  pub spare : ℕ
  pub paid : ℕ
  pub enough : gap + spare + rej_due reply + rejs asking + (polls + poll_due poll) ≤ paid
  pub within : paid ≤ wrong
  pub given : Given wrong paid next unacked
  pub some : poll ≡ Waits → 1 ≤ polls
  pub live : shut ≡ None → Live poll a next gap spare flying rejecting polled reply c asking

-- ---- the sender gives

moves_s : (poll : Poll) (a next c gap spare : ℕ) (flying : List Sent) (polled : Bool) (reply : Reply) (asking : List Sent) (kind : SKind) (p final : Bool) (req number asks : ℕ)
    → Moves poll a next c gap spare flying polled reply asking → Moves poll a next c gap spare (flying ++ record { frame = supervisory kind p final req; number = number; asks = asks } ∷ []) polled reply asking
moves_s NoPoll a next c gap spare flying polled reply asking kind p final req number asks h =
    (elim h.0 [ inl e ↦ inl (back-s c (a + next) flying kind p final req number asks e) | inr e ↦ inr e ], h.1)
moves_s Due a next c gap spare flying polled reply asking kind p final req number asks h = h
moves_s Waits a next c gap spare flying polled reply asking kind p final req number asks h = (
  h.0,
  elim h.1 [
    | inl (inl e) ↦ inl (inl (poll-stays flying _ e))
    | inl (inr e) ↦ inl (inr e)
    | inr e ↦ inr e
  ],
)

pub pays-s :
    {wrong a next : ℕ} {unacked : List Kept} {poll : Poll} {polls : ℕ} {flying : List Sent} {shut : Option ErtmReason} {rejecting polled : Bool} {reply : Reply} {c : ℕ} {asking : List Sent}
    (kind : SKind) (p final : Bool) (req number asks : ℕ) → Pays wrong a next unacked poll polls flying shut rejecting polled reply c asking
    → Pays wrong a next unacked poll polls (flying ++ record { frame = supervisory kind p final req; number = number; asks = asks } ∷ []) shut rejecting polled reply c asking
pays-s {wrong} {a} {next} {unacked} {poll} {polls} {flying} {shut} {rejecting} {polled} {reply} {c} {asking} kind p final req number asks h = record {
  gap = h.gap;
  spare = h.spare;
  paid = h.paid;
  enough = h.enough;
  within = h.within;
  given = h.given;
  some = h.some;
  live = λ e. let l = h.live e in record {
    from = l.from;
    chains = chains-s c (a + next_of poll next) l.from flying kind p final req number asks l.chains;
    no_gap = l.no_gap;
    moves = moves_s poll a next c h.gap h.spare flying polled reply asking kind p final req number asks l.moves;
  };
}

pub pays-poll :
    {wrong a next : ℕ} {unacked : List Kept} {polls : ℕ} {flying : List Sent} {shut : Option ErtmReason} {rejecting polled : Bool} {reply : Reply} {c : ℕ} {asking : List Sent}
    (kind : SKind) (final : Bool) (req number asks : ℕ) → Pays wrong a next unacked Due polls flying shut rejecting polled reply c asking
    → Pays wrong a next unacked Waits (polls + 1) (flying ++ record { frame = supervisory kind true final req; number = number; asks = asks } ∷ []) shut rejecting polled reply c asking
pays-poll {wrong} {a} {next} {unacked} {polls} {flying} {shut} {rejecting} {polled} {reply} {c} {asking} kind final req number asks h = record {
  gap = h.gap;
  spare = h.spare;
  paid = h.paid;
  enough = let e = h.enough in omega arith;
  within = h.within;
  given = h.given;
  some = λ e. omega arith;
  live = λ e. let l = h.live e in record {
    from = l.from;
    chains = chains-s c (a + 0) l.from flying kind true final req number asks l.chains;
    no_gap = l.no_gap;
    moves = (l.moves, inl (inl (poll-on flying _ refl)));
  };
}

live_i :
    {a next gap spare : ℕ} {flying : List Sent} {rejecting polled : Bool} {reply : Reply} {c : ℕ} {asking : List Sent} (tx req sar total : ℕ) (final : Bool) (octets : List ℕ) (number asks : ℕ) → number ≡ a + next
    → Live NoPoll a next gap spare flying rejecting polled reply c asking
    → Live NoPoll a (next + 1) gap spare (flying ++ record { frame = information tx final req sar total octets; number = number; asks = asks } ∷ []) rejecting polled reply c asking
live_i {a} {next} {gap} {spare} {flying} {rejecting} {polled} {reply} {c} {asking} tx req sar total final octets number asks is l = record {
  from = l.from;
  chains = chains-i c (a + next) (a + (next + 1)) l.from flying tx req sar total final octets number asks is (omega arith) l.chains;
  no_gap = l.no_gap;
  moves = (elim l.moves.0 [ inl b ↦ inl (back-i c (a + next) (a + (next + 1)) flying tx req sar total final octets number asks is b) | inr b ↦ inr b ], l.moves.1);
}

pub pays-again :
    {wrong a next : ℕ} {unacked : List Kept} {polls : ℕ} {flying : List Sent} {shut : Option ErtmReason} {rejecting polled : Bool} {reply : Reply} {c : ℕ} {asking : List Sent}
    (tx req sar total : ℕ) (final : Bool) (octets : List ℕ) (number asks : ℕ) → number ≡ a + next → Pays wrong a next unacked NoPoll polls flying shut rejecting polled reply c asking
    → Pays wrong a (next + 1) (given_again next unacked) NoPoll polls (flying ++ record { frame = information tx final req sar total octets; number = number; asks = asks } ∷ []) shut rejecting polled reply c asking
pays-again {wrong} {a} {next} {unacked} tx req sar total final octets number asks is h = record {
  gap = h.gap;
  spare = h.spare;
  paid = h.paid;
  enough = h.enough;
  within = h.within;
  given = let e : next + 1 ≡ suc next = omega arith in rw e (given-once_more wrong h.paid next unacked h.given);
  some = h.some;
  live = λ e. live_i tx req sar total final octets number asks is (h.live e);
}

pub pays-new :
    {wrong a next : ℕ} {unacked : List Kept} {polls : ℕ} {flying : List Sent} {shut : Option ErtmReason} {rejecting polled : Bool} {reply : Reply} {c : ℕ} {asking : List Sent}
    (kept : Kept) (tx req sar total : ℕ) (final : Bool) (octets : List ℕ) (number asks : ℕ) → number ≡ a + next → next ≡ length unacked → kept.given ≡ 1 → Pays wrong a next unacked NoPoll polls flying shut rejecting polled reply c asking
    → Pays wrong a (next + 1) (unacked ++ kept ∷ []) NoPoll polls (flying ++ record { frame = information tx final req sar total octets; number = number; asks = asks } ∷ []) shut rejecting polled reply c asking
pays-new {wrong} {a} {next} {unacked} kept tx req sar total final octets number asks is end one h = record {
  gap = h.gap;
  spare = h.spare;
  paid = h.paid;
  enough = h.enough;
  within = h.within;
  given = let e : next + 1 ≡ suc next = omega arith in rw e (given-first wrong h.paid next unacked kept end one h.within h.given);
  some = h.some;
  live = λ e. live_i tx req sar total final octets number asks is (h.live e);
}

-- ---- the receiver gives

moves_asked : (poll : Poll) (a next c gap spare : ℕ) (flying : List Sent) (polled polled' : Bool) (reply reply' : Reply) (asking : List Sent) (sent : Sent)
    → sent.asks ≡ c → (polled ≡ true → (polled' ≡ true) ⊎ (is_final sent.frame ≡ true)) → rej_due reply' + one_if (rejects_frames sent.frame) ≡ rej_due reply
    → Moves poll a next c gap spare flying polled reply asking → Moves poll a next c gap spare flying polled' reply' (asking ++ sent ∷ [])
moves_asked NoPoll a next c gap spare flying polled polled' reply reply' asking sent is then same h =
    let more = rejs-on asking sent in (elim h.0 [ inl e ↦ inl e | inr e ↦ inr (omega arith) ], inl (inl (last-on a asking sent ∙ is)))
moves_asked Due a next c gap spare flying polled polled' reply reply' asking sent is then same h = λ e. inl (inl (last-on a asking sent ∙ is))
moves_asked Waits a next c gap spare flying polled polled' reply reply' asking sent is then same h = (
  (λ e. inl (inl (last-on a asking sent ∙ is))),
  elim h.1 [
    | inl (inl e) ↦ inl (inl e)
    | inl (inr (inl e)) ↦ elim (then e) [ inl f ↦ inl (inr (inl f)) | inr f ↦ inl (inr (inr (final-on asking sent f))) ]
    | inl (inr (inr e)) ↦ inl (inr (inr (final-stays asking sent e)))
    | inr e ↦ inr e
  ],
)

pub pays-asked :
    {wrong a next : ℕ} {unacked : List Kept} {poll : Poll} {polls : ℕ} {flying : List Sent} {shut : Option ErtmReason} {rejecting polled : Bool} {reply : Reply} {c : ℕ} {asking : List Sent}
    (polled' : Bool) (reply' : Reply) (sent : Sent) → sent.asks ≡ c → (polled ≡ true → (polled' ≡ true) ⊎ (is_final sent.frame ≡ true)) → rej_due reply' + one_if (rejects_frames sent.frame) ≡ rej_due reply
    → Pays wrong a next unacked poll polls flying shut rejecting polled reply c asking → Pays wrong a next unacked poll polls flying shut rejecting polled' reply' c (asking ++ sent ∷ [])
pays-asked {wrong} {a} {next} {unacked} {poll} {polls} {flying} {shut} {rejecting} {polled} {reply} {c} {asking} polled' reply' sent is then same h = record {
  gap = h.gap;
  spare = h.spare;
  paid = h.paid;
  enough = let more = rejs-on asking sent in let e = h.enough in omega arith;
  within = h.within;
  given = h.given;
  some = h.some;
  live = λ e. let l = h.live e in record {
    from = l.from;
    chains = l.chains;
    no_gap = l.no_gap;
    moves = moves_asked poll a next c h.gap h.spare flying polled polled' reply reply' asking sent is then same l.moves;
  };
}

-- ---- something went wrong

pub pays-more :
    {wrong a next : ℕ} {unacked : List Kept} {poll : Poll} {polls : ℕ} {flying : List Sent} {shut : Option ErtmReason} {rejecting polled : Bool} {reply : Reply} {c : ℕ} {asking : List Sent}
    → Pays wrong a next unacked poll polls flying shut rejecting polled reply c asking → Pays (1 + wrong) a next unacked poll polls flying shut rejecting polled reply c asking
pays-more {wrong} {next = next} {unacked = unacked} h = record {
  gap = h.gap;
  spare = h.spare;
  paid = 1 + h.paid;
  enough = let e = h.enough in omega arith;
  within = let e = h.within in omega arith;
  given = given-more wrong h.paid next unacked h.given;
  some = h.some;
  live = h.live;
}

-- the receiver closes
pub pays-shut :
    {wrong a next : ℕ} {unacked : List Kept} {poll : Poll} {polls : ℕ} {flying : List Sent} {shut : Option ErtmReason} {rejecting polled : Bool} {reply : Reply} {c : ℕ} {asking : List Sent} (reason : ErtmReason) (flying' : List Sent)
    → Pays wrong a next unacked poll polls flying shut rejecting polled reply c asking → Pays wrong a next unacked poll polls flying' (Some reason) rejecting polled reply c asking
pays-shut reason flying' h = record { gap = h.gap; spare = h.spare; paid = h.paid; enough = h.enough; within = h.within; given = h.given; some = h.some; live = λ e. cc }

final_of : (poll : Poll) (a next c gap spare : ℕ) (flying : List Sent) (polled : Bool) (reply : Reply) (asking : List Sent) → Moves poll a next c gap spare flying polled reply asking → Final a c spare polled reply asking
final_of NoPoll a next c gap spare flying polled reply asking h = λ e. h.1
final_of Due a next c gap spare flying polled reply asking h = h
final_of Waits a next c gap spare flying polled reply asking h = h.0

-- a timer makes a poll due
pub pays-due :
    {wrong a next : ℕ} {unacked : List Kept} {poll : Poll} {polls : ℕ} {flying : List Sent} {shut : Option ErtmReason} {rejecting polled : Bool} {reply : Reply} {c : ℕ} {asking : List Sent}
    → Pays wrong a next unacked poll polls flying shut rejecting polled reply c asking → Pays (1 + wrong) a next unacked Due polls flying shut rejecting polled reply c asking
pays-due {wrong} {a} {next} {unacked} {poll} {polls} {flying} {shut} {rejecting} {polled} {reply} {c} {asking} h = record {
  gap = h.gap;
  spare = h.spare;
  paid = 1 + h.paid;
  enough = let e = h.enough in omega arith;
  within = let e = h.within in omega arith;
  given = given-more wrong h.paid next unacked h.given;
  some = λ e. cc;
  live = λ e. let l = h.live e in record {
    from = l.from;
    chains = chains-next c (a + next_of poll next) (a + 0) l.from flying (omega arith) l.chains;
    no_gap = l.no_gap;
    moves = final_of poll a next c h.gap h.spare flying polled reply asking l.moves;
  };
}

-- anything, where it is blamed
blamed : (poll : Poll) (a next c gap spare : ℕ) (flying : List Sent) (polled : Bool) (reply : Reply) (asking : List Sent) → 1 ≤ spare → Moves poll a next c gap spare flying polled reply asking
blamed NoPoll a next c gap spare flying polled reply asking some = (inr (omega arith), inr some)
blamed Due a next c gap spare flying polled reply asking some = λ e. inr some
blamed Waits a next c gap spare flying polled reply asking some = ((λ e. inr some), inr some)

moves_lost : (poll : Poll) (a next c gap spare : ℕ) (queue : List Sent) (polled : Bool) (reply : Reply) (asking : List Sent) (tx req sar total : ℕ) (final : Bool) (octets : List ℕ) (number asks : ℕ)
    → Moves poll a next c gap spare (record { frame = information tx final req sar total octets; number = number; asks = asks } ∷ queue) polled reply asking → Moves poll a next c (1 + gap) spare queue polled reply asking
moves_lost NoPoll a next c gap spare queue polled reply asking tx req sar total final octets number asks h = (inr (omega arith), h.1)
moves_lost Due a next c gap spare queue polled reply asking tx req sar total final octets number asks h = h
moves_lost Waits a next c gap spare queue polled reply asking tx req sar total final octets number asks h = h

-- the front frame is lost
pub pays-lost :
    {wrong a next : ℕ} {unacked : List Kept} {poll : Poll} {polls : ℕ} {queue : List Sent} {shut : Option ErtmReason} {rejecting polled : Bool} {reply : Reply} {c : ℕ} {asking : List Sent} (frame : PlainFrame) (number asks : ℕ)
    → Pays wrong a next unacked poll polls (record { frame = frame; number = number; asks = asks } ∷ queue) shut rejecting polled reply c asking
    → Pays (1 + wrong) a next unacked poll polls queue shut rejecting polled reply c asking
pays-lost {wrong} {a} {next} {unacked} {poll} {polls} {queue} {shut} {rejecting} {polled} {reply} {c} {asking} (information tx final req sar total octets) number asks h = record {
  gap = 1 + h.gap;
  spare = h.spare;
  paid = 1 + h.paid;
  enough = let e = h.enough in omega arith;
  within = let e = h.within in omega arith;
  given = given-more wrong h.paid next unacked h.given;
  some = h.some;
  live = λ e. let l = h.live e in record {
    from = number + 1;
    chains = l.chains.1;
    no_gap = λ is none. absurd (omega arith);
    moves = moves_lost poll a next c h.gap h.spare queue polled reply asking tx req sar total final octets number asks l.moves;
  };
}
pays-lost {wrong} {a} {next} {unacked} {poll} {polls} {queue} {shut} {rejecting} {polled} {reply} {c} {asking} (supervisory kind p final req) number asks h = record {
  gap = h.gap;
  spare = 1 + h.spare;
  paid = 1 + h.paid;
  enough = let e = h.enough in omega arith;
  within = let e = h.within in omega arith;
  given = given-more wrong h.paid next unacked h.given;
  some = h.some;
  live = λ e. let l = h.live e in record { from = l.from; chains = l.chains.1; no_gap = l.no_gap; moves = blamed poll a next c h.gap (1 + h.spare) queue polled reply asking (omega arith) };
}

pub pays-unheard :
    {wrong a next : ℕ} {unacked : List Kept} {poll : Poll} {polls : ℕ} {flying : List Sent} {shut : Option ErtmReason} {rejecting polled : Bool} {reply : Reply} {c : ℕ} {queue : List Sent} (sent : Sent)
    → Pays wrong a next unacked poll polls flying shut rejecting polled reply c (sent ∷ queue) → Pays (1 + wrong) a next unacked poll polls flying shut rejecting polled reply c queue
pays-unheard {wrong} {a} {next} {unacked} {poll} {polls} {flying} {shut} {rejecting} {polled} {reply} {c} {queue} sent h = record {
  gap = h.gap;
  spare = 1 + h.spare;
  paid = 1 + h.paid;
  enough = let e = h.enough in omega arith;
  within = let e = h.within in omega arith;
  given = given-more wrong h.paid next unacked h.given;
  some = h.some;
  live = λ e. let l = h.live e in record { from = l.from; chains = l.chains; no_gap = l.no_gap; moves = blamed poll a next c h.gap (1 + h.spare) flying polled reply queue (omega arith) };
}
