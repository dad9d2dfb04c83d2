-- What each sending again is paid with.
use Rattle.std.proofs.Common.{ℕ, zero, suc, ◌≡◌, ◌+◌, ◌-◌, ◌≤◌, ◌⊎◌, inl, inr, max, Bool, true, false, List, [], ◌∷◌, ◌++◌, length, drop, refl, sym, ◌∙◌, arith}
use Rattle.std.specs.Prelude.{◌||◌, nat_le}
use Rattle.std.specs.List.{AllByRecursion}
use Rattle.std.proofs.lemmas.Bool.Decides.{leb_tells}
use Rattle.ertm_frames.specs.declared.frame.SKind.{SKind}
use Rattle.ertm_frames.specs.Frames.{PlainFrame, information, supervisory}
use Rattle.ertm_frames.specs.Picking.{is_poll, is_final}
use Rattle.ertm_model.specs.Value.{Kept, Poll, NoPoll, Due, Waits, Reply, NoReply, Acknowledges, Rejects}
use Rattle.ertm_model.specs.Giving.{given_again}
use Rattle.ertm_model.specs.Hearing.{rejects_frames, is_spent}
use Rattle.ertm_model.specs.Pair.{Sent}

-- ---- frames on their way come in their order, but for those that were lost

-- an I-frame has a number that the receiver expects or passed, or at most one past the one in front of it; `from` is
-- one past the one that left last
abbrev pub MayCome : (c from number : ℕ) → PlainFrame → Type 0
MayCome c from number (information tx final req sar total octets) = number ≤ max c from
MayCome c from number (supervisory kind poll final req) = Unit {0}

abbrev pub from_after : (from number : ℕ) → PlainFrame → ℕ
from_after from number (information tx final req sar total octets) = number + 1
from_after from number (supervisory kind poll final req) = from

-- and so has the next one to be given
abbrev pub Chains : (c next from : ℕ) → List Sent → Type 0
Chains c next from [] = next ≤ max c from
Chains c next from (sent ∷ queue) = MayCome c from sent.number sent.frame × Chains c next (from_after from sent.number sent.frame) queue

may_come : (c d from number : ℕ) (frame : PlainFrame) → c ≤ d → MayCome c from number frame → MayCome d from number frame
may_come c d from number (information tx final req sar total octets) le h = omega arith
may_come c d from number (supervisory kind poll final req) le h = h

pub chains-more : (c d next from : ℕ) (queue : List Sent) → c ≤ d → Chains c next from queue → Chains d next from queue
chains-more c d next from [] le h = omega arith
chains-more c d next from (sent ∷ queue) le h = (may_come c d from sent.number sent.frame le h.0, chains-more c d next (from_after from sent.number sent.frame) queue le h.1)

pub chains-next : (c next other from : ℕ) (queue : List Sent) → other ≤ max next c → Chains c next from queue → Chains c other from queue
chains-next c next other from [] le h = omega arith
chains-next c next other from (sent ∷ queue) le h = (h.0, chains-next c next other (from_after from sent.number sent.frame) queue le h.1)

pub chains-s : (c next from : ℕ) (queue : List Sent) (kind : SKind) (poll final : Bool) (req number asks : ℕ)
    → Chains c next from queue → Chains c next from (queue ++ record { frame = supervisory kind poll final req; number = number; asks = asks } ∷ [])
chains-s c next from [] kind poll final req number asks h = (tt, h)
chains-s c next from (first ∷ queue) kind poll final req number asks h = (h.0, chains-s c next (from_after from first.number first.frame) queue kind poll final req number asks h.1)

pub chains-i : (c next other from : ℕ) (queue : List Sent) (tx req sar total : ℕ) (final : Bool) (octets : List ℕ) (number asks : ℕ) → number ≡ next → other ≡ next + 1
    → Chains c next from queue → Chains c other from (queue ++ record { frame = information tx final req sar total octets; number = number; asks = asks } ∷ [])
chains-i c next other from [] tx req sar total final octets number asks is is' h = (omega arith, omega arith)
chains-i c next other from (first ∷ queue) tx req sar total final octets number asks is is' h =
    (h.0, chains-i c next other (from_after from first.number first.frame) queue tx req sar total final octets number asks is is' h.1)

-- ---- a frame that is not ahead is on its way, or is the next to be given

abbrev pub IsBack : (c number : ℕ) → PlainFrame → Type 0
IsBack c number (information tx final req sar total octets) = number ≤ c
IsBack c number (supervisory kind poll final req) = ⊥

abbrev pub Back : (c next : ℕ) → List Sent → Type 0
Back c next [] = next ≤ c
Back c next (sent ∷ queue) = IsBack c sent.number sent.frame ⊎ Back c next queue

pub back-s : (c next : ℕ) (queue : List Sent) (kind : SKind) (poll final : Bool) (req number asks : ℕ)
    → Back c next queue → Back c next (queue ++ record { frame = supervisory kind poll final req; number = number; asks = asks } ∷ [])
back-s c next [] kind poll final req number asks h = inr h
back-s c next (first ∷ queue) kind poll final req number asks h = elim h [ inl e ↦ inl e | inr e ↦ inr (back-s c next queue kind poll final req number asks e) ]

pub back-i : (c next other : ℕ) (queue : List Sent) (tx req sar total : ℕ) (final : Bool) (octets : List ℕ) (number asks : ℕ) → number ≡ next
    → Back c next queue → Back c other (queue ++ record { frame = information tx final req sar total octets; number = number; asks = asks } ∷ [])
back-i c next other [] tx req sar total final octets number asks is h = inl (omega arith)
back-i c next other (first ∷ queue) tx req sar total final octets number asks is h =
    elim h [ inl e ↦ inl e | inr e ↦ inr (back-i c next other queue tx req sar total final octets number asks is e) ]

pub back-next : (c next other : ℕ) (queue : List Sent) → (next ≤ c → other ≤ c) → Back c next queue → Back c other queue
back-next c next other [] then h = then h
back-next c next other (sent ∷ queue) then h = elim h [ inl e ↦ inl e | inr e ↦ inr (back-next c next other queue then e) ]

pub back-end : (c next : ℕ) (queue : List Sent) → next ≤ c → Back c next queue
back-end c next [] h = h
back-end c next (sent ∷ queue) h = inr (back-end c next queue h)

back_front : (c next from : ℕ) (sent : Sent) (frame : PlainFrame) (queue : List Sent) → from ≤ c → MayCome c from sent.number frame
    → ((f : ℕ) → f ≤ c → Chains c next f queue → Back c next queue) → Chains c next (from_after from sent.number frame) queue → IsBack c sent.number frame ⊎ Back c next queue
back_front c next from sent (information tx final req sar total octets) queue low may then h = inl (omega arith)
back_front c next from sent (supervisory kind poll final req) queue low may then h = inr (then from low h)

-- what comes after a frame that is not ahead is not ahead
pub back-chain : (c next from : ℕ) (queue : List Sent) → from ≤ c → Chains c next from queue → Back c next queue
back-chain c next from [] low h = omega arith
back-chain c next from (sent ∷ queue) low h = back_front c next from sent sent.frame queue low h.0 (λ f l k. back-chain c next f queue l k) h.1

-- ---- what is on its way, or is due

abbrev pub one_if : Bool → ℕ
one_if true = 1
one_if false = 0

abbrev pub rejs : List Sent → ℕ
rejs [] = 0
rejs (sent ∷ queue) = one_if (rejects_frames sent.frame) + rejs queue

pub rejs-on : (queue : List Sent) (sent : Sent) → rejs (queue ++ sent ∷ []) ≡ rejs queue + one_if (rejects_frames sent.frame)
rejs-on [] sent = omega arith
rejs-on (first ∷ queue) sent = let e = rejs-on queue sent in omega arith

abbrev pub rej_due : Reply → ℕ
rej_due NoReply = 0
rej_due Acknowledges = 0
rej_due Rejects = 1

abbrev pub poll_due : Poll → ℕ
poll_due NoPoll = 0
poll_due Due = 1
poll_due Waits = 0

abbrev pub has_poll : List Sent → Bool
has_poll [] = false
has_poll (sent ∷ queue) = is_poll sent.frame || has_poll queue

abbrev pub has_final : List Sent → Bool
has_final [] = false
has_final (sent ∷ queue) = is_final sent.frame || has_final queue

abbrev pub last_asks : ℕ → List Sent → ℕ
last_asks a [] = a
last_asks a (sent ∷ queue) = last_asks sent.asks queue

pub last-on : (a : ℕ) (queue : List Sent) (sent : Sent) → last_asks a (queue ++ sent ∷ []) ≡ sent.asks
last-on a [] sent = refl
last-on a (first ∷ queue) sent = last-on first.asks queue sent

pub or-right : (a b : Bool) → b ≡ true → (a || b) ≡ true
or-right true b e = refl
or-right false b e = e

or_left : (a b : Bool) → a ≡ true → (a || b) ≡ true
or_left true b e = refl
or_left false b e = cc

pub or-either : (a b : Bool) → (a || b) ≡ true → (a ≡ true) ⊎ (b ≡ true)
or-either true b e = inl refl
or-either false b e = inr e

pub poll-on : (queue : List Sent) (sent : Sent) → is_poll sent.frame ≡ true → has_poll (queue ++ sent ∷ []) ≡ true
poll-on [] sent is = or_left (is_poll sent.frame) false is
poll-on (first ∷ queue) sent is = or-right (is_poll first.frame) (has_poll (queue ++ sent ∷ [])) (poll-on queue sent is)

pub final-on : (queue : List Sent) (sent : Sent) → is_final sent.frame ≡ true → has_final (queue ++ sent ∷ []) ≡ true
final-on [] sent is = or_left (is_final sent.frame) false is
final-on (first ∷ queue) sent is = or-right (is_final first.frame) (has_final (queue ++ sent ∷ [])) (final-on queue sent is)

pub poll-stays : (queue : List Sent) (sent : Sent) → has_poll queue ≡ true → has_poll (queue ++ sent ∷ []) ≡ true
poll-stays [] sent h = cc
poll-stays (first ∷ queue) sent h = elim (or-either (is_poll first.frame) (has_poll queue) h) [
  | inl e ↦ or_left (is_poll first.frame) (has_poll (queue ++ sent ∷ [])) e
  | inr e ↦ or-right (is_poll first.frame) (has_poll (queue ++ sent ∷ [])) (poll-stays queue sent e)
]

pub final-stays : (queue : List Sent) (sent : Sent) → has_final queue ≡ true → has_final (queue ++ sent ∷ []) ≡ true
final-stays [] sent h = cc
final-stays (first ∷ queue) sent h = elim (or-either (is_final first.frame) (has_final queue) h) [
  | inl e ↦ or_left (is_final first.frame) (has_final (queue ++ sent ∷ [])) e
  | inr e ↦ or-right (is_final first.frame) (has_final (queue ++ sent ∷ [])) (final-stays queue sent e)
]

-- ---- how often a frame was given

-- with so many things paid for, out of what went wrong: a frame that is to be given again was given at most once less
abbrev pub Given : (wrong paid next : ℕ) → List Kept → Type 0
Given wrong paid next [] = Unit {0}
Given wrong paid zero (kept ∷ behind) = (kept.given + paid ≤ wrong) × Given wrong paid zero behind
Given wrong paid (suc next) (kept ∷ behind) = (kept.given + paid ≤ wrong + 1) × Given wrong paid next behind

pub given-more : (wrong paid next : ℕ) (unacked : List Kept) → Given wrong paid next unacked → Given (1 + wrong) (1 + paid) next unacked
given-more wrong paid next [] h = tt
given-more wrong paid zero (kept ∷ behind) h = (omega (arith, h.0), given-more wrong paid zero behind h.1)
given-more wrong paid (suc next) (kept ∷ behind) h = (omega (arith, h.0), given-more wrong paid next behind h.1)

-- all are to be given again, which is paid
pub given-from_first : (wrong paid next : ℕ) (unacked : List Kept) → Given wrong (paid + 1) next unacked → Given wrong paid 0 unacked
given-from_first wrong paid next [] h = tt
given-from_first wrong paid zero (kept ∷ behind) h = (omega (arith, h.0), given-from_first wrong paid zero behind h.1)
given-from_first wrong paid (suc next) (kept ∷ behind) h = (omega (arith, h.0), given-from_first wrong paid next behind h.1)

pub given-dropped : (wrong paid next k : ℕ) (unacked : List Kept) → Given wrong paid next unacked → Given wrong paid (next - k) (drop k unacked)
given-dropped wrong paid next zero unacked h = let e : next - 0 ≡ next = omega arith in rw e h
given-dropped wrong paid next (suc k) [] h = tt
given-dropped wrong paid zero (suc k) (kept ∷ behind) h = let e : 0 - suc k ≡ 0 - k = omega arith in rw e (given-dropped wrong paid zero k behind h.1)
given-dropped wrong paid (suc next) (suc k) (kept ∷ behind) h = let e : suc next - suc k ≡ next - k = omega arith in rw e (given-dropped wrong paid next k behind h.1)

pub given-once_more : (wrong paid next : ℕ) (unacked : List Kept) → Given wrong paid next unacked → Given wrong paid (suc next) (given_again next unacked)
given-once_more wrong paid next [] h = tt
given-once_more wrong paid zero (kept ∷ behind) h = (omega (arith, h.0), h.1)
given-once_more wrong paid (suc next) (kept ∷ behind) h = (h.0, given-once_more wrong paid next behind h.1)

pub given-first : (wrong paid next : ℕ) (unacked : List Kept) (kept : Kept) → next ≡ length unacked → kept.given ≡ 1 → paid ≤ wrong → Given wrong paid next unacked → Given wrong paid (suc next) (unacked ++ kept ∷ [])
given-first wrong paid next [] kept end one le h = (omega (arith, one), tt)
given-first wrong paid zero (first ∷ behind) kept end one le h = absurd (omega arith)
given-first wrong paid (suc next) (first ∷ behind) kept end one le h = (h.0, given-first wrong paid next behind kept (omega arith) one le h.1)

pub given-at_most : (wrong paid next : ℕ) (unacked : List Kept) → Given wrong paid next unacked → AllByRecursion (λ (kept : Kept). kept.given ≤ wrong + 1) unacked
given-at_most wrong paid next [] h = tt
given-at_most wrong paid zero (kept ∷ behind) h = (omega (arith, h.0), given-at_most wrong paid zero behind h.1)
given-at_most wrong paid (suc next) (kept ∷ behind) h = (omega (arith, h.0), given-at_most wrong paid next behind h.1)

pub at_most-more : (wrong more : ℕ) (unacked : List Kept) → wrong ≤ more → AllByRecursion (λ (kept : Kept). kept.given ≤ wrong + 1) unacked → AllByRecursion (λ (kept : Kept). kept.given ≤ more + 1) unacked
at_most-more wrong more [] le h = tt
at_most-more wrong more (kept ∷ behind) le h = (omega (arith, h.0), at_most-more wrong more behind le h.1)

-- a frame that was given as often as may be
pub spent-means : (wrong paid next tries : ℕ) (unacked : List Kept) → 1 ≤ paid → is_spent tries unacked ≡ true → Given wrong paid next unacked → tries ≤ wrong
spent-means wrong paid next tries [] some is h = cc
spent-means wrong paid zero tries (kept ∷ behind) some is h = elim (or-either (nat_le tries kept.given) (is_spent tries behind) is) [
  | inl e ↦ elim (leb_tells tries kept.given) [ inl (f, le) ↦ omega (arith, h.0) | inr (f, lt) ↦ (let g : true ≡ false = sym e ∙ f in cc) ]
  | inr e ↦ spent-means wrong paid zero tries behind some e h.1
]
spent-means wrong paid (suc next) tries (kept ∷ behind) some is h = elim (or-either (nat_le tries kept.given) (is_spent tries behind) is) [
  | inl e ↦ elim (leb_tells tries kept.given) [ inl (f, le) ↦ omega (arith, h.0) | inr (f, lt) ↦ (let g : true ≡ false = sym e ∙ f in cc) ]
  | inr e ↦ spent-means wrong paid next tries behind some e h.1
]
