-- What a machine gives, with why.
use Rattle.std.proofs.Common.{suc, ◌≡◌, ◌≢◌, ◌<◌, ◌≤◌, ◌⊎◌, inl, inr, Bool, true, false, cond, List, [], ◌∷◌, length, Option, Some, None, refl, arith}
use Rattle.std.specs.Prelude.{nat_lt, slice_get}
use Rattle.std.proofs.lemmas.Bool.Decides.{leb_tells}
use Rattle.ertm_frames.specs.Segments.{Segment}
use Rattle.ertm_model.specs.declared.reason.ErtmReason.{ErtmReason}
use Rattle.ertm_model.specs.Value.{Kept, Poll, NoPoll, Due, Waits, Reply, NoReply, Acknowledges, Rejects, Ertm}
use Rattle.ertm_model.specs.Giving.{Giving, PollAnswer, Acknowledgement, Rejection, Polling, Again, New, new_giving, data_giving, poll_giving, reply_giving, open_giving, giving}

-- no S-frame waits
pub record IsQuiet (m : Ertm) : Type 0 where
  pub open_ : m.closed ≡ None
  pub unpolled : m.receiver.polled ≡ false
  pub unreplied : m.receiver.reply ≡ NoReply

-- an I-frame may be given, if there is one
pub record IsFree (m : Ertm) : Type 0 where
  pub quiet : IsQuiet m
  pub no_poll : m.sender.poll ≡ NoPoll
  pub ready : m.sender.busy ≡ false

-- there is none that may be given
pub record IsSpent (m : Ertm) : Type 0 where
  pub at_end : slice_get m.sender.unacked m.sender.next ≡ None
  pub full : (m.sender.fresh ≡ []) ⊎ (m.agreed.send_window ≤ length m.sender.unacked)

abbrev pub IsSilent : Ertm → Type 0
IsSilent m = (m.closed ≢ None) ⊎ (IsQuiet m × ((m.sender.poll ≡ Waits) ⊎ ((m.sender.poll ≡ NoPoll) × ((m.sender.busy ≡ true) ⊎ ((m.sender.busy ≡ false) × IsSpent m)))))

abbrev pub Gives : Ertm → Option Giving → Type 0
Gives m None = IsSilent m
Gives m (Some PollAnswer) = (m.closed ≡ None) × (m.receiver.polled ≡ true)
Gives m (Some Acknowledgement) = (m.closed ≡ None) × (m.receiver.polled ≡ false) × (m.receiver.reply ≡ Acknowledges)
Gives m (Some Rejection) = (m.closed ≡ None) × (m.receiver.polled ≡ false) × (m.receiver.reply ≡ Rejects)
Gives m (Some Polling) = IsQuiet m × (m.sender.poll ≡ Due)
Gives m (Some (Again kept)) = IsFree m × (slice_get m.sender.unacked m.sender.next ≡ Some kept)
Gives m (Some (New segment behind)) =
    IsFree m × (slice_get m.sender.unacked m.sender.next ≡ None) × (m.sender.fresh ≡ segment ∷ behind) × (length m.sender.unacked < m.agreed.send_window)

gives-room : (m : Ertm) (segment : Segment) (behind : List Segment) → IsFree m → slice_get m.sender.unacked m.sender.next ≡ None → m.sender.fresh ≡ segment ∷ behind
    → Gives m (cond (nat_lt (length m.sender.unacked) m.agreed.send_window) (Some (New segment behind)) None)
gives-room m segment behind free none is = elim (leb_tells (suc (length m.sender.unacked)) m.agreed.send_window) [
  | inl (e, lt) ↦ rw e (free, none, is, lt)
  | inr (e, le) ↦ rw e (inr (free.quiet, inr (free.no_poll, inr (free.ready, record { at_end = none; full = inr (omega arith) }))))
]

gives-new : (m : Ertm) (fresh : List Segment) → IsFree m → slice_get m.sender.unacked m.sender.next ≡ None → m.sender.fresh ≡ fresh
    → Gives m (new_giving (nat_lt (length m.sender.unacked) m.agreed.send_window) fresh)
gives-new m [] free none is = inr (free.quiet, inr (free.no_poll, inr (free.ready, record { at_end = none; full = inl is })))
gives-new m (segment ∷ behind) free none is = gives-room m segment behind free none is

gives-data : (m : Ertm) (here : Option Kept) → IsFree m → slice_get m.sender.unacked m.sender.next ≡ here → Gives m (data_giving here m)
gives-data m (Some kept) free is = (free, is)
gives-data m None free is = gives-new m m.sender.fresh free is refl

gives-ready : (m : Ertm) (busy : Bool) → IsQuiet m → m.sender.poll ≡ NoPoll → m.sender.busy ≡ busy → Gives m (cond busy None (data_giving (slice_get m.sender.unacked m.sender.next) m))
gives-ready m true quiet no_poll is = inr (quiet, inr (no_poll, inl is))
gives-ready m false quiet no_poll is = gives-data m (slice_get m.sender.unacked m.sender.next) (record { quiet = quiet; no_poll = no_poll; ready = is }) refl

gives-poll : (m : Ertm) (poll : Poll) → IsQuiet m → m.sender.poll ≡ poll → Gives m (poll_giving poll m)
gives-poll m NoPoll quiet is = gives-ready m m.sender.busy quiet is refl
gives-poll m Due quiet is = (quiet, is)
gives-poll m Waits quiet is = inr (quiet, inl is)

gives-reply : (m : Ertm) (reply : Reply) → m.closed ≡ None → m.receiver.polled ≡ false → m.receiver.reply ≡ reply → Gives m (reply_giving reply m)
gives-reply m Acknowledges open_ unpolled is = (open_, unpolled, is)
gives-reply m Rejects open_ unpolled is = (open_, unpolled, is)
gives-reply m NoReply open_ unpolled is = gives-poll m m.sender.poll (record { open_ = open_; unpolled = unpolled; unreplied = is }) refl

gives-answer : (m : Ertm) (polled : Bool) → m.closed ≡ None → m.receiver.polled ≡ polled → Gives m (cond polled (Some PollAnswer) (reply_giving m.receiver.reply m))
gives-answer m true open_ is = (open_, is)
gives-answer m false open_ is = gives-reply m m.receiver.reply open_ is refl

gives-open : (m : Ertm) (closed : Option ErtmReason) → m.closed ≡ closed → Gives m (open_giving closed m)
gives-open m (Some reason) is = inl (λ e. cc)
gives-open m None is = gives-answer m m.receiver.polled is refl

pub gives : (m : Ertm) → Gives m (giving m)
gives m = gives-open m m.closed refl
