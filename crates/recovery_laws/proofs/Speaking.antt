-- What an end gives does not raise the number of passes.
use Rattle.std.proofs.Common.{ℕ, ◌≡◌, ◌+◌, ◌-◌, ◌<◌, ◌≤◌, Bool, false, List, [], ◌∷◌, ◌++◌, length, Option, Some, None, refl, ap, sym, ◌∙◌, arith, append-nil, length-append}
use Rattle.ertm_frames.specs.Segments.{Segment}
use Rattle.ertm_model.specs.Giving.{Giving, PollAnswer, Acknowledgement, Rejection, Polling, Again, New, giving}
use Rattle.ertm_model.specs.Pair.{Sent, End, acknowledged_by, given_by, gave, near, Give}
use Rattle.ertm_model.specs.Order.{Stands}
use Rattle.ertm_model.proofs.Lists.{get-none, again-length}
use Rattle.ertm_model.proofs.Inverting.{Gives, gives}
use Rattle.ertm_model.proofs.Sending.{put-length}
use Rattle.ertm_model.proofs.Saying.{gives-stands}
use Rattle.recovery_laws.specs.Number.{Direction, direction, is_waiting, weights, work_left}
use Rattle.ertm_model.proofs.Standing.{swapped}
use Rattle.recovery_laws.specs.Facts.{IsSound, IsFit, IsSettled}
use Rattle.recovery_laws.proofs.Runs.{weights-on}
use Rattle.recovery_laws.proofs.Putting.{gave_new, new-goes, told, told-goes}
use Rattle.recovery_laws.proofs.Due.{sent_by, under_way, IsDue, gave-due, none-due, none-due_new, silent-due}

-- ---- two ends, with what they have to give

abbrev pub under : ℕ → (x y : End) → Direction
under planned x y = record (direction planned x y) { going = under_way x; coming = under_way y }

pub record Holds (planned_x planned_y : ℕ) (x y : End) : Type 0 where
  pub stands : Stands x y
  pub there : IsSound (under planned_x x y)
  pub back : IsSound (under planned_y y x)
  pub fit_x : IsFit planned_x x
  pub fit_y : IsFit planned_y y

abbrev pub total : (planned_x planned_y : ℕ) → (x y : End) → ℕ
total planned_x planned_y x y = (weights (under_way x) + weights (under_way y)) + (work_left (under planned_x x y) + work_left (under planned_y y x))

-- ---- a frame that was due

pub alike : (d : Direction) {a b : ℕ} {v w : Bool} {g h : List Sent} → a ≡ b → v ≡ w → g ≡ h → record d { acknowledged = a; waits = v; going = g } ≡ record d { acknowledged = b; waits = w; going = h }
alike d same same' same'' = rw (same, same', same'') refl

same_there : (planned : ℕ) (x y : End) (given : Giving) → IsDue given → Gives x.machine (Some given) → under planned (gave (Some given) x) y ≡ under planned x y
same_there planned x y PollAnswer is why = alike (under planned x y) refl refl (gave-due x PollAnswer is why)
same_there planned x y Acknowledgement is why = alike (under planned x y) refl refl (gave-due x Acknowledgement is why)
same_there planned x y Rejection is why = alike (under planned x y) refl refl (gave-due x Rejection is why)
same_there planned x y Polling is (quiet, polls) = alike (under planned x y) refl (rw polls refl) (gave-due x Polling is (quiet, polls))
same_there planned x y (Again kept) is why =
    let long = again-length x.machine.sender.next x.machine.sender.unacked in
    alike (under planned x y) (ap (λ (n : ℕ). length x.put - (n + length x.machine.sender.fresh)) long) refl (gave-due x (Again kept) is why)
same_there planned x y (New segment behind) is why = absurd is

same_back : (planned : ℕ) (x y : End) (given : Giving) → IsDue given → Gives x.machine (Some given) → under planned y (gave (Some given) x) ≡ under planned y x
same_back planned x y PollAnswer is why = ap (λ (l : List Sent). record (under planned y x) { coming = l }) (gave-due x PollAnswer is why)
same_back planned x y Acknowledgement is why = ap (λ (l : List Sent). record (under planned y x) { coming = l }) (gave-due x Acknowledgement is why)
same_back planned x y Rejection is why = ap (λ (l : List Sent). record (under planned y x) { coming = l }) (gave-due x Rejection is why)
same_back planned x y Polling is why = ap (λ (l : List Sent). record (under planned y x) { coming = l }) (gave-due x Polling is why)
same_back planned x y (Again kept) is why = ap (λ (l : List Sent). record (under planned y x) { coming = l }) (gave-due x (Again kept) is why)
same_back planned x y (New segment behind) is why = absurd is

same_fit : (planned : ℕ) (x : End) (given : Giving) → IsDue given → Gives x.machine (Some given) → IsFit planned x → IsFit planned (gave (Some given) x)
same_fit planned x PollAnswer is why h = record { fits = h.fits; ready = h.ready; unpolled = h.unpolled }
same_fit planned x Acknowledgement is why h = record { fits = h.fits; ready = h.ready; unpolled = h.unpolled }
same_fit planned x Rejection is why h = record { fits = h.fits; ready = h.ready; unpolled = h.unpolled }
same_fit planned x Polling is why h = record { fits = h.fits; ready = h.ready; unpolled = λ e. cc }
same_fit planned x (Again kept) is why h = record { fits = h.fits; ready = h.ready; unpolled = h.unpolled }
same_fit planned x (New segment behind) is why h = absurd is

-- what it keeps, and that the number is no more
pub record StillHolds (planned_x planned_y : ℕ) (before : ℕ) (x y : End) : Type 0 where
  pub holds : Holds planned_x planned_y x y
  pub less : total planned_x planned_y x y ≤ before

due_kept : (planned_x planned_y : ℕ) (x y : End) (given : Giving) → IsDue given → Gives x.machine (Some given) → Stands (gave (Some given) x) y → Holds planned_x planned_y x y
    → StillHolds planned_x planned_y (total planned_x planned_y x y) (gave (Some given) x) y
due_kept planned_x planned_y x y given is why stands h =
    let there = same_there planned_x x y given is why in
    let back = same_back planned_y x y given is why in
    let queue = gave-due x given is why in
    record {
      holds = record { stands = stands; there = rw there h.there; back = rw back h.back; fit_x = same_fit planned_x x given is why h.fit_x; fit_y = h.fit_y };
      less =
          let e : total planned_x planned_y (gave (Some given) x) y ≡ total planned_x planned_y x y =
          ap (λ (l : List Sent). (weights l + weights (under_way y)) + (work_left (under planned_x (gave (Some given) x) y) + work_left (under planned_y y (gave (Some given) x)))) queue
          ∙ ap (λ (d : Direction). (weights (under_way x) + weights (under_way y)) + (work_left d + work_left (under planned_y y (gave (Some given) x)))) there
          ∙ ap (λ (d : Direction). (weights (under_way x) + weights (under_way y)) + (work_left (under planned_x x y) + work_left d)) back in
          omega arith;
    }

-- ---- a new frame

-- what is known of it
record IsNew (planned : ℕ) (x y : End) (segment : Segment) (behind : List Segment) : Type 0 where
  waits : is_waiting x.machine.sender.poll ≡ false
  queue : under_way (gave (Some (New segment behind)) x) ≡ under_way x ++ sent_by (New segment behind) x ∷ []
  number : acknowledged_by x + x.machine.sender.next ≡ given_by x
  same : acknowledged_by (gave (Some (New segment behind)) x) ≡ acknowledged_by x
  more : given_by (gave (Some (New segment behind)) x) ≡ given_by x + 1
  some : given_by x < planned
  room : given_by x < acknowledged_by x + x.machine.agreed.send_window

is_new : (planned : ℕ) (x y : End) (segment : Segment) (behind : List Segment) → Gives x.machine (Some (New segment behind)) → Stands x y → IsFit planned x → IsNew planned x y segment behind
is_new planned x y segment behind (free, none, is, room) stands fit =
    let after : End = gave (Some (New segment behind)) x in
    let sent : Sent = sent_by (New segment behind) x in
    let before = none-due x free none in
    let behind_it = none-due_new x segment behind free none in
    let put = put-length stands.there.sends in
    let some = ap length is in
    let far = get-none x.machine.sender.unacked x.machine.sender.next none in
    let next_in = stands.there.sends.next_in in
    let long = length-append x.machine.sender.unacked (record { segment = segment; given = 1 } ∷ []) in
    let fits = fit.fits in
    record {
      waits = rw free.no_poll refl;
      queue = rw (before, behind_it) (append-nil (x.queue ++ sent ∷ []) ∙ ap (λ (l : List Sent). l ++ sent ∷ []) (sym (append-nil x.queue)));
      number = omega arith;
      same = omega arith;
      more = omega arith;
      some = omega arith;
      room = omega arith;
    }

new_there : (planned : ℕ) (x y : End) (segment : Segment) (behind : List Segment) → IsNew planned x y segment behind
    → under planned (gave (Some (New segment behind)) x) y ≡ gave_new (sent_by (New segment behind) x) (under planned x y)
new_there planned x y segment behind n =
    let e = n.same in
    let f = n.more in
    let g = n.queue in
    rw (e, f, g) refl

new_kept : (planned_x planned_y : ℕ) (x y : End) (segment : Segment) (behind : List Segment) → Gives x.machine (Some (New segment behind)) → Stands (gave (Some (New segment behind)) x) y → Holds planned_x planned_y x y
    → StillHolds planned_x planned_y (total planned_x planned_y x y) (gave (Some (New segment behind)) x) y
new_kept planned_x planned_y x y segment behind why stands h =
    let after : End = gave (Some (New segment behind)) x in
    let sent : Sent = sent_by (New segment behind) x in
    let n = is_new planned_x x y segment behind why h.stands h.fit_x in
    let there = new_there planned_x x y segment behind n in
    let back : under planned_y y after ≡ told sent (under planned_y y x) = ap (λ (l : List Sent). record (under planned_y y x) { coming = l }) n.queue in
    let one = new-goes sent (under planned_x x y) (ap (λ (m : ℕ). m ∷ []) n.number) n.waits n.some n.room h.there in
    let other = told-goes sent (under planned_y y x) refl refl h.back in
    let weigh = ap weights n.queue ∙ weights-on (under_way x) (sent ∷ []) in
    let work_there = ap work_left there in
    let work_back = ap work_left back in
    let le = one.within in
    let le' = other.within in
    record {
      holds = record { stands = stands; there = rw there one.sound; back = rw back other.sound; fit_x = record { fits = h.fit_x.fits; ready = h.fit_x.ready; unpolled = h.fit_x.unpolled }; fit_y = h.fit_y };
      less = omega arith;
    }

-- ---- whatever it gives

said_kept : (planned_x planned_y : ℕ) (x y : End) (given : Option Giving) → Gives x.machine given → Stands (gave given x) y → Holds planned_x planned_y x y → StillHolds planned_x planned_y (total planned_x planned_y x y) (gave given x) y
said_kept planned_x planned_y x y None why stands h = record { holds = h; less = omega arith }
said_kept planned_x planned_y x y (Some PollAnswer) why stands h = due_kept planned_x planned_y x y PollAnswer tt why stands h
said_kept planned_x planned_y x y (Some Acknowledgement) why stands h = due_kept planned_x planned_y x y Acknowledgement tt why stands h
said_kept planned_x planned_y x y (Some Rejection) why stands h = due_kept planned_x planned_y x y Rejection tt why stands h
said_kept planned_x planned_y x y (Some Polling) why stands h = due_kept planned_x planned_y x y Polling tt why stands h
said_kept planned_x planned_y x y (Some (Again kept)) why stands h = due_kept planned_x planned_y x y (Again kept) tt why stands h
said_kept planned_x planned_y x y (Some (New segment behind)) why stands h = new_kept planned_x planned_y x y segment behind why stands h

pub give-kept : (planned_x planned_y : ℕ) (x y : End) → Holds planned_x planned_y x y → StillHolds planned_x planned_y (total planned_x planned_y x y) (near Give x) y
give-kept planned_x planned_y x y h = said_kept planned_x planned_y x y (giving x.machine) (gives x.machine) (gives-stands x y h.stands) h

pub holds-swapped : {planned_x planned_y : ℕ} {x y : End} → Holds planned_x planned_y x y → Holds planned_y planned_x y x
holds-swapped h = record { stands = swapped h.stands; there = h.back; back = h.there; fit_x = h.fit_y; fit_y = h.fit_x }

-- ---- an end stays open or closed, whatever it gives

pub gave-closed : (given : Option Giving) (e : End) → (gave given e).machine.closed ≡ e.machine.closed
gave-closed None e = refl
gave-closed (Some PollAnswer) e = refl
gave-closed (Some Acknowledgement) e = refl
gave-closed (Some Rejection) e = refl
gave-closed (Some Polling) e = refl
gave-closed (Some (Again kept)) e = refl
gave-closed (Some (New segment behind)) e = refl

pub gave-put : (given : Option Giving) (e : End) → (gave given e).put ≡ e.put
gave-put None e = refl
gave-put (Some given) e = refl

-- ---- and where it has no more to give, all that it had is on its way

pub settled-queue : (planned : ℕ) (e : End) → IsFit planned e → IsSettled e → under_way e ≡ e.queue
settled-queue planned e fit settled = ap (λ (l : List Sent). e.queue ++ l) (silent-due e settled.is_open fit.ready settled.is_silent) ∙ append-nil e.queue

pub settled-direction : (planned planned_x planned_y : ℕ) (x y : End) → IsFit planned_x x → IsFit planned_y y → IsSettled x → IsSettled y → under planned x y ≡ direction planned x y
settled-direction planned planned_x planned_y x y fit_x fit_y settled_x settled_y =
    let e = settled-queue planned_x x fit_x settled_x in
    let f = settled-queue planned_y y fit_y settled_y in
    rw (e, f) refl
