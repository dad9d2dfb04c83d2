-- A frame that is handed over lowers the number of passes.
use Rattle.std.proofs.Common.{ℕ, ◌≡◌, ◌+◌, ◌≤◌, Bool, true, false, cond, List, [], ◌∷◌, ◌++◌, length, None, refl, ap, sym, ◌∙◌, subst, arith, append-nil}
use Rattle.std.specs.List.{AllByRecursion}
use Rattle.std.proofs.lemmas.List.{append_assoc}
use Rattle.ertm_frames.specs.Frames.{PlainFrame, information, supervisory}
use Rattle.ertm_frames.specs.Picking.{is_final}
use Rattle.ertm_model.specs.Value.{Poll, NoPoll}
use Rattle.ertm_model.specs.Hearing.{acknowledged, poll_after, sender_after}
use Rattle.ertm_model.specs.Pair.{Sent, End, acknowledged_by, given_by, hearing_by}
use Rattle.ertm_model.specs.Order.{IsBelow, MayFly, WayBy, Stands}
use Rattle.ertm_model.proofs.Lists.{dropped}
use Rattle.ertm_model.proofs.Sending.{put-length}
use Rattle.ertm_model.proofs.Acknowledging.{acknowledges}
use Rattle.ertm_model.proofs.Affording.{placed_for, still_ready}
use Rattle.ertm_model.proofs.Ordering.{front-flies}
use Rattle.ertm_model.proofs.Resting.{at_rest, silent}
use Rattle.recovery_laws.specs.Number.{Direction, is_waiting, weight, weights, number_in, work_left}
use Rattle.recovery_laws.specs.Facts.{IsSound, IsFit, IsSettled}
use Rattle.recovery_laws.proofs.Runs.{weights-on}
use Rattle.recovery_laws.proofs.Putting.{Goes, gave, gave-goes, told, told-goes}
use Rattle.recovery_laws.proofs.Hearing.{comes, heard-goes, all-goes}
use Rattle.recovery_laws.proofs.Receiving.{goes}
use Rattle.recovery_laws.proofs.Due.{due_data, under_way, silent-due}
use Rattle.recovery_laws.proofs.Speaking.{under, Holds, total}
use Rattle.recovery_laws.proofs.Answering.{goes-as, received, receives}
use Rattle.recovery_laws.proofs.Repeating.{Says, data-says, Repeats, plainly, afresh, IsLater, repeats}

-- ---- many frames

pub after-goes : {paid other owed : ℕ} {d e f : Direction} → Goes paid owed d e → Goes other 0 e f → Goes (paid + other) owed d f
after-goes first second = record { sound = second.sound; within = let le = first.within in let le' = second.within in omega arith }

pub same-goes : (d : Direction) → IsSound d → Goes 0 0 d d
same-goes d h = record { sound = h; within = omega arith }

gave_many : (small : List Sent) (d : Direction) → AllByRecursion (λ (s : Sent). number_in s.number s.frame ≡ []) small → IsSound d → Goes 0 0 d (record d { going = d.going ++ small })
gave_many [] d none h = let e = append-nil d.going in goes-as (rw e refl) (same-goes d h)
gave_many (sent ∷ small) d none h =
    let one = gave-goes sent d none.0 h in
    goes-as (rw (append_assoc d.going (sent ∷ []) small) refl) (after-goes one (gave_many small (gave sent d) none.1 one.sound))

pub told-many : (data_ : List Sent) (d : Direction) → AllByRecursion (Says d.accepted) data_ → IsSound d → Goes 0 0 d (record d { coming = d.coming ++ data_ })
told-many [] d say h = let e = append-nil d.coming in goes-as (rw e refl) (same-goes d h)
told-many (sent ∷ data_) d say h =
    let one = told-goes sent d say.0.0 say.0.1 h in
    goes-as (rw (append_assoc d.coming (sent ∷ []) data_) refl) (after-goes one (told-many data_ (told sent d) say.1 one.sound))

-- ---- the direction that the frame acknowledges

sender_goes : (sent : Sent) (rest : List Sent) (y later : End) (poll : Poll) (d : Direction) → Repeats sent y poll later → d.waits ≡ is_waiting y.machine.sender.poll → d.given ≡ given_by y → IsSound (comes sent rest d)
    → Goes (weights (due_data poll later)) 0 (comes sent rest d) (record d { acknowledged = sent.asks; waits = is_waiting poll; going = d.going ++ due_data poll later; coming = rest })
sender_goes sent rest y later poll d (plainly plain none waits) waits_are given_is h =
    let e = append-nil d.going in
    let f : is_waiting poll ≡ d.waits = waits ∙ sym waits_are in
    rw (none, f, e) (heard-goes sent rest d (rw waits_are plain) h)
sender_goes sent rest y later poll d (afresh k asks numbers_are many weigh waits) waits_are given_is h =
    rw (weigh, waits) (all-goes sent rest (due_data poll later) d k (rw waits_are asks) numbers_are (many ∙ sym given_is) h)

-- ---- what is known of a front frame and of the end that hears it

below_given : (x y : End) (number : ℕ) (frame : PlainFrame) (h : Stands x y) → MayFly x.machine.agreed.send_window x.put (h.there.a + length x.machine.sender.unacked) (length y.got) number frame → IsBelow (given_by x) number frame
below_given x y number (information tx final req sar total octets) h may = let put = put-length h.there.sends in let less = may.1 in omega arith
below_given x y number (supervisory kind poll final req) h may = tt

counts_none : (final : Bool) (poll : Poll) (polls : ℕ) → (poll ≡ NoPoll → polls ≡ 0) → cond final NoPoll poll ≡ NoPoll → cond final 0 polls ≡ 0
counts_none true poll polls none is = refl
counts_none false poll polls none is = none is

-- the end that heard it
heard_fit : (planned : ℕ) (x y : End) (sent : Sent) (h : Stands x y) → MayFly x.machine.agreed.send_window x.put (h.there.a + length x.machine.sender.unacked) (length y.got) sent.number sent.frame → IsFit planned y
    → IsFit planned (hearing_by None None sent.frame y)
heard_fit planned x y sent h may fit = record {
  fits = fit.fits;
  ready = still_ready x.machine.agreed.send_window x.put (h.there.a + length x.machine.sender.unacked) (length y.got) sent.number sent.frame y.machine.sender.busy may fit.ready;
  unpolled = counts_none (is_final sent.frame) y.machine.sender.poll y.machine.sender.polls fit.unpolled;
}

-- how many frames it acknowledges
record Counts (y : End) (sent : Sent) : Type 0 where
  few : acknowledged sent.frame y.machine.sender ≤ length y.machine.sender.unacked
  asks : length y.put + acknowledged sent.frame y.machine.sender ≡ sent.asks + (length y.machine.sender.unacked + length y.machine.sender.fresh)

counts : (x y : End) (sent : Sent) (behind : List Sent) → x.queue ≡ sent ∷ behind → Stands x y → Counts y sent
counts x y sent behind is h =
    let met = h.met in
    let back : WayBy y.machine.agreed.send_window x.machine.agreed.receive_mtu y.machine.sender y.put y.sdus y.queue x.machine.receiver x.got x.up (sent ∷ behind) =
    subst (λ (l : List Sent). WayBy y.machine.agreed.send_window x.machine.agreed.receive_mtu y.machine.sender y.put y.sdus y.queue x.machine.receiver x.got x.up l) is h.back in
    let acks = acknowledges sent behind (acknowledged sent.frame y.machine.sender) (let e = met.within in let f = met.most in omega arith) refl back in
    let long = put-length back.sends in
    let a_is = acks.is in
    record { few = acks.few; asks = omega arith }

is_later : (y later : End) (sent : Sent) → Counts y sent → later.machine.sender ≡ sender_after sent.frame y.machine.sender → later.put ≡ y.put → IsLater sent y later
is_later y later sent c sender_is put_is =
    let asks = c.asks in
    let few = c.few in
    let rest = (dropped (acknowledged sent.frame y.machine.sender) y.machine.sender.unacked few).left_length in
    record {
      sender_is = sender_is;
      acknowledged_is = rw (sender_is, put_is) (omega arith);
      left = omega arith;
    }

-- ---- the front frame is heard, and others are on the way then

pub record Passes (planned_x planned_y : ℕ) (x y after : End) (sent : Sent) (rest : List Sent) : Type 0 where
  pub holds : Holds planned_x planned_y (record x { queue = rest }) after
  pub falls : 1 + total planned_x planned_y (record x { queue = rest }) after
      ≤ (weight sent.frame + weights rest + weights (under_way y)) + (work_left (goes sent rest (under planned_x x y)) + work_left (comes sent rest (under planned_y y x)))

pub passes : (planned_x planned_y : ℕ) (x y : End) (sent : Sent) (behind rest : List Sent) → x.queue ≡ sent ∷ behind → IsSettled x → IsSettled y → Holds planned_x planned_y x y
    → Stands (record x { queue = rest }) (hearing_by None None sent.frame y) → IsSound (goes sent rest (under planned_x x y)) → IsSound (comes sent rest (under planned_y y x))
    → Passes planned_x planned_y x y (hearing_by None None sent.frame y) sent rest
passes planned_x planned_y x y sent behind rest is settled_x settled_y h stands sound_x sound_y =
    let after : End = hearing_by None None sent.frame y in
    let may = front-flies x y sent behind h.stands is in
    let at_ = at_rest y.machine settled_y.is_open (silent y.machine settled_y.is_silent) in
    let r = receives planned_x x y sent.frame sent.number sent.asks rest (placed_for x y sent.number sent.frame h.stands may) (below_given x y sent.number sent.frame h.stands may) at_.quiet.unpolled at_.quiet.unreplied sound_x in
    let c = counts x y sent behind is h.stands in
    let later = is_later y r.later sent c r.sender_is r.put_is in
    let poll : Poll = poll_after sent.frame y.machine.sender.poll in
    let again : List Sent = due_data poll r.later in
    let small = gave_many r.small (comes sent rest (under planned_y y x)) r.numberless sound_y in
    let one = after-goes small (sender_goes sent rest y r.later poll (record (under planned_y y x) { going = under_way y ++ r.small }) (repeats sent y r.later later c.few h.fit_y.ready at_) refl refl small.sound) in
    let other = after-goes r.onward (told-many again (received planned_x x y after rest r.small) (rw (ap length r.got_is) at (data-says poll r.later)) r.onward.sound) in
    let none_x = silent-due (record x { queue = rest }) settled_x.is_open h.fit_x.ready settled_x.is_silent in
    let none_y = silent-due y settled_y.is_open h.fit_y.ready settled_y.is_silent in
    let queue_x : under_way (record x { queue = rest }) ≡ rest = ap (λ (l : List Sent). rest ++ l) none_x ∙ append-nil rest in
    let queue_y : under_way after ≡ (under_way y ++ r.small) ++ again =
    ap (λ (l : List Sent). y.queue ++ l) r.due_is ∙ sym (append_assoc y.queue r.small again) ∙ ap (λ (l : List Sent). (l ++ r.small) ++ again) (sym (ap (λ (l : List Sent). y.queue ++ l) none_y ∙ append-nil y.queue)) in
    let acknowledged_is : acknowledged_by after ≡ sent.asks = (is_later y after sent c refl refl).acknowledged_is in
    let there : under planned_y after (record x { queue = rest }) ≡ record (under planned_y y x) { acknowledged = sent.asks; waits = is_waiting poll; going = (under_way y ++ r.small) ++ again; coming = rest } =
    rw (acknowledged_is, queue_x, queue_y) refl in
    let back : under planned_x (record x { queue = rest }) after ≡ record (received planned_x x y after rest r.small) { coming = (under_way y ++ r.small) ++ again } = rw (queue_x, queue_y) refl in
    let first = one.within in
    let second = other.within in
    let light = r.light in
    let weigh = ap weights queue_y ∙ weights-on (under_way y ++ r.small) again in
    let weigh' = weights-on (under_way y) r.small in
    let weigh_x = ap weights queue_x in
    let work_y = ap work_left there in
    let work_x = ap work_left back in
    record {
      holds = record {
        stands = stands;
        there = rw back other.sound;
        back = rw there one.sound;
        fit_x = record { fits = h.fit_x.fits; ready = h.fit_x.ready; unpolled = h.fit_x.unpolled };
        fit_y = heard_fit planned_y x y sent h.stands may h.fit_y;
      };
      falls = omega arith;
    }
