-- What holds of two ends, as a reader would say it.
use Rattle.std.proofs.Common.{ℕ, ◌≡◌, ◌≢◌, ◌+◌, ◌-◌, ◌%◌, ◌<◌, ◌≤◌, inl, inr, Bool, List, [], ◌∷◌, ◌++◌, length, drop, Option, Some, None, refl, ap, sym, ◌∙◌, subst, arith, append-nil, length-drop}
use Rattle.std.specs.List.{AllByRecursion}
use Rattle.ertm_frames.specs.Frames.{PlainFrame, information, supervisory}
use Rattle.ertm_frames.specs.Segments.{Segment}
use Rattle.ertm_frames.specs.Joining.{Joining, At, joined, ended}
use Rattle.ertm_frames.proofs.Longest.{ended-append}
use Rattle.ertm_model.specs.declared.reason.ErtmReason.{ErtmReason}
use Rattle.ertm_model.specs.Value.{Rejects, Receiver}
use Rattle.ertm_model.specs.Hearing.{Place, Expected, Ahead, Other, place_in, placed_after, segment_of, acknowledged, receiver_after, fault}
use Rattle.ertm_model.specs.Pair.{Sent, End, acknowledged_by, given_by, placed_segment, hearing_by, hearing, all_turned, new_pair}
use Rattle.ertm_model.specs.Order.{MayFly, reached, Flies, Rises, WayBy, Stands, IsBelow, IsInOrder, InOrder, StandingIsInOrder, AlwaysInOrder}
use Rattle.ertm_model.proofs.Queues.{reached-up}
use Rattle.ertm_model.proofs.Sending.{put-length}
use Rattle.ertm_model.proofs.Acknowledging.{acknowledges}
use Rattle.ertm_model.proofs.Accepting.{PlaceIs, at, ahead, behind, place-is}
use Rattle.ertm_model.proofs.Standing.{all-stand, new-stands, swapped}

-- ---- the frames in front

reach_after : ℕ → List Sent → ℕ
reach_after reach [] = reach
reach_after reach (sent ∷ queue) = reach_after (reached reach sent.number sent.frame) queue

reach_least : (reach : ℕ) (front : List Sent) → reach ≤ reach_after reach front
unfolding reach_after
reach_least reach [] = omega arith
reach_least reach (sent ∷ front) = let e = reach_least (reached reach sent.number sent.frame) front in let f = reached-up reach sent.number sent.frame in omega arith

flies_at : (window : ℕ) (put : List Segment) (given reach : ℕ) (front : List Sent) (sent : Sent) (rest : List Sent)
    → Flies window put given reach (front ++ sent ∷ rest) → MayFly window put given (reach_after reach front) sent.number sent.frame
unfolding reach_after
flies_at window put given reach [] sent rest h = h.0
flies_at window put given reach (first ∷ front) sent rest h = flies_at window put given (reached reach first.number first.frame) front sent rest h.1

is_below : (bound reach number : ℕ) (frame : PlainFrame) → reached reach number frame ≤ bound → IsBelow bound number frame
is_below bound reach number (information tx final req sar total octets) h = omega arith
is_below bound reach number (supervisory kind poll final req) h = tt

all_below : (bound reach : ℕ) (front : List Sent) → reach_after reach front ≤ bound → AllByRecursion (λ (sent : Sent). IsBelow bound sent.number sent.frame) front
unfolding reach_after
all_below bound reach [] h = tt
all_below bound reach (sent ∷ front) h =
    let e = reach_least (reached reach sent.number sent.frame) front in
    (is_below bound reach sent.number sent.frame (omega arith), all_below bound (reached reach sent.number sent.frame) front h)

in_order : (window : ℕ) (put : List Segment) (given c : ℕ) (front : List Sent) (number : ℕ) (frame : PlainFrame)
    → MayFly window put given (reach_after c front) number frame → IsInOrder window put given c front number frame
in_order window put given c front number (information tx final req sar total octets) h =
    let low = reach_least c front in
    let far = h.2 in
    (h.0, h.1, omega arith, all_below (number + window) c front h.2, h.3)
in_order window put given c front number (supervisory kind poll final req) h = h

-- ---- what is accepted

abbrev Takes : (number c : ℕ) (got now : List Segment) (segment : Segment) → Type 0
Takes number c got now segment = (number ≡ c → now ≡ got ++ segment ∷ []) × (number ≢ c → now ≡ got)

placed_takes : (place : Place) (number : ℕ) (got : List Segment) (segment : Segment) → PlaceIs number (length got) place → Takes number (length got) got (got ++ placed_segment place segment) segment
placed_takes Expected number got segment (at is e) = ((λ f. refl), (λ f. absurd (f is)))
placed_takes Expected number got segment (ahead is (inl e)) = cc
placed_takes Expected number got segment (ahead is (inr e)) = cc
placed_takes Expected number got segment (behind is e) = cc
placed_takes Ahead number got segment (at is e) = cc
placed_takes Ahead number got segment (ahead is e) = ((λ f. absurd (omega arith)), (λ f. append-nil got))
placed_takes Ahead number got segment (behind is e) = cc
placed_takes Other number got segment (at is e) = cc
placed_takes Other number got segment (ahead is e) = ((λ f. absurd (omega arith)), (λ f. append-nil got))
placed_takes Other number got segment (behind is e) = ((λ f. absurd (omega arith)), (λ f. append-nil got))

taken_by : (y : End) (closed cause : Option ErtmReason) (number tx req sar total : ℕ) (final : Bool) (octets : List ℕ) → y.machine.closed ≡ closed → PlaceIs number (length y.got) (place_in y.machine tx)
    → (hearing_by closed cause (information tx final req sar total octets) y).machine.closed ≡ None
    → Takes number (length y.got) y.got (hearing_by closed cause (information tx final req sar total octets) y).got (segment_of sar total octets)
taken_by y (Some closed) cause number tx req sar total final octets is place open_ = cc
taken_by y None (Some cause) number tx req sar total final octets is place open_ = cc
taken_by y None None number tx req sar total final octets is place open_ = placed_takes (place_in y.machine tx) number y.got (segment_of sar total octets) place

-- a frame at the front has its place
pub place-at : (x y : End) (number tx req sar total : ℕ) (final : Bool) (octets : List ℕ) (h : Stands x y)
    → MayFly x.machine.agreed.send_window x.put (h.there.a + length x.machine.sender.unacked) (length y.got) number (information tx final req sar total octets) → PlaceIs number (length y.got) (place_in y.machine tx)
place-at x y number tx req sar total final octets h may =
    let given = may.1 in
    let a_c = h.there.a_c in
    let in_window = h.there.sends.in_window in
    rw (h.there.accepts.expected_is, may.0) (place-is x.machine.agreed.send_window y.machine.agreed.receive_window number (length y.got) h.meets.within h.meets.most may.2 (omega arith))

pub front-flies : (x y : End) (sent : Sent) (rest : List Sent) (h : Stands x y) → x.queue ≡ sent ∷ rest
    → MayFly x.machine.agreed.send_window x.put (h.there.a + length x.machine.sender.unacked) (length y.got) sent.number sent.frame
front-flies x y sent rest h is =
    let flies : Flies x.machine.agreed.send_window x.put (h.there.a + length x.machine.sender.unacked) (length y.got) (sent ∷ rest) =
    subst (λ (l : List Sent). Flies x.machine.agreed.send_window x.put (h.there.a + length x.machine.sender.unacked) (length y.got) l) is h.there.flies in
    flies.0

taken_at : (x y : End) (frame : PlainFrame) (number tx req sar total : ℕ) (final : Bool) (octets : List ℕ) (h : Stands x y) → frame ≡ information tx final req sar total octets
    → MayFly x.machine.agreed.send_window x.put (h.there.a + length x.machine.sender.unacked) (length y.got) number frame
    → (hearing frame y).machine.closed ≡ None → Takes number (length y.got) y.got (hearing frame y).got (segment_of sar total octets)
taken_at x y frame number tx req sar total final octets h is may open_ =
    let i = information tx final req sar total octets in
    let may_i : MayFly x.machine.agreed.send_window x.put (h.there.a + length x.machine.sender.unacked) (length y.got) number i =
    subst (λ (f : PlainFrame). MayFly x.machine.agreed.send_window x.put (h.there.a + length x.machine.sender.unacked) (length y.got) number f) is may in
    let open_i : (hearing i y).machine.closed ≡ None = subst (λ (f : PlainFrame). (hearing f y).machine.closed ≡ None) is open_ in
    subst (λ (f : PlainFrame). Takes number (length y.got) y.got (hearing f y).got (segment_of sar total octets)) (sym is)
    (taken_by y y.machine.closed (fault i y.machine) number tx req sar total final octets refl (place-at x y number tx req sar total final octets h may_i) open_i)

-- ---- a repeat

placed_reply : (place : Place) (number c : ℕ) (segment : Segment) (r : Receiver) → PlaceIs number c place → number < c → r.reply ≢ Rejects → (placed_after place segment r).reply ≢ Rejects
placed_reply Expected number c segment r place less not = λ e. cc
placed_reply Ahead number c segment r (at is e) less not = cc
placed_reply Ahead number c segment r (ahead is e) less not = absurd (omega arith)
placed_reply Ahead number c segment r (behind is e) less not = cc
placed_reply Other number c segment r place less not = not

reply_after : (x y : End) (frame : PlainFrame) (number : ℕ) (h : Stands x y) → MayFly x.machine.agreed.send_window x.put (h.there.a + length x.machine.sender.unacked) (length y.got) number frame
    → number < length y.got → y.machine.receiver.reply ≢ Rejects → (receiver_after frame y.machine).reply ≢ Rejects
reply_after x y (supervisory kind poll final req) number h may less not = not
reply_after x y (information tx final req sar total octets) number h may less not =
    placed_reply (place_in y.machine tx) number (length y.got) (segment_of sar total octets) y.machine.receiver (place-at x y number tx req sar total final octets h may) less not

repeats_by : (y : End) (frame : PlainFrame) (closed cause : Option ErtmReason) → y.machine.receiver.reply ≢ Rejects → (receiver_after frame y.machine).reply ≢ Rejects → (hearing_by closed cause frame y).machine.receiver.reply ≢ Rejects
repeats_by y frame (Some closed) cause before after = before
repeats_by y frame None (Some cause) before after = before
repeats_by y frame None None before after = after

-- ---- what is acknowledged

acknowledged_at : (x : End) (frame : PlainFrame) (closed cause : Option ErtmReason) (n : ℕ) → x.machine.closed ≡ closed
    → length x.put - (length (drop (acknowledged frame x.machine.sender) x.machine.sender.unacked) + length x.machine.sender.fresh) ≡ n
    → (hearing_by closed cause frame x).machine.closed ≡ None → acknowledged_by (hearing_by closed cause frame x) ≡ n
acknowledged_at x frame (Some closed) cause n is e open_ = cc
acknowledged_at x frame None (Some cause) n is e open_ = cc
acknowledged_at x frame None None n is e open_ = e

acknowledged_here : (x y : End) (sent : Sent) (rest : List Sent) → Stands x y → y.queue ≡ sent ∷ rest → (hearing sent.frame x).machine.closed ≡ None → acknowledged_by (hearing sent.frame x) ≡ sent.asks
acknowledged_here x y sent rest h is open_ =
    let there : WayBy x.machine.agreed.send_window y.machine.agreed.receive_mtu x.machine.sender x.put x.sdus x.queue y.machine.receiver y.got y.up (sent ∷ rest) =
    subst (λ (l : List Sent). WayBy x.machine.agreed.send_window y.machine.agreed.receive_mtu x.machine.sender x.put x.sdus x.queue y.machine.receiver y.got y.up l) is h.there in
    let acks = acknowledges sent rest (acknowledged sent.frame x.machine.sender) (let e = h.meets.within in let f = h.meets.most in omega arith) refl there in
    let few = acks.few in
    let asks = acks.is in
    let long = put-length there.sends in
    let fewer = length-drop (acknowledged sent.frame x.machine.sender) x.machine.sender.unacked in
    acknowledged_at x sent.frame x.machine.closed (fault sent.frame x.machine) sent.asks refl (omega arith) open_

-- ---- all of it

way_in_order : (x y : End) → Stands x y → InOrder x y
way_in_order x y h =
    let there = h.there in
    let long = put-length there.sends in
    let a_c = there.a_c in
    let c_n = there.c_n in
    let in_window = there.sends.in_window in
    let a_is : there.a ≡ acknowledged_by x = omega arith in
    let n_is : there.a + length x.machine.sender.unacked ≡ given_by x = omega arith in
    record {
      a_c = omega arith;
      c_n = omega arith;
      n_w = omega arith;
      first_is = there.sends.first_is ∙ ap (λ (n : ℕ). n % 64) a_is;
      used = omega arith;
      expected_is = there.accepts.expected_is;
      rises = subst (λ (n : ℕ). Rises n (length y.got) y.queue) a_is there.rises;
      flies = λ front sent rest is.
          in_order x.machine.agreed.send_window x.put (given_by x) (length y.got) front sent.number sent.frame
          (subst (λ (n : ℕ). MayFly x.machine.agreed.send_window x.put n (reach_after (length y.got) front) sent.number sent.frame) n_is
          (flies_at x.machine.agreed.send_window x.put (there.a + length x.machine.sender.unacked) (length y.got) front sent rest
          (subst (λ (l : List Sent). Flies x.machine.agreed.send_window x.put (there.a + length x.machine.sender.unacked) (length y.got) l) is there.flies)));
      left = there.accepts.left;
      accepted = there.accepts.put_is;
      left_sdus = ended (At y.machine.receiver.begun) there.accepts.left;
      pipe =
          sym there.holds.sdus_are ∙ ap (λ (l : List Segment). ended (At None) l) there.accepts.put_is ∙ ended-append (At None) y.got there.accepts.left
          ∙ ap (λ (l : List (List ℕ)). l ++ ended (joined (At None) y.got) there.accepts.left) there.accepts.up_is
          ∙ ap (λ (j : Joining). y.up ++ ended j there.accepts.left) there.accepts.joins;
      taken = λ sent rest tx req sar total final octets is frame_is open_.
          taken_at x y sent.frame sent.number tx req sar total final octets h frame_is (front-flies x y sent rest h is) open_;
      repeats = λ sent rest is less not.
          repeats_by y sent.frame y.machine.closed (fault sent.frame y.machine) not (reply_after x y sent.frame sent.number h (front-flies x y sent rest h is) less not);
      acknowledges = λ sent rest is open_. acknowledged_here x y sent rest h is open_;
      only = h.only_x;
    }

pub standing-is_in_order : StandingIsInOrder
standing-is_in_order p h = (way_in_order p.a p.b h, way_in_order p.b p.a (swapped h))

pub always-in_order : AlwaysInOrder
always-in_order a b turns meets met may = standing-is_in_order (all_turned turns (new_pair a b)) (all-stand turns (new_pair a b) may (new-stands a b meets met))
