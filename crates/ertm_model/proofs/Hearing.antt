-- What an end hears keeps what holds of both.
use Rattle.std.proofs.Common.{ℕ, ◌≡◌, ◌+◌, ◌≤◌, ◌⊎◌, inl, inr, List, ◌∷◌, length, Option, Some, None, refl, sym, subst, arith}
use Rattle.ertm_frames.specs.Frames.{PlainFrame, information, supervisory}
use Rattle.ertm_frames.specs.Segments.{Segment}
use Rattle.ertm_model.specs.declared.reason.ErtmReason.{ErtmReason}
use Rattle.ertm_model.specs.declared.reason.ErtmReason.TheVariants.{RetryLimit}
use Rattle.ertm_model.specs.Value.{Kept, Ertm}
use Rattle.ertm_model.specs.Hearing.{place_in, asks_again, acknowledged, sender_after, sender_fault, receiver_fault, receiver_after, sdu_in, fault, or_else}
use Rattle.ertm_model.specs.Pair.{Sent, End, segment_in, listed, hearing_by, hearing}
use Rattle.ertm_model.specs.Order.{Way, WayBy, OnlyRetries, Stands}
use Rattle.ertm_model.proofs.Acknowledging.{acknowledges, selects-none, no-sender_fault}
use Rattle.ertm_model.proofs.Accepting.{PlaceIs, place-is, Accepted, stays, placed-on}

-- ---- the receiver

-- what a frame on its way does to the receiver that hears it
pub received :
    {window first next : ℕ} {unacked : List Kept} {fresh put : List Segment} {sdus : List (List ℕ)} {got : List Segment} {up : List (List ℕ)} {asking : List Sent} (frame : PlainFrame) (number asks : ℕ) (queue : List Sent) (m : Ertm)
    → 1 ≤ window → window ≤ m.agreed.receive_window → m.agreed.receive_window ≤ 63
    → Way window m.agreed.receive_mtu first next unacked fresh put sdus (record { frame = frame; number = number; asks = asks } ∷ queue) m.receiver.expected m.receiver.begun got up asking
    → Accepted window m.agreed.receive_mtu first next unacked fresh put sdus (record { frame = frame; number = number; asks = asks } ∷ queue) got up asking
    (receiver_fault frame m) (receiver_after frame m) (segment_in frame m) (listed (sdu_in frame m))
received (supervisory kind poll final req) number asks queue m some within most h = stays m.receiver (receiver_after (supervisory kind poll final req) m) refl refl h
received {window} {first} {next} {unacked} {fresh} {put} {sdus} {got} {up} {asking} (information tx final req sar total octets) number asks queue m some within most h =
    let may = h.flies.0 in
    let given = may.1 in
    let a_c = h.a_c in
    let in_window = h.sends.in_window in
    let place : PlaceIs number (length got) (place_in m tx) =
    rw (h.accepts.expected_is, may.0) (place-is window m.agreed.receive_window number (length got) within most may.2 (omega arith)) in
    placed-on tx req sar total final octets number asks queue m.receiver (place_in m tx) some place h

-- ---- both

-- a frame on its way does not close, but for want of tries
only_or : (first second : Option ErtmReason) → OnlyRetries first → second ≡ None → OnlyRetries (or_else first second)
only_or None second only none = inl none
only_or (Some cause) second only none = only

closing_stands : (x y : End) (cause : ErtmReason) (sent : Sent) → (Some cause ≡ None) ⊎ (Some cause ≡ Some RetryLimit) → Stands x y → Stands x (hearing_by None (Some cause) sent.frame y)
closing_stands x y cause sent (inl e) h = cc
closing_stands x y cause sent (inr e) h = record { meets = h.meets; met = h.met; there = h.there; back = h.back; only_x = h.only_x; only_y = inr e }

hearing_by_stands : (x y : End) (sent : Sent) (closed cause : Option ErtmReason) → OnlyRetries cause
    → Accepted x.machine.agreed.send_window y.machine.agreed.receive_mtu x.machine.sender.first x.machine.sender.next x.machine.sender.unacked x.machine.sender.fresh x.put x.sdus x.queue y.got y.up y.queue
    (receiver_fault sent.frame y.machine) (receiver_after sent.frame y.machine) (segment_in sent.frame y.machine) (listed (sdu_in sent.frame y.machine))
    → WayBy y.machine.agreed.send_window x.machine.agreed.receive_mtu (sender_after sent.frame y.machine.sender) y.put y.sdus y.queue x.machine.receiver x.got x.up x.queue
    → Stands x y → Stands x (hearing_by closed cause sent.frame y)
hearing_by_stands x y sent (Some closed) cause only there back h = h
hearing_by_stands x y sent None (Some cause) only there back h = closing_stands x y cause sent only h
hearing_by_stands x y sent None None only there back h = record { meets = h.meets; met = h.met; there = there.way; back = back; only_x = h.only_x; only_y = h.only_y }

-- the front frame is handed over and stays
pub hearing-stands : (x y : End) (sent : Sent) (queue : List Sent) → x.queue ≡ sent ∷ queue → Stands x y → Stands x (hearing sent.frame y)
hearing-stands x y sent queue is h =
    let meets = h.meets in
    let met = h.met in
    let there : WayBy x.machine.agreed.send_window y.machine.agreed.receive_mtu x.machine.sender x.put x.sdus (sent ∷ queue) y.machine.receiver y.got y.up y.queue =
    subst (λ (l : List Sent). WayBy x.machine.agreed.send_window y.machine.agreed.receive_mtu x.machine.sender x.put x.sdus l y.machine.receiver y.got y.up y.queue) is h.there in
    let back : WayBy y.machine.agreed.send_window x.machine.agreed.receive_mtu y.machine.sender y.put y.sdus y.queue x.machine.receiver x.got x.up (sent ∷ queue) =
    subst (λ (l : List Sent). WayBy y.machine.agreed.send_window x.machine.agreed.receive_mtu y.machine.sender y.put y.sdus y.queue x.machine.receiver x.got x.up l) is h.back in
    let takes = received sent.frame sent.number sent.asks queue y.machine meets.some meets.within meets.most there in
    let acks = acknowledges sent queue (acknowledged sent.frame y.machine.sender) (let e = met.within in let f = met.most in omega arith) refl back in
    let few = no-sender_fault y.machine.agreed.tries sent.frame y.machine.sender acks.few
    (selects-none x.machine.agreed.send_window x.put (there.a + length x.machine.sender.unacked) (length y.got) sent.number sent.frame there.flies.0) in
    hearing_by_stands x y sent y.machine.closed (fault sent.frame y.machine)
    (only_or (sender_fault y.machine.agreed.tries sent.frame y.machine.sender) (receiver_fault sent.frame y.machine) few takes.harmless)
    (subst (λ (l : List Sent). Accepted x.machine.agreed.send_window y.machine.agreed.receive_mtu x.machine.sender.first x.machine.sender.next x.machine.sender.unacked x.machine.sender.fresh x.put x.sdus l y.got y.up y.queue
    (receiver_fault sent.frame y.machine) (receiver_after sent.frame y.machine) (segment_in sent.frame y.machine) (listed (sdu_in sent.frame y.machine))) (sym is) takes)
    (subst (λ (l : List Sent). WayBy y.machine.agreed.send_window x.machine.agreed.receive_mtu (sender_after sent.frame y.machine.sender) y.put y.sdus y.queue x.machine.receiver x.got x.up l) (sym is)
    (acks.after (asks_again y.machine.sender.poll sent.frame)))
    h
