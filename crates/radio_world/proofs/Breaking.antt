-- What moves between a host and the radio, where it broke off.
use Rattle.std.proofs.Common.{◌≡◌, ℕ, List, [], ◌∷◌, ◌++◌, length, Option, inl, inr, refl, sym, ap, ap₂, subst, ◌∙◌, arith}
use Rattle.std.proofs.lemmas.List.{append-nil}
use Rattle.bt_base.specs.Streams.{gained, GainedFront}
use Rattle.bt_base.proofs.PortLaws.{front_none}
use Rattle.h4_framing.specs.Packets.{Packet, IsPacket}
use Rattle.push_terms.specs.declared.word.Side.{Side}
use Rattle.capture.specs.declared.flow.Flow.TheVariants.{Into}
use Rattle.capture.specs.Entries.{Entry, Moved, entry_octets, capture_octets, IsEntry}
use Rattle.radio_model.specs.Radio.{after_answer}
use Rattle.room_laws.specs.world_model.specs.Machines.{Upper}
use Rattle.room_laws.specs.world_model.specs.Stations.{Order}
use Rattle.radio_world.specs.Hosts.{Asking, answering, Coming, coming_packet, hears_coming, JoinAnswers, acl_limit, AreSent}
use Rattle.radio_world.specs.Leaving.{Medium, in_radio, after_all, after_leaving, leaving_entry, leaving_entries, BreaksOff}
use Rattle.radio_world.specs.Halves.{Half, Leaving, Entering, ComesFirst, half_of, Goes}
use Rattle.radio_world.specs.Breaking.{IsLeft, IsOf, GoesBroken}
use Rattle.radio_world.proofs.Entering.{entering_entry}
use Rattle.radio_world.proofs.Moving.{goes_none, goes_then}
use Rattle.radio_world.proofs.Crowding.{goes_some}
use Rattle.radio_world.proofs.Spelled.{each_first, each_last, each_of_same, packet_is_entry, sent_are_entries}

-- the orders whose entries these are
record AreOrders (side : Side) (orders : List Order) (whole : List Entry) (due : Entry) : Type 0 where
  done : List Order
  order : Order
  more : List Order
  orders_are : orders ≡ done ++ order ∷ more
  whole_is : leaving_entries side done ≡ whole
  due_is : leaving_entry side order ≡ due

orders_of : (side : Side) (orders : List Order) (whole : List Entry) (due : Entry) (left : List Entry) → leaving_entries side orders ≡ whole ++ due ∷ left → AreOrders side orders whole due
orders_of side [] [] due left are = absurd cc
orders_of side [] (entry ∷ whole) due left are = absurd cc
orders_of side (order ∷ orders) [] due left are =
    let first : leaving_entry side order ≡ due = cc in
    record { done = []; order = order; more = orders; orders_are = refl; whole_is = refl; due_is = first }
orders_of side (order ∷ orders) (entry ∷ whole) due left are =
    let first : leaving_entry side order ≡ entry = cc in
    let later : leaving_entries side orders ≡ whole ++ due ∷ left = cc in
    let behind = orders_of side orders whole due left later in
    record {
      done = order ∷ behind.done;
      order = behind.order;
      more = behind.more;
      orders_are = ap (λ (os : List Order). order ∷ os) behind.orders_are;
      whole_is = ap₂ (λ (e : Entry) (es : List Entry). e ∷ es) first behind.whole_is;
      due_is = behind.due_is;
    }

one_entry : (entry : Entry) → entry_octets entry ≡ capture_octets (entry ∷ [])
one_entry entry = sym (append-nil (entry_octets entry))

module _ {S G P X : Type 0} (U : Upper S G) (side : Side) (Answers : P → List G → P → Type 0) (Lacked : P → P → Type 0) (station : X → P → Asking S G) (joins : JoinAnswers Answers) where
  abbrev Off : Medium → Asking S G → P → P → Option (List ℕ) → Option (List ℕ) → Type 0
  Off medium host port port' trace trace' = GoesBroken U side Answers Lacked station medium host port port' trace trace'

  -- nothing more was begun
  pub goes_no_more : (medium medium' : Medium) (host host' : Asking S G) (port port' port'' : P) (trace trace' : Option (List ℕ)) → Goes U side Answers medium medium' host host' port port' trace trace' → IsOf station host' port' → IsLeft Lacked port' port'' → Off medium host port port'' trace trace'
  goes_no_more medium medium' host host' port port' port'' trace trace' goes own left = record {
    medium_then = medium';
    host_then = host';
    port_then = port';
    trace_then = trace';
    goes = goes;
    own = own;
    next = [];
    few = omega arith;
    may = λ rest. (half_of medium' host' rest, refl);
    front = front_none trace' [];
    each = tt;
    left = left;
  }

  -- a packet out of it was being written
  pub leaving_broken : (medium : Medium) (host : Asking S G) (port : P) (trace trace' : Option (List ℕ)) → IsOf station host port → BreaksOff (leaving_entries side host.out) trace trace' → Off medium host port port trace trace'
  leaving_broken medium host port trace trace' own broken =
      let orders = orders_of side host.out broken.whole broken.due broken.left broken.entries_are in
      let after : Medium = after_all side orders.done medium in
      let offered : Asking S G = record host { out = orders.order ∷ orders.more } in
      record {
        medium_then = after;
        host_then = offered;
        port_then = port;
        trace_then = gained trace (capture_octets broken.whole);
        goes = goes_some U side Answers orders.done (orders.order ∷ orders.more) medium host port port trace (gained trace (capture_octets broken.whole)) joins orders.orders_are refl
            (ap (λ (es : List Entry). gained trace (capture_octets es)) (sym orders.whole_is)) (each_of_same _ broken.whole orders.whole_is (each_first broken.whole (broken.due ∷ []) broken.each));
        own = own;
        next = Leaving orders.order ∷ [];
        few = omega arith;
        may = λ rest.
            let left : Half S = record { medium = after_leaving side orders.order after; station = record (answering rest offered) { out = orders.more } } in
            (left, (left, (orders.more, refl, refl), refl));
        front = subst (λ (xs : List ℕ). GainedFront (gained trace (capture_octets broken.whole)) trace' xs) (ap entry_octets (sym orders.due_is) ∙ one_entry (leaving_entry side orders.order)) broken.front;
        each = (subst IsEntry (sym orders.due_is) (each_last broken.whole broken.due broken.each), tt);
        left = inl refl;
      }

  -- all packets moved, and it lacked memory then
  pub taking_broken : (medium : Medium) (host : Asking S G) (port port' : P) (trace trace' : Option (List ℕ)) → IsOf station host port → trace' ≡ gained trace (capture_octets (leaving_entries side host.out)) → AreSent side host.out → Lacked port port' → Off medium host port port' trace trace'
  taking_broken medium host port port' trace trace' own written sent lacked =
      goes_no_more medium (after_all side host.out medium) host (record host { out = [] }) port port port' trace trace'
      (goes_some U side Answers host.out [] medium host port port trace trace' joins (sym (append-nil host.out)) refl written (sent_are_entries side host.out sent)) own (inr lacked)

  -- a packet into it was being written, or it lacked memory as it heard it
  pub entering_broken :
      (coming : Coming) (p : Packet) (medium : Medium) (host : Asking S G) (port port' : P) (trace trace' : Option (List ℕ)) → IsOf station host port → ComesFirst side coming medium.radio → p ≡ coming_packet side coming
      → IsPacket acl_limit (coming_packet side coming) → GainedFront trace trace' (entry_octets (Moved side Into p)) → IsLeft Lacked port port' → Off medium host port port' trace trace'
  entering_broken coming p medium host port port' trace trace' own comes same is front left = record {
    medium_then = medium;
    host_then = host;
    port_then = port;
    trace_then = trace;
    goes = goes_none U side Answers medium host port trace joins;
    own = own;
    next = Entering coming ∷ [];
    few = let one = ap (λ (es : List Entry). length es) (entering_entry side coming) in omega arith;
    may = λ rest.
        let heard : Half S = record { medium = in_radio (after_answer side medium.radio) medium; station = hears_coming U side coming [] (answering rest host) } in
        (heard, (heard, (comes, [], refl), refl));
    front = subst (λ (xs : List ℕ). GainedFront trace trace' xs)
        (ap (λ (q : Packet). entry_octets (Moved side Into q)) same ∙ one_entry (Moved side Into (coming_packet side coming)) ∙ ap capture_octets (sym (entering_entry side coming))) front;
    each = each_of_same _ (Moved side Into (coming_packet side coming) ∷ []) (entering_entry side coming) (packet_is_entry side Into (coming_packet side coming) is, tt);
    left = left;
  }

  -- and behind what happened before
  pub goes_broken_then :
      (medium medium' : Medium) (host host' : Asking S G) (port port' port'' : P) (trace trace' trace'' : Option (List ℕ)) → Goes U side Answers medium medium' host host' port port' trace trace' → Off medium' host' port' port'' trace' trace''
      → Off medium host port port'' trace trace''
  goes_broken_then medium medium' host host' port port' port'' trace trace' trace'' goes broken = record {
    medium_then = broken.medium_then;
    host_then = broken.host_then;
    port_then = broken.port_then;
    trace_then = broken.trace_then;
    goes = goes_then U side Answers medium medium' broken.medium_then host host' broken.host_then port port' broken.port_then trace trace' broken.trace_then joins goes broken.goes;
    own = broken.own;
    next = broken.next;
    few = broken.few;
    may = broken.may;
    front = broken.front;
    each = broken.each;
    left = broken.left;
  }
