-- Packets that move out of a host, one after the other.
use Rattle.std.proofs.Common.{◌≡◌, ℕ, ◌-◌, List, [], ◌∷◌, ◌++◌, length, take, drop, Option, refl, sym, ap, subst, ◌∙◌, append_assoc, arith}
use Rattle.std.proofs.Math.Seq.{drop-append_seam}
use Rattle.std.proofs.lemmas.List.{append-nil, take_all, length-drop}
use Rattle.std.specs.List.{AllByRecursion}
use Rattle.bt_base.specs.Streams.{gained, GainedFront}
use Rattle.bt_base.proofs.PortLaws.{gained-gained, gained-nil}
use Rattle.h4_framing.specs.Packets.{Packet, Command, Acl, Sync, Event, packet, spelling}
use Rattle.h4_framing.specs.declared.leading.Leading.{Leading}
use Rattle.h4_framing.specs.declared.leading.Leading.TheVariants.{Whole, Partial, Refused}
use Rattle.h4_framing.specs.declared.unit.Unit.{Unit}
use Rattle.h4_framing.specs.Leading.{IsLeading}
use Rattle.h4_framing.specs.Laws.{IsWholeOf}
use Rattle.h4_framing.proofs.ReadingLemmas.{written_is_read}
use Rattle.push_terms.specs.declared.word.Side.{Side}
use Rattle.push_terms.specs.declared.word.Side.TheVariants.{A, B}
use Rattle.capture.specs.declared.flow.Flow.TheVariants.{Out}
use Rattle.capture.specs.Entries.{Entry, Moved, IsEntry, entry_octets, capture_octets}
use Rattle.capture.proofs.MoreLaws.{octets-in_parts}
use Rattle.radio_model.specs.Radio.{Radio, after_packet}
use Rattle.room_laws.specs.world_model.specs.Stations.{Order, order_packet}
use Rattle.room_laws.specs.world_model.specs.Worlds.{after_order}
use Rattle.room_laws.specs.turn_laws.proofs.Spelling.{orders_are_spelled}
use Rattle.radio_world.specs.Hosts.{IsSent, AreSent, order_octets, acl_limit}
use Rattle.radio_world.specs.Leaving.{Medium, in_radio, noted, after_all, after_leaving, leaving_entry, leaving_entries, BreaksOff}
use Rattle.radio_world.specs.Shortages.{WantsRoom, Overflows}
use Rattle.radio_world.proofs.Spelled.{AreEntries, packet_is_entry, each_of_both, each_then}

entries_then : (side : Side) (xs ys : List Order) → leaving_entries side (xs ++ ys) ≡ leaving_entries side xs ++ leaving_entries side ys
entries_then side [] ys = refl
entries_then side (x ∷ xs) ys = ap (λ es. leaving_entry side x ∷ es) (entries_then side xs ys)

after_both : (side : Side) (xs ys : List Order) (medium : Medium) → after_all side (xs ++ ys) medium ≡ after_all side ys (after_all side xs medium)
after_both side [] ys medium = refl
after_both side (x ∷ xs) ys medium = after_both side xs ys (after_leaving side x medium)

-- So many orders were taken: the rest of the octets is the rest of the orders.
pub record IsTaken (side : Side) (orders : List Order) (rest : List ℕ) (old now : Medium) (trace trace' : Option (List ℕ)) : Type 0 where
  pub done : List Order
  pub left : List Order
  pub orders_are : orders ≡ done ++ left
  pub sent : AreSent side left
  pub each : AllByRecursion IsEntry (leaving_entries side done)
  pub octets : rest ≡ order_octets side left
  pub medium : now ≡ after_all side done old
  pub written : trace' ≡ gained trace (capture_octets (leaving_entries side done))

pub taken_first : (side : Side) (orders : List Order) (octets : List ℕ) (medium : Medium) (trace : Option (List ℕ)) → AreSent side orders → octets ≡ order_octets side orders → IsTaken side orders octets medium medium trace trace
taken_first side orders octets medium trace sent spelled = record {
  done = [];
  left = orders;
  orders_are = refl;
  sent = sent;
  each = tt;
  octets = spelled;
  medium = refl;
  written = sym (gained-nil trace);
}

-- ---- the packet that stands first

record IsFirst (side : Side) (left : List Order) (rest : List ℕ) (unit : Unit) (n : ℕ) : Type 0 where
  order : Order
  more : List Order
  left_is : left ≡ order ∷ more
  packet_is : packet unit ≡ order_packet side order
  handle : IsSent side order
  sent : AreSent side more
  behind : drop n rest ≡ order_octets side more

first_read : (side : Side) (left : List Order) (rest : List ℕ) (unit : Unit) (n : ℕ) → AreSent side left → rest ≡ order_octets side left → IsLeading acl_limit rest (Whole unit n) → IsFirst side left rest unit n
first_read side [] rest unit n sent spelled leading = let none : length rest ≡ 0 = ap length spelled in let some = leading.1 in let fits = leading.2 in absurd (omega arith)
first_read side (order ∷ more) rest unit n sent spelled leading =
    let read : IsWholeOf (order_packet side order) (Whole unit n) = written_is_read acl_limit (order_packet side order) (order_octets side more) (Whole unit n) sent.0.packet (subst (λ xs. IsLeading acl_limit xs (Whole unit n)) spelled leading) in
    record {
      order = order;
      more = more;
      left_is = refl;
      packet_is = read.0;
      handle = sent.0;
      sent = sent.1;
      behind = ap (drop n) spelled ∙ ap (λ k. drop k (spelling (order_packet side order) ++ order_octets side more)) read.1 ∙ drop-append_seam (spelling (order_packet side order)) (order_octets side more);
    }

no_whole : (p : Packet) (found : Leading) → ((unit : Unit) (n : ℕ) → found ≡ Whole unit n → ⊥) → IsWholeOf p found → ⊥
no_whole p (Whole unit n) none whole = none unit n refl
no_whole p Partial none whole = whole
no_whole p (Refused refusal place) none whole = whole

none_left : (side : Side) (left : List Order) (rest : List ℕ) (found : Leading) → AreSent side left → rest ≡ order_octets side left → IsLeading acl_limit rest found → ((unit : Unit) (n : ℕ) → found ≡ Whole unit n → ⊥) → left ≡ []
none_left side [] rest found sent spelled leading none = refl
none_left side (order ∷ more) rest found sent spelled leading none =
    absurd (no_whole (order_packet side order) found none (written_is_read acl_limit (order_packet side order) (order_octets side more) found sent.0.packet (subst (λ xs. IsLeading acl_limit xs found) spelled leading)))

-- ---- one order more

one_more : (side : Side) (done : List Order) (order : Order) → AreEntries (leaving_entries side done) → IsSent side order → AreEntries (leaving_entries side (done ++ order ∷ []))
one_more side done order each sent =
    each_then (leaving_entries side done) (leaving_entry side order ∷ []) _ (entries_then side done (order ∷ [])) each (packet_is_entry side Out (order_packet side order) sent.packet, tt)

one_entry : (entry : Entry) → capture_octets (entry ∷ []) ≡ entry_octets entry
one_entry entry = append-nil (entry_octets entry)

written_more : (side : Side) (done : List Order) (order : Order) (octets : List ℕ) (trace trace' trace'' : Option (List ℕ)) → octets ≡ entry_octets (leaving_entry side order)
    → trace' ≡ gained trace (capture_octets (leaving_entries side done)) → trace'' ≡ gained trace' octets → trace'' ≡ gained trace (capture_octets (leaving_entries side (done ++ order ∷ [])))
written_more side done order octets trace trace' trace'' are before more =
    more ∙ ap (λ t. gained t octets) before ∙ gained-gained trace (capture_octets (leaving_entries side done)) octets
    ∙ ap (λ xs. gained trace (capture_octets (leaving_entries side done) ++ xs)) (are ∙ sym (one_entry (leaving_entry side order)))
    ∙ ap (gained trace) (sym (octets-in_parts (leaving_entries side done) (leaving_entry side order ∷ [])))
    ∙ ap (λ es. gained trace (capture_octets es)) (sym (entries_then side done (order ∷ [])))

pub noted_radio : (side : Side) (medium : Medium) → (noted side medium).radio ≡ medium.radio
noted_radio A medium = refl
noted_radio B medium = refl

moved_octets : (side : Side) (p q : Packet) → p ≡ q → entry_octets (Moved side Out p) ≡ entry_octets (Moved side Out q)
moved_octets side p q same = ap (λ r. entry_octets (Moved side Out r)) same

pub taken_more :
    (side : Side) (orders : List Order) (rest rest' : List ℕ) (unit : Unit) (n : ℕ) (old now now' : Medium) (trace trace' trace'' : Option (List ℕ))
    → IsTaken side orders rest old now trace trace' → IsLeading acl_limit rest (Whole unit n) → now' ≡ noted side (in_radio (after_packet side (packet unit) now.radio) now)
    → trace'' ≡ gained trace' (entry_octets (Moved side Out (packet unit))) → rest' ≡ drop n rest → IsTaken side orders rest' old now' trace trace''
taken_more side orders rest rest' unit n old now now' trace trace' trace'' taken leading after written behind =
    let first = first_read side taken.left rest unit n taken.sent taken.octets leading in
    let radio : after_packet side (packet unit) now.radio ≡ after_order side first.order now.radio = ap (λ p. after_packet side p now.radio) first.packet_is ∙ orders_are_spelled side first.order now.radio first.handle.handle in
    record {
      done = taken.done ++ first.order ∷ [];
      left = first.more;
      orders_are = taken.orders_are ∙ ap (λ os. taken.done ++ os) first.left_is ∙ sym (append_assoc taken.done (first.order ∷ []) first.more);
      sent = first.sent;
      each = one_more side taken.done first.order taken.each first.handle;
      octets = behind ∙ first.behind;
      medium = after ∙ ap (λ r. noted side (in_radio r now)) radio ∙ ap (after_leaving side first.order) taken.medium ∙ sym (after_both side taken.done (first.order ∷ []) old);
      written = written_more side taken.done first.order (entry_octets (Moved side Out (packet unit))) trace trace' trace'' (moved_octets side (packet unit) (order_packet side first.order) first.packet_is) taken.written written;
    }

-- the rest of a slice, as it is cut off
pub cut_off : (rest : List ℕ) (n : ℕ) → take (length rest - n) (drop n rest) ≡ drop n rest
cut_off rest n = take_all (length rest - n) (drop n rest) (omega (arith, length-drop n rest))

-- ---- all of them, or as far as it came

pub taken_all :
    (side : Side) (orders : List Order) (rest : List ℕ) (found : Leading) (old now : Medium) (trace trace' : Option (List ℕ)) → IsTaken side orders rest old now trace trace' → IsLeading acl_limit rest found
    → ((unit : Unit) (n : ℕ) → found ≡ Whole unit n → ⊥) → (now ≡ after_all side orders old) × (trace' ≡ gained trace (capture_octets (leaving_entries side orders)))
taken_all side orders rest found old now trace trace' taken leading none =
    let over = none_left side taken.left rest found taken.sent taken.octets leading none in
    let all : orders ≡ taken.done = taken.orders_are ∙ ap (λ os. taken.done ++ os) over ∙ append-nil taken.done in
    (taken.medium ∙ ap (λ os. after_all side os old) (sym all), taken.written ∙ ap (λ os. gained trace (capture_octets (leaving_entries side os))) (sym all))

pub breaks_off :
    (side : Side) (orders : List Order) (rest : List ℕ) (unit : Unit) (n : ℕ) (old now : Medium) (trace trace' trace'' : Option (List ℕ))
    → IsTaken side orders rest old now trace trace' → IsLeading acl_limit rest (Whole unit n) → GainedFront trace' trace'' (entry_octets (Moved side Out (packet unit))) → BreaksOff (leaving_entries side orders) trace trace''
breaks_off side orders rest unit n old now trace trace' trace'' taken leading front =
    let first = first_read side taken.left rest unit n taken.sent taken.octets leading in
    record {
      whole = leaving_entries side taken.done;
      due = leaving_entry side first.order;
      left = leaving_entries side first.more;
      entries_are = ap (leaving_entries side) (taken.orders_are ∙ ap (λ os. taken.done ++ os) first.left_is) ∙ entries_then side taken.done (first.order ∷ first.more);
      front = subst (λ xs. GainedFront (gained trace (capture_octets (leaving_entries side taken.done))) trace'' xs) (moved_octets side (packet unit) (order_packet side first.order) first.packet_is)
          (subst (λ t. GainedFront t trace'' (entry_octets (Moved side Out (packet unit)))) taken.written front);
      each = each_of_both (leaving_entries side taken.done) (leaving_entry side first.order ∷ []) taken.each (packet_is_entry side Out (order_packet side first.order) first.handle.packet, tt);
    }

-- it is written, and the radio wants memory for it
pub overflows :
    (side : Side) (orders : List Order) (rest : List ℕ) (unit : Unit) (n : ℕ) (old now : Medium) (trace trace' trace'' : Option (List ℕ))
    → IsTaken side orders rest old now trace trace' → IsLeading acl_limit rest (Whole unit n) → trace'' ≡ gained trace' (entry_octets (Moved side Out (packet unit)))
    → WantsRoom now.radio (after_packet side (packet unit) now.radio) → Overflows side orders old trace trace''
overflows side orders rest unit n old now trace trace' trace'' taken leading written wants =
    let first = first_read side taken.left rest unit n taken.sent taken.octets leading in
    let radio : after_packet side (packet unit) now.radio ≡ after_order side first.order now.radio = ap (λ p. after_packet side p now.radio) first.packet_is ∙ orders_are_spelled side first.order now.radio first.handle.handle in
    let after : (after_all side (taken.done ++ first.order ∷ []) old).radio ≡ after_order side first.order (after_all side taken.done old).radio =
    ap (λ (m : Medium). m.radio) (after_both side taken.done (first.order ∷ []) old) ∙ noted_radio side (in_radio (after_order side first.order (after_all side taken.done old).radio) (after_all side taken.done old)) in
    record {
      whole = taken.done;
      due = first.order;
      left = first.more;
      orders_are = taken.orders_are ∙ ap (λ os. taken.done ++ os) first.left_is;
      wants = subst (λ (r : Radio). WantsRoom (after_all side taken.done old).radio r) (sym after)
          (subst (λ (m : Medium). WantsRoom m.radio (after_order side first.order m.radio)) taken.medium (subst (λ (r : Radio). WantsRoom now.radio r) radio wants));
      written = written_more side taken.done first.order (entry_octets (Moved side Out (packet unit))) trace trace' trace'' (moved_octets side (packet unit) (order_packet side first.order) first.packet_is) taken.written written;
      each = one_more side taken.done first.order taken.each first.handle;
    }

-- ---- nothing is offered

no_packet : (p : Packet) (more : List ℕ) → spelling p ++ more ≡ [] → ⊥
no_packet (Command opcode params) more e = absurd cc
no_packet (Acl word octets) more e = absurd cc
no_packet (Sync word octets) more e = absurd cc
no_packet (Event code params) more e = absurd cc

pub none_offered : (side : Side) (orders : List Order) → order_octets side orders ≡ [] → orders ≡ []
none_offered side [] none = refl
none_offered side (order ∷ orders) none = absurd (no_packet (order_packet side order) (order_octets side orders) none)
