-- A capture is read in one way.
use Rattle.std.proofs.Common.{◌≡◌, ◌≢◌, ℕ, zero, suc, ◌+◌, ◌-◌, ◌<◌, ◌≤◌, Bool, true, false, List, [], ◌∷◌, ◌++◌, length, take, get_or, Option, Some, None, Err, refl, sym, ap, subst, ◌∙◌, append_assoc, arith, length-append}
use Rattle.std.specs.Prelude.{nat_le}
use Rattle.std.proofs.lemmas.Bool.{le-leb, lt-leb}
use Rattle.std.proofs.lemmas.List.{append-nil, take_all, append_cancel_left}
use Rattle.std.proofs.Math.Seq.{take-nil}
use Rattle.h4_framing.specs.Packets.{Command, spelling}
use Rattle.capture.specs.declared.entry_refusal.EntryRefusal.TheVariants as entry
use Rattle.capture.specs.Entries.{Moved as entry_moved, moved_tag}
use Rattle.capture.specs.EntryReading.{IsTag, record_octets as tagged, IsFront}
use Rattle.capture.proofs.EntryLaws.{one_record, one_entry, moved_low}
use Rattle.capture.proofs.OneFront.{one_front, is_tag}
use Rattle.tagged_entries.specs.Records.{least_length}
use Rattle.tagged_entries.proofs.Lengths.{cut_short}
use Rattle.item_stream.specs.Running.{input_limit}
use Rattle.btsnoop.specs.declared.refusal.SnoopRefusal.{SnoopRefusal}
use Rattle.btsnoop.specs.declared.refusal.SnoopRefusal.TheVariants.{Truncated, BadTag, BadRecord, TooLong}
use Rattle.btsnoop.specs.Converting.{Item, Moved, Passed, IsItem, item_octets, items_octets, IsBadPacket, read_of, Stops}
use Rattle.btsnoop.specs.Laws.{OneConversion}
use Rattle.btsnoop.proofs.Limits.{begins_read}
use Rattle.btsnoop.proofs.OneItem.{NoItem, same_items}

-- ---- one entry

one_item : (a b : Item) (x y : List ℕ) → IsItem a → IsItem b → item_octets a ++ x ≡ item_octets b ++ y → (a ≡ b) × (x ≡ y)
one_item (Moved s f p) (Moved t g q) x y is is' e =
    let parts = one_record (moved_tag s f) (moved_tag t g) (spelling p) (spelling q) x y is.1 is'.1 e in
    let same : entry_moved s f p ≡ entry_moved t g q = one_entry (entry_moved s f p) (entry_moved t g q) is is' parts.0 parts.1 in
    (cc, parts.2)
one_item (Moved s f p) (Passed n payload) x y is is' e =
    let parts = one_record (moved_tag s f) n (spelling p) payload x y is.1 is'.2 e in
    absurd (omega (arith, moved_low s f, parts.0, is'.0))
one_item (Passed m payload) (Moved t g q) x y is is' e =
    let parts = one_record m (moved_tag t g) payload (spelling q) x y is.2 is'.1 e in
    absurd (omega (arith, moved_low t g, parts.0, is.0))
one_item (Passed m payload) (Passed n other) x y is is' e =
    let parts = one_record m n payload other x y is.2 is'.2 e in
    (ap (λ (k : ℕ). Passed k payload) parts.0 ∙ ap (λ (t : List ℕ). Passed n t) parts.1, parts.2)

-- ---- why octets are no entry

-- octets that are no entry: no tag stands there, or the beginning of an entry, or one whose payload is no packet
data Fault (octets : List ℕ) (refusal : SnoopRefusal) : Type 0 where
  NoTag : IsFront octets (Err entry.BadTag) → refusal ≡ BadTag → Fault octets refusal
  Cut : IsFront octets (Err entry.Truncated) → refusal ≡ Truncated → Fault octets refusal
  NoPacket : IsBadPacket octets → refusal ≡ BadRecord → Fault octets refusal

moved_is_tag : (bad : List ℕ) (b : IsBadPacket bad) → IsTag (moved_tag b.side b.flow)
moved_is_tag bad b = is_tag (entry_moved b.side b.flow (Command 0 []))

tag_or_bad : (octets : List ℕ) → IsFront octets (Err entry.BadTag) → IsBadPacket octets → ⊥
tag_or_bad octets (tag, more, is, none) b =
    let same : tag ≡ moved_tag b.side b.flow = ap (λ (t : List ℕ). get_or t 0 0) (sym is ∙ b.whole) in
    none (subst IsTag (sym same) (moved_is_tag octets b))

no_more : (a b : List ℕ) → a ++ b ≡ [] → b ≡ []
no_more [] b e = e
no_more (x ∷ a) b e = absurd cc

cut_or_bad : (octets : List ℕ) → IsFront octets (Err entry.Truncated) → IsBadPacket octets → ⊥
cut_or_bad octets (tag, payload, more, is, some, whole) b =
    let e : tagged tag payload ++ [] ≡ tagged (moved_tag b.side b.flow) b.payload ++ (b.more ++ more) =
    append-nil (tagged tag payload) ∙ sym whole ∙ ap (λ (t : List ℕ). t ++ more) b.whole ∙ append_assoc (tagged (moved_tag b.side b.flow) b.payload) b.more more in
    let parts = one_record tag (moved_tag b.side b.flow) payload b.payload [] (b.more ++ more) is.1 b.short e in
    some (no_more b.more more (sym parts.2))

tag_or_cut : (octets : List ℕ) → IsFront octets (Err entry.BadTag) → IsFront octets (Err entry.Truncated) → ⊥
tag_or_cut octets a b = let same = one_front octets (Err entry.BadTag) (Err entry.Truncated) a b in cc

one_fault : (octets : List ℕ) (r s : SnoopRefusal) → Fault octets r → Fault octets s → r ≡ s
one_fault octets r s (NoTag a is) (NoTag b is') = is ∙ sym is'
one_fault octets r s (NoTag a is) (Cut b is') = absurd (tag_or_cut octets a b)
one_fault octets r s (NoTag a is) (NoPacket b is') = absurd (tag_or_bad octets a b)
one_fault octets r s (Cut a is) (NoTag b is') = absurd (tag_or_cut octets b a)
one_fault octets r s (Cut a is) (Cut b is') = is ∙ sym is'
one_fault octets r s (Cut a is) (NoPacket b is') = absurd (cut_or_bad octets a b)
one_fault octets r s (NoPacket a is) (NoTag b is') = absurd (tag_or_bad octets b a)
one_fault octets r s (NoPacket a is) (Cut b is') = absurd (cut_or_bad octets b a)
one_fault octets r s (NoPacket a is) (NoPacket b is') = is ∙ sym is'

-- no entry stands there
none_there : (octets : List ℕ) (r : SnoopRefusal) → Fault octets r → NoItem item_octets IsItem octets
none_there octets r (NoTag (tag, rest, is, none) why) (Moved s f p) more good whole =
    let same : tag ≡ moved_tag s f = ap (λ (t : List ℕ). get_or t 0 0) (sym is ∙ whole) in
    none (subst IsTag (sym same) (is_tag (entry_moved s f p)))
none_there octets r (NoTag (tag, rest, is, none) why) (Passed n payload) more good whole =
    let same : tag ≡ n = ap (λ (t : List ℕ). get_or t 0 0) (sym is ∙ whole) in
    none (omega (arith, same, good.0), omega (arith, same, good.1))
none_there octets r (Cut (tag, payload, rest, is, some, e) why) (Moved s f p) more good whole =
    let parts = one_record tag (moved_tag s f) payload (spelling p) [] (more ++ rest) is.1 good.1 (append-nil (tagged tag payload) ∙ sym e ∙ ap (λ (t : List ℕ). t ++ rest) whole ∙ append_assoc (item_octets (Moved s f p)) more rest) in
    some (no_more more rest (sym parts.2))
none_there octets r (Cut (tag, payload, rest, is, some, e) why) (Passed n other) more good whole =
    let parts = one_record tag n payload other [] (more ++ rest) is.1 good.2 (append-nil (tagged tag payload) ∙ sym e ∙ ap (λ (t : List ℕ). t ++ rest) whole ∙ append_assoc (item_octets (Passed n other)) more rest) in
    some (no_more more rest (sym parts.2))
none_there octets r (NoPacket b why) (Moved s f p) more good whole =
    let parts = one_record (moved_tag b.side b.flow) (moved_tag s f) b.payload (spelling p) b.more more b.short good.1 (sym b.whole ∙ whole) in
    b.none p good.0 (sym parts.1)
none_there octets r (NoPacket b why) (Passed n payload) more good whole =
    let parts = one_record (moved_tag b.side b.flow) n b.payload payload b.more more b.short good.2 (sym b.whole ∙ whole) in
    omega (arith, moved_low b.side b.flow, parts.0, good.0)

-- ---- why reading stops

-- what is said of a fault; `within` says that the entry may end within the greatest length
abbrev said : SnoopRefusal → ℕ → Bool → Option (SnoopRefusal × ℕ)
said Truncated from false = Some (TooLong, input_limit)
said refusal from within = Some (refusal, from)

data Reason (from : ℕ) (rest : List ℕ) (verdict : Option (SnoopRefusal × ℕ)) : Type 0 where
  Ended : rest ≡ [] → verdict ≡ None → Reason from rest verdict
  Found : (refusal : SnoopRefusal) → rest ≢ [] → Fault (read_of from rest) refusal → verdict ≡ said refusal from (nat_le (from + least_length (read_of from rest)) input_limit) → Reason from rest verdict

tag_read : (n : ℕ) (rest : List ℕ) → 0 < n → IsFront rest (Err entry.BadTag) → IsFront (take n rest) (Err entry.BadTag)
tag_read zero rest lt front = absurd (omega arith)
tag_read (suc n) rest lt (tag, more, is, none) = (tag, take n more, ap (take (suc n)) is, none)

some_tag : (rest : List ℕ) → IsFront rest (Err entry.BadTag) → rest ≢ []
some_tag rest (tag, more, is, none) e = let both : [] ≡ tag ∷ more = sym e ∙ is in cc

some_bad : (from : ℕ) (rest : List ℕ) → IsBadPacket (read_of from rest) → rest ≢ []
some_bad from rest b e = let both = sym (ap (read_of from) e ∙ take-nil (input_limit - from)) ∙ b.whole in absurd cc

reason : (from : ℕ) (rest : List ℕ) (v : Option (SnoopRefusal × ℕ)) → Stops from rest v → Reason from rest v
reason from rest None h = Ended h refl
reason from rest (Some (BadTag, place)) (at, below, front) = Found BadTag (some_tag rest front) (NoTag (tag_read (input_limit - from) rest (omega arith) front) refl) (ap (λ (k : ℕ). Some (BadTag, k)) at)
reason from rest (Some (BadRecord, place)) (at, bad) = Found BadRecord (some_bad from rest bad) (NoPacket bad refl) (ap (λ (k : ℕ). Some (BadRecord, k)) at)
reason from rest (Some (Truncated, place)) (at, some, front, within) =
    let read : read_of from rest ≡ rest = take_all (input_limit - from) rest (omega (arith, cut_short rest front, within)) in
    let fits : nat_le (from + least_length (read_of from rest)) input_limit ≡ true = le-leb (from + least_length (read_of from rest)) input_limit (subst (λ (t : List ℕ). from + least_length t ≤ input_limit) (sym read) within) in
    Found Truncated some (Cut (subst (λ (t : List ℕ). IsFront t (Err entry.Truncated)) (sym read) front) refl) (ap (λ (k : ℕ). Some (Truncated, k)) at ∙ ap (said Truncated from) (sym fits))
reason from rest (Some (TooLong, place)) (at, some, front, past) =
    let fits : nat_le (from + least_length (read_of from rest)) input_limit ≡ false = lt-leb (from + least_length (read_of from rest)) input_limit past in
    Found Truncated some (Cut front refl) (ap (λ (k : ℕ). Some (TooLong, k)) at ∙ ap (said Truncated from) (sym fits))
reason from rest (Some (_, place)) h = absurd h

reasons_same : (from : ℕ) (rest : List ℕ) (v w : Option (SnoopRefusal × ℕ)) → Reason from rest v → Reason from rest w → v ≡ w
reasons_same from rest v w (Ended none is) (Ended none' is') = is ∙ sym is'
reasons_same from rest v w (Ended none is) (Found s some fault is') = absurd (some none)
reasons_same from rest v w (Found r some fault is) (Ended none is') = absurd (some none)
reasons_same from rest v w (Found r some fault is) (Found s some' fault' is') =
    is ∙ ap (λ (t : SnoopRefusal). said t from (nat_le (from + least_length (read_of from rest)) input_limit)) (one_fault (read_of from rest) r s fault fault') ∙ sym is'

some_octets : (item : Item) → 0 < length (item_octets item)
some_octets (Moved s f p) = omega arith
some_octets (Passed n payload) = omega arith

no_item : (from : ℕ) (rest : List ℕ) (v : Option (SnoopRefusal × ℕ)) → Reason from rest v → NoItem item_octets IsItem (read_of from rest)
no_item from rest v (Ended none is) item more good whole = omega (arith, ap length (sym (ap (read_of from) none ∙ take-nil (input_limit - from)) ∙ whole), length-append (item_octets item) more, some_octets item)
no_item from rest v (Found r some fault is) item more good whole = none_there (read_of from rest) r fault item more good whole

pub one_conversion : OneConversion
one_conversion input items others v w h k =
    let from : ℕ = length (items_octets items) in
    let r = reason from h.begins.rest v h.stops in
    let s = reason (length (items_octets others)) k.begins.rest w k.stops in
    let split = sym (begins_read input (items_octets items) h.begins.rest h.begins.whole h.begins.within) ∙ begins_read input (items_octets others) k.begins.rest k.begins.whole k.begins.within in
    let same = same_items item_octets IsItem one_item items others (read_of from h.begins.rest) (read_of (length (items_octets others)) k.begins.rest) h.begins.each k.begins.each (no_item from h.begins.rest v r) (no_item (length (items_octets others)) k.begins.rest w s) split in
    let rest : h.begins.rest ≡ k.begins.rest = append_cancel_left (items_octets items) h.begins.rest k.begins.rest (sym h.begins.whole ∙ k.begins.whole ∙ ap (λ (ks : List Item). items_octets ks ++ k.begins.rest) (sym same.0)) in
    let moved : Reason from h.begins.rest w = subst (λ (t : List ℕ). Reason from t w) (sym rest) (subst (λ (ks : List Item). Reason (length (items_octets ks)) k.begins.rest w) (sym same.0) s) in
    (same.0, reasons_same from h.begins.rest v w r moved)
