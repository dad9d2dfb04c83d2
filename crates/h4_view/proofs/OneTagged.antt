-- A capture has one view.
use Rattle.std.proofs.Common.{◌≡◌, ◌≢◌, ℕ, zero, suc, ◌+◌, ◌-◌, ◌<◌, ◌≤◌, Bool, true, false, List, [], ◌∷◌, ◌++◌, length, take, Option, Some, None, Ok, Err, refl, sym, ap, subst, ◌∙◌, arith, length-append}
use Rattle.std.specs.Prelude.{nat_le}
use Rattle.std.proofs.lemmas.Bool.{le-leb, lt-leb}
use Rattle.std.proofs.lemmas.List.{take_all, append_cancel_left}
use Rattle.std.proofs.Math.Seq.{take-nil}
use Rattle.capture.specs.declared.entry_refusal.EntryRefusal.{EntryRefusal}
use Rattle.capture.specs.declared.entry_refusal.EntryRefusal.TheVariants as entry
use Rattle.capture.specs.Entries.{Entry, IsEntry, entry_octets, capture_octets}
use Rattle.capture.specs.EntryReading.{IsFront}
use Rattle.capture.proofs.EntryLaws.{no_entry_begins_another}
use Rattle.capture.proofs.OneFront.{one_front}
use Rattle.tagged_entries.specs.Records.{least_length}
use Rattle.tagged_entries.proofs.Lengths.{cut_short}
use Rattle.item_stream.specs.Running.{input_limit}
use Rattle.btsnoop.specs.Converting.{read_of}
use Rattle.h4_view.specs.declared.refusal.ViewRefusal.{ViewRefusal}
use Rattle.h4_view.specs.declared.refusal.ViewRefusal.TheVariants.{Truncated, TooLong, BadTag, BadRecord}
use Rattle.h4_view.specs.Tagged.{Stops, tagged_capture}
use Rattle.h4_view.specs.Laws.{OneViewOf}
use Rattle.btsnoop.proofs.Limits.{begins_read}
use Rattle.btsnoop.proofs.OneItem.{NoItem, same_items}

-- what is said of octets that are no entry; `within` says that they begin one that may end within the greatest length
abbrev said : EntryRefusal → ℕ → Bool → Option (ViewRefusal × ℕ)
said entry.BadTag from within = Some (BadTag, from)
said entry.BadRecord from within = Some (BadRecord, from)
said entry.Truncated from true = Some (Truncated, from)
said entry.Truncated from false = Some (TooLong, input_limit)

-- nothing is left, or what is read is no entry
data Reason (from : ℕ) (rest : List ℕ) (verdict : Option (ViewRefusal × ℕ)) : Type 0 where
  Ended : rest ≡ [] → verdict ≡ None → Reason from rest verdict
  Found : (refusal : EntryRefusal) → rest ≢ [] → IsFront (read_of from rest) (Err refusal) → verdict ≡ said refusal from (nat_le (from + least_length (read_of from rest)) input_limit) → Reason from rest verdict

tag_read : (n : ℕ) (rest : List ℕ) → 0 < n → IsFront rest (Err entry.BadTag) → IsFront (take n rest) (Err entry.BadTag)
tag_read zero rest lt front = absurd (omega arith)
tag_read (suc n) rest lt (tag, more, is, none) = (tag, take n more, ap (take (suc n)) is, none)

some_tag : (rest : List ℕ) → IsFront rest (Err entry.BadTag) → rest ≢ []
some_tag rest (tag, more, is, none) e = let both : [] ≡ tag ∷ more = sym e ∙ is in cc

some_record : (from : ℕ) (rest : List ℕ) → IsFront (read_of from rest) (Err entry.BadRecord) → rest ≢ []
some_record from rest (tag, payload, more, is, whole, none) e = let both = sym (ap (read_of from) e ∙ take-nil (input_limit - from)) ∙ whole in absurd cc

reason : (from : ℕ) (rest : List ℕ) (v : Option (ViewRefusal × ℕ)) → Stops from rest v → Reason from rest v
reason from rest None h = Ended h refl
reason from rest (Some (BadTag, place)) (at, below, front) = Found entry.BadTag (some_tag rest front) (tag_read (input_limit - from) rest (omega arith) front) (ap (λ (k : ℕ). Some (BadTag, k)) at)
reason from rest (Some (BadRecord, place)) (at, front) = Found entry.BadRecord (some_record from rest front) front (ap (λ (k : ℕ). Some (BadRecord, k)) at)
reason from rest (Some (Truncated, place)) (at, some, front, within) =
    let read : read_of from rest ≡ rest = take_all (input_limit - from) rest (omega (arith, cut_short rest front, within)) in
    let fits : nat_le (from + least_length (read_of from rest)) input_limit ≡ true = le-leb (from + least_length (read_of from rest)) input_limit (subst (λ (t : List ℕ). from + least_length t ≤ input_limit) (sym read) within) in
    Found entry.Truncated some (subst (λ (t : List ℕ). IsFront t (Err entry.Truncated)) (sym read) front) (ap (λ (k : ℕ). Some (Truncated, k)) at ∙ ap (said entry.Truncated from) (sym fits))
reason from rest (Some (TooLong, place)) (at, some, front, past) =
    let fits : nat_le (from + least_length (read_of from rest)) input_limit ≡ false = lt-leb (from + least_length (read_of from rest)) input_limit past in
    Found entry.Truncated some front (ap (λ (k : ℕ). Some (TooLong, k)) at ∙ ap (said entry.Truncated from) (sym fits))
reason from rest (Some (_, place)) h = absurd h

same_refusal : (octets : List ℕ) (r s : EntryRefusal) → IsFront octets (Err r) → IsFront octets (Err s) → r ≡ s
same_refusal octets r s a b = let same = one_front octets (Err r) (Err s) a b in cc

reasons_same : (from : ℕ) (rest : List ℕ) (v w : Option (ViewRefusal × ℕ)) → Reason from rest v → Reason from rest w → v ≡ w
reasons_same from rest v w (Ended none is) (Ended none' is') = is ∙ sym is'
reasons_same from rest v w (Ended none is) (Found s some front is') = absurd (some none)
reasons_same from rest v w (Found r some front is) (Ended none is') = absurd (some none)
reasons_same from rest v w (Found r some front is) (Found s some' front' is') =
    is ∙ ap (λ (t : EntryRefusal). said t from (nat_le (from + least_length (read_of from rest)) input_limit)) (same_refusal (read_of from rest) r s front front') ∙ sym is'

-- no entry stands where the view stops
no_entry : (from : ℕ) (rest : List ℕ) (v : Option (ViewRefusal × ℕ)) → Reason from rest v → NoItem entry_octets IsEntry (read_of from rest)
no_entry from rest v (Ended none is) e more good whole = omega (arith, ap length (sym (ap (read_of from) none ∙ take-nil (input_limit - from)) ∙ whole), length-append (entry_octets e) more)
no_entry from rest v (Found r some front is) e more good whole = let same = one_front (read_of from rest) (Ok (e, length (entry_octets e))) (Err r) (more, good, whole, refl) front in absurd cc

pub one_tagged_view : OneViewOf tagged_capture
one_tagged_view input es fs v w h k =
    let from : ℕ = length (capture_octets es) in
    let r = reason from h.begins.rest v h.stops in
    let s = reason (length (capture_octets fs)) k.begins.rest w k.stops in
    let split = sym (begins_read input (capture_octets es) h.begins.rest h.begins.whole h.begins.within) ∙ begins_read input (capture_octets fs) k.begins.rest k.begins.whole k.begins.within in
    let same = same_items entry_octets IsEntry no_entry_begins_another es fs (read_of from h.begins.rest) (read_of (length (capture_octets fs)) k.begins.rest) h.begins.each k.begins.each (no_entry from h.begins.rest v r) (no_entry (length (capture_octets fs)) k.begins.rest w s) split in
    let rest : h.begins.rest ≡ k.begins.rest = append_cancel_left (capture_octets es) h.begins.rest k.begins.rest (sym h.begins.whole ∙ k.begins.whole ∙ ap (λ (ks : List Entry). capture_octets ks ++ k.begins.rest) (sym same.0)) in
    let moved : Reason from h.begins.rest w = subst (λ (t : List ℕ). Reason from t w) (sym rest) (subst (λ (ks : List Entry). Reason (length (capture_octets ks)) k.begins.rest w) (sym same.0) s) in
    (same.0, reasons_same from h.begins.rest v w r moved)
