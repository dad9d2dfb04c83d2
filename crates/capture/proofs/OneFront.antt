-- What stands at the front of octets is one thing.
use Rattle.std.proofs.Common.{◌≡◌, ◌≢◌, ℕ, List, [], ◌∷◌, ◌++◌, length, Result, Ok, Err, refl, sym, ap, subst, ◌∙◌, arith, append_assoc}
use Rattle.std.proofs.lemmas.List.{append-nil}
use Rattle.push_terms.specs.declared.word.Side.{Side}
use Rattle.push_terms.specs.declared.word.Side.TheVariants as sides
use Rattle.capture.specs.declared.flow.Flow.{Flow}
use Rattle.capture.specs.declared.flow.Flow.TheVariants.{Out, Into}
use Rattle.capture.specs.declared.entry_refusal.EntryRefusal.{EntryRefusal}
use Rattle.capture.specs.declared.entry_refusal.EntryRefusal.TheVariants.{BadTag, Truncated, BadRecord}
use Rattle.capture.specs.Entries.{Entry, Moved, Acted, Begun, Ended, IsEntry, moved_tag, tag_of, payload_of, entry_octets}
use Rattle.capture.specs.EntryReading.{IsTag, IsRecord, record_octets, OfNone, IsFront, OneFront}
use Rattle.capture.proofs.EntryLaws.{payload_short, one_record, no_entry_begins_another}

moved_is_tag : (side : Side) (flow : Flow) → IsTag (moved_tag side flow)
moved_is_tag sides.A Out = (omega arith, omega arith)
moved_is_tag sides.A Into = (omega arith, omega arith)
moved_is_tag sides.B Out = (omega arith, omega arith)
moved_is_tag sides.B Into = (omega arith, omega arith)

pub is_tag : (entry : Entry) → IsTag (tag_of entry)
is_tag (Moved side flow packet) = moved_is_tag side flow
is_tag (Acted ordinal word) = (omega arith, omega arith)
is_tag (Begun push) = (omega arith, omega arith)
is_tag (Ended push outcome) = (omega arith, omega arith)

-- an entry is a record
pub is_record : (entry : Entry) → IsEntry entry → IsRecord (tag_of entry) (payload_of entry)
is_record entry is = (is_tag entry, payload_short entry is)

both_none : {A : Type 0} (xs ys : List A) → xs ++ ys ≡ [] → ys ≡ []
both_none [] ys e = e
both_none (x ∷ xs) ys e = absurd cc

-- octets with a whole record in front are not the beginning of one alone
whole_or_cut : (octets : List ℕ) (s t : ℕ) (p q rest more : List ℕ) → IsRecord s p → IsRecord t q → octets ≡ record_octets s p ++ rest → octets ++ more ≡ record_octets t q → more ≢ [] → ⊥
whole_or_cut octets s t p q rest more is are e1 e2 some =
    let same : record_octets s p ++ (rest ++ more) ≡ record_octets t q ++ [] =
    sym (append_assoc (record_octets s p) rest more) ∙ ap (λ (xs : List ℕ). xs ++ more) (sym e1) ∙ e2 ∙ sym (append-nil (record_octets t q)) in
    some (both_none rest more (one_record s t p q (rest ++ more) [] is.1 are.1 same).2)

head_same : {x y : ℕ} {xs ys : List ℕ} → x ∷ xs ≡ y ∷ ys → x ≡ y
head_same e = cc

-- a first octet that is no tag begins no record
tag_or_whole : (octets : List ℕ) (tag t : ℕ) (behind p rest : List ℕ) → octets ≡ tag ∷ behind → (IsTag tag → ⊥) → IsTag t → octets ≡ record_octets t p ++ rest → ⊥
tag_or_whole octets tag t behind p rest e1 not is e2 = not (subst IsTag (sym (head_same (sym e1 ∙ e2))) is)

tag_or_cut : (octets : List ℕ) (tag t : ℕ) (behind p more : List ℕ) → octets ≡ tag ∷ behind → (IsTag tag → ⊥) → IsTag t → octets ++ more ≡ record_octets t p → ⊥
tag_or_cut octets tag t behind p more e1 not is e2 = not (subst IsTag (sym (head_same (ap (λ (xs : List ℕ). xs ++ more) (sym e1) ∙ e2))) is)

-- a record that is an entry's is no record of none
entry_or_none : (octets : List ℕ) (entry : Entry) (t : ℕ) (p rest more : List ℕ) → IsEntry entry → octets ≡ entry_octets entry ++ rest → IsRecord t p → octets ≡ record_octets t p ++ more → OfNone t p → ⊥
entry_or_none octets entry t p rest more is e1 are e2 none =
    let parts = one_record (tag_of entry) t (payload_of entry) p rest more (payload_short entry is) are.1 (sym e1 ∙ e2) in
    none entry (is, parts.0, parts.1)

abbrev Answer : Type 0
Answer = Result (Entry × ℕ) EntryRefusal

both_read : (octets : List ℕ) (entry other : Entry) (n m : ℕ) → IsFront octets (Ok (entry, n)) → IsFront octets (Ok (other, m)) → ◌≡◌ {A = Answer} (Ok (entry, n)) (Ok (other, m))
both_read octets entry other n m a b =
    let same : entry ≡ other = (no_entry_begins_another entry other a.0 b.0 a.1 b.1 (sym a.2 ∙ b.2)).0 in
    let count : n ≡ m = a.3 ∙ ap (λ x. length (entry_octets x)) same ∙ sym b.3 in
    ap (λ x. Ok (x, n)) same ∙ ap (λ k. Ok (other, k)) count

pub one_front : OneFront
one_front octets (Ok (entry, n)) (Ok (other, m)) a b = both_read octets entry other n m a b
one_front octets (Ok (entry, n)) (Err BadTag) a b = absurd (tag_or_whole octets b.0 (tag_of entry) b.1 (payload_of entry) a.0 b.2 b.3 (is_tag entry) a.2)
one_front octets (Ok (entry, n)) (Err Truncated) a b = absurd (whole_or_cut octets (tag_of entry) b.0 (payload_of entry) b.1 a.0 b.2 (is_record entry a.1) b.3 a.2 b.5 b.4)
one_front octets (Ok (entry, n)) (Err BadRecord) a b = absurd (entry_or_none octets entry b.0 b.1 a.0 b.2 a.1 a.2 b.3 b.4 b.5)
one_front octets (Err BadTag) (Ok (other, m)) a b = absurd (tag_or_whole octets a.0 (tag_of other) a.1 (payload_of other) b.0 a.2 a.3 (is_tag other) b.2)
one_front octets (Err BadTag) (Err BadTag) a b = refl
one_front octets (Err BadTag) (Err Truncated) a b = absurd (tag_or_cut octets a.0 b.0 a.1 b.1 b.2 a.2 a.3 b.3.0 b.5)
one_front octets (Err BadTag) (Err BadRecord) a b = absurd (tag_or_whole octets a.0 b.0 a.1 b.1 b.2 a.2 a.3 b.3.0 b.4)
one_front octets (Err Truncated) (Ok (other, m)) a b = absurd (whole_or_cut octets (tag_of other) a.0 (payload_of other) a.1 b.0 a.2 (is_record other b.1) a.3 b.2 a.5 a.4)
one_front octets (Err Truncated) (Err BadTag) a b = absurd (tag_or_cut octets b.0 a.0 b.1 a.1 a.2 b.2 b.3 a.3.0 a.5)
one_front octets (Err Truncated) (Err Truncated) a b = refl
one_front octets (Err Truncated) (Err BadRecord) a b = absurd (whole_or_cut octets b.0 a.0 b.1 a.1 b.2 a.2 b.3 a.3 b.4 a.5 a.4)
one_front octets (Err BadRecord) (Ok (other, m)) a b = absurd (entry_or_none octets other a.0 a.1 b.0 a.2 b.1 b.2 a.3 a.4 a.5)
one_front octets (Err BadRecord) (Err BadTag) a b = absurd (tag_or_whole octets b.0 a.0 b.1 a.1 a.2 b.2 b.3 a.3.0 a.4)
one_front octets (Err BadRecord) (Err Truncated) a b = absurd (whole_or_cut octets a.0 b.0 a.1 b.1 a.2 b.2 a.3 b.3 a.4 b.5 b.4)
one_front octets (Err BadRecord) (Err BadRecord) a b = refl
