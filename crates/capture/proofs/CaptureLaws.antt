-- A capture is read entry by entry, and in one way.
use Rattle.std.proofs.Common.{◌≡◌, ℕ, List, [], ◌∷◌, ◌++◌, length, Result, Ok, Err, refl, sym, ap, subst, ◌∙◌, append_assoc}
use Rattle.std.specs.List.{AllByRecursion}
use Rattle.std.proofs.lemmas.List.{append-nil}
use Rattle.capture.specs.declared.entry.Entry.{Entry as LentEntry}
use Rattle.capture.specs.declared.entry_refusal.EntryRefusal.{EntryRefusal}
use Rattle.capture.specs.Entries.{Entry, IsEntry, IsCapture, entry_octets, capture_octets}
use Rattle.capture.specs.Lent.{plain_entries}
use Rattle.capture.specs.EntryReading.{IsFront}
use Rattle.capture.specs.CaptureReading.{IsRefused, OneReading}
use Rattle.capture.proofs.EntryLaws.{no_entry_begins_another, captures_same}
use Rattle.capture.proofs.OneFront.{one_front}

-- ---- entry by entry

-- the entries at the front of a capture were read, and those octets are left
pub record IsRead (octets : List ℕ) (items : List LentEntry) (rest : List ℕ) : Type 0 where
  pub each : AllByRecursion IsEntry (plain_entries items)
  pub whole : octets ≡ capture_octets (plain_entries items) ++ rest

-- ---- in one way

-- no entry stands at the front
abbrev IsStopped : List ℕ → Type 0
IsStopped rest = (entry : Entry) (more : List ℕ) → IsEntry entry → rest ≡ entry_octets entry ++ more → ⊥

stopped_at_end : IsStopped []
stopped_at_end entry more is e = absurd cc

ok_or_err : {X Y : Type 0} {x : X} {y : Y} → ◌≡◌ {A = Result X Y} (Ok x) (Err y) → ⊥
ok_or_err e = absurd cc

err_same : {x y : EntryRefusal} → ◌≡◌ {A = Result (Entry × ℕ) EntryRefusal} (Err x) (Err y) → x ≡ y
err_same e = cc

stopped_by : (rest : List ℕ) (refusal : EntryRefusal) → IsFront rest (Err refusal) → IsStopped rest
stopped_by rest refusal front entry more is e = ok_or_err (one_front rest (Ok (entry, length (entry_octets entry))) (Err refusal) (more, is, e, refl) front)

-- entries up to where none stands are known
same_course : (entries others : List Entry) (x y : List ℕ) → AllByRecursion IsEntry entries → AllByRecursion IsEntry others → IsStopped x → IsStopped y → capture_octets entries ++ x ≡ capture_octets others ++ y → (entries ≡ others) × (x ≡ y)
same_course [] [] x y is are a b e = (refl, e)
same_course [] (other ∷ others) x y is are a b e = absurd (a other (capture_octets others ++ y) are.0 (e ∙ append_assoc (entry_octets other) (capture_octets others) y))
same_course (entry ∷ entries) [] x y is are a b e = absurd (b entry (capture_octets entries ++ x) is.0 (sym e ∙ append_assoc (entry_octets entry) (capture_octets entries) x))
same_course (entry ∷ entries) (other ∷ others) x y is are a b e =
    let whole : entry_octets entry ++ (capture_octets entries ++ x) ≡ entry_octets other ++ (capture_octets others ++ y) =
    sym (append_assoc (entry_octets entry) (capture_octets entries) x) ∙ e ∙ append_assoc (entry_octets other) (capture_octets others) y in
    let first = no_entry_begins_another entry other (capture_octets entries ++ x) (capture_octets others ++ y) is.0 are.0 whole in
    let rest = same_course entries others x y is.1 are.1 a b first.1 in
    (ap (λ head. head ∷ entries) first.0 ∙ ap (λ tail. other ∷ tail) rest.0, rest.1)

abbrev Read : Type 0
Read = Result (List Entry) (EntryRefusal × ℕ)

whole_or_refused : (octets : List ℕ) (entries : List Entry) (refusal : EntryRefusal) (place : ℕ) → IsCapture octets entries → IsRefused octets refusal place → ⊥
whole_or_refused octets entries refusal place whole at =
    let same = same_course entries at.entries [] at.rest whole.each at.each stopped_at_end (stopped_by at.rest refusal at.refused) (append-nil (capture_octets entries) ∙ sym whole.whole ∙ at.whole) in
    at.more (sym same.1)

both_refused : (octets : List ℕ) (refusal other : EntryRefusal) (place there : ℕ) → IsRefused octets refusal place → IsRefused octets other there → ◌≡◌ {A = Read} (Err (refusal, place)) (Err (other, there))
both_refused octets refusal other place there a b =
    let same = same_course a.entries b.entries a.rest b.rest a.each b.each (stopped_by a.rest refusal a.refused) (stopped_by b.rest other b.refused) (sym a.whole ∙ b.whole) in
    let cause : refusal ≡ other = err_same (one_front b.rest (Err refusal) (Err other) (subst (λ rest. IsFront rest (Err refusal)) same.1 a.refused) b.refused) in
    let stands : place ≡ there = a.stands ∙ ap (λ es. length (capture_octets es)) same.0 ∙ sym b.stands in
    ap (λ r. Err (r, place)) cause ∙ ap (λ k. Err (other, k)) stands

pub one_reading : OneReading
one_reading octets (Ok entries) (Ok others) a b = ap (λ es. Ok es) (captures_same entries others a.each b.each (sym a.whole ∙ b.whole))
one_reading octets (Ok entries) (Err (refusal, place)) a b = absurd (whole_or_refused octets entries refusal place a b)
one_reading octets (Err (refusal, place)) (Ok others) a b = absurd (whole_or_refused octets others refusal place b a)
one_reading octets (Err (refusal, place)) (Err (other, there)) a b = both_refused octets refusal other place there a b
