-- What is kept of an input that is read piece by piece.
use Rattle.std.proofs.Common.{◌≡◌, ℕ, ◌+◌, ◌-◌, ◌<◌, ◌≤◌, List, [], ◌++◌, length, take, drop, Option, Some, None, Result, Ok, Err, IfSome, IsErrOf, refl, sym, ap, ◌∙◌, arith, inl, inr, length-append}
use Rattle.std.proofs.lemmas.Bool.{cases_lt}
use Rattle.std.proofs.lemmas.List.{take_all, take-append-le, length-take, drop_all, append-nil}
use Rattle.std.proofs.Math.Seq.{take-append-add, drop-append_seam}
use Rattle.std.specs.Prelude.{min}
use Rattle.h4_view.specs.View.{Took, IsAnswered}
use Rattle.h4_view.proofs.Stands.{took_then, told, taken_front}
use Rattle.btpush_forms.specs.declared.gathering.GatherFault.{GatherFault}
use Rattle.btpush_forms.specs.declared.gathering.GatherFault.TheVariants.{ReadFault, NoMemory}
use Rattle.btpush_forms.specs.Gathering.{kept_limit, reading_limit, Gathers, BlamesSource}

abbrev is_ok_of : {A : Type 0} → A → Result A GatherFault
is_ok_of x = Ok x

abbrev is_err_of : (A : Type 0) → GatherFault → Result A GatherFault
is_err_of A fault = Err fault

never_fault : {A : Type 0} (x : A) (fault : GatherFault) → IsErrOf (is_ok_of x) fault → ⊥
never_fault x fault h = absurd cc

same_fault : (A B : Type 0) (fault other : GatherFault) → IsErrOf (is_err_of A fault) other → IsErrOf (is_err_of B fault) other
same_fault A B fault other h = let e : fault ≡ other = cc in ap (λ (f : GatherFault). is_err_of B f) e

take_shorter : (m : ℕ) (b : List ℕ) → take (min (length b) m) b ≡ take m b
take_shorter m b = elim (cases_lt m (length b)) [
  | inl lt ↦ let e : min (length b) m ≡ m = omega arith in rw e refl
  | inr ge ↦ let e : min (length b) m ≡ length b = omega arith in rw e (take_all (length b) b (omega arith) ∙ sym (take_all m b ge))
]

-- a piece for which there may not be room is added up to the room
pub added : (k n : ℕ) (a b : List ℕ) → length a ≤ k → n ≡ min (length b) (k - length a) → a ++ take n b ≡ take k (a ++ b)
added k n a b le e =
    let whole : length a + (k - length a) ≡ k = omega arith in
    let shorter : take n b ≡ take (k - length a) b = rw e (take_shorter (k - length a) b) in
    let seam : take (length a + (k - length a)) (a ++ b) ≡ a ++ take (k - length a) b = take-append-add a b (k - length a) in
    ap (λ (t : List ℕ). a ++ t) shorter ∙ sym seam ∙ ap (λ (m : ℕ). take m (a ++ b)) whole

-- what does not fit is left out the second time as the first
pub kept_then : (k : ℕ) (a b : List ℕ) → take k (take k a ++ b) ≡ take k (a ++ b)
kept_then k a b = elim (cases_lt k (length a)) [
  | inl lt ↦
      let size : length (take k a) ≡ k = omega (arith, length-take k a) in
      take-append-le k (take k a) b (omega (arith, size)) ∙ take_all k (take k a) (omega (arith, size)) ∙ sym (take-append-le k a b (omega arith))
  | inr ge ↦ ap (λ (t : List ℕ). take k (t ++ b)) (take_all k a ge)
]

-- What was had of a source, which then has `new` left: so many octets were read, and the first of them are kept.
pub record Gathered (old new : Option (List ℕ)) (count : ℕ) (text : List ℕ) : Type 0 where
  pub octets : List ℕ
  pub took : Took old new octets
  pub counted : count ≡ length octets
  pub kept : text ≡ take kept_limit octets

took_none : (content : Option (List ℕ)) → Took content content []
took_none None = refl
took_none (Some left) = (left, refl, refl)

pub gathered_none : (content : Option (List ℕ)) (text : List ℕ) → text ≡ [] → Gathered content content 0 text
gathered_none content text e = record { octets = []; took = took_none content; counted = refl; kept = e }

pub few_kept : (old new : Option (List ℕ)) (count : ℕ) (text : List ℕ) → Gathered old new count text → length text ≤ kept_limit
few_kept old new count text g = omega (arith, ap (λ (t : List ℕ). length t) g.kept, length-take kept_limit g.octets)

-- a piece more
pub gathered_more : (old mid new : Option (List ℕ)) (count n : ℕ) (text text' piece : List ℕ) → Gathered old mid count text → Took mid new piece → length piece ≡ n → text' ≡ take kept_limit (text ++ piece)
    → Gathered old new (count + n) text'
gathered_more old mid new count n text text' piece g took size e = record {
  octets = g.octets ++ piece;
  took = took_then old mid new g.octets piece g.took took;
  counted = omega (arith, g.counted, length-append g.octets piece);
  kept = e ∙ ap (λ (t : List ℕ). take kept_limit (t ++ piece)) g.kept ∙ kept_then kept_limit g.octets piece;
}

-- after a fault a front of the input is gone
front_gone : (old new : Option (List ℕ)) (octets text : List ℕ) (fault : GatherFault) → Took old new octets → IfSome old (λ input. Gathers input new text (Err fault))
front_gone old new octets text fault took = told old (λ all e.
    let begin = taken_front old new octets all took e in
    (length octets, begin.2 ∙ ap (λ (t : List ℕ). Some t) (sym (drop-append_seam octets begin.0) ∙ ap (λ (t : List ℕ). drop (length octets) t) (sym begin.1))))

pub stopped : (old new : Option (List ℕ)) (count : ℕ) (text text' : List ℕ) (fault : GatherFault) → Gathered old new count text → IfSome old (λ input. Gathers input new text' (Err fault))
stopped old new count text text' fault g = front_gone old new g.octets text' fault g.took

pub stopped_behind : (old mid new : Option (List ℕ)) (count : ℕ) (text text' piece : List ℕ) (fault : GatherFault) → Gathered old mid count text → Took mid new piece → IfSome old (λ input. Gathers input new text' (Err fault))
stopped_behind old mid new count text text' piece fault g took = front_gone old new (g.octets ++ piece) text' fault (took_then old mid new g.octets piece g.took took)

-- nothing is left
pub whole : (old new : Option (List ℕ)) (count : ℕ) (text : List ℕ) → count ≤ reading_limit → Gathered old new count text → IfSome new (λ left. left ≡ []) → IfSome old (λ input. Gathers input new text (Ok tt))
whole old new count text below g end = told old (λ all e.
    let begin = taken_front old new g.octets all g.took e in
    let nothing : begin.0 ≡ [] = rw begin.2 at end in
    let same : all ≡ g.octets = begin.1 ∙ ap (λ (t : List ℕ). g.octets ++ t) nothing ∙ append-nil g.octets in
    let size : length all ≤ reading_limit = omega (arith, g.counted, ap (λ (t : List ℕ). length t) same) in
    (g.kept ∙ ap (λ (t : List ℕ). take kept_limit t) (sym same), begin.2 ∙ ap (λ (t : List ℕ). Some t) (nothing ∙ sym (drop_all reading_limit all size))))

-- reading stops at its limit
pub at_limit : (old new : Option (List ℕ)) (count : ℕ) (text : List ℕ) → count ≡ reading_limit → Gathered old new count text → IfSome old (λ input. Gathers input new text (Ok tt))
at_limit old new count text at g = told old (λ all e.
    let begin = taken_front old new g.octets all g.took e in
    let size : length g.octets ≡ reading_limit = sym g.counted ∙ at in
    let rest : drop reading_limit all ≡ begin.0 = ap (λ (n : ℕ). drop n all) (sym size) ∙ ap (λ (t : List ℕ). drop (length g.octets) t) begin.1 ∙ drop-append_seam g.octets begin.0 in
    let front : take kept_limit all ≡ take kept_limit g.octets = ap (λ (t : List ℕ). take kept_limit t) begin.1 ∙ take-append-le kept_limit g.octets begin.0 (omega (arith, size)) in
    (g.kept ∙ sym front, begin.2 ∙ ap (λ (t : List ℕ). Some t) (sym rest)))

-- The same answer beside another value has the same causes.
pub blames_ok : {A B : Type 0} (source source' : ℕ) (x : A) (y : B) → BlamesSource source source' (is_ok_of x) → BlamesSource source source' (is_ok_of y)
blames_ok source source' x y blames = record { stays = blames.stays; read = λ h. absurd (never_fault y ReadFault h); only_read = λ lt. absurd (never_fault x ReadFault (blames.only_read lt)) }

pub blames_err : {A B : Type 0} (source source' : ℕ) (fault : GatherFault) → BlamesSource source source' (is_err_of A fault) → BlamesSource source source' (is_err_of B fault)
blames_err {A} {B} source source' fault blames = record { stays = blames.stays; read = λ h. blames.read (same_fault B A fault ReadFault h); only_read = λ lt. same_fault A B fault ReadFault (blames.only_read lt) }

pub answered_ok : {A B : Type 0} (count count' : ℕ) (x : A) (y : B) → IsAnswered count count' (IsErrOf (is_ok_of x) NoMemory) → IsAnswered count count' (IsErrOf (is_ok_of y) NoMemory)
answered_ok count count' x y answered = record { stays = answered.stays; only = λ lt. absurd (never_fault x NoMemory (answered.only lt)) }

pub answered_err : {A B : Type 0} (count count' : ℕ) (fault : GatherFault) → IsAnswered count count' (IsErrOf (is_err_of A fault) NoMemory) → IsAnswered count count' (IsErrOf (is_err_of B fault) NoMemory)
answered_err {A} {B} count count' fault answered = record { stays = answered.stays; only = λ lt. same_fault A B fault NoMemory (answered.only lt) }

took_nothing : (mid new : Option (List ℕ)) → Took mid new [] → new ≡ mid
took_nothing None new took = took
took_nothing (Some left) new (rest, e, f) = f ∙ ap (λ (t : List ℕ). Some t) (sym e)

-- a read that gave nothing at the end
pub whole_behind : (old mid new : Option (List ℕ)) (count n : ℕ) (text piece : List ℕ) → count ≤ reading_limit → Gathered old mid count text → Took mid new (take n piece) → n ≡ 0 → IfSome mid (λ left. left ≡ [])
    → IfSome old (λ input. Gathers input new text (Ok tt))
whole_behind old mid new count n text piece below g took none end =
    let same : new ≡ mid = took_nothing mid new (rw none at took) in
    rw same (whole old mid count text below g end)

-- a fault that took nothing
pub stopped_still : (old mid new : Option (List ℕ)) (count : ℕ) (text text' : List ℕ) (fault : GatherFault) → Gathered old mid count text → new ≡ mid → IfSome old (λ input. Gathers input new text' (Err fault))
stopped_still old mid new count text text' fault g same = rw same (stopped old mid count text text' fault g)

-- behind an answer without fault no count moved
pub unblamed : {A : Type 0} (source source' : ℕ) (x : A) → BlamesSource source source' (is_ok_of x) → source' ≡ source
unblamed source source' x blames = elim (cases_lt source source') [
  | inl lt ↦ absurd (never_fault x ReadFault (blames.only_read lt))
  | inr ge ↦ omega (arith, blames.stays)
]

pub unanswered : {A : Type 0} (count count' : ℕ) (x : A) → IsAnswered count count' (IsErrOf (is_ok_of x) NoMemory) → count' ≡ count
unanswered count count' x answered = elim (cases_lt count count') [
  | inl lt ↦ absurd (never_fault x NoMemory (answered.only lt))
  | inr ge ↦ omega (arith, answered.stays)
]

pub none_left : (mid new : Option (List ℕ)) (n : ℕ) (piece : List ℕ) → Took mid new (take n piece) → n ≡ 0 → IfSome mid (λ left. left ≡ []) → IfSome new (λ left. left ≡ [])
none_left mid new n piece took none end = let same : new ≡ mid = took_nothing mid new (rw none at took) in rw same end

-- at the limit of reading as much is kept as can be
pub full_at_limit : (old new : Option (List ℕ)) (count : ℕ) (text : List ℕ) → count ≡ reading_limit → Gathered old new count text → length text < kept_limit → ⊥
full_at_limit old new count text at g short = omega (arith, at, g.counted, short, ap (λ (t : List ℕ). length t) g.kept, length-take kept_limit g.octets)
