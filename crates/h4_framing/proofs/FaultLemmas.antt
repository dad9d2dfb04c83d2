-- A fault stands at the first place where a stream begins no list of packets.
use Rattle.std.proofs.Common.{◌≡◌, ℕ, ◌+◌, ◌*◌, ◌/◌, ◌%◌, ◌<◌, ◌≤◌, List, [], ◌∷◌, ◌++◌, length, take, refl, sym, ap, subst, ◌∙◌, append_assoc, arith}
use Rattle.std.specs.List.{AllByRecursion}
use Rattle.std.proofs.lemmas.List.{append-nil, length-append}
use Rattle.std.proofs.lemmas.List.Concat.{flat_map-append}
use Rattle.std.proofs.Math.Seq.{take-append-add}
use Rattle.bt_base.specs.Octets.{le16}
use Rattle.h4_framing.specs.declared.refusal.H4Refusal.{H4Refusal}
use Rattle.h4_framing.specs.declared.refusal.H4Refusal.TheVariants.{BadIndicator, AclTooLong, Truncated}
use Rattle.h4_framing.specs.Packets.{Packet, spelling, spellings, IsPacket}
use Rattle.h4_framing.specs.Stream.{Begins, IsUnfinished, GoesWrong, Whole, Cut, Fault, Reads, IsFaultPlace}
use Rattle.h4_framing.proofs.OctetLists.{IsOctets-cons, IsOctets-zeros}
use Rattle.h4_framing.proofs.ExtentLemmas.{acl, padded_unfinished, wrong_more}
use Rattle.h4_framing.proofs.ReadingLemmas.{wrong_none, nothing_none, no_wrong_nothing, same_split, all_append}
use Rattle.h4_framing.proofs.TakingLemmas.{nothing_unfinished}

pub spellings_append : (ps qs : List Packet) → spellings (ps ++ qs) ≡ spellings ps ++ spellings qs
spellings_append ps qs = flat_map-append spelling ps qs

pub spellings_push : (ps : List Packet) (p : Packet) → spellings (ps ++ p ∷ []) ≡ spellings ps ++ spelling p
spellings_push ps p = spellings_append ps (p ∷ []) ∙ ap (λ (xs : List ℕ). spellings ps ++ xs) (append-nil (spelling p))

unfinished_begins : (limit : ℕ) (ps : List Packet) (rest : List ℕ) → AllByRecursion (IsPacket limit) ps → IsUnfinished limit rest → Begins limit (spellings ps ++ rest)
unfinished_begins limit ps rest fits u = (
  ps ++ u.0 ∷ [],
  u.1.0,
  all_append (IsPacket limit) ps (u.0 ∷ []) fits (u.1.1, tt),
  append_assoc (spellings ps) rest u.1.0 ∙ ap (λ (xs : List ℕ). spellings ps ++ xs) u.1.3 ∙ sym (spellings_push ps u.0),
)

pub whole_begins : (limit : ℕ) (stream : List ℕ) (ps : List Packet) → Reads limit stream ps Whole → Begins limit stream
whole_begins limit stream ps h = (ps, [], h.each, append-nil stream ∙ h.whole ∙ ap (λ (xs : List ℕ). spellings ps ++ xs) h.ends ∙ append-nil (spellings ps))

pub cut_begins : (limit : ℕ) (stream : List ℕ) (ps : List Packet) → Reads limit stream ps Cut → Begins limit stream
cut_begins limit stream ps h = subst (Begins limit) (sym h.whole) (unfinished_begins limit ps h.rest h.each h.ends.1)

-- up to a length that is too great, all is well
before_size : (limit word size : ℕ) → 255 ≤ limit → IsUnfinished limit (2 ∷ (word % 256) ∷ (word / 256 % 256) ∷ (size % 256) ∷ [])
before_size limit word size low =
    let a : ℕ = word % 256 in
    let b : ℕ = word / 256 % 256 in
    let l : ℕ = size % 256 in
    padded_unfinished limit (2 ∷ a ∷ b ∷ l ∷ []) (0 ∷ []) (5 + (l + 256 * 0)) (acl a b l 0 [] refl (omega arith) refl)
    (IsOctets-cons 2 (a ∷ b ∷ l ∷ []) (omega arith) (IsOctets-cons a (b ∷ l ∷ []) (omega arith) (IsOctets-cons b (l ∷ []) (omega arith) (IsOctets-cons l [] (omega arith) (IsOctets-zeros 0)))))
    (IsOctets-zeros 1) (omega arith) (omega arith)

-- octets that go wrong at n: there are more than n, the first n are well, and n and one more are not
record WrongAt (limit : ℕ) (rest : List ℕ) (r : H4Refusal) (n : ℕ) : Type 0 where
  within : n < length rest
  before : IsUnfinished limit (take n rest)
  there : GoesWrong limit (take (n + 1) rest) r n

wrong_at : (limit : ℕ) (rest : List ℕ) (r : H4Refusal) (n : ℕ) → 255 ≤ limit → GoesWrong limit rest r n → WrongAt limit rest r n
wrong_at limit rest BadIndicator n low h =
    let is : n ≡ 0 = h.4 in
    let first : take (n + 1) rest ≡ h.0 ∷ [] = ap (λ (k : ℕ). take (k + 1) rest) is ∙ ap (take 1) h.2 in
    let none : take n rest ≡ [] = ap (λ (k : ℕ). take k rest) is in
    record {
      within = omega (arith, ap length h.2);
      before = subst (IsUnfinished limit) (sym none) (nothing_unfinished limit);
      there = (h.0, [], first, h.3, is);
    }
wrong_at limit rest AclTooLong n low h =
    let is : n ≡ 4 = h.6 in
    let front : take n rest ≡ 2 ∷ (h.0 % 256) ∷ (h.0 / 256 % 256) ∷ (h.1 % 256) ∷ [] = ap (λ (k : ℕ). take k rest) is ∙ ap (take 4) h.3 in
    let more : take (n + 1) rest ≡ 2 ∷ (le16 h.0 ++ le16 h.1 ++ []) = ap (λ (k : ℕ). take (k + 1) rest) is ∙ ap (take 5) h.3 in
    record {
      within = omega (arith, ap length h.3);
      before = subst (IsUnfinished limit) (sym front) (before_size limit h.0 h.1 low);
      there = (h.0, h.1, [], more, h.4, h.5, is);
    }
wrong_at limit rest Truncated n low h = absurd h

-- where octets go wrong no list of packets goes on
wrong_begins_none : (limit : ℕ) (ps : List Packet) (rest : List ℕ) (r : H4Refusal) (n : ℕ) → AllByRecursion (IsPacket limit) ps → GoesWrong limit rest r n → Begins limit (spellings ps ++ rest) → ⊥
wrong_begins_none limit ps rest r n fits h b =
    let wrong = wrong_more limit rest b.1 r n h in
    let same = same_split limit ps b.0 (rest ++ b.1) [] fits b.2 (wrong_none limit (rest ++ b.1) r n wrong) (nothing_none limit)
    (sym (append_assoc (spellings ps) rest b.1) ∙ b.3 ∙ sym (append-nil (spellings b.0))) in
    no_wrong_nothing limit r n (subst (λ (xs : List ℕ). GoesWrong limit xs r n) same.1 wrong)

pub fault_first : (limit : ℕ) (stream : List ℕ) (ps : List Packet) (r : H4Refusal) (place : ℕ) → 255 ≤ limit → Reads limit stream ps (Fault r place) → IsFaultPlace limit stream place
fault_first limit stream ps r place low h =
    let n = h.ends.0 in
    let at = wrong_at limit h.rest r n low h.ends.1 in
    let long : ℕ = length (spellings ps) in
    let front : take place stream ≡ spellings ps ++ take n h.rest =
    ap (λ (k : ℕ). take k stream) h.ends.2 ∙ ap (take (long + n)) h.whole ∙ take-append-add (spellings ps) h.rest n in
    let next : place + 1 ≡ long + (n + 1) = let e = h.ends.2 in omega arith in
    let through : take (place + 1) stream ≡ spellings ps ++ take (n + 1) h.rest =
    ap (λ (k : ℕ). take k stream) next ∙ ap (take (long + (n + 1))) h.whole ∙ take-append-add (spellings ps) h.rest (n + 1) in
    record {
      within = let e = h.ends.2 in omega (arith, at.within, ap length h.whole, length-append (spellings ps) h.rest);
      before = subst (Begins limit) (sym front) (unfinished_begins limit ps (take n h.rest) h.each at.before);
      there = λ b. wrong_begins_none limit ps (take (n + 1) h.rest) r n h.each at.there (subst (Begins limit) through b);
    }
