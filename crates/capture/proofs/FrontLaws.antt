-- What stands at the front of octets.
use Rattle.std.proofs.Common.{◌≡◌, ◌≢◌, ℕ, zero, suc, ◌-◌, ◌*◌, ◌/◌, ◌%◌, ◌≤◌, ◌^◌, ◌<◌, List, [], ◌∷◌, ◌++◌, length, take, drop, replicate, Err, refl, sym, ap, subst, ◌∙◌, arith, append_assoc, length-append}
use Rattle.std.proofs.lemmas.List.{length-replicate, append-nil, length-take-le, take-append-drop}
use Rattle.bt_base.specs.Octets.{IsOctets, be16}
use Rattle.h4_framing.specs.declared.leading.Leading.TheVariants as leading
use Rattle.h4_framing.specs.declared.unit.Unit.{Unit}
use Rattle.h4_framing.specs.Packets.{Packet, spelling, IsPacket}
use Rattle.h4_framing.specs.Leading.{IsLeading}
use Rattle.h4_framing.proofs.ReadingLemmas.{written_is_read}
use Rattle.capture.specs.declared.entry_refusal.EntryRefusal.TheVariants.{Truncated}
use Rattle.capture.specs.EntryReading.{IsTag, record_octets, IsFront}

-- ---- octets that end within a record

none_left : {x : ℕ} {xs : List ℕ} → x ∷ xs ≢ []
none_left e = absurd cc

abbrev zeros : ℕ → List ℕ
zeros n = replicate n 0

zeros_long : (n : ℕ) → length (zeros n) ≡ n
zeros_long n = length-replicate {A = ℕ} n 0

zeros_some : (n : ℕ) → 0 < n → zeros n ≢ []
zeros_some zero some = absurd (omega arith)
zeros_some (suc n) some = none_left

pub cut_at_once : (octets : List ℕ) → octets ≡ [] → IsFront octets (Err Truncated)
cut_at_once octets none = (1, [], record_octets 1 [], ((omega arith, omega arith), omega arith), none_left, ap (λ (xs : List ℕ). xs ++ record_octets 1 []) none)

-- octets before some others, so that a record is whole
cut_before : (octets : List ℕ) (tag : ℕ) (payload more behind : List ℕ) → IsTag tag → length payload < 2 ^ 16 → more ≢ [] → octets ≡ tag ∷ behind → behind ++ more ≡ be16 (length payload) ++ payload → IsFront octets (Err Truncated)
cut_before octets tag payload more behind is short some e1 e2 = (tag, payload, more, (is, short), some, ap (λ (xs : List ℕ). xs ++ more) e1 ∙ ap (λ (xs : List ℕ). tag ∷ xs) e2)

high_octet : (n high : ℕ) → high < 256 → n ≡ 256 * high → be16 n ≡ high ∷ 0 ∷ []
high_octet n high fits e =
    let first : n / 256 % 256 ≡ high = omega arith in
    let second : n % 256 ≡ 0 = omega arith in
    rw (first, second) refl

pub cut_in_head : (octets : List ℕ) (tag : ℕ) (behind : List ℕ) → IsOctets octets → IsTag tag → octets ≡ tag ∷ behind → length behind < 2 → IsFront octets (Err Truncated)
cut_in_head octets tag [] fits is e short = cut_before octets tag [] (0 ∷ 0 ∷ []) [] is (omega arith) none_left e refl
cut_in_head octets tag (high ∷ []) fits is e short =
    let all : IsOctets (tag ∷ high ∷ []) = subst IsOctets e fits in
    let low : high < 256 = all 1 in
    let payload : List ℕ = zeros (256 * high) in
    let long : length payload ≡ 256 * high = zeros_long (256 * high) in
    cut_before octets tag payload (0 ∷ payload) (high ∷ []) is (omega arith) none_left e (ap (λ (head : List ℕ). head ++ payload) (sym (high_octet (length payload) high low long)))
cut_in_head octets tag (high ∷ low ∷ more) fits is e short = absurd (omega arith)

pub cut_in_body : (octets : List ℕ) (tag : ℕ) (behind : List ℕ) (n : ℕ) (body : List ℕ) → IsTag tag → octets ≡ tag ∷ behind → behind ≡ be16 n ++ body → n < 2 ^ 16 → length body < n → IsFront octets (Err Truncated)
cut_in_body octets tag behind n body is e1 e2 small short =
    let left : ℕ = n - length body in
    let more : List ℕ = zeros left in
    let long : length (body ++ more) ≡ n = omega (arith, length-append body more, zeros_long left) in
    cut_before octets tag (body ++ more) more behind is (omega arith) (zeros_some left (omega arith)) e1
    (ap (λ (xs : List ℕ). xs ++ more) e2 ∙ append_assoc (be16 n) body more ∙ ap (λ (k : ℕ). be16 k ++ (body ++ more)) (sym long))

-- ---- a whole record

pub whole_record : (octets : List ℕ) (tag : ℕ) (behind : List ℕ) (n : ℕ) (body payload : List ℕ) → octets ≡ tag ∷ behind → behind ≡ be16 n ++ body → n ≤ length body → payload ≡ take n body → (length payload ≡ n) × (octets ≡ record_octets tag payload ++ drop n body)
whole_record octets tag behind n body payload e1 e2 within e3 =
    let long : length payload ≡ n = ap length e3 ∙ length-take-le n body within in (
      long,
      e1 ∙ ap (λ (xs : List ℕ). tag ∷ xs) e2
          ∙ ap (λ (xs : List ℕ). tag ∷ (be16 n ++ xs)) (sym (take-append-drop n body))
          ∙ ap (λ (xs : List ℕ). tag ∷ (be16 n ++ (xs ++ drop n body))) (sym e3)
          ∙ ap (λ (k : ℕ). tag ∷ (be16 k ++ (payload ++ drop n body))) (sym long),
    )

-- ---- payloads

-- a packet that is a whole payload is what leads it
pub whole_only : (payload : List ℕ) (unit : Unit) (n : ℕ) (p : Packet) → IsLeading 65535 payload (leading.Whole unit n) → IsPacket 65535 p → spelling p ≡ payload → n ≡ length payload
whole_only payload unit n p leads is e =
    let read = written_is_read 65535 p [] (leading.Whole unit n) is (subst (λ xs. IsLeading 65535 xs (leading.Whole unit n)) (sym e ∙ sym (append-nil (spelling p))) leads) in
    read.1 ∙ ap length e
