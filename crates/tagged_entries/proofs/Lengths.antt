-- How long the records are that octets begin.
use Rattle.std.proofs.Common.{◌≡◌, ◌≢◌, ℕ, ◌+◌, ◌/◌, ◌%◌, ◌^◌, ◌<◌, ◌≤◌, List, [], ◌∷◌, ◌++◌, length, get_or, Err, refl, ap, arith, length-append}
use Rattle.bt_base.specs.Octets.{be16}
use Rattle.capture.specs.declared.entry_refusal.EntryRefusal.TheVariants.{Truncated}
use Rattle.capture.specs.EntryReading.{record_octets, IsFront}
use Rattle.tagged_entries.specs.Records.{least_length, LeastIsLeast}

record_long : (tag : ℕ) (payload : List ℕ) → length (record_octets tag payload) ≡ 3 + length payload
record_long tag payload = omega (arith, length-append (be16 (length payload)) payload)

-- a record that octets begin is as long as the length says whose octets are there
least_of : (octets more : List ℕ) (tag : ℕ) (payload : List ℕ) → length payload < 2 ^ 16 → octets ++ more ≡ record_octets tag payload → (least_length octets ≤ 3 + length payload) × (3 ≤ length octets → least_length octets ≡ 3 + length payload)
least_of [] more tag payload short e = (omega arith, λ le. absurd (omega arith))
least_of (a ∷ []) more tag payload short e = (omega arith, λ le. absurd (omega arith))
least_of (a ∷ b ∷ []) more tag payload short e =
    let high : b ≡ length payload / 256 % 256 = ap (λ (t : List ℕ). get_or t 1 0) e in
    (omega arith, λ le. absurd (omega arith))
least_of (a ∷ b ∷ c ∷ rest) more tag payload short e =
    let high : b ≡ length payload / 256 % 256 = ap (λ (t : List ℕ). get_or t 1 0) e in
    let low : c ≡ length payload % 256 = ap (λ (t : List ℕ). get_or t 2 0) e in
    (omega arith, λ le. omega arith)

pub least_is_least : LeastIsLeast
least_is_least octets more tag payload is e = omega (arith, record_long tag payload, (least_of octets more tag payload is.1 e).0)

some_long : (more : List ℕ) → more ≢ [] → 0 < length more
some_long [] some = absurd (some refl)
some_long (x ∷ more) some = omega arith

-- octets that end within a record are shorter than it
pub cut_short : (octets : List ℕ) → IsFront octets (Err Truncated) → length octets < least_length octets
cut_short [] cut = omega arith
cut_short (a ∷ []) cut = omega arith
cut_short (a ∷ b ∷ []) cut = omega arith
cut_short (a ∷ b ∷ c ∷ rest) (tag, payload, more, is, some, e) =
    let least = (least_of (a ∷ b ∷ c ∷ rest) more tag payload is.1 e).1 (omega arith) in
    omega (arith, least, record_long tag payload, ap length e, length-append (a ∷ b ∷ c ∷ rest) more, some_long more some)
