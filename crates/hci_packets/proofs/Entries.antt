-- The entries of Number Of Completed Packets.
use Rattle.std.proofs.Common.{◌≡◌, ℕ, ◌*◌, ◌-◌, ◌≤◌, List, [], ◌∷◌, length, take, drop, slice_index, ap, Bool, true, false, cond, Option, Some, None, refl, sym, ◌∙◌, arith}
use Rattle.std.specs.Prelude.{◌||◌, nat_lt}
use Rattle.std.specs.List.{AllByRecursion, list_any}
use Rattle.std.proofs.lemmas.Bool.{le-ltb, ltb-false}
use Rattle.std.proofs.lemmas.List.{take_all}
use Rattle.hci_packets.specs.declared.refusal.HciRefusal.{HciRefusal}
use Rattle.hci_packets.specs.declared.refusal.HciRefusal.TheVariants.{ShortParams, LongParams}
use Rattle.hci_packets.specs.Refusals.{wrong_length, bad_handle}
use Rattle.bt_base.specs.Numbers.{IsHandle}
use Rattle.hci_packets.specs.Events.{entries_of}

-- no entry has a handle that is refused, where each has one that is allowed, and the other way
pub none_bad : (entries : List (ℕ × ℕ)) → AllByRecursion (λ entry. IsHandle entry.0) entries → list_any (λ entry. bad_handle entry.0) entries ≡ false
none_bad [] all = refl
none_bad (e ∷ es) all = rw (le-ltb 0x0EFF e.0 all.0) (none_bad es all.1)

or_false : (a b : Bool) → a || b ≡ false → (a ≡ false) × (b ≡ false)
or_false true b none = absurd cc
or_false false b none = (refl, none)

pub all_handles : (entries : List (ℕ × ℕ)) → list_any (λ entry. bad_handle entry.0) entries ≡ false → AllByRecursion (λ entry. IsHandle entry.0) entries
all_handles [] none = tt
all_handles (e ∷ es) none =
    let both = or_false (bad_handle e.0) (list_any (λ entry. bad_handle entry.0) es) none in
    (ltb-false 0x0EFF e.0 both.0, all_handles es both.1)

-- entries of the right length are refused by what comes after the length alone
pub right_length : (n : ℕ) (params : List ℕ) (next : Option HciRefusal) → length params ≡ n → wrong_length n params next ≡ next
right_length n params next same = rw (le-ltb (length params) n (omega arith), le-ltb n (length params) (omega arith)) refl

ends_whole : {A : Type 0} (a b : Bool) (x y : A) → cond a (Some x) (cond b (Some y) None) ≡ None → (a ≡ false) × (b ≡ false)
ends_whole true b x y none = absurd cc
ends_whole false true x y none = absurd cc
ends_whole false false x y none = (refl, refl)

-- what is known where a length is not refused
length_right : (n : ℕ) (params : List ℕ) → wrong_length n params None ≡ None → length params ≡ n
length_right n params none =
    let tests = ends_whole (nat_lt (length params) n) (nat_lt n (length params)) ShortParams LongParams none in
    omega (arith, ltb-false (length params) n tests.0, ltb-false n (length params) tests.1)

pub entries_allowed : (given count : ℕ) (entries : List ℕ) → given ≡ count → wrong_length (4 * given) entries None ≡ None
    → list_any (λ entry. bad_handle entry.0) (entries_of entries) ≡ false
    → (length entries ≡ 4 * count) × AllByRecursion (λ entry. IsHandle entry.0) (entries_of entries)
entries_allowed given count entries same length_ok handles_ok = (length_right (4 * given) entries length_ok ∙ ap (λ (n : ℕ). 4 * n) same, all_handles (entries_of entries) handles_ok)

pub first_and_rest : (params : List ℕ) → 1 ≤ length params → params ≡ slice_index params 0 ∷ take (length params - 1) (drop 1 params)
first_and_rest [] some = absurd (omega arith)
first_and_rest (x ∷ xs) some = ap (λ (ys : List ℕ). x ∷ ys) (sym (take_all (length (x ∷ xs) - 1) xs (omega arith)))
