-- Options that were written are read again.
use Rattle.std.proofs.Common.{◌≡◌, ℕ, zero, suc, ◌+◌, ◌*◌, ◌/◌, ◌%◌, ◌^◌, ◌<◌, List, [], ◌∷◌, ◌++◌, Option, Some, None, Ok, refl, sym, ap, ◌∙◌, arith}
use Rattle.std.specs.Prelude.{IfSome}
use Rattle.std.specs.List.{AllByRecursion}
use Rattle.std.specs.Option.{option_or}
use Rattle.bt_base.specs.Octets.{IsOctets, le16}
use Rattle.l2cap_config.specs.declared.options.ModeOption.{ModeOption}
use Rattle.l2cap_config.specs.declared.options.Options.{Options}
use Rattle.l2cap_config.specs.Items.{Item, IsItem, options_in, joined, no_options, mode_in, word_at}
use Rattle.l2cap_config.specs.Reading.{stated}
use Rattle.l2cap_config.specs.Writing.{mtu_items, mode_items, fcs_items, items_for, mode_value}
use Rattle.l2cap_config.specs.Laws.{FitsMode, Fits, WrittenIsRead}
use Rattle.l2cap_config.proofs.ItemLists.{options-append, items_again, same_options}

word_is : (n : ℕ) → n < 2 ^ 16 → n % 256 + 256 * (n / 256 % 256 + 256 * 0) ≡ n
word_is n fits = omega arith

all-append : (xs ys : List Item) → AllByRecursion IsItem xs → AllByRecursion IsItem ys → AllByRecursion IsItem (xs ++ ys)
all-append [] ys p q = q
all-append (x ∷ xs) ys p q = (p.0, all-append xs ys p.1 q)

no_octets : IsOctets []
no_octets i = omega arith

octet_more : (n : ℕ) (xs : List ℕ) → n < 256 → IsOctets xs → IsOctets (n ∷ xs)
octet_more n xs p q zero = p
octet_more n xs p q (suc i) = q i

word_octets : (n : ℕ) (xs : List ℕ) → IsOctets xs → IsOctets (le16 n ++ xs)
word_octets n xs q = octet_more (n % 256) (n / 256 % 256 ∷ xs) (omega arith) (octet_more (n / 256 % 256) xs (omega arith) q)

mtu_fit : (mtu : Option ℕ) → IfSome mtu (λ n. n < 2 ^ 16) → AllByRecursion IsItem (mtu_items mtu)
mtu_fit None fits = tt
mtu_fit (Some n) fits = (record { octet = omega arith; short = omega arith; value = word_octets n [] no_octets; size = refl }, tt)

mode_octets : (m : ModeOption) → FitsMode m → IsOctets (mode_value m)
mode_octets m fits =
    let third : List ℕ = le16 m.mps ++ [] in
    let second : List ℕ = le16 m.monitor ++ third in
    let first : List ℕ = le16 m.retransmit ++ second in
    let times : IsOctets first = word_octets m.retransmit second (word_octets m.monitor third (word_octets m.mps [] no_octets)) in
    octet_more m.mode (m.window ∷ m.tries ∷ first) fits.mode (octet_more m.window (m.tries ∷ first) fits.window (octet_more m.tries first fits.tries times))

mode_fit : (mode : Option ModeOption) → IfSome mode FitsMode → AllByRecursion IsItem (mode_items mode)
mode_fit None fits = tt
mode_fit (Some m) fits = (record { octet = omega arith; short = omega arith; value = mode_octets m fits; size = refl }, tt)

fcs_fit : (fcs : Option ℕ) → IfSome fcs (λ n. n < 256) → AllByRecursion IsItem (fcs_items fcs)
fcs_fit None fits = tt
fcs_fit (Some n) fits = (record { octet = omega arith; short = omega arith; value = octet_more n [] fits no_octets; size = refl }, tt)

abbrev with_mtu : Option ℕ → Options
with_mtu mtu = record no_options { mtu = mtu }

abbrev with_mode : Option ModeOption → Options
with_mode mode = record no_options { mode = mode }

abbrev with_fcs : Option ℕ → Options
with_fcs fcs = record no_options { fcs = fcs }

mtu_again : (mtu : Option ℕ) → IfSome mtu (λ n. n < 2 ^ 16) → options_in (mtu_items mtu) ≡ with_mtu mtu
mtu_again None fits = refl
mtu_again (Some n) fits = ap (λ (k : ℕ). with_mtu (Some k)) (word_is n fits)

mode_read : (m : ModeOption) → FitsMode m → mode_in (mode_value m) ≡ m
mode_read m fits =
    let make : ℕ → ℕ → ℕ → ModeOption = λ r t p. record { mode = m.mode; window = m.window; tries = m.tries; retransmit = r; monitor = t; mps = p } in
    let r : word_at 3 (mode_value m) ≡ m.retransmit = word_is m.retransmit fits.retransmit in
    let t : word_at 5 (mode_value m) ≡ m.monitor = word_is m.monitor fits.monitor in
    let p : word_at 7 (mode_value m) ≡ m.mps = word_is m.mps fits.mps in
    ap (λ (k : ℕ). make k (word_at 5 (mode_value m)) (word_at 7 (mode_value m))) r
    ∙ ap (λ (k : ℕ). make m.retransmit k (word_at 7 (mode_value m))) t
    ∙ ap (make m.retransmit m.monitor) p

mode_again : (mode : Option ModeOption) → IfSome mode FitsMode → options_in (mode_items mode) ≡ with_mode mode
mode_again None fits = refl
mode_again (Some m) fits = ap (λ (k : ModeOption). with_mode (Some k)) (mode_read m fits)

fcs_again : (fcs : Option ℕ) → options_in (fcs_items fcs) ≡ with_fcs fcs
fcs_again None = refl
fcs_again (Some n) = refl

or_nothing : {A : Type 0} (x : Option A) → option_or x None ≡ x
or_nothing None = refl
or_nothing (Some x) = refl

options_again : (o : Options) → Fits o → options_in (items_for o) ≡ o
options_again o fits =
    options-append (mtu_items o.mtu) (mode_items o.mode ++ fcs_items o.fcs)
    ∙ ap (joined (options_in (mtu_items o.mtu))) (options-append (mode_items o.mode) (fcs_items o.fcs))
    ∙ ap (λ (x : Options). joined x (joined (options_in (mode_items o.mode)) (options_in (fcs_items o.fcs)))) (mtu_again o.mtu fits.mtu)
    ∙ ap (λ (x : Options). joined (with_mtu o.mtu) (joined x (options_in (fcs_items o.fcs)))) (mode_again o.mode fits.mode)
    ∙ ap (λ (x : Options). joined (with_mtu o.mtu) (joined (with_mode o.mode) x)) (fcs_again o.fcs)
    ∙ same_options (joined (with_mtu o.mtu) (joined (with_mode o.mode) (with_fcs o.fcs))) o refl (or_nothing o.mode) (ap (λ (x : Option ℕ). option_or x None) (or_nothing o.fcs) ∙ or_nothing o.fcs) (sym fits.unknown)

pub written_read : WrittenIsRead
written_read o fits =
    let fit : AllByRecursion IsItem (items_for o) = all-append (mtu_items o.mtu) (mode_items o.mode ++ fcs_items o.fcs) (mtu_fit o.mtu fits.mtu) (all-append (mode_items o.mode) (fcs_items o.fcs) (mode_fit o.mode fits.mode) (fcs_fit o.fcs fits.fcs)) in
    ap stated (items_again (items_for o) fit) ∙ ap Ok (options_again o fits)
