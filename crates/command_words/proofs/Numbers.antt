-- A text is the decimal text of a number exactly where it parses as one that is written as it stands.
use Rattle.std.proofs.Common.{ℕ, ◌≡◌, false, ◌<◌, ◌^◌, ◌∙◌, List, Result, Ok, Err, None, decimal, sym, ap, arith, subst}
use Rattle.std.specs.Str.{bytes_eq}
use Rattle.std.specs.Str.Parse.{ParsesUnsigned}
use Rattle.std.proofs.lemmas.Slice.Eq.{bytes_eq-Decides}
use Rattle.std.proofs.lemmas.Bool.{true≢false}
use Rattle.std.proofs.lemmas.Fmt.{parse-decimal}
use Rattle.command_words.specs.Forms.{IsNumberOf}

wide : (n : ℕ) → n < 2 ^ 32 → n < 2 ^ 64
wide n h = omega (arith, h)

abbrev fails : {E : Type 0} → Result ℕ E → Type 0
fails (Err e) = Unit {0}
fails (Ok number) = ⊥

no_ok : {E : Type 0} (e : E) (number : ℕ) → Err e ≡ Ok number → ⊥
no_ok e number is = subst fails is tt

pub unread : {E : Type 0} (text : List ℕ) (r : Result ℕ E) (e : E) → ParsesUnsigned 32 10 text r → r ≡ Err e → IsNumberOf text None
unread text r e parses is number small spelled = no_ok e number (sym is ∙ parse-decimal 32 number text r small (wide number small) spelled parses)

abbrev ok_of : {E : Type 0} → ℕ → Result ℕ E → ℕ
ok_of other (Ok number) = number
ok_of other (Err e) = other

pub otherwise_written : {E : Type 0} (text : List ℕ) (r : Result ℕ E) (read : ℕ) → ParsesUnsigned 32 10 text r → r ≡ Ok read → (text ≡ decimal read → ⊥) → IsNumberOf text None
otherwise_written text r read parses is differs number small spelled =
    let same : read ≡ number = ap (ok_of 0) (sym is ∙ parse-decimal 32 number text r small (wide number small) spelled parses) in
    differs (spelled ∙ ap decimal (sym same))

pub differ : (text other : List ℕ) → bytes_eq text other ≡ false → text ≡ other → ⊥
differ text other unequal same = true≢false (sym ((bytes_eq-Decides text other).1 same) ∙ unequal)
