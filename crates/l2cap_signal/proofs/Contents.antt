-- A payload is read as what it says, and as nothing else.
use Rattle.std.proofs.Common.{◌≡◌, ℕ, zero, suc, ◌+◌, ◌*◌, ◌/◌, ◌%◌, ◌^◌, ◌<◌, ◌≤◌, Bool, true, false, cond, eqb, ltb, List, [], ◌∷◌, ◌++◌, length, get_or, drop, Option, Some, None, refl, sym, ap, subst, ◌∙◌, arith, drop-cons}
use Rattle.std.specs.List.{AllByRecursion}
use Rattle.std.proofs.lemmas.Bool.{eqb-true, ltb-false, le-ltb}
use Rattle.std.proofs.lemmas.List.{get_or-drop, nil_from_length, length-drop}
use Rattle.bt_base.specs.Octets.{IsOctets, le16}
use Rattle.l2cap_signal.specs.Commands.{Content, reject, connection_request, connection_response, configuration_request, configuration_response, disconnection_request, disconnection_response, echo_request, echo_response, information_request, information_response, code_of, words_of, rest_of, payload_of, IsContent}
use Rattle.l2cap_signal.specs.Reading.{word_at, exactly, at_least, content_of}
use Rattle.l2cap_signal.specs.Grammar.{Says}

-- ---- what was written

word_is : (n : ℕ) → n < 2 ^ 16 → n % 256 + 256 * (n / 256 % 256 + 256 * 0) ≡ n
word_is n fits = omega arith

exactly_is : (size : ℕ) (p : List ℕ) (what : Content) → length p ≡ size → exactly size p what ≡ Some what
exactly_is size p what e = let t : eqb (length p) size ≡ true = grind arith in rw t refl

at_least_is : (size : ℕ) (p : List ℕ) (what : Content) → size ≤ length p → at_least size p what ≡ Some what
at_least_is size p what le = rw (le-ltb _ _ le) refl

pub content_again : (what : Content) → IsContent what → content_of (code_of what) (payload_of what) ≡ Some what
content_again (reject reason rest) fits = at_least_is 2 (payload_of (reject reason rest)) _ (omega arith) ∙ rw (word_is reason fits.words.0) refl
content_again (connection_request psm source) fits = rw (word_is psm fits.words.0, word_is source fits.words.1.0) refl
content_again (connection_response destination source answer status) fits = rw (word_is destination fits.words.0, word_is source fits.words.1.0, word_is answer fits.words.1.1.0, word_is status fits.words.1.1.1.0) refl
content_again (configuration_request destination flags options) fits = at_least_is 4 (payload_of (configuration_request destination flags options)) _ (omega arith) ∙ rw (word_is destination fits.words.0, word_is flags fits.words.1.0) refl
content_again (configuration_response source flags answer options) fits = at_least_is 6 (payload_of (configuration_response source flags answer options)) _ (omega arith) ∙ rw (word_is source fits.words.0, word_is flags fits.words.1.0, word_is answer fits.words.1.1.0) refl
content_again (disconnection_request destination source) fits = rw (word_is destination fits.words.0, word_is source fits.words.1.0) refl
content_again (disconnection_response destination source) fits = rw (word_is destination fits.words.0, word_is source fits.words.1.0) refl
content_again (echo_request octets) fits = refl
content_again (echo_response octets) fits = refl
content_again (information_request kind) fits = rw (word_is kind fits.words.0) refl
content_again (information_response kind answer rest) fits = at_least_is 4 (payload_of (information_response kind answer rest)) _ (omega arith) ∙ rw (word_is kind fits.words.0, word_is answer fits.words.1.0) refl

-- ---- what was read

-- two octets from a place on, and what stands behind them
pub word_split : (i j : ℕ) (p : List ℕ) → IsOctets p → j ≡ suc (suc i) → j ≤ length p → drop i p ≡ le16 (word_at i p) ++ drop j p
word_split i j p fits e le =
    let a = get_or p i 0 in
    let b = get_or p (suc i) 0 in
    let low : (a + 256 * (b + 0)) % 256 ≡ a = omega (arith, fits i) in
    let high : (a + 256 * (b + 0)) / 256 % 256 ≡ b = omega (arith, fits i, fits (suc i)) in
    let cells : drop i p ≡ a ∷ b ∷ drop j p = drop-cons p i 0 (omega arith) ∙ ap (λ (x : List ℕ). a ∷ x) (drop-cons p (suc i) 0 (omega arith) ∙ ap (λ (k : ℕ). b ∷ drop k p) (sym e)) in
    rw (low, high) cells

pub word_below : (i : ℕ) (p : List ℕ) → IsOctets p → word_at i p < 2 ^ 16
word_below i p fits = omega (arith, fits i, fits (suc i))

pub octets_behind : (n : ℕ) (p : List ℕ) → IsOctets p → IsOctets (drop n p)
octets_behind n p fits i = rw get_or-drop (fits (n + i))

no_octets : IsOctets []
no_octets i = omega arith

yes_was : {A : Type 0} (b : Bool) (x y : A) → cond b (Some x) None ≡ Some y → (b ≡ true) × (x ≡ y)
yes_was true x y e = (refl, cc)
yes_was false x y e = absurd cc

no_was : {A : Type 0} (b : Bool) (x y : A) → cond b None (Some x) ≡ Some y → (b ≡ false) × (x ≡ y)
no_was true x y e = absurd cc
no_was false x y e = (refl, cc)

exactly_was : (size : ℕ) (p : List ℕ) (c what : Content) → exactly size p c ≡ Some what → (length p ≡ size) × (c ≡ what)
exactly_was size p c what e = let g = yes_was (eqb (length p) size) c what e in (eqb-true _ _ g.0, g.1)

at_least_was : (size : ℕ) (p : List ℕ) (c what : Content) → at_least size p c ≡ Some what → (size ≤ length p) × (c ≡ what)
at_least_was size p c what e = let g = no_was (ltb (length p) size) c what e in (ltb-false _ _ g.0, g.1)

-- what was read of a payload under a code is what it says
abbrev Read : ℕ → List ℕ → Option Content → Type 0
Read code p read = (what : Content) → read ≡ Some what → Says code p what

says : (code : ℕ) (p : List ℕ) (what : Content) → code ≡ code_of what → p ≡ payload_of what → AllByRecursion (λ n. n < 2 ^ 16) (words_of what) → IsOctets (rest_of what) → length p < 2 ^ 16 → Says code p what
says code p what code_is payload_is words rest small =
    record { code_is = code_is; payload_is = payload_is; fits = record { words = words; rest = rest; size = subst (λ (x : List ℕ). length x < 2 ^ 16) payload_is small } }

at_least_read : (code size : ℕ) (p : List ℕ) (c : Content) → (size ≤ length p → Says code p c) → Read code p (at_least size p c)
at_least_read code size p c ok what e = let g = at_least_was size p c what e in subst (Says code p) g.1 (ok g.0)

exactly_read : (code size : ℕ) (p : List ℕ) (c : Content) → (length p ≡ size → Says code p c) → Read code p (exactly size p c)
exactly_read code size p c ok what e = let g = exactly_was size p c what e in subst (Says code p) g.1 (ok g.0)

one_word : (p : List ℕ) → IsOctets p → 2 ≤ length p → p ≡ le16 (word_at 0 p) ++ drop 2 p
one_word p fits le = word_split 0 2 p fits refl le

two_words : (p : List ℕ) → IsOctets p → 4 ≤ length p → p ≡ le16 (word_at 0 p) ++ (le16 (word_at 2 p) ++ drop 4 p)
two_words p fits le = one_word p fits (omega arith) ∙ ap (λ (x : List ℕ). le16 (word_at 0 p) ++ x) (word_split 2 4 p fits refl le)

three_words : (p : List ℕ) → IsOctets p → 6 ≤ length p → p ≡ le16 (word_at 0 p) ++ (le16 (word_at 2 p) ++ (le16 (word_at 4 p) ++ drop 6 p))
three_words p fits le = two_words p fits (omega arith) ∙ ap (λ (x : List ℕ). le16 (word_at 0 p) ++ (le16 (word_at 2 p) ++ x)) (word_split 4 6 p fits refl le)

four_words : (p : List ℕ) → IsOctets p → 8 ≤ length p → p ≡ le16 (word_at 0 p) ++ (le16 (word_at 2 p) ++ (le16 (word_at 4 p) ++ (le16 (word_at 6 p) ++ drop 8 p)))
four_words p fits le = three_words p fits (omega arith) ∙ ap (λ (x : List ℕ). le16 (word_at 0 p) ++ (le16 (word_at 2 p) ++ (le16 (word_at 4 p) ++ x))) (word_split 6 8 p fits refl le)

nothing_behind : (n : ℕ) (p : List ℕ) → length p ≡ n → drop n p ≡ []
nothing_behind n p e = nil_from_length (drop n p) (omega (arith, length-drop n p))

two_alone : (p : List ℕ) → IsOctets p → length p ≡ 4 → p ≡ le16 (word_at 0 p) ++ (le16 (word_at 2 p) ++ [])
two_alone p fits e = two_words p fits (omega arith) ∙ ap (λ (x : List ℕ). le16 (word_at 0 p) ++ (le16 (word_at 2 p) ++ x)) (nothing_behind 4 p e)

row_01 : (p : List ℕ) → IsOctets p → length p < 2 ^ 16 → Read 1 p (content_of 1 p)
row_01 p fits small = at_least_read 1 2 p (reject (word_at 0 p) (drop 2 p)) (λ le.
    says 1 p _ refl (one_word p fits le) (word_below 0 p fits, tt) (octets_behind 2 p fits) small)

row_02 : (p : List ℕ) → IsOctets p → length p < 2 ^ 16 → Read 2 p (content_of 2 p)
row_02 p fits small = exactly_read 2 4 p (connection_request (word_at 0 p) (word_at 2 p)) (λ e.
    says 2 p _ refl (two_alone p fits e) (word_below 0 p fits, (word_below 2 p fits, tt)) no_octets small)

row_03 : (p : List ℕ) → IsOctets p → length p < 2 ^ 16 → Read 3 p (content_of 3 p)
row_03 p fits small = exactly_read 3 8 p (connection_response (word_at 0 p) (word_at 2 p) (word_at 4 p) (word_at 6 p)) (λ e.
    let whole = four_words p fits (omega arith) ∙ ap (λ (x : List ℕ). le16 (word_at 0 p) ++ (le16 (word_at 2 p) ++ (le16 (word_at 4 p) ++ (le16 (word_at 6 p) ++ x)))) (nothing_behind 8 p e) in
    says 3 p _ refl whole (word_below 0 p fits, (word_below 2 p fits, (word_below 4 p fits, (word_below 6 p fits, tt)))) no_octets small)

row_04 : (p : List ℕ) → IsOctets p → length p < 2 ^ 16 → Read 4 p (content_of 4 p)
row_04 p fits small = at_least_read 4 4 p (configuration_request (word_at 0 p) (word_at 2 p) (drop 4 p)) (λ le.
    says 4 p _ refl (two_words p fits le) (word_below 0 p fits, (word_below 2 p fits, tt)) (octets_behind 4 p fits) small)

row_05 : (p : List ℕ) → IsOctets p → length p < 2 ^ 16 → Read 5 p (content_of 5 p)
row_05 p fits small = at_least_read 5 6 p (configuration_response (word_at 0 p) (word_at 2 p) (word_at 4 p) (drop 6 p)) (λ le.
    says 5 p _ refl (three_words p fits le) (word_below 0 p fits, (word_below 2 p fits, (word_below 4 p fits, tt))) (octets_behind 6 p fits) small)

row_06 : (p : List ℕ) → IsOctets p → length p < 2 ^ 16 → Read 6 p (content_of 6 p)
row_06 p fits small = exactly_read 6 4 p (disconnection_request (word_at 0 p) (word_at 2 p)) (λ e.
    says 6 p _ refl (two_alone p fits e) (word_below 0 p fits, (word_below 2 p fits, tt)) no_octets small)

row_07 : (p : List ℕ) → IsOctets p → length p < 2 ^ 16 → Read 7 p (content_of 7 p)
row_07 p fits small = exactly_read 7 4 p (disconnection_response (word_at 0 p) (word_at 2 p)) (λ e.
    says 7 p _ refl (two_alone p fits e) (word_below 0 p fits, (word_below 2 p fits, tt)) no_octets small)

some_is : (x y : Content) → Some x ≡ Some y → x ≡ y
some_is x y e = cc

row_08 : (p : List ℕ) → IsOctets p → length p < 2 ^ 16 → Read 8 p (content_of 8 p)
row_08 p fits small what e = subst (Says 8 p) (some_is (echo_request p) what e) (says 8 p (echo_request p) refl refl tt fits small)

row_09 : (p : List ℕ) → IsOctets p → length p < 2 ^ 16 → Read 9 p (content_of 9 p)
row_09 p fits small what e = subst (Says 9 p) (some_is (echo_response p) what e) (says 9 p (echo_response p) refl refl tt fits small)

row_0A : (p : List ℕ) → IsOctets p → length p < 2 ^ 16 → Read 10 p (content_of 10 p)
row_0A p fits small = exactly_read 10 2 p (information_request (word_at 0 p)) (λ e.
    let whole = one_word p fits (omega arith) ∙ ap (λ (x : List ℕ). le16 (word_at 0 p) ++ x) (nothing_behind 2 p e) in
    says 10 p _ refl whole (word_below 0 p fits, tt) no_octets small)

row_0B : (p : List ℕ) → IsOctets p → length p < 2 ^ 16 → Read 11 p (content_of 11 p)
row_0B p fits small = at_least_read 11 4 p (information_response (word_at 0 p) (word_at 2 p) (drop 4 p)) (λ le.
    says 11 p _ refl (two_words p fits le) (word_below 0 p fits, (word_below 2 p fits, tt)) (octets_behind 4 p fits) small)

pub content_is : (code : ℕ) (p : List ℕ) → 1 ≤ code → code ≤ 11 → IsOctets p → length p < 2 ^ 16 → Read code p (content_of code p)
content_is zero p low high fits small = absurd (omega arith)
content_is (suc zero) p low high fits small = row_01 p fits small
content_is (suc (suc zero)) p low high fits small = row_02 p fits small
content_is (suc (suc (suc zero))) p low high fits small = row_03 p fits small
content_is (suc (suc (suc (suc zero)))) p low high fits small = row_04 p fits small
content_is (suc (suc (suc (suc (suc zero))))) p low high fits small = row_05 p fits small
content_is (suc (suc (suc (suc (suc (suc zero)))))) p low high fits small = row_06 p fits small
content_is (suc (suc (suc (suc (suc (suc (suc zero))))))) p low high fits small = row_07 p fits small
content_is (suc (suc (suc (suc (suc (suc (suc (suc zero)))))))) p low high fits small = row_08 p fits small
content_is (suc (suc (suc (suc (suc (suc (suc (suc (suc zero))))))))) p low high fits small = row_09 p fits small
content_is (suc (suc (suc (suc (suc (suc (suc (suc (suc (suc zero)))))))))) p low high fits small = row_0A p fits small
content_is (suc (suc (suc (suc (suc (suc (suc (suc (suc (suc (suc zero))))))))))) p low high fits small = row_0B p fits small
content_is (suc (suc (suc (suc (suc (suc (suc (suc (suc (suc (suc (suc n)))))))))))) p low high fits small = absurd (omega arith)
