-- What an assembler answers is what stands at the front of its stream.
use Rattle.std.proofs.Common.{◌≡◌, ℕ, ◌≤◌, Bool, true, false, List, [], ◌∷◌, ◌++◌, length, take, drop, nat_lt, length-append, refl, ap, ◌∙◌, if◌then◌else◌, arith, inl, inr}
use Rattle.std.proofs.lemmas.Bool.{lt-ltb, le-ltb}
use Rattle.std.proofs.lemmas.Grind.{common_steps}
use Rattle.obex_headers.specs.declared.fault.ObexRefusal.{ObexRefusal}
use Rattle.obex_headers.specs.declared.fault.ObexRefusal.TheVariants.{Short, BadLength, BadHeaderLength, BadText, AboveMaximum, BadVersion}
use Rattle.obex_headers.specs.Assembling.{stated_len, IsFramed, IsPartial, BeginsNone}
use Rattle.push_model.specs.Streams.{Front, Whole, Partial, Broken, front_of}

-- the front by its four tests
abbrev by_tests : Bool → Bool → Bool → Bool → List ℕ → List ℕ → Front
by_tests few above below cut packet rest = if few then Partial else if above then Broken AboveMaximum else if below then Broken BadLength else if cut then Partial else Whole packet rest

tests_are : (maximum : ℕ) (stream : List ℕ) (few above below cut : Bool) → nat_lt (length stream) 3 ≡ few → nat_lt maximum (stated_len stream) ≡ above → nat_lt (stated_len stream) 3 ≡ below → nat_lt (length stream) (stated_len stream) ≡ cut
    → front_of maximum stream ≡ by_tests few above below cut (take (stated_len stream) stream) (drop (stated_len stream) stream)
unfolding front_of
tests_are maximum stream few above below cut a b c d =
    ap (λ (x : Bool). by_tests x (nat_lt maximum (stated_len stream)) (nat_lt (stated_len stream) 3) (nat_lt (length stream) (stated_len stream)) (take (stated_len stream) stream) (drop (stated_len stream) stream)) a
    ∙ ap (λ (x : Bool). by_tests few x (nat_lt (stated_len stream) 3) (nat_lt (length stream) (stated_len stream)) (take (stated_len stream) stream) (drop (stated_len stream) stream)) b
    ∙ ap (λ (x : Bool). by_tests few above x (nat_lt (length stream) (stated_len stream)) (take (stated_len stream) stream) (drop (stated_len stream) stream)) c
    ∙ ap (λ (x : Bool). by_tests few above below x (take (stated_len stream) stream) (drop (stated_len stream) stream)) d

either_few : (maximum : ℕ) (stream : List ℕ) (few : Bool) → nat_lt (length stream) 3 ≡ few → nat_lt maximum (stated_len stream) ≡ false → nat_lt (stated_len stream) 3 ≡ false → nat_lt (length stream) (stated_len stream) ≡ true → front_of maximum stream ≡ Partial
either_few maximum stream true a b c d = tests_are maximum stream true false false true a b c d
either_few maximum stream false a b c d = tests_are maximum stream false false false true a b c d

-- less than a whole packet
pub partial_front : (maximum : ℕ) (stream : List ℕ) → IsPartial maximum stream → front_of maximum stream ≡ Partial
partial_front maximum stream (inl few) = tests_are maximum stream true _ _ _ (lt-ltb (length stream) 3 few) refl refl refl
partial_front maximum stream (inr some) =
    either_few maximum stream (nat_lt (length stream) 3) refl (le-ltb maximum (stated_len stream) some.1) (le-ltb (stated_len stream) 3 some.0) (lt-ltb (length stream) (stated_len stream) some.2)

-- octets that begin no packet
pub broken_front : (maximum : ℕ) (stream : List ℕ) (refusal : ObexRefusal) → BeginsNone maximum stream refusal → front_of maximum stream ≡ Broken refusal
broken_front maximum stream AboveMaximum none = tests_are maximum stream false true _ _ (le-ltb (length stream) 3 none.0) (lt-ltb maximum (stated_len stream) none.1) refl refl
broken_front maximum stream BadLength none = tests_are maximum stream false false true _ (le-ltb (length stream) 3 none.0) (le-ltb maximum (stated_len stream) none.1) (lt-ltb (stated_len stream) 3 none.2) refl
broken_front maximum stream Short none = absurd none
broken_front maximum stream BadHeaderLength none = absurd none
broken_front maximum stream BadText none = absurd none
broken_front maximum stream BadVersion none = absurd none

stated_front : (octets rest : List ℕ) → 3 ≤ length octets → stated_len (octets ++ rest) ≡ stated_len octets
stated_front [] rest h = absurd (omega arith)
stated_front (a ∷ []) rest h = absurd (omega arith)
stated_front (a ∷ b ∷ []) rest h = absurd (omega arith)
stated_front (a ∷ b ∷ c ∷ octets) rest h = refl

take_front : (octets rest : List ℕ) (n : ℕ) → n ≡ length octets → take n (octets ++ rest) ≡ octets
take_front octets rest n e = grind (arith, common_steps, e)

drop_front : (octets rest : List ℕ) (n : ℕ) → n ≡ length octets → drop n (octets ++ rest) ≡ rest
drop_front octets rest n e = grind (arith, common_steps, e)

-- a whole packet, and what follows it
pub whole_front : (maximum : ℕ) (packet rest : List ℕ) → IsFramed maximum packet → front_of maximum (packet ++ rest) ≡ Whole packet rest
whole_front maximum packet rest framed =
    let stream = packet ++ rest in
    let stated : stated_len stream ≡ length packet = stated_front packet rest framed.0 ∙ framed.2 in
    let long = length-append packet rest in
    tests_are maximum stream false false false false (le-ltb (length stream) 3 (omega (arith, framed.0, long))) (le-ltb maximum (stated_len stream) (omega (arith, framed.1, stated)))
    (le-ltb (stated_len stream) 3 (omega (arith, framed.0, stated))) (le-ltb (length stream) (stated_len stream) (omega (arith, stated, long)))
    ∙ ap (λ (taken : List ℕ). Whole taken (drop (stated_len stream) stream)) (take_front packet rest (stated_len stream) stated) ∙ ap (Whole packet) (drop_front packet rest (stated_len stream) stated)
