-- What a value says under a type octet is what is spelled so.
use Rattle.std.proofs.Common.{◌≡◌, ◌≢◌, ℕ, zero, suc, ◌+◌, ◌-◌, ◌*◌, ◌/◌, ◌%◌, ◌^◌, ◌<◌, Bool, true, false, ◌==◌, List, [], ◌∷◌, ◌++◌, length, get_or, drop, Some, None, refl, sym, ap, subst, ◌∙◌, arith, drop-cons, inl, inr}
use Rattle.std.proofs.lemmas.Bool.{cases_eq, eq-eqb, ne_eqb}
use Rattle.std.proofs.lemmas.List.{nil_from_length, length-drop}
use Rattle.bt_base.specs.Octets.{IsOctets, le16}
use Rattle.bt_base.proofs.OctetLemmas.{le16-again}
use Rattle.byteorder.specs.Endian.{little_from}
use Rattle.rfcomm_frames.specs.Frames.{bit}
use Rattle.rfcomm_frames.specs.Controls.{PlainControl, pn, msc, test, rpn, rls, nsc, other, type_of, value_of, IsControl, IsOtherType}
use Rattle.rfcomm_frames.specs.Reading.{exactly, parameters, modem_signals, not_supported, message}
use Rattle.rfcomm_frames.proofs.Heads.{bit_again}

-- ---- what is spelled is read

frame_again : (n : ℕ) → n < 2 ^ 16 → n % 256 + 256 * (n / 256 % 256 + 0) ≡ n
frame_again n fits = omega arith

pn_again : (command : Bool) (dlci flow priority timer frame retransmissions credits : ℕ) → frame < 2 ^ 16
    → parameters command (value_of (pn command dlci flow priority timer frame retransmissions credits)) ≡ Some (pn command dlci flow priority timer frame retransmissions credits)
pn_again command dlci flow priority timer frame retransmissions credits fits =
    ap (λ (n : ℕ). Some (pn command dlci flow priority timer n retransmissions credits)) (frame_again frame fits)

-- a type octet that is no known one, with or without its C/R bit
apart_from : (kind row : ℕ) → kind ≢ row → kind ≢ row + 2 → (kind - 2 * (kind / 2 % 2) == row) ≡ false
apart_from kind row low high = ne_eqb (kind - 2 * (kind / 2 % 2)) row (λ e. omega (arith, low, high))

other_again : (kind : ℕ) (value : List ℕ) → IsOtherType kind → message kind value ≡ Some (other kind value)
other_again kind value is =
    let pn-low = is.unknown in
    let msc-low = pn-low.1.1 in
    let test-low = msc-low.1.1 in
    let rpn-low = test-low.1.1 in
    let rls-low = rpn-low.1.1 in
    let nsc-alone = rls-low.1.1 in
    let a = apart_from kind 0x81 pn-low.0 pn-low.1.0 in
    let b = apart_from kind 0xE1 msc-low.0 msc-low.1.0 in
    let c = apart_from kind 0x21 test-low.0 test-low.1.0 in
    let d = apart_from kind 0x91 rpn-low.0 rpn-low.1.0 in
    let e = apart_from kind 0x51 rls-low.0 rls-low.1.0 in
    rw (a, b, c, d, e, ne_eqb kind 0x11 nsc-alone.0) refl

pub message-spelled : (control : PlainControl) → IsControl control → message (type_of control) (value_of control) ≡ Some control
message-spelled (pn true dlci flow priority timer frame retransmissions credits) is = pn_again true dlci flow priority timer frame retransmissions credits is.4
message-spelled (pn false dlci flow priority timer frame retransmissions credits) is = pn_again false dlci flow priority timer frame retransmissions credits is.4
message-spelled (msc true dlci signals) is = refl
message-spelled (msc false dlci signals) is = refl
message-spelled (test true octets) is = refl
message-spelled (test false octets) is = refl
message-spelled (rpn true value) is = refl
message-spelled (rpn false value) is = refl
message-spelled (rls true value) is = refl
message-spelled (rls false value) is = refl
message-spelled (nsc kind) is = refl
message-spelled (other kind value) is = other_again kind value is.0

-- ---- what is read is spelled

pub record Says (kind : ℕ) (value : List ℕ) (control : PlainControl) : Type 0 where
  pub fits : IsControl control
  pub type_is : type_of control ≡ kind
  pub value_is : value_of control ≡ value

-- so many members from a place on
listed : List ℕ → ℕ → ℕ → List ℕ
listed xs zero place = []
listed xs (suc n) place = get_or xs place 0 ∷ listed xs n (suc place)

listed-all : (xs : List ℕ) (n place : ℕ) → place + n ≡ length xs → listed xs n place ≡ drop place xs
unfolding listed
listed-all xs zero place e = sym (nil_from_length (drop place xs) (omega (arith, length-drop place xs)))
listed-all xs (suc n) place e =
    ap (λ (ys : List ℕ). get_or xs place 0 ∷ ys) (listed-all xs n (suc place) (omega arith)) ∙ sym (drop-cons xs place 0 (omega arith))

pub exactly-some : (size : ℕ) (value : List ℕ) (what control : PlainControl) → exactly size value what ≡ Some control → (length value ≡ size) × (what ≡ control)
exactly-some size value what control e =
    elim (cases_eq (length value) size) [
      | inl same ↦ (same, let f : Some what ≡ Some control = rw (eq-eqb (length value) size same) at e in cc)
      | inr differ ↦ absurd (let f : None ≡ Some control = rw (ne_eqb (length value) size differ) at e in cc)
    ]

pn_says : (command : Bool) (v : List ℕ) (control : PlainControl) → IsOctets v → parameters command v ≡ Some control → Says (0x81 + 0x02 * bit command) v control
unfolding listed
pn_says command v control fits e =
    let x = exactly-some 8 v (pn command (get_or v 0 0) (get_or v 1 0) (get_or v 2 0) (get_or v 3 0) (little_from 4 2 v) (get_or v 6 0) (get_or v 7 0)) control e in
    let frame : ℕ = little_from 4 2 v in
    let two : le16 frame ≡ get_or v 4 0 ∷ get_or v 5 0 ∷ [] = le16-again (get_or v 4 0) (get_or v 5 0) [] (fits 4) (fits 5) in
    let whole : listed v 8 0 ≡ v = listed-all v 8 0 (sym x.0) in
    let here : Says (0x81 + 0x02 * bit command) v (pn command (get_or v 0 0) (get_or v 1 0) (get_or v 2 0) (get_or v 3 0) frame (get_or v 6 0) (get_or v 7 0)) = record {
      fits = (fits 0, fits 1, fits 2, fits 3, omega (arith, fits 4, fits 5), fits 6, fits 7);
      type_is = refl;
      value_is = ap (λ (ys : List ℕ). get_or v 0 0 ∷ get_or v 1 0 ∷ get_or v 2 0 ∷ get_or v 3 0 ∷ (ys ++ get_or v 6 0 ∷ get_or v 7 0 ∷ [])) two ∙ whole;
    } in
    subst (Says (0x81 + 0x02 * bit command) v) x.1 here

msc_says : (command : Bool) (v : List ℕ) (control : PlainControl) → IsOctets v → modem_signals command v ≡ Some control → Says (0xE1 + 0x02 * bit command) v control
unfolding listed
msc_says command v control fits e =
    let x = exactly-some 2 v (msc command (get_or v 0 0) (get_or v 1 0)) control e in
    let here : Says (0xE1 + 0x02 * bit command) v (msc command (get_or v 0 0) (get_or v 1 0)) = record {
      fits = (fits 0, fits 1);
      type_is = refl;
      value_is = listed-all v 2 0 (sym x.0);
    } in
    subst (Says (0xE1 + 0x02 * bit command) v) x.1 here

nsc_says : (v : List ℕ) (control : PlainControl) → IsOctets v → not_supported v ≡ Some control → Says 0x11 v control
unfolding listed
nsc_says v control fits e =
    let x = exactly-some 1 v (nsc (get_or v 0 0)) control e in
    let here : Says 0x11 v (nsc (get_or v 0 0)) = record { fits = fits 0; type_is = refl; value_is = listed-all v 1 0 (sym x.0) } in
    subst (Says 0x11 v) x.1 here

some_says : (kind : ℕ) (v : List ℕ) (what control : PlainControl) → Some what ≡ Some control → Says kind v what → Says kind v control
some_says kind v what control e says = let same : what ≡ control = cc in subst (Says kind v) same says

pub message-some : (kind : ℕ) (v : List ℕ) (control : PlainControl) → kind < 256 → kind % 2 ≡ 1 → IsOctets v → message kind v ≡ Some control → Says kind v control
message-some kind v control small odd fits e =
    elim (cases_eq r 0x81) [
      | inl is ↦ of_type 0x81 is (pn_says command v control fits (rw (eq-eqb r 0x81 is) at e))
      | inr n1 ↦ let e1 = rw (ne_eqb r 0x81 n1) at e in elim (cases_eq r 0xE1) [
        | inl is ↦ of_type 0xE1 is (msc_says command v control fits (rw (eq-eqb r 0xE1 is) at e1))
        | inr n2 ↦ let e2 = rw (ne_eqb r 0xE1 n2) at e1 in elim (cases_eq r 0x21) [
          | inl is ↦ of_type 0x21 is (some_says (0x21 + 0x02 * bit command) v (test command v) control (rw (eq-eqb r 0x21 is) at e2) (record { fits = fits; type_is = refl; value_is = refl }))
          | inr n3 ↦ let e3 = rw (ne_eqb r 0x21 n3) at e2 in elim (cases_eq r 0x91) [
            | inl is ↦ of_type 0x91 is (some_says (0x91 + 0x02 * bit command) v (rpn command v) control (rw (eq-eqb r 0x91 is) at e3) (record { fits = fits; type_is = refl; value_is = refl }))
            | inr n4 ↦ let e4 = rw (ne_eqb r 0x91 n4) at e3 in elim (cases_eq r 0x51) [
              | inl is ↦ of_type 0x51 is (some_says (0x51 + 0x02 * bit command) v (rls command v) control (rw (eq-eqb r 0x51 is) at e4) (record { fits = fits; type_is = refl; value_is = refl }))
              | inr n5 ↦ let e5 = rw (ne_eqb r 0x51 n5) at e4 in elim (cases_eq kind 0x11) [
                | inl is ↦ subst (λ (k : ℕ). Says k v control) (sym is) (nsc_says v control fits (rw (eq-eqb kind 0x11 is) at e5))
                | inr n6 ↦ some_says kind v (other kind v) control (rw (ne_eqb kind 0x11 n6) at e5) (record { fits = (other_type n1 n2 n3 n4 n5 n6, fits); type_is = refl; value_is = refl })
              ]
            ]
          ]
        ]
      ]
    ]
  where
    r : ℕ
    r = kind - 2 * (kind / 2 % 2)

    command : Bool
    command = kind / 2 % 2 == 1

    of_type : (known : ℕ) → kind - 2 * (kind / 2 % 2) ≡ known → Says (known + 0x02 * bit (kind / 2 % 2 == 1)) v control → Says kind v control
    of_type known is says =
        let flag = bit_again (kind / 2 % 2) (omega arith) in
        let whole : known + 0x02 * bit (kind / 2 % 2 == 1) ≡ kind = omega arith in
        subst (λ (k : ℕ). Says k v control) whole says

    other_type : kind - 2 * (kind / 2 % 2) ≢ 0x81 → kind - 2 * (kind / 2 % 2) ≢ 0xE1 → kind - 2 * (kind / 2 % 2) ≢ 0x21 → kind - 2 * (kind / 2 % 2) ≢ 0x91
        → kind - 2 * (kind / 2 % 2) ≢ 0x51 → kind ≢ 0x11 → IsOtherType kind
    other_type n1 n2 n3 n4 n5 n6 = record {
      octet = small;
      ends = odd;
      unknown = (
        (λ k. n1 (omega arith)),
        (
          (λ k. n1 (omega arith)),
          (
            (λ k. n2 (omega arith)),
            (
              (λ k. n2 (omega arith)),
              (
                (λ k. n3 (omega arith)),
                (
                  (λ k. n3 (omega arith)),
                  ((λ k. n4 (omega arith)), ((λ k. n4 (omega arith)), ((λ k. n5 (omega arith)), ((λ k. n5 (omega arith)), (n6, tt))))),
                ),
              ),
            ),
          ),
        ),
      );
    }
