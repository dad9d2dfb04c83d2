-- PDUs and continuation states again from their octets.
use Rattle.std.proofs.Common.{◌≡◌, ℕ, ◌-◌, ◌^◌, ◌<◌, ◌≤◌, Bool, true, List, ◌∷◌, ◌++◌, length, drop, Option, Some, None, refl, sym, ap, ◌∙◌, arith}
use Rattle.std.specs.Prelude.{◌&&◌, ◌==◌, nat_le}
use Rattle.std.proofs.lemmas.Bool.{eq-eqb, le-leb, cond-true}
use Rattle.bt_base.specs.Octets.{be16}
use Rattle.bt_base.proofs.OctetLemmas.{be16-number}
use Rattle.byteorder.specs.Endian.{big_number}
use Rattle.sdp_elements.specs.Exchange.{pdu_octets, continuation_in}
use Rattle.sdp_elements.specs.Pdus.{PlainPdu, states_length, pdu_in}

pub both_true : (p q : Bool) → p ≡ true → q ≡ true → (p && q) ≡ true
both_true p q e f = ap (λ (b : Bool). b && q) e ∙ f

pdu_test : (identifier transaction : ℕ) (parameters : List ℕ) → length parameters < 2 ^ 16
    → (nat_le 5 (length (pdu_octets identifier transaction parameters)) && (states_length (pdu_octets identifier transaction parameters) == length (pdu_octets identifier transaction parameters) - 5)) ≡ true
pdu_test identifier transaction parameters fits =
    let octets = pdu_octets identifier transaction parameters in
    let stated : states_length octets ≡ length parameters = be16-number (length parameters) parameters fits in
    let left : length octets - 5 ≡ length parameters = omega arith in
    both_true (nat_le 5 (length octets)) (states_length octets == length octets - 5) (le-leb 5 (length octets) (omega arith)) (eq-eqb (states_length octets) (length octets - 5) (stated ∙ sym left))

pub pdu_again : (identifier transaction : ℕ) (parameters : List ℕ) → transaction < 2 ^ 16 → length parameters < 2 ^ 16
    → pdu_in (pdu_octets identifier transaction parameters) ≡ Some (record { identifier = identifier; transaction = transaction; parameters = parameters })
pdu_again identifier transaction parameters t fits =
    let octets = pdu_octets identifier transaction parameters in
    let read : Option PlainPdu = Some (record { identifier = identifier; transaction = big_number 2 (drop 1 octets); parameters = parameters }) in
    let none : Option PlainPdu = None in
    let named : big_number 2 (drop 1 octets) ≡ transaction = be16-number transaction (be16 (length parameters) ++ parameters) t in
    cond-true (nat_le 5 (length octets) && (states_length octets == length octets - 5)) read none (pdu_test identifier transaction parameters fits)
    ∙ ap (λ (n : ℕ). let made : PlainPdu = record { identifier = identifier; transaction = n; parameters = parameters } in Some made) named

pub continuation_again : (state : List ℕ) → length state ≤ 16 → continuation_in (length state ∷ state) ≡ Some state
continuation_again state fits =
    cond-true (nat_le (length state) 16 && (length state == length state)) (Some state) None (both_true (nat_le (length state) 16) (length state == length state) (le-leb (length state) 16 fits) (eq-eqb (length state) (length state) refl))
