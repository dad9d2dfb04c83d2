-- What holds of the PDUs of the tiny hosts (this project's own).
use Rattle.std.specs.Prelude.{ℕ, ◌≡◌, ◌≤◌, ◌<◌, ◌%◌, ◌+◌, nat_lt, Bool, true, false, List, [], ◌∷◌, length, Option, Some, None, refl, if◌then◌else◌}
use Rattle.std.proofs.Common.{ap, arith}
use Rattle.bt_base.specs.Octets.{IsOctets}
use Rattle.h4_framing.proofs.OctetLists.{IsOctets-cons, IsOctets-nil}
use Rattle.line_laws.specs.turn_laws.specs.Premises.{IsFrame}
use Rattle.tiny_hosts.specs.Talking.{channel, pdu_of, one_more}

-- what was said, and what is then
pair_in : {S : Type 0} → List ℕ × S → Option (List ℕ × S) → List ℕ × S
pair_in before None = before
pair_in before (Some pair) = pair

pub said : {S : Type 0} (one pdu : List ℕ) (s after : S) → ◌≡◌ {A = Option (List ℕ × S)} (Some (one, s)) (Some (pdu, after)) → (one ≡ pdu) × (s ≡ after)
unfolding pair_in
said {S} one pdu s after is =
    let same : ◌≡◌ {A = List ℕ × S} (one, s) (pdu, after) = ap (pair_in (one, s)) is in (ap (λ (p : List ℕ × S). p.0) same, ap (λ (p : List ℕ × S). p.1) same)

pub pdu_octets : (octet : ℕ) → IsOctets (pdu_of octet)
pdu_octets octet =
    let last : List ℕ = octet % 256 ∷ 0 ∷ [] in
    IsOctets-cons 2 (0 ∷ channel ∷ 0 ∷ last) (omega arith) (IsOctets-cons 0 (channel ∷ 0 ∷ last) (omega arith) (IsOctets-cons channel (0 ∷ last) (omega arith)
    (IsOctets-cons 0 last (omega arith) (IsOctets-cons (octet % 256) (0 ∷ []) (omega arith) (IsOctets-cons 0 [] (omega arith) IsOctets-nil)))))

pub pdu_frame : (octet : ℕ) → IsFrame (pdu_of octet)
pdu_frame octet = record { pdu = (omega arith, refl); short = omega arith }

more_by : (below : Bool) (count : ℕ) → count ≤ (if below then count + 1 else count)
more_by true count = omega arith
more_by false count = omega arith

pub one_more_more : (count : ℕ) → count ≤ one_more count
one_more_more count = more_by (nat_lt count 65535) count
