-- The PDU that octets are (Core 5.1, Volume 3 Part B, 4.2.1).
use Rattle.std.specs.Prelude.{ℕ, ◌-◌, ◌&&◌, ◌==◌, nat_le, if◌then◌else◌, List, length, drop, slice_index, Option, Some, None}
use Rattle.byteorder.specs.Endian.{big_number}
use Rattle.sdp_elements.specs.declared.pdu.Pdu.{Pdu}

-- a PDU without where its parameters lie
pub record PlainPdu : Type 0 where
  pub identifier : ℕ
  pub transaction : ℕ
  pub parameters : List ℕ

abbrev pub plain_pdu : Pdu → PlainPdu
plain_pdu pdu = record { identifier = pdu.identifier; transaction = pdu.transaction; parameters = pdu.parameters.now }

-- the length that is stated is that of the parameters
abbrev pub states_length : List ℕ → ℕ
states_length octets = big_number 2 (drop 3 octets)

-- identifier, transaction, the length of the parameters, parameters
abbrev pub pdu_in : List ℕ → Option PlainPdu
pdu_in octets =
    if nat_le 5 (length octets) && (states_length octets == length octets - 5)
    then Some (record { identifier = slice_index octets 0; transaction = big_number 2 (drop 1 octets); parameters = drop 5 octets })
    else None
