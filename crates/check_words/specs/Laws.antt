-- What the check words tell, and values of theirs that were worked out elsewhere.
use Rattle.std.specs.Prelude.{ℕ, ◌+◌, ◌≡◌, ◌≢◌, ◌<◌, ◌⊎◌, ◌↔◌, Bool, true, List, [], ◌∷◌, ◌++◌, length, replicate, slice_index, slice_index_or}
use Rattle.check_words.specs.declared.table.TheConstants.{CHECK_WORDS}
use Rattle.check_words.specs.declared.behind.TheConstants.{CHECK_WORDS_BEHIND}
use Rattle.check_words.specs.declared.rfcomm_table.TheConstants.{RESTS}
use Rattle.check_words.specs.Division.{degree, remainder, zeros}
use Rattle.check_words.specs.CheckWords.{low_bits, bits_of, l2cap_check, rfcomm_generator, rfcomm_check, L2capCheckHolds, RfcommCheckHolds}
use Rattle.check_words.specs.Register.{register_after}

-- Octets that end in a check word leave nothing exactly where it is the check word of those before it.
abbrev pub CheckWordsHold : Type 0
CheckWordsHold = (octets : List ℕ) (low high : ℕ) →
    L2capCheckHolds (octets ++ low ∷ high ∷ []) ↔ (l2cap_check octets ≡ bits_of (low ∷ high ∷ []))

-- Each value of the table is the check word of its octet: what the octet's eight bits, with sixteen zeros behind
-- them, leave.
abbrev pub TableIsRight : Type 0
TableIsRight = (octet : ℕ) → octet < 256 → low_bits 16 (slice_index CHECK_WORDS octet) ≡ l2cap_check (octet ∷ [])

-- So is each value of the tables behind: at each of them the check word of the octet with as many zero octets
-- behind it as the table's place, and one more.
abbrev pub TablesBehindAreRight : Type 0
TablesBehindAreRight = (more octet : ℕ) → more < 7 → octet < 256 →
    low_bits 16 (slice_index_or (slice_index_or CHECK_WORDS_BEHIND more []) octet 0) ≡ l2cap_check (octet ∷ replicate (more + 1) 0)

-- Each value of the table of RFCOMM is what its octet's eight bits, with eight zeros behind them, leave, and it is
-- the register's value after these eight bits.
abbrev pub RfcommTableIsRight : Type 0
RfcommTableIsRight = (octet : ℕ) → octet < 256 →
    (low_bits 8 (slice_index RESTS octet) ≡ remainder rfcomm_generator (bits_of (octet ∷ []) ++ zeros 8))
    × (slice_index RESTS octet ≡ register_after 8 octet)

-- A burst is seen. Bits that a divisor with the coefficients 1 at both ends divides, with other bits than before
-- in a stretch as long as the divisor's degree, leave something.
abbrev pub BurstsAreSeen : Type 0
BurstsAreSeen = (inner front burst other behind : List Bool) →
    let divisor = true ∷ (inner ++ true ∷ []) in
    length burst ≡ degree divisor → length other ≡ degree divisor → burst ≢ other →
    remainder divisor (front ++ (burst ++ behind)) ≡ zeros (degree divisor) →
    remainder divisor (front ++ (other ++ behind)) ≢ zeros (degree divisor)

-- Octets whose check word holds, with two neighbouring octets of which one or both are other than before, have
-- none that holds.
abbrev pub ChangedOctetsAreSeen : Type 0
ChangedOctetsAreSeen = (front behind : List ℕ) (first second first' second' : ℕ) →
    first < 256 → second < 256 → first' < 256 → second' < 256 → (first ≢ first') ⊎ (second ≢ second') →
    L2capCheckHolds (front ++ first ∷ second ∷ behind) → L2capCheckHolds (front ++ first' ∷ second' ∷ behind) → ⊥

-- A burst is seen by the check word of RFCOMM too. Octets with a check word behind them that holds, with other bits
-- than before in a stretch of eight bits, have one that does not hold.
abbrev pub RfcommBurstsAreSeen : Type 0
RfcommBurstsAreSeen = (octets octets' : List ℕ) (word word' : ℕ) (front burst other behind : List Bool) →
    bits_of (octets ++ word ∷ []) ≡ front ++ (burst ++ behind) → bits_of (octets' ++ word' ∷ []) ≡ front ++ (other ++ behind) →
    length burst ≡ 8 → length other ≡ 8 → burst ≢ other →
    RfcommCheckHolds octets word → RfcommCheckHolds octets' word' → ⊥

-- So is one octet, the check word among them, that is other than before.
abbrev pub RfcommChangedOctetsAreSeen : Type 0
RfcommChangedOctetsAreSeen = (octets octets' front behind : List ℕ) (word word' octet octet' : ℕ) →
    octets ++ word ∷ [] ≡ front ++ octet ∷ behind → octets' ++ word' ∷ [] ≡ front ++ octet' ∷ behind →
    octet < 256 → octet' < 256 → octet ≢ octet' →
    RfcommCheckHolds octets word → RfcommCheckHolds octets' word' → ⊥

-- Two neighbouring octets may change unseen: the heads of an SABM frame on DLCI 0 and of a DISC frame on DLCI 20
-- have the same check word.
abbrev pub TwoChangedOctetsMayPass : Type 0
TwoChangedOctetsMayPass = rfcomm_check (0x03 ∷ 0x3F ∷ 0x01 ∷ []) ≡ rfcomm_check (0x53 ∷ 0x53 ∷ 0x01 ∷ [])

-- the check words of the frames that are worked out for L2CAP: an I-frame and an RR frame (Core 5.1, Volume 3
-- Part A, 3.3.5)
abbrev pub AreL2capValues : Type 0
AreL2capValues =
    (l2cap_check (0x0E ∷ 0x00 ∷ 0x40 ∷ 0x00 ∷ 0x02 ∷ 0x00 ∷ 0 ∷ 1 ∷ 2 ∷ 3 ∷ 4 ∷ 5 ∷ 6 ∷ 7 ∷ 8 ∷ 9 ∷ []) ≡ low_bits 16 0x6138)
    × (l2cap_check (0x04 ∷ 0x00 ∷ 0x40 ∷ 0x00 ∷ 0x01 ∷ 0x01 ∷ []) ≡ low_bits 16 0x14D4)

-- the check words of three heads of RFCOMM frames: an SABM, a UA and a UIH frame on the control channel
abbrev pub AreRfcommValues : Type 0
AreRfcommValues =
    (rfcomm_check (0x03 ∷ 0x3F ∷ 0x01 ∷ []) ≡ low_bits 8 0x1C)
    × (rfcomm_check (0x03 ∷ 0x73 ∷ 0x01 ∷ []) ≡ low_bits 8 0xD7)
    × (rfcomm_check (0x03 ∷ 0xEF ∷ []) ≡ low_bits 8 0x70)
