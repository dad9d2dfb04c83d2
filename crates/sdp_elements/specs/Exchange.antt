-- Requests and replies as octets (Core 5.1, Volume 3 Part B, 4.2 to 4.7).
use Rattle.std.specs.Prelude.{ℕ, ◌+◌, ◌-◌, ◌&&◌, ◌==◌, min, nat_le, nat_lt, if◌then◌else◌, List, [], ◌∷◌, ◌++◌, length, take, drop, Option, Some, None}
use Rattle.byteorder.specs.Endian.{big_number}
use Rattle.bt_base.specs.Octets.{be16}

-- a PDU: its identifier, the transaction, the length of the parameters, the parameters (4.2.1)
abbrev pub pdu_octets : ℕ → ℕ → List ℕ → List ℕ
pdu_octets identifier transaction parameters = identifier ∷ be16 transaction ++ (be16 (length parameters) ++ parameters)

-- ---- the parts of an answer

-- how many octets a reply carries: as many as were asked for, are left of the answer, and leave room for the ten octets around them
abbrev pub part_len : ℕ → ℕ → ℕ → ℕ
part_len most left room = min most (min left (room - 10))

-- the continuation state behind the octets up to a place of the answer (4.3): none at its end, else the place in two octets
abbrev pub continuation_at : ℕ → ℕ → List ℕ
continuation_at len place = if place == len then 0 ∷ [] else 2 ∷ be16 place

-- the count of the octets, the octets, the continuation state
abbrev pub part_parameters : List ℕ → ℕ → ℕ → List ℕ
part_parameters answer offset count = be16 count ++ (take count (drop offset answer) ++ continuation_at (length answer) (offset + count))

-- the reply that carries the part of the answer from an offset on
abbrev pub part_reply : ℕ → ℕ → List ℕ → ℕ → ℕ → ℕ → List ℕ
part_reply identifier transaction answer offset most room = pdu_octets identifier transaction (part_parameters answer offset (part_len most (length answer - offset) room))

-- ---- continuation states

-- the continuation state that octets are to their end: its length, at most sixteen, and so many octets (4.3)
abbrev pub continuation_in : List ℕ → Option (List ℕ)
continuation_in [] = None
continuation_in (len ∷ octets) = if nat_le len 16 && (len == length octets) then Some octets else None

-- the place of an answer of this length that a continuation state names: its front without a state, else a place within the answer
abbrev pub offset_in : List ℕ → ℕ → Option ℕ
offset_in continuation len =
    if length continuation == 0 then Some 0
    else if (length continuation == 2) && (nat_lt 0 (big_number 2 continuation) && nat_lt (big_number 2 continuation) len) then Some (big_number 2 continuation)
    else None

-- ---- errors

-- an error reply (4.4.1)
abbrev pub error_reply : ℕ → ℕ → List ℕ
error_reply transaction code = pdu_octets 1 transaction (be16 code)
