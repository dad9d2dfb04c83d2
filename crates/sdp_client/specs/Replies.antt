-- What a reply to a search for attributes says (Core 5.1, Volume 3 Part B, 4.4.1 and 4.7.2).
use Rattle.std.specs.Prelude.{ℕ, ◌-◌, ◌&&◌, ◌==◌, not, Bool, nat_le, if◌then◌else◌, List, length, take, drop, Option, Some, None}
use Rattle.byteorder.specs.Endian.{big_number}
use Rattle.sdp_elements.specs.Exchange.{continuation_in}
use Rattle.sdp_elements.specs.Optional.{◌>>=◌}
use Rattle.sdp_elements.specs.Pdus.{PlainPdu, pdu_in}
use Rattle.sdp_client.specs.declared.said.Part.{Part}
use Rattle.sdp_client.specs.declared.said.Said.{Said}
use Rattle.sdp_client.specs.declared.said.Said.TheVariants as lent

-- a part of an answer, with the continuation state behind it
pub record PlainPart : Type 0 where
  pub octets : List ℕ
  pub continuation : List ℕ

-- what a reply says: a part of the answer, the code of an error, or nothing that is a reply
pub data PlainSaid : Type 0 where
  Gives : PlainPart → PlainSaid
  Failed : (code : ℕ) → PlainSaid
  Nothing : PlainSaid

-- a part without octets is the last
abbrev pub goes_on : ℕ → List ℕ → Bool
goes_on count continuation = not ((count == 0) && not (length continuation == 0))

-- the count of the octets, so many octets, and the continuation state to the end
abbrev pub counted_part : ℕ → List ℕ → Option PlainPart
counted_part count rest = do
  continuation ← continuation_in (drop count rest)
  if goes_on count continuation then Some (record { octets = take count rest; continuation = continuation }) else None

abbrev pub part_in : List ℕ → Option PlainPart
part_in parameters =
    if nat_le 2 (length parameters) && nat_le (big_number 2 parameters) (length parameters - 2) then counted_part (big_number 2 parameters) (drop 2 parameters)
    else None

abbrev pub given : Option PlainPart → PlainSaid
given None = Nothing
given (Some part) = Gives part

abbrev pub said_by : Option PlainPdu → PlainSaid
said_by None = Nothing
said_by (Some pdu) =
    if (pdu.identifier == 1) && (length pdu.parameters == 2) then Failed (big_number 2 pdu.parameters)
    else if pdu.identifier == 7 then given (part_in pdu.parameters)
    else Nothing

-- what the octets of a reply say
abbrev pub said_in : List ℕ → PlainSaid
said_in octets = said_by (pdu_in octets)

-- the reply has another transaction; one that is too short to have any has not
abbrev pub is_of_another : List ℕ → ℕ → Bool
is_of_another octets transaction = nat_le 3 (length octets) && not (big_number 2 (drop 1 octets) == transaction)

-- ---- what the code lends

abbrev pub plain_part : Part → PlainPart
plain_part part = record { octets = part.octets.now; continuation = part.continuation.now }

abbrev pub plain_said : Said → PlainSaid
plain_said (lent.Part part) = Gives (plain_part part)
plain_said (lent.Failed code) = Failed code
plain_said lent.Nothing = Nothing
