-- A PDU that is put out, as the pieces that its ACL packets will carry (Core 5.1, Volume 2 Part E, 5.4.2).
use Rattle.std.specs.Prelude.{◌≡◌, ℕ, zero, suc, ◌≤◌, List, length, drop}
use Rattle.hci_packets.specs.declared.acl.Boundary.{Boundary}
use Rattle.hci_packets.specs.declared.acl.Boundary.TheVariants.{First, Continuing}
use Rattle.acl_fragments.specs.Pieces.{Piece}
use Rattle.acl_fragments.specs.Cuts.{cut}

-- how many octets a piece has at most, and the pieces that wait
pub record Waiting : Type 0 where
  pub size : ℕ
  pub pieces : List Piece

-- what is left of a PDU goes on with what went before it
abbrev pub boundary_after : ℕ → Boundary
boundary_after zero = First
boundary_after (suc gone) = Continuing

-- the pieces of a PDU of which some octets are gone
abbrev pub waiting_of : (size gone : ℕ) → List ℕ → Waiting
waiting_of size gone pdu = record { size = size; pieces = cut size (boundary_after gone) (drop gone pdu) }

-- the longest PDU that is put out: a basic frame of 32,771 octets carries the longest SDU, and a frame of an enhanced channel has at
-- most four octets more
abbrev pub longest_put : ℕ
longest_put = 32775

-- the PDU stands at the front of a buffer for the longest one
pub record IsOutbox (size gone end : ℕ) (buffer : List ℕ) : Type 0 where
  pub some : 1 ≤ size
  pub within : gone ≤ end
  pub whole : length buffer ≡ longest_put
  pub fits : end ≤ longest_put
