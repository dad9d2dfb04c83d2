-- The word of an ACL packet that carries a piece of a PDU (Core 5.1, Volume 2 Part E, 5.4.2).
use Rattle.std.specs.Prelude.{ℕ, zero, suc, ◌/◌, ◌%◌, Bool, not, ◌||◌, ◌==◌, Option, Some, None, if◌then◌else◌}
use Rattle.hci_packets.specs.declared.acl.Boundary.{Boundary}
use Rattle.hci_packets.specs.declared.acl.Boundary.TheVariants.{First, Continuing, FirstFromController}
use Rattle.hci_packets.specs.Refusals.{bad_handle}

-- the boundary of a flag that is not 3
abbrev pub boundary_of : ℕ → Boundary
boundary_of zero = First
boundary_of (suc zero) = Continuing
boundary_of (suc (suc flag)) = FirstFromController

-- a packet that is no piece of a PDU: its handle is reserved, its boundary flag is 3, or it is a broadcast
abbrev pub is_no_piece : ℕ → Bool
is_no_piece word = bad_handle (word % 0x1000) || (word / 0x1000 % 4 == 3) || not (word / 0x4000 == 0)

-- the handle and the boundary of a piece, by the word of its packet
abbrev pub piece_head : ℕ → Option (ℕ × Boundary)
piece_head word = if is_no_piece word then None else Some (word % 0x1000, boundary_of (word / 0x1000 % 4))
