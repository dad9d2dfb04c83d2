-- The return parameters of Read Buffer Size (Core 5.1, Volume 2 Part E, 7.4.5).
use Rattle.std.specs.Prelude.{ℕ, ◌<◌, ◌^◌, List, ◌∷◌, ◌++◌}
use Rattle.bt_base.specs.Octets.{le16}
use Rattle.hci_packets.specs.declared.buffers.Buffers.{Buffers}

-- numbers stand with their low octet first
abbrev pub buffers_params : Buffers → List ℕ
buffers_params b =
    b.status ∷ (le16 b.acl_length ++ (b.sync_length ∷ (le16 b.acl_count ++ le16 b.sync_count)))

-- each of the wider fields is a number of two octets
pub record FitsBuffers (b : Buffers) : Type 0 where
  pub acl_length : b.acl_length < 2 ^ 16
  pub acl_count : b.acl_count < 2 ^ 16
  pub sync_count : b.sync_count < 2 ^ 16
