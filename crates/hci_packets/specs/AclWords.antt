-- The first word of an ACL packet (Core 5.1, Volume 2 Part E, 5.4.2).
use Rattle.std.specs.Prelude.{ℕ, ◌+◌, ◌*◌, ◌/◌, ◌%◌, ◌<◌, Option, Some, None, ◌==◌, if◌then◌else◌}
use Rattle.bt_base.specs.Numbers.{IsHandle}
use Rattle.hci_packets.specs.declared.acl.Boundary.{Boundary}
use Rattle.hci_packets.specs.declared.acl.Boundary.TheVariants.{First, Continuing, FirstFromController}
use Rattle.hci_packets.specs.declared.acl.AclHead.{AclHead}
use Rattle.hci_packets.specs.declared.refusal.HciRefusal.{HciRefusal}
use Rattle.hci_packets.specs.declared.refusal.HciRefusal.TheVariants.{BadHandle, BadValue}
use Rattle.hci_packets.specs.Refusals.{bad_handle}

-- the packet boundary flag: the first packet of a PDU from a host, a continuing one, the first from a
-- controller; 3 is none of these
abbrev pub flag_of : Boundary → ℕ
flag_of First = 0
flag_of Continuing = 1
flag_of FirstFromController = 2

-- the handle in bits 0 to 11, the boundary flag in bits 12 and 13, the broadcast flag in bits 14 and 15
abbrev pub acl_word_of : AclHead → ℕ
acl_word_of head = head.handle + 0x1000 * flag_of head.boundary + 0x4000 * head.broadcast

pub record IsAclHead (head : AclHead) : Type 0 where
  pub handle : IsHandle head.handle
  pub broadcast : head.broadcast < 4

-- what is refused of a word
abbrev pub acl_refusal : ℕ → Option HciRefusal
acl_refusal word =
    if bad_handle (word % 0x1000) then Some BadHandle else (if word / 0x1000 % 4 == 3 then Some BadValue else None)
