-- The half of a host that faces its controller (this project's own).
use Rattle.std.specs.Prelude.{ℕ, ◌≡◌, ◌≤◌, ◌<◌, Bool, false, List, [], Option, Some, None}
use Rattle.acl_fragments.specs.Pieces.{Piece}
use Rattle.acl_credits.specs.Ledgers.{Account, packets_of, outstanding_on}
use Rattle.host_link.specs.declared.role.Role.{Role}
use Rattle.host_link.specs.HostCommands.{start_commands}
use Rattle.host_link.specs.CommandFlows.{Flow}

pub record Line : Type 0 where
  pub role : Role
  pub commands : Flow
  -- the octets that an ACL packet carries at most, and the buffers of the controller
  pub size : ℕ
  pub ledger : Account
  -- whether a Connection Complete is awaited
  pub asked : Bool
  -- the handle of the link that is up
  pub link : Option ℕ
  -- whether it has ended that link already: Disconnection Complete is awaited
  pub ending : Bool
  -- the octets of the PDU whose pieces are coming in
  pub joining : List ℕ
  -- the pieces that wait to be put out on the link
  pub pieces : List Piece
  -- what was put out for the controller and not taken yet
  pub out : List ℕ

-- a host takes PDUs of at most so many octets, the header included
abbrev pub longest_pdu : ℕ
longest_pdu = 32775

-- a host before it has put out its first command. Until the controller says otherwise it takes no packets, and one
-- command; 27 octets fit each packet (Core 5.1, Volume 2 Part E, 7.4.5)
abbrev pub fresh : Role → Line
fresh role = record {
  role = role;
  commands = record { waiting = start_commands role; awaited = None; number = 1 };
  size = 27;
  ledger = record { total = 0; held = None };
  asked = false;
  link = None;
  ending = false;
  joining = [];
  pieces = [];
  out = [];
}

-- what is true of a host at all times: it uses at most 64 buffers of its controller, has no more packets outstanding
-- than these, and those on its link alone, of 27 to 1,021 octets each
pub record IsSound (line : Line) : Type 0 where
  pub few : line.ledger.total ≤ 64
  pub within : packets_of line.ledger.held ≤ line.ledger.total
  pub long : 27 ≤ line.size
  pub short : line.size ≤ 1021
  pub alone : (other : ℕ) → 0 < outstanding_on line.ledger other → line.link ≡ Some other
