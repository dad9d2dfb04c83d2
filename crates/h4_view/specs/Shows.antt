-- What a piece of a stream adds to a view (this project's own).
use Rattle.std.specs.Prelude.{ℕ, ◌≡◌, ◌+◌, List, ◌++◌, length, Option, None}
use Rattle.h4_framing.specs.declared.refusal.H4Refusal.{H4Refusal}
use Rattle.h4_framing.specs.Packets.{Packet, spellings}
use Rattle.h4_framing.specs.Framing.{Framing}
use Rattle.h4_framing.specs.Accounts.{Accounts}
use Rattle.h4_view.specs.declared.links.Links.{Links}
use Rattle.h4_view.specs.Details.{Knows}
use Rattle.h4_view.specs.Lines.{lines}

-- A framer that was `old` took octets and is `new`. The packets that are whole with them have their lines in the
-- text, and the next packet's offset is behind them.
pub record Shows (old new : Framing) (links links' : Links) (offset offset' : ℕ) (text text' octets : List ℕ) (fault : Option (H4Refusal × ℕ)) : Type 0 where
  pub added : List Packet
  pub accounts : (fed : List ℕ) (packets : List Packet) → Accounts fed packets old → Accounts (fed ++ octets) (packets ++ added) new
  pub pending : fault ≡ None → old.held ++ octets ≡ spellings added ++ new.held
  pub moves : offset' ≡ offset + length (spellings added)
  pub adds : (past : List Packet) → Knows past links → (text' ≡ text ++ lines past offset added) × Knows (past ++ added) links'
  pub keeps : new.limit ≡ old.limit
  pub answers : new.fault ≡ fault
