-- What a host reads of a piece (Core 5.1, Volume 4 Part A, 2).
use Rattle.std.specs.Prelude.{ℕ, ◌≡◌, ◌++◌, List, fold, length}
use Rattle.std.specs.List.{AllByRecursion}
use Rattle.h4_framing.specs.Packets.{Packet, spelling, spellings, IsPacket}
use Rattle.h4_framing.specs.Stream.{IsUnfinished}
use Rattle.h4_framing.specs.Framing.{Framing, counted}
use Rattle.host_link.specs.Lines.{Line}
use Rattle.bt_host.specs.declared.feed_refusal.FeedRefusal.{FeedRefusal}
use Rattle.bt_host.specs.Refusals.{acl_limit, IsRefused, LeavesFraming}

-- what was held and the piece are these packets, and a rest
pub record IsRead (framing : Framing) (piece : List ℕ) (packets : List Packet) (rest : List ℕ) : Type 0 where
  pub each : AllByRecursion (IsPacket acl_limit) packets
  pub octets : framing.held ++ piece ≡ spellings packets ++ rest

-- where the rest begins
abbrev pub place_behind : Framing → List Packet → ℕ
place_behind framing packets = fold (λ place packet. counted place (length (spelling packet))) framing.before packets

-- all was taken: the rest is the beginning of a packet, and held
pub record IsTaken (framing framing' : Framing) (piece : List ℕ) (packets : List Packet) : Type 0 where
  pub rest : List ℕ
  pub read : IsRead framing piece packets rest
  pub unfinished : IsUnfinished acl_limit rest
  pub framing_is : framing' ≡ record framing { before = place_behind framing packets; held = rest }

-- the rest begins no packet, or one that is refused
pub record IsStopped (framing framing' : Framing) (piece : List ℕ) (packets : List Packet) (line : Line) (refusal : FeedRefusal) : Type 0 where
  pub rest : List ℕ
  pub read : IsRead framing piece packets rest
  pub refused : IsRefused line (place_behind framing packets) rest refusal
  pub left : LeavesFraming refusal framing'
