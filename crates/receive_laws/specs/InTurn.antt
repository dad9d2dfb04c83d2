-- Where nothing that a host has to say waits when it is told of a PDU: no answer is missing then (Core 5.1, Volume 2 Part E, 4.1.1, for the buffers for
-- which one may wait).
use Rattle.std.specs.Prelude.{◌≡◌, false, true, is_some, List, [], ◌∷◌, ◌++◌, Option, Some, None}
use Rattle.receiving.specs.h4_framing.specs.Packets.{Packet}
use Rattle.receiving.specs.host_link.specs.Hearing.{PlainNews, Nothing, LinkUp, LinkFailed, LinkDown, Pdu, news_of}
use Rattle.receiving.specs.host_link.specs.PuttingOut.{has_buffer}
use Rattle.receiving.specs.host_model.specs.Hosts.{has_more}
use Rattle.receiving.specs.host_model.specs.Profiles.{Profile}
use Rattle.receiving.specs.bt_host.specs.Stacks.{Standing}
use Rattle.receiving.specs.Turns.{Posture, Turn, HasTurns, answers_of, answers_along}

-- no piece of a PDU waits, and the host has no PDU to say
pub record SaidAll {S : Type 0} (now : Standing S) : Type 0 where
  pub pieces : now.line.pieces ≡ []
  pub none_more : has_more now.host ≡ false

-- so it is where the host is told of a PDU, and that its link failed
abbrev pub IsToldAtRest : {S : Type 0} → PlainNews → Standing S → Type 0
IsToldAtRest Nothing now = Unit {0}
IsToldAtRest LinkUp now = Unit {0}
IsToldAtRest (LinkFailed status) now = SaidAll now
IsToldAtRest (LinkDown reason) now = Unit {0}
IsToldAtRest (Pdu channel octets) now = SaidAll now

abbrev pub TakesInTurn : {S : Type 0} → Option Packet → Standing S → Type 0
TakesInTurn None now = Unit {0}
TakesInTurn (Some packet) now = IsToldAtRest (news_of packet now.line) now

-- in each turn of a stream, for what its port answers in that and later
abbrev pub AreInTurn : {S : Type 0} → (A : Profile S) (turns : List Turn) (old new : Posture S) → HasTurns A turns old new → Type 0
AreInTurn A [] old new runs = Unit {0}
AreInTurn A (turn ∷ turns) old new (mid, one, more) = TakesInTurn turn.packet (old.stands (answers_of A turn old mid one ++ answers_along A turns mid new more)) × AreInTurn A turns mid new more

-- ---- where buffers are free

-- a link is up, and its controller takes one packet more
pub record IsFree {S : Type 0} (now : Standing S) : Type 0 where
  pub link : is_some now.line.link ≡ true
  pub buffer : has_buffer now.line ≡ true

abbrev pub IsToldFree : {S : Type 0} → PlainNews → Standing S → Type 0
IsToldFree Nothing now = Unit {0}
IsToldFree LinkUp now = Unit {0}
IsToldFree (LinkFailed status) now = SaidAll now
IsToldFree (LinkDown reason) now = Unit {0}
IsToldFree (Pdu channel octets) now = IsFree now

abbrev pub TakesFree : {S : Type 0} → Option Packet → Standing S → Type 0
TakesFree None now = Unit {0}
TakesFree (Some packet) now = IsToldFree (news_of packet now.line) now

-- wherever a host is told of a PDU its ledger has a buffer free
abbrev pub AreFree : {S : Type 0} → (A : Profile S) (turns : List Turn) (old new : Posture S) → HasTurns A turns old new → Type 0
AreFree A [] old new runs = Unit {0}
AreFree A (turn ∷ turns) old new (mid, one, more) = TakesFree turn.packet (old.stands (answers_of A turn old mid one ++ answers_along A turns mid new more)) × AreFree A turns mid new more
