-- Where nothing that a host in code has to say waits when anything but of its link comes to it, and nobody but the host changes its port (Core 5.1, Volume 2
-- Part E, 4.1.1, for the buffers for which an answer may wait).
use Rattle.std.specs.Prelude.{◌≡◌, false, List, [], ◌∷◌}
use Rattle.call_laws.specs.bt_host.specs.host_link.specs.Hearing.{PlainNews, Nothing, LinkUp, LinkFailed, LinkDown, Pdu, news_of}
use Rattle.call_laws.specs.bt_host.specs.host_model.specs.Circumstances.{Circumstance}
use Rattle.call_laws.specs.bt_host.specs.host_model.specs.Profiles.{Profile}
use Rattle.call_laws.specs.bt_host.specs.Stacks.{Stacked}
use Rattle.call_laws.specs.bt_host.specs.Uppers.{says}
use Rattle.call_laws.specs.unit_laws.specs.Laws.{IsUntimed}
use Rattle.call_laws.specs.Impulses.{Impulse, Hears, Learns, GoesOn, Gives, Pages, HasImpulses}

-- no piece of a PDU waits, and the host has no PDU to say
pub record AllIsSaid {E : Type 0} (now : Stacked E) : Type 0 where
  pub pieces : now.line.pieces ≡ []
  pub none_more : says now.upper ≡ false

-- so it is where the host is told of a PDU, and that its link failed
abbrev pub IsToldQuietly : {E : Type 0} → PlainNews → Stacked E → Type 0
IsToldQuietly Nothing now = Unit {0}
IsToldQuietly LinkUp now = Unit {0}
IsToldQuietly (LinkFailed status) now = AllIsSaid now
IsToldQuietly (LinkDown reason) now = Unit {0}
IsToldQuietly (Pdu channel octets) now = AllIsSaid now

-- and where it learns what no packet brings
abbrev pub ComesQuietly : {E : Type 0} → Impulse → Stacked E → Type 0
ComesQuietly (Hears packet) now = IsToldQuietly (news_of packet now.line) now
ComesQuietly (Learns news) now = AllIsSaid now
ComesQuietly GoesOn now = Unit {0}
ComesQuietly (Gives count) now = Unit {0}
ComesQuietly (Pages address) now = Unit {0}

-- a port is left as it was with what does not ask it
abbrev pub LeavesPort : {P : Type 0} → Impulse → (before after : P) → Type 0
LeavesPort (Hears packet) before after = Unit {0}
LeavesPort (Learns news) before after = Unit {0}
LeavesPort GoesOn before after = Unit {0}
LeavesPort (Gives count) before after = after ≡ before
LeavesPort (Pages address) before after = after ≡ before

-- ---- where its timer does not fire

abbrev pub FiresNot : Impulse → Type 0
FiresNot (Hears packet) = Unit {0}
FiresNot (Learns news) = IsUntimed news
FiresNot GoesOn = Unit {0}
FiresNot (Gives count) = Unit {0}
FiresNot (Pages address) = Unit {0}

-- ---- one after the other

module _ {E S P : Type 0} (A : Profile S) (Answers : P → List Circumstance → P → Type 0) (pushing : E → P → List Circumstance → S) where
  -- So it is with one impulse after the other, and its port is first this one.
  abbrev pub ComeQuietly : (impulses : List Impulse) (old new : Stacked E) → HasImpulses A Answers pushing impulses old new → P → Type 0
  ComeQuietly [] old new has port = Unit {0}
  ComeQuietly (impulse ∷ impulses) old new (mid, before, after, one, more) port = (before ≡ port) × ComesQuietly impulse old × LeavesPort impulse before after × ComeQuietly impulses mid new more after
