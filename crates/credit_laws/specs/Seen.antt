-- The credits of a host over a talk: where they are not below nothing behind what it said last, they were not before (Core 5.1, Volume 3 Part A,
-- 3.1; RFCOMM 1.2, 6.5).
use Rattle.std.specs.Prelude.{ℕ, pos, ◌≡◌, List, ◌++◌, map}
use Rattle.std.specs.List.{AllByRecursion}
use Rattle.inbox_laws.specs.capture.specs.declared.flow.Flow.TheVariants.{Out, Into}
use Rattle.inbox_laws.specs.link_talk.specs.Accounts.{credits}
use Rattle.inbox_laws.specs.link_talk.specs.Channels.{Entry, reading}
use Rattle.inbox_laws.specs.link_talk.specs.declared.channel.Channel.{Channel}
use Rattle.inbox_laws.specs.link_talk.specs.declared.party.Party.{Party}
use Rattle.inbox_laws.specs.link_talk.specs.Packets.{passed}
use Rattle.inbox_laws.specs.link_talk.specs.Sayings.{Saying, Command, Carried, GaveUp}
use Rattle.inbox_laws.specs.link_talk.specs.Sdus.{spoken}
use Rattle.credit_laws.specs.Covered.{IsCovered}

-- the SDUs on a channel of a talk grant the host at least what it spent
abbrev pub IsCoveredOn : Party → Channel → List Saying → Type 0
IsCoveredOn party channel said = IsCovered party.dlci party.role (map (passed party) (spoken party channel said))

-- so do those of each channel of RFCOMM, whether its host has closed it or not
abbrev pub AreCovered : Party → List Saying → Type 0
AreCovered party said = AllByRecursion (λ (entry : Entry). entry.channel.psm ≡ 0x0003 → IsCoveredOn party entry.channel said) (reading said).entries

-- it goes out, or nobody hears it
abbrev pub IsSaidOut : Saying → Type 0
IsSaidOut (Command Out answer) = Unit {0}
IsSaidOut (Command Into answer) = ⊥
IsSaidOut (Carried Out pdu) = Unit {0}
IsSaidOut (Carried Into pdu) = ⊥
IsSaidOut (GaveUp forgone) = Unit {0}

-- Where they do behind all that the host said, they did so before it said the last of it: only what came in grants something.
abbrev pub EarlierIsCovered : Type 0
EarlierIsCovered = (party : Party) (channel : Channel) (said last : List Saying) → AllByRecursion IsSaidOut last → IsCoveredOn party channel (said ++ last) → IsCoveredOn party channel said

-- the credits that the host holds on the link are not below nothing
pub record HoldsSome (party : Party) (said : List Saying) : Type 0 where
  pub left : ℕ
  pub held : credits party said ≡ pos left

abbrev pub CoveredHoldSome : Type 0
CoveredHoldSome = (party : Party) (said : List Saying) → AreCovered party said → HoldsSome party said
