-- Links on which one channel alone carries packets (Object Push Profile 1.2, 4.3).
use Rattle.std.specs.Prelude.{ℕ, ◌≡◌, ◌==◌, true, false, List}
use Rattle.std.specs.List.{AllByRecursion}
use Rattle.push_laws.specs.link_talk.specs.declared.channel.Channel.{Channel}
use Rattle.push_laws.specs.link_talk.specs.declared.party.Party.{Party}
use Rattle.push_laws.specs.link_talk.specs.Sayings.{Saying}
use Rattle.push_laws.specs.link_talk.specs.Channels.{Entry, reading}
use Rattle.push_laws.specs.link_talk.specs.ObjectsHeard.{channel_objects, objects}

-- a PSM on which no packets go
abbrev pub IsAside : ℕ → Type 0
IsAside psm = (psm ≡ 0x1001 → ⊥) × (psm ≡ 0x0003 → ⊥)

-- another channel carries none
pub record IsFor (channel other : Channel) : Type 0 where
  pub same : (other.own == channel.own) ≡ true → other ≡ channel
  pub aside : (other.own == channel.own) ≡ false → IsAside other.psm

abbrev pub CarriesAlone : Channel → List Saying → Type 0
CarriesAlone channel said = AllByRecursion (λ (entry : Entry). IsFor channel entry.channel) (reading said).entries

-- The objects of a link are those of the one channel that carries packets, over L2CAP or over RFCOMM, for every talk.
abbrev pub OneCarrierGains : Type 0
OneCarrierGains = (party : Party) (channel : Channel) (said : List Saying) → CarriesAlone channel said → objects party said ≡ channel_objects party channel said
