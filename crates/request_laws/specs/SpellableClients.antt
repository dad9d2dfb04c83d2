-- What a client over RFCOMM says can be spelled, so it is read as it was sent (Object Push Profile 1.2, 4.3; RFCOMM 1.2, 5.1).
use Rattle.std.specs.Prelude.{ℕ, ◌≤◌, List, length, Result}
use Rattle.std.specs.List.{AllByRecursion}
use Rattle.pair_laws.specs.bt_base.specs.declared.ports.PortFault.{PortFault}
use Rattle.pair_laws.specs.bt_base.specs.declared.settings.Settings.{Settings}
use Rattle.pair_laws.specs.bt_base.specs.Octets.{IsOctets}
use Rattle.pair_laws.specs.push_model.specs.Client.{Client, new_client, begins}
use Rattle.pair_laws.specs.push_model.specs.Events.{News, LinkUp, LinkFailed, ChannelOpen, ChannelClosed, Sdu, FeaturesTold, FeaturesLost, Timer}
use Rattle.pair_laws.specs.push_model.specs.Events as news
use Rattle.pair_laws.specs.push_model.specs.Laws.{Deed, Hears, Asks, Finishes, Cancels, done}
use Rattle.pair_laws.specs.shelf_model.specs.Held.{IsPartOctets}
use Rattle.pair_laws.specs.push_laws.specs.Carriage.{frames_by}
use Rattle.request_laws.specs.Carried.{IsReadSo}
use Rattle.request_laws.specs.Spellable.{SaysSpellable}

-- ---- what happens to it

-- an SDU that it hears are octets
abbrev pub BringsOctets : News → Type 0
BringsOctets LinkUp = Unit {0}
BringsOctets (news.LinkDown reason) = Unit {0}
BringsOctets (LinkFailed status) = Unit {0}
BringsOctets (ChannelOpen psm mtu) = Unit {0}
BringsOctets (ChannelClosed psm cause) = Unit {0}
BringsOctets (Sdu psm octets) = IsOctets octets
BringsOctets FeaturesTold = Unit {0}
BringsOctets FeaturesLost = Unit {0}
BringsOctets Timer = Unit {0}

-- so is what its shelf answers
abbrev pub IsOfOctets : Deed → Type 0
IsOfOctets (Hears news) = BringsOctets news
IsOfOctets (Asks parts) = AllByRecursion IsPartOctets parts
IsOfOctets Finishes = Unit {0}
IsOfOctets Cancels = Unit {0}

-- ---- what it is

-- a server channel (RFCOMM 1.2, 5.4)
pub record IsServerChannel (channel : ℕ) : Type 0 where
  pub least : 1 ≤ channel
  pub most : channel ≤ 30

-- a continuation state of a search (Core 5.1, Volume 3 Part B, 4.3)
pub record IsState (continuation : List ℕ) : Type 0 where
  pub are_octets : IsOctets continuation
  pub short : length continuation ≤ 16

-- its multiplexer says what can be spelled, and what is left to send are octets
abbrev pub SpellsAll : Client → Type 0
SpellsAll client = SaysSpellable client.mux × IsServerChannel client.channel × IsOctets client.rest × IsState client.query.continuation

-- ---- the law

-- So is a new client, and stays so, whatever happens to it; and each frame that it sends is read as it was sent.
pub record ClientFramesAreRead : Type 0 where
  pub first : (settings : Settings) → SpellsAll (new_client settings)
  pub beginning : (size : Result ℕ PortFault) (name : List ℕ) (client : Client) → SpellsAll client → SpellsAll (begins size name client)
  pub doing : (deed : Deed) (client : Client) → IsOfOctets deed → SpellsAll client → SpellsAll (done deed client) × AllByRecursion IsReadSo (frames_by deed client)
