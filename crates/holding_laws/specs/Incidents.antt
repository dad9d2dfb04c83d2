-- What happens on a link, in one order: a PDU comes in whole, the timer fires, a PDU of the host is given, and its last piece goes out (Core 5.1, Volume 3
-- Part A, 7.2.1; Volume 2 Part E, 4.1.1, for the buffers for which its pieces may wait).
use Rattle.std.specs.Prelude.{ℕ, ◌≡◌, true, is_some, List, [], ◌∷◌, Some}
use Rattle.std.specs.List.{AllByRecursion, filter_map, flat_map}
use Rattle.call_laws.specs.bt_host.specs.channel_model.specs.Calls.{peer_mtu}
use Rattle.call_laws.specs.bt_host.specs.channel_model.specs.Giving.{Given, next_given}
use Rattle.call_laws.specs.bt_host.specs.channel_model.specs.Policies.{Policy}
use Rattle.call_laws.specs.bt_host.specs.channel_model.specs.Value.{Channels, no_channels}
use Rattle.call_laws.specs.bt_host.specs.host_model.specs.Pdus.{pdu_of}
use Rattle.call_laws.specs.unit_laws.specs.opening_laws.specs.Opening.{reads_open, says_open, stays_open}
use Rattle.call_laws.specs.unit_laws.specs.scenario_laws.specs.channel_laws.specs.Runs.{Occurrence, Comes, Connects, AsksFeatures, Disconnects, Sends, Gives, Fires, Tells, value_after, run_of}
use Rattle.call_laws.specs.unit_laws.specs.scenario_laws.specs.host_laws.specs.Calls.{asked, outer}
use Rattle.call_laws.specs.unit_laws.specs.scenario_laws.specs.link_talk.specs.declared.channel.Channel.{Channel}
use Rattle.call_laws.specs.unit_laws.specs.scenario_laws.specs.link_talk.specs.declared.party.Party.{Party}

pub data Incident : Type 0 where
  -- a PDU has come in whole; the timer fires
  CameWhole : (pdu : List ℕ) → Incident
  WasFired : Incident
  -- a PDU is given, and its pieces may go out from now on; the last of them has gone out
  WasGiven : (pdu : List ℕ) → Incident
  WasSent : (pdu : List ℕ) → Incident

-- what it is to the channels of the host
abbrev pub in_channels : Incident → List Occurrence
in_channels (CameWhole pdu) = Comes pdu ∷ []
in_channels WasFired = Fires ∷ []
in_channels (WasGiven pdu) = Gives pdu ∷ []
in_channels (WasSent pdu) = []

-- and what it is by the units that move and the firings of the timer: a PDU counts where it is whole
abbrev pub in_units : Incident → List Occurrence
in_units (CameWhole pdu) = Comes pdu ∷ []
in_units WasFired = Fires ∷ []
in_units (WasGiven pdu) = []
in_units (WasSent pdu) = Gives pdu ∷ []

-- A PDU of the host begins where none is under way, and the one that is under way ends; at the end these are, one at most.
abbrev pub GoOneByOne : (under_way : List (List ℕ)) → List Incident → (left : List (List ℕ)) → Type 0
GoOneByOne under_way [] left = left ≡ under_way
GoOneByOne under_way (CameWhole pdu ∷ incidents) left = GoOneByOne under_way incidents left
GoOneByOne under_way (WasFired ∷ incidents) left = GoOneByOne under_way incidents left
GoOneByOne under_way (WasGiven pdu ∷ incidents) left = (under_way ≡ []) × GoOneByOne (pdu ∷ []) incidents left
GoOneByOne under_way (WasSent pdu ∷ incidents) left = (under_way ≡ pdu ∷ []) × GoOneByOne [] incidents left

-- ---- the channels

-- each PDU that is given is the next that the channels have
abbrev pub GivesItsNext : Occurrence → Channels → Type 0
GivesItsNext (Comes pdu) v = Unit {0}
GivesItsNext (Connects psm) v = Unit {0}
GivesItsNext AsksFeatures v = Unit {0}
GivesItsNext (Disconnects own) v = Unit {0}
GivesItsNext (Sends own sdu) v = Unit {0}
GivesItsNext (Gives pdu) v = (given : Given) × (next_given v ≡ Some given) × (pdu ≡ pdu_of given)
GivesItsNext Fires v = Unit {0}
GivesItsNext Tells v = Unit {0}

abbrev pub GiveTheirNext : Policy → Channels → List Occurrence → Type 0
GiveTheirNext policy v [] = Unit {0}
GiveTheirNext policy v (one ∷ list) = GivesItsNext one v × GiveTheirNext policy (value_after policy one v) list

-- what a host asks of its channels by itself: anything, or that an SDU be sent and nothing else
abbrev pub MayAskAll : Occurrence → Type 0
MayAskAll one = Unit {0}

abbrev pub MaySendAlone : Occurrence → Type 0
MaySendAlone (Comes pdu) = ⊥
MaySendAlone (Connects psm) = ⊥
MaySendAlone AsksFeatures = ⊥
MaySendAlone (Disconnects own) = ⊥
MaySendAlone (Sends own sdu) = Unit {0}
MaySendAlone (Gives pdu) = ⊥
MaySendAlone Fires = ⊥
MaySendAlone Tells = ⊥

-- By units and timer this happened on the link. The channels are those of a run to which the same came in the same order, and which gave each PDU before it
-- was out, one at a time; between them the host asked for channels, for features and for ends of channels, and had SDUs to send, as
-- it may. Each channel stays open
-- exactly where the own talk of that run says so; and one whose end its host asked for is open only where the talk had it open.
pub record AreOfIncidents (rules : Policy) (party : Party) (MayAsk : Occurrence → Type 0) (happened : List Occurrence) (channels : Channels) : Type 0 where
  pub incidents : List Incident
  pub happened_is : happened ≡ flat_map in_units incidents
  pub under_way : List (List ℕ)
  pub one_by_one : GoOneByOne [] incidents under_way
  pub list : List Occurrence
  pub list_is : filter_map outer list ≡ flat_map in_channels incidents
  pub asked_are : AllByRecursion MayAsk (filter_map asked list)
  pub gives : GiveTheirNext rules no_channels list
  pub run : channels ≡ (run_of rules list).value
  pub opens : (channel : Channel) → stays_open channel.own channels ≡ says_open party (run_of rules list).said channel
  pub only : (channel : Channel) → is_some (peer_mtu channel.own channels) ≡ true → reads_open party (run_of rules list).said channel ≡ true
