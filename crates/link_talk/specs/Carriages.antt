-- The PDUs that go over a channel (Core 5.1, Volume 3 Part A, 3.1, 4.5 and 7.1).
use Rattle.std.specs.Prelude.{ℕ, ◌==◌, ◌&&◌, Bool, false, List, [], ◌∷◌, find, Option, Some, None, if◌then◌else◌}
use Rattle.std.specs.List.{filter_map}
use Rattle.acl_fragments.specs.Pieces.{channel_of}
use Rattle.capture.specs.declared.flow.Flow.{Flow}
use Rattle.capture.specs.declared.flow.Flow.TheVariants.{Out, Into}
use Rattle.capture.specs.Histories.{given_by}
use Rattle.capture.specs.Pdus.{same_flow}
use Rattle.l2cap_config.specs.declared.wish.Mode.{Mode}
use Rattle.l2cap_config.specs.declared.wish.Mode.TheVariants.{Basic}
use Rattle.link_talk.specs.declared.channel.Channel.{Channel}
use Rattle.link_talk.specs.Sayings.{Saying, Command, Carried, GaveUp}
use Rattle.link_talk.specs.Setups.{is_set, agreed_mode}
use Rattle.link_talk.specs.Channels.{Entry, is_alive, is_there, reading}

-- ---- which channel a PDU goes over

-- a PDU names the endpoint of the side that it goes to
abbrev pub endpoint : Flow → Channel → ℕ
endpoint Out channel = channel.peer
endpoint Into channel = channel.own

-- the channel has opened, and has not ended for its host
abbrev pub is_held : Entry → Bool
is_held entry = is_set entry.setup && is_there entry.life

-- the channel has opened, and its host has not closed it
abbrev pub is_open : Entry → Bool
is_open entry = is_set entry.setup && is_alive entry.life

-- A channel hears while it is open. What its host sends counts until the channel has ended for it.
abbrev pub is_heard : Flow → Entry → Bool
is_heard Out entry = is_held entry
is_heard Into entry = is_open entry

-- a frame counts both ways until the channel has ended for its host
abbrev pub is_passed : Flow → Entry → Bool
is_passed flow entry = is_held entry

abbrev pub takes : (Flow → Entry → Bool) → Flow → ℕ → Entry → Bool
takes counts flow identifier entry = counts flow entry && (endpoint flow entry.channel == identifier)

-- ---- what goes over a channel

-- a PDU, whole, and which way it went
pub record Carriage : Type 0 where
  pub flow : Flow
  pub pdu : List ℕ

-- the channel that a PDU goes over, of those that are there
abbrev pub taker : (Flow → Entry → Bool) → Flow → List ℕ → List Entry → Option Entry
taker counts flow pdu entries = find (takes counts flow (channel_of pdu)) entries

abbrev pub is_on : Channel → Option Entry → Bool
is_on channel None = false
is_on channel (Some entry) = entry.channel.own == channel.own

abbrev pub carried_by : (Flow → Entry → Bool) → Channel → List Entry → Saying → List Carriage
carried_by counts channel entries (Command flow answer) = []
carried_by counts channel entries (Carried flow pdu) = if is_on channel (taker counts flow pdu entries) then record { flow = flow; pdu = pdu } ∷ [] else []
carried_by counts channel entries (GaveUp forgone) = []

abbrev pub carried : (Flow → Entry → Bool) → Channel → List Saying → Saying → List Carriage
carried counts channel past saying = carried_by counts channel (reading past).entries saying

-- what a channel carries in its stretch: from its opening until its host closes it
abbrev pub stretch : Channel → List Saying → List Carriage
stretch channel said = given_by (carried is_heard channel) said

-- the frames on it, until it has ended for its host
abbrev pub passages : Channel → List Saying → List Carriage
passages channel said = given_by (carried is_passed channel) said

-- the PDUs that went one way
abbrev pub one_way : Flow → Carriage → Option (List ℕ)
one_way flow carriage = if same_flow flow carriage.flow then Some carriage.pdu else None

abbrev pub pdus_of : Flow → List Carriage → List (List ℕ)
pdus_of flow carriages = filter_map (one_way flow) carriages

-- ---- the mode of a channel

abbrev pub has_own : Channel → Entry → Bool
has_own channel entry = entry.channel.own == channel.own

abbrev pub entry_mode : Option Entry → Mode
entry_mode None = Basic
entry_mode (Some entry) = agreed_mode entry.setup

abbrev pub mode_of : Channel → List Saying → Mode
mode_of channel said = entry_mode (find (has_own channel) (reading said).entries)
