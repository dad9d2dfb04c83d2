-- What the PDUs of a link say, as one of its hosts says and hears them (Core 5.1, Volume 3 Part A, 3.1 and 4).
use Rattle.std.specs.Prelude.{ℕ, ◌==◌, List, [], ◌∷◌, map, drop, if◌then◌else◌}
use Rattle.std.specs.List.{flat_map}
use Rattle.acl_fragments.specs.Pieces.{channel_of}
use Rattle.l2cap_signal.specs.Reading.{Answer, answers}
use Rattle.capture.specs.declared.flow.Flow.{Flow}
use Rattle.capture.specs.Links.{Link}
use Rattle.capture.specs.Pdus.{Pdu, pdus}

-- a request that a host waits for no longer, without a word to its peer
pub data Forgone : Type 0 where
  -- for a channel, with the host's endpoint of it
  Connection : (identifier own : ℕ) → Forgone
  -- for the end of a channel, with both its endpoints
  Disconnection : (own peer : ℕ) → Forgone
  -- for information
  Information : (identifier : ℕ) → Forgone

-- A command on the signalling channel, one that is refused too; a PDU of another channel, whole; and what the host gave
-- up, which nobody hears.
pub data Saying : Type 0 where
  Command : (flow : Flow) (answer : Answer) → Saying
  Carried : (flow : Flow) (pdu : List ℕ) → Saying
  GaveUp : (forgone : Forgone) → Saying

-- a PDU on channel 1 says each of its commands, another one is said whole
abbrev pub said_by : Pdu → List Saying
said_by pdu =
    if channel_of pdu.octets == 0x0001
    then map (Command pdu.flow) (answers (drop 4 pdu.octets))
    else Carried pdu.flow pdu.octets ∷ []

-- the talk of a link: all that moved on it, in the order in which it moved
abbrev pub talk : Link → List Saying
talk link = flat_map said_by (pdus link)
