-- The OBEX packets on a channel, over L2CAP and over RFCOMM (IrOBEX 1.5, 2.2; RFCOMM 1.2, 5; Object Push Profile 1.2, 4).
use Rattle.std.specs.Prelude.{ℕ, ◌==◌, List, [], ◌∷◌, map, if◌then◌else◌}
use Rattle.capture.specs.declared.flow.Flow.{Flow}
use Rattle.capture.specs.declared.flow.Flow.TheVariants.{Out, Into}
use Rattle.capture.specs.Histories.{given_by}
use Rattle.rfcomm_frames.specs.declared.connection.Role.{Role}
use Rattle.rfcomm_frames.specs.Connections.{other_role}
use Rattle.rfcomm_frames.specs.Multiplexing.{Passed}
use Rattle.rfcomm_frames.specs.UserChannel.{user_octets}
use Rattle.rfcomm_frames.specs.ObexPackets.{obex_packets}
use Rattle.link_talk.specs.declared.channel.Channel.{Channel}
use Rattle.link_talk.specs.Sayings.{Saying}
use Rattle.link_talk.specs.Gains.{gained}
use Rattle.link_talk.specs.declared.party.Party.{Party}
use Rattle.link_talk.specs.Sdus.{Spoken, spoken, spoken_as, spoken_one_way}

-- ---- how a protocol carries packets

pub data Carrier : Type 0 where
  -- each SDU is a packet
  OverL2cap : Carrier
  -- the user channel of RFCOMM carries them one behind the other
  OverRfcomm : Carrier
  OverNothing : Carrier

-- the PSM of Object Push over L2CAP is this project's own choice
abbrev pub carrier : ℕ → Carrier
carrier psm = if psm == 0x1001 then OverL2cap else (if psm == 0x0003 then OverRfcomm else OverNothing)

-- ---- over RFCOMM

-- whose octets go one way
abbrev pub role_of : Party → Flow → Role
role_of party Out = party.role
role_of party Into = other_role party.role

abbrev pub passed : Party → Spoken → Passed
passed party one = record { from = role_of party one.flow; sdu = one.octets }

abbrev pub packets_over_rfcomm : Party → Flow → List Spoken → List (List ℕ)
packets_over_rfcomm party flow sdus = obex_packets (user_octets party.dlci party.role (role_of party flow) (map (passed party) sdus))

-- ---- both ways, in their order

-- a packet stands where the SDU stands with which it is whole
abbrev pub packet_with : Party → Carrier → List Spoken → Spoken → List Spoken
packet_with party OverL2cap past more = more ∷ []
packet_with party OverRfcomm past more = map (spoken_as more.flow) (gained (packets_over_rfcomm party more.flow) past more)
packet_with party OverNothing past more = []

abbrev pub packets_spoken : Party → ℕ → List Spoken → List Spoken
packets_spoken party psm sdus = given_by (packet_with party (carrier psm)) sdus

-- the packets that a host sent and heard on a channel
abbrev pub packets : Party → Channel → List Saying → List Spoken
packets party channel said = packets_spoken party channel.psm (spoken party channel said)

abbrev pub packets_heard : Party → Channel → List Saying → List (List ℕ)
packets_heard party channel said = spoken_one_way Into (packets party channel said)
