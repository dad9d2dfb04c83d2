-- The SDUs on a channel (Core 5.1, Volume 3 Part A, 3.1, 3.3, 7.3 and 8.4). In basic mode each PDU carries one. In enhanced
-- retransmission mode the frames are picked by their numbers, and their segments joined.
use Rattle.std.specs.Prelude.{ℕ, List, map, drop, Option, Some, None, if◌then◌else◌}
use Rattle.std.specs.List.{filter_map}
use Rattle.capture.specs.declared.flow.Flow.{Flow}
use Rattle.capture.specs.declared.flow.Flow.TheVariants.{Out, Into}
use Rattle.capture.specs.Histories.{given_by}
use Rattle.capture.specs.Pdus.{same_flow}
use Rattle.ertm_frames.specs.Picking.{sdus_in}
use Rattle.l2cap_config.specs.declared.wish.Mode.{Mode}
use Rattle.l2cap_config.specs.declared.wish.Mode.TheVariants.{Basic, Enhanced}
use Rattle.link_talk.specs.declared.channel.Channel.{Channel}
use Rattle.link_talk.specs.declared.party.Party.{Party}
use Rattle.link_talk.specs.Sayings.{Saying}
use Rattle.link_talk.specs.Carriages.{Carriage, stretch, pdus_of, mode_of}
use Rattle.link_talk.specs.Gains.{gained}

-- what the host itself sends is read whatever its length
abbrev pub longest : Party → Flow → ℕ
longest party Out = 65535
longest party Into = party.frame

abbrev pub sdus_by : ℕ → Mode → List (List ℕ) → List (List ℕ)
sdus_by most Basic pdus = map (drop 4) pdus
sdus_by most Enhanced pdus = sdus_in most pdus

-- the SDUs that went one way, of all that a channel carried
abbrev pub sdus_of : Party → Mode → Flow → List Carriage → List (List ℕ)
sdus_of party mode flow carriages = sdus_by (longest party flow) mode (pdus_of flow carriages)

abbrev pub sdus : Party → Channel → Flow → List Saying → List (List ℕ)
sdus party channel flow said = sdus_of party (mode_of channel said) flow (stretch channel said)

-- ---- both ways, in their order

-- octets that a host sent or heard on a channel: an SDU, or a packet
pub record Spoken : Type 0 where
  pub flow : Flow
  pub octets : List ℕ

abbrev pub spoken_as : Flow → List ℕ → Spoken
spoken_as flow octets = record { flow = flow; octets = octets }

-- an SDU stands where the PDU stands with which it is whole
abbrev pub spoken_with : Party → Mode → List Carriage → Carriage → List Spoken
spoken_with party mode past more = map (spoken_as more.flow) (gained (sdus_of party mode more.flow) past more)

abbrev pub spoken : Party → Channel → List Saying → List Spoken
spoken party channel said = given_by (spoken_with party (mode_of channel said)) (stretch channel said)

-- the octets that went one way
abbrev pub spoken_way : Flow → Spoken → Option (List ℕ)
spoken_way flow one = if same_flow flow one.flow then Some one.octets else None

abbrev pub spoken_one_way : Flow → List Spoken → List (List ℕ)
spoken_one_way flow list = filter_map (spoken_way flow) list
