-- The objects that the packets of a link spell (IrOBEX 1.5, 3.4.3; Object Push Profile 1.2, 4.3). A packet that is longer
-- than its receiver states is refused by it, so it spells nothing.
use Rattle.std.specs.Prelude.{ℕ, List, [], ◌∷◌, ◌++◌, map, Option}
use Rattle.std.specs.List.{flat_map}
use Rattle.bt_base.specs.Objects.{Object}
use Rattle.capture.specs.Histories.{given_by}
use Rattle.obex_headers.specs.declared.packet.Phase.TheVariants.{Request}
use Rattle.obex_headers.specs.Packets.{PlainPacket}
use Rattle.obex_headers.specs.Reading.{packet_in}
use Rattle.obex_headers.specs.Runs.{put_of, objects_from}
use Rattle.link_talk.specs.declared.channel.Channel.{Channel}
use Rattle.link_talk.specs.Sayings.{Saying}
use Rattle.link_talk.specs.Channels.{Entry, reading}
use Rattle.link_talk.specs.Gains.{beyond}
use Rattle.link_talk.specs.declared.party.Party.{Party}
use Rattle.link_talk.specs.Packets.{packets_heard}

-- the PUT that the octets are for a receiver of packets of so many octets
abbrev pub put_within : ℕ → List ℕ → Option PlainPacket
put_within most octets = put_of (packet_in Request most octets)

-- the objects that packets spell, in the order of their last packets
abbrev pub spelled_within : ℕ → List (List ℕ) → List Object
spelled_within most packets = objects_from [] (map (put_within most) packets)

-- those that the packets spell which a host heard on a channel
abbrev pub channel_objects : Party → Channel → List Saying → List Object
channel_objects party channel said = spelled_within party.packet (packets_heard party channel said)

-- those on channels that a longer talk has more
abbrev pub objects_between : Party → (past now : List Saying) → List Entry → List Object
objects_between party past now entries = flat_map (λ (entry : Entry). beyond (channel_objects party entry.channel past) (channel_objects party entry.channel now)) entries

-- those that are whole with one saying more
abbrev pub objects_with : Party → List Saying → Saying → List Object
objects_with party past more = objects_between party past (past ++ more ∷ []) (reading past).entries

-- the objects of a link, in the order of their last packets
abbrev pub objects : Party → List Saying → List Object
objects party said = given_by (objects_with party) said
