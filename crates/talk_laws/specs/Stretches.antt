-- Objects within any longest packet, as stretches of packets spell them (IrOBEX 1.5, 3.4.1 and 3.4.3).
use Rattle.std.specs.Prelude.{◌≡◌, ℕ, ◌≤◌, ◌↔◌, List, map}
use Rattle.link_talk.specs.bt_base.specs.Objects.{Object}
use Rattle.link_talk.specs.obex_headers.specs.Runs.{spelled, FallsInto}
use Rattle.link_talk.specs.declared.channel.Channel.{Channel}
use Rattle.link_talk.specs.declared.party.Party.{Party}
use Rattle.link_talk.specs.Sayings.{Saying}
use Rattle.link_talk.specs.Packets.{packets_heard}
use Rattle.link_talk.specs.ObjectsHeard.{put_within, spelled_within, channel_objects}
use Rattle.link_talk.specs.Shortening.{shortened}

pub record ObjectsFallIntoStretches : Type 0 where
  -- the objects are those of the stretches into which the packets fall, however that is shown
  pub within : (most : ℕ) (packets : List (List ℕ)) (objects : List Object) → (objects ≡ spelled_within most packets) ↔ FallsInto (map (put_within most) packets) objects
  -- so are those that a host hears on a channel, within the longest packet that it takes
  pub heard : (party : Party) (channel : Channel) (said : List Saying) (objects : List Object)
      → (objects ≡ channel_objects party channel said) ↔ FallsInto (map (put_within party.packet) (packets_heard party channel said)) objects
  -- a packet that is longer counts as one without octets, and the others as within 65,535 octets
  pub longer : (most : ℕ) (packets : List (List ℕ)) → most ≤ 65535 → spelled_within most packets ≡ spelled (map (shortened most) packets)
