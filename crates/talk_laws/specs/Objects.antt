-- The packets and objects on a channel with more of them (IrOBEX 1.5, 2.2 and 3.4.3).
use Rattle.std.specs.Prelude.{ℕ, ◌≡◌, List, [], ◌∷◌, ◌++◌}
use Rattle.link_talk.specs.capture.specs.declared.flow.Flow.{Flow}
use Rattle.link_talk.specs.capture.specs.Histories.{given_by}
use Rattle.link_talk.specs.rfcomm_frames.specs.ObexPackets.{obex_packets}
use Rattle.link_talk.specs.declared.channel.Channel.{Channel}
use Rattle.link_talk.specs.declared.party.Party.{Party}
use Rattle.link_talk.specs.Sayings.{Saying}
use Rattle.link_talk.specs.Sdus.{Spoken, spoken, spoken_one_way}
use Rattle.link_talk.specs.Packets.{OverRfcomm, packet_with, packets_over_rfcomm, packets}
use Rattle.link_talk.specs.ObjectsHeard.{channel_objects}

-- a list with more behind it
pub record GrowsTo {X : Type 0} (old new : List X) : Type 0 where
  pub more : List X
  pub grown : new ≡ old ++ more

pub record ObjectsGrow : Type 0 where
  -- the packets of a longer stream are those of the shorter one, and more behind them
  pub streams : (xs ys : List ℕ) → GrowsTo (obex_packets xs) (obex_packets (xs ++ ys))
  -- the packets that went one way over RFCOMM are those of the whole stream of octets that went that way
  pub whole_streams : (party : Party) (flow : Flow) (sdus : List Spoken) → spoken_one_way flow (given_by (packet_with party OverRfcomm) sdus) ≡ packets_over_rfcomm party flow sdus
  -- one saying more leaves the SDUs, the packets and the objects of each channel, and adds behind them
  pub spoken : (party : Party) (channel : Channel) (said : List Saying) (more : Saying) → GrowsTo (spoken party channel said) (spoken party channel (said ++ more ∷ []))
  pub packets : (party : Party) (channel : Channel) (said : List Saying) (more : Saying) → GrowsTo (packets party channel said) (packets party channel (said ++ more ∷ []))
  pub objects : (party : Party) (channel : Channel) (said : List Saying) (more : Saying) → GrowsTo (channel_objects party channel said) (channel_objects party channel (said ++ more ∷ []))
