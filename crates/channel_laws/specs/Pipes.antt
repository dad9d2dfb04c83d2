-- Enhanced channels are pipes of SDUs, whatever a link loses, repeats and damages (Core 5.1, Volume 3 Part A, 8.6).
use Rattle.std.specs.Prelude.{ℕ, ◌≡◌, ◌≤◌, ◌<◌, ◌^◌, List, [], ◌∷◌, ◌++◌, length, Option, Some, None, Err, ◌⊎◌}
use Rattle.own_channel_laws.specs.talk_laws.specs.acl_fragments.specs.Pieces.{channel_of}
use Rattle.own_channel_laws.specs.talk_laws.specs.capture.specs.Histories.{EachAfter}
use Rattle.own_channel_laws.specs.talk_laws.specs.capture.specs.declared.flow.Flow.TheVariants.{Out}
use Rattle.own_channel_laws.specs.talk_laws.specs.l2cap_config.specs.declared.wish.Wish.{Wish}
use Rattle.own_channel_laws.specs.talk_laws.specs.l2cap_config.specs.declared.wish.Agreed.{Agreed}
use Rattle.own_channel_laws.specs.talk_laws.specs.l2cap_config.specs.declared.wish.Mode.TheVariants.{Enhanced}
use Rattle.own_channel_laws.specs.talk_laws.specs.ertm_frames.specs.declared.refusal.FrameRefusal.TheVariants.{Short, BadFcs}
use Rattle.own_channel_laws.specs.talk_laws.specs.ertm_frames.specs.Reading.{answer_in}
use Rattle.own_channel_laws.specs.channel_model.specs.ertm_model.specs.Pair.{Meets}
use Rattle.own_channel_laws.specs.talk_laws.specs.link_talk.specs.declared.channel.Channel.{Channel}
use Rattle.own_channel_laws.specs.talk_laws.specs.link_talk.specs.declared.party.Party.{Party}
use Rattle.own_channel_laws.specs.talk_laws.specs.link_talk.specs.Sayings.{Saying}
use Rattle.own_channel_laws.specs.talk_laws.specs.link_talk.specs.Channels.{reading}
use Rattle.own_channel_laws.specs.talk_laws.specs.link_talk.specs.Carriages.{mode_of}
use Rattle.own_channel_laws.specs.talk_laws.specs.link_talk.specs.Sdus.{sdus}
use Rattle.own_channel_laws.specs.channel_model.specs.Value.{Channels}
use Rattle.own_channel_laws.specs.channel_model.specs.Policies.{Policy}
use Rattle.own_channel_laws.specs.channel_model.specs.Carrying.{Up}
use Rattle.own_channel_laws.specs.channel_model.specs.Giving.{Given, Signal, Whole, Framed, next_given}
use Rattle.own_channel_laws.specs.channel_model.specs.Calls.{peer_mtu}
use Rattle.own_channel_laws.specs.Runs.{Occurrence, Comes, Connects, AsksFeatures, Disconnects, Sends, Gives, Fires, Tells, sdus_up}
use Rattle.own_channel_laws.specs.Views.{read_at}
use Rattle.own_channel_laws.specs.Endpoints.{IsOf}
use Rattle.channel_laws.specs.Belonging.{AreRead}
use Rattle.channel_laws.specs.Common.{mirrored}
use Rattle.channel_laws.specs.Pairs.{End, Happening, Acts, Puts, Takes, Repeats, Loses, Damages, Turn, pair_of}
use Rattle.channel_laws.specs.Ends.{end_at, AreFair}

-- ---- what is given, and what is damaged

-- an SDU that a host has for an open channel is one that its peer takes
abbrev pub IsTakeable : Occurrence → Channels → Type 0
IsTakeable (Comes pdu) v = Unit {0}
IsTakeable (Connects psm) v = Unit {0}
IsTakeable AsksFeatures v = Unit {0}
IsTakeable (Disconnects own) v = Unit {0}
IsTakeable (Sends own sdu) v = (most : ℕ) → peer_mtu own v ≡ Some most → length sdu ≤ most
IsTakeable (Gives pdu) v = Unit {0}
IsTakeable Fires v = Unit {0}
IsTakeable Tells v = Unit {0}

-- an SDU is given for the peer's endpoint
abbrev pub IsAddressed : Option Given → List ℕ → Type 0
IsAddressed None pdu = Unit {0}
IsAddressed (Some (Signal command)) pdu = Unit {0}
IsAddressed (Some (Whole peer sdu)) pdu = channel_of pdu ≡ peer
IsAddressed (Some (Framed peer frame)) pdu = Unit {0}

-- Damage leaves the endpoint of a PDU, and is seen: what comes in is not whole, or its check word does not hold.
abbrev pub IsSeen : List (List ℕ) → List ℕ → Type 0
IsSeen [] other = Unit {0}
IsSeen (pdu ∷ coming) other = (channel_of other ≡ channel_of pdu) × ((most : ℕ) → (answer_in most other ≡ Err Short) ⊎ (answer_in most other ≡ Err BadFcs))

abbrev pub IsCarried : Happening → End → Type 0
IsCarried (Acts occurrence) end' = IsTakeable occurrence end'.run.value
IsCarried (Puts pdu) end' = IsAddressed (next_given end'.run.value) pdu
IsCarried Takes end' = Unit {0}
IsCarried Repeats end' = Unit {0}
IsCarried Loses end' = Unit {0}
IsCarried (Damages pdu) end' = IsSeen end'.coming pdu

-- each time
abbrev pub AreCarried : (near far : Policy) → List Turn → Type 0
AreCarried near far turns = EachAfter (λ past turn. IsCarried turn.happening (end_at turn.side (pair_of near far past))) [] turns

-- ---- a channel that two hosts have in common

-- both talks have it
pub record HaveChannel (near far : Policy) (turns : List Turn) (channel : Channel) : Type 0 where
  pub near_has : IsOf channel (read_at channel.own (reading (pair_of near far turns).near.run.said).entries)
  pub far_has : IsOf (mirrored channel) (read_at channel.peer (reading (pair_of near far turns).far.run.said).entries)

-- what one side sends by is what the other receives by
pub record Suits (mine other : Agreed) : Type 0 where
  pub meets : Meets mine other
  pub some : 1 ≤ mine.send_mps
  pub within : mine.send_mps ≤ other.receive_mps

-- numbers that options can state, a window that frames can have, and frames of one octet at least
pub record CanState (wish : Wish) : Type 0 where
  pub mtu : wish.mtu < 2 ^ 16
  pub mps : wish.mps < 2 ^ 16
  pub least : 1 ≤ wish.mps
  pub tries : wish.tries < 256
  pub some : 1 ≤ wish.window
  pub most : wish.window ≤ 63

-- so both hosts can of the channels of the PSM
pub record CanStateBoth (near far : Policy) (psm : ℕ) : Type 0 where
  pub near_can : CanState (near.wish psm)
  pub far_can : CanState (far.wish psm)

-- ---- the law

-- it is a front of the other list
abbrev pub IsFront : {X : Type 0} → List X → List X → Type 0
IsFront {X} front all = (behind : List X) × (all ≡ front ++ behind)

-- what one host handed up of its endpoint is a front of what the other's talk says that went out
abbrev pub IsPipe : (sent : Channel) → List Saying → (own : ℕ) → List Up → Type 0
IsPipe sent said own ups = (party : Party) → mode_of sent said ≡ Enhanced → IsFront (sdus_up own ups) (sdus party sent Out said)

-- Whatever the link loses, repeats and damages: an enhanced channel that two hosts have in common is a pipe of SDUs both ways.
abbrev pub EnhancedChannelsArePipes : Type 0
EnhancedChannelsArePipes = (near far : Policy) (turns : List Turn) (channel : Channel) → AreFair near far turns → AreRead near far turns → AreCarried near far turns → HaveChannel near far turns channel → CanStateBoth near far channel.psm
    → IsPipe (mirrored channel) (pair_of near far turns).far.run.said channel.own (pair_of near far turns).near.run.up × IsPipe channel (pair_of near far turns).near.run.said channel.peer (pair_of near far turns).far.run.up
