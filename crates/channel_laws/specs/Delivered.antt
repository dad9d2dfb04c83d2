-- What comes up of an enhanced channel is what the other host's channel took, in its order (Core 5.1, Volume 3 Part A, 7.3 and 8.6).
use Rattle.std.specs.Prelude.{ℕ, ◌≡◌, List}
use Rattle.own_channel_laws.specs.talk_laws.specs.l2cap_config.specs.declared.wish.Mode.TheVariants.{Enhanced}
use Rattle.own_channel_laws.specs.talk_laws.specs.link_talk.specs.declared.channel.Channel.{Channel}
use Rattle.own_channel_laws.specs.talk_laws.specs.link_talk.specs.declared.party.Party.{Party}
use Rattle.own_channel_laws.specs.talk_laws.specs.link_talk.specs.Carriages.{mode_of}
use Rattle.own_channel_laws.specs.channel_model.specs.Policies.{Policy}
use Rattle.own_channel_laws.specs.channel_model.specs.Carrying.{Up}
use Rattle.own_channel_laws.specs.Runs.{Occurrence, Run, run_of, sdus_up}
use Rattle.own_channel_laws.specs.Frames.{AreUttered}
use Rattle.own_channel_laws.specs.Sdus.{StatesFrame}
use Rattle.channel_laws.specs.Pairs.{Turn, pair_of}
use Rattle.channel_laws.specs.Ends.{AreFair}
use Rattle.channel_laws.specs.Belonging.{AreRead}
use Rattle.channel_laws.specs.Common.{mirrored}
use Rattle.channel_laws.specs.Pipes.{AreCarried, HaveChannel, CanStateBoth, IsFront}
use Rattle.channel_laws.specs.Taken.{taken_of}

-- this occurred to the host, and it uttered what it is
pub record IsRunBy (policy : Policy) (run : Run) (list : List Occurrence) : Type 0 where
  pub run_is : run ≡ run_of policy list
  pub uttered : AreUttered policy list

-- what one host handed up of its endpoint is a front of what the channel of the other took
abbrev pub IsDelivered : Policy → (sent : Channel) → Run → List Occurrence → (own : ℕ) → List Up → Type 0
IsDelivered policy sent run list own ups = (party : Party) → StatesFrame policy party → mode_of sent run.said ≡ Enhanced → IsFront (sdus_up own ups) (taken_of policy sent.own list)

-- Whatever the link loses, repeats and damages: over an enhanced channel that two hosts have in common there come the SDUs that it was
-- given, in their order, both ways.
abbrev pub TakenIsDelivered : Type 0
TakenIsDelivered = (near far : Policy) (turns : List Turn) (channel : Channel) (one other : List Occurrence) → AreFair near far turns → AreRead near far turns → AreCarried near far turns → HaveChannel near far turns channel → CanStateBoth near far channel.psm
    → IsRunBy near (pair_of near far turns).near.run one → IsRunBy far (pair_of near far turns).far.run other
    → IsDelivered far (mirrored channel) (pair_of near far turns).far.run other channel.own (pair_of near far turns).near.run.up × IsDelivered near channel (pair_of near far turns).near.run one channel.peer (pair_of near far turns).far.run.up

-- the same, in whatever mode the other's talk has the channel so far
abbrev pub IsWholeFront : Policy → (sent : Channel) → List Occurrence → (own : ℕ) → List Up → Type 0
IsWholeFront policy sent list own ups = (party : Party) → StatesFrame policy party → IsFront (sdus_up own ups) (taken_of policy sent.own list)

-- Where both hosts wish enhanced mode of its PSM so it is of each channel that they have in common.
abbrev pub WishedIsDelivered : Type 0
WishedIsDelivered = (near far : Policy) (turns : List Turn) (channel : Channel) (one other : List Occurrence) → AreFair near far turns → AreRead near far turns → AreCarried near far turns → HaveChannel near far turns channel → CanStateBoth near far channel.psm
    → (near.wish channel.psm).mode ≡ Enhanced → (far.wish channel.psm).mode ≡ Enhanced → IsRunBy near (pair_of near far turns).near.run one → IsRunBy far (pair_of near far turns).far.run other
    → IsWholeFront far (mirrored channel) other channel.own (pair_of near far turns).near.run.up × IsWholeFront near channel one channel.peer (pair_of near far turns).far.run.up
