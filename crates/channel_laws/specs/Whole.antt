-- That all SDUs that come on a channel are handed up (Core 5.1, Volume 3 Part A, 7.3 and 8.6).
use Rattle.std.specs.Prelude.{ℕ, ◌≡◌, List, [], Some, Ok, Err}
use Rattle.own_channel_laws.specs.talk_laws.specs.acl_fragments.specs.Pieces.{channel_of}
use Rattle.own_channel_laws.specs.talk_laws.specs.capture.specs.Histories.{EachAfter}
use Rattle.own_channel_laws.specs.talk_laws.specs.capture.specs.declared.flow.Flow.TheVariants.{Into}
use Rattle.own_channel_laws.specs.talk_laws.specs.ertm_frames.specs.Answers.{Answer}
use Rattle.own_channel_laws.specs.talk_laws.specs.ertm_frames.specs.Frames.{information, supervisory}
use Rattle.own_channel_laws.specs.channel_model.specs.ertm_model.specs.declared.reason.ErtmReason.{ErtmReason}
use Rattle.own_channel_laws.specs.channel_model.specs.ertm_model.specs.Value.{Ertm}
use Rattle.own_channel_laws.specs.talk_laws.specs.link_talk.specs.declared.channel.Channel.{Channel}
use Rattle.own_channel_laws.specs.talk_laws.specs.link_talk.specs.declared.party.Party.{Party}
use Rattle.own_channel_laws.specs.talk_laws.specs.link_talk.specs.Sdus.{sdus}
use Rattle.own_channel_laws.specs.channel_model.specs.Value.{Retransmitting, Setup, Held, Channels}
use Rattle.own_channel_laws.specs.channel_model.specs.Policies.{Policy}
use Rattle.own_channel_laws.specs.channel_model.specs.Changing.{held_at, setup_of}
use Rattle.own_channel_laws.specs.channel_model.specs.Carrying.{machine_heard, read_by}
use Rattle.own_channel_laws.specs.Runs.{Occurrence, Comes, Connects, AsksFeatures, Disconnects, Sends, Gives, Fires, Tells, Run, run_of, sdus_up}
use Rattle.own_channel_laws.specs.Sdus.{StatesFrame}
use Rattle.channel_laws.specs.Pairs.{Turn, pair_of}
use Rattle.channel_laws.specs.Ends.{AreFair}
use Rattle.channel_laws.specs.Belonging.{AreRead}
use Rattle.channel_laws.specs.Pipes.{AreCarried, CanStateBoth}

-- ---- one host

-- it has no part of an SDU
abbrev pub BringsNone : Answer → Type 0
BringsNone (Ok (information tx final req sar total octets)) = ⊥
BringsNone (Ok (supervisory kind poll final req)) = Unit {0}
BringsNone (Err refusal) = Unit {0}

-- a PDU at which the machine of its channel closes is such a one
abbrev pub ClosesOnNone : Occurrence → Channels → Type 0
ClosesOnNone (Comes pdu) v = (held : Held) (setup : Setup) (machine : Ertm) (reason : ErtmReason) → held_at (channel_of pdu) v ≡ Some held → setup_of held.stage ≡ Some setup → setup.carrier ≡ Some (Retransmitting machine)
    → (machine_heard (read_by machine pdu) machine).closed ≡ Some reason → BringsNone (read_by machine pdu)
ClosesOnNone (Connects psm) v = Unit {0}
ClosesOnNone AsksFeatures v = Unit {0}
ClosesOnNone (Disconnects own) v = Unit {0}
ClosesOnNone (Sends own sdu) v = Unit {0}
ClosesOnNone (Gives pdu) v = Unit {0}
ClosesOnNone Fires v = Unit {0}
ClosesOnNone Tells v = Unit {0}

-- of each channel, the SDUs that the talk of the host brings are those that are handed up
abbrev pub HandsAllUp : Policy → Run → Type 0
HandsAllUp policy run = (party : Party) (channel : Channel) → StatesFrame policy party → sdus party channel Into run.said ≡ sdus_up channel.own run.up

-- Where no machine closes at a PDU that has a part of an SDU, all SDUs that the own talk of the host brings are handed up.
abbrev pub SdusAreHandedUp : Type 0
SdusAreHandedUp = (policy : Policy) (list : List Occurrence) → EachAfter (λ past more. ClosesOnNone more (run_of policy past).value) [] list → HandsAllUp policy (run_of policy list)

-- ---- two hosts

-- Whatever the link loses, repeats and damages: so it is at both ends of a link, also of a channel that its machine closed. For an end closes
-- its machine for want of tries alone, and no I-frame of the other ends a wait.
abbrev pub ChannelsAreWhole : Type 0
ChannelsAreWhole = (near far : Policy) (turns : List Turn) → AreFair near far turns → AreRead near far turns → AreCarried near far turns → ((psm : ℕ) → CanStateBoth near far psm)
    → HandsAllUp near (pair_of near far turns).near.run × HandsAllUp far (pair_of near far turns).far.run
