-- How many SDUs of a basic channel do not come, against what the link does (Core 5.1, Volume 3 Part A, 3.1; which turns lose and disturb is this project's own).
use Rattle.std.specs.Prelude.{ℕ, ◌≡◌, ◌≤◌, ◌+◌, List, [], ◌∷◌, length, Some}
use Rattle.channel_laws.specs.l2cap_config.specs.declared.wish.Mode.TheVariants.{Basic}
use Rattle.channel_laws.specs.link_talk.specs.declared.channel.Channel.{Channel}
use Rattle.channel_laws.specs.channel_model.specs.Calls.{waits}
use Rattle.channel_laws.specs.channel_model.specs.Changing.{held_at}
use Rattle.channel_laws.specs.channel_model.specs.Policies.{Policy}
use Rattle.channel_laws.specs.channel_model.specs.Value.{Setup, Connected, Held, Channels}
use Rattle.channel_laws.specs.Adverse.{disturbances}
use Rattle.channel_laws.specs.Belonging.{AreRead}
use Rattle.channel_laws.specs.Common.{mirrored}
use Rattle.channel_laws.specs.Delivered.{IsRunBy}
use Rattle.channel_laws.specs.Ends.{AreFair}
use Rattle.channel_laws.specs.Pairs.{Pair, Happening, Acts, Puts, Takes, Repeats, Loses, Damages, Side, Near, Far, turned, Turn, new_pair, pair_of}
use Rattle.channel_laws.specs.Pipes.{AreCarried, HaveChannel}
use Rattle.channel_laws.specs.Runs.{Occurrence, sdus_up}
use Rattle.channel_laws.specs.Taken.{taken_of}
use Rattle.channel_laws.specs.Tries.{one_if}
use Rattle.passing_laws.specs.Channels.{of_endpoint}
use Rattle.passing_laws.specs.Handed.{on_side}

-- ---- what is lost

-- of what is under way to an end the first goes, and does not come in as it is
abbrev pub losses_by : Happening → ℕ
losses_by (Acts occurrence) = 0
losses_by (Puts pdu) = 0
losses_by Takes = 0
losses_by Repeats = 0
losses_by Loses = 1
losses_by (Damages pdu) = 1

-- so many turns of one side do that
abbrev pub all_losses : Side → List Turn → ℕ
all_losses side [] = 0
all_losses side (turn ∷ turns) = on_side side turn.side (losses_by turn.happening) + all_losses side turns

-- ---- a channel

-- a host has a channel of that endpoint, for whose end it did not ask
abbrev pub HasStill : (own : ℕ) → Channels → Type 0
HasStill own v = (held : Held) × (peer : ℕ) × (setup : Setup) × (held_at own v ≡ Some held) × (held.stage ≡ Connected peer setup)

-- Two hosts have a basic channel in common, and neither asked for its end. These happened to their channels.
pub record Share (near far : Policy) (turns : List Turn) (channel : Channel) (one other : List Occurrence) : Type 0 where
  pub fair : AreFair near far turns
  pub read : AreRead near far turns
  pub carried : AreCarried near far turns
  pub have : HaveChannel near far turns channel
  pub near_basic : (near.wish channel.psm).mode ≡ Basic
  pub far_basic : (far.wish channel.psm).mode ≡ Basic
  pub near_by : IsRunBy near (pair_of near far turns).near.run one
  pub far_by : IsRunBy far (pair_of near far turns).far.run other
  pub near_still : HasStill channel.own (pair_of near far turns).near.run.value
  pub far_still : HasStill channel.peer (pair_of near far turns).far.run.value

-- ---- one way

-- the SDUs that the channel of the near host took, and those of them that came up at the far one
abbrev pub count_taken : Policy → Channel → List Occurrence → ℕ
count_taken policy channel list = length (taken_of policy channel.own list)

abbrev pub count_come : Channel → Pair → ℕ
count_come channel pair = length (sdus_up channel.peer pair.far.run.up)

-- those that are under way to that one, and one that waits in the channel
abbrev pub on_the_way : Channel → Pair → ℕ
on_the_way channel pair = length (of_endpoint channel.peer pair.far.coming) + one_if (waits channel.own pair.near.run.value)

-- ---- the laws

-- all others were lost
pub record AllAreCounted (near far : Policy) (turns : List Turn) (channel : Channel) (one other : List Occurrence) : Type 0 where
  pub there : count_taken near channel one ≤ count_come channel (pair_of near far turns) + (on_the_way channel (pair_of near far turns) + all_losses Far turns)
  pub back : count_taken far (mirrored channel) other ≤ count_come (mirrored channel) (turned (pair_of near far turns)) + (on_the_way (mirrored channel) (turned (pair_of near far turns)) + all_losses Near turns)

-- Whatever the link loses, repeats and damages: so it is each way.
abbrev pub SdusAreCounted : Type 0
SdusAreCounted = (near far : Policy) (turns : List Turn) (channel : Channel) (one other : List Occurrence) → Share near far turns channel one other → AllAreCounted near far turns channel one other

-- So of both ways together no more are missing than turns disturb.
abbrev pub LossesArePaid : Type 0
LossesArePaid = (near far : Policy) (turns : List Turn) (channel : Channel) (one other : List Occurrence) → Share near far turns channel one other
    → count_taken near channel one + count_taken far (mirrored channel) other
    ≤ (count_come channel (pair_of near far turns) + count_come (mirrored channel) (turned (pair_of near far turns)))
    + ((on_the_way channel (pair_of near far turns) + on_the_way (mirrored channel) (turned (pair_of near far turns))) + disturbances (new_pair near far) turns)

-- Where the far host answered each SDU that came to it, and no answer came: then the near one sent its request no more often than turns disturbed, besides what is still on the way.
abbrev pub UnansweredArePaid : Type 0
UnansweredArePaid = (near far : Policy) (turns : List Turn) (channel : Channel) (one other : List Occurrence) → Share near far turns channel one other
    → count_come channel (pair_of near far turns) ≤ count_taken far (mirrored channel) other → count_come (mirrored channel) (turned (pair_of near far turns)) ≡ 0
    → count_taken near channel one ≤ (on_the_way channel (pair_of near far turns) + on_the_way (mirrored channel) (turned (pair_of near far turns))) + disturbances (new_pair near far) turns
