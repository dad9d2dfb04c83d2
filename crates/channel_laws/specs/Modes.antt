-- In what mode the two ends of a link have a channel (Core 5.1, Volume 3 Part A, 5.4 and 7.1).
use Rattle.std.specs.Prelude.{ℕ, ◌≡◌, List, Some, ◌⊎◌}
use Rattle.own_channel_laws.specs.talk_laws.specs.l2cap_config.specs.declared.wish.Mode.{Mode}
use Rattle.own_channel_laws.specs.talk_laws.specs.link_talk.specs.Channels.{Entry, reading}
use Rattle.own_channel_laws.specs.channel_model.specs.Policies.{Policy}
use Rattle.own_channel_laws.specs.Runs.{Occurrence, run_of}
use Rattle.own_channel_laws.specs.Views.{read_at}
use Rattle.channel_laws.specs.Pairs.{Side, Near, Far, turned, Turn, pair_of}
use Rattle.channel_laws.specs.Belonging.{AreRead, said_at}

-- that of the host at one end, of the two hosts
abbrev pub policy_of : Side → (near far : Policy) → Policy
policy_of Near near far = near
policy_of Far near far = far

-- a host wishes this mode of the channels of the PSM, the one or the other
abbrev pub OneWishes : (near far : Policy) (psm : ℕ) → Mode → Type 0
OneWishes near far psm mode = ((near.wish psm).mode ≡ mode) ⊎ ((far.wish psm).mode ≡ mode)

-- Whatever the link loses, repeats and damages: the mode that one end accepted of a channel is the one that the other wishes of it.
abbrev pub ModesAreWished : Type 0
ModesAreWished = (near far : Policy) (turns : List Turn) → AreRead near far turns → (side : Side) (own : ℕ) (entry : Entry) (mode : Mode) → read_at own (reading (said_at side (pair_of near far turns))).entries ≡ Some entry → entry.setup.accepted ≡ Some mode
    → ((policy_of side far near).wish entry.channel.psm).mode ≡ mode

-- Whatever happens to a host: the mode that it accepted of a channel is the one that it wishes of it.
abbrev pub ModesAreOwn : Type 0
ModesAreOwn = (policy : Policy) (list : List Occurrence) (own : ℕ) (entry : Entry) (mode : Mode) → read_at own (reading (run_of policy list).said).entries ≡ Some entry → entry.setup.accepted ≡ Some mode → (policy.wish entry.channel.psm).mode ≡ mode

-- So where both accepted options of a channel that they have in common, both did so in the same mode.
abbrev pub ModesAreCommon : Type 0
ModesAreCommon = (near far : Policy) (turns : List Turn) → AreRead near far turns → (side : Side) (own : ℕ) (one other : Entry) (mode again : Mode) → read_at own (reading (said_at side (pair_of near far turns))).entries ≡ Some one
    → read_at one.channel.peer (reading (said_at side (turned (pair_of near far turns)))).entries ≡ Some other → one.setup.accepted ≡ Some mode → other.setup.accepted ≡ Some again → mode ≡ again
