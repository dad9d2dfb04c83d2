-- That a channel of one end of a link is one of the other (Core 5.1, Volume 3 Part A, 4.2 to 4.5).
use Rattle.std.specs.Prelude.{ℕ, ◌≡◌, true, List, is_some, Some}
use Rattle.own_channel_laws.specs.talk_laws.specs.link_talk.specs.declared.channel.Channel.{Channel}
use Rattle.own_channel_laws.specs.talk_laws.specs.link_talk.specs.Channels.{Entry, reading}
use Rattle.own_channel_laws.specs.channel_model.specs.Policies.{Policy}
use Rattle.own_channel_laws.specs.Views.{read_at}
use Rattle.channel_laws.specs.Pairs.{Side, turned, Turn, pair_of}
use Rattle.channel_laws.specs.Belonging.{AreRead, said_at}
use Rattle.own_channel_laws.specs.Endpoints.{IsOf}

-- as the other host has it
abbrev pub mirrored : Channel → Channel
mirrored channel = record { psm = channel.psm; own = channel.peer; peer = channel.own }

-- Whatever the link loses, repeats and damages: a channel of one end for which it accepted options is one of the other, with the
-- same PSM and each with the other's endpoint. As an endpoint names one channel, what is said on it is for no earlier channel and
-- for no later one.
abbrev pub ChannelsAreCommon : Type 0
ChannelsAreCommon = (near far : Policy) (turns : List Turn) → AreRead near far turns → (side : Side) (own : ℕ) (entry : Entry) → read_at own (reading (said_at side (pair_of near far turns))).entries ≡ Some entry → is_some entry.setup.accepted ≡ true
    → IsOf (mirrored entry.channel) (read_at entry.channel.peer (reading (said_at side (turned (pair_of near far turns)))).entries)
