-- That a host asks for the options of each of its channels once while its peer suggests no others, and of one channel at a time (Core 5.1, Volume 3 Part A, 2.1, 4.2 to 4.7).
use Rattle.std.specs.Prelude.{ℕ, ◌≡◌, List, Some}
use Rattle.channel_laws.specs.link_talk.specs.Channels.{Entry, reading}
use Rattle.channel_laws.specs.link_talk.specs.Sayings.{Saying}
use Rattle.channel_laws.specs.channel_model.specs.Changing.{held_at}
use Rattle.channel_laws.specs.channel_model.specs.Policies.{Policy}
use Rattle.channel_laws.specs.channel_model.specs.Value.{Held, Channels}
use Rattle.channel_laws.specs.Belonging.{AreRead, said_at, HasAsked}
use Rattle.channel_laws.specs.Ends.{end_at}
use Rattle.channel_laws.specs.Pairs.{Side, turned, Turn, pair_of}
use Rattle.channel_laws.specs.Views.{read_at}
use Rattle.disconnection_laws.specs.Waits.{GrantsApart}
use Rattle.configuration_laws.specs.Met.{Remains}
use Rattle.accepting_laws.specs.First.{SuggestsNone}
use Rattle.lateness_laws.specs.Late.{AsksOptionsOnce, IsAskedOnce}

-- no two channels of a host count
abbrev pub CountsOne : Channels → Type 0
CountsOne v = (own other : ℕ) (held also : Held) → held_at own v ≡ Some held → held_at other v ≡ Some also → own ≡ other

-- no two channels that a host had, or has, were for one endpoint of its peer
abbrev pub PeersApart : List Saying → Type 0
PeersApart said = (own other : ℕ) (entry also : Entry) → read_at own (reading said).entries ≡ Some entry → read_at other (reading said).entries ≡ Some also → entry.channel.peer ≡ also.channel.peer → own ≡ other

-- ---- the laws

-- Whatever the link loses, repeats and damages: so it is of both hosts, where the far one asked for no channel, and granted one endpoint alone to each of the near one's.
abbrev pub PeersAreApart : Type 0
PeersAreApart = (near far : Policy) (turns : List Turn) → AreRead near far turns → ((identifier psm own : ℕ) → HasAsked identifier psm own (pair_of near far turns).far.run.said → ⊥) → GrantsApart (pair_of near far turns).far.run.said
    → (side : Side) → PeersApart (said_at side (pair_of near far turns))

-- Then, while nothing else is suggested to a host, each copy of a request for the options of a channel that is under way from it is that which its peer heard, if it heard one.
abbrev pub OptionsAreAskedOnce : Type 0
OptionsAreAskedOnce = (near far : Policy) (turns : List Turn) → AreRead near far turns → (side : Side) → SuggestsNone (said_at side (pair_of near far turns)) → PeersApart (said_at side (pair_of near far turns))
    → (own : ℕ) → IsAskedOnce own (end_at side (turned (pair_of near far turns)))

-- Nor does it wait for the responses to two at a time, where no two channels of its peer count, and each channel that it has remains there.
abbrev pub RemainingAsksOnce : Type 0
RemainingAsksOnce = (near far : Policy) (turns : List Turn) → AreRead near far turns → (side : Side) → SuggestsNone (said_at side (pair_of near far turns)) → CountsOne (end_at side (turned (pair_of near far turns))).run.value → ((own : ℕ) → Remains own (said_at side (turned (pair_of near far turns))))
    → AsksOptionsOnce (end_at side (pair_of near far turns)).run.value
