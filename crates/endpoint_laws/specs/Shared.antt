-- That a channel of one host is the one that the other host has for its endpoint (Core 5.1, Volume 3 Part A, 2.1, 4.2 and 4.3).
use Rattle.std.specs.Prelude.{ℕ, ◌≡◌, List, Option, Some, None, ◌⊎◌}
use Rattle.channel_laws.specs.link_talk.specs.declared.channel.Channel.{Channel}
use Rattle.channel_laws.specs.link_talk.specs.Channels.{Entry, reading}
use Rattle.channel_laws.specs.link_talk.specs.Sayings.{Saying}
use Rattle.channel_laws.specs.channel_model.specs.Giving.{Given, Signal, Whole, Framed, next_given}
use Rattle.channel_laws.specs.channel_model.specs.Policies.{Policy}
use Rattle.channel_laws.specs.Belonging.{AreRead, said_at, HasAsked, HasGranted}
use Rattle.channel_laws.specs.Pairs.{Side, turned, Turn, pair_of}
use Rattle.channel_laws.specs.Runs.{Occurrence, run_of}
use Rattle.channel_laws.specs.Views.{read_at}

-- the other host granted both to one request of this one
abbrev pub AreOfOneRequest : (mine other : List Saying) (channel theirs : Channel) → Type 0
AreOfOneRequest mine other channel theirs =
    (identifier : ℕ) × (status : ℕ) × (again : ℕ) × HasAsked identifier channel.psm channel.own mine × HasGranted identifier status channel.peer channel.own other × HasGranted identifier again theirs.own channel.own other

-- they have one PSM, and each the other's endpoint, unless the host that granted it gave two endpoints to one request
abbrev pub IsTheSame : (mine other : List Saying) (channel theirs : Channel) → Type 0
IsTheSame mine other channel theirs = (theirs.psm ≡ channel.psm) × ((theirs.own ≡ channel.peer) ⊎ AreOfOneRequest mine other channel theirs)

-- Whatever the link loses, repeats and damages: where a host has, or had, a channel at an endpoint of its own, each channel that the other host has, or ever
-- had, for that endpoint is this one, or was granted to the same request of the host.
abbrev pub EndpointsAreShared : Type 0
EndpointsAreShared = (near far : Policy) (turns : List Turn) → AreRead near far turns → (side : Side) (own other : ℕ) (entry theirs : Entry) → read_at own (reading (said_at side (pair_of near far turns))).entries ≡ Some entry
    → read_at other (reading (said_at side (turned (pair_of near far turns)))).entries ≡ Some theirs → theirs.channel.peer ≡ own
    → IsTheSame (said_at side (pair_of near far turns)) (said_at side (turned (pair_of near far turns))) entry.channel theirs.channel

-- ---- what is given

-- an SDU or a frame is for an endpoint of the peer
abbrev pub endpoint_for : Given → Option ℕ
endpoint_for (Signal command) = None
endpoint_for (Whole peer sdu) = Some peer
endpoint_for (Framed peer frame) = Some peer

-- Whatever happens, what a host gives for an endpoint of its peer it gives on a channel for that endpoint, which its own talk has then, and so from then on.
-- So all that was given for an endpoint at which the peer has a channel, and may be under way for it, was given on that channel.
abbrev pub GivenAreOnChannels : Type 0
GivenAreOnChannels = (policy : Policy) (list : List Occurrence) (given : Given) (peer : ℕ) → next_given (run_of policy list).value ≡ Some given → endpoint_for given ≡ Some peer
    → (own : ℕ) × (entry : Entry) × (read_at own (reading (run_of policy list).said).entries ≡ Some entry) × (entry.channel.peer ≡ peer)
