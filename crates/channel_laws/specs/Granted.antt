-- An endpoint is granted once (Core 5.1, Volume 3 Part A, 2.1 and 4.3).
use Rattle.std.specs.Prelude.{ℕ, ◌≡◌, List, Option, Some, None}
use Rattle.own_channel_laws.specs.talk_laws.specs.link_talk.specs.Channels.{Entry, reading}
use Rattle.own_channel_laws.specs.channel_model.specs.Policies.{Policy}
use Rattle.own_channel_laws.specs.Views.{read_at}
use Rattle.own_channel_laws.specs.Runs.{Occurrence, run_of}
use Rattle.channel_laws.specs.Belonging.{HasAsked, HasGranted}

-- a channel is read that is for this endpoint of the peer
abbrev pub IsFor : ℕ → Option Entry → Type 0
IsFor peer None = ⊥
IsFor peer (Some entry) = entry.channel.peer ≡ peer

-- Whatever happens: of an endpoint that a host granted its own talk has a channel, which is for the endpoint that it was granted to.
-- So it is granted to no other one. And the host never asks for a channel with it.
abbrev pub EndpointsAreGrantedOnce : Type 0
EndpointsAreGrantedOnce = (policy : Policy) (list : List Occurrence) (identifier status own peer : ℕ) → HasGranted identifier status own peer (run_of policy list).said
    → IsFor peer (read_at own (reading (run_of policy list).said).entries) × ((other psm : ℕ) → ¬ HasAsked other psm own (run_of policy list).said)

-- And an endpoint that a host asks for a channel with is that of one PSM, however often it asks.
abbrev pub EndpointsAskForOnePsm : Type 0
EndpointsAskForOnePsm = (policy : Policy) (list : List Occurrence) (identifier psm own other again : ℕ) → HasAsked identifier psm own (run_of policy list).said → HasAsked other again own (run_of policy list).said → psm ≡ again
