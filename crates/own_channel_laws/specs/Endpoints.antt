-- An endpoint names one channel (Core 5.1, Volume 3 Part A, 2.1).
use Rattle.std.specs.Prelude.{ℕ, ◌≡◌, List, ◌++◌, Option, Some, None}
use Rattle.talk_laws.specs.link_talk.specs.declared.channel.Channel.{Channel}
use Rattle.talk_laws.specs.link_talk.specs.Channels.{Entry, reading}
use Rattle.channel_model.specs.Policies.{Policy}
use Rattle.own_channel_laws.specs.Views.{read_at}
use Rattle.own_channel_laws.specs.Runs.{Occurrence, run_of}

-- this very channel is read
abbrev pub IsOf : Channel → Option Entry → Type 0
IsOf channel None = ⊥
IsOf channel (Some entry) = entry.channel ≡ channel

-- Once a channel of an own endpoint is read, whatever happens later none but it is read of that endpoint. So a PDU for the
-- endpoint that is under way when the channel has come to be is for it, and one that is under way when it has ended is for no later one.
abbrev pub EndpointsNameOneChannel : Type 0
EndpointsNameOneChannel = (policy : Policy) (list later : List Occurrence) (own : ℕ) (entry : Entry) → read_at own (reading (run_of policy list).said).entries ≡ Some entry
    → IsOf entry.channel (read_at own (reading (run_of policy (list ++ later)).said).entries)
