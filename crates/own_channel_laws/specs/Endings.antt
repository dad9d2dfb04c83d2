-- What a host is told of the end of its channels (Core 5.1, Volume 3 Part A, 4.6 and 4.7).
use Rattle.std.specs.Prelude.{ℕ, ◌≡◌, true, false, List, Option, Some, None}
use Rattle.talk_laws.specs.link_talk.specs.Channels.{Entry, is_there, reading}
use Rattle.channel_model.specs.Policies.{Policy}
use Rattle.channel_model.specs.Telling.{is_told_closed}
use Rattle.own_channel_laws.specs.Runs.{Occurrence, run_of, arisen}
use Rattle.own_channel_laws.specs.Views.{read_at}

-- a channel is read that has ended for its host: it answered the peer's request for the end, or is done with its own
abbrev pub HasEnded : Option Entry → Type 0
HasEnded None = ⊥
HasEnded (Some entry) = is_there entry.life ≡ false

-- Whatever happens: where a host's own talk has a channel that has ended for it, it arose that the host is told so.
abbrev pub EndsAreTold : Type 0
EndsAreTold = (policy : Policy) (list : List Occurrence) (own : ℕ) → HasEnded (read_at own (reading (run_of policy list).said).entries) → is_told_closed own (arisen (run_of policy list)) ≡ true
