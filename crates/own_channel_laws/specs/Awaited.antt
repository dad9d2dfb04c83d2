-- Which requests of a host wait for their answer: what its timer finds of them (Core 5.1, Volume 3 Part A, 4.1, 4.2, 4.6 and 4.10).
use Rattle.std.specs.Prelude.{ℕ, ◌≡◌, ◌&&◌, Bool, true, false, is_some, List, Option, Some, None}
use Rattle.std.specs.List.{list_any}
use Rattle.talk_laws.specs.link_talk.specs.Requests.{has_source}
use Rattle.talk_laws.specs.link_talk.specs.Channels.{Entry, waits_for_end, Reading, reading}
use Rattle.talk_laws.specs.link_talk.specs.declared.channel.Channel.{Channel}
use Rattle.talk_laws.specs.link_talk.specs.declared.party.Party.{Party}
use Rattle.talk_laws.specs.link_talk.specs.Waits.{call_waits, information_waits, options_wait}
use Rattle.channel_model.specs.Value.{Setup, Stage, Requested, Connected, Leaving, Closing, Crossed, Held}
use Rattle.channel_model.specs.Policies.{Policy}
use Rattle.channel_model.specs.Changing.{held_at}
use Rattle.channel_model.specs.Calls.{setup_on, own_waits}
use Rattle.own_channel_laws.specs.Runs.{Occurrence, Run, run_of}
use Rattle.own_channel_laws.specs.Sdus.{StatesFrame}
use Rattle.own_channel_laws.specs.Views.{read_at}

-- ---- as they are held

abbrev pub asks_for_channel : Stage → Bool
asks_for_channel (Requested request) = true
asks_for_channel (Connected peer setup) = false
asks_for_channel (Leaving peer setup request) = false
asks_for_channel (Closing peer request checked) = false
asks_for_channel (Crossed peer request) = false

abbrev pub asks_for_end : Stage → Bool
asks_for_end (Requested request) = false
asks_for_end (Connected peer setup) = false
asks_for_end (Leaving peer setup request) = true
asks_for_end (Closing peer request checked) = true
asks_for_end (Crossed peer request) = true

abbrev pub is_at : (Stage → Bool) → Option Held → Bool
is_at f None = false
is_at f (Some held) = f held.stage

-- ---- as they are read

-- a request for a channel of the own endpoint is neither answered nor given up
abbrev pub channel_waits : (own : ℕ) → Reading → Bool
channel_waits own read = list_any (λ one. has_source own one.wanted && call_waits read one) read.requests.calls

-- a request for the end of the channel is neither
abbrev pub end_waits : Option Entry → Bool
end_waits None = false
end_waits (Some entry) = waits_for_end entry.life

-- ---- the laws

pub record Awaits (run : Run) (own : ℕ) : Type 0 where
  pub channel_is : channel_waits own (reading run.said) ≡ is_at asks_for_channel (held_at own run.value)
  pub end_is : end_waits (read_at own (reading run.said).entries) ≡ is_at asks_for_end (held_at own run.value)

-- Whatever happens: a host waits for a channel, or for the end of one, exactly where its own talk says so.
abbrev pub RequestsAreAwaited : Type 0
RequestsAreAwaited = (policy : Policy) (list : List Occurrence) (own : ℕ) → Awaits (run_of policy list) own

-- And for the peer's features exactly where its own talk says that information is waited for.
abbrev pub FeaturesAreAwaited : Type 0
FeaturesAreAwaited = (policy : Policy) (list : List Occurrence) → information_waits (run_of policy list).said ≡ is_some (run_of policy list).value.features

-- Of a channel that is there, and that its host has not closed: a request of the host for its options waits
-- exactly where its own talk says so.
abbrev pub OptionsAreAwaited : Type 0
OptionsAreAwaited = (policy : Policy) (party : Party) (list : List Occurrence) (channel : Channel) (setup : Setup) → StatesFrame policy party
    → setup_on (held_at channel.own (run_of policy list).value) ≡ Some setup → options_wait party (run_of policy list).said channel ≡ own_waits setup.own
