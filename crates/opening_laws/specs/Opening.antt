-- Whether a channel is open is what its host's own talk says (Core 5.1, Volume 3 Part A, 4.4, 4.5, 6.1.4 and 7.1).
use Rattle.std.specs.Prelude.{ℕ, ◌≡◌, ◌&&◌, Bool, true, false, not, is_some, List, Option, Some, None}
use Rattle.channel_laws.specs.link_talk.specs.declared.channel.Channel.{Channel}
use Rattle.channel_laws.specs.link_talk.specs.declared.party.Party.{Party}
use Rattle.channel_laws.specs.link_talk.specs.Sayings.{Saying}
use Rattle.channel_laws.specs.link_talk.specs.Channels.{Entry, is_alive, reading}
use Rattle.channel_laws.specs.link_talk.specs.Carriages.{is_held, is_open}
use Rattle.channel_laws.specs.link_talk.specs.Waits.{options_wait}
use Rattle.channel_laws.specs.channel_model.specs.Calls.{setup_on, peer_mtu}
use Rattle.channel_laws.specs.channel_model.specs.Changing.{held_at, is_leaving}
use Rattle.channel_laws.specs.channel_model.specs.Policies.{Policy}
use Rattle.channel_laws.specs.channel_model.specs.Value.{Held, Channels}
use Rattle.channel_laws.specs.Runs.{Occurrence, Run, run_of}
use Rattle.channel_laws.specs.Sdus.{StatesFrame}
use Rattle.channel_laws.specs.Views.{read_at}

-- ---- as it is read

-- The talk has the channel, and it has not ended for its host; the host has asked for its options and accepted those of the peer; and
-- its own request waits for no answer: success came for it, or a PDU on the channel showed that the peer accepted it.
abbrev pub reads_open_by : Party → List Saying → Channel → Option Entry → Bool
reads_open_by party said channel None = false
reads_open_by party said channel (Some entry) = is_held entry && not (options_wait party said channel)

abbrev pub reads_open : Party → List Saying → Channel → Bool
reads_open party said channel = reads_open_by party said channel (read_at channel.own (reading said).entries)

-- the host has neither asked for its end nor closed it
abbrev pub is_living : Option Entry → Bool
is_living None = false
is_living (Some entry) = is_alive entry.life

-- The same, and its host has neither asked for its end nor closed it.
abbrev pub says_open_by : Party → List Saying → Channel → Option Entry → Bool
says_open_by party said channel None = false
says_open_by party said channel (Some entry) = is_open entry && not (options_wait party said channel)

abbrev pub says_open : Party → List Saying → Channel → Bool
says_open party said channel = says_open_by party said channel (read_at channel.own (reading said).entries)

-- ---- as it is held

abbrev pub is_left_at : Option Held → Bool
is_left_at None = false
is_left_at (Some held) = is_leaving held.stage

-- the peer takes SDUs on it, and its host has not asked for its end
abbrev pub stays_open : ℕ → Channels → Bool
stays_open own v = is_some (peer_mtu own v) && not (is_left_at (held_at own v))

-- ---- the law

-- The channel is open where the peer takes SDUs on it: it has a longest one.
pub record OpensAsSaid (party : Party) (run : Run) (channel : Channel) : Type 0 where
  -- until the host asks for the end of the channel, or closes it, the talk alone says whether it is open
  pub living_is : is_living (read_at channel.own (reading run.said).entries) ≡ true → is_some (peer_mtu channel.own run.value) ≡ reads_open party run.said channel
  -- from then on it is so while the host holds the options: a channel that it closed is not open any more
  pub held_is : is_some (peer_mtu channel.own run.value) ≡ (is_some (setup_on (held_at channel.own run.value)) && reads_open party run.said channel)
  -- and whatever becomes of it, the talk alone says whether it stays open
  pub stays_is : stays_open channel.own run.value ≡ says_open party run.said channel

-- Whatever happens: a channel is open for its host where its own talk says so, for every table of what it offers and wishes.
abbrev pub OpenIsWhatIsSaid : Type 0
OpenIsWhatIsSaid = (policy : Policy) (party : Party) (list : List Occurrence) (channel : Channel) → StatesFrame policy party → OpensAsSaid party (run_of policy list) channel
