-- What the timer of a host finds to do on an enhanced channel (Core 5.1, Volume 3 Part A, 8.6.5).
use Rattle.std.specs.Prelude.{ℕ, ◌≡◌, ◌≤◌, ◌⊎◌, true, List, length, Some, None}
use Rattle.channel_laws.specs.ertm_model.specs.Value.{Waits, Ertm}
use Rattle.channel_laws.specs.ertm_model.specs.Giving.{giving}
use Rattle.channel_laws.specs.channel_model.specs.Calls.{setup_on, carrier_at}
use Rattle.channel_laws.specs.channel_model.specs.Changing.{held_at}
use Rattle.channel_laws.specs.channel_model.specs.Policies.{Policy}
use Rattle.channel_laws.specs.channel_model.specs.Timing.{timed_out}
use Rattle.channel_laws.specs.channel_model.specs.Value.{Retransmitting, Setup}
use Rattle.channel_laws.specs.Adverse.{seen_from}
use Rattle.channel_laws.specs.Ends.{AreFair}
use Rattle.channel_laws.specs.Pairs.{Side, Turn, pair_of}
use Rattle.channel_laws.specs.link_talk.specs.declared.channel.Channel.{Channel}
use Rattle.channel_laws.specs.Runs.{Occurrence, run_of}
use Rattle.passing_laws.specs.Words.{OfBoth, ByTimers, timer_turns, all_after, endpoint, polls_at, finds}

-- Whatever happened to a host: where the machine of an open channel has nothing to give, and awaits the answer to a poll or has frames that are not acknowledged, it has a
-- poll to give once the timer has fired, if the channel is still there.
abbrev pub TimersPoll : Type 0
TimersPoll = (policy : Policy) (list : List Occurrence) (own : ℕ) (machine : Ertm) (setup : Setup) → carrier_at own (run_of policy list).value ≡ Some (Retransmitting machine) → giving machine ≡ None
    → (machine.sender.poll ≡ Waits) ⊎ (1 ≤ length machine.sender.unacked) → setup_on (held_at own (timed_out policy (run_of policy list).value)) ≡ Some setup → polls_at own (timed_out policy (run_of policy list).value) ≡ true

-- So a word at which both timers fire finds something to do on a channel where such is the machine of either host.
abbrev pub TimersFind : Type 0
TimersFind = (near far : Policy) (turns : List Turn) (channel : Channel) → AreFair near far turns → (side : Side) (machine : Ertm) (setup : Setup) → carrier_at (endpoint side channel) (seen_from side (pair_of near far turns)).near.run.value ≡ Some (Retransmitting machine)
    → giving machine ≡ None → (machine.sender.poll ≡ Waits) ⊎ (1 ≤ length machine.sender.unacked)
    → setup_on (held_at (endpoint side channel) (seen_from side (all_after (pair_of near far turns) (timer_turns OfBoth))).near.run.value) ≡ Some setup → finds channel (ByTimers OfBoth) (pair_of near far turns) ≡ 1
