-- A word at which both timers fire finds something to do where a machine is not idle.
use Rattle.std.proofs.Common.{◌≡◌, ℕ, ◌≤◌, ◌⊎◌, [], length, Bool, true, false, Some, None, refl, ap, ◌∙◌}
use Rattle.std.specs.Prelude.{◌||◌}
use Rattle.channel_laws.specs.ertm_model.specs.Value.{Waits, Ertm}
use Rattle.channel_laws.specs.ertm_model.specs.Giving.{giving}
use Rattle.channel_laws.specs.channel_model.specs.Value.{Retransmitting, Setup}
use Rattle.channel_laws.specs.channel_model.specs.Calls.{setup_on, carrier_at}
use Rattle.channel_laws.specs.channel_model.specs.Changing.{held_at}
use Rattle.channel_laws.specs.channel_model.specs.Timing.{timed_out}
use Rattle.channel_laws.specs.Frames.{IsUttered}
use Rattle.channel_laws.specs.Pairs.{End, Pair, Near, Far, pair_of}
use Rattle.channel_laws.specs.Tries.{one_if}
use Rattle.channel_laws.proofs.Flowing.{sound-of}
use Rattle.channel_laws.proofs.Joining.{IsBelow}
use Rattle.channel_laws.proofs.Pairing.{BothRun, first-runs}
use Rattle.passing_laws.specs.Words.{OfBoth, timer_turns, all_after, polls_at}
use Rattle.passing_laws.specs.Timers.{TimersFind}
use Rattle.passing_laws.proofs.Counting.{runs_on}
use Rattle.passing_laws.proofs.Polling.{fired-is, there_polls}

end_polls : (end' : End) (own : ℕ) (machine : Ertm) (setup : Setup) → IsBelow end'.run.value → carrier_at own end'.run.value ≡ Some (Retransmitting machine) → giving machine ≡ None → (machine.sender.poll ≡ Waits) ⊎ (1 ≤ length machine.sender.unacked)
    → setup_on (held_at own (timed_out end'.policy end'.run.value)) ≡ Some setup → polls_at own (timed_out end'.policy end'.run.value) ≡ true
end_polls end' own machine setup below carries none wants has =
    there_polls end'.policy own machine (timed_out end'.policy end'.run.value) setup none wants has (fired-is end'.policy own machine end'.run.value below carries)

either_one : (b : Bool) → one_if (b || true) ≡ 1
either_one true = refl
either_one false = refl

pub timers-find : TimersFind
timers-find near far turns channel uttered Near machine setup carries none wants has =
    let runs : BothRun IsUttered near far (pair_of near far turns) = runs_on near far [] turns uttered (first-runs IsUttered near far) in
    let pair : Pair = pair_of near far turns in
    let after : Pair = all_after pair (timer_turns OfBoth) in
    ap (λ b. one_if (b || polls_at channel.peer after.far.run.value)) (end_polls pair.near channel.own machine setup (sound-of IsUttered near pair.near runs.near_runs).core.held_below carries none wants has)
timers-find near far turns channel uttered Far machine setup carries none wants has =
    let runs : BothRun IsUttered near far (pair_of near far turns) = runs_on near far [] turns uttered (first-runs IsUttered near far) in
    let pair : Pair = pair_of near far turns in
    let after : Pair = all_after pair (timer_turns OfBoth) in
    ap (λ b. one_if (polls_at channel.own after.near.run.value || b)) (end_polls pair.far channel.peer machine setup (sound-of IsUttered far pair.far runs.far_runs).core.held_below carries none wants has)
    ∙ either_one (polls_at channel.own after.near.run.value)
