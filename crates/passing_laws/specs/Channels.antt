-- How many passes an enhanced channel needs that two hosts have in common (Core 5.1, Volume 3 Part A, 8.6; the number is this project's own).
use Rattle.std.specs.Prelude.{ℕ, ◌≡◌, ◌+◌, ◌*◌, ◌≤◌, ◌==◌, List, [], filter, length, Some}
use Rattle.channel_laws.specs.acl_fragments.specs.Pieces.{channel_of}
use Rattle.channel_laws.specs.ertm_model.specs.Value.{NoPoll, Ertm}
use Rattle.channel_laws.specs.ertm_model.specs.Pair.{Pair as Machines}
use Rattle.channel_laws.specs.ertm_model.specs.Recovery.{IsDone}
use Rattle.channel_laws.specs.link_talk.specs.declared.channel.Channel.{Channel}
use Rattle.channel_laws.specs.channel_model.specs.Calls.{carrier_at}
use Rattle.channel_laws.specs.channel_model.specs.Policies.{Policy}
use Rattle.channel_laws.specs.channel_model.specs.Value.{Retransmitting}
use Rattle.channel_laws.specs.Belonging.{AreRead}
use Rattle.channel_laws.specs.Ends.{AreFair}
use Rattle.channel_laws.specs.Pairs.{new_pair, pair_of}
use Rattle.channel_laws.specs.Pipes.{AreCarried, HaveChannel, CanStateBoth}
use Rattle.recovery_laws.specs.Number.{passes_left}
use Rattle.recovery_laws.specs.Facts.{Recovers}
use Rattle.passing_laws.specs.Words.{Word, turns_of, AreWords, all_wrongs, all_finds}

-- the PDUs of an endpoint
abbrev pub of_endpoint : (own : ℕ) → List (List ℕ) → List (List ℕ)
of_endpoint own coming = filter (λ pdu. channel_of pdu == own) coming

-- it awaits no answer to a poll, and all its frames are acknowledged
abbrev pub IsIdle : Ertm → Type 0
IsIdle machine = (machine.sender.poll ≡ NoPoll) × (machine.sender.unacked ≡ [])

-- The machines of both hosts are two ends, with as many frames on their way as PDUs of the channel are under way. What the number of passes rests on holds of
-- them; and the passes that found something to do on the channel, with those that the ends may still need, are two at most for each segment that is put or planned, and
-- 256 for each word that went wrong. Where a machine is idle, all that its end took was handed up by the other.
pub record IsCounted (near far : Policy) (words : List Word) (channel : Channel) (near_machine far_machine : Ertm) : Type 0 where
  pub ends : Machines
  pub near_is : near_machine ≡ ends.a.machine
  pub far_is : far_machine ≡ ends.b.machine
  pub to_near : length ends.b.queue ≡ length (of_endpoint channel.own (pair_of near far (turns_of words)).near.coming)
  pub to_far : length ends.a.queue ≡ length (of_endpoint channel.peer (pair_of near far (turns_of words)).far.coming)
  pub counted : (planned_a planned_b : ℕ) → length ends.a.put ≤ planned_a → length ends.b.put ≤ planned_b
      → Recovers planned_a planned_b ends
      × (all_finds channel (new_pair near far) words + passes_left planned_a planned_b ends ≤ 256 * all_wrongs words + (2 * planned_a + 2 * planned_b))
  pub near_idle : IsIdle near_machine → IsDone ends.a ends.b
  pub far_idle : IsIdle far_machine → IsDone ends.b ends.a

-- Whatever goes wrong: while both hosts have an enhanced channel open, so it is behind each word.
abbrev pub ChannelsRecover : Type 0
ChannelsRecover = (near far : Policy) (words : List Word) (channel : Channel) → AreFair near far (turns_of words) → AreRead near far (turns_of words) → AreCarried near far (turns_of words)
    → HaveChannel near far (turns_of words) channel → CanStateBoth near far channel.psm → AreWords (new_pair near far) words
    → (near_machine far_machine : Ertm) → carrier_at channel.own (pair_of near far (turns_of words)).near.run.value ≡ Some (Retransmitting near_machine) → carrier_at channel.peer (pair_of near far (turns_of words)).far.run.value ≡ Some (Retransmitting far_machine)
    → IsCounted near far words channel near_machine far_machine
