-- What the retransmission machines of a channel that two hosts have in common pay (Core 5.1, Volume 3 Part A, 8.6.5; which turns upset is
-- this project's own).
use Rattle.std.specs.Prelude.{ℕ, ◌≡◌, ◌+◌, ◌≤◌, ◌==◌, true, List, ◌∷◌, Some}
use Rattle.std.specs.List.{AllByRecursion}
use Rattle.channel_laws.specs.acl_fragments.specs.Pieces.{channel_of}
use Rattle.channel_laws.specs.ertm_model.specs.declared.reason.ErtmReason.{ErtmReason}
use Rattle.channel_laws.specs.ertm_model.specs.declared.reason.ErtmReason.TheVariants.{RetryLimit}
use Rattle.channel_laws.specs.ertm_model.specs.Value.{Kept, Ertm}
use Rattle.channel_laws.specs.ertm_model.specs.Giving.{timed}
use Rattle.channel_laws.specs.link_talk.specs.declared.channel.Channel.{Channel}
use Rattle.channel_laws.specs.channel_model.specs.Value.{Retransmitting, Setup, Held, Channels}
use Rattle.channel_laws.specs.channel_model.specs.Policies.{Policy}
use Rattle.channel_laws.specs.channel_model.specs.Changing.{held_at, setup_of}
use Rattle.channel_laws.specs.channel_model.specs.Carrying.{machine_heard, read_by}
use Rattle.channel_laws.specs.channel_model.specs.Calls.{carrier_at}
use Rattle.channel_laws.specs.Belonging.{AreRead}
use Rattle.channel_laws.specs.Ends.{AreFair}
use Rattle.channel_laws.specs.Pairs.{End, Turn, new_pair, pair_of}
use Rattle.channel_laws.specs.Pipes.{AreCarried, HaveChannel, CanStateBoth}
use Rattle.recovered_laws.specs.Calm.{all_upsets}

-- ---- what a machine paid

-- a channel of an own endpoint is there, and its host has not closed it
abbrev pub IsThere : (own : ℕ) → Channels → Type 0
IsThere own v = (held : Held) × (setup : Setup) × (held_at own v ≡ Some held) × (setup_of held.stage ≡ Some setup)

-- It gave a frame for the t-th time only behind t - 1 things that went wrong, and no more polls in a row than went wrong. What closes it now is want of
-- tries alone, and as many went wrong as it has tries.
pub record IsPaid (wrong own : ℕ) (coming : List (List ℕ)) (m : Ertm) : Type 0 where
  pub given : AllByRecursion (λ (kept : Kept). kept.given ≤ wrong + 1) m.sender.unacked
  pub polled : m.sender.polls ≤ wrong
  pub at_timer : (reason : ErtmReason) → (timed m).closed ≡ Some reason → (reason ≡ RetryLimit) × (m.agreed.tries ≤ wrong)
  pub at_frame : (pdu : List ℕ) (behind : List (List ℕ)) (reason : ErtmReason) → coming ≡ pdu ∷ behind → (channel_of pdu == own) ≡ true → (machine_heard (read_by m pdu) m).closed ≡ Some reason → (reason ≡ RetryLimit) × (m.agreed.tries ≤ wrong)

-- where the channel is open in enhanced mode
abbrev pub EndIsPaid : (wrong own : ℕ) → End → Type 0
EndIsPaid wrong own end' = (m : Ertm) → carrier_at own end'.run.value ≡ Some (Retransmitting m) → IsPaid wrong own end'.coming m

-- ---- the law

-- Whatever the link loses, repeats and damages: while neither host has closed an enhanced channel that both have, the machines of both ends are paid by the turns
-- that upset.
abbrev pub MachinesArePaid : Type 0
MachinesArePaid = (near far : Policy) (turns : List Turn) (channel : Channel) → AreFair near far turns → AreRead near far turns → AreCarried near far turns
    → HaveChannel near far turns channel → CanStateBoth near far channel.psm → IsThere channel.own (pair_of near far turns).near.run.value → IsThere channel.peer (pair_of near far turns).far.run.value
    → EndIsPaid (all_upsets (new_pair near far) turns) channel.own (pair_of near far turns).near × EndIsPaid (all_upsets (new_pair near far) turns) channel.peer (pair_of near far turns).far
