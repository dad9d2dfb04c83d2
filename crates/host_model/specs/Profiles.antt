-- What stands above the channels of a host: any machine that is told what happens to links and channels and hears SDUs, and that
-- asks its host for one step after the other (this project's own).
use Rattle.std.specs.Prelude.{ℕ, Bool, List, Option}
use Rattle.rest_laws.specs.push_terms.specs.declared.outcome.Outcome.{Outcome}
use Rattle.channel_model.specs.declared.event.ChannelEvent.{ChannelEvent}
use Rattle.channel_model.specs.Value.{Channels}
use Rattle.channel_model.specs.Policies.{Policy}
use Rattle.rest_laws.specs.world_model.specs.Machines.{News}
use Rattle.host_model.specs.Circumstances.{Circumstance}

-- a step was taken: the channels and the profile then, and whether the profile is to be asked again
pub record Stride (P : Type 0) : Type 0 where
  pub channels : Channels
  pub profile : P
  pub more : Bool

-- `P` is what the profile is at a moment
pub record Profile (P : Type 0) : Type 0 where
  pub policy : Policy
  pub first : P
  -- it keeps what its ports are to answer, in place of what it kept
  pub given : List Circumstance → P → P
  -- news other than a PDU
  pub told : List Circumstance → News → P → P
  pub received : (own psm : ℕ) → List ℕ → P → P
  pub happened : ChannelEvent → Channels → P → P
  -- an SDU that waits no longer in its channel is sent
  pub sent : Channels → P → P
  pub steps : Channels → P → Stride P
  -- whether it asks for a link, and whether it ends the one that is up
  pub wants_link : P → Bool
  pub leaves_link : P → Bool
  -- whether no push goes on, what came of the last one, whether something waits for the timer, and whether the push can be cancelled
  pub is_idle : P → Bool
  pub outcome : P → Option Outcome
  pub armed : P → Bool
  pub may_cancel : P → Bool
