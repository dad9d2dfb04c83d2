-- What a host owes its peer when its timer fires (Core 5.1, Volume 3 Part A, 8.6.5).
use Rattle.std.specs.Prelude.{◌≡◌, true, false, List}
use Rattle.std.specs.List.{list_any}
use Rattle.channel_laws.specs.channel_model.specs.Giving.{gives}
use Rattle.channel_laws.specs.channel_model.specs.Policies.{Policy}
use Rattle.channel_laws.specs.Pairs.{is_alone}
use Rattle.channel_laws.specs.Runs.{Occurrence, value_after, run_of}
use Rattle.recovered_laws.specs.Calm.{owes}

-- Whatever happened to a host: what it does alone, without a PDU, has no machine owe a reply that owed none; so it is when its timer fires, an SDU is sent, or it asks for
-- something. And a host of which no channel has anything to give owes none.
pub record OwesOnlyWhatItHeard : Type 0 where
  pub alone : (policy : Policy) (list : List Occurrence) (one : Occurrence) → is_alone one ≡ true → owes (run_of policy list).value ≡ false → owes (value_after policy one (run_of policy list).value) ≡ false
  pub silent : (policy : Policy) (list : List Occurrence) → list_any gives (run_of policy list).value.held ≡ false → owes (run_of policy list).value ≡ false
