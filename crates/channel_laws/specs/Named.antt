-- The identifiers of the requests of a host that wait for their answers (Core 5.1, Volume 3 Part A, 4).
use Rattle.std.specs.Prelude.{ℕ, ◌≡◌, ◌<◌, ◌≤◌, false, List, Some}
use Rattle.own_channel_laws.specs.talk_laws.specs.l2cap_signal.specs.Commands.{Command}
use Rattle.own_channel_laws.specs.channel_model.specs.declared.errand.Errand.{Errand}
use Rattle.own_channel_laws.specs.channel_model.specs.Giving.{command_of}
use Rattle.own_channel_laws.specs.channel_model.specs.Policies.{Policy}
use Rattle.own_channel_laws.specs.channel_model.specs.Value.{Channels}
use Rattle.channel_laws.specs.Connections.{requests_for}
use Rattle.own_channel_laws.specs.Runs.{Occurrence, run_of}

-- each of them was given before the one that is given next, and no two requests that wait have one
pub record HaveNames (v : Channels) : Type 0 where
  pub below : (errand : Errand) (command : Command) → command_of errand v ≡ Some command → command.identifier < v.identifier
  pub apart : (one other : Errand) (first second : Command) → command_of one v ≡ Some first → command_of other v ≡ Some second → first.identifier ≡ second.identifier → one ≡ other

-- Where a host offers no channel, and makes so few requests that its identifiers do not come round, so it is, whatever comes in.
abbrev pub RequestsHaveNames : Type 0
RequestsHaveNames = (policy : Policy) (list : List Occurrence) → ((psm : ℕ) → policy.offers psm ≡ false) → requests_for list ≤ 254 → HaveNames (run_of policy list).value
