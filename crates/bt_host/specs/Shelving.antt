-- A client, with what its shelf tells that it holds (this project's own).
use Rattle.std.specs.Prelude.{ℕ, ◌-◌, ◌&&◌, not, Bool, true, false, List, map, Option, Some, None, Result, Ok, Err}
use Rattle.bt_base.specs.Objects.{Object}
use Rattle.bt_base.specs.declared.ports.PortFault.{PortFault}
use Rattle.bt_base.specs.declared.ports.PortFault.TheVariants.{Failed}
use Rattle.bt_base.specs.declared.settings.Settings.{Settings}
use Rattle.push_terms.specs.declared.outcome.Outcome.{Outcome}
use Rattle.push_terms.specs.declared.outcome.Outcome.TheVariants.{Done, LinkLost, RetryLimit, Refused, NoService, ShelfFault, Cancelled as PushCancelled, PeerClosed, PeerFault, ScriptEnded}
use Rattle.shelf_model.specs.world_model.specs.Machines.{News, Linked, Failed as NotLinked, Heard, TimerFired, Cancelled, Opening}
use Rattle.shelf_model.specs.host_model.specs.Circumstances.{Circumstance, Size, Part, Stored}
use Rattle.shelf_model.specs.host_model.specs.Clients.{ClientProfile, client_profile, told}
use Rattle.shelf_model.specs.host_model.specs.Profiles.{Stride, Profile}
use Rattle.shelf_model.specs.Held.{given_by, held_by}
use Rattle.bt_host.specs.Pushing.{pushing, failures_in}

pub record Shelved : Type 0 where
  pub pushing : ClientProfile
  -- its objects, where it tells them
  pub shelf : Option (List Object)
  -- how many times it is still to fail
  pub faults : ℕ

abbrev pub with_pushing : ClientProfile → Shelved → Shelved
with_pushing after shelved = record shelved { pushing = after }

-- ---- its shelf fails

abbrev pub is_shelf_fault : Outcome → Bool
is_shelf_fault Done = false
is_shelf_fault LinkLost = false
is_shelf_fault RetryLimit = false
is_shelf_fault (Refused code) = false
is_shelf_fault NoService = false
is_shelf_fault ShelfFault = true
is_shelf_fault PushCancelled = false
is_shelf_fault PeerClosed = false
is_shelf_fault (PeerFault layer reason) = false
is_shelf_fault ScriptEnded = false

-- a push ended since the shelf failed
abbrev pub is_failed : Option Outcome → Bool
is_failed None = false
is_failed (Some outcome) = is_shelf_fault outcome

-- it ended so now, and not before
abbrev pub failed_now : (before after : Option Outcome) → Bool
failed_now before after = is_failed after && not (is_failed before)

abbrev pub owed : Bool → ℕ
owed true = 1
owed false = 0

-- one time less is left
abbrev pub less_one : Bool → ℕ → ℕ
less_one true count = count - 1
less_one false count = count

-- as a push begins it is asked how long the object is
abbrev pub left_behind : News → Option Outcome → ℕ → ℕ
left_behind (Linked event) cause count = count
left_behind (NotLinked status) cause count = count
left_behind (Heard pdu) cause count = count
left_behind TimerFired cause count = count
left_behind Cancelled cause count = count
left_behind (Opening name) cause count = less_one (is_failed cause) count

-- ---- what it answers

abbrev pub memory_found : {A : Type 0} → Result A PortFault → Result A PortFault
memory_found (Ok given) = Ok given
memory_found (Err fault) = Err Failed

-- want of memory counts as a failure of it
abbrev pub in_memory : Circumstance → Circumstance
in_memory (Size answer) = Size (memory_found answer)
in_memory (Part excerpt) = Part (record excerpt { answer = memory_found excerpt.answer })
in_memory (Stored answer) = Stored answer

-- as a push begins its shelf tells how long the object of that name is, or nothing
abbrev pub told_shelved : List Circumstance → News → Shelved → Shelved
told_shelved circumstances news shelved =
    let after = told (held_by shelved.shelf news (map in_memory circumstances)) news shelved.pushing in
    record { pushing = after; shelf = shelved.shelf; faults = left_behind news after.client.cause shelved.faults }

abbrev pub stride_shelved : Stride ClientProfile → Shelved → Stride Shelved
stride_shelved stride shelved = record {
  channels = stride.channels;
  profile = record { pushing = stride.profile; shelf = shelved.shelf; faults = less_one (failed_now shelved.pushing.client.cause stride.profile.client.cause) shelved.faults };
  more = stride.more;
}

-- It is given octets, those of its objects, and no want of memory; and it counts how often its shelf is still to fail. But for that it is the profile that it
-- was, whatever its shelf holds.
abbrev pub shelf_profile : Settings → Profile Shelved
shelf_profile settings = let A = client_profile settings in record {
  policy = A.policy;
  first = record { pushing = A.first; shelf = None; faults = 0 };
  given = λ circumstances shelved. with_pushing (A.given (map (given_by shelved.shelf) (map in_memory circumstances)) shelved.pushing) shelved;
  told = told_shelved;
  received = λ own psm sdu shelved. with_pushing (A.received own psm sdu shelved.pushing) shelved;
  happened = λ event channels shelved. with_pushing (A.happened event channels shelved.pushing) shelved;
  sent = λ channels shelved. with_pushing (A.sent channels shelved.pushing) shelved;
  steps = λ channels shelved. stride_shelved (A.steps channels shelved.pushing) shelved;
  wants_link = λ shelved. A.wants_link shelved.pushing;
  leaves_link = λ shelved. A.leaves_link shelved.pushing;
  is_idle = λ shelved. A.is_idle shelved.pushing;
  outcome = λ shelved. A.outcome shelved.pushing;
  armed = λ shelved. A.armed shelved.pushing;
  may_cancel = λ shelved. A.may_cancel shelved.pushing;
}

-- with what its shelf is to answer, of its objects, and how often it is to fail in that
abbrev pub shelved_by : {P : Type 0} → (P → Option (List Object)) → ClientProfile → P → List Circumstance → Shelved
shelved_by content end port rest = record { pushing = pushing end (map (given_by (content port)) (map in_memory rest)); shelf = content port; faults = failures_in rest }
