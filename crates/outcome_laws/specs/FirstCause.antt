-- The outcome of a push as the first cause that anything shows since it began, over all that happens to a client (Object Push Profile 1.2, 4.3; IrOBEX 1.5,
-- 3.2 and 3.4).
use Rattle.std.specs.Prelude.{◌≡◌, List, [], ◌∷◌, Option, Some, None, Result, Ok, Err, if◌then◌else◌, ℕ}
use Rattle.std.specs.List.{flat_map}
use Rattle.cause_laws.specs.bt_base.specs.declared.ports.PortFault.{PortFault}
use Rattle.cause_laws.specs.bt_base.specs.declared.ports.PortFault.TheVariants as fault
use Rattle.cause_laws.specs.bt_base.specs.declared.settings.Settings.{Settings}
use Rattle.cause_laws.specs.push_terms.specs.declared.outcome.Outcome.{Outcome}
use Rattle.cause_laws.specs.push_terms.specs.declared.outcome.Outcome.TheVariants.{ShelfFault}
use Rattle.cause_laws.specs.push_terms.specs.declared.word.Side.TheVariants as sides
use Rattle.unit_laws.specs.scenario_laws.specs.host_link.specs.declared.role.Role.TheVariants.{Client as Paging}
use Rattle.cause_laws.specs.push_model.specs.Client.{Client, new_client}
use Rattle.cause_laws.specs.push_model.specs.Shown.{first_of, shows}
use Rattle.cause_laws.specs.host_model.specs.Circumstances.{Circumstance}
use Rattle.cause_laws.specs.host_model.specs.Clients.{ClientProfile, client_profile}
use Rattle.cause_laws.specs.host_model.specs.Hosts.{Host}
use Rattle.cause_laws.specs.host_model.specs.Machines.{upper}
use Rattle.cause_laws.specs.host_laws.specs.Calls.{HostsAsk}
use Rattle.cause_laws.specs.host_laws.specs.OverLinks.{talk_marks}
use Rattle.cause_laws.specs.host_laws.specs.Pushing.{Affair, Begins, Does, client_after, pushed}
use Rattle.unit_laws.specs.Units.{Lined, Occasion, units, lone_capture}
use Rattle.unit_laws.specs.Living.{Did, HaveCommands, LivesBy}

-- a push that begins has no cause yet, or the fault of a shelf that cannot tell the size of its object; where there was no memory for that none begins
abbrev pub begun_cause : Result ℕ PortFault → (earlier : Option Outcome) → Option Outcome
begun_cause (Ok size) earlier = None
begun_cause (Err fault.Failed) earlier = Some ShelfFault
begun_cause (Err fault.NoMemory) earlier = earlier

-- anything else adds what it shows of a client that stands so, where nothing did before it; one that lacks memory begins no push
abbrev pub caused_by : Affair → Client → (earlier : Option Outcome) → Option Outcome
caused_by (Begins size name) client earlier = if client.failed then earlier else begun_cause size earlier
caused_by (Does deed) client earlier = first_of earlier (shows deed client)

-- the first since the last push began
abbrev pub first_cause : List Affair → Client → (earlier : Option Outcome) → Option Outcome
first_cause [] client earlier = earlier
first_cause (one ∷ rest) client earlier = first_cause rest (client_after one client) (caused_by one client earlier)

-- The outcome of a client is the first cause of all that happened to it on the links that its units have.
abbrev pub OutcomesAreFirstCauses : Type 0
OutcomesAreFirstCauses = (asks : HostsAsk) (settings : Settings) (occasions : List (Occasion Circumstance)) (now : Lined (Host ClientProfile)) → Did (client_profile settings) Paging occasions now → HaveCommands sides.A (lone_capture sides.A (units occasions))
    → (lives : LivesBy (client_profile settings) (asks.clients settings) sides.A (lone_capture sides.A (units occasions)) now.upper)
    → (upper (client_profile settings)).outcome now.upper ≡ first_cause (pushed settings (asks.clients settings) (flat_map talk_marks lives.came.talk) now.upper lives.so.lives) (new_client settings) None
