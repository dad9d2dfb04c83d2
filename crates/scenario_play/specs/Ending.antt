-- What the capture of a played scenario says (this project's own).
use Rattle.std.specs.Prelude.{ℕ, ◌≡◌, ◌≤◌, ◌⊎◌, ◌^◌, List, ◌++◌, length, Option, Some}
use Rattle.std.specs.List.{AllByRecursion}
use Rattle.bt_base.specs.Counts.{HasRisen}
use Rattle.bt_base.specs.Objects.{Object, Contents}
use Rattle.bt_base.specs.declared.settings.Transport.TheVariants.{L2cap}
use Rattle.push_script.specs.Runs.{IsRun}
use Rattle.noting_laws.specs.obex_session.specs.Counting.{Counts}
use Rattle.push_script.specs.declared.scenario.Scenario.{Scenario}
use Rattle.push_terms.specs.declared.outcome.Outcome.{Outcome}
use Rattle.push_terms.specs.declared.peaks.Peaks.{Peaks}
use Rattle.capture.specs.Entries.{Entry, capture_octets}
use Rattle.noting_laws.specs.air_laws.specs.Crowded.{IsCrowded}
use Rattle.noting_laws.specs.world_model.specs.Worlds.{all_entries}
use Rattle.noting_laws.specs.push_laws.specs.Laws.{stored_in}
use Rattle.noting_laws.specs.host_laws.specs.Calls.{HostsAsk}
use Rattle.noting_laws.specs.scenario_laws.specs.Clauses.{Ends}
use Rattle.noting_laws.specs.scenario_laws.specs.Air.{hosts_of}
use Rattle.noting_laws.specs.scenario_laws.specs.Broken.{BrokeOff}
use Rattle.noting_laws.specs.scenario_laws.specs.Gains.{holding, OrderlyServer}
use Rattle.noting_laws.specs.scenario_laws.specs.Orderly.{ServesSo}
use Rattle.credit_laws.specs.request_laws.specs.Granted.{ServesGranted}
use Rattle.scenario_play.specs.Breaking.{IsBroken, IsWanting}
use Rattle.scenario_play.specs.Playing.{LackedNever, RoseNever, IsPlayed}

-- Over L2CAP, where host b serves: what the inbox gained, the accounts, the pushes and their outcomes, and that the air obeyed the
-- script, over the capture alone.
pub record PlaysEnd : Type 0 where
  pub asks : HostsAsk
  pub ends : (scenario : Scenario) (shelf : Option (List Object)) (before : List Object) (after : Option Contents) (trace trace' : Option (List ℕ)) (outcomes : List Outcome) (peaks : Peaks) (counts counts' : Counts)
      (played : IsPlayed scenario shelf (holding before) after trace trace' outcomes peaks counts counts')
      → scenario.settings.transport ≡ L2cap → ServesSo asks scenario.settings before played.capture played.finished.ran.world.b.upper → Ends scenario before (stored_in after) outcomes played.capture

-- Where it broke off over L2CAP, and the count of shortages of the inbox did not rise: what the inbox gained by then, the buffers, honest controllers, the
-- pushes, and that each entry keeps to the script, over the capture so far; where host b is orderly.
abbrev pub PlaysBreakOff : Type 0
PlaysBreakOff = (asks : HostsAsk) (scenario : Scenario) (shelf : Option (List Object)) (before : List Object) (after : Option Contents) (trace trace' : Option (List ℕ)) (counts counts' : Counts)
    (broken : IsBroken scenario shelf (holding before) after trace trace' counts counts') → LackedNever counts counts'
    → scenario.settings.transport ≡ L2cap → OrderlyServer asks scenario.settings before (all_entries broken.happenings) broken.world.b.upper
    → BrokeOff scenario before (stored_in after) (all_entries broken.happenings) (all_entries broken.happenings ++ broken.next)

-- Where neither count of the inbox rose over L2CAP, the inbox granted all calls, to the end or up to where it broke off: so host b serves in
-- order, and its inbox gained exactly what the capture spells, where no object that is pushed has more than 16,777,215 octets.
pub record PlaysServe : Type 0 where
  pub asks : HostsAsk
  pub played : (scenario : Scenario) (shelf : Option (List Object)) (before : List Object) (after : Option Contents) (trace trace' : Option (List ℕ)) (outcomes : List Outcome) (peaks : Peaks) (counts counts' : Counts)
      (played : IsPlayed scenario shelf (holding before) after trace trace' outcomes peaks counts counts')
      → RoseNever counts counts' → scenario.settings.transport ≡ L2cap → ServesGranted asks scenario before played.capture played.finished.ran
  pub broken : (scenario : Scenario) (shelf : Option (List Object)) (before : List Object) (after : Option Contents) (trace trace' : Option (List ℕ)) (counts counts' : Counts)
      (broken : IsBroken scenario shelf (holding before) after trace trace' counts counts')
      → RoseNever counts counts' → scenario.settings.transport ≡ L2cap → ServesGranted asks scenario before (all_entries broken.happenings ++ broken.next) broken.ran

-- With a script of at most 2^32 lines and a trace that is told, a scenario wants memory only before anything happened, where a port lacked
-- some, or where the capture so far is crowded.
abbrev pub WantsAreTold : Type 0
WantsAreTold = (scenario : Scenario) (content after : Option Contents) (before octets : List ℕ) (of_shelf of_shelf' of_inbox of_inbox' : ℕ) → AllByRecursion IsRun scenario.script → length scenario.script ≤ 2 ^ 32
    → IsWanting scenario content after (Some before) (Some octets) (HasRisen of_shelf of_shelf') (HasRisen of_inbox of_inbox')
    → ((after ≡ content) × (octets ≡ before)) ⊎ ((HasRisen of_shelf of_shelf' ⊎ HasRisen of_inbox of_inbox') ⊎ ((entries : List Entry) × (octets ≡ before ++ capture_octets entries) × IsCrowded (hosts_of scenario.settings) scenario.acl_length entries))
