-- That what the capture of a played scenario spells to host b are objects of the shelf (Object Push Profile 1.2, 4.3; IrOBEX 1.5, 3.4).
use Rattle.std.specs.Prelude.{ℕ, List, Option, Some}
use Rattle.bt_base.specs.Objects.{Object, Contents}
use Rattle.noting_laws.specs.obex_session.specs.Counting.{Counts}
use Rattle.push_script.specs.declared.scenario.Scenario.{Scenario}
use Rattle.push_terms.specs.declared.outcome.Outcome.{Outcome}
use Rattle.push_terms.specs.declared.peaks.Peaks.{Peaks}
use Rattle.push_terms.specs.declared.word.Side.TheVariants.{B}
use Rattle.capture.specs.Entries.{Entry}
use Rattle.noting_laws.specs.link_talk.specs.Captures.{objects_heard}
use Rattle.noting_laws.specs.push_laws.specs.Spelled.{ArePushed}
use Rattle.noting_laws.specs.world_model.specs.Worlds.{all_entries}
use Rattle.noting_laws.specs.scenario_laws.specs.Parties.{party_of}
use Rattle.scenario_play.specs.Breaking.{IsBroken}
use Rattle.scenario_play.specs.Playing.{IsPlayed}

-- these objects are what the shelf holds under some of the names of the scenario, in their order
abbrev pub SpellsOfShelf : Scenario → (shelf : List Object) → List Entry → Type 0
SpellsOfShelf scenario shelf capture = ArePushed shelf scenario.names (objects_heard (party_of scenario.settings B) B capture)

-- So it is of every scenario that was played with a shelf that tells what it holds: over either transport, to its end or as far as it came, whatever its
-- script says and its ports answer, and whatever the inbox tells.
pub record PlaysSpellPushed : Type 0 where
  pub plays : (scenario : Scenario) (shelf : List Object) (before after : Option Contents) (trace trace' : Option (List ℕ)) (outcomes : List Outcome) (peaks : Peaks) (counts counts' : Counts)
      (played : IsPlayed scenario (Some shelf) before after trace trace' outcomes peaks counts counts') → SpellsOfShelf scenario shelf played.capture
  pub breaks : (scenario : Scenario) (shelf : List Object) (before after : Option Contents) (trace trace' : Option (List ℕ)) (counts counts' : Counts)
      (broken : IsBroken scenario (Some shelf) before after trace trace' counts counts') → SpellsOfShelf scenario shelf (all_entries broken.happenings)
