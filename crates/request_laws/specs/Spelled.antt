-- What the capture of a run spells to host b is what host a pushes: objects of its shelf, each whole and once at most, in the order of the pushes (Object Push
-- Profile 1.2, 4.3; IrOBEX 1.5, 3.4).
use Rattle.std.specs.Prelude.{◌≡◌, List, Some}
use Rattle.pair_laws.specs.bt_base.specs.declared.settings.Transport.TheVariants.{Rfcomm}
use Rattle.pair_laws.specs.bt_base.specs.Objects.{Object}
use Rattle.pair_laws.specs.push_script.specs.declared.scenario.Scenario.{Scenario}
use Rattle.pair_laws.specs.push_terms.specs.declared.word.Side.TheVariants as sides
use Rattle.pair_laws.specs.capture.specs.Entries.{Entry}
use Rattle.pair_laws.specs.link_talk.specs.Captures.{objects_heard}
use Rattle.pair_laws.specs.push_laws.specs.Spelled.{ArePushed}
use Rattle.pair_laws.specs.world_model.specs.Worlds.{all_words}
use Rattle.pair_laws.specs.scenario_laws.specs.Captures.{Ran}
use Rattle.pair_laws.specs.scenario_laws.specs.Gains.{holding}
use Rattle.pair_laws.specs.scenario_laws.specs.Parties.{party_of}
use Rattle.pair_laws.specs.Enough.{HappenedEnough}
use Rattle.pair_laws.specs.Keeping.{LosesNothing}

-- The objects that the packets spell which host b heard are what the shelf holds under some of the names of the scenario, in their order.
abbrev pub SpellsPushed : Scenario → (shelf : List Object) → List Entry → Type 0
SpellsPushed scenario shelf capture = ArePushed shelf scenario.names (objects_heard (party_of scenario.settings sides.B) sides.B capture)

-- So it is at each moment of each run, over either transport, wherever it broke off, where the shelf tells what it holds and the inbox does not lack memory;
-- over RFCOMM words lose, cut, repeat and damage nothing.
abbrev pub RunsSpellPushed : Type 0
RunsSpellPushed = (scenario : Scenario) (shelf before : List Object) (capture : List Entry) (ran : Ran scenario (holding before) capture) → HappenedEnough scenario (Some shelf) (holding before) ran.happenings ran.world
    → (scenario.settings.transport ≡ Rfcomm → LosesNothing (all_words ran.happenings)) → SpellsPushed scenario shelf capture
