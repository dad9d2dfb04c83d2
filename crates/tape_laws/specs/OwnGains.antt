-- What an inbox gains that gives a list of answers (Object Push Profile 1.2, 4.3; that a fault leaves out one object at most is this project's own).
use Rattle.std.specs.Prelude.{◌≡◌, List, ◌++◌, Option, Some}
use Rattle.inbox_laws.specs.bt_base.specs.declared.settings.Transport.TheVariants.{Rfcomm}
use Rattle.inbox_laws.specs.bt_base.specs.Objects.{Object}
use Rattle.inbox_laws.specs.obex_session.specs.InboxCalls.{Answer}
use Rattle.inbox_laws.specs.push_script.specs.declared.scenario.Scenario.{Scenario}
use Rattle.inbox_laws.specs.push_terms.specs.declared.word.Side.TheVariants as sides
use Rattle.inbox_laws.specs.capture.specs.Entries.{Entry}
use Rattle.inbox_laws.specs.link_talk.specs.Captures.{objects_heard}
use Rattle.inbox_laws.specs.push_laws.specs.Faults.{faults_of}
use Rattle.inbox_laws.specs.push_laws.specs.Laws.{stored_in}
use Rattle.inbox_laws.specs.push_laws.specs.Losing.{LeavesOut}
use Rattle.inbox_laws.specs.push_laws.specs.Premises.{NoneShort}
use Rattle.inbox_laws.specs.world_model.specs.Worlds.{all_words}
use Rattle.inbox_laws.specs.scenario_laws.specs.Gains.{holding}
use Rattle.inbox_laws.specs.scenario_laws.specs.Parties.{party_of}
use Rattle.inbox_laws.specs.pair_laws.specs.Keeping.{LosesNothing}
use Rattle.tape_laws.specs.OwnPairs.{RanOwn}

-- Behind what was stored at first the inbox gained the objects that the capture spells, in their order, but for one at most for each fault among its answers.
pub record OwnGain (scenario : Scenario) (shelf : Option (List Object)) (before : List Object) (answers : List Answer) (capture : List Entry) (own : RanOwn scenario shelf (holding before) answers capture) : Type 0 where
  pub gain : List Object
  pub stored : stored_in own.world.b.upper.profile.inbox.content ≡ Some (before ++ gain)
  pub leaves : LeavesOut gain (objects_heard (party_of scenario.settings sides.B) sides.B capture) (faults_of answers)

-- So it is wherever the run broke off, where none of the answers is want of memory; over RFCOMM where besides the words of the run lose, repeat and damage
-- nothing. Nothing is asked of both hosts, nor of what the shelf holds.
abbrev pub OwnServersGainLess : Type 0
OwnServersGainLess = (scenario : Scenario) (shelf : Option (List Object)) (before : List Object) (answers : List Answer) (capture : List Entry) (own : RanOwn scenario shelf (holding before) answers capture)
    → (scenario.settings.transport ≡ Rfcomm → LosesNothing (all_words own.happenings)) → NoneShort answers → OwnGain scenario shelf before answers capture own
