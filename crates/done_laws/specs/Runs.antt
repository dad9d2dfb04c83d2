-- What the inbox of a run gains of the pushes of host a, of which some are done (IrOBEX 1.5, 3.2.1 and 3.3.3; Object Push Profile 1.2, 4.3; that a fault leaves out one
-- object at most is this project's own).
use Rattle.std.specs.Prelude.{◌≡◌, ◌≤◌, ◌+◌, List, [], ◌∷◌, ◌++◌, length, Option, Some}
use Rattle.std.specs.List.{AllByRecursion}
use Rattle.tape_laws.specs.bt_base.specs.declared.settings.Transport.TheVariants.{L2cap}
use Rattle.tape_laws.specs.bt_base.specs.Objects.{Object}
use Rattle.tape_laws.specs.obex_session.specs.InboxCalls.{Answer}
use Rattle.tape_laws.specs.push_script.specs.declared.scenario.Scenario.{Scenario}
use Rattle.tape_laws.specs.push_terms.specs.declared.outcome.Outcome.TheVariants.{Done}
use Rattle.tape_laws.specs.push_terms.specs.declared.word.Side.TheVariants as sides
use Rattle.tape_laws.specs.capture.specs.Entries.{Entry}
use Rattle.tape_laws.specs.link_talk.specs.Captures.{objects_heard}
use Rattle.tape_laws.specs.push_laws.specs.Faults.{faults_of}
use Rattle.tape_laws.specs.push_laws.specs.Laws.{stored_in}
use Rattle.tape_laws.specs.push_laws.specs.Parties.{client_side, Push}
use Rattle.tape_laws.specs.push_laws.specs.Premises.{NoneShort}
use Rattle.tape_laws.specs.push_laws.specs.Spelled.{AreAmong, IsOfShelfOrStill, names_of}
use Rattle.tape_laws.specs.scenario_laws.specs.Captures.{BothHosts}
use Rattle.tape_laws.specs.scenario_laws.specs.Gains.{holding}
use Rattle.tape_laws.specs.scenario_laws.specs.Parties.{party_of}
use Rattle.tape_laws.specs.OwnPairs.{RanOwn}
use Rattle.done_laws.specs.Kept.{IsDone, AreKept}

-- One of these pushes is done, on the channel of the object, and no client of those behind it did anything.
pub record EndsDone (pushes : List Push) : Type 0 where
  pub ahead : List Push
  pub one : Push
  pub behind : List Push
  pub pushes_are : pushes ≡ ahead ++ one ∷ behind
  pub done : IsDone one
  pub idle : AllByRecursion (λ (push : Push). client_side push.moves ≡ []) behind

-- nothing is owed to either host, and the client of host a is done
pub record IsDoneAt (world : BothHosts) : Type 0 where
  pub none_a : world.radio.a.owed ≡ []
  pub none_b : world.radio.b.owed ≡ []
  pub cause : world.a.upper.profile.client.cause ≡ Some Done

-- Host a pushed objects of its shelf, under some of the names of the scenario, in their order; and push by push the inbox gained, behind what it stored at
-- first, the object that the capture spells of it, or nothing: that of each push that is done. As many are left out at most as it answers with faults. And where
-- its client is done now, it is so of the last push in which it did anything.
pub record KeepsPushes (scenario : Scenario) (shelf before : List Object) (answers : List Answer) (spelled : List Object) (stored : Option (List Object)) (IsDoneNow : Type 0) : Type 0 where
  pub pushes : List Push
  pub named : AreAmong (names_of pushes) scenario.names
  pub of_shelf : AllByRecursion (IsOfShelfOrStill shelf) pushes
  pub gain : List Object
  pub stored_is : stored ≡ Some (before ++ gain)
  pub kept : AreKept pushes gain spelled
  pub few : length spelled ≤ length gain + faults_of answers
  pub ends : IsDoneNow → EndsDone pushes

-- So it is at each moment of each run over L2CAP with a server that has its answers from its first moment on, none of which is want of memory, and a shelf that
-- tells what it holds; wherever the run broke off.
abbrev pub OwnServersKeepDone : Type 0
OwnServersKeepDone = (scenario : Scenario) (shelf before : List Object) (answers : List Answer) (capture : List Entry) (own : RanOwn scenario (Some shelf) (holding before) answers capture) → scenario.settings.transport ≡ L2cap → NoneShort answers
    → KeepsPushes scenario shelf before answers (objects_heard (party_of scenario.settings sides.B) sides.B capture) (stored_in own.world.b.upper.profile.inbox.content) (IsDoneAt own.world)
