-- What the inbox of host b gains in each run of a scenario over RFCOMM where its calls fail (IrOBEX 1.5, 3.4.3; Object Push Profile 1.2, 4.3; that a fault
-- leaves out one object at most is this project's own).
use Rattle.std.specs.Prelude.{ℕ, ◌≡◌, ◌≤◌, List, [], sum_by}
use Rattle.std.specs.List.{AllByRecursion}
use Rattle.pair_laws.specs.bt_base.specs.declared.settings.Transport.TheVariants.{Rfcomm}
use Rattle.pair_laws.specs.bt_base.specs.Objects.{Object}
use Rattle.pair_laws.specs.push_script.specs.declared.scenario.Scenario.{Scenario}
use Rattle.pair_laws.specs.push_terms.specs.declared.word.Side.TheVariants as sides
use Rattle.pair_laws.specs.capture.specs.Entries.{Entry}
use Rattle.pair_laws.specs.link_talk.specs.Captures.{objects_heard}
use Rattle.pair_laws.specs.push_laws.specs.Faults.{faults_of, spent_from}
use Rattle.pair_laws.specs.push_laws.specs.Laws.{new_over, stored_in}
use Rattle.pair_laws.specs.push_laws.specs.OneName.{AllKeptOrLeft}
use Rattle.pair_laws.specs.push_laws.specs.Premises.{NoneShort}
use Rattle.pair_laws.specs.shelf_model.specs.Held.{longest_octets}
use Rattle.pair_laws.specs.world_model.specs.Worlds.{all_words}
use Rattle.pair_laws.specs.host_model.specs.Circumstances.{Circumstance, answers_in}
use Rattle.pair_laws.specs.host_laws.specs.Answered.{BeginsAtMost}
use Rattle.pair_laws.specs.host_laws.specs.Calls.{HostsAsk}
use Rattle.pair_laws.specs.host_laws.specs.Gifts.{gifts_of}
use Rattle.pair_laws.specs.scenario_laws.specs.Captures.{Ran}
use Rattle.pair_laws.specs.scenario_laws.specs.Gains.{holding}
use Rattle.pair_laws.specs.scenario_laws.specs.Parties.{party_of}
use Rattle.pair_laws.specs.Keeping.{LosesNothing, PairsKeepOrder}
use Rattle.pair_laws.specs.OnLinks.{ArePairs}
use Rattle.request_laws.specs.BothFed.{InboxAnswers}
use Rattle.request_laws.specs.Losing.{LosesFew, served_in}
use Rattle.request_laws.specs.TogetherHeard.{GivesOctets}

-- the faults among what host b was given of its inbox
abbrev pub faults_given : List (List Circumstance) → ℕ
faults_given gifts = sum_by (λ (gift : List Circumstance). faults_of (answers_in gift)) gifts

-- The inbox of host b gained what the capture spells, but for few objects: one at most for each fault that its calls used up, and these are no more than
-- it gave. With the last packet of an object all of it was gained, or nothing.
pub record LosesHeard (asks : HostsAsk) (scenario : Scenario) (before : List Object) (capture : List Entry) (ran : Ran scenario (holding before) capture) (pairs : ArePairs asks scenario (holding before) capture ran) : Type 0 where
  pub loses : LosesFew scenario.settings before (served_in asks scenario before capture ran pairs) (objects_heard (party_of scenario.settings sides.B) sides.B capture) (stored_in ran.world.b.upper.profile.inbox.content)
  pub few : spent_from (new_over scenario.settings before) (served_in asks scenario before capture ran pairs) ≤ faults_given (gifts_of pairs.b.fed.so.lives.feeds)
  pub each : AllKeptOrLeft scenario.settings [] (new_over scenario.settings before) (served_in asks scenario before capture ran pairs)

-- What is asked in a run, of the ports alone: as where the inbox grants all calls; but it may fail, only not for want of memory.
pub record FailingAnswer (asks : HostsAsk) (scenario : Scenario) (before : List Object) (capture : List Entry) (ran : Ran scenario (holding before) capture) (order : PairsKeepOrder asks scenario (holding before) capture ran) : Type 0 where
  pub given : AllByRecursion GivesOctets order.turns.pairs.a.fed.so.lives.feeds
  pub small : AllByRecursion (BeginsAtMost longest_octets) order.turns.pairs.a.fed.so.lives.feeds
  pub enough : AllByRecursion (InboxAnswers NoneShort) order.turns.pairs.b.fed.so.lives.feeds

-- then the inbox loses few
pub record GainsLessRuns (asks : HostsAsk) (scenario : Scenario) (before : List Object) (capture : List Entry) (ran : Ran scenario (holding before) capture) : Type 0 where
  pub order : PairsKeepOrder asks scenario (holding before) capture ran
  pub less : FailingAnswer asks scenario before capture ran order → LosesHeard asks scenario before capture ran order.turns.pairs

-- So it is at each moment of each run over RFCOMM, whose words lose, cut, repeat and damage nothing, wherever it broke off.
pub record HeardRunsGainLess : Type 0 where
  pub asks : HostsAsk
  pub runs : (scenario : Scenario) (before : List Object) (capture : List Entry) (ran : Ran scenario (holding before) capture) → scenario.settings.transport ≡ Rfcomm → LosesNothing (all_words ran.happenings)
      → GainsLessRuns asks scenario before capture ran
