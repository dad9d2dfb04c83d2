-- What a scenario comes to that was played over RFCOMM (this project's own).
use Rattle.std.specs.Prelude.{ℕ, ◌≡◌, List, ◌++◌, Option, Some}
use Rattle.bt_base.specs.Objects.{Object, Contents}
use Rattle.bt_base.specs.declared.settings.Transport.TheVariants.{Rfcomm}
use Rattle.noting_laws.specs.obex_session.specs.Counting.{Counts}
use Rattle.push_script.specs.declared.scenario.Scenario.{Scenario}
use Rattle.push_terms.specs.declared.outcome.Outcome.{Outcome}
use Rattle.push_terms.specs.declared.peaks.Peaks.{Peaks}
use Rattle.push_terms.specs.declared.word.Side.TheVariants.{B}
use Rattle.capture.specs.Entries.{Entry}
use Rattle.noting_laws.specs.link_talk.specs.Captures.{objects_heard}
use Rattle.noting_laws.specs.world_model.specs.Worlds.{all_entries}
use Rattle.noting_laws.specs.push_laws.specs.Laws.{stored_in}
use Rattle.noting_laws.specs.host_laws.specs.Calls.{HostsAsk}
use Rattle.noting_laws.specs.scenario_laws.specs.Captures.{Ran}
use Rattle.noting_laws.specs.scenario_laws.specs.Gains.{holding}
use Rattle.noting_laws.specs.scenario_laws.specs.Parties.{party_of}
use Rattle.noting_laws.specs.pair_laws.specs.Keeping.{PairsKeepOrder}
use Rattle.noting_laws.specs.pair_laws.specs.ServedOrder.{HeldInOrder}
use Rattle.credit_laws.specs.request_laws.specs.GainsCarried.{AllAreHeard}
use Rattle.credit_laws.specs.request_laws.specs.TogetherHeard.{HeardAnswer}
use Rattle.scenario_play.specs.Breaking.{IsBroken}
use Rattle.scenario_play.specs.Gaining.{KeepsPlayed, KeepsBroken}
use Rattle.scenario_play.specs.Playing.{LackedNever, RoseNever, IsPlayed}

-- Both hosts went through a run side by side, each channel in its order, in some way in which their ports answered: the shelf gave octets and told
-- of no object that is longer than a client can push, and the inbox granted all calls.
pub record HaveStreamed (asks : HostsAsk) (scenario : Scenario) (before : List Object) (capture : List Entry) (ran : Ran scenario (holding before) capture) : Type 0 where
  pub order : PairsKeepOrder asks scenario (holding before) capture ran
  pub answer : HeardAnswer asks scenario before capture ran order

-- Of a scenario that was played to its end: what is so whatever ports answer; that the shelf gave octets and told the lengths of its objects; that ports
-- answered, where the inbox failed never; and where they answered, that no request was ignored and the inbox gained exactly what the packets spell which
-- host b heard, of objects of any size.
pub record StreamsPlayed (asks : HostsAsk) (scenario : Scenario) (shelf : Option (List Object)) (before : List Object) (after : Option Contents) (outcomes : List Outcome) (capture : List Entry) (ran : Ran scenario (holding before) capture) (counts counts' : Counts) : Type 0 where
  pub kept : KeepsPlayed scenario outcomes capture
  pub told : HeldInOrder asks scenario shelf (holding before) capture ran
  pub answered : RoseNever counts counts' → HaveStreamed asks scenario before capture ran
  pub heard : (have : HaveStreamed asks scenario before capture ran) → AllAreHeard asks scenario before capture ran have.order
  pub gained : HaveStreamed asks scenario before capture ran → stored_in after ≡ Some (before ++ objects_heard (party_of scenario.settings B) B capture)

-- Of one that broke off: all that happened is the capture of a run, of which the same is so. The inbox gained what that capture spells, unless it lacked
-- memory.
pub record StreamsBroken (asks : HostsAsk) (scenario : Scenario) (shelf : Option (List Object)) (before : List Object) (after : Option Contents) (trace trace' : Option (List ℕ)) (counts counts' : Counts) (broken : IsBroken scenario shelf (holding before) after trace trace' counts counts') : Type 0 where
  pub past : Ran scenario (holding before) (all_entries broken.happenings)
  pub world_is : past.world ≡ broken.world
  pub kept : KeepsBroken scenario (all_entries broken.happenings ++ broken.next)
  pub told : HeldInOrder asks scenario shelf (holding before) (all_entries broken.happenings) past
  pub answered : RoseNever counts counts' → HaveStreamed asks scenario before (all_entries broken.happenings) past
  pub heard : (have : HaveStreamed asks scenario before (all_entries broken.happenings) past) → AllAreHeard asks scenario before (all_entries broken.happenings) past have.order
  pub gained : HaveStreamed asks scenario before (all_entries broken.happenings) past → LackedNever counts counts'
      → stored_in after ≡ Some (before ++ objects_heard (party_of scenario.settings B) B (all_entries broken.happenings))

-- So it is of every scenario that was played over RFCOMM, whatever its script says: to its end, or as far as it came. Nothing is asked of both
-- hosts.
pub record PlaysStream : Type 0 where
  pub asks : HostsAsk
  pub plays : (scenario : Scenario) (shelf : Option (List Object)) (before : List Object) (after : Option Contents) (trace trace' : Option (List ℕ)) (outcomes : List Outcome) (peaks : Peaks) (counts counts' : Counts)
      (played : IsPlayed scenario shelf (holding before) after trace trace' outcomes peaks counts counts')
      → scenario.settings.transport ≡ Rfcomm → StreamsPlayed asks scenario shelf before after outcomes played.capture played.finished.ran counts counts'
  pub breaks : (scenario : Scenario) (shelf : Option (List Object)) (before : List Object) (after : Option Contents) (trace trace' : Option (List ℕ)) (counts counts' : Counts)
      (broken : IsBroken scenario shelf (holding before) after trace trace' counts counts')
      → scenario.settings.transport ≡ Rfcomm → StreamsBroken asks scenario shelf before after trace trace' counts counts' broken
