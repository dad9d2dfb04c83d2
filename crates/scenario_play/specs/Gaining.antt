-- What a scenario comes to that was played: over either transport, and over L2CAP with all that is still asked of its ports (this project's own).
use Rattle.std.specs.Prelude.{ℕ, ◌≡◌, ◌≤◌, ◌<◌, List, [], ◌++◌, length, Option, Some, None}
use Rattle.std.specs.List.{AllByRecursion}
use Rattle.bt_base.specs.Objects.{Object, Contents}
use Rattle.bt_base.specs.declared.settings.Transport.TheVariants.{L2cap}
use Rattle.noting_laws.specs.obex_session.specs.Counting.{Counts}
use Rattle.push_script.specs.declared.scenario.Scenario.{Scenario}
use Rattle.push_terms.specs.declared.outcome.Outcome.{Outcome}
use Rattle.push_terms.specs.declared.peaks.Peaks.{Peaks}
use Rattle.push_terms.specs.declared.word.Side.TheVariants.{A, B}
use Rattle.capture.specs.Air.{words_of}
use Rattle.capture.specs.Buffers.{KeepsWithin}
use Rattle.capture.specs.Entries.{Entry}
use Rattle.capture.specs.Histories.{EachAfter, AtEach}
use Rattle.radio_world.specs.radio_model.specs.Air.{KeepsTo, Obeys}
use Rattle.radio_world.specs.radio_model.specs.Course.{pushes_begun, PushesInTurn}
use Rattle.radio_world.specs.radio_model.specs.Honest.{AreHonest}
use Rattle.noting_laws.specs.link_talk.specs.Captures.{objects_heard}
use Rattle.noting_laws.specs.world_model.specs.Worlds.{all_entries}
use Rattle.noting_laws.specs.push_laws.specs.Laws.{stored_in}
use Rattle.bt_host.specs.shelf_model.specs.Held.{length_of}
use Rattle.noting_laws.specs.host_laws.specs.Calls.{HostsAsk}
use Rattle.noting_laws.specs.scenario_laws.specs.Air.{hosts_of}
use Rattle.noting_laws.specs.scenario_laws.specs.Broken.{BrokeOff}
use Rattle.noting_laws.specs.scenario_laws.specs.Captures.{BothHosts, Ran, Finished}
use Rattle.noting_laws.specs.scenario_laws.specs.Clauses.{Ends}
use Rattle.noting_laws.specs.scenario_laws.specs.Gains.{holding, OrderlyServer}
use Rattle.noting_laws.specs.scenario_laws.specs.OneLink.{HasOneLink}
use Rattle.noting_laws.specs.scenario_laws.specs.Outcomes.{outcomes_of}
use Rattle.noting_laws.specs.scenario_laws.specs.Parties.{party_of}
use Rattle.noting_laws.specs.scenario_laws.specs.PushEnds.{AllHaveEnded}
use Rattle.noting_laws.specs.pair_laws.specs.Costs.{adverse_in}
use Rattle.noting_laws.specs.pair_laws.specs.InTurn.{PairsInTurn}
use Rattle.noting_laws.specs.pair_laws.specs.Served.{HeldInTurn}
use Rattle.noting_laws.specs.pair_laws.specs.Windows.{HoldsOnLinks, HoldsThroughout}
use Rattle.drop_laws.specs.cause_laws.specs.FirstCauses.{CausesAreShown}
use Rattle.drop_laws.specs.Dropped.{LossesAreDrops}
use Rattle.blame_laws.specs.Blamed.{SparesPeer}
use Rattle.parting_laws.specs.Parting.{PeersCloseNone}
use Rattle.credit_laws.specs.request_laws.specs.AllSizes.{InboxGrants}
use Rattle.window_laws.specs.Runs.{HoldsAbsolutelyOnLinks, HoldsAbsolutelyThroughout}
use Rattle.credit_laws.specs.request_laws.specs.BothFed.{most_octets, GrantsAll}
use Rattle.credit_laws.specs.request_laws.specs.Together.{PortsAnswer}
use Rattle.scenario_play.specs.Breaking.{IsBroken}
use Rattle.scenario_play.specs.Playing.{LackedNever, RoseNever, IsPlayed}

-- ---- what is still asked

-- Both hosts went through a run side by side in some way in which their ports answered: no object that was pushed is longer than 16,777,215
-- octets, and the inbox granted all calls.
pub record HaveAnswered (asks : HostsAsk) (scenario : Scenario) (before : List Object) (capture : List Entry) (ran : Ran scenario (holding before) capture) : Type 0 where
  pub turns : PairsInTurn asks scenario (holding before) capture ran
  pub answer : PortsAnswer asks scenario before capture ran turns.pairs

-- They went through it side by side in some way in which the inbox granted all calls. So their ports answered, where no object was too long
-- in that.
pub record HaveGranted (asks : HostsAsk) (scenario : Scenario) (before : List Object) (capture : List Entry) (ran : Ran scenario (holding before) capture) : Type 0 where
  pub turns : PairsInTurn asks scenario (holding before) capture ran
  pub granted : AllByRecursion GrantsAll turns.pairs.b.fed.so.lives.feeds

-- They went through it side by side in some way in which the shelf told of no object that is longer than a client can push, and the inbox granted
-- all calls.
pub record HaveOffered (asks : HostsAsk) (scenario : Scenario) (before : List Object) (capture : List Entry) (ran : Ran scenario (holding before) capture) : Type 0 where
  pub turns : PairsInTurn asks scenario (holding before) capture ran
  pub grants : InboxGrants asks scenario before capture ran turns.pairs

-- the shelf tells what it holds, and none of its objects has more octets than so many
abbrev pub HoldsAtMost : (most : ℕ) → Option (List Object) → Type 0
HoldsAtMost most None = ⊥
HoldsAtMost most (Some objects) = (name : List ℕ) (size : ℕ) → length_of name objects ≡ Some size → size ≤ most

-- ---- what is so

-- Whatever ports answer: the buffers of both controllers at each moment, and so the windows of both hosts, by the last ReqSeq and in numbers that never wrap, on the link
-- that is up then and on each link to its end, also of a channel that was closed; honest controllers, and pushes in turn, each of them over one link at most, and no more of
-- them than objects.
pub record KeepsAccounts (scenario : Scenario) (capture : List Entry) : Type 0 where
  pub within_a : KeepsWithin A scenario.acl_count capture
  pub within_b : KeepsWithin B scenario.acl_count capture
  pub window_a : HoldsThroughout scenario.settings A capture
  pub window_b : HoldsThroughout scenario.settings B capture
  pub on_links_a : HoldsOnLinks scenario.settings A capture
  pub on_links_b : HoldsOnLinks scenario.settings B capture
  pub absolute_a : HoldsAbsolutelyThroughout scenario.settings A capture
  pub absolute_b : HoldsAbsolutelyThroughout scenario.settings B capture
  pub absolute_on_links_a : HoldsAbsolutelyOnLinks scenario.settings A capture
  pub absolute_on_links_b : HoldsAbsolutelyOnLinks scenario.settings B capture
  pub honest : AreHonest capture
  pub in_turn : PushesInTurn capture
  pub one_link_a : AtEach (HasOneLink A) capture
  pub one_link_b : AtEach (HasOneLink B) capture
  pub few : pushes_begun capture ≤ length scenario.names

-- Host b serves in order, and the inbox gained exactly the objects that the packets spell which it heard.
pub record ServesAndGains (asks : HostsAsk) (scenario : Scenario) (before : List Object) (capture : List Entry) (world : BothHosts) (stored : Option (List Object)) : Type 0 where
  pub orderly : OrderlyServer asks scenario.settings before capture world.b.upper
  pub gained : stored ≡ Some (before ++ objects_heard (party_of scenario.settings B) B capture)

-- A scenario that was played to its end: its accounts, that each push which began has its end, an outcome for each object and what shows why it came, that none
-- blames its peer for what is never its fault, or lacks a service that it has, nor ends as closed by it while fewer words of the script are adverse than the hosts
-- try, and that the air obeyed the script, whatever ports answer.
pub record KeepsPlayed (scenario : Scenario) (outcomes : List Outcome) (capture : List Entry) : Type 0 where
  pub accounts : KeepsAccounts scenario capture
  pub all_ended : AllHaveEnded capture
  pub outcomes_are : outcomes ≡ outcomes_of scenario capture
  pub outcomes_are_all : length outcomes ≡ length scenario.names
  pub causes : CausesAreShown scenario.settings capture
  pub drops : LossesAreDrops capture
  pub spares : SparesPeer scenario.settings capture
  pub limits : adverse_in (words_of scenario.script) < scenario.settings.tries → PeersCloseNone capture
  pub obeys : Obeys (hosts_of scenario.settings) scenario.acl_length (words_of scenario.script) capture

-- A scenario that broke off: its accounts, and each entry keeps to the script, whatever ports answer.
pub record KeepsBroken (scenario : Scenario) (capture : List Entry) : Type 0 where
  pub accounts : KeepsAccounts scenario capture
  pub keeps : EachAfter (KeepsTo (hosts_of scenario.settings) scenario.acl_length (words_of scenario.script)) [] capture

-- A scenario that was played to its end over L2CAP: besides, that the shelf told the lengths of its objects, and that the inbox granted all calls where
-- it failed never; what the inbox gained where it granted all, of objects of any size; and where ports answered, how host b serves and all that is
-- said of the end of a scenario. Ports answered so where the inbox failed never and the shelf tells that no object of it is longer.
pub record GainsPlayed (asks : HostsAsk) (scenario : Scenario) (shelf : Option (List Object)) (before : List Object) (after : Option Contents) (outcomes : List Outcome) (capture : List Entry) (finished : Finished scenario (holding before) capture) (counts counts' : Counts) : Type 0 where
  pub kept : KeepsPlayed scenario outcomes capture
  pub told : HeldInTurn asks scenario shelf (holding before) capture finished.ran
  pub granted : RoseNever counts counts' → HaveGranted asks scenario before capture finished.ran
  pub offered : RoseNever counts counts' → HaveOffered asks scenario before capture finished.ran
  pub answered : RoseNever counts counts' → HoldsAtMost most_octets shelf → HaveAnswered asks scenario before capture finished.ran
  pub gained : HaveOffered asks scenario before capture finished.ran → stored_in after ≡ Some (before ++ objects_heard (party_of scenario.settings B) B capture)
  pub serves : HaveAnswered asks scenario before capture finished.ran → ServesAndGains asks scenario before capture finished.ran.world (stored_in after)
  pub ends : HaveAnswered asks scenario before capture finished.ran → Ends scenario before (stored_in after) outcomes capture

-- A scenario that broke off over L2CAP: besides, all that happened is the capture of a run. Where the inbox granted all calls, and did not lack memory,
-- it gained what that capture spells; where ports answered, host b serves in order.
pub record GainsBroken (asks : HostsAsk) (scenario : Scenario) (shelf : Option (List Object)) (before : List Object) (after : Option Contents) (trace trace' : Option (List ℕ)) (counts counts' : Counts) (broken : IsBroken scenario shelf (holding before) after trace trace' counts counts') : Type 0 where
  pub past : Ran scenario (holding before) (all_entries broken.happenings)
  pub world_is : past.world ≡ broken.world
  pub kept : KeepsBroken scenario (all_entries broken.happenings ++ broken.next)
  pub told : HeldInTurn asks scenario shelf (holding before) (all_entries broken.happenings) past
  pub granted : RoseNever counts counts' → HaveGranted asks scenario before (all_entries broken.happenings) past
  pub offered : RoseNever counts counts' → HaveOffered asks scenario before (all_entries broken.happenings) past
  pub answered : RoseNever counts counts' → HoldsAtMost most_octets shelf → HaveAnswered asks scenario before (all_entries broken.happenings) past
  pub serves : HaveAnswered asks scenario before (all_entries broken.happenings) past → OrderlyServer asks scenario.settings before (all_entries broken.happenings) broken.world.b.upper
  pub gained : HaveOffered asks scenario before (all_entries broken.happenings) past → LackedNever counts counts'
      → stored_in after ≡ Some (before ++ objects_heard (party_of scenario.settings B) B (all_entries broken.happenings))
  pub breaks_off : HaveAnswered asks scenario before (all_entries broken.happenings) past → LackedNever counts counts'
      → BrokeOff scenario before (stored_in after) (all_entries broken.happenings) (all_entries broken.happenings ++ broken.next)

-- ---- the laws

-- So it is of every scenario that was played, over either transport, whatever its script says and its ports answer: to its end, or as far as it
-- came; and as far as it came no push ended as closed by its peer either, while so few words are adverse.
pub record PlaysKeep : Type 0 where
  pub plays : (scenario : Scenario) (shelf : Option (List Object)) (before after : Option Contents) (trace trace' : Option (List ℕ)) (outcomes : List Outcome) (peaks : Peaks) (counts counts' : Counts)
      (played : IsPlayed scenario shelf before after trace trace' outcomes peaks counts counts') → KeepsPlayed scenario outcomes played.capture
  pub breaks : (scenario : Scenario) (shelf : Option (List Object)) (before after : Option Contents) (trace trace' : Option (List ℕ)) (counts counts' : Counts)
      (broken : IsBroken scenario shelf before after trace trace' counts counts') → KeepsBroken scenario (all_entries broken.happenings ++ broken.next)
  pub limits : (scenario : Scenario) (shelf : Option (List Object)) (before after : Option Contents) (trace trace' : Option (List ℕ)) (counts counts' : Counts)
      (broken : IsBroken scenario shelf before after trace trace' counts counts') → adverse_in (words_of scenario.script) < scenario.settings.tries → PeersCloseNone (all_entries broken.happenings)

-- So it is of every scenario that was played over L2CAP, whatever its script says: to its end, or as far as it came. Nothing is asked of both
-- hosts.
pub record PlaysGain : Type 0 where
  pub asks : HostsAsk
  pub plays : (scenario : Scenario) (shelf : Option (List Object)) (before : List Object) (after : Option Contents) (trace trace' : Option (List ℕ)) (outcomes : List Outcome) (peaks : Peaks) (counts counts' : Counts)
      (played : IsPlayed scenario shelf (holding before) after trace trace' outcomes peaks counts counts')
      → scenario.settings.transport ≡ L2cap → GainsPlayed asks scenario shelf before after outcomes played.capture played.finished counts counts'
  pub breaks : (scenario : Scenario) (shelf : Option (List Object)) (before : List Object) (after : Option Contents) (trace trace' : Option (List ℕ)) (counts counts' : Counts)
      (broken : IsBroken scenario shelf (holding before) after trace trace' counts counts')
      → scenario.settings.transport ≡ L2cap → GainsBroken asks scenario shelf before after trace trace' counts counts' broken
