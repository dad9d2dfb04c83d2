-- What a push of a scenario comes to, over its ports and its capture alone (this project's own).
use Rattle.std.specs.Prelude.{ℕ, ◌≡◌, ◌≤◌, ◌<◌, ◌^◌, ◌++◌, List, length, Option, None, IfSome}
use Rattle.std.specs.List.{AllByRecursion}
use Rattle.bt_base.specs.Counts.{HasRisen}
use Rattle.bt_base.specs.Objects.{Object}
use Rattle.bt_base.specs.Streams.{gained, GainedFront}
use Rattle.bt_base.specs.declared.settings.Transport.TheVariants.{L2cap}
use Rattle.scenario_play.specs.capture.specs.Air.{words_of}
use Rattle.scenario_play.specs.capture.specs.Entries.{Entry, IsEntry, capture_octets}
use Rattle.scenario_play.specs.air_laws.specs.Crowded.{IsCrowded}
use Rattle.scenario_play.specs.link_talk.specs.Captures.{objects_heard}
use Rattle.scenario_play.specs.push_laws.specs.Spelled.{ArePushed}
use Rattle.scenario_play.specs.obex_session.specs.Counting.{Counts, HasRisenBy}
use Rattle.push_script.specs.declared.scenario.Scenario.{Scenario}
use Rattle.push_script.specs.Reports.{report_text}
use Rattle.push_terms.specs.declared.outcome.Outcome.{Outcome}
use Rattle.push_terms.specs.declared.peaks.Peaks.{Peaks}
use Rattle.push_terms.specs.declared.word.Side.{Side}
use Rattle.push_terms.specs.declared.word.Side.TheVariants.{B}
use Rattle.radio_world.specs.declared.fault.WorldFault.{WorldFault}
use Rattle.radio_world.specs.declared.fault.WorldFault.TheVariants as world
use Rattle.scenario_play.specs.scenario_laws.specs.Air.{hosts_of}
use Rattle.scenario_play.specs.scenario_laws.specs.Parties.{party_of}
use Rattle.scenario_play.specs.cause_laws.specs.FirstCauses.{CausesAreShown}
use Rattle.scenario_play.specs.drop_laws.specs.Dropped.{LossesAreDrops}
use Rattle.scenario_play.specs.blame_laws.specs.Blamed.{SparesPeer}
use Rattle.scenario_play.specs.credit_laws.specs.Kept.{StaysSolvent}
use Rattle.scenario_play.specs.pair_laws.specs.Costs.{adverse_in}
use Rattle.scenario_play.specs.parting_laws.specs.Parting.{PeersCloseNone}
use Rattle.scenario_play.specs.BufferPeaks.{AreBufferPeaks}
use Rattle.scenario_play.specs.Doing.{DoneAreStored}
use Rattle.scenario_play.specs.Failing.{shelf_faults}
use Rattle.scenario_play.specs.Gaining.{KeepsPlayed, KeepsBroken}
use Rattle.scenario_play.specs.Losing.{LeavesOutCounted}
use Rattle.scenario_play.specs.Playing.{LackedNever, RoseNever}
use Rattle.scenario_play.specs.Services.{KeepsService}
use Rattle.scenario_play.specs.WindowPeaks.{AreWindowPeaks}
use Rattle.btpush_forms.specs.declared.status.Status.{Status}
use Rattle.object_push.specs.Gains.{Gains}
use Rattle.object_push.specs.Ports.{Ports, counts_in}
use Rattle.object_push.specs.Running.{Reports, status_of, Runs}

-- ---- the inbox

-- the objects that the packets spell which host b heard, in the order of their last packets
abbrev pub spelled_in : Scenario → List Entry → List Object
spelled_in scenario capture = objects_heard (party_of scenario.settings B) B capture

-- Behind what it held stand the objects that the inbox gained. Where it never lacked memory these are those that the capture spells, in their order, but
-- for as many at most as its count of faults rose by; and where neither count of it rose, exactly those.
pub record GainsSo (scenario : Scenario) (before after : List Object) (counts counts' : Counts) (capture : List Entry) : Type 0 where
  pub gain : List Object
  pub stored : after ≡ before ++ gain
  pub less : LackedNever counts counts' → LeavesOutCounted gain (spelled_in scenario capture) counts.faults counts'.faults
  pub exactly : RoseNever counts counts' → gain ≡ spelled_in scenario capture

-- so it is where the inbox tells what it holds
abbrev pub HasGained : (scenario : Scenario) (old new : Ports) (capture : List Entry) → Type 0
HasGained scenario old new capture = IfSome old.inbox.content (λ before. IfSome new.inbox.content (λ after. GainsSo scenario before.stored after.stored (counts_in old.inbox) (counts_in new.inbox) capture))

-- ---- what is pushed

-- Each object that the capture spells is one push's of the scenario: what the shelf holds under its name, with that name in UTF-16 units and all its octets.
-- They come in the order of the pushes, of each push one at most. So it is where the shelf tells what it holds.
abbrev pub HasPushed : (scenario : Scenario) (old : Ports) (capture : List Entry) → Type 0
HasPushed scenario old capture = IfSome old.shelf.content (λ shelf. ArePushed shelf scenario.names (spelled_in scenario capture))

-- ---- what is done

-- Over L2CAP, where the inbox never lacked memory: where a push ends that is done, what the packets spell that host b heard is what they spelled before that push was
-- begun, and one object more, which is marked as gained in one list of marks for all that they spell, and is the shelf's under the name of that very push. So it is where shelf and inbox tell what they hold, whatever calls of the inbox fail.
abbrev pub HasDone : (scenario : Scenario) (old new : Ports) (capture : List Entry) → Type 0
HasDone scenario old new capture =
    IfSome old.shelf.content (λ shelf. IfSome old.inbox.content (λ before. scenario.settings.transport ≡ L2cap → LackedNever (counts_in old.inbox) (counts_in new.inbox) → DoneAreStored scenario shelf before.stored new.inbox.content capture))

-- ---- credits

-- At each moment of the capture the credits that either host holds are a whole number that is not below nothing, whatever any port answers.
abbrev pub HoldsCredits : Scenario → List Entry → Type 0
HoldsCredits scenario capture = (side : Side) → StaysSolvent scenario.settings side capture

-- ---- to its end

-- The trace gained this capture, which can be read in one way alone.
pub record HasCapture (old new : Option (List ℕ)) (capture : List Entry) : Type 0 where
  pub each : AllByRecursion IsEntry capture
  pub written : new ≡ gained old (capture_octets capture)

-- The greatest numbers of packets that were outstanding are those of the capture. No window is greater than both hosts state, nor less than the capture has
-- unacknowledged as a word acts, or at its end.
pub record ArePeaks (scenario : Scenario) (capture : List Entry) (peaks : Peaks) : Type 0 where
  pub buffers : AreBufferPeaks capture peaks
  pub windows : AreWindowPeaks scenario capture peaks

-- It was played to its end: what its hosts kept to, what was pushed and what was done, what the inbox gained and how much of that was counted, that the shelf's count of faults rose
-- with each push that ended for one, the credits, the service, and what was held at most.
pub record EndsSo (scenario : Scenario) (old new : Ports) (outcomes : List Outcome) (kept : ℕ) (peaks : Peaks) (capture : List Entry) : Type 0 where
  pub captured : HasCapture old.trace.content new.trace.content capture
  pub keeps : KeepsPlayed scenario outcomes capture
  pub pushed : HasPushed scenario old capture
  pub done : HasDone scenario old new capture
  pub gains : HasGained scenario old new capture
  pub counted : Gains old.inbox.content kept new.inbox.content
  pub faulted : HasRisenBy (shelf_faults outcomes) old.shelf.faults new.shelf.faults
  pub credits : HoldsCredits scenario capture
  pub service : KeepsService scenario.settings capture
  pub peaks_are : ArePeaks scenario capture peaks

-- ---- short of it

-- The trace gained the capture of what happened, and a front of its next entry, if one was begun. The inbox gained what that capture spells, by the same
-- rule; each push that ended has the cause of its outcome in its part of it, and none blames its peer for what is never its fault, or lacks a service that it
-- has, nor ends as closed by it while fewer words of the script are adverse than the hosts try; and the credits are so behind that entry as well, and the service too.
pub record StopsSo (scenario : Scenario) (old new : Ports) (past next : List Entry) : Type 0 where
  pub few : length next ≤ 1
  pub each : AllByRecursion IsEntry (past ++ next)
  pub written : GainedFront (gained old.trace.content (capture_octets past)) new.trace.content (capture_octets next)
  pub keeps : KeepsBroken scenario (past ++ next)
  pub causes : CausesAreShown scenario.settings past
  pub drops : LossesAreDrops past
  pub spares : SparesPeer scenario.settings past
  pub limits : adverse_in (words_of scenario.script) < scenario.settings.tries → PeersCloseNone past
  pub pushed : HasPushed scenario old past
  pub done : HasDone scenario old new past
  pub gains : HasGained scenario old new past
  pub credits : HoldsCredits scenario (past ++ next)
  pub service : KeepsService scenario.settings (past ++ next)

-- Why memory was wanting: a port lacked some; nothing happened yet; or more frames wait in the air than memory is reserved for.
pub data WantsMemory (scenario : Scenario) (old new : Ports) : Type 0 where
  TraceLacked : HasRisen old.trace.shortages new.trace.shortages → WantsMemory scenario old new
  ShelfLacked : HasRisen old.shelf.shortages new.shelf.shortages → WantsMemory scenario old new
  InboxLacked : HasRisen old.inbox.shortages new.inbox.shortages → WantsMemory scenario old new
  NothingYet : new.inbox.content ≡ old.inbox.content → new.trace.content ≡ old.trace.content → WantsMemory scenario old new
  AirCrowded : (capture : List Entry) → HasCapture old.trace.content new.trace.content capture → IsCrowded (hosts_of scenario.settings) scenario.acl_length capture → WantsMemory scenario old new

-- the trace failed; or memory was wanting
abbrev pub HasWhy : WorldFault → Scenario → (old new : Ports) → Type 0
HasWhy world.TraceFault scenario old new = HasRisen old.trace.faults new.trace.faults
HasWhy world.NoMemory scenario old new = WantsMemory scenario old new

-- ---- what it comes to

pub data Tells (scenario : Scenario) (old new : Ports) (result : Status) : Type 0 where
  -- it came to its end, and was reported
  ToTheEnd : (outcomes : List Outcome) (kept : ℕ) (peaks : Peaks) (capture : List Entry) → EndsSo scenario old new outcomes kept peaks capture
      → Reports (report_text scenario.names outcomes kept peaks) outcomes old.sink.content new.sink.content (HasRisen old.sink.shortages new.sink.shortages) result → Tells scenario old new result
  -- it stopped short, for a reason, and nothing was reported
  NotToTheEnd : (fault : WorldFault) (past next : List Entry) → result ≡ status_of fault → HasWhy fault scenario old new → StopsSo scenario old new past next → new.sink.content ≡ old.sink.content → Tells scenario old new result

-- So it is of each run of a scenario whose words can be counted, over either transport, whatever its script says and its ports answer; in its inbox no
-- object is pending at first.
abbrev pub RunsTell : Type 0
RunsTell = (scenario : Scenario) (old new : Ports) (result : Status) → IfSome old.inbox.content (λ before. before.pending ≡ None) → length (words_of scenario.script) < 2 ^ 64 → Runs scenario old new result → Tells scenario old new result
