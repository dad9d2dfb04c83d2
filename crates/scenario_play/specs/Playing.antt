-- A scenario that both hosts played (this project's own).
use Rattle.std.specs.Prelude.{ℕ, ◌≡◌, ◌≤◌, false, List, [], ◌∷◌, Option, None}
use Rattle.std.specs.List.{AllByRecursion}
use Rattle.bt_base.specs.Counts.{HasRisen}
use Rattle.bt_base.specs.Objects.{Object, Contents}
use Rattle.bt_base.specs.Streams.{gained}
use Rattle.noting_laws.specs.obex_session.specs.Counting.{Counts, faults_of, HasRisenBy}
use Rattle.noting_laws.specs.obex_session.specs.InboxCalls.{Answer}
use Rattle.push_script.specs.declared.scenario.Scenario.{Scenario}
use Rattle.push_terms.specs.declared.outcome.Outcome.{Outcome}
use Rattle.push_terms.specs.declared.outcome.Outcome.TheVariants.{ScriptEnded}
use Rattle.push_terms.specs.declared.peaks.Peaks.{Peaks}
use Rattle.capture.specs.Entries.{Entry, Ended, capture_octets, IsEntry}
use Rattle.noting_laws.specs.world_model.specs.Worlds.{Happening}
use Rattle.radio_world.specs.Both.{Both}
use Rattle.radio_world.specs.Scenes.{first_scene}
use Rattle.radio_world.specs.Standing.{last_entries}
use Rattle.noting_laws.specs.push_laws.specs.Premises.{NoneShort}
use Rattle.bt_host.specs.host_model.specs.Clients.{ClientProfile}
use Rattle.bt_host.specs.Newness as served
use Rattle.bt_host.specs.Noting.{Noted}
use Rattle.bt_host.specs.Pushing as pushed
use Rattle.bt_host.specs.Refusals.{fresh_framing}
use Rattle.bt_host.specs.Serving.{Served}
use Rattle.bt_host.specs.Shells.{Shelled}
use Rattle.noting_laws.specs.scenario_laws.specs.Captures.{client_of, Finished}
use Rattle.noting_laws.specs.scenario_laws.specs.Outcomes.{outcomes_of}
use Rattle.noting_laws.specs.pair_laws.specs.Enough.{HappenedEnough}
use Rattle.noting_laws.specs.pair_laws.specs.Served.{HappenedServed}
use Rattle.done_laws.specs.tape_laws.specs.OwnPairs.{RanOwn}
use Rattle.unmarked_laws.specs.Ends.{IsOverAt}
use Rattle.scenario_play.specs.Peaks.{AreReached}

-- two new hosts with the settings of a scenario, and its air, to which nothing has happened
abbrev pub fresh_world : Scenario → Both (Shelled (Noted ClientProfile)) (Shelled (Noted Served))
fresh_world scenario = record {
  a = record { framing = fresh_framing; stack = pushed.new_stack scenario.settings; refusal = None };
  b = record { framing = fresh_framing; stack = served.new_stack scenario.settings; refusal = None };
  scene = first_scene scenario.acl_length scenario.acl_count scenario.names;
}

-- what a shelf has stays, and neither count of it falls
pub record KeepsShelf (content content' : Option (List Object)) (faults faults' shortages shortages' : ℕ) : Type 0 where
  pub content_stays : content' ≡ content
  pub faults_stay : faults ≤ faults'
  pub shortages_stay : shortages ≤ shortages'

-- the count of shortages did not rise
abbrev pub LackedNever : Counts → Counts → Type 0
LackedNever counts counts' = HasRisen counts.shortages counts'.shortages → ⊥

-- neither count rose
abbrev pub RoseNever : Counts → Counts → Type 0
RoseNever counts counts' = (HasRisen counts.faults counts'.faults → ⊥) × LackedNever counts counts'

-- So the scenario ran with a server that has these answers of its inbox from its first moment on, and this is what the inbox then holds. None of them
-- is want of memory, and the count of faults rose with each that says that a call failed; host a lacked no memory either. Where the last push ended behind
-- all that happened, with an outcome that an SDU alone brings about, nothing was owed to either host.
pub record RanAnswered (scenario : Scenario) (shelf : Option (List Object)) (before after : Option Contents) (counts counts' : Counts) (happenings : List Happening) (capture : List Entry) : Type 0 where
  pub answers : List Answer
  pub enough : NoneShort answers
  pub counted : HasRisenBy (faults_of answers) counts.faults counts'.faults
  pub own : RanOwn scenario shelf before answers capture
  pub happenings_are : own.happenings ≡ happenings
  pub stored : after ≡ own.world.b.upper.profile.inbox.content
  pub able : own.world.a.upper.profile.client.failed ≡ false
  pub at_end : (push : ℕ) (outcome : Outcome) → (outcome ≡ ScriptEnded → ⊥) → own.ends ≡ Ended push outcome ∷ [] → IsOverAt outcome own.world

-- The scenario ran to its end, as the trace gained it: from an inbox that held `before` both hosts came to where all words were turned and
-- all is at rest. The push that went on then ended with what had come of it, or else with the script; the outcomes are those that the
-- capture states, the peaks are those that the hosts noted on their way, and the inbox holds what host b made of it. Each entry is one that has octets, so
-- the trace is read in one way. In that run the
-- shelf told what it holds, and the inbox lacked no memory. Its counts say what it answered: where neither rose, it granted all that it was asked; and
-- where that of shortages did not, it failed no more often than the other says. The shelf lacked none.
pub record IsPlayed (scenario : Scenario) (shelf : Option (List Object)) (before after : Option Contents) (trace trace' : Option (List ℕ)) (outcomes : List Outcome) (peaks : Peaks) (counts counts' : Counts) : Type 0 where
  pub capture : List Entry
  pub finished : Finished scenario before capture
  pub ends : finished.ran.ends ≡ last_entries ((client_of scenario).outcome finished.ran.world.a.upper) finished.ran.world.pushes
  pub able : finished.ran.world.a.upper.profile.client.failed ≡ false
  pub outcomes_are : outcomes ≡ outcomes_of scenario capture
  pub reached : AreReached scenario before finished.ran.happenings peaks
  pub enough : HappenedEnough scenario shelf before finished.ran.happenings finished.ran.world
  pub granted : RoseNever counts counts' → HappenedServed scenario shelf before finished.ran.happenings finished.ran.world
  pub answered : LackedNever counts counts' → RanAnswered scenario shelf before after counts counts' finished.ran.happenings capture
  pub stored : after ≡ finished.ran.world.b.upper.profile.inbox.content
  pub written : trace' ≡ gained trace (capture_octets capture)
  pub entries_are : AllByRecursion IsEntry capture
