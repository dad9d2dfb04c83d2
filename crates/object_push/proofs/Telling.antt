-- What a push of a scenario comes to, over its ports and its capture alone.
use Rattle.std.proofs.Common.{◌≡◌, ℕ, ◌<◌, arith, List, ◌++◌, length, Option, Some, None, IfSome, inl, inr, refl, sym, ap, subst, ◌∙◌}
use Rattle.std.proofs.lemmas.List.{append_cancel_left}
use Rattle.std.specs.Prelude.{◌^◌}
use Rattle.bt_base.specs.Counts.{HasRisen}
use Rattle.bt_base.specs.Objects.{Object, Contents}
use Rattle.bt_base.specs.declared.settings.Transport.TheVariants.{L2cap}
use Rattle.scenario_play.specs.capture.specs.Air.{words_of}
use Rattle.scenario_play.specs.capture.specs.Entries.{Entry}
use Rattle.scenario_play.specs.obex_session.specs.Counting.{Counts, HasRisenBy}
use Rattle.push_script.specs.declared.scenario.Scenario.{Scenario}
use Rattle.push_terms.specs.declared.outcome.Outcome.{Outcome}
use Rattle.push_terms.specs.declared.peaks.Peaks.{Peaks}
use Rattle.scenario_play.specs.world_model.specs.Worlds.{all_entries}
use Rattle.radio_world.specs.declared.fault.WorldFault.{WorldFault}
use Rattle.radio_world.specs.declared.fault.WorldFault.TheVariants.{TraceFault, NoMemory}
use Rattle.scenario_play.specs.scenario_laws.specs.Gains.{holding}
use Rattle.scenario_play.specs.scenario_laws.proofs.Broken.{crowds_are_told}
use Rattle.scenario_play.specs.Breaking as breaking
use Rattle.scenario_play.specs.Breaking.{IsBroken, IsWanting}
use Rattle.scenario_play.specs.Doing.{DoneAreStored}
use Rattle.scenario_play.specs.Failing.{shelf_faults}
use Rattle.scenario_play.specs.Gaining.{PlaysKeep}
use Rattle.scenario_play.specs.Losing.{LeavesOutCounted, GainsLess}
use Rattle.scenario_play.specs.Playing.{LackedNever, IsPlayed}
use Rattle.scenario_play.specs.Pushed.{SpellsOfShelf}
use Rattle.scenario_play.proofs.BufferPeaks.{buffer_peaks_are_told}
use Rattle.scenario_play.proofs.Causes.{causes_so_far, losses_so_far, peer_spared_so_far}
use Rattle.scenario_play.proofs.Doing.{plays_store_done}
use Rattle.scenario_play.proofs.Lost.{none_left_out, plays_gain_less}
use Rattle.scenario_play.proofs.Pushed.{plays_spell_pushed}
use Rattle.scenario_play.proofs.Services.{plays_keep_service}
use Rattle.scenario_play.proofs.Solvent.{plays_stay_solvent}
use Rattle.scenario_play.proofs.WindowPeaks.{window_peaks_are_told}
use Rattle.object_push.specs.Gains.{Gains, Grows}
use Rattle.object_push.specs.Ports.{Ports, counts_in}
use Rattle.object_push.specs.Running.{Stops, RanToEnd, RanShort}
use Rattle.object_push.specs.Told.{spelled_in, GainsSo, EndsSo, StopsSo, WantsMemory, TraceLacked, ShelfLacked, InboxLacked, NothingYet, AirCrowded, HasWhy, ToTheEnd, NotToTheEnd, RunsTell}

some_is : (one other : List Object) → Some one ≡ Some other → one ≡ other
some_is one other is = cc

held_is : (before : Contents) → before.pending ≡ None → Some before ≡ holding before.stored
held_is before none = ap (λ (p : Option Object). Some (record { stored = before.stored; pending = p })) none

-- the inbox, where it is known what it gained if it never lacked memory
has_gained : (scenario : Scenario) (before after : Option Contents) (kept : ℕ) (counts counts' : Counts) (capture : List Entry) → IfSome before (λ held. held.pending ≡ None) → Gains before kept after
    → ((stored : List Object) → before ≡ holding stored → LackedNever counts counts' → GainsLess scenario stored after counts counts' capture)
    → IfSome before (λ held. IfSome after (λ now. GainsSo scenario held.stored now.stored counts counts' capture))
has_gained scenario None after kept counts counts' capture none gains known = tt
has_gained scenario (Some held) None kept counts counts' capture none gains known = tt
has_gained scenario (Some held) (Some now) kept counts counts' capture none gains known = record {
  gain = gains.gain;
  stored = gains.stored;
  less = less;
  exactly = λ never. none_left_out gains.gain (spelled_in scenario capture) counts.faults counts'.faults never.0 (less never.1);
}
  where
    less : LackedNever counts counts' → LeavesOutCounted gains.gain (spelled_in scenario capture) counts.faults counts'.faults
    less enough =
        let so = known held.stored (held_is held none) enough in
        let same : so.gain ≡ gains.gain = append_cancel_left held.stored so.gain gains.gain (sym (some_is now.stored (held.stored ++ so.gain) so.stored) ∙ gains.stored) in
        subst (λ (gain : List Object). LeavesOutCounted gain (spelled_in scenario capture) counts.faults counts'.faults) same so.leaves

-- what was pushed, where it is known of a shelf that tells what it holds
has_pushed : (scenario : Scenario) (content : Option (List Object)) (capture : List Entry) → ((shelf : List Object) → content ≡ Some shelf → SpellsOfShelf scenario shelf capture) → IfSome content (λ shelf. SpellsOfShelf scenario shelf capture)
has_pushed scenario None capture known = tt
has_pushed scenario (Some shelf) capture known = known shelf refl

-- what was done, where it is known of a shelf and an inbox that tell what they hold
has_done : (scenario : Scenario) (shelf : Option (List Object)) (before after : Option Contents) (counts counts' : Counts) (capture : List Entry) → IfSome before (λ held. held.pending ≡ None)
    → ((objects stored : List Object) → shelf ≡ Some objects → before ≡ holding stored → scenario.settings.transport ≡ L2cap → LackedNever counts counts' → DoneAreStored scenario objects stored after capture)
    → IfSome shelf (λ objects. IfSome before (λ held. scenario.settings.transport ≡ L2cap → LackedNever counts counts' → DoneAreStored scenario objects held.stored after capture))
has_done scenario None before after counts counts' capture none known = tt
has_done scenario (Some objects) None after counts counts' capture none known = tt
has_done scenario (Some objects) (Some held) after counts counts' capture none known = known objects held.stored refl (held_is held none)

-- ---- to its end

module _ (scenario : Scenario) (old new : Ports) where
  abbrev Played : Option Contents → List Outcome → Peaks → Type 0
  Played before outcomes peaks = IsPlayed scenario old.shelf.content before new.inbox.content old.trace.content new.trace.content outcomes peaks (counts_in old.inbox) (counts_in new.inbox)

  abbrev Less : List Object → List Entry → Type 0
  Less stored capture = LackedNever (counts_in old.inbox) (counts_in new.inbox) → GainsLess scenario stored new.inbox.content (counts_in old.inbox) (counts_in new.inbox) capture

  less_played : (before : Option Contents) (outcomes : List Outcome) (peaks : Peaks) (played : Played before outcomes peaks) (stored : List Object) → before ≡ holding stored → Less stored played.capture
  less_played before outcomes peaks played stored is = from played
    where
      from : (played : Played before outcomes peaks) → Less stored played.capture
      from =
          subst (λ (c : Option Contents). (played : Played c outcomes peaks) → Less stored played.capture) (sym is)
          (λ played enough. plays_gain_less.plays scenario old.shelf.content stored new.inbox.content old.trace.content new.trace.content outcomes peaks (counts_in old.inbox) (counts_in new.inbox) played enough)

  abbrev PlayedOf : Option (List Object) → List Outcome → Peaks → Type 0
  PlayedOf content outcomes peaks = IsPlayed scenario content old.inbox.content new.inbox.content old.trace.content new.trace.content outcomes peaks (counts_in old.inbox) (counts_in new.inbox)

  pushed_played : (content : Option (List Object)) (outcomes : List Outcome) (peaks : Peaks) (shelf : List Object) → content ≡ Some shelf → (played : PlayedOf content outcomes peaks) → SpellsOfShelf scenario shelf played.capture
  pushed_played content outcomes peaks shelf of =
      subst (λ (c : Option (List Object)). (played : PlayedOf c outcomes peaks) → SpellsOfShelf scenario shelf played.capture) (sym of)
      (λ played. plays_spell_pushed.plays scenario shelf old.inbox.content new.inbox.content old.trace.content new.trace.content outcomes peaks (counts_in old.inbox) (counts_in new.inbox) played)

  done_played : (content : Option (List Object)) (before : Option Contents) (outcomes : List Outcome) (peaks : Peaks) (shelf stored : List Object) → content ≡ Some shelf → before ≡ holding stored
      → (played : IsPlayed scenario content before new.inbox.content old.trace.content new.trace.content outcomes peaks (counts_in old.inbox) (counts_in new.inbox))
      → scenario.settings.transport ≡ L2cap → LackedNever (counts_in old.inbox) (counts_in new.inbox) → DoneAreStored scenario shelf stored new.inbox.content played.capture
  done_played content before outcomes peaks shelf stored of is =
      subst (λ (c : Option (List Object)). (played : IsPlayed scenario c before new.inbox.content old.trace.content new.trace.content outcomes peaks (counts_in old.inbox) (counts_in new.inbox))
      → scenario.settings.transport ≡ L2cap → LackedNever (counts_in old.inbox) (counts_in new.inbox) → DoneAreStored scenario shelf stored new.inbox.content played.capture) (sym of)
      (subst (λ (b : Option Contents). (played : IsPlayed scenario (Some shelf) b new.inbox.content old.trace.content new.trace.content outcomes peaks (counts_in old.inbox) (counts_in new.inbox))
      → scenario.settings.transport ≡ L2cap → LackedNever (counts_in old.inbox) (counts_in new.inbox) → DoneAreStored scenario shelf stored new.inbox.content played.capture) (sym is)
      (λ played direct enough. plays_store_done.plays scenario shelf stored new.inbox.content old.trace.content new.trace.content outcomes peaks (counts_in old.inbox) (counts_in new.inbox) played direct enough))

  ends_so : PlaysKeep → (outcomes : List Outcome) (kept : ℕ) (peaks : Peaks) (played : Played old.inbox.content outcomes peaks) → IfSome old.inbox.content (λ before. before.pending ≡ None) → Gains old.inbox.content kept new.inbox.content
      → HasRisenBy (shelf_faults outcomes) old.shelf.faults new.shelf.faults → EndsSo scenario old new outcomes kept peaks played.capture
  ends_so law outcomes kept peaks played none gains faults =
      record {
        captured = record { each = played.entries_are; written = played.written };
        keeps = law.plays scenario old.shelf.content old.inbox.content new.inbox.content old.trace.content new.trace.content outcomes peaks (counts_in old.inbox) (counts_in new.inbox) played;
        pushed = has_pushed scenario old.shelf.content played.capture (λ shelf of. pushed_played old.shelf.content outcomes peaks shelf of played);
        done = has_done scenario old.shelf.content old.inbox.content new.inbox.content (counts_in old.inbox) (counts_in new.inbox) played.capture none (λ shelf stored of is direct enough. done_played old.shelf.content old.inbox.content outcomes peaks shelf stored of is played direct enough);
        gains = has_gained scenario old.inbox.content new.inbox.content kept (counts_in old.inbox) (counts_in new.inbox) played.capture none gains (less_played old.inbox.content outcomes peaks played);
        counted = gains;
        faulted = faults;
        credits = plays_stay_solvent.plays scenario old.shelf.content old.inbox.content new.inbox.content old.trace.content new.trace.content outcomes peaks (counts_in old.inbox) (counts_in new.inbox) played;
        service = plays_keep_service.plays scenario old.shelf.content old.inbox.content new.inbox.content old.trace.content new.trace.content outcomes peaks (counts_in old.inbox) (counts_in new.inbox) played;
        peaks_are = record {
          buffers = buffer_peaks_are_told scenario old.shelf.content old.inbox.content new.inbox.content old.trace.content new.trace.content outcomes peaks (counts_in old.inbox) (counts_in new.inbox) played;
          windows = window_peaks_are_told scenario old.shelf.content old.inbox.content new.inbox.content old.trace.content new.trace.content outcomes peaks (counts_in old.inbox) (counts_in new.inbox) played;
        };
      }

  -- ---- short of it

  abbrev Broke : Option Contents → Type 0
  Broke before = IsBroken scenario old.shelf.content before new.inbox.content old.trace.content new.trace.content (counts_in old.inbox) (counts_in new.inbox)

  less_broken : (before : Option Contents) (broken : Broke before) (stored : List Object) → before ≡ holding stored → Less stored (all_entries broken.happenings)
  less_broken before broken stored is = from broken
    where
      from : (broken : Broke before) → Less stored (all_entries broken.happenings)
      from =
          subst (λ (c : Option Contents). (broken : Broke c) → Less stored (all_entries broken.happenings)) (sym is)
          (λ broken enough. plays_gain_less.breaks scenario old.shelf.content stored new.inbox.content old.trace.content new.trace.content (counts_in old.inbox) (counts_in new.inbox) broken enough)

  abbrev BrokeOf : Option (List Object) → Type 0
  BrokeOf content = IsBroken scenario content old.inbox.content new.inbox.content old.trace.content new.trace.content (counts_in old.inbox) (counts_in new.inbox)

  pushed_broken : (content : Option (List Object)) (shelf : List Object) → content ≡ Some shelf → (broken : BrokeOf content) → SpellsOfShelf scenario shelf (all_entries broken.happenings)
  pushed_broken content shelf of =
      subst (λ (c : Option (List Object)). (broken : BrokeOf c) → SpellsOfShelf scenario shelf (all_entries broken.happenings)) (sym of)
      (λ broken. plays_spell_pushed.breaks scenario shelf old.inbox.content new.inbox.content old.trace.content new.trace.content (counts_in old.inbox) (counts_in new.inbox) broken)

  done_broken : (content : Option (List Object)) (before : Option Contents) (shelf stored : List Object) → content ≡ Some shelf → before ≡ holding stored
      → (broken : IsBroken scenario content before new.inbox.content old.trace.content new.trace.content (counts_in old.inbox) (counts_in new.inbox))
      → scenario.settings.transport ≡ L2cap → LackedNever (counts_in old.inbox) (counts_in new.inbox) → DoneAreStored scenario shelf stored new.inbox.content (all_entries broken.happenings)
  done_broken content before shelf stored of is =
      subst (λ (c : Option (List Object)). (broken : IsBroken scenario c before new.inbox.content old.trace.content new.trace.content (counts_in old.inbox) (counts_in new.inbox))
      → scenario.settings.transport ≡ L2cap → LackedNever (counts_in old.inbox) (counts_in new.inbox) → DoneAreStored scenario shelf stored new.inbox.content (all_entries broken.happenings)) (sym of)
      (subst (λ (b : Option Contents). (broken : IsBroken scenario (Some shelf) b new.inbox.content old.trace.content new.trace.content (counts_in old.inbox) (counts_in new.inbox))
      → scenario.settings.transport ≡ L2cap → LackedNever (counts_in old.inbox) (counts_in new.inbox) → DoneAreStored scenario shelf stored new.inbox.content (all_entries broken.happenings)) (sym is)
      (λ broken direct enough. plays_store_done.breaks scenario shelf stored new.inbox.content old.trace.content new.trace.content (counts_in old.inbox) (counts_in new.inbox) broken direct enough))

  stops_so : PlaysKeep → (broken : Broke old.inbox.content) → IfSome old.inbox.content (λ before. before.pending ≡ None) → Grows old.inbox.content new.inbox.content → StopsSo scenario old new (all_entries broken.happenings) broken.next
  stops_so law broken none (kept, gains) = record {
    few = broken.few;
    each = broken.entries_are;
    written = broken.written;
    keeps = law.breaks scenario old.shelf.content old.inbox.content new.inbox.content old.trace.content new.trace.content (counts_in old.inbox) (counts_in new.inbox) broken;
    causes = causes_so_far scenario old.shelf.content old.inbox.content new.inbox.content old.trace.content new.trace.content (counts_in old.inbox) (counts_in new.inbox) broken;
    drops = losses_so_far scenario old.shelf.content old.inbox.content new.inbox.content old.trace.content new.trace.content (counts_in old.inbox) (counts_in new.inbox) broken;
    spares = peer_spared_so_far scenario old.shelf.content old.inbox.content new.inbox.content old.trace.content new.trace.content (counts_in old.inbox) (counts_in new.inbox) broken;
    limits = law.limits scenario old.shelf.content old.inbox.content new.inbox.content old.trace.content new.trace.content (counts_in old.inbox) (counts_in new.inbox) broken;
    pushed = has_pushed scenario old.shelf.content (all_entries broken.happenings) (λ shelf of. pushed_broken old.shelf.content shelf of broken);
    done = has_done scenario old.shelf.content old.inbox.content new.inbox.content (counts_in old.inbox) (counts_in new.inbox) (all_entries broken.happenings) none (λ shelf stored of is direct enough. done_broken old.shelf.content old.inbox.content shelf stored of is broken direct enough);
    gains = has_gained scenario old.inbox.content new.inbox.content kept (counts_in old.inbox) (counts_in new.inbox) (all_entries broken.happenings) none gains (less_broken old.inbox.content broken);
    credits = plays_stay_solvent.breaks scenario old.shelf.content old.inbox.content new.inbox.content old.trace.content new.trace.content (counts_in old.inbox) (counts_in new.inbox) broken;
    service = plays_keep_service.breaks scenario old.shelf.content old.inbox.content new.inbox.content old.trace.content new.trace.content (counts_in old.inbox) (counts_in new.inbox) broken;
  }

  -- ---- why

  wanting : length (words_of scenario.script) < 2 ^ 64 → IsWanting scenario old.inbox.content new.inbox.content old.trace.content new.trace.content (HasRisen old.shelf.shortages new.shelf.shortages) (HasRisen old.inbox.shortages new.inbox.shortages) → WantsMemory scenario old new
  wanting few (breaking.NothingYet stored written) = NothingYet stored written
  wanting few (breaking.ShelfWants lacked) = ShelfLacked lacked
  wanting few (breaking.InboxWants lacked) = InboxLacked lacked
  wanting few (breaking.AirCrowded run) = AirCrowded (all_entries run.happenings) (record { each = run.entries_are; written = run.written }) (crowds_are_told scenario old.inbox.content run.happenings run.world run.happened run.crowded)
  wanting few (breaking.ManyWords many) = absurd (omega (arith, few, many))

  has_why : length (words_of scenario.script) < 2 ^ 64 → (fault : WorldFault) → Stops fault scenario old new → HasWhy fault scenario old new
  has_why few TraceFault failed = failed
  has_why few NoMemory (inl lacked) = TraceLacked lacked
  has_why few NoMemory (inr wants) = wanting few wants

pub runs_tell : PlaysKeep → RunsTell
runs_tell law scenario old new result none few (RanToEnd outcomes kept peaks played gains faults reports) = ToTheEnd outcomes kept peaks played.capture (ends_so scenario old new law outcomes kept peaks played none gains faults) reports
runs_tell law scenario old new result none few (RanShort fault is stops broken grows silent) =
    NotToTheEnd fault (all_entries broken.happenings) broken.next is (has_why scenario old new few fault stops) (stops_so scenario old new law broken none grows) silent
