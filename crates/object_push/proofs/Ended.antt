-- A scenario that was played to its end is one that broke off behind its last entry.
use Rattle.std.proofs.Common.{◌≡◌, ℕ, ◌≤◌, Bool, true, false, cond, List, [], ◌∷◌, ◌++◌, length, Option, unwrap_or, inl, refl, sym, ap, subst, ◌∙◌, arith}
use Rattle.std.proofs.lemmas.List.{append-nil}
use Rattle.std.proofs.lemmas.Grind.{flat_map-append}
use Rattle.std.specs.List.{AllByRecursion}
use Rattle.bt_base.specs.Objects.{Object, Contents}
use Rattle.bt_base.specs.Streams.{gained, GainedFront}
use Rattle.bt_base.proofs.PortLaws.{gained-gained, front_whole}
use Rattle.scenario_play.specs.obex_session.specs.Counting.{Counts}
use Rattle.push_script.specs.declared.scenario.Scenario.{Scenario}
use Rattle.push_terms.specs.declared.outcome.Outcome.{Outcome}
use Rattle.push_terms.specs.declared.outcome.Outcome.TheVariants.{ScriptEnded}
use Rattle.push_terms.specs.declared.peaks.Peaks.{Peaks}
use Rattle.scenario_play.specs.capture.specs.Entries.{Entry, Ended, entry_octets, capture_octets, IsEntry}
use Rattle.scenario_play.specs.world_model.specs.Pushes.{Pushes}
use Rattle.scenario_play.specs.world_model.specs.Worlds.{Happening, all_entries, all_words}
use Rattle.radio_world.specs.Standing.{last_entries}
use Rattle.scenario_play.specs.scenario_laws.specs.Captures.{client_of}
use Rattle.scenario_play.specs.Breaking.{IsBroken}
use Rattle.scenario_play.specs.Playing.{RanAnswered, IsPlayed}

-- one entry at most ends the last push
few_last : (came : Option Outcome) (pushes : Pushes) → length (last_entries came pushes) ≤ 1
few_last came pushes = by pushes.going
  where
    by : (going : Bool) → length (cond going (Ended pushes.begun (unwrap_or came ScriptEnded) ∷ []) []) ≤ 1
    by true = omega arith
    by false = omega arith

written_behind : (trace trace' : Option (List ℕ)) (past ends capture : List Entry) → capture ≡ past ++ ends → trace' ≡ gained trace (capture_octets capture) → GainedFront (gained trace (capture_octets past)) trace' (capture_octets ends)
written_behind trace trace' past ends capture is written =
    front_whole (gained trace (capture_octets past)) trace' (capture_octets ends)
    (written ∙ ap (λ (es : List Entry). gained trace (capture_octets es)) is ∙ ap (λ (os : List ℕ). gained trace os) (flat_map-append entry_octets past ends) ∙ sym (gained-gained trace (capture_octets past) (capture_octets ends)))

-- the end of the last push is nothing that happened
without_ends : {scenario : Scenario} {shelf : Option (List Object)} {before after : Option Contents} {counts counts' : Counts} {happenings : List Happening} {capture : List Entry} → RanAnswered scenario shelf before after counts counts' happenings capture
    → RanAnswered scenario shelf before after counts counts' happenings (all_entries happenings)
without_ends answered =
    let own = answered.own in
    record {
      answers = answered.answers;
      enough = answered.enough;
      counted = answered.counted;
      own = record { happenings = own.happenings; world = own.world; happened = own.happened; ends = []; last = tt; capture_is = ap (λ (hs : List Happening). all_entries hs) (sym answered.happenings_are) ∙ sym (append-nil (all_entries own.happenings)) };
      happenings_are = answered.happenings_are;
      stored = answered.stored;
      able = answered.able;
      at_end = λ push outcome decided is. cc;
    }

pub broken_at_end : (scenario : Scenario) (shelf : Option (List Object)) (before after : Option Contents) (trace trace' : Option (List ℕ)) (outcomes : List Outcome) (peaks : Peaks) (counts counts' : Counts) → IsPlayed scenario shelf before after trace trace' outcomes peaks counts counts'
    → IsBroken scenario shelf before after trace trace' counts counts'
broken_at_end scenario shelf before after trace trace' outcomes peaks counts counts' played =
    let ran = played.finished.ran in
    record {
      happenings = ran.happenings;
      world = ran.world;
      happened = ran.happened;
      able = played.able;
      next = ran.ends;
      few = subst (λ (es : List Entry). length es ≤ 1) (sym played.ends) (few_last ((client_of scenario).outcome ran.world.a.upper) ran.world.pushes);
      ran = record { happenings = ran.happenings; world = ran.world; happened = ran.happened; ends = ran.ends; last = ran.last; capture_is = refl };
      more = [];
      goes_on = sym (append-nil ran.happenings);
      later = [];
      words_are = sym played.finished.words_are ∙ sym (append-nil (all_words ran.happenings));
      written = written_behind trace trace' (all_entries ran.happenings) ran.ends played.capture ran.capture_is played.written;
      entries_are = subst (λ (es : List Entry). AllByRecursion IsEntry es) ran.capture_is played.entries_are;
      enough = (played.enough, played.enough);
      granted = λ never. (played.granted never, played.granted never);
      answered = λ lacked. without_ends (played.answered lacked);
      stored = inl played.stored;
    }
