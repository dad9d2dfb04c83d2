-- What the form `push` does over the ports of a made scenario.
use Rattle.std.proofs.Common.{◌≡◌, ℕ, ◌-◌, ◌≤◌, ◌⊎◌, List, [], ◌++◌, length, Option, Some, Result, Ok, Err, refl, sym, ap, subst, ◌∙◌, arith, inl, inr}
use Rattle.std.proofs.lemmas.List.{length-append, length-replicate}
use Rattle.std.specs.Prelude.{replicate}
use Rattle.bt_base.specs.Counts.{HasRisen}
use Rattle.ready_ports.specs.Memory.{MemoryShelved, MemoryStored, no_calls}
use Rattle.bt_base.specs.Objects.{Object, Contents}
use Rattle.bt_base.specs.Streams.{gained}
use Rattle.object_push.specs.capture.specs.Entries.{Entry}
use Rattle.object_push.specs.push_terms.specs.declared.outcome.Outcome.{Outcome}
use Rattle.object_push.specs.push_terms.specs.declared.outcome.Outcome.TheVariants.{ScriptEnded}
use Rattle.object_push.specs.push_terms.specs.declared.peaks.Peaks.{Peaks}
use Rattle.push_script.specs.declared.scenario.Scenario.{Scenario}
use Rattle.push_script.specs.declared.refusal.ScriptRefusal.{ScriptRefusal}
use Rattle.push_script.specs.Made.{made_script, made_names, made_objects, put_first}
use Rattle.push_script.specs.Reading.{Script, script_of, reading, with_defaults}
use Rattle.push_script.specs.Reports.{report_text, peaks_text}
use Rattle.object_push.specs.radio_world.specs.declared.fault.WorldFault.{WorldFault}
use Rattle.object_push.specs.radio_world.specs.declared.fault.WorldFault.TheVariants as world
use Rattle.object_push.specs.scenario_laws.specs.Outcomes.{outcomes_in}
use Rattle.btpush_forms.specs.declared.status.Status.{Status}
use Rattle.btpush_forms.specs.declared.status.Status.TheVariants as status
use Rattle.btpush_forms.specs.Run.{HasEnded, HasCauses}
use Rattle.btpush_forms.specs.Ports.{Written}
use Rattle.object_push.specs.Ports.{Ports}
use Rattle.object_push.specs.Pushing.{Pushes, NotRead, NotTaken, Taken, IsUnread}
use Rattle.object_push.specs.Running.{Reports, status_of}
use Rattle.object_push.specs.Told as told_by
use Rattle.object_push.specs.Told.{Tells, ToTheEnd, NotToTheEnd}
use Rattle.making.specs.Counting.{done_lines, octets_counted}
use Rattle.making.specs.Making.{IsRun, IsReported, first_ports, Sums, Makes, NotMade, Stopped, Told, StopsShort, IsKnown, EndsSo}
use Rattle.making.specs.MadePorts.{AreMade}
use Rattle.making.specs.declared.memory_ports.MemoryPorts.{MemoryPorts}
use Rattle.making.specs.Outcomes.{done_count}
use Rattle.making.specs.Summary.{summary_text}
use Rattle.making.proofs.Reported.{done_told}

-- a count that stays at nothing did not rise
pub none_rose : HasRisen 0 0 → ⊥
none_rose (inl lt) = omega arith
none_rose (inr last) = omega arith

-- a run that stopped short has one of two ends
no_other : (fault : WorldFault) (end : Status) → end ≡ status_of fault → (end ≡ status.WriteFault → ⊥) → (end ≡ status.NoMemory → ⊥) → ⊥
no_other world.TraceFault end is not_write not_short = not_write is
no_other world.NoMemory end is not_write not_short = not_short is

-- it was not begun for want of memory, or the scenario of the number was run
pub data Comes (number : ℕ) (trace : Written) (Untouched : Type 0) (after : Ports) (end : Status) : Type 0 where
  NotBegun : end ≡ status.NoMemory → Untouched → Comes number trace Untouched after end
  Ran : IsRun number trace after end → Comes number trace Untouched after end

unread_short : (end : Status) → IsUnread end → (end ≡ status.ReadFault → ⊥) → end ≡ status.NoMemory
unread_short status.ReadFault is other = absurd (other refl)
unread_short status.NoMemory is other = refl
unread_short status.Ok is other = absurd is
unread_short status.SomeFailed is other = absurd is
unread_short status.BadWords is other = absurd is
unread_short status.InputRefused is other = absurd is
unread_short status.WriteFault is other = absurd is

abbrev Verdict : Type 0
Verdict = Result Script (ℕ × ScriptRefusal)

abbrev well : Script → Verdict
well script = Ok script

abbrev ill : ℕ × ScriptRefusal → Verdict
ill refusal = Err refusal

same_script : (a b : Script) → well a ≡ well b → a ≡ b
same_script a b e = cc

never : (refusal : ℕ × ScriptRefusal) (script : Script) → ill refusal ≡ well script → ⊥
never refusal script e = absurd cc

comes : (number : ℕ) (trace : Written) (input : List ℕ) (left : Option (List ℕ)) (old after : Ports) (Untouched : Type 0) (end : Status) → reading input ≡ Ok (made_script number) → old ≡ first_ports number trace → (end ≡ status.ReadFault → ⊥)
    → Pushes input left old after Untouched end → Comes number trace Untouched after end
comes number trace input left old after Untouched end made same other (NotRead n l kept is unread) = NotBegun (unread_short end unread other) is
comes number trace input left old after Untouched end made same other (NotTaken line refusal l read refuses is) = absurd (never (line, refusal) (made_script number) (sym read ∙ made))
comes number trace input left old after Untouched end made same other (Taken scenario l read tells) = Ran (record {
  scenario = scenario;
  made = same_script (script_of scenario) (made_script number) (sym read ∙ made);
  tells = subst (λ (ports : Ports). Tells scenario ports after end) same tells;
})

-- ---- a run that came to its end

pub names_are : (number : ℕ) (script : Script) → script ≡ made_script number → script.names ≡ made_names
unfolding with_defaults
names_are number script e = ap (λ (x : Script). x.names) e

-- each name has its outcome
pub enough : (scenario : Scenario) (old new : Ports) (outcomes : List Outcome) (kept : ℕ) (peaks : Peaks) (capture : List Entry) → told_by.EndsSo scenario old new outcomes kept peaks capture → length scenario.names ≤ length outcomes
enough scenario old new outcomes kept peaks capture ends =
    let front : List Outcome = outcomes_in capture in
    let rest : List Outcome = replicate (length scenario.names - length front) ScriptEnded in
    let all : length outcomes ≡ length (front ++ rest) = ap (λ (os : List Outcome). length os) ends.keeps.outcomes_are in
    omega (arith, all, length-append front rest, length-replicate (length scenario.names - length front) ScriptEnded)

-- what its report tells of it
pub record HasTold (scenario : Scenario) (before after : Ports) (end : Status) (text : List ℕ) (stored : List Object) : Type 0 where
  pub outcomes : List Outcome
  pub reported : IsReported scenario before after end outcomes stored
  pub done : done_lines 8 text ≡ done_count outcomes made_names

whole_report : (text : List ℕ) (outcomes : List Outcome) (old new : Option (List ℕ)) (Lacked : Type 0) (end : Status) → HasEnded end → Reports text outcomes old new Lacked end → new ≡ gained old text
whole_report text outcomes old new Lacked status.Ok ended reports = reports.1
whole_report text outcomes old new Lacked status.SomeFailed ended reports = reports.1
whole_report text outcomes old new Lacked status.BadWords ended reports = absurd ended
whole_report text outcomes old new Lacked status.InputRefused ended reports = absurd ended
whole_report text outcomes old new Lacked status.ReadFault ended reports = absurd ended
whole_report text outcomes old new Lacked status.WriteFault ended reports = absurd ended
whole_report text outcomes old new Lacked status.NoMemory ended reports = absurd ended

ends_so : (text : List ℕ) (outcomes : List Outcome) (old new : Option (List ℕ)) (Lacked : Type 0) (end : Status) → HasEnded end → Reports text outcomes old new Lacked end → EndsSo outcomes end
ends_so text outcomes old new Lacked status.Ok ended reports = reports.0
ends_so text outcomes old new Lacked status.SomeFailed ended reports = reports.0
ends_so text outcomes old new Lacked status.BadWords ended reports = absurd ended
ends_so text outcomes old new Lacked status.InputRefused ended reports = absurd ended
ends_so text outcomes old new Lacked status.ReadFault ended reports = absurd ended
ends_so text outcomes old new Lacked status.WriteFault ended reports = absurd ended
ends_so text outcomes old new Lacked status.NoMemory ended reports = absurd ended

abbrev some_text : List ℕ → Option (List ℕ)
some_text text = Some text

same_text : (a b : List ℕ) → some_text a ≡ some_text b → a ≡ b
same_text a b e = cc

short_of_end : (fault : WorldFault) → HasEnded (status_of fault) → ⊥
short_of_end world.TraceFault ended = ended
short_of_end world.NoMemory ended = ended

pub told : (number : ℕ) (trace : Written) (after : Ports) (end : Status) (scenario : Scenario) (text : List ℕ) (contents : Contents) → script_of scenario ≡ made_script number → HasEnded end
    → after.sink.content ≡ Some text → after.inbox.content ≡ Some contents → Tells scenario (first_ports number trace) after end → HasTold scenario (first_ports number trace) after end text contents.stored
told number trace after end scenario text contents made ended is holds (ToTheEnd outcomes kept peaks capture came reports) =
    let names : scenario.names ≡ made_names = names_are number (script_of scenario) made in
    let whole : after.sink.content ≡ Some (report_text made_names outcomes kept peaks) =
    whole_report (report_text scenario.names outcomes kept peaks) outcomes (Some []) after.sink.content _ end ended reports ∙ ap (λ (ns : List (List ℕ)). Some (report_text ns outcomes kept peaks)) names in
    let enough_are : length made_names ≤ length outcomes = subst (λ (ns : List (List ℕ)). length ns ≤ length outcomes) names (enough scenario (first_ports number trace) after outcomes kept peaks capture came) in
    record {
      outcomes = outcomes;
      reported = record { ends = ends_so (report_text scenario.names outcomes kept peaks) outcomes (Some []) after.sink.content _ end ended reports; kept = kept; peaks = peaks; capture = capture; played = came; report = whole; pending = contents.pending; inbox = holds };
      done = ap (done_lines 8) (same_text text (report_text made_names outcomes kept peaks) (sym is ∙ whole)) ∙ done_told 1 outcomes made_names (peaks_text kept peaks) enough_are (refl, (refl, (refl, (refl, (refl, (refl, (refl, (refl, tt))))))));
    }
told number trace after end scenario text contents made ended is holds (NotToTheEnd fault past next end_is why stops silent) = absurd (short_of_end fault (subst HasEnded end_is ended))

-- ---- what is told in the end

run_known : (scenario : Scenario) (before after : Ports) (end : Status) → Tells scenario before after end → IsKnown end
run_known scenario before after status.Ok tells = inl tt
run_known scenario before after status.SomeFailed tells = inl tt
run_known scenario before after status.NoMemory tells = inr (inl refl)
run_known scenario before after status.WriteFault tells = inr (inr refl)
run_known scenario before after status.BadWords (ToTheEnd outcomes kept peaks capture came reports) = absurd reports
run_known scenario before after status.InputRefused (ToTheEnd outcomes kept peaks capture came reports) = absurd reports
run_known scenario before after status.ReadFault (ToTheEnd outcomes kept peaks capture came reports) = absurd reports
run_known scenario before after status.BadWords (NotToTheEnd fault past next end_is why stops silent) = absurd (no_other fault status.BadWords end_is (λ e. cc) (λ e. cc))
run_known scenario before after status.InputRefused (NotToTheEnd fault past next end_is why stops silent) = absurd (no_other fault status.InputRefused end_is (λ e. cc) (λ e. cc))
run_known scenario before after status.ReadFault (NotToTheEnd fault past next end_is why stops silent) = absurd (no_other fault status.ReadFault end_is (λ e. cc) (λ e. cc))

makes_told : (number : ℕ) (sink sink' trace trace' : Written) (Untouched : Type 0) (after : Ports) (end result : Status) (text : List ℕ) (contents : Contents) → HasEnded end → Comes number trace Untouched after end → after.trace ≡ trace'
    → after.sink.content ≡ Some text → after.inbox.content ≡ Some contents → Sums (summary_text (done_lines 8 text) (length contents.stored) (octets_counted contents.stored)) end sink.content sink'.content (HasRisen sink.shortages sink'.shortages) result
    → Makes number sink sink' trace trace' result
makes_told number sink sink' trace trace' Untouched after end result text contents ended (NotBegun end_is is) traced reported holds sums = absurd (subst HasEnded end_is ended)
makes_told number sink sink' trace trace' Untouched after end result text contents ended (Ran ran) traced reported holds sums =
    let has : HasTold ran.scenario (first_ports number trace) after end text contents.stored = told number trace after end ran.scenario text contents ran.made ended reported holds ran.tells in
    Told after end has.outcomes contents.stored ran has.reported traced
    (subst (λ (done : ℕ). Sums (summary_text done (length contents.stored) (octets_counted contents.stored)) end sink.content sink'.content (HasRisen sink.shortages sink'.shortages) result) has.done sums)

shortly : (end : Status) → IsKnown end → (end ≡ status.Ok → ⊥) → (end ≡ status.SomeFailed → ⊥) → StopsShort end
shortly status.Ok known not_ok not_failed = absurd (not_ok refl)
shortly status.SomeFailed known not_ok not_failed = absurd (not_failed refl)
shortly status.NoMemory known not_ok not_failed = inl refl
shortly status.WriteFault known not_ok not_failed = inr refl
shortly status.BadWords (inl ended) not_ok not_failed = absurd ended
shortly status.BadWords (inr short) not_ok not_failed = short
shortly status.InputRefused (inl ended) not_ok not_failed = absurd ended
shortly status.InputRefused (inr short) not_ok not_failed = short
shortly status.ReadFault (inl ended) not_ok not_failed = absurd ended
shortly status.ReadFault (inr short) not_ok not_failed = short

-- it stops short of an end
pub record EndsShort (number : ℕ) (sink trace trace' : Written) (end : Status) : Type 0 where
  pub makes : Makes number sink sink trace trace' end
  pub short : StopsShort end

stops_short : (number : ℕ) (sink trace trace' : Written) (Untouched : Type 0) (after : Ports) (end : Status) → (end ≡ status.Ok → ⊥) → (end ≡ status.SomeFailed → ⊥) → (Untouched → trace' ≡ trace) → after.trace ≡ trace'
    → Comes number trace Untouched after end → EndsShort number sink trace trace' end
stops_short number sink trace trace' Untouched after end not_ok not_failed still traced (NotBegun end_is is) = record {
  makes = NotMade end_is refl (ap (λ (w : Written). w.content) (still is));
  short = inl end_is;
}
stops_short number sink trace trace' Untouched after end not_ok not_failed still traced (Ran ran) =
    let short : StopsShort end = shortly end (run_known ran.scenario (first_ports number trace) after end ran.tells) not_ok not_failed in
    record { makes = Stopped after ran short traced refl; short = short }

-- a sink that was not written to
pub quiet : (sink trace trace' : ℕ) (end : Status) → HasCauses 0 0 0 0 trace trace' end → HasCauses 0 0 sink sink trace trace' end
quiet sink trace trace' end causes = record {
  source_stays = omega arith;
  sink_stays = omega arith;
  trace_stays = causes.trace_stays;
  read = causes.read;
  write = λ e. elim (causes.write e) [ inl none ↦ absurd (none_rose none) | inr rose ↦ inr rose ];
  only_read = λ lt. absurd (omega arith);
  only_write = λ lt. absurd (omega arith);
  only_trace = causes.only_trace;
}

-- ---- the ports in code

abbrev ports_from : List ℕ → ℕ → MemoryShelved → MemoryStored → Written → Ports
ports_from report shortages shelf inbox trace = record {
  sink = record { content = Some report; faults = 0; shortages = shortages };
  trace = trace;
  shelf = record { content = Some shelf.objects; faults = shelf.calls.faults; shortages = shelf.calls.shortages; absences = shelf.absences };
  inbox = record { content = Some inbox.contents; faults = inbox.calls.faults; shortages = inbox.calls.shortages };
}

-- ports in memory, with a trace
abbrev pub ports_at : MemoryPorts → Written → Ports
ports_at ports trace = ports_from ports.report.text.items ports.report.shortages ports.shelf ports.inbox trace

ports_are : (number : ℕ) (ports : MemoryPorts) (trace : Written) → AreMade number ports → ports_at ports trace ≡ first_ports number trace
ports_are number ports trace made =
    ap (λ (report : List ℕ). ports_from report ports.report.shortages ports.shelf ports.inbox trace) made.report
    ∙ ap (λ (short : ℕ). ports_from [] short ports.shelf ports.inbox trace) made.report_short
    ∙ ap (λ (shelf : MemoryShelved). ports_from [] 0 shelf ports.inbox trace) made.shelf
    ∙ ap (λ (inbox : MemoryStored). ports_from [] 0 (record { objects = put_first (made_objects number) []; calls = no_calls []; absences = 0 }) inbox trace) made.inbox

ended_so : (end : Status) → (end ≡ status.Ok) ⊎ (end ≡ status.SomeFailed) → HasEnded end
ended_so end (inl e) = subst HasEnded (sym e) tt
ended_so end (inr e) = subst HasEnded (sym e) tt

-- `push` was called with these ports and that trace
pub record IsPushed (number : ℕ) (ports after : MemoryPorts) (trace trace' : Written) (Untouched : Type 0) (end : Status) : Type 0 where
  pub made : AreMade number ports
  pub causes : HasCauses 0 0 0 0 trace.faults trace'.faults end
  pub pushes : Pushes ports.source (Some after.source) (ports_at ports trace) (ports_at after trace') Untouched end

came_of : (number : ℕ) (ports after : MemoryPorts) (trace trace' : Written) (Untouched : Type 0) (end : Status) → IsPushed number ports after trace trace' Untouched end → Comes number trace Untouched (ports_at after trace') end
came_of number ports after trace trace' Untouched end is =
    comes number trace ports.source (Some after.source) (ports_at ports trace) (ports_at after trace') Untouched end is.made.text (ports_are number ports trace is.made) (λ e. none_rose (is.causes.read e)) is.pushes

pub ended_makes : (number : ℕ) (ports after : MemoryPorts) (sink sink' trace trace' : Written) (Untouched : Type 0) (end result : Status) → IsPushed number ports after trace trace' Untouched end → (end ≡ status.Ok) ⊎ (end ≡ status.SomeFailed)
    → Sums (summary_text (done_lines 8 after.report.text.items) (length after.inbox.contents.stored) (octets_counted after.inbox.contents.stored)) end sink.content sink'.content (HasRisen sink.shortages sink'.shortages) result
    → Makes number sink sink' trace trace' result
ended_makes number ports after sink sink' trace trace' Untouched end result is ended sums =
    makes_told number sink sink' trace trace' Untouched (ports_at after trace') end result after.report.text.items after.inbox.contents (ended_so end ended) (came_of number ports after trace trace' Untouched end is) refl refl refl sums

pub short_makes : (number : ℕ) (ports after : MemoryPorts) (sink trace trace' : Written) (Untouched : Type 0) (end : Status) → IsPushed number ports after trace trace' Untouched end → (end ≡ status.Ok → ⊥) → (end ≡ status.SomeFailed → ⊥) → (Untouched → trace' ≡ trace)
    → EndsShort number sink trace trace' end
short_makes number ports after sink trace trace' Untouched end is not_ok not_failed still =
    stops_short number sink trace trace' Untouched (ports_at after trace') end not_ok not_failed still refl (came_of number ports after trace trace' Untouched end is)
