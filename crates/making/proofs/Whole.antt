-- A summary of a run that ends well.
use Rattle.std.proofs.Common.{◌≡◌, ℕ, ◌≤◌, List, length, inl, inr, ap, subst, ◌∙◌}
use Rattle.bt_base.specs.Objects.{Object}
use Rattle.bt_base.specs.Streams.{gained}
use Rattle.object_push.specs.push_terms.specs.declared.outcome.Outcome.{Outcome}
use Rattle.push_script.specs.Made.{made_names}
use Rattle.push_script.specs.Reading.{script_of}
use Rattle.btpush_forms.specs.declared.status.Status.{Status}
use Rattle.btpush_forms.specs.declared.status.Status.TheVariants as status
use Rattle.btpush_forms.specs.Ports.{Written}
use Rattle.object_push.specs.Ports.{Ports}
use Rattle.making.specs.Counting.{octets_counted}
use Rattle.making.specs.Laws.{GoodEndsAreWhole}
use Rattle.making.specs.Making.{IsRun, IsReported, first_ports, NotMade, Stopped, Told, summary_of}
use Rattle.making.specs.Outcomes.{done_count}
use Rattle.making.specs.Summary.{summary_text}
use Rattle.making.proofs.Made.{enough, names_are}
use Rattle.making.proofs.Reported.{all_counted}

abbrev pub Wholly : Written → Written → Type 0
Wholly sink sink' = (stored : List Object) × (sink'.content ≡ gained sink.content (summary_text 8 (length stored) (octets_counted stored)))

all_eight : (number : ℕ) (trace : Written) (after : Ports) (outcomes : List Outcome) (stored : List Object) (ran : IsRun number trace after status.Ok) → IsReported ran.scenario (first_ports number trace) after status.Ok outcomes stored → done_count outcomes made_names ≡ 8
all_eight number trace after outcomes stored ran reported =
    let each : length made_names ≤ length outcomes = subst (λ (names : List (List ℕ)). length names ≤ length outcomes) (names_are number (script_of ran.scenario) ran.made) (enough _ _ _ outcomes _ _ _ reported.played) in
    all_counted outcomes made_names reported.ends each

told_wholly : (number : ℕ) (sink sink' trace : Written) (after : Ports) (end : Status) (outcomes : List Outcome) (stored : List Object) (ran : IsRun number trace after end) → status.Ok ≡ end → IsReported ran.scenario (first_ports number trace) after end outcomes stored
    → sink'.content ≡ gained sink.content (summary_of outcomes stored) → Wholly sink sink'
told_wholly number sink sink' trace after status.Ok outcomes stored ran is reported summed =
    (stored, summed ∙ ap (λ (done : ℕ). gained sink.content (summary_text done (length stored) (octets_counted stored))) (all_eight number trace after outcomes stored ran reported))
told_wholly number sink sink' trace after status.SomeFailed outcomes stored ran is reported summed = absurd cc
told_wholly number sink sink' trace after status.BadWords outcomes stored ran is reported summed = absurd cc
told_wholly number sink sink' trace after status.InputRefused outcomes stored ran is reported summed = absurd cc
told_wholly number sink sink' trace after status.ReadFault outcomes stored ran is reported summed = absurd cc
told_wholly number sink sink' trace after status.WriteFault outcomes stored ran is reported summed = absurd cc
told_wholly number sink sink' trace after status.NoMemory outcomes stored ran is reported summed = absurd cc

not_wanting : status.Ok ≡ status.NoMemory → ⊥
not_wanting e = absurd cc

not_failing : status.Ok ≡ status.WriteFault → ⊥
not_failing e = absurd cc

pub whole : GoodEndsAreWhole
whole number sink sink' trace trace' (NotMade is same still) = absurd (not_wanting is)
whole number sink sink' trace trace' (Stopped after ran (inl is) traced same) = absurd (not_wanting is)
whole number sink sink' trace trace' (Stopped after ran (inr is) traced same) = absurd (not_failing is)
whole number sink sink' trace trace' (Told after end outcomes stored ran reported traced sums) = told_wholly number sink sink' trace after end outcomes stored ran sums.0 reported sums.1
