-- What an inbox gained while it was watched.
use Rattle.std.proofs.Common.{ℕ, ◌++◌, length, drop, Option, Some, None, refl, sym, ap, ◌∙◌, List, length-drop}
use Rattle.std.specs.Prelude.{min}
use Rattle.std.proofs.lemmas.List.{take-append-drop}
use Rattle.bt_base.specs.Objects.{Object, Contents}
use Rattle.watched_ports.specs.Gains.{most_kept, Keeps}
use Rattle.object_push.specs.Gains.{Gains, Grows}

pub gained_by : (past : Option Contents) (kept : ℕ) (now : Option Contents) → Keeps past kept now → Gains past kept now
gained_by None kept now keeps = tt
gained_by (Some before) kept None keeps = tt
gained_by (Some before) kept (Some after) keeps =
    let so = keeps before after refl refl in
    record {
      gain = drop (length before.stored) after.stored;
      stored = sym (take-append-drop (length before.stored) after.stored) ∙ ap (λ (front : List Object). front ++ drop (length before.stored) after.stored) so.front;
      counted = so.counted ∙ ap (λ (n : ℕ). min n most_kept) (sym (length-drop (length before.stored) after.stored));
    }

pub grows_by : (past now : Option Contents) → (kept : ℕ) × Keeps past kept now → Grows past now
grows_by past now (kept, keeps) = (kept, gained_by past kept now keeps)
