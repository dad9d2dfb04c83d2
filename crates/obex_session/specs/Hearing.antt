-- What the code does for a ruling (this project's own).
use Rattle.std.specs.Prelude.{◌≡◌, ℕ, [], Bool, true, Option, Result, Ok, Err, is_ok, IfOk}
use Rattle.bt_base.specs.Counts.{HasCause}
use Rattle.bt_base.specs.Objects.{Contents, stepped}
use Rattle.bt_base.specs.declared.ports.PortFault.{PortFault}
use Rattle.obex_session.specs.declared.course.Progress.{Progress}
use Rattle.obex_session.specs.declared.course.Progress.TheVariants.{Unnamed}
use Rattle.obex_session.specs.declared.course.Verdict.{Verdict}
use Rattle.obex_session.specs.declared.course.Verdict.TheVariants.{Open, Whole, Ended, PassedOver}
use Rattle.obex_session.specs.InboxCalls.{all_done}
use Rattle.obex_session.specs.Rules.{Ruling, is_under_way}

-- the calls of a ruling were made, with its verdict, or the fault of the one that failed; without calls nothing fails
pub record Heeds (ruling : Ruling) (content content' : Option Contents) (faults faults' shortages shortages' : ℕ) (outcome : Result Verdict PortFault) : Type 0 where
  pub verdict : IfOk outcome (λ v. v ≡ ruling.verdict)
  pub content_is : content' ≡ stepped outcome (all_done ruling.calls) content
  pub cause : HasCause faults faults' shortages shortages' outcome
  pub sure : ruling.calls ≡ [] → is_ok outcome ≡ true

-- what stands of the object then
abbrev pub progress_after : Result Verdict PortFault → Progress
progress_after (Ok (Open progress)) = progress
progress_after (Ok Whole) = Unnamed
progress_after (Ok (Ended code)) = Unnamed
progress_after (Ok (PassedOver final)) = Unnamed
progress_after (Err fault) = Unnamed

abbrev pub is_pending_after : Result Verdict PortFault → Bool
is_pending_after outcome = is_under_way (progress_after outcome)
