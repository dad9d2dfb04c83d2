-- A push ends as its course does.
use Rattle.std.proofs.Common.{◌≡◌, ℕ, List, Option, Some, None, refl}
use Rattle.push_terms.specs.declared.outcome.Outcome.{Outcome}
use Rattle.push_model.specs.Client.{Client}
use Rattle.push_model.specs.Client as clients
use Rattle.push_model.specs.declared.course.Stage.{Stage}
use Rattle.push_client.specs.Courses.{ends}
use Rattle.push_client.specs.Talking.{placed}
use Rattle.push_client.specs.declared.dialog.Dialog.{Dialog}

ends_by_placed : (cause : Option Outcome) (stage : Stage) (outcome : Outcome) (d : Dialog) (held : List ℕ) (client : Client)
    → clients.ends outcome (placed (record d { course = record { stage = stage; cause = cause } }) held client) ≡ placed (record d { course = ends outcome (record { stage = stage; cause = cause }) }) held client
ends_by_placed None stage outcome d held client = refl
ends_by_placed (Some earlier) stage outcome d held client = refl

pub ends_placed : (outcome : Outcome) (d : Dialog) (held : List ℕ) (client : Client) → clients.ends outcome (placed d held client) ≡ placed (record d { course = ends outcome d.course }) held client
ends_placed outcome d held client = ends_by_placed d.course.cause d.course.stage outcome d held client
