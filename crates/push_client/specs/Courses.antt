-- Where a push is and its first cause, apart from what else a client holds.
use Rattle.std.specs.Prelude.{Option, Some, None}
use Rattle.push_terms.specs.declared.outcome.Outcome.{Outcome}
use Rattle.push_client.specs.declared.course.Course.{Course}
use Rattle.push_model.specs.Causes.{ending_of}
use Rattle.push_model.specs.Client.{at_once, stage_after}

-- the first cause fixes the outcome; whatever fails later breaks the link
abbrev pub ends_by : Option Outcome → Outcome → Course → Course
ends_by None outcome course = record { stage = stage_after (ending_of outcome) course.stage; cause = Some outcome }
ends_by (Some earlier) outcome course = record { stage = at_once course.stage; cause = course.cause }

abbrev pub ends : Outcome → Course → Course
ends outcome course = ends_by course.cause outcome course

abbrev pub ends_if : Option Outcome → Course → Course
ends_if None course = course
ends_if (Some outcome) course = ends outcome course
