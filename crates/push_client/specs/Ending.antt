-- A push that is over ends without being asked for a step.
use Rattle.std.specs.Prelude.{◌&&◌, ◌||◌, not, Bool, true, false, is_some, if◌then◌else◌}
use Rattle.push_model.specs.declared.course.Stage.{Stage}
use Rattle.push_model.specs.declared.course.Stage.TheVariants.{Rest, Link, SearchChannel, Search, SearchEnd, Features, ObjectChannel, Object, ObjectEnd, LinkEnd, Over}
use Rattle.push_model.specs.Client.{Client}

abbrev pub is_over : Stage → Bool
is_over Rest = false
is_over (Link point) = false
is_over (SearchChannel point) = false
is_over Search = false
is_over (SearchEnd point) = false
is_over (Features point) = false
is_over (ObjectChannel point) = false
is_over Object = false
is_over (ObjectEnd point) = false
is_over (LinkEnd point) = false
is_over Over = true

-- its next step would tell its end
abbrev pub tells_end : Client → Bool
tells_end client = not (client.failed || client.given) && (is_over client.stage && is_some client.cause)

abbrev pub ended : Client → Client
ended client = if tells_end client then record client { stage = Rest } else client
