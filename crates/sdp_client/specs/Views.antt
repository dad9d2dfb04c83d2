-- A query as those see it that know no names of its stages.
use Rattle.std.specs.Prelude.{Bool, true, false}
use Rattle.sdp_client.specs.declared.query.Stage.{Stage}
use Rattle.sdp_client.specs.declared.query.Stage.TheVariants.{Due, Written, Again, Answered, Refused}
use Rattle.sdp_client.specs.Asking.{Asking}

-- a request was written, and its reply has not come
abbrev pub awaits : Stage → Bool
awaits Due = false
awaits Written = true
awaits Again = true
awaits Answered = false
awaits (Refused reason) = false

abbrev pub is_awaiting : Asking → Bool
is_awaiting asking = awaits asking.stage
