-- A client that hears the reply of its server alone has nothing more to ask for.
use Rattle.std.proofs.Common.{◌≡◌, true, ap}
use Rattle.request_laws.specs.push_model.specs.declared.course.Stage.{Stage}
use Rattle.request_laws.specs.push_model.specs.declared.course.Stage.TheVariants.{Rest, Link, SearchChannel, Search, SearchEnd, Features, ObjectChannel, Object, ObjectEnd, LinkEnd, Over}
use Rattle.request_laws.specs.push_model.specs.sdp_client.specs.Asking.{Asking}
use Rattle.request_laws.specs.push_laws.proofs.Searching.{IsFirst, is_searching}
use Rattle.blame_laws.specs.AskedOnce.{seeks_service, IsFirstQuestion, RunsAskOnce}
use Rattle.blame_laws.proofs.Runs.{moment-well}

searching : (stage : Stage) → seeks_service stage ≡ true → is_searching stage ≡ true
searching Rest seeks = seeks
searching (Link point) seeks = seeks
searching (SearchChannel point) seeks = seeks
searching Search seeks = seeks
searching (SearchEnd point) seeks = seeks
searching (Features point) seeks = seeks
searching (ObjectChannel point) seeks = seeks
searching Object seeks = seeks
searching (ObjectEnd point) seeks = seeks
searching (LinkEnd point) seeks = seeks
searching Over seeks = seeks

first_question : (query : Asking) → IsFirst query → IsFirstQuestion query
first_question query (stage, is) = record { transaction_is = ap (λ (q : Asking). q.transaction) is; none_joined = ap (λ (q : Asking). q.joined) is; none_behind = ap (λ (q : Asking). q.continuation) is }

pub runs-ask_once : RunsAskOnce
runs-ask_once scenario content happenings world happened seeks =
    let client = world.a.upper.profile.client in
    first_question client.query ((moment-well scenario content happenings world happened).1 (searching client.stage seeks))
