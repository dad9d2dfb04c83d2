-- That host a asks for its service by one request, of which the answer has one part (Core 5.1, Volume 3 Part B, 4.2 and 4.7).
use Rattle.std.specs.Prelude.{◌≡◌, Bool, true, false, List, [], Option}
use Rattle.request_laws.specs.bt_base.specs.Objects.{Contents}
use Rattle.request_laws.specs.pair_laws.specs.push_script.specs.declared.scenario.Scenario.{Scenario}
use Rattle.request_laws.specs.push_model.specs.declared.course.Stage.{Stage}
use Rattle.request_laws.specs.push_model.specs.declared.course.Stage.TheVariants.{Rest, Link, SearchChannel, Search, SearchEnd, Features, ObjectChannel, Object, ObjectEnd, LinkEnd, Over}
use Rattle.request_laws.specs.push_model.specs.sdp_client.specs.Asking.{Asking}
use Rattle.request_laws.specs.push_model.specs.Client.{Client}
use Rattle.request_laws.specs.world_model.specs.Worlds.{Happening}
use Rattle.request_laws.specs.pair_laws.specs.scenario_laws.specs.Captures.{BothHosts, Happened}

-- the service of a push is sought: its link comes up, the channel to the service records opens, or is open
abbrev pub seeks_service : Stage → Bool
seeks_service Rest = false
seeks_service (Link point) = true
seeks_service (SearchChannel point) = true
seeks_service Search = true
seeks_service (SearchEnd point) = false
seeks_service (Features point) = false
seeks_service (ObjectChannel point) = false
seeks_service Object = false
seeks_service (ObjectEnd point) = false
seeks_service (LinkEnd point) = false
seeks_service Over = false

-- It is the first of its query: no part of an answer came before it, and it asks for none behind one.
pub record IsFirstQuestion (query : Asking) : Type 0 where
  pub transaction_is : query.transaction ≡ 1
  pub none_joined : query.joined ≡ []
  pub none_behind : query.continuation ≡ []

abbrev pub AsksOnce : Client → Type 0
AsksOnce client = seeks_service client.stage ≡ true → IsFirstQuestion client.query

-- So it is of host a at each moment of each run, over either transport, wherever it broke off, whatever its words lose, repeat, cut and damage and its ports answer: the reply
-- that comes to it, however often it asked, is the whole answer.
abbrev pub RunsAskOnce : Type 0
RunsAskOnce = (scenario : Scenario) (content : Option Contents) (happenings : List Happening) (world : BothHosts) → Happened scenario content happenings world → AsksOnce world.a.upper.profile.client
