-- How many steps a push over L2CAP still takes (this project's own; the order of its steps is that of Object Push Profile 1.2, 4.3).
use Rattle.std.specs.Prelude.{ℕ, ◌≡◌, ◌≤◌, ◌+◌, ◌&&◌, not, Bool, true, false, List, [], ◌∷◌, Option, Some, None, is_some, if◌then◌else◌}
use Rattle.bt_base.specs.declared.settings.Transport.TheVariants.{L2cap}
use Rattle.push_terms.specs.declared.outcome.Outcome.{Outcome}
use Rattle.push_model.specs.obex_session.specs.Asking.{Asking}
use Rattle.push_model.specs.obex_session.specs.NextPut.{left_of, room_for, is_waiting}
use Rattle.push_model.specs.obex_session.specs.Views.{is_final_put}
use Rattle.push_model.specs.sdp_client.specs.Asking.{is_due}
use Rattle.push_model.specs.declared.course.Contact.{Contact}
use Rattle.push_model.specs.declared.course.Contact.TheVariants.{Unmet, Met, Left, Closing}
use Rattle.push_model.specs.declared.course.Point.TheVariants.{Due, Asked}
use Rattle.push_model.specs.declared.course.Stage.{Stage}
use Rattle.push_model.specs.declared.course.Stage.TheVariants.{Rest, Link, SearchChannel, Search, SearchEnd, Features, ObjectChannel, Object, ObjectEnd, LinkEnd, Over}
use Rattle.push_model.specs.Client.{Client, with_object}
use Rattle.push_model.specs.Events.{hears_news}
use Rattle.push_model.specs.Laws.{Deed, Hears, Asks, Finishes, Cancels, done, all_done}
use Rattle.push_model.specs.Steps.{Step, Wait, MakeLink, AskFeatures, OpenChannel, SendSdu, CloseChannel, BreakLink, Ended, NoMemory, steps}

-- ---- what is left

-- of its stage and of those behind it, without the requests on channels
abbrev pub stages_left : Stage → ℕ
stages_left Rest = 0
stages_left (Link Due) = 8
stages_left (Link Asked) = 7
stages_left (SearchChannel Due) = 7
stages_left (SearchChannel Asked) = 6
stages_left Search = 6
stages_left (SearchEnd Due) = 6
stages_left (SearchEnd Asked) = 5
stages_left (Features Due) = 5
stages_left (Features Asked) = 4
stages_left (ObjectChannel Due) = 4
stages_left (ObjectChannel Asked) = 3
stages_left Object = 3
stages_left (ObjectEnd Due) = 3
stages_left (ObjectEnd Asked) = 2
stages_left (LinkEnd Due) = 2
stages_left (LinkEnd Asked) = 1
stages_left Over = 1

-- the search has not ended
abbrev pub may_search : Stage → Bool
may_search Rest = false
may_search (Link point) = true
may_search (SearchChannel point) = true
may_search Search = true
may_search (SearchEnd point) = false
may_search (Features point) = false
may_search (ObjectChannel point) = false
may_search Object = false
may_search (ObjectEnd point) = false
may_search (LinkEnd point) = false
may_search Over = false

-- requests may still be made on the channel of the object
abbrev pub may_request : Stage → Bool
may_request Rest = false
may_request (Link point) = true
may_request (SearchChannel point) = true
may_request Search = true
may_request (SearchEnd point) = true
may_request (Features point) = true
may_request (ObjectChannel point) = true
may_request Object = true
may_request (ObjectEnd point) = false
may_request (LinkEnd point) = false
may_request Over = false

-- the final PUT, and before it one for each octet of the object that is left, at most
abbrev pub puts_left : Asking → ℕ → ℕ
puts_left session size = if is_final_put session.awaited then 0 else left_of session size + 1

-- CONNECT, the PUTs, ABORT and DISCONNECT; with a cause, the last two where they are wanted
abbrev pub requests_unmet : Option Outcome → Asking → ℕ → ℕ
requests_unmet None session size = (if is_waiting session.awaited then 0 else 1) + (size + 3)
requests_unmet (Some cause) session size = if is_some session.awaited then 2 else 0

abbrev pub requests_met : Option Outcome → Asking → ℕ → ℕ
requests_met None session size = puts_left session size + 2
requests_met (Some cause) session size = (if is_some session.put then 1 else 0) + 1

abbrev pub requests_left : Contact → Option Outcome → Asking → ℕ → ℕ
requests_left Unmet cause session size = requests_unmet cause session size
requests_left Met cause session size = requests_met cause session size
requests_left Left cause session size = 0
requests_left Closing cause session size = 0

abbrev pub sum_left : Stage → (due : Bool) → (requests : ℕ) → ℕ
sum_left stage due requests = stages_left stage + ((if may_search stage && due then 1 else 0) + (if may_request stage then requests else 0))

-- how many steps its push still takes, the end that it tells included
abbrev pub steps_left : Client → ℕ
steps_left client = sum_left client.stage (is_due client.query) (requests_left client.contact client.cause client.session client.size)

-- ---- steps that are given

abbrev pub count_of : Step → ℕ
count_of Wait = 0
count_of MakeLink = 1
count_of AskFeatures = 1
count_of (OpenChannel psm) = 1
count_of (SendSdu psm payload) = 1
count_of (CloseChannel psm) = 1
count_of BreakLink = 1
count_of (Ended outcome) = 1
count_of NoMemory = 0

abbrev pub steps_by : Deed → Client → ℕ
steps_by (Hears news) client = 0
steps_by (Asks parts) client = count_of (steps client parts).step
steps_by Finishes client = 0
steps_by Cancels client = 0

abbrev pub all_steps : List Deed → Client → ℕ
all_steps [] client = 0
all_steps (deed ∷ deeds) client = steps_by deed client + all_steps deeds (done deed client)

-- by what it hears the question for the service is to be sent anew: a reply that is not the last, or the timer
abbrev pub renewed_by : Deed → Client → ℕ
renewed_by (Hears news) client = if is_due (hears_news news client).query && not (is_due client.query) then 1 else 0
renewed_by (Asks parts) client = 0
renewed_by Finishes client = 0
renewed_by Cancels client = 0

abbrev pub all_renewed : List Deed → Client → ℕ
all_renewed [] client = 0
all_renewed (deed ∷ deeds) client = renewed_by deed client + all_renewed deeds (done deed client)

-- ---- the laws

-- it pushes over L2CAP, and when it is asked, a PUT has room for an octet of the object
abbrev pub MayDo : Deed → Client → Type 0
MayDo (Hears news) client = client.transport ≡ L2cap
MayDo (Asks parts) client = (client.transport ≡ L2cap) × (1 ≤ room_for client.session client.name client.size client.limit)
MayDo Finishes client = Unit {0}
MayDo Cancels client = Unit {0}

abbrev pub AllMayDo : List Deed → Client → Type 0
AllMayDo [] client = Unit {0}
AllMayDo (deed ∷ deeds) client = MayDo deed client × AllMayDo deeds (done deed client)

-- Whatever a client hears and whenever it is asked: each step that it gives lowers the number of those that are left, and nothing raises it but a question for
-- the service that is to be sent anew.
abbrev pub StepsAreFew : Type 0
StepsAreFew = (deeds : List Deed) (client : Client) → AllMayDo deeds client → all_steps deeds client + steps_left (all_done deeds client) ≤ steps_left client + all_renewed deeds client

-- A push begins with thirteen steps, and one more for each octet of its object, at most.
abbrev pub BeginsWithFew : Type 0
BeginsWithFew = (name : List ℕ) (size : ℕ) (client : Client) → steps_left (with_object name size client) ≡ size + 13
