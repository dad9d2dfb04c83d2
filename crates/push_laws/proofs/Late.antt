-- From the channel of its object on a client opens nothing more, and stays with that channel.
use Rattle.std.proofs.Common.{◌≡◌, ℕ, zero, suc, ◌++◌, ◌==◌, ◌&&◌, ◌||◌, not, length, drop, Bool, true, false, List, [], ◌∷◌, Option, Some, None, Result, Ok, Err, is_none, nat_lt, take, refl, sym, ap, ◌∙◌, if◌then◌else◌}
use Rattle.std.proofs.lemmas.Bool.{cond_both}
use Rattle.link_talk.specs.bt_base.specs.declared.ports.PortFault.{PortFault}
use Rattle.link_talk.specs.bt_base.specs.declared.ports.PortFault.TheVariants as fault
use Rattle.link_talk.specs.bt_base.specs.declared.settings.Transport.{Transport}
use Rattle.link_talk.specs.bt_base.specs.declared.settings.Transport.TheVariants.{L2cap, Rfcomm}
use Rattle.link_talk.specs.push_terms.specs.declared.outcome.Outcome.{Outcome}
use Rattle.link_talk.specs.push_terms.specs.declared.outcome.Outcome.TheVariants as outcomes
use Rattle.push_model.specs.rfcomm_frames.specs.FrameReading.{is_empty}
use Rattle.push_model.specs.rfcomm_model.specs.Hearing.{Up, nothing, opened, bytes, closed, up, hears}
use Rattle.push_model.specs.rfcomm_model.specs.declared.state.Asks.TheVariants as mux
use Rattle.push_model.specs.rfcomm_model.specs.declared.state.Command.TheVariants.{LeaveUser}
use Rattle.push_model.specs.rfcomm_model.specs.Machine.{Mux, leaves, is_leaving, is_ready, sends, taken_count}
use Rattle.push_model.specs.rfcomm_model.specs.Saying.{Said, next, after_said}
use Rattle.push_model.specs.rfcomm_model.proofs.Keeping.{hears_keeps, next_keeps}
use Rattle.push_model.specs.sdp_client.specs.Asking.{is_due, after_resend}
use Rattle.push_model.specs.obex_session.specs.declared.client.Answered.{Answered}
use Rattle.push_model.specs.obex_session.specs.declared.client.Answered.TheVariants as answer
use Rattle.push_model.specs.obex_session.specs.Views.{answer_at, after_at}
use Rattle.push_model.specs.declared.closing.CloseCause.{CloseCause}
use Rattle.push_model.specs.declared.course.Contact.TheVariants.{Closing}
use Rattle.push_model.specs.declared.course.Point.{Point}
use Rattle.push_model.specs.declared.course.Point.TheVariants.{Due, Asked}
use Rattle.push_model.specs.declared.course.Stage.{Stage}
use Rattle.push_model.specs.declared.course.Stage.TheVariants.{Rest, Link, SearchChannel, Search, SearchEnd, Features, ObjectChannel, Object, ObjectEnd, LinkEnd, Over}
use Rattle.push_model.specs.Causes.{Ending, InOrder, AtOnce, ending_of, cause_of_link, cause_of_page, cause_of_close, cause_of_mux, cause_of_obex, unawaited_response, unknown_parameters}
use Rattle.push_model.specs.Client.{Client, ends, ends_by, ends_if, may_cancel, in_order, at_once, stage_after}
use Rattle.push_model.specs.Streams.{Front, Whole, Partial, Broken, front_of}
use Rattle.push_model.specs.Responding.{takes, hears_answer, hears_response, is_object, hears_front, hears_stream, hears_up, is_left, is_success, is_early}
use Rattle.push_model.specs.Events as events
use Rattle.push_model.specs.Events.{is_search, search_psm, rfcomm_psm}
use Rattle.push_model.specs.Laws.{Deed, Hears, Asks, Finishes, Cancels, done, all_done}
use Rattle.push_model.specs.Steps as steps
use Rattle.push_model.specs.Steps.{Part, Step, AskFeatures, OpenChannel, NoMemory, Stepped, Made, Ask, Connect, Put, Abort, Disconnect, Close, Nothing, put_count, puts_part, puts_from, puts, leaves_by, failing, puts_or_leaves, requests, sends_direct, asks_direct, filled, said_by, says, sends_muxed, takes_some, asks_through, asks_muxed, goes_muxed, steps_object, steps_search, tells_end, steps_at, sends_sdu, rests, may_ask, next_ask}
use Rattle.push_laws.specs.Opening.{way_in}

-- ---- from the channel of the object on nothing more is opened

pub either : (P : Client → Type 0) (test : Bool) (a b : Client) → P a → P b → P (if test then a else b)
either P true a b x y = x
either P false a b x y = y

abbrev pub IsLate : Stage → Type 0
IsLate Object = Unit {0}
IsLate (ObjectEnd point) = Unit {0}
IsLate (LinkEnd point) = Unit {0}
IsLate Over = Unit {0}
IsLate Rest = Unit {0}
IsLate (Link point) = ⊥
IsLate (SearchChannel point) = ⊥
IsLate Search = ⊥
IsLate (SearchEnd point) = ⊥
IsLate (Features point) = ⊥
IsLate (ObjectChannel point) = ⊥

-- the channel of its object: over RFCOMM the server channel, and the DLCI of the multiplexer
pub record Anchor : Type 0 where
  pub transport : Transport
  pub psm : ℕ
  pub channel : ℕ
  pub dlci : ℕ

abbrev pub anchor_of : Client → Anchor
anchor_of client = record { transport = client.transport; psm = client.psm; channel = client.channel; dlci = client.mux.dlci }

-- it stays there, with the channel that it has
abbrev pub Late : Anchor → Client → Type 0
Late anchor client = IsLate client.stage × (anchor_of client ≡ anchor)

-- what is so of each of these stages
pub by_late : (P : Stage → Type 0) → P Object → ((point : Point) → P (ObjectEnd point)) → ((point : Point) → P (LinkEnd point)) → P Over → P Rest → (stage : Stage) → IsLate stage → P stage
by_late P object leaving ending over rest Object late = object
by_late P object leaving ending over rest (ObjectEnd point) late = leaving point
by_late P object leaving ending over rest (LinkEnd point) late = ending point
by_late P object leaving ending over rest Over late = over
by_late P object leaving ending over rest Rest late = rest
by_late P object leaving ending over rest (Link point) late = absurd late
by_late P object leaving ending over rest (SearchChannel point) late = absurd late
by_late P object leaving ending over rest Search late = absurd late
by_late P object leaving ending over rest (SearchEnd point) late = absurd late
by_late P object leaving ending over rest (Features point) late = absurd late
by_late P object leaving ending over rest (ObjectChannel point) late = absurd late

late_at_once : (stage : Stage) → IsLate stage → IsLate (at_once stage)
late_at_once = by_late (λ s. IsLate (at_once s)) tt (λ point. tt) (λ point. tt) tt tt

late_after : (ending : Ending) (stage : Stage) → IsLate stage → IsLate (stage_after ending stage)
late_after InOrder = by_late (λ s. IsLate (in_order s)) tt (λ point. tt) (λ point. tt) tt tt
late_after AtOnce = late_at_once

-- ---- the multiplexer keeps its DLCI

same_dlci : (client : Client) (dlci : ℕ) → dlci ≡ client.mux.dlci → record { transport = client.transport; psm = client.psm; channel = client.channel; dlci = dlci } ≡ anchor_of client
same_dlci client dlci same = ap (λ (n : ℕ). (let a : Anchor = record { transport = client.transport; psm = client.psm; channel = client.channel; dlci = n } in a)) same

sends_dlci : (octets : List ℕ) (m : Mux) → (sends octets m).dlci ≡ m.dlci
sends_dlci octets m = cond_both (is_empty m.waiting && nat_lt 0 m.account.held) (record m { waiting = take (taken_count (length octets) m) octets }) m (λ (x : Mux). x.dlci ≡ m.dlci) (λ e. refl) (λ e. refl)

leaves_dlci : (m : Mux) → (leaves m).dlci ≡ m.dlci
leaves_dlci m = cond_both (is_none m.closed && not (is_leaving m.asks)) (record m { asks = mux.Due LeaveUser }) m (λ (x : Mux). x.dlci ≡ m.dlci) (λ e. refl) (λ e. refl)

module _ (anchor : Anchor) where
  late_by : (cause : Option Outcome) (o : Outcome) (client : Client) → Late anchor client → Late anchor (ends_by cause o client)
  late_by None o client late = (late_after (ending_of o) client.stage late.0, late.1)
  late_by (Some earlier) o client late = (late_at_once client.stage late.0, late.1)

  late_ends : (o : Outcome) (client : Client) → Late anchor client → Late anchor (ends o client)
  late_ends o client late = late_by client.cause o client late

  takes_late : (answered : Answered) (client : Client) → Late anchor client → Late anchor (takes answered client)
  takes_late answer.Go client late = late
  takes_late answer.Done client late = late_ends outcomes.Done client late
  takes_late (answer.Refused code) client late = late_ends (outcomes.Refused code) client late
  takes_late (answer.Bad refusal) client late = late_ends (cause_of_obex refusal) client late
  takes_late answer.Srmp client late = late_ends unknown_parameters client late

  answer_late : (answered : Option Answered) (packet : List ℕ) (client : Client) → Late anchor client → Late anchor (hears_answer answered packet client)
  answer_late None packet client late = late_ends unawaited_response client late
  answer_late (Some answered) packet client late =
      let heard : Client = record client { session = after_at client.session.awaited client.session packet } in
      either (Late anchor) (is_success answered && is_early client) (ends unawaited_response heard) (takes answered heard) (late_ends unawaited_response heard late) (takes_late answered heard late)

  response_late : (packet : List ℕ) (client : Client) → Late anchor client → Late anchor (hears_response packet client)
  response_late packet client late = answer_late (answer_at client.session.awaited client.session packet) packet client late

  front_late : (more : List ℕ → Client → Client) → ((rest : List ℕ) (client : Client) → Late anchor client → Late anchor (more rest client)) → (stream : List ℕ) (front : Front) (client : Client) → Late anchor client → Late anchor (hears_front more stream front client)
  front_late more keeps stream (Whole packet rest) client late =
      let heard = hears_response packet (record client { held = [] }) in
      let kept : Late anchor heard = response_late packet (record client { held = [] }) late in
      either (Late anchor) (is_object heard.stage) (more rest heard) heard (keeps rest heard kept) kept
  front_late more keeps stream Partial client late = late
  front_late more keeps stream (Broken refusal) client late = late_ends (cause_of_obex refusal) (record client { held = [] }) late

  stream_late : (count : ℕ) (stream : List ℕ) (client : Client) → Late anchor client → Late anchor (hears_stream count stream client)
  unfolding hears_stream
  stream_late zero stream client late = late
  stream_late (suc count) stream client late = front_late (λ rest next. hears_stream count rest next) (λ rest next. stream_late count rest next) stream (front_of client.session.maximum stream) client late

  up_late : (news : Up) (client : Client) → Late anchor client → Late anchor (hears_up news client)
  up_late nothing client late = late
  up_late opened client late = late
  up_late (bytes octets) client late = stream_late (length (client.held ++ octets)) (client.held ++ octets) client late
  up_late (closed reason) client late = either (Late anchor) (is_left client.contact reason) (record client { stage = ObjectEnd Due }) (ends (cause_of_mux reason) client) (tt, late.1) (late_ends (cause_of_mux reason) client late)

  pub object_late : (t : Transport) (sdu : List ℕ) (client : Client) → Late anchor client → Late anchor (events.hears_object t sdu client)
  object_late L2cap sdu client late = response_late sdu client late
  object_late Rfcomm sdu client late = up_late (up sdu client.mux) (record client { mux = hears sdu client.mux }) (late.0, same_dlci client (hears sdu client.mux).dlci (hears_keeps sdu client.mux).1 ∙ late.1)

  -- ---- nor by a step on the channel of the object

  abbrev Quiet : Stepped → Type 0
  Quiet s = Late anchor s.client × (way_in s.step ≡ [])

  quiet_either : (test : Bool) (a b : Stepped) → Quiet a → Quiet b → Quiet (if test then a else b)
  quiet_either true a b x y = x
  quiet_either false a b x y = y

  made_either : (test : Bool) (a b : Made) → Late anchor a.client → Late anchor b.client → Late anchor (if test then a else b).client
  made_either true a b x y = x
  made_either false a b x y = y

  part_late : (part : Part) (client : Client) (parts : List Part) → Late anchor client → Late anchor (puts_part part client parts).client
  part_late (Ok part) client parts late = late
  part_late (Err fault) client parts late = late

  from_late : (parts : List Part) (client : Client) → Late anchor client → Late anchor (puts_from parts client).client
  from_late [] client late = late
  from_late (part ∷ parts) client late = part_late part client parts late

  puts_late : (client : Client) (parts : List Part) → Late anchor client → Late anchor (puts client parts).client
  puts_late client parts late = made_either (put_count client == 0) (puts_part (Ok []) client parts) (puts_from parts client) (part_late (Ok []) client parts late) (from_late parts client late)

  leaves_late : (ask : Ask) (client : Client) (parts : List Part) → Late anchor client → Late anchor (leaves_by ask client parts).client
  leaves_late Connect client parts late = late
  leaves_late Put client parts late = late
  leaves_late Abort client parts late = late
  leaves_late Disconnect client parts late = late
  leaves_late Close client parts late = late
  leaves_late Nothing client parts late = late

  or_leaves_late : (outcome : Result (Unit {0}) PortFault) (put : Made) → Late anchor put.client → Late anchor (puts_or_leaves outcome put).client
  or_leaves_late (Ok done) put late = late
  or_leaves_late (Err fault.Failed) put late = let ended = ends outcomes.ShelfFault put.client in leaves_late (next_ask ended) ended put.left (late_ends outcomes.ShelfFault put.client late)
  or_leaves_late (Err fault.NoMemory) put late = late

  pub requests_late : (ask : Ask) (client : Client) (parts : List Part) → Late anchor client → Late anchor (requests ask client parts).client
  requests_late Connect client parts late = late
  requests_late Put client parts late = or_leaves_late (puts client parts).outcome (puts client parts) (puts_late client parts late)
  requests_late Abort client parts late = late
  requests_late Disconnect client parts late = late
  requests_late Close client parts late = late
  requests_late Nothing client parts late = late

  sends_quiet : (outcome : Result (Unit {0}) PortFault) (request : Made) → Late anchor request.client → Quiet (sends_direct outcome request)
  sends_quiet (Ok done) request late = (late, refl)
  sends_quiet (Err fault) request late = (late, refl)

  direct_quiet : (ask : Ask) (client : Client) (parts : List Part) → Late anchor client → Quiet (asks_direct ask client parts)
  direct_quiet Close client parts late = ((tt, late.1), refl)
  direct_quiet Nothing client parts late = (late, refl)
  direct_quiet Connect client parts late = sends_quiet (requests Connect client parts).outcome (requests Connect client parts) (requests_late Connect client parts late)
  direct_quiet Put client parts late = sends_quiet (requests Put client parts).outcome (requests Put client parts) (requests_late Put client parts late)
  direct_quiet Abort client parts late = sends_quiet (requests Abort client parts).outcome (requests Abort client parts) (requests_late Abort client parts late)
  direct_quiet Disconnect client parts late = sends_quiet (requests Disconnect client parts).outcome (requests Disconnect client parts) (requests_late Disconnect client parts late)

  filled_late : (client : Client) → Late anchor client → Late anchor (filled client)
  filled_late client late =
      either (Late anchor) (is_ready client.mux && not (is_empty client.rest)) (record client { mux = sends client.rest client.mux; rest = drop (taken_count (length client.rest) client.mux) client.rest }) client
      (late.0, same_dlci client (sends client.rest client.mux).dlci (sends_dlci client.rest client.mux) ∙ late.1) late

  said_quiet : (said : Option Said) (client : Client) (parts : List Part) → next client.mux ≡ said → Late anchor client → Quiet (said_by said client parts)
  said_quiet None client parts is late = (late, refl)
  said_quiet (Some said) client parts is late = ((late.0, same_dlci client said.after.dlci (sym (ap (λ (o : Option Said). (after_said o client.mux).dlci) is) ∙ (next_keeps client.mux).1) ∙ late.1), refl)

  says_quiet : (client : Client) (parts : List Part) → Late anchor client → Quiet (says client parts)
  says_quiet client parts late = let full = filled client in said_quiet (next full.mux) full parts refl (filled_late client late)

  sent_quiet : (outcome : Result (Unit {0}) PortFault) (request : Made) → Late anchor request.client → Quiet (sends_muxed outcome request)
  sent_quiet (Ok done) request late = says_quiet request.client request.left late
  sent_quiet (Err fault) request late = (late, refl)

  through_quiet : (ask : Ask) (client : Client) (parts : List Part) → Late anchor client → Quiet (asks_through ask client parts)
  through_quiet ask client parts late =
      let request = requests ask (record client { rest = [] }) parts in
      quiet_either (takes_some client.mux) (sends_muxed request.outcome request) (rests client parts) (sent_quiet request.outcome request (requests_late ask (record client { rest = [] }) parts late)) (late, refl)

  muxed_quiet : (ask : Ask) (client : Client) (parts : List Part) → Late anchor client → Quiet (asks_muxed ask client parts)
  muxed_quiet Close client parts late = says_quiet (record client { mux = leaves client.mux; contact = Closing }) parts (late.0, same_dlci client (leaves client.mux).dlci (leaves_dlci client.mux) ∙ late.1)
  muxed_quiet Nothing client parts late = (late, refl)
  muxed_quiet Connect client parts late = through_quiet Connect client parts late
  muxed_quiet Put client parts late = through_quiet Put client parts late
  muxed_quiet Abort client parts late = through_quiet Abort client parts late
  muxed_quiet Disconnect client parts late = through_quiet Disconnect client parts late

  goes_quiet : (said : Option Said) (client : Client) (parts : List Part) → next client.mux ≡ said → Late anchor client → Quiet (goes_muxed said client parts)
  goes_quiet None client parts is late =
      let quiet : Client = record client { frame = None } in quiet_either (may_ask quiet) (asks_muxed (next_ask quiet) quiet parts) (rests quiet parts) (muxed_quiet (next_ask quiet) quiet parts late) (late, refl)
  goes_quiet (Some said) client parts is late = said_quiet (Some said) client parts is late

  pub object_quiet : (t : Transport) (client : Client) (parts : List Part) → Late anchor client → Quiet (steps_object t client parts)
  object_quiet L2cap client parts late = quiet_either (may_ask client) (asks_direct (next_ask client) (record client { rest = [] }) parts) (rests client parts) (direct_quiet (next_ask client) (record client { rest = [] }) parts late) (late, refl)
  object_quiet Rfcomm client parts late = let full = filled client in goes_quiet (next full.mux) full parts refl (filled_late client late)

  -- ---- all that may happen

  over_late : (cause : Option Outcome) (o : Outcome) (client : Client) → anchor_of client ≡ anchor → Late anchor (events.over_by cause o client)
  over_late None o client is = (tt, is)
  over_late (Some earlier) o client is = (tt, is)

  ends_if_late : (found : Option Outcome) (client : Client) → Late anchor client → Late anchor (ends_if found client)
  ends_if_late None client late = late
  ends_if_late (Some o) client late = late_ends o client late

  outside_late : (t : Transport) (client : Client) → Late anchor client → Late anchor (events.hears_outside t client)
  outside_late L2cap client late = late_ends unawaited_response client late
  outside_late Rfcomm client late = late

  closed_late : (at : ℕ) (cause : CloseCause) (client : Client) → Late anchor client → Late anchor (events.closed_at client.stage at cause client)
  closed_late at cause client late =
      by_late (λ s. Late anchor (events.closed_at s at cause client)) (either (Late anchor) (at == client.psm) (ends_if (cause_of_close cause) client) client (ends_if_late (cause_of_close cause) client late) late)
      (λ point. either (Late anchor) (at == client.psm) (record client { stage = LinkEnd Due }) client (tt, late.1) late) (λ point. late) late late client.stage late.0

  sdu_late : (at : ℕ) (sdu : List ℕ) (client : Client) → Late anchor client → Late anchor (events.sdu_at client.stage at sdu client)
  sdu_late at sdu client late =
      by_late (λ s. Late anchor (events.sdu_at s at sdu client)) (either (Late anchor) (at == client.psm) (events.hears_object client.transport sdu client) client (object_late client.transport sdu client late) late)
      (λ point. either (Late anchor) (at == client.psm) (events.hears_outside client.transport client) client (outside_late client.transport client late) late) (λ point. late) late late client.stage late.0

  fires_late : (client : Client) → Late anchor client → Late anchor (events.fires client)
  fires_late client late =
      let fired : Client = record client { query = after_resend client.query } in
      either (Late anchor) (events.armed client && not (client.given || is_due client.query)) (if client.left == 0 then ends outcomes.RetryLimit client else fired) client
      (either (Late anchor) (client.left == 0) (ends outcomes.RetryLimit client) fired (late_ends outcomes.RetryLimit client late) late) late

  news_late : (news : events.News) (client : Client) → Late anchor client → Late anchor (events.hears_news news client)
  news_late events.LinkUp client late = by_late (λ s. Late anchor (events.linked_at s client)) late (λ point. late) (λ point. late) late late client.stage late.0
  news_late (events.LinkDown reason) client late = either (Late anchor) (events.is_linked client.stage) (events.over (cause_of_link reason) client) client (over_late client.cause (cause_of_link reason) client late.1) late
  news_late (events.LinkFailed status) client late = either (Late anchor) (events.is_paging client.stage) (events.over (cause_of_page status) client) client (over_late client.cause (cause_of_page status) client late.1) late
  news_late (events.ChannelOpen at mtu) client late = by_late (λ s. Late anchor (events.opened_at s at mtu client)) late (λ point. late) (λ point. late) late late client.stage late.0
  news_late (events.ChannelClosed at cause) client late = closed_late at cause client late
  news_late (events.Sdu at octets) client late = sdu_late at octets client late
  news_late events.FeaturesTold client late =
      by_late (λ s. Late anchor (if events.is_asking_features s then record client { stage = ObjectChannel Due } else client)) late (λ point. late) (λ point. late) late late client.stage late.0
  news_late events.FeaturesLost client late = either (Late anchor) (events.is_asking_features client.stage) (ends outcomes.RetryLimit client) client (late_ends outcomes.RetryLimit client late) late
  news_late events.Timer client late = fires_late client late

  tells_late : (cause : Option Outcome) (client : Client) (parts : List Part) → Late anchor client → Late anchor (tells_end cause client parts).client
  tells_late None client parts late = late
  tells_late (Some outcome) client parts late = (tt, late.1)

  leaving_late : (point : Point) (client : Client) (parts : List Part) → Late anchor client → Late anchor (steps_at (ObjectEnd point) client parts).client
  leaving_late Due client parts late = (tt, late.1)
  leaving_late Asked client parts late = late

  ending_late : (point : Point) (client : Client) (parts : List Part) → Late anchor client → Late anchor (steps_at (LinkEnd point) client parts).client
  ending_late Due client parts late = (tt, late.1)
  ending_late Asked client parts late = late

  step_late : (test : Bool) (a b : Stepped) → Late anchor a.client → Late anchor b.client → Late anchor (if test then a else b).client
  step_late true a b x y = x
  step_late false a b x y = y

  steps_late : (client : Client) (parts : List Part) → Late anchor client → Late anchor (steps.steps client parts).client
  steps_late client parts late =
      step_late client.failed (record { client = client; step = NoMemory; left = parts }) (if client.given then rests client parts else steps_at client.stage client parts) late
      (step_late client.given (rests client parts) (steps_at client.stage client parts) late
      (by_late (λ s. Late anchor (steps_at s client parts).client) (object_quiet client.transport client parts late).0 (λ point. leaving_late point client parts late) (λ point. ending_late point client parts late) (tells_late client.cause client parts late) late client.stage late.0))

  deed_late : (deed : Deed) (client : Client) → Late anchor client → Late anchor (done deed client)
  deed_late (Hears news) client late = news_late news client late
  deed_late (Asks parts) client late = steps_late client parts late
  deed_late Finishes client late = late
  deed_late Cancels client late = either (Late anchor) (may_cancel client) (ends outcomes.Cancelled client) client (late_ends outcomes.Cancelled client late) late

  pub all_late : (deeds : List Deed) (client : Client) → Late anchor client → Late anchor (all_done deeds client)
  all_late [] client late = late
  all_late (deed ∷ deeds) client late = all_late deeds (done deed client) (deed_late deed client late)
