-- A client keeps its transport, and what waits in its multiplexer are replies: so all frames that it sends there go on its own data link connection, or are answers.
use Rattle.std.proofs.Common.{◌≡◌, ℕ, zero, suc, ◌==◌, ◌&&◌, ◌||◌, not, Bool, true, false, cond, List, [], ◌∷◌, ◌++◌, length, drop, Option, Some, None, is_none, is_some, nat_lt, take, Result, Ok, Err, refl, sym, ap, subst, ◌∙◌}
use Rattle.shelf_model.specs.bt_base.specs.declared.ports.PortFault.{PortFault}
use Rattle.shelf_model.specs.bt_base.specs.declared.ports.PortFault.TheVariants as fault
use Rattle.shelf_model.specs.bt_base.specs.declared.settings.Transport.{Transport}
use Rattle.shelf_model.specs.bt_base.specs.declared.settings.Transport.TheVariants.{L2cap, Rfcomm}
use Rattle.shelf_model.specs.push_terms.specs.declared.outcome.Outcome.{Outcome}
use Rattle.shelf_model.specs.push_terms.specs.declared.outcome.Outcome.TheVariants as outcomes
use Rattle.shelf_model.specs.rfcomm_frames.specs.Frames.{PlainFrame}
use Rattle.shelf_model.specs.rfcomm_frames.specs.FrameReading.{is_empty}
use Rattle.shelf_model.specs.rfcomm_model.specs.Hearing.{Up, nothing, opened, bytes, closed, up, hears}
use Rattle.shelf_model.specs.rfcomm_model.specs.Machine.{Mux, new_mux, leaves, is_leaving, is_ready, sends, taken_count}
use Rattle.shelf_model.specs.rfcomm_model.specs.Saying.{Said, next, after_said}
use Rattle.shelf_model.specs.rfcomm_model.proofs.Keeping.{next_keeps}
use Rattle.shelf_model.specs.sdp_elements.specs.declared.target.Target.{Target}
use Rattle.shelf_model.specs.sdp_elements.specs.Targets.{is_service_psm, is_server_channel}
use Rattle.shelf_model.specs.sdp_client.specs.Asking.{is_due, after_resend}
use Rattle.shelf_model.specs.sdp_client.specs.Hearing.{found_at, after_reply}
use Rattle.shelf_model.specs.sdp_client.specs.declared.reason.Found.{Found}
use Rattle.shelf_model.specs.sdp_client.specs.declared.reason.Found.TheVariants.{More, Service, NoService, Refused}
use Rattle.shelf_model.specs.obex_session.specs.declared.client.Answered.{Answered}
use Rattle.shelf_model.specs.obex_session.specs.declared.client.Answered.TheVariants as answer
use Rattle.shelf_model.specs.obex_session.specs.Views.{answer_at, after_at}
use Rattle.push_laws.specs.push_model.specs.declared.closing.CloseCause.{CloseCause}
use Rattle.push_laws.specs.push_model.specs.declared.course.Contact.TheVariants.{Closing}
use Rattle.push_laws.specs.push_model.specs.declared.course.Point.TheVariants.{Due, Asked}
use Rattle.push_laws.specs.push_model.specs.declared.course.Stage.{Stage}
use Rattle.push_laws.specs.push_model.specs.declared.course.Stage.TheVariants.{Rest, Link, SearchChannel, Search, SearchEnd, Features, ObjectChannel, Object, ObjectEnd, LinkEnd, Over}
use Rattle.push_laws.specs.push_model.specs.Causes.{cause_of_link, cause_of_page, cause_of_close, cause_of_mux, cause_of_obex, cause_of_query, small_channel, unawaited_response, unknown_parameters}
use Rattle.push_laws.specs.push_model.specs.Client.{Client, ends, ends_by, ends_if, may_cancel, begun_by}
use Rattle.push_laws.specs.push_model.specs.Streams.{Front, Whole, Partial, Broken, front_of}
use Rattle.push_laws.specs.push_model.specs.Responding.{takes, hears_answer, hears_response, is_object, hears_front, hears_stream, hears_up, is_left, is_success, is_early}
use Rattle.push_laws.specs.push_model.specs.Events as events
use Rattle.push_laws.specs.push_model.specs.Events.{kept_of}
use Rattle.push_laws.specs.push_model.specs.Laws.{Deed, Hears, Asks, Finishes, Cancels, done}
use Rattle.push_laws.specs.push_model.specs.Payloads.{Payload, Octets, Framed}
use Rattle.push_laws.specs.push_model.specs.Steps.{Part, Step, Wait, MakeLink, AskFeatures, OpenChannel, SendSdu, CloseChannel, BreakLink, Ended, NoMemory, Stepped, Made, Ask, Connect, Put, Abort, Disconnect, Close, Nothing, put_count, puts_part, puts_from, puts, leaves_by, puts_or_leaves, requests, sends_direct, asks_direct, filled, said_by, says, sends_muxed, takes_some, asks_through, asks_muxed, goes_muxed, steps_object, tells_end, steps_at, rests, may_ask, next_ask}
use Rattle.push_laws.proofs.Late.{either}
use Rattle.host_laws.specs.Pushing.{Affair, Begins, Does, client_after, client_behind}
use Rattle.host_laws.proofs.MuxReplies.{Replies, GoesOn, SaysSo, SaysAll, hears_replies, sends_replies, leaves_replies, next_says}

-- ---- what hangs on the transport and on the multiplexer alone

module _ (P : Transport → Mux → Type 0) where
  abbrev pub Keeps : Client → Type 0
  Keeps c = P c.transport c.mux

  by_kept : (cause : Option Outcome) (o : Outcome) (c : Client) → Keeps c → Keeps (ends_by cause o c)
  by_kept None o c kept = kept
  by_kept (Some earlier) o c kept = kept

  ends_kept : (o : Outcome) (c : Client) → Keeps c → Keeps (ends o c)
  ends_kept o c kept = by_kept c.cause o c kept

  if_kept : (found : Option Outcome) (c : Client) → Keeps c → Keeps (ends_if found c)
  if_kept None c kept = kept
  if_kept (Some o) c kept = ends_kept o c kept

  -- ---- responses

  takes_kept : (answered : Answered) (c : Client) → Keeps c → Keeps (takes answered c)
  takes_kept answer.Go c kept = kept
  takes_kept answer.Done c kept = ends_kept outcomes.Done c kept
  takes_kept (answer.Refused code) c kept = ends_kept (outcomes.Refused code) c kept
  takes_kept (answer.Bad refusal) c kept = ends_kept (cause_of_obex refusal) c kept
  takes_kept answer.Srmp c kept = ends_kept unknown_parameters c kept

  answer_kept : (answered : Option Answered) (packet : List ℕ) (c : Client) → Keeps c → Keeps (hears_answer answered packet c)
  answer_kept None packet c kept = ends_kept unawaited_response c kept
  answer_kept (Some answered) packet c kept =
      let heard : Client = record c { session = after_at c.session.awaited c.session packet } in
      either Keeps (is_success answered && is_early c) (ends unawaited_response heard) (takes answered heard) (ends_kept unawaited_response heard kept) (takes_kept answered heard kept)

  response_kept : (packet : List ℕ) (c : Client) → Keeps c → Keeps (hears_response packet c)
  response_kept packet c kept = answer_kept (answer_at c.session.awaited c.session packet) packet c kept

  front_kept : (more : List ℕ → Client → Client) → ((rest : List ℕ) (c : Client) → Keeps c → Keeps (more rest c)) → (stream : List ℕ) (front : Front) (c : Client) → Keeps c → Keeps (hears_front more stream front c)
  front_kept more goes stream (Whole packet rest) c kept =
      let heard = hears_response packet (record c { held = [] }) in
      let now : Keeps heard = response_kept packet (record c { held = [] }) kept in
      either Keeps (is_object heard.stage) (more rest heard) heard (goes rest heard now) now
  front_kept more goes stream Partial c kept = kept
  front_kept more goes stream (Broken refusal) c kept = ends_kept (cause_of_obex refusal) (record c { held = [] }) kept

  stream_kept : (count : ℕ) (stream : List ℕ) (c : Client) → Keeps c → Keeps (hears_stream count stream c)
  unfolding hears_stream
  stream_kept zero stream c kept = kept
  stream_kept (suc count) stream c kept = front_kept (λ rest next. hears_stream count rest next) (λ rest next. stream_kept count rest next) stream (front_of c.session.maximum stream) c kept

  up_kept : (news : Up) (c : Client) → Keeps c → Keeps (hears_up news c)
  up_kept nothing c kept = kept
  up_kept opened c kept = kept
  up_kept (bytes octets) c kept = stream_kept (length (c.held ++ octets)) (c.held ++ octets) c kept
  up_kept (closed reason) c kept = either Keeps (is_left c.contact reason) (record c { stage = ObjectEnd Due }) (ends (cause_of_mux reason) c) kept (ends_kept (cause_of_mux reason) c kept)

  -- ---- requests

  made_either : (test : Bool) (a b : Made) → Keeps a.client → Keeps b.client → Keeps (cond test a b).client
  made_either true a b one other = one
  made_either false a b one other = other

  part_kept : (part : Part) (c : Client) (parts : List Part) → Keeps c → Keeps (puts_part part c parts).client
  part_kept (Ok part) c parts kept = kept
  part_kept (Err fault) c parts kept = kept

  from_kept : (parts : List Part) (c : Client) → Keeps c → Keeps (puts_from parts c).client
  from_kept [] c kept = kept
  from_kept (part ∷ parts) c kept = part_kept part c parts kept

  leaves_kept : (ask : Ask) (c : Client) (parts : List Part) → Keeps c → Keeps (leaves_by ask c parts).client
  leaves_kept Connect c parts kept = kept
  leaves_kept Put c parts kept = kept
  leaves_kept Abort c parts kept = kept
  leaves_kept Disconnect c parts kept = kept
  leaves_kept Close c parts kept = kept
  leaves_kept Nothing c parts kept = kept

  or_leaves_kept : (outcome : Result (Unit {0}) PortFault) (put : Made) → Keeps put.client → Keeps (puts_or_leaves outcome put).client
  or_leaves_kept (Ok done) put kept = kept
  or_leaves_kept (Err fault.Failed) put kept = let ended = ends outcomes.ShelfFault put.client in leaves_kept (next_ask ended) ended put.left (ends_kept outcomes.ShelfFault put.client kept)
  or_leaves_kept (Err fault.NoMemory) put kept = kept

  requests_kept : (ask : Ask) (c : Client) (parts : List Part) → Keeps c → Keeps (requests ask c parts).client
  requests_kept Connect c parts kept = kept
  requests_kept Put c parts kept = or_leaves_kept (puts c parts).outcome (puts c parts) (made_either (put_count c == 0) (puts_part (Ok []) c parts) (puts_from parts c) (part_kept (Ok []) c parts kept) (from_kept parts c kept))
  requests_kept Abort c parts kept = kept
  requests_kept Disconnect c parts kept = kept
  requests_kept Close c parts kept = kept
  requests_kept Nothing c parts kept = kept

-- ---- the steps on the channel of its object

-- so it stays with all that is given to a multiplexer, and each frame that that says is so
pub record Speaks (P : Transport → Mux → Type 0) (F : PlainFrame → Type 0) : Type 0 where
  pub fills : (t : Transport) (m : Mux) (octets : List ℕ) → P t m → P t (sends octets m)
  pub speaks : (t : Transport) (m : Mux) (said : Said) → next m ≡ Some said → P t m → P t said.after × F said.frame
  pub shuts : (t : Transport) (m : Mux) → P t m → P t (leaves m)

-- over RFCOMM it is such a frame that is sent, over L2CAP these are octets; and no channel is opened
abbrev pub PayloadIs : (F : PlainFrame → Type 0) → Transport → Payload → Type 0
PayloadIs F t (Octets octets) = t ≡ L2cap
PayloadIs F t (Framed frame) = F frame

abbrev pub StepIs : (F : PlainFrame → Type 0) → Transport → Step → Type 0
StepIs F t Wait = Unit {0}
StepIs F t MakeLink = Unit {0}
StepIs F t AskFeatures = Unit {0}
StepIs F t (OpenChannel psm) = ⊥
StepIs F t (SendSdu psm payload) = PayloadIs F t payload
StepIs F t (CloseChannel psm) = Unit {0}
StepIs F t BreakLink = Unit {0}
StepIs F t (Ended outcome) = Unit {0}
StepIs F t NoMemory = Unit {0}

module _ (P : Transport → Mux → Type 0) (F : PlainFrame → Type 0) (k : Speaks P F) where
  abbrev Goes : Transport → Stepped → Type 0
  Goes t s = Keeps P s.client × StepIs F t s.step

  goes_either : (t : Transport) (test : Bool) (a b : Stepped) → Goes t a → Goes t b → Goes t (cond test a b)
  goes_either t true a b one other = one
  goes_either t false a b one other = other

  -- over L2CAP
  sent_direct : (outcome : Result (Unit {0}) PortFault) (request : Made) → Keeps P request.client → Goes L2cap (sends_direct outcome request)
  sent_direct (Ok done) request kept = (kept, refl)
  sent_direct (Err fault) request kept = (kept, tt)

  direct_goes : (ask : Ask) (c : Client) (parts : List Part) → Keeps P c → Goes L2cap (asks_direct ask c parts)
  direct_goes Close c parts kept = (kept, tt)
  direct_goes Nothing c parts kept = (kept, tt)
  direct_goes Connect c parts kept = sent_direct (requests Connect c parts).outcome (requests Connect c parts) (requests_kept P Connect c parts kept)
  direct_goes Put c parts kept = sent_direct (requests Put c parts).outcome (requests Put c parts) (requests_kept P Put c parts kept)
  direct_goes Abort c parts kept = sent_direct (requests Abort c parts).outcome (requests Abort c parts) (requests_kept P Abort c parts kept)
  direct_goes Disconnect c parts kept = sent_direct (requests Disconnect c parts).outcome (requests Disconnect c parts) (requests_kept P Disconnect c parts kept)

  -- over RFCOMM
  filled_kept : (c : Client) → Keeps P c → Keeps P (filled c)
  filled_kept c kept =
      either (Keeps P) (is_ready c.mux && not (is_empty c.rest)) (record c { mux = sends c.rest c.mux; rest = drop (taken_count (length c.rest) c.mux) c.rest }) c (k.fills c.transport c.mux c.rest kept) kept

  said_goes : (said : Option Said) (c : Client) (parts : List Part) → next c.mux ≡ said → Keeps P c → Goes Rfcomm (said_by said c parts)
  said_goes None c parts is kept = (kept, tt)
  said_goes (Some said) c parts is kept = k.speaks c.transport c.mux said is kept

  says_goes : (c : Client) (parts : List Part) → Keeps P c → Goes Rfcomm (says c parts)
  says_goes c parts kept = let full = filled c in said_goes (next full.mux) full parts refl (filled_kept c kept)

  sent_muxed : (outcome : Result (Unit {0}) PortFault) (request : Made) → Keeps P request.client → Goes Rfcomm (sends_muxed outcome request)
  sent_muxed (Ok done) request kept = says_goes request.client request.left kept
  sent_muxed (Err fault) request kept = (kept, tt)

  through_goes : (ask : Ask) (c : Client) (parts : List Part) → Keeps P c → Goes Rfcomm (asks_through ask c parts)
  through_goes ask c parts kept =
      let request = requests ask (record c { rest = [] }) parts in
      goes_either Rfcomm (takes_some c.mux) (sends_muxed request.outcome request) (rests c parts) (sent_muxed request.outcome request (requests_kept P ask (record c { rest = [] }) parts kept)) (kept, tt)

  muxed_goes : (ask : Ask) (c : Client) (parts : List Part) → Keeps P c → Goes Rfcomm (asks_muxed ask c parts)
  muxed_goes Close c parts kept = says_goes (record c { mux = leaves c.mux; contact = Closing }) parts (k.shuts c.transport c.mux kept)
  muxed_goes Nothing c parts kept = (kept, tt)
  muxed_goes Connect c parts kept = through_goes Connect c parts kept
  muxed_goes Put c parts kept = through_goes Put c parts kept
  muxed_goes Abort c parts kept = through_goes Abort c parts kept
  muxed_goes Disconnect c parts kept = through_goes Disconnect c parts kept

  next_goes : (said : Option Said) (c : Client) (parts : List Part) → next c.mux ≡ said → Keeps P c → Goes Rfcomm (goes_muxed said c parts)
  next_goes None c parts is kept =
      let quiet : Client = record c { frame = None } in goes_either Rfcomm (may_ask quiet) (asks_muxed (next_ask quiet) quiet parts) (rests quiet parts) (muxed_goes (next_ask quiet) quiet parts kept) (kept, tt)
  next_goes (Some said) c parts is kept = said_goes (Some said) c parts is kept

  pub object_goes : (t : Transport) (c : Client) (parts : List Part) → Keeps P c → Goes t (steps_object t c parts)
  object_goes L2cap c parts kept =
      goes_either L2cap (may_ask c) (asks_direct (next_ask c) (record c { rest = [] }) parts) (rests c parts) (direct_goes (next_ask c) (record c { rest = [] }) parts kept) (kept, tt)
  object_goes Rfcomm c parts kept = let full = filled c in next_goes (next full.mux) full parts refl (filled_kept c kept)

-- ---- all that a client hears and does

-- so it is as well of a multiplexer that is begun anew, and with each frame that that hears
pub record Lasts (P : Transport → Mux → Type 0) : Type 0 where
  pub spoken : Speaks P (λ frame. Unit {0})
  pub renewed : (t : Transport) (m : Mux) (dlci own : ℕ) → P t m → P t (new_mux m.role dlci m.largest own m.account.cap)
  pub heard : (t : Transport) (m : Mux) (sdu : List ℕ) → P t m → P t (hears sdu m)

module _ (P : Transport → Mux → Type 0) (k : Lasts P) where
  abbrev K : Client → Type 0
  K c = Keeps P c

  over_kept : (cause : Option Outcome) (o : Outcome) (c : Client) → K c → K (events.over_by cause o c)
  over_kept None o c kept = kept
  over_kept (Some earlier) o c kept = kept

  linked_kept : (stage : Stage) (c : Client) → K c → K (events.linked_at stage c)
  linked_kept (Link Asked) c kept = either K (is_some c.cause) (record c { stage = LinkEnd Due }) (record c { stage = SearchChannel Due }) kept kept
  linked_kept (Link Due) c kept = kept
  linked_kept Rest c kept = kept
  linked_kept (SearchChannel point) c kept = kept
  linked_kept Search c kept = kept
  linked_kept (SearchEnd point) c kept = kept
  linked_kept (Features point) c kept = kept
  linked_kept (ObjectChannel point) c kept = kept
  linked_kept Object c kept = kept
  linked_kept (ObjectEnd point) c kept = kept
  linked_kept (LinkEnd point) c kept = kept
  linked_kept Over c kept = kept

  object_kept : (t : Transport) (mtu : ℕ) (c : Client) → K c → K (events.object_opened t mtu c)
  object_kept L2cap mtu c kept = either K (nat_lt mtu 255) (ends small_channel c) _ (ends_kept P small_channel c kept) kept
  object_kept Rfcomm mtu c kept = k.renewed c.transport c.mux _ _ kept

  opened_kept : (stage : Stage) (psm mtu : ℕ) (c : Client) → K c → K (events.opened_at stage psm mtu c)
  opened_kept (SearchChannel Asked) psm mtu c kept = either K (psm == 0x0001) (record c { stage = Search }) c kept kept
  opened_kept (SearchChannel Due) psm mtu c kept = kept
  opened_kept (ObjectChannel Asked) psm mtu c kept = either K (psm == c.psm) (events.object_opened c.transport mtu c) c (object_kept c.transport mtu c kept) kept
  opened_kept (ObjectChannel Due) psm mtu c kept = kept
  opened_kept Rest psm mtu c kept = kept
  opened_kept (Link point) psm mtu c kept = kept
  opened_kept Search psm mtu c kept = kept
  opened_kept (SearchEnd point) psm mtu c kept = kept
  opened_kept (Features point) psm mtu c kept = kept
  opened_kept Object psm mtu c kept = kept
  opened_kept (ObjectEnd point) psm mtu c kept = kept
  opened_kept (LinkEnd point) psm mtu c kept = kept
  opened_kept Over psm mtu c kept = kept

  left_kept : (cause : Option Outcome) (c : Client) → K c → K (events.search_left cause c)
  left_kept None c kept = kept
  left_kept (Some cause) c kept = kept

  search_kept : (cause : Option Outcome) (c : Client) → K c → K (events.search_closed cause c)
  search_kept None c kept = left_kept c.cause c kept
  search_kept (Some outcome) c kept = ends_kept P outcome c kept

  closed_kept : (stage : Stage) (psm : ℕ) (cause : CloseCause) (c : Client) → K c → K (events.closed_at stage psm cause c)
  closed_kept (SearchChannel Asked) psm cause c kept = either K (psm == 0x0001) (ends_if (cause_of_close cause) c) c (if_kept P (cause_of_close cause) c kept) kept
  closed_kept (SearchChannel Due) psm cause c kept = kept
  closed_kept Search psm cause c kept = either K (psm == 0x0001) (ends_if (cause_of_close cause) c) c (if_kept P (cause_of_close cause) c kept) kept
  closed_kept (SearchEnd point) psm cause c kept = either K (psm == 0x0001) (events.search_closed (cause_of_close cause) c) c (search_kept (cause_of_close cause) c kept) kept
  closed_kept (ObjectChannel Asked) psm cause c kept = either K (psm == c.psm) (ends_if (cause_of_close cause) c) c (if_kept P (cause_of_close cause) c kept) kept
  closed_kept (ObjectChannel Due) psm cause c kept = kept
  closed_kept Object psm cause c kept = either K (psm == c.psm) (ends_if (cause_of_close cause) c) c (if_kept P (cause_of_close cause) c kept) kept
  closed_kept (ObjectEnd point) psm cause c kept = either K (psm == c.psm) (record c { stage = LinkEnd Due }) c kept kept
  closed_kept Rest psm cause c kept = kept
  closed_kept (Link point) psm cause c kept = kept
  closed_kept (Features point) psm cause c kept = kept
  closed_kept (LinkEnd point) psm cause c kept = kept
  closed_kept Over psm cause c kept = kept

  psm_kept : (found : Option ℕ) (c : Client) → K c → K (events.found_psm found c)
  psm_kept None c kept = ends_kept P outcomes.NoService c kept
  psm_kept (Some psm) c kept = kept

  channel_kept : (found : Option ℕ) (c : Client) → K c → K (events.found_channel found c)
  channel_kept None c kept = ends_kept P outcomes.NoService c kept
  channel_kept (Some channel) c kept = kept

  way_kept : (t : Transport) (target : Target) (c : Client) → K c → K (events.found_way t target c)
  way_kept L2cap target c kept = psm_kept (kept_of is_service_psm target.l2cap) c kept
  way_kept Rfcomm target c kept = channel_kept (kept_of is_server_channel target.rfcomm) c kept

  found_kept : (found : Found) (c : Client) → K c → K (events.finds found c)
  found_kept More c kept = kept
  found_kept (Service target) c kept = way_kept c.transport target c kept
  found_kept NoService c kept = ends_kept P outcomes.NoService c kept
  found_kept (Refused reason) c kept = if_kept P (cause_of_query reason) c kept

  heard_kept : (t : Transport) (sdu : List ℕ) (c : Client) → K c → K (events.hears_object t sdu c)
  heard_kept L2cap sdu c kept = response_kept P sdu c kept
  heard_kept Rfcomm sdu c kept = up_kept P (up sdu c.mux) (record c { mux = hears sdu c.mux }) (k.heard c.transport c.mux sdu kept)

  outside_kept : (t : Transport) (c : Client) → K c → K (events.hears_outside t c)
  outside_kept L2cap c kept = ends_kept P unawaited_response c kept
  outside_kept Rfcomm c kept = kept

  sdu_kept : (stage : Stage) (psm : ℕ) (sdu : List ℕ) (c : Client) → K c → K (events.sdu_at stage psm sdu c)
  sdu_kept Search psm sdu c kept = either K (psm == 0x0001) (events.hears_reply sdu c) c (found_kept (found_at c.query sdu) (record c { query = after_reply c.query sdu }) kept) kept
  sdu_kept (ObjectChannel point) psm sdu c kept = either K (psm == c.psm) (events.hears_outside c.transport c) c (outside_kept c.transport c kept) kept
  sdu_kept Object psm sdu c kept = either K (psm == c.psm) (events.hears_object c.transport sdu c) c (heard_kept c.transport sdu c kept) kept
  sdu_kept (ObjectEnd point) psm sdu c kept = either K (psm == c.psm) (events.hears_outside c.transport c) c (outside_kept c.transport c kept) kept
  sdu_kept Rest psm sdu c kept = kept
  sdu_kept (Link point) psm sdu c kept = kept
  sdu_kept (SearchChannel point) psm sdu c kept = kept
  sdu_kept (SearchEnd point) psm sdu c kept = kept
  sdu_kept (Features point) psm sdu c kept = kept
  sdu_kept (LinkEnd point) psm sdu c kept = kept
  sdu_kept Over psm sdu c kept = kept

  timer_kept : (c : Client) → K c → K (events.fires c)
  timer_kept c kept =
      let fired : Client = record c { query = after_resend c.query } in
      either K (events.armed c && not (c.given || is_due c.query)) (cond (c.left == 0) (ends outcomes.RetryLimit c) fired) c (either K (c.left == 0) (ends outcomes.RetryLimit c) fired (ends_kept P outcomes.RetryLimit c kept) kept) kept

  news_kept : (news : events.News) (c : Client) → K c → K (events.hears_news news c)
  news_kept events.LinkUp c kept = linked_kept c.stage c kept
  news_kept (events.LinkDown reason) c kept = either K (events.is_linked c.stage) (events.over (cause_of_link reason) c) c (over_kept c.cause (cause_of_link reason) c kept) kept
  news_kept (events.LinkFailed status) c kept = either K (events.is_paging c.stage) (events.over (cause_of_page status) c) c (over_kept c.cause (cause_of_page status) c kept) kept
  news_kept (events.ChannelOpen psm mtu) c kept = opened_kept c.stage psm mtu c kept
  news_kept (events.ChannelClosed psm cause) c kept = closed_kept c.stage psm cause c kept
  news_kept (events.Sdu psm octets) c kept = sdu_kept c.stage psm octets c kept
  news_kept events.FeaturesTold c kept = either K (events.is_asking_features c.stage) (record c { stage = ObjectChannel Due }) c kept kept
  news_kept events.FeaturesLost c kept = either K (events.is_asking_features c.stage) (ends outcomes.RetryLimit c) c (ends_kept P outcomes.RetryLimit c kept) kept
  news_kept events.Timer c kept = timer_kept c kept

  step_either : (test : Bool) (a b : Stepped) → K a.client → K b.client → K (cond test a b).client
  step_either true a b one other = one
  step_either false a b one other = other

  end_kept : (cause : Option Outcome) (c : Client) (parts : List Part) → K c → K (tells_end cause c parts).client
  end_kept None c parts kept = kept
  end_kept (Some outcome) c parts kept = kept

  at_kept : (stage : Stage) (c : Client) (parts : List Part) → K c → K (steps_at stage c parts).client
  at_kept Search c parts kept = step_either (is_due c.query) _ (rests c parts) kept kept
  at_kept Object c parts kept = (object_goes P (λ frame. Unit {0}) k.spoken c.transport c parts kept).0
  at_kept Over c parts kept = end_kept c.cause c parts kept
  at_kept Rest c parts kept = kept
  at_kept (Link Due) c parts kept = kept
  at_kept (Link Asked) c parts kept = kept
  at_kept (SearchChannel Due) c parts kept = kept
  at_kept (SearchChannel Asked) c parts kept = kept
  at_kept (SearchEnd Due) c parts kept = kept
  at_kept (SearchEnd Asked) c parts kept = kept
  at_kept (Features Due) c parts kept = kept
  at_kept (Features Asked) c parts kept = kept
  at_kept (ObjectChannel Due) c parts kept = kept
  at_kept (ObjectChannel Asked) c parts kept = kept
  at_kept (ObjectEnd Due) c parts kept = kept
  at_kept (ObjectEnd Asked) c parts kept = kept
  at_kept (LinkEnd Due) c parts kept = kept
  at_kept (LinkEnd Asked) c parts kept = kept

  deed_kept : (deed : Deed) (c : Client) → K c → K (done deed c)
  deed_kept (Hears news) c kept = news_kept news c kept
  deed_kept (Asks parts) c kept =
      step_either c.failed (record { client = c; step = NoMemory; left = parts }) (cond c.given (rests c parts) (steps_at c.stage c parts)) kept (step_either c.given (rests c parts) (steps_at c.stage c parts) kept (at_kept c.stage c parts kept))
  deed_kept Finishes c kept = kept
  deed_kept Cancels c kept = either K (may_cancel c) (ends outcomes.Cancelled c) c (ends_kept P outcomes.Cancelled c kept) kept

  begun_kept : (size : Result ℕ PortFault) (name : List ℕ) (c : Client) → K c → K (begun_by size name c)
  begun_kept (Ok size) name c kept = kept
  begun_kept (Err fault.Failed) name c kept = kept
  begun_kept (Err fault.NoMemory) name c kept = kept

  affair_kept : (one : Affair) (c : Client) → K c → K (client_after one c)
  affair_kept (Begins size name) c kept = either K c.failed c (begun_by size name c) kept (begun_kept size name c kept)
  affair_kept (Does deed) c kept = deed_kept deed c kept

  pub affairs_kept : (affairs : List Affair) (c : Client) → K c → K (client_behind affairs c)
  affairs_kept [] c kept = kept
  affairs_kept (one ∷ affairs) c kept = affairs_kept affairs (client_after one c) (affair_kept one c kept)

-- ---- a client over a transport

-- it is over that, and what waits in its multiplexer are replies
abbrev pub Answers : Transport → Transport → Mux → Type 0
Answers transport t m = (t ≡ transport) × Replies m

abbrev pub IsOver : Transport → Client → Type 0
IsOver transport c = Keeps (Answers transport) c

said_replies : (m : Mux) (said : Said) → next m ≡ Some said → Replies m → SaysSo m.dlci said
said_replies m said is so = subst (SaysAll m.dlci) is (next_says m so)

answers_last : (transport : Transport) → Lasts (Answers transport)
answers_last transport = record {
  spoken = record {
    fills = λ t m octets so. (so.0, sends_replies octets m so.1);
    speaks = λ t m said is so. ((so.0, (said_replies m said is so.1).replies), tt);
    shuts = λ t m so. (so.0, leaves_replies m so.1);
  };
  renewed = λ t m dlci own so. (so.0, tt);
  heard = λ t m sdu so. (so.0, hears_replies sdu m so.1);
}

pub stays_over : (transport : Transport) (affairs : List Affair) (c : Client) → IsOver transport c → IsOver transport (client_behind affairs c)
stays_over transport affairs c over = affairs_kept (Answers transport) (answers_last transport) affairs c over

-- ---- the frames that it sends

-- of a multiplexer with that DLCI
abbrev AnswersAt : Transport → ℕ → Transport → Mux → Type 0
AnswersAt transport dlci t m = Answers transport t m × (m.dlci ≡ dlci)

mux_either : (dlci : ℕ) (test : Bool) (a b : Mux) → a.dlci ≡ dlci → b.dlci ≡ dlci → (cond test a b).dlci ≡ dlci
mux_either dlci true a b one other = one
mux_either dlci false a b one other = other

answers_speak : (transport : Transport) (dlci : ℕ) → Speaks (AnswersAt transport dlci) (GoesOn dlci)
answers_speak transport dlci = record {
  fills = λ t m octets so. ((so.0.0, sends_replies octets m so.0.1), mux_either dlci (is_empty m.waiting && nat_lt 0 m.account.held) (record m { waiting = take (taken_count (length octets) m) octets }) m so.1 so.1);
  speaks = λ t m said is so. let says = said_replies m said is so.0.1 in (((so.0.0, says.replies), after m said is so.1), subst (λ n. GoesOn n said.frame) so.1 says.goes);
  shuts = λ t m so. ((so.0.0, leaves_replies m so.0.1), mux_either dlci (is_none m.closed && not (is_leaving m.asks)) _ m so.1 so.1);
}
  where
    after : (m : Mux) (said : Said) → next m ≡ Some said → m.dlci ≡ dlci → said.after.dlci ≡ dlci
    after m said is at = sym (ap (λ (o : Option Said). (after_said o m).dlci) is) ∙ ((next_keeps m).1 ∙ at)

pub object_sends : (transport : Transport) (c : Client) (parts : List Part) → IsOver transport c → StepIs (GoesOn c.mux.dlci) c.transport (steps_object c.transport c parts).step
object_sends transport c parts over = (object_goes (AnswersAt transport c.mux.dlci) (GoesOn c.mux.dlci) (answers_speak transport c.mux.dlci) c.transport c parts (over, refl)).1
