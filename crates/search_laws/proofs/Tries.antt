-- Whatever a client does and hears, it has as many tries as its settings say.
use Rattle.std.proofs.Common.{◌≡◌, ℕ, zero, suc, Bool, true, false, not, ◌&&◌, ◌||◌, ◌-◌, ◌==◌, cond, List, [], ◌∷◌, ◌++◌, length, drop, Option, Some, None, Result, Ok, Err, refl, sym, subst, if◌then◌else◌}
use Rattle.std.specs.Prelude.{is_some, nat_lt, min}
use Rattle.cause_laws.specs.bt_base.specs.Objects.{Contents}
use Rattle.cause_laws.specs.bt_base.specs.declared.ports.PortFault.{PortFault}
use Rattle.cause_laws.specs.bt_base.specs.declared.ports.PortFault.TheVariants as fault
use Rattle.cause_laws.specs.bt_base.specs.declared.settings.Settings.{Settings}
use Rattle.cause_laws.specs.bt_base.specs.declared.settings.Transport.{Transport}
use Rattle.cause_laws.specs.bt_base.specs.declared.settings.Transport.TheVariants.{L2cap, Rfcomm}
use Rattle.pair_laws.specs.push_script.specs.declared.scenario.Scenario.{Scenario}
use Rattle.cause_laws.specs.push_terms.specs.declared.outcome.Outcome.{Outcome}
use Rattle.cause_laws.specs.push_terms.specs.declared.outcome.Outcome.TheVariants as outcomes
use Rattle.cause_laws.specs.push_terms.specs.declared.word.Side.TheVariants.{A, B}
use Rattle.cause_laws.specs.push_terms.specs.declared.word.Way.TheVariants.{Ab, Ba}
use Rattle.cause_laws.specs.acl_fragments.specs.Pieces.{Piece}
use Rattle.cause_laws.specs.channel_model.specs.declared.event.ChannelEvent.{ChannelEvent}
use Rattle.cause_laws.specs.channel_model.specs.declared.event.ChannelEvent.TheVariants.{Opened, Closed, Features as Told_features, FeaturesLost, DisconnectLost}
use Rattle.cause_laws.specs.channel_model.specs.Calls.{peer_mtu, waits, sends}
use Rattle.cause_laws.specs.channel_model.specs.Value.{Channels}
use Rattle.cause_laws.specs.sdp_client.specs.declared.reason.Found.{Found}
use Rattle.cause_laws.specs.sdp_client.specs.declared.reason.Found.TheVariants as found
use Rattle.cause_laws.specs.sdp_client.specs.Asking.{is_due, after_request, after_resend, request_octets}
use Rattle.cause_laws.specs.sdp_client.specs.Hearing.{found_at, after_reply}
use Rattle.cause_laws.specs.sdp_elements.specs.declared.target.Target.{Target}
use Rattle.cause_laws.specs.sdp_elements.specs.Targets.{is_service_psm, is_server_channel}
use Rattle.cause_laws.specs.push_model.specs.declared.closing.CloseCause.{CloseCause}
use Rattle.cause_laws.specs.push_model.specs.declared.course.Contact.TheVariants.{Closing}
use Rattle.cause_laws.specs.push_model.specs.declared.course.Point.TheVariants.{Due, Asked}
use Rattle.cause_laws.specs.push_model.specs.declared.course.Stage.{Stage}
use Rattle.cause_laws.specs.push_model.specs.declared.course.Stage.TheVariants as stages
use Rattle.cause_laws.specs.push_model.specs.rfcomm_frames.specs.FrameReading.{is_empty}
use Rattle.cause_laws.specs.push_model.specs.rfcomm_model.specs.Hearing.{Up, nothing, opened, bytes, closed, up, hears}
use Rattle.cause_laws.specs.push_model.specs.rfcomm_model.specs.Machine.{leaves, is_ready, sends as fills, taken_count}
use Rattle.cause_laws.specs.push_model.specs.rfcomm_model.specs.Saying.{Said, next as next_said}
use Rattle.cause_laws.specs.push_model.specs.obex_session.specs.declared.client.Answered.{Answered}
use Rattle.cause_laws.specs.push_model.specs.obex_session.specs.declared.client.Answered.TheVariants as answer
use Rattle.cause_laws.specs.push_model.specs.obex_session.specs.Views.{answer_at, after_at}
use Rattle.cause_laws.specs.push_model.specs.Causes.{cause_of_link, cause_of_page, cause_of_close, cause_of_mux, cause_of_obex, cause_of_query, small_channel, unawaited_response, unknown_parameters}
use Rattle.cause_laws.specs.push_model.specs.Client.{Client, ends, ends_by, ends_if, may_cancel, cancelled, begins, begun_by}
use Rattle.cause_laws.specs.push_model.specs.Events as events
use Rattle.cause_laws.specs.push_model.specs.Events.{is_linked, is_paging, is_asking_features, search_psm, over, over_by, linked_at, object_opened, opened_at, search_left, search_closed, closed_at, kept_of, found_psm, found_channel, found_way, finds, hears_reply, hears_outside, hears_object, sdu_at, armed}
use Rattle.cause_laws.specs.push_model.specs.Payloads.{Payload, Octets}
use Rattle.cause_laws.specs.push_model.specs.Responding.{takes as takes_answer, hears_answer, hears_response, is_object, hears_front, hears_stream, hears_up, is_left, is_success, is_early}
use Rattle.cause_laws.specs.push_model.specs.Streams.{Front, Whole, Partial, Broken, front_of}
use Rattle.cause_laws.specs.push_model.specs.Steps as course
use Rattle.cause_laws.specs.push_model.specs.Steps.{Part, Step, Wait, MakeLink, AskFeatures, OpenChannel, SendSdu, CloseChannel, BreakLink, Ended, NoMemory, Stepped, Made, Ask, Connect, Put, Abort, Disconnect, Close, Nothing, put_count, puts_part, puts_from, puts, leaves_by, puts_or_leaves, requests, sends_direct, asks_direct, filled, said_by, says, sends_muxed, takes_some, asks_through, asks_muxed, goes_muxed, steps_object, steps, steps_at, steps_search, tells_end, rests, may_ask, next_ask}
use Rattle.cause_laws.specs.radio_model.specs.declared.deed.Deed.TheVariants as deeds
use Rattle.cause_laws.specs.radio_model.specs.declared.deed.Deed.{Deed}
use Rattle.cause_laws.specs.radio_model.specs.Radio.{found as found_deed}
use Rattle.cause_laws.specs.world_model.specs.Machines.{News, LinkEvent, Linked, Up as Rises, Down, Failed, Heard, TimerFired, Cancelled, Opening, Upper}
use Rattle.cause_laws.specs.world_model.specs.Stations.{Station, Effort, Taking, Putting, Asking, Leaving, Commanding, MakesEffort, is_handle, longest_pdu, gives, holds, hears_each, hears_piece, upper_told, event_in, told}
use Rattle.cause_laws.specs.world_model.specs.Worlds.{Happening, Tries, Departure, GivingBack, Piecemeal, Answering, Turns, Misses, Opens, Closes, Acts, Does, Runs}
use Rattle.cause_laws.specs.host_model.specs.Circumstances.{Circumstance}
use Rattle.cause_laws.specs.host_model.specs.Clients as profile
use Rattle.cause_laws.specs.host_model.specs.Clients.{ClientProfile, client_profile, NoBid, cause_of, closed_by, opened_by, event_heard, after_end, ended, after_call, calls, takes, submits, sent_on, fitted}
use Rattle.cause_laws.specs.host_model.specs.Endpoints.{endpoint_of, takes_sdu}
use Rattle.cause_laws.specs.host_model.specs.Hosts.{Host, hear, next}
use Rattle.cause_laws.specs.host_model.specs.Pdus.{sdu_of}
use Rattle.cause_laws.specs.host_model.specs.Shelves.{size_for, name_for, unused}
use Rattle.cause_laws.specs.host_model.proofs.Keeping.{Keeps, KeepsNews, hears_on, goes_next}
use Rattle.cause_laws.specs.scenario_laws.specs.Captures.{client_of, server_of, BothHosts, beginning}
use Rattle.search_laws.specs.Searches.{TriesStay}

module _ (n : ℕ) where
  abbrev Has : Client → Type 0
  Has c = c.tries ≡ n

  either : (test : Bool) (c d : Client) → Has c → Has d → Has (cond test c d)
  either true c d x y = x
  either false c d x y = y

  -- ---- it ends

  ends_has : (outcome : Outcome) (c : Client) → Has c → Has (ends outcome c)
  ends_has outcome c has = by c.cause
    where
      by : (cause : Option Outcome) → Has (ends_by cause outcome c)
      by None = has
      by (Some earlier) = has

  ends_if_has : (cause : Option Outcome) (c : Client) → Has c → Has (ends_if cause c)
  ends_if_has None c has = has
  ends_if_has (Some outcome) c has = ends_has outcome c has

  over_has : (outcome : Outcome) (c : Client) → Has c → Has (over outcome c)
  over_has outcome c has = by c.cause
    where
      by : (cause : Option Outcome) → Has (over_by cause outcome c)
      by None = has
      by (Some earlier) = has

  -- ---- its link and its channels

  linked_has : (stage : Stage) (c : Client) → Has c → Has (linked_at stage c)
  linked_has (stages.Link Asked) c has = either (is_some c.cause) (record c { stage = stages.LinkEnd Due }) (record c { stage = stages.SearchChannel Due }) has has
  linked_has stages.Rest c has = has
  linked_has (stages.Link Due) c has = has
  linked_has (stages.SearchChannel point) c has = has
  linked_has stages.Search c has = has
  linked_has (stages.SearchEnd point) c has = has
  linked_has (stages.Features point) c has = has
  linked_has (stages.ObjectChannel point) c has = has
  linked_has stages.Object c has = has
  linked_has (stages.ObjectEnd point) c has = has
  linked_has (stages.LinkEnd point) c has = has
  linked_has stages.Over c has = has

  object_has : (transport : Transport) (mtu : ℕ) (c : Client) → Has c → Has (object_opened transport mtu c)
  object_has L2cap mtu c has = either (nat_lt mtu 255) (ends small_channel c) (record c { stage = stages.Object; limit = min mtu 32767 }) (ends_has small_channel c has) has
  object_has Rfcomm mtu c has = has

  opened_has : (stage : Stage) (psm mtu : ℕ) (c : Client) → Has c → Has (opened_at stage psm mtu c)
  opened_has (stages.SearchChannel Asked) psm mtu c has = either (psm == search_psm) (record c { stage = stages.Search }) c has has
  opened_has (stages.ObjectChannel Asked) psm mtu c has = either (psm == c.psm) (object_opened c.transport mtu c) c (object_has c.transport mtu c has) has
  opened_has stages.Rest psm mtu c has = has
  opened_has (stages.Link point) psm mtu c has = has
  opened_has (stages.SearchChannel Due) psm mtu c has = has
  opened_has stages.Search psm mtu c has = has
  opened_has (stages.SearchEnd point) psm mtu c has = has
  opened_has (stages.Features point) psm mtu c has = has
  opened_has (stages.ObjectChannel Due) psm mtu c has = has
  opened_has stages.Object psm mtu c has = has
  opened_has (stages.ObjectEnd point) psm mtu c has = has
  opened_has (stages.LinkEnd point) psm mtu c has = has
  opened_has stages.Over psm mtu c has = has

  search_has : (cause : Option Outcome) (c : Client) → Has c → Has (search_closed cause c)
  search_has None c has = by c.cause
    where
      by : (cause : Option Outcome) → Has (search_left cause c)
      by None = has
      by (Some outcome) = has
  search_has (Some outcome) c has = ends_has outcome c has

  closed_has : (stage : Stage) (psm : ℕ) (cause : CloseCause) (c : Client) → Has c → Has (closed_at stage psm cause c)
  closed_has (stages.SearchChannel Asked) psm cause c has = either (psm == search_psm) (ends_if (cause_of_close cause) c) c (ends_if_has (cause_of_close cause) c has) has
  closed_has stages.Search psm cause c has = either (psm == search_psm) (ends_if (cause_of_close cause) c) c (ends_if_has (cause_of_close cause) c has) has
  closed_has (stages.SearchEnd point) psm cause c has = either (psm == search_psm) (search_closed (cause_of_close cause) c) c (search_has (cause_of_close cause) c has) has
  closed_has (stages.ObjectChannel Asked) psm cause c has = either (psm == c.psm) (ends_if (cause_of_close cause) c) c (ends_if_has (cause_of_close cause) c has) has
  closed_has stages.Object psm cause c has = either (psm == c.psm) (ends_if (cause_of_close cause) c) c (ends_if_has (cause_of_close cause) c has) has
  closed_has (stages.ObjectEnd point) psm cause c has = either (psm == c.psm) (record c { stage = stages.LinkEnd Due }) c has has
  closed_has stages.Rest psm cause c has = has
  closed_has (stages.Link point) psm cause c has = has
  closed_has (stages.SearchChannel Due) psm cause c has = has
  closed_has (stages.Features point) psm cause c has = has
  closed_has (stages.ObjectChannel Due) psm cause c has = has
  closed_has (stages.LinkEnd point) psm cause c has = has
  closed_has stages.Over psm cause c has = has

  event_has : (event : ChannelEvent) (v : Channels) (c : Client) → Has c → Has (event_heard event v c)
  event_has (Opened own psm) v c has = by (peer_mtu own v)
    where
      by : (mtu : Option ℕ) → Has (opened_by mtu psm c)
      by None = has
      by (Some mtu) = opened_has c.stage psm mtu c has
  event_has (Closed own psm reason) v c has = by (cause_of reason)
    where
      by : (cause : Option CloseCause) → Has (closed_by cause psm c)
      by None = has
      by (Some cause) = closed_has c.stage psm cause c has
  event_has (Told_features features) v c has = either (is_asking_features c.stage) (record c { stage = stages.ObjectChannel Due }) c has has
  event_has FeaturesLost v c has = either (is_asking_features c.stage) (ends outcomes.RetryLimit c) c (ends_has outcomes.RetryLimit c has) has
  event_has (DisconnectLost own) v c has = has

  -- ---- what it hears

  way_has : (transport : Transport) (target : Target) (c : Client) → Has c → Has (found_way transport target c)
  way_has L2cap target c has = by (kept_of is_service_psm target.l2cap)
    where
      by : (psm : Option ℕ) → Has (found_psm psm c)
      by None = ends_has outcomes.NoService c has
      by (Some psm) = has
  way_has Rfcomm target c has = by (kept_of is_server_channel target.rfcomm)
    where
      by : (channel : Option ℕ) → Has (found_channel channel c)
      by None = ends_has outcomes.NoService c has
      by (Some channel) = has

  finds_has : (what : Found) (c : Client) → Has c → Has (finds what c)
  finds_has found.More c has = has
  finds_has (found.Service target) c has = way_has c.transport target c has
  finds_has found.NoService c has = ends_has outcomes.NoService c has
  finds_has (found.Refused reason) c has = ends_if_has (cause_of_query reason) c has

  takes_has : (answered : Answered) (c : Client) → Has c → Has (takes_answer answered c)
  takes_has answer.Go c has = has
  takes_has answer.Done c has = ends_has outcomes.Done c has
  takes_has (answer.Refused code) c has = ends_has (outcomes.Refused code) c has
  takes_has (answer.Bad refusal) c has = ends_has (cause_of_obex refusal) c has
  takes_has answer.Srmp c has = ends_has unknown_parameters c has

  answer_has : (answered : Option Answered) (packet : List ℕ) (c : Client) → Has c → Has (hears_answer answered packet c)
  answer_has None packet c has = ends_has unawaited_response c has
  answer_has (Some answered) packet c has =
      let heard : Client = record c { session = after_at c.session.awaited c.session packet } in
      either (is_success answered && is_early c) (ends unawaited_response heard) (takes_answer answered heard) (ends_has unawaited_response heard has) (takes_has answered heard has)

  response_has : (packet : List ℕ) (c : Client) → Has c → Has (hears_response packet c)
  response_has packet c has = answer_has (answer_at c.session.awaited c.session packet) packet c has

  front_has : (more : List ℕ → Client → Client) → ((rest : List ℕ) (c : Client) → Has c → Has (more rest c)) → (stream : List ℕ) (front : Front) (c : Client) → Has c → Has (hears_front more stream front c)
  front_has more keeps stream (Whole packet rest) c has =
      let heard = hears_response packet (record c { held = [] }) in
      let kept : Has heard = response_has packet (record c { held = [] }) has in
      either (is_object heard.stage) (more rest heard) heard (keeps rest heard kept) kept
  front_has more keeps stream Partial c has = has
  front_has more keeps stream (Broken refusal) c has = ends_has (cause_of_obex refusal) (record c { held = [] }) has

  stream_has : (count : ℕ) (stream : List ℕ) (c : Client) → Has c → Has (hears_stream count stream c)
  unfolding hears_stream
  stream_has zero stream c has = has
  stream_has (suc count) stream c has = front_has (λ rest next. hears_stream count rest next) (λ rest next. stream_has count rest next) stream (front_of c.session.maximum stream) c has

  up_has : (news : Up) (c : Client) → Has c → Has (hears_up news c)
  up_has nothing c has = has
  up_has opened c has = has
  up_has (bytes octets) c has = stream_has (length (c.held ++ octets)) (c.held ++ octets) c has
  up_has (closed reason) c has = either (is_left c.contact reason) (record c { stage = stages.ObjectEnd Due }) (ends (cause_of_mux reason) c) has (ends_has (cause_of_mux reason) c has)

  heard_has : (t : Transport) (sdu : List ℕ) (c : Client) → Has c → Has (hears_object t sdu c)
  heard_has L2cap sdu c has = response_has sdu c has
  heard_has Rfcomm sdu c has = up_has (up sdu c.mux) (record c { mux = hears sdu c.mux }) has

  outside_has : (transport : Transport) (c : Client) → Has c → Has (hears_outside transport c)
  outside_has L2cap c has = ends_has unawaited_response c has
  outside_has Rfcomm c has = has

  sdu_has : (stage : Stage) (psm : ℕ) (sdu : List ℕ) (c : Client) → Has c → Has (sdu_at stage psm sdu c)
  sdu_has stages.Search psm sdu c has = either (psm == search_psm) (hears_reply sdu c) c (finds_has (found_at c.query sdu) (record c { query = after_reply c.query sdu }) has) has
  sdu_has (stages.ObjectChannel point) psm sdu c has = either (psm == c.psm) (hears_outside c.transport c) c (outside_has c.transport c has) has
  sdu_has stages.Object psm sdu c has = either (psm == c.psm) (hears_object c.transport sdu c) c (heard_has c.transport sdu c has) has
  sdu_has (stages.ObjectEnd point) psm sdu c has = either (psm == c.psm) (hears_outside c.transport c) c (outside_has c.transport c has) has
  sdu_has stages.Rest psm sdu c has = has
  sdu_has (stages.Link point) psm sdu c has = has
  sdu_has (stages.SearchChannel point) psm sdu c has = has
  sdu_has (stages.SearchEnd point) psm sdu c has = has
  sdu_has (stages.Features point) psm sdu c has = has
  sdu_has (stages.LinkEnd point) psm sdu c has = has
  sdu_has stages.Over psm sdu c has = has

  -- ---- its steps

  abbrev Gives : Stepped → Type 0
  Gives s = Has s.client

  gives_either : (test : Bool) (a b : Stepped) → Gives a → Gives b → Gives (cond test a b)
  gives_either true a b x y = x
  gives_either false a b x y = y

  made_either : (test : Bool) (a b : Made) → Has a.client → Has b.client → Has (cond test a b).client
  made_either true a b x y = x
  made_either false a b x y = y

  part_has : (part : Part) (c : Client) (parts : List Part) → Has c → Has (puts_part part c parts).client
  part_has (Ok part) c parts has = has
  part_has (Err fault) c parts has = has

  from_has : (parts : List Part) (c : Client) → Has c → Has (puts_from parts c).client
  from_has [] c has = has
  from_has (part ∷ parts) c has = part_has part c parts has

  puts_has : (c : Client) (parts : List Part) → Has c → Has (puts c parts).client
  puts_has c parts has = made_either (put_count c == 0) (puts_part (Ok []) c parts) (puts_from parts c) (part_has (Ok []) c parts has) (from_has parts c has)

  leaves_has : (ask : Ask) (c : Client) (parts : List Part) → Has c → Has (leaves_by ask c parts).client
  leaves_has Connect c parts has = has
  leaves_has Put c parts has = has
  leaves_has Abort c parts has = has
  leaves_has Disconnect c parts has = has
  leaves_has Close c parts has = has
  leaves_has Nothing c parts has = has

  or_leaves_has : (outcome : Result (Unit {0}) PortFault) (put : Made) → Has put.client → Has (puts_or_leaves outcome put).client
  or_leaves_has (Ok done) put has = has
  or_leaves_has (Err fault.Failed) put has = let ended = ends outcomes.ShelfFault put.client in leaves_has (next_ask ended) ended put.left (ends_has outcomes.ShelfFault put.client has)
  or_leaves_has (Err fault.NoMemory) put has = has

  requests_has : (ask : Ask) (c : Client) (parts : List Part) → Has c → Has (requests ask c parts).client
  requests_has Connect c parts has = has
  requests_has Put c parts has = or_leaves_has (puts c parts).outcome (puts c parts) (puts_has c parts has)
  requests_has Abort c parts has = has
  requests_has Disconnect c parts has = has
  requests_has Close c parts has = has
  requests_has Nothing c parts has = has

  sends_has : (outcome : Result (Unit {0}) PortFault) (request : Made) → Has request.client → Gives (sends_direct outcome request)
  sends_has (Ok done) request has = has
  sends_has (Err fault) request has = has

  direct_has : (ask : Ask) (c : Client) (parts : List Part) → Has c → Gives (asks_direct ask c parts)
  direct_has Close c parts has = has
  direct_has Nothing c parts has = has
  direct_has Connect c parts has = sends_has (requests Connect c parts).outcome (requests Connect c parts) (requests_has Connect c parts has)
  direct_has Put c parts has = sends_has (requests Put c parts).outcome (requests Put c parts) (requests_has Put c parts has)
  direct_has Abort c parts has = sends_has (requests Abort c parts).outcome (requests Abort c parts) (requests_has Abort c parts has)
  direct_has Disconnect c parts has = sends_has (requests Disconnect c parts).outcome (requests Disconnect c parts) (requests_has Disconnect c parts has)

  filled_has : (c : Client) → Has c → Has (filled c)
  filled_has c has = either (is_ready c.mux && not (is_empty c.rest)) (record c { mux = fills c.rest c.mux; rest = drop (taken_count (length c.rest) c.mux) c.rest }) c has has

  said_has : (said : Option Said) (c : Client) (parts : List Part) → Has c → Gives (said_by said c parts)
  said_has None c parts has = has
  said_has (Some said) c parts has = has

  says_has : (c : Client) (parts : List Part) → Has c → Gives (says c parts)
  says_has c parts has = let full = filled c in said_has (next_said full.mux) full parts (filled_has c has)

  sent_muxed_has : (outcome : Result (Unit {0}) PortFault) (request : Made) → Has request.client → Gives (sends_muxed outcome request)
  sent_muxed_has (Ok done) request has = says_has request.client request.left has
  sent_muxed_has (Err fault) request has = has

  through_has : (ask : Ask) (c : Client) (parts : List Part) → Has c → Gives (asks_through ask c parts)
  through_has ask c parts has =
      let request = requests ask (record c { rest = [] }) parts in
      gives_either (takes_some c.mux) (sends_muxed request.outcome request) (rests c parts) (sent_muxed_has request.outcome request (requests_has ask (record c { rest = [] }) parts has)) has

  muxed_has : (ask : Ask) (c : Client) (parts : List Part) → Has c → Gives (asks_muxed ask c parts)
  muxed_has Close c parts has = says_has (record c { mux = leaves c.mux; contact = Closing }) parts has
  muxed_has Nothing c parts has = has
  muxed_has Connect c parts has = through_has Connect c parts has
  muxed_has Put c parts has = through_has Put c parts has
  muxed_has Abort c parts has = through_has Abort c parts has
  muxed_has Disconnect c parts has = through_has Disconnect c parts has

  goes_has : (said : Option Said) (c : Client) (parts : List Part) → Has c → Gives (goes_muxed said c parts)
  goes_has None c parts has =
      let quiet : Client = record c { frame = None } in gives_either (may_ask quiet) (asks_muxed (next_ask quiet) quiet parts) (rests quiet parts) (muxed_has (next_ask quiet) quiet parts has) has
  goes_has (Some said) c parts has = said_has (Some said) c parts has

  steps_object_has : (t : Transport) (c : Client) (parts : List Part) → Has c → Gives (steps_object t c parts)
  steps_object_has L2cap c parts has = gives_either (may_ask c) (asks_direct (next_ask c) (record c { rest = [] }) parts) (rests c parts) (direct_has (next_ask c) (record c { rest = [] }) parts has) has
  steps_object_has Rfcomm c parts has = let full = filled c in goes_has (next_said full.mux) full parts (filled_has c has)

  told_has : (cause : Option Outcome) (c : Client) (parts : List Part) → Has c → Gives (tells_end cause c parts)
  told_has None c parts has = has
  told_has (Some outcome) c parts has = has

  stage_has : (stage : Stage) (c : Client) (parts : List Part) → Has c → Gives (steps_at stage c parts)
  stage_has stages.Rest c parts has = has
  stage_has (stages.Link Due) c parts has = has
  stage_has (stages.Link Asked) c parts has = has
  stage_has (stages.SearchChannel Due) c parts has = has
  stage_has (stages.SearchChannel Asked) c parts has = has
  stage_has stages.Search c parts has =
      gives_either (is_due c.query) (course.sends_sdu search_psm (Octets (request_octets c.query)) (record c { query = after_request c.query; left = c.left - 1; rest = request_octets c.query }) parts) (rests c parts) has has
  stage_has (stages.SearchEnd Due) c parts has = has
  stage_has (stages.SearchEnd Asked) c parts has = has
  stage_has (stages.Features Due) c parts has = has
  stage_has (stages.Features Asked) c parts has = has
  stage_has (stages.ObjectChannel Due) c parts has = has
  stage_has (stages.ObjectChannel Asked) c parts has = has
  stage_has stages.Object c parts has = steps_object_has c.transport c parts has
  stage_has (stages.ObjectEnd Due) c parts has = has
  stage_has (stages.ObjectEnd Asked) c parts has = has
  stage_has (stages.LinkEnd Due) c parts has = has
  stage_has (stages.LinkEnd Asked) c parts has = has
  stage_has stages.Over c parts has = told_has c.cause c parts has

  asks_has : (c : Client) (parts : List Part) → Has c → Gives (steps c parts)
  asks_has c parts has =
      gives_either c.failed (record { client = c; step = NoMemory; left = parts }) (cond c.given (rests c parts) (steps_at c.stage c parts)) has (gives_either c.given (rests c parts) (steps_at c.stage c parts) has (stage_has c.stage c parts has))

  -- ---- what it is told

  timer_has : (c : Client) → Has c → Has (events.fires c)
  timer_has c has =
      let again : Client = record c { query = after_resend c.query } in
      either (armed c && not (c.given || is_due c.query)) (cond (c.left == 0) (ends outcomes.RetryLimit c) again) c (either (c.left == 0) (ends outcomes.RetryLimit c) again (ends_has outcomes.RetryLimit c has) has) has

  begins_has : (size : Result ℕ PortFault) (name : List ℕ) (c : Client) → Has c → Has (begins size name c)
  begins_has size name c has = either c.failed c (begun_by size name c) has (by size)
    where
      by : (size : Result ℕ PortFault) → Has (begun_by size name c)
      by (Ok count) = has
      by (Err fault.Failed) = has
      by (Err fault.NoMemory) = has

  ended_has : (c : Client) → Has c → Has (ended c)
  ended_has c has = by (steps c []).step
    where
      by : (step : Step) → Has (after_end step (steps c []).client c)
      by (Ended outcome) = asks_has c [] has
      by Wait = has
      by MakeLink = has
      by AskFeatures = has
      by (OpenChannel psm) = has
      by (SendSdu psm payload) = has
      by (CloseChannel psm) = has
      by BreakLink = has
      by NoMemory = has

  calls_has : (p : ClientProfile) → Has p.client → Has (calls p).client
  calls_has p has = by (steps p.client []).step
    where
      by : (step : Step) → Has (after_call step (steps p.client []).client p).client
      by MakeLink = asks_has p.client [] has
      by (Ended outcome) = has
      by Wait = has
      by AskFeatures = has
      by (OpenChannel psm) = has
      by (SendSdu psm payload) = has
      by (CloseChannel psm) = has
      by BreakLink = has
      by NoMemory = has

  sent_has : (submitted : Option ℕ) (v : Channels) (p : ClientProfile) → Has p.client → Has (sent_on submitted v p).client
  sent_has None v p has = has
  sent_has (Some own) v p has = by (waits own v)
    where
      by : (waiting : Bool) → Has (cond waiting p (profile.done (record p { submitted = None }))).client
      by true = has
      by false = has

  submits_has : (found : Option ℕ) (payload : Payload) (v : Channels) (p : ClientProfile) → Has p.client → Has (submits found payload v p).profile.client
  submits_has None payload v p has = has
  submits_has (Some own) payload v p has = by (takes_sdu own (sdu_of payload) v)
    where
      by : (taken : Bool) → Has (cond taken (profile.waiting (sends own (sdu_of payload) v) (record p { submitted = Some own })) (profile.waiting v p)).profile.client
      by true = has
      by false = has

  step_has : (step : Step) (v : Channels) (after before : ClientProfile) → Has after.client → Has before.client → Has (takes step v after before).profile.client
  step_has Wait v after before now was = now
  step_has MakeLink v after before now was = was
  step_has AskFeatures v after before now was = now
  step_has (OpenChannel psm) v after before now was = now
  step_has (SendSdu psm payload) v after before now was = submits_has (endpoint_of psm after.endpoints) payload v after now
  step_has (CloseChannel psm) v after before now was = now
  step_has BreakLink v after before now was = now
  step_has (Ended outcome) v after before now was = now
  step_has NoMemory v after before now was = now

  -- ---- its host

  module _ (settings : Settings) where
    abbrev Kept : ClientProfile → Type 0
    Kept p = Has p.client

    pub keeps : Keeps (client_profile settings) (λ (p : ClientProfile). p.client.tries ≡ n)
    keeps = record {
      given = λ circumstances p has. has;
      received = λ own psm sdu p has. sdu_has p.client.stage psm sdu p.client has;
      happened = λ event v p has. event_has event v p.client has;
      sent = λ v p has. sent_has p.submitted v p has;
      steps = λ v p has.
          let one = steps p.client (fitted p) in
          let after : ClientProfile = record p { client = one.client; parts = unused one.left p.parts } in
          step_has one.step v after p (asks_has p.client (fitted p) has) has;
    }

    pub news_has : (news : News) → KeepsNews (client_profile settings) (λ (p : ClientProfile). p.client.tries ≡ n) news
    news_has (Linked Rises) g p has = linked_has p.client.stage p.client has
    news_has (Linked (Down reason)) g p has =
        ended_has (events.hears_news (events.LinkDown reason) p.client) (either (is_linked p.client.stage) (over (cause_of_link reason) p.client) p.client (over_has (cause_of_link reason) p.client has) has)
    news_has (Failed status) g p has =
        ended_has (events.hears_news (events.LinkFailed status) p.client) (either (is_paging p.client.stage) (over (cause_of_page status) p.client) p.client (over_has (cause_of_page status) p.client has) has)
    news_has (Heard pdu) g p has = has
    news_has TimerFired g p has = timer_has p.client has
    news_has Cancelled g p has = ended_has (cancelled p.client) (either (may_cancel p.client) (ends outcomes.Cancelled p.client) p.client (ends_has outcomes.Cancelled p.client has) has)
    news_has (Opening name) g p has =
        let begun : Client = begins (size_for g name) (name_for name) p.client in
        calls_has (record p { client = ended begun; submitted = None; bid = NoBid }) (ended_has begun (begins_has (size_for g name) (name_for name) p.client has))

    hears_has : (g : List Circumstance) (news : News) (host : Host ClientProfile) → Has host.profile.client → Has (hear (client_profile settings) g news host).profile.client
    hears_has g news host has = hears_on (client_profile settings) Kept keeps g news host (news_has news) has

    says_kept : (host : Host ClientProfile) (pdu : List ℕ) (after : Host ClientProfile) → next (client_profile settings) host ≡ Some (pdu, after) → Has host.profile.client → Has after.profile.client
    says_kept host pdu after is has = goes_next (client_profile settings) Kept keeps host pdu after is has

-- ---- along a run

module _ (scenario : Scenario) (content : Option Contents) where
  abbrev U : Upper (Host ClientProfile) Circumstance
  U = client_of scenario

  abbrev n' : ℕ
  n' = scenario.settings.tries

  abbrev HasAll : Station (Host ClientProfile) → Type 0
  HasAll station = station.upper.profile.client.tries ≡ scenario.settings.tries

  abbrev InWorld : BothHosts → Type 0
  InWorld world = world.a.upper.profile.client.tries ≡ scenario.settings.tries

  effort_has : (effort : Effort) (old new : Station (Host ClientProfile)) → MakesEffort U A effort old new → HasAll old → HasAll new
  effort_has Taking old new makes has = subst HasAll (sym makes.new_is) (says_kept n' scenario.settings old.upper makes.pdu makes.after makes.next has)
  effort_has Putting old new makes has = subst HasAll (sym makes.new_is) has
  effort_has Asking old new makes has = subst HasAll (sym makes.new_is) has
  effort_has Leaving old new makes has = subst HasAll (sym makes.new_is) has
  effort_has Commanding old new makes has = subst HasAll (sym makes.new_is) has

  each_has : (g : List Circumstance) (pdus : List (List ℕ)) (host : Host ClientProfile) → host.profile.client.tries ≡ n' → (hears_each U g pdus host).profile.client.tries ≡ n'
  each_has g [] host has = has
  each_has g (pdu ∷ pdus) host has = each_has g pdus (U.hear g (Heard pdu) host) (hears_has n' scenario.settings g (Heard pdu) host has)

  piece_has : (g : List Circumstance) (handle : ℕ) (piece : Piece) (s : Station (Host ClientProfile)) → HasAll s → HasAll (hears_piece U g handle piece s)
  piece_has g handle piece s has = by (is_handle handle s.link)
    where
      by : (here : Bool) → HasAll (if here then (let heard : Station (Host ClientProfile) = record s { upper = hears_each U g (gives longest_pdu s.joining piece) s.upper; joining = holds longest_pdu s.joining piece } in heard) else s)
      by true = each_has g (gives longest_pdu s.joining piece) s.upper has
      by false = has

  link_has : (g : List Circumstance) (event : Option LinkEvent) (host : Host ClientProfile) → host.profile.client.tries ≡ n' → (upper_told U g event host).profile.client.tries ≡ n'
  link_has g None host has = has
  link_has g (Some event) host has = hears_has n' scenario.settings g (Linked event) host has

  acts_has : (deed : Deed) (old mid : BothHosts) → Acts U (server_of scenario content) deed old mid → InWorld old → InWorld mid
  acts_has deeds.Nothing old mid acts has = absurd acts
  acts_has (deeds.Meets Ab fate) old mid acts has = subst InWorld (sym acts) has
  acts_has (deeds.Meets Ba fate) old mid acts has = subst InWorld (sym acts) has
  acts_has (deeds.Fires A) old mid (armed', g, same) has = subst InWorld (sym same) (hears_has n' scenario.settings g TimerFired old.a.upper has)
  acts_has (deeds.Fires B) old mid (armed', h, same) has = subst InWorld (sym same) has
  acts_has deeds.FiresBoth old mid (armed', g, h, same) has = subst InWorld (sym same) (by (U.armed old.a.upper))
    where
      by : (on : Bool) → HasAll (cond on (told U g TimerFired old.a) old.a)
      by true = hears_has n' scenario.settings g TimerFired old.a.upper has
      by false = has
  acts_has deeds.Breaks old mid same has = subst InWorld (sym same) has
  acts_has deeds.Cancels old mid (may, g, same) has = subst InWorld (sym same) (hears_has n' scenario.settings g Cancelled old.a.upper has)

  does_has : (happening : Happening) (old new : BothHosts) → Does U (server_of scenario content) happening old new → InWorld old → InWorld new
  does_has (Tries A effort) old new (station, makes, is) has = subst InWorld (sym is) (effort_has effort old.a station makes has)
  does_has (Tries B effort) old new (station, makes, is) has = subst InWorld (sym is) has
  does_has (Departure A order) old new (rest, first, is) has = subst InWorld (sym is) has
  does_has (Departure B order) old new (rest, first, is) has = subst InWorld (sym is) has
  does_has (GivingBack A) old new is has = subst InWorld (sym is) has
  does_has (GivingBack B) old new is has = subst InWorld (sym is) has
  does_has (Piecemeal A handle piece) old new (rest, first, here, g, is) has = subst InWorld (sym is) (piece_has g handle piece old.a has)
  does_has (Piecemeal B handle piece) old new (rest, first, here, h, is) has = subst InWorld (sym is) has
  does_has (Answering A answer) old new (rest, none, first, g, is) has = subst InWorld (sym is) (link_has g (event_in answer old.a) old.a.upper has)
  does_has (Answering B answer) old new (rest, none, first, h, is) has = subst InWorld (sym is) has
  does_has (Turns ordinal word) old new (rest, is_word, ordinal_is, mid, acts, is) has = subst InWorld (sym is) (acts_has (found_deed word old.radio) old mid acts has)
  does_has (Misses word) old new (rest, none, is) has = subst InWorld (sym is) has
  does_has (Opens push name) old new (idle, next', push_is, g, is) has = subst InWorld (sym is) (hears_has n' scenario.settings g (Opening name) old.a.upper has)
  does_has (Closes push outcome) old new (going, push_is, idle, outcome_is, apart, none_a, none_b, quiet_a, quiet_b, is) has = subst InWorld (sym is) has

  runs_have : (happenings : List Happening) (now new : BothHosts) → Runs U (server_of scenario content) happenings now new → InWorld now → InWorld new
  runs_have [] now new same has = subst InWorld (sym same) has
  runs_have (happening ∷ rest) now new (mid, does, later) has = runs_have rest mid new later (does_has happening now mid does has)

pub tries-stay : TriesStay
tries-stay scenario content happenings world happened = runs_have scenario content happenings (beginning scenario content) world happened refl
