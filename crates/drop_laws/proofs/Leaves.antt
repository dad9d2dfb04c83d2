-- A client that closes what it opened has an outcome: it ends its link, and takes leave, only where something ended its push.
use Rattle.std.proofs.Common.{◌≡◌, ℕ, zero, suc, ◌-◌, ◌==◌, ◌&&◌, ◌||◌, not, min, List, [], ◌∷◌, ◌++◌, length, drop, Bool, true, false, Option, Some, None, Result, Ok, Err, refl, sym, ap, ◌∙◌, if◌then◌else◌}
use Rattle.std.specs.Prelude.{is_some, nat_lt}
use Rattle.cause_laws.specs.bt_base.specs.declared.ports.PortFault.{PortFault}
use Rattle.cause_laws.specs.bt_base.specs.declared.ports.PortFault.TheVariants as fault
use Rattle.cause_laws.specs.bt_base.specs.declared.settings.Transport.{Transport}
use Rattle.cause_laws.specs.bt_base.specs.declared.settings.Transport.TheVariants.{L2cap, Rfcomm}
use Rattle.cause_laws.specs.push_terms.specs.declared.outcome.Outcome.{Outcome}
use Rattle.cause_laws.specs.push_terms.specs.declared.outcome.Outcome.TheVariants as outcomes
use Rattle.cause_laws.specs.rfcomm_frames.specs.FrameReading.{is_empty}
use Rattle.cause_laws.specs.rfcomm_model.specs.declared.state.MuxReason.{MuxReason}
use Rattle.cause_laws.specs.rfcomm_model.specs.Hearing as hearing
use Rattle.cause_laws.specs.rfcomm_model.specs.Hearing.{Up, nothing, opened, bytes, closed, up}
use Rattle.cause_laws.specs.rfcomm_model.specs.Machine as mux
use Rattle.cause_laws.specs.rfcomm_model.specs.Machine.{is_ready, sends, taken_count}
use Rattle.cause_laws.specs.rfcomm_model.specs.Saying.{Said, next}
use Rattle.cause_laws.specs.obex_session.specs.declared.client.Answered.{Answered}
use Rattle.cause_laws.specs.obex_session.specs.declared.client.Answered.TheVariants as answers
use Rattle.cause_laws.specs.obex_session.specs.Views.{answer_at, after_at}
use Rattle.cause_laws.specs.sdp_elements.specs.declared.target.Target.{Target}
use Rattle.cause_laws.specs.sdp_elements.specs.Targets.{is_service_psm, is_server_channel}
use Rattle.cause_laws.specs.sdp_client.specs.declared.reason.Found.{Found}
use Rattle.cause_laws.specs.sdp_client.specs.declared.reason.Found.TheVariants.{More, Service, NoService, Refused}
use Rattle.cause_laws.specs.sdp_client.specs.Asking.{is_due, after_resend, after_request, request_octets}
use Rattle.cause_laws.specs.sdp_client.specs.Hearing.{found_at, after_reply}
use Rattle.cause_laws.specs.push_model.specs.declared.closing.CloseCause.{CloseCause}
use Rattle.cause_laws.specs.push_model.specs.declared.course.Contact.{Contact}
use Rattle.cause_laws.specs.push_model.specs.declared.course.Contact.TheVariants.{Unmet, Met, Left, Closing}
use Rattle.cause_laws.specs.push_model.specs.declared.course.Point.TheVariants.{Due, Asked}
use Rattle.cause_laws.specs.push_model.specs.declared.course.Stage.{Stage}
use Rattle.cause_laws.specs.push_model.specs.declared.course.Stage.TheVariants.{Rest, Link, SearchChannel, Search, SearchEnd, Features, ObjectChannel, Object, ObjectEnd, LinkEnd, Over}
use Rattle.cause_laws.specs.push_model.specs.Causes.{cause_of_close, cause_of_link, cause_of_mux, cause_of_obex, cause_of_page, cause_of_query, small_channel, unknown_parameters, unawaited_response}
use Rattle.cause_laws.specs.push_model.specs.Client.{Client, begins, begun_by, ends_by, ends, ends_if, may_cancel, cancelled}
use Rattle.cause_laws.specs.push_model.specs.Events as events
use Rattle.cause_laws.specs.push_model.specs.Events.{News, over_by, over, kept_of, found_psm, found_channel, found_way, finds, hears_reply, hears_outside, hears_object, linked_at, object_opened, opened_at, stage_behind, search_left, search_closed, closed_at, sdu_at, fires, hears_news, is_linked, is_paging, is_asking_features}
use Rattle.cause_laws.specs.push_model.specs.Payloads.{Octets}
use Rattle.cause_laws.specs.push_model.specs.Responding as responding
use Rattle.cause_laws.specs.push_model.specs.Responding.{is_object, is_left, met, hears_answer, hears_response, hears_front, hears_stream, hears_end, hears_up, hears_frame}
use Rattle.cause_laws.specs.push_model.specs.Steps as course
use Rattle.cause_laws.specs.push_model.specs.Steps.{Part, Ask, Connect, Put, Abort, Disconnect, Close, Nothing, Made, Stepped, steps, steps_at, stepped}
use Rattle.cause_laws.specs.push_model.specs.Streams.{Front, Whole, Partial, Broken, front_of}

-- nothing is left but to close
abbrev pub is_ending : Stage → Bool
is_ending Rest = false
is_ending (Link point) = false
is_ending (SearchChannel point) = false
is_ending Search = false
is_ending (SearchEnd point) = false
is_ending (Features point) = false
is_ending (ObjectChannel point) = false
is_ending Object = false
is_ending (ObjectEnd point) = true
is_ending (LinkEnd point) = true
is_ending Over = true

-- it took leave of the server
abbrev has_left : Contact → Bool
has_left Unmet = false
has_left Met = false
has_left Left = true
has_left Closing = true

-- so it does only where it has an outcome
abbrev pub LeavesByCause : Client → Type 0
LeavesByCause c = c.cause ≡ None → (is_ending c.stage ≡ false) × (has_left c.contact ≡ false)

never : {X : Type 0} → true ≡ false → X
never is = absurd cc

has_none : {X : Type 0} (cause : Option Outcome) (outcome : Outcome) → cause ≡ Some outcome → cause ≡ None → X
has_none cause outcome is none = let e : Some outcome ≡ None = sym is ∙ none in absurd cc

l_if : (b : Bool) (c d : Client) → LeavesByCause c → LeavesByCause d → LeavesByCause (if b then c else d)
l_if true c d one other = one
l_if false c d one other = other

l_ends : (outcome : Outcome) (c : Client) → LeavesByCause (ends outcome c)
l_ends outcome c = by c.cause refl
  where
    by : (cause : Option Outcome) → c.cause ≡ cause → LeavesByCause (ends_by cause outcome c)
    by None is = λ none. has_none (Some outcome) outcome refl none
    by (Some earlier) is = λ none. has_none c.cause earlier is none

l_ends_if : (found : Option Outcome) (c : Client) → LeavesByCause c → LeavesByCause (ends_if found c)
l_ends_if None c l = l
l_ends_if (Some outcome) c l = l_ends outcome c

l_over : (outcome : Outcome) (c : Client) → LeavesByCause (over outcome c)
l_over outcome c = by c.cause refl
  where
    by : (cause : Option Outcome) → c.cause ≡ cause → LeavesByCause (over_by cause outcome c)
    by None is = λ none. has_none (Some outcome) outcome refl none
    by (Some earlier) is = λ none. has_none c.cause earlier is none

-- ---- SDUs

met_same : (contact : Contact) → has_left (met contact) ≡ has_left contact
met_same Unmet = refl
met_same Met = refl
met_same Left = refl
met_same Closing = refl

l_takes : (answer : Answered) (c : Client) → LeavesByCause c → LeavesByCause (responding.takes answer c)
l_takes answers.Go c l = λ none. let so = l none in (so.0, met_same c.contact ∙ so.1)
l_takes answers.Done c l = l_ends outcomes.Done c
l_takes (answers.Refused code) c l = l_ends (outcomes.Refused code) c
l_takes (answers.Bad refusal) c l = l_ends (cause_of_obex refusal) c
l_takes answers.Srmp c l = l_ends unknown_parameters c

l_answer : (answer : Option Answered) (packet : List ℕ) (c : Client) → LeavesByCause c → LeavesByCause (hears_answer answer packet c)
l_answer None packet c l = l_ends unawaited_response c
l_answer (Some answer) packet c l =
    let heard : Client = record c { session = after_at c.session.awaited c.session packet } in
    l_if (responding.is_success answer && responding.is_early c) (ends unawaited_response heard) (responding.takes answer heard) (l_ends unawaited_response heard) (l_takes answer heard l)

l_response : (packet : List ℕ) (c : Client) → LeavesByCause c → LeavesByCause (hears_response packet c)
l_response packet c l = l_answer (answer_at c.session.awaited c.session packet) packet c l

l_front : (more : List ℕ → Client → Client) (stream : List ℕ) (front : Front) (c : Client) → ((rest : List ℕ) (d : Client) → LeavesByCause d → LeavesByCause (more rest d)) → LeavesByCause c → LeavesByCause (hears_front more stream front c)
l_front more stream (Whole packet rest) c goes l =
    let held : Client = record c { held = [] } in
    let d = hears_response packet held in
    let there = l_response packet held l in
    l_if (is_object d.stage) (more rest d) d (goes rest d there) there
l_front more stream Partial c goes l = l
l_front more stream (Broken refusal) c goes l = let held : Client = record c { held = [] } in l_ends (cause_of_obex refusal) held

l_stream : (count : ℕ) (stream : List ℕ) (c : Client) → LeavesByCause c → LeavesByCause (hears_stream count stream c)
unfolding hears_stream
l_stream zero stream c l = l
l_stream (suc count) stream c l = l_front (λ rest d. hears_stream count rest d) stream (front_of c.session.maximum stream) c (λ rest d there. l_stream count rest d there) l

-- its own last DISC is answered only where it took leave
left_by : (contact : Contact) (reason : MuxReason) → is_left contact reason ≡ true → has_left contact ≡ true
left_by Unmet reason is = absurd (let e = is in cc)
left_by Met reason is = absurd (let e = is in cc)
left_by Left reason is = refl
left_by Closing reason is = refl

l_end : (reason : MuxReason) (c : Client) → LeavesByCause c → LeavesByCause (hears_end reason c)
l_end reason c l = by (is_left c.contact reason) refl
  where
    by : (test : Bool) → is_left c.contact reason ≡ test → LeavesByCause (if test then record c { stage = ObjectEnd Due } else ends (cause_of_mux reason) c)
    by true is = λ none. never (sym (left_by c.contact reason is) ∙ (l none).1)
    by false is = l_ends (cause_of_mux reason) c

l_frame : (sdu : List ℕ) (c : Client) → LeavesByCause c → LeavesByCause (hears_frame sdu c)
l_frame sdu c l = by (up sdu c.mux)
  where
    heard : Client
    heard = record c { mux = hearing.hears sdu c.mux }

    by : (one : Up) → LeavesByCause (hears_up one heard)
    by nothing = l
    by opened = l
    by (bytes octets) = l_stream (length (c.held ++ octets)) (c.held ++ octets) heard l
    by (closed reason) = l_end reason heard l

l_object : (transport : Transport) (sdu : List ℕ) (c : Client) → LeavesByCause c → LeavesByCause (hears_object transport sdu c)
l_object L2cap sdu c l = l_response sdu c l
l_object Rfcomm sdu c l = l_frame sdu c l

l_outside : (transport : Transport) (c : Client) → LeavesByCause c → LeavesByCause (hears_outside transport c)
l_outside L2cap c l = l_ends unawaited_response c
l_outside Rfcomm c l = l

l_psm : (psm : Option ℕ) (c : Client) → LeavesByCause c → LeavesByCause (found_psm psm c)
l_psm None c l = l_ends outcomes.NoService c
l_psm (Some psm) c l = λ none. (refl, (l none).1)

l_channel : (channel : Option ℕ) (c : Client) → LeavesByCause c → LeavesByCause (found_channel channel c)
l_channel None c l = l_ends outcomes.NoService c
l_channel (Some channel) c l = λ none. (refl, (l none).1)

l_way : (transport : Transport) (target : Target) (c : Client) → LeavesByCause c → LeavesByCause (found_way transport target c)
l_way L2cap target c l = l_psm (kept_of is_service_psm target.l2cap) c l
l_way Rfcomm target c l = l_channel (kept_of is_server_channel target.rfcomm) c l

l_finds : (found : Found) (c : Client) → LeavesByCause c → LeavesByCause (finds found c)
l_finds More c l = l
l_finds (Service target) c l = l_way c.transport target c l
l_finds NoService c l = l_ends outcomes.NoService c
l_finds (Refused reason) c l = l_ends_if (cause_of_query reason) c l

l_sdu : (stage : Stage) (psm : ℕ) (sdu : List ℕ) (c : Client) → LeavesByCause c → LeavesByCause (sdu_at stage psm sdu c)
l_sdu Search psm sdu c l = l_if (psm == 0x0001) (hears_reply sdu c) c (l_finds (found_at c.query sdu) (record c { query = after_reply c.query sdu }) l) l
l_sdu (ObjectChannel point) psm sdu c l = l_if (psm == c.psm) (hears_outside c.transport c) c (l_outside c.transport c l) l
l_sdu Object psm sdu c l = l_if (psm == c.psm) (hears_object c.transport sdu c) c (l_object c.transport sdu c l) l
l_sdu (ObjectEnd point) psm sdu c l = l_if (psm == c.psm) (hears_outside c.transport c) c (l_outside c.transport c l) l
l_sdu Rest psm sdu c l = l
l_sdu (Link point) psm sdu c l = l
l_sdu (SearchChannel point) psm sdu c l = l
l_sdu (SearchEnd point) psm sdu c l = l
l_sdu (Features point) psm sdu c l = l
l_sdu (LinkEnd point) psm sdu c l = l
l_sdu Over psm sdu c l = l

-- ---- channels and links

-- at another stage
l_at : (stage : Stage) (c : Client) → is_ending stage ≡ false → LeavesByCause c → LeavesByCause (record c { stage = stage })
l_at stage c goes l = λ none. (goes, (l none).1)

l_opens : (transport : Transport) (mtu : ℕ) (c : Client) → LeavesByCause c → LeavesByCause (object_opened transport mtu c)
l_opens L2cap mtu c l = l_if (nat_lt mtu 255) (ends small_channel c) (record c { stage = Object; limit = min mtu 32767 }) (l_ends small_channel c) (λ none. (refl, (l none).1))
l_opens Rfcomm mtu c l = λ none. (refl, (l none).1)

l_open : (stage : Stage) (psm mtu : ℕ) (c : Client) → LeavesByCause c → LeavesByCause (opened_at stage psm mtu c)
l_open (SearchChannel Asked) psm mtu c l = l_if (psm == 0x0001) (record c { stage = Search }) c (l_at Search c refl l) l
l_open (ObjectChannel Asked) psm mtu c l = l_if (psm == c.psm) (object_opened c.transport mtu c) c (l_opens c.transport mtu c l) l
l_open Rest psm mtu c l = l
l_open (Link point) psm mtu c l = l
l_open (SearchChannel Due) psm mtu c l = l
l_open Search psm mtu c l = l
l_open (SearchEnd point) psm mtu c l = l
l_open (Features point) psm mtu c l = l
l_open (ObjectChannel Due) psm mtu c l = l
l_open Object psm mtu c l = l
l_open (ObjectEnd point) psm mtu c l = l
l_open (LinkEnd point) psm mtu c l = l
l_open Over psm mtu c l = l

behind_goes : (transport : Transport) → is_ending (stage_behind transport) ≡ false
behind_goes L2cap = refl
behind_goes Rfcomm = refl

l_search_left : (cause : Option Outcome) (c : Client) → c.cause ≡ cause → LeavesByCause c → LeavesByCause (search_left cause c)
l_search_left None c is l = l_at (stage_behind c.transport) c (behind_goes c.transport) l
l_search_left (Some outcome) c is l = λ none. has_none c.cause outcome is none

l_search : (cause : Option Outcome) (c : Client) → LeavesByCause c → LeavesByCause (search_closed cause c)
l_search None c l = l_search_left c.cause c refl l
l_search (Some outcome) c l = l_ends outcome c

l_close : (stage : Stage) (psm : ℕ) (cause : CloseCause) (c : Client) → c.stage ≡ stage → LeavesByCause c → LeavesByCause (closed_at stage psm cause c)
l_close (SearchChannel Asked) psm cause c is l = l_if (psm == 0x0001) (ends_if (cause_of_close cause) c) c (l_ends_if (cause_of_close cause) c l) l
l_close Search psm cause c is l = l_if (psm == 0x0001) (ends_if (cause_of_close cause) c) c (l_ends_if (cause_of_close cause) c l) l
l_close (SearchEnd point) psm cause c is l = l_if (psm == 0x0001) (search_closed (cause_of_close cause) c) c (l_search (cause_of_close cause) c l) l
l_close (ObjectChannel Asked) psm cause c is l = l_if (psm == c.psm) (ends_if (cause_of_close cause) c) c (l_ends_if (cause_of_close cause) c l) l
l_close Object psm cause c is l = l_if (psm == c.psm) (ends_if (cause_of_close cause) c) c (l_ends_if (cause_of_close cause) c l) l
l_close (ObjectEnd point) psm cause c is l = l_if (psm == c.psm) (record c { stage = LinkEnd Due }) c (λ none. never (sym (ap is_ending is) ∙ (l none).0)) l
l_close Rest psm cause c is l = l
l_close (Link point) psm cause c is l = l
l_close (SearchChannel Due) psm cause c is l = l
l_close (Features point) psm cause c is l = l
l_close (ObjectChannel Due) psm cause c is l = l
l_close (LinkEnd point) psm cause c is l = l
l_close Over psm cause c is l = l

l_link : (stage : Stage) (c : Client) → LeavesByCause c → LeavesByCause (linked_at stage c)
l_link (Link Asked) c l = by c.cause refl
  where
    by : (cause : Option Outcome) → c.cause ≡ cause → LeavesByCause (if is_some cause then record c { stage = LinkEnd Due } else record c { stage = SearchChannel Due })
    by None is = l_at (SearchChannel Due) c refl l
    by (Some outcome) is = λ none. has_none c.cause outcome is none
l_link Rest c l = l
l_link (Link Due) c l = l
l_link (SearchChannel point) c l = l
l_link Search c l = l
l_link (SearchEnd point) c l = l
l_link (Features point) c l = l
l_link (ObjectChannel point) c l = l
l_link Object c l = l
l_link (ObjectEnd point) c l = l
l_link (LinkEnd point) c l = l
l_link Over c l = l

l_fires : (c : Client) → LeavesByCause c → LeavesByCause (fires c)
l_fires c l =
    let again : Client = record c { query = after_resend c.query } in
    l_if (events.armed c && not (c.given || is_due c.query)) (if c.left == 0 then ends outcomes.RetryLimit c else again) c (l_if (c.left == 0) (ends outcomes.RetryLimit c) again (l_ends outcomes.RetryLimit c) l) l

pub l_news : (news : News) (c : Client) → LeavesByCause c → LeavesByCause (hears_news news c)
l_news events.LinkUp c l = l_link c.stage c l
l_news (events.LinkDown reason) c l = l_if (is_linked c.stage) (over (cause_of_link reason) c) c (l_over (cause_of_link reason) c) l
l_news (events.LinkFailed status) c l = l_if (is_paging c.stage) (over (cause_of_page status) c) c (l_over (cause_of_page status) c) l
l_news (events.ChannelOpen psm mtu) c l = l_open c.stage psm mtu c l
l_news (events.ChannelClosed psm cause) c l = l_close c.stage psm cause c refl l
l_news (events.Sdu psm octets) c l = l_sdu c.stage psm octets c l
l_news events.FeaturesTold c l = l_if (is_asking_features c.stage) (record c { stage = ObjectChannel Due }) c (l_at (ObjectChannel Due) c refl l) l
l_news events.FeaturesLost c l = l_if (is_asking_features c.stage) (ends outcomes.RetryLimit c) c (l_ends outcomes.RetryLimit c) l
l_news events.Timer c l = l_fires c l

pub l_cancelled : (c : Client) → LeavesByCause c → LeavesByCause (cancelled c)
l_cancelled c l = l_if (may_cancel c) (ends outcomes.Cancelled c) c (l_ends outcomes.Cancelled c) l

-- ---- its steps

-- what it asks for as it takes leave
abbrev is_leave : Ask → Bool
is_leave Connect = false
is_leave Put = false
is_leave Abort = false
is_leave Disconnect = true
is_leave Close = true
is_leave Nothing = true

-- so it does only where it has an outcome
asks_on : (contact : Contact) (cause : Option Outcome) (put : Option ℕ) → has_left contact ≡ false → cause ≡ None → is_leave (course.asks contact cause put) ≡ false
asks_on Unmet None put stays = λ none. refl
asks_on Unmet (Some outcome) put stays = λ none. has_none (Some outcome) outcome refl none
asks_on Met None put stays = λ none. refl
asks_on Met (Some outcome) put stays = λ none. has_none (Some outcome) outcome refl none
asks_on Left cause put stays = λ none. never stays
asks_on Closing cause put stays = λ none. never stays

abbrev LeavesNot : Ask → Client → Type 0
LeavesNot ask c = c.cause ≡ None → is_leave ask ≡ false

next_on : (c : Client) → LeavesByCause c → LeavesNot (course.next_ask c) c
next_on c l none = asks_on c.contact c.cause c.session.put (l none).1 none

-- a request of a client whose push ended
ended_leaves : (ask : Ask) (c : Client) (parts : List Part) (outcome : Outcome) → c.cause ≡ Some outcome → LeavesByCause (course.leaves_by ask c parts).client
ended_leaves Connect c parts outcome is = λ none. has_none c.cause outcome is none
ended_leaves Put c parts outcome is = λ none. has_none c.cause outcome is none
ended_leaves Abort c parts outcome is = λ none. has_none c.cause outcome is none
ended_leaves Disconnect c parts outcome is = λ none. has_none c.cause outcome is none
ended_leaves Close c parts outcome is = λ none. has_none c.cause outcome is none
ended_leaves Nothing c parts outcome is = λ none. has_none c.cause outcome is none

l_failing : (c : Client) (parts : List Part) → LeavesByCause (course.failing c parts).client
l_failing c parts = by c.cause refl
  where
    ended : Client
    ended = ends outcomes.ShelfFault c

    by : (cause : Option Outcome) → c.cause ≡ cause → LeavesByCause (course.leaves_by (course.next_ask ended) ended parts).client
    by None is = ended_leaves (course.next_ask ended) ended parts outcomes.ShelfFault (ap (λ (x : Option Outcome). (ends_by x outcomes.ShelfFault c).cause) is)
    by (Some earlier) is = ended_leaves (course.next_ask ended) ended parts earlier (ap (λ (x : Option Outcome). (ends_by x outcomes.ShelfFault c).cause) is ∙ is)

l_put_or : (outcome : Result (Unit {0}) PortFault) (put : Made) → LeavesByCause put.client → LeavesByCause (course.puts_or_leaves outcome put).client
l_put_or (Ok done) put l = l
l_put_or (Err fault.Failed) put l = l_failing put.client put.left
l_put_or (Err fault.NoMemory) put l = l

l_part : (part : Part) (c : Client) (parts : List Part) → LeavesByCause c → LeavesByCause (course.puts_part part c parts).client
l_part (Ok octets) c parts l = l
l_part (Err error) c parts l = l

l_from : (parts : List Part) (c : Client) → LeavesByCause c → LeavesByCause (course.puts_from parts c).client
l_from [] c l = l
l_from (part ∷ parts) c l = l_part part c parts l

l_puts : (c : Client) (parts : List Part) → LeavesByCause c → LeavesByCause (course.puts c parts).client
l_puts c parts l = by (course.put_count c == 0)
  where
    by : (test : Bool) → LeavesByCause (if test then course.puts_part (Ok []) c parts else course.puts_from parts c).client
    by true = l_part (Ok []) c parts l
    by false = l_from parts c l

l_requests : (ask : Ask) (c : Client) (parts : List Part) → LeavesNot ask c → LeavesByCause c → LeavesByCause (course.requests ask c parts).client
l_requests Connect c parts goes l = λ none. ((l none).0, refl)
l_requests Put c parts goes l = let put = course.puts c parts in l_put_or put.outcome put (l_puts c parts l)
l_requests Abort c parts goes l = l
l_requests Disconnect c parts goes l = λ none. never (goes none)
l_requests Close c parts goes l = λ none. never (goes none)
l_requests Nothing c parts goes l = λ none. never (goes none)

abbrev L : Stepped → Type 0
L one = LeavesByCause one.client

either_l : (test : Bool) (a b : Stepped) → L a → L b → L (if test then a else b)
either_l true a b one other = one
either_l false a b one other = other

l_direct : (outcome : Result (Unit {0}) PortFault) (request : Made) → LeavesByCause request.client → L (course.sends_direct outcome request)
l_direct (Ok done) request l = l
l_direct (Err error) request l = l

l_asks_direct : (ask : Ask) (c : Client) (parts : List Part) → LeavesNot ask c → LeavesByCause c → L (course.asks_direct ask c parts)
l_asks_direct Close c parts goes l = λ none. never (goes none)
l_asks_direct Nothing c parts goes l = l
l_asks_direct Connect c parts goes l = let request = course.requests Connect c parts in l_direct request.outcome request (l_requests Connect c parts goes l)
l_asks_direct Put c parts goes l = let request = course.requests Put c parts in l_direct request.outcome request (l_requests Put c parts goes l)
l_asks_direct Abort c parts goes l = let request = course.requests Abort c parts in l_direct request.outcome request (l_requests Abort c parts goes l)
l_asks_direct Disconnect c parts goes l = let request = course.requests Disconnect c parts in l_direct request.outcome request (l_requests Disconnect c parts goes l)

l_filled : (c : Client) → LeavesByCause c → LeavesByCause (course.filled c)
l_filled c l =
    l_if (is_ready c.mux && not (is_empty c.rest)) (record c { mux = sends c.rest c.mux; rest = drop (taken_count (length c.rest) c.mux) c.rest }) c l l

l_said : (said : Option Said) (c : Client) (parts : List Part) → LeavesByCause c → L (course.said_by said c parts)
l_said None c parts l = l
l_said (Some said) c parts l = l

l_says : (c : Client) (parts : List Part) → LeavesByCause c → L (course.says c parts)
l_says c parts l = let full = course.filled c in l_said (next full.mux) full parts (l_filled c l)

l_muxed : (outcome : Result (Unit {0}) PortFault) (request : Made) → LeavesByCause request.client → L (course.sends_muxed outcome request)
l_muxed (Ok done) request l = l_says request.client request.left l
l_muxed (Err error) request l = l

l_through : (ask : Ask) (c : Client) (parts : List Part) → LeavesNot ask c → LeavesByCause c → L (course.asks_through ask c parts)
l_through ask c parts goes l =
    let bare : Client = record c { rest = [] } in
    let request = course.requests ask bare parts in
    either_l (course.takes_some c.mux) (course.sends_muxed request.outcome request) (course.rests c parts) (l_muxed request.outcome request (l_requests ask bare parts goes l)) l

l_asks_muxed : (ask : Ask) (c : Client) (parts : List Part) → LeavesNot ask c → LeavesByCause c → L (course.asks_muxed ask c parts)
l_asks_muxed Close c parts goes l = l_says (record c { mux = mux.leaves c.mux; contact = Closing }) parts (λ none. never (goes none))
l_asks_muxed Nothing c parts goes l = l
l_asks_muxed Connect c parts goes l = l_through Connect c parts goes l
l_asks_muxed Put c parts goes l = l_through Put c parts goes l
l_asks_muxed Abort c parts goes l = l_through Abort c parts goes l
l_asks_muxed Disconnect c parts goes l = l_through Disconnect c parts goes l

l_goes : (said : Option Said) (c : Client) (parts : List Part) → LeavesByCause c → L (course.goes_muxed said c parts)
l_goes None c parts l =
    let quiet : Client = record c { frame = None } in
    either_l (course.may_ask quiet) (course.asks_muxed (course.next_ask quiet) quiet parts) (course.rests quiet parts) (l_asks_muxed (course.next_ask quiet) quiet parts (next_on quiet l) l) l
l_goes (Some said) c parts l = l

l_steps_object : (transport : Transport) (c : Client) (parts : List Part) → LeavesByCause c → L (course.steps_object transport c parts)
l_steps_object L2cap c parts l =
    let bare : Client = record c { rest = [] } in
    either_l (course.may_ask c) (course.asks_direct (course.next_ask c) bare parts) (course.rests c parts) (l_asks_direct (course.next_ask c) bare parts (next_on c l) l) l
l_steps_object Rfcomm c parts l = let full = course.filled c in l_goes (next full.mux) full parts (l_filled c l)

l_tells : (cause : Option Outcome) (c : Client) (parts : List Part) → LeavesByCause c → L (course.tells_end cause c parts)
l_tells None c parts l = l
l_tells (Some outcome) c parts l = λ none. (refl, (l none).1)

-- at the end of a channel or of its link it has an outcome
l_ending : (stage : Stage) (c d : Client) → c.stage ≡ stage → is_ending stage ≡ true → d.cause ≡ c.cause → LeavesByCause c → LeavesByCause d
l_ending stage c d is ends same l = λ none. never (sym (ap is_ending is ∙ ends) ∙ (l (sym same ∙ none)).0)

l_steps_at : (stage : Stage) (c : Client) (parts : List Part) → c.stage ≡ stage → LeavesByCause c → L (steps_at stage c parts)
l_steps_at Rest c parts is l = l
l_steps_at (Link Due) c parts is l = λ none. (refl, (l none).1)
l_steps_at (Link Asked) c parts is l = l
l_steps_at (SearchChannel Due) c parts is l = λ none. (refl, (l none).1)
l_steps_at (SearchChannel Asked) c parts is l = l
l_steps_at Search c parts is l =
    let asked : Client = record c { query = after_request c.query; left = c.left - 1; rest = request_octets c.query } in
    either_l (is_due c.query) (course.sends_sdu 0x0001 (Octets (request_octets c.query)) asked parts) (course.rests c parts) l l
l_steps_at (SearchEnd Due) c parts is l = λ none. (refl, (l none).1)
l_steps_at (SearchEnd Asked) c parts is l = l
l_steps_at (Features Due) c parts is l = λ none. (refl, (l none).1)
l_steps_at (Features Asked) c parts is l = l
l_steps_at (ObjectChannel Due) c parts is l = λ none. (refl, (l none).1)
l_steps_at (ObjectChannel Asked) c parts is l = l
l_steps_at Object c parts is l = l_steps_object c.transport c parts l
l_steps_at (ObjectEnd Due) c parts is l = l_ending (ObjectEnd Due) c (steps_at (ObjectEnd Due) c parts).client is refl refl l
l_steps_at (ObjectEnd Asked) c parts is l = l
l_steps_at (LinkEnd Due) c parts is l = l_ending (LinkEnd Due) c (steps_at (LinkEnd Due) c parts).client is refl refl l
l_steps_at (LinkEnd Asked) c parts is l = l
l_steps_at Over c parts is l = l_tells c.cause c parts l

pub l_steps : (c : Client) (parts : List Part) → LeavesByCause c → LeavesByCause (steps c parts).client
l_steps c parts l =
    let lacking : Stepped = record { client = c; step = course.NoMemory; left = parts } in
    either_l c.failed lacking (if c.given then course.rests c parts else steps_at c.stage c parts) l (either_l c.given (course.rests c parts) (steps_at c.stage c parts) l (l_steps_at c.stage c parts refl l))

pub l_stepped : (c : Client) → LeavesByCause c → LeavesByCause (stepped c)
l_stepped c l = l

pub l_begins : (size : Result ℕ PortFault) (name : List ℕ) (c : Client) → LeavesByCause c → LeavesByCause (begins size name c)
l_begins size name c l = l_if c.failed c (begun_by size name c) l (by size)
  where
    by : (s : Result ℕ PortFault) → LeavesByCause (begun_by s name c)
    by (Ok n) = λ none. (refl, refl)
    by (Err fault.Failed) = λ none. has_none (Some outcomes.ShelfFault) outcomes.ShelfFault refl none
    by (Err fault.NoMemory) = l

-- so a client that ends its link has an outcome
pub leaves_by_cause : (c : Client) → LeavesByCause c → is_ending c.stage ≡ true → is_some c.cause ≡ true
leaves_by_cause c l ends = by c.cause refl
  where
    by : (cause : Option Outcome) → c.cause ≡ cause → is_some cause ≡ true
    by None is = never (sym ends ∙ (l is).0)
    by (Some outcome) is = refl
