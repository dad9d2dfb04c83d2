-- What a server lends is small: replies of 48 octets, responses of seven, frames of 45.
use Rattle.std.proofs.Common.{Bool, true, false, cond, eqb, ltb, zero, suc, ◌||◌, ◌&&◌, ◌+◌, ◌-◌, ◌*◌, ◌/◌, ◌≤◌, ◌≡◌, ℕ, List, [], ◌∷◌, ◌++◌, length, take, drop, min, Option, Some, None, Result, Ok, Err, arith, sym, ap, subst, length-append}
use Rattle.std.specs.Prelude.{not}
use Rattle.std.specs.List.{flat_map}
use Rattle.std.proofs.lemmas.Bool.{cond_both}
use Rattle.std.proofs.lemmas.List.{length-take, length-drop}
use Rattle.link_talk.specs.bt_base.specs.declared.settings.Serves.{Serves}
use Rattle.link_talk.specs.bt_base.specs.declared.settings.Transport.{Transport}
use Rattle.link_talk.specs.bt_base.specs.declared.settings.Transport.TheVariants.{L2cap, Rfcomm}
use Rattle.link_talk.specs.bt_base.specs.Octets.{be16, be32}
use Rattle.push_model.specs.obex_session.proofs.GrantedLaws.{said_few}
use Rattle.push_model.specs.rfcomm_frames.specs.FrameReading.{is_empty}
use Rattle.push_model.specs.rfcomm_frames.specs.Frames.{PlainFrame, credit_octets, size_of}
use Rattle.push_model.specs.rfcomm_model.specs.Machine.{is_ready, leaves, taken_count}
use Rattle.push_model.specs.rfcomm_model.specs.Hearing as hearing
use Rattle.push_model.specs.rfcomm_model.specs.Hearing.{Up, nothing, opened, bytes, closed, up}
use Rattle.push_model.specs.rfcomm_model.specs.Saying.{Said, next}
use Rattle.push_model.specs.rfcomm_frames.specs.Lengths.{one_octet, two_octets, shortest}
use Rattle.push_model.specs.sdp_elements.specs.Answers.{Question, Handles, Attributes, Search, handles, answer}
use Rattle.push_model.specs.sdp_elements.specs.Pdus.{PlainPdu, pdu_in}
use Rattle.push_model.specs.sdp_elements.specs.Records.{record_handle, service_record, matches}
use Rattle.push_model.specs.sdp_elements.specs.Exchange.{pdu_octets, continuation_at, part_len, part_parameters, part_reply, offset_in}
use Rattle.push_model.specs.sdp_server.specs.declared.fault.ErrorCode.{ErrorCode}
use Rattle.push_model.specs.sdp_server.specs.declared.fault.ErrorCode.TheVariants.{InvalidHandle, InvalidSyntax, InvalidSize, InvalidContinuation}
use Rattle.push_model.specs.sdp_server.specs.Requests.{Request, request_in}
use Rattle.push_model.specs.sdp_server.specs.Replies.{code_number, part_from, handles_parameters, handles_reply, replied, answered, responded, transaction_of, with_error, reply_to}
use Rattle.push_model.specs.declared.outlet.Outlet.{Outlet}
use Rattle.push_model.specs.declared.outlet.Outlet.TheVariants.{Records, Direct, Muxed}
use Rattle.push_model.specs.Payloads.{Octets, Framed, IsSaid}
use Rattle.push_model.specs.Sessions as model
use Rattle.push_model.specs.Sessions.{Sessions, Gift, session_of, other_of, lets_go, answers_to, is_naming, hears}
use Rattle.push_model.specs.Service.{Service, Served, response_over, is_ignored, hears_packet}
use Rattle.push_model.specs.Streams.{Front, Whole, Partial, Broken, front_of}
use Rattle.push_model.specs.Listening.{Listener, Heeded, Received, stops, heeds_carried, hears_front, hears_stream}
use Rattle.push_model.specs.Listening as listening
use Rattle.push_model.specs.Server.{Server, Reacted, Lent, hears_up, hears_search, hears_on, filled, said_on, breaks_now, left_by, leaves_with, framed_by, framed, outlet_of, lends_by, lent_by, frame_lent, taken_by, closed_on, lets_go_on, lets_go_twice, remuxed, unreplied, unanswered}
use Rattle.push_laws.specs.Occurrences.{Occurrence, Came, Went, Closed, LinkDown, Asked, Answering, done, all_done, begun}
use Rattle.push_laws.specs.Laws.{LendsFewOctets}
use Rattle.push_laws.proofs.SmallFrames.{IsSmall, Small, hears_small, SaidSmall, next_small, sends_small, leaves_small}

-- ---- responses

pub record Few (service : Service) : Type 0 where
  pub response : length service.response ≤ 7
  pub answer : length service.answer ≤ 7

hears_few : (t : Transport) (packet : List ℕ) (sessions : Sessions) (gift : Gift) → length (hears t packet sessions gift).response ≤ 7
hears_few t packet sessions gift =
    cond_both (is_naming t packet sessions) _ _ (λ (h : model.Heard). length h.response ≤ 7)
    (λ named.
    let parted = lets_go (other_of t) sessions gift in
    cond_both parted.short _ (answers_to t packet parted.sessions parted.gift) (λ (h : model.Heard). length h.response ≤ 7) (λ short. omega arith) (λ enough. said_few packet (session_of t parted.sessions).maximum _))
    (λ unnamed. said_few packet (session_of t sessions).maximum _)

over_few : (t : Transport) (response : List ℕ) (service : Service) → length response ≤ 7 → Few service → Few (response_over t response service)
over_few L2cap [] service few s = s
over_few Rfcomm [] service few s = s
over_few L2cap (octet ∷ octets) service few s = record { response = few; answer = s.answer }
over_few Rfcomm (octet ∷ octets) service few s = record { response = s.response; answer = few }

packet_few : (t : Transport) (packet : List ℕ) (service : Service) (gift : Gift) → Few service → Few (hears_packet t packet service gift).service
packet_few t packet service gift s =
    cond_both (is_ignored t packet service) _ _ (λ (x : Served). Few x.service)
    (λ ignored. record { response = s.response; answer = s.answer })
    (λ taken.
    let h = hears t packet service.sessions gift in
    over_few t h.response (record service { sessions = h.sessions; failed = service.failed || h.short }) (hears_few t packet service.sessions gift) (record { response = s.response; answer = s.answer }))

more_few : (less : ℕ) (rest : List ℕ) (heeded : Heeded) → Few heeded.listener.service → ((l : Listener) (g : Gift) → Few l.service → Few (hears_stream less rest l g).listener.service)
    → Few (listening.hears_on (λ l g. hears_stream less rest l g) heeded).listener.service
more_few less rest heeded s more = cond_both (stops heeded.listener) _ _ (λ (r : Received). Few r.listener.service) (λ e. s) (λ e. more heeded.listener heeded.gift s)

front_few : (less : ℕ) (stream : List ℕ) (front : Front) (listener : Listener) (gift : Gift) → Few listener.service → ((rest : List ℕ) (l : Listener) (g : Gift) → Few l.service → Few (hears_stream less rest l g).listener.service)
    → Few (hears_front (λ rest l g. hears_stream less rest l g) stream front listener gift).listener.service
front_few less stream (Whole packet rest) listener gift s more = more_few less rest (heeds_carried packet listener gift) (packet_few Rfcomm packet listener.service gift s) (more rest)
front_few less stream Partial listener gift s more = s
front_few less stream (Broken refusal) listener gift s more = packet_few Rfcomm (take 3 stream) listener.service gift s

stream_few : (steps : ℕ) (stream : List ℕ) (listener : Listener) (gift : Gift) → Few listener.service → Few (hears_stream steps stream listener gift).listener.service
unfolding hears_stream
stream_few zero stream listener gift s = s
stream_few (suc steps) stream listener gift s = front_few steps stream (front_of listener.service.sessions.carried.maximum stream) listener gift s (λ rest l g t. stream_few steps rest l g t)

-- ---- replies

pdu_len : (identifier transaction : ℕ) (parameters : List ℕ) → length (pdu_octets identifier transaction parameters) ≡ 5 + length parameters
pdu_len identifier transaction parameters = omega arith

continuation_few : (len place : ℕ) → length (continuation_at len place) ≤ 3
continuation_few len place = by (eqb place len)
  where
    by : (end : Bool) → length (cond end (0 ∷ []) (2 ∷ be16 place)) ≤ 3
    by true = omega arith
    by false = omega arith

part_few : (identifier transaction offset most : ℕ) (octets : List ℕ) → length (part_reply identifier transaction octets offset most 48) ≤ 48
part_few identifier transaction offset most octets =
    let count : ℕ = part_len most (length octets - offset) 48 in
    let front = length-take count (drop offset octets) in
    let state = continuation_few (length octets) (offset + count) in
    let both = length-append (take count (drop offset octets)) (continuation_at (length octets) (offset + count)) in
    let all = pdu_len identifier transaction (part_parameters octets offset count) in
    omega (arith, front, state, both, all)

handles_few : (serves : Serves) (pattern : List (List ℕ)) → length (handles serves pattern) ≤ 4
handles_few serves pattern = by (matches pattern (service_record serves))
  where
    by : (found : Bool) → length (flat_map (λ r. be32 record_handle) (cond found (service_record serves ∷ []) [])) ≤ 4
    by true = omega arith
    by false = omega arith

-- a reply, or an error in its place
abbrev Fits : Result (List ℕ) ErrorCode → Type 0
Fits reply = (transaction : ℕ) → length (with_error transaction reply) ≤ 48

error_fits : (code : ErrorCode) → Fits (Err code)
error_fits code transaction = let all = pdu_len 1 transaction (be16 (code_number code)) in omega (arith, all)

either_fits : (b : Bool) (x y : Result (List ℕ) ErrorCode) → Fits x → Fits y → Fits (cond b x y)
either_fits true x y p q = p
either_fits false x y p q = q

part_fits : (identifier transaction most : ℕ) (octets : List ℕ) (offset : Option ℕ) → Fits (part_from identifier transaction octets most 48 offset)
part_fits identifier transaction most octets None = error_fits InvalidContinuation
part_fits identifier transaction most octets (Some offset) = λ t. part_few identifier transaction offset most octets

handles_fits : (serves : Serves) (pattern : List (List ℕ)) (transaction : ℕ) (request : Request) → Fits (handles_reply transaction (handles serves pattern) request)
handles_fits serves pattern transaction request =
    let octets : List ℕ = handles serves pattern in
    let count : ℕ = min request.most (length octets / 4) in
    either_fits (eqb (length request.continuation) 0) (Ok (pdu_octets 3 transaction (handles_parameters octets count))) (Err InvalidContinuation)
    (λ t.
    let all = pdu_len 3 transaction (handles_parameters octets count) in
    let front = length-take (4 * count) octets in
    let few = handles_few serves pattern in
    let last = length-append (take (4 * count) octets) (0 ∷ []) in
    omega (arith, all, front, few, last))
    (error_fits InvalidContinuation)

replied_fits : (serves : Serves) (transaction : ℕ) (question : Question) (request : Request) → Fits (replied transaction question (answer serves question) request 48)
replied_fits serves transaction (Handles pattern) request = handles_fits serves pattern transaction request
replied_fits serves transaction (Attributes handle ranges) request =
    either_fits (eqb handle record_handle) _ (Err InvalidHandle) (part_fits 5 transaction request.most (answer serves (Attributes handle ranges)) (offset_in request.continuation (length (answer serves (Attributes handle ranges))))) (error_fits InvalidHandle)
replied_fits serves transaction (Search pattern ranges) request = part_fits 7 transaction request.most (answer serves (Search pattern ranges)) (offset_in request.continuation (length (answer serves (Search pattern ranges))))

answered_fits : (serves : Serves) (transaction : ℕ) (request : Option Request) → Fits (answered serves 48 transaction request)
answered_fits serves transaction None = error_fits InvalidSyntax
answered_fits serves transaction (Some request) = replied_fits serves transaction request.question request

responded_fits : (serves : Serves) (pdu : Option PlainPdu) → Fits (responded serves 48 pdu)
responded_fits serves None = error_fits InvalidSize
responded_fits serves (Some pdu) = answered_fits serves pdu.transaction (request_in pdu.identifier pdu.parameters)

reply_few : (serves : Serves) (sdu : List ℕ) → length (reply_to serves 48 sdu) ≤ 48
reply_few serves sdu = responded_fits serves (pdu_in sdu) (transaction_of sdu)

-- ---- the server

abbrev SmallFrame : Option PlainFrame → Type 0
SmallFrame None = Unit {0}
SmallFrame (Some frame) = IsSmall frame

record Brief (server : Server) : Type 0 where
  reply : length server.reply ≤ 48
  few : Few server.listener.service
  mux : Small server.mux
  frame : SmallFrame server.frame

search_brief : (sdu : List ℕ) (server : Server) → Brief server → Brief (hears_search sdu server)
search_brief sdu server b = cond_both (is_empty server.reply) _ _ Brief (λ e. record { reply = reply_few server.serves sdu; few = b.few; mux = b.mux; frame = b.frame }) (λ e. b)

up_brief : (u : Up) (server : Server) (gift : Gift) → Brief server → Brief (hears_up u server gift).server
up_brief nothing server gift b = b
up_brief opened server gift b = b
up_brief (closed reason) server gift b = b
up_brief (bytes octets) server gift b =
    cond_both server.listener.breaks _ _ (λ (r : Reacted). Brief r.server) (λ e. b)
    (λ e. record { reply = b.reply; few = stream_few (length (server.held ++ octets)) (server.held ++ octets) server.listener gift b.few; mux = b.mux; frame = b.frame })

hears_brief : (psm : ℕ) (sdu : List ℕ) (server : Server) (gift : Gift) → Brief server → Brief (hears_on psm sdu server gift).server
hears_brief psm sdu server gift b =
    cond_both (eqb psm 0x0001) _ _ (λ (r : Reacted). Brief r.server) (λ e. search_brief sdu server b)
    (λ e. cond_both (eqb psm 0x0003) _ _ (λ (r : Reacted). Brief r.server)
    (λ f. up_brief (up sdu server.mux) (record server { mux = hearing.hears sdu server.mux }) gift (record { reply = b.reply; few = b.few; mux = hears_small sdu server.mux b.mux; frame = b.frame }))
    (λ f. cond_both (eqb psm 0x1001) _ _ (λ (r : Reacted). Brief r.server)
    (λ g. record { reply = b.reply; few = packet_few L2cap sdu server.listener.service gift b.few; mux = b.mux; frame = b.frame }) (λ g. b)))

said_brief : (o : Option Said) (server : Server) → SaidSmall o → Brief server → Brief (said_on o server)
said_brief None server s b = record { reply = b.reply; few = b.few; mux = b.mux; frame = tt }
said_brief (Some said) server s b = record { reply = b.reply; few = b.few; mux = s.1; frame = s.0 }

leaves_brief : (o : Option Said) (server : Server) → SaidSmall o → Brief server → Brief (leaves_with o server)
leaves_brief (Some said) server s b = said_brief (Some said) server s b
leaves_brief None server s b =
    let quiet : Server = said_on None server in
    let left : Server = record quiet { mux = leaves server.mux } in
    let calm : Brief quiet = said_brief None server tt b in
    cond_both (breaks_now quiet) (left_by quiet) quiet Brief
    (λ e. said_brief (next (leaves server.mux)) left (next_small (leaves server.mux) (leaves_small server.mux b.mux)) (record { reply = b.reply; few = b.few; mux = leaves_small server.mux b.mux; frame = tt }))
    (λ e. calm)

filled_brief : (server : Server) → Brief server → Brief (filled server)
filled_brief server b =
    let answer : List ℕ = server.listener.service.answer in
    let count : ℕ = taken_count (length answer) server.mux in
    cond_both (is_ready server.mux && not (is_empty answer)) _ _ Brief
    (λ e. record {
      reply = b.reply;
      few = record { response = b.few.response; answer = (let rest = length-drop count answer in let few = b.few.answer in omega (arith, rest, few)) };
      mux = sends_small answer server.mux (let few = b.few.answer in omega (arith, few)) b.mux;
      frame = b.frame;
    })
    (λ e. b)

framed_brief : (o : Option PlainFrame) (server : Server) → Brief server → Brief (framed_by o server)
framed_brief None server b = let full = filled_brief server b in leaves_brief (next (filled server).mux) (filled server) (next_small (filled server).mux full.mux) full
framed_brief (Some frame) server b = b

lends_brief : (o : Option Outlet) (server : Server) → Brief server → Brief (lends_by o server)
lends_brief (Some outlet) server b = b
lends_brief None server b =
    let full : Server = framed server in
    let c : Brief full = framed_brief server.frame server b in
    cond_both (is_empty server.reply && is_empty server.listener.service.response) (record full { lent = outlet_of full }) (record server { lent = outlet_of server }) Brief
    (λ e. record { reply = c.reply; few = c.few; mux = c.mux; frame = c.frame }) (λ e. record { reply = b.reply; few = b.few; mux = b.mux; frame = b.frame })

taken_brief : (o : Option Outlet) (server : Server) → Brief server → Brief (taken_by o server)
taken_brief None server b = b
taken_brief (Some Records) server b = record { reply = omega arith; few = b.few; mux = b.mux; frame = b.frame }
taken_brief (Some Direct) server b = record { reply = b.reply; few = record { response = omega arith; answer = b.few.answer }; mux = b.mux; frame = b.frame }
taken_brief (Some Muxed) server b = record { reply = b.reply; few = b.few; mux = b.mux; frame = tt }

direct_brief : (server : Server) (gift : Gift) → Brief server → Brief (lets_go_on L2cap (unanswered server) gift).server
direct_brief server gift b = record { reply = b.reply; few = record { response = omega arith; answer = b.few.answer }; mux = b.mux; frame = b.frame }

carried_brief : (server : Server) (gift : Gift) → Brief server → Brief (lets_go_on Rfcomm (remuxed server) gift).server
carried_brief server gift b = record { reply = b.reply; few = record { response = b.few.response; answer = omega arith }; mux = record { answers = tt; waiting = omega arith }; frame = tt }

unreplied_brief : (server : Server) → Brief server → Brief (unreplied server)
unreplied_brief server b = record { reply = omega arith; few = b.few; mux = b.mux; frame = b.frame }

closed_brief : (psm : ℕ) (server : Server) (gift : Gift) → Brief server → Brief (closed_on psm server gift).server
closed_brief psm server gift b =
    cond_both (eqb psm 0x0001) _ _ (λ (r : Reacted). Brief r.server) (λ e. unreplied_brief server b)
    (λ e. cond_both (eqb psm 0x0003) _ _ (λ (r : Reacted). Brief r.server) (λ f. carried_brief server gift b)
    (λ f. cond_both (eqb psm 0x1001) _ _ (λ (r : Reacted). Brief r.server) (λ g. direct_brief server gift b) (λ g. b)))

-- a server that failed stays as it is
unless_brief : (failed : Bool) (server : Server) (gift : Gift) (r : Reacted) → Brief server → Brief r.server → Brief (cond failed (record { server = server; gift = gift }) r).server
unless_brief true server gift r b c = b
unless_brief false server gift r b c = c

twice_brief : (r : Reacted) → Brief r.server → Brief (lets_go_twice r).server
twice_brief r b = unless_brief r.server.listener.service.failed r.server r.gift _ b (carried_brief (unreplied r.server) r.gift (unreplied_brief r.server b))

done_brief : (one : Occurrence) (at : Reacted) → Brief at.server → Brief (done one at).server
done_brief (Came psm sdu) at b = unless_brief at.server.listener.service.failed at.server at.gift (hears_on psm sdu at.server at.gift) b (hears_brief psm sdu at.server at.gift b)
done_brief (Went psm sdu) at b = taken_brief at.server.lent at.server b
done_brief (Closed psm) at b = unless_brief at.server.listener.service.failed at.server at.gift (closed_on psm at.server at.gift) b (closed_brief psm at.server at.gift b)
done_brief LinkDown at b =
    unless_brief at.server.listener.service.failed at.server at.gift (lets_go_twice (lets_go_on L2cap (unanswered at.server) at.gift)) b (twice_brief (lets_go_on L2cap (unanswered at.server) at.gift) (direct_brief at.server at.gift b))
done_brief Asked at b = lends_brief at.server.lent at.server b
done_brief (Answering answers) at b = b

all_brief : (occurrences : List Occurrence) (at : Reacted) → Brief at.server → Brief (all_done occurrences at).server
all_brief [] at b = b
all_brief (one ∷ rest) at b = all_brief rest (done one at) (done_brief one at b)

-- ---- what is lent

credits_few : (credits : Option ℕ) → length (credit_octets credits) ≤ 1
credits_few None = omega arith
credits_few (Some n) = omega arith

field_few : (n : ℕ) → length (shortest n) ≤ 2
field_few n = by (ltb n 128)
  where
    by : (short : Bool) → length (cond short (one_octet n) (two_octets n)) ≤ 2
    by true = omega arith
    by false = omega arith

size_few : (frame : PlainFrame) → IsSmall frame → size_of frame ≤ 48
size_few frame small =
    let field = field_few (length frame.octets) in
    let credits = credits_few frame.credits in
    let one = length-append (shortest (length frame.octets)) (credit_octets frame.credits ++ frame.octets) in
    let two = length-append (credit_octets frame.credits) frame.octets in
    omega (arith, small, field, credits, one, two)

same_lent : (a b : Lent) → Some a ≡ Some b → a ≡ b
same_lent a b e = cc

octets_few : (content sdu : List ℕ) (psm : ℕ) (lent : Lent) → Some (record { psm = psm; payload = Octets content }) ≡ Some lent → IsSaid lent.payload sdu → length content ≤ 48 → length sdu ≤ 48
octets_few content sdu psm lent e is few = let same : sdu ≡ content = subst (λ (l : Lent). IsSaid l.payload sdu) (sym (same_lent _ lent e)) is in let len = ap length same in omega (arith, len, few)

frame_few : (frame : Option PlainFrame) (lent : Lent) (sdu : List ℕ) → SmallFrame frame → frame_lent frame ≡ Some lent → IsSaid lent.payload sdu → length sdu ≤ 48
frame_few None lent sdu small e is = absurd (let f : None ≡ Some lent = e in cc)
frame_few (Some frame) lent sdu small e is =
    let said = subst (λ (l : Lent). IsSaid l.payload sdu) (sym (same_lent (record { psm = 0x0003; payload = Framed frame }) lent e)) is in
    let size = said.size in
    let few = size_few frame small in
    omega (arith, size, few)

lent_few : (o : Option Outlet) (server : Server) (lent : Lent) (sdu : List ℕ) → Brief server → lent_by o server ≡ Some lent → IsSaid lent.payload sdu → length sdu ≤ 48
lent_few None server lent sdu b e is = absurd (let f : None ≡ Some lent = e in cc)
lent_few (Some Records) server lent sdu b e is = octets_few server.reply sdu 0x0001 lent e is b.reply
lent_few (Some Direct) server lent sdu b e is = octets_few server.listener.service.response sdu 0x1001 lent e is (let few = b.few.response in omega (arith, few))
lent_few (Some Muxed) server lent sdu b e is = frame_few server.frame lent sdu b.frame e is

pub lends-few_octets : LendsFewOctets
lends-few_octets settings content occurrences lent sdu e is =
    let server : Server = (all_done occurrences (begun settings content)).server in
    let first : Brief (begun settings content).server = record { reply = omega arith; few = record { response = omega arith; answer = omega arith }; mux = record { answers = tt; waiting = omega arith }; frame = tt } in
    lent_few server.lent server lent sdu (all_brief occurrences (begun settings content) first) e is
