-- No SDU that a server lends is a request for services: replies have other identifiers, responses of OBEX state no length of such a PDU, and the
-- address of a frame is odd.
use Rattle.std.proofs.Common.{◌≡◌, ℕ, zero, suc, Bool, true, false, cond, eqb, ◌||◌, ◌&&◌, ◌+◌, ◌*◌, ◌/◌, List, [], ◌∷◌, ◌++◌, length, take, min, Option, Some, None, Result, Err, refl, sym, ap, subst, ◌∙◌, arith}
use Rattle.std.specs.Prelude.{not, slice_index, nat_le, drop, ◌-◌, ◌≤◌}
use Rattle.std.specs.List.{AllByRecursion, filter_map, flat_map}
use Rattle.std.proofs.lemmas.Bool.{cond_both, eqb-true}
use Rattle.shelf_model.specs.bt_base.specs.declared.settings.Serves.{Serves}
use Rattle.shelf_model.specs.bt_base.specs.declared.settings.Settings.{Settings}
use Rattle.shelf_model.specs.bt_base.specs.declared.settings.Transport.{Transport}
use Rattle.shelf_model.specs.bt_base.specs.declared.settings.Transport.TheVariants.{L2cap, Rfcomm}
use Rattle.shelf_model.specs.bt_base.specs.Objects.{Contents}
use Rattle.push_laws.specs.link_talk.specs.ServiceAnswers.{transaction_of}
use Rattle.byteorder.specs.Endian.{big_number}
use Rattle.shelf_model.specs.obex_session.proofs.GrantedLaws.{said_few}
use Rattle.shelf_model.specs.obex_session.specs.Serving.{Turn, heard_with}
use Rattle.shelf_model.specs.obex_session.specs.Views.{octets_said}
use Rattle.channel_laws.specs.channel_model.proofs.Lookups.{and_off}
use Rattle.shelf_model.specs.rfcomm_frames.specs.FrameReading.{is_empty}
use Rattle.shelf_model.specs.rfcomm_frames.specs.Frames.{PlainFrame, bit, address_of}
use Rattle.shelf_model.specs.rfcomm_model.specs.Machine.{is_ready, leaves}
use Rattle.shelf_model.specs.rfcomm_model.specs.Hearing as hearing
use Rattle.shelf_model.specs.rfcomm_model.specs.Hearing.{Up, nothing, opened, bytes, closed, up}
use Rattle.shelf_model.specs.rfcomm_model.specs.Saying.{Said, next}
use Rattle.shelf_model.specs.sdp_elements.specs.Answers.{Question, Handles, Attributes, Search, answer}
use Rattle.shelf_model.specs.sdp_elements.specs.Pdus.{PlainPdu, pdu_in, states_length}
use Rattle.shelf_model.specs.sdp_elements.specs.Records.{record_handle}
use Rattle.shelf_model.specs.sdp_elements.specs.Exchange.{pdu_octets, part_reply, offset_in}
use Rattle.shelf_model.specs.sdp_server.specs.declared.fault.ErrorCode.{ErrorCode}
use Rattle.shelf_model.specs.sdp_server.specs.declared.fault.ErrorCode.TheVariants.{InvalidHandle, InvalidSyntax, InvalidSize, InvalidContinuation}
use Rattle.shelf_model.specs.sdp_server.specs.Requests.{Request, request_in}
use Rattle.shelf_model.specs.sdp_server.specs.Replies as replies
use Rattle.shelf_model.specs.sdp_server.specs.Replies.{part_from, handles_parameters, handles_reply, replied, answered, responded, with_error, reply_to}
use Rattle.push_laws.specs.push_model.specs.declared.outlet.Outlet.{Outlet}
use Rattle.push_laws.specs.push_model.specs.declared.outlet.Outlet.TheVariants.{Records, Direct, Muxed}
use Rattle.push_laws.specs.push_model.specs.Payloads.{Octets, Framed}
use Rattle.push_laws.specs.push_model.specs.Sessions as model
use Rattle.push_laws.specs.push_model.specs.Sessions.{Sessions, Gift, session_of, other_of, lets_go, answers_to, is_naming, hears}
use Rattle.push_laws.specs.push_model.specs.Service.{Service, Served, response_over, is_ignored, hears_packet}
use Rattle.push_laws.specs.push_model.specs.Streams.{Front, Whole, Partial, Broken, front_of}
use Rattle.push_laws.specs.push_model.specs.Listening.{Listener, Heeded, Received, stops, heeds_carried, hears_front, hears_stream}
use Rattle.push_laws.specs.push_model.specs.Listening as listening
use Rattle.push_laws.specs.push_model.specs.Server.{Server, Reacted, Lent, hears_up, hears_search, hears_on, filled, said_on, breaks_now, left_by, leaves_with, framed_by, framed, outlet_of, lends, lends_by, lent_by, frame_lent, taken_by, closed_on, lets_go_on, lets_go_twice, remuxed, unreplied, unanswered}
use Rattle.push_laws.specs.Occurrences as push
use Rattle.push_laws.specs.Occurrences.{Came, Went, Closed, LinkDown, Asked, Answering, done, all_done}
use Rattle.channel_laws.specs.channel_model.specs.Policies.{policy}
use Rattle.channel_laws.specs.channel_model.specs.Calls.{armed}
use Rattle.channel_laws.specs.Armed.{services_wait}
use Rattle.channel_laws.specs.Runs.{Occurrence, Comes, Connects, AsksFeatures, Disconnects, Sends, Gives, Fires, Tells, run_of}
use Rattle.channel_laws.specs.Services.{AsksNoServices}
use Rattle.channel_laws.proofs.Arming.{armed-is_what_waits}
use Rattle.channel_laws.proofs.Services.{channels-alone_wait}
use Rattle.shelf_model.specs.host_model.specs.Pdus.{sdu_of}
use Rattle.shelf_model.specs.host_model.specs.Servers.{ServerProfile, server_profile}
use Rattle.host_laws.specs.Calls.{Call, Connect, AskFeatures, Disconnect, Send, Asks, from_call, asked}
use Rattle.host_laws.specs.Feeds.{Feed, Gifts, Learns, Receives, Happens, Sent, Steps, fed, asked_with, asked_from}
use Rattle.host_laws.specs.Keeping.{IsLent, SendsAsItLends, ServersAwaitNothing}
use Rattle.host_laws.specs.Lives.{Span}
use Rattle.host_laws.specs.Serving.{served_with, reacted}
use Rattle.host_laws.proofs.Serving.{feed_done}

-- ---- no request for services

abbrev IsNone : List ℕ → Type 0
IsNone sdu = transaction_of (pdu_in sdu) ≡ None

-- its first octet is another
first_apart : (sdu : List ℕ) → eqb (slice_index sdu 0) 6 ≡ false → IsNone sdu
first_apart sdu apart = by _ _ _
  where
    by : (whole : Bool) (transaction : ℕ) (parameters : List ℕ) → transaction_of (cond whole (Some (record { identifier = slice_index sdu 0; transaction = transaction; parameters = parameters })) None) ≡ None
    by true transaction parameters = ap (λ b. cond b (Some transaction) None) apart
    by false transaction parameters = refl

-- ---- replies

abbrev AreNone : Result (List ℕ) ErrorCode → Type 0
AreNone reply = (transaction : ℕ) → IsNone (with_error transaction reply)

error_none : (code : ErrorCode) → AreNone (Err code)
error_none code transaction = first_apart (with_error transaction (Err code)) refl

either_none : (b : Bool) (x y : Result (List ℕ) ErrorCode) → AreNone x → AreNone y → AreNone (cond b x y)
either_none true x y p q = p
either_none false x y p q = q

part_none : (identifier transaction most : ℕ) (octets : List ℕ) (offset : Option ℕ) → eqb identifier 6 ≡ false → AreNone (part_from identifier transaction octets most 48 offset)
part_none identifier transaction most octets None apart = error_none InvalidContinuation
part_none identifier transaction most octets (Some offset) apart = λ t. first_apart (part_reply identifier transaction octets offset most 48) apart

handles_none : (transaction : ℕ) (octets : List ℕ) (request : Request) → AreNone (handles_reply transaction octets request)
handles_none transaction octets request = either_none (eqb (length request.continuation) 0) _ (Err InvalidContinuation) (λ t. first_apart (pdu_octets 3 transaction (handles_parameters octets (min request.most (length octets / 4)))) refl) (error_none InvalidContinuation)

replied_none : (serves : Serves) (transaction : ℕ) (question : Question) (request : Request) → AreNone (replied transaction question (answer serves question) request 48)
replied_none serves transaction (Handles pattern) request = handles_none transaction (answer serves (Handles pattern)) request
replied_none serves transaction (Attributes handle ranges) request =
    either_none (eqb handle record_handle) _ (Err InvalidHandle) (part_none 5 transaction request.most (answer serves (Attributes handle ranges)) (offset_in request.continuation (length (answer serves (Attributes handle ranges)))) refl) (error_none InvalidHandle)
replied_none serves transaction (Search pattern ranges) request = part_none 7 transaction request.most (answer serves (Search pattern ranges)) (offset_in request.continuation (length (answer serves (Search pattern ranges)))) refl

answered_none : (serves : Serves) (transaction : ℕ) (request : Option Request) → AreNone (answered serves 48 transaction request)
answered_none serves transaction None = error_none InvalidSyntax
answered_none serves transaction (Some request) = replied_none serves transaction request.question request

responded_none : (serves : Serves) (pdu : Option PlainPdu) → AreNone (responded serves 48 pdu)
responded_none serves None = error_none InvalidSize
responded_none serves (Some pdu) = answered_none serves pdu.transaction (request_in pdu.identifier pdu.parameters)

reply_none : (serves : Serves) (sdu : List ℕ) → IsNone (reply_to serves 48 sdu)
reply_none serves sdu = responded_none serves (pdu_in sdu) (replies.transaction_of sdu)

-- ---- responses

two_octets : (a b : ℕ) (rest : List ℕ) → big_number 2 (a ∷ b ∷ rest) ≡ a * 256 + b
two_octets a b rest = omega arith

-- with more than four octets the fourth is the version of OBEX, or the header of single response mode
abbrev is_shaped : List ℕ → Bool
is_shaped (a ∷ b ∷ c ∷ d ∷ e ∷ rest) = eqb d 0x97 || eqb d 0x10
is_shaped octets = true

unread : (octets : List ℕ) → (nat_le 5 (length octets) && eqb (states_length octets) (length octets - 5)) ≡ false → IsNone octets
unread octets is = ap (λ b. transaction_of (cond b (Some (record { identifier = slice_index octets 0; transaction = big_number 2 (drop 1 octets); parameters = drop 5 octets })) None)) is

high : (d : ℕ) → (eqb d 0x97 || eqb d 0x10) ≡ true → 0x10 ≤ d
high d is = by (eqb d 0x97) refl (eqb d 0x10) refl is
  where
    by : (a : Bool) → eqb d 0x97 ≡ a → (b : Bool) → eqb d 0x10 ≡ b → (a || b) ≡ true → 0x10 ≤ d
    by true one b other is = let same : d ≡ 0x97 = eqb-true d 0x97 one in omega (arith, same)
    by false one true other is = let same : d ≡ 0x10 = eqb-true d 0x10 other in omega (arith, same)
    by false one false other is = cc

shaped_none : (octets : List ℕ) → length octets ≤ 7 → is_shaped octets ≡ true → IsNone octets
shaped_none [] few shaped = refl
shaped_none (a ∷ []) few shaped = refl
shaped_none (a ∷ b ∷ []) few shaped = refl
shaped_none (a ∷ b ∷ c ∷ []) few shaped = refl
shaped_none (a ∷ b ∷ c ∷ d ∷ []) few shaped = refl
shaped_none (a ∷ b ∷ c ∷ d ∷ e ∷ rest) few shaped = unread octets (by (eqb (states_length octets) (length octets - 5)) refl)
  where
    octets : List ℕ
    octets = a ∷ b ∷ c ∷ d ∷ e ∷ rest

    by : (same : Bool) → eqb (states_length octets) (length octets - 5) ≡ same → (nat_le 5 (length octets) && same) ≡ false
    by true is =
        let stated : states_length octets ≡ length octets - 5 = eqb-true (states_length octets) (length octets - 5) is in
        let number : states_length octets ≡ d * 256 + e = two_octets d e rest in
        let low = high d shaped in
        absurd (omega (arith, stated, number, few, low))
    by false is = and_off (nat_le 5 (length octets))

said_shaped : (packet : List ℕ) (maximum : ℕ) (turn : Turn) → is_shaped (octets_said packet maximum turn.saying) ≡ true
said_shaped packet maximum turn = grind arith

said_none : (packet : List ℕ) (maximum : ℕ) (turn : Turn) → IsNone (octets_said packet maximum turn.saying)
said_none packet maximum turn = shaped_none (octets_said packet maximum turn.saying) (said_few packet maximum turn.saying) (said_shaped packet maximum turn)

hears_none : (t : Transport) (packet : List ℕ) (sessions : Sessions) (gift : Gift) → IsNone (hears t packet sessions gift).response
hears_none t packet sessions gift =
    cond_both (is_naming t packet sessions) _ _ (λ (h : model.Heard). IsNone h.response)
    (λ named.
    let parted = lets_go (other_of t) sessions gift in
    cond_both parted.short _ (answers_to t packet parted.sessions parted.gift) (λ (h : model.Heard). IsNone h.response) (λ short. refl) (λ enough. said_none packet (session_of t parted.sessions).maximum (heard_with (session_of t parted.sessions) packet parted.gift.answers)))
    (λ unnamed. said_none packet (session_of t sessions).maximum (heard_with (session_of t sessions) packet gift.answers))

abbrev HasNone : Service → Type 0
HasNone service = IsNone service.response

over_none : (t : Transport) (response : List ℕ) (service : Service) → IsNone response → HasNone service → HasNone (response_over t response service)
over_none L2cap [] service now none = none
over_none Rfcomm [] service now none = none
over_none L2cap (octet ∷ octets) service now none = now
over_none Rfcomm (octet ∷ octets) service now none = none

packet_none : (t : Transport) (packet : List ℕ) (service : Service) (gift : Gift) → HasNone service → HasNone (hears_packet t packet service gift).service
packet_none t packet service gift none =
    cond_both (is_ignored t packet service) _ _ (λ (x : Served). HasNone x.service) (λ ignored. none)
    (λ taken.
    let h = hears t packet service.sessions gift in
    over_none t h.response (record service { sessions = h.sessions; failed = service.failed || h.short }) (hears_none t packet service.sessions gift) none)

more_none : (less : ℕ) (rest : List ℕ) (heeded : Heeded) → HasNone heeded.listener.service → ((l : Listener) (g : Gift) → HasNone l.service → HasNone (hears_stream less rest l g).listener.service)
    → HasNone (listening.hears_on (λ l g. hears_stream less rest l g) heeded).listener.service
more_none less rest heeded none more = cond_both (stops heeded.listener) _ _ (λ (r : Received). HasNone r.listener.service) (λ e. none) (λ e. more heeded.listener heeded.gift none)

front_none : (less : ℕ) (stream : List ℕ) (front : Front) (listener : Listener) (gift : Gift) → HasNone listener.service → ((rest : List ℕ) (l : Listener) (g : Gift) → HasNone l.service → HasNone (hears_stream less rest l g).listener.service)
    → HasNone (hears_front (λ rest l g. hears_stream less rest l g) stream front listener gift).listener.service
front_none less stream (Whole packet rest) listener gift none more = more_none less rest (heeds_carried packet listener gift) (packet_none Rfcomm packet listener.service gift none) (more rest)
front_none less stream Partial listener gift none more = none
front_none less stream (Broken refusal) listener gift none more = packet_none Rfcomm (take 3 stream) listener.service gift none

stream_none : (steps : ℕ) (stream : List ℕ) (listener : Listener) (gift : Gift) → HasNone listener.service → HasNone (hears_stream steps stream listener gift).listener.service
unfolding hears_stream
stream_none zero stream listener gift none = none
stream_none (suc steps) stream listener gift none = front_none steps stream (front_of listener.service.sessions.carried.maximum stream) listener gift none (λ rest l g t. stream_none steps rest l g t)

-- ---- the server

record Says (server : Server) : Type 0 where
  reply : IsNone server.reply
  response : HasNone server.listener.service

search_says : (sdu : List ℕ) (server : Server) → Says server → Says (hears_search sdu server)
search_says sdu server says = cond_both (is_empty server.reply) _ _ Says (λ e. record { reply = reply_none server.serves sdu; response = says.response }) (λ e. says)

up_says : (u : Up) (server : Server) (gift : Gift) → Says server → Says (hears_up u server gift).server
up_says nothing server gift says = says
up_says opened server gift says = says
up_says (closed reason) server gift says = record { reply = says.reply; response = says.response }
up_says (bytes octets) server gift says =
    cond_both server.listener.breaks _ _ (λ (r : Reacted). Says r.server) (λ e. says)
    (λ e. record { reply = says.reply; response = stream_none (length (server.held ++ octets)) (server.held ++ octets) server.listener gift says.response })

hears_says : (psm : ℕ) (sdu : List ℕ) (server : Server) (gift : Gift) → Says server → Says (hears_on psm sdu server gift).server
hears_says psm sdu server gift says =
    cond_both (eqb psm 0x0001) _ _ (λ (r : Reacted). Says r.server) (λ e. search_says sdu server says)
    (λ e. cond_both (eqb psm 0x0003) _ _ (λ (r : Reacted). Says r.server)
    (λ f. up_says (up sdu server.mux) (record server { mux = hearing.hears sdu server.mux }) gift (record { reply = says.reply; response = says.response }))
    (λ f. cond_both (eqb psm 0x1001) _ _ (λ (r : Reacted). Says r.server)
    (λ g. record { reply = says.reply; response = packet_none L2cap sdu server.listener.service gift says.response }) (λ g. says)))

said_says : (o : Option Said) (server : Server) → Says server → Says (said_on o server)
said_says None server says = record { reply = says.reply; response = says.response }
said_says (Some said) server says = record { reply = says.reply; response = says.response }

leaves_says : (o : Option Said) (server : Server) → Says server → Says (leaves_with o server)
leaves_says (Some said) server says = said_says (Some said) server says
leaves_says None server says =
    let quiet : Server = said_on None server in
    cond_both (breaks_now quiet) (left_by quiet) quiet Says
    (λ e. said_says (next (leaves server.mux)) (record quiet { mux = leaves server.mux }) (record { reply = says.reply; response = says.response }))
    (λ e. said_says None server says)

filled_says : (server : Server) → Says server → Says (filled server)
filled_says server says = cond_both (is_ready server.mux && not (is_empty server.listener.service.answer)) _ _ Says (λ e. record { reply = says.reply; response = says.response }) (λ e. says)

framed_says : (o : Option PlainFrame) (server : Server) → Says server → Says (framed_by o server)
framed_says None server says = leaves_says (next (filled server).mux) (filled server) (filled_says server says)
framed_says (Some frame) server says = says

lends_says : (o : Option Outlet) (server : Server) → Says server → Says (lends_by o server)
lends_says (Some outlet) server says = says
lends_says None server says =
    let full : Server = framed server in
    let so : Says full = framed_says server.frame server says in
    cond_both (is_empty server.reply && is_empty server.listener.service.response) (record full { lent = outlet_of full }) (record server { lent = outlet_of server }) Says
    (λ e. record { reply = so.reply; response = so.response }) (λ e. record { reply = says.reply; response = says.response })

taken_says : (o : Option Outlet) (server : Server) → Says server → Says (taken_by o server)
taken_says None server says = says
taken_says (Some Records) server says = record { reply = refl; response = says.response }
taken_says (Some Direct) server says = record { reply = says.reply; response = refl }
taken_says (Some Muxed) server says = record { reply = says.reply; response = says.response }

direct_says : (server : Server) (gift : Gift) → Says server → Says (lets_go_on L2cap (unanswered server) gift).server
direct_says server gift says = record { reply = says.reply; response = refl }

carried_says : (server : Server) (gift : Gift) → Says server → Says (lets_go_on Rfcomm (remuxed server) gift).server
carried_says server gift says = record { reply = says.reply; response = says.response }

unreplied_says : (server : Server) → Says server → Says (unreplied server)
unreplied_says server says = record { reply = refl; response = says.response }

closed_says : (psm : ℕ) (server : Server) (gift : Gift) → Says server → Says (closed_on psm server gift).server
closed_says psm server gift says =
    cond_both (eqb psm 0x0001) _ _ (λ (r : Reacted). Says r.server) (λ e. unreplied_says server says)
    (λ e. cond_both (eqb psm 0x0003) _ _ (λ (r : Reacted). Says r.server) (λ f. carried_says server gift says)
    (λ f. cond_both (eqb psm 0x1001) _ _ (λ (r : Reacted). Says r.server) (λ g. direct_says server gift says) (λ g. says)))

unless_says : (failed : Bool) (server : Server) (gift : Gift) (r : Reacted) → Says server → Says r.server → Says (cond failed (record { server = server; gift = gift }) r).server
unless_says true server gift r says other = says
unless_says false server gift r says other = other

twice_says : (r : Reacted) → Says r.server → Says (lets_go_twice r).server
twice_says r says = unless_says r.server.listener.service.failed r.server r.gift _ says (carried_says (unreplied r.server) r.gift (unreplied_says r.server says))

done_says : (one : push.Occurrence) (at : Reacted) → Says at.server → Says (done one at).server
done_says (Came psm sdu) at says = unless_says at.server.listener.service.failed at.server at.gift (hears_on psm sdu at.server at.gift) says (hears_says psm sdu at.server at.gift says)
done_says (Went psm sdu) at says = taken_says at.server.lent at.server says
done_says (Closed psm) at says = unless_says at.server.listener.service.failed at.server at.gift (closed_on psm at.server at.gift) says (closed_says psm at.server at.gift says)
done_says LinkDown at says =
    unless_says at.server.listener.service.failed at.server at.gift (lets_go_twice (lets_go_on L2cap (unanswered at.server) at.gift)) says (twice_says (lets_go_on L2cap (unanswered at.server) at.gift) (direct_says at.server at.gift says))
done_says Asked at says = lends_says at.server.lent at.server says
done_says (Answering answers) at says = says

all_say : (occurrences : List push.Occurrence) (at : Reacted) → Says at.server → Says (all_done occurrences at).server
all_say [] at says = says
all_say (one ∷ rest) at says = all_say rest (done one at) (done_says one at says)

-- ---- what is lent

address_apart : (frame : PlainFrame) → eqb (address_of frame) 6 ≡ false
address_apart frame = by (eqb (address_of frame) 6) refl
  where
    by : (b : Bool) → eqb (address_of frame) 6 ≡ b → b ≡ false
    by true is = let same : 1 + 2 * bit frame.cr + 4 * frame.dlci ≡ 6 = eqb-true (address_of frame) 6 is in absurd (omega (arith, same))
    by false is = refl

same_lent : (a b : Lent) → Some a ≡ Some b → a ≡ b
same_lent a b is = cc

frame_none : (frame : Option PlainFrame) (lent : Lent) → frame_lent frame ≡ Some lent → IsNone (sdu_of lent.payload)
frame_none None lent is = cc
frame_none (Some frame) lent is = subst (λ (l : Lent). IsNone (sdu_of l.payload)) (same_lent (record { psm = 0x0003; payload = Framed frame }) lent is) (first_apart (sdu_of (Framed frame)) (address_apart frame))

lent_none : (o : Option Outlet) (server : Server) (lent : Lent) → Says server → lent_by o server ≡ Some lent → IsNone (sdu_of lent.payload)
lent_none None server lent says is = cc
lent_none (Some Records) server lent says is = subst (λ (l : Lent). IsNone (sdu_of l.payload)) (same_lent (record { psm = 0x0001; payload = Octets server.reply }) lent is) says.reply
lent_none (Some Direct) server lent says is = subst (λ (l : Lent). IsNone (sdu_of l.payload)) (same_lent (record { psm = 0x1001; payload = Octets server.listener.service.response }) lent is) says.response
lent_none (Some Muxed) server lent says is = frame_none server.frame lent is

-- ---- all that a server asks

all_both : (xs ys : List Occurrence) → AllByRecursion AsksNoServices xs → AllByRecursion AsksNoServices ys → AllByRecursion AsksNoServices (xs ++ ys)
all_both [] ys one two = two
all_both (x ∷ xs) ys one two = (one.0, all_both xs ys one.1 two)

all_right : (xs ys : List Occurrence) → AllByRecursion AsksNoServices (xs ++ ys) → AllByRecursion AsksNoServices ys
all_right [] ys all = all
all_right (x ∷ xs) ys all = all_right xs ys all.1

called_none : (serving : ServerProfile) (call : Option Call) → Says serving.server → ((one : Call) → call ≡ Some one → IsLent serving one) → AllByRecursion AsksNoServices (from_call call)
called_none serving None says lent = tt
called_none serving (Some (Connect psm)) says lent = (tt, tt)
called_none serving (Some AskFeatures) says lent = (tt, tt)
called_none serving (Some (Disconnect own)) says lent = (tt, tt)
called_none serving (Some (Send own sdu)) says lent =
    let (one, is, same) = lent (Send own sdu) refl in
    let server = lends serving.server in
    (subst IsNone (sym same) (lent_none server.lent server one (lends_says serving.server.lent serving.server says) is), tt)

module _ (settings : Settings) (content : Option Contents) (asks : Asks (server_profile settings content)) (sends : SendsAsItLends settings content asks) where
  feed_none : (serving : ServerProfile) (feed : Feed) → Says serving.server → AllByRecursion AsksNoServices (asked_with (server_profile settings content) asks serving feed)
  feed_none serving (Gifts circumstances) says = tt
  feed_none serving (Learns circumstances news) says = tt
  feed_none serving (Receives own psm sdu) says = tt
  feed_none serving (Happens event v) says = tt
  feed_none serving (Sent v) says = tt
  feed_none serving (Steps v) says = called_none serving (asks.call v serving) says (λ one is. sends v serving one is)

  feed_says : (serving : ServerProfile) (feed : Feed) → Says serving.server → Says (fed (server_profile settings content) serving feed).server
  feed_says serving feed says = subst (λ (at : Reacted). Says at.server) (sym (feed_done settings content serving feed)) (all_say (served_with serving feed) (reacted serving) says)

  feeds_none : (feeds : List Feed) (serving : ServerProfile) → Says serving.server → AllByRecursion AsksNoServices (asked_from (server_profile settings content) asks serving feeds)
  feeds_none [] serving says = tt
  feeds_none (feed ∷ feeds) serving says =
      let A = server_profile settings content in
      all_both (asked_with A asks serving feed) (asked_from A asks (fed A serving feed) feeds) (feed_none serving feed says) (feeds_none feeds (fed A serving feed) (feed_says serving feed says))

list_none : (list : List Occurrence) → AllByRecursion AsksNoServices (filter_map asked list) → AllByRecursion AsksNoServices list
list_none [] all = tt
list_none (Comes pdu ∷ list) all = (tt, list_none list all)
list_none (Connects psm ∷ list) all = (tt, list_none list all.1)
list_none (AsksFeatures ∷ list) all = (tt, list_none list all.1)
list_none (Disconnects own ∷ list) all = (tt, list_none list all.1)
list_none (Sends own sdu ∷ list) all = (all.0, list_none list all.1)
list_none (Gives pdu ∷ list) all = (tt, list_none list all)
list_none (Fires ∷ list) all = (tt, list_none list all)
list_none (Tells ∷ list) all = (tt, list_none list all)

pub servers_await_nothing : ServersAwaitNothing
servers_await_nothing settings content party asks marks host lives states uttered sends quiet =
    let wanted = policy settings true in
    let A = server_profile settings content in
    let asked_before = flat_map (λ (span : Span). filter_map asked span.list) lives.spans in
    let all = subst (AllByRecursion AsksNoServices) (sym lives.asked_are) (feeds_none settings content asks sends lives.feeds A.first (record { reply = refl; response = refl })) in
    let none = list_none lives.now (all_right asked_before (filter_map asked lives.now) all) in
    let still : armed (run_of wanted lives.now).value ≡ false = ap armed (sym lives.channels_run) ∙ quiet in
    let both = channels-alone_wait wanted party lives.now states uttered refl none ∙ armed-is_what_waits wanted party lives.now states uttered in
    sym still ∙ (both ∙ ap (λ b. b || services_wait party (run_of wanted lives.now).said) still)
