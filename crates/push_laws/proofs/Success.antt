-- A push is done exactly where its final PUT is answered with success.
use Rattle.std.proofs.Common.{zero, suc, Bool, true, false, ◌||◌, ◌&&◌, ◌≡◌, ◌==◌, ℕ, eqb, List, [], ◌∷◌, ◌++◌, length, Option, Some, None, is_none, Result, Ok, Err, refl, sym, ap, ◌∙◌, if◌then◌else◌}
use Rattle.std.specs.Prelude.{not, nat_lt}
use Rattle.std.proofs.lemmas.Bool.{cond-true, eqb-true, eq-eqb}
use Rattle.link_talk.specs.bt_base.specs.declared.ports.PortFault.{PortFault}
use Rattle.link_talk.specs.bt_base.specs.declared.ports.PortFault.TheVariants as fault
use Rattle.link_talk.specs.bt_base.specs.declared.settings.Transport.{Transport}
use Rattle.link_talk.specs.bt_base.specs.declared.settings.Transport.TheVariants.{L2cap, Rfcomm}
use Rattle.link_talk.specs.push_terms.specs.declared.outcome.Outcome.{Outcome}
use Rattle.link_talk.specs.push_terms.specs.declared.outcome.Outcome.TheVariants as outcomes
use Rattle.push_model.specs.rfcomm_model.specs.Hearing.{Up, nothing, opened, bytes, closed, up, hears}
use Rattle.push_model.specs.rfcomm_model.specs.Saying.{Said, next}
use Rattle.push_model.specs.sdp_client.specs.Asking.{is_due}
use Rattle.push_model.specs.sdp_client.specs.Hearing.{found_at}
use Rattle.push_model.specs.sdp_client.specs.declared.reason.Found.{Found}
use Rattle.push_model.specs.sdp_client.specs.declared.reason.Found.TheVariants as found
use Rattle.push_model.specs.obex_headers.specs.declared.fault.ObexRefusal.{ObexRefusal}
use Rattle.push_model.specs.obex_headers.specs.declared.packet.Phase.TheVariants.{Response}
use Rattle.push_model.specs.obex_headers.specs.Packets.{PlainPacket}
use Rattle.push_model.specs.obex_headers.specs.Reading.{packet_in}
use Rattle.push_model.specs.obex_session.specs.declared.asking.Request.{Request}
use Rattle.push_model.specs.obex_session.specs.declared.asking.Request.TheVariants.{Connect, FirstPut, FinalPut, Abort, Disconnect, Stream}
use Rattle.push_model.specs.obex_session.specs.declared.asking.Request.TheVariants as requests
use Rattle.push_model.specs.obex_session.specs.declared.client.Answered.{Answered}
use Rattle.push_model.specs.obex_session.specs.declared.client.Answered.TheVariants.{Go, Done, Refused, Bad, Srmp}
use Rattle.push_model.specs.obex_session.specs.Asking.{phase_of, awaited_code, success_of, answer_read, answer_to}
use Rattle.push_model.specs.obex_session.specs.Marks.{marks_of}
use Rattle.push_model.specs.obex_session.specs.Views.{answer_at, after_at, is_stream}
use Rattle.push_model.specs.declared.closing.CloseCause.{CloseCause}
use Rattle.push_model.specs.declared.course.Point.TheVariants.{Due, Asked}
use Rattle.push_model.specs.declared.course.Stage.{Stage}
use Rattle.push_model.specs.declared.course.Stage.TheVariants.{Rest, Link, SearchChannel, Search, SearchEnd, Features, ObjectChannel, Object, ObjectEnd, LinkEnd, Over}
use Rattle.push_model.specs.Causes.{cause_of_link, cause_of_page, cause_of_close, cause_of_query, cause_of_mux, cause_of_obex, small_channel, unawaited_response}
use Rattle.push_model.specs.Client.{Client, ends, is_direct, may_cancel}
use Rattle.push_model.specs.Events as events
use Rattle.push_model.specs.Events.{search_psm}
use Rattle.push_model.specs.Laws.{Deed, Hears, Asks, Finishes, Cancels, all_done}
use Rattle.push_model.specs.Responding.{takes, hears_answer, hears_response, is_success, is_early, is_left, is_object}
use Rattle.push_model.specs.Shown.{first_of, watched, closed_shows, opened_shows, way_of, found_shows, says, answer_shows, response_shows, front_shows, stream_shows, up_shows, object_shows, outside_shows, sdu_shows, news_show, part_shows, ask_shows, said_shows, step_shows, shows}
use Rattle.push_model.specs.Steps as steps
use Rattle.push_model.specs.Steps.{Part, Ask, puts, takes_some, filled, next_ask, may_ask}
use Rattle.push_model.specs.Streams.{Front, Whole, Partial, Broken, front_of}
use Rattle.push_model.specs.ShownFirst.{IsEndedBy}
use Rattle.push_model.proofs.ShownFirstLaws.{outcomes_end_exactly}
use Rattle.push_laws.specs.Success.{IsSuccess, AnswersFinalPut, Brings, IsToldSuccess, TellsSuccess, HearsSuccess, SuccessIsHeard, IsDoneExactly, DoneExactly}
use Rattle.push_laws.proofs.Answered.{final_ends, goes_answered}
use Rattle.push_laws.proofs.Talks.{is_reserved, AreFree, link_free, close_free, query_free}

-- ---- what does not show that it is done

abbrev NotDone : Option Outcome → Type 0
NotDone shown = shown ≡ Some outcomes.Done → ⊥

same_outcome : (a b : Outcome) → Some a ≡ Some b → a ≡ b
same_outcome a b e = cc

not_reserved : (o : Outcome) → is_reserved o ≡ false → NotDone (Some o)
not_reserved o free e = let f : true ≡ false = sym (ap is_reserved (same_outcome o outcomes.Done e)) ∙ free in absurd cc

none : NotDone None
none e = absurd cc

free : (shown : Option Outcome) → AreFree shown → NotDone shown
free None f = none
free (Some o) f = not_reserved o f

either : (test : Bool) (a b : Option Outcome) → NotDone a → NotDone b → NotDone (if test then a else b)
either true a b x y = x
either false a b x y = y

-- ---- a response

read_cases : (maximum : ℕ) (packet : List ℕ) (P : Result PlainPacket ObexRefusal → Type 0) → ((read : PlainPacket) → packet_in Response maximum packet ≡ Ok read → P (Ok read)) → ((refusal : ObexRefusal) → P (Err refusal)) → P (packet_in Response maximum packet)
read_cases maximum packet P ok err = by (packet_in Response maximum packet) refl
  where
    by : (x : Result PlainPacket ObexRefusal) → packet_in Response maximum packet ≡ x → P x
    by (Ok read) e = ok read e
    by (Err refusal) e = err refusal

tests_done : (parameters matches : Bool) (refused : ℕ) → (if parameters then Srmp else if matches then Done else Refused refused) ≡ Done → (parameters ≡ false) × (matches ≡ true)
tests_done true matches refused e = absurd (let f : Srmp ≡ Done = e in cc)
tests_done false true refused e = (refl, refl)
tests_done false false refused e = absurd (let f : Refused refused ≡ Done = e in cc)

tests_go : (parameters matches : Bool) (refused : ℕ) → (if parameters then Srmp else if matches then Go else Refused refused) ≡ Done → ⊥
tests_go true matches refused e = let f : Srmp ≡ Done = e in absurd cc
tests_go false true refused e = let f : Go ≡ Done = e in absurd cc
tests_go false false refused e = let f : Refused refused ≡ Done = e in absurd cc

read_not_done : (request : Request) → success_of request ≡ Go → (read : Result PlainPacket ObexRefusal) → answer_read request read ≡ Done → ⊥
read_not_done request goes (Ok packet) e =
    tests_go (marks_of packet.headers).parameters (eqb packet.code (awaited_code request)) packet.code
    (sym (ap (λ (a : Answered). if (marks_of packet.headers).parameters then Srmp else if eqb packet.code (awaited_code request) then a else Refused packet.code) goes) ∙ e)
read_not_done request goes (Err refusal) e = let f : Bad refusal ≡ Done = e in absurd cc

final_read : (maximum : ℕ) (packet : List ℕ) → answer_to maximum FinalPut packet ≡ Done → IsSuccess maximum packet
final_read maximum packet =
    read_cases maximum packet (λ read. answer_read FinalPut read ≡ Done → IsSuccess maximum packet)
    (λ read is e. let tests = tests_done (marks_of read.headers).parameters (eqb read.code 0xA0) read.code e in record { read = read; is = is; code = eqb-true read.code 0xA0 tests.1; plain = tests.0 })
    (λ refusal e. absurd (let f : Bad refusal ≡ Done = e in cc))

-- the request that is answered is the final PUT
only_final : (request : Request) (maximum : ℕ) (packet : List ℕ) → answer_to maximum request packet ≡ Done → (request ≡ FinalPut) × IsSuccess maximum packet
only_final FinalPut maximum packet e = (refl, final_read maximum packet e)
only_final Connect maximum packet e = absurd (read_not_done Connect refl (packet_in (phase_of Connect) maximum packet) e)
only_final FirstPut maximum packet e = absurd (read_not_done FirstPut refl (packet_in Response maximum packet) e)
only_final requests.Put maximum packet e = absurd (read_not_done requests.Put refl (packet_in Response maximum packet) e)
only_final Stream maximum packet e = absurd (read_not_done Stream refl (packet_in Response maximum packet) e)
only_final Abort maximum packet e = absurd (read_not_done Abort refl (packet_in Response maximum packet) e)
only_final Disconnect maximum packet e = absurd (read_not_done Disconnect refl (packet_in Response maximum packet) e)

says_done : (answered : Answered) → says answered ≡ Some outcomes.Done → answered ≡ Done
says_done Go e = absurd (none e)
says_done Done e = refl
says_done (Refused code) e = absurd (not_reserved (outcomes.Refused code) refl e)
says_done (Bad refusal) e = absurd (not_reserved (cause_of_obex refusal) refl e)
says_done Srmp e = absurd (not_reserved (outcomes.PeerFault 5 152) refl e)

not_early : (early : Bool) (answered : Answered) → (if is_success answered && early then Some unawaited_response else says answered) ≡ Some outcomes.Done → (answered ≡ Done) × (early ≡ false)
not_early true Go e = absurd (not_reserved unawaited_response refl e)
not_early true Done e = absurd (not_reserved unawaited_response refl e)
not_early true (Refused code) e = absurd (not_reserved (outcomes.Refused code) refl e)
not_early true (Bad refusal) e = absurd (not_reserved (cause_of_obex refusal) refl e)
not_early true Srmp e = absurd (not_reserved (outcomes.PeerFault 5 152) refl e)
not_early false Go e = absurd (none e)
not_early false Done e = (refl, refl)
not_early false (Refused code) e = absurd (not_reserved (outcomes.Refused code) refl e)
not_early false (Bad refusal) e = absurd (not_reserved (cause_of_obex refusal) refl e)
not_early false Srmp e = absurd (not_reserved (outcomes.PeerFault 5 152) refl e)

left_none : (a b : Bool) → (a || b) ≡ false → a ≡ false
left_none false b e = refl
left_none true b e = e

response_done : (packet : List ℕ) (client : Client) → response_shows packet client ≡ Some outcomes.Done → AnswersFinalPut packet client
response_done packet client = by client.session.awaited refl
  where
    by : (awaited : Option Request) → client.session.awaited ≡ awaited → answer_shows (answer_at awaited client.session packet) client ≡ Some outcomes.Done → AnswersFinalPut packet client
    by None is e = absurd (not_reserved unawaited_response refl e)
    by (Some request) is e =
        let told = not_early (is_early client) (answer_to client.session.maximum request packet) e in
        let final = only_final request client.session.maximum packet told.0 in
        record { awaited = is ∙ ap Some final.0; sent = left_none client.going (is_stream client.session.awaited) told.1; success = final.1 }

final_answer : (maximum : ℕ) (packet : List ℕ) → IsSuccess maximum packet → answer_to maximum FinalPut packet ≡ Done
final_answer maximum packet s =
    ap (answer_read FinalPut) s.is
    ∙ ap (λ (b : Bool). if b then Srmp else if eqb s.read.code 0xA0 then Done else Refused s.read.code) s.plain
    ∙ ap (λ (n : ℕ). if eqb n 0xA0 then Done else Refused s.read.code) s.code

response_success : (packet : List ℕ) (client : Client) → AnswersFinalPut packet client → response_shows packet client ≡ Some outcomes.Done
response_success packet client a =
    ap (λ awaited. answer_shows (answer_at awaited client.session packet) client) a.awaited
    ∙ ap (λ (answered : Answered). answer_shows (Some answered) client) (final_answer client.session.maximum packet a.success)
    ∙ ap (λ (early : Bool). if early then Some unawaited_response else Some outcomes.Done) (ap (λ (b : Bool). b || is_stream client.session.awaited) a.sent ∙ ap is_stream a.awaited)

-- ---- a stream of them

-- where no request waits for a response nothing more says that it is done
unawaited : (more : List ℕ → Client → Option Outcome) (front : Front) (client : Client) → client.session.awaited ≡ None → NotDone (front_shows more front client)
unawaited more (Whole packet rest) client is =
    λ e. not_reserved unawaited_response refl
    (sym (ap (λ awaited. first_of (answer_shows (answer_at awaited client.session packet) (record client { held = [] })) (more rest (hears_response packet (record client { held = [] })))) is) ∙ e)
unawaited more Partial client is = none
unawaited more (Broken refusal) client is = not_reserved (cause_of_obex refusal) refl

unawaited_stream : (count : ℕ) (stream : List ℕ) (client : Client) → client.session.awaited ≡ None → NotDone (stream_shows count stream client)
unfolding stream_shows
unawaited_stream zero stream client is = none
unawaited_stream (suc count) stream client is = unawaited (λ rest next. stream_shows count rest next) (front_of client.session.maximum stream) client is

first_done : (first later : Option Outcome) → first_of first later ≡ Some outcomes.Done → (first ≡ None → NotDone later) → first ≡ Some outcomes.Done
first_done None later e not = absurd (not refl e)
first_done (Some o) later e not = e

some_none : (o : Outcome) → Some o ≡ None → ⊥
some_none o e = absurd cc

-- where a response shows nothing the client goes on, and no request waits
goes_on : (packet : List ℕ) (client : Client) → response_shows packet client ≡ None → (hears_response packet client).session.awaited ≡ None
goes_on packet client = by (answer_at client.session.awaited client.session packet) refl
  where
    heard : Client
    heard = record client { session = after_at client.session.awaited client.session packet }

    gone : answer_at client.session.awaited client.session packet ≡ Some Go → (early : Bool) → (if early then Some unawaited_response else None) ≡ None
        → (if early then ends unawaited_response heard else takes Go heard).session.awaited ≡ None
    gone is true e = absurd (some_none unawaited_response e)
    gone is false e = (goes_answered client.session packet is).free

    never : (early : Bool) (o : Outcome) → (if early then Some unawaited_response else Some o) ≡ None → ⊥
    never true o e = some_none unawaited_response e
    never false o e = some_none o e

    by : (answer : Option Answered) → answer_at client.session.awaited client.session packet ≡ answer → answer_shows answer client ≡ None → (hears_answer answer packet client).session.awaited ≡ None
    by None is e = absurd (some_none unawaited_response e)
    by (Some Go) is e = gone is (is_early client) e
    by (Some Done) is e = absurd (never (is_early client) outcomes.Done e)
    by (Some (Refused code)) is e = absurd (some_none (outcomes.Refused code) e)
    by (Some (Bad refusal)) is e = absurd (some_none (cause_of_obex refusal) e)
    by (Some Srmp) is e = absurd (some_none (outcomes.PeerFault 5 152) e)

Fronted : List ℕ → Client → Type 0
Fronted stream client = (packet : List ℕ) × (rest : List ℕ) × (front_of client.session.maximum stream ≡ Whole packet rest) × AnswersFinalPut packet client

stream_done : (count : ℕ) (stream : List ℕ) (client : Client) → stream_shows count stream client ≡ Some outcomes.Done → Fronted stream client
unfolding stream_shows Fronted
stream_done zero stream client e = absurd (none e)
stream_done (suc count) stream client e = by (front_of client.session.maximum stream) refl e
  where
    by : (front : Front) → front_of client.session.maximum stream ≡ front → front_shows (λ rest next. stream_shows count rest next) front client ≡ Some outcomes.Done
        → (packet : List ℕ) × (rest : List ℕ) × (front_of client.session.maximum stream ≡ Whole packet rest) × AnswersFinalPut packet client
    by (Whole packet rest) is e =
        let alone : Client = record client { held = [] } in
        let a = response_done packet alone (first_done (response_shows packet alone) (stream_shows count rest (hears_response packet alone)) e (λ quiet. unawaited_stream count rest (hears_response packet alone) (goes_on packet alone quiet))) in
        (packet, rest, is, record { awaited = a.awaited; sent = a.sent; success = a.success })
    by Partial is e = absurd (none e)
    by (Broken refusal) is e = absurd (not_reserved (cause_of_obex refusal) refl e)

nothing_whole : (maximum : ℕ) (packet rest : List ℕ) → front_of maximum [] ≡ Whole packet rest → ⊥
unfolding front_of
nothing_whole maximum packet rest e = let f : Partial ≡ Whole packet rest = e in absurd cc

stream_success : (stream : List ℕ) (client : Client) (packet rest : List ℕ) → front_of client.session.maximum stream ≡ Whole packet rest → AnswersFinalPut packet client → stream_shows (length stream) stream client ≡ Some outcomes.Done
unfolding stream_shows
stream_success [] client packet rest is a = absurd (nothing_whole client.session.maximum packet rest is)
stream_success (octet ∷ octets) client packet rest is a =
    let alone : Client = record client { held = [] } in
    ap (λ (front : Front). front_shows (λ rest next. stream_shows (length octets) rest next) front client) is
    ∙ ap (λ (shown : Option Outcome). first_of shown (stream_shows (length octets) rest (hears_response packet alone))) (response_success packet alone (record { awaited = a.awaited; sent = a.sent; success = a.success }))

-- ---- an SDU

Told : Transport → List ℕ → Client → Type 0
Told t sdu client = (packet : List ℕ) × Brings t sdu client packet × AnswersFinalPut packet client

object_done : (t : Transport) (sdu : List ℕ) (client : Client) → object_shows t sdu client ≡ Some outcomes.Done → Told t sdu client
unfolding Told Fronted
object_done L2cap sdu client e = (sdu, refl, response_done sdu client e)
object_done Rfcomm sdu client e = by (up sdu client.mux) refl e
  where
    now : Client
    now = record client { mux = hears sdu client.mux }

    by : (news : Up) → up sdu client.mux ≡ news → up_shows news now ≡ Some outcomes.Done → (packet : List ℕ) × Brings Rfcomm sdu client packet × AnswersFinalPut packet client
    by nothing is e = absurd (none e)
    by opened is e = absurd (none e)
    by (bytes octets) is e =
        let found = stream_done (length (client.held ++ octets)) (client.held ++ octets) now e in
        (found.0, (octets, found.1, is, found.2), record { awaited = found.3.awaited; sent = found.3.sent; success = found.3.success })
    by (closed reason) is e = absurd (either (is_left client.contact reason) None (Some (cause_of_mux reason)) none (not_reserved (cause_of_mux reason) refl) e)

object_success : (t : Transport) (sdu : List ℕ) (client : Client) (packet : List ℕ) → Brings t sdu client packet → AnswersFinalPut packet client → object_shows t sdu client ≡ Some outcomes.Done
object_success L2cap sdu client packet brings a = ap (λ (p : List ℕ). response_shows p client) brings ∙ response_success packet client a
object_success Rfcomm sdu client packet brings a =
    let now : Client = record client { mux = hears sdu client.mux } in
    ap (λ (news : Up). up_shows news now) brings.2 ∙ stream_success (client.held ++ brings.0) now packet brings.1 brings.3 (record { awaited = a.awaited; sent = a.sent; success = a.success })

here_done : (here : Bool) (psm : ℕ) (sdu : List ℕ) (client : Client) → (psm == client.psm) ≡ here → Object ≡ client.stage → (if here then object_shows client.transport sdu client else None) ≡ Some outcomes.Done → IsToldSuccess psm sdu client
unfolding Told
here_done true psm sdu client is stage e = let told = object_done client.transport sdu client e in record { stage = sym stage; here = eqb-true psm client.psm is; packet = told.0; brings = told.1; answers = told.2 }
here_done false psm sdu client is stage e = absurd (none e)

outside_free : (t : Transport) → NotDone (outside_shows t)
outside_free L2cap = not_reserved unawaited_response refl
outside_free Rfcomm = none

found_free : (t : Transport) (f : Found) → NotDone (found_shows t f)
found_free t found.More = none
found_free t (found.Service target) = either (is_none (way_of t target)) (Some outcomes.NoService) None (not_reserved outcomes.NoService refl) none
found_free t found.NoService = not_reserved outcomes.NoService refl
found_free t (found.Refused reason) = free (cause_of_query reason) (query_free reason)

sdu_done : (stage : Stage) (psm : ℕ) (sdu : List ℕ) (client : Client) → stage ≡ client.stage → sdu_shows stage psm sdu client ≡ Some outcomes.Done → IsToldSuccess psm sdu client
sdu_done Object psm sdu client is e = here_done (psm == client.psm) psm sdu client refl is e
sdu_done Search psm sdu client is e = absurd (either (psm == search_psm) (found_shows client.transport (found_at client.query sdu)) None (found_free client.transport (found_at client.query sdu)) none e)
sdu_done (ObjectChannel point) psm sdu client is e = absurd (either (psm == client.psm) (outside_shows client.transport) None (outside_free client.transport) none e)
sdu_done (ObjectEnd point) psm sdu client is e = absurd (either (psm == client.psm) (outside_shows client.transport) None (outside_free client.transport) none e)
sdu_done Rest psm sdu client is e = absurd (none e)
sdu_done (Link point) psm sdu client is e = absurd (none e)
sdu_done (SearchChannel point) psm sdu client is e = absurd (none e)
sdu_done (SearchEnd point) psm sdu client is e = absurd (none e)
sdu_done (Features point) psm sdu client is e = absurd (none e)
sdu_done (LinkEnd point) psm sdu client is e = absurd (none e)
sdu_done Over psm sdu client is e = absurd (none e)

-- ---- all else

opened_free : (stage : Stage) (psm mtu : ℕ) (client : Client) → NotDone (opened_shows stage psm mtu client)
opened_free (ObjectChannel Asked) psm mtu client = either ((psm == client.psm) && (is_direct client.transport && nat_lt mtu 255)) (Some small_channel) None (not_reserved small_channel refl) none
opened_free (ObjectChannel Due) psm mtu client = none
opened_free Object psm mtu client = none
opened_free Search psm mtu client = none
opened_free (ObjectEnd point) psm mtu client = none
opened_free Rest psm mtu client = none
opened_free (Link point) psm mtu client = none
opened_free (SearchChannel point) psm mtu client = none
opened_free (SearchEnd point) psm mtu client = none
opened_free (Features point) psm mtu client = none
opened_free (LinkEnd point) psm mtu client = none
opened_free Over psm mtu client = none

closed_free : (psm : ℕ) (cause : CloseCause) (own : Option ℕ) → NotDone (closed_shows psm cause own)
closed_free psm cause None = none
closed_free psm cause (Some own) = either (psm == own) (cause_of_close cause) None (free (cause_of_close cause) (close_free cause)) none

news_done : (news : events.News) (client : Client) → news_show news client ≡ Some outcomes.Done → TellsSuccess news client
news_done events.LinkUp client e = absurd (none e)
news_done (events.LinkDown reason) client e = absurd (either (events.is_linked client.stage) (Some (cause_of_link reason)) None (not_reserved (cause_of_link reason) (link_free reason)) none e)
news_done (events.LinkFailed status) client e = absurd (either (events.is_paging client.stage) (Some (cause_of_page status)) None (not_reserved (cause_of_page status) refl) none e)
news_done (events.ChannelOpen psm mtu) client e = absurd (opened_free client.stage psm mtu client e)
news_done (events.ChannelClosed psm cause) client e = absurd (closed_free psm cause (watched client.stage client) e)
news_done (events.Sdu psm octets) client e = sdu_done client.stage psm octets client refl e
news_done events.FeaturesTold client e = absurd (none e)
news_done events.FeaturesLost client e = absurd (either (events.is_asking_features client.stage) (Some outcomes.RetryLimit) None (not_reserved outcomes.RetryLimit refl) none e)
news_done events.Timer client e =
    absurd (either ((events.armed client && not (client.given || is_due client.query)) && (client.left == 0)) (Some outcomes.RetryLimit) None (not_reserved outcomes.RetryLimit refl) none e)

part_free : (outcome : Result (Unit {0}) PortFault) → NotDone (part_shows outcome)
part_free (Ok done) = none
part_free (Err fault.Failed) = λ e. let f : outcomes.ShelfFault ≡ outcomes.Done = same_outcome outcomes.ShelfFault outcomes.Done e in absurd cc
part_free (Err fault.NoMemory) = none

ask_free : (ask : Ask) (client : Client) (parts : List Part) → NotDone (ask_shows ask client parts)
ask_free steps.Put client parts = part_free (puts client parts).outcome
ask_free steps.Connect client parts = none
ask_free steps.Abort client parts = none
ask_free steps.Disconnect client parts = none
ask_free steps.Close client parts = none
ask_free steps.Nothing client parts = none

said_free : (said : Option Said) (client : Client) (parts : List Part) → NotDone (said_shows said client parts)
said_free None client parts =
    either (may_ask client && takes_some client.mux) (ask_shows (next_ask client) (record client { frame = None; rest = [] }) parts) None (ask_free (next_ask client) (record client { frame = None; rest = [] }) parts) none
said_free (Some said) client parts = none

step_free : (t : Transport) (client : Client) (parts : List Part) → NotDone (step_shows t client parts)
step_free L2cap client parts = either (may_ask client) (ask_shows (next_ask client) (record client { rest = [] }) parts) None (ask_free (next_ask client) (record client { rest = [] }) parts) none
step_free Rfcomm client parts = let full = filled client in said_free (next full.mux) full parts

shows_done : (deed : Deed) (client : Client) → shows deed client ≡ Some outcomes.Done → HearsSuccess deed client
shows_done (Hears news) client e = news_done news client e
shows_done (Asks parts) client e =
    either (not client.failed && (not client.given && is_object client.stage)) (step_shows client.transport client parts) None (step_free client.transport client parts) none e
shows_done Finishes client e = none e
shows_done Cancels client e = cancelled (may_cancel client) e
  where
    cancelled : (may : Bool) → (if may then Some outcomes.Cancelled else None) ≡ Some outcomes.Done → ⊥
    cancelled true e = let f : outcomes.Cancelled ≡ outcomes.Done = same_outcome outcomes.Cancelled outcomes.Done e in absurd cc
    cancelled false e = none e

news_success : (news : events.News) (client : Client) → TellsSuccess news client → news_show news client ≡ Some outcomes.Done
news_success (events.Sdu psm octets) client t =
    ap (λ (stage : Stage). sdu_shows stage psm octets client) t.stage ∙ cond-true (psm == client.psm) (object_shows client.transport octets client) None (eq-eqb psm client.psm t.here)
    ∙ object_success client.transport octets client t.packet t.brings t.answers
news_success events.LinkUp client t = absurd t
news_success (events.LinkDown reason) client t = absurd t
news_success (events.LinkFailed status) client t = absurd t
news_success (events.ChannelOpen psm mtu) client t = absurd t
news_success (events.ChannelClosed psm cause) client t = absurd t
news_success events.FeaturesTold client t = absurd t
news_success events.FeaturesLost client t = absurd t
news_success events.Timer client t = absurd t

success_shows : (deed : Deed) (client : Client) → HearsSuccess deed client → shows deed client ≡ Some outcomes.Done
success_shows (Hears news) client h = news_success news client h
success_shows (Asks parts) client h = absurd h
success_shows Finishes client h = absurd h
success_shows Cancels client h = absurd h

-- ---- the law

only_heard : (deeds : List Deed) (client : Client) → IsEndedBy outcomes.Done deeds client → SuccessIsHeard deeds client
only_heard deeds client s = record { before = s.before; deed = s.deed; after = s.after; parts = s.parts; first = s.first; heard = shows_done s.deed (all_done s.before client) s.shown }

always_done : (deeds : List Deed) (client : Client) → SuccessIsHeard deeds client → IsEndedBy outcomes.Done deeds client
always_done deeds client s = record { before = s.before; deed = s.deed; after = s.after; parts = s.parts; first = s.first; shown = success_shows s.deed (all_done s.before client) s.heard }

ends_done : (deeds : List Deed) (client : Client) → client.cause ≡ None → IsDoneExactly deeds client
ends_done deeds client start =
    let ends = outcomes_end_exactly deeds client outcomes.Done start in record { only = λ e. only_heard deeds client (ends.0 e); always = λ s. ends.1 (always_done deeds client s) }

pub done-exactly : DoneExactly
done-exactly = record { done = ends_done; final = final_ends }
