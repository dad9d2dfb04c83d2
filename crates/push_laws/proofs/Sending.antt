-- What a client sends in one push, whatever it hears.
use Rattle.std.proofs.Common.{◌≡◌, ℕ, ◌-◌, ◌++◌, ◌⊎◌, inl, inr, ◌&&◌, ◌||◌, ◌==◌, not, Bool, true, false, List, [], ◌∷◌, length, drop, Option, Some, None, is_some, is_none, Result, Ok, Err, refl, sym, ap, subst, ◌∙◌, arith, append-nil, append_assoc, if◌then◌else◌}
use Rattle.std.proofs.lemmas.Bool.{eqb-true, cond-true, cond-false}
use Rattle.link_talk.specs.bt_base.specs.declared.ports.PortFault.{PortFault}
use Rattle.link_talk.specs.bt_base.specs.declared.ports.PortFault.TheVariants as fault
use Rattle.link_talk.specs.bt_base.specs.declared.settings.Transport.{Transport}
use Rattle.link_talk.specs.bt_base.specs.declared.settings.Transport.TheVariants.{L2cap, Rfcomm}
use Rattle.link_talk.specs.push_terms.specs.declared.outcome.Outcome.{Outcome}
use Rattle.link_talk.specs.push_terms.specs.declared.outcome.Outcome.TheVariants as outcomes
use Rattle.push_model.specs.rfcomm_frames.specs.FrameReading.{is_empty}
use Rattle.push_model.specs.rfcomm_frames.specs.Frames.{PlainFrame}
use Rattle.push_model.specs.rfcomm_model.specs.Machine as mux
use Rattle.push_model.specs.rfcomm_model.specs.Machine.{is_ready, taken_count}
use Rattle.push_model.specs.rfcomm_model.specs.Saying.{Said, next}
use Rattle.push_model.specs.sdp_client.specs.Asking.{is_due, after_request, request_octets}
use Rattle.push_model.specs.obex_session.specs.NextPut.{is_waiting}
use Rattle.push_model.specs.obex_session.specs.Views.{is_final_put}
use Rattle.push_model.specs.declared.course.Contact.TheVariants.{Met, Closing}
use Rattle.push_model.specs.declared.course.Point.TheVariants.{Due, Asked}
use Rattle.push_model.specs.declared.course.Stage.{Stage}
use Rattle.push_model.specs.declared.course.Stage.TheVariants.{Rest, Link, SearchChannel, Search, SearchEnd, Features, ObjectChannel, Object, ObjectEnd, LinkEnd, Over}
use Rattle.push_model.specs.Client.{Client, ends, ends_by, is_rest, may_cancel}
use Rattle.push_model.specs.Events.{search_psm}
use Rattle.push_model.specs.Laws.{Deed, Hears, Asks, Finishes, Cancels, done, all_done}
use Rattle.push_model.specs.Payloads.{Octets}
use Rattle.push_model.specs.Responding.{is_object}
use Rattle.push_model.specs.Steps as steps
use Rattle.push_model.specs.Steps.{Part, Stepped, Made, Ask, Connect, Put, Abort, Disconnect, Close, Nothing, next_ask, may_ask, put_count, puts_part, puts_from, puts, leaves_by, failing, puts_or_leaves, requests, sends_direct, asks_direct, steps_direct, filled, said_by, says, sends_muxed, takes_some, asks_muxed, goes_muxed, steps_muxed, steps_object, tells_end, steps_at, rests, sends_sdu}
use Rattle.push_laws.specs.Sending.{packet_of, packet_asked, packets_behind, packets_muxed, packets_through, packets_by, packets_sent, sdus_of, Answers, AnswersTo, AllAnswer}
use Rattle.push_laws.proofs.Talks.{Talk, talk_of, object_of, news_keeps}
use Rattle.push_laws.proofs.Pushing.{Task, Gone, Stands, Suits, is_gone, sent_of, ends_stands, kept}
use Rattle.push_laws.proofs.Asking.{Told, whence, closes, connects, aborts, leaves, puts_stand, left_caused, no_wait}

-- ---- a request

abbrev MadeStands : Task → List (List ℕ) → Made → Type 0
MadeStands w sent request = Stands w (sent ++ packet_of request.outcome request) (talk_of request.client)

nothing_more : (w : Task) (sent : List (List ℕ)) (t : Talk) → Stands w sent t → Stands w (sent ++ []) t
nothing_more w sent t s = subst (λ (xs : List (List ℕ)). Stands w xs t) (sym (append-nil sent)) s

leaves_stand : (w : Task) (sent : List (List ℕ)) (ask : Ask) (client : Client) (parts : List Part) → ask ≡ next_ask client → client.contact ≡ Met → is_some client.cause ≡ true → Stands w sent (talk_of client) → MadeStands w sent (leaves_by ask client parts)
leaves_stand w sent Connect client parts is met caused s = leaves w sent client met caused s
leaves_stand w sent Put client parts is met caused s = leaves w sent client met caused s
leaves_stand w sent Abort client parts is met caused s = let when = (whence client.contact client.cause client.session.put).abort (sym is) in aborts w sent client met caused when.2 s
leaves_stand w sent Disconnect client parts is met caused s = leaves w sent client met caused s
leaves_stand w sent Close client parts is met caused s = leaves w sent client met caused s
leaves_stand w sent Nothing client parts is met caused s = leaves w sent client met caused s

pub same_contact : (cause : Option Outcome) (o : Outcome) (client : Client) → (ends_by cause o client).contact ≡ client.contact
same_contact None o client = refl
same_contact (Some earlier) o client = refl

pub has_ended : (cause : Option Outcome) (o : Outcome) (client : Client) → cause ≡ client.cause → is_some (ends_by cause o client).cause ≡ true
has_ended None o client is = refl
has_ended (Some earlier) o client is = ap is_some (sym is)

same_outcome : (a b : Outcome) → Some a ≡ Some b → a ≡ b
same_outcome a b is = cc

-- the shelf fails where no response is awaited, so ahead of the final PUT
fault_suits : (client : Client) → is_waiting client.session.awaited ≡ false → Suits outcomes.ShelfFault client.session
fault_suits client still = record {
  early = λ early e. let f : outcomes.ShelfFault ≡ outcomes.Done = same_outcome outcomes.ShelfFault outcomes.Done e in absurd cc;
  late = λ late given. no_wait (is_waiting client.session.awaited) still (ap is_waiting late);
}

failing_stands : (w : Task) (sent : List (List ℕ)) (client : Client) (parts : List Part) → client.contact ≡ Met → is_waiting client.session.awaited ≡ false → Stands w sent (talk_of client) → MadeStands w sent (failing client parts)
failing_stands w sent client parts met still s =
    let ended = ends outcomes.ShelfFault client in
    leaves_stand w sent (next_ask ended) ended parts refl (same_contact client.cause outcomes.ShelfFault client ∙ met) (has_ended client.cause outcomes.ShelfFault client refl)
    (ends_stands w sent outcomes.ShelfFault client (λ e. fault_suits client still) s)

part_stands : (w : Task) (sent : List (List ℕ)) (part : Part) (client : Client) (parts : List Part) → client.contact ≡ Met → client.cause ≡ None → is_waiting client.session.awaited ≡ false
    → ((octets : List ℕ) → part ≡ Ok octets → Told w.content client octets) → Stands w sent (talk_of client) → MadeStands w sent (puts_or_leaves (puts_part part client parts).outcome (puts_part part client parts))
part_stands w sent (Ok part) client parts met free still told s = puts_stand w sent client part met free still (told part refl) s
part_stands w sent (Err fault.Failed) client parts met free still told s = failing_stands w sent client parts met still s
part_stands w sent (Err fault.NoMemory) client parts met free still told s = nothing_more w sent (talk_of client) s

same_octets : (part : Part) (a b : List ℕ) → part ≡ Ok a → part ≡ Ok b → a ≡ b
same_octets part a b x y = cc

told_by : (w : Task) (client : Client) (part : Part) (parts : List Part) → Answers w.content client (part ∷ parts) → (octets : List ℕ) → part ≡ Ok octets → Told w.content client octets
told_by w client (Ok part) parts answers octets e = subst (Told w.content client) (same_octets (Ok part) part octets refl e) (answers.0, λ some. answers.1)
told_by w client (Err fault) parts answers octets e = absurd cc

from_stands : (w : Task) (sent : List (List ℕ)) (client : Client) (parts : List Part) → client.contact ≡ Met → client.cause ≡ None → is_waiting client.session.awaited ≡ false → Answers w.content client parts → Stands w sent (talk_of client)
    → MadeStands w sent (puts_or_leaves (puts_from parts client).outcome (puts_from parts client))
from_stands w sent client [] met free still answers s = failing_stands w sent client [] met still s
from_stands w sent client (part ∷ parts) met free still answers s = part_stands w sent part client parts met free still (told_by w client part parts answers) s

no_octets : (w : Task) (client : Client) (part : Part) → part ≡ Ok [] → put_count client ≡ 0 → (octets : List ℕ) → part ≡ Ok octets → Told w.content client octets
no_octets w client part none zero octets e = subst (Told w.content client) (same_octets part [] octets none e) (sym zero, λ some. absurd (omega (arith, zero, some)))

count_stands : (w : Task) (sent : List (List ℕ)) (zero : Bool) (client : Client) (parts : List Part) → zero ≡ (put_count client == 0) → client.contact ≡ Met → client.cause ≡ None → is_waiting client.session.awaited ≡ false → Answers w.content client parts
    → Stands w sent (talk_of client) → MadeStands w sent (let put = if zero then puts_part (Ok []) client parts else puts_from parts client in puts_or_leaves put.outcome put)
count_stands w sent true client parts is met free still answers s = part_stands w sent (Ok []) client parts met free still (no_octets w client (Ok []) refl (eqb-true (put_count client) 0 (sym is))) s
count_stands w sent false client parts is met free still answers s = from_stands w sent client parts met free still answers s

connects_stand : (w : Task) (sent : List (List ℕ)) (client : Client) (parts : List Part) → Connect ≡ next_ask client → is_waiting client.session.awaited ≡ false → Stands w sent (talk_of client) → MadeStands w sent (requests Connect client parts)
connects_stand w sent client parts is still s = let when = (whence client.contact client.cause client.session.put).connect (sym is) in connects w sent client when.0 when.1 still s

put_stands : (w : Task) (sent : List (List ℕ)) (client : Client) (parts : List Part) → Put ≡ next_ask client → is_waiting client.session.awaited ≡ false → Answers w.content client parts → Stands w sent (talk_of client) → MadeStands w sent (requests Put client parts)
put_stands w sent client parts is still answers s = let when = (whence client.contact client.cause client.session.put).put (sym is) in count_stands w sent (put_count client == 0) client parts refl when.0 when.1 still answers s

abort_stands : (w : Task) (sent : List (List ℕ)) (client : Client) (parts : List Part) → Abort ≡ next_ask client → Stands w sent (talk_of client) → MadeStands w sent (requests Abort client parts)
abort_stands w sent client parts is s = let when = (whence client.contact client.cause client.session.put).abort (sym is) in aborts w sent client when.0 when.1 when.2 s

leave_stands : (w : Task) (sent : List (List ℕ)) (client : Client) (parts : List Part) → Disconnect ≡ next_ask client → Stands w sent (talk_of client) → MadeStands w sent (requests Disconnect client parts)
leave_stands w sent client parts is s = let when = (whence client.contact client.cause client.session.put).disconnect (sym is) in leaves w sent client when.0 when.1 s

-- ---- over L2CAP

sent_direct : (w : Task) (sent : List (List ℕ)) (outcome : Result (Unit {0}) PortFault) (request : Made) → Stands w (sent ++ packet_of outcome request) (talk_of request.client)
    → Stands w (sent ++ sdus_of (sends_direct outcome request).step) (talk_of (sends_direct outcome request).client)
sent_direct w sent (Ok done) request s = s
sent_direct w sent (Err fault) request s = s

direct : (w : Task) (sent : List (List ℕ)) (ask : Ask) (client : Client) (parts : List Part) → ask ≡ next_ask client → is_waiting client.session.awaited ≡ false → Answers w.content client parts → Stands w sent (talk_of client)
    → Stands w (sent ++ sdus_of (asks_direct ask client parts).step) (talk_of (asks_direct ask client parts).client)
direct w sent Close client parts is still answers s = nothing_more w sent (talk_of client) s
direct w sent Nothing client parts is still answers s = nothing_more w sent (talk_of client) s
direct w sent Connect client parts is still answers s = sent_direct w sent (requests Connect client parts).outcome (requests Connect client parts) (connects_stand w sent client parts is still s)
direct w sent Put client parts is still answers s = sent_direct w sent (requests Put client parts).outcome (requests Put client parts) (put_stands w sent client parts is still answers s)
direct w sent Abort client parts is still answers s = sent_direct w sent (requests Abort client parts).outcome (requests Abort client parts) (abort_stands w sent client parts is s)
direct w sent Disconnect client parts is still answers s = sent_direct w sent (requests Disconnect client parts).outcome (requests Disconnect client parts) (leave_stands w sent client parts is s)

pub still_of : (going waiting : Bool) → (not going && not waiting) ≡ true → waiting ≡ false
still_of true waiting e = absurd (let f : false ≡ true = e in cc)
still_of false true e = absurd (let f : false ≡ true = e in cc)
still_of false false e = refl

-- what the shelf is asked for looks at the object and the session alone
alike : (w : Task) (client : Client) (left : List ℕ) (m : mux.Mux) (frame : Option PlainFrame) (parts : List Part) → Answers w.content client parts → Answers w.content (record client { rest = left; mux = m; frame = frame }) parts
alike w client left m frame [] x = x
alike w client left m frame (Ok part ∷ parts) x = x
alike w client left m frame (Err fault ∷ parts) x = x

direct_by : (w : Task) (sent : List (List ℕ)) (may : Bool) (client : Client) (parts : List Part) → may ≡ may_ask client → Answers w.content client parts → Stands w sent (talk_of client)
    → (let s = (if may then asks_direct (next_ask client) (record client { rest = [] }) parts else rests client parts) in Stands w (sent ++ sdus_of s.step) (talk_of s.client))
direct_by w sent true client parts is answers s = direct w sent (next_ask client) (record client { rest = [] }) parts refl (still_of client.going (is_waiting client.session.awaited) (sym is)) (alike w client [] client.mux client.frame parts answers) s
direct_by w sent false client parts is answers s = nothing_more w sent (talk_of client) s

-- ---- over RFCOMM: what the multiplexer takes and says changes nothing of the talk

pub talk_either : (P : Talk → Type 0) (test : Bool) (a b : Client) → P (talk_of a) → P (talk_of b) → P (talk_of (if test then a else b))
talk_either P true a b x y = x
talk_either P false a b x y = y

pub filled_talk : (P : Talk → Type 0) (client : Client) → P (talk_of client) → P (talk_of (filled client))
filled_talk P client p =
    talk_either P (is_ready client.mux && not (is_empty client.rest)) (record client { mux = mux.sends client.rest client.mux; rest = drop (taken_count (length client.rest) client.mux) client.rest }) client p p

said_talk : (P : Talk → Type 0) (said : Option Said) (client : Client) (parts : List Part) → P (talk_of client) → P (talk_of (said_by said client parts).client)
said_talk P None client parts p = p
said_talk P (Some said) client parts p = p

pub says_talk : (P : Talk → Type 0) (client : Client) (parts : List Part) → P (talk_of client) → P (talk_of (says client parts).client)
says_talk P client parts p = let full = filled client in said_talk P (next full.mux) full parts (filled_talk P client p)

sent_muxed : (w : Task) (sent : List (List ℕ)) (outcome : Result (Unit {0}) PortFault) (request : Made) → Stands w (sent ++ packet_of outcome request) (talk_of request.client) → Stands w (sent ++ packet_of outcome request) (talk_of (sends_muxed outcome request).client)
sent_muxed w sent (Ok done) request s = says_talk (Stands w (sent ++ request.client.rest ∷ [])) request.client request.left s
sent_muxed w sent (Err fault) request s = s

through : (w : Task) (sent : List (List ℕ)) (takes : Bool) (ask : Ask) (quiet : Client) (parts : List Part) → (let request = requests ask (record quiet { rest = [] }) parts in MadeStands w sent request) → Stands w sent (talk_of quiet)
    → Stands w (sent ++ (if takes then (let request = requests ask (record quiet { rest = [] }) parts in packet_of request.outcome request) else []))
    (talk_of (if takes then (let request = requests ask (record quiet { rest = [] }) parts in sends_muxed request.outcome request) else rests quiet parts).client)
through w sent true ask quiet parts made s = let request = requests ask (record quiet { rest = [] }) parts in sent_muxed w sent request.outcome request made
through w sent false ask quiet parts made s = nothing_more w sent (talk_of quiet) s

none_if : (w : Task) (sent : List (List ℕ)) (test : Bool) (t : Talk) → Stands w sent t → Stands w (sent ++ (if test then [] else [])) t
none_if w sent true t s = nothing_more w sent t s
none_if w sent false t s = nothing_more w sent t s

muxed : (w : Task) (sent : List (List ℕ)) (ask : Ask) (quiet : Client) (parts : List Part) → ask ≡ next_ask quiet → is_waiting quiet.session.awaited ≡ false → Answers w.content quiet parts → Stands w sent (talk_of quiet)
    → Stands w (sent ++ (if takes_some quiet.mux then packet_asked ask (record quiet { rest = [] }) parts else [])) (talk_of (asks_muxed ask quiet parts).client)
muxed w sent Close quiet parts is still answers s =
    let closing : Client = record quiet { mux = mux.leaves quiet.mux; contact = Closing } in
    none_if w sent (takes_some quiet.mux) (talk_of (says closing parts).client) (says_talk (Stands w sent) closing parts (s.0, Gone refl (caused (closes quiet.contact quiet.cause quiet.session.put (sym is))) (sent_of w sent (talk_of quiet) s)))
  where
    caused : (is_some quiet.cause ≡ true) ⊎ (is_gone quiet.contact ≡ true) → is_some quiet.cause ≡ true
    caused (inl given) = given
    caused (inr gone) = left_caused w sent quiet gone s
muxed w sent Nothing quiet parts is still answers s = none_if w sent (takes_some quiet.mux) (talk_of quiet) s
muxed w sent Connect quiet parts is still answers s = through w sent (takes_some quiet.mux) Connect quiet parts (connects_stand w sent (record quiet { rest = [] }) parts is still s) s
muxed w sent Put quiet parts is still answers s = through w sent (takes_some quiet.mux) Put quiet parts (put_stands w sent (record quiet { rest = [] }) parts is still (alike w quiet [] quiet.mux quiet.frame parts answers) s) s
muxed w sent Abort quiet parts is still answers s = through w sent (takes_some quiet.mux) Abort quiet parts (abort_stands w sent (record quiet { rest = [] }) parts is s) s
muxed w sent Disconnect quiet parts is still answers s = through w sent (takes_some quiet.mux) Disconnect quiet parts (leave_stands w sent (record quiet { rest = [] }) parts is s) s

muxed_by : (w : Task) (sent : List (List ℕ)) (may : Bool) (quiet : Client) (parts : List Part) → may ≡ may_ask quiet → Answers w.content quiet parts → Stands w sent (talk_of quiet)
    → Stands w (sent ++ (if may && takes_some quiet.mux then packet_asked (next_ask quiet) (record quiet { rest = [] }) parts else [])) (talk_of (if may then asks_muxed (next_ask quiet) quiet parts else rests quiet parts).client)
muxed_by w sent true quiet parts is answers s = muxed w sent (next_ask quiet) quiet parts refl (still_of quiet.going (is_waiting quiet.session.awaited) (sym is)) answers s
muxed_by w sent false quiet parts is answers s = nothing_more w sent (talk_of quiet) s

goes : (w : Task) (sent : List (List ℕ)) (said : Option Said) (full : Client) (parts : List Part) → Answers w.content full parts → Stands w sent (talk_of full) → Stands w (sent ++ packets_behind said full parts) (talk_of (goes_muxed said full parts).client)
goes w sent None full parts answers s = muxed_by w sent (may_ask full) (record full { frame = None }) parts refl (alike w full full.rest full.mux None parts answers) s
goes w sent (Some said) full parts answers s = nothing_more w sent (talk_of full) s

answers_filled : (w : Task) (test : Bool) (a b : Client) (parts : List Part) → Answers w.content a parts → Answers w.content b parts → Answers w.content (if test then a else b) parts
answers_filled w true a b parts x y = x
answers_filled w false a b parts x y = y

over_rfcomm : (w : Task) (sent : List (List ℕ)) (client : Client) (parts : List Part) → Answers w.content client parts → Stands w sent (talk_of client) → Stands w (sent ++ packets_muxed client parts) (talk_of (steps_muxed client parts).client)
over_rfcomm w sent client parts answers s =
    let full = filled client in
    let taken : Client = record client { mux = mux.sends client.rest client.mux; rest = drop (taken_count (length client.rest) client.mux) client.rest } in
    goes w sent (next full.mux) full parts (answers_filled w (is_ready client.mux && not (is_empty client.rest)) taken client parts (alike w client taken.rest taken.mux taken.frame parts answers) answers) (filled_talk (Stands w sent) client s)

-- ---- all steps

steps_search_talk : (P : Talk → Type 0) (test : Bool) (client : Client) (parts : List Part) → P (talk_of client)
    → P (talk_of (if test then sends_sdu search_psm (Octets (request_octets client.query)) (record client { query = after_request client.query; left = client.left - 1; rest = request_octets client.query }) parts else rests client parts).client)
steps_search_talk P true client parts p = p
steps_search_talk P false client parts p = p

tells_talk : (P : Talk → Type 0) (cause : Option Outcome) (client : Client) (parts : List Part) → P (talk_of client) → P (talk_of (tells_end cause client parts).client)
tells_talk P None client parts p = p
tells_talk P (Some outcome) client parts p = p

pub at_talk : (P : Talk → Type 0) (stage : Stage) (client : Client) (parts : List Part) → is_object stage ≡ false → P (talk_of client) → P (talk_of (steps_at stage client parts).client)
at_talk P Rest client parts other p = p
at_talk P (Link Due) client parts other p = p
at_talk P (Link Asked) client parts other p = p
at_talk P (SearchChannel Due) client parts other p = p
at_talk P (SearchChannel Asked) client parts other p = p
at_talk P Search client parts other p = steps_search_talk P (is_due client.query) client parts p
at_talk P (SearchEnd Due) client parts other p = p
at_talk P (SearchEnd Asked) client parts other p = p
at_talk P (Features Due) client parts other p = p
at_talk P (Features Asked) client parts other p = p
at_talk P (ObjectChannel Due) client parts other p = p
at_talk P (ObjectChannel Asked) client parts other p = p
at_talk P Object client parts other p = absurd (let f : true ≡ false = other in cc)
at_talk P (ObjectEnd Due) client parts other p = p
at_talk P (ObjectEnd Asked) client parts other p = p
at_talk P (LinkEnd Due) client parts other p = p
at_talk P (LinkEnd Asked) client parts other p = p
at_talk P Over client parts other p = tells_talk P client.cause client parts p

-- what a step is, and what was sent with it
Steps : Task → List (List ℕ) → Client → List Part → Type 0
Steps w sent client parts = Stands w (sent ++ packets_by (Asks parts) client) (talk_of (steps.steps client parts).client)

steps_of : (w : Task) (sent packets : List (List ℕ)) (client : Client) (parts : List Part) (after : Stepped) → steps.steps client parts ≡ after → packets_by (Asks parts) client ≡ packets → Stands w (sent ++ packets) (talk_of after.client) → Steps w sent client parts
unfolding Steps
steps_of w sent packets client parts after is said s =
    subst (λ (x : Stepped). Stands w (sent ++ packets_by (Asks parts) client) (talk_of x.client)) (sym is) (subst (λ (ps : List (List ℕ)). Stands w (sent ++ ps) (talk_of after.client)) (sym said) s)

pub quiet_through : (t : Transport) (client : Client) (parts : List Part) (after : Stepped) → steps.steps client parts ≡ after → sdus_of after.step ≡ [] → (client.failed || client.given) ≡ true → packets_through t client parts ≡ []
quiet_through L2cap client parts after is none held = ap (λ (x : Stepped). sdus_of x.step) is ∙ none
quiet_through Rfcomm client parts after is none held = cond-true (client.failed || client.given) [] (packets_muxed client parts) held

pub quiet_by : (test : Bool) (packets : List (List ℕ)) → packets ≡ [] → (if test then packets else []) ≡ []
quiet_by true packets e = e
quiet_by false packets e = refl

pub or_left : (a b : Bool) → a ≡ true → (a || b) ≡ true
or_left a b e = ap (λ (x : Bool). x || b) e

pub or_right : (a b : Bool) → b ≡ true → (a || b) ≡ true
or_right true b e = refl
or_right false b e = e

pub or_none : (a b : Bool) → a ≡ false → b ≡ false → (a || b) ≡ false
or_none a b x y = ap (λ (z : Bool). z || b) x ∙ y

over_both : (w : Task) (sent : List (List ℕ)) (t : Transport) (client : Client) (parts : List Part) → steps.steps client parts ≡ steps_object t client parts → (client.failed || client.given) ≡ false → is_object client.stage ≡ true → t ≡ client.transport
    → Answers w.content client parts → Stands w sent (talk_of client) → Steps w sent client parts
over_both w sent L2cap client parts is free works t answers s =
    steps_of w sent (sdus_of (steps_direct client parts).step) client parts (steps_direct client parts) is
    (cond-true (is_object client.stage) (packets_through client.transport client parts) [] works ∙ ap (λ (x : Transport). packets_through x client parts) (sym t) ∙ ap (λ (x : Stepped). sdus_of x.step) is)
    (direct_by w sent (may_ask client) client parts refl answers s)
over_both w sent Rfcomm client parts is free works t answers s =
    steps_of w sent (packets_muxed client parts) client parts (steps_muxed client parts) is
    (cond-true (is_object client.stage) (packets_through client.transport client parts) [] works ∙ ap (λ (x : Transport). packets_through x client parts) (sym t) ∙ cond-false (client.failed || client.given) [] (packets_muxed client parts) free)
    (over_rfcomm w sent client parts answers s)

pub freely : (client : Client) (parts : List Part) → client.failed ≡ false → client.given ≡ false → steps.steps client parts ≡ steps_at client.stage client parts
freely client parts f g =
    let lacking : Stepped = record { client = client; step = steps.NoMemory; left = parts } in
    cond-false client.failed lacking (if client.given then rests client parts else steps_at client.stage client parts) f ∙ cond-false client.given (rests client parts) (steps_at client.stage client parts) g

steps_by : (w : Task) (sent : List (List ℕ)) (failed given object : Bool) (client : Client) (parts : List Part) → client.failed ≡ failed → client.given ≡ given → is_object client.stage ≡ object → Answers w.content client parts → Stands w sent (talk_of client)
    → Steps w sent client parts
steps_by w sent true given object client parts f g o answers s =
    let after : Stepped = record { client = client; step = steps.NoMemory; left = parts } in
    let is : steps.steps client parts ≡ after = cond-true client.failed after (if client.given then rests client parts else steps_at client.stage client parts) f in
    steps_of w sent [] client parts after is (quiet_by (is_object client.stage) (packets_through client.transport client parts) (quiet_through client.transport client parts after is refl (or_left client.failed client.given f))) (nothing_more w sent (talk_of client) s)
steps_by w sent false true object client parts f g o answers s =
    let lacking : Stepped = record { client = client; step = steps.NoMemory; left = parts } in
    let after = rests client parts in
    let is : steps.steps client parts ≡ after = cond-false client.failed lacking (if client.given then after else steps_at client.stage client parts) f ∙ cond-true client.given after (steps_at client.stage client parts) g in
    steps_of w sent [] client parts after is (quiet_by (is_object client.stage) (packets_through client.transport client parts) (quiet_through client.transport client parts after is refl (or_right client.failed client.given g))) (nothing_more w sent (talk_of client) s)
steps_by w sent false false false client parts f g o answers s =
    steps_of w sent [] client parts (steps_at client.stage client parts) (freely client parts f g) (cond-false (is_object client.stage) (packets_through client.transport client parts) [] o)
    (at_talk (Stands w (sent ++ [])) client.stage client parts o (nothing_more w sent (talk_of client) s))
steps_by w sent false false true client parts f g o answers s =
    over_both w sent client.transport client parts (freely client parts f g ∙ ap (λ (x : Stage). steps_at x client parts) (object_of client.stage o)) (or_none client.failed client.given f g) o refl answers s

-- ---- all deeds

pub final_stays : (a b final : Bool) → final ≡ true → (a && (b && not final)) ≡ true → ⊥
final_stays true true true f e = let g : false ≡ true = e in absurd cc
final_stays true false true f e = let g : false ≡ true = e in absurd cc
final_stays false b true f e = let g : false ≡ true = e in absurd cc
final_stays a b false f e = let g : false ≡ true = f in absurd cc

-- nothing is cancelled behind the final PUT
cancel_suits : (client : Client) → may_cancel client ≡ true → Suits outcomes.Cancelled client.session
cancel_suits client may = record {
  early = λ early e. let f : outcomes.Cancelled ≡ outcomes.Done = same_outcome outcomes.Cancelled outcomes.Done e in absurd cc;
  late = λ late e. final_stays (not (is_rest client.stage)) (is_none client.cause) (is_final_put client.session.awaited) (ap is_final_put late) may;
}

cancels : (w : Task) (sent : List (List ℕ)) (may : Bool) (client : Client) → may ≡ may_cancel client → Stands w sent (talk_of client) → Stands w sent (talk_of (if may then ends outcomes.Cancelled client else client))
cancels w sent true client is s = ends_stands w sent outcomes.Cancelled client (λ e. cancel_suits client (sym is)) s
cancels w sent false client is s = s

pub deed_stands : (w : Task) (sent : List (List ℕ)) (deed : Deed) (client : Client) → AnswersTo w.content deed client → Stands w sent (talk_of client) → Stands w (sent ++ packets_by deed client) (talk_of (done deed client))
unfolding Steps
deed_stands w sent (Hears news) client answers s = nothing_more w sent (talk_of (done (Hears news) client)) (news_keeps (Stands w sent) (kept w sent) news client s)
deed_stands w sent (Asks parts) client answers s = steps_by w sent client.failed client.given (is_object client.stage) client parts refl refl refl answers s
deed_stands w sent Finishes client answers s = nothing_more w sent (talk_of client) s
deed_stands w sent Cancels client answers s = nothing_more w sent (talk_of (done Cancels client)) (cancels w sent (may_cancel client) client refl s)

pub all_stand : (w : Task) (sent : List (List ℕ)) (deeds : List Deed) (client : Client) → AllAnswer w.content deeds client → Stands w sent (talk_of client) → Stands w (sent ++ packets_sent deeds client) (talk_of (all_done deeds client))
all_stand w sent [] client answers s = nothing_more w sent (talk_of client) s
all_stand w sent (deed ∷ deeds) client answers s =
    subst (λ (xs : List (List ℕ)). Stands w xs (talk_of (all_done deeds (done deed client)))) (append_assoc sent (packets_by deed client) (packets_sent deeds (done deed client)))
    (all_stand w (sent ++ packets_by deed client) deeds (done deed client) answers.1 (deed_stands w sent deed client answers.0 s))
