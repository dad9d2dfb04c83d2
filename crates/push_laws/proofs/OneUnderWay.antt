-- One transport at most has an object under way, whatever happens to a server.
use Rattle.std.proofs.Common.{inl, inr, ◌⊎◌, Bool, true, false, cond, zero, suc, eqb, ◌||◌, ◌&&◌, ◌≡◌, ℕ, List, [], ◌∷◌, ◌++◌, take, Option, Some, None, Result, Ok, Err, refl, sym, ap, subst, ◌∙◌}
use Rattle.std.proofs.lemmas.Bool.{cond_both, cond-true, cond-false}
use Rattle.link_talk.specs.bt_base.specs.declared.settings.Transport.{Transport}
use Rattle.link_talk.specs.bt_base.specs.declared.settings.Transport.TheVariants.{L2cap, Rfcomm}
use Rattle.push_model.specs.obex_headers.specs.declared.fault.ObexRefusal.{ObexRefusal}
use Rattle.push_model.specs.obex_headers.specs.declared.packet.Phase.TheVariants.{Request}
use Rattle.push_model.specs.obex_headers.specs.Packets.{PlainPacket}
use Rattle.push_model.specs.obex_headers.specs.Reading.{packet_in}
use Rattle.push_model.specs.rfcomm_frames.specs.FrameReading.{is_empty}
use Rattle.push_model.specs.rfcomm_frames.specs.Frames.{PlainFrame}
use Rattle.push_model.specs.rfcomm_model.specs.Hearing as hearing
use Rattle.push_model.specs.rfcomm_model.specs.Hearing.{Up, nothing, opened, bytes, closed, up}
use Rattle.push_model.specs.rfcomm_model.specs.Machine.{leaves, sends, taken_count}
use Rattle.push_model.specs.rfcomm_model.specs.Saying.{Said, next}
use Rattle.push_model.specs.obex_session.specs.declared.course.Course.{Course}
use Rattle.push_model.specs.obex_session.specs.declared.course.Progress.TheVariants.{Unnamed}
use Rattle.push_model.specs.obex_session.specs.Hearing.{progress_after}
use Rattle.push_model.specs.obex_session.specs.InboxCalls as inbox
use Rattle.push_model.specs.obex_session.specs.InboxCalls.{InboxCall, Abort, Answer, come_of}
use Rattle.push_model.specs.obex_session.specs.Marks.{marks_of, kind_of}
use Rattle.push_model.specs.obex_session.specs.Past.{Serving}
use Rattle.push_model.specs.obex_session.specs.Rules.{Ruling, aborts, is_under_way, is_ignoring, progress_in, at_packet, at_put_in, ends, other_response}
use Rattle.push_model.specs.obex_session.specs.Serving.{has_name, kind_heard, ruling_on, verdict_or, outcome_on, heard_with}
use Rattle.push_model.specs.obex_session.specs.Views.{rested}
use Rattle.push_model.specs.obex_session.proofs.PacketLaws.{verdict_without, put_unminded}
use Rattle.push_model.specs.obex_session.proofs.TurnLaws.{progress_behind}
use Rattle.push_model.specs.declared.outlet.Outlet.{Outlet}
use Rattle.push_model.specs.declared.outlet.Outlet.TheVariants.{Records, Direct, Muxed}
use Rattle.push_model.specs.Listening.{Listener, Heeded, Received, heeds_carried, stops, hears_on, hears_front, hears_stream}
use Rattle.push_model.specs.Service.{Service, Served, answer_cut, response_over, is_ignored, hears_packet}
use Rattle.push_model.specs.Sessions as model
use Rattle.push_model.specs.Sessions.{Sessions, Gift, Parted, session_of, other_of, has_object, IsSingle, after_calls, lets_go, answers_to, is_naming, hears_after, hears}
use Rattle.push_model.specs.Server as server
use Rattle.push_model.specs.Server.{Server, Reacted, hears_up, with_service, filled, said_on, breaks_now, left_by, leaves_with, framed_by, framed, outlet_of, lends_by, lets_go_on, lets_go_twice, remuxed, unreplied, unanswered}
use Rattle.push_model.specs.Streams.{Front, Whole, Partial, Broken, front_of}
use Rattle.push_laws.specs.Occurrences.{Occurrence, Came, Went, Closed, LinkDown, Asked, Answering, done, all_done}
use Rattle.push_laws.specs.OneUnderWay.{NamesAbortTheOther, OneIsUnderWay}
use Rattle.push_laws.specs.Premises.{AllGranted}
use Rattle.push_laws.proofs.Servers.{by_psm}
use Rattle.push_laws.proofs.Sessions.{same_session, other_session, kept_session}

-- ---- a packet without a Name begins no object

begins_none : (course : Course) (has_body final : Bool) → progress_after (Ok (verdict_without course has_body final)) ≡ Unnamed
begins_none course has_body final =
    cond_both (is_ignoring course) _ _ (λ v. progress_after (Ok v) ≡ Unnamed) (λ ignores. refl) (λ e. cond_both (has_body || final) _ _ (λ v. progress_after (Ok v) ≡ Unnamed) (λ ended. refl) (λ on. refl))

or_none : (a b : Bool) → a ≡ false → b ≡ false → (a || b) ≡ false
or_none true b x y = absurd cc
or_none false b x y = y

of_first : {K : Type 0} → (test : K → Bool) (b : Bool) (x y : K) → b ≡ true → test (cond b x y) ≡ false → test x ≡ false
of_first test true x y e none = none
of_first test false x y e none = absurd cc

put_idle : (put : Bool) (course : Course) (packet : PlainPacket) → (eqb packet.code 0x02 || eqb packet.code 0x82) ≡ put → is_under_way (progress_in course) ≡ false → has_name (kind_of (Ok packet)) ≡ false
    → progress_after (Ok (cond put (at_put_in course packet) (ends (progress_in course) (other_response packet.code))).verdict) ≡ Unnamed
put_idle true course packet is idle unnamed =
    let none : (marks_of packet.headers).name ≡ false = of_first has_name (eqb packet.code 0x02 || eqb packet.code 0x82) _ _ is unnamed in
    let ruling_is = put_unminded course packet (kind_of (Ok packet)) (eqb packet.code 0x82) (marks_of packet.headers) refl (cond-true _ _ _ is) (or_none _ _ idle none) in
    ap (λ (r : Ruling). progress_after (Ok r.verdict)) (sym (cond-true _ (at_put_in course packet) (ends (progress_in course) (other_response packet.code)) is) ∙ ruling_is)
    ∙ begins_none course (marks_of packet.headers).body (eqb packet.code 0x82)
put_idle false course packet is idle unnamed = refl

read_idle : (course : Course) (read : Result PlainPacket ObexRefusal) → is_under_way (progress_in course) ≡ false → has_name (kind_of read) ≡ false → progress_after (Ok (at_packet course read).verdict) ≡ Unnamed
read_idle course (Ok packet) idle unnamed = put_idle (eqb packet.code 0x02 || eqb packet.code 0x82) course packet refl idle unnamed
read_idle course (Err refusal) idle unnamed = refl

stays_idle : (session : Serving) (packet : List ℕ) (answers : List Answer) → has_object session ≡ false → has_name (kind_heard session packet) ≡ false → has_object (heard_with session packet answers).session ≡ false
stays_idle session packet answers idle unnamed =
    ap is_under_way (progress_behind session.offered session.course (kind_heard session packet) (outcome_on session packet answers) ∙ by (come_of (ruling_on session packet).calls answers))
  where
    by : (come : Answer) → progress_after (verdict_or (ruling_on session packet).verdict come) ≡ Unnamed
    by (Ok granted) = read_idle session.course (packet_in Request session.maximum packet) idle unnamed
    by (Err fault) = refl

-- ---- two sessions

and_none : (a b : Bool) → b ≡ false → (a && b) ≡ false
and_none true b e = e
and_none false b e = refl

none_and : (a b : Bool) → (a && b) ≡ false → (a ≡ false) ⊎ (b ≡ false)
none_and true b e = inr e
none_and false b e = inl refl

-- one of them is idle
idle_at : (t : Transport) (sessions : Sessions) → has_object (session_of t sessions) ≡ false → IsSingle sessions
idle_at L2cap sessions idle = ap (λ (b : Bool). b && has_object sessions.carried) idle
idle_at Rfcomm sessions idle = and_none (has_object sessions.direct) (has_object sessions.carried) idle

which_idle : (t : Transport) (sessions : Sessions) → IsSingle sessions → (has_object (session_of t sessions) ≡ false) ⊎ (has_object (session_of (other_of t) sessions) ≡ false)
which_idle L2cap sessions single = none_and (has_object sessions.direct) (has_object sessions.carried) single
which_idle Rfcomm sessions single = elim (none_and (has_object sessions.direct) (has_object sessions.carried) single) [ inl direct ↦ inr direct | inr carried ↦ inl carried ]

gone_idle : (t : Transport) (sessions : Sessions) (gift : Gift) → has_object (session_of t (lets_go t sessions gift).sessions) ≡ false
gone_idle t sessions gift = ap has_object (same_session t (rested (session_of t sessions)) sessions)

-- behind a Name the other transport has none, whatever the inbox answers
named_idle : (t : Transport) (packet : List ℕ) (sessions : Sessions) (gift : Gift) → has_object (session_of (other_of t) (hears_after t packet (lets_go (other_of t) sessions gift)).sessions) ≡ false
named_idle t packet sessions gift =
    let parted = lets_go (other_of t) sessions gift in
    let idle = gone_idle (other_of t) sessions gift in
    cond_both parted.short _ (answers_to t packet parted.sessions parted.gift) (λ (h : model.Heard). has_object (session_of (other_of t) h.sessions) ≡ false) (λ short. idle)
    (λ enough. ap has_object (other_session t (heard_with (session_of t parted.sessions) packet parted.gift.answers).session parted.sessions) ∙ idle)

unnamed_single : (t : Transport) (packet : List ℕ) (sessions : Sessions) (gift : Gift) → is_naming t packet sessions ≡ false → IsSingle sessions → IsSingle (answers_to t packet sessions gift).sessions
unnamed_single t packet sessions gift unnamed single =
    let turn = heard_with (session_of t sessions) packet gift.answers in
    let after = (answers_to t packet sessions gift).sessions in
    elim (which_idle t sessions single) [
      | inl idle ↦ idle_at t after (ap has_object (same_session t turn.session sessions) ∙ stays_idle (session_of t sessions) packet gift.answers idle unnamed)
      | inr other ↦ idle_at (other_of t) after (ap has_object (other_session t turn.session sessions) ∙ other)
    ]

heard_single : (t : Transport) (packet : List ℕ) (sessions : Sessions) (gift : Gift) → IsSingle sessions → IsSingle (hears t packet sessions gift).sessions
heard_single t packet sessions gift single =
    let after = hears_after t packet (lets_go (other_of t) sessions gift) in
    cond_both (is_naming t packet sessions) after (answers_to t packet sessions gift) (λ (h : model.Heard). IsSingle h.sessions) (λ named. idle_at (other_of t) after.sessions (named_idle t packet sessions gift))
    (λ unnamed. unnamed_single t packet sessions gift unnamed single)

-- ---- a Name aborts what is under way over the other transport

none_left : (calls : List InboxCall) → inbox.left_by calls [] ≡ []
none_left [] = refl
none_left (call ∷ calls) = refl

behind_abort : (calls : List InboxCall) (gift : Gift) → AllGranted gift.answers → after_calls calls (after_calls (Abort ∷ []) gift) ≡ after_calls (Abort ∷ calls) gift
behind_abort calls gift granted = by gift.answers granted
  where
    by : (answers : List Answer) → AllGranted answers → (let g : Gift = record gift { answers = answers } in after_calls calls (after_calls (Abort ∷ []) g) ≡ after_calls (Abort ∷ calls) g)
    by [] all =
        let first : Gift = after_calls (Abort ∷ []) (record gift { answers = [] }) in
        ap (λ (rest : List Answer). (let g : Gift = record { content = (after_calls calls first).content; answers = rest } in g)) (none_left calls)
    by (Ok granted ∷ answers) all = refl
    by (Err fault ∷ answers) all = absurd cc

enough : (answers : List Answer) → AllGranted answers → model.is_short (come_of (Abort ∷ []) answers) ≡ false
enough [] all = refl
enough (Ok granted ∷ answers) all = refl
enough (Err fault ∷ answers) all = absurd cc

pub names-abort_the_other : NamesAbortTheOther
names-abort_the_other t packet sessions gift named under_way = record {
  calls = λ granted.
      ap (λ (h : model.Heard). h.gift) (is ∙ cond-false parted.short _ (answers_to t packet parted.sessions parted.gift) (ap (λ (cs : List InboxCall). model.is_short (come_of cs gift.answers)) aborted ∙ enough gift.answers granted))
      ∙ ap (λ (s : Serving). after_calls (ruling_on s packet).calls parted.gift) (kept_session t (rested (session_of (other_of t) sessions)) sessions)
      ∙ ap (λ (cs : List InboxCall). after_calls (ruling_on (session_of t sessions) packet).calls (after_calls cs gift)) aborted
      ∙ behind_abort (ruling_on (session_of t sessions) packet).calls gift granted;
  idle = ap (λ (h : model.Heard). has_object (session_of (other_of t) h.sessions)) is ∙ named_idle t packet sessions gift;
}
  where
    parted : Parted
    parted = lets_go (other_of t) sessions gift

    is : hears t packet sessions gift ≡ hears_after t packet parted
    is = cond-true (is_naming t packet sessions) (hears_after t packet parted) (answers_to t packet sessions gift) named

    aborted : aborts (progress_in (session_of (other_of t) sessions).course) ≡ Abort ∷ []
    aborted = cond-true _ _ _ under_way

-- ---- the packets of a service and of a listener

abbrev Single : Service → Type 0
Single service = IsSingle service.sessions

over_single : (t : Transport) (response : List ℕ) (service : Service) → Single service → Single (response_over t response service)
over_single t [] service s = s
over_single L2cap (octet ∷ octets) service s = s
over_single Rfcomm (octet ∷ octets) service s = s

gone_single : (t : Transport) (sessions : Sessions) (gift : Gift) → IsSingle (lets_go t sessions gift).sessions
gone_single t sessions gift = idle_at t (lets_go t sessions gift).sessions (gone_idle t sessions gift)

packet_single : (t : Transport) (packet : List ℕ) (service : Service) (gift : Gift) → Single service → Single (hears_packet t packet service gift).service
packet_single t packet service gift s =
    cond_both (is_ignored t packet service) _ _ (λ (after : Served). Single after.service) (λ e. gone_single t service.sessions gift)
    (λ e. let h = hears t packet service.sessions gift in over_single t h.response (record service { sessions = h.sessions; failed = service.failed || h.short }) (heard_single t packet service.sessions gift s))

abbrev SingleAt : Listener → Type 0
SingleAt listener = Single listener.service

on_single : (more : Listener → Gift → Received) → ((listener : Listener) (gift : Gift) → SingleAt listener → SingleAt (more listener gift).listener) → (heeded : Heeded) → SingleAt heeded.listener → SingleAt (hears_on more heeded).listener
on_single more keeps heeded s = cond_both (stops heeded.listener) _ _ (λ (r : Received). SingleAt r.listener) (λ e. s) (λ e. keeps heeded.listener heeded.gift s)

front_single : (more : List ℕ → Listener → Gift → Received) → ((rest : List ℕ) (listener : Listener) (gift : Gift) → SingleAt listener → SingleAt (more rest listener gift).listener) → (stream : List ℕ) (front : Front) (listener : Listener) (gift : Gift) → SingleAt listener
    → SingleAt (hears_front more stream front listener gift).listener
front_single more keeps stream (Whole packet rest) listener gift s = on_single (more rest) (keeps rest) (heeds_carried packet listener gift) (packet_single Rfcomm packet listener.service gift s)
front_single more keeps stream Partial listener gift s = s
front_single more keeps stream (Broken refusal) listener gift s = packet_single Rfcomm (take 3 stream) listener.service gift s

stream_single : (steps : ℕ) (stream : List ℕ) (listener : Listener) (gift : Gift) → SingleAt listener → SingleAt (hears_stream steps stream listener gift).listener
unfolding hears_stream
stream_single zero stream listener gift s = s
stream_single (suc steps) stream listener gift s =
    front_single (λ rest next after. hears_stream steps rest next after) (λ rest next after. stream_single steps rest next after) stream (front_of listener.service.sessions.carried.maximum stream) listener gift s

-- ---- a server

abbrev Serves : Server → Type 0
Serves at = Single at.listener.service

up_single : (u : Up) (at : Server) (gift : Gift) → Serves at → Serves (hears_up u at gift).server
up_single nothing at gift s = s
up_single opened at gift s = s
up_single (closed reason) at gift s = s
up_single (bytes octets) at gift s = cond_both at.listener.breaks _ _ (λ (r : Reacted). Serves r.server) (λ e. s) (λ e. stream_single _ (at.held ++ octets) at.listener gift s)

came_single : (psm : ℕ) (sdu : List ℕ) (at : Server) (gift : Gift) → Serves at → Serves (server.hears_on psm sdu at gift).server
came_single psm sdu at gift s =
    by_psm (λ p. Serves (server.hears_on p sdu at gift).server) (cond_both (is_empty at.reply) _ _ Serves (λ e. s) (λ e. s)) (up_single (up sdu at.mux) (record at { mux = hearing.hears sdu at.mux }) gift s) (packet_single L2cap sdu at.listener.service gift s)
    (λ p x y z. subst (λ (r : Reacted). Serves r.server) (sym (cond-false _ _ _ x ∙ (cond-false _ _ _ y ∙ cond-false _ _ (let r : Reacted = record { server = at; gift = gift } in r) z))) s) psm

closed_single : (psm : ℕ) (at : Server) (gift : Gift) → Serves at → Serves (server.closed_on psm at gift).server
closed_single psm at gift s =
    by_psm (λ p. Serves (server.closed_on p at gift).server) s (gone_single Rfcomm at.listener.service.sessions gift) (gone_single L2cap at.listener.service.sessions gift)
    (λ p x y z. subst (λ (r : Reacted). Serves r.server) (sym (cond-false _ _ _ x ∙ (cond-false _ _ _ y ∙ cond-false _ _ (let r : Reacted = record { server = at; gift = gift } in r) z))) s) psm

down_single : (r : Reacted) → Serves r.server → Serves (lets_go_twice r).server
down_single r s =
    cond_both r.server.listener.service.failed r (lets_go_on Rfcomm (remuxed (unreplied r.server)) r.gift) (λ (x : Reacted). Serves x.server) (λ e. s) (λ e. gone_single Rfcomm r.server.listener.service.sessions r.gift)

unless_single : (failed : Bool) (at : Reacted) (after : Reacted) → Serves at.server → Serves after.server → Serves (cond failed (let r : Reacted = record { server = at.server; gift = at.gift } in r) after).server
unless_single true at after s u = s
unless_single false at after s u = u

-- ---- what goes

fills : (at : Server) → Serves at → Serves (filled at)
fills at s = cond_both _ (with_service (answer_cut (taken_count _ at.mux) at.listener.service) (record at { mux = sends at.listener.service.answer at.mux })) at Serves (λ e. s) (λ e. s)

said_single : (o : Option Said) (at : Server) → Serves at → Serves (said_on o at)
said_single None at s = s
said_single (Some said) at s = s

leaves_single : (o : Option Said) (at : Server) → Serves at → Serves (leaves_with o at)
leaves_single None at s =
    let quiet : Server = said_on None at in
    cond_both (breaks_now quiet) (left_by quiet) quiet Serves (λ e. said_single (next (leaves quiet.mux)) (record quiet { mux = leaves quiet.mux }) s) (λ e. s)
leaves_single (Some said) at s = said_single (Some said) at s

framed_single : (frame : Option PlainFrame) (at : Server) → Serves at → Serves (framed_by frame at)
framed_single None at s = let full = filled at in leaves_single (next full.mux) full (fills at s)
framed_single (Some frame) at s = s

lends_single : (o : Option Outlet) (at : Server) → Serves at → Serves (lends_by o at)
lends_single None at s =
    let full : Server = framed at in
    cond_both (is_empty at.reply && is_empty at.listener.service.response) (record full { lent = outlet_of full }) (record at { lent = outlet_of at }) Serves (λ e. framed_single at.frame at s) (λ e. s)
lends_single (Some outlet) at s = s

taken_single : (o : Option Outlet) (at : Server) → Serves at → Serves (server.taken_by o at)
taken_single None at s = s
taken_single (Some Records) at s = s
taken_single (Some Direct) at s = s
taken_single (Some Muxed) at s = s

-- ---- the law

single_more : (one : Occurrence) (at : Reacted) → Serves at.server → Serves (done one at).server
single_more (Came psm sdu) at s = unless_single at.server.listener.service.failed at (server.hears_on psm sdu at.server at.gift) s (came_single psm sdu at.server at.gift s)
single_more (Went psm sdu) at s = taken_single at.server.lent at.server s
single_more (Closed psm) at s = unless_single at.server.listener.service.failed at (server.closed_on psm at.server at.gift) s (closed_single psm at.server at.gift s)
single_more LinkDown at s =
    let first = lets_go_on L2cap (unanswered at.server) at.gift in
    unless_single at.server.listener.service.failed at (lets_go_twice first) s (down_single first (gone_single L2cap at.server.listener.service.sessions at.gift))
single_more Asked at s = lends_single at.server.lent at.server s
single_more (Answering answers) at s = s

all_single : (occurrences : List Occurrence) (at : Reacted) → Serves at.server → Serves (all_done occurrences at).server
all_single [] at s = s
all_single (one ∷ rest) at s = all_single rest (done one at) (single_more one at s)

pub one-is_under_way : OneIsUnderWay
one-is_under_way settings content occurrences = all_single occurrences _ refl
