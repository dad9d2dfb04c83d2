-- A response, or a stream of them, shows that the peer is at fault exactly where it blames.
use Rattle.std.proofs.Common.{zero, suc, ◌≤◌, Bool, true, false, ◌||◌, ◌&&◌, ◌≡◌, ◌==◌, ℕ, List, [], ◌∷◌, length, take, drop, nat_lt, Option, Some, None, Result, Ok, Err, refl, sym, ap, subst, ◌∙◌, arith, if◌then◌else◌}
use Rattle.std.proofs.lemmas.Bool.{eqb-true, eq-eqb, ltb-false}
use Rattle.std.proofs.lemmas.List.{length-drop}
use Rattle.link_talk.specs.push_terms.specs.declared.outcome.Outcome.{Outcome}
use Rattle.link_talk.specs.push_terms.specs.declared.outcome.Outcome.TheVariants as outcomes
use Rattle.push_model.specs.obex_headers.specs.declared.fault.ObexRefusal.{ObexRefusal}
use Rattle.push_model.specs.obex_headers.specs.declared.fault.ObexRefusal.TheVariants as refusals
use Rattle.push_model.specs.obex_headers.specs.Assembling.{stated_len}
use Rattle.push_model.specs.obex_headers.specs.Packets.{PlainPacket}
use Rattle.push_model.specs.obex_headers.specs.Reading.{packet_in}
use Rattle.push_model.specs.obex_session.specs.declared.asking.Request.{Request}
use Rattle.push_model.specs.obex_session.specs.declared.asking.Request.TheVariants as requests
use Rattle.push_model.specs.obex_session.specs.declared.client.Answered.{Answered}
use Rattle.push_model.specs.obex_session.specs.declared.client.Answered.TheVariants.{Go, Done, Refused, Bad, Srmp}
use Rattle.push_model.specs.obex_session.specs.Asking.{Asking, phase_of, awaited_code, success_of, answer_read, answer_to, after_answer}
use Rattle.push_model.specs.obex_session.specs.Marks.{marks_of}
use Rattle.push_model.specs.obex_session.specs.Views.{answer_at, after_at, is_stream}
use Rattle.push_model.specs.Causes.{cause_of_obex, obex_number, unawaited_response}
use Rattle.push_model.specs.Client.{Client, ends}
use Rattle.push_model.specs.Responding.{takes, hears_answer, hears_response, is_success, is_early}
use Rattle.push_model.specs.Shown.{first_of, says, answer_shows, response_shows, front_shows, stream_shows}
use Rattle.push_model.specs.Streams.{Front, Whole, Partial, Broken, front_of}
use Rattle.push_laws.specs.Blames as blames
use Rattle.push_laws.specs.Blames.{is_unsent, ReadsAs, IsRefused, ResponseBlames, StreamBlames}

-- ---- what is shown

-- a fault of the peer that is shown is one of these
abbrev pub OnFault : (ℕ → ℕ → Type 0) → Option Outcome → Type 0
OnFault P None = Unit {0}
OnFault P (Some outcomes.Done) = Unit {0}
OnFault P (Some outcomes.LinkLost) = Unit {0}
OnFault P (Some outcomes.RetryLimit) = Unit {0}
OnFault P (Some (outcomes.Refused code)) = Unit {0}
OnFault P (Some outcomes.NoService) = Unit {0}
OnFault P (Some outcomes.ShelfFault) = Unit {0}
OnFault P (Some outcomes.Cancelled) = Unit {0}
OnFault P (Some outcomes.PeerClosed) = Unit {0}
OnFault P (Some (outcomes.PeerFault layer reason)) = P layer reason
OnFault P (Some outcomes.ScriptEnded) = Unit {0}

pub either_fault : (P : ℕ → ℕ → Type 0) (test : Bool) (a b : Option Outcome) → (test ≡ true → OnFault P a) → (test ≡ false → OnFault P b) → OnFault P (if test then a else b)
either_fault P true a b x y = x refl
either_fault P false a b x y = y refl

first_fault : (P : ℕ → ℕ → Type 0) (first later : Option Outcome) → OnFault P first → (first ≡ None → OnFault P later) → OnFault P (first_of first later)
first_fault P None later x y = y refl
first_fault P (Some outcome) later x y = x

some_none : (o : Outcome) → Some o ≡ None → ⊥
some_none o e = absurd cc

-- ---- a response that shows a fault

response_code : (P : ℕ → ℕ → Type 0) (request : Request) (early : Bool) → (early ≡ true → P 5 153) → OnFault P (if is_success (success_of request) && early then Some unawaited_response else says (success_of request))
response_code P requests.Connect early in_table = either_fault P early (Some unawaited_response) None in_table (λ e. tt)
response_code P requests.FirstPut early in_table = either_fault P early (Some unawaited_response) None in_table (λ e. tt)
response_code P requests.Put early in_table = either_fault P early (Some unawaited_response) None in_table (λ e. tt)
response_code P requests.Stream early in_table = either_fault P early (Some unawaited_response) None in_table (λ e. tt)
response_code P requests.FinalPut early in_table = either_fault P early (Some unawaited_response) (Some outcomes.Done) in_table (λ e. tt)
response_code P requests.Abort early in_table = either_fault P early (Some unawaited_response) None in_table (λ e. tt)
response_code P requests.Disconnect early in_table = either_fault P early (Some unawaited_response) None in_table (λ e. tt)

early_is : (request : Request) (client : Client) → client.session.awaited ≡ Some request → is_early client ≡ is_unsent request client.going
early_is request client is = ap (λ (awaited : Option Request). client.going || is_stream awaited) is

refused_row : (packet : List ℕ) (session : Asking) (going : Bool) (refusal : ObexRefusal) → IsRefused refusal packet session → ResponseBlames packet session going (obex_number refusal)
refused_row packet session going refusals.Short r = blames.IsShort r
refused_row packet session going refusals.BadLength r = blames.HasBadLength r
refused_row packet session going refusals.BadHeaderLength r = blames.HasBadHeader r
refused_row packet session going refusals.BadText r = blames.HasBadText r
refused_row packet session going refusals.AboveMaximum r = blames.IsAboveMaximum r
refused_row packet session going refusals.BadVersion r = blames.HasBadVersion r

pub response_faults : (P : ℕ → ℕ → Type 0) (packet : List ℕ) (client : Client) → ((reason : ℕ) → ResponseBlames packet client.session client.going reason → P 5 reason) → OnFault P (response_shows packet client)
response_faults P packet client in_table = by client.session.awaited refl
  where
    coded : (request : Request) (read : PlainPacket) → client.session.awaited ≡ Some request → packet_in (phase_of request) client.session.maximum packet ≡ Ok read
        → (parameters matches : Bool) → (marks_of read.headers).parameters ≡ parameters → (read.code == awaited_code request) ≡ matches
        → OnFault P (answer_shows (Some (if parameters then Srmp else if matches then success_of request else Refused read.code)) client)
    coded request read waits is true matches marked code = in_table 152 (blames.HasParameters request read (record { awaited = waits; is = is }) marked)
    coded request read waits is false true marked code = response_code P request (is_early client)
        (λ early. in_table 153 (blames.IsEarly request read (record { awaited = waits; is = is }) marked (eqb-true read.code (awaited_code request) code) (sym (early_is request client waits) ∙ early)))
    coded request read waits is false false marked code = tt

    reading : (request : Request) → client.session.awaited ≡ Some request → (read : Result PlainPacket ObexRefusal) → packet_in (phase_of request) client.session.maximum packet ≡ read → OnFault P (answer_shows (Some (answer_read request read)) client)
    reading request waits (Ok read) is = coded request read waits is (marks_of read.headers).parameters (read.code == awaited_code request) refl refl
    reading request waits (Err refusal) is = in_table (obex_number refusal) (refused_row packet client.session client.going refusal (record { request = request; awaited = waits; is = is }))

    by : (awaited : Option Request) → client.session.awaited ≡ awaited → OnFault P (answer_shows (answer_at awaited client.session packet) client)
    by None is = in_table 153 (blames.IsUnawaited is)
    by (Some request) is = reading request is (packet_in (phase_of request) client.session.maximum packet) refl

-- ---- a response that shows nothing

-- it lets the client go on: a success to a request that was wholly sent
record Passes (awaited : Option Request) (packet : List ℕ) (client : Client) : Type 0 where
  request : Request
  waits : client.session.awaited ≡ Some request
  goes : answer_to client.session.maximum request packet ≡ Go
  sent : is_unsent request client.going ≡ false
  session : (hears_answer (answer_at awaited client.session packet) packet client).session ≡ after_answer client.session request packet
  going : (hears_answer (answer_at awaited client.session packet) packet client).going ≡ client.going

abbrev Stays : List ℕ → Client → Request → Client → Type 0
Stays packet client request after = (is_unsent request client.going ≡ false) × (after.session ≡ after_answer client.session request packet) × (after.going ≡ client.going)

passes : (packet : List ℕ) (client : Client) → response_shows packet client ≡ None → Passes client.session.awaited packet client
passes packet client = by client.session.awaited refl
  where
    heard : Client
    heard = record client { session = after_at client.session.awaited client.session packet }

    never : (early : Bool) (o : Outcome) → (if early then Some unawaited_response else Some o) ≡ None → ⊥
    never true o e = some_none unawaited_response e
    never false o e = some_none o e

    gone : (request : Request) → client.session.awaited ≡ Some request → (early : Bool) → is_early client ≡ early → (if early then Some unawaited_response else None) ≡ None → Stays packet client request (if early then ends unawaited_response heard else takes Go heard)
    gone request waits true is e = absurd (some_none unawaited_response e)
    gone request waits false is e = (sym (early_is request client waits) ∙ is, ap (λ (awaited : Option Request). after_at awaited client.session packet) waits, refl)

    answered : (request : Request) → client.session.awaited ≡ Some request → (answer : Answered) → answer_to client.session.maximum request packet ≡ answer → answer_shows (Some answer) client ≡ None
        → (answer ≡ Go) × Stays packet client request (hears_answer (Some answer) packet client)
    answered request waits Go is e = (refl, gone request waits (is_early client) refl e)
    answered request waits Done is e = absurd (never (is_early client) outcomes.Done e)
    answered request waits (Refused code) is e = absurd (some_none (outcomes.Refused code) e)
    answered request waits (Bad refusal) is e = absurd (some_none (cause_of_obex refusal) e)
    answered request waits Srmp is e = absurd (some_none (outcomes.PeerFault 5 152) e)

    by : (awaited : Option Request) → client.session.awaited ≡ awaited → answer_shows (answer_at awaited client.session packet) client ≡ None → Passes awaited packet client
    by None is e = absurd (some_none unawaited_response e)
    by (Some request) is e =
        let found = answered request is (answer_to client.session.maximum request packet) refl e in
        record { request = request; waits = is; goes = found.0; sent = found.1.0; session = found.1.1; going = found.1.2 }

-- ---- a stream that shows a fault

pub stream_faults : (P : ℕ → ℕ → Type 0) (count : ℕ) (stream : List ℕ) (client : Client) → ((reason : ℕ) → StreamBlames client.going reason stream client.session → P 5 reason) → OnFault P (stream_shows count stream client)
unfolding stream_shows
stream_faults P zero stream client in_table = tt
stream_faults P (suc count) stream client in_table = by (front_of client.session.maximum stream) refl (λ rest next in_table. stream_faults P count rest next in_table)
  where
    alone : Client
    alone = record client { held = [] }

    by : (front : Front) → front_of client.session.maximum stream ≡ front → ((rest : List ℕ) (next : Client) → ((reason : ℕ) → StreamBlames next.going reason rest next.session → P 5 reason) → OnFault P (stream_shows count rest next))
        → OnFault P (front_shows (λ rest next. stream_shows count rest next) front client)
    by Partial is more = tt
    by (Broken refusal) is more = in_table (obex_number refusal) (blames.IsBroken stream client.session refusal is refl)
    by (Whole packet rest) is more =
        first_fault P (response_shows packet alone) (stream_shows count rest (hears_response packet alone)) (response_faults P packet alone (λ reason b. in_table reason (blames.First stream client.session packet rest is b)))
        (λ quiet. let p = passes packet alone quiet in
        more rest (hears_response packet alone)
        (λ reason b. in_table reason (blames.Later stream client.session packet rest p.request is p.waits p.goes p.sent
        (subst (λ (going : Bool). StreamBlames going reason rest (after_answer client.session p.request packet)) p.going (subst (λ (session : Asking). StreamBlames (hears_response packet alone).going reason rest session) p.session b)))))

-- ---- what blames shows it

waits_shown : (packet : List ℕ) (client : Client) (awaited : Option Request) → client.session.awaited ≡ awaited → response_shows packet client ≡ answer_shows (answer_at awaited client.session packet) client
waits_shown packet client awaited waits = ap (λ (a : Option Request). answer_shows (answer_at a client.session packet) client) waits

read_shown : (packet : List ℕ) (client : Client) (request : Request) (read : Result PlainPacket ObexRefusal) → client.session.awaited ≡ Some request → packet_in (phase_of request) client.session.maximum packet ≡ read
    → response_shows packet client ≡ answer_shows (Some (answer_read request read)) client
read_shown packet client request read waits is = waits_shown packet client (Some request) waits ∙ ap (λ (r : Result PlainPacket ObexRefusal). answer_shows (Some (answer_read request r)) client) is

abbrev coded : Request → ℕ → (parameters matches : Bool) → Answered
coded request code parameters matches = if parameters then Srmp else if matches then success_of request else Refused code

successful : (request : Request) → is_success (success_of request) ≡ true
successful requests.Connect = refl
successful requests.FirstPut = refl
successful requests.Put = refl
successful requests.Stream = refl
successful requests.FinalPut = refl
successful requests.Abort = refl
successful requests.Disconnect = refl

early_shown : (request : Request) (client : Client) → is_early client ≡ true → answer_shows (Some (success_of request)) client ≡ Some unawaited_response
early_shown request client early =
    ap (λ (success : Bool). if success && is_early client then Some unawaited_response else says (success_of request)) (successful request)
    ∙ ap (λ (test : Bool). if test then Some unawaited_response else says (success_of request)) early

refused_shown : (packet : List ℕ) (client : Client) (refusal : ObexRefusal) → IsRefused refusal packet client.session → response_shows packet client ≡ Some (cause_of_obex refusal)
refused_shown packet client refusal r = read_shown packet client r.request (Err refusal) r.awaited r.is

pub response_blames : (packet : List ℕ) (client : Client) (reason : ℕ) → ResponseBlames packet client.session client.going reason → response_shows packet client ≡ Some (outcomes.PeerFault 5 reason)
response_blames packet client _ (blames.IsShort r) = refused_shown packet client refusals.Short r
response_blames packet client _ (blames.HasBadLength r) = refused_shown packet client refusals.BadLength r
response_blames packet client _ (blames.HasBadHeader r) = refused_shown packet client refusals.BadHeaderLength r
response_blames packet client _ (blames.HasBadText r) = refused_shown packet client refusals.BadText r
response_blames packet client _ (blames.IsAboveMaximum r) = refused_shown packet client refusals.AboveMaximum r
response_blames packet client _ (blames.HasBadVersion r) = refused_shown packet client refusals.BadVersion r
response_blames packet client _ (blames.HasParameters request read r marked) =
    read_shown packet client request (Ok read) r.awaited r.is
    ∙ ap (λ (b : Bool). answer_shows (Some (coded request read.code b (read.code == awaited_code request))) client) marked
response_blames packet client _ (blames.IsUnawaited none) = waits_shown packet client None none
response_blames packet client _ (blames.IsEarly request read r plain code unsent) =
    read_shown packet client request (Ok read) r.awaited r.is
    ∙ ap (λ (b : Bool). answer_shows (Some (coded request read.code b (read.code == awaited_code request))) client) plain
    ∙ ap (λ (b : Bool). answer_shows (Some (coded request read.code false b)) client) (eq-eqb read.code (awaited_code request) code)
    ∙ early_shown request client (early_is request client r.awaited ∙ unsent)

-- a success to a request that was wholly sent shows nothing
goes_shown : (packet : List ℕ) (client : Client) (request : Request) → client.session.awaited ≡ Some request → answer_to client.session.maximum request packet ≡ Go → is_unsent request client.going ≡ false → response_shows packet client ≡ None
goes_shown packet client request waits goes sent =
    waits_shown packet client (Some request) waits ∙ ap (λ (answer : Answered). answer_shows (Some answer) client) goes
    ∙ ap (λ (test : Bool). if test then Some unawaited_response else None) (early_is request client waits ∙ sent)

same_request : (awaited : Option Request) (a b : Request) → awaited ≡ Some a → awaited ≡ Some b → a ≡ b
same_request awaited a b x y = let f : Some a ≡ Some b = sym x ∙ y in cc

-- ---- a stream

-- the front by its four tests
abbrev by_tests : (few above below cut : Bool) → (packet rest : List ℕ) → Front
by_tests few above below cut packet rest = if few then Partial else if above then Broken refusals.AboveMaximum else if below then Broken refusals.BadLength else if cut then Partial else Whole packet rest

whole_leaves : (maximum count : ℕ) (stream packet rest : List ℕ) → front_of maximum stream ≡ Whole packet rest → length stream ≤ suc count → length rest ≤ count
unfolding front_of
whole_leaves maximum count stream packet rest is few = by (nat_lt (length stream) 3) (nat_lt maximum size) (nat_lt size 3) (nat_lt (length stream) size) refl refl is
  where
    size : ℕ
    size = stated_len stream

    by : (short above below cut : Bool) → nat_lt size 3 ≡ below → nat_lt (length stream) size ≡ cut → by_tests short above below cut (take size stream) (drop size stream) ≡ Whole packet rest → length rest ≤ count
    by true above below cut small more same = cc
    by false true below cut small more same = cc
    by false false true cut small more same = cc
    by false false false true small more same = cc
    by false false false false small more same =
        let two : drop size stream ≡ rest = cc in
        let left : length (drop size stream) ≡ length rest = ap length two in
        omega (arith, length-drop size stream, left, ltb-false size 3 small, ltb-false (length stream) size more, few)

-- octets that are none begin nothing
none_begins : (maximum : ℕ) (stream : List ℕ) → length stream ≤ 0 → front_of maximum stream ≡ Partial
unfolding front_of
none_begins maximum [] few = refl
none_begins maximum (octet ∷ octets) few = absurd (omega (arith, few))

pub stream_blames : (count : ℕ) (stream : List ℕ) (client : Client) (reason : ℕ) → length stream ≤ count → StreamBlames client.going reason stream client.session → stream_shows count stream client ≡ Some (outcomes.PeerFault 5 reason)
unfolding stream_shows
stream_blames zero stream client reason few (blames.IsBroken _ _ refusal is number) = absurd (let f : Partial ≡ Broken refusal = sym (none_begins client.session.maximum stream few) ∙ is in cc)
stream_blames zero stream client reason few (blames.First _ _ packet rest is b) = absurd (let f : Partial ≡ Whole packet rest = sym (none_begins client.session.maximum stream few) ∙ is in cc)
stream_blames zero stream client reason few (blames.Later _ _ packet rest request is waits goes sent b) = absurd (let f : Partial ≡ Whole packet rest = sym (none_begins client.session.maximum stream few) ∙ is in cc)
stream_blames (suc count) stream client reason few (blames.IsBroken _ _ refusal is number) =
    ap (λ (front : Front). front_shows (λ rest next. stream_shows count rest next) front client) is ∙ ap (λ (n : ℕ). Some (outcomes.PeerFault 5 n)) (sym number)
stream_blames (suc count) stream client reason few (blames.First _ _ packet rest is b) =
    let alone : Client = record client { held = [] } in
    ap (λ (front : Front). front_shows (λ rest next. stream_shows count rest next) front client) is
    ∙ ap (λ (shown : Option Outcome). first_of shown (stream_shows count rest (hears_response packet alone))) (response_blames packet alone reason b)
stream_blames (suc count) stream client reason few (blames.Later _ _ packet rest request is waits goes sent b) =
    let alone : Client = record client { held = [] } in
    let quiet = goes_shown packet alone request waits goes sent in
    let p = passes packet alone quiet in
    ap (λ (front : Front). front_shows (λ rest next. stream_shows count rest next) front client) is
    ∙ ap (λ (shown : Option Outcome). first_of shown (stream_shows count rest (hears_response packet alone))) quiet
    ∙ stream_blames count rest (hears_response packet alone) reason (whole_leaves client.session.maximum count stream packet rest is few)
    (subst (λ (going : Bool). StreamBlames going reason rest (hears_response packet alone).session) (sym p.going)
    (subst (λ (session : Asking). StreamBlames client.going reason rest session) (ap (λ (r : Request). after_answer client.session r packet) (same_request client.session.awaited request p.request waits p.waits) ∙ sym p.session) b))
