-- Single response mode at both ends: what a server's session makes of CONNECT, of the first PUT of an object and of those behind it, and
-- what the response leaves of the client's.
use Rattle.std.proofs.Common.{get_or, Bool, true, false, eqb, ltb, ◌≡◌, ℕ, ◌+◌, ◌<◌, ◌≤◌, ◌^◌, ◌&&◌, ◌||◌, ◌⊎◌, inl, inr, List, [], ◌∷◌, length, Option, Some, None, Result, Ok, Err, refl, sym, ap, subst, ◌∙◌, arith, if◌then◌else◌}
use Rattle.std.specs.Prelude.{min}
use Rattle.std.proofs.lemmas.Bool.{cases_lt, cond-false, cond_both, eqb-true, le-ltb}
use Rattle.obex_headers.specs.declared.codes.Code.{Code}
use Rattle.obex_headers.specs.declared.codes.Code.TheVariants as codes
use Rattle.obex_headers.specs.declared.fault.ObexRefusal.{ObexRefusal}
use Rattle.obex_headers.specs.declared.fault.ObexRefusal.TheVariants.{AboveMaximum}
use Rattle.obex_headers.specs.declared.packet.Phase.TheVariants as phase
use Rattle.obex_headers.specs.Codes.{octet_of}
use Rattle.obex_headers.specs.Packets.{Four, PlainPacket, IsPacket, bare, maximum_of, packet_octets, units_of}
use Rattle.obex_headers.specs.Reading.{packet_in}
use Rattle.obex_headers.proofs.PacketLaws.{length-packet, packet_again}
use Rattle.obex_session.specs.declared.asking.Request.{Request}
use Rattle.obex_session.specs.declared.asking.Request.TheVariants.{Connect, FirstPut, Put, Stream, FinalPut, Abort, Disconnect}
use Rattle.obex_session.specs.declared.client.Answered.TheVariants.{Go, Refused}
use Rattle.obex_session.specs.declared.course.Course.{Course}
use Rattle.obex_session.specs.declared.course.Course.TheVariants.{Rests, Ignores, Runs}
use Rattle.obex_session.specs.declared.course.Progress.{Progress}
use Rattle.obex_session.specs.declared.course.Progress.TheVariants.{Unnamed, Named, Filled}
use Rattle.obex_session.specs.declared.course.Verdict.{Verdict}
use Rattle.obex_session.specs.declared.course.Verdict.TheVariants.{Open, Whole, Ended, PassedOver}
use Rattle.obex_session.specs.declared.marks.Kind.{Kind}
use Rattle.obex_session.specs.declared.marks.Marks.{Marks}
use Rattle.obex_session.specs.Responses.{is_connect, connect_fields, single_header, response_octets, confirmation_octets}
use Rattle.obex_session.specs.InboxCalls.{InboxCall, Begin, Append, Answer, come_of}
use Rattle.obex_session.specs.Marks.{marks_of}
use Rattle.obex_session.specs.Rules.{Ruling, opens, ends, then_at, behind, after_headers, at_put, at_put_in, at_packet, other_response, progress_in}
use Rattle.obex_session.specs.Turns.{is_first_in, is_single_in, said_open, said_whole, course_after, said_after}
use Rattle.obex_session.specs.Past.{Serving}
use Rattle.obex_session.specs.Serving.{kind_heard, ruling_on, verdict_or, heard_with}
use Rattle.obex_session.specs.PutPackets.{head_with, body_header, put_packet}
use Rattle.obex_session.specs.Asking.{Asking, phase_of, awaited_code, limit_by, single_by, answer_read, after_read}
use Rattle.obex_session.specs.Views.{asks_connect, is_silence, is_silent, octets_said, answer_at, after_at}
use Rattle.obex_session.proofs.ExchangeLaws.{responses_are_read}
use Rattle.obex_session.proofs.PairReplies.{code_is_first, connect_code}
use Rattle.obex_session.proofs.PairStages.{too_long, no_fields}
use Rattle.obex_session.proofs.RuledLaws.{IsOfPut, bad, put_in_of_put}

-- ---- a server behind a packet, where no call of its inbox fails

abbrev pub heard : Serving → List ℕ → Serving
heard server packet = (heard_with server packet []).session

abbrev pub response_to : Serving → List ℕ → List ℕ
response_to server packet = octets_said packet server.maximum (heard_with server packet []).saying

come_clean : (calls : List InboxCall) → come_of calls [] ≡ Ok tt
come_clean [] = refl
come_clean (call ∷ calls) = refl

saying_is : (server : Serving) (packet : List ℕ) → (heard_with server packet []).saying ≡ said_after server.offered server.course (kind_heard server packet) (Ok (ruling_on server packet).verdict)
saying_is server packet = ap (λ (come : Answer). said_after server.offered server.course (kind_heard server packet) (verdict_or (ruling_on server packet).verdict come)) (come_clean (ruling_on server packet).calls)

course_is : (server : Serving) (packet : List ℕ) → (heard server packet).course ≡ course_after server.offered server.course (kind_heard server packet) (Ok (ruling_on server packet).verdict)
course_is server packet = ap (λ (come : Answer). course_after server.offered server.course (kind_heard server packet) (verdict_or (ruling_on server packet).verdict come)) (come_clean (ruling_on server packet).calls)

-- a client in single response mode has put so many octets, and its server has heard them, in the mode too
abbrev pub InMode : Bool → Option ℕ → Course → Type 0
InMode false put course = Unit {0}
InMode true None course = ⊥
InMode true (Some place) course = course ≡ Runs (Filled place) true

pub not_in_mode : (single : Bool) (put : Option ℕ) (course : Course) → single ≡ false → InMode single put course
not_in_mode false put course off = tt
not_in_mode true put course off = absurd (let f : true ≡ false = off in cc)

-- ---- what a response changes

by_tests : (P : Asking → Type 0) (parameters matches : Bool) (same going ended : Asking) → P same → P going → P ended → P (if parameters then same else if matches then going else ended)
by_tests P true matches same going ended x y z = x
by_tests P false true same going ended x y z = y
by_tests P false false same going ended x y z = z

abbrev gone_on : Asking → Request → PlainPacket → Asking
gone_on session request packet =
    record session { limit = limit_by request session.limit packet.extra; single = single_by request session.wanted session.single (marks_of packet.headers); awaited = None }

limit_falls : (request : Request) (limit : ℕ) (extra : List ℕ) → limit_by request limit extra ≤ limit
limit_falls Connect limit extra = omega arith
limit_falls FirstPut limit extra = omega arith
limit_falls Put limit extra = omega arith
limit_falls Stream limit extra = omega arith
limit_falls FinalPut limit extra = omega arith
limit_falls Abort limit extra = omega arith
limit_falls Disconnect limit extra = omega arith

limit_read : (request : Request) (session : Asking) (read : Result PlainPacket ObexRefusal) → (after_read session request read).limit ≤ session.limit
limit_read request session (Ok packet) =
    by_tests (λ (s : Asking). s.limit ≤ session.limit) (marks_of packet.headers).parameters (eqb packet.code (awaited_code request)) session (gone_on session request packet) (record session { put = None; single = false; awaited = None }) (omega arith)
    (limit_falls request session.limit packet.extra) (omega arith)
limit_read request session (Err refusal) = omega arith

pub limit_after : (session : Asking) (request : Request) (response : List ℕ) → session.awaited ≡ Some request → (after_at session.awaited session response).limit ≤ session.limit
limit_after session request response waits =
    subst (λ (a : Option Request). (after_at a session response).limit ≤ session.limit) (sym waits) (limit_read request session (packet_in (phase_of request) session.maximum response))

-- the response to the first PUT alone begins the mode
abbrev pub is_first_put : Request → Bool
is_first_put Connect = false
is_first_put FirstPut = true
is_first_put Put = false
is_first_put Stream = false
is_first_put FinalPut = false
is_first_put Abort = false
is_first_put Disconnect = false

single_stays : (request : Request) (wanted single : Bool) (marks : Marks) → is_first_put request ≡ false → single_by request wanted single marks ≡ single
single_stays Connect wanted single marks other = refl
single_stays FirstPut wanted single marks other = absurd (let f : true ≡ false = other in cc)
single_stays Put wanted single marks other = refl
single_stays Stream wanted single marks other = refl
single_stays FinalPut wanted single marks other = refl
single_stays Abort wanted single marks other = refl
single_stays Disconnect wanted single marks other = refl

single_read : (request : Request) (session : Asking) (read : Result PlainPacket ObexRefusal) → is_first_put request ≡ false → session.single ≡ false → (after_read session request read).single ≡ false
single_read request session (Ok packet) other off =
    by_tests (λ (s : Asking). s.single ≡ false) (marks_of packet.headers).parameters (eqb packet.code (awaited_code request)) session (gone_on session request packet) (record session { put = None; single = false; awaited = None }) off
    (single_stays request session.wanted session.single (marks_of packet.headers) other ∙ off) refl
single_read request session (Err refusal) other off = off

pub off_after : (session : Asking) (request : Request) (response : List ℕ) → session.awaited ≡ Some request → is_first_put request ≡ false → session.single ≡ false → (after_at session.awaited session response).single ≡ false
off_after session request response waits other off =
    subst (λ (a : Option Request). (after_at a session response).single ≡ false) (sym waits) (single_read request session (packet_in (phase_of request) session.maximum response) other off)

-- ---- CONNECT

-- it is answered, whatever was heard before
record IsEnded (verdict : Verdict) : Type 0 where
  code : Code
  fits : octet_of code < 256
  is : verdict ≡ Ended code

connect_ends : (course : Course) (maximum : ℕ) (octets : List ℕ) (read : Result PlainPacket ObexRefusal) → packet_in phase.Request maximum octets ≡ read → is_connect octets ≡ true → IsEnded (at_packet course read).verdict
connect_ends course maximum octets (Ok packet) is e =
    let code : packet.code ≡ 0x80 = code_is_first maximum octets packet is ∙ eqb-true (get_or octets 0 0) 0x80 e in
    record {
      code = other_response packet.code;
      fits = connect_code packet.code;
      is = ap (λ (r : Ruling). r.verdict) (cond-false (eqb packet.code 0x02 || eqb packet.code 0x82) (at_put_in course packet) (ends (progress_in course) (other_response packet.code)) (ap (λ (n : ℕ). eqb n 0x02 || eqb n 0x82) code));
    }
connect_ends course maximum octets (Err refusal) is e = record { code = codes.BadRequest; fits = omega arith; is = refl }

met_by : (matches : Bool) (code most : ℕ) (going ended : Asking) → going.limit ≤ most → Some (if matches then Go else Refused code) ≡ Some Go → (if matches then going else ended).limit ≤ most
met_by true code most going ended fits go = fits
met_by false code most going ended fits go = absurd (let f : Some (Refused code) ≡ Some Go = go in cc)

own_stated : (own : ℕ) → own < 2 ^ 16 → maximum_of (connect_fields own) ≡ own
own_stated own fits = omega arith

-- where the client goes on behind the response, it sends no packet that is too long for its server
pub record IsConnected (session : Asking) (response : List ℕ) (most : ℕ) : Type 0 where
  pub fits : answer_at session.awaited session response ≡ Some Go → (after_at session.awaited session response).limit ≤ most

connect_read : (session : Asking) (packet : List ℕ) (code : Code) (own : ℕ) → octet_of code < 256 → 7 ≤ session.maximum → 255 ≤ own → own < 2 ^ 16 → is_connect packet ≡ true
    → IsConnected (asks_connect session) (response_octets packet own code) own
connect_read session packet code own fits room least most connects =
    let asked : Asking = asks_connect session in
    let read = responses_are_read.connecting packet own session.maximum code fits room least most connects in
    let stated = own_stated own most in
    record {
      fits = subst (λ (r : Result PlainPacket ObexRefusal). Some (answer_read Connect r) ≡ Some Go → (after_read asked Connect r).limit ≤ own) (sym read)
          (met_by (eqb (octet_of code) 0xA0) (octet_of code) own (record asked { limit = min session.limit (maximum_of (connect_fields own)); awaited = None }) (record asked { put = None; single = false; awaited = None }) (omega (arith, stated)));
    }

pub connects_well : (session : Asking) (server : Serving) (packet : List ℕ) → 7 ≤ session.maximum → 255 ≤ server.maximum → server.maximum < 2 ^ 16 → is_connect packet ≡ true → IsConnected (asks_connect session) (response_to server packet) server.maximum
connects_well session server packet room least most connects =
    let over = connect_ends server.course server.maximum packet (packet_in phase.Request server.maximum packet) refl connects in
    let said : response_to server packet ≡ response_octets packet server.maximum over.code =
    ap (λ s. octets_said packet server.maximum s) (saying_is server packet ∙ ap (λ (v : Verdict). said_after server.offered server.course (kind_heard server packet) (Ok v)) over.is) in
    subst (λ (r : List ℕ). IsConnected (asks_connect session) r server.maximum) (sym said) (connect_read session packet over.code server.maximum over.fits room least most connects)

-- ---- the first PUT of several

-- a client behind it
pub record HasBegun (session : Asking) (octets : List ℕ) (n : ℕ) : Type 0 where
  pub waits : session.awaited ≡ Some FirstPut
  pub put : session.put ≡ Some n
  pub room : 7 ≤ session.maximum
  pub plain : is_connect octets ≡ false

and_none : (a : Bool) → (a && false) ≡ false
and_none true = refl
and_none false = refl

abbrev pub Begins : Asking → (response : List ℕ) → Course → Type 0
Begins session response course = (response ≡ []) ⊎ InMode (after_at session.awaited session response).single (after_at session.awaited session response).put course

module _ (session : Asking) (octets : List ℕ) (server : Serving) (n : ℕ) where
  read_as : HasBegun session octets n → (response : List ℕ) (course : Course) (read : Result PlainPacket ObexRefusal) → packet_in phase.Response session.maximum response ≡ read
      → InMode (after_read session FirstPut read).single (after_read session FirstPut read).put course → Begins session response course
  read_as has response course read is mode =
      inr (subst (λ (a : Option Request). InMode (after_at a session response).single (after_at a session response).put course) (sym has.waits)
      (subst (λ (r : Result PlainPacket ObexRefusal). InMode (after_read session FirstPut r).single (after_read session FirstPut r).put course) (sym is) mode))

  plain_begins : HasBegun session octets n → (code : Code) (course : Course) → octet_of code < 256 → Begins session (response_octets octets server.maximum code) course
  plain_begins has code course fits =
      read_as has (response_octets octets server.maximum code) course (Ok (bare (octet_of code) [])) (responses_are_read.plain octets server.maximum session.maximum code fits has.room has.plain)
      (cond_both (eqb (octet_of code) 0x90) (record session { single = session.wanted && false; awaited = None }) (record session { put = None; single = false; awaited = None }) (λ (s : Asking). InMode s.single s.put course)
      (λ e. not_in_mode _ _ _ (and_none session.wanted)) (λ e. tt))

  confirmed : (wanted : Bool) (put : Option ℕ) (course : Course) → put ≡ Some n → course ≡ Runs (Filled n) true → InMode (wanted && true) put course
  confirmed true put course e is = subst (λ (p : Option ℕ). InMode true p course) (sym e) is
  confirmed false put course e is = tt

  confirming_begins : HasBegun session octets n → (code : Code) (course : Course) → octet_of code < 256 → (eqb (octet_of code) 0x90 ≡ true → course ≡ Runs (Filled n) true) → Begins session (confirmation_octets code) course
  confirming_begins has code course fits mode =
      read_as has (confirmation_octets code) course _ (responses_are_read.confirming session.maximum code fits has.room)
      (cond_both (eqb (octet_of code) 0x90) (record session { single = session.wanted && true; awaited = None }) (record session { put = None; single = false; awaited = None }) (λ (s : Asking). InMode s.single s.put course)
      (λ e. confirmed session.wanted session.put course has.put (mode e)) (λ e. tt))

  not_continue : false ≡ true → ⊥
  not_continue e = cc

  open_begins : HasBegun session octets n → (first single : Bool) (course : Course) → (first ≡ true → single ≡ true → course ≡ Runs (Filled n) true) → Begins session (octets_said octets server.maximum (said_open first single)) course
  open_begins has true true course mode = confirming_begins has codes.Continue course (omega arith) (λ e. mode refl refl)
  open_begins has false true course mode = inl refl
  open_begins has first false course mode = plain_begins has codes.Continue course (omega arith)

  whole_begins : HasBegun session octets n → (first single : Bool) (course : Course) → Begins session (octets_said octets server.maximum (said_whole first single)) course
  whole_begins has true true course = confirming_begins has codes.Success course (omega arith) (λ e. absurd (not_continue e))
  whole_begins has true false course = plain_begins has codes.Success course (omega arith)
  whole_begins has false single course = plain_begins has codes.Success course (omega arith)

  verdict_begins : HasBegun session octets n → (kind : Kind) (verdict : Verdict) → IsOfPut verdict → ((progress : Progress) → verdict ≡ Open progress → is_first_in server.course ≡ true → progress ≡ Filled n)
      → Begins session (octets_said octets server.maximum (said_after server.offered server.course kind (Ok verdict))) (course_after server.offered server.course kind (Ok verdict))
  verdict_begins has kind (Open progress) of_put opened =
      open_begins has (is_first_in server.course) (is_single_in server.offered server.course kind) (Runs progress (is_single_in server.offered server.course kind))
      (λ first single. ap (λ (p : Progress). Runs p (is_single_in server.offered server.course kind)) (opened progress refl first) ∙ ap (λ (b : Bool). Runs (Filled n) b) single)
  verdict_begins has kind Whole of_put opened = whole_begins has (is_first_in server.course) (is_single_in server.offered server.course kind) Rests
  verdict_begins has kind (Ended code) of_put opened = plain_begins has code (course_after server.offered server.course kind (Ok (Ended code))) of_put.3
  verdict_begins has kind (PassedOver final) of_put opened = inl refl

-- with its body so many octets of the object are there, unless it is refused
filled_with : (calls : List InboxCall) (part : List ℕ) (progress : Progress)
    → (then_at (behind calls (then_at (if ltb 16777215 (length part) then ends Named codes.TooLarge else opens (Append part ∷ []) (Filled (length part))) (λ next. after_headers next []))) (λ next. opens [] next)).verdict ≡ Open progress
    → progress ≡ Filled (length part)
filled_with calls part progress =
    cond_both (ltb 16777215 (length part)) (ends Named codes.TooLarge) (opens (Append part ∷ []) (Filled (length part)))
    (λ (r : Ruling). (then_at (behind calls (then_at r (λ next. after_headers next []))) (λ next. opens [] next)).verdict ≡ Open progress → progress ≡ Filled (length part)) (λ large e. absurd cc) (λ fits e. cc)

opened_with : (wanted : Bool) (text : List ℕ) (size : ℕ) (part : List ℕ) (progress : Progress) → (at_put Unnamed (put_packet false (head_with wanted text size) part)).verdict ≡ Open progress → progress ≡ Filled (length part)
opened_with true text size part progress =
    cond_both (ltb 255 (length (units_of text))) (ends Unnamed codes.TooLarge) (opens (Begin (units_of text) ∷ []) Named)
    (λ (r : Ruling). (then_at (then_at r (λ next. after_headers next (record { id = 0xC3; value = Four size } ∷ single_header ∷ body_header false part ∷ []))) (λ next. opens [] next)).verdict ≡ Open progress → progress ≡ Filled (length part))
    (λ long e. absurd cc) (λ short. filled_with (Begin (units_of text) ∷ []) part progress)
opened_with false text size part progress =
    cond_both (ltb 255 (length (units_of text))) (ends Unnamed codes.TooLarge) (opens (Begin (units_of text) ∷ []) Named)
    (λ (r : Ruling). (then_at (then_at r (λ next. after_headers next (record { id = 0xC3; value = Four size } ∷ body_header false part ∷ []))) (λ next. opens [] next)).verdict ≡ Open progress → progress ≡ Filled (length part))
    (λ long e. absurd cc) (λ short. filled_with (Begin (units_of text) ∷ []) part progress)

first_opened : (course : Course) (wanted : Bool) (text : List ℕ) (size : ℕ) (part : List ℕ) (progress : Progress) → (at_put_in course (put_packet false (head_with wanted text size) part)).verdict ≡ Open progress → is_first_in course ≡ true → progress ≡ Filled (length part)
first_opened Rests wanted text size part progress e first = opened_with wanted text size part progress e
first_opened Ignores wanted text size part progress e first = opened_with wanted text size part progress e
first_opened (Runs before single) wanted text size part progress e first = absurd (let f : false ≡ true = first in cc)

-- the response leaves the client in single response mode where the server is in it, with as many octets
pub begins_well : (session : Asking) (server : Serving) (wanted : Bool) (text : List ℕ) (size : ℕ) (part : List ℕ) → IsPacket phase.Request (put_packet false (head_with wanted text size) part)
    → HasBegun session (packet_octets (put_packet false (head_with wanted text size) part)) (length part)
    → (let octets = packet_octets (put_packet false (head_with wanted text size) part) in Begins session (response_to server octets) (heard server octets).course)
begins_well session server wanted text size part sound has = by (cases_lt server.maximum (length octets))
  where
    packet : PlainPacket
    packet = put_packet false (head_with wanted text size) part

    octets : List ℕ
    octets = packet_octets (put_packet false (head_with wanted text size) part)

    by_verdict : IsOfPut (ruling_on server octets).verdict → ((progress : Progress) → (ruling_on server octets).verdict ≡ Open progress → is_first_in server.course ≡ true → progress ≡ Filled (length part))
        → Begins session (response_to server octets) (heard server octets).course
    by_verdict of_put opened =
        subst (λ c. Begins session (response_to server octets) c) (sym (course_is server octets))
        (subst (λ s. Begins session (octets_said octets server.maximum s) (course_after server.offered server.course (kind_heard server octets) (Ok (ruling_on server octets).verdict))) (sym (saying_is server octets))
        (verdict_begins session octets server (length part) has (kind_heard server octets) (ruling_on server octets).verdict of_put opened))

    by : (server.maximum < length octets) ⊎ (length octets ≤ server.maximum) → Begins session (response_to server octets) (heard server octets).course
    by (inl more) =
        let len = length-packet packet in
        let read : packet_in phase.Request server.maximum octets ≡ Err AboveMaximum = too_long server.maximum octets (omega (arith, len)) more (no_fields false) in
        let verdict : (ruling_on server octets).verdict ≡ Ended codes.BadRequest = ap (λ (r : Result PlainPacket ObexRefusal). (at_packet server.course r).verdict) read in
        by_verdict (subst IsOfPut (sym verdict) bad) (λ progress e. absurd (let f : Ended codes.BadRequest ≡ Open progress = sym verdict ∙ e in cc))
    by (inr fits) =
        let read : packet_in phase.Request server.maximum octets ≡ Ok packet = packet_again phase.Request server.maximum octets packet (record { sound = sound; within = fits; spelling = refl }) in
        let verdict : (ruling_on server octets).verdict ≡ (at_put_in server.course packet).verdict = ap (λ (r : Result PlainPacket ObexRefusal). (at_packet server.course r).verdict) read in
        by_verdict (subst IsOfPut (sym verdict) (put_in_of_put server.course packet)) (λ progress e. first_opened server.course wanted text size part progress (sym verdict ∙ e))

-- ---- the PUTs behind it

-- in the mode each is heard in silence, where the object is none too large
pub record IsSilent (server : Serving) (octets : List ℕ) (total : ℕ) : Type 0 where
  pub silent : is_silent server octets ≡ true
  pub course : (heard server octets).course ≡ Runs (Filled total) true

total_put : (place : ℕ) (part : List ℕ) → place + length part ≤ 16777215 → (at_packet (Runs (Filled place) true) (Ok (put_packet false [] part))).verdict ≡ Open (Filled (place + length part))
total_put place part bounded =
    ap (λ (r : Ruling). (then_at (then_at r (λ next. after_headers next [])) (λ next. opens [] next)).verdict)
    (cond-false (ltb 16777215 (place + length part)) (ends (Filled place) codes.TooLarge) (opens (Append part ∷ []) (Filled (place + length part))) (le-ltb 16777215 (place + length part) bounded))

pub streams_well : (server : Serving) (place : ℕ) (part : List ℕ) → IsPacket phase.Request (put_packet false [] part) → length (packet_octets (put_packet false [] part)) ≤ server.maximum → server.course ≡ Runs (Filled place) true
    → place + length part ≤ 16777215 → IsSilent server (packet_octets (put_packet false [] part)) (place + length part)
streams_well server place part sound fits runs bounded =
    let packet : PlainPacket = put_packet false [] part in
    let octets = packet_octets packet in
    let read : packet_in phase.Request server.maximum octets ≡ Ok packet = packet_again phase.Request server.maximum octets packet (record { sound = sound; within = fits; spelling = refl }) in
    let verdict : (ruling_on server octets).verdict ≡ Open (Filled (place + length part)) =
    ap (λ (r : Result PlainPacket ObexRefusal). (at_packet server.course r).verdict) read ∙ ap (λ (c : Course). (at_packet c (Ok packet)).verdict) runs ∙ total_put place part bounded in
    record {
      silent = ap is_silence (saying_is server octets) ∙ ap (λ (v : Verdict). is_silence (said_after server.offered server.course (kind_heard server octets) (Ok v))) verdict
          ∙ ap (λ (c : Course). is_silence (said_open (is_first_in c) (is_single_in server.offered c (kind_heard server octets)))) runs;
      course = course_is server octets ∙ ap (λ (v : Verdict). course_after server.offered server.course (kind_heard server octets) (Ok v)) verdict
          ∙ ap (λ (c : Course). Runs (Filled (place + length part)) (is_single_in server.offered c (kind_heard server octets))) runs;
    }
