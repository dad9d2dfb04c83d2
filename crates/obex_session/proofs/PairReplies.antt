-- Two sessions over a pipe of packets: what a server replies to a packet of each stage.
use Rattle.std.proofs.Common.{get_or, Bool, true, false, cond, eqb, ◌≡◌, ℕ, ◌<◌, ◌≤◌, ◌&&◌, ◌||◌, ◌⊎◌, inl, inr, List, [], ◌∷◌, length, Option, Some, None, Result, Ok, Err, refl, sym, ap, subst, ◌∙◌, arith}
use Rattle.std.specs.Prelude.{not}
use Rattle.std.specs.List.{list_any}
use Rattle.std.proofs.lemmas.Bool.{eqb-true, cond-true, cond-false}
use Rattle.bt_base.specs.declared.ports.PortFault.TheVariants as fault
use Rattle.obex_headers.specs.declared.codes.Code.{Code}
use Rattle.obex_headers.specs.declared.codes.Code.TheVariants as codes
use Rattle.obex_headers.specs.declared.fault.ObexRefusal.{ObexRefusal}
use Rattle.obex_headers.specs.declared.packet.Phase.TheVariants as phase
use Rattle.obex_headers.specs.Codes.{octet_of}
use Rattle.obex_headers.specs.Packets.{PlainHeader, PlainPacket, IsPacket, bare, with_header}
use Rattle.obex_headers.specs.Reading.{◌>>=◌, headers_in, packet_in, front_at}
use Rattle.obex_headers.proofs.PacketLaws.{packet_again}
use Rattle.obex_session.specs.declared.asking.Request.{Request}
use Rattle.obex_session.specs.declared.asking.Request.TheVariants.{Connect, FirstPut, Put, FinalPut}
use Rattle.obex_session.specs.declared.client.Answered.{Answered}
use Rattle.obex_session.specs.declared.client.Answered.TheVariants.{Go, Done, Refused}
use Rattle.obex_session.specs.declared.course.Course.{Course}
use Rattle.obex_session.specs.declared.course.Course.TheVariants.{Rests, Ignores, Runs}
use Rattle.obex_session.specs.declared.course.Progress.{Progress}
use Rattle.obex_session.specs.declared.course.Progress.TheVariants.{Unnamed}
use Rattle.obex_session.specs.declared.course.Verdict.{Verdict}
use Rattle.obex_session.specs.declared.course.Verdict.TheVariants.{Open, Whole, Ended, PassedOver}
use Rattle.obex_session.specs.declared.marks.Kind.{Kind}
use Rattle.obex_session.specs.declared.marks.Kind.TheVariants as kinds
use Rattle.obex_session.specs.declared.marks.Marks.{Marks}
use Rattle.obex_session.specs.declared.responding.Saying.{Saying}
use Rattle.obex_session.specs.declared.responding.Saying.TheVariants as saying
use Rattle.obex_session.specs.Responses.{is_connect, connect_fields, single_header, response_octets, confirmation_octets}
use Rattle.obex_session.specs.InboxCalls.{Answer, come_of}
use Rattle.obex_session.specs.Marks.{is_name, marks_of, kind_of}
use Rattle.obex_session.specs.Rules.{Ruling, ends, aborts, at_put, at_put_in, at_packet, other_response, progress_in}
use Rattle.obex_session.specs.Turns.{enables, is_first_in, is_single_in, said_open, said_whole, course_refused, course_after, said_after}
use Rattle.obex_session.specs.Past.{Heard, Serving, stored_by}
use Rattle.obex_session.specs.Serving.{kind_heard, verdict_or, heard_with}
use Rattle.obex_session.specs.Asking.{Asking, phase_of, awaited_code, success_of, answer_to, after_read, after_answer}
use Rattle.obex_session.specs.NextPut.{is_waiting}
use Rattle.obex_session.specs.Exchanges.{answer_by_code, is_success_code, is_success, stores_one}
use Rattle.obex_session.specs.Pairs.{Pair, sent_by, leave_request, leave_packet, MeansWell}
use Rattle.obex_session.proofs.ExchangeLaws.{responses_are_read}
use Rattle.obex_session.proofs.SuccessLaws.{put_never_passes, none_stored}
use Rattle.obex_session.proofs.RuledLaws.{IsOfPut, bad, put_in_of_put}
use Rattle.obex_session.proofs.PairStages.{no_first, refused_well, request_of, Agrees, IsNext, Queued, Over, streaming, IsRefused, Refuses, leave_phase, leave_success, Base, Stage, Replied, Streams, Stopped, Mute}

-- ---- what a server makes of a PUT

pub record Ruled (course : Course) (read : Result PlainPacket ObexRefusal) : Type 0 where
  pub of_put : IsOfPut (at_packet course read).verdict
  pub whole : kind_of read ≡ kinds.Refused → (at_packet course read).verdict ≡ Whole → ⊥

pub at_put_code : (put : Bool) (course : Course) (packet : PlainPacket) → (cond put (kinds.Put (eqb packet.code 0x82) (marks_of packet.headers)) (kinds.Other packet.code) ≡ kinds.Refused) ⊎ ((final : Bool) × (marks : Marks) × (cond put (kinds.Put (eqb packet.code 0x82) (marks_of packet.headers)) (kinds.Other packet.code) ≡ kinds.Put final marks))
    → IsOfPut (cond put (at_put_in course packet) (ends (progress_in course) (other_response packet.code))).verdict
at_put_code true course packet is = put_in_of_put course packet
at_put_code false course packet (inl e) = absurd cc
at_put_code false course packet (inr is) = let e = is.2 in absurd cc

pub refused_not_put : (put : Bool) (packet : PlainPacket) → cond put (kinds.Put (eqb packet.code 0x82) (marks_of packet.headers)) (kinds.Other packet.code) ≡ kinds.Refused → ⊥
refused_not_put true packet e = absurd cc
refused_not_put false packet e = absurd cc

abbrev pub IsAPut : Result PlainPacket ObexRefusal → Type 0
IsAPut read = (kind_of read ≡ kinds.Refused) ⊎ ((final : Bool) × (marks : Marks) × (kind_of read ≡ kinds.Put final marks))

pub ruled : (course : Course) (read : Result PlainPacket ObexRefusal) → IsAPut read → Ruled course read
ruled course (Ok packet) is = record {
  of_put = at_put_code (eqb packet.code 0x02 || eqb packet.code 0x82) course packet is;
  whole = λ k e. refused_not_put (eqb packet.code 0x02 || eqb packet.code 0x82) packet k;
}
ruled course (Err refusal) is = record { of_put = bad; whole = λ k e. absurd cc }

pub runs_never_pass : (put : Bool) (progress : Progress) (single : Bool) (packet : PlainPacket) (final : Bool) → (cond put (at_put_in (Runs progress single) packet) (ends progress (other_response packet.code))).verdict ≡ PassedOver final → ⊥
runs_never_pass true progress single packet final e = put_never_passes progress packet final e
runs_never_pass false progress single packet final e = absurd cc

pub never_passes : (progress : Progress) (single : Bool) (read : Result PlainPacket ObexRefusal) (final : Bool) → (at_packet (Runs progress single) read).verdict ≡ PassedOver final → ⊥
never_passes progress single (Ok packet) final e = runs_never_pass (eqb packet.code 0x02 || eqb packet.code 0x82) progress single packet final e
never_passes progress single (Err refusal) final e = absurd cc

-- ---- replies

-- a pair whose server has heard a packet
abbrev pub heard_by : Pair → List ℕ → List Heard → Saying → Course → List (List ℕ) → Pair
heard_by a packet past said course rest = record a {
  server = record a.server { course = course };
  past = past;
  requests = rest;
  responses = sent_by packet a.server.maximum said;
}

-- a packet of a client that waits for its response
pub record Met (a : Pair) (packet : List ℕ) (request : Request) : Type 0 where
  pub waits : a.client.awaited ≡ Some request
  pub waiting : is_waiting (Some request) ≡ true
  pub response : phase_of request ≡ phase.Response
  pub plain : is_connect packet ≡ false
  pub least : 7 ≤ a.client.maximum

-- a code that refuses it
pub record IsRefusal (request : Request) (code : Code) : Type 0 where
  pub fits : octet_of code < 256
  pub other : eqb (octet_of code) (awaited_code request) ≡ false

pub plain_answer : (a : Pair) (packet : List ℕ) (request : Request) (code : Code) → Met a packet request → octet_of code < 256 → answer_to a.client.maximum request (response_octets packet a.server.maximum code) ≡ answer_by_code request (octet_of code)
plain_answer a packet request code met fits = responses_are_read.answer_plain request packet a.server.maximum a.client.maximum code fits met.least met.plain met.response

pub refusal_answer : (a : Pair) (packet : List ℕ) (request : Request) (code : Code) → Met a packet request → IsRefusal request code → answer_to a.client.maximum request (response_octets packet a.server.maximum code) ≡ Refused (octet_of code)
refusal_answer a packet request code met refusal = plain_answer a packet request code met refusal.fits ∙ cond-false _ (success_of request) (Refused (octet_of code)) refusal.other

pub confirming_answer : (a : Pair) (packet : List ℕ) (request : Request) (code : Code) → Met a packet request → octet_of code < 256 → answer_to a.client.maximum request (confirmation_octets code) ≡ answer_by_code request (octet_of code)
confirming_answer a packet request code met fits = responses_are_read.answer_confirming request a.client.maximum code fits met.least met.response

-- a reply that refuses
pub refused_reply : (a : Pair) (packet : List ℕ) (past : List Heard) (request : Request) (code : Code) (course : Course) → Met a packet request → IsRefusal request code → Stage (heard_by a packet past (saying.Response code) course [])
refused_reply a packet past request code course met refusal =
    let e = refusal_answer a packet request code met refusal in
    Replied request (response_octets packet a.server.maximum code) met.waits (ap is_waiting met.waits ∙ met.waiting) refl refl (refused_well _ _ (octet_of code) e) (λ go. absurd (let bad_go : Refused (octet_of code) ≡ Go = sym e ∙ go in cc))

pub refused_confirming : (a : Pair) (packet : List ℕ) (past : List Heard) (request : Request) (code : Code) (course : Course) → Met a packet request → IsRefusal request code → Stage (heard_by a packet past (saying.Confirmation code) course [])
refused_confirming a packet past request code course met refusal =
    let e : answer_to a.client.maximum request (confirmation_octets code) ≡ Refused (octet_of code) = confirming_answer a packet request code met refusal.fits ∙ cond-false _ (success_of request) (Refused (octet_of code)) refusal.other in
    Replied request (confirmation_octets code) met.waits (ap is_waiting met.waits ∙ met.waiting) refl refl (refused_well _ _ (octet_of code) e) (λ go. absurd (let bad_go : Refused (octet_of code) ≡ Go = sym e ∙ go in cc))

-- no reply
pub no_reply : (a : Pair) (packet : List ℕ) (past : List Heard) (request : Request) (course : Course) → Met a packet request → Stage (heard_by a packet past saying.Silence course [])
no_reply a packet past request course met = Mute (ap is_waiting met.waits ∙ met.waiting) refl refl

-- ---- the first PUT

pub agrees_from : (put : Option ℕ) (place : ℕ) (single single' : Bool) (progress : Progress) → put ≡ Some place → single ≡ single' → Agrees put single (Runs progress single')
agrees_from put place single single' progress p e = subst (λ (o : Option ℕ). Agrees o single (Runs progress single')) (sym p) (progress, ap (λ (b : Bool). Runs progress b) (sym e))

pub wished : (b : Bool) → b ≡ true → (b && true) ≡ true
wished true e = refl
wished false e = absurd cc

pub unwished : (b : Bool) → (b && false) ≡ false
unwished true = refl
unwished false = refl

pub first_open : (a : Pair) (packet : List ℕ) (past : List Heard) (progress : Progress) (place : ℕ) (single : Bool) → Met a packet FirstPut → a.client.put ≡ Some place → (single ≡ true → a.client.wanted ≡ true) → length (stored_by a.server.maximum past) ≡ 0
    → Stage (heard_by a packet past (said_open true single) (Runs progress single) [])
first_open a packet past progress place true met put wish none =
    let e : answer_to a.client.maximum FirstPut (confirmation_octets codes.Continue) ≡ Go = confirming_answer a packet FirstPut codes.Continue met (omega arith) in
    let client : after_answer a.client FirstPut (confirmation_octets codes.Continue) ≡ after_read a.client FirstPut (Ok (with_header (bare 0x90 []) single_header)) = ap (after_read a.client FirstPut) (responses_are_read.confirming a.client.maximum codes.Continue (omega arith) met.least) in
    Replied FirstPut (confirmation_octets codes.Continue) met.waits (ap is_waiting met.waits) refl refl (subst (MeansWell _) (sym e) tt)
    (λ go. (subst (λ (c : Asking). Agrees c.put c.single (Runs progress true)) (sym client) (agrees_from a.client.put place (a.client.wanted && true) true progress put (wished a.client.wanted (wish refl))), none))
first_open a packet past progress place false met put wish none =
    let e : answer_to a.client.maximum FirstPut (response_octets packet a.server.maximum codes.Continue) ≡ Go = plain_answer a packet FirstPut codes.Continue met (omega arith) in
    let client : after_answer a.client FirstPut (response_octets packet a.server.maximum codes.Continue) ≡ after_read a.client FirstPut (Ok (bare 0x90 [])) = ap (after_read a.client FirstPut) (responses_are_read.plain packet a.server.maximum a.client.maximum codes.Continue (omega arith) met.least met.plain) in
    Replied FirstPut (response_octets packet a.server.maximum codes.Continue) met.waits (ap is_waiting met.waits) refl refl (subst (MeansWell _) (sym e) tt)
    (λ go. (subst (λ (c : Asking). Agrees c.put c.single (Runs progress false)) (sym client) (agrees_from a.client.put place (a.client.wanted && false) false progress put (unwished a.client.wanted)), none))

-- no success is said
pub zero_stored : (count : ℕ) (kind : Kind) (said : Saying) → is_success said ≡ false → count ≡ cond (stores_one kind said) 1 0 → count ≡ 0
zero_stored count kind said e n = n ∙ ap (λ (b : Bool). cond b 1 0) (none_stored kind said e)

pub open_fails : (single : Bool) → is_success (said_open true single) ≡ false
open_fails true = refl
open_fails false = refl

pub put_refusal : (request : Request) (code : Code) → awaited_code request ≡ 0x90 → eqb (octet_of code) 0x90 ≡ false → octet_of code < 256 → IsRefusal request code
put_refusal request code awaited e fits = record { fits = fits; other = ap (λ (n : ℕ). eqb (octet_of code) n) awaited ∙ e }

pub final_refusal : (request : Request) (code : Code) → awaited_code request ≡ 0xA0 → is_success_code code ≡ false → octet_of code < 256 → IsRefusal request code
final_refusal request code awaited e fits = record { fits = fits; other = ap (λ (n : ℕ). eqb (octet_of code) n) awaited ∙ e }

pub first_heard : (a : Pair) (packet : List ℕ) (past : List Heard) (kind : Kind) (place : ℕ) (verdict : Verdict) (come : Answer) → Met a packet FirstPut → a.client.put ≡ Some place → (enables a.server.offered kind ≡ true → a.client.wanted ≡ true) → IsOfPut verdict
    → (said_after a.server.offered Rests kind (verdict_or verdict come) ≡ saying.NoMemory → ⊥)
    → length (stored_by a.server.maximum past) ≡ cond (stores_one kind (said_after a.server.offered Rests kind (verdict_or verdict come))) 1 0
    → Stage (heard_by a packet past (said_after a.server.offered Rests kind (verdict_or verdict come)) (course_after a.server.offered Rests kind (verdict_or verdict come)) [])
first_heard a packet past kind place (Open progress) (Ok done) met put wish is memory n = first_open a packet past progress place (enables a.server.offered kind) met put wish (zero_stored _ kind _ (open_fails (enables a.server.offered kind)) n)
first_heard a packet past kind place Whole (Ok done) met put wish is memory n = by_mode (enables a.server.offered kind)
  where
    by_mode : (single : Bool) → Stage (heard_by a packet past (said_whole true single) Rests [])
    by_mode true = refused_confirming a packet past FirstPut codes.Success Rests met (record { fits = omega arith; other = refl })
    by_mode false = refused_reply a packet past FirstPut codes.Success Rests met (record { fits = omega arith; other = refl })
first_heard a packet past kind place (Ended code) (Ok done) met put wish is memory n = refused_reply a packet past FirstPut code _ met (put_refusal FirstPut code refl is.2 is.3)
first_heard a packet past kind place (PassedOver final) (Ok done) met put wish is memory n = no_reply a packet past FirstPut _ met
first_heard a packet past kind place verdict (Err fault.Failed) met put wish is memory n = refused_reply a packet past FirstPut codes.InternalError _ met (record { fits = omega arith; other = refl })
first_heard a packet past kind place verdict (Err fault.NoMemory) met put wish is memory n = absurd (memory refl)

-- ---- a further PUT

pub further_heard : (a : Pair) (packet : List ℕ) (past : List Heard) (kind : Kind) (before : Progress) (place : ℕ) (verdict : Verdict) (come : Answer) → Met a packet Put → a.client.put ≡ Some place → a.client.single ≡ false → IsOfPut verdict
    → (said_after a.server.offered (Runs before false) kind (verdict_or verdict come) ≡ saying.NoMemory → ⊥)
    → length (stored_by a.server.maximum past) ≡ cond (stores_one kind (said_after a.server.offered (Runs before false) kind (verdict_or verdict come))) 1 0
    → Stage (heard_by a packet past (said_after a.server.offered (Runs before false) kind (verdict_or verdict come)) (course_after a.server.offered (Runs before false) kind (verdict_or verdict come)) [])
further_heard a packet past kind before place (Open progress) (Ok done) met put single is memory n =
    let e : answer_to a.client.maximum Put (response_octets packet a.server.maximum codes.Continue) ≡ Go = plain_answer a packet Put codes.Continue met (omega arith) in
    let client : after_answer a.client Put (response_octets packet a.server.maximum codes.Continue) ≡ after_read a.client Put (Ok (bare 0x90 [])) = ap (after_read a.client Put) (responses_are_read.plain packet a.server.maximum a.client.maximum codes.Continue (omega arith) met.least met.plain) in
    Replied Put (response_octets packet a.server.maximum codes.Continue) met.waits (ap is_waiting met.waits) refl refl (subst (MeansWell _) (sym e) tt)
    (λ go. (subst (λ (c : Asking). Agrees c.put c.single (Runs progress false)) (sym client) (agrees_from a.client.put place a.client.single false progress put single), zero_stored _ kind _ refl n))
further_heard a packet past kind before place Whole (Ok done) met put single is memory n = refused_reply a packet past Put codes.Success Rests met (record { fits = omega arith; other = refl })
further_heard a packet past kind before place (Ended code) (Ok done) met put single is memory n = refused_reply a packet past Put code _ met (put_refusal Put code refl is.2 is.3)
further_heard a packet past kind before place (PassedOver final) (Ok done) met put single is memory n = no_reply a packet past Put _ met
further_heard a packet past kind before place verdict (Err fault.Failed) met put single is memory n = refused_reply a packet past Put codes.InternalError _ met (record { fits = omega arith; other = refl })
further_heard a packet past kind before place verdict (Err fault.NoMemory) met put single is memory n = absurd (memory refl)

-- ---- the final PUT

pub final_heard : (a : Pair) (packet : List ℕ) (past : List Heard) (kind : Kind) (course : Course) (verdict : Verdict) (come : Answer) → Met a packet FinalPut → IsOfPut verdict → (kind ≡ kinds.Refused → verdict ≡ Whole → ⊥) → ((kind ≡ kinds.Refused) ⊎ ((final : Bool) × (marks : Marks) × (kind ≡ kinds.Put final marks)))
    → (said_after a.server.offered course kind (verdict_or verdict come) ≡ saying.NoMemory → ⊥)
    → length (stored_by a.server.maximum past) ≡ cond (stores_one kind (said_after a.server.offered course kind (verdict_or verdict come))) 1 0
    → Stage (heard_by a packet past (said_after a.server.offered course kind (verdict_or verdict come)) (course_after a.server.offered course kind (verdict_or verdict come)) [])
final_heard a packet past kind course (Open progress) (Ok done) met is whole put memory n = by_mode (is_first_in course) (is_single_in a.server.offered course kind)
  where
    by_mode : (first single : Bool) → Stage (heard_by a packet past (said_open first single) (Runs progress (is_single_in a.server.offered course kind)) [])
    by_mode true true = refused_confirming a packet past FinalPut codes.Continue _ met (record { fits = omega arith; other = refl })
    by_mode false true = no_reply a packet past FinalPut _ met
    by_mode first false = refused_reply a packet past FinalPut codes.Continue _ met (record { fits = omega arith; other = refl })
final_heard a packet past kind course Whole (Ok done) met is whole (inl refused) memory n = absurd (whole refused refl)
final_heard a packet past kind course Whole (Ok done) met is whole (inr put) memory n = by_mode (is_first_in course && is_single_in a.server.offered course kind) refl
  where
    one : (said : Saying) → said_after a.server.offered course kind (verdict_or Whole (Ok done)) ≡ said → is_success said ≡ true → length (stored_by a.server.maximum past) ≡ 1
    one said e success = n ∙ ap (λ (k : Kind). cond (stores_one k (said_after a.server.offered course kind (verdict_or Whole (Ok done)))) 1 0) put.2 ∙ ap (λ (s : Saying). cond (is_success s) 1 0) e ∙ ap (λ (b : Bool). cond b 1 0) success

    by_mode : (confirms : Bool) → (is_first_in course && is_single_in a.server.offered course kind) ≡ confirms → Stage (heard_by a packet past (cond confirms (saying.Confirmation codes.Success) (saying.Response codes.Success)) Rests [])
    by_mode true e =
        let done_is : answer_to a.client.maximum FinalPut (confirmation_octets codes.Success) ≡ Done = confirming_answer a packet FinalPut codes.Success met (omega arith) in
        let stored_one = one (saying.Confirmation codes.Success) (ap (λ (b : Bool). cond b (saying.Confirmation codes.Success) (saying.Response codes.Success)) e) refl in
        Replied FinalPut (confirmation_octets codes.Success) met.waits (ap is_waiting met.waits) refl refl (subst (MeansWell (length (stored_by a.server.maximum past))) (sym done_is) stored_one) (λ go. absurd (let bad_go : Done ≡ Go = sym done_is ∙ go in cc))
    by_mode false e =
        let done_is : answer_to a.client.maximum FinalPut (response_octets packet a.server.maximum codes.Success) ≡ Done = plain_answer a packet FinalPut codes.Success met (omega arith) in
        let stored_one = one (saying.Response codes.Success) (ap (λ (b : Bool). cond b (saying.Confirmation codes.Success) (saying.Response codes.Success)) e) refl in
        Replied FinalPut (response_octets packet a.server.maximum codes.Success) met.waits (ap is_waiting met.waits) refl refl (subst (MeansWell (length (stored_by a.server.maximum past))) (sym done_is) stored_one) (λ go. absurd (let bad_go : Done ≡ Go = sym done_is ∙ go in cc))
final_heard a packet past kind course (Ended code) (Ok done) met is whole put memory n = refused_reply a packet past FinalPut code _ met (final_refusal FinalPut code refl is.0 is.3)
final_heard a packet past kind course (PassedOver final) (Ok done) met is whole put memory n = no_reply a packet past FinalPut _ met
final_heard a packet past kind course verdict (Err fault.Failed) met is whole put memory n = refused_reply a packet past FinalPut codes.InternalError _ met (record { fits = omega arith; other = refl })
final_heard a packet past kind course verdict (Err fault.NoMemory) met is whole put memory n = absurd (memory refl)

-- ---- CONNECT

abbrev pub ok_packet : PlainPacket → Result PlainPacket ObexRefusal
ok_packet packet = Ok packet

pub made_code : (made packet : PlainPacket) (code : ℕ) → made.code ≡ code → ok_packet made ≡ ok_packet packet → packet.code ≡ code
made_code made packet code is e = sym (ap (λ (p : PlainPacket). p.code) (same_ok made packet e)) ∙ is
  where
    same_ok : (made packet : PlainPacket) → ok_packet made ≡ ok_packet packet → made ≡ packet
    same_ok made packet e = cc

pub by_headers : (headers : Result (List PlainHeader) ObexRefusal) (code : ℕ) (extra : List ℕ) (packet : PlainPacket) → (headers >>= λ hs. Ok (record { code = code; extra = extra; headers = hs })) ≡ Ok packet → packet.code ≡ code
by_headers (Ok hs) code extra packet e = made_code (record { code = code; extra = extra; headers = hs }) packet code refl e
by_headers (Err refusal) code extra packet e = absurd cc

pub by_front : (front : Result (List ℕ × List ℕ) ObexRefusal) (code : ℕ) (packet : PlainPacket)
    → (front >>= λ parts. headers_in parts.1 >>= λ hs. Ok (record { code = code; extra = parts.0; headers = hs })) ≡ Ok packet → packet.code ≡ code
by_front (Ok parts) code packet e = by_headers (headers_in parts.1) code parts.0 packet e
by_front (Err refusal) code packet e = absurd cc

pub code_is_first : (maximum : ℕ) (octets : List ℕ) (packet : PlainPacket) → packet_in phase.Request maximum octets ≡ Ok packet → packet.code ≡ get_or octets 0 0
unfolding packet_in
code_is_first maximum octets packet e = by_front (front_at phase.Request maximum octets) (get_or octets 0 0) packet e

-- what the rules say of it where nothing is under way
pub record Connects (read : Result PlainPacket ObexRefusal) : Type 0 where
  pub code : Code
  pub fits : octet_of code < 256
  pub ruling : at_packet Rests read ≡ record { calls = []; verdict = Ended code }
  pub no_put : (said : Saying) → stores_one (kind_of read) said ≡ false

pub connect_code : (code : ℕ) → octet_of (other_response code) < 256
connect_code code = small (eqb code 0x80 || eqb code 0x81 || eqb code 0xFF)
  where
    small : (b : Bool) → octet_of (cond b codes.Success codes.NotImplemented) < 256
    small true = omega arith
    small false = omega arith

pub connects : (maximum : ℕ) (octets : List ℕ) (read : Result PlainPacket ObexRefusal) → packet_in phase.Request maximum octets ≡ read → is_connect octets ≡ true → Connects read
connects maximum octets (Ok packet) is e =
    let code : packet.code ≡ 0x80 = code_is_first maximum octets packet is ∙ eqb-true (get_or octets 0 0) 0x80 e in
    let other : (eqb packet.code 0x02 || eqb packet.code 0x82) ≡ false = ap (λ (n : ℕ). eqb n 0x02 || eqb n 0x82) code in
    record {
      code = other_response packet.code;
      fits = connect_code packet.code;
      ruling = cond-false _ (at_put_in Rests packet) (ends (progress_in Rests) (other_response packet.code)) other;
      no_put = λ said. ap (λ (k : Kind). stores_one k said) (cond-false _ (kinds.Put (eqb packet.code 0x82) (marks_of packet.headers)) (kinds.Other packet.code) other);
    }
connects maximum octets (Err refusal) is e = record { code = codes.BadRequest; fits = omega arith; ruling = refl; no_put = λ said. refl }

-- what is known of a packet that was heard, by the course of its server
abbrev pub said_at : Pair → List ℕ → List Answer → Course → Saying
said_at a packet answers course = said_after a.server.offered course (kind_heard a.server packet) (verdict_or (at_packet course (packet_in phase.Request a.server.maximum packet)).verdict (come_of (at_packet course (packet_in phase.Request a.server.maximum packet)).calls answers))

abbrev pub course_at : Pair → List ℕ → List Answer → Course → Course
course_at a packet answers course = course_after a.server.offered course (kind_heard a.server packet) (verdict_or (at_packet course (packet_in phase.Request a.server.maximum packet)).verdict (come_of (at_packet course (packet_in phase.Request a.server.maximum packet)).calls answers))

pub record Facts (a : Pair) (packet : List ℕ) (past : List Heard) (answers : List Answer) (course : Course) : Type 0 where
  pub memory : said_at a packet answers course ≡ saying.NoMemory → ⊥
  pub count : length (stored_by a.server.maximum past) ≡ cond (stores_one (kind_heard a.server packet) (said_at a packet answers course)) 1 0
  pub last : (final : Bool) (marks : Marks) → kind_heard a.server packet ≡ kinds.Put final marks → is_success (said_at a packet answers course) ≡ true → final ≡ true

abbrev pub Then : Pair → List ℕ → List Heard → List Answer → List (List ℕ) → Course → Type 0
Then a packet past answers rest course = Stage (heard_by a packet past (said_at a packet answers course) (course_at a packet answers course) rest)

-- where the course is known
pub at_course : (a : Pair) (packet : List ℕ) (past : List Heard) (answers : List Answer) (rest : List (List ℕ)) (course : Course) → a.server.course ≡ course → Facts a packet past answers a.server.course → (Facts a packet past answers course → Then a packet past answers rest course)
    → Then a packet past answers rest a.server.course
at_course a packet past answers rest course e facts goes = subst (Then a packet past answers rest) (sym e) (goes (subst (Facts a packet past answers) e facts))

pub put_none : (b : Bool) (x y : Asking) → x.put ≡ None → y.put ≡ None → (cond b x y).put ≡ None
put_none true x y p q = p
put_none false x y p q = q

pub connect_well : (b : Bool) (code count : ℕ) → MeansWell count (cond b Go (Refused code))
connect_well true code count = tt
connect_well false code count = tt

pub agrees_none : (put : Option ℕ) (single : Bool) → put ≡ None → Agrees put single Rests
agrees_none put single e = subst (λ (o : Option ℕ). Agrees o single Rests) (sym e) refl

pub connect_replied : (a : Pair) (packet : List ℕ) (past : List Heard) (code : Code) → Base a → a.client.awaited ≡ Some Connect → is_connect packet ≡ true → a.client.put ≡ None → octet_of code < 256 → length (stored_by a.server.maximum past) ≡ 0
    → Stage (heard_by a packet past (saying.Response code) Rests [])
connect_replied a packet past code base waits connect put fits none =
    let least = base.client_least in
    let room : 7 ≤ a.client.maximum = omega (arith, least) in
    let answer : answer_to a.client.maximum Connect (response_octets packet a.server.maximum code) ≡ answer_by_code Connect (octet_of code) =
    responses_are_read.answer_connecting Connect packet a.server.maximum a.client.maximum code fits room base.server_least base.server_most connect refl in
    let client : after_answer a.client Connect (response_octets packet a.server.maximum code) ≡ after_read a.client Connect (Ok (bare (octet_of code) (connect_fields a.server.maximum))) =
    ap (after_read a.client Connect) (responses_are_read.connecting packet a.server.maximum a.client.maximum code fits room base.server_least base.server_most connect) in
    Replied Connect (response_octets packet a.server.maximum code) waits (ap is_waiting waits) refl refl
    (subst (MeansWell (length (stored_by a.server.maximum past))) (sym answer) (connect_well (eqb (octet_of code) 0xA0) (octet_of code) (length (stored_by a.server.maximum past))))
    (λ go. (subst (λ (c : Asking). Agrees c.put c.single Rests) (sym client) (agrees_none _ _ (put_none (eqb (octet_of code) 0xA0) _ _ put refl)), none))

pub connect_heard : (a : Pair) (packet : List ℕ) (past : List Heard) (answers : List Answer) → Base a → a.client.awaited ≡ Some Connect → is_connect packet ≡ true → a.client.put ≡ None → Facts a packet past answers Rests → Then a packet past answers [] Rests
connect_heard a packet past answers base waits connect put facts =
    let here = connects a.server.maximum packet (packet_in phase.Request a.server.maximum packet) refl connect in
    let none : length (stored_by a.server.maximum past) ≡ 0 = facts.count ∙ ap (λ (b : Bool). cond b 1 0) (here.no_put (said_at a packet answers Rests)) in
    subst (λ (r : Ruling). Stage (heard_by a packet past (said_after a.server.offered Rests (kind_heard a.server packet) (verdict_or r.verdict (come_of r.calls answers))) (course_after a.server.offered Rests (kind_heard a.server packet) (verdict_or r.verdict (come_of r.calls answers))) []))
    (sym here.ruling) (connect_replied a packet past here.code base waits connect put here.fits none)

-- ---- PUTs behind the first

pub record Head (maximum : ℕ) (final : Bool) (packet : List ℕ) (rest : List (List ℕ)) : Type 0 where
  pub ends : Bool
  pub put : IsNext maximum packet ends
  pub last : ends ≡ true → (rest ≡ []) × (final ≡ true)
  pub others : ((rest ≡ []) × (final ≡ true)) ⊎ Queued maximum final rest

pub head_queued : (maximum : ℕ) (final : Bool) (packet : List ℕ) (rest : List (List ℕ)) → Queued maximum final (packet ∷ rest) → Head maximum final packet rest
head_queued maximum true packet [] queued = record { ends = true; put = queued; last = λ e. (refl, refl); others = inl (refl, refl) }
head_queued maximum true packet (next ∷ rest) queued = record { ends = false; put = queued.0; last = λ e. absurd cc; others = inr queued.1 }
head_queued maximum false packet rest queued = record { ends = false; put = queued.0; last = λ e. absurd cc; others = inr queued.1 }

over_ignores : (maximum : ℕ) (final : Bool) (course : Course) (rest : List (List ℕ)) → course ≡ Ignores → Queued maximum final rest → Over maximum final course rest
over_ignores maximum true course rest e queued = inr (e, queued)
over_ignores maximum false course rest e queued = (e, queued)

over_none : (maximum : ℕ) (final : Bool) (course : Course) (rest : List (List ℕ)) → (rest ≡ []) × (final ≡ true) → Over maximum final course rest
over_none maximum true course rest over = inl over.0
over_none maximum false course rest over = absurd (let never : false ≡ true = over.1 in cc)

-- behind the last nothing is under way
over_behind : (maximum : ℕ) (ends final : Bool) (course : Course) (rest : List (List ℕ)) → (ends ≡ false → course ≡ Ignores) → (ends ≡ true → (rest ≡ []) × (final ≡ true)) → ((rest ≡ []) × (final ≡ true)) ⊎ Queued maximum final rest → Over maximum final course rest
over_behind maximum true final course rest ignores last others = over_none maximum final course rest (last refl)
over_behind maximum false final course rest ignores last (inl over) = over_none maximum final course rest over
over_behind maximum false final course rest ignores last (inr queued) = over_ignores maximum final course rest (ignores refl) queued

-- ---- a stream

-- what a server says of a PUT of a stream, and its course then
pub data Streamed (maximum : ℕ) (rest : List (List ℕ)) (final : Bool) (said : Saying) (course : Course) : Type 0 where
  Flows : (progress : Progress) → said ≡ saying.Silence → course ≡ Runs progress true → ((rest ≡ []) × (final ≡ true)) ⊎ Queued maximum final rest → Streamed maximum rest final said course
  Stops : (code : Code) → said ≡ saying.Response code → octet_of code < 256 → is_success_code code ≡ false → Over maximum final course rest → Streamed maximum rest final said course
  Stores : said ≡ saying.Response codes.Success → rest ≡ [] → final ≡ true → Streamed maximum rest final said course

refused_ignores : (before : Progress) (kind : Kind) (ends : Bool) (marks : Marks) → kind ≡ kinds.Put ends marks → ends ≡ false → course_refused (Runs before true) kind ≡ Ignores
refused_ignores before kind ends marks k e = ap (course_refused (Runs before true)) k ∙ ap (λ (b : Bool). course_refused (Runs before true) (kinds.Put b marks)) e

pub streamed : (offered : Bool) (maximum : ℕ) (packet : List ℕ) (rest : List (List ℕ)) (final : Bool) (before : Progress) (kind : Kind) (marks : Marks) (verdict : Verdict) (come : Answer) → (head : Head maximum final packet rest) → IsOfPut verdict → kind ≡ kinds.Put head.ends marks
    → ((last : Bool) → verdict ≡ PassedOver last → ⊥) → (said_after offered (Runs before true) kind (verdict_or verdict come) ≡ saying.NoMemory → ⊥) → (is_success (said_after offered (Runs before true) kind (verdict_or verdict come)) ≡ true → head.ends ≡ true)
    → Streamed maximum rest final (said_after offered (Runs before true) kind (verdict_or verdict come)) (course_after offered (Runs before true) kind (verdict_or verdict come))
streamed offered maximum packet rest final before kind marks (Open progress) (Ok done) head is k passes memory last = Flows progress refl refl head.others
streamed offered maximum packet rest final before kind marks Whole (Ok done) head is k passes memory last = let over = head.last (last refl) in Stores refl over.0 over.1
streamed offered maximum packet rest final before kind marks (Ended code) (Ok done) head is k passes memory last =
    Stops code refl is.3 is.0 (over_behind maximum head.ends final (course_refused (Runs before true) kind) rest (refused_ignores before kind head.ends marks k) head.last head.others)
streamed offered maximum packet rest final before kind marks (PassedOver over) (Ok done) head is k passes memory last = absurd (passes over refl)
streamed offered maximum packet rest final before kind marks verdict (Err fault.Failed) head is k passes memory last =
    Stops codes.InternalError refl (omega arith) refl (over_behind maximum head.ends final (course_refused (Runs before true) kind) rest (refused_ignores before kind head.ends marks k) head.last head.others)
streamed offered maximum packet rest final before kind marks verdict (Err fault.NoMemory) head is k passes memory last = absurd (memory refl)

-- a client that streams
pub record Flow (a : Pair) (final : Bool) : Type 0 where
  pub waits : a.client.awaited ≡ Some (streaming final)
  pub more : final ≡ false → ((place : ℕ) × (a.client.put ≡ Some place)) × (a.client.single ≡ true)
  pub least : 7 ≤ a.client.maximum

pub refuses_by : (packet : List ℕ) (own maximum : ℕ) (code : Code) → octet_of code < 256 → 7 ≤ maximum → is_connect packet ≡ false → is_success_code code ≡ false → Refuses maximum (response_octets packet own code)
refuses_by packet own maximum code fits least plain refused = λ request at awaited.
    (octet_of code, responses_are_read.answer_plain request packet own maximum code fits least plain at ∙ cond-false _ (success_of request) (Refused (octet_of code)) (ap (λ (n : ℕ). eqb (octet_of code) n) awaited ∙ refused))

pub stream_stage : (a : Pair) (packet : List ℕ) (past : List Heard) (rest : List (List ℕ)) (final : Bool) (said : Saying) (course : Course) → Flow a final → is_connect packet ≡ false
    → (is_success said ≡ false → length (stored_by a.server.maximum past) ≡ 0) → (is_success said ≡ true → length (stored_by a.server.maximum past) ≡ 1) → Streamed a.server.maximum rest final said course → Stage (heard_by a packet past said course rest)
stream_stage a packet past rest true said course flow plain zero one (Flows progress s c (inl over)) = subst (λ (x : Saying). Stage (heard_by a packet past x course rest)) (sym s) (Mute (ap is_waiting flow.waits) over.0 refl)
stream_stage a packet past rest false said course flow plain zero one (Flows progress s c (inl over)) = absurd (let never : false ≡ true = over.1 in cc)
stream_stage a packet past rest final said course flow plain zero one (Flows progress s c (inr queued)) =
    subst (λ (x : Saying). Stage (heard_by a packet past x course rest)) (sym s) (Streams final progress flow.waits flow.more queued refl c (zero (ap is_success s)))
stream_stage a packet past rest final said course flow plain zero one (Stops code s fits refused over) =
    subst (λ (x : Saying). Stage (heard_by a packet past x course rest)) (sym s)
    (Stopped final (response_octets packet a.server.maximum code) flow.waits flow.more refl over (refuses_by packet a.server.maximum a.client.maximum code fits flow.least plain refused))
stream_stage a packet past rest final said course flow plain zero one (Stores s over f) =
    let waits : a.client.awaited ≡ Some FinalPut = flow.waits ∙ ap (λ (b : Bool). request_of (streaming b)) f in
    let done_is : answer_to a.client.maximum FinalPut (response_octets packet a.server.maximum codes.Success) ≡ Done = responses_are_read.answer_plain FinalPut packet a.server.maximum a.client.maximum codes.Success (omega arith) flow.least plain refl in
    subst (λ (x : Saying). Stage (heard_by a packet past x course rest)) (sym s)
    (Replied FinalPut (response_octets packet a.server.maximum codes.Success) waits (ap is_waiting waits) over refl (subst (MeansWell (length (stored_by a.server.maximum past))) (sym done_is) (one (ap is_success s)))
    (λ go. absurd (let bad_go : Done ≡ Go = sym done_is ∙ go in cc)))

-- ---- what is passed over

same_put : (e f : Bool) (m n : Marks) → kinds.Put e m ≡ kinds.Put f n → (e ≡ f) × (m ≡ n)
same_put e f m n k = (cc, cc)

passes_at : (put last : Bool) (packet : PlainPacket) (marks : Marks) → cond put (kinds.Put (eqb packet.code 0x82) (marks_of packet.headers)) (kinds.Other packet.code) ≡ kinds.Put last marks → marks.name ≡ false
    → cond put (at_put_in Ignores packet) (ends (progress_in Ignores) (other_response packet.code)) ≡ record { calls = []; verdict = PassedOver last }
passes_at true last packet marks k n =
    let same = same_put (eqb packet.code 0x82) last (marks_of packet.headers) marks k in
    let bare : list_any is_name packet.headers ≡ false = ap (λ (m : Marks). m.name) same.1 ∙ n in
    cond-true (true && not (list_any is_name packet.headers)) (record { calls = []; verdict = PassedOver (eqb packet.code 0x82) }) (at_put Unnamed packet) (ap not bare)
    ∙ ap (λ (b : Bool). record { calls = []; verdict = PassedOver b }) same.0
passes_at false last packet marks k n = absurd cc

passes : (read : Result PlainPacket ObexRefusal) (ends : Bool) (marks : Marks) → kind_of read ≡ kinds.Put ends marks → marks.name ≡ false → at_packet Ignores read ≡ record { calls = []; verdict = PassedOver ends }
passes (Ok packet) ends marks k n = passes_at (eqb packet.code 0x02 || eqb packet.code 0x82) ends packet marks k n
passes (Err refusal) ends marks k n = absurd cc

pub record IsPassed (server : Serving) (packet : List ℕ) (answers : List Answer) (final : Bool) (rest : List (List ℕ)) : Type 0 where
  pub silent : (heard_with server packet answers).saying ≡ saying.Silence
  pub over : Over server.maximum final (heard_with server packet answers).session.course rest

passed_by : (server : Serving) (packet : List ℕ) (answers : List Answer) (final : Bool) (rest : List (List ℕ)) → server.course ≡ Ignores → Queued server.maximum final (packet ∷ rest) → IsPassed server packet answers final rest
passed_by server packet answers final rest course queued =
    let head = head_queued server.maximum final packet rest queued in
    let read = packet_in phase.Request server.maximum packet in
    let kind = kind_of read in
    let ruling = passes read head.ends head.put.0 head.put.2 head.put.3 in
    let behind : (heard_with server packet answers).session.course ≡ cond head.ends Rests Ignores =
    ap (λ (c : Course). course_after server.offered c kind (verdict_or (at_packet c read).verdict (come_of (at_packet c read).calls answers))) course ∙ ap (λ (r : Ruling). course_after server.offered Ignores kind (verdict_or r.verdict (come_of r.calls answers))) ruling in
    record {
      silent = ap (λ (c : Course). said_after server.offered c kind (verdict_or (at_packet c read).verdict (come_of (at_packet c read).calls answers))) course ∙ ap (λ (r : Ruling). said_after server.offered Ignores kind (verdict_or r.verdict (come_of r.calls answers))) ruling;
      over = over_behind server.maximum head.ends final (heard_with server packet answers).session.course rest (λ e. behind ∙ ap (λ (b : Bool). cond b Rests Ignores) e) head.last head.others;
    }

pub passed_heard : (server : Serving) (packet : List ℕ) (answers : List Answer) (final : Bool) (rest : List (List ℕ)) → Over server.maximum final server.course (packet ∷ rest) → IsPassed server packet answers final rest
passed_heard server packet answers true rest (inl none) = absurd (no_first packet rest (sym none))
passed_heard server packet answers true rest (inr over) = passed_by server packet answers true rest over.0 over.1
passed_heard server packet answers false rest over = passed_by server packet answers false rest over.0 over.1

-- ---- ABORT and DISCONNECT

never_true : false ≡ true → ⊥
never_true e = cc

leave_is_packet : (under_way : Bool) → IsPacket phase.Request (bare (cond under_way 0xFF 0x81) [])
leave_is_packet true = record { fields = record { code_fits = omega arith; len = refl; version = λ no. absurd (never_true no); maximum = λ no. absurd (never_true no) }; headers = tt; len = omega arith }
leave_is_packet false = record { fields = record { code_fits = omega arith; len = refl; version = λ no. absurd (never_true no); maximum = λ no. absurd (never_true no) }; headers = tt; len = omega arith }

leave_within : (under_way : Bool) (maximum : ℕ) → 255 ≤ maximum → length (leave_packet under_way) ≤ maximum
leave_within true maximum least = omega (arith, least)
leave_within false maximum least = omega (arith, least)

pub leave_plain : (under_way : Bool) → is_connect (leave_packet under_way) ≡ false
leave_plain true = refl
leave_plain false = refl

-- it is answered, with whatever code
abbrev IsAnswered : Saying → Type 0
IsAnswered said = (said ≡ saying.NoMemory → ⊥) → (code : Code) × (said ≡ saying.Response code) × (octet_of code < 256)

ended_said : (offered : Bool) (course : Course) (octet : ℕ) (come : Answer) → IsAnswered (said_after offered course (kinds.Other octet) (verdict_or (Ended codes.Success) come))
ended_said offered course octet (Ok done) memory = (codes.Success, refl, omega arith)
ended_said offered course octet (Err fault.Failed) memory = (codes.InternalError, refl, omega arith)
ended_said offered course octet (Err fault.NoMemory) memory = absurd (memory refl)

abbrev said_of : Serving → List Answer → Result PlainPacket ObexRefusal → Saying
said_of server answers read = said_after server.offered server.course (kind_of read) (verdict_or (at_packet server.course read).verdict (come_of (at_packet server.course read).calls answers))

leave_said : (server : Serving) (under_way : Bool) (answers : List Answer) → IsAnswered (said_of server answers (Ok (bare (cond under_way 0xFF 0x81) [])))
leave_said server true answers = ended_said server.offered server.course 0xFF (come_of (aborts (progress_in server.course)) answers)
leave_said server false answers = ended_said server.offered server.course 0x81 (come_of (aborts (progress_in server.course)) answers)

pub leave_heard : (server : Serving) (under_way : Bool) (answers : List Answer) → 255 ≤ server.maximum → IsAnswered (heard_with server (leave_packet under_way) answers).saying
leave_heard server under_way answers least =
    let read = packet_again phase.Request server.maximum (leave_packet under_way) (bare (cond under_way 0xFF 0x81) []) (record { sound = leave_is_packet under_way; within = leave_within under_way server.maximum least; spelling = refl }) in
    subst (λ (r : Result PlainPacket ObexRefusal). IsAnswered (said_of server answers r)) (sym read) (leave_said server under_way answers)

go_or_refused : (matches : Bool) (code : ℕ) (answer : Answered) → answer ≡ cond matches Go (Refused code) → (answer ≡ Go) ⊎ IsRefused answer
go_or_refused true code answer e = inl e
go_or_refused false code answer e = inr (code, e)

pub leave_answered : (under_way : Bool) (own maximum : ℕ) (code : Code) → octet_of code < 256 → 7 ≤ maximum →
    (answer_to maximum (leave_request under_way) (response_octets (leave_packet under_way) own code) ≡ Go) ⊎ IsRefused (answer_to maximum (leave_request under_way) (response_octets (leave_packet under_way) own code))
leave_answered under_way own maximum code fits least =
    go_or_refused (eqb (octet_of code) (awaited_code (leave_request under_way))) (octet_of code) _
    (responses_are_read.answer_plain (leave_request under_way) (leave_packet under_way) own maximum code fits least (leave_plain under_way) (leave_phase under_way)
    ∙ ap (λ (x : Answered). cond (eqb (octet_of code) (awaited_code (leave_request under_way))) x (Refused (octet_of code))) (leave_success under_way))
