-- What comes of a packet where the inbox grants its calls, and where one fails.
use Rattle.std.proofs.Common.{Bool, true, false, cond, eqb, ltb, ◌+◌, ◌≤◌, ◌||◌, ◌&&◌, ◌≡◌, ℕ, List, [], ◌∷◌, ◌++◌, length, Option, Some, None, Result, Ok, Err, arith, refl, sym, ap, ◌∙◌}
use Rattle.std.specs.Prelude.{not, is_some, slice_index}
use Rattle.std.specs.List.{list_any, AllByRecursion}
use Rattle.std.specs.Option.{option_map}
use Rattle.std.proofs.lemmas.Bool.{cond-true, cond-false, or_from}
use Rattle.bt_base.specs.declared.ports.PortFault.{PortFault}
use Rattle.bt_base.specs.declared.ports.PortFault.TheVariants.{Failed}
use Rattle.bt_base.specs.Objects.{Object, Contents, aborted}
use Rattle.obex_headers.specs.declared.codes.Code.TheVariants.{TooLarge}
use Rattle.obex_headers.specs.declared.fault.ObexRefusal.{ObexRefusal}
use Rattle.obex_headers.specs.Codes.{octet_of}
use Rattle.obex_headers.specs.Packets.{PlainHeader, PlainPacket, bare, packet_octets, units_of}
use Rattle.obex_headers.specs.Runs.{put_of, name_text, body_of, names, bodies, is_final, object_of}
use Rattle.obex_session.specs.declared.course.Course.{Course}
use Rattle.obex_session.specs.declared.course.Progress.{Progress}
use Rattle.obex_session.specs.declared.course.Progress.TheVariants.{Unnamed, Named, Filled}
use Rattle.obex_session.specs.declared.course.Verdict.{Verdict}
use Rattle.obex_session.specs.declared.course.Verdict.TheVariants.{Open, Whole, Ended, PassedOver}
use Rattle.obex_session.specs.declared.marks.Marks.{Marks}
use Rattle.obex_session.specs.declared.responding.Saying.{Saying}
use Rattle.obex_session.specs.declared.responding.Saying.TheVariants.{Response, Confirmation, Silence, NoMemory}
use Rattle.obex_session.specs.declared.marks.Kind.{Kind}
use Rattle.obex_session.specs.declared.marks.Kind.TheVariants.{Put, Other}
use Rattle.obex_session.specs.Responses.{is_connect, connect_fields}
use Rattle.obex_session.specs.InboxCalls.{InboxCall, Begin, Append, Abort, Answer, come_of, held_after, done_by, all_done}
use Rattle.obex_session.specs.Marks.{is_name, marks_of, kind_of}
use Rattle.obex_session.specs.Rules.{Ruling, opens, aborts, is_under_way, at_parts, at_header, then_on, after_headers, finished, at_put, at_packet, at_put_in, ends, other_response, progress_in, is_ignoring}
use Rattle.obex_session.specs.Past.{Serving, progress_from, progress_of, pending_from, pending_of}
use Rattle.obex_session.specs.Serving.{kind_heard, ruling_on, verdict_or, heard_with, has_name}
use Rattle.obex_session.specs.Turns.{said_after, said_open, said_whole, is_first_in, is_single_in}
use Rattle.obex_session.specs.Exchanges.{is_success, stores_one}
use Rattle.obex_session.specs.Views.{octets_said, is_shortage, is_silence}
use Rattle.obex_session.proofs.PacketLaws.{put_unminded}
use Rattle.obex_session.proofs.RuleLaws.{held}

-- ---- the calls are made

in_turn : (call : InboxCall) (calls : List InboxCall) (content : Option Contents) → option_map (all_done calls) (option_map (done_by call) content) ≡ option_map (all_done (call ∷ calls)) content
in_turn call calls None = refl
in_turn call calls (Some contents) = refl

fault_apart : (fault : PortFault) → (let answer : Answer = Err fault in answer) ≡ Ok tt → ⊥
fault_apart fault e = cc

done_apart : (fault : PortFault) → (let answer : Answer = Ok tt in answer) ≡ Err fault → ⊥
done_apart fault e = cc

-- where none fails
pub held_done : (calls : List InboxCall) (answers : List Answer) (content : Option Contents) → come_of calls answers ≡ Ok tt → held_after calls answers content ≡ option_map (all_done calls) content
held_done [] answers None e = refl
held_done [] answers (Some contents) e = refl
held_done (call ∷ calls) [] content e = held_done calls [] (option_map (done_by call) content) (none_fails calls) ∙ in_turn call calls content
  where
    none_fails : (calls : List InboxCall) → come_of calls [] ≡ Ok tt
    none_fails [] = refl
    none_fails (call ∷ calls) = refl
held_done (call ∷ calls) (Ok done ∷ answers) content e = held_done calls answers (option_map (done_by call) content) e ∙ in_turn call calls content
held_done (call ∷ calls) (Err fault ∷ answers) content e = absurd (fault_apart fault e)

-- a call stores nothing
abbrev pub Keeps : InboxCall → Type 0
Keeps call = (contents : Contents) → aborted (done_by call contents) ≡ aborted contents

-- the last one alone may
abbrev pub StoresLast : List InboxCall → Type 0
StoresLast [] = Unit {0}
StoresLast (call ∷ []) = Unit {0}
StoresLast (call ∷ other ∷ calls) = Keeps call × StoresLast (other ∷ calls)

forgotten : (call : InboxCall) (content : Option Contents) → Keeps call → option_map aborted (option_map (done_by call) content) ≡ option_map aborted content
forgotten call None k = refl
forgotten call (Some contents) k = ap Some (k contents)

-- where one fails
pub held_failed : (calls : List InboxCall) (answers : List Answer) (content : Option Contents) (fault : PortFault) → StoresLast calls → come_of calls answers ≡ Err fault → held_after calls answers content ≡ option_map aborted content
held_failed [] answers content fault s e = absurd (done_apart fault e)
held_failed (call ∷ calls) [] content fault s e = absurd (done_apart fault e)
held_failed (call ∷ []) (Ok done ∷ answers) content fault s e = absurd (done_apart fault e)
held_failed (call ∷ other ∷ calls) (Ok done ∷ answers) content fault s e = held_failed (other ∷ calls) answers (option_map (done_by call) content) fault s.1 e ∙ forgotten call content s.0
held_failed (call ∷ []) (Err found ∷ answers) content fault s e = refl
held_failed (call ∷ other ∷ calls) (Err found ∷ answers) content fault s e = refl

-- ---- a ruling stores with its last call

abbrev AllKeep : List InboxCall → Type 0
AllKeep calls = AllByRecursion Keeps calls

then_last : (calls more : List InboxCall) → AllKeep calls → StoresLast more → StoresLast (calls ++ more)
then_last [] more k s = s
then_last (call ∷ []) [] k s = tt
then_last (call ∷ []) (other ∷ more) k s = (k.0, s)
then_last (call ∷ next ∷ calls) more k s = (k.0, then_last (next ∷ calls) more k.1 s)

all_both : (xs ys : List InboxCall) → AllKeep xs → AllKeep ys → AllKeep (xs ++ ys)
all_both [] ys k l = l
all_both (x ∷ xs) ys k l = (k.0, all_both xs ys k.1 l)

either_keeps : (over : Bool) (a b : Ruling) → AllKeep a.calls → AllKeep b.calls → AllKeep (cond over a b).calls
either_keeps true a b k l = k
either_keeps false a b k l = l

parts_keep : (progress : Progress) (name body : Option (List ℕ)) → AllKeep (at_parts progress name body).calls
parts_keep Unnamed (Some text) body = either_keeps (ltb 255 (length (units_of text))) (ends Unnamed TooLarge) (opens (Begin (units_of text) ∷ []) Named) tt (λ contents. refl, tt)
parts_keep Named (Some text) body = (λ contents. refl, tt)
parts_keep (Filled octets) (Some text) body = (λ contents. refl, tt)
parts_keep Unnamed None (Some octets) = tt
parts_keep Named None (Some octets) = either_keeps (ltb 16777215 (length octets)) (ends Named TooLarge) (opens (Append octets ∷ []) (Filled (length octets))) (λ contents. refl, tt) (λ contents. refl, tt)
parts_keep (Filled before) None (Some octets) = either_keeps (ltb 16777215 (before + length octets)) (ends (Filled before) TooLarge) (opens (Append octets ∷ []) (Filled (before + length octets))) (λ contents. refl, tt) (λ contents. refl, tt)
parts_keep progress None None = tt

then_keeps : (calls : List InboxCall) (verdict : Verdict) (next : Progress → Ruling) → AllKeep calls → ((progress : Progress) → AllKeep (next progress).calls) → AllKeep (then_on calls verdict next).calls
then_keeps calls (Open progress) next k n = all_both calls (next progress).calls k (n progress)
then_keeps calls Whole next k n = k
then_keeps calls (Ended code) next k n = k
then_keeps calls (PassedOver final) next k n = k

headers_keep_all : (progress : Progress) (headers : List PlainHeader) → AllKeep (after_headers progress headers).calls
headers_keep_all progress [] = tt
headers_keep_all progress (header ∷ headers) =
    then_keeps (at_header progress header).calls (at_header progress header).verdict (λ next. after_headers next headers) (parts_keep progress (name_text header) (body_of header)) (λ next. headers_keep_all next headers)

all_last : (calls : List InboxCall) → AllKeep calls → StoresLast calls
all_last [] k = tt
all_last (call ∷ []) k = tt
all_last (call ∷ other ∷ calls) k = (k.0, all_last (other ∷ calls) k.1)

end_last : (final : Bool) (progress : Progress) → StoresLast (cond final (finished progress) (opens [] progress)).calls
end_last true Unnamed = tt
end_last true Named = tt
end_last true (Filled octets) = tt
end_last false progress = tt

put_last : (calls : List InboxCall) (verdict : Verdict) (final : Bool) → AllKeep calls → StoresLast (then_on calls verdict (λ next. cond final (finished next) (opens [] next))).calls
put_last calls (Open progress) final k = then_last calls (cond final (finished progress) (opens [] progress)).calls k (end_last final progress)
put_last calls Whole final k = all_last calls k
put_last calls (Ended code) final k = all_last calls k
put_last calls (PassedOver last) final k = all_last calls k

abort_last : (progress : Progress) → StoresLast (aborts progress)
abort_last Unnamed = tt
abort_last Named = tt
abort_last (Filled octets) = tt

either_last : (over : Bool) (a b : Ruling) → StoresLast a.calls → StoresLast b.calls → StoresLast (cond over a b).calls
either_last true a b k l = k
either_last false a b k l = l

pub ruling_last : (course : Course) (read : Result PlainPacket ObexRefusal) → StoresLast (at_packet course read).calls
ruling_last course (Ok packet) =
    either_last (eqb packet.code 0x02 || eqb packet.code 0x82) (at_put_in course packet) (ends (progress_in course) (other_response packet.code))
    (either_last (is_ignoring course && not (list_any is_name packet.headers)) (record { calls = []; verdict = PassedOver (is_final packet) }) (at_put (progress_in course) packet) tt
    (put_last (after_headers (progress_in course) packet.headers).calls (after_headers (progress_in course) packet.headers).verdict (is_final packet) (headers_keep_all (progress_in course) packet.headers)))
    (abort_last (progress_in course))
ruling_last course (Err refusal) = abort_last (progress_in course)

-- an object is let go whether or not the inbox grants it
pub abort_held : (progress : Progress) (answers : List Answer) (content : Option Contents) → held_after (aborts progress) answers content ≡ option_map (all_done (aborts progress)) content
abort_held progress answers content = by (is_under_way progress) answers content
  where
    by : (under_way : Bool) (answers : List Answer) (content : Option Contents) → held_after (cond under_way (Abort ∷ []) []) answers content ≡ option_map (all_done (cond under_way (Abort ∷ []) [])) content
    by false answers None = refl
    by false answers (Some contents) = refl
    by true [] None = refl
    by true [] (Some contents) = refl
    by true (Ok done ∷ answers) None = refl
    by true (Ok done ∷ answers) (Some contents) = refl
    by true (Err fault ∷ answers) None = refl
    by true (Err fault ∷ answers) (Some contents) = refl

-- ---- memory is not wanting

open_spoken : (first single : Bool) → is_shortage (said_open first single) ≡ false
open_spoken true true = refl
open_spoken false true = refl
open_spoken first false = refl

whole_spoken : (first single : Bool) → is_shortage (said_whole first single) ≡ false
whole_spoken true true = refl
whole_spoken true false = refl
whole_spoken false single = refl

pub spoken_failed : (offered : Bool) (course : Course) (kind : Kind) → is_shortage (said_after offered course kind (Err Failed)) ≡ false
spoken_failed offered course kind = refl

pub spoken : (offered : Bool) (course : Course) (kind : Kind) (verdict : Verdict) → is_shortage (said_after offered course kind (Ok verdict)) ≡ false
spoken offered course kind (Open progress) = open_spoken (is_first_in course) (is_single_in offered course kind)
spoken offered course kind Whole = whole_spoken (is_first_in course) (is_single_in offered course kind)
spoken offered course kind (Ended code) = refl
spoken offered course kind (PassedOver final) = refl

-- ---- what is said

pub silence_is_none : (packet : List ℕ) (maximum : ℕ) (said : Saying) → is_silence said ≡ true → octets_said packet maximum said ≡ []
silence_is_none packet maximum (Response code) e = absurd (let f : false ≡ true = e in cc)
silence_is_none packet maximum (Confirmation code) e = absurd (let f : false ≡ true = e in cc)
silence_is_none packet maximum Silence e = refl
silence_is_none packet maximum NoMemory e = absurd (let f : false ≡ true = e in cc)

few_by : (connecting : Bool) (maximum code : ℕ) → length (packet_octets (bare code (cond connecting (connect_fields maximum) []))) ≤ 7
few_by true maximum code = omega arith
few_by false maximum code = omega arith

-- a response has seven octets at most
pub said_few : (packet : List ℕ) (maximum : ℕ) (said : Saying) → length (octets_said packet maximum said) ≤ 7
said_few packet maximum (Response code) = few_by (is_connect packet) maximum (octet_of code)
said_few packet maximum (Confirmation code) = omega arith
said_few packet maximum Silence = omega arith
said_few packet maximum NoMemory = omega arith

-- success is the first octet of what is said
success_read : (packet : List ℕ) (maximum : ℕ) (said : Saying) → is_success said ≡ eqb (slice_index (octets_said packet maximum said) 0) 0xA0
success_read packet maximum (Response code) = refl
success_read packet maximum (Confirmation code) = refl
success_read packet maximum Silence = refl
success_read packet maximum NoMemory = refl

stores_at : (put final : Bool) (marks : Marks) (packet : PlainPacket) (said : Saying) (success : Bool) → is_success said ≡ success → stores_one (cond put (Put final marks) (Other packet.code)) said ≡ (is_some (cond put (Some packet) None) && success)
stores_at true final marks packet said success e = e
stores_at false final marks packet said success e = refl

-- a PUT that is answered with success stores an object
pub stores_read : (read : Result PlainPacket ObexRefusal) (packet : List ℕ) (maximum : ℕ) (said : Saying) → stores_one (kind_of read) said ≡ (is_some (put_of read) && eqb (slice_index (octets_said packet maximum said) 0) 0xA0)
stores_read (Ok found) packet maximum said = stores_at (eqb found.code 0x02 || eqb found.code 0x82) (eqb found.code 0x82) (marks_of found.headers) found said _ (success_read packet maximum said)
stores_read (Err refusal) packet maximum said = refl

none_come : (calls : List InboxCall) → come_of calls [] ≡ Ok tt
none_come [] = refl
none_come (call ∷ calls) = refl

-- where no call fails, what is said does not look at the answers
pub said_alike : (session : Serving) (packet : List ℕ) (answers : List Answer) → come_of (ruling_on session packet).calls answers ≡ Ok tt → (heard_with session packet answers).saying ≡ (heard_with session packet []).saying
said_alike session packet answers e =
    ap (λ (come : Answer). said_after session.offered session.course (kind_heard session packet) (verdict_or (ruling_on session packet).verdict come)) (e ∙ sym (none_come (ruling_on session packet).calls))

-- ---- a packet that has nothing to do with the inbox

pub no_aborts : (progress : Progress) → is_under_way progress ≡ false → aborts progress ≡ []
no_aborts progress idle = cond-false _ _ _ idle

put_quiet : (put : Bool) (course : Course) (packet : PlainPacket) → (eqb packet.code 0x02 || eqb packet.code 0x82) ≡ put → is_under_way (progress_in course) ≡ false
    → has_name (cond put (Put (eqb packet.code 0x82) (marks_of packet.headers)) (Other packet.code)) ≡ false
    → (cond put (at_put_in course packet) (ends (progress_in course) (other_response packet.code))).calls ≡ []
put_quiet true course packet is idle unnamed =
    let kind_is : kind_of (Ok packet) ≡ Put (eqb packet.code 0x82) (marks_of packet.headers) = cond-true _ _ _ is in
    let ruling_is = put_unminded course packet (kind_of (Ok packet)) (eqb packet.code 0x82) (marks_of packet.headers) refl kind_is (or_from _ _ idle unnamed) in
    ap (λ (r : Ruling). r.calls) (sym (cond-true _ (at_put_in course packet) (ends (progress_in course) (other_response packet.code)) is) ∙ ruling_is)
put_quiet false course packet is idle unnamed = no_aborts (progress_in course) idle

-- without a Name while no object is under way no call is made
pub quiet : (course : Course) (read : Result PlainPacket ObexRefusal) → is_under_way (progress_in course) ≡ false → has_name (kind_of read) ≡ false → (at_packet course read).calls ≡ []
quiet course (Ok packet) idle unnamed = put_quiet (eqb packet.code 0x02 || eqb packet.code 0x82) course packet refl idle unnamed
quiet course (Err refusal) idle unnamed = no_aborts (progress_in course) idle

-- ---- an object is let go

aborted_from : (ns bs : List (List ℕ)) (stored : List Object) (object : Object) → all_done (aborts (progress_from ns bs)) (record { stored = stored; pending = pending_from ns object }) ≡ held stored []
aborted_from [] bs stored object = refl
aborted_from (n ∷ ns) [] stored object = refl
aborted_from (n ∷ ns) (b ∷ bs) stored object = refl

-- the calls leave none pending
pub let_go : (headers : List PlainHeader) (stored : List Object) → all_done (aborts (progress_of headers)) (held stored headers) ≡ held stored []
let_go headers stored = aborted_from (names headers) (bodies headers) stored (object_of headers)

-- nothing is under way where nothing is pending
no_object : (object : Object) → Some object ≡ None → ⊥
no_object object e = cc

idle_from : (ns bs : List (List ℕ)) (object : Object) → pending_from ns object ≡ None → progress_from ns bs ≡ Unnamed
idle_from [] bs object e = refl
idle_from (n ∷ ns) bs object e = absurd (no_object object e)

under_way_from : (ns bs : List (List ℕ)) (object : Object) → is_under_way (progress_from ns bs) ≡ false → pending_from ns object ≡ None
under_way_from [] bs object e = refl
under_way_from (n ∷ ns) [] object e = absurd (let f : true ≡ false = e in cc)
under_way_from (n ∷ ns) (b ∷ bs) object e = absurd (let f : true ≡ false = e in cc)

pub idle_pending : (headers : List PlainHeader) → is_under_way (progress_of headers) ≡ false → pending_of headers ≡ None
idle_pending headers e = under_way_from (names headers) (bodies headers) (object_of headers) e

pub idle_progress : (headers : List PlainHeader) → pending_of headers ≡ None → progress_of headers ≡ Unnamed
idle_progress headers e = idle_from (names headers) (bodies headers) (object_of headers) e
