-- What success says.
use Rattle.std.proofs.Common.{Bool, true, false, cond, eqb, ltb, ◌+◌, ◌||◌, ◌&&◌, ◌≡◌, ℕ, List, [], ◌∷◌, ◌++◌, length, Option, Some, None, Result, Ok, Err, refl, sym, ap, ◌∙◌}
use Rattle.std.specs.Prelude.{is_err, not}
use Rattle.std.specs.List.{list_any}
use Rattle.std.proofs.lemmas.List.{map-append}
use Rattle.bt_base.specs.declared.ports.PortFault.{PortFault}
use Rattle.bt_base.specs.declared.ports.PortFault.TheVariants as fault
use Rattle.obex_headers.specs.declared.codes.Code.{Code}
use Rattle.obex_headers.specs.declared.codes.Code.TheVariants.{BadRequest, TooLarge}
use Rattle.obex_headers.specs.declared.fault.ObexRefusal.{ObexRefusal}
use Rattle.obex_headers.specs.declared.packet.Phase.TheVariants.{Request}
use Rattle.obex_headers.specs.Packets.{PlainHeader, PlainPacket, units_of}
use Rattle.obex_headers.specs.Reading.{packet_in}
use Rattle.obex_headers.specs.Runs.{objects_from, is_final}
use Rattle.obex_session.specs.declared.course.Course.{Course}
use Rattle.obex_session.specs.declared.course.Progress.{Progress}
use Rattle.obex_session.specs.declared.course.Progress.TheVariants.{Unnamed, Named, Filled}
use Rattle.obex_session.specs.declared.course.Verdict.{Verdict}
use Rattle.obex_session.specs.declared.course.Verdict.TheVariants.{Open, Whole, Ended, PassedOver}
use Rattle.obex_session.specs.declared.marks.Kind.{Kind}
use Rattle.obex_session.specs.declared.marks.Kind.TheVariants.{Refused, Put, Other}
use Rattle.obex_session.specs.declared.marks.Marks.{Marks}
use Rattle.obex_session.specs.declared.responding.Saying.{Saying}
use Rattle.obex_session.specs.InboxCalls.{InboxCall, Begin, Append, Answer, come_of}
use Rattle.obex_session.specs.Marks.{is_name, marks_of, kind_of}
use Rattle.obex_session.specs.Rules.{Ruling, opens, ends, at_parts, at_header, then_on, after_headers, finished, at_put, at_put_in, at_packet, other_response, progress_in, is_ignoring}
use Rattle.obex_session.specs.Turns.{is_single_in, is_first_in, said_open, said_whole, said_after}
use Rattle.obex_session.specs.Past.{Heard, put_heard, puts_heard, stored_by, open_from, open_headers, progress_of, Serving}
use Rattle.obex_session.specs.Serving.{kind_heard, ruling_on, verdict_or}
use Rattle.obex_session.specs.Exchanges.{is_success, stores_one, Gains, SuccessIsStored}
use Rattle.obex_session.proofs.PastLaws.{count_of, headers_keep, objects-more, packet_leaves}
use Rattle.obex_session.proofs.RuledLaws.{IsOfPut, put_in_of_put}

-- ---- an object is whole with a final PUT alone

then_whole : (calls : List InboxCall) (verdict : Verdict) (final : Bool) → (verdict ≡ Whole → ⊥) → (then_on calls verdict (λ next. cond final (finished next) (opens [] next))).verdict ≡ Whole → final ≡ true
then_whole calls verdict true refuted e = refl
then_whole calls (Open next) false refuted e = absurd cc
then_whole calls Whole false refuted e = absurd (refuted refl)
then_whole calls (Ended code) false refuted e = absurd cc
then_whole calls (PassedOver last) false refuted e = absurd cc

-- a verdict that neither a rule on a header nor the end of headers gives
pub record Stranger (strange : Verdict) : Type 0 where
  pub ended : (code : Code) → Ended code ≡ strange → ⊥
  pub opened : (progress : Progress) → Open progress ≡ strange → ⊥

either : (over : Bool) (a b : Ruling) (strange : Verdict) → (a.verdict ≡ strange → ⊥) → (b.verdict ≡ strange → ⊥) → (cond over a b).verdict ≡ strange → ⊥
either true a b strange s t e = s e
either false a b strange s t e = t e

parts_never : (strange : Verdict) → Stranger strange → (progress : Progress) (name body : Option (List ℕ)) → (at_parts progress name body).verdict ≡ strange → ⊥
parts_never strange apart Unnamed (Some text) body e = either (ltb 255 (length (units_of text))) (ends Unnamed TooLarge) (opens (Begin (units_of text) ∷ []) Named) strange (apart.ended TooLarge) (apart.opened Named) e
parts_never strange apart Named (Some text) body e = apart.ended BadRequest e
parts_never strange apart (Filled octets) (Some text) body e = apart.ended BadRequest e
parts_never strange apart Unnamed None (Some octets) e = apart.ended BadRequest e
parts_never strange apart Named None (Some octets) e = either (ltb 16777215 (length octets)) (ends Named TooLarge) (opens (Append octets ∷ []) (Filled (length octets))) strange (apart.ended TooLarge) (apart.opened (Filled (length octets))) e
parts_never strange apart (Filled before) None (Some octets) e =
    either (ltb 16777215 (before + length octets)) (ends (Filled before) TooLarge) (opens (Append octets ∷ []) (Filled (before + length octets))) strange (apart.ended TooLarge) (apart.opened (Filled (before + length octets))) e
parts_never strange apart progress None None e = apart.opened progress e

then_never : (strange : Verdict) (calls : List InboxCall) (verdict : Verdict) (next : Progress → Ruling) → (verdict ≡ strange → ⊥) → ((progress : Progress) → (next progress).verdict ≡ strange → ⊥) → (then_on calls verdict next).verdict ≡ strange → ⊥
then_never strange calls (Open progress) next r n e = n progress e
then_never strange calls Whole next r n e = r e
then_never strange calls (Ended code) next r n e = r e
then_never strange calls (PassedOver final) next r n e = r e

headers_never : (strange : Verdict) → Stranger strange → (headers : List PlainHeader) (progress : Progress) → (after_headers progress headers).verdict ≡ strange → ⊥
headers_never strange apart [] progress e = apart.opened progress e
headers_never strange apart (header ∷ headers) progress e =
    then_never strange (at_header progress header).calls (at_header progress header).verdict (λ next. after_headers next headers) (parts_never strange apart progress _ _) (λ next. headers_never strange apart headers next) e

whole_is_strange : Stranger Whole
whole_is_strange = record { ended = λ code e. absurd cc; opened = λ progress e. absurd cc }

passed_is_strange : (final : Bool) → Stranger (PassedOver final)
passed_is_strange final = record { ended = λ code e. absurd cc; opened = λ progress e. absurd cc }

end_never_passes : (last final : Bool) (progress : Progress) → (cond last (finished progress) (opens [] progress)).verdict ≡ PassedOver final → ⊥
end_never_passes true final Unnamed e = absurd cc
end_never_passes true final Named e = absurd cc
end_never_passes true final (Filled octets) e = absurd cc
end_never_passes false final progress e = absurd cc

-- a PUT is passed over only where PUTs are ignored
pub put_never_passes : (progress : Progress) (packet : PlainPacket) (final : Bool) → (at_put progress packet).verdict ≡ PassedOver final → ⊥
put_never_passes progress packet final e =
    then_never (PassedOver final) (after_headers progress packet.headers).calls (after_headers progress packet.headers).verdict (λ next. cond (is_final packet) (finished next) (opens [] next)) (headers_never (PassedOver final) (passed_is_strange final) packet.headers progress)
    (λ next. end_never_passes (is_final packet) final next) e

put_whole : (passes : Bool) (course : Course) (packet : PlainPacket) → (cond passes (record { calls = []; verdict = PassedOver (is_final packet) }) (at_put (progress_in course) packet)).verdict ≡ Whole → is_final packet ≡ true
put_whole true course packet e = absurd cc
put_whole false course packet e =
    then_whole (after_headers (progress_in course) packet.headers).calls (after_headers (progress_in course) packet.headers).verdict (is_final packet) (headers_never Whole whole_is_strange packet.headers (progress_in course)) e

-- ---- what is said

open_no_success : (first single : Bool) → is_success (said_open first single) ≡ false
open_no_success true true = refl
open_no_success false true = refl
open_no_success first false = refl

whole_success : (first single : Bool) → is_success (said_whole first single) ≡ true
whole_success true true = refl
whole_success true false = refl
whole_success false single = refl

-- success is said where the object is whole
put_said : (offered : Bool) (course : Course) (final : Bool) (marks : Marks) (verdict : Verdict) → IsOfPut verdict → count_of verdict ≡ cond (is_success (said_after offered course (Put final marks) (Ok verdict))) 1 0
put_said offered course final marks (Open progress) is = ap (λ (b : Bool). cond b 1 0) (sym (open_no_success (is_first_in course) (is_single_in offered course (Put final marks))))
put_said offered course final marks Whole is = ap (λ (b : Bool). cond b 1 0) (sym (whole_success (is_first_in course) (is_single_in offered course (Put final marks))))
put_said offered course final marks (Ended code) is = ap (λ (b : Bool). cond b 1 0) (sym is.0)
put_said offered course final marks (PassedOver last) is = refl

put_success : (offered : Bool) (course : Course) (final : Bool) (marks : Marks) (verdict : Verdict) → IsOfPut verdict → is_success (said_after offered course (Put final marks) (Ok verdict)) ≡ true → verdict ≡ Whole
put_success offered course final marks (Open progress) is e = absurd (let no_way : false ≡ true = sym (open_no_success (is_first_in course) (is_single_in offered course (Put final marks))) ∙ e in cc)
put_success offered course final marks Whole is e = refl
put_success offered course final marks (Ended code) is e = absurd (let no_way : false ≡ true = sym is.0 ∙ e in cc)
put_success offered course final marks (PassedOver last) is e = absurd cc

-- ---- a packet

abbrev at_code : Bool → Course → PlainPacket → Ruling
at_code put course packet = cond put (at_put_in course packet) (ends (progress_in course) (other_response packet.code))

abbrev kind_at_code : Bool → PlainPacket → Kind
kind_at_code put packet = cond put (Put (eqb packet.code 0x82) (marks_of packet.headers)) (Other packet.code)

counted_at : (put : Bool) (offered : Bool) (course : Course) (packet : PlainPacket) → count_of (at_code put course packet).verdict ≡ cond (stores_one (kind_at_code put packet) (said_after offered course (kind_at_code put packet) (Ok (at_code put course packet).verdict))) 1 0
counted_at true offered course packet = put_said offered course (eqb packet.code 0x82) (marks_of packet.headers) (at_put_in course packet).verdict (put_in_of_put course packet)
counted_at false offered course packet = refl

counted_read : (read : Result PlainPacket ObexRefusal) (offered : Bool) (course : Course) → count_of (at_packet course read).verdict ≡ cond (stores_one (kind_of read) (said_after offered course (kind_of read) (Ok (at_packet course read).verdict))) 1 0
counted_read (Ok packet) offered course = counted_at (eqb packet.code 0x02 || eqb packet.code 0x82) offered course packet
counted_read (Err refusal) offered course = refl

same_final : (a b : Bool) (m n : Marks) → Put a m ≡ Put b n → a ≡ b
same_final a b m n e = cc

last_at : (put : Bool) (offered : Bool) (course : Course) (packet : PlainPacket) (final : Bool) (marks : Marks) → kind_at_code put packet ≡ Put final marks
    → is_success (said_after offered course (kind_at_code put packet) (Ok (at_code put course packet).verdict)) ≡ true → final ≡ true
last_at true offered course packet final marks k e =
    let whole = put_success offered course (eqb packet.code 0x82) (marks_of packet.headers) (at_put_in course packet).verdict (put_in_of_put course packet) e in
    sym (same_final (eqb packet.code 0x82) final (marks_of packet.headers) marks k) ∙ put_whole (is_ignoring course && not (list_any is_name packet.headers)) course packet whole
last_at false offered course packet final marks k e = absurd cc

pub last_read : (read : Result PlainPacket ObexRefusal) (offered : Bool) (course : Course) (final : Bool) (marks : Marks) → kind_of read ≡ Put final marks
    → is_success (said_after offered course (kind_of read) (Ok (at_packet course read).verdict)) ≡ true → final ≡ true
last_read (Ok packet) offered course final marks k e = last_at (eqb packet.code 0x02 || eqb packet.code 0x82) offered course packet final marks k e
last_read (Err refusal) offered course final marks k e = absurd cc

-- ---- with the answers of the inbox

fault_no_success : (offered : Bool) (course : Course) (kind : Kind) (verdict : Verdict) (f : PortFault) → is_success (said_after offered course kind (verdict_or verdict (Err f))) ≡ false
fault_no_success offered course kind verdict fault.Failed = refl
fault_no_success offered course kind verdict fault.NoMemory = refl

pub none_stored : (kind : Kind) (said : Saying) → is_success said ≡ false → stores_one kind said ≡ false
none_stored Refused said e = refl
none_stored (Put final marks) said e = e
none_stored (Other octet) said e = refl

pub more_stored : (maximum : ℕ) (past : List Heard) (heard : Heard) → stored_by maximum (past ++ heard ∷ []) ≡ stored_by maximum past ++ objects_from (open_from [] (puts_heard maximum past)) (put_heard maximum heard ∷ [])
more_stored maximum past heard = ap (objects_from []) (map-append (put_heard maximum) past (heard ∷ [])) ∙ objects-more [] (puts_heard maximum past) (put_heard maximum heard)

gains : (session : Serving) (past : List Heard) (packet : List ℕ) (come : Answer) → progress_in session.course ≡ progress_of (open_headers session.maximum past)
    → Gains session past packet (is_err come) (kind_heard session packet) (said_after session.offered session.course (kind_heard session packet) (verdict_or (ruling_on session packet).verdict come))
gains session past packet (Ok done) progress =
    let read = packet_in Request session.maximum packet in
    let leaves = packet_leaves session.course (open_from [] (puts_heard session.maximum past)) read [] (headers_keep session.maximum past) progress in
    record {
      gained = objects_from (open_from [] (puts_heard session.maximum past)) (put_heard session.maximum (packet, false) ∷ []);
      stored_is = more_stored session.maximum past (packet, false);
      counted = leaves.counted ∙ counted_read read session.offered session.course;
      last = λ final marks k e. last_read read session.offered session.course final marks k e;
    }
gains session past packet (Err f) progress =
    let silent = fault_no_success session.offered session.course (kind_heard session packet) (ruling_on session packet).verdict f in
    record {
      gained = [];
      stored_is = more_stored session.maximum past (packet, true);
      counted = ap (λ (b : Bool). cond b 1 0) (sym (none_stored (kind_heard session packet) _ silent));
      last = λ final marks k e. absurd (let no_way : false ≡ true = sym silent ∙ e in cc);
    }

pub success_is_stored : SuccessIsStored
success_is_stored session past packet answers progress = gains session past packet (come_of (ruling_on session packet).calls answers) progress
