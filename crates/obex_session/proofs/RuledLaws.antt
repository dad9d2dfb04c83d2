-- Which verdicts the rules give.
use Rattle.std.proofs.Common.{Bool, true, false, cond, eqb, ltb, ◌||◌, ◌&&◌, ◌≡◌, ℕ, ◌+◌, List, [], ◌∷◌, length, Option, Some, None, Result, Ok, Err, refl, ◌<◌, arith}
use Rattle.std.specs.Prelude.{not}
use Rattle.std.specs.List.{list_any}
use Rattle.obex_headers.specs.declared.codes.Code.{Code}
use Rattle.obex_headers.specs.declared.codes.Code.TheVariants.{Success, BadRequest, TooLarge, InternalError, NotImplemented}
use Rattle.obex_headers.specs.declared.fault.ObexRefusal.{ObexRefusal}
use Rattle.obex_headers.specs.declared.packet.Phase.TheVariants.{Request}
use Rattle.obex_headers.specs.Codes.{octet_of}
use Rattle.obex_headers.specs.Packets.{PlainHeader, PlainPacket, units_of}
use Rattle.obex_headers.specs.Reading.{packet_in}
use Rattle.obex_headers.specs.Runs.{name_text, body_of, is_final}
use Rattle.obex_session.specs.declared.course.Course.{Course}
use Rattle.obex_session.specs.declared.course.Progress.{Progress}
use Rattle.obex_session.specs.declared.course.Progress.TheVariants.{Unnamed, Named, Filled}
use Rattle.obex_session.specs.declared.course.Verdict.{Verdict}
use Rattle.obex_session.specs.declared.course.Verdict.TheVariants.{Open, Whole, Ended, PassedOver}
use Rattle.obex_session.specs.InboxCalls.{InboxCall, Append}
use Rattle.obex_session.specs.Marks.{is_name}
use Rattle.obex_session.specs.Rules.{Ruling, opens, ends, at_parts, at_header, then_on, after_headers, finished, at_put, at_put_in, at_packet, other_response, progress_in, is_ignoring}
use Rattle.obex_session.specs.Exchanges.{is_success_code}
use Rattle.obex_session.specs.Laws.{NoRuleFails}

-- a PUT is refused with a code that is neither success nor continue, and that no fault of the inbox has
abbrev pub IsOfPut : Verdict → Type 0
IsOfPut (Open progress) = Unit {0}
IsOfPut Whole = Unit {0}
IsOfPut (Ended code) = (is_success_code code ≡ false) × (code ≡ InternalError → ⊥) × (eqb (octet_of code) 0x90 ≡ false) × (octet_of code < 256)
IsOfPut (PassedOver final) = Unit {0}

either : (over : Bool) (a b : Ruling) → IsOfPut a.verdict → IsOfPut b.verdict → IsOfPut (cond over a b).verdict
either true a b s t = s
either false a b s t = t

pub bad : IsOfPut (Ended BadRequest)
bad = (refl, λ e. absurd cc, refl, omega arith)

large : IsOfPut (Ended TooLarge)
large = (refl, λ e. absurd cc, refl, omega arith)

parts_of_put : (progress : Progress) (name body : Option (List ℕ)) → IsOfPut (at_parts progress name body).verdict
parts_of_put Unnamed (Some text) body = either (ltb 255 (length (units_of text))) (ends Unnamed TooLarge) (opens _ Named) large tt
parts_of_put Named (Some text) body = bad
parts_of_put (Filled octets) (Some text) body = bad
parts_of_put Unnamed None (Some octets) = bad
parts_of_put Named None (Some octets) = either (ltb 16777215 (length octets)) (ends Named TooLarge) (opens (Append octets ∷ []) (Filled (length octets))) large tt
parts_of_put (Filled before) None (Some octets) = either (ltb 16777215 (before + length octets)) (ends (Filled before) TooLarge) (opens (Append octets ∷ []) (Filled (before + length octets))) large tt
parts_of_put progress None None = tt

then_of_put : (calls : List InboxCall) (verdict : Verdict) (next : Progress → Ruling) → IsOfPut verdict → ((progress : Progress) → IsOfPut (next progress).verdict) → IsOfPut (then_on calls verdict next).verdict
then_of_put calls (Open progress) next r n = n progress
then_of_put calls Whole next r n = tt
then_of_put calls (Ended code) next r n = r
then_of_put calls (PassedOver final) next r n = tt

headers_of_put : (progress : Progress) (headers : List PlainHeader) → IsOfPut (after_headers progress headers).verdict
headers_of_put progress [] = tt
headers_of_put progress (header ∷ headers) =
    then_of_put (at_header progress header).calls (at_header progress header).verdict (λ next. after_headers next headers) (parts_of_put progress (name_text header) (body_of header)) (λ next. headers_of_put next headers)

end_of_put : (final : Bool) (progress : Progress) → IsOfPut (cond final (finished progress) (opens [] progress)).verdict
end_of_put true Unnamed = bad
end_of_put true Named = bad
end_of_put true (Filled octets) = tt
end_of_put false progress = tt

put_of_put : (progress : Progress) (packet : PlainPacket) → IsOfPut (at_put progress packet).verdict
put_of_put progress packet =
    then_of_put (after_headers progress packet.headers).calls (after_headers progress packet.headers).verdict (λ next. cond (is_final packet) (finished next) (opens [] next)) (headers_of_put progress packet.headers) (λ next. end_of_put (is_final packet) next)

pub put_in_of_put : (course : Course) (packet : PlainPacket) → IsOfPut (at_put_in course packet).verdict
put_in_of_put course packet =
    either (is_ignoring course && not (list_any is_name packet.headers)) (record { calls = []; verdict = PassedOver (is_final packet) }) (at_put (progress_in course) packet) tt (put_of_put (progress_in course) packet)

-- ---- no rule answers D0

same_code : (a b : Code) → Ended a ≡ Ended b → a ≡ b
same_code a b e = cc

ruled_put : (verdict : Verdict) → IsOfPut verdict → verdict ≡ Ended InternalError → ⊥
ruled_put (Open progress) is e = absurd cc
ruled_put Whole is e = absurd cc
ruled_put (Ended code) is e = is.1 (same_code code InternalError e)
ruled_put (PassedOver final) is e = absurd cc

other_ruled : (succeeds : Bool) → Ended (cond succeeds Success NotImplemented) ≡ Ended InternalError → ⊥
other_ruled true e = absurd cc
other_ruled false e = absurd cc

packet_ruled_at : (put : Bool) (course : Course) (packet : PlainPacket) → (cond put (at_put_in course packet) (ends (progress_in course) (other_response packet.code))).verdict ≡ Ended InternalError → ⊥
packet_ruled_at true course packet e = ruled_put (at_put_in course packet).verdict (put_in_of_put course packet) e
packet_ruled_at false course packet e = other_ruled (eqb packet.code 0x80 || eqb packet.code 0x81 || eqb packet.code 0xFF) e

packet_ruled : (course : Course) (read : Result PlainPacket ObexRefusal) → (at_packet course read).verdict ≡ Ended InternalError → ⊥
packet_ruled course (Ok packet) e = packet_ruled_at (eqb packet.code 0x02 || eqb packet.code 0x82) course packet e
packet_ruled course (Err refusal) e = absurd (let no : BadRequest ≡ InternalError = same_code BadRequest InternalError e in cc)

pub never_fails : NoRuleFails
never_fails session packet e = packet_ruled session.course (packet_in Request session.maximum packet) e
