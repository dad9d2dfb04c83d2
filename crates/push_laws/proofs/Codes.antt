-- The code of a response is the one that is due.
use Rattle.std.proofs.Common.{◌||◌, Bool, true, false, cond, eqb, ◌≡◌, ℕ, List, Some, None, Result, Ok, Err, refl, ap, subst, sym}
use Rattle.std.specs.Prelude.{slice_index, IfSome}
use Rattle.push_model.specs.obex_headers.specs.declared.codes.Code.TheVariants.{Success, NotImplemented}
use Rattle.push_model.specs.obex_headers.specs.declared.fault.ObexRefusal.{ObexRefusal}
use Rattle.push_model.specs.obex_headers.specs.declared.packet.Phase.TheVariants.{Request}
use Rattle.push_model.specs.obex_headers.specs.Packets.{PlainPacket}
use Rattle.push_model.specs.obex_headers.specs.Reading.{packet_in}
use Rattle.push_model.specs.obex_session.specs.InboxCalls.{Answer, come_of}
use Rattle.push_model.specs.obex_session.specs.Past.{Serving}
use Rattle.push_model.specs.obex_session.specs.Rules.{ends, at_put_in, at_packet, progress_in}
use Rattle.push_model.specs.obex_session.specs.Serving.{kind_heard, ruling_on, verdict_or, heard_with}
use Rattle.push_model.specs.obex_session.specs.Turns.{said_after}
use Rattle.push_model.specs.obex_session.specs.Views.{octets_said}
use Rattle.push_laws.specs.Answers.{code_due}

abbrev pub said_to : Serving → List ℕ → List Answer → List ℕ
said_to session packet answers = octets_said packet session.maximum (heard_with session packet answers).saying

abbrev pub IsDue : ℕ → (request response : List ℕ) → Type 0
IsDue most request response = IfSome (code_due (packet_in Request most request)) (λ code. slice_index response 0 ≡ code)

-- where no call fails
abbrev said_clean : Serving → List ℕ → Result PlainPacket ObexRefusal → List ℕ
said_clean session sdu read = octets_said sdu session.maximum (said_after session.offered session.course (kind_heard session sdu) (Ok (at_packet session.course read).verdict))

read_due : (session : Serving) (sdu : List ℕ) (read : Result PlainPacket ObexRefusal) → IfSome (code_due read) (λ code. slice_index (said_clean session sdu read) 0 ≡ code)
read_due session sdu (Err refusal) = refl
read_due session sdu (Ok packet) = by (eqb packet.code 0x02 || eqb packet.code 0x82) (eqb packet.code 0x80 || eqb packet.code 0x81 || eqb packet.code 0xFF)
  where
    by : (put succeeds : Bool)
        → (let verdict = (cond put (at_put_in session.course packet) (ends (progress_in session.course) (cond succeeds Success NotImplemented))).verdict in
        IfSome (cond put None (Some (cond succeeds 0xA0 0xD1))) (λ code. slice_index (octets_said sdu session.maximum (said_after session.offered session.course (kind_heard session sdu) (Ok verdict))) 0 ≡ code))
    by true succeeds = tt
    by false true = refl
    by false false = refl

pub said-due : (session : Serving) (sdu : List ℕ) (answers : List Answer) → come_of (ruling_on session sdu).calls answers ≡ Ok tt → IsDue session.maximum sdu (said_to session sdu answers)
said-due session sdu answers come =
    subst (λ (r : List ℕ). IsDue session.maximum sdu r) (ap (λ (a : Answer). octets_said sdu session.maximum (said_after session.offered session.course (kind_heard session sdu) (verdict_or (ruling_on session sdu).verdict a))) (sym come))
    (read_due session sdu (packet_in Request session.maximum sdu))
