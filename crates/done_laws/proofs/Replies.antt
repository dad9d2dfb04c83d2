-- Success is said to a PUT only where it stores an object, and else to other packets alone, whatever the inbox answers but want of memory.
use Rattle.std.proofs.Common.{Bool, true, false, ◌||◌, ◌&&◌, ◌≡◌, ◌==◌, ℕ, ◌+◌, ◌≤◌, List, [], ◌∷◌, Some, None, is_some, Result, Ok, Err, refl, sym, ap, subst, ◌∙◌, arith}
use Rattle.std.specs.Prelude.{slice_index, not, IfSome}
use Rattle.std.proofs.lemmas.Bool.{cond-true}
use Rattle.tape_laws.specs.bt_base.specs.declared.settings.Transport.TheVariants.{L2cap}
use Rattle.tape_laws.specs.bt_base.specs.declared.ports.PortFault.TheVariants.{Failed, NoMemory}
use Rattle.tape_laws.specs.obex_headers.specs.declared.fault.ObexRefusal.{ObexRefusal}
use Rattle.tape_laws.specs.obex_headers.specs.declared.packet.Phase.{Phase}
use Rattle.tape_laws.specs.obex_headers.specs.declared.packet.Phase.TheVariants.{Request}
use Rattle.tape_laws.specs.obex_headers.specs.Packets.{PlainPacket}
use Rattle.tape_laws.specs.obex_headers.specs.Reading.{◌>>=◌, headers_in, front_at, packet_in}
use Rattle.tape_laws.specs.obex_headers.specs.Runs.{put_of}
use Rattle.tape_laws.specs.obex_headers.proofs.HeaderLaws.{bind_ok, ok_is}
use Rattle.tape_laws.specs.obex_session.specs.InboxCalls.{Answer, come_of}
use Rattle.tape_laws.specs.obex_session.specs.Past.{Serving}
use Rattle.tape_laws.specs.obex_session.specs.Serving.{kind_heard, ruling_on, verdict_or}
use Rattle.tape_laws.specs.obex_session.specs.Turns.{said_after}
use Rattle.tape_laws.specs.obex_session.specs.Views.{octets_said}
use Rattle.tape_laws.specs.link_talk.specs.ObjectsHeard.{put_within}
use Rattle.tape_laws.specs.push_model.specs.Service.{Service, response_over}
use Rattle.tape_laws.specs.push_laws.specs.Answers.{says_success, code_due}
use Rattle.tape_laws.specs.push_laws.specs.Faults.{counted}
use Rattle.tape_laws.specs.push_laws.specs.Premises.{NoneShort}
use Rattle.tape_laws.specs.push_laws.proofs.Codes.{said_to, IsDue, said-due}
use Rattle.tape_laws.specs.push_laws.proofs.Sessions.{come_enough}
use Rattle.done_laws.proofs.Successes.{success_in, is_put, other_than_put, counted_few}

-- ---- the code of a packet that was read stands at its front

pub code_front : (phase : Phase) (most : ℕ) (octets : List ℕ) (packet : PlainPacket) → packet_in phase most octets ≡ Ok packet → packet.code ≡ slice_index octets 0
unfolding packet_in
code_front phase most octets packet e =
    let a = bind_ok (front_at phase most octets) (λ front. headers_in front.1 >>= λ headers. Ok (let p : PlainPacket = record { code = slice_index octets 0; extra = front.0; headers = headers } in p)) packet e in
    let b = bind_ok (headers_in a.0.1) (λ headers. Ok (let p : PlainPacket = record { code = slice_index octets 0; extra = a.0.0; headers = headers } in p)) packet a.2 in
    let made : PlainPacket = record { code = slice_index octets 0; extra = a.0.0; headers = b.0 } in
    sym (ap (λ (p : PlainPacket). p.code) (ok_is made packet b.2))

-- ---- what a session says to a packet

-- no success is said to a packet that is refused as such
refused_said : (session : Serving) (packet : List ℕ) (answers : List Answer) (refusal : ObexRefusal) → NoneShort answers → packet_in Request session.maximum packet ≡ Err refusal → success_in (said_to session packet answers) ≡ 0
refused_said session packet answers refusal enough is = by (come_of (ruling_on session packet).calls answers) refl
  where
    none : (code : ℕ) (response : List ℕ) → (code == 0xA0) ≡ false → slice_index response 0 ≡ code → success_in response ≡ 0
    none code response apart at = ap (λ (n : ℕ). counted (n == 0xA0)) at ∙ ap counted apart

    by : (come : Answer) → come_of (ruling_on session packet).calls answers ≡ come → success_in (said_to session packet answers) ≡ 0
    by (Ok done) e =
        let due : IsDue session.maximum packet (said_to session packet answers) = said-due session packet answers e in
        none 0xC0 (said_to session packet answers) refl (subst (λ (read : Result PlainPacket ObexRefusal). IfSome (code_due read) (λ code. slice_index (said_to session packet answers) 0 ≡ code)) is due)
    by (Err Failed) e =
        none 0xD0 (said_to session packet answers) refl
        (ap (λ (a : Answer). slice_index (octets_said packet session.maximum (said_after session.offered session.course (kind_heard session packet) (verdict_or (ruling_on session packet).verdict a))) 0) e)
    by (Err NoMemory) e = absurd (come_enough (ruling_on session packet).calls answers enough e)

put_read : (read : Result PlainPacket ObexRefusal) (front : ℕ) → ((packet : PlainPacket) → read ≡ Ok packet → packet.code ≡ front) → ((front == 0x02) || (front == 0x82)) ≡ true → is_some (put_of read) ≡ false → (refusal : ObexRefusal) × (read ≡ Err refusal)
put_read (Err refusal) front code put none = (refusal, refl)
put_read (Ok packet) front code put none =
    let here : ((packet.code == 0x02) || (packet.code == 0x82)) ≡ true = ap (λ (n : ℕ). (n == 0x02) || (n == 0x82)) (code packet refl) ∙ put in
    absurd (let f : true ≡ false = sym (ap is_some (cond-true _ (Some packet) None here)) ∙ none in cc)

pub reply_counts : (session : Serving) (packet : List ℕ) (answers : List Answer) → NoneShort answers
    → success_in (said_to session packet answers) ≤ counted (says_success session.maximum (record { request = packet; response = said_to session packet answers })) + other_than_put packet
reply_counts session packet answers enough = by (is_put packet) refl
  where
    said : List ℕ
    said = said_to session packet answers

    some_put : (some : Bool) → is_some (put_within session.maximum packet) ≡ some → is_put packet ≡ true → counted (slice_index said 0 == 0xA0) ≤ counted (is_some (put_within session.maximum packet) && (slice_index said 0 == 0xA0)) + other_than_put packet
    some_put true is put = let same = ap (λ (b : Bool). counted (b && (slice_index said 0 == 0xA0))) is in omega (arith, same)
    some_put false is put =
        let read = put_read (packet_in Request session.maximum packet) (slice_index packet 0) (λ p e. code_front Request session.maximum packet p e) put is in
        let none = refused_said session packet answers read.0 enough read.1 in
        omega (arith, none)

    by : (put : Bool) → is_put packet ≡ put → success_in said ≤ counted (says_success session.maximum (record { request = packet; response = said })) + other_than_put packet
    by false is = let one = ap (λ (b : Bool). counted (not b)) is in let few = counted_few (slice_index said 0 == 0xA0) in omega (arith, one, few)
    by true is = some_put (is_some (put_within session.maximum packet)) refl is

-- ---- the response that waits

pub over_counts : (response : List ℕ) (service : Service) → success_in (response_over L2cap response service).response ≤ success_in service.response + success_in response
over_counts [] service = omega arith
over_counts (octet ∷ octets) service = omega arith
