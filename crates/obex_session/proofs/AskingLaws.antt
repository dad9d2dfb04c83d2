-- A response that was read, and what is made of it.
use Rattle.std.proofs.Common.{◌≡◌, ℕ, List, Option, Some, sym, ap, subst, ◌∙◌}
use Rattle.std.specs.Prelude.{IfSome}
use Rattle.obex_headers.specs.declared.packet.Packet.{Packet}
use Rattle.obex_headers.specs.declared.packet.Phase.{Phase}
use Rattle.std.specs.List.{AllByRecursion}
use Rattle.obex_headers.specs.Packets.{PlainHeader, PlainPacket, IsHeader, Spells, Shows, headers_octets}
use Rattle.obex_headers.specs.Reading.{packet_in}
use Rattle.obex_headers.proofs.PacketLaws.{packet_again}
use Rattle.obex_session.specs.declared.asking.Request.{Request}
use Rattle.obex_session.specs.declared.client.Answered.{Answered}
use Rattle.obex_session.specs.declared.marks.Marks.{Marks}
use Rattle.obex_session.specs.Asking.{Asking, phase_of, answer_by, answer_read, answer_to, after_by, after_read, after_answer}
use Rattle.obex_session.specs.Marks.{marks_of}

-- a response was read, and its headers were walked over
pub record Read (phase : Phase) (maximum : ℕ) (octets : List ℕ) (lent : Packet) (marks : Marks) : Type 0 where
  pub packet : PlainPacket
  pub spells : Spells phase maximum octets packet
  pub shows : Shows lent packet
  pub marked : (headers : List PlainHeader) → AllByRecursion IsHeader headers → lent.headers.now ≡ headers_octets headers → marks ≡ marks_of headers

pub answers : (request : Request) (phase : Phase) (session inside : Asking) (octets : List ℕ) (lent : Packet) (marks : Marks) (answer : Answered) → session.awaited ≡ Some request → phase ≡ phase_of request → inside ≡ session
    → Read phase inside.maximum octets lent marks → answer ≡ answer_by request marks lent.code → IfSome session.awaited (λ r. answer ≡ answer_to session.maximum r octets)
answers request phase session inside octets lent marks answer waits p same read e =
    subst (λ (awaited : Option Request). IfSome awaited (λ r. answer ≡ answer_to session.maximum r octets)) (sym waits)
    (e ∙ ap (λ (m : Marks). answer_by request m lent.code) (read.marked read.packet.headers read.spells.sound.headers read.shows.headers) ∙ ap (λ (code : ℕ). answer_by request (marks_of read.packet.headers) code) read.shows.code
    ∙ sym (ap (λ (x : Phase). answer_read request (packet_in x session.maximum octets)) (sym p) ∙ ap (λ (s : Asking). answer_read request (packet_in phase s.maximum octets)) (sym same)
    ∙ ap (answer_read request) (packet_again phase inside.maximum octets read.packet read.spells)))

pub goes_on : (request : Request) (phase : Phase) (session inside after : Asking) (octets : List ℕ) (lent : Packet) (marks : Marks) → session.awaited ≡ Some request → phase ≡ phase_of request → inside ≡ session
    → Read phase inside.maximum octets lent marks → after ≡ after_by session request marks lent.code lent.extra.now → IfSome session.awaited (λ r. after ≡ after_answer session r octets)
goes_on request phase session inside after octets lent marks waits p same read e =
    subst (λ (awaited : Option Request). IfSome awaited (λ r. after ≡ after_answer session r octets)) (sym waits)
    (e ∙ ap (λ (m : Marks). after_by session request m lent.code lent.extra.now) (read.marked read.packet.headers read.spells.sound.headers read.shows.headers)
    ∙ ap (λ (code : ℕ). after_by session request (marks_of read.packet.headers) code lent.extra.now) read.shows.code ∙ ap (λ (extra : List ℕ). after_by session request (marks_of read.packet.headers) read.packet.code extra) read.shows.extra
    ∙ sym (ap (λ (x : Phase). after_read session request (packet_in x session.maximum octets)) (sym p) ∙ ap (λ (s : Asking). after_read session request (packet_in phase s.maximum octets)) (sym same)
    ∙ ap (after_read session request) (packet_again phase inside.maximum octets read.packet read.spells)))
