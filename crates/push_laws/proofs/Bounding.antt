-- What a client sends once it met its server is no longer than the maximum that the server stated.
use Rattle.std.proofs.Common.{inl, inr, ◌⊎◌, zero, suc, Bool, true, false, ◌≡◌, ◌==◌, ◌&&◌, ◌≤◌, ℕ, List, [], ◌++◌, Option, Some, None, Result, Ok, Err, refl, sym, ap, subst, ◌∙◌, arith, if◌then◌else◌}
use Rattle.std.specs.Prelude.{min}
use Rattle.push_model.specs.obex_headers.specs.declared.fault.ObexRefusal.{ObexRefusal}
use Rattle.push_model.specs.obex_headers.specs.declared.packet.Phase.TheVariants.{ConnectResponse}
use Rattle.push_model.specs.obex_headers.specs.Packets.{PlainPacket, maximum_of}
use Rattle.push_model.specs.obex_headers.specs.Reading.{packet_in}
use Rattle.push_model.specs.obex_session.specs.declared.asking.Request.{Request}
use Rattle.push_model.specs.obex_session.specs.declared.asking.Request.TheVariants as requests_of
use Rattle.push_model.specs.obex_session.specs.declared.client.Answered.{Answered}
use Rattle.push_model.specs.obex_session.specs.declared.client.Answered.TheVariants as answer
use Rattle.push_model.specs.obex_session.specs.Asking.{Asking, answer_read, after_read}
use Rattle.push_model.specs.obex_session.specs.Marks.{marks_of}
use Rattle.push_model.specs.obex_session.specs.Views.{answer_at, after_at}
use Rattle.push_model.specs.obex_session.proofs.StatingLaws.{States}
use Rattle.link_talk.specs.push_terms.specs.declared.outcome.Outcome.{Outcome}
use Rattle.link_talk.specs.push_terms.specs.declared.outcome.Outcome.TheVariants as outcomes
use Rattle.push_model.specs.declared.course.Contact.{Contact}
use Rattle.push_model.specs.declared.course.Contact.TheVariants.{Unmet, Met, Left, Closing}
use Rattle.push_model.specs.Causes.{cause_of_obex, unawaited_response, unknown_parameters}
use Rattle.push_model.specs.Client.{Client, ends, ends_by}
use Rattle.push_model.specs.Responding.{met, takes, is_success, is_early, hears_answer, hears_response, is_object, hears_front, hears_stream}
use Rattle.push_model.specs.Streams.{Front, front_of}
use Rattle.push_model.specs.rfcomm_frames.specs.ObexPackets.{IsPacket}
use Rattle.push_laws.proofs.Late.{either}
use Rattle.push_laws.proofs.Muxing.{limit_kept}
use Rattle.push_laws.proofs.Parsing.{Less, Waits, Refuses, less_front, All, Takes, Rejects, all_front, empty_front}
use Rattle.push_laws.proofs.Stating.{IsResponse}
use Rattle.push_laws.proofs.Working.{Same, left_unmet, closing_unmet, some_cause}

-- its packets are no longer than that, while it puts an object
abbrev pub IsBounded : ℕ → Client → Type 0
IsBounded most client = client.contact ≡ Met → client.cause ≡ None → client.session.limit ≤ most

-- while it is still to meet its server it awaits the response to CONNECT, if any
abbrev pub AwaitsFirst : Client → Type 0
AwaitsFirst client = client.contact ≡ Unmet → client.cause ≡ None → (client.session.awaited ≡ None) ⊎ (client.session.awaited ≡ Some requests_of.Connect)

module _ (most : ℕ) where
  abbrev B : Client → Type 0
  B client = IsBounded most client

  pub same_bounded : (client after : Client) → Same client after → B client → B after
  same_bounded client after s b = λ is free. subst (λ (x : Asking). x.limit ≤ most) (sym s.0) (b (sym s.4 ∙ is) (s.5 free))

  -- ---- a response

  by_bounded : (cause : Option Outcome) (o : Outcome) (client : Client) → B client → B (ends_by cause o client)
  by_bounded None o client b = λ is free. some_cause o free
  by_bounded (Some earlier) o client b = b

  ends_bounded : (o : Outcome) (client : Client) → B client → B (ends o client)
  ends_bounded o client b = by_bounded client.cause o client b

  -- a response to CONNECT with which the client goes on states its server's maximum
  by_tests : (marked success : Bool) (code : ℕ) (session going ended : Asking) → going.limit ≤ most → Some (if marked then answer.Srmp else if success then answer.Go else answer.Refused code) ≡ Some answer.Go → (if marked then session else if success then going else ended).limit ≤ most
  by_tests true success code session going ended fits go = absurd (let f : Some answer.Srmp ≡ Some answer.Go = go in cc)
  by_tests false true code session going ended fits go = fits
  by_tests false false code session going ended fits go = absurd (let f : Some (answer.Refused code) ≡ Some answer.Go = go in cc)

  read_bounded : (session : Asking) (read : Result PlainPacket ObexRefusal) → ((packet : PlainPacket) → read ≡ Ok packet → maximum_of packet.extra ≤ most) → Some (answer_read requests_of.Connect read) ≡ Some answer.Go
      → (after_read session requests_of.Connect read).limit ≤ most
  read_bounded session (Ok packet) states go =
      let stated = states packet refl in
      by_tests (marks_of packet.headers).parameters (packet.code == 0xA0) packet.code session (record session { limit = min session.limit (maximum_of packet.extra); single = session.single; awaited = None }) (record session { put = None; single = false; awaited = None })
      (omega (arith, stated)) go
  read_bounded session (Err refusal) states go = absurd (let f : Some (answer.Bad refusal) ≡ Some answer.Go = go in cc)

  -- what it sends from then on
  abbrev Fits : Client → List ℕ → Type 0
  Fits client packet = (after_at client.session.awaited client.session packet).limit ≤ most

  goes_on : (client : Client) (packet : List ℕ) → States most packet → (client.session.awaited ≡ None) ⊎ (client.session.awaited ≡ Some requests_of.Connect) → answer_at client.session.awaited client.session packet ≡ Some answer.Go → Fits client packet
  goes_on client packet states (inl none) go = absurd (let f : None ≡ Some answer.Go = sym (ap (λ (a : Option Request). answer_at a client.session packet) none) ∙ go in cc)
  goes_on client packet states (inr connect) go =
      subst (λ (a : Option Request). answer_at a client.session packet ≡ Some answer.Go → (after_at a client.session packet).limit ≤ most) (sym connect)
      (read_bounded client.session (packet_in ConnectResponse client.session.maximum packet) (λ p is. states client.session.maximum p is)) go

  module _ (packet : List ℕ) (client : Client) (states : States most packet) (b : B client) (first : AwaitsFirst client) where
    heard : Client
    heard = record client { session = after_at client.session.awaited client.session packet }

    heard_bounded : B heard
    unfolding heard
    heard_bounded = λ is free. let less = limit_kept client.session.awaited client.session packet refl in let was = b is free in omega (arith, less, was)

    met_bounded : (contact : Contact) → client.contact ≡ contact → answer_at client.session.awaited client.session packet ≡ Some answer.Go → met contact ≡ Met → client.cause ≡ None → Fits client packet
    met_bounded Unmet is go now free = goes_on client packet states (first is free) go
    met_bounded Met is go now free = let less = limit_kept client.session.awaited client.session packet refl in let was = b is free in omega (arith, less, was)
    met_bounded Left is go now free = left_unmet now
    met_bounded Closing is go now free = closing_unmet now

    takes_bounded : (answered : Answered) → answer_at client.session.awaited client.session packet ≡ Some answered → B (takes answered heard)
    unfolding heard
    takes_bounded answer.Go is = λ now free. met_bounded client.contact refl is now free
    takes_bounded answer.Done is = ends_bounded outcomes.Done heard heard_bounded
    takes_bounded (answer.Refused code) is = ends_bounded (outcomes.Refused code) heard heard_bounded
    takes_bounded (answer.Bad refusal) is = ends_bounded (cause_of_obex refusal) heard heard_bounded
    takes_bounded answer.Srmp is = ends_bounded unknown_parameters heard heard_bounded

    answer_bounded : (answered : Option Answered) → answer_at client.session.awaited client.session packet ≡ answered → B (hears_answer answered packet client)
    unfolding heard
    answer_bounded None is = ends_bounded unawaited_response client b
    answer_bounded (Some answered) is =
        either B (is_success answered && is_early client) (ends unawaited_response heard) (takes answered heard) (ends_bounded unawaited_response heard heard_bounded) (takes_bounded answered is)

    response_bounded : B (hears_response packet client)
    response_bounded = answer_bounded (answer_at client.session.awaited client.session packet) refl

  -- ---- what comes up of an SDU

  pub none_bounded : (steps : ℕ) (client : Client) → B client → B (hears_stream steps [] client)
  unfolding hears_stream
  none_bounded zero client b = b
  none_bounded (suc steps) client b = subst (λ (f : Front). B (hears_front (λ rest next. hears_stream steps rest next) [] f client)) (sym (empty_front client.session.maximum)) b

  pub less_bounded : (steps : ℕ) (stream more : List ℕ) (client : Client) → IsPacket (stream ++ more) → (more ≡ [] → ⊥) → B client → B (hears_stream steps stream client)
  unfolding hears_stream
  less_bounded zero stream more client is some b = b
  less_bounded (suc steps) stream more client is some b = by (less_front client.session.maximum stream more is some)
    where
      by : Less client.session.maximum stream → B (hears_front (λ rest next. hears_stream steps rest next) stream (front_of client.session.maximum stream) client)
      by (Waits e) = subst (λ (f : Front). B (hears_front (λ rest next. hears_stream steps rest next) stream f client)) (sym e) b
      by (Refuses refusal e) = subst (λ (f : Front). B (hears_front (λ rest next. hears_stream steps rest next) stream f client)) (sym e) (ends_bounded (cause_of_obex refusal) (record client { held = [] }) b)

  pub all_bounded : (steps : ℕ) (packet : List ℕ) (client : Client) → IsResponse most packet → B client → AwaitsFirst client → B (hears_stream steps packet client)
  unfolding hears_stream
  all_bounded zero packet client is b first = b
  all_bounded (suc steps) packet client is b first = by (all_front client.session.maximum packet is.packet)
    where
      by : All client.session.maximum packet → B (hears_front (λ rest next. hears_stream steps rest next) packet (front_of client.session.maximum packet) client)
      by (Takes e) =
          let next = hears_response packet (record client { held = [] }) in
          let so : B next = response_bounded packet (record client { held = [] }) is.states b first in
          subst (λ (f : Front). B (hears_front (λ rest next. hears_stream steps rest next) packet f client)) (sym e) (either B (is_object next.stage) (hears_stream steps [] next) next (none_bounded steps next so) so)
      by (Rejects refusal e) = subst (λ (f : Front). B (hears_front (λ rest next. hears_stream steps rest next) packet f client)) (sym e) (ends_bounded (cause_of_obex refusal) (record client { held = [] }) b)
