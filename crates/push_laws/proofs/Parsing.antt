-- A packet that comes in pieces: a front of it is less than a packet, or begins none, and it is then whole.
use Rattle.std.proofs.Common.{inl, inr, ◌⊎◌, zero, suc, false, ◌<◌, ◌≤◌, ◌≡◌, ℕ, List, [], ◌∷◌, ◌++◌, length, Option, Some, None, refl, sym, ap, ◌∙◌, arith, append-nil, length-append}
use Rattle.std.proofs.lemmas.Bool.{cases_lt, cond_both}
use Rattle.link_talk.specs.push_terms.specs.declared.outcome.Outcome.{Outcome}
use Rattle.push_model.specs.rfcomm_frames.specs.ObexPackets.{IsPacket}
use Rattle.rfcomm_laws.proofs.Splitting.{same_length}
use Rattle.push_model.specs.obex_headers.specs.declared.fault.ObexRefusal.{ObexRefusal}
use Rattle.push_model.specs.obex_headers.specs.declared.fault.ObexRefusal.TheVariants.{AboveMaximum}
use Rattle.push_model.specs.obex_headers.specs.Assembling.{stated_len, IsFramed}
use Rattle.push_model.specs.obex_session.specs.declared.client.Answered.{Answered}
use Rattle.push_model.specs.obex_session.specs.declared.client.Answered.TheVariants as answer
use Rattle.push_model.specs.obex_session.specs.Views.{answer_at, after_at}
use Rattle.link_talk.specs.push_terms.specs.declared.outcome.Outcome.TheVariants as outcomes
use Rattle.push_model.specs.declared.course.Stage.{Stage}
use Rattle.push_model.specs.declared.course.Stage.TheVariants.{Rest, Link, SearchChannel, Search, SearchEnd, Features, ObjectChannel, Object, ObjectEnd, LinkEnd, Over}
use Rattle.push_model.specs.declared.course.Point.TheVariants.{Due, Asked}
use Rattle.push_model.specs.Causes.{cause_of_obex, unawaited_response, unknown_parameters}
use Rattle.push_model.specs.Client.{Client, ends, ends_by, at_once}
use Rattle.push_model.specs.Listening.{Listener, Received, has_bad_length, heeds_carried, stops, received, hears_on}
use Rattle.push_model.specs.Listening as listening
use Rattle.push_model.specs.Responding.{is_object, takes, hears_answer, hears_response, hears_front, hears_stream}
use Rattle.push_model.specs.Sessions.{Gift}
use Rattle.push_model.specs.Streams.{Front, Whole, Partial, Broken, front_of}
use Rattle.push_model.proofs.StreamLaws.{whole_front, partial_front, broken_front}
use Rattle.push_laws.proofs.Late.{either}
use Rattle.push_laws.proofs.Streams.{front_size, hears_partial, hears_whole}

-- ---- what stands at the front

-- not all of it came
pub data Less (maximum : ℕ) (stream : List ℕ) : Type 0 where
  Waits : front_of maximum stream ≡ Partial → Less maximum stream
  Refuses : (refusal : ObexRefusal) → front_of maximum stream ≡ Broken refusal → Less maximum stream

some_more : (more : List ℕ) → (more ≡ [] → ⊥) → 0 < length more
some_more [] some = absurd (some refl)
some_more (x ∷ more) some = omega arith

pub less_front : (maximum : ℕ) (stream more : List ℕ) → IsPacket (stream ++ more) → (more ≡ [] → ⊥) → Less maximum stream
less_front maximum stream more is some =
    elim (cases_lt (length stream) 3) [
      | inl short ↦ Waits (partial_front maximum stream (inl short))
      | inr long ↦
          let size : stated_len stream ≡ length (stream ++ more) = same_length stream long ∙ sym (front_size stream more long) ∙ is.1 in
          let all = length-append stream more in
          let least = some_more more some in
          let whole = is.0 in
          elim (cases_lt maximum (stated_len stream)) [
            | inl above ↦ Refuses AboveMaximum (broken_front maximum stream AboveMaximum (long, above))
            | inr within ↦ Waits (partial_front maximum stream (inr (omega (arith, size, whole), within, omega (arith, size, all, least))))
          ]
    ]

-- all of it came
pub data All (maximum : ℕ) (packet : List ℕ) : Type 0 where
  Takes : front_of maximum packet ≡ Whole packet [] → All maximum packet
  Rejects : (refusal : ObexRefusal) → front_of maximum packet ≡ Broken refusal → All maximum packet

pub all_front : (maximum : ℕ) (packet : List ℕ) → IsPacket packet → All maximum packet
all_front maximum packet is =
    let size : stated_len packet ≡ length packet = same_length packet is.0 ∙ is.1 in
    elim (cases_lt maximum (length packet)) [
      | inl above ↦ Rejects AboveMaximum (broken_front maximum packet AboveMaximum (is.0, omega (arith, size, above)))
      | inr within ↦ Takes (ap (front_of maximum) (sym (append-nil packet)) ∙ whole_front maximum packet [] (is.0, within, size))
    ]

pub empty_front : (maximum : ℕ) → front_of maximum [] ≡ Partial
empty_front maximum = partial_front maximum [] (inl (omega arith))

-- ---- the server

pub server_less : (steps : ℕ) (stream more : List ℕ) (listener : Listener) (gift : Gift) → IsPacket (stream ++ more) → length (stream ++ more) ≤ listener.service.sessions.carried.maximum
    → (more ≡ [] → ⊥) → listening.hears_stream steps stream listener gift ≡ record { listener = listener; held = stream; gift = gift }
server_less steps stream more listener gift is within some =
    hears_partial steps stream listener gift
    (elim (cases_lt (length stream) 3) [
      | inl short ↦ inl short
      | inr long ↦
          let size : stated_len stream ≡ length (stream ++ more) = same_length stream long ∙ sym (front_size stream more long) ∙ is.1 in
          let all = length-append stream more in
          let least = some_more more some in
          let whole = is.0 in
          inr (omega (arith, size, whole), omega (arith, size, within), omega (arith, size, all, least))
    ])

-- it hears the packet, and holds nothing behind it
pub server_all : (steps : ℕ) (packet : List ℕ) (listener : Listener) (gift : Gift) → IsPacket packet → length packet ≤ listener.service.sessions.carried.maximum → length packet ≤ steps
    → (listening.hears_stream steps packet listener gift).listener ≡ (heeds_carried packet listener gift).listener
server_all steps packet listener gift is within enough =
    let framed : IsFramed listener.service.sessions.carried.maximum packet = (is.0, within, same_length packet is.0 ∙ is.1) in
    let same = append-nil packet in
    let len = ap length same in
    let first = hears_whole steps packet [] listener gift (omega (arith, len, enough)) framed in
    let heeded = heeds_carried packet listener gift in
    ap (λ (xs : List ℕ). (listening.hears_stream steps xs listener gift).listener) (sym same) ∙ (ap (λ (r : Received). r.listener) first.hears
    ∙ cond_both (stops heeded.listener) (received [] heeded) (listening.hears_stream first.less [] heeded.listener heeded.gift) (λ (r : Received). r.listener ≡ heeded.listener) (λ e. refl)
    (λ e. ap (λ (r : Received). r.listener) (hears_partial first.less [] heeded.listener heeded.gift (inl (omega arith)))))

-- ---- the client

left_at_once : (stage : Stage) → is_object (at_once stage) ≡ false
left_at_once Rest = refl
left_at_once (Link Due) = refl
left_at_once (Link Asked) = refl
left_at_once (SearchChannel point) = refl
left_at_once Search = refl
left_at_once (SearchEnd point) = refl
left_at_once (Features point) = refl
left_at_once (ObjectChannel point) = refl
left_at_once Object = refl
left_at_once (ObjectEnd point) = refl
left_at_once (LinkEnd point) = refl
left_at_once Over = refl

refusal_leaves : (cause : Option Outcome) (refusal : ObexRefusal) (client : Client) → is_object (ends_by cause (cause_of_obex refusal) client).stage ≡ false
refusal_leaves None refusal client = left_at_once client.stage
refusal_leaves (Some earlier) refusal client = left_at_once client.stage

-- it holds what came, or leaves its channel
pub client_less : (steps : ℕ) (stream more : List ℕ) (client : Client) → IsPacket (stream ++ more) → (more ≡ [] → ⊥) → (hears_stream steps stream client ≡ record client { held = stream }) ⊎ (is_object (hears_stream steps stream client).stage ≡ false)
unfolding hears_stream
client_less zero stream more client is some = inl refl
client_less (suc steps) stream more client is some = by (less_front client.session.maximum stream more is some)
  where
    by : Less client.session.maximum stream → (hears_stream (suc steps) stream client ≡ record client { held = stream }) ⊎ (is_object (hears_stream (suc steps) stream client).stage ≡ false)
    by (Waits e) = inl (ap (λ (f : Front). hears_front (λ rest next. hears_stream steps rest next) stream f client) e)
    by (Refuses refusal e) = inr (ap (λ (f : Front). is_object (hears_front (λ rest next. hears_stream steps rest next) stream f client).stage) e ∙ refusal_leaves client.cause refusal (record client { held = [] }))

-- what it holds is kept by a response
held_by : (cause : Option Outcome) (o : Outcome) (client : Client) → (ends_by cause o client).held ≡ client.held
held_by None o client = refl
held_by (Some earlier) o client = refl

takes_held : (answered : Answered) (client : Client) → (takes answered client).held ≡ client.held
takes_held answer.Go client = refl
takes_held answer.Done client = held_by client.cause outcomes.Done client
takes_held (answer.Refused code) client = held_by client.cause (outcomes.Refused code) client
takes_held (answer.Bad refusal) client = held_by client.cause (cause_of_obex refusal) client
takes_held answer.Srmp client = held_by client.cause unknown_parameters client

answer_held : (answered : Option Answered) (packet : List ℕ) (client : Client) → (hears_answer answered packet client).held ≡ client.held
answer_held None packet client = held_by client.cause unawaited_response client
answer_held (Some answered) packet client =
    let heard : Client = record client { session = after_at client.session.awaited client.session packet } in
    either (λ (c : Client). c.held ≡ client.held) _ (ends unawaited_response heard) (takes answered heard) (held_by heard.cause unawaited_response heard) (takes_held answered heard)

empty_held : (steps : ℕ) (client : Client) → client.held ≡ [] → (hears_stream steps [] client).held ≡ []
unfolding hears_stream
empty_held zero client none = refl
empty_held (suc steps) client none = ap (λ (f : Front). (hears_front (λ rest next. hears_stream steps rest next) [] f client).held) (empty_front client.session.maximum)

-- it holds nothing behind a whole one, or leaves its channel
pub client_all : (steps : ℕ) (packet : List ℕ) (client : Client) → IsPacket packet → length packet ≤ steps → ((hears_stream steps packet client).held ≡ []) ⊎ (is_object (hears_stream steps packet client).stage ≡ false)
unfolding hears_stream
client_all zero packet client is enough = absurd (let least = is.0 in omega arith)
client_all (suc steps) packet client is enough = by (all_front client.session.maximum packet is)
  where
    by : All client.session.maximum packet → ((hears_stream (suc steps) packet client).held ≡ []) ⊎ (is_object (hears_stream (suc steps) packet client).stage ≡ false)
    by (Takes e) =
        let heard = hears_response packet (record client { held = [] }) in
        let none : heard.held ≡ [] = answer_held (answer_at client.session.awaited client.session packet) packet (record client { held = [] }) in
        inl (ap (λ (f : Front). (hears_front (λ rest next. hears_stream steps rest next) packet f client).held) e
        ∙ either (λ (c : Client). c.held ≡ []) (is_object heard.stage) (hears_stream steps [] heard) heard (empty_held steps heard none) none)
    by (Rejects refusal e) = inr (ap (λ (f : Front). is_object (hears_front (λ rest next. hears_stream steps rest next) packet f client).stage) e ∙ refusal_leaves client.cause refusal (record client { held = [] }))
