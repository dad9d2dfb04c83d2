-- Two sessions over a pipe of packets: the stages of a push, and what the client takes and puts in each.
use Rattle.std.proofs.Common.{get_or, zero-add, ℕ, Bool, true, false, cond, eqb, ◌≡◌, ◌+◌, ◌<◌, ◌≤◌, ◌^◌, ◌||◌, ◌⊎◌, inl, inr, List, [], ◌∷◌, ◌++◌, length, Option, Some, None, Ok, Err, refl, sym, ap, subst, ◌∙◌, arith}
use Rattle.std.specs.Prelude.{is_err}
use Rattle.std.specs.List.{AllByRecursion}
use Rattle.std.proofs.lemmas.Bool.{cases_lt, le-ltb, lt-ltb}
use Rattle.std.proofs.lemmas.List.{length-append}
use Rattle.obex_headers.specs.declared.fault.ObexRefusal.TheVariants.{AboveMaximum}
use Rattle.obex_headers.specs.declared.packet.Phase.TheVariants as phase
use Rattle.obex_headers.specs.Packets.{PlainHeader, IsPacket, fields_len, packet_octets}
use Rattle.obex_headers.specs.Reading.{packet_in, front_at}
use Rattle.obex_headers.proofs.PacketLaws.{packet_again, length-packet}
use Rattle.obex_session.specs.declared.asking.Request.{Request}
use Rattle.obex_session.specs.declared.asking.Request.TheVariants.{Connect, FirstPut, Put, Stream, FinalPut, Abort, Disconnect}
use Rattle.obex_session.specs.declared.client.Answered.{Answered}
use Rattle.obex_session.specs.declared.client.Answered.TheVariants.{Go, Refused}
use Rattle.obex_session.specs.declared.course.Course.{Course}
use Rattle.obex_session.specs.declared.course.Course.TheVariants.{Rests, Ignores, Runs}
use Rattle.obex_session.specs.declared.course.Progress.{Progress}
use Rattle.obex_session.specs.declared.marks.Kind.TheVariants as kinds
use Rattle.obex_session.specs.declared.marks.Marks.{Marks}
use Rattle.obex_session.specs.Responses.{is_connect}
use Rattle.obex_session.specs.InboxCalls.{Answer, come_of}
use Rattle.obex_session.specs.Marks.{is_single, marks_of, kind_of}
use Rattle.obex_session.specs.Turns.{course_after}
use Rattle.obex_session.specs.Past.{Heard, Serving, StandsFor, stored_by}
use Rattle.obex_session.specs.Serving.{kind_heard, ruling_on, verdict_or, heard_with}
use Rattle.obex_session.specs.PutPackets.{body_header, put_packet}
use Rattle.obex_session.proofs.StatingLaws.{States}
use Rattle.obex_session.specs.Asking.{Asking, phase_of, awaited_code, success_of, answer_to, after_answer}
use Rattle.obex_session.specs.NextPut.{is_waiting}
use Rattle.obex_session.specs.Exchanges.{stores_one}
use Rattle.obex_session.specs.Views.{is_stream}
use Rattle.obex_session.specs.Pairs.{Pair, is_put_request, leave_request, leave_packet, MeansWell, IsExpected}
use Rattle.obex_session.proofs.PastLaws.{after_packet, after_fault}
use Rattle.obex_session.proofs.TurnLaws.{progress_behind}
use Rattle.obex_session.proofs.SuccessLaws.{success_is_stored}

abbrev pub request_of : Request → Option Request
request_of request = Some request

-- ---- how a server reads a PUT that a client wrote

pub too_long : (maximum : ℕ) (octets : List ℕ) → 3 ≤ length octets → maximum < length octets → fields_len phase.Request (get_or octets 0 0) ≡ 0 → packet_in phase.Request maximum octets ≡ Err AboveMaximum
unfolding packet_in front_at
too_long maximum octets three more none = rw none (rw (le-ltb (length octets) 3 three) (rw (lt-ltb maximum (length octets) more) refl))

-- a PUT, or none that the server takes
abbrev pub IsPutOf : ℕ → List ℕ → Bool → Bool → Type 0
IsPutOf maximum packet final single = (is_connect packet ≡ false)
    × ((kind_of (packet_in phase.Request maximum packet) ≡ kinds.Refused) ⊎ ((marks : Marks) × (kind_of (packet_in phase.Request maximum packet) ≡ kinds.Put final marks) × (marks.single ≡ single)))

pub no_fields : (final : Bool) → fields_len phase.Request (cond final 0x82 0x02) ≡ 0
no_fields true = refl
no_fields false = refl

pub no_connect : (final : Bool) → eqb (cond final 0x82 0x02) 0x80 ≡ false
no_connect true = refl
no_connect false = refl

pub is_a_put : (final : Bool) (ahead : List PlainHeader) (part : List ℕ) → kind_of (Ok (put_packet final ahead part)) ≡ kinds.Put final (marks_of (ahead ++ body_header final part ∷ []))
is_a_put true ahead part = refl
is_a_put false ahead part = refl

-- whether single response mode is asked for by headers with a body behind them
pub single_of : (ahead : List PlainHeader) (final : Bool) (part : List ℕ) → (marks_of (ahead ++ body_header final part ∷ [])).single ≡ (marks_of ahead).single
single_of [] true part = refl
single_of [] false part = refl
single_of (h ∷ hs) final part = ap (λ (b : Bool). is_single h || b) (single_of hs final part)

pub written_put : (final : Bool) (ahead : List PlainHeader) (part : List ℕ) (maximum : ℕ) → IsPacket phase.Request (put_packet final ahead part) → IsPutOf maximum (packet_octets (put_packet final ahead part)) final (marks_of ahead).single
written_put final ahead part maximum sound =
    let octets = packet_octets (put_packet final ahead part) in
    let len = length-packet (put_packet final ahead part) in (
      no_connect final,
      elim (cases_lt maximum (length octets)) [
        | inl more ↦ inl (ap kind_of (too_long maximum octets (omega (arith, len)) more (no_fields final)))
        | inr fits ↦
            inr (
              marks_of (ahead ++ body_header final part ∷ []),
              ap kind_of (packet_again phase.Request maximum octets (put_packet final ahead part) (record { sound = sound; within = fits; spelling = refl })) ∙ is_a_put final ahead part,
              single_of ahead final part,
            )
      ],
    )

-- ---- what a server is behind a packet, whatever the inbox answers

pub stands_at : (come : Answer) (past : List Heard) (session : Serving) (packet : List ℕ) → StandsFor [] past session None
    → StandsFor [] (past ++ (packet, is_err come) ∷ []) (record session { course = course_after session.offered session.course (kind_heard session packet) (verdict_or (ruling_on session packet).verdict come) }) None
stands_at (Ok done) past session packet stands =
    after_packet [] past session (record session { course = course_after session.offered session.course (kind_heard session packet) (Ok (ruling_on session packet).verdict) }) None None packet (ruling_on session packet) stands refl refl
    (progress_behind session.offered session.course (kind_heard session packet) (Ok (ruling_on session packet).verdict)) refl
stands_at (Err f) past session packet stands =
    after_fault [] past session (record session { course = course_after session.offered session.course (kind_heard session packet) (Err f) }) None None packet stands refl
    (progress_behind session.offered session.course (kind_heard session packet) (Err f)) refl

pub stands_on : (answers : List Answer) (past : List Heard) (session : Serving) (packet : List ℕ) → StandsFor [] past session None
    → StandsFor [] (past ++ (packet, is_err (come_of (ruling_on session packet).calls answers)) ∷ []) (heard_with session packet answers).session None
stands_on answers past session packet stands = stands_at (come_of (ruling_on session packet).calls answers) past session packet stands

-- how many objects are stored
abbrev pub stored : Serving → List Heard → ℕ
stored session past = length (stored_by session.maximum past)

-- one more exactly where success is said to a PUT
pub counts : (answers : List Answer) (past : List Heard) (session : Serving) (packet : List ℕ) → StandsFor [] past session None → stored session past ≡ 0
    → stored session (past ++ (packet, is_err (come_of (ruling_on session packet).calls answers)) ∷ []) ≡ cond (stores_one (kind_heard session packet) (heard_with session packet answers).saying) 1 0
counts answers past session packet stands none =
    let gains = success_is_stored session past packet answers stands.progress in
    let both = ap length gains.stored_is ∙ length-append (stored_by session.maximum past) gains.gained in
    both ∙ ap (λ (n : ℕ). n + length gains.gained) none ∙ zero-add (length gains.gained) ∙ gains.counted

-- ---- stages

-- what holds at every stage
pub record Base (p : Pair) : Type 0 where
  pub stands : StandsFor [] p.past p.server None
  pub client_least : 255 ≤ p.client.maximum
  pub server_least : 255 ≤ p.server.maximum
  pub server_most : p.server.maximum < 2 ^ 16
  pub stated : AllByRecursion (States p.server.maximum) p.responses
  pub limit_least : 255 ≤ p.client.limit
  -- behind CONNECT no packet is longer than the server takes
  pub bounded : (p.client.awaited ≡ Some Connect) ⊎ (p.client.limit ≤ p.server.maximum)

-- the course agrees with what the client knows
abbrev pub Agrees : Option ℕ → Bool → Course → Type 0
Agrees None single course = course ≡ Rests
Agrees (Some place) single course = (progress : Progress) × (course ≡ Runs progress single)

-- a request suits the session that is to hear it
abbrev pub Suits : Request → Asking → Serving → List ℕ → Type 0
Suits Connect client server packet = (is_connect packet ≡ true) × (server.course ≡ Rests) × (client.put ≡ None)
Suits FirstPut client server packet = IsPutOf server.maximum packet false client.wanted × (server.course ≡ Rests) × ((place : ℕ) × (client.put ≡ Some place))
Suits Put client server packet = (single : Bool) × IsPutOf server.maximum packet false single × ((progress : Progress) × (server.course ≡ Runs progress false)) × ((place : ℕ) × (client.put ≡ Some place)) × (client.single ≡ false)
Suits Stream client server packet = ⊥
Suits FinalPut client server packet = (single : Bool) × IsPutOf server.maximum packet true single
Suits Abort client server packet = ⊥
Suits Disconnect client server packet = ⊥

-- a PUT behind the first
abbrev pub IsNext : ℕ → List ℕ → Bool → Type 0
IsNext maximum packet final = (marks : Marks) × (is_connect packet ≡ false) × (kind_of (packet_in phase.Request maximum packet) ≡ kinds.Put final marks) × (marks.name ≡ false)

-- such PUTs under way, of which the last is final or none is
abbrev pub Queued : ℕ → Bool → List (List ℕ) → Type 0
Queued maximum false [] = Unit {0}
Queued maximum true [] = ⊥
Queued maximum false (packet ∷ rest) = IsNext maximum packet false × Queued maximum false rest
Queued maximum true (packet ∷ []) = IsNext maximum packet true
Queued maximum true (packet ∷ next ∷ rest) = IsNext maximum packet false × Queued maximum true (next ∷ rest)

-- what is under way behind a refused one is passed over
abbrev pub Over : ℕ → Bool → Course → List (List ℕ) → Type 0
Over maximum true course packets = (packets ≡ []) ⊎ ((course ≡ Ignores) × Queued maximum true packets)
Over maximum false course packets = (course ≡ Ignores) × Queued maximum false packets

-- what is under way ahead of ABORT or DISCONNECT: that, or PUTs in single response mode
abbrev pub Ahead : ℕ → Course → List (List ℕ) → Type 0
Ahead maximum course packets = ((final : Bool) × Over maximum final course packets) ⊎ ((progress : Progress) × (course ≡ Runs progress true) × Queued maximum false packets)

abbrev pub streaming : Bool → Request
streaming final = cond final FinalPut Stream

abbrev pub IsRefused : Answered → Type 0
IsRefused answer = (code : ℕ) × (answer ≡ Refused code)

-- a response that refuses whatever of a stream awaits it, and ABORT and DISCONNECT
abbrev pub Refuses : ℕ → List ℕ → Type 0
Refuses maximum response = (request : Request) → phase_of request ≡ phase.Response → awaited_code request ≡ 0xA0 → IsRefused (answer_to maximum request response)

pub data Stage (p : Pair) : Type 0 where
  -- a request waits to be heard
  Asked : (request : Request) (packet : List ℕ) → p.client.awaited ≡ Some request → p.requests ≡ packet ∷ [] → p.responses ≡ [] → Suits request p.client p.server packet → stored p.server p.past ≡ 0 → Stage p
  -- its response waits to be taken
  Replied : (request : Request) (response : List ℕ) → p.client.awaited ≡ Some request → is_waiting p.client.awaited ≡ true → p.requests ≡ [] → p.responses ≡ response ∷ [] → MeansWell (stored p.server p.past) (answer_to p.client.maximum request response)
      → (answer_to p.client.maximum request response ≡ Go → Agrees (after_answer p.client request response).put (after_answer p.client request response).single p.server.course × (stored p.server p.past ≡ 0)) → Stage p
  -- nothing is under way
  Idle : p.client.awaited ≡ None → p.requests ≡ [] → p.responses ≡ [] → Agrees p.client.put p.client.single p.server.course → stored p.server p.past ≡ 0 → Stage p
  -- PUTs are under way in single response mode
  Streams : (final : Bool) (progress : Progress) → p.client.awaited ≡ Some (streaming final) → (final ≡ false → ((place : ℕ) × (p.client.put ≡ Some place)) × (p.client.single ≡ true)) → Queued p.server.maximum final p.requests → p.responses ≡ []
      → p.server.course ≡ Runs progress true → stored p.server p.past ≡ 0 → Stage p
  -- one of them was refused
  Stopped : (final : Bool) (response : List ℕ) → p.client.awaited ≡ Some (streaming final) → (final ≡ false → ((place : ℕ) × (p.client.put ≡ Some place)) × (p.client.single ≡ true)) → p.responses ≡ response ∷ []
      → Over p.server.maximum final p.server.course p.requests → Refuses p.client.maximum response → Stage p
  -- nothing more comes
  Mute : is_waiting p.client.awaited ≡ true → p.requests ≡ [] → p.responses ≡ [] → Stage p
  -- the push ended: no request waits,
  Quits : (final : Bool) → p.ended ≡ true → p.client.awaited ≡ None → p.responses ≡ [] → Over p.server.maximum final p.server.course p.requests → Stage p
  -- ABORT or DISCONNECT waits to be heard,
  Parts : (under_way : Bool) (ahead : List (List ℕ)) → p.ended ≡ true → p.client.awaited ≡ Some (leave_request under_way) → p.responses ≡ [] → p.requests ≡ ahead ++ leave_packet under_way ∷ [] → Ahead p.server.maximum p.server.course ahead → Stage p
  -- its response waits to be taken,
  Parted : (under_way : Bool) (response : List ℕ) → p.ended ≡ true → p.client.awaited ≡ Some (leave_request under_way) → p.requests ≡ [] → p.responses ≡ response ∷ []
      → (answer_to p.client.maximum (leave_request under_way) response ≡ Go) ⊎ IsRefused (answer_to p.client.maximum (leave_request under_way) response) → Stage p
  -- or the refusal of a PUT stands ahead of it
  Deaf : (under_way : Bool) (response : List ℕ) (rest : List (List ℕ)) → p.ended ≡ true → p.client.awaited ≡ Some (leave_request under_way) → p.responses ≡ response ∷ rest → Refuses p.client.maximum response → Stage p

pub leave_waits : (under_way : Bool) → is_waiting (Some (leave_request under_way)) ≡ true
leave_waits true = refl
leave_waits false = refl

pub leave_phase : (under_way : Bool) → phase_of (leave_request under_way) ≡ phase.Response
leave_phase true = refl
leave_phase false = refl

pub leave_code : (under_way : Bool) → awaited_code (leave_request under_way) ≡ 0xA0
leave_code true = refl
leave_code false = refl

pub leave_success : (under_way : Bool) → success_of (leave_request under_way) ≡ Go
leave_success true = refl
leave_success false = refl

pub leave_no_put : (under_way : Bool) → is_put_request (leave_request under_way) ≡ false
leave_no_put true = refl
leave_no_put false = refl

pub stream_phase : (final : Bool) → phase_of (streaming final) ≡ phase.Response
stream_phase true = refl
stream_phase false = refl

pub stream_code : (final : Bool) → awaited_code (streaming final) ≡ 0xA0
stream_code true = refl
stream_code false = refl

pub leave_refused : (under_way : Bool) (maximum : ℕ) (response : List ℕ) → Refuses maximum response → IsRefused (answer_to maximum (leave_request under_way) response)
leave_refused under_way maximum response refuses = refuses (leave_request under_way) (leave_phase under_way) (leave_code under_way)

pub stream_is_refused : (final : Bool) (maximum : ℕ) (response : List ℕ) → Refuses maximum response → IsRefused (answer_to maximum (streaming final) response)
stream_is_refused final maximum response refuses = refuses (streaming final) (stream_phase final) (stream_code final)

-- ---- what a stage says of the next response

pub same_request : (a b : Request) → request_of a ≡ request_of b → a ≡ b
same_request a b e = cc

pub first_of : (x y : List ℕ) (xs ys : List (List ℕ)) → x ∷ xs ≡ y ∷ ys → x ≡ y
first_of x y xs ys e = cc

pub no_first : (x : List ℕ) (xs : List (List ℕ)) → [] ≡ x ∷ xs → ⊥
no_first x xs e = cc

pub refused_well : (stored : ℕ) (answer : Answered) (code : ℕ) → answer ≡ Refused code → MeansWell stored answer
refused_well stored answer code e = subst (MeansWell stored) (sym e) tt

go_well : (stored : ℕ) (answer : Answered) → (answer ≡ Go) ⊎ IsRefused answer → MeansWell stored answer
go_well stored answer (inl go) = subst (MeansWell stored) (sym go) tt
go_well stored answer (inr refused) = refused_well stored answer refused.0 refused.1

waiting_no_stream : (awaited : Option Request) → is_waiting awaited ≡ true → is_stream awaited ≡ true → ⊥
waiting_no_stream None w e = absurd cc
waiting_no_stream (Some Connect) w e = absurd cc
waiting_no_stream (Some FirstPut) w e = absurd cc
waiting_no_stream (Some Put) w e = absurd cc
waiting_no_stream (Some Stream) w e = absurd cc
waiting_no_stream (Some FinalPut) w e = absurd cc
waiting_no_stream (Some Abort) w e = absurd cc
waiting_no_stream (Some Disconnect) w e = absurd cc

-- what is known of the next response
pub record Next (p : Pair) (response : List ℕ) : Type 0 where
  pub request : Request
  pub waits : p.client.awaited ≡ Some request
  pub well : MeansWell (stored p.server p.past) (answer_to p.client.maximum request response)
  pub in_time : is_stream p.client.awaited ≡ true → IsRefused (answer_to p.client.maximum request response)

same_next : (p : Pair) (s response : List ℕ) (others rest : List (List ℕ)) → p.responses ≡ s ∷ others → p.responses ≡ response ∷ rest → Next p s → Next p response
same_next p s response others rest answers e next = subst (Next p) (first_of s response others rest (sym answers ∙ e)) next

parted_next : (p : Pair) (under_way : Bool) (s : List ℕ) → p.client.awaited ≡ Some (leave_request under_way) → (answer_to p.client.maximum (leave_request under_way) s ≡ Go) ⊎ IsRefused (answer_to p.client.maximum (leave_request under_way) s) → Next p s
parted_next p under_way s waits answer = record {
  request = leave_request under_way;
  waits = waits;
  well = go_well (stored p.server p.past) (answer_to p.client.maximum (leave_request under_way) s) answer;
  in_time = λ streams. absurd (waiting_no_stream p.client.awaited (ap is_waiting waits ∙ leave_waits under_way) streams);
}

pub stage_next : (p : Pair) → Stage p → (response : List ℕ) (rest : List (List ℕ)) → p.responses ≡ response ∷ rest → Next p response
stage_next p (Asked r packet waits asks answers suits none) response rest e = absurd (no_first response rest (sym answers ∙ e))
stage_next p (Replied r s waits waiting asks answers means goes) response rest e = same_next p s response [] rest answers e (record { request = r; waits = waits; well = means; in_time = λ streams. absurd (waiting_no_stream p.client.awaited waiting streams) })
stage_next p (Idle waits asks answers agrees none) response rest e = absurd (no_first response rest (sym answers ∙ e))
stage_next p (Streams final progress waits more queued answers course none) response rest e = absurd (no_first response rest (sym answers ∙ e))
stage_next p (Stopped final s waits more answers over refuses) response rest e =
    let refused = stream_is_refused final p.client.maximum s refuses in
    same_next p s response [] rest answers e (record { request = streaming final; waits = waits; well = refused_well (stored p.server p.past) (answer_to p.client.maximum (streaming final) s) refused.0 refused.1; in_time = λ streams. refused })
stage_next p (Mute waiting asks answers) response rest e = absurd (no_first response rest (sym answers ∙ e))
stage_next p (Quits final over waits answers passed) response rest e = absurd (no_first response rest (sym answers ∙ e))
stage_next p (Parts under_way ahead over waits answers asks row) response rest e = absurd (no_first response rest (sym answers ∙ e))
stage_next p (Parted under_way s over waits asks answers answer) response rest e = same_next p s response [] rest answers e (parted_next p under_way s waits answer)
stage_next p (Deaf under_way s others over waits answers refuses) response rest e = same_next p s response others rest answers e (parted_next p under_way s waits (inr (leave_refused under_way p.client.maximum s refuses)))

pub stage_says : (p : Pair) → Stage p → (request : Request) (response : List ℕ) (rest : List (List ℕ)) → p.client.awaited ≡ Some request → p.responses ≡ response ∷ rest → MeansWell (stored p.server p.past) (answer_to p.client.maximum request response)
stage_says p stage request response rest w e =
    let next = stage_next p stage response rest e in
    subst (λ (r : Request). MeansWell (stored p.server p.past) (answer_to p.client.maximum r response)) (same_request next.request request (sym next.waits ∙ w)) next.well

pub stage_awaits : (p : Pair) → Stage p → (response : List ℕ) (rest : List (List ℕ)) → p.responses ≡ response ∷ rest → IsExpected p.client response
stage_awaits p stage response rest e = let next = stage_next p stage response rest e in record { request = next.request; waits = next.waits; in_time = next.in_time }
