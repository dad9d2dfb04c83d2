-- Two sessions over a pipe of packets: the client puts packets of its object, and leaves off.
use Rattle.std.proofs.Common.{ℕ, Bool, true, false, ◌≡◌, ◌+◌, ◌-◌, ◌<◌, ◌≤◌, ◌^◌, inl, inr, List, [], ◌∷◌, ◌++◌, length, take, Option, Some, None, refl, sym, ap, subst, ◌∙◌, arith}
use Rattle.std.specs.Prelude.{is_none, is_some, min}
use Rattle.obex_headers.specs.declared.packet.Phase.TheVariants as phase
use Rattle.bt_base.specs.Objects.{Object}
use Rattle.obex_headers.specs.Packets.{PlainHeader, IsPacket, packet_octets}
use Rattle.obex_headers.proofs.PacketLaws.{packet_again, length-packet}
use Rattle.obex_session.specs.declared.asking.Request.{Request}
use Rattle.obex_session.specs.declared.asking.Request.TheVariants.{Connect, FirstPut, Put, Stream, FinalPut, Abort, Disconnect}
use Rattle.obex_session.specs.declared.course.Course.{Course}
use Rattle.obex_session.specs.Marks.{marks_of, kind_of}
use Rattle.obex_session.specs.Past.{Serving}
use Rattle.obex_session.specs.PutPackets.{units_in, head_of, body_header, put_packet, place_of, room_in, ahead_of}
use Rattle.obex_session.specs.ObjectPuts.{HasPut, place_behind}
use Rattle.obex_headers.specs.Runs.{joined}
use Rattle.obex_session.proofs.PutPacketLaws.{head_at}
use Rattle.obex_session.proofs.ObjectLaws.{put_of, put_len}
use Rattle.obex_session.specs.Asking.{Asking, asks_for}
use Rattle.obex_session.specs.NextPut.{is_waiting, put_request, after_put, left_of, room_for}
use Rattle.obex_session.specs.Pairs.{Pair, Puts, Leaves, leave_request, leave_packet, asks_also}
use Rattle.obex_session.proofs.PairStages.{request_of, IsPutOf, no_connect, is_a_put, written_put, stored, Base, Agrees, Suits, IsNext, Queued, Over, streaming, Refuses, Stage, Asked, Idle, Mute, Quits, Parts, Deaf, leave_waits, Replied, Streams, Stopped, Parted}

-- ---- the client puts a packet

-- the packet, to whatever server
pub record Written (maximum : ℕ) (client : Asking) (packet : List ℕ) (final : Bool) : Type 0 where
  pub single : Bool
  pub put : IsPutOf maximum packet final single
  pub wanted : client.put ≡ None → single ≡ client.wanted
  pub next : (place : ℕ) → client.put ≡ Some place → client.limit ≤ maximum → IsNext maximum packet final

pub queued_more : (maximum : ℕ) (final : Bool) (packets : List (List ℕ)) (packet : List ℕ) → Queued maximum false packets → IsNext maximum packet final → Queued maximum final (packets ++ packet ∷ [])
queued_more maximum true [] packet queued put = put
queued_more maximum false [] packet queued put = (put, tt)
queued_more maximum true (first ∷ []) packet queued put = (queued.0, put)
queued_more maximum false (first ∷ []) packet queued put = (queued.0, (put, tt))
queued_more maximum true (first ∷ next ∷ rest) packet queued put = (queued.0, queued_more maximum true (next ∷ rest) packet queued.1 put)
queued_more maximum false (first ∷ next ∷ rest) packet queued put = (queued.0, queued_more maximum false (next ∷ rest) packet queued.1 put)

over_more : (maximum : ℕ) (final : Bool) (course : Course) (packets : List (List ℕ)) (packet : List ℕ) → Over maximum false course packets → IsNext maximum packet final → Over maximum final course (packets ++ packet ∷ [])
over_more maximum true course packets packet over put = inr (over.0, queued_more maximum true packets packet over.1 put)
over_more maximum false course packets packet over put = (over.0, queued_more maximum false packets packet over.1 put)

-- what is awaited behind a PUT
pub put_waits : (session session' : Asking) (final : Bool) (n : ℕ) (put : Option ℕ) (single : Bool) → session.put ≡ put → session.single ≡ single → session' ≡ after_put session final n → session'.awaited ≡ Some (put_request (is_none put) final single)
put_waits session session' final n put single p s e = ap (λ (x : Asking). x.awaited) e ∙ ap (λ (o : Option ℕ). request_of (put_request (is_none o) final session.single)) p ∙ ap (λ (b : Bool). request_of (put_request (is_none put) final b)) s

pub put_place : (session session' : Asking) (n : ℕ) → session' ≡ after_put session false n → (place : ℕ) × (session'.put ≡ Some place)
put_place session session' n e = (place_of session.put + n, ap (λ (x : Asking). x.put) e)

pub put_single : (session session' : Asking) (n : ℕ) → session' ≡ after_put session false n → session'.single ≡ session.single
put_single session session' n e = ap (λ (x : Asking). x.single) e

pub put_wanted : (session session' : Asking) (final : Bool) (n : ℕ) → session' ≡ after_put session final n → session'.wanted ≡ session.wanted
put_wanted session session' final n e = ap (λ (x : Asking). x.wanted) e

pub not_waiting : (a : Bool) → a ≡ true → a ≡ false → ⊥
not_waiting true e f = cc
not_waiting false e f = cc

pub marks_wanted : (wanted : Bool) (units : List ℕ) (size : ℕ) → (marks_of (head_of wanted units size)).single ≡ wanted
marks_wanted true units size = refl
marks_wanted false units size = refl

pub first_wanted : (wanted : Bool) (units : List ℕ) (size : ℕ) (parts : List (List ℕ)) (put : Option ℕ) → put ≡ place_behind parts → put ≡ None → (marks_of (head_at (head_of wanted units size) parts)).single ≡ wanted
first_wanted wanted units size [] put p none = marks_wanted wanted units size
first_wanted wanted units size (part ∷ parts) put p none = absurd (let never_none : Some (length (joined (part ∷ parts))) ≡ None = sym p ∙ none in cc)

-- one behind the first
nameless : (final : Bool) (part : List ℕ) → (marks_of ([] ++ body_header final part ∷ [])).name ≡ false
nameless true part = refl
nameless false part = refl

next_put : (final : Bool) (part : List ℕ) (maximum : ℕ) → IsPacket phase.Request (put_packet final [] part) → length (packet_octets (put_packet final [] part)) ≤ maximum → IsNext maximum (packet_octets (put_packet final [] part)) final
next_put final part maximum sound within = (
  marks_of ([] ++ body_header final part ∷ []),
  no_connect final,
  ap kind_of (packet_again phase.Request maximum (packet_octets (put_packet final [] part)) (put_packet final [] part) (record { sound = sound; within = within; spelling = refl })) ∙ is_a_put final [] part,
  nameless final part,
)

next_ahead : (head : List PlainHeader) (parts : List (List ℕ)) (put : Option ℕ) (place : ℕ) → put ≡ place_behind parts → put ≡ Some place → head_at head parts ≡ []
next_ahead head [] put place p some = absurd (let never : None ≡ Some place = sym p ∙ some in cc)
next_ahead head (part ∷ parts) put place p some = refl

next_within : (left limit limit' room part len maximum : ℕ) → 255 ≤ limit → 255 ≤ limit' → limit ≤ maximum → room ≡ min limit limit' - 6 → part ≡ min left room → len ≡ 6 + part → len ≤ maximum
next_within left limit limit' room part len maximum least least' bounded r p l = omega (arith, least, least', bounded, r, p, l)

next_len : (final : Bool) (part : List ℕ) → length (packet_octets (put_packet final [] part)) ≡ 6 + length part
next_len final part = length-packet (put_packet final [] part) ∙ put_len final [] part

pub written : (name : List ℕ) (size : ℕ) (content : Option (List Object)) (said : List (List ℕ)) (a b : Pair) → length (units_in name) ≤ 100 → size < 2 ^ 32 → 255 ≤ a.client.limit → HasPut name size said a.client content → (p : Puts name size content a b) → (maximum : ℕ)
    → Written maximum a.client (take p.count p.room') p.final
written name size content said a b few small own has p maximum =
    let one = put_of p.final name size p.limit said a.client b.client content p.room p.room' p.count few small p.most p.least own has p.puts in
    let ahead = head_at (head_of a.client.wanted (units_in name) size) has.parts in
    record {
      single = (marks_of ahead).single;
      put = subst (λ (packet : List ℕ). IsPutOf maximum packet p.final (marks_of ahead).single) (sym one.packet) (written_put p.final ahead one.part maximum one.sound);
      wanted = λ none. first_wanted a.client.wanted (units_in name) size has.parts a.client.put has.place none;
      next = λ place there bounded.
          let bare = next_ahead (head_of a.client.wanted (units_in name) size) has.parts a.client.put place has.place there in
          let room : room_for a.client name size p.limit ≡ min a.client.limit p.limit - 6 = ap (λ (o : Option ℕ). room_in (min a.client.limit p.limit) (ahead_of a.client.wanted o name size)) there in
          subst (λ (packet : List ℕ). IsNext maximum packet p.final) (sym (one.packet ∙ ap (λ (hs : List PlainHeader). packet_octets (put_packet p.final hs one.part)) bare))
          (next_put p.final one.part maximum (subst (λ (hs : List PlainHeader). IsPacket phase.Request (put_packet p.final hs one.part)) bare one.sound)
          (next_within (left_of a.client size) a.client.limit p.limit (room_for a.client name size p.limit) (length one.part) (length (packet_octets (put_packet p.final [] one.part))) maximum own p.least bounded room one.part_len (next_len p.final one.part)));
    }

pub asked_waits : (request : Request) (client : Asking) (server : Serving) (packet : List ℕ) → Suits request client server packet → is_waiting (Some request) ≡ true
asked_waits Connect client server packet suits = refl
asked_waits FirstPut client server packet suits = refl
asked_waits Put client server packet suits = refl
asked_waits Stream client server packet suits = absurd suits
asked_waits FinalPut client server packet suits = refl
asked_waits Abort client server packet suits = absurd suits
asked_waits Disconnect client server packet suits = absurd suits

-- a pair with one packet more that was put
abbrev pub put_to : Pair → Asking → List ℕ → List (List ℕ) → Pair
put_to a client packet requests = record a { client = client; ended = false; asked = a.asked ++ packet ∷ []; requests = requests }

-- the client put a packet of so many octets
pub record IsPut (a : Pair) (client : Asking) (packet : List ℕ) (final : Bool) (n : ℕ) : Type 0 where
  pub client_is : client ≡ after_put a.client final n
  pub writing : Written a.server.maximum a.client packet final

pub more_of : (a : Pair) (client : Asking) (packet : List ℕ) (final : Bool) (n : ℕ) → IsPut a client packet final n → a.client.single ≡ true → final ≡ false → ((place : ℕ) × (client.put ≡ Some place)) × (client.single ≡ true)
more_of a client packet true n put single e = absurd cc
more_of a client packet false n put single e = (put_place a.client client n put.client_is, put_single a.client client n put.client_is ∙ single)

pub stream_request : (final : Bool) → put_request false final true ≡ streaming final
stream_request true = refl
stream_request false = refl

pub idle_puts : (a : Pair) (client : Asking) (packet : List ℕ) (final : Bool) (n : ℕ) (put : Option ℕ) (single : Bool) → a.client.put ≡ put → a.client.single ≡ single → IsPut a client packet final n → a.client.limit ≤ a.server.maximum → a.responses ≡ [] → Agrees put single a.server.course → stored a.server a.past ≡ 0
    → Stage (put_to a client packet (packet ∷ []))
idle_puts a client packet true n None single p s one bounded answers agrees none = Asked FinalPut packet (put_waits a.client client true n None single p s one.client_is) refl answers (one.writing.single, one.writing.put) none
idle_puts a client packet false n None single p s one bounded answers agrees none =
    let wish : one.writing.single ≡ client.wanted = one.writing.wanted p ∙ sym (put_wanted a.client client false n one.client_is) in
    Asked FirstPut packet (put_waits a.client client false n None single p s one.client_is) refl answers
    (subst (IsPutOf a.server.maximum packet false) wish one.writing.put, agrees, put_place a.client client n one.client_is) none
idle_puts a client packet true n (Some place) false p s one bounded answers agrees none = Asked FinalPut packet (put_waits a.client client true n (Some place) false p s one.client_is) refl answers (one.writing.single, one.writing.put) none
idle_puts a client packet false n (Some place) false p s one bounded answers agrees none =
    Asked Put packet (put_waits a.client client false n (Some place) false p s one.client_is) refl answers
    (one.writing.single, one.writing.put, agrees, put_place a.client client n one.client_is, put_single a.client client n one.client_is ∙ s) none
idle_puts a client packet final n (Some place) true p s one bounded answers agrees none =
    Streams final agrees.0 (put_waits a.client client final n (Some place) true p s one.client_is ∙ ap request_of (stream_request final)) (more_of a client packet final n one s)
    (queued_more a.server.maximum final [] packet tt (one.writing.next place p bounded)) answers agrees.1 none

never_free : (a : Pair) (request : Request) → a.client.awaited ≡ Some request → is_waiting (Some request) ≡ true → is_waiting a.client.awaited ≡ false → ⊥
never_free a request waits waiting free = not_waiting (is_waiting a.client.awaited) (ap is_waiting waits ∙ waiting) free

never_ended : (ended : Bool) → ended ≡ true → ended ≡ false → ⊥
never_ended ended e f = not_waiting ended e f

pub puts_at : (a : Pair) (client : Asking) (packet : List ℕ) (final : Bool) (n : ℕ) → Stage a → a.ended ≡ false → is_waiting a.client.awaited ≡ false → a.client.limit ≤ a.server.maximum → IsPut a client packet final n → Stage (put_to a client packet (a.requests ++ packet ∷ []))
puts_at a client packet final n (Asked r said waits asks answers suits none) on free bounded one = absurd (never_free a r waits (asked_waits r a.client a.server said suits) free)
puts_at a client packet final n (Replied r s waits waiting asks answers means goes) on free bounded one = absurd (not_waiting (is_waiting a.client.awaited) waiting free)
puts_at a client packet final n (Idle waits asks answers agrees none) on free bounded one =
    subst (λ (rs : List (List ℕ)). Stage (put_to a client packet (rs ++ packet ∷ []))) (sym asks) (idle_puts a client packet final n a.client.put a.client.single refl refl one bounded answers agrees none)
puts_at a client packet final n (Streams true progress waits more queued answers course none) on free bounded one = absurd (never_free a FinalPut waits refl free)
puts_at a client packet final n (Streams false progress waits more queued answers course none) on free bounded one =
    let still = more refl in
    Streams final progress (put_waits a.client client final n (Some still.0.0) true still.0.1 still.1 one.client_is ∙ ap request_of (stream_request final)) (more_of a client packet final n one still.1)
    (queued_more a.server.maximum final a.requests packet queued (one.writing.next still.0.0 still.0.1 bounded)) answers course none
puts_at a client packet final n (Stopped true s waits more answers over refuses) on free bounded one = absurd (never_free a FinalPut waits refl free)
puts_at a client packet final n (Stopped false s waits more answers over refuses) on free bounded one =
    let still = more refl in
    Stopped final s (put_waits a.client client final n (Some still.0.0) true still.0.1 still.1 one.client_is ∙ ap request_of (stream_request final)) (more_of a client packet final n one still.1) answers
    (over_more a.server.maximum final a.server.course a.requests packet over (one.writing.next still.0.0 still.0.1 bounded))
    (subst (λ (m : ℕ). Refuses m s) (sym (ap (λ (x : Asking). x.maximum) one.client_is)) refuses)
puts_at a client packet final n (Mute waiting asks answers) on free bounded one = absurd (not_waiting (is_waiting a.client.awaited) waiting free)
puts_at a client packet final n (Quits last over waits answers passed) on free bounded one = absurd (never_ended a.ended over on)
puts_at a client packet final n (Parts under_way ahead over waits answers asks row) on free bounded one = absurd (never_ended a.ended over on)
puts_at a client packet final n (Parted under_way s over waits asks answers answer) on free bounded one = absurd (never_ended a.ended over on)
puts_at a client packet final n (Deaf under_way s others over waits answers refuses) on free bounded one = absurd (never_ended a.ended over on)

pub free_bounded : (a : Pair) → Base a → is_waiting a.client.awaited ≡ false → a.client.limit ≤ a.server.maximum
free_bounded a base free = elim base.bounded [ inl connects ↦ absurd (never_free a Connect connects refl free) | inr bounded ↦ bounded ]

pub puts_stage : (name : List ℕ) (size : ℕ) (content : Option (List Object)) (said : List (List ℕ)) (a b : Pair) → length (units_in name) ≤ 100 → size < 2 ^ 32 → Base a → Stage a → HasPut name size said a.client content → Puts name size content a b → Stage b
puts_stage name size content said a b few small base stage has p =
    subst Stage (sym p.rest_is) (puts_at a b.client (take p.count p.room') p.final (min (left_of a.client size) (room_for a.client name size p.limit)) stage p.goes_on p.puts.none_waits (free_bounded a base p.puts.none_waits)
    (record { client_is = p.puts.session_is; writing = written name size content said a b few small base.limit_least has p a.server.maximum }))

pub puts_base : (name : List ℕ) (size : ℕ) (content : Option (List Object)) (a b : Pair) → Base a → Puts name size content a b → Base b
puts_base name size content a b base p =
    let limit : b.client.limit ≡ a.client.limit = ap (λ (x : Asking). x.limit) p.puts.session_is in
    subst Base (sym p.rest_is) (record {
      stands = base.stands;
      client_least = subst (λ (n : ℕ). 255 ≤ n) (sym (ap (λ (x : Asking). x.maximum) p.puts.session_is)) base.client_least;
      server_least = base.server_least;
      server_most = base.server_most;
      stated = base.stated;
      limit_least = subst (λ (n : ℕ). 255 ≤ n) (sym limit) base.limit_least;
      bounded = inr (subst (λ (n : ℕ). n ≤ a.server.maximum) (sym limit) (free_bounded a base p.puts.none_waits));
    })

-- ---- the client leaves off

leaves_at : (a : Pair) (under_way : Bool) → Stage a → is_waiting a.client.awaited ≡ false → Stage (asks_also (asks_for (leave_request under_way) a.client) true (leave_packet under_way) a)
leaves_at a under_way (Asked r said waits asks answers suits none) free = absurd (never_free a r waits (asked_waits r a.client a.server said suits) free)
leaves_at a under_way (Replied r s waits waiting asks answers means goes) free = absurd (not_waiting (is_waiting a.client.awaited) waiting free)
leaves_at a under_way (Idle waits asks answers agrees none) free = Parts under_way a.requests refl refl answers refl (inl (true, inl asks))
leaves_at a under_way (Streams true progress waits more queued answers course none) free = absurd (never_free a FinalPut waits refl free)
leaves_at a under_way (Streams false progress waits more queued answers course none) free = Parts under_way a.requests refl refl answers refl (inr (progress, course, queued))
leaves_at a under_way (Stopped true s waits more answers over refuses) free = absurd (never_free a FinalPut waits refl free)
leaves_at a under_way (Stopped false s waits more answers over refuses) free = Deaf under_way s [] refl refl answers refuses
leaves_at a under_way (Mute waiting asks answers) free = absurd (not_waiting (is_waiting a.client.awaited) waiting free)
leaves_at a under_way (Quits final over waits answers passed) free = Parts under_way a.requests refl refl answers refl (inl (final, passed))
leaves_at a under_way (Parts before ahead over waits answers asks row) free = absurd (never_free a (leave_request before) waits (leave_waits before) free)
leaves_at a under_way (Parted before s over waits asks answers answer) free = absurd (never_free a (leave_request before) waits (leave_waits before) free)
leaves_at a under_way (Deaf before s others over waits answers refuses) free = absurd (never_free a (leave_request before) waits (leave_waits before) free)

pub leaves_stage : (a b : Pair) → Stage a → Leaves a b → Stage b
leaves_stage a b stage l = subst Stage (sym l.rest_is) (leaves_at a (is_some a.client.put) stage l.free)

pub leaves_base : (a b : Pair) → Base a → Leaves a b → Base b
leaves_base a b base l =
    subst Base (sym l.rest_is) (record { stands = base.stands; client_least = base.client_least; server_least = base.server_least; server_most = base.server_most; stated = base.stated; limit_least = base.limit_least; bounded = inr (free_bounded a base l.free) })
