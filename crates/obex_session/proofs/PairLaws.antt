-- Two sessions over a pipe of packets, however they move.
use Rattle.std.proofs.Common.{Bool, true, false, ◌≡◌, ℕ, ◌<◌, ◌≤◌, ◌^◌, ◌⊎◌, inl, inr, List, [], ◌∷◌, ◌++◌, length, Some, refl, sym, ap, subst, ◌∙◌, arith, cond, Option}
use Rattle.std.specs.Prelude.{is_err}
use Rattle.std.specs.List.{AllByRecursion}
use Rattle.std.proofs.lemmas.Bool.{and_parts}
use Rattle.bt_base.specs.Objects.{Object}
use Rattle.obex_headers.specs.declared.packet.Phase.TheVariants as phase
use Rattle.obex_headers.specs.Packets.{bare, packet_octets}
use Rattle.obex_headers.specs.Reading.{packet_in}
use Rattle.obex_session.specs.declared.asking.Request.{Request}
use Rattle.obex_session.specs.declared.asking.Request.TheVariants.{Connect, FirstPut, Put, Stream, FinalPut, Abort, Disconnect}
use Rattle.obex_session.specs.declared.course.Course.{Course}
use Rattle.obex_session.specs.declared.course.Course.TheVariants.{Rests, Runs}
use Rattle.obex_session.specs.declared.course.Progress.{Progress}
use Rattle.obex_session.specs.declared.marks.Kind.{Kind}
use Rattle.obex_session.specs.declared.marks.Kind.TheVariants as kinds
use Rattle.obex_session.specs.declared.marks.Marks.{Marks}
use Rattle.obex_session.specs.declared.responding.Saying.{Saying}
use Rattle.obex_session.specs.declared.responding.Saying.TheVariants as saying
use Rattle.obex_session.specs.Responses.{connect_fields, response_octets}
use Rattle.obex_session.specs.InboxCalls.{Answer, come_of}
use Rattle.obex_session.specs.Rules.{at_packet}
use Rattle.obex_session.specs.Turns.{enables}
use Rattle.obex_session.specs.Past.{Heard, stored_by}
use Rattle.obex_session.specs.Serving.{kind_heard, ruling_on, heard_with}
use Rattle.obex_session.specs.PutPackets.{units_in}
use Rattle.obex_session.specs.NextPut.{is_waiting}
use Rattle.obex_session.specs.ObjectPuts.{HasPut}
use Rattle.obex_session.specs.Exchanges.{is_success, stores_one}
use Rattle.obex_session.specs.Pairs.{Pair, connecting, Hears, Move, Putting, Leaving, Hearing, Taking, Ending, leave_request, leave_packet, sent_by}
use Rattle.obex_session.proofs.SuccessLaws.{success_is_stored}
use Rattle.obex_session.proofs.StatingLaws.{States, said_states}
use Rattle.obex_session.proofs.PairStages.{stands_on, counts, first_of, no_first, IsPutOf, stored, Suits, Queued, Over, Ahead, Base, Stage, Asked, Replied, Idle, Streams, Stopped, Mute, Quits, Parts, Parted, Deaf}
use Rattle.obex_session.proofs.PairTakes.{last_of, takes_stage, takes_base, ends_stage, ends_base}
use Rattle.obex_session.proofs.PairPuts.{puts_stage, puts_base, leaves_stage, leaves_base}
use Rattle.obex_session.proofs.PairReplies.{ruled, never_passes, zero_stored, first_heard, further_heard, final_heard, at_course, connect_heard, said_at, course_at, head_queued, streamed, Streamed, Flows, Stops, Stores, refuses_by, stream_stage, passed_heard, leave_heard, leave_answered, IsAPut, Then, Facts, Flow}

-- ---- the server hears a packet

facts_of : (a : Pair) (packet : List ℕ) (answers : List Answer) → Base a → stored a.server a.past ≡ 0 → ((heard_with a.server packet answers).saying ≡ saying.NoMemory → ⊥)
    → Facts a packet (a.past ++ (packet, is_err (come_of (ruling_on a.server packet).calls answers)) ∷ []) answers a.server.course
facts_of a packet answers base none memory = record {
  memory = memory;
  count = counts answers a.past a.server packet base.stands none;
  last = (success_is_stored a.server a.past packet answers base.stands.progress).last;
}

-- a request that was under way alone is heard
kind_cases : (maximum : ℕ) (packet : List ℕ) (final single : Bool) → IsPutOf maximum packet final single → IsAPut (packet_in phase.Request maximum packet)
kind_cases maximum packet final single put = elim (put.1) [ inl refused ↦ inl refused | inr found ↦ inr (final, found.0, found.1) ]

enabled_put : (offered : Bool) (kind : Kind) (final wanted : Bool) → (kind ≡ kinds.Refused) ⊎ ((marks : Marks) × (kind ≡ kinds.Put final marks) × (marks.single ≡ wanted)) → enables offered kind ≡ true → wanted ≡ true
enabled_put offered kind final wanted (inl refused) e = absurd (let never_enables : false ≡ true = sym (ap (enables offered) refused) ∙ e in cc)
enabled_put offered kind final wanted (inr put) e = sym put.2 ∙ (and_parts offered put.0.single (sym (ap (enables offered) put.1) ∙ e)).1

hear_asked : (a : Pair) (packet : List ℕ) (past : List Heard) (answers : List Answer) (request : Request) → Base a → a.client.awaited ≡ Some request → Suits request a.client a.server packet → Facts a packet past answers a.server.course → Then a packet past answers [] a.server.course
hear_asked a packet past answers Connect base waits suits facts = at_course a packet past answers [] Rests suits.1 facts (λ f. connect_heard a packet past answers base waits suits.0 suits.2 f)
hear_asked a packet past answers FirstPut base waits suits facts =
    let read = packet_in phase.Request a.server.maximum packet in
    let least = base.client_least in
    let rules = ruled Rests read (kind_cases a.server.maximum packet false a.client.wanted suits.0) in
    at_course a packet past answers [] Rests suits.1 facts (λ f.
    first_heard a packet past (kind_heard a.server packet) suits.2.0 (at_packet Rests read).verdict (come_of (at_packet Rests read).calls answers) (record { waits = waits; waiting = refl; response = refl; plain = suits.0.0; least = omega (arith, least) }) suits.2.1
    (enabled_put a.server.offered (kind_heard a.server packet) false a.client.wanted suits.0.1) rules.of_put f.memory f.count)
hear_asked a packet past answers Put base waits suits facts =
    let read = packet_in phase.Request a.server.maximum packet in
    let least = base.client_least in
    let progress = suits.2.0 in
    let rules = ruled (Runs progress false) read (kind_cases a.server.maximum packet false suits.0 suits.1) in
    at_course a packet past answers [] (Runs progress false) suits.2.1 facts (λ f.
    further_heard a packet past (kind_heard a.server packet) progress suits.3.0 (at_packet (Runs progress false) read).verdict (come_of (at_packet (Runs progress false) read).calls answers)
    (record { waits = waits; waiting = refl; response = refl; plain = suits.1.0; least = omega (arith, least) }) suits.3.1 suits.4 rules.of_put f.memory f.count)
hear_asked a packet past answers Stream base waits suits facts = absurd suits
hear_asked a packet past answers FinalPut base waits suits facts =
    let read = packet_in phase.Request a.server.maximum packet in
    let least = base.client_least in
    let put = kind_cases a.server.maximum packet true suits.0 suits.1 in
    let rules = ruled a.server.course read put in
    final_heard a packet past (kind_heard a.server packet) a.server.course (at_packet a.server.course read).verdict (come_of (at_packet a.server.course read).calls answers)
    (record { waits = waits; waiting = refl; response = refl; plain = suits.1.0; least = omega (arith, least) }) rules.of_put rules.whole put facts.memory facts.count
hear_asked a packet past answers Abort base waits suits facts = absurd suits
hear_asked a packet past answers Disconnect base waits suits facts = absurd suits

-- a PUT of a stream
stream_said : (a : Pair) (packet : List ℕ) (answers : List Answer) (rest : List (List ℕ)) (final : Bool) (progress : Progress) → Base a → a.server.course ≡ Runs progress true → Queued a.server.maximum final (packet ∷ rest) → ((heard_with a.server packet answers).saying ≡ saying.NoMemory → ⊥)
    → Streamed a.server.maximum rest final (heard_with a.server packet answers).saying (heard_with a.server packet answers).session.course
stream_said a packet answers rest final progress base course queued memory =
    let read = packet_in phase.Request a.server.maximum packet in
    let head = head_queued a.server.maximum final packet rest queued in
    let kind = head.put.2 in
    let rules = ruled (Runs progress true) read (inr (head.ends, head.put.0, kind)) in
    subst (λ (c : Course). (said_at a packet answers c ≡ saying.NoMemory → ⊥) → (is_success (said_at a packet answers c) ≡ true → head.ends ≡ true) → Streamed a.server.maximum rest final (said_at a packet answers c) (course_at a packet answers c)) (sym course)
    (streamed a.server.offered a.server.maximum packet rest final progress (kind_heard a.server packet) head.put.0 (at_packet (Runs progress true) read).verdict (come_of (at_packet (Runs progress true) read).calls answers) head rules.of_put kind (λ over e. never_passes progress true read over e))
    memory
    (λ success. (success_is_stored a.server a.past packet answers base.stands.progress).last head.ends head.put.0 kind success)

one_stored : (count : ℕ) (kind : Kind) (ends : Bool) (marks : Marks) (said : Saying) → kind ≡ kinds.Put ends marks → is_success said ≡ true → count ≡ cond (stores_one kind said) 1 0 → count ≡ 1
one_stored count kind ends marks said k success n = n ∙ ap (λ (x : Kind). cond (stores_one x said) 1 0) k ∙ ap (λ (b : Bool). cond b 1 0) success

-- the pair that the server leaves, with the responses that were under way before
abbrev after_hearing : Pair → List ℕ → List Answer → List (List ℕ) → List (List ℕ) → Pair
after_hearing a packet answers rest responses = record a {
  server = (heard_with a.server packet answers).session;
  past = a.past ++ (packet, is_err (come_of (ruling_on a.server packet).calls answers)) ∷ [];
  requests = rest;
  responses = responses ++ sent_by packet a.server.maximum (heard_with a.server packet answers).saying;
}

no_packet : (packet : List ℕ) (rest requests : List (List ℕ)) → requests ≡ [] → requests ≡ packet ∷ rest → ⊥
no_packet packet rest requests e f = no_first packet rest (sym e ∙ f)

abbrev past_with : Pair → List ℕ → List Answer → List Heard
past_with a packet answers = a.past ++ (packet, is_err (come_of (ruling_on a.server packet).calls answers)) ∷ []

hear_stream : (a : Pair) (packet : List ℕ) (answers : List Answer) (rest : List (List ℕ)) (final : Bool) (progress : Progress) → Base a → Flow a final → a.server.course ≡ Runs progress true → Queued a.server.maximum final (packet ∷ rest) → stored a.server a.past ≡ 0
    → ((heard_with a.server packet answers).saying ≡ saying.NoMemory → ⊥) → Stage (after_hearing a packet answers rest [])
hear_stream a packet answers rest final progress base flow course queued none memory =
    let said = (heard_with a.server packet answers).saying in
    let kind = kind_heard a.server packet in
    let head = head_queued a.server.maximum final packet rest queued in
    let count = counts answers a.past a.server packet base.stands none in
    stream_stage a packet (past_with a packet answers) rest final said (heard_with a.server packet answers).session.course flow head.put.1
    (λ fails. zero_stored (length (stored_by a.server.maximum (past_with a packet answers))) kind said fails count)
    (λ success. one_stored (length (stored_by a.server.maximum (past_with a packet answers))) kind head.ends head.put.0 said head.put.2 success count)
    (stream_said a packet answers rest final progress base course queued memory)

-- a packet ahead of ABORT or DISCONNECT
hear_ahead : (a : Pair) (packet : List ℕ) (answers : List Answer) (under_way : Bool) (ahead : List (List ℕ)) → Base a → a.ended ≡ true → a.client.awaited ≡ Some (leave_request under_way) → ((heard_with a.server packet answers).saying ≡ saying.NoMemory → ⊥)
    → Ahead a.server.maximum a.server.course (packet ∷ ahead) → Stage (after_hearing a packet answers (ahead ++ leave_packet under_way ∷ []) [])
hear_ahead a packet answers under_way ahead base over waits memory (inl passing) =
    let passed = passed_heard a.server packet answers passing.0 ahead passing.1 in
    Parts under_way ahead over waits (ap (λ (s : Saying). sent_by packet a.server.maximum s) passed.silent) refl (inl (passing.0, passed.over))
hear_ahead a packet answers under_way ahead base over waits memory (inr flowing) = by_stream (stream_said a packet answers ahead false flowing.0 base flowing.1 flowing.2 memory)
  where
    by_stream : Streamed a.server.maximum ahead false (heard_with a.server packet answers).saying (heard_with a.server packet answers).session.course → Stage (after_hearing a packet answers (ahead ++ leave_packet under_way ∷ []) [])
    by_stream (Flows progress s c (inl none)) = absurd (let never : false ≡ true = none.1 in cc)
    by_stream (Flows progress s c (inr queued)) = Parts under_way ahead over waits (ap (λ (x : Saying). sent_by packet a.server.maximum x) s) refl (inr (progress, c, queued))
    by_stream (Stops code s fits refused passing) =
        let least = base.client_least in
        let head = head_queued a.server.maximum false packet ahead flowing.2 in
        Deaf under_way (response_octets packet a.server.maximum code) [] over waits (ap (λ (x : Saying). sent_by packet a.server.maximum x) s) (refuses_by packet a.server.maximum a.client.maximum code fits (omega (arith, least)) head.put.1 refused)
    by_stream (Stores s none final) = absurd (let never : false ≡ true = final in cc)

-- ABORT or DISCONNECT itself
hear_leave : (a : Pair) (answers : List Answer) (under_way : Bool) → Base a → a.ended ≡ true → a.client.awaited ≡ Some (leave_request under_way) → ((heard_with a.server (leave_packet under_way) answers).saying ≡ saying.NoMemory → ⊥) → Stage (after_hearing a (leave_packet under_way) answers [] [])
hear_leave a answers under_way base over waits memory =
    let least = base.client_least in
    let said = leave_heard a.server under_way answers base.server_least memory in
    Parted under_way (response_octets (leave_packet under_way) a.server.maximum said.0) over waits refl (ap (λ (s : Saying). sent_by (leave_packet under_way) a.server.maximum s) said.1)
    (leave_answered under_way a.server.maximum a.client.maximum said.0 said.2 (omega (arith, least)))

rest_of : (x y : List ℕ) (xs ys : List (List ℕ)) → x ∷ xs ≡ y ∷ ys → xs ≡ ys
rest_of x y xs ys e = cc

hear_parts : (a : Pair) (packet : List ℕ) (answers : List Answer) (rest : List (List ℕ)) (under_way : Bool) (ahead : List (List ℕ)) → Base a → a.ended ≡ true → a.client.awaited ≡ Some (leave_request under_way) → ((heard_with a.server packet answers).saying ≡ saying.NoMemory → ⊥)
    → Ahead a.server.maximum a.server.course ahead → ahead ++ leave_packet under_way ∷ [] ≡ packet ∷ rest → Stage (after_hearing a packet answers rest [])
hear_parts a packet answers rest under_way [] base over waits memory row e =
    let same : leave_packet under_way ≡ packet = first_of (leave_packet under_way) packet [] rest e in
    subst (λ (rs : List (List ℕ)). Stage (after_hearing a packet answers rs [])) (rest_of (leave_packet under_way) packet [] rest e)
    (subst (λ (x : List ℕ). ((heard_with a.server x answers).saying ≡ saying.NoMemory → ⊥) → Stage (after_hearing a x answers [] [])) same (hear_leave a answers under_way base over waits) memory)
hear_parts a packet answers rest under_way (first ∷ ahead) base over waits memory row e =
    subst (λ (rs : List (List ℕ)). Stage (after_hearing a packet answers rs [])) (rest_of first packet (ahead ++ leave_packet under_way ∷ []) rest e)
    (hear_ahead a packet answers under_way ahead base over waits memory (subst (λ (x : List ℕ). Ahead a.server.maximum a.server.course (x ∷ ahead)) (first_of first packet (ahead ++ leave_packet under_way ∷ []) rest e) row))

-- what the server says comes behind the responses that were under way
heard_after : (a b : Pair) (responses : List (List ℕ)) (h : Hears a b) → a.responses ≡ responses → Stage (after_hearing a h.packet h.answers h.rest responses) → Stage b
heard_after a b responses h answers stage = subst Stage (sym h.rest_is) (subst (λ (rs : List (List ℕ)). Stage (after_hearing a h.packet h.answers h.rest rs)) (sym answers) stage)

hears_stage : (a b : Pair) → Base a → Stage a → Hears a b → Stage b
hears_stage a b base (Asked r packet waits asks answers suits none) h =
    let same : packet ≡ h.packet = first_of packet h.packet [] h.rest (sym asks ∙ h.next_is) in
    let over : h.rest ≡ [] = last_of packet h.packet h.rest (sym asks ∙ h.next_is) in
    heard_after a b [] h answers
    (subst (λ (rs : List (List ℕ)). Stage (after_hearing a h.packet h.answers rs [])) (sym over)
    (hear_asked a h.packet (past_with a h.packet h.answers) h.answers r base waits (subst (Suits r a.client a.server) same suits) (facts_of a h.packet h.answers base none h.memory)))
hears_stage a b base (Replied r s waits waiting asks answers means goes) h = absurd (no_packet h.packet h.rest a.requests asks h.next_is)
hears_stage a b base (Idle waits asks answers agrees none) h = absurd (no_packet h.packet h.rest a.requests asks h.next_is)
hears_stage a b base (Streams final progress waits more queued answers course none) h =
    let least = base.client_least in
    heard_after a b [] h answers
    (hear_stream a h.packet h.answers h.rest final progress base (record { waits = waits; more = more; least = omega (arith, least) }) course (subst (Queued a.server.maximum final) h.next_is queued) none h.memory)
hears_stage a b base (Stopped final s waits more answers over refuses) h =
    let passed = passed_heard a.server h.packet h.answers final h.rest (subst (Over a.server.maximum final a.server.course) h.next_is over) in
    heard_after a b (s ∷ []) h answers (Stopped final s waits more (ap (λ (x : Saying). s ∷ sent_by h.packet a.server.maximum x) passed.silent) passed.over refuses)
hears_stage a b base (Mute waiting asks answers) h = absurd (no_packet h.packet h.rest a.requests asks h.next_is)
hears_stage a b base (Quits final over waits answers passing) h =
    let passed = passed_heard a.server h.packet h.answers final h.rest (subst (Over a.server.maximum final a.server.course) h.next_is passing) in
    heard_after a b [] h answers (Quits final over waits (ap (λ (x : Saying). sent_by h.packet a.server.maximum x) passed.silent) passed.over)
hears_stage a b base (Parts under_way ahead over waits answers asks row) h = heard_after a b [] h answers (hear_parts a h.packet h.answers h.rest under_way ahead base over waits h.memory row (sym asks ∙ h.next_is))
hears_stage a b base (Parted under_way s over waits asks answers answer) h = absurd (no_packet h.packet h.rest a.requests asks h.next_is)
hears_stage a b base (Deaf under_way s others over waits answers refuses) h =
    heard_after a b (s ∷ others) h answers (Deaf under_way s (others ++ sent_by h.packet a.server.maximum (heard_with a.server h.packet h.answers).saying) over waits refl refuses)

-- each response states the server's maximum
both_state : (own : ℕ) (xs ys : List (List ℕ)) → AllByRecursion (States own) xs → AllByRecursion (States own) ys → AllByRecursion (States own) (xs ++ ys)
both_state own [] ys all more = more
both_state own (x ∷ xs) ys all more = (all.0, both_state own xs ys all.1 more)

sent_states : (packet : List ℕ) (own : ℕ) (said : Saying) → own < 2 ^ 16 → AllByRecursion (States own) (sent_by packet own said)
sent_states packet own (saying.Response code) fits = (said_states packet own (saying.Response code) fits, tt)
sent_states packet own (saying.Confirmation code) fits = (said_states packet own (saying.Confirmation code) fits, tt)
sent_states packet own saying.Silence fits = tt
sent_states packet own saying.NoMemory fits = tt

hears_base : (a b : Pair) → Base a → Hears a b → Base b
hears_base a b base h =
    subst Base (sym h.rest_is) (record {
      stands = stands_on h.answers a.past a.server h.packet base.stands;
      client_least = base.client_least;
      server_least = base.server_least;
      server_most = base.server_most;
      stated = both_state a.server.maximum a.responses (sent_by h.packet a.server.maximum (heard_with a.server h.packet h.answers).saying) base.stated (sent_states h.packet a.server.maximum (heard_with a.server h.packet h.answers).saying base.server_most);
      limit_least = base.limit_least;
      bounded = base.bounded;
    })

-- ---- any moves

pub record Standing (p : Pair) : Type 0 where
  pub base : Base p
  pub stage : Stage p

-- a PUT is that of an object whose PUTs were said so far
pub moves_on : (name : List ℕ) (size : ℕ) (content : Option (List Object)) (a b : Pair) → length (units_in name) ≤ 100 → size < 2 ^ 32 → (a.ended ≡ false → is_waiting a.client.awaited ≡ false → (said : List (List ℕ)) × HasPut name size said a.client content)
    → Standing a → Move name size content a b → Standing b
moves_on name size content a b few small said standing (Putting p) =
    let has = said p.goes_on p.puts.none_waits in
    record { base = puts_base name size content a b standing.base p; stage = puts_stage name size content has.0 a b few small standing.base standing.stage has.1 p }
moves_on name size content a b few small said standing (Leaving l) = record { base = leaves_base a b standing.base l; stage = leaves_stage a b standing.stage l }
moves_on name size content a b few small said standing (Hearing h) = record { base = hears_base a b standing.base h; stage = hears_stage a b standing.base standing.stage h }
moves_on name size content a b few small said standing (Taking t) = record { base = takes_base a b standing.base t; stage = takes_stage a b standing.stage t }
moves_on name size content a b few small said standing (Ending t) = record { base = ends_base a b standing.base t; stage = ends_stage a b standing.stage t }

pub starts : (maximum own : ℕ) (wanted offered : Bool) → 255 ≤ maximum → 255 ≤ own → own < 2 ^ 16 → Standing (connecting maximum wanted own offered)
starts maximum own wanted offered least own_least own_most = record {
  base = record { stands = record { progress = refl; holds = tt }; client_least = least; server_least = own_least; server_most = own_most; stated = tt; limit_least = least; bounded = inl refl };
  stage = Asked Connect (packet_octets (bare 0x80 (connect_fields maximum))) refl refl refl (refl, refl, refl) refl;
}
