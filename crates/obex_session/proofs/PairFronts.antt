-- Two sessions over a pipe of packets: what the client asked, and what the server heard of it; and the laws of pairs.
use Rattle.std.proofs.Common.{Bool, true, false, cond, eqb, get_or, ◌≡◌, ℕ, ◌<◌, ◌≤◌, ◌^◌, ◌||◌, ◌⊎◌, inl, inr, List, [], ◌∷◌, ◌++◌, length, take, Option, Some, None, Result, Ok, Err, refl, sym, ap, subst, ◌∙◌, arith, append_assoc}
use Rattle.std.specs.Prelude.{is_some}
use Rattle.std.specs.List.{AllByRecursion}
use Rattle.std.proofs.lemmas.Bool.{cond-false}
use Rattle.std.proofs.lemmas.List.{append-nil, map-append, take_at}
use Rattle.bt_base.specs.Objects.{Object, octets_of}
use Rattle.obex_headers.specs.declared.fault.ObexRefusal.{ObexRefusal}
use Rattle.obex_headers.specs.declared.packet.Phase.TheVariants as phase
use Rattle.obex_headers.specs.Packets.{PlainHeader, PlainPacket}
use Rattle.obex_headers.specs.Reading.{packet_in}
use Rattle.obex_headers.specs.Runs.{heard, put_of, put_in, puts, spelled}
use Rattle.obex_session.specs.declared.asking.Request.{Request}
use Rattle.obex_session.specs.declared.asking.Request.TheVariants.{Connect, FirstPut, Put, Stream, FinalPut, Abort, Disconnect}
use Rattle.obex_session.specs.declared.client.Answered.TheVariants.{Go, Done, Refused, Srmp}
use Rattle.obex_session.specs.declared.client.PutNext.TheVariants.{Packet}
use Rattle.obex_session.specs.Marks.{marks_of}
use Rattle.obex_session.specs.Past.{Heard}
use Rattle.obex_session.specs.Asking.{Asking, fresh, asks_for, phase_of, answer_read, answer_to, after_answer}
use Rattle.obex_session.specs.NextPut.{is_waiting, PutsPacket}
use Rattle.obex_session.specs.ObjectPuts.{front_packets, HasPut, IsWhole}
use Rattle.obex_session.specs.Pairs.{Pair, connect_packet, connecting, asks_also, Puts, Leaves, Takes, Ends, Hears, past_packets, Move, Putting, Leaving, Hearing, Taking, Ending, Goes, leave_packet, pair_stored, MeansWell, PairsMeanWell, ResponsesAreAwaited, StoresOnce, PairsHearFronts}
use Rattle.obex_session.specs.Pushes.{IsNoPut, Fits}
use Rattle.obex_session.specs.PutPackets.{units_in, head_of, put_packet, packets_from}
use Rattle.obex_session.specs.Views.{is_final_put}
use Rattle.obex_session.proofs.ObjectLaws.{puts_in_order, all-more}
use Rattle.obex_session.proofs.OneNameLaws.{Unnamed, OneName, Either, stores_or_not, one_front}
use Rattle.obex_session.proofs.PairLaws.{Standing, starts, moves_on}
use Rattle.obex_session.proofs.PairReplies.{code_is_first}
use Rattle.obex_session.proofs.PairStages.{stage_says, stage_awaits}
use Rattle.obex_session.proofs.PairTakes.{stays_read, keeps_read}
use Rattle.obex_session.proofs.PushLaws.{front_heard, nones_heard, fronts_are_pushed}
use Rattle.obex_session.proofs.PutPacketLaws.{all_heard}

-- ---- packets that are no PUT

put_of_code : (read : Result PlainPacket ObexRefusal) (code : ℕ) → ((packet : PlainPacket) → read ≡ Ok packet → packet.code ≡ code) → (eqb code 0x02 || eqb code 0x82) ≡ false → put_of read ≡ None
put_of_code (Ok packet) code is other = cond-false _ (Some packet) None (ap (λ (n : ℕ). eqb n 0x02 || eqb n 0x82) (is packet refl) ∙ other)
put_of_code (Err refusal) code is other = refl

no_put_by : (octets : List ℕ) → (eqb (get_or octets 0 0) 0x02 || eqb (get_or octets 0 0) 0x82) ≡ false → IsNoPut octets
no_put_by octets other = put_of_code (packet_in phase.Request 65535 octets) (get_or octets 0 0) (λ packet e. code_is_first 65535 octets packet e) other

connect_no_put : (maximum : ℕ) → IsNoPut (connect_packet maximum)
connect_no_put maximum = no_put_by (connect_packet maximum) refl

leave_no_put : (under_way : Bool) → IsNoPut (leave_packet under_way)
leave_no_put true = no_put_by (leave_packet true) refl
leave_no_put false = no_put_by (leave_packet false) refl

-- ---- what was asked

abbrev HasSaid : List ℕ → ℕ → Bool → Option (List Object) → List (List ℕ) → Type 0
HasSaid name size wanted content said = IsWhole wanted name size said content ⊎ ((session : Asking) × (session.wanted ≡ wanted) × HasPut name size said session content)

record Told (name : List ℕ) (size : ℕ) (content : Option (List Object)) (p : Pair) : Type 0 where
  said : List (List ℕ)
  after : List (List ℕ)
  front : past_packets p.past ++ p.requests ≡ p.asked
  in_order : p.asked ≡ connect_packet p.client.maximum ∷ (said ++ after)
  no_puts : AllByRecursion IsNoPut after
  puts : HasSaid name size p.client.wanted content said
  goes_on : p.ended ≡ false → is_final_put p.client.awaited ≡ false → (after ≡ []) × HasPut name size said p.client content

one_more : (heard requests asked : List (List ℕ)) (packet : List ℕ) → heard ++ requests ≡ asked → heard ++ (requests ++ packet ∷ []) ≡ asked ++ packet ∷ []
one_more heard requests asked packet e = sym (append_assoc heard requests (packet ∷ [])) ∙ ap (λ (xs : List (List ℕ)). xs ++ packet ∷ []) e

put_more : (first packet : List ℕ) (said after asked : List (List ℕ)) → asked ≡ first ∷ (said ++ after) → after ≡ [] → asked ++ packet ∷ [] ≡ first ∷ ((said ++ packet ∷ []) ++ [])
put_more first packet said after asked e none =
    ap (λ (xs : List (List ℕ)). xs ++ packet ∷ []) (e ∙ ap (λ (xs : List (List ℕ)). first ∷ (said ++ xs)) none ∙ ap (λ (xs : List (List ℕ)). first ∷ xs) (append-nil said))
    ∙ ap (λ (xs : List (List ℕ)). first ∷ xs) (sym (append-nil (said ++ packet ∷ [])))

leave_more : (first packet : List ℕ) (said after asked : List (List ℕ)) → asked ≡ first ∷ (said ++ after) → asked ++ packet ∷ [] ≡ first ∷ (said ++ (after ++ packet ∷ []))
leave_more first packet said after asked e = ap (λ (xs : List (List ℕ)). xs ++ packet ∷ []) e ∙ ap (λ (xs : List (List ℕ)). first ∷ xs) (append_assoc said after (packet ∷ []))

never_both : (b : Bool) → b ≡ true → b ≡ false → ⊥
never_both true e f = cc
never_both false e f = cc

free_no_final : (awaited : Option Request) → is_waiting awaited ≡ false → is_final_put awaited ≡ false
free_no_final None e = refl
free_no_final (Some Connect) e = refl
free_no_final (Some FirstPut) e = refl
free_no_final (Some Put) e = refl
free_no_final (Some Stream) e = refl
free_no_final (Some FinalPut) e = absurd cc
free_no_final (Some Abort) e = refl
free_no_final (Some Disconnect) e = refl

-- ---- the client puts a packet

put_told : (name : List ℕ) (size : ℕ) (content : Option (List Object)) (a : Pair) (client : Asking) (limit : ℕ) (room room' : List ℕ) (count : ℕ) (final : Bool) → length (units_in name) ≤ 100 → size < 2 ^ 32 → limit < 2 ^ 15 → 255 ≤ limit → 255 ≤ a.client.limit
    → (told : Told name size content a) → (told.after ≡ []) × HasPut name size told.said a.client content → PutsPacket a.client client name size limit content room room' count final → Told name size content (asks_also client false (take count room') a)
put_told name size content a client limit room room' count true few small most least own told going puts =
    let whole = puts_in_order.goes_on name size limit told.said a.client client content room room' (Packet count true) few small most least own going.1 puts in
    let maximum : client.maximum ≡ a.client.maximum = ap (λ (x : Asking). x.maximum) puts.session_is in
    record {
      said = told.said ++ take count room' ∷ [];
      after = [];
      front = one_more (past_packets a.past) a.requests a.asked (take count room') told.front;
      in_order = put_more (connect_packet a.client.maximum) (take count room') told.said told.after a.asked told.in_order going.0 ∙ ap (λ (n : ℕ). connect_packet n ∷ ((told.said ++ take count room' ∷ []) ++ [])) (sym maximum);
      no_puts = tt;
      puts = inl whole;
      goes_on = λ on free. absurd (never_both (is_final_put client.awaited) (ap (λ (x : Asking). is_final_put x.awaited) puts.session_is) free);
    }
put_told name size content a client limit room room' count false few small most least own told going puts =
    let has = puts_in_order.goes_on name size limit told.said a.client client content room room' (Packet count false) few small most least own going.1 puts in
    let maximum : client.maximum ≡ a.client.maximum = ap (λ (x : Asking). x.maximum) puts.session_is in
    record {
      said = told.said ++ take count room' ∷ [];
      after = [];
      front = one_more (past_packets a.past) a.requests a.asked (take count room') told.front;
      in_order = put_more (connect_packet a.client.maximum) (take count room') told.said told.after a.asked told.in_order going.0 ∙ ap (λ (n : ℕ). connect_packet n ∷ ((told.said ++ take count room' ∷ []) ++ [])) (sym maximum);
      no_puts = tt;
      puts = inr (client, refl, has);
      goes_on = λ on free. (refl, has);
    }

puts_told : (name : List ℕ) (size : ℕ) (content : Option (List Object)) (a b : Pair) → length (units_in name) ≤ 100 → size < 2 ^ 32 → 255 ≤ a.client.limit → Told name size content a → Puts name size content a b → Told name size content b
puts_told name size content a b few small own told p =
    subst (Told name size content) (sym p.rest_is)
    (put_told name size content a b.client p.limit p.room p.room' p.count p.final few small p.most p.least own told (told.goes_on p.goes_on (free_no_final a.client.awaited p.puts.none_waits)) p.puts)

-- ---- the others

leaves_told : (name : List ℕ) (size : ℕ) (content : Option (List Object)) (a b : Pair) → Told name size content a → Leaves a b → Told name size content b
leaves_told name size content a b told l =
    let under_way = is_some a.client.put in
    subst (Told name size content) (sym l.rest_is) (record {
      said = told.said;
      after = told.after ++ leave_packet under_way ∷ [];
      front = one_more (past_packets a.past) a.requests a.asked (leave_packet under_way) told.front;
      in_order = leave_more (connect_packet a.client.maximum) (leave_packet under_way) told.said told.after a.asked told.in_order;
      no_puts = all-more IsNoPut told.after (leave_packet under_way) told.no_puts (leave_no_put under_way);
      puts = told.puts;
      goes_on = λ on free. absurd cc;
    })

heard_more : (past : List Heard) (packet : List ℕ) (failed : Bool) (requests rest asked : List (List ℕ)) → requests ≡ packet ∷ rest → past_packets past ++ requests ≡ asked → past_packets (past ++ (packet, failed) ∷ []) ++ rest ≡ asked
heard_more past packet failed requests rest asked next front =
    ap (λ (xs : List (List ℕ)). xs ++ rest) (map-append (λ (heard : Heard). heard.0) past ((packet, failed) ∷ [])) ∙ append_assoc (past_packets past) (packet ∷ []) rest ∙ ap (λ (xs : List (List ℕ)). past_packets past ++ xs) (sym next) ∙ front

hears_told : (name : List ℕ) (size : ℕ) (content : Option (List Object)) (a b : Pair) → Told name size content a → Hears a b → Told name size content b
hears_told name size content a b told h =
    subst (Told name size content) (sym h.rest_is) (record {
      said = told.said;
      after = told.after;
      front = heard_more a.past h.packet _ a.requests h.rest a.asked h.next_is told.front;
      in_order = told.in_order;
      no_puts = told.no_puts;
      puts = told.puts;
      goes_on = told.goes_on;
    })

said_kept : (name : List ℕ) (size : ℕ) (content : Option (List Object)) (said : List (List ℕ)) (wanted wanted' : Bool) → wanted' ≡ wanted → HasSaid name size wanted content said → HasSaid name size wanted' content said
said_kept name size content said wanted wanted' e has = subst (λ (w : Bool). HasSaid name size w content said) (sym e) has

taken_told : (name : List ℕ) (size : ℕ) (content : Option (List Object)) (a : Pair) (ended : Bool) (request : Request) (response : List ℕ) (rest : List (List ℕ)) → (told : Told name size content a)
    → (ended ≡ false → (told.after ≡ []) × HasPut name size told.said (after_answer a.client request response) content) → Told name size content (record a { client = after_answer a.client request response; ended = ended; responses = rest })
taken_told name size content a ended request response rest told goes =
    let stays = stays_read a.client request (packet_in (phase_of request) a.client.maximum response) in
    record {
      said = told.said;
      after = told.after;
      front = told.front;
      in_order = told.in_order ∙ ap (λ (n : ℕ). connect_packet n ∷ (told.said ++ told.after)) (sym stays.maximum);
      no_puts = told.no_puts;
      puts = said_kept name size content told.said a.client.wanted (after_answer a.client request response).wanted stays.wanted told.puts;
      goes_on = λ on free. goes on;
    }

-- the success of the final PUT is no such answer
final_by : (parameters matches : Bool) (code : ℕ) → cond parameters Srmp (cond matches Done (Refused code)) ≡ Go → ⊥
final_by true matches code e = cc
final_by false true code e = cc
final_by false false code e = cc

final_goes : (read : Result PlainPacket ObexRefusal) → answer_read FinalPut read ≡ Go → ⊥
final_goes (Ok packet) e = final_by (marks_of packet.headers).parameters (eqb packet.code 0xA0) packet.code e
final_goes (Err refusal) e = cc

go_no_final : (request : Request) (maximum : ℕ) (response : List ℕ) → answer_to maximum request response ≡ Go → is_final_put (Some request) ≡ false
go_no_final Connect maximum response e = refl
go_no_final FirstPut maximum response e = refl
go_no_final Put maximum response e = refl
go_no_final Stream maximum response e = refl
go_no_final FinalPut maximum response e = absurd (final_goes (packet_in phase.Response maximum response) e)
go_no_final Abort maximum response e = refl
go_no_final Disconnect maximum response e = refl

takes_told : (name : List ℕ) (size : ℕ) (content : Option (List Object)) (a b : Pair) → Told name size content a → Takes a b → Told name size content b
takes_told name size content a b told t =
    let read = packet_in (phase_of t.request) a.client.maximum t.response in
    subst (Told name size content) (sym t.rest_is) (taken_told name size content a a.ended t.request t.response t.rest told (λ on.
    let going = told.goes_on on (ap is_final_put t.waits ∙ go_no_final t.request a.client.maximum t.response t.goes) in
    (going.0, puts_in_order.stays name size told.said a.client (after_answer a.client t.request t.response) content (keeps_read a.client t.request read t.goes) (stays_read a.client t.request read).wanted going.1)))

ends_told : (name : List ℕ) (size : ℕ) (content : Option (List Object)) (a b : Pair) → Told name size content a → Ends a b → Told name size content b
ends_told name size content a b told t = subst (Told name size content) (sym t.rest_is) (taken_told name size content a true t.request t.response t.rest told (λ on. absurd cc))

-- ---- any moves

record Holds (name : List ℕ) (size : ℕ) (content : Option (List Object)) (p : Pair) : Type 0 where
  standing : Standing p
  told : Told name size content p

moves : (name : List ℕ) (size : ℕ) (content : Option (List Object)) (a b : Pair) → length (units_in name) ≤ 100 → size < 2 ^ 32 → Holds name size content a → Move name size content a b → Told name size content b
moves name size content a b few small holds (Putting p) = puts_told name size content a b few small holds.standing.base.limit_least holds.told p
moves name size content a b few small holds (Leaving l) = leaves_told name size content a b holds.told l
moves name size content a b few small holds (Hearing h) = hears_told name size content a b holds.told h
moves name size content a b few small holds (Taking t) = takes_told name size content a b holds.told t
moves name size content a b few small holds (Ending t) = ends_told name size content a b holds.told t

goes_through : (name : List ℕ) (size : ℕ) (content : Option (List Object)) (others : List Pair) (a b : Pair) → length (units_in name) ≤ 100 → size < 2 ^ 32 → Holds name size content a → Goes name size content a others b → Holds name size content b
goes_through name size content [] a b few small holds same = subst (Holds name size content) (sym same) holds
goes_through name size content (next ∷ others) a b few small holds goes =
    let told = holds.told in
    goes_through name size content others next b few small (record {
      standing = moves_on name size content a next few small (λ on free. (told.said, (told.goes_on on (free_no_final a.client.awaited free)).1)) holds.standing goes.0;
      told = moves name size content a next few small holds goes.0;
    }) goes.1

begins : (name : List ℕ) (size : ℕ) (content : Option (List Object)) (maximum own : ℕ) (wanted offered : Bool) → 255 ≤ maximum → 255 ≤ own → own < 2 ^ 16 → Holds name size content (connecting maximum wanted own offered)
begins name size content maximum own wanted offered least own_least own_most =
    let has = puts_in_order.begins name size (asks_for Connect (fresh maximum wanted)) content refl in
    record {
      standing = starts maximum own wanted offered least own_least own_most;
      told = record { said = []; after = []; front = refl; in_order = refl; no_puts = tt; puts = inr (asks_for Connect (fresh maximum wanted), refl, has); goes_on = λ on free. (refl, has) };
    }

holds_throughout : (name : List ℕ) (size : ℕ) (content : Option (List Object)) (maximum own : ℕ) (wanted offered : Bool) (others : List Pair) (b : Pair) → length (units_in name) ≤ 100 → size < 2 ^ 32 → 255 ≤ maximum → 255 ≤ own → own < 2 ^ 16
    → Goes name size content (connecting maximum wanted own offered) others b → Holds name size content b
holds_throughout name size content maximum own wanted offered others b few small least own_least own_most goes =
    goes_through name size content others (connecting maximum wanted own offered) b few small (begins name size content maximum own wanted offered least own_least own_most) goes

-- ---- one Name

unnamed_body : (final : Bool) (part : List ℕ) → Unnamed (Some (put_packet final [] part))
unnamed_body true part = refl
unnamed_body false part = refl

unnamed_fronts : (parts : List (List ℕ)) → AllByRecursion Unnamed (puts (front_packets [] parts))
unnamed_fronts [] = tt
unnamed_fronts (part ∷ parts) = (unnamed_body false part, unnamed_fronts parts)

unnamed_packets : (parts : List (List ℕ)) (last : List ℕ) → AllByRecursion Unnamed (puts (packets_from [] parts last))
unnamed_packets [] last = (unnamed_body true last, tt)
unnamed_packets (part ∷ parts) last = (unnamed_body false part, unnamed_packets parts last)

unnamed_nones : (ns : List (Option PlainPacket)) → AllByRecursion (λ p. p ≡ None) ns → AllByRecursion Unnamed ns
unnamed_nones [] all = tt
unnamed_nones (p ∷ ns) all = (subst Unnamed (sym all.0) tt, unnamed_nones ns all.1)

unnamed_both : (xs ys : List (Option PlainPacket)) → AllByRecursion Unnamed xs → AllByRecursion Unnamed ys → AllByRecursion Unnamed (xs ++ ys)
unnamed_both [] ys all more = more
unnamed_both (x ∷ xs) ys all more = (all.0, unnamed_both xs ys all.1 more)

fronts_named : (head : List PlainHeader) (parts : List (List ℕ)) (ns : List (Option PlainPacket)) → AllByRecursion Unnamed ns → OneName (puts (front_packets head parts) ++ ns)
fronts_named head [] [] none = tt
fronts_named head [] (p ∷ ns) none = inr none.1
fronts_named head (part ∷ parts) ns none = inr (unnamed_both (puts (front_packets [] parts)) ns (unnamed_fronts parts) none)

packets_named : (head : List PlainHeader) (parts : List (List ℕ)) (last : List ℕ) (ns : List (Option PlainPacket)) → AllByRecursion Unnamed ns → OneName (puts (packets_from head parts last) ++ ns)
packets_named head [] last ns none = inr none
packets_named head (part ∷ parts) last ns none = inr (unnamed_both (puts (packets_from [] parts last)) ns (unnamed_packets parts last) none)

said_named : (name : List ℕ) (size : ℕ) (content : Option (List Object)) (wanted : Bool) (said after : List (List ℕ)) → HasSaid name size wanted content said → AllByRecursion IsNoPut after → OneName (heard said ++ heard after)
said_named name size content wanted said after (inl whole) none =
    let head = head_of wanted (units_in name) size in
    subst (λ (ps : List (Option PlainPacket)). OneName (ps ++ heard after)) (sym (ap heard whole.said_is ∙ all_heard head whole.parts whole.last whole.sound))
    (packets_named head whole.parts whole.last (heard after) (unnamed_nones (heard after) (nones_heard after none)))
said_named name size content wanted said after (inr part) none =
    let head = head_of part.0.wanted (units_in name) size in
    let has = part.2 in
    subst (λ (ps : List (Option PlainPacket)). OneName (ps ++ heard after)) (sym (ap heard has.said_is ∙ front_heard head has.parts has.sound))
    (fronts_named head has.parts (heard after) (unnamed_nones (heard after) (nones_heard after none)))

heard_named : (name : List ℕ) (size : ℕ) (content : Option (List Object)) (p : Pair) → Told name size content p → OneName (heard (past_packets p.past))
heard_named name size content p told =
    let all : heard (past_packets p.past) ++ heard p.requests ≡ put_in (connect_packet p.client.maximum) ∷ (heard told.said ++ heard told.after) =
    sym (map-append put_in (past_packets p.past) p.requests) ∙ ap heard (told.front ∙ told.in_order) ∙ ap (λ (ps : List (Option PlainPacket)). put_in (connect_packet p.client.maximum) ∷ ps) (map-append put_in told.said told.after) in
    one_front (heard (past_packets p.past)) (heard p.requests)
    (subst OneName (sym all) (inl (connect_no_put p.client.maximum, said_named name size content p.client.wanted told.said told.after told.puts told.no_puts)))

-- ---- what is stored

spells_by : (name : List ℕ) (size : ℕ) (wanted : Bool) (first : List ℕ) (said after packets : List (List ℕ)) (objects : List Object) (object : List ℕ) (n : ℕ) → IsNoPut first → AllByRecursion IsNoPut after → Fits name size → HasSaid name size wanted (Some objects) said
    → octets_of name objects ≡ Some object → length object ≡ size → packets ≡ take n (first ∷ (said ++ after)) → Either (spelled packets) (record { name = units_in name; octets = object } ∷ [])
spells_by name size wanted first said after packets objects object n none none' fits (inl whole) there len is =
    elim (fronts_are_pushed.whole n (first ∷ []) said after wanted name size objects object (none, tt) none' fits whole there len) [ inl few ↦ inl (ap spelled is ∙ few.1) | inr more ↦ inr (ap spelled is ∙ more.1) ]
spells_by name size wanted first said after packets objects object n none none' fits (inr part) there len is = inl (ap spelled is ∙ fronts_are_pushed.part n (first ∷ []) said after name size part.0 (Some objects) (none, tt) none' fits part.2)

either_two : (stored spelling : List Object) (object : Object) → Either stored spelling → Either spelling (object ∷ []) → Either stored (object ∷ [])
either_two stored spelling object (inl none) more = inl none
either_two stored spelling object (inr same) (inl none) = inl (same ∙ none)
either_two stored spelling object (inr same) (inr one) = inr (same ∙ one)

one_of : (stored : List Object) (object : Object) → Either stored (object ∷ []) → length stored ≡ 1 → stored ≡ object ∷ []
one_of stored object (inl none) len = absurd (let never : 0 ≡ 1 = sym (ap (λ (os : List Object). length os) none) ∙ len in omega (arith, never))
one_of stored object (inr one) len = one

stores_once : (name : List ℕ) (size : ℕ) (content : Option (List Object)) (p : Pair) (objects : List Object) (object : List ℕ) → Holds name size content p → Fits name size → content ≡ Some objects → octets_of name objects ≡ Some object → length object ≡ size
    → StoresOnce (record { name = units_in name; octets = object }) p
stores_once name size content p objects object holds fits content_is there len =
    let told = holds.told in
    let base = holds.standing.base in
    let heard_all = past_packets p.past in
    let n = length heard_all in
    let front : heard_all ≡ take n (connect_packet p.client.maximum ∷ (told.said ++ told.after)) = sym (take_at heard_all p.requests n refl) ∙ ap (take n) (told.front ∙ told.in_order) in
    let spells = spells_by name size p.client.wanted (connect_packet p.client.maximum) told.said told.after heard_all objects object n (connect_no_put p.client.maximum) told.no_puts fits
    (subst (λ (c : Option (List Object)). HasSaid name size p.client.wanted c told.said) content_is told.puts) there len front in
    let stored = either_two (pair_stored p) (spelled heard_all) (record { name = units_in name; octets = object }) (stores_or_not p.server.maximum p.past base.server_least base.server_most (heard_named name size content p told)) spells in
    record {
      spells = spells;
      once = stored;
      done = λ request response rest waits next answer.
          one_of (pair_stored p) (record { name = units_in name; octets = object }) stored (subst (MeansWell (length (pair_stored p))) answer (stage_says p holds.standing.stage request response rest waits next));
    }

-- ---- the laws

pub pairs_mean_well : PairsMeanWell
pairs_mean_well name size content maximum own wanted offered others b few small least own_least own_most goes request response rest w e =
    stage_says b (holds_throughout name size content maximum own wanted offered others b few small least own_least own_most goes).standing.stage request response rest w e

pub responses_are_awaited : ResponsesAreAwaited
responses_are_awaited name size content maximum own wanted offered others b few small least own_least own_most goes response rest e =
    stage_awaits b (holds_throughout name size content maximum own wanted offered others b few small least own_least own_most goes).standing.stage response rest e

pub pairs_hear_fronts : PairsHearFronts
pairs_hear_fronts name size content maximum own wanted offered others b few small least own_least own_most goes =
    let holds = holds_throughout name size content maximum own wanted offered others b few small least own_least own_most goes in
    let told = holds.told in
    record {
      said = told.said;
      after = told.after;
      front = told.front;
      in_order = told.in_order;
      no_puts = told.no_puts;
      puts = told.puts;
      stores = λ objects object fits content_is there len. stores_once name size content b objects object holds fits content_is there len;
    }
