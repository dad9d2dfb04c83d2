-- The packets of a session and the requests of a search are octets.
use Rattle.std.proofs.Common.{Bool, true, false, cond, eqb, leb, suc, ◌&&◌, ◌+◌, ◌-◌, ◌*◌, ◌/◌, ◌%◌, ◌<◌, ◌≡◌, ℕ, List, [], ◌∷◌, ◌++◌, length, take, drop, Option, Some, None, arith, refl}
use Rattle.std.specs.Prelude.{nat_lt, slice_index}
use Rattle.std.specs.List.{AllByRecursion, flat_map}
use Rattle.std.proofs.lemmas.Bool.{and_parts, eqb-true, leb-true, ltb-true}
use Rattle.pair_laws.specs.bt_base.specs.Octets.{IsOctets, be16, be32}
use Rattle.pair_laws.specs.obex_headers.specs.Packets.{PlainValue, Text, Octets, One, Four, PlainHeader, PlainPacket, header_octets, value_octets, headers_octets, packet_octets, packet_len, text_octets}
use Rattle.pair_laws.specs.obex_headers.proofs.Numbers.{IsOctets-drop}
use Rattle.pair_laws.specs.obex_session.specs.PutPackets.{head_with, body_header, put_packet, units_in, ahead_with}
use Rattle.pair_laws.specs.obex_session.specs.Responses.{connect_fields}
use Rattle.pair_laws.specs.sdp_elements.specs.Exchange.{continuation_in}
use Rattle.pair_laws.specs.sdp_elements.specs.Optional.{◌>>=◌}
use Rattle.pair_laws.specs.sdp_elements.specs.Pdus.{PlainPdu, states_length, pdu_in}
use Rattle.pair_laws.specs.sdp_elements.specs.Questions.{pattern_octets, ranges_octets}
use Rattle.pair_laws.specs.sdp_client.specs.declared.query.Stage.{Stage}
use Rattle.pair_laws.specs.sdp_client.specs.declared.query.Stage.TheVariants as stages
use Rattle.pair_laws.specs.sdp_client.specs.declared.reason.QueryReason.TheVariants.{TooLong}
use Rattle.pair_laws.specs.sdp_client.specs.Asking.{Asking, asked_pattern, asked_ranges, request_octets, request_parameters}
use Rattle.pair_laws.specs.sdp_client.specs.Hearing.{ended, after_whole, with_part, asks_on, when_said, after_said, after_when, after_reply}
use Rattle.pair_laws.specs.sdp_client.specs.Replies.{PlainPart, PlainSaid, Gives, Failed, Nothing, goes_on, counted_part, part_in, given, said_by, said_in, is_of_another}
use Rattle.request_laws.specs.SpellableClients.{IsState}
use Rattle.request_laws.proofs.SpellableParts.{none_octets, cons_octets, append_octets, three}

-- ---- numbers

pub be16_octets : (n : ℕ) → IsOctets (be16 n)
be16_octets n = three (n / 256 % 256) (n % 256) [] (omega arith) (omega arith) none_octets

be32_octets : (n : ℕ) → IsOctets (be32 n)
be32_octets n = three (n / 16777216 % 256) (n / 65536 % 256) ((n / 256 % 256) ∷ (n % 256) ∷ []) (omega arith) (omega arith) (three (n / 256 % 256) (n % 256) [] (omega arith) (omega arith) none_octets)

-- octets, by a test that computes
abbrev pub all_small : List ℕ → Bool
all_small [] = true
all_small (x ∷ xs) = nat_lt x 256 && all_small xs

pub small_octets : (xs : List ℕ) → all_small xs ≡ true → IsOctets xs
small_octets [] is = none_octets
small_octets (x ∷ xs) is = let parts = and_parts (nat_lt x 256) (all_small xs) is in cons_octets x xs (ltb-true x 256 parts.0) (small_octets xs parts.1)

-- ---- packets

abbrev pub IsValueOctets : PlainValue → Type 0
IsValueOctets (Text octets) = IsOctets octets
IsValueOctets (Octets octets) = IsOctets octets
IsValueOctets (One octet) = octet < 256
IsValueOctets (Four number) = Unit {0}

abbrev pub IsHeaderOctets : PlainHeader → Type 0
IsHeaderOctets header = (header.id < 256) × IsValueOctets header.value

value_are_octets : (value : PlainValue) → IsValueOctets value → IsOctets (value_octets value)
value_are_octets (Text octets) is = append_octets (be16 (3 + length octets)) octets (be16_octets (3 + length octets)) is
value_are_octets (Octets octets) is = append_octets (be16 (3 + length octets)) octets (be16_octets (3 + length octets)) is
value_are_octets (One octet) is = cons_octets octet [] is none_octets
value_are_octets (Four number) is = be32_octets number

headers_are_octets : (headers : List PlainHeader) → AllByRecursion IsHeaderOctets headers → IsOctets (headers_octets headers)
headers_are_octets [] all = none_octets
headers_are_octets (header ∷ headers) all =
    append_octets (header_octets header) (headers_octets headers) (cons_octets header.id (value_octets header.value) all.0.0 (value_are_octets header.value all.0.1)) (headers_are_octets headers all.1)

pub packet_are_octets : (packet : PlainPacket) → packet.code < 256 → IsOctets packet.extra → AllByRecursion IsHeaderOctets packet.headers → IsOctets (packet_octets packet)
packet_are_octets packet code extra headers =
    cons_octets packet.code (be16 (packet_len packet) ++ (packet.extra ++ headers_octets packet.headers)) code
    (append_octets (be16 (packet_len packet)) (packet.extra ++ headers_octets packet.headers) (be16_octets (packet_len packet)) (append_octets packet.extra (headers_octets packet.headers) extra (headers_are_octets packet.headers headers)))

pub connect_are_octets : (maximum : ℕ) → IsOctets (connect_fields maximum)
connect_are_octets maximum = three 0x10 0x00 (be16 maximum) (omega arith) (omega arith) (be16_octets maximum)

units_are_octets : (units : List ℕ) → IsOctets (flat_map be16 units)
units_are_octets [] = none_octets
units_are_octets (unit ∷ units) = append_octets (be16 unit) (flat_map be16 units) (be16_octets unit) (units_are_octets units)

head_are_octets : (wanted : Bool) (text : List ℕ) (size : ℕ) → IsOctets text → AllByRecursion IsHeaderOctets (head_with wanted text size)
head_are_octets true text size is = ((omega arith, is), ((omega arith, tt), ((omega arith, omega arith), tt)))
head_are_octets false text size is = ((omega arith, is), ((omega arith, tt), tt))

ahead_are_octets : (wanted : Bool) (put : Option ℕ) (text : List ℕ) (size : ℕ) → IsOctets text → AllByRecursion IsHeaderOctets (ahead_with wanted put text size)
ahead_are_octets wanted None text size is = head_are_octets wanted text size is
ahead_are_octets wanted (Some place) text size is = tt

all_more : (headers : List PlainHeader) (header : PlainHeader) → AllByRecursion IsHeaderOctets headers → IsHeaderOctets header → AllByRecursion IsHeaderOctets (headers ++ header ∷ [])
all_more [] header all one = (one, tt)
all_more (first ∷ headers) header all one = (all.0, all_more headers header all.1 one)

put_with : (final : Bool) (ahead : List PlainHeader) (part : List ℕ) → AllByRecursion IsHeaderOctets ahead → IsOctets part → IsOctets (packet_octets (put_packet final ahead part))
put_with true ahead part all is = packet_are_octets (put_packet true ahead part) (omega arith) none_octets (all_more ahead (body_header true part) all (omega arith, is))
put_with false ahead part all is = packet_are_octets (put_packet false ahead part) (omega arith) none_octets (all_more ahead (body_header false part) all (omega arith, is))

pub put_are_octets : (final wanted : Bool) (put : Option ℕ) (name : List ℕ) (size : ℕ) (part : List ℕ) → IsOctets part → IsOctets (packet_octets (put_packet final (ahead_with wanted put (text_octets (units_in name)) size) part))
put_are_octets final wanted put name size part is =
    let text = append_octets (flat_map be16 (units_in name)) (be16 0) (units_are_octets (units_in name)) (be16_octets 0) in
    put_with final (ahead_with wanted put (text_octets (units_in name)) size) part (ahead_are_octets wanted put (text_octets (units_in name)) size text) is

-- ---- a search

pub request_are_octets : (asking : Asking) → IsState asking.continuation → IsOctets (request_octets asking)
request_are_octets asking state =
    let few = state.short in
    let parameters = request_parameters asking.continuation in
    let all : IsOctets parameters =
    append_octets (pattern_octets asked_pattern) (be16 256 ++ (ranges_octets asked_ranges ++ length asking.continuation ∷ asking.continuation)) (small_octets (pattern_octets asked_pattern) refl)
    (append_octets (be16 256) (ranges_octets asked_ranges ++ length asking.continuation ∷ asking.continuation) (be16_octets 256)
    (append_octets (ranges_octets asked_ranges) (length asking.continuation ∷ asking.continuation) (small_octets (ranges_octets asked_ranges) refl)
    (cons_octets (length asking.continuation) asking.continuation (omega (arith, few)) state.are_octets))) in
    cons_octets 6 (be16 asking.transaction ++ (be16 (length parameters) ++ parameters)) (omega arith)
    (append_octets (be16 asking.transaction) (be16 (length parameters) ++ parameters) (be16_octets asking.transaction) (append_octets (be16 (length parameters)) parameters (be16_octets (length parameters)) all))

abbrev IsSomeState : Option (List ℕ) → Type 0
IsSomeState None = Unit {0}
IsSomeState (Some continuation) = IsState continuation

abbrev IsSomePart : Option PlainPart → Type 0
IsSomePart None = Unit {0}
IsSomePart (Some part) = IsState part.continuation

abbrev IsSaidState : PlainSaid → Type 0
IsSaidState (Gives part) = IsState part.continuation
IsSaidState (Failed code) = Unit {0}
IsSaidState Nothing = Unit {0}

state_by : (b : Bool) (count : ℕ) (octets : List ℕ) → (leb count 16 && eqb count (length octets)) ≡ b → IsOctets octets → IsSomeState (cond b (Some octets) None)
state_by true count octets is fits =
    let parts = and_parts (leb count 16) (eqb count (length octets)) is in
    let few = leb-true count 16 parts.0 in
    let long = eqb-true count (length octets) parts.1 in
    record { are_octets = fits; short = omega (arith, few, long) }
state_by false count octets is fits = tt

state_in : (octets : List ℕ) → IsOctets octets → IsSomeState (continuation_in octets)
state_in [] fits = tt
state_in (count ∷ octets) fits = state_by (leb count 16 && eqb count (length octets)) count octets refl (λ i. fits (suc i))

part_by : (b : Bool) (part : PlainPart) → IsState part.continuation → IsSomePart (cond b (Some part) None)
part_by true part is = is
part_by false part is = tt

bound_part : (o : Option (List ℕ)) (count : ℕ) (octets : List ℕ) → IsSomeState o → IsSomePart (o >>= (λ (continuation : List ℕ). cond (goes_on count continuation) (Some (record { octets = octets; continuation = continuation })) None))
bound_part None count octets is = tt
bound_part (Some continuation) count octets is = part_by (goes_on count continuation) (record { octets = octets; continuation = continuation }) is

counted_is : (b : Bool) (count : ℕ) (rest : List ℕ) → IsOctets rest → IsSomePart (cond b (counted_part count rest) None)
counted_is true count rest fits = bound_part (continuation_in (drop count rest)) count (take count rest) (state_in (drop count rest) (IsOctets-drop count rest fits))
counted_is false count rest fits = tt

part_is : (parameters : List ℕ) → IsOctets parameters → IsSomePart (part_in parameters)
part_is parameters fits =
    let count : ℕ = slice_index parameters 0 * 256 + (slice_index parameters 1 * 1 + 0) in
    counted_is (leb 2 (length parameters) && leb count (length parameters - 2)) count (drop 2 parameters) (IsOctets-drop 2 parameters fits)

given_is : (o : Option PlainPart) → IsSomePart o → IsSaidState (given o)
given_is None is = tt
given_is (Some part) is = is

abbrev IsSomePdu : Option PlainPdu → Type 0
IsSomePdu None = Unit {0}
IsSomePdu (Some pdu) = IsOctets pdu.parameters

pdu_by : (b : Bool) (pdu : PlainPdu) → IsOctets pdu.parameters → IsSomePdu (cond b (Some pdu) None)
pdu_by true pdu is = is
pdu_by false pdu is = tt

says_by : (fails gives : Bool) (code : ℕ) (parameters : List ℕ) → IsOctets parameters → IsSaidState (cond fails (Failed code) (cond gives (given (part_in parameters)) Nothing))
says_by true gives code parameters is = tt
says_by false true code parameters is = given_is (part_in parameters) (part_is parameters is)
says_by false false code parameters is = tt

said_is : (o : Option PlainPdu) → IsSomePdu o → IsSaidState (said_by o)
said_is None is = tt
said_is (Some pdu) is =
    let p = pdu.parameters in
    says_by (eqb pdu.identifier 1 && eqb (length p) 2) (eqb pdu.identifier 7) (slice_index p 0 * 256 + (slice_index p 1 * 1 + 0)) p is

reply_is : (octets : List ℕ) → IsOctets octets → IsSaidState (said_in octets)
reply_is octets fits =
    let head : List ℕ = drop 1 octets in
    said_is (pdu_in octets) (pdu_by (leb 5 (length octets) && eqb (states_length octets) (length octets - 5))
    (record { identifier = slice_index octets 0; transaction = slice_index head 0 * 256 + (slice_index head 1 * 1 + 0); parameters = drop 5 octets }) (IsOctets-drop 5 octets fits))

either_asking : (b : Bool) (x y : Asking) → IsState x.continuation → IsState y.continuation → IsState (cond b x y).continuation
either_asking true x y p q = p
either_asking false x y p q = q

when_is : (asking : Asking) (said : PlainSaid) → IsSaidState said → IsState asking.continuation → IsState (when_said asking said).continuation
when_is asking (Gives part) is state = either_asking _ (ended asking TooLong) _ state (either_asking _ (after_whole (with_part asking part)) (asks_on (with_part asking part) part.continuation) state is)
when_is asking (Failed code) is state = state
when_is asking Nothing is state = state

said_after : (asking : Asking) (reply : List ℕ) → IsOctets reply → IsState asking.continuation → IsState (after_said asking reply).continuation
said_after asking reply fits state = either_asking (is_of_another reply asking.transaction) asking (when_said asking (said_in reply)) state (when_is asking (said_in reply) (reply_is reply fits) state)

reply_by : (stage : Stage) (asking : Asking) (reply : List ℕ) → IsOctets reply → IsState asking.continuation → IsState (after_when stage asking reply).continuation
reply_by stages.Due asking reply fits state = state
reply_by stages.Written asking reply fits state = said_after asking reply fits state
reply_by stages.Again asking reply fits state = said_after asking reply fits state
reply_by stages.Answered asking reply fits state = state
reply_by (stages.Refused reason) asking reply fits state = state

pub after_reply_state : (asking : Asking) (reply : List ℕ) → IsOctets reply → IsState asking.continuation → IsState (after_reply asking reply).continuation
after_reply_state asking reply fits state = reply_by asking.stage asking reply fits state
