-- Each reply of service discovery that a server gives are a few octets, so any channel takes it.
use Rattle.std.proofs.Common.{◌≡◌, ◌≤◌, ◌<◌, ◌+◌, ◌*◌, ◌/◌, ◌%◌, Bool, true, false, cond, eqb, ◌-◌, ◌&&◌, not, ℕ, zero, suc, List, [], ◌∷◌, ◌++◌, map, take, drop, length, Option, Some, None, option_map, Result, Ok, Err, refl, sym, ap, subst, ◌∙◌, arith}
use Rattle.std.specs.Prelude.{nat_lt, min}
use Rattle.std.specs.List.{AllByRecursion, flat_map}
use Rattle.std.proofs.lemmas.Bool.{le-leb, lt-ltb}
use Rattle.pair_laws.specs.bt_base.specs.Objects.{Contents}
use Rattle.pair_laws.specs.bt_base.specs.Octets.{be16, be32}
use Rattle.pair_laws.specs.bt_base.specs.declared.settings.Serves.{Serves}
use Rattle.pair_laws.specs.bt_base.specs.declared.settings.Serves.TheVariants as serving
use Rattle.pair_laws.specs.bt_base.specs.declared.settings.Settings.{Settings}
use Rattle.pair_laws.specs.channel_model.specs.Calls.{some_waits, carrier_mtu, carrier_at, peer_mtu, waits}
use Rattle.pair_laws.specs.channel_model.specs.Value.{Carrier, Plain, Channels}
use Rattle.pair_laws.specs.l2cap_config.specs.declared.wish.Agreed.{Agreed}
use Rattle.pair_laws.specs.sdp_elements.specs.declared.header.Kind.{Kind}
use Rattle.pair_laws.specs.sdp_elements.specs.declared.header.Kind.TheVariants as kinds
use Rattle.pair_laws.specs.sdp_elements.specs.Answers.{Range, Question, Handles, Attributes, Search, is_listed, pairs_of, listed, attribute_list, attribute_lists, handles, answer}
use Rattle.pair_laws.specs.sdp_elements.specs.Elements.{Tree}
use Rattle.pair_laws.specs.sdp_elements.specs.Exchange.{pdu_octets, continuation_at, part_len, part_parameters, offset_in}
use Rattle.pair_laws.specs.sdp_elements.specs.Laws.{tree_octets, parts_octets}
use Rattle.pair_laws.specs.sdp_elements.specs.Pdus.{PlainPdu, pdu_in}
use Rattle.pair_laws.specs.sdp_elements.specs.Records.{Attribute, unsigned, record_handle, service_record, matches, sequence_of}
use Rattle.pair_laws.specs.sdp_elements.specs.Spelling.{sized_front, sized}
use Rattle.pair_laws.specs.push_model.specs.sdp_server.specs.declared.fault.ErrorCode.{ErrorCode}
use Rattle.pair_laws.specs.push_model.specs.sdp_server.specs.declared.fault.ErrorCode.TheVariants.{InvalidHandle, InvalidSyntax, InvalidSize, InvalidContinuation}
use Rattle.pair_laws.specs.push_model.specs.sdp_server.specs.Requests.{Request, request_in}
use Rattle.pair_laws.specs.push_model.specs.sdp_server.specs.Replies.{code_number, part_from, handles_parameters, handles_reply, replied, answered, responded, transaction_of, with_error, reply_to}
use Rattle.pair_laws.specs.push_model.specs.Payloads.{Octets}
use Rattle.pair_laws.specs.push_model.specs.Server.{Server, Lent, reply_room, search_psm, lends, lent_sdu, new_server}
use Rattle.pair_laws.specs.push_laws.specs.Occurrences.{Came, Asked}
use Rattle.pair_laws.specs.push_laws.proofs.SmallAnswers.{lends-few_octets}
use Rattle.pair_laws.specs.host_model.specs.Endpoints.{fits, takes_sdu}
use Rattle.pair_laws.specs.host_model.specs.Pdus.{are_octets}

abbrev Octets_only : List ℕ → Type 0
Octets_only xs = are_octets xs ≡ true

-- ---- lists of octets

next_octet : (x : ℕ) (xs : List ℕ) → x < 256 → Octets_only xs → Octets_only (x ∷ xs)
next_octet x xs low all = ap (λ (b : Bool). b && are_octets xs) (lt-ltb x 256 low) ∙ all

first_octet : (a b : Bool) → (a && b) ≡ true → (a ≡ true) × (b ≡ true)
first_octet true b is = (refl, is)
first_octet false b is = cc

both_octets : (xs ys : List ℕ) → Octets_only xs → Octets_only ys → Octets_only (xs ++ ys)
both_octets [] ys one other = other
both_octets (x ∷ xs) ys one other = let parts = first_octet (nat_lt x 256) (are_octets xs) one in ap (λ (b : Bool). b && are_octets (xs ++ ys)) parts.0 ∙ both_octets xs ys parts.1 other

take_octets : (n : ℕ) (xs : List ℕ) → Octets_only xs → Octets_only (take n xs)
take_octets zero xs all = refl
take_octets (suc n) [] all = refl
take_octets (suc n) (x ∷ xs) all = let parts = first_octet (nat_lt x 256) (are_octets xs) all in ap (λ (b : Bool). b && are_octets (take n xs)) parts.0 ∙ take_octets n xs parts.1

drop_octets : (n : ℕ) (xs : List ℕ) → Octets_only xs → Octets_only (drop n xs)
drop_octets zero xs all = all
drop_octets (suc n) [] all = refl
drop_octets (suc n) (x ∷ xs) all = drop_octets n xs (first_octet (nat_lt x 256) (are_octets xs) all).1

two_octets : (n : ℕ) → Octets_only (be16 n)
two_octets n = next_octet (n / 256 % 256) (n % 256 ∷ []) (omega arith) (next_octet (n % 256) [] (omega arith) refl)

four_octets : (n : ℕ) → Octets_only (be32 n)
four_octets n =
    next_octet (n / 16777216 % 256) (n / 65536 % 256 ∷ n / 256 % 256 ∷ n % 256 ∷ []) (omega arith)
    (next_octet (n / 65536 % 256) (n / 256 % 256 ∷ n % 256 ∷ []) (omega arith) (next_octet (n / 256 % 256) (n % 256 ∷ []) (omega arith) (next_octet (n % 256) [] (omega arith) refl)))

-- ---- the attributes of the record

abbrev TreeOctets : Tree → Type 0
TreeOctets tree = Octets_only (tree_octets tree)

abbrev AttributeOctets : Attribute → Type 0
AttributeOctets a = TreeOctets (unsigned 2 a.identifier) × TreeOctets a.value

record_octets : (serves : Serves) → AllByRecursion AttributeOctets (service_record serves)
record_octets serving.Both = ((refl, refl), ((refl, refl), ((refl, refl), ((refl, refl), ((refl, refl), ((refl, refl), ((refl, refl), tt)))))))
record_octets serving.L2cap = ((refl, refl), ((refl, refl), ((refl, refl), ((refl, refl), ((refl, refl), ((refl, refl), ((refl, refl), tt)))))))
record_octets serving.Rfcomm = ((refl, refl), ((refl, refl), ((refl, refl), ((refl, refl), ((refl, refl), ((refl, refl), tt))))))

front_octets : (kind : Kind) (len : ℕ) → kind ≡ kinds.Sequence → Octets_only (sized_front kind len)
front_octets kind len is = subst (λ (k : Kind). Octets_only (sized_front k len)) (sym is) (by (nat_lt len 256) (nat_lt len 65536))
  where
    by : (small middle : Bool) → Octets_only (cond small (53 ∷ len % 256 ∷ []) (cond middle (54 ∷ be16 len) (55 ∷ be32 len)))
    by true middle = next_octet 53 (len % 256 ∷ []) (omega arith) (next_octet (len % 256) [] (omega arith) refl)
    by false true = next_octet 54 (be16 len) (omega arith) (two_octets len)
    by false false = next_octet 55 (be32 len) (omega arith) (four_octets len)

sized_octets : (content : List ℕ) → Octets_only content → Octets_only (sized kinds.Sequence content)
sized_octets content all = both_octets (sized_front kinds.Sequence (length content)) content (front_octets kinds.Sequence (length content) refl) all

pairs_octets : (attributes : List Attribute) → AllByRecursion AttributeOctets attributes → Octets_only (parts_octets (pairs_of attributes))
pairs_octets [] all = refl
pairs_octets (a ∷ attributes) all =
    both_octets (tree_octets (unsigned 2 a.identifier)) (tree_octets a.value ++ parts_octets (pairs_of attributes)) all.0.0 (both_octets (tree_octets a.value) (parts_octets (pairs_of attributes)) all.0.1 (pairs_octets attributes all.1))

listed_octets : (ranges : List Range) (attributes : List Attribute) → AllByRecursion AttributeOctets attributes → AllByRecursion AttributeOctets (listed ranges attributes)
listed_octets ranges [] all = tt
listed_octets ranges (a ∷ attributes) all = by (is_listed ranges a.identifier) (listed_octets ranges attributes all.1)
  where
    by : (b : Bool) → AllByRecursion AttributeOctets (listed ranges attributes) → AllByRecursion AttributeOctets (cond b (a ∷ listed ranges attributes) (listed ranges attributes))
    by true rest = (all.0, rest)
    by false rest = rest

list_octets : (serves : Serves) (ranges : List Range) → TreeOctets (attribute_list ranges (service_record serves))
list_octets serves ranges = let attributes = listed ranges (service_record serves) in sized_octets (parts_octets (pairs_of attributes)) (pairs_octets attributes (listed_octets ranges (service_record serves) (record_octets serves)))

lists_octets : (serves : Serves) (pattern : List (List ℕ)) (ranges : List Range) → TreeOctets (attribute_lists serves pattern ranges)
lists_octets serves pattern ranges = by (matches pattern (service_record serves))
  where
    one : Tree
    one = attribute_list ranges (service_record serves)

    by : (b : Bool) → TreeOctets (sequence_of (map (attribute_list ranges) (cond b (service_record serves ∷ []) [])))
    by true = sized_octets (tree_octets one ++ []) (both_octets (tree_octets one) [] (list_octets serves ranges) refl)
    by false = sized_octets [] refl

handle_octets : (serves : Serves) (pattern : List (List ℕ)) → Octets_only (handles serves pattern)
handle_octets serves pattern = by (matches pattern (service_record serves))
  where
    by : (b : Bool) → Octets_only (flat_map (λ (r : List Attribute). be32 record_handle) (cond b (service_record serves ∷ []) []))
    by true = refl
    by false = refl

answer_octets : (serves : Serves) (question : Question) → Octets_only (answer serves question)
answer_octets serves (Handles pattern) = handle_octets serves pattern
answer_octets serves (Attributes handle ranges) = list_octets serves ranges
answer_octets serves (Search pattern ranges) = lists_octets serves pattern ranges

-- ---- a reply

abbrev GivesOctets : Result (List ℕ) ErrorCode → Type 0
GivesOctets reply = (transaction : ℕ) → (Octets_only (with_error transaction reply)) × (with_error transaction reply ≡ [] → ⊥)

pdu_is : (identifier transaction : ℕ) (parameters : List ℕ) → identifier < 256 → Octets_only parameters → Octets_only (pdu_octets identifier transaction parameters) × (pdu_octets identifier transaction parameters ≡ [] → ⊥)
pdu_is identifier transaction parameters low all = (
  next_octet identifier (be16 transaction ++ (be16 (length parameters) ++ parameters)) low
      (both_octets (be16 transaction) (be16 (length parameters) ++ parameters) (two_octets transaction) (both_octets (be16 (length parameters)) parameters (two_octets (length parameters)) all)),
  λ is. cc,
)

error_gives : (code : ErrorCode) → GivesOctets (Err code)
error_gives code transaction = pdu_is 1 transaction (be16 (code_number code)) (omega arith) (two_octets (code_number code))

part_gives : (identifier transaction most : ℕ) (octets : List ℕ) (found : Option ℕ) → identifier < 256 → Octets_only octets → GivesOctets (part_from identifier transaction octets most reply_room found)
part_gives identifier transaction most octets None low all other = error_gives InvalidContinuation other
part_gives identifier transaction most octets (Some offset) low all other =
    let count = part_len most (length octets - offset) reply_room in
    pdu_is identifier transaction (part_parameters octets offset count) low
    (both_octets (be16 count) (take count (drop offset octets) ++ continuation_at (length octets) (offset + count)) (two_octets count)
    (both_octets (take count (drop offset octets)) (continuation_at (length octets) (offset + count)) (take_octets count (drop offset octets) (drop_octets offset octets all)) (by (eqb (offset + count) (length octets)))))
  where
    by : (end : Bool) → Octets_only (cond end (0 ∷ []) (2 ∷ be16 (offset + part_len most (length octets - offset) reply_room)))
    by true = refl
    by false = next_octet 2 (be16 (offset + part_len most (length octets - offset) reply_room)) (omega arith) (two_octets (offset + part_len most (length octets - offset) reply_room))

handles_give : (transaction : ℕ) (octets : List ℕ) (request : Request) → Octets_only octets → GivesOctets (handles_reply transaction octets request)
handles_give transaction octets request all = by (eqb (length request.continuation) 0)
  where
    count : ℕ
    count = min request.most (length octets / 4)

    by : (none : Bool) → GivesOctets (cond none (Ok (pdu_octets 3 transaction (handles_parameters octets count))) (Err InvalidContinuation))
    by true other =
        pdu_is 3 transaction (handles_parameters octets count) (omega arith)
        (both_octets (be16 (length octets / 4)) (be16 count ++ (take (4 * count) octets ++ 0 ∷ [])) (two_octets (length octets / 4))
        (both_octets (be16 count) (take (4 * count) octets ++ 0 ∷ []) (two_octets count) (both_octets (take (4 * count) octets) (0 ∷ []) (take_octets (4 * count) octets all) refl)))
    by false other = error_gives InvalidContinuation other

replied_gives : (transaction : ℕ) (question : Question) (octets : List ℕ) (request : Request) → Octets_only octets → GivesOctets (replied transaction question octets request reply_room)
replied_gives transaction (Handles pattern) octets request all = handles_give transaction octets request all
replied_gives transaction (Attributes handle ranges) octets request all = by (eqb handle record_handle)
  where
    by : (here : Bool) → GivesOctets (cond here (part_from 5 transaction octets request.most reply_room (offset_in request.continuation (length octets))) (Err InvalidHandle))
    by true = part_gives 5 transaction request.most octets (offset_in request.continuation (length octets)) (omega arith) all
    by false = error_gives InvalidHandle
replied_gives transaction (Search pattern ranges) octets request all = part_gives 7 transaction request.most octets (offset_in request.continuation (length octets)) (omega arith) all

answered_gives : (serves : Serves) (transaction : ℕ) (found : Option Request) → GivesOctets (answered serves reply_room transaction found)
answered_gives serves transaction None = error_gives InvalidSyntax
answered_gives serves transaction (Some request) = replied_gives transaction request.question (answer serves request.question) request (answer_octets serves request.question)

responded_gives : (serves : Serves) (found : Option PlainPdu) → GivesOctets (responded serves reply_room found)
responded_gives serves None = error_gives InvalidSize
responded_gives serves (Some pdu) = answered_gives serves pdu.transaction (request_in pdu.identifier pdu.parameters)

pub replies-some : (serves : Serves) (sdu : List ℕ) → reply_to serves reply_room sdu ≡ [] → ⊥
replies-some serves sdu = (responded_gives serves (pdu_in sdu) (transaction_of sdu)).1

replies_octets : (serves : Serves) (sdu : List ℕ) → Octets_only (reply_to serves reply_room sdu)
replies_octets serves sdu = (responded_gives serves (pdu_in sdu) (transaction_of sdu)).0

-- ---- it is short

lent_is : (settings : Settings) (octets : List ℕ) → (octets ≡ [] → ⊥) → lent_sdu (lends (let s : Server = record (new_server settings) { reply = octets } in s)) ≡ Some (let l : Lent = record { psm = search_psm; payload = Octets octets } in l)
lent_is settings [] some = absurd (some refl)
lent_is settings (x ∷ octets) some = refl

replies_short : (settings : Settings) (content : Option Contents) (serves : Serves) (sdu : List ℕ) → length (reply_to serves reply_room sdu) ≤ 48
replies_short settings content serves sdu =
    let set : Settings = record settings { serves = serves } in
    let octets = reply_to serves reply_room sdu in
    lends-few_octets set content (Came search_psm sdu ∷ Asked ∷ []) (record { psm = search_psm; payload = Octets octets }) octets (lent_is set octets (replies-some serves sdu)) refl

-- a channel in basic mode in which no SDU waits takes it
pub reply-taken : (settings : Settings) (content : Option Contents) (serves : Serves) (sdu : List ℕ) (own : ℕ) (agreed : Agreed) (v : Channels) → carrier_at own v ≡ Some (Plain agreed None) → 48 ≤ agreed.send_mtu → takes_sdu own (reply_to serves reply_room sdu) v ≡ true
reply-taken settings content serves sdu own agreed v carrier_is most =
    both_on (fits (length octets) (peer_mtu own v) && not (waits own v)) (are_octets octets)
    (both_on (fits (length octets) (peer_mtu own v)) (not (waits own v))
    (ap (λ (x : Option Carrier). fits (length octets) (option_map carrier_mtu x)) carrier_is ∙ (let short = replies_short settings content serves sdu in le-leb (length octets) agreed.send_mtu (omega (arith, short, most))))
    (ap (λ (x : Option Carrier). not (some_waits x)) carrier_is)) (replies_octets serves sdu)
  where
    octets : List ℕ
    octets = reply_to serves reply_room sdu

    both_on : (a b : Bool) → a ≡ true → b ≡ true → (a && b) ≡ true
    both_on true b is other = other
    both_on false b is other = cc
