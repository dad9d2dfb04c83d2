-- The request for services that a query waits for, and that its requests are short, of octets and of transactions of two octets.
use Rattle.std.proofs.Common.{◌≡◌, ℕ, zero, suc, ◌+◌, ◌-◌, ◌/◌, ◌%◌, ◌<◌, ◌≤◌, List, [], ◌∷◌, ◌++◌, length, take, drop, Bool, true, false, cond, eqb, not, ◌&&◌, Option, Some, None, refl, sym, ap, subst, ◌∙◌, arith, length-append, length-take, length-drop}
use Rattle.std.specs.Prelude.{nat_le, nat_lt, is_some, slice_index}
use Rattle.std.proofs.lemmas.Bool.{eqb-true, leb-true, ltb-false, lt-ltb}
use Rattle.byteorder.specs.Endian.{big_number}
use Rattle.shelf_model.specs.bt_base.specs.Octets.{IsOctets}
use Rattle.shelf_model.specs.h4_framing.proofs.OctetLists.{IsOctets-tail}
use Rattle.shelf_model.specs.l2cap_signal.proofs.Contents.{octets_behind}
use Rattle.shelf_model.specs.sdp_elements.specs.declared.target.Target.{Target}
use Rattle.shelf_model.specs.sdp_elements.specs.Exchange.{continuation_in}
use Rattle.shelf_model.specs.sdp_elements.specs.Optional.{◌>>=◌}
use Rattle.shelf_model.specs.sdp_elements.specs.Pdus.{PlainPdu, states_length, pdu_in}
use Rattle.shelf_model.specs.sdp_elements.specs.Targets.{target_in}
use Rattle.shelf_model.specs.sdp_elements.proofs.PduLaws.{pdu_again}
use Rattle.shelf_model.specs.sdp_client.specs.declared.query.Stage.{Stage}
use Rattle.shelf_model.specs.sdp_client.specs.declared.query.Stage.TheVariants.{Due, Written, Again, Answered, Refused}
use Rattle.shelf_model.specs.sdp_client.specs.Asking.{Asking, begun, request_parameters, request_octets, waits, is_due, written, after_request, again, after_resend}
use Rattle.shelf_model.specs.sdp_client.specs.Hearing.{stage_in, with_part, asks_on, after_whole, after_part, when_said, after_when, after_reply, ended}
use Rattle.shelf_model.specs.sdp_client.specs.Replies.{PlainPart, PlainSaid, Gives, Failed, Nothing, goes_on, counted_part, part_in, given, said_by, said_in, is_of_another}
use Rattle.shelf_model.specs.sdp_client.specs.declared.reason.QueryReason.TheVariants.{BadReply, ErrorCode, TooLong}
use Rattle.shelf_model.specs.sdp_client.specs.Views.{awaits, is_awaiting}
use Rattle.push_laws.specs.link_talk.specs.ServiceAnswers.{transaction_of, answered_by}
use Rattle.shelf_model.specs.host_model.specs.Pdus.{are_octets}

-- ---- what it waits for

-- the transaction of its request that has no reply
abbrev pub awaited_at : Stage → ℕ → Option ℕ
awaited_at Due transaction = None
awaited_at Written transaction = Some transaction
awaited_at Again transaction = Some transaction
awaited_at Answered transaction = None
awaited_at (Refused reason) transaction = None

abbrev pub awaited : Asking → Option ℕ
awaited q = awaited_at q.stage q.transaction

pub some_awaited : (q : Asking) → is_some (awaited q) ≡ is_awaiting q
some_awaited q = by q.stage
  where
    by : (stage : Stage) → is_some (awaited_at stage q.transaction) ≡ awaits stage
    by Due = refl
    by Written = refl
    by Again = refl
    by Answered = refl
    by (Refused reason) = refl

pub none_awaited : (q : Asking) → is_awaiting q ≡ false → awaited q ≡ None
none_awaited q none = by (awaited q) (some_awaited q ∙ none)
  where
    by : (w : Option ℕ) → is_some w ≡ false → w ≡ None
    by None is = refl
    by (Some t) is = cc

-- ---- a reply

pub whole_none : (q : Asking) (target : Option Target) → awaited_at (stage_in target) q.transaction ≡ None
whole_none q None = refl
whole_none q (Some target) = refl

pub said_none : (q : Asking) (said : PlainSaid) → awaited (when_said q said) ≡ None
said_none q Nothing = refl
said_none q (Failed code) = refl
said_none q (Gives part) = by (nat_lt 4096 (length (q.joined ++ part.octets))) (eqb (length part.continuation) 0)
  where
    by : (long last : Bool) → awaited (cond long (ended q TooLong) (cond last (after_whole (with_part q part)) (asks_on (with_part q part) part.continuation))) ≡ None
    by true last = refl
    by false true = whole_none q (target_in (q.joined ++ part.octets))
    by false false = refl

-- the first reply that has no other transaction answers it
pub hears_awaited : (q : Asking) (reply : List ℕ) → answered_by (awaited q) reply ≡ awaited (after_reply q reply)
hears_awaited q reply = by q.stage refl
  where
    waits : (transaction : ℕ) → transaction ≡ q.transaction → awaited q ≡ Some transaction → (b : Bool) → cond b (Some transaction) None ≡ awaited (cond b q (when_said q (said_in reply)))
    waits transaction same is true = sym is
    waits transaction same is false = sym (said_none q (said_in reply))

    by : (stage : Stage) → q.stage ≡ stage → answered_by (awaited_at stage q.transaction) reply ≡ awaited (after_when stage q reply)
    by Due at = sym (ap (λ s. awaited_at s q.transaction) at)
    by Written at = waits q.transaction refl (ap (λ s. awaited_at s q.transaction) at) (is_of_another reply q.transaction)
    by Again at = waits q.transaction refl (ap (λ s. awaited_at s q.transaction) at) (is_of_another reply q.transaction)
    by Answered at = sym (ap (λ s. awaited_at s q.transaction) at)
    by (Refused reason) at = sym (ap (λ s. awaited_at s q.transaction) at)

-- ---- its requests

-- its request is short, of octets, and its transaction has two of them
pub record IsAsking (q : Asking) : Type 0 where
  pub short : length q.continuation ≤ 16
  pub octets : IsOctets q.continuation
  pub counted : q.transaction ≤ length q.joined + 1
  pub within : length q.joined ≤ 4096

pub begun_asks : IsAsking begun
begun_asks = record { short = omega arith; octets = λ i. omega arith; counted = omega arith; within = omega arith }

pub written_asks : (q : Asking) → IsAsking q → IsAsking (after_request q)
written_asks q so = record { short = so.short; octets = so.octets; counted = so.counted; within = so.within }

pub again_asks : (q : Asking) → IsAsking q → IsAsking (after_resend q)
again_asks q so = record { short = so.short; octets = so.octets; counted = so.counted; within = so.within }

-- a part of an answer: its continuation state is short, and where there is one it has octets
pub record IsPart (part : PlainPart) : Type 0 where
  pub short : length part.continuation ≤ 16
  pub octets : IsOctets part.continuation
  pub some : eqb (length part.continuation) 0 ≡ false → 1 ≤ length part.octets

abbrev pub SaidSo : PlainSaid → Type 0
SaidSo (Gives part) = IsPart part
SaidSo (Failed code) = Unit {0}
SaidSo Nothing = Unit {0}

abbrev pub PartSo : Option PlainPart → Type 0
PartSo None = Unit {0}
PartSo (Some part) = IsPart part

pub not_false : (b : Bool) → not b ≡ true → b ≡ false
not_false true is = cc
not_false false is = refl

pub positive : (n : ℕ) → eqb n 0 ≡ false → 1 ≤ n
positive zero is = cc
positive (suc n) is = omega arith

pub parts_of : (a b : Bool) → (a && b) ≡ true → (a ≡ true) × (b ≡ true)
parts_of true b is = (refl, is)
parts_of false b is = cc

pub second_false : (b : Bool) → (b && true) ≡ false → b ≡ false
second_false true is = cc
second_false false is = refl

pub part_of : (count : ℕ) (rest continuation : List ℕ) (goes : Bool) → goes_on count continuation ≡ goes → length continuation ≤ 16 → IsOctets continuation → 1 ≤ length (drop count rest)
    → PartSo (cond goes (Some (record { octets = take count rest; continuation = continuation })) None)
part_of count rest continuation false is short octets some = tt
part_of count rest continuation true is short octets some = record {
  short = short;
  octets = octets;
  some = λ more.
      let both : (eqb count 0 && not (eqb (length continuation) 0)) ≡ false = not_false _ is in
      let none : eqb count 0 ≡ false = second_false (eqb count 0) (ap (λ b. eqb count 0 && not b) (sym more) ∙ both) in
      let one = positive count none in
      omega (arith, one, some, length-take count rest, length-drop count rest);
}

pub counted_with : (count : ℕ) (rest left : List ℕ) → drop count rest ≡ left → IsOctets left → PartSo (continuation_in left >>= λ continuation. cond (goes_on count continuation) (Some (record { octets = take count rest; continuation = continuation })) None)
counted_with count rest [] is fits = tt
counted_with count rest (len ∷ octets) is fits = by (nat_le len 16 && eqb len (length octets)) refl
  where
    some : 1 ≤ length (drop count rest)
    some = let size : length (drop count rest) ≡ suc (length octets) = ap length is in omega (arith, size)

    by : (fit : Bool) → (nat_le len 16 && eqb len (length octets)) ≡ fit → PartSo (cond fit (Some octets) None >>= λ continuation. cond (goes_on count continuation) (Some (record { octets = take count rest; continuation = continuation })) None)
    by false none = tt
    by true both =
        let two = parts_of (nat_le len 16) (eqb len (length octets)) both in
        let short = leb-true len 16 two.0 in
        let size : len ≡ length octets = eqb-true len (length octets) two.1 in
        part_of count rest octets (goes_on count octets) refl (omega (arith, short, size)) (IsOctets-tail len octets fits) some

pub counted_so : (count : ℕ) (rest : List ℕ) → IsOctets rest → PartSo (counted_part count rest)
counted_so count rest fits = counted_with count rest (drop count rest) refl (octets_behind count rest fits)

pub part_so : (parameters : List ℕ) → IsOctets parameters → PartSo (part_in parameters)
part_so parameters fits = by (nat_le 2 (length parameters) && nat_le (big_number 2 parameters) (length parameters - 2))
  where
    by : (b : Bool) → PartSo (cond b (counted_part (big_number 2 parameters) (drop 2 parameters)) None)
    by false = tt
    by true = counted_so (big_number 2 parameters) (drop 2 parameters) (octets_behind 2 parameters fits)

pub given_so : (part : Option PlainPart) → PartSo part → SaidSo (given part)
given_so None so = tt
given_so (Some part) so = so

pub pdu_so : (pdu : PlainPdu) → IsOctets pdu.parameters → SaidSo (said_by (Some pdu))
pdu_so pdu fits = by (eqb pdu.identifier 1 && eqb (length pdu.parameters) 2) (eqb pdu.identifier 7)
  where
    by : (error answer : Bool) → SaidSo (cond error (Failed (big_number 2 pdu.parameters)) (cond answer (given (part_in pdu.parameters)) Nothing))
    by true answer = tt
    by false true = given_so (part_in pdu.parameters) (part_so pdu.parameters fits)
    by false false = tt

pub said_so : (reply : List ℕ) → IsOctets reply → SaidSo (said_in reply)
said_so reply fits = by (nat_le 5 (length reply) && eqb (states_length reply) (length reply - 5))
  where
    by : (b : Bool) → SaidSo (said_by (cond b (Some (record { identifier = slice_index reply 0; transaction = big_number 2 (drop 1 reply); parameters = drop 5 reply })) None))
    by false = tt
    by true = pdu_so (record { identifier = slice_index reply 0; transaction = big_number 2 (drop 1 reply); parameters = drop 5 reply }) (octets_behind 5 reply fits)

pub same_asks : (q : Asking) (stage : Stage) → IsAsking q → (let r : Asking = record q { stage = stage } in IsAsking r)
same_asks q stage so = record { short = so.short; octets = so.octets; counted = so.counted; within = so.within }

pub part_asks : (q : Asking) (part : PlainPart) → IsPart part → IsAsking q → IsAsking (after_part q part)
part_asks q part is so = by (nat_lt 4096 (length (q.joined ++ part.octets))) refl (eqb (length part.continuation) 0) refl
  where
    size : length (q.joined ++ part.octets) ≡ length q.joined + length part.octets
    size = length-append q.joined part.octets

    counted : q.transaction ≤ length q.joined + 1
    counted = so.counted

    by : (long : Bool) → nat_lt 4096 (length (q.joined ++ part.octets)) ≡ long → (last : Bool) → eqb (length part.continuation) 0 ≡ last → IsAsking (cond long (ended q TooLong) (cond last (after_whole (with_part q part)) (asks_on (with_part q part) part.continuation)))
    by true over last end = same_asks q (Refused TooLong) so
    by false within true end =
        let most = ltb-false 4096 (length (q.joined ++ part.octets)) within in
        same_asks (with_part q part) (stage_in (target_in (q.joined ++ part.octets))) (record { short = so.short; octets = so.octets; counted = omega (arith, size, counted); within = most })
    by false within false end =
        let most = ltb-false 4096 (length (q.joined ++ part.octets)) within in
        let some = is.some end in
        record { short = is.short; octets = is.octets; counted = omega (arith, size, counted, some); within = most }

pub when_asks : (q : Asking) (said : PlainSaid) → SaidSo said → IsAsking q → IsAsking (when_said q said)
when_asks q (Gives part) is so = part_asks q part is so
when_asks q (Failed code) is so = same_asks q (Refused (ErrorCode code)) so
when_asks q Nothing is so = same_asks q (Refused BadReply) so

pub reply_asks : (q : Asking) (reply : List ℕ) → IsOctets reply → IsAsking q → IsAsking (after_reply q reply)
reply_asks q reply fits so = by q.stage
  where
    said : (b : Bool) → IsAsking (cond b q (when_said q (said_in reply)))
    said true = so
    said false = when_asks q (said_in reply) (said_so reply fits) so

    by : (stage : Stage) → IsAsking (after_when stage q reply)
    by Due = so
    by Written = said (is_of_another reply q.transaction)
    by Again = said (is_of_another reply q.transaction)
    by Answered = so
    by (Refused reason) = so

-- ---- its request as octets

abbrev pub front : ℕ → ℕ → ℕ → ℕ → ℕ → List ℕ
front transaction_high transaction_low high low n =
    0x06 ∷ transaction_high ∷ transaction_low ∷ high ∷ low ∷ 0x35 ∷ 0x03 ∷ 0x19 ∷ 0x11 ∷ 0x05 ∷ 0x01 ∷ 0x00 ∷ 0x35 ∷ 0x06 ∷ 0x09 ∷ 0x00 ∷ 0x04 ∷ 0x09 ∷ 0x02 ∷ 0x00 ∷ n ∷ []

pub request_is : (q : Asking) → length q.continuation ≤ 16
    → front (q.transaction / 256 % 256) (q.transaction % 256) 0 (16 + length q.continuation) (length q.continuation) ++ q.continuation ≡ request_octets q
request_is q fits =
    let n = length (request_parameters q.continuation) in
    let len : n ≡ 16 + length q.continuation = omega arith in
    let high : n / 256 % 256 ≡ 0 = omega arith in
    let low : n % 256 ≡ 16 + length q.continuation = omega arith in
    ap (λ (x : ℕ). front (q.transaction / 256 % 256) (q.transaction % 256) x (16 + length q.continuation) (length q.continuation) ++ q.continuation) (sym high)
    ∙ ap (λ (x : ℕ). front (q.transaction / 256 % 256) (q.transaction % 256) (n / 256 % 256) x (length q.continuation) ++ q.continuation) (sym low)

pub octets_all : (xs ys : List ℕ) → are_octets xs ≡ true → are_octets ys ≡ true → are_octets (xs ++ ys) ≡ true
octets_all [] ys one two = two
octets_all (x ∷ xs) ys one two = let both = parts_of (nat_lt x 256) (are_octets xs) one in ap (λ b. b && are_octets (xs ++ ys)) both.0 ∙ octets_all xs ys both.1 two

pub octets_of : (xs : List ℕ) → IsOctets xs → are_octets xs ≡ true
octets_of [] fits = refl
octets_of (x ∷ xs) fits = ap (λ b. b && are_octets xs) (lt-ltb x 256 (fits 0)) ∙ octets_of xs (IsOctets-tail x xs fits)

pub front_octets : (a b n : ℕ) → a < 256 → b < 256 → n ≤ 16 → are_octets (front a b 0 (16 + n) n) ≡ true
front_octets a b n high low short =
    ap (λ t. t && (nat_lt b 256 && (nat_lt (16 + n) 256 && (nat_lt n 256 && true)))) (lt-ltb a 256 high)
    ∙ (ap (λ t. t && (nat_lt (16 + n) 256 && (nat_lt n 256 && true))) (lt-ltb b 256 low)
    ∙ (ap (λ t. t && (nat_lt n 256 && true)) (lt-ltb (16 + n) 256 (omega (arith, short)))
    ∙ ap (λ t. t && true) (lt-ltb n 256 (omega (arith, short)))))

-- a peer takes it
pub record IsRequest (q : Asking) : Type 0 where
  pub short : length (request_octets q) ≤ 48
  pub octets : are_octets (request_octets q) ≡ true
  pub asks : transaction_of (pdu_in (request_octets q)) ≡ Some q.transaction

pub request_so : (q : Asking) → IsAsking q → IsRequest q
request_so q so =
    let short = so.short in
    let counted = so.counted in
    let within = so.within in
    let size : length (request_parameters q.continuation) ≡ 16 + length q.continuation = omega arith in
    record {
      short = let whole = ap length (request_is q short) in omega (arith, whole, short, length-append (front (q.transaction / 256 % 256) (q.transaction % 256) 0 (16 + length q.continuation) (length q.continuation)) q.continuation);
      octets = subst (λ xs. are_octets xs ≡ true) (request_is q short)
          (octets_all (front (q.transaction / 256 % 256) (q.transaction % 256) 0 (16 + length q.continuation) (length q.continuation)) q.continuation
          (front_octets (q.transaction / 256 % 256) (q.transaction % 256) (length q.continuation) (omega arith) (omega arith) short) (octets_of q.continuation so.octets));
      asks = ap transaction_of (pdu_again 6 q.transaction (request_parameters q.continuation) (omega (arith, counted, within)) (omega (arith, size, short)));
    }

-- it is awaited from then on
pub request_awaited : (q : Asking) → is_due q ≡ true → awaited (after_request q) ≡ Some q.transaction
request_awaited q due = by q.stage due
  where
    by : (stage : Stage) → waits stage ≡ true → awaited_at (written stage) q.transaction ≡ Some q.transaction
    by Due is = refl
    by Again is = refl
    by Written is = cc
    by Answered is = cc
    by (Refused reason) is = cc

pub again_awaited : (q : Asking) → awaited (after_resend q) ≡ awaited q
again_awaited q = by q.stage
  where
    by : (stage : Stage) → awaited_at (again stage) q.transaction ≡ awaited_at stage q.transaction
    by Due = refl
    by Written = refl
    by Again = refl
    by Answered = refl
    by (Refused reason) = refl
