-- What the query of a client makes of a reply is what the reading of its talk makes of it.
use Rattle.std.proofs.Common.{◌≡◌, ℕ, ◌+◌, ◌-◌, ◌≤◌, List, [], ◌∷◌, ◌++◌, drop, Bool, true, false, cond, eqb, not, ◌&&◌, Option, Some, None, refl, sym, ap, ap₂, subst, ◌∙◌, append-nil, arith}
use Rattle.std.specs.Prelude.{nat_le, nat_lt, length, slice_index}
use Rattle.std.proofs.lemmas.Bool.{and_parts, eqb-true, leb-true, le-leb}
use Rattle.channel_laws.specs.channel_model.proofs.Lookups.{and_off}
use Rattle.byteorder.specs.Endian.{big_number}
use Rattle.shelf_model.specs.capture.specs.declared.flow.Flow.TheVariants.{Into}
use Rattle.shelf_model.specs.sdp_elements.specs.declared.target.Target.{Target}
use Rattle.shelf_model.specs.sdp_elements.specs.Pdus.{PlainPdu, states_length, pdu_in}
use Rattle.shelf_model.specs.sdp_elements.specs.Targets.{target_in}
use Rattle.shelf_model.specs.sdp_client.specs.declared.query.Stage.{Stage}
use Rattle.shelf_model.specs.sdp_client.specs.declared.query.Stage.TheVariants as stages
use Rattle.shelf_model.specs.sdp_client.specs.declared.reason.Found.{Found}
use Rattle.shelf_model.specs.sdp_client.specs.declared.reason.Found.TheVariants.{More, Service, NoService, Refused}
use Rattle.shelf_model.specs.sdp_client.specs.declared.reason.QueryReason.{QueryReason}
use Rattle.shelf_model.specs.sdp_client.specs.declared.reason.QueryReason.TheVariants.{BadReply, ErrorCode, WrongTransaction, TooLong}
use Rattle.shelf_model.specs.sdp_client.specs.Asking.{Asking}
use Rattle.shelf_model.specs.sdp_client.specs.Hearing.{ended, found_target, found_in, after_whole, with_part, asks_on, found_part, after_part, found_said, when_said, found_when, after_when, found_at, after_reply}
use Rattle.shelf_model.specs.sdp_client.specs.Replies.{PlainPart, part_in, said_by, given, is_of_another}
use Rattle.push_laws.specs.link_talk.specs.Sdus.{Spoken, spoken_as}
use Rattle.push_laws.specs.link_talk.specs.ServiceAnswers.{part_of, part_with, parts_from, joined_from}
use Rattle.channel_laws.specs.talk_laws.specs.LinkAnswers.{unfinished_after, answers_now}
use Rattle.host_laws.proofs.Querying.{awaited_at, awaited}

-- ---- what a reply says

abbrev pub came : List ℕ → List Spoken
came sdu = spoken_as Into sdu ∷ []

-- of an answer that is whole, the way to the service is that of this target
pub record Tells (target : Target) (answers : List (List ℕ)) : Type 0 where
  pub answer : List ℕ
  pub only : answers ≡ answer ∷ []
  pub heard_is : target_in answer ≡ Some target

-- the octets of an answer that is not whole
abbrev pub unfinished_with : Asking → List ℕ → List ℕ
unfinished_with q sdu = unfinished_after q.joined (parts_from (awaited q) (came sdu))

abbrev pub Goes : Asking → List ℕ → Type 0
Goes q sdu = unfinished_with q sdu ≡ (after_reply q sdu).joined

-- a query that goes on holds what is joined so far, and one that found a target has it of a whole answer
abbrev pub Reads : Asking → List ℕ → Found → Type 0
Reads q sdu More = Goes q sdu
Reads q sdu (Service target) = Tells target (answers_now (awaited q) q.joined (came sdu))
Reads q sdu NoService = Unit {0}
Reads q sdu (Refused reason) = reason ≡ WrongTransaction → Goes q sdu

-- ---- by the parts that come

-- the same by these parts
abbrev pub PartsRead : Asking → List PlainPart → (after : Asking) → Found → Type 0
PartsRead q parts after More = unfinished_after q.joined parts ≡ after.joined
PartsRead q parts after (Service target) = Tells target (joined_from q.joined parts)
PartsRead q parts after NoService = Unit {0}
PartsRead q parts after (Refused reason) = reason ≡ WrongTransaction → unfinished_after q.joined parts ≡ after.joined

abbrev pub named : (l2cap rfcomm : Option ℕ) → Option Target
named l2cap rfcomm = Some (record { l2cap = l2cap; rfcomm = rfcomm })

pub target_reads : (q : Asking) (part : PlainPart) (after : Asking) (l2cap rfcomm : Option ℕ) (heard : Target) → target_in (q.joined ++ part.octets) ≡ Some heard → heard.l2cap ≡ l2cap → heard.rfcomm ≡ rfcomm → joined_from q.joined (part ∷ []) ≡ (q.joined ++ part.octets) ∷ []
    → PartsRead q (part ∷ []) after (found_target l2cap rfcomm)
target_reads q part after None None heard is l r only = tt
target_reads q part after None (Some rfcomm) heard is l r only = record { answer = q.joined ++ part.octets; only = only; heard_is = is ∙ ap₂ named l r }
target_reads q part after (Some l2cap) rfcomm heard is l r only = record { answer = q.joined ++ part.octets; only = only; heard_is = is ∙ ap₂ named l r }

pub whole_reads : (q : Asking) (part : PlainPart) (after : Asking) (found : Option Target) → target_in (q.joined ++ part.octets) ≡ found → joined_from q.joined (part ∷ []) ≡ (q.joined ++ part.octets) ∷ [] → PartsRead q (part ∷ []) after (found_in found)
whole_reads q part after None is only = λ other. cc
whole_reads q part after (Some heard) is only = target_reads q part after heard.l2cap heard.rfcomm heard is refl refl only

pub part_reads : (q : Asking) (part : PlainPart) → PartsRead q (part ∷ []) (after_part q part) (found_part q part)
part_reads q part = by (nat_lt 4096 (length (q.joined ++ part.octets))) (eqb (length part.continuation) 0) refl
  where
    by : (long last : Bool) → eqb (length part.continuation) 0 ≡ last
        → PartsRead q (part ∷ []) (cond long (ended q TooLong) (cond last (after_whole (with_part q part)) (asks_on (with_part q part) part.continuation))) (cond long (Refused TooLong) (cond last (found_in (target_in (q.joined ++ part.octets))) More))
    by true last is = λ other. cc
    by false true is = whole_reads q part (after_whole (with_part q part)) (target_in (q.joined ++ part.octets)) refl (ap (λ b. cond b ((q.joined ++ part.octets) ∷ []) []) is)
    by false false is = ap (λ b. cond b [] (q.joined ++ part.octets)) is

-- ---- by the PDU that comes

abbrev pub PduReads : Asking → ℕ → Option PlainPdu → Type 0
PduReads q transaction pdu = PartsRead q (part_of transaction pdu) (when_said q (said_by pdu)) (found_said q (said_by pdu))

pub answer_reads : (q : Asking) (transaction : ℕ) (pdu : PlainPdu) → eqb pdu.transaction transaction ≡ true → PduReads q transaction (Some pdu)
answer_reads q transaction pdu mine = by (eqb pdu.identifier 1) refl (eqb (length pdu.parameters) 2) refl (eqb pdu.identifier 7) refl (part_in pdu.parameters) refl
  where
    two_ways : {X : Type 0} → eqb pdu.identifier 1 ≡ true → eqb pdu.identifier 7 ≡ true → X
    two_ways one seven = let never : 1 ≡ 7 = sym (eqb-true pdu.identifier 1 one) ∙ eqb-true pdu.identifier 7 seven in absurd (omega (arith, never))

    by : (one : Bool) → eqb pdu.identifier 1 ≡ one → (two : Bool) → eqb (length pdu.parameters) 2 ≡ two → (seven : Bool) → eqb pdu.identifier 7 ≡ seven → (found : Option PlainPart) → part_in pdu.parameters ≡ found → PduReads q transaction (Some pdu)
    by true one two two_is true seven found is = two_ways one seven
    by true one true two_is false seven found is = rw (one, two_is, seven) (λ other. cc)
    by true one false two_is false seven found is = rw (one, two_is, seven) (λ other. cc)
    by false one two two_is false seven found is = rw (one, seven) (λ other. cc)
    by false one two two_is true seven None is = rw (one, seven, is, mine) (λ other. cc)
    by false one two two_is true seven (Some part) is = rw (one, seven, is, mine) (part_reads q part)

pub pdu_reads : (q : Asking) (transaction : ℕ) (octets : List ℕ) → is_of_another octets transaction ≡ false → PduReads q transaction (pdu_in octets)
pdu_reads q transaction octets ours = by (nat_le 5 (length octets) && eqb (states_length octets) (length octets - 5)) refl
  where
    pdu : PlainPdu
    pdu = record { identifier = slice_index octets 0; transaction = big_number 2 (drop 1 octets); parameters = drop 5 octets }

    mine : (b : Bool) → (nat_le 3 (length octets) && not b) ≡ false → nat_le 3 (length octets) ≡ true → b ≡ true
    mine true is long = refl
    mine false is long = let never : true ≡ false = sym (ap (λ x. x && true) long) ∙ is in absurd cc

    by : (whole : Bool) → (nat_le 5 (length octets) && eqb (states_length octets) (length octets - 5)) ≡ whole → PduReads q transaction (cond whole (Some pdu) None)
    by false is = λ other. cc
    by true is =
        let five = leb-true 5 (length octets) (and_parts (nat_le 5 (length octets)) (eqb (states_length octets) (length octets - 5)) is).0 in
        answer_reads q transaction pdu (mine (eqb pdu.transaction transaction) ours (le-leb 3 (length octets) (omega (arith, five))))

-- one of another transaction has no part
pub others_none : (transaction : ℕ) (octets : List ℕ) → is_of_another octets transaction ≡ true → part_of transaction (pdu_in octets) ≡ []
others_none transaction octets other = by (nat_le 5 (length octets) && eqb (states_length octets) (length octets - 5))
  where
    pdu : PlainPdu
    pdu = record { identifier = slice_index octets 0; transaction = big_number 2 (drop 1 octets); parameters = drop 5 octets }

    apart : (b : Bool) → (nat_le 3 (length octets) && not b) ≡ true → b ≡ false
    apart true is = let never : false ≡ true = sym (and_off (nat_le 3 (length octets))) ∙ is in absurd cc
    apart false is = refl

    none : eqb pdu.transaction transaction ≡ false
    none = apart (eqb pdu.transaction transaction) other

    by : (whole : Bool) → part_of transaction (cond whole (Some pdu) None) ≡ []
    by false = refl
    by true = rw (none, and_off (eqb pdu.identifier 7)) refl

-- ---- a reply

pub awaited_reads : (q : Asking) (sdu : List ℕ) → awaited q ≡ Some q.transaction → (another : Bool) → is_of_another sdu q.transaction ≡ another
    → PartsRead q (part_of q.transaction (pdu_in sdu)) (cond another q (when_said q (said_by (pdu_in sdu)))) (cond another (Refused WrongTransaction) (found_said q (said_by (pdu_in sdu))))
awaited_reads q sdu waits true is = λ same. ap (unfinished_after q.joined) (others_none q.transaction sdu is)
awaited_reads q sdu waits false is = pdu_reads q q.transaction sdu is

-- by what it found
pub reply_reads : (q : Asking) (sdu : List ℕ) → Reads q sdu (found_at q sdu)
reply_reads q sdu = by (found_at q sdu) (at q.stage refl)
  where
    parts : List PlainPart
    parts = parts_from (awaited q) (came sdu)

    ReadsAt : Stage → Type 0
    ReadsAt stage = PartsRead q (part_with Into (awaited_at stage q.transaction) sdu) (after_when stage q sdu) (found_when stage q sdu)

    at_stage : (stage : Stage) → q.stage ≡ stage → ReadsAt stage
    at_stage stages.Due is = λ same. refl
    at_stage stages.Written is = awaited_reads q sdu (ap (λ s. awaited_at s q.transaction) is) (is_of_another sdu q.transaction) refl
    at_stage stages.Again is = awaited_reads q sdu (ap (λ s. awaited_at s q.transaction) is) (is_of_another sdu q.transaction) refl
    at_stage stages.Answered is = λ same. refl
    at_stage (stages.Refused reason) is = λ same. refl

    at : (stage : Stage) → q.stage ≡ stage → PartsRead q parts (after_reply q sdu) (found_at q sdu)
    at stage is = subst (λ ps. PartsRead q ps (after_reply q sdu) (found_at q sdu)) (sym (append-nil (part_with Into (awaited q) sdu))) (subst ReadsAt (sym is) (at_stage stage is))

    by : (found : Found) → PartsRead q parts (after_reply q sdu) found → Reads q sdu found
    by More reads = reads
    by (Service target) reads = reads
    by NoService reads = tt
    by (Refused reason) reads = reads
