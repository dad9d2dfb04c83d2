-- The answers of service discovery on a channel, looking back from each reply (Core 5.1, Volume 3 Part B, 4.2, 4.3 and 4.7).
use Rattle.std.specs.Prelude.{ℕ, ◌≡◌, not, Bool, true, false, List, [], ◌∷◌, ◌++◌, fold, Option, None}
use Rattle.std.specs.List.{flat_map, AllByRecursion}
use Rattle.link_talk.specs.capture.specs.declared.flow.Flow.{Flow}
use Rattle.link_talk.specs.capture.specs.declared.flow.Flow.TheVariants.{Out, Into}
use Rattle.link_talk.specs.capture.specs.Histories.{given_by}
use Rattle.link_talk.specs.sdp_elements.specs.Pdus.{pdu_in}
use Rattle.link_talk.specs.sdp_client.specs.Replies.{PlainPart, is_of_another}
use Rattle.link_talk.specs.Sdus.{Spoken}
use Rattle.link_talk.specs.ServiceAnswers.{transaction_of, waiting_after, part_with, is_last, answers_in}
use Rattle.talk_laws.specs.Unanswered.{last_unanswered}

-- ---- which request waits

-- the transaction of a request of the host for attributes
abbrev pub asked_by : Flow → List ℕ → Option ℕ
asked_by Out octets = transaction_of (pdu_in octets)
asked_by Into octets = None

abbrev pub asked : Spoken → Option ℕ
asked sdu = asked_by sdu.flow sdu.octets

-- a reply of the peer that has no other transaction
abbrev pub replied_by : Flow → ℕ → List ℕ → Bool
replied_by Out transaction octets = false
replied_by Into transaction octets = not (is_of_another octets transaction)

abbrev pub replies : ℕ → Spoken → Bool
replies transaction sdu = replied_by sdu.flow transaction sdu.octets

-- the transaction of the last request, if no reply to it stands behind it
abbrev pub unanswered : List Spoken → Option ℕ
unanswered sdus = last_unanswered asked replies sdus

-- ---- the parts, and the answers

-- a reply is part of an answer where the request waits that it answers
abbrev pub part_behind : List Spoken → Spoken → List PlainPart
part_behind past more = part_with more.flow (unanswered past) more.octets

abbrev pub parts : List Spoken → List PlainPart
parts sdus = given_by part_behind sdus

-- The answers are the octets of the parts up to the first that no other follows, then of those up to the next such part,
-- and so on; an answer that did not come to its end is none.
abbrev pub AreJoined : List PlainPart → List (List ℕ) → Type 0
AreJoined parts [] = AllByRecursion (λ part. is_last part ≡ false) parts
AreJoined parts (answer ∷ answers) =
    (front : List PlainPart) × (last : PlainPart) × (behind : List PlainPart) × (parts ≡ front ++ last ∷ behind)
    × AllByRecursion (λ part. is_last part ≡ false) front × (is_last last ≡ true)
    × (answer ≡ flat_map (λ (part : PlainPart). part.octets) (front ++ last ∷ [])) × AreJoined behind answers

-- ---- the laws

-- what one pass finds is this, for all SDUs
pub record ServiceAnswersLookBack : Type 0 where
  pub waits : (sdus : List Spoken) → fold waiting_after None sdus ≡ unanswered sdus
  pub joined : (sdus : List Spoken) → AreJoined (parts sdus) (answers_in sdus)
  pub only : (sdus : List Spoken) (answers : List (List ℕ)) → AreJoined (parts sdus) answers → answers ≡ answers_in sdus
