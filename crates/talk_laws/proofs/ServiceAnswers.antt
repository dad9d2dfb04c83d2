-- Answers of service discovery, looking back and in one pass.
use Rattle.std.proofs.Common.{◌≡◌, ℕ, List, [], ◌∷◌, ◌++◌, Bool, true, false, cond, ◌||◌, not, Option, Some, None, refl, sym, ap, subst, ◌∙◌, append_assoc, append-nil}
use Rattle.std.specs.Option.{option_or}
use Rattle.std.specs.List.{flat_map, AllByRecursion}
use Rattle.std.proofs.lemmas.Grind.{flat_map-append}
use Rattle.link_talk.specs.capture.specs.declared.flow.Flow.{Flow}
use Rattle.link_talk.specs.capture.specs.declared.flow.Flow.TheVariants.{Out, Into}
use Rattle.link_talk.specs.capture.specs.Histories.{each_after}
use Rattle.link_talk.specs.sdp_elements.specs.Pdus.{pdu_in}
use Rattle.link_talk.specs.sdp_client.specs.Replies.{PlainPart, is_of_another}
use Rattle.link_talk.specs.Sdus.{Spoken}
use Rattle.link_talk.specs.ServiceAnswers.{transaction_of, waiting_with, waiting_after, part_with, parts_from, is_last, joined_from, answers_in}
use Rattle.link_talk.specs.ServiceAnswers as link
use Rattle.talk_laws.specs.Unanswered.{unless_answered}
use Rattle.talk_laws.specs.ServiceAnswers.{asked, replies, unanswered, part_behind, parts, AreJoined, ServiceAnswersLookBack}
use Rattle.talk_laws.proofs.Unanswered.{waiting_behind, unanswered-more, pass-finds}

-- ---- which request waits

abbrev sdu : Flow → List ℕ → Spoken
sdu flow octets = record { flow = flow; octets = octets }

out_is : (waiting : Option ℕ) (octets : List ℕ) (found : Option ℕ) → link.asked_by waiting found ≡ option_or found (unless_answered replies (sdu Out octets ∷ []) waiting)
out_is None octets None = refl
out_is (Some transaction) octets None = refl
out_is waiting octets (Some transaction) = refl

came_by : (transaction : ℕ) (another : Bool) → cond another (Some transaction) None ≡ cond (not another || false) None (Some transaction)
came_by transaction true = refl
came_by transaction false = refl

came_is : (waiting : Option ℕ) (octets : List ℕ) → link.answered_by waiting octets ≡ unless_answered replies (sdu Into octets ∷ []) waiting
came_is None octets = refl
came_is (Some transaction) octets = came_by transaction (is_of_another octets transaction)

after_is : (waiting : Option ℕ) (more : Spoken) → waiting_after waiting more ≡ waiting_behind asked replies waiting more
after_is waiting more = by_flow more.flow more.octets
  where
    by_flow : (flow : Flow) (octets : List ℕ) → waiting_with flow waiting octets ≡ waiting_behind asked replies waiting (sdu flow octets)
    by_flow Out octets = out_is waiting octets (transaction_of (pdu_in octets))
    by_flow Into octets = came_is waiting octets

with_more : (past : List Spoken) (more : Spoken) → unanswered (past ++ more ∷ []) ≡ waiting_after (unanswered past) more
with_more past more = unanswered-more asked replies past more ∙ sym (after_is (unanswered past) more)

-- ---- the parts

parts_behind : (past sdus : List Spoken) → parts_from (unanswered past) sdus ≡ each_after part_behind past sdus
parts_behind past [] = refl
parts_behind past (more ∷ sdus) =
    ap (λ w. part_behind past more ++ parts_from w sdus) (sym (with_more past more)) ∙ ap (λ ps. part_behind past more ++ ps) (parts_behind (past ++ more ∷ []) sdus)

pub parts-are : (sdus : List Spoken) → parts_from None sdus ≡ parts sdus
parts-are sdus = parts_behind [] sdus

-- ---- the answers

abbrev all_octets : List PlainPart → List ℕ
all_octets list = flat_map (λ (part : PlainPart). part.octets) list

octets_more : (front : List PlainPart) (part : PlainPart) → all_octets (front ++ part ∷ []) ≡ all_octets front ++ part.octets
octets_more front part = flat_map-append (λ (one : PlainPart). one.octets) front (part ∷ []) ∙ ap (λ xs. all_octets front ++ xs) (append-nil part.octets)

abbrev GoesOn : PlainPart → Type 0
GoesOn part = is_last part ≡ false

all_more : (front : List PlainPart) (part : PlainPart) → AllByRecursion GoesOn front → GoesOn part → AllByRecursion GoesOn (front ++ part ∷ [])
all_more [] part all is = (is, tt)
all_more (first ∷ front) part (now, all) is = (now, all_more front part all is)

joined_by : (front : List PlainPart) (part : PlainPart) (rest : List PlainPart) (last : Bool) → is_last part ≡ last → AllByRecursion GoesOn front
    → ((before : List PlainPart) → AllByRecursion GoesOn before → AreJoined (before ++ rest) (joined_from (all_octets before) rest))
    → AreJoined (front ++ part ∷ rest) (cond last ((all_octets front ++ part.octets) ∷ joined_from [] rest) (joined_from (all_octets front ++ part.octets) rest))
joined_by front part rest true is all behind = (front, part, rest, refl, all, is, sym (octets_more front part), behind [] tt)
joined_by front part rest false is all behind =
    subst (λ ps. AreJoined ps (joined_from (all_octets front ++ part.octets) rest)) (append_assoc front (part ∷ []) rest)
    (subst (λ so_far. AreJoined ((front ++ part ∷ []) ++ rest) (joined_from so_far rest)) (octets_more front part) (behind (front ++ part ∷ []) (all_more front part all is)))

joined_behind : (rest front : List PlainPart) → AllByRecursion GoesOn front → AreJoined (front ++ rest) (joined_from (all_octets front) rest)
joined_behind [] front all = subst (AllByRecursion GoesOn) (sym (append-nil front)) all
joined_behind (part ∷ rest) front all = joined_by front part rest (is_last part) refl all (joined_behind rest)

over_front : (so_far : List ℕ) (front rest : List PlainPart) → AllByRecursion GoesOn front → joined_from so_far (front ++ rest) ≡ joined_from (so_far ++ all_octets front) rest
over_front so_far [] rest all = ap (λ xs. joined_from xs rest) (sym (append-nil so_far))
over_front so_far (part ∷ front) rest (is, all) =
    ap (λ b. cond b ((so_far ++ part.octets) ∷ joined_from [] (front ++ rest)) (joined_from (so_far ++ part.octets) (front ++ rest))) is
    ∙ (over_front (so_far ++ part.octets) front rest all ∙ ap (λ xs. joined_from xs rest) (append_assoc so_far part.octets (all_octets front)))

none_whole : (parts : List PlainPart) → AllByRecursion GoesOn parts → joined_from [] parts ≡ []
none_whole parts all = ap (joined_from []) (sym (append-nil parts)) ∙ over_front [] parts [] all

only_joined : (parts : List PlainPart) (answers : List (List ℕ)) → AreJoined parts answers → answers ≡ joined_from [] parts
only_joined parts [] all = sym (none_whole parts all)
only_joined parts (answer ∷ answers) (front, last, behind, is, all, ends, whole, rest) =
    ap (λ a. a ∷ answers) (whole ∙ octets_more front last)
    ∙ (ap (λ rest_. (all_octets front ++ last.octets) ∷ rest_) (only_joined behind answers rest)
    ∙ sym (ap (joined_from []) is
    ∙ (over_front [] front (last ∷ behind) all
    ∙ ap (λ b. cond b ((all_octets front ++ last.octets) ∷ joined_from [] behind) (joined_from (all_octets front ++ last.octets) behind)) ends)))

pub service_answers-look_back : ServiceAnswersLookBack
service_answers-look_back = record {
  waits = pass-finds asked replies waiting_after after_is;
  joined = λ sdus. subst (λ ps. AreJoined ps (answers_in sdus)) (parts-are sdus) (joined_behind (parts_from None sdus) [] tt);
  only = λ sdus answers are. only_joined (parts sdus) answers are ∙ ap (joined_from []) (sym (parts-are sdus));
}
