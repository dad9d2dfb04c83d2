-- How far an object is, looking back to its begin.
use Rattle.std.proofs.Common.{◌≡◌, List, [], ◌∷◌, ◌++◌, Bool, true, false, cond, ◌||◌, eqb, not, Option, Some, None, refl, ap, ◌∙◌}
use Rattle.std.specs.Prelude.{option_map}
use Rattle.std.specs.List.{list_any}
use Rattle.std.proofs.lemmas.List.Folds.{list_any-append}
use Rattle.link_talk.specs.declared.course.Asked.TheVariants.{Put, Other, Refused}
use Rattle.link_talk.specs.declared.course.Course.{Course}
use Rattle.link_talk.specs.declared.course.Course.TheVariants.{Resting, Offered, Singly, Together, Silent}
use Rattle.link_talk.specs.Silences.{after_asked, after_answer}
use Rattle.talk_laws.specs.Words.{Word, Asks, Says, is_more_put, refuses}
use Rattle.talk_laws.specs.Courses.{ends_object, ends_singly, singly_since, together_since, answered_since, offered_since, course_since, ObjectBegun, course_now, begins_one, asks_single, with_word, begun_after}

abbrev pub after_word : Course → Word → Course
after_word course (Asks asked) = after_asked course asked
after_word course (Says code single) = after_answer course code single

-- ---- a word that begins no object

resting : (word : Word) → begins_one Resting word ≡ false → Resting ≡ after_word Resting word
resting (Asks (Put true named single)) none = refl
resting (Asks (Put false named single)) none = cc
resting (Asks Other) none = refl
resting (Asks Refused) none = refl
resting (Says code single) none = refl

ended : (course : Course) (word : Word) → ends_object word ≡ true → Resting ≡ after_word course word
ended Resting (Asks (Put true named single)) is = refl
ended Offered (Asks (Put true named single)) is = refl
ended Singly (Asks (Put true named single)) is = refl
ended Together (Asks (Put true named single)) is = refl
ended Silent (Asks (Put true true single)) is = refl
ended Silent (Asks (Put true false single)) is = refl
ended course (Asks (Put false named single)) is = cc
ended course (Asks Other) is = refl
ended course (Asks Refused) is = cc
ended course (Says code single) is = cc

either : (on : Bool) (kept turned : Course) → cond (not on || false) turned kept ≡ cond on kept turned
either true kept turned = refl
either false kept turned = refl

singly_word : (word : Word) → ends_object word ≡ false → cond (ends_singly word || false) Resting Singly ≡ after_word Singly word
singly_word (Asks (Put true named single)) on = cc
singly_word (Asks (Put false named single)) on = refl
singly_word (Asks Other) on = cc
singly_word (Asks Refused) on = refl
singly_word (Says code single) on = either (eqb code 0x90) Singly Resting

singly_by : (word : Word) (broken : Bool) → ends_object word ≡ false → begins_one (cond broken Resting Singly) word ≡ false → cond (broken || (ends_singly word || false)) Resting Singly ≡ after_word (cond broken Resting Singly) word
singly_by word true on none = resting word none
singly_by word false on none = singly_word word on

singly : (since : List Word) (word : Word) → ends_object word ≡ false → begins_one (singly_since since) word ≡ false → singly_since (since ++ word ∷ []) ≡ after_word (singly_since since) word
singly since word on none = ap (λ b. cond b Resting Singly) (list_any-append ends_singly since (word ∷ [])) ∙ singly_by word (list_any ends_singly since) on none

together_word : (word : Word) → ends_object word ≡ false → cond (refuses word || false) Silent Together ≡ after_word Together word
together_word (Asks (Put true named single)) on = cc
together_word (Asks (Put false named single)) on = refl
together_word (Asks Other) on = cc
together_word (Asks Refused) on = refl
together_word (Says code single) on = either (eqb code 0x90) Together Silent

silent_word : (word : Word) → ends_object word ≡ false → begins_one Silent word ≡ false → Silent ≡ after_word Silent word
silent_word (Asks (Put true named single)) on none = cc
silent_word (Asks (Put false true single)) on none = cc
silent_word (Asks (Put false false single)) on none = refl
silent_word (Asks Other) on none = cc
silent_word (Asks Refused) on none = refl
silent_word (Says code single) on none = refl

together_by : (word : Word) (refused : Bool) → ends_object word ≡ false → begins_one (cond refused Silent Together) word ≡ false → cond (refused || (refuses word || false)) Silent Together ≡ after_word (cond refused Silent Together) word
together_by word true on none = silent_word word on none
together_by word false on none = together_word word on

together : (since : List Word) (word : Word) → ends_object word ≡ false → begins_one (together_since since) word ≡ false → together_since (since ++ word ∷ []) ≡ after_word (together_since since) word
together since word on none = ap (λ b. cond b Silent Together) (list_any-append refuses since (word ∷ [])) ∙ together_by word (list_any refuses since) on none

answered_by : (since : List Word) (word : Word) (goes_on single : Bool) → ends_object word ≡ false → begins_one (cond goes_on (cond single (together_since since) (singly_since since)) Resting) word ≡ false
    → cond goes_on (cond single (together_since (since ++ word ∷ [])) (singly_since (since ++ word ∷ []))) Resting ≡ after_word (cond goes_on (cond single (together_since since) (singly_since since)) Resting) word
answered_by since word true true on none = together since word on none
answered_by since word true false on none = singly since word on none
answered_by since word false single on none = resting word none

answered : (first : Word) (since : List Word) (word : Word) → ends_object word ≡ false → begins_one (answered_since first since) word ≡ false → answered_since first (since ++ word ∷ []) ≡ after_word (answered_since first since) word
answered (Asks asked) since word on none = resting word none
answered (Says code single) since word on none = answered_by since word (eqb code 0x90) single on none

offered_word : (word : Word) → ends_object word ≡ false → offered_since (word ∷ []) ≡ after_word Offered word
offered_word (Asks (Put true named single)) on = cc
offered_word (Asks (Put false named single)) on = refl
offered_word (Asks Other) on = cc
offered_word (Asks Refused) on = refl
offered_word (Says code single) on = refl

offered_by : (first : Word) (since : List Word) (word : Word) (more : Bool) → (begins_one (offered_since since) word ≡ false → offered_since (since ++ word ∷ []) ≡ after_word (offered_since since) word)
    → ends_object word ≡ false → begins_one (cond more (offered_since since) (answered_since first since)) word ≡ false
    → cond more (offered_since (since ++ word ∷ [])) (answered_since first (since ++ word ∷ [])) ≡ after_word (cond more (offered_since since) (answered_since first since)) word
offered_by first since word true rest on none = rest none
offered_by first since word false rest on none = answered first since word on none

offered : (since : List Word) (word : Word) → ends_object word ≡ false → begins_one (offered_since since) word ≡ false → offered_since (since ++ word ∷ []) ≡ after_word (offered_since since) word
offered [] word on none = offered_word word on
offered (first ∷ since) word on none = offered_by first since word (is_more_put first) (offered since word on) on none

going : (single : Bool) (since : List Word) (word : Word) → ends_object word ≡ false → begins_one (cond single (offered_since since) (singly_since since)) word ≡ false
    → cond single (offered_since (since ++ word ∷ [])) (singly_since (since ++ word ∷ [])) ≡ after_word (cond single (offered_since since) (singly_since since)) word
going true since word on none = offered since word on none
going false since word on none = singly since word on none

goes_by : (word : Word) (old new : Course) (over now : Bool) → ends_object word ≡ now → (ends_object word ≡ false → begins_one old word ≡ false → new ≡ after_word old word) → begins_one (cond over Resting old) word ≡ false
    → cond (over || (now || false)) Resting new ≡ after_word (cond over Resting old) word
goes_by word old new true now is on none = resting word none
goes_by word old new false true is on none = ended old word is
goes_by word old new false false is on none = on is none

goes_on : (single : Bool) (since : List Word) (word : Word) → begins_one (course_since single since) word ≡ false → course_since single (since ++ word ∷ []) ≡ after_word (course_since single since) word
goes_on single since word none =
    let new = cond single (offered_since (since ++ word ∷ [])) (singly_since (since ++ word ∷ [])) in
    ap (λ b. cond b Resting new) (list_any-append ends_object since (word ∷ []))
    ∙ goes_by word (cond single (offered_since since) (singly_since since)) new (list_any ends_object since) (ends_object word) refl (going single since word) none

-- ---- a word that begins one

begins : (course : Course) (word : Word) → begins_one course word ≡ true → course_since (asks_single word) [] ≡ after_word course word
begins Resting (Asks (Put true named single)) is = cc
begins Resting (Asks (Put false named single)) is = refl
begins Resting (Asks Other) is = cc
begins Resting (Asks Refused) is = cc
begins Resting (Says code single) is = cc
begins Offered word is = cc
begins Singly word is = cc
begins Together word is = cc
begins Silent (Asks (Put true true single)) is = cc
begins Silent (Asks (Put true false single)) is = cc
begins Silent (Asks (Put false true single)) is = refl
begins Silent (Asks (Put false false single)) is = cc
begins Silent (Asks Other) is = cc
begins Silent (Asks Refused) is = cc
begins Silent (Says code single) is = cc

none_yet : (word : Word) → begins_one Resting word ≡ false → course_now (option_map (with_word word) None) ≡ after_word Resting word
none_yet word none = resting word none

either_way : (last : Option ObjectBegun) (word : Word) (anew : Bool) → begins_one (course_now last) word ≡ anew
    → course_now (cond anew (Some (record { single = asks_single word; since = [] })) (option_map (with_word word) last)) ≡ after_word (course_now last) word
either_way last word true is = begins (course_now last) word is
either_way None word false is = none_yet word is
either_way (Some begun) word false is = goes_on begun.single begun.since word is

pub course-word : (last : Option ObjectBegun) (word : Word) → course_now (begun_after last word) ≡ after_word (course_now last) word
course-word last word = either_way last word (begins_one (course_now last) word) refl
