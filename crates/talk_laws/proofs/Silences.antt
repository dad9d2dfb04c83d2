-- What a server passes over, looking back and in one pass.
use Rattle.std.proofs.Common.{◌≡◌, ℕ, List, [], ◌∷◌, ◌++◌, fold, Bool, true, false, cond, ◌&&◌, eqb, not, None, refl, sym, ap, subst, ◌∙◌, append_assoc}
use Rattle.std.specs.List.{AllByRecursion}
use Rattle.std.proofs.lemmas.List.{map-append}
use Rattle.std.proofs.lemmas.List.Sums.{fold-append}
use Rattle.link_talk.specs.capture.specs.declared.flow.Flow.{Flow}
use Rattle.link_talk.specs.capture.specs.Histories.{each_after, given_by}
use Rattle.link_talk.specs.capture.specs.Pdus.{same_flow}
use Rattle.link_talk.specs.capture.proofs.HistoryLaws.{given_by-more, each_after-append}
use Rattle.link_talk.specs.obex_headers.specs.declared.packet.Phase.TheVariants as phases
use Rattle.link_talk.specs.obex_headers.specs.Reading.{packet_in}
use Rattle.link_talk.specs.Sdus.{Spoken}
use Rattle.link_talk.specs.Exchanges.{code_of, exchanges}
use Rattle.link_talk.specs.declared.course.Asked.TheVariants.{Put, Other, Refused}
use Rattle.link_talk.specs.declared.course.Course.{Course}
use Rattle.link_talk.specs.declared.course.Course.TheVariants.{Resting, Offered, Singly, Together, Silent}
use Rattle.link_talk.specs.Silences.{asked_in, answers_single, after_asked, after_answer, course_after, answered_from, answered, channel_exchanges}
use Rattle.talk_laws.specs.Exchanges.{answered_behind}
use Rattle.talk_laws.specs.Words.{Word, Asks, Says, word_of, begins_with, is_more_put, grants, stays_together, refuses, stays_silent}
use Rattle.talk_laws.specs.Courses.{course_now, begun_after, course_back}
use Rattle.talk_laws.specs.Silences.{words, course_of, heard_behind, All, IsOffered, IsTogether, IsSilent, SilencesLookBack, SilencesGrow}
use Rattle.talk_laws.proofs.Passes.{from_end}
use Rattle.talk_laws.proofs.Exchanges.{exchanges-answered}
use Rattle.talk_laws.proofs.Courses.{after_word, course-word}

-- ---- one packet more

pub course-more : (requests : Flow) (most : ℕ) (past : List Spoken) (more : Spoken) → course_of requests most (past ++ more ∷ []) ≡ course_after requests most (course_of requests most past) more
course-more requests most past more = fold-append (course_after requests most) Resting past (more ∷ [])

answered_all : (requests : Flow) (most : ℕ) (past packets : List Spoken) → answered_from requests most (course_of requests most past) packets ≡ each_after (heard_behind requests most) past packets
answered_all requests most past [] = refl
answered_all requests most past (more ∷ packets) =
    ap (λ course. heard_behind requests most past more ++ answered_from requests most course packets) (sym (course-more requests most past more))
    ∙ ap (λ found. heard_behind requests most past more ++ found) (answered_all requests most (past ++ more ∷ []) packets)

answered-back : (requests : Flow) (most : ℕ) (packets : List Spoken) → answered requests most packets ≡ given_by (heard_behind requests most) packets
answered-back requests most packets = answered_all requests most [] packets

answered-more : (requests : Flow) (most : ℕ) (packets : List Spoken) (more : Spoken) → answered requests most (packets ++ more ∷ []) ≡ answered requests most packets ++ heard_behind requests most packets more
answered-more requests most packets more =
    answered-back requests most (packets ++ more ∷ [])
    ∙ (given_by-more (heard_behind requests most) packets more ∙ ap (λ found. found ++ heard_behind requests most packets more) (sym (answered-back requests most packets)))

exchanged-more : (requests : Flow) (most : ℕ) (packets : List Spoken) (more : Spoken)
    → channel_exchanges requests most (packets ++ more ∷ []) ≡ channel_exchanges requests most packets ++ each_after (answered_behind requests) (answered requests most packets) (heard_behind requests most packets more)
exchanged-more requests most packets more =
    let before = answered requests most packets in
    let now = heard_behind requests most packets more in
    ap (exchanges requests) (answered-more requests most packets more)
    ∙ (exchanges-answered requests (before ++ now)
    ∙ (each_after-append (answered_behind requests) [] before now
    ∙ ap (λ found. found ++ each_after (answered_behind requests) before now) (sym (exchanges-answered requests before))))

-- ---- a word more

word-step : (requests : Flow) (most : ℕ) (course : Course) (more : Spoken) → course_after requests most course more ≡ after_word course (word_of requests most more)
word-step requests most course more = by_way (same_flow requests more.flow)
  where
    by_way : (same : Bool) → cond same (after_asked course (asked_in most more.octets)) (after_answer course (code_of more.octets) (answers_single (packet_in phases.Response 65535 more.octets)))
        ≡ after_word course (cond same (Asks (asked_in most more.octets)) (Says (code_of more.octets) (answers_single (packet_in phases.Response 65535 more.octets))))
    by_way true = refl
    by_way false = refl

course-is : (requests : Flow) (most : ℕ) (past : List Spoken) → course_of requests most past ≡ course_back (words requests most past)
course-is requests most past = from_end (λ before. course_of requests most before ≡ course_back (words requests most before)) refl step past
  where
    step : (before : List Spoken) (more : Spoken) → course_of requests most before ≡ course_back (words requests most before) → course_of requests most (before ++ more ∷ []) ≡ course_back (words requests most (before ++ more ∷ []))
    step before more held =
        let word = word_of requests most more in
        let begun = fold begun_after None (words requests most before) in
        course-more requests most before more
        ∙ (word-step requests most (course_of requests most before) more
        ∙ (ap (λ course. after_word course word) held
        ∙ (sym (course-word begun word)
        ∙ (ap course_now (sym (fold-append begun_after None (words requests most before) (word ∷ []))) ∙ ap course_back (sym (map-append (word_of requests most) before (more ∷ [])))))))

-- ---- what stands behind

both : {X : Type 0} (P : X → Type 0) (xs : List X) (x : X) → AllByRecursion P xs → P x → AllByRecursion P (xs ++ x ∷ [])
both P [] x all now = (now, tt)
both P (y ∷ xs) x (first, rest) now = (first, both P xs x rest now)

longer : {X : Type 0} (past front since : List X) (x more : X) → past ≡ front ++ x ∷ since → past ++ more ∷ [] ≡ front ++ x ∷ (since ++ more ∷ [])
longer past front since x more is = ap (λ xs. xs ++ more ∷ []) is ∙ append_assoc front (x ∷ since) (more ∷ [])

-- what is known of each course
abbrev Traces : Flow → ℕ → Course → List Spoken → Type 0
Traces requests most Resting past = Unit {0}
Traces requests most Offered past = IsOffered requests most past
Traces requests most Singly past = Unit {0}
Traces requests most Together past = IsTogether requests most past
Traces requests most Silent past = IsSilent requests most past

-- an object begins
begun : (requests : Flow) (most : ℕ) (past : List Spoken) (more : Spoken) → begins_with (course_of requests most past) (word_of requests most more) ≡ true → IsOffered requests most (past ++ more ∷ [])
begun requests most past more is =
    record { front = past; first = more; since = []; parts = refl; begins = ap (λ c. begins_with c (word_of requests most more)) (sym (course-is requests most past)) ∙ is; puts = tt }

offered_on : (requests : Flow) (most : ℕ) (past : List Spoken) (more : Spoken) → IsOffered requests most past → is_more_put (word_of requests most more) ≡ true → IsOffered requests most (past ++ more ∷ [])
offered_on requests most past more held is = record {
  front = held.front;
  first = held.first;
  since = held.since ++ more ∷ [];
  parts = longer past held.front held.since held.first more held.parts;
  begins = held.begins;
  puts = both (λ one. is_more_put (word_of requests most one) ≡ true) held.since more held.puts is;
}

granted_now : (requests : Flow) (most : ℕ) (past : List Spoken) (more : Spoken) → IsOffered requests most past → grants (word_of requests most more) ≡ true → IsTogether requests most (past ++ more ∷ [])
granted_now requests most past more held is = record { front = past; granting = more; since = []; parts = refl; offered = held; granted = is; together = tt }

together_on : (requests : Flow) (most : ℕ) (past : List Spoken) (more : Spoken) → IsTogether requests most past → stays_together (word_of requests most more) ≡ true → IsTogether requests most (past ++ more ∷ [])
together_on requests most past more held is = record {
  front = held.front;
  granting = held.granting;
  since = held.since ++ more ∷ [];
  parts = longer past held.front held.since held.granting more held.parts;
  offered = held.offered;
  granted = held.granted;
  together = both (λ one. stays_together (word_of requests most one) ≡ true) held.since more held.together is;
}

refused_now : (requests : Flow) (most : ℕ) (past : List Spoken) (more : Spoken) → IsTogether requests most past → refuses (word_of requests most more) ≡ true → IsSilent requests most (past ++ more ∷ [])
refused_now requests most past more held is = record { front = past; refusing = more; since = []; parts = refl; before = held; refused = is; silent = tt }

silent_on : (requests : Flow) (most : ℕ) (past : List Spoken) (more : Spoken) → IsSilent requests most past → stays_silent (word_of requests most more) ≡ true → IsSilent requests most (past ++ more ∷ [])
silent_on requests most past more held is = record {
  front = held.front;
  refusing = held.refusing;
  since = held.since ++ more ∷ [];
  parts = longer past held.front held.since held.refusing more held.parts;
  before = held.before;
  refused = held.refused;
  silent = both (λ one. stays_silent (word_of requests most one) ≡ true) held.since more held.silent is;
}

-- ---- each word

-- a PUT that begins an object, or none
first_put : (requests : Flow) (most : ℕ) (now : List Spoken) (final single : Bool) → ((not final && single) ≡ true → IsOffered requests most now) → Traces requests most (cond final Resting (cond single Offered Singly)) now
first_put requests most now true single begins = tt
first_put requests most now false true begins = begins refl
first_put requests most now false false begins = tt

-- a PUT that goes on with one
next_put : (requests : Flow) (most : ℕ) (now : List Spoken) (course : Course) (final : Bool) → (not final ≡ true → Traces requests most course now) → Traces requests most (cond final Resting course) now
next_put requests most now course true on = tt
next_put requests most now course false on = on refl

silent_put : (requests : Flow) (most : ℕ) (now : List Spoken) (named final single : Bool) → ((named && (not final && single)) ≡ true → IsOffered requests most now) → ((not named && not final) ≡ true → IsSilent requests most now)
    → Traces requests most (cond named (cond final Resting (cond single Offered Singly)) (cond final Resting Silent)) now
silent_put requests most now true final single begins on = first_put requests most now final single begins
silent_put requests most now false final single begins on = next_put requests most now Silent final on

answer_offered : (requests : Flow) (most : ℕ) (now : List Spoken) (goes_on single : Bool) → ((goes_on && single) ≡ true → IsTogether requests most now) → Traces requests most (cond goes_on (cond single Together Singly) Resting) now
answer_offered requests most now true true granted = granted refl
answer_offered requests most now true false granted = tt
answer_offered requests most now false single granted = tt

answer_singly : (requests : Flow) (most : ℕ) (now : List Spoken) (goes_on : Bool) → Traces requests most (cond goes_on Singly Resting) now
answer_singly requests most now true = tt
answer_singly requests most now false = tt

put_singly : (requests : Flow) (most : ℕ) (now : List Spoken) (final : Bool) → Traces requests most (cond final Resting Singly) now
put_singly requests most now true = tt
put_singly requests most now false = tt

answer_together : (requests : Flow) (most : ℕ) (now : List Spoken) (goes_on : Bool) → (goes_on ≡ true → IsTogether requests most now) → (not goes_on ≡ true → IsSilent requests most now) → Traces requests most (cond goes_on Together Silent) now
answer_together requests most now true on refused = on refl
answer_together requests most now false on refused = refused refl

traced : (requests : Flow) (most : ℕ) (past : List Spoken) (more : Spoken) (course : Course) (word : Word) → course_of requests most past ≡ course → word_of requests most more ≡ word → Traces requests most course past
    → Traces requests most (after_word course word) (past ++ more ∷ [])
traced requests most past more Resting (Asks (Put final named single)) at says held =
    first_put requests most (past ++ more ∷ []) final single
    (λ is. begun requests most past more (ap (λ c. begins_with c (word_of requests most more)) at ∙ (ap (begins_with Resting) says ∙ is)))
traced requests most past more Resting (Asks Other) at says held = tt
traced requests most past more Resting (Asks Refused) at says held = tt
traced requests most past more Resting (Says code single) at says held = tt
traced requests most past more Offered (Asks (Put final named single)) at says held =
    next_put requests most (past ++ more ∷ []) Offered final (λ is. offered_on requests most past more held (ap is_more_put says ∙ is))
traced requests most past more Offered (Asks Other) at says held = tt
traced requests most past more Offered (Asks Refused) at says held = tt
traced requests most past more Offered (Says code single) at says held =
    answer_offered requests most (past ++ more ∷ []) (eqb code 0x90) single (λ is. granted_now requests most past more held (ap grants says ∙ is))
traced requests most past more Singly (Asks (Put final named single)) at says held = put_singly requests most (past ++ more ∷ []) final
traced requests most past more Singly (Asks Other) at says held = tt
traced requests most past more Singly (Asks Refused) at says held = tt
traced requests most past more Singly (Says code single) at says held = answer_singly requests most (past ++ more ∷ []) (eqb code 0x90)
traced requests most past more Together (Asks (Put final named single)) at says held =
    next_put requests most (past ++ more ∷ []) Together final (λ is. together_on requests most past more held (ap stays_together says ∙ is))
traced requests most past more Together (Asks Other) at says held = tt
traced requests most past more Together (Asks Refused) at says held = together_on requests most past more held (ap stays_together says)
traced requests most past more Together (Says code single) at says held =
    answer_together requests most (past ++ more ∷ []) (eqb code 0x90)
    (λ is. together_on requests most past more held (ap stays_together says ∙ is)) (λ is. refused_now requests most past more held (ap refuses says ∙ is))
traced requests most past more Silent (Asks (Put final named single)) at says held =
    silent_put requests most (past ++ more ∷ []) named final single
    (λ is. begun requests most past more (ap (λ c. begins_with c (word_of requests most more)) at ∙ (ap (begins_with Silent) says ∙ is)))
    (λ is. silent_on requests most past more held (ap stays_silent says ∙ is))
traced requests most past more Silent (Asks Other) at says held = tt
traced requests most past more Silent (Asks Refused) at says held = silent_on requests most past more held (ap stays_silent says)
traced requests most past more Silent (Says code single) at says held = silent_on requests most past more held (ap stays_silent says)

traced-all : (requests : Flow) (most : ℕ) (past : List Spoken) → Traces requests most (course_of requests most past) past
traced-all requests most past = from_end (λ before. Traces requests most (course_of requests most before) before) tt step past
  where
    step : (before : List Spoken) (more : Spoken) → Traces requests most (course_of requests most before) before → Traces requests most (course_of requests most (before ++ more ∷ [])) (before ++ more ∷ [])
    step before more held =
        subst (λ course. Traces requests most course (before ++ more ∷ [])) (sym (course-more requests most before more ∙ word-step requests most (course_of requests most before) more))
        (traced requests most before more (course_of requests most before) (word_of requests most more) refl refl held)

-- ---- the other way

-- words that leave a course as it is
abbrev Keeps : Course → (Word → Bool) → Type 0
Keeps course test = (word : Word) → test word ≡ true → after_word course word ≡ course

kept : (requests : Flow) (most : ℕ) (course : Course) (test : Word → Bool) (packets : List Spoken) → Keeps course test → All requests most test packets → fold (course_after requests most) course packets ≡ course
kept requests most course test [] keeps all = refl
kept requests most course test (more ∷ packets) keeps (first, rest) =
    ap (λ c. fold (course_after requests most) c packets) (word-step requests most course more ∙ keeps (word_of requests most more) first) ∙ kept requests most course test packets keeps rest

-- a course that a packet turns to, and those behind it leave
turned : (requests : Flow) (most : ℕ) (past front since : List Spoken) (x : Spoken) (course : Course) (test : Word → Bool) → past ≡ front ++ x ∷ since → after_word (course_of requests most front) (word_of requests most x) ≡ course
    → Keeps course test → All requests most test since → course_of requests most past ≡ course
turned requests most past front since x course test parts now keeps all =
    ap (course_of requests most) parts
    ∙ (fold-append (course_after requests most) Resting front (x ∷ since)
    ∙ (ap (λ c. fold (course_after requests most) c since) (word-step requests most (course_of requests most front) x ∙ now)
    ∙ kept requests most course test since keeps all))

not_final : (final : Bool) (course : Course) → not final ≡ true → cond final Resting course ≡ course
not_final true course is = cc
not_final false course is = refl

begins_put : (final single : Bool) → (not final && single) ≡ true → cond final Resting (cond single Offered Singly) ≡ Offered
begins_put true single is = cc
begins_put false true is = refl
begins_put false false is = cc

begins_named : (named final single : Bool) → (named && (not final && single)) ≡ true → cond named (cond final Resting (cond single Offered Singly)) (cond final Resting Silent) ≡ Offered
begins_named true final single is = begins_put final single is
begins_named false final single is = cc

begins_is : (course : Course) (word : Word) → begins_with course word ≡ true → after_word course word ≡ Offered
begins_is Resting (Asks (Put final named single)) is = begins_put final single is
begins_is Resting (Asks Other) is = cc
begins_is Resting (Asks Refused) is = cc
begins_is Resting (Says code single) is = cc
begins_is Offered word is = cc
begins_is Singly word is = cc
begins_is Together word is = cc
begins_is Silent (Asks (Put final named single)) is = begins_named named final single is
begins_is Silent (Asks Other) is = cc
begins_is Silent (Asks Refused) is = cc
begins_is Silent (Says code single) is = cc

puts_keep : Keeps Offered is_more_put
puts_keep (Asks (Put final named single)) is = not_final final Offered is
puts_keep (Asks Other) is = cc
puts_keep (Asks Refused) is = cc
puts_keep (Says code single) is = cc

granted_by : (goes_on single : Bool) → (goes_on && single) ≡ true → cond goes_on (cond single Together Singly) Resting ≡ Together
granted_by true true is = refl
granted_by true false is = cc
granted_by false single is = cc

grants_is : (word : Word) → grants word ≡ true → after_word Offered word ≡ Together
grants_is (Asks asked) is = cc
grants_is (Says code single) is = granted_by (eqb code 0x90) single is

goes_together : (goes_on : Bool) → goes_on ≡ true → cond goes_on Together Silent ≡ Together
goes_together true is = refl
goes_together false is = cc

together_keeps : Keeps Together stays_together
together_keeps (Asks (Put final named single)) is = not_final final Together is
together_keeps (Asks Other) is = cc
together_keeps (Asks Refused) is = refl
together_keeps (Says code single) is = goes_together (eqb code 0x90) is

goes_silent : (goes_on : Bool) → not goes_on ≡ true → cond goes_on Together Silent ≡ Silent
goes_silent true is = cc
goes_silent false is = refl

refuses_is : (word : Word) → refuses word ≡ true → after_word Together word ≡ Silent
refuses_is (Asks asked) is = cc
refuses_is (Says code single) is = goes_silent (eqb code 0x90) is

silent_by : (named final single : Bool) → (not named && not final) ≡ true → cond named (cond final Resting (cond single Offered Singly)) (cond final Resting Silent) ≡ Silent
silent_by true final single is = cc
silent_by false final single is = not_final final Silent is

silent_keeps : Keeps Silent stays_silent
silent_keeps (Asks (Put final named single)) is = silent_by named final single is
silent_keeps (Asks Other) is = cc
silent_keeps (Asks Refused) is = refl
silent_keeps (Says code single) is = refl

offered-is : (requests : Flow) (most : ℕ) (past : List Spoken) → IsOffered requests most past → course_of requests most past ≡ Offered
offered-is requests most past held =
    let begins = ap (λ c. begins_with c (word_of requests most held.first)) (course-is requests most held.front) ∙ held.begins in
    turned requests most past held.front held.since held.first Offered is_more_put held.parts (begins_is (course_of requests most held.front) (word_of requests most held.first) begins) puts_keep held.puts

together-is : (requests : Flow) (most : ℕ) (past : List Spoken) → IsTogether requests most past → course_of requests most past ≡ Together
together-is requests most past held =
    turned requests most past held.front held.since held.granting Together stays_together held.parts
    (ap (λ c. after_word c (word_of requests most held.granting)) (offered-is requests most held.front held.offered) ∙ grants_is (word_of requests most held.granting) held.granted)
    together_keeps held.together

silent-is : (requests : Flow) (most : ℕ) (past : List Spoken) → IsSilent requests most past → course_of requests most past ≡ Silent
silent-is requests most past held =
    turned requests most past held.front held.since held.refusing Silent stays_silent held.parts
    (ap (λ c. after_word c (word_of requests most held.refusing)) (together-is requests most held.front held.before) ∙ refuses_is (word_of requests most held.refusing) held.refused)
    silent_keeps held.silent

-- ---- the laws

pub silences-look_back : SilencesLookBack
silences-look_back = record {
  course = course-is;
  heard = answered-back;
  silent = λ requests most past is. subst (λ course. Traces requests most course past) is (traced-all requests most past);
  only = silent-is;
}

pub silences-grow : SilencesGrow
silences-grow = record { heard = answered-more; exchanged = exchanged-more }
