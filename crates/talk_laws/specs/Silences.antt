-- Which requests a server passes over in silence, looking back (IrOBEX 1.5, 3.1, 3.2 and 3.4.3.7). What a server says there
-- is this project's own choice.
use Rattle.std.specs.Prelude.{ℕ, ◌≡◌, Bool, true, List, [], ◌∷◌, ◌++◌, map, fold}
use Rattle.std.specs.List.{AllByRecursion}
use Rattle.link_talk.specs.capture.specs.declared.flow.Flow.{Flow}
use Rattle.link_talk.specs.capture.specs.Histories.{each_after, given_by}
use Rattle.link_talk.specs.Sdus.{Spoken}
use Rattle.link_talk.specs.declared.course.Course.{Course}
use Rattle.link_talk.specs.declared.course.Course.TheVariants.{Resting, Silent}
use Rattle.link_talk.specs.Silences.{course_after, heard_at, answered, channel_exchanges}
use Rattle.talk_laws.specs.Exchanges.{answered_behind}
use Rattle.talk_laws.specs.Words.{Word, word_of, begins_with, is_more_put, grants, stays_together, refuses, stays_silent}
use Rattle.talk_laws.specs.Courses.{course_back}

-- ---- how far an object is, behind packets

abbrev pub words : Flow → ℕ → List Spoken → List Word
words requests most packets = map (word_of requests most) packets

abbrev pub course_of : Flow → ℕ → List Spoken → Course
course_of requests most packets = fold (course_after requests most) Resting packets

abbrev pub heard_behind : Flow → ℕ → List Spoken → Spoken → List Spoken
heard_behind requests most past more = heard_at requests most (course_of requests most past) more

-- ---- looking back

abbrev pub All : Flow → ℕ → (Word → Bool) → List Spoken → Type 0
All requests most test packets = AllByRecursion (λ one. test (word_of requests most one) ≡ true) packets

-- the first PUT of an object asked for the mode, and PUTs of it alone stand behind that
pub record IsOffered (requests : Flow) (most : ℕ) (past : List Spoken) : Type 0 where
  pub front : List Spoken
  pub first : Spoken
  pub since : List Spoken
  pub parts : past ≡ front ++ first ∷ since
  pub begins : begins_with (course_back (words requests most front)) (word_of requests most first) ≡ true
  pub puts : All requests most is_more_put since

-- it was granted, and since then neither ended nor refused
pub record IsTogether (requests : Flow) (most : ℕ) (past : List Spoken) : Type 0 where
  pub front : List Spoken
  pub granting : Spoken
  pub since : List Spoken
  pub parts : past ≡ front ++ granting ∷ since
  pub offered : IsOffered requests most front
  pub granted : grants (word_of requests most granting) ≡ true
  pub together : All requests most stays_together since

-- a PUT of it was refused, and since then neither its final PUT came, nor a Name, nor another packet
pub record IsSilent (requests : Flow) (most : ℕ) (past : List Spoken) : Type 0 where
  pub front : List Spoken
  pub refusing : Spoken
  pub since : List Spoken
  pub parts : past ≡ front ++ refusing ∷ since
  pub before : IsTogether requests most front
  pub refused : refuses (word_of requests most refusing) ≡ true
  pub silent : All requests most stays_silent since

-- ---- the laws

pub record SilencesLookBack : Type 0 where
  -- how far an object is in one pass is how far it is by all that was said since it began
  pub course : (requests : Flow) (most : ℕ) (past : List Spoken) → course_of requests most past ≡ course_back (words requests most past)
  pub heard : (requests : Flow) (most : ℕ) (packets : List Spoken) → answered requests most packets ≡ given_by (heard_behind requests most) packets
  -- PUTs without a Name are passed over exactly there
  pub silent : (requests : Flow) (most : ℕ) (past : List Spoken) → course_of requests most past ≡ Silent → IsSilent requests most past
  pub only : (requests : Flow) (most : ℕ) (past : List Spoken) → IsSilent requests most past → course_of requests most past ≡ Silent

-- one packet more
pub record SilencesGrow : Type 0 where
  pub heard : (requests : Flow) (most : ℕ) (packets : List Spoken) (more : Spoken) → answered requests most (packets ++ more ∷ []) ≡ answered requests most packets ++ heard_behind requests most packets more
  pub exchanged : (requests : Flow) (most : ℕ) (packets : List Spoken) (more : Spoken)
      → channel_exchanges requests most (packets ++ more ∷ [])
      ≡ channel_exchanges requests most packets ++ each_after (answered_behind requests) (answered requests most packets) (heard_behind requests most packets more)
