-- What becomes of a frame at its receiver, as turns of their pair.
use Rattle.std.proofs.Common.{◌≡◌, ◌≢◌, ℕ, ◌+◌, ◌≤◌, ◌<◌, Bool, true, false, nat_lt, List, [], ◌∷◌, ◌++◌, length, Option, Some, None, refl, sym, ap, ◌∙◌, ltb-true, if◌then◌else◌, arith}
use Rattle.std.specs.List.{AllByRecursion}
use Rattle.std.proofs.lemmas.Bool.{ne_eqb}
use Rattle.scenario_laws.specs.acl_fragments.specs.Pieces.{channel_of}
use Rattle.scenario_laws.specs.capture.specs.Frames.{frame_pieces, way_served}
use Rattle.scenario_laws.specs.push_terms.specs.Words.{IsWord}
use Rattle.scenario_laws.specs.push_script.specs.Runs.{is_lossy}
use Rattle.scenario_laws.specs.push_terms.specs.declared.word.Way.{Way}
use Rattle.scenario_laws.specs.push_terms.specs.declared.word.Way.TheVariants.{Ab, Ba}
use Rattle.scenario_laws.specs.push_terms.specs.declared.word.Word.{Word}
use Rattle.scenario_laws.specs.push_terms.specs.declared.word.Word.TheVariants.{Pass, Lose, Repeat, Damage, Cut, Timer, Drop, Cancel}
use Rattle.scenario_laws.specs.radio_model.specs.declared.deed.Deed.{Deed}
use Rattle.scenario_laws.specs.radio_model.specs.declared.deed.Deed.TheVariants.{Nothing, Meets, Fires, FiresBoth, Breaks, Cancels}
use Rattle.scenario_laws.specs.radio_model.specs.declared.fate.Fate.{Fate}
use Rattle.scenario_laws.specs.radio_model.specs.declared.fate.Fate.TheVariants.{Delivered, Lost, Repeated, CutOff, Changed}
use Rattle.scenario_laws.specs.radio_model.specs.Fates.{changed, meets, comes_of, first_can_meet}
use Rattle.scenario_laws.specs.radio_model.specs.Words.{first_meets, meets_on, passing, deed_of}
use Rattle.scenario_laws.specs.world_model.specs.Carriages.{Doing, words_at, all_words}
use Rattle.channel_laws.specs.channel_model.specs.Calls.{has_fcs}
use Rattle.channel_laws.specs.channel_model.specs.Policies.{Policy}
use Rattle.channel_laws.specs.Runs.{Occurrence, Run, run_of}
use Rattle.scenario_laws.proofs.Taming.{changed-channel}
use Rattle.channel_laws.specs.Tries.{one_if}
use Rattle.pair_laws.specs.Costs.{is_adverse, adverse_in}
use Rattle.pair_laws.proofs.Facing.{View, whole_of, most_of, with_most, Whole, Again, Other, PairFrom, GivesNone, loses-it, is-handed}

-- ---- what words cost

pub adverse-both : (xs ys : List Word) → adverse_in (xs ++ ys) ≡ adverse_in xs + adverse_in ys
adverse-both [] ys = omega arith
adverse-both (x ∷ xs) ys = let later = adverse-both xs ys in omega (arith, later)

-- ---- what a word does to a frame

-- a change lies behind the header and within the frame, and is one
pub record IsWithin (place mask : ℕ) (frame : List ℕ) : Type 0 where
  pub behind : 4 ≤ place
  pub within : place + 1 < length frame
  pub some : 1 ≤ mask
  pub two : mask ≤ 65535

-- and where all comes in whole a frame is delivered
abbrev pub IsRight : (whole : Bool) → Fate → List (List ℕ) → Type 0
IsRight whole Delivered frames = Unit {0}
IsRight whole Lost frames = whole ≡ false
IsRight whole Repeated frames = whole ≡ false
IsRight whole (CutOff count) frames = whole ≡ false
IsRight whole (Changed place mask) [] = whole ≡ false
IsRight whole (Changed place mask) (frame ∷ rest) = (whole ≡ false) × IsWithin place mask frame

-- both timers fire at a time only where nothing is in the air
abbrev pub IsRightDeed : (whole : Bool) → Deed → (ab ba : List (List ℕ)) → Type 0
IsRightDeed whole (Meets Ab fate) ab ba = IsRight whole fate ab
IsRightDeed whole (Meets Ba fate) ab ba = IsRight whole fate ba
IsRightDeed whole FiresBoth ab ba = (ab ≡ []) × (ba ≡ [])
IsRightDeed whole deed ab ba = Unit {0}

-- a fate disturbs that does not hand a frame over as it is
abbrev pub fate_cost : Fate → ℕ
fate_cost Delivered = 0
fate_cost Lost = 1
fate_cost Repeated = 1
fate_cost (CutOff count) = 1
fate_cost (Changed place mask) = 1

-- and so does a timer that fires alone
abbrev pub deed_cost : Deed → ℕ
deed_cost Nothing = 0
deed_cost (Meets way fate) = fate_cost fate
deed_cost (Fires side) = 1
deed_cost FiresBoth = 0
deed_cost Breaks = 0
deed_cost Cancels = 0

-- a doing whose words lose, repeat and damage nothing, where all comes in whole
abbrev pub IsGentle : (whole : Bool) → Doing → Type 0
IsGentle whole doing = whole ≡ true → AllByRecursion (λ (word : Word). is_lossy word ≡ false) (words_at doing)

pub gentle_doings : (whole : Bool) (doings : List Doing) → (whole ≡ true → AllByRecursion (λ (word : Word). is_lossy word ≡ false) (all_words doings)) → AllByRecursion (IsGentle whole) doings
gentle_doings whole [] all = tt
gentle_doings whole (doing ∷ doings) all =
    (λ on. (all_cut (words_at doing) (all_words doings) (all on)).0, gentle_doings whole doings (λ on. (all_cut (words_at doing) (all_words doings) (all on)).1))
  where
    all_cut : (xs ys : List Word) → AllByRecursion (λ (word : Word). is_lossy word ≡ false) (xs ++ ys) → AllByRecursion (λ (word : Word). is_lossy word ≡ false) xs × AllByRecursion (λ (word : Word). is_lossy word ≡ false) ys
    all_cut [] ys both = (tt, both)
    all_cut (x ∷ xs) ys both = let rest = all_cut xs ys both.1 in ((both.0, rest.0), rest.1)

-- what a script asks of a fate
abbrev IsAsked : (whole : Bool) → Fate → Type 0
IsAsked whole Delivered = Unit {0}
IsAsked whole Lost = whole ≡ false
IsAsked whole Repeated = whole ≡ false
IsAsked whole (CutOff count) = whole ≡ false
IsAsked whole (Changed place mask) = (whole ≡ false) × (4 ≤ place) × (1 ≤ mask) × (mask ≤ 65535)

-- a word that loses, repeats or damages stands only where not all comes in whole
broken_by : (whole : Bool) → (whole ≡ true → true ≡ false) → whole ≡ false
broken_by false never = refl
broken_by true never = never refl

module _ (whole : Bool) where
  can_right : (fate : Fate) (frames : List (List ℕ)) (others : ℕ) → IsAsked whole fate → first_can_meet fate frames others ≡ true → IsRight whole fate frames
  can_right Delivered frames others asked can = tt
  can_right Lost frames others asked can = asked
  can_right Repeated frames others asked can = asked
  can_right (CutOff count) frames others asked can = asked
  can_right (Changed place mask) [] others asked can = asked.0
  can_right (Changed place mask) (frame ∷ rest) others asked can = (asked.0, record { behind = asked.1; within = ltb-true (place + 1) (length frame) can; some = asked.2; two = asked.3 })

  first_right : (fate : Fate) (ab ba : List (List ℕ)) → IsAsked whole fate → IsRightDeed whole (first_meets Ab fate ab ba) ab ba × IsRightDeed whole (first_meets Ba fate ba ab) ab ba
  first_right fate ab ba asked = (one (first_can_meet fate ab (length ba)) refl, other (first_can_meet fate ba (length ab)) refl)
    where
      one : (can : Bool) → first_can_meet fate ab (length ba) ≡ can → IsRightDeed whole (if can then Meets Ab fate else Nothing) ab ba
      one true is = can_right fate ab (length ba) asked is
      one false is = tt

      other : (can : Bool) → first_can_meet fate ba (length ab) ≡ can → IsRightDeed whole (if can then Meets Ba fate else Nothing) ab ba
      other true is = can_right fate ba (length ab) asked is
      other false is = tt

  on_right : (way : Way) (fate : Fate) (ab ba : List (List ℕ)) → IsAsked whole fate → IsRightDeed whole (meets_on way fate ab ba) ab ba
  on_right Ab fate ab ba asked = (first_right fate ab ba asked).0
  on_right Ba fate ab ba asked = (first_right fate ab ba asked).1

  passing_right : (on served : Option Way) (ab ba : List (List ℕ)) → way_served served ab ba ≡ on → IsRightDeed whole (passing on ab ba) ab ba
  passing_right None served [] [] is = (refl, refl)
  passing_right None served (frame ∷ ab) [] is = cc
  passing_right None served [] (frame ∷ ba) is = cc
  passing_right None served (frame ∷ ab) (other ∷ ba) is = cc
  passing_right (Some way) served ab ba is = on_right way Delivered ab ba tt

  pub word-right : (word : Word) (served : Option Way) (ab ba : List (List ℕ)) (linked : Bool) → IsWord word → (whole ≡ true → is_lossy word ≡ false) → IsRightDeed whole (deed_of word served ab ba linked) ab ba
  word-right Pass served ab ba linked is gentle = passing_right (way_served served ab ba) served ab ba refl
  word-right (Lose way) served ab ba linked is gentle = on_right way Lost ab ba (broken_by whole gentle)
  word-right (Repeat way) served ab ba linked is gentle = on_right way Repeated ab ba (broken_by whole gentle)
  word-right (Damage way place mask) served ab ba linked is gentle = on_right way (Changed place mask) ab ba (broken_by whole gentle, is.0, is.2, is.3)
  word-right (Cut way packets) served ab ba linked is gentle = on_right way (CutOff packets) ab ba (broken_by whole gentle)
  word-right (Timer side) served ab ba linked is gentle = tt
  word-right Drop served ab ba linked is gentle = by linked
    where
      by : (up : Bool) → IsRightDeed whole (if up then Breaks else Nothing) ab ba
      by true = tt
      by false = tt
  word-right Cancel served ab ba linked is gentle = tt

-- ---- what a word costs

one_first : (which : Bool) (way : Way) (fate : Fate) → deed_cost (if which then Meets way fate else Nothing) ≤ fate_cost fate
one_first true way fate = omega arith
one_first false way fate = omega arith

on_cost : (way : Way) (fate : Fate) (ab ba : List (List ℕ)) → deed_cost (meets_on way fate ab ba) ≤ fate_cost fate
on_cost Ab fate ab ba = one_first (first_can_meet fate ab (length ba)) Ab fate
on_cost Ba fate ab ba = one_first (first_can_meet fate ba (length ab)) Ba fate

passing_cost : (on : Option Way) (ab ba : List (List ℕ)) → deed_cost (passing on ab ba) ≤ 0
passing_cost None ab ba = omega arith
passing_cost (Some way) ab ba = on_cost way Delivered ab ba

pub word-cost : (word : Word) (served : Option Way) (ab ba : List (List ℕ)) (linked : Bool) → deed_cost (deed_of word served ab ba linked) ≤ one_if (is_adverse word)
word-cost Pass served ab ba linked = passing_cost (way_served served ab ba) ab ba
word-cost (Lose way) served ab ba linked = on_cost way Lost ab ba
word-cost (Repeat way) served ab ba linked = on_cost way Repeated ab ba
word-cost (Damage way place mask) served ab ba linked = on_cost way (Changed place mask) ab ba
word-cost (Cut way packets) served ab ba linked = on_cost way (CutOff packets) ab ba
word-cost (Timer side) served ab ba linked = omega arith
word-cost Drop served ab ba linked = by linked
  where
    by : (up : Bool) → deed_cost (if up then Breaks else Nothing) ≤ 0
    by true = omega arith
    by false = omega arith
word-cost Cancel served ab ba linked = omega arith

-- ---- at its receiver, where so much is spent then

module _ (side : View) (m : ℕ) (mine theirs : Policy) (now there : List Occurrence) (waits far_coming far_rest : List (List ℕ)) where
  abbrev Before : (coming rest : List (List ℕ)) → Type 0
  Before coming rest = PairFrom side mine theirs now there coming rest far_coming far_rest

  abbrev Under : (coming rest : List (List ℕ)) → Type 0
  Under coming rest = PairFrom (with_most m side) mine theirs now there coming rest far_coming far_rest

  handed_over : (frame : List ℕ) (rest : List (List ℕ)) → most_of side ≤ m → Before [] ((frame ∷ rest) ++ waits) → Under (frame ∷ []) (rest ++ waits)
  handed_over frame rest enough p = is-handed side mine theirs now there far_coming far_rest frame 0 m ((frame ∷ rest) ++ waits) (rest ++ waits) (omega (arith, enough)) (λ end' is run. Whole is) p

  lost : (frame : List ℕ) (rest : List (List ℕ)) → 1 + most_of side ≤ m → whole_of side ≡ false → GivesNone mine now × GivesNone theirs there → Before [] ((frame ∷ rest) ++ waits) → Under [] (rest ++ waits)
  lost frame rest enough broken silent p = loses-it side mine theirs now there far_coming far_rest frame m (rest ++ waits) enough broken silent.0 silent.1 p

  -- it has a check word there, and so it is no command
  damaged : (place mask : ℕ) (frame : List ℕ) (rest : List (List ℕ)) → 1 + most_of side ≤ m → whole_of side ≡ false → IsWithin place mask frame → has_fcs (channel_of frame) (run_of mine now).value ≡ true → channel_of frame ≢ 0x0001 → Before [] ((frame ∷ rest) ++ waits)
      → Under (changed place mask frame ∷ []) (rest ++ waits)
  damaged place mask frame rest enough broken right checked apart p =
      is-handed side mine theirs now there far_coming far_rest (changed place mask frame) 1 m ((frame ∷ rest) ++ waits) (rest ++ waits) enough
      (λ end' is run. Other broken (omega arith) frame is
      (record { place = place; mask = mask; behind = right.behind; within = right.within; some = right.some; two = right.two; other_is = refl; checked = ap (λ (r : Run). has_fcs (channel_of frame) r.value) run ∙ checked })
      (ne_eqb (channel_of (changed place mask frame)) 0x0001 (λ is. apart (sym (changed-channel place mask frame right.behind) ∙ is)))) p

  pub meets-it : (size : ℕ) (fate : Fate) (checked : Bool) (frame : List ℕ) (rest : List (List ℕ)) → fate_cost fate + most_of side ≤ m → IsRight (whole_of side) fate (frame ∷ rest) → (checked ≡ true → (has_fcs (channel_of frame) (run_of mine now).value ≡ true) × (channel_of frame ≢ 0x0001)) → GivesNone mine now × GivesNone theirs there → Before [] ((frame ∷ rest) ++ waits)
      → Under (comes_of size fate checked frame) (((meets size fate checked frame).stays ++ rest) ++ waits)
  meets-it size Delivered checked frame rest enough right there_is silent p = handed_over frame rest (omega (arith, enough)) p
  meets-it size Lost checked frame rest enough right there_is silent p = lost frame rest enough right silent p
  meets-it size Repeated checked frame rest enough right there_is silent p =
      is-handed side mine theirs now there far_coming far_rest frame 1 m ((frame ∷ rest) ++ waits) ((frame ∷ rest) ++ waits) enough (λ end' is run. Again right (omega arith) (rest ++ waits) is refl) p
  meets-it size (CutOff count) checked frame rest enough right there_is silent p = by (nat_lt count (length (frame_pieces size frame)))
    where
      by : (short : Bool) → Under (if short then [] else frame ∷ []) (rest ++ waits)
      by true = lost frame rest enough right silent p
      by false = handed_over frame rest (omega (arith, enough)) p
  meets-it size (Changed place mask) true frame rest enough right there_is silent p = let seen = there_is refl in damaged place mask frame rest enough right.0 right.1 seen.0 seen.1 p
  meets-it size (Changed place mask) false frame rest enough right there_is silent p = lost frame rest enough right.0 silent p
