-- What words do at host a's push: only `cancel` cancels it.
use Rattle.std.proofs.Common.{◌≡◌, ℕ, Bool, true, false, List, length, Option, Some, None, refl, if◌then◌else◌}
use Rattle.scenario_laws.specs.push_terms.specs.declared.word.Side.TheVariants.{A, B}
use Rattle.scenario_laws.specs.push_terms.specs.declared.word.Way.{Way}
use Rattle.scenario_laws.specs.push_terms.specs.declared.word.Way.TheVariants.{Ab, Ba}
use Rattle.scenario_laws.specs.push_terms.specs.declared.word.Word.{Word}
use Rattle.scenario_laws.specs.push_terms.specs.declared.word.Word.TheVariants.{Pass, Lose, Repeat, Damage, Cut, Timer, Drop, Cancel}
use Rattle.scenario_laws.specs.capture.specs.Frames.{way_served}
use Rattle.scenario_laws.specs.radio_model.specs.declared.deed.Deed.{Deed}
use Rattle.scenario_laws.specs.radio_model.specs.declared.deed.Deed.TheVariants.{Nothing, Meets, Fires, FiresBoth, Breaks, Cancels}
use Rattle.scenario_laws.specs.radio_model.specs.declared.fate.Fate.{Fate}
use Rattle.scenario_laws.specs.radio_model.specs.declared.fate.Fate.TheVariants.{Delivered, Lost, Repeated, CutOff, Changed}
use Rattle.scenario_laws.specs.radio_model.specs.Words.{meets_on, passing, deed_of}
use Rattle.scenario_laws.specs.radio_model.specs.Fates.{first_can_meet}
use Rattle.cause_laws.specs.FirstCauses.{is_cancel_word, is_firing_word}

-- it cancels no push
abbrev pub IsPlainDeed : Deed → Type 0
IsPlainDeed Cancels = ⊥
IsPlainDeed deed = Unit {0}

-- and fires no timer of host a
abbrev pub IsQuietDeed : Deed → Type 0
IsQuietDeed Cancels = ⊥
IsQuietDeed FiresBoth = ⊥
IsQuietDeed (Fires A) = ⊥
IsQuietDeed deed = Unit {0}

meets_quiet : (test : Bool) (way : Way) (fate : Fate) → IsQuietDeed (if test then Meets way fate else Nothing)
meets_quiet true way fate = tt
meets_quiet false way fate = tt

on_quiet : (way : Way) (fate : Fate) (ab ba : List (List ℕ)) → IsQuietDeed (meets_on way fate ab ba)
on_quiet Ab fate ab ba = meets_quiet (first_can_meet fate ab (length ba)) Ab fate
on_quiet Ba fate ab ba = meets_quiet (first_can_meet fate ba (length ab)) Ba fate

quiet_plain : (deed : Deed) → IsQuietDeed deed → IsPlainDeed deed
quiet_plain Cancels quiet = absurd quiet
quiet_plain deed quiet = tt

passing_plain : (way : Option Way) (ab ba : List (List ℕ)) → IsPlainDeed (passing way ab ba)
passing_plain None ab ba = tt
passing_plain (Some way) ab ba = quiet_plain (meets_on way Delivered ab ba) (on_quiet way Delivered ab ba)

breaks_quiet : (linked : Bool) → IsQuietDeed (if linked then Breaks else Nothing)
breaks_quiet true = tt
breaks_quiet false = tt

-- Only `cancel` cancels, and it does nothing else. Only `timer a` and `pass` fire the timer of host a.
pub data WordIs (word : Word) (deed : Deed) : Type 0 where
  Quiet : is_cancel_word word ≡ false → IsQuietDeed deed → WordIs word deed
  Firing : is_cancel_word word ≡ false → is_firing_word word ≡ true → IsPlainDeed deed → WordIs word deed
  Cancelling : is_cancel_word word ≡ true → deed ≡ Cancels → WordIs word deed

pub word_is : (word : Word) (served : Option Way) (ab ba : List (List ℕ)) (linked : Bool) → WordIs word (deed_of word served ab ba linked)
word_is Pass served ab ba linked = Firing refl refl (passing_plain (way_served served ab ba) ab ba)
word_is (Lose way) served ab ba linked = Quiet refl (on_quiet way Lost ab ba)
word_is (Repeat way) served ab ba linked = Quiet refl (on_quiet way Repeated ab ba)
word_is (Damage way at mask) served ab ba linked = Quiet refl (on_quiet way (Changed at mask) ab ba)
word_is (Cut way packets) served ab ba linked = Quiet refl (on_quiet way (CutOff packets) ab ba)
word_is (Timer A) served ab ba linked = Firing refl refl tt
word_is (Timer B) served ab ba linked = Quiet refl tt
word_is Drop served ab ba linked = Quiet refl (breaks_quiet linked)
word_is Cancel served ab ba linked = Cancelling refl refl
