-- That a push loses its link only where the air broke it (Core 5.1, Volume 1 Part F, 2.8, and Volume 2 Part E, 7.7.5).
use Rattle.std.specs.Prelude.{◌≡◌, ◌⊎◌, Bool, true, false, List, [], ◌∷◌, ◌++◌, Option, Some}
use Rattle.cause_laws.specs.bt_base.specs.Objects.{Contents}
use Rattle.cause_laws.specs.push_script.specs.declared.scenario.Scenario.{Scenario}
use Rattle.cause_laws.specs.push_terms.specs.declared.outcome.Outcome.{Outcome}
use Rattle.cause_laws.specs.push_terms.specs.declared.outcome.Outcome.TheVariants.{LinkLost}
use Rattle.cause_laws.specs.push_terms.specs.declared.word.Word.{Word}
use Rattle.cause_laws.specs.push_terms.specs.declared.word.Word.TheVariants.{Drop}
use Rattle.cause_laws.specs.capture.specs.Entries.{Entry, Acted, Ended}
use Rattle.cause_laws.specs.capture.specs.Histories.{EachAfter}
use Rattle.cause_laws.specs.world_model.specs.Worlds.{Happening, all_entries}
use Rattle.cause_laws.specs.radio_world.specs.Standing.{last_entries}
use Rattle.cause_laws.specs.scenario_laws.specs.Captures.{client_of, BothHosts, Happened}
use Rattle.cause_laws.specs.FirstCauses.{since_begun, end_reason, AreNoCauses}

abbrev pub is_drop_word : Word → Bool
is_drop_word Drop = true
is_drop_word word = false

-- the word `drop`, which found a link to break
abbrev pub is_drop : Entry → Bool
is_drop (Acted ordinal word) = is_drop_word word
is_drop entry = false

abbrev pub HasDrop : List Entry → Type 0
HasDrop [] = ⊥
HasDrop (entry ∷ entries) = (is_drop entry ≡ true) ⊎ HasDrop entries

-- Host a was told that its link ended, with reason 08: connection timeout. The word `drop` stands ahead of that, and nothing that ends its link or cancels the push.
pub record IsLostByDrop (part : List Entry) : Type 0 where
  pub before : List Entry
  pub entry : Entry
  pub after : List Entry
  pub part_is : part ≡ before ++ entry ∷ after
  pub first : AreNoCauses before
  pub dropped : HasDrop before
  pub told : end_reason entry ≡ Some 0x08

-- so it is where the link was lost
abbrev pub LossIs : Outcome → List Entry → Type 0
LossIs LinkLost part = IsLostByDrop part
LossIs outcome part = Unit {0}

abbrev pub EndsByDrop : List Entry → Entry → Type 0
EndsByDrop past (Ended push outcome) = LossIs outcome (since_begun past)
EndsByDrop past entry = Unit {0}

-- Each push of a capture that ended with `link-lost` shows in its part that `drop` broke its link.
abbrev pub LossesAreDrops : List Entry → Type 0
LossesAreDrops capture = EachAfter EndsByDrop [] capture

-- So it is of each run, wherever it broke off, whose client did not lack memory; and with the end of the push that goes on behind it.
pub record RunsLoseByDrops : Type 0 where
  pub moments : (scenario : Scenario) (content : Option Contents) (happenings : List Happening) (world : BothHosts) → Happened scenario content happenings world → world.a.upper.profile.client.failed ≡ false → LossesAreDrops (all_entries happenings)
  pub ends : (scenario : Scenario) (content : Option Contents) (happenings : List Happening) (world : BothHosts) → Happened scenario content happenings world → world.a.upper.profile.client.failed ≡ false
      → LossesAreDrops (all_entries happenings ++ last_entries ((client_of scenario).outcome world.a.upper) world.pushes)
