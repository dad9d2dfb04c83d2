-- What the capture of a run of the world has of the air and of pushes, for every two machines.
use Rattle.std.specs.Prelude.{ℕ, ◌≡◌, true, List, [], ◌∷◌, ◌++◌}
use Rattle.turn_laws.specs.push_terms.specs.declared.word.Side.{Side}
use Rattle.turn_laws.specs.push_terms.specs.declared.word.Side.TheVariants.{A, B}
use Rattle.turn_laws.specs.push_terms.specs.declared.word.Word.{Word}
use Rattle.turn_laws.specs.push_terms.specs.declared.outcome.Outcome.{Outcome}
use Rattle.turn_laws.specs.capture.specs.Histories.{EachAfter}
use Rattle.turn_laws.specs.capture.specs.Entries.{Entry, Ended}
use Rattle.turn_laws.specs.radio_model.specs.Air.{Hosts, KeepsTo, Obeys}
use Rattle.turn_laws.specs.radio_model.specs.Course.{PushesInTurn}
use Rattle.turn_laws.specs.world_model.specs.Machines.{Upper}
use Rattle.turn_laws.specs.world_model.specs.Pushes.{Pushes}
use Rattle.turn_laws.specs.world_model.specs.Worlds.{World, Happening, Runs, IsAtRest, all_entries, all_words, first_world}
use Rattle.turn_laws.specs.Laws.{IsFront}
use Rattle.turn_laws.specs.WorldLaws.{Fits}

-- ---- what the capture says of timers and check words

-- after these entries it says what the machines answer
pub record Agrees {S T G H : Type 0} (U : Upper S G) (V : Upper T H) (hosts : Hosts) (past : List Entry) (w : World S T) : Type 0 where
  pub armed_a : hosts.armed A past ≡ U.armed w.a.upper
  pub armed_b : hosts.armed B past ≡ V.armed w.b.upper
  pub checks_a : (channel : ℕ) → hosts.checks A past channel ≡ U.has_check w.a.upper channel
  pub checks_b : (channel : ℕ) → hosts.checks B past channel ≡ V.has_check w.b.upper channel

-- the end of a push changes nothing of it
pub record PassesEnds (hosts : Hosts) : Type 0 where
  pub armed : (side : Side) (past : List Entry) (push : ℕ) (outcome : Outcome) → hosts.armed side (past ++ Ended push outcome ∷ []) ≡ hosts.armed side past
  pub checks : (side : Side) (past : List Entry) (push : ℕ) (outcome : Outcome) (channel : ℕ) → hosts.checks side (past ++ Ended push outcome ∷ []) channel ≡ hosts.checks side past channel

-- so it is wherever a run is at rest on its way: words act there alone
pub record TellsHosts {S T G H : Type 0} (U : Upper S G) (V : Upper T H) (hosts : Hosts) (happenings : List Happening) (first : World S T) : Type 0 where
  pub ends : PassesEnds hosts
  pub at_rest : (front : List Happening) (w : World S T) → IsFront front happenings → Runs U V front first w → IsAtRest U V w → Agrees U V hosts (all_entries front) w

-- ---- the air

-- what comes into the hosts is what the words hand over, in each run, wherever it broke off and whatever words are left
abbrev pub AirIsKept : {S T G H : Type 0} → Upper S G → Upper T H → Type 0
AirIsKept {S} {T} U V =
    (hosts : Hosts) (size count : ℕ) (names : List (List ℕ)) (happenings : List Happening) (w : World S T) (later : List Word) → Fits U V size
    → Runs U V happenings (first_world U V size count names) w → TellsHosts U V hosts happenings (first_world U V size count names)
    → EachAfter (KeepsTo hosts size (all_words happenings ++ later)) [] (all_entries happenings)

-- what may be written behind a run that is at rest: the end of the push that goes on
abbrev pub IsLastEnd : Pushes → List Entry → Type 0
IsLastEnd pushes [] = Unit {0}
IsLastEnd pushes (Ended push outcome ∷ []) = (pushes.going ≡ true) × (push ≡ pushes.begun)
IsLastEnd pushes entries = ⊥

-- a run that is at rest obeyed its words
abbrev pub AirIsObeyed : {S T G H : Type 0} → Upper S G → Upper T H → Type 0
AirIsObeyed {S} {T} U V =
    (hosts : Hosts) (size count : ℕ) (names : List (List ℕ)) (happenings : List Happening) (w : World S T) (ends : List Entry) → Fits U V size
    → Runs U V happenings (first_world U V size count names) w → TellsHosts U V hosts happenings (first_world U V size count names) → IsAtRest U V w
    → IsLastEnd w.pushes ends → Obeys hosts size (all_words happenings) (all_entries happenings ++ ends)

-- ---- pushes

-- pushes are in turn, and the links of each lie within it
abbrev pub PushesAreMarked : {S T G H : Type 0} → Upper S G → Upper T H → Type 0
PushesAreMarked {S} {T} U V =
    (size count : ℕ) (names : List (List ℕ)) (happenings : List Happening) (w : World S T) (ends : List Entry) → Fits U V size
    → Runs U V happenings (first_world U V size count names) w → IsLastEnd w.pushes ends → PushesInTurn (all_entries happenings ++ ends)
