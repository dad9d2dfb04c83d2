-- A run that broke off, with an entry that was written and nothing more, or with a front of its capture, is a run as well (this project's
-- own).
use Rattle.std.specs.Prelude.{ℕ, ◌≡◌, ◌+◌, ◌||◌, true, List, [], ◌∷◌, ◌++◌, Some}
use Rattle.station_laws.specs.acl_fragments.specs.Pieces.{Piece}
use Rattle.station_laws.specs.push_terms.specs.declared.word.Side.TheVariants.{A, B}
use Rattle.station_laws.specs.push_terms.specs.Words.{IsWord}
use Rattle.station_laws.specs.capture.specs.Entries.{Entry}
use Rattle.station_laws.specs.radio_model.specs.declared.deed.Deed.{Deed}
use Rattle.station_laws.specs.radio_model.specs.declared.deed.Deed.TheVariants.{Nothing, Meets, Fires, FiresBoth, Breaks, Cancels}
use Rattle.station_laws.specs.radio_model.specs.Controllers.{Answer}
use Rattle.station_laws.specs.radio_model.specs.Radio.{found}
use Rattle.station_laws.specs.world_model.specs.Machines.{Upper}
use Rattle.station_laws.specs.world_model.specs.Pushes.{next_name}
use Rattle.station_laws.specs.world_model.specs.Turns.{may_be_cancelled}
use Rattle.station_laws.specs.world_model.specs.Stations.{Order}
use Rattle.station_laws.specs.world_model.specs.Worlds.{World, Happening, Departure, Piecemeal, Answering, Turns, Opens, IsAtRest, Does, Runs, entries_of, all_entries, first_world}
use Rattle.station_laws.specs.turn_laws.specs.Laws.{IsFront}

-- a word finds what can be done
abbrev pub MayAct : {S T G H : Type 0} → Upper S G → Upper T H → Deed → World S T → Type 0
MayAct U V Nothing w = ⊥
MayAct U V (Meets way fate) w = Unit {0}
MayAct U V (Fires A) w = U.armed w.a.upper ≡ true
MayAct U V (Fires B) w = V.armed w.b.upper ≡ true
MayAct U V FiresBoth w = (U.armed w.a.upper || V.armed w.b.upper) ≡ true
MayAct U V Breaks w = Unit {0}
MayAct U V Cancels w = may_be_cancelled U w.pushes w.a.upper ≡ true

-- What may be written next before it has its effect: the first packet that a host put out, the first that comes to it, a word, or the
-- begin of a push. Whatever its host makes of it, and whatever its ports answer, is left open.
abbrev pub IsWritten : {S T G H : Type 0} → Upper S G → Upper T H → Happening → World S T → Type 0
IsWritten U V (Departure A order) w = (rest : List Order) × (w.a.out ≡ order ∷ rest)
IsWritten U V (Departure B order) w = (rest : List Order) × (w.b.out ≡ order ∷ rest)
IsWritten U V (Piecemeal A handle piece) w = (rest : List Piece) × (w.radio.a.coming ≡ piece ∷ rest) × (handle ≡ w.radio.number)
IsWritten U V (Piecemeal B handle piece) w = (rest : List Piece) × (w.radio.b.coming ≡ piece ∷ rest) × (handle ≡ w.radio.number)
IsWritten U V (Answering A answer) w = (rest : List Answer) × (w.radio.a.coming ≡ []) × (w.radio.a.owed ≡ answer ∷ rest)
IsWritten U V (Answering B answer) w = (rest : List Answer) × (w.radio.b.coming ≡ []) × (w.radio.b.owed ≡ answer ∷ rest)
IsWritten U V (Turns ordinal word) w = IsAtRest U V w × IsWord word × (ordinal ≡ w.turned + 1) × MayAct U V (found word w.radio) w
IsWritten U V (Opens push name) w = (U.is_idle w.a.upper ≡ true) × (next_name w.pushes ≡ Some name) × (push ≡ w.pushes.begun + 1)
IsWritten U V happening w = ⊥

-- a run with this capture
pub record IsRunOf {S T G H : Type 0} (U : Upper S G) (V : Upper T H) (size count : ℕ) (names : List (List ℕ)) (capture : List Entry) : Type 0 where
  pub happenings : List Happening
  pub world : World S T
  pub runs : Runs U V happenings (first_world U V size count names) world
  pub captured : all_entries happenings ≡ capture

-- One happening more: both hosts, what was under way and the pushes are those of the run, but for what that happening makes of them.
pub record GoesOnWith {S T G H : Type 0} (U : Upper S G) (V : Upper T H) (size count : ℕ) (names : List (List ℕ)) (happenings : List Happening) (w : World S T) (next : Happening) : Type 0 where
  pub new : World S T
  pub does : Does U V next w new
  pub runs : Runs U V (happenings ++ next ∷ []) (first_world U V size count names) new
  pub captured : all_entries (happenings ++ next ∷ []) ≡ all_entries happenings ++ entries_of next

-- an entry that was written, and not heard or half heard, is that of one more happening
abbrev pub WrittenIsHappened : {S T G H : Type 0} → Upper S G → Upper T H → Type 0
WrittenIsHappened {S} {T} U V =
    (size count : ℕ) (names : List (List ℕ)) (happenings : List Happening) (w : World S T) (next : Happening) → Runs U V happenings (first_world U V size count names) w → IsWritten U V next w
    → GoesOnWith U V size count names happenings w next

-- each front of a capture, wherever it was cut, is the capture of a run
abbrev pub FrontsAreRuns : {S T G H : Type 0} → Upper S G → Upper T H → Type 0
FrontsAreRuns {S} {T} U V =
    (size count : ℕ) (names : List (List ℕ)) (happenings : List Happening) (w : World S T) (past : List Entry) → Runs U V happenings (first_world U V size count names) w
    → IsFront past (all_entries happenings) → IsRunOf U V size count names past
