-- What happens to the channels at both ends of a pair, in the order of its turns (this project's own).
use Rattle.std.specs.Prelude.{ℕ, List, [], ◌∷◌, ◌++◌, Option, Some, None, if◌then◌else◌}
use Rattle.scenario_laws.specs.acl_fragments.specs.Pieces.{channel_of}
use Rattle.channel_laws.specs.channel_model.specs.Calls.{has_fcs}
use Rattle.channel_laws.specs.channel_model.specs.Giving.{Given, next_given}
use Rattle.channel_laws.specs.Runs.{Occurrence, Comes, Gives}
use Rattle.channel_laws.specs.Pairs.{End, Pair, Happening, Acts, Puts, Takes, Repeats, Loses, Damages, is_alone, Side, Near, Far, Turn, pair_after}

abbrev pub first_come : List (List ℕ) → List Occurrence
first_come [] = []
first_come (pdu ∷ coming) = Comes pdu ∷ []

abbrev pub given_as : Option Given → List ℕ → List Occurrence
given_as None pdu = []
given_as (Some given) pdu = Gives pdu ∷ []

abbrev pub damaged_come : List ℕ → List (List ℕ) → End → List Occurrence
damaged_come other [] end' = []
damaged_come other (pdu ∷ coming) end' = if has_fcs (channel_of pdu) end'.run.value then Comes other ∷ [] else []

-- what a turn is for the channels at its end
abbrev pub occurs_by : Happening → End → List Occurrence
occurs_by (Acts occurrence) end' = if is_alone occurrence then occurrence ∷ [] else []
occurs_by (Puts pdu) end' = given_as (next_given end'.run.value) pdu
occurs_by Takes end' = first_come end'.coming
occurs_by Repeats end' = first_come end'.coming
occurs_by Loses end' = []
occurs_by (Damages other) end' = damaged_come other end'.coming end'

-- something that happened at one end, or at the other
pub data Joint : Type 0 where
  AtNear : (occurrence : Occurrence) → Joint
  AtFar : (occurrence : Occurrence) → Joint

abbrev pub near_in : Joint → List Occurrence
near_in (AtNear occurrence) = occurrence ∷ []
near_in (AtFar occurrence) = []

abbrev pub far_in : Joint → List Occurrence
far_in (AtNear occurrence) = []
far_in (AtFar occurrence) = occurrence ∷ []

abbrev pub joints_with : (Occurrence → Joint) → List Occurrence → List Joint
joints_with to [] = []
joints_with to (one ∷ rest) = to one ∷ joints_with to rest

abbrev pub joints_at : Side → Happening → Pair → List Joint
joints_at Near happening pair = joints_with AtNear (occurs_by happening pair.near)
joints_at Far happening pair = joints_with AtFar (occurs_by happening pair.far)

abbrev pub joints_by : Turn → Pair → List Joint
joints_by turn pair = joints_at turn.side turn.happening pair

-- all of them, from one pair on
abbrev pub joints_from : Pair → List Turn → List Joint
joints_from pair [] = []
joints_from pair (turn ∷ turns) = joints_by turn pair ++ joints_from (pair_after pair turn) turns
