-- The octets that a side took to be sent are, in order, the information of the data frames that it sent.
use Rattle.std.specs.Prelude.{ℕ, ◌≡◌, ◌<◌, List, [], ◌++◌, ◌∷◌, length, take, None, if◌then◌else◌}
use Rattle.rfcomm_frames.specs.declared.connection.Role.{Role}
use Rattle.rfcomm_frames.specs.Multiplexing.{Framed, information}
use Rattle.rfcomm_model.specs.Machine.{Mux, may_pass, taken_count}
use Rattle.rfcomm_model.specs.Sides.{Deed, Hears, Says, Sends, Leaves, Side, done, all_done, new_side}

-- what is taken of octets that are given
abbrev pub taken_of : Deed → Mux → List ℕ
taken_of (Hears sdu) m = []
taken_of Says m = []
taken_of (Sends octets) m = if may_pass m then take (taken_count (length octets) m) octets else []
taken_of Leaves m = []

abbrev pub all_taken : List Deed → Side → List ℕ
all_taken [] side = []
all_taken (deed ∷ deeds) side = taken_of deed side.mux ++ all_taken deeds (done deed side)

-- the information on the user channel that a side sent
abbrev pub all_sent : ℕ → Role → List Framed → List ℕ
all_sent dlci from [] = []
all_sent dlci from (f ∷ fs) = information dlci from f ++ all_sent dlci from fs

-- What was sent is a front of what was taken; until the side is closed only the octets that wait are missing.
pub record SendsTaken (dlci : ℕ) (role : Role) (side : Side) (taken : List ℕ) : Type 0 where
  pub rest : List ℕ
  pub front : taken ≡ all_sent dlci role side.talk ++ rest
  pub waits : side.mux.closed ≡ None → rest ≡ side.mux.waiting

-- For whatever comes and whatever is asked of it.
abbrev pub TakenIsSent : Type 0
TakenIsSent = (role : Role) (dlci largest own cap : ℕ) (deeds : List Deed) → 0 < dlci →
    let new = new_side role dlci largest own cap in
    SendsTaken dlci role (all_done deeds new) (all_taken deeds new)
