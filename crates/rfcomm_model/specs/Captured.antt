-- What a side holds and handed up, read off the SDUs that passed on its L2CAP channel.
use Rattle.std.specs.Prelude.{ℕ, pos, ◌<◌, ◌≡◌, List, [], ◌∷◌, ◌++◌, Option, Some, None}
use Rattle.bt_base.specs.Octets.{IsOctets}
use Rattle.rfcomm_frames.specs.declared.connection.Role.{Role}
use Rattle.rfcomm_frames.specs.Frames.{Spells}
use Rattle.rfcomm_frames.specs.Connections.{other_role}
use Rattle.rfcomm_frames.specs.Multiplexing.{Passed}
use Rattle.rfcomm_frames.specs.UserChannel.{user_octets, credits_held}
use Rattle.rfcomm_model.specs.Machine.{Mux}
use Rattle.rfcomm_model.specs.Saying.{Said, next}
use Rattle.rfcomm_model.specs.Sides.{Deed, Hears, Says, Sends, Leaves, Side, done, all_done, new_side, AlwaysRoom, NoFlood}
use Rattle.rfcomm_model.specs.ClosedSides.{IsOrderly}
use Rattle.rfcomm_model.specs.Taken.{all_taken}

abbrev pub sdu_from : Role → List ℕ → Passed
sdu_from role sdu = record { from = role; sdu = sdu }

-- an SDU goes for each frame that is said: one that spells it
abbrev pub Goes : Role → Option Said → List Passed → Type 0
Goes role None new = new ≡ []
Goes role (Some said) new = (sdu : List ℕ) × IsOctets sdu × Spells said.frame sdu × (new ≡ sdu_from role sdu ∷ [])

-- what passes on the channel by a deed
abbrev pub Passes : Deed → Mux → List Passed → Type 0
Passes (Hears sdu) m new = new ≡ sdu_from (other_role m.role) sdu ∷ []
Passes Says m new = Goes m.role (next m) new
Passes (Sends octets) m new = new ≡ []
Passes Leaves m new = new ≡ []

abbrev pub AllPass : List Deed → Side → List Passed → Type 0
AllPass [] side passed = passed ≡ []
AllPass (deed ∷ deeds) side passed = (new rest : List Passed) × (passed ≡ new ++ rest) × Passes deed side.mux new × AllPass deeds (done deed side) rest

-- The octets that it handed up and the credits that it holds are those that the SDUs carry and grant; and those that the SDUs
-- carry the other way are a front of the octets that it took.
pub record CaptureReads (dlci : ℕ) (role : Role) (side : Side) (taken : List ℕ) (passed : List Passed) : Type 0 where
  pub octets : user_octets dlci role (other_role role) passed ≡ side.got
  pub credits : credits_held dlci role passed ≡ pos side.mux.account.held
  pub rest : List ℕ
  pub own : taken ≡ user_octets dlci role role passed ++ rest

-- For whatever comes and whatever is asked of it, as long as it refuses nothing and ignores nothing for want of room.
abbrev pub CapturesRead : Type 0
CapturesRead = (role : Role) (dlci largest own cap : ℕ) (deeds : List Deed) (passed : List Passed) → 0 < dlci →
    let new = new_side role dlci largest own cap in
    let side = all_done deeds new in
    AllPass deeds new passed → IsOrderly side.mux.closed → AlwaysRoom deeds new → CaptureReads dlci role side (all_taken deeds new) passed

-- the same of an input that is no flood
abbrev pub UnfloodedCapturesRead : Type 0
UnfloodedCapturesRead = (role : Role) (dlci largest own cap : ℕ) (deeds : List Deed) (passed : List Passed) → 0 < dlci →
    let new = new_side role dlci largest own cap in
    let side = all_done deeds new in
    AllPass deeds new passed → IsOrderly side.mux.closed → NoFlood 0 deeds → CaptureReads dlci role side (all_taken deeds new) passed
