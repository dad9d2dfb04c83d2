-- That a side spends no credit which the SDUs on its channel do not grant it, whatever its peer sends (RFCOMM 1.2, 6.5).
use Rattle.std.specs.Prelude.{ℕ, pos, ◌<◌, ◌≤◌, ◌≡◌, List}
use Rattle.inbox_laws.specs.rfcomm_frames.specs.declared.connection.Role.{Role}
use Rattle.inbox_laws.specs.rfcomm_frames.specs.Multiplexing.{Passed, no_connections, granted, spent}
use Rattle.inbox_laws.specs.rfcomm_frames.specs.UserChannel.{live_frames, credits_held}
use Rattle.inbox_laws.specs.rfcomm_model.specs.Captured.{AllPass}
use Rattle.inbox_laws.specs.rfcomm_model.specs.Sides.{Deed, new_side}

-- what it spent is no more than what it was granted: so the credits that it holds are never below nothing
pub record IsCovered (dlci : ℕ) (role : Role) (passed : List Passed) : Type 0 where
  pub covered : spent dlci role (live_frames dlci role passed) ≤ granted dlci role no_connections (live_frames dlci role passed)
  pub left : ℕ
  pub held : credits_held dlci role passed ≡ pos left

-- So it is at each moment, whatever comes and whatever is asked of it: also where it refuses its peer, or ignores something for want of room.
abbrev pub GrantsCoverSpending : Type 0
GrantsCoverSpending = (role : Role) (dlci largest own cap : ℕ) (deeds : List Deed) (passed : List Passed) → 0 < dlci → AllPass deeds (new_side role dlci largest own cap) passed → IsCovered dlci role passed
