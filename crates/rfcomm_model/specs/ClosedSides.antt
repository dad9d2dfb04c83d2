-- What a side of a multiplexer holds and handed up through a closing in order.
use Rattle.std.specs.Prelude.{ℕ, ◌+◌, ◌<◌, ◌≡◌, List, Option, Some, None, is_some}
use Rattle.rfcomm_frames.specs.declared.connection.Role.{Role}
use Rattle.rfcomm_frames.specs.Connections.{other_role}
use Rattle.rfcomm_frames.specs.Multiplexing.{no_connections, carried, granted, spent}
use Rattle.rfcomm_frames.specs.Ending.{no_course, has_last, to_closing}
use Rattle.rfcomm_model.specs.declared.state.MuxReason.{MuxReason}
use Rattle.rfcomm_model.specs.declared.state.MuxReason.TheVariants as reasons
use Rattle.rfcomm_model.specs.Sides.{Deed, Side, all_done, new_side, AlwaysRoom, NoFlood}

-- not closed, or closed by DISC or DM: nothing that the peer sent was refused
abbrev pub IsOrderly : Option MuxReason → Type 0
IsOrderly None = Unit {0}
IsOrderly (Some reasons.Dm) = Unit {0}
IsOrderly (Some reasons.Disc) = Unit {0}
IsOrderly (Some reasons.NoCreditFlow) = ⊥
IsOrderly (Some reasons.Overdrawn) = ⊥
IsOrderly (Some reasons.BadFrame) = ⊥
IsOrderly (Some reasons.CreditOverflow) = ⊥

-- The frames say whether it is closed, and what it handed up and holds is what the frames up to its closing say. What comes
-- behind that brings and grants nothing.
pub record ReadsToClosing (dlci : ℕ) (role : Role) (side : Side) : Type 0 where
  pub closed : is_some side.mux.closed ≡ has_last dlci role no_course side.talk
  pub octets : side.got ≡ carried dlci (other_role role) no_connections (to_closing dlci role no_course side.talk)
  pub credits : granted dlci role no_connections (to_closing dlci role no_course side.talk) ≡ spent dlci role (to_closing dlci role no_course side.talk) + side.mux.account.held

-- For whatever comes and whatever is asked of it, as long as it refuses nothing and ignores nothing for want of room.
abbrev pub ClosedSidesRead : Type 0
ClosedSidesRead = (role : Role) (dlci largest own cap : ℕ) (deeds : List Deed) → 0 < dlci →
    let side = all_done deeds (new_side role dlci largest own cap) in
    IsOrderly side.mux.closed → AlwaysRoom deeds (new_side role dlci largest own cap) → ReadsToClosing dlci role side

-- the same of an input that is no flood
abbrev pub UnfloodedClosedSidesRead : Type 0
UnfloodedClosedSidesRead = (role : Role) (dlci largest own cap : ℕ) (deeds : List Deed) → 0 < dlci →
    let side = all_done deeds (new_side role dlci largest own cap) in
    IsOrderly side.mux.closed → NoFlood 0 deeds → ReadsToClosing dlci role side
