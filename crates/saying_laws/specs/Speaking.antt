-- A host that says PDU after PDU, until it may say none (this project's own).
use Rattle.std.specs.Prelude.{ℕ, ◌≡◌, List, map}
use Rattle.bt_host.specs.host_link.specs.PuttingOut.{put_pieces, put_command}
use Rattle.bt_host.specs.host_model.specs.Profiles.{Profile}
use Rattle.bt_host.specs.Stacks.{Standing, Saying, Says, DoesAll, with_line, leaves, pages}

-- it may say no PDU: its line takes none, or its channels have none
abbrev pub MaySayNone : {S : Type 0} → Profile S → Standing S → Type 0
MaySayNone {S} A now = (pdu : List ℕ) (next : Standing S) → Says A pdu now next → ⊥

-- it says these PDUs, one after the other and each where it may, and then it may say none
pub record SaysUntilNone {S : Type 0} (A : Profile S) (old new : Standing S) : Type 0 where
  pub pdus : List (List ℕ)
  pub said : DoesAll A (map Saying pdus) old new
  pub none_left : MaySayNone A new

-- The pieces that wait go out, then it says PDUs until it may say none, then a command goes out; the end of its link, or a link, is asked
-- for, where its profile wants that, and so may be the command that goes out last.
pub record GoesUntilNone {S : Type 0} (A : Profile S) (old new : Standing S) : Type 0 where
  pub mid : Standing S
  pub says : SaysUntilNone A (with_line put_pieces old) mid
  pub behind : new ≡ with_line put_command (pages A (leaves A (with_line put_command mid)))
