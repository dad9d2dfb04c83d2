-- What a host offers and wishes. What follows from requests and responses is defined for every such table.
use Rattle.std.specs.Prelude.{ℕ, ◌==◌, ◌&&◌, Bool, true, false, if◌then◌else◌}
use Rattle.bt_base.specs.declared.settings.Settings.{Settings}
use Rattle.bt_base.specs.declared.settings.Serves.{Serves}
use Rattle.bt_base.specs.declared.settings.Serves.TheVariants as serves
use Rattle.l2cap_config.specs.declared.wish.Mode.TheVariants.{Basic, Enhanced}
use Rattle.l2cap_config.specs.declared.wish.Wish.{Wish}

pub record Policy : Type 0 where
  -- whether a PSM is offered to the peer
  pub offers : ℕ → Bool
  -- what is wished of a channel of a PSM
  pub wish : ℕ → Wish
  -- how often an own request is given at most
  pub tries : ℕ

-- ---- the table of this project: service discovery is PSM 0x0001, RFCOMM 0x0003, and object push over L2CAP 0x1001

abbrev pub serves_rfcomm : Serves → Bool
serves_rfcomm serves.Both = true
serves_rfcomm serves.L2cap = false
serves_rfcomm serves.Rfcomm = true

abbrev pub serves_l2cap : Serves → Bool
serves_l2cap serves.Both = true
serves_l2cap serves.L2cap = true
serves_l2cap serves.Rfcomm = false

-- a client offers nothing
abbrev pub offered : Settings → Bool → ℕ → Bool
offered settings server psm =
    server && (if psm == 0x0001 then true else if psm == 0x0003 then serves_rfcomm settings.serves else (psm == 0x1001) && serves_l2cap settings.serves)

abbrev pub enhanced_wish : Settings → Wish
enhanced_wish settings = record { mode = Enhanced; mtu = settings.mtu; mps = settings.mps; window = settings.window; tries = settings.tries }

abbrev pub wished : Settings → ℕ → Wish
wished settings psm =
    if psm == 0x0001 then record (enhanced_wish settings) { mode = Basic; mtu = 672 } else
    if psm == 0x0003 then record (enhanced_wish settings) { mode = Basic } else
    enhanced_wish settings

abbrev pub policy : Settings → (server : Bool) → Policy
policy settings server = record { offers = offered settings server; wish = wished settings; tries = settings.tries }
