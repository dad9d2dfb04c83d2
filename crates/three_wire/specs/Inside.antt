-- What holds of the fields of an end.
use Rattle.std.specs.Prelude.{false, ◌≡◌, ◌<◌, ◌≤◌, All, vec_len}
use Rattle.wire_model.specs.Machine.{is_active, is_reset}
use Rattle.three_wire.specs.Held.{units_of, HasRoom, IsUnit}
use Rattle.three_wire.specs.declared.wire.Wire.TheInside.{Inside}

pub record IsWire (w : Inside) : Type 0 where
  pub some : 1 ≤ w.window
  pub within : w.window ≤ w.own
  pub few : w.own ≤ 7
  pub rooms : vec_len w.rooms ≡ w.own
  pub room : All HasRoom w.rooms.items
  pub units : All IsUnit (units_of w.count w.rooms.items)
  -- nothing is kept before the end is active
  pub fresh : is_active w.stage ≡ false → is_reset w.stage ≡ false → w.count ≡ 0
  pub count : w.count ≤ w.window
  pub given : w.given ≤ w.count
  pub next : w.next ≤ w.count
  pub first : w.first < 8
  pub expected : w.expected < 8
  pub scratch : vec_len w.scratch ≡ 4099
