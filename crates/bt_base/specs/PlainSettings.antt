-- The settings of a host where nothing else is said (this project's own).
use Rattle.std.specs.Prelude.{◌≡◌, false}
use Rattle.bt_base.specs.declared.settings.Settings.{Settings}
use Rattle.bt_base.specs.declared.settings.Transport.TheVariants as transports
use Rattle.bt_base.specs.declared.settings.Serves.TheVariants as services

pub record IsPlain (settings : Settings) : Type 0 where
  pub transport : settings.transport ≡ transports.L2cap
  pub serves : settings.serves ≡ services.Both
  pub mtu : settings.mtu ≡ 1024
  pub mps : settings.mps ≡ 1010
  pub window : settings.window ≡ 10
  pub tries : settings.tries ≡ 4
  pub credits : settings.credits ≡ 7
  pub obex : settings.obex ≡ 1024
  pub srm : settings.srm ≡ false
