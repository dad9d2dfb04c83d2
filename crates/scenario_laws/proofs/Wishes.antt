-- What a scenario wishes of each channel.
use Rattle.std.proofs.Common.{◌≡◌, ℕ, ◌==◌, Bool, true, false, cond, refl}
use Rattle.radio_world.specs.bt_base.specs.declared.settings.Settings.{Settings}
use Rattle.radio_world.specs.push_terms.specs.declared.word.Side.{Side}
use Rattle.host_laws.specs.l2cap_config.specs.declared.wish.Mode.TheVariants.{Basic}
use Rattle.host_laws.specs.l2cap_config.specs.declared.wish.Wish.{Wish}
use Rattle.host_laws.specs.channel_model.specs.Policies.{enhanced_wish, wished, policy}
use Rattle.host_laws.specs.channel_laws.specs.Sdus.{StatesFrame}
use Rattle.scenario_laws.specs.Parties.{party_of}

wish_by : (settings : Settings) (sdp rfcomm : Bool) → (let wish : Wish = cond sdp (record (enhanced_wish settings) { mode = Basic; mtu = 672 }) (cond rfcomm (record (enhanced_wish settings) { mode = Basic }) (enhanced_wish settings)) in
    (wish.mps ≡ settings.mps) × (wish.window ≡ settings.window))
wish_by settings true rfcomm = (refl, refl)
wish_by settings false true = (refl, refl)
wish_by settings false false = (refl, refl)

pub states_frame : (settings : Settings) (server : Bool) (side : Side) → StatesFrame (policy settings server) (party_of settings side)
states_frame settings server side psm = (wish_by settings (psm == 0x0001) (psm == 0x0003)).0

pub wishes_window : (settings : Settings) (psm : ℕ) → (wished settings psm).window ≡ settings.window
wishes_window settings psm = (wish_by settings (psm == 0x0001) (psm == 0x0003)).1
