-- Commands on the signalling channel and what is answered to them, octet by octet.
use Rattle.std.specs.Prelude.{ℕ, ◌≡◌, true, List, [], ◌∷◌, Option, Some, None}
use Rattle.bt_base.specs.declared.settings.Settings.{Settings}
use Rattle.l2cap_signal.specs.Commands.{spelling}
use Rattle.channel_model.specs.Value.{no_setup, Connected, Channels, no_channels}
use Rattle.channel_model.specs.Policies.{Policy, policy}
use Rattle.channel_model.specs.Giving.{Given, Signal, Whole, Framed, next_given, headed}
use Rattle.channel_model.specs.Hearing.{hears}

-- the octets of a command that is given
abbrev pub command_octets : Option Given → List ℕ
command_octets None = []
command_octets (Some (Signal command)) = spelling command
command_octets (Some (Whole peer sdu)) = []
command_octets (Some (Framed peer frame)) = []

-- what is given next, once these octets came in on the signalling channel
abbrev pub answered : Policy → Channels → List ℕ → List ℕ
answered policy v octets = command_octets (next_given (hears policy 0x0001 (headed 0x0001 octets) v))

-- a channel for service discovery of which nothing is agreed on yet
abbrev pub one_channel : Channels
one_channel = record no_channels { held = record { psm = 0x0001; own = 0x0040; stage = Connected 0x0041 no_setup } ∷ []; next = 0x0041 }

-- An unknown code is not understood; the features are told; an echo is answered with its octets; an identifier of 0 gets no
-- answer; and an MTU of 47 is too short.
pub record AreAnswered : Type 0 where
  pub unknown : (p : Policy) → answered p no_channels (0x20 ∷ 0x05 ∷ 0x00 ∷ 0x00 ∷ []) ≡ 0x01 ∷ 0x05 ∷ 0x02 ∷ 0x00 ∷ 0x00 ∷ 0x00 ∷ []
  pub features : (p : Policy) → answered p no_channels (0x0A ∷ 0x03 ∷ 0x02 ∷ 0x00 ∷ 0x02 ∷ 0x00 ∷ [])
      ≡ 0x0B ∷ 0x03 ∷ 0x08 ∷ 0x00 ∷ 0x02 ∷ 0x00 ∷ 0x00 ∷ 0x00 ∷ 0xA8 ∷ 0x00 ∷ 0x00 ∷ 0x00 ∷ []
  pub echo : (p : Policy) → answered p no_channels (0x08 ∷ 0x04 ∷ 0x02 ∷ 0x00 ∷ 0xAA ∷ 0xBB ∷ []) ≡ 0x09 ∷ 0x04 ∷ 0x02 ∷ 0x00 ∷ 0xAA ∷ 0xBB ∷ []
  pub nobody : (p : Policy) → answered p no_channels (0x08 ∷ 0x00 ∷ 0x00 ∷ 0x00 ∷ []) ≡ []
  pub options : (s : Settings) → answered (policy s true) one_channel (0x04 ∷ 0x07 ∷ 0x08 ∷ 0x00 ∷ 0x40 ∷ 0x00 ∷ 0x00 ∷ 0x00 ∷ 0x01 ∷ 0x02 ∷ 0x2F ∷ 0x00 ∷ [])
      ≡ 0x05 ∷ 0x07 ∷ 0x0A ∷ 0x00 ∷ 0x41 ∷ 0x00 ∷ 0x00 ∷ 0x00 ∷ 0x01 ∷ 0x00 ∷ 0x01 ∷ 0x02 ∷ 0x30 ∷ 0x00 ∷ []
