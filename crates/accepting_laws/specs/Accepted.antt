-- That the first options which a host asks for succeed at a host that wishes the same, where they come in time (Core 5.1, Volume 3 Part A, 4.4, 4.5, 5.1 and 5.4).
use Rattle.std.specs.Prelude.{ℕ, ◌≡◌, ◌≤◌, true, false, List, Some}
use Rattle.channel_laws.specs.bt_base.specs.declared.settings.Settings.{Settings}
use Rattle.channel_laws.specs.l2cap_config.specs.declared.wish.Wish.{Wish}
use Rattle.channel_laws.specs.l2cap_config.specs.Items.{no_options}
use Rattle.channel_laws.specs.l2cap_config.specs.Writing.{written}
use Rattle.channel_laws.specs.l2cap_signal.specs.Commands.{configuration_request, configuration_response}
use Rattle.channel_laws.specs.channel_model.specs.Answers.{answer_to}
use Rattle.channel_laws.specs.channel_model.specs.Asking.{first_options}
use Rattle.channel_laws.specs.channel_model.specs.Changing.{held_at, setup_of, is_open}
use Rattle.channel_laws.specs.channel_model.specs.Policies.{Policy, policy}
use Rattle.channel_laws.specs.channel_model.specs.Value.{Setup, Held, Channels}
use Rattle.channel_laws.specs.Pipes.{CanState}
use Rattle.channel_laws.specs.Views.{peer_of}

-- options can state what a host wishes, with an MTU and frames that are not too short
pub record CanBeAccepted (wish : Wish) : Type 0 where
  pub can : CanState wish
  pub mtu : 48 ≤ wish.mtu
  pub mps : 8 ≤ wish.mps

-- a host has a channel of this PSM for the peer's endpoint, of which not both have accepted options, and no part of a request for them waits for its rest
pub record AwaitsOptions (own peer psm : ℕ) (v : Channels) : Type 0 where
  pub held : Held
  pub setup : Setup
  pub found : held_at own v ≡ Some held
  pub psm_is : held.psm ≡ psm
  pub peer_is : peer_of held.stage ≡ Some peer
  pub setup_is : setup_of held.stage ≡ Some setup
  pub not_open : is_open setup ≡ false
  pub no_part : setup.parts ≡ no_options

-- ---- the laws

-- There it answers a request for the first options of a host that wishes the same of the PSM with success.
abbrev pub FirstOptionsSucceed : Type 0
FirstOptionsSucceed = (policy : Policy) (own peer psm : ℕ) (v : Channels) → AwaitsOptions own peer psm v → CanBeAccepted (policy.wish psm)
    → (given : List ℕ) × (answer_to policy (configuration_request own 0 (written (first_options (policy.wish psm)))) v ≡ Some (configuration_response peer 0 0 given))

-- Both hosts of all settings wish the same of each PSM, and it can be accepted.
abbrev pub WishesMeet : Type 0
WishesMeet = (settings : Settings) (psm : ℕ) → ((policy settings false).wish psm ≡ (policy settings true).wish psm) × CanBeAccepted ((policy settings false).wish psm)
