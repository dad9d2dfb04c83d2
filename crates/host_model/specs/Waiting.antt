-- When a profile waits, and that more steps then change nothing.
use Rattle.std.specs.Prelude.{ℕ, zero, suc, ◌≡◌, ◌+◌, Bool, true, false, is_some, if◌then◌else◌}
use Rattle.rest_laws.specs.bt_base.specs.declared.settings.Settings.{Settings}
use Rattle.channel_model.specs.Giving.{next_given}
use Rattle.host_model.specs.Profiles.{Stride, Profile}
use Rattle.host_model.specs.Hosts.{Host, settles, strides, drives, most_steps}
use Rattle.host_model.specs.Clients.{ClientProfile, client_profile}

abbrev pub waits_by : {P : Type 0} → Profile P → (Host P → Bool) → Stride P → Host P → Bool
waits_by A more stride host = if stride.more then more (strides A stride host) else true

abbrev pub waits_on : {P : Type 0} → Profile P → (Host P → Bool) → Host P → Bool
waits_on A more host = if is_some (next_given host.channels) then true else waits_by A more (A.steps host.channels host.profile) host

-- its channels have a PDU, or its profile waits, after fewer steps than that
unfoldable pub waits_within : {P : Type 0} → Profile P → ℕ → Host P → Bool
waits_within A zero host = false
waits_within A (suc count) host = waits_on A (λ next. waits_within A count next) (settles A host)

-- for every profile, and any number of steps more
abbrev pub MoreChangesNothing : {P : Type 0} → Profile P → Type 0
MoreChangesNothing {P} A = (count more : ℕ) (host : Host P) → waits_within A count host ≡ true → drives A (count + more) host ≡ drives A count host

-- a client waits within the steps that it is asked for, whatever it is
abbrev pub ClientsWait : Type 0
ClientsWait = (settings : Settings) (host : Host ClientProfile) → waits_within (client_profile settings) most_steps host ≡ true
