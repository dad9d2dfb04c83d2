-- What is done to the options of a channel.
use Rattle.std.specs.Prelude.{ℕ, ◌≡◌, ◌≤◌, nat_le, Bool, true, false, Option, Some, None, is_some, if◌then◌else◌}
use Rattle.l2cap_config.specs.declared.options.Options.{Options}
use Rattle.l2cap_config.specs.declared.wish.Wish.{Wish}
use Rattle.l2cap_config.specs.declared.wish.Agreed.{Agreed}
use Rattle.l2cap_config.specs.declared.agreement.ConfigAnswer.{ConfigAnswer}
use Rattle.l2cap_config.specs.declared.agreement.ConfigAnswer.TheVariants.{Accept, Unacceptable, Unknown}
use Rattle.l2cap_config.specs.Items.{no_options}
use Rattle.l2cap_config.specs.Agreement.{answered}
use Rattle.channel_model.specs.Value.{Request, Own, Unasked, Asking, Granted, Setup, no_setup, Stage, Requested, Connected, Leaving, Closing, Crossed, Held, Channels}
use Rattle.channel_model.specs.Policies.{Policy}
use Rattle.channel_model.specs.Changing.{setup_of}
use Rattle.channel_model.specs.Configuring.{Verdict, NoChannel, TooLate, Unreadable, Incomplete, Judged, new_carrier, granted_setup}
use Rattle.channel_model.specs.Responses.{is_fresh_endpoint, connects, renewed_setup}
use Rattle.l2cap_channels.specs.declared.progress.Acceptance.{Acceptance}
use Rattle.l2cap_channels.specs.declared.progress.Acceptance.TheVariants.{Asks, Waits, Opens}
use Rattle.l2cap_channels.specs.declared.verdict.Verdict.{Verdict as Kept}
use Rattle.l2cap_channels.specs.declared.verdict.Verdict.TheVariants as kept

-- ---- a channel that the peer granted

abbrev pub asking_stage : (peer : ℕ) → Request → Options → Stage
asking_stage peer request options = Connected peer (record no_setup { own = Asking request options })

-- the peer's endpoint has to be one that no other channel has
abbrev pub connects_fresh : Policy → (endpoint : ℕ) → Held → Channels → Channels
connects_fresh policy endpoint held v = if is_fresh_endpoint endpoint v then connects (policy.wish held.psm) endpoint held v else v

-- ---- its options

-- the options of a channel that is there change
abbrev pub with_change : (Setup → Setup) → Stage → Stage
with_change f (Requested request) = Requested request
with_change f (Connected peer setup) = Connected peer (f setup)
with_change f (Leaving peer setup request) = Leaving peer (f setup) request
with_change f (Closing peer request checked) = Closing peer request checked
with_change f (Crossed peer request) = Crossed peer request

abbrev pub noted : Options → Setup → Setup
noted options setup = record setup { parts = options }

-- the own request for options, once one has to be made
abbrev pub first_asked : Request → Options → Own → Own
first_asked request options Unasked = Asking request options
first_asked request options (Asking before asked) = Asking before asked
first_asked request options Granted = Granted

abbrev pub accepted : Agreed → Request → Options → Setup → Setup
accepted agreed request options setup = record setup {
  parts = no_options;
  carrier = Some (new_carrier agreed);
  own = first_asked request options setup.own;
}

abbrev pub asked_anew : Request → Options → Setup → Setup
asked_anew request options setup = record (renewed_setup setup) { own = Asking request options }

-- the own request for the options of a channel is accepted
abbrev pub granted : Held → Held
granted held = record held { stage = with_change granted_setup held.stage }

-- ---- what is wished

-- a wish that a line can meet
pub record IsWish (wish : Wish) : Type 0 where
  pub window_from : 1 ≤ wish.window
  pub window_to : wish.window ≤ 63
  pub mtu : wish.mtu ≤ 32767

-- ---- the verdict on a request for options

abbrev pub verdict_value : Kept → Verdict
verdict_value kept.NoChannel = NoChannel
verdict_value (kept.TooLate peer) = TooLate peer
verdict_value (kept.Unreadable peer) = Unreadable peer
verdict_value (kept.Incomplete peer options) = Incomplete peer options
verdict_value (kept.Judged peer options answer) = Judged peer options answer

-- options are judged by this wish
abbrev pub IsJudgedBy : Wish → Verdict → Type 0
IsJudgedBy wish NoChannel = Unit {0}
IsJudgedBy wish (TooLate peer) = Unit {0}
IsJudgedBy wish (Unreadable peer) = Unit {0}
IsJudgedBy wish (Incomplete peer options) = Unit {0}
IsJudgedBy wish (Judged peer options answer) = answer ≡ answered wish options

-- options that are answered so are accepted
abbrev pub IsAccept : ConfigAnswer → Type 0
IsAccept (Accept given) = Unit {0}
IsAccept (Unacceptable refusal given) = ⊥
IsAccept Unknown = ⊥

-- ---- what follows at a place

-- what is done to a channel that has options
abbrev pub on_setup : (Held → Setup → Channels → Channels) → Option Setup → Held → Channels → Channels
on_setup f None held v = v
on_setup f (Some setup) held v = f held setup v

abbrev pub with_setup_at : (Held → Setup → Channels → Channels) → Held → Channels → Channels
with_setup_at f held v = on_setup f (setup_of held.stage) held v

-- how often requests of the peer were answered as unacceptable
abbrev pub refused_on : Option Setup → ℕ
refused_on None = 0
refused_on (Some setup) = setup.refused

-- no other options are asked for: the peer answered own requests as unacceptable as often as may be, or the host asked for the end
abbrev pub is_past_asking : Stage → Bool
is_past_asking (Requested request) = false
is_past_asking (Connected peer setup) = nat_le 2 setup.renewed
is_past_asking (Leaving peer setup request) = true
is_past_asking (Closing peer request checked) = false
is_past_asking (Crossed peer request) = false

abbrev pub is_past_asking_at : Option Held → Bool
is_past_asking_at None = false
is_past_asking_at (Some held) = is_past_asking held.stage

-- a carrier is there, by options of the peer that were accepted
abbrev pub carries_on : Option Setup → Bool
carries_on None = false
carries_on (Some setup) = is_some setup.carrier

abbrev pub acceptance_by : Own → Acceptance
acceptance_by Unasked = Asks
acceptance_by (Asking request options) = Waits
acceptance_by Granted = Opens

-- what the host does once it accepted the peer's options
abbrev pub acceptance_on : Option Setup → Acceptance
acceptance_on None = Waits
acceptance_on (Some setup) = acceptance_by setup.own
