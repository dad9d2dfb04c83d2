-- A channel as it is kept.
use Rattle.std.specs.Prelude.{ℕ, ◌≡◌, ◌≤◌, Bool, true, false, List, Option, Some, None}
use denote.Bor.{Bor}
use Rattle.channel_model.specs.Changing.{setup_of, stage_with}
use Rattle.channel_model.specs.Calls.{open_carrier, sends_setup}
use Rattle.channel_model.specs.Value as value
use Rattle.l2cap_channels.specs.Parts.{request_value}
use Rattle.l2cap_channels.specs.declared.stage.Stage.{Stage}
use Rattle.l2cap_channels.specs.declared.stage.Stage.TheVariants.{Requested, Connected, Leaving, Closing, Crossed}
use Rattle.l2cap_channels.specs.declared.setup.Own.{Own}
use Rattle.l2cap_channels.specs.declared.setup.Own.TheVariants.{Unasked, Asking, Granted}
use Rattle.l2cap_channels.specs.declared.setup.Setup.{Setup}
use Rattle.l2cap_channels.specs.declared.place.Place.TheInside.{Inside}

abbrev pub own_value : Own → value.Own
own_value Unasked = value.Unasked
own_value (Asking request options) = value.Asking (request_value request) options
own_value Granted = value.Granted

abbrev pub setup_value : Setup → Option value.Carrier → value.Setup
setup_value setup carrier = record { parts = setup.parts; carrier = carrier; own = own_value setup.own; refused = setup.refused; renewed = setup.renewed }

abbrev pub stage_value : Stage → value.Setup → value.Stage
stage_value (Requested request) setup = value.Requested (request_value request)
stage_value (Connected peer) setup = value.Connected peer setup
stage_value (Leaving peer request) setup = value.Leaving peer setup (request_value request)
stage_value (Closing peer request checked) setup = value.Closing peer (request_value request) checked
stage_value (Crossed peer request) setup = value.Crossed peer (request_value request)

abbrev pub place_value : Inside → value.Held
place_value place = record { psm = place.psm; own = place.own; stage = stage_value place.stage (setup_value place.setup place.line) }

-- the third refusal closes
pub record IsPlace (place : Inside) : Type 0 where
  pub refused : place.setup.refused ≤ 2
  pub renewed : place.setup.renewed ≤ 2

-- the memory that carries the SDUs of an open channel
abbrev pub IsOpenLine : Option (Bor (Option value.Carrier)) → value.Stage → Type 0
IsOpenLine None stage = open_carrier (setup_of stage) ≡ None
IsOpenLine (Some line) stage = open_carrier (setup_of stage) ≡ line.now

-- the memory that carries the SDUs of a channel that is there
abbrev pub IsLineOf : Option (Bor (Option value.Carrier)) → Option value.Setup → Type 0
IsLineOf None setup = setup ≡ None
IsLineOf (Some line) None = ⊥
IsLineOf (Some line) (Some setup) = setup.carrier ≡ line.now

-- it is this stage, with some setup
abbrev pub IsStage : Stage → value.Stage → Type 0
IsStage stage is = (setup : value.Setup) × (is ≡ stage_value stage setup)

-- a stage at which options do not matter
abbrev pub hides_setup : Stage → Bool
hides_setup (Requested request) = true
hides_setup (Connected peer) = false
hides_setup (Leaving peer request) = false
hides_setup (Closing peer request checked) = true
hides_setup (Crossed peer request) = true

-- a channel that is there, once the host asked for its end
abbrev pub left : value.Request → value.Stage → value.Stage
left request (value.Requested before) = value.Requested before
left request (value.Connected peer setup) = value.Leaving peer setup request
left request (value.Leaving peer setup before) = value.Leaving peer setup before
left request (value.Closing peer before checked) = value.Closing peer before checked
left request (value.Crossed peer before) = value.Crossed peer before

abbrev pub sent_on : Option value.Setup → List ℕ → value.Stage → value.Stage
sent_on None sdu stage = stage
sent_on (Some setup) sdu stage = stage_with (sends_setup setup sdu) stage

-- a channel once an SDU was handed to it
abbrev pub sent : List ℕ → value.Stage → value.Stage
sent sdu stage = sent_on (setup_of stage) sdu stage
