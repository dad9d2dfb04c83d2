-- A host above its line, as a value: the channels of its link and its profile. What it hears goes to the channels first. Behind each
-- thing that it hears or says its profile is asked for steps, until the channels have a PDU or the profile waits; what it says is the
-- channels' next PDU (this project's own).
use Rattle.std.specs.Prelude.{ℕ, zero, suc, ◌^◌, ◌&&◌, nat_lt, nat_le, Bool, List, [], ◌∷◌, Option, Some, None, is_some, if◌then◌else◌}
use Rattle.rest_laws.specs.acl_fragments.specs.Pieces.{channel_of}
use Rattle.channel_model.specs.declared.event.ChannelEvent.{ChannelEvent}
use Rattle.channel_model.specs.Value.{Channels, no_channels}
use Rattle.channel_model.specs.Calls.{link_up, link_down}
use Rattle.channel_model.specs.Carrying.{Up as Handed, Nothing, Received}
use Rattle.channel_model.specs.Hearing.{hears, up}
use Rattle.channel_model.specs.Timing.{timed_out}
use Rattle.channel_model.specs.Giving.{Given, next_given, after_given}
use Rattle.rest_laws.specs.world_model.specs.Machines.{News, Linked, Up, Down, Failed, Heard, TimerFired, Cancelled, Opening}
use Rattle.host_model.specs.Circumstances.{Circumstance}
use Rattle.host_model.specs.Pdus.{pdu_of, is_frame}
use Rattle.host_model.specs.Profiles.{Stride, Profile}

pub record Host (P : Type 0) : Type 0 where
  pub channels : Channels
  pub profile : P
  -- how many PDUs it may say until it hears something
  pub may_say : ℕ

-- Answers, windows and credits let a host say some hundreds of PDUs with each thing that it hears, and where nothing else does, the
-- octets of an object, fewer than 2 ^ 24, do so: this is far more. The second half is for what waits in its channels alone.
abbrev pub most_said : ℕ
most_said = 2 ^ 32

abbrev pub half_said : ℕ
half_said = 2 ^ 31

abbrev pub first_host : {P : Type 0} → Profile P → Host P
first_host profile = record { channels = no_channels; profile = profile.first; may_say = 0 }

abbrev pub with_channels : {P : Type 0} → Channels → Host P → Host P
with_channels channels host = record host { channels = channels }

-- the profile is told what happened to the channels, one thing after the other, as each of them is taken from the channels
abbrev pub tells_each : {P : Type 0} → Profile P → List ChannelEvent → Channels → P → P
tells_each A [] channels profile = profile
tells_each A (event ∷ events) channels profile =
    tells_each A events (record channels { events = events }) (A.happened event (record channels { events = events }) profile)

abbrev pub tells_events : {P : Type 0} → Profile P → Host P → Host P
tells_events A host = record host {
  channels = record (host.channels) { events = [] };
  profile = tells_each A host.channels.events host.channels host.profile;
}

-- ---- what it does by itself

abbrev pub settles : {P : Type 0} → Profile P → Host P → Host P
settles A host = record host { profile = A.sent host.channels host.profile }

abbrev pub strides : {P : Type 0} → Profile P → Stride P → Host P → Host P
strides A stride host = tells_events A (record host { channels = stride.channels; profile = stride.profile })

abbrev pub goes_by : {P : Type 0} → Profile P → (Host P → Host P) → Stride P → Host P → Host P
goes_by A more stride host = if stride.more then more (strides A stride host) else strides A stride host

-- where its channels have a PDU nothing more is asked
abbrev pub goes_on : {P : Type 0} → Profile P → (Host P → Host P) → Host P → Host P
goes_on A more host = if is_some (next_given host.channels) then host else goes_by A more (A.steps host.channels host.profile) host

-- so many steps of its profile at most
unfoldable pub drives : {P : Type 0} → Profile P → ℕ → Host P → Host P
drives A zero host = settles A host
drives A (suc count) host = goes_on A (λ next. drives A count next) (settles A host)

-- A client has at most two channels to end, and a server an SDU for each of three channels, before it waits.
abbrev pub most_steps : ℕ
most_steps = 4

-- it has a PDU to say, or its profile waits
abbrev pub driven : {P : Type 0} → Profile P → Host P → Host P
driven A host = drives A most_steps host

-- ---- hearing

abbrev pub handed : {P : Type 0} → Profile P → Handed → P → P
handed A Nothing profile = profile
handed A (Received own psm sdu) profile = A.received own psm sdu profile

-- the profile hears the SDU first, and then what happened
abbrev pub hears_pdu : {P : Type 0} → Profile P → List ℕ → Host P → Host P
hears_pdu A pdu host = tells_events A (record host {
  channels = hears A.policy (channel_of pdu) pdu host.channels;
  profile = handed A (up (channel_of pdu) pdu host.channels) host.profile;
})

abbrev pub told : {P : Type 0} → Profile P → List Circumstance → News → Host P → Host P
told A circumstances news host = record host { profile = A.told circumstances news host.profile }

abbrev pub hears_news : {P : Type 0} → Profile P → List Circumstance → News → Host P → Host P
hears_news A circumstances (Linked Up) host = told A circumstances (Linked Up) (with_channels (link_up host.channels) host)
hears_news A circumstances (Linked (Down reason)) host = told A circumstances (Linked (Down reason)) (tells_events A (with_channels (link_down host.channels) host))
hears_news A circumstances (Failed status) host = told A circumstances (Failed status) host
hears_news A circumstances (Heard pdu) host = hears_pdu A pdu host
hears_news A circumstances TimerFired host = told A circumstances TimerFired (tells_events A (with_channels (timed_out A.policy host.channels) host))
hears_news A circumstances Cancelled host = told A circumstances Cancelled host
hears_news A circumstances (Opening name) host = told A circumstances (Opening name) host

-- the answers of its ports are for what it does from then on, in place of those that were left
abbrev pub ready : {P : Type 0} → Profile P → List Circumstance → Host P → Host P
ready A circumstances host = record host { profile = A.given circumstances host.profile; may_say = most_said }

abbrev pub hear : {P : Type 0} → Profile P → List Circumstance → News → Host P → Host P
hear A circumstances news host = driven A (hears_news A circumstances news (ready A circumstances host))

-- ---- saying

-- its channels have a PDU, and it may say it
abbrev pub has_more : {P : Type 0} → Host P → Bool
has_more host = nat_lt 0 host.may_say && is_some (next_given host.channels)

abbrev pub says_frame : {P : Type 0} → List ℕ → Host P → Option (List ℕ × Host P)
says_frame pdu after = if is_frame pdu then Some (pdu, after) else None

-- how many steps its profile is asked for behind a PDU: in the second half none
abbrev pub steps_behind : (may_say : ℕ) → ℕ
steps_behind count = if nat_le half_said count then most_steps else 0

-- once a PDU was said, and its channels gave it
abbrev pub after_said : {P : Type 0} → Profile P → (may_say : ℕ) → Host P → Host P
after_said A count host = record (drives A (steps_behind count) (with_channels (after_given host.channels) host)) { may_say = count }

abbrev pub says : {P : Type 0} → Profile P → Option Given → (may_say : ℕ) → Host P → Option (List ℕ × Host P)
says A None count host = None
says A (Some given) zero host = None
says A (Some given) (suc count) host = says_frame (pdu_of given) (after_said A count host)

abbrev pub next : {P : Type 0} → Profile P → Host P → Option (List ℕ × Host P)
next A host = says A (next_given host.channels) host.may_say host
