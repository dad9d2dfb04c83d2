-- What a profile keeps in whatever its host does and hears.
use Rattle.std.proofs.Common.{subst, ◌≡◌, ℕ, zero, suc, Bool, true, false, List, [], ◌∷◌, Option, Some, None, is_some, if◌then◌else◌}
use Rattle.rest_laws.specs.acl_fragments.specs.Pieces.{channel_of}
use Rattle.channel_model.specs.declared.event.ChannelEvent.{ChannelEvent}
use Rattle.channel_model.specs.Value.{Channels}
use Rattle.channel_model.specs.Calls.{link_down}
use Rattle.channel_model.specs.Carrying.{Up as Handed, Nothing, Received}
use Rattle.channel_model.specs.Hearing as channels
use Rattle.channel_model.specs.Timing.{timed_out}
use Rattle.channel_model.specs.Giving.{Given, next_given, after_given}
use Rattle.rest_laws.specs.world_model.specs.Machines.{News, Linked, Up, Down, Failed, Heard, TimerFired, Cancelled, Opening}
use Rattle.host_model.specs.Circumstances.{Circumstance}
use Rattle.host_model.specs.Pdus.{pdu_of, is_frame}
use Rattle.host_model.specs.Profiles.{Stride, Profile}
use Rattle.host_model.specs.Hosts.{Host, drives, driven, goes_by, strides, settles, tells_each, tells_events, handed, hears_news, told, ready, hear, after_said, says, next, with_channels, most_steps, steps_behind}

pub record Keeps {P : Type 0} (A : Profile P) (K : P → Type 0) : Type 0 where
  pub given : (circumstances : List Circumstance) (p : P) → K p → K (A.given circumstances p)
  pub received : (own psm : ℕ) (sdu : List ℕ) (p : P) → K p → K (A.received own psm sdu p)
  pub happened : (event : ChannelEvent) (channels : Channels) (p : P) → K p → K (A.happened event channels p)
  pub sent : (channels : Channels) (p : P) → K p → K (A.sent channels p)
  pub steps : (channels : Channels) (p : P) → K p → K (A.steps channels p).profile

-- and what it is told of its links and its push
abbrev pub KeepsNews : {P : Type 0} (A : Profile P) (K : P → Type 0) → News → Type 0
KeepsNews {P} A K news = (circumstances : List Circumstance) (p : P) → K p → K (A.told circumstances news p)

module _ {P : Type 0} (A : Profile P) (K : P → Type 0) (keeps : Keeps A K) where
  each : (channels : Channels) (events : List ChannelEvent) (p : P) → K p → K (tells_each A events channels p)
  each channels [] p kept = kept
  each channels (event ∷ events) p kept =
      let now = record channels { events = events } in each now events (A.happened event now p) (keeps.happened event now p kept)

  pub tells : (host : Host P) → K host.profile → K (tells_events A host).profile
  tells host kept = each host.channels host.channels.events host.profile kept

  strides_by : (more : Host P → Host P) (stride : Stride P) (test : Bool) (host : Host P) → ((next : Host P) → K next.profile → K (more next).profile) → K stride.profile
      → K (if test then more (strides A stride host) else strides A stride host).profile
  strides_by more stride true host goes kept = goes (strides A stride host) (tells (record host { channels = stride.channels; profile = stride.profile }) kept)
  strides_by more stride false host goes kept = tells (record host { channels = stride.channels; profile = stride.profile }) kept

  goes_by_test : (more : Host P → Host P) (test : Bool) (host : Host P) → ((next : Host P) → K next.profile → K (more next).profile) → K host.profile
      → K (if test then host else goes_by A more (A.steps host.channels host.profile) host).profile
  goes_by_test more true host goes kept = kept
  goes_by_test more false host goes kept =
      let stride = A.steps host.channels host.profile in strides_by more stride stride.more host goes (keeps.steps host.channels host.profile kept)

  pub drives_on : (count : ℕ) (host : Host P) → K host.profile → K (drives A count host).profile
  unfolding drives
  drives_on zero host kept = keeps.sent host.channels host.profile kept
  drives_on (suc count) host kept =
      let now = settles A host in
      goes_by_test (λ next. drives A count next) (is_some (next_given now.channels)) now (λ next. drives_on count next) (keeps.sent host.channels host.profile kept)

  readies : (circumstances : List Circumstance) (host : Host P) → K host.profile → K (ready A circumstances host).profile
  readies circumstances host kept = keeps.given circumstances host.profile kept

  hands : (up : Handed) (p : P) → K p → K (handed A up p)
  hands Nothing p kept = kept
  hands (Received own psm sdu) p kept = keeps.received own psm sdu p kept

  hears_any : (circumstances : List Circumstance) (news : News) (host : Host P) → KeepsNews A K news → K host.profile → K (hears_news A circumstances news host).profile
  hears_any circumstances (Linked Up) host told kept = told circumstances host.profile kept
  hears_any circumstances (Linked (Down reason)) host told kept =
      told circumstances (tells_events A (with_channels (link_down host.channels) host)).profile (tells (with_channels (link_down host.channels) host) kept)
  hears_any circumstances (Failed status) host told kept = told circumstances host.profile kept
  hears_any circumstances (Heard pdu) host told kept =
      tells (record host { channels = channels.hears A.policy (channel_of pdu) pdu host.channels; profile = handed A (channels.up (channel_of pdu) pdu host.channels) host.profile })
      (hands (channels.up (channel_of pdu) pdu host.channels) host.profile kept)
  hears_any circumstances TimerFired host told kept =
      told circumstances (tells_events A (with_channels (timed_out A.policy host.channels) host)).profile (tells (with_channels (timed_out A.policy host.channels) host) kept)
  hears_any circumstances Cancelled host told kept = told circumstances host.profile kept
  hears_any circumstances (Opening name) host told kept = told circumstances host.profile kept

  -- what is kept of the news, is kept
  pub hears_on : (circumstances : List Circumstance) (news : News) (host : Host P) → KeepsNews A K news → K host.profile → K (hear A circumstances news host).profile
  hears_on circumstances news host told kept =
      drives_on most_steps (hears_news A circumstances news (ready A circumstances host)) (hears_any circumstances news (ready A circumstances host) told (readies circumstances host kept))

  -- what follows from all that is said
  abbrev Said : Option (List ℕ × Host P) → Type 0
  Said None = Unit {0}
  Said (Some one) = K one.1.profile

  frames : (test : Bool) (pdu : List ℕ) (host : Host P) → K host.profile → Said (if test then Some (pdu, host) else None)
  frames true pdu host kept = kept
  frames false pdu host kept = tt

  pub says_on : (given : Option Given) (count : ℕ) (host : Host P) → K host.profile → Said (says A given count host)
  says_on None count host kept = tt
  says_on (Some given) zero host kept = tt
  says_on (Some given) (suc count) host kept =
      frames (is_frame (pdu_of given)) (pdu_of given) (after_said A count host) (drives_on (steps_behind count) (with_channels (after_given host.channels) host) kept)

  pub goes_next : (host : Host P) (pdu : List ℕ) (after : Host P) → next A host ≡ Some (pdu, after) → K host.profile → K after.profile
  goes_next host pdu after same kept = subst Said same (says_on (next_given host.channels) host.may_say host kept)
