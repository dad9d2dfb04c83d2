-- What all that a profile does keeps, its host keeps.
use Rattle.std.proofs.Common.{◌≡◌, ℕ, zero, suc, Bool, true, false, List, [], ◌∷◌, Option, Some, None, is_some, subst, if◌then◌else◌}
use Rattle.pair_laws.specs.acl_fragments.specs.Pieces.{channel_of}
use Rattle.pair_laws.specs.channel_model.specs.declared.event.ChannelEvent.{ChannelEvent}
use Rattle.pair_laws.specs.channel_model.specs.Calls.{link_down}
use Rattle.pair_laws.specs.channel_model.specs.Carrying.{Up as Handed, Nothing, Received}
use Rattle.pair_laws.specs.channel_model.specs.Hearing as channels
use Rattle.pair_laws.specs.channel_model.specs.Timing.{timed_out}
use Rattle.pair_laws.specs.channel_model.specs.Giving.{Given, next_given, after_given}
use Rattle.pair_laws.specs.channel_model.specs.Value.{Channels}
use Rattle.pair_laws.specs.world_model.specs.Machines.{Up, Down, News, Linked, Failed, Heard, TimerFired, Cancelled, Opening}
use Rattle.pair_laws.specs.host_model.specs.Circumstances.{Circumstance}
use Rattle.pair_laws.specs.host_model.specs.Pdus.{pdu_of, is_frame}
use Rattle.pair_laws.specs.host_model.specs.Profiles.{Profile}
use Rattle.pair_laws.specs.host_model.specs.Hosts.{Host, drives, most_steps, steps_behind, goes_by, strides, settles, tells_each, tells_events, handed, hears_news, ready, hear, after_said, says, next, with_channels}

pub record KeepsSo {P : Type 0} (A : Profile P) (Z : P → Type 0) : Type 0 where
  pub given : (circumstances : List Circumstance) (p : P) → Z p → Z (A.given circumstances p)
  pub told : (circumstances : List Circumstance) (news : News) (p : P) → Z p → Z (A.told circumstances news p)
  pub received : (own psm : ℕ) (sdu : List ℕ) (p : P) → Z p → Z (A.received own psm sdu p)
  pub happened : (event : ChannelEvent) (v : Channels) (p : P) → Z p → Z (A.happened event v p)
  pub sent : (v : Channels) (p : P) → Z p → Z (A.sent v p)
  pub steps : (v : Channels) (p : P) → Z p → Z (A.steps v p).profile

module _ {P : Type 0} (A : Profile P) (Z : P → Type 0) (keeps : KeepsSo A Z) where
  each_kept : (events : List ChannelEvent) (v : Channels) (p : P) → Z p → Z (tells_each A events v p)
  each_kept [] v p so = so
  each_kept (event ∷ events) v p so = let w : Channels = record v { events = events } in each_kept events w (A.happened event w p) (keeps.happened event w p so)

  tells_kept : (host : Host P) → Z host.profile → Z (tells_events A host).profile
  tells_kept host so = each_kept host.channels.events host.channels host.profile so

  strides_kept : (host : Host P) → Z host.profile → Z (strides A (A.steps host.channels host.profile) host).profile
  strides_kept host so = let stride = A.steps host.channels host.profile in tells_kept (record host { channels = stride.channels; profile = stride.profile }) (keeps.steps host.channels host.profile so)

  more_kept : (test : Bool) (more : Host P → Host P) (host : Host P) → ((h : Host P) → Z h.profile → Z (more h).profile) → Z host.profile → Z (if test then more host else host).profile
  more_kept true more host goes so = goes host so
  more_kept false more host goes so = so

  goes_kept : (test : Bool) (more : Host P → Host P) (host : Host P) → ((h : Host P) → Z h.profile → Z (more h).profile) → Z host.profile → Z (if test then host else goes_by A more (A.steps host.channels host.profile) host).profile
  goes_kept true more host goes so = so
  goes_kept false more host goes so = let stride = A.steps host.channels host.profile in more_kept stride.more more (strides A stride host) goes (strides_kept host so)

  drives_kept : (count : ℕ) (host : Host P) → Z host.profile → Z (drives A count host).profile
  unfolding drives
  drives_kept zero host so = keeps.sent host.channels host.profile so
  drives_kept (suc count) host so =
      let now = settles A host in goes_kept (is_some (next_given now.channels)) (λ h. drives A count h) now (λ h. drives_kept count h) (keeps.sent host.channels host.profile so)

  handed_kept : (up : Handed) (p : P) → Z p → Z (handed A up p)
  handed_kept Nothing p so = so
  handed_kept (Received own psm sdu) p so = keeps.received own psm sdu p so

  heard_kept : (circumstances : List Circumstance) (news : News) (host : Host P) → Z host.profile → Z (hears_news A circumstances news host).profile
  heard_kept circumstances (Linked Up) host so = keeps.told circumstances (Linked Up) host.profile so
  heard_kept circumstances (Linked (Down reason)) host so =
      let down = with_channels (link_down host.channels) host in keeps.told circumstances (Linked (Down reason)) (tells_events A down).profile (tells_kept down so)
  heard_kept circumstances (Failed status) host so = keeps.told circumstances (Failed status) host.profile so
  heard_kept circumstances (Heard pdu) host so =
      let up = channels.up (channel_of pdu) pdu host.channels in tells_kept (record host { channels = channels.hears A.policy (channel_of pdu) pdu host.channels; profile = handed A up host.profile }) (handed_kept up host.profile so)
  heard_kept circumstances TimerFired host so =
      let fired = with_channels (timed_out A.policy host.channels) host in keeps.told circumstances TimerFired (tells_events A fired).profile (tells_kept fired so)
  heard_kept circumstances Cancelled host so = keeps.told circumstances Cancelled host.profile so
  heard_kept circumstances (Opening name) host so = keeps.told circumstances (Opening name) host.profile so

  pub hear_kept : (circumstances : List Circumstance) (news : News) (host : Host P) → Z host.profile → Z (hear A circumstances news host).profile
  hear_kept circumstances news host so =
      let now = ready A circumstances host in drives_kept most_steps (hears_news A circumstances news now) (heard_kept circumstances news now (keeps.given circumstances host.profile so))

  abbrev pub SaidSo : Option (List ℕ × Host P) → Type 0
  SaidSo None = Unit {0}
  SaidSo (Some one) = Z one.1.profile

  frame_kept : (test : Bool) (pdu : List ℕ) (host : Host P) → Z host.profile → SaidSo (if test then Some (pdu, host) else None)
  frame_kept true pdu host so = so
  frame_kept false pdu host so = tt

  says_kept : (given : Option Given) (count : ℕ) (host : Host P) → Z host.profile → SaidSo (says A given count host)
  says_kept None count host so = tt
  says_kept (Some given) zero host so = tt
  says_kept (Some given) (suc count) host so =
      let pdu = pdu_of given in frame_kept (is_frame pdu) pdu (after_said A count host) (drives_kept (steps_behind count) (with_channels (after_given host.channels) host) so)

  pub next_kept : (host : Host P) (pdu : List ℕ) (after : Host P) → next A host ≡ Some (pdu, after) → Z host.profile → Z after.profile
  next_kept host pdu after is so = subst SaidSo is (says_kept (next_given host.channels) host.may_say host so)
