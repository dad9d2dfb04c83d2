-- What was noted stays noted (this project's own).
use Rattle.std.specs.Prelude.{ℕ, zero, suc, ◌≡◌, ◌≤◌, Bool, true, false, List, [], ◌∷◌, Option, Some, None, is_some, refl, if◌then◌else◌}
use Rattle.std.proofs.Common.{arith, subst}
use Rattle.shelf_model.specs.acl_fragments.specs.Pieces.{channel_of}
use Rattle.bt_base.specs.declared.settings.Settings.{Settings}
use Rattle.channel_model.specs.declared.event.ChannelEvent.{ChannelEvent}
use Rattle.channel_model.specs.Value.{Channels}
use Rattle.channel_model.specs.Calls.{link_down}
use Rattle.channel_model.specs.Carrying.{Up as Handed, Nothing, Received}
use Rattle.channel_model.specs.Hearing.{hears, up}
use Rattle.channel_model.specs.Timing.{timed_out}
use Rattle.channel_model.specs.Giving.{Given, next_given, after_given}
use Rattle.shelf_model.specs.world_model.specs.Machines.{Upper, News, Linked, Up, Down, Failed, Heard, TimerFired, Cancelled, Opening}
use Rattle.shelf_model.specs.host_model.specs.Circumstances.{Circumstance}
use Rattle.shelf_model.specs.host_model.specs.Pdus.{pdu_of, is_frame}
use Rattle.shelf_model.specs.host_model.specs.Profiles.{Profile}
use Rattle.shelf_model.specs.host_model.specs.Hosts.{Host, with_channels, tells_each, settles, strides, drives, driven, handed, hears_news, ready, hear, most_steps, steps_behind, after_said, says, next}
use Rattle.shelf_model.specs.host_model.specs.Settings.{SetHost, said_with, with_settings}
use Rattle.radio_world.specs.Measures.{IsMostOf}
use Rattle.bt_host.specs.Noting.{Noted, noting}
use Rattle.bt_host.specs.Playing.{playing}
use Rattle.bt_host.specs.Shells.{Shelled}

-- no number of the one is above that of the other
abbrev pub Reaches : {S : Type 0} → Noted S → Noted S → Type 0
Reaches old new = (old.window ≤ new.window) × (old.credits ≤ new.credits)

reaches_then : {S : Type 0} (first mid last : Noted S) → Reaches first mid → Reaches mid last → Reaches first last
reaches_then first mid last (window, credits) (window', credits') = (omega (arith, window, window'), omega (arith, credits, credits'))

-- whether a host goes on or not
either : {S : Type 0} (given again : Bool) (old : Noted S) (stay go on : Host (Noted S)) → Reaches old stay.profile → Reaches old go.profile → Reaches old on.profile
    → Reaches old (if given then stay else (if again then go else on)).profile
either true again old stay go on one two three = one
either false true old stay go on one two three = two
either false false old stay go on one two three = three

abbrev ReachesSaid : {S : Type 0} → Noted S → Option (List ℕ × Host (Noted S)) → Type 0
ReachesSaid old None = Unit {0}
ReachesSaid old (Some one) = Reaches old one.1.profile

abbrev ReachesSet : {S : Type 0} → Noted S → Option (List ℕ × SetHost (Noted S)) → Type 0
ReachesSet old None = Unit {0}
ReachesSet old (Some one) = Reaches old one.1.host.profile

set_said : {S : Type 0} (settings : Settings) (old : Noted S) (said : Option (List ℕ × Host (Noted S))) → ReachesSaid old said → ReachesSet old (said_with settings said)
set_said settings old None reaches = tt
set_said settings old (Some one) reaches = reaches

module _ {S : Type 0} (credits_in : S → ℕ) (A : Profile S) where
  abbrev N : Profile (Noted S)
  N = noting credits_in A

  tells_reach : (events : List ChannelEvent) (channels : Channels) (noted : Noted S) → Reaches noted (tells_each N events channels noted)
  tells_reach [] channels noted = (omega arith, omega arith)
  tells_reach (event ∷ events) channels noted = tells_reach events (record channels { events = events }) (N.happened event (record channels { events = events }) noted)

  settles_reach : (host : Host (Noted S)) → Reaches host.profile (settles N host).profile
  settles_reach host = (omega arith, omega arith)

  strides_reach : (channels : Channels) (host : Host (Noted S)) → Reaches host.profile (strides N (N.steps channels host.profile) host).profile
  strides_reach channels host =
      let stride = N.steps channels host.profile in tells_reach stride.channels.events stride.channels stride.profile

  drives_reach : (count : ℕ) (host : Host (Noted S)) → Reaches host.profile (drives N count host).profile
  unfolding drives
  drives_reach zero host = settles_reach host
  drives_reach (suc count) host =
      let still = settles N host in
      let on = strides N (N.steps still.channels still.profile) still in
      let strode = reaches_then host.profile still.profile on.profile (settles_reach host) (strides_reach still.channels still) in
      either (is_some (next_given host.channels)) (A.steps still.channels still.profile.end).more host.profile still (drives N count on) on
      (settles_reach host) (reaches_then host.profile on.profile (drives N count on).profile strode (drives_reach count on)) strode

  handed_reach : (up : Handed) (noted : Noted S) → Reaches noted (handed N up noted)
  handed_reach Nothing noted = (omega arith, omega arith)
  handed_reach (Received own psm sdu) noted = (omega arith, omega arith)

  news_reach : (circumstances : List Circumstance) (news : News) (host : Host (Noted S)) → Reaches host.profile (hears_news N circumstances news host).profile
  news_reach circumstances (Linked Up) host = (omega arith, omega arith)
  news_reach circumstances (Linked (Down reason)) host = let channels = link_down host.channels in tells_reach channels.events channels host.profile
  news_reach circumstances (Failed status) host = (omega arith, omega arith)
  news_reach circumstances (Heard pdu) host =
      let channels = hears A.policy (channel_of pdu) pdu host.channels in
      let noted = handed N (up (channel_of pdu) pdu host.channels) host.profile in
      reaches_then host.profile noted (tells_each N channels.events channels noted) (handed_reach (up (channel_of pdu) pdu host.channels) host.profile) (tells_reach channels.events channels noted)
  news_reach circumstances TimerFired host = let channels = timed_out A.policy host.channels in tells_reach channels.events channels host.profile
  news_reach circumstances Cancelled host = (omega arith, omega arith)
  news_reach circumstances (Opening name) host = (omega arith, omega arith)

  pub hear_reach : (circumstances : List Circumstance) (news : News) (host : Host (Noted S)) → Reaches host.profile (hear N circumstances news host).profile
  hear_reach circumstances news host =
      let heard = hears_news N circumstances news (ready N circumstances host) in
      reaches_then host.profile heard.profile (driven N heard).profile (news_reach circumstances news (ready N circumstances host)) (drives_reach most_steps heard)

  frame_reach : (frame : Bool) (old : Noted S) (pdu : List ℕ) (after : Host (Noted S)) → Reaches old after.profile → ReachesSaid old (if frame then Some (pdu, after) else None)
  frame_reach true old pdu after reaches = reaches
  frame_reach false old pdu after reaches = tt

  says_reach : (given : Option Given) (count : ℕ) (host : Host (Noted S)) → ReachesSaid host.profile (says N given count host)
  says_reach None count host = tt
  says_reach (Some given) zero host = tt
  says_reach (Some given) (suc count) host =
      frame_reach (is_frame (pdu_of given)) host.profile (pdu_of given) (after_said N count host) (drives_reach (steps_behind count) (with_channels (after_given host.channels) host))

  pub next_reach : (host : Host (Noted S)) → ReachesSaid host.profile (next N host)
  next_reach host = says_reach (next_given host.channels) host.may_say host

-- ---- a host that a world plays

module _ {E S P : Type 0} (credits_in : S → ℕ) (profile : Settings → Profile S) (pushing : Noted E → P → List Circumstance → Noted S) where
  abbrev M : Upper (SetHost (Noted S)) Circumstance
  M = with_settings (λ settings. noting credits_in (profile settings))

  said_reach : (s : SetHost (Noted S)) (pdu : List ℕ) (after : SetHost (Noted S)) → M.next s ≡ Some (pdu, after) → Reaches s.host.profile after.host.profile
  said_reach s pdu after is =
      subst (λ said. ReachesSet s.host.profile said) is (set_said s.settings s.host.profile (next (noting credits_in (profile s.settings)) s.host) (next_reach credits_in (profile s.settings) s.host))

  -- its numbers are the greatest so far: none of them ever falls
  pub window_is_noted : (told : (host : Shelled (Noted E)) (port : P) (rest : List Circumstance) → host.stack.upper.end.window ≡ (pushing host.stack.upper.end port rest).window)
      → IsMostOf M (λ (host : Shelled (Noted E)) (port : P). playing pushing port host.stack) (λ host. host.stack.upper.end.window)
  window_is_noted told = record {
    held = λ s. s.host.profile.window;
    most = λ s. s.host.profile.window;
    notes = record {
      first = refl;
      hears = λ answers news s. let (more, other) = hear_reach credits_in (profile s.settings) answers news s.host in omega (arith, more);
      says = λ s pdu after is. let (more, other) = said_reach s pdu after is in omega (arith, more);
    };
    told_is = told;
  }

  pub credits_are_noted : (told : (host : Shelled (Noted E)) (port : P) (rest : List Circumstance) → host.stack.upper.end.credits ≡ (pushing host.stack.upper.end port rest).credits)
      → IsMostOf M (λ (host : Shelled (Noted E)) (port : P). playing pushing port host.stack) (λ host. host.stack.upper.end.credits)
  credits_are_noted told = record {
    held = λ s. s.host.profile.credits;
    most = λ s. s.host.profile.credits;
    notes = record {
      first = refl;
      hears = λ answers news s. let (other, more) = hear_reach credits_in (profile s.settings) answers news s.host in omega (arith, more);
      says = λ s pdu after is. let (other, more) = said_reach s pdu after is in omega (arith, more);
    };
    told_is = told;
  }
