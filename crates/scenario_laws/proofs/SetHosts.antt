-- Both hosts in code, beside their settings, are the hosts of a scenario: what the inbox holds at first is no matter of the machine. And what a
-- profile is at first, and what it keeps of the answers of its ports, is no matter of all else that its host does.
use Rattle.std.proofs.Common.{◌≡◌, ℕ, zero, suc, Bool, true, false, List, [], ◌∷◌, Option, Some, None, is_some, refl, ap, ◌∙◌, if◌then◌else◌}
use Rattle.radio_world.specs.bt_base.specs.Objects.{Contents}
use Rattle.radio_world.specs.bt_base.specs.declared.settings.Settings.{Settings}
use Rattle.host_laws.specs.channel_model.specs.declared.event.ChannelEvent.{ChannelEvent}
use Rattle.host_laws.specs.channel_model.specs.Calls.{link_down}
use Rattle.host_laws.specs.channel_model.specs.Hearing as channels
use Rattle.host_laws.specs.channel_model.specs.Timing.{timed_out}
use Rattle.host_laws.specs.channel_model.specs.Value.{Channels}
use Rattle.host_laws.specs.channel_model.specs.Giving.{Given, next_given, after_given}
use Rattle.host_laws.specs.acl_fragments.specs.Pieces.{channel_of}
use Rattle.host_laws.specs.world_model.specs.Machines.{Up, Down, News, Linked, Failed, Heard, TimerFired, Cancelled, Opening}
use Rattle.radio_world.specs.run_laws.specs.Embedding.{Embeds, said_as}
use Rattle.host_laws.specs.host_model.specs.Circumstances.{Circumstance}
use Rattle.host_laws.specs.host_model.specs.Pdus.{pdu_of}
use Rattle.host_laws.specs.host_model.specs.Profiles.{Stride, Profile}
use Rattle.host_laws.specs.host_model.specs.Hosts.{Host, drives, most_steps, steps_behind, driven, goes_by, strides, settles, tells_each, tells_events, handed, hears_news, told, ready, hear, says_frame, says, with_channels}
use Rattle.host_laws.specs.host_model.specs.Machines.{upper}
use Rattle.host_laws.specs.host_model.specs.Clients.{client_profile}
use Rattle.host_laws.specs.host_model.specs.Servers.{server_profile}
use Rattle.host_laws.specs.host_model.specs.Settings.{set_to, server_machine}
use Rattle.host_laws.specs.host_model.proofs.Setting.{settings_stay, set_hosts_are_orderly}
use Rattle.scenario_laws.specs.Played.{SetHostsAreHosts}

module _ {P : Type 0} (A : Profile P) (first : P) (given : List Circumstance → P → P) where
  -- the same profile, but for what it is at first and what it keeps
  abbrev Other : Profile P
  Other = record A { first = first; given = given }

  each_same : (events : List ChannelEvent) (v : Channels) (p : P) → tells_each Other events v p ≡ tells_each A events v p
  each_same [] v p = refl
  each_same (event ∷ events) v p = let now : Channels = record v { events = events } in each_same events now (A.happened event now p)

  tells_same : (host : Host P) → tells_events Other host ≡ tells_events A host
  tells_same host = ap (λ (p : P). record host { channels = record (host.channels) { events = [] }; profile = p }) (each_same host.channels.events host.channels host.profile)

  more_same : (test : Bool) (other more : Host P → Host P) (stride : Stride P) (host : Host P) → ((h : Host P) → other h ≡ more h)
      → (if test then other (strides Other stride host) else strides Other stride host) ≡ (if test then more (strides A stride host) else strides A stride host)
  more_same true other more stride host same = same (strides Other stride host) ∙ ap more (tells_same (record host { channels = stride.channels; profile = stride.profile }))
  more_same false other more stride host same = tells_same (record host { channels = stride.channels; profile = stride.profile })

  goes_same : (test : Bool) (other more : Host P → Host P) (host : Host P) → ((h : Host P) → other h ≡ more h)
      → (if test then host else goes_by Other other (A.steps host.channels host.profile) host) ≡ (if test then host else goes_by A more (A.steps host.channels host.profile) host)
  goes_same true other more host same = refl
  goes_same false other more host same = let stride = A.steps host.channels host.profile in more_same stride.more other more stride host same

  drives_same : (count : ℕ) (host : Host P) → drives Other count host ≡ drives A count host
  unfolding drives
  drives_same zero host = refl
  drives_same (suc count) host = let now = settles A host in goes_same (is_some (next_given now.channels)) (λ h. drives Other count h) (λ h. drives A count h) now (λ h. drives_same count h)

  heard_same : (circumstances : List Circumstance) (news : News) (host : Host P) → hears_news Other circumstances news host ≡ hears_news A circumstances news host
  heard_same circumstances (Linked Up) host = refl
  heard_same circumstances (Linked (Down reason)) host = ap (told A circumstances (Linked (Down reason))) (tells_same (with_channels (link_down host.channels) host))
  heard_same circumstances (Failed status) host = refl
  heard_same circumstances (Heard pdu) host =
      tells_same (record host { channels = channels.hears A.policy (channel_of pdu) pdu host.channels; profile = handed A (channels.up (channel_of pdu) pdu host.channels) host.profile })
  heard_same circumstances TimerFired host = ap (told A circumstances TimerFired) (tells_same (with_channels (timed_out A.policy host.channels) host))
  heard_same circumstances Cancelled host = refl
  heard_same circumstances (Opening name) host = refl

  pub hear_same : (circumstances : List Circumstance) (news : News) (host : Host P) → hear Other circumstances news host ≡ driven A (hears_news A circumstances news (ready Other circumstances host))
  hear_same circumstances news host =
      let now = ready Other circumstances host in
      drives_same most_steps (hears_news Other circumstances news now) ∙ ap (λ (h : Host P). driven A h) (heard_same circumstances news now)

  pub says_same : (next : Option Given) (count : ℕ) (host : Host P) → says Other next count host ≡ says A next count host
  says_same None count host = refl
  says_same (Some given) zero host = refl
  says_same (Some given) (suc count) host =
      ap (λ (h : Host P). says_frame (pdu_of given) (record h { may_say = count })) (drives_same (steps_behind count) (with_channels (after_given host.channels) host))

-- ---- the machines

server_stays : (settings : Settings) (content : Option Contents) → Embeds (set_to settings) (upper (server_profile settings content)) server_machine
server_stays settings content =
    let A = server_profile settings content in
    let first = (server_profile settings None).first in
    record {
      hear = λ answers news host. ap (set_to settings) (hear_same A first A.given answers news host);
      next = λ host. ap (said_as (set_to settings)) (says_same A first A.given (next_given host.channels) host.may_say host);
      wants_link = λ host. refl;
      leaves_link = λ host. refl;
      is_idle = λ host. refl;
      outcome = λ host. refl;
      armed = λ host. refl;
      may_cancel = λ host. refl;
      has_check = λ host own. refl;
    }

pub set_hosts_are_hosts : SetHostsAreHosts
set_hosts_are_hosts scenario content = record { a = settings_stay client_profile scenario.settings; b = server_stays scenario.settings content; orderly = set_hosts_are_orderly }
