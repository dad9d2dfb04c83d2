-- A client with what its shelf tells that it holds is that client, whose shelf answers so.
use Rattle.std.proofs.Common.{◌≡◌, ℕ, zero, suc, Bool, true, false, List, [], ◌∷◌, map, Option, Some, None, is_some, refl, sym, ap, subst, ◌∙◌, if◌then◌else◌}
use Rattle.bt_base.specs.declared.settings.Settings.{Settings}
use Rattle.bt_base.specs.Objects.{Object}
use Rattle.bt_host.specs.acl_fragments.specs.Pieces.{channel_of}
use Rattle.bt_host.specs.channel_model.specs.declared.event.ChannelEvent.{ChannelEvent}
use Rattle.bt_host.specs.channel_model.specs.Value.{Channels}
use Rattle.bt_host.specs.channel_model.specs.Calls.{link_down}
use Rattle.bt_host.specs.channel_model.specs.Carrying.{Up as Handed, Nothing, Received}
use Rattle.bt_host.specs.channel_model.specs.Hearing.{hears, up}
use Rattle.bt_host.specs.channel_model.specs.Timing.{timed_out}
use Rattle.bt_host.specs.channel_model.specs.Giving.{Given, next_given, after_given}
use Rattle.noting_laws.specs.world_model.specs.Machines.{Upper, News, Linked, Up, Down, Failed, Heard, TimerFired, Cancelled, Opening}
use Rattle.noting_laws.specs.turn_laws.specs.Premises.{Idles}
use Rattle.noting_laws.specs.rest_laws.specs.Premises.{AsksOnce, AreOrderly}
use Rattle.radio_world.specs.run_laws.specs.Embedding.{said_as}
use Rattle.noting_laws.specs.alike_laws.proofs.Alike.{AreAlike}
use Rattle.bt_host.specs.host_model.specs.Circumstances.{Circumstance, Excerpt}
use Rattle.bt_host.specs.host_model.specs.Clients.{ClientProfile, client_profile}
use Rattle.bt_host.specs.host_model.specs.Hosts.{Host, with_channels, tells_each, tells_events, settles, strides, drives, driven, handed, told, hears_news, ready, hear, most_steps, most_said, steps_behind, after_said, says, next}
use Rattle.bt_host.specs.host_model.specs.Pdus.{pdu_of, is_frame}
use Rattle.bt_host.specs.host_model.specs.Profiles.{Profile}
use Rattle.bt_host.specs.host_model.specs.Settings.{SetHost, set_to, said_with, with_settings, client_machine}
use Rattle.bt_host.specs.host_model.proofs.Setting.{said_by}
use Rattle.bt_host.specs.shelf_model.specs.Held.{given_by, held_by}
use Rattle.bt_host.specs.shelf_model.proofs.Sizes.{parts_held}
use Rattle.noting_laws.specs.inbox_laws.specs.Owned.{own_machine}
use Rattle.noting_laws.specs.inbox_laws.proofs.Keeping.{KeepsSo, hear_kept, next_kept}
use Rattle.noting_laws.specs.inbox_laws.proofs.Owning.{own_orderly}
use Rattle.noting_laws.specs.pair_laws.specs.Served.{holding_on}
use Rattle.bt_host.specs.Shelving.{Shelved, in_memory, shelf_profile}
use Rattle.scenario_play.specs.Shelving.{bare_host, bare_set}

-- whether a host goes on or not
either : (given again : Bool) (stay go on : Host Shelved) (stay' go' on' : Host ClientProfile) → bare_host stay ≡ stay' → bare_host go ≡ go' → bare_host on ≡ on'
    → bare_host (if given then stay else (if again then go else on)) ≡ (if given then stay' else (if again then go' else on'))
either true again stay go on stay' go' on' one two three = one
either false true stay go on stay' go' on' one two three = two
either false false stay go on stay' go' on' one two three = three

framed : (frame : Bool) (pdu : List ℕ) (after : Host Shelved) (after' : Host ClientProfile) → bare_host after ≡ after'
    → (if frame then Some (pdu, after') else None) ≡ said_as bare_host (if frame then Some (pdu, after) else None)
framed true pdu after after' same = ap (λ h. Some (pdu, h)) (sym same)
framed false pdu after after' same = refl

set_framed : (settings : Settings) (said : Option (List ℕ × Host Shelved)) → said_with settings (said_as bare_host said) ≡ said_as bare_set (said_with settings said)
set_framed settings None = refl
set_framed settings (Some one) = refl

module _ (settings : Settings) where
  abbrev A : Profile ClientProfile
  A = client_profile settings

  abbrev N : Profile Shelved
  N = shelf_profile settings

  each_bare : (events : List ChannelEvent) (channels : Channels) (shelved : Shelved) → (tells_each N events channels shelved).pushing ≡ tells_each A events channels shelved.pushing
  each_bare [] channels shelved = refl
  each_bare (event ∷ events) channels shelved = each_bare events (record channels { events = events }) (N.happened event (record channels { events = events }) shelved)

  events_bare : (host : Host Shelved) → bare_host (tells_events N host) ≡ tells_events A (bare_host host)
  events_bare host =
      ap (λ (p : ClientProfile). let h : Host ClientProfile = record { channels = record host.channels { events = [] }; profile = p; may_say = host.may_say } in h) (each_bare host.channels.events host.channels host.profile)

  strides_bare : (host : Host Shelved) → bare_host (strides N (N.steps host.channels host.profile) host) ≡ strides A (A.steps host.channels host.profile.pushing) (bare_host host)
  strides_bare host = let stride = N.steps host.channels host.profile in events_bare (record host { channels = stride.channels; profile = stride.profile })

  drives_bare : (count : ℕ) (host : Host Shelved) → bare_host (drives N count host) ≡ drives A count (bare_host host)
  unfolding drives
  drives_bare zero host = refl
  drives_bare (suc count) host =
      let still = settles N host in
      let still' = settles A (bare_host host) in
      let on = strides N (N.steps still.channels still.profile) still in
      let on' = strides A (A.steps still'.channels still'.profile) still' in
      either (is_some (next_given host.channels)) (A.steps still'.channels still'.profile).more still (drives N count on) on still' (drives A count on') on' refl
      (drives_bare count on ∙ ap (λ h. drives A count h) (strides_bare still)) (strides_bare still)

  handed_bare : (up : Handed) (shelved : Shelved) → (handed N up shelved).pushing ≡ handed A up shelved.pushing
  handed_bare Nothing shelved = refl
  handed_bare (Received own psm sdu) shelved = refl

  -- what its shelf holds it tells as a push begins
  news_bare : (circumstances : List Circumstance) (news : News) (host : Host Shelved) → bare_host (hears_news N circumstances news host) ≡ hears_news A (held_by host.profile.shelf news (map in_memory circumstances)) news (bare_host host)
  news_bare circumstances (Linked Up) host = refl
  news_bare circumstances (Linked (Down reason)) host = ap (λ h. told A circumstances (Linked (Down reason)) h) (events_bare (with_channels (link_down host.channels) host))
  news_bare circumstances (Failed status) host = refl
  news_bare circumstances (Heard pdu) host =
      let channels = hears A.policy (channel_of pdu) pdu host.channels in
      let handing = up (channel_of pdu) pdu host.channels in
      events_bare (record host { channels = channels; profile = handed N handing host.profile })
      ∙ ap (λ (p : ClientProfile). tells_events A (record { channels = channels; profile = p; may_say = host.may_say })) (handed_bare handing host.profile)
  news_bare circumstances TimerFired host = ap (λ h. told A circumstances TimerFired h) (events_bare (with_channels (timed_out A.policy host.channels) host))
  news_bare circumstances Cancelled host = refl
  news_bare circumstances (Opening name) host = refl

  ready_bare : (shelf : Option (List Object)) (news : News) (circumstances : List Circumstance) (host : Host ClientProfile) → ready A (map (given_by shelf) circumstances) host ≡ ready A (held_by shelf news circumstances) host
  ready_bare shelf news circumstances host =
      ap (λ (parts : List Excerpt). let h : Host ClientProfile = record host { profile = record host.profile { parts = parts }; may_say = most_said } in h) (sym (parts_held shelf news circumstances))

  hear_bare : (circumstances : List Circumstance) (news : News) (host : Host Shelved) → bare_host (hear N circumstances news host) ≡ hear A (held_by host.profile.shelf news (map in_memory circumstances)) news (bare_host host)
  hear_bare circumstances news host =
      let found = map in_memory circumstances in
      let held = held_by host.profile.shelf news found in
      drives_bare most_steps (hears_news N circumstances news (ready N circumstances host))
      ∙ (ap (λ h. driven A h) (news_bare circumstances news (ready N circumstances host)) ∙ ap (λ h. driven A (hears_news A held news h)) (ready_bare host.profile.shelf news found (bare_host host)))

  says_bare : (given : Option Given) (count : ℕ) (host : Host Shelved) → says A given count (bare_host host) ≡ said_as bare_host (says N given count host)
  says_bare None count host = refl
  says_bare (Some given) zero host = refl
  says_bare (Some given) (suc count) host =
      framed (is_frame (pdu_of given)) (pdu_of given) (after_said N count host) (after_said A count (bare_host host))
      (ap (λ (h : Host ClientProfile). record h { may_say = count }) (drives_bare (steps_behind count) (with_channels (after_given host.channels) host)))

  next_bare : (host : Host Shelved) → next A (bare_host host) ≡ said_as bare_host (next N host)
  next_bare host = says_bare (next_given host.channels) host.may_say host

  -- what its shelf holds stays
  shelf_kept : (shelf : Option (List Object)) → KeepsSo N (λ (shelved : Shelved). shelved.shelf ≡ shelf)
  shelf_kept shelf = record {
    given = λ circumstances shelved is. is;
    told = λ circumstances news shelved is. is;
    received = λ own psm sdu shelved is. is;
    happened = λ event v shelved is. is;
    sent = λ v shelved is. is;
    steps = λ v shelved is. is;
  }

-- ---- the machines

abbrev pub shelf_machine : Upper (SetHost Shelved) Circumstance
shelf_machine = with_settings shelf_profile

set_hears : (answers : List Circumstance) (news : News) (s : SetHost Shelved) → client_machine.hear (held_by s.host.profile.shelf news (map in_memory answers)) news (bare_set s) ≡ bare_set (shelf_machine.hear answers news s)
set_hears answers news s = ap (set_to s.settings) (sym (hear_bare s.settings answers news s.host))

set_says : (s : SetHost Shelved) → client_machine.next (bare_set s) ≡ said_as bare_set (shelf_machine.next s)
set_says s = ap (said_with s.settings) (next_bare s.settings s.host) ∙ set_framed s.settings (next (shelf_profile s.settings) s.host)

said_there : (s : SetHost Shelved) (pdu : List ℕ) (after : SetHost Shelved) → shelf_machine.next s ≡ Some (pdu, after) → client_machine.next (bare_set s) ≡ Some (pdu, bare_set after)
said_there s pdu after is = set_says s ∙ ap (said_as bare_set) is

-- it is that client, whose shelf answers otherwise as a push begins
pub bare_alike : AreAlike (λ s t. t ≡ bare_set s) shelf_machine client_machine
bare_alike = record {
  hear = λ answers news s t is. (held_by s.host.profile.shelf news (map in_memory answers), ap (client_machine.hear (held_by s.host.profile.shelf news (map in_memory answers)) news) is ∙ set_hears answers news s);
  says = λ s t is pdu after same. (bare_set after, refl, ap client_machine.next is ∙ said_there s pdu after same);
  silent = λ s t is none. ap client_machine.next is ∙ (set_says s ∙ ap (said_as bare_set) none);
  wants_link = λ s t is. ap client_machine.wants_link is;
  leaves_link = λ s t is. ap client_machine.leaves_link is;
  is_idle = λ s t is. ap client_machine.is_idle is;
  outcome = λ s t is. ap client_machine.outcome is;
  armed = λ s t is. ap client_machine.armed is;
  may_cancel = λ s t is. ap client_machine.may_cancel is;
  has_check = λ s t own is. ap (λ x. client_machine.has_check x own) is;
}

abbrev pub HoldsShelf : Option (List Object) → SetHost Shelved → Type 0
HoldsShelf shelf s = s.host.profile.shelf ≡ shelf

shelf_on : (shelf : Option (List Object)) (s : SetHost Shelved) (pdu : List ℕ) (after : SetHost Shelved) → shelf_machine.next s ≡ Some (pdu, after) → HoldsShelf shelf s → HoldsShelf shelf after
shelf_on shelf s pdu after is holds =
    let (host, said, same) = said_by s.settings (next (shelf_profile s.settings) s.host) pdu after is in
    subst (HoldsShelf shelf) (sym same) (next_kept (shelf_profile s.settings) (λ (shelved : Shelved). shelved.shelf ≡ shelf) (shelf_kept s.settings shelf) s.host pdu host said holds)

-- and where its shelf holds these objects, that client with a shelf that does
pub held_alike : (shelf : Option (List Object)) → AreAlike (λ s t. (t ≡ bare_set s) × HoldsShelf shelf s) shelf_machine (holding_on shelf client_machine)
held_alike shelf = record {
  hear = λ answers news s t so. (
    map in_memory answers,
    (
      ap (client_machine.hear (held_by shelf news (map in_memory answers)) news) so.0 ∙ (ap (λ (held : Option (List Object)). client_machine.hear (held_by held news (map in_memory answers)) news (bare_set s)) (sym so.1) ∙ set_hears answers news s),
      hear_kept (shelf_profile s.settings) (λ (shelved : Shelved). shelved.shelf ≡ shelf) (shelf_kept s.settings shelf) answers news s.host so.1,
    ),
  );
  says = λ s t so pdu after same. (bare_set after, (refl, shelf_on shelf s pdu after same so.1), ap client_machine.next so.0 ∙ said_there s pdu after same);
  silent = λ s t so none. ap client_machine.next so.0 ∙ (set_says s ∙ ap (said_as bare_set) none);
  wants_link = λ s t so. ap client_machine.wants_link so.0;
  leaves_link = λ s t so. ap client_machine.leaves_link so.0;
  is_idle = λ s t so. ap client_machine.is_idle so.0;
  outcome = λ s t so. ap client_machine.outcome so.0;
  armed = λ s t so. ap client_machine.armed so.0;
  may_cancel = λ s t so. ap client_machine.may_cancel so.0;
  has_check = λ s t own so. ap (λ x. client_machine.has_check x own) so.0;
}

-- so it is orderly as that client is
idles_bare : Idles client_machine → Idles shelf_machine
idles_bare idles = record {
  first = refl;
  wants_none = λ s is. idles.wants_none (bare_set s) is;
  hears = λ answers news s aside is. sym (ap client_machine.is_idle (set_hears answers news s)) ∙ idles.hears (held_by s.host.profile.shelf news (map in_memory answers)) news (bare_set s) aside is;
  says = λ s pdu after same is. idles.says (bare_set s) pdu (bare_set after) (said_there s pdu after same) is;
}

once_bare : AsksOnce client_machine → AsksOnce shelf_machine
once_bare once = record {
  comes = λ answers s. sym (ap client_machine.wants_link (set_hears answers (Linked Up) s)) ∙ once.comes (held_by s.host.profile.shelf (Linked Up) (map in_memory answers)) (bare_set s);
  hears = λ answers news s aside none. sym (ap client_machine.wants_link (set_hears answers news s)) ∙ once.hears (held_by s.host.profile.shelf news (map in_memory answers)) news (bare_set s) aside none;
  says = λ s pdu after same none. once.says (bare_set s) pdu (bare_set after) (said_there s pdu after same) none;
}

pub shelf_orderly : AreOrderly shelf_machine own_machine
shelf_orderly = record {
  frames_a = λ s pdu after is. own_orderly.frames_a (bare_set s) pdu (bare_set after) (said_there s pdu after is);
  frames_b = own_orderly.frames_b;
  idles = idles_bare own_orderly.idles;
  once = once_bare own_orderly.once;
}
