-- Where all is at rest, a host with a link up stays on it; and a host that stays on its link gave up nothing there.
use Rattle.std.proofs.Common.{◌≡◌, Bool, true, false, List, [], ◌∷◌, ◌++◌, map, Option, Some, None, refl, sym, ap, ◌∙◌}
use Rattle.std.specs.List.{AllByRecursion, flat_map}
use Rattle.std.specs.Option.{option_map}
use Rattle.scenario_laws.specs.bt_base.specs.Objects.{Contents}
use Rattle.scenario_laws.specs.bt_base.specs.declared.settings.Settings.{Settings}
use Rattle.scenario_laws.specs.push_script.specs.declared.scenario.Scenario.{Scenario}
use Rattle.scenario_laws.specs.push_terms.specs.declared.word.Side.{Side}
use Rattle.scenario_laws.specs.push_terms.specs.declared.word.Side.TheVariants as sides
use Rattle.scenario_laws.specs.capture.specs.Entries.{Entry}
use Rattle.scenario_laws.specs.capture.specs.Links.{Link, link_up}
use Rattle.scenario_laws.specs.capture.specs.Pdus.{pdus}
use Rattle.channel_laws.specs.channel_model.specs.Policies.{policy}
use Rattle.channel_laws.specs.channel_model.specs.Value.{Channels}
use Rattle.channel_laws.specs.Runs.{Occurrence}
use Rattle.scenario_laws.specs.world_model.specs.Carriages as carriages
use Rattle.scenario_laws.specs.world_model.specs.Machines.{Upper}
use Rattle.scenario_laws.specs.world_model.specs.PerLink.{Linkage, linkage, captured}
use Rattle.scenario_laws.specs.world_model.specs.Talks.{Talk}
use Rattle.scenario_laws.specs.world_model.specs.Worlds.{Happening, all_entries}
use Rattle.scenario_laws.specs.host_model.specs.Clients.{ClientProfile, client_profile}
use Rattle.scenario_laws.specs.host_model.specs.Hosts.{Host}
use Rattle.scenario_laws.specs.host_model.specs.Profiles.{Profile}
use Rattle.scenario_laws.specs.host_model.specs.Servers.{ServerProfile, server_profile}
use Rattle.host_laws.specs.Calls.{Asks}
use Rattle.host_laws.specs.Calm.{pdus_in}
use Rattle.host_laws.specs.Fed.{AreFed, WovenFed}
use Rattle.host_laws.specs.Feeds.{Feed}
use Rattle.host_laws.specs.Keeping.{GivesNothingUp, SendsAsItLends}
use Rattle.host_laws.specs.Leaving.{is_off}
use Rattle.host_laws.specs.Lives.{Span}
use Rattle.host_laws.proofs.Keeping.{servers_keep_on}
use Rattle.host_laws.proofs.KeepingClients.{clients_keep_on}
use Rattle.scenario_laws.specs.Captures.{client_of, server_of, beginning}
use Rattle.scenario_laws.proofs.Acting.{Anyhow, Acted}
use Rattle.scenario_laws.proofs.Both.{idle_acted, both_acted}
use Rattle.scenario_laws.proofs.Carrying.{carried}
use Rattle.scenario_laws.proofs.Freeing.{runs_are_free}
use Rattle.scenario_laws.proofs.Fronts.{fits}
use Rattle.scenario_laws.proofs.Keeping.{server_stays}
use Rattle.scenario_laws.proofs.Onward.{pushes_go_onward}
use Rattle.scenario_laws.specs.turn_laws.proofs.Recounting.{HoldsAtRests}
use Rattle.pair_laws.specs.Heard.{HearsSo}
use Rattle.pair_laws.proofs.Carrying.{StayOn}
use Rattle.pair_laws.proofs.Hosting.{AllHearSo, HostAt}

-- ---- at rest

-- a push goes on over the link of the client, and the server does not end its own
abbrev pub ClientStays : Host ClientProfile → Type 0
ClientStays host = is_off host.profile.client.stage ≡ false

abbrev pub ServerStays : Host ServerProfile → Type 0
ServerStays host = host.profile.breaks ≡ false

-- the link that a host knows of is up in the capture
link_there : {S G : Type 0} (U : Upper S G) (side : Side) (past : List Entry) (linked : Bool) (now : S) (talk : List Talk) → Acted U linked now [] talk → linkage talk ≡ captured side past → linked ≡ true → (link : Link) × (link_up side past ≡ Some link)
link_there U side past linked now talk acted known on = by (link_up side past) refl (ap (λ (l : Linkage). l.up) (sym known) ∙ (acted.up on).links_are)
  where
    by : (up : Option Link) → link_up side past ≡ up → option_map pdus up ≡ Some (flat_map pdus_in (acted.up on).on.since) → (link : Link) × (link_up side past ≡ Some link)
    by None is there = cc
    by (Some link) is there = (link, is)

pub rests-stay : (scenario : Scenario) (content : Option Contents) (happenings : List Happening) → HoldsAtRests (client_of scenario) (server_of scenario content) (StayOn ClientStays ServerStays) happenings (beginning scenario content)
rests-stay scenario content happenings front mid talk_a talk_b is there rest =
    let U = client_of scenario in
    let V = server_of scenario content in
    let past = all_entries front in
    let all = carried U V scenario.acl_length scenario.acl_count scenario.names front mid (fits scenario content) there in
    let both = (both_acted U V Anyhow Anyhow scenario.acl_length scenario.names all.doings _ all.so).0 in
    let idle = all.rests rest in (
      λ on. let (link, up) = link_there U sides.A past mid.radio.a.up mid.a.upper all.talk_a (idle_acted U Anyhow _ idle.idle_a both.a) all.links_a on in pushes_go_onward scenario content happenings front mid link is there rest up,
      λ on.
          let (link, up) = link_there V sides.B past mid.radio.b.up mid.b.upper all.talk_b (idle_acted V Anyhow _ idle.idle_b both.b) all.links_b on in
          server_stays scenario content front mid there rest ((runs_are_free scenario content happenings).b front mid is there rest) link up,
    )

-- ---- a host that stays

-- what its profile went through on the last link
record LastWoven {P : Type 0} (A : Profile P) (asks : Asks A) (now : List Occurrence) (last : P) : Type 0 where
  feeds : List Feed
  first : P
  fed : WovenFed A asks now feeds first last

last_woven : {P : Type 0} (A : Profile P) (asks : Asks A) (spans : List Span) (now : List Occurrence) (feeds : List Feed) (first last : P) → AreFed A asks spans now feeds first last → LastWoven A asks now last
last_woven A asks [] now feeds first last fed = record { feeds = feeds; first = first; fed = fed }
last_woven A asks (span ∷ spans) now feeds first last (here, later, is, rest) = last_woven A asks spans now later _ last rest

pub client-gives_nothing_up : (settings : Settings) (asks : Asks (client_profile settings)) (W : ClientProfile → Type 0) (G : Feed → Type 0) (H : List Occurrence → Type 0) (e : carriages.End (Host ClientProfile)) (host : HostAt (client_profile settings) asks W G H e) → ClientStays e.upper → GivesNothingUp (policy settings false) host.so.lives.now
client-gives_nothing_up settings asks W G H e host stays =
    let lives = host.so.lives in
    let woven = last_woven (client_profile settings) asks lives.spans lives.now lives.feeds (client_profile settings).first e.upper.profile host.so.fed in
    clients_keep_on settings asks lives.now woven.first e.upper.profile woven.fed.woven (ap (λ (v : Channels). v.events) (sym lives.channels_run) ∙ lives.all_told) stays

pub server-gives_nothing_up : (settings : Settings) (content : Option Contents) (asks : Asks (server_profile settings content)) (W : ServerProfile → Type 0) (G : Feed → Type 0) (H : List Occurrence → Type 0) (f : carriages.End (Host ServerProfile)) (host : HostAt (server_profile settings content) asks W G H f) → SendsAsItLends settings content asks → ServerStays f.upper
    → GivesNothingUp (policy settings true) host.so.lives.now
server-gives_nothing_up settings content asks W G H f host sends stays = servers_keep_on settings content asks host.marks f.upper host.so.lives sends stays

-- on each link of a host
pub heard-on_links : (H : List Occurrence → Type 0) (spans : List Span) (now : List Occurrence) → AllHearSo H spans now → AllByRecursion (HearsSo H) (map (λ (span : Span). span.list) spans ++ now ∷ [])
heard-on_links H [] now (before, here) = (here, tt)
heard-on_links H (span ∷ spans) now (before, here) = (before.0, heard-on_links H spans now (before.1, here))
