-- Where both hosts are free wherever a run is at rest, they came gently to what the capture has, and at rest they live through it.
use Rattle.std.proofs.Common.{◌≡◌, Bool, true, false, List, [], ◌∷◌, Option, Some, None, refl, sym, ap, ◌∙◌}
use Rattle.std.specs.List.{flat_map}
use Rattle.std.specs.Option.{option_map}
use Rattle.std.proofs.lemmas.List.{append-nil}
use Rattle.radio_world.specs.bt_base.specs.Objects.{Contents}
use Rattle.radio_world.specs.push_script.specs.declared.scenario.Scenario.{Scenario}
use Rattle.radio_world.specs.push_terms.specs.declared.word.Side.{Side}
use Rattle.radio_world.specs.push_terms.specs.declared.word.Side.TheVariants as sides
use Rattle.radio_world.specs.capture.specs.Entries.{Entry}
use Rattle.radio_world.specs.capture.specs.Links.{Link, linking, link_up}
use Rattle.radio_world.specs.capture.specs.Moves.{moves}
use Rattle.radio_world.specs.capture.specs.Pdus.{Pdu, pdus}
use Rattle.host_laws.specs.link_talk.specs.declared.party.Party.{Party}
use Rattle.host_laws.specs.world_model.specs.Machines.{Linked, Failed, Heard, TimerFired, Cancelled, Opening}
use Rattle.host_laws.specs.world_model.specs.Talks.{Talk}
use Rattle.host_laws.specs.world_model.specs.PerLink.{Linkage, linkage, captured}
use Rattle.host_laws.specs.world_model.specs.Worlds.{Happening, all_entries}
use Rattle.host_laws.specs.host_model.specs.Circumstances.{Circumstance}
use Rattle.host_laws.specs.host_model.specs.Hosts.{Host, first_host}
use Rattle.host_laws.specs.host_model.specs.Clients.{client_profile}
use Rattle.host_laws.specs.host_model.specs.Profiles.{Profile}
use Rattle.host_laws.specs.host_model.specs.Servers.{server_profile}
use Rattle.host_laws.specs.host_model.specs.Machines.{upper}
use Rattle.host_laws.specs.Acts.{Act, Hears, Says}
use Rattle.host_laws.specs.Calls.{Asks}
use Rattle.host_laws.specs.Calm.{HoldsNothingBack, pdus_in}
use Rattle.host_laws.specs.OverLinks.{is_up_behind}
use Rattle.host_laws.specs.Seen.{FiresPlainly}
use Rattle.scenario_laws.specs.Captures.{client_of, server_of, beginning}
use Rattle.scenario_laws.specs.Coming.{CameUp}
use Rattle.scenario_laws.specs.Gentle.{IsFreeAct, AreFreeUp, LivesThrough, IsFreeAt, HostsAreFree, FreeRunsAreGentle, CameSoAt, FreeRestsAreLived}
use Rattle.scenario_laws.specs.Parties.{party_of}
use Rattle.scenario_laws.specs.Plain.{IsPlainAt, KeepsOn, FreeHostsArePlain}
use Rattle.scenario_laws.proofs.Acting.{Anyhow, IsActSo, AreSo, Acted, ActedSo, SinceSo, since_up}
use Rattle.scenario_laws.proofs.Both.{AreReady, idle_acted, both_acted}
use Rattle.scenario_laws.proofs.Carrying.{carried, carried_so}
use Rattle.scenario_laws.proofs.Coming.{ended_all, CameOverSo, came_over}
use Rattle.scenario_laws.proofs.Freeing.{runs_are_free}
use Rattle.scenario_laws.proofs.Fronts.{fits}
use Rattle.scenario_laws.proofs.Gentle.{hosts_are_gentle, rests_are_lived}
use Rattle.host_laws.specs.turn_laws.proofs.Recounting.{HoldsAtRests}

-- where a PDU comes in, and where the timer fires
abbrev pub free_where : {P : Type 0} → Profile P → Bool → Host P → Type 0
free_where A false now = HoldsNothingBack A now
free_where A true now = HoldsNothingBack A now × FiresPlainly A.policy now.channels

pub free_acts : {P : Type 0} (A : Profile P) (acts : List (Act Circumstance)) (up : Bool) (now : Host P) → AreSo (upper A) (free_where A) up acts now → AreFreeUp A up acts now
free_acts A [] up now so = tt
free_acts A (act ∷ acts) up now so = (λ on. by act (so.0 on), λ mid does. free_acts A acts (is_up_behind up act) mid (so.1 mid does))
  where
    by : (one : Act Circumstance) → IsActSo (free_where A) one now → IsFreeAct A one now
    by (Hears gifts (Linked event)) is = tt
    by (Hears gifts (Failed status)) is = tt
    by (Hears gifts (Heard pdu)) is = is
    by (Hears gifts TimerFired) is = is
    by (Hears gifts Cancelled) is = tt
    by (Hears gifts (Opening name)) is = tt
    by (Says pdu) is = tt

-- ---- wherever a run is at rest

pub ready : {P : Type 0} (A : Profile P) (side : Side) (past : List Entry) (linked : Bool) (now : Host P) (talk : List Talk) → Acted (upper A) linked now [] talk → linkage talk ≡ captured side past → IsFreeAt A (link_up side past) now → linked ≡ true
    → free_where A false now × ((upper A).armed now ≡ true → free_where A true now)
ready A side past linked now talk acted known free on = by (link_up side past) (ap (λ (l : Linkage). l.up) (sym known) ∙ (acted.up on).links_are) free
  where
    by : (up : Option Link) → option_map pdus up ≡ Some (flat_map pdus_in (acted.up on).on.since) → IsFreeAt A up now → free_where A false now × ((upper A).armed now ≡ true → free_where A true now)
    by None is free = cc
    by (Some link) is free = (free.back, λ armed. (free.back, free.fires armed))

pub rests_hold : (scenario : Scenario) (content : Option Contents) (happenings : List Happening) → HostsAreFree scenario content happenings
    → HoldsAtRests (client_of scenario) (server_of scenario content) (AreReady (client_of scenario) (server_of scenario content) (free_where (client_profile scenario.settings)) (free_where (server_profile scenario.settings content))) happenings (beginning scenario content)
rests_hold scenario content happenings free front mid talk_a talk_b is there rest =
    let U = client_of scenario in
    let V = server_of scenario content in
    let past = all_entries front in
    let all = carried U V scenario.acl_length scenario.acl_count scenario.names front mid (fits scenario content) there in
    let both = (both_acted U V Anyhow Anyhow scenario.acl_length scenario.names all.doings _ all.so).0 in
    let idle = all.rests rest in (
      ready (client_profile scenario.settings) sides.A past mid.radio.a.up mid.a.upper all.talk_a (idle_acted U Anyhow _ idle.idle_a both.a) all.links_a (free.a front mid is there rest),
      ready (server_profile scenario.settings content) sides.B past mid.radio.b.up mid.b.upper all.talk_b (idle_acted V Anyhow _ idle.idle_b both.b) all.links_b (free.b front mid is there rest),
    )

-- ---- at each moment

pub free_runs_are_gentle : FreeRunsAreGentle
free_runs_are_gentle scenario content capture ran =
    let free = runs_are_free scenario content ran.happenings in
    let client = client_profile scenario.settings in
    let server = server_profile scenario.settings content in
    let U = client_of scenario in
    let V = server_of scenario content in
    let W = free_where client in
    let X = free_where server in
    let past = all_entries ran.happenings in
    let all = carried_so U V (AreReady U V W X) scenario.acl_length scenario.acl_count scenario.names ran.happenings ran.world (fits scenario content) ran.happened (rests_hold scenario content ran.happenings free) in
    let acted = (both_acted U V W X scenario.acl_length scenario.names all.doings _ all.so).0 in
    let gentle = hosts_are_gentle scenario content capture ran in
    let same : (side : Side) → linking (moves side capture) ≡ linking (moves side past) = λ side. ap (λ (es : List Entry). linking (moves side es)) ran.capture_is ∙ ended_all side ran.world.pushes past ran.ends ran.last in
    let a : CameOverSo client W sides.A capture ran.world.a.upper = came_over client W sides.A past capture _ ran.world.a.upper _ all.talk_a acted.a.acted all.links_a (same sides.A) in
    let b : CameOverSo server X sides.B capture ran.world.b.upper = came_over server X sides.B past capture _ ran.world.b.upper _ all.talk_b acted.b.acted all.links_b (same sides.B) in
    record {
      a = record { came = a.came; gently = gentle.a a.came (free_acts client a.came.over.acts false (first_host client) a.so) };
      b = record { came = b.came; gently = gentle.b b.came (free_acts server b.came.over.acts false (first_host server) b.so) };
    }

-- ---- at rest

pub came_so : {P : Type 0} (A : Profile P) (asks : Asks A) (side : Side) (past : List Entry) (linked : Bool) (now : Host P) (talk : List Talk) → ActedSo (upper A) (free_where A) linked now [] talk → linkage talk ≡ captured side past → LivesThrough A asks (link_up side past) now
    → IsFreeAt A (link_up side past) now → CameSoAt A asks (link_up side past) now
came_so {P} A asks side past true now talk acted known lives free =
    let up : SinceSo (upper A) (free_where A) talk now = since_up (upper A) (free_where A) now talk acted in
    by up (link_up side past) (ap (λ (l : Linkage). l.up) (sym known) ∙ up.links_are) lives free
  where
    same : (x y : List Pdu) → Some x ≡ Some y → y ≡ x
    same x y is = cc

    by : (up : SinceSo (upper A) (free_where A) talk now) (link : Option Link) → option_map pdus link ≡ Some (flat_map pdus_in up.on.since) → LivesThrough A asks link now → IsFreeAt A link now → CameSoAt A asks link now
    by up None is lives free = tt
    by up (Some link) is lives free =
        let came : CameUp A (pdus link) now = record { talk = talk; on = up.on; moved_is = same (pdus link) (flat_map pdus_in up.on.since) is } in
        record { came = came; so = lives came (record { free = free_acts A up.on.acts true _ up.so; back = free.back }) }
came_so A asks side past false now talk acted known lives free = by (link_up side past) (ap (λ (l : Linkage). l.up) (sym known) ∙ (acted.parted.down refl).1)
  where
    by : (link : Option Link) → option_map pdus link ≡ None → CameSoAt A asks link now
    by None is = tt
    by (Some link) is = cc

pub free_rests_are_lived : FreeRestsAreLived
free_rests_are_lived asks scenario content happenings world happened rests =
    let free = runs_are_free scenario content happenings in
    let client = client_profile scenario.settings in
    let server = server_profile scenario.settings content in
    let U = client_of scenario in
    let V = server_of scenario content in
    let W = free_where client in
    let X = free_where server in
    let past = all_entries happenings in
    let all = carried_so U V (AreReady U V W X) scenario.acl_length scenario.acl_count scenario.names happenings world (fits scenario content) happened (rests_hold scenario content happenings free) in
    let both = (both_acted U V W X scenario.acl_length scenario.names all.doings _ all.so).0 in
    let idle = all.rests rests in
    let lives = rests_are_lived asks scenario content happenings world happened rests in
    let whole = sym (append-nil happenings) in
    record {
      a = came_so client (asks.clients scenario.settings) sides.A past world.radio.a.up world.a.upper all.talk_a (idle_acted U W _ idle.idle_a both.a) all.links_a lives.a (free.a happenings world ([], whole) happened rests);
      b = came_so server (asks.servers scenario.settings content) sides.B past world.radio.b.up world.b.upper all.talk_b (idle_acted V X _ idle.idle_b both.b) all.links_b lives.b (free.b happenings world ([], whole) happened rests);
    }

-- ---- so they are plain

pub plain_at : {P : Type 0} (A : Profile P) (asks : Asks A) (party : Party) (link : Option Link) (now : Host P) → CameSoAt A asks link now → KeepsOn A asks party link now → IsPlainAt A asks party link now
plain_at A asks party None now came keeps = tt
plain_at A asks party (Some link) now came keeps = let on = keeps came in record { came = came.came; so = came.so; keeps_on = on.0; awaits = on.1 }

pub free_hosts_are_plain : FreeHostsArePlain
free_hosts_are_plain asks scenario content happenings keeps = record {
  a = λ front world is there rest.
      let came = free_rests_are_lived asks scenario content front world there rest in
      plain_at (client_profile scenario.settings) (asks.clients scenario.settings) (party_of scenario.settings sides.A) (link_up sides.A (all_entries front)) world.a.upper came.a (keeps.a front world is there rest);
  b = λ front world is there rest.
      let came = free_rests_are_lived asks scenario content front world there rest in
      plain_at (server_profile scenario.settings content) (asks.servers scenario.settings content) (party_of scenario.settings sides.B) (link_up sides.B (all_entries front)) world.b.upper came.b (keeps.b front world is there rest);
}
