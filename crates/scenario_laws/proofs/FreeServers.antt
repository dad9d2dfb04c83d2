-- The server of a run is free, however it came to its links; so it lives through its talk.
use Rattle.std.proofs.Common.{Bool, false, List, [], ◌∷◌, ◌++◌, Option, refl}
use Rattle.std.specs.List.{AllByRecursion}
use Rattle.radio_world.specs.bt_base.specs.Objects.{Contents}
use Rattle.host_laws.specs.world_model.specs.Machines.{Linked, Failed, Heard, TimerFired, Cancelled, Opening}
use Rattle.host_laws.specs.host_model.specs.Circumstances.{Circumstance}
use Rattle.host_laws.specs.host_model.specs.Hosts.{Host, first_host}
use Rattle.host_laws.specs.host_model.specs.Machines.{upper}
use Rattle.host_laws.specs.host_model.specs.Profiles.{Profile}
use Rattle.host_laws.specs.host_model.specs.Servers.{server_profile}
use Rattle.host_laws.specs.Acts.{Act, Hears, Says, Acting}
use Rattle.host_laws.specs.OverLinks.{is_up_behind}
use Rattle.host_laws.specs.Free.{HoldsBackNothing}
use Rattle.host_laws.specs.Read.{IsActSo}
use Rattle.host_laws.specs.Seen.{IsOneCommand, FiresPlainly}
use Rattle.host_laws.proofs.Freeing.{acting-more, hosts_hold_back_nothing, servers_fire_plainly}
use Rattle.radio_world.specs.push_script.specs.declared.scenario.Scenario.{Scenario}
use Rattle.radio_world.specs.push_terms.specs.declared.word.Side.TheVariants as sides
use Rattle.host_laws.specs.turn_laws.proofs.Recounting.{HoldsAtRests}
use Rattle.host_laws.specs.world_model.specs.Worlds.{Happening, all_entries}
use Rattle.scenario_laws.specs.Captures.{client_of, server_of, beginning}
use Rattle.scenario_laws.specs.FreeServers.{ServersAreFree, ServersLiveOverLinks, ServersRestSo}
use Rattle.scenario_laws.specs.Gentle.{IsFreeAct, AreFreeUp}
use Rattle.scenario_laws.proofs.Acting.{Anyhow}
use Rattle.scenario_laws.proofs.Both.{AreReady, idle_acted, both_acted}
use Rattle.scenario_laws.proofs.Carrying.{carried, carried_so}
use Rattle.scenario_laws.proofs.Free.{free_where, ready, came_so}
use Rattle.scenario_laws.proofs.Freeing.{all_one, server-free_at}
use Rattle.scenario_laws.proofs.Fronts.{fits}
use Rattle.scenario_laws.proofs.Gentle.{both_tame, heard_tame, rests_are_lived}
use Rattle.scenario_laws.proofs.Orderly.{hosts-live_over_links}

-- a host that is free after whatever it did
module _ {P : Type 0} (A : Profile P) (back : HoldsBackNothing A) (fires : (acts : List (Act Circumstance)) (now : Host P) → AllByRecursion (IsActSo IsOneCommand) acts → Acting (upper A) acts (first_host A) now → FiresPlainly A.policy now.channels) where
  both_one : (one two : List (Act Circumstance)) → AllByRecursion (IsActSo IsOneCommand) one → AllByRecursion (IsActSo IsOneCommand) two → AllByRecursion (IsActSo IsOneCommand) (one ++ two)
  both_one [] two all other = other
  both_one (act ∷ one) two all other = (all.0, both_one one two all.1 other)

  free_act : (before : List (Act Circumstance)) (act : Act Circumstance) (host : Host P) → AllByRecursion (IsActSo IsOneCommand) before → Acting (upper A) before (first_host A) host → IsFreeAct A act host
  free_act before (Hears circumstances (Linked event)) host heard acting = tt
  free_act before (Hears circumstances (Failed status)) host heard acting = tt
  free_act before (Hears circumstances (Heard pdu)) host heard acting = back before host heard acting
  free_act before (Hears circumstances TimerFired) host heard acting = (back before host heard acting, fires before host heard acting)
  free_act before (Hears circumstances Cancelled) host heard acting = tt
  free_act before (Hears circumstances (Opening name)) host heard acting = tt
  free_act before (Says pdu) host heard acting = tt

  free_on : (before acts : List (Act Circumstance)) (up : Bool) (host : Host P) → AllByRecursion (IsActSo IsOneCommand) before → AllByRecursion (IsActSo IsOneCommand) acts → Acting (upper A) before (first_host A) host → AreFreeUp A up acts host
  free_on before [] up host heard rest acting = tt
  free_on before (act ∷ acts) up host heard rest acting = (
    λ on. free_act before act host heard acting,
    λ mid does. free_on (before ++ act ∷ []) acts (is_up_behind up act) mid (both_one before (act ∷ []) heard (rest.0, tt)) rest.1 (acting-more A before act (first_host A) host mid acting does),
  )

  pub always-free : (acts : List (Act Circumstance)) → AllByRecursion (IsActSo IsOneCommand) acts → AreFreeUp A false acts (first_host A)
  always-free acts heard = free_on [] acts false (first_host A) tt heard refl

pub servers_are_free : ServersAreFree
servers_are_free scenario content capture ran came =
    let A = server_profile scenario.settings content in
    always-free A (hosts_hold_back_nothing.servers scenario.settings content) (λ acts now heard acting. servers_fire_plainly scenario.settings content acts now heard acting) came.over.acts
    (all_one came.over.acts (heard_tame A sides.B capture ran.world.b.upper came (both_tame scenario content capture ran).b))

pub servers_live_over_links : ServersLiveOverLinks
servers_live_over_links asks scenario content capture ran came = (hosts-live_over_links asks scenario content capture ran).b came (servers_are_free scenario content capture ran came)

-- ---- at rest

rests_hold : (scenario : Scenario) (content : Option Contents) (happenings : List Happening)
    → HoldsAtRests (client_of scenario) (server_of scenario content) (AreReady (client_of scenario) (server_of scenario content) Anyhow (free_where (server_profile scenario.settings content))) happenings (beginning scenario content)
rests_hold scenario content happenings front mid talk_a talk_b is there rest =
    let U = client_of scenario in
    let V = server_of scenario content in
    let past = all_entries front in
    let all = carried U V scenario.acl_length scenario.acl_count scenario.names front mid (fits scenario content) there in
    let both = (both_acted U V Anyhow Anyhow scenario.acl_length scenario.names all.doings _ all.so).0 in
    let idle = all.rests rest in
    (λ on. (tt, λ armed. tt), ready (server_profile scenario.settings content) sides.B past mid.radio.b.up mid.b.upper all.talk_b (idle_acted V Anyhow _ idle.idle_b both.b) all.links_b (server-free_at scenario content front mid there))

pub servers_rest_so : ServersRestSo
servers_rest_so asks scenario content happenings world happened rests =
    let server = server_profile scenario.settings content in
    let U = client_of scenario in
    let V = server_of scenario content in
    let X = free_where server in
    let past = all_entries happenings in
    let all = carried_so U V (AreReady U V Anyhow X) scenario.acl_length scenario.acl_count scenario.names happenings world (fits scenario content) happened (rests_hold scenario content happenings) in
    let both = (both_acted U V Anyhow X scenario.acl_length scenario.names all.doings _ all.so).0 in
    let idle = all.rests rests in
    let lives = rests_are_lived asks scenario content happenings world happened rests in
    came_so server (asks.servers scenario.settings content) sides.B past world.radio.b.up world.b.upper all.talk_b (idle_acted V X _ idle.idle_b both.b) all.links_b lives.b (server-free_at scenario content happenings world happened)
