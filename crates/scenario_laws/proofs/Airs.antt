-- The air obeys the script, over the capture alone.
use Rattle.std.proofs.Common.{true, false, List, [], ◌++◌, Option, sym, ap, subst}
use Rattle.radio_world.specs.bt_base.specs.declared.settings.Settings.{Settings}
use Rattle.radio_world.specs.bt_base.specs.Objects.{Contents}
use Rattle.radio_world.specs.push_terms.specs.declared.word.Side.TheVariants.{A, B}
use Rattle.radio_world.specs.push_terms.specs.declared.word.Word.{Word}
use Rattle.radio_world.specs.push_script.specs.declared.scenario.Scenario.{Scenario}
use Rattle.radio_world.specs.capture.specs.Air.{words_of}
use Rattle.radio_world.specs.capture.specs.Entries.{Entry, Ended}
use Rattle.radio_world.specs.capture.specs.Histories.{EachAfter}
use Rattle.radio_world.specs.capture.proofs.HistoryLaws.{each_after-more}
use Rattle.host_laws.specs.link_talk.specs.Waits.{waits, has_check_word}
use Rattle.radio_world.specs.radio_model.specs.Air.{KeepsTo, Obeys}
use Rattle.host_laws.specs.world_model.specs.Worlds.{Happening, IsAtRest, all_entries, all_words}
use Rattle.host_laws.specs.turn_laws.specs.Laws.{IsFront}
use Rattle.host_laws.specs.air_laws.specs.AirLaws.{Agrees, PassesEnds, TellsHosts}
use Rattle.host_laws.specs.air_laws.proofs.Ending.{air_is_obeyed}
use Rattle.host_laws.specs.air_laws.proofs.Obeying.{air_is_kept}
use Rattle.host_laws.specs.host_model.specs.Clients.{client_profile}
use Rattle.host_laws.specs.host_model.specs.Servers.{server_profile}
use Rattle.scenario_laws.specs.Captures.{client_of, server_of, beginning, BothHosts, Happened}
use Rattle.scenario_laws.specs.Parties.{party_of}
use Rattle.scenario_laws.specs.Air as laws
use Rattle.scenario_laws.specs.Air.{hosts_of}
use Rattle.scenario_laws.proofs.Fronts.{fits, ended_talk, with_ends}
use Rattle.scenario_laws.proofs.PlainRuns.{stepping_asks, plain_runs}
use Rattle.scenario_laws.proofs.Resting.{both_rested}
use Rattle.scenario_laws.proofs.Telling.{side_tells}
use Rattle.scenario_laws.proofs.Unlinked.{none_told}
use Rattle.scenario_laws.proofs.UnlinkedClients.{HasNoLink, clients_keep}
use Rattle.scenario_laws.proofs.UnlinkedServers.{KnowsNone, servers_keep}
use Rattle.scenario_laws.proofs.Wishes.{states_frame}

-- the end of a push changes nothing of what waits
passes_ends : (settings : Settings) → PassesEnds (hosts_of settings)
passes_ends settings = record {
  armed = λ side past push outcome. ap (waits (party_of settings side)) (ended_talk side past push outcome);
  checks = λ side past push outcome channel. ap (λ said. has_check_word said channel) (ended_talk side past push outcome);
}

agrees : (scenario : Scenario) (content : Option Contents) (happenings front : List Happening) (world : BothHosts) → IsFront front happenings → Happened scenario content front world
    → IsAtRest (client_of scenario) (server_of scenario content) world → Agrees (client_of scenario) (server_of scenario content) (hosts_of scenario.settings) (all_entries front) world
agrees scenario content happenings front world is happened rests =
    let plain = plain_runs scenario content happenings in
    let both = both_rested scenario content front world happened rests in
    let one = side_tells (client_profile scenario.settings) (stepping_asks.clients scenario.settings) (party_of scenario.settings A) A (all_entries front) both.a.linked world.a.upper both.a.talk (states_frame scenario.settings false A) both.a.acted both.a.links
    (plain.a front world is happened rests) (none_told (client_profile scenario.settings) HasNoLink (clients_keep scenario.settings) (party_of scenario.settings A) world.a.upper both.a.talk) in
    let other = side_tells (server_profile scenario.settings content) (stepping_asks.servers scenario.settings content) (party_of scenario.settings B) B (all_entries front) both.b.linked world.b.upper both.b.talk (states_frame scenario.settings true B) both.b.acted both.b.links
    (plain.b front world is happened rests) (none_told (server_profile scenario.settings content) KnowsNone (servers_keep scenario.settings content) (party_of scenario.settings B) world.b.upper both.b.talk) in
    record { armed_a = sym one.armed_is; armed_b = sym other.armed_is; checks_a = λ own. sym (one.checks_are own); checks_b = λ own. sym (other.checks_are own) }

pub tells_hosts : (scenario : Scenario) (content : Option Contents) (happenings : List Happening)
    → TellsHosts (client_of scenario) (server_of scenario content) (hosts_of scenario.settings) happenings (beginning scenario content)
tells_hosts scenario content happenings = record {
  ends = passes_ends scenario.settings;
  at_rest = λ front world is happened rests. agrees scenario content happenings front world is happened rests;
}

pub air_obeyed : laws.AirIsObeyed
air_obeyed scenario content capture finished =
    let ran = finished.ran in
    let hosts = hosts_of scenario.settings in
    let now = air_is_obeyed (client_of scenario) (server_of scenario content) hosts scenario.acl_length scenario.acl_count scenario.names ran.happenings ran.world ran.ends (fits scenario content) ran.happened
    (tells_hosts scenario content ran.happenings) finished.rests ran.last in
    subst (λ (entries : List Entry). Obeys hosts scenario.acl_length (words_of scenario.script) entries) (sym ran.capture_is)
    (subst (λ (words : List Word). Obeys hosts scenario.acl_length words (all_entries ran.happenings ++ ran.ends)) finished.words_are now)

pub air_kept : laws.AirIsKept
air_kept scenario content capture later ran =
    let hosts = hosts_of scenario.settings in
    let P : List Entry → Type 0 = λ entries. EachAfter (KeepsTo hosts scenario.acl_length (all_words ran.happenings ++ later)) [] entries in
    let now = air_is_kept (client_of scenario) (server_of scenario content) hosts scenario.acl_length scenario.acl_count scenario.names ran.happenings ran.world later (fits scenario content) ran.happened
    (tells_hosts scenario content ran.happenings) in
    subst P (sym ran.capture_is)
    (with_ends P ran.world.pushes (all_entries ran.happenings) ran.ends
    (λ push outcome so. each_after-more (KeepsTo hosts scenario.acl_length (all_words ran.happenings ++ later)) (all_entries ran.happenings) (Ended push outcome) so tt) ran.last now)
