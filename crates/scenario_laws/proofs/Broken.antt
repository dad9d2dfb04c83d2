-- Scenarios that broke off, in one place.
use Rattle.std.proofs.Common.{List, [], ◌++◌, refl, sym, subst}
use Rattle.radio_world.specs.push_terms.specs.declared.word.Side.TheVariants.{A, B}
use Rattle.radio_world.specs.push_terms.specs.declared.word.Word.{Word}
use Rattle.radio_world.specs.capture.specs.Entries.{Entry}
use Rattle.radio_world.specs.capture.specs.Histories.{EachAfter}
use Rattle.host_laws.specs.air_laws.proofs.Crowding as air
use Rattle.host_laws.specs.link_talk.specs.Captures.{objects_heard}
use Rattle.radio_world.specs.radio_model.specs.Air.{KeepsTo}
use Rattle.host_laws.specs.world_model.specs.Worlds.{all_entries}
use Rattle.scenario_laws.specs.Air.{hosts_of}
use Rattle.scenario_laws.specs.Broken.{ScenariosBreakOff, CrowdsAreTold}
use Rattle.scenario_laws.specs.Captures.{client_of, server_of, Ran}
use Rattle.scenario_laws.specs.Gains.{holding}
use Rattle.scenario_laws.specs.Parties.{party_of}
use Rattle.scenario_laws.proofs.Accounts.{buffers_kept, controllers_honest, pushes_in_turn}
use Rattle.scenario_laws.proofs.Airs.{air_kept, tells_hosts}
use Rattle.scenario_laws.proofs.Early.{fronts_spell_fronts}
use Rattle.scenario_laws.proofs.Fronts.{fits}
use Rattle.scenario_laws.proofs.Gaining.{gains_exactly}
use Rattle.std.proofs.lemmas.List.{append-nil}

pub scenarios_break_off : ScenariosBreakOff
scenarios_break_off asks scenario before happenings world next later happened ran words transport serves =
    let content = holding before in
    let past = all_entries happenings in
    let capture : List Entry = past ++ next in
    let hosts = hosts_of scenario.settings in
    let so_far : Ran scenario content past = record { happenings = happenings; world = world; happened = happened; ends = []; last = tt; capture_is = sym (append-nil past) } in
    record {
      gain = objects_heard (party_of scenario.settings B) B past;
      gained = gains_exactly asks scenario before past so_far transport serves;
      all = refl;
      first = fronts_spell_fronts (party_of scenario.settings B) B capture past (next, refl);
      within_a = buffers_kept scenario content capture A ran;
      within_b = buffers_kept scenario content capture B ran;
      honest = controllers_honest scenario content capture ran;
      in_turn = pushes_in_turn scenario content capture ran;
      keeps = subst (λ (ws : List Word). EachAfter (KeepsTo hosts scenario.acl_length ws) [] capture) (sym words) (air_kept scenario content capture later ran);
    }

pub crowds_are_told : CrowdsAreTold
crowds_are_told scenario content happenings world happened crowded =
    air.crowds_are_told (client_of scenario) (server_of scenario content) (hosts_of scenario.settings) scenario.acl_length scenario.acl_count scenario.names happenings world (fits scenario content) happened
    (tells_hosts scenario content happenings) crowded
