-- Wherever a run is at rest no bound holds a PDU back, whatever the ports answer; so both hosts are free there.
use Rattle.std.proofs.Common.{◌≡◌, true, List, [], ◌∷◌, map, Option, Some, None, sym, arith}
use Rattle.std.specs.List.{AllByRecursion}
use Rattle.std.proofs.lemmas.List.{append-nil}
use Rattle.radio_world.specs.bt_base.specs.Objects.{Contents}
use Rattle.radio_world.specs.push_script.specs.declared.scenario.Scenario.{Scenario}
use Rattle.radio_world.specs.push_terms.specs.declared.word.Side.{Side}
use Rattle.radio_world.specs.push_terms.specs.declared.word.Side.TheVariants as sides
use Rattle.radio_world.specs.capture.specs.Entries.{Entry}
use Rattle.radio_world.specs.capture.specs.Links.{Link, links, link_up}
use Rattle.radio_world.specs.capture.specs.Pdus.{pdus}
use Rattle.host_laws.specs.world_model.specs.Machines.{Linked, Failed, Heard, TimerFired, Cancelled, Opening}
use Rattle.host_laws.specs.world_model.specs.Worlds.{Happening, all_entries}
use Rattle.host_laws.specs.host_model.specs.Circumstances.{Circumstance}
use Rattle.host_laws.specs.host_model.specs.Clients.{ClientProfile, client_profile}
use Rattle.host_laws.specs.host_model.specs.Hosts.{Host}
use Rattle.host_laws.specs.host_model.specs.Machines.{upper}
use Rattle.host_laws.specs.host_model.specs.Profiles.{Profile}
use Rattle.host_laws.specs.host_model.specs.Servers.{ServerProfile, server_profile}
use Rattle.host_laws.specs.Acts.{Act, Hears, Says}
use Rattle.host_laws.specs.Calm.{HoldsNothingBack}
use Rattle.host_laws.specs.Free.{HoldsBackNothing}
use Rattle.host_laws.specs.Read.{IsActSo}
use Rattle.host_laws.specs.Seen.{IsOneCommand, FiresPlainly}
use Rattle.host_laws.proofs.Freeing.{hosts_hold_back_nothing, servers_fire_plainly, clients_fire_plainly}
use Rattle.scenario_laws.specs.Captures.{BothHosts, Happened, Ran}
use Rattle.scenario_laws.specs.Coming.{CameOver}
use Rattle.scenario_laws.specs.Gentle.{IsFreeAt, IsSteadyOn, RunsHoldBackNothing, RunsRestFree, RunsAreFree}
use Rattle.scenario_laws.proofs.Coming.{runs_have_talks}
use Rattle.scenario_laws.proofs.Gentle.{IsTameAct, AreTameLinks, both_tame, heard_tame}

one_command : (act : Act Circumstance) → IsTameAct act → IsActSo IsOneCommand act
one_command (Hears circumstances (Linked event)) tame = tt
one_command (Hears circumstances (Failed status)) tame = tt
one_command (Hears circumstances (Heard pdu)) tame = λ here. let one = tame.1 here in (tame.0, omega (arith, one))
one_command (Hears circumstances TimerFired) tame = tt
one_command (Hears circumstances Cancelled) tame = tt
one_command (Hears circumstances (Opening name)) tame = tt
one_command (Says pdu) tame = tt

pub all_one : (acts : List (Act Circumstance)) → AllByRecursion IsTameAct acts → AllByRecursion (IsActSo IsOneCommand) acts
all_one [] tame = tt
all_one (act ∷ acts) tame = (one_command act tame.0, all_one acts tame.1)

-- however a host came to its links
none_back : {P : Type 0} (A : Profile P) (side : Side) (capture : List Entry) (now : Host P) → HoldsBackNothing A → AreTameLinks (map pdus (links side capture)) → CameOver A side capture now → HoldsNothingBack A now
none_back A side capture now law tame came = law came.over.acts now (all_one came.over.acts (heard_tame A side capture now came tame)) came.over.acting

-- a link is up
abbrev link_is : Option Link → Type 0
link_is None = ⊥
link_is (Some link) = Unit {0}

free_at : {P : Type 0} (A : Profile P) (link : Option Link) (now : Host P) → HoldsNothingBack A now → ((upper A).armed now ≡ true → link_is link → FiresPlainly A.policy now.channels) → IsFreeAt A link now
free_at A None now back fires = tt
free_at A (Some link) now back fires = record { back = back; fires = λ armed. fires armed tt }

server_fires : (scenario : Scenario) (content : Option Contents) (capture : List Entry) (now : Host ServerProfile) → AreTameLinks (map pdus (links sides.B capture)) → CameOver (server_profile scenario.settings content) sides.B capture now → FiresPlainly (server_profile scenario.settings content).policy now.channels
server_fires scenario content capture now tame came =
    servers_fire_plainly scenario.settings content came.over.acts now (all_one came.over.acts (heard_tame (server_profile scenario.settings content) sides.B capture now came tame)) came.over.acting

abbrev ran_so : (scenario : Scenario) (content : Option Contents) (front : List Happening) (world : BothHosts) → Happened scenario content front world → Ran scenario content (all_entries front)
ran_so scenario content front world there = record { happenings = front; world = world; happened = there; ends = []; last = tt; capture_is = sym (append-nil (all_entries front)) }

pub runs_hold_back_nothing : RunsHoldBackNothing
runs_hold_back_nothing scenario content happenings world there =
    let past = all_entries happenings in
    let ran = ran_so scenario content happenings world there in
    let tame = both_tame scenario content past ran in
    let came = runs_have_talks scenario content past ran in
    record {
      a = none_back (client_profile scenario.settings) sides.A past world.a.upper (hosts_hold_back_nothing.clients scenario.settings) tame.a came.a;
      b = none_back (server_profile scenario.settings content) sides.B past world.b.upper (hosts_hold_back_nothing.servers scenario.settings content) tame.b came.b;
    }

-- host b is free wherever a run is, with no premise
pub server-free_at : (scenario : Scenario) (content : Option Contents) (front : List Happening) (world : BothHosts) → Happened scenario content front world → IsFreeAt (server_profile scenario.settings content) (link_up sides.B (all_entries front)) world.b.upper
server-free_at scenario content front world there =
    let past = all_entries front in
    let ran = ran_so scenario content front world there in
    free_at (server_profile scenario.settings content) (link_up sides.B past) world.b.upper (runs_hold_back_nothing scenario content front world there).b
    (λ armed up. server_fires scenario content past world.b.upper (both_tame scenario content past ran).b (runs_have_talks scenario content past ran).b)

steady_on : (scenario : Scenario) (capture : List Entry) (link : Option Link) (now : Host ClientProfile) → CameOver (client_profile scenario.settings) sides.A capture now → IsSteadyOn (client_profile scenario.settings) link now
steady_on scenario capture None now came = tt
steady_on scenario capture (Some link) now came = λ armed empty. clients_fire_plainly.steady scenario.settings came.over.acts now came.over.acting empty

pub rests_are_free : RunsRestFree
rests_are_free scenario content happenings = record {
  a = λ front world is there rest.
      let past = all_entries front in steady_on scenario past (link_up sides.A past) world.a.upper (runs_have_talks scenario content past (ran_so scenario content front world there)).a;
}

pub runs_are_free : RunsAreFree
runs_are_free scenario content happenings = record {
  a = λ front world is there rest.
      let past = all_entries front in
      let came = (runs_have_talks scenario content past (ran_so scenario content front world there)).a in
      free_at (client_profile scenario.settings) (link_up sides.A past) world.a.upper (runs_hold_back_nothing scenario content front world there).a
      (λ armed up. clients_fire_plainly.fires scenario.settings came.over.acts world.a.upper came.over.acting);
  b = λ front world is there rest. server-free_at scenario content front world there;
}
