-- A host where a run is at rest: what it did is what the capture has.
use Rattle.std.proofs.Common.{◌≡◌, Bool, List, [], Option}
use Rattle.radio_world.specs.bt_base.specs.Objects.{Contents}
use Rattle.radio_world.specs.push_terms.specs.declared.word.Side.{Side}
use Rattle.radio_world.specs.push_terms.specs.declared.word.Side.TheVariants.{A, B}
use Rattle.radio_world.specs.push_script.specs.declared.scenario.Scenario.{Scenario}
use Rattle.radio_world.specs.capture.specs.Entries.{Entry}
use Rattle.host_laws.specs.world_model.specs.Machines.{Upper}
use Rattle.host_laws.specs.world_model.specs.Talks.{Talk}
use Rattle.host_laws.specs.world_model.specs.PerLink.{linkage, captured}
use Rattle.host_laws.specs.world_model.specs.Worlds.{Happening, IsAtRest, all_entries}
use Rattle.scenario_laws.specs.Captures.{client_of, server_of, BothHosts, Happened}
use Rattle.scenario_laws.proofs.Acting.{Anyhow, Acted}
use Rattle.scenario_laws.proofs.Both.{idle_acted, both_acted}
use Rattle.scenario_laws.proofs.Carrying.{carried}
use Rattle.scenario_laws.proofs.Fronts.{fits}

pub record Rested {S G : Type 0} (U : Upper S G) (side : Side) (past : List Entry) (now : S) : Type 0 where
  pub linked : Bool
  pub talk : List Talk
  pub acted : Acted U linked now [] talk
  pub links : linkage talk ≡ captured side past

pub record BothRested (scenario : Scenario) (content : Option Contents) (past : List Entry) (world : BothHosts) : Type 0 where
  pub a : Rested (client_of scenario) A past world.a.upper
  pub b : Rested (server_of scenario content) B past world.b.upper

pub both_rested : (scenario : Scenario) (content : Option Contents) (happenings : List Happening) (world : BothHosts) → Happened scenario content happenings world → IsAtRest (client_of scenario) (server_of scenario content) world
    → BothRested scenario content (all_entries happenings) world
both_rested scenario content happenings world happened rests =
    let U = client_of scenario in
    let V = server_of scenario content in
    let all = carried U V scenario.acl_length scenario.acl_count scenario.names happenings world (fits scenario content) happened in
    let both = (both_acted U V Anyhow Anyhow scenario.acl_length scenario.names all.doings _ all.so).0 in
    let rest = all.rests rests in
    record {
      a = record { linked = world.radio.a.up; talk = all.talk_a; acted = idle_acted U Anyhow _ rest.idle_a both.a; links = all.links_a };
      b = record { linked = world.radio.b.up; talk = all.talk_b; acted = idle_acted V Anyhow _ rest.idle_b both.b; links = all.links_b };
    }
