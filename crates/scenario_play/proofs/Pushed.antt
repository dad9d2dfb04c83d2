-- What the capture of a played scenario spells are objects of the shelf.
use Rattle.std.proofs.Common.{◌≡◌, List, [], map, Option, Some, sym, ap, subst}
use Rattle.bt_base.specs.Objects.{Object, Contents}
use Rattle.bt_base.specs.declared.settings.Transport.TheVariants.{Rfcomm}
use Rattle.push_script.specs.declared.scenario.Scenario.{Scenario}
use Rattle.capture.specs.Entries.{Entry}
use Rattle.noting_laws.specs.air_laws.specs.AirLaws.{IsLastEnd}
use Rattle.noting_laws.specs.world_model.specs.Machines.{News}
use Rattle.noting_laws.specs.world_model.specs.Pushes.{Pushes}
use Rattle.noting_laws.specs.world_model.specs.Worlds.{all_entries, all_words}
use Rattle.bt_host.specs.host_model.specs.Circumstances.{Circumstance}
use Rattle.bt_host.specs.shelf_model.specs.Held.{held_by}
use Rattle.noting_laws.specs.scenario_laws.specs.Captures.{client_of, server_of, BothHosts, beginning, Ran}
use Rattle.noting_laws.specs.scenario_laws.specs.Gains.{holding}
use Rattle.noting_laws.specs.pair_laws.specs.Enough.{remembered, HappenedEnough}
use Rattle.noting_laws.specs.pair_laws.specs.Keeping.{LosesNothing}
use Rattle.noting_laws.specs.pair_laws.proofs.Answered.{runs-so}
use Rattle.noting_laws.specs.inbox_laws.proofs.Deciding.{answers_decide}
use Rattle.credit_laws.specs.request_laws.proofs.ShelfPushes.{runs_spell_pushed}
use Rattle.scenario_play.specs.Pushed.{SpellsOfShelf, PlaysSpellPushed}
use Rattle.scenario_play.proofs.Gained.{run_so_far}
use Rattle.scenario_play.proofs.Streamed.{loses_nothing, broke_gently}

-- its inbox does not lack memory
abbrev memory : News → List Circumstance → List Circumstance
memory news answers = map remembered answers

-- what it spells does not hang on what the inbox holds: what happened, happens as well where that is empty
of_run : (scenario : Scenario) (shelf : List Object) (content : Option Contents) (capture : List Entry) (ran : Ran scenario content capture) → HappenedEnough scenario (Some shelf) content ran.happenings ran.world
    → (scenario.settings.transport ≡ Rfcomm → LosesNothing (all_words ran.happenings)) → SpellsOfShelf scenario shelf capture
of_run scenario shelf content capture ran happened gentle =
    let (there, alike, happens) = answers_decide scenario (held_by (Some shelf)) memory content (holding []) ran.happenings ran.world happened in
    let as_empty : Ran scenario (holding []) capture = record {
      happenings = ran.happenings;
      world = there;
      happened = runs-so (client_of scenario) (server_of scenario (holding [])) (held_by (Some shelf)) memory ran.happenings (beginning scenario (holding [])) there happens;
      ends = ran.ends;
      last = subst (λ (pushes : Pushes). IsLastEnd pushes ran.ends) (sym (ap (λ (w : BothHosts). w.pushes) alike.same)) ran.last;
      capture_is = ran.capture_is;
    } in
    runs_spell_pushed scenario shelf [] capture as_empty happens gentle

pub plays_spell_pushed : PlaysSpellPushed
plays_spell_pushed = record {
  plays = λ scenario shelf before after trace trace' outcomes peaks counts counts' played. of_run scenario shelf before played.capture played.finished.ran played.enough (λ muxed. loses_nothing scenario before played.capture muxed played.finished);
  breaks = λ scenario shelf before after trace trace' counts counts' broken.
      of_run scenario shelf before (all_entries broken.happenings) (run_so_far scenario (Some shelf) before after trace trace' counts counts' broken) broken.enough.0
      (λ muxed. broke_gently scenario (Some shelf) before after trace trace' counts counts' broken muxed);
}
