-- The capture of a played scenario shows why its pushes ended.
use Rattle.std.proofs.Common.{◌≡◌, ◌<◌, ◌+◌, ℕ, List, ◌++◌, Option, sym, ap, subst, ◌∙◌, arith}
use Rattle.std.proofs.lemmas.Grind.{flat_map-append}
use Rattle.std.proofs.lemmas.List.{append_assoc}
use Rattle.bt_base.specs.Objects.{Object, Contents}
use Rattle.noting_laws.specs.obex_session.specs.Counting.{Counts}
use Rattle.push_script.specs.declared.scenario.Scenario.{Scenario}
use Rattle.push_terms.specs.declared.outcome.Outcome.{Outcome}
use Rattle.push_terms.specs.declared.peaks.Peaks.{Peaks}
use Rattle.push_terms.specs.declared.word.Word.{Word}
use Rattle.capture.specs.Air.{words_of}
use Rattle.capture.specs.Entries.{Entry}
use Rattle.noting_laws.specs.world_model.specs.Worlds.{Happening, words_in, all_entries, all_words}
use Rattle.noting_laws.specs.pair_laws.specs.Costs.{adverse_in}
use Rattle.noting_laws.specs.pair_laws.proofs.Meeting.{adverse-both}
use Rattle.drop_laws.specs.cause_laws.specs.FirstCauses.{CausesAreShown}
use Rattle.drop_laws.specs.cause_laws.proofs.Runs.{runs_show_causes}
use Rattle.drop_laws.specs.Dropped.{LossesAreDrops}
use Rattle.drop_laws.proofs.Runs.{runs_lose_by_drops}
use Rattle.blame_laws.specs.Blamed.{SparesPeer}
use Rattle.blame_laws.proofs.Runs.{runs_spare_peers}
use Rattle.parting_laws.specs.Parting.{FewWordsPartNone, PeersCloseNone}
use Rattle.scenario_play.specs.Breaking.{IsBroken}
use Rattle.scenario_play.specs.Playing.{IsPlayed}

pub causes_shown : (scenario : Scenario) (shelf : Option (List Object)) (before after : Option Contents) (trace trace' : Option (List ℕ)) (outcomes : List Outcome) (peaks : Peaks) (counts counts' : Counts) (played : IsPlayed scenario shelf before after trace trace' outcomes peaks counts counts')
    → CausesAreShown scenario.settings played.capture
causes_shown scenario shelf before after trace trace' outcomes peaks counts counts' played =
    let ran = played.finished.ran in
    subst (CausesAreShown scenario.settings) (sym (ran.capture_is ∙ ap (λ (ends : List Entry). all_entries ran.happenings ++ ends) played.ends)) (runs_show_causes.ends scenario before ran.happenings ran.world ran.happened played.able)

-- as far as it came
pub causes_so_far : (scenario : Scenario) (shelf : Option (List Object)) (before after : Option Contents) (trace trace' : Option (List ℕ)) (counts counts' : Counts) (broken : IsBroken scenario shelf before after trace trace' counts counts') → CausesAreShown scenario.settings (all_entries broken.happenings)
causes_so_far scenario shelf before after trace trace' counts counts' broken = runs_show_causes.moments scenario before broken.happenings broken.world broken.happened broken.able

-- and that a link is lost only where `drop` broke it
pub losses_shown : (scenario : Scenario) (shelf : Option (List Object)) (before after : Option Contents) (trace trace' : Option (List ℕ)) (outcomes : List Outcome) (peaks : Peaks) (counts counts' : Counts) (played : IsPlayed scenario shelf before after trace trace' outcomes peaks counts counts')
    → LossesAreDrops played.capture
losses_shown scenario shelf before after trace trace' outcomes peaks counts counts' played =
    let ran = played.finished.ran in
    subst LossesAreDrops (sym (ran.capture_is ∙ ap (λ (ends : List Entry). all_entries ran.happenings ++ ends) played.ends)) (runs_lose_by_drops.ends scenario before ran.happenings ran.world ran.happened played.able)

pub losses_so_far : (scenario : Scenario) (shelf : Option (List Object)) (before after : Option Contents) (trace trace' : Option (List ℕ)) (counts counts' : Counts) (broken : IsBroken scenario shelf before after trace trace' counts counts') → LossesAreDrops (all_entries broken.happenings)
losses_so_far scenario shelf before after trace trace' counts counts' broken = runs_lose_by_drops.moments scenario before broken.happenings broken.world broken.happened broken.able

-- and that none blames its peer for what is never its fault
pub peer_spared : (scenario : Scenario) (shelf : Option (List Object)) (before after : Option Contents) (trace trace' : Option (List ℕ)) (outcomes : List Outcome) (peaks : Peaks) (counts counts' : Counts) (played : IsPlayed scenario shelf before after trace trace' outcomes peaks counts counts')
    → SparesPeer scenario.settings played.capture
peer_spared scenario shelf before after trace trace' outcomes peaks counts counts' played =
    let ran = played.finished.ran in
    subst (SparesPeer scenario.settings) (sym (ran.capture_is ∙ ap (λ (ends : List Entry). all_entries ran.happenings ++ ends) played.ends)) (runs_spare_peers.ends scenario before ran.happenings ran.world ran.happened)

pub peer_spared_so_far : (scenario : Scenario) (shelf : Option (List Object)) (before after : Option Contents) (trace trace' : Option (List ℕ)) (counts counts' : Counts) (broken : IsBroken scenario shelf before after trace trace' counts counts') → SparesPeer scenario.settings (all_entries broken.happenings)
peer_spared_so_far scenario shelf before after trace trace' counts counts' broken = runs_spare_peers.moments scenario before broken.happenings broken.world broken.happened

-- and that none ends as closed by its peer, while few words are adverse
pub none_parted : FewWordsPartNone → (scenario : Scenario) (shelf : Option (List Object)) (before after : Option Contents) (trace trace' : Option (List ℕ)) (outcomes : List Outcome) (peaks : Peaks) (counts counts' : Counts) (played : IsPlayed scenario shelf before after trace trace' outcomes peaks counts counts')
    → adverse_in (words_of scenario.script) < scenario.settings.tries → PeersCloseNone played.capture
none_parted law scenario shelf before after trace trace' outcomes peaks counts counts' played few =
    let ran = played.finished.ran in
    let mild : adverse_in (all_words ran.happenings) < scenario.settings.tries = subst (λ (words : List Word). adverse_in words < scenario.settings.tries) (sym played.finished.words_are) few in
    subst PeersCloseNone (sym (ran.capture_is ∙ ap (λ (ends : List Entry). all_entries ran.happenings ++ ends) played.ends)) (law.ends scenario before ran.happenings ran.world ran.happened mild played.able)

-- what happened has the first words of the script
pub words_go_on : (scenario : Scenario) (shelf : Option (List Object)) (before after : Option Contents) (trace trace' : Option (List ℕ)) (counts counts' : Counts) (broken : IsBroken scenario shelf before after trace trace' counts counts')
    → words_of scenario.script ≡ all_words broken.happenings ++ (all_words broken.more ++ broken.later)
words_go_on scenario shelf before after trace trace' counts counts' broken =
    let first = all_words broken.happenings in
    let more = all_words broken.more in
    let on : all_words broken.ran.happenings ≡ first ++ more = ap (λ (hs : List Happening). all_words hs) broken.goes_on ∙ flat_map-append words_in broken.happenings broken.more in
    broken.words_are ∙ ap (λ (ws : List Word). ws ++ broken.later) on ∙ append_assoc first more broken.later

pub none_parted_so_far : FewWordsPartNone → (scenario : Scenario) (shelf : Option (List Object)) (before after : Option Contents) (trace trace' : Option (List ℕ)) (counts counts' : Counts) (broken : IsBroken scenario shelf before after trace trace' counts counts')
    → adverse_in (words_of scenario.script) < scenario.settings.tries → PeersCloseNone (all_entries broken.happenings)
none_parted_so_far law scenario shelf before after trace trace' counts counts' broken few =
    let first = all_words broken.happenings in
    let later = all_words broken.more ++ broken.later in
    let all : adverse_in (words_of scenario.script) ≡ adverse_in first + adverse_in later = ap adverse_in (words_go_on scenario shelf before after trace trace' counts counts' broken) ∙ adverse-both first later in
    let mild : adverse_in first < scenario.settings.tries = omega (arith, all, few) in
    law.moments scenario before broken.happenings broken.world broken.happened mild broken.able
