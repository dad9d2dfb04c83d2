-- What a scenario comes to that was played over RFCOMM.
use Rattle.std.proofs.Common.{◌≡◌, ℕ, List, [], ◌++◌, Option, refl, sym, ap, ◌∙◌}
use Rattle.std.proofs.lemmas.List.{append-nil}
use Rattle.bt_base.specs.Objects.{Object, Contents}
use Rattle.bt_base.specs.declared.settings.Transport.TheVariants.{Rfcomm}
use Rattle.noting_laws.specs.obex_session.specs.Counting.{Counts}
use Rattle.push_script.specs.declared.scenario.Scenario.{Scenario}
use Rattle.push_terms.specs.declared.outcome.Outcome.{Outcome}
use Rattle.push_terms.specs.declared.peaks.Peaks.{Peaks}
use Rattle.capture.specs.Entries.{Entry}
use Rattle.noting_laws.specs.push_laws.specs.Laws.{stored_in}
use Rattle.noting_laws.specs.world_model.specs.Worlds.{all_entries, all_words}
use Rattle.noting_laws.specs.scenario_laws.specs.Captures.{Ran, Finished}
use Rattle.noting_laws.specs.scenario_laws.specs.Gains.{holding}
use Rattle.noting_laws.specs.pair_laws.specs.Keeping.{LosesNothing}
use Rattle.noting_laws.specs.pair_laws.specs.Served.{HappenedServed}
use Rattle.noting_laws.specs.pair_laws.proofs.Pairing.{held-keep_order, served-keep_order}
use Rattle.credit_laws.specs.request_laws.proofs.GainsCarried.{gains-carried}
use Rattle.credit_laws.specs.request_laws.proofs.HeardTogether.{hears_all}
use Rattle.credit_laws.specs.request_laws.proofs.Scripts.{scripts_lose_nothing}
use Rattle.credit_laws.specs.request_laws.proofs.Summing.{both_ask}
use Rattle.credit_laws.specs.request_laws.proofs.Together.{all_granted}
use Rattle.credit_laws.specs.request_laws.proofs.Told.{none_longer, gives_octets}
use Rattle.scenario_play.specs.Breaking.{IsBroken}
use Rattle.scenario_play.specs.Gaining.{PlaysKeep}
use Rattle.scenario_play.specs.Playing.{IsPlayed}
use Rattle.scenario_play.specs.Streaming.{HaveStreamed, StreamsPlayed, StreamsBroken, PlaysStream}
use Rattle.scenario_play.proofs.Alikeness.{enough_held}
use Rattle.scenario_play.proofs.Causes.{words_go_on}
use Rattle.scenario_play.proofs.Gained.{broken_kept, unless, run_so_far}

-- ---- the script

-- its words are those of its script
pub loses_nothing : (scenario : Scenario) (before : Option Contents) (capture : List Entry) → scenario.settings.transport ≡ Rfcomm → (finished : Finished scenario before capture) → LosesNothing (all_words finished.ran.happenings)
loses_nothing scenario before capture muxed finished =
    scripts_lose_nothing scenario (all_words finished.ran.happenings) [] muxed (sym finished.words_are ∙ sym (append-nil (all_words finished.ran.happenings)))

-- or the first of them
pub broke_gently : (scenario : Scenario) (shelf : Option (List Object)) (before after : Option Contents) (trace trace' : Option (List ℕ)) (counts counts' : Counts) (broken : IsBroken scenario shelf before after trace trace' counts counts') → scenario.settings.transport ≡ Rfcomm
    → LosesNothing (all_words broken.happenings)
broke_gently scenario shelf before after trace trace' counts counts' broken muxed =
    scripts_lose_nothing scenario (all_words broken.happenings) (all_words broken.more ++ broken.later) muxed (words_go_on scenario shelf before after trace trace' counts counts' broken)

-- ---- the ports

-- where the inbox granted all, they answered
have_streamed : (scenario : Scenario) (shelf : Option (List Object)) (before : List Object) (capture : List Entry) (ran : Ran scenario (holding before) capture) → LosesNothing (all_words ran.happenings)
    → HappenedServed scenario shelf (holding before) ran.happenings ran.world → HaveStreamed both_ask scenario before capture ran
have_streamed scenario shelf before capture ran gentle happened =
    let so = served-keep_order both_ask scenario shelf (holding before) capture ran happened gentle in
    let pairs = so.order.turns.pairs in
    let feeds = pairs.a.fed.so.lives.feeds in
    record { order = so.order; answer = record { given = gives_octets shelf feeds so.told; small = none_longer shelf feeds so.told; granted = all_granted pairs.b.fed.so.lives.feeds so.given } }

-- ---- to its end

plays : PlaysKeep → (scenario : Scenario) (shelf : Option (List Object)) (before : List Object) (after : Option Contents) (trace trace' : Option (List ℕ)) (outcomes : List Outcome) (peaks : Peaks) (counts counts' : Counts) (played : IsPlayed scenario shelf (holding before) after trace trace' outcomes peaks counts counts')
    → scenario.settings.transport ≡ Rfcomm → StreamsPlayed both_ask scenario shelf before after outcomes played.capture played.finished.ran counts counts'
plays keeps scenario shelf before after trace trace' outcomes peaks counts counts' played muxed =
    let capture = played.capture in
    let ran = played.finished.ran in
    let gentle = loses_nothing scenario (holding before) capture muxed played.finished in
    record {
      kept = keeps.plays scenario shelf (holding before) after trace trace' outcomes peaks counts counts' played;
      told = held-keep_order both_ask scenario shelf (holding before) capture ran (enough_held scenario shelf (holding before) ran.happenings ran.world played.enough) gentle;
      answered = λ never. have_streamed scenario shelf before capture ran gentle (played.granted never);
      heard = λ have. hears_all scenario before capture ran muxed have.order have.answer;
      gained = λ have. ap stored_in played.stored ∙ gains-carried scenario before capture ran muxed have.order (hears_all scenario before capture ran muxed have.order have.answer);
    }

-- ---- as far as it came

breaks : (scenario : Scenario) (shelf : Option (List Object)) (before : List Object) (after : Option Contents) (trace trace' : Option (List ℕ)) (counts counts' : Counts) (broken : IsBroken scenario shelf (holding before) after trace trace' counts counts')
    → scenario.settings.transport ≡ Rfcomm → StreamsBroken both_ask scenario shelf before after trace trace' counts counts' broken
breaks scenario shelf before after trace trace' counts counts' broken muxed =
    let past = all_entries broken.happenings in
    let ran = run_so_far scenario shelf (holding before) after trace trace' counts counts' broken in
    let gentle = broke_gently scenario shelf (holding before) after trace trace' counts counts' broken muxed in
    record {
      past = ran;
      world_is = refl;
      kept = broken_kept scenario shelf (holding before) after trace trace' counts counts' broken;
      told = held-keep_order both_ask scenario shelf (holding before) past ran (enough_held scenario shelf (holding before) broken.happenings broken.world broken.enough.0) gentle;
      answered = λ never. have_streamed scenario shelf before past ran gentle (broken.granted never).0;
      heard = λ have. hears_all scenario before past ran muxed have.order have.answer;
      gained = λ have none. ap stored_in (unless broken.stored none) ∙ gains-carried scenario before past ran muxed have.order (hears_all scenario before past ran muxed have.order have.answer);
    }

pub plays_stream : PlaysKeep → PlaysStream
plays_stream keeps = record {
  asks = both_ask;
  plays = λ scenario shelf before after trace trace' outcomes peaks counts counts' played muxed.
      plays keeps scenario shelf before after trace trace' outcomes peaks counts counts' played muxed;
  breaks = λ scenario shelf before after trace trace' counts counts' broken muxed.
      breaks scenario shelf before after trace trace' counts counts' broken muxed;
}
