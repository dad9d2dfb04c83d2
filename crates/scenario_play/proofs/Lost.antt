-- What the inbox of a played scenario gained where calls of it failed.
use Rattle.std.proofs.Common.{◌≡◌, ◌≤◌, ℕ, List, Option, inl, inr, sym, ap, ◌∙◌, subst, arith}
use Rattle.std.proofs.lemmas.Bool.{cases_lt}
use Rattle.bt_base.specs.Counts.{HasRisen}
use Rattle.bt_base.specs.declared.settings.Transport.TheVariants.{Rfcomm}
use Rattle.bt_base.specs.Objects.{Object, Contents}
use Rattle.noting_laws.specs.obex_session.specs.Counting.{Counts, faults_of, HasRisenBy}
use Rattle.push_script.specs.declared.scenario.Scenario.{Scenario}
use Rattle.capture.specs.Entries.{Entry}
use Rattle.noting_laws.specs.world_model.specs.Worlds.{Happening, all_entries, all_words}
use Rattle.noting_laws.specs.push_laws.specs.Laws.{stored_in}
use Rattle.noting_laws.specs.push_laws.specs.Losing.{LeavesOut}
use Rattle.noting_laws.specs.push_laws.proofs.Losing.{nothing-is_left_out}
use Rattle.noting_laws.specs.scenario_laws.specs.Gains.{holding}
use Rattle.noting_laws.specs.pair_laws.specs.Keeping.{LosesNothing}
use Rattle.done_laws.specs.tape_laws.proofs.OwnGains.{own_servers_gain_less}
use Rattle.scenario_play.specs.Losing.{LeavesOutCounted, GainsLess, PlaysGainLess}
use Rattle.scenario_play.specs.Playing.{RanAnswered}
use Rattle.scenario_play.proofs.Streamed.{loses_nothing, broke_gently}

-- ---- where the count of faults did not rise nothing is left out

none_counted : (most faults faults' : ℕ) → (HasRisen faults faults' → ⊥) → HasRisenBy most faults faults' → most ≡ 0
none_counted most faults faults' never risen = elim (cases_lt faults faults') [ inl rose ↦ absurd (never (inl rose)) | inr stays ↦ by risen stays ]
  where
    by : HasRisenBy most faults faults' → faults' ≤ faults → most ≡ 0
    by (inl counted) stays = omega (arith, counted, stays)
    by (inr last) stays = absurd (never (inr (omega (arith, last, stays))))

pub none_left_out : (gain spelled : List Object) (faults faults' : ℕ) → (HasRisen faults faults' → ⊥) → LeavesOutCounted gain spelled faults faults' → gain ≡ spelled
none_left_out gain spelled faults faults' never less = nothing-is_left_out gain spelled (subst (LeavesOut gain spelled) (none_counted less.most faults faults' never less.counted) less.leaves)

-- ---- a scenario that was played

gains_less : (scenario : Scenario) (shelf : Option (List Object)) (before : List Object) (after : Option Contents) (counts counts' : Counts) (happenings : List Happening) (capture : List Entry) → (scenario.settings.transport ≡ Rfcomm → LosesNothing (all_words happenings))
    → RanAnswered scenario shelf (holding before) after counts counts' happenings capture → GainsLess scenario before after counts counts' capture
gains_less scenario shelf before after counts counts' happenings capture gentle ran =
    let so = own_servers_gain_less scenario shelf before ran.answers capture ran.own (λ muxed. subst (λ (hs : List Happening). LosesNothing (all_words hs)) (sym ran.happenings_are) (gentle muxed)) ran.enough in
    record { gain = so.gain; stored = ap stored_in ran.stored ∙ so.stored; leaves = record { most = faults_of ran.answers; leaves = so.leaves; counted = ran.counted } }

pub plays_gain_less : PlaysGainLess
plays_gain_less = record {
  plays = λ scenario shelf before after trace trace' outcomes peaks counts counts' played none.
      gains_less scenario shelf before after counts counts' played.finished.ran.happenings played.capture (λ muxed. loses_nothing scenario (holding before) played.capture muxed played.finished) (played.answered none);
  breaks = λ scenario shelf before after trace trace' counts counts' broken none.
      gains_less scenario shelf before after counts counts' broken.happenings (all_entries broken.happenings) (λ muxed. broke_gently scenario shelf (holding before) after trace trace' counts counts' broken muxed) (broken.answered none);
}
