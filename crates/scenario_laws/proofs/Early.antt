-- Runs that broke off, over the capture alone.
use Rattle.std.proofs.Common.{List, [], ◌∷◌, ◌++◌, refl, sym, ap, ◌∙◌, append_assoc}
use Rattle.std.proofs.lemmas.List.{append-nil}
use Rattle.radio_world.specs.bt_base.specs.Objects.{Object}
use Rattle.radio_world.specs.push_terms.specs.declared.word.Side.{Side}
use Rattle.radio_world.specs.push_terms.specs.declared.word.Side.TheVariants.{B}
use Rattle.radio_world.specs.capture.specs.Entries.{Entry}
use Rattle.host_laws.specs.link_talk.specs.Captures.{objects_heard}
use Rattle.host_laws.specs.link_talk.specs.declared.party.Party.{Party}
use Rattle.host_laws.specs.talk_laws.proofs.Captures.{captures-grow}
use Rattle.host_laws.specs.turn_laws.specs.Laws.{IsFront}
use Rattle.host_laws.specs.world_model.specs.Worlds.{entries_of, all_entries}
use Rattle.radio_world.specs.run_laws.proofs.Breaking.{written_is_happened}
use Rattle.scenario_laws.specs.Captures.{client_of, server_of, Ran}
use Rattle.scenario_laws.specs.Early.{FrontsSpellFronts, BrokenGoesOn, EarlyEndsGain}
use Rattle.scenario_laws.specs.Gains.{holding}
use Rattle.scenario_laws.specs.Parties.{party_of}
use Rattle.scenario_laws.proofs.Gaining.{gains_exactly}

objects_front : (party : Party) (side : Side) (front rest : List Entry) → IsFront (objects_heard party side front) (objects_heard party side (front ++ rest))
objects_front party side front [] = ([], ap (objects_heard party side) (append-nil front) ∙ sym (append-nil (objects_heard party side front)))
objects_front party side front (more ∷ rest) =
    let (later, is) = objects_front party side (front ++ more ∷ []) rest in
    let one = captures-grow.objects party side front more in (
      _,
      ap (objects_heard party side) (sym (append_assoc front (more ∷ []) rest)) ∙ (is ∙ (ap (λ (l : List Object). l ++ later) one ∙ append_assoc (objects_heard party side front) _ later)),
    )

pub fronts_spell_fronts : FrontsSpellFronts
fronts_spell_fronts party side capture front (rest, is) =
    let (later, same) = objects_front party side front rest in
    (later, ap (objects_heard party side) is ∙ same)

pub broken_goes_on : BrokenGoesOn
broken_goes_on scenario content happenings world next happened written =
    let goes = written_is_happened (client_of scenario) (server_of scenario content) scenario.acl_length scenario.acl_count scenario.names happenings world next happened written in
    record {
      new = goes.new;
      does = goes.does;
      happened = goes.runs;
      ran = record { happenings = happenings ++ next ∷ []; world = goes.new; happened = goes.runs; ends = []; last = tt; capture_is = sym goes.captured ∙ sym (append-nil _) };
    }

pub early_ends_gain : EarlyEndsGain
early_ends_gain asks scenario before happenings world next happened transport orderly =
    let past = all_entries happenings in
    let ran : Ran scenario (holding before) past = record { happenings = happenings; world = world; happened = happened; ends = []; last = tt; capture_is = sym (append-nil past) } in
    record {
      gain = objects_heard (party_of scenario.settings B) B past;
      stored = gains_exactly asks scenario before past ran transport orderly;
      all = refl;
      first = objects_front (party_of scenario.settings B) B past (entries_of next);
    }
