-- What a run with the tape of its server's answers has at each of its moments: where a push is done, one object more is spelled since it was begun.
use Rattle.std.proofs.Common.{◌≡◌, ℕ, Bool, true, false, List, [], ◌∷◌, ◌++◌, Some, sym, ap, subst, ◌∙◌, append_assoc, append-nil}
use Rattle.std.proofs.lemmas.List.Concat.{flat_map-append}
use Rattle.cause_laws.specs.FirstCauses.{since_begun, HasCause}
use Rattle.tape_laws.specs.bt_base.specs.Objects.{Object}
use Rattle.tape_laws.specs.obex_session.specs.InboxCalls.{Answer}
use Rattle.tape_laws.specs.push_script.specs.declared.scenario.Scenario.{Scenario}
use Rattle.tape_laws.specs.push_terms.specs.declared.outcome.Outcome.{Outcome}
use Rattle.tape_laws.specs.push_terms.specs.declared.outcome.Outcome.TheVariants.{Done}
use Rattle.tape_laws.specs.push_terms.specs.declared.word.Side.TheVariants as sides
use Rattle.tape_laws.specs.capture.specs.Entries.{Entry}
use Rattle.tape_laws.specs.capture.specs.Histories.{EachAfter}
use Rattle.tape_laws.specs.capture.proofs.HistoryLaws.{each_after-both}
use Rattle.tape_laws.specs.world_model.specs.Worlds.{Happening, Closes, entries_of, all_entries, Does, Runs}
use Rattle.tape_laws.specs.air_laws.proofs.Following.{runs_then}
use Rattle.tape_laws.specs.link_talk.specs.declared.party.Party.{Party}
use Rattle.tape_laws.specs.link_talk.specs.Captures.{objects_heard, talks}
use Rattle.tape_laws.specs.scenario_laws.specs.Gains.{holding}
use Rattle.tape_laws.specs.scenario_laws.specs.Parties.{party_of}
use Rattle.tape_laws.specs.Pairs.{TapedHosts}
use Rattle.tape_laws.specs.Runs.{untaped_world}
use Rattle.done_laws.specs.Runs.{IsDoneAt}
use Rattle.done_laws.specs.Storing.{before_begun}
use Rattle.done_laws.proofs.Growing.{one_more}
use Rattle.done_laws.proofs.LastSpells.{SpellsLast}
use Rattle.done_laws.proofs.Runs.{U, V, begins, bare_run}
use Rattle.done_laws.proofs.Since.{NoPieceCame, one_since}

-- by these entries one object more is spelled than before the push was begun that was begun last
pub record SpellsOneMore (party : Party) (past : List Entry) : Type 0 where
  pub object : Object
  pub spelled : objects_heard party sides.B past ≡ objects_heard party sides.B (before_begun past) ++ object ∷ []

some_piece : (part : List Entry) → HasCause Done part → NoPieceCame part → ⊥
some_piece part why none = in_part why.before (subst NoPieceCame why.part_is none)
  where
    in_part : (before : List Entry) → NoPieceCame (before ++ why.entry ∷ why.after) → ⊥
    in_part [] none = let never : true ≡ false = sym why.brings ∙ none.0 in cc
    in_part (entry ∷ before) none = in_part before none.1

module _ (scenario : Scenario) (shelf before : List Object) (answers : List Answer) where
  abbrev RunsOn : List Happening → TapedHosts Bool → TapedHosts Bool → Type 0
  RunsOn = Runs (U scenario shelf before answers) (V scenario shelf before answers)

  abbrev DoesNext : Happening → TapedHosts Bool → TapedHosts Bool → Type 0
  DoesNext = Does (U scenario shelf before answers) (V scenario shelf before answers)

  abbrev first : TapedHosts Bool
  first = begins scenario shelf before answers

  -- as a push ends that is done
  pub done_at : (old new : TapedHosts Bool) (push : ℕ) (outcome : Outcome) → Does (U scenario shelf before answers) (V scenario shelf before answers) (Closes push outcome) old new → outcome ≡ Done → IsDoneAt (untaped_world old)
  done_at old new push outcome (going, push_is, idle, is, apart, none_a, none_b, quiet_a, quiet_b, same) done_is = record { none_a = none_a; none_b = none_b; cause = is ∙ ap (λ (o : Outcome). Some o) done_is }

  -- with the last push one object more is spelled
  pub more_spelled : (done : List Happening) (world : TapedHosts Bool) → Runs (U scenario shelf before answers) (V scenario shelf before answers) done (begins scenario shelf before answers) world → IsDoneAt (untaped_world world)
      → SpellsLast (party_of scenario.settings sides.B) (talks sides.B (all_entries done)) → HasCause Done (since_begun (all_entries done)) → SpellsOneMore (party_of scenario.settings sides.B) (all_entries done)
  more_spelled done world runs at last why =
      let past = all_entries done in
      let link = one_since scenario (holding before) done (untaped_world world) (bare_run scenario shelf before answers done world runs) at.none_a at.none_b (some_piece (since_begun past) why) in
      record { object = last.object; spelled = one_more (party_of scenario.settings sides.B) sides.B past last.ahead last.last (last.object ∷ []) link.down link.one last.links_are last.spelled }

  entries_then : (done : List Happening) (happening : Happening) → all_entries done ++ entries_of happening ≡ all_entries (done ++ happening ∷ [])
  entries_then done happening = sym (flat_map-append entries_of done (happening ∷ []) ∙ ap (λ (l : List Entry). all_entries done ++ l) (append-nil (entries_of happening)))

  -- what is so of the entries of each thing that happens, with what happens from it on
  module _ (So : List Entry → Entry → Type 0) (last : TapedHosts Bool)
      (one : (happening : Happening) (done rest : List Happening) (old new : TapedHosts Bool) → RunsOn done first old → DoesNext happening old new → RunsOn rest new last → EachAfter So (all_entries done) (entries_of happening)) where
    pub along : (done rest : List Happening) (now : TapedHosts Bool) → RunsOn done first now → RunsOn rest now last → EachAfter So [] (all_entries done) → EachAfter So [] (all_entries (done ++ rest))
    along done [] now runs later each = subst (λ (hs : List Happening). EachAfter So [] (all_entries hs)) (sym (append-nil done)) each
    along done (happening ∷ rest) now runs (mid, does, later) each =
        subst (λ (hs : List Happening). EachAfter So [] (all_entries hs)) (append_assoc done (happening ∷ []) rest)
        (along (done ++ happening ∷ []) rest mid (runs_then (U scenario shelf before answers) (V scenario shelf before answers) done happening first now mid runs does) later
        (subst (EachAfter So []) (entries_then done happening) (each_after-both So [] (all_entries done) (entries_of happening) each (one happening done rest now mid runs does later))))
