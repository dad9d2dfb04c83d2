-- Why a run of a scenario stops short, by what its ports noted.
use Rattle.std.proofs.Common.{◌≡◌, ℕ, ◌⊎◌, ◌||◌, Bool, true, false, List, Option, Result, inl, inr, refl, sym, ◌∙◌, subst}
use Rattle.std.proofs.lemmas.Bool.{cases_lt}
use Rattle.bt_base.specs.Counts.{HasRisen, last_count}
use Rattle.bt_base.specs.Objects.{Contents}
use Rattle.watched_ports.specs.Counts.{IsNoted, count_behind}
use Rattle.push_script.specs.declared.scenario.Scenario.{Scenario}
use Rattle.radio_world.specs.Causes.{Blames}
use Rattle.radio_world.specs.Shortages.{Lacks}
use Rattle.radio_world.specs.declared.fault.WorldFault.{WorldFault}
use Rattle.radio_world.specs.declared.fault.WorldFault.TheVariants.{TraceFault, NoMemory}
use Rattle.scenario_play.specs.declared.playing.Played.{Played}
use Rattle.scenario_play.specs.Breaking.{IsWanting, ShelfWants, InboxWants}
use Rattle.object_push.specs.Halting.{Halts, ByFault, ByShortage, ByPlay, HasReason}

-- what was noted rose
pub risen : (past now : ℕ) (noted : Bool) → IsNoted past now noted → noted ≡ true → HasRisen past now
risen past now noted is so = elim (cases_lt past last_count) [ inl below ↦ inl (is.rose so below) | inr last ↦ inr last ]

-- a sink that refused nothing has its own counts
plain : (past now : ℕ) (first then : Bool) → first ≡ false → then ≡ false → HasRisen (count_behind first past) (count_behind then now) → HasRisen past now
plain past now first then none still rose = subst (λ (b : Bool). HasRisen past (count_behind b now)) still (subst (λ (b : Bool). HasRisen (count_behind b past) (count_behind then now)) none rose)

any_of : (a b c : Bool) → (a || b || c) ≡ true → (a ≡ true) ⊎ ((b ≡ true) ⊎ (c ≡ true))
any_of true b c is = inl refl
any_of false true c is = inr (inl refl)
any_of false false c is = inr (inr is)

none_of : (a b c : Bool) → (a || b || c) ≡ false → c ≡ false
none_of true b c is = absurd cc
none_of false true c is = absurd cc
none_of false false c is = is

-- the ports of a run that was watched: the counts of its trace, and what each port noted
pub record Watched (played : Result Played WorldFault) (Cause : Type 0) (of_shelf of_shelf' of_inbox of_inbox' faults faults' shortages shortages' : ℕ) (shelf_short inbox_short trace_failed trace_short : Bool) : Type 0 where
  pub new_failed : Bool
  pub new_short : Bool
  pub not_failed : new_failed ≡ false
  pub not_short : new_short ≡ false
  pub blames : Blames (count_behind new_failed faults) (count_behind trace_failed faults') played
  pub lacks : Lacks (count_behind new_short shortages) (count_behind trace_short shortages') Cause played
  pub shelf : IsNoted of_shelf of_shelf' shelf_short
  pub inbox : IsNoted of_inbox of_inbox' inbox_short
  pub trace_faults : IsNoted faults faults' trace_failed
  pub trace_shortages : IsNoted shortages shortages' trace_short

pub reason :
    (scenario : Scenario) (before after : Option Contents) (trace trace' : Option (List ℕ)) (played : Result Played WorldFault)
    (of_shelf of_shelf' of_inbox of_inbox' faults faults' shortages shortages' : ℕ) (shelf_short inbox_short trace_failed trace_short short : Bool)
    → Watched played (IsWanting scenario before after trace trace' (HasRisen of_shelf of_shelf') (HasRisen of_inbox of_inbox')) of_shelf of_shelf' of_inbox of_inbox' faults faults' shortages shortages' shelf_short inbox_short trace_failed trace_short
    → short ≡ (shelf_short || inbox_short || trace_short) → (fault : WorldFault) → Halts trace_failed short played fault
    → HasReason fault scenario before after trace trace' (HasRisen faults faults') (HasRisen shortages shortages') (HasRisen of_shelf of_shelf') (HasRisen of_inbox of_inbox')
reason scenario before after trace trace' played of_shelf of_shelf' of_inbox of_inbox' faults faults' shortages shortages' shelf_short inbox_short trace_failed trace_short short watched short_is TraceFault (ByFault failed) =
    risen faults faults' trace_failed watched.trace_faults failed
reason scenario before after trace trace' played of_shelf of_shelf' of_inbox of_inbox' faults faults' shortages shortages' shelf_short inbox_short trace_failed trace_short short watched short_is NoMemory (ByShortage not_failed is) =
    elim (any_of shelf_short inbox_short trace_short (sym short_is ∙ is)) [
      | inl shelf ↦ inr (ShelfWants (risen of_shelf of_shelf' shelf_short watched.shelf shelf))
      | inr (inl inbox) ↦ inr (InboxWants (risen of_inbox of_inbox' inbox_short watched.inbox inbox))
      | inr (inr trace) ↦ inl (risen shortages shortages' trace_short watched.trace_shortages trace)
    ]
reason scenario before after trace trace' played of_shelf of_shelf' of_inbox of_inbox' faults faults' shortages shortages' shelf_short inbox_short trace_failed trace_short short watched short_is TraceFault (ByPlay TraceFault not_failed not_short is) =
    plain faults faults' watched.new_failed trace_failed watched.not_failed not_failed (watched.blames.failed is)
reason scenario before after trace trace' played of_shelf of_shelf' of_inbox of_inbox' faults faults' shortages shortages' shelf_short inbox_short trace_failed trace_short short watched short_is NoMemory (ByPlay NoMemory not_failed not_short is) =
    elim (watched.lacks.short is) [
      | inl rose ↦ inl (plain shortages shortages' watched.new_short trace_short watched.not_short (none_of shelf_short inbox_short trace_short (sym short_is ∙ not_short)) rose)
      | inr cause ↦ inr cause
    ]
