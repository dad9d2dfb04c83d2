-- Each push has its end, and there are no more pushes than objects.
use Rattle.std.proofs.Common.{◌≡◌, ℕ, ◌+◌, ◌≤◌, ◌-◌, Bool, true, false, cond, List, [], ◌∷◌, ◌++◌, length, replicate, Option, if◌then◌else◌, unwrap_or, refl, sym, ap, ◌∙◌, subst, arith, length-append}
use Rattle.std.specs.List.{flat_map}
use Rattle.std.proofs.lemmas.List.{append-nil, length-replicate}
use Rattle.std.proofs.lemmas.List.Concat.{flat_map-append}
use Rattle.radio_world.specs.bt_base.specs.Objects.{Contents}
use Rattle.radio_world.specs.push_script.specs.declared.scenario.Scenario.{Scenario}
use Rattle.radio_world.specs.push_terms.specs.declared.outcome.Outcome.{Outcome}
use Rattle.radio_world.specs.push_terms.specs.declared.outcome.Outcome.TheVariants.{ScriptEnded}
use Rattle.radio_world.specs.capture.specs.Entries.{Entry, Moved, Acted, Begun, Ended}
use Rattle.radio_world.specs.radio_model.specs.Course.{push_begun, pushes_begun}
use Rattle.host_laws.specs.world_model.specs.Pushes.{Pushes}
use Rattle.host_laws.specs.world_model.specs.Worlds.{all_entries}
use Rattle.host_laws.specs.air_laws.specs.AirLaws.{IsLastEnd}
use Rattle.radio_world.specs.Standing.{last_entries}
use Rattle.scenario_laws.specs.Captures.{client_of, server_of, beginning, Ran}
use Rattle.scenario_laws.specs.Outcomes.{outcome_of, outcomes_in, outcomes_of}
use Rattle.scenario_laws.specs.PushEnds.{pushes_ended, AllHaveEnded, PushesEnd, ArePushesOf, PushesAreOfScenarios}
use Rattle.scenario_laws.proofs.Outcomes.{IsEven, goes, runs_pushes, outcomes_stated}

-- ---- behind a capture

begun_behind : (past ends : List Entry) → pushes_begun (past ++ ends) ≡ pushes_begun past + pushes_begun ends
begun_behind past ends = ap (λ (l : List ℕ). length l) (flat_map-append push_begun past ends) ∙ length-append (flat_map push_begun past) (flat_map push_begun ends)

ended_behind : (past ends : List Entry) → pushes_ended (past ++ ends) ≡ pushes_ended past + pushes_ended ends
ended_behind past ends = ap (λ (l : List Outcome). length l) (flat_map-append outcome_of past ends) ∙ length-append (flat_map outcome_of past) (flat_map outcome_of ends)

-- the end of the push that goes on, or nothing
record EndsOne (pushes : Pushes) (ends : List Entry) : Type 0 where
  begins : pushes_begun ends ≡ 0
  few : pushes_ended ends ≤ goes pushes

ends_one : (pushes : Pushes) (ends : List Entry) → IsLastEnd pushes ends → EndsOne pushes ends
ends_one pushes [] last = record { begins = refl; few = omega arith }
ends_one pushes (Ended push outcome ∷ []) last =
    let on : goes pushes ≡ 1 = ap (λ (b : Bool). let n : ℕ = if b then 1 else 0 in n) last.0 in record { begins = refl; few = omega (arith, on) }
ends_one pushes (Ended push outcome ∷ entry ∷ ends) last = absurd last
ends_one pushes (Moved side flow packet ∷ ends) last = absurd last
ends_one pushes (Acted ordinal word ∷ ends) last = absurd last
ends_one pushes (Begun push ∷ ends) last = absurd last

last_one : (came : Option Outcome) (pushes : Pushes) → pushes_ended (last_entries came pushes) ≡ goes pushes
last_one came pushes = by pushes.going
  where
    by : (going : Bool) → length (outcomes_in (cond going (Ended pushes.begun (unwrap_or came ScriptEnded) ∷ []) [])) ≡ cond going 1 0
    by true = refl
    by false = refl

-- ---- a run

record IsCounted (scenario : Scenario) (content : Option Contents) (capture : List Entry) (ran : Ran scenario content capture) : Type 0 where
  begun : pushes_begun capture ≡ ran.world.pushes.begun
  ended : pushes_ended capture + goes ran.world.pushes ≡ pushes_begun capture + pushes_ended ran.ends
  most : pushes_ended ran.ends ≤ goes ran.world.pushes
  few : pushes_begun capture ≤ length scenario.names

counted : (scenario : Scenario) (content : Option Contents) (capture : List Entry) (ran : Ran scenario content capture) → IsCounted scenario content capture ran
counted scenario content capture ran =
    let past = all_entries ran.happenings in
    let pushes = ran.world.pushes in
    let says = outcomes_stated scenario content capture ran in
    let even : IsEven pushes = (runs_pushes (client_of scenario) (server_of scenario content) ran.happenings (beginning scenario content) ran.world ran.happened).even refl in
    let last = ends_one pushes ran.ends ran.last in
    let begun : pushes_begun capture ≡ pushes_begun past + pushes_begun ran.ends = ap pushes_begun ran.capture_is ∙ begun_behind past ran.ends in
    let ended : pushes_ended capture ≡ pushes_ended past + pushes_ended ran.ends = ap pushes_ended ran.capture_is ∙ ended_behind past ran.ends in
    let all : pushes_ended past ≡ length pushes.outcomes = ap (λ (l : List Outcome). length l) says.outcomes_are in
    let first = says.begun_is in
    let none = last.begins in
    let few = says.few in
    record { begun = omega (arith, begun, first, none); ended = omega (arith, begun, ended, all, first, none, even); most = last.few; few = omega (arith, begun, first, none, few) }

pub pushes_end : PushesEnd
pushes_end scenario content capture ran came is =
    let all = counted scenario content capture ran in
    let ended = all.ended in
    let last : pushes_ended ran.ends ≡ goes ran.world.pushes = ap pushes_ended is ∙ last_one came ran.world.pushes in
    omega (arith, ended, last)

pub pushes_are_of_scenarios : PushesAreOfScenarios
pushes_are_of_scenarios scenario content capture ran =
    let all = counted scenario content capture ran in
    let ended = all.ended in
    let most = all.most in
    let few = all.few in
    let left : ℕ = length scenario.names - pushes_ended capture in
    let both = length-append (outcomes_in capture) (replicate left ScriptEnded) in
    let rest : length (replicate left ScriptEnded) ≡ left = length-replicate left ScriptEnded in
    record { few = few; outcomes_are_all = both ∙ omega (arith, ended, most, few, rest) }
