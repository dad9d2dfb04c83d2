-- The capture says how pushes ended.
use Rattle.std.proofs.Common.{◌≡◌, ℕ, ◌+◌, ◌-◌, ◌≤◌, ◌<◌, Bool, true, false, cond, List, [], ◌∷◌, ◌++◌, length, replicate, Option, Some, None, if◌then◌else◌, unwrap_or, refl, sym, ap, ap₂, subst, ◌∙◌, arith, append_assoc, length-append}
use Rattle.std.specs.List.{flat_map, slice_get}
use Rattle.std.proofs.lemmas.List.{append-nil}
use Rattle.std.proofs.lemmas.List.Concat.{flat_map-append}
use Rattle.std.proofs.lemmas.Option.{slice_get_within}
use Rattle.radio_world.specs.push_terms.specs.declared.outcome.Outcome.{Outcome}
use Rattle.radio_world.specs.push_terms.specs.declared.outcome.Outcome.TheVariants.{ScriptEnded}
use Rattle.radio_world.specs.push_terms.specs.declared.word.Side.TheVariants.{A, B}
use Rattle.radio_world.specs.push_terms.specs.declared.word.Way.TheVariants.{Ab, Ba}
use Rattle.radio_world.specs.capture.specs.Entries.{Entry, Ended}
use Rattle.radio_world.specs.radio_model.specs.declared.deed.Deed.{Deed}
use Rattle.radio_world.specs.radio_model.specs.declared.deed.Deed.TheVariants.{Nothing, Meets, Fires, FiresBoth, Breaks, Cancels}
use Rattle.radio_world.specs.radio_model.specs.Course.{push_begun, pushes_begun}
use Rattle.radio_world.specs.radio_model.specs.Radio.{found}
use Rattle.host_laws.specs.world_model.specs.Machines.{Upper}
use Rattle.host_laws.specs.world_model.specs.Pushes.{Pushes, next_name, one_ended}
use Rattle.host_laws.specs.world_model.specs.Worlds.{World, Happening, Tries, Departure, GivingBack, Piecemeal, Answering, Turns, Misses, Opens, Closes, Acts, Does, Runs, entries_of, all_entries}
use Rattle.host_laws.specs.air_laws.proofs.Resting.{next_going}
use Rattle.radio_world.specs.Standing.{last_ended, last_entries}
use Rattle.scenario_laws.specs.Captures.{client_of, server_of, beginning}
use Rattle.scenario_laws.specs.Outcomes.{outcome_of, outcomes_in, OutcomesAreStated}

-- ---- one happening

acts_pushes : {S T G H : Type 0} (U : Upper S G) (V : Upper T H) (deed : Deed) (old new : World S T) → Acts U V deed old new → new.pushes ≡ old.pushes
acts_pushes {S} {T} U V Nothing old new acts = absurd acts
acts_pushes {S} {T} U V (Meets Ab fate) old new same = ap (λ (w : World S T). w.pushes) same
acts_pushes {S} {T} U V (Meets Ba fate) old new same = ap (λ (w : World S T). w.pushes) same
acts_pushes {S} {T} U V (Fires A) old new (armed, g, same) = ap (λ (w : World S T). w.pushes) same
acts_pushes {S} {T} U V (Fires B) old new (armed, h, same) = ap (λ (w : World S T). w.pushes) same
acts_pushes {S} {T} U V FiresBoth old new (armed, g, h, same) = ap (λ (w : World S T). w.pushes) same
acts_pushes {S} {T} U V Breaks old new same = ap (λ (w : World S T). w.pushes) same
acts_pushes {S} {T} U V Cancels old new (may, g, same) = ap (λ (w : World S T). w.pushes) same

-- whether a push goes on, as a number
abbrev pub goes : Pushes → ℕ
goes pushes = if pushes.going then 1 else 0

-- each push that began has its outcome, but for the one that goes on
abbrev pub IsEven : Pushes → Type 0
IsEven pushes = length pushes.outcomes + goes pushes ≡ pushes.begun

-- the pushes behind some entries
pub record After (old : Pushes) (entries : List Entry) (new : Pushes) : Type 0 where
  begun_is : new.begun ≡ old.begun + pushes_begun entries
  outcomes_are : new.outcomes ≡ old.outcomes ++ outcomes_in entries
  pub names_are : new.names ≡ old.names
  few : old.begun ≤ length old.names → new.begun ≤ length new.names
  pub even : IsEven old → IsEven new

stays : (old new : Pushes) (entries : List Entry) → pushes_begun entries ≡ 0 → outcomes_in entries ≡ [] → new ≡ old → After old entries new
stays old new entries none silent same =
    subst (λ (p : Pushes). After old entries p) (sym same) (record { begun_is = omega (arith, none); outcomes_are = sym (append-nil old.outcomes) ∙ ap (λ (l : List Outcome). old.outcomes ++ l) (sym silent); names_are = refl; few = λ few. few; even = λ even. even })

name_within : (pushes : Pushes) (name : List ℕ) → next_name pushes ≡ Some name → pushes.begun < length pushes.names
name_within pushes name is = by pushes.going is
  where
    by : (going : Bool) → cond going None (slice_get pushes.names pushes.begun) ≡ Some name → pushes.begun < length pushes.names
    by true at = cc
    by false at = slice_get_within pushes.names pushes.begun name at

does_pushes : {S T G H : Type 0} (U : Upper S G) (V : Upper T H) (happening : Happening) (old new : World S T) → Does U V happening old new → After old.pushes (entries_of happening) new.pushes
does_pushes {S} {T} U V (Tries A effort) old new (station, makes, same) = stays old.pushes new.pushes [] refl refl (ap (λ (w : World S T). w.pushes) same)
does_pushes {S} {T} U V (Tries B effort) old new (station, makes, same) = stays old.pushes new.pushes [] refl refl (ap (λ (w : World S T). w.pushes) same)
does_pushes {S} {T} U V (Departure A order) old new (rest, first, same) = stays old.pushes new.pushes (entries_of (Departure A order)) refl refl (ap (λ (w : World S T). w.pushes) same)
does_pushes {S} {T} U V (Departure B order) old new (rest, first, same) = stays old.pushes new.pushes (entries_of (Departure B order)) refl refl (ap (λ (w : World S T). w.pushes) same)
does_pushes {S} {T} U V (GivingBack side) old new same = stays old.pushes new.pushes [] refl refl (ap (λ (w : World S T). w.pushes) same)
does_pushes {S} {T} U V (Piecemeal A handle piece) old new (rest, first, here, g, same) = stays old.pushes new.pushes (entries_of (Piecemeal A handle piece)) refl refl (ap (λ (w : World S T). w.pushes) same)
does_pushes {S} {T} U V (Piecemeal B handle piece) old new (rest, first, here, h, same) = stays old.pushes new.pushes (entries_of (Piecemeal B handle piece)) refl refl (ap (λ (w : World S T). w.pushes) same)
does_pushes {S} {T} U V (Answering A answer) old new (rest, none, first, g, same) = stays old.pushes new.pushes (entries_of (Answering A answer)) refl refl (ap (λ (w : World S T). w.pushes) same)
does_pushes {S} {T} U V (Answering B answer) old new (rest, none, first, h, same) = stays old.pushes new.pushes (entries_of (Answering B answer)) refl refl (ap (λ (w : World S T). w.pushes) same)
does_pushes {S} {T} U V (Turns ordinal word) old new (rest, is_word, count, mid, acts, same) =
    stays old.pushes new.pushes (entries_of (Turns ordinal word)) refl refl (ap (λ (w : World S T). w.pushes) same ∙ acts_pushes U V (found word old.radio) old mid acts)
does_pushes {S} {T} U V (Misses word) old new (rest, nothing, same) = stays old.pushes new.pushes [] refl refl (ap (λ (w : World S T). w.pushes) same)
does_pushes {S} {T} U V (Opens push name) old new (idle, next, count, g, same) =
    let within = name_within old.pushes name next in
    let still : goes old.pushes ≡ 0 = ap (λ (b : Bool). let n : ℕ = if b then 1 else 0 in n) (next_going old.pushes.going (slice_get old.pushes.names old.pushes.begun) name next) in
    subst (λ (w : World S T). After old.pushes (entries_of (Opens push name)) w.pushes) (sym same) (record { begun_is = refl; outcomes_are = sym (append-nil old.pushes.outcomes); names_are = refl; few = λ few. omega (arith, within); even = λ even. omega (arith, still, even) })
does_pushes {S} {T} U V (Closes push outcome) old new (going, count, idle, is, apart, none_a, none_b, quiet_a, quiet_b, same) =
    let on : goes old.pushes ≡ 1 = ap (λ (b : Bool). let n : ℕ = if b then 1 else 0 in n) going in
    let more = length-append old.pushes.outcomes (outcome ∷ []) in
    subst (λ (w : World S T). After old.pushes (entries_of (Closes push outcome)) w.pushes) (sym same)
    (record { begun_is = omega arith; outcomes_are = refl; names_are = refl; few = λ few. few; even = λ even. omega (arith, on, more, even) })

-- ---- a run

begun_more : (one two : List Entry) → pushes_begun (one ++ two) ≡ pushes_begun one + pushes_begun two
begun_more one two = ap length (flat_map-append push_begun one two) ∙ length-append (flat_map push_begun one) (flat_map push_begun two)

pub runs_pushes : {S T G H : Type 0} (U : Upper S G) (V : Upper T H) (happenings : List Happening) (old new : World S T) → Runs U V happenings old new → After old.pushes (all_entries happenings) new.pushes
runs_pushes {S} {T} U V [] old new same = stays old.pushes new.pushes [] refl refl (ap (λ (w : World S T). w.pushes) same)
runs_pushes U V (happening ∷ happenings) old new (mid, does, runs) =
    let one = does_pushes U V happening old mid does in
    let more = runs_pushes U V happenings mid new runs in
    let count = begun_more (entries_of happening) (all_entries happenings) in
    let first = one.begun_is in
    let later = more.begun_is in
    record {
      begun_is = omega (arith, count, first, later);
      outcomes_are = more.outcomes_are ∙ (ap (λ (l : List Outcome). l ++ outcomes_in (all_entries happenings)) one.outcomes_are
          ∙ (append_assoc old.pushes.outcomes (outcomes_in (entries_of happening)) (outcomes_in (all_entries happenings)) ∙ ap (λ (l : List Outcome). old.pushes.outcomes ++ l) (sym (flat_map-append outcome_of (entries_of happening) (all_entries happenings)))));
      names_are = more.names_are ∙ one.names_are;
      few = λ few. more.few (one.few few);
      even = λ even. more.even (one.even even);
    }

-- ---- and its end

ended_outcomes : (came : Option Outcome) (pushes : Pushes) → (last_ended came pushes).outcomes ≡ pushes.outcomes ++ outcomes_in (last_entries came pushes)
ended_outcomes came pushes = by pushes.going
  where
    last : Outcome
    last = unwrap_or came ScriptEnded

    by : (going : Bool) → (let now : Pushes = cond going (one_ended last pushes) pushes in now.outcomes ≡ pushes.outcomes ++ outcomes_in (cond going (Ended pushes.begun last ∷ []) []))
    by true = refl
    by false = sym (append-nil pushes.outcomes)

ended_names : (came : Option Outcome) (pushes : Pushes) → (last_ended came pushes).names ≡ pushes.names
ended_names came pushes = by pushes.going
  where
    by : (going : Bool) → (let now : Pushes = cond going (one_ended (unwrap_or came ScriptEnded) pushes) pushes in now.names ≡ pushes.names)
    by true = refl
    by false = refl

pub outcomes_stated : OutcomesAreStated
outcomes_stated scenario content capture ran =
    let past = all_entries ran.happenings in
    let after = runs_pushes (client_of scenario) (server_of scenario content) ran.happenings (beginning scenario content) ran.world ran.happened in
    let pushes = ran.world.pushes in
    let count = after.begun_is in
    record {
      begun_is = omega (arith, count);
      outcomes_are = sym after.outcomes_are;
      names_are = after.names_are;
      few = subst (λ (names : List (List ℕ)). pushes.begun ≤ length names) after.names_are (after.few (omega arith));
      all = λ came.
          let ends = last_entries came pushes in
          let now : (last_ended came pushes).outcomes ≡ outcomes_in (past ++ ends) =
          ended_outcomes came pushes ∙ (ap (λ (l : List Outcome). l ++ outcomes_in ends) after.outcomes_are ∙ sym (flat_map-append outcome_of past ends)) in
          let names : (last_ended came pushes).names ≡ scenario.names = ended_names came pushes ∙ after.names_are in
          ap₂ (λ (l : List Outcome) (n : List (List ℕ)). l ++ replicate (length n - length l) ScriptEnded) now names;
    }
