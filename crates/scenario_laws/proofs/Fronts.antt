-- Fronts of captures, and the end of a push behind one.
use Rattle.std.proofs.Common.{◌≡◌, ℕ, ◌⊎◌, inl, inr, List, [], ◌∷◌, ◌++◌, Option, refl, sym, ap, ap₂, subst, ◌∙◌}
use Rattle.std.proofs.lemmas.List.{append-nil}
use Rattle.std.proofs.lemmas.List.Elements.{filter_map-append}
use Rattle.radio_world.specs.bt_base.specs.Objects.{Contents}
use Rattle.radio_world.specs.push_terms.specs.declared.outcome.Outcome.{Outcome}
use Rattle.radio_world.specs.push_terms.specs.declared.word.Side.{Side}
use Rattle.radio_world.specs.push_terms.specs.declared.word.Side.TheVariants.{A, B}
use Rattle.radio_world.specs.push_script.specs.declared.scenario.Scenario.{Scenario}
use Rattle.radio_world.specs.capture.specs.Entries.{Entry, Moved, Acted, Begun, Ended}
use Rattle.radio_world.specs.capture.specs.Links.{Linking, linking}
use Rattle.radio_world.specs.capture.specs.Moves.{move_of, moves}
use Rattle.host_laws.specs.link_talk.specs.Captures.{talk_on, talk_now}
use Rattle.host_laws.specs.world_model.specs.Pushes.{Pushes}
use Rattle.host_laws.specs.world_model.specs.Worlds.{all_entries}
use Rattle.host_laws.specs.turn_laws.specs.Laws.{IsFront}
use Rattle.host_laws.specs.turn_laws.specs.WorldLaws.{Fits}
use Rattle.host_laws.specs.air_laws.specs.AirLaws.{IsLastEnd}
use Rattle.radio_world.specs.run_laws.specs.Breaking.{IsRunOf}
use Rattle.radio_world.specs.run_laws.proofs.Breaking.{fronts_are_runs}
use Rattle.host_laws.specs.host_model.proofs.Orderly.{hosts_are_orderly}
use Rattle.scenario_laws.specs.Captures.{client_of, server_of, Ran, FrontsRan}

-- both hosts say PDUs that hosts take, and controllers take packets of 27 octets at least
pub fits : (scenario : Scenario) (content : Option Contents) → Fits (client_of scenario) (server_of scenario content) scenario.acl_length
fits scenario content =
    let orderly = hosts_are_orderly scenario.settings scenario.settings content in
    record { long = scenario.acl_length_low; frames_a = orderly.frames_a; frames_b = orderly.frames_b; idles = orderly.idles }

-- ---- the end of a push

-- it tells nothing of links
pub ended_moves : (side : Side) (past : List Entry) (push : ℕ) (outcome : Outcome) → moves side (past ++ Ended push outcome ∷ []) ≡ moves side past
ended_moves A past push outcome = filter_map-append (move_of A) past (Ended push outcome ∷ []) ∙ append-nil (moves A past)
ended_moves B past push outcome = filter_map-append (move_of B) past (Ended push outcome ∷ []) ∙ append-nil (moves B past)

pub ended_links : (side : Side) (past : List Entry) (push : ℕ) (outcome : Outcome) → linking (moves side (past ++ Ended push outcome ∷ [])) ≡ linking (moves side past)
ended_links side past push outcome = ap linking (ended_moves side past push outcome)

-- nor of the talk on the link that is up
pub ended_talk : (side : Side) (past : List Entry) (push : ℕ) (outcome : Outcome) → talk_now side (past ++ Ended push outcome ∷ []) ≡ talk_now side past
ended_talk side past push outcome = ap (λ (l : Linking). talk_on l.up) (ended_links side past push outcome)

-- what is so of a capture, and stays so behind the end of a push, is so behind the last one
pub with_ends : (P : List Entry → Type 0) (pushes : Pushes) (past ends : List Entry) → ((push : ℕ) (outcome : Outcome) → P past → P (past ++ Ended push outcome ∷ [])) → IsLastEnd pushes ends → P past → P (past ++ ends)
with_ends P pushes past [] more last so = subst P (sym (append-nil past)) so
with_ends P pushes past (Ended push outcome ∷ []) more last so = more push outcome so
with_ends P pushes past (Ended push outcome ∷ entry ∷ ends) more last so = absurd last
with_ends P pushes past (Moved side flow packet ∷ ends) more last so = absurd last
with_ends P pushes past (Acted ordinal word ∷ ends) more last so = absurd last
with_ends P pushes past (Begun push ∷ ends) more last so = absurd last

-- ---- fronts

-- a front of a longer list is a front of the list, or all
split_front : {X : Type 0} (xs front rest : List X) (y : X) → xs ++ y ∷ [] ≡ front ++ rest → IsFront front xs ⊎ (front ≡ xs ++ y ∷ [])
split_front xs [] rest y same = inl (xs, refl)
split_front {X} [] (f ∷ front) rest y same =
    let heads : y ≡ f = cc in
    let tails : [] ≡ front ++ rest = cc in
    inr (ap₂ (λ (x : X) (l : List X). x ∷ l) (sym heads) (none_left front rest tails))
  where
    none_left : (one two : List X) → [] ≡ one ++ two → one ≡ []
    none_left [] two is = refl
    none_left (x ∷ one) two is = cc
split_front {X} (x ∷ xs) (f ∷ front) rest y same =
    let heads : x ≡ f = cc in
    let tails : xs ++ y ∷ [] ≡ front ++ rest = cc in
    elim (split_front xs front rest y tails) [
      | inl within ↦ inl (within.0, ap₂ (λ (a : X) (l : List X). a ∷ l) heads within.1)
      | inr all ↦ inr (ap₂ (λ (a : X) (l : List X). a ∷ l) (sym heads) all)
    ]

front_of_ends : (pushes : Pushes) (all ends front rest : List Entry) → IsLastEnd pushes ends → all ++ ends ≡ front ++ rest → IsFront front all ⊎ (front ≡ all ++ ends)
front_of_ends pushes all [] front rest last same = inl (rest, sym (append-nil all) ∙ same)
front_of_ends pushes all (Ended push outcome ∷ []) front rest last same = split_front all front rest (Ended push outcome) same
front_of_ends pushes all (Ended push outcome ∷ entry ∷ ends) front rest last same = absurd last
front_of_ends pushes all (Moved side flow packet ∷ ends) front rest last same = absurd last
front_of_ends pushes all (Acted ordinal word ∷ ends) front rest last same = absurd last
front_of_ends pushes all (Begun push ∷ ends) front rest last same = absurd last

pub fronts_ran : FrontsRan
fronts_ran scenario content capture front ran (rest, is) =
    elim (front_of_ends ran.world.pushes (all_entries ran.happenings) ran.ends front rest ran.last (sym ran.capture_is ∙ is)) [
      | inl within ↦ by (fronts_are_runs (client_of scenario) (server_of scenario content) scenario.acl_length scenario.acl_count scenario.names ran.happenings ran.world front ran.happened within)
      | inr all ↦ record { happenings = ran.happenings; world = ran.world; happened = ran.happened; ends = ran.ends; last = ran.last; capture_is = all }
    ]
  where
    by : IsRunOf (client_of scenario) (server_of scenario content) scenario.acl_length scenario.acl_count scenario.names front → Ran scenario content front
    by run = record { happenings = run.happenings; world = run.world; happened = run.runs; ends = []; last = tt; capture_is = sym run.captured ∙ sym (append-nil (all_entries run.happenings)) }
