-- The accounts of both hosts, over the capture alone.
use Rattle.std.proofs.Common.{◌≡◌, ℕ, ◌≤◌, min, List, [], ◌∷◌, ◌++◌, Some, length, sum_by, option_to_list, sym, ap, subst}
use Rattle.std.specs.List.{flat_map}
use Rattle.radio_world.specs.push_terms.specs.declared.outcome.Outcome.{Outcome}
use Rattle.radio_world.specs.push_terms.specs.declared.word.Side.{Side}
use Rattle.radio_world.specs.push_terms.specs.declared.word.Side.TheVariants.{A, B}
use Rattle.radio_world.specs.capture.specs.Buffers.{buffer_events, all_outstanding, outstanding_of, KeepsWithin}
use Rattle.radio_world.specs.capture.specs.Entries.{Entry, Ended}
use Rattle.radio_world.specs.capture.specs.Histories.{AtEach}
use Rattle.radio_world.specs.capture.specs.Links.{Link, Linking, linking}
use Rattle.radio_world.specs.capture.specs.Moves.{Move, moves}
use Rattle.radio_world.specs.capture.proofs.HistoryLaws.{each_after-more, at_each-more, at_each-whole}
use Rattle.radio_world.specs.radio_model.specs.Course.{PushesInTurn}
use Rattle.radio_world.specs.radio_model.specs.Honest.{sent_on, completed_on, IsHonest, IsNumbered, IsOnItsLink, AreHonest}
use Rattle.host_laws.specs.world_model.specs.Worlds.{all_entries}
use Rattle.host_laws.specs.air_laws.proofs.Addressing.{captures_are_honest}
use Rattle.host_laws.specs.air_laws.proofs.Balancing.{buffers_are_kept}
use Rattle.host_laws.specs.air_laws.proofs.Marking.{pushes_are_marked}
use Rattle.scenario_laws.specs.Captures.{client_of, server_of}
use Rattle.scenario_laws.specs.Accounts as laws
use Rattle.scenario_laws.proofs.Fronts.{fits, ended_moves, ended_links, with_ends}

-- ---- buffers

ended_within : (side : Side) (count : ℕ) (past : List Entry) (push : ℕ) (outcome : Outcome) → KeepsWithin side count past → KeepsWithin side count (past ++ Ended push outcome ∷ [])
ended_within side count past push outcome within =
    let same : all_outstanding side (past ++ Ended push outcome ∷ []) ≡ all_outstanding side past = ap (λ (l : Linking). outstanding_of l.up) (ended_links side past push outcome) in
    at_each-more (λ (front : List Entry). all_outstanding side front ≤ min count 64) past (Ended push outcome) within
    (subst (λ (n : ℕ). n ≤ min count 64) (sym same) (at_each-whole (λ (front : List Entry). all_outstanding side front ≤ min count 64) past within))

pub buffers_kept : laws.BuffersAreKept
buffers_kept scenario content capture side ran =
    let both = buffers_are_kept (client_of scenario) (server_of scenario content) scenario.acl_length scenario.acl_count scenario.names ran.happenings ran.world (fits scenario content) ran.happened in
    subst (KeepsWithin side scenario.acl_count) (sym ran.capture_is)
    (with_ends (KeepsWithin side scenario.acl_count) ran.world.pushes (all_entries ran.happenings) ran.ends (λ push outcome within. ended_within side scenario.acl_count (all_entries ran.happenings) push outcome within) ran.last (of side both.0 both.1))
  where
    of : (one : Side) → KeepsWithin A scenario.acl_count (all_entries ran.happenings) → KeepsWithin B scenario.acl_count (all_entries ran.happenings) → KeepsWithin one scenario.acl_count (all_entries ran.happenings)
    of A a b = a
    of B a b = b

-- ---- honest controllers

-- of the packets of one host, and of its links
abbrev IsFair : List Move → Type 0
IsFair moved = (handle : ℕ) → sum_by (completed_on handle) (flat_map buffer_events moved) ≤ sum_by (sent_on handle) (flat_map buffer_events moved)

abbrev AreNumbered : Linking → Type 0
AreNumbered known = (link : Link) → known.up ≡ Some link → link.handle ≡ length (known.past ++ option_to_list known.up)

ended_fair : (side : Side) (past : List Entry) (push : ℕ) (outcome : Outcome) → IsHonest side past → IsHonest side (past ++ Ended push outcome ∷ [])
ended_fair side past push outcome honest =
    let P : List Entry → Type 0 = λ front. IsFair (moves side front) in
    at_each-more P past (Ended push outcome) honest (subst IsFair (sym (ended_moves side past push outcome)) (at_each-whole P past honest))

ended_numbered : (side : Side) (past : List Entry) (push : ℕ) (outcome : Outcome) → AtEach (IsNumbered side) past → AtEach (IsNumbered side) (past ++ Ended push outcome ∷ [])
ended_numbered side past push outcome numbered =
    let P : List Entry → Type 0 = λ front. AreNumbered (linking (moves side front)) in
    at_each-more P past (Ended push outcome) numbered (subst AreNumbered (sym (ended_links side past push outcome)) (at_each-whole P past numbered))

ended_honest : (past : List Entry) (push : ℕ) (outcome : Outcome) → AreHonest past → AreHonest (past ++ Ended push outcome ∷ [])
ended_honest past push outcome honest = record {
  a = ended_fair A past push outcome honest.a;
  b = ended_fair B past push outcome honest.b;
  numbered_a = ended_numbered A past push outcome honest.numbered_a;
  numbered_b = ended_numbered B past push outcome honest.numbered_b;
  handles = each_after-more IsOnItsLink past (Ended push outcome) honest.handles tt;
}

pub controllers_honest : laws.ControllersAreHonest
controllers_honest scenario content capture ran =
    let all = captures_are_honest (client_of scenario) (server_of scenario content) scenario.acl_length scenario.acl_count scenario.names ran.happenings ran.world (fits scenario content) ran.happened in
    subst AreHonest (sym ran.capture_is)
    (with_ends AreHonest ran.world.pushes (all_entries ran.happenings) ran.ends (λ push outcome honest. ended_honest (all_entries ran.happenings) push outcome honest) ran.last all)

-- ---- pushes

pub pushes_in_turn : laws.PushesAreInTurn
pushes_in_turn scenario content capture ran =
    subst PushesInTurn (sym ran.capture_is)
    (pushes_are_marked (client_of scenario) (server_of scenario content) scenario.acl_length scenario.acl_count scenario.names ran.happenings ran.world ran.ends (fits scenario content) ran.happened ran.last)
