-- What the capture of a scenario that broke off says, and why it wanted memory.
use Rattle.std.proofs.Common.{◌≡◌, ℕ, ◌⊎◌, List, ◌++◌, Option, Some, inl, inr, sym, subst, arith}
use Rattle.bt_base.specs.Objects.{Contents}
use Rattle.capture.specs.Entries.{Entry, capture_octets}
use Rattle.noting_laws.specs.push_laws.specs.Laws.{stored_in}
use Rattle.noting_laws.specs.world_model.specs.Worlds.{all_entries}
use Rattle.radio_world.proofs.Runs.{scripts_are_counted}
use Rattle.noting_laws.specs.scenario_laws.specs.Broken.{BrokeOff}
use Rattle.noting_laws.specs.scenario_laws.proofs.Broken.{scenarios_break_off, crowds_are_told}
use Rattle.scenario_play.specs.Breaking.{NothingYet, ShelfWants, InboxWants, AirCrowded, ManyWords}
use Rattle.scenario_play.specs.Ending.{PlaysBreakOff, WantsAreTold}

unless : {X Y : Type 0} → X ⊎ Y → (Y → ⊥) → X
unless (inl x) none = x
unless (inr y) none = absurd (none y)

pub plays_break_off : PlaysBreakOff
plays_break_off asks scenario shelf before after trace trace' counts counts' broken none transport serves =
    let past = all_entries broken.happenings in
    let same = unless broken.stored none in
    subst (λ (c : Option Contents). BrokeOff scenario before (stored_in c) past (past ++ broken.next)) (sym same)
    (scenarios_break_off asks scenario before broken.happenings broken.world broken.next broken.later broken.happened broken.ran broken.words_are transport serves)

same_octets : (x y : List ℕ) → Some x ≡ Some y → x ≡ y
same_octets x y same = cc

pub wants_are_told : WantsAreTold
wants_are_told scenario content after before octets of_shelf of_shelf' of_inbox of_inbox' are few (NothingYet stored written) = inl (stored, same_octets octets before written)
wants_are_told scenario content after before octets of_shelf of_shelf' of_inbox of_inbox' are few (ShelfWants lacked) = inr (inl (inl lacked))
wants_are_told scenario content after before octets of_shelf of_shelf' of_inbox of_inbox' are few (InboxWants lacked) = inr (inl (inr lacked))
wants_are_told scenario content after before octets of_shelf of_shelf' of_inbox of_inbox' are few (AirCrowded run) =
    let entries : List Entry = all_entries run.happenings in
    inr (inr (entries, same_octets octets (before ++ capture_octets entries) run.written, crowds_are_told scenario content run.happenings run.world run.happened run.crowded))
wants_are_told scenario content after before octets of_shelf of_shelf' of_inbox of_inbox' are few (ManyWords many) =
    let words = scripts_are_counted scenario.script are few in
    absurd (omega arith)
