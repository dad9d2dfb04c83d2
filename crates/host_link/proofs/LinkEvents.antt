-- A host hears of its link and of its buffers.
use Rattle.std.proofs.Common.{◌≡◌, ℕ, List, [], map, fold, Bool, true, false, eqb, Option, Some, None, refl, sym, ap, ◌∙◌, inl, inr}
use Rattle.std.specs.Prelude.{if◌then◌else◌, ◌==◌, is_none}
use Rattle.std.specs.Option.{option_map}
use Rattle.std.proofs.lemmas.Bool.{cases_Bool, eqb-true}
use Rattle.acl_credits.specs.Histories.{BufferEvent, Completed, outstanding_after}
use Rattle.acl_credits.specs.Ledgers.{packets_on, outstanding_on, without}
use Rattle.hci_packets.specs.Events.{entries_of}
use Rattle.capture.specs.declared.flow.Flow.TheVariants.{Into}
use Rattle.capture.specs.Moves.{Move}
use Rattle.capture.specs.Links.{Link, Linking, Answered, longer, after_news, ends_with, gone_on}
use Rattle.capture.specs.Buffers as buffers
use Rattle.capture.specs.Pdus.{piece_in}
use Rattle.host_link.specs.Lines.{Line}
use Rattle.host_link.specs.CommandFlows.{is_number}
use Rattle.host_link.specs.Hearing.{after_connection, after_disconnection, after_completed}
use Rattle.host_link.proofs.Accounts.{all_given_on, none_given, without_on}
use Rattle.host_link.proofs.Standing.{At, gone, on_link, OnLink, no_piece}

abbrev pub links : Bool → List Link → Option Link → Linking
links asked past up = record { asked = asked; past = past; up = up }

-- a packet without buffer events that carries no piece
pub record IsPlain (move : Move) : Type 0 where
  pub events : buffers.buffer_events move ≡ []
  pub piece : (handle : ℕ) → piece_in Into handle move ≡ None

on_goes : (asked : Bool) (past : List Link) (up : Option Link) (line : Line) (move : Move) → IsPlain move → At (links asked past up) line → At (links asked past (option_map (longer move) up)) line
on_goes asked past up line move plain at = gone asked past up line move plain.events plain.piece at

-- ---- Connection Complete

-- the waiting ends
told : (past : List Link) (asked : Bool) (up : Option Link) (line : Line) → At (links asked past up) line → At (links false past up) (record line { asked = false })
told past asked up line at = record { asked = refl; link = at.link; ledger = at.ledger; joining = at.joining }

either : (b : Bool) (n : ℕ) → n ≡ 0 → n ≡ (if b then 0 else 0)
either true n is = is
either false n is = is

made : (past : List Link) (line : Line) (handle : ℕ) → At (links true past None) line
    → At (links false past (Some (record { handle = handle; moves = [] }))) (record line { asked = false; link = Some handle; ending = false; joining = [] })
made past line handle at =
    record { asked = refl; link = refl; ledger = λ other. either (handle == other) (outstanding_on line.ledger other) (at.ledger other); joining = refl }

pub connection_on : (asked : Bool) (past : List Link) (up : Option Link) (line : Line) (move : Move) (status handle : ℕ) → IsPlain move → At (links asked past up) line
    → At (after_news move (links asked past up) (Answered status handle)) (after_connection status handle line)
connection_on false past up line move status handle plain at = rw (← at.asked) (told past false (option_map (longer move) up) line (on_goes false past up line move plain at))
connection_on true past None line move status handle plain at =
    let free : is_none line.link ≡ true = ap is_none (sym at.link) in
    elim (cases_Bool (eqb status 0)) [
      | inl success ↦ rw (success, ← at.asked, free) (made past line handle at)
      | inr failure ↦ rw (failure, ← at.asked) (told past true None line at)
    ]
connection_on true past (Some link) line move status handle plain at =
    let busy : is_none line.link ≡ false = ap is_none (sym at.link) in
    let goes = told past true (Some (longer move link)) line (on_goes true past (Some link) line move plain at) in
    elim (cases_Bool (eqb status 0)) [
      | inl success ↦ rw (success, ← at.asked, busy) goes
      | inr failure ↦ rw (failure, ← at.asked) goes
    ]

-- ---- Disconnection Complete

all_back : (link : Link) (line : Line) (handle other : ℕ) → link.handle ≡ handle
    → outstanding_on line.ledger other ≡ (if link.handle == other then buffers.outstanding_on_link link else 0)
    → packets_on (without handle line.ledger.held) other ≡ 0
all_back link line handle other is on =
    without_on line.ledger.held handle other
    ∙ elim (cases_Bool (eqb handle other)) [
      | inl same ↦ rw same refl
      | inr apart ↦
          let none : eqb link.handle other ≡ false = ap (λ (h : ℕ). eqb h other) is ∙ apart in
          rw apart (on ∙ ap (λ (b : Bool). if b then buffers.outstanding_on_link link else 0) none)
    ]

pub disconnection_on : (asked : Bool) (past : List Link) (up : Option Link) (line : Line) (move : Move) (handle : ℕ) → IsPlain move → At (links asked past up) line
    → At (ends_with handle move (links asked past up) up) (after_disconnection 0 handle line)
disconnection_on asked past None line move handle plain at =
    let none : is_number handle line.link ≡ false = ap (is_number handle) (sym at.link) in
    rw none at
disconnection_on asked past (Some link) line move handle plain at =
    let whose : is_number handle line.link ≡ eqb link.handle handle = ap (is_number handle) (sym at.link) in
    elim (cases_Bool (eqb link.handle handle)) [
      | inl same ↦
          let is : link.handle ≡ handle = eqb-true link.handle handle same in
          rw (whose, same) (record { asked = at.asked; link = refl; ledger = λ other. all_back link line handle other is (at.ledger other); joining = tt })
      | inr other ↦ rw (whose, other) (on_goes asked past (Some link) line move plain at)
    ]

-- ---- Number Of Completed Packets

abbrev pub completions : List ℕ → List BufferEvent
completions entries = map (λ entry. Completed entry.0 entry.1) (entries_of entries)

given_on_link : (link : Link) (line : Line) (move : Move) (entries : List ℕ) → buffers.buffer_events move ≡ completions entries
    → ((handle : ℕ) → outstanding_on line.ledger handle ≡ buffers.outstanding_on handle (Some link)) → OnLink link move (after_completed entries line)
given_on_link link line move entries events on handle =
    all_given_on (entries_of entries) line.ledger handle
    ∙ (ap (λ (n : ℕ). fold (outstanding_after handle) n (completions entries)) (on handle)
    ∙ elim (cases_Bool (eqb link.handle handle)) [
      | inl same ↦
          rw same
          (ap (λ (h : ℕ). fold (outstanding_after h) (buffers.outstanding_on_link link) (completions entries)) (sym (eqb-true link.handle handle same))
          ∙ ap (λ (es : List BufferEvent). fold (outstanding_after link.handle) (buffers.outstanding_on_link link) es) (sym events))
      | inr apart ↦ rw apart (none_given (entries_of entries) handle)
    ])

pub completed_on : (asked : Bool) (past : List Link) (up : Option Link) (line : Line) (move : Move) (entries : List ℕ)
    → buffers.buffer_events move ≡ completions entries → ((handle : ℕ) → piece_in Into handle move ≡ None)
    → At (links asked past up) line → At (gone_on move (links asked past up)) (after_completed entries line)
completed_on asked past None line move entries events piece at =
    record {
      asked = at.asked;
      link = at.link;
      ledger = λ handle. all_given_on (entries_of entries) line.ledger handle
          ∙ (ap (λ (n : ℕ). fold (outstanding_after handle) n (map (λ entry. Completed entry.0 entry.1) (entries_of entries))) (at.ledger handle) ∙ none_given (entries_of entries) handle);
      joining = tt;
    }
completed_on asked past (Some link) line move entries events piece at =
    record {
      asked = at.asked;
      link = at.link;
      ledger = on_link link move (after_completed entries line) (given_on_link link line move entries events at.ledger);
      joining = no_piece link move line.joining (piece link.handle) at.joining;
    }
