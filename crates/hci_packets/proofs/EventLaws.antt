-- An event that stands in the table is the only one there with its code and its parameters, and these are not
-- refused.
use Rattle.std.proofs.Common.{◌≡◌, ℕ, ◌<◌, ◌^◌, List, [], ◌∷◌, ◌++◌, length, take, drop, Bool, true, false, cond, eqb, Option, None, slice_index, refl, sym, ap, ◌∙◌, arith}
use Rattle.std.specs.Prelude.{◌||◌}
use Rattle.std.proofs.lemmas.Bool.{le-ltb, eqb-true}
use Rattle.byteorder.specs.Endian.{little_number}
use Rattle.byteorder.specs.Numbers.{little_number-reads_back}
use Rattle.bt_base.specs.Octets.{le16}
use Rattle.bt_base.proofs.OctetLemmas.{le16-number}
use Rattle.bt_base.specs.Numbers.{IsHandle}
use Rattle.hci_packets.specs.declared.refusal.HciRefusal.{HciRefusal}
use Rattle.hci_packets.specs.Refusals.{wrong_handle}
use Rattle.hci_packets.specs.Events.{PlainEvent, ConnectionComplete, ConnectionRequest, DisconnectionComplete, CommandComplete, CommandStatus, CompletedPackets, Other, code_of, event_params, le24, has_event, AllowsEvent, FitsEvent, IsEvent, event_refusal, wrong_connection}
use Rattle.hci_packets.proofs.Lists.{of_six}
use Rattle.hci_packets.proofs.CommandLaws.{handle_allowed}
use Rattle.hci_packets.proofs.Entries.{none_bad, right_length}

-- the event that the table has for a code and parameters
abbrev pub event_at : ℕ → List ℕ → PlainEvent
event_at code ps =
    cond (eqb code 0x03) (ConnectionComplete (slice_index ps 0) (little_number 2 (drop 1 ps)) (take 6 (drop 3 ps)) (slice_index ps 9) (slice_index ps 10))
    (cond (eqb code 0x04) (ConnectionRequest (take 6 ps) (little_number 3 (drop 6 ps)) (slice_index ps 9))
    (cond (eqb code 0x05) (DisconnectionComplete (slice_index ps 0) (little_number 2 (drop 1 ps)) (slice_index ps 3))
    (cond (eqb code 0x0E) (CommandComplete (slice_index ps 0) (little_number 2 (drop 1 ps)) (drop 3 ps))
    (cond (eqb code 0x0F) (CommandStatus (slice_index ps 0) (slice_index ps 1) (little_number 2 (drop 2 ps)))
    (cond (eqb code 0x13) (CompletedPackets (slice_index ps 0) (drop 1 ps)) (Other code ps))))))

-- each test fails where none holds
all_fail : (a b c d e f : Bool) → a || b || c || d || e || f ≡ false
    → (a ≡ false) × (b ≡ false) × (c ≡ false) × (d ≡ false) × (e ≡ false) × (f ≡ false)
all_fail true b c d e f none = absurd cc
all_fail false true c d e f none = absurd cc
all_fail false false true d e f none = absurd cc
all_fail false false false true e f none = absurd cc
all_fail false false false false true f none = absurd cc
all_fail false false false false false true none = absurd cc
all_fail false false false false false false none = (refl, refl, refl, refl, refl, refl)

no_row : (code : ℕ) → has_event code ≡ false
    → (eqb code 0x03 ≡ false) × (eqb code 0x04 ≡ false) × (eqb code 0x05 ≡ false) × (eqb code 0x0E ≡ false) × (eqb code 0x0F ≡ false) × (eqb code 0x13 ≡ false)
no_row code none = all_fail (eqb code 0x03) (eqb code 0x04) (eqb code 0x05) (eqb code 0x0E) (eqb code 0x0F) (eqb code 0x13) none

le24-number : (n : ℕ) (rest : List ℕ) → n < 2 ^ 24 → little_number 3 (le24 n ++ rest) ≡ n
le24-number n rest fits = little_number-reads_back 3 n rest fits

read_again : (event : PlainEvent) → FitsEvent event → AllowsEvent event → event_at (code_of event) (event_params event) ≡ event
read_again (ConnectionComplete status handle address link encryption) fits allowed =
    of_six (λ (xs : List ℕ). event_at 0x03 (event_params (ConnectionComplete status handle xs link encryption)) ≡ ConnectionComplete status handle xs link encryption)
    (λ a b c d e f. ap (λ (n : ℕ). ConnectionComplete status n (a ∷ b ∷ c ∷ d ∷ e ∷ f ∷ []) link encryption)
    (le16-number handle (a ∷ b ∷ c ∷ d ∷ e ∷ f ∷ link ∷ encryption ∷ []) fits.0)) address fits.1
read_again (ConnectionRequest address class link) fits allowed =
    of_six (λ (xs : List ℕ). event_at 0x04 (event_params (ConnectionRequest xs class link)) ≡ ConnectionRequest xs class link)
    (λ a b c d e f. ap (λ (n : ℕ). ConnectionRequest (a ∷ b ∷ c ∷ d ∷ e ∷ f ∷ []) n link) (le24-number class (link ∷ []) allowed)) address fits
read_again (DisconnectionComplete status handle reason) fits allowed =
    let small : handle < 2 ^ 16 = omega arith in
    ap (λ (n : ℕ). DisconnectionComplete status n reason) (le16-number handle (reason ∷ []) small)
read_again (CommandComplete number opcode returned) fits allowed =
    ap (λ (n : ℕ). CommandComplete number n returned) (le16-number opcode returned fits)
read_again (CommandStatus status number opcode) fits allowed =
    ap (λ (n : ℕ). CommandStatus status number n) (le16-number opcode [] fits)
read_again (CompletedPackets count entries) fits allowed = refl
read_again (Other code params) fits allowed =
    let no = no_row code allowed in
    rw (no.0, no.1, no.2, no.3, no.4, no.5) refl

none_where : (b : Bool) (refusal : Option HciRefusal) → (b ≡ true → refusal ≡ None) → cond b refusal None ≡ None
none_where true refusal none = none refl
none_where false refusal none = refl

connection_allowed : (status handle : ℕ) → (status ≡ 0 → IsHandle handle) → wrong_connection status handle ≡ None
connection_allowed status handle allowed =
    none_where (eqb status 0) (wrong_handle handle) (λ made. handle_allowed handle (allowed (eqb-true status 0 made)))

accepted : (event : PlainEvent) → FitsEvent event → AllowsEvent event → event_refusal (code_of event) (event_params event) ≡ None
accepted (ConnectionComplete status handle address link encryption) fits allowed =
    of_six (λ (xs : List ℕ). event_refusal 0x03 (event_params (ConnectionComplete status handle xs link encryption)) ≡ None)
    (λ a b c d e f. ap (wrong_connection status) (le16-number handle (a ∷ b ∷ c ∷ d ∷ e ∷ f ∷ link ∷ encryption ∷ []) fits.0) ∙ connection_allowed status handle allowed) address fits.1
accepted (ConnectionRequest address class link) fits allowed =
    of_six (λ (xs : List ℕ). event_refusal 0x04 (event_params (ConnectionRequest xs class link)) ≡ None) (λ a b c d e f. refl) address fits
accepted (DisconnectionComplete status handle reason) fits allowed =
    let small : handle < 2 ^ 16 = omega arith in
    ap wrong_handle (le16-number handle (reason ∷ []) small) ∙ handle_allowed handle fits
accepted (CommandComplete number opcode returned) fits allowed =
    rw (le-ltb (length (number ∷ (le16 opcode ++ returned))) 3 (omega arith)) refl
accepted (CommandStatus status number opcode) fits allowed = refl
accepted (CompletedPackets count entries) fits allowed =
    right_length _ entries _ allowed.0 ∙ rw (none_bad _ allowed.1) refl
accepted (Other code params) fits allowed =
    let no = no_row code allowed in
    rw (no.0, no.1, no.2, no.3, no.4, no.5) refl

event_read : (event : PlainEvent) (code : ℕ) (params : List ℕ) → IsEvent event code params → event_at code params ≡ event
event_read event code params is = rw (is.number, is.octets) (read_again event is.fits is.allowed)

pub event_accepted : (event : PlainEvent) (code : ℕ) (params : List ℕ) → IsEvent event code params → event_refusal code params ≡ None
event_accepted event code params is = rw (is.number, is.octets) (accepted event is.fits is.allowed)

pub one_event : (first second : PlainEvent) (code : ℕ) (params : List ℕ) → IsEvent first code params → IsEvent second code params → first ≡ second
one_event first second code params is-first is-second = sym (event_read first code params is-first) ∙ event_read second code params is-second
