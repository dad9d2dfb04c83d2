-- A command that stands in the table is the only one there with its number and its parameters, and these are
-- not refused.
use Rattle.std.proofs.Common.{◌≡◌, ℕ, ◌≤◌, ◌<◌, ◌^◌, List, [], ◌∷◌, ◌++◌, take, drop, Bool, true, false, cond, eqb, Option, Some, None, slice_index, refl, sym, ap, ◌∙◌, arith}
use Rattle.std.proofs.lemmas.Bool.{le-ltb}
use Rattle.byteorder.specs.Endian.{little_number}
use Rattle.bt_base.specs.Octets.{le16}
use Rattle.bt_base.proofs.OctetLemmas.{le16-number}
use Rattle.hci_packets.specs.Refusals.{wrong_handle, wrong_value}
use Rattle.hci_packets.specs.Commands.{PlainCommand, CreateConnection, Disconnect, AcceptConnection, Reset, WriteScanEnable, ReadBufferSize, ReadBdAddr, Other, opcode_of, command_params, command_length, AllowsCommand, FitsCommand, IsCommand, command_refusal}
use Rattle.hci_packets.proofs.Lists.{of_six}

-- the command that the table has for a number and parameters
abbrev pub command_at : ℕ → List ℕ → PlainCommand
command_at opcode ps =
    cond (eqb opcode 0x0405) (CreateConnection (take 6 ps) (little_number 2 (drop 6 ps)) (slice_index ps 8) (slice_index ps 9) (little_number 2 (drop 10 ps)) (slice_index ps 12))
    (cond (eqb opcode 0x0406) (Disconnect (little_number 2 ps) (slice_index ps 2))
    (cond (eqb opcode 0x0409) (AcceptConnection (take 6 ps) (slice_index ps 6))
    (cond (eqb opcode 0x0C03) Reset
    (cond (eqb opcode 0x0C1A) (WriteScanEnable (slice_index ps 0))
    (cond (eqb opcode 0x1005) ReadBufferSize
    (cond (eqb opcode 0x1009) ReadBdAddr (Other opcode ps)))))))

abbrev octets_wanted : ℕ → Option ℕ
octets_wanted n = Some n

-- each test fails where none of the rows is chosen
all_fail : (a b c d e f g : Bool)
    → cond a (octets_wanted 13) (cond b (octets_wanted 3) (cond c (octets_wanted 7) (cond d (octets_wanted 0) (cond e (octets_wanted 1) (cond f (octets_wanted 0) (cond g (octets_wanted 0) None)))))) ≡ None
    → (a ≡ false) × (b ≡ false) × (c ≡ false) × (d ≡ false) × (e ≡ false) × (f ≡ false) × (g ≡ false)
all_fail true b c d e f g none = absurd cc
all_fail false true c d e f g none = absurd cc
all_fail false false true d e f g none = absurd cc
all_fail false false false true e f g none = absurd cc
all_fail false false false false true f g none = absurd cc
all_fail false false false false false true g none = absurd cc
all_fail false false false false false false true none = absurd cc
all_fail false false false false false false false none = (refl, refl, refl, refl, refl, refl, refl)

no_row : (opcode : ℕ) → command_length opcode ≡ None
    → (eqb opcode 0x0405 ≡ false) × (eqb opcode 0x0406 ≡ false) × (eqb opcode 0x0409 ≡ false) × (eqb opcode 0x0C03 ≡ false) × (eqb opcode 0x0C1A ≡ false) × (eqb opcode 0x1005 ≡ false) × (eqb opcode 0x1009 ≡ false)
no_row opcode none =
    all_fail (eqb opcode 0x0405) (eqb opcode 0x0406) (eqb opcode 0x0409) (eqb opcode 0x0C03) (eqb opcode 0x0C1A) (eqb opcode 0x1005) (eqb opcode 0x1009) none

created : (packets repetition reserved clock switch : ℕ) → packets < 2 ^ 16 → clock < 2 ^ 16 → (a b c d e f : ℕ)
    → command_at 0x0405 (command_params (CreateConnection (a ∷ b ∷ c ∷ d ∷ e ∷ f ∷ []) packets repetition reserved clock switch)) ≡ CreateConnection (a ∷ b ∷ c ∷ d ∷ e ∷ f ∷ []) packets repetition reserved clock switch
created packets repetition reserved clock switch fits-packets fits-clock a b c d e f =
    let p = le16-number packets (repetition ∷ reserved ∷ (le16 clock ++ switch ∷ [])) fits-packets in
    let k = le16-number clock (switch ∷ []) fits-clock in
    ap (λ (n : ℕ). CreateConnection (a ∷ b ∷ c ∷ d ∷ e ∷ f ∷ []) n repetition reserved (little_number 2 (le16 clock ++ switch ∷ [])) switch) p
    ∙ ap (λ (n : ℕ). CreateConnection (a ∷ b ∷ c ∷ d ∷ e ∷ f ∷ []) packets repetition reserved n switch) k

read_again : (command : PlainCommand) → FitsCommand command → AllowsCommand command → command_at (opcode_of command) (command_params command) ≡ command
read_again (CreateConnection address packets repetition reserved clock switch) fits allowed =
    of_six (λ (xs : List ℕ). command_at 0x0405 (command_params (CreateConnection xs packets repetition reserved clock switch)) ≡ CreateConnection xs packets repetition reserved clock switch)
    (created packets repetition reserved clock switch fits.1 fits.2) address fits.0
read_again (Disconnect handle reason) fits allowed =
    let small : handle < 2 ^ 16 = omega arith in
    ap (λ (n : ℕ). Disconnect n reason) (le16-number handle (reason ∷ []) small)
read_again (AcceptConnection address role) fits allowed =
    of_six (λ (xs : List ℕ). command_at 0x0409 (command_params (AcceptConnection xs role)) ≡ AcceptConnection xs role)
    (λ a b c d e f. refl) address fits
read_again Reset fits allowed = refl
read_again (WriteScanEnable value) fits allowed = refl
read_again ReadBufferSize fits allowed = refl
read_again ReadBdAddr fits allowed = refl
read_again (Other opcode params) fits allowed =
    let no = no_row opcode allowed in
    rw (no.0, no.1, no.2, no.3, no.4, no.5, no.6) refl

value_allowed : (greatest value : ℕ) → value ≤ greatest → wrong_value greatest value ≡ None
value_allowed greatest value within = rw (le-ltb greatest value within) refl

pub handle_allowed : (handle : ℕ) → handle ≤ 0x0EFF → wrong_handle handle ≡ None
handle_allowed handle within = rw (le-ltb 0x0EFF handle within) refl

accepted : (command : PlainCommand) → FitsCommand command → AllowsCommand command → command_refusal (opcode_of command) (command_params command) ≡ None
accepted (CreateConnection address packets repetition reserved clock switch) fits allowed =
    of_six (λ (xs : List ℕ). command_refusal 0x0405 (command_params (CreateConnection xs packets repetition reserved clock switch)) ≡ None)
    (λ a b c d e f. value_allowed 1 switch allowed) address fits.0
accepted (Disconnect handle reason) fits allowed =
    let small : handle < 2 ^ 16 = omega arith in
    ap wrong_handle (le16-number handle (reason ∷ []) small) ∙ handle_allowed handle fits
accepted (AcceptConnection address role) fits allowed =
    of_six (λ (xs : List ℕ). command_refusal 0x0409 (command_params (AcceptConnection xs role)) ≡ None)
    (λ a b c d e f. value_allowed 1 role allowed) address fits
accepted Reset fits allowed = refl
accepted (WriteScanEnable value) fits allowed = value_allowed 3 value allowed
accepted ReadBufferSize fits allowed = refl
accepted ReadBdAddr fits allowed = refl
accepted (Other opcode params) fits allowed =
    let no = no_row opcode allowed in
    rw (no.0, no.1, no.2, no.3, no.4, no.5, no.6) refl

pub command_read : (command : PlainCommand) (opcode : ℕ) (params : List ℕ) → IsCommand command opcode params → command_at opcode params ≡ command
command_read command opcode params is = rw (is.number, is.octets) (read_again command is.fits is.allowed)

pub command_accepted : (command : PlainCommand) (opcode : ℕ) (params : List ℕ) → IsCommand command opcode params → command_refusal opcode params ≡ None
command_accepted command opcode params is = rw (is.number, is.octets) (accepted command is.fits is.allowed)

pub one_command : (first second : PlainCommand) (opcode : ℕ) (params : List ℕ) → IsCommand first opcode params → IsCommand second opcode params → first ≡ second
one_command first second opcode params is-first is-second = sym (command_read first opcode params is-first) ∙ command_read second opcode params is-second
