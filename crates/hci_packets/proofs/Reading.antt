-- A reader that reads what stands in a table, and refuses exactly what is to be refused, reads all that stands
-- there.
use Rattle.std.proofs.Common.{◌≡◌, Option, None, Result, Ok, Err}
use Rattle.std.specs.Prelude.{IfOk, IsOkAnd}
use Rattle.hci_packets.specs.declared.refusal.HciRefusal.{HciRefusal}
use Rattle.hci_packets.specs.Refusals.{RefusedBy}

pub all_read : {X V : Type 0} (view : X → V) (Stands : V → Type 0) (refusal : Option HciRefusal)
    → ((first second : V) → Stands first → Stands second → first ≡ second)
    → ((value : V) → Stands value → refusal ≡ None)
    → (result : Result X HciRefusal) → IfOk result (λ x. Stands (view x)) → RefusedBy result refusal
    → (value : V) → Stands value → IsOkAnd result (λ x. view x ≡ value)
all_read view Stands refusal one accepted (Ok x) read refused value stands = one (view x) value read stands
all_read view Stands refusal one accepted (Err e) read refused value stands =
    let none = accepted value stands in
    absurd cc
