-- When parameters are refused, and in which order.
use Rattle.std.specs.Prelude.{◌≡◌, ℕ, List, length, Option, Some, None, Result, Ok, Err, Bool, nat_lt, if◌then◌else◌}
use Rattle.hci_packets.specs.declared.refusal.HciRefusal.{HciRefusal}
use Rattle.hci_packets.specs.declared.refusal.HciRefusal.TheVariants.{ShortParams, LongParams, BadHandle, BadValue}

-- a row of `n` octets refuses other lengths first, and then what `then` refuses
abbrev pub wrong_length : ℕ → List ℕ → Option HciRefusal → Option HciRefusal
wrong_length n params next =
    if nat_lt (length params) n then Some ShortParams else (if nat_lt n (length params) then Some LongParams else next)

-- a connection handle is refused above 0EFF (Core 5.1, Volume 2 Part E, 5.4.2)
abbrev pub bad_handle : ℕ → Bool
bad_handle handle = nat_lt 0x0EFF handle

abbrev pub wrong_handle : ℕ → Option HciRefusal
wrong_handle handle = if bad_handle handle then Some BadHandle else None

-- a value is refused above the greatest that its row allows
abbrev pub wrong_value : ℕ → ℕ → Option HciRefusal
wrong_value greatest value = if nat_lt greatest value then Some BadValue else None

-- an answer is exactly this refusal, or none where there is nothing to refuse
abbrev pub RefusedBy : {X : Type 0} → Result X HciRefusal → Option HciRefusal → Type 0
RefusedBy (Ok x) refusal = refusal ≡ None
RefusedBy (Err e) refusal = refusal ≡ Some e
