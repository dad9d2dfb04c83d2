-- What the calls of a source and of a sink do to their contents, where these are told (this project's own).
use Rattle.std.specs.Prelude.{ℕ, ◌≡◌, ◌<◌, ◌≤◌, ◌++◌, List, [], length, take, drop, Option, Result, Ok, Err, IfOk, IfSome, OnOk}
use Rattle.std.specs.Option.{option_map}
use Rattle.bt_base.specs.declared.ports.PortFault.{PortFault}

-- what is left of a source after a read: a fault takes nothing
abbrev pub left_after : Result ℕ PortFault → Option (List ℕ) → Option (List ℕ)
left_after (Ok n) content = option_map (drop n) content
left_after (Err fault) content = content

-- A read of a source whose content was `old` and is `new`, into a slice that was `into` and is `into'`.
pub record IsRead (old new : Option (List ℕ)) (into into' : List ℕ) (result : Result ℕ PortFault) : Type 0 where
  -- no more octets than fit
  pub within : IfOk result (λ n. n ≤ length into)
  -- the octets that were taken are no longer left
  pub content : new ≡ left_after result old
  -- they stand at the front of the slice, and the rest of it is as it was
  pub octets : IfOk result (λ n. IfSome old (λ left. (n ≤ length left) × (into' ≡ take n left ++ drop n into)))
  -- none in a slice that is not empty is the end, and nothing is left
  pub finish : result ≡ Ok 0 → 0 < length into → IfSome old (λ left. left ≡ [])

-- the content of a sink with octets written at its end
abbrev pub gained : Option (List ℕ) → List ℕ → Option (List ℕ)
gained content octets = option_map (λ written. written ++ octets) content

-- the content of a sink with some front of these octets written at its end
abbrev pub GainedFront : Option (List ℕ) → Option (List ℕ) → List ℕ → Type 0
GainedFront old new octets = (n : ℕ) × (new ≡ gained old (take n octets))

-- A put to a sink whose content was `old` and is `new`: all of the piece, and after a fault a front of it.
pub record IsPut (old new : Option (List ℕ)) (piece : List ℕ) (result : Result (Unit {0}) PortFault) : Type 0 where
  pub ok : OnOk result (new ≡ gained old piece)
  pub front : GainedFront old new piece
