-- What stands at the front of a stream of packets (IrOBEX 1.5, 2.2: octets 1 and 2 state the length of the whole packet).
use Rattle.std.specs.Prelude.{◌≡◌, ℕ, List, ◌++◌, length, take, drop, nat_lt, if◌then◌else◌}
use Rattle.obex_headers.specs.declared.fault.ObexRefusal.{ObexRefusal}
use Rattle.obex_headers.specs.declared.fault.ObexRefusal.TheVariants.{BadLength, AboveMaximum}
use Rattle.obex_headers.specs.Assembling.{stated_len, IsFramed, IsPartial, BeginsNone}

pub data Front : Type 0 where
  -- a whole packet, and what follows it
  Whole : (packet rest : List ℕ) → Front
  -- less than a whole packet
  Partial : Front
  -- octets that begin none
  Broken : (refusal : ObexRefusal) → Front

unfoldable pub front_of : ℕ → List ℕ → Front
front_of maximum stream =
    if nat_lt (length stream) 3 then Partial
    else if nat_lt maximum (stated_len stream) then Broken AboveMaximum
    else if nat_lt (stated_len stream) 3 then Broken BadLength
    else if nat_lt (length stream) (stated_len stream) then Partial
    else Whole (take (stated_len stream) stream) (drop (stated_len stream) stream)

-- Each stream has one front: a whole packet by the length that it states, less than a whole one, or octets that begin none.
pub record FrontsAreRight : Type 0 where
  pub whole : (maximum : ℕ) (packet rest : List ℕ) → IsFramed maximum packet → front_of maximum (packet ++ rest) ≡ Whole packet rest
  pub partial : (maximum : ℕ) (stream : List ℕ) → IsPartial maximum stream → front_of maximum stream ≡ Partial
  pub broken : (maximum : ℕ) (stream : List ℕ) (refusal : ObexRefusal) → BeginsNone maximum stream refusal → front_of maximum stream ≡ Broken refusal
