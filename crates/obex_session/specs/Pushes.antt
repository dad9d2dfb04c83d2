-- A push of one object, as far as a server heard it: a front of what the client said, for a link carries packets in
-- order until it breaks.
use Rattle.std.specs.Prelude.{◌≡◌, ℕ, ◌+◌, ◌<◌, ◌≤◌, ◌^◌, ◌⊎◌, Bool, List, [], ◌∷◌, ◌++◌, length, take, Option, Some, None}
use Rattle.std.specs.List.{AllByRecursion}
use Rattle.bt_base.specs.Objects.{Object, octets_of}
use Rattle.obex_headers.specs.Runs.{put_in, spelled}
use Rattle.obex_session.specs.PutPackets.{units_in}
use Rattle.obex_session.specs.Asking.{Asking}
use Rattle.obex_session.specs.ObjectPuts.{HasPut, IsWhole}

-- a packet that is no PUT, as CONNECT, ABORT and DISCONNECT are
abbrev pub IsNoPut : List ℕ → Type 0
IsNoPut packet = put_in packet ≡ None

-- a name whose units are no more than a server takes, and an object that is none too large
pub record Fits (name : List ℕ) (size : ℕ) : Type 0 where
  pub short : length (units_in name) ≤ 255
  pub units : AllByRecursion (λ unit. unit < 2 ^ 16) (units_in name)
  pub bounded : size ≤ 16777215

pub record FrontsArePushed : Type 0 where
  -- of a push that put its whole object a front spells nothing ahead of the final PUT, and the object once from there on
  pub whole : (n : ℕ) (before said after : List (List ℕ)) (wanted : Bool) (name : List ℕ) (size : ℕ) (objects : List Object) (object : List ℕ) → AllByRecursion IsNoPut before → AllByRecursion IsNoPut after → Fits name size
      → IsWhole wanted name size said (Some objects) → octets_of name objects ≡ Some object → length object ≡ size
      → ((n < length before + length said) × (spelled (take n (before ++ (said ++ after))) ≡ []))
      ⊎ ((length before + length said ≤ n) × (spelled (take n (before ++ (said ++ after))) ≡ record { name = units_in name; octets = object } ∷ []))
  -- a front of one that left off spells nothing
  pub part : (n : ℕ) (before said after : List (List ℕ)) (name : List ℕ) (size : ℕ) (session : Asking) (content : Option (List Object)) → AllByRecursion IsNoPut before → AllByRecursion IsNoPut after → Fits name size
      → HasPut name size said session content → spelled (take n (before ++ (said ++ after))) ≡ []
