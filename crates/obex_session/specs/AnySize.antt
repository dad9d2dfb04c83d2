-- PUTs that spell an object of any size (IrOBEX 1.5, 3.4.3): the bound of 16,777,215 octets is this project's own, and is
-- left aside here.
use Rattle.std.specs.Prelude.{◌≡◌, ℕ, ◌<◌, ◌≤◌, ◌^◌, ◌↔◌, Bool, true, false, List, [], ◌∷◌, ◌++◌, length, Some}
use Rattle.std.specs.List.{AllByRecursion}
use Rattle.bt_base.specs.Objects.{Object, octets_of}
use Rattle.obex_headers.specs.Packets.{PlainPacket}
use Rattle.obex_headers.specs.Runs.{is_final, names, bodies, ahead_of_name, joined, run_headers, heard, puts, SpellsObject}
use Rattle.obex_session.specs.PutPackets.{units_in}
use Rattle.obex_session.specs.ObjectPuts.{IsWhole}

-- the last PUT alone is final, one Name of at most 255 units stands in them, no body ahead of it, and they have a body
pub record SpellsUnbounded (run : List PlainPacket) (object : Object) : Type 0 where
  pub front : List PlainPacket
  pub last : PlainPacket
  pub parts : run ≡ front ++ last ∷ []
  pub not_final : AllByRecursion (λ packet. is_final packet ≡ false) front
  pub final : is_final last ≡ true
  pub name : names (run_headers run) ≡ object.name ∷ []
  pub short_name : length object.name ≤ 255
  pub name_first : bodies (ahead_of_name (run_headers run)) ≡ []
  pub has_body : 0 < length (bodies (run_headers run))
  pub octets : object.octets ≡ joined (bodies (run_headers run))

-- nothing but the bound is left aside
abbrev pub LeavesOnlyTheBound : Type 0
LeavesOnlyTheBound = (run : List PlainPacket) (object : Object) → SpellsObject run object ↔ (SpellsUnbounded run object × (length object.octets ≤ 16777215))

-- packets are heard as PUTs that spell an object of any size
pub record AreHeardAs (packets : List (List ℕ)) (object : Object) : Type 0 where
  pub run : List PlainPacket
  pub heard_as : heard packets ≡ puts run
  pub spelling : SpellsUnbounded run object

-- all packets of an object spell it, whatever its size
abbrev pub SpellsAnySize : Type 0
SpellsAnySize = (wanted : Bool) (name : List ℕ) (size : ℕ) (said : List (List ℕ)) (objects : List Object) (object : List ℕ) → length (units_in name) ≤ 255 → AllByRecursion (λ unit. unit < 2 ^ 16) (units_in name)
    → IsWhole wanted name size said (Some objects) → octets_of name objects ≡ Some object → length object ≡ size → AreHeardAs said (record { name = units_in name; octets = object })
