-- What a server hears of one push, of an object of any size (IrOBEX 1.5, 3.4.3; Object Push Profile 1.2, 4.3). The bound of 16,777,215 octets is this
-- project's own.
use Rattle.std.specs.Prelude.{ℕ, ◌≡◌, ◌<◌, ◌^◌, ◌⊎◌, List, [], ◌∷◌, length, Some}
use Rattle.std.specs.List.{AllByRecursion}
use Rattle.push_laws.specs.link_talk.specs.bt_base.specs.Objects.{Object, octets_of}
use Rattle.push_laws.specs.push_model.specs.obex_headers.specs.Runs.{spelled}
use Rattle.push_laws.specs.push_model.specs.obex_session.specs.Pairs.{Pair, past_packets, HoldsAtEachMove}
use Rattle.push_laws.specs.push_model.specs.obex_session.specs.PutPackets.{units_in}

-- it spells the object once or nothing, and nothing where the object is above the bound
pub record SpellsOnce (object : Object) (b : Pair) : Type 0 where
  pub once : (spelled (past_packets b.past) ≡ []) ⊎ (spelled (past_packets b.past) ≡ object ∷ [])
  pub above : 16777215 < length object.octets → spelled (past_packets b.past) ≡ []

-- So it does wherever the packets have moved to, where the shelf tells its objects and the one of the name is as long as was told.
abbrev pub PairsSpellOnce : Type 0
PairsSpellOnce = HoldsAtEachMove (λ name size content b. (objects : List Object) (object : List ℕ) → AllByRecursion (λ unit. unit < 2 ^ 16) (units_in name) → content ≡ Some objects → octets_of name objects ≡ Some object → length object ≡ size
    → SpellsOnce (record { name = units_in name; octets = object }) b)
