-- What a server answers over RFCOMM: packets that state its own maximum, wherever a client reads a response to CONNECT in them.
use Rattle.std.proofs.Common.{◌⊎◌, ◌≡◌, ℕ, List, []}
use Rattle.push_model.specs.obex_session.proofs.StatingLaws.{States}
use Rattle.push_model.specs.rfcomm_frames.specs.ObexPackets.{IsPacket}

-- a response of a server that takes so many octets
pub record IsResponse (most : ℕ) (octets : List ℕ) : Type 0 where
  pub packet : IsPacket octets
  pub states : States most octets

-- nothing, or a response
abbrev pub IsAnswer : ℕ → List ℕ → Type 0
IsAnswer most octets = (octets ≡ []) ⊎ IsResponse most octets
