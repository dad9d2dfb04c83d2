-- The channel that a profile uses for each PSM, by the host's own endpoint of it (this project's own).
use Rattle.std.specs.Prelude.{ℕ, ◌==◌, ◌&&◌, not, nat_le, Bool, false, List, ◌∷◌, length, take, filter, find, Option, Some, None, option_map}
use Rattle.channel_model.specs.Value.{Channels}
use Rattle.channel_model.specs.Calls.{peer_mtu, waits}
use Rattle.host_model.specs.Pdus.{are_octets}

pub record Endpoint : Type 0 where
  pub psm : ℕ
  pub own : ℕ

abbrev pub is_of : ℕ → Endpoint → Bool
is_of psm endpoint = endpoint.psm == psm

abbrev pub endpoint_of : ℕ → List Endpoint → Option ℕ
endpoint_of psm endpoints = option_map (λ endpoint. endpoint.own) (find (is_of psm) endpoints)

-- there is one for each PSM: the last. The last four are kept, which are more than a profile uses
abbrev pub with_endpoint : (psm own : ℕ) → List Endpoint → List Endpoint
with_endpoint psm own endpoints = record { psm = psm; own = own } ∷ take 3 (filter (λ other. not (is_of psm other)) endpoints)

abbrev pub with_answer : ℕ → Option ℕ → List Endpoint → List Endpoint
with_answer psm None endpoints = endpoints
with_answer psm (Some own) endpoints = with_endpoint psm own endpoints

abbrev pub fits : ℕ → Option ℕ → Bool
fits size None = false
fits size (Some mtu) = nat_le size mtu

-- A channel takes an SDU where it is open, the peer takes one as long, and none waits; and where it is octets, as all are that code
-- has.
abbrev pub takes_sdu : ℕ → List ℕ → Channels → Bool
takes_sdu own sdu channels = (fits (length sdu) (peer_mtu own channels) && not (waits own channels)) && are_octets sdu
