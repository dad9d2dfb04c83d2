-- When a host has a PDU to give (Core 5.1, Volume 3 Part A, 3.1, 3.3 and 4).
use Rattle.std.specs.Prelude.{◌≡◌, ◌||◌, Bool, true, false, is_some, List, [], ◌∷◌, None}
use Rattle.std.specs.List.{list_any}
use Rattle.channel_laws.specs.channel_model.specs.declared.errand.Errand.{Errand}
use Rattle.channel_laws.specs.channel_model.specs.Giving.{gives, next_given}
use Rattle.channel_laws.specs.channel_model.specs.Policies.{Policy}
use Rattle.channel_laws.specs.channel_model.specs.Value.{Queued, Channels}
use Rattle.channel_laws.specs.Runs.{Occurrence, run_of}
use Rattle.channel_laws.specs.Tries.{request_of, copies}

-- a command waits on the signalling channel: an answer to the peer, or a copy of an own request
abbrev pub command_waits : List Queued → Bool
command_waits [] = false
command_waits (one ∷ behind) = true

pub record HasToGive (v : Channels) : Type 0 where
  -- there is a PDU to give exactly where a command waits, or a channel has an SDU or a frame to give
  pub given_is : is_some (next_given v) ≡ (command_waits v.queue || list_any gives v.held)
  -- no copy waits to be given of a request that waits for no response: it has no command
  pub copies_are : (errand : Errand) → request_of errand v ≡ None → copies errand v.queue ≡ 0

-- So it is of the channels of a host, whatever happens to them.
abbrev pub GivesWhatWaits : Type 0
GivesWhatWaits = (policy : Policy) (list : List Occurrence) → HasToGive (run_of policy list).value
