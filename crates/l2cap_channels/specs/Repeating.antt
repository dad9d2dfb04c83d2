-- Requests that are repeated, and those that are not.
use Rattle.std.specs.Prelude.{ℕ, ◌==◌, Bool, true, false, Option, Some, None, if◌then◌else◌}
use Rattle.l2cap_signal.specs.Commands.{Content}
use Rattle.channel_model.specs.declared.request_kind.RequestKind.{RequestKind}
use Rattle.channel_model.specs.Value.{Held, Remembered, Channels}
use Rattle.channel_model.specs.Changing.{is_peer}
use Rattle.channel_model.specs.Following.{hears_again, says, remembers}

-- it has the identifier of the last request of its kind
abbrev pub is_repeated : Option Remembered → (identifier : ℕ) → Bool
is_repeated None identifier = false
is_repeated (Some last) identifier = last.identifier == identifier

abbrev pub again : Option Remembered → (identifier : ℕ) → Channels → Channels
again None identifier v = v
again (Some last) identifier v = if last.identifier == identifier then hears_again identifier last.response v else v

-- where there is room it is the last of its kind, and its response waits
abbrev pub admitted : Bool → RequestKind → (identifier : ℕ) → Option Content → Channels → Channels
admitted true kind identifier response v = says identifier response (remembers kind identifier response v)
admitted false kind identifier response v = v

-- the endpoint is the peer's of the channel at a place
abbrev pub is_peer_at : ℕ → Option Held → Bool
is_peer_at endpoint None = false
is_peer_at endpoint (Some held) = is_peer endpoint held.stage
