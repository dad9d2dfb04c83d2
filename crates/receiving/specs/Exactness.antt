-- What a host puts out in a turn, as a function of where it stood, the packet that came, and what its port answered (this project's own).
use Rattle.std.specs.Prelude.{ℕ, ◌≡◌, List, [], ◌∷◌, ◌++◌, map, Option, Some, None}
use Rattle.h4_framing.specs.Packets.{Packet}
use Rattle.bt_host.specs.host_model.specs.Circumstances.{Circumstance}
use Rattle.bt_host.specs.host_model.specs.Profiles.{Profile}
use Rattle.bt_host.specs.Stacks.{goes_out, after_packet}
use Rattle.receiving.specs.Turns.{Stand, Posture, Turn, HasTurn, HasTurns, emptied, answers_heard}

-- the packet of a turn, if there is one; and what the port answered as what was held back went out, and behind the packet
pub record Prompt : Type 0 where
  pub packet : Option Packet
  pub back : List Circumstance
  pub behind : List Circumstance

-- what was held back goes out
abbrev pub back_out : {S : Type 0} → Profile S → List Circumstance → Stand S → Stand S
back_out A answers stands = λ rest. goes_out A (stands (answers ++ rest))

-- the packet is heard, and what may be put out then goes out
abbrev pub heard_out : {S : Type 0} → Profile S → Option Packet → List Circumstance → Stand S → Stand S
heard_out A None answers stands = stands
heard_out A (Some packet) answers stands = λ rest. goes_out A (after_packet A packet (answers ++ rest) (stands (answers ++ rest)))

abbrev pub prompted : {S : Type 0} → Profile S → Prompt → Stand S → Stand S
prompted A prompt stands = heard_out A prompt.packet prompt.behind (back_out A prompt.back stands)

-- the octets that it puts out in one turn after the other; all of them are taken behind each
abbrev pub says_along : {S : Type 0} → Profile S → List Prompt → Stand S → List (List ℕ)
says_along A [] stands = []
says_along A (prompt ∷ prompts) stands = (prompted A prompt stands []).line.out ∷ says_along A prompts (λ rest. emptied (prompted A prompt stands rest))

abbrev pub stands_behind : {S : Type 0} → Profile S → List Prompt → Stand S → Stand S
stands_behind A [] stands = stands
stands_behind A (prompt ∷ prompts) stands = stands_behind A prompts (λ rest. emptied (prompted A prompt stands rest))

-- ---- the prompts of turns that came

abbrev pub prompt_of : {S : Type 0} → (A : Profile S) (turn : Turn) (old new : Posture S) → HasTurn A turn old new → Prompt
prompt_of A turn old new one = record { packet = turn.packet; back = one.back.used; behind = answers_heard A turn.packet old.full one.between one.after one.hears }

abbrev pub prompts_of : {S : Type 0} → (A : Profile S) (turns : List Turn) (old new : Posture S) → HasTurns A turns old new → List Prompt
prompts_of A [] old new has = []
prompts_of A (turn ∷ turns) old new (mid, one, more) = prompt_of A turn old mid one ∷ prompts_of A turns mid new more

-- Turn for turn it puts out exactly these octets, and stands where these lead.
pub record AreExact {S : Type 0} (A : Profile S) (turns : List Turn) (prompts : List Prompt) (old new : Stand S) : Type 0 where
  pub said : map (λ turn. turn.said) turns ≡ says_along A prompts old
  pub stands : new ≡ stands_behind A prompts old
