-- A tiny host as the world sees it: its mind above its line (this project's own).
use Rattle.std.specs.Prelude.{ℕ, ◌≡◌, ◌&&◌, true, false, List, [], is_some}
use Rattle.push_terms.specs.declared.word.Side.{Side}
use Rattle.h4_framing.specs.Packets.{Packet}
use Rattle.host_link.specs.Lines.{Line}
use Rattle.host_link.specs.Hearing.{PlainNews, Nothing, LinkUp, LinkFailed, LinkDown, Pdu}
use Rattle.host_link.specs.PuttingOut.{has_room, has_buffer, is_waiting}
use Rattle.line_laws.specs.world_model.specs.Machines.{Linked, Up, Down, Failed, Heard, Upper}
use Rattle.line_laws.specs.world_model.specs.Stations.{Effort, Station}
use Rattle.radio_world.specs.Hosts.{Asking, Coming, coming_packet, hears_coming, MayBeHeard, MakesEfforts}
use Rattle.line_laws.specs.Seeing.{seen, IsSeen, IsSpent}
use Rattle.tiny_hosts.specs.Minds.{Unasked}

-- its mind, its line, and the octets of a packet that is not whole
pub record Tiny (M : Type 0) : Type 0 where
  pub mind : M
  pub line : Line
  pub held : List ℕ

-- nothing is asked, so it is the same whatever is answered
abbrev pub asking : {M : Type 0} → M → Line → Asking M Unasked
asking mind line = seen (λ answers. mind) line

-- it did what its station does by itself, and is one that its octets tell of
pub record GoesOn {M : Type 0} (U : Upper M Unasked) (side : Side) (mind mind' : M) (line line' : Line) : Type 0 where
  pub is_seen : IsSeen side mind' line'
  pub efforts : List Effort
  pub makes : MakesEfforts U side efforts (seen mind line) (seen mind' line')

-- a command more may wait, and the link may be ended; all else is as it was
abbrev pub WaitsMore : Line → Line → Type 0
WaitsMore line line' = line' ≡ record line { commands = line'.commands; ending = line'.ending }

-- no piece that waits can be put out
abbrev pub IsStuck : Line → Type 0
IsStuck line = is_some line.link ≡ true → (has_room line && has_buffer line && is_waiting line) ≡ false

-- Between two calls its octets tell of it; where none waits to be taken, it has done all that it can.
pub record IsReady {M : Type 0} (U : Upper M Unasked) (side : Side) (mind : M) (line : Line) : Type 0 where
  pub is_seen : IsSeen side mind line
  pub spent : line.out ≡ [] → IsSpent U side mind line

-- what a mind makes of what its line heard, whatever is answered
abbrev pub told_by : {M : Type 0} → Upper M Unasked → List Unasked → PlainNews → M → M
told_by U answers Nothing mind = mind
told_by U answers LinkUp mind = U.hear answers (Linked Up) mind
told_by U answers (LinkFailed status) mind = U.hear answers (Failed status) mind
told_by U answers (LinkDown reason) mind = U.hear answers (Linked (Down reason)) mind
told_by U answers (Pdu channel octets) mind = U.hear answers (Heard octets) mind

abbrev pub IsTold : {M : Type 0} → Upper M Unasked → PlainNews → (mind mind' : M) → Type 0
IsTold U news mind mind' = (answers : List Unasked) → mind' ≡ told_by U answers news mind

-- it hears what comes, and goes on
abbrev pub HearsComing : {M : Type 0} → Upper M Unasked → Side → Packet → (mind mind' : M) → (line line' : Line) → Type 0
HearsComing {M} U side packet mind mind' line line' =
    (coming : Coming) → IsSeen side mind line → MayBeHeard (seen mind line) coming → packet ≡ coming_packet side coming
    → IsReady U side mind' line' × (efforts : List Effort) × ((answers : List Unasked) → MakesEfforts U side efforts (hears_coming U side coming answers (seen mind line)) (seen mind' line'))

-- no port is asked
abbrev pub Unaltered : {P : Type 0} → P → List Unasked → P → Type 0
Unaltered port answers port' = (answers ≡ []) × (port' ≡ port)
