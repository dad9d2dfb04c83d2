-- A server with its parts, and what its calls answer.
use Rattle.std.specs.Prelude.{◌≡◌, ◌≤◌, ℕ, ◌&&◌, not, Bool, List, [], Option, Some, None}
use Rattle.push_model.specs.Payloads.{IsSaid}
use Rattle.push_model.specs.Server.{Server, Reacted, Lent}
use Rattle.push_model.specs.Sessions.{Gift}
use Rattle.push_profile.specs.Hearing.{Suits}
use Rattle.push_profile.specs.declared.server.PushServer.TheInside.{Inside}

abbrev pub server_of : Inside → Server
server_of s = record {
  serves = s.records;
  reply = s.reply.items;
  listener = s.reception.listener;
  mux = s.mux;
  held = s.reception.assembler.held;
  frame = s.frame;
  lent = s.lent;
}

-- the assembler finds the packets that the session takes, and the multiplexer may be begun anew
pub record IsSound (s : Inside) : Type 0 where
  pub suits : Suits s.reception.assembler s.reception.listener
  pub largest : 23 ≤ s.mux.largest

abbrev pub reacted : Server → Gift → Reacted
reacted server gift = record { server = server; gift = gift }

-- a call answered want of memory
abbrev pub has_failed : Server → Bool
has_failed server = server.listener.service.failed

-- this one is the first that did
abbrev pub fails_now : Server → Server → Bool
fails_now old new = not (has_failed old) && has_failed new

-- the PSM of what is lent, and its octets
abbrev pub IsPsmOf : Option Lent → Option ℕ → Type 0
IsPsmOf None psm = psm ≡ None
IsPsmOf (Some lent) psm = psm ≡ Some lent.psm

abbrev pub AreLent : Option Lent → List ℕ → Type 0
AreLent None octets = octets ≡ []
AreLent (Some lent) octets = IsSaid lent.payload octets
