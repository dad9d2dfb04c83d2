-- That no call of an inbox lacked memory whose server has not failed (this project's own).
use Rattle.std.specs.Prelude.{◌≡◌, ℕ, false, List, Err}
use Rattle.std.specs.List.{AllByRecursion}
use Rattle.bt_base.specs.declared.ports.PortFault.TheVariants.{NoMemory}
use Rattle.obex_session.specs.InboxCalls.{Answer}
use Rattle.push_model.specs.Sessions.{Gift}
use Rattle.push_model.specs.Server.{Server, Reacted, on_sdu, channel_down, link_down}

abbrev pub HadMemory : Answer → Type 0
HadMemory answer = answer ≡ Err NoMemory → ⊥

-- Where the server has not failed behind what came, and none of the answers that are left is want of memory, none was before.
abbrev pub LackedNone : Gift → Reacted → Type 0
LackedNone before after = after.server.listener.service.failed ≡ false → AllByRecursion HadMemory after.gift.answers → AllByRecursion HadMemory before.answers

-- So it is where an SDU comes, where a channel closes, and where the link goes down.
pub record UnfailedLackedNone : Type 0 where
  pub sdu : (psm : ℕ) (sdu : List ℕ) (server : Server) (gift : Gift) → LackedNone gift (on_sdu psm sdu server gift)
  pub channel : (psm : ℕ) (server : Server) (gift : Gift) → LackedNone gift (channel_down psm server gift)
  pub link : (server : Server) (gift : Gift) → LackedNone gift (link_down server gift)
