-- What happens to a server of Object Push, one thing after the other: what comes and goes on its channels, what is closed,
-- and what its inbox answers (Object Push Profile 1.2, 4.3).
use Rattle.std.specs.Prelude.{ℕ, ◌≡◌, List, [], ◌∷◌, Option, Some}
use Rattle.link_talk.specs.bt_base.specs.declared.settings.Settings.{Settings}
use Rattle.link_talk.specs.bt_base.specs.Objects.{Contents}
use Rattle.link_talk.specs.bt_base.specs.Octets.{IsOctets}
use Rattle.push_model.specs.obex_session.specs.InboxCalls.{Answer}
use Rattle.push_model.specs.Sessions.{Gift}
use Rattle.push_model.specs.Payloads.{IsSaid}
use Rattle.push_model.specs.Server.{Server, Reacted, Lent, new_server, on_sdu, channel_down, link_down, lends, lent_sdu, stepped}

pub data Occurrence : Type 0 where
  -- an SDU came on a channel to that PSM; or one went out on it, for the channel took what was lent
  Came : (psm : ℕ) (sdu : List ℕ) → Occurrence
  Went : (psm : ℕ) (sdu : List ℕ) → Occurrence
  -- a channel to that PSM was closed; the link went down
  Closed : (psm : ℕ) → Occurrence
  LinkDown : Occurrence
  -- the server was asked for the SDU that it sends next
  Asked : Occurrence
  -- the inbox will answer so, in place of the answers that it was to give
  Answering : (answers : List Answer) → Occurrence

abbrev pub answering : List Answer → Gift → Gift
answering answers inbox = record inbox { answers = answers }

-- the server and its inbox after one of them
abbrev pub done : Occurrence → Reacted → Reacted
done (Came psm sdu) at = on_sdu psm sdu at.server at.gift
done (Went psm sdu) at = record at { server = stepped at.server }
done (Closed psm) at = channel_down psm at.server at.gift
done LinkDown at = link_down at.server at.gift
done Asked at = record at { server = lends at.server }
done (Answering answers) at = record at { gift = answering answers at.gift }

abbrev pub all_done : List Occurrence → Reacted → Reacted
all_done [] at = at
all_done (one ∷ rest) at = all_done rest (done one at)

-- a new server, over an inbox that holds this
abbrev pub begun : Settings → Option Contents → Reacted
begun settings content = record { server = new_server settings; gift = record { content = content; answers = [] } }

-- ---- what goes is what was lent

abbrev pub IsLent : (psm : ℕ) (sdu : List ℕ) → Server → Type 0
IsLent psm sdu server = (lent : Lent) × (lent_sdu server ≡ Some lent) × (lent.psm ≡ psm) × IsSaid lent.payload sdu × IsOctets sdu

abbrev pub IsOwn : Occurrence → Server → Type 0
IsOwn (Came psm sdu) server = Unit {0}
IsOwn (Went psm sdu) server = IsLent psm sdu server
IsOwn (Closed psm) server = Unit {0}
IsOwn LinkDown server = Unit {0}
IsOwn Asked server = Unit {0}
IsOwn (Answering answers) server = Unit {0}
