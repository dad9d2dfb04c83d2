-- Requests that come one at a time over L2CAP, read off what came and went (IrOBEX 1.5, 3.2: a client sends its next request
-- behind the response to the one before; Generic Object Exchange Profile 2.1, 4.6, for what is passed over in silence).
use Rattle.std.specs.Prelude.{ℕ, ◌≡◌, ◌==◌, ◌&&◌, ◌||◌, not, Bool, true, false, List, [], ◌∷◌, ◌++◌, if◌then◌else◌}
use Rattle.link_talk.specs.bt_base.specs.declared.settings.Settings.{Settings}
use Rattle.link_talk.specs.bt_base.specs.declared.settings.Transport.TheVariants.{L2cap}
use Rattle.link_talk.specs.bt_base.specs.Objects.{Object}
use Rattle.push_model.specs.obex_session.specs.Calls.{session_behind}
use Rattle.push_model.specs.obex_session.specs.Past.{Serving}
use Rattle.push_model.specs.obex_session.specs.Views.{is_silent}
use Rattle.push_model.specs.Client.{own_maximum}
use Rattle.push_model.specs.Server.{Reacted, object_psm, rfcomm_psm}
use Rattle.push_laws.specs.Calls.{new_session}
use Rattle.push_laws.specs.Laws.{new_over}
use Rattle.push_laws.specs.Occurrences.{Occurrence, Came, Went, Closed, LinkDown, Asked, Answering, done, IsOwn}
use Rattle.push_laws.specs.Premises.{AllGranted, AnswersAre, AllMayCome}
use Rattle.push_laws.specs.Readings.{packets_over}

-- the session that the packets heard over L2CAP leave behind
abbrev pub serving : Settings → List Occurrence → Serving
serving settings past = session_behind (new_session (own_maximum L2cap settings) true) (packets_over L2cap past)

-- a packet has no response behind them
abbrev pub in_silence : Settings → List Occurrence → List ℕ → Bool
in_silence settings past packet = is_silent (serving settings past) packet

-- with one occurrence more a response is due that has not gone
abbrev pub due_behind : Settings → List Occurrence → Bool → Occurrence → Bool
due_behind settings past due (Came psm sdu) = due || ((psm == object_psm) && not (in_silence settings past sdu))
due_behind settings past due (Went psm sdu) = if psm == object_psm then false else due
due_behind settings past due (Closed psm) = if psm == object_psm then false else due
due_behind settings past due LinkDown = false
due_behind settings past due Asked = due
due_behind settings past due (Answering answers) = due

-- Nothing comes to the multiplexer, and each request comes when no response is due, unless it has none itself.
abbrev pub InTurn : Settings → List Occurrence → Bool → Occurrence → Type 0
InTurn settings past due (Came psm sdu) = (psm ≡ rfcomm_psm → ⊥) × (psm ≡ object_psm → (due && not (in_silence settings past sdu)) ≡ false)
InTurn settings past due (Went psm sdu) = Unit {0}
InTurn settings past due (Closed psm) = Unit {0}
InTurn settings past due LinkDown = Unit {0}
InTurn settings past due Asked = Unit {0}
InTurn settings past due (Answering answers) = Unit {0}

-- so it comes, what goes was lent, and the inbox grants all calls
pub record TakesTurn (settings : Settings) (past : List Occurrence) (due : Bool) (at : Reacted) (one : Occurrence) : Type 0 where
  pub own : IsOwn one at.server
  pub granted : AnswersAre AllGranted one
  pub turn : InTurn settings past due one

abbrev pub AllTakeTurns : Settings → List Occurrence → Bool → Reacted → List Occurrence → Type 0
AllTakeTurns settings past due at [] = Unit {0}
AllTakeTurns settings past due at (one ∷ rest) = TakesTurn settings past due at one × AllTakeTurns settings (past ++ one ∷ []) (due_behind settings past due one) (done one at) rest

-- Then no request is ignored, and all else holds that the other laws ask of what may come.
abbrev pub NoRequestIsIgnored : Type 0
NoRequestIsIgnored = (settings : Settings) (before : List Object) (occurrences : List Occurrence) → AllTakeTurns settings [] false (new_over settings before) occurrences
    → AllMayCome settings [] (new_over settings before) occurrences
