-- One object at a time is under way over both transports of a server (this project's own).
use Rattle.std.specs.Prelude.{ℕ, ◌≡◌, true, false, List, ◌∷◌, Option}
use Rattle.link_talk.specs.bt_base.specs.declared.settings.Settings.{Settings}
use Rattle.link_talk.specs.bt_base.specs.declared.settings.Transport.{Transport}
use Rattle.link_talk.specs.bt_base.specs.Objects.{Contents}
use Rattle.push_model.specs.obex_session.specs.InboxCalls.{Abort}
use Rattle.push_model.specs.obex_session.specs.Serving.{ruling_on}
use Rattle.push_model.specs.Sessions.{Sessions, Gift, session_of, other_of, has_object, IsSingle, after_calls, is_naming, hears}
use Rattle.push_laws.specs.Occurrences.{Occurrence, all_done, begun}
use Rattle.push_laws.specs.Premises.{AllGranted}

-- The inbox is told to abort the object of the other transport, and then what the packet asks for. Whatever it answers, no
-- object is under way over the other transport then.
pub record AbortsTheOther (transport : Transport) (packet : List ℕ) (sessions : Sessions) (gift : Gift) : Type 0 where
  pub calls : AllGranted gift.answers → (hears transport packet sessions gift).gift ≡ after_calls (Abort ∷ (ruling_on (session_of transport sessions) packet).calls) gift
  pub idle : has_object (session_of (other_of transport) (hears transport packet sessions gift).sessions) ≡ false

-- So a server does that hears a Name over one transport while an object is under way over the other.
abbrev pub NamesAbortTheOther : Type 0
NamesAbortTheOther = (transport : Transport) (packet : List ℕ) (sessions : Sessions) (gift : Gift) → is_naming transport packet sessions ≡ true → has_object (session_of (other_of transport) sessions) ≡ true
    → AbortsTheOther transport packet sessions gift

-- From a new server on one transport at most has an object under way, whatever comes and whatever the inbox answers.
abbrev pub OneIsUnderWay : Type 0
OneIsUnderWay = (settings : Settings) (content : Option Contents) (occurrences : List Occurrence) → IsSingle (all_done occurrences (begun settings content)).server.listener.service.sessions
