-- A Name comes over one transport of a server while an object is under way over the other: the first call of the inbox is Abort,
-- whatever that answers (this project's own).
use Rattle.std.specs.Prelude.{ℕ, ◌≡◌, true, List, [], ◌∷◌, drop, Err}
use Rattle.std.specs.Option.{option_map}
use Rattle.push_laws.specs.link_talk.specs.bt_base.specs.declared.ports.PortFault.TheVariants.{NoMemory}
use Rattle.push_laws.specs.link_talk.specs.bt_base.specs.declared.settings.Transport.{Transport}
use Rattle.push_laws.specs.link_talk.specs.bt_base.specs.Objects.{aborted}
use Rattle.push_laws.specs.push_model.specs.obex_session.specs.InboxCalls.{Answer, Abort, come_of}
use Rattle.push_laws.specs.push_model.specs.obex_session.specs.Serving.{ruling_on}
use Rattle.push_laws.specs.push_model.specs.obex_session.specs.Views.{rested}
use Rattle.push_laws.specs.push_model.specs.Sessions.{Sessions, Gift, session_of, other_of, with_session, has_object, after_calls, is_naming, hears}

-- What the inbox answers to Abort where that is its next call, and the inbox behind it.
abbrev pub answer_to_abort : Gift → Answer
answer_to_abort gift = come_of (Abort ∷ []) gift.answers

abbrev pub after_abort : Gift → Gift
after_abort gift = after_calls (Abort ∷ []) gift

-- The first call of the inbox at a packet is Abort.
pub record AbortsFirst (transport : Transport) (packet : List ℕ) (sessions : Sessions) (gift : Gift) : Type 0 where
  -- whatever it answers, one answer is used and nothing is pending behind it
  pub aborts : after_abort gift ≡ record { content = option_map aborted gift.content; answers = drop 1 gift.answers }
  -- unless memory was wanting, the calls of the packet itself are made then, up to the first that fails
  pub calls : (answer_to_abort gift ≡ Err NoMemory → ⊥) → (hears transport packet sessions gift).gift ≡ after_calls (ruling_on (session_of transport sessions) packet).calls (after_abort gift)
  -- where memory was wanting no other call is made and nothing is answered: the server has failed, and the other transport has no object
  pub fails : answer_to_abort gift ≡ Err NoMemory → hears transport packet sessions gift ≡ record {
    sessions = with_session (other_of transport) (rested (session_of (other_of transport) sessions)) sessions;
    response = [];
    short = true;
    gift = after_abort gift;
  }

-- So a Name does over one transport while an object is under way over the other.
abbrev pub NamesAbortFirst : Type 0
NamesAbortFirst = (transport : Transport) (packet : List ℕ) (sessions : Sessions) (gift : Gift) → is_naming transport packet sessions ≡ true → has_object (session_of (other_of transport) sessions) ≡ true
    → AbortsFirst transport packet sessions gift
