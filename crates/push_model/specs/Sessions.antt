-- The two sessions of a server, one for each transport, over one inbox. At most one of them has an object under way
-- (this project's own).
use Rattle.std.specs.Prelude.{Option, ◌≡◌, ℕ, ◌||◌, ◌&&◌, Bool, true, false, List, [], Ok, Err, if◌then◌else◌}
use Rattle.bt_base.specs.declared.settings.Transport.{Transport}
use Rattle.bt_base.specs.declared.settings.Transport.TheVariants.{L2cap, Rfcomm}
use Rattle.bt_base.specs.declared.ports.PortFault.TheVariants as fault
use Rattle.bt_base.specs.Objects.{Contents}
use Rattle.obex_session.specs.InboxCalls.{InboxCall, Answer, come_of, left_by, held_after}
use Rattle.obex_session.specs.Past.{Serving}
use Rattle.obex_session.specs.Rules.{aborts, is_under_way, progress_in}
use Rattle.obex_session.specs.Serving.{kind_heard, has_name, heard_with, ruling_on}
use Rattle.obex_session.specs.Views.{rested, octets_said, is_shortage}

pub record Sessions : Type 0 where
  pub direct : Serving
  pub carried : Serving

-- the session over a transport, and the other one
abbrev pub session_of : Transport → Sessions → Serving
session_of L2cap sessions = sessions.direct
session_of Rfcomm sessions = sessions.carried

abbrev pub other_of : Transport → Transport
other_of L2cap = Rfcomm
other_of Rfcomm = L2cap

abbrev pub with_session : Transport → Serving → Sessions → Sessions
with_session L2cap session sessions = record sessions { direct = session }
with_session Rfcomm session sessions = record sessions { carried = session }

abbrev pub has_object : Serving → Bool
has_object session = is_under_way (progress_in session.course)

abbrev pub is_pending : Sessions → Bool
is_pending sessions = has_object sessions.direct || has_object sessions.carried

-- one object at a time
abbrev pub IsSingle : Sessions → Type 0
IsSingle sessions = (has_object sessions.direct && has_object sessions.carried) ≡ false

-- the inbox in a reaction: what it holds, where it tells it, and the answers that it is to give
pub record Gift : Type 0 where
  pub content : Option Contents
  pub answers : List Answer

-- the calls were made
abbrev pub after_calls : List InboxCall → Gift → Gift
after_calls calls gift = record { content = held_after calls gift.answers gift.content; answers = left_by calls gift.answers }

-- ---- an object is let go

-- the sessions then, whether the inbox was short of memory, and the inbox
pub record Parted : Type 0 where
  pub sessions : Sessions
  pub short : Bool
  pub gift : Gift

abbrev pub is_short : Answer → Bool
is_short (Ok done) = false
is_short (Err fault.Failed) = false
is_short (Err fault.NoMemory) = true

-- no object is under way over the transport, and its session is as a new one
abbrev pub lets_go : Transport → Sessions → Gift → Parted
lets_go transport sessions gift = record {
  sessions = with_session transport (rested (session_of transport sessions)) sessions;
  short = is_short (come_of (aborts (progress_in (session_of transport sessions).course)) gift.answers);
  gift = after_calls (aborts (progress_in (session_of transport sessions).course)) gift;
}

-- ---- a packet is heard

-- the sessions then, the response (none is without octets), whether the inbox was short of memory, and the inbox
pub record Heard : Type 0 where
  pub sessions : Sessions
  pub response : List ℕ
  pub short : Bool
  pub gift : Gift

-- its session hears it
abbrev pub answers_to : Transport → List ℕ → Sessions → Gift → Heard
answers_to transport packet sessions gift =
    let turn = heard_with (session_of transport sessions) packet gift.answers in
    record {
      sessions = with_session transport turn.session sessions;
      response = octets_said packet (session_of transport sessions).maximum turn.saying;
      short = is_shortage turn.saying;
      gift = after_calls (ruling_on (session_of transport sessions) packet).calls gift;
    }

-- a Name over one transport first lets go of an object that is under way over the other
abbrev pub is_naming : Transport → List ℕ → Sessions → Bool
is_naming transport packet sessions = has_name (kind_heard (session_of transport sessions) packet)

abbrev pub hears_after : Transport → List ℕ → Parted → Heard
hears_after transport packet parted =
    if parted.short then record { sessions = parted.sessions; response = []; short = true; gift = parted.gift }
    else answers_to transport packet parted.sessions parted.gift

abbrev pub hears : Transport → List ℕ → Sessions → Gift → Heard
hears transport packet sessions gift =
    if is_naming transport packet sessions then hears_after transport packet (lets_go (other_of transport) sessions gift)
    else answers_to transport packet sessions gift
