-- What a server of Object Push makes of packets: its sessions, and the response that waits (this project's own).
use Rattle.std.specs.Prelude.{◌||◌, ◌&&◌, not, ℕ, Bool, false, List, [], ◌∷◌, drop, if◌then◌else◌}
use Rattle.bt_base.specs.declared.settings.Transport.{Transport}
use Rattle.bt_base.specs.declared.settings.Transport.TheVariants.{L2cap, Rfcomm}
use Rattle.rfcomm_frames.specs.FrameReading.{is_empty}
use Rattle.obex_session.specs.declared.course.Course.TheVariants.{Rests}
use Rattle.obex_session.specs.Views.{is_silent}
use Rattle.push_model.specs.Sessions.{Sessions, Gift, Parted, Heard, session_of, lets_go, hears}

pub record Service : Type 0 where
  pub sessions : Sessions
  -- the response over L2CAP that waits, and what the multiplexer has not taken of the one over RFCOMM; none is without octets
  pub response : List ℕ
  pub answer : List ℕ
  -- a call answered want of memory
  pub failed : Bool

-- the service after a call, and the inbox
pub record Served : Type 0 where
  pub service : Service
  pub gift : Gift

-- one response waits at a time, over both transports
abbrev pub has_response : Service → Bool
has_response service = not (is_empty service.response) || not (is_empty service.answer)

-- The new response takes the place of one that waits: that is so only where a call of the inbox failed at a packet that
-- would have been heard in silence.
abbrev pub response_over : Transport → List ℕ → Service → Service
response_over transport [] service = service
response_over L2cap (octet ∷ octets) service = record service { response = octet ∷ octets }
response_over Rfcomm (octet ∷ octets) service = record service { answer = octet ∷ octets }

abbrev pub after_heard : Transport → Service → Heard → Served
after_heard transport service heard = record {
  service = response_over transport heard.response (record service { sessions = heard.sessions; failed = service.failed || heard.short });
  gift = heard.gift;
}

abbrev pub after_parted : Service → Parted → Served
after_parted service parted = record {
  service = record service { sessions = parted.sessions; failed = service.failed || parted.short };
  gift = parted.gift;
}

-- A packet whose response would be one too many is ignored as if it were lost; its session lets go of its object.
abbrev pub is_ignored : Transport → List ℕ → Service → Bool
is_ignored transport packet service = has_response service && not (is_silent (session_of transport service.sessions) packet)

abbrev pub hears_packet : Transport → List ℕ → Service → Gift → Served
hears_packet transport packet service gift =
    if is_ignored transport packet service then after_parted service (lets_go transport service.sessions gift)
    else after_heard transport service (hears transport packet service.sessions gift)

-- the session over a transport lets go of its object
abbrev pub parts : Transport → Service → Gift → Served
parts transport service gift = after_parted service (lets_go transport service.sessions gift)

-- ---- what waits

abbrev pub without_response : Service → Service
without_response service = record service { response = [] }

abbrev pub without_answer : Service → Service
without_answer service = record service { answer = [] }

-- so many octets of the response over RFCOMM were taken
abbrev pub answer_cut : ℕ → Service → Service
answer_cut count service = record service { answer = drop count service.answer }

-- Nothing was heard. The session over L2CAP alone may offer single response mode.
abbrev pub new_service : (direct carried : ℕ) → Bool → Service
new_service direct carried offered = record {
  sessions = record { direct = record { maximum = direct; offered = offered; course = Rests }; carried = record { maximum = carried; offered = false; course = Rests } };
  response = [];
  answer = [];
  failed = false;
}
