-- Requests that come one at a time and are answered, or are passed over in silence, read off what moved on a link alone (IrOBEX 1.5, 3.2: a client sends its
-- next request behind the response to the one before; Generic Object Exchange Profile 2.1, 4.6, for single response mode; Core 5.1, Volume 3 Part A, 5.4 and
-- 7.3).
use Rattle.std.specs.Prelude.{ℕ, suc, ◌≡◌, ◌≤◌, ◌+◌, Bool, true, false, List, [], ◌∷◌, ◌++◌, length, find, Option, Some, None, ◌⊎◌, if◌then◌else◌}
use Rattle.std.specs.List.{AllByRecursion, filter_map}
use Rattle.request_laws.specs.bt_base.specs.declared.settings.Settings.{Settings}
use Rattle.request_laws.specs.bt_base.specs.declared.settings.Transport.TheVariants.{L2cap}
use Rattle.request_laws.specs.capture.specs.declared.flow.Flow.TheVariants.{Out, Into}
use Rattle.request_laws.specs.capture.specs.Histories.{EachAfter}
use Rattle.request_laws.specs.link_talk.specs.declared.channel.Channel.{Channel}
use Rattle.request_laws.specs.link_talk.specs.declared.party.Party.{Party}
use Rattle.request_laws.specs.link_talk.specs.Carriages.{has_own, is_open}
use Rattle.request_laws.specs.link_talk.specs.Channels.{Entry, reading}
use Rattle.request_laws.specs.link_talk.specs.Sayings.{Saying, Carried}
use Rattle.request_laws.specs.link_talk.specs.Sdus.{sdus}
use Rattle.request_laws.specs.obex_session.specs.Calls.{session_behind}
use Rattle.request_laws.specs.obex_session.specs.Past.{Serving}
use Rattle.request_laws.specs.obex_session.specs.Serving.{heard_with}
use Rattle.request_laws.specs.obex_session.specs.Views.{is_silent}
use Rattle.request_laws.specs.push_model.specs.Client.{own_maximum}
use Rattle.request_laws.specs.push_laws.specs.Answers.{said}
use Rattle.request_laws.specs.push_laws.specs.Calls.{new_session}

-- each SDU on a channel that comes is a request, and each one with octets that goes is a response
abbrev pub requests_on : Party → Channel → List Saying → List (List ℕ)
requests_on party channel talk = sdus party channel Into talk

abbrev pub responses_on : Party → Channel → List Saying → List (List ℕ)
responses_on party channel talk = filter_map said (sdus party channel Out talk)

-- ---- which requests have a response

-- the session of a server on its channel over L2CAP, before it heard anything
abbrev pub fresh_session : Settings → Serving
fresh_session settings = new_session (own_maximum L2cap settings) true

-- a request that a session passes over in silence has none
abbrev pub due_for : Serving → List ℕ → ℕ
due_for session request = if is_silent session request then 0 else 1

abbrev pub due_from : Serving → List (List ℕ) → ℕ
due_from session [] = 0
due_from session (request ∷ requests) = due_for session request + due_from (heard_with session request []).session requests

-- how many responses these requests have, each behind those before it
abbrev pub responses_due : Settings → List (List ℕ) → ℕ
responses_due settings requests = due_from (fresh_session settings) requests

-- the last of these requests has one
abbrev pub LastIsDue : Settings → List (List ℕ) → Type 0
LastIsDue settings requests = (past : List (List ℕ)) (request : List ℕ) → requests ≡ past ++ request ∷ [] → is_silent (session_behind (fresh_session settings) past) request ≡ false

-- ---- which requests were taken

-- the talk has the channel; it has opened, and its host has neither asked for its end nor closed it
abbrev pub is_open_by : Option Entry → Bool
is_open_by None = false
is_open_by (Some entry) = is_open entry

abbrev pub is_open_in : Channel → List Saying → Bool
is_open_in channel talk = is_open_by (find (has_own channel) (reading talk).entries)

-- Behind all requests on the channel a PDU goes out, as the acknowledgement of the last one does (Core 5.1, Volume 3 Part A, 8.6.1), while the channel is open
-- still: its host did not close it for what came.
pub record ShowsOpen (party : Party) (talk : List Saying) (channel : Channel) : Type 0 where
  pub past : List Saying
  pub pdu : List ℕ
  pub later : List Saying
  pub talk_is : talk ≡ past ++ Carried Out pdu ∷ later
  pub all_came : requests_on party channel past ≡ requests_on party channel talk
  pub still_open : is_open_in channel past ≡ true

-- the last request has a response, or it is seen that its channel was not closed for it
abbrev pub LastIsTaken : Settings → Party → List Saying → Channel → Type 0
LastIsTaken settings party talk channel = LastIsDue settings (requests_on party channel talk) ⊎ ShowsOpen party talk channel

-- ---- in turn

-- with one saying more at most one response more is due than went before it
abbrev pub ComesBehind : Settings → Party → Channel → List Saying → Saying → Type 0
ComesBehind settings party channel past more = responses_due settings (requests_on party channel (past ++ more ∷ [])) ≤ suc (length (responses_on party channel past))

-- On a channel each request that has a response comes behind the response to the one before; those that came have their responses, and the last of them has
-- one, or it is seen that it was taken.
pub record IsAnswered (settings : Settings) (party : Party) (talk : List Saying) (channel : Channel) : Type 0 where
  pub in_turn : EachAfter (ComesBehind settings party channel) [] talk
  pub each : responses_due settings (requests_on party channel talk) ≤ length (responses_on party channel talk)
  pub last : LastIsTaken settings party talk channel

-- so it is of the channels of object push over L2CAP
abbrev pub AreAnswered : Settings → Party → List Saying → Type 0
AreAnswered settings party talk = AllByRecursion (λ (entry : Entry). entry.channel.psm ≡ 0x1001 → IsAnswered settings party talk entry.channel) (reading talk).entries
