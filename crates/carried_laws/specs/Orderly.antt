-- A client over RFCOMM that keeps to the rules, one frame behind the other, and then a server loses nothing of what comes (TS 07.10, 5.4; RFCOMM 1.2, 5 and
-- 6.5; IrOBEX 1.5, 3.1 and 3.2; Object Push Profile 1.2, 4.3).
use Rattle.std.specs.Prelude.{ℕ, ◌+◌, ◌≡◌, ◌≤◌, Bool, true, false, List, [], ◌∷◌, ◌++◌, length, Ok}
use Rattle.std.specs.List.{AllByRecursion, filter_map, flat_map}
use Rattle.push_laws.specs.link_talk.specs.bt_base.specs.declared.settings.Settings.{Settings}
use Rattle.push_laws.specs.link_talk.specs.bt_base.specs.declared.settings.Transport.TheVariants.{Rfcomm}
use Rattle.push_laws.specs.link_talk.specs.bt_base.specs.Objects.{Object}
use Rattle.push_laws.specs.link_talk.specs.bt_base.specs.Octets.{IsOctets}
use Rattle.push_laws.specs.link_talk.specs.capture.specs.Histories.{EachAfter}
use Rattle.push_laws.specs.push_model.specs.rfcomm_frames.specs.declared.connection.Role.{Role}
use Rattle.push_laws.specs.push_model.specs.rfcomm_frames.specs.declared.connection.Role.TheVariants.{Initiator, Responder}
use Rattle.push_laws.specs.push_model.specs.rfcomm_frames.specs.declared.frame.MuxKind.{MuxKind}
use Rattle.push_laws.specs.push_model.specs.rfcomm_frames.specs.declared.frame.MuxKind.TheVariants.{Sabm, Ua, Dm, Disc, Uih}
use Rattle.push_laws.specs.push_model.specs.rfcomm_frames.specs.Frames.{PlainFrame}
use Rattle.push_laws.specs.push_model.specs.rfcomm_frames.specs.FrameReading.{frame_answer, messages}
use Rattle.push_laws.specs.push_model.specs.rfcomm_frames.specs.Multiplexing.{Passed}
use Rattle.push_laws.specs.push_model.specs.rfcomm_frames.specs.ObexPackets.{stated_size, obex_packets}
use Rattle.push_laws.specs.push_model.specs.rfcomm_frames.specs.UserChannel.{user_octets}
use Rattle.push_laws.specs.push_model.specs.rfcomm_model.specs.Sides.{asks_of}
use Rattle.push_laws.specs.push_model.specs.obex_headers.specs.declared.packet.Phase.TheVariants.{Request}
use Rattle.push_laws.specs.push_model.specs.obex_headers.specs.Reading.{packet_in}
use Rattle.push_laws.specs.push_model.specs.Client.{own_maximum}
use Rattle.push_laws.specs.push_model.specs.Listening.{has_bad_length}
use Rattle.push_laws.specs.push_model.specs.Server.{Reacted, rfcomm_psm}
use Rattle.push_laws.specs.rfcomm_laws.specs.Messages.{IsAllowed}
use Rattle.push_laws.specs.rfcomm_laws.specs.Totals.{bonus_of, cost_of}
use Rattle.push_laws.specs.Dialogs.{NoPacket}
use Rattle.push_laws.specs.Laws.{new_over}
use Rattle.push_laws.specs.Occurrences.{Occurrence, Came, done, IsOwn}
use Rattle.push_laws.specs.Premises.{AllGranted, AnswersAre, AllMayCome, leaves_or_controls}
use Rattle.push_laws.specs.Readings.{since, passed_by, user_dlci}
use Rattle.carried_laws.specs.Standing.{standing}

-- ---- frames

-- the client asks for the user channel once the server accepted its terms; UA and DM answer nothing of the server, which sends no SABM and no DISC; and of
-- messages on the control channel each may come that the server does not refuse
abbrev pub Keeps : Bool → MuxKind → PlainFrame → Type 0
Keeps agreed Sabm f = f.dlci ≡ user_dlci → agreed ≡ true
Keeps agreed Ua f = Unit {0}
Keeps agreed Dm f = Unit {0}
Keeps agreed Disc f = Unit {0}
Keeps agreed Uih f = f.dlci ≡ 0 → AllByRecursion (IsAllowed user_dlci) (messages f.octets)

-- ---- packets

-- the requests, and the responses, of which some octets passed
abbrev pub requests_in : List Passed → List (List ℕ)
requests_in passed = obex_packets (user_octets user_dlci Responder Initiator passed)

abbrev pub responses_in : List Passed → List (List ℕ)
responses_in passed = obex_packets (standing passed).sent

-- what begins behind the whole packets of a stream states a length that a packet may have
abbrev pub BeginsWell : ℕ → List ℕ → Type 0
BeginsWell most stream = (rest : List ℕ) → stream ≡ flat_map (λ (packet : List ℕ). packet) (obex_packets stream) ++ rest → 3 ≤ length rest → (3 ≤ stated_size rest) × (stated_size rest ≤ most)

-- With an SDU one request ends at most, whose length is not refused, and each one before it has its response.
pub record AsksInTurn (settings : Settings) (past : List Passed) (sdu : List ℕ) : Type 0 where
  pub new : List (List ℕ)
  pub new_are : requests_in (past ++ record { from = Initiator; sdu = sdu } ∷ []) ≡ requests_in past ++ new
  pub single : length new ≤ 1
  pub lengths : AllByRecursion (λ packet. has_bad_length (packet_in Request (own_maximum Rfcomm settings) packet) ≡ false) new
  pub answered : AllByRecursion (λ packet. length (requests_in past) ≤ length (responses_in past)) new
  pub begins : BeginsWell (own_maximum Rfcomm settings) (user_octets user_dlci Responder Initiator (past ++ record { from = Initiator; sdu = sdu } ∷ []))

-- ---- both

-- An SDU of the client comes in order behind what passed: it is a frame that keeps to the rules; each SABM and DISC, and each PN for another channel, was
-- answered, unless it is DISC or has messages for the control channel; no more than 15 answers are owed; it has a credit for its information, and the server's
-- credits stay within 65,535; and it asks in turn.
pub record ComesInOrder (settings : Settings) (past : List Passed) (sdu : List ℕ) : Type 0 where
  pub octets : IsOctets sdu
  pub frame : PlainFrame
  pub read : frame_answer sdu ≡ Ok frame
  pub keeps : Keeps (standing past).agreed frame.kind frame
  pub answered : leaves_or_controls frame ≡ false → (standing past).asked ≡ 0
  pub few : (standing past).owed + asks_of frame.kind frame ≤ 15
  pub paid : (standing past).client_spent + cost_of frame ≤ (standing past).client_granted
  pub fits : (standing past).server_granted + bonus_of user_dlci frame ≤ 65535 + (standing past).server_spent
  pub asks : AsksInTurn settings past sdu

-- so it is of each SDU of the client among those that passed
abbrev pub ComesNext : Settings → Role → List Passed → List ℕ → Type 0
ComesNext settings Initiator past sdu = ComesInOrder settings past sdu
ComesNext settings Responder past sdu = Unit {0}

abbrev pub IsInOrder : Settings → List Passed → Type 0
IsInOrder settings passed = EachAfter (λ (past : List Passed) (p : Passed). ComesNext settings p.from past p.sdu) [] passed

-- ---- the law

-- what passed on the channel of the multiplexers since it was last closed
abbrev pub passed_on : List Occurrence → List Passed
passed_on past = filter_map passed_by (since rfcomm_psm past)

-- what goes is what the server lends, its inbox grants all, nothing comes over L2CAP, and what comes to the multiplexer comes in order
pub record ServesOrderly (settings : Settings) (past : List Occurrence) (at : Reacted) (one : Occurrence) : Type 0 where
  pub own : IsOwn one at.server
  pub granted : AnswersAre AllGranted one
  pub aside : NoPacket one
  pub orderly : (sdu : List ℕ) → one ≡ Came rfcomm_psm sdu → ComesInOrder settings (passed_on past) sdu

abbrev pub AllServeOrderly : Settings → List Occurrence → Reacted → List Occurrence → Type 0
AllServeOrderly settings past at [] = Unit {0}
AllServeOrderly settings past at (one ∷ rest) = ServesOrderly settings past at one × AllServeOrderly settings (past ++ one ∷ []) (done one at) rest

-- Then no request is ignored, each frame finds room for its answers, and the multiplexer refuses nothing.
abbrev pub OrderlyMayCome : Type 0
OrderlyMayCome = (settings : Settings) (before : List Object) (occurrences : List Occurrence) → AllServeOrderly settings [] (new_over settings before) occurrences → AllMayCome settings [] (new_over settings before) occurrences
