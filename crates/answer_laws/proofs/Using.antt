-- A server uses up the answers of its inbox: what is so of those that are left, and of whether it has failed, stays so.
use Rattle.std.proofs.Common.{◌≡◌, ◌==◌, ◌||◌, ℕ, zero, suc, Bool, true, false, List, [], ◌∷◌, ◌++◌, length, take, Ok, Err, refl, sym, subst, if◌then◌else◌}
use Rattle.std.proofs.Math.Bool.{or-false}
use Rattle.bt_base.specs.declared.ports.PortFault.TheVariants.{Failed, NoMemory}
use Rattle.bt_base.specs.declared.settings.Transport.{Transport}
use Rattle.bt_base.specs.declared.settings.Transport.TheVariants.{L2cap, Rfcomm}
use Rattle.obex_session.specs.InboxCalls.{InboxCall, Answer, come_of, left_by}
use Rattle.obex_session.specs.Past.{Serving}
use Rattle.obex_session.specs.Rules.{aborts, progress_in}
use Rattle.obex_session.specs.Serving.{ruling_on, kind_heard, verdict_or}
use Rattle.obex_session.specs.Turns.{said_after}
use Rattle.obex_session.specs.Views.{is_shortage}
use Rattle.obex_session.proofs.GrantedLaws.{spoken}
use Rattle.rfcomm_frames.specs.FrameReading.{is_empty}
use Rattle.sdp_server.specs.Replies.{reply_to}
use Rattle.rfcomm_model.specs.Hearing.{Up as Muxed, nothing, opened, bytes, closed, up}
use Rattle.rfcomm_model.specs.Hearing as hearing
use Rattle.push_model.specs.Sessions.{Sessions, Gift, Parted, Heard as Answered, session_of, other_of, lets_go, is_short, is_naming, answers_to, hears_after, hears}
use Rattle.push_model.specs.Service.{Service, Served, response_over, is_ignored, after_heard, after_parted, hears_packet}
use Rattle.push_model.specs.Streams.{Front, Whole, Partial, Broken, front_of}
use Rattle.push_model.specs.Listening.{Listener, Heeded, Received, heeds, heeds_carried, stops, received, hears_on, hears_front, hears_stream}
use Rattle.push_model.specs.Server.{Server, Reacted, rfcomm_psm, object_psm, search_psm, reply_room, hears_search, hears_octets, hears_up, received_by, reacted_by, lets_go_on, lets_go_twice, remuxed, unreplied, unanswered, on_sdu, channel_down, link_down}

pub either : {X : Type 0} (F : X → Type 0) (test : Bool) (x y : X) → F x → F y → F (if test then x else y)
either F true x y one two = one
either F false x y one two = two

-- what is said of a packet is want of memory exactly where its calls come to that
short_so : (session : Serving) (packet : List ℕ) (come : Answer) → is_shortage (said_after session.offered session.course (kind_heard session packet) (verdict_or (ruling_on session packet).verdict come)) ≡ is_short come
short_so session packet (Ok done) = spoken session.offered session.course (kind_heard session packet) (ruling_on session packet).verdict
short_so session packet (Err Failed) = refl
short_so session packet (Err NoMemory) = refl

-- a response takes its place, and nothing fails by that
failed_so : (transport : Transport) (response : List ℕ) (service : Service) → (response_over transport response service).failed ≡ service.failed
failed_so transport [] service = refl
failed_so L2cap (octet ∷ octets) service = refl
failed_so Rfcomm (octet ∷ octets) service = refl

module _ (Q : Bool → List Answer → Type 0) (left : (failed : Bool) (calls : List InboxCall) (answers : List Answer) → Q failed answers → Q (failed || is_short (come_of calls answers)) (left_by calls answers)) where
  -- it is so of whether one has failed, and of what is left of the answers of its inbox
  abbrev Holds : Bool → Gift → Type 0
  Holds failed gift = Q failed gift.answers

  -- ---- packets

  abbrev Answers : Bool → Answered → Type 0
  Answers failed one = Holds (failed || one.short) one.gift

  gone : (failed : Bool) (transport : Transport) (sessions : Sessions) (gift : Gift) → Holds failed gift → Holds (failed || (lets_go transport sessions gift).short) (lets_go transport sessions gift).gift
  gone failed transport sessions gift so = left failed (aborts (progress_in (session_of transport sessions).course)) gift.answers so

  answered : (failed : Bool) (transport : Transport) (packet : List ℕ) (sessions : Sessions) (gift : Gift) → Holds failed gift → Answers failed (answers_to transport packet sessions gift)
  answered failed transport packet sessions gift so =
      let session = session_of transport sessions in
      let ruling = ruling_on session packet in
      subst (λ (short : Bool). Q (failed || short) (left_by ruling.calls gift.answers)) (sym (short_so session packet (come_of ruling.calls gift.answers)))
      (left failed ruling.calls gift.answers so)

  heard_after : (failed : Bool) (transport : Transport) (packet : List ℕ) (sessions : Sessions) (short : Bool) (gift : Gift) → Holds (failed || short) gift
      → (let parted : Parted = record { sessions = sessions; short = short; gift = gift } in Answers failed (hears_after transport packet parted))
  heard_after failed transport packet sessions true gift so = so
  heard_after failed transport packet sessions false gift so = answered failed transport packet sessions gift (subst (λ (b : Bool). Holds b gift) (or-false failed) so)

  heard : (failed : Bool) (transport : Transport) (packet : List ℕ) (sessions : Sessions) (gift : Gift) → Holds failed gift → Answers failed (hears transport packet sessions gift)
  heard failed transport packet sessions gift so =
      let parted = lets_go (other_of transport) sessions gift in
      either (Answers failed) (is_naming transport packet sessions) (hears_after transport packet parted) (answers_to transport packet sessions gift)
      (heard_after failed transport packet parted.sessions parted.short parted.gift (gone failed (other_of transport) sessions gift so)) (answered failed transport packet sessions gift so)

  abbrev Serves : Served → Type 0
  Serves served = Holds served.service.failed served.gift

  packet_heard : (transport : Transport) (packet : List ℕ) (service : Service) (gift : Gift) → Holds service.failed gift → Serves (hears_packet transport packet service gift)
  packet_heard transport packet service gift so =
      let one = hears transport packet service.sessions gift in
      let next : Service = record service { sessions = one.sessions; failed = service.failed || one.short } in
      either Serves (is_ignored transport packet service) (after_parted service (lets_go transport service.sessions gift)) (after_heard transport service one)
      (gone service.failed transport service.sessions gift so)
      (subst (λ (b : Bool). Holds b one.gift) (sym (failed_so transport one.response next)) (heard service.failed transport packet service.sessions gift so))

  -- ---- the stream of packets over RFCOMM

  abbrev Hears : Listener → Gift → Type 0
  Hears listener gift = Holds listener.service.failed gift

  abbrev Receives : Received → Type 0
  Receives received = Hears received.listener received.gift

  on_heard : (more : Listener → Gift → Received) (heeded : Heeded) → ((listener : Listener) (gift : Gift) → Hears listener gift → Receives (more listener gift)) → Hears heeded.listener heeded.gift → Receives (hears_on more heeded)
  on_heard more heeded goes so = either Receives (stops heeded.listener) (received [] heeded) (more heeded.listener heeded.gift) so (goes heeded.listener heeded.gift so)

  front_heard : (more : List ℕ → Listener → Gift → Received) (stream : List ℕ) (front : Front) (listener : Listener) (gift : Gift) → ((rest : List ℕ) (next : Listener) (after : Gift) → Hears next after → Receives (more rest next after)) → Hears listener gift
      → Receives (hears_front more stream front listener gift)
  front_heard more stream (Whole packet rest) listener gift goes so = on_heard (more rest) (heeds_carried packet listener gift) (goes rest) (packet_heard Rfcomm packet listener.service gift so)
  front_heard more stream Partial listener gift goes so = so
  front_heard more stream (Broken refusal) listener gift goes so = packet_heard Rfcomm (take 3 stream) listener.service gift so

  stream_heard : (steps : ℕ) (stream : List ℕ) (listener : Listener) (gift : Gift) → Hears listener gift → Receives (hears_stream steps stream listener gift)
  unfolding hears_stream
  stream_heard zero stream listener gift so = so
  stream_heard (suc steps) stream listener gift so =
      front_heard (λ rest next after. hears_stream steps rest next after) stream (front_of listener.service.sessions.carried.maximum stream) listener gift (λ rest next after on. stream_heard steps rest next after on) so

  -- ---- a server

  abbrev pub IsSo : Server → Gift → Type 0
  IsSo server gift = Hears server.listener gift

  abbrev pub Reacts : Reacted → Type 0
  Reacts reacted = IsSo reacted.server reacted.gift

  octets_heard : (octets : List ℕ) (server : Server) (gift : Gift) → IsSo server gift → Reacts (hears_octets octets server gift)
  octets_heard octets server gift so =
      let stream = server.held ++ octets in
      let same : Reacted = record { server = server; gift = gift } in
      either Reacts server.listener.breaks same (received_by server (hears_stream (length stream) stream server.listener gift)) so (stream_heard (length stream) stream server.listener gift so)

  up_heard : (one : Muxed) (server : Server) (gift : Gift) → IsSo server gift → Reacts (hears_up one server gift)
  up_heard nothing server gift so = so
  up_heard opened server gift so = so
  up_heard (bytes octets) server gift so = octets_heard octets server gift so
  up_heard (closed reason) server gift so = so

  search_heard : (sdu : List ℕ) (server : Server) (gift : Gift) → IsSo server gift → IsSo (hears_search sdu server) gift
  search_heard sdu server gift so = either (λ (s : Server). IsSo s gift) (is_empty server.reply) (record server { reply = reply_to server.serves reply_room sdu }) server so so

  pub sdu_heard : (psm : ℕ) (sdu : List ℕ) (server : Server) (gift : Gift) → IsSo server gift → Reacts (on_sdu psm sdu server gift)
  sdu_heard psm sdu server gift so =
      let same : Reacted = record { server = server; gift = gift } in
      let muxed : Reacted = hears_up (up sdu server.mux) (record server { mux = hearing.hears sdu server.mux }) gift in
      let direct : Reacted = reacted_by server (heeds L2cap sdu server.listener gift) in
      let searched : Reacted = record { server = hears_search sdu server; gift = gift } in
      let objects : Reacted = if psm == object_psm then direct else same in
      let others : Reacted = if psm == rfcomm_psm then muxed else objects in
      either Reacts server.listener.service.failed same (if psm == search_psm then searched else others) so
      (either Reacts (psm == search_psm) searched others (search_heard sdu server gift so)
      (either Reacts (psm == rfcomm_psm) muxed objects (up_heard (up sdu server.mux) (record server { mux = hearing.hears sdu server.mux }) gift so)
      (either Reacts (psm == object_psm) direct same (packet_heard L2cap sdu server.listener.service gift so) so)))

  let_go : (transport : Transport) (server : Server) (gift : Gift) → IsSo server gift → Reacts (lets_go_on transport server gift)
  let_go transport server gift so = gone server.listener.service.failed transport server.listener.service.sessions gift so

  pub channel_closed : (psm : ℕ) (server : Server) (gift : Gift) → IsSo server gift → Reacts (channel_down psm server gift)
  channel_closed psm server gift so =
      let same : Reacted = record { server = server; gift = gift } in
      let searched : Reacted = record { server = unreplied server; gift = gift } in
      let muxed = lets_go_on Rfcomm (remuxed server) gift in
      let direct = lets_go_on L2cap (unanswered server) gift in
      let objects : Reacted = if psm == object_psm then direct else same in
      let others : Reacted = if psm == rfcomm_psm then muxed else objects in
      either Reacts server.listener.service.failed same (if psm == search_psm then searched else others) so
      (either Reacts (psm == search_psm) searched others so
      (either Reacts (psm == rfcomm_psm) muxed objects (let_go Rfcomm (remuxed server) gift so)
      (either Reacts (psm == object_psm) direct same (let_go L2cap (unanswered server) gift so) so)))

  twice : (reacted : Reacted) → Reacts reacted → Reacts (lets_go_twice reacted)
  twice reacted so =
      let next = remuxed (unreplied reacted.server) in either Reacts reacted.server.listener.service.failed reacted (lets_go_on Rfcomm next reacted.gift) so (let_go Rfcomm next reacted.gift so)

  pub link_gone : (server : Server) (gift : Gift) → IsSo server gift → Reacts (link_down server gift)
  link_gone server gift so =
      let one = lets_go_on L2cap (unanswered server) gift in
      let same : Reacted = record { server = server; gift = gift } in either Reacts server.listener.service.failed same (lets_go_twice one) so (twice one (let_go L2cap (unanswered server) gift so))
