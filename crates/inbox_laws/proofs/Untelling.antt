-- A server reacts in the same way whatever its inbox holds.
use Rattle.std.proofs.Common.{◌≡◌, ◌==◌, ◌||◌, ℕ, zero, suc, Bool, true, false, List, [], ◌∷◌, ◌++◌, length, take, Option, Some, None, Ok, Err, refl, sym, ap, ◌∙◌, if◌then◌else◌}
use Rattle.pair_laws.specs.bt_base.specs.Objects.{Contents}
use Rattle.pair_laws.specs.bt_base.specs.declared.settings.Settings.{Settings}
use Rattle.pair_laws.specs.bt_base.specs.declared.settings.Transport.{Transport}
use Rattle.pair_laws.specs.bt_base.specs.declared.settings.Transport.TheVariants.{L2cap, Rfcomm}
use Rattle.pair_laws.specs.channel_model.specs.declared.event.ChannelEvent.{ChannelEvent}
use Rattle.pair_laws.specs.channel_model.specs.declared.event.ChannelEvent.TheVariants.{Opened, Closed, Features, FeaturesLost, DisconnectLost}
use Rattle.pair_laws.specs.channel_model.specs.Calls.{sends}
use Rattle.pair_laws.specs.channel_model.specs.Value.{Channels}
use Rattle.pair_laws.specs.obex_session.specs.InboxCalls.{InboxCall, Answer, held_after, left_by}
use Rattle.pair_laws.specs.obex_session.specs.Rules.{aborts, progress_in}
use Rattle.pair_laws.specs.obex_session.specs.Serving.{ruling_on}
use Rattle.pair_laws.specs.push_model.specs.Sessions.{Sessions, Gift, Parted, Heard as Answered, session_of, other_of, after_calls, lets_go, is_naming, answers_to, hears_after, hears}
use Rattle.pair_laws.specs.push_model.specs.Service.{Service, Served, is_ignored, after_heard, after_parted, hears_packet}
use Rattle.pair_laws.specs.push_model.specs.Streams.{Front, Whole, Partial, Broken, front_of}
use Rattle.pair_laws.specs.push_model.specs.Listening.{Listener, Heeded, Received, heeded_by, heeds, breaks_at, heeds_carried, stops, received, hears_on, hears_front, hears_stream}
use Rattle.pair_laws.specs.push_model.specs.Server as push
use Rattle.pair_laws.specs.push_model.specs.Server.{Server, Reacted, Lent, rfcomm_psm, object_psm, search_psm, hears_search, hears_octets, hears_up, received_by, reacted_by, lets_go_on, lets_go_twice, remuxed, unreplied, unanswered, closed_on, unless_failed, on_sdu, channel_down, link_down, lends, lent_sdu, stepped}
use Rattle.pair_laws.specs.rfcomm_model.specs.Hearing.{Up as Muxed, nothing, opened, bytes, closed, up}
use Rattle.pair_laws.specs.rfcomm_model.specs.Hearing as hearing
use Rattle.pair_laws.specs.world_model.specs.Machines.{Up, Down, News, Linked, Failed, Heard, TimerFired, Cancelled, Opening}
use Rattle.pair_laws.specs.host_model.specs.Circumstances.{Circumstance}
use Rattle.pair_laws.specs.host_model.specs.Endpoints.{endpoint_of, with_endpoint, takes_sdu}
use Rattle.pair_laws.specs.host_model.specs.Pdus.{sdu_of}
use Rattle.pair_laws.specs.host_model.specs.Profiles.{Stride}
use Rattle.pair_laws.specs.host_model.specs.Servers.{ServerProfile, told, happened, is_told, reacts, unlinked, waiting, submits, takes, server_profile}
use Rattle.inbox_laws.specs.Untold.{untold}
use Rattle.inbox_laws.proofs.Seen.{IsSeen, stride_seen}

-- ---- calls

abbrev bare : Gift → Gift
bare gift = record { content = None; answers = gift.answers }

none_held : (calls : List InboxCall) (answers : List Answer) → held_after calls answers None ≡ None
none_held [] answers = refl
none_held (call ∷ calls) [] = none_held calls []
none_held (call ∷ calls) (Ok done ∷ answers) = none_held calls answers
none_held (call ∷ calls) (Err fault ∷ answers) = refl

calls_bare : (calls : List InboxCall) (gift : Gift) → after_calls calls (bare gift) ≡ bare (after_calls calls gift)
calls_bare calls gift = ap (λ (content : Option Contents). let after : Gift = record { content = content; answers = left_by calls gift.answers } in after) (none_held calls gift.answers)

-- of two that go on so
either : {X Y : Type 0} (f : X → Y) (test : Bool) (one two : X) (one' two' : Y) → one' ≡ f one → two' ≡ f two → (if test then one' else two') ≡ f (if test then one else two)
either f true one two one' two' is is' = is
either f false one two one' two' is is' = is'

-- ---- packets

abbrev bare_parted : Parted → Parted
bare_parted parted = record parted { gift = bare parted.gift }

abbrev bare_heard : Answered → Answered
bare_heard heard = record heard { gift = bare heard.gift }

abbrev bare_served : Served → Served
bare_served served = record served { gift = bare served.gift }

gone : (transport : Transport) (sessions : Sessions) (gift : Gift) → lets_go transport sessions (bare gift) ≡ bare_parted (lets_go transport sessions gift)
gone transport sessions gift =
    let parted = lets_go transport sessions gift in
    ap (λ (g : Gift). let after : Parted = record { sessions = parted.sessions; short = parted.short; gift = g } in after) (calls_bare (aborts (progress_in (session_of transport sessions).course)) gift)

answered : (transport : Transport) (packet : List ℕ) (sessions : Sessions) (gift : Gift) → answers_to transport packet sessions (bare gift) ≡ bare_heard (answers_to transport packet sessions gift)
answered transport packet sessions gift =
    let one = answers_to transport packet sessions gift in
    ap (λ (g : Gift). let after : Answered = record { sessions = one.sessions; response = one.response; short = one.short; gift = g } in after) (calls_bare (ruling_on (session_of transport sessions) packet).calls gift)

answered_after : (transport : Transport) (packet : List ℕ) (parted : Parted) → hears_after transport packet (bare_parted parted) ≡ bare_heard (hears_after transport packet parted)
answered_after transport packet parted =
    let lacking : Answered = record { sessions = parted.sessions; response = []; short = true; gift = parted.gift } in
    either bare_heard parted.short lacking (answers_to transport packet parted.sessions parted.gift) (bare_heard lacking) (answers_to transport packet parted.sessions (bare parted.gift)) refl (answered transport packet parted.sessions parted.gift)

heard : (transport : Transport) (packet : List ℕ) (sessions : Sessions) (gift : Gift) → hears transport packet sessions (bare gift) ≡ bare_heard (hears transport packet sessions gift)
heard transport packet sessions gift =
    let parted = lets_go (other_of transport) sessions gift in
    either bare_heard (is_naming transport packet sessions) (hears_after transport packet parted) (answers_to transport packet sessions gift) (hears_after transport packet (lets_go (other_of transport) sessions (bare gift))) (answers_to transport packet sessions (bare gift))
    (ap (hears_after transport packet) (gone (other_of transport) sessions gift) ∙ answered_after transport packet parted) (answered transport packet sessions gift)

packet_heard : (transport : Transport) (packet : List ℕ) (service : Service) (gift : Gift) → hears_packet transport packet service (bare gift) ≡ bare_served (hears_packet transport packet service gift)
packet_heard transport packet service gift =
    either bare_served (is_ignored transport packet service) (after_parted service (lets_go transport service.sessions gift)) (after_heard transport service (hears transport packet service.sessions gift))
    (after_parted service (lets_go transport service.sessions (bare gift))) (after_heard transport service (hears transport packet service.sessions (bare gift)))
    (ap (after_parted service) (gone transport service.sessions gift)) (ap (after_heard transport service) (heard transport packet service.sessions gift))

-- ---- the stream of packets over RFCOMM

abbrev bare_heeded : Heeded → Heeded
bare_heeded heeded = record heeded { gift = bare heeded.gift }

abbrev bare_received : Received → Received
bare_received received = record received { gift = bare received.gift }

heeded : (transport : Transport) (packet : List ℕ) (listener : Listener) (gift : Gift) → heeds transport packet listener (bare gift) ≡ bare_heeded (heeds transport packet listener gift)
heeded transport packet listener gift = ap (heeded_by listener) (packet_heard transport packet listener.service gift)

on_heard : (more : Listener → Gift → Received) → ((listener : Listener) (gift : Gift) → more listener (bare gift) ≡ bare_received (more listener gift)) → (one : Heeded) → hears_on more (bare_heeded one) ≡ bare_received (hears_on more one)
on_heard more goes one =
    either bare_received (stops one.listener) (received [] one) (more one.listener one.gift) (received [] (bare_heeded one)) (more one.listener (bare one.gift)) refl (goes one.listener one.gift)

front_heard : (more : List ℕ → Listener → Gift → Received) (stream : List ℕ) (front : Front) (listener : Listener) (gift : Gift) → ((rest : List ℕ) (next : Listener) (after : Gift) → more rest next (bare after) ≡ bare_received (more rest next after))
    → hears_front more stream front listener (bare gift) ≡ bare_received (hears_front more stream front listener gift)
front_heard more stream (Whole packet rest) listener gift goes =
    ap (hears_on (more rest)) (heeded Rfcomm packet (record listener { breaks = breaks_at listener packet }) gift) ∙ on_heard (more rest) (goes rest) (heeds_carried packet listener gift)
front_heard more stream Partial listener gift goes = refl
front_heard more stream (Broken refusal) listener gift goes = ap (received []) (heeded Rfcomm (take 3 stream) (record listener { breaks = true }) gift)

stream_heard : (steps : ℕ) (stream : List ℕ) (listener : Listener) (gift : Gift) → hears_stream steps stream listener (bare gift) ≡ bare_received (hears_stream steps stream listener gift)
unfolding hears_stream
stream_heard zero stream listener gift = refl
stream_heard (suc steps) stream listener gift =
    front_heard (λ rest next after. hears_stream steps rest next after) stream (front_of listener.service.sessions.carried.maximum stream) listener gift (λ rest next after. stream_heard steps rest next after)

-- ---- a server

abbrev bare_reacted : Reacted → Reacted
bare_reacted reacted = record reacted { gift = bare reacted.gift }

octets_heard : (octets : List ℕ) (server : Server) (gift : Gift) → hears_octets octets server (bare gift) ≡ bare_reacted (hears_octets octets server gift)
octets_heard octets server gift =
    let stream = server.held ++ octets in
    let same : Reacted = record { server = server; gift = gift } in
    either bare_reacted server.listener.breaks same (received_by server (hears_stream (length stream) stream server.listener gift)) (bare_reacted same) (received_by server (hears_stream (length stream) stream server.listener (bare gift))) refl
    (ap (received_by server) (stream_heard (length stream) stream server.listener gift))

up_heard : (one : Muxed) (server : Server) (gift : Gift) → hears_up one server (bare gift) ≡ bare_reacted (hears_up one server gift)
up_heard nothing server gift = refl
up_heard opened server gift = refl
up_heard (bytes octets) server gift = octets_heard octets server gift
up_heard (closed reason) server gift = refl

-- one that has failed reacts to nothing more
unless_bare : (server : Server) (gift : Gift) (reacted reacted' : Reacted) → reacted' ≡ bare_reacted reacted → unless_failed server (bare gift) reacted' ≡ bare_reacted (unless_failed server gift reacted)
unless_bare server gift reacted reacted' is =
    let same : Reacted = record { server = server; gift = gift } in either bare_reacted server.listener.service.failed same reacted (bare_reacted same) reacted' refl is

sdu_heard : (psm : ℕ) (sdu : List ℕ) (server : Server) (gift : Gift) → on_sdu psm sdu server (bare gift) ≡ bare_reacted (on_sdu psm sdu server gift)
sdu_heard psm sdu server gift =
    let same : Reacted = record { server = server; gift = gift } in
    let heard_mux : Server = record server { mux = hearing.hears sdu server.mux } in
    let muxed = hears_up (up sdu server.mux) heard_mux gift in
    let direct = reacted_by server (heeds L2cap sdu server.listener gift) in
    let searched : Reacted = record { server = hears_search sdu server; gift = gift } in
    let muxed' = hears_up (up sdu server.mux) heard_mux (bare gift) in
    let direct' = reacted_by server (heeds L2cap sdu server.listener (bare gift)) in
    let objects : Reacted = if psm == object_psm then direct else same in
    let objects' : Reacted = if psm == object_psm then direct' else bare_reacted same in
    let others : Reacted = if psm == rfcomm_psm then muxed else objects in
    let others' : Reacted = if psm == rfcomm_psm then muxed' else objects' in
    unless_bare server gift (push.hears_on psm sdu server gift) (push.hears_on psm sdu server (bare gift))
    (either bare_reacted (psm == search_psm) searched others (bare_reacted searched) others' refl
    (either bare_reacted (psm == rfcomm_psm) muxed objects muxed' objects' (up_heard (up sdu server.mux) heard_mux gift)
    (either bare_reacted (psm == object_psm) direct same direct' (bare_reacted same) (ap (reacted_by server) (heeded L2cap sdu server.listener gift)) refl)))

let_go : (transport : Transport) (server : Server) (gift : Gift) → lets_go_on transport server (bare gift) ≡ bare_reacted (lets_go_on transport server gift)
let_go transport server gift = ap (λ (parted : Parted). reacted_by server (heeded_by server.listener (after_parted server.listener.service parted))) (gone transport server.listener.service.sessions gift)

channel_closed : (psm : ℕ) (server : Server) (gift : Gift) → channel_down psm server (bare gift) ≡ bare_reacted (channel_down psm server gift)
channel_closed psm server gift =
    let same : Reacted = record { server = server; gift = gift } in
    let searched : Reacted = record { server = unreplied server; gift = gift } in
    let muxed = lets_go_on Rfcomm (remuxed server) gift in
    let direct = lets_go_on L2cap (unanswered server) gift in
    let muxed' = lets_go_on Rfcomm (remuxed server) (bare gift) in
    let direct' = lets_go_on L2cap (unanswered server) (bare gift) in
    let objects : Reacted = if psm == object_psm then direct else same in
    let objects' : Reacted = if psm == object_psm then direct' else bare_reacted same in
    let others : Reacted = if psm == rfcomm_psm then muxed else objects in
    let others' : Reacted = if psm == rfcomm_psm then muxed' else objects' in
    unless_bare server gift (closed_on psm server gift) (closed_on psm server (bare gift))
    (either bare_reacted (psm == search_psm) searched others (bare_reacted searched) others' refl
    (either bare_reacted (psm == rfcomm_psm) muxed objects muxed' objects' (let_go Rfcomm (remuxed server) gift)
    (either bare_reacted (psm == object_psm) direct same direct' (bare_reacted same) (let_go L2cap (unanswered server) gift) refl)))

twice : (reacted : Reacted) → lets_go_twice (bare_reacted reacted) ≡ bare_reacted (lets_go_twice reacted)
twice reacted =
    let next = remuxed (unreplied reacted.server) in
    either bare_reacted reacted.server.listener.service.failed reacted (lets_go_on Rfcomm next reacted.gift) (bare_reacted reacted) (lets_go_on Rfcomm next (bare reacted.gift)) refl (let_go Rfcomm next reacted.gift)

link_gone : (server : Server) (gift : Gift) → link_down server (bare gift) ≡ bare_reacted (link_down server gift)
link_gone server gift =
    let one = lets_go_on L2cap (unanswered server) gift in
    unless_bare server gift (lets_go_twice one) (lets_go_twice (lets_go_on L2cap (unanswered server) (bare gift))) (ap lets_go_twice (let_go L2cap (unanswered server) gift) ∙ twice one)

-- ---- a profile

told_untold : (circumstances : List Circumstance) (news : News) (serving : ServerProfile) → told circumstances news (untold serving) ≡ untold (told circumstances news serving)
told_untold circumstances (Linked Up) serving = refl
told_untold circumstances (Linked (Down reason)) serving = ap (λ (reacted : Reacted). unlinked (reacts reacted serving)) (link_gone serving.server serving.inbox)
told_untold circumstances (Failed status) serving = refl
told_untold circumstances (Heard pdu) serving = refl
told_untold circumstances TimerFired serving = refl
told_untold circumstances Cancelled serving = refl
told_untold circumstances (Opening name) serving = refl

happened_untold : (event : ChannelEvent) (v : Channels) (serving : ServerProfile) → happened event v (untold serving) ≡ untold (happened event v serving)
happened_untold (Opened own psm) v serving = refl
happened_untold (Closed own psm reason) v serving =
    either untold (is_told reason) (reacts (channel_down psm serving.server serving.inbox) serving) serving (reacts (channel_down psm serving.server (bare serving.inbox)) (untold serving)) (untold serving)
    (ap (λ (reacted : Reacted). reacts reacted serving) (channel_closed psm serving.server serving.inbox)) refl
happened_untold (Features features) v serving = refl
happened_untold FeaturesLost v serving = refl
happened_untold (DisconnectLost own) v serving = refl

submits_untold : (found : Option ℕ) (lent : Lent) (v : Channels) (server : Server) (serving : ServerProfile) → submits found lent v server (untold serving) ≡ stride_seen untold (submits found lent v server serving)
submits_untold None lent v server serving = refl
submits_untold (Some own) lent v server serving =
    let taken : Stride ServerProfile = record { channels = sends own (sdu_of lent.payload) v; profile = record serving { server = stepped server }; more = true } in
    either (stride_seen untold) (takes_sdu own (sdu_of lent.payload) v) taken (waiting v server serving) (stride_seen untold taken) (waiting v server (untold serving)) refl refl

takes_untold : (lent : Option Lent) (v : Channels) (server : Server) (serving : ServerProfile) → takes lent v server (untold serving) ≡ stride_seen untold (takes lent v server serving)
takes_untold None v server serving = refl
takes_untold (Some lent) v server serving = submits_untold (endpoint_of lent.psm serving.endpoints) lent v server serving

pub servers_seen : (settings : Settings) (content : Option Contents) → IsSeen untold (server_profile settings content) (server_profile settings None)
servers_seen settings content = record {
  policy = refl;
  given = λ circumstances serving. refl;
  told = told_untold;
  received = λ own psm sdu serving. ap (λ (reacted : Reacted). reacts reacted (record serving { endpoints = with_endpoint psm own serving.endpoints })) (sdu_heard psm sdu serving.server serving.inbox);
  happened = happened_untold;
  sent = λ v serving. refl;
  steps = λ v serving. let server = lends serving.server in takes_untold (lent_sdu server) v server serving;
  wants_link = λ serving. refl;
  leaves_link = λ serving. refl;
  is_idle = λ serving. refl;
  outcome = λ serving. refl;
  armed = λ serving. refl;
  may_cancel = λ serving. refl;
}
