-- The client of a host is what it is of what happened to it.
use Rattle.std.proofs.Common.{◌≡◌, ℕ, Bool, true, false, cond, List, [], ◌∷◌, ◌++◌, Option, Some, None, refl, sym, ap, subst, ◌∙◌, map, append_assoc}
use Rattle.std.proofs.lemmas.Bool.{cond-false}
use Rattle.std.specs.List.{filter_map}
use Rattle.std.proofs.lemmas.List.Elements.{filter_map-append}
use Rattle.shelf_model.specs.bt_base.specs.declared.settings.Settings.{Settings}
use Rattle.channel_laws.specs.channel_model.specs.declared.event.ChannelEvent.{ChannelEvent}
use Rattle.channel_laws.specs.channel_model.specs.declared.event.ChannelEvent.TheVariants as channels
use Rattle.channel_laws.specs.channel_model.specs.Calls.{peer_mtu, sends, waits}
use Rattle.channel_laws.specs.channel_model.specs.Value.{Channels}
use Rattle.push_laws.specs.push_model.specs.declared.closing.CloseCause.{CloseCause}
use Rattle.push_laws.specs.push_model.specs.Client.{Client, begins, cancelled, with_object}
use Rattle.push_laws.specs.push_model.specs.Events as events
use Rattle.push_laws.specs.push_model.specs.Events.{hears_news}
use Rattle.push_laws.specs.push_model.specs.Laws.{Deed, Asks, Finishes, done}
use Rattle.push_laws.specs.push_model.specs.Payloads.{Payload}
use Rattle.push_laws.specs.push_model.specs.Steps.{Part, Step, Wait, MakeLink, AskFeatures, OpenChannel, SendSdu, CloseChannel, BreakLink, Ended, NoMemory, steps}
use Rattle.push_laws.specs.Opening.{way_in, way_by, way_taken, psm_opened, AreTwoAtMost}
use Rattle.push_laws.proofs.TwoChannels.{opens-two_at_most}
use Rattle.shelf_model.specs.world_model.specs.Machines.{News, Linked, Up, Down, Failed, Heard, TimerFired, Cancelled, Opening}
use Rattle.shelf_model.specs.host_model.specs.Circumstances.{Circumstance}
use Rattle.shelf_model.specs.host_model.specs.Clients.{ClientProfile, after_end, ended, after_call, calls, told, cause_of, closed_by, opened_by, event_heard, sent_on, submits, waiting, takes, client_profile, fitted}
use Rattle.shelf_model.specs.host_model.specs.Clients as profile
use Rattle.shelf_model.specs.host_model.specs.Endpoints.{endpoint_of, takes_sdu}
use Rattle.shelf_model.specs.host_model.specs.Pdus.{sdu_of}
use Rattle.shelf_model.specs.host_model.specs.Shelves.{size_for, name_for, unused}
use Rattle.host_laws.specs.Calls.{from_call}
use Rattle.host_laws.specs.Feeds.{Feed, Gifts, Learns, Receives, Happens, Sent, Steps, fed, all_fed, asked_with, asked_from}
use Rattle.host_laws.specs.Pushing.{Affair, Does, client_after, client_behind, end_asked, then_ends, link_asked, then_calls, news_pushed, opened_pushed, closed_pushed, event_pushed, sent_pushed, step_pushed, pushed_with, pushed_from, ClientsArePushed, opened_with, opened_from, psm_asked, ClientsOpen}
use Rattle.host_laws.proofs.Asking.{send_if, sends_on, closes_on, asked, clients_ask, servers_ask, clients-call}

behind-both : (xs ys : List Affair) (client : Client) → client_behind (xs ++ ys) client ≡ client_behind ys (client_behind xs client)
behind-both [] ys client = refl
behind-both (x ∷ xs) ys client = behind-both xs ys _

-- ---- news

ends_so : (step : Step) (client : Client) → after_end step (done (Asks []) client) client ≡ client_behind (end_asked step) client
ends_so Wait client = refl
ends_so MakeLink client = refl
ends_so AskFeatures client = refl
ends_so (OpenChannel psm) client = refl
ends_so (SendSdu psm payload) client = refl
ends_so (CloseChannel psm) client = refl
ends_so BreakLink client = refl
ends_so (Ended outcome) client = refl
ends_so NoMemory client = refl

ended_so : (client : Client) → ended client ≡ client_behind (then_ends client) client
ended_so client = ends_so (steps client []).step client

calls_by : (step : Step) (pushing : ClientProfile) → (after_call step (done (Asks []) pushing.client) pushing).client ≡ client_behind (link_asked step) pushing.client
calls_by Wait pushing = refl
calls_by MakeLink pushing = refl
calls_by AskFeatures pushing = refl
calls_by (OpenChannel psm) pushing = refl
calls_by (SendSdu psm payload) pushing = refl
calls_by (CloseChannel psm) pushing = refl
calls_by BreakLink pushing = refl
calls_by (Ended outcome) pushing = refl
calls_by NoMemory pushing = refl

news_so : (circumstances : List Circumstance) (news : News) (pushing : ClientProfile) → (told circumstances news pushing).client ≡ client_behind (news_pushed circumstances news pushing.client) pushing.client
news_so circumstances (Linked Up) pushing = refl
news_so circumstances (Linked (Down reason)) pushing = ended_so (hears_news (events.LinkDown reason) pushing.client)
news_so circumstances (Failed status) pushing = ended_so (hears_news (events.LinkFailed status) pushing.client)
news_so circumstances (Heard pdu) pushing = refl
news_so circumstances TimerFired pushing = refl
news_so circumstances Cancelled pushing = ended_so (cancelled pushing.client)
news_so circumstances (Opening name) pushing =
    let begun : Client = begins (size_for circumstances name) (name_for name) pushing.client in
    let over : ClientProfile = record pushing { client = ended begun; submitted = None; bid = profile.NoBid } in
    calls_by (steps (ended begun) []).step over
    ∙ ap (client_behind (then_calls (ended begun))) (ended_so begun)
    ∙ sym (behind-both (then_ends begun) (then_calls (ended begun)) begun)

-- ---- channels

opened_so : (mtu : Option ℕ) (psm : ℕ) (client : Client) → opened_by mtu psm client ≡ client_behind (opened_pushed mtu psm) client
opened_so None psm client = refl
opened_so (Some mtu) psm client = refl

closed_so : (cause : Option CloseCause) (psm : ℕ) (client : Client) → closed_by cause psm client ≡ client_behind (closed_pushed cause psm) client
closed_so None psm client = refl
closed_so (Some cause) psm client = refl

event_so : (event : ChannelEvent) (v : Channels) (client : Client) → event_heard event v client ≡ client_behind (event_pushed event v) client
event_so (channels.Opened own psm) v client = opened_so (peer_mtu own v) psm client
event_so (channels.Closed own psm reason) v client = closed_so (cause_of reason) psm client
event_so (channels.Features features) v client = refl
event_so channels.FeaturesLost v client = refl
event_so (channels.DisconnectLost own) v client = refl

sent_so : (own : Option ℕ) (v : Channels) (pushing : ClientProfile) → (sent_on own v pushing).client ≡ client_behind (sent_pushed own v) pushing.client
sent_so None v pushing = refl
sent_so (Some own) v pushing = by (waits own v)
  where
    by : (waiting : Bool) → (cond waiting pushing (profile.done (record pushing { submitted = None }))).client ≡ client_behind (cond waiting [] (Does Finishes ∷ [])) pushing.client
    by true = refl
    by false = refl

submits_so : (own : Option ℕ) (payload : Payload) (v : Channels) (pushing : ClientProfile) → (submits own payload v pushing).profile.client ≡ pushing.client
submits_so None payload v pushing = refl
submits_so (Some own) payload v pushing = by (takes_sdu own (sdu_of payload) v)
  where
    by : (is : Bool) → (cond is (waiting (sends own (sdu_of payload) v) (record pushing { submitted = Some own })) (waiting v pushing)).profile.client ≡ pushing.client
    by true = refl
    by false = refl

steps_so : (step : Step) (v : Channels) (after before : ClientProfile) (parts : List Part) → after.client ≡ done (Asks parts) before.client → (takes step v after before).profile.client ≡ client_behind (step_pushed step parts) before.client
steps_so Wait v after before parts e = e
steps_so MakeLink v after before parts e = refl
steps_so AskFeatures v after before parts e = ap (done Finishes) e
steps_so (OpenChannel psm) v after before parts e = ap (done Finishes) e
steps_so (SendSdu psm payload) v after before parts e = submits_so (endpoint_of psm after.endpoints) payload v after ∙ e
steps_so (CloseChannel psm) v after before parts e = ap (done Finishes) e
steps_so BreakLink v after before parts e = ap (done Finishes) e
steps_so (Ended outcome) v after before parts e = e
steps_so NoMemory v after before parts e = e

-- ---- all feeds

pub feed_so : (settings : Settings) (pushing : ClientProfile) (feed : Feed) → (fed (client_profile settings) pushing feed).client ≡ client_behind (pushed_with pushing feed) pushing.client
feed_so settings pushing (Gifts circumstances) = refl
feed_so settings pushing (Learns circumstances news) = news_so circumstances news pushing
feed_so settings pushing (Receives own psm sdu) = refl
feed_so settings pushing (Happens event v) = event_so event v pushing.client
feed_so settings pushing (Sent v) = sent_so pushing.submitted v pushing
feed_so settings pushing (Steps v) =
    let one = steps pushing.client (fitted pushing) in steps_so one.step v (record pushing { client = one.client; parts = unused one.left pushing.parts }) pushing (fitted pushing) refl

pub all_pushed : (settings : Settings) (feeds : List Feed) (pushing : ClientProfile) → (all_fed (client_profile settings) pushing feeds).client ≡ client_behind (pushed_from settings pushing feeds) pushing.client
all_pushed settings [] pushing = refl
all_pushed settings (feed ∷ feeds) pushing =
    let next = fed (client_profile settings) pushing feed in
    all_pushed settings feeds next ∙ ap (client_behind (pushed_from settings next feeds)) (feed_so settings pushing feed) ∙ sym (behind-both (pushed_with pushing feed) (pushed_from settings next feeds) pushing.client)

pub clients_are_pushed : ClientsArePushed
clients_are_pushed settings asks marks host lives = ap (λ (p : ClientProfile). p.client) lives.profile_is ∙ all_pushed settings lives.feeds (client_profile settings).first

-- ---- which channels it opens

opened-both : (xs ys : List Affair) (client : Client) → opened_from (xs ++ ys) client ≡ opened_from xs client ++ opened_from ys (client_behind xs client)
opened-both [] ys client = refl
opened-both (x ∷ xs) ys client = ap (λ (ps : List ℕ). opened_with x client ++ ps) (opened-both xs ys (client_after x client)) ∙ sym (append_assoc (opened_with x client) (opened_from xs (client_after x client)) (opened_from ys (client_behind xs (client_after x client))))

none_end : (step : Step) (client : Client) → step ≡ (steps client []).step → opened_from (end_asked step) client ≡ []
none_end Wait client is = refl
none_end MakeLink client is = refl
none_end AskFeatures client is = refl
none_end (OpenChannel psm) client is = refl
none_end (SendSdu psm payload) client is = refl
none_end (CloseChannel psm) client is = refl
none_end BreakLink client is = refl
none_end (Ended outcome) client is = ap (λ (s : Step). filter_map psm_opened (way_in s) ++ []) (sym is)
none_end NoMemory client is = refl

none_call : (step : Step) (client : Client) → step ≡ (steps client []).step → opened_from (link_asked step) client ≡ []
none_call Wait client is = refl
none_call MakeLink client is = ap (λ (s : Step). filter_map psm_opened (way_in s) ++ []) (sym is)
none_call AskFeatures client is = refl
none_call (OpenChannel psm) client is = refl
none_call (SendSdu psm payload) client is = refl
none_call (CloseChannel psm) client is = refl
none_call BreakLink client is = refl
none_call (Ended outcome) client is = refl
none_call NoMemory client is = refl

news_open : (circumstances : List Circumstance) (news : News) (client : Client) → opened_from (news_pushed circumstances news client) client ≡ []
news_open circumstances (Linked Up) client = refl
news_open circumstances (Linked (Down reason)) client = let now = hears_news (events.LinkDown reason) client in none_end (steps now []).step now refl
news_open circumstances (Failed status) client = let now = hears_news (events.LinkFailed status) client in none_end (steps now []).step now refl
news_open circumstances (Heard pdu) client = refl
news_open circumstances TimerFired client = refl
news_open circumstances Cancelled client = let now = cancelled client in none_end (steps now []).step now refl
news_open circumstances (Opening name) client =
    let begun : Client = begins (size_for circumstances name) (name_for name) client in
    opened-both (then_ends begun) (then_calls (ended begun)) begun
    ∙ ap (λ (ps : List ℕ). ps ++ opened_from (then_calls (ended begun)) (client_behind (then_ends begun) begun)) (none_end (steps begun []).step begun refl)
    ∙ ap (opened_from (then_calls (ended begun))) (sym (ended_so begun))
    ∙ none_call (steps (ended begun) []).step (ended begun) refl

event_open : (event : ChannelEvent) (v : Channels) (client : Client) → opened_from (event_pushed event v) client ≡ []
event_open (channels.Opened own psm) v client = by (peer_mtu own v)
  where
    by : (mtu : Option ℕ) → opened_from (opened_pushed mtu psm) client ≡ []
    by None = refl
    by (Some mtu) = refl
event_open (channels.Closed own psm reason) v client = by (cause_of reason)
  where
    by : (cause : Option CloseCause) → opened_from (closed_pushed cause psm) client ≡ []
    by None = refl
    by (Some cause) = refl
event_open (channels.Features features) v client = refl
event_open channels.FeaturesLost v client = refl
event_open (channels.DisconnectLost own) v client = refl

sent_open : (own : Option ℕ) (v : Channels) (client : Client) → opened_from (sent_pushed own v) client ≡ []
sent_open None v client = refl
sent_open (Some own) v client = by (waits own v)
  where
    by : (waiting : Bool) → opened_from (cond waiting [] (Does Finishes ∷ [])) client ≡ []
    by true = refl
    by false = refl

-- a step asks for the channel that it opens
send_asks : (taken : Bool) (own : ℕ) (payload : Payload) → filter_map psm_asked (from_call (send_if taken own payload)) ≡ []
send_asks true own payload = refl
send_asks false own payload = refl

sends_ask : (v : Channels) (payload : Payload) (own : Option ℕ) → filter_map psm_asked (from_call (sends_on v payload own)) ≡ []
sends_ask v payload None = refl
sends_ask v payload (Some own) = send_asks (takes_sdu own (sdu_of payload) v) own payload

closes_ask : (own : Option ℕ) → filter_map psm_asked (from_call (closes_on own)) ≡ []
closes_ask None = refl
closes_ask (Some own) = refl

step_open : (step : Step) (v : Channels) (after : ClientProfile) (client : Client) (parts : List Part) → step ≡ (steps client parts).step → filter_map psm_asked (from_call (asked step v after)) ≡ opened_from (step_pushed step parts) client
step_open Wait v after client parts is = ap (λ (s : Step). filter_map psm_opened (way_in s) ++ []) is
step_open MakeLink v after client parts is = refl
step_open AskFeatures v after client parts is = ap (λ (s : Step). filter_map psm_opened (way_in s) ++ []) is
step_open (OpenChannel psm) v after client parts is = ap (λ (s : Step). filter_map psm_opened (way_in s) ++ []) is
step_open (SendSdu psm payload) v after client parts is = sends_ask v payload (endpoint_of psm after.endpoints) ∙ ap (λ (s : Step). filter_map psm_opened (way_in s) ++ []) is
step_open (CloseChannel psm) v after client parts is = closes_ask (endpoint_of psm after.endpoints) ∙ ap (λ (s : Step). filter_map psm_opened (way_in s) ++ []) is
step_open BreakLink v after client parts is = ap (λ (s : Step). filter_map psm_opened (way_in s) ++ []) is
step_open (Ended outcome) v after client parts is = ap (λ (s : Step). filter_map psm_opened (way_in s) ++ []) is
step_open NoMemory v after client parts is = ap (λ (s : Step). filter_map psm_opened (way_in s) ++ []) is

feed_open : (settings : Settings) (pushing : ClientProfile) (feed : Feed) → filter_map psm_asked (asked_with (client_profile settings) (clients_ask settings) pushing feed) ≡ opened_from (pushed_with pushing feed) pushing.client
feed_open settings pushing (Gifts circumstances) = refl
feed_open settings pushing (Learns circumstances news) = sym (news_open circumstances news pushing.client)
feed_open settings pushing (Receives own psm sdu) = refl
feed_open settings pushing (Happens event v) = sym (event_open event v pushing.client)
feed_open settings pushing (Sent v) = sym (sent_open pushing.submitted v pushing.client)
feed_open settings pushing (Steps v) = let one = steps pushing.client (fitted pushing) in
    ap (λ c. filter_map psm_asked (from_call c)) (clients-call settings v pushing) ∙ step_open one.step v (record pushing { client = one.client; parts = unused one.left pushing.parts }) pushing.client (fitted pushing) refl

all_open : (settings : Settings) (feeds : List Feed) (pushing : ClientProfile) → filter_map psm_asked (asked_from (client_profile settings) (clients_ask settings) pushing feeds) ≡ opened_from (pushed_from settings pushing feeds) pushing.client
all_open settings [] pushing = refl
all_open settings (feed ∷ feeds) pushing =
    let next = fed (client_profile settings) pushing feed in
    filter_map-append psm_asked (asked_with (client_profile settings) (clients_ask settings) pushing feed) (asked_from (client_profile settings) (clients_ask settings) next feeds)
    ∙ ap (λ (ps : List ℕ). ps ++ filter_map psm_asked (asked_from (client_profile settings) (clients_ask settings) next feeds)) (feed_open settings pushing feed)
    ∙ ap (λ (ps : List ℕ). opened_from (pushed_with pushing feed) pushing.client ++ ps) (all_open settings feeds next ∙ ap (opened_from (pushed_from settings next feeds)) (feed_so settings pushing feed))
    ∙ sym (opened-both (pushed_with pushing feed) (pushed_from settings next feeds) pushing.client)

taken_opens : (deeds : List Deed) (client : Client) → opened_from (map Does deeds) client ≡ filter_map psm_opened (way_taken deeds client)
taken_opens [] client = refl
taken_opens (deed ∷ deeds) client =
    ap (λ (ps : List ℕ). filter_map psm_opened (way_by deed client) ++ ps) (taken_opens deeds (done deed client)) ∙ sym (filter_map-append psm_opened (way_by deed client) (way_taken deeds (done deed client)))

pub clients_open : ClientsOpen
clients_open = record {
  asks = record { clients = clients_ask; servers = servers_ask };
  opened = λ settings marks host lives. ap (filter_map psm_asked) lives.asked_are ∙ all_open settings lives.feeds (client_profile settings).first;
  by_push = λ client name size deeds able direct.
      subst AreTwoAtMost (sym (ap (opened_from (map Does deeds)) (cond-false client.failed client (with_object name size client) able) ∙ taken_opens deeds (with_object name size client))) (opens-two_at_most client name size deeds direct);
}
