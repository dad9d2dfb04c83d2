-- Which outcomes blame the peer for what is never its fault, and that a client comes to one of them by an SDU alone.
use Rattle.std.proofs.Common.{◌≡◌, ℕ, zero, suc, Bool, true, false, cond, not, ◌&&◌, ◌==◌, ◌++◌, List, [], ◌∷◌, length, Option, Some, None, Result, Ok, Err, refl, sym, ap, subst}
use Rattle.std.proofs.lemmas.Bool.{eqb-true}
use Rattle.request_laws.specs.bt_base.specs.declared.ports.PortFault.{PortFault}
use Rattle.request_laws.specs.bt_base.specs.declared.ports.PortFault.TheVariants as fault
use Rattle.request_laws.specs.bt_base.specs.declared.settings.Settings.{Settings}
use Rattle.request_laws.specs.bt_base.specs.declared.settings.Transport.{Transport}
use Rattle.request_laws.specs.bt_base.specs.declared.settings.Transport.TheVariants.{L2cap, Rfcomm}
use Rattle.request_laws.specs.push_terms.specs.declared.outcome.Outcome.{Outcome}
use Rattle.request_laws.specs.push_terms.specs.declared.outcome.Outcome.TheVariants.{NoService, LinkLost, Cancelled, PeerClosed, PeerFault}
use Rattle.request_laws.specs.pair_laws.specs.rfcomm_model.specs.Hearing.{Up, nothing, opened, bytes, closed, up, hears}
use Rattle.request_laws.specs.pair_laws.specs.sdp_client.specs.Hearing.{found_at}
use Rattle.request_laws.specs.obex_session.specs.declared.client.Answered.{Answered}
use Rattle.request_laws.specs.obex_session.specs.declared.client.Answered.TheVariants as answer
use Rattle.request_laws.specs.obex_session.specs.Views.{answer_at}
use Rattle.request_laws.specs.push_model.specs.declared.course.Stage.{Stage}
use Rattle.request_laws.specs.push_model.specs.declared.course.Stage.TheVariants.{Rest, Link, SearchChannel, Search, SearchEnd, Features, ObjectChannel, Object, ObjectEnd, LinkEnd, Over}
use Rattle.request_laws.specs.push_model.specs.Causes.{cause_of_link, cause_of_page, cause_of_mux, unawaited_response}
use Rattle.request_laws.specs.push_model.specs.Client.{Client, begins, begun_by, may_cancel}
use Rattle.request_laws.specs.push_model.specs.Events as events
use Rattle.request_laws.specs.push_model.specs.Events.{is_linked, is_paging, search_psm}
use Rattle.request_laws.specs.push_model.specs.Laws.{Deed, Hears, Asks, Finishes, Cancels, done}
use Rattle.request_laws.specs.push_model.specs.Responding.{is_early, is_success, is_left, hears_response}
use Rattle.request_laws.specs.push_model.specs.Shown.{first_of, found_shows, says, answer_shows, response_shows, front_shows, stream_shows, up_shows, object_shows, outside_shows, sdu_shows, news_show, shows}
use Rattle.request_laws.specs.push_model.specs.Streams.{Front, Whole, Partial, Broken, front_of}
use Rattle.request_laws.specs.host_laws.specs.Pushing.{Begins, Does}
use Rattle.request_laws.specs.host_laws.proofs.FramesSent.{IsOver, stays_over}
use Rattle.cause_laws.proofs.Clients.{is_any, Within, within_more, either, ShowsWithin, opens_shown, closes_shown, lost_shown, timer_shown, asks_shown, Came, came_by}
use Rattle.blame_laws.specs.Blamed.{is_faultless, is_blamed}

-- ---- outcomes

abbrev pub is_spared : Settings → Outcome → Bool
is_spared settings outcome = not (is_blamed settings outcome)

-- those that blame it for nothing of the kind over a transport, whatever it serves
abbrev is_fair : Transport → Outcome → Bool
is_fair line (PeerFault layer reason) = not (is_faultless line layer)
is_fair line NoService = false
is_fair line outcome = true

fair_spared : (settings : Settings) (outcome : Outcome) → is_fair settings.transport outcome ≡ true → is_spared settings outcome ≡ true
fair_spared settings (PeerFault layer reason) is = is
fair_spared settings NoService is = cc
fair_spared settings outcome is = refl

-- no fault below service discovery is another
low_fair : (line : Transport) (layer reason : ℕ) → (layer == 2) ≡ true → is_fair line (PeerFault layer reason) ≡ true
low_fair L2cap layer reason is = ap (λ (n : ℕ). not (is_faultless L2cap n)) (eqb-true layer 2 is)
low_fair Rfcomm layer reason is = ap (λ (n : ℕ). not (is_faultless Rfcomm n)) (eqb-true layer 2 is)

any_fair : (line : Transport) (outcome : Outcome) → is_any outcome ≡ true → is_fair line outcome ≡ true
any_fair line (PeerFault layer reason) is = low_fair line layer reason is
any_fair line NoService is = is
any_fair line outcome is = refl

link_fair : (line : Transport) (reason : ℕ) → is_fair line (cause_of_link reason) ≡ true
link_fair line reason = by (reason == 0x13)
  where
    by : (user : Bool) → is_fair line (cond user PeerClosed LinkLost) ≡ true
    by true = refl
    by false = refl

page_fair : (line : Transport) (status : ℕ) → is_fair line (cause_of_page status) ≡ true
page_fair L2cap status = refl
page_fair Rfcomm status = refl

-- ---- responses over L2CAP

abbrev Direct : Option Outcome → Type 0
Direct shown = Within (is_fair L2cap) shown

says_direct : (answered : Answered) → Direct (says answered)
says_direct answer.Go = tt
says_direct answer.Done = refl
says_direct (answer.Refused code) = refl
says_direct (answer.Bad refusal) = refl
says_direct answer.Srmp = refl

answer_direct : (answered : Option Answered) (client : Client) → Direct (answer_shows answered client)
answer_direct None client = refl
answer_direct (Some answered) client = either (is_fair L2cap) (is_success answered && is_early client) (Some unawaited_response) (says answered) refl (says_direct answered)

-- ---- responses over RFCOMM

abbrev Muxed : Option Outcome → Type 0
Muxed shown = Within (is_fair Rfcomm) shown

says_muxed : (answered : Answered) → Muxed (says answered)
says_muxed answer.Go = tt
says_muxed answer.Done = refl
says_muxed (answer.Refused code) = refl
says_muxed (answer.Bad refusal) = refl
says_muxed answer.Srmp = refl

answer_muxed : (answered : Option Answered) (client : Client) → Muxed (answer_shows answered client)
answer_muxed None client = refl
answer_muxed (Some answered) client = either (is_fair Rfcomm) (is_success answered && is_early client) (Some unawaited_response) (says answered) refl (says_muxed answered)

response_muxed : (packet : List ℕ) (client : Client) → Muxed (response_shows packet client)
response_muxed packet client = answer_muxed (answer_at client.session.awaited client.session packet) client

first_muxed : (first later : Option Outcome) → Muxed first → Muxed later → Muxed (first_of first later)
first_muxed None later x y = y
first_muxed (Some outcome) later x y = x

front_muxed : (more : List ℕ → Client → Option Outcome) → ((rest : List ℕ) (client : Client) → Muxed (more rest client)) → (front : Front) (client : Client) → Muxed (front_shows more front client)
front_muxed more all (Whole packet rest) client =
    let alone : Client = record client { held = [] } in
    first_muxed (response_shows packet alone) (more rest (hears_response packet alone)) (response_muxed packet alone) (all rest (hears_response packet alone))
front_muxed more all Partial client = tt
front_muxed more all (Broken refusal) client = refl

stream_muxed : (count : ℕ) (stream : List ℕ) (client : Client) → Muxed (stream_shows count stream client)
unfolding stream_shows
stream_muxed zero stream client = tt
stream_muxed (suc count) stream client = front_muxed (λ rest next. stream_shows count rest next) (λ rest next. stream_muxed count rest next) (front_of client.session.maximum stream) client

up_muxed : (news : Up) (client : Client) → Muxed (up_shows news client)
up_muxed nothing client = tt
up_muxed opened client = tt
up_muxed (bytes octets) client = stream_muxed (length (client.held ++ octets)) (client.held ++ octets) client
up_muxed (closed reason) client = either (is_fair Rfcomm) (is_left client.contact reason) None (Some (cause_of_mux reason)) tt refl

-- ---- an SDU

outside_fair : (line : Transport) → Within (is_fair line) (outside_shows line)
outside_fair L2cap = refl
outside_fair Rfcomm = tt

object_fair : (line : Transport) (sdu : List ℕ) (client : Client) → Within (is_fair line) (object_shows line sdu client)
object_fair L2cap sdu client = answer_direct (answer_at client.session.awaited client.session sdu) client
object_fair Rfcomm sdu client = up_muxed (up sdu client.mux) (record client { mux = hears sdu client.mux })

-- what its query finds blames nobody
abbrev pub FindsSpared : Settings → (psm : ℕ) (sdu : List ℕ) → Client → Type 0
FindsSpared settings psm sdu client = client.stage ≡ Search → (psm == search_psm) ≡ true → Within (is_spared settings) (found_shows client.transport (found_at client.query sdu))

abbrev IsSparedSdu : Settings → Deed → Client → Type 0
IsSparedSdu settings (Hears (events.Sdu psm sdu)) client = FindsSpared settings psm sdu client
IsSparedSdu settings deed client = Unit {0}

module _ (settings : Settings) where
  fairly : (shown : Option Outcome) → Within (is_fair settings.transport) shown → Within (is_spared settings) shown
  fairly shown fair = within_more (is_fair settings.transport) (is_spared settings) (fair_spared settings) shown fair

  -- on a channel of its object, over its transport
  object_spared : (here : Bool) (shown : Transport → Option Outcome) (client : Client) → client.transport ≡ settings.transport → ((line : Transport) → Within (is_fair line) (shown line)) → Within (is_spared settings) (cond here (shown client.transport) None)
  object_spared true shown client over fair = subst (λ (line : Transport). Within (is_spared settings) (shown line)) (sym over) (fairly (shown settings.transport) (fair settings.transport))
  object_spared false shown client over fair = tt

  sdu_spared : (stage : Stage) (psm : ℕ) (sdu : List ℕ) (client : Client) → client.stage ≡ stage → client.transport ≡ settings.transport → FindsSpared settings psm sdu client → Within (is_spared settings) (sdu_shows stage psm sdu client)
  sdu_spared Search psm sdu client at over finds = by (psm == search_psm) (finds at)
    where
      by : (here : Bool) → (here ≡ true → Within (is_spared settings) (found_shows client.transport (found_at client.query sdu))) → Within (is_spared settings) (cond here (found_shows client.transport (found_at client.query sdu)) None)
      by true found = found refl
      by false found = tt
  sdu_spared (ObjectChannel point) psm sdu client at over finds = object_spared (psm == client.psm) (λ line. outside_shows line) client over outside_fair
  sdu_spared Object psm sdu client at over finds = object_spared (psm == client.psm) (λ line. object_shows line sdu client) client over (λ line. object_fair line sdu client)
  sdu_spared (ObjectEnd point) psm sdu client at over finds = object_spared (psm == client.psm) (λ line. outside_shows line) client over outside_fair
  sdu_spared Rest psm sdu client at over finds = tt
  sdu_spared (Link point) psm sdu client at over finds = tt
  sdu_spared (SearchChannel point) psm sdu client at over finds = tt
  sdu_spared (SearchEnd point) psm sdu client at over finds = tt
  sdu_spared (Features point) psm sdu client at over finds = tt
  sdu_spared (LinkEnd point) psm sdu client at over finds = tt
  sdu_spared Over psm sdu client at over finds = tt

  -- ---- all that it hears and does

  shown_spared : (deed : Deed) (client : Client) → ShowsWithin is_any deed → Within (is_spared settings) (shows deed client)
  shown_spared deed client shown = fairly (shows deed client) (within_more is_any (is_fair settings.transport) (any_fair settings.transport) (shows deed client) (shown client))

  news_spared : (news : events.News) (client : Client) → client.transport ≡ settings.transport → IsSparedSdu settings (Hears news) client → Within (is_spared settings) (news_show news client)
  news_spared events.LinkUp client over so = tt
  news_spared (events.LinkDown reason) client over so = either (is_spared settings) (is_linked client.stage) (Some (cause_of_link reason)) None (fairly (Some (cause_of_link reason)) (link_fair settings.transport reason)) tt
  news_spared (events.LinkFailed status) client over so = either (is_spared settings) (is_paging client.stage) (Some (cause_of_page status)) None (fairly (Some (cause_of_page status)) (page_fair settings.transport status)) tt
  news_spared (events.ChannelOpen psm mtu) client over so = shown_spared (Hears (events.ChannelOpen psm mtu)) client (opens_shown psm mtu)
  news_spared (events.ChannelClosed psm cause) client over so = shown_spared (Hears (events.ChannelClosed psm cause)) client (closes_shown psm cause)
  news_spared (events.Sdu psm sdu) client over so = sdu_spared client.stage psm sdu client refl over so
  news_spared events.FeaturesTold client over so = tt
  news_spared events.FeaturesLost client over so = shown_spared (Hears events.FeaturesLost) client lost_shown
  news_spared events.Timer client over so = shown_spared (Hears events.Timer) client timer_shown

  shows_spared : (deed : Deed) (client : Client) → client.transport ≡ settings.transport → IsSparedSdu settings deed client → Within (is_spared settings) (shows deed client)
  shows_spared (Hears news) client over so = news_spared news client over so
  shows_spared (Asks parts) client over so = shown_spared (Asks parts) client (asks_shown parts)
  shows_spared Finishes client over so = tt
  shows_spared Cancels client over so = either (is_spared settings) (may_cancel client) (Some Cancelled) None refl tt

  -- ---- a client that blames none, over its transport

  pub record IsClear (client : Client) : Type 0 where
    pub over : IsOver settings.transport client
    pub spares : Within (is_spared settings) client.cause

  spares_then : (old new : Option Outcome) → Came (is_spared settings) old new → Within (is_spared settings) old → Within (is_spared settings) new
  spares_then None new came spares = came
  spares_then (Some outcome) new came spares = subst (Within (is_spared settings)) (sym came) spares

  pub deed_clear : (deed : Deed) (client : Client) → IsSparedSdu settings deed client → IsClear client → IsClear (done deed client)
  deed_clear deed client so clear = record {
    over = stays_over settings.transport (Does deed ∷ []) client clear.over;
    spares = spares_then client.cause (done deed client).cause (came_by (is_spared settings) deed client (shows_spared deed client clear.over.0 so)) clear.spares;
  }

  begins_spare : (size : Result ℕ PortFault) (name : List ℕ) (client : Client) → Within (is_spared settings) client.cause → Within (is_spared settings) (begins size name client).cause
  begins_spare size name client spares = by client.failed size
    where
      by : (failed : Bool) (size : Result ℕ PortFault) → Within (is_spared settings) (cond failed client (begun_by size name client)).cause
      by true size = spares
      by false (Ok count) = tt
      by false (Err fault.Failed) = refl
      by false (Err fault.NoMemory) = spares

  pub begins_clear : (size : Result ℕ PortFault) (name : List ℕ) (client : Client) → IsClear client → IsClear (begins size name client)
  begins_clear size name client clear = record { over = stays_over settings.transport (Begins size name ∷ []) client clear.over; spares = begins_spare size name client clear.spares }
