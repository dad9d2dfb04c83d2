-- Whatever a host hears and says, its channels are fit: so what it says is read as it was meant.
use Rattle.std.proofs.Common.{◌≡◌, ℕ, zero, suc, ◌^◌, ◌<◌, List, [], ◌∷◌, length, Bool, true, false, Option, Some, None, is_some, refl, arith, if◌then◌else◌}
use Rattle.std.specs.Prelude.{not, ◌&&◌}
use Rattle.std.proofs.lemmas.Bool.{and_parts, leb-true}
use Rattle.shelf_model.specs.acl_fragments.specs.Pieces.{channel_of}
use Rattle.shelf_model.specs.bt_base.specs.Objects.{Contents}
use Rattle.shelf_model.specs.bt_base.specs.declared.settings.Settings.{Settings}
use Rattle.channel_laws.specs.channel_model.specs.declared.event.ChannelEvent.{ChannelEvent}
use Rattle.channel_laws.specs.channel_model.specs.declared.event.ChannelEvent.TheVariants.{Opened, Closed, Features, FeaturesLost, DisconnectLost}
use Rattle.channel_laws.specs.channel_model.specs.Value.{Channels, no_channels}
use Rattle.channel_laws.specs.channel_model.specs.Policies.{Policy, policy}
use Rattle.channel_laws.specs.channel_model.specs.Calls.{link_up, link_down, connected, asks_features, disconnected, sends, peer_mtu, waits}
use Rattle.channel_laws.specs.channel_model.specs.Giving.{next_given, after_given}
use Rattle.channel_laws.specs.channel_model.specs.Timing.{timed_out}
use Rattle.channel_laws.specs.channel_model.specs.Hearing.{hears, up}
use Rattle.channel_laws.specs.channel_model.specs.Carrying.{Up as Handed, Nothing, Received}
use Rattle.channel_laws.proofs.Fitted.{IsLowPsm, low-psm, FittedLow, told-fitted, new-fitted, comes-fitted, connects-fitted, asks-fitted, disconnects-fitted, sends-fitted, timed-fitted, gives-fitted}
use Rattle.channel_laws.proofs.Numbering.{AreNumbered, told-numbered, occurs-numbered, mtu-short, new-numbered}
use Rattle.channel_laws.specs.Runs.{Comes, Connects, AsksFeatures, Disconnects, Sends, Gives, Fires}
use Rattle.shelf_model.specs.world_model.specs.Machines.{Up, Down, News, Linked, Failed, Heard, TimerFired, Cancelled, Opening}
use Rattle.push_laws.specs.push_model.specs.declared.closing.CloseCause.{CloseCause}
use Rattle.push_laws.specs.push_model.specs.Client.{Client, begins, cancelled}
use Rattle.push_laws.specs.push_model.specs.Events as events
use Rattle.push_laws.specs.push_model.specs.Payloads.{Payload}
use Rattle.push_laws.specs.push_model.specs.Server.{Server, Lent, lends, lent_sdu}
use Rattle.push_laws.specs.push_model.specs.Steps.{Step, Wait, MakeLink, AskFeatures, OpenChannel, SendSdu, CloseChannel, BreakLink, Ended, NoMemory, steps}
use Rattle.shelf_model.specs.host_model.specs.Circumstances.{Circumstance}
use Rattle.shelf_model.specs.host_model.specs.Endpoints.{endpoint_of, fits, takes_sdu}
use Rattle.shelf_model.specs.host_model.specs.Pdus.{sdu_of, are_octets}
use Rattle.shelf_model.specs.host_model.specs.Profiles.{Stride, Profile}
use Rattle.shelf_model.specs.host_model.specs.Hosts.{Host, first_host, tells_each, tells_events, settles, strides, goes_by, drives, most_steps, steps_behind, handed, hears_pdu, ready, hears_news, hear, after_said}
use Rattle.shelf_model.specs.host_model.specs.Clients as clients
use Rattle.shelf_model.specs.host_model.specs.Clients.{ClientProfile, client_profile, after_end, ended, after_call, calls, cause_of, closed_by, opened_by, event_heard, sent_on, NoBid, fitted}
use Rattle.shelf_model.specs.host_model.specs.Servers as servers
use Rattle.shelf_model.specs.host_model.specs.Servers.{ServerProfile, server_profile}
use Rattle.shelf_model.specs.host_model.specs.Shelves.{size_for, name_for, unused}
use Rattle.host_laws.specs.Read.{IsSoberPdu, IsHeardSo}
use Rattle.host_laws.proofs.Reaching.{IsLowNumber, IsLow, opens, news-low, cancelled-low, begins-low, steps-low}

-- ---- channels

-- what stays so of channels with all that a host does to them, where `S` is what is asked of a PDU that comes in: an SDU is sent where one
-- is taken
pub record HoldsOn (policy : Policy) (S : List ℕ → Type 0) (K : Channels → Type 0) : Type 0 where
  pub new : (events : List ChannelEvent) → K (record no_channels { events = events })
  pub told : (events : List ChannelEvent) (v : Channels) → K v → K (record v { events = events })
  pub comes : (pdu : List ℕ) (v : Channels) → S pdu → K v → K (hears policy (channel_of pdu) pdu v)
  pub timed : (v : Channels) → K v → K (timed_out policy v)
  pub gives : (v : Channels) → K v → K (after_given v)
  pub connects : (psm : ℕ) (v : Channels) → psm < 2 ^ 16 → K v → K (connected psm v)
  pub asks : (v : Channels) → K v → K (asks_features v)
  pub disconnects : (own : ℕ) (v : Channels) → K v → K (disconnected own v)
  pub sends : (own : ℕ) (sdu : List ℕ) (v : Channels) → takes_sdu own sdu v ≡ true → K v → K (sends own sdu v)

-- what of that a host does to its channels without its profile
pub record Heeds (policy : Policy) (S : List ℕ → Type 0) (K : Channels → Type 0) : Type 0 where
  pub new : (events : List ChannelEvent) → K (record no_channels { events = events })
  pub told : (events : List ChannelEvent) (v : Channels) → K v → K (record v { events = events })
  pub comes : (pdu : List ℕ) (v : Channels) → S pdu → K v → K (hears policy (channel_of pdu) pdu v)
  pub timed : (v : Channels) → K v → K (timed_out policy v)
  pub gives : (v : Channels) → K v → K (after_given v)

heeds_of : (policy : Policy) (S : List ℕ → Type 0) (K : Channels → Type 0) → HoldsOn policy S K → Heeds policy S K
heeds_of policy S K holds = record { new = holds.new; told = holds.told; comes = holds.comes; timed = holds.timed; gives = holds.gives }

-- they are fit, and the numbers of their frames fit
pub record IsProper (policy : Policy) (v : Channels) : Type 0 where
  pub fitted : FittedLow v
  pub numbered : AreNumbered policy v

-- an SDU that a channel takes is short
takes_short : (wanted : Policy) (own : ℕ) (sdu : List ℕ) (v : Channels) → takes_sdu own sdu v ≡ true → AreNumbered wanted v → length sdu < 2 ^ 16
takes_short wanted own sdu v taken so = by (peer_mtu own v) refl (and_parts (fits (length sdu) (peer_mtu own v)) (not (waits own v)) (and_parts (fits (length sdu) (peer_mtu own v) && not (waits own v)) (are_octets sdu) taken).0).0
  where
    by : (mtu : Option ℕ) → peer_mtu own v ≡ mtu → fits (length sdu) mtu ≡ true → length sdu < 2 ^ 16
    by None is fit = cc
    by (Some most) is fit = let short = mtu-short wanted own v most so is in let within = leb-true (length sdu) most fit in omega (arith, short, within)

pub proper-holds : (wanted : Policy) → HoldsOn wanted IsSoberPdu (IsProper wanted)
proper-holds wanted =
    let F = IsLowPsm in
    record {
      new = λ events. record { fitted = new-fitted F low-psm events; numbered = new-numbered wanted events };
      told = λ events v so. record { fitted = told-fitted F low-psm events v so.fitted; numbered = told-numbered wanted events v so.numbered };
      comes = λ pdu v octets so. record { fitted = comes-fitted F low-psm wanted pdu v octets so.fitted; numbered = occurs-numbered wanted (Comes pdu) v tt so.numbered };
      timed = λ v so. record { fitted = timed-fitted F low-psm wanted v so.fitted; numbered = occurs-numbered wanted Fires v tt so.numbered };
      gives = λ v so. record { fitted = gives-fitted F low-psm v so.fitted; numbered = occurs-numbered wanted (Gives []) v tt so.numbered };
      connects = λ psm v low so. record { fitted = connects-fitted F low-psm psm v low so.fitted; numbered = occurs-numbered wanted (Connects psm) v tt so.numbered };
      asks = λ v so. record { fitted = asks-fitted F low-psm v so.fitted; numbered = occurs-numbered wanted AsksFeatures v tt so.numbered };
      disconnects = λ own v so. record { fitted = disconnects-fitted F low-psm own v so.fitted; numbered = occurs-numbered wanted (Disconnects own) v tt so.numbered };
      sends = λ own sdu v taken so. record { fitted = sends-fitted F low-psm own sdu v so.fitted; numbered = occurs-numbered wanted (Sends own sdu) v (takes_short wanted own sdu v taken so.numbered) so.numbered };
    }

-- nothing at all is so of any
pub any-holds : (wanted : Policy) → HoldsOn wanted (λ pdu. Unit {0}) (λ v. Unit {0})
any-holds wanted = record {
  new = λ events. tt;
  told = λ events v so. tt;
  comes = λ pdu v any so. tt;
  timed = λ v so. tt;
  gives = λ v so. tt;
  connects = λ psm v low so. tt;
  asks = λ v so. tt;
  disconnects = λ own v so. tt;
  sends = λ own sdu v taken so. tt;
}

-- ---- a host of any profile

-- what is so of a profile, whatever it is told: what it asks for leaves its channels so
pub record KeepsFit {P : Type 0} (A : Profile P) (S : List ℕ → Type 0) (K : Channels → Type 0) (Q : P → Type 0) : Type 0 where
  pub holds : Heeds A.policy S K
  pub first : Q A.first
  pub given : (circumstances : List Circumstance) (p : P) → Q p → Q (A.given circumstances p)
  pub told : (circumstances : List Circumstance) (news : News) (p : P) → Q p → Q (A.told circumstances news p)
  pub received : (own psm : ℕ) (sdu : List ℕ) (p : P) → Q p → Q (A.received own psm sdu p)
  pub happened : (event : ChannelEvent) (v : Channels) (p : P) → Q p → Q (A.happened event v p)
  pub sent : (v : Channels) (p : P) → Q p → Q (A.sent v p)
  pub steps : (v : Channels) (p : P) → K v → Q p → K (A.steps v p).channels × Q (A.steps v p).profile

pub record FitHost {P : Type 0} (K : Channels → Type 0) (Q : P → Type 0) (host : Host P) : Type 0 where
  pub channels : K host.channels
  pub profile : Q host.profile

module _ {P : Type 0} (A : Profile P) (S : List ℕ → Type 0) (K : Channels → Type 0) (Q : P → Type 0) (keeps : KeepsFit A S K Q) where
  each_fits : (list : List ChannelEvent) (v : Channels) (p : P) → Q p → Q (tells_each A list v p)
  each_fits [] v p so = so
  each_fits (event ∷ list) v p so = each_fits list (record v { events = list }) (A.happened event (record v { events = list }) p) (keeps.happened event (record v { events = list }) p so)

  tells_fit : (host : Host P) → FitHost K Q host → FitHost K Q (tells_events A host)
  tells_fit host fit = record { channels = keeps.holds.told [] host.channels fit.channels; profile = each_fits host.channels.events host.channels host.profile fit.profile }

  settles_fit : (host : Host P) → FitHost K Q host → FitHost K Q (settles A host)
  settles_fit host fit = record { channels = fit.channels; profile = keeps.sent host.channels host.profile fit.profile }

  strides_fit : (host : Host P) → FitHost K Q host → FitHost K Q (strides A (A.steps host.channels host.profile) host)
  strides_fit host fit =
      let (channels, profile) = keeps.steps host.channels host.profile fit.channels fit.profile in
      tells_fit (record host { channels = (A.steps host.channels host.profile).channels; profile = (A.steps host.channels host.profile).profile }) (record { channels = channels; profile = profile })

  more_fit : (more : Host P → Host P) (test : Bool) (host : Host P) → ((next : Host P) → FitHost K Q next → FitHost K Q (more next)) → FitHost K Q host
      → (let stride = A.steps host.channels host.profile in FitHost K Q (if test then more (strides A stride host) else strides A stride host))
  more_fit more true host goes fit = goes (strides A (A.steps host.channels host.profile) host) (strides_fit host fit)
  more_fit more false host goes fit = strides_fit host fit

  goes_fit : (more : Host P → Host P) (test : Bool) (host : Host P) → ((next : Host P) → FitHost K Q next → FitHost K Q (more next)) → FitHost K Q host → FitHost K Q (if test then host else goes_by A more (A.steps host.channels host.profile) host)
  goes_fit more true host goes fit = fit
  goes_fit more false host goes fit = more_fit more (A.steps host.channels host.profile).more host goes fit

  drives_fit : (count : ℕ) (host : Host P) → FitHost K Q host → FitHost K Q (drives A count host)
  unfolding drives
  drives_fit zero host fit = settles_fit host fit
  drives_fit (suc count) host fit = let now = settles A host in goes_fit (λ next. drives A count next) (is_some (next_given now.channels)) now (λ next. drives_fit count next) (settles_fit host fit)

  handed_fits : (handed_up : Handed) (p : P) → Q p → Q (handed A handed_up p)
  handed_fits Nothing p so = so
  handed_fits (Received own psm sdu) p so = keeps.received own psm sdu p so

  pdu_fits : (pdu : List ℕ) (host : Host P) → S pdu → FitHost K Q host → FitHost K Q (hears_pdu A pdu host)
  pdu_fits pdu host octets fit =
      tells_fit (record host { channels = hears A.policy (channel_of pdu) pdu host.channels; profile = handed A (up (channel_of pdu) pdu host.channels) host.profile })
      (record { channels = keeps.holds.comes pdu host.channels octets fit.channels; profile = handed_fits (up (channel_of pdu) pdu host.channels) host.profile fit.profile })

  told_fits : (circumstances : List Circumstance) (news : News) (host : Host P) → FitHost K Q host → FitHost K Q (record host { profile = A.told circumstances news host.profile })
  told_fits circumstances news host fit = record { channels = fit.channels; profile = keeps.told circumstances news host.profile fit.profile }

  news_fits : (circumstances : List Circumstance) (news : News) (host : Host P) → IsHeardSo S news → FitHost K Q host → FitHost K Q (hears_news A circumstances news host)
  news_fits circumstances (Linked Up) host sober fit = told_fits circumstances (Linked Up) (record host { channels = link_up host.channels }) (record { channels = keeps.holds.new host.channels.events; profile = fit.profile })
  news_fits circumstances (Linked (Down reason)) host sober fit =
      let gone : Host P = record host { channels = link_down host.channels } in told_fits circumstances (Linked (Down reason)) (tells_events A gone) (tells_fit gone (record { channels = keeps.holds.new gone.channels.events; profile = fit.profile }))
  news_fits circumstances (Failed status) host sober fit = told_fits circumstances (Failed status) host fit
  news_fits circumstances (Heard pdu) host sober fit = pdu_fits pdu host sober fit
  news_fits circumstances TimerFired host sober fit =
      let timed : Host P = record host { channels = timed_out A.policy host.channels } in told_fits circumstances TimerFired (tells_events A timed) (tells_fit timed (record { channels = keeps.holds.timed host.channels fit.channels; profile = fit.profile }))
  news_fits circumstances Cancelled host sober fit = told_fits circumstances Cancelled host fit
  news_fits circumstances (Opening name) host sober fit = told_fits circumstances (Opening name) host fit

  pub first-fits : FitHost K Q (first_host A)
  first-fits = record { channels = keeps.holds.new []; profile = keeps.first }

  pub hears-fit : (circumstances : List Circumstance) (news : News) (host : Host P) → IsHeardSo S news → FitHost K Q host → FitHost K Q (hear A circumstances news host)
  hears-fit circumstances news host sober fit =
      let now = ready A circumstances host in
      drives_fit most_steps (hears_news A circumstances news now) (news_fits circumstances news now sober (record { channels = fit.channels; profile = keeps.given circumstances host.profile fit.profile }))

  -- where its link comes up its channels are new
  pub up-fits : (circumstances : List Circumstance) (host : Host P) → Q host.profile → FitHost K Q (hear A circumstances (Linked Up) host)
  up-fits circumstances host so =
      let now = ready A circumstances host in
      drives_fit most_steps (hears_news A circumstances (Linked Up) now) (told_fits circumstances (Linked Up) (record now { channels = link_up now.channels }) (record { channels = keeps.holds.new now.channels.events; profile = keeps.given circumstances host.profile so }))

  pub said-fits : (count : ℕ) (host : Host P) → FitHost K Q host → FitHost K Q (after_said A count host)
  said-fits count host fit =
      let given : Host P = record host { channels = after_given host.channels } in
      let driven : FitHost K Q (drives A (steps_behind count) given) = drives_fit (steps_behind count) given (record { channels = keeps.holds.gives host.channels fit.channels; profile = fit.profile }) in
      record { channels = driven.channels; profile = driven.profile }

-- ---- a server

abbrev pub AnyServer : ServerProfile → Type 0
AnyServer serving = Unit {0}

module _ (K : Channels → Type 0) (sending : (own : ℕ) (sdu : List ℕ) (v : Channels) → takes_sdu own sdu v ≡ true → K v → K (sends own sdu v)) where
  server_sends : (taken : Bool) (own : ℕ) (lent : Lent) (v : Channels) (server after : Server) (serving : ServerProfile) → takes_sdu own (sdu_of lent.payload) v ≡ taken → K v
      → (let took : Stride ServerProfile = record { channels = sends own (sdu_of lent.payload) v; profile = record serving { server = after }; more = true } in K (if taken then took else servers.waiting v server serving).channels)
  server_sends true own lent v server after serving taken fitted = sending own (sdu_of lent.payload) v taken fitted
  server_sends false own lent v server after serving taken fitted = fitted

  server_lends : (lent : Option Lent) (v : Channels) (server : Server) (serving : ServerProfile) → K v → K (servers.takes lent v server serving).channels
  server_lends None v server serving fitted = fitted
  server_lends (Some lent) v server serving fitted = by (endpoint_of lent.psm serving.endpoints)
    where
      by : (own : Option ℕ) → K (servers.submits own lent v server serving).channels
      by None = fitted
      by (Some own) = server_sends (takes_sdu own (sdu_of lent.payload) v) own lent v server _ serving refl fitted

-- it asks for no channel, and for the end of none
pub servers-keep_so : (settings : Settings) (content : Option Contents) (S : List ℕ → Type 0) (K : Channels → Type 0) → Heeds (policy settings true) S K → ((own : ℕ) (sdu : List ℕ) (v : Channels) → takes_sdu own sdu v ≡ true → K v → K (sends own sdu v))
    → KeepsFit (server_profile settings content) S K AnyServer
servers-keep_so settings content S K heeds sending = record {
  holds = heeds;
  first = tt;
  given = λ circumstances p so. tt;
  told = λ circumstances news p so. tt;
  received = λ own psm sdu p so. tt;
  happened = λ event v p so. tt;
  sent = λ v p so. tt;
  steps = λ v p fitted so. (server_lends K sending (lent_sdu (lends p.server)) v (lends p.server) p fitted, tt);
}

pub servers-keep_fit : (settings : Settings) (content : Option Contents) (S : List ℕ → Type 0) (K : Channels → Type 0) → HoldsOn (policy settings true) S K → KeepsFit (server_profile settings content) S K AnyServer
servers-keep_fit settings content S K holds = servers-keep_so settings content S K (heeds_of (policy settings true) S K holds) holds.sends

-- ---- a client

abbrev pub IsLowClient : ClientProfile → Type 0
IsLowClient pushing = IsLow pushing.client

end_low : (step : Step) (after before : Client) → IsLow after → IsLow before → IsLow (after_end step after before)
end_low (Ended outcome) after before one other = one
end_low Wait after before one other = other
end_low MakeLink after before one other = other
end_low AskFeatures after before one other = other
end_low (OpenChannel psm) after before one other = other
end_low (SendSdu psm payload) after before one other = other
end_low (CloseChannel psm) after before one other = other
end_low BreakLink after before one other = other
end_low NoMemory after before one other = other

ended_low : (client : Client) → IsLow client → IsLow (ended client)
ended_low client low = end_low (steps client []).step (steps client []).client client (steps-low client [] low).client low

call_low : (step : Step) (client : Client) (pushing : ClientProfile) → IsLow client → IsLowClient pushing → IsLowClient (after_call step client pushing)
call_low MakeLink client pushing one other = one
call_low Wait client pushing one other = other
call_low AskFeatures client pushing one other = other
call_low (OpenChannel psm) client pushing one other = other
call_low (SendSdu psm payload) client pushing one other = other
call_low (CloseChannel psm) client pushing one other = other
call_low BreakLink client pushing one other = other
call_low (Ended outcome) client pushing one other = other
call_low NoMemory client pushing one other = other

calls_low : (pushing : ClientProfile) → IsLowClient pushing → IsLowClient (calls pushing)
calls_low pushing low = call_low (steps pushing.client []).step (steps pushing.client []).client pushing (steps-low pushing.client [] low).client low

told_low : (circumstances : List Circumstance) (news : News) (pushing : ClientProfile) → IsLowClient pushing → IsLowClient (clients.told circumstances news pushing)
told_low circumstances (Linked Up) pushing low = news-low events.LinkUp pushing.client low
told_low circumstances (Linked (Down reason)) pushing low = ended_low (events.hears_news (events.LinkDown reason) pushing.client) (news-low (events.LinkDown reason) pushing.client low)
told_low circumstances (Failed status) pushing low = ended_low (events.hears_news (events.LinkFailed status) pushing.client) (news-low (events.LinkFailed status) pushing.client low)
told_low circumstances (Heard pdu) pushing low = low
told_low circumstances TimerFired pushing low = news-low events.Timer pushing.client low
told_low circumstances Cancelled pushing low = ended_low (cancelled pushing.client) (cancelled-low pushing.client low)
told_low circumstances (Opening name) pushing low =
    let client = begins (size_for circumstances name) (name_for name) pushing.client in
    calls_low (record pushing { client = ended client; submitted = None; bid = NoBid }) (ended_low client (begins-low (size_for circumstances name) (name_for name) pushing.client low))

closed_low : (cause : Option CloseCause) (psm : ℕ) (client : Client) → IsLow client → IsLow (closed_by cause psm client)
closed_low None psm client low = low
closed_low (Some cause) psm client low = news-low (events.ChannelClosed psm cause) client low

opened_low : (mtu : Option ℕ) (psm : ℕ) (client : Client) → IsLow client → IsLow (opened_by mtu psm client)
opened_low None psm client low = low
opened_low (Some mtu) psm client low = news-low (events.ChannelOpen psm mtu) client low

event_low : (event : ChannelEvent) (v : Channels) (client : Client) → IsLow client → IsLow (event_heard event v client)
event_low (Opened own psm) v client low = opened_low (peer_mtu own v) psm client low
event_low (Closed own psm reason) v client low = closed_low (cause_of reason) psm client low
event_low (Features features) v client low = news-low events.FeaturesTold client low
event_low FeaturesLost v client low = news-low events.FeaturesLost client low
event_low (DisconnectLost own) v client low = low

sent_low : (submitted : Option ℕ) (v : Channels) (pushing : ClientProfile) → IsLowClient pushing → IsLowClient (sent_on submitted v pushing)
sent_low None v pushing low = low
sent_low (Some own) v pushing low = by (waits own v)
  where
    by : (waiting : Bool) → IsLowClient (if waiting then pushing else clients.done (record pushing { submitted = None }))
    by true = low
    by false = low

module _ (policy : Policy) (S : List ℕ → Type 0) (K : Channels → Type 0) (holds : HoldsOn policy S K) where
  abbrev IsLowStride : Stride ClientProfile → Type 0
  IsLowStride stride = K stride.channels × IsLowClient stride.profile

  client_sends : (taken : Bool) (own : ℕ) (payload : Payload) (v : Channels) (pushing : ClientProfile) → takes_sdu own (sdu_of payload) v ≡ taken → K v → IsLowClient pushing → IsLowStride (if taken then clients.waiting (sends own (sdu_of payload) v) (record pushing { submitted = Some own }) else clients.waiting v pushing)
  client_sends true own payload v pushing taken fitted low = (holds.sends own (sdu_of payload) v taken fitted, low)
  client_sends false own payload v pushing taken fitted low = (fitted, low)

  submits_low : (own : Option ℕ) (payload : Payload) (v : Channels) (pushing : ClientProfile) → K v → IsLowClient pushing → IsLowStride (clients.submits own payload v pushing)
  submits_low None payload v pushing fitted low = (fitted, low)
  submits_low (Some own) payload v pushing fitted low = client_sends (takes_sdu own (sdu_of payload) v) own payload v pushing refl fitted low

  closes_low : (own : Option ℕ) (v : Channels) → K v → K (clients.closes own v)
  closes_low None v fitted = fitted
  closes_low (Some own) v fitted = holds.disconnects own v fitted

  stepped_low : (step : Step) (v : Channels) (now before : ClientProfile) → IsLowNumber (opens step) → IsLowClient now → K v → IsLowClient before → IsLowStride (clients.takes step v now before)
  stepped_low Wait v now before psm_low so fitted low = (fitted, so)
  stepped_low MakeLink v now before psm_low so fitted low = (fitted, low)
  stepped_low AskFeatures v now before psm_low so fitted low = (holds.asks v fitted, so)
  stepped_low (OpenChannel psm) v now before psm_low so fitted low = (holds.connects psm v psm_low fitted, so)
  stepped_low (SendSdu psm payload) v now before psm_low so fitted low = submits_low (endpoint_of psm now.endpoints) payload v now fitted so
  stepped_low (CloseChannel psm) v now before psm_low so fitted low = (closes_low (endpoint_of psm now.endpoints) v fitted, so)
  stepped_low BreakLink v now before psm_low so fitted low = (fitted, so)
  stepped_low (Ended outcome) v now before psm_low so fitted low = (fitted, so)
  stepped_low NoMemory v now before psm_low so fitted low = (fitted, so)

  client_steps : (v : Channels) (pushing : ClientProfile) → K v → IsLowClient pushing → IsLowStride (clients.next_stride v pushing)
  client_steps v pushing fits low =
      let one = steps pushing.client (fitted pushing) in
      let so = steps-low pushing.client (fitted pushing) low in
      stepped_low one.step v (record pushing { client = one.client; parts = unused one.left pushing.parts }) pushing so.opens so.client fits low

pub clients-keep_fit : (settings : Settings) (S : List ℕ → Type 0) (K : Channels → Type 0) → HoldsOn (policy settings false) S K → KeepsFit (client_profile settings) S K IsLowClient
clients-keep_fit settings S K holds = record {
  holds = heeds_of (policy settings false) S K holds;
  first = omega arith;
  given = λ circumstances p so. so;
  told = told_low;
  received = λ own psm sdu p so. news-low (events.Sdu psm sdu) p.client so;
  happened = λ event v p so. event_low event v p.client so;
  sent = λ v p so. sent_low p.submitted v p so;
  steps = client_steps (policy settings false) S K holds;
}
