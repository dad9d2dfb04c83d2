-- A client asks for one channel after the other on each of its links.
use Rattle.std.proofs.Common.{◌≡◌, ℕ, Bool, true, false, cond, eqb, ◌≤◌, arith, ◌||◌, ◌&&◌, not, List, [], ◌∷◌, ◌++◌, map, Option, Some, None, refl, sym, ap, subst, ◌∙◌, ◌⊎◌, inl, inr, append-nil, append_assoc}
use Rattle.std.specs.List.{AllByRecursion, flat_map, list_any}
use Rattle.std.proofs.lemmas.List.Sums.{fold-append}
use Rattle.shelf_model.specs.bt_base.specs.declared.settings.Settings.{Settings}
use Rattle.shelf_model.specs.acl_fragments.specs.Pieces.{channel_of}
use Rattle.shelf_model.specs.capture.specs.Histories.{EachAfter}
use Rattle.shelf_model.specs.capture.specs.declared.flow.Flow.TheVariants.{Out}
use Rattle.channel_laws.specs.channel_model.specs.declared.event.ChannelEvent.{ChannelEvent}
use Rattle.channel_laws.specs.channel_model.specs.Value.{Channels, no_channels}
use Rattle.channel_laws.specs.channel_model.specs.Policies.{Policy, policy}
use Rattle.channel_laws.specs.channel_model.specs.Calls.{link_down, peer_mtu, sends, waits}
use Rattle.channel_laws.specs.channel_model.specs.Carrying.{Up as Handed, Nothing, Received}
use Rattle.channel_laws.specs.channel_model.specs.Hearing.{up}
use Rattle.channel_laws.specs.Connections.{requests_by, requests_for}
use Rattle.channel_laws.specs.Runs.{Occurrence, Comes, Connects, AsksFeatures, Disconnects, Sends, Gives, Fires, Tells, new_link, run_on, run_of}
use Rattle.channel_laws.proofs.NamedApart.{requests-more}
use Rattle.channel_laws.specs.Singly.{calls_that_went, AsksSo, AsksForNoChannel}
use Rattle.push_laws.specs.push_model.specs.declared.course.Point.TheVariants.{Asked}
use Rattle.push_laws.specs.push_model.specs.declared.course.Stage.{Stage}
use Rattle.push_laws.specs.push_model.specs.declared.course.Stage.TheVariants.{SearchChannel, ObjectChannel}
use Rattle.push_laws.specs.push_model.specs.Client.{Client, begins, cancelled}
use Rattle.push_laws.specs.push_model.specs.Events as events
use Rattle.push_laws.specs.push_model.specs.Payloads.{Payload}
use Rattle.push_laws.specs.push_model.specs.Steps.{Step, Wait, MakeLink, AskFeatures, OpenChannel, SendSdu, CloseChannel, BreakLink, Ended, NoMemory, steps, stepped}
use Rattle.shelf_model.specs.world_model.specs.Machines.{LinkEvent, Up, Down, News, Linked, Failed, Heard, TimerFired, Cancelled, Opening}
use Rattle.shelf_model.specs.host_model.specs.Circumstances.{Circumstance}
use Rattle.shelf_model.specs.host_model.specs.Endpoints.{endpoint_of, takes_sdu}
use Rattle.shelf_model.specs.host_model.specs.Pdus.{sdu_of}
use Rattle.shelf_model.specs.host_model.specs.Hosts.{tells_each, handed}
use Rattle.shelf_model.specs.host_model.specs.Clients.{ClientProfile, NoBid, client_profile, told, ended, after_call, event_heard, happened, done, sent_on, waiting, submits, takes, fitted}
use Rattle.shelf_model.specs.host_model.specs.Shelves.{size_for, name_for, unused}
use Rattle.host_laws.specs.Calls.{Asks, from_call, values_after}
use Rattle.host_laws.specs.ClientCalls.{AsksWell, ClientsAskInOrder, ClientsAskOnce}
use Rattle.host_laws.specs.Feeds.{tidings_by}
use Rattle.host_laws.specs.InOrder.{seeks_object, may_carry, may_ask, CallsInOrder}
use Rattle.host_laws.specs.Lives.{Span, on_links}
use Rattle.host_laws.specs.OverLinks.{talk_marks}
use Rattle.host_laws.specs.Searching.{AsksAsItSteps}
use Rattle.host_laws.proofs.Links.{value_run}
use Rattle.host_laws.specs.Woven.{Strand, Hearing, Giving, Firing, Telling, Gifting, Learning, Checking, Stepping, IsOnLink, told_next, strand_list, strand_profile, woven_list, woven_profile, Woven, turned, AreWoven}
use Rattle.host_laws.proofs.Asking.{send_if, sends_on, closes_on, asked, hosts_ask}
use Rattle.host_laws.proofs.AskingOnce.{may_name, NoneIsHeld, OneIsHeld, NoneWaits, first-free, first-one, first-none, asks-none, on-free, on-one, on-none, free-none, asks-search, opens-search, searches-seek_none}
use Rattle.host_laws.proofs.Calling.{clients-call_in_order}
use Rattle.host_laws.proofs.OverLinks.{hosts_talk_woven}
use Rattle.host_laws.proofs.Refusing.{OffersNone, value_of, value-more}
use Rattle.host_laws.proofs.Standing.{At, Stands, Opening as Opens, Questioning, StandsBehind, at-each, at-all, cancels-stand, down-stands, failed-stands, up-stands, event-stands, receives-stand, fires-stand, begins-stand, steps-stand, ended-stands}
use Rattle.host_laws.proofs.Stepping.{asked_is, clients_step}

-- one list behind the other
each-both : {X : Type 0} (P : List X → X → Type 0) (past xs ys : List X) → EachAfter P past xs → EachAfter P (past ++ xs) ys → EachAfter P past (xs ++ ys)
each-both P past [] ys one two = subst (λ l. EachAfter P l ys) (append-nil past) two
each-both P past (x ∷ xs) ys one two = (one.0, each-both P (past ++ x ∷ []) xs ys one.1 (subst (λ l. EachAfter P l ys) (sym (append_assoc past (x ∷ []) xs)) two))

-- the channels behind more that happens
values-more : (own : Policy) (front list : List Occurrence) → values_after own (value_of own front) list ≡ value_of own (front ++ list)
values-more own front list = sym (ap (λ run. run.value) (fold-append (run_on own) new_link front list) ∙ value_run own list (run_of own front))

peer_same : (endpoint : ℕ) (v w : Channels) → v.held ≡ w.held → peer_mtu endpoint w ≡ peer_mtu endpoint v
peer_same endpoint v w same = ap (λ held. peer_mtu endpoint (record no_channels { held = held })) (sym same)

may_by : (one other any : Bool) → (one || other) ≡ true → any ≡ false → (one || (other && not any)) ≡ true
may_by true other any named none = refl
may_by false true true named none = cc
may_by false true false named none = refl
may_by false false any named none = cc

no_channel : (more : Occurrence) → requests_by more ≡ 0 → AsksForNoChannel more
no_channel (Comes pdu) none = tt
no_channel (Connects psm) none = cc
no_channel AsksFeatures none = cc
no_channel (Disconnects own) none = tt
no_channel (Sends own sdu) none = tt
no_channel (Gives pdu) none = tt
no_channel Fires none = tt
no_channel Tells none = tt

module _ (settings : Settings) (asks : Asks (client_profile settings)) (as_steps : AsksAsItSteps settings asks) where
  -- ---- where the push stands at a moment on a link

  abbrev own : Policy
  own = policy settings false

  abbrev Unheld : List Occurrence → Type 0
  Unheld front = NoneIsHeld (policy settings false) front × (requests_for front ≤ 0)

  abbrev Single : List Occurrence → Type 0
  Single front = OneIsHeld (policy settings false) front × (requests_for front ≤ 5)

  abbrev Settled : List Occurrence → Type 0
  Settled front = NoneWaits (policy settings false) front × (requests_for front ≤ 5)

  -- and when it asked for the peer's features
  abbrev Told : List Occurrence → Type 0
  Told front = NoneWaits (policy settings false) front × (requests_for front ≤ 6)

  settles : (front : List Occurrence) → Settled front → Told front
  settles front (none, few) = (none, omega (arith, few))

  abbrev So : List Occurrence → Client → Type 0
  So front client = Stands settings.transport (Unheld front) (Single front) (Settled front) (Told front) client

  abbrev AreAsked : List Occurrence → List Occurrence → Type 0
  AreAsked front list = EachAfter (λ past one. AsksSo (may_ask settings.transport) one (run_of (policy settings false) past)) front list

  offers_none : OffersNone own
  offers_none psm = refl

  -- a link that is new has nothing on it
  fresh : (front : List Occurrence) (client : Client) → So front client → So [] client
  fresh front client s = record { direct = s.direct; named = s.named; at = at-all (Unheld []) (Single []) (Settled []) (Told []) (first-free own, omega arith) (first-one own, omega arith) (first-none own, omega arith) (first-none own, omega arith) client.stage client.cause }

  -- nothing is asked for
  as_few : (most : ℕ) (front : List Occurrence) (more : Occurrence) → requests_by more ≡ 0 → requests_for front ≤ most → requests_for (front ++ more ∷ []) ≤ most
  as_few most front more none few = let whole = requests-more front more in omega (arith, whole, none, few)

  quieter : (front : List Occurrence) (more : Occurrence) (client : Client) → requests_by more ≡ 0 → So front client → So (front ++ more ∷ []) client
  quieter front more client none s = record {
    direct = s.direct;
    named = s.named;
    at = at-each (Unheld front) (Single front) (Settled front) (Told front) (Unheld (front ++ more ∷ [])) (Single (front ++ more ∷ [])) (Settled (front ++ more ∷ [])) (Told (front ++ more ∷ []))
        (λ at. (on-free own offers_none front more (no_channel more none) at.0, as_few 0 front more none at.1))
        (λ at. (on-one own offers_none front more (no_channel more none) at.0, as_few 5 front more none at.1))
        (λ at. (on-none own offers_none front more (no_channel more none) at.0, as_few 5 front more none at.1))
        (λ at. (on-none own offers_none front more (no_channel more none) at.0, as_few 6 front more none at.1)) client.stage client.cause s.at;
  }

  stepped_so : (front : List Occurrence) (client : Client) → So front client → So front (stepped client)
  stepped_so front client s = record { direct = s.direct; named = s.named; at = s.at }

  -- what happens, what is asked with it, and where the push stands behind
  record Goes (front list : List Occurrence) (client : Client) : Type 0 where
    asked_so : AreAsked front list
    few : requests_for front ≤ 11 → requests_for (front ++ list) ≤ 11
    stands : So (front ++ list) client

  no_more : (front : List Occurrence) (client : Client) → So front client → Goes front [] client
  no_more front client s = record { asked_so = tt; few = λ few. subst (λ l. requests_for l ≤ 11) (sym (append-nil front)) few; stands = subst (λ l. So l client) (sym (append-nil front)) s }

  one_more : (front : List Occurrence) (more : Occurrence) (client : Client) → requests_by more ≡ 0 → So (front ++ more ∷ []) client → Goes front (more ∷ []) client
  one_more front more client none s = record { asked_so = (asks-none (may_ask settings.transport) more (run_of own front) (no_channel more none), tt); few = as_few 11 front more none; stands = s }

  quiet_more : (front : List Occurrence) (more : Occurrence) (client : Client) → requests_by more ≡ 0 → So front client → Goes front (more ∷ []) client
  quiet_more front more client none s = one_more front more client none (quieter front more client none s)

  -- ---- what is told

  event_so : (front : List Occurrence) (event : ChannelEvent) (v : Channels) (client : Client) → v.held ≡ (value_of own front).held → So front client → So front (event_heard event v client)
  event_so front event v client same s =
      event-stands settings.transport (Unheld front) (Single front) (Settled front) (Told front) (settles front) event v (λ endpoint mtu open' one. (opens-search own front endpoint mtu (peer_same endpoint v (value_of own front) same ∙ open') one.0, one.1)) client s

  next_so : (front : List Occurrence) (found : List ChannelEvent) (v : Channels) (pushing : ClientProfile) → v.held ≡ (value_of own front).held → So front pushing.client → So front (told_next (client_profile settings) found v pushing).client
  next_so front [] v pushing same s = s
  next_so front (event ∷ found) v pushing same s = event_so front event (record v { events = found }) pushing.client same s

  each_so : (found : List ChannelEvent) (v : Channels) (pushing : ClientProfile) → v.held ≡ [] → So [] pushing.client → So [] (tells_each (client_profile settings) found v pushing).client
  each_so [] v pushing none s = s
  each_so (event ∷ found) v pushing none s =
      let w = record v { events = found } in each_so found w (happened event w pushing) none (event_so [] event w pushing.client none s)

  handed_so : (front : List Occurrence) (given : Handed) (pushing : ClientProfile) → So front pushing.client → So front (handed (client_profile settings) given pushing).client
  handed_so front Nothing pushing s = s
  handed_so front (Received endpoint psm sdu) pushing s = receives-stand settings.transport (Unheld front) (Single front) (Settled front) (Told front) (settles front) psm sdu pushing.client s

  call_so : (front : List Occurrence) (step : Step) (after : Client) (pushing : ClientProfile) → StandsBehind settings.transport (Unheld front) (Single front) (Settled front) (Told front) step after → So front pushing.client → So front (after_call step after pushing).client
  call_so front Wait after pushing behind s = s
  call_so front MakeLink after pushing behind s = stepped_so front after behind
  call_so front AskFeatures after pushing behind s = s
  call_so front (OpenChannel psm) after pushing behind s = s
  call_so front (SendSdu psm payload) after pushing behind s = s
  call_so front (CloseChannel psm) after pushing behind s = s
  call_so front BreakLink after pushing behind s = s
  call_so front (Ended outcome) after pushing behind s = s
  call_so front NoMemory after pushing behind s = s

  ended_so : (front : List Occurrence) (client : Client) → So front client → So front (ended client)
  ended_so front client s = ended-stands settings.transport (Unheld front) (Single front) (Settled front) (Told front) (settles front) client s

  news_so : (front : List Occurrence) (circumstances : List Circumstance) (news : News) (pushing : ClientProfile) → tidings_by news ≡ [] → So front pushing.client → So front (told circumstances news pushing).client
  news_so front circumstances (Linked event) pushing is s = cc
  news_so front circumstances (Failed status) pushing is s = ended_so front (events.hears_news (events.LinkFailed status) pushing.client) (failed-stands settings.transport (Unheld front) (Single front) (Settled front) (Told front) (settles front) status pushing.client s)
  news_so front circumstances (Heard pdu) pushing is s = s
  news_so front circumstances TimerFired pushing is s = fires-stand settings.transport (Unheld front) (Single front) (Settled front) (Told front) (settles front) pushing.client s
  news_so front circumstances Cancelled pushing is s = ended_so front (cancelled pushing.client) (cancels-stand settings.transport (Unheld front) (Single front) (Settled front) (Told front) (settles front) pushing.client s)
  news_so front circumstances (Opening name) pushing is s =
      let begun : Client = begins (size_for circumstances name) (name_for name) pushing.client in
      let over : ClientProfile = record pushing { client = ended begun; submitted = None; bid = NoBid } in
      let so = ended_so front begun (begins-stand settings.transport (Unheld front) (Single front) (Settled front) (Told front) (settles front) (size_for circumstances name) (name_for name) pushing.client s) in
      let one = steps (ended begun) [] in call_so front one.step one.client over (steps-stand settings.transport (Unheld front) (Single front) (Settled front) (Told front) (settles front) (ended begun) [] so) so

  sent_so : (front : List Occurrence) (found : Option ℕ) (v : Channels) (pushing : ClientProfile) → So front pushing.client → So front (sent_on found v pushing).client
  sent_so front None v pushing s = s
  sent_so front (Some endpoint) v pushing s = by (waits endpoint v)
    where
      by : (waiting : Bool) → So front (cond waiting pushing (done (record pushing { submitted = None }))).client
      by true = s
      by false = stepped_so front pushing.client s

  -- ---- a step

  opens_so : (front : List Occurrence) (psm : ℕ) (client : Client) → Opens settings.transport (Unheld front) (Told front) psm client → Goes front (Connects psm ∷ []) (stepped client)
  opens_so front psm client so = by so.how
    where
      behind : (stage : Stage) → client.stage ≡ stage → At (Unheld (front ++ Connects psm ∷ [])) (Single (front ++ Connects psm ∷ [])) (Settled (front ++ Connects psm ∷ [])) (Told (front ++ Connects psm ∷ [])) stage client.cause → So (front ++ Connects psm ∷ []) (stepped client)
      behind stage is at = record {
        direct = so.direct;
        named = so.named;
        at = subst (λ (s : Stage). At (Unheld (front ++ Connects psm ∷ [])) (Single (front ++ Connects psm ∷ [])) (Settled (front ++ Connects psm ∷ [])) (Told (front ++ Connects psm ∷ [])) s client.cause) (sym is) at;
      }

      by : (Unheld front × (psm ≡ 0x0001) × (client.stage ≡ SearchChannel Asked)) ⊎ (Told front × (may_name settings.transport psm ≡ true) × (client.stage ≡ ObjectChannel Asked)) → Goes front (Connects psm ∷ []) (stepped client)
      by (inl ((none, few), is, stage)) = record {
        asked_so = ((free-none own front none, ap (λ n. may_ask settings.transport n (calls_that_went Out (run_of own front).said)) is), tt);
        few = λ any. let whole = requests-more front (Connects psm) in omega (arith, whole, few);
        stands = behind (SearchChannel Asked) stage
            (subst (λ n. OneIsHeld (policy settings false) (front ++ Connects n ∷ [])) (sym is) (asks-search own front none), (let whole = requests-more front (Connects psm) in omega (arith, whole, few)));
      }
      by (inr ((none, few), other, stage)) = record {
        asked_so = ((none.none, may_by (eqb psm 0x0001) (may_carry settings.transport psm) (list_any seeks_object (calls_that_went Out (run_of own front).said)) other (searches-seek_none own front none.searches)), tt);
        few = λ any. let whole = requests-more front (Connects psm) in omega (arith, whole, few);
        stands = behind (ObjectChannel Asked) stage tt;
      }

  -- the peer's features are asked for
  questions_so : (front : List Occurrence) (client : Client) → Questioning settings.transport (Settled front) client → Goes front (AsksFeatures ∷ []) (stepped client)
  questions_so front client so =
      let whole = requests-more front AsksFeatures in
      let few = so.settled.1 in
      record {
        asked_so = (tt, tt);
        few = λ any. omega (arith, whole, few);
        stands = record {
          direct = so.direct;
          named = so.named;
          at = subst (λ (s : Stage). At (Unheld (front ++ AsksFeatures ∷ [])) (Single (front ++ AsksFeatures ∷ [])) (Settled (front ++ AsksFeatures ∷ [])) (Told (front ++ AsksFeatures ∷ [])) s client.cause) (sym so.stage_is)
              (on-none own offers_none front AsksFeatures tt so.settled.0, omega (arith, whole, few));
        };
      }

  submits_so : (front : List Occurrence) (endpoint : Option ℕ) (payload : Payload) (v : Channels) (after : ClientProfile) → So front after.client → Goes front (from_call (sends_on v payload endpoint)) (submits endpoint payload v after).profile.client
  submits_so front None payload v after s = no_more front after.client s
  submits_so front (Some endpoint) payload v after s = by (takes_sdu endpoint (sdu_of payload) v)
    where
      by : (taken : Bool) → Goes front (from_call (send_if taken endpoint payload)) (cond taken (waiting (sends endpoint (sdu_of payload) v) (record after { submitted = Some endpoint })) (waiting v after)).profile.client
      by true = quiet_more front (Sends endpoint (sdu_of payload)) after.client refl s
      by false = no_more front after.client s

  closes_so : (front : List Occurrence) (endpoint : Option ℕ) (client : Client) → So front client → Goes front (from_call (closes_on endpoint)) client
  closes_so front None client s = no_more front client s
  closes_so front (Some endpoint) client s = quiet_more front (Disconnects endpoint) client refl s

  step_so : (front : List Occurrence) (step : Step) (v : Channels) (after before : ClientProfile) → StandsBehind settings.transport (Unheld front) (Single front) (Settled front) (Told front) step after.client → So front before.client
      → Goes front (from_call (asked step v after)) (takes step v after before).profile.client
  step_so front Wait v after before behind s = no_more front after.client behind
  step_so front MakeLink v after before behind s = no_more front before.client s
  step_so front AskFeatures v after before behind s = questions_so front after.client behind
  step_so front (OpenChannel psm) v after before behind s = opens_so front psm after.client behind
  step_so front (SendSdu psm payload) v after before behind s = submits_so front (endpoint_of psm after.endpoints) payload v after behind
  step_so front (CloseChannel psm) v after before behind s = closes_so front (endpoint_of psm after.endpoints) (stepped after.client) (stepped_so front after.client behind)
  step_so front BreakLink v after before behind s = no_more front (stepped after.client) (stepped_so front after.client behind)
  step_so front (Ended outcome) v after before behind s = no_more front after.client behind
  step_so front NoMemory v after before behind s = no_more front after.client behind

  -- ---- on a link

  strand_so : (front : List Occurrence) (strand : Strand) (v : Channels) (pushing : ClientProfile) → v ≡ value_of own front → IsOnLink strand → So front pushing.client
      → Goes front (strand_list (client_profile settings) asks strand v pushing) (strand_profile (client_profile settings) strand v pushing).client
  strand_so front (Hearing pdu) v pushing at on s =
      one_more front (Comes pdu) _ refl (handed_so (front ++ Comes pdu ∷ []) (up (channel_of pdu) pdu v) pushing (quieter front (Comes pdu) pushing.client refl s))
  strand_so front (Giving pdu) v pushing at on s = quiet_more front (Gives pdu) pushing.client refl s
  strand_so front Firing v pushing at on s = quiet_more front Fires pushing.client refl s
  strand_so front Telling v pushing at on s =
      one_more front Tells _ refl (next_so (front ++ Tells ∷ []) v.events v pushing (ap (λ (w : Channels). w.held) at ∙ sym (ap (λ (w : Channels). w.held) (value-more own front Tells))) (quieter front Tells pushing.client refl s))
  strand_so front (Gifting circumstances) v pushing at on s = no_more front pushing.client s
  strand_so front (Learning circumstances news) v pushing at on s = no_more front (told circumstances news pushing).client (news_so front circumstances news pushing on s)
  strand_so front Checking v pushing at on s = no_more front (sent_on pushing.submitted v pushing).client (sent_so front pushing.submitted v pushing s)
  strand_so front Stepping v pushing at on s =
      let one = steps pushing.client (fitted pushing) in
      let after : ClientProfile = record pushing { client = one.client; parts = unused one.left pushing.parts } in
      subst (λ call. Goes front (from_call call) (takes one.step v after pushing).profile.client) (sym (as_steps v pushing ∙ sym (asked_is one.step v after)))
      (step_so front one.step v after pushing (steps-stand settings.transport (Unheld front) (Single front) (Settled front) (Told front) (settles front) pushing.client (fitted pushing) s) s)

  weave_so : (weave : List Strand) → AllByRecursion IsOnLink weave → (front : List Occurrence) (v : Channels) (pushing : ClientProfile) → v ≡ value_of own front → So front pushing.client
      → Goes front (woven_list (client_profile settings) asks weave v pushing) (woven_profile (client_profile settings) asks weave v pushing).client
  weave_so [] on front v pushing at s = no_more front pushing.client s
  weave_so (strand ∷ weave) on front v pushing at s =
      let one = strand_so front strand v pushing at on.0 s in
      let list = strand_list (client_profile settings) asks strand v pushing in
      let w = values_after own v list in
      let next = strand_profile (client_profile settings) strand v pushing in
      let rest = woven_list (client_profile settings) asks weave w next in
      let later = weave_so weave on.1 (front ++ list) w next (ap (λ (u : Channels). values_after own u list) at ∙ values-more own front list) one.stands in
      record {
        asked_so = each-both (λ past one. AsksSo (may_ask settings.transport) one (run_of own past)) front list rest one.asked_so later.asked_so;
        few = λ few. subst (λ l. requests_for l ≤ 11) (append_assoc front list rest) (later.few (one.few few));
        stands = subst (λ l. So l (woven_profile (client_profile settings) asks weave w next).client) (append_assoc front list rest) later.stands;
      }

  link_so : (list : List Occurrence) (first last : ClientProfile) → Woven (client_profile settings) asks list first last → So [] first.client → AsksWell settings list × So [] last.client
  link_so list first last woven s =
      let goes = weave_so woven.weave woven.on_link [] no_channels first refl s in
      let all = woven_list (client_profile settings) asks woven.weave no_channels first in (
        subst (AsksWell settings) (sym woven.list_is) (goes.asked_so, goes.few (omega arith)),
        fresh all last.client (subst (λ (p : ClientProfile). So all p.client) (sym woven.last_is) goes.stands),
      )

  -- ---- over all links

  turned_so : (circumstances : List Circumstance) (event : LinkEvent) (v : Channels) (pushing : ClientProfile) → So [] pushing.client → So [] (turned (client_profile settings) circumstances event v pushing).client
  turned_so circumstances Up v pushing s = up-stands settings.transport (Unheld []) (Single []) (Settled []) (Told []) (settles []) (first-free own, omega arith) pushing.client s
  turned_so circumstances (Down reason) v pushing s =
      let told' = tells_each (client_profile settings) (link_down v).events (link_down v) pushing in
      ended_so [] (events.hears_news (events.LinkDown reason) told'.client) (down-stands settings.transport (Unheld []) (Single []) (Settled []) (Told []) (settles []) reason told'.client (each_so (link_down v).events (link_down v) pushing refl s))

  links_so : (spans : List Span) (now : List Occurrence) (first last : ClientProfile) → AreWoven (client_profile settings) asks spans now first last → So [] first.client
      → AllByRecursion (AsksWell settings) (map (λ (span : Span). span.list) spans ++ now ∷ [])
  links_so [] now first last woven s = ((link_so now first last woven s).0, tt)
  links_so (span ∷ spans) now first last (mid, circumstances, woven, later) s =
      let (calls, so) = link_so span.list first mid woven s in
      let v = values_after own no_channels span.list in
      (calls, links_so spans now (turned (client_profile settings) circumstances span.event v mid) last later (turned_so circumstances span.event v mid so))

pub clients-ask_in_order : ClientsAskInOrder
clients-ask_in_order settings asks talk now as_steps woven = links_so settings asks as_steps woven.so.lives.spans woven.so.lives.now (client_profile settings).first now.profile woven.woven (record { direct = refl; named = refl; at = tt })

in_order_alone : (settings : Settings) (lists : List (List Occurrence)) → AllByRecursion (AsksWell settings) lists → AllByRecursion (CallsInOrder settings.transport (policy settings false)) lists
in_order_alone settings [] all = tt
in_order_alone settings (list ∷ lists) all = (all.0.0, in_order_alone settings lists all.1)

pub clients-ask_once : ClientsAskOnce
clients-ask_once settings talk now over gentle =
    let asks = hosts_ask.clients settings in
    let woven = hosts_talk_woven (client_profile settings) asks talk now over gentle in
    clients-call_in_order settings asks talk now woven.so (in_order_alone settings (on_links (client_profile settings) asks (flat_map talk_marks talk) now woven.so.lives) (clients-ask_in_order settings asks talk now (clients_step settings) woven))
