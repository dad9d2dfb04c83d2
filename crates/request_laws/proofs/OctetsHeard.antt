-- All that comes up at either host of a run over RFCOMM are octets, for a channel takes octets alone.
use Rattle.std.proofs.Common.{◌≡◌, ℕ, zero, suc, Bool, true, false, cond, eqb, ◌&&◌, List, [], ◌∷◌, ◌++◌, map, length, Option, Some, None, refl, sym, subst, ◌∙◌, append_assoc, append-nil}
use Rattle.std.specs.Prelude.{get_or, not}
use Rattle.std.specs.List.{AllByRecursion, flat_map, cons_option}
use Rattle.std.proofs.lemmas.Bool.{and_parts, eq-eqb}
use Rattle.pair_laws.specs.bt_base.specs.declared.settings.Settings.{Settings}
use Rattle.pair_laws.specs.bt_base.specs.Objects.{Object, Contents}
use Rattle.pair_laws.specs.bt_base.specs.Octets.{IsOctets}
use Rattle.pair_laws.specs.push_script.specs.declared.scenario.Scenario.{Scenario}
use Rattle.pair_laws.specs.push_terms.specs.declared.word.Side.TheVariants as sides
use Rattle.pair_laws.specs.capture.specs.Entries.{Entry}
use Rattle.pair_laws.specs.channel_model.specs.declared.event.ChannelEvent.{ChannelEvent}
use Rattle.pair_laws.specs.channel_model.specs.Calls.{carrier_at, peer_mtu, waits}
use Rattle.pair_laws.specs.channel_model.specs.Carrying.{Up as Handed, Nothing, Received}
use Rattle.pair_laws.specs.channel_model.specs.Policies.{Policy, policy}
use Rattle.pair_laws.specs.channel_model.specs.Value.{Channels, no_channels}
use Rattle.pair_laws.specs.channel_laws.specs.Frames.{AreUttered}
use Rattle.pair_laws.specs.channel_laws.specs.Pairs.{new_pair}
use Rattle.pair_laws.specs.channel_laws.specs.Runs.{Occurrence, Comes, Connects, AsksFeatures, Disconnects, Sends, Gives, Fires, Tells as TellsNext, value_after, up_with, told_in, run_of}
use Rattle.pair_laws.specs.channel_laws.specs.Taken.{is_free, taken_in, taken_of}
use Rattle.pair_laws.specs.push_model.specs.Payloads.{Payload}
use Rattle.pair_laws.specs.push_model.specs.Server.{Lent, lends, lent_sdu}
use Rattle.pair_laws.specs.push_model.specs.Steps.{Step, Wait, MakeLink, AskFeatures as AskForFeatures, OpenChannel, SendSdu, CloseChannel, BreakLink, Ended, NoMemory, steps}
use Rattle.pair_laws.specs.world_model.specs.Machines.{LinkEvent, Up, Down}
use Rattle.pair_laws.specs.host_model.specs.Clients.{ClientProfile, client_profile, fitted}
use Rattle.pair_laws.specs.host_model.specs.Endpoints.{endpoint_of, fits, takes_sdu}
use Rattle.pair_laws.specs.host_model.specs.Pdus.{sdu_of, are_octets}
use Rattle.pair_laws.specs.host_model.specs.Profiles.{Profile}
use Rattle.pair_laws.specs.host_model.specs.Servers.{ServerProfile, server_profile}
use Rattle.pair_laws.specs.host_model.specs.Shelves.{unused}
use Rattle.pair_laws.specs.host_model.proofs.Orderly.{octets_by}
use Rattle.pair_laws.specs.host_laws.specs.Calls.{Call, Connect, AskFeatures, Disconnect, Send, Asks, from_call, values_after}
use Rattle.pair_laws.specs.host_laws.specs.Fed.{behind_span, AreFed}
use Rattle.pair_laws.specs.host_laws.specs.Feeds.{Feed, Gifts, Learns, Receives, Happens, Sent, Steps, Tiding, Brings, Tells, Turns, brought_by, tidings_in, tidings_of, tidings_from}
use Rattle.pair_laws.specs.host_laws.specs.Lives.{Span, end_tidings, span_tidings, all_tidings, on_links}
use Rattle.pair_laws.specs.host_laws.specs.OverLinks.{talk_marks}
use Rattle.pair_laws.specs.host_laws.specs.Woven.{Strand, Hearing, Giving, Firing, Telling, Gifting, Learning, Checking, Stepping, strand_list, strand_profile, woven_list, Woven}
use Rattle.pair_laws.specs.host_laws.proofs.Asking.{send_if, sends_on, closes_on, asked, hosts_ask, clients_ask, clients-call, lent_call, servers-call}
use Rattle.pair_laws.specs.scenario_laws.specs.Captures.{Ran}
use Rattle.pair_laws.specs.scenario_laws.specs.Gains.{holding, serving, asked_by}
use Rattle.pair_laws.specs.Keeping.{PairsKeepOrder}
use Rattle.pair_laws.specs.OnLinks.{happened_on}
use Rattle.pair_laws.specs.Orders.{near_in, joints_from}
use Rattle.pair_laws.specs.Within.{BothSendWithin}
use Rattle.pair_laws.proofs.PlainPipes.{plain-pairs_are_pipes}
use Rattle.pair_laws.proofs.Taking.{clients_within, servers_within, pairs-are_carried}
use Rattle.request_laws.specs.HandedUp.{handed_for}
use Rattle.request_laws.specs.TogetherHeard.{ReceivesOctets}
use Rattle.request_laws.proofs.Delivering.{Met, near-ups, far-ups, met-at}
use Rattle.request_laws.proofs.Feeding.{all_both, all_ahead}
use Rattle.request_laws.proofs.HandedUp.{ups_from, ups_of}
use Rattle.request_laws.proofs.Paired.{lists_of}
use Rattle.request_laws.proofs.Summing.{both_ask}
use Rattle.request_laws.proofs.Takes.{takes_from, takes_of}

-- ---- what a host asks to be sent

abbrev AsksOctets : {P : Type 0} (A : Profile P) → Asks A → Type 0
AsksOctets {P} A asks = (v : Channels) (p : P) (own : ℕ) (sdu : List ℕ) → asks.call v p ≡ Some (Send own sdu) → IsOctets sdu

-- a channel takes octets alone
pub taken-octets : (own : ℕ) (sdu : List ℕ) (v : Channels) → takes_sdu own sdu v ≡ true → IsOctets sdu
taken-octets own sdu v takes = octets_by sdu (and_parts (fits (length sdu) (peer_mtu own v) && not (waits own v)) (are_octets sdu) takes).1

send_octets : (taken : Bool) (v : Channels) (channel own : ℕ) (payload : Payload) (sdu : List ℕ) → takes_sdu channel (sdu_of payload) v ≡ taken → send_if taken channel payload ≡ Some (Send own sdu) → IsOctets sdu
send_octets true v channel own payload sdu is sends = let same : sdu_of payload ≡ sdu = cc in subst IsOctets same (taken-octets channel (sdu_of payload) v is)
send_octets false v channel own payload sdu is sends = cc

on_octets : (v : Channels) (found : Option ℕ) (own : ℕ) (payload : Payload) (sdu : List ℕ) → sends_on v payload found ≡ Some (Send own sdu) → IsOctets sdu
on_octets v None own payload sdu sends = cc
on_octets v (Some channel) own payload sdu sends = send_octets (takes_sdu channel (sdu_of payload) v) v channel own payload sdu refl sends

closes_none : (found : Option ℕ) (own : ℕ) (sdu : List ℕ) → closes_on found ≡ Some (Send own sdu) → IsOctets sdu
closes_none None own sdu is = cc
closes_none (Some channel) own sdu is = cc

asked_octets : (step : Step) (v : Channels) (after : ClientProfile) (own : ℕ) (sdu : List ℕ) → asked step v after ≡ Some (Send own sdu) → IsOctets sdu
asked_octets Wait v after own sdu is = cc
asked_octets MakeLink v after own sdu is = cc
asked_octets AskForFeatures v after own sdu is = cc
asked_octets (OpenChannel psm) v after own sdu is = cc
asked_octets (SendSdu psm payload) v after own sdu is = on_octets v (endpoint_of psm after.endpoints) own payload sdu is
asked_octets (CloseChannel psm) v after own sdu is = closes_none (endpoint_of psm after.endpoints) own sdu is
asked_octets BreakLink v after own sdu is = cc
asked_octets (Ended outcome) v after own sdu is = cc
asked_octets NoMemory v after own sdu is = cc

lent_octets : (lent : Option Lent) (v : Channels) (p : ServerProfile) (own : ℕ) (sdu : List ℕ) → lent_call lent v p ≡ Some (Send own sdu) → IsOctets sdu
lent_octets None v p own sdu is = cc
lent_octets (Some lent) v p own sdu is = on_octets v (endpoint_of lent.psm p.endpoints) own lent.payload sdu is

clients_octets : (settings : Settings) → AsksOctets (client_profile settings) (clients_ask settings)
clients_octets settings v p own sdu is =
    let one = steps p.client (fitted p) in asked_octets one.step v (record p { client = one.client; parts = unused one.left p.parts }) own sdu (sym (clients-call settings v p) ∙ is)

servers_octets : (settings : Settings) (content : Option Contents) → AsksOctets (server_profile settings content) (hosts_ask.servers settings content)
servers_octets settings content v p own sdu is = lent_octets (lent_sdu (lends p.server)) v p own sdu (sym (servers-call settings content v p) ∙ is)

-- ---- on a link

abbrev SendsOctets : Occurrence → Type 0
SendsOctets (Comes pdu) = Unit {0}
SendsOctets (Connects psm) = Unit {0}
SendsOctets AsksFeatures = Unit {0}
SendsOctets (Disconnects own) = Unit {0}
SendsOctets (Sends own sdu) = IsOctets sdu
SendsOctets (Gives pdu) = Unit {0}
SendsOctets Fires = Unit {0}
SendsOctets TellsNext = Unit {0}

module _ {P : Type 0} (A : Profile P) (asks : Asks A) (octets : AsksOctets A asks) where
  call_octets : (call : Option Call) (v : Channels) (p : P) → asks.call v p ≡ call → AllByRecursion SendsOctets (from_call call)
  call_octets None v p is = tt
  call_octets (Some (Connect psm)) v p is = (tt, tt)
  call_octets (Some AskFeatures) v p is = (tt, tt)
  call_octets (Some (Disconnect own)) v p is = (tt, tt)
  call_octets (Some (Send own sdu)) v p is = (octets v p own sdu is, tt)

  strand_octets : (strand : Strand) (v : Channels) (p : P) → AllByRecursion SendsOctets (strand_list A asks strand v p)
  strand_octets (Hearing pdu) v p = (tt, tt)
  strand_octets (Giving pdu) v p = (tt, tt)
  strand_octets Firing v p = (tt, tt)
  strand_octets Telling v p = (tt, tt)
  strand_octets (Gifting circumstances) v p = tt
  strand_octets (Learning circumstances news) v p = tt
  strand_octets Checking v p = tt
  strand_octets Stepping v p = call_octets (asks.call v p) v p refl

  weave_octets : (weave : List Strand) (v : Channels) (p : P) → AllByRecursion SendsOctets (woven_list A asks weave v p)
  weave_octets [] v p = tt
  weave_octets (strand ∷ weave) v p =
      let here = strand_list A asks strand v p in
      let w = values_after A.policy v here in
      let q = strand_profile A strand v p in
      all_both SendsOctets here (woven_list A asks weave w q) (strand_octets strand v p) (weave_octets weave w q)

  woven_octets : (list : List Occurrence) (first last : P) → Woven A asks list first last → AllByRecursion SendsOctets list
  woven_octets list first last woven = subst (AllByRecursion SendsOctets) (sym woven.list_is) (weave_octets woven.weave no_channels first)

  all_octets : (spans : List Span) (now : List Occurrence) (feeds : List Feed) (first last : P) (number : ℕ) → AreFed A asks spans now feeds first last → AllByRecursion SendsOctets (get_or (lists_of spans now) number [])
  all_octets [] now feeds first last zero fed = woven_octets now first last fed.woven
  all_octets [] now feeds first last (suc number) fed = tt
  all_octets (span ∷ spans) now feeds first last zero (fed, later, is, rest) = woven_octets span.list first fed.mid fed.so.woven
  all_octets (span ∷ spans) now feeds first last (suc number) (fed, later, is, rest) = all_octets spans now later (behind_span A asks span first fed) last number rest

-- what its channels took

one_octets : (own : ℕ) (one : Occurrence) (v : Channels) → SendsOctets one → AllByRecursion IsOctets (taken_in own one v)
one_octets own (Comes pdu) v fits = tt
one_octets own (Connects psm) v fits = tt
one_octets own AsksFeatures v fits = tt
one_octets own (Disconnects at) v fits = tt
one_octets own (Sends at sdu) v fits = by (eqb at own && is_free (carrier_at at v))
  where
    by : (taken : Bool) → AllByRecursion IsOctets (cond taken (sdu ∷ []) [])
    by true = (fits, tt)
    by false = tt
one_octets own (Gives pdu) v fits = tt
one_octets own Fires v fits = tt
one_octets own TellsNext v fits = tt

takes_octets : (policy : Policy) (own : ℕ) (list : List Occurrence) (v : Channels) → AllByRecursion SendsOctets list → AllByRecursion IsOctets (takes_from policy own v list)
takes_octets policy own [] v all = tt
takes_octets policy own (one ∷ list) v all =
    let w = value_after policy one v in all_both IsOctets (taken_in own one v) (takes_from policy own w list) (one_octets own one v all.0) (takes_octets policy own list w all.1)

took_octets : (policy : Policy) (own : ℕ) (list : List Occurrence) → AllByRecursion SendsOctets list → AllByRecursion IsOctets (taken_of policy own list)
took_octets policy own list all = subst (AllByRecursion IsOctets) (sym (takes_of policy own list)) (takes_octets policy own list no_channels all)

-- ---- what comes up

abbrev UpOctets : Handed → Type 0
UpOctets Nothing = Unit {0}
UpOctets (Received own psm sdu) = IsOctets sdu

ups_octets : (ups : List Handed) → ((psm : ℕ) → AllByRecursion IsOctets (handed_for psm ups)) → AllByRecursion UpOctets ups
ups_octets [] each = tt
ups_octets (Nothing ∷ ups) each = (tt, ups_octets ups each)
ups_octets (Received own psm sdu ∷ ups) each = (ahead (eqb psm psm) (eq-eqb psm psm refl) (each psm), ups_octets ups (λ other. behind other (eqb psm other) (each other)))
  where
    ahead : (here : Bool) → here ≡ true → AllByRecursion IsOctets (cons_option (cond here (Some sdu) None) (handed_for psm ups)) → IsOctets sdu
    ahead true is all = all.0
    ahead false is all = cc

    behind : (other : ℕ) (here : Bool) → AllByRecursion IsOctets (cons_option (cond here (Some sdu) None) (handed_for other ups)) → AllByRecursion IsOctets (handed_for other ups)
    behind other true all = all.1
    behind other false all = all

-- ---- what a profile is told

abbrev TidingOctets : Tiding → Type 0
TidingOctets (Brings own psm sdu) = IsOctets sdu
TidingOctets (Tells event) = Unit {0}
TidingOctets (Turns event) = Unit {0}

brought_octets : (brought : Handed) → UpOctets brought → AllByRecursion TidingOctets (brought_by brought)
brought_octets Nothing fits = tt
brought_octets (Received own psm sdu) fits = (fits, tt)

told_octets : (told : List ChannelEvent) (rest : List Tiding) → AllByRecursion TidingOctets rest → AllByRecursion TidingOctets (map Tells told ++ rest)
told_octets [] rest all = all
told_octets (event ∷ told) rest all = (tt, told_octets told rest all)

list_octets : (policy : Policy) (list : List Occurrence) (v : Channels) → AllByRecursion UpOctets (ups_from policy v list) → AllByRecursion TidingOctets (tidings_from policy v list)
list_octets policy [] v all = tt
list_octets policy (one ∷ list) v all =
    let w = value_after policy one v in
    let told = map Tells (told_in one v) in
    all_both TidingOctets (brought_by (up_with one v) ++ told) (tidings_from policy w list)
    (all_both TidingOctets (brought_by (up_with one v)) told (brought_octets (up_with one v) all.0) (subst (AllByRecursion TidingOctets) (append-nil told) (told_octets (told_in one v) [] tt))) (list_octets policy list w all.1)

end_octets : (event : LinkEvent) (v : Channels) → AllByRecursion TidingOctets (end_tidings event v)
end_octets Up v = (tt, tt)
end_octets (Down reason) v = told_octets _ (Turns (Down reason) ∷ []) (tt, tt)

tidings_octets : (policy : Policy) (spans : List Span) (now : List Occurrence) → ((number : ℕ) → AllByRecursion UpOctets (ups_from policy no_channels (get_or (lists_of spans now) number []))) → AllByRecursion TidingOctets (all_tidings policy spans now)
tidings_octets policy [] now each = list_octets policy now no_channels (each 0)
tidings_octets policy (span ∷ spans) now each =
    let first = tidings_from policy no_channels span.list in
    let last = end_tidings span.event (values_after policy no_channels span.list) in
    subst (AllByRecursion TidingOctets) (sym (append_assoc (span_tidings policy span) (flat_map (span_tidings policy) spans) (tidings_from policy no_channels now)))
    (all_both TidingOctets (first ++ last) (all_tidings policy spans now)
    (all_both TidingOctets first last (list_octets policy span.list no_channels (each 0)) (end_octets span.event (values_after policy no_channels span.list))) (tidings_octets policy spans now (λ number. each (suc number))))

feeds_octets : (feeds : List Feed) → AllByRecursion TidingOctets (tidings_of feeds) → AllByRecursion ReceivesOctets feeds
feeds_octets [] all = tt
feeds_octets (feed ∷ feeds) all = let parts = all_ahead TidingOctets (tidings_in feed) (tidings_of feeds) all in (one feed parts.0, feeds_octets feeds parts.1)
  where
    one : (feed : Feed) → AllByRecursion TidingOctets (tidings_in feed) → ReceivesOctets feed
    one (Gifts circumstances) told = tt
    one (Learns circumstances news) told = tt
    one (Receives own psm sdu) told = told.0
    one (Happens event v) told = tt
    one (Sent v) told = tt
    one (Steps v) told = tt

-- ---- of a run

at_place : (own : Policy) (lists : List (List Occurrence)) → AllByRecursion (AreUttered own) lists → (number : ℕ) → AreUttered own (get_or lists number [])
at_place own [] all number = tt
at_place own (list ∷ lists) all zero = all.0
at_place own (list ∷ lists) all (suc number) = at_place own lists all.1 number

-- all that both hosts' profiles receive
pub record BothOctets (scenario : Scenario) (before : List Object) (capture : List Entry) (ran : Ran scenario (holding before) capture) (order : PairsKeepOrder both_ask scenario (holding before) capture ran) : Type 0 where
  pub a : AllByRecursion ReceivesOctets order.turns.pairs.a.fed.so.lives.feeds
  pub b : AllByRecursion ReceivesOctets order.turns.pairs.b.fed.so.lives.feeds

module _ (scenario : Scenario) (before : List Object) (capture : List Entry) (ran : Ran scenario (holding before) capture) (order : PairsKeepOrder both_ask scenario (holding before) capture ran) where
  abbrev settings : Settings
  settings = scenario.settings

  abbrev P : Policy
  P = policy scenario.settings false

  abbrev Q : Policy
  Q = policy scenario.settings true

  abbrev near : ℕ → List Occurrence
  near = happened_on (client_profile scenario.settings) (both_ask.clients scenario.settings) sides.A capture ran.world.a.upper order.turns.pairs.a

  abbrev far : ℕ → List Occurrence
  far = happened_on (serving scenario.settings before) (asked_by both_ask scenario.settings before) sides.B capture ran.world.b.upper order.turns.pairs.b

  pub near-utters : (number : ℕ) → AreUttered (policy scenario.settings false) (near number)
  near-utters number = at_place P (on_links (client_profile settings) (both_ask.clients settings) (flat_map talk_marks order.turns.pairs.a.came.talk) ran.world.a.upper order.turns.pairs.a.fed.so.lives) order.turns.pairs.a.uttered number

  pub far-utters : (number : ℕ) → AreUttered (policy scenario.settings true) (far number)
  far-utters number = at_place Q (on_links (serving settings before) (asked_by both_ask settings before) (flat_map talk_marks order.turns.pairs.b.came.talk) ran.world.b.upper order.turns.pairs.b.fed.so.lives) order.turns.pairs.b.uttered number

  met : (number : ℕ) → Met (policy scenario.settings false) (policy scenario.settings true) (near number) (far number)
  met number =
      let pair = order.turns.pairs.pairs number in
      let joints = joints_from (new_pair P Q) pair.turns in
      let within : BothSendWithin both_ask = record { clients = clients_within; servers = servers_within } in
      let at = met-at settings (near number) (far number) pair (plain-pairs_are_pipes both_ask scenario (holding before) capture ran order within number) (pairs-are_carried both_ask scenario (holding before) capture ran order.turns.pairs within number)
      (near-utters number) (far-utters number) joints [] (sym (append-nil joints)) in
      subst (λ (l : List Occurrence). Met P Q l (far number)) pair.near_list (subst (λ (l : List Occurrence). Met P Q (flat_map near_in joints) l) pair.far_list at)

  near_sends : (number : ℕ) → AllByRecursion SendsOctets (near number)
  near_sends number =
      let fed = order.turns.pairs.a.fed in
      all_octets (client_profile settings) (both_ask.clients settings) (clients_octets settings) fed.so.lives.spans fed.so.lives.now fed.so.lives.feeds (client_profile settings).first ran.world.a.upper.profile number fed.fed

  far_sends : (number : ℕ) → AllByRecursion SendsOctets (far number)
  far_sends number =
      let fed = order.turns.pairs.b.fed in
      all_octets (serving settings before) (asked_by both_ask settings before) (servers_octets settings (holding before)) fed.so.lives.spans fed.so.lives.now fed.so.lives.feeds (serving settings before).first ran.world.b.upper.profile number fed.fed

  pub both-octets : BothOctets scenario before capture ran order
  both-octets =
      let a = order.turns.pairs.a.fed.so.lives in
      let b = order.turns.pairs.b.fed.so.lives in
      record {
        a = feeds_octets a.feeds
            (subst (AllByRecursion TidingOctets) (sym a.tidings_are)
            (tidings_octets P a.spans a.now
            (λ number. subst (AllByRecursion UpOctets) (ups_of P (near number)) (ups_octets (run_of P (near number)).up (λ psm. near-ups P Q (near number) (far number) (met number) IsOctets psm (λ own peer is. took_octets Q peer (far number) (far_sends number)))))));
        b = feeds_octets b.feeds
            (subst (AllByRecursion TidingOctets) (sym b.tidings_are)
            (tidings_octets Q b.spans b.now
            (λ number. subst (AllByRecursion UpOctets) (ups_of Q (far number)) (ups_octets (run_of Q (far number)).up (λ psm. far-ups P Q (near number) (far number) (met number) IsOctets psm (λ own peer is. took_octets P peer (near number) (near_sends number)))))));
      }
