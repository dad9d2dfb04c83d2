-- What happened to both hosts over their links is a list of pushes over RFCOMM, so no request is ignored.
use Rattle.std.proofs.Common.{◌≡◌, ℕ, ◌≤◌, Bool, true, false, cond, ◌&&◌, not, List, [], ◌∷◌, ◌++◌, map, length, ◌-◌, Option, Some, None, Result, Ok, Err, refl, sym, ap, ap₂, subst, ◌∙◌, append_assoc, append-nil, arith}
use Rattle.std.proofs.lemmas.Bool.{and_parts}
use Rattle.std.specs.List.{AllByRecursion, flat_map}
use Rattle.pair_laws.specs.bt_base.specs.declared.ports.PortFault.{PortFault}
use Rattle.pair_laws.specs.bt_base.specs.declared.ports.PortFault.TheVariants as fault
use Rattle.pair_laws.specs.bt_base.specs.declared.settings.Settings.{Settings}
use Rattle.pair_laws.specs.bt_base.specs.declared.settings.Transport.{Transport}
use Rattle.pair_laws.specs.bt_base.specs.declared.settings.Transport.TheVariants.{Rfcomm}
use Rattle.pair_laws.specs.bt_base.specs.Objects.{Contents}
use Rattle.pair_laws.specs.bt_base.specs.Octets.{IsOctets}
use Rattle.pair_laws.specs.channel_model.specs.declared.event.ChannelEvent.{ChannelEvent}
use Rattle.pair_laws.specs.channel_model.specs.declared.event.ChannelEvent.TheVariants as channels
use Rattle.pair_laws.specs.channel_model.specs.Calls.{peer_mtu, waits}
use Rattle.pair_laws.specs.channel_model.specs.Value.{Channels, no_channels}
use Rattle.pair_laws.specs.obex_session.specs.InboxCalls.{Answer}
use Rattle.pair_laws.specs.rfcomm_model.specs.Machine.{Mux}
use Rattle.pair_laws.specs.sdp_elements.specs.declared.target.Target.{Target}
use Rattle.pair_laws.specs.push_model.specs.Client.{Client, own_maximum, is_direct, with_object, begun_by, new_client}
use Rattle.pair_laws.specs.push_model.specs.Events as events
use Rattle.pair_laws.specs.push_model.specs.Laws as push
use Rattle.pair_laws.specs.push_model.specs.Laws.{Deed, Hears, all_done}
use Rattle.pair_laws.specs.push_model.specs.Payloads.{IsSaid}
use Rattle.pair_laws.specs.push_model.specs.Server.{Reacted, Lent, lends, lent_sdu, rfcomm_psm}
use Rattle.pair_laws.specs.push_laws.specs.Carriage.{no_carriage, frames_by, StayCarried, AreCarried}
use Rattle.pair_laws.specs.push_laws.specs.Dialogs.{NameServer, NoPacket, IsCarried, AllServeCarried, SameNumbers}
use Rattle.pair_laws.specs.push_laws.specs.Laws.{new_over}
use Rattle.pair_laws.specs.push_laws.specs.Occurrences.{Occurrence, Went, Closed, Asked, IsLent, done}
use Rattle.pair_laws.specs.push_laws.specs.Occurrences as served
use Rattle.pair_laws.specs.push_laws.specs.Opening.{targets_by, targets_heard}
use Rattle.pair_laws.specs.push_laws.specs.Parties.{Move, server_side, client_side, Push}
use Rattle.pair_laws.specs.push_laws.specs.Premises.{AllGranted, AllMayCome}
use Rattle.pair_laws.specs.push_laws.specs.Sending.{AllAnswer}
use Rattle.pair_laws.specs.push_laws.specs.Spelled.{name_by}
use Rattle.pair_laws.specs.push_laws.proofs.Among.{name_among}
use Rattle.pair_laws.specs.push_laws.proofs.Carried.{carried-are_heard}
use Rattle.pair_laws.specs.push_laws.proofs.Staying.{multiplexers-stay}
use Rattle.pair_laws.specs.world_model.specs.Machines.{News, Linked, Up, Down, Failed, Heard, TimerFired, Cancelled, Opening}
use Rattle.pair_laws.specs.host_model.specs.Clients.{client_profile}
use Rattle.pair_laws.specs.host_model.specs.Endpoints.{endpoint_of, fits, takes_sdu}
use Rattle.pair_laws.specs.host_model.specs.Pdus.{sdu_of, are_octets}
use Rattle.pair_laws.specs.host_model.specs.Servers.{ServerProfile, is_told, server_profile}
use Rattle.pair_laws.specs.host_model.proofs.Orderly.{octets_by}
use Rattle.pair_laws.specs.shelf_model.specs.Held.{longest_octets}
use Rattle.pair_laws.specs.host_laws.specs.Answered.{IsSmall, IsAnswered, AllAnswered}
use Rattle.pair_laws.specs.host_laws.specs.Feeds.{Feed, Gifts, Learns, Receives, Happens, Sent, Steps, fed}
use Rattle.pair_laws.specs.host_laws.specs.OverLinks.{AreTimely}
use Rattle.pair_laws.specs.host_laws.specs.Pushing.{Affair, Begins, Does, client_after, AllAsked}
use Rattle.pair_laws.specs.host_laws.specs.Serving.{news_served, event_served, taken_by, lent_by, served_with, served_from, reacted}
use Rattle.pair_laws.specs.host_laws.specs.Woven.{Strand}
use Rattle.pair_laws.specs.host_laws.proofs.Answered.{clients_are_answered}
use Rattle.pair_laws.specs.host_laws.proofs.Serving.{feed_done}
use Rattle.request_laws.specs.BothFed.{InboxAnswers, over_stored}
use Rattle.request_laws.specs.Carried.{frames_over, IsReadSo, NoneComesBehind, IsGoneThrough}
use Rattle.request_laws.specs.MuxFed.{IsMuxAsked, SaysSo, AllSaySo, MuxTwined, CarriedRequestsAreHeard}
use Rattle.request_laws.specs.Twists.{of_client, Set, new_both, all_deeds, all_moves, OpensNone}
use Rattle.request_laws.proofs.Beginning.{Good, may_push, good_affair, good_first, no_units}
use Rattle.request_laws.proofs.Feeding.{IsDeed, all_ahead}
use Rattle.request_laws.proofs.MuxCarrying.{carriage_behind, carried_both, stay_client, stay_quiet, over_both, read_more, link_stays, none_are_carried, still_carriage, silent_carriage}
use Rattle.request_laws.proofs.Piping.{moved, server_both, client_both, by_client, by_server, client_moved, server_moved, client_of_client, server_of_client, server_of_server, client_of_server, still_quiet}
use Rattle.request_laws.proofs.Objects.{answers_both}
use Rattle.request_laws.proofs.Pushes.{map_deeds, all_does, pushed_on, served_on, server_on, client_on, deeds_on, IsOne, IsNone, silent_up, done_both, made}

-- ---- a client over RFCOMM

-- it takes packets as long as at first, wants no single response mode, and its multiplexer keeps its side, its room and its credits
pub record GoodMux (settings : Settings) (client : Client) : Type 0 where
  pub good : Good Rfcomm (new_client settings).session.maximum (new_client settings).session.wanted client
  pub numbers : SameNumbers (new_client settings).mux client.mux

same_then : (a b c : Mux) → SameNumbers a b → SameNumbers b c → SameNumbers a c
same_then a b c one two = (two.0 ∙ one.0, two.1 ∙ one.1, two.2 ∙ one.2)

begun_mux : (size : Result ℕ PortFault) (name : List ℕ) (client : Client) → (begun_by size name client).mux ≡ client.mux
begun_mux (Ok size) name client = refl
begun_mux (Err fault.Failed) name client = refl
begun_mux (Err fault.NoMemory) name client = refl

begins_mux : (size : Result ℕ PortFault) (name : List ℕ) (client : Client) → (client_after (Begins size name) client).mux ≡ client.mux
begins_mux size name client = by client.failed
  where
    by : (failed : Bool) → (cond failed client (begun_by size name client)).mux ≡ client.mux
    by true = refl
    by false = begun_mux size name client

-- its shelf answers with as many octets as it was asked for, and all else is so
record IsSo (one : Affair) (client : Client) : Type 0 where
  answered : IsAnswered longest_octets one client
  asked : IsMuxAsked one client

all_so : (affairs : List Affair) (client : Client) → AllAnswered longest_octets affairs client → AllAsked IsMuxAsked affairs client → AllAsked IsSo affairs client
all_so [] client answered asked = tt
all_so (one ∷ rest) client answered asked = (record { answered = answered.0; asked = asked.0 }, all_so rest (client_after one client) answered.1 asked.1)

pub numbers_after : (settings : Settings) (one : Affair) (client : Client) → client.transport ≡ Rfcomm → SameNumbers (new_client settings).mux client.mux → SameNumbers (new_client settings).mux (client_after one client).mux
numbers_after settings (Begins size name) client muxed same = subst (SameNumbers (new_client settings).mux) (sym (begins_mux size name client)) same
numbers_after settings (Does deed) client muxed same = same_then (new_client settings).mux client.mux (push.done deed client).mux same (multiplexers-stay client (deed ∷ []) muxed).1

goes_on : (settings : Settings) (one : Affair) (client : Client) → IsSo one client → GoodMux settings client → GoodMux settings (client_after one client)
goes_on settings one client asked good = record {
  good = good_affair Rfcomm (new_client settings).session.maximum (new_client settings).session.wanted longest_octets (omega arith) one client asked.answered good.good;
  numbers = numbers_after settings one client good.good.direct good.numbers;
}

-- ---- deeds

-- the shelf answers so, what is heard names the server, and each frame is read so
record DeedsSo (deeds : List Deed) (client : Client) : Type 0 where
  answers : AllAnswer None deeds client
  named : NameServer (targets_heard deeds client)
  read : AllByRecursion IsReadSo (frames_over deeds client)

named_both : (a b : List Target) → NameServer a → NameServer b → NameServer (a ++ b)
named_both [] b one two = two
named_both (x ∷ a) b one two = (one.0, named_both a b one.1 two)

deeds_so : (affairs : List Affair) (client : Client) → AllByRecursion IsDeed affairs → AllAsked IsSo affairs client → DeedsSo (all_deeds affairs) client
deeds_so [] client all asked = record { answers = tt; named = tt; read = tt }
deeds_so (Begins size name ∷ affairs) client all asked = absurd all.0
deeds_so (Does deed ∷ affairs) client all asked =
    let rest = deeds_so affairs (push.done deed client) all.1 asked.1 in
    record {
      answers = (asked.0.answered, rest.answers);
      named = named_both (targets_by deed client) (targets_heard (all_deeds affairs) (push.done deed client)) asked.0.asked.0 rest.named;
      read = read_more (frames_by deed client) (frames_over (all_deeds affairs) (push.done deed client)) asked.0.asked.1 rest.read;
    }

targets_both : (xs ys : List Deed) (client : Client) → targets_heard (xs ++ ys) client ≡ targets_heard xs client ++ targets_heard ys (all_done xs client)
targets_both [] ys client = refl
targets_both (x ∷ xs) ys client =
    ap (λ (l : List Target). targets_by x client ++ l) (targets_both xs ys (push.done x client)) ∙ sym (append_assoc (targets_by x client) (targets_heard xs (push.done x client)) (targets_heard ys (all_done xs (push.done x client))))

so_both : (xs ys : List Deed) (client : Client) → DeedsSo xs client → DeedsSo ys (all_done xs client) → DeedsSo (xs ++ ys) client
so_both xs ys client one two = record {
  answers = answers_both None xs ys client one.answers two.answers;
  named = subst NameServer (sym (targets_both xs ys client)) (named_both (targets_heard xs client) (targets_heard ys (all_done xs client)) one.named two.named);
  read = subst (AllByRecursion IsReadSo) (sym (over_both xs ys client)) (read_more (frames_over xs client) (frames_over ys (all_done xs client)) one.read two.read);
}

-- ---- one push

module _ (settings : Settings) (muxed : settings.transport ≡ Rfcomm) where
  -- what is asked of a push over RFCOMM, of its moves
  carried_push : (client : Client) (name : List ℕ) (size : ℕ) (moves : List Move) → GoodMux settings client → IsSmall longest_octets (Ok size) name → DeedsSo (client_side moves) (with_object name size client) → StayCarried moves (with_object name size client) no_carriage
      → (let push : Push = record { client = client; name = name; size = size; content = None; moves = moves } in IsCarried settings push)
  carried_push client name size moves good small so stays =
      let fixed = good.good.stands.0 in
      let role = good.numbers.0 in
      let largest : client.mux.largest ≡ settings.mtu - 6 = good.numbers.1 in
      let cap : client.mux.account.cap ≡ settings.credits = good.numbers.2 in
      let mtu_high = settings.mtu_high in
      let low = settings.credits_low in
      let high = settings.credits_high in
      let longest : client.session.maximum ≡ own_maximum settings.transport settings = fixed.maximum in
      let own : own_maximum settings.transport settings ≡ own_maximum Rfcomm settings = ap (λ (t : Transport). own_maximum t settings) muxed in
      record {
        muxed = good.good.direct;
        role = role;
        fits = omega (arith, largest, mtu_high);
        some = omega (arith, cap, low);
        few = omega (arith, cap, high);
        named = so.named;
        carried = stays;
        may = may_push Rfcomm (new_client settings).session.maximum (new_client settings).session.wanted longest_octets (omega arith) client name size good.good small;
        plain = fixed.wanted ∙ ap (λ (t : Transport). is_direct t && settings.srm) muxed;
        within = subst (λ (n : ℕ). n ≤ own_maximum Rfcomm settings) (sym (longest ∙ own)) (omega arith);
        answers = so.answers;
      }

  -- one on which nothing comes
  no_push : IsNone (GoodMux settings) (IsCarried settings)
  no_push client occurrences good quiet =
      let small : IsSmall longest_octets (Ok 0) [] = record { short = no_units; bounded = λ count is. none_left count is } in
      record {
        push = record { client = client; name = []; size = 0; content = None; moves = by_server occurrences };
        named = ap (λ (l : List Deed). name_by l []) (client_of_server occurrences);
        pushed = carried_push client [] 0 (by_server occurrences) good small
            (subst (λ (l : List Deed). DeedsSo l (with_object [] 0 client)) (sym (client_of_server occurrences)) (record { answers = tt; named = tt; read = tt }))
            (stay_quiet occurrences (with_object [] 0 client) no_carriage none_are_carried quiet);
        is = server_of_server occurrences;
      }
    where
      inner : (n m : ℕ) → (let size : Result ℕ PortFault = Ok n in size ≡ Ok m) → n ≡ m
      inner n m is = cc

      none_left : (count : ℕ) → (let size : Result ℕ PortFault = Ok 0 in size ≡ Ok count) → count ≤ longest_octets
      none_left count is = subst (λ (n : ℕ). n ≤ longest_octets) (inner 0 count is) (omega arith)

module _ (set : Set) (muxed : set.settings.transport ≡ Rfcomm) where
  one_push : IsOne set IsSo (GoodMux set.settings) (IsCarried set.settings) (MuxTwined set)
  one_push client server names ahead tail near far start good still quiet twined asked =
      let begun = with_object start.name start.size start.old in
      let both = new_both client server in
      let deeds = start.deeds ++ Hears events.LinkUp ∷ [] in
      let silent = silent_up start.deeds begun start.silent in
      let after = all_done deeds begun in
      let now : client.client ≡ after = start.now ∙ sym (done_both start.deeds (Hears events.LinkUp ∷ []) begun) in
      let twists = twined.twists in
      let opens : AllByRecursion OpensNone (flat_map of_client twists) = subst (AllByRecursion OpensNone) (sym twined.near_is) twined.opens in
      let first = by_server ahead in
      let second = by_client deeds in
      let third = all_moves set twists both in
      let last = by_server tail in
      let moves = first ++ (second ++ (third ++ last)) in
      -- what is the client's
      let affairs = pushed_on set near no_channels client in
      let here_deeds : client_side third ≡ all_deeds affairs = client_on set twists both ∙ ap (λ (w : List Strand). all_deeds (pushed_on set w no_channels client)) twined.near_is in
      let client_is : client_side moves ≡ deeds ++ all_deeds affairs =
      client_both first (second ++ (third ++ last)) ∙ (ap (λ (l : List Deed). l ++ client_side (second ++ (third ++ last))) (client_of_server ahead)
      ∙ (client_both second (third ++ last) ∙ (ap₂ (λ (a b : List Deed). a ++ b) (client_of_client deeds) (client_both third last ∙ (ap₂ (λ (a b : List Deed). a ++ b) here_deeds (client_of_server tail) ∙ append-nil (all_deeds affairs)))))) in
      let on_link : DeedsSo (all_deeds affairs) client.client = deeds_so affairs client.client (deeds_on set near no_channels client twined.opens) asked in
      let before : DeedsSo start.deeds begun = subst (λ (l : List Deed). DeedsSo l begun) (map_deeds start.deeds) (deeds_so (map Does start.deeds) begun (all_does start.deeds) start.asked) in
      let so : DeedsSo (client_side moves) begun =
      subst (λ (l : List Deed). DeedsSo l begun) (sym client_is)
      (so_both deeds (all_deeds affairs) begun (so_both start.deeds (Hears events.LinkUp ∷ []) begun before (record { answers = (tt, tt); named = tt; read = tt })) (subst (λ (c : Client). DeedsSo (all_deeds affairs) c) now on_link)) in
      -- what the multiplexers carry
      let served_is : server_side third ≡ served_on set far no_channels server = server_on set twists both ∙ ap (λ (w : List Strand). served_on set w no_channels server) twined.far_is in
      let through : IsGoneThrough set twists client server =
      record {
        muxed = good.good.direct;
        free = start.free;
        opens = opens;
        read = subst (λ (l : List Deed). AllByRecursion IsReadSo (frames_over l client.client)) (sym here_deeds) on_link.read;
        streams = twined.streams;
        behind = subst (NoneComesBehind rfcomm_psm) (sym served_is) twined.behind;
      } in
      let here = link_stays set twists client server through in
      let after_first = still_carriage ahead begun no_carriage still in
      let after_second = silent_carriage deeds begun no_carriage silent in
      let stay_third : StayCarried (third ++ last) client.client no_carriage = carried_both third last client.client no_carriage here.stays (stay_quiet tail (moved third client.client) (carriage_behind third client.client no_carriage) here.last quiet) in
      let stay_second : StayCarried (second ++ (third ++ last)) begun no_carriage =
      carried_both second (third ++ last) begun no_carriage (stay_client deeds begun no_carriage none_are_carried (subst AreCarried (sym after_second) none_are_carried))
      (subst (StayCarried (third ++ last) (moved second begun)) (sym after_second) (subst (λ (c : Client). StayCarried (third ++ last) c no_carriage) (now ∙ sym (client_moved deeds begun)) stay_third)) in
      let stay_first : StayCarried moves begun no_carriage =
      carried_both first (second ++ (third ++ last)) begun no_carriage (stay_quiet ahead begun no_carriage none_are_carried (still_quiet ahead still))
      (subst (StayCarried (second ++ (third ++ last)) (moved first begun)) (sym after_first) (subst (λ (c : Client). StayCarried (second ++ (third ++ last)) c no_carriage) (sym (server_moved ahead begun)) stay_second)) in
      -- what is the server's
      let server_is : server_side moves ≡ ahead ++ (served_on set far no_channels server ++ tail) =
      server_both first (second ++ (third ++ last)) ∙ (ap₂ (λ (a b : List Occurrence). a ++ b) (server_of_server ahead)
      (server_both second (third ++ last) ∙ (ap (λ (l : List Occurrence). l ++ server_side (third ++ last)) (server_of_client deeds)
      ∙ (server_both third last ∙ ap₂ (λ (a b : List Occurrence). a ++ b) served_is (server_of_server tail))))) in
      record {
        push = record { client = start.old; name = start.name; size = start.size; content = None; moves = moves };
        named = name_among (client_side moves) start.name names start.named;
        pushed = carried_push set.settings muxed start.old start.name start.size moves start.good start.begins.answered so stay_first;
        is = server_is;
      }

-- ---- the server

module _ (Are : List Answer → Type 0) where
  abbrev Serves : Reacted → List Occurrence → Type 0
  Serves at occurrences = AllServeCarried Are at occurrences

  serves_both : (xs ys : List Occurrence) (at : Reacted) → Serves at xs → Serves (served.all_done xs at) ys → Serves at (xs ++ ys)
  serves_both [] ys at one two = two
  serves_both (x ∷ xs) ys at one two = (one.0, serves_both xs ys (done x at) one.1 two)

  news_serves : (heard : News) (at : Reacted) → Serves at (news_served heard)
  news_serves (Linked Up) at = tt
  news_serves (Linked (Down reason)) at = (record { own = tt; answers = tt; carried = tt }, tt)
  news_serves (Failed status) at = tt
  news_serves (Heard pdu) at = tt
  news_serves TimerFired at = tt
  news_serves Cancelled at = tt
  news_serves (Opening name) at = tt

  event_serves : (event : ChannelEvent) (at : Reacted) → Serves at (event_served event)
  event_serves (channels.Opened own psm) at = tt
  event_serves (channels.Closed own psm reason) at = by (is_told reason)
    where
      by : (is : Bool) → Serves at (cond is (Closed psm ∷ []) [])
      by true = (record { own = tt; answers = tt; carried = tt }, tt)
      by false = tt
  event_serves (channels.Features features) at = tt
  event_serves channels.FeaturesLost at = tt
  event_serves (channels.DisconnectLost own) at = tt

  -- a channel takes octets alone
  taken_octets : (own : ℕ) (sdu : List ℕ) (v : Channels) → takes_sdu own sdu v ≡ true → IsOctets sdu
  taken_octets own sdu v takes = octets_by sdu (and_parts (fits (length sdu) (peer_mtu own v) && not (waits own v)) (are_octets sdu) takes).1

  taken_serves : (own : Option ℕ) (lent : Lent) (v : Channels) (at : Reacted) → lent_sdu at.server ≡ Some lent → IsSaid lent.payload (sdu_of lent.payload) → Serves at (taken_by own lent v)
  taken_serves None lent v at is said = tt
  taken_serves (Some own) lent v at is said = by (takes_sdu own (sdu_of lent.payload) v) refl
    where
      by : (takes : Bool) → takes_sdu own (sdu_of lent.payload) v ≡ takes → Serves at (cond takes (Went lent.psm (sdu_of lent.payload) ∷ []) [])
      by true takes = (record { own = (lent, is, refl, said, taken_octets own (sdu_of lent.payload) v takes); answers = tt; carried = tt }, tt)
      by false takes = tt

  lent_serves : (lent : Option Lent) (v : Channels) (p : ServerProfile) (at : Reacted) → lent_sdu at.server ≡ lent → ((one : Lent) → lent ≡ Some one → IsSaid one.payload (sdu_of one.payload)) → Serves at (lent_by lent v p)
  lent_serves None v p at is said = tt
  lent_serves (Some lent) v p at is said = taken_serves (endpoint_of lent.psm p.endpoints) lent v at is (said lent refl)

  feed_serves : (feed : Feed) (p : ServerProfile) → InboxAnswers Are feed → SaysSo p feed → AllByRecursion NoPacket (served_with p feed) → Serves (reacted p) (served_with p feed)
  feed_serves (Gifts circumstances) p grants said packets = (record { own = tt; answers = grants; carried = tt }, tt)
  feed_serves (Learns circumstances heard) p grants said packets = news_serves heard (reacted p)
  feed_serves (Receives own psm sdu) p grants said packets = (record { own = tt; answers = tt; carried = packets.0 }, tt)
  feed_serves (Happens event v) p grants said packets = event_serves event (reacted p)
  feed_serves (Sent v) p grants said packets = tt
  feed_serves (Steps v) p grants said packets = (record { own = tt; answers = tt; carried = tt }, lent_serves (lent_sdu (lends p.server)) v p (done Asked (reacted p)) refl said)

  pub serve_from : (settings : Settings) (content : Option Contents) (feeds : List Feed) (p : ServerProfile) → AllByRecursion (InboxAnswers Are) feeds → AllSaySo settings content p feeds → AllByRecursion NoPacket (served_from settings content p feeds)
      → Serves (reacted p) (served_from settings content p feeds)
  serve_from settings content [] p grants said packets = tt
  serve_from settings content (feed ∷ feeds) p grants said packets =
      let next = fed (server_profile settings content) p feed in
      let one = all_ahead NoPacket (served_with p feed) (served_from settings content next feeds) packets in
      serves_both (served_with p feed) (served_from settings content next feeds) (reacted p) (feed_serves feed p grants.0 said.0 one.0)
      (subst (λ (at : Reacted). Serves at (served_from settings content next feeds)) (feed_done settings content p feed) (serve_from settings content feeds next grants.1 said.1 one.1))

-- ---- the law

pub carried_requests_are_heard : CarriedRequestsAreHeard
carried_requests_are_heard asks settings before muxed talk_a talk_b a b near far so =
    let set = over_stored asks settings before in
    let A = client_profile settings in
    let B = server_profile settings set.content in
    let first : GoodMux settings (new_client settings) = record { good = good_first settings Rfcomm muxed; numbers = (refl, refl, refl) } in
    let all = made set IsSo (GoodMux settings) (IsCarried settings) (MuxTwined set) (goes_on settings) (one_push set muxed) (no_push settings muxed) (λ k. k) near.so.lives.spans near.so.lives.now near.so.lives.feeds A.first a.profile
    far.so.lives.spans far.so.lives.now far.so.lives.feeds B.first b.profile near.fed far.fed so.twined (subst (AreTimely false) (sym near.so.lives.marks_are) near.so.timely) (subst (AreTimely false) (sym far.so.lives.marks_are) far.so.timely) refl first (all_so _ A.first.client (clients_are_answered longest_octets settings A.first near.so.lives.feeds so.small) so.asked) in
    let heard = carried-are_heard settings before all.pushes all.last all.pushed all.last_pushed
    (subst (AllServeCarried AllGranted (new_over settings before)) all.is (serve_from AllGranted settings set.content far.so.lives.feeds B.first so.granted so.said so.packets)) in
    subst (AllMayCome settings [] (new_over settings before)) (sym all.is) heard
