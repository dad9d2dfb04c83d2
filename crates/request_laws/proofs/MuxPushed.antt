-- What happened to both hosts over their links is a list of pushes over RFCOMM whose clients find the server's channel in its own answers.
use Rattle.std.proofs.Common.{◌≡◌, ℕ, ◌≤◌, ◌&&◌, List, [], ◌∷◌, ◌++◌, map, ◌-◌, Option, Result, Ok, inl, inr, refl, sym, ap, ap₂, subst, ◌∙◌, append-nil, arith}
use Rattle.std.specs.List.{AllByRecursion, flat_map}
use Rattle.pair_laws.specs.bt_base.specs.declared.ports.PortFault.{PortFault}
use Rattle.pair_laws.specs.bt_base.specs.Objects.{Object}
use Rattle.pair_laws.specs.bt_base.specs.declared.settings.Settings.{Settings}
use Rattle.pair_laws.specs.bt_base.specs.declared.settings.Transport.{Transport}
use Rattle.pair_laws.specs.bt_base.specs.declared.settings.Transport.TheVariants.{Rfcomm}
use Rattle.pair_laws.specs.channel_model.specs.Value.{no_channels}
use Rattle.pair_laws.specs.obex_session.specs.InboxCalls.{Answer}
use Rattle.pair_laws.specs.push_model.specs.Client.{Client, own_maximum, is_direct, with_object, new_client}
use Rattle.pair_laws.specs.push_model.specs.Events as events
use Rattle.pair_laws.specs.push_model.specs.Laws as push
use Rattle.pair_laws.specs.push_model.specs.Laws.{Deed, Hears, all_done}
use Rattle.pair_laws.specs.push_model.specs.Server.{Reacted, object_psm, rfcomm_psm}
use Rattle.pair_laws.specs.push_laws.specs.Carriage.{no_carriage, frames_by, StayCarried, AreCarried}
use Rattle.pair_laws.specs.push_laws.specs.Dialogs.{AllServeCarried}
use Rattle.pair_laws.specs.push_laws.specs.Occurrences.{Occurrence, done}
use Rattle.pair_laws.specs.push_laws.specs.Parties.{Move, server_side, client_side, Push}
use Rattle.pair_laws.specs.push_laws.specs.Searches.{AllServe, IsPushedOver, StaysTrue, no_traffic}
use Rattle.pair_laws.specs.push_laws.specs.Sending.{AllAnswer}
use Rattle.pair_laws.specs.push_laws.specs.Spelled.{name_by}
use Rattle.pair_laws.specs.push_laws.proofs.Among.{name_among}
use Rattle.pair_laws.specs.push_model.specs.Events.{search_psm}
use Rattle.pair_laws.specs.host_model.specs.Clients.{ClientProfile}
use Rattle.pair_laws.specs.host_model.specs.Servers.{ServerProfile}
use Rattle.pair_laws.specs.shelf_model.specs.Held.{longest_octets}
use Rattle.pair_laws.specs.host_laws.specs.Answered.{IsSmall, IsAnswered, AllAnswered}
use Rattle.pair_laws.specs.host_laws.specs.Pushing.{Affair, Begins, Does, client_after, AllAsked}
use Rattle.pair_laws.specs.host_laws.specs.ShelfAnswers.{IsGiven}
use Rattle.pair_laws.specs.host_laws.specs.Woven.{Strand}
use Rattle.request_laws.specs.Carried.{frames_over, IsReadSo, NoneComesBehind, IsGoneThrough}
use Rattle.request_laws.specs.MuxFed.{MuxTwined}
use Rattle.request_laws.specs.Twists.{of_client, Set, new_both, all_deeds, all_moves, OpensNone}
use Rattle.request_laws.specs.Streams.{no_streams}
use Rattle.request_laws.proofs.Beginning.{may_push, good_affair, no_units}
use Rattle.request_laws.proofs.Feeding.{IsDeed}
use Rattle.request_laws.proofs.MuxCarrying.{carriage_behind, carried_both, stay_client, stay_quiet, over_both, read_more, link_stays, none_are_carried, still_carriage, silent_carriage}
use Rattle.request_laws.proofs.MuxHeard.{GoodMux, numbers_after}
use Rattle.request_laws.proofs.Objects.{IsOfObject, answers_both}
use Rattle.request_laws.proofs.Piping.{moved, server_both, client_both, by_client, by_server, client_moved, server_moved, client_of_client, server_of_client, server_of_server, client_of_server, still_quiet}
use Rattle.request_laws.proofs.Pushes.{map_deeds, all_does, pushed_on, served_on, server_on, client_on, deeds_on, IsOne, IsNone, silent_up, done_both}
use Rattle.request_laws.proofs.Truths.{AllStayTrue, push-true, none-true}

-- ---- a client over RFCOMM

-- each frame that it asks to send is read so
abbrev pub IsFramed : Affair → Client → Type 0
IsFramed (Begins size name) client = Unit {0}
IsFramed (Does deed) client = AllByRecursion IsReadSo (frames_by deed client)

-- and its shelf answers with as many octets as it was asked for, those of its objects where it tells what it holds
pub record IsSo (shelf : Option (List Object)) (one : Affair) (client : Client) : Type 0 where
  pub answered : IsAnswered longest_octets one client
  pub given : IsGiven shelf one client
  pub framed : IsFramed one client

pub all-so : (shelf : Option (List Object)) (affairs : List Affair) (client : Client) → AllAnswered longest_octets affairs client → AllAsked (IsGiven shelf) affairs client → AllAsked IsFramed affairs client → AllAsked (IsSo shelf) affairs client
all-so shelf [] client answered given framed = tt
all-so shelf (one ∷ rest) client answered given framed = (record { answered = answered.0; given = given.0; framed = framed.0 }, all-so shelf rest (client_after one client) answered.1 given.1 framed.1)

-- a push over RFCOMM, of an object of the shelf
abbrev pub IsHeldOver : Option (List Object) → Push → Type 0
IsHeldOver shelf push = IsPushedOver push × IsOfObject shelf push

pub goes-on : (shelf : Option (List Object)) (settings : Settings) (one : Affair) (client : Client) → IsSo shelf one client → GoodMux settings client → GoodMux settings (client_after one client)
goes-on shelf settings one client so good = record {
  good = good_affair Rfcomm (new_client settings).session.maximum (new_client settings).session.wanted longest_octets (omega arith) one client so.answered good.good;
  numbers = numbers_after settings one client good.good.direct good.numbers;
}

-- ---- deeds

record DeedsSo (shelf : Option (List Object)) (deeds : List Deed) (client : Client) : Type 0 where
  answers : AllAnswer shelf deeds client
  read : AllByRecursion IsReadSo (frames_over deeds client)

deeds_so : (shelf : Option (List Object)) (affairs : List Affair) (client : Client) → AllByRecursion IsDeed affairs → AllAsked (IsSo shelf) affairs client → DeedsSo shelf (all_deeds affairs) client
deeds_so shelf [] client all asked = record { answers = tt; read = tt }
deeds_so shelf (Begins size name ∷ affairs) client all asked = absurd all.0
deeds_so shelf (Does deed ∷ affairs) client all asked =
    let rest = deeds_so shelf affairs (push.done deed client) all.1 asked.1 in
    record { answers = (asked.0.given, rest.answers); read = read_more (frames_by deed client) (frames_over (all_deeds affairs) (push.done deed client)) asked.0.framed rest.read }

so_both : (shelf : Option (List Object)) (xs ys : List Deed) (client : Client) → DeedsSo shelf xs client → DeedsSo shelf ys (all_done xs client) → DeedsSo shelf (xs ++ ys) client
so_both shelf xs ys client one two = record {
  answers = answers_both shelf xs ys client one.answers two.answers;
  read = subst (AllByRecursion IsReadSo) (sym (over_both xs ys client)) (read_more (frames_over xs client) (frames_over ys (all_done xs client)) one.read two.read);
}

-- ---- one push

-- as on each link over RFCOMM; and on service discovery and over L2CAP nothing is made up
pub record TrueTwined (set : Set) (near far : List Strand) (client : ClientProfile) (server : ServerProfile) : Type 0 where
  pub muxed : MuxTwined set near far client server
  pub search : AllStayTrue search_psm refl set muxed.twists (new_both client server) no_streams
  pub direct : AllStayTrue object_psm refl set muxed.twists (new_both client server) no_streams

module _ (shelf : Option (List Object)) (settings : Settings) (muxed : settings.transport ≡ Rfcomm) where
  true_push : (client : Client) (name : List ℕ) (size : ℕ) (moves : List Move) → GoodMux settings client → IsSmall longest_octets (Ok size) name → AllAnswer shelf (client_side moves) (with_object name size client) → StayCarried moves (with_object name size client) no_carriage
      → StaysTrue search_psm moves (with_object name size client) no_traffic → StaysTrue object_psm moves (with_object name size client) no_traffic
      → (let push : Push = record { client = client; name = name; size = size; content = shelf; moves = moves } in IsPushedOver push)
  true_push client name size moves good small answers stays search direct =
      let fixed = good.good.stands.0 in
      let largest : client.mux.largest ≡ settings.mtu - 6 = good.numbers.1 in
      let cap : client.mux.account.cap ≡ settings.credits = good.numbers.2 in
      let mtu_high = settings.mtu_high in
      let low = settings.credits_low in
      let high = settings.credits_high in
      let most = settings.obex_high in
      let longest : client.session.maximum ≡ own_maximum settings.transport settings = fixed.maximum in
      let own : own_maximum settings.transport settings ≡ settings.obex = ap (λ (t : Transport). own_maximum t settings) muxed in
      let may = may_push Rfcomm (new_client settings).session.maximum (new_client settings).session.wanted longest_octets (omega arith) client name size good.good small in
      record {
        client = record {
          muxed = good.good.direct;
          role = good.numbers.0;
          fits = omega (arith, largest, mtu_high);
          some = omega (arith, cap, low);
          few = omega (arith, cap, high);
          plain = fixed.wanted ∙ ap (λ (t : Transport). is_direct t && settings.srm) muxed;
          own = may.own;
          short = omega (arith, longest, own, most);
          least = may.least;
          most = may.most;
        };
        object = record { short = may.short; small = may.small };
        asked = search;
        direct = direct;
        carried = stays;
        answers = answers;
      }

  -- one on which nothing comes
  pub no-push : (set : Set) → IsNone (GoodMux settings) (IsHeldOver shelf)
  no-push set client occurrences good quiet =
      let small : IsSmall longest_octets (Ok 0) [] = record { short = no_units; bounded = λ count is. none_left count is } in
      let begun = with_object [] 0 client in
      record {
        push = record { client = client; name = []; size = 0; content = shelf; moves = by_server occurrences };
        named = ap (λ (l : List Deed). name_by l []) (client_of_server occurrences);
        pushed = (
          true_push client [] 0 (by_server occurrences) good small (subst (λ (l : List Deed). AllAnswer shelf l begun) (sym (client_of_server occurrences)) tt) (stay_quiet occurrences begun no_carriage none_are_carried quiet)
              (none-true search_psm refl set occurrences begun quiet) (none-true object_psm refl set occurrences begun quiet),
          inl (client_of_server occurrences),
        );
        is = server_of_server occurrences;
      }
    where
      inner : (n m : ℕ) → (let size : Result ℕ PortFault = Ok n in size ≡ Ok m) → n ≡ m
      inner n m is = cc

      none_left : (count : ℕ) → (let size : Result ℕ PortFault = Ok 0 in size ≡ Ok count) → count ≤ longest_octets
      none_left count is = subst (λ (n : ℕ). n ≤ longest_octets) (inner 0 count is) (omega arith)

module _ (shelf : Option (List Object)) (set : Set) (muxed : set.settings.transport ≡ Rfcomm) where
  pub one-push : IsOne set (IsSo shelf) (GoodMux set.settings) (IsHeldOver shelf) (TrueTwined set)
  one-push client server names ahead tail near far start good still quiet both_true asked =
      let twined = both_true.muxed in
      let begun = with_object start.name start.size start.old in
      let both = new_both client server in
      let deeds = start.deeds ++ Hears events.LinkUp ∷ [] in
      let silent = silent_up start.deeds begun start.silent in
      let now : client.client ≡ all_done deeds begun = start.now ∙ sym (done_both start.deeds (Hears events.LinkUp ∷ []) begun) in
      let twists = twined.twists in
      let opens : AllByRecursion OpensNone (flat_map of_client twists) = subst (AllByRecursion OpensNone) (sym twined.near_is) twined.opens in
      let first = by_server ahead in
      let second = by_client deeds in
      let third = all_moves set twists both in
      let last = by_server tail in
      let moves = first ++ (second ++ (third ++ last)) in
      -- what is the client's
      let affairs = pushed_on set near no_channels client in
      let here_deeds : client_side third ≡ all_deeds affairs = client_on set twists both ∙ ap (λ (w : List Strand). all_deeds (pushed_on set w no_channels client)) twined.near_is in
      let client_is : client_side moves ≡ deeds ++ all_deeds affairs =
      client_both first (second ++ (third ++ last)) ∙ (ap (λ (l : List Deed). l ++ client_side (second ++ (third ++ last))) (client_of_server ahead)
      ∙ (client_both second (third ++ last) ∙ (ap₂ (λ (a b : List Deed). a ++ b) (client_of_client deeds) (client_both third last ∙ (ap₂ (λ (a b : List Deed). a ++ b) here_deeds (client_of_server tail) ∙ append-nil (all_deeds affairs)))))) in
      let on_link : DeedsSo shelf (all_deeds affairs) client.client = deeds_so shelf affairs client.client (deeds_on set near no_channels client twined.opens) asked in
      let before : DeedsSo shelf start.deeds begun = subst (λ (l : List Deed). DeedsSo shelf l begun) (map_deeds start.deeds) (deeds_so shelf (map Does start.deeds) begun (all_does start.deeds) start.asked) in
      let so : DeedsSo shelf (deeds ++ all_deeds affairs) begun =
      so_both shelf deeds (all_deeds affairs) begun (so_both shelf start.deeds (Hears events.LinkUp ∷ []) begun before (record { answers = (tt, tt); read = tt })) (subst (λ (c : Client). DeedsSo shelf (all_deeds affairs) c) now on_link) in
      let answers : AllAnswer shelf (client_side moves) begun = subst (λ (l : List Deed). AllAnswer shelf l begun) (sym client_is) so.answers in
      -- what the multiplexers carry
      let served_is : server_side third ≡ served_on set far no_channels server = server_on set twists both ∙ ap (λ (w : List Strand). served_on set w no_channels server) twined.far_is in
      let through : IsGoneThrough set twists client server =
      record {
        muxed = good.good.direct;
        free = start.free;
        opens = opens;
        read = subst (λ (l : List Deed). AllByRecursion IsReadSo (frames_over l client.client)) (sym here_deeds) on_link.read;
        streams = twined.streams;
        behind = subst (NoneComesBehind rfcomm_psm) (sym served_is) twined.behind;
      } in
      let here = link_stays set twists client server through in
      let after_first = still_carriage ahead begun no_carriage still in
      let after_second = silent_carriage deeds begun no_carriage silent in
      let stay_third : StayCarried (third ++ last) client.client no_carriage = carried_both third last client.client no_carriage here.stays (stay_quiet tail (moved third client.client) (carriage_behind third client.client no_carriage) here.last quiet) in
      let stay_second : StayCarried (second ++ (third ++ last)) begun no_carriage =
      carried_both second (third ++ last) begun no_carriage (stay_client deeds begun no_carriage none_are_carried (subst AreCarried (sym after_second) none_are_carried))
      (subst (StayCarried (third ++ last) (moved second begun)) (sym after_second) (subst (λ (c : Client). StayCarried (third ++ last) c no_carriage) (now ∙ sym (client_moved deeds begun)) stay_third)) in
      let stay_first : StayCarried moves begun no_carriage =
      carried_both first (second ++ (third ++ last)) begun no_carriage (stay_quiet ahead begun no_carriage none_are_carried (still_quiet ahead still))
      (subst (StayCarried (second ++ (third ++ last)) (moved first begun)) (sym after_first) (subst (λ (c : Client). StayCarried (second ++ (third ++ last)) c no_carriage) (sym (server_moved ahead begun)) stay_second)) in
      -- what is the server's
      let server_is : server_side moves ≡ ahead ++ (served_on set far no_channels server ++ tail) =
      server_both first (second ++ (third ++ last)) ∙ (ap₂ (λ (a b : List Occurrence). a ++ b) (server_of_server ahead)
      (server_both second (third ++ last) ∙ (ap (λ (l : List Occurrence). l ++ server_side (third ++ last)) (server_of_client deeds)
      ∙ (server_both third last ∙ ap₂ (λ (a b : List Occurrence). a ++ b) served_is (server_of_server tail))))) in
      record {
        push = record { client = start.old; name = start.name; size = start.size; content = shelf; moves = moves };
        named = name_among (client_side moves) start.name names start.named;
        pushed = (
          true_push shelf set.settings muxed start.old start.name start.size moves start.good start.begins.answered answers stay_first
              (push-true search_psm refl set ahead tail deeds twists begun client server now still silent quiet good.good.direct opens both_true.search)
              (push-true object_psm refl set ahead tail deeds twists begun client server now still silent quiet good.good.direct opens both_true.direct),
          inr (refl, start.begins.given start.size refl),
        );
        is = server_is;
      }

-- ---- the server

pub serves-so : (Are : List Answer → Type 0) (occurrences : List Occurrence) (at : Reacted) → AllServeCarried Are at occurrences → AllServe Are at occurrences
serves-so Are [] at all = tt
serves-so Are (one ∷ rest) at all = (record { own = all.0.own; answers = all.0.answers }, serves-so Are rest (done one at) all.1)
