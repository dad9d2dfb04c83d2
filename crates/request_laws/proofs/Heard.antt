-- What happened to both hosts over their links is a list of pushes, so no request is ignored.
use Rattle.std.proofs.Common.{◌≡◌, ◌⊎◌, ℕ, ◌≤◌, ◌<◌, ◌^◌, length, Some, Bool, true, false, List, [], ◌∷◌, ◌++◌, map, Option, None, Result, Ok, inl, inr, refl, sym, ap, ap₂, subst, ◌∙◌, append-nil, arith}
use Rattle.std.specs.List.{AllByRecursion, flat_map}
use Rattle.pair_laws.specs.bt_base.specs.declared.ports.PortFault.{PortFault}
use Rattle.pair_laws.specs.bt_base.specs.declared.settings.Transport.TheVariants.{L2cap}
use Rattle.pair_laws.specs.channel_model.specs.Value.{Channels, no_channels}
use Rattle.pair_laws.specs.channel_laws.specs.Runs as channels
use Rattle.pair_laws.specs.push_model.specs.Client.{Client, with_object, new_client}
use Rattle.pair_laws.specs.push_model.specs.Events as events
use Rattle.pair_laws.specs.push_model.specs.Events.{hears_news}
use Rattle.pair_laws.specs.push_model.specs.Laws as push
use Rattle.pair_laws.specs.push_model.specs.Laws.{Deed, Hears, all_done}
use Rattle.pair_laws.specs.push_laws.specs.Laws.{new_over, stored_in}
use Rattle.pair_laws.specs.push_laws.specs.Occurrences.{Occurrence, all_done as all_done_by}
use Rattle.pair_laws.specs.push_laws.specs.Gains.{objects as spelled_by}
use Rattle.pair_laws.specs.obex_session.specs.InboxCalls.{Answer}
use Rattle.pair_laws.specs.push_laws.specs.Parties.{come_by, Move, server_side, client_side, Pipes, no_pipes, ArePipes, StayPipes, Push, IsOffered, IsPushed, over_pushes, AllServeDirectly}
use Rattle.pair_laws.specs.push_laws.specs.Premises.{AllGranted, AllMayCome}
use Rattle.pair_laws.specs.push_laws.specs.Sending.{AllAnswer}
use Rattle.pair_laws.specs.push_laws.specs.Spelled.{name_by}
use Rattle.pair_laws.specs.push_laws.proofs.Among.{name_among}
use Rattle.pair_laws.specs.push_laws.proofs.Losing.{pushes-gain_all}
use Rattle.pair_laws.specs.push_laws.proofs.Parties.{requests-are_heard}
use Rattle.pair_laws.specs.bt_base.specs.Objects.{Object}
use Rattle.pair_laws.specs.bt_base.specs.declared.settings.Settings.{Settings}
use Rattle.pair_laws.specs.world_model.specs.Machines.{LinkEvent}
use Rattle.pair_laws.specs.world_model.specs.Talks.{Talk}
use Rattle.pair_laws.specs.host_model.specs.Circumstances.{Circumstance}
use Rattle.pair_laws.specs.host_model.specs.Hosts.{Host}
use Rattle.pair_laws.specs.host_laws.specs.Calls.{HostsAsk}
use Rattle.pair_laws.specs.host_model.specs.Clients.{ClientProfile, client_profile}
use Rattle.pair_laws.specs.host_model.specs.Servers.{ServerProfile, server_profile}
use Rattle.pair_laws.specs.shelf_model.specs.Held.{longest_octets}
use Rattle.pair_laws.specs.host_laws.specs.Answered.{IsSmall, IsAnswered, BeginsAtMost}
use Rattle.pair_laws.specs.host_laws.specs.Gaining.{IsDirect}
use Rattle.pair_laws.specs.host_laws.specs.Fed.{strand_feeds, woven_feeds, WovenFed, TalksFed}
use Rattle.pair_laws.specs.host_laws.specs.Feeds.{Feed}
use Rattle.pair_laws.specs.host_laws.specs.OverLinks.{AreTimely}
use Rattle.pair_laws.specs.host_laws.specs.Openings.{names_begun}
use Rattle.pair_laws.specs.host_laws.specs.Pushing.{Affair, Begins, Does, client_after, client_behind, pushed_from, AllAsked}
use Rattle.pair_laws.specs.host_laws.specs.ShelfAnswers.{IsGiven}
use Rattle.pair_laws.specs.host_laws.specs.Serving.{served_from}
use Rattle.pair_laws.specs.host_laws.specs.Woven.{Strand, turned}
use Rattle.pair_laws.specs.host_laws.proofs.Answered.{clients_are_answered}
use Rattle.pair_laws.specs.host_laws.proofs.Pushing.{all_pushed}
use Rattle.request_laws.specs.BothFed.{most_octets, AreTwined, over_stored, RequestsOfLinksAreHeard}
use Rattle.pair_laws.specs.host_laws.proofs.StrandsFed.{strand_so}
use Rattle.request_laws.specs.AllSizes.{BothAreOffered, LinksGainAll}
use Rattle.request_laws.specs.Twists.{Twist, AtClient, AtServer, of_client, of_server, Both, new_both, Set, both_after, all_deeds, moves_by, all_moves, taken_in, carried_by, pipes_behind, AllStayPiped, NoneBehind, OpensNone, Twined}
use Rattle.request_laws.proofs.Asking.{even_of, strand_makes}
use Rattle.request_laws.proofs.Carrying.{Carries, pipes_carried, carries_none, carries_client, carries_server}
use Rattle.request_laws.proofs.Beginning.{Good, may_push, no_units, good_all, good_affair, good_first}
use Rattle.request_laws.proofs.Timely.{HearsNothing}
use Rattle.request_laws.proofs.Feeding.{pushed-both, served-both, IsDeed, behind_deeds, strand_client, strand_shape}
use Rattle.request_laws.proofs.Lending.{serve_all}
use Rattle.request_laws.proofs.Objects.{IsOfObject, given_any, answers_both}
use Rattle.request_laws.proofs.Latest.{IsIdle, IsLast, Tied, IsOneTied, IsNoneTied, latest}
use Rattle.request_laws.proofs.Pushes.{map_deeds, all_does, asked_ahead, asked_behind, pushed_on, served_on, server_on, client_on, deeds_on, Pushes, silent_up, done_both}
use Rattle.request_laws.proofs.Piping.{moved, pipes_both, stay_both, server_both, client_both, by_client, by_server, client_moved, server_moved, client_of_client, server_of_client, server_of_server, client_of_server, stay_client, stay_quiet, stay_server, still_pipes, silent_pipes, still_quiet, no_pipes_are, closed_client, come_cut, quiet_after}

-- ---- deeds of affairs

-- the shelf answers with as many octets as were asked for, and with those of its objects where it tells what it holds
abbrev pub IsAskedSo : Option (List Object) → ℕ → Affair → Client → Type 0
IsAskedSo shelf most one client = IsAnswered most one client × IsGiven shelf one client

pub both_asked : (shelf : Option (List Object)) (most : ℕ) (affairs : List Affair) (client : Client) → AllAsked (IsAnswered most) affairs client → AllAsked (IsGiven shelf) affairs client → AllAsked (IsAskedSo shelf most) affairs client
both_asked shelf most [] client answered given = tt
both_asked shelf most (one ∷ rest) client answered given = ((answered.0, given.0), both_asked shelf most rest (client_after one client) answered.1 given.1)

answered_ones : (shelf : Option (List Object)) (most : ℕ) (affairs : List Affair) (client : Client) → AllAsked (IsAskedSo shelf most) affairs client → AllAsked (IsAnswered most) affairs client
answered_ones shelf most [] client asked = tt
answered_ones shelf most (one ∷ rest) client asked = (asked.0.0, answered_ones shelf most rest (client_after one client) asked.1)

answered_deeds : (shelf : Option (List Object)) (most : ℕ) (affairs : List Affair) (client : Client) → AllByRecursion IsDeed affairs → AllAsked (IsAskedSo shelf most) affairs client → AllAnswer shelf (all_deeds affairs) client
answered_deeds shelf most [] client all answered = tt
answered_deeds shelf most (Begins size name ∷ affairs) client all answered = absurd all.0
answered_deeds shelf most (Does deed ∷ affairs) client all answered = (answered.0.1, answered_deeds shelf most affairs (push.done deed client) all.1 answered.1)

-- ---- on one link

-- a push of an object that is no longer
abbrev pub Offered : Option (List Object) → ℕ → Push → Type 0
Offered shelf most push = IsOffered push × (push.size ≤ most) × IsOfObject shelf push

module _ (shelf : Option (List Object)) (set : Set) (maximum : ℕ) (wanted : Bool) (most : ℕ) (fits : most < 2 ^ 32) where
  -- a client over L2CAP that takes packets so long, and wants single response mode or not
  abbrev pub G : Client → Type 0
  G client = Good L2cap maximum wanted client

  -- the client moves as its profile does
  moved_by : (strand : Strand) (both : Both) → OpensNone strand → moved (moves_by set (AtClient strand) both) both.client.client ≡ (both_after set (AtClient strand) both).client.client
  moved_by strand both none =
      client_moved (all_deeds (pushed_from set.settings both.client (strand_feeds strand both.near))) both.client.client ∙ sym (strand_client set.settings (set.asks.clients set.settings) strand both.near both.client none)

  -- what the shelf answered, behind one thing more
  record Behind (strand : Strand) (weave : List Strand) (both : Both) : Type 0 where
    good : G (both_after set (AtClient strand) both).client.client
    answered : (let next = both_after set (AtClient strand) both in AllAsked (IsAskedSo shelf most) (pushed_on set weave next.near next.client) next.client.client)

  behind : (strand : Strand) (weave : List Strand) (both : Both) → G both.client.client → AllAsked (IsAskedSo shelf most) (pushed_on set (strand ∷ weave) both.near both.client) both.client.client → Behind strand weave both
  behind strand weave both good answered =
      let A = client_profile set.settings in
      let asks = set.asks.clients set.settings in
      let next = both_after set (AtClient strand) both in
      let feeds = strand_feeds strand both.near in
      let more = woven_feeds A asks weave next.near next.client in
      let one = pushed_from set.settings both.client feeds in
      let so = strand_so A asks strand both.near both.client in
      let cut : pushed_on set (strand ∷ weave) both.near both.client ≡ one ++ pushed_from set.settings next.client more =
      pushed-both set.settings feeds more both.client ∙ ap (λ (p : ClientProfile). one ++ pushed_from set.settings p more) so in
      let all = subst (λ (l : List Affair). AllAsked (IsAskedSo shelf most) l both.client.client) cut answered in
      let now : client_behind one both.client.client ≡ next.client.client = sym (all_pushed set.settings feeds both.client) ∙ ap (λ (p : ClientProfile). p.client) so in
      record {
        good = subst G now (good_all L2cap maximum wanted most fits one both.client.client (answered_ones shelf most one both.client.client (asked_ahead (IsAskedSo shelf most) one (pushed_from set.settings next.client more) both.client.client all)) good);
        answered = subst (AllAsked (IsAskedSo shelf most) (pushed_from set.settings next.client more)) now (asked_behind (IsAskedSo shelf most) one (pushed_from set.settings next.client more) both.client.client all);
      }

  record Stays (moves : List Move) (client : Client) (pipes : Pipes) : Type 0 where
    stays : StayPipes moves client pipes
    last : ArePipes (pipes_behind moves client pipes)

  then_stays : (one two : List Move) (client now : Client) (pipes : Pipes) → now ≡ moved one client → StayPipes one client pipes → Stays two now (pipes_behind one client pipes) → Stays (one ++ two) client pipes
  then_stays one two client now pipes is first later = record {
    stays = stay_both one two client pipes first (subst (λ (c : Client). StayPipes two c (pipes_behind one client pipes)) is later.stays);
    last = subst ArePipes (ap (λ (c : Client). pipes_behind two c (pipes_behind one client pipes)) is ∙ sym (pipes_both one two client pipes)) later.last;
  }

  served_cut : (strand : Strand) (weave : List Strand) (both : Both)
      → (let next = both_after set (AtServer strand) both in served_on set (strand ∷ weave) both.far both.server ≡ served_from set.settings set.content both.server (strand_feeds strand both.far) ++ served_on set weave next.far next.server)
  served_cut strand weave both =
      let B = server_profile set.settings set.content in
      let asks = set.asks.servers set.settings set.content in
      let next = both_after set (AtServer strand) both in
      let feeds = strand_feeds strand both.far in
      let more = woven_feeds B asks weave next.far next.server in
      served-both set.settings set.content feeds more both.server
      ∙ ap (λ (p : ServerProfile). served_from set.settings set.content both.server feeds ++ served_from set.settings set.content p more) (strand_so B asks strand both.far both.server)

  -- `channel` is what the channels carry, and `pipes` with what the client asked to send
  stay_on : (twists : List Twist) (both : Both) (channel pipes : Pipes) → AllByRecursion OpensNone (flat_map of_client twists) → G both.client.client → AllAsked (IsAskedSo shelf most) (pushed_on set (flat_map of_client twists) both.near both.client) both.client.client
      → Carries both.client channel pipes → ArePipes channel → AllStayPiped set twists both channel → (pipes.closed ≡ true → flat_map come_by (served_on set (flat_map of_server twists) both.far both.server) ≡ [])
      → NoneBehind (served_on set (flat_map of_server twists) both.far both.server) → Stays (all_moves set twists both) both.client.client pipes
  stay_on [] both channel pipes opens good answered carries now piped quiet ended = record { stays = tt; last = pipes_carried both.client channel pipes carries now }
  stay_on (AtClient strand ∷ twists) both channel pipes opens good answered carries now piped quiet ended =
      let moves = moves_by set (AtClient strand) both in
      let next = both_after set (AtClient strand) both in
      let deeds = all_deeds (pushed_from set.settings both.client (strand_feeds strand both.near)) in
      let rest = behind strand (flat_map of_client twists) both good answered in
      let makes = strand_makes set.settings strand both.near both.client opens.0 good.direct (even_of both.client channel.requests_sent pipes.requests_sent carries.sent) in
      let then_carries = carries_client deeds both.client next.client (taken_in strand both.near both.client) channel pipes carries makes in
      let after = pipes_behind moves both.client.client pipes in
      then_stays moves (all_moves set twists next) both.client.client next.client.client pipes (sym (moved_by strand both opens.0))
      (stay_client deeds both.client.client pipes (pipes_carried both.client channel pipes carries now) (pipes_carried next.client (carried_by set (AtClient strand) both channel) after then_carries piped.0))
      (stay_on twists next (carried_by set (AtClient strand) both channel) after opens.1 rest.good rest.answered then_carries piped.0 piped.1 (λ closed. quiet (sym (closed_client deeds both.client.client pipes) ∙ closed)) ended)
  stay_on (AtServer strand ∷ twists) both channel pipes opens good answered carries now piped quiet ended =
      let occurrences = served_from set.settings set.content both.server (strand_feeds strand both.far) in
      let moves = by_server occurrences in
      let next = both_after set (AtServer strand) both in
      let after = pipes_behind moves both.client.client pipes in
      let channel_after = pipes_behind moves both.client.client channel in
      let then_carries = carries_server occurrences both.client both.client.client channel pipes carries in
      let rest = served_on set (flat_map of_server twists) next.far next.server in
      let cut : served_on set (strand ∷ flat_map of_server twists) both.far both.server ≡ occurrences ++ rest = served_cut strand (flat_map of_server twists) both in
      let here : pipes.closed ≡ true → flat_map come_by (occurrences ++ rest) ≡ [] = λ closed. ap (flat_map come_by) (sym cut) ∙ quiet closed in
      let then_quiet = quiet_after occurrences rest both.client.client pipes here (subst NoneBehind cut ended) in
      then_stays moves (all_moves set twists next) both.client.client next.client.client pipes (sym (server_moved occurrences both.client.client))
      (stay_server occurrences both.client.client pipes (strand_shape set.settings set.content strand both.far both.server) (pipes_carried both.client channel pipes carries now) (pipes_carried both.client channel_after after then_carries piped.0)
      (λ closed. come_cut occurrences rest (here closed)))
      (stay_on twists next channel_after after opens good answered then_carries piped.0 piped.1 then_quiet.0 then_quiet.1)

  -- the push on a link, with its client as the link left it
  pub one_tied : IsOneTied set (IsAskedSo shelf most) G (Offered shelf most) (Twined set)
  one_tied client server names ahead tail near far start good still quiet twined answered =
      let begun = with_object start.name start.size start.old in
      let both = new_both client server in
      let deeds = start.deeds ++ Hears events.LinkUp ∷ [] in
      let silent = silent_up start.deeds begun start.silent in
      let after = all_done deeds begun in
      let now : client.client ≡ after = start.now ∙ sym (done_both start.deeds (Hears events.LinkUp ∷ []) begun) in
      let twists = twined.twists in
      let opens : AllByRecursion OpensNone (flat_map of_client twists) = subst (AllByRecursion OpensNone) (sym twined.near_is) twined.opens in
      let first = by_server ahead in
      let second = by_client deeds in
      let third = all_moves set twists both in
      let last = by_server tail in
      let moves = first ++ (second ++ (third ++ last)) in
      -- pipes
      let after_first : pipes_behind first begun no_pipes ≡ no_pipes = still_pipes ahead begun no_pipes still in
      let after_second : pipes_behind second begun no_pipes ≡ no_pipes = silent_pipes deeds begun no_pipes silent in
      let answered_here : AllAsked (IsAskedSo shelf most) (pushed_on set (flat_map of_client twists) no_channels client) client.client = subst (λ (w : List Strand). AllAsked (IsAskedSo shelf most) (pushed_on set w no_channels client) client.client) (sym twined.near_is) answered in
      let here = stay_on twists both no_pipes no_pipes opens good answered_here (carries_none client start.free) no_pipes_are twined.piped (λ closed. cc) (subst (λ (w : List Strand). NoneBehind (served_on set w no_channels server)) (sym twined.far_is) twined.behind) in
      let pipes = pipes_behind third client.client no_pipes in
      let stay_third : StayPipes (third ++ last) client.client no_pipes = stay_both third last client.client no_pipes here.stays (stay_quiet tail (moved third client.client) pipes here.last quiet) in
      let stay_second : StayPipes (second ++ (third ++ last)) begun no_pipes =
      stay_both second (third ++ last) begun no_pipes (stay_client deeds begun no_pipes no_pipes_are (subst ArePipes (sym after_second) no_pipes_are))
      (subst (λ (p : Pipes). StayPipes (third ++ last) (moved second begun) p) (sym after_second) (subst (λ (c : Client). StayPipes (third ++ last) c no_pipes) (now ∙ sym (client_moved deeds begun)) stay_third)) in
      let stay_first : StayPipes moves begun no_pipes =
      stay_both first (second ++ (third ++ last)) begun no_pipes (stay_quiet ahead begun no_pipes no_pipes_are (still_quiet ahead still))
      (subst (λ (p : Pipes). StayPipes (second ++ (third ++ last)) (moved first begun) p) (sym after_first) (subst (λ (c : Client). StayPipes (second ++ (third ++ last)) c no_pipes) (sym (server_moved ahead begun)) stay_second)) in
      -- what is the client's
      let affairs = pushed_on set near no_channels client in
      let here_deeds : client_side third ≡ all_deeds affairs = client_on set twists both ∙ ap (λ (w : List Strand). all_deeds (pushed_on set w no_channels client)) twined.near_is in
      let client_is : client_side moves ≡ deeds ++ all_deeds affairs =
      client_both first (second ++ (third ++ last)) ∙ (ap (λ (l : List Deed). l ++ client_side (second ++ (third ++ last))) (client_of_server ahead)
      ∙ (client_both second (third ++ last) ∙ (ap₂ (λ (a b : List Deed). a ++ b) (client_of_client deeds) (client_both third last ∙ (ap₂ (λ (a b : List Deed). a ++ b) here_deeds (client_of_server tail) ∙ append-nil (all_deeds affairs)))))) in
      let answers_old : AllAnswer shelf start.deeds begun = subst (λ (l : List Deed). AllAnswer shelf l begun) (map_deeds start.deeds) (answered_deeds shelf most (map Does start.deeds) begun (all_does start.deeds) start.asked) in
      let answers : AllAnswer shelf (client_side moves) begun =
      subst (λ (l : List Deed). AllAnswer shelf l begun) (sym client_is)
      (answers_both shelf deeds (all_deeds affairs) begun (answers_both shelf start.deeds (Hears events.LinkUp ∷ []) begun answers_old (tt, tt))
      (subst (λ (c : Client). AllAnswer shelf (all_deeds affairs) c) now (answered_deeds shelf most affairs client.client (deeds_on set near no_channels client twined.opens) answered))) in
      let ends : all_done (client_side moves) begun ≡ client_behind affairs client.client =
      ap (λ (l : List Deed). all_done l begun) client_is
      ∙ (done_both deeds (all_deeds affairs) begun ∙ (ap (all_done (all_deeds affairs)) (sym now) ∙ sym (behind_deeds affairs client.client (deeds_on set near no_channels client twined.opens)))) in
      -- what is the server's
      let server_is : server_side moves ≡ ahead ++ (served_on set far no_channels server ++ tail) =
      server_both first (second ++ (third ++ last)) ∙ (ap₂ (λ (a b : List Occurrence). a ++ b) (server_of_server ahead)
      (server_both second (third ++ last) ∙ (ap (λ (l : List Occurrence). l ++ server_side (third ++ last)) (server_of_client deeds)
      ∙ (server_both third last ∙ ap₂ (λ (a b : List Occurrence). a ++ b) (server_on set twists both ∙ ap (λ (w : List Strand). served_on set w no_channels server) twined.far_is) (server_of_server tail))))) in
      record {
        push = record { client = start.old; name = start.name; size = start.size; content = shelf; moves = moves };
        named = name_among (client_side moves) start.name names start.named;
        pushed = (
          (record { direct = start.good.direct; may = may_push L2cap maximum wanted most fits start.old start.name start.size start.good start.begins.0; answers = answers; carried = stay_first }, start.begins.0.bounded start.size refl, inr (refl, start.begins.1 start.size refl)),
          ends,
        );
        is = server_is;
      }

-- a push of its own, on which nothing comes: its client does nothing
pub none_tied : (shelf : Option (List Object)) (maximum : ℕ) (wanted : Bool) (most : ℕ) → most < 2 ^ 32 → IsNoneTied (Good L2cap maximum wanted) (Offered shelf most)
none_tied shelf maximum wanted most fits client occurrences good quiet =
    let small : IsSmall most (Ok 0) [] = record { short = no_units; bounded = λ count is. none_left count is } in
    record {
      push = record { client = client; name = []; size = 0; content = shelf; moves = by_server occurrences };
      named = ap (λ (l : List Deed). name_by l []) (client_of_server occurrences);
      pushed = (
        (
          record {
            direct = good.direct;
            may = may_push L2cap maximum wanted most fits client [] 0 good small;
            answers = subst (λ (l : List Deed). AllAnswer shelf l (with_object [] 0 client)) (sym (client_of_server occurrences)) tt;
            carried = stay_quiet occurrences (with_object [] 0 client) no_pipes no_pipes_are quiet;
          },
          omega arith,
          inl (client_of_server occurrences),
        ),
        client_of_server occurrences,
      );
      is = server_of_server occurrences;
    }
  where
    inner : (n m : ℕ) → (let size : Result ℕ PortFault = Ok n in size ≡ Ok m) → n ≡ m
    inner n m is = cc

    none_left : (count : ℕ) → (let size : Result ℕ PortFault = Ok 0 in size ≡ Ok count) → count ≤ most
    none_left count is = subst (λ (n : ℕ). n ≤ most) (inner 0 count is) (omega arith)

-- ---- over all links

-- What happened to the server is a list of pushes; and where both hosts are level, and a client that is so came so on a link alone, it came so in the last one of them
-- in which it did anything.
pub links_tied : (D : Client → Type 0) (shelf : Option (List Object)) (most : ℕ) → most < 2 ^ 32 → (asks : HostsAsk) (settings : Settings) (before : List Object) → settings.transport ≡ L2cap →
    (let set = over_stored asks settings before in
    let A = client_profile settings in
    ((list : List channels.Occurrence) (feeds : List Feed) (first last : ClientProfile) → WovenFed A (asks.clients settings) list feeds first last → AllByRecursion HearsNothing list → D last.client → D first.client)
    → ((circumstances : List Circumstance) (event : LinkEvent) (v : Channels) (p : ClientProfile) → D (turned A circumstances event v p).client → D p.client)
    → (talk_a talk_b : List Talk) (a : Host ClientProfile) (b : Host ServerProfile)
    (near : TalksFed A (asks.clients settings) talk_a a) (far : TalksFed (server_profile settings set.content) (asks.servers settings set.content) talk_b b)
    → AreTwined set (λ k. k) near.so.lives.spans near.so.lives.now near.so.lives.feeds A.first a.profile far.so.lives.spans far.so.lives.now far.so.lives.feeds (server_profile settings set.content).first b.profile near.fed far.fed
    → AllByRecursion (BeginsAtMost most) near.so.lives.feeds → AllAsked (IsGiven shelf) (pushed_from settings A.first near.so.lives.feeds) (new_client settings)
    → Tied (Offered shelf most) (λ all. length near.so.lives.spans ≡ length far.so.lives.spans → D a.profile.client → (D (new_client settings) × AllByRecursion IsIdle all) ⊎ IsLast D all)
    (served_from settings set.content (server_profile settings set.content).first far.so.lives.feeds) (names_begun (pushed_from settings A.first near.so.lives.feeds)))
links_tied D shelf most fits asks settings before direct off turned_off talk_a talk_b a b near far twined small given =
    let set = over_stored asks settings before in
    let maximum = (new_client settings).session.maximum in
    let wanted = (new_client settings).session.wanted in
    let A = client_profile settings in
    let B = server_profile settings set.content in
    latest set (IsAskedSo shelf most) (Good L2cap maximum wanted) (Offered shelf most) (Twined set) (λ one client asked. good_affair L2cap maximum wanted most fits one client asked.0) (one_tied shelf set maximum wanted most fits) (none_tied shelf maximum wanted most fits) D off turned_off
    (λ k. k) near.so.lives.spans near.so.lives.now near.so.lives.feeds A.first a.profile
    far.so.lives.spans far.so.lives.now far.so.lives.feeds B.first b.profile near.fed far.fed twined (subst (AreTimely false) (sym near.so.lives.marks_are) near.so.timely) (subst (AreTimely false) (sym far.so.lives.marks_are) far.so.timely) refl (good_first settings L2cap direct)
    (both_asked shelf most (pushed_from settings A.first near.so.lives.feeds) A.first.client (clients_are_answered most settings A.first near.so.lives.feeds small) given)

-- whatever the clients are
pub links_pushed : (shelf : Option (List Object)) (most : ℕ) → most < 2 ^ 32 → (asks : HostsAsk) (settings : Settings) (before : List Object) → settings.transport ≡ L2cap →
    (let set = over_stored asks settings before in (talk_a talk_b : List Talk) (a : Host ClientProfile) (b : Host ServerProfile)
    (near : TalksFed (client_profile settings) (asks.clients settings) talk_a a) (far : TalksFed (server_profile settings set.content) (asks.servers settings set.content) talk_b b)
    → AreTwined set (λ k. k) near.so.lives.spans near.so.lives.now near.so.lives.feeds (client_profile settings).first a.profile far.so.lives.spans far.so.lives.now far.so.lives.feeds (server_profile settings set.content).first b.profile near.fed far.fed
    → AllByRecursion (BeginsAtMost most) near.so.lives.feeds → AllAsked (IsGiven shelf) (pushed_from settings (client_profile settings).first near.so.lives.feeds) (new_client settings)
    → Pushes (Offered shelf most) (served_from settings set.content (server_profile settings set.content).first far.so.lives.feeds) (names_begun (pushed_from settings (client_profile settings).first near.so.lives.feeds)))
links_pushed shelf most fits asks settings before direct talk_a talk_b a b near far twined small given =
    (links_tied (λ client. ⊥) shelf most fits asks settings before direct (λ list feeds first last so deaf never. never) (λ circumstances event v p never. never) talk_a talk_b a b near far twined small given).all

-- whatever the shelf holds
links_any : (most : ℕ) → most < 2 ^ 32 → (asks : HostsAsk) (settings : Settings) (before : List Object) → settings.transport ≡ L2cap →
    (let set = over_stored asks settings before in (talk_a talk_b : List Talk) (a : Host ClientProfile) (b : Host ServerProfile)
    (near : TalksFed (client_profile settings) (asks.clients settings) talk_a a) (far : TalksFed (server_profile settings set.content) (asks.servers settings set.content) talk_b b)
    → AreTwined set (λ k. k) near.so.lives.spans near.so.lives.now near.so.lives.feeds (client_profile settings).first a.profile far.so.lives.spans far.so.lives.now far.so.lives.feeds (server_profile settings set.content).first b.profile near.fed far.fed
    → AllByRecursion (BeginsAtMost most) near.so.lives.feeds
    → Pushes (Offered None most) (served_from settings set.content (server_profile settings set.content).first far.so.lives.feeds) (names_begun (pushed_from settings (client_profile settings).first near.so.lives.feeds)))
links_any most fits asks settings before direct talk_a talk_b a b near far twined small =
    let A = client_profile settings in
    links_pushed None most fits asks settings before direct talk_a talk_b a b near far twined small
    (given_any most (pushed_from settings A.first near.so.lives.feeds) A.first.client (clients_are_answered most settings A.first near.so.lives.feeds small))

is_pushed : (push : Push) → Offered None most_octets push → IsPushed push
is_pushed push (offered, bounded, of) = record { offered = offered; bounded = bounded }

all_pushes : (pushes : List Push) → AllByRecursion (Offered None most_octets) pushes → AllByRecursion IsPushed pushes
all_pushes [] all = tt
all_pushes (push ∷ pushes) all = (is_pushed push all.0, all_pushes pushes all.1)

pub all_offered : (shelf : Option (List Object)) (most : ℕ) (pushes : List Push) → AllByRecursion (Offered shelf most) pushes → AllByRecursion IsOffered pushes
all_offered shelf most [] all = tt
all_offered shelf most (push ∷ pushes) all = (all.0.0, all_offered shelf most pushes all.1)

pub requests_of_links_are_heard : RequestsOfLinksAreHeard
requests_of_links_are_heard asks settings before direct talk_a talk_b a b near far so none =
    let set = over_stored asks settings before in
    let B = server_profile settings set.content in
    let all = links_any most_octets (omega arith) asks settings before direct talk_a talk_b a b near far so.twined so.small in
    let heard = requests-are_heard settings before all.pushes all.last (all_pushes all.pushes all.pushed) (is_pushed all.last all.last_pushed)
    (subst (AllServeDirectly AllGranted (new_over settings before)) all.is (serve_all AllGranted settings set.content far.so.lives.feeds B.first so.granted none)) in
    subst (AllMayCome settings [] (new_over settings before)) (sym all.is) heard

-- what happened to the server, where what its inbox answers is so
pub record ServedPushes (Are : List Answer → Type 0) (settings : Settings) (before : List Object) (occurrences : List Occurrence) : Type 0 where
  pub pushes : List Push
  pub last : Push
  pub is : occurrences ≡ over_pushes pushes last
  pub offered : AllByRecursion IsOffered pushes
  pub last_offered : IsOffered last
  pub serve : AllServeDirectly Are (new_over settings before) (over_pushes pushes last)

pub links_offered : (Are : List Answer → Type 0) (asks : HostsAsk) (settings : Settings) (before : List Object) → settings.transport ≡ L2cap →
    (let set = over_stored asks settings before in (talk_a talk_b : List Talk) (a : Host ClientProfile) (b : Host ServerProfile)
    (near : TalksFed (client_profile settings) (asks.clients settings) talk_a a) (far : TalksFed (server_profile settings set.content) (asks.servers settings set.content) talk_b b)
    → BothAreOffered Are set talk_a talk_b a b near far → AllByRecursion IsDirect (served_from settings set.content (server_profile settings set.content).first far.so.lives.feeds)
    → ServedPushes Are settings before (served_from settings set.content (server_profile settings set.content).first far.so.lives.feeds))
links_offered Are asks settings before direct talk_a talk_b a b near far so none =
    let set = over_stored asks settings before in
    let B = server_profile settings set.content in
    let all = links_any longest_octets (omega arith) asks settings before direct talk_a talk_b a b near far so.twined so.small in
    record {
      pushes = all.pushes;
      last = all.last;
      is = all.is;
      offered = all_offered None longest_octets all.pushes all.pushed;
      last_offered = all.last_pushed.0;
      serve = subst (AllServeDirectly Are (new_over settings before)) all.is (serve_all Are settings set.content far.so.lives.feeds B.first so.answers none);
    }

pub links_gain_all : LinksGainAll
links_gain_all asks settings before direct talk_a talk_b a b near far so none =
    let all = links_offered AllGranted asks settings before direct talk_a talk_b a b near far so none in
    subst (λ (os : List Occurrence). stored_in (all_done_by os (new_over settings before)).gift.content ≡ Some (before ++ spelled_by settings os)) (sym all.is)
    (pushes-gain_all settings before all.pushes all.last all.offered all.last_offered all.serve)
