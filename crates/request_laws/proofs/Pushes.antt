-- What happened to both hosts over their links is a list of pushes, of clients and links that are so.
use Rattle.std.proofs.Common.{◌≡◌, ℕ, suc, ◌==◌, Bool, true, false, cond, ◌&&◌, not, List, [], ◌∷◌, ◌++◌, map, None, Ok, inr, refl, sym, ap, ap₂, subst, ◌∙◌, append_assoc, append-nil}
use Rattle.std.proofs.lemmas.Bool.{cond-false}
use Rattle.std.specs.List.{AllByRecursion, flat_map}
use Rattle.std.proofs.lemmas.List.Concat.{flat_map-append}
use Rattle.pair_laws.specs.channel_model.specs.Value.{Channels, no_channels}
use Rattle.pair_laws.specs.channel_laws.specs.Runs as channels
use Rattle.pair_laws.specs.push_model.specs.Client.{Client, with_object, is_idle}
use Rattle.pair_laws.specs.push_model.specs.Events as events
use Rattle.pair_laws.specs.push_model.specs.Events.{hears_news}
use Rattle.pair_laws.specs.push_model.specs.Laws as push
use Rattle.pair_laws.specs.push_model.specs.Laws.{Deed, Hears, all_done}
use Rattle.pair_laws.specs.push_model.specs.Server.{object_psm}
use Rattle.pair_laws.specs.push_laws.specs.Occurrences.{Occurrence, LinkDown}
use Rattle.pair_laws.specs.push_laws.specs.Parties.{server_side, client_side, Push, ended_with, over_pushes}
use Rattle.pair_laws.specs.push_laws.specs.Spelled.{AreAmong, name_of, names_of}
use Rattle.pair_laws.specs.push_laws.proofs.Among.{none_among, all_among, both_among, ahead_among, behind_among, among_trans}
use Rattle.pair_laws.specs.world_model.specs.Machines.{LinkEvent, Up, Down}
use Rattle.pair_laws.specs.host_model.specs.Clients.{ClientProfile, is_paging, client_profile}
use Rattle.pair_laws.specs.host_model.specs.Circumstances.{Circumstance}
use Rattle.pair_laws.specs.host_model.specs.Servers.{ServerProfile, server_profile}
use Rattle.pair_laws.specs.host_laws.specs.Calls.{values_after}
use Rattle.pair_laws.specs.host_laws.specs.Fed.{strand_feeds, woven_feeds, WovenFed, turned_feeds, FedSpan, span_feeds, behind_span, AreFed}
use Rattle.pair_laws.specs.host_laws.specs.Feeds.{Feed, all_fed}
use Rattle.pair_laws.specs.host_laws.specs.Lives.{Span, all_marks}
use Rattle.pair_laws.specs.host_laws.specs.Openings.{name_begun, names_begun}
use Rattle.pair_laws.specs.host_laws.specs.OverLinks.{AreTimely}
use Rattle.pair_laws.specs.host_laws.specs.Pushing.{Affair, Begins, Does, client_after, client_behind, pushed_from, AllAsked}
use Rattle.pair_laws.specs.host_laws.specs.Serving.{served_from}
use Rattle.pair_laws.specs.host_laws.specs.Woven.{Strand, strand_list, strand_profile, turned}
use Rattle.pair_laws.specs.host_laws.proofs.Pushing.{all_pushed}
use Rattle.request_laws.specs.BothFed.{ComesNone, IsDown, WantsLink, AreLinked}
use Rattle.pair_laws.specs.host_laws.proofs.StrandsFed.{strand_so, here_so, span_so}
use Rattle.request_laws.specs.Twists.{Twist, AtClient, AtServer, of_client, of_server, Both, Set, both_after, deeds_in, all_deeds, all_moves, OpensNone}
use Rattle.request_laws.proofs.Beginning.{client-both}
use Rattle.request_laws.proofs.Timely.{HearsNothing, is_up, goes_down, is_deaf, is_down, is_deaf_now}
use Rattle.request_laws.proofs.Silent.{IsStill, AllSilent, BeginsPush}
use Rattle.request_laws.proofs.Between.{between_still}
use Rattle.request_laws.proofs.Opening.{begins_between, fed_between, turned_free}
use Rattle.request_laws.proofs.Feeding.{pushed-both, served-both, IsDeed, all_both, behind_deeds, strand_deeds, up_served, DownServed, down_served}
use Rattle.request_laws.proofs.Piping.{server_both, client_both, by_client, by_server, client_of_client, server_of_client, server_of_server, client_of_server, still_quiet}

-- ---- deeds of affairs

pub deeds_both : (xs ys : List Affair) → all_deeds (xs ++ ys) ≡ all_deeds xs ++ all_deeds ys
deeds_both xs ys = flat_map-append deeds_in xs ys

pub map_deeds : (deeds : List Deed) → all_deeds (map Does deeds) ≡ deeds
map_deeds [] = refl
map_deeds (deed ∷ deeds) = ap (λ (l : List Deed). deed ∷ l) (map_deeds deeds)

pub all_does : (deeds : List Deed) → AllByRecursion IsDeed (map Does deeds)
all_does [] = tt
all_does (deed ∷ deeds) = (tt, all_does deeds)

pub asked_ahead : (Is : Affair → Client → Type 0) (xs ys : List Affair) (client : Client) → AllAsked Is (xs ++ ys) client → AllAsked Is xs client
asked_ahead Is [] ys client all = tt
asked_ahead Is (x ∷ xs) ys client all = (all.0, asked_ahead Is xs ys (client_after x client) all.1)

pub asked_behind : (Is : Affair → Client → Type 0) (xs ys : List Affair) (client : Client) → AllAsked Is (xs ++ ys) client → AllAsked Is ys (client_behind xs client)
asked_behind Is [] ys client all = all
asked_behind Is (x ∷ xs) ys client all = asked_behind Is xs ys (client_after x client) all.1

begun_both : (xs ys : List Affair) → names_begun (xs ++ ys) ≡ names_begun xs ++ names_begun ys
begun_both xs ys = flat_map-append name_begun xs ys

-- ---- on one link

module _ (set : Set) where
  abbrev pub pushed_on : List Strand → Channels → ClientProfile → List Affair
  pushed_on weave v p = pushed_from set.settings p (woven_feeds (client_profile set.settings) (set.asks.clients set.settings) weave v p)

  abbrev pub served_on : List Strand → Channels → ServerProfile → List Occurrence
  served_on weave v p = served_from set.settings set.content p (woven_feeds (server_profile set.settings set.content) (set.asks.servers set.settings set.content) weave v p)

  pub server_on : (twists : List Twist) (both : Both) → server_side (all_moves set twists both) ≡ served_on (flat_map of_server twists) both.far both.server
  server_on [] both = refl
  server_on (AtClient strand ∷ twists) both =
      let deeds = all_deeds (pushed_from set.settings both.client (strand_feeds strand both.near)) in
      let next = both_after set (AtClient strand) both in
      server_both (by_client deeds) (all_moves set twists next) ∙ (ap (λ (l : List Occurrence). l ++ server_side (all_moves set twists next)) (server_of_client deeds) ∙ server_on twists next)
  server_on (AtServer strand ∷ twists) both =
      let B = server_profile set.settings set.content in
      let asks = set.asks.servers set.settings set.content in
      let feeds = strand_feeds strand both.far in
      let occurrences = served_from set.settings set.content both.server feeds in
      let next = both_after set (AtServer strand) both in
      let more = woven_feeds B asks (flat_map of_server twists) next.far next.server in
      server_both (by_server occurrences) (all_moves set twists next)
      ∙ (ap₂ (λ (a b : List Occurrence). a ++ b) (server_of_server occurrences) (server_on twists next)
      ∙ (ap (λ (p : ServerProfile). occurrences ++ served_from set.settings set.content p more) (sym (strand_so B asks strand both.far both.server)) ∙ sym (served-both set.settings set.content feeds more both.server)))

  pub client_on : (twists : List Twist) (both : Both) → client_side (all_moves set twists both) ≡ all_deeds (pushed_on (flat_map of_client twists) both.near both.client)
  client_on [] both = refl
  client_on (AtServer strand ∷ twists) both =
      let occurrences = served_from set.settings set.content both.server (strand_feeds strand both.far) in
      let next = both_after set (AtServer strand) both in
      client_both (by_server occurrences) (all_moves set twists next) ∙ (ap (λ (l : List Deed). l ++ client_side (all_moves set twists next)) (client_of_server occurrences) ∙ client_on twists next)
  client_on (AtClient strand ∷ twists) both =
      let A = client_profile set.settings in
      let asks = set.asks.clients set.settings in
      let feeds = strand_feeds strand both.near in
      let affairs = pushed_from set.settings both.client feeds in
      let next = both_after set (AtClient strand) both in
      let more = woven_feeds A asks (flat_map of_client twists) next.near next.client in
      client_both (by_client (all_deeds affairs)) (all_moves set twists next)
      ∙ (ap₂ (λ (a b : List Deed). a ++ b) (client_of_client (all_deeds affairs)) (client_on twists next)
      ∙ (sym (deeds_both affairs (pushed_from set.settings next.client more))
      ∙ (ap (λ (p : ClientProfile). all_deeds (affairs ++ pushed_from set.settings p more)) (sym (strand_so A asks strand both.near both.client)) ∙ ap all_deeds (sym (pushed-both set.settings feeds more both.client)))))

  -- on a link a client begins no push
  pub deeds_on : (weave : List Strand) (v : Channels) (p : ClientProfile) → AllByRecursion OpensNone weave → AllByRecursion IsDeed (pushed_on weave v p)
  deeds_on [] v p opens = tt
  deeds_on (strand ∷ weave) v p opens =
      let A = client_profile set.settings in
      let asks = set.asks.clients set.settings in
      let feeds = strand_feeds strand v in
      let w = values_after A.policy v (strand_list A asks strand v p) in
      let q = strand_profile A strand v p in
      let more = woven_feeds A asks weave w q in
      subst (AllByRecursion IsDeed) (sym (pushed-both set.settings feeds more p))
      (all_both IsDeed (pushed_from set.settings p feeds) (pushed_from set.settings (all_fed A p feeds) more) (strand_deeds set.settings strand v p opens.0)
      (subst (λ (x : ClientProfile). AllByRecursion IsDeed (pushed_from set.settings x more)) (sym (strand_so A asks strand v p)) (deeds_on weave w q opens.1)))

-- ---- one push

-- a push of one of these names began, and its link came up
pub record Started (Is : Affair → Client → Type 0) (G : Client → Type 0) (client : ClientProfile) (names : List (List ℕ)) : Type 0 where
  pub old : Client
  pub name : List ℕ
  pub size : ℕ
  pub deeds : List Deed
  pub good : G old
  pub begins : Is (Begins (Ok size) name) old
  pub asked : AllAsked Is (map Does deeds) (with_object name size old)
  pub silent : AllSilent deeds (with_object name size old)
  pub now : client.client ≡ hears_news events.LinkUp (all_done deeds (with_object name size old))
  pub free : client.submitted ≡ None
  pub named : AreAmong (name ∷ []) names

pub record OnePush (IsP : Push → Type 0) (occurrences : List Occurrence) (names : List (List ℕ)) : Type 0 where
  pub push : Push
  pub named : AreAmong (name_of push) names
  pub pushed : IsP push
  pub is : server_side push.moves ≡ occurrences

-- one behind the other, and their names are among these, in order
pub record Pushes (IsP : Push → Type 0) (occurrences : List Occurrence) (names : List (List ℕ)) : Type 0 where
  pub pushes : List Push
  pub last : Push
  pub pushed : AllByRecursion IsP pushes
  pub last_pushed : IsP last
  pub is : occurrences ≡ over_pushes pushes last
  pub named : AreAmong (names_of (pushes ++ last ∷ [])) names

none_if : (psm : Bool) → cond psm [] [] ≡ (let none : List (List ℕ) = [] in none)
none_if true = refl
none_if false = refl

pub silent_up : (deeds : List Deed) (client : Client) → AllSilent deeds client → AllSilent (deeds ++ Hears events.LinkUp ∷ []) client
silent_up [] client silent = (record { sent = none_if (client.psm == object_psm); frames = refl; heard = λ carrier. refl }, tt)
silent_up (deed ∷ deeds) client silent = (silent.0, silent_up deeds (push.done deed client) silent.1)

pub done_both : (xs ys : List Deed) (client : Client) → all_done (xs ++ ys) client ≡ all_done ys (all_done xs client)
done_both [] ys client = refl
done_both (x ∷ xs) ys client = done_both xs ys (push.done x client)

-- each push on a link, with what happened to the server ahead of it and behind it, is one of these
abbrev pub IsOne : Set → (Affair → Client → Type 0) → (Client → Type 0) → (Push → Type 0) → (List Strand → List Strand → ClientProfile → ServerProfile → Type 0) → Type 0
IsOne set Is G IsP T = (client : ClientProfile) (server : ServerProfile) (names : List (List ℕ)) (ahead tail : List Occurrence) (near far : List Strand) → Started Is G client names → G client.client → AllByRecursion IsStill ahead → AllByRecursion ComesNone tail → T near far client server
    → AllAsked Is (pushed_on set near no_channels client) client.client → OnePush IsP (ahead ++ (served_on set far no_channels server ++ tail)) names

-- and so is one on which nothing comes
abbrev pub IsNone : (Client → Type 0) → (Push → Type 0) → Type 0
IsNone G IsP = (client : Client) (occurrences : List Occurrence) → G client → AllByRecursion ComesNone occurrences → OnePush IsP occurrences []

module _ (set : Set) (Is : Affair → Client → Type 0) (G : Client → Type 0) (IsP : Push → Type 0) (T : List Strand → List Strand → ClientProfile → ServerProfile → Type 0) (goes : (one : Affair) (client : Client) → Is one client → G client → G (client_after one client)) (one_push : IsOne set Is G IsP T) (no_push : IsNone G IsP) where
  pub good_all : (affairs : List Affair) (client : Client) → AllAsked Is affairs client → G client → G (client_behind affairs client)
  good_all [] client asked good = good
  good_all (one ∷ rest) client asked good = good_all rest (client_after one client) asked.1 (goes one client asked.0 good)

  pub begun_at : (affairs : List Affair) (client : Client) (b : BeginsPush affairs client) → client_behind affairs client ≡ all_done b.deeds (with_object b.name b.size (client_behind b.earlier client))
  begun_at affairs client b =
      let old = client_behind b.earlier client in
      ap (λ (l : List Affair). client_behind l client) b.affairs_are
      ∙ (client-both b.earlier (Begins (Ok b.size) b.name ∷ map Does b.deeds) client
      ∙ (ap (λ (c : Client). client_behind (map Does b.deeds) c) (cond-false old.failed old (with_object b.name b.size old) b.able)
      ∙ (behind_deeds (map Does b.deeds) (with_object b.name b.size old) (all_does b.deeds) ∙ ap (λ (l : List Deed). all_done l (with_object b.name b.size old)) (map_deeds b.deeds))))

  and_left : (a b : Bool) → (a && b) ≡ true → a ≡ true
  and_left true b is = refl
  and_left false b is = is

  -- between two links the next one comes up for both, as the client wants it
  pub record Between (near far : Span) (client : ClientProfile) (server : ServerProfile) (a : FedSpan (client_profile set.settings) (set.asks.clients set.settings) near client)
      (b : FedSpan (server_profile set.settings set.content) (set.asks.servers set.settings set.content) far server) : Type 0 where
    pub near_up : near.event ≡ Up
    pub far_up : far.event ≡ Up
    pub wants : WantsLink set near client a

  pub started : (near far : Span) (client : ClientProfile) (server : ServerProfile) (a : FedSpan (client_profile set.settings) (set.asks.clients set.settings) near client) (b : FedSpan (server_profile set.settings set.content) (set.asks.servers set.settings set.content) far server)
      → Between near far client server a b → AllByRecursion HearsNothing near.list → is_paging client.bid ≡ false → G client.client → AllAsked Is (pushed_from set.settings client a.here) client.client
      → Started Is G (behind_span (client_profile set.settings) (set.asks.clients set.settings) near client a) (names_begun (pushed_from set.settings client a.here))
  started near far client server a b between deaf free good answered =
      let A = client_profile set.settings in
      let asks = set.asks.clients set.settings in
      let pages : is_paging (all_fed A client a.here).bid ≡ true = subst (λ (p : ClientProfile). is_paging p.bid ≡ true) (sym (here_so A asks near client a)) (and_left (is_paging a.mid.bid) (not (is_idle a.mid.client)) between.wants) in
      let begins = begins_between set.settings client a.here (fed_between set.settings asks near.list a.here client a.mid a.so deaf) free pages in
      let affairs = pushed_from set.settings client a.here in
      let behind = Begins (Ok begins.size) begins.name ∷ map Does begins.deeds in
      let old = client_behind begins.earlier client.client in
      let all : AllAsked Is (begins.earlier ++ behind) client.client = subst (λ (l : List Affair). AllAsked Is l client.client) begins.affairs_are answered in
      let here = asked_behind Is begins.earlier behind client.client all in
      let later : AllAsked Is (map Does begins.deeds) (with_object begins.name begins.size old) = subst (AllAsked Is (map Does begins.deeds)) (cond-false old.failed old (with_object begins.name begins.size old) begins.able) here.1 in
      let mid : a.mid.client ≡ all_done begins.deeds (with_object begins.name begins.size old) = ap (λ (p : ClientProfile). p.client) (sym (here_so A asks near client a)) ∙ (all_pushed set.settings a.here client ∙ begun_at affairs client.client begins) in
      record {
        old = old;
        name = begins.name;
        size = begins.size;
        deeds = begins.deeds;
        good = good_all begins.earlier client.client (asked_ahead Is begins.earlier behind client.client all) good;
        begins = here.0;
        asked = later;
        silent = begins.silent;
        now = ap (λ (e : LinkEvent). (turned A a.circumstances e (values_after A.policy no_channels near.list) a.mid).client) between.near_up ∙ ap (hears_news events.LinkUp) mid;
        free = ap (λ (e : LinkEvent). (turned A a.circumstances e (values_after A.policy no_channels near.list) a.mid).submitted) between.near_up;
        named = subst (λ (l : List Affair). AreAmong (begins.name ∷ []) (names_begun l)) (sym begins.affairs_are) (subst (AreAmong (begins.name ∷ [])) (sym (begun_both begins.earlier behind))
            (behind_among (begins.name ∷ []) (names_begun begins.earlier) (names_begun behind) (inr ([], refl, none_among (names_begun (map Does begins.deeds))))));
      }

  -- ---- over all links

  -- one push alone
  alone : (occurrences one : List Occurrence) (names : List (List ℕ)) → occurrences ≡ one → OnePush IsP one names → Pushes IsP occurrences names
  alone occurrences one names is push = record {
    pushes = [];
    last = push.push;
    pushed = tt;
    last_pushed = push.pushed;
    is = is ∙ sym push.is;
    named = subst (λ (ns : List (List ℕ)). AreAmong ns names) (sym (append-nil (name_of push.push))) push.named;
  }

  -- one push more, in front of others
  in_front : (one rest occurrences : List Occurrence) (names more : List (List ℕ)) → OnePush IsP one names → Pushes IsP rest more → occurrences ≡ (one ++ LinkDown ∷ []) ++ rest → Pushes IsP occurrences (names ++ more)
  in_front one rest occurrences names more first later is = record {
    pushes = first.push ∷ later.pushes;
    last = later.last;
    pushed = (first.pushed, later.pushed);
    last_pushed = later.last_pushed;
    is = is
        ∙ (ap₂ (λ (a b : List Occurrence). a ++ b) (ap (λ (l : List Occurrence). l ++ LinkDown ∷ []) (sym first.is)) later.is
        ∙ sym (append_assoc (ended_with first.push) (flat_map ended_with later.pushes) (server_side later.last.moves)));
    named = both_among (name_of first.push) names (names_of (later.pushes ++ later.last ∷ [])) more first.named later.named;
  }

  -- of more names they are as well
  wider : (occurrences : List Occurrence) (names more : List (List ℕ)) → AreAmong names more → Pushes IsP occurrences names → Pushes IsP occurrences more
  wider occurrences names more among all = record { pushes = all.pushes; last = all.last; pushed = all.pushed; last_pushed = all.last_pushed; is = all.is; named = among_trans (names_of (all.pushes ++ all.last ∷ [])) names more all.named among }

  -- what the shelf answered falls to the links
  pub record Splits (near : Span) (client : ClientProfile) (a : FedSpan (client_profile set.settings) (set.asks.clients set.settings) near client) (later : List Feed) : Type 0 where
    pub here : AllAsked Is (pushed_from set.settings client a.here) client.client
    pub good : G (behind_span (client_profile set.settings) (set.asks.clients set.settings) near client a).client
    pub rest : (let up = behind_span (client_profile set.settings) (set.asks.clients set.settings) near client a in AllAsked Is (pushed_from set.settings up later) up.client)

  pub splits : (near : Span) (client : ClientProfile) (a : FedSpan (client_profile set.settings) (set.asks.clients set.settings) near client) (later feeds : List Feed) → feeds ≡ span_feeds (client_profile set.settings) (set.asks.clients set.settings) near client a ++ later
      → G client.client → AllAsked Is (pushed_from set.settings client feeds) client.client → Splits near client a later
  splits near client a later feeds is good answered =
      let A = client_profile set.settings in
      let asks = set.asks.clients set.settings in
      let ahead = span_feeds A asks near client a in
      let up = behind_span A asks near client a in
      let news = turned_feeds a.circumstances near.event (values_after A.policy no_channels near.list) in
      let one = pushed_from set.settings client ahead in
      let two = pushed_from set.settings up later in
      let up_is : all_fed A client ahead ≡ up = span_so A asks near client a in
      let cut : pushed_from set.settings client feeds ≡ one ++ two =
      ap (pushed_from set.settings client) is ∙ (pushed-both set.settings ahead later client ∙ ap (λ (p : ClientProfile). one ++ pushed_from set.settings p later) up_is) in
      let all : AllAsked Is (one ++ two) client.client = subst (λ (l : List Affair). AllAsked Is l client.client) cut answered in
      let span_answered = asked_ahead Is one two client.client all in
      let client_is : client_behind one client.client ≡ up.client = sym (all_pushed set.settings ahead client) ∙ ap (λ (p : ClientProfile). p.client) up_is in
      let here_cut : one ≡ pushed_from set.settings client a.here ++ pushed_from set.settings (all_fed A client a.here) news = pushed-both set.settings a.here news client in
      record {
        here = asked_ahead Is (pushed_from set.settings client a.here) (pushed_from set.settings (all_fed A client a.here) news) client.client (subst (λ (l : List Affair). AllAsked Is l client.client) here_cut span_answered);
        good = subst G client_is (good_all one client.client span_answered good);
        rest = subst (AllAsked Is two) client_is (asked_behind Is one two client.client all);
      }

  -- so do the names of pushes that begin
  pub names_split : (near : Span) (client : ClientProfile) (a : FedSpan (client_profile set.settings) (set.asks.clients set.settings) near client) (later feeds : List Feed) → feeds ≡ span_feeds (client_profile set.settings) (set.asks.clients set.settings) near client a ++ later
      → AreAmong (names_begun (pushed_from set.settings client a.here) ++ names_begun (pushed_from set.settings (behind_span (client_profile set.settings) (set.asks.clients set.settings) near client a) later)) (names_begun (pushed_from set.settings client feeds))
  names_split near client a later feeds is =
      let A = client_profile set.settings in
      let asks = set.asks.clients set.settings in
      let ahead = span_feeds A asks near client a in
      let up = behind_span A asks near client a in
      let news = turned_feeds a.circumstances near.event (values_after A.policy no_channels near.list) in
      let here = pushed_from set.settings client a.here in
      let told = pushed_from set.settings (all_fed A client a.here) news in
      let two = pushed_from set.settings up later in
      let cut : pushed_from set.settings client feeds ≡ (here ++ told) ++ two =
      ap (pushed_from set.settings client) is
      ∙ (pushed-both set.settings ahead later client
      ∙ ap₂ (λ (a b : List Affair). a ++ b) (pushed-both set.settings a.here news client) (ap (λ (p : ClientProfile). pushed_from set.settings p later) (span_so A asks near client a))) in
      let names : names_begun (pushed_from set.settings client feeds) ≡ (names_begun here ++ names_begun told) ++ names_begun two =
      ap names_begun cut ∙ (begun_both (here ++ told) two ∙ ap (λ (ns : List (List ℕ)). ns ++ names_begun two) (begun_both here told)) in
      subst (AreAmong (names_begun here ++ names_begun two)) (sym names)
      (both_among (names_begun here) (names_begun here ++ names_begun told) (names_begun two) (names_begun two) (ahead_among (names_begun here) (names_begun here) (names_begun told) (all_among (names_begun here))) (all_among (names_begun two)))

  -- so does what happened to the server
  served_split : (far : Span) (server : ServerProfile) (b : FedSpan (server_profile set.settings set.content) (set.asks.servers set.settings set.content) far server) (later feeds : List Feed)
      → feeds ≡ span_feeds (server_profile set.settings set.content) (set.asks.servers set.settings set.content) far server b ++ later
      → (let B = server_profile set.settings set.content in
      served_from set.settings set.content server feeds
      ≡ (served_from set.settings set.content server b.here ++ served_from set.settings set.content b.mid (turned_feeds b.circumstances far.event (values_after B.policy no_channels far.list)))
      ++ served_from set.settings set.content (behind_span B (set.asks.servers set.settings set.content) far server b) later)
  served_split far server b later feeds is =
      let B = server_profile set.settings set.content in
      let asks = set.asks.servers set.settings set.content in
      let ahead = span_feeds B asks far server b in
      let news = turned_feeds b.circumstances far.event (values_after B.policy no_channels far.list) in
      ap (served_from set.settings set.content server) is
      ∙ (served-both set.settings set.content ahead later server
      ∙ ap₂ (λ (a b : List Occurrence). a ++ b)
      (served-both set.settings set.content b.here news server ∙ ap (λ (p : ServerProfile). served_from set.settings set.content server b.here ++ served_from set.settings set.content p news) (here_so B asks far server b))
      (ap (λ (p : ServerProfile). served_from set.settings set.content p later) (span_so B asks far server b)))

  pub woven_served : (far : List channels.Occurrence) (feeds : List Feed) (server last : ServerProfile) (b : WovenFed (server_profile set.settings set.content) (set.asks.servers set.settings set.content) far feeds server last)
      → served_from set.settings set.content server feeds ≡ served_on set b.woven.weave no_channels server
  woven_served far feeds server last b = ap (served_from set.settings set.content server) b.feeds_are

  pub down_of : (event : LinkEvent) (circumstances : List Circumstance) (v : Channels) (p : ServerProfile) → IsDown event → DownServed (served_from set.settings set.content p (turned_feeds circumstances event v))
  down_of Up circumstances v p down = absurd down
  down_of (Down reason) circumstances v p down = down_served set.settings set.content circumstances reason v p

  -- a link, and what happened to the server by the time that it came up
  link_push : (near far : Span) (feeds_b later_b : List Feed) (client : ClientProfile) (server : ServerProfile) (weave_a weave_b : List Strand) (tail : List Occurrence)
      (here_a : FedSpan (client_profile set.settings) (set.asks.clients set.settings) near client) (here_b : FedSpan (server_profile set.settings set.content) (set.asks.servers set.settings set.content) far server)
      → Between near far client server here_a here_b
      → T weave_a weave_b (behind_span (client_profile set.settings) (set.asks.clients set.settings) near client here_a) (behind_span (server_profile set.settings set.content) (set.asks.servers set.settings set.content) far server here_b)
      → AllByRecursion HearsNothing near.list → AllByRecursion HearsNothing far.list → is_paging client.bid ≡ false → G client.client → AllAsked Is (pushed_from set.settings client here_a.here) client.client
      → (let up = behind_span (client_profile set.settings) (set.asks.clients set.settings) near client here_a in G up.client × AllAsked Is (pushed_on set weave_a no_channels up) up.client)
      → AllByRecursion ComesNone tail
      → (let server_up = behind_span (server_profile set.settings set.content) (set.asks.servers set.settings set.content) far server here_b in
      OnePush IsP (served_from set.settings set.content server here_b.here ++ (served_on set weave_b no_channels server_up ++ tail)) (names_begun (pushed_from set.settings client here_a.here)))
  link_push near far feeds_b later_b client server weave_a weave_b tail here_a here_b between twined near_deaf far_deaf free good answered answered_up quiet =
      let up = behind_span (client_profile set.settings) (set.asks.clients set.settings) near client here_a in
      let server_up = behind_span (server_profile set.settings set.content) (set.asks.servers set.settings set.content) far server here_b in
      one_push up server_up (names_begun (pushed_from set.settings client here_a.here)) (served_from set.settings set.content server here_b.here) tail weave_a weave_b (started near far client server here_a here_b between near_deaf free good answered) answered_up.0
      (between_still set.settings set.content (set.asks.servers set.settings set.content) far.list here_b.here server here_b.mid here_b.so far_deaf) quiet twined answered_up.1

  -- what the server is told as its link comes up is nothing
  pub served_up : (near far : Span) (feeds_b later_b : List Feed) (client : ClientProfile) (server : ServerProfile)
      (here_a : FedSpan (client_profile set.settings) (set.asks.clients set.settings) near client) (here_b : FedSpan (server_profile set.settings set.content) (set.asks.servers set.settings set.content) far server)
      → Between near far client server here_a here_b → feeds_b ≡ span_feeds (server_profile set.settings set.content) (set.asks.servers set.settings set.content) far server here_b ++ later_b
      → (let server_up = behind_span (server_profile set.settings set.content) (set.asks.servers set.settings set.content) far server here_b in
      served_from set.settings set.content server feeds_b ≡ served_from set.settings set.content server here_b.here ++ served_from set.settings set.content server_up later_b)
  served_up near far feeds_b later_b client server here_a here_b between is_b =
      let B = server_profile set.settings set.content in
      let ahead = served_from set.settings set.content server here_b.here in
      let server_up = behind_span B (set.asks.servers set.settings set.content) far server here_b in
      let none = up_served set.settings set.content here_b.circumstances far.event (values_after B.policy no_channels far.list) here_b.mid between.far_up in
      served_split far server here_b later_b feeds_b is_b ∙ ap (λ (l : List Occurrence). l ++ served_from set.settings set.content server_up later_b) (ap (λ (l : List Occurrence). ahead ++ l) none ∙ append-nil ahead)

  -- the last link, which is up still at the server
  last_link : (near far : Span) (now_b : List channels.Occurrence) (feeds_b later_b : List Feed) (client : ClientProfile) (server last_b : ServerProfile) (weave_a : List Strand)
      (here_a : FedSpan (client_profile set.settings) (set.asks.clients set.settings) near client) (here_b : FedSpan (server_profile set.settings set.content) (set.asks.servers set.settings set.content) far server)
      (is_b : feeds_b ≡ span_feeds (server_profile set.settings set.content) (set.asks.servers set.settings set.content) far server here_b ++ later_b)
      (b : WovenFed (server_profile set.settings set.content) (set.asks.servers set.settings set.content) now_b later_b (behind_span (server_profile set.settings set.content) (set.asks.servers set.settings set.content) far server here_b) last_b)
      → Between near far client server here_a here_b
      → T weave_a b.woven.weave (behind_span (client_profile set.settings) (set.asks.clients set.settings) near client here_a) (behind_span (server_profile set.settings set.content) (set.asks.servers set.settings set.content) far server here_b)
      → AllByRecursion HearsNothing near.list → AllByRecursion HearsNothing far.list → is_paging client.bid ≡ false → G client.client → AllAsked Is (pushed_from set.settings client here_a.here) client.client
      → (let up = behind_span (client_profile set.settings) (set.asks.clients set.settings) near client here_a in G up.client × AllAsked Is (pushed_on set weave_a no_channels up) up.client) → Pushes IsP (served_from set.settings set.content server feeds_b) (names_begun (pushed_from set.settings client here_a.here))
  last_link near far now_b feeds_b later_b client server last_b weave_a here_a here_b is_b b between twined near_deaf far_deaf free good answered answered_up =
      let server_up = behind_span (server_profile set.settings set.content) (set.asks.servers set.settings set.content) far server here_b in
      let ahead = served_from set.settings set.content server here_b.here in
      let one = link_push near far feeds_b later_b client server weave_a b.woven.weave [] here_a here_b between twined near_deaf far_deaf free good answered answered_up tt in
      let is : served_from set.settings set.content server feeds_b ≡ ahead ++ (served_on set b.woven.weave no_channels server_up ++ []) =
      served_up near far feeds_b later_b client server here_a here_b between is_b
      ∙ ap (λ (l : List Occurrence). ahead ++ l) (woven_served now_b later_b server_up last_b b ∙ sym (append-nil (served_on set b.woven.weave no_channels server_up))) in
      alone (served_from set.settings set.content server feeds_b) (ahead ++ (served_on set b.woven.weave no_channels server_up ++ [])) (names_begun (pushed_from set.settings client here_a.here)) is one

  -- what happened to the server by the time that a link went down, and behind it
  pub whole_served : (near far far_link : Span) (feeds_b later_b rest_b : List Feed) (client : ClientProfile) (server : ServerProfile)
      (here_a : FedSpan (client_profile set.settings) (set.asks.clients set.settings) near client) (here_b : FedSpan (server_profile set.settings set.content) (set.asks.servers set.settings set.content) far server)
      (link_b : FedSpan (server_profile set.settings set.content) (set.asks.servers set.settings set.content) far_link (behind_span (server_profile set.settings set.content) (set.asks.servers set.settings set.content) far server here_b))
      → feeds_b ≡ span_feeds (server_profile set.settings set.content) (set.asks.servers set.settings set.content) far server here_b ++ later_b
      → later_b ≡ span_feeds (server_profile set.settings set.content) (set.asks.servers set.settings set.content) far_link (behind_span (server_profile set.settings set.content) (set.asks.servers set.settings set.content) far server here_b) link_b ++ rest_b
      → Between near far client server here_a here_b
      → (goes : DownServed (served_from set.settings set.content link_b.mid (turned_feeds link_b.circumstances far_link.event (values_after (server_profile set.settings set.content).policy no_channels far_link.list))))
      → (let B = server_profile set.settings set.content in
      let asks = set.asks.servers set.settings set.content in
      let server_up = behind_span B asks far server here_b in
      served_from set.settings set.content server feeds_b
      ≡ ((served_from set.settings set.content server here_b.here ++ (served_on set link_b.so.woven.weave no_channels server_up ++ goes.ahead)) ++ LinkDown ∷ []) ++ served_from set.settings set.content (behind_span B asks far_link server_up link_b) rest_b)
  whole_served near far far_link feeds_b later_b rest_b client server here_a here_b link_b is_b are_b between goes =
      let B = server_profile set.settings set.content in
      let asks = set.asks.servers set.settings set.content in
      let server_up = behind_span B asks far server here_b in
      let ahead = served_from set.settings set.content server here_b.here in
      let served = served_on set link_b.so.woven.weave no_channels server_up in
      let rest = served_from set.settings set.content (behind_span B asks far_link server_up link_b) rest_b in
      let later_is : served_from set.settings set.content server_up later_b ≡ (served ++ (goes.ahead ++ LinkDown ∷ [])) ++ rest =
      served_split far_link server_up link_b rest_b later_b are_b
      ∙ ap (λ (l : List Occurrence). l ++ rest) (ap₂ (λ (a b : List Occurrence). a ++ b) (woven_served far_link.list link_b.here server_up link_b.mid link_b.so) goes.is) in
      served_up near far feeds_b later_b client server here_a here_b between is_b
      ∙ (ap (λ (l : List Occurrence). ahead ++ l) later_is
      ∙ (sym (append_assoc ahead (served ++ (goes.ahead ++ LinkDown ∷ [])) rest)
      ∙ ap (λ (l : List Occurrence). l ++ rest) (ap (λ (l : List Occurrence). ahead ++ l) (sym (append_assoc served goes.ahead (LinkDown ∷ []))) ∙ sym (append_assoc ahead (served ++ goes.ahead) (LinkDown ∷ [])))))

  -- one that went down for the server
  whole_link : (near far far_link : Span) (feeds_b later_b rest_b : List Feed) (client : ClientProfile) (server : ServerProfile) (weave_a : List Strand)
      (here_a : FedSpan (client_profile set.settings) (set.asks.clients set.settings) near client) (here_b : FedSpan (server_profile set.settings set.content) (set.asks.servers set.settings set.content) far server)
      (link_b : FedSpan (server_profile set.settings set.content) (set.asks.servers set.settings set.content) far_link (behind_span (server_profile set.settings set.content) (set.asks.servers set.settings set.content) far server here_b))
      (is_b : feeds_b ≡ span_feeds (server_profile set.settings set.content) (set.asks.servers set.settings set.content) far server here_b ++ later_b)
      (are_b : later_b ≡ span_feeds (server_profile set.settings set.content) (set.asks.servers set.settings set.content) far_link (behind_span (server_profile set.settings set.content) (set.asks.servers set.settings set.content) far server here_b) link_b ++ rest_b)
      → Between near far client server here_a here_b → IsDown far_link.event
      → T weave_a link_b.so.woven.weave (behind_span (client_profile set.settings) (set.asks.clients set.settings) near client here_a) (behind_span (server_profile set.settings set.content) (set.asks.servers set.settings set.content) far server here_b)
      → AllByRecursion HearsNothing near.list → AllByRecursion HearsNothing far.list → is_paging client.bid ≡ false → G client.client → AllAsked Is (pushed_from set.settings client here_a.here) client.client
      → (let up = behind_span (client_profile set.settings) (set.asks.clients set.settings) near client here_a in G up.client × AllAsked Is (pushed_on set weave_a no_channels up) up.client)
      → (more : List (List ℕ))
      → (let B = server_profile set.settings set.content in let asks = set.asks.servers set.settings set.content in
      Pushes IsP (served_from set.settings set.content (behind_span B asks far_link (behind_span B asks far server here_b) link_b) rest_b) more)
      → Pushes IsP (served_from set.settings set.content server feeds_b) (names_begun (pushed_from set.settings client here_a.here) ++ more)
  whole_link near far far_link feeds_b later_b rest_b client server weave_a here_a here_b link_b is_b are_b between down twined near_deaf far_deaf free good answered answered_up more later =
      let B = server_profile set.settings set.content in
      let asks = set.asks.servers set.settings set.content in
      let server_up = behind_span B asks far server here_b in
      let server_down = behind_span B asks far_link server_up link_b in
      let ahead = served_from set.settings set.content server here_b.here in
      let goes = down_of far_link.event link_b.circumstances (values_after B.policy no_channels far_link.list) link_b.mid down in
      let served = served_on set link_b.so.woven.weave no_channels server_up in
      let rest = served_from set.settings set.content server_down rest_b in
      let first = link_push near far feeds_b later_b client server weave_a link_b.so.woven.weave goes.ahead here_a here_b between twined near_deaf far_deaf free good answered answered_up goes.quiet in
      let is = whole_served near far far_link feeds_b later_b rest_b client server here_a here_b link_b is_b are_b between goes in
      in_front (ahead ++ (served ++ goes.ahead)) rest (served_from set.settings set.content server feeds_b) (names_begun (pushed_from set.settings client here_a.here)) more first later is

  no_more : (client : Client) (occurrences : List Occurrence) (names : List (List ℕ)) → G client → AllByRecursion ComesNone occurrences → Pushes IsP occurrences names
  no_more client occurrences names good quiet = wider occurrences [] names (none_among names) (alone occurrences occurrences [] refl (no_push client occurrences good quiet))

  -- where no link is up at the end nothing came
  pub quiet_now : (now : List channels.Occurrence) (feeds : List Feed) (server last : ServerProfile) → WovenFed (server_profile set.settings set.content) (set.asks.servers set.settings set.content) now feeds server last → AreTimely false (all_marks [] now)
      → AllByRecursion ComesNone (served_from set.settings set.content server feeds)
  quiet_now now feeds server last so timely =
      still_quiet (served_from set.settings set.content server feeds) (between_still set.settings set.content (set.asks.servers set.settings set.content) now feeds server last so (is_deaf_now now timely))

  pub quiet_last : (spans : List Span) (now : List channels.Occurrence) (feeds : List Feed) (server last : ServerProfile) → spans ≡ [] → AreFed (server_profile set.settings set.content) (set.asks.servers set.settings set.content) spans now feeds server last
      → AreTimely false (all_marks spans now) → AllByRecursion ComesNone (served_from set.settings set.content server feeds)
  quiet_last [] now feeds server last is so timely = quiet_now now feeds server last so timely
  quiet_last (span ∷ spans) now feeds server last is so timely = cc

  -- of what stands there on a link, all was answered
  pub answered_on : (list : List channels.Occurrence) (feeds : List Feed) (p last : ClientProfile) (a : WovenFed (client_profile set.settings) (set.asks.clients set.settings) list feeds p last)
      → AllAsked Is (pushed_from set.settings p feeds) p.client → AllAsked Is (pushed_on set a.woven.weave no_channels p) p.client
  answered_on list feeds p last a answered = subst (λ (l : List Feed). AllAsked Is (pushed_from set.settings p l) p.client) a.feeds_are answered

  pub names_ahead : (near : Span) (client : ClientProfile) (a : FedSpan (client_profile set.settings) (set.asks.clients set.settings) near client) (later feeds : List Feed) → feeds ≡ span_feeds (client_profile set.settings) (set.asks.clients set.settings) near client a ++ later
      → AreAmong (names_begun (pushed_from set.settings client a.here)) (names_begun (pushed_from set.settings client feeds))
  names_ahead near client a later feeds is =
      let here = names_begun (pushed_from set.settings client a.here) in
      let rest = names_begun (pushed_from set.settings (behind_span (client_profile set.settings) (set.asks.clients set.settings) near client a) later) in
      among_trans here (here ++ rest) (names_begun (pushed_from set.settings client feeds)) (ahead_among here here rest (all_among here)) (names_split near client a later feeds is)

  pub made : (number : ℕ → ℕ) (spans_a : List Span) (now_a : List channels.Occurrence) (feeds_a : List Feed) (client last_a : ClientProfile) (spans_b : List Span) (now_b : List channels.Occurrence) (feeds_b : List Feed) (server last_b : ServerProfile)
      (a : AreFed (client_profile set.settings) (set.asks.clients set.settings) spans_a now_a feeds_a client last_a) (b : AreFed (server_profile set.settings set.content) (set.asks.servers set.settings set.content) spans_b now_b feeds_b server last_b)
      → AreLinked set (λ k list_a list_b up last_up far_up last_far woven_a woven_b. T woven_a.weave woven_b.weave up far_up) number spans_a now_a feeds_a client last_a spans_b now_b feeds_b server last_b a b → AreTimely false (all_marks spans_a now_a) → AreTimely false (all_marks spans_b now_b) → is_paging client.bid ≡ false → G client.client → AllAsked Is (pushed_from set.settings client feeds_a) client.client
      → Pushes IsP (served_from set.settings set.content server feeds_b) (names_begun (pushed_from set.settings client feeds_a))
  made number spans_a now_a feeds_a client last_a [] now_b feeds_b server last_b a b twined timely_a timely_b free good answered = no_more client.client (served_from set.settings set.content server feeds_b) (names_begun (pushed_from set.settings client feeds_a)) good (quiet_now now_b feeds_b server last_b b timely_b)
  made number [] now_a feeds_a client last_a (far ∷ []) now_b feeds_b server last_b a b quiet timely_a timely_b free good answered = no_more client.client (served_from set.settings set.content server feeds_b) (names_begun (pushed_from set.settings client feeds_a)) good quiet
  made number [] now_a feeds_a client last_a (far ∷ far_link ∷ spans_b) now_b feeds_b server last_b a b never timely_a timely_b free good answered = absurd never
  made number (near ∷ []) now_a feeds_a client last_a (far ∷ []) now_b feeds_b server last_b (here_a, later_a, is_a, a) (here_b, later_b, is_b, b) (wants, twined) timely_a timely_b free good answered =
      let up = behind_span (client_profile set.settings) (set.asks.clients set.settings) near client here_a in
      let parts = splits near client here_a later_a feeds_a is_a good answered in
      let between : Between near far client server here_a here_b = record { near_up = is_up near [] now_a timely_a; far_up = is_up far [] now_b timely_b; wants = wants } in
      let deaf_a = is_deaf near [] now_a between.near_up timely_a in
      let deaf_b = is_deaf far [] now_b between.far_up timely_b in
      wider (served_from set.settings set.content server feeds_b) (names_begun (pushed_from set.settings client here_a.here)) (names_begun (pushed_from set.settings client feeds_a)) (names_ahead near client here_a later_a feeds_a is_a)
      (last_link near far now_b feeds_b later_b client server last_b a.woven.weave here_a here_b is_b b between twined deaf_a.deaf deaf_b.deaf free good parts.here (parts.good, answered_on now_a later_a up last_a a parts.rest))
  made number (near ∷ near_link ∷ spans_a) now_a feeds_a client last_a (far ∷ []) now_b feeds_b server last_b (here_a, later_a, is_a, (link_a, rest_a, are_a, a)) (here_b, later_b, is_b, b) (wants, twined) timely_a timely_b free good answered =
      let up = behind_span (client_profile set.settings) (set.asks.clients set.settings) near client here_a in
      let parts = splits near client here_a later_a feeds_a is_a good answered in
      let on_link = splits near_link up link_a rest_a later_a are_a parts.good parts.rest in
      let between : Between near far client server here_a here_b = record { near_up = is_up near (near_link ∷ spans_a) now_a timely_a; far_up = is_up far [] now_b timely_b; wants = wants } in
      let deaf_a = is_deaf near (near_link ∷ spans_a) now_a between.near_up timely_a in
      let deaf_b = is_deaf far [] now_b between.far_up timely_b in
      wider (served_from set.settings set.content server feeds_b) (names_begun (pushed_from set.settings client here_a.here)) (names_begun (pushed_from set.settings client feeds_a)) (names_ahead near client here_a later_a feeds_a is_a)
      (last_link near far now_b feeds_b later_b client server last_b link_a.so.woven.weave here_a here_b is_b b between twined deaf_a.deaf deaf_b.deaf free good parts.here (parts.good, answered_on near_link.list link_a.here up link_a.mid link_a.so on_link.here))
  made number (near ∷ []) now_a feeds_a client last_a (far ∷ far_link ∷ spans_b) now_b feeds_b server last_b (here_a, later_a, is_a, a) (here_b, later_b, is_b, (link_b, rest_b, are_b, b)) (wants, last, twined) timely_a timely_b free good answered =
      let B = server_profile set.settings set.content in
      let asks_b = set.asks.servers set.settings set.content in
      let up = behind_span (client_profile set.settings) (set.asks.clients set.settings) near client here_a in
      let server_down = behind_span B asks_b far_link (behind_span B asks_b far server here_b) link_b in
      let parts = splits near client here_a later_a feeds_a is_a good answered in
      let between : Between near far client server here_a here_b = record { near_up = is_up near [] now_a timely_a; far_up = is_up far (far_link ∷ spans_b) now_b timely_b; wants = wants } in
      let deaf_a = is_deaf near [] now_a between.near_up timely_a in
      let deaf_b = is_deaf far (far_link ∷ spans_b) now_b between.far_up timely_b in
      let down = goes_down far_link spans_b now_b deaf_b.rest in
      let begun = names_begun (pushed_from set.settings client here_a.here) in
      wider (served_from set.settings set.content server feeds_b) (begun ++ []) (names_begun (pushed_from set.settings client feeds_a)) (subst (λ (ns : List (List ℕ)). AreAmong ns (names_begun (pushed_from set.settings client feeds_a))) (sym (append-nil begun)) (names_ahead near client here_a later_a feeds_a is_a))
      (whole_link near far far_link feeds_b later_b rest_b client server a.woven.weave here_a here_b link_b is_b are_b between down twined deaf_a.deaf deaf_b.deaf free good parts.here (parts.good, answered_on now_a later_a up last_a a parts.rest) []
      (no_more client.client (served_from set.settings set.content server_down rest_b) [] good (quiet_last spans_b now_b rest_b server_down last_b last b (is_down far_link spans_b now_b down deaf_b.rest))))
  made number (near ∷ near_link ∷ spans_a) now_a feeds_a client last_a (far ∷ far_link ∷ spans_b) now_b feeds_b server last_b (here_a, later_a, is_a, (link_a, rest_a, are_a, a)) (here_b, later_b, is_b, (link_b, rest_b, are_b, b)) (wants, twined, more) timely_a timely_b free good answered =
      let A = client_profile set.settings in
      let B = server_profile set.settings set.content in
      let asks_a = set.asks.clients set.settings in
      let asks_b = set.asks.servers set.settings set.content in
      let up = behind_span A asks_a near client here_a in
      let client_down = behind_span A asks_a near_link up link_a in
      let server_down = behind_span B asks_b far_link (behind_span B asks_b far server here_b) link_b in
      let parts = splits near client here_a later_a feeds_a is_a good answered in
      let on_link = splits near_link up link_a rest_a later_a are_a parts.good parts.rest in
      let between : Between near far client server here_a here_b = record { near_up = is_up near (near_link ∷ spans_a) now_a timely_a; far_up = is_up far (far_link ∷ spans_b) now_b timely_b; wants = wants } in
      let deaf_a = is_deaf near (near_link ∷ spans_a) now_a between.near_up timely_a in
      let deaf_b = is_deaf far (far_link ∷ spans_b) now_b between.far_up timely_b in
      let ends = goes_down near_link spans_a now_a deaf_a.rest in
      let down = goes_down far_link spans_b now_b deaf_b.rest in
      let begun = names_begun (pushed_from set.settings client here_a.here) in
      let after = names_begun (pushed_from set.settings client_down rest_a) in
      let on_links = names_begun (pushed_from set.settings up later_a) in
      let later : AreAmong after on_links = among_trans after (names_begun (pushed_from set.settings up link_a.here) ++ after) on_links (behind_among after (names_begun (pushed_from set.settings up link_a.here)) after (all_among after)) (names_split near_link up link_a rest_a later_a are_a) in
      wider (served_from set.settings set.content server feeds_b) (begun ++ after) (names_begun (pushed_from set.settings client feeds_a))
      (among_trans (begun ++ after) (begun ++ on_links) (names_begun (pushed_from set.settings client feeds_a)) (both_among begun begun after on_links (all_among begun) later) (names_split near client here_a later_a feeds_a is_a))
      (whole_link near far far_link feeds_b later_b rest_b client server link_a.so.woven.weave here_a here_b link_b is_b are_b between down twined deaf_a.deaf deaf_b.deaf free good parts.here (parts.good, answered_on near_link.list link_a.here up link_a.mid link_a.so on_link.here) after
      (made (λ k. number (suc (suc k))) spans_a now_a rest_a client_down last_a spans_b now_b rest_b server_down last_b a b more (is_down near_link spans_a now_a ends deaf_a.rest) (is_down far_link spans_b now_b down deaf_b.rest) (turned_free set.settings link_a.circumstances near_link.event (values_after A.policy no_channels near_link.list) link_a.mid) on_link.good on_link.rest))
