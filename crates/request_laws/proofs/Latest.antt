-- The push that a client came to last, where both hosts are on the same link or behind it.
use Rattle.std.proofs.Common.{◌≡◌, ◌⊎◌, ℕ, suc, false, List, [], ◌∷◌, ◌++◌, length, inl, inr, refl, sym, ap, ap₂, subst, ◌∙◌, append-nil, append_assoc}
use Rattle.std.specs.List.{AllByRecursion, flat_map}
use Rattle.pair_laws.specs.channel_model.specs.Value.{Channels, no_channels}
use Rattle.pair_laws.specs.channel_laws.specs.Runs as channels
use Rattle.pair_laws.specs.push_model.specs.Client.{Client}
use Rattle.pair_laws.specs.push_model.specs.Laws.{all_done}
use Rattle.pair_laws.specs.push_laws.specs.Occurrences.{Occurrence, LinkDown}
use Rattle.pair_laws.specs.push_laws.specs.Parties.{server_side, client_side, Push, begun_of, ended_with}
use Rattle.pair_laws.specs.push_laws.specs.Spelled.{AreAmong, name_of, names_of}
use Rattle.pair_laws.specs.push_laws.proofs.Among.{none_among, all_among, both_among, behind_among, among_trans}
use Rattle.pair_laws.specs.world_model.specs.Machines.{LinkEvent}
use Rattle.pair_laws.specs.host_model.specs.Circumstances.{Circumstance}
use Rattle.pair_laws.specs.host_model.specs.Clients.{ClientProfile, is_paging, client_profile}
use Rattle.pair_laws.specs.host_model.specs.Servers.{ServerProfile, server_profile}
use Rattle.pair_laws.specs.host_laws.specs.Calls.{values_after}
use Rattle.pair_laws.specs.host_laws.specs.Fed.{woven_feeds, WovenFed, FedSpan, behind_span, AreFed}
use Rattle.pair_laws.specs.host_laws.specs.Feeds.{Feed}
use Rattle.pair_laws.specs.host_laws.specs.Lives.{Span, all_marks}
use Rattle.pair_laws.specs.host_laws.specs.Openings.{names_begun}
use Rattle.pair_laws.specs.host_laws.specs.OverLinks.{AreTimely}
use Rattle.pair_laws.specs.host_laws.specs.Pushing.{Affair, client_after, client_behind, pushed_from, AllAsked}
use Rattle.pair_laws.specs.host_laws.specs.Serving.{served_from}
use Rattle.pair_laws.specs.host_laws.specs.Woven.{Strand, turned}
use Rattle.pair_laws.specs.host_laws.proofs.Pushing.{all_pushed}
use Rattle.pair_laws.specs.host_laws.proofs.StrandsFed.{woven_so}
use Rattle.request_laws.specs.BothFed.{ComesNone, AreLinked}
use Rattle.request_laws.specs.Twists.{Set}
use Rattle.request_laws.proofs.Between.{between_still}
use Rattle.request_laws.proofs.Opening.{turned_free}
use Rattle.request_laws.proofs.Pushes.{pushed_on, served_on, Started, OnePush, Pushes, IsOne, IsNone, Between, started, splits, served_up, woven_served, down_of, whole_served, quiet_now, quiet_last, names_ahead, names_split, answered_on}
use Rattle.request_laws.proofs.Silent.{IsStill}
use Rattle.request_laws.proofs.Timely.{HearsNothing, is_up, goes_down, is_deaf, is_down, is_deaf_now}

-- ---- the client of a push

-- behind all that happened in it
abbrev pub client_of : Push → Client
client_of push = all_done (client_side push.moves) (begun_of push)

-- there it is as both hosts' link left it
abbrev pub EndsAt : Set → List Strand → ClientProfile → Push → Type 0
EndsAt set near client push = client_of push ≡ client_behind (pushed_on set near no_channels client) client.client

-- it did nothing
abbrev pub IsIdle : Push → Type 0
IsIdle push = client_side push.moves ≡ []

-- One of them left its client so, and the clients of those behind it did nothing.
pub record IsLast (D : Client → Type 0) (all : List Push) : Type 0 where
  pub ahead : List Push
  pub one : Push
  pub behind : List Push
  pub is : all ≡ ahead ++ one ∷ behind
  pub so : D (client_of one)
  pub idle : AllByRecursion IsIdle behind

-- ---- pushes of which that is said

pub record Tied (IsP : Push → Type 0) (Ties : List Push → Type 0) (occurrences : List Occurrence) (names : List (List ℕ)) : Type 0 where
  pub all : Pushes IsP occurrences names
  pub ties : Ties (all.pushes ++ all.last ∷ [])

-- forgetting what is said of one besides
pub plain : (IsP Q : Push → Type 0) (occurrences : List Occurrence) (names : List (List ℕ)) → OnePush (λ push. IsP push × Q push) occurrences names → OnePush IsP occurrences names
plain IsP Q occurrences names one = record { push = one.push; named = one.named; pushed = one.pushed.0; is = one.is }

-- each push on a link ends with the client as the link left it; and where nothing comes it may be one whose client does nothing
abbrev pub IsOneTied : Set → (Affair → Client → Type 0) → (Client → Type 0) → (Push → Type 0) → (List Strand → List Strand → ClientProfile → ServerProfile → Type 0) → Type 0
IsOneTied set Is G IsP T = (client : ClientProfile) (server : ServerProfile) (names : List (List ℕ)) (ahead tail : List Occurrence) (near far : List Strand) → Started Is G client names → G client.client → AllByRecursion IsStill ahead → AllByRecursion ComesNone tail → T near far client server
    → AllAsked Is (pushed_on set near no_channels client) client.client → OnePush (λ push. IsP push × EndsAt set near client push) (ahead ++ (served_on set far no_channels server ++ tail)) names

abbrev pub IsNoneTied : (Client → Type 0) → (Push → Type 0) → Type 0
IsNoneTied G IsP = (client : Client) (occurrences : List Occurrence) → G client → AllByRecursion ComesNone occurrences → OnePush (λ push. IsP push × IsIdle push) occurrences []

pub one_plain : (set : Set) (Is : Affair → Client → Type 0) (G : Client → Type 0) (IsP : Push → Type 0) (T : List Strand → List Strand → ClientProfile → ServerProfile → Type 0) → IsOneTied set Is G IsP T → IsOne set Is G IsP T
one_plain set Is G IsP T one client server names ahead tail near far start good still quiet twined asked =
    plain IsP (EndsAt set near client) (ahead ++ (served_on set far no_channels server ++ tail)) names (one client server names ahead tail near far start good still quiet twined asked)

pub none_plain : (G : Client → Type 0) (IsP : Push → Type 0) → IsNoneTied G IsP → IsNone G IsP
none_plain G IsP none client occurrences good quiet = plain IsP IsIdle occurrences [] (none client occurrences good quiet)

module _ (IsP : Push → Type 0) where
  -- one alone
  tied_one : (E : Push → Type 0) (Ties : List Push → Type 0) (occurrences one : List Occurrence) (here names : List (List ℕ)) (push : OnePush (λ p. IsP p × E p) one here) → occurrences ≡ one → AreAmong here names → Ties (push.push ∷ []) → Tied IsP Ties occurrences names
  tied_one E Ties occurrences one here names push is among ties = record {
    all = record {
      pushes = [];
      last = push.push;
      pushed = tt;
      last_pushed = push.pushed.0;
      is = is ∙ sym push.is;
      named = subst (λ (ns : List (List ℕ)). AreAmong ns names) (sym (append-nil (name_of push.push))) (among_trans (name_of push.push) here names push.named among);
    };
    ties = ties;
  }

  -- one more, in front of others
  tied_more : (E : Push → Type 0) (Ties Later : List Push → Type 0) (one rest occurrences : List Occurrence) (here more names : List (List ℕ)) (first : OnePush (λ p. IsP p × E p) one here) → Tied IsP Later rest more → occurrences ≡ (one ++ LinkDown ∷ []) ++ rest → AreAmong (here ++ more) names
      → ((all : List Push) → Later all → Ties (first.push ∷ all)) → Tied IsP Ties occurrences names
  tied_more E Ties Later one rest occurrences here more names first later is among ties = record {
    all = record {
      pushes = first.push ∷ later.all.pushes;
      last = later.all.last;
      pushed = (first.pushed.0, later.all.pushed);
      last_pushed = later.all.last_pushed;
      is = is
          ∙ (ap₂ (λ (a b : List Occurrence). a ++ b) (ap (λ (l : List Occurrence). l ++ LinkDown ∷ []) (sym first.is)) later.all.is
          ∙ sym (append_assoc (ended_with first.push) (flat_map ended_with later.all.pushes) (server_side later.all.last.moves)));
      named = among_trans (names_of (first.push ∷ (later.all.pushes ++ later.all.last ∷ []))) (here ++ more) names (both_among (name_of first.push) here (names_of (later.all.pushes ++ later.all.last ∷ [])) more first.named later.all.named) among;
    };
    ties = ties (later.all.pushes ++ later.all.last ∷ []) later.ties;
  }

-- ---- over all links

module _ (set : Set) (Is : Affair → Client → Type 0) (G : Client → Type 0) (IsP : Push → Type 0) (T : List Strand → List Strand → ClientProfile → ServerProfile → Type 0) (goes : (one : Affair) (client : Client) → Is one client → G client → G (client_after one client)) (one_push : IsOneTied set Is G IsP T) (no_push : IsNoneTied G IsP)
    (D : Client → Type 0)
    (off : (list : List channels.Occurrence) (feeds : List Feed) (first last : ClientProfile) → WovenFed (client_profile set.settings) (set.asks.clients set.settings) list feeds first last → AllByRecursion HearsNothing list → D last.client → D first.client)
    (turned_off : (circumstances : List Circumstance) (event : LinkEvent) (v : Channels) (p : ClientProfile) → D (turned (client_profile set.settings) circumstances event v p).client → D p.client) where
  pub one_old : IsOne set Is G IsP T
  one_old = one_plain set Is G IsP T one_push

  pub none_old : IsNone G IsP
  none_old = none_plain G IsP no_push

  -- what is said of all pushes from a client on to another one: where the hosts are level and the last client is so, it was so at first and no client did
  -- anything, or one of them left it so and none did anything since
  abbrev Ties : Type 0 → (first last : Client) → List Push → Type 0
  Ties Level first last all = Level → D last → (D first × AllByRecursion IsIdle all) ⊎ IsLast D all

  nothing : (Level : Type 0) (client last : Client) (occurrences : List Occurrence) (names : List (List ℕ)) → G client → AllByRecursion ComesNone occurrences → (Level → D last → D client) → Tied IsP (Ties Level client last) occurrences names
  nothing Level client last occurrences names good quiet so =
      let push = no_push client occurrences good quiet in
      tied_one IsP IsIdle (Ties Level client last) occurrences occurrences [] names push refl (none_among names) (λ level d. inl (so level d, (push.pushed.1, tt)))

  -- the client at the end of what stands on a link
  pub on_link : (list : List channels.Occurrence) (feeds : List Feed) (up last : ClientProfile) (a : WovenFed (client_profile set.settings) (set.asks.clients set.settings) list feeds up last) → last.client ≡ client_behind (pushed_on set a.woven.weave no_channels up) up.client
  on_link list feeds up last a =
      let A = client_profile set.settings in
      let asks = set.asks.clients set.settings in
      let here = woven_feeds A asks a.woven.weave no_channels up in
      ap (λ (p : ClientProfile). p.client) (sym (woven_so A asks a.woven.weave no_channels up ∙ sym a.woven.last_is)) ∙ all_pushed set.settings here up

  -- a link, and what happened to the server by the time that it came up
  pub link_one : (near far : Span) (client : ClientProfile) (server : ServerProfile) (weave_a weave_b : List Strand) (tail : List Occurrence)
      (here_a : FedSpan (client_profile set.settings) (set.asks.clients set.settings) near client) (here_b : FedSpan (server_profile set.settings set.content) (set.asks.servers set.settings set.content) far server)
      → Between set Is G IsP T goes one_old none_old near far client server here_a here_b
      → T weave_a weave_b (behind_span (client_profile set.settings) (set.asks.clients set.settings) near client here_a) (behind_span (server_profile set.settings set.content) (set.asks.servers set.settings set.content) far server here_b)
      → AllByRecursion HearsNothing near.list → AllByRecursion HearsNothing far.list → is_paging client.bid ≡ false → G client.client → AllAsked Is (pushed_from set.settings client here_a.here) client.client
      → (let up = behind_span (client_profile set.settings) (set.asks.clients set.settings) near client here_a in G up.client × AllAsked Is (pushed_on set weave_a no_channels up) up.client)
      → AllByRecursion ComesNone tail
      → (let up = behind_span (client_profile set.settings) (set.asks.clients set.settings) near client here_a in
      let server_up = behind_span (server_profile set.settings set.content) (set.asks.servers set.settings set.content) far server here_b in
      OnePush (λ push. IsP push × EndsAt set weave_a up push) (served_from set.settings set.content server here_b.here ++ (served_on set weave_b no_channels server_up ++ tail)) (names_begun (pushed_from set.settings client here_a.here)))
  link_one near far client server weave_a weave_b tail here_a here_b between twined near_deaf far_deaf free good answered answered_up quiet =
      let up = behind_span (client_profile set.settings) (set.asks.clients set.settings) near client here_a in
      let server_up = behind_span (server_profile set.settings set.content) (set.asks.servers set.settings set.content) far server here_b in
      one_push up server_up (names_begun (pushed_from set.settings client here_a.here)) (served_from set.settings set.content server here_b.here) tail weave_a weave_b (started set Is G IsP T goes one_old none_old near far client server here_a here_b between near_deaf free good answered) answered_up.0
      (between_still set.settings set.content (set.asks.servers set.settings set.content) far.list here_b.here server here_b.mid here_b.so far_deaf) quiet twined answered_up.1

  -- numbers of turns that are the same, or not
  abbrev pub AreLevel : ℕ → ℕ → Type 0
  AreLevel m n = m ≡ n

  pub some_none : (n : ℕ) → suc n ≡ 0 → ⊥
  some_none n is = cc

  pub none_one : AreLevel 0 1 → ⊥
  none_one is = cc

  pub more_one : (n : ℕ) → suc (suc n) ≡ 1 → ⊥
  more_one n is = cc

  pub one_more : (n : ℕ) → 1 ≡ suc (suc n) → ⊥
  one_more n is = cc

  pub one_less : (m n : ℕ) → suc (suc m) ≡ suc (suc n) → m ≡ n
  one_less m n is = cc

  pub latest : (number : ℕ → ℕ) (spans_a : List Span) (now_a : List channels.Occurrence) (feeds_a : List Feed) (client last_a : ClientProfile) (spans_b : List Span) (now_b : List channels.Occurrence) (feeds_b : List Feed) (server last_b : ServerProfile)
      (a : AreFed (client_profile set.settings) (set.asks.clients set.settings) spans_a now_a feeds_a client last_a) (b : AreFed (server_profile set.settings set.content) (set.asks.servers set.settings set.content) spans_b now_b feeds_b server last_b)
      → AreLinked set (λ k list_a list_b up last_up far_up last_far woven_a woven_b. T woven_a.weave woven_b.weave up far_up) number spans_a now_a feeds_a client last_a spans_b now_b feeds_b server last_b a b → AreTimely false (all_marks spans_a now_a) → AreTimely false (all_marks spans_b now_b) → is_paging client.bid ≡ false → G client.client → AllAsked Is (pushed_from set.settings client feeds_a) client.client
      → Tied IsP (Ties (AreLevel (length spans_a) (length spans_b)) client.client last_a.client) (served_from set.settings set.content server feeds_b) (names_begun (pushed_from set.settings client feeds_a))
  latest number [] now_a feeds_a client last_a [] now_b feeds_b server last_b a b twined timely_a timely_b free good answered =
      nothing (AreLevel 0 0) client.client last_a.client (served_from set.settings set.content server feeds_b) (names_begun (pushed_from set.settings client feeds_a)) good (quiet_now set Is G IsP T goes one_old none_old now_b feeds_b server last_b b timely_b)
      (λ level d. off now_a feeds_a client last_a a (is_deaf_now now_a timely_a) d)
  latest number (near ∷ spans_a) now_a feeds_a client last_a [] now_b feeds_b server last_b a b twined timely_a timely_b free good answered =
      nothing (AreLevel (suc (length spans_a)) 0) client.client last_a.client (served_from set.settings set.content server feeds_b) (names_begun (pushed_from set.settings client feeds_a)) good (quiet_now set Is G IsP T goes one_old none_old now_b feeds_b server last_b b timely_b)
      (λ level d. absurd (some_none (length spans_a) level))
  latest number [] now_a feeds_a client last_a (far ∷ []) now_b feeds_b server last_b a b quiet timely_a timely_b free good answered =
      nothing (AreLevel 0 1) client.client last_a.client (served_from set.settings set.content server feeds_b) (names_begun (pushed_from set.settings client feeds_a)) good quiet (λ level d. absurd (none_one level))
  latest number [] now_a feeds_a client last_a (far ∷ far_link ∷ spans_b) now_b feeds_b server last_b a b never timely_a timely_b free good answered = absurd never
  latest number (near ∷ []) now_a feeds_a client last_a (far ∷ []) now_b feeds_b server last_b (here_a, later_a, is_a, a) (here_b, later_b, is_b, b) (wants, twined) timely_a timely_b free good answered =
      let up = behind_span (client_profile set.settings) (set.asks.clients set.settings) near client here_a in
      let server_up = behind_span (server_profile set.settings set.content) (set.asks.servers set.settings set.content) far server here_b in
      let ahead = served_from set.settings set.content server here_b.here in
      let parts = splits set Is G IsP T goes one_old none_old near client here_a later_a feeds_a is_a good answered in
      let between : Between set Is G IsP T goes one_old none_old near far client server here_a here_b = record { near_up = is_up near [] now_a timely_a; far_up = is_up far [] now_b timely_b; wants = wants } in
      let deaf_a = is_deaf near [] now_a between.near_up timely_a in
      let deaf_b = is_deaf far [] now_b between.far_up timely_b in
      let one = link_one near far client server a.woven.weave b.woven.weave [] here_a here_b between twined deaf_a.deaf deaf_b.deaf free good parts.here (parts.good, answered_on set Is G IsP T goes one_old none_old now_a later_a up last_a a parts.rest) tt in
      let is : served_from set.settings set.content server feeds_b ≡ ahead ++ (served_on set b.woven.weave no_channels server_up ++ []) =
      served_up set Is G IsP T goes one_old none_old near far feeds_b later_b client server here_a here_b between is_b
      ∙ ap (λ (l : List Occurrence). ahead ++ l) (woven_served set Is G IsP T goes one_old none_old now_b later_b server_up last_b b ∙ sym (append-nil (served_on set b.woven.weave no_channels server_up))) in
      tied_one IsP (EndsAt set a.woven.weave up) (Ties (AreLevel 1 1) client.client last_a.client) (served_from set.settings set.content server feeds_b) (ahead ++ (served_on set b.woven.weave no_channels server_up ++ [])) (names_begun (pushed_from set.settings client here_a.here)) (names_begun (pushed_from set.settings client feeds_a)) one is
      (names_ahead set Is G IsP T goes one_old none_old near client here_a later_a feeds_a is_a)
      (λ level d. inr (record { ahead = []; one = one.push; behind = []; is = refl; so = subst D (on_link now_a later_a up last_a a ∙ sym one.pushed.1) d; idle = tt }))
  latest number (near ∷ near_link ∷ spans_a) now_a feeds_a client last_a (far ∷ []) now_b feeds_b server last_b (here_a, later_a, is_a, (link_a, rest_a, are_a, a)) (here_b, later_b, is_b, b) (wants, twined) timely_a timely_b free good answered =
      let up = behind_span (client_profile set.settings) (set.asks.clients set.settings) near client here_a in
      let server_up = behind_span (server_profile set.settings set.content) (set.asks.servers set.settings set.content) far server here_b in
      let ahead = served_from set.settings set.content server here_b.here in
      let parts = splits set Is G IsP T goes one_old none_old near client here_a later_a feeds_a is_a good answered in
      let on = splits set Is G IsP T goes one_old none_old near_link up link_a rest_a later_a are_a parts.good parts.rest in
      let between : Between set Is G IsP T goes one_old none_old near far client server here_a here_b = record { near_up = is_up near (near_link ∷ spans_a) now_a timely_a; far_up = is_up far [] now_b timely_b; wants = wants } in
      let deaf_a = is_deaf near (near_link ∷ spans_a) now_a between.near_up timely_a in
      let deaf_b = is_deaf far [] now_b between.far_up timely_b in
      let one = link_one near far client server link_a.so.woven.weave b.woven.weave [] here_a here_b between twined deaf_a.deaf deaf_b.deaf free good parts.here (parts.good, answered_on set Is G IsP T goes one_old none_old near_link.list link_a.here up link_a.mid link_a.so on.here) tt in
      let is : served_from set.settings set.content server feeds_b ≡ ahead ++ (served_on set b.woven.weave no_channels server_up ++ []) =
      served_up set Is G IsP T goes one_old none_old near far feeds_b later_b client server here_a here_b between is_b
      ∙ ap (λ (l : List Occurrence). ahead ++ l) (woven_served set Is G IsP T goes one_old none_old now_b later_b server_up last_b b ∙ sym (append-nil (served_on set b.woven.weave no_channels server_up))) in
      tied_one IsP (EndsAt set link_a.so.woven.weave up) (Ties (AreLevel (suc (suc (length spans_a))) 1) client.client last_a.client) (served_from set.settings set.content server feeds_b) (ahead ++ (served_on set b.woven.weave no_channels server_up ++ [])) (names_begun (pushed_from set.settings client here_a.here)) (names_begun (pushed_from set.settings client feeds_a)) one is
      (names_ahead set Is G IsP T goes one_old none_old near client here_a later_a feeds_a is_a)
      (λ level d. absurd (more_one (length spans_a) level))
  latest number (near ∷ []) now_a feeds_a client last_a (far ∷ far_link ∷ spans_b) now_b feeds_b server last_b (here_a, later_a, is_a, a) (here_b, later_b, is_b, (link_b, rest_b, are_b, b)) (wants, last, twined) timely_a timely_b free good answered =
      let B = server_profile set.settings set.content in
      let asks_b = set.asks.servers set.settings set.content in
      let up = behind_span (client_profile set.settings) (set.asks.clients set.settings) near client here_a in
      let server_up = behind_span B asks_b far server here_b in
      let server_down = behind_span B asks_b far_link server_up link_b in
      let ahead = served_from set.settings set.content server here_b.here in
      let parts = splits set Is G IsP T goes one_old none_old near client here_a later_a feeds_a is_a good answered in
      let between : Between set Is G IsP T goes one_old none_old near far client server here_a here_b = record { near_up = is_up near [] now_a timely_a; far_up = is_up far (far_link ∷ spans_b) now_b timely_b; wants = wants } in
      let deaf_a = is_deaf near [] now_a between.near_up timely_a in
      let deaf_b = is_deaf far (far_link ∷ spans_b) now_b between.far_up timely_b in
      let down = goes_down far_link spans_b now_b deaf_b.rest in
      let begun = names_begun (pushed_from set.settings client here_a.here) in
      let ends = down_of set Is G IsP T goes one_old none_old far_link.event link_b.circumstances (values_after B.policy no_channels far_link.list) link_b.mid down in
      let one = link_one near far client server a.woven.weave link_b.so.woven.weave ends.ahead here_a here_b between twined deaf_a.deaf deaf_b.deaf free good parts.here (parts.good, answered_on set Is G IsP T goes one_old none_old now_a later_a up last_a a parts.rest) ends.quiet in
      let rest = served_from set.settings set.content server_down rest_b in
      let later = nothing (AreLevel 0 1) client.client last_a.client rest [] good (quiet_last set Is G IsP T goes one_old none_old spans_b now_b rest_b server_down last_b last b (is_down far_link spans_b now_b down deaf_b.rest)) (λ level d. absurd (none_one level)) in
      tied_more IsP (EndsAt set a.woven.weave up) (Ties (AreLevel 1 (suc (suc (length spans_b)))) client.client last_a.client) (Ties (AreLevel 0 1) client.client last_a.client) (ahead ++ (served_on set link_b.so.woven.weave no_channels server_up ++ ends.ahead)) rest (served_from set.settings set.content server feeds_b)
      begun [] (names_begun (pushed_from set.settings client feeds_a)) one later (whole_served set Is G IsP T goes one_old none_old near far far_link feeds_b later_b rest_b client server here_a here_b link_b is_b are_b between ends)
      (subst (λ (ns : List (List ℕ)). AreAmong ns (names_begun (pushed_from set.settings client feeds_a))) (sym (append-nil begun)) (names_ahead set Is G IsP T goes one_old none_old near client here_a later_a feeds_a is_a))
      (λ all ties level d. absurd (one_more (length spans_b) level))
  latest number (near ∷ near_link ∷ spans_a) now_a feeds_a client last_a (far ∷ far_link ∷ spans_b) now_b feeds_b server last_b (here_a, later_a, is_a, (link_a, rest_a, are_a, a)) (here_b, later_b, is_b, (link_b, rest_b, are_b, b)) (wants, twined, more) timely_a timely_b free good answered =
      let A = client_profile set.settings in
      let B = server_profile set.settings set.content in
      let asks_a = set.asks.clients set.settings in
      let asks_b = set.asks.servers set.settings set.content in
      let up = behind_span A asks_a near client here_a in
      let server_up = behind_span B asks_b far server here_b in
      let client_down = behind_span A asks_a near_link up link_a in
      let server_down = behind_span B asks_b far_link server_up link_b in
      let ahead = served_from set.settings set.content server here_b.here in
      let parts = splits set Is G IsP T goes one_old none_old near client here_a later_a feeds_a is_a good answered in
      let on = splits set Is G IsP T goes one_old none_old near_link up link_a rest_a later_a are_a parts.good parts.rest in
      let between : Between set Is G IsP T goes one_old none_old near far client server here_a here_b = record { near_up = is_up near (near_link ∷ spans_a) now_a timely_a; far_up = is_up far (far_link ∷ spans_b) now_b timely_b; wants = wants } in
      let deaf_a = is_deaf near (near_link ∷ spans_a) now_a between.near_up timely_a in
      let deaf_b = is_deaf far (far_link ∷ spans_b) now_b between.far_up timely_b in
      let leaves = goes_down near_link spans_a now_a deaf_a.rest in
      let down = goes_down far_link spans_b now_b deaf_b.rest in
      let begun = names_begun (pushed_from set.settings client here_a.here) in
      let after = names_begun (pushed_from set.settings client_down rest_a) in
      let on_links = names_begun (pushed_from set.settings up later_a) in
      let among : AreAmong after on_links =
      among_trans after (names_begun (pushed_from set.settings up link_a.here) ++ after) on_links (behind_among after (names_begun (pushed_from set.settings up link_a.here)) after (all_among after)) (names_split set Is G IsP T goes one_old none_old near_link up link_a rest_a later_a are_a) in
      let ends = down_of set Is G IsP T goes one_old none_old far_link.event link_b.circumstances (values_after B.policy no_channels far_link.list) link_b.mid down in
      let one = link_one near far client server link_a.so.woven.weave link_b.so.woven.weave ends.ahead here_a here_b between twined deaf_a.deaf deaf_b.deaf free good parts.here (parts.good, answered_on set Is G IsP T goes one_old none_old near_link.list link_a.here up link_a.mid link_a.so on.here) ends.quiet in
      let rest = served_from set.settings set.content server_down rest_b in
      let later = latest (λ k. number (suc (suc k))) spans_a now_a rest_a client_down last_a spans_b now_b rest_b server_down last_b a b more (is_down near_link spans_a now_a leaves deaf_a.rest) (is_down far_link spans_b now_b down deaf_b.rest)
      (turned_free set.settings link_a.circumstances near_link.event (values_after A.policy no_channels near_link.list) link_a.mid) on.good on.rest in
      let left : D client_down.client → D (client_of one.push) =
      λ d. subst D (on_link near_link.list link_a.here up link_a.mid link_a.so ∙ sym one.pushed.1) (turned_off link_a.circumstances near_link.event (values_after A.policy no_channels near_link.list) link_a.mid d) in
      tied_more IsP (EndsAt set link_a.so.woven.weave up) (Ties (AreLevel (suc (suc (length spans_a))) (suc (suc (length spans_b)))) client.client last_a.client) (Ties (AreLevel (length spans_a) (length spans_b)) client_down.client last_a.client)
      (ahead ++ (served_on set link_b.so.woven.weave no_channels server_up ++ ends.ahead)) rest (served_from set.settings set.content server feeds_b)
      begun after (names_begun (pushed_from set.settings client feeds_a)) one later (whole_served set Is G IsP T goes one_old none_old near far far_link feeds_b later_b rest_b client server here_a here_b link_b is_b are_b between ends)
      (among_trans (begun ++ after) (begun ++ on_links) (names_begun (pushed_from set.settings client feeds_a)) (both_among begun begun after on_links (all_among begun) among) (names_split set Is G IsP T goes one_old none_old near client here_a later_a feeds_a is_a))
      (λ all ties level d. inr (elim (ties (one_less (length spans_a) (length spans_b) level) d) [
        | inl still ↦ record { ahead = []; one = one.push; behind = all; is = refl; so = left still.0; idle = still.1 }
        | inr last ↦ record { ahead = one.push ∷ last.ahead; one = last.one; behind = last.behind; is = ap (λ (l : List Push). one.push ∷ l) last.is; so = last.so; idle = last.idle }
      ]))
