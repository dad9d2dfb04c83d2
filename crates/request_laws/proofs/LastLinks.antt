-- The last link of both hosts, where they are level on it or behind it, and the client is so.
use Rattle.std.proofs.Common.{◌≡◌, ◌⊎◌, ℕ, suc, false, List, [], ◌∷◌, ◌++◌, length, inl, inr, refl, sym, ap, subst, ◌∙◌, append-nil, append_assoc}
use Rattle.std.specs.List.{AllByRecursion, flat_map}
use Rattle.pair_laws.specs.channel_model.specs.Value.{Channels, no_channels}
use Rattle.pair_laws.specs.channel_laws.specs.Runs as channels
use Rattle.pair_laws.specs.push_model.specs.Client.{Client}
use Rattle.pair_laws.specs.push_laws.specs.Occurrences.{Occurrence, LinkDown}
use Rattle.pair_laws.specs.push_laws.specs.Parties.{server_side, Push, ended_with, over_pushes}
use Rattle.pair_laws.specs.world_model.specs.Machines.{LinkEvent}
use Rattle.pair_laws.specs.host_model.specs.Circumstances.{Circumstance}
use Rattle.pair_laws.specs.host_model.specs.Clients.{ClientProfile, is_paging, client_profile}
use Rattle.pair_laws.specs.host_model.specs.Servers.{ServerProfile, server_profile}
use Rattle.pair_laws.specs.host_laws.specs.Calls.{values_after}
use Rattle.pair_laws.specs.host_laws.specs.Fed.{WovenFed, behind_span, AreFed}
use Rattle.pair_laws.specs.host_laws.specs.Feeds.{Feed}
use Rattle.pair_laws.specs.host_laws.specs.Lives.{Span, all_marks}
use Rattle.pair_laws.specs.host_laws.specs.OverLinks.{AreTimely}
use Rattle.pair_laws.specs.host_laws.specs.Pushing.{Affair, client_after, pushed_from, AllAsked}
use Rattle.pair_laws.specs.host_laws.specs.Serving.{served_from}
use Rattle.pair_laws.specs.host_laws.specs.Woven.{Strand, turned}
use Rattle.request_laws.specs.BothFed.{ComesNone, AreLinked}
use Rattle.request_laws.specs.Twists.{Set}
use Rattle.request_laws.proofs.Between.{between_still}
use Rattle.request_laws.proofs.Opening.{turned_free}
use Rattle.request_laws.proofs.Pushes.{served_on, IsOne, IsNone, Between, splits, served_up, woven_served, down_of, whole_served, answered_on}
use Rattle.request_laws.proofs.Silent.{IsStill}
use Rattle.request_laws.proofs.Timely.{HearsNothing, is_up, goes_down, is_deaf, is_down, is_deaf_now}
use Rattle.request_laws.proofs.Latest.{client_of, IsOneTied, IsNoneTied, one_old, none_old, on_link, link_one, some_none, none_one, more_one, one_more, one_less}
use Rattle.request_laws.proofs.Paired.{lists_of}

-- the last of some lists in which a host heard anything, or the one behind which it heard nothing
abbrev pub IsLastHeard : List channels.Occurrence → List (List channels.Occurrence) → Type 0
IsLastHeard list lists =
    (ahead : List (List channels.Occurrence)) × (rest : List (List channels.Occurrence)) × (lists ≡ ahead ++ list ∷ rest) × ((rest ≡ []) ⊎ ((last : List channels.Occurrence) × (rest ≡ last ∷ []) × AllByRecursion HearsNothing last))

-- what happened to the server in a push, on the last link of its host
pub record OnLast (set : Set) (one : Push) (lists : List (List channels.Occurrence)) : Type 0 where
  pub list : List channels.Occurrence
  pub feeds : List Feed
  pub up : ServerProfile
  pub last : ServerProfile
  pub woven : WovenFed (server_profile set.settings set.content) (set.asks.servers set.settings set.content) list feeds up last
  pub between : List Occurrence
  pub tail : List Occurrence
  pub still : AllByRecursion IsStill between
  pub quiet : AllByRecursion ComesNone tail
  pub one_is : server_side one.moves ≡ between ++ (served_on set woven.woven.weave no_channels up ++ tail)
  pub place : IsLastHeard list lists

-- Pushes on links that went down, and one on the last link, which left its client so.
pub record Reached (set : Set) (IsP : Push → Type 0) (D : Client → Type 0) (occurrences : List Occurrence) (lists : List (List channels.Occurrence)) : Type 0 where
  pub pushes : List Push
  pub one : Push
  pub pushed : AllByRecursion IsP pushes
  pub one_pushed : IsP one
  pub so : D (client_of one)
  pub behind : List Occurrence
  pub is : occurrences ≡ over_pushes pushes one ++ behind
  pub on : OnLast set one lists

module _ (set : Set) (Is : Affair → Client → Type 0) (G : Client → Type 0) (IsP : Push → Type 0) (T : List Strand → List Strand → ClientProfile → ServerProfile → Type 0) (goes : (one : Affair) (client : Client) → Is one client → G client → G (client_after one client)) (one_push : IsOneTied set Is G IsP T) (no_push : IsNoneTied G IsP)
    (D : Client → Type 0)
    (off : (list : List channels.Occurrence) (feeds : List Feed) (first last : ClientProfile) → WovenFed (client_profile set.settings) (set.asks.clients set.settings) list feeds first last → AllByRecursion HearsNothing list → D last.client → D first.client)
    (turned_off : (circumstances : List Circumstance) (event : LinkEvent) (v : Channels) (p : ClientProfile) → D (turned (client_profile set.settings) circumstances event v p).client → D p.client) where
  abbrev old : IsOne set Is G IsP T
  old = one_old set Is G IsP T goes one_push no_push D off turned_off

  abbrev none : IsNone G IsP
  none = none_old set Is G IsP T goes one_push no_push D off turned_off

  -- no link came, and the client was so
  abbrev Before : List Span → Client → List channels.Occurrence → Type 0
  Before spans_b client now_b = (spans_b ≡ []) × D client × AllByRecursion HearsNothing now_b

  -- a link that went down with nothing behind it
  over_down : (one : Push) (rest : List Occurrence) → over_pushes [] one ++ LinkDown ∷ rest ≡ (server_side one.moves ++ LinkDown ∷ []) ++ rest
  over_down one rest = sym (append_assoc (server_side one.moves) (LinkDown ∷ []) rest)

  over_more : (first : Push) (pushes : List Push) (one : Push) (behind : List Occurrence) → (server_side first.moves ++ LinkDown ∷ []) ++ (over_pushes pushes one ++ behind) ≡ over_pushes (first ∷ pushes) one ++ behind
  over_more first pushes one behind =
      sym (append_assoc (server_side first.moves ++ LinkDown ∷ []) (over_pushes pushes one) behind)
      ∙ ap (λ (os : List Occurrence). os ++ behind) (sym (append_assoc (server_side first.moves ++ LinkDown ∷ []) (flat_map ended_with pushes) (server_side one.moves)))

  pub reached : (number : ℕ → ℕ) (spans_a : List Span) (now_a : List channels.Occurrence) (feeds_a : List Feed) (client last_a : ClientProfile) (spans_b : List Span) (now_b : List channels.Occurrence) (feeds_b : List Feed) (server last_b : ServerProfile)
      (a : AreFed (client_profile set.settings) (set.asks.clients set.settings) spans_a now_a feeds_a client last_a) (b : AreFed (server_profile set.settings set.content) (set.asks.servers set.settings set.content) spans_b now_b feeds_b server last_b)
      → AreLinked set (λ k list_a list_b up last_up far_up last_far woven_a woven_b. T woven_a.weave woven_b.weave up far_up) number spans_a now_a feeds_a client last_a spans_b now_b feeds_b server last_b a b → AreTimely false (all_marks spans_a now_a) → AreTimely false (all_marks spans_b now_b) → is_paging client.bid ≡ false → G client.client → AllAsked Is (pushed_from set.settings client feeds_a) client.client
      → length spans_a ≡ length spans_b → D last_a.client → Before spans_b client.client now_b ⊎ Reached set IsP D (served_from set.settings set.content server feeds_b) (lists_of spans_b now_b)
  reached number [] now_a feeds_a client last_a [] now_b feeds_b server last_b a b twined timely_a timely_b free good answered level d = inl (refl, off now_a feeds_a client last_a a (is_deaf_now now_a timely_a) d, is_deaf_now now_b timely_b)
  reached number (near ∷ spans_a) now_a feeds_a client last_a [] now_b feeds_b server last_b a b twined timely_a timely_b free good answered level d = absurd (some_none set Is G IsP T goes one_push no_push D off turned_off (length spans_a) level)
  reached number [] now_a feeds_a client last_a (far ∷ []) now_b feeds_b server last_b a b quiet timely_a timely_b free good answered level d = absurd (none_one set Is G IsP T goes one_push no_push D off turned_off level)
  reached number [] now_a feeds_a client last_a (far ∷ far_link ∷ spans_b) now_b feeds_b server last_b a b never timely_a timely_b free good answered level d = absurd never
  reached number (near ∷ near_link ∷ spans_a) now_a feeds_a client last_a (far ∷ []) now_b feeds_b server last_b a b twined timely_a timely_b free good answered level d = absurd (more_one set Is G IsP T goes one_push no_push D off turned_off (length spans_a) level)
  reached number (near ∷ []) now_a feeds_a client last_a (far ∷ far_link ∷ spans_b) now_b feeds_b server last_b a b twined timely_a timely_b free good answered level d = absurd (one_more set Is G IsP T goes one_push no_push D off turned_off (length spans_b) level)
  reached number (near ∷ []) now_a feeds_a client last_a (far ∷ []) now_b feeds_b server last_b (here_a, later_a, is_a, a) (here_b, later_b, is_b, b) (wants, twined) timely_a timely_b free good answered level d =
      let up = behind_span (client_profile set.settings) (set.asks.clients set.settings) near client here_a in
      let server_up = behind_span (server_profile set.settings set.content) (set.asks.servers set.settings set.content) far server here_b in
      let ahead = served_from set.settings set.content server here_b.here in
      let parts = splits set Is G IsP T goes old none near client here_a later_a feeds_a is_a good answered in
      let between : Between set Is G IsP T goes old none near far client server here_a here_b = record { near_up = is_up near [] now_a timely_a; far_up = is_up far [] now_b timely_b; wants = wants } in
      let deaf_a = is_deaf near [] now_a between.near_up timely_a in
      let deaf_b = is_deaf far [] now_b between.far_up timely_b in
      let one = link_one set Is G IsP T goes one_push no_push D off turned_off near far client server a.woven.weave b.woven.weave [] here_a here_b between twined deaf_a.deaf deaf_b.deaf free good parts.here (parts.good, answered_on set Is G IsP T goes old none now_a later_a up last_a a parts.rest) tt in
      let is : served_from set.settings set.content server feeds_b ≡ ahead ++ (served_on set b.woven.weave no_channels server_up ++ []) =
      served_up set Is G IsP T goes old none near far feeds_b later_b client server here_a here_b between is_b
      ∙ ap (λ (l : List Occurrence). ahead ++ l) (woven_served set Is G IsP T goes old none now_b later_b server_up last_b b ∙ sym (append-nil (served_on set b.woven.weave no_channels server_up))) in
      inr (record {
        pushes = [];
        one = one.push;
        pushed = tt;
        one_pushed = one.pushed.0;
        so = subst D (on_link set Is G IsP T goes one_push no_push D off turned_off now_a later_a up last_a a ∙ sym one.pushed.1) d;
        behind = [];
        is = is ∙ (sym one.is ∙ sym (append-nil (server_side one.push.moves)));
        on = record {
          list = now_b;
          feeds = later_b;
          up = server_up;
          last = last_b;
          woven = b;
          between = ahead;
          tail = [];
          still = between_still set.settings set.content (set.asks.servers set.settings set.content) far.list here_b.here server here_b.mid here_b.so deaf_b.deaf;
          quiet = tt;
          one_is = one.is;
          place = (far.list ∷ [], [], refl, inl refl);
        };
      })
  reached number (near ∷ near_link ∷ spans_a) now_a feeds_a client last_a (far ∷ far_link ∷ spans_b) now_b feeds_b server last_b (here_a, later_a, is_a, (link_a, rest_a, are_a, a)) (here_b, later_b, is_b, (link_b, rest_b, are_b, b)) (wants, twined, more) timely_a timely_b free good answered level d =
      let A = client_profile set.settings in
      let B = server_profile set.settings set.content in
      let asks_a = set.asks.clients set.settings in
      let asks_b = set.asks.servers set.settings set.content in
      let up = behind_span A asks_a near client here_a in
      let server_up = behind_span B asks_b far server here_b in
      let client_down = behind_span A asks_a near_link up link_a in
      let server_down = behind_span B asks_b far_link server_up link_b in
      let ahead = served_from set.settings set.content server here_b.here in
      let parts = splits set Is G IsP T goes old none near client here_a later_a feeds_a is_a good answered in
      let on = splits set Is G IsP T goes old none near_link up link_a rest_a later_a are_a parts.good parts.rest in
      let between : Between set Is G IsP T goes old none near far client server here_a here_b = record { near_up = is_up near (near_link ∷ spans_a) now_a timely_a; far_up = is_up far (far_link ∷ spans_b) now_b timely_b; wants = wants } in
      let deaf_a = is_deaf near (near_link ∷ spans_a) now_a between.near_up timely_a in
      let deaf_b = is_deaf far (far_link ∷ spans_b) now_b between.far_up timely_b in
      let leaves = goes_down near_link spans_a now_a deaf_a.rest in
      let down = goes_down far_link spans_b now_b deaf_b.rest in
      let ends = down_of set Is G IsP T goes old none far_link.event link_b.circumstances (values_after B.policy no_channels far_link.list) link_b.mid down in
      let one = link_one set Is G IsP T goes one_push no_push D off turned_off near far client server link_a.so.woven.weave link_b.so.woven.weave ends.ahead here_a here_b between twined deaf_a.deaf deaf_b.deaf free good parts.here (parts.good, answered_on set Is G IsP T goes old none near_link.list link_a.here up link_a.mid link_a.so on.here) ends.quiet in
      let rest = served_from set.settings set.content server_down rest_b in
      let later = reached (λ k. number (suc (suc k))) spans_a now_a rest_a client_down last_a spans_b now_b rest_b server_down last_b a b more (is_down near_link spans_a now_a leaves deaf_a.rest) (is_down far_link spans_b now_b down deaf_b.rest)
      (turned_free set.settings link_a.circumstances near_link.event (values_after A.policy no_channels near_link.list) link_a.mid) on.good on.rest (one_less set Is G IsP T goes one_push no_push D off turned_off (length spans_a) (length spans_b) level) d in
      let left : D client_down.client → D (client_of one.push) =
      λ so. subst D (on_link set Is G IsP T goes one_push no_push D off turned_off near_link.list link_a.here up link_a.mid link_a.so ∙ sym one.pushed.1) (turned_off link_a.circumstances near_link.event (values_after A.policy no_channels near_link.list) link_a.mid so) in
      let whole : served_from set.settings set.content server feeds_b ≡ (server_side one.push.moves ++ LinkDown ∷ []) ++ rest =
      whole_served set Is G IsP T goes old none near far far_link feeds_b later_b rest_b client server here_a here_b link_b is_b are_b between ends ∙ ap (λ (os : List Occurrence). (os ++ LinkDown ∷ []) ++ rest) (sym one.is) in
      elim later [
        | inl before ↦
            inr (record {
              pushes = [];
              one = one.push;
              pushed = tt;
              one_pushed = one.pushed.0;
              so = left before.1;
              behind = LinkDown ∷ rest;
              is = whole ∙ sym (over_down one.push rest);
              on = record {
                list = far_link.list;
                feeds = link_b.here;
                up = server_up;
                last = link_b.mid;
                woven = link_b.so;
                between = ahead;
                tail = ends.ahead;
                still = between_still set.settings set.content (set.asks.servers set.settings set.content) far.list here_b.here server here_b.mid here_b.so deaf_b.deaf;
                quiet = ends.quiet;
                one_is = one.is;
                place = (far.list ∷ [], lists_of spans_b now_b, refl, inr (now_b, ap (λ (spans : List Span). lists_of spans now_b) before.0, before.2));
              };
            })
        | inr found ↦
            inr (record {
              pushes = one.push ∷ found.pushes;
              one = found.one;
              pushed = (one.pushed.0, found.pushed);
              one_pushed = found.one_pushed;
              so = found.so;
              behind = found.behind;
              is = whole ∙ (ap (λ (os : List Occurrence). (server_side one.push.moves ++ LinkDown ∷ []) ++ os) found.is ∙ over_more one.push found.pushes found.one found.behind);
              on = record {
                list = found.on.list;
                feeds = found.on.feeds;
                up = found.on.up;
                last = found.on.last;
                woven = found.on.woven;
                between = found.on.between;
                tail = found.on.tail;
                still = found.on.still;
                quiet = found.on.quiet;
                one_is = found.on.one_is;
                place = (let place = found.on.place in (far.list ∷ far_link.list ∷ place.0, place.1, ap (λ (ls : List (List channels.Occurrence)). far.list ∷ far_link.list ∷ ls) place.2, place.3));
              };
            })
      ]
