-- The last link of both hosts, where they are level on it or behind it and the client is so, and which list is its.
use Rattle.std.proofs.Common.{◌≡◌, ◌⊎◌, ℕ, suc, Bool, true, false, List, [], ◌∷◌, ◌++◌, length, inl, inr, refl, sym, ap, subst, ◌∙◌}
use Rattle.std.specs.List.{AllByRecursion}
use Rattle.tape_laws.specs.host_laws.specs.channel_laws.specs.Runs as channels
use Rattle.tape_laws.specs.push_model.specs.Client.{Client}
use Rattle.tape_laws.specs.push_laws.specs.Parties.{Push}
use Rattle.tape_laws.specs.world_model.specs.Machines.{LinkEvent, Up, Down}
use Rattle.tape_laws.specs.world_model.specs.Carriages.{linked_by}
use Rattle.tape_laws.specs.host_model.specs.Circumstances.{Circumstance}
use Rattle.tape_laws.specs.host_model.specs.Clients.{ClientProfile, is_paging, client_profile}
use Rattle.tape_laws.specs.host_model.specs.Servers.{ServerProfile, server_profile}
use Rattle.tape_laws.specs.host_laws.specs.channel_model.specs.Value.{Channels, no_channels}
use Rattle.tape_laws.specs.host_laws.specs.Asked.{up_behind}
use Rattle.tape_laws.specs.host_laws.specs.Calls.{values_after}
use Rattle.tape_laws.specs.host_laws.specs.Fed.{WovenFed, behind_span, AreFed}
use Rattle.tape_laws.specs.host_laws.specs.Feeds.{Feed}
use Rattle.tape_laws.specs.host_laws.specs.Lives.{Span, all_marks}
use Rattle.tape_laws.specs.host_laws.specs.OverLinks.{AreTimely}
use Rattle.tape_laws.specs.host_laws.specs.Pushing.{Affair, client_after, pushed_from, AllAsked}
use Rattle.tape_laws.specs.host_laws.specs.Serving.{served_from}
use Rattle.tape_laws.specs.host_laws.specs.Woven.{Strand, turned}
use Rattle.tape_laws.specs.request_laws.specs.BothFed.{IsDown, AreLinked}
use Rattle.tape_laws.specs.request_laws.specs.Twists.{Set}
use Rattle.tape_laws.specs.request_laws.proofs.Between.{between_still}
use Rattle.tape_laws.specs.request_laws.proofs.LastLinks.{OnLast}
use Rattle.tape_laws.specs.request_laws.proofs.Latest.{client_of, IsOneTied, IsNoneTied, one_old, none_old, on_link, link_one, some_none, none_one, more_one, one_more, one_less}
use Rattle.tape_laws.specs.request_laws.proofs.Opening.{turned_free}
use Rattle.tape_laws.specs.request_laws.proofs.Paired.{lists_of}
use Rattle.tape_laws.specs.request_laws.proofs.Pushes.{IsOne, IsNone, Between, splits, down_of, answered_on}
use Rattle.tape_laws.specs.request_laws.proofs.Timely.{HearsNothing, is_up, goes_down, is_deaf, is_down, is_deaf_now}

-- behind the end of a link none is up
behind_down : (event : LinkEvent) (spans : List Span) → IsDown event → up_behind (linked_by event) spans ≡ up_behind false spans
behind_down Up spans down = absurd down
behind_down (Down reason) spans down = refl

-- where a link is up the last of these lists, and else the last but one
abbrev pub IsOfLink : (up : Bool) (rest : List (List channels.Occurrence)) → Type 0
IsOfLink true rest = rest ≡ []
IsOfLink false rest = (now : List channels.Occurrence) × (rest ≡ now ∷ [])

-- The push on the last link left its client so, and this is what happened there to the channels of its peer.
pub record LastPush (set : Set) (IsP : Push → Type 0) (D : Client → Type 0) (spans : List Span) (now : List channels.Occurrence) (last : Client) : Type 0 where
  pub one : Push
  pub one_pushed : IsP one
  pub so : D (client_of one)
  pub ahead : List (List channels.Occurrence)
  pub list : List channels.Occurrence
  pub rest : List (List channels.Occurrence)
  pub lists_are : lists_of spans now ≡ ahead ++ list ∷ rest
  pub place : IsOfLink (up_behind false spans) rest
  pub on : OnLast set one (list ∷ [])
  pub list_is : on.list ≡ list
  -- while the link is up, this is its client
  pub up_so : up_behind false spans ≡ true → client_of one ≡ last

module _ (set : Set) (Is : Affair → Client → Type 0) (G : Client → Type 0) (IsP : Push → Type 0) (T : List Strand → List Strand → ClientProfile → ServerProfile → Type 0) (goes : (one : Affair) (client : Client) → Is one client → G client → G (client_after one client)) (one_push : IsOneTied set Is G IsP T) (no_push : IsNoneTied G IsP)
    (D : Client → Type 0)
    (off : (list : List channels.Occurrence) (feeds : List Feed) (first last : ClientProfile) → WovenFed (client_profile set.settings) (set.asks.clients set.settings) list feeds first last → AllByRecursion HearsNothing list → D last.client → D first.client)
    (turned_off : (circumstances : List Circumstance) (event : LinkEvent) (v : Channels) (p : ClientProfile) → D (turned (client_profile set.settings) circumstances event v p).client → D p.client) where
  abbrev old : IsOne set Is G IsP T
  old = one_old set Is G IsP T goes one_push no_push D off turned_off

  abbrev none : IsNone G IsP
  none = none_old set Is G IsP T goes one_push no_push D off turned_off

  pub last_push : (number : ℕ → ℕ) (spans_a : List Span) (now_a : List channels.Occurrence) (feeds_a : List Feed) (client last_a : ClientProfile) (spans_b : List Span) (now_b : List channels.Occurrence) (feeds_b : List Feed) (server last_b : ServerProfile)
      (a : AreFed (client_profile set.settings) (set.asks.clients set.settings) spans_a now_a feeds_a client last_a) (b : AreFed (server_profile set.settings set.content) (set.asks.servers set.settings set.content) spans_b now_b feeds_b server last_b)
      → AreLinked set (λ k list_a list_b up last_up far_up last_far woven_a woven_b. T woven_a.weave woven_b.weave up far_up) number spans_a now_a feeds_a client last_a spans_b now_b feeds_b server last_b a b → AreTimely false (all_marks spans_a now_a) → AreTimely false (all_marks spans_b now_b) → is_paging client.bid ≡ false → G client.client → AllAsked Is (pushed_from set.settings client feeds_a) client.client
      → length spans_a ≡ length spans_b → D last_a.client → ((spans_b ≡ []) × D client.client) ⊎ LastPush set IsP D spans_b now_b last_a.client
  last_push number [] now_a feeds_a client last_a [] now_b feeds_b server last_b a b twined timely_a timely_b free good answered level d = inl (refl, off now_a feeds_a client last_a a (is_deaf_now now_a timely_a) d)
  last_push number (near ∷ spans_a) now_a feeds_a client last_a [] now_b feeds_b server last_b a b twined timely_a timely_b free good answered level d = absurd (some_none set Is G IsP T goes one_push no_push D off turned_off (length spans_a) level)
  last_push number [] now_a feeds_a client last_a (far ∷ []) now_b feeds_b server last_b a b quiet timely_a timely_b free good answered level d = absurd (none_one set Is G IsP T goes one_push no_push D off turned_off level)
  last_push number [] now_a feeds_a client last_a (far ∷ far_link ∷ spans_b) now_b feeds_b server last_b a b never timely_a timely_b free good answered level d = absurd never
  last_push number (near ∷ near_link ∷ spans_a) now_a feeds_a client last_a (far ∷ []) now_b feeds_b server last_b a b twined timely_a timely_b free good answered level d = absurd (more_one set Is G IsP T goes one_push no_push D off turned_off (length spans_a) level)
  last_push number (near ∷ []) now_a feeds_a client last_a (far ∷ far_link ∷ spans_b) now_b feeds_b server last_b a b twined timely_a timely_b free good answered level d = absurd (one_more set Is G IsP T goes one_push no_push D off turned_off (length spans_b) level)
  last_push number (near ∷ []) now_a feeds_a client last_a (far ∷ []) now_b feeds_b server last_b (here_a, later_a, is_a, a) (here_b, later_b, is_b, b) (wants, twined) timely_a timely_b free good answered level d =
      let up = behind_span (client_profile set.settings) (set.asks.clients set.settings) near client here_a in
      let server_up = behind_span (server_profile set.settings set.content) (set.asks.servers set.settings set.content) far server here_b in
      let parts = splits set Is G IsP T goes old none near client here_a later_a feeds_a is_a good answered in
      let between : Between set Is G IsP T goes old none near far client server here_a here_b = record { near_up = is_up near [] now_a timely_a; far_up = is_up far [] now_b timely_b; wants = wants } in
      let deaf_a = is_deaf near [] now_a between.near_up timely_a in
      let deaf_b = is_deaf far [] now_b between.far_up timely_b in
      let one = link_one set Is G IsP T goes one_push no_push D off turned_off near far client server a.woven.weave b.woven.weave [] here_a here_b between twined deaf_a.deaf deaf_b.deaf free good parts.here (parts.good, answered_on set Is G IsP T goes old none now_a later_a up last_a a parts.rest) tt in
      let there : true ≡ up_behind false (far ∷ []) = sym (ap linked_by between.far_up) in
      inr (record {
        one = one.push;
        one_pushed = one.pushed.0;
        so = subst D (on_link set Is G IsP T goes one_push no_push D off turned_off now_a later_a up last_a a ∙ sym one.pushed.1) d;
        ahead = far.list ∷ [];
        list = now_b;
        rest = [];
        lists_are = refl;
        place = subst (λ (b : Bool). IsOfLink b []) there refl;
        on = record {
          list = now_b;
          feeds = later_b;
          up = server_up;
          last = last_b;
          woven = b;
          between = served_from set.settings set.content server here_b.here;
          tail = [];
          still = between_still set.settings set.content (set.asks.servers set.settings set.content) far.list here_b.here server here_b.mid here_b.so deaf_b.deaf;
          quiet = tt;
          one_is = one.is;
          place = ([], [], refl, inl refl);
        };
        list_is = refl;
        up_so = λ on_it. one.pushed.1 ∙ sym (on_link set Is G IsP T goes one_push no_push D off turned_off now_a later_a up last_a a);
      })
  last_push number (near ∷ near_link ∷ spans_a) now_a feeds_a client last_a (far ∷ far_link ∷ spans_b) now_b feeds_b server last_b (here_a, later_a, is_a, (link_a, rest_a, are_a, a)) (here_b, later_b, is_b, (link_b, rest_b, are_b, b)) (wants, twined, more) timely_a timely_b free good answered level d =
      let A = client_profile set.settings in
      let B = server_profile set.settings set.content in
      let asks_a = set.asks.clients set.settings in
      let asks_b = set.asks.servers set.settings set.content in
      let up = behind_span A asks_a near client here_a in
      let server_up = behind_span B asks_b far server here_b in
      let client_down = behind_span A asks_a near_link up link_a in
      let server_down = behind_span B asks_b far_link server_up link_b in
      let ahead = served_from set.settings set.content server here_b.here in
      let parts = splits set Is G IsP T goes old none near client here_a later_a feeds_a is_a good answered in
      let on = splits set Is G IsP T goes old none near_link up link_a rest_a later_a are_a parts.good parts.rest in
      let between : Between set Is G IsP T goes old none near far client server here_a here_b = record { near_up = is_up near (near_link ∷ spans_a) now_a timely_a; far_up = is_up far (far_link ∷ spans_b) now_b timely_b; wants = wants } in
      let deaf_a = is_deaf near (near_link ∷ spans_a) now_a between.near_up timely_a in
      let deaf_b = is_deaf far (far_link ∷ spans_b) now_b between.far_up timely_b in
      let leaves = goes_down near_link spans_a now_a deaf_a.rest in
      let down = goes_down far_link spans_b now_b deaf_b.rest in
      let ends = down_of set Is G IsP T goes old none far_link.event link_b.circumstances (values_after B.policy no_channels far_link.list) link_b.mid down in
      let one = link_one set Is G IsP T goes one_push no_push D off turned_off near far client server link_a.so.woven.weave link_b.so.woven.weave ends.ahead here_a here_b between twined deaf_a.deaf deaf_b.deaf free good parts.here (parts.good, answered_on set Is G IsP T goes old none near_link.list link_a.here up link_a.mid link_a.so on.here) ends.quiet in
      let still = behind_down far_link.event spans_b down in
      let later = last_push (λ k. number (suc (suc k))) spans_a now_a rest_a client_down last_a spans_b now_b rest_b server_down last_b a b more (is_down near_link spans_a now_a leaves deaf_a.rest) (is_down far_link spans_b now_b down deaf_b.rest)
      (turned_free set.settings link_a.circumstances near_link.event (values_after A.policy no_channels near_link.list) link_a.mid) on.good on.rest (one_less set Is G IsP T goes one_push no_push D off turned_off (length spans_a) (length spans_b) level) d in
      let left : D client_down.client → D (client_of one.push) =
      λ so. subst D (on_link set Is G IsP T goes one_push no_push D off turned_off near_link.list link_a.here up link_a.mid link_a.so ∙ sym one.pushed.1) (turned_off link_a.circumstances near_link.event (values_after A.policy no_channels near_link.list) link_a.mid so) in
      elim later [
        | inl before ↦
            inr (record {
              one = one.push;
              one_pushed = one.pushed.0;
              so = left before.1;
              ahead = far.list ∷ [];
              list = far_link.list;
              rest = now_b ∷ [];
              lists_are = ap (λ (spans : List Span). far.list ∷ far_link.list ∷ lists_of spans now_b) before.0;
              place = subst (λ (b : Bool). IsOfLink b (now_b ∷ [])) (ap (up_behind false) (sym before.0) ∙ sym still) (now_b, refl);
              on = record {
                list = far_link.list;
                feeds = link_b.here;
                up = server_up;
                last = link_b.mid;
                woven = link_b.so;
                between = ahead;
                tail = ends.ahead;
                still = between_still set.settings set.content (set.asks.servers set.settings set.content) far.list here_b.here server here_b.mid here_b.so deaf_b.deaf;
                quiet = ends.quiet;
                one_is = one.is;
                place = ([], [], refl, inl refl);
              };
              list_is = refl;
              up_so = λ on_it. (let never : true ≡ false = sym on_it ∙ (still ∙ ap (up_behind false) before.0) in absurd cc);
            })
        | inr found ↦
            inr (record {
              one = found.one;
              one_pushed = found.one_pushed;
              so = found.so;
              ahead = far.list ∷ far_link.list ∷ found.ahead;
              list = found.list;
              rest = found.rest;
              lists_are = ap (λ (ls : List (List channels.Occurrence)). far.list ∷ far_link.list ∷ ls) found.lists_are;
              place = subst (λ (b : Bool). IsOfLink b found.rest) (sym still) found.place;
              on = found.on;
              list_is = found.list_is;
              up_so = λ on_it. found.up_so (sym still ∙ on_it);
            })
      ]
