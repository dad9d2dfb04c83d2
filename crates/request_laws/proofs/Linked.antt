-- The n-th link of one host of a run is the n-th of the other, and no push begins on it.
use Rattle.std.proofs.Common.{◌≡◌, ◌≤◌, ◌+◌, ℕ, suc, Bool, true, false, List, [], ◌∷◌, length, refl, sym, subst, arith}
use Rattle.std.specs.List.{AllByRecursion}
use Rattle.std.specs.Prelude.{get_or}
use Rattle.pair_laws.specs.push_terms.specs.declared.word.Side.TheVariants as sides
use Rattle.pair_laws.specs.channel_laws.specs.Runs as channels
use Rattle.pair_laws.specs.world_model.specs.Machines.{LinkEvent, Up, Down}
use Rattle.pair_laws.specs.world_model.specs.Carriages.{linked_by}
use Rattle.pair_laws.specs.host_model.specs.Clients.{ClientProfile, client_profile}
use Rattle.pair_laws.specs.host_model.specs.Servers.{ServerProfile, server_profile}
use Rattle.pair_laws.specs.host_laws.specs.Asked.{BeginsNoneIf, IsWantedAt, AreAsked}
use Rattle.pair_laws.specs.host_laws.specs.Fed.{behind_span, AreFed}
use Rattle.pair_laws.specs.host_laws.specs.Feeds.{Feed}
use Rattle.pair_laws.specs.host_laws.specs.Lives.{Span, all_marks}
use Rattle.pair_laws.specs.host_laws.specs.OverLinks.{AreTimely}
use Rattle.pair_laws.specs.host_laws.specs.Woven.{Strand}
use Rattle.pair_laws.specs.scenario_laws.specs.Gains.{serving, asked_by}
use Rattle.pair_laws.specs.OnLinks.{happened_on}
use Rattle.request_laws.specs.BothFed.{IsDown, AreLinked, over_stored}
use Rattle.request_laws.specs.Linked.{RunsAreLinked}
use Rattle.request_laws.specs.ObjectPipes.{OpensOn}
use Rattle.request_laws.specs.Paired.{PairsOf}
use Rattle.request_laws.specs.Twists.{Set, OpensNone}
use Rattle.request_laws.proofs.Paired.{lists_of}
use Rattle.request_laws.proofs.Timely.{HearsNothing, is_up, goes_down, is_deaf, is_down}
use Rattle.request_laws.proofs.Unheard.{pair_deaf, link_quiet}

-- ---- on one link

-- once the link is up
pub up_opens : (event : LinkEvent) (weave : List Strand) → event ≡ Up → BeginsNoneIf (linked_by event) weave → AllByRecursion OpensNone weave
up_opens Up weave is none = none
up_opens (Down reason) weave is none = cc

pub wanted_up : (W : ClientProfile → Type 0) (event : LinkEvent) (p : ClientProfile) → event ≡ Up → IsWantedAt W event p → W p
wanted_up W Up p is wanted = wanted
wanted_up W (Down reason) p is wanted = cc

pub down_off : (event : LinkEvent) → IsDown event → linked_by event ≡ false
down_off Up down = absurd down
down_off (Down reason) down = refl

none_left : (spans : List Span) → length spans + 2 ≤ 2 → spans ≡ []
none_left [] few = refl
none_left (span ∷ spans) few = absurd (omega (arith, few))

-- ---- on all

module _ (set : Set) (near far : ℕ → List channels.Occurrence) (pairs : PairsOf set near far) where
  abbrev Wants : ClientProfile → Type 0
  Wants p = (client_profile set.settings).wants_link p ≡ true

  all_linked : (number : ℕ → ℕ) (spans_a : List Span) (now_a : List channels.Occurrence) (feeds_a : List Feed) (client last_a : ClientProfile) (spans_b : List Span) (now_b : List channels.Occurrence) (feeds_b : List Feed) (server last_b : ServerProfile)
      (a : AreFed (client_profile set.settings) (set.asks.clients set.settings) spans_a now_a feeds_a client last_a) (b : AreFed (server_profile set.settings set.content) (set.asks.servers set.settings set.content) spans_b now_b feeds_b server last_b)
      → ((k : ℕ) → get_or (lists_of spans_a now_a) k [] ≡ near (number k)) → ((k : ℕ) → get_or (lists_of spans_b now_b) k [] ≡ far (number k))
      → AreTimely false (all_marks spans_a now_a) → AreTimely false (all_marks spans_b now_b)
      → AreAsked (client_profile set.settings) (set.asks.clients set.settings) Wants false spans_a now_a feeds_a client last_a a → length spans_b ≤ length spans_a + 1
      → AreLinked set (OpensOn set) number spans_a now_a feeds_a client last_a spans_b now_b feeds_b server last_b a b
  all_linked number spans_a now_a feeds_a client last_a [] now_b feeds_b server last_b a b at_a at_b timely_a timely_b asked ahead = tt
  all_linked number [] now_a feeds_a client last_a (other ∷ []) now_b feeds_b server last_b a (here_b, later_b, is_b, b) at_a at_b timely_a timely_b asked ahead =
      let up = is_up other [] now_b timely_b in
      let deaf = is_deaf other [] now_b up timely_b in
      link_quiet set.settings set.content (set.asks.servers set.settings set.content) other now_b feeds_b later_b server last_b here_b is_b up b deaf.deaf
      (subst (AllByRecursion HearsNothing) (sym (at_b 1)) (pair_deaf (client_profile set.settings).policy (server_profile set.settings set.content).policy (near (number 1)) (far (number 1)) (sym (at_a 1)) (pairs (number 1))))
  all_linked number [] now_a feeds_a client last_a (other ∷ far_link ∷ spans_b) now_b feeds_b server last_b a b at_a at_b timely_a timely_b asked ahead = absurd (too_many (length spans_b) ahead)
    where
      too_many : (n : ℕ) → suc (suc n) ≤ 0 + 1 → ⊥
      too_many n few = omega (arith, few)
  all_linked number (one ∷ []) now_a feeds_a client last_a (other ∷ []) now_b feeds_b server last_b (here_a, later_a, is_a, a) (here_b, later_b, is_b, b) at_a at_b timely_a timely_b (before, wanted, none) ahead =
      let up = is_up one [] now_a timely_a in
      (wanted_up Wants one.event here_a.mid up wanted, up_opens one.event a.woven.weave up none)
  all_linked number (one ∷ link ∷ spans_a) now_a feeds_a client last_a (other ∷ []) now_b feeds_b server last_b (here_a, later_a, is_a, (link_a, rest_a, are_a, a)) (here_b, later_b, is_b, b) at_a at_b timely_a timely_b (before, wanted, (none, down_wanted, more)) ahead =
      let up = is_up one (link ∷ spans_a) now_a timely_a in
      (wanted_up Wants one.event here_a.mid up wanted, up_opens one.event link_a.so.woven.weave up none)
  all_linked number (one ∷ []) now_a feeds_a client last_a (other ∷ far_link ∷ spans_b) now_b feeds_b server last_b (here_a, later_a, is_a, a) (here_b, later_b, is_b, (link_b, rest_b, are_b, b)) at_a at_b timely_a timely_b (before, wanted, none) ahead =
      let up = is_up one [] now_a timely_a in
      (wanted_up Wants one.event here_a.mid up wanted, none_left spans_b (few (length spans_b) ahead), up_opens one.event a.woven.weave up none)
    where
      few : (n : ℕ) → suc (suc n) ≤ suc 0 + 1 → n + 2 ≤ 2
      few n is = omega (arith, is)
  all_linked number (one ∷ link ∷ spans_a) now_a feeds_a client last_a (other ∷ far_link ∷ spans_b) now_b feeds_b server last_b (here_a, later_a, is_a, (link_a, rest_a, are_a, a)) (here_b, later_b, is_b, (link_b, rest_b, are_b, b)) at_a at_b timely_a timely_b (before, wanted, (none, down_wanted, more)) ahead =
      let A = client_profile set.settings in
      let B = server_profile set.settings set.content in
      let asks_a = set.asks.clients set.settings in
      let asks_b = set.asks.servers set.settings set.content in
      let up = is_up one (link ∷ spans_a) now_a timely_a in
      let deaf_a = is_deaf one (link ∷ spans_a) now_a up timely_a in
      let deaf_b = is_deaf other (far_link ∷ spans_b) now_b (is_up other (far_link ∷ spans_b) now_b timely_b) timely_b in
      let ends = goes_down link spans_a now_a deaf_a.rest in
      let down = goes_down far_link spans_b now_b deaf_b.rest in
      let client_down = behind_span A asks_a link (behind_span A asks_a one client here_a) link_a in (
        wanted_up Wants one.event here_a.mid up wanted,
        up_opens one.event link_a.so.woven.weave up none,
        all_linked (λ k. number (suc (suc k))) spans_a now_a rest_a client_down last_a spans_b now_b rest_b (behind_span B asks_b far_link (behind_span B asks_b other server here_b) link_b) last_b a b
            (λ k. at_a (suc (suc k))) (λ k. at_b (suc (suc k))) (is_down link spans_a now_a ends deaf_a.rest) (is_down far_link spans_b now_b down deaf_b.rest)
            (subst (λ (b : Bool). AreAsked A asks_a Wants b spans_a now_a rest_a client_down last_a a) (down_off link.event ends) more) (fewer (length spans_a) (length spans_b) ahead),
      )
    where
      fewer : (m n : ℕ) → suc (suc n) ≤ suc (suc m) + 1 → n ≤ m + 1
      fewer m n is = omega (arith, is)

-- ---- of a run

pub runs_are_linked : RunsAreLinked
runs_are_linked asks scenario before capture ran turns =
    let set = over_stored asks scenario.settings before in
    let A = client_profile scenario.settings in
    let B = serving scenario.settings before in
    let pairs = turns.pairs in
    let near = happened_on A (asks.clients scenario.settings) sides.A capture ran.world.a.upper pairs.a in
    let far = happened_on B (asked_by asks scenario.settings before) sides.B capture ran.world.b.upper pairs.b in
    let a = pairs.a.fed.so.lives in
    let b = pairs.b.fed.so.lives in
    all_linked set near far pairs.pairs (λ k. k) a.spans a.now a.feeds A.first ran.world.a.upper.profile b.spans b.now b.feeds B.first ran.world.b.upper.profile pairs.a.fed.fed pairs.b.fed.fed (λ k. refl) (λ k. refl)
    (subst (AreTimely false) (sym a.marks_are) pairs.a.fed.so.timely) (subst (AreTimely false) (sym b.marks_are) pairs.b.fed.so.timely) turns.asked turns.ahead
