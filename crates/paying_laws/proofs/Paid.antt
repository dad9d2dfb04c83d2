-- A request for service records to which no reply came was sent no more often than words were adverse.
use Rattle.std.proofs.Common.{◌≡◌, ◌≤◌, ◌<◌, ◌+◌, ℕ, Bool, true, false, List, [], ◌∷◌, ◌++◌, map, length, Option, Some, None, refl, sym, ap, subst, ◌∙◌, arith, inl, inr, append-nil}
use Rattle.std.proofs.lemmas.Bool.{cases_lt}
use Rattle.std.specs.Prelude.{get_or}
use Rattle.std.specs.List.{list_any, flat_map}
use Rattle.pair_laws.specs.bt_base.specs.Objects.{Contents}
use Rattle.pair_laws.specs.capture.specs.Entries.{Entry}
use Rattle.pair_laws.specs.push_terms.specs.declared.word.Side.TheVariants as sides
use Rattle.pair_laws.specs.push_script.specs.declared.scenario.Scenario.{Scenario}
use Rattle.pair_laws.specs.l2cap_config.specs.declared.wish.Mode.TheVariants.{Basic, Enhanced}
use Rattle.pair_laws.specs.link_talk.specs.declared.channel.Channel.{Channel}
use Rattle.pair_laws.specs.channel_model.specs.Calls.{carrier_if, some_waits, open_carrier, setup_on, waits}
use Rattle.pair_laws.specs.channel_model.specs.Changing.{is_open, setup_of}
use Rattle.pair_laws.specs.channel_model.specs.Giving.{gives, stage_gives, some_carrier_gives}
use Rattle.pair_laws.specs.channel_model.specs.Policies.{Policy}
use Rattle.pair_laws.specs.channel_model.specs.Value.{Carrier, Plain, Retransmitting, Channels}
use Rattle.pair_laws.specs.channel_laws.specs.Adverse.{disturbances}
use Rattle.pair_laws.specs.channel_laws.specs.Common.{mirrored}
use Rattle.pair_laws.specs.channel_laws.specs.Frames.{AreUttered}
use Rattle.pair_laws.specs.channel_laws.specs.Pairs.{Turn, new_pair, pair_of, turned}
use Rattle.pair_laws.specs.channel_laws.specs.Runs.{Occurrence, Run, run_of, sdus_up}
use Rattle.pair_laws.specs.channel_laws.specs.Tries.{one_if}
use Rattle.pair_laws.specs.channel_laws.proofs.Ferried.{ends_at}
use Rattle.pair_laws.specs.channel_laws.proofs.Ferrying.{IsBasic}
use Rattle.recovered_laws.proofs.Paying.{none_found, not_some}
use Rattle.passing_laws.specs.Channels.{of_endpoint}
use Rattle.passing_laws.specs.Words.{AreSilent}
use Rattle.pair_laws.specs.world_model.specs.Worlds.{Happening, all_entries, all_words, IsAtRest}
use Rattle.pair_laws.specs.host_model.specs.Clients.{ClientProfile, client_profile}
use Rattle.pair_laws.specs.host_model.specs.Profiles.{Profile}
use Rattle.pair_laws.specs.host_model.specs.Servers.{ServerProfile, server_profile}
use Rattle.pair_laws.specs.host_laws.specs.Asked.{up_behind}
use Rattle.pair_laws.specs.host_laws.specs.Lives.{Span, Lives, on_links}
use Rattle.pair_laws.specs.host_laws.specs.OverLinks.{talk_marks}
use Rattle.pair_laws.specs.scenario_laws.specs.Captures.{client_of, server_of, beginning, Happened, Ran}
use Rattle.pair_laws.specs.Costs.{adverse_in}
use Rattle.pair_laws.specs.OnLinks.{ArePairs, IsInAir, happened_on}
use Rattle.pair_laws.specs.Pairs.{PairOnLink}
use Rattle.pair_laws.proofs.Answered.{runs-so, rest-so}
use Rattle.pair_laws.proofs.Carrying.{as_it_is}
use Rattle.pair_laws.proofs.Numbered.{part-now, part-get}
use Rattle.pair_laws.proofs.Taking.{clients_within, servers_within, pairs-are_carried}
use Rattle.request_laws.proofs.AlongStreams.{at_place}
use Rattle.request_laws.proofs.Summing.{both_ask}
use Rattle.retry_laws.specs.Counted.{HasStill, Share, count_taken, count_come, on_the_way}
use Rattle.retry_laws.proofs.Paying.{unanswered-are_paid}
use Rattle.search_laws.proofs.Links.{links-take_requests}
use Rattle.search_laws.proofs.Tries.{tries-stay}
use Rattle.paying_laws.specs.Answered.{HasSearches, AnswersEach}
use Rattle.paying_laws.specs.Paid.{IsUnanswered, SearchesArePaid, SearchesStand, StandingSearchesArePaid}
use Rattle.paying_laws.specs.Runs.{PairsAnswer}
use Rattle.paying_laws.proofs.Pairs.{remembers, answers}
use Rattle.search_laws.specs.Searches.{IsSentAtMost, QuietIsPaid}

-- ---- a channel that has nothing to give

none_waits : (own : ℕ) (v : Channels) → list_any gives v.held ≡ false → IsBasic own v → HasStill own v → waits own v ≡ false
none_waits own v none basic (held, peer, setup, at, is) = ap (λ h. some_waits (open_carrier (setup_on h))) at ∙ (ap (λ stage. some_waits (open_carrier (setup_of stage))) is ∙ by setup.carrier refl (is_open setup) silent)
  where
    silent : some_carrier_gives setup.carrier peer ≡ None
    silent = sym (ap stage_gives is) ∙ not_some (stage_gives held.stage) (none_found gives v.held none own held at)

    by : (carrier : Option Carrier) → setup.carrier ≡ carrier → (opened : Bool) → some_carrier_gives setup.carrier peer ≡ None → some_waits (carrier_if opened setup) ≡ false
    by carrier same false now = refl
    by None same true now = ap some_waits same
    by (Some (Plain agreed None)) same true now = ap some_waits same
    by (Some (Plain agreed (Some sdu))) same true now = let never = sym (ap (λ c. some_carrier_gives c peer) same) ∙ now in absurd cc
    by (Some (Retransmitting machine)) same true now = let never : Enhanced ≡ Basic = basic held setup (Retransmitting machine) at (ap setup_of is) same in absurd cc

-- ---- the part that goes on

now_on : (spans : List Span) (now : List Occurrence) → get_or (map (λ (span : Span). span.list) spans ++ now ∷ []) (length spans) [] ≡ now
now_on spans now = sym (part-get (length spans) spans now) ∙ part-now spans now

-- ---- two hosts

share_paid : (near far : Policy) (turns : List Turn) (one other : List Occurrence) (channel : Channel) → Share near far turns channel one other → AreSilent (pair_of near far turns) → IsInAir near far turns [] [] → AnswersEach far other → count_come (mirrored channel) (turned (pair_of near far turns)) ≡ 0
    → count_taken near channel one ≤ disturbances (new_pair near far) turns
share_paid near far turns one other channel s silent air answers none =
    let pair = pair_of near far turns in
    let ends = ends_at near far turns channel s.read s.have (inl s.near_basic) turns [] (sym (append-nil turns)) in
    let come : count_come channel pair ≤ count_taken far (mirrored channel) other = subst (λ (r : Run). length (sdus_up channel.peer r.up) ≤ count_taken far (mirrored channel) other) (sym s.far_by.run_is) (answers channel.peer) in
    let paid = unanswered-are_paid near far turns channel one other s come none in
    let there : on_the_way channel pair ≡ 0 = both_none (of_endpoint channel.peer) refl pair.far.coming air.far_is (waits channel.own pair.near.run.value) (none_waits channel.own pair.near.run.value silent.near_none ends.near_basic s.near_still) in
    let back : on_the_way (mirrored channel) (turned pair) ≡ 0 = both_none (of_endpoint channel.own) refl pair.near.coming air.near_is (waits channel.peer pair.far.run.value) (none_waits channel.peer pair.far.run.value silent.far_none ends.far_basic s.far_still) in
    omega (arith, paid, there, back)
  where
    both_none : (of : List (List ℕ) → List (List ℕ)) → of [] ≡ [] → (coming : List (List ℕ)) → coming ≡ [] → (waits' : Bool) → waits' ≡ false → length (of coming) + one_if waits' ≡ 0
    both_none of empty coming is waits' not_one =
        let zero = ap (λ (l : List (List ℕ)). length (of l)) is ∙ ap (λ (l : List (List ℕ)). length l) empty in let never = ap one_if not_one in omega (arith, zero, never)

-- ---- a run

paid : (scenario : Scenario) (content : Option Contents) (capture : List Entry) (ran : Ran scenario content capture) (so : PairsAnswer both_ask scenario content capture ran) → (let pairs = so.cost.turns.pairs in let lives = pairs.a.fed.so.lives in
    let near = (client_profile scenario.settings).policy in let far = (server_profile scenario.settings content).policy in
    IsAtRest (client_of scenario) (server_of scenario content) ran.world → ran.world.radio.a.waiting ≡ [] → ran.world.radio.b.waiting ≡ [] → up_behind false lives.spans ≡ true → HasSearches (run_of far pairs.b.fed.so.lives.now)
    → (channel : Channel) → IsUnanswered near far (pairs.pairs (length lives.spans)).turns channel → count_taken near channel lives.now ≤ adverse_in (all_words ran.happenings))
paid scenario content capture ran so rests none_a none_b up alone channel u =
    let cost = so.cost.cost number in
    let most = share_paid near far link.turns lives.now far_lives.now channel share (so.silent rests) (record { near_is = (pairs.air rests).near_is ∙ none_b; far_is = (pairs.air rests).far_is ∙ none_a }) (so.answers rests up alone) u.none_came in
    omega (arith, cost, most)
  where
    A : Profile ClientProfile
    A = client_profile scenario.settings

    B : Profile ServerProfile
    B = server_profile scenario.settings content

    near : Policy
    near = (client_profile scenario.settings).policy

    far : Policy
    far = (server_profile scenario.settings content).policy

    pairs : ArePairs both_ask scenario content capture ran
    pairs = so.cost.turns.pairs

    lives : Lives (client_profile scenario.settings) (both_ask.clients scenario.settings) (flat_map talk_marks so.cost.turns.pairs.a.came.talk) ran.world.a.upper
    lives = so.cost.turns.pairs.a.fed.so.lives

    far_lives : Lives (server_profile scenario.settings content) (both_ask.servers scenario.settings content) (flat_map talk_marks so.cost.turns.pairs.b.came.talk) ran.world.b.upper
    far_lives = so.cost.turns.pairs.b.fed.so.lives

    number : ℕ
    number = length so.cost.turns.pairs.a.fed.so.lives.spans

    link : PairOnLink near far (happened_on A (both_ask.clients scenario.settings) sides.A capture ran.world.a.upper pairs.a number) (happened_on B (both_ask.servers scenario.settings content) sides.B capture ran.world.b.upper pairs.b number)
    link = so.cost.turns.pairs.pairs number

    near_now : happened_on A (both_ask.clients scenario.settings) sides.A capture ran.world.a.upper pairs.a number ≡ lives.now
    near_now = now_on lives.spans lives.now

    far_now : happened_on B (both_ask.servers scenario.settings content) sides.B capture ran.world.b.upper pairs.b number ≡ far_lives.now
    far_now = ap (λ n. happened_on B (both_ask.servers scenario.settings content) sides.B capture ran.world.b.upper pairs.b n) (sym (pairs.level rests)) ∙ now_on far_lives.spans far_lives.now

    near_utters : AreUttered near lives.now
    near_utters = subst (AreUttered near) near_now (at_place (AreUttered A.policy) tt (on_links A (both_ask.clients scenario.settings) (flat_map talk_marks pairs.a.came.talk) ran.world.a.upper lives) pairs.a.uttered number)

    far_utters : AreUttered far far_lives.now
    far_utters = subst (AreUttered far) far_now (at_place (AreUttered B.policy) tt (on_links B (both_ask.servers scenario.settings content) (flat_map talk_marks pairs.b.came.talk) ran.world.b.upper far_lives) pairs.b.uttered number)

    share : Share near far link.turns channel lives.now far_lives.now
    share = record {
      fair = link.fair;
      read = link.read;
      carried = pairs-are_carried both_ask scenario content capture ran pairs (record { clients = clients_within; servers = servers_within }) number;
      have = u.have;
      near_basic = ap (λ (n : ℕ). (near.wish n).mode) u.psm_is;
      far_basic = ap (λ (n : ℕ). (far.wish n).mode) u.psm_is;
      near_by = record { run_is = link.near_is ∙ ap (run_of near) near_now; uttered = near_utters };
      far_by = record { run_is = link.far_is ∙ ap (run_of far) far_now; uttered = far_utters };
      near_still = u.near_still;
      far_still = u.far_still;
    }

pub searches-are_paid : SearchesArePaid
searches-are_paid = record {
  answered = record { asks = both_ask; runs = λ scenario content capture ran happened. answers scenario content capture ran happened };
  paid = λ scenario content capture ran happened. paid scenario content capture ran (answers scenario content capture ran happened);
}

-- ---- the requests of its client

quiet_paid : (scenario : Scenario) (content : Option Contents) (happenings : List Happening) → SearchesStand both_ask scenario content → QuietIsPaid scenario content happenings
quiet_paid scenario content happenings stand done later world is there rest none_a none_b awaits = elim (cases_lt (adverse_in (all_words done)) scenario.settings.tries) [ inl few ↦ spent few | inr more ↦ many more ]
  where
    came : Happened scenario content done world
    came = runs-so (client_of scenario) (server_of scenario content) as_it_is remembers done (beginning scenario content) world there

    ran : Ran scenario content (all_entries done)
    ran = record { happenings = done; world = world; happened = came; ends = []; last = tt; capture_is = sym (append-nil (all_entries done)) }

    rests : IsAtRest (client_of scenario) (server_of scenario content) world
    rests = rest-so (client_of scenario) (server_of scenario content) as_it_is remembers world rest

    so : PairsAnswer both_ask scenario content (all_entries done) ran
    so = answers scenario content (all_entries done) ran there

    -- it has all its tries left then
    many : scenario.settings.tries ≤ adverse_in (all_words done) → IsSentAtMost (adverse_in (all_words done)) world.a.upper.profile.client
    many more = let same = tries-stay scenario content done world came in let most = more in omega (arith, same, most)

    spent : adverse_in (all_words done) < scenario.settings.tries → IsSentAtMost (adverse_in (all_words done)) world.a.upper.profile.client
    spent few =
        let up = so.linked awaits in
        let link = links-take_requests both_ask scenario content (all_entries done) ran so.cost.turns up in
        let stands = stand (all_entries done) ran there rests none_a none_b awaits few so.cost.turns link in
        let taken = link.taken awaits in
        let all = stands.all in
        let most = paid scenario content (all_entries done) ran so rests none_a none_b up stands.alone stands.channel stands.unanswered in
        omega (arith, taken, all, most)

pub standing-searches_are_paid : StandingSearchesArePaid
standing-searches_are_paid = record { asks = both_ask; quiet = quiet_paid }
