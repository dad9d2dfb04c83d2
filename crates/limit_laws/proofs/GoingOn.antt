-- The channels of both hosts of a run go on while few words are adverse.
use Rattle.std.proofs.Common.{◌≡◌, ◌≤◌, ℕ, List, [], ◌∷◌, ◌++◌, true, refl, sym, ap, subst, arith}
use Rattle.std.specs.List.{AllByRecursion, flat_map}
use Rattle.pair_laws.specs.push_terms.specs.declared.word.Side.TheVariants as sides
use Rattle.pair_laws.specs.capture.specs.Histories.{EachAfter}
use Rattle.channel_laws.specs.channel_model.specs.declared.errand.Errand.TheVariants as errands
use Rattle.channel_laws.specs.channel_model.specs.Policies.{Policy}
use Rattle.channel_laws.specs.Adverse.{is_quiet}
use Rattle.channel_laws.specs.Belonging.{HasAsked}
use Rattle.channel_laws.specs.Pairs.{Pair, Happening, Acts, Side, Near, Far, Turn, new_pair, pair_of}
use Rattle.channel_laws.specs.Runs.{Occurrence, Run, Fires}
use Rattle.channel_laws.specs.Ends.{end_at}
use Rattle.channel_laws.specs.Tries.{copies}
use Rattle.channel_laws.specs.Singly.{GrantsAreSingle, NoneIsCalled}
use Rattle.staying_laws.specs.forgoing_laws.specs.disconnection_laws.specs.Waits.{GrantsApart}
use Rattle.staying_laws.specs.Stays.{FewTurnsEndNoneOfBoth}
use Rattle.pair_laws.specs.world_model.specs.Worlds.{all_words}
use Rattle.pair_laws.specs.host_model.specs.Clients.{client_profile}
use Rattle.pair_laws.specs.host_model.specs.Profiles.{Profile}
use Rattle.pair_laws.specs.host_model.specs.Servers.{ServerProfile, server_profile}
use Rattle.pair_laws.specs.host_laws.specs.InOrder.{may_ask}
use Rattle.pair_laws.specs.host_laws.specs.Keeping.{AsksForNothing, ServersAskForNothing}
use Rattle.pair_laws.specs.host_laws.specs.Lives.{on_links}
use Rattle.pair_laws.specs.host_laws.specs.OverLinks.{talk_marks}
use Rattle.pair_laws.specs.Costs.{adverse_in}
use Rattle.pair_laws.specs.OnLinks.{LivedOver, happened_on}
use Rattle.pair_laws.specs.Pairs.{PairOnLink}
use Rattle.recovered_laws.specs.Calm.{all_upsets}
use Rattle.pair_laws.specs.Within.{PairsAreCarried}
use Rattle.pair_laws.proofs.PlainPipes.{at_number}
use Rattle.pair_laws.proofs.Whole.{both_can}
use Rattle.asking_laws.specs.Rising.{IdentifiersRiseOnLinks}
use Rattle.asking_laws.specs.Singly.{EndsAreAskedSingly, OneCountsOnLinks}
use Rattle.timely_laws.specs.accepting_laws.specs.Accepted.{WishesMeet}
use Rattle.timely_laws.specs.Timely.{FewTurnsAnswerWell}
use Rattle.pair_laws.specs.Waits.{NoneWaitsAt}
use Rattle.asking_laws.specs.identifier_laws.proofs.Granting.{none-asked}
use Rattle.asking_laws.proofs.Asking.{none_for, heard-one_by_one}
use Rattle.limit_laws.specs.GoesOn.{LinksAreOrderly, FewWordsAnswerWell, FewWordsGoOn}
use Rattle.limit_laws.specs.Upsets.{UpsetsCostWords}
use Rattle.limit_laws.proofs.LeavingNone.{leaves_none}
use Rattle.limit_laws.proofs.Upsetting.{wishes-tries}

pub links-are_orderly : UpsetsCostWords → PairsAreCarried → ServersAskForNothing → NoneIsCalled → GrantsAreSingle → EndsAreAskedSingly → IdentifiersRiseOnLinks → LinksAreOrderly
links-are_orderly upsets carried nothing none single singly rises asks scenario content capture ran pairs within as_steps as_lends few number =
    record {
      fair = link.fair;
      read = link.read;
      room = pairs.room number;
      carried = carried asks scenario content capture ran pairs.turns.pairs within number;
      leaves = leaves_none (new_pair near far) [] link.turns (subst (AllByRecursion AsksForNothing) (sym link.far_list) asked);
      none_called = λ identifier psm own called. none-asked none far other (none_for other asked) identifier psm own (subst (λ (run : Run). HasAsked identifier psm own run.said) link.far_is called);
      apart = subst (λ (run : Run). GrantsApart run.said) (sym link.far_is) (λ identifier status own again later second peer granted too. single far other (may_ask scenario.settings.transport) (heard-one_by_one asks scenario content capture ran b number) identifier status own again later second peer granted too);
      ends = singly asks scenario content capture ran pairs.turns as_steps as_lends number;
      near_rise = rises asks scenario content capture ran pairs.turns as_steps as_lends Near number;
      far_rise = rises asks scenario content capture ran pairs.turns as_steps as_lends Far number;
      few_near = omega (arith, most, few);
      few_far = omega (arith, most, few);
      few_machines = λ psm. let tries = wishes-tries scenario.settings psm in omega (arith, tries, most, few);
    }
  where
    B : Profile ServerProfile
    B = server_profile scenario.settings content

    near : Policy
    near = (client_profile scenario.settings).policy

    far : Policy
    far = B.policy

    b : LivedOver B (asks.servers scenario.settings content) sides.B capture ran.world.b.upper
    b = pairs.turns.pairs.b

    other : List Occurrence
    other = happened_on B (asks.servers scenario.settings content) sides.B capture ran.world.b.upper b number

    link : PairOnLink near far (happened_on (client_profile scenario.settings) (asks.clients scenario.settings) sides.A capture ran.world.a.upper pairs.turns.pairs.a number) other
    link = pairs.turns.pairs.pairs number

    most : all_upsets (new_pair near far) link.turns ≤ adverse_in (all_words ran.happenings)
    most = upsets asks scenario content capture ran pairs number

    -- its profile asks for nothing
    asked : AllByRecursion AsksForNothing other
    asked =
        at_number (AllByRecursion AsksForNothing) tt (on_links B (asks.servers scenario.settings content) (flat_map talk_marks b.came.talk) ran.world.b.upper b.fed.so.lives)
        (nothing scenario.settings content (asks.servers scenario.settings content) (flat_map talk_marks b.came.talk) ran.world.b.upper b.fed.so.lives as_lends) number

-- when its timer fires no command of host a waits, and so no request for an end
pub none_in_quiet : (own : ℕ) (near far : Policy) (past turns : List Turn) → EachAfter (λ front turn. NoneWaitsAt turn.happening (end_at turn.side (pair_of near far front))) past turns
    → EachAfter (λ front turn. turn.side ≡ Near → turn.happening ≡ Acts Fires → is_quiet (pair_of near far front) ≡ true → copies (errands.Disconnection own) (pair_of near far front).near.run.value.queue ≡ 0) past turns
none_in_quiet own near far past [] none = tt
none_in_quiet own near far past (turn ∷ turns) (now, later) = (one, none_in_quiet own near far (past ++ turn ∷ []) turns later)
  where
    p : Pair
    p = pair_of near far past

    one : turn.side ≡ Near → turn.happening ≡ Acts Fires → is_quiet p ≡ true → copies (errands.Disconnection own) p.near.run.value.queue ≡ 0
    one side happening quiet =
        let here : NoneWaitsAt turn.happening p.near = subst (λ (s : Side). NoneWaitsAt turn.happening (end_at s p)) side now in
        ap (copies (errands.Disconnection own)) (subst (λ (h : Happening). NoneWaitsAt h p.near) happening here refl)

pub few-words_answer_well : LinksAreOrderly → OneCountsOnLinks → WishesMeet → FewTurnsAnswerWell → FewWordsAnswerWell
few-words_answer_well orderly counts meet answer asks scenario content capture ran pairs within as_steps as_lends few number =
    let near : Policy = (client_profile scenario.settings).policy in
    let far : Policy = (server_profile scenario.settings content).policy in
    let turns : List Turn = (pairs.turns.pairs.pairs number).turns in
    answer near far turns (meet scenario.settings) (orderly asks scenario content capture ran pairs within as_steps as_lends few number) (counts asks scenario content capture ran pairs.turns as_steps number).0
    (λ own. none_in_quiet own near far [] turns (pairs.none_waits number))

pub few-words_go_on : LinksAreOrderly → FewWordsAnswerWell → FewTurnsEndNoneOfBoth → FewWordsGoOn
few-words_go_on orderly well go asks scenario content capture ran pairs within as_steps as_lends few number =
    let near : Policy = (client_profile scenario.settings).policy in
    let far : Policy = (server_profile scenario.settings content).policy in
    let so = orderly asks scenario content capture ran pairs within as_steps as_lends few number in
    go near far (pairs.turns.pairs.pairs number).turns (both_can scenario.settings) so so.few_machines (well asks scenario content capture ran pairs within as_steps as_lends few number)
