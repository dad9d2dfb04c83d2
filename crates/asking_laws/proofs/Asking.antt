-- The identifiers of both hosts of a run do not come round, and host a asks for one end at a time.
use Rattle.std.proofs.Common.{◌≡◌, ℕ, ◌+◌, ◌≤◌, List, [], ◌∷◌, ◌++◌, false, Option, Some, None, refl, sym, ap, subst, ◌∙◌, inl, arith}
use Rattle.std.specs.List.{AllByRecursion, AllZip, flat_map}
use Rattle.pair_laws.specs.bt_base.specs.declared.settings.Transport.{Transport}
use Rattle.pair_laws.specs.bt_base.specs.Objects.{Contents}
use Rattle.pair_laws.specs.push_script.specs.declared.scenario.Scenario.{Scenario}
use Rattle.pair_laws.specs.push_terms.specs.declared.word.Side.TheVariants as sides
use Rattle.pair_laws.specs.capture.specs.Entries.{Entry}
use Rattle.pair_laws.specs.capture.specs.Histories.{EachAfter}
use Rattle.pair_laws.specs.capture.specs.declared.flow.Flow.TheVariants.{Into}
use Rattle.pair_laws.specs.l2cap_signal.specs.Commands.{Command}
use Rattle.pair_laws.specs.link_talk.specs.declared.call.Call.{Call}
use Rattle.pair_laws.specs.channel_model.specs.declared.errand.Errand.TheVariants as errands
use Rattle.pair_laws.specs.channel_model.specs.Changing.{held_at}
use Rattle.pair_laws.specs.channel_model.specs.Giving.{disconnection_at, on_held, command_of}
use Rattle.pair_laws.specs.channel_model.specs.Policies.{Policy}
use Rattle.pair_laws.specs.channel_model.specs.Value.{Held, Channels}
use Rattle.channel_laws.specs.Connections.{requests_for}
use Rattle.channel_laws.specs.Ends.{end_at}
use Rattle.channel_laws.specs.Named.{HaveNames, RequestsHaveNames}
use Rattle.channel_laws.specs.Pairs.{Side, Near, Far, Turn, pair_after, pair_of}
use Rattle.channel_laws.specs.Runs.{Occurrence, Comes, Connects, AsksFeatures, Disconnects, Sends, Gives, Fires, Tells, Run, run_of}
use Rattle.channel_laws.specs.Singly.{calls_that_went, AreOneByOne}
use Rattle.channel_laws.proofs.NamedApart.{requests-more}
use Rattle.channel_laws.proofs.Singling.{calls-more}
use Rattle.identifier_laws.specs.disconnection_laws.specs.Met.{AsksSingly, AsksOn}
use Rattle.identifier_laws.specs.Granting.{TwoAreGranted}
use Rattle.identifier_laws.specs.Rising.{EndsAreAskedAnew, GrantersNeverFall}
use Rattle.pair_laws.specs.world_model.specs.Talks.{Talk}
use Rattle.pair_laws.specs.host_model.specs.Clients.{ClientProfile, client_profile}
use Rattle.pair_laws.specs.host_model.specs.Profiles.{Profile}
use Rattle.pair_laws.specs.host_model.specs.Servers.{ServerProfile, server_profile}
use Rattle.pair_laws.specs.host_laws.specs.Calls.{HostsAsk}
use Rattle.pair_laws.specs.host_laws.specs.ClientCalls.{AsksWell, ClientsAskInOrder}
use Rattle.pair_laws.specs.host_laws.specs.InOrder.{may_ask, AsksForOneObject}
use Rattle.pair_laws.specs.host_laws.specs.Keeping.{AsksForNothing, SendsAsItLends, ServersAskForNothing}
use Rattle.pair_laws.specs.host_laws.specs.Lives.{on_links}
use Rattle.pair_laws.specs.host_laws.specs.OverLinks.{parts, moved_in, talk_marks, IsTalkOf}
use Rattle.pair_laws.specs.host_laws.specs.Searching.{AsksAsItSteps}
use Rattle.pair_laws.specs.host_laws.specs.Woven.{TalksWoven}
use Rattle.pair_laws.specs.host_laws.proofs.OverLinks.{fed_woven}
use Rattle.pair_laws.specs.host_laws.proofs.Seeking.{calls-spoken, out-calls}
use Rattle.pair_laws.specs.scenario_laws.specs.Captures.{Ran}
use Rattle.pair_laws.specs.scenario_laws.proofs.Orderly.{parts-are_asked}
use Rattle.pair_laws.specs.InTurn.{PairsInTurn}
use Rattle.pair_laws.specs.OnLinks.{LivedOver, happened_on}
use Rattle.pair_laws.specs.Pairs.{PairOnLink}
use Rattle.pair_laws.proofs.PlainPipes.{at_number}
use Rattle.asking_laws.specs.Rising.{IdentifiersRiseOnLinks}
use Rattle.lateness_laws.specs.Once.{CountsOne}
use Rattle.asking_laws.specs.Singly.{HoldsOne, ClientsHoldOne, OneCountsOnLinks, EndsAreAskedSingly}
use Rattle.asking_laws.proofs.Fronts.{each-step, each-state}

-- ---- a host that asks for nothing makes no requests of its own accord

pub none_for : (list : List Occurrence) → AllByRecursion AsksForNothing list → requests_for list ≡ 0
none_for [] all = refl
none_for (Comes pdu ∷ list) all = let later = none_for list all.1 in omega (arith, later)
none_for (Connects psm ∷ list) all = absurd all.0
none_for (AsksFeatures ∷ list) all = absurd all.0
none_for (Disconnects own ∷ list) all = absurd all.0
none_for (Sends own sdu ∷ list) all = let later = none_for list all.1 in omega (arith, later)
none_for (Gives pdu ∷ list) all = let later = none_for list all.1 in omega (arith, later)
none_for (Fires ∷ list) all = let later = none_for list all.1 in omega (arith, later)
none_for (Tells ∷ list) all = let later = none_for list all.1 in omega (arith, later)

-- ---- a host hears one request for a channel after the other

part_heard : (transport : Transport) (policy : Policy) (list : List Occurrence) (part : List Talk) → IsTalkOf policy list part → AsksForOneObject transport (moved_in part) → AreOneByOne (may_ask transport) (calls_that_went Into (run_of policy list).said)
part_heard transport policy list part is sought =
    subst (AreOneByOne (may_ask transport))
    (sym (sym (calls-spoken Into (run_of policy list).said) ∙ (ap (calls_that_went Into) is.talk_is ∙ (calls-more Into (moved_in part) is.waits ∙ ap (λ (l : List Call). l ++ calls_that_went Into (moved_in part)) (out-calls is.waits is.go_out))))) sought

parts_heard : (transport : Transport) (policy : Policy) (lists : List (List Occurrence)) (talks : List (List Talk)) → AllZip (IsTalkOf policy) lists talks → AllByRecursion (λ part. AsksForOneObject transport (moved_in part)) talks
    → AllByRecursion (λ list. AreOneByOne (may_ask transport) (calls_that_went Into (run_of policy list).said)) lists
parts_heard transport policy [] talks are sought = tt
parts_heard transport policy (list ∷ lists) [] are sought = absurd are
parts_heard transport policy (list ∷ lists) (part ∷ talks) are sought = (part_heard transport policy list part are.0 sought.0, parts_heard transport policy lists talks are.1 sought.1)

-- so host b does on each link
pub heard-one_by_one : (asks : HostsAsk) (scenario : Scenario) (content : Option Contents) (capture : List Entry) (ran : Ran scenario content capture) (b : LivedOver (server_profile scenario.settings content) (asks.servers scenario.settings content) sides.B capture ran.world.b.upper) (number : ℕ)
    → AreOneByOne (may_ask scenario.settings.transport) (calls_that_went Into (run_of (server_profile scenario.settings content).policy (happened_on (server_profile scenario.settings content) (asks.servers scenario.settings content) sides.B capture ran.world.b.upper b number)).said)
heard-one_by_one asks scenario content capture ran b =
    let B : Profile ServerProfile = server_profile scenario.settings content in
    let lists = on_links B (asks.servers scenario.settings content) (flat_map talk_marks b.came.talk) ran.world.b.upper b.fed.so.lives in
    at_number (λ (list : List Occurrence). AreOneByOne (may_ask scenario.settings.transport) (calls_that_went Into (run_of B.policy list).said)) tt lists
    (parts_heard scenario.settings.transport B.policy lists (parts b.came.talk) b.fed.so.talks_are (parts-are_asked scenario content capture ran (parts b.came.talk) b.came.fall))

-- ---- one request for an end at a time

own_end : (v : Channels) (own : ℕ) (command : Command) → command_of (errands.Disconnection own) v ≡ Some command → (held : Held) × (held_at own v ≡ Some held)
own_end v own command = by (held_at own v) refl
  where
    by : (found : Option Held) → held_at own v ≡ found → on_held (λ h. disconnection_at h.stage h) found ≡ Some command → (held : Held) × (held_at own v ≡ Some held)
    by None at is = cc
    by (Some held) at is = (held, at)

asks_singly : (v : Channels) → HaveNames v → CountsOne v → AsksSingly v
asks_singly v names one = record { names = names; single = λ own other first second is also. let (held, at) = own_end v own first is in let (again, there) = own_end v other second also in one own other held again at there }

same_on : (v : Channels) → AsksOn v v
same_on v = record { rises = omega arith; anew = λ own command is. inl is }

-- ---- at each moment

each_names : RequestsHaveNames → (policy : Policy) → ((psm : ℕ) → policy.offers psm ≡ false) → (past list : List Occurrence) → requests_for list + requests_for past ≤ 254
    → EachAfter (λ front one. HaveNames (run_of policy front).value) past list
each_names names policy none past [] few = tt
each_names names policy none past (one ∷ list) few = let whole = requests-more past one in (names policy past none (omega (arith, few)), each_names names policy none (past ++ one ∷ []) list (omega (arith, few, whole)))

each_both : (near far : Policy) (past turns : List Turn) → EachAfter (λ p turn. HaveNames (pair_of near far p).near.run.value) past turns → EachAfter (λ p turn. CountsOne (pair_of near far p).near.run.value) past turns
    → EachAfter (λ p turn. AsksOn (pair_of near far p).near.run.value (pair_after (pair_of near far p) turn).near.run.value) past turns
    → EachAfter (λ p turn. AsksSingly (pair_of near far p).near.run.value × AsksOn (pair_of near far p).near.run.value (pair_after (pair_of near far p) turn).near.run.value) past turns
each_both near far past [] names one on = tt
each_both near far past (turn ∷ turns) names one on = ((asks_singly (pair_of near far past).near.run.value names.0 one.0, on.0), each_both near far (past ++ turn ∷ []) turns names.1 one.1 on.1)

each_rises : (near far : Policy) (past turns : List Turn) → EachAfter (λ p turn. AsksOn (pair_of near far p).near.run.value (pair_after (pair_of near far p) turn).near.run.value) past turns
    → EachAfter (λ p turn. (pair_of near far p).near.run.value.identifier ≤ (pair_after (pair_of near far p) turn).near.run.value.identifier) past turns
each_rises near far past [] on = tt
each_rises near far past (turn ∷ turns) on = (on.0.rises, each_rises near far (past ++ turn ∷ []) turns on.1)

-- ---- host a counts one

pub one-counts_on_links : ClientsHoldOne → OneCountsOnLinks
one-counts_on_links holds asks scenario content capture ran turns as_steps number = (
  each-state near far Near (λ (run : Run). CountsOne run.value) [] link.turns [] refl (subst (λ l. EachAfter (λ front more. CountsOne (run_of near front).value) [] l × CountsOne (run_of near l).value) (sym link.near_list) now),
  subst (λ (run : Run). CountsOne run.value) (sym link.near_is) now.1,
)
  where
    A : Profile ClientProfile
    A = client_profile scenario.settings

    near : Policy
    near = (client_profile scenario.settings).policy

    far : Policy
    far = (server_profile scenario.settings content).policy

    a : LivedOver (client_profile scenario.settings) (asks.clients scenario.settings) sides.A capture ran.world.a.upper
    a = turns.pairs.a

    list : List Occurrence
    list = happened_on (client_profile scenario.settings) (asks.clients scenario.settings) sides.A capture ran.world.a.upper turns.pairs.a number

    link : PairOnLink (client_profile scenario.settings).policy (server_profile scenario.settings content).policy list (happened_on (server_profile scenario.settings content) (asks.servers scenario.settings content) sides.B capture ran.world.b.upper turns.pairs.b number)
    link = turns.pairs.pairs number

    woven : TalksWoven A (asks.clients scenario.settings) a.came.talk ran.world.a.upper
    woven = record { so = a.fed.so; woven = fed_woven A (asks.clients scenario.settings) a.fed.so.lives.spans a.fed.so.lives.now a.fed.so.lives.feeds A.first ran.world.a.upper.profile a.fed.fed }

    now : HoldsOne scenario.settings list
    now =
        at_number (HoldsOne scenario.settings) (tt, λ own other held also found again. cc) (on_links A (asks.clients scenario.settings) (flat_map talk_marks a.came.talk) ran.world.a.upper a.fed.so.lives)
        (holds scenario.settings (asks.clients scenario.settings) a.came.talk ran.world.a.upper as_steps woven) number

-- ---- both hosts of a run

module _ (in_order : ClientsAskInOrder) (nothing : ServersAskForNothing) (anew : EndsAreAskedAnew) (asks : HostsAsk) (scenario : Scenario) (content : Option Contents) (capture : List Entry) (ran : Ran scenario content capture) (turns : PairsInTurn asks scenario content capture ran)
    (as_steps : AsksAsItSteps scenario.settings (asks.clients scenario.settings)) (as_lends : SendsAsItLends scenario.settings content (asks.servers scenario.settings content)) where
  abbrev A : Profile ClientProfile
  A = client_profile scenario.settings

  abbrev B : Profile ServerProfile
  B = server_profile scenario.settings content

  abbrev near : Policy
  near = (client_profile scenario.settings).policy

  abbrev far : Policy
  far = (server_profile scenario.settings content).policy

  abbrev a : LivedOver (client_profile scenario.settings) (asks.clients scenario.settings) sides.A capture ran.world.a.upper
  a = turns.pairs.a

  abbrev b : LivedOver (server_profile scenario.settings content) (asks.servers scenario.settings content) sides.B capture ran.world.b.upper
  b = turns.pairs.b

  abbrev one : ℕ → List Occurrence
  one number = happened_on (client_profile scenario.settings) (asks.clients scenario.settings) sides.A capture ran.world.a.upper turns.pairs.a number

  abbrev other : ℕ → List Occurrence
  other number = happened_on (server_profile scenario.settings content) (asks.servers scenario.settings content) sides.B capture ran.world.b.upper turns.pairs.b number

  abbrev link : (number : ℕ) → PairOnLink (client_profile scenario.settings).policy (server_profile scenario.settings content).policy (one number) (other number)
  link number = turns.pairs.pairs number

  abbrev woven : TalksWoven A (asks.clients scenario.settings) a.came.talk ran.world.a.upper
  woven = record { so = a.fed.so; woven = fed_woven A (asks.clients scenario.settings) a.fed.so.lives.spans a.fed.so.lives.now a.fed.so.lives.feeds A.first ran.world.a.upper.profile a.fed.fed }

  -- what host a asks for on a link
  well : (number : ℕ) → AsksWell scenario.settings (one number)
  well number =
      at_number (AsksWell scenario.settings) (tt, omega arith) (on_links A (asks.clients scenario.settings) (flat_map talk_marks a.came.talk) ran.world.a.upper a.fed.so.lives)
      (in_order scenario.settings (asks.clients scenario.settings) a.came.talk ran.world.a.upper as_steps woven) number

  -- and host b
  quiet : (number : ℕ) → requests_for (other number) ≡ 0
  quiet number =
      none_for (other number)
      (at_number (AllByRecursion AsksForNothing) tt (on_links B (asks.servers scenario.settings content) (flat_map talk_marks b.came.talk) ran.world.b.upper b.fed.so.lives)
      (nothing scenario.settings content (asks.servers scenario.settings content) (flat_map talk_marks b.came.talk) ran.world.b.upper b.fed.so.lives as_lends) number)

  asks_on : (number : ℕ) → EachAfter (λ p turn. AsksOn (pair_of near far p).near.run.value (pair_after (pair_of near far p) turn).near.run.value) [] (link number).turns
  asks_on number =
      each-step near far Near (λ (before after : Run). AsksOn before.value after.value) (λ run. same_on run.value) [] (link number).turns [] refl
      (subst (EachAfter (λ front more. AsksOn (run_of near front).value (run_of near (front ++ more ∷ [])).value) []) (sym (link number).near_list) (anew near (one number) (λ psm. refl) (let few = (well number).1 in omega (arith, few))))

  -- ---- identifiers

  rises : TwoAreGranted → GrantersNeverFall → (side : Side) (number : ℕ) → EachAfter (λ p turn. (end_at side (pair_of near far p)).run.value.identifier ≤ (end_at side (pair_after (pair_of near far p) turn)).run.value.identifier) [] (link number).turns
  rises two never Near number = each_rises near far [] (link number).turns (asks_on number)
  rises two never Far number =
      let few = (well number).1 in
      let low = two near far (link number).turns (one number) (other number) (may_ask scenario.settings.transport) (link number).read (link number).near_is (link number).far_is (λ psm. refl) (omega (arith, few)) (quiet number) (heard-one_by_one asks scenario content capture ran turns.pairs.b number) in
      each-step near far Far (λ (before after : Run). before.value.identifier ≤ after.value.identifier) (λ run. omega arith) [] (link number).turns [] refl
      (subst (EachAfter (λ front more. (run_of far front).value.identifier ≤ (run_of far (front ++ more ∷ [])).value.identifier) []) (sym (link number).far_list) (never far (other number) (quiet number) (omega (arith, low))))

  -- ---- ends

  names_at : RequestsHaveNames → (number : ℕ) → EachAfter (λ p turn. HaveNames (pair_of near far p).near.run.value) [] (link number).turns
  names_at names number =
      let few = (well number).1 in
      each-state near far Near (λ (run : Run). HaveNames run.value) [] (link number).turns [] refl
      (subst (λ l. EachAfter (λ front more. HaveNames (run_of near front).value) [] l × HaveNames (run_of near l).value) (sym (link number).near_list) (each_names names near (λ psm. refl) [] (one number) (omega (arith, few)), names near (one number) (λ psm. refl) (omega (arith, few))))

pub identifiers-rise_on_links : ClientsAskInOrder → ServersAskForNothing → EndsAreAskedAnew → TwoAreGranted → GrantersNeverFall → IdentifiersRiseOnLinks
identifiers-rise_on_links in_order nothing anew two never asks scenario content capture ran turns as_steps as_lends side number = rises in_order nothing anew asks scenario content capture ran turns as_steps as_lends two never side number

pub ends-are_asked_singly : ClientsAskInOrder → ServersAskForNothing → EndsAreAskedAnew → RequestsHaveNames → OneCountsOnLinks → EndsAreAskedSingly
ends-are_asked_singly in_order nothing anew names counts asks scenario content capture ran turns as_steps as_lends number =
    each_both (client_profile scenario.settings).policy (server_profile scenario.settings content).policy [] (turns.pairs.pairs number).turns
    (names_at in_order nothing anew asks scenario content capture ran turns as_steps as_lends names number) (counts asks scenario content capture ran turns as_steps number).0 (asks_on in_order nothing anew asks scenario content capture ran turns as_steps as_lends number)
