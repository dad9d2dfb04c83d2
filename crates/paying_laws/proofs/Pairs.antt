-- Both hosts of a run whose inbox does not lack memory are pairs, and host b answers what it is asked at each rest.
use Rattle.std.proofs.Common.{◌≡◌, arith, ◌&&◌, ℕ, Bool, true, false, Option, List, [], ◌∷◌, ◌++◌, map, length, refl, sym, ap, ◌∙◌, append-nil}
use Rattle.pair_laws.specs.bt_base.specs.Objects.{Contents}
use Rattle.pair_laws.specs.push_script.specs.declared.scenario.Scenario.{Scenario}
use Rattle.pair_laws.specs.push_terms.specs.declared.word.Side.{Side}
use Rattle.pair_laws.specs.push_terms.specs.declared.word.Side.TheVariants as sides
use Rattle.pair_laws.specs.capture.specs.Entries.{Entry}
use Rattle.pair_laws.specs.capture.specs.Links.{linking}
use Rattle.pair_laws.specs.capture.specs.Moves.{moves}
use Rattle.pair_laws.specs.channel_model.specs.Value.{Channels, no_channels}
use Rattle.pair_laws.specs.channel_laws.specs.Runs.{Occurrence}
use Rattle.pair_laws.specs.world_model.specs.Carriages as carriages
use Rattle.pair_laws.specs.world_model.specs.Machines.{LinkEvent, Up, Down, News, Upper}
use Rattle.pair_laws.specs.world_model.specs.Worlds.{Happening as Done, IsAtRest, all_entries, all_words}
use Rattle.pair_laws.specs.host_model.specs.Circumstances.{Circumstance}
use Rattle.pair_laws.specs.host_model.specs.Clients.{ClientProfile, client_profile}
use Rattle.pair_laws.specs.host_model.specs.Hosts.{Host}
use Rattle.pair_laws.specs.host_model.specs.Profiles.{Profile}
use Rattle.pair_laws.specs.host_model.specs.Servers.{ServerProfile, server_profile}
use Rattle.pair_laws.specs.host_laws.specs.Asked.{up_behind}
use Rattle.pair_laws.specs.host_laws.specs.Calls.{Asks, values_after}
use Rattle.pair_laws.specs.host_laws.specs.Fed.{AreFed, behind_span}
use Rattle.pair_laws.specs.host_laws.specs.Feeds.{Feed}
use Rattle.pair_laws.specs.host_laws.specs.Lives.{Span}
use Rattle.pair_laws.specs.host_laws.specs.Woven.{Woven, turned}
use Rattle.pair_laws.specs.host_laws.proofs.Fitting.{AnyServer, IsLowClient}
use Rattle.pair_laws.specs.host_laws.proofs.OverLinks.{calmly_fed}
use Rattle.pair_laws.specs.scenario_laws.specs.Captures.{client_of, server_of, beginning, Ran}
use Rattle.pair_laws.specs.push_model.specs.Events.{armed}
use Rattle.pair_laws.specs.scenario_laws.proofs.Acting.{ActedSo, none_waits}
use Rattle.pair_laws.specs.scenario_laws.proofs.Both.{AreReady}
use Rattle.pair_laws.specs.scenario_laws.proofs.Coming.{ended_all}
use Rattle.pair_laws.specs.scenario_laws.proofs.Free.{free_where, rests_hold}
use Rattle.pair_laws.specs.scenario_laws.proofs.Freeing.{runs_are_free}
use Rattle.pair_laws.specs.scenario_laws.proofs.Fronts.{fits}
use Rattle.pair_laws.specs.scenario_laws.proofs.Gentle.{client-keeps, server-keeps}
use Rattle.pair_laws.specs.scenario_laws.proofs.Unlinked.{acts_off}
use Rattle.pair_laws.specs.scenario_laws.proofs.UnlinkedClients.{HasNoLink, clients_keep}
use Rattle.pair_laws.specs.scenario_laws.proofs.UnlinkedServers.{KnowsNone, servers_keep}
use Rattle.pair_laws.specs.turn_laws.proofs.Ordering.{at}
use Rattle.pair_laws.specs.turn_laws.proofs.Standing.{idle_linked}
use Rattle.pair_laws.specs.turn_laws.proofs.Recounting.{HoldsAtRests}
use Rattle.pair_laws.specs.Costs.{adverse_in}
use Rattle.pair_laws.specs.Enough.{remembered}
use Rattle.pair_laws.specs.Granted.{answered_by}
use Rattle.pair_laws.proofs.Answered.{runs-so, rest-so, rest-back, fits-so, rests-so as carriage_rest}
use Rattle.pair_laws.proofs.Awaiting.{HasNew, servers-await}
use Rattle.pair_laws.proofs.Carrying.{Wants, Always, StayOn, as_it_is, any_allowed, same_number, waits_none, rests-silent, all-sane}
use Rattle.pair_laws.proofs.Given.{Allows}
use Rattle.pair_laws.proofs.Hosting.{HostAt}
use Rattle.pair_laws.proofs.Meeting.{gentle_doings}
use Rattle.pair_laws.proofs.Numbered.{part_at}
use Rattle.pair_laws.proofs.Opened.{all-opened}
use Rattle.pair_laws.proofs.Pairing.{all_roomy, pair_of_two, lived, lived_at, came_by, came_talk, in_air, short_length, not_ahead}
use Rattle.pair_laws.proofs.Wording.{carried_worded}
use Rattle.request_laws.proofs.Summing.{both_ask}
use Rattle.paying_laws.specs.Runs.{PairsAnswer, SearchesAreAnswered}
use Rattle.search_laws.specs.Searches.{awaits_reply, HappenedWithMemory}
use Rattle.paying_laws.proofs.Acts.{moments-prompt}
use Rattle.paying_laws.proofs.Answering.{Prompt}
use Rattle.paying_laws.proofs.Memory.{moments-unfailed}
use Rattle.paying_laws.proofs.Weaving.{J, woven-answers}

abbrev pub remembers : News → List Circumstance → List Circumstance
remembers news answers = map remembered answers

remembers_allowed : Allows remembers Always
remembers_allowed = record { silent = λ feed silent. tt; given = λ news answers. tt; told = λ news answers. tt }

-- what its profile went through on the last link, where it is on one
record LastWoven (scenario : Scenario) (content : Option Contents) (asks : Asks (server_profile scenario.settings content)) (now : List Occurrence) (last : ServerProfile) : Type 0 where
  first : ServerProfile
  woven : Woven (server_profile scenario.settings content) asks now first last
  none : first.endpoints ≡ []

module _ (scenario : Scenario) (content : Option Contents) where
  abbrev A : Profile ClientProfile
  A = client_profile scenario.settings

  abbrev B : Profile ServerProfile
  B = server_profile scenario.settings content

  abbrev asks_a : Asks (client_profile scenario.settings)
  asks_a = both_ask.clients scenario.settings

  abbrev asks_b : Asks (server_profile scenario.settings content)
  asks_b = both_ask.servers scenario.settings content

  abbrev U : Upper (Host ClientProfile) Circumstance
  U = answered_by as_it_is (client_of scenario)

  abbrev V : Upper (Host ServerProfile) Circumstance
  V = answered_by remembers (server_of scenario content)

  last_woven : (spans : List Span) (now : List Occurrence) (feeds : List Feed) (first last : ServerProfile) → AreFed (server_profile scenario.settings content) asks_b spans now feeds first last → first.endpoints ≡ [] → LastWoven scenario content asks_b now last
  last_woven [] now feeds first last fed none = record { first = first; woven = fed.woven; none = none }
  last_woven (span ∷ spans) now feeds first last (here, later, is, rest) none =
      last_woven spans now later (behind_span B asks_b span first here) last rest (new here.circumstances span.event (values_after B.policy no_channels span.list) here.mid)
    where
      new : (g : List Circumstance) (event : LinkEvent) (v : Channels) (q : ServerProfile) → (turned (server_profile scenario.settings content) g event v q).endpoints ≡ []
      new g Up v q = refl
      new g (Down reason) v q = refl

  -- ---- at each rest

  -- nothing is asked of host a; host b did not fail, and answered
  abbrev Anything : List Occurrence → Type 0
  Anything list = Unit {0}

  abbrev J_b : List Occurrence → Type 0
  J_b list = J scenario.settings content list

  abbrev Any_a : Host ClientProfile → Type 0
  Any_a host = Unit {0}

  abbrev Well_b : Host ServerProfile → Type 0
  Well_b host = (host.profile.server.listener.service.failed ≡ false) × Prompt scenario.settings content host

  abbrev Ready : carriages.Carriage (Host ClientProfile) (Host ServerProfile) → Type 0
  Ready c = AreReady (client_of scenario) (server_of scenario content) (free_where A) (free_where B) c × StayOn Any_a Well_b c

  so_b : (f : carriages.End (Host ServerProfile)) (host : HostAt (server_profile scenario.settings content) asks_b Always Always J_b f) → f.linked ≡ true → Well_b f.upper → J_b host.so.lives.now
  so_b f host on (well, prompt) =
      let lives = host.so.lives in
      let last = last_woven lives.spans lives.now lives.feeds B.first f.upper.profile host.so.fed refl in
      woven-answers scenario.settings content lives.now last.first f.upper.profile last.woven last.none host.heard.1 well (λ alone. (prompt.1 well alone).1)

  -- while its client awaits a reply host a is on a link
  linked_a : (e : carriages.End (Host ClientProfile)) → ActedSo (client_of scenario) (free_where A) e.linked e.upper e.waiting e.talk → (host : HostAt (client_profile scenario.settings) asks_a (Wants A) Always Anything e) → awaits_reply e.upper.profile.client ≡ true
      → up_behind false host.so.lives.spans ≡ true
  linked_a e acted host awaits = by e.linked refl
    where
      left_true : (a b : Bool) → (a && b) ≡ true → a ≡ true
      left_true true b is = refl
      left_true false b is = cc

      by : (on : Bool) → e.linked ≡ on → up_behind false host.so.lives.spans ≡ true
      by true is = host.up_is ∙ is
      by false is =
          let over = acted.went.went.over in
          let off = acts_off A HasNoLink (clients_keep scenario.settings) over.acts false (client_of scenario).first acted.mid over.acting over.in_turn (λ down. record { channels_are = refl; profile_is = (clients_keep scenario.settings).first }) (acted.went.went.up_is ∙ is) in
          let same : e.upper ≡ acted.mid = none_waits (client_of scenario) acted.mid e.upper e.waiting (acted.down is) acted.says in
          let quiet = (clients_keep scenario.settings).quiet acted.mid.profile off.profile_is in
          let never : false ≡ true = sym (ap (λ (h : Host ClientProfile). armed h.profile.client) same ∙ quiet) ∙ left_true (armed e.upper.profile.client) _ awaits in cc

  rests_so : (happenings : List Done) → HoldsAtRests U V Ready happenings (beginning scenario content)
  rests_so happenings front mid talk_a talk_b is there rest =
      let came = runs-so (client_of scenario) (server_of scenario content) as_it_is remembers front (beginning scenario content) mid there in
      let rests = rest-so (client_of scenario) (server_of scenario content) as_it_is remembers mid rest in
      (rests_hold scenario content happenings (runs_are_free scenario content happenings) front mid talk_a talk_b is came rests, (λ on. tt, λ on. (moments-unfailed scenario content front mid there, moments-prompt scenario content front mid came)))

  pub answers : (capture : List Entry) (ran : Ran scenario content capture) → HappenedWithMemory scenario content ran.happenings ran.world → PairsAnswer both_ask scenario content capture ran
  unfolding lived calmly_fed
  answers capture ran happened =
      let past = all_entries ran.happenings in
      let worded = carried_worded U V Ready scenario.acl_length scenario.acl_count scenario.names ran.happenings ran.world (fits-so (client_of scenario) (server_of scenario content) as_it_is remembers scenario.acl_length (fits scenario content)) happened (rests_so ran.happenings) in
      let all = worded.carried in
      let c = at ran.world all.talk_a all.talk_b in
      let most = adverse_in (carriages.all_words all.doings) in
      let most_is : most ≡ adverse_in (all_words ran.happenings) = ap adverse_in worded.words_are in
      let sane = all-sane false A asks_a B asks_b IsLowClient HasNoLink AnyServer KnowsNone (client-keeps scenario.settings) (server-keeps scenario.settings content) (clients_keep scenario.settings) (servers_keep scenario.settings content)
      HasNew (servers-await scenario.settings content (client_of scenario)) (λ gifts p. refl) as_it_is Always any_allowed remembers Always remembers_allowed Anything J_b Any_a Well_b (λ e host on stays. tt) so_b scenario.acl_length scenario.names all.doings c all.of_script (gentle_doings false all.doings (λ on. cc)) all.so in
      let opened = all-opened U V scenario.names scenario.acl_length Ready all.doings c all.so in
      let same : (side : Side) → linking (moves side capture) ≡ linking (moves side past) = λ side. ap (λ (es : List Entry). linking (moves side es)) ran.capture_is ∙ ended_all side ran.world.pushes past ran.ends ran.last in
      let came_a = came_by A sides.A past capture c.a sane.acted.a.acted all.links_a (same sides.A) in
      let came_b = came_by B sides.B past capture c.b sane.acted.b.acted all.links_b (same sides.B) in
      let talk_a = came_talk A sides.A past capture c.a sane.acted.a.acted all.links_a (same sides.A) in
      let talk_b = came_talk B sides.B past capture c.b sane.acted.b.acted all.links_b (same sides.B) in
      let back : IsAtRest (client_of scenario) (server_of scenario content) ran.world → IsAtRest U V ran.world = rest-back (client_of scenario) (server_of scenario content) as_it_is remembers ran.world in
      let resting : IsAtRest (client_of scenario) (server_of scenario content) ran.world → carriages.IsAtRest (client_of scenario) (server_of scenario content) c = λ rests. carriage_rest (client_of scenario) (server_of scenario content) as_it_is remembers c (all.rests (back rests)) in
      record {
        cost = record {
          turns = record {
            pairs = record {
              a = lived A asks_a (Wants A) Always sides.A capture c.a sane.pairs.a came_a talk_a;
              b = lived B asks_b Always Always sides.B capture c.b sane.pairs.b came_b talk_b;
              pairs = λ number.
                  let a = sane.pairs.a.so.lives in
                  let b = sane.pairs.b.so.lives in
                  pair_of_two false most A.policy B.policy (part_at number a.spans a.now) (part_at number b.spans b.now) _ _ _ _ _ _ (lived_at A asks_a (Wants A) Always sides.A capture c.a sane.pairs.a came_a talk_a number) (lived_at B asks_b Always Always sides.B capture c.b sane.pairs.b came_b talk_b number)
                  (sane.pairs.links number).pair;
              level = λ rests. let rest = resting rests in sym (same_number false most A asks_a B asks_b as_it_is Always any_allowed remembers Always remembers_allowed Anything J_b c.a c.b sane.pairs rest.idle_a.none_owed rest.idle_b.none_owed);
              air = λ rests.
                  let rest = resting rests in
                  in_air false most A asks_a B asks_b as_it_is Always any_allowed remembers Always remembers_allowed c.a c.b sane.pairs rest.idle_a.none_owed rest.idle_b.none_owed rest.idle_a.none_comes rest.idle_b.none_comes
                  (waits_none A asks_a IsLowClient HasNoLink (client-keeps scenario.settings) (clients_keep scenario.settings) c.link c.a (record { sound = sane.both.a; acted = sane.acted.a; tame = sane.tame.a }) rest.idle_a)
                  (waits_none B asks_b AnyServer KnowsNone (server-keeps scenario.settings content) (servers_keep scenario.settings content) c.link c.b (record { sound = sane.both.b; acted = sane.acted.b; tame = sane.tame.b }) rest.idle_b);
            };
            asked = sane.pairs.a.asked;
            ahead = not_ahead (length sane.pairs.a.so.lives.spans) (length sane.pairs.b.so.lives.spans) (length c.a.owed) (length c.b.owed) sane.pairs.number sane.pairs.level_a sane.pairs.level_b (short_length c.a.owed sane.abreast.short);
            named = (opened.later, opened.names_are ∙ ap (λ (names : List (List ℕ)). names ++ opened.later) (sym sane.pairs.a.named));
          };
          cost = λ number. let spent = (sane.pairs.links number).pair.spent in omega (arith, spent, most_is);
          room = λ number. let pair = (sane.pairs.links number).pair in all_roomy A.policy B.policy pair.turns pair.goes;
          settled = λ number. (sane.pairs.links number).pair.settled;
          none_waits = λ number. (sane.pairs.links number).pair.none_waits;
        };
        linked = λ awaits. linked_a c.a sane.acted.a.acted sane.pairs.a awaits;
        silent = λ rests.
            rests-silent false A asks_a B asks_b IsLowClient HasNoLink AnyServer KnowsNone (client-keeps scenario.settings) (server-keeps scenario.settings content) (clients_keep scenario.settings) (servers_keep scenario.settings content)
            HasNew (servers-await scenario.settings content (client_of scenario)) (λ gifts p. refl) as_it_is Always any_allowed remembers Always remembers_allowed Anything J_b Any_a Well_b (λ e host on stays. tt) so_b most c (resting rests)
            (rests_so ran.happenings ran.happenings ran.world all.talk_a all.talk_b ([], sym (append-nil ran.happenings)) happened (back rests)) sane;
        answers = λ rests up.
            let ready = rests_so ran.happenings ran.happenings ran.world all.talk_a all.talk_b ([], sym (append-nil ran.happenings)) happened (back rests) in
            let rest = resting rests in
            let on : c.b.linked ≡ true =
            idle_linked (server_of scenario content) c.link c.b rest.idle_b sane.both.b ∙ (sym (idle_linked (client_of scenario) c.link c.a rest.idle_a sane.both.a) ∙ (sym sane.pairs.a.up_is ∙ up)) in
            so_b c.b sane.pairs.b on (ready.1.1 on);
      }

pub searches-are_answered : SearchesAreAnswered
searches-are_answered = record { asks = both_ask; runs = λ scenario content capture ran happened. answers scenario content capture ran happened }
