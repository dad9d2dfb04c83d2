-- A server with a tape and host a's client are pairs on their links, and without the tape they are the same pairs.
use Rattle.std.proofs.Common.{◌≡◌, ◌≤◌, ◌+◌, ℕ, Bool, true, false, Option, List, [], ◌++◌, length, refl, sym, ap, subst, ◌∙◌}
use Rattle.std.specs.Prelude.{get_or}
use Rattle.std.specs.List.{AllByRecursion}
use Rattle.inbox_laws.specs.bt_base.specs.Objects.{Contents}
use Rattle.inbox_laws.specs.push_script.specs.declared.scenario.Scenario.{Scenario}
use Rattle.inbox_laws.specs.push_terms.specs.declared.word.Side.{Side}
use Rattle.inbox_laws.specs.push_terms.specs.declared.word.Side.TheVariants as sides
use Rattle.inbox_laws.specs.capture.specs.Entries.{Entry}
use Rattle.inbox_laws.specs.capture.specs.Links.{linking}
use Rattle.inbox_laws.specs.capture.specs.Moves.{moves}
use Rattle.inbox_laws.specs.world_model.specs.radio_model.specs.Controllers.{Answer}
use Rattle.inbox_laws.specs.air_laws.specs.AirLaws.{IsLastEnd}
use Rattle.inbox_laws.specs.channel_laws.specs.Frames.{AreUttered}
use Rattle.inbox_laws.specs.channel_laws.specs.Runs.{Occurrence}
use Rattle.inbox_laws.specs.world_model.specs.Carriages as carriages
use Rattle.inbox_laws.specs.world_model.specs.Machines.{News, Upper}
use Rattle.inbox_laws.specs.world_model.specs.Worlds.{Happening, Runs, IsAtRest, all_entries, all_words}
use Rattle.inbox_laws.specs.turn_laws.specs.WorldLaws.{Fits}
use Rattle.inbox_laws.specs.turn_laws.proofs.Leading.{tidings, events}
use Rattle.inbox_laws.specs.turn_laws.proofs.Ordering.{at}
use Rattle.inbox_laws.specs.turn_laws.proofs.Recounting.{HoldsAtRests}
use Rattle.inbox_laws.specs.host_model.specs.Circumstances.{Circumstance}
use Rattle.inbox_laws.specs.host_model.specs.Clients.{ClientProfile, client_profile}
use Rattle.inbox_laws.specs.host_model.specs.Hosts.{Host}
use Rattle.inbox_laws.specs.host_model.specs.Profiles.{Profile}
use Rattle.inbox_laws.specs.host_model.specs.Servers.{ServerProfile, server_profile}
use Rattle.inbox_laws.specs.host_laws.specs.Calls.{Asks, HostsAsk}
use Rattle.inbox_laws.specs.host_laws.specs.Calm.{HoldsNothingBack}
use Rattle.inbox_laws.specs.host_laws.specs.Read.{IsSoberPdu}
use Rattle.inbox_laws.specs.host_laws.specs.Feeds.{Feed}
use Rattle.inbox_laws.specs.host_laws.specs.Openings.{names_told}
use Rattle.inbox_laws.specs.host_laws.proofs.Fitting.{AnyServer, IsLowClient, IsProper}
use Rattle.inbox_laws.specs.host_laws.proofs.OverLinks.{calmly_fed}
use Rattle.inbox_laws.specs.scenario_laws.specs.Captures.{client_of, server_of, BothHosts, Happened, Ran}
use Rattle.inbox_laws.specs.scenario_laws.proofs.Both.{AreReady}
use Rattle.inbox_laws.specs.scenario_laws.proofs.Coming.{ended_all}
use Rattle.inbox_laws.specs.scenario_laws.proofs.Free.{free_where, rests_hold}
use Rattle.inbox_laws.specs.scenario_laws.proofs.Freeing.{runs_are_free}
use Rattle.inbox_laws.specs.scenario_laws.proofs.Fronts.{fits}
use Rattle.inbox_laws.specs.scenario_laws.proofs.Gentle.{client-keeps, server-keeps}
use Rattle.inbox_laws.specs.scenario_laws.proofs.UnlinkedClients.{HasNoLink, clients_keep}
use Rattle.inbox_laws.specs.scenario_laws.proofs.UnlinkedServers.{KnowsNone, servers_keep}
use Rattle.inbox_laws.specs.pair_laws.specs.Costs.{adverse_in}
use Rattle.inbox_laws.specs.pair_laws.specs.Granted.{answered_by}
use Rattle.inbox_laws.specs.pair_laws.specs.InTurn.{PairsInTurn}
use Rattle.inbox_laws.specs.pair_laws.specs.Keeping.{LosesNothing}
use Rattle.inbox_laws.specs.pair_laws.specs.OnLinks.{LivedOver, happened_on, last_number}
use Rattle.inbox_laws.specs.pair_laws.proofs.Answered.{runs-so, rest-so, rest-back, fits-so, rests-so as carriage_rest}
use Rattle.inbox_laws.specs.pair_laws.proofs.Awaiting.{HasNew, servers-await}
use Rattle.inbox_laws.specs.pair_laws.proofs.Carrying.{Wants, Always, StayOn, as_it_is, any_allowed, same_number, waits_none, all-sane}
use Rattle.inbox_laws.specs.pair_laws.proofs.Facing.{AllKept}
use Rattle.inbox_laws.specs.pair_laws.proofs.Given.{Allows}
use Rattle.inbox_laws.specs.pair_laws.proofs.Meeting.{gentle_doings}
use Rattle.inbox_laws.specs.pair_laws.proofs.Numbered.{part_at, coming_at}
use Rattle.inbox_laws.specs.pair_laws.proofs.Opened.{all-opened}
use Rattle.inbox_laws.specs.pair_laws.proofs.Pairing.{pair_of_two, lived, lived_at, came_by, came_talk, in_air, short_length, not_ahead}
use Rattle.inbox_laws.specs.pair_laws.proofs.Wording.{carried_worded}
use Rattle.tape_laws.specs.Pairs.{TapedHosts, taped_of, taped_beginning, AreOfTape, TapedTakeTurns}
use Rattle.tape_laws.specs.Runs.{HearsNewsAlone, untaped_world}
use Rattle.tape_laws.specs.Taped.{Tape, Taped, taped, taped_asks, untaped_host, untaped, IsUntaped}
use Rattle.tape_laws.proofs.Beginning.{past_fed, begins_given}
use Rattle.tape_laws.proofs.Falling.{IsCaptured, same_captured}
use Rattle.tape_laws.proofs.Fitting.{Within, Bare, taped_fits, taped_keeps, taped_frames, taped_awaits, bare_rest, taped_rest}
use Rattle.tape_laws.proofs.Hearing.{next_so, untaped_said, taped_runs_are_runs}
use Rattle.tape_laws.proofs.Once.{servers_hear_news_alone}
use Rattle.tape_laws.proofs.Talking.{taped_hosts_come_so}
use Rattle.tape_laws.proofs.Untaping.{taped_hosts_talk_so, taped_spans}

-- ---- a host

-- without the tape it lived over the same links
module _ {P T : Type 0} (A : Profile P) (tape : Tape P T) (alone : HearsNewsAlone A) (asks : Asks A) (side : Side) (capture : List Entry) (host : Host (Taped P T)) (lives : LivedOver (taped A tape) (taped_asks A tape asks) side capture host) where
  abbrev bare : IsUntaped A tape asks lives.came.talk host lives.fed
  bare = taped_hosts_talk_so A tape asks lives.came.talk host lives.fed

  unfoldable bare_lived : LivedOver A asks side capture (untaped_host host)
  bare_lived = record {
    came = record { talk = lives.came.talk; over = taped_hosts_come_so A tape alone lives.came.talk host lives.came.over; fall = lives.came.fall; last = lives.came.last };
    fed = bare.fed;
    uttered = subst (AllByRecursion (AreUttered A.policy)) (sym bare.lists_are) lives.uttered;
  }

  bare_at : (number : ℕ) → happened_on (taped A tape) (taped_asks A tape asks) side capture host lives number ≡ happened_on A asks side capture (untaped_host host) bare_lived number
  unfolding bare_lived
  bare_at number = ap (λ (l : List (List Occurrence)). get_or l number []) (sym bare.lists_are)

  bare_number : last_number (taped A tape) (taped_asks A tape asks) side capture host lives ≡ last_number A asks side capture (untaped_host host) bare_lived
  unfolding bare_lived
  bare_number = ap length (sym (taped_spans A tape asks lives.came.talk host lives.fed))

  bare_feeds : bare_lived.fed.so.lives.feeds ≡ untaped A tape (taped A tape).first lives.fed.so.lives.feeds
  unfolding bare_lived
  bare_feeds = bare.feeds_are

-- ---- both

module _ {T : Type 0} (whole : Bool) (asks : HostsAsk) (scenario : Scenario) (content : Option Contents) (tape : Tape ServerProfile T) (to_a : News → List Circumstance → List Circumstance) (E : Feed → Type 0) (allows_a : Allows to_a E) where
  abbrev A : Profile ClientProfile
  A = client_profile scenario.settings

  abbrev S : Profile ServerProfile
  S = server_profile scenario.settings content

  abbrev B : Profile (Taped ServerProfile T)
  B = taped S tape

  abbrev asks_a : Asks A
  asks_a = asks.clients scenario.settings

  abbrev asks_s : Asks S
  asks_s = asks.servers scenario.settings content

  abbrev asks_b : Asks B
  asks_b = taped_asks S tape asks_s

  abbrev U : Upper (Host ClientProfile) Circumstance
  U = answered_by to_a (client_of scenario)

  abbrev V : Upper (Host (Taped ServerProfile T)) Circumstance
  V = taped_of scenario content tape

  abbrev Ready : carriages.Carriage (Host ClientProfile) (Host (Taped ServerProfile T)) → Type 0
  Ready c = AreReady (client_of scenario) V (free_where A) (free_where B) c × StayOn Always Always c

  alone : HearsNewsAlone S
  alone = servers_hear_news_alone scenario.settings content

  taped_fit : Fits (client_of scenario) V scenario.acl_length
  taped_fit = let plain = fits scenario content in record { long = plain.long; frames_a = plain.frames_a; frames_b = taped_frames S tape plain.frames_b; idles = plain.idles }

  back_so : (now : Host (Taped ServerProfile T)) → HoldsNothingBack S (untaped_host now) → HoldsNothingBack B now
  back_so now back none = back (sym (next_so S tape now) ∙ ap (untaped_said S tape) none)

  rests_so : (happenings : List Happening) → HoldsAtRests U V Ready happenings (taped_beginning scenario content tape)
  rests_so happenings front mid talk_a talk_b is there rest =
      let begins = taped_beginning scenario content tape in
      let ran = taped_runs_are_runs (client_of scenario) S tape alone front begins mid (runs-so (client_of scenario) V to_a as_it_is front begins mid there) in
      let resting = bare_rest S tape (client_of scenario) alone mid (rest-so (client_of scenario) V to_a as_it_is mid rest) in
      let ready = rests_hold scenario content happenings (runs_are_free scenario content happenings) front (untaped_world mid) talk_a talk_b is ran resting in
      ((ready.0, λ on. (back_so mid.b.upper (ready.1 on).0, λ armed. let fires = (ready.1 on).1 armed in (back_so mid.b.upper fires.0, fires.1))), (λ on. tt, λ on. tt))

  pub record TurnsSo (capture : List Entry) (ran : Ran scenario content capture) (world : TapedHosts T) : Type 0 where
    pub turns : PairsInTurn asks scenario content capture ran
    pub told : AllByRecursion E turns.pairs.a.fed.so.lives.feeds
    pub given : AreOfTape scenario.settings content tape turns.pairs.b.fed.so.lives.feeds
    -- host b went through all that its host with the tape keeps
    pub past : turns.pairs.b.fed.so.lives.feeds ≡ untaped S tape B.first world.b.upper.profile.past
    -- host a was told to begin so many pushes
    pub begun : world.pushes.begun ≡ length (names_told turns.pairs.a.fed.so.lives.feeds)
    pub kept : (number : ℕ) → AllKept whole (turns.pairs.pairs number).turns
    -- where nothing is owed to either host both have been told as often that their link came up or went down
    pub level : ran.world.radio.a.owed ≡ [] → ran.world.radio.b.owed ≡ [] → length turns.pairs.a.fed.so.lives.spans ≡ length turns.pairs.b.fed.so.lives.spans
    pub captured_b : IsCaptured sides.B capture turns.pairs.b.came.talk

  -- of the run that it comes to
  module _ (capture : List Entry) (happenings : List Happening) (world : TapedHosts T) (happened : Happened scenario content happenings (untaped_world world)) (ends : List Entry) (last : IsLastEnd world.pushes ends) (capture_is : capture ≡ all_entries happenings ++ ends) where
    abbrev its_run : Ran scenario content capture
    its_run = record { happenings = happenings; world = untaped_world world; happened = happened; ends = ends; last = last; capture_is = capture_is }

    its_turns : Runs U V happenings (taped_beginning scenario content tape) world → (whole ≡ true → LosesNothing (all_words happenings)) → TurnsSo capture its_run world
    unfolding lived calmly_fed bare_lived
    its_turns taped_happened gentle =
        let past = all_entries happenings in
        let worded = carried_worded U V Ready scenario.acl_length scenario.acl_count scenario.names happenings world (fits-so (client_of scenario) V to_a as_it_is scenario.acl_length taped_fit) taped_happened (rests_so happenings) in
        let all = worded.carried in
        let c = at world all.talk_a all.talk_b in
        let most = adverse_in (carriages.all_words all.doings) in
        let keeps_b = taped_fits S tape IsSoberPdu (IsProper S.policy) AnyServer (server-keeps scenario.settings content) in
        let away_b = taped_keeps S tape KnowsNone (servers_keep scenario.settings content) in
        let sane = all-sane whole A asks_a B asks_b IsLowClient HasNoLink (Within S tape AnyServer) (Within S tape KnowsNone) (client-keeps scenario.settings) keeps_b (clients_keep scenario.settings) away_b
        (Bare S tape HasNew) (taped_awaits S tape (client_of scenario) HasNew alone (servers-await scenario.settings content (client_of scenario))) (λ gifts p. refl) to_a E allows_a as_it_is Always any_allowed Always Always Always Always (λ e host on stays. tt) (λ f host on stays. tt)
        scenario.acl_length scenario.names all.doings c all.of_script (gentle_doings whole all.doings (λ on. subst LosesNothing (sym worded.words_are) (gentle on))) all.so in
        let opened = all-opened U V scenario.names scenario.acl_length Ready all.doings c all.so in
        let same : (side : Side) → linking (moves side capture) ≡ linking (moves side past) = λ side. ap (λ (es : List Entry). linking (moves side es)) capture_is ∙ ended_all side world.pushes past ends last in
        let came_a = came_by A sides.A past capture c.a sane.acted.a.acted all.links_a (same sides.A) in
        let came_b = came_by B sides.B past capture c.b sane.acted.b.acted all.links_b (same sides.B) in
        let talk_a = came_talk A sides.A past capture c.a sane.acted.a.acted all.links_a (same sides.A) in
        let talk_b = came_talk B sides.B past capture c.b sane.acted.b.acted all.links_b (same sides.B) in
        let lived_a = lived A asks_a (Wants A) E sides.A capture c.a sane.pairs.a came_a talk_a in
        let lived_b = lived B asks_b Always Always sides.B capture c.b sane.pairs.b came_b talk_b in
        let now_b = bare_lived S tape alone asks_s sides.B capture c.b.upper lived_b in
        let number_b = bare_number S tape alone asks_s sides.B capture c.b.upper lived_b in
        let resting : IsAtRest (client_of scenario) (server_of scenario content) (untaped_world world) → carriages.IsAtRest (client_of scenario) V c = λ rests. carriage_rest (client_of scenario) V to_a as_it_is c (all.rests (rest-back (client_of scenario) V to_a as_it_is world (taped_rest S tape (client_of scenario) world rests))) in
        record {
          turns = record {
            pairs = record {
              a = lived_a;
              b = now_b;
              pairs = λ number.
                  let a = sane.pairs.a.so.lives in
                  let b = sane.pairs.b.so.lives in
                  let link = sane.pairs.links number in
                  pair_of_two whole most A.policy B.policy (part_at number a.spans a.now) (part_at number b.spans b.now) (happened_on A asks_a sides.A capture c.a.upper lived_a number) (happened_on S asks_s sides.B capture (untaped_host c.b.upper) now_b number)
                  (coming_at number (length a.spans) c.a.coming) link.rest (coming_at number (length b.spans) c.b.coming) link.far_rest (lived_at A asks_a (Wants A) E sides.A capture c.a sane.pairs.a came_a talk_a number)
                  (lived_at B asks_b Always Always sides.B capture c.b sane.pairs.b came_b talk_b number ∙ bare_at S tape alone asks_s sides.B capture c.b.upper lived_b number)
                  link.pair;
              level = λ rests. let rest = resting rests in sym number_b ∙ sym (same_number whole most A asks_a B asks_b to_a E allows_a as_it_is Always any_allowed Always Always c.a c.b sane.pairs rest.idle_a.none_owed rest.idle_b.none_owed);
              air = λ rests.
                  let rest = resting rests in
                  in_air whole most A asks_a B asks_b to_a E allows_a as_it_is Always any_allowed c.a c.b sane.pairs rest.idle_a.none_owed rest.idle_b.none_owed rest.idle_a.none_comes rest.idle_b.none_comes
                  (waits_none A asks_a IsLowClient HasNoLink (client-keeps scenario.settings) (clients_keep scenario.settings) c.link c.a (record { sound = sane.both.a; acted = sane.acted.a; tame = sane.tame.a }) rest.idle_a)
                  (waits_none B asks_b (Within S tape AnyServer) (Within S tape KnowsNone) keeps_b away_b c.link c.b (record { sound = sane.both.b; acted = sane.acted.b; tame = sane.tame.b }) rest.idle_b);
            };
            asked = sane.pairs.a.asked;
            ahead =
                let short = not_ahead (length sane.pairs.a.so.lives.spans) (length sane.pairs.b.so.lives.spans) (length c.a.owed) (length c.b.owed) sane.pairs.number sane.pairs.level_a sane.pairs.level_b (short_length c.a.owed sane.abreast.short) in
                subst (λ (n : ℕ). n ≤ length sane.pairs.a.so.lives.spans + 1) number_b short;
            named = (opened.later, opened.names_are ∙ ap (λ (names : List (List ℕ)). names ++ opened.later) (sym sane.pairs.a.named));
          };
          told = sane.pairs.a.given;
          given = (lived_b.fed.so.lives.feeds, begins_given S tape asks_s lived_b.came.talk c.b.upper lived_b.came.over lived_b.fed, bare_feeds S tape alone asks_s sides.B capture c.b.upper lived_b);
          past = bare_feeds S tape alone asks_s sides.B capture c.b.upper lived_b ∙ ap (untaped S tape B.first) (sym (past_fed S tape asks_s lived_b.came.talk c.b.upper lived_b.fed));
          begun = opened.begun ∙ ap length (sym sane.pairs.a.named);
          kept = λ number. (sane.pairs.links number).pair.kept;
          level = λ none_a none_b.
              same_number whole most A asks_a B asks_b to_a E allows_a as_it_is Always any_allowed Always Always c.a c.b sane.pairs (ap (λ (owed : List Answer). events (tidings owed)) none_a) (ap (λ (owed : List Answer). events (tidings owed)) none_b)
              ∙ number_b;
          captured_b = record {
            linked = c.b.linked;
            moved = c.b.talk;
            waiting = c.b.waiting;
            talk_is = talk_b;
            parted = sane.acted.b.acted.parted;
            links_are = all.links_b ∙ same_captured sides.B past capture (same sides.B);
            none_waits = sane.acted.b.acted.down;
          };
        }

  pub takes_turns : (capture : List Entry) (ran : Ran scenario content capture) (world : TapedHosts T) → Runs U V ran.happenings (taped_beginning scenario content tape) world → ran.world ≡ untaped_world world → (whole ≡ true → LosesNothing (all_words ran.happenings)) → TurnsSo capture ran world
  takes_turns capture ran world taped_happened is gentle =
      subst (λ (w : BothHosts). (happened : Happened scenario content ran.happenings w) (last : IsLastEnd w.pushes ran.ends) → TurnsSo capture (record { happenings = ran.happenings; world = w; happened = happened; ends = ran.ends; last = last; capture_is = ran.capture_is }) world)
      (sym is) (λ happened last. its_turns capture ran.happenings world happened ran.ends last ran.capture_is taped_happened gentle) ran.happened ran.last

pub taped_take_turns : {T : Type 0} (scenario : Scenario) (content : Option Contents) (tape : Tape ServerProfile T) → TapedTakeTurns scenario content tape
taped_take_turns scenario content tape asks capture ran world happened is =
    let so = takes_turns false asks scenario content tape as_it_is Always any_allowed capture ran world happened is (λ on. cc) in
    record { turns = so.turns; given = so.given }
