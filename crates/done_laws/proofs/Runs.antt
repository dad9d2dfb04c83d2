-- In each run over L2CAP the object of each push of host a that is done is stored.
use Rattle.std.proofs.Common.{arith, ◌≡◌, ◌-◌, true, ◌<◌, ◌^◌, ◌⊎◌, ℕ, Bool, false, List, [], ◌∷◌, ◌++◌, length, Option, Some, None, inl, inr, refl, sym, ap, subst, ◌∙◌, append-nil, append_assoc}
use Rattle.std.specs.Prelude.{slice_get}
use Rattle.std.specs.List.{AllByRecursion}
use Rattle.cause_laws.proofs.Clients.{is_unsaid}
use Rattle.tape_laws.specs.bt_base.specs.declared.settings.Transport.TheVariants.{L2cap}
use Rattle.std.proofs.lemmas.List.{length-append}
use Rattle.std.proofs.lemmas.Str.{IsUtf8-from_is_utf8}
use Rattle.std.specs.Option.{option_map}
use Rattle.tape_laws.specs.bt_base.specs.declared.settings.Settings.{Settings}
use Rattle.tape_laws.specs.bt_base.specs.Objects.{Object, octets_of}
use Rattle.tape_laws.specs.obex_session.specs.PutPackets.{units_in}
use Rattle.tape_laws.specs.obex_session.proofs.UnitLaws.{names-have_units}
use Rattle.tape_laws.specs.push_script.specs.Names.{IsName}
use Rattle.tape_laws.specs.push_terms.specs.declared.outcome.Outcome.{Outcome}
use Rattle.tape_laws.specs.push_terms.specs.declared.outcome.Outcome.TheVariants.{Done, ShelfFault}
use Rattle.tape_laws.specs.push_model.specs.Client.{Client, new_client}
use Rattle.tape_laws.specs.push_model.specs.Laws as deeds
use Rattle.tape_laws.specs.push_model.specs.Laws.{Deed}
use Rattle.tape_laws.specs.obex_session.specs.InboxCalls.{Answer}
use Rattle.tape_laws.specs.push_script.specs.declared.scenario.Scenario.{Scenario}
use Rattle.tape_laws.specs.push_terms.specs.declared.word.Side.TheVariants as sides
use Rattle.tape_laws.specs.capture.specs.Entries.{Entry}
use Rattle.tape_laws.specs.link_talk.specs.Captures.{objects_heard, talks}
use Rattle.tape_laws.specs.push_laws.specs.Faults.{spent_from}
use Rattle.tape_laws.specs.push_laws.specs.Gains.{objects}
use Rattle.tape_laws.specs.push_laws.specs.Laws.{new_over, stored_in}
use Rattle.tape_laws.specs.push_laws.specs.Occurrences.{Occurrence, all_done}
use Rattle.tape_laws.specs.push_laws.specs.Parties.{client_side, Push, IsOffered, begun_of, over_pushes, AllServeDirectly}
use Rattle.tape_laws.specs.push_laws.specs.OneName.{TellsEach}
use Rattle.tape_laws.specs.push_laws.specs.Premises.{NoneShort}
use Rattle.tape_laws.specs.push_laws.specs.Spelled.{AreAmong, IsOfShelfOrStill, name_by, name_of, names_of}
use Rattle.tape_laws.specs.push_laws.proofs.OnceDirect.{pushes-tell_each}
use Rattle.tape_laws.specs.push_laws.proofs.Among.{all_among, ahead_among, among_all, among_trans}
use Rattle.tape_laws.specs.world_model.specs.Pushes.{Pushes}
use Rattle.tape_laws.specs.world_model.specs.Machines.{Upper}
use Rattle.tape_laws.specs.world_model.specs.Worlds.{Happening, all_entries, Runs}
use Rattle.tape_laws.specs.air_laws.specs.AirLaws.{IsLastEnd}
use Rattle.tape_laws.specs.alike_laws.specs.Twins.{IsOther}
use Rattle.tape_laws.specs.host_model.specs.Clients.{ClientProfile, client_profile}
use Rattle.tape_laws.specs.host_model.specs.Circumstances.{Circumstance}
use Rattle.tape_laws.specs.host_model.specs.Hosts.{Host, first_host}
use Rattle.tape_laws.specs.host_model.specs.Profiles.{Profile}
use Rattle.tape_laws.specs.host_model.specs.Servers.{ServerProfile, server_profile}
use Rattle.tape_laws.specs.host_laws.specs.Openings.{names_told, names_begun}
use Rattle.tape_laws.specs.host_laws.specs.Feeds.{Feed, Gifts, Learns, Receives, Happens, Sent, Steps, all_fed}
use Rattle.tape_laws.specs.host_laws.specs.Pushing.{pushed_from}
use Rattle.tape_laws.specs.host_laws.specs.Serving.{served_from}
use Rattle.tape_laws.specs.host_laws.specs.ShelfAnswers.{AnswersOf}
use Rattle.tape_laws.specs.host_laws.proofs.Openings.{clients_begin_what_is_told}
use Rattle.tape_laws.specs.host_laws.proofs.ShelfAnswers.{clients_are_given_objects}
use Rattle.tape_laws.specs.scenario_laws.specs.Captures.{client_of, BothHosts, Happened, Ran}
use Rattle.tape_laws.specs.scenario_laws.specs.Gains.{holding}
use Rattle.tape_laws.specs.scenario_laws.specs.Parties.{party_of}
use Rattle.tape_laws.specs.shelf_model.specs.Held.{held_by, longest_octets}
use Rattle.tape_laws.specs.pair_laws.specs.InTurn.{PairsInTurn}
use Rattle.tape_laws.specs.pair_laws.specs.Served.{holding_on}
use Rattle.tape_laws.specs.pair_laws.proofs.Answered.{runs-so}
use Rattle.tape_laws.specs.pair_laws.proofs.Carrying.{as_it_is}
use Rattle.tape_laws.specs.pair_laws.proofs.Pairing.{answers_allowed}
use Rattle.tape_laws.specs.inbox_laws.proofs.Keeping.{KeepsSo}
use Rattle.tape_laws.specs.request_laws.specs.Losing.{served_in}
use Rattle.tape_laws.specs.request_laws.proofs.AllSizes.{RunOffered, run_offered}
use Rattle.tape_laws.specs.request_laws.proofs.Feeding.{all_ahead, all_both, served-both}
use Rattle.tape_laws.specs.request_laws.proofs.Heard.{Offered, all_offered}
use Rattle.tape_laws.specs.request_laws.proofs.Latest.{IsIdle, IsLast}
use Rattle.tape_laws.specs.request_laws.proofs.Lending.{serve_all}
use Rattle.tape_laws.specs.request_laws.proofs.Objects.{IsOfObject}
use Rattle.tape_laws.specs.request_laws.proofs.Sound.{GoesToObject, runs_sound, links_told}
use Rattle.tape_laws.specs.request_laws.proofs.Summing.{both_ask}
use Rattle.tape_laws.specs.request_laws.proofs.Told.{none_longer, all_answer}
use Rattle.tape_laws.specs.Once.{once, SpendsOnce}
use Rattle.tape_laws.specs.Own.{own_server}
use Rattle.tape_laws.specs.OwnPairs.{RanOwn, own_beginning, IsThereToo}
use Rattle.tape_laws.specs.Pairs.{TapedHosts, taped_of, taped_beginning}
use Rattle.tape_laws.specs.Runs.{untaped_world}
use Rattle.tape_laws.specs.Taped.{Taped, taped, untaped}
use Rattle.tape_laws.proofs.Falling.{IsCaptured}
use Rattle.tape_laws.proofs.Hearing.{taped_runs_are_runs}
use Rattle.tape_laws.proofs.Once.{servers_hear_news_alone, servers_spend_once}
use Rattle.tape_laws.proofs.Own.{own_servers_are_taped}
use Rattle.tape_laws.proofs.OwnPairs.{there_so}
use Rattle.tape_laws.proofs.Pairs.{TurnsSo, takes_turns}
use Rattle.tape_laws.proofs.Untaping.{both}
use Rattle.done_laws.specs.Kept.{IsDone, AreKept, KeepsDone, KeepsLast}
use Rattle.done_laws.specs.Runs.{EndsDone, IsDoneAt, KeepsPushes, OwnServersKeepDone}
use Rattle.done_laws.proofs.LastSpells.{SpellsLast, last_spells}
use Rattle.done_laws.proofs.Keeping.{runs_keep}
use Rattle.done_laws.proofs.Kept.{pushes-spell_each}
use Rattle.done_laws.proofs.Lasts.{done_is_last, done-pushes_are_kept}
use Rattle.done_laws.proofs.Names.{all_named, HasName, HasLast, has_last}
use Rattle.done_laws.proofs.Off.{CameTo, between_off, turned_off}

-- ---- of a shelf

abbrev HasUnits : List ℕ → Type 0
HasUnits name = AllByRecursion (λ unit. unit < 2 ^ 16) (units_in name)

have_units : (names : List (List ℕ)) → AllByRecursion IsName names → AllByRecursion HasUnits names
have_units [] all = tt
have_units (name ∷ names) all = (names-have_units name (IsUtf8-from_is_utf8 name all.0.text), have_units names all.1)

module _ (shelf : List Object) where
  found_in : (found : Option (List ℕ)) (size : ℕ) → option_map length found ≡ Some size → (octets : List ℕ) × (found ≡ Some octets) × (length octets ≡ size)
  found_in None size is = cc
  found_in (Some octets) size is = (octets, refl, cc)

  -- the object of a push whose name can be written in UTF-16
  one_of_shelf : (push : Push) (side : List Deed) → client_side push.moves ≡ side → AllByRecursion HasUnits (name_by side push.name) → IsOfObject (Some shelf) push → IsOfShelfOrStill shelf push
  one_of_shelf push side is units (inl still) = inl still
  one_of_shelf push [] is units (inr of) = inl is
  one_of_shelf push (deed ∷ side) is units (inr of) = let found = found_in (octets_of push.name shelf) push.size of.1 in inr (record { content_is = of.0; units = units.0; octets = found.0; there = found.1; long = found.2 })

  ahead_units : (xs ys : List (List ℕ)) → AllByRecursion HasUnits (xs ++ ys) → AllByRecursion HasUnits xs × AllByRecursion HasUnits ys
  ahead_units [] ys all = (tt, all)
  ahead_units (x ∷ xs) ys all = let rest = ahead_units xs ys all.1 in ((all.0, rest.0), rest.1)

  pushed_of_shelf : (most : ℕ) (pushes : List Push) (last : Push) → AllByRecursion (Offered (Some shelf) most) pushes → Offered (Some shelf) most last → AllByRecursion HasUnits (names_of (pushes ++ last ∷ [])) → AllByRecursion (IsOfShelfOrStill shelf) (pushes ++ last ∷ [])
  pushed_of_shelf most [] last all over units = (one_of_shelf last (client_side last.moves) refl (ahead_units (name_of last) [] units).0 over.2, tt)
  pushed_of_shelf most (push ∷ pushes) last all over units =
      let cut = ahead_units (name_of push) (names_of (pushes ++ last ∷ [])) units in
      (one_of_shelf push (client_side push.moves) refl cut.0 all.0.2, pushed_of_shelf most pushes last all.1 over cut.1)

-- ---- the last push

-- a new client is not done
ended : (name : List ℕ) (settings : Settings) (pushes : List Push) → AllByRecursion GoesToObject pushes → (CameTo Done name (new_client settings) × AllByRecursion IsIdle pushes) ⊎ IsLast (CameTo Done name) pushes → (ends : EndsDone pushes) × (ends.one.name ≡ name)
ended name settings pushes go (inl first) = absurd (let never : None ≡ Some Done = first.0.0 in cc)
ended name settings pushes go (inr last) =
    let there = (all_ahead GoesToObject last.ahead (last.one ∷ last.behind) (subst (AllByRecursion GoesToObject) last.is go)).1.0 in (
      record { ahead = last.ahead; one = last.one; behind = last.behind; pushes_are = last.is; done = record { cause = last.so.0; psm = there last.so.0 }; idle = last.idle },
      sym (all_named (client_side last.one.moves) (begun_of last.one)) ∙ last.so.1,
    )

-- what each of them is of the shelf, and where it goes
record BothSo (shelf : Option (List Object)) (most : ℕ) (pushes : List Push) : Type 0 where
  offered : AllByRecursion (Offered shelf most) pushes
  go : AllByRecursion GoesToObject pushes

both_so : (shelf : Option (List Object)) (most : ℕ) (pushes : List Push) → AllByRecursion (λ (push : Push). Offered shelf most push × GoesToObject push) pushes → BothSo shelf most pushes
both_so shelf most [] all = record { offered = tt; go = tt }
both_so shelf most (push ∷ pushes) all = let rest = both_so shelf most pushes all.1 in record { offered = (all.0.0, rest.offered); go = (all.0.1, rest.go) }

-- ---- the name of the last push

-- one that is done has a name
some_named : (ahead : List Push) (one : Push) (behind : List Push) → IsDone one → names_of (ahead ++ one ∷ behind) ≡ [] → ⊥
some_named (push ∷ ahead) one behind is none = some_named ahead one behind is (none_behind (name_of push) (names_of (ahead ++ one ∷ behind)) none)
  where
    none_behind : (xs ys : List (List ℕ)) → xs ++ ys ≡ [] → ys ≡ []
    none_behind [] ys none' = none'
    none_behind (x ∷ xs) ys none' = cc
some_named [] one behind is none = by (client_side one.moves) refl none
  where
    by : (side : List Deed) → client_side one.moves ≡ side → name_by side one.name ++ names_of behind ≡ [] → ⊥
    by [] still none' = let never : None ≡ Some Done = sym (ap (λ (side : List Deed). (deeds.all_done side (begun_of one)).cause) still) ∙ is.cause in cc
    by (deed ∷ side) works none' = cc

none_of : (some names : List (List ℕ)) → names ≡ [] → AreAmong some names → some ≡ []
none_of some names none among = subst (AreAmong some) none among

at_end : (ahead : List (List ℕ)) (name : List ℕ) (later : List (List ℕ)) → slice_get ((ahead ++ name ∷ []) ++ later) (length ahead) ≡ Some name
at_end [] name later = refl
at_end (first ∷ ahead) name later = at_end ahead name later

name_by_count : (names told later : List (List ℕ)) (begun : ℕ) (client : Client) → names ≡ told ++ later → begun ≡ length told → client.cause ≡ Some Done → client.failed ≡ false → HasLast told client → (told ≡ [] → ⊥) → slice_get names (begun - 1) ≡ Some client.name
name_by_count names told later begun client names_are count cause able (inl none) some = absurd (some none)
name_by_count names told later begun client names_are count cause able (inr (ahead, name, is, has)) some =
    let long = length-append ahead (name ∷ []) in
    let same = ap length is in
    let at : begun - 1 ≡ length ahead = omega (arith, count, same, long) in
    ap (λ (n : ℕ). slice_get names n) at
    ∙ (ap (λ (ns : List (List ℕ)). slice_get ns (length ahead)) (names_are ∙ ap (λ (ns : List (List ℕ)). ns ++ later) is) ∙ (at_end ahead name later ∙ ap (λ (n : List ℕ). Some n) (by has)))
  where
    fault_done : Some ShelfFault ≡ Some Done → ⊥
    fault_done e = cc

    by : HasName name client → name ≡ client.name
    by (inl named) = sym named
    by (inr (inl faulty)) = absurd (fault_done (sym faulty ∙ cause))
    by (inr (inr lame)) = absurd (let never : true ≡ false = sym lame ∙ able in cc)

-- ---- a moment of a run

-- One of the pushes is done whose object the shelf holds; and it is the last one whose object was spelled and gained.
pub record DoneLast (settings : Settings) (shelf before : List Object) (occurrences : List Occurrence) (name : List ℕ) : Type 0 where
  pub one : Push
  pub named : one.name ≡ name
  pub of_shelf : IsOfShelfOrStill shelf one
  pub keeps : KeepsLast settings before one occurrences

-- By these entries host a's pushes are so, and this is what happened to the server of host b.
pub record Reading (scenario : Scenario) (shelf before : List Object) (answers : List Answer) (capture : List Entry) (occurrences : List Occurrence) (world : BothHosts) : Type 0 where
  pub keeps : KeepsPushes scenario shelf before answers (objects_heard (party_of scenario.settings sides.B) sides.B capture) (stored_in world.b.upper.profile.inbox.content) (IsDoneAt world)
  pub serve : AllServeDirectly NoneShort (new_over scenario.settings before) occurrences
  pub tells : TellsEach scenario.settings before occurrences
  pub spells : objects scenario.settings occurrences ≡ objects_heard (party_of scenario.settings sides.B) sides.B capture
  pub holds : stored_in world.b.upper.profile.inbox.content ≡ stored_in (all_done occurrences (new_over scenario.settings before)).gift.content
  pub last : IsDoneAt world → DoneLast scenario.settings shelf before occurrences world.a.upper.profile.client.name
  -- and that name is the one of the push that was begun last, where the client did not lack memory
  pub name_is : IsDoneAt world → world.a.upper.profile.client.failed ≡ false → slice_get scenario.names (world.pushes.begun - 1) ≡ Some world.a.upper.profile.client.name
  pub link : IsDoneAt world → SpellsLast (party_of scenario.settings sides.B) (talks sides.B capture)

module _ (scenario : Scenario) (shelf before : List Object) (answers : List Answer) (enough : NoneShort answers) (direct : scenario.settings.transport ≡ L2cap) (capture : List Entry) (ran : Ran scenario (holding before) capture) where
  -- Host a's pushes. Where both hosts are level and its client came to that outcome, so did that of the last of them in which it did anything.
  pub record Pushed (outcome : Outcome) (turns : PairsInTurn both_ask scenario (holding before) capture ran) : Type 0 where
    pub pushes : List Push
    pub last : Push
    pub offered : AllByRecursion IsOffered pushes
    pub last_offered : IsOffered last
    pub go : AllByRecursion GoesToObject (pushes ++ last ∷ [])
    pub begun : AreAmong (names_of (pushes ++ last ∷ [])) (names_begun (pushed_from scenario.settings (client_profile scenario.settings).first turns.pairs.a.fed.so.lives.feeds))
    pub named : AreAmong (names_of (pushes ++ last ∷ [])) scenario.names
    pub of_shelf : AllByRecursion (IsOfShelfOrStill shelf) (pushes ++ last ∷ [])
    pub is : served_in both_ask scenario before capture ran turns.pairs ≡ over_pushes pushes last
    pub ties : length turns.pairs.a.fed.so.lives.spans ≡ length turns.pairs.b.fed.so.lives.spans → CameTo outcome ran.world.a.upper.profile.client.name ran.world.a.upper.profile.client
        → (CameTo outcome ran.world.a.upper.profile.client.name (new_client scenario.settings) × AllByRecursion IsIdle (pushes ++ last ∷ [])) ⊎ IsLast (CameTo outcome ran.world.a.upper.profile.client.name) (pushes ++ last ∷ [])

  pub pushed : (outcome : Outcome) → is_unsaid outcome ≡ false → (turns : PairsInTurn both_ask scenario (holding before) capture ran) → AllByRecursion (AnswersOf (Some shelf)) turns.pairs.a.fed.so.lives.feeds → RunOffered NoneShort scenario before capture ran turns → Pushed outcome turns
  pushed outcome said turns told run =
      let settings = scenario.settings in
      let pairs = turns.pairs in
      let A = client_profile settings in
      let near = pairs.a.fed.so.lives.feeds in
      let small = none_longer (Some shelf) near told in
      let sound = runs_sound scenario before capture ran pairs run.offered.twined in
      let name = ran.world.a.upper.profile.client.name in
      let tied = links_told (CameTo outcome name) (Some shelf) longest_octets (omega arith) both_ask settings before direct (between_off outcome said name settings (both_ask.clients settings)) (turned_off outcome said name settings) pairs.a.came.talk pairs.b.came.talk ran.world.a.upper ran.world.b.upper pairs.a.fed pairs.b.fed sound small
      (clients_are_given_objects (Some shelf) settings A.first near tt told) in
      let all = tied.all in
      let so = both_so (Some shelf) longest_octets all.pushes all.pushed in
      let last = all.last_pushed in
      let told_names = names_told near in
      let begun : AreAmong (names_begun (pushed_from settings A.first near)) scenario.names =
      subst (AreAmong (names_begun (pushed_from settings A.first near))) (sym turns.named.1)
      (among_trans (names_begun (pushed_from settings A.first near)) told_names (told_names ++ turns.named.0) (clients_begin_what_is_told settings A.first near) (ahead_among told_names told_names turns.named.0 (all_among told_names))) in
      let among = among_trans (names_of (all.pushes ++ all.last ∷ [])) (names_begun (pushed_from settings A.first near)) scenario.names all.named begun in
      let units = among_all HasUnits (names_of (all.pushes ++ all.last ∷ [])) scenario.names among (have_units scenario.names scenario.named) in
      record {
        pushes = all.pushes;
        last = all.last;
        offered = all_offered (Some shelf) longest_octets all.pushes so.offered;
        last_offered = last.0.0;
        go = all_both GoesToObject all.pushes (all.last ∷ []) so.go (last.1, tt);
        begun = all.named;
        named = among;
        of_shelf = pushed_of_shelf shelf longest_octets all.pushes all.last so.offered last.0 units;
        is = all.is;
        ties = tied.ties;
      }

  -- of hosts that go through it side by side
  reads : (turns : PairsInTurn both_ask scenario (holding before) capture ran) → AllByRecursion (AnswersOf (Some shelf)) turns.pairs.a.fed.so.lives.feeds → SpendsOnce scenario.settings (holding before) answers turns.pairs.b.fed.so.lives.feeds
      → (ran.world.radio.a.owed ≡ [] → ran.world.radio.b.owed ≡ [] → length turns.pairs.a.fed.so.lives.spans ≡ length turns.pairs.b.fed.so.lives.spans) → IsCaptured sides.B capture turns.pairs.b.came.talk
      → ran.world.pushes.begun ≡ length (names_told turns.pairs.a.fed.so.lives.feeds)
      → Reading scenario shelf before answers capture (served_in both_ask scenario before capture ran turns.pairs) ran.world
  reads turns told spends level captured_b begun_so =
      let settings = scenario.settings in
      let pairs = turns.pairs in
      let A = client_profile settings in
      let B = server_profile settings (holding before) in
      let near = pairs.a.fed.so.lives.feeds in
      let far = pairs.b.fed.so.lives.feeds in
      let small = none_longer (Some shelf) near told in
      let answered = all_answer NoneShort far (spends.enough enough) in
      let run = run_offered NoneShort scenario before capture ran turns direct small answered in
      let name = ran.world.a.upper.profile.client.name in
      let all = pushed Done refl turns told run in
      let told_names = names_told near in
      let serves = serve_all NoneShort settings (holding before) far B.first answered run.direct in
      let serve : AllServeDirectly NoneShort (new_over settings before) (over_pushes all.pushes all.last) = subst (AllServeDirectly NoneShort (new_over settings before)) all.is serves in
      let kept : KeepsDone settings before all.pushes all.last = done-pushes_are_kept settings before all.pushes all.last all.offered all.last_offered serve in
      let each = pushes-spell_each settings before all.pushes all.last all.offered all.last_offered serve in
      let tells = subst (TellsEach settings before) (sym all.is) (pushes-tell_each settings before all.pushes all.last all.offered all.last_offered serve) in
      let spells : objects settings (over_pushes all.pushes all.last) ≡ objects_heard (party_of settings sides.B) sides.B capture = ap (objects settings) (sym all.is) ∙ run.spells in
      let holds : stored_in ran.world.b.upper.profile.inbox.content ≡ Some (before ++ kept.gain) =
      run.holds ∙ ap (λ (os : List Occurrence). stored_in (all_done os (new_over settings before)).gift.content) all.is ∙ kept.stored in
      let ends : IsDoneAt ran.world → (ends : EndsDone (all.pushes ++ all.last ∷ [])) × (ends.one.name ≡ name) = λ done. ended name settings (all.pushes ++ all.last ∷ []) all.go (all.ties (level done.none_a done.none_b) (done.cause, refl)) in
      record {
        keeps = record {
          pushes = all.pushes ++ all.last ∷ [];
          named = all.named;
          of_shelf = all.of_shelf;
          gain = kept.gain;
          stored_is = holds;
          kept = subst (AreKept (all.pushes ++ all.last ∷ []) kept.gain) spells kept.kept;
          few = (let few = kept.few in
              let less = spends.few in
              let same = ap length spells in
              let spent = ap (spent_from (new_over settings before)) all.is in
              omega (arith, few, less, same, spent));
          ends = λ done. (ends done).0;
        };
        serve = serves;
        tells = tells;
        spells = run.spells;
        holds = run.holds;
        last = λ done.
            let (end, named) = ends done in
            record {
              one = end.one;
              named = named;
              of_shelf = (all_ahead (IsOfShelfOrStill shelf) end.ahead (end.one ∷ end.behind) (subst (AllByRecursion (IsOfShelfOrStill shelf)) end.pushes_are all.of_shelf)).1.0;
              keeps = subst (KeepsLast settings before end.one) (sym all.is) (done_is_last settings before all.pushes all.last each end.ahead end.one end.behind end.pushes_are end.done end.idle);
            };
        name_is = λ done able.
            let (end, named) = ends done in
            let told_so = subst (HasLast told_names) (sym (ap (λ (p : ClientProfile). p.client) pairs.a.fed.so.lives.profile_is)) (has_last settings near [] A.first (inl refl)) in
            name_by_count scenario.names told_names turns.named.0 ran.world.pushes.begun ran.world.a.upper.profile.client turns.named.1 begun_so done.cause able told_so (λ none. some_named end.ahead end.one end.behind end.done
            (none_of (names_of (end.ahead ++ end.one ∷ end.behind)) told_names none (subst (λ (ps : List Push). AreAmong (names_of ps) told_names) end.pushes_are
            (among_trans (names_of (all.pushes ++ all.last ∷ [])) (names_begun (pushed_from settings A.first near)) told_names all.begun (clients_begin_what_is_told settings A.first near)))));
        link = λ done. last_spells scenario shelf before answers capture enough direct ran turns captured_b told spends (level done.none_a done.none_b) done.cause;
      }

-- ---- of the tape of its answers

module _ (scenario : Scenario) (shelf before : List Object) (answers : List Answer) where
  abbrev pub U : Upper (Host ClientProfile) Circumstance
  U = holding_on (Some shelf) (client_of scenario)

  abbrev pub V : Upper (Host (Taped ServerProfile Bool)) Circumstance
  V = taped_of scenario (holding before) (once answers)

  abbrev pub begins : TapedHosts Bool
  begins = taped_beginning scenario (holding before) (once answers)

  abbrev B : Profile ServerProfile
  B = server_profile scenario.settings (holding before)

  -- what happened to the server of host b by then
  abbrev pub served_by : TapedHosts Bool → List Occurrence
  served_by world = let B = server_profile scenario.settings (holding before) in served_from scenario.settings (holding before) B.first (untaped B (once answers) (taped B (once answers)).first world.b.upper.profile.past)

  -- the same run without the tape
  pub bare_run : (done : List Happening) (world : TapedHosts Bool) → Runs U V done begins world → Happened scenario (holding before) done (untaped_world world)
  bare_run done world runs =
      taped_runs_are_runs (client_of scenario) B (once answers) (servers_hear_news_alone scenario.settings (holding before)) done begins world (runs-so (client_of scenario) V (held_by (Some shelf)) as_it_is done begins world runs)

  -- the run without the tape up to such a moment, and its hosts side by side
  module _ (capture : List Entry) (done : List Happening) (ends : List Entry) (world : TapedHosts Bool) (runs : Runs U V done begins world) (last : IsLastEnd world.pushes ends) (capture_is : capture ≡ all_entries done ++ ends) where
    abbrev pub ran_by : Ran scenario (holding before) capture
    ran_by = record { happenings = done; world = untaped_world world; happened = bare_run done world runs; ends = ends; last = last; capture_is = capture_is }

    pub turns_by : TurnsSo false both_ask scenario (holding before) (once answers) (held_by (Some shelf)) (AnswersOf (Some shelf)) (answers_allowed (Some shelf)) capture ran_by world
    turns_by = takes_turns false both_ask scenario (holding before) (once answers) (held_by (Some shelf)) (AnswersOf (Some shelf)) (answers_allowed (Some shelf)) capture ran_by world runs refl (λ on. cc)

    pub spends_by : SpendsOnce scenario.settings (holding before) answers turns_by.turns.pairs.b.fed.so.lives.feeds
    spends_by = subst (SpendsOnce scenario.settings (holding before) answers) (sym turns_by.given.2) (servers_spend_once scenario.settings (holding before) answers turns_by.given.0 turns_by.given.1)

  pub moment : NoneShort answers → scenario.settings.transport ≡ L2cap → (capture : List Entry) (done : List Happening) (ends : List Entry) (world : TapedHosts Bool) → Runs U V done begins world → IsLastEnd world.pushes ends → capture ≡ all_entries done ++ ends
      → Reading scenario shelf before answers capture (served_by world) (untaped_world world)
  moment enough direct capture done ends world runs last capture_is =
      let so = turns_by capture done ends world runs last capture_is in
      let spends = spends_by capture done ends world runs last capture_is in
      let reading = reads scenario shelf before answers enough direct capture (ran_by capture done ends world runs last capture_is) so.turns so.told spends so.level so.captured_b so.begun in
      subst (λ (feeds : List Feed). Reading scenario shelf before answers capture (served_from scenario.settings (holding before) B.first feeds) (untaped_world world)) so.past reading

  -- all that its profile went through it keeps
  module _ (past : List Feed) where
    abbrev Goes : Taped ServerProfile Bool → Type 0
    Goes now = (more : List Feed) × (now.past ≡ past ++ more)

    goes_on : (now : Taped ServerProfile Bool) (feed : Feed) → Goes now → (more : List Feed) × (now.past ++ feed ∷ [] ≡ past ++ more)
    goes_on now feed so = (so.0 ++ feed ∷ [], ap (λ (l : List Feed). l ++ feed ∷ []) so.1 ∙ append_assoc past so.0 (feed ∷ []))

    all_goes : KeepsSo (taped B (once answers)) Goes
    all_goes = record {
      given = λ circumstances now so. goes_on now (Gifts circumstances) so;
      told = λ circumstances news now so. goes_on now (Learns circumstances news) so;
      received = λ own psm sdu now so. goes_on now (Receives own psm sdu) so;
      happened = λ event v now so. goes_on now (Happens event v) so;
      sent = λ v now so. goes_on now (Sent v) so;
      steps = λ v now so. goes_on now (Steps v) so;
    }

  -- so what happened to it by one moment stands in front of what happened by a later one
  pub served_more : (rest : List Happening) (old new : TapedHosts Bool) → Runs U V rest old new → (more : List Occurrence) × (served_by new ≡ served_by old ++ more)
  served_more rest old new runs =
      let past = old.b.upper.profile.past in
      let settings = scenario.settings in
      let first = (taped B (once answers)).first in
      let grown : Goes past new.b.upper.profile = runs_keep (taped B (once answers)) (Goes past) (all_goes past) U rest old new runs ([], sym (append-nil past)) in
      let front = untaped B (once answers) first past in
      let later = untaped B (once answers) (all_fed (taped B (once answers)) first past) grown.0 in (
        served_from settings (holding before) (all_fed B B.first front) later,
        ap (λ (feeds : List Feed). served_from settings (holding before) B.first feeds) (ap (untaped B (once answers) first) grown.1 ∙ both B (once answers) past grown.0 first) ∙ served-both settings (holding before) front later B.first,
      )

-- ---- of a server that keeps its answers

-- what both servers have stored is the same
pub stored_so : (scenario : Scenario) (before : List Object) (answers : List Answer) (own plain : Host ServerProfile)
    → IsOther (first_host (own_server scenario.settings (holding before) answers)) (first_host (server_profile scenario.settings (holding before))) own plain → stored_in own.profile.inbox.content ≡ stored_in plain.profile.inbox.content
stored_so scenario before answers own plain (inl is) = ap (λ (h : Host ServerProfile). stored_in h.profile.inbox.content) (sym is)
stored_so scenario before answers own plain (inr (is, first)) = ap (λ (h : Host ServerProfile). stored_in h.profile.inbox.content) is ∙ sym (ap (λ (h : Host ServerProfile). stored_in h.profile.inbox.content) first)

-- what is so of the world of the one is so of that of the other
pub plainly : (scenario : Scenario) (before : List Object) (answers : List Answer) (own plain : BothHosts) → IsThereToo scenario (holding before) answers own plain → IsDoneAt own → IsDoneAt plain
plainly scenario before answers own plain there done = record {
  none_a = ap (λ (w : BothHosts). w.radio.a.owed) there.same ∙ done.none_a;
  none_b = ap (λ (w : BothHosts). w.radio.b.owed) there.same ∙ done.none_b;
  cause = ap (λ (h : Host ClientProfile). h.profile.client.cause) there.a ∙ done.cause;
}

-- where it is, and where the one with the tape is
pub record OwnMoment (scenario : Scenario) (shelf before : List Object) (answers : List Answer) (capture : List Entry) (own : RanOwn scenario (Some shelf) (holding before) answers capture) : Type 0 where
  pub there : TapedHosts Bool
  pub alike : IsThereToo scenario (holding before) answers own.world (untaped_world there)
  pub runs : Runs (U scenario shelf before answers) (V scenario shelf before answers) own.happenings (begins scenario shelf before answers) there
  pub reading : Reading scenario shelf before answers capture (served_by scenario shelf before answers there) (untaped_world there)

pub own_moment : (scenario : Scenario) (shelf before : List Object) (answers : List Answer) (capture : List Entry) (own : RanOwn scenario (Some shelf) (holding before) answers capture) → scenario.settings.transport ≡ L2cap → NoneShort answers → OwnMoment scenario shelf before answers capture own
own_moment scenario shelf before answers capture own direct enough =
    let (there, alike, runs) = own_servers_are_taped (holding_on (Some shelf) (client_of scenario)) scenario.settings (holding before) answers own.happenings (own_beginning scenario (holding before) answers) own.world refl own.happened in
    let last : IsLastEnd there.pushes own.ends = subst (λ (pushes : Pushes). IsLastEnd pushes own.ends) (sym (ap (λ (w : TapedHosts Bool). w.pushes) alike.same)) own.last in
    record {
      there = there;
      alike = there_so both_ask scenario (Some shelf) (holding before) answers capture own there alike;
      runs = runs;
      reading = moment scenario shelf before answers enough direct capture own.happenings own.ends there runs last own.capture_is;
    }

pub own_servers_keep_done : OwnServersKeepDone
own_servers_keep_done scenario shelf before answers capture own direct enough =
    let now = own_moment scenario shelf before answers capture own direct enough in
    let so = now.reading.keeps in
    record {
      pushes = so.pushes;
      named = so.named;
      of_shelf = so.of_shelf;
      gain = so.gain;
      stored_is = stored_so scenario before answers own.world.b.upper (untaped_world now.there).b.upper now.alike.b ∙ so.stored_is;
      kept = so.kept;
      few = so.few;
      ends = λ done. so.ends (plainly scenario before answers own.world (untaped_world now.there) now.alike done);
    }
