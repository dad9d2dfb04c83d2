-- In each run over L2CAP the last link of host b spells one object, where host a's client is done.
use Rattle.std.proofs.Common.{arith, ◌≡◌, ◌≤◌, ◌⊎◌, inl, inr, ℕ, true, false, List, [], ◌∷◌, ◌++◌, length, map, Some, None, refl, sym, ap, subst, ◌∙◌, append-nil, append_assoc}
use Rattle.std.specs.Prelude.{get_or}
use Rattle.std.specs.List.{AllByRecursion, AllZip, flat_map}
use Rattle.std.proofs.lemmas.List.{map-append}
use Rattle.tape_laws.specs.bt_base.specs.declared.settings.Settings.{Settings}
use Rattle.tape_laws.specs.bt_base.specs.declared.settings.Transport.{Transport}
use Rattle.tape_laws.specs.bt_base.specs.declared.settings.Transport.TheVariants.{L2cap}
use Rattle.tape_laws.specs.bt_base.specs.Objects.{Object}
use Rattle.tape_laws.specs.obex_session.specs.InboxCalls.{Answer}
use Rattle.tape_laws.specs.push_script.specs.declared.scenario.Scenario.{Scenario}
use Rattle.tape_laws.specs.push_terms.specs.declared.outcome.Outcome.TheVariants.{Done}
use Rattle.tape_laws.specs.push_terms.specs.declared.word.Side.TheVariants as sides
use Rattle.tape_laws.specs.capture.specs.Entries.{Entry}
use Rattle.tape_laws.specs.capture.specs.Links.{Link, links}
use Rattle.tape_laws.specs.capture.specs.Pdus.{Pdu, pdus}
use Rattle.tape_laws.specs.link_talk.specs.declared.party.Party.{Party}
use Rattle.tape_laws.specs.link_talk.specs.Captures.{talks}
use Rattle.tape_laws.specs.link_talk.specs.ObjectsHeard.{objects as objects_on}
use Rattle.tape_laws.specs.link_talk.specs.Sayings.{Saying, said_by, talk}
use Rattle.tape_laws.specs.push_model.specs.Client.{new_client, own_maximum}
use Rattle.tape_laws.specs.push_laws.specs.Laws.{new_over}
use Rattle.tape_laws.specs.push_laws.specs.Occurrences.{Occurrence}
use Rattle.tape_laws.specs.push_laws.specs.Parties.{server_side, Push, ended_with, over_pushes, AllServeDirectly}
use Rattle.tape_laws.specs.push_laws.specs.Premises.{NoneShort}
use Rattle.tape_laws.specs.world_model.specs.Talks.{Talk}
use Rattle.tape_laws.specs.host_model.specs.Clients.{client_profile}
use Rattle.tape_laws.specs.host_model.specs.Servers.{server_profile}
use Rattle.tape_laws.specs.host_laws.specs.channel_model.specs.Policies.{policy}
use Rattle.tape_laws.specs.host_laws.specs.channel_model.specs.Value.{Channels}
use Rattle.tape_laws.specs.host_laws.specs.channel_laws.specs.Runs as channels
use Rattle.tape_laws.specs.host_laws.specs.channel_laws.specs.Runs.{run_of}
use Rattle.tape_laws.specs.host_laws.specs.Calm.{pdus_in}
use Rattle.tape_laws.specs.host_laws.specs.Gaining.{IsDirect}
use Rattle.tape_laws.specs.host_laws.specs.GainingOver.{CarriesOne}
use Rattle.tape_laws.specs.host_laws.specs.Lives.{Span}
use Rattle.tape_laws.specs.host_laws.specs.OverLinks.{parts, talk_marks, moved_in, IsTalkOf, AreTimely}
use Rattle.tape_laws.specs.host_laws.specs.Pushing.{pushed_from}
use Rattle.tape_laws.specs.host_laws.specs.ShelfAnswers.{AnswersOf}
use Rattle.tape_laws.specs.host_laws.specs.Spoken.{IsServed}
use Rattle.tape_laws.specs.host_laws.specs.Told.{told_on}
use Rattle.tape_laws.specs.host_laws.proofs.Answered.{clients_are_answered}
use Rattle.tape_laws.specs.host_laws.proofs.Gaining.{all_served}
use Rattle.tape_laws.specs.host_laws.proofs.Gains.{gain}
use Rattle.tape_laws.specs.host_laws.proofs.InOrder.{asks-nothing}
use Rattle.tape_laws.specs.host_laws.proofs.ShelfAnswers.{clients_are_given_objects}
use Rattle.tape_laws.specs.host_laws.proofs.Spoken.{all-out}
use Rattle.tape_laws.specs.scenario_laws.specs.Captures.{Ran}
use Rattle.tape_laws.specs.scenario_laws.specs.Coming.{out_of}
use Rattle.tape_laws.specs.scenario_laws.specs.Gains.{holding}
use Rattle.tape_laws.specs.scenario_laws.specs.Parties.{party_of}
use Rattle.tape_laws.specs.scenario_laws.proofs.Gaining.{all_spell, all-out as unsent-out}
use Rattle.tape_laws.specs.scenario_laws.proofs.Wishes.{states_frame}
use Rattle.tape_laws.specs.shelf_model.specs.Held.{longest_octets}
use Rattle.tape_laws.specs.pair_laws.specs.InTurn.{PairsInTurn}
use Rattle.tape_laws.specs.pair_laws.proofs.Taking.{clients_within, servers_within}
use Rattle.tape_laws.specs.pair_laws.proofs.Whole.{pairs-are_whole}
use Rattle.tape_laws.specs.request_laws.specs.BothFed.{over_stored}
use Rattle.tape_laws.specs.request_laws.specs.Losing.{served_in}
use Rattle.tape_laws.specs.request_laws.specs.Twists.{Set}
use Rattle.tape_laws.specs.request_laws.proofs.AllSizes.{RunOffered, run_offered}
use Rattle.tape_laws.specs.request_laws.proofs.Beginning.{Good, good_affair, good_first}
use Rattle.tape_laws.specs.request_laws.proofs.Feeding.{all_ahead}
use Rattle.tape_laws.specs.request_laws.proofs.Heard.{Offered, IsAskedSo, both_asked, all_offered}
use Rattle.tape_laws.specs.request_laws.proofs.LastLinks.{Reached, reached}
use Rattle.tape_laws.specs.request_laws.proofs.Lending.{serve_all}
use Rattle.tape_laws.specs.request_laws.proofs.ObjectPipes.{carries_at}
use Rattle.tape_laws.specs.request_laws.proofs.Paired.{lists_of}
use Rattle.tape_laws.specs.request_laws.proofs.Runs.{is_in_order}
use Rattle.tape_laws.specs.request_laws.proofs.Sound.{Sound, GoesToObject, one_sound, none_sound, runs_sound}
use Rattle.tape_laws.specs.request_laws.proofs.Summing.{both_ask}
use Rattle.tape_laws.specs.request_laws.proofs.Timely.{HearsNothing}
use Rattle.tape_laws.specs.request_laws.proofs.Told.{none_longer, all_answer}
use Rattle.tape_laws.specs.Once.{SpendsOnce}
use Rattle.tape_laws.proofs.Falling.{IsCaptured, falls_last}
use Rattle.done_laws.specs.Kept.{client_of, SpellsHere, SpellEach}
use Rattle.done_laws.proofs.Kept.{serve_front, pushes-spell_each}
use Rattle.done_laws.proofs.Lasts.{one_object}
use Rattle.done_laws.proofs.Linked.{here_gained, side_gained, one_on, zip_split, at_place}
use Rattle.done_laws.proofs.Off.{HasDone, CameTo, between_off, turned_off}

-- ---- of the last push

last_here : (settings : Settings) (before : List Object) (past : List Occurrence) (pushes : List Push) (last : Push) → SpellEach settings before past pushes last
    → (let front = past ++ flat_map ended_with pushes in SpellsHere settings before front (front ++ server_side last.moves) last)
last_here settings before past [] last each = subst (λ (os : List Occurrence). SpellsHere settings before os (os ++ server_side last.moves) last) (sym (append-nil past)) each
last_here settings before past (push ∷ pushes) last each =
    subst (λ (os : List Occurrence). SpellsHere settings before os (os ++ server_side last.moves) last) (append_assoc past (ended_with push) (flat_map ended_with pushes)) (last_here settings before (past ++ ended_with push) pushes last each.1)

-- ---- lists

pub all_lists : (E : List channels.Occurrence → Type 0) (spans : List Span) (now : List channels.Occurrence) → AllByRecursion (λ (span : Span). E span.list) spans → E now → AllByRecursion E (lists_of spans now)
all_lists E [] now all last = (last, tt)
all_lists E (span ∷ spans) now all last = (all.0, all_lists E spans now all.1 last)

pub split_links : (list : List Link) (ahead : List (List Pdu)) (link : List Pdu) → map pdus list ≡ ahead ++ link ∷ [] → (before : List Link) × (one : Link) × (list ≡ before ++ one ∷ []) × (pdus one ≡ link)
split_links [] [] link is = cc
split_links [] (first ∷ ahead) link is = cc
split_links (one ∷ []) [] link is = ([], one, refl, cc)
split_links (one ∷ other ∷ list) [] link is = cc
split_links (one ∷ list) (first ∷ ahead) link is =
    let later : map pdus list ≡ ahead ++ link ∷ [] = cc in let so = split_links list ahead link later in (one ∷ so.0, so.1, ap (λ (l : List Link). one ∷ l) so.2, so.3)

-- the last of these links spells one object
pub record SpellsLast (party : Party) (links : List (List Saying)) : Type 0 where
  pub ahead : List (List Saying)
  pub last : List Saying
  pub links_are : links ≡ ahead ++ last ∷ []
  pub object : Object
  pub spelled : objects_on party last ≡ object ∷ []

-- ---- a part that spells one object, and the links

module _ (settings : Settings) where
  abbrev party : Party
  party = party_of settings sides.B

  abbrev IsTalk : List channels.Occurrence → List Talk → Type 0
  IsTalk = IsTalkOf (policy settings true)

  abbrev spells_of : List Talk → List Object
  spells_of part = objects_on (party_of settings sides.B) (moved_in part)

  -- one part at most stands behind it
  few_behind : (rest : List (List channels.Occurrence)) (after : List (List Talk)) → AllZip (IsTalkOf (policy settings true)) rest after → (rest ≡ []) ⊎ ((last : List channels.Occurrence) × (rest ≡ last ∷ []) × AllByRecursion HearsNothing last) → length after ≤ 1
  few_behind [] [] zip place = omega arith
  few_behind [] (part ∷ after) zip place = absurd zip
  few_behind (list ∷ rest) [] zip place = absurd zip
  few_behind (list ∷ []) (part ∷ []) zip place = omega arith
  few_behind (list ∷ []) (part ∷ other ∷ after) zip place = absurd zip.1
  few_behind (list ∷ other ∷ rest) (part ∷ after) zip (inl none) = cc
  few_behind (list ∷ other ∷ rest) (part ∷ after) zip (inr (last, is, deaf)) = cc

  part_links : (capture : List Entry) (talked : List Talk) → IsCaptured sides.B capture talked → AreTimely false (flat_map talk_marks talked) → (before : List (List Talk)) (part : List Talk) (after : List (List Talk)) (object : Object) → parts talked ≡ before ++ part ∷ after → length after ≤ 1
      → IsServed (moved_in part) → spells_of part ≡ object ∷ [] → SpellsLast (party_of settings sides.B) (talks sides.B capture)
  part_links capture talked on timely before part after object are few served spelled =
      let some : (outs : List (List ℕ)) → flat_map pdus_in part ≡ map out_of outs → ⊥ =
      λ outs is. (let never : object ∷ [] ≡ [] = sym spelled ∙ (ap (λ (l : List Pdu). objects_on party (flat_map said_by l)) is ∙ all-out party (flat_map said_by (map out_of outs)) (unsent-out outs)) in cc) in
      let found = falls_last sides.B capture talked on before part after are few timely some in
      let (earlier, link, list_is, link_is) = split_links (links sides.B capture) found.ahead found.link found.links_are in
      let one : objects_on party (flat_map said_by found.link) ≡ object ∷ [] =
      sym (append-nil (objects_on party (flat_map said_by found.link))) ∙ (sym (all_spell party (part ∷ []) (found.link ∷ []) (inr (found.link, [], found.unsent, refl, found.moved_is, refl)) (served, tt))
      ∙ (append-nil (spells_of part) ∙ spelled)) in
      record {
        ahead = map talk earlier;
        last = talk link;
        links_are = ap (map talk) list_is ∙ map-append talk earlier (link ∷ []);
        object = object;
        spelled = ap (λ (l : List Pdu). objects_on party (flat_map said_by l)) link_is ∙ one;
      }

-- ---- a run

module _ (scenario : Scenario) (shelf before : List Object) (answers : List Answer) (capture : List Entry) (enough : NoneShort answers) (direct : scenario.settings.transport ≡ L2cap) (ran : Ran scenario (holding before) capture)
    (turns : PairsInTurn both_ask scenario (holding before) capture ran) (captured_b : IsCaptured sides.B capture turns.pairs.b.came.talk) where
  abbrev IsTold : Push → Type 0
  IsTold push = Offered (Some shelf) longest_octets push × GoesToObject push

  abbrev set : Set
  set = over_stored both_ask scenario.settings before

  abbrev served : List Occurrence
  served = served_in both_ask scenario before capture ran turns.pairs

  abbrev lists : List (List channels.Occurrence)
  lists = lists_of turns.pairs.b.fed.so.lives.spans turns.pairs.b.fed.so.lives.now

  abbrev most : ℕ
  most = own_maximum L2cap scenario.settings

  -- what is spelled with what happened to the server in the last push
  gains_one : (pushes : List Push) (one : Push) (behind : List Occurrence) → AllByRecursion IsTold pushes → IsTold one → HasDone (client_of one) → served ≡ over_pushes pushes one ++ behind → AllServeDirectly NoneShort (new_over scenario.settings before) served
      → AllByRecursion IsDirect served → (object : Object) × (gain (own_maximum L2cap scenario.settings) [] (server_side one.moves) ≡ object ∷ [])
  gains_one pushes one behind pushed last so is serve direct' =
      let settings = scenario.settings in
      let front = (serve_front settings before (over_pushes pushes one) behind (new_over settings before) (subst (AllServeDirectly NoneShort (new_over settings before)) is serve)).0 in
      let each = pushes-spell_each settings before pushes one (all_offered (Some shelf) longest_octets pushes (all_plain pushes pushed)) last.0.0 front in
      let here : SpellsHere settings before (flat_map ended_with pushes) (over_pushes pushes one) one = last_here settings before [] pushes one each in
      let done = here.kept.done (record { cause = so; psm = last.1 so }) in
      let object = one_object here.here done.1 in
      let own = here_gained settings pushes (server_side one.moves) here.here (all_ahead IsDirect (over_pushes pushes one) behind (subst (AllByRecursion IsDirect) is direct')).0 here.spelled in
      (object.0, sym own ∙ object.1)
    where
      all_plain : (pushes : List Push) → AllByRecursion IsTold pushes → AllByRecursion (Offered (Some shelf) longest_octets) pushes
      all_plain [] all = tt
      all_plain (push ∷ pushes) all = (all.0.0, all_plain pushes all.1)

  -- and what the capture has of its link
  of_link : RunOffered NoneShort scenario before capture ran turns → AllServeDirectly NoneShort (new_over scenario.settings before) served → Reached set IsTold (CameTo Done ran.world.a.upper.profile.client.name) served lists → SpellsLast (party_of scenario.settings sides.B) (talks sides.B capture)
  of_link run serve found =
      let settings = scenario.settings in
      let b = turns.pairs.b in
      let lives = b.fed.so.lives in
      let Q = policy settings true in
      let order = is_in_order both_ask scenario before capture ran direct (asks-nothing settings (holding before)) b.came b.fed.so (pairs-are_whole both_ask scenario (holding before) capture ran turns.pairs (record { clients = clients_within; servers = servers_within })).b in
      let on = found.on in
      let (ahead, rest, lists_are, place) = on.place in
      let one = gains_one found.pushes found.one found.behind found.pushed found.one_pushed found.so.0 found.is serve run.direct in
      let carries : CarriesOne Q on.list =
      subst (CarriesOne Q) (ap (λ (ls : List (List channels.Occurrence)). get_or ls (length ahead) []) lists_are ∙ at_place ahead on.list rest [])
      (carries_at Q lives.spans lives.now (subst (AreTimely false) (sym lives.marks_are) b.fed.so.timely) order.carried order.carries (length ahead)) in
      let events : AllByRecursion (λ (l : List channels.Occurrence). (run_of Q l).value.events ≡ []) (ahead ++ on.list ∷ rest) =
      subst (AllByRecursion (λ (l : List channels.Occurrence). (run_of Q l).value.events ≡ [])) lists_are
      (all_lists (λ (l : List channels.Occurrence). (run_of Q l).value.events ≡ []) lives.spans lives.now lives.spans_told (ap (λ (v : Channels). v.events) (sym lives.channels_run) ∙ lives.all_told)) in
      let zip = zip_split (IsTalkOf Q) ahead on.list rest (parts b.came.talk) (subst (λ (ls : List (List channels.Occurrence)). AllZip (IsTalkOf Q) ls (parts b.came.talk)) lists_are b.fed.so.talks_are) in
      let (before_it, part, after, parts_are, is, later) = zip in
      let granted = subst (AllByRecursion (λ (p : List Talk). IsServed (moved_in p))) parts_are order.granted in
      let once = (all_ahead (λ (p : List Talk). IsServed (moved_in p)) before_it (part ∷ after) granted).1.0 in
      let packet : (party_of settings sides.B).packet ≡ most = ap (λ (t : Transport). own_maximum t settings) direct in
      let gained : gain (party_of settings sides.B).packet [] (all_served (told_on Q on.list)) ≡ one.0 ∷ [] =
      ap (λ (n : ℕ). gain n [] (all_served (told_on Q on.list))) packet ∙ (sym (side_gained set found.one lists on) ∙ one.1) in
      part_links settings capture b.came.talk captured_b b.fed.so.timely before_it part after one.0 parts_are (few_behind settings rest after later place) once
      (one_on settings (party_of settings sides.B) (states_frame settings true sides.B) on.list part one.0 carries is once (all_ahead (λ (l : List channels.Occurrence). (run_of Q l).value.events ≡ []) ahead (on.list ∷ rest) events).1.0 gained)

  pub last_spells : AllByRecursion (AnswersOf (Some shelf)) turns.pairs.a.fed.so.lives.feeds → SpendsOnce scenario.settings (holding before) answers turns.pairs.b.fed.so.lives.feeds → length turns.pairs.a.fed.so.lives.spans ≡ length turns.pairs.b.fed.so.lives.spans
      → HasDone ran.world.a.upper.profile.client → SpellsLast (party_of scenario.settings sides.B) (talks sides.B capture)
  last_spells told spends level done =
      let settings = scenario.settings in
      let pairs = turns.pairs in
      let A = client_profile settings in
      let B = server_profile settings (holding before) in
      let near = pairs.a.fed.so in
      let far = pairs.b.fed.so in
      let maximum = (new_client settings).session.maximum in
      let wanted = (new_client settings).session.wanted in
      let small = none_longer (Some shelf) near.lives.feeds told in
      let answered = all_answer NoneShort far.lives.feeds (spends.enough enough) in
      let run = run_offered NoneShort scenario before capture ran turns direct small answered in
      let sound = runs_sound scenario before capture ran pairs run.offered.twined in
      let serve = serve_all NoneShort settings (holding before) far.lives.feeds B.first answered run.direct in
      let given = clients_are_given_objects (Some shelf) settings A.first near.lives.feeds tt told in
      elim (reached set (IsAskedSo (Some shelf) longest_octets) (Good L2cap maximum wanted) IsTold (Sound set) (λ one client asked. good_affair L2cap maximum wanted longest_octets (omega arith) one client asked.0)
      (one_sound (Some shelf) set maximum wanted longest_octets (omega arith)) (none_sound (Some shelf) set maximum wanted longest_octets (omega arith)) (CameTo Done ran.world.a.upper.profile.client.name) (between_off Done refl ran.world.a.upper.profile.client.name settings (both_ask.clients settings)) (turned_off Done refl ran.world.a.upper.profile.client.name settings)
      (λ k. k) near.lives.spans near.lives.now near.lives.feeds A.first ran.world.a.upper.profile far.lives.spans far.lives.now far.lives.feeds B.first ran.world.b.upper.profile pairs.a.fed.fed pairs.b.fed.fed sound
      (subst (AreTimely false) (sym near.lives.marks_are) near.timely) (subst (AreTimely false) (sym far.lives.marks_are) far.timely) refl (good_first settings L2cap direct)
      (both_asked (Some shelf) longest_octets (pushed_from settings A.first near.lives.feeds) A.first.client (clients_are_answered longest_octets settings A.first near.lives.feeds small) given) level (done, refl)) [
        | inl first ↦ absurd (let never : None ≡ Some Done = first.1.0 in cc)
        | inr found ↦ of_link run serve found
      ]
