-- What the packets spell on the last link of a run is what they spell with the push that an SDU ended there.
use Rattle.std.proofs.Common.{◌⊎◌, inl, inr, arith, ◌≡◌, ℕ, Bool, true, false, List, [], ◌∷◌, ◌++◌, length, map, Some, None, refl, sym, ap, subst, ◌∙◌, append-nil, append_assoc}
use Rattle.std.specs.Prelude.{get_or}
use Rattle.std.specs.List.{AllByRecursion, AllZip, filter_map, flat_map}
use Rattle.std.proofs.lemmas.List.{map-append}
use Rattle.tape_laws.specs.bt_base.specs.declared.settings.Settings.{Settings}
use Rattle.tape_laws.specs.bt_base.specs.declared.settings.Transport.{Transport}
use Rattle.tape_laws.specs.bt_base.specs.declared.settings.Transport.TheVariants.{L2cap}
use Rattle.tape_laws.specs.bt_base.specs.Objects.{Object}
use Rattle.tape_laws.specs.obex_session.specs.InboxCalls.{Answer}
use Rattle.tape_laws.specs.push_script.specs.declared.scenario.Scenario.{Scenario}
use Rattle.tape_laws.specs.push_terms.specs.declared.word.Side.TheVariants as sides
use Rattle.tape_laws.specs.capture.specs.Entries.{Entry}
use Rattle.tape_laws.specs.capture.specs.Links.{links, link_up}
use Rattle.tape_laws.specs.capture.specs.Pdus.{Pdu}
use Rattle.tape_laws.specs.link_talk.specs.declared.party.Party.{Party}
use Rattle.tape_laws.specs.link_talk.specs.Captures.{talks}
use Rattle.tape_laws.specs.link_talk.specs.ObjectsHeard.{objects as objects_on}
use Rattle.tape_laws.specs.link_talk.specs.Sayings.{Saying, said_by, talk}
use Rattle.tape_laws.specs.push_model.specs.Client.{Client, new_client, own_maximum}
use Rattle.tape_laws.specs.push_laws.specs.Parties.{server_side, Push, IsOffered}
use Rattle.tape_laws.specs.push_laws.specs.Premises.{NoneShort}
use Rattle.tape_laws.specs.world_model.specs.Carriages.{linked_by}
use Rattle.tape_laws.specs.world_model.specs.Machines.{LinkEvent, Up, Down, Linked, Failed, Heard, TimerFired, Cancelled, Opening}
use Rattle.tape_laws.specs.world_model.specs.Talks.{Talk, Told, Said, Unsent, Met, Done}
use Rattle.tape_laws.specs.world_model.specs.Worlds.{Happening, all_entries, Runs}
use Rattle.tape_laws.specs.host_model.specs.Clients.{ClientProfile, client_profile}
use Rattle.tape_laws.specs.host_model.specs.Circumstances.{Circumstance}
use Rattle.tape_laws.specs.host_model.specs.Servers.{server_profile}
use Rattle.tape_laws.specs.host_laws.specs.channel_model.specs.Policies.{Policy, policy}
use Rattle.tape_laws.specs.host_laws.specs.channel_model.specs.Value.{Channels, no_channels}
use Rattle.tape_laws.specs.host_laws.specs.channel_laws.specs.Runs as channels
use Rattle.tape_laws.specs.host_laws.specs.channel_laws.specs.Runs.{run_of}
use Rattle.tape_laws.specs.host_laws.specs.channel_laws.specs.Sdus.{StatesFrame}
use Rattle.tape_laws.specs.host_laws.specs.Asked.{up_behind}
use Rattle.tape_laws.specs.host_laws.specs.Calls.{outer}
use Rattle.tape_laws.specs.host_laws.specs.Calm.{pdus_in}
use Rattle.tape_laws.specs.host_laws.specs.Fed.{WovenFed}
use Rattle.tape_laws.specs.host_laws.specs.Feeds.{Feed}
use Rattle.tape_laws.specs.host_laws.specs.GainingOver.{IsNoPdu, CarriesOne}
use Rattle.tape_laws.specs.host_laws.specs.Lives.{Mark, Occurred, Turned, Span, marks_on, span_marks, all_marks}
use Rattle.tape_laws.specs.host_laws.specs.OverLinks.{parts, talk_marks, talk_outer, moved_in, IsTalkOf, AreTimely}
use Rattle.tape_laws.specs.host_laws.specs.Pushing.{pushed_from}
use Rattle.tape_laws.specs.host_laws.specs.Spoken.{IsServed}
use Rattle.tape_laws.specs.host_laws.specs.Told.{told_on}
use Rattle.tape_laws.specs.host_laws.specs.Woven.{turned}
use Rattle.tape_laws.specs.host_laws.proofs.Answered.{clients_are_answered}
use Rattle.tape_laws.specs.host_laws.proofs.Gaining.{all_served, link_gain}
use Rattle.tape_laws.specs.host_laws.proofs.GainingOver.{none_told}
use Rattle.tape_laws.specs.host_laws.proofs.Gains.{gain}
use Rattle.tape_laws.specs.host_laws.proofs.InOrder.{asks-nothing}
use Rattle.tape_laws.specs.host_laws.proofs.ShelfAnswers.{clients_are_given_objects}
use Rattle.tape_laws.specs.host_laws.proofs.Spoken.{objects-move}
use Rattle.tape_laws.specs.scenario_laws.specs.Gains.{holding}
use Rattle.tape_laws.specs.scenario_laws.specs.Parties.{party_of}
use Rattle.tape_laws.specs.scenario_laws.proofs.Wishes.{states_frame}
use Rattle.tape_laws.specs.shelf_model.specs.Held.{longest_octets}
use Rattle.tape_laws.specs.pair_laws.proofs.Taking.{clients_within, servers_within}
use Rattle.tape_laws.specs.pair_laws.proofs.Whole.{pairs-are_whole}
use Rattle.tape_laws.specs.request_laws.specs.BothFed.{over_stored}
use Rattle.tape_laws.specs.request_laws.proofs.AllSizes.{run_offered}
use Rattle.tape_laws.specs.request_laws.proofs.Beginning.{Good, good_affair, good_first}
use Rattle.tape_laws.specs.request_laws.proofs.Feeding.{all_ahead}
use Rattle.tape_laws.specs.request_laws.proofs.Heard.{Offered, IsAskedSo, both_asked}
use Rattle.tape_laws.specs.request_laws.proofs.ObjectPipes.{carries_at}
use Rattle.tape_laws.specs.request_laws.proofs.Runs.{is_in_order}
use Rattle.tape_laws.specs.request_laws.proofs.Sound.{Sound, GoesToObject, one_sound, none_sound, runs_sound}
use Rattle.tape_laws.specs.request_laws.proofs.Summing.{both_ask}
use Rattle.tape_laws.specs.request_laws.proofs.Timely.{HearsNothing}
use Rattle.tape_laws.specs.request_laws.proofs.Told.{none_longer, all_answer}
use Rattle.tape_laws.specs.Pairs.{TapedHosts}
use Rattle.tape_laws.proofs.Falling.{IsUnheard, unheard_out, up_after}
use Rattle.done_laws.specs.Kept.{client_of}
use Rattle.done_laws.proofs.LastSpells.{all_lists, split_links}
use Rattle.done_laws.proofs.Linked.{gain_none, served_none, side_gained, zip_split, at_place}
use Rattle.done_laws.proofs.Runs.{U, V, begins, ran_by, turns_by, spends_by}
use Rattle.unmarked_laws.proofs.Down.{IsOfLink, last_push}
use Rattle.unmarked_laws.proofs.Fallen.{out_spells, IsBehind, is_unlinked, last_talk}

-- ---- whether a link is up

abbrev up_marked : Bool → List Mark → Bool
up_marked up [] = up
up_marked up (Occurred one ∷ marks) = up_marked up marks
up_marked up (Turned event ∷ marks) = up_marked (linked_by event) marks

talk_marked : (up : Bool) (talk : List Talk) → up_marked up (flat_map talk_marks talk) ≡ up_after up talk
talk_marked up [] = refl
talk_marked up (Told (Linked Up) ∷ talk) = talk_marked true talk
talk_marked up (Told (Linked (Down reason)) ∷ talk) = talk_marked false talk
talk_marked up (Told (Failed status) ∷ talk) = talk_marked up talk
talk_marked up (Told (Heard pdu) ∷ talk) = talk_marked up talk
talk_marked up (Told TimerFired ∷ talk) = talk_marked up talk
talk_marked up (Told Cancelled ∷ talk) = talk_marked up talk
talk_marked up (Told (Opening name) ∷ talk) = talk_marked up talk
talk_marked up (Said pdu ∷ talk) = talk_marked up talk
talk_marked up (Unsent pdu ∷ talk) = talk_marked up talk
talk_marked up (Met fate checked ∷ talk) = talk_marked up talk
talk_marked up (Done outcome ∷ talk) = talk_marked up talk

occurred_marked : (up : Bool) (list : List channels.Occurrence) (rest : List Mark) → up_marked up (map Occurred list ++ rest) ≡ up_marked up rest
occurred_marked up [] rest = refl
occurred_marked up (one ∷ list) rest = occurred_marked up list rest

spans_marked : (up : Bool) (spans : List Span) (now : List channels.Occurrence) → up_marked up (all_marks spans now) ≡ up_behind up spans
spans_marked up [] now = ap (up_marked up) (sym (append-nil (marks_on now))) ∙ occurred_marked up (filter_map outer now) []
spans_marked up (span ∷ spans) now =
    ap (up_marked up) (append_assoc (span_marks span) (flat_map span_marks spans) (marks_on now) ∙ append_assoc (marks_on span.list) (Turned span.event ∷ []) (all_marks spans now))
    ∙ (occurred_marked up (filter_map outer span.list) (Turned span.event ∷ all_marks spans now) ∙ spans_marked (linked_by span.event) spans now)

-- ---- what is gained of a part is what it spells

bare_outer : (list : List channels.Occurrence) → AllByRecursion IsNoPdu list → AllByRecursion IsNoPdu (filter_map outer list)
bare_outer [] bare = tt
bare_outer (channels.Comes pdu ∷ list) bare = absurd bare.0
bare_outer (channels.Connects psm ∷ list) bare = bare_outer list bare.1
bare_outer (channels.AsksFeatures ∷ list) bare = bare_outer list bare.1
bare_outer (channels.Disconnects own ∷ list) bare = bare_outer list bare.1
bare_outer (channels.Sends own sdu ∷ list) bare = bare_outer list bare.1
bare_outer (channels.Gives pdu ∷ list) bare = (tt, bare_outer list bare.1)
bare_outer (channels.Fires ∷ list) bare = (tt, bare_outer list bare.1)
bare_outer (channels.Tells ∷ list) bare = bare_outer list bare.1

bare_unheard : (part : List Talk) → AllByRecursion IsNoPdu (flat_map talk_outer part) → AllByRecursion IsUnheard part
bare_unheard [] bare = tt
bare_unheard (Told (Linked event) ∷ part) bare = (tt, bare_unheard part bare)
bare_unheard (Told (Failed status) ∷ part) bare = (tt, bare_unheard part bare)
bare_unheard (Told (Heard pdu) ∷ part) bare = absurd bare.0
bare_unheard (Told TimerFired ∷ part) bare = (tt, bare_unheard part bare.1)
bare_unheard (Told Cancelled ∷ part) bare = (tt, bare_unheard part bare)
bare_unheard (Told (Opening name) ∷ part) bare = (tt, bare_unheard part bare)
bare_unheard (Said pdu ∷ part) bare = (tt, bare_unheard part bare.1)
bare_unheard (Unsent pdu ∷ part) bare = (tt, bare_unheard part bare.1)
bare_unheard (Met fate checked ∷ part) bare = (tt, bare_unheard part bare)
bare_unheard (Done outcome ∷ part) bare = (tt, bare_unheard part bare)

module _ (settings : Settings) (party : Party) (states : StatesFrame (policy settings true) party) where
  abbrev Q : Policy
  Q = policy settings true

  part_spells : (list : List channels.Occurrence) (part : List Talk) → CarriesOne (policy settings true) list → IsTalkOf (policy settings true) list part → IsServed (moved_in part) → (run_of (policy settings true) list).value.events ≡ []
      → objects_on party (moved_in part) ≡ gain party.packet [] (all_served (told_on (policy settings true) list))
  part_spells list part (inl bare) is served none =
      out_spells party (flat_map pdus_in part) (unheard_out part (bare_unheard part (subst (AllByRecursion IsNoPdu) is.outer_is (bare_outer list bare))))
      ∙ sym (gain_none party.packet [] (all_served (told_on Q list)) (served_none (told_on Q list) (none_told Q no_channels list bare)))
  part_spells list part (inr alone) is served none = sym (link_gain Q party states list alone none ∙ objects-move party (run_of Q list).said (moved_in part) is.waits is.talk_is is.go_out served)

-- as many parts stand behind as lists
none_behind : (F : List channels.Occurrence → List Talk → Type 0) (up : Bool) (rest : List (List channels.Occurrence)) (after : List (List Talk)) → IsOfLink up rest → AllZip F rest after → IsBehind up after
none_behind F true [] [] place zip = refl
none_behind F true [] (y ∷ after) place zip = absurd zip
none_behind F true (x ∷ rest) after place zip = cc
none_behind F false [] after place zip = let never : [] ≡ place.0 ∷ [] = place.1 in absurd cc
none_behind F false (x ∷ []) [] place zip = absurd zip
none_behind F false (x ∷ []) (y ∷ []) place zip = (y, refl)
none_behind F false (x ∷ []) (y ∷ z ∷ after) place zip = absurd zip.1
none_behind F false (x ∷ z ∷ rest) after place zip = let never : x ∷ z ∷ rest ≡ place.0 ∷ [] = place.1 in absurd cc

not_off : (b : Bool) → (b ≡ false → ⊥) → b ≡ true
not_off true other = refl
not_off false other = absurd (other refl)

-- ---- the last link

-- Its packets spell what is gained with what happened to the server in this push, which left its client so; and while it is up, this is the client of host a.
pub record LastHere (D : Client → Type 0) (settings : Settings) (past : List Entry) (client : Client) : Type 0 where
  pub one : Push
  pub offered : IsOffered one
  pub so : D (client_of one)
  pub ahead : List (List Saying)
  pub last : List Saying
  pub talks_are : talks sides.B past ≡ ahead ++ last ∷ []
  pub spelled : objects_on (party_of settings sides.B) last ≡ gain (own_maximum L2cap settings) [] (server_side one.moves)
  pub up_so : (link_up sides.B past ≡ None → ⊥) → client_of one ≡ client

-- or there was no link, and the client was so at first
abbrev pub FoundHere : (D : Client → Type 0) (settings : Settings) (past : List Entry) (client : Client) → Type 0
FoundHere D settings past client = ((link_up sides.B past ≡ None) × D (new_client settings)) ⊎ LastHere D settings past client

module _ (scenario : Scenario) (shelf before : List Object) (answers : List Answer) (enough : NoneShort answers) (direct : scenario.settings.transport ≡ L2cap) (D : Client → Type 0)
    (off : (list : List channels.Occurrence) (feeds : List Feed) (first last : ClientProfile) → WovenFed (client_profile scenario.settings) (both_ask.clients scenario.settings) list feeds first last → AllByRecursion HearsNothing list → D last.client → D first.client)
    (turned_off : (circumstances : List Circumstance) (event : LinkEvent) (v : Channels) (p : ClientProfile) → D (turned (client_profile scenario.settings) circumstances event v p).client → D p.client) where
  abbrev IsTold : Push → Type 0
  IsTold push = Offered (Some shelf) longest_octets push × GoesToObject push

  pub last_here : (done : List Happening) (world : TapedHosts Bool) → Runs (U scenario shelf before answers) (V scenario shelf before answers) done (begins scenario shelf before answers) world → world.radio.a.owed ≡ [] → world.radio.b.owed ≡ []
      → D world.a.upper.profile.client → FoundHere D scenario.settings (all_entries done) world.a.upper.profile.client
  last_here done world runs none_a none_b d =
      let settings = scenario.settings in
      let capture = all_entries done in
      let whole = sym (append-nil capture) in
      let ran = ran_by scenario shelf before answers capture done [] world runs tt whole in
      let so = turns_by scenario shelf before answers capture done [] world runs tt whole in
      let spends = spends_by scenario shelf before answers capture done [] world runs tt whole in
      let pairs = so.turns.pairs in
      let A = client_profile settings in
      let B = server_profile settings (holding before) in
      let near = pairs.a.fed.so in
      let far = pairs.b.fed.so in
      let b = pairs.b in
      let set = over_stored both_ask settings before in
      let maximum = (new_client settings).session.maximum in
      let wanted = (new_client settings).session.wanted in
      let small = none_longer (Some shelf) near.lives.feeds so.told in
      let run = run_offered NoneShort scenario before capture ran so.turns direct small (all_answer NoneShort far.lives.feeds (spends.enough enough)) in
      let sound = runs_sound scenario before capture ran pairs run.offered.twined in
      let order = is_in_order both_ask scenario before capture ran direct (asks-nothing settings (holding before)) b.came b.fed.so (pairs-are_whole both_ask scenario (holding before) capture ran pairs (record { clients = clients_within; servers = servers_within })).b in
      let given = clients_are_given_objects (Some shelf) settings A.first near.lives.feeds tt so.told in
      let captured = so.captured_b in
      let up : up_behind false far.lives.spans ≡ up_after false b.came.talk = sym (spans_marked false far.lives.spans far.lives.now) ∙ (ap (up_marked false) far.lives.marks_are ∙ talk_marked false b.came.talk) in
      elim (last_push set (IsAskedSo (Some shelf) longest_octets) (Good L2cap maximum wanted) IsTold (Sound set) (λ one client asked. good_affair L2cap maximum wanted longest_octets (omega arith) one client asked.0)
      (one_sound (Some shelf) set maximum wanted longest_octets (omega arith)) (none_sound (Some shelf) set maximum wanted longest_octets (omega arith)) D off turned_off
      (λ k. k) near.lives.spans near.lives.now near.lives.feeds A.first ran.world.a.upper.profile far.lives.spans far.lives.now far.lives.feeds B.first ran.world.b.upper.profile pairs.a.fed.fed pairs.b.fed.fed sound
      (subst (AreTimely false) (sym near.lives.marks_are) near.timely) (subst (AreTimely false) (sym far.lives.marks_are) far.timely) refl (good_first settings L2cap direct)
      (both_asked (Some shelf) longest_octets (pushed_from settings A.first near.lives.feeds) A.first.client (clients_are_answered longest_octets settings A.first near.lives.feeds small) given) (so.level none_a none_b) d) [
        | inl first ↦ inl (is_unlinked sides.B capture b.came.talk captured (sym up ∙ ap (up_behind false) first.0), first.1)
        | inr found ↦
            (let Q' = policy settings true in
            let zip = zip_split (IsTalkOf Q') found.ahead found.list found.rest (parts b.came.talk) (subst (λ (ls : List (List channels.Occurrence)). AllZip (IsTalkOf Q') ls (parts b.came.talk)) found.lists_are b.fed.so.talks_are) in
            let (before_it, part, after, parts_are, is, later) = zip in
            let behind = subst (λ (b : Bool). IsBehind b after) up (none_behind (IsTalkOf Q') (up_behind false far.lives.spans) found.rest after found.place later) in
            let last = last_talk sides.B capture b.came.talk captured before_it part after parts_are behind b.fed.so.timely in
            let (earlier, link, list_is, link_is) = split_links (links sides.B capture) last.ahead last.link last.links_are in
            let carries : CarriesOne Q' found.list =
            subst (CarriesOne Q') (ap (λ (ls : List (List channels.Occurrence)). get_or ls (length found.ahead) []) found.lists_are ∙ at_place found.ahead found.list found.rest [])
            (carries_at Q' far.lives.spans far.lives.now (subst (AreTimely false) (sym far.lives.marks_are) far.timely) order.carried order.carries (length found.ahead)) in
            let events : AllByRecursion (λ (l : List channels.Occurrence). (run_of Q' l).value.events ≡ []) (found.ahead ++ found.list ∷ found.rest) =
            subst (AllByRecursion (λ (l : List channels.Occurrence). (run_of Q' l).value.events ≡ [])) found.lists_are
            (all_lists (λ (l : List channels.Occurrence). (run_of Q' l).value.events ≡ []) far.lives.spans far.lives.now far.lives.spans_told (ap (λ (v : Channels). v.events) (sym far.lives.channels_run) ∙ far.lives.all_told)) in
            let told = (all_ahead (λ (l : List channels.Occurrence). (run_of Q' l).value.events ≡ []) found.ahead (found.list ∷ found.rest) events).1.0 in
            let served = (all_ahead (λ (p : List Talk). IsServed (moved_in p)) before_it (part ∷ after) (subst (AllByRecursion (λ (p : List Talk). IsServed (moved_in p))) parts_are order.granted)).1.0 in
            let party = party_of settings sides.B in
            let is_linked : (link_up sides.B capture ≡ None → ⊥) → up_after false b.came.talk ≡ true = λ linked. not_off (up_after false b.came.talk) (λ none. linked (is_unlinked sides.B capture b.came.talk captured none)) in
            let packet : party.packet ≡ own_maximum L2cap settings = ap (λ (t : Transport). own_maximum t settings) direct in
            inr (record {
              one = found.one;
              offered = found.one_pushed.0.0;
              so = found.so;
              ahead = map talk earlier;
              last = talk link;
              talks_are = ap (map talk) list_is ∙ map-append talk earlier (link ∷ []);
              spelled = ap (λ (l : List Pdu). objects_on party (flat_map said_by l)) link_is
                  ∙ (last.spells party served
                  ∙ (part_spells settings party (states_frame settings true sides.B) found.list part carries is served told
                  ∙ (ap (λ (n : ℕ). gain n [] (all_served (told_on Q' found.list))) packet
                  ∙ (ap (λ (l : List channels.Occurrence). gain (own_maximum L2cap settings) [] (all_served (told_on Q' l))) (sym found.list_is) ∙ sym (side_gained set found.one (found.list ∷ []) found.on)))));
              up_so = λ linked. found.up_so (up ∙ is_linked linked);
            }))
      ]
