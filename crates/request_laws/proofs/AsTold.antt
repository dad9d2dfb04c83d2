-- Host a of a run goes by what service discovery told it, on each of its links.
use Rattle.std.proofs.Common.{◌≡◌, Bool, true, false, List, [], ◌∷◌, ◌++◌, map, refl, sym, ap, subst, ◌∙◌}
use Rattle.std.specs.List.{AllByRecursion, AllZip, flat_map}
use Rattle.pair_laws.specs.bt_base.specs.declared.settings.Settings.{Settings}
use Rattle.pair_laws.specs.push_terms.specs.declared.word.Side.TheVariants as sides
use Rattle.pair_laws.specs.capture.specs.Links.{links}
use Rattle.pair_laws.specs.capture.specs.Pdus.{Pdu, pdus}
use Rattle.pair_laws.specs.link_talk.specs.declared.party.Party.{Party}
use Rattle.pair_laws.specs.link_talk.specs.Sayings.{Saying, said_by}
use Rattle.pair_laws.specs.channel_model.specs.Calls.{link_down}
use Rattle.pair_laws.specs.channel_model.specs.Policies.{Policy, policy}
use Rattle.pair_laws.specs.channel_model.specs.Value.{Channels, no_channels}
use Rattle.pair_laws.specs.channel_laws.specs.Frames.{AreUttered}
use Rattle.pair_laws.specs.channel_laws.specs.Runs.{Occurrence, run_of}
use Rattle.pair_laws.specs.world_model.specs.Machines.{LinkEvent, Up, Down, Linked, Failed, Heard, TimerFired, Cancelled, Opening}
use Rattle.pair_laws.specs.world_model.specs.Carriages.{linked_by}
use Rattle.pair_laws.specs.world_model.specs.Talks.{Talk, Told, Said, Unsent, Met, Done}
use Rattle.pair_laws.specs.host_model.specs.Circumstances.{Circumstance}
use Rattle.pair_laws.specs.host_model.specs.Clients.{ClientProfile, client_profile}
use Rattle.pair_laws.specs.host_model.specs.Hosts.{tells_each}
use Rattle.pair_laws.specs.host_model.specs.Profiles.{Profile}
use Rattle.pair_laws.specs.host_laws.specs.Asked.{BeginsNoneIf, AreAsked}
use Rattle.pair_laws.specs.host_laws.specs.Calls.{Asks, values_after}
use Rattle.pair_laws.specs.host_laws.specs.Calm.{pdus_in}
use Rattle.pair_laws.specs.host_laws.specs.ClientCalls.{AsksWell}
use Rattle.pair_laws.specs.host_laws.specs.Fed.{WovenFed, FedSpan, span_feeds, behind_span, AreFed}
use Rattle.pair_laws.specs.host_laws.specs.Feeds.{Feed}
use Rattle.pair_laws.specs.host_laws.specs.InOrder.{CallsInOrder}
use Rattle.pair_laws.specs.host_laws.specs.Lives.{Span, all_marks}
use Rattle.pair_laws.specs.host_laws.specs.OverLinks.{IsTalkOf, parts, talk_outer, AreTimely}
use Rattle.pair_laws.specs.host_laws.specs.Searching.{AsksAsItSteps, ComesInOctets, BeginsSearch}
use Rattle.pair_laws.specs.host_laws.specs.Seen.{spoken_of}
use Rattle.pair_laws.specs.host_laws.specs.Services.{Follows, GoesAsTold}
use Rattle.pair_laws.specs.host_laws.specs.Woven.{TalksWoven, turned}
use Rattle.pair_laws.specs.host_laws.proofs.Asking.{hosts_ask}
use Rattle.pair_laws.specs.host_laws.proofs.ClientCalls.{clients-ask_in_order}
use Rattle.pair_laws.specs.host_laws.proofs.FramesSent.{IsOver}
use Rattle.pair_laws.specs.host_laws.proofs.GoingAsTold.{first_over, fed_over, link_goes}
use Rattle.pair_laws.specs.host_laws.proofs.OverLinks.{fed_woven}
use Rattle.pair_laws.specs.host_laws.proofs.Paging.{PagesSo, first_pages, fed_pages, wanted_begins}
use Rattle.pair_laws.specs.host_laws.proofs.SearchingWeave.{each_split, all_split}
use Rattle.pair_laws.specs.host_laws.proofs.SearchUp.{outer_octets}
use Rattle.pair_laws.specs.host_laws.proofs.Stepping.{clients_step}
use Rattle.pair_laws.specs.host_laws.proofs.StrandsFed.{here_so, span_so}
use Rattle.pair_laws.specs.scenario_laws.specs.Parties.{party_of}
use Rattle.pair_laws.specs.scenario_laws.proofs.Gentle.{IsTameInto, IsTamePart, fallen, both_tame}
use Rattle.pair_laws.specs.scenario_laws.proofs.UnlinkedClients.{HasNoLink, clients_keep}
use Rattle.pair_laws.proofs.Moved.{links_move, each_link, each_talk}
use Rattle.pair_laws.proofs.Pairing.{hosts-take_turns}
use Rattle.request_laws.specs.AsTold.{RunsUseService}
use Rattle.request_laws.specs.BothFed.{IsDown}
use Rattle.request_laws.proofs.Feeding.{all_both}
use Rattle.request_laws.proofs.Linked.{wanted_up, down_off}
use Rattle.request_laws.proofs.Opening.{turned_free}
use Rattle.request_laws.proofs.Paired.{lists_of}
use Rattle.request_laws.proofs.Quiet.{says_nothing}
use Rattle.request_laws.proofs.Timely.{HearsNothing, is_up, goes_down, is_deaf, is_deaf_now, is_down}

-- ---- what comes in is octets

talk_octets : (one : Talk) → AllByRecursion IsTameInto (pdus_in one) → AllByRecursion ComesInOctets (talk_outer one)
talk_octets (Told (Linked event)) tame = tt
talk_octets (Told (Failed status)) tame = tt
talk_octets (Told (Heard pdu)) tame = ((tame.0 refl).0, tt)
talk_octets (Told TimerFired) tame = (tt, tt)
talk_octets (Told Cancelled) tame = tt
talk_octets (Told (Opening name)) tame = tt
talk_octets (Said pdu) tame = (tt, tt)
talk_octets (Unsent pdu) tame = (tt, tt)
talk_octets (Met fate checked) tame = tt
talk_octets (Done outcome) tame = tt

part_octets : (part : List Talk) → IsTamePart part → AllByRecursion ComesInOctets (flat_map talk_outer part)
part_octets [] tame = tt
part_octets (one ∷ part) tame =
    let both = all_split IsTameInto (pdus_in one) (flat_map pdus_in part) tame in all_both ComesInOctets (talk_outer one) (flat_map talk_outer part) (talk_octets one both.0) (part_octets part both.1)

lists_octets : (policy : Policy) (lists : List (List Occurrence)) (parts : List (List Talk)) → AllZip (IsTalkOf policy) lists parts → AllByRecursion IsTamePart parts → AllByRecursion (AllByRecursion ComesInOctets) lists
lists_octets policy [] [] zip tame = tt
lists_octets policy [] (part ∷ parts) zip tame = absurd zip
lists_octets policy (list ∷ lists) [] zip tame = absurd zip
lists_octets policy (list ∷ lists) (part ∷ parts) zip tame =
    (outer_octets list (subst (AllByRecursion ComesInOctets) (sym zip.0.outer_is) (part_octets part tame.0)), lists_octets policy lists parts zip.1 tame.1)

-- ---- over all links

module _ (settings : Settings) (party : Party) where
  abbrev A : Profile ClientProfile
  A = client_profile settings

  abbrev asks : Asks (client_profile settings)
  asks = hosts_ask.clients settings

  abbrev wanted : Policy
  wanted = policy settings false

  as_steps : AsksAsItSteps settings (hosts_ask.clients settings)
  as_steps = clients_step settings

  abbrev Wants : ClientProfile → Type 0
  Wants p = (client_profile settings).wants_link p ≡ true

  abbrev AsTold : List Occurrence → Type 0
  AsTold list = GoesAsTold party settings.transport (spoken_of (run_of (policy settings false) list).said)

  -- where it stands ahead of a link
  record Stands (p : ClientProfile) : Type 0 where
    free : HasNoLink p
    pages : PagesSo p
    over : IsOver settings.transport p.client

  deaf_told : (list : List Occurrence) (feeds : List Feed) (first last : ClientProfile) → WovenFed A asks list feeds first last → HasNoLink first → AllByRecursion HearsNothing list → AsTold list
  deaf_told list feeds first last so free deaf = subst (λ l. GoesAsTold party settings.transport (spoken_of l)) (sym (says_nothing settings asks as_steps list first last so.woven free deaf)) tt

  -- what is known of what happened on a link
  record Known (list : List Occurrence) : Type 0 where
    uttered : AreUttered (policy settings false) list
    octets : AllByRecursion ComesInOctets list
    order : CallsInOrder settings.transport (policy settings false) list

  all_known : (lists : List (List Occurrence)) → AllByRecursion (AreUttered wanted) lists → AllByRecursion (AllByRecursion ComesInOctets) lists → AllByRecursion (AsksWell settings) lists → AllByRecursion Known lists
  all_known [] uttered octets well = tt
  all_known (list ∷ lists) uttered octets well = (record { uttered = uttered.0; octets = octets.0; order = well.0.0 }, all_known lists uttered.1 octets.1 well.1)

  -- ---- a link

  span_over : (span : Span) (p : ClientProfile) (fed : FedSpan A asks span p) → IsOver settings.transport p.client → IsOver settings.transport (behind_span A asks span p fed).client
  span_over span p fed over = subst (λ (q : ClientProfile). IsOver settings.transport q.client) (span_so A asks span p fed) (fed_over settings (span_feeds A asks span p fed) p over)

  -- it comes up where its client wants one
  up_told : (near : Span) (client : ClientProfile) (here : FedSpan A asks near client) (list : List Occurrence) (feeds : List Feed) (last : ClientProfile) → near.event ≡ Up → Wants here.mid → Stands client → (so : WovenFed A asks list feeds (behind_span A asks near client here) last)
      → BeginsNoneIf (linked_by near.event) so.woven.weave → Known list → AsTold list
  up_told near client here list feeds last up wants stands so none known =
      let turns = λ (event : LinkEvent). turned A here.circumstances event (values_after wanted no_channels near.list) here.mid in
      let pages : PagesSo here.mid = subst PagesSo (here_so A asks near client here) (fed_pages settings here.here client stands.pages) in
      let begins : BeginsSearch (behind_span A asks near client here) = subst BeginsSearch (ap turns (sym up)) (wanted_begins settings here.circumstances here.mid pages wants) in
      link_goes settings party asks as_steps list (behind_span A asks near client here) last (span_over near client here stands.over)
      (record { woven = so.woven; begins = subst (λ event. BeginsNoneIf (linked_by event) so.woven.weave) up none; first_is = begins; uttered = known.uttered; octets = known.octets }) known.order

  -- and goes down
  down_free : (circumstances : List Circumstance) (event : LinkEvent) (v : Channels) (p : ClientProfile) → IsDown event → HasNoLink (turned A circumstances event v p)
  down_free circumstances Up v p down = absurd down
  down_free circumstances (Down reason) v p down = let w = link_down v in (clients_keep settings).down circumstances reason (tells_each A w.events w p)

  off_link : (link : Span) (up : ClientProfile) (there : FedSpan A asks link up) → IsDown link.event → IsOver settings.transport up.client → Stands (behind_span A asks link up there)
  off_link link up there down over = record {
    free = down_free there.circumstances link.event (values_after wanted no_channels link.list) there.mid down;
    pages = λ pages. never (sym (turned_free settings there.circumstances link.event (values_after wanted no_channels link.list) there.mid) ∙ pages);
    over = span_over link up there over;
  }
    where
      never : {X : Type 0} → false ≡ true → X
      never is = cc

  -- ---- one after the other

  links_told : (spans : List Span) (now : List Occurrence) (feeds : List Feed) (client last : ClientProfile) (fed : AreFed A asks spans now feeds client last) → AreAsked A asks Wants false spans now feeds client last fed → AreTimely false (all_marks spans now) → Stands client → AllByRecursion Known (lists_of spans now)
      → AllByRecursion AsTold (lists_of spans now)
  links_told [] now feeds client last fed asked timely stands known = (deaf_told now feeds client last fed stands.free (is_deaf_now now timely), tt)
  links_told (near ∷ []) now feeds client last (here, later, is, fed) (ahead, wanted', none) timely stands known =
      let up_is = is_up near [] now timely in
      let deaf = is_deaf near [] now up_is timely in (
        deaf_told near.list here.here client here.mid here.so stands.free deaf.deaf,
        (up_told near client here now later last up_is (wanted_up Wants near.event here.mid up_is wanted') stands fed none known.1.0, tt),
      )
  links_told (near ∷ link ∷ spans) now feeds client last (here, later, is, (there, rest, are, fed)) (ahead, wanted', (none, down_wanted, more)) timely stands known =
      let up_is = is_up near (link ∷ spans) now timely in
      let deaf = is_deaf near (link ∷ spans) now up_is timely in
      let down = goes_down link spans now deaf.rest in
      let up = behind_span A asks near client here in
      let after = behind_span A asks link up there in (
        deaf_told near.list here.here client here.mid here.so stands.free deaf.deaf,
        (
          up_told near client here link.list there.here there.mid up_is (wanted_up Wants near.event here.mid up_is wanted') stands there.so none known.1.0,
          links_told spans now rest after last fed (subst (λ (b : Bool). AreAsked A asks Wants b spans now rest after last fed) (down_off link.event down) more) (is_down link spans now down deaf.rest) (off_link link up there down (span_over near client here stands.over)) known.1.1,
        ),
      )

-- ---- of a run

fronts_go : (settings : Settings) (party : Party) (front behind : List Saying) → GoesAsTold party settings.transport (front ++ behind) → GoesAsTold party settings.transport front
fronts_go settings party front behind goes = (each_split (Follows party settings.transport) [] front behind goes).0

pub runs_use_service : RunsUseService
runs_use_service scenario content capture ran =
    let settings = scenario.settings in
    let party = party_of settings sides.A in
    let C = client_profile settings in
    let turns = hosts-take_turns hosts_ask scenario content capture ran in
    let a = turns.pairs.a in
    let lives = a.fed.so.lives in
    let wanted = policy settings false in
    let lists = lists_of lives.spans lives.now in
    let woven : TalksWoven C (hosts_ask.clients settings) a.came.talk ran.world.a.upper = record { so = a.fed.so; woven = fed_woven C (hosts_ask.clients settings) lives.spans lives.now lives.feeds C.first ran.world.a.upper.profile a.fed.fed } in
    let known = all_known settings party lists a.uttered (lists_octets wanted lists (parts a.came.talk) a.fed.so.talks_are (fallen (parts a.came.talk) (map pdus (links sides.A capture)) a.came.fall (both_tame scenario content capture ran).a))
    (clients-ask_in_order settings (hosts_ask.clients settings) a.came.talk ran.world.a.upper (clients_step settings) woven) in
    let first : Stands settings party C.first = record { free = (clients_keep settings).first; pages = first_pages settings; over = first_over settings } in
    let told = links_told settings party lives.spans lives.now lives.feeds C.first ran.world.a.upper.profile a.fed.fed turns.asked (subst (AreTimely false) (sym lives.marks_are) a.fed.so.timely) first known in
    each_talk (GoesAsTold party settings.transport) (links sides.A capture)
    (each_link (λ (moved : List Pdu). GoesAsTold party settings.transport (flat_map said_by moved)) (links sides.A capture)
    (links_move (GoesAsTold party settings.transport) (fronts_go settings party) wanted lists (parts a.came.talk) (map pdus (links sides.A capture)) a.fed.so.talks_are a.came.fall told))
