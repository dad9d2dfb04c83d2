-- The client of a run searches on each of its links, and a push that is cancelled in its search has sent what it asked for.
use Rattle.std.proofs.Common.{◌≡◌, ℕ, inl, Bool, true, false, List, [], ◌∷◌, Option, Some, None, refl, sym, ap, subst, ◌∙◌, if◌then◌else◌}
use Rattle.std.specs.List.{AllByRecursion, flat_map}
use Rattle.std.specs.Option.{option_map}
use Rattle.radio_world.specs.bt_base.specs.Objects.{Contents}
use Rattle.radio_world.specs.bt_base.specs.Octets.{IsOctets}
use Rattle.radio_world.specs.bt_base.specs.declared.settings.Settings.{Settings}
use Rattle.radio_world.specs.push_terms.specs.declared.word.Side.TheVariants as sides
use Rattle.radio_world.specs.push_terms.specs.declared.word.Side.TheVariants.{A, B}
use Rattle.radio_world.specs.push_terms.specs.declared.word.Way.TheVariants.{Ab, Ba}
use Rattle.radio_world.specs.push_terms.specs.declared.word.Word.{Word}
use Rattle.radio_world.specs.capture.specs.Entries.{Entry}
use Rattle.radio_world.specs.capture.specs.Links.{Link, link_up}
use Rattle.radio_world.specs.capture.specs.Pdus.{Pdu, pdus}
use Rattle.radio_world.specs.radio_model.specs.declared.deed.Deed.{Deed}
use Rattle.radio_world.specs.radio_model.specs.declared.deed.Deed.TheVariants.{Nothing, Meets, Fires, FiresBoth, Breaks, Cancels}
use Rattle.host_laws.specs.channel_model.specs.Giving.{next_given}
use Rattle.host_laws.specs.channel_model.specs.Policies.{policy}
use Rattle.host_laws.specs.channel_model.specs.Value.{Channels}
use Rattle.host_laws.specs.channel_laws.specs.Runs.{run_of}
use Rattle.host_laws.specs.push_model.specs.declared.course.Point.TheVariants.{Asked}
use Rattle.host_laws.specs.push_model.specs.declared.course.Stage.TheVariants.{Link as Paged}
use Rattle.host_laws.specs.push_model.specs.Events.{is_linked}
use Rattle.host_laws.specs.turn_laws.proofs.Advancing.{Both, advances}
use Rattle.host_laws.specs.turn_laws.proofs.Finishing.{nothing_more}
use Rattle.host_laws.specs.turn_laws.proofs.Recounting.{IsOfScript, RestsIn, CarriesSo}
use Rattle.host_laws.specs.turn_laws.proofs.Running.{first_both}
use Rattle.host_laws.specs.world_model.specs.Machines.{LinkEvent, Up, Linked, Failed, Heard, TimerFired, Cancelled, Opening, Upper}
use Rattle.host_laws.specs.world_model.specs.Talks.{Talk}
use Rattle.host_laws.specs.world_model.specs.PerLink.{Linkage, linkage, captured}
use Rattle.host_laws.specs.world_model.specs.Carriages.{End, Carriage, Motion, Saying, Departure, Arrival, Telling, DoesMotion, IsIdle, Doing, Moved, Deeds, Misses, Rises, Falls, Opens, Closes, ActsOn, finds, told, IsDone, first_carriage}
use Rattle.host_laws.specs.world_model.specs.Worlds.{all_entries}
use Rattle.host_laws.specs.host_model.specs.Circumstances.{Circumstance}
use Rattle.host_laws.specs.host_model.specs.Hosts.{Host, hear, next}
use Rattle.host_laws.specs.host_model.specs.Profiles.{Profile}
use Rattle.host_laws.specs.host_model.specs.Clients.{ClientProfile, client_profile}
use Rattle.host_laws.specs.host_model.specs.Servers.{ServerProfile, server_profile}
use Rattle.host_laws.specs.host_model.specs.Machines.{client_host, server_host}
use Rattle.host_laws.specs.Acts.{Act, Hears, Says}
use Rattle.host_laws.specs.Calls.{Asks}
use Rattle.host_laws.specs.Calm.{HoldsNothingBack, pdus_in}
use Rattle.host_laws.specs.Read.{IsActSo}
use Rattle.host_laws.specs.Searching.{AsksAsItSteps}
use Rattle.host_laws.specs.SearchOrder.{SearchesInOrder, SearchesWell, Admits, IsSent}
use Rattle.host_laws.proofs.Fitting.{IsProper, any-holds, FitHost, AnyServer, IsLowClient, clients-keep_fit}
use Rattle.host_laws.proofs.SearchHosts.{hosts_search_well}
use Rattle.host_laws.proofs.SearchSent.{searches_are_sent}
use Rattle.host_laws.proofs.SearchUp.{TalksSearching, searches_up}
use Rattle.scenario_laws.specs.Captures.{client_of, server_of}
use Rattle.scenario_laws.specs.Searched.{CameSearchingAt, RunsSearch}
use Rattle.scenario_laws.proofs.Acting.{ActedSo, first_acted}
use Rattle.scenario_laws.proofs.Both.{ActedEnd, ActedBoth, AreReady, idle_acted, done_both}
use Rattle.scenario_laws.proofs.Carrying.{carried_so}
use Rattle.scenario_laws.proofs.Free.{free_where, free_acts, rests_hold}
use Rattle.scenario_laws.proofs.Freeing.{runs_are_free, runs_hold_back_nothing}
use Rattle.scenario_laws.proofs.Fronts.{fits}
use Rattle.scenario_laws.proofs.Gentle.{IsTameAct, since_tame, link_gentle, host-tames, client-keeps, server-keeps}
use Rattle.scenario_laws.proofs.Onward.{Awaited, IsOnto, rests_at, done_onto}
use Rattle.scenario_laws.proofs.Rising.{Rose, RoseTo, IsRisen, rose_now, done-risen}
use Rattle.scenario_laws.proofs.Taming.{AreTameTalks, TameBoth, done-tame}
use Rattle.scenario_laws.proofs.Unlinked.{Off, acts_off}
use Rattle.scenario_laws.proofs.UnlinkedClients.{HasNoLink, clients_keep}

acts_octets : (acts : List (Act Circumstance)) → AllByRecursion IsTameAct acts → AllByRecursion (IsActSo IsOctets) acts
acts_octets [] tame = tt
acts_octets (Hears gifts (Linked event) ∷ acts) tame = (tt, acts_octets acts tame.1)
acts_octets (Hears gifts (Failed status) ∷ acts) tame = (tt, acts_octets acts tame.1)
acts_octets (Hears gifts (Heard pdu) ∷ acts) tame = (tame.0.0, acts_octets acts tame.1)
acts_octets (Hears gifts TimerFired ∷ acts) tame = (tt, acts_octets acts tame.1)
acts_octets (Hears gifts Cancelled ∷ acts) tame = (tt, acts_octets acts tame.1)
acts_octets (Hears gifts (Opening name) ∷ acts) tame = (tt, acts_octets acts tame.1)
acts_octets (Says pdu ∷ acts) tame = (tt, acts_octets acts tame.1)

-- its push waits for its link, and its question is a new one
abbrev WaitsForLink : Host ClientProfile → Type 0
WaitsForLink host = (host.profile.client.stage ≡ Paged Asked) × SearchesInOrder host.profile.client

module _ (settings : Settings) (asks : Asks (client_profile settings)) (steps : AsksAsItSteps settings asks) where
  abbrev A' : Profile ClientProfile
  A' = client_profile settings

  abbrev U : Upper (Host ClientProfile) Circumstance
  U = client_host settings

  abbrev W : Bool → Host ClientProfile → Type 0
  W = free_where (client_profile settings)

  -- ---- host a where it has said all

  -- on its link
  searching_up : (talk : List Talk) (now : Host ClientProfile) (rose : Rose U W WaitsForLink talk now) → AreTameTalks talk → next A' now ≡ None → HoldsNothingBack A' now → TalksSearching settings asks talk now rose.since.on
  searching_up talk now rose tame none back =
      let on = rose.since.on in
      let heard = since_tame A' talk now on tame in
      let whatever = clients-keep_fit settings (λ pdu. Unit {0}) (λ v. Unit {0}) (any-holds (policy settings false)) in
      searches_up settings asks talk now on rose.begins (acts_octets on.acts heard)
      (link_gentle A' IsLowClient HasNoLink (client-keeps settings) (clients_keep settings) talk now on whatever heard (free_acts A' on.acts true (hear A' on.gifts (Linked Up) on.old) rose.since.so)) none back rose.from.0 rose.from.1

  -- and without one
  off_now : (now : Host ClientProfile) (talk : List Talk) → ActedSo U W false now [] talk → Off A' HasNoLink (clients_keep settings) now
  off_now now talk acted =
      let over = acted.went.went.over in
      subst (Off A' HasNoLink (clients_keep settings)) (sym acted.says)
      (acts_off A' HasNoLink (clients_keep settings) over.acts false U.first acted.mid over.acting over.in_turn (λ down. record { channels_are = refl; profile_is = (clients_keep settings).first }) acted.went.went.up_is)

  admits : (e : End (Host ClientProfile)) → IsIdle U e → (e.linked ≡ true → W false e.upper) → ActedEnd U W e → AreTameTalks e.talk → IsRisen U W WaitsForLink e → Admits Cancelled e.upper
  admits e idle free acted tame risen = by e.linked refl
    where
      by : (linked : Bool) → e.linked ≡ linked → Admits Cancelled e.upper
      by true is =
          let quiet = idle.said_all is in
          let none = free is quiet.none_next in
          let rose = rose_now U W WaitsForLink e.upper e.talk (subst (λ (w : List (List ℕ)). RoseTo U W WaitsForLink e.upper w e.talk) quiet.none_waits (risen is)) in
          let way = searching_up e.talk e.upper rose tame quiet.none_next (free is) in
          let lives = way.so.lives in
          let back : (run_of (policy settings false) lives.now).value ≡ e.upper.channels = sym lives.channels_run in (
            none,
            λ at. subst (λ (v : Channels). IsSent e.upper.profile.submitted v e.upper.profile.client.given) back
                (searches_are_sent settings asks lives.now way.first e.upper.profile steps way.searches way.calm (ap (λ (v : Channels). v.events) back ∙ lives.all_told) (ap next_given back ∙ none) at),
          )
      by false is =
          let off = off_now e.upper e.talk (subst (λ (l : Bool). ActedSo U W l e.upper [] e.talk) is (idle_acted U W e idle acted)) in
          (ap next_given off.channels_are, λ at. let never : false ≡ true = sym off.profile_is.free ∙ ap is_linked at in cc)

  -- ---- all that happens

  motion_well : (motion : Motion) (e e' : End (Host ClientProfile)) → DoesMotion U motion e e' → SearchesWell e.upper → SearchesWell e'.upper
  motion_well (Saying pdu) e e' does well = rw does.is (hosts_search_well.says settings e.upper pdu does.after does.next well)
  motion_well (Departure pdu) e e' does well = rw does.is well
  motion_well (Arrival pdu) e e' does well = rw does.is (hosts_search_well.hears settings does.answers (Heard pdu) e.upper tt well)
  motion_well (Telling event) e e' does well = rw does.is (hosts_search_well.hears settings does.answers (Linked event) e.upper tt well)

  fired_well : (gifts : List Circumstance) (armed : Bool) (e : End (Host ClientProfile)) → SearchesWell e.upper → (let f = if armed then told U gifts TimerFired e else e in SearchesWell f.upper)
  fired_well gifts true e well = hosts_search_well.hears settings gifts TimerFired e.upper tt well
  fired_well gifts false e well = well

  module _ (content : Option Contents) where
    abbrev V : Upper (Host ServerProfile) Circumstance
    V = server_host settings content

    abbrev X : Bool → Host ServerProfile → Type 0
    X = free_where (server_profile settings content)

    deed_well : (deed : Deed) (old new : Carriage (Host ClientProfile) (Host ServerProfile)) → ActsOn U V deed old new → Admits Cancelled old.a.upper → SearchesWell old.a.upper → SearchesWell new.a.upper
    deed_well Nothing old new acts may well = absurd acts
    deed_well (Meets Ab fate) old new (e, f, meets, same) may well = rw same (rw meets.one_is well)
    deed_well (Meets Ba fate) old new (e, f, meets, same) may well = rw same (rw meets.other_is well)
    deed_well (Fires A) old new (armed, g, same) may well = rw same (hosts_search_well.hears settings g TimerFired old.a.upper tt well)
    deed_well (Fires B) old new (armed, h, same) may well = rw same well
    deed_well FiresBoth old new (armed, g, h, same) may well = rw same (fired_well g (U.armed old.a.upper) old.a well)
    deed_well Breaks old new same may well = rw same well
    deed_well Cancels old new (going, g, same) may well = rw same (hosts_search_well.hears settings g Cancelled old.a.upper may well)

    done_well : (doing : Doing) (old new : Carriage (Host ClientProfile) (Host ServerProfile)) → IsDone U V doing old new → ((word : Word) → doing ≡ Deeds word → Admits Cancelled old.a.upper) → SearchesWell old.a.upper → SearchesWell new.a.upper
    done_well (Moved A motion) old new (e, does, same) may well = rw same (motion_well motion old.a e does well)
    done_well (Moved B motion) old new (f, does, same) may well = rw same well
    done_well (Deeds word) old new (rest, acts) may well = deed_well (finds word old) old new acts (may word refl) well
    done_well (Misses word) old new (rest, nothing, same) may well = rw same well
    done_well Rises old new (down, idle, going, wants, same) may well = rw same well
    done_well (Falls A) old new (up, idle, leaves, same) may well = rw same well
    done_well (Falls B) old new (up, idle, leaves, same) may well = rw same well
    done_well (Opens name) old new (down, idle, rests, next, g, same) may well = rw same (hosts_search_well.hears settings g (Opening name) old.a.upper (rests_at old.a.upper.profile.client.stage rests) well)
    done_well (Closes outcome) old new (down, idle_a, idle_b, going, rests, is, same) may well = rw same well

    record Seeks (c : Carriage (Host ClientProfile) (Host ServerProfile)) : Type 0 where
      both : Both U V c
      acted : ActedBoth U V W X c
      tame : TameBoth (FitHost (IsProper (policy settings false)) IsLowClient) (FitHost (IsProper (policy settings true)) AnyServer) c
      onto : IsOnto c.a
      well : SearchesWell c.a.upper
      risen : IsRisen U W WaitsForLink c.a

    may_cancel : (doing : Doing) (old new : Carriage (Host ClientProfile) (Host ServerProfile)) → IsDone U V doing old new → RestsIn (AreReady U V W X) doing old → Seeks old → (word : Word) → doing ≡ Deeds word → Admits Cancelled old.a.upper
    may_cancel (Deeds other) old new (rest, acts) ready seeks word is = admits old.a rest.idle_a (λ on. (ready.0 on).0) seeks.acted.a seeks.tame.a.talk seeks.risen
    may_cancel (Moved side motion) old new does ready seeks word is = cc
    may_cancel (Misses other) old new does ready seeks word is = cc
    may_cancel Rises old new does ready seeks word is = cc
    may_cancel (Falls side) old new does ready seeks word is = cc
    may_cancel (Opens name) old new does ready seeks word is = cc
    may_cancel (Closes outcome) old new does ready seeks word is = cc

    carries_seeks : (doings : List Doing) (old new : Carriage (Host ClientProfile) (Host ServerProfile)) → AllByRecursion IsOfScript doings → CarriesSo U V (AreReady U V W X) doings old new → Seeks old → Seeks new
    carries_seeks [] old new script same seeks = subst Seeks (sym same) seeks
    carries_seeks (doing ∷ doings) old new script (mid, (does, ready), runs) seeks =
        let one = host-tames A' IsLowClient (client-keeps settings) in
        let other = host-tames (server_profile settings content) AnyServer (server-keeps settings content) in
        carries_seeks doings mid new script.1 runs (record {
          both = (advances U V doing old nothing_more nothing_more mid does seeks.both).both;
          acted = done_both U V W X doing old mid does ready seeks.both seeks.acted;
          tame = done-tame U V (FitHost (IsProper (policy settings false)) IsLowClient) (FitHost (IsProper (policy settings true)) AnyServer) one other doing old mid script.0 does seeks.tame;
          onto = done_onto settings V doing old mid does seeks.both seeks.onto;
          well = done_well doing old mid does (may_cancel doing old mid does ready seeks) seeks.well;
          risen = done-risen U W WaitsForLink V X doing old mid does ready seeks.both seeks.acted.a
              (λ more first. ((subst (λ (owed : List LinkEvent). Awaited owed old.a.upper.profile.client.stage) first seeks.onto.owed).0, seeks.well.0)) seeks.risen;
        })

    all_seek : (size : ℕ) (names : List (List ℕ)) (doings : List Doing) (c : Carriage (Host ClientProfile) (Host ServerProfile)) → AllByRecursion IsOfScript doings → CarriesSo U V (AreReady U V W X) doings (first_carriage U V size names) c → Seeks c
    all_seek size names doings c script runs =
        let one = host-tames A' IsLowClient (client-keeps settings) in
        let other = host-tames (server_profile settings content) AnyServer (server-keeps settings content) in
        carries_seeks doings (first_carriage U V size names) c script runs (record {
          both = first_both U V size names;
          acted = record { a = record { acted = first_acted U W; ready = inl refl }; b = record { acted = first_acted V X; ready = inl refl } };
          tame = record { a = record { upper = one.first; waiting = tt; queue = tt; coming = tt; talk = tt }; b = record { upper = other.first; waiting = tt; queue = tt; coming = tt; talk = tt } };
          onto = record { so = record { suits = refl; linked = λ on. cc }; owed = tt };
          well = hosts_search_well.first settings;
          risen = λ on. cc;
        })

-- ---- at rest

-- it knows of the link that is up
told_up : {S G : Type 0} (V : Upper S G) (W : Bool → S → Type 0) (past : List Entry) (linked : Bool) (now : S) (talk : List Talk) → ActedSo V W linked now [] talk → linkage talk ≡ captured sides.A past → (link : Link) → link_up sides.A past ≡ Some link → linked ≡ true
told_up V W past true now talk acted known link is = refl
told_up V W past false now talk acted known link is =
    let none : option_map pdus (link_up sides.A past) ≡ None = ap (λ (l : Linkage). l.up) (sym known) ∙ (acted.parted.down refl).1 in
    let never : Some (pdus link) ≡ None = ap (option_map pdus) (sym is) ∙ none in
    cc

moved_on : (past : List Entry) (talk : List Talk) (link : Link) (moved : List Pdu) → linkage talk ≡ captured sides.A past → link_up sides.A past ≡ Some link → (linkage talk).up ≡ Some moved → moved ≡ pdus link
moved_on past talk link moved known is up =
    let both : Some (pdus link) ≡ Some moved = ap (option_map pdus) (sym is) ∙ (ap (λ (l : Linkage). l.up) (sym known) ∙ up) in
    cc

pub runs_search : RunsSearch
runs_search asks scenario content happenings world steps there rest = by (link_up sides.A (all_entries happenings)) refl
  where
    by : (found : Option Link) → link_up sides.A (all_entries happenings) ≡ found → CameSearchingAt scenario.settings (asks.clients scenario.settings) found world.a.upper
    by None is = tt
    by (Some link) is =
        let settings = scenario.settings in
        let past = all_entries happenings in
        let U = client_of scenario in
        let V = server_of scenario content in
        let W = free_where (client_profile settings) in
        let X = free_where (server_profile settings content) in
        let all = carried_so U V (AreReady U V W X) scenario.acl_length scenario.acl_count scenario.names happenings world (fits scenario content) there (rests_hold scenario content happenings (runs_are_free scenario content happenings)) in
        let seeks = all_seek settings (asks.clients settings) steps content scenario.acl_length scenario.names all.doings _ all.of_script all.so in
        let idle = (all.rests rest).idle_a in
        let on = told_up U W past world.radio.a.up world.a.upper all.talk_a (idle_acted U W _ idle seeks.acted.a) all.links_a link is in
        let quiet = idle.said_all on in
        let rose = rose_now U W WaitsForLink world.a.upper all.talk_a (subst (λ (w : List (List ℕ)). RoseTo U W WaitsForLink world.a.upper w all.talk_a) quiet.none_waits (seeks.risen on)) in
        let way = searching_up settings (asks.clients settings) steps all.talk_a world.a.upper rose seeks.tame.a.talk quiet.none_next (runs_hold_back_nothing scenario content happenings world there).a in
        let since = rose.since in
        record {
          came = record { talk = all.talk_a; on = since.on; moved_is = moved_on past all.talk_a link (flat_map pdus_in since.on.since) all.links_a is since.links_are };
          so = way.so;
          first = way.first;
          searches = way.searches;
          well = seeks.well;
        }
