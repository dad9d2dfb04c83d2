-- Over RFCOMM the inbox of host b gains what the capture spells.
use Rattle.std.proofs.Common.{◌≡◌, false, List, [], ◌∷◌, ◌++◌, map, Some, refl, sym, ap, subst, ◌∙◌}
use Rattle.std.specs.List.{AllByRecursion, AllZip, flat_map}
use Rattle.pair_laws.specs.bt_base.specs.declared.settings.Transport.{Transport}
use Rattle.pair_laws.specs.bt_base.specs.declared.settings.Transport.TheVariants.{Rfcomm}
use Rattle.pair_laws.specs.bt_base.specs.Objects.{Object}
use Rattle.pair_laws.specs.push_script.specs.declared.scenario.Scenario.{Scenario}
use Rattle.pair_laws.specs.push_terms.specs.declared.word.Side.TheVariants as sides
use Rattle.pair_laws.specs.capture.specs.Entries.{Entry}
use Rattle.pair_laws.specs.capture.specs.Links.{Link, links}
use Rattle.pair_laws.specs.capture.specs.Pdus.{pdus}
use Rattle.pair_laws.specs.link_talk.specs.Captures.{objects_heard}
use Rattle.pair_laws.specs.link_talk.specs.ObjectsHeard.{objects}
use Rattle.pair_laws.specs.link_talk.specs.Sayings.{talk}
use Rattle.pair_laws.specs.channel_model.specs.Policies.{Policy}
use Rattle.pair_laws.specs.channel_laws.specs.Runs.{Occurrence}
use Rattle.pair_laws.specs.channel_laws.specs.Singly.{AsksForNoChannel}
use Rattle.pair_laws.specs.push_laws.specs.Gains as clear
use Rattle.pair_laws.specs.push_laws.specs.Laws.{stored_in}
use Rattle.pair_laws.specs.world_model.specs.Talks.{Talk}
use Rattle.pair_laws.specs.host_laws.specs.Carriers.{reader}
use Rattle.pair_laws.specs.host_laws.specs.InOrder.{AsksForOneObject}
use Rattle.pair_laws.specs.host_laws.specs.Lives.{Span}
use Rattle.pair_laws.specs.host_laws.specs.OverLinks.{AreTimely, IsTalkOf, parts, moved_in, talk_marks}
use Rattle.pair_laws.specs.host_laws.specs.Serving.{served_from}
use Rattle.pair_laws.specs.host_laws.specs.Spoken.{IsServed}
use Rattle.pair_laws.specs.host_laws.proofs.Carriers.{read_by_carriers}
use Rattle.pair_laws.specs.host_laws.proofs.InOrder.{asks-nothing, links-ask_none}
use Rattle.pair_laws.specs.host_laws.proofs.Seeking.{is-served}
use Rattle.pair_laws.specs.host_laws.proofs.Serving.{hosts_gain}
use Rattle.pair_laws.specs.scenario_laws.specs.Captures.{Ran}
use Rattle.pair_laws.specs.scenario_laws.specs.Gains.{holding, serving, asked_by}
use Rattle.pair_laws.specs.scenario_laws.specs.Parties.{party_of}
use Rattle.pair_laws.specs.scenario_laws.proofs.Orderly.{parts-are_asked}
use Rattle.pair_laws.specs.Keeping.{PairsKeepOrder}
use Rattle.request_laws.specs.GainsCarried.{AllAreHeard, GainsCarried}
use Rattle.request_laws.proofs.AlongStreams.{all_carry}
use Rattle.request_laws.proofs.MuxPackets.{all_packets}
use Rattle.request_laws.proofs.Paired.{lists_of}
use Rattle.request_laws.proofs.ReadLinks.{spelled, Reads, reads_all}
use Rattle.request_laws.proofs.Summing.{both_ask}

-- the objects of the links of a capture
link_objects : (scenario : Scenario) → scenario.settings.transport ≡ Rfcomm → (before : List Object) (list : List Link) → spelled scenario.settings (holding before) (map pdus list) ≡ flat_map (objects (party_of scenario.settings sides.B)) (map talk list)
link_objects scenario muxed before [] = refl
link_objects scenario muxed before (link ∷ list) =
    ap (λ (t : Transport). objects (reader scenario.settings scenario.settings.mps t) (talk link) ++ spelled scenario.settings (holding before) (map pdus list)) (sym muxed)
    ∙ ap (λ (l : List Object). objects (party_of scenario.settings sides.B) (talk link) ++ l) (link_objects scenario muxed before list)

-- ---- on each link each endpoint of the peer has one channel

all_lists : (F : List Occurrence → Type 0) (spans : List Span) (now : List Occurrence) → AllByRecursion (λ (span : Span). F span.list) spans → F now → AllByRecursion F (lists_of spans now)
all_lists F [] now before last = (last, tt)
all_lists F (span ∷ spans) now before last = (before.0, all_lists F spans now before.1 last)

lists_served : (T : Transport) (policy : Policy) (lists : List (List Occurrence)) (talks : List (List Talk)) → AllZip (IsTalkOf policy) lists talks → AllByRecursion (AllByRecursion AsksForNoChannel) lists
    → AllByRecursion (λ part. AsksForOneObject T (moved_in part)) talks → AllByRecursion (λ part. IsServed (moved_in part)) talks
lists_served T policy [] [] are none sought = tt
lists_served T policy [] (part ∷ talks) are none sought = absurd are
lists_served T policy (list ∷ lists) [] are none sought = absurd are
lists_served T policy (list ∷ lists) (part ∷ talks) are none sought = (
  is-served T policy list (moved_in part) are.0.waits (record { none = none.0; talk_is = are.0.talk_is; go_out = are.0.go_out; sought = sought.0 }),
  lists_served T policy lists talks are.1 none.1 sought.1,
)

-- ---- of a run

-- what the packets spell that came is what the capture spells
pub carried-reads : (scenario : Scenario) (before : List Object) (capture : List Entry) (ran : Ran scenario (holding before) capture) → scenario.settings.transport ≡ Rfcomm → (order : PairsKeepOrder both_ask scenario (holding before) capture ran)
    → clear.objects scenario.settings (served_from scenario.settings (holding before) (serving scenario.settings before).first order.turns.pairs.b.fed.so.lives.feeds) ≡ objects_heard (party_of scenario.settings sides.B) sides.B capture
carried-reads scenario before capture ran muxed order =
    let settings = scenario.settings in
    let B = serving settings before in
    let asks = asked_by both_ask settings before in
    let b = order.turns.pairs.b in
    let lives = b.fed.so.lives in
    let nothing = asks-nothing settings (holding before) in
    let muxes = all_carry scenario before capture ran order muxed in
    let none = links-ask_none B asks (flat_map talk_marks b.came.talk) ran.world.b.upper lives nothing in
    let once = lists_served settings.transport B.policy (lists_of lives.spans lives.now) (parts b.came.talk) b.fed.so.talks_are (all_lists (AllByRecursion AsksForNoChannel) lives.spans lives.now none.before none.last)
    (parts-are_asked scenario (holding before) capture ran (parts b.came.talk) b.came.fall) in
    let packets = all_packets settings (holding before) asks lives.spans lives.now lives.feeds B.first ran.world.b.upper.profile b.fed.fed muxes in
    let reads : Reads settings (holding before) _ (map pdus (links sides.B capture)) =
    reads_all settings (holding before) nothing lives.spans lives.now lives.feeds B.first ran.world.b.upper.profile (parts b.came.talk) (map pdus (links sides.B capture)) b.fed.fed refl
    (subst (AreTimely false) (sym lives.marks_are) b.fed.so.timely) b.fed.so.talks_are once b.came.fall b.uttered muxes packets in
    read_by_carriers settings settings.mps (served_from settings (holding before) B.first lives.feeds) reads.links reads.are ∙ reads.spells ∙ link_objects scenario muxed before (links sides.B capture)

pub gains-carried : (scenario : Scenario) (before : List Object) (capture : List Entry) (ran : Ran scenario (holding before) capture) → scenario.settings.transport ≡ Rfcomm → (order : PairsKeepOrder both_ask scenario (holding before) capture ran)
    → AllAreHeard both_ask scenario before capture ran order
    → stored_in ran.world.b.upper.profile.inbox.content ≡ Some (before ++ objects_heard (party_of scenario.settings sides.B) sides.B capture)
gains-carried scenario before capture ran muxed order heard =
    let b = order.turns.pairs.b in
    hosts_gain scenario.settings before (asked_by both_ask scenario.settings before) (flat_map talk_marks b.came.talk) ran.world.b.upper b.fed.so.lives heard
    ∙ ap (λ (l : List Object). Some (before ++ l)) (carried-reads scenario before capture ran muxed order)

pub inboxes_gain_carried : GainsCarried
inboxes_gain_carried = record { asks = both_ask; gains = gains-carried }
