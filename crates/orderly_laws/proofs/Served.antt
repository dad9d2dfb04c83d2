-- Where nothing is lost the inbox of a server gains what its own units spell, over either transport.
use Rattle.std.proofs.Common.{◌≡◌, ℕ, true, false, List, [], ◌∷◌, ◌++◌, map, Some, refl, sym, ap, subst, ◌∙◌}
use Rattle.std.specs.List.{AllByRecursion, flat_map}
use Rattle.request_laws.specs.bt_base.specs.declared.settings.Settings.{Settings}
use Rattle.request_laws.specs.bt_base.specs.declared.settings.Transport.{Transport}
use Rattle.request_laws.specs.bt_base.specs.declared.settings.Transport.TheVariants.{L2cap, Rfcomm}
use Rattle.request_laws.specs.bt_base.specs.Objects.{Object}
use Rattle.request_laws.specs.push_terms.specs.declared.word.Side.TheVariants as sides
use Rattle.request_laws.specs.host_link.specs.declared.role.Role.TheVariants.{Server}
use Rattle.request_laws.specs.capture.specs.Links.{Link, links}
use Rattle.request_laws.specs.capture.specs.Pdus.{pdus}
use Rattle.request_laws.specs.link_talk.specs.Captures.{objects_heard}
use Rattle.request_laws.specs.push_laws.specs.Gains.{objects as spelled_by}
use Rattle.request_laws.specs.link_talk.specs.ObjectsHeard.{objects}
use Rattle.request_laws.specs.link_talk.specs.Sayings.{talk}
use Rattle.request_laws.specs.channel_model.specs.Policies.{policy}
use Rattle.request_laws.specs.channel_laws.specs.Singly.{AsksForNoChannel}
use Rattle.request_laws.specs.push_model.specs.Server.{rfcomm_psm}
use Rattle.request_laws.specs.host_model.specs.Circumstances.{Circumstance}
use Rattle.request_laws.specs.host_model.specs.Hosts.{Host}
use Rattle.request_laws.specs.host_model.specs.Servers.{ServerProfile}
use Rattle.request_laws.specs.host_model.specs.Machines.{upper}
use Rattle.request_laws.specs.host_model.proofs.Orderly.{says_frames}
use Rattle.request_laws.specs.host_laws.specs.Acts.{Act}
use Rattle.request_laws.specs.host_laws.specs.Carriers.{reader}
use Rattle.request_laws.specs.host_laws.specs.Gifts.{gifts_with}
use Rattle.request_laws.specs.host_laws.specs.InOrder.{IsWhole}
use Rattle.request_laws.specs.host_laws.specs.Lives.{on_links}
use Rattle.request_laws.specs.host_laws.specs.OneOnLinks.{CarriesOneOn}
use Rattle.request_laws.specs.host_laws.specs.OverLinks.{AreTimely, parts, talk_marks}
use Rattle.request_laws.specs.host_laws.specs.Serving.{served_from}
use Rattle.request_laws.specs.host_laws.proofs.Asking.{hosts_ask}
use Rattle.request_laws.specs.host_laws.proofs.Carriers.{read_by_carriers}
use Rattle.request_laws.specs.host_laws.proofs.GainingOver.{hosts_read_over_links}
use Rattle.request_laws.specs.host_laws.proofs.InOrder.{asks-nothing, links-ask_none, servers-are_served_in_order}
use Rattle.request_laws.specs.host_laws.proofs.OneOnLinks.{servers-carry_alone}
use Rattle.request_laws.specs.host_laws.proofs.Serving.{hosts_gain}
use Rattle.unit_laws.specs.scenario_laws.specs.Coming.{CameOver}
use Rattle.unit_laws.specs.scenario_laws.specs.Gains.{holding, serving, asked_by, all_served as all_told}
use Rattle.unit_laws.specs.scenario_laws.proofs.Gaining.{all_spell, link_talks}
use Rattle.unit_laws.specs.scenario_laws.proofs.Wishes.{states_frame}
use Rattle.unit_laws.specs.scenario_laws.proofs.Orderly.{parts_asked, asked_talks}
use Rattle.request_laws.proofs.AlongStreams.{at_place, none_carry}
use Rattle.request_laws.proofs.MuxPackets.{all_packets}
use Rattle.request_laws.proofs.Paired.{lists_of}
use Rattle.request_laws.proofs.ReadLinks.{spelled, Reads, reads_all}
use Rattle.request_laws.specs.pair_laws.specs.Granted.{granted}
use Rattle.unit_laws.specs.Calls.{gifts_in}
use Rattle.unit_laws.specs.Laws.{FiresNone, IsUnfired}
use Rattle.unit_laws.specs.Living.{Did, HaveCommands}
use Rattle.unit_laws.specs.Units.{Lined, Occasion, units, lone_capture}
use Rattle.unit_laws.proofs.Living.{servers-gently}
use Rattle.unit_laws.proofs.Running.{units_are_talk}
use Rattle.orderly_laws.specs.Orderly.{IsGrant}
use Rattle.orderly_laws.specs.Served.{IsAskedOver, LosesNone, GainsOver, ServersGainServed}
use Rattle.orderly_laws.proofs.Gaining.{all_served, on_each, all_same, acts_granted}
use Rattle.orderly_laws.proofs.Given.{LivesGiven, lives-given}
use Rattle.orderly_laws.proofs.Granting.{runs-same, frames-same, over-so, over-acts}

-- the objects of the links of a capture
link_carried : (settings : Settings) (before : List Object) (list : List Link) → spelled settings (holding before) (map pdus list) ≡ flat_map (objects (reader settings settings.mps Rfcomm)) (map talk list)
link_carried settings before [] = refl
link_carried settings before (link ∷ list) = ap (λ (l : List Object). objects (reader settings settings.mps Rfcomm) (talk link) ++ l) (link_carried settings before list)

-- ---- it lived so, with an inbox that grants all

pub record Life (settings : Settings) (before : List Object) (occasions : List (Occasion Circumstance)) (now : Host ServerProfile) : Type 0 where
  pub came : CameOver (serving settings before) sides.B (lone_capture sides.B (units occasions)) now
  pub unfired : AllByRecursion FiresNone occasions → AllByRecursion IsUnfired came.talk
  pub lives : LivesGiven (serving settings before) (asked_by hosts_ask settings before) IsGrant came.talk now

pub lived : (settings : Settings) (before : List Object) (occasions : List (Occasion Circumstance)) (now : Lined (Host ServerProfile)) → Did (serving settings before) Server occasions now → AllByRecursion IsGrant (gifts_in occasions) → HaveCommands sides.B (lone_capture sides.B (units occasions))
    → Life settings before occasions now.upper
lived settings before occasions now did grants have =
    let A = serving settings before in
    let U = upper A in
    let capture = lone_capture sides.B (units occasions) in
    let told = units_are_talk (record U { hear = λ gifts news. U.hear (map granted gifts) news }) sides.B _ occasions now (frames-same U (map granted) (says_frames A)) (runs-same U (map granted) occasions _ now (all_same (gifts_in occasions) grants) did) in
    let over = over-so U (map granted) told.talk now.upper told.over in
    let came : CameOver (serving settings before) sides.B (lone_capture sides.B (units occasions)) now.upper = record { talk = told.talk; over = over; fall = told.fall; last = told.up } in
    record {
      came = came;
      unfired = told.unfired;
      lives = lives-given A (asked_by hosts_ask settings before) IsGrant told.talk now.upper over (servers-gently settings (holding before) capture now.upper have came)
          (subst (AllByRecursion (λ (act : Act Circumstance). AllByRecursion IsGrant (gifts_with act))) (sym (over-acts U (map granted) told.talk now.upper told.over)) (acts_granted U told.over.acts));
    }

-- ---- what is spelled to it over one transport

abbrev Spells : (settings : Settings) (before : List Object) → Transport → (occasions : List (Occasion Circumstance)) (now : Host ServerProfile) → Life settings before occasions now → Type 0
Spells settings before transport occasions now life =
    spelled_by settings (all_told hosts_ask settings before life.came.talk now life.lives.fed.so) ≡ objects_heard (reader settings settings.mps transport) sides.B (lone_capture sides.B (units occasions))

spells_carried : (settings : Settings) (before : List Object) (occasions : List (Occasion Circumstance)) (now : Host ServerProfile) (life : Life settings before occasions now) → IsAskedOver Rfcomm (lone_capture sides.B (units occasions)) → Spells settings before Rfcomm occasions now life
spells_carried settings before occasions now life asked =
    let content = holding before in
    let A = serving settings before in
    let asks = asked_by hosts_ask settings before in
    let said = life.came.talk in
    let so = life.lives.fed.so in
    let spans = so.lives.spans in
    let list = so.lives.now in
    let feeds = so.lives.feeds in
    let nothing = asks-nothing settings content in
    let here = links sides.B (lone_capture sides.B (units occasions)) in
    let caught = map pdus here in
    let sought = parts_asked Rfcomm (parts said) caught life.came.fall (asked_talks Rfcomm here asked.one_channel) in
    let only = servers-carry_alone Rfcomm settings content asks said now so nothing sought in
    let muxes = λ (number : ℕ). at_place (CarriesOneOn rfcomm_psm A.policy) (none_carry rfcomm_psm A.policy) (lists_of spans list) only number in
    let none = links-ask_none A asks (flat_map talk_marks said) now so.lives nothing in
    let once = all_served Rfcomm settings (lists_of spans list) (parts said) so.talks_are (on_each (AllByRecursion AsksForNoChannel) spans list none.before none.last) sought in
    let packets = all_packets settings content asks spans list feeds A.first now.profile life.lives.fed.fed muxes in
    let reads : Reads settings content (served_from settings content A.first feeds) caught =
    reads_all settings content nothing spans list feeds A.first now.profile (parts said) caught life.lives.fed.fed refl (subst (AreTimely false) (sym so.lives.marks_are) so.timely) so.talks_are once life.came.fall life.lives.uttered muxes packets in
    read_by_carriers settings settings.mps (served_from settings content A.first feeds) reads.links reads.are ∙ (reads.spells ∙ link_carried settings before here)

spells_direct : (settings : Settings) (before : List Object) (occasions : List (Occasion Circumstance)) (now : Host ServerProfile) (life : Life settings before occasions now) → IsAskedOver L2cap (lone_capture sides.B (units occasions))
    → AllByRecursion (IsWhole (policy settings true)) (on_links (serving settings before) (asked_by hosts_ask settings before) (flat_map talk_marks life.came.talk) now life.lives.fed.so.lives) → Spells settings before L2cap occasions now life
spells_direct settings before occasions now life asked whole =
    let content = holding before in
    let asks = asked_by hosts_ask settings before in
    let said = life.came.talk in
    let so = life.lives.fed.so in
    let party = reader settings settings.mps L2cap in
    let here = links sides.B (lone_capture sides.B (units occasions)) in
    let caught = map pdus here in
    let sought = parts_asked L2cap (parts said) caught life.came.fall (asked_talks L2cap here asked.one_channel) in
    let order = servers-are_served_in_order settings content asks said now so (asks-nothing settings content) sought whole in
    hosts_read_over_links settings content party asks said now so (states_frame settings true sides.B) refl order.direct order.carried order.carries order.granted
    ∙ (all_spell party (parts said) caught life.came.fall order.granted ∙ link_talks party here)

-- ---- the law

pub gains_over : (transport : Transport) (settings : Settings) (before : List Object) (occasions : List (Occasion Circumstance)) (now : Host ServerProfile) (life : Life settings before occasions now) → IsAskedOver transport (lone_capture sides.B (units occasions))
    → LosesNone hosts_ask settings before transport life.came.talk now life.lives.fed.so → GainsOver settings before transport occasions now
gains_over Rfcomm settings before occasions now life asked comes =
    hosts_gain settings before (asked_by hosts_ask settings before) (flat_map talk_marks life.came.talk) now life.lives.fed.so.lives comes ∙ ap (λ (l : List Object). Some (before ++ l)) (spells_carried settings before occasions now life asked)
gains_over L2cap settings before occasions now life asked comes =
    hosts_gain settings before (asked_by hosts_ask settings before) (flat_map talk_marks life.came.talk) now life.lives.fed.so.lives comes.0 ∙ ap (λ (l : List Object). Some (before ++ l)) (spells_direct settings before occasions now life asked comes.1)

pub servers_gain_served : ServersGainServed
servers_gain_served = record {
  asks = hosts_ask;
  gains = λ transport settings before occasions now did grants asked.
      let life = lived settings before occasions now did grants asked.commands in
      record { came = life.came; so = life.lives.fed.so; granted = life.lives.given; gains = gains_over transport settings before occasions now.upper life asked };
}
