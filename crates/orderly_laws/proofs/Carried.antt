-- On orderly input the inbox of a server gains what its own units spell, over RFCOMM.
use Rattle.std.proofs.Common.{◌≡◌, ℕ, true, false, List, [], ◌∷◌, ◌++◌, map, Option, refl, sym, subst, ◌∙◌}
use Rattle.std.specs.List.{AllByRecursion, flat_map}
use Rattle.std.proofs.lemmas.Bool.{cond_both, cond-false}
use Rattle.request_laws.specs.bt_base.specs.declared.settings.Settings.{Settings}
use Rattle.request_laws.specs.bt_base.specs.declared.settings.Transport.TheVariants.{Rfcomm}
use Rattle.request_laws.specs.bt_base.specs.Objects.{Contents}
use Rattle.request_laws.specs.bt_base.specs.Octets.{IsOctets}
use Rattle.request_laws.specs.push_terms.specs.declared.word.Side.TheVariants as sides
use Rattle.request_laws.specs.capture.specs.Links.{links}
use Rattle.request_laws.specs.capture.specs.Pdus.{pdus}
use Rattle.request_laws.specs.link_talk.specs.Sayings.{Saying}
use Rattle.request_laws.specs.channel_model.specs.Policies.{policy}
use Rattle.request_laws.specs.channel_laws.specs.Frames.{AreUttered}
use Rattle.request_laws.specs.channel_laws.specs.Runs as channels
use Rattle.request_laws.specs.rfcomm_frames.specs.FrameReading.{is_empty}
use Rattle.request_laws.specs.push_model.specs.Server.{Reacted, rfcomm_psm}
use Rattle.request_laws.specs.push_laws.specs.Dialogs.{NoPacket}
use Rattle.request_laws.specs.push_laws.specs.Laws.{new_over}
use Rattle.request_laws.specs.push_laws.specs.Occurrences.{Occurrence, Came, Went, Closed, LinkDown, Asked, Answering, done, all_done}
use Rattle.request_laws.specs.push_laws.specs.Premises.{AllGranted}
use Rattle.request_laws.specs.push_laws.proofs.Servers.{by_psm}
use Rattle.request_laws.specs.host_model.specs.Servers.{ServerProfile, server_profile}
use Rattle.request_laws.specs.host_laws.specs.Feeds.{Feed, Gifts, Learns, Receives, Happens, Sent, Steps, fed}
use Rattle.request_laws.specs.host_laws.specs.OneCarrier.{CarriesAlone}
use Rattle.request_laws.specs.host_laws.specs.OneOnLinks.{CarriesOneOn}
use Rattle.request_laws.specs.host_laws.specs.OverLinks.{AreTimely, parts, talk_marks}
use Rattle.request_laws.specs.host_laws.specs.Serving.{served_with, served_from, reacted}
use Rattle.request_laws.specs.host_laws.proofs.Asking.{hosts_ask}
use Rattle.request_laws.specs.host_laws.proofs.InOrder.{asks-nothing, servers-ask_for_nothing}
use Rattle.request_laws.specs.host_laws.proofs.Keeping.{servers_lend}
use Rattle.request_laws.specs.host_laws.proofs.OneOnLinks.{servers-carry_alone}
use Rattle.request_laws.specs.host_laws.proofs.Serving.{feed_done}
use Rattle.unit_laws.specs.scenario_laws.specs.Gains.{holding, serving, asked_by}
use Rattle.unit_laws.specs.scenario_laws.proofs.Orderly.{parts_asked, asked_talks}
use Rattle.request_laws.specs.MuxFed.{SaysSo, AllSaySo}
use Rattle.request_laws.specs.SpellableServers.{LendsSpellable}
use Rattle.request_laws.proofs.AlongStreams.{at_place, none_carry}
use Rattle.request_laws.proofs.Feeding.{all_ahead}
use Rattle.request_laws.proofs.MuxHeard.{serve_from}
use Rattle.request_laws.proofs.MuxPackets.{all_packets}
use Rattle.request_laws.proofs.Paired.{lists_of}
use Rattle.request_laws.proofs.SpellableServers.{server_frames_are_said}
use Rattle.request_laws.proofs.Together.{all_granted}
use Rattle.unit_laws.specs.Units.{units, lone_capture}
use Rattle.carried_laws.specs.Orderly.{IsInOrder}
use Rattle.carried_laws.proofs.Coming.{orderly_may_come}
use Rattle.carried_laws.proofs.Ordering.{InOrderFrom, orderly_serves}
use Rattle.orderly_laws.specs.Carried.{passed_in, AreInOrder, ServersGainCarried}
use Rattle.orderly_laws.proofs.Falling.{SaidOn, on_links, said_of, parted}
use Rattle.orderly_laws.proofs.Framing.{FitLink, all-order}
use Rattle.orderly_laws.proofs.Given.{nothing-given_up}
use Rattle.orderly_laws.proofs.Passing.{muxed, in-order}
use Rattle.orderly_laws.proofs.Served.{lived, gains_over}

-- ---- its links

fits_of : (settings : Settings) (lists : List (List channels.Occurrence)) → AllByRecursion (AreUttered (policy settings true)) lists → AllByRecursion (SaidOn (AreInOrder settings) settings) lists → AllByRecursion (CarriesOneOn rfcomm_psm (policy settings true)) lists → AllByRecursion (FitLink settings) lists
fits_of settings [] utter said only = tt
fits_of settings (list ∷ lists) utter said only =
    let one = said.0 in (
      record {
        uttered = utter.0;
        only = only.0;
        order = λ channel psm_is alone.
            subst (λ (l : List Saying). IsInOrder settings (passed_in (muxed settings) channel l)) (sym one.said_is)
            (in-order settings channel one.talk one.outs one.go_out psm_is (subst (CarriesAlone channel) one.said_is alone) one.holds);
      },
      fits_of settings lists utter.1 said.1 only.1,
    )

-- ---- what it lends is spelled

-- a frame that comes is octets
abbrev BringsOctets : Occurrence → Type 0
BringsOctets one = (sdu : List ℕ) → one ≡ Came rfcomm_psm sdu → IsOctets sdu

all_bring : (settings : Settings) (list past : List Occurrence) → InOrderFrom settings past list → AllByRecursion BringsOctets list
all_bring settings [] past order = tt
all_bring settings (one ∷ list) past order = ((λ sdu is. (order.0 sdu is).octets), all_bring settings list (past ++ one ∷ []) order.1)

came_lends : (sdu : List ℕ) (at : Reacted) → LendsSpellable at.server → (psm : ℕ) → NoPacket (Came psm sdu) → BringsOctets (Came psm sdu) → LendsSpellable (done (Came psm sdu) at).server
came_lends sdu at s psm =
    by_psm (λ p. NoPacket (Came p sdu) → BringsOctets (Came p sdu) → LendsSpellable (done (Came p sdu) at).server)
    (λ aside octets. cond_both at.server.listener.service.failed _ _ (λ (r : Reacted). LendsSpellable r.server) (λ e. s) (λ e. cond_both (is_empty at.server.reply) _ _ LendsSpellable (λ f. s) (λ f. s)))
    (λ aside octets. server_frames_are_said.doing (Came rfcomm_psm sdu) at (octets sdu refl) s)
    (λ aside octets. absurd (aside refl))
    (λ p x y z aside octets.
    cond_both at.server.listener.service.failed _ _ (λ (r : Reacted). LendsSpellable r.server) (λ e. s)
    (λ e. subst (λ (r : Reacted). LendsSpellable r.server) (sym (cond-false _ _ _ x ∙ (cond-false _ _ _ y ∙ cond-false _ _ (let r : Reacted = record { server = at.server; gift = at.gift } in r) z))) s))
    psm

doing_lends : (one : Occurrence) (at : Reacted) → NoPacket one → BringsOctets one → LendsSpellable at.server → LendsSpellable (done one at).server
doing_lends (Came psm sdu) at aside octets s = came_lends sdu at s psm aside octets
doing_lends (Went psm sdu) at aside octets s = server_frames_are_said.doing (Went psm sdu) at tt s
doing_lends (Closed psm) at aside octets s = server_frames_are_said.doing (Closed psm) at tt s
doing_lends LinkDown at aside octets s = server_frames_are_said.doing LinkDown at tt s
doing_lends Asked at aside octets s = server_frames_are_said.doing Asked at tt s
doing_lends (Answering answers) at aside octets s = server_frames_are_said.doing (Answering answers) at tt s

all_lend : (list : List Occurrence) (at : Reacted) → AllByRecursion NoPacket list → AllByRecursion BringsOctets list → LendsSpellable at.server → LendsSpellable (all_done list at).server
all_lend [] at aside octets s = s
all_lend (one ∷ list) at aside octets s = all_lend list (done one at) aside.1 octets.1 (doing_lends one at aside.0 octets.0 s)

says_so : (feed : Feed) (p : ServerProfile) → LendsSpellable p.server → SaysSo p feed
says_so (Gifts circumstances) p s = tt
says_so (Learns circumstances news) p s = tt
says_so (Receives own psm sdu) p s = tt
says_so (Happens event v) p s = tt
says_so (Sent v) p s = tt
says_so (Steps v) p s = server_frames_are_said.saying p.server s

say_all : (settings : Settings) (content : Option Contents) (feeds : List Feed) (p : ServerProfile) → LendsSpellable p.server → AllByRecursion NoPacket (served_from settings content p feeds) → AllByRecursion BringsOctets (served_from settings content p feeds) → AllSaySo settings content p feeds
say_all settings content [] p s aside octets = tt
say_all settings content (feed ∷ feeds) p s aside octets =
    let next = fed (server_profile settings content) p feed in
    let here = served_with p feed in
    let later = served_from settings content next feeds in
    let none = all_ahead NoPacket here later aside in
    let bring = all_ahead BringsOctets here later octets in
    (says_so feed p s, say_all settings content feeds next (subst (λ (r : Reacted). LendsSpellable r.server) (sym (feed_done settings content p feed)) (all_lend here (reacted p) none.0 bring.0 s)) none.1 bring.1)

-- ---- the law

pub servers_gain_carried : ServersGainCarried
servers_gain_carried settings before occasions now did granted input =
    let content : Option Contents = holding before in
    let A = serving settings before in
    let asks = asked_by hosts_ask settings before in
    let life = lived settings before occasions now did granted.granted input.asked.commands in
    let said = life.came.talk in
    let so = life.lives.fed.so in
    let spans = so.lives.spans in
    let list = so.lives.now in
    let lists = lists_of spans list in
    let feeds = so.lives.feeds in
    let marks = flat_map talk_marks said in
    let nothing = asks-nothing settings content in
    let here = links sides.B (lone_capture sides.B (units occasions)) in
    let caught = map pdus here in
    let sought = parts_asked Rfcomm (parts said) caught life.came.fall (asked_talks Rfcomm here input.asked.one_channel) in
    let only = servers-carry_alone Rfcomm settings content asks said now.upper so nothing sought in
    let muxes = λ (number : ℕ). at_place (CarriesOneOn rfcomm_psm A.policy) (none_carry rfcomm_psm A.policy) lists only number in
    let packets = all_packets settings content asks spans list feeds A.first now.upper.profile life.lives.fed.fed muxes in
    let plain = nothing-given_up (policy settings true) lists said so.talks_are (life.unfired granted.untimed) (servers-ask_for_nothing settings content asks marks now.upper so.lives (servers_lend settings content)) in
    let talks = said_of (AreInOrder settings) tt settings lists (parts said) caught so.talks_are life.came.fall (on_links (AreInOrder settings) here input.in_order) plain in
    let fits = parted (FitLink settings) spans list (fits_of settings lists life.lives.uttered talks only) in
    let occurrences : List Occurrence = served_from settings content A.first feeds in
    let order : InOrderFrom settings [] occurrences =
    all-order settings content nothing spans list feeds A.first now.upper.profile [] life.lives.fed.fed refl (subst (AreTimely false) (sym so.lives.marks_are) so.timely) fits.before fits.last refl in
    let says = say_all settings content feeds A.first (server_frames_are_said.first settings content) packets (all_bring settings occurrences [] order) in
    let serves = serve_from AllGranted settings content feeds A.first (all_granted feeds life.lives.given) says packets in
    gains_over Rfcomm settings before occasions now.upper life input.asked (orderly_may_come settings before occurrences (orderly_serves settings occurrences [] (new_over settings before) serves order))
