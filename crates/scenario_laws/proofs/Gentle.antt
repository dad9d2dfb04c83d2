-- Each PDU on the signalling channel has one command in a run; so both hosts are gentle, where they are free.
use Rattle.std.proofs.Common.{◌≡◌, ℕ, inl, inr, Bool, true, false, cond, List, [], ◌∷◌, ◌++◌, ◌==◌, map, drop, length, Option, Some, None, option_to_list, refl, sym, ap, subst, ◌∙◌, arith, if◌then◌else◌}
use Rattle.std.specs.List.{AllByRecursion, flat_map}
use Rattle.std.specs.Option.{option_map}
use Rattle.std.proofs.lemmas.List.{length-map, append-nil, append_assoc}
use Rattle.std.proofs.lemmas.List.Concat.{flat_map-append}
use Rattle.host_laws.specs.acl_fragments.specs.Pieces.{channel_of}
use Rattle.radio_world.specs.bt_base.specs.Objects.{Contents}
use Rattle.radio_world.specs.bt_base.specs.declared.settings.Settings.{Settings}
use Rattle.radio_world.specs.push_script.specs.declared.scenario.Scenario.{Scenario}
use Rattle.radio_world.specs.push_terms.specs.declared.word.Side.{Side}
use Rattle.radio_world.specs.push_terms.specs.declared.word.Side.TheVariants as sides
use Rattle.radio_world.specs.capture.specs.declared.flow.Flow.{Flow}
use Rattle.radio_world.specs.capture.specs.declared.flow.Flow.TheVariants.{Out, Into}
use Rattle.radio_world.specs.capture.specs.Entries.{Entry}
use Rattle.radio_world.specs.capture.specs.Links.{Link, Linking, linking, links, link_up}
use Rattle.radio_world.specs.capture.specs.Moves.{moves}
use Rattle.radio_world.specs.capture.specs.Pdus.{Pdu, pdus}
use Rattle.host_laws.specs.l2cap_signal.specs.Reading.{answers}
use Rattle.host_laws.specs.link_talk.specs.Sayings.{Saying, Carried, said_by}
use Rattle.host_laws.specs.link_talk.specs.Sayings as sayings
use Rattle.host_laws.specs.channel_model.specs.Value.{Held, Channels, no_channels}
use Rattle.host_laws.specs.channel_model.specs.Calls.{has_fcs, has_fcs_on}
use Rattle.host_laws.specs.channel_model.specs.Changing.{has_own, held_at}
use Rattle.host_laws.specs.channel_model.specs.Policies.{Policy, policy}
use Rattle.host_laws.specs.channel_model.specs.Giving.{next_given}
use Rattle.host_laws.specs.channel_model.proofs.Lookups.{own_of, found-has}
use Rattle.host_laws.specs.channel_laws.proofs.Fitting.{FitsFound, fits-found}
use Rattle.host_laws.specs.channel_laws.proofs.Fitted.{IsLowPsm, FittedLow}
use Rattle.host_laws.specs.world_model.specs.Machines.{Up, Down, News, Linked, Failed, Heard, TimerFired, Cancelled, Opening}
use Rattle.host_laws.specs.world_model.specs.Talks.{Talk, Told, Said, Unsent, Met, Done}
use Rattle.host_laws.specs.world_model.specs.PerLink.{Linkage, no_linkage, pdus_of, linkage_after, linkage_from, linkage, captured}
use Rattle.host_laws.specs.world_model.specs.Worlds.{all_entries}
use Rattle.host_laws.specs.host_model.specs.Circumstances.{Circumstance}
use Rattle.host_laws.specs.host_model.specs.Hosts.{Host, first_host, hear, next}
use Rattle.host_laws.specs.host_model.specs.Profiles.{Profile}
use Rattle.host_laws.specs.host_model.specs.Clients.{client_profile}
use Rattle.host_laws.specs.host_model.specs.Servers.{server_profile}
use Rattle.host_laws.specs.host_model.specs.Machines.{upper}
use Rattle.host_laws.specs.host_model.proofs.Orderly.{says_octets}
use Rattle.host_laws.specs.Acts.{Act, Hears, Says, Does, Acting, StaysOnLink}
use Rattle.host_laws.specs.Calls.{Asks}
use Rattle.host_laws.specs.Calm.{AreGentle, pdus_in, TalksSo}
use Rattle.host_laws.specs.OverLinks.{is_up_behind, AreInTurn, turns_link, parts_from, parts, IsTimely, AreGentleUp, IsGentleUp}
use Rattle.host_laws.specs.Read.{IsSoberPdu, IsHeardSo, IsSoberAct}
use Rattle.host_laws.specs.Seen.{FiresPlainly, saying_of}
use Rattle.host_laws.specs.Turning.{deed_of, deeds_in, OnLink}
use Rattle.host_laws.proofs.Fitting.{IsProper, proper-holds, any-holds, up-fits, KeepsFit, FitHost, first-fits, hears-fit, said-fits, AnyServer, servers-keep_fit, IsLowClient, clients-keep_fit}
use Rattle.host_laws.proofs.ReadSo.{spoke, reads-so, act-fits, profile-so}
use Rattle.host_laws.proofs.Talking.{deed_pdus, talks_pdus, hosts_talk_in_turns}
use Rattle.host_laws.proofs.Turning.{does_one}
use Rattle.scenario_laws.specs.Captures.{client_of, server_of, Ran}
use Rattle.scenario_laws.specs.Coming.{out_of, FallTo, CameOver, CameUp}
use Rattle.scenario_laws.specs.Gentle.{HasOneCommand, PdusHaveOneCommand, AreFreeUp, IsFreeAct, ComesGently, HostsAreGentle, IsFreeOn, LivesThrough, RestsAreLived}
use Rattle.scenario_laws.proofs.Acting.{Anyhow, Acted}
use Rattle.scenario_laws.proofs.Both.{idle_acted, both_acted}
use Rattle.scenario_laws.proofs.Carrying.{carried}
use Rattle.scenario_laws.proofs.Coming.{captured_links, ended_all}
use Rattle.scenario_laws.proofs.Fronts.{fits}
use Rattle.scenario_laws.proofs.Parting.{all_links}
use Rattle.scenario_laws.proofs.Taming.{IsTame, IsTamePdu, IsTameTalk, AreTameTalks, IsTameNews, Tames, all_tame}
use Rattle.scenario_laws.proofs.Unlinked.{Keeps, Off, act_off, says_none}
use Rattle.scenario_laws.proofs.UnlinkedClients.{HasNoLink, clients_keep}
use Rattle.scenario_laws.proofs.UnlinkedServers.{KnowsNone, servers_keep}

-- ---- both hosts are tame

no_check : (v : Channels) → FittedLow v → has_fcs 0x0001 v ≡ false
no_check v fitted = by (held_at 0x0001 v) refl (fits-found IsLowPsm (has_own 0x0001) v fitted.core)
  where
    by : (found : Option Held) → held_at 0x0001 v ≡ found → FitsFound IsLowPsm found → has_fcs_on found ≡ false
    by None is fits = refl
    by (Some held) is fits = absurd (let same = found-has own_of 0x0001 v.held held is in let low = fits.own.0 in omega (arith, same, low))

sober_of : (news : News) → IsTameNews news → IsHeardSo IsSoberPdu news
sober_of (Linked event) tame = tt
sober_of (Failed status) tame = tt
sober_of (Heard pdu) tame = λ is. tame.0
sober_of TimerFired tame = tt
sober_of Cancelled tame = tt
sober_of (Opening name) tame = tt

-- a PDU that is read as one saying has one command
one_command : (pdu : List ℕ) (one : Saying) → (let gave : Pdu = record { flow = Out; octets = pdu } in said_by gave ≡ one ∷ []) → channel_of pdu ≡ 0x0001 → length (answers (drop 4 pdu)) ≡ 1
one_command pdu one is here =
    let read : map (sayings.Command Out) (answers (drop 4 pdu)) ≡ one ∷ [] =
    sym (ap (λ (n : ℕ). if n == 0x0001 then map (sayings.Command Out) (answers (drop 4 pdu)) else Carried Out pdu ∷ []) here) ∙ is in
    sym (length-map (answers (drop 4 pdu)) (sayings.Command Out)) ∙ ap length read

pub host-tames : {P : Type 0} (A : Profile P) (Q : P → Type 0) → KeepsFit A IsSoberPdu (IsProper A.policy) Q → Tames (upper A) (FitHost (IsProper A.policy) Q)
host-tames A Q keeps = record {
  first = first-fits A IsSoberPdu (IsProper A.policy) Q keeps;
  hears = λ gifts news s tame fit. hears-fit A IsSoberPdu (IsProper A.policy) Q keeps gifts news s (sober_of news tame) fit;
  says = λ s t pdu said fit.
      let told = spoke A s pdu t said in
      (subst (FitHost (IsProper A.policy) Q) (sym told.after_is) (said-fits A IsSoberPdu (IsProper A.policy) Q keeps told.left s fit), (says_octets A s pdu t said, λ here. one_command pdu (saying_of told.given pdu) (reads-so A s t pdu fit.channels said told.given told.is).read here));
  unchecked = λ s fit. no_check s.channels fit.channels.fitted;
}

-- ---- what moved

abbrev pub AreTamePdus : List Pdu → Type 0
AreTamePdus list = AllByRecursion IsTamePdu list

abbrev pub AreTameLinks : List (List Pdu) → Type 0
AreTameLinks all = AllByRecursion AreTamePdus all

both_all : {X : Type 0} (P : X → Type 0) (one two : List X) → AllByRecursion P one → AllByRecursion P two → AllByRecursion P (one ++ two)
both_all P [] two all other = other
both_all P (x ∷ one) two all other = (all.0, both_all P one two all.1 other)

front_all : {X : Type 0} (P : X → Type 0) (one two : List X) → AllByRecursion P (one ++ two) → AllByRecursion P one
front_all P [] two all = tt
front_all P (x ∷ one) two all = (all.0, front_all P one two all.1)

abbrev IsTameUp : Option (List Pdu) → Type 0
IsTameUp None = Unit {0}
IsTameUp (Some list) = AreTamePdus list

record TameLinkage (l : Linkage) : Type 0 where
  past : AreTameLinks l.past
  up : IsTameUp l.up

moved_up : (flow : Flow) (pdu : List ℕ) (up : Option (List Pdu)) → IsTame pdu → IsTameUp up → IsTameUp (option_map (λ now. now ++ pdus_of flow (pdu ∷ [])) up)
moved_up flow pdu None tame all = tt
moved_up flow pdu (Some list) tame all = both_all IsTamePdu list (pdus_of flow (pdu ∷ [])) all (tame, tt)

last_links : (up : Option (List Pdu)) → IsTameUp up → AreTameLinks (option_to_list up)
last_links None all = tt
last_links (Some list) all = (all, tt)

after_tame : (l : Linkage) (talk : Talk) → IsTameTalk talk → TameLinkage l → TameLinkage (linkage_after l talk)
after_tame l (Told (Linked Up)) tame so = record { past = so.past; up = tt }
after_tame l (Told (Linked (Down reason))) tame so = record { past = both_all AreTamePdus l.past (option_to_list l.up) so.past (last_links l.up so.up); up = tt }
after_tame l (Told (Heard pdu)) tame so = record { past = so.past; up = moved_up Into pdu l.up tame.0 so.up }
after_tame l (Said pdu) tame so = record { past = so.past; up = moved_up Out pdu l.up tame.0 so.up }
after_tame l (Told (Failed status)) tame so = so
after_tame l (Told TimerFired) tame so = so
after_tame l (Told Cancelled) tame so = so
after_tame l (Told (Opening name)) tame so = so
after_tame l (Unsent pdu) tame so = so
after_tame l (Met fate checked) tame so = so
after_tame l (Done outcome) tame so = so

from_tame : (l : Linkage) (talk : List Talk) → AreTameTalks talk → TameLinkage l → TameLinkage (linkage_from l talk)
from_tame l [] tame so = so
from_tame l (one ∷ talk) tame so = from_tame (linkage_after l one) talk tame.1 (after_tame l one tame.0 so)

linkage_tame : (talk : List Talk) → AreTameTalks talk → AreTameLinks (all_links (linkage talk))
linkage_tame talk tame = let so = from_tame no_linkage talk tame (record { past = tt; up = tt }) in both_all AreTamePdus (linkage talk).past (option_to_list (linkage talk).up) so.past (last_links (linkage talk).up so.up)

captured_tame : (side : Side) (past capture : List Entry) (talk : List Talk) → AreTameTalks talk → linkage talk ≡ captured side past → linking (moves side capture) ≡ linking (moves side past) → AreTameLinks (map pdus (links side capture))
captured_tame side past capture talk tame known same =
    subst AreTameLinks (ap all_links known ∙ (captured_links side past ∙ ap (λ (l : Linking). map pdus (l.past ++ option_to_list l.up)) (sym same))) (linkage_tame talk tame)

pub client-keeps : (settings : Settings) → KeepsFit (client_profile settings) IsSoberPdu (IsProper (policy settings false)) IsLowClient
client-keeps settings = clients-keep_fit settings IsSoberPdu (IsProper (policy settings false)) (proper-holds (policy settings false))

pub server-keeps : (settings : Settings) (content : Option Contents) → KeepsFit (server_profile settings content) IsSoberPdu (IsProper (policy settings true)) AnyServer
server-keeps settings content = servers-keep_fit settings content IsSoberPdu (IsProper (policy settings true)) (proper-holds (policy settings true))

pub record BothTame (capture : List Entry) : Type 0 where
  pub a : AreTameLinks (map pdus (links sides.A capture))
  pub b : AreTameLinks (map pdus (links sides.B capture))

pub both_tame : (scenario : Scenario) (content : Option Contents) (capture : List Entry) → Ran scenario content capture → BothTame capture
both_tame scenario content capture ran =
    let U = client_of scenario in
    let V = server_of scenario content in
    let past = all_entries ran.happenings in
    let all = carried U V scenario.acl_length scenario.acl_count scenario.names ran.happenings ran.world (fits scenario content) ran.happened in
    let one = host-tames (client_profile scenario.settings) IsLowClient (client-keeps scenario.settings) in
    let other = host-tames (server_profile scenario.settings content) AnyServer (server-keeps scenario.settings content) in
    let tame = all_tame U V (FitHost (IsProper (policy scenario.settings false)) IsLowClient) (FitHost (IsProper (policy scenario.settings true)) AnyServer) one other scenario.acl_length scenario.names all.doings _ all.of_script all.carries in
    let same : (side : Side) → linking (moves side capture) ≡ linking (moves side past) = λ side. ap (λ (es : List Entry). linking (moves side es)) ran.capture_is ∙ ended_all side ran.world.pushes past ran.ends ran.last in
    record { a = captured_tame sides.A past capture all.talk_a tame.a.talk all.links_a (same sides.A); b = captured_tame sides.B past capture all.talk_b tame.b.talk all.links_b (same sides.B) }

of_links : (list : List Link) → AreTameLinks (map pdus list) → AllByRecursion (λ (link : Link). AllByRecursion HasOneCommand (pdus link)) list
of_links [] all = tt
of_links (link ∷ list) all = (on_link (pdus link) all.0, of_links list all.1)
  where
    on_link : (moved : List Pdu) → AreTamePdus moved → AllByRecursion HasOneCommand moved
    on_link [] tame = tt
    on_link (pdu ∷ moved) tame = (λ here. (tame.0.0, tame.0.1 here), on_link moved tame.1)

pub pdus_have_one_command : PdusHaveOneCommand
pdus_have_one_command scenario content capture sides.A ran = of_links (links sides.A capture) (both_tame scenario content capture ran).a
pdus_have_one_command scenario content capture sides.B ran = of_links (links sides.B capture) (both_tame scenario content capture ran).b

-- ---- what a host heard, however it came to its links

-- what came in
abbrev pub IsTameInto : Pdu → Type 0
IsTameInto pdu = pdu.flow ≡ Into → IsTame pdu.octets

into_all : (list : List Pdu) → AreTamePdus list → AllByRecursion IsTameInto list
into_all [] all = tt
into_all (pdu ∷ list) all = (λ is. all.0, into_all list all.1)

out_all : (pdus : List (List ℕ)) → AllByRecursion IsTameInto (map out_of pdus)
out_all [] = tt
out_all (pdu ∷ pdus) = (λ is. cc, out_all pdus)

abbrev pub IsTamePart : List Talk → Type 0
IsTamePart part = AllByRecursion IsTameInto (flat_map pdus_in part)

pub fallen : (list : List (List Talk)) (moved : List (List Pdu)) → FallTo list moved → AreTameLinks moved → AllByRecursion IsTamePart list
fallen [] moved fall tame = tt
fallen (part ∷ list) moved (inl (none, rest)) tame = (subst (AllByRecursion IsTameInto) (sym none) tt, fallen list moved rest tame)
fallen (part ∷ list) moved (inr (link, rest, unsent, is, part_is, fall)) tame =
    let all : AreTameLinks (link ∷ rest) = subst AreTameLinks is tame in
    (subst (AllByRecursion IsTameInto) (sym part_is) (both_all IsTameInto link (map out_of unsent) (into_all link all.0) (out_all unsent)), fallen list rest fall all.1)

turn_silent : (one : Talk) → turns_link one ≡ true → pdus_in one ≡ []
turn_silent (Told (Linked event)) is = refl
turn_silent (Told (Failed status)) is = cc
turn_silent (Told (Heard pdu)) is = cc
turn_silent (Told TimerFired) is = cc
turn_silent (Told Cancelled) is = cc
turn_silent (Told (Opening name)) is = cc
turn_silent (Said pdu) is = cc
turn_silent (Unsent pdu) is = cc
turn_silent (Met fate checked) is = cc
turn_silent (Done outcome) is = cc

abbrev ManyParts : List (List Talk) → Type 0
ManyParts list = AllByRecursion IsTamePart list

of_parts : (part talk : List Talk) → ManyParts (parts_from part talk) → IsTamePart (part ++ talk)
of_parts part [] all = subst IsTamePart (sym (append-nil part)) all.0
of_parts part (one ∷ talk) all = by (turns_link one) refl all (of_parts [] talk) (of_parts (part ++ one ∷ []) talk)
  where
    by : (turns : Bool) → turns_link one ≡ turns → ManyParts (cond turns (part ∷ parts_from [] talk) (parts_from (part ++ one ∷ []) talk)) → (ManyParts (parts_from [] talk) → IsTamePart talk)
        → (ManyParts (parts_from (part ++ one ∷ []) talk) → IsTamePart ((part ++ one ∷ []) ++ talk)) → IsTamePart (part ++ one ∷ talk)
    by true is all new more =
        subst (AllByRecursion IsTameInto) (sym (flat_map-append pdus_in part (one ∷ talk)))
        (both_all IsTameInto (flat_map pdus_in part) (pdus_in one ++ flat_map pdus_in talk) all.0 (subst (λ (l : List Pdu). AllByRecursion IsTameInto (l ++ flat_map pdus_in talk)) (sym (turn_silent one is)) (new all.1)))
    by false is all new more = subst IsTamePart (append_assoc part (one ∷ []) talk) (more all)

abbrev pub IsTameAct : Act Circumstance → Type 0
IsTameAct (Hears circumstances news) = IsTameNews news
IsTameAct (Says pdu) = Unit {0}

deeds_tame : (acts : List (Act Circumstance)) → AllByRecursion IsTameInto (flat_map deed_pdus (map deed_of acts)) → AllByRecursion IsTameAct acts
deeds_tame [] all = tt
deeds_tame (Hears circumstances (Linked event) ∷ acts) all = (tt, deeds_tame acts all)
deeds_tame (Hears circumstances (Failed status) ∷ acts) all = (tt, deeds_tame acts all)
deeds_tame (Hears circumstances (Heard pdu) ∷ acts) all = (all.0 refl, deeds_tame acts all.1)
deeds_tame (Hears circumstances TimerFired ∷ acts) all = (tt, deeds_tame acts all)
deeds_tame (Hears circumstances Cancelled ∷ acts) all = (tt, deeds_tame acts all)
deeds_tame (Hears circumstances (Opening name) ∷ acts) all = (tt, deeds_tame acts all)
deeds_tame (Says pdu ∷ acts) all = (tt, deeds_tame acts all.1)

acts_tame : (acts : List (Act Circumstance)) (talk : List Talk) → map deed_of acts ≡ flat_map deeds_in talk → IsTamePart talk → AllByRecursion IsTameAct acts
acts_tame acts talk deeds tame = deeds_tame acts (subst (AllByRecursion IsTameInto) (sym (ap (flat_map deed_pdus) deeds ∙ talks_pdus talk)) tame)

-- by its talk
talks_part : (talk : List Talk) → AreTameTalks talk → IsTamePart talk
talks_part [] tame = tt
talks_part (one ∷ talk) tame = both_all IsTameInto (pdus_in one) (flat_map pdus_in talk) (into_all (pdus_in one) tame.0) (talks_part talk tame.1)

later_tame : (past since : List Talk) → AreTameTalks (past ++ since) → AreTameTalks since
later_tame [] since tame = tame
later_tame (one ∷ past) since tame = later_tame past since tame.1

-- of all that it did since its link came up
pub since_tame : {P : Type 0} (A : Profile P) (talk : List Talk) (now : Host P) (on : OnLink (upper A) talk now) → AreTameTalks talk → AllByRecursion IsTameAct on.acts
since_tame A talk now on tame = acts_tame on.acts on.since on.deeds_are (talks_part on.since (later_tame on.past (Told (Linked Up) ∷ on.since) (subst AreTameTalks on.talk_is tame)).1)

-- however it came to its links
pub heard_tame : {P : Type 0} (A : Profile P) (side : Side) (capture : List Entry) (now : Host P) (came : CameOver A side capture now) → AreTameLinks (map pdus (links side capture)) → AllByRecursion IsTameAct came.over.acts
heard_tame A side capture now came tame = acts_tame came.over.acts came.talk came.over.deeds_are (of_parts [] came.talk (fallen (parts came.talk) (map pdus (links side capture)) came.fall tame))

-- ---- so it is gentle

-- without channels a firing says nothing
none_fires : (policy : Policy) → FiresPlainly policy no_channels
none_fires policy empty = record { waits = refl; due = tt }

module _ {P : Type 0} (A : Profile P) (Q R : P → Type 0) (keeps : KeepsFit A IsSoberPdu (IsProper A.policy) Q) (away : Keeps A R) where
  sober_act : (act : Act Circumstance) → IsTameAct act → IsSoberAct act
  sober_act (Hears circumstances news) tame = sober_of news tame
  sober_act (Says pdu) tame = tt

  -- while a link is up
  up_gentle : (act : Act Circumstance) (host mid : Host P) → Does (upper A) act host mid → IsTameAct act → FitHost (IsProper A.policy) Q host → IsFreeAct A act host → IsGentleUp A true act host
  up_gentle (Hears circumstances (Linked event)) host mid does tame fit free = tt
  up_gentle (Hears circumstances (Failed status)) host mid does tame fit free = tt
  up_gentle (Hears circumstances (Heard pdu)) host mid does tame fit free = (free, λ here. let one = tame.1 here in (tame.0, omega (arith, one)))
  up_gentle (Hears circumstances TimerFired) host mid does tame fit free = free
  up_gentle (Hears circumstances Cancelled) host mid does tame fit free = tt
  up_gentle (Hears circumstances (Opening name)) host mid does tame fit free = tt
  up_gentle (Says pdu) host mid does tame fit free = reads-so A host mid pdu fit.channels does

  -- and while none is
  off_gentle : (act : Act Circumstance) (host mid : Host P) → Does (upper A) act host mid → IsTimely false act → Off A R away host → IsGentleUp A false act host
  off_gentle (Hears circumstances (Linked event)) host mid does timely off = tt
  off_gentle (Hears circumstances (Failed status)) host mid does timely off = tt
  off_gentle (Hears circumstances (Heard pdu)) host mid does timely off = cc
  off_gentle (Hears circumstances TimerFired) host mid does timely off = (ap next_given off.channels_are, subst (FiresPlainly A.policy) (sym off.channels_are) (none_fires A.policy))
  off_gentle (Hears circumstances Cancelled) host mid does timely off = tt
  off_gentle (Hears circumstances (Opening name)) host mid does timely off = tt
  off_gentle (Says pdu) host mid does timely off = absurd (says_none A R away host mid pdu off does)

  now_gentle : (up : Bool) (act : Act Circumstance) (host mid : Host P) → Does (upper A) act host mid → IsTameAct act → IsTimely up act → FitHost (IsProper A.policy) Q host → (up ≡ false → Off A R away host) → (up ≡ true → IsFreeAct A act host) → IsGentleUp A up act host
  now_gentle true act host mid does tame timely fit off free = up_gentle act host mid does tame fit (free refl)
  now_gentle false act host mid does tame timely fit off free = off_gentle act host mid does timely (off refl)

  acts_gentle : (acts : List (Act Circumstance)) (up : Bool) (host now : Host P) → Acting (upper A) acts host now → AllByRecursion IsTameAct acts → AreInTurn (upper A) up acts host → FitHost (IsProper A.policy) Q host → (up ≡ false → Off A R away host) → AreFreeUp A up acts host
      → AreGentleUp A up acts host
  acts_gentle [] up host now same tame turn fit off free = tt
  acts_gentle (act ∷ acts) up host now (mid, does, rest) tame turn fit off free = (
    now_gentle up act host mid does tame.0 turn.0.timely fit off free.0,
    λ other also. acts_gentle acts (is_up_behind up act) other now (subst (λ (h : Host P). Acting (upper A) acts h now) (does_one (upper A) act host mid other does also) rest) tame.1 (turn.1 other also)
        (act-fits A IsSoberPdu (IsProper A.policy) Q keeps act host other (sober_act act tame.0) also fit) (act_off A R away act up host other also turn.0.timely off) (free.1 other also),
  )

  pub comes_gently : (side : Side) (capture : List Entry) (now : Host P) → AreTameLinks (map pdus (links side capture)) → ComesGently A side capture now
  comes_gently side capture now tame came free =
      let over = came.over in
      let heard = heard_tame A side capture now came tame in
      acts_gentle over.acts false (first_host A) now over.acting heard over.in_turn (first-fits A IsSoberPdu (IsProper A.policy) Q keeps) (λ down. record { channels_are = refl; profile_is = away.first }) free

  -- ---- at rest

  -- on a link it stays there
  on_gentle : (acts : List (Act Circumstance)) (host now : Host P) → Acting (upper A) acts host now → AllByRecursion StaysOnLink acts → AllByRecursion IsTameAct acts → FitHost (IsProper A.policy) Q host → AreFreeUp A true acts host → AreGentle A acts host
  on_gentle [] host now same stays tame fit free = tt
  on_gentle (act ∷ acts) host now (mid, does, rest) stays tame fit free = (
    up_gentle act host mid does tame.0 fit (free.0 refl),
    λ other also. on_gentle acts other now (subst (λ (h : Host P). Acting (upper A) acts h now) (does_one (upper A) act host mid other does also) rest) stays.1 tame.1
        (act-fits A IsSoberPdu (IsProper A.policy) Q keeps act host other (sober_act act tame.0) also fit) (subst (λ (up : Bool). AreFreeUp A up acts other) (stays_up act stays.0) (free.1 other also)),
  )
    where
      stays_up : (act : Act Circumstance) → StaysOnLink act → is_up_behind true act ≡ true
      stays_up (Hears circumstances (Linked event)) stays = absurd stays
      stays_up (Hears circumstances (Failed status)) stays = refl
      stays_up (Hears circumstances (Heard pdu)) stays = refl
      stays_up (Hears circumstances TimerFired) stays = refl
      stays_up (Hears circumstances Cancelled) stays = refl
      stays_up (Hears circumstances (Opening name)) stays = refl
      stays_up (Says pdu) stays = refl

  -- where all that it heard is tame
  pub link_gentle : (talk : List Talk) (now : Host P) (on : OnLink (upper A) talk now) → KeepsFit A (λ pdu. Unit {0}) (λ v. Unit {0}) Q → AllByRecursion IsTameAct on.acts → AreFreeUp A true on.acts (hear A on.gifts (Linked Up) on.old)
      → AreGentle A on.acts (hear A on.gifts (Linked Up) on.old)
  link_gentle talk now on whatever heard free =
      on_gentle on.acts (hear A on.gifts (Linked Up) on.old) now on.acting on.stays heard (up-fits A IsSoberPdu (IsProper A.policy) Q keeps on.gifts on.old (profile-so A Q whatever on.before on.old on.acting_before)) free

  pub lives_through : (asks : Asks A) (moved : List Pdu) (now : Host P) → KeepsFit A (λ pdu. Unit {0}) (λ v. Unit {0}) Q → AreTamePdus moved → next A now ≡ None → (came : CameUp A moved now) → IsFreeOn A moved now came → TalksSo A asks came.talk now came.on
  lives_through asks moved now whatever tame none came free =
      let on = came.on in
      let heard = deeds_tame on.acts (subst (AllByRecursion IsTameInto) (sym (ap (flat_map deed_pdus) on.deeds_are ∙ (talks_pdus on.since ∙ came.moved_is))) (into_all moved tame)) in
      hosts_talk_in_turns A asks came.talk now on (link_gentle came.talk now on whatever heard free.free) none free.back

pub hosts_are_gentle : HostsAreGentle
hosts_are_gentle scenario content capture ran =
    let tame = both_tame scenario content capture ran in
    record {
      a = comes_gently (client_profile scenario.settings) IsLowClient HasNoLink (client-keeps scenario.settings) (clients_keep scenario.settings) sides.A capture ran.world.a.upper tame.a;
      b = comes_gently (server_profile scenario.settings content) AnyServer KnowsNone (server-keeps scenario.settings content) (servers_keep scenario.settings content) sides.B capture ran.world.b.upper tame.b;
    }

-- what moved on the link that is up
last_tame : (list : List Link) (up : Option Link) → AreTameLinks (map pdus (list ++ option_to_list up)) → IsTameUp (option_map pdus up)
last_tame list None all = tt
last_tame [] (Some link) all = all.0
last_tame (one ∷ list) (Some link) all = last_tame list (Some link) all.1

lived : {P : Type 0} (A : Profile P) (asks : Asks A) (side : Side) (past : List Entry) (linked : Bool) (now : Host P) (talk : List Talk) → Acted (upper A) linked now [] talk → linkage talk ≡ captured side past → (linked ≡ true → next A now ≡ None)
    → ((moved : List Pdu) → AreTamePdus moved → next A now ≡ None → (came : CameUp A moved now) → IsFreeOn A moved now came → TalksSo A asks came.talk now came.on)
    → AreTameLinks (map pdus (links side past)) → LivesThrough A asks (link_up side past) now
lived A asks side past true now talk acted known quiet lives tame = by (link_up side past) (last_tame (linking (moves side past)).past (link_up side past) tame)
  where
    by : (up : Option Link) → IsTameUp (option_map pdus up) → LivesThrough A asks up now
    by None all = tt
    by (Some link) all = lives (pdus link) all (quiet refl)
lived A asks side past false now talk acted known quiet lives tame = by (link_up side past) (ap (λ (l : Linkage). l.up) (sym known) ∙ (acted.parted.down refl).1)
  where
    by : (up : Option Link) → option_map pdus up ≡ None → LivesThrough A asks up now
    by None is = tt
    by (Some link) is = cc

pub rests_are_lived : RestsAreLived
rests_are_lived asks scenario content happenings world happened rests =
    let U = client_of scenario in
    let V = server_of scenario content in
    let past = all_entries happenings in
    let all = carried U V scenario.acl_length scenario.acl_count scenario.names happenings world (fits scenario content) happened in
    let both = (both_acted U V Anyhow Anyhow scenario.acl_length scenario.names all.doings _ all.so).0 in
    let rest = all.rests rests in
    let tame = both_tame scenario content past (record { happenings = happenings; world = world; happened = happened; ends = []; last = tt; capture_is = sym (append-nil past) }) in
    let client = client_profile scenario.settings in
    let server = server_profile scenario.settings content in
    record {
      a = lived client (asks.clients scenario.settings) sides.A past world.radio.a.up world.a.upper all.talk_a (idle_acted U Anyhow _ rest.idle_a both.a) all.links_a (λ up. (rest.idle_a.said_all up).none_next)
          (λ moved tame none came free. lives_through client IsLowClient HasNoLink (client-keeps scenario.settings) (clients_keep scenario.settings) (asks.clients scenario.settings) moved world.a.upper
          (clients-keep_fit scenario.settings (λ pdu. Unit {0}) (λ v. Unit {0}) (any-holds (policy scenario.settings false))) tame none came free) tame.a;
      b = lived server (asks.servers scenario.settings content) sides.B past world.radio.b.up world.b.upper all.talk_b (idle_acted V Anyhow _ rest.idle_b both.b) all.links_b (λ up. (rest.idle_b.said_all up).none_next)
          (λ moved tame none came free. lives_through server AnyServer KnowsNone (server-keeps scenario.settings content) (servers_keep scenario.settings content) (asks.servers scenario.settings content) moved world.b.upper
          (servers-keep_fit scenario.settings content (λ pdu. Unit {0}) (λ v. Unit {0}) (any-holds (policy scenario.settings true))) tame none came free) tame.b;
    }
