-- Host b of a run whose inbox does not lack memory never fails.
use Rattle.std.proofs.Common.{◌≡◌, ℕ, Bool, true, false, ◌||◌, List, [], ◌∷◌, map, Ok, Err, Option, Some, None, refl, sym, ap, subst, ◌∙◌}
use Rattle.std.specs.List.{AllByRecursion}
use Rattle.std.proofs.lemmas.Bool.{cond_both}
use Rattle.pair_laws.specs.bt_base.specs.Objects.{Contents}
use Rattle.pair_laws.specs.bt_base.specs.declared.settings.Settings.{Settings}
use Rattle.pair_laws.specs.bt_base.specs.declared.ports.PortFault.TheVariants.{Failed as Faulty, NoMemory}
use Rattle.pair_laws.specs.obex_session.specs.InboxCalls.{InboxCall, Answer, come_of, left_by}
use Rattle.pair_laws.specs.push_script.specs.declared.scenario.Scenario.{Scenario}
use Rattle.pair_laws.specs.channel_model.specs.declared.event.ChannelEvent.{ChannelEvent}
use Rattle.pair_laws.specs.channel_model.specs.declared.event.ChannelEvent.TheVariants.{Opened, Closed, Features, FeaturesLost, DisconnectLost}
use Rattle.pair_laws.specs.channel_model.specs.Calls.{sends}
use Rattle.pair_laws.specs.channel_model.specs.Giving.{next_given}
use Rattle.pair_laws.specs.channel_model.specs.Value.{Channels}
use Rattle.pair_laws.specs.push_model.specs.Sessions.{is_short}
use Rattle.pair_laws.specs.push_model.specs.Server as server
use Rattle.pair_laws.specs.push_model.specs.Server.{Server, Lent, lends, lent_sdu}
use Rattle.pair_laws.specs.world_model.specs.Machines.{News, Linked, Up, Down, Failed, Heard, TimerFired, Cancelled, Opening, Upper}
use Rattle.pair_laws.specs.world_model.specs.Worlds.{Happening}
use Rattle.pair_laws.specs.host_model.specs.Circumstances.{Circumstance, Size, Part, Stored, answers_in}
use Rattle.pair_laws.specs.host_model.specs.Endpoints.{endpoint_of, takes_sdu}
use Rattle.pair_laws.specs.host_model.specs.Hosts.{Host, ready, hear}
use Rattle.pair_laws.specs.host_model.specs.Machines.{upper}
use Rattle.pair_laws.specs.host_model.specs.Pdus.{sdu_of}
use Rattle.pair_laws.specs.host_model.specs.Profiles.{Stride, Profile}
use Rattle.pair_laws.specs.host_model.specs.Servers as servers
use Rattle.pair_laws.specs.host_model.specs.Servers.{ServerProfile, server_profile}
use Rattle.pair_laws.specs.host_laws.specs.Acts.{Act, Hears, Says, Acting}
use Rattle.pair_laws.specs.scenario_laws.specs.Captures.{client_of, server_of, BothHosts}
use Rattle.pair_laws.specs.scenario_laws.proofs.Acting.{Anyhow}
use Rattle.pair_laws.specs.scenario_laws.proofs.Both.{both_acted}
use Rattle.pair_laws.specs.scenario_laws.proofs.Carrying.{carried}
use Rattle.pair_laws.specs.scenario_laws.proofs.Fronts.{fits}
use Rattle.pair_laws.specs.scenario_laws.proofs.SetHosts.{hear_same, says_same}
use Rattle.pair_laws.specs.Enough.{with_memory, remembered, remembering}
use Rattle.pair_laws.specs.Granted.{answered_by}
use Rattle.pair_laws.proofs.Answered.{fits-so}
use Rattle.pair_laws.proofs.Paired.{as_it_is}
use Rattle.answer_laws.specs.Memory.{HadMemory}
use Rattle.answer_laws.proofs.Using.{sdu_heard, channel_closed, link_gone}
use Rattle.inbox_laws.proofs.Keeping.{KeepsSo, hear_kept, next_kept}
use Rattle.search_laws.specs.Searches.{HappenedWithMemory}
use Rattle.paying_laws.proofs.Prompt.{lends_fails, taken_fails}

-- it has not failed, and no answer that is left is want of memory
abbrev Works : Bool → List Answer → Type 0
Works failed answers = (failed ≡ false) × AllByRecursion HadMemory answers

calls_work : (calls : List InboxCall) (answers : List Answer) → AllByRecursion HadMemory answers → (is_short (come_of calls answers) ≡ false) × AllByRecursion HadMemory (left_by calls answers)
calls_work [] answers all = (refl, all)
calls_work (call ∷ calls) [] all = (refl, tt)
calls_work (call ∷ calls) (Ok done ∷ answers) all = calls_work calls answers all.1
calls_work (call ∷ calls) (Err Faulty ∷ answers) all = (refl, all.1)
calls_work (call ∷ calls) (Err NoMemory ∷ answers) all = absurd (all.0 refl)

left_works : (failed : Bool) (calls : List InboxCall) (answers : List Answer) → Works failed answers → Works (failed || is_short (come_of calls answers)) (left_by calls answers)
left_works failed calls answers (well, all) = let next = calls_work calls answers all in (ap (λ (b : Bool). b || is_short (come_of calls answers)) well ∙ next.0, next.1)

-- ---- a profile

abbrev Able : ServerProfile → Type 0
Able q = Works q.server.listener.service.failed q.inbox.answers

down_able : (reason : ℕ) (q : ServerProfile) → Able q → Able (servers.unlinked (servers.reacts (server.link_down q.server q.inbox) q))
down_able reason q able = link_gone Works left_works q.server q.inbox able

told_able : (g : List Circumstance) (news : News) (q : ServerProfile) → Able q → Able (servers.told g news q)
told_able g (Linked Up) q able = able
told_able g (Linked (Down reason)) q able = down_able reason q able
told_able g (Failed status) q able = able
told_able g (Heard pdu) q able = able
told_able g TimerFired q able = able
told_able g Cancelled q able = able
told_able g (Opening name) q able = able

happens_able : (event : ChannelEvent) (v : Channels) (q : ServerProfile) → Able q → Able (servers.happened event v q)
happens_able (Opened own psm) v q able = able
happens_able (Closed own psm reason) v q able = cond_both (servers.is_told reason) (servers.reacts (server.channel_down psm q.server q.inbox) q) q Able (λ e. channel_closed Works left_works psm q.server q.inbox able) (λ e. able)
happens_able (Features features) v q able = able
happens_able FeaturesLost v q able = able
happens_able (DisconnectLost own) v q able = able

submits_able : (found : Option ℕ) (lent : Lent) (v : Channels) (s : Server) (q : ServerProfile) → s.listener.service.failed ≡ q.server.listener.service.failed → Able q → Able (servers.submits found lent v s q).profile
submits_able None lent v s q same able = (same ∙ able.0, able.1)
submits_able (Some own) lent v s q same able =
    let took : Stride ServerProfile = record { channels = sends own (sdu_of lent.payload) v; profile = record q { server = server.stepped s }; more = true } in
    cond_both (takes_sdu own (sdu_of lent.payload) v) took (servers.waiting v s q) (λ (x : Stride ServerProfile). Able x.profile) (λ e. (taken_fails s.lent s ∙ (same ∙ able.0), able.1)) (λ e. (same ∙ able.0, able.1))

takes_able : (lent : Option Lent) (v : Channels) (s : Server) (q : ServerProfile) → s.listener.service.failed ≡ q.server.listener.service.failed → Able q → Able (servers.takes lent v s q).profile
takes_able None v s q same able = (same ∙ able.0, able.1)
takes_able (Some lent) v s q same able = submits_able (endpoint_of lent.psm q.endpoints) lent v s q same able

module _ (settings : Settings) (content : Option Contents) where
  abbrev B : Profile ServerProfile
  B = server_profile settings content

  abbrev still : List Circumstance → ServerProfile → ServerProfile
  still g q = q

  kept_still : KeepsSo (record (server_profile settings content) { given = still }) Able
  kept_still = record {
    given = λ g q able. able;
    told = told_able;
    received = λ own psm sdu q able. sdu_heard Works left_works psm sdu q.server q.inbox able;
    happened = happens_able;
    sent = λ v q able. able;
    steps = λ v q able. takes_able (lent_sdu (lends q.server)) v (lends q.server) q (lends_fails q.server.lent q.server) able;
  }

  not_short : (answer : Answer) → HadMemory (with_memory answer)
  not_short (Ok done) = λ e. cc
  not_short (Err Faulty) = λ e. cc
  not_short (Err NoMemory) = λ e. cc

  none_short : (g : List Circumstance) → AllByRecursion HadMemory (answers_in (map remembered g))
  none_short [] = tt
  none_short (Size answer ∷ g) = none_short g
  none_short (Part answer ∷ g) = none_short g
  none_short (Stored answer ∷ g) = (not_short answer, none_short g)

  heard_able : (g : List Circumstance) (news : News) (host : Host ServerProfile) → Able host.profile → Able (hear (server_profile settings content) (map remembered g) news host).profile
  heard_able g news host able =
      let gifts = map remembered g in
      let given = ready B gifts host in
      subst (λ (h : Host ServerProfile). Able h.profile) (hear_same B B.first still gifts news given) (hear_kept (record B { given = still }) Able kept_still gifts news given (able.0, none_short g))

  said_able : (pdu : List ℕ) (host after : Host ServerProfile) → (upper (server_profile settings content)).next host ≡ Some (pdu, after) → Able host.profile → Able after.profile
  said_able pdu host after said able = next_kept (record B { given = still }) Able kept_still host pdu after (says_same B B.first still (next_given host.channels) host.may_say host ∙ said) able

  abbrev V : Upper (Host ServerProfile) Circumstance
  V = remembering (upper (server_profile settings content))

  acts_able : (acts : List (Act Circumstance)) (old now : Host ServerProfile) → Acting (remembering (upper (server_profile settings content))) acts old now → Able old.profile → Able now.profile
  acts_able [] old now same able = subst (λ (h : Host ServerProfile). Able h.profile) (sym same) able
  acts_able (Hears g news ∷ acts) old now (mid, does, rest) able = acts_able acts mid now rest (subst (λ (h : Host ServerProfile). Able h.profile) (sym does) (heard_able g news old able))
  acts_able (Says pdu ∷ acts) old now (mid, does, rest) able = acts_able acts mid now rest (said_able pdu old mid does able)

-- at each moment
pub moments-unfailed : (scenario : Scenario) (content : Option Contents) (happenings : List Happening) (world : BothHosts) → HappenedWithMemory scenario content happenings world → world.b.upper.profile.server.listener.service.failed ≡ false
moments-unfailed scenario content happenings world happened =
    let U = answered_by as_it_is (client_of scenario) in
    let V = remembering (server_of scenario content) in
    let all = carried U V scenario.acl_length scenario.acl_count scenario.names happenings world (fits-so (client_of scenario) (server_of scenario content) as_it_is (λ news answers. map remembered answers) scenario.acl_length (fits scenario content)) happened in
    let b = (both_acted U V Anyhow Anyhow scenario.acl_length scenario.names all.doings _ all.so).0.b.acted in
    let mid = acts_able scenario.settings content b.went.went.over.acts V.first b.mid b.went.went.over.acting (refl, tt) in
    (acts_able scenario.settings content (map Says _) b.mid world.b.upper b.says mid).0
