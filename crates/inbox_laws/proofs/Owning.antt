-- A server that reads what its inbox answers off its own state is the server of the scenario, which is given that with each thing that it
-- hears; where these answers are grants, it is the one whose inbox grants all, and where none of them is want of memory, the one whose inbox lacks none.
use Rattle.std.proofs.Common.{◌≡◌, ℕ, List, [], ◌∷◌, map, Some, None, Ok, Err, refl, sym, ap, ap₂, subst, ◌∙◌}
use Rattle.std.specs.List.{AllByRecursion}
use Rattle.pair_laws.specs.bt_base.specs.declared.settings.Settings.{Settings}
use Rattle.pair_laws.specs.channel_model.specs.Giving.{next_given}
use Rattle.pair_laws.specs.bt_base.specs.declared.ports.PortFault.TheVariants as fault
use Rattle.pair_laws.specs.obex_session.specs.InboxCalls.{Answer}
use Rattle.answer_laws.specs.Memory.{HadMemory}
use Rattle.pair_laws.specs.world_model.specs.Machines.{Upper, Up, Down, News, Linked, Failed, Heard, TimerFired, Cancelled, Opening}
use Rattle.pair_laws.specs.world_model.specs.Worlds.{World, Happening, Runs}
use Rattle.pair_laws.specs.rest_laws.specs.Premises.{AreOrderly}
use Rattle.pair_laws.specs.alike_laws.specs.Twins.{world_with}
use Rattle.pair_laws.specs.alike_laws.proofs.Alike.{AreAlike, runs_on, rest_on}
use Rattle.pair_laws.specs.host_model.specs.Circumstances.{Circumstance, Stored, answers_in}
use Rattle.pair_laws.specs.host_model.specs.Profiles.{Profile}
use Rattle.pair_laws.specs.host_model.specs.Hosts.{Host, most_said, driven, hears_news, hear, next}
use Rattle.pair_laws.specs.host_model.specs.Clients.{ClientProfile}
use Rattle.pair_laws.specs.host_model.specs.Servers.{ServerProfile, with_answers, server_profile}
use Rattle.pair_laws.specs.host_model.specs.Settings.{SetHost, set_to, said_with, client_machine, server_machine}
use Rattle.pair_laws.specs.host_model.proofs.Setting.{said_by, set_hosts_are_orderly}
use Rattle.pair_laws.specs.scenario_laws.proofs.SetHosts.{hear_same, says_same}
use Rattle.pair_laws.specs.Enough.{remembered}
use Rattle.pair_laws.specs.Granted.{answered_by, granted}
use Rattle.pair_laws.proofs.Answered.{IsSame, same_alike}
use Rattle.inbox_laws.specs.Owned.{own_profile, own_machine, BothSet, OwnRunsAreRuns, OwnRestsAreRests, GrantedRunsAreGranted, EnoughRunsAreEnough}
use Rattle.inbox_laws.proofs.Granting.{all_left, answers_kept}
use Rattle.inbox_laws.proofs.Keeping.{KeepsSo, hear_kept, next_kept}

-- ---- its answers, as they are given

stored_are : (answers : List Answer) → answers_in (map Stored answers) ≡ answers
stored_are [] = refl
stored_are (answer ∷ answers) = ap (λ (l : List Answer). answer ∷ l) (stored_are answers)

abbrev its : ServerProfile → List Circumstance
its serving = map Stored serving.inbox.answers

given_its : (serving : ServerProfile) → with_answers (its serving) serving ≡ serving
given_its serving = ap (λ (answers : List Answer). record serving { inbox = record { content = serving.inbox.content; answers = answers } }) (stored_are serving.inbox.answers)

-- ---- a host

abbrev Given : Settings → Profile ServerProfile
Given settings = server_profile settings None

-- what a server hears does not hang on what it is given with it
heard_alike : (settings : Settings) (one other : List Circumstance) (news : News) (host : Host ServerProfile) → hears_news (Given settings) one news host ≡ hears_news (Given settings) other news host
heard_alike settings one other (Linked Up) host = refl
heard_alike settings one other (Linked (Down reason)) host = refl
heard_alike settings one other (Failed status) host = refl
heard_alike settings one other (Heard pdu) host = refl
heard_alike settings one other TimerFired host = refl
heard_alike settings one other Cancelled host = refl
heard_alike settings one other (Opening name) host = refl

abbrev keeps_own : List Circumstance → ServerProfile → ServerProfile
keeps_own circumstances serving = serving

pub own_hears : (settings : Settings) (answers : List Circumstance) (news : News) (host : Host ServerProfile) → hear (Given settings) (its host.profile) news host ≡ hear (own_profile settings) answers news host
own_hears settings answers news host =
    let A = Given settings in
    let gifts = its host.profile in
    let now : Host ServerProfile = record host { may_say = most_said } in
    ap (λ (serving : ServerProfile). let after : Host ServerProfile = record host { profile = serving; may_say = most_said } in driven A (hears_news A gifts news after)) (given_its host.profile)
    ∙ (ap (λ (h : Host ServerProfile). driven A h) (heard_alike settings gifts answers news now) ∙ sym (hear_same A A.first keeps_own answers news host))

pub own_next : (settings : Settings) (host : Host ServerProfile) → next (Given settings) host ≡ next (own_profile settings) host
own_next settings host = let A = Given settings in sym (says_same A A.first keeps_own (next_given host.channels) host.may_say host)

-- ---- the machines

set_hears : (answers : List Circumstance) (news : News) (s t : SetHost ServerProfile) → t ≡ s → server_machine.hear (its s.host.profile) news t ≡ own_machine.hear answers news s
set_hears answers news s t is = ap (server_machine.hear (its s.host.profile) news) is ∙ ap (set_to s.settings) (own_hears s.settings answers news s.host)

set_next : (s t : SetHost ServerProfile) → t ≡ s → server_machine.next t ≡ own_machine.next s
set_next s t is = ap server_machine.next is ∙ ap (said_with s.settings) (own_next s.settings s.host)

pub own_alike : AreAlike (λ s t. t ≡ s) own_machine server_machine
own_alike = record {
  hear = λ answers news s t is. (its s.host.profile, set_hears answers news s t is);
  says = λ s t is pdu after same. (after, refl, set_next s t is ∙ same);
  silent = λ s t is none. set_next s t is ∙ none;
  wants_link = λ s t is. ap server_machine.wants_link is;
  leaves_link = λ s t is. ap server_machine.leaves_link is;
  is_idle = λ s t is. ap server_machine.is_idle is;
  outcome = λ s t is. ap server_machine.outcome is;
  armed = λ s t is. ap server_machine.armed is;
  may_cancel = λ s t is. ap server_machine.may_cancel is;
  has_check = λ s t own is. ap (λ x. server_machine.has_check x own) is;
}

pub itself : {S G : Type 0} (U : Upper S G) → AreAlike (IsSame {S = S}) U U
itself {G = G} U = same_alike (λ news (answers : List G). answers) U

-- where each answer that is left is one which other ports give as well, it goes as a server with these ports
module _ (to : Circumstance → Circumstance) (P : Answer → Type 0) (stays : (answer : Answer) → P answer → to (Stored answer) ≡ Stored answer) where
  abbrev Answering : Upper (SetHost ServerProfile) Circumstance
  Answering = answered_by (λ news circumstances. map to circumstances) server_machine

  abbrev Has : ServerProfile → Type 0
  Has serving = AllByRecursion P serving.inbox.answers

  abbrev IsAnswering : SetHost ServerProfile → SetHost ServerProfile → Type 0
  IsAnswering s t = (t ≡ s) × Has s.host.profile

  are_given : (answers : List Answer) → AllByRecursion P answers → map to (map Stored answers) ≡ map Stored answers
  are_given [] all = refl
  are_given (answer ∷ answers) all = ap₂ (λ (one : Circumstance) (l : List Circumstance). one ∷ l) (stays answer all.0) (are_given answers all.1)

  has_kept : (settings : Settings) → KeepsSo (own_profile settings) Has
  has_kept settings = answers_kept (AllByRecursion P) (all_left P) settings

  answering_hears : (answers : List Circumstance) (news : News) (s t : SetHost ServerProfile) → IsAnswering s t → Answering.hear (its s.host.profile) news t ≡ own_machine.hear answers news s
  answering_hears answers news s t so = ap (λ (gifts : List Circumstance). server_machine.hear gifts news t) (are_given s.host.profile.inbox.answers so.1) ∙ set_hears answers news s t so.0

  answering_on : (s : SetHost ServerProfile) (pdu : List ℕ) (after : SetHost ServerProfile) → own_machine.next s ≡ Some (pdu, after) → Has s.host.profile → Has after.host.profile
  answering_on s pdu after is all =
      let (host, said, same) = said_by s.settings (next (own_profile s.settings) s.host) pdu after is in
      subst (λ (x : SetHost ServerProfile). Has x.host.profile) (sym same) (next_kept (own_profile s.settings) Has (has_kept s.settings) s.host pdu host said all)

  answering_alike : AreAlike IsAnswering own_machine Answering
  answering_alike = record {
    hear = λ answers news s t so. (its s.host.profile, (answering_hears answers news s t so, hear_kept (own_profile s.settings) Has (has_kept s.settings) answers news s.host so.1));
    says = λ s t so pdu after same. (after, (refl, answering_on s pdu after same so.1), set_next s t so.0 ∙ same);
    silent = λ s t so none. set_next s t so.0 ∙ none;
    wants_link = λ s t so. ap server_machine.wants_link so.0;
    leaves_link = λ s t so. ap server_machine.leaves_link so.0;
    is_idle = λ s t so. ap server_machine.is_idle so.0;
    outcome = λ s t so. ap server_machine.outcome so.0;
    armed = λ s t so. ap server_machine.armed so.0;
    may_cancel = λ s t so. ap server_machine.may_cancel so.0;
    has_check = λ s t own so. ap (λ x. server_machine.has_check x own) so.0;
  }

  -- beside any machine
  pub answering_runs : {S G : Type 0} (U : Upper S G) (happenings : List Happening) (old new : World S (SetHost ServerProfile)) → Has old.b.upper.host.profile → Runs U own_machine happenings old new → Runs U Answering happenings old new
  answering_runs {S = S} U happenings old new all runs =
      let (there, alike, ran) = runs_on IsSame IsAnswering U U own_machine Answering (itself U) answering_alike happenings old.a.upper old.b.upper old new refl (refl, all) runs in
      let same : there ≡ new = alike.same ∙ ap₂ (λ (x : S) (y : SetHost ServerProfile). world_with x y new) alike.a alike.b.0 in
      subst (λ (w : World S (SetHost ServerProfile)). Runs U Answering happenings old w) same ran

abbrev pub IsGranted : Answer → Type 0
IsGranted answer = answer ≡ Ok tt

-- an inbox that grants all gives grants as well
pub grants_stay : (answer : Answer) → IsGranted answer → granted (Stored answer) ≡ Stored answer
grants_stay answer is = ap Stored (sym is)

-- and one that does not lack memory what is not want of memory
pub memory_stays : (answer : Answer) → HadMemory answer → remembered (Stored answer) ≡ Stored answer
memory_stays (Ok done) had = refl
memory_stays (Err fault.Failed) had = refl
memory_stays (Err fault.NoMemory) had = absurd (had refl)

pub own_orderly : AreOrderly client_machine own_machine
own_orderly =
    let both = set_hosts_are_orderly in
    record { frames_a = both.frames_a; frames_b = λ s pdu after is. both.frames_b s pdu after (set_next s s refl ∙ is); idles = both.idles; once = both.once }

-- ---- runs

-- what happens to such a server happens to that of the scenario
pub own_runs : OwnRunsAreRuns
own_runs happenings old new runs =
    let (there, alike, ran) = runs_on IsSame IsSame client_machine client_machine own_machine server_machine (itself client_machine) own_alike happenings old.a.upper old.b.upper old new refl refl runs in
    let same : there ≡ new = alike.same ∙ ap₂ (λ (x : SetHost ClientProfile) (y : SetHost ServerProfile). world_with x y new) alike.a alike.b in
    subst (λ (w : BothSet). Runs client_machine server_machine happenings old w) same ran

pub own_rest : OwnRestsAreRests
own_rest w rest = rest_on IsSame IsSame client_machine client_machine own_machine server_machine (itself client_machine) own_alike w w (record { a = refl; b = refl; same = refl }) rest

-- where its answers are grants, to one whose inbox grants all
pub granted_runs : GrantedRunsAreGranted
granted_runs = answering_runs granted IsGranted grants_stay client_machine

-- and where none of them is want of memory, to one whose inbox does not lack memory
pub enough_runs : EnoughRunsAreEnough
enough_runs = answering_runs remembered HadMemory memory_stays client_machine
