-- A server that keeps what its inbox is to answer, and one with a tape.
use Rattle.std.proofs.Common.{◌≡◌, ℕ, Bool, true, List, [], map, Option, Some, None, unwrap_or, inl, inr, refl, sym, ap, subst, ◌∙◌}
use Rattle.inbox_laws.specs.bt_base.specs.declared.settings.Settings.{Settings}
use Rattle.inbox_laws.specs.bt_base.specs.Objects.{Contents}
use Rattle.inbox_laws.specs.channel_model.specs.Giving.{next_given}
use Rattle.inbox_laws.specs.obex_session.specs.InboxCalls.{Answer}
use Rattle.inbox_laws.specs.world_model.specs.Machines.{News, Upper}
use Rattle.inbox_laws.specs.alike_laws.proofs.Alike.{AreAlike, runs_on}
use Rattle.inbox_laws.specs.host_model.specs.Circumstances.{Circumstance, Stored}
use Rattle.inbox_laws.specs.host_model.specs.Hosts.{Host, first_host, most_said, driven, hears_news, ready, hear, next}
use Rattle.inbox_laws.specs.host_model.specs.Machines.{upper}
use Rattle.inbox_laws.specs.host_model.specs.Profiles.{Profile}
use Rattle.inbox_laws.specs.host_model.specs.Servers.{ServerProfile, with_answers, server_profile}
use Rattle.inbox_laws.specs.scenario_laws.proofs.SetHosts.{hear_same, says_same}
use Rattle.inbox_laws.specs.pair_laws.proofs.Answered.{IsSame, same_alike}
use Rattle.inbox_laws.proofs.Keeping.{KeepsSo, hear_kept, next_kept}
use Rattle.tape_laws.specs.Once.{once}
use Rattle.tape_laws.specs.Own.{own_first, own_server, taped_server, AreOneServer, OwnServersAreTaped}
use Rattle.tape_laws.specs.Taped.{Taped, untaped_host}
use Rattle.tape_laws.proofs.Hearing.{untaped_said, alone_so, hears_so, next_so}
use Rattle.tape_laws.proofs.Once.{answers_are, servers_hear_news_alone}

module _ (settings : Settings) (content : Option Contents) (answers : List Answer) where
  abbrev A : Profile ServerProfile
  A = server_profile settings content

  abbrev Own : Profile ServerProfile
  Own = own_server settings content answers

  abbrev B : Profile (Taped ServerProfile Bool)
  B = taped_server settings content answers

  abbrev On : Type 0
  On = Host (Taped ServerProfile Bool)

  abbrev keeps : List Circumstance → ServerProfile → ServerProfile
  keeps circumstances serving = serving

  -- ---- the tape has run

  abbrev HasRun : Taped ServerProfile Bool → Type 0
  HasRun now = now.at ≡ true

  abbrev still : List Circumstance → Taped ServerProfile Bool → Taped ServerProfile Bool
  still circumstances now = now

  still_run : KeepsSo (record B { given = still }) HasRun
  still_run = record { given = λ circumstances p so. so; told = λ circumstances news p so. so; received = λ own psm sdu p so. so; happened = λ event v p so. so; sent = λ v p so. so; steps = λ v p so. so }

  all_run : KeepsSo B HasRun
  all_run = record { given = λ circumstances p so. refl; told = λ circumstances news p so. so; received = λ own psm sdu p so. so; happened = λ event v p so. so; sent = λ v p so. so; steps = λ v p so. so }

  run_heard : (news : News) (host : On) → HasRun (hear B [] news host).profile
  run_heard news host =
      let given = ready B [] host in
      subst (λ (h : On). HasRun h.profile) (hear_same B B.first still [] news given) (hear_kept (record B { given = still }) HasRun still_run [] news given refl)

  -- ---- it hears the same

  own_hears : (one gifts : List Circumstance) (news : News) (own : Host ServerProfile) (serving : ServerProfile) → with_answers gifts serving ≡ own.profile → hear Own one news own ≡ hear A gifts news (record own { profile = serving })
  own_hears one gifts news own serving same =
      hear_same A (own_first settings content answers) keeps one news own
      ∙ (ap (λ (h : Host ServerProfile). driven A h) (alone_so A (once answers) (servers_hear_news_alone settings content) one gifts news (record own { may_say = most_said }))
      ∙ sym (ap (λ (p : ServerProfile). let after : Host ServerProfile = record own { profile = p; may_say = most_said } in driven A (hears_news A gifts news after)) same))

  with_these : (list : List Answer) (serving : ServerProfile) → with_answers (map Stored list) serving ≡ record serving { inbox = record { content = serving.inbox.content; answers = list } }
  with_these list serving = ap (λ (l : List Answer). record serving { inbox = record { content = serving.inbox.content; answers = l } }) (answers_are list)

  bare_hears : (one : List Circumstance) (news : News) (own : Host ServerProfile) (host : On) → AreOneServer settings content answers own host → hear Own one news own ≡ untaped_host (hear B [] news host)
  bare_hears one news own host (inl (is, run)) =
      let told : List Circumstance = (once answers).gives host.profile.at host.profile.profile in
      let left : told ≡ map Stored host.profile.profile.inbox.answers = ap (λ (b : Bool). (once answers).gives b host.profile.profile) run in
      ap (λ (h : Host ServerProfile). hear Own one news h) is
      ∙ (own_hears one told news (untaped_host host) host.profile.profile (ap (λ (l : List Circumstance). with_answers l host.profile.profile) left ∙ with_these host.profile.profile.inbox.answers host.profile.profile)
      ∙ sym (hears_so A (once answers) (servers_hear_news_alone settings content) [] news host))
  bare_hears one news own host (inr (is, first)) =
      ap (λ (h : Host ServerProfile). hear Own one news h) is
      ∙ (own_hears one (map Stored answers) news (first_host Own) A.first (with_these answers A.first)
      ∙ (sym (hears_so A (once answers) (servers_hear_news_alone settings content) [] news (first_host B))
      ∙ ap (λ (h : On). untaped_host (hear B [] news h)) (sym first)))

  -- ---- and says the same

  bare_next : (own : Host ServerProfile) (host : On) → own ≡ untaped_host host → next Own own ≡ untaped_said A (once answers) (next B host)
  bare_next own host is = says_same A (own_first settings content answers) keeps (next_given own.channels) own.may_say own ∙ (ap (next A) is ∙ sym (next_so A (once answers) host))

  record SaidSo (host : On) (pdu : List ℕ) (after : Host ServerProfile) : Type 0 where
    now : On
    same : after ≡ untaped_host now
    said : next B host ≡ Some (pdu, now)

  said_by : (host : On) (said : Option (List ℕ × On)) (pdu : List ℕ) (after : Host ServerProfile) → next B host ≡ said → untaped_said A (once answers) said ≡ Some (pdu, after) → SaidSo host pdu after
  said_by host None pdu after is same = cc
  said_by host (Some (other, now)) pdu after is same = record {
    now = now;
    same = sym (ap (λ (o : Option (List ℕ × Host ServerProfile)). (unwrap_or o (pdu, after)).1) same);
    said = is ∙ ap (λ (p : List ℕ). Some (p, now)) (ap (λ (o : Option (List ℕ × Host ServerProfile)). (unwrap_or o (pdu, after)).0) same);
  }

  none_of : (said : Option (List ℕ × On)) → untaped_said A (once answers) said ≡ None → said ≡ None
  none_of None none = refl
  none_of (Some one) none = cc

  abbrev R : Host ServerProfile → On → Type 0
  R own host = AreOneServer settings content answers own host

  says_so : (own : Host ServerProfile) (host : On) → R own host → (pdu : List ℕ) (after : Host ServerProfile) → next Own own ≡ Some (pdu, after) → (now : On) × R after now × (next B host ≡ Some (pdu, now))
  says_so own host (inl (is, run)) pdu after said =
      let so = said_by host (next B host) pdu after refl (sym (bare_next own host is) ∙ said) in (so.now, inl (so.same, next_kept B HasRun all_run host pdu so.now so.said run), so.said)
  says_so own host (inr (is, first)) pdu after said = let none : next Own own ≡ None = ap (next Own) is in cc

  silent_so : (own : Host ServerProfile) (host : On) → R own host → next Own own ≡ None → next B host ≡ None
  silent_so own host (inl (is, run)) none = none_of (next B host) (sym (bare_next own host is) ∙ none)
  silent_so own host (inr (is, first)) none = ap (next B) first

  either : {X : Type 0} (one : Host ServerProfile → X) (other : On → X) → ((host : On) → other host ≡ one (untaped_host host)) → other (first_host B) ≡ one (first_host Own) → (own : Host ServerProfile) (host : On) → R own host → other host ≡ one own
  either one other same begins own host (inl (is, run)) = same host ∙ ap one (sym is)
  either one other same begins own host (inr (is, first)) = ap other first ∙ (begins ∙ ap one (sym is))

  own_alike : AreAlike R (upper Own) (upper B)
  own_alike = record {
    hear = λ gifts news s t so. ([], inl (bare_hears gifts news s t so, run_heard news t));
    says = says_so;
    silent = silent_so;
    wants_link = either (upper Own).wants_link (upper B).wants_link (λ host. refl) refl;
    leaves_link = either (upper Own).leaves_link (upper B).leaves_link (λ host. refl) refl;
    is_idle = either (upper Own).is_idle (upper B).is_idle (λ host. refl) refl;
    outcome = either (upper Own).outcome (upper B).outcome (λ host. refl) refl;
    armed = either (upper Own).armed (upper B).armed (λ host. refl) refl;
    may_cancel = either (upper Own).may_cancel (upper B).may_cancel (λ host. refl) refl;
    has_check = λ s t own so. either (λ x. (upper Own).has_check x own) (λ x. (upper B).has_check x own) (λ host. refl) refl s t so;
  }

pub own_servers_are_taped : {S G : Type 0} (U : Upper S G) → OwnServersAreTaped U
own_servers_are_taped {S} {G} U settings content answers happenings old new begins runs =
    let B = taped_server settings content answers in
    runs_on IsSame (AreOneServer settings content answers) U U (upper (own_server settings content answers)) (upper B) (same_alike (λ news (gifts : List G). gifts) U) (own_alike settings content answers) happenings old.a.upper (first_host B) old new refl (inr (begins, refl)) runs
