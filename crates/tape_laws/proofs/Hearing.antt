-- A host with a tape hears and says as one without it.
use Rattle.std.proofs.Common.{◌≡◌, ℕ, zero, suc, Bool, true, false, List, [], Option, Some, None, is_some, refl, sym, ap, ap₂, subst, ◌∙◌, if◌then◌else◌}
use Rattle.std.specs.Option.{option_map}
use Rattle.inbox_laws.specs.acl_fragments.specs.Pieces.{channel_of}
use Rattle.inbox_laws.specs.channel_model.specs.Calls.{link_down}
use Rattle.inbox_laws.specs.channel_model.specs.Giving.{Given, next_given, after_given}
use Rattle.inbox_laws.specs.channel_model.specs.Hearing.{hears, up}
use Rattle.inbox_laws.specs.channel_model.specs.Timing.{timed_out}
use Rattle.inbox_laws.specs.world_model.specs.Machines.{Up, Down, News, Linked, Failed, Heard, TimerFired, Cancelled, Opening, Upper}
use Rattle.inbox_laws.specs.world_model.specs.Worlds.{World, Runs}
use Rattle.inbox_laws.specs.alike_laws.specs.Twins.{world_with}
use Rattle.inbox_laws.specs.alike_laws.proofs.Alike.{AreAlike, runs_on}
use Rattle.inbox_laws.specs.host_model.specs.Circumstances.{Circumstance}
use Rattle.inbox_laws.specs.host_model.specs.Hosts.{Host, drives, driven, most_steps, steps_behind, goes_on, goes_by, strides, settles, tells_events, told, with_channels, handed, hears_news, ready, hear, after_said, says, next}
use Rattle.inbox_laws.specs.host_model.specs.Machines.{upper}
use Rattle.inbox_laws.specs.host_model.specs.Pdus.{pdu_of, is_frame}
use Rattle.inbox_laws.specs.host_model.specs.Profiles.{Profile}
use Rattle.inbox_laws.specs.pair_laws.proofs.Answered.{IsSame, same_alike}
use Rattle.tape_laws.specs.Taped.{Tape, Taped, taped, untaped_host}
use Rattle.tape_laws.specs.Runs.{HearsNewsAlone, untaped_world, TapedHostsHearSo, TapedRunsAreRuns}
use Rattle.tape_laws.proofs.Untaping.{each_so, handed_so}

module _ {P T : Type 0} (A : Profile P) (tape : Tape P T) where
  abbrev B : Profile (Taped P T)
  B = taped A tape

  abbrev On : Type 0
  On = Host (Taped P T)

  one_of : (test : Bool) (x y : On) → untaped_host (if test then x else y) ≡ (if test then untaped_host x else untaped_host y)
  one_of true x y = refl
  one_of false x y = refl

  -- ---- what it does by itself

  events_so : (host : On) → untaped_host (tells_events B host) ≡ tells_events A (untaped_host host)
  events_so host =
      let v = host.channels in
      ap (λ (p : P). let after : Host P = record { channels = record v { events = [] }; profile = p; may_say = host.may_say } in after) (each_so A tape v.events v host.profile)

  goes_so : (more : On → On) (plain : Host P → Host P) → ((host : On) → untaped_host (more host) ≡ plain (untaped_host host)) → (host : On) → untaped_host (goes_on B more host) ≡ goes_on A plain (untaped_host host)
  goes_so more plain same host =
      let stride = B.steps host.channels host.profile in
      let after = strides B stride host in
      let here : untaped_host after ≡ strides A (A.steps host.channels host.profile.profile) (untaped_host host) = events_so (record host { channels = stride.channels; profile = stride.profile }) in
      one_of (is_some (next_given host.channels)) host (goes_by B more stride host)
      ∙ ap (λ (x : Host P). if is_some (next_given host.channels) then untaped_host host else x)
      (one_of stride.more (more after) after ∙ ap₂ (λ (x y : Host P). if stride.more then x else y) (same after ∙ ap plain here) here)

  drives_so : (count : ℕ) (host : On) → untaped_host (drives B count host) ≡ drives A count (untaped_host host)
  unfolding drives
  drives_so zero host = refl
  drives_so (suc count) host = goes_so (λ on. drives B count on) (λ on. drives A count on) (drives_so count) (settles B host)

  -- ---- what it hears

  down_so : (news : News) (circumstances : List Circumstance) (host : On) → untaped_host (told B circumstances news (tells_events B host)) ≡ told A circumstances news (tells_events A (untaped_host host))
  down_so news circumstances host = ap (λ (x : Host P). told A circumstances news x) (events_so host)

  news_so : (circumstances : List Circumstance) (news : News) (host : On) → untaped_host (hears_news B circumstances news host) ≡ hears_news A circumstances news (untaped_host host)
  news_so circumstances (Linked Up) host = refl
  news_so circumstances (Linked (Down reason)) host = down_so (Linked (Down reason)) circumstances (with_channels (link_down host.channels) host)
  news_so circumstances (Failed status) host = refl
  news_so circumstances (Heard pdu) host =
      let v = hears A.policy (channel_of pdu) pdu host.channels in
      let one = up (channel_of pdu) pdu host.channels in
      events_so (record host { channels = v; profile = handed B one host.profile })
      ∙ ap (λ (p : P). let after : Host P = record { channels = v; profile = p; may_say = host.may_say } in tells_events A after) (sym (handed_so A tape one host.profile))
  news_so circumstances TimerFired host = down_so TimerFired circumstances (with_channels (timed_out A.policy host.channels) host)
  news_so circumstances Cancelled host = refl
  news_so circumstances (Opening name) host = refl

  told_so : HearsNewsAlone A → (one other : List Circumstance) (news : News) (host : Host P) → told A one news host ≡ told A other news host
  told_so alone one other news host = ap (λ (p : P). record host { profile = p }) (alone one other news host.profile)

  pub alone_so : HearsNewsAlone A → (one other : List Circumstance) (news : News) (host : Host P) → hears_news A one news host ≡ hears_news A other news host
  alone_so alone one other (Linked Up) host = told_so alone one other (Linked Up) _
  alone_so alone one other (Linked (Down reason)) host = told_so alone one other (Linked (Down reason)) _
  alone_so alone one other (Failed status) host = told_so alone one other (Failed status) host
  alone_so alone one other (Heard pdu) host = refl
  alone_so alone one other TimerFired host = told_so alone one other TimerFired _
  alone_so alone one other Cancelled host = told_so alone one other Cancelled host
  alone_so alone one other (Opening name) host = told_so alone one other (Opening name) host

  pub hears_so : TapedHostsHearSo A tape
  hears_so alone circumstances news host =
      let given = tape.gives host.profile.at host.profile.profile in
      drives_so most_steps (hears_news B circumstances news (ready B circumstances host))
      ∙ ap (λ (x : Host P). driven A x) (news_so circumstances news (ready B circumstances host) ∙ alone_so alone circumstances given news (ready A given (untaped_host host)))

  -- ---- what it says

  abbrev Said : Type 0
  Said = Option (List ℕ × On)

  abbrev pub untaped_said : Said → Option (List ℕ × Host P)
  untaped_said said = option_map (λ one. (one.0, untaped_host one.1)) said

  frame_so : (test : Bool) (pdu : List ℕ) (after : On) (plain : Host P) → untaped_host after ≡ plain → untaped_said (if test then Some (pdu, after) else None) ≡ (if test then Some (pdu, plain) else None)
  frame_so true pdu after plain same = ap (λ (x : Host P). Some (pdu, x)) same
  frame_so false pdu after plain same = refl

  says_so : (given : Option Given) (count : ℕ) (host : On) → untaped_said (says B given count host) ≡ says A given count (untaped_host host)
  says_so None count host = refl
  says_so (Some given) zero host = refl
  says_so (Some given) (suc count) host =
      frame_so (is_frame (pdu_of given)) (pdu_of given) (after_said B count host) (after_said A count (untaped_host host))
      (ap (λ (x : Host P). record x { may_say = count }) (drives_so (steps_behind count) (with_channels (after_given host.channels) host)))

  pub next_so : (host : On) → untaped_said (next B host) ≡ next A (untaped_host host)
  next_so host = says_so (next_given host.channels) host.may_say host

  -- ---- runs

  abbrev pub IsBare : On → Host P → Type 0
  IsBare host plain = plain ≡ untaped_host host

  pub taped_alike : HearsNewsAlone A → AreAlike IsBare (upper B) (upper A)
  taped_alike alone = record {
    hear = λ answers news s t is. let given = tape.gives s.profile.at s.profile.profile in (given, ap (hear A given news) is ∙ sym (hears_so alone answers news s));
    says = λ s t is pdu after same. (untaped_host after, refl, ap (next A) is ∙ (sym (next_so s) ∙ ap untaped_said same));
    silent = λ s t is none. ap (next A) is ∙ (sym (next_so s) ∙ ap untaped_said none);
    wants_link = λ s t is. ap (upper A).wants_link is;
    leaves_link = λ s t is. ap (upper A).leaves_link is;
    is_idle = λ s t is. ap (upper A).is_idle is;
    outcome = λ s t is. ap (upper A).outcome is;
    armed = λ s t is. ap (upper A).armed is;
    may_cancel = λ s t is. ap (upper A).may_cancel is;
    has_check = λ s t own is. ap (λ x. (upper A).has_check x own) is;
  }

pub taped_runs_are_runs : {S G P T : Type 0} (U : Upper S G) (A : Profile P) (tape : Tape P T) → TapedRunsAreRuns U A tape
taped_runs_are_runs {S} {G} {P} {T} U A tape alone happenings old new runs =
    let (there, alike, ran) = runs_on IsSame (IsBare A tape) U U (upper (taped A tape)) (upper A) (same_alike (λ news (answers : List G). answers) U) (taped_alike A tape alone) happenings old.a.upper (untaped_host old.b.upper) old new refl refl runs in
    let same : there ≡ untaped_world new = alike.same ∙ ap₂ (λ (x : S) (y : Host P). world_with x y new) alike.a alike.b in
    subst (λ (w : World S (Host P)). Runs U (upper A) happenings (untaped_world old) w) same ran
