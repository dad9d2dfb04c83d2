-- Where a client without an outcome stands is what its begins and its units say of the link of its push.
use Rattle.std.proofs.Common.{◌≡◌, ◌⊎◌, ℕ, Bool, true, false, List, [], ◌∷◌, ◌++◌, Option, Some, None, Result, Ok, Err, is_some, refl, sym, ap, subst, ◌∙◌, append_assoc, append-nil, inl, inr, if◌then◌else◌}
use Rattle.outcome_laws.specs.cause_laws.specs.bt_base.specs.declared.ports.PortFault.{PortFault}
use Rattle.outcome_laws.specs.cause_laws.specs.bt_base.specs.declared.ports.PortFault.TheVariants as fault
use Rattle.outcome_laws.specs.cause_laws.specs.bt_base.specs.declared.settings.Settings.{Settings}
use Rattle.outcome_laws.specs.cause_laws.specs.push_terms.specs.declared.outcome.Outcome.{Outcome}
use Rattle.outcome_laws.specs.cause_laws.specs.push_terms.specs.declared.outcome.Outcome.TheVariants.{ShelfFault}
use Rattle.outcome_laws.specs.unit_laws.specs.scenario_laws.specs.capture.specs.Moves.{Move}
use Rattle.outcome_laws.specs.unit_laws.specs.scenario_laws.specs.host_link.specs.Hearing.{PlainNews, Nothing, LinkUp, LinkFailed, LinkDown, Pdu, news_of}
use Rattle.outcome_laws.specs.unit_laws.specs.scenario_laws.specs.host_link.specs.Stands.{Stands}
use Rattle.outcome_laws.specs.unit_laws.specs.scenario_laws.specs.host_link.specs.declared.role.Role.TheVariants.{Client as Paging}
use Rattle.outcome_laws.specs.cause_laws.specs.push_model.specs.declared.course.Point.TheVariants.{Due, Asked}
use Rattle.outcome_laws.specs.cause_laws.specs.push_model.specs.declared.course.Stage.{Stage}
use Rattle.outcome_laws.specs.cause_laws.specs.push_model.specs.declared.course.Stage.TheVariants.{Rest, Link as Paged, SearchChannel, Search, SearchEnd, Features, ObjectChannel, Object, ObjectEnd, LinkEnd, Over}
use Rattle.outcome_laws.specs.cause_laws.specs.push_model.specs.Causes.{cause_of_page}
use Rattle.outcome_laws.specs.cause_laws.specs.push_model.specs.Client.{Client}
use Rattle.outcome_laws.specs.cause_laws.specs.push_model.specs.Events as events
use Rattle.outcome_laws.specs.cause_laws.specs.push_model.specs.Events.{linked_at, is_linked, is_paging, over, hears_news}
use Rattle.outcome_laws.specs.cause_laws.specs.push_model.specs.Shown.{first_of}
use Rattle.outcome_laws.specs.cause_laws.specs.world_model.specs.Machines.{News, Linked, Up, Down, Failed, Heard, TimerFired, Cancelled, Opening}
use Rattle.outcome_laws.specs.cause_laws.specs.host_model.specs.Circumstances.{Circumstance}
use Rattle.outcome_laws.specs.cause_laws.specs.host_model.specs.Clients.{NoBid, ClientProfile, client_profile, ended, opens}
use Rattle.outcome_laws.specs.cause_laws.specs.host_model.specs.Hosts.{Host, hears_news as host_hears, ready, hear, drives, most_steps, next}
use Rattle.outcome_laws.specs.cause_laws.specs.host_model.specs.Machines.{upper}
use Rattle.outcome_laws.specs.cause_laws.specs.host_model.specs.Profiles.{Profile}
use Rattle.outcome_laws.specs.cause_laws.specs.host_model.specs.Shelves.{size_for, name_for}
use Rattle.outcome_laws.specs.cause_laws.specs.host_model.proofs.Keeping.{KeepsNews, drives_on, hears_on, goes_next}
use Rattle.outcome_laws.specs.cause_laws.specs.host_laws.specs.Onward.{Befits}
use Rattle.outcome_laws.specs.cause_laws.specs.host_laws.proofs.OnwardSteps.{IsSo, keeps_so, learns_so, ended_stays}
use Rattle.outcome_laws.specs.cause_laws.proofs.Clients.{is_shelf, Came, came_same, HasCome, has_come, over_comes}
use Rattle.outcome_laws.specs.cause_laws.proofs.Driving.{down_comes}
use Rattle.outcome_laws.specs.cause_laws.proofs.Profiles.{keeps_lame, well_before}
use Rattle.outcome_laws.specs.unit_laws.specs.Units.{Comes, Learns, Says, Puts, Commands, Waits, units, starting, hears_line, IsOwnNews, Happens, Runs, Whatever}
use Rattle.outcome_laws.specs.unit_laws.proofs.Doing.{runs_then}
use Rattle.outcome_laws.specs.unit_laws.proofs.Running.{lines_are_read}
use Rattle.outcome_laws.specs.BroughtAbout.{is_begin}
use Rattle.outcome_laws.proofs.Bringing.{run_lame, one_lame}
use Rattle.outcome_laws.proofs.Telling.{hears_so}
use Rattle.outcome_laws.specs.FirstCause.{begun_cause}
use Rattle.coming_laws.specs.AddingUp.{shown_at_begin, outcome_with, OutcomesAddUp}
use Rattle.coming_laws.specs.Shelf.{shelf_shows}
use Rattle.coming_laws.specs.Telling.{shown_with}
use Rattle.coming_laws.specs.OwnLinks.{PushLink, NoPush, Linkless, OwnLink, with_link, link_with, push_link}
use Rattle.coming_laws.proofs.Lists.{push_link_more}
use Rattle.coming_laws.proofs.Lining.{is_up_told, brings}
use Rattle.coming_laws.proofs.Still.{keeps_still, news_still, LeavesStill, opens_paged, opens_none, opens_lacking, opens_lame}
use Rattle.coming_laws.proofs.Calm.{is_calm, is_unshelf, drives_calm}
use Rattle.coming_laws.proofs.Shelving.{none_both}
use Rattle.coming_laws.proofs.Adding.{One, At, line_came, one_told, run_told, adds_up, stays_with}

-- ---- on its link

onto_link : (c : Client) (s : Stage) → s ≡ Paged Asked → (let d = linked_at s c in Befits d.stage NoBid × (is_linked d.stage ≡ true))
onto_link c s at = subst (λ (stage : Stage). let d = linked_at stage c in Befits d.stage NoBid × (is_linked d.stage ≡ true)) (sym at) (by (is_some c.cause))
  where
    by : (b : Bool) → (let d : Client = if b then record c { stage = LinkEnd Due } else record c { stage = SearchChannel Due } in Befits d.stage NoBid × (is_linked d.stage ≡ true))
    by true = (refl, refl)
    by false = (refl, refl)

linked_suits : (s : Stage) → is_linked s ≡ true → Befits s NoBid
linked_suits Rest on = cc
linked_suits (Paged point) on = cc
linked_suits (SearchChannel point) on = refl
linked_suits Search on = refl
linked_suits (SearchEnd point) on = refl
linked_suits (Features point) on = refl
linked_suits (ObjectChannel point) on = refl
linked_suits Object on = refl
linked_suits (ObjectEnd point) on = refl
linked_suits (LinkEnd point) on = refl
linked_suits Over on = cc

linked_stays : (c : Client) (s : Stage) → is_linked s ≡ true → linked_at s c ≡ c
linked_stays c Rest on = refl
linked_stays c (Paged point) on = cc
linked_stays c (SearchChannel point) on = refl
linked_stays c Search on = refl
linked_stays c (SearchEnd point) on = refl
linked_stays c (Features point) on = refl
linked_stays c (ObjectChannel point) on = refl
linked_stays c Object on = refl
linked_stays c (ObjectEnd point) on = refl
linked_stays c (LinkEnd point) on = refl
linked_stays c Over on = refl

pub linked_unpaged : (s : Stage) → is_linked s ≡ true → is_paging s ≡ false
linked_unpaged Rest on = refl
linked_unpaged (Paged point) on = cc
linked_unpaged (SearchChannel point) on = refl
linked_unpaged Search on = refl
linked_unpaged (SearchEnd point) on = refl
linked_unpaged (Features point) on = refl
linked_unpaged (ObjectChannel point) on = refl
linked_unpaged Object on = refl
linked_unpaged (ObjectEnd point) on = refl
linked_unpaged (LinkEnd point) on = refl
linked_unpaged Over on = refl

-- ---- where it stands

-- without a push it rests, without a link it waits for one, and on its link it stays
abbrev pub IsAt : PushLink → ClientProfile → Type 0
IsAt NoPush p = p.client.stage ≡ Rest
IsAt Linkless p = p.client.stage ≡ Paged Asked
IsAt OwnLink p = IsSo true p

-- or its push has an outcome
abbrev pub Placed : PushLink → ClientProfile → Type 0
Placed link p = HasCome p.client.cause ⊎ IsAt link p

module _ (settings : Settings) where
  abbrev C : Profile ClientProfile
  C = client_profile settings

  -- ---- of a unit

  stays_rest : (gifts : List Circumstance) (news : News) (host : Host ClientProfile) → LeavesStill Rest news → host.profile.client.stage ≡ Rest → (hear (client_profile settings) gifts news host).profile.client.stage ≡ Rest
  stays_rest gifts news host leaves at = hears_on C (λ (p : ClientProfile). p.client.stage ≡ Rest) (keeps_still settings Rest refl) gifts news host (news_still settings Rest refl news leaves) at

  stays_paged : (gifts : List Circumstance) (news : News) (host : Host ClientProfile) → LeavesStill (Paged Asked) news → host.profile.client.stage ≡ Paged Asked → (hear (client_profile settings) gifts news host).profile.client.stage ≡ Paged Asked
  stays_paged gifts news host leaves at = hears_on C (λ (p : ClientProfile). p.client.stage ≡ Paged Asked) (keeps_still settings (Paged Asked) refl) gifts news host (news_still settings (Paged Asked) refl news leaves) at

  stays_on : (gifts : List Circumstance) (news : News) (host : Host ClientProfile) → KeepsNews (client_profile settings) (IsSo true) news → IsSo true host.profile → IsSo true (hear (client_profile settings) gifts news host).profile
  stays_on gifts news host told so = hears_on C (IsSo true) (keeps_so settings true) gifts news host told so

  up_on : KeepsNews (client_profile settings) (IsSo true) (Linked Up)
  up_on circumstances p so =
      let on = so.linked refl in
      let same = linked_stays p.client p.client.stage on in
      record {
        suits = subst (λ (c : Client). Befits c.stage NoBid) (sym same) (linked_suits p.client.stage on);
        linked = λ up. subst (λ (c : Client). is_linked c.stage ≡ true) (sym same) on;
      }

  failed_on : (status : ℕ) → KeepsNews (client_profile settings) (IsSo true) (Failed status)
  failed_on status circumstances p so =
      let on = so.linked refl in
      let same : hears_news (events.LinkFailed status) p.client ≡ p.client = ap (λ (b : Bool). if b then over (cause_of_page status) p.client else p.client) (linked_unpaged p.client.stage on) in
      let still : is_linked (ended (hears_news (events.LinkFailed status) p.client)).stage ≡ true = (ended_stays (hears_news (events.LinkFailed status) p.client)).linked (subst (λ (c : Client). is_linked c.stage ≡ true) (sym same) on) in
      record { suits = linked_suits _ still; linked = λ up. still }

  comes_up : (gifts : List Circumstance) (host : Host ClientProfile) → host.profile.client.stage ≡ Paged Asked → IsSo true (hear (client_profile settings) gifts (Linked Up) host).profile
  comes_up gifts host at =
      let both = onto_link host.profile.client host.profile.client.stage at in
      drives_on C (IsSo true) (keeps_so settings true) most_steps (host_hears C gifts (Linked Up) (ready C gifts host)) (record { suits = both.0; linked = λ up. both.1 })

  failed_comes : (gifts : List Circumstance) (status : ℕ) (host : Host ClientProfile) → host.channels.events ≡ [] → host.profile.client.stage ≡ Paged Asked → HasCome (hear (client_profile settings) gifts (Failed status) host).profile.client.cause
  failed_comes gifts status host none at =
      let c = host.profile.client in
      has_come is_shelf (hears_news (events.LinkFailed status) c).cause _ (line_came settings gifts (LinkFailed status) host none)
      (subst (λ (b : Bool). HasCome (if b then over (cause_of_page status) c else c).cause) (sym (ap is_paging at)) (over_comes (cause_of_page status) c))

  comes_placed : (link : PushLink) (gifts : List Circumstance) (news : PlainNews) (host : Host ClientProfile) → host.channels.events ≡ [] → IsAt link host.profile
      → Placed (if is_up_told news then with_link link else link) (hears_line (upper (client_profile settings)) gifts news host).profile
  comes_placed link gifts Nothing host none at = inr at
  comes_placed NoPush gifts LinkUp host none at = inr (stays_rest gifts (Linked Up) host refl at)
  comes_placed NoPush gifts (LinkFailed status) host none at = inr (stays_rest gifts (Failed status) host refl at)
  comes_placed NoPush gifts (LinkDown reason) host none at = inr (stays_rest gifts (Linked (Down reason)) host tt at)
  comes_placed NoPush gifts (Pdu channel octets) host none at = inr (stays_rest gifts (Heard octets) host tt at)
  comes_placed Linkless gifts LinkUp host none at = inr (comes_up gifts host at)
  comes_placed Linkless gifts (LinkFailed status) host none at = inl (failed_comes gifts status host none at)
  comes_placed Linkless gifts (LinkDown reason) host none at = inr (stays_paged gifts (Linked (Down reason)) host tt at)
  comes_placed Linkless gifts (Pdu channel octets) host none at = inr (stays_paged gifts (Heard octets) host tt at)
  comes_placed OwnLink gifts LinkUp host none at = inr (stays_on gifts (Linked Up) host up_on at)
  comes_placed OwnLink gifts (LinkFailed status) host none at = inr (stays_on gifts (Failed status) host (failed_on status) at)
  comes_placed OwnLink gifts (LinkDown reason) host none at = inl (down_comes settings gifts reason host at)
  comes_placed OwnLink gifts (Pdu channel octets) host none at = inr (stays_on gifts (Heard octets) host (λ circumstances p so. so) at)

  -- ---- of what no unit brings

  learns_placed : (link : PushLink) (gifts : List Circumstance) (news : News) (host : Host ClientProfile) → IsOwnNews news → is_begin (Learns gifts news) ≡ false → IsAt link host.profile → IsAt link (hear (client_profile settings) gifts news host).profile
  learns_placed link gifts (Linked event) host own calm at = absurd own
  learns_placed link gifts (Failed status) host own calm at = absurd own
  learns_placed link gifts (Heard pdu) host own calm at = absurd own
  learns_placed link gifts (Opening name) host own calm at = cc
  learns_placed NoPush gifts TimerFired host own calm at = stays_rest gifts TimerFired host tt at
  learns_placed Linkless gifts TimerFired host own calm at = stays_paged gifts TimerFired host tt at
  learns_placed OwnLink gifts TimerFired host own calm at = stays_on gifts TimerFired host (λ circumstances p so. learns_so true circumstances TimerFired p tt so) at
  learns_placed NoPush gifts Cancelled host own calm at = stays_rest gifts Cancelled host tt at
  learns_placed Linkless gifts Cancelled host own calm at = stays_paged gifts Cancelled host tt at
  learns_placed OwnLink gifts Cancelled host own calm at = stays_on gifts Cancelled host (λ circumstances p so. learns_so true circumstances Cancelled p tt so) at

  says_placed : (link : PushLink) (pdu : List ℕ) (host after : Host ClientProfile) → next (client_profile settings) host ≡ Some (pdu, after) → IsAt link host.profile → IsAt link after.profile
  says_placed NoPush pdu host after is at = goes_next C (λ (p : ClientProfile). p.client.stage ≡ Rest) (keeps_still settings Rest refl) host pdu after is at
  says_placed Linkless pdu host after is at = goes_next C (λ (p : ClientProfile). p.client.stage ≡ Paged Asked) (keeps_still settings (Paged Asked) refl) host pdu after is at
  says_placed OwnLink pdu host after is at = goes_next C (IsSo true) (keeps_so settings true) host pdu after is at

  -- ---- a push begins

  begins_placed : (gifts : List Circumstance) (name : List ℕ) (host : Host ClientProfile) → host.channels.events ≡ [] → host.profile.client.failed ≡ false → (hear (client_profile settings) gifts (Opening name) host).profile.client.failed ≡ false
      → Placed Linkless (hear (client_profile settings) gifts (Opening name) host).profile
  begins_placed gifts name host none well after = by (size_for gifts name) refl
    where
      p : ClientProfile
      p = (ready (client_profile settings) gifts host).profile

      mid : Host ClientProfile
      mid = host_hears (client_profile settings) gifts (Opening name) (ready (client_profile settings) gifts host)

      opened : (size : Result ℕ PortFault) → size_for gifts name ≡ size → opens size (name_for name) p ≡ mid.profile
      opened size is = ap (λ (s : Result ℕ PortFault). opens s (name_for name) p) (sym is)

      by : (size : Result ℕ PortFault) → size_for gifts name ≡ size → Placed Linkless (hear (client_profile settings) gifts (Opening name) host).profile
      by (Ok size) is =
          inr (drives_on C (λ (q : ClientProfile). q.client.stage ≡ Paged Asked) (keeps_still settings (Paged Asked) refl) most_steps mid
          (subst (λ (q : ClientProfile). q.client.stage ≡ Paged Asked) (opened (Ok size) is) (opens_paged size (name_for name) p well)))
      by (Err fault.Failed) is =
          let lacking : mid.profile.client.cause ≡ Some ShelfFault = subst (λ (q : ClientProfile). q.client.cause ≡ Some ShelfFault) (opened (Err fault.Failed) is) (opens_lacking (name_for name) p well) in
          let came : Came is_shelf (Some ShelfFault) (drives C most_steps mid).profile.client.cause = hears_so settings is_shelf (λ outcome one. one) (Some ShelfFault) mid refl none lacking in
          inl (subst HasCome (sym came) tt)
      by (Err fault.NoMemory) is =
          let lame : mid.profile.client.failed ≡ true = subst (λ (q : ClientProfile). q.client.failed ≡ true) (opened (Err fault.NoMemory) is) (opens_lame (name_for name) p well) in
          let never : true ≡ false = sym (drives_on C (λ (q : ClientProfile). q.client.failed ≡ true) (keeps_lame settings) most_steps mid lame) ∙ after in
          absurd cc

  -- and what the shelf says of its size is its outcome, or it has none
  pub begun_exactly : (gifts : List Circumstance) (name : List ℕ) (host : Host ClientProfile) → host.channels.events ≡ [] → host.profile.client.failed ≡ false → (hear (client_profile settings) gifts (Opening name) host).profile.client.failed ≡ false
      → (hear (client_profile settings) gifts (Opening name) host).profile.client.cause ≡ begun_cause (size_for gifts name) None
  begun_exactly gifts name host none well after = by (size_for gifts name) refl
    where
      p : ClientProfile
      p = (ready (client_profile settings) gifts host).profile

      mid : Host ClientProfile
      mid = host_hears (client_profile settings) gifts (Opening name) (ready (client_profile settings) gifts host)

      opened : (size : Result ℕ PortFault) → size_for gifts name ≡ size → opens size (name_for name) p ≡ mid.profile
      opened size is = ap (λ (s : Result ℕ PortFault). opens s (name_for name) p) (sym is)

      came : (cause : Option Outcome) → mid.profile.client.cause ≡ cause → Came is_shelf cause (drives (client_profile settings) most_steps mid).profile.client.cause
      came cause is = hears_so settings is_shelf (λ outcome one. one) cause mid refl none (subst (λ (c : Option Outcome). Came is_shelf c mid.profile.client.cause) is (came_same is_shelf mid.profile.client.cause))

      by : (size : Result ℕ PortFault) → size_for gifts name ≡ size → (hear (client_profile settings) gifts (Opening name) host).profile.client.cause ≡ begun_cause size None
      by (Ok size) is =
          let at : mid.profile.client.stage ≡ Paged Asked = subst (λ (q : ClientProfile). q.client.stage ≡ Paged Asked) (opened (Ok size) is) (opens_paged size (name_for name) p well) in
          let cause : mid.profile.client.cause ≡ None = subst (λ (q : ClientProfile). q.client.cause ≡ None) (opened (Ok size) is) (opens_none size (name_for name) p well) in
          none_both (drives C most_steps mid).profile.client.cause (came None cause) (drives_calm settings None most_steps mid (ap is_calm at) (subst (Came is_unshelf None) (sym cause) tt))
      by (Err fault.Failed) is = came (Some ShelfFault) (subst (λ (q : ClientProfile). q.client.cause ≡ Some ShelfFault) (opened (Err fault.Failed) is) (opens_lacking (name_for name) p well))
      by (Err fault.NoMemory) is =
          let lame : mid.profile.client.failed ≡ true = subst (λ (q : ClientProfile). q.client.failed ≡ true) (opened (Err fault.NoMemory) is) (opens_lame (name_for name) p well) in
          let never : true ≡ false = sym (drives_on C (λ (q : ClientProfile). q.client.failed ≡ true) (keeps_lame settings) most_steps mid lame) ∙ after in
          absurd cc

  -- ---- one thing more

  abbrev failed_at : At → Bool
  failed_at now = now.upper.profile.client.failed

  come_on : (one : One) (old new : At) → Happens (upper (client_profile settings)) one old new → is_begin one ≡ false → old.upper.channels.events ≡ [] → HasCome old.upper.profile.client.cause → HasCome new.upper.profile.client.cause
  come_on one old new happens calm told come = by old.upper.profile.client.cause refl come
    where
      by : (cause : Option Outcome) → old.upper.profile.client.cause ≡ cause → HasCome cause → HasCome new.upper.profile.client.cause
      by None is has = absurd has
      by (Some outcome) is has = subst HasCome (sym (stays_with settings one old new happens calm told outcome is)) tt

  more_placed : (moved : List Move) (link : PushLink) (one : One) (old new : At) → Stands moved old.line → Happens (upper (client_profile settings)) one old new → is_begin one ≡ false → old.upper.channels.events ≡ [] → IsAt link old.upper.profile
      → Placed (link_with moved link one) new.upper.profile
  more_placed moved link (Comes gifts unit) old new stands (fault, is) calm told at =
      subst (λ (s : At). Placed (link_with moved link (Comes gifts unit)) s.upper.profile) (sym is)
      (subst (λ (b : Bool). Placed (if b then with_link link else link) (hears_line (upper C) gifts (news_of unit old.line) old.upper).profile) (sym (brings moved old.line unit stands (news_of unit old.line) refl))
      (comes_placed link gifts (news_of unit old.line) old.upper told at))
  more_placed moved link (Learns gifts news) old new stands (own, is) calm told at =
      subst (λ (s : At). Placed (link_with moved link (Learns gifts news)) s.upper.profile) (sym is)
      (subst (λ (b : Bool). Placed (if b then Linkless else link) (hear C gifts news old.upper).profile) (sym calm) (inr (learns_placed link gifts news old.upper own calm at)))
  more_placed moved link (Says pdu) old new stands says calm told at = inr (says_placed link pdu old.upper new.upper says.next_is at)
  more_placed moved link (Puts handle piece) old new stands puts calm told at = inr (subst (λ (h : Host ClientProfile). IsAt link h.profile) (sym puts.upper_is) at)
  more_placed moved link (Commands command) old new stands puts calm told at = inr (subst (λ (h : Host ClientProfile). IsAt link h.profile) (sym puts.upper_is) at)
  more_placed moved link Waits old new stands waits calm told at = inr (subst (λ (h : Host ClientProfile). IsAt link h.profile) (sym waits.upper_is) at)

  begun_placed : (moved : List Move) (link : PushLink) (one : One) (old new : At) → Happens (upper (client_profile settings)) one old new → is_begin one ≡ true → old.upper.channels.events ≡ [] → failed_at old ≡ false → failed_at new ≡ false
      → Placed (link_with moved link one) new.upper.profile
  begun_placed moved link (Learns gifts (Opening name)) old new (own, is) begins told well after =
      subst (λ (s : At). Placed Linkless s.upper.profile) (sym is) (begins_placed gifts name old.upper told well (ap (λ (s : At). failed_at s) (sym is) ∙ after))
  begun_placed moved link one old new happens begins told well after = cc

  pub begun_so : (one : One) (old new : At) → Happens (upper (client_profile settings)) one old new → is_begin one ≡ true → old.upper.channels.events ≡ [] → failed_at old ≡ false → failed_at new ≡ false → new.upper.profile.client.cause ≡ shown_at_begin one
  begun_so (Learns gifts (Opening name)) old new (own, is) begins told well after =
      ap (λ (s : At). s.upper.profile.client.cause) is ∙ begun_exactly gifts name old.upper told well (ap (λ (s : At). failed_at s) (sym is) ∙ after)
  begun_so one old new happens begins told well after = cc

  adds_exactly : (one : One) (old new : At) → Happens (upper (client_profile settings)) one old new → old.upper.channels.events ≡ [] → failed_at old ≡ false → failed_at new ≡ false → new.upper.profile.client.cause ≡ outcome_with settings one old
  adds_exactly one old new happens told well after = by (is_begin one) refl
    where
      by : (begins : Bool) → is_begin one ≡ begins
          → new.upper.profile.client.cause ≡ (if begins then shown_at_begin one else first_of (first_of old.upper.profile.client.cause (shown_with settings one old)) (shelf_shows settings one old))
      by true is = begun_so one old new happens is told well after
      by false is = adds_up settings one old new happens is told

  -- ---- all of it

  -- what is known of a client behind what came to it
  pub record IsKnown (list : List One) (now : At) : Type 0 where
    pub told : now.upper.channels.events ≡ []
    pub placed : Placed (push_link list) now.upper.profile

  one_known : (list : List One) (one : One) (old new : At) → Stands (units list) old.line → Happens (upper (client_profile settings)) one old new → failed_at old ≡ false → failed_at new ≡ false → IsKnown list old → IsKnown (list ++ one ∷ []) new
  one_known list one old new stands happens well after known = record {
    told = one_told settings one old new happens known.told;
    placed = subst (λ (link : PushLink). Placed link new.upper.profile) (sym (push_link_more list one)) (by (is_begin one) refl known.placed);
  }
    where
      by : (begins : Bool) → is_begin one ≡ begins → Placed (push_link list) old.upper.profile → Placed (link_with (units list) (push_link list) one) new.upper.profile
      by true is placed = begun_placed (units list) (push_link list) one old new happens is known.told well after
      by false is (inl come) = inl (come_on one old new happens is known.told come)
      by false is (inr at) = more_placed (units list) (push_link list) one old new stands happens is known.told at

  run_known : (done list : List One) (old new : At) → Runs (upper (client_profile settings)) Whatever done (starting (upper (client_profile settings)) Paging) old → Runs (upper (client_profile settings)) Whatever list old new → failed_at new ≡ false → IsKnown done old → IsKnown (done ++ list) new
  run_known done [] old new runs is well known = subst (λ (l : List One). IsKnown l new) (sym (append-nil done)) (subst (IsKnown done) (sym is) known)
  run_known done (one ∷ list) old new runs (mid, aside, happens, rest) well known =
      let mid_well = well_before settings (failed_at mid) (failed_at new) (run_lame settings list mid new rest) well in
      let old_well = well_before settings (failed_at old) (failed_at mid) (one_lame settings one old mid happens) mid_well in
      let U = upper C in
      let now_runs = runs_then U Whatever done (one ∷ []) (starting U Paging) old mid runs (mid, tt, happens, refl) in
      subst (λ (l : List One). IsKnown l new) (append_assoc done (one ∷ []) list)
      (run_known (done ++ one ∷ []) list mid new now_runs rest well (one_known done one old mid (lines_are_read U Paging done old runs) happens old_well mid_well known))

  pub known : (list : List One) (now : At) → Runs (upper (client_profile settings)) Whatever list (starting (upper (client_profile settings)) Paging) now → now.upper.profile.client.failed ≡ false → IsKnown list now
  known list now runs well = run_known [] list (starting (upper C) Paging) now refl runs well (record { told = refl; placed = inr refl })

pub outcomes_add_up : OutcomesAddUp
outcomes_add_up settings occasions old new one runs happens well =
    adds_exactly settings one old new happens (run_told settings occasions (starting (upper (client_profile settings)) Paging) old runs refl)
    (well_before settings old.upper.profile.client.failed new.upper.profile.client.failed (one_lame settings one old new happens) well) well
