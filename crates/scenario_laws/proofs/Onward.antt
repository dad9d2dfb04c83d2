-- Host a is on its link while one is up, and at rest it does not end it.
use Rattle.std.proofs.Common.{◌≡◌, ℕ, Bool, true, false, cond, not, ◌&&◌, List, [], ◌∷◌, ◌++◌, Some, None, Result, Ok, Err, refl, sym, ap, subst, ◌∙◌, if◌then◌else◌}
use Rattle.std.specs.Prelude.{is_some, nat_lt}
use Rattle.std.specs.Option.{option_map}
use Rattle.radio_world.specs.bt_base.specs.declared.ports.PortFault.{PortFault}
use Rattle.radio_world.specs.bt_base.specs.declared.ports.PortFault.TheVariants as faults
use Rattle.radio_world.specs.bt_base.specs.declared.settings.Settings.{Settings}
use Rattle.radio_world.specs.push_terms.specs.declared.word.Side.TheVariants as sides
use Rattle.radio_world.specs.push_terms.specs.declared.word.Side.TheVariants.{A, B}
use Rattle.radio_world.specs.push_terms.specs.declared.word.Way.TheVariants.{Ab, Ba}
use Rattle.radio_world.specs.capture.specs.Entries.{Entry}
use Rattle.radio_world.specs.capture.specs.Links.{Link, link_up}
use Rattle.radio_world.specs.capture.specs.Pdus.{pdus}
use Rattle.radio_world.specs.radio_model.specs.declared.deed.Deed.{Deed}
use Rattle.radio_world.specs.radio_model.specs.declared.deed.Deed.TheVariants.{Nothing, Meets, Fires, FiresBoth, Breaks, Cancels}
use Rattle.host_laws.specs.channel_model.specs.Calls.{link_down}
use Rattle.host_laws.specs.channel_model.specs.Giving.{next_given}
use Rattle.host_laws.specs.channel_model.proofs.Lookups.{and_off}
use Rattle.host_laws.specs.push_model.specs.declared.course.Point.TheVariants.{Due, Asked}
use Rattle.host_laws.specs.push_model.specs.declared.course.Stage.{Stage}
use Rattle.host_laws.specs.push_model.specs.declared.course.Stage.TheVariants.{Rest, Link as Paged, SearchChannel, Search, SearchEnd, Features, ObjectChannel, Object, ObjectEnd, LinkEnd, Over}
use Rattle.host_laws.specs.push_model.specs.Client.{Client, is_idle, is_rest, begins, begun_by}
use Rattle.host_laws.specs.push_model.specs.Events.{is_linked, linked_at}
use Rattle.host_laws.specs.push_model.specs.Steps.{Step, Wait, MakeLink, AskFeatures, OpenChannel, SendSdu, CloseChannel, BreakLink, Ended, NoMemory, steps}
use Rattle.host_laws.specs.turn_laws.proofs.Advancing.{Both, advances}
use Rattle.host_laws.specs.turn_laws.proofs.Finishing.{nothing_more}
use Rattle.host_laws.specs.turn_laws.proofs.Running.{first_both}
use Rattle.host_laws.specs.turn_laws.proofs.Standing.{Sound, Chain, idle_linked}
use Rattle.host_laws.specs.world_model.specs.Machines.{LinkEvent, Up, Down, News, Linked, Heard, TimerFired, Cancelled, Opening, Upper}
use Rattle.host_laws.specs.world_model.specs.Talks.{Talk}
use Rattle.host_laws.specs.world_model.specs.PerLink.{Linkage, linkage, captured}
use Rattle.host_laws.specs.world_model.specs.Carriages.{End, Carriage, Motion, Saying, Departure, Arrival, Telling, DoesMotion, IsIdle, linked_by, Doing, Moved, Deeds, Misses, Rises, Falls, Opens, Closes, ActsOn, finds, told, owing, IsDone, Carries, first_carriage}
use Rattle.host_laws.specs.world_model.specs.Worlds.{all_entries}
use Rattle.host_laws.specs.host_model.specs.Circumstances.{Circumstance}
use Rattle.host_laws.specs.host_model.specs.Hosts.{Host, most_steps, hears_news as host_hears, ready, hear, tells_events, with_channels, next}
use Rattle.host_laws.specs.host_model.specs.Clients as clients
use Rattle.host_laws.specs.host_model.specs.Clients.{Bid, NoBid, Paging, is_paging, is_at_end, ClientProfile, client_profile, after_call, calls, ended}
use Rattle.host_laws.specs.host_model.specs.Machines.{client_host}
use Rattle.host_laws.specs.host_model.specs.Shelves.{size_for, name_for}
use Rattle.host_laws.specs.host_model.proofs.Keeping.{drives_on, hears_on, goes_next}
use Rattle.host_laws.specs.Leaving.{is_off}
use Rattle.host_laws.specs.Onward.{Befits, IsOfPush}
use Rattle.host_laws.proofs.OnwardSteps.{StepSo, steps_so, IsSo, ended_stays, keeps_so, learns_so}
use Rattle.scenario_laws.specs.Captures.{client_of, server_of}
use Rattle.scenario_laws.specs.Onward.{PushesGoOnward}
use Rattle.scenario_laws.proofs.Acting.{Anyhow, Acted}
use Rattle.scenario_laws.proofs.Both.{idle_acted, both_acted}
use Rattle.scenario_laws.proofs.Carrying.{carried}
use Rattle.scenario_laws.proofs.Freeing.{runs_hold_back_nothing}
use Rattle.scenario_laws.proofs.Fronts.{fits}
use Rattle.scenario_laws.proofs.UnlinkedClients.{clients_keep}

-- ---- its stage

-- where a link is asked for, its push waits for it
paged_at : (stage : Stage) (bid : Bid) → Befits stage bid → is_paging bid ≡ true → stage ≡ Paged Asked
paged_at (Paged Asked) bid so on = refl
paged_at Rest bid so on = let never : false ≡ true = sym so ∙ on in cc
paged_at (Paged Due) bid so on = let never : false ≡ true = sym so ∙ on in cc
paged_at (SearchChannel point) bid so on = let never : false ≡ true = sym so ∙ on in cc
paged_at Search bid so on = let never : false ≡ true = sym so ∙ on in cc
paged_at (SearchEnd point) bid so on = let never : false ≡ true = sym so ∙ on in cc
paged_at (Features point) bid so on = let never : false ≡ true = sym so ∙ on in cc
paged_at (ObjectChannel point) bid so on = let never : false ≡ true = sym so ∙ on in cc
paged_at Object bid so on = let never : false ≡ true = sym so ∙ on in cc
paged_at (ObjectEnd point) bid so on = let never : false ≡ true = sym so ∙ on in cc
paged_at (LinkEnd point) bid so on = let never : false ≡ true = sym so ∙ on in cc
paged_at Over bid so on = let never : false ≡ true = sym so ∙ on in cc

-- without a link it asks for nothing that does not suit it
unlinked_suits : (stage : Stage) → is_linked stage ≡ false → Befits stage NoBid
unlinked_suits Rest off = refl
unlinked_suits (Paged Due) off = refl
unlinked_suits (Paged Asked) off = tt
unlinked_suits Over off = refl
unlinked_suits (SearchChannel point) off = cc
unlinked_suits Search off = cc
unlinked_suits (SearchEnd point) off = cc
unlinked_suits (Features point) off = cc
unlinked_suits (ObjectChannel point) off = cc
unlinked_suits Object off = cc
unlinked_suits (ObjectEnd point) off = cc
unlinked_suits (LinkEnd point) off = cc

both_of : (a b : Bool) → (a && b) ≡ true → a ≡ true
both_of true b is = refl
both_of false b is = cc

pub rests_at : (stage : Stage) → is_rest stage ≡ true → stage ≡ Rest
rests_at Rest is = refl
rests_at (Paged point) is = cc
rests_at (SearchChannel point) is = cc
rests_at Search is = cc
rests_at (SearchEnd point) is = cc
rests_at (Features point) is = cc
rests_at (ObjectChannel point) is = cc
rests_at Object is = cc
rests_at (ObjectEnd point) is = cc
rests_at (LinkEnd point) is = cc
rests_at Over is = cc

-- ---- its link comes up or goes down, and a push begins

comes_so : (c : Client) → c.stage ≡ Paged Asked → (let d = linked_at c.stage c in Befits d.stage NoBid × (is_linked d.stage ≡ true))
comes_so c at = subst (λ (stage : Stage). let d = linked_at stage c in Befits d.stage NoBid × (is_linked d.stage ≡ true)) (sym at) (by (is_some c.cause))
  where
    by : (b : Bool) → (let d : Client = cond b (record c { stage = LinkEnd Due }) (record c { stage = SearchChannel Due }) in Befits d.stage NoBid × (is_linked d.stage ≡ true))
    by true = (refl, refl)
    by false = (refl, refl)

up_so : (gifts : List Circumstance) (p : ClientProfile) → p.client.stage ≡ Paged Asked → IsSo true (clients.told gifts (Linked Up) p)
up_so gifts p at = let both = comes_so p.client at in record { suits = both.0; linked = λ on. both.1 }

down_so : (settings : Settings) (gifts : List Circumstance) (reason : ℕ) (p : ClientProfile) → IsSo false (clients.told gifts (Linked (Down reason)) p)
down_so settings gifts reason p = record { suits = unlinked_suits _ ((clients_keep settings).down gifts reason p).free; linked = λ on. cc }

call_so : (step : Step) (p : ClientProfile) (d : Client) → StepSo p.client d step → IsSo false p → IsSo false (after_call step d p)
call_so MakeLink p d to so = record { suits = subst (λ (stage : Stage). Befits stage Paging) (sym to) tt; linked = λ on. cc }
call_so Wait p d to so = so
call_so AskFeatures p d to so = so
call_so (OpenChannel psm) p d to so = so
call_so (SendSdu psm payload) p d to so = so
call_so (CloseChannel psm) p d to so = so
call_so BreakLink p d to so = so
call_so (Ended outcome) p d to so = so
call_so NoMemory p d to so = so

calls_so : (p : ClientProfile) → IsSo false p → IsSo false (calls p)
calls_so p so = let one = steps p.client [] in call_so one.step p one.client (steps_so p.client []) so

begins_suits : (size : Result ℕ PortFault) (name : List ℕ) (c : Client) → c.stage ≡ Rest → Befits (begins size name c).stage NoBid
begins_suits size name c at = by c.failed
  where
    still : Befits c.stage NoBid
    still = subst (λ (stage : Stage). Befits stage NoBid) (sym at) refl

    begun : (s : Result ℕ PortFault) → Befits (begun_by s name c).stage NoBid
    begun (Ok n) = refl
    begun (Err faults.Failed) = refl
    begun (Err faults.NoMemory) = still

    by : (b : Bool) → Befits (cond b c (begun_by size name c)).stage NoBid
    by true = still
    by false = begun size

opens_so : (gifts : List Circumstance) (name : List ℕ) (p : ClientProfile) → p.client.stage ≡ Rest → IsSo false (clients.told gifts (Opening name) p)
opens_so gifts name p at =
    let c = begins (size_for gifts name) (name_for name) p.client in
    calls_so (record p { client = ended c; submitted = None; bid = NoBid }) (record { suits = (ended_stays c).suits NoBid (begins_suits (size_for gifts name) (name_for name) p.client at); linked = λ on. cc })

-- ---- one host

-- no link comes up
abbrev pub NoneUp : List LinkEvent → Type 0
NoneUp [] = Unit {0}
NoneUp (Up ∷ more) = ⊥
NoneUp (Down reason ∷ more) = NoneUp more

-- a link that it is to be told of came up for its push, which waits for it
abbrev pub Awaited : List LinkEvent → Stage → Type 0
Awaited [] stage = Unit {0}
Awaited (Up ∷ more) stage = (stage ≡ Paged Asked) × NoneUp more
Awaited (Down reason ∷ more) stage = NoneUp more

none_awaited : (owed : List LinkEvent) (stage : Stage) → NoneUp owed → Awaited owed stage
none_awaited [] stage none = tt
none_awaited (Up ∷ more) stage none = absurd none
none_awaited (Down reason ∷ more) stage none = none

none_more : (owed : List LinkEvent) (reason : ℕ) → NoneUp owed → NoneUp (owed ++ Down reason ∷ [])
none_more [] reason none = tt
none_more (Up ∷ more) reason none = absurd none
none_more (Down other ∷ more) reason none = none_more more reason none

awaits_more : (owed : List LinkEvent) (reason : ℕ) (stage : Stage) → Awaited owed stage → Awaited (owed ++ Down reason ∷ []) stage
awaits_more [] reason stage so = tt
awaits_more (Up ∷ more) reason stage so = (so.0, none_more more reason so.1)
awaits_more (Down other ∷ more) reason stage so = none_more more reason so

-- on its link it is to be told of none
awaits_on : (owed : List LinkEvent) (linked link : Bool) (one two : Stage) → Chain owed linked link → linked ≡ true → Awaited owed one → Awaited owed two
awaits_on [] linked link one two chain on so = tt
awaits_on (Up ∷ more) linked link one two chain on so = let never : false ≡ true = sym chain.0 ∙ on in cc
awaits_on (Down reason ∷ more) linked link one two chain on so = so

pub record IsOnto (e : End (Host ClientProfile)) : Type 0 where
  pub so : IsSo e.linked e.upper.profile
  pub owed : Awaited e.owed e.upper.profile.client.stage

module _ (settings : Settings) where
  abbrev U : Upper (Host ClientProfile) Circumstance
  U = client_host settings

  hears_so : (up : Bool) (gifts : List Circumstance) (news : News) (host : Host ClientProfile) → IsOfPush news → IsSo up host.profile → IsSo up (hear (client_profile settings) gifts news host).profile
  hears_so up gifts news host of so = hears_on (client_profile settings) (IsSo up) (keeps_so settings up) gifts news host (λ circumstances p. learns_so up circumstances news p of) so

  turns_so : (event : LinkEvent) (more : List LinkEvent) (gifts : List Circumstance) (host : Host ClientProfile) → Awaited (event ∷ more) host.profile.client.stage
      → (let now = hear (client_profile settings) gifts (Linked event) host in IsSo (linked_by event) now.profile × Awaited more now.profile.client.stage)
  turns_so Up more gifts host (at, none) = (
    drives_on (client_profile settings) (IsSo true) (keeps_so settings true) most_steps (host_hears (client_profile settings) gifts (Linked Up) (ready (client_profile settings) gifts host))
        (up_so gifts (ready (client_profile settings) gifts host).profile at),
    none_awaited more _ none,
  )
  turns_so (Down reason) more gifts host none = (
    drives_on (client_profile settings) (IsSo false) (keeps_so settings false) most_steps (host_hears (client_profile settings) gifts (Linked (Down reason)) (ready (client_profile settings) gifts host))
        (down_so settings gifts reason (tells_events (client_profile settings) (with_channels (link_down host.channels) (ready (client_profile settings) gifts host))).profile),
    none_awaited more _ none,
  )

  motion_onto : (link : Bool) (motion : Motion) (e e' : End (Host ClientProfile)) → DoesMotion U motion e e' → Sound U link e → IsOnto e → IsOnto e'
  motion_onto link (Saying pdu) e e' does sound onto =
      rw does.is (record {
        so = goes_next (client_profile settings) (IsSo e.linked) (keeps_so settings e.linked) e.upper pdu does.after does.next onto.so;
        owed = awaits_on e.owed e.linked link e.upper.profile.client.stage does.after.profile.client.stage sound.chain does.on onto.owed;
      })
  motion_onto link (Departure pdu) e e' does sound onto = rw does.is (record { so = onto.so; owed = onto.owed })
  motion_onto link (Arrival pdu) e e' does sound onto =
      rw does.is (record {
        so = hears_so e.linked does.answers (Heard pdu) e.upper tt onto.so;
        owed = awaits_on e.owed e.linked link e.upper.profile.client.stage _ sound.chain (on_link e.linked refl) onto.owed;
      })
    where
      on_link : (linked : Bool) → e.linked ≡ linked → linked ≡ true
      on_link true is = refl
      on_link false is = let never : pdu ∷ [] ≡ [] = sym does.first ∙ sound.off_coming is in cc
  motion_onto link (Telling event) e e' does sound onto =
      let now = turns_so event does.more does.answers e.upper (subst (λ (owed : List LinkEvent). Awaited owed e.upper.profile.client.stage) does.first onto.owed) in
      rw does.is (record { so = now.0; owed = now.1 })

  word_onto : (gifts : List Circumstance) (news : News) (e : End (Host ClientProfile)) → IsOfPush news → IsIdle U e → IsOnto e → IsOnto (told U gifts news e)
  word_onto gifts news e of idle onto = record {
    so = hears_so e.linked gifts news e.upper of onto.so;
    owed = subst (λ (owed : List LinkEvent). Awaited owed (hear (client_profile settings) gifts news e.upper).profile.client.stage) (sym idle.none_owed) tt;
  }

  fired_onto : (gifts : List Circumstance) (armed : Bool) (e : End (Host ClientProfile)) → IsIdle U e → IsOnto e → IsOnto (if armed then told U gifts TimerFired e else e)
  fired_onto gifts true e idle onto = word_onto gifts TimerFired e tt idle onto
  fired_onto gifts false e idle onto = onto

  parts_onto : (reason : ℕ) (e : End (Host ClientProfile)) → IsOnto e → IsOnto (owing (Down reason) e)
  parts_onto reason e onto = record { so = onto.so; owed = awaits_more e.owed reason e.upper.profile.client.stage onto.owed }

  comes_onto : (e : End (Host ClientProfile)) → IsIdle U e → U.wants_link e.upper ≡ true → IsOnto e → IsOnto (owing Up e)
  comes_onto e idle wants onto = record {
    so = onto.so;
    owed = subst (λ (owed : List LinkEvent). Awaited (owed ++ Up ∷ []) e.upper.profile.client.stage) (sym idle.none_owed)
        (paged_at e.upper.profile.client.stage e.upper.profile.bid onto.so.suits (both_of (is_paging e.upper.profile.bid) (not (is_idle e.upper.profile.client)) wants), tt);
  }

  opens_onto : (gifts : List Circumstance) (name : List ℕ) (e : End (Host ClientProfile)) → e.linked ≡ false → IsIdle U e → U.is_idle e.upper ≡ true → IsOnto e → IsOnto (told U gifts (Opening name) e)
  opens_onto gifts name e off idle rests onto = record {
    so = subst (λ (up : Bool). IsSo up (hear (client_profile settings) gifts (Opening name) e.upper).profile) (sym off)
        (drives_on (client_profile settings) (IsSo false) (keeps_so settings false) most_steps (host_hears (client_profile settings) gifts (Opening name) (ready (client_profile settings) gifts e.upper))
        (opens_so gifts name (ready (client_profile settings) gifts e.upper).profile (rests_at e.upper.profile.client.stage rests)));
    owed = subst (λ (owed : List LinkEvent). Awaited owed (hear (client_profile settings) gifts (Opening name) e.upper).profile.client.stage) (sym idle.none_owed) tt;
  }

  -- ---- both

  module _ {T H : Type 0} (V : Upper T H) where
    deed_onto : (deed : Deed) (old new : Carriage (Host ClientProfile) T) → IsIdle U old.a → ActsOn U V deed old new → IsOnto old.a → IsOnto new.a
    deed_onto Nothing old new idle acts onto = absurd acts
    deed_onto (Meets Ab fate) old new idle (e, f, meets, same) onto = rw same (rw meets.one_is (record { so = onto.so; owed = onto.owed }))
    deed_onto (Meets Ba fate) old new idle (e, f, meets, same) onto = rw same (rw meets.other_is (record { so = onto.so; owed = onto.owed }))
    deed_onto (Fires A) old new idle (armed, g, same) onto = rw same (word_onto g TimerFired old.a tt idle onto)
    deed_onto (Fires B) old new idle (armed, h, same) onto = rw same onto
    deed_onto FiresBoth old new idle (armed, g, h, same) onto = rw same (fired_onto g (U.armed old.a.upper) old.a idle onto)
    deed_onto Breaks old new idle same onto = rw same (parts_onto 0x08 old.a onto)
    deed_onto Cancels old new idle (may, g, same) onto = rw same (word_onto g Cancelled old.a tt idle onto)

    pub done_onto : (doing : Doing) (old new : Carriage (Host ClientProfile) T) → IsDone U V doing old new → Both U V old → IsOnto old.a → IsOnto new.a
    done_onto (Moved A motion) old new (e, does, same) sound onto = rw same (motion_onto old.link motion old.a e does sound.a onto)
    done_onto (Moved B motion) old new (f, does, same) sound onto = rw same onto
    done_onto (Deeds word) old new (rest, acts) sound onto = deed_onto (finds word old) old new rest.idle_a acts onto
    done_onto (Misses word) old new (rest, nothing, same) sound onto = rw same onto
    done_onto Rises old new (down, idle, going, wants, same) sound onto = rw same (comes_onto old.a idle wants onto)
    done_onto (Falls A) old new (up, idle, leaves, same) sound onto = rw same (parts_onto 0x16 old.a onto)
    done_onto (Falls B) old new (up, idle, leaves, same) sound onto = rw same (parts_onto 0x13 old.a onto)
    done_onto (Opens name) old new (down, idle, rests, next, g, same) sound onto = rw same (opens_onto g name old.a (idle_linked U old.link old.a idle sound.a ∙ down) idle rests onto)
    done_onto (Closes outcome) old new (down, idle_a, idle_b, going, rests, is, same) sound onto = rw same (record { so = onto.so; owed = onto.owed })

    carries_onto : (doings : List Doing) (old new : Carriage (Host ClientProfile) T) → Carries U V doings old new → Both U V old → IsOnto old.a → IsOnto new.a
    carries_onto [] old new same sound onto = rw same onto
    carries_onto (doing ∷ doings) old new (mid, does, runs) sound onto =
        carries_onto doings mid new runs (advances U V doing old nothing_more nothing_more mid does sound).both (done_onto doing old mid does sound onto)

    all_onto : (size : ℕ) (names : List (List ℕ)) (doings : List Doing) (c : Carriage (Host ClientProfile) T) → Carries U V doings (first_carriage U V size names) c → IsOnto c.a
    all_onto size names doings c runs = carries_onto doings (first_carriage U V size names) c runs (first_both U V size names) (record { so = record { suits = refl; linked = λ on. cc }; owed = tt })

-- ---- at rest

-- it does not end its link
stays_on : (settings : Settings) (now : Host ClientProfile) → next_given now.channels ≡ None → (client_host settings).leaves_link now ≡ false → is_at_end now.profile.client.stage ≡ false
stays_on settings now none stays = sym (ap (λ b. not b && is_at_end now.profile.client.stage) (ap (λ g. nat_lt 0 now.may_say && is_some g) none ∙ and_off (nat_lt 0 now.may_say))) ∙ stays

goes_on : (stage : Stage) → is_linked stage ≡ true → is_at_end stage ≡ false → is_off stage ≡ false
goes_on Rest linked stays = cc
goes_on (Paged point) linked stays = cc
goes_on (SearchChannel point) linked stays = refl
goes_on Search linked stays = refl
goes_on (SearchEnd point) linked stays = refl
goes_on (Features point) linked stays = refl
goes_on (ObjectChannel point) linked stays = refl
goes_on Object linked stays = refl
goes_on (ObjectEnd point) linked stays = refl
goes_on (LinkEnd point) linked stays = cc
goes_on Over linked stays = cc

-- it knows of the link that is up
told_of : {S G : Type 0} (V : Upper S G) (past : List Entry) (linked : Bool) (now : S) (talk : List Talk) → Acted V linked now [] talk → linkage talk ≡ captured sides.A past → (link : Link) → link_up sides.A past ≡ Some link → linked ≡ true
told_of V past true now talk acted known link is = refl
told_of V past false now talk acted known link is =
    let none : option_map pdus (link_up sides.A past) ≡ None = ap (λ (l : Linkage). l.up) (sym known) ∙ (acted.parted.down refl).1 in
    let never : Some (pdus link) ≡ None = ap (option_map pdus) (sym is) ∙ none in
    cc

pub pushes_go_onward : PushesGoOnward
pushes_go_onward scenario content happenings front world link is there rest up =
    let U = client_of scenario in
    let V = server_of scenario content in
    let now = world.a.upper in
    let all = carried U V scenario.acl_length scenario.acl_count scenario.names front world (fits scenario content) there in
    let both = both_acted U V Anyhow Anyhow scenario.acl_length scenario.names all.doings _ all.so in
    let idle = all.rests rest in
    let linked = told_of U (all_entries front) world.radio.a.up now all.talk_a (idle_acted U Anyhow _ idle.idle_a both.0.a) all.links_a link up in
    let onto = all_onto scenario.settings V scenario.acl_length scenario.names all.doings _ all.carries in
    let none = (runs_hold_back_nothing scenario content front world there).a ((idle.idle_a.said_all linked).none_next) in
    let stays = stays_on scenario.settings now none (idle.calm.no_fall_a (sym (idle_linked U _ _ idle.idle_a both.1.a) ∙ linked)) in
    goes_on now.profile.client.stage (onto.so.linked linked) stays
