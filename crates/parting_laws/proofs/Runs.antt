-- No push of a run of few adverse words ends as closed by its peer.
use Rattle.std.proofs.Common.{◌≡◌, ◌<◌, ◌≤◌, ℕ, List, [], ◌∷◌, ◌++◌, map, Bool, true, false, ◌&&◌, eqb, Option, Some, None, unwrap_or, refl, sym, ap, subst, ◌∙◌, arith, append-nil, if◌then◌else◌}
use Rattle.std.specs.Prelude.{get_or, is_none}
use Rattle.std.specs.List.{AllByRecursion}
use Rattle.cause_laws.specs.bt_base.specs.Objects.{Contents}
use Rattle.cause_laws.specs.push_script.specs.declared.scenario.Scenario.{Scenario}
use Rattle.cause_laws.specs.push_terms.specs.declared.outcome.Outcome.{Outcome}
use Rattle.cause_laws.specs.push_terms.specs.declared.outcome.Outcome.TheVariants.{PeerClosed, Cancelled as PushCancelled, ScriptEnded}
use Rattle.cause_laws.specs.push_terms.specs.declared.word.Side.TheVariants.{A, B}
use Rattle.cause_laws.specs.push_terms.specs.declared.word.Word.{Word}
use Rattle.cause_laws.specs.capture.specs.Entries.{Entry, Ended}
use Rattle.cause_laws.specs.acl_fragments.specs.Pieces.{Piece}
use Rattle.cause_laws.specs.channel_model.specs.declared.event.ChannelEvent.{ChannelEvent}
use Rattle.cause_laws.specs.channel_model.specs.declared.event.ChannelEvent.TheVariants as channels
use Rattle.cause_laws.specs.channel_model.specs.declared.event.CloseReason.{CloseReason}
use Rattle.cause_laws.specs.channel_model.specs.declared.event.CloseReason.TheVariants as reasons
use Rattle.cause_laws.specs.push_model.specs.Client.{may_cancel}
use Rattle.cause_laws.specs.push_model.specs.Events.{is_linked}
use Rattle.cause_laws.specs.push_model.specs.declared.course.Stage.{Stage}
use Rattle.cause_laws.specs.push_model.specs.declared.course.Stage.TheVariants.{Rest, Link, SearchChannel, Search, SearchEnd, Features, ObjectChannel, Object, ObjectEnd, LinkEnd, Over}
use Rattle.cause_laws.specs.radio_model.specs.declared.deed.Deed.{Deed}
use Rattle.cause_laws.specs.radio_model.specs.declared.deed.Deed.TheVariants.{Nothing, Meets, Fires, FiresBoth, Breaks, Cancels}
use Rattle.cause_laws.specs.push_terms.specs.declared.word.Way.TheVariants.{Ab, Ba}
use Rattle.cause_laws.specs.radio_model.specs.Controllers.{Answer, Returned, Stated, Called, LinkMade, LinkGone, GivenBack, Controller}
use Rattle.cause_laws.specs.radio_model.specs.Radio.{found}
use Rattle.cause_laws.specs.radio_world.specs.Standing.{last_entries}
use Rattle.cause_laws.specs.world_model.specs.Carriages.{Carriage, Doing, Carries, first_carriage}
use Rattle.cause_laws.specs.world_model.specs.Machines.{Up, Down, Linked, Heard, TimerFired, Cancelled, Opening, Upper}
use Rattle.cause_laws.specs.world_model.specs.Stations.{Station, Effort, Taking, Putting, Asking, Leaving, Commanding, MakesEffort, is_handle, longest_pdu, gives, holds, hears_each, hears_piece, hears_answer, upper_told, event_in, told}
use Rattle.cause_laws.specs.world_model.specs.Worlds.{Happening, Tries, Departure, GivingBack, Piecemeal, Answering, Turns, Misses, Opens, Closes, entries_of, all_entries, words_in, all_words, fired, Acts, Does}
use Rattle.cause_laws.specs.turn_laws.proofs.Advancing.{Both, advances}
use Rattle.cause_laws.specs.turn_laws.proofs.Coming.{handed_piece}
use Rattle.cause_laws.specs.turn_laws.proofs.Finishing.{nothing_more}
use Rattle.cause_laws.specs.turn_laws.proofs.Keeping.{Kept}
use Rattle.cause_laws.specs.turn_laws.proofs.Running.{first_both}
use Rattle.cause_laws.specs.turn_laws.proofs.Stationing.{linked_handle}
use Rattle.cause_laws.specs.air_laws.proofs.Following.{Keeps as KeepsRun, reached_first, along}
use Rattle.cause_laws.specs.host_model.specs.Circumstances.{Circumstance}
use Rattle.cause_laws.specs.host_model.specs.Clients.{ClientProfile, client_profile, fitted}
use Rattle.cause_laws.specs.host_model.specs.Hosts.{Host, hear}
use Rattle.cause_laws.specs.host_model.specs.Profiles.{Profile}
use Rattle.cause_laws.specs.host_model.specs.Servers.{ServerProfile, server_profile}
use Rattle.cause_laws.specs.host_laws.specs.Lives.{Span}
use Rattle.cause_laws.specs.host_laws.proofs.OnwardSteps.{IsSo}
use Rattle.cause_laws.specs.scenario_laws.specs.Captures.{client_of, server_of, BothHosts, beginning, Happened, Ran}
use Rattle.cause_laws.specs.scenario_laws.proofs.Carrying.{carried}
use Rattle.cause_laws.specs.scenario_laws.proofs.Fronts.{fits}
use Rattle.cause_laws.specs.scenario_laws.proofs.Onward.{IsOnto, done_onto}
use Rattle.limit_laws.specs.pair_laws.specs.channel_laws.specs.Runs.{Run, run_of}
use Rattle.limit_laws.specs.pair_laws.specs.Costs.{adverse_in, PairsCost, DisturbancesCostWords}
use Rattle.limit_laws.specs.pair_laws.specs.OnLinks.{LivedOver}
use Rattle.limit_laws.specs.pair_laws.specs.Within.{BothSendWithin}
use Rattle.limit_laws.specs.pair_laws.proofs.Taking.{clients_within, servers_within}
use Rattle.limit_laws.specs.pair_laws.proofs.Windows.{both_ask}
use Rattle.cause_laws.specs.bt_base.specs.declared.settings.Settings.{Settings}
use Rattle.cause_laws.specs.push_model.specs.Steps.{steps}
use Rattle.cause_laws.specs.host_model.specs.Shelves.{unused}
use Rattle.cause_laws.specs.host_laws.specs.Searching.{AsksAsItSteps}
use Rattle.cause_laws.specs.host_laws.proofs.Asking.{clients-call}
use Rattle.cause_laws.specs.host_laws.proofs.Keeping.{servers_lend}
use Rattle.cause_laws.specs.host_laws.proofs.Stepping.{asked_is}
use Rattle.limit_laws.specs.GoesOn.{FewWordsTellMildly}
use Rattle.limit_laws.specs.told_laws.specs.Told.{EndsMildly, IsMild, ToldMildly}
use Rattle.cause_laws.proofs.Clients.{is_shelf, Within, Came}
use Rattle.cause_laws.proofs.Driving.{is_timed, is_gone, next_shelf, up_shelf, timer_timed, down_gone, cancel_came, opens_shelf}
use Rattle.cause_laws.proofs.Links.{none_told}
use Rattle.cause_laws.proofs.Profiles.{lame_hear}
use Rattle.cause_laws.proofs.Runs.{effort_lame}
use Rattle.parting_laws.specs.Parting.{is_closed_by_peer, PeersCloseNone, FewWordsPartNone}
use Rattle.parting_laws.proofs.Tidings.{TidingSo, feeds_so, all_tidings_so}
use Rattle.parting_laws.proofs.Server.{LosesNoEnd, lost_so, stays_on}
use Rattle.parting_laws.proofs.Client.{IsUnclosed, lost_unclosed, is_over, IsParted, parts_by_link}
use Rattle.parting_laws.proofs.Radio.{IsNotByPeer, Calm, does_calm}

-- ---- events

reason_unclosed : (These : ℕ → Type 0) (own : ℕ) (reason : CloseReason) → EndsMildly These own reason → reason ≡ reasons.PeerClosed → ⊥
reason_unclosed These own reasons.PeerClosed mild is = mild
reason_unclosed These own (reasons.Refused result) mild is = cc
reason_unclosed These own reasons.NoAgreement mild is = cc
reason_unclosed These own reasons.RetryLimit mild is = cc
reason_unclosed These own (reasons.Ertm reason) mild is = cc
reason_unclosed These own reasons.LinkDown mild is = cc
reason_unclosed These own reasons.OwnClosed mild is = cc

event_unclosed : (These : ℕ → Type 0) (event : ChannelEvent) → IsMild These event → IsUnclosed event
event_unclosed These (channels.Opened own psm) mild = tt
event_unclosed These (channels.Closed own psm reason) mild = reason_unclosed These own reason mild
event_unclosed These (channels.Features given) mild = tt
event_unclosed These channels.FeaturesLost mild = tt
event_unclosed These (channels.DisconnectLost own) mild = tt

all_unclosed : (These : ℕ → Type 0) (list rest : List ChannelEvent) → AllByRecursion (IsMild These) (list ++ rest) → AllByRecursion IsUnclosed list
all_unclosed These [] rest all = tt
all_unclosed These (event ∷ list) rest all = (event_unclosed These event all.0, all_unclosed These list rest all.1)

all_ahead : (list rest : List ChannelEvent) → AllByRecursion LosesNoEnd (list ++ rest) → AllByRecursion LosesNoEnd list
all_ahead [] rest all = tt
all_ahead (event ∷ list) rest all = (all.0, all_ahead list rest all.1)

-- ---- words

adverse_joined : (one other : List Word) → adverse_in one ≤ adverse_in (one ++ other)
adverse_joined [] other = omega arith
adverse_joined (word ∷ one) other = let rest = adverse_joined one other in omega (arith, rest)

-- ---- stages

never_both : {X : Type 0} (stage : Stage) → is_linked stage ≡ true → is_over stage ≡ true → X
never_both Rest linked over = cc
never_both Over linked over = cc
never_both (Link point) linked over = cc
never_both (SearchChannel point) linked over = cc
never_both Search linked over = cc
never_both (SearchEnd point) linked over = cc
never_both (Features point) linked over = cc
never_both (ObjectChannel point) linked over = cc
never_both Object linked over = cc
never_both (ObjectEnd point) linked over = cc
never_both (LinkEnd point) linked over = cc

-- ---- outcomes that are others

abbrev IsNotPeer : Option Outcome → Type 0
IsNotPeer cause = cause ≡ Some PeerClosed → ⊥

stays_other : (q : Outcome → Bool) (old new : Option Outcome) → q PeerClosed ≡ false → Came q old new → IsNotPeer old → IsNotPeer new
stays_other q None new none within other peer = let now : q PeerClosed ≡ true = subst (Within q) peer within in let never : true ≡ false = sym now ∙ none in cc
stays_other q (Some outcome) new none came other peer = other (sym came ∙ peer)

within_other : (q : Outcome → Bool) (new : Option Outcome) → q PeerClosed ≡ false → Within q new → IsNotPeer new
within_other q new none within peer = let now : q PeerClosed ≡ true = subst (Within q) peer within in let never : true ≡ false = sym now ∙ none in cc

both_off : (one other : Bool) → other ≡ false → (one && other) ≡ false
both_off true other is = is
both_off false other is = refl

not_lame : (old new : Bool) → (old ≡ true → new ≡ true) → new ≡ false → old ≡ false
not_lame true new goes well = let never : true ≡ false = sym (goes refl) ∙ well in cc
not_lame false new goes well = refl

-- ---- what both hosts ask of their channels

pub both_step : (settings : Settings) → AsksAsItSteps settings (both_ask.clients settings)
both_step settings v pushing = let one = steps pushing.client (fitted pushing) in clients-call settings v pushing ∙ asked_is one.step v (record pushing { client = one.client; parts = unused one.left pushing.parts })

pub within_both : BothSendWithin both_ask
within_both = record { clients = clients_within; servers = servers_within }

-- ---- a moment of a run

module _ (costs : DisturbancesCostWords) (tell : FewWordsTellMildly) (scenario : Scenario) (content : Option Contents) where
  abbrev U : Upper (Host ClientProfile) Circumstance
  U = client_of scenario

  abbrev V : Upper (Host ServerProfile) Circumstance
  V = server_of scenario content

  abbrev P : Profile ClientProfile
  P = client_profile scenario.settings

  abbrev Q : Profile ServerProfile
  Q = server_profile scenario.settings content

  abbrev cause_in : BothHosts → Option Outcome
  cause_in w = w.a.upper.profile.client.cause

  module _ (happenings : List Happening) (world : BothHosts) (happened : Happened scenario content happenings world) (few : adverse_in (all_words happenings) < scenario.settings.tries) where
    abbrev ran : Ran scenario content (all_entries happenings)
    ran = record { happenings = happenings; world = world; happened = happened; ends = []; last = tt; capture_is = sym (append-nil (all_entries happenings)) }

    pairs : PairsCost both_ask scenario content (all_entries happenings) ran
    pairs = costs both_ask scenario content (all_entries happenings) ran

    mildly : (number : ℕ) → ToldMildly P.policy Q.policy (pairs.turns.pairs.pairs number).turns
    mildly number = tell both_ask scenario content (all_entries happenings) ran pairs within_both (both_step scenario.settings) (servers_lend scenario.settings content) few number

    abbrev a : LivedOver P (both_ask.clients scenario.settings) A (all_entries happenings) world.a.upper
    a = pairs.turns.pairs.a

    abbrev b : LivedOver Q (both_ask.servers scenario.settings content) B (all_entries happenings) world.b.upper
    b = pairs.turns.pairs.b

    -- its client has that outcome only where no link is there
    parted : IsParted world.a.upper.profile.client
    parted =
        let lives = a.fed.so.lives in
        let each : (k : ℕ) → AllByRecursion IsUnclosed (run_of P.policy (get_or (map (λ (span : Span). span.list) lives.spans ++ lives.now ∷ []) k [])).told
        = λ k. subst (λ (r : Run). AllByRecursion IsUnclosed r.told) (pairs.turns.pairs.pairs k).near_is (all_unclosed _ _ _ (mildly k).near_told) in
        let tidings = all_tidings_so IsUnclosed lost_unclosed P.policy lives.spans lives.now lives.spans_told each in
        let feeds = feeds_so IsUnclosed lost_unclosed lives.feeds (subst (AllByRecursion (TidingSo IsUnclosed lost_unclosed)) (sym lives.tidings_are) tidings) in
        subst (λ (p : ClientProfile). IsParted p.client) (sym lives.profile_is) (parts_by_link scenario.settings lives.feeds P.first feeds (λ peer. cc))

    -- and host b stays on its link
    stays : V.leaves_link world.b.upper ≡ false
    stays =
        let lives = b.fed.so.lives in
        let each : (k : ℕ) → AllByRecursion LosesNoEnd (run_of Q.policy (get_or (map (λ (span : Span). span.list) lives.spans ++ lives.now ∷ []) k [])).told
        = λ k. subst (λ (r : Run). AllByRecursion LosesNoEnd r.told) (pairs.turns.pairs.pairs k).far_is (all_ahead _ _ (mildly k).far_told) in
        let tidings = all_tidings_so LosesNoEnd lost_so Q.policy lives.spans lives.now lives.spans_told each in
        let feeds = feeds_so LosesNoEnd lost_so lives.feeds (subst (AllByRecursion (TidingSo LosesNoEnd lost_so)) (sym lives.tidings_are) tidings) in
        both_off _ world.b.upper.profile.breaks (subst (λ (q : ServerProfile). q.breaks ≡ false) (sym lives.profile_is) (stays_on scenario.settings content lives.feeds Q.first feeds refl))

  -- ---- host a is on its link while that is up

  carries_onto : (doings : List Doing) (old new : Carriage (Host ClientProfile) (Host ServerProfile)) → Carries U V doings old new → Both U V old → IsOnto old.a → IsOnto new.a
  carries_onto [] old new same sound onto = subst (λ (c : Carriage (Host ClientProfile) (Host ServerProfile)). IsOnto c.a) (sym same) onto
  carries_onto (doing ∷ doings) old new (mid, does, runs) sound onto =
      carries_onto doings mid new runs (advances U V doing old nothing_more nothing_more mid does sound).both (done_onto scenario.settings V doing old mid does sound onto)

  on_link : (happenings : List Happening) (w : BothHosts) → Happened scenario content happenings w → IsSo w.radio.a.up w.a.upper.profile
  on_link happenings w happened =
      let all = carried U V scenario.acl_length scenario.acl_count scenario.names happenings w (fits scenario content) happened in
      (carries_onto all.doings (first_carriage U V scenario.acl_length scenario.names) _ all.carries (first_both U V scenario.acl_length scenario.names) (record { so = record { suits = refl; linked = λ on. cc }; owed = tt })).so

  -- ---- one happening

  record Holds (past : List Entry) (w : BothHosts) : Type 0 where
    calm : Calm V w
    other : w.a.upper.profile.client.failed ≡ false → IsNotPeer (cause_in w)
    ends : w.a.upper.profile.client.failed ≡ false → PeersCloseNone past

  abbrev At : List Entry → List Word → BothHosts → Type 0
  At past words w = adverse_in words < scenario.settings.tries → Holds past w

  -- what its client may come to by itself, and by what it is told
  effort_other : (effort : Effort) (old new : Station (Host ClientProfile)) → old.upper.channels.events ≡ [] → MakesEffort U A effort old new → IsNotPeer old.upper.profile.client.cause → IsNotPeer new.upper.profile.client.cause
  effort_other Taking old new quiet makes other =
      subst (λ (s : Station (Host ClientProfile)). IsNotPeer s.upper.profile.client.cause) (sym makes.new_is)
      (stays_other is_shelf old.upper.profile.client.cause makes.after.profile.client.cause refl (next_shelf scenario.settings old.upper makes.pdu makes.after quiet makes.next) other)
  effort_other Putting old new quiet makes other = subst (λ (s : Station (Host ClientProfile)). IsNotPeer s.upper.profile.client.cause) (sym makes.new_is) other
  effort_other Asking old new quiet makes other = subst (λ (s : Station (Host ClientProfile)). IsNotPeer s.upper.profile.client.cause) (sym makes.new_is) other
  effort_other Leaving old new quiet makes other = subst (λ (s : Station (Host ClientProfile)). IsNotPeer s.upper.profile.client.cause) (sym makes.new_is) other
  effort_other Commanding old new quiet makes other = subst (λ (s : Station (Host ClientProfile)). IsNotPeer s.upper.profile.client.cause) (sym makes.new_is) other

  timer_other : (g : List Circumstance) (s : Station (Host ClientProfile)) → s.upper.channels.events ≡ [] → IsNotPeer s.upper.profile.client.cause → IsNotPeer (told U g TimerFired s).upper.profile.client.cause
  timer_other g s quiet other = stays_other is_timed s.upper.profile.client.cause _ refl (timer_timed scenario.settings g s.upper quiet) other

  fired_other : (g : List Circumstance) (s : Station (Host ClientProfile)) → s.upper.channels.events ≡ [] → IsNotPeer s.upper.profile.client.cause → IsNotPeer (fired U g s).upper.profile.client.cause
  fired_other g s quiet other = by (U.armed s.upper)
    where
      by : (armed : Bool) → IsNotPeer (if armed then told U g TimerFired s else s).upper.profile.client.cause
      by true = timer_other g s quiet other
      by false = other

  gone_other : (by_user : Bool) → by_user ≡ false → is_gone by_user PeerClosed ≡ false
  gone_other by_user is = is

  answer_other : (g : List Circumstance) (answer : Answer) (s : Station (Host ClientProfile)) → s.upper.channels.events ≡ [] → IsNotByPeer answer → IsNotPeer s.upper.profile.client.cause → IsNotPeer (hears_answer U g A answer s).upper.profile.client.cause
  answer_other g (LinkMade handle) s quiet so other = by (s.asked && is_none s.link)
    where
      by : (here : Bool) → IsNotPeer (upper_told U g (if here then Some Up else None) s.upper).profile.client.cause
      by true = stays_other is_shelf s.upper.profile.client.cause _ refl (up_shelf scenario.settings g s.upper quiet) other
      by false = other
  answer_other g (LinkGone handle reason) s quiet so other = by (is_handle handle s.link)
    where
      by : (here : Bool) → IsNotPeer (upper_told U g (if here then Some (Down reason) else None) s.upper).profile.client.cause
      by true = stays_other (is_gone (eqb reason 0x13)) s.upper.profile.client.cause _ (gone_other (eqb reason 0x13) so) (down_gone scenario.settings g reason s.upper quiet) other
      by false = other
  answer_other g (Returned opcode params) s quiet so other = other
  answer_other g (Stated opcode) s quiet so other = other
  answer_other g Called s quiet so other = other
  answer_other g (GivenBack handle count) s quiet so other = other

  right_of : (one other : Bool) → (one && other) ≡ true → other ≡ true
  right_of true other is = is
  right_of false other is = cc

  cancels_other : (g : List Circumstance) (s : Station (Host ClientProfile)) → s.upper.channels.events ≡ [] → may_cancel s.upper.profile.client ≡ true → IsNotPeer (told U g Cancelled s).upper.profile.client.cause
  cancels_other g s quiet may peer = let now : Some PushCancelled ≡ Some PeerClosed = sym (cancel_came scenario.settings g s.upper quiet may) ∙ peer in cc

  -- where no link is up for it no piece says anything to host a
  deaf_piece : (g : List Circumstance) (handle : ℕ) (piece : Piece) (s : Station (Host ClientProfile)) → s.link ≡ None → hears_piece U g handle piece s ≡ s
  deaf_piece g handle piece s off =
      let heard : Station (Host ClientProfile) = record s { upper = hears_each U g (gives longest_pdu s.joining piece) s.upper; joining = holds longest_pdu s.joining piece } in ap (λ (l : Option ℕ). if is_handle handle l then heard else s) off

  acts_other : (deed : Deed) (old mid : BothHosts) → old.a.upper.channels.events ≡ [] → Acts U V deed old mid → IsNotPeer (cause_in old) → IsNotPeer (cause_in mid)
  acts_other Nothing old mid quiet acts other = absurd acts
  acts_other (Meets Ab fate) old mid quiet acts other = subst (λ (w : BothHosts). IsNotPeer (cause_in w)) (sym acts) other
  acts_other (Meets Ba fate) old mid quiet acts other = subst (λ (w : BothHosts). IsNotPeer (cause_in w)) (sym acts) other
  acts_other (Fires A) old mid quiet (armed, g, same) other = subst (λ (w : BothHosts). IsNotPeer (cause_in w)) (sym same) (timer_other g old.a quiet other)
  acts_other (Fires B) old mid quiet (armed, h, same) other = subst (λ (w : BothHosts). IsNotPeer (cause_in w)) (sym same) other
  acts_other FiresBoth old mid quiet (armed, g, h, same) other = subst (λ (w : BothHosts). IsNotPeer (cause_in w)) (sym same) (fired_other g old.a quiet other)
  acts_other Breaks old mid quiet same other = subst (λ (w : BothHosts). IsNotPeer (cause_in w)) (sym same) other
  acts_other Cancels old mid quiet (may, g, same) other =
      subst (λ (w : BothHosts). IsNotPeer (cause_in w)) (sym same) (cancels_other g old.a quiet (right_of old.pushes.going (may_cancel old.a.upper.profile.client) may))

  acts_lame : (deed : Deed) (old mid : BothHosts) → Acts U V deed old mid → old.a.upper.profile.client.failed ≡ true → mid.a.upper.profile.client.failed ≡ true
  acts_lame Nothing old mid acts lame = absurd acts
  acts_lame (Meets Ab fate) old mid acts lame = subst (λ (w : BothHosts). w.a.upper.profile.client.failed ≡ true) (sym acts) lame
  acts_lame (Meets Ba fate) old mid acts lame = subst (λ (w : BothHosts). w.a.upper.profile.client.failed ≡ true) (sym acts) lame
  acts_lame (Fires A) old mid (armed, g, same) lame = subst (λ (w : BothHosts). w.a.upper.profile.client.failed ≡ true) (sym same) (lame_hear scenario.settings g TimerFired old.a.upper lame)
  acts_lame (Fires B) old mid (armed, h, same) lame = subst (λ (w : BothHosts). w.a.upper.profile.client.failed ≡ true) (sym same) lame
  acts_lame FiresBoth old mid (armed, g, h, same) lame = subst (λ (w : BothHosts). w.a.upper.profile.client.failed ≡ true) (sym same) (by (U.armed old.a.upper))
    where
      by : (on : Bool) → (if on then told U g TimerFired old.a else old.a).upper.profile.client.failed ≡ true
      by true = lame_hear scenario.settings g TimerFired old.a.upper lame
      by false = lame
  acts_lame Breaks old mid same lame = subst (λ (w : BothHosts). w.a.upper.profile.client.failed ≡ true) (sym same) lame
  acts_lame Cancels old mid (may, g, same) lame = subst (λ (w : BothHosts). w.a.upper.profile.client.failed ≡ true) (sym same) (lame_hear scenario.settings g Cancelled old.a.upper lame)

  told_lame : (g : List Circumstance) (event : Option _) (host : Host ClientProfile) → host.profile.client.failed ≡ true → (upper_told U g event host).profile.client.failed ≡ true
  told_lame g None host lame = lame
  told_lame g (Some event) host lame = lame_hear scenario.settings g (Linked event) host lame

  abbrev Other : BothHosts → Type 0
  Other w = w.a.upper.profile.client.failed ≡ false → IsNotPeer (cause_in w)

  -- host a stays as it is
  same_other : (old new : BothHosts) → new.a.upper ≡ old.a.upper → Other old → Other new
  same_other old new same other well = subst (λ (h : Host ClientProfile). IsNotPeer h.profile.client.cause) (sym same) (other (sym (ap (λ (h : Host ClientProfile). h.profile.client.failed) same) ∙ well))

  does_other : (happening : Happening) (old new : BothHosts) → Does U V happening old new → old.a.upper.channels.events ≡ [] → AllByRecursion IsNotByPeer old.radio.a.owed → Kept U V old.radio old.a old.b old.pushes.going
      → (new.radio.a.up ≡ true → IsNotPeer (cause_in new)) → Other old → Other new
  does_other (Tries A effort) old new (station, makes, same) quiet owed kept on other well =
      let moved = ap (λ (w : BothHosts). w.a) same in
      let well_so : station.upper.profile.client.failed ≡ false = sym (ap (λ (s : Station (Host ClientProfile)). s.upper.profile.client.failed) moved) ∙ well in
      subst (λ (s : Station (Host ClientProfile)). IsNotPeer s.upper.profile.client.cause) (sym moved)
      (effort_other effort old.a station quiet makes (other (not_lame old.a.upper.profile.client.failed station.upper.profile.client.failed (effort_lame scenario.settings V effort old.a station makes) well_so)))
  does_other (Tries B effort) old new (station, makes, same) quiet owed kept on other well = same_other old new (ap (λ (w : BothHosts). w.a.upper) same) other well
  does_other (Departure A order) old new (rest, first, same) quiet owed kept on other well = same_other old new (ap (λ (w : BothHosts). w.a.upper) same) other well
  does_other (Departure B order) old new (rest, first, same) quiet owed kept on other well = same_other old new (ap (λ (w : BothHosts). w.a.upper) same) other well
  does_other (GivingBack side) old new same quiet owed kept on other well = same_other old new (ap (λ (w : BothHosts). w.a.upper) same) other well
  does_other (Piecemeal A handle piece) old new (rest, first, here, g, same) quiet owed kept on other well = by old.radio.a.up refl well
    where
      up_same : new.radio.a.up ≡ old.radio.a.up
      up_same = ap (λ (w : BothHosts). w.radio.a.up) same ∙ ap (λ (c : Controller). c.up) (handed_piece old.radio.a piece rest first)

      by : (up : Bool) → old.radio.a.up ≡ up → Other new
      by true is = λ well. on (up_same ∙ is)
      by false is = same_other old new (ap (λ (w : BothHosts). w.a.upper) same ∙ ap (λ (s : Station (Host ClientProfile)). s.upper) (deaf_piece g handle piece old.a (kept.one.link ∙ ap (λ (b : Bool). linked_handle b old.radio.a.told) is))) other
  does_other (Piecemeal B handle piece) old new (rest, first, here, h, same) quiet owed kept on other well = same_other old new (ap (λ (w : BothHosts). w.a.upper) same) other well
  does_other (Answering A answer) old new (rest, none, first, g, same) quiet owed kept on other well =
      let moved = ap (λ (w : BothHosts). w.a) same in
      let all : AllByRecursion IsNotByPeer (answer ∷ rest) = subst (AllByRecursion IsNotByPeer) first owed in
      let well_so : (hears_answer U g A answer old.a).upper.profile.client.failed ≡ false = sym (ap (λ (s : Station (Host ClientProfile)). s.upper.profile.client.failed) moved) ∙ well in
      subst (λ (s : Station (Host ClientProfile)). IsNotPeer s.upper.profile.client.cause) (sym moved)
      (answer_other g answer old.a quiet all.0 (other (not_lame old.a.upper.profile.client.failed (hears_answer U g A answer old.a).upper.profile.client.failed (told_lame g (event_in answer old.a) old.a.upper) well_so)))
  does_other (Answering B answer) old new (rest, none, first, h, same) quiet owed kept on other well = same_other old new (ap (λ (w : BothHosts). w.a.upper) same) other well
  does_other (Turns ordinal word) old new (rest, is_word, ordinal_is, mid, acts, same) quiet owed kept on other well =
      same_other mid new (ap (λ (w : BothHosts). w.a.upper) same)
      (λ fine. acts_other (found word old.radio) old mid quiet acts (other (not_lame old.a.upper.profile.client.failed mid.a.upper.profile.client.failed (acts_lame (found word old.radio) old mid acts) fine))) well
  does_other (Misses word) old new (rest, nothing, same) quiet owed kept on other well = same_other old new (ap (λ (w : BothHosts). w.a.upper) same) other well
  does_other (Opens push name) old new (idle, next, push_is, g, same) quiet owed kept on other well =
      let moved = ap (λ (w : BothHosts). w.a) same in
      let well_so : (told U g (Opening name) old.a).upper.profile.client.failed ≡ false = sym (ap (λ (s : Station (Host ClientProfile)). s.upper.profile.client.failed) moved) ∙ well in
      subst (λ (s : Station (Host ClientProfile)). IsNotPeer s.upper.profile.client.cause) (sym moved) (within_other is_shelf _ refl (opens_shelf scenario.settings g name old.a.upper quiet well_so))
  does_other (Closes push outcome) old new (going, push_is, idle, is, apart, none_a, none_b, quiet_a, quiet_b, same) quiet owed kept on other well = same_other old new (ap (λ (w : BothHosts). w.a.upper) same) other well

  -- ---- want of memory stays

  each_lame : (g : List Circumstance) (pdus : List (List ℕ)) (host : Host ClientProfile) → host.profile.client.failed ≡ true → (hears_each U g pdus host).profile.client.failed ≡ true
  each_lame g [] host lame = lame
  each_lame g (pdu ∷ pdus) host lame = each_lame g pdus (hear P g (Heard pdu) host) (lame_hear scenario.settings g (Heard pdu) host lame)

  piece_lame : (g : List Circumstance) (handle : ℕ) (piece : Piece) (s : Station (Host ClientProfile)) → s.upper.profile.client.failed ≡ true → (hears_piece U g handle piece s).upper.profile.client.failed ≡ true
  piece_lame g handle piece s lame = by (is_handle handle s.link)
    where
      by : (here : Bool) → (if here then (let heard : Station (Host ClientProfile) = record s { upper = hears_each U g (gives longest_pdu s.joining piece) s.upper; joining = holds longest_pdu s.joining piece } in heard) else s).upper.profile.client.failed ≡ true
      by true = each_lame g (gives longest_pdu s.joining piece) s.upper lame
      by false = lame

  abbrev IsLame : BothHosts → Type 0
  IsLame w = w.a.upper.profile.client.failed ≡ true

  does_lame : (happening : Happening) (old new : BothHosts) → Does U V happening old new → IsLame old → IsLame new
  does_lame (Tries A effort) old new (station, makes, same) lame = subst IsLame (sym same) (effort_lame scenario.settings V effort old.a station makes lame)
  does_lame (Tries B effort) old new (station, makes, same) lame = subst IsLame (sym same) lame
  does_lame (Departure A order) old new (rest, first, same) lame = subst IsLame (sym same) lame
  does_lame (Departure B order) old new (rest, first, same) lame = subst IsLame (sym same) lame
  does_lame (GivingBack side) old new same lame = subst IsLame (sym same) lame
  does_lame (Piecemeal A handle piece) old new (rest, first, here, g, same) lame = subst IsLame (sym same) (piece_lame g handle piece old.a lame)
  does_lame (Piecemeal B handle piece) old new (rest, first, here, h, same) lame = subst IsLame (sym same) lame
  does_lame (Answering A answer) old new (rest, none, first, g, same) lame = subst IsLame (sym same) (told_lame g (event_in answer old.a) old.a.upper lame)
  does_lame (Answering B answer) old new (rest, none, first, h, same) lame = subst IsLame (sym same) lame
  does_lame (Turns ordinal word) old new (rest, is_word, ordinal_is, mid, acts, same) lame = subst IsLame (sym same) (acts_lame (found word old.radio) old mid acts lame)
  does_lame (Misses word) old new (rest, nothing, same) lame = subst IsLame (sym same) lame
  does_lame (Opens push name) old new (idle, next, push_is, g, same) lame = subst IsLame (sym same) (lame_hear scenario.settings g (Opening name) old.a.upper lame)
  does_lame (Closes push outcome) old new (going, push_is, idle, is, apart, none_a, none_b, quiet_a, quiet_b, same) lame = subst IsLame (sym same) lame

  -- ---- the ends of pushes

  named_other : (outcome : Outcome) → (outcome ≡ PeerClosed → ⊥) → is_closed_by_peer outcome ≡ false
  named_other PeerClosed apart = absurd (apart refl)
  named_other outcome apart = refl

  cause_ends : (cause : Option Outcome) (outcome : Outcome) → cause ≡ Some outcome → IsNotPeer cause → is_closed_by_peer outcome ≡ false
  cause_ends cause outcome is other = named_other outcome (λ same. other (is ∙ ap Some same))

  all_both : (xs ys : List Entry) → PeersCloseNone xs → PeersCloseNone ys → PeersCloseNone (xs ++ ys)
  all_both [] ys one two = two
  all_both (x ∷ xs) ys one two = (one.0, all_both xs ys one.1 two)

  does_end : (happening : Happening) (old new : BothHosts) → Does U V happening old new → IsNotPeer (cause_in old) → PeersCloseNone (entries_of happening)
  does_end (Tries side effort) old new does other = tt
  does_end (Departure side order) old new does other = (tt, tt)
  does_end (GivingBack side) old new does other = tt
  does_end (Piecemeal side handle piece) old new does other = (tt, tt)
  does_end (Answering side answer) old new does other = (tt, tt)
  does_end (Turns ordinal word) old new does other = (tt, tt)
  does_end (Misses word) old new does other = tt
  does_end (Opens push name) old new does other = (tt, tt)
  does_end (Closes push outcome) old new (going, push_is, idle, is, apart, none_a, none_b, quiet_a, quiet_b, same) other = (cause_ends (cause_in old) outcome is other, tt)

  last_ends : (cause : Option Outcome) → IsNotPeer cause → is_closed_by_peer (unwrap_or cause ScriptEnded) ≡ false
  last_ends None other = refl
  last_ends (Some outcome) other = cause_ends (Some outcome) outcome refl other

  -- ---- each moment

  few_then : (words more : List Word) → adverse_in (words ++ more) < scenario.settings.tries → adverse_in words < scenario.settings.tries
  few_then words more few = let less = adverse_joined words more in omega (arith, less, few)

  few_of : (done : List Happening) (words : List Word) → all_words done ≡ words → adverse_in words < scenario.settings.tries → adverse_in (all_words done) < scenario.settings.tries
  few_of done words is few = subst (λ (l : List Word). adverse_in l < scenario.settings.tries) (sym is) few

  -- while its link is up its client has another outcome, or none
  on_it : (done : List Happening) (w : BothHosts) → Happened scenario content done w → adverse_in (all_words done) < scenario.settings.tries → w.radio.a.up ≡ true → IsNotPeer (cause_in w)
  on_it done w runs few up peer = never_both w.a.upper.profile.client.stage ((on_link done w runs).linked up) (parted done w runs few peer)

  keeps_at : (happenings : List Happening) → KeepsRun U V happenings (beginning scenario content) At
  keeps_at happenings happening ahead past words old new reached does next at few =
      let before = few_then words (words_in happening) few in
      let held = at before in
      record {
        calm = does_calm V U happening old new does (stays reached.done old reached.runs (few_of reached.done words reached.words_are before)) held.calm;
        other = does_other happening old new does (none_told scenario content reached.done old reached.runs) held.calm.owed reached.kept
            (on_it next.done new next.runs (few_of next.done (words ++ words_in happening) next.words_are few)) held.other;
        ends = λ well.
            let was = not_lame old.a.upper.profile.client.failed new.a.upper.profile.client.failed (does_lame happening old new does) well in all_both past (entries_of happening) (held.ends was) (does_end happening old new does (held.other was));
      }

  arrives : (happenings : List Happening) (w : BothHosts) → Happened scenario content happenings w → At (all_entries happenings) (all_words happenings) w
  arrives happenings w happened =
      let all = fits scenario content in
      (along U V happenings (beginning scenario content) At happenings [] [] (beginning scenario content) w all.frames_a all.frames_b all.idles (keeps_at happenings) happened
      (reached_first U V scenario.acl_length scenario.acl_count scenario.names happenings all)
      (λ few. record { calm = record { b = record { waiting = (refl, (refl, (refl, (refl, tt)))); out = tt }; owed = tt }; other = λ well peer. cc; ends = λ well. tt })).now

  pub last_part : (happenings : List Happening) (w : BothHosts) → Happened scenario content happenings w → adverse_in (all_words happenings) < scenario.settings.tries → w.a.upper.profile.client.failed ≡ false
      → PeersCloseNone (all_entries happenings ++ last_entries ((client_of scenario).outcome w.a.upper) w.pushes)
  last_part happenings w happened few well = all_both (all_entries happenings) (last_entries (U.outcome w.a.upper) w.pushes) (held.ends well) (by w.pushes.going)
    where
      held : Holds (all_entries happenings) w
      held = arrives happenings w happened few

      by : (going : Bool) → PeersCloseNone (if going then Ended w.pushes.begun (unwrap_or (cause_in w) ScriptEnded) ∷ [] else [])
      by true = (last_ends (cause_in w) (held.other well), tt)
      by false = tt

pub few-words_part_none : DisturbancesCostWords → FewWordsTellMildly → FewWordsPartNone
few-words_part_none costs tell = record {
  moments = λ scenario content happenings world happened few well. (arrives costs tell scenario content happenings world happened few).ends well;
  ends = λ scenario content happenings world happened few well. last_part costs tell scenario content happenings world happened few well;
}
