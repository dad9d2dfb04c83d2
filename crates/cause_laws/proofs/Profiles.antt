-- What host a hears and says, and the outcomes that come of it for its push.
use Rattle.std.proofs.Common.{◌≡◌, ℕ, Bool, true, false, not, ◌&&◌, List, [], ◌∷◌, Option, Some, None, is_none, refl, sym, ap, subst, ◌∙◌, if◌then◌else◌}
use Rattle.std.specs.List.{AllByRecursion}
use Rattle.scenario_laws.specs.bt_base.specs.declared.settings.Settings.{Settings}
use Rattle.scenario_laws.specs.channel_model.specs.declared.event.ChannelEvent.{ChannelEvent}
use Rattle.scenario_laws.specs.channel_model.specs.declared.event.ChannelEvent.TheVariants as channels
use Rattle.scenario_laws.specs.channel_model.specs.Calls.{peer_mtu, waits}
use Rattle.scenario_laws.specs.channel_model.specs.Value.{Channels}
use Rattle.scenario_laws.specs.push_terms.specs.declared.outcome.Outcome.{Outcome}
use Rattle.scenario_laws.specs.push_terms.specs.declared.outcome.Outcome.TheVariants.{Cancelled as PushCancelled}
use Rattle.scenario_laws.specs.push_model.specs.declared.closing.CloseCause.{CloseCause}
use Rattle.scenario_laws.specs.obex_session.specs.Views.{is_final_put}
use Rattle.scenario_laws.specs.push_model.specs.Client.{Client, cancelled, ends, ends_by, may_cancel, is_rest}
use Rattle.scenario_laws.specs.push_model.specs.Events as events
use Rattle.scenario_laws.specs.push_model.specs.Laws.{Hears, Finishes}
use Rattle.scenario_laws.specs.push_model.specs.Steps.{Part, Step, Wait, MakeLink, AskFeatures, OpenChannel, SendSdu, CloseChannel, BreakLink, Ended, NoMemory, steps}
use Rattle.scenario_laws.specs.world_model.specs.Machines.{News, Heard}
use Rattle.scenario_laws.specs.host_model.specs.Circumstances.{Circumstance}
use Rattle.scenario_laws.specs.host_model.specs.Clients.{ClientProfile, client_profile, cause_of, fitted}
use Rattle.scenario_laws.specs.host_model.specs.Hosts.{Host, hear, next}
use Rattle.scenario_laws.specs.host_model.proofs.Keeping.{Keeps, hears_on, goes_next}
use Rattle.scenario_laws.specs.host_laws.specs.Feeds.{Feed, Learns, Receives, Happens, Sent, Steps, fed}
use Rattle.scenario_laws.specs.host_laws.specs.Pushing.{Affair, Begins, Does, end_asked, link_asked, opened_pushed, closed_pushed, event_pushed, sent_pushed, step_pushed, pushed_with}
use Rattle.scenario_laws.specs.host_laws.proofs.Pushing.{feed_so}
use Rattle.cause_laws.proofs.Clients.{is_any, is_heard, any_heard, ShowsWithin, more_shown, opens_shown, closes_shown, told_shown, lost_shown, asks_shown, finishes_shown, sdu_shown, Came, came_same, came_then, IsWithin, came_behind, lame_behind}

-- ---- the affairs of a feed

pub any_more : (q : Outcome → Bool) → ((outcome : Outcome) → is_any outcome ≡ true → q outcome ≡ true) → (affairs : List Affair) → AllByRecursion (IsWithin is_any) affairs → AllByRecursion (IsWithin q) affairs
any_more q more [] all = tt
any_more q more (Begins size name ∷ affairs) all = absurd all.0
any_more q more (Does deed ∷ affairs) all = (more_shown q more deed all.0, any_more q more affairs all.1)

pub end_within : (step : Step) → AllByRecursion (IsWithin is_any) (end_asked step)
end_within Wait = tt
end_within MakeLink = tt
end_within AskFeatures = tt
end_within (OpenChannel psm) = tt
end_within (SendSdu psm payload) = tt
end_within (CloseChannel psm) = tt
end_within BreakLink = tt
end_within (Ended outcome) = (asks_shown [], tt)
end_within NoMemory = tt

pub call_within : (step : Step) → AllByRecursion (IsWithin is_any) (link_asked step)
call_within Wait = tt
call_within MakeLink = (asks_shown [], (finishes_shown, tt))
call_within AskFeatures = tt
call_within (OpenChannel psm) = tt
call_within (SendSdu psm payload) = tt
call_within (CloseChannel psm) = tt
call_within BreakLink = tt
call_within (Ended outcome) = tt
call_within NoMemory = tt

opened_within : (mtu : Option ℕ) (psm : ℕ) → AllByRecursion (IsWithin is_any) (opened_pushed mtu psm)
opened_within None psm = tt
opened_within (Some mtu) psm = (opens_shown psm mtu, tt)

closed_within : (cause : Option CloseCause) (psm : ℕ) → AllByRecursion (IsWithin is_any) (closed_pushed cause psm)
closed_within None psm = tt
closed_within (Some cause) psm = (closes_shown psm cause, tt)

pub event_within : (event : ChannelEvent) (v : Channels) → AllByRecursion (IsWithin is_any) (event_pushed event v)
event_within (channels.Opened own psm) v = opened_within (peer_mtu own v) psm
event_within (channels.Closed own psm reason) v = closed_within (cause_of reason) psm
event_within (channels.Features features) v = (told_shown, tt)
event_within channels.FeaturesLost v = (lost_shown, tt)
event_within (channels.DisconnectLost own) v = tt

pub sent_within : (own : Option ℕ) (v : Channels) → AllByRecursion (IsWithin is_any) (sent_pushed own v)
sent_within None v = tt
sent_within (Some own) v = by (waits own v)
  where
    by : (test : Bool) → AllByRecursion (IsWithin is_any) (if test then [] else Does Finishes ∷ [])
    by true = tt
    by false = (finishes_shown, tt)

pub step_within : (step : Step) (parts : List Part) → AllByRecursion (IsWithin is_any) (step_pushed step parts)
step_within Wait parts = (asks_shown parts, tt)
step_within MakeLink parts = tt
step_within AskFeatures parts = (asks_shown parts, (finishes_shown, tt))
step_within (OpenChannel psm) parts = (asks_shown parts, (finishes_shown, tt))
step_within (SendSdu psm payload) parts = (asks_shown parts, tt)
step_within (CloseChannel psm) parts = (asks_shown parts, (finishes_shown, tt))
step_within BreakLink parts = (asks_shown parts, (finishes_shown, tt))
step_within (Ended outcome) parts = (asks_shown parts, tt)
step_within NoMemory parts = (asks_shown parts, tt)

-- ---- a profile

module _ (settings : Settings) where
  pub came_fed : (q : Outcome → Bool) (old : Option Outcome) (p : ClientProfile) (feed : Feed) → AllByRecursion (IsWithin q) (pushed_with p feed) → Came q old p.client.cause → Came q old (fed (client_profile settings) p feed).client.cause
  came_fed q old p feed all came =
      came_then q old p.client.cause (fed (client_profile settings) p feed).client.cause came
      (subst (λ (c : Client). Came q p.client.cause c.cause) (sym (feed_so settings p feed)) (came_behind q (pushed_with p feed) p.client all))

  -- what comes of anything but news is one of these
  pub keeps_came : (q : Outcome → Bool) → ((outcome : Outcome) → is_any outcome ≡ true → q outcome ≡ true) → ((psm : ℕ) (sdu : List ℕ) → ShowsWithin q (Hears (events.Sdu psm sdu))) → (old : Option Outcome)
      → Keeps (client_profile settings) (λ (p : ClientProfile). Came q old p.client.cause)
  keeps_came q more sdus old = record {
    given = λ circumstances p came. came;
    received = λ own psm sdu p came. came_fed q old p (Receives own psm sdu) (sdus psm sdu, tt) came;
    happened = λ event v p came. came_fed q old p (Happens event v) (any_more q more (event_pushed event v) (event_within event v)) came;
    sent = λ v p came. came_fed q old p (Sent v) (any_more q more (sent_pushed p.submitted v) (sent_within p.submitted v)) came;
    steps = λ v p came. came_fed q old p (Steps v) (any_more q more (pushed_with p (Steps v)) (step_within (steps p.client (fitted p)).step (fitted p))) came;
  }

  -- it stays lame
  lame_fed : (p : ClientProfile) (feed : Feed) → p.client.failed ≡ true → (fed (client_profile settings) p feed).client.failed ≡ true
  lame_fed p feed lame = ap (λ (c : Client). c.failed) (feed_so settings p feed) ∙ lame_behind (pushed_with p feed) p.client lame

  pub keeps_lame : Keeps (client_profile settings) (λ (p : ClientProfile). p.client.failed ≡ true)
  keeps_lame = record {
    given = λ circumstances p lame. lame;
    received = λ own psm sdu p lame. lame_fed p (Receives own psm sdu) lame;
    happened = λ event v p lame. lame_fed p (Happens event v) lame;
    sent = λ v p lame. lame_fed p (Sent v) lame;
    steps = λ v p lame. lame_fed p (Steps v) lame;
  }

  -- ---- what host a hears and says

  pub heard_came : (gifts : List Circumstance) (pdu : List ℕ) (host : Host ClientProfile) → Came is_heard host.profile.client.cause (hear (client_profile settings) gifts (Heard pdu) host).profile.client.cause
  heard_came gifts pdu host =
      let old = host.profile.client.cause in
      hears_on (client_profile settings) (λ (p : ClientProfile). Came is_heard old p.client.cause) (keeps_came is_heard any_heard sdu_shown old) gifts (Heard pdu) host (λ circumstances p came. came) (came_same is_heard old)

  -- ---- it is cancelled

  none_of : (resting : Bool) (cause : Option Outcome) (final : Bool) → (not resting && (is_none cause && final)) ≡ true → cause ≡ None
  none_of false None final is = refl
  none_of false (Some outcome) final is = cc
  none_of true cause final is = cc

  pub may_none : (client : Client) → may_cancel client ≡ true → client.cause ≡ None
  may_none client may = none_of (is_rest client.stage) client.cause (not (is_final_put client.session.awaited)) may

  pub cancelled_so : (client : Client) → may_cancel client ≡ true → (cancelled client).cause ≡ Some PushCancelled
  cancelled_so client may = ap (λ (b : Bool). (if b then ends PushCancelled client else client).cause) may ∙ ap (λ (c : Option Outcome). (ends_by c PushCancelled client).cause) (may_none client may)

  -- ---- it is lame

  pub lame_next : (host : Host ClientProfile) (pdu : List ℕ) (after : Host ClientProfile) → next (client_profile settings) host ≡ Some (pdu, after) → host.profile.client.failed ≡ true → after.profile.client.failed ≡ true
  lame_next host pdu after is lame = goes_next (client_profile settings) (λ (p : ClientProfile). p.client.failed ≡ true) keeps_lame host pdu after is lame

  pub lame_hear : (gifts : List Circumstance) (news : News) (host : Host ClientProfile) → host.profile.client.failed ≡ true → (hear (client_profile settings) gifts news host).profile.client.failed ≡ true
  lame_hear gifts news host lame = hears_on (client_profile settings) (λ (p : ClientProfile). p.client.failed ≡ true) keeps_lame gifts news host (λ circumstances p lame. lame_fed p (Learns circumstances news) lame) lame

  -- ---- a push begins

  pub well_before : (old new : Bool) → (old ≡ true → new ≡ true) → new ≡ false → old ≡ false
  well_before true new goes well = let never : true ≡ false = sym (goes refl) ∙ well in cc
  well_before false new goes well = refl
