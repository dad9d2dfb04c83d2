-- A client whose push has no link yet, or that has no push, is as it was whatever its host tells it, until that tells it of a link or a push begins.
use Rattle.std.proofs.Common.{◌≡◌, ◌&&◌, ◌||◌, ◌==◌, ℕ, Bool, true, false, not, List, [], Option, Some, None, Ok, Err, refl, ap, ◌∙◌, if◌then◌else◌}
use Rattle.outcome_laws.specs.cause_laws.specs.bt_base.specs.declared.ports.PortFault.TheVariants as fault
use Rattle.outcome_laws.specs.cause_laws.specs.bt_base.specs.declared.settings.Settings.{Settings}
use Rattle.outcome_laws.specs.cause_laws.specs.push_terms.specs.declared.outcome.Outcome.{Outcome}
use Rattle.outcome_laws.specs.cause_laws.specs.push_terms.specs.declared.outcome.Outcome.TheVariants.{RetryLimit, ShelfFault, Cancelled as PushCancelled}
use Rattle.outcome_laws.specs.cause_laws.specs.channel_model.specs.declared.event.ChannelEvent.{ChannelEvent}
use Rattle.outcome_laws.specs.cause_laws.specs.channel_model.specs.declared.event.ChannelEvent.TheVariants.{Opened, Closed, Features as Told, FeaturesLost, DisconnectLost}
use Rattle.outcome_laws.specs.cause_laws.specs.channel_model.specs.Calls.{peer_mtu, waits}
use Rattle.outcome_laws.specs.cause_laws.specs.channel_model.specs.Value.{Channels}
use Rattle.outcome_laws.specs.cause_laws.specs.push_model.specs.declared.closing.CloseCause.{CloseCause}
use Rattle.outcome_laws.specs.cause_laws.specs.push_model.specs.declared.course.Point.TheVariants.{Due, Asked}
use Rattle.outcome_laws.specs.cause_laws.specs.push_model.specs.declared.course.Stage.{Stage}
use Rattle.outcome_laws.specs.cause_laws.specs.push_model.specs.declared.course.Stage.TheVariants.{Rest, Link as Paged, ObjectChannel}
use Rattle.outcome_laws.specs.cause_laws.specs.push_model.specs.Causes.{cause_of_link, cause_of_page}
use Rattle.outcome_laws.specs.cause_laws.specs.push_model.specs.Client.{Client, in_order, at_once, ends, ends_by, may_cancel, cancelled}
use Rattle.outcome_laws.specs.cause_laws.specs.push_model.specs.Events as events
use Rattle.outcome_laws.specs.cause_laws.specs.push_model.specs.Events.{linked_at, is_linked, is_paging, is_asking_features, is_search, opened_at, closed_at, sdu_at, over, fires, hears_news}
use Rattle.outcome_laws.specs.cause_laws.specs.push_model.specs.Steps.{Part, Stepped, NoMemory, rests, steps, steps_at}
use Rattle.outcome_laws.specs.cause_laws.specs.sdp_client.specs.Asking.{is_due, after_resend}
use Rattle.outcome_laws.specs.cause_laws.specs.sdp_client.specs.Views.{is_awaiting}
use Rattle.outcome_laws.specs.cause_laws.specs.world_model.specs.Machines.{News, Linked, Up, Down, Failed, Heard, TimerFired, Cancelled, Opening}
use Rattle.outcome_laws.specs.cause_laws.specs.host_model.specs.Clients.{ClientProfile, client_profile, cause_of, closed_by, opened_by, event_heard, after_end, ended, opens, done, sent_on, takes, fitted}
use Rattle.outcome_laws.specs.cause_laws.specs.host_model.specs.Shelves.{unused}
use Rattle.outcome_laws.specs.cause_laws.specs.host_model.proofs.Keeping.{Keeps, KeepsNews}

-- no push goes on, or one that waits for its link
abbrev pub is_still : Stage → Bool
is_still Rest = true
is_still (Paged Asked) = true
is_still stage = false

-- ---- what it is told

opened_still : (s : Stage) (psm mtu : ℕ) (c : Client) → is_still s ≡ true → opened_at s psm mtu c ≡ c
opened_still Rest psm mtu c is = refl
opened_still (Paged Asked) psm mtu c is = refl
opened_still s psm mtu c is = cc

closed_still : (s : Stage) (psm : ℕ) (cause : CloseCause) (c : Client) → is_still s ≡ true → closed_at s psm cause c ≡ c
closed_still Rest psm cause c is = refl
closed_still (Paged Asked) psm cause c is = refl
closed_still s psm cause c is = cc

sdu_still : (s : Stage) (psm : ℕ) (sdu : List ℕ) (c : Client) → is_still s ≡ true → sdu_at s psm sdu c ≡ c
sdu_still Rest psm sdu c is = refl
sdu_still (Paged Asked) psm sdu c is = refl
sdu_still s psm sdu c is = cc

asking_still : (s : Stage) → is_still s ≡ true → is_asking_features s ≡ false
asking_still Rest is = refl
asking_still (Paged Asked) is = refl
asking_still s is = cc

search_still : (s : Stage) → is_still s ≡ true → is_search s ≡ false
search_still Rest is = refl
search_still (Paged Asked) is = refl
search_still s is = cc

pub linked_still : (s : Stage) → is_still s ≡ true → is_linked s ≡ false
linked_still Rest is = refl
linked_still (Paged Asked) is = refl
linked_still s is = cc

order_still : (s : Stage) → is_still s ≡ true → in_order s ≡ s
order_still Rest is = refl
order_still (Paged Asked) is = refl
order_still s is = cc

once_still : (s : Stage) → is_still s ≡ true → at_once s ≡ s
once_still Rest is = refl
once_still (Paged Asked) is = refl
once_still s is = cc

event_still : (event : ChannelEvent) (v : Channels) (c : Client) → is_still c.stage ≡ true → event_heard event v c ≡ c
event_still (Opened own psm) v c is = by (peer_mtu own v)
  where
    by : (mtu : Option ℕ) → opened_by mtu psm c ≡ c
    by None = refl
    by (Some mtu) = opened_still c.stage psm mtu c is
event_still (Closed own psm reason) v c is = by (cause_of reason)
  where
    by : (cause : Option CloseCause) → closed_by cause psm c ≡ c
    by None = refl
    by (Some cause) = closed_still c.stage psm cause c is
event_still (Told features) v c is = ap (λ (b : Bool). if b then record c { stage = ObjectChannel Due } else c) (asking_still c.stage is)
event_still FeaturesLost v c is = ap (λ (b : Bool). if b then ends RetryLimit c else c) (asking_still c.stage is)
event_still (DisconnectLost own) v c is = refl

timer_still : (c : Client) → is_still c.stage ≡ true → fires c ≡ c
timer_still c is = ap (λ (b : Bool). if (b && is_awaiting c.query) && not (c.given || is_due c.query) then (if c.left == 0 then ends RetryLimit c else record c { query = after_resend c.query }) else c) (search_still c.stage is)

down_still : (reason : ℕ) (c : Client) → is_still c.stage ≡ true → hears_news (events.LinkDown reason) c ≡ c
down_still reason c is = ap (λ (b : Bool). if b then over (cause_of_link reason) c else c) (linked_still c.stage is)

cancel_still : (c : Client) → is_still c.stage ≡ true → (cancelled c).stage ≡ c.stage
cancel_still c is = by (may_cancel c) c.cause
  where
    by : (may : Bool) (cause : Option Outcome) → (if may then ends_by cause PushCancelled c else c).stage ≡ c.stage
    by true None = order_still c.stage is
    by true (Some earlier) = once_still c.stage is
    by false cause = refl

-- ---- its steps

-- it waits, or it lacks memory
steps_still : (Q : Stepped → Type 0) (c : Client) (parts : List Part) → is_still c.stage ≡ true → Q (record { client = c; step = NoMemory; left = parts }) → Q (rests c parts) → Q (steps c parts)
steps_still Q c parts is lame rest = by c.failed c.given c.stage is
  where
    by : (failed given : Bool) (s : Stage) → is_still s ≡ true → Q (if failed then record { client = c; step = NoMemory; left = parts } else if given then rests c parts else steps_at s c parts)
    by true given s still = lame
    by false true s still = rest
    by false false Rest still = rest
    by false false (Paged Asked) still = rest
    by false false s still = cc

ended_still : (c : Client) → is_still c.stage ≡ true → (ended c).stage ≡ c.stage
ended_still c is = steps_still (λ (one : Stepped). (after_end one.step one.client c).stage ≡ c.stage) c [] is refl refl

-- ---- its profile

-- what leaves a push waiting for its link; one that has none may be told of links
abbrev pub LeavesStill : Stage → News → Type 0
LeavesStill stage (Linked Up) = stage ≡ Rest
LeavesStill stage (Failed status) = stage ≡ Rest
LeavesStill stage (Opening name) = ⊥
LeavesStill stage news = Unit {0}

module _ (settings : Settings) (stage : Stage) (still : is_still stage ≡ true) where
  abbrev pub StandsStill : ClientProfile → Type 0
  StandsStill p = p.client.stage ≡ stage

  here : (p : ClientProfile) → p.client.stage ≡ stage → is_still p.client.stage ≡ true
  here p at = ap is_still at ∙ still

  sent_keeps : (submitted : Option ℕ) (v : Channels) (p : ClientProfile) → p.client.stage ≡ stage → (sent_on submitted v p).client.stage ≡ stage
  sent_keeps None v p at = at
  sent_keeps (Some own) v p at = by (waits own v)
    where
      by : (waiting : Bool) → (if waiting then p else done (record p { submitted = None })).client.stage ≡ stage
      by true = at
      by false = at

  pub keeps_still : Keeps (client_profile settings) (λ (p : ClientProfile). p.client.stage ≡ stage)
  keeps_still = record {
    given = λ circumstances p at. at;
    received = λ own psm sdu p at. ap (λ (c : Client). c.stage) (sdu_still p.client.stage psm sdu p.client (here p at)) ∙ at;
    happened = λ event v p at. ap (λ (c : Client). c.stage) (event_still event v p.client (here p at)) ∙ at;
    sent = λ v p at. sent_keeps p.submitted v p at;
    steps = λ v p at.
        steps_still (λ (one : Stepped). (takes one.step v (record p { client = one.client; parts = unused one.left p.parts }) p).profile.client.stage ≡ stage) p.client (fitted p) (here p at) at at;
  }

  ends_so : (c d : Client) → is_still c.stage ≡ true → c.stage ≡ stage → d.stage ≡ c.stage → (ended d).stage ≡ stage
  ends_so c d is at same = ended_still d (ap is_still same ∙ is) ∙ (same ∙ at)

  pub news_still : (news : News) → LeavesStill stage news → KeepsNews (client_profile settings) (λ (p : ClientProfile). p.client.stage ≡ stage) news
  news_still (Linked Up) rest circumstances p at = ap (λ (s : Stage). (linked_at s p.client).stage) (at ∙ rest) ∙ at
  news_still (Linked (Down reason)) leaves circumstances p at = ends_so p.client (hears_news (events.LinkDown reason) p.client) (here p at) at (ap (λ (c : Client). c.stage) (down_still reason p.client (here p at)))
  news_still (Failed status) rest circumstances p at =
      ends_so p.client (hears_news (events.LinkFailed status) p.client) (here p at) at
      (ap (λ (s : Stage). (if is_paging s then over (cause_of_page status) p.client else p.client).stage) (at ∙ rest))
  news_still (Heard pdu) leaves circumstances p at = at
  news_still TimerFired leaves circumstances p at = ap (λ (c : Client). c.stage) (timer_still p.client (here p at)) ∙ at
  news_still Cancelled leaves circumstances p at = ends_so p.client (cancelled p.client) (here p at) at (cancel_still p.client (here p at))
  news_still (Opening name) leaves circumstances p at = absurd leaves

-- ---- a push begins

-- it waits for its link
pub opens_paged : (size : ℕ) (name : List ℕ) (p : ClientProfile) → p.client.failed ≡ false → (opens (Ok size) name p).client.stage ≡ Paged Asked
opens_paged size name p well = rw well refl

pub opens_none : (size : ℕ) (name : List ℕ) (p : ClientProfile) → p.client.failed ≡ false → (opens (Ok size) name p).client.cause ≡ None
opens_none size name p well = rw well refl

pub opens_lacking : (name : List ℕ) (p : ClientProfile) → p.client.failed ≡ false → (opens (Err fault.Failed) name p).client.cause ≡ Some ShelfFault
opens_lacking name p well = rw well refl

pub opens_lame : (name : List ℕ) (p : ClientProfile) → p.client.failed ≡ false → (opens (Err fault.NoMemory) name p).client.failed ≡ true
opens_lame name p well = rw well refl
