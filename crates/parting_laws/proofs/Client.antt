-- A client that is told of no channel which its peer closed has that outcome by the end of its link alone: no link is there then.
use Rattle.std.proofs.Common.{◌≡◌, ℕ, List, [], ◌∷◌, ◌++◌, Bool, true, false, not, ◌&&◌, ◌||◌, eqb, cond, if◌then◌else◌, Option, Some, None, Result, Ok, Err, refl, sym, ap, subst, ◌∙◌}
use Rattle.std.specs.List.{AllByRecursion}
use Rattle.cause_laws.specs.bt_base.specs.declared.ports.PortFault.{PortFault}
use Rattle.cause_laws.specs.bt_base.specs.declared.ports.PortFault.TheVariants as fault
use Rattle.cause_laws.specs.bt_base.specs.declared.settings.Settings.{Settings}
use Rattle.cause_laws.specs.push_terms.specs.declared.outcome.Outcome.{Outcome}
use Rattle.cause_laws.specs.push_terms.specs.declared.outcome.Outcome.TheVariants.{RetryLimit, ShelfFault, Cancelled as PushCancelled, PeerClosed, PeerFault}
use Rattle.cause_laws.specs.channel_model.specs.declared.event.ChannelEvent.{ChannelEvent}
use Rattle.cause_laws.specs.channel_model.specs.declared.event.ChannelEvent.TheVariants as channels
use Rattle.cause_laws.specs.channel_model.specs.declared.event.CloseReason.{CloseReason}
use Rattle.cause_laws.specs.channel_model.specs.declared.event.CloseReason.TheVariants as reasons
use Rattle.cause_laws.specs.channel_model.specs.Calls.{peer_mtu, waits}
use Rattle.cause_laws.specs.channel_model.specs.Value.{Channels}
use Rattle.cause_laws.specs.sdp_client.specs.Asking.{is_due}
use Rattle.cause_laws.specs.push_model.specs.declared.closing.CloseCause.{CloseCause}
use Rattle.cause_laws.specs.push_model.specs.declared.closing.CloseCause.TheVariants as closing
use Rattle.cause_laws.specs.push_model.specs.declared.course.Stage.{Stage}
use Rattle.cause_laws.specs.push_model.specs.declared.course.Stage.TheVariants.{Rest, Link, SearchChannel, Search, SearchEnd, Features, ObjectChannel, Object, ObjectEnd, LinkEnd, Over}
use Rattle.cause_laws.specs.push_model.specs.Causes.{cause_of_page, cause_of_close, cause_of_link}
use Rattle.cause_laws.specs.push_model.specs.Client.{Client, begins, begun_by, cancelled, may_cancel, in_order, at_once, ends, ends_by}
use Rattle.cause_laws.specs.push_model.specs.Events as events
use Rattle.cause_laws.specs.push_model.specs.Events.{is_linked, is_paging, over_by, search_psm}
use Rattle.cause_laws.specs.push_model.specs.Laws.{Deed, Hears, Asks, Finishes, Cancels, done}
use Rattle.cause_laws.specs.push_model.specs.Shown.{watched, closed_shows, opened_shows, sdu_shows, shows}
use Rattle.cause_laws.specs.push_model.specs.Steps.{Step, Wait, MakeLink, AskFeatures, OpenChannel, SendSdu, CloseChannel, BreakLink, Ended, NoMemory, Part, Stepped, tells_end, rests, steps_at, steps}
use Rattle.cause_laws.specs.push_model.proofs.CauseLaws.{first_causes_stay}
use Rattle.cause_laws.specs.world_model.specs.Machines.{Up, Down, News, Linked, Failed, Heard, TimerFired, Cancelled, Opening}
use Rattle.cause_laws.specs.host_model.specs.Circumstances.{Circumstance}
use Rattle.cause_laws.specs.host_model.specs.Clients.{ClientProfile, client_profile, cause_of, ended, fitted}
use Rattle.cause_laws.specs.host_model.specs.Shelves.{size_for, name_for}
use Rattle.cause_laws.specs.host_laws.specs.Feeds.{Feed, Gifts, Learns, Receives, Happens, Sent, Steps, fed, all_fed}
use Rattle.cause_laws.specs.host_laws.specs.Pushing.{Affair, Begins, Does, client_behind, end_asked, then_ends, link_asked, then_calls, news_pushed, opened_pushed, closed_pushed, event_pushed, sent_pushed, step_pushed, pushed_with, pushed_from}
use Rattle.cause_laws.specs.host_laws.proofs.Pushing.{all_pushed}
use Rattle.cause_laws.proofs.Clients.{is_shelf, Within, within_more, either, asks_within, Came, came_by}
use Rattle.parting_laws.specs.Parting.{is_closed_by_peer}
use Rattle.parting_laws.proofs.Shown.{is_else, opened_else, sdu_else}
use Rattle.parting_laws.proofs.Tidings.{FeedSo}

-- ---- events

-- the peer did not close the channel
abbrev pub IsUnclosed : ChannelEvent → Type 0
IsUnclosed (channels.Opened own psm) = Unit {0}
IsUnclosed (channels.Closed own psm reason) = reason ≡ reasons.PeerClosed → ⊥
IsUnclosed (channels.Features features) = Unit {0}
IsUnclosed channels.FeaturesLost = Unit {0}
IsUnclosed (channels.DisconnectLost own) = Unit {0}

pub lost_unclosed : (own psm : ℕ) → IsUnclosed (channels.Closed own psm reasons.LinkDown)
lost_unclosed own psm = λ is. cc

-- ---- outcomes

abbrev pub is_other : Outcome → Bool
is_other outcome = not (is_closed_by_peer outcome)

shelf_other : (outcome : Outcome) → is_shelf outcome ≡ true → is_other outcome ≡ true
shelf_other ShelfFault is = refl
shelf_other outcome is = cc

close_other : (cause : CloseCause) → (cause ≡ closing.Peer → ⊥) → Within is_other (cause_of_close cause)
close_other closing.Peer apart = absurd (apart refl)
close_other (closing.Refused result) apart = refl
close_other closing.NoAgreement apart = refl
close_other closing.RetryLimit apart = refl
close_other (closing.Broken number) apart = by (eqb number 5)
  where
    by : (test : Bool) → is_other (cond test RetryLimit (PeerFault 2 number)) ≡ true
    by true = refl
    by false = refl
close_other closing.Own apart = tt

closed_other : (psm : ℕ) (cause : CloseCause) (own : Option ℕ) → (cause ≡ closing.Peer → ⊥) → Within is_other (closed_shows psm cause own)
closed_other psm cause None apart = tt
closed_other psm cause (Some own) apart = either is_other (eqb psm own) (cause_of_close cause) None (close_other cause apart) tt

-- ---- a push that is over, or none

abbrev pub is_over : Stage → Bool
is_over Rest = true
is_over Over = true
is_over stage = false

-- where its peer closed it no link is there
abbrev pub IsParted : Client → Type 0
IsParted client = client.cause ≡ Some PeerClosed → is_over client.stage ≡ true

-- ---- a deed

abbrev Keeps : Deed → Type 0
Keeps (Hears (events.ChannelClosed psm cause)) = cause ≡ closing.Peer → ⊥
Keeps deed = Unit {0}

news_over : (news : events.News) (client : Client) (stage : Stage) → client.stage ≡ stage → is_over stage ≡ true → is_over (events.hears_news news client).stage ≡ true
news_over news client stage at over = subst (λ (c : Client). is_over (events.hears_news news c).stage ≡ true) (same client stage at) (by stage over)
  where
    same : (c : Client) (s : Stage) → c.stage ≡ s → record c { stage = s } ≡ c
    same c s is = ap (λ (x : Stage). let d : Client = record c { stage = x } in d) (sym is)

    by : (s : Stage) → is_over s ≡ true → is_over (events.hears_news news (record client { stage = s })).stage ≡ true
    by Rest is = rest news
      where
        rest : (n : events.News) → is_over (events.hears_news n (record client { stage = Rest })).stage ≡ true
        rest events.LinkUp = refl
        rest (events.LinkDown reason) = refl
        rest (events.LinkFailed status) = refl
        rest (events.ChannelOpen psm mtu) = refl
        rest (events.ChannelClosed psm cause) = refl
        rest (events.Sdu psm octets) = refl
        rest events.FeaturesTold = refl
        rest events.FeaturesLost = refl
        rest events.Timer = refl
    by Over is = over_so news
      where
        over_so : (n : events.News) → is_over (events.hears_news n (record client { stage = Over })).stage ≡ true
        over_so events.LinkUp = refl
        over_so (events.LinkDown reason) = refl
        over_so (events.LinkFailed status) = refl
        over_so (events.ChannelOpen psm mtu) = refl
        over_so (events.ChannelClosed psm cause) = refl
        over_so (events.Sdu psm octets) = refl
        over_so events.FeaturesTold = refl
        over_so events.FeaturesLost = refl
        over_so events.Timer = refl
    by (Link point) is = cc
    by (SearchChannel point) is = cc
    by Search is = cc
    by (SearchEnd point) is = cc
    by (Features point) is = cc
    by (ObjectChannel point) is = cc
    by Object is = cc
    by (ObjectEnd point) is = cc
    by (LinkEnd point) is = cc

asks_over : (parts : List Part) (client : Client) → is_over client.stage ≡ true → is_over (steps client parts).client.stage ≡ true
asks_over parts client over = failed client.failed
  where
    told : (cause : Option Outcome) (c : Client) → is_over c.stage ≡ true → is_over (tells_end cause c parts).client.stage ≡ true
    told None c so = so
    told (Some outcome) c so = refl

    at : (stage : Stage) → is_over stage ≡ true → is_over (steps_at stage client parts).client.stage ≡ true
    at Rest is = over
    at Over is = told client.cause client over
    at (Link point) is = cc
    at (SearchChannel point) is = cc
    at Search is = cc
    at (SearchEnd point) is = cc
    at (Features point) is = cc
    at (ObjectChannel point) is = cc
    at Object is = cc
    at (ObjectEnd point) is = cc
    at (LinkEnd point) is = cc

    given : (b : Bool) → is_over (cond b (rests client parts) (steps_at client.stage client parts)).client.stage ≡ true
    given true = over
    given false = at client.stage over

    failed : (b : Bool) → (let one : Stepped = if b then record { client = client; step = NoMemory; left = parts } else if client.given then rests client parts else steps_at client.stage client parts in is_over one.client.stage ≡ true)
    failed true = over
    failed false = given client.given

at_once_over : (stage : Stage) → is_over stage ≡ true → is_over (at_once stage) ≡ true
at_once_over Rest is = refl
at_once_over Over is = refl
at_once_over (Link point) is = cc
at_once_over (SearchChannel point) is = cc
at_once_over Search is = cc
at_once_over (SearchEnd point) is = cc
at_once_over (Features point) is = cc
at_once_over (ObjectChannel point) is = cc
at_once_over Object is = cc
at_once_over (ObjectEnd point) is = cc
at_once_over (LinkEnd point) is = cc

in_order_over : (stage : Stage) → is_over stage ≡ true → is_over (in_order stage) ≡ true
in_order_over Rest is = refl
in_order_over Over is = refl
in_order_over (Link point) is = cc
in_order_over (SearchChannel point) is = cc
in_order_over Search is = cc
in_order_over (SearchEnd point) is = cc
in_order_over (Features point) is = cc
in_order_over (ObjectChannel point) is = cc
in_order_over Object is = cc
in_order_over (ObjectEnd point) is = cc
in_order_over (LinkEnd point) is = cc

cancels_over : (client : Client) → is_over client.stage ≡ true → is_over (cancelled client).stage ≡ true
cancels_over client over = by (may_cancel client)
  where
    ended_over : (cause : Option Outcome) → is_over (ends_by cause PushCancelled client).stage ≡ true
    ended_over None = in_order_over client.stage over
    ended_over (Some earlier) = at_once_over client.stage over

    by : (may : Bool) → is_over (cond may (ends PushCancelled client) client).stage ≡ true
    by true = ended_over client.cause
    by false = over

deed_over : (deed : Deed) (client : Client) → is_over client.stage ≡ true → is_over (done deed client).stage ≡ true
deed_over (Hears news) client over = news_over news client client.stage refl over
deed_over (Asks parts) client over = asks_over parts client over
deed_over Finishes client over = over
deed_over Cancels client over = cancels_over client over

-- with a cause it stays so
later : (deed : Deed) (client : Client) (outcome : Outcome) → client.cause ≡ Some outcome → IsParted client → IsParted (done deed client)
later deed client outcome is parted peer =
    let stays = first_causes_stay (deed ∷ []) client outcome is in
    let same : Some outcome ≡ Some PeerClosed = sym stays ∙ peer in
    deed_over deed client (parted (is ∙ same))

never_peer : {X : Type 0} (found : Option Outcome) → Within is_other found → found ≡ Some PeerClosed → X
never_peer None within is = cc
never_peer (Some outcome) within is = let now : is_other PeerClosed ≡ true = subst (Within is_other) is within in absurd (let never : false ≡ true = now in cc)

-- and without one it comes to another, but by the end of its link
comes : (deed : Deed) (client : Client) → client.cause ≡ None → Within is_other (shows deed client) → IsParted (done deed client)
comes deed client none within peer =
    never_peer (done deed client).cause (subst (λ (c : Option Outcome). Came is_other c (done deed client).cause) none (came_by is_other deed client within)) peer

parts_link : (reason : ℕ) (client : Client) → IsParted client → IsParted (done (Hears (events.LinkDown reason)) client)
parts_link reason client parted = by (is_linked client.stage)
  where
    gone : (cause : Option Outcome) → is_over (over_by cause (cause_of_link reason) client).stage ≡ true
    gone None = refl
    gone (Some earlier) = refl

    by : (linked : Bool) → IsParted (cond linked (events.over (cause_of_link reason) client) client)
    by true peer = gone client.cause
    by false peer = parted peer

-- ---- what it hears

else_other : (outcome : Outcome) → is_else outcome ≡ true → is_other outcome ≡ true
else_other PeerClosed is = cc
else_other outcome is = refl

deed_parted : (deed : Deed) (client : Client) → Keeps deed → IsParted client → IsParted (done deed client)
deed_parted deed client keeps parted = by client.cause refl deed keeps
  where
    fresh : (one : Deed) → Keeps one → client.cause ≡ None → IsParted (done one client)
    fresh (Hears (events.LinkDown reason)) so none = parts_link reason client parted
    fresh (Hears events.LinkUp) so none = comes (Hears events.LinkUp) client none tt
    fresh (Hears (events.LinkFailed status)) so none = comes (Hears (events.LinkFailed status)) client none (either is_other (is_paging client.stage) (Some (cause_of_page status)) None refl tt)
    fresh (Hears (events.ChannelOpen psm mtu)) so none = comes (Hears (events.ChannelOpen psm mtu)) client none (within_more is_else is_other else_other (opened_shows client.stage psm mtu client) (opened_else client.stage psm mtu client))
    fresh (Hears (events.ChannelClosed psm cause)) so none = comes (Hears (events.ChannelClosed psm cause)) client none (closed_other psm cause (watched client.stage client) so)
    fresh (Hears (events.Sdu psm sdu)) so none = comes (Hears (events.Sdu psm sdu)) client none (within_more is_else is_other else_other (sdu_shows client.stage psm sdu client) (sdu_else client.stage psm sdu client))
    fresh (Hears events.FeaturesTold) so none = comes (Hears events.FeaturesTold) client none tt
    fresh (Hears events.FeaturesLost) so none = comes (Hears events.FeaturesLost) client none (either is_other (events.is_asking_features client.stage) (Some RetryLimit) None refl tt)
    fresh (Hears events.Timer) so none = comes (Hears events.Timer) client none (either is_other ((events.armed client && not (client.given || is_due client.query)) && (eqb client.left 0)) (Some RetryLimit) None refl tt)
    fresh (Asks parts) so none = comes (Asks parts) client none (within_more is_shelf is_other shelf_other (shows (Asks parts) client) (asks_within parts client))
    fresh Finishes so none = comes Finishes client none tt
    fresh Cancels so none = comes Cancels client none (either is_other (may_cancel client) (Some PushCancelled) None refl tt)

    by : (cause : Option Outcome) → client.cause ≡ cause → (one : Deed) → Keeps one → IsParted (done one client)
    by None is one so = fresh one so is
    by (Some outcome) is one so = later one client outcome is parted

-- ---- all that its profile goes through

begins_parted : (size : Result ℕ PortFault) (name : List ℕ) (client : Client) → IsParted client → IsParted (begins size name client)
begins_parted size name client parted = by client.failed size
  where
    by : (failed : Bool) (size : Result ℕ PortFault) → IsParted (cond failed client (begun_by size name client))
    by true size = parted
    by false (Ok count) = λ peer. cc
    by false (Err fault.Failed) = λ peer. cc
    by false (Err fault.NoMemory) = parted

abbrev KeepsSo : Affair → Type 0
KeepsSo (Begins size name) = Unit {0}
KeepsSo (Does deed) = Keeps deed

affairs_parted : (affairs : List Affair) (client : Client) → AllByRecursion KeepsSo affairs → IsParted client → IsParted (client_behind affairs client)
affairs_parted [] client all parted = parted
affairs_parted (Begins size name ∷ affairs) client all parted = affairs_parted affairs (begins size name client) all.1 (begins_parted size name client parted)
affairs_parted (Does deed ∷ affairs) client all parted = affairs_parted affairs (done deed client) all.1 (deed_parted deed client all.0 parted)

all_both : (xs ys : List Affair) → AllByRecursion KeepsSo xs → AllByRecursion KeepsSo ys → AllByRecursion KeepsSo (xs ++ ys)
all_both [] ys one two = two
all_both (x ∷ xs) ys one two = (one.0, all_both xs ys one.1 two)

end_keeps : (step : Step) → AllByRecursion KeepsSo (end_asked step)
end_keeps Wait = tt
end_keeps MakeLink = tt
end_keeps AskFeatures = tt
end_keeps (OpenChannel psm) = tt
end_keeps (SendSdu psm payload) = tt
end_keeps (CloseChannel psm) = tt
end_keeps BreakLink = tt
end_keeps (Ended outcome) = (tt, tt)
end_keeps NoMemory = tt

link_keeps : (step : Step) → AllByRecursion KeepsSo (link_asked step)
link_keeps Wait = tt
link_keeps MakeLink = (tt, (tt, tt))
link_keeps AskFeatures = tt
link_keeps (OpenChannel psm) = tt
link_keeps (SendSdu psm payload) = tt
link_keeps (CloseChannel psm) = tt
link_keeps BreakLink = tt
link_keeps (Ended outcome) = tt
link_keeps NoMemory = tt

step_keeps : (step : Step) (parts : List Part) → AllByRecursion KeepsSo (step_pushed step parts)
step_keeps Wait parts = (tt, tt)
step_keeps MakeLink parts = tt
step_keeps AskFeatures parts = (tt, (tt, tt))
step_keeps (OpenChannel psm) parts = (tt, (tt, tt))
step_keeps (SendSdu psm payload) parts = (tt, tt)
step_keeps (CloseChannel psm) parts = (tt, (tt, tt))
step_keeps BreakLink parts = (tt, (tt, tt))
step_keeps (Ended outcome) parts = (tt, tt)
step_keeps NoMemory parts = (tt, tt)

news_keep : (circumstances : List Circumstance) (news : News) (client : Client) → AllByRecursion KeepsSo (news_pushed circumstances news client)
news_keep circumstances (Linked Up) client = (tt, tt)
news_keep circumstances (Linked (Down reason)) client = (tt, end_keeps (steps (events.hears_news (events.LinkDown reason) client) []).step)
news_keep circumstances (Failed status) client = (tt, end_keeps (steps (events.hears_news (events.LinkFailed status) client) []).step)
news_keep circumstances (Heard pdu) client = tt
news_keep circumstances TimerFired client = (tt, tt)
news_keep circumstances Cancelled client = (tt, end_keeps (steps (cancelled client) []).step)
news_keep circumstances (Opening name) client =
    let begun : Client = begins (size_for circumstances name) (name_for name) client in
    (tt, all_both (then_ends begun) (then_calls (ended begun)) (end_keeps (steps begun []).step) (link_keeps (steps (ended begun) []).step))

reason_keeps : (psm : ℕ) (reason : CloseReason) → (reason ≡ reasons.PeerClosed → ⊥) → AllByRecursion KeepsSo (closed_pushed (cause_of reason) psm)
reason_keeps psm reasons.PeerClosed apart = absurd (apart refl)
reason_keeps psm (reasons.Refused result) apart = (λ e. cc, tt)
reason_keeps psm reasons.NoAgreement apart = (λ e. cc, tt)
reason_keeps psm reasons.RetryLimit apart = (λ e. cc, tt)
reason_keeps psm (reasons.Ertm reason) apart = (λ e. cc, tt)
reason_keeps psm reasons.LinkDown apart = tt
reason_keeps psm reasons.OwnClosed apart = (λ e. cc, tt)

opened_keeps : (mtu : Option ℕ) (psm : ℕ) → AllByRecursion KeepsSo (opened_pushed mtu psm)
opened_keeps None psm = tt
opened_keeps (Some mtu) psm = (tt, tt)

event_keeps : (event : ChannelEvent) (v : Channels) → IsUnclosed event → AllByRecursion KeepsSo (event_pushed event v)
event_keeps (channels.Opened own psm) v so = opened_keeps (peer_mtu own v) psm
event_keeps (channels.Closed own psm reason) v so = reason_keeps psm reason so
event_keeps (channels.Features features) v so = (tt, tt)
event_keeps channels.FeaturesLost v so = (tt, tt)
event_keeps (channels.DisconnectLost own) v so = tt

sent_keeps : (submitted : Option ℕ) (v : Channels) → AllByRecursion KeepsSo (sent_pushed submitted v)
sent_keeps None v = tt
sent_keeps (Some own) v = by (waits own v)
  where
    by : (waiting : Bool) → AllByRecursion KeepsSo (if waiting then [] else Does Finishes ∷ [])
    by true = tt
    by false = (tt, tt)

feed_keeps : (feed : Feed) (p : ClientProfile) → FeedSo IsUnclosed lost_unclosed feed → AllByRecursion KeepsSo (pushed_with p feed)
feed_keeps (Gifts circumstances) p so = tt
feed_keeps (Learns circumstances news) p so = news_keep circumstances news p.client
feed_keeps (Receives own psm sdu) p so = (tt, tt)
feed_keeps (Happens event v) p so = event_keeps event v so
feed_keeps (Sent v) p so = sent_keeps p.submitted v
feed_keeps (Steps v) p so = step_keeps (steps p.client (fitted p)).step (fitted p)

module _ (settings : Settings) where
  feeds_keep : (feeds : List Feed) (p : ClientProfile) → AllByRecursion (FeedSo IsUnclosed lost_unclosed) feeds → AllByRecursion KeepsSo (pushed_from settings p feeds)
  feeds_keep [] p all = tt
  feeds_keep (feed ∷ feeds) p all = let q = fed (client_profile settings) p feed in all_both (pushed_with p feed) (pushed_from settings q feeds) (feed_keeps feed p all.0) (feeds_keep feeds q all.1)

  pub parts_by_link : (feeds : List Feed) (p : ClientProfile) → AllByRecursion (FeedSo IsUnclosed lost_unclosed) feeds → IsParted p.client → IsParted (all_fed (client_profile settings) p feeds).client
  parts_by_link feeds p all parted = subst IsParted (sym (all_pushed settings feeds p)) (affairs_parted (pushed_from settings p feeds) p.client (feeds_keep feeds p all) parted)
