-- Away from a link no client comes to an outcome that only an SDU brings.
use Rattle.std.proofs.Common.{◌≡◌, ◌==◌, Bool, true, false, ℕ, List, [], ◌∷◌, Option, Some, None, Result, Ok, Err, refl, sym, ap, subst, ◌∙◌, if◌then◌else◌}
use Rattle.std.specs.List.{AllByRecursion}
use Rattle.std.proofs.lemmas.List.Sums.{fold-append}
use Rattle.cause_laws.proofs.Clients.{never, is_unsaid, any_unsaid, Within, more_shown, either, up_shown, opens_shown, closes_shown, told_shown, lost_shown, timer_shown, asks_shown, Came, came_by}
use Rattle.cause_laws.proofs.Lacking.{link_unsaid}
use Rattle.tape_laws.specs.bt_base.specs.declared.ports.PortFault.{PortFault}
use Rattle.tape_laws.specs.bt_base.specs.declared.ports.PortFault.TheVariants as faults
use Rattle.tape_laws.specs.bt_base.specs.declared.settings.Settings.{Settings}
use Rattle.tape_laws.specs.push_terms.specs.declared.outcome.Outcome.{Outcome}
use Rattle.tape_laws.specs.push_terms.specs.declared.outcome.Outcome.TheVariants as outcomes
use Rattle.tape_laws.specs.push_terms.specs.declared.outcome.Outcome.TheVariants.{Done, ShelfFault}
use Rattle.tape_laws.specs.push_model.specs.Causes.{cause_of_link, cause_of_page}
use Rattle.tape_laws.specs.push_model.specs.Client.{Client, begins, begun_by, may_cancel}
use Rattle.tape_laws.specs.push_model.specs.Events as events
use Rattle.tape_laws.specs.push_model.specs.Events.{is_linked, is_paging}
use Rattle.tape_laws.specs.push_model.specs.Laws as deeds
use Rattle.tape_laws.specs.push_model.specs.Laws.{Deed, Hears, Asks, Finishes, Cancels}
use Rattle.tape_laws.specs.push_model.specs.Shown.{shows}
use Rattle.tape_laws.specs.push_model.specs.Steps.{Step, Wait, MakeLink, AskFeatures, OpenChannel, SendSdu, CloseChannel, BreakLink, Ended, NoMemory, steps}
use Rattle.tape_laws.specs.world_model.specs.Machines.{LinkEvent, Up, Down, Linked, Failed, Heard, TimerFired, Cancelled, Opening}
use Rattle.tape_laws.specs.host_laws.specs.channel_model.specs.declared.event.ChannelEvent.{ChannelEvent}
use Rattle.tape_laws.specs.host_laws.specs.channel_model.specs.Calls.{link_down}
use Rattle.tape_laws.specs.host_laws.specs.channel_model.specs.Value.{Channels, no_channels}
use Rattle.tape_laws.specs.host_laws.specs.channel_laws.specs.Runs as channels
use Rattle.tape_laws.specs.host_model.specs.Circumstances.{Circumstance}
use Rattle.tape_laws.specs.host_model.specs.Clients.{ClientProfile, ended, client_profile}
use Rattle.tape_laws.specs.host_model.specs.Profiles.{Profile}
use Rattle.tape_laws.specs.host_model.specs.Shelves.{size_for, name_for}
use Rattle.tape_laws.specs.host_laws.specs.Calls.{Asks as Asking}
use Rattle.tape_laws.specs.host_laws.specs.Fed.{WovenFed, happenings, turned_feeds}
use Rattle.tape_laws.specs.host_laws.specs.Feeds.{Feed, Gifts, Learns, Receives, Happens, Sent, Steps, fed, all_fed}
use Rattle.tape_laws.specs.host_laws.specs.Pushing.{Affair, Begins, Does, client_after, client_behind, link_asked, then_ends, then_calls, pushed_with, pushed_from}
use Rattle.tape_laws.specs.host_laws.specs.Woven.{turned}
use Rattle.tape_laws.specs.host_laws.proofs.Draining.{each_fed}
use Rattle.tape_laws.specs.host_laws.proofs.Pushing.{all_pushed}
use Rattle.tape_laws.specs.host_laws.proofs.StrandsFed.{woven_so}
use Rattle.tape_laws.specs.request_laws.proofs.Feeding.{all_both, Holds, FeedSo, end_so, feed_so, all_so}
use Rattle.tape_laws.specs.request_laws.proofs.Opening.{IsBetween, fed_between}
use Rattle.tape_laws.specs.request_laws.proofs.Timely.{HearsNothing}
use Rattle.done_laws.proofs.Names.{deed_named}

-- it came to that outcome, and pushed the object of that name
abbrev pub CameTo : Outcome → List ℕ → Client → Type 0
CameTo outcome name client = (client.cause ≡ Some outcome) × (client.name ≡ name)

abbrev pub HasDone : Client → Type 0
HasDone client = client.cause ≡ Some Done

-- ---- one thing

-- no SDU comes
abbrev pub IsOff : Affair → Type 0
IsOff (Begins size name) = Unit {0}
IsOff (Does (Hears (events.Sdu psm octets))) = ⊥
IsOff (Does deed) = Unit {0}

-- it shows no outcome that only an SDU brings
pub off_shown : (deed : Deed) → IsOff (Does deed) → (client : Client) → Within is_unsaid (shows deed client)
off_shown (Hears (events.Sdu psm octets)) off client = absurd off
off_shown (Hears events.LinkUp) off client = more_shown is_unsaid any_unsaid (Hears events.LinkUp) up_shown client
off_shown (Hears (events.LinkDown reason)) off client = either is_unsaid (is_linked client.stage) (Some (cause_of_link reason)) None (link_unsaid (reason == 0x13)) tt
off_shown (Hears (events.LinkFailed status)) off client = either is_unsaid (is_paging client.stage) (Some (cause_of_page status)) None refl tt
off_shown (Hears (events.ChannelOpen psm mtu)) off client = more_shown is_unsaid any_unsaid (Hears (events.ChannelOpen psm mtu)) (opens_shown psm mtu) client
off_shown (Hears (events.ChannelClosed psm cause)) off client = more_shown is_unsaid any_unsaid (Hears (events.ChannelClosed psm cause)) (closes_shown psm cause) client
off_shown (Hears events.FeaturesTold) off client = more_shown is_unsaid any_unsaid (Hears events.FeaturesTold) told_shown client
off_shown (Hears events.FeaturesLost) off client = more_shown is_unsaid any_unsaid (Hears events.FeaturesLost) lost_shown client
off_shown (Hears events.Timer) off client = more_shown is_unsaid any_unsaid (Hears events.Timer) timer_shown client
off_shown (Asks parts) off client = more_shown is_unsaid any_unsaid (Asks parts) (asks_shown parts) client
off_shown Finishes off client = tt
off_shown Cancels off client = either is_unsaid (may_cancel client) (Some outcomes.Cancelled) None refl tt

module _ (outcome : Outcome) (said : is_unsaid outcome ≡ false) (pushed : List ℕ) where
  none_so : {X : Type 0} → None ≡ Some outcome → X
  none_so e = absurd cc

  fault_so : {X : Type 0} → Some ShelfFault ≡ Some outcome → X
  fault_so e = let same : ShelfFault ≡ outcome = cc in never (sym said ∙ sym (ap is_unsaid same))

  begun_off : (size : Result ℕ PortFault) (name : List ℕ) (client : Client) → CameTo outcome pushed (begun_by size name client) → CameTo outcome pushed client
  begun_off (Ok size) name client d = none_so d.0
  begun_off (Err faults.Failed) name client d = fault_so d.0
  begun_off (Err faults.NoMemory) name client d = d

  begins_off : (failed : Bool) (size : Result ℕ PortFault) (name : List ℕ) (client : Client) → CameTo outcome pushed (if failed then client else begun_by size name client) → CameTo outcome pushed client
  begins_off true size name client d = d
  begins_off false size name client d = begun_off size name client d

  deed_off : (deed : Deed) (client : Client) → IsOff (Does deed) → (deeds.done deed client).cause ≡ Some outcome → client.cause ≡ Some outcome
  deed_off deed client off d = by client.cause refl (came_by is_unsaid deed client (off_shown deed off client))
    where
      by : (cause : Option Outcome) → client.cause ≡ cause → Came is_unsaid cause (deeds.done deed client).cause → client.cause ≡ Some outcome
      by None is came = let unsaid : Within is_unsaid (Some outcome) = subst (Within is_unsaid) d came in never (sym said ∙ unsaid)
      by (Some earlier) is came = is ∙ (sym came ∙ d)

  all_off : (affairs : List Affair) (client : Client) → AllByRecursion IsOff affairs → CameTo outcome pushed (client_behind affairs client) → CameTo outcome pushed client
  all_off [] client off d = d
  all_off (Begins size name ∷ affairs) client off d = begins_off client.failed size name client (all_off affairs (client_after (Begins size name) client) off.1 d)
  all_off (Does deed ∷ affairs) client off d = let later = all_off affairs (deeds.done deed client) off.1 d in (deed_off deed client off.0 later.0, sym (deed_named deed client) ∙ later.1)

-- ---- what a profile goes through between two links, and as one comes up or goes down

off_holds : Holds IsOff
off_holds = record { asks = λ parts. tt; finishes = tt; cancels = tt; down = λ reason. tt; failed = λ status. tt; opened = λ psm mtu. tt; closed = λ psm cause. tt; told = tt; lost = tt; timer = tt }

links_off : (step : Step) → AllByRecursion IsOff (link_asked step)
links_off Wait = tt
links_off MakeLink = (tt, (tt, tt))
links_off AskFeatures = tt
links_off (OpenChannel psm) = tt
links_off (SendSdu psm payload) = tt
links_off (CloseChannel psm) = tt
links_off BreakLink = tt
links_off (Ended outcome) = tt
links_off NoMemory = tt

feed_off : (feed : Feed) (p : ClientProfile) → IsBetween feed → AllByRecursion IsOff (pushed_with p feed)
feed_off (Gifts circumstances) p so = tt
feed_off (Learns circumstances (Linked event)) p so = absurd so
feed_off (Learns circumstances (Failed status)) p so = feed_so IsOff off_holds p (Learns circumstances (Failed status)) tt
feed_off (Learns circumstances (Heard pdu)) p so = tt
feed_off (Learns circumstances TimerFired) p so = feed_so IsOff off_holds p (Learns circumstances TimerFired) tt
feed_off (Learns circumstances Cancelled) p so = feed_so IsOff off_holds p (Learns circumstances Cancelled) tt
feed_off (Learns circumstances (Opening name)) p so =
    let begun : Client = begins (size_for circumstances name) (name_for name) p.client in
    (tt, all_both IsOff (then_ends begun) (then_calls (ended begun)) (end_so IsOff off_holds (steps begun []).step) (links_off (steps (ended begun) []).step))
feed_off (Receives own psm sdu) p so = absurd so
feed_off (Happens event v) p so = feed_so IsOff off_holds p (Happens event v) tt
feed_off (Sent v) p so = feed_so IsOff off_holds p (Sent v) tt
feed_off (Steps v) p so = feed_so IsOff off_holds p (Steps v) tt

module _ (outcome : Outcome) (said : is_unsaid outcome ≡ false) (pushed : List ℕ) (settings : Settings) where
  abbrev A : Profile ClientProfile
  A = client_profile settings

  feeds_off : (feeds : List Feed) (p : ClientProfile) → AllByRecursion IsBetween feeds → AllByRecursion IsOff (pushed_from settings p feeds)
  feeds_off [] p so = tt
  feeds_off (feed ∷ feeds) p so = let q = fed A p feed in all_both IsOff (pushed_with p feed) (pushed_from settings q feeds) (feed_off feed p so.0) (feeds_off feeds q so.1)

  pub between_off : (asks : Asking (client_profile settings)) (list : List channels.Occurrence) (feeds : List Feed) (first last : ClientProfile) → WovenFed (client_profile settings) asks list feeds first last → AllByRecursion HearsNothing list → CameTo outcome pushed last.client → CameTo outcome pushed first.client
  between_off asks list feeds first last so deaf d =
      let last_is : all_fed A first feeds ≡ last = ap (all_fed A first) so.feeds_are ∙ (woven_so A asks so.woven.weave no_channels first ∙ sym so.woven.last_is) in
      let now : last.client ≡ client_behind (pushed_from settings first feeds) first.client = ap (λ (p : ClientProfile). p.client) (sym last_is) ∙ all_pushed settings feeds first in
      all_off outcome said pushed (pushed_from settings first feeds) first.client (feeds_off feeds first (fed_between settings asks list feeds first last so deaf)) (subst (CameTo outcome pushed) now d)

  happenings_off : (v : Channels) (found : List ChannelEvent) → AllByRecursion (FeedSo IsOff) (happenings v found)
  happenings_off v [] = tt
  happenings_off v (event ∷ found) = let now : Channels = record v { events = found } in (tt, happenings_off now found)

  link_off : (circumstances : List Circumstance) (event : LinkEvent) (v : Channels) → AllByRecursion (FeedSo IsOff) (turned_feeds circumstances event v)
  link_off circumstances Up v = (tt, tt)
  link_off circumstances (Down reason) v = let w = link_down v in all_both (FeedSo IsOff) (happenings w w.events) (Learns circumstances (Linked (Down reason)) ∷ []) (happenings_off w w.events) (tt, tt)

  turns : (circumstances : List Circumstance) (event : LinkEvent) (v : Channels) (p : ClientProfile) → all_fed A p (turned_feeds circumstances event v) ≡ turned A circumstances event v p
  turns circumstances Up v p = refl
  turns circumstances (Down reason) v p =
      let w = link_down v in fold-append (fed A) p (happenings w w.events) (Learns circumstances (Linked (Down reason)) ∷ []) ∙ ap (A.told circumstances (Linked (Down reason))) (sym (each_fed A w w.events p))

  pub turned_off : (circumstances : List Circumstance) (event : LinkEvent) (v : Channels) (p : ClientProfile) → CameTo outcome pushed (turned (client_profile settings) circumstances event v p).client → CameTo outcome pushed p.client
  turned_off circumstances event v p d =
      let feeds = turned_feeds circumstances event v in
      let now : (turned A circumstances event v p).client ≡ client_behind (pushed_from settings p feeds) p.client = ap (λ (q : ClientProfile). q.client) (sym (turns circumstances event v p)) ∙ all_pushed settings feeds p in
      all_off outcome said pushed (pushed_from settings p feeds) p.client (all_so IsOff off_holds settings feeds p (link_off circumstances event v)) (subst (CameTo outcome pushed) now d)
