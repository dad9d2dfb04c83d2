-- Which outcomes come of what a host is told but of a PDU, of its link and of its timer.
use Rattle.std.proofs.Common.{◌≡◌, ℕ, suc, Bool, true, false, ◌==◌, List, [], ◌∷◌, Option, Some, None, refl, ap, subst, ◌&&◌}
use Rattle.std.specs.List.{AllByRecursion}
use Rattle.std.proofs.lemmas.Bool.{eq-eqb}
use Rattle.cause_laws.specs.bt_base.specs.declared.settings.Settings.{Settings}
use Rattle.cause_laws.specs.push_terms.specs.declared.outcome.Outcome.{Outcome}
use Rattle.cause_laws.specs.push_terms.specs.declared.outcome.Outcome.TheVariants.{ShelfFault, PeerFault, Cancelled as PushCancelled}
use Rattle.unit_laws.specs.scenario_laws.specs.l2cap_signal.specs.Commands.{Command, echo_request}
use Rattle.cause_laws.specs.channel_model.specs.Giving.{Given, Signal}
use Rattle.cause_laws.specs.channel_model.specs.Value.{Channels, Answer}
use Rattle.cause_laws.specs.push_model.specs.Causes.{cause_of_page}
use Rattle.cause_laws.specs.push_model.specs.Client.{cancelled, may_cancel}
use Rattle.cause_laws.specs.push_model.specs.Events as events
use Rattle.cause_laws.specs.push_model.specs.Events.{is_paging}
use Rattle.cause_laws.specs.push_model.specs.Laws.{Hears, Cancels}
use Rattle.cause_laws.specs.push_model.specs.Steps.{Step, Wait, MakeLink, AskFeatures, OpenChannel, SendSdu, CloseChannel, BreakLink, Ended, NoMemory, steps}
use Rattle.cause_laws.specs.world_model.specs.Machines.{Failed, Cancelled}
use Rattle.cause_laws.specs.host_model.specs.Circumstances.{Circumstance}
use Rattle.cause_laws.specs.host_model.specs.Clients.{ClientProfile, client_profile}
use Rattle.cause_laws.specs.host_model.specs.Hosts.{Host, most_said, most_steps, hears_news as host_hears, ready, hear, next, with_channels, drives, says, after_said, steps_behind}
use Rattle.cause_laws.specs.host_model.specs.Pdus.{pdu_of}
use Rattle.cause_laws.specs.host_model.specs.Profiles.{Profile}
use Rattle.cause_laws.specs.host_laws.specs.Feeds.{Learns}
use Rattle.cause_laws.specs.host_laws.specs.Pushing.{end_asked}
use Rattle.cause_laws.proofs.Clients.{is_shelf, either, Within, within_more, ShowsWithin, asks_within, Came, came_same, came_then, came_more, IsWithin}
use Rattle.cause_laws.proofs.Driving.{next_shelf}
use Rattle.cause_laws.proofs.Profiles.{came_fed}

-- of a link that was not made, with this status
abbrev pub is_failed : ℕ → Outcome → Bool
is_failed status ShelfFault = true
is_failed status (PeerFault layer reason) = (layer == 1) && (status == reason)
is_failed status outcome = false

-- of a push that is cancelled
abbrev pub is_cancelled : Outcome → Bool
is_cancelled ShelfFault = true
is_cancelled PushCancelled = true
is_cancelled outcome = false

shelf_failed : (status : ℕ) (outcome : Outcome) → is_shelf outcome ≡ true → is_failed status outcome ≡ true
shelf_failed status ShelfFault is = refl
shelf_failed status outcome is = cc

shelf_cancelled : (outcome : Outcome) → is_shelf outcome ≡ true → is_cancelled outcome ≡ true
shelf_cancelled ShelfFault is = refl
shelf_cancelled outcome is = cc

-- ---- what it does by itself

-- a command that a host says, behind which it does as it does behind anything else that it says
abbrev any_command : Command
any_command = record { identifier = 1; content = echo_request [] }

module _ (settings : Settings) where
  abbrev C : Profile ClientProfile
  C = client_profile settings

  -- as behind a PDU: only the shelf's fault comes of it
  driven_shelf : (host : Host ClientProfile) (count : ℕ) → host.may_say ≡ suc count → steps_behind count ≡ most_steps → host.channels.events ≡ [] → Came is_shelf host.profile.client.cause (drives (client_profile settings) most_steps host).profile.client.cause
  driven_shelf host count may many none =
      let waiting : Channels = record (host.channels) { queue = Answer any_command ∷ host.channels.queue } in
      let before : Host ClientProfile = with_channels waiting host in
      let given : Given = Signal any_command in
      let said : next C before ≡ Some (pdu_of given, after_said C count before) = ap (λ (n : ℕ). says C (Some given) n before) may in
      subst (λ (n : ℕ). Came is_shelf host.profile.client.cause (drives C n host).profile.client.cause) many (next_shelf settings before (pdu_of given) (after_said C count before) none said)

  pub hears_so : (q : Outcome → Bool) → ((outcome : Outcome) → is_shelf outcome ≡ true → q outcome ≡ true) → (old : Option Outcome) (host : Host ClientProfile) → host.may_say ≡ most_said → host.channels.events ≡ [] → Came q old host.profile.client.cause
      → Came q old (drives (client_profile settings) most_steps host).profile.client.cause
  hears_so q more old host may none came =
      came_then q old host.profile.client.cause (drives C most_steps host).profile.client.cause came
      (came_more is_shelf q more host.profile.client.cause (drives C most_steps host).profile.client.cause (driven_shelf host 4294967295 may refl none))

-- ---- what it is told

ends_within : (q : Outcome → Bool) → ((outcome : Outcome) → is_shelf outcome ≡ true → q outcome ≡ true) → (step : Step) → AllByRecursion (IsWithin q) (end_asked step)
ends_within q more Wait = tt
ends_within q more MakeLink = tt
ends_within q more AskFeatures = tt
ends_within q more (OpenChannel psm) = tt
ends_within q more (SendSdu psm payload) = tt
ends_within q more (CloseChannel psm) = tt
ends_within q more BreakLink = tt
ends_within q more (Ended outcome) = ((λ client. within_more is_shelf q more _ (asks_within [] client)), tt)
ends_within q more NoMemory = tt

page_within : (status : ℕ) → Within (is_failed status) (Some (cause_of_page status))
page_within status = eq-eqb status status refl

failed_shows : (status : ℕ) → ShowsWithin (is_failed status) (Hears (events.LinkFailed status))
failed_shows status client = either (is_failed status) (is_paging client.stage) (Some (cause_of_page status)) None (page_within status) tt

cancel_shows : ShowsWithin is_cancelled Cancels
cancel_shows client = either is_cancelled (may_cancel client) (Some PushCancelled) None refl tt

pub failed_came : (settings : Settings) (gifts : List Circumstance) (status : ℕ) (host : Host ClientProfile) → host.channels.events ≡ [] → Came (is_failed status) host.profile.client.cause (hear (client_profile settings) gifts (Failed status) host).profile.client.cause
failed_came settings gifts status host none =
    let now = ready (client_profile settings) gifts host in
    let old = host.profile.client.cause in
    let heard = events.hears_news (events.LinkFailed status) now.profile.client in
    hears_so settings (is_failed status) (shelf_failed status) old (host_hears (client_profile settings) gifts (Failed status) now) refl none
    (came_fed settings (is_failed status) old now.profile (Learns gifts (Failed status)) (failed_shows status, ends_within (is_failed status) (shelf_failed status) (steps heard []).step) (came_same (is_failed status) old))

pub cancelled_came : (settings : Settings) (gifts : List Circumstance) (host : Host ClientProfile) → host.channels.events ≡ [] → Came is_cancelled host.profile.client.cause (hear (client_profile settings) gifts Cancelled host).profile.client.cause
cancelled_came settings gifts host none =
    let now = ready (client_profile settings) gifts host in
    let old = host.profile.client.cause in
    hears_so settings is_cancelled shelf_cancelled old (host_hears (client_profile settings) gifts Cancelled now) refl none
    (came_fed settings is_cancelled old now.profile (Learns gifts Cancelled) (cancel_shows, ends_within is_cancelled shelf_cancelled (steps (cancelled now.profile.client) []).step) (came_same is_cancelled old))
