-- A client whose push is on its link stays on it while that is up, and asks for no other one (Object Push Profile 1.2, 4.3).
use Rattle.std.specs.Prelude.{◌≡◌, true, false, List}
use Rattle.std.specs.List.{AllByRecursion}
use Rattle.shelf_model.specs.bt_base.specs.declared.settings.Settings.{Settings}
use Rattle.push_laws.specs.push_model.specs.declared.course.Point.TheVariants.{Due, Asked}
use Rattle.push_laws.specs.push_model.specs.declared.course.Stage.{Stage}
use Rattle.push_laws.specs.push_model.specs.declared.course.Stage.TheVariants.{Rest, Link, SearchChannel, Search, SearchEnd, Features, ObjectChannel, Object, ObjectEnd, LinkEnd, Over}
use Rattle.push_laws.specs.push_model.specs.Events.{is_linked}
use Rattle.shelf_model.specs.world_model.specs.Machines.{News, Linked, Failed, Heard, TimerFired, Cancelled, Opening}
use Rattle.shelf_model.specs.host_model.specs.Clients.{Bid, is_paging, ClientProfile, client_profile}
use Rattle.host_laws.specs.Feeds.{Feed, Gifts, Learns, Receives, Happens, Sent, Steps, all_fed}

-- What it asks of its line is as its push stands: that a link be made where its push waits for one alone.
abbrev pub Befits : Stage → Bid → Type 0
Befits (Link Asked) bid = Unit {0}
Befits Rest bid = is_paging bid ≡ false
Befits (Link Due) bid = is_paging bid ≡ false
Befits (SearchChannel point) bid = is_paging bid ≡ false
Befits Search bid = is_paging bid ≡ false
Befits (SearchEnd point) bid = is_paging bid ≡ false
Befits (Features point) bid = is_paging bid ≡ false
Befits (ObjectChannel point) bid = is_paging bid ≡ false
Befits Object bid = is_paging bid ≡ false
Befits (ObjectEnd point) bid = is_paging bid ≡ false
Befits (LinkEnd point) bid = is_paging bid ≡ false
Befits Over bid = is_paging bid ≡ false

-- it asks for what suits it, and is on its link
pub record IsOnward (pushing : ClientProfile) : Type 0 where
  pub suits : Befits pushing.client.stage pushing.bid
  pub linked : is_linked pushing.client.stage ≡ true

-- it hears neither of its link nor that a push begins
abbrev pub IsOfPush : News → Type 0
IsOfPush (Linked event) = ⊥
IsOfPush (Failed status) = ⊥
IsOfPush (Heard pdu) = Unit {0}
IsOfPush TimerFired = Unit {0}
IsOfPush Cancelled = Unit {0}
IsOfPush (Opening name) = ⊥

abbrev pub IsFeedOfPush : Feed → Type 0
IsFeedOfPush (Gifts circumstances) = Unit {0}
IsFeedOfPush (Learns circumstances news) = IsOfPush news
IsFeedOfPush (Receives own psm sdu) = Unit {0}
IsFeedOfPush (Happens event channels) = Unit {0}
IsFeedOfPush (Sent channels) = Unit {0}
IsFeedOfPush (Steps channels) = Unit {0}

-- Whatever else it goes through, it is so still.
abbrev pub ClientsGoOnward : Type 0
ClientsGoOnward = (settings : Settings) (feeds : List Feed) (pushing : ClientProfile) → AllByRecursion IsFeedOfPush feeds → IsOnward pushing → IsOnward (all_fed (client_profile settings) pushing feeds)
