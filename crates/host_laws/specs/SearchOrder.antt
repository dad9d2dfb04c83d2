-- The question for the service of a push is a new one until its channel of service discovery is there, and no request of it waits where that channel
-- is to be closed (Core 5.1, Volume 3 Part B, 4.2).
use Rattle.std.specs.Prelude.{ℕ, ◌≡◌, Bool, true, false, List, Option, Some, None, Result, ◌⊎◌}
use Rattle.std.specs.List.{AllByRecursion}
use Rattle.shelf_model.specs.bt_base.specs.declared.ports.PortFault.{PortFault}
use Rattle.shelf_model.specs.bt_base.specs.declared.settings.Settings.{Settings}
use Rattle.shelf_model.specs.sdp_client.specs.Asking.{Asking, begun}
use Rattle.shelf_model.specs.sdp_client.specs.Views.{is_awaiting}
use Rattle.channel_laws.specs.channel_model.specs.Value.{Channels}
use Rattle.channel_laws.specs.channel_model.specs.Calls.{waits}
use Rattle.channel_laws.specs.channel_model.specs.Giving.{next_given}
use Rattle.push_laws.specs.push_model.specs.declared.course.Point.TheVariants.{Due, Asked}
use Rattle.push_laws.specs.push_model.specs.declared.course.Stage.{Stage}
use Rattle.push_laws.specs.push_model.specs.declared.course.Stage.TheVariants.{Rest, Link, SearchChannel, Search, SearchEnd, Features, ObjectChannel, Object, ObjectEnd, LinkEnd, Over}
use Rattle.push_laws.specs.push_model.specs.Client.{Client, new_client, begins, cancelled}
use Rattle.push_laws.specs.push_model.specs.Events.{News, hears_news}
use Rattle.push_laws.specs.push_model.specs.Steps.{Part, steps}
use Rattle.shelf_model.specs.world_model.specs.Machines as machines
use Rattle.shelf_model.specs.host_model.specs.Circumstances.{Circumstance}
use Rattle.shelf_model.specs.host_model.specs.Hosts.{Host, first_host, hear, next}
use Rattle.shelf_model.specs.host_model.specs.Clients.{ClientProfile, client_profile}
use Rattle.host_laws.specs.Searching.{BeginsSearch}
use Rattle.host_laws.specs.Feeds.{Feed, Gifts, Learns, Receives, Happens, Sent, Steps, all_fed}

abbrev pub AsksInOrder : Stage → Asking → Type 0
AsksInOrder Rest query = Unit {0}
AsksInOrder (Link point) query = query ≡ begun
AsksInOrder (SearchChannel point) query = query ≡ begun
AsksInOrder Search query = Unit {0}
AsksInOrder (SearchEnd Due) query = is_awaiting query ≡ false
AsksInOrder (SearchEnd Asked) query = Unit {0}
AsksInOrder (Features point) query = Unit {0}
AsksInOrder (ObjectChannel point) query = Unit {0}
AsksInOrder Object query = Unit {0}
AsksInOrder (ObjectEnd point) query = Unit {0}
AsksInOrder (LinkEnd point) query = Unit {0}
AsksInOrder Over query = Unit {0}

abbrev pub SearchesInOrder : Client → Type 0
SearchesInOrder client = AsksInOrder client.stage client.query

-- So it is of each client, whatever it hears and does. A push that is cancelled closes its channel with the next step, where it has memory and
-- no step of it is under way.
pub record ClientsSearchInOrder : Type 0 where
  pub first : (settings : Settings) → SearchesInOrder (new_client settings)
  pub begins : (size : Result ℕ PortFault) (name : List ℕ) (client : Client) → SearchesInOrder client → SearchesInOrder (begins size name client)
  pub hears : (news : News) (client : Client) → SearchesInOrder client → SearchesInOrder (hears_news news client)
  pub goes : (client : Client) (parts : List Part) → SearchesInOrder client → SearchesInOrder (steps client parts).client
  pub cancels : (client : Client) (parts : List Part) → client.failed ≡ false → client.given ≡ false → SearchesInOrder client → SearchesInOrder (steps (cancelled client) parts).client

-- ---- its profile

-- its push is not cancelled
abbrev pub IsUncancelled : machines.News → Type 0
IsUncancelled (machines.Linked event) = Unit {0}
IsUncancelled (machines.Failed status) = Unit {0}
IsUncancelled (machines.Heard pdu) = Unit {0}
IsUncancelled machines.TimerFired = Unit {0}
IsUncancelled machines.Cancelled = ⊥
IsUncancelled (machines.Opening name) = Unit {0}

abbrev pub IsUncancelledFeed : Feed → Type 0
IsUncancelledFeed (Gifts circumstances) = Unit {0}
IsUncancelledFeed (Learns circumstances news) = IsUncancelled news
IsUncancelledFeed (Receives own psm sdu) = Unit {0}
IsUncancelledFeed (Happens event channels) = Unit {0}
IsUncancelledFeed (Sent channels) = Unit {0}
IsUncancelledFeed (Steps channels) = Unit {0}

-- Whatever else it goes through, its client searches in order still.
abbrev pub ProfilesSearchInOrder : Type 0
ProfilesSearchInOrder = (settings : Settings) (feeds : List Feed) (pushing : ClientProfile) → AllByRecursion IsUncancelledFeed feeds → SearchesInOrder pushing.client
    → SearchesInOrder (all_fed (client_profile settings) pushing feeds).client

-- ---- a push that is cancelled

-- no step of it is under way, or the SDU of that step waits no longer
abbrev pub IsSent : Option ℕ → Channels → (given : Bool) → Type 0
IsSent None v given = given ≡ false
IsSent (Some own) v given = waits own v ≡ false

-- Where its channels have no PDU, the host of a push that is cancelled in its search closes the channel of that with the same act, where it has
-- memory and its SDU was sent.
abbrev pub CancelsInOrder : Type 0
CancelsInOrder = (settings : Settings) (circumstances : List Circumstance) (host : Host ClientProfile) → next_given host.channels ≡ None
    → (host.profile.client.stage ≡ Search → (host.profile.client.failed ≡ false) × IsSent host.profile.submitted host.channels host.profile.client.given)
    → SearchesInOrder host.profile.client → SearchesInOrder (hear (client_profile settings) circumstances machines.Cancelled host).profile.client

-- ---- its memory

-- no search is under way or to come with the push that is
abbrev pub is_apart : Stage → Bool
is_apart Rest = true
is_apart (Link point) = false
is_apart (SearchChannel point) = false
is_apart Search = false
is_apart (SearchEnd point) = false
is_apart (Features point) = true
is_apart (ObjectChannel point) = true
is_apart Object = true
is_apart (ObjectEnd point) = true
is_apart (LinkEnd point) = true
is_apart Over = true

-- it has memory while it searches
abbrev pub SearchesWithMemory : Client → Type 0
SearchesWithMemory client = (client.failed ≡ false) ⊎ (is_apart client.stage ≡ true)

-- So it is of each client, whatever it hears and does, where a push begins behind the end of the one before.
pub record ClientsSearchWithMemory : Type 0 where
  pub first : (settings : Settings) → SearchesWithMemory (new_client settings)
  pub begins : (size : Result ℕ PortFault) (name : List ℕ) (client : Client) → client.stage ≡ Rest → SearchesWithMemory (begins size name client)
  pub hears : (news : News) (client : Client) → SearchesWithMemory client → SearchesWithMemory (hears_news news client)
  pub goes : (client : Client) (parts : List Part) → SearchesWithMemory client → SearchesWithMemory (steps client parts).client
  pub cancels : (client : Client) → SearchesWithMemory client → SearchesWithMemory (cancelled client)

-- ---- its host

abbrev pub SearchesWell : Host ClientProfile → Type 0
SearchesWell host = SearchesInOrder host.profile.client × SearchesWithMemory host.profile.client

-- A push begins behind the end of the one before, and it is cancelled in its search where its channels have no PDU and its SDU was sent.
abbrev pub Admits : machines.News → Host ClientProfile → Type 0
Admits (machines.Linked event) host = Unit {0}
Admits (machines.Failed status) host = Unit {0}
Admits (machines.Heard pdu) host = Unit {0}
Admits machines.TimerFired host = Unit {0}
Admits machines.Cancelled host = (next_given host.channels ≡ None) × (host.profile.client.stage ≡ Search → IsSent host.profile.submitted host.channels host.profile.client.given)
Admits (machines.Opening name) host = host.profile.client.stage ≡ Rest

-- So each host of a client searches in order, and with memory, in whatever it hears and says.
pub record HostsSearchWell : Type 0 where
  pub first : (settings : Settings) → SearchesWell (first_host (client_profile settings))
  pub hears : (settings : Settings) (circumstances : List Circumstance) (news : machines.News) (host : Host ClientProfile) → Admits news host → SearchesWell host
      → SearchesWell (hear (client_profile settings) circumstances news host)
  pub says : (settings : Settings) (host : Host ClientProfile) (pdu : List ℕ) (after : Host ClientProfile) → next (client_profile settings) host ≡ Some (pdu, after) → SearchesWell host → SearchesWell after

-- ---- its link

-- A link that comes up for its push begins its search, or is left at once.
abbrev pub LinksBeginSearches : Type 0
LinksBeginSearches = (settings : Settings) (circumstances : List Circumstance) (pushing : ClientProfile) → pushing.client.stage ≡ Link Asked → SearchesInOrder pushing.client
    → BeginsSearch ((client_profile settings).told circumstances (machines.Linked machines.Up) pushing)
