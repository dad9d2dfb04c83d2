-- What a client asks for on each of its links: one channel after the other, and one besides that of service discovery (Object Push
-- Profile 1.2, 4.3 and 5).
use Rattle.std.specs.Prelude.{false, List, ◌≤◌}
use Rattle.std.specs.List.{AllByRecursion, flat_map}
use Rattle.shelf_model.specs.bt_base.specs.declared.settings.Settings.{Settings}
use Rattle.shelf_model.specs.capture.specs.declared.flow.Flow.TheVariants.{Out}
use Rattle.channel_laws.specs.channel_model.specs.Policies.{policy}
use Rattle.channel_laws.specs.Connections.{requests_for}
use Rattle.channel_laws.specs.Runs.{Occurrence}
use Rattle.channel_laws.specs.Singly.{calls_that_went, AreOneByOne}
use Rattle.shelf_model.specs.world_model.specs.Talks.{Talk}
use Rattle.shelf_model.specs.host_model.specs.Hosts.{Host, first_host}
use Rattle.shelf_model.specs.host_model.specs.Machines.{upper}
use Rattle.shelf_model.specs.host_model.specs.Clients.{ClientProfile, client_profile}
use Rattle.host_laws.specs.Calls.{Asks}
use Rattle.host_laws.specs.InOrder.{may_ask, CallsInOrder}
use Rattle.host_laws.specs.Lives.{on_links}
use Rattle.host_laws.specs.OverLinks.{OverLinks, AreGentleUp, parts, moved_in, talk_marks}
use Rattle.host_laws.specs.Searching.{AsksAsItSteps}
use Rattle.host_laws.specs.Woven.{TalksWoven}

-- one channel after the other, and two at most, with the question for features between them
abbrev pub AsksWell : Settings → List Occurrence → Type 0
AsksWell settings list = CallsInOrder settings.transport (policy settings false) list × (requests_for list ≤ 11)

-- The profile of a client asks so on each of its links, over either transport, however its host lived through its talk.
abbrev pub ClientsAskInOrder : Type 0
ClientsAskInOrder = (settings : Settings) (asks : Asks (client_profile settings)) (talk : List Talk) (now : Host ClientProfile) → AsksAsItSteps settings asks → (woven : TalksWoven (client_profile settings) asks talk now)
    → AllByRecursion (AsksWell settings) (on_links (client_profile settings) asks (flat_map talk_marks talk) now woven.so.lives)

-- So its requests move on each of its links.
abbrev pub ClientsAskOnce : Type 0
ClientsAskOnce = (settings : Settings) (talk : List Talk) (now : Host ClientProfile) (over : OverLinks (upper (client_profile settings)) talk now)
    → AreGentleUp (client_profile settings) false over.acts (first_host (client_profile settings)) → AllByRecursion (λ part. AreOneByOne (may_ask settings.transport) (calls_that_went Out (moved_in part))) (parts talk)
