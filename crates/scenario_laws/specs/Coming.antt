-- How a host came to what a capture has: what it was told and said, over all its links and on the one that is up (this project's own).
use Rattle.std.specs.Prelude.{ℕ, ◌≡◌, ◌⊎◌, List, [], ◌∷◌, ◌++◌, map, Option, Some, None}
use Rattle.std.specs.List.{flat_map}
use Rattle.radio_world.specs.bt_base.specs.Objects.{Contents}
use Rattle.radio_world.specs.push_script.specs.declared.scenario.Scenario.{Scenario}
use Rattle.radio_world.specs.push_terms.specs.declared.word.Side.{Side}
use Rattle.radio_world.specs.push_terms.specs.declared.word.Side.TheVariants as sides
use Rattle.radio_world.specs.capture.specs.declared.flow.Flow.TheVariants.{Out}
use Rattle.radio_world.specs.capture.specs.Entries.{Entry}
use Rattle.radio_world.specs.capture.specs.Links.{Link, links, link_up}
use Rattle.radio_world.specs.capture.specs.Pdus.{Pdu, pdus}
use Rattle.host_laws.specs.world_model.specs.Talks.{Talk}
use Rattle.host_laws.specs.world_model.specs.Worlds.{Happening, IsAtRest, all_entries}
use Rattle.host_laws.specs.host_model.specs.Hosts.{Host}
use Rattle.host_laws.specs.host_model.specs.Profiles.{Profile}
use Rattle.host_laws.specs.host_model.specs.Clients.{client_profile}
use Rattle.host_laws.specs.host_model.specs.Servers.{server_profile}
use Rattle.host_laws.specs.host_model.specs.Machines.{upper}
use Rattle.host_laws.specs.Calm.{pdus_in}
use Rattle.host_laws.specs.OverLinks.{OverLinks, parts}
use Rattle.host_laws.specs.Turning.{OnLink}
use Rattle.scenario_laws.specs.Captures.{client_of, server_of, BothHosts, Happened, Ran}

-- ---- over all its links

abbrev pub out_of : List ℕ → Pdu
out_of pdu = record { flow = Out; octets = pdu }

-- A part of what a host was told and said, up to a turn of its link, has no PDU, or it has those that moved on the next link of these, and
-- behind them PDUs that it said and that did not move.
abbrev pub FallTo : (parts : List (List Talk)) (links : List (List Pdu)) → Type 0
FallTo [] links = links ≡ []
FallTo (part ∷ parts) links = ((flat_map pdus_in part ≡ []) × FallTo parts links)
    ⊎ ((link : List Pdu) × (rest : List (List Pdu)) × (unsent : List (List ℕ)) × (links ≡ link ∷ rest) × (flat_map pdus_in part ≡ link ++ map out_of unsent) × FallTo parts rest)

-- the last part has these PDUs, and behind them those that it said and that did not move
abbrev pub LastHas : (parts : List (List Talk)) → (moved : List Pdu) → Type 0
LastHas parts moved = (before : List (List Talk)) × (part : List Talk) × (unsent : List (List ℕ)) × (parts ≡ before ++ part ∷ []) × (flat_map pdus_in part ≡ moved ++ map out_of unsent)

-- where a link is up, those that moved on it
abbrev pub LastIsUp : (parts : List (List Talk)) → Option Link → Type 0
LastIsUp parts None = Unit {0}
LastIsUp parts (Some link) = LastHas parts (pdus link)

-- from its first moment on it was told and said this, which falls to the links that the capture has
pub record CameOver {P : Type 0} (A : Profile P) (side : Side) (capture : List Entry) (now : Host P) : Type 0 where
  pub talk : List Talk
  pub over : OverLinks (upper A) talk now
  pub fall : FallTo (parts talk) (map pdus (links side capture))
  pub last : LastIsUp (parts talk) (link_up side capture)

-- ---- on the link that is up

-- since its link came up it heard and said these PDUs
pub record CameUp {P : Type 0} (A : Profile P) (moved : List Pdu) (now : Host P) : Type 0 where
  pub talk : List Talk
  pub on : OnLink (upper A) talk now
  pub moved_is : flat_map pdus_in on.since ≡ moved

-- where a link is up
abbrev pub CameOn : {P : Type 0} → Profile P → Option Link → Host P → Type 0
CameOn A None now = Unit {0}
CameOn A (Some link) now = CameUp A (pdus link) now

-- ---- the laws

-- At each moment of a run both hosts came so to what the capture has of their links.
pub record BothCame (scenario : Scenario) (content : Option Contents) (capture : List Entry) (ran : Ran scenario content capture) : Type 0 where
  pub a : CameOver (client_profile scenario.settings) sides.A capture ran.world.a.upper
  pub b : CameOver (server_profile scenario.settings content) sides.B capture ran.world.b.upper

abbrev pub RunsHaveTalks : Type 0
RunsHaveTalks = (scenario : Scenario) (content : Option Contents) (capture : List Entry) (ran : Ran scenario content capture) → BothCame scenario content capture ran

-- And wherever it is at rest, to what moved on the link that is up.
pub record BothUp (scenario : Scenario) (content : Option Contents) (past : List Entry) (world : BothHosts) : Type 0 where
  pub a : CameOn (client_profile scenario.settings) (link_up sides.A past) world.a.upper
  pub b : CameOn (server_profile scenario.settings content) (link_up sides.B past) world.b.upper

abbrev pub RestsHaveTalks : Type 0
RestsHaveTalks = (scenario : Scenario) (content : Option Contents) (happenings : List Happening) (world : BothHosts) → Happened scenario content happenings world → IsAtRest (client_of scenario) (server_of scenario content) world
    → BothUp scenario content (all_entries happenings) world
