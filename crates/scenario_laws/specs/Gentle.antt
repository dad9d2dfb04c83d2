-- Each host of a run is gentle on its links: what comes in has one command in a PDU, what is said is read so, and nothing waits where
-- something is heard (Core 5.1, Volume 3 Part A, 3.1 and 4).
use Rattle.std.specs.Prelude.{◌≡◌, Bool, true, false, List, [], ◌∷◌, length, drop, Option, Some, None}
use Rattle.std.specs.List.{AllByRecursion}
use Rattle.host_laws.specs.acl_fragments.specs.Pieces.{channel_of}
use Rattle.radio_world.specs.bt_base.specs.Octets.{IsOctets}
use Rattle.radio_world.specs.bt_base.specs.Objects.{Contents}
use Rattle.radio_world.specs.push_script.specs.declared.scenario.Scenario.{Scenario}
use Rattle.radio_world.specs.push_terms.specs.declared.word.Side.{Side}
use Rattle.radio_world.specs.push_terms.specs.declared.word.Side.TheVariants as sides
use Rattle.radio_world.specs.capture.specs.Entries.{Entry}
use Rattle.radio_world.specs.capture.specs.Links.{Link, links, link_up}
use Rattle.radio_world.specs.capture.specs.Pdus.{Pdu, pdus}
use Rattle.host_laws.specs.l2cap_signal.specs.Reading.{answers}
use Rattle.host_laws.specs.world_model.specs.Worlds.{Happening, IsAtRest, all_entries}
use Rattle.host_laws.specs.turn_laws.specs.Laws.{IsFront}
use Rattle.host_laws.specs.world_model.specs.Machines.{Up, News, Linked, Failed, Heard, TimerFired, Cancelled, Opening}
use Rattle.host_laws.specs.host_model.specs.Circumstances.{Circumstance}
use Rattle.host_laws.specs.host_model.specs.Hosts.{Host, first_host, hear}
use Rattle.host_laws.specs.host_model.specs.Profiles.{Profile}
use Rattle.host_laws.specs.host_model.specs.Clients.{client_profile}
use Rattle.host_laws.specs.host_model.specs.Servers.{server_profile}
use Rattle.host_laws.specs.host_model.specs.Machines.{upper}
use Rattle.host_laws.specs.Acts.{Act, Hears, Says, Does}
use Rattle.host_laws.specs.Calls.{Asks, HostsAsk}
use Rattle.host_laws.specs.Calm.{HoldsNothingBack, TalksSo}
use Rattle.host_laws.specs.OverLinks.{is_up_behind, AreGentleUp}
use Rattle.host_laws.specs.Seen.{FiresPlainly}
use Rattle.host_laws.specs.Steady.{IsSteady}
use Rattle.scenario_laws.specs.Captures.{client_of, server_of, BothHosts, Happened, Ran}
use Rattle.scenario_laws.specs.Coming.{CameOver, CameUp}

-- ---- what moves

-- a PDU on the signalling channel has one command, in octets
abbrev pub HasOneCommand : Pdu → Type 0
HasOneCommand pdu = channel_of pdu.octets ≡ 0x0001 → IsOctets pdu.octets × (length (answers (drop 4 pdu.octets)) ≡ 1)

-- So has each that moved on a link of a run, into a host or out of it.
abbrev pub PdusHaveOneCommand : Type 0
PdusHaveOneCommand = (scenario : Scenario) (content : Option Contents) (capture : List Entry) (side : Side) → Ran scenario content capture
    → AllByRecursion (λ (link : Link). AllByRecursion HasOneCommand (pdus link)) (links side capture)

-- ---- what is asked of a host

-- Where it hears a PDU or its timer fires, no bound on what it says holds a PDU back, and a firing says what waits to be given behind it.
abbrev pub IsFreeNews : {P : Type 0} → Profile P → News → Host P → Type 0
IsFreeNews A (Linked event) host = Unit {0}
IsFreeNews A (Failed status) host = Unit {0}
IsFreeNews A (Heard pdu) host = HoldsNothingBack A host
IsFreeNews A TimerFired host = HoldsNothingBack A host × FiresPlainly A.policy host.channels
IsFreeNews A Cancelled host = Unit {0}
IsFreeNews A (Opening name) host = Unit {0}

abbrev pub IsFreeAct : {P : Type 0} → Profile P → Act Circumstance → Host P → Type 0
IsFreeAct A (Hears circumstances news) host = IsFreeNews A news host
IsFreeAct A (Says pdu) host = Unit {0}

-- while a link is up
abbrev pub AreFreeUp : {P : Type 0} → Profile P → (up : Bool) → List (Act Circumstance) → Host P → Type 0
AreFreeUp A up [] host = Unit {0}
AreFreeUp {P} A up (act ∷ acts) host = (up ≡ true → IsFreeAct A act host) × ((mid : Host P) → Does (upper A) act host mid → AreFreeUp A (is_up_behind up act) acts mid)

-- ---- the law

-- However a host came to what the capture has of its links, it did so gently, where it was free.
abbrev pub ComesGently : {P : Type 0} → Profile P → Side → List Entry → Host P → Type 0
ComesGently A side capture now = (came : CameOver A side capture now) → AreFreeUp A false came.over.acts (first_host A) → AreGentleUp A false came.over.acts (first_host A)

pub record BothGentle (scenario : Scenario) (content : Option Contents) (capture : List Entry) (ran : Ran scenario content capture) : Type 0 where
  pub a : ComesGently (client_profile scenario.settings) sides.A capture ran.world.a.upper
  pub b : ComesGently (server_profile scenario.settings content) sides.B capture ran.world.b.upper

-- So do both hosts of every run.
abbrev pub HostsAreGentle : Type 0
HostsAreGentle = (scenario : Scenario) (content : Option Contents) (capture : List Entry) (ran : Ran scenario content capture) → BothGentle scenario content capture ran

-- ---- at rest

-- Since its link came up no bound held a PDU back where it heard something, nor does one now.
pub record IsFreeOn {P : Type 0} (A : Profile P) (moved : List Pdu) (now : Host P) (came : CameUp A moved now) : Type 0 where
  pub free : AreFreeUp A true came.on.acts (hear A came.on.gifts (Linked Up) came.on.old)
  pub back : HoldsNothingBack A now

-- However a host came to what moved on its link, it lives so that what its channels said and heard there is what moved, but for requests
-- that it gave up, and what it says goes out as its octets; where it was free.
abbrev pub LivesThrough : {P : Type 0} (A : Profile P) → Asks A → Option Link → Host P → Type 0
LivesThrough A asks None now = Unit {0}
LivesThrough A asks (Some link) now = (came : CameUp A (pdus link) now) → IsFreeOn A (pdus link) now came → TalksSo A asks came.talk now came.on

pub record BothLive (asks : HostsAsk) (scenario : Scenario) (content : Option Contents) (past : List Entry) (world : BothHosts) : Type 0 where
  pub a : LivesThrough (client_profile scenario.settings) (asks.clients scenario.settings) (link_up sides.A past) world.a.upper
  pub b : LivesThrough (server_profile scenario.settings content) (asks.servers scenario.settings content) (link_up sides.B past) world.b.upper

-- So do both hosts wherever a run is at rest.
abbrev pub RestsAreLived : Type 0
RestsAreLived = (asks : HostsAsk) (scenario : Scenario) (content : Option Contents) (happenings : List Happening) (world : BothHosts) → Happened scenario content happenings world → IsAtRest (client_of scenario) (server_of scenario content) world
    → BothLive asks scenario content (all_entries happenings) world

-- ---- where a run is free at rest

-- All that its channels have to give was said; and where its timer is armed, a firing says what waits behind it.
pub record IsFree {P : Type 0} (A : Profile P) (now : Host P) : Type 0 where
  pub back : HoldsNothingBack A now
  pub fires : (upper A).armed now ≡ true → FiresPlainly A.policy now.channels

-- on the link that is up, if there is one
abbrev pub IsFreeAt : {P : Type 0} → Profile P → Option Link → Host P → Type 0
IsFreeAt A None now = Unit {0}
IsFreeAt A (Some link) now = IsFree A now

-- both hosts, wherever a run is at rest on its way
pub record HostsAreFree (scenario : Scenario) (content : Option Contents) (happenings : List Happening) : Type 0 where
  pub a : (front : List Happening) (world : BothHosts) → IsFront front happenings → Happened scenario content front world → IsAtRest (client_of scenario) (server_of scenario content) world
      → IsFreeAt (client_profile scenario.settings) (link_up sides.A (all_entries front)) world.a.upper
  pub b : (front : List Happening) (world : BothHosts) → IsFront front happenings → Happened scenario content front world → IsAtRest (client_of scenario) (server_of scenario content) world
      → IsFreeAt (server_profile scenario.settings content) (link_up sides.B (all_entries front)) world.b.upper

-- At each moment of every run, whatever the ports answer: a host that says nothing next has nothing to give. No bound on what it says, and no
-- number that is no octet, holds a PDU back.
pub record BothHoldBackNothing (scenario : Scenario) (content : Option Contents) (world : BothHosts) : Type 0 where
  pub a : HoldsNothingBack (client_profile scenario.settings) world.a.upper
  pub b : HoldsNothingBack (server_profile scenario.settings content) world.b.upper

abbrev pub RunsHoldBackNothing : Type 0
RunsHoldBackNothing = (scenario : Scenario) (content : Option Contents) (happenings : List Happening) (world : BothHosts) → Happened scenario content happenings world → BothHoldBackNothing scenario content world

-- On the link that is up, if there is one: where its timer is armed and no command waits, each channel whose end was asked for as often as may be
-- asks for its options no more often.
abbrev pub IsSteadyOn : {P : Type 0} → Profile P → Option Link → Host P → Type 0
IsSteadyOn A None now = Unit {0}
IsSteadyOn A (Some link) now = (upper A).armed now ≡ true → now.channels.queue ≡ [] → IsSteady A.policy.tries now.channels

-- host a is so wherever a run is at rest on its way
pub record RestsAreFree (scenario : Scenario) (content : Option Contents) (happenings : List Happening) : Type 0 where
  pub a : (front : List Happening) (world : BothHosts) → IsFront front happenings → Happened scenario content front world → IsAtRest (client_of scenario) (server_of scenario content) world
      → IsSteadyOn (client_profile scenario.settings) (link_up sides.A (all_entries front)) world.a.upper

-- So it is of every run, and both hosts are free.
abbrev pub RunsRestFree : Type 0
RunsRestFree = (scenario : Scenario) (content : Option Contents) (happenings : List Happening) → RestsAreFree scenario content happenings

abbrev pub RunsAreFree : Type 0
RunsAreFree = (scenario : Scenario) (content : Option Contents) (happenings : List Happening) → HostsAreFree scenario content happenings

-- Then each host came gently to what the capture has of its links, at each moment.
pub record CameGently {P : Type 0} (A : Profile P) (side : Side) (capture : List Entry) (now : Host P) : Type 0 where
  pub came : CameOver A side capture now
  pub gently : AreGentleUp A false came.over.acts (first_host A)

pub record BothCameGently (scenario : Scenario) (content : Option Contents) (capture : List Entry) (ran : Ran scenario content capture) : Type 0 where
  pub a : CameGently (client_profile scenario.settings) sides.A capture ran.world.a.upper
  pub b : CameGently (server_profile scenario.settings content) sides.B capture ran.world.b.upper

abbrev pub FreeRunsAreGentle : Type 0
FreeRunsAreGentle = (scenario : Scenario) (content : Option Contents) (capture : List Entry) (ran : Ran scenario content capture) → BothCameGently scenario content capture ran

-- And where it is at rest, each came to what moved on the link that is up, and lives so that what its channels said and heard is that.
pub record CameSo {P : Type 0} (A : Profile P) (asks : Asks A) (moved : List Pdu) (now : Host P) : Type 0 where
  pub came : CameUp A moved now
  pub so : TalksSo A asks came.talk now came.on

abbrev pub CameSoAt : {P : Type 0} (A : Profile P) → Asks A → Option Link → Host P → Type 0
CameSoAt A asks None now = Unit {0}
CameSoAt A asks (Some link) now = CameSo A asks (pdus link) now

pub record BothCameSo (asks : HostsAsk) (scenario : Scenario) (content : Option Contents) (past : List Entry) (world : BothHosts) : Type 0 where
  pub a : CameSoAt (client_profile scenario.settings) (asks.clients scenario.settings) (link_up sides.A past) world.a.upper
  pub b : CameSoAt (server_profile scenario.settings content) (asks.servers scenario.settings content) (link_up sides.B past) world.b.upper

abbrev pub FreeRestsAreLived : Type 0
FreeRestsAreLived = (asks : HostsAsk) (scenario : Scenario) (content : Option Contents) (happenings : List Happening) (world : BothHosts) → Happened scenario content happenings world → IsAtRest (client_of scenario) (server_of scenario content) world
    → BothCameSo asks scenario content (all_entries happenings) world
