-- Of which faults no push blames its peer (Core 5.1, Volume 3 Part B, 4.2 and 4.7; RFCOMM 1.2, 5; Object Push Profile 1.2, 5; this project's own numbers of layers).
use Rattle.std.specs.Prelude.{ℕ, ◌≡◌, ◌==◌, ◌||◌, Bool, true, false, List, ◌++◌, Option}
use Rattle.std.specs.List.{AllByRecursion}
use Rattle.request_laws.specs.bt_base.specs.Objects.{Contents}
use Rattle.request_laws.specs.bt_base.specs.declared.settings.Serves.{Serves}
use Rattle.request_laws.specs.bt_base.specs.declared.settings.Serves.TheVariants as serving
use Rattle.request_laws.specs.bt_base.specs.declared.settings.Settings.{Settings}
use Rattle.request_laws.specs.bt_base.specs.declared.settings.Transport.{Transport}
use Rattle.request_laws.specs.bt_base.specs.declared.settings.Transport.TheVariants.{L2cap, Rfcomm}
use Rattle.request_laws.specs.pair_laws.specs.push_script.specs.declared.scenario.Scenario.{Scenario}
use Rattle.request_laws.specs.push_terms.specs.declared.outcome.Outcome.{Outcome}
use Rattle.request_laws.specs.push_terms.specs.declared.outcome.Outcome.TheVariants.{NoService, PeerFault}
use Rattle.request_laws.specs.capture.specs.Entries.{Entry, Ended}
use Rattle.request_laws.specs.world_model.specs.Worlds.{Happening, all_entries}
use Rattle.request_laws.specs.pair_laws.specs.scenario_laws.specs.Captures.{client_of, BothHosts, Happened}
use Rattle.request_laws.specs.pair_laws.specs.scenario_laws.specs.radio_world.specs.Standing.{last_entries}

-- The layers at which the peer is never at fault: 3, service discovery; and over L2CAP 4, RFCOMM, which is not used there. 1 is HCI, 2 L2CAP, and 5 OBEX.
abbrev pub is_faultless : Transport → (layer : ℕ) → Bool
is_faultless L2cap layer = (layer == 3) || (layer == 4)
is_faultless Rfcomm layer = layer == 3

-- whether the record of a server of these transports names a way to its service over that one
abbrev pub has_way : Transport → Serves → Bool
has_way L2cap serving.Both = true
has_way L2cap serving.L2cap = true
has_way L2cap serving.Rfcomm = false
has_way Rfcomm serving.Both = true
has_way Rfcomm serving.L2cap = false
has_way Rfcomm serving.Rfcomm = true

-- the peer is blamed for a fault that it never has, or for the want of a service that it has
abbrev pub is_blamed : Settings → Outcome → Bool
is_blamed settings (PeerFault layer reason) = is_faultless settings.transport layer
is_blamed settings NoService = has_way settings.transport settings.serves
is_blamed settings outcome = false

abbrev pub SparesIt : Settings → Entry → Type 0
SparesIt settings (Ended push outcome) = is_blamed settings outcome ≡ false
SparesIt settings entry = Unit {0}

-- No push of a capture ends with its peer blamed so.
abbrev pub SparesPeer : Settings → List Entry → Type 0
SparesPeer settings capture = AllByRecursion (SparesIt settings) capture

-- So it is of each run, over either transport, wherever it broke off, whatever its words lose, repeat, cut and damage and its ports answer; and with the end of the
-- push that goes on behind it.
pub record RunsSparePeers : Type 0 where
  pub moments : (scenario : Scenario) (content : Option Contents) (happenings : List Happening) (world : BothHosts) → Happened scenario content happenings world → SparesPeer scenario.settings (all_entries happenings)
  pub ends : (scenario : Scenario) (content : Option Contents) (happenings : List Happening) (world : BothHosts) → Happened scenario content happenings world
      → SparesPeer scenario.settings (all_entries happenings ++ last_entries ((client_of scenario).outcome world.a.upper) world.pushes)
