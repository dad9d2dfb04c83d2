-- What comes to a host while a maker calls it, one thing after the other: units, and what no unit brings (Core 5.1, Volume 4 Part A, 2).
use Rattle.std.specs.Prelude.{List, [], ◌∷◌, map, Option, option_to_list}
use Rattle.std.specs.List.{flat_map}
use Rattle.call_laws.specs.unit_laws.specs.scenario_laws.specs.h4_framing.specs.Packets.{Packet}
use Rattle.call_laws.specs.unit_laws.specs.scenario_laws.specs.world_model.specs.Machines.{TimerFired, Cancelled, Opening}
use Rattle.call_laws.specs.bt_host.specs.host_model.specs.Circumstances.{Circumstance}
use Rattle.call_laws.specs.unit_laws.specs.Units.{Occasion, Comes, Learns, Says, Puts, Commands, Waits}
use Rattle.call_laws.specs.HostCalls.{HostCall, Feed, OnTimer, Push, Cancel, PutOut, Taken, PageDevice}
use Rattle.lending_laws.specs.Steps.{Step}

-- ---- of all that happens to it

-- a unit that comes in, or what it learns; what its ports are to answer is left out
abbrev pub comings_of : {G : Type 0} → Occasion G → List (Occasion G)
comings_of (Comes gifts unit) = Comes [] unit ∷ []
comings_of (Learns gifts news) = Learns [] news ∷ []
comings_of (Says pdu) = []
comings_of (Puts handle piece) = []
comings_of (Commands command) = []
comings_of Waits = []

abbrev pub comings_in : {G : Type 0} → List (Occasion G) → List (Occasion G)
comings_in occasions = flat_map comings_of occasions

-- ---- with the calls of its maker

abbrev pub heard_whole : Option Packet → List (Occasion Circumstance)
heard_whole packet = map (λ (unit : Packet). Comes [] unit) (option_to_list packet)

-- the packet that is whole with a piece; that its timer fires, that a push begins or is given up
abbrev pub comings_with : HostCall → Option Packet → List (Occasion Circumstance)
comings_with (Feed piece) packet = heard_whole packet
comings_with OnTimer packet = Learns [] TimerFired ∷ []
comings_with (Push name) packet = Learns [] (Opening name) ∷ []
comings_with Cancel packet = Learns [] Cancelled ∷ []
comings_with PutOut packet = []
comings_with (Taken count) packet = []
comings_with (PageDevice address) packet = []

abbrev pub comings_along : List Step → List (Occasion Circumstance)
comings_along steps = flat_map (λ (step : Step). comings_with step.call step.turn.packet) steps
