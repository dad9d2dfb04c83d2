-- What happened on the link of a host that is up, in its order: the PDUs that moved, and between them where its timer fired (Core 5.1, Volume 3 Part A, 6.2.1).
use Rattle.std.specs.Prelude.{ℕ, List, [], ◌∷◌, ◌++◌, map, length, drop, fold, Option, Some, None}
use Rattle.std.specs.List.{flat_map}
use Rattle.std.specs.Option.{option_map}
use Rattle.scenario_laws.specs.capture.specs.declared.flow.Flow.{Flow}
use Rattle.scenario_laws.specs.capture.specs.declared.flow.Flow.TheVariants.{Out, Into}
use Rattle.scenario_laws.specs.capture.specs.Links.{linking}
use Rattle.scenario_laws.specs.capture.specs.Moves.{Move}
use Rattle.scenario_laws.specs.capture.specs.Pdus.{Pdu, pdus}
use Rattle.scenario_laws.specs.channel_laws.specs.Runs as channels
use Rattle.scenario_laws.specs.channel_laws.specs.Runs.{Occurrence}
use Rattle.scenario_laws.specs.host_link.specs.HostCommands.{command_packet}
use Rattle.scenario_laws.specs.host_link.specs.PuttingOut.{piece_packet}
use Rattle.scenario_laws.specs.host_link.specs.Stands.{into, out_of}
use Rattle.scenario_laws.specs.world_model.specs.Machines.{News, Linked, Failed, Heard, TimerFired, Cancelled, Opening}
use Rattle.unit_laws.specs.Units.{Occasion, Comes, Learns, Says, Puts, Commands, Waits}

-- ---- ticks

pub data Tick : Type 0 where
  -- a unit moves
  Moves : (move : Move) → Tick
  -- the timer fires
  Fires : Tick

abbrev pub news_ticks : News → List Tick
news_ticks (Linked event) = []
news_ticks (Failed status) = []
news_ticks (Heard pdu) = []
news_ticks TimerFired = Fires ∷ []
news_ticks Cancelled = []
news_ticks (Opening name) = []

abbrev pub ticks_of : {G : Type 0} → Occasion G → List Tick
ticks_of (Comes gifts unit) = Moves (into unit) ∷ []
ticks_of (Learns gifts news) = news_ticks news
ticks_of (Says pdu) = []
ticks_of (Puts handle piece) = Moves (out_of (piece_packet handle piece)) ∷ []
ticks_of (Commands command) = Moves (out_of (command_packet command)) ∷ []
ticks_of Waits = []

abbrev pub ticks : {G : Type 0} → List (Occasion G) → List Tick
ticks occasions = flat_map ticks_of occasions

-- ---- on the link that is up

-- to its channels a PDU comes in, or is given
abbrev pub passed : Flow → List ℕ → Occurrence
passed Into pdu = channels.Comes pdu
passed Out pdu = channels.Gives pdu

abbrev pub occurred : Pdu → Occurrence
occurred pdu = passed pdu.flow pdu.octets

-- A unit adds the PDU that it makes whole. On a link that has come up nothing happened yet.
abbrev pub timed_on : (before after : Option (List Pdu)) → List Occurrence → List Occurrence
timed_on (Some old) (Some new) list = list ++ map occurred (drop (length old) new)
timed_on (Some old) None list = []
timed_on None (Some new) list = []
timed_on None None list = list

abbrev pub pdus_up : List Move → Option (List Pdu)
pdus_up moved = option_map pdus (linking moved).up

-- the units so far, and what happened since the link came up, or since the last one went down
pub record Timed : Type 0 where
  pub moved : List Move
  pub list : List Occurrence

abbrev pub timed_after : Timed → Tick → Timed
timed_after old (Moves move) = record { moved = old.moved ++ move ∷ []; list = timed_on (pdus_up old.moved) (pdus_up (old.moved ++ move ∷ [])) old.list }
timed_after old Fires = record { moved = old.moved; list = old.list ++ channels.Fires ∷ [] }

abbrev pub none_yet : Timed
none_yet = record { moved = []; list = [] }

abbrev pub timed : List Tick → List Occurrence
timed ticks = (fold timed_after none_yet ticks).list
