-- How many packets a controller takes of its host, as the packets that move between the two say: it is what the last answer to Read Buffer Size returned,
-- and a host uses at most 64 (Core 5.1, Volume 2 Part E, 4.1.1 and 7.4.5).
use Rattle.std.specs.Prelude.{ℕ, ◌≡◌, ◌==◌, ◌&&◌, nat_lt, min, Bool, false, List, [], Option, Some, is_none, if◌then◌else◌}
use Rattle.scenario_laws.specs.h4_framing.specs.Packets.{Packet, Command, Event}
use Rattle.scenario_laws.specs.hci_packets.specs.Events.{PlainEvent, CommandComplete}
use Rattle.scenario_laws.specs.capture.specs.declared.flow.Flow.{Flow}
use Rattle.scenario_laws.specs.capture.specs.declared.flow.Flow.TheVariants.{Out, Into}
use Rattle.scenario_laws.specs.capture.specs.Buffers.{outstanding_of}
use Rattle.scenario_laws.specs.capture.specs.Histories.{led_by}
use Rattle.scenario_laws.specs.capture.specs.Links.{linking}
use Rattle.scenario_laws.specs.capture.specs.Moves.{Move}
use Rattle.scenario_laws.specs.host_link.specs.declared.returned.Returned.{Returned}
use Rattle.scenario_laws.specs.host_link.specs.declared.returned.Returned.TheVariants.{Buffers}
use Rattle.scenario_laws.specs.host_link.specs.EventReading.{event_in}
use Rattle.scenario_laws.specs.host_link.specs.declared.role.Role.{Role}
use Rattle.scenario_laws.specs.host_link.specs.PuttingOut.{has_buffer}
use Rattle.scenario_laws.specs.host_link.specs.Returning.{buffers_in}
use Rattle.scenario_laws.specs.world_model.specs.Machines.{Upper}
use Rattle.unit_laws.specs.Units.{Lined, Occasion, starting, units, Runs, Whatever}

-- whether the answer to Read Buffer Size is awaited, and how many packets the controller takes
pub record Capacity : Type 0 where
  pub awaited : Bool
  pub count : ℕ

-- until it says how many it takes none
abbrev pub none_stated : Capacity
none_stated = record { awaited = false; count = 0 }

-- an answer counts while no link is up
abbrev pub with_answer : (free : Bool) → Returned → Capacity → Capacity
with_answer free (Buffers status size count) old = record { awaited = false; count = if free then min count 64 else old.count }
with_answer free _ old = old

abbrev pub with_event : (free : Bool) → Option PlainEvent → Capacity → Capacity
with_event free (Some (CommandComplete number opcode returned)) old = if opcode == 0x1005 && old.awaited then with_answer free (buffers_in returned) old else old
with_event free _ old = old

abbrev pub with_heard : (free : Bool) → Packet → Capacity → Capacity
with_heard free (Event code params) old = with_event free (event_in code params) old
with_heard free _ old = old

-- one command is awaited at a time
abbrev pub with_said : Packet → Capacity → Capacity
with_said (Command opcode params) old = record { awaited = opcode == 0x1005; count = old.count }
with_said _ old = old

abbrev pub with_moved : (free : Bool) → Flow → Packet → Capacity → Capacity
with_moved free Out packet old = with_said packet old
with_moved free Into packet old = with_heard free packet old

abbrev pub capacity_after : List Move → Capacity → Move → Capacity
capacity_after past old move = with_moved (is_none (linking past).up) move.flow move.packet old

abbrev pub capacity : List Move → Capacity
capacity moved = led_by capacity_after [] none_stated moved

-- the controller takes one packet more
abbrev pub takes_more : List Move → Bool
takes_more moved = nat_lt (outstanding_of (linking moved).up) (capacity moved).count

-- Whatever comes to a host, and whatever it does: its ledger has a buffer free exactly where its units say so.
abbrev pub BuffersAreRead : {S G : Type 0} → Upper S G → Type 0
BuffersAreRead {S} {G} U = (role : Role) (occasions : List (Occasion G)) (now : Lined S) → Runs U Whatever occasions (starting U role) now → has_buffer now.line ≡ takes_more (units occasions)
