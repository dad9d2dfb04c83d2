-- The packets that a controller holds of its host (Core 5.1, Volume 2 Part E, 4.1.1 and 7.7.19).
use Rattle.std.specs.Prelude.{ℕ, ◌≤◌, ◌%◌, ◌==◌, min, List, [], ◌∷◌, map, drop, Option, Some, None, is_none, if◌then◌else◌}
use Rattle.std.specs.List.{flat_map}
use Rattle.capture.specs.Histories.{AtEach}
use Rattle.h4_framing.specs.Packets.{Packet, Acl, Event}
use Rattle.hci_packets.specs.Events.{event_refusal, entries_of}
use Rattle.acl_credits.specs.Histories.{BufferEvent, Sent, Completed, outstanding_in}
use Rattle.push_terms.specs.declared.word.Side.{Side}
use Rattle.capture.specs.declared.flow.Flow.{Flow}
use Rattle.capture.specs.declared.flow.Flow.TheVariants.{Out, Into}
use Rattle.capture.specs.Entries.{Entry}
use Rattle.capture.specs.Moves.{Move}
use Rattle.capture.specs.Links.{Link, link_up}

-- the entries of Number Of Completed Packets, one after the other; a refused event gives nothing back
abbrev pub given_back : ℕ → List ℕ → List BufferEvent
given_back code params =
    if code == 0x13 then (if is_none (event_refusal code params) then map (λ entry. Completed entry.0 entry.1) (entries_of (drop 1 params)) else []) else []

-- what a packet does to the buffers
abbrev pub events : Flow → Packet → List BufferEvent
events Out (Acl word octets) = Sent (word % 0x1000) ∷ []
events Into (Event code params) = given_back code params
events _ _ = []

abbrev pub buffer_events : Move → List BufferEvent
buffer_events move = events move.flow move.packet

-- the packets outstanding on a link: those that went out on it, less those that came back for it
abbrev pub outstanding_on_link : Link → ℕ
outstanding_on_link link = outstanding_in (flat_map buffer_events link.moves) link.handle

-- the packets of a host that are outstanding on a handle: none where no link with that handle is up
abbrev pub outstanding_on : ℕ → Option Link → ℕ
outstanding_on handle None = 0
outstanding_on handle (Some link) = if link.handle == handle then outstanding_on_link link else 0

abbrev pub outstanding : Side → List Entry → ℕ → ℕ
outstanding side entries handle = outstanding_on handle (link_up side entries)

-- all packets of a host that are outstanding
abbrev pub outstanding_of : Option Link → ℕ
outstanding_of None = 0
outstanding_of (Some link) = outstanding_on_link link

abbrev pub all_outstanding : Side → List Entry → ℕ
all_outstanding side entries = outstanding_of (link_up side entries)

-- at each moment a host has no more packets outstanding than its controller takes, and no more than 64
abbrev pub KeepsWithin : Side → ℕ → List Entry → Type 0
KeepsWithin side count entries = AtEach (λ past. all_outstanding side past ≤ min count 64) entries
