-- What a host put out, read off its octets (Core 5.1, Volume 4 Part A, 2; Volume 2 Part E, 5.4).
use Rattle.std.specs.Prelude.{ℕ, zero, suc, ◌==◌, ◌/◌, ◌%◌, List, [], ◌∷◌, length, take, drop, slice_index, if◌then◌else◌}
use Rattle.byteorder.specs.Endian.{little_number}
use Rattle.radio_world.specs.hci_packets.specs.declared.acl.Boundary.{Boundary}
use Rattle.radio_world.specs.hci_packets.specs.declared.acl.Boundary.TheVariants.{First, Continuing, FirstFromController}
use Rattle.radio_world.specs.world_model.specs.Stations.{Order, ReadBuffers, ReadAddress, Scan, Page, Accept, End, Data}
use Rattle.radio_world.specs.world_model.specs.Stations as orders

abbrev pub boundary_by : ℕ → Boundary
boundary_by flag = if flag == 0 then First else (if flag == 1 then Continuing else FirstFromController)

abbrev pub data_in : (word : ℕ) (octets : List ℕ) → Order
data_in word octets = Data (word % 0x1000) (record { boundary = boundary_by (word / 0x1000); octets = octets })

abbrev pub command_in : (opcode : ℕ) (params : List ℕ) → Order
command_in opcode params =
    if opcode == 0x0C03 then orders.Reset else (if opcode == 0x1005 then ReadBuffers else (if opcode == 0x1009 then ReadAddress else (if opcode == 0x0C1A then Scan
    else (if opcode == 0x0405 then Page else (if opcode == 0x0409 then Accept else End (little_number 2 params))))))

-- so many packets at most, commands and ACL packets, one after the other
abbrev pub orders_by : ℕ → List ℕ → List Order
orders_by zero octets = []
orders_by (suc n) [] = []
orders_by (suc n) (kind ∷ rest) =
    if kind == 1 then command_in (little_number 2 rest) (take (slice_index rest 2) (drop 3 rest)) ∷ orders_by n (drop (slice_index rest 2) (drop 3 rest))
    else data_in (little_number 2 rest) (take (little_number 2 (drop 2 rest)) (drop 4 rest)) ∷ orders_by n (drop (little_number 2 (drop 2 rest)) (drop 4 rest))

abbrev pub orders_in : List ℕ → List Order
orders_in octets = orders_by (length octets) octets
