-- What a btsnoop file is: the layout of RFC 1761, with the datalinks and the flags of Bluetooth. In all numbers the
-- highest octet stands first.
use Rattle.std.specs.Prelude.{ℕ, ◌≡◌, ◌<◌, ◌≤◌, ◌^◌, List, ◌++◌, length}
use Rattle.std.specs.List.{flat_map, AllByRecursion}
use Rattle.byteorder.specs.Endian.{big_bytes}
use Rattle.bt_base.specs.Octets.{IsOctets, be32}
use Rattle.btsnoop.specs.declared.record.Record.{Record as LentRecord}

-- one packet of a file: how many octets it had, its flags, how many packets were lost before it, when it was seen, in
-- microseconds, and as many of its octets as were kept
pub record Record : Type 0 where
  pub original : ℕ
  pub flags : ℕ
  pub drops : ℕ
  pub time : ℕ
  pub octets : List ℕ

-- a record that is lent, apart from where its octets lie in memory
abbrev pub plain_record : LentRecord → Record
plain_record lent = record { original = lent.original; flags = lent.flags; drops = lent.drops; time = lent.time; octets = lent.octets.now }

-- the identification: the letters of `btsnoop` and a zero
abbrev pub identification : ℕ
identification = 0x6274736E6F6F7000

-- the version of the format
abbrev pub version : ℕ
version = 1

-- the datalink of packets as on the UART, each behind its indicator
abbrev pub uart_datalink : ℕ
uart_datalink = 1002

-- the first sixteen octets of a file: the identification, the version, the datalink
unfoldable pub file_header : List ℕ
file_header = big_bytes 8 identification ++ be32 version ++ be32 uart_datalink

-- the octets of a record: the original and the included length, the flags, the losses, the time, the included octets
unfoldable pub record_octets : Record → List ℕ
record_octets item = be32 item.original ++ be32 (length item.octets) ++ be32 item.flags ++ be32 item.drops ++ big_bytes 8 item.time ++ item.octets

-- no packet of the UART has more octets: an indicator, four octets of head, and 65,535 octets of data
abbrev pub longest_packet : ℕ
longest_packet = 65540

-- A record that a file may have: its numbers fit their fields, and no more octets are included than a packet can
-- have, nor than this packet had.
pub record IsRecord (item : Record) : Type 0 where
  pub original : item.original < 2 ^ 32
  pub flags : item.flags < 2 ^ 32
  pub drops : item.drops < 2 ^ 32
  pub time : item.time < 2 ^ 64
  pub octets : IsOctets item.octets
  pub within : length item.octets ≤ longest_packet
  pub no_more : length item.octets ≤ item.original

-- the octets of records, one after the other
abbrev pub records_octets : List Record → List ℕ
records_octets items = flat_map record_octets items

-- the file of these records
abbrev pub file_of : List Record → List ℕ
file_of items = file_header ++ records_octets items

-- these octets are the file of these records
pub record IsFile (file : List ℕ) (items : List Record) : Type 0 where
  pub each : AllByRecursion IsRecord items
  pub whole : file ≡ file_of items
