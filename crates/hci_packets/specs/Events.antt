-- The table of events (Core 5.1, Volume 2 Part E, 7.7): each event with its code and its parameters. Numbers
-- stand with their low octet first.
use Rattle.std.specs.Prelude.{◌≡◌, ℕ, ◌*◌, ◌<◌, ◌^◌, List, [], ◌∷◌, ◌++◌, length, drop, Option, Some, None, Bool, false, ◌||◌, slice_index, ◌==◌, nat_lt, if◌then◌else◌}
use Rattle.std.specs.List.{AllByRecursion, list_any}
use Rattle.byteorder.specs.Endian.{little_number, little_bytes}
use Rattle.bt_base.specs.Octets.{le16}
use Rattle.bt_base.specs.Numbers.{IsHandle}
use Rattle.hci_packets.specs.declared.event.Event.{Event}
use Rattle.hci_packets.specs.declared.event.Event.TheVariants as lent
use Rattle.hci_packets.specs.declared.refusal.HciRefusal.{HciRefusal}
use Rattle.hci_packets.specs.declared.refusal.HciRefusal.TheVariants.{ShortParams, BadHandle}
use Rattle.hci_packets.specs.Refusals.{wrong_length, wrong_handle, bad_handle}

-- an event without where its parameters lie in memory
pub data PlainEvent : Type 0 where
  ConnectionComplete : (status handle : ℕ) (address : List ℕ) (link encryption : ℕ) → PlainEvent
  ConnectionRequest : (address : List ℕ) (class link : ℕ) → PlainEvent
  DisconnectionComplete : (status handle reason : ℕ) → PlainEvent
  CommandComplete : (number opcode : ℕ) (returned : List ℕ) → PlainEvent
  CommandStatus : (status number opcode : ℕ) → PlainEvent
  CompletedPackets : (count : ℕ) (entries : List ℕ) → PlainEvent
  Other : (code : ℕ) (params : List ℕ) → PlainEvent

abbrev pub plain_event : Event → PlainEvent
plain_event (lent.ConnectionComplete status handle address link encryption) =
    ConnectionComplete status handle address link encryption
plain_event (lent.ConnectionRequest address class link) = ConnectionRequest address class link
plain_event (lent.DisconnectionComplete status handle reason) = DisconnectionComplete status handle reason
plain_event (lent.CommandComplete number opcode returned) = CommandComplete number opcode returned.now
plain_event (lent.CommandStatus status number opcode) = CommandStatus status number opcode
plain_event (lent.CompletedPackets count entries) = CompletedPackets count entries.now
plain_event (lent.Other code params) = Other code params.now

-- the code of an event
abbrev pub code_of : PlainEvent → ℕ
code_of (ConnectionComplete status handle address link encryption) = 0x03
code_of (ConnectionRequest address class link) = 0x04
code_of (DisconnectionComplete status handle reason) = 0x05
code_of (CommandComplete number opcode returned) = 0x0E
code_of (CommandStatus status number opcode) = 0x0F
code_of (CompletedPackets count entries) = 0x13
code_of (Other code params) = code

-- the three octets of a class of device, the low octet first
abbrev pub le24 : ℕ → List ℕ
le24 n = little_bytes 3 n

-- the parameters of an event
abbrev pub event_params : PlainEvent → List ℕ
event_params (ConnectionComplete status handle address link encryption) =
    status ∷ (le16 handle ++ (address ++ link ∷ encryption ∷ []))
event_params (ConnectionRequest address class link) = address ++ (le24 class ++ link ∷ [])
event_params (DisconnectionComplete status handle reason) = status ∷ (le16 handle ++ reason ∷ [])
event_params (CommandComplete number opcode returned) = number ∷ (le16 opcode ++ returned)
event_params (CommandStatus status number opcode) = status ∷ number ∷ le16 opcode
event_params (CompletedPackets count entries) = count ∷ entries
event_params (Other code params) = params

-- the handle and the number of packets of each entry of Number Of Completed Packets (7.7.19)
abbrev pub entries_of : List ℕ → List (ℕ × ℕ)
entries_of (a ∷ b ∷ c ∷ d ∷ rest) = (little_number 2 (a ∷ b ∷ []), little_number 2 (c ∷ d ∷ [])) ∷ entries_of rest
entries_of _ = []

-- whether the table has a row of that code
abbrev pub has_event : ℕ → Bool
has_event code =
    code == 0x03 || code == 0x04 || code == 0x05 || code == 0x0E || code == 0x0F || code == 0x13

-- the values that a row allows; another code is one that no row has. The handle of a connection that was not
-- made has no meaning; a class of device has 24 bits
abbrev pub AllowsEvent : PlainEvent → Type 0
AllowsEvent (ConnectionComplete status handle address link encryption) = status ≡ 0 → IsHandle handle
AllowsEvent (ConnectionRequest address class link) = class < 2 ^ 24
AllowsEvent (CompletedPackets count entries) =
    (length entries ≡ 4 * count) × AllByRecursion (λ entry. IsHandle entry.0) (entries_of entries)
AllowsEvent (Other code params) = has_event code ≡ false
AllowsEvent _ = Unit {0}

-- each field is a number or an address of its width
abbrev pub FitsEvent : PlainEvent → Type 0
FitsEvent (ConnectionComplete status handle address link encryption) = (handle < 2 ^ 16) × (length address ≡ 6)
FitsEvent (ConnectionRequest address class link) = length address ≡ 6
FitsEvent (DisconnectionComplete status handle reason) = IsHandle handle
FitsEvent (CommandComplete number opcode returned) = opcode < 2 ^ 16
FitsEvent (CommandStatus status number opcode) = opcode < 2 ^ 16
FitsEvent _ = Unit {0}

-- an event, and the code and the parameters that stand for it
pub record IsEvent (event : PlainEvent) (code : ℕ) (params : List ℕ) : Type 0 where
  pub number : code ≡ code_of event
  pub octets : params ≡ event_params event
  pub fits : FitsEvent event
  pub allowed : AllowsEvent event

-- the handle of a connection is refused where the connection was made
abbrev pub wrong_connection : ℕ → ℕ → Option HciRefusal
wrong_connection status handle = if status == 0 then wrong_handle handle else None

-- Number Of Completed Packets has an octet with the count, and four octets for each entry
abbrev pub wrong_entries : List ℕ → Option HciRefusal
wrong_entries [] = Some ShortParams
wrong_entries (count ∷ entries) =
    wrong_length (4 * count) entries (if list_any (λ entry. bad_handle entry.0) (entries_of entries) then Some BadHandle else None)

-- what is refused of the parameters of a code
abbrev pub event_refusal : ℕ → List ℕ → Option HciRefusal
event_refusal code params =
    if code == 0x03 then wrong_length 11 params (wrong_connection (slice_index params 0) (little_number 2 (drop 1 params)))
    else (if code == 0x04 then wrong_length 10 params None
    else (if code == 0x05 then wrong_length 4 params (wrong_handle (little_number 2 (drop 1 params)))
    else (if code == 0x0E then (if nat_lt (length params) 3 then Some ShortParams else None)
    else (if code == 0x0F then wrong_length 4 params None
    else (if code == 0x13 then wrong_entries params else None)))))
