-- The units of a source: how far it was read, and how it ends.
use Rattle.std.specs.Prelude.{ℕ, Bool, true, false, ◌≡◌, ◌<◌, ◌≤◌, ◌+◌, ◌-◌, ◌⊎◌, List, [], ◌∷◌, ◌++◌, length, take, drop, vec_len, Option, None, Some, IfSome, Result, Ok, Err}
use Rattle.std.specs.Option.{option_map}
use Rattle.bt_base.specs.Counts.{HasRisen}
use Rattle.h4_framing.specs.declared.refusal.H4Refusal.{H4Refusal}
use Rattle.h4_framing.specs.declared.refusal.H4Refusal.TheVariants.{Truncated, BadIndicator, AclTooLong}
use Rattle.h4_framing.specs.Packets.{Packet, spelling, spellings, IsPacket}
use Rattle.h4_framing.specs.Stream.{Whole, Cut, Fault, Reads}
use Rattle.h4_framing.specs.Accounts.{Accounts}
use Rattle.three_wire.specs.declared.feed.Feed.{Feed}
use Rattle.three_wire.specs.declared.feed.Found.{Found}
use Rattle.three_wire.specs.declared.feed.Found.TheVariants as found
use Rattle.three_wire.specs.declared.fault.CarryFault.{CarryFault}
use Rattle.three_wire.specs.declared.fault.CarryFault.TheVariants as fault

-- the greatest length of an input
abbrev pub input_limit : ℕ
input_limit = 67108864

-- the greatest number of octets of an ACL packet, with which its payload fits a packet of the line
abbrev pub acl_limit : ℕ
acl_limit = 4091

-- the octets that were read and are not used yet
abbrev pub pending : Feed → List ℕ
pending feed = take (feed.end - feed.at) (drop feed.at feed.piece.items)

pub record HasShape (feed : Feed) : Type 0 where
  pub piece : vec_len feed.piece ≡ 65536
  pub unit : vec_len feed.unit ≡ 4096
  pub within : feed.at ≤ feed.end
  pub fits : feed.end ≤ 65536
  pub limit : feed.framer.limit ≡ acl_limit

-- Of the input, which is told where the source tells it, some octets were used, and these packets are the whole
-- ones of them; others are pending, and the rest is left in the source.
pub record IsFeeding (input left : Option (List ℕ)) (feed : Feed) (packets : List Packet) : Type 0 where
  pub used : List ℕ
  pub accounts : Accounts used packets feed.framer
  pub sound : feed.framer.fault ≡ None
  pub limit : feed.framer.limit ≡ acl_limit
  pub told : input ≡ option_map (λ rest. used ++ (pending feed ++ rest)) left
  pub count : feed.fed ≡ length used + length (pending feed)
  pub within : feed.fed ≤ input_limit

-- The next unit was found, with its octets at the front of the room for one; or none is whole; or the input is
-- refused at a place.
abbrev pub TakesNext : Option (List ℕ) → Option (List ℕ) → Feed → List Packet → Found → Type 0
TakesNext input left feed packets (found.Unit n) = (packet : Packet) × IsFeeding input left feed (packets ++ packet ∷ []) × IsPacket acl_limit packet × (n ≡ length (spelling packet)) × (take n feed.unit.items ≡ spelling packet)
TakesNext input left feed packets found.Nothing = IsFeeding input left feed packets × (pending feed ≡ [])
TakesNext input left feed packets (found.Refused refusal place) = IfSome input (λ all. Reads acl_limit all packets (Fault refusal place)) × (place < input_limit)

-- more octets are there, or the source is at its end
abbrev pub ReadsMore : Option (List ℕ) → Option (List ℕ) → Feed → Feed → List Packet → Result Bool CarryFault → Type 0
ReadsMore input left old new packets (Ok true) = IsFeeding input left new packets
ReadsMore input left old new packets (Ok false) = IsFeeding input left new packets × (pending new ≡ []) × IfSome left (λ rest. rest ≡ [])
ReadsMore input left old new packets (Err why) = Unit {0}

-- each fault of the source has its cause
abbrev pub BlamesSource : {A : Type 0} → ℕ → ℕ → ℕ → ℕ → Result A CarryFault → Type 0
BlamesSource faults faults' shortages shortages' (Ok done) = Unit {0}
BlamesSource faults faults' shortages shortages' (Err fault.ReadFault) = HasRisen faults faults'
BlamesSource faults faults' shortages shortages' (Err fault.NoMemory) = HasRisen shortages shortages'
BlamesSource faults faults' shortages shortages' (Err fault.WriteFault) = ⊥
BlamesSource faults faults' shortages shortages' (Err (fault.Refused refusal place)) = Unit {0}
BlamesSource faults faults' shortages shortages' (Err (fault.TooLong place)) = Unit {0}

abbrev pub IsRefusal : CarryFault → Type 0
IsRefusal (fault.Refused refusal place) = Unit {0}
IsRefusal (fault.TooLong place) = Unit {0}
IsRefusal fault.ReadFault = ⊥
IsRefusal fault.WriteFault = ⊥
IsRefusal fault.NoMemory = ⊥

abbrev pub IsPortFault : CarryFault → Type 0
IsPortFault (fault.Refused refusal place) = ⊥
IsPortFault (fault.TooLong place) = ⊥
IsPortFault fault.ReadFault = Unit {0}
IsPortFault fault.WriteFault = ⊥
IsPortFault fault.NoMemory = Unit {0}

-- An input is refused at a place: it ends within the unit that begins there, which could end within the greatest
-- length; or it goes wrong there, before the greatest length.
abbrev pub RefusesAt : List ℕ → List Packet → H4Refusal → ℕ → Type 0
RefusesAt all packets Truncated place = Reads acl_limit all packets Cut × (place ≡ length (spellings packets)) × (place < input_limit)
RefusesAt all packets BadIndicator place = Reads acl_limit all packets (Fault BadIndicator place) × (place < input_limit)
RefusesAt all packets AclTooLong place = Reads acl_limit all packets (Fault AclTooLong place) × (place < input_limit)

-- how the input, behind these packets, stops a run
abbrev pub StopsAt : List ℕ → List Packet → CarryFault → Type 0
StopsAt all packets (fault.Refused refusal place) = RefusesAt all packets refusal place
StopsAt all packets (fault.TooLong place) = (place ≡ input_limit) × ((input_limit < length all) ⊎ Reads acl_limit all packets Cut)
StopsAt all packets fault.ReadFault = Unit {0}
StopsAt all packets fault.WriteFault = Unit {0}
StopsAt all packets fault.NoMemory = Unit {0}

-- the input begins with these packets
abbrev pub IsFront : List Packet → List ℕ → Type 0
IsFront packets all = (rest : List ℕ) × (all ≡ spellings packets ++ rest)

-- the input is these packets and no more, within the greatest length
pub record IsAll (all : List ℕ) (packets : List Packet) : Type 0 where
  pub reads : Reads acl_limit all packets Whole
  pub within : length all ≤ input_limit

abbrev pub EndsSo : Option (List ℕ) → List Packet → Result (Unit {0}) CarryFault → Type 0
EndsSo input packets (Ok done) = IfSome input (λ all. IsAll all packets)
EndsSo input packets (Err why) = IfSome input (λ all. StopsAt all packets why)

abbrev pub Feeds : Option (List ℕ) → Option (List ℕ) → Feed → List Packet → Result (Option ℕ) CarryFault → Type 0
Feeds input left feed packets (Ok (Some n)) = (packet : Packet) × IsFeeding input left feed (packets ++ packet ∷ []) × IsPacket acl_limit packet × (n ≡ length (spelling packet)) × (take n feed.unit.items ≡ spelling packet)
Feeds input left feed packets (Ok None) = IfSome input (λ all. IsAll all packets) × IfSome left (λ rest. rest ≡ [])
Feeds input left feed packets (Err why) = IfSome input (λ all. StopsAt all packets why)
