-- Why a host cannot go on.
use Rattle.std.specs.Prelude.{ℕ, ◌≡◌, ◌++◌, List, [], Option, Some, None, Result, Ok, Err}
use Rattle.h4_framing.specs.Packets.{Packet, spelling, IsPacket}
use Rattle.h4_framing.specs.Stream.{GoesWrong}
use Rattle.h4_framing.specs.Framing.{Framing, counted}
use Rattle.host_link.specs.Lines.{Line}
use Rattle.host_link.specs.Hearing.{fault_of}
use Rattle.host_link.specs.declared.news.ControllerFault.{ControllerFault}
use Rattle.host_link.specs.declared.news.ControllerFault.TheVariants as controller
use Rattle.bt_host.specs.declared.feed_refusal.FeedRefusal.{FeedRefusal}
use Rattle.bt_host.specs.declared.feed_refusal.FeedRefusal.TheVariants.{Transport, CommandFailed, BadBuffers, NoMemory}

-- the longest ACL packet that a host takes, in octets
abbrev pub acl_limit : ℕ
acl_limit = 1021

-- a framer before the first octet
abbrev pub fresh_framing : Framing
fresh_framing = record { limit = acl_limit; before = 0; held = []; fault = None }

-- what is wrong with a packet, and its place
abbrev pub refusal_by : ControllerFault → ℕ → FeedRefusal
refusal_by (controller.CommandFailed opcode status) place = CommandFailed opcode status place
refusal_by (controller.BadBuffers size count) place = BadBuffers size count place

-- a packet at that place is refused, since the controller is at fault
pub record Refuses (packet : Packet) (line : Line) (place : ℕ) (refusal : FeedRefusal) : Type 0 where
  pub fault : ControllerFault
  pub at_fault : fault_of packet line ≡ Some fault
  pub is : refusal ≡ refusal_by fault place

-- the octets at a place begin with a packet that is refused
pub record BeginsRefused (line : Line) (place : ℕ) (octets : List ℕ) (refusal : FeedRefusal) : Type 0 where
  pub packet : Packet
  pub more : List ℕ
  pub octets_are : octets ≡ spelling packet ++ more
  pub whole : IsPacket acl_limit packet
  pub refused : Refuses packet line place refusal

-- The octets at a place begin no packet, or one that is refused.
abbrev pub IsRefused : Line → ℕ → List ℕ → FeedRefusal → Type 0
IsRefused line place octets (Transport refusal fault) = (n : ℕ) × GoesWrong acl_limit octets refusal n × (fault ≡ counted place n)
IsRefused line place octets (CommandFailed opcode status at) = BeginsRefused line place octets (CommandFailed opcode status at)
IsRefused line place octets (BadBuffers size count at) = BeginsRefused line place octets (BadBuffers size count at)
IsRefused line place octets NoMemory = ⊥

-- what a refusal leaves of the framer: where the stream is at fault, it refuses it for good, and a refused packet is used
abbrev pub LeavesFraming : FeedRefusal → Framing → Type 0
LeavesFraming (Transport refusal place) framing = framing.fault ≡ Some (refusal, place)
LeavesFraming (CommandFailed opcode status at) framing = (framing.fault ≡ None) × (framing.held ≡ [])
LeavesFraming (BadBuffers size count at) framing = (framing.fault ≡ None) × (framing.held ≡ [])
LeavesFraming NoMemory framing = Unit {0}

-- why a host cannot go on behind a call that answered this
abbrev pub refusal_in : Result (Unit {0}) FeedRefusal → Option FeedRefusal
refusal_in (Ok _) = None
refusal_in (Err refusal) = Some refusal
