-- What comes of a stream that a host is fed (this project's own).
use Rattle.std.specs.Prelude.{ℕ, ◌≡◌, ◌≢◌, ◌+◌, ◌<◌, ◌≤◌, ◌⊎◌, List, [], ◌++◌, length, Option, Some, IfSome, Result, Ok, Err}
use Rattle.std.specs.List.{AllByRecursion}
use Rattle.bt_base.specs.Streams.{gained, GainedFront}
use Rattle.h4_framing.specs.declared.refusal.H4Refusal.TheVariants as h4
use Rattle.h4_framing.specs.Packets.{Packet, spelling, spellings, IsPacket}
use Rattle.h4_framing.specs.Stream.{IsUnfinished, IsLeastLength, GoesWrong}
use Rattle.btpush_forms.specs.h4_view.specs.View.{Took}
use Rattle.bt_host.specs.host_link.specs.Lines.{Line}
use Rattle.bt_host.specs.host_link.specs.Hearing.{fault_of}
use Rattle.bt_host.specs.host_link.specs.declared.news.ControllerFault.{ControllerFault}
use Rattle.bt_host.specs.host_link.specs.declared.news.ControllerFault.TheVariants as controller
use Rattle.bt_host.specs.obex_session.specs.Counting as counting
use Rattle.bt_host.specs.host_model.specs.Circumstances.{answers_in}
use Rattle.bt_host.specs.host_model.specs.Profiles.{Profile}
use Rattle.bt_host.specs.Refusals.{acl_limit}
use Rattle.receiving.specs.declared.fault.StreamRefusal.{StreamRefusal}
use Rattle.receiving.specs.declared.fault.StreamRefusal.TheVariants.{BadIndicator, AclTooLong, Truncated, CommandFailed, BadBuffers, TooLong}
use Rattle.receiving.specs.declared.fault.ListenFault.{ListenFault}
use Rattle.receiving.specs.declared.fault.ListenFault.TheVariants.{Refused, ReadFault, WriteFault, NoMemory}
use Rattle.receiving.specs.Turns.{Stand, Posture, Begun, Turn, HasTurns, answers_along, packets_in, said_in}

-- a stream has at most that many octets: 64 MiB
abbrev pub input_limit : ℕ
input_limit = 67108864

-- the octets begin with a packet at which the controller is at fault
pub record BeginsFaulty (line : Line) (octets : List ℕ) (fault : ControllerFault) : Type 0 where
  pub packet : Packet
  pub more : List ℕ
  pub octets_are : octets ≡ spelling packet ++ more
  pub whole : IsPacket acl_limit packet
  pub at_fault : fault_of packet line ≡ Some fault

-- Why a stream is refused at a place. Behind the packets that were heard, which end at `from`, stands `rest` of what the host was fed,
-- `behind` of what was read, and `left` of the source.
abbrev pub RefusedAt : Line → (from : ℕ) → (rest behind : List ℕ) → (left : Option (List ℕ)) → StreamRefusal → ℕ → Type 0
-- no packet begins so
RefusedAt line from rest behind left BadIndicator place = (n : ℕ) × GoesWrong acl_limit rest h4.BadIndicator n × (place ≡ from + n)
-- an ACL packet states a length above the limit
RefusedAt line from rest behind left AclTooLong place = (n : ℕ) × GoesWrong acl_limit rest h4.AclTooLong n × (place ≡ from + n)
-- the source ends within a packet, which may end within the greatest length
RefusedAt line from rest behind left Truncated place =
    (place ≡ from) × (rest ≢ []) × (behind ≡ []) × IfSome left (λ octets. octets ≡ []) × ((n : ℕ) × IsLeastLength acl_limit rest n × (from + n ≤ input_limit))
-- the packet there says that a command failed, or that the controller's buffers are none for a host
RefusedAt line from rest behind left CommandFailed place = (place ≡ from) × ((opcode status : ℕ) × BeginsFaulty line rest (controller.CommandFailed opcode status))
RefusedAt line from rest behind left BadBuffers place = (place ≡ from) × ((size count : ℕ) × BeginsFaulty line rest (controller.BadBuffers size count))
-- the source ends within a packet that would pass the greatest length, or it was read up to that length and does not end there
RefusedAt line from rest behind left TooLong place =
    (place ≡ input_limit)
    × (((rest ≢ []) × (behind ≡ []) × IfSome left (λ octets. octets ≡ []) × ((n : ℕ) × IsLeastLength acl_limit rest n × (input_limit < from + n)))
    ⊎ (IsUnfinished acl_limit rest × (from + length rest ≡ input_limit) × ((rest ≢ []) ⊎ (behind ≢ []))))

-- How it ends: behind whole packets at the end of the source; or at a refusal; or where a port failed.
abbrev pub Ends : Line → (from : ℕ) → (rest behind : List ℕ) → (left : Option (List ℕ)) → Result (Unit {0}) ListenFault → Type 0
Ends line from rest behind left (Ok done) = (rest ≡ []) × (behind ≡ []) × IfSome left (λ octets. octets ≡ [])
Ends line from rest behind left (Err (Refused refusal place)) = RefusedAt line from rest behind left refusal place
Ends line from rest behind left (Err ReadFault) = IsUnfinished acl_limit rest × (behind ≡ [])
Ends line from rest behind left (Err WriteFault) = Unit {0}
Ends line from rest behind left (Err NoMemory) = Unit {0}

-- What the host said is written, all of it; a fault of the sink, and want of memory, leave a front.
abbrev pub Writes : (sink sink' : Option (List ℕ)) → List ℕ → Result (Unit {0}) ListenFault → Type 0
Writes sink sink' said (Err WriteFault) = GainedFront sink sink' said
Writes sink sink' said (Err NoMemory) = GainedFront sink sink' said
Writes sink sink' said result = sink' ≡ gained sink said

-- of want of memory it is not told where the host is then
abbrev pub Unless : Result (Unit {0}) ListenFault → Type 0 → Type 0
Unless (Err NoMemory) told = Unit {0}
Unless result told = told

-- what stands beside a host that is fed: what its sink holds, and both counts of its port
pub record Beside : Type 0 where
  pub sink : Option (List ℕ)
  pub counts : counting.Counts

abbrev pub beside : {P : Type 0} → Option (List ℕ) → (faults shortages : P → ℕ) → P → Beside
beside sink faults shortages port = record { sink = sink; counts = counting.counts_of faults shortages port }

-- A host that was fed these octets took these turns: it heard the packets that they begin with. It is where the turns lead, and the counts of its port
-- say what that answered.
pub record Halts {S : Type 0} (A : Profile S) (first : Begun S) (octets behind : List ℕ) (left : Option (List ℕ)) (stands : Stand S) (before after : Beside) (result : Result (Unit {0}) ListenFault) : Type 0 where
  pub turns : List Turn
  pub last : Posture S
  pub runs : HasTurns A turns first.posture last
  pub each : AllByRecursion (IsPacket acl_limit) (packets_in turns)
  pub rest : List ℕ
  pub whole : octets ≡ spellings (packets_in turns) ++ rest
  pub ends : Ends (last.stands []).line (length (spellings (packets_in turns))) rest behind left result
  pub wrote : Writes before.sink after.sink (first.said ++ said_in turns) result
  pub there : Unless result (stands ≡ last.stands)
  pub answered : Unless result (counting.AreCounted (answers_in (answers_along A turns first.posture last runs)) before.counts after.counts)

-- What comes of a source: its octets are fed to the host, and what this says goes to the sink. `behind` was read and is not looked at.
pub record Comes {S : Type 0} (A : Profile S) (first : Begun S) (source source' : Option (List ℕ)) (stands : Stand S) (before after : Beside) (result : Result (Unit {0}) ListenFault) : Type 0 where
  pub octets : List ℕ
  pub behind : List ℕ
  pub took : Took source source' (octets ++ behind)
  pub within : length octets ≤ input_limit
  pub halts : Halts A first octets behind source' stands before after result
