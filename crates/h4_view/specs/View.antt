-- The view of a stream of packets: which packets it shows and why it stops (this project's own).
use Rattle.std.specs.Prelude.{ℕ, ◌≡◌, ◌≢◌, ◌+◌, ◌-◌, ◌<◌, ◌≤◌, ◌⊎◌, List, [], ◌++◌, length, take, Option, None, Some, IfSome, Result, Ok, Err, IsErrOf}
use Rattle.std.specs.List.{AllByRecursion}
use Rattle.bt_base.specs.Counts.{HasRisen}
use Rattle.bt_base.specs.Streams.{gained, GainedFront}
use Rattle.h4_framing.specs.declared.refusal.H4Refusal.TheVariants as h4
use Rattle.h4_framing.specs.Packets.{Packet, spelling, spellings, IsPacket}
use Rattle.h4_framing.specs.Framing.{Framing}
use Rattle.h4_framing.specs.Stream.{IsFrontOf, IsUnfinished, IsLeastLength, GoesWrong}
use Rattle.h4_view.specs.declared.refusal.ViewRefusal.{ViewRefusal}
use Rattle.h4_view.specs.declared.refusal.ViewRefusal.TheVariants.{BadIndicator, Truncated, TooLong}
use Rattle.h4_view.specs.declared.refusal.ViewFault.{ViewFault}
use Rattle.h4_view.specs.declared.refusal.ViewFault.TheVariants.{Refused, ReadFault, WriteFault, NoMemory}
use Rattle.h4_view.specs.declared.links.Links.{Links}
use Rattle.h4_view.specs.Details.{Knows}
use Rattle.h4_view.specs.Lines.{lines, refusal_line}

-- an input has at most that many octets: 64 MiB
abbrev pub input_limit : ℕ
input_limit = 67108864

-- an ACL packet may have as many octets as its length field can say
abbrev pub acl_limit : ℕ
acl_limit = 65535

-- no octet that a packet begins with stands there
abbrev pub HasBadIndicator : List ℕ → Type 0
HasBadIndicator rest = GoesWrong acl_limit rest h4.BadIndicator 0

-- The octets from that offset on are the beginning of a packet that may end within the greatest length.
abbrev pub MayEndWithin : ℕ → List ℕ → Type 0
MayEndWithin from octets = (packet : Packet) × IsFrontOf acl_limit octets packet × (from + length (spelling packet) ≤ input_limit)

-- The octets from that offset on are the beginning of a packet, and each that they begin goes past the greatest length.
abbrev pub GoesPast : ℕ → List ℕ → Type 0
GoesPast from octets = IsUnfinished acl_limit octets × ((packet : Packet) → IsFrontOf acl_limit octets packet → input_limit < from + length (spelling packet))

-- Why a view stops at an offset, where this is left of the input. Whoever reads stops at the greatest length.
-- No refusal: nothing is left. A bad indicator stands at the offset. Truncated: the input ends within a packet that
-- may end within the greatest length. Too long: the octets up to the greatest length, or up to the end of the input
-- where that comes first, are the beginning of a packet that goes past the greatest length whatever follows.
abbrev pub Stops : ℕ → List ℕ → Option (ViewRefusal × ℕ) → Type 0
Stops from rest None = rest ≡ []
Stops from rest (Some (BadIndicator, place)) = (place ≡ from) × (from < input_limit) × HasBadIndicator rest
Stops from rest (Some (Truncated, place)) = (place ≡ from) × (rest ≢ []) × MayEndWithin from rest
Stops from rest (Some (TooLong, place)) = (place ≡ input_limit) × (rest ≢ []) × GoesPast from (take (input_limit - from) rest)
Stops from rest (Some (_, place)) = ⊥

-- The input begins with these packets, and they end within the greatest length.
pub record BeginsWith (input : List ℕ) (packets : List Packet) : Type 0 where
  pub each : AllByRecursion (IsPacket acl_limit) packets
  pub within : length (spellings packets) ≤ input_limit
  pub rest : List ℕ
  pub whole : input ≡ spellings packets ++ rest

-- The view of an input shows these packets, and then stops so at what is left of the input.
pub record IsView (input : List ℕ) (packets : List Packet) (verdict : Option (ViewRefusal × ℕ)) : Type 0 where
  pub begins : BeginsWith input packets
  pub stops : Stops (length (spellings packets)) begins.rest verdict

-- the text of a view: a line for each packet, and one for the refusal
abbrev pub verdict_text : Option (ViewRefusal × ℕ) → List ℕ
verdict_text None = []
verdict_text (Some (refusal, place)) = refusal_line refusal place

abbrev pub view_text : List Packet → Option (ViewRefusal × ℕ) → List ℕ
view_text packets verdict = lines [] 0 packets ++ verdict_text verdict

-- A front of the view's text was written: some of the lines of packets that the input begins with, or all lines
-- and some of the refusal.
pub data FrontWritten (old new : Option (List ℕ)) (input : List ℕ) : Type 0 where
  OfLines : (packets : List Packet) → BeginsWith input packets → GainedFront old new (lines [] 0 packets) → FrontWritten old new input
  OfAll : (packets : List Packet) (verdict : Option (ViewRefusal × ℕ)) → IsView input packets verdict → GainedFront old new (view_text packets verdict) → FrontWritten old new input

-- The octets were taken from the front of what a source had left, where it tells that.
abbrev pub Took : Option (List ℕ) → Option (List ℕ) → List ℕ → Type 0
Took None new octets = new ≡ None
Took (Some left) new octets = (rest : List ℕ) × (left ≡ octets ++ rest) × (new ≡ Some rest)

-- All that was read is shown: the input is these octets and what is left of the source, these packets are all whole
-- ones of the octets, and the sink gained their lines.
pub record ShowsRead (input : List ℕ) (left old new : Option (List ℕ)) : Type 0 where
  pub octets : List ℕ
  pub took : Took (Some input) left octets
  pub within : length octets ≤ input_limit
  pub packets : List Packet
  pub each : AllByRecursion (IsPacket acl_limit) packets
  pub rest : List ℕ
  pub whole : octets ≡ spellings packets ++ rest
  pub unfinished : IsUnfinished acl_limit rest
  pub wrote : new ≡ gained old (lines [] 0 packets)

-- What a sink gains from the view of an input, of which the source then has `left`. A fault of the source loses nothing.
abbrev pub Views : List ℕ → Option (List ℕ) → Option (List ℕ) → Option (List ℕ) → Result (Unit {0}) ViewFault → Type 0
Views input left old new (Ok done) = (packets : List Packet) × IsView input packets None × (new ≡ gained old (view_text packets None))
Views input left old new (Err (Refused refusal place)) = (packets : List Packet) × IsView input packets (Some (refusal, place)) × (new ≡ gained old (view_text packets (Some (refusal, place))))
Views input left old new (Err ReadFault) = ShowsRead input left old new
Views input left old new (Err WriteFault) = FrontWritten old new input
Views input left old new (Err NoMemory) = FrontWritten old new input

-- Who is to blame for a fault: one of reading comes only where the source's count of faults rose, one of writing
-- only where the sink's did, and a count that rises is answered.
pub record Blames {A : Type 0} (source source' sink sink' : ℕ) (result : Result A ViewFault) : Type 0 where
  pub source_stays : source ≤ source'
  pub sink_stays : sink ≤ sink'
  pub read : IsErrOf result ReadFault → HasRisen source source'
  pub write : IsErrOf result WriteFault → HasRisen sink sink'
  pub only_read : source < source' → IsErrOf result ReadFault
  pub only_write : sink < sink' → IsErrOf result WriteFault

-- A count that rises in a call is answered so. It never falls.
pub record IsAnswered (count count' : ℕ) (answer : Type 0) : Type 0 where
  pub stays : count ≤ count'
  pub only : count < count' → answer

-- What a sink gains from the packets of an input, before the line of the refusal.
abbrev pub ShowsAll : List ℕ → Option (List ℕ) → Option (List ℕ) → Option (List ℕ) → Result (Option (ViewRefusal × ℕ)) ViewFault → Type 0
ShowsAll input left old new (Ok verdict) = (packets : List Packet) × IsView input packets verdict × (new ≡ gained old (lines [] 0 packets))
ShowsAll input left old new (Err (Refused refusal place)) = ⊥
ShowsAll input left old new (Err ReadFault) = ShowsRead input left old new
ShowsAll input left old new (Err WriteFault) = FrontWritten old new input
ShowsAll input left old new (Err NoMemory) = FrontWritten old new input

-- Why the view of a framer's stream stops where the stream ends.
abbrev pub EndsView : Framing → Option (ViewRefusal × ℕ) → Type 0
EndsView framing None = framing.held ≡ []
EndsView framing (Some (Truncated, place)) = (place ≡ framing.before) × (framing.held ≢ []) × ((n : ℕ) × IsLeastLength framing.limit framing.held n × (framing.before + n ≤ input_limit))
EndsView framing (Some (TooLong, place)) = (place ≡ input_limit) × (framing.held ≢ []) × ((n : ℕ) × IsLeastLength framing.limit framing.held n × (input_limit < framing.before + n))
EndsView framing (Some (_, place)) = ⊥

-- Why it stops where the stream was read up to the greatest length: it ends there, or it is too long.
abbrev pub EndsAtLimit : Framing → Option (List ℕ) → Option (ViewRefusal × ℕ) → Type 0
EndsAtLimit framing left None = (framing.held ≡ []) × IfSome left (λ octets. octets ≡ [])
EndsAtLimit framing left (Some (TooLong, place)) = (place ≡ input_limit) × ((framing.held ≢ []) ⊎ IfSome left (λ octets. octets ≢ []))
EndsAtLimit framing left (Some (_, place)) = ⊥

-- It is a fault of a port, or want of memory, and no refusal of the input.
abbrev pub IsOfPorts : ViewFault → Type 0
IsOfPorts (Refused refusal place) = ⊥
IsOfPorts ReadFault = Unit {0}
IsOfPorts WriteFault = Unit {0}
IsOfPorts NoMemory = Unit {0}

-- It is a fault of the sink, or want of memory.
abbrev pub IsOfSink : ViewFault → Type 0
IsOfSink (Refused refusal place) = ⊥
IsOfSink ReadFault = ⊥
IsOfSink WriteFault = Unit {0}
IsOfSink NoMemory = Unit {0}

-- nothing was read and nothing was shown yet
pub record IsNewView (framing : Framing) (links : Links) (offset fed : ℕ) (text : List ℕ) : Type 0 where
  pub framer : framing ≡ record { limit = acl_limit; before = 0; held = []; fault = None }
  pub knows : Knows [] links
  pub at : offset ≡ 0
  pub unread : fed ≡ 0
  pub untold : text ≡ []

-- The line of the refusal was written, or a front of it and a fault of the sink or want of memory came.
abbrev pub IsRefusal : ViewRefusal → ℕ → Option (List ℕ) → Option (List ℕ) → ViewFault → Type 0
IsRefusal refusal place old new (Refused refusal' place') = (refusal' ≡ refusal) × (place' ≡ place) × (new ≡ gained old (refusal_line refusal place))
IsRefusal refusal place old new ReadFault = ⊥
IsRefusal refusal place old new WriteFault = GainedFront old new (refusal_line refusal place)
IsRefusal refusal place old new NoMemory = GainedFront old new (refusal_line refusal place)
