-- What holds of packets, streams and framers whatever they are.
use Rattle.std.specs.Prelude.{ℕ, ◌≡◌, ◌≤◌, List, [], ◌++◌, length, None, Result, Ok, Err}
use Rattle.bt_base.specs.Octets.{IsOctets}
use Rattle.h4_framing.specs.declared.refusal.H4Refusal.{H4Refusal}
use Rattle.h4_framing.specs.declared.refusal.H4Refusal.TheVariants.{Truncated, BadIndicator, AclTooLong}
use Rattle.h4_framing.specs.declared.leading.Leading.{Leading}
use Rattle.h4_framing.specs.declared.leading.Leading.TheVariants as leading
use Rattle.h4_framing.specs.declared.framer.Taken.{Taken}
use Rattle.h4_framing.specs.Packets.{Packet, packet, spelling, spellings, IsPacket}
use Rattle.h4_framing.specs.Stream.{Begins, Ending, Whole, Cut, Fault, Reads, IsFaultPlace}
use Rattle.h4_framing.specs.Leading.{IsLeading}
use Rattle.h4_framing.specs.Framing.{Framing, counted}
use Rattle.h4_framing.specs.Taking.{Takes, EndsWith}
use Rattle.h4_framing.specs.Accounts.{Accounts, given, used, TakesAll, all_used, all_given}

-- No packet's spelling begins another's.
abbrev pub NoSpellingBeginsAnother : Type 0
NoSpellingBeginsAnother = (limit : ℕ) (p q : Packet) (x y : List ℕ) → IsPacket limit p → IsPacket limit q → spelling p ++ x ≡ spelling q ++ y → (p ≡ q) × (x ≡ y)

-- it is that packet whole
abbrev pub IsWholeOf : Packet → Leading → Type 0
IsWholeOf p (leading.Whole unit n) = (packet unit ≡ p) × (n ≡ length (spelling p))
IsWholeOf p leading.Partial = ⊥
IsWholeOf p (leading.Refused refusal place) = ⊥

-- What is written is read again, whatever stands behind it.
abbrev pub WrittenIsRead : Type 0
WrittenIsRead = (limit : ℕ) (p : Packet) (more : List ℕ) (found : Leading) → IsPacket limit p → IsLeading limit (spelling p ++ more) found → IsWholeOf p found

-- A stream is read in one way.
abbrev pub OneReading : Type 0
OneReading = (limit : ℕ) (stream : List ℕ) (ps qs : List Packet) (e f : Ending) → Reads limit stream ps e → Reads limit stream qs f → (ps ≡ qs) × (e ≡ f)

-- Each list of octets is read.
abbrev pub EachStreamIsRead : Type 0
EachStreamIsRead = (limit : ℕ) (stream : List ℕ) → 255 ≤ limit → IsOctets stream → (packets : List Packet) × (ending : Ending) × Reads limit stream packets ending

-- What ends with its last packet, or within a packet, begins a list of packets.
abbrev pub SoundStreamBegins : Type 0
SoundStreamBegins = (limit : ℕ) (stream : List ℕ) (packets : List Packet) → ((Reads limit stream packets Whole → Begins limit stream) × (Reads limit stream packets Cut → Begins limit stream))

-- A fault stands at the first place where the stream begins no list of packets.
abbrev pub FaultIsFirstPlace : Type 0
FaultIsFirstPlace = (limit : ℕ) (stream : List ℕ) (packets : List Packet) (refusal : H4Refusal) (place : ℕ) → 255 ≤ limit → Reads limit stream packets (Fault refusal place) → IsFaultPlace limit stream place

-- A new framer was fed nothing and gave nothing.
abbrev pub NewAccounts : Type 0
NewAccounts = (limit : ℕ) → Accounts [] [] (record { limit = limit; before = 0; held = []; fault = None })

-- Each piece is accounted for.
abbrev pub TakingAccounts : Type 0
TakingAccounts = (fed piece : List ℕ) (packets : List Packet) (old new : Framing) (taken : Taken) → Accounts fed packets old → Takes old piece taken new → Accounts (fed ++ used piece taken) (packets ++ given taken) new

-- However a stream is cut into pieces, a framer accounts for all of it.
abbrev pub AnyPiecesAccount : Type 0
AnyPiecesAccount = (limit : ℕ) (calls : List (List ℕ × Taken)) (new : Framing) → TakesAll (record { limit = limit; before = 0; held = []; fault = None }) calls new → Accounts (all_used calls) (all_given calls) new

-- what an end of the stream tells of the octets that were fed
abbrev pub EndReads : ℕ → List ℕ → List Packet → Result (Unit {0}) (H4Refusal × ℕ) → Type 0
EndReads limit fed packets (Ok _) = Reads limit fed packets Whole
EndReads limit fed packets (Err (Truncated, place)) = Reads limit fed packets Cut × (place ≡ counted 0 (length (spellings packets)))
EndReads limit fed packets (Err (BadIndicator, place)) = (fault : ℕ) × Reads limit fed packets (Fault BadIndicator fault) × (place ≡ counted 0 fault)
EndReads limit fed packets (Err (AclTooLong, place)) = (fault : ℕ) × Reads limit fed packets (Fault AclTooLong fault) × (place ≡ counted 0 fault)

-- At the end the packets that were given are those of all that was fed, and the answer is how it ends.
abbrev pub EndAccounts : Type 0
EndAccounts = (fed : List ℕ) (packets : List Packet) (framing : Framing) (ended : Result (Unit {0}) (H4Refusal × ℕ)) → Accounts fed packets framing → EndsWith framing ended → EndReads framing.limit fed packets ended

-- However the stream goes on, the packets that were given are the first of its packets.
abbrev pub GivenComeFirst : Type 0
GivenComeFirst = (fed more : List ℕ) (packets all : List Packet) (framing : Framing) (ending : Ending) → Accounts fed packets framing → Reads framing.limit (fed ++ more) all ending → (rest : List Packet) × (all ≡ packets ++ rest)
