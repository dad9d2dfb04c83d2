-- What a sink gains from an input whose items are told of (this project's own).
use Rattle.std.specs.Prelude.{ℕ, ◌≡◌, ◌≢◌, ◌+◌, ◌<◌, ◌≤◌, ◌⊎◌, List, [], ◌++◌, length, Option, None, Some, IfSome, Result, Ok, Err, IsErrOf}
use Rattle.bt_base.specs.Counts.{HasRisen}
use Rattle.bt_base.specs.Streams.{gained, GainedFront}
use Rattle.item_stream.specs.declared.end.Ending.{Ending}
use Rattle.item_stream.specs.declared.end.Ending.TheVariants.{Whole, Truncated, TooLong, Refused}
use Rattle.item_stream.specs.declared.end.StreamFault.{StreamFault}
use Rattle.item_stream.specs.declared.end.StreamFault.TheVariants.{ReadFault, WriteFault, NoMemory}
use Rattle.item_stream.specs.declared.teller.Front.{Front}
use Rattle.item_stream.specs.declared.teller.Front.TheVariants as front
use Rattle.item_stream.specs.Telling.{Found, TellsAll}

-- an input has at most that many octets: 64 MiB
abbrev pub input_limit : ℕ
input_limit = 67108864

-- The octets were taken from the front of what a source had left, where it tells that.
abbrev pub Took : Option (List ℕ) → Option (List ℕ) → List ℕ → Type 0
Took None new octets = new ≡ None
Took (Some left) new octets = (rest : List ℕ) × (left ≡ octets ++ rest) × (new ≡ Some rest)

-- Of an input, items with these octets were taken and told of, and the sink gained what was told. Behind them these
-- octets were read, and this is left.
pub record Told {T : Type 0} (has_told : T → List ℕ → List ℕ → Type 0) (input : List ℕ) (now : T) (taken held left : List ℕ) (old new : Option (List ℕ)) : Type 0 where
  pub said : List ℕ
  pub whole : input ≡ (taken ++ held) ++ left
  pub within : length taken + length held ≤ input_limit
  pub told : has_told now taken said
  pub wrote : new ≡ gained old said

-- What was read goes past the greatest length whatever follows: its end is the beginning of an item that does, and
-- the input ends there or was read up to that length; or it ends there behind an item, and the input goes on.
pub data GoesPast {T : Type 0} (finds : T → List ℕ → Front → Type 0) (now : T) (taken held left : List ℕ) : Type 0 where
  Within : (n : ℕ) → Found finds now held (front.Cut n) → input_limit < length taken + n → (left ≡ []) ⊎ (length taken + length held ≡ input_limit) → GoesPast finds now taken held left
  Behind : held ≡ [] → finds now [] front.Nothing → length taken ≡ input_limit → left ≢ [] → GoesPast finds now taken held left

-- How an input ends, and what the sink gained.
abbrev pub Ends : {T : Type 0} → (T → List ℕ → List ℕ → Type 0) → (T → List ℕ → Front → Type 0) → T → List ℕ → Option (List ℕ) → Option (List ℕ) → Ending → Type 0
Ends has_told finds now input old new Whole = Told has_told input now input [] [] old new × finds now [] front.Nothing
Ends has_told finds now input old new (Truncated place) =
    (taken held : List ℕ) × Told has_told input now taken held [] old new × ((n : ℕ) × Found finds now held (front.Cut n) × (length taken + n ≤ input_limit)) × (place ≡ length taken)
Ends has_told finds now input old new TooLong = (taken held left : List ℕ) × Told has_told input now taken held left old new × GoesPast finds now taken held left
Ends has_told finds now input old new (Refused place) = (taken held left : List ℕ) × Told has_told input now taken held left old new × Found finds now held front.Refused × (place ≡ length taken)

-- No whole item stands at the end of what was read.
abbrev pub IsShort : {T : Type 0} → (T → List ℕ → Front → Type 0) → T → List ℕ → Type 0
IsShort finds now held = Found finds now held front.Nothing ⊎ ((n : ℕ) × Found finds now held (front.Cut n))

-- All items that were read are told of: a fault of the source loses nothing.
abbrev pub ToldRead : {T : Type 0} → (T → List ℕ → List ℕ → Type 0) → (T → List ℕ → Front → Type 0) → T → List ℕ → Option (List ℕ) → Option (List ℕ) → Option (List ℕ) → Type 0
ToldRead has_told finds now input left old new =
    (taken held rest : List ℕ) × Told has_told input now taken held rest old new × (left ≡ Some rest) × IsShort finds now held

-- A front was written of what some teller tells of items that the input begins with.
pub record FrontTold {T : Type 0} (has_told : T → List ℕ → List ℕ → Type 0) (input : List ℕ) (old new : Option (List ℕ)) : Type 0 where
  pub then_ : T
  pub taken : List ℕ
  pub left : List ℕ
  pub said : List ℕ
  pub whole : input ≡ taken ++ left
  pub within : length taken ≤ input_limit
  pub told : has_told then_ taken said
  pub wrote : GainedFront old new said

-- What a sink gains from an input, of which the source then has `left`.
abbrev pub Runs : {T : Type 0} → (T → List ℕ → List ℕ → Type 0) → (T → List ℕ → Front → Type 0) → T → List ℕ → Option (List ℕ) → Option (List ℕ) → Option (List ℕ) → Result Ending StreamFault → Type 0
Runs has_told finds now input left old new (Ok ending) = Ends has_told finds now input old new ending
Runs has_told finds now input left old new (Err ReadFault) = ToldRead has_told finds now input left old new
Runs has_told finds now input left old new (Err WriteFault) = FrontTold has_told input old new
Runs has_told finds now input left old new (Err NoMemory) = FrontTold has_told input old new

-- Who is to blame for a fault: one of reading comes only where the source's count of faults rose, one of writing
-- only where the sink's did, and a count that rises is answered.
pub record IsBlamed (source source' sink sink' : ℕ) (of_reading of_writing : Type 0) : Type 0 where
  pub source_stays : source ≤ source'
  pub sink_stays : sink ≤ sink'
  pub read : of_reading → HasRisen source source'
  pub write : of_writing → HasRisen sink sink'
  pub only_read : source < source' → of_reading
  pub only_write : sink < sink' → of_writing

abbrev pub Blames : {A : Type 0} → ℕ → ℕ → ℕ → ℕ → Result A StreamFault → Type 0
Blames source source' sink sink' result = IsBlamed source source' sink sink' (IsErrOf result ReadFault) (IsErrOf result WriteFault)

-- A count that rises in a call is answered so. It never falls.
pub record IsAnswered (count count' : ℕ) (answer : Type 0) : Type 0 where
  pub stays : count ≤ count'
  pub only : count < count' → answer

-- the fault is not of the sink; not of the source
abbrev pub IsOfSource : StreamFault → Type 0
IsOfSource ReadFault = Unit {0}
IsOfSource WriteFault = ⊥
IsOfSource NoMemory = Unit {0}

abbrev pub IsOfSink : StreamFault → Type 0
IsOfSink ReadFault = ⊥
IsOfSink WriteFault = Unit {0}
IsOfSink NoMemory = Unit {0}

-- What a run has come to between two pieces: these octets are held, and nothing is known of what stands at their front.
pub record Standing {T : Type 0} (has_told : T → List ℕ → List ℕ → Type 0) (input left old new : Option (List ℕ)) (now : T) (held : List ℕ) (fed : ℕ) : Type 0 where
  pub taken : List ℕ
  pub said : List ℕ
  pub took : Took input left (taken ++ held)
  pub count : length taken + length held ≡ fed
  pub within : fed ≤ input_limit
  pub told : has_told now taken said
  pub written : new ≡ gained old said

-- One piece more was read, or the run ended: from each standing it leads to the next one, or to what the sink gains from
-- the whole input.
abbrev pub Steps : {T : Type 0} → (T → T → List ℕ → List ℕ → Type 0) → (T → List ℕ → Front → Type 0) → Option (List ℕ) → Option (List ℕ) → Option (List ℕ) → Option (List ℕ) → T → T → List ℕ → List ℕ → ℕ → ℕ → Result (Option Ending) StreamFault → Type 0
Steps {T} has_told finds left left' new new' now now' held held' fed fed' (Ok None) =
    (fed < fed') × (fed' ≤ input_limit) × (length held' ≤ fed')
    × ((first : T) (input old : Option (List ℕ)) → Standing (has_told first) input left old new now held fed → Standing (has_told first) input left' old new' now' held' fed')
Steps {T} has_told finds left left' new new' now now' held held' fed fed' (Ok (Some ending)) =
    (first : T) (input old : Option (List ℕ)) → Standing (has_told first) input left old new now held fed → IfSome input (λ all. Ends (has_told first) finds now' all old new' ending)
Steps {T} has_told finds left left' new new' now now' held held' fed fed' (Err fault) =
    (first : T) (input old : Option (List ℕ)) → Standing (has_told first) input left old new now held fed → IfSome input (λ all. Runs (has_told first) finds now' all left' old new' (Err fault))

-- How an input ends that was read to its end; the next item begins at that place.
abbrev pub EndsAt : Front → ℕ → Ending → Type 0
EndsAt (front.Item n) place ending = Unit {0}
EndsAt (front.Cut n) place ending = ((place + n ≤ input_limit) × (ending ≡ Truncated place)) ⊎ ((input_limit < place + n) × (ending ≡ TooLong))
EndsAt front.Nothing place ending = ending ≡ Whole
EndsAt front.Refused place ending = ending ≡ Refused place

-- How an input ends that was read up to the greatest length, where this is left.
abbrev pub EndsAtLimit : Front → Option (List ℕ) → Ending → Type 0
EndsAtLimit (front.Item n) left ending = Unit {0}
EndsAtLimit (front.Cut n) left ending = ending ≡ TooLong
EndsAtLimit front.Nothing left ending = ((ending ≡ Whole) × IfSome left (λ octets. octets ≡ [])) ⊎ ((ending ≡ TooLong) × IfSome left (λ octets. octets ≢ []))
EndsAtLimit front.Refused left ending = Unit {0}

-- The items that are held were told of and what was told was written, or a front of it was; or nothing was written.
abbrev pub Writes : {T : Type 0} → (T → T → List ℕ → List ℕ → Type 0) → (T → List ℕ → Front → Type 0) → T → T → List ℕ → List ℕ → Option (List ℕ) → Option (List ℕ) → Result Front StreamFault → Type 0
Writes has_told finds old new held held' written written' (Ok found) = (text : List ℕ) × TellsAll has_told finds old new held held' [] text found × (written' ≡ gained written text)
Writes has_told finds old new held held' written written' (Err fault) =
    (written' ≡ written) ⊎ ((rest text : List ℕ) × (found : Front) × TellsAll has_told finds old new held rest [] text found × GainedFront written written' text)

-- A run from each standing leads to what the sink gains from the whole input.
abbrev pub RunsFrom : {T : Type 0} → (T → T → List ℕ → List ℕ → Type 0) → (T → List ℕ → Front → Type 0) → Option (List ℕ) → Option (List ℕ) → Option (List ℕ) → Option (List ℕ) → T → T → List ℕ → ℕ → Result Ending StreamFault → Type 0
RunsFrom {T} has_told finds left left' new new' now now' held fed result =
    (first : T) (input old : Option (List ℕ)) → Standing (has_told first) input left old new now held fed → IfSome input (λ all. Runs (has_told first) finds now' all left' old new' result)
