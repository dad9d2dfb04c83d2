-- Packets on a stream of octets, as RFCOMM carries them (IrOBEX 1.5, 2.2: octets 1 and 2 state the length of the whole).
-- The definitions of a stream know no pieces.
use Rattle.std.specs.Prelude.{◌≡◌, ℕ, ◌<◌, ◌≤◌, ◌⊎◌, List, [], ◌∷◌, ◌++◌, length, take, drop, Option, Some, None}
use Rattle.std.specs.List.{flat_map, AllByRecursion}
use Rattle.byteorder.specs.Endian.{big_number}
use Rattle.obex_headers.specs.declared.fault.ObexRefusal.{ObexRefusal}
use Rattle.obex_headers.specs.declared.fault.ObexRefusal.TheVariants.{Short, BadLength, BadHeaderLength, BadText, AboveMaximum, BadVersion}

-- the length that octets state, from the third octet on
abbrev pub stated_len : List ℕ → ℕ
stated_len octets = big_number 2 (drop 1 octets)

-- octets that are a whole packet by their length, which is at least 3 and at most a maximum
abbrev pub IsFramed : ℕ → List ℕ → Type 0
IsFramed maximum octets = (3 ≤ length octets) × (length octets ≤ maximum) × (stated_len octets ≡ length octets)

-- less than a whole packet: no length yet, or fewer octets than the length states
abbrev pub IsPartial : ℕ → List ℕ → Type 0
IsPartial maximum octets = (length octets < 3) ⊎ ((3 ≤ stated_len octets) × (stated_len octets ≤ maximum) × (length octets < stated_len octets))

-- octets that begin no packet: first a length above the maximum is refused, and then one below 3
abbrev pub BeginsNone : ℕ → List ℕ → ObexRefusal → Type 0
BeginsNone maximum octets AboveMaximum = (3 ≤ length octets) × (maximum < stated_len octets)
BeginsNone maximum octets BadLength = (3 ≤ length octets) × (stated_len octets ≤ maximum) × (stated_len octets < 3)
BeginsNone maximum octets Short = ⊥
BeginsNone maximum octets BadHeaderLength = ⊥
BeginsNone maximum octets BadText = ⊥
BeginsNone maximum octets BadVersion = ⊥

-- whole packets, one behind the other
abbrev pub packets_joined : List (List ℕ) → List ℕ
packets_joined packets = flat_map (λ packet. packet) packets

-- a stream is these packets, and then less than a whole one
pub record Splits (maximum : ℕ) (stream : List ℕ) (packets : List (List ℕ)) (rest : List ℕ) : Type 0 where
  pub whole : stream ≡ packets_joined packets ++ rest
  pub each : AllByRecursion (IsFramed maximum) packets
  pub partial : IsPartial maximum rest

-- a stream is these packets, and then octets that begin none
pub record BreaksOff (maximum : ℕ) (stream : List ℕ) (packets : List (List ℕ)) (refusal : ObexRefusal) : Type 0 where
  pub rest : List ℕ
  pub whole : stream ≡ packets_joined packets ++ rest
  pub each : AllByRecursion (IsFramed maximum) packets
  pub none : BeginsNone maximum rest refusal

-- ---- one call

-- what an assembler is: its maximum, the octets of a packet that is not whole yet, and the refusal that it gave
pub record Assembling : Type 0 where
  pub maximum : ℕ
  pub held : List ℕ
  pub refusal : Option ObexRefusal

-- what a call answers: a packet and how many octets of the piece were used, that all were used, or a refusal
pub data Answer : Type 0 where
  Packet : (octets : List ℕ) → (used : ℕ) → Answer
  More : Answer
  Refused : (refusal : ObexRefusal) → Answer

abbrev pub Answers : Assembling → List ℕ → Answer → Assembling → Type 0
Answers old piece (Packet octets used) new = (old.refusal ≡ None) × (0 < used) × (used ≤ length piece) × (octets ≡ old.held ++ take used piece) × IsFramed old.maximum octets × (new ≡ record old { held = [] })
Answers old piece More new = (old.refusal ≡ None) × IsPartial old.maximum (old.held ++ piece) × (new ≡ record old { held = old.held ++ piece })
Answers old piece (Refused refusal) new = ((old.refusal ≡ Some refusal) × (new ≡ old))
    ⊎ ((old.refusal ≡ None) × BeginsNone old.maximum (old.held ++ piece) refusal × (new ≡ record old { refusal = Some refusal }))

-- ---- any pieces

-- a call and its answer
pub record Call : Type 0 where
  pub piece : List ℕ
  pub answer : Answer

-- calls, one after the other
abbrev pub IsRun : Assembling → List Call → Assembling → Type 0
IsRun old [] new = new ≡ old
IsRun old (call ∷ calls) new = (mid : Assembling) × Answers old call.piece call.answer mid × IsRun mid calls new

-- the octets of a piece that a call took
abbrev pub taken_by : Answer → List ℕ → List ℕ
taken_by (Packet octets used) piece = take used piece
taken_by More piece = piece
taken_by (Refused refusal) piece = []

abbrev pub taken : Call → List ℕ
taken call = taken_by call.answer call.piece

-- the packet that a call gave
abbrev pub given_by : Answer → List (List ℕ)
given_by (Packet octets used) = octets ∷ []
given_by More = []
given_by (Refused refusal) = []

abbrev pub given : Call → List (List ℕ)
given call = given_by call.answer

-- an assembler that heard nothing
abbrev pub fresh : ℕ → Assembling
fresh maximum = record { maximum = maximum; held = []; refusal = None }

-- However a stream is cut into pieces: the packets given are those of the octets taken, without a whole one left over;
-- a refusal comes where behind them octets begin no packet; and no stream is read in two ways.
pub record AnyPieces : Type 0 where
  pub split : (maximum : ℕ) (calls : List Call) (new : Assembling) → IsRun (fresh maximum) calls new → new.refusal ≡ None →
      Splits maximum (flat_map taken calls) (flat_map given calls) new.held
  pub refused : (maximum : ℕ) (calls : List Call) (piece : List ℕ) (refusal : ObexRefusal) (mid new : Assembling) → IsRun (fresh maximum) calls mid → mid.refusal ≡ None →
      Answers mid piece (Refused refusal) new → BreaksOff maximum (flat_map taken calls ++ piece) (flat_map given calls) refusal
  pub for_good : (old new : Assembling) (piece : List ℕ) (answer : Answer) (refusal : ObexRefusal) → old.refusal ≡ Some refusal → Answers old piece answer new → (answer ≡ Refused refusal) × (new ≡ old)
  pub one_way : (maximum : ℕ) (stream : List ℕ) (packets others : List (List ℕ)) (rest rest' : List ℕ) → Splits maximum stream packets rest → Splits maximum stream others rest' → (packets ≡ others) × (rest ≡ rest')
  pub no_both : (maximum : ℕ) (stream : List ℕ) (packets others : List (List ℕ)) (rest : List ℕ) (refusal : ObexRefusal) → Splits maximum stream packets rest → BreaksOff maximum stream others refusal → ⊥
