-- How a decoder goes through a stream octet by octet, and what its calls answer.
use Rattle.std.specs.Prelude.{ℕ, ◌+◌, ◌-◌, ◌≡◌, ◌<◌, ◌≤◌, ◌==◌, nat_lt, List, [], ◌∷◌, ◌++◌, length, take, Option, Some, None, Result, Ok, Err, if◌then◌else◌}
use Rattle.std.specs.List.{flat_map}
use Rattle.wire_packets.specs.declared.refusal.WireRefusal.TheVariants.{BadEscape, BadLength}
use Rattle.wire_packets.specs.declared.stepping.Place.{Place}
use Rattle.wire_packets.specs.declared.stepping.Place.TheVariants.{Outside, Inside, Escaping}
use Rattle.wire_packets.specs.declared.stepping.Stepped.{Stepped}
use Rattle.wire_packets.specs.declared.stepping.Stepped.TheVariants.{On}
use Rattle.wire_packets.specs.declared.stepping.Stepped.TheVariants as stepping
use Rattle.wire_packets.specs.declared.stepping.Advanced.{Advanced}
use Rattle.wire_packets.specs.declared.stepping.Advanced.TheVariants as advanced
use Rattle.wire_packets.specs.declared.slip.SlipTaken.{SlipTaken}
use Rattle.wire_packets.specs.declared.slip.SlipTaken.TheVariants.{Packet, Bad, More}
use Rattle.wire_packets.specs.Slip.{delimiter, escape, longest, Found}

-- where a decoder stands in a stream, and the octets that it has of the packet there
pub record Slipping : Type 0 where
  pub place : Place
  pub held : List ℕ

abbrev pub standing : Place → List ℕ → Slipping
standing place held = record { place = place; held = held }

-- what an octet makes of a decoder, and what it completes
pub record Step : Type 0 where
  pub next : Slipping
  pub found : List Found

abbrev pub step_to : Place → List ℕ → List Found → Step
step_to place held found = record { next = standing place held; found = found }

-- one more octet of the packet
abbrev pub grown : List ℕ → ℕ → Step
grown held octet = if nat_lt (length held) longest then step_to Inside (held ++ octet ∷ []) [] else step_to Outside [] (Err BadLength ∷ [])

-- the delimiter that ends a packet and may begin the next; nothing is no packet
abbrev pub ended : List ℕ → Step
ended [] = step_to Inside [] []
ended (octet ∷ octets) = step_to Inside [] (Ok (octet ∷ octets) ∷ [])

abbrev pub stepped : Place → List ℕ → ℕ → Step
stepped Outside held octet = if octet == delimiter then step_to Inside [] [] else step_to Outside [] []
stepped Inside held octet = if octet == delimiter then ended held else if octet == escape then step_to Escaping held [] else grown held octet
stepped Escaping held octet = if octet == 0xDC then grown held delimiter else if octet == 0xDD then grown held escape
    else step_to (if octet == delimiter then Inside else Outside) [] (Err BadEscape ∷ [])

-- what octets make of a decoder, and what they complete, in order
abbrev pub after : Slipping → List ℕ → Slipping
after slipping [] = slipping
after slipping (octet ∷ octets) = after (stepped slipping.place slipping.held octet).next octets

abbrev pub found : Slipping → List ℕ → List Found
found slipping [] = []
found slipping (octet ∷ octets) = (stepped slipping.place slipping.held octet).found ++ found (stepped slipping.place slipping.held octet).next octets

-- the first n octets complete exactly this, with the last of them
pub record Completes (old : Slipping) (piece : List ℕ) (n : ℕ) (what : Found) (new : Slipping) : Type 0 where
  pub some : 0 < n
  pub within : n ≤ length piece
  pub before : found old (take (n - 1) piece) ≡ []
  pub there : found old (take n piece) ≡ what ∷ []
  pub becomes : new ≡ after old (take n piece)

-- What the code of one octet, and of a piece, leaves in the decoder's buffer, whose octets were held. Behind a packet
-- it keeps the packet, and behind a fault it means nothing.
abbrev pub Grows : List ℕ → ℕ → Stepped → List ℕ → Type 0
Grows held octet (On next) buffer = grown held octet ≡ step_to next buffer []
Grows held octet stepping.Packet buffer = ⊥
Grows held octet (stepping.Bad refusal next) buffer = grown held octet ≡ step_to next [] (Err refusal ∷ [])

abbrev pub Steps : Place → List ℕ → ℕ → Stepped → List ℕ → Type 0
Steps place held octet (On next) buffer = stepped place held octet ≡ step_to next buffer []
Steps place held octet stepping.Packet buffer = stepped place held octet ≡ step_to Inside [] (Ok buffer ∷ [])
Steps place held octet (stepping.Bad refusal next) buffer = stepped place held octet ≡ step_to next [] (Err refusal ∷ [])

abbrev pub Goes : Place → List ℕ → List ℕ → Advanced → List ℕ → Type 0
Goes place held piece (advanced.Packet n) buffer = Completes (standing place held) piece n (Ok buffer) (standing Inside [])
Goes place held piece (advanced.Bad refusal n next) buffer = Completes (standing place held) piece n (Err refusal) (standing next [])
Goes place held piece (advanced.More next) buffer = (found (standing place held) piece ≡ []) × (after (standing place held) piece ≡ standing next buffer)

-- A decoder `old` takes a piece, and is `new`: it completes a packet or meets a fault within it, or takes all of it.
abbrev pub Takes : Slipping → List ℕ → SlipTaken → Slipping → Type 0
Takes old piece (Packet octets n) new = Completes old piece n (Ok octets.now) new
Takes old piece (Bad refusal n) new = Completes old piece n (Err refusal) new
Takes old piece More new = (found old piece ≡ []) × (new ≡ after old piece)

-- the octets of the piece that were used, and what was found
abbrev pub used : List ℕ → SlipTaken → List ℕ
used piece (Packet octets n) = take n piece
used piece (Bad refusal n) = take n piece
used piece More = piece

abbrev pub given : SlipTaken → List Found
given (Packet octets n) = Ok octets.now ∷ []
given (Bad refusal n) = Err refusal ∷ []
given More = []

-- The decoder `old` takes one piece after the other, each with what it answers, and is `new`. What it leaves of a
-- piece may be the next piece.
abbrev pub TakesAll : Slipping → List (List ℕ × SlipTaken) → Slipping → Type 0
TakesAll old [] new = new ≡ old
TakesAll old (call ∷ calls) new = (between : Slipping) × Takes old call.0 call.1 between × TakesAll between calls new

abbrev pub all_used : List (List ℕ × SlipTaken) → List ℕ
all_used calls = flat_map (λ call. used call.0 call.1) calls

abbrev pub all_given : List (List ℕ × SlipTaken) → List Found
all_given calls = flat_map (λ call. given call.1) calls
