-- What a framer makes of a piece of the stream.
use Rattle.std.specs.Prelude.{ℕ, ◌≡◌, ◌≢◌, ◌+◌, ◌<◌, ◌≤◌, List, [], ◌++◌, length, take, None, Some, Result, Ok, Err, MatchOption}
use Rattle.h4_framing.specs.declared.refusal.H4Refusal.{H4Refusal}
use Rattle.h4_framing.specs.declared.refusal.H4Refusal.TheVariants.{Truncated}
use Rattle.h4_framing.specs.declared.framer.Taken.{Taken}
use Rattle.h4_framing.specs.declared.framer.Taken.TheVariants.{Whole, More, Refused}
use Rattle.h4_framing.specs.Packets.{packet, spelling, IsPacket}
use Rattle.h4_framing.specs.Stream.{IsUnfinished, GoesWrong}
use Rattle.h4_framing.specs.Framing.{Framing, counted}

-- The framer `old` takes a piece, and is `new`. What it held and n octets of the piece are a packet; or it
-- holds the piece too, and that is not yet a packet; or the octets go wrong, and then it answers the same for good.
abbrev pub Takes : Framing → List ℕ → Taken → Framing → Type 0
Takes old piece (Whole unit n) new =
    (old.fault ≡ None) × IsPacket old.limit (packet unit) × (0 < n) × (n ≤ length piece)
    × (spelling (packet unit) ≡ old.held ++ take n piece)
    × (new ≡ record old { before = counted old.before (length old.held + n); held = [] })
Takes old piece More new =
    (old.fault ≡ None) × IsUnfinished old.limit (old.held ++ piece) × (new ≡ record old { held = old.held ++ piece })
Takes old piece (Refused refusal place) new =
    MatchOption old.fault
    ((n : ℕ) × GoesWrong old.limit (old.held ++ piece) refusal n × (place ≡ counted old.before n))
    (λ fault. fault ≡ (refusal, place))
    × (new ≡ record old { fault = Some (refusal, place) })

-- What the end of the stream means to a framer: nothing, where no octets are held; a packet that is not whole,
-- which began at the place; or the refusal of before.
abbrev pub EndsWith : Framing → Result (Unit {0}) (H4Refusal × ℕ) → Type 0
EndsWith framing (Ok _) = (framing.fault ≡ None) × (framing.held ≡ [])
EndsWith framing (Err fault) =
    MatchOption framing.fault
    ((framing.held ≢ []) × IsUnfinished framing.limit framing.held × (fault ≡ (Truncated, framing.before)))
    (λ earlier. earlier ≡ fault)
