-- Laws of the spelling: what is written is read again, and no octets are two packets.
use Rattle.std.specs.Prelude.{◌≡◌, ℕ, ◌<◌, ◌≤◌, ◌^◌, ◌↔◌, List, ◌++◌, length, fold, Ok, Err}
use Rattle.std.specs.List.{AllByRecursion}
use Rattle.bt_base.specs.Octets.{IsOctets}
use Rattle.obex_headers.specs.declared.fault.ObexRefusal.{ObexRefusal}
use Rattle.obex_headers.specs.declared.packet.Phase.{Phase}
use Rattle.obex_headers.specs.Packets.{PlainHeader, PlainPacket, IsHeader, IsPacket, Spells, bare, grown, header_octets, headers_octets, packet_octets, text_octets, units_of}
use Rattle.obex_headers.specs.Reading.{header_at, headers_in, packet_in}

-- a packet as it is written: first without headers, and then one header after the other behind it
abbrev pub encode : PlainPacket → List ℕ
encode packet = fold (λ octets header. grown octets (header_octets header)) (packet_octets (bare packet.code packet.extra)) packet.headers

-- what was written is read again
abbrev pub ReadsAgain : Type 0
ReadsAgain = (phase : Phase) (maximum : ℕ) (packet : PlainPacket) → IsPacket phase packet → length (encode packet) ≤ maximum → packet_in phase maximum (encode packet) ≡ Ok packet

-- what is read is spelled so, and only what is spelled so is read
abbrev pub ReadsWhatIsSpelled : Type 0
ReadsWhatIsSpelled = (phase : Phase) (maximum : ℕ) (octets : List ℕ) (packet : PlainPacket) → IsOctets octets → (packet_in phase maximum octets ≡ Ok packet) ↔ Spells phase maximum octets packet

-- headers are refused exactly where whole headers stand in front of octets that begin with none, with what is wrong there
abbrev pub RefusesTheFirst : Type 0
RefusesTheFirst = (octets : List ℕ) (refusal : ObexRefusal) → IsOctets octets →
    (headers_in octets ≡ Err refusal) ↔ ((front : List PlainHeader) × (rest : List ℕ) × AllByRecursion IsHeader front × (octets ≡ headers_octets front ++ rest) × (0 < length rest) × (header_at rest ≡ Err refusal))

-- the units of a text are those that it was written with
abbrev pub UnitsAgain : Type 0
UnitsAgain = (units : List ℕ) → AllByRecursion (λ unit. unit < 2 ^ 16) units → units_of (text_octets units) ≡ units
