-- What the plain reader of runs holds, as the definitions of runs see it.
use Rattle.std.specs.Prelude.{◌≡◌, ℕ, ◌++◌, ◌∷◌, ◌||◌, ◌&&◌, Bool, true, false, List, map, Option, Some, None}
use Rattle.std.specs.Global.{Vec}
use Rattle.std.specs.List.{AllByRecursion}
use Rattle.bt_base.specs.Objects.{Object}
use Rattle.obex_headers.specs.declared.header.Header.{Header}
use Rattle.obex_headers.specs.declared.packet.Packet.{Packet}
use Rattle.obex_headers.specs.declared.runs.SpelledObject.{SpelledObject}
use Rattle.obex_headers.specs.declared.runs.Verdict.{Verdict}
use Rattle.obex_headers.specs.declared.runs.Verdict.TheVariants.{Refused, Open, Whole}
use Rattle.obex_headers.specs.Packets.{PlainHeader, PlainPacket, IsHeader, plain_header, Shows}
use Rattle.obex_headers.specs.Runs.{run_headers, breaks, lacks, object_of, objects_from}

abbrev pub plain_headers : List Header → List PlainHeader
plain_headers headers = map plain_header headers

-- each part's items
abbrev pub octets_of_all : List (Vec ℕ) → List (List ℕ)
octets_of_all parts = map (λ part. part.items) parts

abbrev pub object_seen : SpelledObject → Object
object_seen object = record { name = object.name.items; octets = object.octets.items }

abbrev pub objects_seen : List SpelledObject → List Object
objects_seen objects = map object_seen objects

-- a lent PUT shows the one that is read
abbrev pub IsPut : Option Packet → Option PlainPacket → Type 0
IsPut None put = put ≡ None
IsPut (Some lent_packet) put = (packet : PlainPacket) × (put ≡ Some packet) × AllByRecursion IsHeader packet.headers × Shows lent_packet packet

-- what a run with these headers is, whose last packet is final or not
abbrev pub SaysVerdict : Bool → List PlainHeader → Verdict → Type 0
SaysVerdict ends headers Refused = (breaks headers || (ends && lacks headers)) ≡ true
SaysVerdict ends headers Open = ((breaks headers || (ends && lacks headers)) ≡ false) × (ends ≡ false)
SaysVerdict ends headers (Whole object) = ((breaks headers || (ends && lacks headers)) ≡ false) × (ends ≡ true) × (object_seen object ≡ object_of headers)

-- the headers are those of the run so far
abbrev pub Holds : List PlainHeader → List PlainPacket → Type 0
Holds headers run = (headers ≡ run_headers run) × AllByRecursion IsHeader headers

-- One packet more: what was spelled before, and what the packets from this one on spell behind the run, is what was
-- spelled by then, and what the packets after it spell behind the new run.
abbrev pub Goes : Option PlainPacket → List Object → List PlainPacket → List PlainHeader → List Object → Type 0
Goes packet before past headers after = (next : List PlainPacket) × Holds headers next
    × ((rest : List (Option PlainPacket)) → before ++ objects_from past (packet ∷ rest) ≡ after ++ objects_from next rest)
