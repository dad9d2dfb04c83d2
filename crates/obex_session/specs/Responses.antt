-- The responses of a server (IrOBEX 1.5, 3.2.1 for the codes, 3.4.1 for the fields of a response to CONNECT; Generic
-- Object Exchange Profile 2.1, 4.6, for single response mode).
use Rattle.std.specs.Prelude.{ℕ, Bool, ◌==◌, if◌then◌else◌, List, [], ◌∷◌, slice_index}
use Rattle.bt_base.specs.Octets.{be16}
use Rattle.obex_headers.specs.declared.codes.Code.{Code}
use Rattle.obex_headers.specs.Codes.{octet_of}
use Rattle.obex_headers.specs.Packets.{One, PlainHeader, bare, with_header, packet_octets}

-- the octets begin as a CONNECT does
abbrev pub is_connect : List ℕ → Bool
is_connect packet = slice_index packet 0 == 0x80

-- version 1.0, no flags, and the own maximum
abbrev pub connect_fields : ℕ → List ℕ
connect_fields maximum = 0x10 ∷ 0x00 ∷ be16 maximum

-- single response mode (97) is enabled (01)
abbrev pub single_header : PlainHeader
single_header = record { id = 0x97; value = One 0x01 }

-- whatever the code, each response to what begins as a CONNECT has the fields of one
abbrev pub response_octets : List ℕ → ℕ → Code → List ℕ
response_octets packet maximum code = packet_octets (bare (octet_of code) (if is_connect packet then connect_fields maximum else []))

-- a response that confirms single response mode: it answers a PUT, and so has no fields
abbrev pub confirmation_octets : Code → List ℕ
confirmation_octets code = packet_octets (with_header (bare (octet_of code) []) single_header)
