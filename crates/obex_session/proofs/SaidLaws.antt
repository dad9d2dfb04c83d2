-- What a server says is a packet by its length, if it is anything.
use Rattle.std.proofs.Common.{inl, inr, ◌⊎◌, ◌+◌, ◌*◌, ◌≤◌, ◌≡◌, ℕ, Bool, true, false, cond, List, [], length, arith, refl}
use Rattle.std.specs.Prelude.{slice_index}
use Rattle.obex_headers.specs.Codes.{octet_of}
use Rattle.obex_headers.specs.Packets.{bare, packet_octets}
use Rattle.obex_session.specs.declared.responding.Saying.{Saying}
use Rattle.obex_session.specs.declared.responding.Saying.TheVariants.{Response, Confirmation, Silence, NoMemory}
use Rattle.obex_session.specs.Responses.{is_connect, connect_fields}
use Rattle.obex_session.specs.Views.{octets_said}

-- three octets at least, and their length stands in the second and the third
abbrev pub IsSized : List ℕ → Type 0
IsSized octets = (3 ≤ length octets) × (256 * slice_index octets 1 + slice_index octets 2 ≡ length octets)

by_fields : (connecting : Bool) (maximum code : ℕ) → IsSized (packet_octets (bare code (cond connecting (connect_fields maximum) [])))
by_fields true maximum code = (omega arith, omega arith)
by_fields false maximum code = (omega arith, omega arith)

pub said_sized : (packet : List ℕ) (maximum : ℕ) (said : Saying) → (octets_said packet maximum said ≡ []) ⊎ IsSized (octets_said packet maximum said)
said_sized packet maximum (Response code) = inr (by_fields (is_connect packet) maximum (octet_of code))
said_sized packet maximum (Confirmation code) = inr (omega arith, omega arith)
said_sized packet maximum Silence = inl refl
said_sized packet maximum NoMemory = inl refl
