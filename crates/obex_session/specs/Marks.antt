-- What the headers of a packet mark, whatever their order.
use Rattle.std.specs.Prelude.{Bool, false, ◌==◌, ◌||◌, List, if◌then◌else◌, is_some, Result, Ok, Err}
use Rattle.std.specs.List.{list_any}
use Rattle.obex_headers.specs.declared.fault.ObexRefusal.{ObexRefusal}
use Rattle.obex_headers.specs.Packets.{PlainValue, Text, Octets, One, Four, PlainHeader, PlainPacket}
use Rattle.obex_headers.specs.Runs.{name_text, body_of}
use Rattle.obex_session.specs.declared.marks.Marks.{Marks}
use Rattle.obex_session.specs.declared.marks.Kind.{Kind}
use Rattle.obex_session.specs.declared.marks.Kind.TheVariants.{Refused, Put, Other}

-- a Name (01)
abbrev pub is_name : PlainHeader → Bool
is_name header = is_some (name_text header)

-- a Body (48) or an End of Body (49)
abbrev pub is_body : PlainHeader → Bool
is_body header = is_some (body_of header)

abbrev pub is_enabled : PlainValue → Bool
is_enabled (Text octets) = false
is_enabled (Octets octets) = false
is_enabled (One octet) = octet == 0x01
is_enabled (Four number) = false

-- single response mode (97) enabled (01)
abbrev pub is_single : PlainHeader → Bool
is_single header = if header.id == 0x97 then is_enabled header.value else false

-- parameters of single response mode (98)
abbrev pub is_parameters : PlainHeader → Bool
is_parameters header = header.id == 0x98

abbrev pub marks_of : List PlainHeader → Marks
marks_of headers = record { name = list_any is_name headers; body = list_any is_body headers; single = list_any is_single headers; parameters = list_any is_parameters headers }

-- a packet by its code: a PUT is 02, and 82 where it is the final one
abbrev pub kind_at : PlainPacket → Kind
kind_at packet = if (packet.code == 0x02) || (packet.code == 0x82) then Put (packet.code == 0x82) (marks_of packet.headers) else Other packet.code

abbrev pub kind_of : Result PlainPacket ObexRefusal → Kind
kind_of (Ok packet) = kind_at packet
kind_of (Err refusal) = Refused
