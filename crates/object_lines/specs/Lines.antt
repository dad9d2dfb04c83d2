-- The lines of the objects that the receiving host of a capture heard (this project's own).
use Rattle.std.specs.Prelude.{ℕ, List, [], ◌∷◌, ◌++◌, length, codes, decimal}
use Rattle.std.specs.List.{flat_map}
use Rattle.bt_base.specs.Objects.{Object}
use Rattle.push_terms.specs.declared.word.Side.TheVariants as sides
use Rattle.rfcomm_frames.specs.declared.connection.Role.TheVariants.{Responder}
use Rattle.capture.specs.Entries.{Entry}
use Rattle.link_talk.specs.declared.party.Party.{Party}
use Rattle.link_talk.specs.Captures.{objects_heard}
use Rattle.h4_view.specs.Texts.{word_text}
use Rattle.h4_view.specs.Tagged.{tagged_lines}

-- What a viewer takes host b for. It knows no settings: frames and packets may be as long as can be. Host b answers the
-- multiplexer, and its user channel is the server channel 9.
abbrev pub viewed : Party
viewed = record { frame = 65535; packet = 65535; role = Responder; dlci = 18 }

-- the units of a name as upper case hexadecimal digits, or a dash for none
abbrev pub units_text : List ℕ → List ℕ
units_text [] = codes "-"
units_text (first ∷ more) = flat_map word_text (first ∷ more)

-- its name, and how many octets it has
abbrev pub object_line : Object → List ℕ
object_line object = codes "object " ++ units_text object.name ++ codes " " ++ decimal (length object.octets) ++ codes "\n"

-- a line for each object
abbrev pub lines_of : List Object → List ℕ
lines_of objects = flat_map object_line objects

-- a line for each object that host b heard, in the order of their last packets
abbrev pub object_lines : List Entry → List ℕ
object_lines entries = lines_of (objects_heard viewed sides.B entries)

-- the text of a whole capture: the lines of its entries, and then those of the objects
abbrev pub capture_text : List Entry → List ℕ
capture_text entries = tagged_lines [] 0 entries ++ object_lines entries
