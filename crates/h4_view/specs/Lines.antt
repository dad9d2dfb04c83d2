-- The lines of a view (this project's own).
use Rattle.std.specs.Prelude.{ℕ, ◌+◌, List, [], ◌∷◌, ◌++◌, length, codes, decimal}
use Rattle.hex.specs.Hex.{encode_upper}
use Rattle.h4_framing.specs.Packets.{Packet, Command, Acl, Sync, Event, spelling}
use Rattle.h4_view.specs.Names.{command_name, event_name}
use Rattle.h4_view.specs.Texts.{octets_text, word_text}
use Rattle.h4_view.specs.Details.{under}
use Rattle.h4_view.specs.declared.refusal.ViewRefusal.{ViewRefusal}
use Rattle.h4_view.specs.declared.refusal.ViewRefusal.TheVariants.{BadIndicator, Truncated, TooLong, BadTag, BadRecord, BadMagic, BadVersion, BadLink, BadLength}

-- what a packet's line says behind the offset
abbrev pub packet_text : Packet → List ℕ
packet_text (Command opcode params) = codes "cmd " ++ word_text opcode ++ codes " " ++ command_name opcode ++ codes " " ++ octets_text params
packet_text (Acl word octets) = codes "acl " ++ word_text word ++ codes " " ++ decimal (length octets)
packet_text (Sync word octets) = codes "sync " ++ word_text word ++ codes " " ++ decimal (length octets)
packet_text (Event code params) = codes "evt " ++ encode_upper (code ∷ []) ++ codes " " ++ event_name code ++ codes " " ++ octets_text params

-- a packet's line: the offset of its indicator, what it is, and a line feed
abbrev pub line : ℕ → Packet → List ℕ
line offset packet = decimal offset ++ codes " " ++ packet_text packet ++ codes "\n"

-- the lines of a packet that comes after these packets
abbrev pub lines_of : List Packet → ℕ → Packet → List ℕ
lines_of past offset packet = line offset packet ++ under past packet

-- the lines of packets that stand one after the other from that offset on, after these packets
abbrev pub lines : List Packet → ℕ → List Packet → List ℕ
lines past offset [] = []
lines past offset (packet ∷ packets) = lines_of past offset packet ++ lines (past ++ packet ∷ []) (offset + length (spelling packet)) packets

-- the name of a refusal
abbrev pub refusal_name : ViewRefusal → List ℕ
refusal_name BadIndicator = codes "BadIndicator"
refusal_name Truncated = codes "Truncated"
refusal_name TooLong = codes "TooLong"
refusal_name BadTag = codes "BadTag"
refusal_name BadRecord = codes "BadRecord"
refusal_name BadMagic = codes "BadMagic"
refusal_name BadVersion = codes "BadVersion"
refusal_name BadLink = codes "BadLink"
refusal_name BadLength = codes "BadLength"

-- the line of a refusal at that offset
abbrev pub refusal_line : ViewRefusal → ℕ → List ℕ
refusal_line refusal place = codes "refused offset " ++ decimal place ++ codes " " ++ refusal_name refusal ++ codes "\n"
