-- A segment that lies in two parts.
use Rattle.std.specs.Prelude.{ℕ, List, ◌++◌, false}
use Rattle.ertm_frames.specs.Frames.{PlainFrame, information}
use Rattle.ertm_frames.specs.Segments.{Segment}
use Rattle.ertm_machine.specs.declared.piece.Piece.{Piece}

abbrev pub octets_of : Piece → List ℕ
octets_of piece = piece.front.now ++ piece.back.now

-- the I-frame of a segment, without the F bit
abbrev pub information_of : (tx req : ℕ) → Piece → PlainFrame
information_of tx req piece = information tx false req piece.sar piece.total (octets_of piece)

abbrev pub segment_of_piece : Piece → Segment
segment_of_piece piece = record { sar = piece.sar; total = piece.total; octets = octets_of piece }
