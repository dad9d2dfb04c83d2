-- What a reader of PDUs holds.
use Rattle.std.specs.Prelude.{ℕ, ◌≡◌, List, map}
use Rattle.acl_fragments.specs.Pieces.{Piece}
use Rattle.acl_fragments.specs.Joiners.{HoldsOpen}
use Rattle.capture.specs.declared.flow.Flow.TheVariants.{Out, Into}
use Rattle.capture.specs.declared.readers.Pdu.{Pdu as LentPdu}
use Rattle.capture.specs.declared.readers.completing.Part.{Part}
use Rattle.capture.specs.declared.readers.completing.Joiners.{Joiners}
use Rattle.capture.specs.Lent.{plain_pdu}
use Rattle.capture.specs.Moves.{Move}
use Rattle.capture.specs.Pdus.{Pdu, pdu_limit, pieces}

abbrev pub plain_pdus : List LentPdu → List Pdu
plain_pdus pdus = map plain_pdu pdus

abbrev pub plain_piece : Part → Piece
plain_piece part = record { boundary = part.boundary; octets = part.octets.now }

-- the joiners hold what is open on the handle after these packets
pub record Holds (handle : ℕ) (past : List Move) (joiners : Joiners) : Type 0 where
  pub limit_out : joiners.out.limit ≡ pdu_limit Out
  pub out : HoldsOpen (pieces Out handle past) joiners.out
  pub limit_into : joiners.into.limit ≡ pdu_limit Into
  pub into : HoldsOpen (pieces Into handle past) joiners.into
