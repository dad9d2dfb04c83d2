-- What joiners hold after one packet more.
use Rattle.std.proofs.Common.{◌≡◌, ℕ, ◌+◌, ◌<◌, List, [], ◌∷◌, ◌++◌, length, take, get_or, Bool, true, false, cond, Option, Some, None, refl, sym, ap, subst, ◌∙◌}
use Rattle.std.specs.List.{cons_option}
use Rattle.std.proofs.lemmas.List.{append-nil}
use Rattle.std.proofs.lemmas.List.Elements.{filter_map-append}
use Rattle.acl_fragments.specs.Pieces.{Piece}
use Rattle.acl_fragments.specs.Joiners.{Held, HoldsOpen}
use Rattle.capture.specs.declared.flow.Flow.{Flow}
use Rattle.capture.specs.declared.flow.Flow.TheVariants.{Out, Into}
use Rattle.capture.specs.declared.readers.completing.Joiners.{Joiners}
use Rattle.capture.specs.Moves.{Move}
use Rattle.capture.specs.Pdus.{Pdu, pdu_limit, same_flow, piece_of, piece_in, pieces, completed_by, completed}
use Rattle.capture.specs.Histories.{given_by}
use Rattle.capture.specs.declared.readers.Move.{Move as LentMove}
use Rattle.capture.specs.Lent.{plain_move, plain_moves}
use Rattle.capture.specs.ReadPdus.{Holds}
use Rattle.capture.proofs.HistoryLaws.{front-more, given_by-front}

-- ---- the pieces with one packet more

with_none : (flow : Flow) (handle : ℕ) (past : List Move) (move : Move) → piece_in flow handle move ≡ None → pieces flow handle (past ++ move ∷ []) ≡ pieces flow handle past
with_none flow handle past move none =
    filter_map-append (piece_in flow handle) past (move ∷ [])
    ∙ (ap (λ found. pieces flow handle past ++ cons_option found []) none ∙ append-nil (pieces flow handle past))

with_one : (flow : Flow) (handle : ℕ) (past : List Move) (move : Move) (piece : Piece) → piece_in flow handle move ≡ Some piece → pieces flow handle (past ++ move ∷ []) ≡ pieces flow handle past ++ piece ∷ []
with_one flow handle past move piece one =
    filter_map-append (piece_in flow handle) past (move ∷ []) ∙ ap (λ found. pieces flow handle past ++ cons_option found []) one

chosen_none : (test : Bool) (piece : Option Piece) → piece ≡ None → cond test piece None ≡ None
chosen_none true piece none = none
chosen_none false piece none = refl

in_other : (flow other : Flow) (handle : ℕ) (move : Move) → move.flow ≡ other → same_flow flow other ≡ false → piece_in flow handle move ≡ None
in_other flow other handle move is differ = ap (λ same. cond same (piece_of handle move.packet) None) (ap (same_flow flow) is ∙ differ)

in_same : (flow : Flow) (handle : ℕ) (move : Move) (piece : Piece) → move.flow ≡ flow → same_flow flow flow ≡ true → piece_of handle move.packet ≡ Some piece → piece_in flow handle move ≡ Some piece
in_same flow handle move piece is same one = ap (λ test. cond test (piece_of handle move.packet) None) (ap (same_flow flow) is ∙ same) ∙ one

-- ---- what is held

open_with : (held : Held) (before after : List Piece) → after ≡ before → HoldsOpen before held → HoldsOpen after held
open_with held before after same holds = subst (λ past. HoldsOpen past held) (sym same) holds

-- a packet that is no piece of the link
pub without_piece : (handle : ℕ) (past : List Move) (move : Move) (joiners : Joiners) → piece_of handle move.packet ≡ None → Holds handle past joiners
    → (completed handle past move ≡ []) × Holds handle (past ++ move ∷ []) joiners
without_piece handle past move joiners none holds = (
  ap (completed_by move.flow (pieces move.flow handle past)) none,
  record {
    limit_out = holds.limit_out;
    out = open_with _ _ _ (with_none Out handle past move (chosen_none (same_flow Out move.flow) (piece_of handle move.packet) none)) holds.out;
    limit_into = holds.limit_into;
    into = open_with _ _ _ (with_none Into handle past move (chosen_none (same_flow Into move.flow) (piece_of handle move.packet) none)) holds.into;
  },
)

pub piece_out : (handle : ℕ) (past : List Move) (move : Move) (piece : Piece) (old : Joiners) (out : Held) → move.flow ≡ Out → piece_of handle move.packet ≡ Some piece
    → Holds handle past old → out.limit ≡ pdu_limit Out → HoldsOpen (pieces Out handle past ++ piece ∷ []) out
    → (completed handle past move ≡ completed_by Out (pieces Out handle past) (Some piece)) × Holds handle (past ++ move ∷ []) (record { out = out; into = old.into })
piece_out handle past move piece old out is one holds limit open_now = (
  ap (λ flow. completed_by flow (pieces flow handle past) (piece_of handle move.packet)) is ∙ ap (completed_by Out (pieces Out handle past)) one,
  record {
    limit_out = limit;
    out = open_with _ _ _ (with_one Out handle past move piece (in_same Out handle move piece is refl one)) open_now;
    limit_into = holds.limit_into;
    into = open_with _ _ _ (with_none Into handle past move (in_other Into Out handle move is refl)) holds.into;
  },
)

pub piece_into : (handle : ℕ) (past : List Move) (move : Move) (piece : Piece) (old : Joiners) (into : Held) → move.flow ≡ Into → piece_of handle move.packet ≡ Some piece
    → Holds handle past old → into.limit ≡ pdu_limit Into → HoldsOpen (pieces Into handle past ++ piece ∷ []) into
    → (completed handle past move ≡ completed_by Into (pieces Into handle past) (Some piece)) × Holds handle (past ++ move ∷ []) (record { out = old.out; into = into })
piece_into handle past move piece old into is one holds limit open_now = (
  ap (λ flow. completed_by flow (pieces flow handle past) (piece_of handle move.packet)) is ∙ ap (completed_by Into (pieces Into handle past)) one,
  record {
    limit_out = holds.limit_out;
    out = open_with _ _ _ (with_none Out handle past move (in_other Out Into handle move is refl)) holds.out;
    limit_into = limit;
    into = open_with _ _ _ (with_one Into handle past move piece (in_same Into handle move piece is refl one)) open_now;
  },
)

-- ---- a loop over the packets of a link

-- `raw` is the list that the loop walks over
pub pdus_more : (handle : ℕ) (moves raw : List LentMove) (i : ℕ) (d : LentMove) (found more : List Pdu) (joiners : Joiners) → raw ≡ moves → i < length raw
    → found ≡ given_by (completed handle) (plain_moves (take i moves))
    → (more ≡ found ++ completed handle (plain_moves (take i moves)) (plain_move (get_or raw i d))) × Holds handle (plain_moves (take i moves) ++ plain_move (get_or raw i d) ∷ []) joiners
    → (more ≡ given_by (completed handle) (plain_moves (take (i + 1) moves))) × Holds handle (plain_moves (take (i + 1) moves)) joiners
pdus_more handle moves raw i d found more joiners same below so_far (adds, holds) =
    let inside : i < length moves = subst (λ xs. i < length xs) same below in (
      adds
          ∙ (ap (λ xs. found ++ completed handle (plain_moves (take i moves)) (plain_move (get_or xs i d))) same
          ∙ (ap (λ before. before ++ completed handle (plain_moves (take i moves)) (plain_move (get_or moves i d))) so_far
          ∙ sym (given_by-front (completed handle) plain_move moves i d inside))),
      subst (λ past. Holds handle past joiners) (sym (front-more plain_move moves i d inside))
          (subst (λ xs. Holds handle (plain_moves (take i moves) ++ plain_move (get_or xs i d) ∷ []) joiners) same holds),
    )
