-- What is heard on one direction of a link, and what the pieces of a frame give.
use Rattle.std.proofs.Common.{◌≡◌, ℕ, zero, suc, ◌+◌, ◌≤◌, ◌<◌, List, [], ◌∷◌, ◌++◌, length, take, drop, map, refl, sym, ap, ap₂, ◌∙◌, inl, inr, arith, append_assoc, length-append, length-take}
use Rattle.std.specs.Prelude.{slice_get}
use Rattle.std.proofs.lemmas.Bool.{cases_lt, le-ltb, eq-eqb, ne_eqb}
use Rattle.std.proofs.lemmas.List.{append-nil, take-append-drop}
use Rattle.byteorder.specs.Numbers.{little_from-append}
use Rattle.hci_packets.specs.declared.acl.Boundary.{Boundary}
use Rattle.hci_packets.specs.declared.acl.Boundary.TheVariants.{Continuing, FirstFromController}
use Rattle.acl_fragments.specs.Pieces.{Piece, pdu_length, channel_of}
use Rattle.acl_fragments.specs.Cuts.{cut, first_pieces}
use Rattle.acl_fragments.specs.Answers.{Answer, Pdu, More, start_answer, next_answer, kept}
use Rattle.capture.specs.Histories.{each_after, EachAfter}
use Rattle.capture.proofs.HistoryLaws.{given_by-more}
use Rattle.capture.specs.Pdus.{whole_of}
use Rattle.capture.specs.declared.flow.Flow.TheVariants.{Into}
use Rattle.radio_model.specs.Fates.{meets, comes_of}
use Rattle.radio_model.specs.Flights.{Met, position, step, of_frame}
use Rattle.radio_model.specs.Laws.{OneFateMore, OneFrameMore, given_from, IsFrame}

-- ---- a fate more

position-append : (fates : List Met) (met : Met) → position (fates ++ met ∷ []) ≡ position fates + step met.fate
position-append [] met = omega arith
position-append (first ∷ fates) met = let rest = position-append fates met in omega (arith, rest)

pub one_fate_more : OneFateMore
one_fate_more size frames fates met = (
  given_by-more (λ past met. of_frame (comes_of size met.fate met.checked) (slice_get frames (position past))) fates met,
  given_by-more (λ past met. of_frame (λ frame. (meets size met.fate met.checked frame).pieces) (slice_get frames (position past))) fates met,
  position-append fates met,
)

-- ---- a frame more

get_within : (frames : List (List ℕ)) (frame : List ℕ) (n : ℕ) → n < length frames → slice_get (frames ++ frame ∷ []) n ≡ slice_get frames n
get_within [] frame n within = absurd (omega arith)
get_within (first ∷ frames) frame zero within = refl
get_within (first ∷ frames) frame (suc n) within = get_within frames frame n (omega arith)

same_each : {Y : Type 0} (of : Met → List ℕ → List Y) (frames : List (List ℕ)) (frame : List ℕ) (past fates : List Met) → EachAfter (λ before met. position before < length frames) past fates
    → each_after (λ before met. of_frame (of met) (slice_get (frames ++ frame ∷ []) (position before))) past fates
    ≡ each_after (λ before met. of_frame (of met) (slice_get frames (position before))) past fates
same_each of frames frame past [] finds = refl
same_each of frames frame past (met ∷ fates) finds =
    ap₂ (λ here rest. here ++ rest) (ap (of_frame (of met)) (get_within frames frame (position past) finds.0)) (same_each of frames frame (past ++ met ∷ []) fates finds.1)

more_finds : (frames : List (List ℕ)) (frame : List ℕ) (past fates : List Met) → EachAfter (λ before met. position before < length frames) past fates
    → EachAfter (λ before met. position before < length (frames ++ frame ∷ [])) past fates
more_finds frames frame past [] finds = tt
more_finds frames frame past (met ∷ fates) finds = (omega (arith, finds.0, length-append frames (frame ∷ [])), more_finds frames frame (past ++ met ∷ []) fates finds.1)

pub one_frame_more : OneFrameMore
one_frame_more size frames fates frame finds = (
  same_each (λ met. comes_of size met.fate met.checked) frames frame [] fates finds,
  same_each (λ met frame. (meets size met.fate met.checked frame).pieces) frames frame [] fates finds,
  more_finds frames frame [] fates finds,
)

-- ---- what a piece gives

next_more : (held piece : List ℕ) → 0 < length held → length held + length piece < pdu_length held → next_answer held piece ≡ More
next_more held piece some below =
    rw (ne_eqb (length held) 0 (λ same. omega (arith, same)), le-ltb (pdu_length held) (length held + length piece) (omega arith), ne_eqb (pdu_length held) (length held + length piece) (λ same. omega (arith, same))) refl

next_whole : (held piece : List ℕ) → 0 < length held → pdu_length held ≡ length held + length piece → next_answer held piece ≡ Pdu (channel_of (held ++ piece)) (held ++ piece)
next_whole held piece some same =
    rw (ne_eqb (length held) 0 (λ none. omega (arith, none)), le-ltb (pdu_length held) (length held + length piece) (omega (arith, same)), eq-eqb (pdu_length held) (length held + length piece) same) refl

start_more : (limit : ℕ) (piece : List ℕ) → 4 ≤ length piece → length piece < pdu_length piece → pdu_length piece ≤ limit → start_answer limit piece ≡ More
start_more limit piece header below within =
    rw (le-ltb (length piece) 4 header, le-ltb (pdu_length piece) (length piece) (omega arith), le-ltb limit (pdu_length piece) within, ne_eqb (pdu_length piece) (length piece) (λ same. omega (arith, same))) refl

start_whole : (limit : ℕ) (piece : List ℕ) → 4 ≤ length piece → pdu_length piece ≡ length piece → pdu_length piece ≤ limit → start_answer limit piece ≡ Pdu (channel_of piece) piece
start_whole limit piece header same within =
    rw (le-ltb (length piece) 4 header, le-ltb (pdu_length piece) (length piece) (omega (arith, same)), le-ltb limit (pdu_length piece) within, eq-eqb (pdu_length piece) (length piece) same) refl

-- what was begun says the same length, however it goes on
same_length : (octets more : List ℕ) → 2 ≤ length octets → pdu_length (octets ++ more) ≡ pdu_length octets
same_length octets more header = ap (λ (n : ℕ). 4 + n) (little_from-append 2 octets more header)

abbrev after_piece : ℕ → List ℕ → Piece → Answer → List Piece → List (List ℕ)
after_piece limit octets piece gives pieces = map (λ pdu. pdu.octets) (whole_of Into gives) ++ given_from limit (kept gives octets) pieces

-- ---- the rest of a frame

nothing : (octets : List ℕ) → length octets ≤ 0 → octets ≡ []
nothing [] none = refl
nothing (x ∷ octets) none = absurd (omega arith)

no_pieces : (n size : ℕ) (boundary : Boundary) → first_pieces n size boundary [] ≡ []
no_pieces zero size boundary = refl
no_pieces (suc n) size boundary = refl

all_behind : (n limit size : ℕ) (held rest : List ℕ) → 1 ≤ size → 2 ≤ length held → 0 < length rest → length rest ≤ n → length held + length rest ≡ pdu_length held
    → given_from limit held (first_pieces n size Continuing rest) ≡ (held ++ rest) ∷ []
all_behind zero limit size held rest some header there few whole = absurd (omega arith)
all_behind (suc n) limit size held [] some header there few whole = absurd (omega arith)
all_behind (suc n) limit size held (x ∷ xs) some header there few whole =
    let rest : List ℕ = x ∷ xs in
    let piece : List ℕ = take size rest in
    let left : List ℕ = drop size rest in
    let parts : piece ++ left ≡ rest = take-append-drop size rest in
    let lengths : length piece + length left ≡ length rest = sym (length-append piece left) ∙ ap length parts in
    let first : 0 < length piece = omega (arith, length-take size rest) in
    elim (cases_lt 0 (length left)) [
      | inl more ↦
          let goes : next_answer held piece ≡ More = next_more held piece (omega arith) (omega arith) in
          ap (λ gives. after_piece limit (held ++ piece) (record { boundary = Continuing; octets = piece }) gives (first_pieces n size Continuing left)) goes
          ∙ all_behind n limit size (held ++ piece) left some (omega (arith, length-append held piece)) more (omega arith)
          (omega (arith, length-append held piece, same_length held piece header))
          ∙ ap (λ frame. frame ∷ []) (append_assoc held piece left ∙ ap (λ ys. held ++ ys) parts)
      | inr none ↦
          let ends : next_answer held piece ≡ Pdu (channel_of (held ++ piece)) (held ++ piece) = next_whole held piece (omega arith) (omega arith) in
          let empty : left ≡ [] = nothing left (omega arith) in
          let same : piece ≡ rest = sym (append-nil piece) ∙ ap (λ ys. piece ++ ys) (sym empty) ∙ parts in
          ap (λ gives. after_piece limit (held ++ piece) (record { boundary = Continuing; octets = piece }) gives (first_pieces n size Continuing left)) ends
          ∙ ap (λ ys. (held ++ piece) ∷ given_from limit [] (first_pieces n size Continuing ys)) empty ∙ ap (λ pieces. (held ++ piece) ∷ given_from limit [] pieces) (no_pieces n size Continuing)
          ∙ ap (λ ys. (held ++ ys) ∷ []) same
    ]

some_left : (n size : ℕ) (left : List ℕ) → 0 < length (first_pieces n size Continuing left) → 0 < length left
some_left zero size left there = absurd (omega arith)
some_left (suc n) size [] there = absurd (omega arith)
some_left (suc n) size (x ∷ left) there = omega arith

-- where some of its pieces are missing, it gives nothing
some_behind : (n limit size count : ℕ) (held rest : List ℕ) → 1 ≤ size → 2 ≤ length held → length held + length rest ≡ pdu_length held → count < length (first_pieces n size Continuing rest) → length rest ≤ n
    → given_from limit held (take count (first_pieces n size Continuing rest)) ≡ []
some_behind n limit size zero held rest some header whole below few = refl
some_behind zero limit size (suc count) held rest some header whole below few = absurd (omega arith)
some_behind (suc n) limit size (suc count) held [] some header whole below few = absurd (omega arith)
some_behind (suc n) limit size (suc count) held (x ∷ xs) some header whole below few =
    let rest : List ℕ = x ∷ xs in
    let piece : List ℕ = take size rest in
    let left : List ℕ = drop size rest in
    let parts : piece ++ left ≡ rest = take-append-drop size rest in
    let lengths : length piece + length left ≡ length rest = sym (length-append piece left) ∙ ap length parts in
    let first : 0 < length piece = omega (arith, length-take size rest) in
    let more : 0 < length left = some_left n size left (omega arith) in
    let goes : next_answer held piece ≡ More = next_more held piece (omega arith) (omega arith) in
    ap (λ gives. after_piece limit (held ++ piece) (record { boundary = Continuing; octets = piece }) gives (take count (first_pieces n size Continuing left))) goes
    ∙ some_behind n limit size count (held ++ piece) left some (omega (arith, length-append held piece)) (omega (arith, length-append held piece, same_length held piece header)) (omega arith) (omega arith)

-- ---- a whole frame

-- its first piece, and the pieces behind it
pub all_given : (limit size : ℕ) (held frame : List ℕ) → 27 ≤ size → IsFrame limit frame → given_from limit held (cut size FirstFromController frame) ≡ frame ∷ []
all_given limit size held [] big is = absurd (omega (arith, is.header))
all_given limit size held (x ∷ xs) big is =
    let frame : List ℕ = x ∷ xs in
    let piece : List ℕ = take size frame in
    let left : List ℕ = drop size frame in
    let parts : piece ++ left ≡ frame = take-append-drop size frame in
    let lengths : length piece + length left ≡ length frame = sym (length-append piece left) ∙ ap length parts in
    let header : 4 ≤ length piece = omega (arith, length-take size frame, is.header) in
    let says : pdu_length piece ≡ length frame = sym (same_length piece left (omega arith)) ∙ ap pdu_length parts ∙ is.whole in
    elim (cases_lt 0 (length left)) [
      | inl more ↦
          let goes : start_answer limit piece ≡ More = start_more limit piece header (omega (arith, says)) (omega (arith, says, is.within)) in
          ap (λ gives. after_piece limit piece (record { boundary = FirstFromController; octets = piece }) gives (first_pieces (length xs) size Continuing left)) goes
          ∙ all_behind (length xs) limit size piece left (omega arith) (omega arith) more (omega arith) (omega (arith, says)) ∙ ap (λ ys. ys ∷ []) parts
      | inr none ↦
          let ends : start_answer limit piece ≡ Pdu (channel_of piece) piece = start_whole limit piece header (omega (arith, says)) (omega (arith, says, is.within)) in
          let empty : left ≡ [] = nothing left (omega arith) in
          let same : piece ≡ frame = sym (append-nil piece) ∙ ap (λ ys. piece ++ ys) (sym empty) ∙ parts in
          ap (λ gives. after_piece limit piece (record { boundary = FirstFromController; octets = piece }) gives (first_pieces (length xs) size Continuing left)) ends
          ∙ ap (λ ys. piece ∷ given_from limit [] (first_pieces (length xs) size Continuing ys)) empty ∙ ap (λ pieces. piece ∷ given_from limit [] pieces) (no_pieces (length xs) size Continuing)
          ∙ ap (λ ys. ys ∷ []) same
    ]

-- where some pieces are missing nothing comes of it
pub some_given : (limit size count : ℕ) (held frame : List ℕ) → 27 ≤ size → IsFrame limit frame → count < length (cut size FirstFromController frame)
    → given_from limit held (take count (cut size FirstFromController frame)) ≡ []
some_given limit size zero held frame big is below = refl
some_given limit size (suc count) held [] big is below = absurd (omega (arith, is.header))
some_given limit size (suc count) held (x ∷ xs) big is below =
    let frame : List ℕ = x ∷ xs in
    let piece : List ℕ = take size frame in
    let left : List ℕ = drop size frame in
    let parts : piece ++ left ≡ frame = take-append-drop size frame in
    let lengths : length piece + length left ≡ length frame = sym (length-append piece left) ∙ ap length parts in
    let header : 4 ≤ length piece = omega (arith, length-take size frame, is.header) in
    let says : pdu_length piece ≡ length frame = sym (same_length piece left (omega arith)) ∙ ap pdu_length parts ∙ is.whole in
    let more : 0 < length left = some_left (length xs) size left (omega arith) in
    let goes : start_answer limit piece ≡ More = start_more limit piece header (omega (arith, says)) (omega (arith, says, is.within)) in
    ap (λ gives. after_piece limit piece (record { boundary = FirstFromController; octets = piece }) gives (take count (first_pieces (length xs) size Continuing left))) goes
    ∙ some_behind (length xs) limit size count piece left (omega arith) (omega arith) (omega (arith, says)) (omega arith) (omega arith)
