-- PDUs that are cut come back from the groups of their pieces.
use Rattle.std.proofs.Common.{◌≡◌, ℕ, zero, suc, ◌+◌, ◌≤◌, List, [], ◌∷◌, ◌++◌, length, take, drop, true, refl, sym, ap, ◌∙◌, length-append, arith}
use Rattle.std.specs.List.{AllByRecursion}
use Rattle.std.proofs.lemmas.List.{append-nil, take-append-drop, length-take, take_all, nil_from_length}
use Rattle.byteorder.specs.Numbers.{little_from-append}
use Rattle.byteorder.specs.Endian.{little_number}
use Rattle.hci_packets.specs.declared.acl.Boundary.{Boundary}
use Rattle.hci_packets.specs.declared.acl.Boundary.TheVariants.{Continuing}
use Rattle.acl_fragments.specs.Pieces.{Piece, starts, pdu_length, joined}
use Rattle.acl_fragments.specs.Groups.{continuations, groups, GivesPdu}
use Rattle.acl_fragments.specs.Cuts.{first_pieces, cut}
use Rattle.acl_fragments.specs.Laws.{IsPdu, all_cut, GivePdus}

-- what pieces carry
abbrev carried : List Piece → List (List ℕ)
carried [] = []
carried (piece ∷ pieces) = piece.octets ∷ carried pieces

pieces_joined : (n size : ℕ) (boundary : Boundary) (octets : List ℕ) → 1 ≤ size → length octets ≤ n → joined (carried (first_pieces n size boundary octets)) ≡ octets
pieces_joined zero size boundary [] some few = refl
pieces_joined zero size boundary (x ∷ xs) some few = absurd (omega arith)
pieces_joined (suc n) size boundary [] some few = refl
pieces_joined (suc n) size boundary (x ∷ xs) some few =
    let parts = take-append-drop size (x ∷ xs) in
    let left : length (drop size (x ∷ xs)) ≤ n = omega (arith, ap length parts, length-append (take size (x ∷ xs)) (drop size (x ∷ xs)), length-take size (x ∷ xs)) in
    ap (λ (ys : List ℕ). take size (x ∷ xs) ++ ys) (pieces_joined n size Continuing (drop size (x ∷ xs)) some left) ∙ parts

rest_groups : (n size : ℕ) (octets : List ℕ) (rest : List Piece) → groups (first_pieces n size Continuing octets ++ rest) ≡ groups rest
rest_groups zero size octets rest = refl
rest_groups (suc n) size [] rest = refl
rest_groups (suc n) size (x ∷ xs) rest = rest_groups n size (drop size (x ∷ xs)) rest

rest_continues : (n size : ℕ) (octets : List ℕ) (rest : List Piece) → continuations (first_pieces n size Continuing octets ++ rest) ≡ carried (first_pieces n size Continuing octets) ++ continuations rest
rest_continues zero size octets rest = refl
rest_continues (suc n) size [] rest = refl
rest_continues (suc n) size (x ∷ xs) rest = ap (λ (ys : List (List ℕ)). take size (x ∷ xs) ∷ ys) (rest_continues n size (drop size (x ∷ xs)) rest)

abbrev Fits : ℕ → List ℕ → Type 0
Fits limit pdu = IsPdu pdu × (length pdu ≤ limit)

-- PDUs begin with a start
begins : (limit size : ℕ) (boundary : Boundary) (pdus : List (List ℕ)) → starts boundary ≡ true → AllByRecursion (Fits limit) pdus → continuations (all_cut size boundary pdus) ≡ []
begins limit size boundary [] start fit = refl
begins limit size boundary ([] ∷ pdus) start fit = absurd (omega (arith, fit.0.0.0))
begins limit size boundary ((x ∷ xs) ∷ pdus) start fit = rw start refl

-- a group whose pieces join to the PDU gives it
pub gives_whole : (limit : ℕ) (start : List ℕ) (rest : List (List ℕ)) (pdu : List ℕ) → 4 ≤ length start → pdu_length start ≤ limit → length pdu ≡ pdu_length start → joined (start ∷ rest) ≡ pdu → GivesPdu limit (start ∷ rest) pdu
gives_whole limit start rest pdu header within says whole =
    (header, within, says, (length (start ∷ rest), sym (ap joined (take_all (length (start ∷ rest)) (start ∷ rest) (omega arith)) ∙ whole)))

-- the first piece has the whole header
header_cut : (size : ℕ) (pdu : List ℕ) → 4 ≤ size → 4 ≤ length pdu → (4 ≤ length (take size pdu)) × (pdu_length (take size pdu) ≡ pdu_length pdu)
header_cut size pdu big long =
    let four : 4 ≤ length (take size pdu) = omega (arith, length-take size pdu) in
    (four, ap (λ (n : ℕ). 4 + n) (sym (little_from-append 2 (take size pdu) (drop size pdu) (omega arith)) ∙ ap (little_number 2) (take-append-drop size pdu)))

pub frames : (limit size : ℕ) (boundary : Boundary) (pdus : List (List ℕ)) → 27 ≤ size → starts boundary ≡ true → AllByRecursion (Fits limit) pdus → GivePdus limit (groups (all_cut size boundary pdus)) pdus
frames limit size boundary [] big start fit = tt
frames limit size boundary ([] ∷ pdus) big start fit = absurd (omega (arith, fit.0.0.0))
frames limit size boundary ((x ∷ xs) ∷ pdus) big start fit =
    let pdu : List ℕ = x ∷ xs in
    let after : List Piece = first_pieces (length xs) size Continuing (drop size pdu) in
    let others : List Piece = all_cut size boundary pdus in
    let header = header_cut size pdu (omega arith) fit.0.0.0 in
    let conts : continuations (after ++ others) ≡ carried after =
    rest_continues (length xs) size (drop size pdu) others
    ∙ ap (λ (ys : List (List ℕ)). carried after ++ ys) (begins limit size boundary pdus start fit.1)
    ∙ append-nil (carried after) in
    let whole : joined (carried (cut size boundary pdu)) ≡ pdu = pieces_joined (length pdu) size boundary pdu (omega arith) (omega arith) in
    let within : pdu_length (take size pdu) ≤ limit = omega (arith, header.1, fit.0.0.1, fit.0.1) in
    let says : length pdu ≡ pdu_length (take size pdu) = sym (header.1 ∙ fit.0.0.1) in
    let first : GivesPdu limit (take size pdu ∷ continuations (after ++ others)) pdu =
    rw conts (gives_whole limit (take size pdu) (carried after) pdu header.0 within says whole) in
    let second : GivePdus limit (groups (after ++ others)) pdus =
    rw (rest_groups (length xs) size (drop size pdu) others) (frames limit size boundary pdus big start fit.1) in
    rw start (first, second)

-- of the first pieces of a list, as many octets are the same octets
same_front : (i j : ℕ) (pieces : List (List ℕ)) → length (joined (take i pieces)) ≡ length (joined (take j pieces)) → joined (take i pieces) ≡ joined (take j pieces)
same_front zero zero pieces same = refl
same_front zero (suc j) pieces same = sym (nil_from_length (joined (take (suc j) pieces)) (sym same))
same_front (suc i) zero pieces same = nil_from_length (joined (take (suc i) pieces)) same
same_front (suc i) (suc j) [] same = refl
same_front (suc i) (suc j) (piece ∷ pieces) same =
    ap (λ (ys : List ℕ). piece ++ ys)
    (same_front i j pieces (omega (arith, same, length-append piece (joined (take i pieces)), length-append piece (joined (take j pieces)))))

pub one_pdu : (limit : ℕ) (group : List (List ℕ)) (first second : List ℕ) → GivesPdu limit group first → GivesPdu limit group second → first ≡ second
one_pdu limit [] first second gives-first gives-second = absurd gives-first
one_pdu limit (start ∷ rest) first second gives-first gives-second =
    let f = gives-first.3 in
    let s = gives-second.3 in
    let same : length (joined (take f.0 (start ∷ rest))) ≡ length (joined (take s.0 (start ∷ rest))) =
    sym (ap length f.1) ∙ gives-first.2 ∙ sym gives-second.2 ∙ ap length s.1 in
    f.1 ∙ same_front f.0 s.0 (start ∷ rest) same ∙ sym s.1
