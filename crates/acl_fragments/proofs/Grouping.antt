-- The last group, as pieces come one after the other.
use Rattle.std.proofs.Common.{◌≡◌, ℕ, List, [], ◌∷◌, ◌++◌, Bool, true, false, cond, refl, sym, ap, ◌∙◌, append_assoc}
use Rattle.std.proofs.lemmas.List.{append-nil}
use Rattle.acl_fragments.specs.Pieces.{Piece, starts}
use Rattle.acl_fragments.specs.Groups.{continuations, groups, last_of, last_group}

-- a group with a continuation more
abbrev pub extended : List (List ℕ) → List ℕ → List (List ℕ)
extended [] octets = []
extended (start ∷ rest) octets = start ∷ (rest ++ octets ∷ [])

-- the last group once a piece has come
abbrev pub regrouped : List (List ℕ) → Bool → List ℕ → List (List ℕ)
regrouped group start octets = cond start (octets ∷ []) (extended group octets)

read : List (List ℕ) → List Piece → List (List ℕ)
read group [] = group
read group (piece ∷ pieces) = read (regrouped group (starts piece.boundary) piece.octets) pieces

read-append : (group : List (List ℕ)) (pieces : List Piece) (piece : Piece) → read group (pieces ++ piece ∷ []) ≡ regrouped (read group pieces) (starts piece.boundary) piece.octets
unfolding read
read-append group [] piece = refl
read-append group (p ∷ pieces) piece = read-append (regrouped group (starts p.boundary) p.octets) pieces piece

last_read : (start : List ℕ) (rest : List (List ℕ)) (pieces : List Piece) → last_of (start ∷ (rest ++ continuations pieces)) (groups pieces) ≡ read (start ∷ rest) pieces
unfolding read
last_read start rest [] = ap (λ (xs : List (List ℕ)). start ∷ xs) (append-nil rest)
last_read start rest (p ∷ pieces) =
    elim (starts p.boundary) as (λ b.
    last_of (start ∷ (rest ++ cond b [] (p.octets ∷ continuations pieces))) (cond b ((p.octets ∷ continuations pieces) ∷ groups pieces) (groups pieces))
    ≡ read (cond b (p.octets ∷ []) (extended (start ∷ rest) p.octets)) pieces) [
      | true ↦ last_read p.octets [] pieces
      | false ↦
          ap (λ (xs : List (List ℕ)). last_of (start ∷ xs) (groups pieces)) (sym (append_assoc rest (p.octets ∷ []) (continuations pieces)))
          ∙ last_read start (rest ++ p.octets ∷ []) pieces
    ]

last_is_read : (pieces : List Piece) → last_of [] (groups pieces) ≡ read [] pieces
unfolding read
last_is_read [] = refl
last_is_read (p ∷ pieces) =
    elim (starts p.boundary) as (λ b.
    last_of [] (cond b ((p.octets ∷ continuations pieces) ∷ groups pieces) (groups pieces)) ≡ read (cond b (p.octets ∷ []) (extended [] p.octets)) pieces) [
      | true ↦ last_read p.octets [] pieces
      | false ↦ last_is_read pieces
    ]

pub last_group-append : (past : List Piece) (piece : Piece) → last_group (past ++ piece ∷ []) ≡ regrouped (last_group past) (starts piece.boundary) piece.octets
last_group-append past piece =
    last_is_read (past ++ piece ∷ []) ∙ read-append [] past piece
    ∙ ap (λ (group : List (List ℕ)). regrouped group (starts piece.boundary) piece.octets) (sym (last_is_read past))
