-- What a joiner holds is the group that is open.
use Rattle.std.proofs.Common.{◌≡◌, ℕ, ◌+◌, ◌≤◌, List, [], ◌∷◌, ◌++◌, length, Bool, true, false, cond, eqb, ltb, refl, sym, ap, subst, ◌∙◌, append_assoc, length-append, inl, inr, arith}
use Rattle.std.proofs.lemmas.Bool.{cases_order, cases_Bool, le-ltb, lt-ltb, ltb-false, eq-eqb, ne_eqb}
use Rattle.std.proofs.lemmas.List.{append-nil}
use Rattle.byteorder.specs.Numbers.{little_from-append}
use Rattle.acl_fragments.specs.declared.joined.Joined.{Joined}
use Rattle.acl_fragments.specs.declared.joined.DropReason.TheVariants.{StrayContinuation, Overrun, AboveLimit, ShortStart}
use Rattle.hci_packets.specs.declared.acl.Boundary.{Boundary}
use Rattle.hci_packets.specs.declared.acl.Boundary.TheVariants.{First, FirstFromController}
use Rattle.std.specs.Prelude.{◌⊎◌}
use Rattle.acl_fragments.specs.Pieces.{Piece, starts, pdu_length, channel_of, joined}
use Rattle.acl_fragments.specs.Groups.{last_group}
use Rattle.acl_fragments.specs.Answers.{Answer, Pdu, More, Dropped, start_answer, next_answer, open_octets, open_after, answer, kept, held_after}
use Rattle.acl_fragments.specs.Joiners.{Held, HoldsOpen, Takes, Follows, Joins}
use Rattle.acl_fragments.proofs.Grouping.{extended, regrouped, last_group-append}

-- of two numbers one is below, or they are the same
abbrev OneHolds : Bool → Bool → Bool → Type 0
OneHolds true false false = Unit {0}
OneHolds false true equal = Unit {0}
OneHolds false false true = Unit {0}
OneHolds _ _ _ = ⊥

one_holds : (m n : ℕ) → OneHolds (ltb m n) (ltb n m) (eqb n m)
one_holds m n =
    elim (cases_order m n) [
      | inl same ↦ rw (le-ltb m n (omega arith), le-ltb n m (omega arith), eq-eqb n m (sym same)) tt
      | inr apart ↦
          elim apart [
            | inl below ↦ rw (lt-ltb m n below, le-ltb n m (omega arith), ne_eqb n m (λ same. omega arith)) tt
            | inr above ↦ rw (le-ltb m n (omega arith), lt-ltb n m above) tt
          ]
    ]

start_kept : (short long below above equal : Bool) (channel : ℕ) (octets : List ℕ) → OneHolds below above equal
    → cond short [] (cond long [] (cond below octets []))
    ≡ kept (cond short (Dropped ShortStart) (cond above (Dropped Overrun) (cond long (Dropped AboveLimit) (cond equal (Pdu channel octets) More)))) octets
start_kept true long below above equal channel octets one = refl
start_kept false true true true equal channel octets one = refl
start_kept false true true false equal channel octets one = refl
start_kept false true false true equal channel octets one = refl
start_kept false true false false equal channel octets one = refl
start_kept false false true true equal channel octets one = absurd one
start_kept false false true false true channel octets one = absurd one
start_kept false false true false false channel octets one = refl
start_kept false false false true equal channel octets one = refl
start_kept false false false false true channel octets one = refl
start_kept false false false false false channel octets one = absurd one

opens : (limit : ℕ) (octets : List ℕ) → open_octets limit (octets ∷ []) ≡ kept (start_answer limit octets) octets
opens limit octets =
    ap (λ (xs : List ℕ). cond (ltb (length octets) 4) [] (cond (ltb limit (pdu_length octets)) [] (cond (ltb (length xs) (pdu_length octets)) xs []))) (append-nil octets)
    ∙ start_kept (ltb (length octets) 4) (ltb limit (pdu_length octets)) (ltb (length octets) (pdu_length octets)) (ltb (pdu_length octets) (length octets)) (eqb (pdu_length octets) (length octets)) (channel_of octets) octets (one_holds (length octets) (pdu_length octets))

pub joined-append : (pieces : List (List ℕ)) (octets : List ℕ) → joined (pieces ++ octets ∷ []) ≡ joined pieces ++ octets
joined-append [] octets = append-nil octets
joined-append (piece ∷ pieces) octets =
    ap (λ (xs : List ℕ). piece ++ xs) (joined-append pieces octets) ∙ sym (append_assoc piece (joined pieces) octets)

next_kept : (below above equal : Bool) (channel : ℕ) (octets : List ℕ) → OneHolds below above equal
    → cond below octets [] ≡ kept (cond above (Dropped Overrun) (cond equal (Pdu channel octets) More)) octets
next_kept true true equal channel octets one = absurd one
next_kept true false true channel octets one = absurd one
next_kept true false false channel octets one = refl
next_kept false true equal channel octets one = refl
next_kept false false true channel octets one = refl
next_kept false false false channel octets one = absurd one

-- a group that is open goes on
goes_on : (whole held octets : List ℕ) (n : ℕ) → whole ≡ held ++ octets → pdu_length held ≡ n → 4 ≤ length held
    → cond (ltb (length whole) n) whole [] ≡ kept (next_answer held octets) (held ++ octets)
goes_on whole held octets n whole-is says long =
    let k : ℕ = length held + length octets in
    let count : length (held ++ octets) ≡ k = length-append held octets in
    let some : eqb (length held) 0 ≡ false = ne_eqb (length held) 0 (λ none. omega arith) in
    let pdu : Answer = Pdu (channel_of (held ++ octets)) (held ++ octets) in
    let judged : ℕ → Answer = λ j. cond (ltb j k) (Dropped Overrun) (cond (eqb j k) pdu More) in
    ap (λ (xs : List ℕ). cond (ltb (length xs) n) xs []) whole-is
    ∙ ap (λ (j : ℕ). cond (ltb j n) (held ++ octets) []) count
    ∙ next_kept (ltb k n) (ltb n k) (eqb n k) (channel_of (held ++ octets)) (held ++ octets) (one_holds k n)
    ∙ ap (λ (j : ℕ). kept (judged j) (held ++ octets)) (sym says)
    ∙ ap (λ (b : Bool). kept (cond b (Dropped StrayContinuation) (judged (pdu_length held))) (held ++ octets)) (sym some)

-- what is held of a group is what was held of it and the continuation, while more is wanted
stays : (limit : ℕ) (group : List (List ℕ)) (octets : List ℕ) → open_octets limit (extended group octets) ≡ kept (next_answer (open_octets limit group) octets) (open_octets limit group ++ octets)
stays limit [] octets = refl
stays limit (start ∷ rest) octets =
    let whole : joined (start ∷ (rest ++ octets ∷ [])) ≡ joined (start ∷ rest) ++ octets = joined-append (start ∷ rest) octets in
    let longer : length (joined (start ∷ (rest ++ octets ∷ []))) ≡ length (joined (start ∷ rest)) + length octets = ap length whole ∙ length-append (joined (start ∷ rest)) octets in
    let first : length (joined (start ∷ rest)) ≡ length start + length (joined rest) = length-append start (joined rest) in
    elim (cases_Bool (ltb (length start) 4)) [
      | inl short ↦ rw short refl
      | inr header ↦
          let four : 4 ≤ length start = ltb-false (length start) 4 header in
          elim (cases_Bool (ltb limit (pdu_length start))) [
            | inl long ↦ rw (header, long) refl
            | inr fits ↦
                elim (cases_Bool (ltb (length (joined (start ∷ rest))) (pdu_length start))) [
                  | inl below ↦
                      rw (header, fits, below)
                      (goes_on (joined (start ∷ (rest ++ octets ∷ []))) (joined (start ∷ rest)) octets (pdu_length start) whole
                      (ap (λ (n : ℕ). 4 + n) (little_from-append 2 start (joined rest) (omega arith))) (omega arith))
                  | inr done ↦
                      let full : pdu_length start ≤ length (joined (start ∷ rest)) = ltb-false (length (joined (start ∷ rest))) (pdu_length start) done in
                      rw (header, fits, done, le-ltb (length (joined (start ∷ (rest ++ octets ∷ [])))) (pdu_length start) (omega arith)) refl
                ]
          ]
    ]

pub open-regrouped : (limit : ℕ) (group : List (List ℕ)) (start : Bool) (octets : List ℕ) → open_octets limit (regrouped group start octets) ≡ held_after limit (open_octets limit group) start octets
open-regrouped limit group true octets = opens limit octets
open-regrouped limit group false octets = stays limit group octets

pub open_after-append : (limit : ℕ) (past : List Piece) (piece : Piece) → open_after limit (past ++ piece ∷ []) ≡ held_after limit (open_after limit past) (starts piece.boundary) piece.octets
open_after-append limit past piece = ap (open_octets limit) (last_group-append past piece) ∙ open-regrouped limit (last_group past) (starts piece.boundary) piece.octets

pub follows : (old : Held) (boundary : Boundary) (piece : List ℕ) (result : Joined) (new : Held) → Takes old (starts boundary) piece result new → (past : List Piece) → HoldsOpen past old → Follows old boundary piece result new past
follows old boundary piece result new call past holds =
    let here : Piece = record { boundary = boundary; octets = piece } in
    let kept_now : new.octets ≡ held_after old.limit old.octets (starts boundary) piece = ap (λ (h : Held). h.octets) call.held in
    let same_limit : new.limit ≡ old.limit = ap (λ (h : Held). h.limit) call.held in
    record {
      got = call.got ∙ ap (λ (held : List ℕ). answer old.limit held (starts boundary) piece) holds;
      unfinished = rw (← holds) call.unfinished;
      holds = kept_now ∙ ap (λ (held : List ℕ). held_after old.limit held (starts boundary) piece) holds ∙ sym (open_after-append old.limit past here) ∙ ap (λ (n : ℕ). open_after n (past ++ here ∷ [])) (sym same_limit);
    }

pub start_is : (boundary : Boundary) → (boundary ≡ First) ⊎ (boundary ≡ FirstFromController) → starts boundary ≡ true
start_is boundary which = elim which [ inl first ↦ ap starts first | inr first ↦ ap starts first ]

pub joins : (old : Held) (boundary : Boundary) (piece : List ℕ) (result : Joined) (new : Held) (start : Bool) → starts boundary ≡ start → Takes old start piece result new → Joins old boundary piece result new
joins old boundary piece result new start is call =
    let here = subst (λ (b : Bool). Takes old b piece result new) (sym is) call in
    record { call = here; past = follows old boundary piece result new here }
