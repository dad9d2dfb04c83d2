-- The SDUs that are joined are those of the longest front that spells any.
use Rattle.std.proofs.Common.{◌≡◌, ◌≢◌, ℕ, zero, suc, ◌<◌, ◌≤◌, Bool, true, false, cond, List, [], ◌∷◌, ◌++◌, length, map, Option, Some, None, refl, sym, ap, subst, ◌∙◌, arith, append_assoc, append-nil, length-append, ◌⊎◌, inl, inr}
use Rattle.std.specs.Prelude.{nat_lt, ◌==◌}
use Rattle.std.specs.List.{flat_map, AllByRecursion}
use Rattle.std.proofs.lemmas.Bool.{eqb-true, eq-eqb, le-ltb}
use Rattle.std.proofs.lemmas.List.{map-append}
use Rattle.std.proofs.lemmas.Grind.{flat_map-append}
use Rattle.ertm_frames.specs.Segments.{Segment, whole, start, end, continuation, SpellsSdu, SpellSdus}
use Rattle.ertm_frames.specs.Joining.{Begun, Whole, Start, End, Continuation, sar_of, Joint, Misplaced, Begins, Ends, begins, with_octets, joint, Joining, At, Stopped, joined_by, ended_by, joined, ended, IsSegment, JoinedIsRight, LongestIsOne}
use Rattle.ertm_frames.proofs.Joined.{one-sdu_list}

-- ---- lists one behind another

pub joined-append : (joining : Joining) (xs ys : List Segment) → joined joining (xs ++ ys) ≡ joined (joined joining xs) ys
joined-append joining [] ys = refl
joined-append (At begun) (x ∷ xs) ys = joined-append (joined_by (joint begun x)) xs ys
joined-append Stopped (x ∷ xs) [] = refl
joined-append Stopped (x ∷ xs) (y ∷ ys) = refl

pub ended-stopped : (xs : List Segment) → ended Stopped xs ≡ []
ended-stopped [] = refl
ended-stopped (x ∷ xs) = refl

pub joined-stopped : (xs : List Segment) → joined Stopped xs ≡ Stopped
joined-stopped [] = refl
joined-stopped (x ∷ xs) = refl

pub ended-append : (joining : Joining) (xs ys : List Segment) → ended joining (xs ++ ys) ≡ ended joining xs ++ ended (joined joining xs) ys
ended-append joining [] ys = refl
ended-append (At begun) (x ∷ xs) ys =
    ap (λ (l : List (List ℕ)). ended_by (joint begun x) ++ l) (ended-append (joined_by (joint begun x)) xs ys)
    ∙ sym (append_assoc (ended_by (joint begun x)) (ended (joined_by (joint begun x)) xs) (ended (joined (joined_by (joint begun x)) xs) ys))
ended-append Stopped (x ∷ xs) ys = sym (ended-stopped ys)

spell_one : (own behind : List Segment) (sdu : List ℕ) (sdus : List (List ℕ)) → SpellsSdu own sdu → SpellSdus behind sdus → SpellSdus (own ++ behind) (sdu ∷ sdus)
spell_one own behind sdu sdus first rest = (own, behind, refl, first, rest)

-- ---- an SDU that was cut is joined again

fits_begin : (total : ℕ) (octets : List ℕ) → length octets ≤ total → begins (record { total = total; octets = octets }) ≡ Begins (record { total = total; octets = octets })
fits_begin total octets le = let e = le-ltb total (length octets) le in rw e refl

-- continuations and an end, where the octets come to the stated length
inner_joins : (total : ℕ) (inner : List (List ℕ)) (come last : List ℕ) → length (come ++ (flat_map (λ (o : List ℕ). o) inner ++ last)) ≡ total
    → (joined (At (Some (record { total = total; octets = come }))) (map continuation inner ++ end last ∷ []) ≡ At None)
    × (ended (At (Some (record { total = total; octets = come }))) (map continuation inner ++ end last ∷ []) ≡ (come ++ (flat_map (λ (o : List ℕ). o) inner ++ last)) ∷ [])
inner_joins total [] come last is =
    let e : (length (come ++ last) == total) ≡ true = eq-eqb (length (come ++ last)) total is in
    (rw e refl, rw e refl)
inner_joins total (octets ∷ inner) come last is =
    let again : come ++ ((octets ++ flat_map (λ (o : List ℕ). o) inner) ++ last) ≡ (come ++ octets) ++ (flat_map (λ (o : List ℕ). o) inner ++ last) =
    ap (λ (l : List ℕ). come ++ l) (append_assoc octets (flat_map (λ (o : List ℕ). o) inner) last) ∙ sym (append_assoc come octets (flat_map (λ (o : List ℕ). o) inner ++ last)) in
    let whole_length : length ((come ++ octets) ++ (flat_map (λ (o : List ℕ). o) inner ++ last)) ≡ total = ap length (sym again) ∙ is in
    let long = length-append (come ++ octets) (flat_map (λ (o : List ℕ). o) inner ++ last) in
    let fits = fits_begin total (come ++ octets) (omega arith) in
    let rest = inner_joins total inner (come ++ octets) last whole_length in
    let tail = map continuation inner ++ end last ∷ [] in (
      ap (λ (j : Joint). joined (joined_by j) tail) fits ∙ rest.0,
      ap (λ (j : Joint). ended_by j ++ ended (joined_by j) tail) fits ∙ rest.1 ∙ ap (λ (l : List ℕ). l ∷ []) (sym again),
    )

pub sdu_joins : (own : List Segment) (sdu : List ℕ) → SpellsSdu own sdu → (joined (At None) own ≡ At None) × (ended (At None) own ≡ sdu ∷ [])
sdu_joins own sdu (inl alone) = rw alone (refl, refl)
sdu_joins own sdu (inr cut) =
    let is : length (cut.first ++ (flat_map (λ (o : List ℕ). o) cut.inner ++ cut.last)) ≡ length sdu = ap length (sym cut.joined) in
    let long = length-append cut.first (flat_map (λ (o : List ℕ). o) cut.inner ++ cut.last) in
    let fits = fits_begin (length sdu) cut.first (omega arith) in
    let rest = inner_joins (length sdu) cut.inner cut.first cut.last is in
    let tail = map continuation cut.inner ++ end cut.last ∷ [] in
    rw cut.parts (
      ap (λ (j : Joint). joined (joined_by j) tail) fits ∙ rest.0,
      ap (λ (j : Joint). ended_by j ++ ended (joined_by j) tail) fits ∙ rest.1 ∙ ap (λ (l : List ℕ). l ∷ []) (sym cut.joined),
    )

pub sdus_join : (segments : List Segment) (sdus : List (List ℕ)) → SpellSdus segments sdus → (joined (At None) segments ≡ At None) × (ended (At None) segments ≡ sdus)
sdus_join segments [] none = rw none (refl, refl)
sdus_join segments (sdu ∷ sdus) (own, behind, parts, first, later) =
    let here = sdu_joins own sdu first in
    let rest = sdus_join behind sdus later in
    rw parts (
      joined-append (At None) own behind ∙ ap (λ (j : Joining). joined j behind) here.0 ∙ rest.0,
      ended-append (At None) own behind ∙ ap (λ (l : List (List ℕ)). l ++ ended (joined (At None) own) behind) here.1 ∙ ap (λ (j : Joining). sdu ∷ ended j behind) here.0 ∙ ap (λ (l : List (List ℕ)). sdu ∷ l) rest.1,
    )

-- ---- what is joined was spelled

-- segments of an SDU that has begun
abbrev pub IsOpen : List Segment → Option Begun → Type 0
IsOpen segments None = segments ≡ []
IsOpen segments (Some begun) =
    (first : List ℕ) × (inner : List (List ℕ)) × (segments ≡ start begun.total first ∷ map continuation inner) × (begun.octets ≡ first ++ flat_map (λ (o : List ℕ). o) inner)

-- what a segment makes of the segments that are open
abbrev Makes : List Segment → Joint → Type 0
Makes opened Misplaced = Unit {0}
Makes opened (Begins begun) = IsOpen opened (Some begun)
Makes opened (Ends sdu) = SpellsSdu opened sdu

begins_makes : (opened : List Segment) (begun : Begun) (long : Bool) → IsOpen opened (Some begun) → Makes opened (cond long Misplaced (Begins begun))
begins_makes opened begun true h = tt
begins_makes opened begun false h = h

ends_makes : (opened : List Segment) (begun : Begun) (exact : Bool) → (exact ≡ true → SpellsSdu opened begun.octets) → Makes opened (cond exact (Ends begun.octets) Misplaced)
ends_makes opened begun true h = h refl
ends_makes opened begun false h = tt

continued : (opened : List Segment) (begun : Begun) (octets : List ℕ) → IsOpen opened (Some begun) → IsOpen (opened ++ continuation octets ∷ []) (Some (with_octets begun octets))
continued opened begun octets (first, inner, parts, come) = (
  first,
  inner ++ octets ∷ [],
  ap (λ (xs : List Segment). xs ++ continuation octets ∷ []) parts ∙ ap (λ (xs : List Segment). start begun.total first ∷ xs) (sym (map-append continuation inner (octets ∷ []))),
  ap (λ (xs : List ℕ). xs ++ octets) come ∙ append_assoc first (flat_map (λ (o : List ℕ). o) inner) octets
      ∙ ap (λ (xs : List ℕ). first ++ xs) (ap (λ (xs : List ℕ). flat_map (λ (o : List ℕ). o) inner ++ xs) (sym (append-nil octets)) ∙ sym (flat_map-append (λ (o : List ℕ). o) inner (octets ∷ []))),
)

ended_here : (opened : List Segment) (begun : Begun) (octets : List ℕ) → IsOpen opened (Some begun) → length (begun.octets ++ octets) ≡ begun.total
    → SpellsSdu (opened ++ end octets ∷ []) (begun.octets ++ octets)
ended_here opened begun octets (first, inner, parts, come) exact = inr (record {
  first = first;
  inner = inner;
  last = octets;
  parts = ap (λ (xs : List Segment). xs ++ end octets ∷ []) parts ∙ ap (λ (total : ℕ). start total first ∷ (map continuation inner ++ end octets ∷ [])) (sym exact);
  joined = ap (λ (xs : List ℕ). xs ++ octets) come ∙ append_assoc first (flat_map (λ (o : List ℕ). o) inner) octets;
})

-- a segment is one of the four
pub data Shape (segment : Segment) : Type 0 where
  is_whole : segment ≡ whole segment.octets → sar_of segment.sar ≡ Whole → Shape segment
  is_start : segment ≡ start segment.total segment.octets → sar_of segment.sar ≡ Start → Shape segment
  is_end : segment ≡ end segment.octets → sar_of segment.sar ≡ End → Shape segment
  is_continuation : segment ≡ continuation segment.octets → sar_of segment.sar ≡ Continuation → Shape segment

abbrev of_numbers : ℕ → ℕ → List ℕ → Segment
of_numbers sar total octets = record { sar = sar; total = total; octets = octets }

shape_by : (sar total : ℕ) (octets : List ℕ) → sar < 4 → (sar ≢ 1 → total ≡ 0) → Shape (of_numbers sar total octets)
shape_by zero total octets fits stated = is_whole (ap (λ (n : ℕ). of_numbers 0 n octets) (stated (λ e. absurd (omega (arith, e))))) refl
shape_by (suc zero) total octets fits stated = is_start refl refl
shape_by (suc (suc zero)) total octets fits stated = is_end (ap (λ (n : ℕ). of_numbers 2 n octets) (stated (λ e. absurd (omega (arith, e))))) refl
shape_by (suc (suc (suc zero))) total octets fits stated = is_continuation (ap (λ (n : ℕ). of_numbers 3 n octets) (stated (λ e. absurd (omega (arith, e))))) refl
shape_by (suc (suc (suc (suc n)))) total octets fits stated = absurd (omega arith)

pub shape : (segment : Segment) → IsSegment segment → Shape segment
shape segment is = shape_by segment.sar segment.total segment.octets is.sar_fits is.stated

makes_by : (opened : List Segment) (begun : Option Begun) (segment : Segment) → IsOpen opened begun → Shape segment → Makes (opened ++ segment ∷ []) (joint begun segment)
makes_by opened None segment none (is_whole e sar) =
    rw sar (inl (ap (λ (xs : List Segment). xs ++ segment ∷ []) none ∙ ap (λ (s : Segment). s ∷ []) e))
makes_by opened None segment none (is_start e sar) =
    rw sar (begins_makes (opened ++ segment ∷ []) (record { total = segment.total; octets = segment.octets }) (nat_lt segment.total (length segment.octets))
    (segment.octets, [], ap (λ (xs : List Segment). xs ++ segment ∷ []) none ∙ ap (λ (s : Segment). s ∷ []) e, sym (append-nil segment.octets)))
makes_by opened None segment none (is_end e sar) = rw sar tt
makes_by opened None segment none (is_continuation e sar) = rw sar tt
makes_by opened (Some begun) segment open_ (is_whole e sar) = rw sar tt
makes_by opened (Some begun) segment open_ (is_start e sar) = rw sar tt
makes_by opened (Some begun) segment open_ (is_end e sar) =
    rw sar (ends_makes (opened ++ segment ∷ []) (with_octets begun segment.octets) (length (begun.octets ++ segment.octets) == begun.total)
    (λ exact. subst (λ (s : Segment). SpellsSdu (opened ++ s ∷ []) (begun.octets ++ segment.octets)) (sym e)
    (ended_here opened begun segment.octets open_ (eqb-true (length (begun.octets ++ segment.octets)) begun.total exact))))
makes_by opened (Some begun) segment open_ (is_continuation e sar) =
    rw sar (begins_makes (opened ++ segment ∷ []) (with_octets begun segment.octets) (nat_lt begun.total (length (begun.octets ++ segment.octets)))
    (subst (λ (s : Segment). IsOpen (opened ++ s ∷ []) (Some (with_octets begun segment.octets))) (sym e) (continued opened begun segment.octets open_)))

-- ---- and no longer front spells any

-- SDUs are spelled by the open segments and some front of these, or none are; and wherever segments behind the open
-- ones end all SDUs, that is within this front
record Settles (opened : List Segment) (begun : Option Begun) (segments : List Segment) : Type 0 where
  front : List Segment
  behind : List Segment
  parts : segments ≡ front ++ behind
  spells : SpellSdus (opened ++ front) (ended (At begun) segments) ⊎ ((front ≡ []) × (ended (At begun) segments ≡ []))
  longest : (other rest : List Segment) → segments ≡ other ++ rest → joined (At begun) other ≡ At None → length other ≤ length front

-- the same with one segment in front, by what it makes
record SettlesBy (opened : List Segment) (segment : Segment) (j : Joint) (segments : List Segment) : Type 0 where
  front : List Segment
  behind : List Segment
  parts : segment ∷ segments ≡ front ++ behind
  spells : SpellSdus (opened ++ front) (ended_by j ++ ended (joined_by j) segments) ⊎ ((front ≡ []) × (ended_by j ++ ended (joined_by j) segments ≡ []))
  longest : (other rest : List Segment) → segments ≡ other ++ rest → joined (joined_by j) other ≡ At None → suc (length other) ≤ length front

head_is : (x y : Segment) (xs ys : List Segment) → x ∷ xs ≡ y ∷ ys → (x ≡ y) × (xs ≡ ys)
head_is x y xs ys e = (cc, cc)

longest_by : (begun : Option Begun) (segment : Segment) (segments front other rest : List Segment)
    → ((other' rest' : List Segment) → segments ≡ other' ++ rest' → joined (joined_by (joint begun segment)) other' ≡ At None → suc (length other') ≤ length front)
    → segment ∷ segments ≡ other ++ rest → joined (At begun) other ≡ At None → length other ≤ length front
longest_by begun segment segments front [] rest most parts is = omega arith
longest_by begun segment segments front (x ∷ other) rest most parts is =
    let same = head_is segment x segments (other ++ rest) parts in
    most other rest same.1 (ap (λ (s : Segment). joined (joined_by (joint begun s)) other) same.0 ∙ is)

settles_by : (opened : List Segment) (begun : Option Begun) (segment : Segment) (segments : List Segment) → SettlesBy opened segment (joint begun segment) segments → Settles opened begun (segment ∷ segments)
settles_by opened begun segment segments h = record {
  front = h.front;
  behind = h.behind;
  parts = h.parts;
  spells = h.spells;
  longest = λ other rest parts is. longest_by begun segment segments h.front other rest h.longest parts is;
}

stops : (opened : List Segment) (segment : Segment) (segments : List Segment) → SettlesBy opened segment Misplaced segments
stops opened segment segments = record {
  front = [];
  behind = segment ∷ segments;
  parts = refl;
  spells = inr (refl, ended-stopped segments);
  longest = λ other rest parts is. let e : Stopped ≡ At None = sym (joined-stopped other) ∙ is in cc;
}

none_ends : (begun : Begun) (other : List Segment) → length other ≤ 0 → joined (At (Some begun)) other ≡ At None → ⊥
none_ends begun [] few is = cc
none_ends begun (x ∷ other) few is = absurd (omega arith)

one_open : (opened : List Segment) (segment : Segment) (begun : Begun) (segments : List Segment) (h : Settles (opened ++ segment ∷ []) (Some begun) segments)
    → SpellSdus ((opened ++ segment ∷ []) ++ h.front) (ended (At (Some begun)) segments) ⊎ ((h.front ≡ []) × (ended (At (Some begun)) segments ≡ []))
    → SettlesBy opened segment (Begins begun) segments
one_open opened segment begun segments h (inl spells) = record {
  front = segment ∷ h.front;
  behind = h.behind;
  parts = ap (λ (xs : List Segment). segment ∷ xs) h.parts;
  spells = inl (subst (λ (xs : List Segment). SpellSdus xs (ended (At (Some begun)) segments)) (append_assoc opened (segment ∷ []) h.front) spells);
  longest = λ other rest parts is. let le = h.longest other rest parts is in omega arith;
}
one_open opened segment begun segments h (inr (none, nothing)) = record {
  front = [];
  behind = segment ∷ segments;
  parts = refl;
  spells = inr (refl, nothing);
  longest = λ other rest parts is. absurd (none_ends begun other (let le = h.longest other rest parts is in let e = ap length none in omega arith) is);
}

spelled_next : (segments : List Segment) (h : Settles [] None segments) → SpellSdus h.front (ended (At None) segments) ⊎ ((h.front ≡ []) × (ended (At None) segments ≡ [])) → SpellSdus h.front (ended (At None) segments)
spelled_next segments h (inl spells) = spells
spelled_next segments h (inr (none, nothing)) = rw nothing none

one_ended : (opened : List Segment) (segment : Segment) (sdu : List ℕ) (segments : List Segment) → SpellsSdu (opened ++ segment ∷ []) sdu → Settles [] None segments → SettlesBy opened segment (Ends sdu) segments
one_ended opened segment sdu segments own h = record {
  front = segment ∷ h.front;
  behind = h.behind;
  parts = ap (λ (xs : List Segment). segment ∷ xs) h.parts;
  spells = inl (opened ++ segment ∷ [], h.front, sym (append_assoc opened (segment ∷ []) h.front), own, spelled_next segments h h.spells);
  longest = λ other rest parts is. let le = h.longest other rest parts is in omega arith;
}

settles : (opened : List Segment) (begun : Option Begun) (segments : List Segment) → IsOpen opened begun → AllByRecursion IsSegment segments → Settles opened begun segments
settles opened begun [] open_ fits = record {
  front = [];
  behind = [];
  parts = refl;
  spells = inr (refl, refl);
  longest = λ other rest parts is. let long = length-append other rest in let e = ap length parts in omega arith;
}
settles opened begun (segment ∷ segments) open_ fits =
    settles_by opened begun segment segments
    (elim (joint begun segment) as (λ j. Makes (opened ++ segment ∷ []) j → SettlesBy opened segment j segments) [
      | Misplaced ↦ λ made. stops opened segment segments
      | Begins more ↦ λ made. (let h = settles (opened ++ segment ∷ []) (Some more) segments made fits.1 in one_open opened segment more segments h h.spells)
      | Ends sdu ↦ λ made. one_ended opened segment sdu segments made (settles [] None segments refl fits.1)
    ] (makes_by opened begun segment open_ (shape segment fits.0)))

pub joined-is_right : JoinedIsRight
joined-is_right segments fits =
    let h = settles [] None segments refl fits in
    record {
      front = h.front;
      behind = h.behind;
      parts = h.parts;
      spells = spelled_next segments h h.spells;
      longest = λ other rest others parts spells. h.longest other rest parts (sdus_join other others spells).0;
    }

-- ---- and these SDUs are the only ones

same_front : (xs ys xs' ys' : List Segment) → length xs ≡ length xs' → xs ++ ys ≡ xs' ++ ys' → xs ≡ xs'
same_front [] ys [] ys' long e = refl
same_front [] ys (x' ∷ xs') ys' long e = absurd (omega arith)
same_front (x ∷ xs) ys [] ys' long e = absurd (omega arith)
same_front (x ∷ xs) ys (x' ∷ xs') ys' long e =
    let same = head_is x x' (xs ++ ys) (xs' ++ ys') e in
    rw (same.0, same_front xs ys xs' ys' (omega arith) same.1) refl

pub longest-is_one : LongestIsOne
longest-is_one segments sdus sdus' h h' =
    let below = h.longest h'.front h'.behind sdus' h'.parts h'.spells in
    let above = h'.longest h.front h.behind sdus h.parts h.spells in
    let same : h.front ≡ h'.front = same_front h.front h.behind h'.front h'.behind (omega arith) (sym h.parts ∙ h'.parts) in
    one-sdu_list h.front sdus sdus' h.spells (subst (λ (xs : List Segment). SpellSdus xs sdus') (sym same) h'.spells)
