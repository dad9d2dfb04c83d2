-- What a decoder finds is what the stream reads as.
use Rattle.std.proofs.Common.{◌≡◌, ◌≢◌, ℕ, ◌+◌, ◌<◌, ◌≤◌, Bool, true, false, cond, List, [], ◌∷◌, ◌++◌, length, Ok, Err, eqb, ltb, inl, inr, refl, sym, ap, subst, ◌∙◌, append_assoc, arith, length-append}
use Rattle.std.proofs.lemmas.List.{append-nil}
use Rattle.std.proofs.lemmas.Bool.{cases_eq, eq-eqb, ne_eqb, lt-ltb, le-ltb}
use Rattle.std.specs.List.{AllByRecursion}
use Rattle.wire_packets.specs.declared.refusal.WireRefusal.TheVariants.{BadEscape, BadLength, Short, BadChecksum, Checked, BadKind}
use Rattle.wire_packets.specs.declared.stepping.Place.{Place}
use Rattle.wire_packets.specs.declared.stepping.Place.TheVariants.{Outside, Inside, Escaping}
use Rattle.wire_packets.specs.Slip.{delimiter, escape, escaped, all_escaped, slip, longest, Found, IsPart, IsWrongEscape, ReadsPart, ReadsParts, ReadsOpen, delimited, Reads, silent, parted}
use Rattle.wire_packets.specs.Stepping.{Slipping, standing, Step, step_to, stepped, grown, ended, after, found}
use Rattle.wire_packets.proofs.Walking.{after-append, found-append}

-- from one place to another octets are gone through, and that is found
pub record Goes (s : Slipping) (octets : List ℕ) (t : Slipping) (what : List Found) : Type 0 where
  pub stands : after s octets ≡ t
  pub finds : found s octets ≡ what

pub goes_then : (s t u : Slipping) (xs ys : List ℕ) (a b : List Found) → Goes s xs t a → Goes t ys u b → Goes s (xs ++ ys) u (a ++ b)
goes_then s t u xs ys a b g h = record {
  stands = after-append s xs ys ∙ ap (λ (r : Slipping). after r ys) g.stands ∙ h.stands;
  finds = found-append s xs ys ∙ ap (λ (fs : List Found). fs ++ found (after s xs) ys) g.finds ∙ ap (λ (r : Slipping). a ++ found r ys) g.stands ∙ ap (λ fs. a ++ fs) h.finds;
}

-- one octet, from what its step is
step_of : (place : Place) (held : List ℕ) (x : ℕ) (t : Step) → stepped place held x ≡ t → Goes (standing place held) (x ∷ []) t.next t.found
step_of place held x t e = record { stands = ap (λ (s : Step). s.next) e; finds = append-nil (stepped place held x).found ∙ ap (λ (s : Step). s.found) e }

plain_step : (held : List ℕ) (x : ℕ) → x ≢ delimiter → x ≢ escape → stepped Inside held x ≡ grown held x
plain_step held x a b = rw (ne_eqb x 0xC0 a, ne_eqb x 0xDB b) refl

-- the octets of one octet, escaped
spelled_step : (held : List ℕ) (x : ℕ) → Goes (standing Inside held) (escaped x) (grown held x).next (grown held x).found
spelled_step held x = elim (cases_eq x 0xC0) [
  | inl e ↦ subst (λ (n : ℕ). Goes (standing Inside held) (escaped n) (grown held n).next (grown held n).found) (sym e) (record { stands = refl; finds = append-nil (grown held 0xC0).found })
  | inr c ↦ elim (cases_eq x 0xDB) [
    | inl e ↦ subst (λ (n : ℕ). Goes (standing Inside held) (escaped n) (grown held n).next (grown held n).found) (sym e) (record { stands = refl; finds = append-nil (grown held 0xDB).found })
    | inr d ↦ let one : escaped x ≡ x ∷ [] = rw (ne_eqb x 0xC0 c, ne_eqb x 0xDB d) refl in
        subst (λ (o : List ℕ). Goes (standing Inside held) o (grown held x).next (grown held x).found) (sym one) (step_of Inside held x (grown held x) (plain_step held x c d))
  ]
]

grown_more : (held : List ℕ) (x : ℕ) → length held < longest → grown held x ≡ step_to Inside (held ++ x ∷ []) []
grown_more held x lt = rw (lt-ltb (length held) longest lt) refl

grown_over : (held : List ℕ) (x : ℕ) → longest ≤ length held → grown held x ≡ step_to Outside [] (Err BadLength ∷ [])
grown_over held x le = rw (le-ltb (length held) longest le) refl

-- escaped octets are held, while they are few enough
pub spelled : (held xs : List ℕ) → length held + length xs ≤ longest → Goes (standing Inside held) (all_escaped xs) (standing Inside (held ++ xs)) []
spelled held [] fits = record { stands = ap (standing Inside) (sym (append-nil held)); finds = refl }
spelled held (x ∷ xs) fits =
    let one = subst (λ (s : Step). Goes (standing Inside held) (escaped x) s.next s.found) (grown_more held x (omega arith)) (spelled_step held x) in
    let rest = spelled (held ++ x ∷ []) xs (simp length-append (omega arith)) in
    subst (λ (h : List ℕ). Goes (standing Inside held) (all_escaped (x ∷ xs)) (standing Inside h) []) (append_assoc held (x ∷ []) xs)
    (goes_then (standing Inside held) (standing Inside (held ++ x ∷ [])) (standing Inside ((held ++ x ∷ []) ++ xs)) (escaped x) (all_escaped xs) [] [] one rest)

pub spelled_front : (xs : List ℕ) → length xs ≤ longest → Goes (standing Inside []) (all_escaped xs) (standing Inside xs) []
spelled_front xs fits = spelled [] xs (omega arith)

-- one octet too many
over : (held : List ℕ) (x : ℕ) (xs : List ℕ) → length held + length (x ∷ xs) ≡ longest + 1 → Goes (standing Inside held) (all_escaped (x ∷ xs)) (standing Outside []) (Err BadLength ∷ [])
over held x [] long =
    let one = subst (λ (s : Step). Goes (standing Inside held) (escaped x) s.next s.found) (grown_over held x (omega arith)) (spelled_step held x) in
    subst (λ (o : List ℕ). Goes (standing Inside held) o (standing Outside []) (Err BadLength ∷ [])) (sym (append-nil (escaped x))) one
over held x (y ∷ ys) long =
    let one = subst (λ (s : Step). Goes (standing Inside held) (escaped x) s.next s.found) (grown_more held x (omega arith)) (spelled_step held x) in
    let rest = over (held ++ x ∷ []) y ys (simp length-append (omega arith)) in
    goes_then (standing Inside held) (standing Inside (held ++ x ∷ [])) (standing Outside []) (escaped x) (all_escaped (y ∷ ys)) [] (Err BadLength ∷ []) one rest

too_long : (xs : List ℕ) → length xs ≡ longest + 1 → Goes (standing Inside []) (all_escaped xs) (standing Outside []) (Err BadLength ∷ [])
too_long [] long = absurd (omega arith)
too_long (x ∷ xs) long = over [] x xs (omega arith)

-- what is skipped
skipped : (xs : List ℕ) → IsPart xs → Goes (standing Outside []) xs (standing Outside []) []
skipped [] part = record { stands = refl; finds = refl }
skipped (x ∷ xs) part =
    let one = step_of Outside [] x (step_to Outside [] []) (rw (ne_eqb x 0xC0 part.0) refl) in
    goes_then (standing Outside []) (standing Outside []) (standing Outside []) (x ∷ []) xs [] [] one (skipped xs part.1)

opened : Goes (standing Outside []) (delimiter ∷ []) (standing Inside []) []
opened = record { stands = refl; finds = refl }

part_behind : (xs ys : List ℕ) → IsPart (xs ++ ys) → IsPart ys
part_behind [] ys p = p
part_behind (x ∷ xs) ys p = part_behind xs ys p.1

-- an escape that stands for nothing, within a part
wrong : (front : List ℕ) (y : ℕ) (ys : List ℕ) → length front ≤ longest → IsPart (y ∷ ys) → y ≢ 0xDC → y ≢ 0xDD
    → Goes (standing Inside []) (all_escaped front ++ escape ∷ y ∷ ys) (standing Outside []) (Err BadEscape ∷ [])
wrong front y ys fits part dc dd =
    let e : Goes (standing Inside front) (escape ∷ []) (standing Escaping front) [] = record { stands = refl; finds = refl } in
    let bad = step_of Escaping front y (step_to Outside [] (Err BadEscape ∷ [])) (rw (ne_eqb y 0xDC dc, ne_eqb y 0xDD dd, ne_eqb y 0xC0 part.0) refl) in
    let tail = goes_then (standing Escaping front) (standing Outside []) (standing Outside []) (y ∷ []) ys (Err BadEscape ∷ []) [] bad (skipped ys part.1) in
    goes_then (standing Inside []) (standing Inside front) (standing Outside []) (all_escaped front) (escape ∷ y ∷ ys) [] (Err BadEscape ∷ []) (spelled_front front fits)
    (goes_then (standing Inside front) (standing Escaping front) (standing Outside []) (escape ∷ []) (y ∷ ys) [] (Err BadEscape ∷ []) e tail)

close : (part : List ℕ) (what : List Found) → Goes (standing Inside []) part (standing Outside []) what → Goes (standing Inside []) (part ++ delimiter ∷ []) (standing Inside []) what
close part what g = subst (λ (fs : List Found). Goes (standing Inside []) (part ++ delimiter ∷ []) (standing Inside []) fs) (append-nil what)
    (goes_then (standing Inside []) (standing Outside []) (standing Inside []) part (delimiter ∷ []) what [] g opened)

-- a packet whole
whole : (octets : List ℕ) → octets ≢ [] → length octets ≤ longest → Goes (standing Inside []) (all_escaped octets ++ delimiter ∷ []) (standing Inside []) (Ok octets ∷ [])
whole [] some fits = absurd (some refl)
whole (x ∷ xs) some fits =
    goes_then (standing Inside []) (standing Inside (x ∷ xs)) (standing Inside []) (all_escaped (x ∷ xs)) (delimiter ∷ []) [] (Ok (x ∷ xs) ∷ []) (spelled_front (x ∷ xs) fits) (record { stands = refl; finds = refl })

pub whole_found : (octets : List ℕ) → octets ≢ [] → length octets ≤ longest
    → (found (standing Outside []) (slip octets) ≡ Ok octets ∷ []) × (after (standing Outside []) (slip octets) ≡ standing Inside [])
    × (found (standing Inside []) (slip octets) ≡ Ok octets ∷ []) × (after (standing Inside []) (slip octets) ≡ standing Inside [])
whole_found octets some fits = let g = whole octets some fits in (g.finds, g.stands, g.finds, g.stands)

bad_part : (front rest : List ℕ) → IsPart (all_escaped front ++ escape ∷ rest) → length front ≤ longest → IsWrongEscape rest
    → Goes (standing Inside []) ((all_escaped front ++ escape ∷ rest) ++ delimiter ∷ []) (standing Inside []) (Err BadEscape ∷ [])
bad_part front [] part fits no' =
    subst (λ (o : List ℕ). Goes (standing Inside []) o (standing Inside []) (Err BadEscape ∷ [])) (sym (append_assoc (all_escaped front) (escape ∷ []) (delimiter ∷ [])))
    (goes_then (standing Inside []) (standing Inside front) (standing Inside []) (all_escaped front) (escape ∷ delimiter ∷ []) [] (Err BadEscape ∷ []) (spelled_front front fits) (record { stands = refl; finds = refl }))
bad_part front (y ∷ ys) part fits no' =
    let behind : IsPart (y ∷ ys) = (part_behind (all_escaped front) (escape ∷ y ∷ ys) part).1 in
    close (all_escaped front ++ escape ∷ y ∷ ys) (Err BadEscape ∷ []) (wrong front y ys fits behind no'.0 no'.1)

long_part : (front rest : List ℕ) → IsPart (all_escaped front ++ rest) → length front ≡ longest + 1 → Goes (standing Inside []) (all_escaped front ++ rest) (standing Outside []) (Err BadLength ∷ [])
long_part front rest part long =
    goes_then (standing Inside []) (standing Outside []) (standing Outside []) (all_escaped front) rest (Err BadLength ∷ []) [] (too_long front long) (skipped rest (part_behind (all_escaped front) rest part))

-- a part and the delimiter behind it
part_found : (part : List ℕ) (what : List Found) → IsPart part → ReadsPart part what → Goes (standing Inside []) (part ++ delimiter ∷ []) (standing Inside []) what
part_found part [] p r = subst (λ (o : List ℕ). Goes (standing Inside []) (o ++ delimiter ∷ []) (standing Inside []) []) (sym r) (record { stands = refl; finds = refl })
part_found part (Ok octets ∷ []) p r = subst (λ (o : List ℕ). Goes (standing Inside []) (o ++ delimiter ∷ []) (standing Inside []) (Ok octets ∷ [])) (sym r.2) (whole octets r.0 r.1)
part_found part (Err BadEscape ∷ []) p (front, rest, fits, is, no') =
    subst (λ (o : List ℕ). Goes (standing Inside []) (o ++ delimiter ∷ []) (standing Inside []) (Err BadEscape ∷ [])) (sym is) (bad_part front rest (subst IsPart is p) fits no')
part_found part (Err BadLength ∷ []) p (front, rest, long, is) =
    subst (λ (o : List ℕ). Goes (standing Inside []) (o ++ delimiter ∷ []) (standing Inside []) (Err BadLength ∷ [])) (sym is) (close (all_escaped front ++ rest) (Err BadLength ∷ []) (long_part front rest (subst IsPart is p) long))
part_found part (Err Short ∷ []) p r = absurd r
part_found part (Err BadChecksum ∷ []) p r = absurd r
part_found part (Err Checked ∷ []) p r = absurd r
part_found part (Err BadKind ∷ []) p r = absurd r
part_found part (Ok octets ∷ f ∷ fs) p r = absurd r
part_found part (Err BadEscape ∷ f ∷ fs) p r = absurd r
part_found part (Err BadLength ∷ f ∷ fs) p r = absurd r
part_found part (Err Short ∷ f ∷ fs) p r = absurd r
part_found part (Err BadChecksum ∷ f ∷ fs) p r = absurd r
part_found part (Err Checked ∷ f ∷ fs) p r = absurd r
part_found part (Err BadKind ∷ f ∷ fs) p r = absurd r

parts_found : (parts : List (List ℕ)) (what : List Found) → ReadsParts parts what → Goes (standing Inside []) (delimited parts) (standing Inside []) what
parts_found [] what r = record { stands = refl; finds = sym r }
parts_found (part ∷ parts) what (here, behind, p, reads, rest, is) =
    subst (λ (fs : List Found). Goes (standing Inside []) (delimited (part ∷ parts)) (standing Inside []) fs) (sym is)
    (goes_then (standing Inside []) (standing Inside []) (standing Inside []) (part ++ delimiter ∷ []) (delimited parts) here behind (part_found part here p reads) (parts_found parts behind rest))

-- what stands behind the last delimiter
open_found : (part : List ℕ) (what : List Found) → IsPart part → ReadsOpen part what → found (standing Inside []) part ≡ what
open_found part [] p (front, fits, inl is) = ap (found (standing Inside [])) is ∙ (spelled_front front fits).finds
open_found part [] p (front, fits, inr is) =
    let e : Goes (standing Inside front) (escape ∷ []) (standing Escaping front) [] = record { stands = refl; finds = refl } in
    ap (found (standing Inside [])) is ∙ (goes_then (standing Inside []) (standing Inside front) (standing Escaping front) (all_escaped front) (escape ∷ []) [] [] (spelled_front front fits) e).finds
open_found part (Err BadEscape ∷ []) p (front, [], fits, is, some, no') = absurd (some refl)
open_found part (Err BadEscape ∷ []) p (front, y ∷ ys, fits, is, some, no') =
    let behind : IsPart (y ∷ ys) = (part_behind (all_escaped front) (escape ∷ y ∷ ys) (subst IsPart is p)).1 in
    ap (found (standing Inside [])) is ∙ (wrong front y ys fits behind no'.0 no'.1).finds
open_found part (Err BadLength ∷ []) p (front, rest, long, is) = ap (found (standing Inside [])) is ∙ (long_part front rest (subst IsPart is p) long).finds
open_found part (Ok octets ∷ fs) p r = absurd r
open_found part (Err Short ∷ fs) p r = absurd r
open_found part (Err BadChecksum ∷ fs) p r = absurd r
open_found part (Err Checked ∷ fs) p r = absurd r
open_found part (Err BadKind ∷ fs) p r = absurd r
open_found part (Err BadEscape ∷ f ∷ fs) p r = absurd r
open_found part (Err BadLength ∷ f ∷ fs) p r = absurd r

pub reads_found : (stream : List ℕ) (what : List Found) → Reads stream what → found (standing Outside []) stream ≡ what
reads_found stream what (silent part none) = (skipped stream part).finds ∙ sym none
reads_found stream what (parted before parts rest closed last p reads q tail is found_is) =
    let head = goes_then (standing Outside []) (standing Outside []) (standing Inside []) before (delimiter ∷ []) [] [] (skipped before p) opened in
    let mid = goes_then (standing Outside []) (standing Inside []) (standing Inside []) (before ++ delimiter ∷ []) (delimited parts) [] closed head (parts_found parts closed reads) in
    let end : Goes (standing Inside []) rest (after (standing Inside []) rest) last = record { stands = refl; finds = open_found rest last q tail } in
    let all = goes_then (standing Outside []) (standing Inside []) (after (standing Inside []) rest) ((before ++ delimiter ∷ []) ++ delimited parts) rest closed last mid end in
    ap (found (standing Outside [])) (is ∙ sym (append_assoc before (delimiter ∷ []) (delimited parts ++ rest)) ∙ sym (append_assoc (before ++ delimiter ∷ []) (delimited parts) rest)) ∙ all.finds ∙ sym found_is
