-- A packet in a buffer, to which more octets are added.
use Rattle.std.proofs.Common.{◌≡◌, ℕ, ◌+◌, ◌-◌, ◌<◌, ◌≤◌, List, ◌++◌, length, take, drop, min, sym, ap, subst, ◌∙◌, append_assoc, arith, inl, inr}
use Rattle.std.proofs.lemmas.List.{length-append, length-take, length-drop, take_all, take-append-drop}
use Rattle.std.proofs.lemmas.Bool.{cases_eq}
use Rattle.std.proofs.Math.Seq.{take-add}
use Rattle.bt_base.specs.Octets.{IsOctets}
use Rattle.h4_framing.specs.declared.refusal.H4Refusal.{H4Refusal}
use Rattle.h4_framing.specs.declared.extent.Extent.TheVariants.{AtLeast, Known, Refused}
use Rattle.h4_framing.specs.Stream.{IsUnfinished, GoesWrong}
use Rattle.h4_framing.specs.Extents.{extent}
use Rattle.h4_framing.proofs.OctetLists.{IsOctets-append, IsOctets-take}
use Rattle.h4_framing.proofs.ExtentLemmas.{need, need_more, need_known, at_least_short, known_more, known_unfinished, short_unfinished, refused_wrong, wrong_more}

-- the first octets after as many of the piece were added as the length needs
pub all_used : (limit wanted m u len : ℕ) (held piece front : List ℕ) → 255 ≤ limit → len ≡ length held → 0 < len → IsOctets held → IsOctets piece → extent limit held ≡ AtLeast wanted
    → u ≡ min (wanted - len) (length piece) → front ≡ held ++ take u piece → extent limit front ≡ AtLeast m → u ≡ length piece
all_used limit wanted m u len held piece front low size some fits fits-piece e count is f =
    let before = at_least_short limit held wanted low fits e in
    let after = at_least_short limit front m low (subst IsOctets (sym is) (IsOctets-append held (take u piece) fits (IsOctets-take u piece fits-piece))) f in
    let same : need front ≡ need held = ap need is ∙ need_more held (take u piece) (omega arith) in
    let needs-before : wanted ≡ need held = before.needs in
    let needs-after : m ≡ need front = after.needs in
    let short : length front < m = after.short in
    omega (arith, ap length is, length-append held (take u piece), length-take u piece)

-- no more was added than the packet has, and it is not whole yet where nothing was
pub none_beyond : (limit wanted m u len front-len : ℕ) (held piece front : List ℕ) → 255 ≤ limit → len ≡ length held → 0 < len → IsOctets held → extent limit held ≡ AtLeast wanted
    → u ≡ min (wanted - len) (length piece) → front ≡ held ++ take u piece → front-len ≡ length front → extent limit front ≡ Known m → (front-len ≤ m) × (u ≡ 0 → front-len < m)
none_beyond limit wanted m u len front-len held piece front low size some fits e count is front-size f =
    let before = at_least_short limit held wanted low fits e in
    let same : need front ≡ need held = ap need is ∙ need_more held (take u piece) (omega arith) in
    let needs-before : wanted ≡ need held = before.needs in
    let short : length held < wanted = before.short in
    let told : need front ≤ m = need_known limit front m f in
    (omega (arith, ap length is, length-append held (take u piece), length-take u piece), λ none. omega (arith, ap length is, length-append held (take u piece), length-take u piece))

-- octets of the front of the piece, and then the others
parts : (u : ℕ) (held piece : List ℕ) → (held ++ take u piece) ++ drop u piece ≡ held ++ piece
parts u held piece = append_assoc held (take u piece) (drop u piece) ∙ ap (λ (xs : List ℕ). held ++ xs) (take-append-drop u piece)

-- the whole piece was added, and the packet is not whole
pub more_gathered : (limit n u r len buffer-len : ℕ) (held piece front buffer : List ℕ) → len ≡ length front → buffer-len ≡ length buffer → IsOctets held → IsOctets piece → front ≡ held ++ take u piece → extent limit front ≡ Known n
    → buffer ≡ front ++ take r (drop u piece) → r ≡ min (n - len) (length (drop u piece)) → buffer-len < n
    → (buffer ≡ held ++ piece) × IsUnfinished limit (held ++ piece)
more_gathered limit n u r len buffer-len held piece front buffer size buffer-size fits fits-piece front-is known buffer-is count short =
    let all : length (drop u piece) ≤ r = omega (arith, ap length buffer-is, length-append front (take r (drop u piece)), length-take r (drop u piece)) in
    let is : buffer ≡ held ++ piece = buffer-is ∙ ap (λ (xs : List ℕ). front ++ xs) (take_all r (drop u piece) all) ∙ ap (λ (xs : List ℕ). xs ++ drop u piece) front-is ∙ parts u held piece in
    let same : extent limit (held ++ piece) ≡ Known n = ap (extent limit) (sym (parts u held piece) ∙ ap (λ (xs : List ℕ). xs ++ drop u piece) (sym front-is)) ∙ known_more limit front (drop u piece) n known in
    (is, known_unfinished limit (held ++ piece) n same (IsOctets-append held piece fits fits-piece) (omega (arith, ap length is)))

-- the packet is whole
pub whole_gathered : (limit n u r len buffer-len : ℕ) (held piece front buffer : List ℕ) → len ≡ length front → buffer-len ≡ length buffer → front ≡ held ++ take u piece → extent limit front ≡ Known n → u ≤ length piece
    → (len ≤ n) × (u ≡ 0 → len < n) → buffer ≡ front ++ take r (drop u piece) → r ≡ min (n - len) (length (drop u piece)) → n ≤ buffer-len
    → (0 < u + r) × (u + r ≤ length piece) × (buffer ≡ held ++ take (u + r) piece) × (extent limit buffer ≡ Known (length buffer))
whole_gathered limit n u r len buffer-len held piece front buffer len-is buffer-size front-is known le within buffer-is count long =
    let some = within.1 in
    let all = within.0 in
    let size : length buffer ≡ n = omega (arith, ap length buffer-is, length-append front (take r (drop u piece)), length-take r (drop u piece)) in
    let positive : 0 < u + r = elim (cases_eq u 0) [ inl none ↦ let below = some none in omega (arith, ap length buffer-is, length-append front (take r (drop u piece)), length-take r (drop u piece)) | inr many ↦ omega arith ] in
    let is : buffer ≡ held ++ take (u + r) piece =
    buffer-is ∙ ap (λ (xs : List ℕ). xs ++ take r (drop u piece)) front-is ∙ append_assoc held (take u piece) (take r (drop u piece)) ∙ ap (λ (xs : List ℕ). held ++ xs) (sym (take-add u r piece)) in
    (positive, omega (arith, length-drop u piece), is, ap (extent limit) buffer-is ∙ known_more limit front (take r (drop u piece)) n known ∙ ap Known (sym size))

-- the octets go wrong
pub refused_gathered : (limit u n : ℕ) (r : H4Refusal) (held piece front : List ℕ) → IsOctets held → IsOctets piece → front ≡ held ++ take u piece → extent limit front ≡ Refused r n → GoesWrong limit (held ++ piece) r n
refused_gathered limit u n r held piece front fits fits-piece front-is e =
    let octets : IsOctets front = subst IsOctets (sym front-is) (IsOctets-append held (take u piece) fits (IsOctets-take u piece fits-piece)) in
    let wrong = wrong_more limit front (drop u piece) r n (refused_wrong limit front r n octets e) in
    subst (λ (xs : List ℕ). GoesWrong limit xs r n) (ap (λ (xs : List ℕ). xs ++ drop u piece) front-is ∙ parts u held piece) wrong

-- the length is not known yet
pub short_gathered : (limit u n : ℕ) (held piece front : List ℕ) → 255 ≤ limit → IsOctets held → IsOctets piece → front ≡ held ++ take u piece → u ≡ length piece → extent limit front ≡ AtLeast n
    → (front ≡ held ++ piece) × IsUnfinished limit (held ++ piece)
short_gathered limit u n held piece front low fits fits-piece front-is all e =
    let is : front ≡ held ++ piece = front-is ∙ ap (λ (xs : List ℕ). held ++ xs) (take_all u piece (omega arith)) in
    let u-is = short_unfinished limit front n low (subst IsOctets (sym is) (IsOctets-append held piece fits fits-piece)) e in
    (is, subst (IsUnfinished limit) is u-is)
