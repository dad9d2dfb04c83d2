-- What the octets of a frame say.
use Rattle.std.proofs.Common.{◌≡◌, ℕ, ◌+◌, ◌-◌, ◌≤◌, Bool, true, false, List, [], ◌∷◌, ◌++◌, length, get_or, take, drop, Option, Some, None, is_some, if◌then◌else◌, refl, sym, ap, subst, ◌∙◌, arith, length-append, inl, inr}
use Rattle.std.proofs.lemmas.List.{append-nil, take_at, get_or_push, get_or-append-add}
use Rattle.rfcomm_frames.specs.declared.frame.MuxKind.{MuxKind}
use Rattle.rfcomm_frames.specs.Lengths.{States}
use Rattle.rfcomm_frames.specs.Frames.{PlainFrame, address_of, control_octet, carries, has_credits, credit_octets, body_of, covered, HasForm}
use Rattle.rfcomm_frames.proofs.Lengths.{field_same}
use Rattle.rfcomm_frames.proofs.Heads.{address_parts, control_same}

-- octets by their places: the body stands between the control octet and the last one
pub record Says (frame : PlainFrame) (field : List ℕ) (check : ℕ) (octets : List ℕ) : Type 0 where
  pub room : 4 ≤ length octets
  pub address : get_or octets 0 0 ≡ address_of frame
  pub control : get_or octets 1 0 ≡ control_octet frame.kind frame.pf
  pub middle : take (length octets - 3) (drop 2 octets) ≡ body_of field frame
  pub last : get_or octets (length octets - 1) 0 ≡ check

some_field : (field : List ℕ) (n : ℕ) → States field n → 1 ≤ length field
some_field field n states =
    elim states [
      | inl one ↦ omega (arith, ap length one.1)
      | inr two ↦ omega (arith, ap length two.1)
    ]

pub says_parts : (frame : PlainFrame) (field octets : List ℕ) (n check : ℕ) → States field n
    → octets ≡ address_of frame ∷ control_octet frame.kind frame.pf ∷ (body_of field frame ++ check ∷ []) → Says frame field check octets
says_parts frame field octets n check states parts =
    let body : List ℕ = body_of field frame in
    let whole : List ℕ = address_of frame ∷ control_octet frame.kind frame.pf ∷ (body ++ check ∷ []) in
    let long : length body ≡ length field + length (credit_octets frame.credits ++ frame.octets) = length-append field (credit_octets frame.credits ++ frame.octets) in
    let some = some_field field n states in
    let size : length whole ≡ 3 + length body = omega (arith, length-append body (check ∷ [])) in
    let count : length whole - 3 ≡ length body = omega arith in
    let place : length whole - 1 ≡ 2 + length body = omega arith in
    let here : Says frame field check whole = record {
      room = omega arith;
      address = refl;
      control = refl;
      middle = ap (λ (k : ℕ). take k (body ++ check ∷ [])) count ∙ take_at body (check ∷ []) (length body) refl;
      last = ap (λ (k : ℕ). get_or whole k 0) place
          ∙ get_or-append-add (address_of frame ∷ control_octet frame.kind frame.pf ∷ []) (body ++ check ∷ []) (length body) 0
          ∙ get_or_push body check 0 (length body) refl;
    } in
    subst (Says frame field check) (sym parts) here

pub says : (frame : PlainFrame) (octets : List ℕ) (form : HasForm frame octets) → Says frame form.field form.check octets
says frame octets form = says_parts frame form.field octets (length frame.octets) form.check form.states form.parts

-- ---- a body is that of one frame

credits_same : (credits credits' : Option ℕ) (info info' : List ℕ) → is_some credits ≡ is_some credits' → credit_octets credits ++ info ≡ credit_octets credits' ++ info'
    → (credits ≡ credits') × (info ≡ info')
credits_same None None info info' same e = (refl, e)
credits_same None (Some n') info info' same e = absurd cc
credits_same (Some n) None info info' same e = absurd cc
credits_same (Some n) (Some n') info info' same e = (cc, cc)

body_same : (field field' info info' : List ℕ) (n n' : ℕ) (credits credits' : Option ℕ) → States field n → States field' n'
    → is_some credits ≡ is_some credits' → field ++ (credit_octets credits ++ info) ≡ field' ++ (credit_octets credits' ++ info')
    → (n ≡ n') × (field ≡ field') × (credits ≡ credits') × (info ≡ info')
body_same field field' info info' n n' credits credits' states states' granting e =
    let f = field_same field field' (credit_octets credits ++ info) (credit_octets credits' ++ info') n n' states states' e in
    let c = credits_same credits credits' info info' granting f.2 in
    (f.0, f.1, c.0, c.1)

-- the same octets, by their places, of two frames whose credits stand where they may
pub record SameParts (frame frame' : PlainFrame) (field field' : List ℕ) (n n' check check' : ℕ) : Type 0 where
  pub frame_is : frame ≡ frame'
  pub field_is : field ≡ field'
  pub number_is : n ≡ n'
  pub check_is : check ≡ check'

rebuilt : (dlci : ℕ) (cr : Bool) (kind : MuxKind) (pf : Bool) (credits : Option ℕ) (octets : List ℕ) (f : PlainFrame)
    → f.dlci ≡ dlci → f.cr ≡ cr → f.kind ≡ kind → f.pf ≡ pf → f.credits ≡ credits → f.octets ≡ octets
    → f ≡ record { dlci = dlci; cr = cr; kind = kind; pf = pf; credits = credits; octets = octets }
rebuilt dlci cr kind pf credits octets f p q r s t u = rw (← p, ← q, ← r, ← s, ← t, ← u) refl

abbrev pub IsGranting : PlainFrame → Type 0
IsGranting frame = is_some frame.credits ≡ has_credits frame.dlci frame.kind frame.pf

pub same_parts : (frame frame' : PlainFrame) (field field' octets : List ℕ) (n n' check check' : ℕ) → States field n → States field' n'
    → IsGranting frame → IsGranting frame' → Says frame field check octets → Says frame' field' check' octets
    → SameParts frame frame' field field' n n' check check'
same_parts frame frame' field field' octets n n' check check' states states' grants grants' s s' =
    let a = address_parts frame (get_or octets 0 0) s.address in
    let a' = address_parts frame' (get_or octets 0 0) s'.address in
    let k = control_same frame.kind frame'.kind frame.pf frame'.pf (sym s.control ∙ s'.control) in
    let dlci : frame.dlci ≡ frame'.dlci = a.0 ∙ sym a'.0 in
    let cr : frame.cr ≡ frame'.cr = a.1 ∙ sym a'.1 in
    let kind : frame.kind ≡ frame'.kind = k.0 in
    let pf : frame.pf ≡ frame'.pf = k.1 in
    let granting : is_some frame.credits ≡ is_some frame'.credits =
    grants
    ∙ ap (λ (d : ℕ). has_credits d frame.kind frame.pf) dlci
    ∙ ap (λ (x : MuxKind). has_credits frame'.dlci x frame.pf) kind
    ∙ ap (λ (x : Bool). has_credits frame'.dlci frame'.kind x) pf
    ∙ sym grants' in
    let b = body_same field field' frame.octets frame'.octets n n' frame.credits frame'.credits states states' granting (sym s.middle ∙ s'.middle) in
    record {
      frame_is = rebuilt frame'.dlci frame'.cr frame'.kind frame'.pf frame'.credits frame'.octets frame dlci cr kind pf b.2 b.3;
      field_is = b.1;
      number_is = b.0;
      check_is = sym s.last ∙ s'.last;
    }

pub one_form : (frame frame' : PlainFrame) (octets : List ℕ) (form : HasForm frame octets) (form' : HasForm frame' octets)
    → SameParts frame frame' form.field form'.field (length frame.octets) (length frame'.octets) form.check form'.check
one_form frame frame' octets form form' =
    same_parts frame frame' form.field form'.field octets (length frame.octets) (length frame'.octets) form.check form'.check form.states form'.states
    form.fits.granting form'.fits.granting (says frame octets form) (says frame' octets form')

-- ---- what the check word is over

no_credits : (dlci : ℕ) (kind : MuxKind) (pf : Bool) → carries kind ≡ false → has_credits dlci kind pf ≡ false
no_credits dlci kind pf is = rw is refl

no_octets : (credits : Option ℕ) → is_some credits ≡ false → credit_octets credits ≡ []
no_octets None is = refl
no_octets (Some n) is = absurd cc

-- without information, what the check word is over is all that stands before it
pub all_covered : (frame : PlainFrame) (octets : List ℕ) (form : HasForm frame octets) → carries frame.kind ≡ false
    → octets ≡ covered form.field frame ++ form.check ∷ []
all_covered frame octets form is =
    let closed : is_some frame.credits ≡ false = form.fits.granting ∙ no_credits frame.dlci frame.kind frame.pf is in
    let head : List ℕ = address_of frame ∷ control_octet frame.kind frame.pf ∷ [] in
    let plain_body : body_of form.field frame ≡ form.field =
    ap (λ (info : List ℕ). form.field ++ (credit_octets frame.credits ++ info)) (form.fits.alone is)
    ∙ ap (λ (c : List ℕ). form.field ++ (c ++ [])) (no_octets frame.credits closed)
    ∙ append-nil form.field in
    form.parts
    ∙ ap (λ (body : List ℕ). head ++ (body ++ form.check ∷ [])) plain_body
    ∙ ap (λ (b : Bool). head ++ ((if b then [] else form.field) ++ form.check ∷ [])) (sym is)

covered_by : (frame : PlainFrame) (octets : List ℕ) (form : HasForm frame octets) (b : Bool) → carries frame.kind ≡ b
    → take (if b then 2 else length octets - 1) octets ≡ covered form.field frame
covered_by frame octets form true is =
    ap (take 2) form.parts ∙ ap (λ (b : Bool). address_of frame ∷ control_octet frame.kind frame.pf ∷ (if b then [] else form.field)) (sym is)
covered_by frame octets form false is =
    let part : List ℕ = covered form.field frame in
    let whole : octets ≡ part ++ form.check ∷ [] = all_covered frame octets form is in
    let size : length octets - 1 ≡ length part = omega (arith, ap length whole, length-append part (form.check ∷ [])) in
    ap (λ (k : ℕ). take k octets) size ∙ ap (take (length part)) whole ∙ take_at part (form.check ∷ []) (length part) refl

pub covered_is : (frame : PlainFrame) (octets : List ℕ) (form : HasForm frame octets)
    → take (if carries frame.kind then 2 else length octets - 1) octets ≡ covered form.field frame
covered_is frame octets form = covered_by frame octets form (carries frame.kind) refl
