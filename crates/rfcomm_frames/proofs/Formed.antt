-- From the parts of octets to the frame that they have the form of.
use Rattle.std.proofs.Common.{◌≡◌, ℕ, zero, suc, ◌+◌, ◌-◌, ◌/◌, ◌%◌, ◌≤◌, Bool, false, ◌==◌, List, [], ◌∷◌, ◌++◌, length, get_or, take, drop, Option, is_some, refl, sym, ap, subst, ◌∙◌, arith, drop-cons}
use Rattle.std.proofs.lemmas.List.{take-append-drop, drop-drop, nil_from_length, length-drop, get_or-append-add}
use Rattle.bt_base.specs.Octets.{IsOctets}
use Rattle.rfcomm_frames.specs.declared.frame.MuxKind.{MuxKind}
use Rattle.rfcomm_frames.specs.Lengths.{States}
use Rattle.rfcomm_frames.specs.Frames.{PlainFrame, address_of, control_octet, carries, has_credits, credit_octets, HasForm}
use Rattle.rfcomm_frames.specs.declared.refusal.MuxRefusal.TheVariants.{LengthMismatch}
use Rattle.rfcomm_frames.specs.Answers.{HasHead, Refuses}
use Rattle.rfcomm_frames.specs.Reading.{IsSplit}
use Rattle.rfcomm_frames.proofs.Forms.{says}
use Rattle.rfcomm_frames.proofs.Heads.{address_parts, address_again, control_same}

-- octets with their first two and their last one apart
apart : (octets : List ℕ) → 4 ≤ length octets
    → octets ≡ get_or octets 0 0 ∷ get_or octets 1 0 ∷ (take (length octets - 3) (drop 2 octets) ++ get_or octets (length octets - 1) 0 ∷ [])
apart octets room =
    let n : ℕ = length octets - 3 in
    let rest : List ℕ = drop 2 octets in
    let place : 2 + n ≡ length octets - 1 = omega arith in
    let behind : drop (suc (length octets - 1)) octets ≡ [] = nil_from_length (drop (suc (length octets - 1)) octets) (omega (arith, length-drop (suc (length octets - 1)) octets)) in
    let end : drop n rest ≡ get_or octets (length octets - 1) 0 ∷ [] =
    drop-drop n 2 octets ∙ ap (λ (k : ℕ). drop k octets) place ∙ drop-cons octets (length octets - 1) 0 (omega arith)
    ∙ ap (λ (xs : List ℕ). get_or octets (length octets - 1) 0 ∷ xs) behind in
    drop-cons octets 0 0 (omega arith)
    ∙ ap (λ (xs : List ℕ). get_or octets 0 0 ∷ xs) (drop-cons octets 1 0 (omega arith))
    ∙ ap (λ (xs : List ℕ). get_or octets 0 0 ∷ get_or octets 1 0 ∷ xs) (sym (take-append-drop n rest) ∙ ap (λ (xs : List ℕ). take n rest ++ xs) end)

pub part_fits : (front behind octets : List ℕ) → octets ≡ front ++ behind → IsOctets octets → IsOctets behind
part_fits front behind octets is fits i =
    let there = subst IsOctets is fits in
    rw (← get_or-append-add front behind i 0) (there (length front + i))

pub prefix_fits : (front behind : List ℕ) → IsOctets (front ++ behind) → IsOctets front
prefix_fits [] behind fits i = omega arith
prefix_fits (x ∷ front) behind fits zero = fits 0
prefix_fits (x ∷ front) behind fits (suc i) = prefix_fits front behind (λ k. fits (suc k)) i

-- what the head of octets and the body between it and the last octet say
module _ (octets body : List ℕ) (kind : MuxKind) (dlci : ℕ) (pf : Bool) (fits : IsOctets octets) (room : 4 ≤ length octets)
    (ends : get_or octets 0 0 % 2 ≡ 1) (dlci_is : dlci ≡ get_or octets 0 0 / 4) (control_is : get_or octets 1 0 ≡ control_octet kind pf)
    (body_is : body ≡ take (length octets - 3) (drop 2 octets)) where
  -- the octets of a frame with that body
  pub formed : (field info : List ℕ) (credits : Option ℕ) (cr : Bool) → cr ≡ (get_or octets 0 0 / 2 % 2 == 1)
      → States field (length info) → is_some credits ≡ has_credits dlci kind pf → body ≡ field ++ (credit_octets credits ++ info)
      → (carries kind ≡ false → info ≡ [])
      → HasForm (record { dlci = dlci; cr = cr; kind = kind; pf = pf; credits = credits; octets = info }) octets
  formed field info credits cr cr_is states granting body_parts alone =
      let frame : PlainFrame = record { dlci = dlci; cr = cr; kind = kind; pf = pf; credits = credits; octets = info } in
      let last : ℕ = get_or octets (length octets - 1) 0 in
      let first : ℕ = get_or octets 0 0 in
      let second : ℕ = get_or octets 1 0 in
      let address : first ≡ address_of frame = address_again first ends ∙ rw (dlci_is, cr_is) refl in
      let middle : take (length octets - 3) (drop 2 octets) ≡ field ++ (credit_octets credits ++ info) = sym body_is ∙ body_parts in
      let whole : octets ≡ first ∷ second ∷ ((field ++ (credit_octets credits ++ info)) ++ last ∷ []) =
      apart octets room ∙ ap (λ (xs : List ℕ). first ∷ second ∷ (xs ++ last ∷ [])) middle in
      let inner : IsOctets ((field ++ (credit_octets credits ++ info)) ++ last ∷ []) = part_fits (first ∷ second ∷ []) ((field ++ (credit_octets credits ++ info)) ++ last ∷ []) octets whole fits in
      let body_fits : IsOctets (credit_octets credits ++ info) =
      part_fits field (credit_octets credits ++ info) (field ++ (credit_octets credits ++ info)) refl (prefix_fits (field ++ (credit_octets credits ++ info)) (last ∷ []) inner) in
      record {
        field = field;
        check = last;
        parts = whole
            ∙ ap (λ (k : ℕ). k ∷ second ∷ ((field ++ (credit_octets credits ++ info)) ++ last ∷ [])) address
            ∙ ap (λ (k : ℕ). address_of frame ∷ k ∷ ((field ++ (credit_octets credits ++ info)) ++ last ∷ [])) control_is;
        states = states;
        check_fits = fits (length octets - 1);
        fits = record {
          dlci_fits = omega (arith, fits 0);
          granting = granting;
          credits_fit = prefix_fits (credit_octets credits) info body_fits;
          are_octets = part_fits (credit_octets credits) info (credit_octets credits ++ info) refl body_fits;
          alone = alone;
        };
      }

  -- a body that is that of no such frame
  pub unformed : (granting : Bool) → granting ≡ has_credits dlci kind pf → ((credits : Option ℕ) (info : List ℕ) → ¬ IsSplit granting body credits info)
      → Refuses octets LengthMismatch
  unformed granting granting_is none =
      let head : HasHead octets = (room, ends, (kind, pf, control_is)) in (
        head,
        λ frame form.
            let s = says frame octets form in
            let k = control_same frame.kind kind frame.pf pf (sym s.control ∙ control_is) in
            let d : frame.dlci ≡ dlci = (address_parts frame (get_or octets 0 0) s.address).0 ∙ sym dlci_is in
            let granted : is_some frame.credits ≡ granting = form.fits.granting ∙ rw (d, k.0, k.1) (sym granting_is) in
            none frame.credits frame.octets (form.field, form.states, granted, body_is ∙ s.middle),
      )
