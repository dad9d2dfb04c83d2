-- Fates that the first frame of a queue meets.
use Rattle.std.proofs.Common.{◌≡◌, ℕ, zero, suc, ◌+◌, ◌*◌, ◌-◌, ◌≤◌, ◌<◌, min, Bool, List, [], ◌∷◌, ◌++◌, length, take, drop, refl, sym, ap, ap₂, ◌∙◌, arith, length-take, suc-mul, zero-mul, add_comm}
use Rattle.std.proofs.lemmas.List.{take_all, take_min, take-take, drop-take}
use Rattle.hci_packets.specs.declared.acl.Boundary.{Boundary}
use Rattle.hci_packets.specs.declared.acl.Boundary.TheVariants.{Continuing, FirstFromController}
use Rattle.acl_fragments.specs.Cuts.{cut}
use Rattle.acl_fragments.proofs.Cutting.{cut_step}
use Rattle.radio_model.specs.declared.fate.Fate.{Fate}
use Rattle.radio_model.specs.declared.fate.Fate.TheVariants.{CutOff}
use Rattle.radio_model.specs.Radio.{first_or_nothing}
use Rattle.radio_model.specs.Fates.{meets}
use Rattle.radio_model.specs.Queues.{Queue, begun_with, first_meeting, meeting}

-- ---- pieces

-- the first so many pieces are those of the first octets
pub take_pieces : (size count octets_in : ℕ) (boundary : Boundary) (octets : List ℕ) → 1 ≤ size → octets_in ≡ count * size
    → take count (cut size boundary octets) ≡ cut size boundary (take octets_in octets)
take_pieces size zero octets_in boundary octets some is = let none : octets_in ≡ 0 = is ∙ zero-mul size in ap (λ n. cut size boundary (take n octets)) (sym none)
take_pieces size (suc count) octets_in boundary [] some is = ap (λ xs. cut size boundary xs) (sym (take_all octets_in [] (omega arith)))
take_pieces size (suc count) octets_in boundary (x ∷ xs) some is =
    let all : octets_in ≡ size + count * size = is ∙ suc-mul count size ∙ add_comm (count * size) size in
    let octets : List ℕ = x ∷ xs in
    let first : take size (take octets_in octets) ≡ take size octets = take-take size octets_in octets (omega arith) in
    let rest : drop size (take octets_in octets) ≡ take (count * size) (drop size octets) = ap (λ n. drop size (take n octets)) all ∙ drop-take size (count * size) octets in
    ap (λ pieces. take (suc count) pieces) (cut_step size boundary octets some (omega arith))
    ∙ ap (λ pieces. record { boundary = boundary; octets = take size octets } ∷ pieces) (take_pieces size count (count * size) Continuing (drop size octets) some refl)
    ∙ sym (cut_step size boundary (take octets_in octets) some (omega (arith, length-take octets_in octets))
    ∙ ap₂ (λ front pieces. record { boundary = boundary; octets = front } ∷ pieces) first (ap (λ left. cut size Continuing left) rest))

-- ---- a fate is met

min_of : (m n : ℕ) → min m n ≡ min n m
min_of m n = omega arith

pub met : (fate : Fate) (checked : Bool) (handing leaving : ℕ) (q : Queue) (waiting : List (List ℕ)) → q.waiting ≡ waiting → 0 < length waiting → q.coming ≡ []
    → ((frame : List ℕ) (rest : List (List ℕ)) → first_or_nothing waiting ≡ frame
    → (drop leaving (frame ∷ rest) ≡ (meets q.size fate checked frame).stays ++ rest) × (cut q.size FirstFromController (take handing frame) ≡ (meets q.size fate checked frame).pieces))
    → begun_with handing leaving q ≡ first_meeting fate checked waiting q
met fate checked handing leaving q [] is some none plan = absurd (omega arith)
met fate checked handing leaving q (frame ∷ rest) is some none plan =
    let done = plan frame rest refl in
    ap₂ (λ w c. let queue : Queue = record q { waiting = w; coming = c } in queue)
    (ap (λ w. drop leaving w) is ∙ done.0)
    (ap (λ w. cut q.size FirstFromController (take handing (first_or_nothing w))) is ∙ done.1 ∙ sym (ap (λ c. c ++ (meets q.size fate checked frame).pieces) none))

pub met_cut : (checked : Bool) (pieces handing octets : ℕ) (q : Queue) → 1 ≤ q.size → q.coming ≡ [] → 0 < length q.waiting → octets ≡ length (first_or_nothing q.waiting)
    → handing ≡ min octets (pieces * q.size) → begun_with handing 1 q ≡ meeting (CutOff pieces) checked q
met_cut checked pieces handing octets q sized none some whole is =
    met (CutOff pieces) checked handing 1 q q.waiting refl some none (λ frame rest first. (
      refl,
      ap (λ xs. cut q.size FirstFromController xs) (ap (λ n. take n frame) (is ∙ ap (λ n. min n (pieces * q.size)) (whole ∙ ap length first) ∙ min_of (length frame) (pieces * q.size)) ∙ take_min (pieces * q.size) frame)
          ∙ sym (take_pieces q.size pieces (pieces * q.size) FirstFromController frame sized refl),
    ))
