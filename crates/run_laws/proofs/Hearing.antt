-- A host on its link hears the pieces of a frame, one after the other.
use Rattle.std.proofs.Common.{◌≡◌, ℕ, Bool, true, List, [], ◌∷◌, ◌++◌, Some, if◌then◌else◌, refl, sym, ap, subst}
use Rattle.std.proofs.lemmas.Bool.{eq-eqb}
use Rattle.station_laws.specs.acl_fragments.specs.Pieces.{Piece}
use Rattle.station_laws.specs.push_terms.specs.declared.word.Side.{Side}
use Rattle.station_laws.specs.world_model.specs.Machines.{Upper}
use Rattle.station_laws.specs.world_model.specs.Stations.{Station, longest_pdu, gives, holds, hears_each, hears_piece}
use Rattle.station_laws.specs.turn_laws.proofs.Joining.{completions, held_behind}
use Rattle.run_laws.proofs.Owning.{Own, own, Piecing, Comes, stays, comes_then}
use Rattle.run_laws.proofs.Speaking.{one_of, station_of, Place}

-- with these pieces on their way to it
abbrev pub hearing : {S : Type 0} → Place → S → List ℕ → List (List ℕ) → List Piece → Own S
hearing p upper joining waiting pieces = own (record (one_of p.scan p.number true [] waiting) { coming = pieces }) (station_of upper p.size p.total (Some p.number) joining [])

heard_on : {S G : Type 0} (U : Upper S G) (g : List G) (p : Place) (piece : Piece) (joining : List ℕ) (upper : S)
    → hears_piece U g p.number piece (station_of upper p.size p.total (Some p.number) joining [])
    ≡ station_of (hears_each U g (gives longest_pdu joining piece) upper) p.size p.total (Some p.number) (holds longest_pdu joining piece) []
heard_on {S} U g p piece joining upper =
    let old : Station S = station_of upper p.size p.total (Some p.number) joining [] in
    let new : Station S = station_of (hears_each U g (gives longest_pdu joining piece) upper) p.size p.total (Some p.number) (holds longest_pdu joining piece) [] in
    ap (λ (b : Bool). if b then new else old) (eq-eqb p.number p.number refl)

each_then : {S G : Type 0} (U : Upper S G) (g : List G) (xs ys : List (List ℕ)) (upper : S) → hears_each U g (xs ++ ys) upper ≡ hears_each U g ys (hears_each U g xs upper)
each_then U g [] ys upper = refl
each_then U g (x ∷ xs) ys upper = each_then U g xs ys _

pub hears_all : {S G : Type 0} (U : Upper S G) (side : Side) (g : List G) (p : Place) (pieces : List Piece) (upper : S) (joining : List ℕ) (waiting : List (List ℕ))
    → Comes U side true p.number (hearing p upper joining waiting pieces) (hearing p (hears_each U g (completions longest_pdu joining pieces) upper) (held_behind longest_pdu joining pieces) waiting [])
hears_all U side g p [] upper joining waiting = stays U side true p.number (hearing p upper joining waiting [])
hears_all {S} U side g p (piece ∷ rest) upper joining waiting =
    let next : S = hears_each U g (gives longest_pdu joining piece) upper in
    let mid : Own S = hearing p next (holds longest_pdu joining piece) waiting rest in
    let first : Comes U side true p.number (hearing p upper joining waiting (piece ∷ rest)) mid = record {
      motions = Piecing piece ∷ [];
      runs = (mid, (rest, refl, g, ap (λ (s : Station S). own mid.one s) (sym (heard_on U g p piece joining upper))), refl);
    } in
    subst (λ (u : S). Comes U side true p.number (hearing p upper joining waiting (piece ∷ rest)) (hearing p u (held_behind longest_pdu joining (piece ∷ rest)) waiting []))
    (sym (each_then U g (gives longest_pdu joining piece) (completions longest_pdu (holds longest_pdu joining piece) rest) upper))
    (comes_then U side true p.number _ _ _ first (hears_all U side g p rest next (holds longest_pdu joining piece) waiting))
