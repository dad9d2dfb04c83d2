-- The channels that an end keeps.
use Rattle.std.proofs.Common.{◌≡◌, ◌∙◌, ℕ, Bool, true, false, not, ◌==◌, List, [], ◌∷◌, map, take, filter, refl, sym, ap}
use Rattle.std.proofs.lemmas.List.{take-map}
use Rattle.shelf_model.specs.host_model.specs.Endpoints as model
use Rattle.shelf_model.specs.host_model.specs.Endpoints.{is_of, with_endpoint}
use Rattle.bt_host.specs.declared.endpoints.Endpoint.{Endpoint}
use Rattle.bt_host.specs.EndpointLists.{endpoint_value, endpoints_of}

kept : (psm : ℕ) (x : Endpoint) (xs : List Endpoint) (b : Bool) → not (x.psm == psm) ≡ b → map endpoint_value (filter (λ y. not (y.psm == psm)) xs) ≡ filter (λ y. not (is_of psm y)) (map endpoint_value xs)
    → map endpoint_value (filter (λ y. not (y.psm == psm)) (x ∷ xs)) ≡ filter (λ y. not (is_of psm y)) (endpoint_value x ∷ map endpoint_value xs)
kept psm x xs true is rest = rw is (ap (λ ys. endpoint_value x ∷ ys) rest)
kept psm x xs false is rest = rw is rest

pub others : (psm : ℕ) (xs : List Endpoint) → map endpoint_value (filter (λ y. not (y.psm == psm)) xs) ≡ filter (λ y. not (is_of psm y)) (map endpoint_value xs)
others psm [] = refl
others psm (x ∷ xs) = kept psm x xs (not (x.psm == psm)) refl (others psm xs)

-- the new one before three others
pub put_first : (psm own : ℕ) (xs ys : List Endpoint) (old : List model.Endpoint) → ys ≡ filter (λ y. not (y.psm == psm)) xs → endpoints_of xs ≡ old
    → endpoints_of (record { psm = psm; own = own } ∷ take 3 ys) ≡ with_endpoint psm own old
put_first psm own xs ys old is view =
    ap (λ zs. record { psm = psm; own = own } ∷ zs)
    (sym (take-map endpoint_value 3 ys) ∙ ap (λ zs. take 3 (map endpoint_value zs)) is ∙ ap (take 3) (others psm xs) ∙ ap (λ zs. take 3 (filter (λ y. not (is_of psm y)) zs)) view)
