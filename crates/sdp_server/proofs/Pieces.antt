-- The listed attributes of the service record as octets.
use Rattle.std.proofs.Common.{◌≡◌, ℕ, Bool, true, false, cond, List, [], ◌∷◌, ◌++◌, refl, sym, ap, ◌∙◌, append_assoc}
use Rattle.std.specs.List.{flat_map}
use Rattle.std.specs.Prelude.{codes}
use Rattle.std.proofs.lemmas.Grind.{flat_map-append}
use Rattle.std.proofs.lemmas.List.{append-nil}
use Rattle.bt_base.specs.Octets.{be16}
use Rattle.bt_base.specs.declared.settings.Serves.{Serves}
use Rattle.sdp_elements.specs.Answers.{Range, is_listed, pairs_of, listed}
use Rattle.sdp_elements.specs.Laws.{tree_octets, parts_octets}
use Rattle.sdp_elements.specs.Records.{Attribute, attribute, sequence_of, unsigned, protocols, goep_psm, service_record}
use Rattle.sdp_server.specs.Listed.{listed_octets, listed_pair}

-- an attribute as a pair of elements
abbrev pair_octets : Attribute → List ℕ
pair_octets a = 0x09 ∷ be16 a.identifier ++ tree_octets a.value

first_pair : (a : Attribute) (others : List Attribute) (test : Bool) → parts_octets (pairs_of (cond test (a ∷ others) others)) ≡ cond test (pair_octets a) [] ++ parts_octets (pairs_of others)
first_pair a others true = refl
first_pair a others false = refl

pub pairs_octets : (ranges : List Range) (attributes : List Attribute) → parts_octets (pairs_of (listed ranges attributes)) ≡ flat_map (listed_pair ranges) attributes
pairs_octets ranges [] = refl
pairs_octets ranges (a ∷ others) =
    first_pair a (listed ranges others) (is_listed ranges a.identifier) ∙ ap (λ (x : List ℕ). listed_pair ranges a ++ x) (pairs_octets ranges others)

-- seven pieces, one behind the other
pub appended : (p0 p1 p2 p3 p4 p5 p6 x0 x1 x2 x3 x4 x5 x6 x7 : List ℕ) → x0 ≡ [] → x1 ≡ x0 ++ p0 → x2 ≡ x1 ++ p1 → x3 ≡ x2 ++ p2 → x4 ≡ x3 ++ p3 → x5 ≡ x4 ++ p4 → x6 ≡ x5 ++ p5 → x7 ≡ x6 ++ p6
    → x7 ≡ p0 ++ (p1 ++ (p2 ++ (p3 ++ (p4 ++ (p5 ++ p6)))))
appended p0 p1 p2 p3 p4 p5 p6 x0 x1 x2 x3 x4 x5 x6 x7 e0 e1 e2 e3 e4 e5 e6 e7 =
    let f1 : x1 ≡ p0 = e1 ∙ ap (λ (x : List ℕ). x ++ p0) e0 in
    let f2 : x2 ≡ p0 ++ p1 = e2 ∙ ap (λ (x : List ℕ). x ++ p1) f1 in
    let f3 : x3 ≡ (p0 ++ p1) ++ p2 = e3 ∙ ap (λ (x : List ℕ). x ++ p2) f2 in
    let f4 : x4 ≡ ((p0 ++ p1) ++ p2) ++ p3 = e4 ∙ ap (λ (x : List ℕ). x ++ p3) f3 in
    let f5 : x5 ≡ (((p0 ++ p1) ++ p2) ++ p3) ++ p4 = e5 ∙ ap (λ (x : List ℕ). x ++ p4) f4 in
    let f6 : x6 ≡ ((((p0 ++ p1) ++ p2) ++ p3) ++ p4) ++ p5 = e6 ∙ ap (λ (x : List ℕ). x ++ p5) f5 in
    e7 ∙ ap (λ (x : List ℕ). x ++ p6) f6 ∙ simp append_assoc

-- the pieces of the record
pub record_octets : (ranges : List Range) (serves : Serves) (formats : List ℕ) → formats ≡ listed_octets ranges 0x0303 (0x35 ∷ 0x02 ∷ 0x08 ∷ 0xFF ∷ [])
    → listed_octets ranges 0x0000 (0x0A ∷ 0x00 ∷ 0x01 ∷ 0x00 ∷ 0x00 ∷ [])
    ++ (listed_octets ranges 0x0001 (0x35 ∷ 0x03 ∷ 0x19 ∷ 0x11 ∷ 0x05 ∷ [])
    ++ (listed_octets ranges 0x0004 (tree_octets (protocols serves))
    ++ (listed_octets ranges 0x0009 (0x35 ∷ 0x08 ∷ 0x35 ∷ 0x06 ∷ 0x19 ∷ 0x11 ∷ 0x05 ∷ 0x09 ∷ 0x01 ∷ 0x02 ∷ [])
    ++ (listed_octets ranges 0x0100 (0x25 ∷ 0x10 ∷ codes "OBEX Object Push")
    ++ (flat_map (listed_pair ranges) (goep_psm serves) ++ formats)))))
    ≡ parts_octets (pairs_of (listed ranges (service_record serves)))
record_octets ranges serves formats e =
    let last : Attribute = attribute 0x0303 (sequence_of (unsigned 1 0xFF ∷ [])) in
    let front = λ (x : List ℕ). listed_octets ranges 0x0000 (0x0A ∷ 0x00 ∷ 0x01 ∷ 0x00 ∷ 0x00 ∷ [])
    ++ (listed_octets ranges 0x0001 (0x35 ∷ 0x03 ∷ 0x19 ∷ 0x11 ∷ 0x05 ∷ [])
    ++ (listed_octets ranges 0x0004 (tree_octets (protocols serves))
    ++ (listed_octets ranges 0x0009 (0x35 ∷ 0x08 ∷ 0x35 ∷ 0x06 ∷ 0x19 ∷ 0x11 ∷ 0x05 ∷ 0x09 ∷ 0x01 ∷ 0x02 ∷ [])
    ++ (listed_octets ranges 0x0100 (0x25 ∷ 0x10 ∷ codes "OBEX Object Push") ++ x)))) in
    ap (λ (x : List ℕ). front (flat_map (listed_pair ranges) (goep_psm serves) ++ x)) (e ∙ sym (append-nil (listed_pair ranges last)))
    ∙ ap front (sym (flat_map-append (listed_pair ranges) (goep_psm serves) (last ∷ [])))
    ∙ sym (pairs_octets ranges (service_record serves))
