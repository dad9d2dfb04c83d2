-- The sequence at the front of octets, and the parts that are left to walk.
use Rattle.std.proofs.Common.{◌≡◌, ℕ, ◌-◌, ◌≤◌, List, length, take, drop, Some, Result, Ok, sym, ap, subst, ◌∙◌, arith}
use Rattle.std.specs.Result.{result_ok}
use Rattle.std.proofs.lemmas.List.{take_all, length-drop}
use Rattle.sdp_elements.specs.declared.fault.SdpRefusal.{SdpRefusal}
use Rattle.sdp_elements.specs.declared.fault.SdpRefusal.TheVariants.{Short}
use Rattle.sdp_elements.specs.Elements.{Tree, SequenceOf, Trees, PlainElement, Sequence}
use Rattle.sdp_elements.specs.Optional.{◌>>=◌}
use Rattle.sdp_elements.specs.Reading.{tree_at, Shows}
use Rattle.sdp_elements.specs.Sequences.{sequence_parts, sequence_at}
use Rattle.sdp_elements.specs.Spelling.{IsSpelledBy, AreSpelledBy, depth, parts_depth, Stands}
use Rattle.sdp_elements.proofs.ReadingLaws.{ok_is}
use Rattle.sdp_elements.proofs.TreeLaws.{parts_again}

pub sequence_read : (octets rest : List ℕ) (parts : Trees) → tree_at Short 8 octets ≡ Ok (SequenceOf parts, rest) → sequence_at octets ≡ Some (parts, rest)
sequence_read octets rest parts e =
    ap (λ (r : Result (Tree × List ℕ) SdpRefusal). result_ok r >>= λ found. sequence_parts found.0 >>= λ parts. Some (parts, found.1)) e

depth_of : (tree : Tree) (parts : Trees) (n : ℕ) → tree ≡ SequenceOf parts → depth tree ≤ n → parts_depth parts ≤ n - 1
depth_of tree parts n e h = let d = ap depth e in omega arith

-- an element of the front: it stands for a tree that is spelled there
abbrev pub IsFound : List ℕ → ℕ → PlainElement → Type 0
IsFound octets used element = (tree : Tree) × IsSpelledBy tree (take used octets) × (depth tree ≤ 8) × Stands element tree

-- an element of the front, with what reading gives there
abbrev pub IsRead : List ℕ → ℕ → PlainElement → Type 0
IsRead octets used element = (used ≤ length octets) × ((tree : Tree) × (tree_at Short 8 octets ≡ Ok (tree, drop used octets)) × Shows 7 element tree)

of_sequence : (octets content : List ℕ) (used n : ℕ) → IsFound octets used (Sequence content) → IsRead octets used (Sequence content)
    → n ≡ length octets - used → (parts : Trees) × (sequence_at octets ≡ Some (parts, take n (drop used octets))) × AreSpelledBy parts content
of_sequence octets content used n found exact e =
    let parts = found.3.0 in
    let spelled = found.3.2 in
    let read = parts_again parts 7 content spelled (depth_of found.0 parts 8 found.3.1 found.2) in
    let other = exact.1.2.0 in
    let same = ok_is other parts (sym exact.1.2.1 ∙ read) in
    let tree = exact.1.2.2 ∙ ap SequenceOf same in
    let at_front : tree_at Short 8 octets ≡ Ok (SequenceOf parts, drop used octets) = subst (λ (t : Tree). tree_at Short 8 octets ≡ Ok (t, drop used octets)) tree exact.1.1 in
    let all : take n (drop used octets) ≡ drop used octets = take_all n (drop used octets) (omega (arith, length-drop used octets)) in
    (parts, sequence_read octets (drop used octets) parts at_front ∙ ap (λ (rest : List ℕ). Some (parts, rest)) (sym all), spelled)

-- what is lent of a sequence that was read are its parts
pub sequence_found : (octets content : List ℕ) (element : PlainElement) (used n : ℕ) → element ≡ Sequence content → IsFound octets used element → IsRead octets used element
    → n ≡ length octets - used → (parts : Trees) × (sequence_at octets ≡ Some (parts, take n (drop used octets))) × AreSpelledBy parts content
sequence_found octets content element used n is found exact e = of_sequence octets content used n (subst (IsFound octets used) is found) (subst (IsRead octets used) is exact) e
