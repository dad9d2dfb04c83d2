-- The sequence at the front of octets, and the list of what its parts are.
use Rattle.std.specs.Prelude.{ℕ, List, [], ◌∷◌, Option, Some, None}
use Rattle.std.specs.Result.{result_ok}
use Rattle.sdp_elements.specs.declared.fault.SdpRefusal.TheVariants.{Short}
use Rattle.sdp_elements.specs.Elements.{Tree, Leaf, SequenceOf, AlternativeOf, Trees, Finish, Then}
use Rattle.sdp_elements.specs.Optional.{◌>>=◌}
use Rattle.sdp_elements.specs.Reading.{tree_at}

-- the parts of a sequence
abbrev pub sequence_parts : Tree → Option Trees
sequence_parts (Leaf value) = None
sequence_parts (SequenceOf parts) = Some parts
sequence_parts (AlternativeOf parts) = None

-- the parts of the sequence at the front, within eight levels, and the octets behind it
abbrev pub sequence_at : List ℕ → Option (Trees × List ℕ)
sequence_at octets = do
  found ← result_ok (tree_at Short 8 octets)
  parts ← sequence_parts found.0
  Some (parts, found.1)

-- what each part is, where each of them is something
abbrev pub collected : {A : Type 0} → (Tree → Option A) → Trees → Option (List A)
collected what Finish = Some []
collected what (Then first others) = do
  found ← what first
  more ← collected what others
  Some (found ∷ more)
