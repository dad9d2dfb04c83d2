-- The listed attributes as octets.
use Rattle.std.specs.Prelude.{ℕ, Bool, true, false, if◌then◌else◌, List, [], ◌∷◌, ◌++◌}
use Rattle.bt_base.specs.Octets.{be16}
use Rattle.bt_base.specs.declared.settings.Serves.{Serves}
use Rattle.bt_base.specs.declared.settings.Serves.TheVariants as serving
use Rattle.sdp_elements.specs.Answers.{Range, is_listed}
use Rattle.sdp_elements.specs.Laws.{tree_octets}
use Rattle.sdp_elements.specs.Records.{Attribute}

-- an attribute with this value in octets, where it is listed
abbrev pub listed_octets : List Range → ℕ → List ℕ → List ℕ
listed_octets ranges identifier value = if is_listed ranges identifier then 0x09 ∷ be16 identifier ++ value else []

abbrev pub listed_pair : List Range → Attribute → List ℕ
listed_pair ranges attribute = listed_octets ranges attribute.identifier (tree_octets attribute.value)

abbrev pub serves_rfcomm : Serves → Bool
serves_rfcomm serving.Both = true
serves_rfcomm serving.Rfcomm = true
serves_rfcomm serving.L2cap = false
