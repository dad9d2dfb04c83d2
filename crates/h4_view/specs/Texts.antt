-- Numbers and octets as text (this project's own).
use Rattle.std.specs.Prelude.{ℕ, List, [], ◌∷◌, codes}
use Rattle.hex.specs.Hex.{encode_upper}
use Rattle.bt_base.specs.Octets.{be16}

-- octets as upper case hexadecimal digits, or a dash for none
abbrev pub octets_text : List ℕ → List ℕ
octets_text [] = codes "-"
octets_text (first ∷ more) = encode_upper (first ∷ more)

-- four upper case hexadecimal digits
abbrev pub word_text : ℕ → List ℕ
word_text word = encode_upper (be16 word)
