-- A list of options read from its octets.
use Rattle.std.specs.Prelude.{ℕ, zero, suc, Bool, ◌==◌, unwrap_or, nat_lt, if◌then◌else◌, List, [], ◌∷◌, length, take, drop, Option, Some, None, option_map, Result, Ok, Err}
use Rattle.std.specs.Option.{option_and_then}
use Rattle.l2cap_config.specs.declared.options.Options.{Options}
use Rattle.l2cap_config.specs.declared.options.ConfigRefusal.{ConfigRefusal}
use Rattle.l2cap_config.specs.declared.options.ConfigRefusal.TheVariants.{BadOptionLength}
use Rattle.l2cap_config.specs.declared.item.Item.{Item as Lent}
use Rattle.l2cap_config.specs.Types.{kind_of, size_of_kind}
use Rattle.l2cap_config.specs.Items.{Item, options_in}

-- an option, apart from where its value lies in memory
abbrev pub view : Lent → Item
view item = record { octet = item.octet; value = item.value.now }

-- a known option has the length of its kind
abbrev pub fits : ℕ → ℕ → Bool
fits octet size = size == unwrap_or (size_of_kind (kind_of octet)) size

-- the option at the front, and the octets behind it
abbrev pub item_at : List ℕ → Option (Item × List ℕ)
item_at [] = None
item_at (octet ∷ []) = None
item_at (octet ∷ size ∷ rest) =
    if nat_lt (length rest) size then None else
    if fits octet size then Some (record { octet = octet; value = take size rest }, drop size rest) else
    None

-- all options, in so many steps at most
unfoldable pub items_within : ℕ → List ℕ → Option (List Item)
items_within steps [] = Some []
items_within zero (o ∷ octets) = None
items_within (suc steps) (o ∷ octets) = option_and_then (λ found. option_map (λ items. found.0 ∷ items) (items_within steps found.1)) (item_at (o ∷ octets))

-- no step takes less than two octets
unfoldable pub items_of : List ℕ → Option (List Item)
items_of octets = items_within (length octets) octets

abbrev pub stated : Option (List Item) → Result Options ConfigRefusal
stated None = Err BadOptionLength
stated (Some items) = Ok (options_in items)

abbrev pub options_read : List ℕ → Result Options ConfigRefusal
options_read octets = stated (items_of octets)
