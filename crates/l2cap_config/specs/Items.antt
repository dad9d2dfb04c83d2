-- Lists of configuration options, their octets, and what they state (Core 5.1, Volume 3 Part A, section 5).
use Rattle.std.specs.Prelude.{ℕ, ◌≡◌, ◌<◌, ◌==◌, if◌then◌else◌, List, [], ◌∷◌, length, map, filter, slice_index, Option, Some, None, option_map, IfSome}
use Rattle.std.specs.List.{flat_map}
use Rattle.std.specs.Option.{option_or}
use Rattle.byteorder.specs.Endian.{little_from}
use Rattle.bt_base.specs.Octets.{IsOctets}
use Rattle.l2cap_config.specs.declared.options.ModeOption.{ModeOption}
use Rattle.l2cap_config.specs.declared.options.Options.{Options}
use Rattle.l2cap_config.specs.Types.{kind_of, size_of_kind, is_unknown, joined_types}

-- ---- a list of options and its octets

-- one option: its type octet and its value
pub record Item : Type 0 where
  pub octet : ℕ
  pub value : List ℕ

-- octets, and of a known option, hint or not, as many as its type has
pub record IsItem (item : Item) : Type 0 where
  pub octet : item.octet < 256
  pub short : length item.value < 256
  pub value : IsOctets item.value
  pub size : IfSome (size_of_kind (kind_of item.octet)) (λ size. length item.value ≡ size)

-- type, length, value
abbrev pub spelling : Item → List ℕ
spelling item = item.octet ∷ length item.value ∷ item.value

abbrev pub spelled : List Item → List ℕ
spelled items = flat_map spelling items

-- ---- what a list of options states

-- the value of the last option of a kind
abbrev pub last_of : ℕ → List Item → Option (List ℕ)
last_of kind [] = None
last_of kind (item ∷ items) = option_or (last_of kind items) (if kind_of item.octet == kind then Some item.value else None)

-- the number in the two octets from a place on
abbrev pub word_at : ℕ → List ℕ → ℕ
word_at place octets = little_from place 2 octets

abbrev pub mode_in : List ℕ → ModeOption
mode_in value = record {
  mode = slice_index value 0;
  window = slice_index value 1;
  tries = slice_index value 2;
  retransmit = word_at 3 value;
  monitor = word_at 5 value;
  mps = word_at 7 value;
}

abbrev pub options_in : List Item → Options
options_in items = record {
  mtu = option_map (word_at 0) (last_of 1 items);
  mode = option_map mode_in (last_of 4 items);
  fcs = option_map (λ value. slice_index value 0) (last_of 5 items);
  unknown = joined_types [] (filter is_unknown (map (λ item. item.octet) items));
}

abbrev pub no_options : Options
no_options = record { mtu = None; mode = None; fcs = None; unknown = [] }

-- what two lists state, one after the other
abbrev pub joined : Options → Options → Options
joined earlier later = record {
  mtu = option_or later.mtu earlier.mtu;
  mode = option_or later.mode earlier.mode;
  fcs = option_or later.fcs earlier.fcs;
  unknown = joined_types earlier.unknown later.unknown;
}
