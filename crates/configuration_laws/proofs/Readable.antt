-- Options that a host writes can be read.
use Rattle.std.proofs.Common.{◌≡◌, ℕ, List, [], ◌++◌, Option, Some, None, Ok, refl, ap}
use Rattle.channel_laws.specs.l2cap_config.specs.declared.options.ModeOption.{ModeOption}
use Rattle.channel_laws.specs.l2cap_config.specs.declared.options.Options.{Options}
use Rattle.channel_laws.specs.l2cap_config.specs.Items.{Item, options_in, spelled}
use Rattle.channel_laws.specs.l2cap_config.specs.Reading.{items_of, items_within, stated, options_read}
use Rattle.channel_laws.specs.l2cap_config.specs.Writing.{mtu_items, mode_items, fcs_items, items_for, written}
use Rattle.channel_laws.specs.l2cap_config.proofs.ItemLists.{items_nothing}

-- options that can be read, and have none that is unknown
pub record IsRead (octets : List ℕ) : Type 0 where
  pub options : Options
  pub read_is : options_read octets ≡ Ok options
  pub known : options.unknown ≡ []

of_items : (items : List Item) → items_of (spelled items) ≡ Some items → (options_in items).unknown ≡ [] → IsRead (spelled items)
of_items items is none = record { options = options_in items; read_is = ap stated is; known = none }

written_items : (mtu : Option ℕ) (mode : Option ModeOption) (fcs : Option ℕ) → (let items : List Item = mtu_items mtu ++ (mode_items mode ++ fcs_items fcs) in items_of (spelled items) ≡ Some items)
unfolding items_of items_within
written_items None None None = refl
written_items None None (Some fcs) = refl
written_items None (Some mode) None = refl
written_items None (Some mode) (Some fcs) = refl
written_items (Some mtu) None None = refl
written_items (Some mtu) None (Some fcs) = refl
written_items (Some mtu) (Some mode) None = refl
written_items (Some mtu) (Some mode) (Some fcs) = refl

written_known : (mtu : Option ℕ) (mode : Option ModeOption) (fcs : Option ℕ) → (options_in (mtu_items mtu ++ (mode_items mode ++ fcs_items fcs))).unknown ≡ []
written_known None None None = refl
written_known None None (Some fcs) = refl
written_known None (Some mode) None = refl
written_known None (Some mode) (Some fcs) = refl
written_known (Some mtu) None None = refl
written_known (Some mtu) None (Some fcs) = refl
written_known (Some mtu) (Some mode) None = refl
written_known (Some mtu) (Some mode) (Some fcs) = refl

pub nothing-read : IsRead []
nothing-read = of_items [] items_nothing refl

pub written-read : (options : Options) → IsRead (written options)
written-read options = of_items (items_for options) (written_items options.mtu options.mode options.fcs) (written_known options.mtu options.mode options.fcs)
