-- Options as a list of them, and its octets.
use Rattle.std.specs.Prelude.{ℕ, ◌+◌, List, [], ◌∷◌, ◌++◌, length, take, drop, Option, Some, None}
use Rattle.bt_base.specs.Octets.{le16}
use Rattle.l2cap_config.specs.declared.options.ModeOption.{ModeOption}
use Rattle.l2cap_config.specs.declared.options.Options.{Options}
use Rattle.l2cap_config.specs.Items.{Item, spelled}

abbrev pub mtu_items : Option ℕ → List Item
mtu_items None = []
mtu_items (Some mtu) = record { octet = 0x01; value = le16 mtu } ∷ []

abbrev pub mode_value : ModeOption → List ℕ
mode_value mode = mode.mode ∷ mode.window ∷ mode.tries ∷ le16 mode.retransmit ++ (le16 mode.monitor ++ le16 mode.mps)

abbrev pub mode_items : Option ModeOption → List Item
mode_items None = []
mode_items (Some mode) = record { octet = 0x04; value = mode_value mode } ∷ []

abbrev pub fcs_items : Option ℕ → List Item
fcs_items None = []
fcs_items (Some fcs) = record { octet = 0x05; value = fcs ∷ [] } ∷ []

-- the list that states these options, by type; unknown types have no value to write
abbrev pub items_for : Options → List Item
items_for options = mtu_items options.mtu ++ (mode_items options.mode ++ fcs_items options.fcs)

abbrev pub written : Options → List ℕ
written options = spelled (items_for options)

-- what octets are after a piece was written over them from a place on
abbrev pub overwritten : ℕ → List ℕ → List ℕ → List ℕ
overwritten place piece octets = take place octets ++ (piece ++ drop (place + length piece) octets)
