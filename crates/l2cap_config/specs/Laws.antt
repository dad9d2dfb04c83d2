-- What holds of all options.
use Rattle.std.specs.Prelude.{ℕ, ◌≡◌, ◌^◌, ◌<◌, ◌==◌, not, List, [], ◌∷◌, filter, map, IfSome, Ok}
use Rattle.l2cap_config.specs.declared.options.ModeOption.{ModeOption}
use Rattle.l2cap_config.specs.declared.options.Options.{Options}
use Rattle.l2cap_config.specs.Types.{is_unknown}
use Rattle.l2cap_config.specs.Items.{Item, options_in}
use Rattle.l2cap_config.specs.Reading.{options_read}
use Rattle.l2cap_config.specs.Writing.{written}

pub record FitsMode (option : ModeOption) : Type 0 where
  pub mode : option.mode < 256
  pub window : option.window < 256
  pub tries : option.tries < 256
  pub retransmit : option.retransmit < 2 ^ 16
  pub monitor : option.monitor < 2 ^ 16
  pub mps : option.mps < 2 ^ 16

-- numbers of the widths that an option has for them, and no unknown options
pub record Fits (options : Options) : Type 0 where
  pub mtu : IfSome options.mtu (λ mtu. mtu < 2 ^ 16)
  pub mode : IfSome options.mode FitsMode
  pub fcs : IfSome options.fcs (λ fcs. fcs < 256)
  pub unknown : options.unknown ≡ []

-- options that were written are read again
abbrev pub WrittenIsRead : Type 0
WrittenIsRead = (options : Options) → Fits options → options_read (written options) ≡ Ok options

-- each number once, in the order of their first appearance
abbrev pub once : List ℕ → List ℕ
once [] = []
once (x ∷ xs) = x ∷ filter (λ y. not (y == x)) (once xs)

-- of unknown options each type is listed once, in the order of their first appearance
abbrev pub TypesAreListedOnce : Type 0
TypesAreListedOnce = (items : List Item) → (options_in items).unknown ≡ once (filter is_unknown (map (λ item. item.octet) items))
