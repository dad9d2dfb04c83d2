-- The choices that a line states by a word (this project's own).
use Rattle.std.specs.Prelude.{ℕ, Bool, true, false, cond, List, codes, Option, Some, None}
use Rattle.std.specs.Str.{bytes_eq}
use Rattle.bt_base.specs.declared.settings.Transport.{Transport}
use Rattle.bt_base.specs.declared.settings.Transport.TheVariants as transports
use Rattle.bt_base.specs.declared.settings.Serves.{Serves}
use Rattle.bt_base.specs.declared.settings.Serves.TheVariants as services

abbrev pub transport_of : List ℕ → Option Transport
transport_of text = cond (bytes_eq text (codes "l2cap")) (Some transports.L2cap) (cond (bytes_eq text (codes "rfcomm")) (Some transports.Rfcomm) None)

abbrev pub serves_of : List ℕ → Option Serves
serves_of text = cond (bytes_eq text (codes "both")) (Some services.Both) (cond (bytes_eq text (codes "l2cap")) (Some services.L2cap) (cond (bytes_eq text (codes "rfcomm")) (Some services.Rfcomm) None))

abbrev pub switch_of : List ℕ → Option Bool
switch_of text = cond (bytes_eq text (codes "on")) (Some true) (cond (bytes_eq text (codes "off")) (Some false) None)
