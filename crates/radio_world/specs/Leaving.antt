-- What moves out of a host, and what is noted of it (this project's own).
use Rattle.std.specs.Prelude.{ℕ, ◌≡◌, ◌-◌, ◌^◌, List, [], ◌∷◌, ◌++◌, map, max, min, Option}
use Rattle.std.specs.List.{AllByRecursion}
use Rattle.bt_base.specs.Streams.{gained, GainedFront}
use Rattle.push_terms.specs.declared.word.Side.{Side}
use Rattle.push_terms.specs.declared.word.Side.TheVariants.{A, B}
use Rattle.capture.specs.declared.flow.Flow.TheVariants.{Out}
use Rattle.capture.specs.Entries.{Entry, Moved, IsEntry, entry_octets, capture_octets}
use Rattle.radio_model.specs.Owed.{outstanding_at}
use Rattle.radio_model.specs.Radio.{Radio, new_radio, controller}
use Rattle.room_laws.specs.world_model.specs.Stations.{Order, order_packet}
use Rattle.room_laws.specs.world_model.specs.Worlds.{after_order}

-- the radio, and how many packets of each host were outstanding at most
pub record Medium : Type 0 where
  pub radio : Radio
  pub peak_a : ℕ
  pub peak_b : ℕ

abbrev pub first_medium : (size count : ℕ) → Medium
first_medium size count = record { radio = new_radio size count; peak_a = 0; peak_b = 0 }

abbrev pub in_radio : Radio → Medium → Medium
in_radio radio medium = record medium { radio = radio }

-- a count stands still at its end
abbrev pub outstanding_now : Side → Medium → ℕ
outstanding_now side medium = min (outstanding_at (controller side medium.radio)) (2 ^ 64 - 1)

abbrev pub noted : Side → Medium → Medium
noted A medium = record medium { peak_a = max medium.peak_a (outstanding_now A medium) }
noted B medium = record medium { peak_b = max medium.peak_b (outstanding_now B medium) }

-- an order moves to the controller
abbrev pub after_leaving : Side → Order → Medium → Medium
after_leaving side order medium = noted side (in_radio (after_order side order medium.radio) medium)

abbrev pub after_all : Side → List Order → Medium → Medium
after_all side [] medium = medium
after_all side (order ∷ orders) medium = after_all side orders (after_leaving side order medium)

-- the entries of orders
abbrev pub leaving_entry : Side → Order → Entry
leaving_entry side order = Moved side Out (order_packet side order)

abbrev pub leaving_entries : Side → List Order → List Entry
leaving_entries side orders = map (leaving_entry side) orders

-- The trace gained a front of some entries: the first of them whole, and of the one behind them a front of its octets.
pub record BreaksOff (entries : List Entry) (trace trace' : Option (List ℕ)) : Type 0 where
  pub whole : List Entry
  pub due : Entry
  pub left : List Entry
  pub entries_are : entries ≡ whole ++ due ∷ left
  pub front : GainedFront (gained trace (capture_octets whole)) trace' (entry_octets due)
  pub each : AllByRecursion IsEntry (whole ++ due ∷ [])
