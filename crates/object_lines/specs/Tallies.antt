-- What is held of the PUTs of an object that is not whole: not the PUTs, but what is told of an object and of the rules
-- that it keeps (IrOBEX 1.5, 3.4.3; the bounds are this project's own).
use Rattle.std.specs.Prelude.{ℕ, ◌+◌, ◌||◌, ◌&&◌, not, min, nat_lt, Bool, true, false, List, [], ◌∷◌, ◌++◌, length, fold, codes, decimal, Option, Some, None, if◌then◌else◌}
use Rattle.std.specs.List.{flat_map}
use Rattle.bt_base.specs.Objects.{Object}
use Rattle.obex_headers.specs.Packets.{PlainHeader, PlainPacket, units_of}
use Rattle.obex_headers.specs.Runs.{name_text, body_of, is_long, is_final}
use Rattle.object_lines.specs.Lines.{units_text}
use Rattle.object_lines.specs.declared.tally.Told.{Told as LentTold}
use Rattle.object_lines.specs.declared.tally.Tally.{Tally as LentTally}

-- what is told of an object: its name as units, and how many octets it has
pub record Told : Type 0 where
  pub name : List ℕ
  pub size : ℕ

abbrev pub told : Object → Told
told object = record { name = object.name; size = length object.octets }

-- The names so far, one behind the other; whether there is one, a second one, and one that is too long; whether a body
-- came ahead of a name, and whether one came; and the octets of all bodies, which are counted as far as bounds need.
pub record Tally : Type 0 where
  pub name : List ℕ
  pub named : Bool
  pub again : Bool
  pub long : Bool
  pub ahead : Bool
  pub bodied : Bool
  pub size : ℕ

abbrev pub no_tally : Tally
no_tally = record { name = []; named = false; again = false; long = false; ahead = false; bodied = false; size = 0 }

-- one more than an object may have
abbrev pub most_counted : ℕ
most_counted = 16777216

-- ---- a header more

abbrev pub with_name : Tally → Option (List ℕ) → Tally
with_name tally None = tally
with_name tally (Some text) =
    record tally { name = tally.name ++ units_of text; named = true; again = tally.again || tally.named; long = tally.long || is_long (units_of text) }

abbrev pub with_body : Tally → Option (List ℕ) → Tally
with_body tally None = tally
with_body tally (Some octets) =
    record tally { ahead = tally.ahead || not tally.named; bodied = true; size = min (tally.size + length octets) most_counted }

abbrev pub tally_header : Tally → PlainHeader → Tally
tally_header tally header = with_body (with_name tally (name_text header)) (body_of header)

abbrev pub tally_of : List PlainHeader → Tally
tally_of headers = fold tally_header no_tally headers

-- ---- a packet more

abbrev pub with_put : Tally → PlainPacket → Tally
with_put tally put = fold tally_header tally put.headers

-- a rule is broken; there is no Name or no body
abbrev pub is_broken : Tally → Bool
is_broken tally = tally.again || tally.long || tally.ahead || nat_lt 16777215 tally.size

abbrev pub is_lacking : Tally → Bool
is_lacking tally = not tally.named || not tally.bodied

abbrev pub is_refused : Bool → Tally → Bool
is_refused final tally = is_broken tally || (final && is_lacking tally)

abbrev pub told_of : Tally → Told
told_of tally = record { name = tally.name; size = tally.size }

-- what ends a run leaves nothing of it
abbrev pub left_of : Bool → Tally → Tally
left_of final tally = if is_refused final tally then no_tally else (if final then no_tally else tally)

abbrev pub tally_after : Tally → Option PlainPacket → Tally
tally_after tally None = no_tally
tally_after tally (Some put) = left_of (is_final put) (with_put tally put)

-- what is told with that packet
abbrev pub told_as : Bool → Tally → List Told
told_as final tally = if is_refused final tally then [] else (if final then told_of tally ∷ [] else [])

abbrev pub told_by : Tally → Option PlainPacket → List Told
told_by tally None = []
told_by tally (Some put) = told_as (is_final put) (with_put tally put)

abbrev pub told_from : Tally → List (Option PlainPacket) → List Told
told_from tally [] = []
told_from tally (put ∷ puts) = told_by tally put ++ told_from (tally_after tally put) puts

-- ---- the lines

-- the line of an object, by what is told of it
abbrev pub told_line : Told → List ℕ
told_line one = codes "object " ++ units_text one.name ++ codes " " ++ decimal one.size ++ codes "\n"

abbrev pub told_lines : List Told → List ℕ
told_lines list = flat_map told_line list

-- ---- what a reader holds

abbrev pub plain_told : LentTold → Told
plain_told one = record { name = one.name.items; size = one.size }

abbrev pub plain_tally : LentTally → Tally
plain_tally tally =
    record {
      name = tally.name.items;
      named = tally.named;
      again = tally.again;
      long = tally.long;
      ahead = tally.ahead;
      bodied = tally.bodied;
      size = tally.size;
    }
