-- The tables in which what is known of a link is kept (this project's own).
use Rattle.std.specs.Prelude.{ℕ, ◌≡◌, List, [], ◌∷◌, ◌++◌, length, cond, ◌==◌, Option, None, Some, nat_eq}
use Rattle.std.specs.HashMap.{get}
use Rattle.seen_channels.specs.declared.direction.Direction.{Direction}
use Rattle.seen_channels.specs.declared.direction.Direction.TheVariants.{Out, In}
use Rattle.seen_channels.specs.declared.channel.Request.{Request}
use Rattle.seen_channels.specs.declared.channel.Channel.{Channel}
use Rattle.seen_channels.specs.declared.side.Side.{Side}
use Rattle.seen_channels.specs.declared.channels.Channels.{Channels}
use Rattle.seen_channels.specs.Tellings.{Learnt, asked, request_of, number}

-- the channels in the order in which they were made
abbrev pub oldest_first : List Channel → List Channel
oldest_first [] = []
oldest_first (channel ∷ earlier) = oldest_first earlier ++ channel ∷ []

-- the place in that order of the latest channel of that number
abbrev pub place_of : Direction → ℕ → List Channel → Option ℕ
place_of direction cid [] = None
place_of direction cid (channel ∷ earlier) = cond (number direction channel == cid) (Some (length earlier)) (place_of direction cid earlier)

-- the table of requests has the latest of each identifier
abbrev pub HasRequests : List (ℕ × Request) → Side → Type 0
HasRequests requests side = (identifier : ℕ) → get nat_eq side.requests identifier ≡ request_of identifier requests

-- the table of places has that of the latest channel of each number
abbrev pub HasPlaces : Direction → List Channel → Side → Type 0
HasPlaces direction channels side = (cid : ℕ) → get nat_eq side.places cid ≡ place_of direction cid channels

pub record IsEmpty (side : Side) : Type 0 where
  pub requests : HasRequests [] side
  pub places : (direction : Direction) → HasPlaces direction [] side

pub record IsSide (direction : Direction) (learnt : Learnt) (side : Side) : Type 0 where
  pub requests : HasRequests (asked direction learnt) side
  pub places : HasPlaces direction learnt.channels side

-- the tables keep what is known of the link
pub record Keeps (learnt : Learnt) (table : Channels) : Type 0 where
  pub list : table.list.items ≡ oldest_first learnt.channels
  pub outward : IsSide Out learnt table.outward
  pub inward : IsSide In learnt table.inward
