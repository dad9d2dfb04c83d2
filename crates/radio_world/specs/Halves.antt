-- One host and the radio: what happens between them while the other host stays as it is (this project's own).
use Rattle.std.specs.Prelude.{ℕ, ◌≡◌, ◌+◌, ◌⊎◌, List, [], ◌∷◌, ◌++◌, length, map, Option}
use Rattle.std.specs.List.{AllByRecursion}
use Rattle.bt_base.specs.Streams.{gained}
use Rattle.room_laws.specs.acl_fragments.specs.Pieces.{Piece}
use Rattle.push_terms.specs.declared.word.Side.{Side}
use Rattle.capture.specs.declared.flow.Flow.TheVariants.{Into}
use Rattle.capture.specs.Entries.{Moved, IsEntry, entry_octets, capture_octets}
use Rattle.radio_model.specs.Controllers.{Answer, other_side}
use Rattle.radio_model.specs.Radio.{Radio, controller, after_offer, after_answer}
use Rattle.room_laws.specs.world_model.specs.Machines.{Upper}
use Rattle.room_laws.specs.world_model.specs.Stations.{Order, Station, Effort, MakesEffort}
use Rattle.room_laws.specs.world_model.specs.Worlds.{Happening, Tries, Departure, GivingBack, Piecemeal, Answering, all_entries}
use Rattle.radio_world.specs.Leaving.{Medium, in_radio, after_leaving}
use Rattle.radio_world.specs.Hosts.{Asking, answering, Coming, Part, Told, coming_packet, hears_coming, MayBeHeard}

-- what lies between the hosts, and one of them
pub record Half (S : Type 0) : Type 0 where
  pub medium : Medium
  pub station : Station S

pub data Motion : Type 0 where
  -- the host goes on by itself
  Trying : (effort : Effort) → Motion
  -- what it put out moves, and its buffers are given back
  Leaving : (order : Order) → Motion
  Returning : Motion
  -- what its controller has for it comes
  Entering : (coming : Coming) → Motion

-- what happens in the world
abbrev pub happening_of : Side → Motion → Happening
happening_of side (Trying effort) = Tries side effort
happening_of side (Leaving order) = Departure side order
happening_of side Returning = GivingBack side
happening_of side (Entering (Part handle piece)) = Piecemeal side handle piece
happening_of side (Entering (Told answer)) = Answering side answer

abbrev pub happenings_of : Side → List Motion → List Happening
happenings_of side motions = map (happening_of side) motions

-- it is what comes first: pieces before all else
abbrev pub ComesFirst : Side → Coming → Radio → Type 0
ComesFirst side (Part handle piece) radio = (rest : List Piece) × ((controller side radio).coming ≡ piece ∷ rest) × (handle ≡ radio.number)
ComesFirst side (Told answer) radio = (rest : List Answer) × ((controller side radio).coming ≡ []) × ((controller side radio).owed ≡ answer ∷ rest)

abbrev pub Makes : {S G : Type 0} → Upper S G → Side → Motion → Half S → Half S → Type 0
Makes {S} U side (Trying effort) old new = (station : Station S) × MakesEffort U side effort old.station station × (new ≡ record old { station = station })
Makes U side (Leaving order) old new =
    (rest : List Order) × (old.station.out ≡ order ∷ rest) × (new ≡ record { medium = after_leaving side order old.medium; station = record old.station { out = rest } })
Makes U side Returning old new = new ≡ record old { medium = in_radio (after_offer side old.medium.radio) old.medium }
Makes {G} U side (Entering coming) old new =
    ComesFirst side coming old.medium.radio × (g : List G)
    × (new ≡ record { medium = in_radio (after_answer side old.medium.radio) old.medium; station = hears_coming U side coming g old.station })

-- one after the other
abbrev pub MakesAll : {S G : Type 0} → Upper S G → Side → List Motion → Half S → Half S → Type 0
MakesAll U side [] old new = new ≡ old
MakesAll {S} U side (motion ∷ motions) old new = (mid : Half S) × Makes U side motion old mid × MakesAll U side motions mid new

abbrev pub half_of : {S G : Type 0} → Medium → Asking S G → List G → Half S
half_of medium host answers = record { medium = medium; station = answering answers host }

-- whatever happens between a host and the radio, what comes to it next may be heard
abbrev pub NextMayBeHeard : {S : Type 0} → Side → Half S → Type 0
NextMayBeHeard side half = (coming : Coming) → ComesFirst side coming half.medium.radio → MayBeHeard half.station coming

abbrev pub MayAllBeHeard : {S G : Type 0} → Upper S G → Side → Medium → Asking S G → Type 0
MayAllBeHeard {S} {G} U side medium host = (rest : List G) (motions : List Motion) (half : Half S) → MakesAll U side motions (half_of medium host rest) half → NextMayBeHeard side half

-- What happened between a host and the radio, as the trace gained it; each entry has octets. Its ports gave the answers `used`; whatever they answer
-- later, the host is where these and those lead.
pub record Goes {S G P : Type 0} (U : Upper S G) (side : Side) (Answers : P → List G → P → Type 0) (medium medium' : Medium) (old new : Asking S G) (port port' : P) (trace trace' : Option (List ℕ)) : Type 0 where
  pub motions : List Motion
  pub used : List G
  pub answered : Answers port used port'
  pub makes : (rest : List G) → MakesAll U side motions (half_of medium old (used ++ rest)) (half_of medium' new rest)
  pub written : trace' ≡ gained trace (capture_octets (all_entries (happenings_of side motions)))
  pub each : AllByRecursion IsEntry (all_entries (happenings_of side motions))

-- nothing is on its way into the host
abbrev pub IsStillIn : Side → Medium → Type 0
IsStillIn side medium = ((controller side medium.radio).coming ≡ []) × ((controller side medium.radio).owed ≡ [])

-- how much is on its way into it
abbrev pub comes_count : Side → Medium → ℕ
comes_count side medium = length (controller side medium.radio).coming + length (controller side medium.radio).owed

-- nothing moved: all that the host put out was taken and given back, the host is as it was, and so is the other controller
pub record StaysPut {S G : Type 0} (side : Side) (medium medium' : Medium) (old new : Asking S G) : Type 0 where
  pub none_out : new.out ≡ []
  pub returned : (controller side medium'.radio).taken ≡ 0
  pub station_is : new ≡ old
  pub other_is : controller (other_side side) medium'.radio ≡ controller (other_side side) medium.radio

-- What came into a host stands in the trace before: where a call broke off, the host and its port are as they were, or the trace has
-- all of what came.
abbrev pub IsSaidFirst : {S G P : Type 0} → Side → Radio → (old new : Asking S G) → (port port' : P) → (trace trace' : Option (List ℕ)) → Type 0
IsSaidFirst side radio old new port port' trace trace' =
    ((new ≡ old) × (port' ≡ port))
    ⊎ ((coming : Coming) × ComesFirst side coming radio × (trace' ≡ gained trace (entry_octets (Moved side Into (coming_packet side coming)))))
