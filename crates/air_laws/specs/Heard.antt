-- What comes into one host on each link is what comes of the PDUs that went out of the other on it, as the capture has both.
use Rattle.std.specs.Prelude.{ℕ, ◌≡◌, List, [], ◌∷◌, map, if◌then◌else◌}
use Rattle.std.specs.List.{flat_map}
use Rattle.turn_laws.specs.push_terms.specs.declared.word.Side.{Side}
use Rattle.turn_laws.specs.push_terms.specs.declared.word.Side.TheVariants.{A, B}
use Rattle.turn_laws.specs.capture.specs.declared.flow.Flow.{Flow}
use Rattle.turn_laws.specs.capture.specs.declared.flow.Flow.TheVariants.{Out, Into}
use Rattle.turn_laws.specs.capture.specs.Entries.{Entry}
use Rattle.turn_laws.specs.capture.specs.Links.{links}
use Rattle.turn_laws.specs.capture.specs.Pdus.{Pdu, pdus, same_flow}
use Rattle.turn_laws.specs.radio_model.specs.Flights.{Met, heard, FindsFrames}
use Rattle.turn_laws.specs.world_model.specs.Machines.{Upper}
use Rattle.turn_laws.specs.world_model.specs.Worlds.{World, Happening, Runs, IsAtRest, all_entries, first_world}
use Rattle.turn_laws.specs.WorldLaws.{Fits}

-- the PDUs that moved one way
abbrev pub one_way : Flow → Pdu → List (List ℕ)
one_way flow pdu = if same_flow flow pdu.flow then pdu.octets ∷ [] else []

abbrev pub moved : Flow → List Pdu → List (List ℕ)
moved flow pdus = flat_map (one_way flow) pdus

-- These PDUs are heard of those that were said, by some fates, one after the other, that found their frames.
pub record Comes (size : ℕ) (said comes : List (List ℕ)) : Type 0 where
  pub fates : List Met
  pub finds : FindsFrames said fates
  pub is : comes ≡ heard size said fates

-- link by link
abbrev pub EachComes : ℕ → (said comes : List (List Pdu)) → Type 0
EachComes size [] [] = Unit {0}
EachComes size [] (link ∷ links) = ⊥
EachComes size (link ∷ links) [] = ⊥
EachComes size (one ∷ more) (other ∷ others) = Comes size (moved Out one) (moved Into other) × EachComes size more others

-- the PDUs of each link of a host
abbrev pub all_pdus : Side → List Entry → List (List Pdu)
all_pdus side entries = map pdus (links side entries)

-- the n-th link of one host is the n-th of the other, and what came into each on it is what comes of what went out of the other
abbrev pub LinksAreHeard : {S T G H : Type 0} → Upper S G → Upper T H → Type 0
LinksAreHeard {S} {T} U V =
    (size count : ℕ) (names : List (List ℕ)) (happenings : List Happening) (w : World S T) → Fits U V size → Runs U V happenings (first_world U V size count names) w → IsAtRest U V w
    → EachComes size (all_pdus A (all_entries happenings)) (all_pdus B (all_entries happenings)) × EachComes size (all_pdus B (all_entries happenings)) (all_pdus A (all_entries happenings))
