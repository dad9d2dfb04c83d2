-- A machine that is another one seen as more than it is: beside what the other is it keeps something that never changes, as settings
-- (this project's own).
use Rattle.std.specs.Prelude.{ℕ, ◌≡◌, Bool, List, Option, option_map}
use Rattle.station_laws.specs.push_terms.specs.declared.outcome.Outcome.{Outcome}
use Rattle.station_laws.specs.world_model.specs.Machines.{News, Upper}
use Rattle.station_laws.specs.world_model.specs.Stations.{Station}
use Rattle.station_laws.specs.world_model.specs.Worlds.{World, Happening, Runs, IsAtRest}

-- what a machine says next, and what it is then, seen as more
abbrev pub said_as : {S T : Type 0} → (S → T) → Option (List ℕ × S) → Option (List ℕ × T)
said_as embed said = option_map (λ one. (one.0, embed one.1)) said

-- where machine U is s, machine V is `embed s`, and does and tells the same
pub record Embeds {S T G : Type 0} (embed : S → T) (U : Upper S G) (V : Upper T G) : Type 0 where
  pub hear : (answers : List G) (news : News) (s : S) → V.hear answers news (embed s) ≡ embed (U.hear answers news s)
  pub next : (s : S) → V.next (embed s) ≡ said_as embed (U.next s)
  pub wants_link : (s : S) → V.wants_link (embed s) ≡ U.wants_link s
  pub leaves_link : (s : S) → V.leaves_link (embed s) ≡ U.leaves_link s
  pub is_idle : (s : S) → V.is_idle (embed s) ≡ U.is_idle s
  pub outcome : (s : S) → V.outcome (embed s) ≡ U.outcome s
  pub armed : (s : S) → V.armed (embed s) ≡ U.armed s
  pub may_cancel : (s : S) → V.may_cancel (embed s) ≡ U.may_cancel s
  pub has_check : (s : S) (own : ℕ) → V.has_check (embed s) own ≡ U.has_check s own

abbrev pub station_as : {S T : Type 0} → (S → T) → Station S → Station T
station_as embed station = record {
  upper = embed station.upper;
  waiting = station.waiting;
  awaited = station.awaited;
  size = station.size;
  total = station.total;
  outstanding = station.outstanding;
  asked = station.asked;
  link = station.link;
  ending = station.ending;
  joining = station.joining;
  pieces = station.pieces;
  out = station.out;
}

abbrev pub world_as : {S S' T T' : Type 0} → (S → S') → (T → T') → World S T → World S' T'
world_as embed_a embed_b w = record { radio = w.radio; a = station_as embed_a w.a; b = station_as embed_b w.b; pushes = w.pushes; turned = w.turned }

-- What happens in a world of machines that keep more happens in the world of the machines that they are.
abbrev pub RunsAreOfLess : {S S' T T' G H : Type 0} → (S → S') → (T → T') → (U : Upper S G) (U' : Upper S' G) (V : Upper T H) (V' : Upper T' H) → Type 0
RunsAreOfLess {S} {S'} {T} {T'} embed_a embed_b U U' V V' =
    Embeds embed_a U U' → Embeds embed_b V V' → (happenings : List Happening) (old : World S T) (new : World S' T') → Runs U' V' happenings (world_as embed_a embed_b old) new
    → (mid : World S T) × (new ≡ world_as embed_a embed_b mid) × Runs U V happenings old mid

-- and where the one is at rest the other is
abbrev pub RestIsOfLess : {S S' T T' G H : Type 0} → (S → S') → (T → T') → (U : Upper S G) (U' : Upper S' G) (V : Upper T H) (V' : Upper T' H) → Type 0
RestIsOfLess {S} {S'} {T} {T'} embed_a embed_b U U' V V' =
    Embeds embed_a U U' → Embeds embed_b V V' → (w : World S T) → IsAtRest U' V' (world_as embed_a embed_b w) → IsAtRest U V w
