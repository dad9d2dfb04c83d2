-- Where the radio has room for what comes out of a host (this project's own).
use Rattle.std.specs.Prelude.{ℕ, ◌≡◌, ◌≤◌, ◌+◌, false, List, [], ◌∷◌, length}
use Rattle.rest_laws.specs.push_terms.specs.declared.word.Side.{Side}
use Rattle.rest_laws.specs.push_terms.specs.declared.word.Side.TheVariants.{A, B}
use Rattle.rest_laws.specs.radio_model.specs.Controllers.{Answer, Returned, Stated, Called, LinkMade, LinkGone, GivenBack}
use Rattle.rest_laws.specs.radio_model.specs.Owed.{owes_many}
use Rattle.rest_laws.specs.radio_model.specs.Radio.{Radio}
use Rattle.rest_laws.specs.world_model.specs.Machines.{Upper}
use Rattle.rest_laws.specs.world_model.specs.Stations.{Order}
use Rattle.rest_laws.specs.world_model.specs.Worlds.{after_order, World, Happening, Runs, first_world}
use Rattle.rest_laws.specs.station_laws.specs.WorldLaws.{AreSizes}
use Rattle.rest_laws.specs.Premises.{AreOrderly}

-- Answers to commands come one at a time, and tidings of links are few. Packets may be given back time and again while their host
-- hears nothing of it; nobody calls host a.
abbrev pub stray_by : Answer → Side → ℕ
stray_by (GivenBack handle count) side = 1
stray_by Called A = 1
stray_by Called B = 0
stray_by (Returned number params) side = 0
stray_by (Stated number) side = 0
stray_by (LinkMade handle) side = 0
stray_by (LinkGone handle reason) side = 0

abbrev pub strays : Side → List Answer → ℕ
strays side [] = 0
strays side (answer ∷ answers) = stray_by answer side + strays side answers

-- both hosts have heard of all packets that were given back
pub record OwesNoneBack (radio : Radio) : Type 0 where
  pub a : strays A radio.a.owed ≡ 0
  pub b : strays B radio.b.owed ≡ 0

-- what the host of that side put out first
abbrev pub PutsOut : {S T : Type 0} → Side → Order → List Order → World S T → Type 0
PutsOut A order rest w = w.a.out ≡ order ∷ rest
PutsOut B order rest w = w.b.out ≡ order ∷ rest

-- ---- the laws

-- memory is reserved for sixteen answers to each host, and a packet is answered by two at most
abbrev pub FewAreOwed : {S T G H : Type 0} → Upper S G → Upper T H → Type 0
FewAreOwed {S} {T} U V =
    (size count : ℕ) (names : List (List ℕ)) (happenings : List Happening) (w : World S T) → AreOrderly U V → AreSizes size count → length names ≤ 0x0EFF
    → Runs U V happenings (first_world U V size count names) w → OwesNoneBack w.radio → owes_many 15 w.radio ≡ false

-- where an order moves, nothing is handed over to a host, and still nothing is owed back
pub record HasRoom (side : Side) (order : Order) (radio : Radio) : Type 0 where
  pub none_a : radio.a.coming ≡ []
  pub none_b : radio.b.coming ≡ []
  pub none_back : OwesNoneBack (after_order side order radio)

abbrev pub RoomIsLeft : {S T G H : Type 0} → Upper S G → Upper T H → Type 0
RoomIsLeft {S} {T} U V =
    (size count : ℕ) (names : List (List ℕ)) (happenings : List Happening) (w : World S T) (side : Side) (order : Order) (rest : List Order)
    → AreOrderly U V → AreSizes size count → length names ≤ 0x0EFF → Runs U V happenings (first_world U V size count names) w
    → OwesNoneBack w.radio → PutsOut side order rest w → HasRoom side order w.radio
