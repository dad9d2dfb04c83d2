-- How many answers a controller owes its host: one to a command, the tidings of a link, a call, and what is stray.
use Rattle.std.proofs.Common.{◌≡◌, ℕ, ◌+◌, ◌*◌, ◌≤◌, ◌||◌, nat_le, Bool, true, false, List, [], ◌∷◌, length, Option, Some, None, if◌then◌else◌, refl, ap, arith, length-append}
use Rattle.std.proofs.lemmas.Bool.{lt-leb}
use Rattle.rest_laws.specs.push_terms.specs.declared.word.Side.TheVariants.{A, B}
use Rattle.rest_laws.specs.radio_model.specs.Controllers.{Answer, Returned, Stated, Called, LinkMade, LinkGone, GivenBack, Controller}
use Rattle.rest_laws.specs.radio_model.specs.Radio.{Phase, Apart, Paging, Requested, Together}
use Rattle.rest_laws.specs.world_model.specs.Machines.{Upper}
use Rattle.rest_laws.specs.world_model.specs.Stations.{Station}
use Rattle.rest_laws.specs.turn_laws.proofs.Leading.{Tiding, Came, Went, tidings, made, Led}
use Rattle.rest_laws.specs.turn_laws.proofs.Stationing.{Steady}
use Rattle.rest_laws.specs.station_laws.proofs.Owing.{numbers_of, numbers_in}
use Rattle.rest_laws.specs.station_laws.proofs.Pending.{Pending, number_awaited}
use Rattle.rest_laws.proofs.Calling.{called, requesting}
use Rattle.room_laws.specs.Rooms.{strays}

-- ---- by their kinds

all_kinds_a : (owed : List Answer) → length owed ≡ length (numbers_in owed) + (length (tidings owed) + strays A owed)
all_kinds_a [] = refl
all_kinds_a (Returned number params ∷ rest) = let more = all_kinds_a rest in omega arith
all_kinds_a (Stated number ∷ rest) = let more = all_kinds_a rest in omega arith
all_kinds_a (Called ∷ rest) = let more = all_kinds_a rest in omega arith
all_kinds_a (LinkMade handle ∷ rest) = let more = all_kinds_a rest in omega arith
all_kinds_a (LinkGone handle reason ∷ rest) = let more = all_kinds_a rest in omega arith
all_kinds_a (GivenBack handle n ∷ rest) = let more = all_kinds_a rest in omega arith

all_kinds_b : (owed : List Answer) → length owed ≡ length (numbers_in owed) + (length (tidings owed) + (called owed + strays B owed))
all_kinds_b [] = refl
all_kinds_b (Returned number params ∷ rest) = let more = all_kinds_b rest in omega arith
all_kinds_b (Stated number ∷ rest) = let more = all_kinds_b rest in omega arith
all_kinds_b (Called ∷ rest) = let more = all_kinds_b rest in omega arith
all_kinds_b (LinkMade handle ∷ rest) = let more = all_kinds_b rest in omega arith
all_kinds_b (LinkGone handle reason ∷ rest) = let more = all_kinds_b rest in omega arith
all_kinds_b (GivenBack handle n ∷ rest) = let more = all_kinds_b rest in omega arith

-- ---- how many of each

one_number : (awaited : Option ℕ) → length (number_awaited awaited) ≤ 1
one_number None = omega arith
one_number (Some number) = omega arith

few_numbers : {S : Type 0} (owed : List Answer) (station : Station S) → Pending owed station → length (numbers_in owed) ≤ 1
few_numbers owed station pending =
    let all = ap (λ (l : List ℕ). length l) pending.pends in
    let both = length-append (numbers_of station.out) (numbers_in owed) in
    let one = one_number station.awaited in
    omega arith

one_up : (up : Bool) → up ≡ true → ◌≡◌ {A = ℕ} (if up then 1 else 0) 1
one_up true on = refl
one_up false on = absurd cc

-- links come and go by turns
few_tidings : (told : ℕ) (up : Bool) (rest : List Tiding) (number : ℕ) (together : Bool) → Led told up rest number together → length rest ≤ 2 * made rest + (if up then 1 else 0)
few_tidings told up [] number together led = omega arith
few_tidings told up (Came handle ∷ rest) number together led = let more = few_tidings handle true rest number together led.2 in omega arith
few_tidings told up (Went handle reason ∷ rest) number together led =
    let more = few_tidings told false rest number together led.2 in
    let on = one_up up led.0 in
    omega arith

at_most_one : (b : Bool) → (let n : ℕ = if b then 1 else 0 in n) ≤ 1
at_most_one true = omega arith
at_most_one false = omega arith

three_tidings : {S G : Type 0} (U : Upper S G) (number : ℕ) (together : Bool) (extra : ℕ) (one : Controller) (station : Station S) → Steady U number together extra one station → length (tidings one.owed) ≤ 3
three_tidings U number together extra one station steady =
    let few = few_tidings one.told one.up (tidings one.owed) number together steady.led in
    let once = steady.awaits.few in
    let up = at_most_one one.up in
    omega arith

one_request : (phase : Phase) → requesting phase ≤ 1
one_request Apart = omega arith
one_request Paging = omega arith
one_request Requested = omega arith
one_request Together = omega arith

-- ---- all of them

pub few_a : {S G : Type 0} (U : Upper S G) (number : ℕ) (together : Bool) (extra : ℕ) (one : Controller) (station : Station S) → Steady U number together extra one station → Pending one.owed station → strays A one.owed ≡ 0 → length one.owed ≤ 5
few_a U number together extra one station steady pending none =
    let all = all_kinds_a one.owed in
    let numbers = few_numbers one.owed station pending in
    let links = three_tidings U number together extra one station steady in
    omega arith

pub few_b : {S G : Type 0} (U : Upper S G) (number : ℕ) (together : Bool) (extra : ℕ) (phase : Phase) (more : ℕ) (one : Controller) (station : Station S) → Steady U number together extra one station → Pending one.owed station
    → called one.owed + more ≡ requesting phase → strays B one.owed ≡ 0 → length one.owed ≤ 5
few_b U number together extra phase more one station steady pending calls none =
    let all = all_kinds_b one.owed in
    let numbers = few_numbers one.owed station pending in
    let links = three_tidings U number together extra one station steady in
    let requests = one_request phase in
    omega arith

neither : (a b : Bool) → a ≡ false → b ≡ false → (a || b) ≡ false
neither true b one two = absurd cc
neither false b one two = two

pub not_many : (n m : ℕ) → n ≤ 5 → m ≤ 5 → (nat_le 15 n || nat_le 15 m) ≡ false
not_many n m one two = neither (nat_le 15 n) (nat_le 15 m) (lt-leb 15 n (omega arith)) (lt-leb 15 m (omega arith))
