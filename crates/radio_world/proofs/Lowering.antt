-- A round in which something happened lowers what is left to happen without a word.
use Rattle.std.proofs.Common.{◌≡◌, ℕ, ◌+◌, ◌<◌, ◌≤◌, List, [], ◌++◌, length, arith}
use Rattle.push_terms.specs.declared.word.Side.TheVariants.{A, B}
use Rattle.radio_model.specs.Controllers.{Controller}
use Rattle.room_laws.specs.world_model.specs.Machines.{Upper}
use Rattle.room_laws.specs.world_model.specs.Worlds.{all_entries}
use Rattle.room_laws.specs.rest_laws.specs.Premises.{AreOrderly}
use Rattle.settling_laws.specs.Weights.{SaysAtMost, side_weight, weight}
use Rattle.settling_laws.proofs.Bounding.{settling_is_bounded}
use Rattle.radio_world.specs.Hosts.{Asking, answering}
use Rattle.radio_world.specs.Counting.{AdvancesBy}
use Rattle.radio_world.specs.Scenes.{world_at, Stage, moment_of}
use Rattle.radio_world.specs.Standing.{starting, first_moment, IsReached}
use Rattle.radio_world.proofs.Starting.{orderly_from, runs_from}
use Rattle.radio_world.proofs.Standing.{runs_of, sizes_of}

-- what its port answers later weighs nothing
weighs_a : {S G : Type 0} (U : Upper S G) (most : ℕ) (one : Controller) (host : Asking S G) (rest : List G) → U.left (host.upper rest) ≡ U.left (host.upper []) → side_weight U A most one (answering rest host) ≡ side_weight U A most one (answering [] host)
weighs_a U most one host rest same = omega (arith, same)

weighs_b : {S G : Type 0} (U : Upper S G) (most : ℕ) (one : Controller) (host : Asking S G) (rest : List G) → U.left (host.upper rest) ≡ U.left (host.upper []) → side_weight U B most one (answering rest host) ≡ side_weight U B most one (answering [] host)
weighs_b U most one host rest same = omega (arith, same)

sums : (p l a a' b b' : ℕ) → a' ≡ a → b' ≡ b → p + (l + (a' + b')) ≡ p + (l + (a + b))
sums p l a a' b b' one two = omega arith

weighs : {S T G H P Q : Type 0} (U : Upper S G) (V : Upper T H) (most : ℕ) (at : Stage S T G H P Q) (rest_a : List G) (rest_b : List H) → U.left (at.a.upper rest_a) ≡ U.left (at.a.upper []) → V.left (at.b.upper rest_b) ≡ V.left (at.b.upper [])
    → weight U V most (world_at (moment_of at rest_a rest_b)) ≡ weight U V most (world_at (moment_of at [] []))
weighs U V most at rest_a rest_b one two =
    sums _ _ _ _ _ _ (weighs_a U most at.scene.medium.radio.a at.a rest_a one) (weighs_b V most at.scene.medium.radio.b at.b rest_b two)

fewer : {S G : Type 0} (U : Upper S G) (most more : ℕ) → most ≤ more → SaysAtMost most U → SaysAtMost more U
fewer U most more low few answers news s = let at = few answers news s in omega (arith, at, low)

lowered : (n m new old was : ℕ) → m + new ≤ old → old ≡ was → 1 ≤ n → n ≤ m → new < was
lowered n m new old was less same some many = omega arith

pub settling_lowers :
    {S T G H P Q : Type 0} (U : Upper S G) (V : Upper T H) (RA : P → List G → P → Type 0) (RB : Q → List H → Q → Type 0) (most_a most_b n : ℕ) (old new : Stage S T G H P Q) → AreOrderly U V → SaysAtMost most_a U → SaysAtMost most_b V
    → ((rest : List G) → U.left (old.a.upper rest) ≡ U.left (old.a.upper [])) → ((rest : List H) → V.left (old.b.upper rest) ≡ V.left (old.b.upper []))
    → ((rest_a : List G) (rest_b : List H) → IsReached U V (moment_of old rest_a rest_b)) → 1 ≤ n → AdvancesBy n U V RA RB [] old new
    → weight U V (most_a + most_b) (world_at (moment_of new [] [])) < weight U V (most_a + most_b) (world_at (moment_of old [] []))
settling_lowers U V RA RB most_a most_b n old new orderly few_a few_b steady_a steady_b reached some by =
    let advances = by.advances in
    let for_a = advances.used_a ++ [] in
    let for_b = advances.used_b ++ [] in
    let past = reached for_a for_b in
    let few = past.few in
    let s = past.first_a in
    let t = past.first_b in
    let most = most_a + most_b in
    let first = first_moment (starting s U) (starting t V) past.size past.count past.names in
    let was = moment_of old for_a for_b in
    let now = moment_of new [] [] in
    let bounded = settling_is_bounded (starting s U) (starting t V) most past.size past.count past.names past.happenings advances.happenings (world_at was) (world_at now) (orderly_from U V s t past.idle orderly)
    (fewer U most_a most (omega arith) few_a) (fewer V most_b most (omega arith) few_b) (sizes_of past.size past.count past.sized past.counted) (omega arith)
    (runs_from U V s t past.happenings (world_at first) (world_at was) (runs_of U V past.happenings first was past.plays))
    (runs_from U V s t advances.happenings (world_at was) (world_at now) (runs_of U V advances.happenings was now (advances.plays [] []))) advances.words_are in
    lowered n (length (all_entries advances.happenings)) _ _ _ bounded (weighs U V most old for_a for_b (steady_a for_a) (steady_b for_b)) some by.many
