-- Each thing that happens without a word lowers one number, by one at least where the capture has an entry of it.
use Rattle.std.proofs.Common.{◌≡◌, ℕ, zero, suc, ◌+◌, ◌-◌, ◌*◌, ◌<◌, ◌≤◌, Bool, true, false, List, [], ◌∷◌, ◌++◌, length, length-append, if◌then◌else◌, Some, None, refl, sym, subst, arith, mul-le-mul_left}
use Rattle.std.specs.Prelude.{slice_get}
use Rattle.std.proofs.lemmas.Option.{slice_get_within}
use Rattle.rest_laws.specs.push_terms.specs.declared.outcome.Outcome.{Outcome}
use Rattle.rest_laws.specs.push_terms.specs.declared.word.Side.{Side}
use Rattle.rest_laws.specs.push_terms.specs.declared.word.Side.TheVariants.{A, B}
use Rattle.rest_laws.specs.radio_model.specs.Controllers.{Answer, Returned, Stated, Called, LinkMade, LinkGone, GivenBack, Controller, after_giving_back, after_telling}
use Rattle.rest_laws.specs.radio_model.specs.Radio.{Radio, with_controller}
use Rattle.rest_laws.specs.world_model.specs.Machines.{Upper, Opening}
use Rattle.rest_laws.specs.world_model.specs.Pushes.{Pushes, one_begun, one_ended}
use Rattle.rest_laws.specs.world_model.specs.Stations.{Station, told, hears_piece, hears_answer}
use Rattle.rest_laws.specs.world_model.specs.Worlds.{World, Happening, Tries, Departure, GivingBack, Piecemeal, Answering, Turns, Misses, Opens, Closes, entries_of, all_entries, words_in, all_words, Does, Runs, first_world}
use Rattle.rest_laws.specs.turn_laws.specs.WorldLaws.{Fits}
use Rattle.rest_laws.specs.turn_laws.proofs.Leading.{tidings, made}
use Rattle.rest_laws.specs.turn_laws.proofs.Wiring.{count}
use Rattle.rest_laws.specs.turn_laws.proofs.Hearing.{with_coming, with_owed}
use Rattle.rest_laws.specs.turn_laws.proofs.Coming.{handed_piece, handed_answer}
use Rattle.rest_laws.specs.turn_laws.proofs.Keeping.{calling, Kept}
use Rattle.rest_laws.specs.air_laws.proofs.Following.{runs_then, reached_first, along}
use Rattle.rest_laws.specs.air_laws.proofs.Resting.{next_going}
use Rattle.rest_laws.specs.station_laws.specs.WorldLaws.{AreSizes}
use Rattle.rest_laws.specs.Premises.{AreOrderly}
use Rattle.rest_laws.proofs.Happening.{LivelyIn}
use Rattle.rest_laws.proofs.Resting.{first_lively, keeps_lively}
use Rattle.rest_laws.proofs.Heights.{going_height, pushes_height, links_height}
use Rattle.settling_laws.specs.Weights.{SaysAtMost, SettlingIsBounded, hearing_weight, link_weight, push_weight, side_weight, weight_at, weight}
use Rattle.settling_laws.proofs.Weighing.{back_few, effort_less, plain_heard, made_heard, gone_heard, piece_heard}
use Rattle.settling_laws.proofs.Orders.{a_less, b_less, departs_a, departs_b}

-- ---- what comes in

answer_a : {S G : Type 0} (U : Upper S G) (most : ℕ) (answers : List G) (answer : Answer) (rest : List Answer) (one : Controller) (a : Station S) → SaysAtMost most U → one.owed ≡ answer ∷ rest
    → side_weight U A most (after_telling answer (with_owed rest one)) (hears_answer U answers A answer a) < side_weight U A most one a
answer_a U most answers (Returned number params) rest one a few first = plain_heard U answers A most (Returned number params) rest one a tt first
answer_a U most answers (Stated number) rest one a few first = plain_heard U answers A most (Stated number) rest one a tt first
answer_a U most answers Called rest one a few first = plain_heard U answers A most Called rest one a tt first
answer_a U most answers (GivenBack handle n) rest one a few first = plain_heard U answers A most (GivenBack handle n) rest one a tt first
answer_a U most answers (LinkMade handle) rest one a few first = made_heard U answers A most handle rest one a few first
answer_a U most answers (LinkGone handle reason) rest one a few first = gone_heard U answers A most handle reason rest one a few first

answer_b : {S G : Type 0} (U : Upper S G) (most : ℕ) (answers : List G) (answer : Answer) (rest : List Answer) (one : Controller) (b : Station S) → SaysAtMost most U → one.owed ≡ answer ∷ rest
    → side_weight U B most (after_telling answer (with_owed rest one)) (hears_answer U answers B answer b) < side_weight U B most one b
answer_b U most answers (Returned number params) rest one b few first = plain_heard U answers B most (Returned number params) rest one b tt first
answer_b U most answers (Stated number) rest one b few first = plain_heard U answers B most (Stated number) rest one b tt first
answer_b U most answers Called rest one b few first = plain_heard U answers B most Called rest one b tt first
answer_b U most answers (GivenBack handle n) rest one b few first = plain_heard U answers B most (GivenBack handle n) rest one b tt first
answer_b U most answers (LinkMade handle) rest one b few first = made_heard U answers B most handle rest one b few first
answer_b U most answers (LinkGone handle reason) rest one b few first = gone_heard U answers B most handle reason rest one b few first

-- ---- packets are given back, or there is none to give back

back_side : {S G : Type 0} (U : Upper S G) (side : Side) (most : ℕ) (one : Controller) (old : Station S) → side_weight U side most (after_giving_back one) old ≤ side_weight U side most one old
back_side U side most one old = let few = back_few most one.told one.taken one.owed in omega arith

no_more_a : (p l a a' b : ℕ) → a' ≤ a → p + (l + (a' + b)) ≤ p + (l + (a + b))
no_more_a p l a a' b few = omega arith

no_more_b : (p l a b b' : ℕ) → b' ≤ b → p + (l + (a + b')) ≤ p + (l + (a + b))
no_more_b p l a b b' few = omega arith

-- ---- a push begins and ends

opens_by : (n l k p p' x x' a a' b : ℕ) → n ≡ 5 * l + k + 1 → p' + 1 ≤ p → x' ≤ x + 5 → a' ≤ a + k → n * p' + (l * x' + (a' + b)) < n * p + (l * x + (a + b))
opens_by n l k p p' x x' a a' b is fewer links more =
    let links_low = mul-le-mul_left l links in
    let pushes_low = mul-le-mul_left n fewer in
    omega (arith, is, more, links_low, pushes_low)

told_side : {S G : Type 0} (U : Upper S G) (most : ℕ) (answers : List G) (name : List ℕ) (one : Controller) (a : Station S) → SaysAtMost most U
    → side_weight U A most one (told U answers (Opening name) a) ≤ side_weight U A most one a + hearing_weight most
told_side U most answers name one a few = let more = few answers (Opening name) a.upper in omega arith

closes_by : (n p p' r : ℕ) → p' < p → 1 ≤ n → n * p' + r < n * p + r
closes_by n p p' r less some =
    let low : p' + 1 ≤ p = omega (arith, less) in
    let product = mul-le-mul_left n low in
    omega (arith, product, some)

opens_less : {S T G H : Type 0} (U : Upper S G) (V : Upper T H) (most : ℕ) (radio : Radio) (a a' : Station S) (b : Station T) (pushes pushes' : Pushes) → pushes_height pushes' + 1 ≤ pushes_height pushes → links_height radio pushes' ≤ links_height radio pushes + 5
    → side_weight U A most radio.a a' ≤ side_weight U A most radio.a a + hearing_weight most → weight_at U V most radio a' b pushes' < weight_at U V most radio a b pushes
opens_less U V most radio a a' b pushes pushes' fewer links more = opens_by (push_weight most) (link_weight most) (hearing_weight most) _ _ _ _ _ _ _ refl fewer links more

some_weight : (most : ℕ) → 1 ≤ push_weight most
some_weight most = omega arith

closes_less : {S T G H : Type 0} (U : Upper S G) (V : Upper T H) (most : ℕ) (radio : Radio) (a : Station S) (b : Station T) (pushes : Pushes) (outcome : Outcome) → pushes_height (one_ended outcome pushes) < pushes_height pushes
    → weight_at U V most radio a b (one_ended outcome pushes) < weight_at U V most radio a b pushes
closes_less U V most radio a b pushes outcome fewer = closes_by (push_weight most) _ _ _ fewer (some_weight most)

ended_less : (n : ℕ) (going : Bool) → going ≡ true → 2 * n + 0 < 2 * n + going_height going
ended_less n true is = omega arith
ended_less n false is = absurd cc

-- ---- whatever happens

one_more : (n x y : ℕ) → n ≤ 1 → x < y → n + x ≤ y
one_more n x y few less = omega arith

none_asked_out : (asked : Bool) (n m : ℕ) → (1 ≤ n + m → asked ≡ true) → asked ≡ false → n ≡ 0
none_asked_out asked n m awaited off = by n awaited off
  where
    by : (n : ℕ) → (1 ≤ n + m → asked ≡ true) → asked ≡ false → n ≡ 0
    by zero awaited off = refl
    by (suc k) awaited off = let yes = awaited (omega arith) in absurd cc

-- what a law here asks of both machines
pub record Few {S T G H : Type 0} (U : Upper S G) (V : Upper T H) (most : ℕ) : Type 0 where
  pub orderly : AreOrderly U V
  pub few_a : SaysAtMost most U
  pub few_b : SaysAtMost most V

none_more : (x y : ℕ) → x ≤ y → 0 + x ≤ y
none_more x y few = omega arith

lowers : {S T G H : Type 0} (U : Upper S G) (V : Upper T H) (most : ℕ) (happening : Happening) (old new : World S T) → Few U V most → words_in happening ≡ [] → Does U V happening old new → Kept U V old.radio old.a old.b old.pushes.going → LivelyIn U old
    → length (entries_of happening) + weight U V most new ≤ weight U V most old
lowers U V most (Tries A effort) old new asks none (station, makes, same) kept is =
    rw same (one_more 0 _ _ (omega arith) (a_less U V most old.radio old.radio old.a station old.b old.pushes refl refl refl
    (effort_less U A most effort old.radio.a old.a station asks.orderly.frames_a makes (λ a off. none_asked_out old.a.asked (count old.a.out) (calling old.radio.phase + made (tidings old.radio.a.owed)) kept.one.awaits.awaited off))))
lowers U V most (Tries B effort) old new asks none (station, makes, same) kept is =
    rw same (one_more 0 _ _ (omega arith) (b_less U V most old.radio old.radio old.a old.b station old.pushes refl refl refl (effort_less V B most effort old.radio.b old.b station asks.orderly.frames_b makes (λ a off. absurd cc))))
lowers U V most (Departure A order) old new asks none (rest, first, same) kept is = rw same (one_more 1 _ _ (omega arith) (departs_a U V most old.radio old.a old.b old.pushes order rest asks.orderly.idles first kept is))
lowers U V most (Departure B order) old new asks none (rest, first, same) kept is = rw same (one_more 1 _ _ (omega arith) (departs_b U V most old.radio old.a old.b old.pushes order rest asks.orderly.idles first kept is))
lowers U V most (GivingBack A) old new asks none same kept is = rw same (none_more _ _ (no_more_a _ _ _ _ _ (back_side U A most old.radio.a old.a)))
lowers U V most (GivingBack B) old new asks none same kept is = rw same (none_more _ _ (no_more_b _ _ _ _ _ (back_side V B most old.radio.b old.b)))
lowers U V most (Piecemeal A handle piece) old new asks none (rest, first, here, g, same) kept is =
    rw same (subst (λ (c : Controller). 1 + weight_at U V most (with_controller A c old.radio) (hears_piece U g handle piece old.a) old.b old.pushes ≤ weight U V most old) (sym (handed_piece old.radio.a piece rest first))
    (one_more 1 _ _ (omega arith) (a_less U V most old.radio (with_controller A (with_coming rest old.radio.a) old.radio) old.a (hears_piece U g handle piece old.a) old.b old.pushes refl refl refl (piece_heard U g A most handle rest piece old.radio.a old.a asks.few_a first))))
lowers U V most (Piecemeal B handle piece) old new asks none (rest, first, here, h, same) kept is =
    rw same (subst (λ (c : Controller). 1 + weight_at U V most (with_controller B c old.radio) old.a (hears_piece V h handle piece old.b) old.pushes ≤ weight U V most old) (sym (handed_piece old.radio.b piece rest first))
    (one_more 1 _ _ (omega arith) (b_less U V most old.radio (with_controller B (with_coming rest old.radio.b) old.radio) old.a old.b (hears_piece V h handle piece old.b) old.pushes refl refl refl (piece_heard V h B most handle rest piece old.radio.b old.b asks.few_b first))))
lowers U V most (Answering A answer) old new asks none (rest, empty, first, g, same) kept is =
    rw same (subst (λ (c : Controller). 1 + weight_at U V most (with_controller A c old.radio) (hears_answer U g A answer old.a) old.b old.pushes ≤ weight U V most old) (sym (handed_answer old.radio.a answer rest empty first))
    (one_more 1 _ _ (omega arith) (a_less U V most old.radio (with_controller A (after_telling answer (with_owed rest old.radio.a)) old.radio) old.a (hears_answer U g A answer old.a) old.b old.pushes refl refl refl (answer_a U most g answer rest old.radio.a old.a asks.few_a first))))
lowers U V most (Answering B answer) old new asks none (rest, empty, first, h, same) kept is =
    rw same (subst (λ (c : Controller). 1 + weight_at U V most (with_controller B c old.radio) old.a (hears_answer V h B answer old.b) old.pushes ≤ weight U V most old) (sym (handed_answer old.radio.b answer rest empty first))
    (one_more 1 _ _ (omega arith) (b_less U V most old.radio (with_controller B (after_telling answer (with_owed rest old.radio.b)) old.radio) old.a old.b (hears_answer V h B answer old.b) old.pushes refl refl refl (answer_b V most h answer rest old.radio.b old.b asks.few_b first))))
lowers U V most (Turns ordinal word) old new asks none does kept is = absurd cc
lowers U V most (Misses word) old new asks none does kept is = absurd cc
lowers U V most (Opens push name) old new asks none (idle, next, push_is, g, same) kept is =
    let still = next_going old.pushes.going (slice_get old.pushes.names old.pushes.begun) name next in
    let there : slice_get old.pushes.names old.pushes.begun ≡ Some name = subst (λ (going : Bool). (if going then None else slice_get old.pushes.names old.pushes.begun) ≡ Some name) still next in
    let within = slice_get_within old.pushes.names old.pushes.begun name there in
    rw same (one_more 1 _ _ (omega arith) (opens_less U V most old.radio old.a (told U g (Opening name) old.a) old.b old.pushes (one_begun old.pushes) (omega arith) (omega arith) (told_side U most g name old.radio.a old.a asks.few_a)))
lowers U V most (Closes push outcome) old new asks none (going, push_is, idle, came, apart, none_a, none_b, quiet_a, quiet_b, same) kept is =
    rw same (one_more 1 _ _ (omega arith) (closes_less U V most old.radio old.a old.b old.pushes outcome (ended_less (length old.pushes.names - old.pushes.begun) old.pushes.going going)))

-- ---- one after the other

facts : {S T G H : Type 0} (U : Upper S G) (V : Upper T H) (size count : ℕ) (names : List (List ℕ)) (happenings : List Happening) (w : World S T) → AreOrderly U V → AreSizes size count → length names ≤ 0x0EFF → Runs U V happenings (first_world U V size count names) w
    → Kept U V w.radio w.a w.b w.pushes.going × LivelyIn U w
facts U V size count names happenings w orderly sizes few runs =
    let first = first_world U V size count names in
    let fits : Fits U V size = record { long = sizes.long; frames_a = orderly.frames_a; frames_b = orderly.frames_b; idles = orderly.idles } in
    let arrived = along U V happenings first (λ past words w. LivelyIn U w) happenings [] [] first w orderly.frames_a orderly.frames_b orderly.idles (keeps_lively U V size count names happenings orderly sizes) runs
    (reached_first U V size count names happenings fits) (first_lively U V size count names few) in
    (arrived.reached.kept, arrived.now)

both_none : {X : Type 0} (xs ys : List X) → xs ++ ys ≡ [] → (xs ≡ []) × (ys ≡ [])
both_none [] ys none = (refl, none)
both_none (x ∷ xs) ys none = absurd cc

sum_up : (x xs all w mid new : ℕ) → all ≡ x + xs → x + mid ≤ w → xs + new ≤ mid → all + new ≤ w
sum_up x xs all w mid new is first later = omega arith

itself : (x : ℕ) → 0 + x ≤ x
itself x = omega arith

bounded : {S T G H : Type 0} (U : Upper S G) (V : Upper T H) (most size count : ℕ) (names : List (List ℕ)) (before happenings : List Happening) (old new : World S T) → Few U V most → AreSizes size count → length names ≤ 0x0EFF
    → Runs U V before (first_world U V size count names) old → Runs U V happenings old new → all_words happenings ≡ [] → length (all_entries happenings) + weight U V most new ≤ weight U V most old
bounded {S} {T} U V most size count names before [] old new asks sizes few runs same none = subst (λ (w : World S T). 0 + weight U V most w ≤ weight U V most old) (sym same) (itself _)
bounded U V most size count names before (happening ∷ happenings) old new asks sizes few runs (mid, does, rest) none =
    let known = facts U V size count names before old asks.orderly sizes few runs in
    let words = both_none (words_in happening) (all_words happenings) none in
    sum_up (length (entries_of happening)) (length (all_entries happenings)) _ _ (weight U V most mid) _ (length-append (entries_of happening) (all_entries happenings))
    (lowers U V most happening old mid asks words.0 does known.0 known.1)
    (bounded U V most size count names (before ++ happening ∷ []) happenings mid new asks sizes few (runs_then U V before happening (first_world U V size count names) old mid runs does) rest words.1)

pub settling_is_bounded : {S T G H : Type 0} (U : Upper S G) (V : Upper T H) → SettlingIsBounded U V
settling_is_bounded U V most size count names before happenings old new orderly few_a few_b sizes few runs more none =
    bounded U V most size count names before happenings old new (record { orderly = orderly; few_a = few_a; few_b = few_b }) sizes few runs more none
