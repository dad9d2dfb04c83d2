-- Whatever happens in a world, what comes into its hosts may come.
use Rattle.std.proofs.Common.{ℕ, Bool, true, false, List, [], ◌∷◌, if◌then◌else◌, refl, sym, subst, arith}
use Rattle.turn_laws.specs.push_terms.specs.declared.word.Side.TheVariants.{A, B}
use Rattle.turn_laws.specs.push_terms.specs.declared.word.Way.TheVariants.{Ab, Ba}
use Rattle.turn_laws.specs.radio_model.specs.declared.deed.Deed.{Deed}
use Rattle.turn_laws.specs.radio_model.specs.declared.deed.Deed.TheVariants.{Nothing, Meets, Fires, FiresBoth, Breaks, Cancels}
use Rattle.turn_laws.specs.radio_model.specs.Controllers.{Answer, Controller, after_handing}
use Rattle.turn_laws.specs.radio_model.specs.Radio.{Radio, controller, with_controller, found}
use Rattle.turn_laws.specs.world_model.specs.Machines.{TimerFired, Cancelled, Opening, Upper}
use Rattle.turn_laws.specs.world_model.specs.Stations.{Station, told, hears_answer}
use Rattle.turn_laws.specs.world_model.specs.Worlds.{World, Happening, Tries, Departure, GivingBack, Piecemeal, Answering, Turns, Misses, Opens, Closes, Does, Acts, Runs, checks, first_world}
use Rattle.station_laws.specs.WorldLaws.{AreSizes, WorldsAnswer}
use Rattle.station_laws.proofs.Owing.{Goes, IsRightOne, IsRightRadio, one_goes, right_of, gives_back_right, parts, order_goes, meets_right, piece_handed, answer_handed}
use Rattle.station_laws.proofs.Pending.{Pending, pending_as, efforts_keep, departs_keep, told_keeps, pieces_keep, answers_keep, next_may_come}

pub record Kept {S T : Type 0} (size count : ℕ) (w : World S T) : Type 0 where
  pub radio : IsRightRadio size count w.radio
  pub a : Pending w.radio.a.owed w.a
  pub b : Pending w.radio.b.owed w.b

-- ---- the radio changes, and nobody is owed the answer to a command more

radio_keeps : {S T : Type 0} (size count : ℕ) (w : World S T) (radio : Radio) → Goes size count w.radio radio → Kept size count w → Kept size count (record w { radio = radio })
radio_keeps size count w radio goes kept =
    record {
      radio = goes.right;
      a = pending_as w.radio.a.owed radio.a.owed w.a goes.same_a kept.a;
      b = pending_as w.radio.b.owed radio.b.owed w.b goes.same_b kept.b;
    }

a_keeps : {S T : Type 0} (size count : ℕ) (w : World S T) (station : Station S) → Pending w.radio.a.owed station → Kept size count w → Kept size count (record w { a = station })
a_keeps size count w station pending kept = record { radio = kept.radio; a = pending; b = kept.b }

b_keeps : {S T : Type 0} (size count : ℕ) (w : World S T) (station : Station T) → Pending w.radio.b.owed station → Kept size count w → Kept size count (record w { b = station })
b_keeps size count w station pending kept = record { radio = kept.radio; a = kept.a; b = pending }

-- ---- words

fired_keeps : {S G : Type 0} (U : Upper S G) (answers : List G) (armed : Bool) (owed : List Answer) (station : Station S) → Pending owed station → Pending owed (if armed then told U answers TimerFired station else station)
fired_keeps U answers true owed station pending = told_keeps U answers TimerFired owed station pending
fired_keeps U answers false owed station pending = pending

acts_keep : {S T G H : Type 0} (U : Upper S G) (V : Upper T H) (size count : ℕ) (deed : Deed) (old new : World S T) → Acts U V deed old new → Kept size count old → Kept size count new
acts_keep U V size count Nothing old new does kept = absurd does
acts_keep {S} {T} U V size count (Meets Ab fate) old new does kept =
    subst (λ (w : World S T). Kept size count w) (sym does)
    (radio_keeps size count old _ (meets_right size count Ab fate (checks V old.b old.radio.a.waiting) old.radio.a.waiting old.radio kept.radio) kept)
acts_keep {S} {T} U V size count (Meets Ba fate) old new does kept =
    subst (λ (w : World S T). Kept size count w) (sym does)
    (radio_keeps size count old _ (meets_right size count Ba fate (checks U old.a old.radio.b.waiting) old.radio.b.waiting old.radio kept.radio) kept)
acts_keep {S} {T} U V size count (Fires A) old new does kept =
    subst (λ (w : World S T). Kept size count w) (sym does.2) (a_keeps size count old (told U does.1 TimerFired old.a) (told_keeps U does.1 TimerFired old.radio.a.owed old.a kept.a) kept)
acts_keep {S} {T} U V size count (Fires B) old new does kept =
    subst (λ (w : World S T). Kept size count w) (sym does.2) (b_keeps size count old (told V does.1 TimerFired old.b) (told_keeps V does.1 TimerFired old.radio.b.owed old.b kept.b) kept)
acts_keep {S} {T} U V size count FiresBoth old new does kept =
    subst (λ (w : World S T). Kept size count w) (sym does.3)
    (record {
      radio = kept.radio;
      a = fired_keeps U does.1 (U.armed old.a.upper) old.radio.a.owed old.a kept.a;
      b = fired_keeps V does.2 (V.armed old.b.upper) old.radio.b.owed old.b kept.b;
    })
acts_keep {S} {T} U V size count Breaks old new does kept =
    subst (λ (w : World S T). Kept size count w) (sym does) (radio_keeps size count old _ (parts size count 0x08 0x08 old.radio kept.radio) kept)
acts_keep {S} {T} U V size count Cancels old new does kept =
    subst (λ (w : World S T). Kept size count w) (sym does.2) (a_keeps size count old (told U does.1 Cancelled old.a) (told_keeps U does.1 Cancelled old.radio.a.owed old.a kept.a) kept)

-- ---- each happening

-- what a controller has once an answer or a piece came from it to its host
handed_a : (size count : ℕ) (radio : Radio) (one : Controller) → IsRightOne one → IsRightRadio size count radio → IsRightRadio size count (with_controller A one radio)
handed_a size count radio one is right = record { a = is; b = right.b; number = right.number; room = right.room; size_is = right.size_is; count_is = right.count_is }

handed_b : (size count : ℕ) (radio : Radio) (one : Controller) → IsRightOne one → IsRightRadio size count radio → IsRightRadio size count (with_controller B one radio)
handed_b size count radio one is right = record { a = right.a; b = is; number = right.number; room = right.room; size_is = right.size_is; count_is = right.count_is }

does_keeps : {S T G H : Type 0} (U : Upper S G) (V : Upper T H) (size count : ℕ) (happening : Happening) (old new : World S T) → AreSizes size count → Does U V happening old new
    → Kept size count old → Kept size count new
does_keeps {S} {T} U V size count (Tries A effort) old new sizes does kept =
    subst (λ (w : World S T). Kept size count w) (sym does.2) (a_keeps size count old does.0 (efforts_keep U A effort old.radio.a.owed old.a does.0 does.1 kept.a) kept)
does_keeps {S} {T} U V size count (Tries B effort) old new sizes does kept =
    subst (λ (w : World S T). Kept size count w) (sym does.2) (b_keeps size count old does.0 (efforts_keep V B effort old.radio.b.owed old.b does.0 does.1 kept.b) kept)
does_keeps {S} {T} U V size count (Departure A order) old new sizes does kept =
    let goes = order_goes size count A order old.radio sizes kept.radio in
    subst (λ (w : World S T). Kept size count w) (sym does.2)
    (record {
      radio = goes.right;
      a = departs_keep old.radio.a.owed _ old.a order does.0 does.1 goes.own kept.a;
      b = pending_as old.radio.b.owed _ old.b goes.other kept.b;
    })
does_keeps {S} {T} U V size count (Departure B order) old new sizes does kept =
    let goes = order_goes size count B order old.radio sizes kept.radio in
    subst (λ (w : World S T). Kept size count w) (sym does.2)
    (record {
      radio = goes.right;
      a = pending_as old.radio.a.owed _ old.a goes.other kept.a;
      b = departs_keep old.radio.b.owed _ old.b order does.0 does.1 goes.own kept.b;
    })
does_keeps {S} {T} U V size count (GivingBack side) old new sizes does kept =
    subst (λ (w : World S T). Kept size count w) (sym does)
    (radio_keeps size count old _ (one_goes size count side old.radio _ kept.radio (gives_back_right (controller side old.radio) (right_of size count side old.radio kept.radio))) kept)
does_keeps {S} {T} U V size count (Piecemeal A handle piece) old new sizes does kept =
    let goes = piece_handed old.radio.a piece does.0 does.1 kept.radio.a in
    subst (λ (w : World S T). Kept size count w) (sym does.4)
    (record {
      radio = handed_a size count old.radio (after_handing old.radio.a) goes.right kept.radio;
      a = pieces_keep U does.3 handle piece _ old.a (pending_as old.radio.a.owed _ old.a goes.same kept.a);
      b = kept.b;
    })
does_keeps {S} {T} U V size count (Piecemeal B handle piece) old new sizes does kept =
    let goes = piece_handed old.radio.b piece does.0 does.1 kept.radio.b in
    subst (λ (w : World S T). Kept size count w) (sym does.4)
    (record {
      radio = handed_b size count old.radio (after_handing old.radio.b) goes.right kept.radio;
      a = kept.a;
      b = pieces_keep V does.3 handle piece _ old.b (pending_as old.radio.b.owed _ old.b goes.same kept.b);
    })
does_keeps {S} {T} {G} {H} U V size count (Answering A answer) old new sizes does kept =
    let goes = answer_handed old.radio.a answer does.0 does.1 does.2 kept.radio.a in
    let next = answers_keep U does.3 A answer does.0 old.a (subst (λ (owed : List Answer). Pending owed old.a) does.2 kept.a) in
    subst (λ (w : World S T). Kept size count w) (sym does.4)
    (record {
      radio = handed_a size count old.radio (after_handing old.radio.a) goes.right kept.radio;
      a = subst (λ (owed : List Answer). Pending owed (hears_answer U does.3 A answer old.a)) (sym goes.owed_is) next;
      b = kept.b;
    })
does_keeps {S} {T} {G} {H} U V size count (Answering B answer) old new sizes does kept =
    let goes = answer_handed old.radio.b answer does.0 does.1 does.2 kept.radio.b in
    let next = answers_keep V does.3 B answer does.0 old.b (subst (λ (owed : List Answer). Pending owed old.b) does.2 kept.b) in
    subst (λ (w : World S T). Kept size count w) (sym does.4)
    (record {
      radio = handed_b size count old.radio (after_handing old.radio.b) goes.right kept.radio;
      a = kept.a;
      b = subst (λ (owed : List Answer). Pending owed (hears_answer V does.3 B answer old.b)) (sym goes.owed_is) next;
    })
does_keeps {S} {T} U V size count (Turns ordinal word) old new sizes does kept =
    let mid = acts_keep U V size count (found word old.radio) old does.3 does.4 kept in
    subst (λ (w : World S T). Kept size count w) (sym does.5) (record { radio = mid.radio; a = mid.a; b = mid.b })
does_keeps {S} {T} U V size count (Misses word) old new sizes does kept =
    subst (λ (w : World S T). Kept size count w) (sym does.2) (record { radio = kept.radio; a = kept.a; b = kept.b })
does_keeps {S} {T} U V size count (Opens push name) old new sizes does kept =
    subst (λ (w : World S T). Kept size count w) (sym does.4)
    (record { radio = kept.radio; a = told_keeps U does.3 (Opening name) old.radio.a.owed old.a kept.a; b = kept.b })
does_keeps {S} {T} U V size count (Closes push outcome) old new sizes does kept =
    subst (λ (w : World S T). Kept size count w) (sym does.9) (record { radio = kept.radio; a = kept.a; b = kept.b })

pub runs_keep : {S T G H : Type 0} (U : Upper S G) (V : Upper T H) (size count : ℕ) (happenings : List Happening) (old new : World S T) → AreSizes size count → Runs U V happenings old new
    → Kept size count old → Kept size count new
runs_keep {S} {T} U V size count [] old new sizes runs kept = subst (λ (w : World S T). Kept size count w) (sym runs) kept
runs_keep U V size count (happening ∷ happenings) old new sizes runs kept =
    runs_keep U V size count happenings runs.0 new sizes runs.2 (does_keeps U V size count happening old runs.0 sizes runs.1 kept)

-- ---- the first world

first_right : IsRightOne (record { scan = 0; told = 0; up = false; taken = 0; begun = []; waiting = []; coming = []; owed = [] })
first_right = record { owed = tt; told = omega arith; taken = omega arith }

pub first_keeps : {S T G H : Type 0} (U : Upper S G) (V : Upper T H) (size count : ℕ) (names : List (List ℕ)) → Kept size count (first_world U V size count names)
first_keeps U V size count names =
    record {
      radio = record { a = first_right; b = first_right; number = omega arith; room = λ on. cc; size_is = refl; count_is = refl };
      a = record { commands = (refl, (refl, (refl, tt))); pends = refl };
      b = record { commands = (refl, (refl, (refl, (refl, tt)))); pends = refl };
    }

pub worlds_answer : {S T G H : Type 0} (U : Upper S G) (V : Upper T H) → WorldsAnswer U V
worlds_answer U V size count names happenings w sizes runs =
    let kept = runs_keep U V size count happenings (first_world U V size count names) w sizes runs (first_keeps U V size count names) in
    record { a = next_may_come w.radio.a w.a kept.radio.a kept.a; b = next_may_come w.radio.b w.b kept.radio.b kept.b; handle = kept.radio.number }
