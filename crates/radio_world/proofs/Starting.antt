-- What machines are at first is nothing to what happens behind it.
use Rattle.std.proofs.Common.{◌≡◌, ℕ, true, List, Option, Some, None, refl, sym, subst}
use Rattle.push_terms.specs.declared.word.Side.{Side}
use Rattle.push_terms.specs.declared.word.Side.TheVariants.{A, B}
use Rattle.room_laws.specs.world_model.specs.Machines.{Upper}
use Rattle.room_laws.specs.world_model.specs.Stations.{Station, IsStopped}
use Rattle.room_laws.specs.world_model.specs.Worlds.{World, Happening, Runs, IsSettled, IsAtRest}
use Rattle.room_laws.specs.turn_laws.specs.Premises.{Idles}
use Rattle.room_laws.specs.rest_laws.specs.Premises.{AsksOnce, AreOrderly}
use Rattle.run_laws.specs.Embedding.{said_as, Embeds}
use Rattle.run_laws.proofs.Embedding.{effort_back, runs_are_of_less, rest_is_of_less}
use Rattle.radio_world.specs.Standing.{starting}

said_same : {S : Type 0} (said : Option (List ℕ × S)) → said ≡ said_as (λ s. s) said
said_same None = refl
said_same (Some one) = refl

starts : {S G : Type 0} (s : S) (U : Upper S G) → Embeds (λ x. x) (starting s U) U
starts s U = record {
  hear = λ answers news x. refl;
  next = λ x. said_same (U.next x);
  wants_link = λ x. refl;
  leaves_link = λ x. refl;
  is_idle = λ x. refl;
  outcome = λ x. refl;
  armed = λ x. refl;
  may_cancel = λ x. refl;
  has_check = λ x own. refl;
}

started : {S G : Type 0} (s : S) (U : Upper S G) → Embeds (λ x. x) U (starting s U)
started s U = record {
  hear = λ answers news x. refl;
  next = λ x. said_same (U.next x);
  wants_link = λ x. refl;
  leaves_link = λ x. refl;
  is_idle = λ x. refl;
  outcome = λ x. refl;
  armed = λ x. refl;
  may_cancel = λ x. refl;
  has_check = λ x own. refl;
}

stopped_from : {S G : Type 0} (s : S) (U : Upper S G) (side : Side) (station : Station S) → IsStopped U side station → IsStopped (starting s U) side station
stopped_from s U side station stopped effort next makes = let back = effort_back (λ x. x) U (starting s U) (started s U) side effort station next makes in stopped effort back.0 back.2

idles_from : {S G : Type 0} (s : S) (U : Upper S G) → U.is_idle s ≡ true → Idles U → Idles (starting s U)
idles_from s U idle idles = record { first = idle; wants_none = idles.wants_none; hears = idles.hears; says = idles.says }

once_from : {S G : Type 0} (s : S) (U : Upper S G) → AsksOnce U → AsksOnce (starting s U)
once_from s U once = record { comes = once.comes; hears = once.hears; says = once.says }

module _ {S T G H : Type 0} (U : Upper S G) (V : Upper T H) (s : S) (t : T) where
  pub orderly_from : U.is_idle s ≡ true → AreOrderly U V → AreOrderly (starting s U) (starting t V)
  orderly_from idle orderly = record { frames_a = orderly.frames_a; frames_b = orderly.frames_b; idles = idles_from s U idle orderly.idles; once = once_from s U orderly.once }

  pub runs_from : (happenings : List Happening) (old new : World S T) → Runs U V happenings old new → Runs (starting s U) (starting t V) happenings old new
  runs_from happenings old new runs =
      let back = runs_are_of_less (λ x. x) (λ x. x) (starting s U) U (starting t V) V (starts s U) (starts t V) happenings old new runs in
      subst (λ (w : World S T). Runs (starting s U) (starting t V) happenings old w) (sym back.1) back.2

  pub settled_from : (w : World S T) → IsSettled U V w → IsSettled (starting s U) (starting t V) w
  settled_from w settled = record {
    out_a = settled.out_a;
    out_b = settled.out_b;
    stopped_a = stopped_from s U A w.a settled.stopped_a;
    stopped_b = stopped_from t V B w.b settled.stopped_b;
    still_a = settled.still_a;
    still_b = settled.still_b;
    returned_a = settled.returned_a;
    returned_b = settled.returned_b;
    no_begin = settled.no_begin;
    no_end = settled.no_end;
  }

  pub rest_from : (w : World S T) → IsAtRest (starting s U) (starting t V) w → IsAtRest U V w
  rest_from w rest = rest_is_of_less (λ x. x) (λ x. x) U (starting s U) V (starting t V) (started s U) (started t V) w rest
