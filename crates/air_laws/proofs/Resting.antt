-- A world that is at rest waits for a word: nothing else happens in it.
use Rattle.std.proofs.Common.{◌≡◌, ℕ, Bool, true, false, List, [], ◌++◌, Option, Some, None, if◌then◌else◌, refl, sym, ap, ◌∙◌, subst}
use Rattle.std.specs.Prelude.{slice_get}
use Rattle.turn_laws.specs.push_terms.specs.declared.word.Side.{Side}
use Rattle.turn_laws.specs.push_terms.specs.declared.word.Side.TheVariants.{A, B}
use Rattle.turn_laws.specs.radio_model.specs.Controllers.{Answer, Controller, gives_back, after_giving_back}
use Rattle.turn_laws.specs.radio_model.specs.Radio.{Phase, Apart, Paging, Requested, Together, is_apart, is_together}
use Rattle.turn_laws.specs.world_model.specs.Machines.{Upper}
use Rattle.turn_laws.specs.world_model.specs.Stations.{Station, Effort, Taking, Putting, Asking, Leaving, Commanding, MakesEffort}
use Rattle.turn_laws.specs.world_model.specs.Worlds.{World, Happening, Tries, Departure, GivingBack, Piecemeal, Answering, Turns, Misses, Opens, Closes, IsStill, IsAtRest, Does}
use Rattle.turn_laws.specs.Premises.{Idles}
use Rattle.turn_laws.proofs.Leading.{tidings, Led}
use Rattle.turn_laws.proofs.Stationing.{Steady, on_link, off_link}
use Rattle.turn_laws.proofs.Keeping.{Kept}

-- what the controller of a host at rest has told it
pub rest_led : (one : Controller) (number : ℕ) (together : Bool) → one.owed ≡ [] → Led one.told one.up (tidings one.owed) number together → (one.told ≡ number) × (one.up ≡ together)
rest_led one number together none led = subst (λ (l : List Answer). Led one.told one.up (tidings l) number together) none led

effort_stops : {S G : Type 0} (U : Upper S G) (side : Side) (effort : Effort) (one : Controller) (number : ℕ) (together : Bool) (extra : ℕ) (old new : Station S) → IsStill U one old → Steady U number together extra one old
    → (side ≡ A → one.up ≡ false → U.wants_link old.upper ≡ false) → (one.up ≡ true → U.leaves_link old.upper ≡ false) → MakesEffort U side effort old new → ⊥
effort_stops U side Taking one number together extra old new still steady unasked stays does = let none = still.none_next does.handle does.link in let next = does.next in cc
effort_stops U side Putting one number together extra old new still steady unasked stays does = let none = still.none_goes in let first = does.first in cc
effort_stops U A Asking one number together extra old new still steady unasked stays does = let none = unasked refl (off_link one.up one.told old.link steady.link does.off) in let wants = does.wants in cc
effort_stops U B Asking one number together extra old new still steady unasked stays does = does
effort_stops U side Leaving one number together extra old new still steady unasked stays does = let none = stays ((on_link one.up one.told does.handle old.link steady.link does.link).0) in let leaves = does.leaves in cc
effort_stops U side Commanding one number together extra old new still steady unasked stays does = let none = still.none_waits in let first = does.first in cc

-- a client that wants a link has it
wants_none : {S G : Type 0} (U : Upper S G) (going : Bool) (s : S) → (going ≡ true → U.wants_link s ≡ false) → (going ≡ false → U.wants_link s ≡ false) → U.wants_link s ≡ false
wants_none U true s here there = here refl
wants_none U false s here there = there refl

pub next_going : (going : Bool) (other : Option (List ℕ)) (name : List ℕ) → (if going then None else other) ≡ Some name → going ≡ false
next_going true other name is = absurd cc
next_going false other name is = refl

apart_off : (phase : Phase) → is_apart phase ≡ true → is_together phase ≡ false
apart_off Apart is = refl
apart_off Paging is = refl
apart_off Requested is = refl
apart_off Together is = absurd cc

-- nothing is given back where all was
back_none : (one : Controller) → one.owed ≡ [] → one.taken ≡ 0 → (after_giving_back one).owed ≡ []
back_none one none taken = ap (λ (l : List Answer). l ++ gives_back one.told one.taken) none ∙ ap (λ (n : ℕ). gives_back one.told n) taken

back_still : {S G : Type 0} (U : Upper S G) (one : Controller) (station : Station S) → IsStill U one station → IsStill U (after_giving_back one) station
back_still U one station still = record {
  none_waits = still.none_waits;
  none_goes = still.none_goes;
  none_out = still.none_out;
  unasked = still.unasked;
  none_next = still.none_next;
  none_comes = still.none_comes;
  none_owed = back_none one still.none_owed still.returned;
  returned = refl;
}

-- what is no word and leaves something in the capture
abbrev pub IsQuiet : Happening → Type 0
IsQuiet (GivingBack side) = ⊥
IsQuiet (Turns ordinal word) = ⊥
IsQuiet (Misses word) = ⊥
IsQuiet happening = Unit {0}

pub rest_stops : {S T G H : Type 0} (U : Upper S G) (V : Upper T H) (happening : Happening) (old new : World S T) → Idles U → IsQuiet happening → IsAtRest U V old → Kept U V old.radio old.a old.b old.pushes.going → Does U V happening old new → ⊥
rest_stops U V (Tries A effort) old new idles quiet rest kept (station, does, same) =
    let known = rest_led old.radio.a old.radio.number (is_together old.radio.phase) rest.still_a.none_owed kept.one.led in
    effort_stops U A effort old.radio.a old.radio.number (is_together old.radio.phase) _ old.a station rest.still_a kept.one
    (λ a off. wants_none U old.pushes.going old.a.upper (λ going. rest.calm.no_rise (sym known.1 ∙ off) going) (λ still. idles.wants_none old.a.upper (kept.rests still).idle))
    (λ on. rest.calm.no_fall_a (sym known.1 ∙ on)) does
rest_stops U V (Tries B effort) old new idles quiet rest kept (station, does, same) =
    let known = rest_led old.radio.b old.radio.number (is_together old.radio.phase) rest.still_b.none_owed kept.other.led in
    effort_stops V B effort old.radio.b old.radio.number (is_together old.radio.phase) 0 old.b station rest.still_b kept.other (λ a off. cc) (λ on. rest.calm.no_fall_b (sym known.1 ∙ on)) does
rest_stops U V (Departure A order) old new idles quiet rest kept (more, first, same) = let none = rest.still_a.none_out in cc
rest_stops U V (Departure B order) old new idles quiet rest kept (more, first, same) = let none = rest.still_b.none_out in cc
rest_stops U V (GivingBack side) old new idles quiet rest kept does = quiet
rest_stops U V (Piecemeal A handle piece) old new idles quiet rest kept (more, first, here, g, same) = let none = rest.still_a.none_comes in cc
rest_stops U V (Piecemeal B handle piece) old new idles quiet rest kept (more, first, here, h, same) = let none = rest.still_b.none_comes in cc
rest_stops U V (Answering A answer) old new idles quiet rest kept (more, quiet_now, first, g, same) = let none = rest.still_a.none_owed in cc
rest_stops U V (Answering B answer) old new idles quiet rest kept (more, quiet_now, first, h, same) = let none = rest.still_b.none_owed in cc
rest_stops U V (Turns ordinal word) old new idles quiet rest kept does = quiet
rest_stops U V (Misses word) old new idles quiet rest kept does = quiet
rest_stops U V (Opens push name) old new idles quiet rest kept (idle, next, push_is, g, same) =
    let none = rest.calm.no_begin (next_going old.pushes.going (slice_get old.pushes.names old.pushes.begun) name next) idle in cc
rest_stops U V (Closes push outcome) old new idles quiet rest kept (going, push_is, idle, is, apart, none_a, none_b, quiet_a, quiet_b, same) =
    let none = rest.calm.no_end (apart_off old.radio.phase apart) going idle in cc

-- what is given back changes nothing
pub back_rests : {S T G H : Type 0} (U : Upper S G) (V : Upper T H) (side : Side) (old new : World S T) → IsAtRest U V old → Does U V (GivingBack side) old new → IsAtRest U V new
back_rests U V A old new rest same = rw same (record { still_a = back_still U old.radio.a old.a rest.still_a; still_b = rest.still_b; paged = rest.paged; calm = rest.calm })
back_rests U V B old new rest same = rw same (record { still_a = rest.still_a; still_b = back_still V old.radio.b old.b rest.still_b; paged = rest.paged; calm = rest.calm })
