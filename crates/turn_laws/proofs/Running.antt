-- A run is a run of turns, wherever it broke off.
use Rattle.std.proofs.Common.{ℕ, ◌≡◌, Bool, true, false, inl, List, [], ◌∷◌, ◌++◌, map, refl, sym, ◌∙◌, subst}
use Rattle.std.proofs.lemmas.List.{append_assoc, append-nil}
use Rattle.std.proofs.lemmas.List.Concat.{flat_map-append}
use Rattle.world_model.specs.Machines.{LinkEvent, Up, Down, Linked, Heard, Upper, all_said, Breath, Whole, Short, Reaction}
use Rattle.world_model.specs.Talks.{Talk, Told, Said}
use Rattle.world_model.specs.Turns.{Party, Pair, breathes, speaks_on, notes, event_heard, Step, Passes, words_in, words_of, first_pair}
use Rattle.world_model.specs.Carriages.{End, Carriage, Doing, Moved, Deeds, Misses, Rises, Falls, Opens, Closes, Carries, words_at, steps_of, all_steps, first_end, first_carriage}
use Rattle.turn_laws.specs.Laws.{CarriedIsTurned, SameWords, IsFront, BrokenGoesOn, HearsWhenQuiet}
use Rattle.turn_laws.proofs.Finishing.{plain, Coming, nothing_more, first_reaction, later, behind, ending, events_heard, comes_to}
use Rattle.turn_laws.proofs.Standing.{Sound, quiet_there}
use Rattle.turn_laws.proofs.Advancing.{Both, finished, as_it_is, advances, idle_both}

pub passes_then : {S T G H : Type 0} (U : Upper S G) (V : Upper T H) (one two : List Step) (old mid new : Pair S T) → Passes U V one old mid → Passes U V two mid new → Passes U V (one ++ two) old new
passes_then {S} {T} U V [] two old mid new same then = subst (λ (p : Pair S T). Passes U V two p new) same then
passes_then U V (step ∷ one) two old mid new passes then = (passes.0, passes.1, passes_then U V one two passes.0 mid new passes.2 then)

pub record Follows {S T G H : Type 0} (U : Upper S G) (V : Upper T H) (doings : List Doing) (old : Carriage S T) (one : Coming G) (other : Coming H) (new : Carriage S T) : Type 0 where
  pub both : Both U V new
  pub before_one : Coming G
  pub before_other : Coming H
  pub passes : Passes U V (all_steps doings) (finished U V old before_one before_other) (finished U V new one other)

pub follows :
    {S T G H : Type 0} (U : Upper S G) (V : Upper T H) (doings : List Doing) (old : Carriage S T) (one : Coming G) (other : Coming H) (new : Carriage S T)
    → Carries U V doings old new → Both U V old → Follows U V doings old one other new
follows U V [] old one other new same both = rw same (record { both = both; before_one = one; before_other = other; passes = refl })
follows {S} {T} U V (doing ∷ doings) old one other new (mid, does, runs) both =
    -- what is true of both first, then the steps, with what is to come behind this one
    let now = advances U V doing old nothing_more nothing_more mid does both in
    let then = follows U V doings mid one other new runs now.both in
    let first = advances U V doing old then.before_one then.before_other mid does both in
    record {
      both = then.both;
      before_one = first.before_one;
      before_other = first.before_other;
      passes = passes_then U V (steps_of doing) (all_steps doings) (finished U V old first.before_one first.before_other) (finished U V mid then.before_one then.before_other) (finished U V new one other) first.passes then.passes;
    }

words_here : (doing : Doing) → words_of (steps_of doing) ≡ words_at doing
words_here (Moved side motion) = refl
words_here (Deeds word) = refl
words_here (Misses word) = refl
words_here Rises = refl
words_here (Falls by) = refl
words_here (Opens name) = refl
words_here (Closes outcome) = refl

pub same_words : SameWords
same_words [] = refl
same_words (doing ∷ doings) = flat_map-append words_in (steps_of doing) (all_steps doings) ∙ rw (words_here doing, same_words doings) refl

first_sound : {S G : Type 0} (U : Upper S G) → Sound U false (first_end U)
first_sound U = record { hearing = inl refl; off_waiting = λ off. refl; off_coming = λ off. refl; off_queue = λ off. refl; owed_queue = λ some. refl; chain = refl }

pub first_both : {S T G H : Type 0} (U : Upper S G) (V : Upper T H) (size : ℕ) (names : List (List ℕ)) → Both U V (first_carriage U V size names)
first_both U V size names = record { a = first_sound U; b = first_sound V }

first_events : {S G : Type 0} (U : Upper S G) (coming : Coming G) → comes_to U coming (first_end U) ≡ plain (first_end U)
first_events U coming = refl

pub carried_is_turned : {S T G H : Type 0} (U : Upper S G) (V : Upper T H) → CarriedIsTurned U V
carried_is_turned {S} {T} U V size names doings c runs rest =
    let all = follows U V doings (first_carriage U V size names) nothing_more nothing_more c runs (first_both U V size names) in
    let still = idle_both U V c nothing_more nothing_more rest.idle_a rest.idle_b all.both in (
      as_it_is c,
      subst (λ (p : Pair S T). Passes U V (all_steps doings) (first_pair U V size names) p) still all.passes,
      record { size_is = refl; link_is = refl; served_is = refl; pushes_are = refl; upper_a = refl; upper_b = refl; queue_a = refl; queue_b = refl; talk_a = refl; talk_b = refl; whole_a = refl; whole_b = refl },
    )

-- ---- runs that broke off

front_more : {X : Type 0} (front all more : List X) → IsFront front all → IsFront front (all ++ more)
front_more front all more (rest, is) = (rest ++ more, rw is (append_assoc front rest more))

breathes_front : {S G : Type 0} (U : Upper S G) (breath : Breath) (waiting : List (List ℕ)) (front : List Talk) (p : Party S) → IsFront front p.talk → IsFront front (breathes U breath waiting p).talk
breathes_front U Whole waiting front p is = front_more front p.talk (map Said (waiting ++ (all_said U p.upper).said)) is
breathes_front U (Short moved asked) waiting front p is = front_more front p.talk _ is

speaks_front : {S G : Type 0} (U : Upper S G) (linked : Bool) (breath : Breath) (waiting : List (List ℕ)) (front : List Talk) (p : Party S) → IsFront front p.talk → IsFront front (speaks_on U linked breath waiting p).talk
speaks_front U true breath waiting front p is = breathes_front U breath waiting front p is
speaks_front U false breath waiting front p is = is

event_front : {S G : Type 0} (U : Upper S G) (event : LinkEvent) (r : Reaction G) (front : List Talk) (p : Party S) → IsFront front p.talk → IsFront front (event_heard U event r p).talk
event_front U Up r front p is = speaks_front U true r.breath [] front (notes U r.answers (Linked Up) p) (front_more front p.talk (Told (Linked Up) ∷ []) is)
event_front U (Down reason) r front p is = front_more front p.talk (Told (Linked (Down reason)) ∷ []) is

events_front : {S G : Type 0} (U : Upper S G) (events : List LinkEvent) (reactions : List (Reaction G)) (front : List Talk) (p : Party S) → IsFront front p.talk → IsFront front (events_heard U events reactions p).talk
events_front U [] reactions front p is = is
events_front U (event ∷ events) reactions front p is =
    events_front U events (later reactions) front (event_heard U event (first_reaction reactions) p) (event_front U event (first_reaction reactions) front p is)

ending_front : {S G : Type 0} (U : Upper S G) (linked : Bool) (breath : Breath) (r : Reaction G) (coming waiting : List (List ℕ)) (front : List Talk) (p : Party S) → IsFront front p.talk → IsFront front (ending U linked breath r coming waiting p).talk
ending_front U linked breath r [] waiting front p is = speaks_front U linked breath waiting front p is
ending_front U linked breath r (pdu ∷ pdus) waiting front p is = speaks_front U linked r.breath [] front (notes U r.answers (Heard pdu) p) (front_more front p.talk (Told (Heard pdu) ∷ []) is)

comes_front : {S G : Type 0} (U : Upper S G) (coming : Coming G) (e : End S) → IsFront e.talk (comes_to U coming e).talk
comes_front U coming e =
    events_front U e.owed (behind e.coming coming.reactions) e.talk (ending U e.linked coming.breath (first_reaction coming.reactions) e.coming e.waiting (plain e))
    (ending_front U e.linked coming.breath (first_reaction coming.reactions) e.coming e.waiting e.talk (plain e) ([], sym (append-nil e.talk)))

pub broken_goes_on : {S T G H : Type 0} (U : Upper S G) (V : Upper T H) → BrokenGoesOn U V
broken_goes_on U V size names doings c runs =
    let all = follows U V doings (first_carriage U V size names) nothing_more nothing_more c runs (first_both U V size names) in
    record { pair = finished U V c nothing_more nothing_more; passes = all.passes; front_a = comes_front U nothing_more c.a; front_b = comes_front V nothing_more c.b }

-- ---- a host hears where it is quiet

pub hears_when_quiet : {S T G H : Type 0} (U : Upper S G) (V : Upper T H) → HearsWhenQuiet U V
hears_when_quiet U V size names doings pdu old new runs =
    let both = (follows U V doings (first_carriage U V size names) nothing_more nothing_more old runs (first_both U V size names)).both in (
      (λ does. quiet_there U old.a pdu [] both.a.hearing does.1.first),
      (λ does. quiet_there V old.b pdu [] both.b.hearing does.1.first),
    )
