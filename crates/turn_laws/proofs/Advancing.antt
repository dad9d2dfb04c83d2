-- Each doing keeps what is true of both hosts, and is no step of the world of turns or one step.
use Rattle.std.proofs.Common.{ℕ, length, Option, if◌then◌else◌, ◌≡◌, Bool, true, false, List, [], ◌∷◌, ◌++◌, Some, None, refl, ap, sym, ◌∙◌, subst}
use Rattle.world_model.specs.push_terms.specs.declared.word.Side.TheVariants.{A, B}
use Rattle.world_model.specs.push_terms.specs.declared.word.Way.{Way}
use Rattle.world_model.specs.push_terms.specs.declared.word.Way.TheVariants.{Ab, Ba}
use Rattle.world_model.specs.push_terms.specs.declared.word.Word.{Word}
use Rattle.world_model.specs.push_terms.specs.declared.word.Word.TheVariants.{Pass, Lose, Repeat, Damage, Cut, Timer, Drop, Cancel}
use Rattle.world_model.specs.capture.specs.Frames.{way_served}
use Rattle.world_model.specs.radio_model.specs.declared.fate.Fate.{Fate}
use Rattle.world_model.specs.radio_model.specs.declared.fate.Fate.TheVariants.{Delivered, Lost, Repeated, CutOff, Changed}
use Rattle.world_model.specs.radio_model.specs.declared.deed.Deed.{Deed}
use Rattle.world_model.specs.radio_model.specs.declared.deed.Deed.TheVariants.{Nothing, Meets, Fires, FiresBoth, Breaks, Cancels}
use Rattle.world_model.specs.radio_model.specs.Fates.{first_can_meet}
use Rattle.world_model.specs.radio_model.specs.Words.{first_meets, meets_on, passing, deed_of}
use Rattle.world_model.specs.Machines.{Up, Down, TimerFired, Cancelled, Opening, Upper}
use Rattle.world_model.specs.Pushes.{one_begun, one_ended}
use Rattle.world_model.specs.Talks.{Done}
use Rattle.world_model.specs.Turns.{Party, Pair, hears, event_heard, IsCalmPair, Step, Turn, Idle, Rise, Fall, Began, Ended, Acts, Moves, Passes}
use Rattle.world_model.specs.Carriages.{End, Carriage, Doing, Moved, Deeds, Misses, Rises, Falls, Opens, Closes, steps_of, IsIdle, IsAtRest, ActsOn, finds, IsDone, told}
use Rattle.turn_laws.proofs.Finishing.{plain, Coming, comes_to}
use Rattle.turn_laws.proofs.Standing.{Sound, motion_keeps, idle_comes}
use Rattle.turn_laws.proofs.Facing.{told_sound, told_comes, reaction_of, fired_sound, fired_comes, meets_hands, owes}

pub record Both {S T G H : Type 0} (U : Upper S G) (V : Upper T H) (c : Carriage S T) : Type 0 where
  pub a : Sound U c.link c.a
  pub b : Sound V c.link c.b

abbrev pub around : {S T : Type 0} → Carriage S T → Party S → Party T → Pair S T
around c p q = record { size = c.size; link = c.link; served = c.served; pushes = c.pushes; a = p; b = q }

-- what a carriage comes to once all that is on its way has moved, given what is still to come
abbrev pub finished : {S T G H : Type 0} → Upper S G → Upper T H → Carriage S T → Coming G → Coming H → Pair S T
finished U V c one other = around c (comes_to U one c.a) (comes_to V other c.b)

abbrev pub as_it_is : {S T : Type 0} → Carriage S T → Pair S T
as_it_is c = around c (plain c.a) (plain c.b)

pub record Advances {S T G H : Type 0} (U : Upper S G) (V : Upper T H) (doing : Doing) (old : Carriage S T) (one : Coming G) (other : Coming H) (new : Carriage S T) : Type 0 where
  pub both : Both U V new
  -- what is to come before it
  pub before_one : Coming G
  pub before_other : Coming H
  pub passes : Passes U V (steps_of doing) (finished U V old before_one before_other) (finished U V new one other)

pub same_around : {S T : Type 0} (c : Carriage S T) {p q : Party S} {k l : Party T} → p ≡ q → k ≡ l → around c p k ≡ around c q l
same_around c e f = λ i. around c (e i) (f i)

one_step : {S T G H : Type 0} (U : Upper S G) (V : Upper T H) (step : Step) (old mid new : Pair S T) → old ≡ mid → Moves U V step mid new → Passes U V (step ∷ []) old new
one_step {S} {T} U V step old mid new same moves = (new, subst (λ (pair : Pair S T). Moves U V step pair new) (sym same) moves, refl)

-- both hosts are idle
pub idle_both : {S T G H : Type 0} (U : Upper S G) (V : Upper T H) (c : Carriage S T) (one : Coming G) (other : Coming H) → IsIdle U c.a → IsIdle V c.b → Both U V c → finished U V c one other ≡ as_it_is c
idle_both U V c one other a b both = same_around c (idle_comes U c.link one c.a a both.a) (idle_comes V c.link other c.b b both.b)

-- ---- words

pub record Deeded {S T G H : Type 0} (U : Upper S G) (V : Upper T H) (deed : Deed) (old : Carriage S T) (one : Coming G) (other : Coming H) (new : Carriage S T) : Type 0 where
  pub both : Both U V new
  pub acts : Acts U V deed (as_it_is old) (finished U V new one other)

-- a frame is in the air of a link that is up
linked_by_frame : {S G : Type 0} (U : Upper S G) (link : Bool) (e : End S) → e.linked ≡ true → e.linked ≡ link → link ≡ true
linked_by_frame U link e on same = sym same ∙ on

deeds :
    {S T G H : Type 0} (U : Upper S G) (V : Upper T H) (deed : Deed) (old : Carriage S T) (one : Coming G) (other : Coming H) (new : Carriage S T)
    → (deed ≡ Breaks → old.link ≡ true) → IsAtRest U V old → ActsOn U V deed old new → Both U V old → Deeded U V deed old one other new
deeds U V Nothing old one other new breaks rest acts both = absurd acts
deeds U V (Meets Ab fate) old one other new breaks rest (e, f, meets, same) both =
    let h = meets_hands U V old.size old.link one other fate old.a old.b e f rest.idle_a rest.idle_b both.a both.b meets in
    rw same (record { both = record { a = h.sound_one; b = h.sound_other }; acts = (_, _, h.hands, refl) })
deeds U V (Meets Ba fate) old one other new breaks rest (e, f, meets, same) both =
    let h = meets_hands V U old.size old.link other one fate old.b old.a f e rest.idle_b rest.idle_a both.b both.a meets in
    rw same (record { both = record { a = h.sound_other; b = h.sound_one }; acts = (_, _, h.hands, refl) })
deeds U V (Fires A) old one other new breaks rest (armed, g, same) both =
    rw same (record {
      both = record { a = told_sound U old.link g TimerFired old.a rest.idle_a both.a; b = both.b };
      acts = (armed, reaction_of g one, same_around old (told_comes U old.link one g TimerFired old.a rest.idle_a both.a) (idle_comes V old.link other old.b rest.idle_b both.b));
    })
deeds U V (Fires B) old one other new breaks rest (armed, h, same) both =
    rw same (record {
      both = record { a = both.a; b = told_sound V old.link h TimerFired old.b rest.idle_b both.b };
      acts = (armed, reaction_of h other, same_around old (idle_comes U old.link one old.a rest.idle_a both.a) (told_comes V old.link other h TimerFired old.b rest.idle_b both.b));
    })
deeds U V FiresBoth old one other new breaks rest (armed, g, h, same) both =
    rw same (record {
      both = record { a = fired_sound U old.link g old.a rest.idle_a both.a; b = fired_sound V old.link h old.b rest.idle_b both.b };
      acts = (armed, reaction_of g one, reaction_of h other, same_around old (fired_comes U old.link one g old.a rest.idle_a both.a) (fired_comes V old.link other h old.b rest.idle_b both.b));
    })
deeds {S} {T} U V Breaks old one other new breaks rest same both =
    let up = breaks refl in
    let a = owes U one (Down 0x08) old.a (subst (λ (l : Bool). Sound U l old.a) up both.a) in
    let b = owes V other (Down 0x08) old.b (subst (λ (l : Bool). Sound V l old.b) up both.b) in
    rw same (record {
      both = record { a = a.sound; b = b.sound };
      acts = (
        a.reaction,
        b.reaction,
        same_around (record old { link = false })
            (a.comes ∙ ap (λ (p : Party S). event_heard U (Down 0x08) a.reaction p) (idle_comes U old.link one old.a rest.idle_a both.a))
            (b.comes ∙ ap (λ (q : Party T). event_heard V (Down 0x08) b.reaction q) (idle_comes V old.link other old.b rest.idle_b both.b)),
      );
    })
deeds U V Cancels old one other new breaks rest (may, g, same) both =
    rw same (record {
      both = record { a = told_sound U old.link g Cancelled old.a rest.idle_a both.a; b = both.b };
      acts = (may, reaction_of g one, same_around old (told_comes U old.link one g Cancelled old.a rest.idle_a both.a) (idle_comes V old.link other old.b rest.idle_b both.b));
    })

-- only a link that is up breaks
meets_never : (way : Way) (fate : Fate) (can : Bool) (P : Type 0) → (if can then Meets way fate else Nothing) ≡ Breaks → P
meets_never way fate true P is = absurd cc
meets_never way fate false P is = absurd cc

first_never : (way : Way) (fate : Fate) (frames others : List (List ℕ)) (P : Type 0) → first_meets way fate frames others ≡ Breaks → P
first_never way fate frames others P is = meets_never way fate (first_can_meet fate frames (length others)) P is

on_never : (way : Way) (fate : Fate) (ab ba : List (List ℕ)) (P : Type 0) → meets_on way fate ab ba ≡ Breaks → P
on_never Ab fate ab ba P is = first_never Ab fate ab ba P is
on_never Ba fate ab ba P is = first_never Ba fate ba ab P is

passing_never : (way : Option Way) (ab ba : List (List ℕ)) (P : Type 0) → passing way ab ba ≡ Breaks → P
passing_never None ab ba P is = absurd cc
passing_never (Some way) ab ba P is = on_never way Delivered ab ba P is

drops_linked : (linked : Bool) → (if linked then Breaks else Nothing) ≡ Breaks → linked ≡ true
drops_linked true is = refl
drops_linked false is = cc

pub breaks_linked : (word : Word) (served : Option Way) (ab ba : List (List ℕ)) (linked : Bool) → deed_of word served ab ba linked ≡ Breaks → linked ≡ true
breaks_linked Pass served ab ba linked is = passing_never (way_served served ab ba) ab ba (linked ≡ true) is
breaks_linked (Lose way) served ab ba linked is = on_never way Lost ab ba (linked ≡ true) is
breaks_linked (Repeat way) served ab ba linked is = on_never way Repeated ab ba (linked ≡ true) is
breaks_linked (Damage way at mask) served ab ba linked is = on_never way (Changed at mask) ab ba (linked ≡ true) is
breaks_linked (Cut way packets) served ab ba linked is = on_never way (CutOff packets) ab ba (linked ≡ true) is
breaks_linked (Timer side) served ab ba linked is = absurd cc
breaks_linked Drop served ab ba linked is = drops_linked linked is
breaks_linked Cancel served ab ba linked is = absurd cc

calm_pair : {S T G H : Type 0} (U : Upper S G) (V : Upper T H) (c : Carriage S T) → IsAtRest U V c → IsCalmPair U V (as_it_is c)
calm_pair U V c rest = record { calm = rest.calm; whole_a = refl; whole_b = refl }

-- ---- whatever is done

pub advances :
    {S T G H : Type 0} (U : Upper S G) (V : Upper T H) (doing : Doing) (old : Carriage S T) (one : Coming G) (other : Coming H) (new : Carriage S T)
    → IsDone U V doing old new → Both U V old → Advances U V doing old one other new
advances U V (Moved A motion) old one other new (e, does, same) both =
    let keeps = motion_keeps U old.link one motion old.a e does both.a in
    rw same (record { both = record { a = keeps.sound; b = both.b }; before_one = keeps.before; before_other = other; passes = same_around old keeps.comes refl })
advances U V (Moved B motion) old one other new (f, does, same) both =
    let keeps = motion_keeps V old.link other motion old.b f does both.b in
    rw same (record { both = record { a = both.a; b = keeps.sound }; before_one = one; before_other = keeps.before; passes = same_around old refl keeps.comes })
advances U V (Deeds word) old one other new (rest, acts) both =
    let d = deeds U V (finds word old) old one other new (breaks_linked word old.served old.a.queue old.b.queue old.link) rest acts both in
    record {
      both = d.both;
      before_one = one;
      before_other = other;
      passes = one_step U V (Turn word) _ (as_it_is old) _ (idle_both U V old one other rest.idle_a rest.idle_b both) (calm_pair U V old rest, d.acts);
    }
advances {S} {T} U V (Misses word) old one other new (rest, nothing, same) both =
    rw same (record {
      both = both;
      before_one = one;
      before_other = other;
      passes = one_step U V (Idle word) _ (as_it_is old) _ (idle_both U V old one other rest.idle_a rest.idle_b both)
          (calm_pair U V old rest, nothing, idle_both U V old one other rest.idle_a rest.idle_b both);
    })
advances {S} {T} U V Rises old one other new (down, idle, going, wants, same) both =
    let a = owes U one Up old.a (subst (λ (l : Bool). Sound U l old.a) down both.a) in
    let b = owes V other Up old.b (subst (λ (l : Bool). Sound V l old.b) down both.b) in
    rw same (record {
      both = record { a = a.sound; b = b.sound };
      before_one = one;
      before_other = other;
      passes = one_step U V Rise _ (around old (plain old.a) (comes_to V other old.b)) _ (same_around old (idle_comes U old.link one old.a idle both.a) refl)
          (down, going, wants, a.reaction, b.reaction, same_around (record old { link = true }) (a.comes ∙ ap (λ (p : Party S). event_heard U Up a.reaction p) (idle_comes U old.link one old.a idle both.a)) b.comes);
    })
advances {S} {T} U V (Falls A) old one other new (up, idle, leaves, same) both =
    let a = owes U one (Down 0x16) old.a (subst (λ (l : Bool). Sound U l old.a) up both.a) in
    let b = owes V other (Down 0x13) old.b (subst (λ (l : Bool). Sound V l old.b) up both.b) in
    rw same (record {
      both = record { a = a.sound; b = b.sound };
      before_one = one;
      before_other = other;
      passes = one_step U V (Fall A) _ (around old (plain old.a) (comes_to V other old.b)) _ (same_around old (idle_comes U old.link one old.a idle both.a) refl)
          (up, leaves, refl, a.reaction, b.reaction, same_around (record old { link = false }) (a.comes ∙ ap (λ (p : Party S). event_heard U (Down 0x16) a.reaction p) (idle_comes U old.link one old.a idle both.a)) b.comes);
    })
advances {S} {T} U V (Falls B) old one other new (up, idle, leaves, same) both =
    let a = owes U one (Down 0x13) old.a (subst (λ (l : Bool). Sound U l old.a) up both.a) in
    let b = owes V other (Down 0x16) old.b (subst (λ (l : Bool). Sound V l old.b) up both.b) in
    rw same (record {
      both = record { a = a.sound; b = b.sound };
      before_one = one;
      before_other = other;
      passes = one_step U V (Fall B) _ (around old (comes_to U one old.a) (plain old.b)) _ (same_around old refl (idle_comes V old.link other old.b idle both.b))
          (up, leaves, refl, a.reaction, b.reaction, same_around (record old { link = false }) a.comes (b.comes ∙ ap (λ (q : Party T). event_heard V (Down 0x16) b.reaction q) (idle_comes V old.link other old.b idle both.b)));
    })
advances {S} {T} U V (Opens name) old one other new (down, idle, ready, next, g, same) both =
    let opening = told_comes U old.link one g (Opening name) old.a idle both.a in
    let off = subst (λ (l : Bool). comes_to U one (told U g (Opening name) old.a) ≡ hears U l (reaction_of g one) (Opening name) (plain old.a)) down opening in
    rw same (record {
      both = record { a = told_sound U old.link g (Opening name) old.a idle both.a; b = both.b };
      before_one = one;
      before_other = other;
      passes = one_step U V (Began name) _ (around old (plain old.a) (comes_to V other old.b)) _ (same_around old (idle_comes U old.link one old.a idle both.a) refl)
          (down, ready, next, reaction_of g one, same_around (record old { pushes = one_begun old.pushes }) off refl);
    })
advances {S} {T} U V (Closes outcome) old one other new (down, idle_a, idle_b, going, ready, is, same) both =
    let done : End S = record old.a { talk = old.a.talk ++ Done outcome ∷ [] } in
    let idle_done : IsIdle U done = record { none_owed = idle_a.none_owed; none_comes = idle_a.none_comes; said_all = idle_a.said_all } in
    let sound_done : Sound U old.link done = record { hearing = both.a.hearing; off_waiting = both.a.off_waiting; off_coming = both.a.off_coming; off_queue = both.a.off_queue; owed_queue = both.a.owed_queue; chain = both.a.chain } in
    rw same (record {
      both = record { a = sound_done; b = both.b };
      before_one = one;
      before_other = other;
      passes = one_step U V (Ended outcome) _ (as_it_is old) _ (idle_both U V old one other idle_a idle_b both)
          (down, going, ready, is, same_around (record old { pushes = one_ended outcome old.pushes }) (idle_comes U old.link one done idle_done sound_done) (idle_comes V old.link other old.b idle_b both.b));
    })
