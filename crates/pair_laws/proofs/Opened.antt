-- What host a was told to push are the first objects of the scenario.
use Rattle.std.proofs.Common.{◌≡◌, ℕ, ◌+◌, Bool, true, false, Option, Some, None, List, [], ◌∷◌, ◌++◌, length, refl, sym, ap, subst, ◌∙◌, arith, append_assoc, length-append, if◌then◌else◌}
use Rattle.std.specs.Prelude.{slice_get}
use Rattle.scenario_laws.specs.push_terms.specs.declared.word.Side.TheVariants.{A, B}
use Rattle.scenario_laws.specs.push_terms.specs.declared.word.Way.TheVariants.{Ab, Ba}
use Rattle.scenario_laws.specs.radio_model.specs.declared.deed.Deed.{Deed}
use Rattle.scenario_laws.specs.radio_model.specs.declared.deed.Deed.TheVariants.{Nothing, Meets, Fires, FiresBoth, Breaks, Cancels}
use Rattle.scenario_laws.specs.world_model.specs.Machines.{Heard, TimerFired, Cancelled, Opening, Upper}
use Rattle.scenario_laws.specs.world_model.specs.Pushes.{next_name}
use Rattle.scenario_laws.specs.world_model.specs.Talks.{Told, Said, Met, Done}
use Rattle.scenario_laws.specs.world_model.specs.Carriages.{End, Carriage, Motion, Saying, Departure, Arrival, Telling, DoesMotion, Doing, Moved, Deeds, Misses, Rises, Falls, Opens, Closes, ActsOn, finds, IsDone, first_carriage, told}
use Rattle.scenario_laws.specs.turn_laws.proofs.Recounting.{CarriesSo}
use Rattle.pair_laws.proofs.Openings.{names_talked, same_names, news_names, turned_names}

-- ---- one host

module _ {S G : Type 0} (U : Upper S G) where
  motion_names : (motion : Motion) (old new : End S) → DoesMotion U motion old new → names_talked old.talk ≡ names_talked new.talk
  motion_names (Saying pdu) old new does = ap (λ (e : End S). names_talked e.talk) (sym does.is)
  motion_names (Departure pdu) old new does = same_names old.talk (Said pdu) refl ∙ ap (λ (e : End S). names_talked e.talk) (sym does.is)
  motion_names (Arrival pdu) old new does = same_names old.talk (Told (Heard pdu)) refl ∙ ap (λ (e : End S). names_talked e.talk) (sym does.is)
  motion_names (Telling event) old new does = turned_names old.talk old.waiting event ∙ ap (λ (e : End S). names_talked e.talk) (sym does.is)

  fired_names : (armed : Bool) (answers : List G) (e : End S) → names_talked e.talk ≡ names_talked (if armed then told U answers TimerFired e else e).talk
  fired_names true answers e = same_names e.talk (Told TimerFired) refl
  fired_names false answers e = refl

-- ---- the next object

next_is : (going : Bool) (found : Option (List ℕ)) (name : List ℕ) → (if going then None else found) ≡ Some name → found ≡ Some name
next_is true found name is = cc
next_is false found name is = is

-- behind so many stands the next one
record Splits (later : List (List ℕ)) (name : List ℕ) : Type 0 where
  rest : List (List ℕ)
  is : later ≡ name ∷ rest

splits : (ahead later : List (List ℕ)) (name : List ℕ) → slice_get (ahead ++ later) (length ahead) ≡ Some name → Splits later name
splits [] [] name is = cc
splits [] (first ∷ rest) name is = let same : first ≡ name = cc in record { rest = rest; is = ap (λ (n : List ℕ). n ∷ rest) same }
splits (one ∷ ahead) later name is = splits ahead later name is

-- ---- both

module _ {S T G H : Type 0} (U : Upper S G) (V : Upper T H) (names : List (List ℕ)) where
  pub record Opened (c : Carriage S T) : Type 0 where
    pub later : List (List ℕ)
    pub names_are : names ≡ names_talked c.a.talk ++ later
    pub begun : c.pushes.begun ≡ length (names_talked c.a.talk)
    pub stay : c.pushes.names ≡ names

  abbrev said_in : Carriage S T → List (List ℕ)
  said_in c = names_talked c.a.talk

  kept : (old new : Carriage S T) → said_in old ≡ said_in new → old.pushes.names ≡ new.pushes.names → old.pushes.begun ≡ new.pushes.begun → Opened old → Opened new
  kept old new same stays counts o = record {
    later = o.later;
    names_are = o.names_are ∙ ap (λ (ns : List (List ℕ)). ns ++ o.later) same;
    begun = sym counts ∙ (o.begun ∙ ap length same);
    stay = sym stays ∙ o.stay;
  }

  -- nothing of its pushes changes
  unchanged : (old mid new : Carriage S T) → new ≡ mid → said_in old ≡ said_in mid → old.pushes.names ≡ mid.pushes.names → old.pushes.begun ≡ mid.pushes.begun → Opened old → Opened new
  unchanged old mid new is same stays counts o = subst Opened (sym is) (kept old mid same stays counts o)

  acts_opened : (deed : Deed) (old new : Carriage S T) → ActsOn U V deed old new → Opened old → Opened new
  acts_opened Nothing old new acts o = absurd acts
  acts_opened (Meets Ab fate) old new (e, f, meets, is) o =
      unchanged old _ new is (same_names old.a.talk (Met fate meets.checked) refl ∙ ap (λ (x : End S). names_talked x.talk) (sym meets.one_is)) refl refl o
  acts_opened (Meets Ba fate) old new (e, f, meets, is) o = unchanged old _ new is (ap (λ (x : End S). names_talked x.talk) (sym meets.other_is)) refl refl o
  acts_opened (Fires A) old new (armed, g, is) o = unchanged old _ new is (same_names old.a.talk (Told TimerFired) refl) refl refl o
  acts_opened (Fires B) old new (armed, h, is) o = unchanged old _ new is refl refl refl o
  acts_opened FiresBoth old new (armed, g, h, is) o = unchanged old _ new is (fired_names U (U.armed old.a.upper) g old.a) refl refl o
  acts_opened Breaks old new is o = unchanged old _ new is refl refl refl o
  acts_opened Cancels old new (may, g, is) o = unchanged old _ new is (same_names old.a.talk (Told Cancelled) refl) refl refl o

  -- a push begins
  begins : (old : Carriage S T) (name : List ℕ) (g : List G) → next_name old.pushes ≡ Some name → Opened old → (let c : Carriage S T = record old { pushes = record old.pushes { begun = old.pushes.begun + 1; going = true }; a = told U g (Opening name) old.a } in Opened c)
  begins old name g next o =
      let said = said_in old in
      let found : slice_get (said ++ o.later) (length said) ≡ Some name =
      sym (ap (λ (ns : List (List ℕ)). slice_get ns (length said)) (o.stay ∙ o.names_are)) ∙ (sym (ap (slice_get old.pushes.names) o.begun) ∙ next_is old.pushes.going (slice_get old.pushes.names old.pushes.begun) name next) in
      let cut = splits said o.later name found in
      let now = news_names old.a.talk (Opening name) (name ∷ []) refl in
      let longer : length (said ++ name ∷ []) ≡ length said + 1 = length-append said (name ∷ []) in
      let count = o.begun in
      record {
        later = cut.rest;
        names_are = o.names_are ∙ (ap (λ (ns : List (List ℕ)). said ++ ns) cut.is ∙ (sym (append_assoc said (name ∷ []) cut.rest) ∙ ap (λ (ns : List (List ℕ)). ns ++ cut.rest) now));
        begun = (let counts : old.pushes.begun + 1 ≡ length (said ++ name ∷ []) = omega (arith, count, longer) in counts) ∙ ap length now;
        stay = o.stay;
      }

  done_opened : (doing : Doing) (old new : Carriage S T) → IsDone U V doing old new → Opened old → Opened new
  done_opened (Moved A motion) old new (e, does, is) o = unchanged old _ new is (motion_names U motion old.a e does) refl refl o
  done_opened (Moved B motion) old new (f, does, is) o = unchanged old _ new is refl refl refl o
  done_opened (Deeds word) old new (rest, acts) o = acts_opened (finds word old) old new acts o
  done_opened (Misses word) old new (rest, none, is) o = subst Opened (sym is) o
  done_opened Rises old new (down, idle, going, wants, is) o = unchanged old _ new is refl refl refl o
  done_opened (Falls A) old new (up, idle, leaves, is) o = unchanged old _ new is refl refl refl o
  done_opened (Falls B) old new (up, idle, leaves, is) o = unchanged old _ new is refl refl refl o
  done_opened (Opens name) old new (down, idle, quiet, next, g, is) o = subst Opened (sym is) (begins old name g next o)
  done_opened (Closes outcome) old new (down, idle_a, idle_b, going, quiet, came, is) o = unchanged old _ new is (same_names old.a.talk (Done outcome) refl) refl refl o

  carried_opened : (Ready : Carriage S T → Type 0) (doings : List Doing) (old new : Carriage S T) → CarriesSo U V Ready doings old new → Opened old → Opened new
  carried_opened Ready [] old new is o = subst Opened (sym is) o
  carried_opened Ready (doing ∷ doings) old new (mid, (does, ready), runs) o = carried_opened Ready doings mid new runs (done_opened doing old mid does o)

  -- So it is at each moment of a run.
  pub all-opened : (size : ℕ) (Ready : Carriage S T → Type 0) (doings : List Doing) (c : Carriage S T) → CarriesSo U V Ready doings (first_carriage U V size names) c → Opened c
  all-opened size Ready doings c runs = carried_opened Ready doings (first_carriage U V size names) c runs (record { later = names; names_are = refl; begun = refl; stay = refl })
