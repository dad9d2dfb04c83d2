-- Of two hosts that hear what becomes of their links the client is at most one event behind: the other does not leave a link of which the
-- client has not heard.
use Rattle.std.proofs.Common.{◌≡◌, ℕ, Bool, true, false, List, [], ◌∷◌, ◌++◌, Some, refl, sym, ap, subst, ◌∙◌, if◌then◌else◌}
use Rattle.scenario_laws.specs.push_terms.specs.declared.word.Side.TheVariants.{A, B}
use Rattle.scenario_laws.specs.push_terms.specs.declared.word.Way.TheVariants.{Ab, Ba}
use Rattle.scenario_laws.specs.radio_model.specs.declared.deed.Deed.{Deed}
use Rattle.scenario_laws.specs.radio_model.specs.declared.deed.Deed.TheVariants.{Nothing, Meets, Fires, FiresBoth, Breaks, Cancels}
use Rattle.scenario_laws.specs.world_model.specs.Machines.{LinkEvent, Up, Down, Linked, TimerFired, Upper}
use Rattle.scenario_laws.specs.world_model.specs.Carriages.{End, Carriage, Motion, Saying, Departure, Arrival, Telling, DoesMotion, Doing, Moved, Deeds, Misses, Rises, Falls, Opens, Closes, ActsOn, finds, told, IsDone, first_carriage}
use Rattle.scenario_laws.specs.host_model.specs.Hosts.{Host}
use Rattle.scenario_laws.specs.turn_laws.proofs.Advancing.{Both}
use Rattle.scenario_laws.specs.turn_laws.proofs.Standing.{Sound, Chain}

-- ---- what is owed

-- at most one event
abbrev pub IsShort : List LinkEvent → Type 0
IsShort [] = Unit {0}
IsShort (event ∷ []) = Unit {0}
IsShort (event ∷ other ∷ more) = ⊥

-- where a host is to hear first that a link came up, it knows of none
up_off : {S G : Type 0} (U : Upper S G) (link : Bool) (e : End S) (more : List LinkEvent) → Sound U link e → e.owed ≡ Up ∷ more → e.linked ≡ false
up_off U link e more sound is = (subst (λ (l : List LinkEvent). Chain l e.linked link) is sound.chain).0

short_more : (event : LinkEvent) (more owed : List LinkEvent) → owed ≡ event ∷ more → IsShort owed → more ≡ []
short_more event [] owed is short = refl
short_more event (other ∷ more) owed is short = absurd (subst IsShort is short)

pub off_on : {X : Type 0} (b : Bool) → b ≡ true → b ≡ false → X
off_on b on off = absurd (let never : true ≡ false = sym on ∙ off in cc)

-- the last that is owed is that the link came up, where one is up
up_last : (event : LinkEvent) (linked link : Bool) → Chain (event ∷ []) linked link → link ≡ true → event ≡ Up
up_last Up linked link chain up = refl
up_last (Down reason) linked link chain up = off_on link up (sym chain.1)

none_up : {X : Type 0} (more : List LinkEvent) → [] ≡ Up ∷ more → X
none_up more is = cc

down_up : {X : Type 0} (reason : ℕ) (more : List LinkEvent) → Down reason ∷ [] ≡ Up ∷ more → X
down_up reason more is = cc

never_none : {X : Type 0} (owed : List LinkEvent) (event : LinkEvent) → owed ++ event ∷ [] ≡ [] → X
never_none [] event is = cc
never_none (one ∷ owed) event is = cc

-- ---- both

-- no more is to be told to the profile of a host
abbrev pub HasToldAll : {P : Type 0} → Host P → Type 0
HasToldAll host = host.channels.events ≡ []

module _ {S T G H : Type 0} (U : Upper S G) (V : Upper T H) (E F : T → Type 0) where
  -- A server that heard of its link and of nothing more says nothing, and does not leave.
  pub record Awaits : Type 0 where
    pub rises : (gifts : List H) (t : T) → E t → F (V.hear gifts (Linked Up) t)
    pub says : (t : T) (pdu : List ℕ) (after : T) → F t → V.next t ≡ Some (pdu, after) → ⊥
    pub stays : (t : T) → F t → V.leaves_link t ≡ true → ⊥

  -- The client is owed one event at most; where that is that a link came up it wants one, and the server has done nothing on that.
  pub record Abreast (c : Carriage S T) : Type 0 where
    pub short : IsShort c.a.owed
    pub wants : (more : List LinkEvent) → c.a.owed ≡ Up ∷ more → U.wants_link c.a.upper ≡ true
    pub fresh : (more : List LinkEvent) → c.a.owed ≡ Up ∷ more → c.b.owed ≡ [] → F c.b.upper × (c.b.coming ≡ [])

  -- nothing is owed to the client
  none_owed : (c : Carriage S T) → c.a.owed ≡ [] → Abreast c
  none_owed c none = record {
    short = subst IsShort (sym none) tt;
    wants = λ more is. none_up more (sym none ∙ is);
    fresh = λ more is free. none_up more (sym none ∙ is);
  }

  -- that a link went down
  down_owed : (c : Carriage S T) (reason : ℕ) → c.a.owed ≡ Down reason ∷ [] → Abreast c
  down_owed c reason one = record {
    short = subst IsShort (sym one) tt;
    wants = λ more is. down_up reason more (sym one ∙ is);
    fresh = λ more is free. down_up reason more (sym one ∙ is);
  }

  falls_owed : (c : Carriage S T) (owed : List LinkEvent) (reason : ℕ) → owed ≡ [] → c.a.owed ≡ owed ++ Down reason ∷ [] → Abreast c
  falls_owed c owed reason none is = down_owed c reason (is ∙ ap (λ (l : List LinkEvent). l ++ Down reason ∷ []) none)

  -- ---- motions

  motion_a : (motion : Motion) (old : Carriage S T) (e : End S) → DoesMotion U motion old.a e → Both U V old → Abreast old → (let new : Carriage S T = record old { a = e } in Abreast new)
  motion_a (Saying pdu) old e does both now =
      rw does.is (record {
        short = now.short;
        wants = λ more is. off_on old.a.linked does.on (up_off U old.link old.a more both.a is);
        fresh = now.fresh;
      })
  motion_a (Departure pdu) old e does both now = rw does.is (record { short = now.short; wants = now.wants; fresh = now.fresh })
  motion_a (Arrival pdu) old e does both now =
      rw does.is (record {
        short = now.short;
        wants = λ more is. let none : pdu ∷ [] ≡ [] = sym does.first ∙ both.a.off_coming (up_off U old.link old.a more both.a is) in cc;
        fresh = now.fresh;
      })
  motion_a (Telling event) old e does both now =
      none_owed _ (ap (λ (x : End S). x.owed) does.is ∙ short_more event does.more old.a.owed does.first now.short)

  motion_b : (motion : Motion) (old : Carriage S T) (f : End T) → DoesMotion V motion old.b f → Awaits → E old.b.upper → Both U V old → Abreast old → (let new : Carriage S T = record old { b = f } in Abreast new)
  motion_b (Saying pdu) old f does awaits told both now =
      rw does.is (record {
        short = now.short;
        wants = now.wants;
        fresh = λ more is free. absurd (awaits.says old.b.upper pdu does.after (now.fresh more is free).0 does.next);
      })
  motion_b (Departure pdu) old f does awaits told both now = rw does.is (record { short = now.short; wants = now.wants; fresh = now.fresh })
  motion_b (Arrival pdu) old f does awaits told both now =
      rw does.is (record {
        short = now.short;
        wants = now.wants;
        fresh = λ more is free. let none : pdu ∷ [] ≡ [] = sym does.first ∙ (now.fresh more is free).1 in cc;
      })
  motion_b (Telling event) old f does awaits told both now =
      rw does.is (record {
        short = now.short;
        wants = now.wants;
        fresh = λ more is free.
            let last : more ≡ [] = short_more Up more old.a.owed is now.short in
            let up : true ≡ old.link = (subst (λ (l : List LinkEvent). Chain l old.a.linked old.link) (is ∙ ap (λ (l : List LinkEvent). Up ∷ l) last) both.a.chain).1 in
            let one : old.b.owed ≡ event ∷ [] = does.first ∙ ap (λ (l : List LinkEvent). event ∷ l) free in
            let rose : event ≡ Up = up_last event old.b.linked old.link (subst (λ (l : List LinkEvent). Chain l old.b.linked old.link) one both.b.chain) (sym up) in
            (subst (λ (event' : LinkEvent). F (V.hear does.answers (Linked event') old.b.upper)) (sym rose) (awaits.rises does.answers old.b.upper told), does.none_comes);
      })

  -- ---- words

  fired_owed : (answers : List G) (armed : Bool) (e : End S) → (if armed then told U answers TimerFired e else e).owed ≡ e.owed
  fired_owed answers true e = refl
  fired_owed answers false e = refl

  deed_abreast : (deed : Deed) (old new : Carriage S T) → old.a.owed ≡ [] → ActsOn U V deed old new → Abreast new
  deed_abreast Nothing old new none acts = absurd acts
  deed_abreast (Meets Ab fate) old new none (e, f, meets, same) = none_owed new (ap (λ (c : Carriage S T). c.a.owed) same ∙ (ap (λ (x : End S). x.owed) meets.one_is ∙ none))
  deed_abreast (Meets Ba fate) old new none (e, f, meets, same) = none_owed new (ap (λ (c : Carriage S T). c.a.owed) same ∙ (ap (λ (x : End S). x.owed) meets.other_is ∙ none))
  deed_abreast (Fires A) old new none (armed, g, same) = none_owed new (ap (λ (c : Carriage S T). c.a.owed) same ∙ none)
  deed_abreast (Fires B) old new none (armed, h, same) = none_owed new (ap (λ (c : Carriage S T). c.a.owed) same ∙ none)
  deed_abreast FiresBoth old new none (armed, g, h, same) = none_owed new (ap (λ (c : Carriage S T). c.a.owed) same ∙ (fired_owed g (U.armed old.a.upper) old.a ∙ none))
  deed_abreast Breaks old new none same = falls_owed new old.a.owed 0x08 none (ap (λ (c : Carriage S T). c.a.owed) same)
  deed_abreast Cancels old new none (may, g, same) = none_owed new (ap (λ (c : Carriage S T). c.a.owed) same ∙ none)

  -- ---- all that happens

  -- the server leaves only a link of which the client has heard
  leaves_owed : (old : Carriage S T) (owed : List LinkEvent) → old.a.owed ≡ owed → old.link ≡ true → old.b.owed ≡ [] → V.leaves_link old.b.upper ≡ true → Awaits → Both U V old → Abreast old → owed ≡ []
  leaves_owed old [] is up free leaves awaits both now = refl
  leaves_owed old (Up ∷ more) is up free leaves awaits both now = absurd (awaits.stays old.b.upper (now.fresh more is free).0 leaves)
  leaves_owed old (Down reason ∷ more) is up free leaves awaits both now =
      let last : more ≡ [] = short_more (Down reason) more old.a.owed is now.short in
      let down : false ≡ old.link = (subst (λ (l : List LinkEvent). Chain l old.a.linked old.link) (is ∙ ap (λ (l : List LinkEvent). Down reason ∷ l) last) both.a.chain).1 in
      off_on old.link up (sym down)

  pub done-abreast : (doing : Doing) (old new : Carriage S T) → IsDone U V doing old new → Awaits → E old.b.upper → Both U V old → Abreast old → Abreast new
  done-abreast (Moved A motion) old new (e, does, same) awaits told both now = subst Abreast (sym same) (motion_a motion old e does both now)
  done-abreast (Moved B motion) old new (f, does, same) awaits told both now = subst Abreast (sym same) (motion_b motion old f does awaits told both now)
  done-abreast (Deeds word) old new (rest, acts) awaits told both now = deed_abreast (finds word old) old new rest.idle_a.none_owed acts
  done-abreast (Misses word) old new (rest, nothing, same) awaits told both now = subst Abreast (sym same) now
  done-abreast Rises old new (down, idle, going, wants, same) awaits told both now =
      subst Abreast (sym same)
      (record {
        short = subst (λ (l : List LinkEvent). IsShort (l ++ Up ∷ [])) (sym idle.none_owed) tt;
        wants = λ more is. wants;
        fresh = λ more is free. never_none old.b.owed Up free;
      })
  done-abreast (Falls A) old new (up, idle, leaves, same) awaits told both now = falls_owed new old.a.owed 0x16 idle.none_owed (ap (λ (c : Carriage S T). c.a.owed) same)
  done-abreast (Falls B) old new (up, idle, leaves, same) awaits told both now =
      falls_owed new old.a.owed 0x13 (leaves_owed old old.a.owed refl up idle.none_owed leaves awaits both now) (ap (λ (c : Carriage S T). c.a.owed) same)
  done-abreast (Opens name) old new (down, idle, pushes, next, g, same) awaits told both now = none_owed new (ap (λ (c : Carriage S T). c.a.owed) same ∙ idle.none_owed)
  done-abreast (Closes outcome) old new (down, idle_a, idle_b, going, pushes, is, same) awaits told both now = none_owed new (ap (λ (c : Carriage S T). c.a.owed) same ∙ idle_a.none_owed)

  pub first-abreast : (size : ℕ) (names : List (List ℕ)) → Abreast (first_carriage U V size names)
  first-abreast size names = none_owed (first_carriage U V size names) refl
