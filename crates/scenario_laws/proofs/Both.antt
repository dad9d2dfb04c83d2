-- So it is of both hosts, whatever happens.
use Rattle.std.proofs.Common.{◌≡◌, ◌≢◌, ◌⊎◌, inl, inr, ℕ, Bool, true, false, List, [], ◌∷◌, ◌++◌, None, refl, sym, subst, ◌∙◌, if◌then◌else◌}
use Rattle.radio_world.specs.push_terms.specs.declared.word.Side.TheVariants.{A, B}
use Rattle.radio_world.specs.push_terms.specs.declared.word.Way.TheVariants.{Ab, Ba}
use Rattle.radio_world.specs.radio_model.specs.declared.deed.Deed.{Deed}
use Rattle.radio_world.specs.radio_model.specs.declared.deed.Deed.TheVariants.{Nothing, Meets, Fires, FiresBoth, Breaks, Cancels}
use Rattle.radio_world.specs.radio_model.specs.declared.fate.Fate.{Fate}
use Rattle.host_laws.specs.world_model.specs.Machines.{LinkEvent, Up, Down, News, Linked, Failed, Heard, TimerFired, Cancelled, Opening, Upper}
use Rattle.host_laws.specs.world_model.specs.Talks.{Told, Said, Met, Done}
use Rattle.host_laws.specs.world_model.specs.Carriages.{End, Carriage, Motion, Saying, Departure, Arrival, Telling, DoesMotion, IsIdle, IsAtRest, MeetsFate, Doing, Moved, Deeds, Misses, Rises, Falls, Opens, Closes, ActsOn, finds, told, owing, IsDone, first_carriage}
use Rattle.host_laws.specs.turn_laws.proofs.Advancing.{Both, advances}
use Rattle.host_laws.specs.turn_laws.proofs.Finishing.{nothing_more}
use Rattle.host_laws.specs.turn_laws.proofs.Recounting.{RestsIn, CarriesSo}
use Rattle.host_laws.specs.turn_laws.proofs.Running.{first_both}
use Rattle.host_laws.specs.turn_laws.proofs.Standing.{Sound, Chain, quiet_there}
use Rattle.host_laws.specs.Acts.{Act, Hears}
use Rattle.host_laws.specs.OverLinks.{IsTimely}
use Rattle.host_laws.specs.Turning.{IsHeardInQuiet}
use Rattle.scenario_laws.proofs.Acting.{IsNewsSo, ActedSo, IsAside, says_acted, moves_acted, hears_acted, met_acted, done_acted, tells_acted, first_acted}

-- what is coming into it comes where that is so
pub record ActedEnd {S G : Type 0} (U : Upper S G) (W : Bool → S → Type 0) (e : End S) : Type 0 where
  pub acted : ActedSo U W e.linked e.upper e.waiting e.talk
  pub ready : (e.coming ≡ []) ⊎ (e.linked ≡ true → W false e.upper)

pub record ActedBoth {S T G H : Type 0} (U : Upper S G) (V : Upper T H) (W : Bool → S → Type 0) (X : Bool → T → Type 0) (c : Carriage S T) : Type 0 where
  pub a : ActedEnd U W c.a
  pub b : ActedEnd V X c.b

-- so it is of a host on a link, whether it hears something next, or its timer fires
abbrev pub IsReady : {S G : Type 0} → Upper S G → (Bool → S → Type 0) → End S → Type 0
IsReady U W e = e.linked ≡ true → W false e.upper × (U.armed e.upper ≡ true → W true e.upper)

abbrev pub AreReady : {S T G H : Type 0} → Upper S G → Upper T H → (Bool → S → Type 0) → (Bool → T → Type 0) → Carriage S T → Type 0
AreReady U V W X c = IsReady U W c.a × IsReady V X c.b

-- ---- where it is idle

none_waits : {S G : Type 0} (U : Upper S G) (W : Bool → S → Type 0) (e : End S) (linked : Bool) → e.linked ≡ linked → ActedEnd U W e → (linked ≡ true → e.waiting ≡ []) → e.waiting ≡ []
none_waits U W e true is end idle = idle refl
none_waits U W e false is end idle = end.acted.down is

idle_waits : {S G : Type 0} (U : Upper S G) (W : Bool → S → Type 0) (e : End S) → IsIdle U e → ActedEnd U W e → e.waiting ≡ []
idle_waits U W e idle end = none_waits U W e e.linked refl end (λ on. (idle.said_all on).none_waits)

pub idle_acted : {S G : Type 0} (U : Upper S G) (W : Bool → S → Type 0) (e : End S) → IsIdle U e → ActedEnd U W e → ActedSo U W e.linked e.upper [] e.talk
idle_acted U W e idle end = subst (λ (w : List (List ℕ)). ActedSo U W e.linked e.upper w e.talk) (idle_waits U W e idle end) end.acted

-- it is told something that is no PDU, and its link stays
abbrev IsWord : News → Type 0
IsWord TimerFired = Unit {0}
IsWord Cancelled = Unit {0}
IsWord (Opening name) = Unit {0}
IsWord news = ⊥

word_aside : (news : News) → IsWord news → IsAside news
word_aside TimerFired is = tt
word_aside Cancelled is = tt
word_aside (Opening name) is = tt
word_aside (Linked event) is = absurd is
word_aside (Failed status) is = absurd is
word_aside (Heard pdu) is = absurd is

word_timely : {G : Type 0} (linked : Bool) (gifts : List G) (news : News) → IsWord news → (let one : Act G = Hears gifts news in IsTimely linked one)
word_timely linked gifts TimerFired is = tt
word_timely linked gifts Cancelled is = tt
word_timely linked gifts (Opening name) is = tt
word_timely linked gifts (Linked event) is = absurd is
word_timely linked gifts (Failed status) is = absurd is
word_timely linked gifts (Heard pdu) is = absurd is

word_quiet : {S G : Type 0} (U : Upper S G) (news : News) (now : S) → IsWord news → U.next now ≡ None → IsHeardInQuiet U news now
word_quiet U TimerFired now is none = none
word_quiet U Cancelled now is none = tt
word_quiet U (Opening name) now is none = tt
word_quiet U (Linked event) now is none = absurd is
word_quiet U (Failed status) now is none = absurd is
word_quiet U (Heard pdu) now is none = absurd is

word_acted : {S G : Type 0} (U : Upper S G) (W : Bool → S → Type 0) (gifts : List G) (news : News) (e : End S) → IsWord news → IsIdle U e → (e.linked ≡ true → IsNewsSo W news e.upper) → ActedEnd U W e → ActedEnd U W (told U gifts news e)
word_acted U W gifts news e is idle so end = record {
  acted = subst (λ (w : List (List ℕ)). ActedSo U W e.linked (U.hear gifts news e.upper) w (e.talk ++ Told news ∷ [])) (sym (idle_waits U W e idle end))
      (hears_acted U W e.linked gifts news e.upper e.talk (word_aside news is) (word_timely e.linked gifts news is) (λ on. word_quiet U news e.upper is (idle.said_all on).none_next) so (idle_acted U W e idle end));
  ready = inl idle.none_comes;
}

fired_acted : {S G : Type 0} (U : Upper S G) (W : Bool → S → Type 0) (gifts : List G) (armed : Bool) (e : End S) → U.armed e.upper ≡ armed → IsIdle U e → IsReady U W e → ActedEnd U W e → ActedEnd U W (if armed then told U gifts TimerFired e else e)
fired_acted U W gifts true e is idle ready end = word_acted U W gifts TimerFired e tt idle (λ on. (ready on).1 is) end
fired_acted U W gifts false e is idle ready end = end

-- ---- motions

motion_acted : {S G : Type 0} (U : Upper S G) (W : Bool → S → Type 0) (link : Bool) (motion : Motion) (e e' : End S) → DoesMotion U motion e e' → Sound U link e → ActedEnd U W e → ActedEnd U W e'
motion_acted U W link (Saying pdu) e e' does sound end =
    rw does.is (record {
      acted = subst (λ (l : Bool). ActedSo U W l does.after (e.waiting ++ pdu ∷ []) e.talk) (sym does.on)
          (says_acted U W e.upper does.after pdu e.waiting e.talk does.next (subst (λ (l : Bool). ActedSo U W l e.upper e.waiting e.talk) does.on end.acted));
      ready = inl does.none_comes;
    })
motion_acted U W link (Departure pdu) e e' does sound end =
    rw does.is (record {
      acted = subst (λ (l : Bool). ActedSo U W l e.upper does.left (e.talk ++ Said pdu ∷ [])) (sym does.on)
          (moves_acted U W e.upper pdu does.left e.talk (subst (λ (w : List (List ℕ)). ActedSo U W true e.upper w e.talk) does.first (subst (λ (l : Bool). ActedSo U W l e.upper e.waiting e.talk) does.on end.acted)));
      ready = end.ready;
    })
motion_acted U W link (Arrival pdu) e e' does sound end =
    let quiet = quiet_there U e pdu [] sound.hearing does.first in
    rw does.is (record {
      acted = subst (λ (w : List (List ℕ)). ActedSo U W e.linked (U.hear does.answers (Heard pdu) e.upper) w (e.talk ++ Told (Heard pdu) ∷ [])) (sym quiet.none_waits)
          (hears_acted U W e.linked does.answers (Heard pdu) e.upper e.talk tt (on_link e.linked refl) (λ on. quiet.none_next) (λ on. comes_so end.ready on)
          (subst (λ (w : List (List ℕ)). ActedSo U W e.linked e.upper w e.talk) quiet.none_waits end.acted));
      ready = inl refl;
    })
  where
    on_link : (linked : Bool) → e.linked ≡ linked → linked ≡ true
    on_link true is = refl
    on_link false is = let never : pdu ∷ [] ≡ [] = sym does.first ∙ sound.off_coming is in cc

    comes_so : (e.coming ≡ []) ⊎ (e.linked ≡ true → W false e.upper) → e.linked ≡ true → W false e.upper
    comes_so (inl none) on = let never : pdu ∷ [] ≡ [] = sym does.first ∙ none in cc
    comes_so (inr ready) on = ready on
motion_acted U W link (Telling event) e e' does sound end =
    let chain = subst (λ (l : List LinkEvent). Chain l e.linked link) does.first sound.chain in
    rw does.is (record {
      acted = tells_acted U W e.linked does.answers event e.upper e.waiting e.talk (fresh event does.more chain) (held event does.more chain) end.acted;
      ready = inl does.none_comes;
    })
  where
    fresh : (one : LinkEvent) (more : List LinkEvent) → Chain (one ∷ more) e.linked link → one ≡ Up → e.linked ≡ false
    fresh Up more chain is = chain.0
    fresh (Down reason) more chain is = cc

    held : (one : LinkEvent) (more : List LinkEvent) → Chain (one ∷ more) e.linked link → one ≢ Up → e.linked ≡ true
    held Up more chain other = absurd (other refl)
    held (Down reason) more chain other = chain.0

-- an event that is owed to it is nothing that it did
owing_acted : {S G : Type 0} (U : Upper S G) (W : Bool → S → Type 0) (event : LinkEvent) (e : End S) → ActedEnd U W e → ActedEnd U W (owing event e)
owing_acted U W Up e end = record { acted = end.acted; ready = end.ready }
owing_acted U W (Down reason) e end = record { acted = end.acted; ready = end.ready }

-- ---- words

meets_acted : {S T G H : Type 0} (U : Upper S G) (V : Upper T H) (W : Bool → S → Type 0) (X : Bool → T → Type 0) (size : ℕ) (fate : Fate) (e : End S) (f : End T) (e' : End S) (f' : End T) → MeetsFate V size fate e f e' f' → IsIdle U e → IsReady V X f → ActedEnd U W e → ActedEnd V X f
    → ActedEnd U W e' × ActedEnd V X f'
meets_acted U V W X size fate e f e' f' meets idle ready one other = (
  rw meets.one_is (record {
    acted = subst (λ (w : List (List ℕ)). ActedSo U W e.linked e.upper w (e.talk ++ Met fate meets.checked ∷ [])) (sym (idle_waits U W e idle one)) (met_acted U W e.linked e.upper fate meets.checked e.talk (idle_acted U W e idle one));
    ready = one.ready;
  }),
  rw meets.other_is (record { acted = other.acted; ready = inr (λ on. (ready on).0) }),
)

deeds_acted : {S T G H : Type 0} (U : Upper S G) (V : Upper T H) (W : Bool → S → Type 0) (X : Bool → T → Type 0) (deed : Deed) (old new : Carriage S T) → IsAtRest U V old → AreReady U V W X old → ActsOn U V deed old new → ActedBoth U V W X old → ActedBoth U V W X new
deeds_acted U V W X Nothing old new rest ready acts both = absurd acts
deeds_acted U V W X (Meets Ab fate) old new rest ready (e, f, meets, same) both =
    let now = meets_acted U V W X old.size fate old.a old.b e f meets rest.idle_a ready.1 both.a both.b in rw same (record { a = now.0; b = now.1 })
deeds_acted U V W X (Meets Ba fate) old new rest ready (e, f, meets, same) both =
    let now = meets_acted V U X W old.size fate old.b old.a f e meets rest.idle_b ready.0 both.b both.a in rw same (record { a = now.1; b = now.0 })
deeds_acted U V W X (Fires A) old new rest ready (armed, g, same) both = rw same (record { a = word_acted U W g TimerFired old.a tt rest.idle_a (λ on. (ready.0 on).1 armed) both.a; b = both.b })
deeds_acted U V W X (Fires B) old new rest ready (armed, h, same) both = rw same (record { a = both.a; b = word_acted V X h TimerFired old.b tt rest.idle_b (λ on. (ready.1 on).1 armed) both.b })
deeds_acted U V W X FiresBoth old new rest ready (armed, g, h, same) both =
    rw same (record { a = fired_acted U W g (U.armed old.a.upper) old.a refl rest.idle_a ready.0 both.a; b = fired_acted V X h (V.armed old.b.upper) old.b refl rest.idle_b ready.1 both.b })
deeds_acted U V W X Breaks old new rest ready same both = rw same (record { a = owing_acted U W (Down 0x08) old.a both.a; b = owing_acted V X (Down 0x08) old.b both.b })
deeds_acted U V W X Cancels old new rest ready (may, g, same) both = rw same (record { a = word_acted U W g Cancelled old.a tt rest.idle_a (λ on. tt) both.a; b = both.b })

-- ---- all that happens

pub done_both : {S T G H : Type 0} (U : Upper S G) (V : Upper T H) (W : Bool → S → Type 0) (X : Bool → T → Type 0) (doing : Doing) (old new : Carriage S T) → IsDone U V doing old new → RestsIn (AreReady U V W X) doing old → Both U V old → ActedBoth U V W X old → ActedBoth U V W X new
done_both U V W X (Moved A motion) old new (e, does, same) ready sound both = rw same (record { a = motion_acted U W old.link motion old.a e does sound.a both.a; b = both.b })
done_both U V W X (Moved B motion) old new (f, does, same) ready sound both = rw same (record { a = both.a; b = motion_acted V X old.link motion old.b f does sound.b both.b })
done_both U V W X (Deeds word) old new (rest, acts) ready sound both = deeds_acted U V W X (finds word old) old new rest ready acts both
done_both U V W X (Misses word) old new (rest, nothing, same) ready sound both = rw same both
done_both U V W X Rises old new (down, idle, going, wants, same) ready sound both = rw same (record { a = owing_acted U W Up old.a both.a; b = owing_acted V X Up old.b both.b })
done_both U V W X (Falls A) old new (up, idle, leaves, same) ready sound both = rw same (record { a = owing_acted U W (Down 0x16) old.a both.a; b = owing_acted V X (Down 0x13) old.b both.b })
done_both U V W X (Falls B) old new (up, idle, leaves, same) ready sound both = rw same (record { a = owing_acted U W (Down 0x13) old.a both.a; b = owing_acted V X (Down 0x16) old.b both.b })
done_both U V W X (Opens name) old new (down, idle, pushes, next, g, same) ready sound both = rw same (record { a = word_acted U W g (Opening name) old.a tt idle (λ on. tt) both.a; b = both.b })
done_both U V W X (Closes outcome) old new (down, idle_a, idle_b, going, pushes, is, same) ready sound both =
    rw same (record {
      a = record {
        acted = subst (λ (w : List (List ℕ)). ActedSo U W old.a.linked old.a.upper w (old.a.talk ++ Done outcome ∷ [])) (sym (idle_waits U W old.a idle_a both.a)) (done_acted U W old.a.linked old.a.upper outcome old.a.talk (idle_acted U W old.a idle_a both.a));
        ready = both.a.ready;
      };
      b = both.b;
    })

carries_both : {S T G H : Type 0} (U : Upper S G) (V : Upper T H) (W : Bool → S → Type 0) (X : Bool → T → Type 0) (doings : List Doing) (old new : Carriage S T) → CarriesSo U V (AreReady U V W X) doings old new → Both U V old → ActedBoth U V W X old
    → ActedBoth U V W X new × Both U V new
carries_both {S} {T} U V W X [] old new same sound both = rw same (both, sound)
carries_both U V W X (doing ∷ doings) old new (mid, (does, ready), runs) sound both =
    carries_both U V W X doings mid new runs (advances U V doing old nothing_more nothing_more mid does sound).both (done_both U V W X doing old mid does ready sound both)

-- At each moment of a run each host did what it was told and said, and what waits.
pub both_acted : {S T G H : Type 0} (U : Upper S G) (V : Upper T H) (W : Bool → S → Type 0) (X : Bool → T → Type 0) (size : ℕ) (names : List (List ℕ)) (doings : List Doing) (c : Carriage S T) → CarriesSo U V (AreReady U V W X) doings (first_carriage U V size names) c
    → ActedBoth U V W X c × Both U V c
both_acted U V W X size names doings c runs =
    carries_both U V W X doings (first_carriage U V size names) c runs (first_both U V size names)
    (record { a = record { acted = first_acted U W; ready = inl refl }; b = record { acted = first_acted V X; ready = inl refl } })
