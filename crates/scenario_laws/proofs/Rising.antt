-- What a host did since its link came up: that came up where so much was so of the host, and no push began since.
use Rattle.std.proofs.Common.{◌≡◌, ◌⊎◌, inl, inr, ℕ, Bool, true, false, List, [], ◌∷◌, ◌++◌, map, Some, None, refl, sym, ap, subst, ◌∙◌, if◌then◌else◌}
use Rattle.std.specs.List.{AllByRecursion, flat_map}
use Rattle.std.proofs.lemmas.List.{map-append}
use Rattle.radio_world.specs.push_terms.specs.declared.word.Side.TheVariants.{A, B}
use Rattle.radio_world.specs.push_terms.specs.declared.word.Way.TheVariants.{Ab, Ba}
use Rattle.radio_world.specs.radio_model.specs.declared.deed.Deed.{Deed}
use Rattle.radio_world.specs.radio_model.specs.declared.deed.Deed.TheVariants.{Nothing, Meets, Fires, FiresBoth, Breaks, Cancels}
use Rattle.host_laws.specs.world_model.specs.Machines.{LinkEvent, Up, Down, News, Linked, Failed, Heard, TimerFired, Cancelled, Opening, Upper}
use Rattle.host_laws.specs.world_model.specs.Talks.{Talk, Told, Said, Unsent, Met, Done}
use Rattle.host_laws.specs.world_model.specs.Carriages.{End, Carriage, Motion, Saying, Departure, Arrival, Telling, DoesMotion, IsIdle, IsAtRest, Doing, Moved, Deeds, Misses, Rises, Falls, Opens, Closes, ActsOn, finds, told, owing, IsDone}
use Rattle.host_laws.specs.turn_laws.proofs.Advancing.{Both}
use Rattle.host_laws.specs.turn_laws.proofs.Recounting.{RestsIn}
use Rattle.host_laws.specs.turn_laws.proofs.Standing.{Sound, Chain, quiet_there, idle_linked}
use Rattle.host_laws.specs.Acts.{Act, Hears, Says, Acting, StaysOnLink}
use Rattle.host_laws.specs.Asked.{IsOfLink, ActsOfLink}
use Rattle.host_laws.specs.Turning.{deed_of, deeds_in, IsHeardInQuiet, AreInQuiet}
use Rattle.host_laws.specs.Turning as turning
use Rattle.host_laws.proofs.Turning.{acting_then, up_behind}
use Rattle.scenario_laws.proofs.Acting.{IsNewsSo, AreSo, IsAside, SinceSo, ActedSo, up_more, plain_stays, said_stays, told_stays, told_link, tells_acted}
use Rattle.scenario_laws.proofs.Both.{ActedEnd, IsReady, AreReady}
use Rattle.scenario_laws.proofs.Parting.{Stays}

all_both : {X : Type 0} (P : X → Type 0) (one two : List X) → AllByRecursion P one → AllByRecursion P two → AllByRecursion P (one ++ two)
all_both P [] two all other = other
all_both P (x ∷ one) two all other = (all.0, all_both P one two all.1 other)

-- ---- since its link came up

-- `O` was so of it just before it was told of the link
pub record Rose {S G : Type 0} (U : Upper S G) (W : Bool → S → Type 0) (O : S → Type 0) (talk : List Talk) (mid : S) : Type 0 where
  pub since : SinceSo U W talk mid
  pub from : O since.on.old
  pub begins : AllByRecursion ActsOfLink since.on.acts

-- it came to `mid` by what it was told and said and what moved of it, and from there said what waits
pub record RoseTo {S G : Type 0} (U : Upper S G) (W : Bool → S → Type 0) (O : S → Type 0) (now : S) (waiting : List (List ℕ)) (talk : List Talk) : Type 0 where
  pub mid : S
  pub says : Acting U (map Says waiting) mid now
  pub rose : Rose U W O talk mid

news_aside : (news : News) → IsOfLink news → IsAside news
news_aside (Linked event) of = absurd of
news_aside (Failed status) of = tt
news_aside (Heard pdu) of = tt
news_aside TimerFired of = tt
news_aside Cancelled of = tt
news_aside (Opening name) of = tt

module _ {S G : Type 0} (U : Upper S G) (W : Bool → S → Type 0) (O : S → Type 0) where
  rose_more : (acts : List (Act G)) (talks : List Talk) (mid now : S) (talk : List Talk) → Acting U acts mid now → map deed_of acts ≡ flat_map deeds_in talks → AreInQuiet U acts mid → AllByRecursion StaysOnLink acts → Stays talks → up_behind true acts ≡ true → AreSo U W true acts mid
      → AllByRecursion ActsOfLink acts → Rose U W O talk mid → Rose U W O (talk ++ talks) now
  unfolding up_more
  rose_more acts talks mid now talk acting deeds quiet stays more up_is so of rose = record {
    since = up_more U W acts talks mid now talk acting deeds quiet stays more up_is so rose.since;
    from = rose.from;
    begins = all_both ActsOfLink rose.since.on.acts acts rose.begins of;
  }

  -- where all that it said has moved
  pub rose_now : (now : S) (talk : List Talk) → RoseTo U W O now [] talk → Rose U W O talk now
  rose_now now talk to = subst (λ (s : S). Rose U W O talk s) (sym to.says) to.rose

  -- it says a PDU, which waits; the first that waits moves
  says_rose : (old now : S) (pdu : List ℕ) (waiting : List (List ℕ)) (talk : List Talk) → U.next old ≡ Some (pdu, now) → RoseTo U W O old waiting talk → RoseTo U W O now (waiting ++ pdu ∷ []) talk
  says_rose old now pdu waiting talk next to = record {
    mid = to.mid;
    says = subst (λ (xs : List (Act G)). Acting U xs to.mid now) (sym (map-append Says waiting (pdu ∷ []))) (acting_then U (map Says waiting) (Says pdu ∷ []) to.mid old now to.says (now, next, refl));
    rose = to.rose;
  }

  moves_rose : (now : S) (pdu : List ℕ) (left : List (List ℕ)) (talk : List Talk) → RoseTo U W O now (pdu ∷ left) talk → RoseTo U W O now left (talk ++ Said pdu ∷ [])
  moves_rose now pdu left talk to =
      let (mid, next, rest) = to.says in
      record {
        mid = mid;
        says = rest;
        rose = rose_more (Says pdu ∷ []) (Said pdu ∷ []) to.mid mid talk (mid, next, refl) refl (tt, λ later does. tt) (tt, tt) (said_stays pdu) refl (λ on. tt, λ later does. tt) (tt, tt) to.rose;
      }

  hears_rose : (gifts : List G) (news : News) (old : S) (talk : List Talk) → IsOfLink news → IsHeardInQuiet U news old → IsNewsSo W news old → RoseTo U W O old [] talk → RoseTo U W O (U.hear gifts news old) [] (talk ++ Told news ∷ [])
  hears_rose gifts news old talk of quiet so to =
      let link = told_link true gifts news (news_aside news of) in
      record {
        mid = U.hear gifts news old;
        says = refl;
        rose = rose_more (Hears gifts news ∷ []) (Told news ∷ []) old (U.hear gifts news old) talk (_, refl, refl) refl (quiet, λ later does. tt) (link.1, tt) (told_stays news (news_aside news of)) link.0 (λ on. so, λ later does. tt) (of, tt) (rose_now old talk to);
      }

  -- talk that is nothing that it did
  beside_rose : (now : S) (waiting : List (List ℕ)) (one : Talk) (talk : List Talk) → deeds_in one ≡ [] → Stays (one ∷ []) → RoseTo U W O now waiting talk → RoseTo U W O now waiting (talk ++ one ∷ [])
  beside_rose now waiting one talk deeds stays to = record {
    mid = to.mid;
    says = to.says;
    rose = rose_more [] (one ∷ []) to.mid to.mid talk refl (sym (ap (λ (l : List turning.Deed). l ++ []) deeds)) tt tt stays refl tt tt to.rose;
  }

  -- its link comes up
  rises_rose : (linked : Bool) (gifts : List G) (old : S) (waiting : List (List ℕ)) (talk : List Talk) → linked ≡ false → ActedSo U W linked old waiting talk → O old
      → RoseTo U W O (U.hear gifts (Linked Up) old) [] (talk ++ (map Unsent waiting ++ Told (Linked Up) ∷ []))
  unfolding tells_acted
  rises_rose linked gifts old waiting talk off acted from =
      let now = tells_acted U W linked gifts Up old waiting talk (λ is. off) (λ other. absurd (other refl)) acted in
      record { mid = U.hear gifts (Linked Up) old; says = refl; rose = record { since = now.up refl; from = from; begins = tt } }

  -- ---- one host

  abbrev pub IsRisen : End S → Type 0
  IsRisen e = e.linked ≡ true → RoseTo U W O e.upper e.waiting e.talk

  motion_rose : (link : Bool) (motion : Motion) (e e' : End S) → DoesMotion U motion e e' → Sound U link e → ActedEnd U W e → ((more : List LinkEvent) → e.owed ≡ Up ∷ more → O e.upper) → IsRisen e → IsRisen e'
  motion_rose link (Saying pdu) e e' does sound end from risen = subst IsRisen (sym does.is) (λ on. says_rose e.upper does.after pdu e.waiting e.talk does.next (risen on))
  motion_rose link (Departure pdu) e e' does sound end from risen =
      subst IsRisen (sym does.is) (λ on. moves_rose e.upper pdu does.left e.talk (subst (λ (w : List (List ℕ)). RoseTo U W O e.upper w e.talk) does.first (risen on)))
  motion_rose link (Arrival pdu) e e' does sound end from risen =
      let quiet = quiet_there U e pdu [] sound.hearing does.first in
      subst IsRisen (sym does.is)
      (λ on. subst (λ (w : List (List ℕ)). RoseTo U W O (U.hear does.answers (Heard pdu) e.upper) w (e.talk ++ Told (Heard pdu) ∷ [])) (sym quiet.none_waits)
      (hears_rose does.answers (Heard pdu) e.upper e.talk tt quiet.none_next (comes_so end.ready on) (subst (λ (w : List (List ℕ)). RoseTo U W O e.upper w e.talk) quiet.none_waits (risen on))))
    where
      comes_so : (e.coming ≡ []) ⊎ (e.linked ≡ true → W false e.upper) → e.linked ≡ true → W false e.upper
      comes_so (inl none) on = let never : pdu ∷ [] ≡ [] = sym does.first ∙ none in cc
      comes_so (inr ready) on = ready on
  motion_rose link (Telling Up) e e' does sound end from risen =
      let chain = subst (λ (l : List LinkEvent). Chain l e.linked link) does.first sound.chain in
      subst IsRisen (sym does.is) (λ on. rises_rose e.linked does.answers e.upper e.waiting e.talk chain.0 end.acted (from does.more does.first))
  motion_rose link (Telling (Down reason)) e e' does sound end from risen = subst IsRisen (sym does.is) (λ on. cc)

  word_quiet : (news : News) (now : S) → IsOfLink news → U.next now ≡ None → IsHeardInQuiet U news now
  word_quiet (Linked event) now of none = absurd of
  word_quiet (Failed status) now of none = absurd of
  word_quiet (Heard pdu) now of none = none
  word_quiet TimerFired now of none = none
  word_quiet Cancelled now of none = tt
  word_quiet (Opening name) now of none = absurd of

  word_rose : (gifts : List G) (news : News) (e : End S) → IsOfLink news → IsIdle U e → (e.linked ≡ true → IsNewsSo W news e.upper) → IsRisen e → IsRisen (told U gifts news e)
  word_rose gifts news e of idle so risen = λ on.
      let quiet = idle.said_all on in
      subst (λ (w : List (List ℕ)). RoseTo U W O (U.hear gifts news e.upper) w (e.talk ++ Told news ∷ [])) (sym quiet.none_waits)
      (hears_rose gifts news e.upper e.talk of (word_quiet news e.upper of quiet.none_next) (so on) (subst (λ (w : List (List ℕ)). RoseTo U W O e.upper w e.talk) quiet.none_waits (risen on)))

  fired_rose : (gifts : List G) (armed : Bool) (e : End S) → U.armed e.upper ≡ armed → IsIdle U e → IsReady U W e → IsRisen e → IsRisen (if armed then told U gifts TimerFired e else e)
  fired_rose gifts true e is idle ready risen = word_rose gifts TimerFired e tt idle (λ on. (ready on).1 is) risen
  fired_rose gifts false e is idle ready risen = risen

  owing_rose : (event : LinkEvent) (e : End S) → IsRisen e → IsRisen (owing event e)
  owing_rose Up e risen = risen
  owing_rose (Down reason) e risen = risen

  -- ---- all that happens

  module _ {T H : Type 0} (V : Upper T H) (X : Bool → T → Type 0) where
    deed_rose : (deed : Deed) (old new : Carriage S T) → IsAtRest U V old → AreReady U V W X old → ActsOn U V deed old new → IsRisen old.a → IsRisen new.a
    deed_rose Nothing old new rest ready acts risen = absurd acts
    deed_rose (Meets Ab fate) old new rest ready (e, f, meets, same) risen =
        rw same (rw meets.one_is (λ on. beside_rose old.a.upper old.a.waiting (Met fate meets.checked) old.a.talk refl (plain_stays (Met fate meets.checked) refl refl (λ l. refl)) (risen on)))
    deed_rose (Meets Ba fate) old new rest ready (e, f, meets, same) risen = rw same (rw meets.other_is (λ on. risen on))
    deed_rose (Fires A) old new rest ready (armed, g, same) risen = rw same (word_rose g TimerFired old.a tt rest.idle_a (λ on. (ready.0 on).1 armed) risen)
    deed_rose (Fires B) old new rest ready (armed, h, same) risen = rw same risen
    deed_rose FiresBoth old new rest ready (armed, g, h, same) risen = rw same (fired_rose g (U.armed old.a.upper) old.a refl rest.idle_a ready.0 risen)
    deed_rose Breaks old new rest ready same risen = rw same (owing_rose (Down 0x08) old.a risen)
    deed_rose Cancels old new rest ready (may, g, same) risen = rw same (word_rose g Cancelled old.a tt rest.idle_a (λ on. tt) risen)

    -- with each of these
    pub done-risen : (doing : Doing) (old new : Carriage S T) → IsDone U V doing old new → RestsIn (AreReady U V W X) doing old → Both U V old → ActedEnd U W old.a → ((more : List LinkEvent) → old.a.owed ≡ Up ∷ more → O old.a.upper) → IsRisen old.a → IsRisen new.a
    done-risen (Moved A motion) old new (e, does, same) ready sound end from risen = rw same (motion_rose old.link motion old.a e does sound.a end from risen)
    done-risen (Moved B motion) old new (f, does, same) ready sound end from risen = rw same risen
    done-risen (Deeds word) old new (rest, acts) ready sound end from risen = deed_rose (finds word old) old new rest ready acts risen
    done-risen (Misses word) old new (rest, nothing, same) ready sound end from risen = rw same risen
    done-risen Rises old new (down, idle, going, wants, same) ready sound end from risen = rw same (owing_rose Up old.a risen)
    done-risen (Falls A) old new (up, idle, leaves, same) ready sound end from risen = rw same (owing_rose (Down 0x16) old.a risen)
    done-risen (Falls B) old new (up, idle, leaves, same) ready sound end from risen = rw same (owing_rose (Down 0x13) old.a risen)
    done-risen (Opens name) old new (down, idle, rests, next, g, same) ready sound end from risen =
        let off : old.a.linked ≡ false = idle_linked U old.link old.a idle sound.a ∙ down in rw same (λ on. let never : false ≡ true = sym off ∙ on in cc)
    done-risen (Closes outcome) old new (down, idle_a, idle_b, going, rests, is, same) ready sound end from risen =
        rw same (λ on. beside_rose old.a.upper old.a.waiting (Done outcome) old.a.talk refl (plain_stays (Done outcome) refl refl (λ l. refl)) (risen on))
