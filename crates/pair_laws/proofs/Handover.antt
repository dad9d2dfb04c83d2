-- While a PDU is being handed over to one host, all else is at rest.
use Rattle.std.proofs.Common.{◌≡◌, ◌⊎◌, inl, inr, ℕ, Bool, true, false, List, [], ◌∷◌, refl, sym, ap, subst, ◌∙◌, if◌then◌else◌}
use Rattle.scenario_laws.specs.push_terms.specs.declared.word.Side.TheVariants as sides
use Rattle.scenario_laws.specs.push_terms.specs.declared.word.Way.TheVariants.{Ab, Ba}
use Rattle.scenario_laws.specs.radio_model.specs.declared.deed.Deed.{Deed}
use Rattle.scenario_laws.specs.radio_model.specs.declared.deed.Deed.TheVariants.{Nothing, Meets, Fires, FiresBoth, Breaks, Cancels}
use Rattle.scenario_laws.specs.world_model.specs.Machines.{TimerFired, Upper}
use Rattle.scenario_laws.specs.world_model.specs.Carriages.{End, Carriage, Motion, Saying, Departure, Arrival, Telling, DoesMotion, IsQuiet, IsIdle, IsAtRest, Doing, Moved, Deeds, Misses, Rises, Falls, Opens, Closes, ActsOn, finds, told, fired, IsDone}
use Rattle.scenario_laws.specs.turn_laws.proofs.Advancing.{Both}
use Rattle.scenario_laws.specs.turn_laws.proofs.Recounting.{RestsIn}
use Rattle.scenario_laws.specs.turn_laws.proofs.Standing.{Sound, idle_linked}

-- ---- one host and the other

-- a host that has nothing to say stays so on its link, and nothing is owed to the other
pub record RestsBut {S T G : Type 0} (U : Upper S G) (Q : S → Type 0) (link : Bool) (e : End S) (f : End T) : Type 0 where
  pub on : link ≡ true
  pub idle : IsIdle U e
  pub none_owed : f.owed ≡ []
  pub stays : U.leaves_link e.upper ≡ false
  pub quiet : Q e.upper

-- while something comes into the other
abbrev pub IsHanded : {S T G : Type 0} → Upper S G → (S → Type 0) → (link : Bool) → End S → End T → Type 0
IsHanded U Q link e f = (f.coming ≡ []) ⊎ RestsBut U Q link e f

-- an idle host does nothing
idle_stays : {S G : Type 0} (U : Upper S G) (motion : Motion) (e e' : End S) → IsIdle U e → DoesMotion U motion e e' → ⊥
idle_stays U (Saying pdu) e e' idle does = let never = sym (idle.said_all does.on).none_next ∙ does.next in cc
idle_stays U (Departure pdu) e e' idle does = let never = sym (idle.said_all does.on).none_waits ∙ does.first in cc
idle_stays U (Arrival pdu) e e' idle does = let never = sym idle.none_comes ∙ does.first in cc
idle_stays U (Telling event) e e' idle does = let never = sym idle.none_owed ∙ does.first in cc

-- behind what a host does nothing comes into it
moved_none : {S G : Type 0} (U : Upper S G) (link : Bool) (motion : Motion) (e e' : End S) → Sound U link e → DoesMotion U motion e e' → e'.coming ≡ []
moved_none {S} U link (Saying pdu) e e' sound does = ap (λ (x : End S). x.coming) does.is ∙ does.none_comes
moved_none {S} U link (Departure pdu) e e' sound does = ap (λ (x : End S). x.coming) does.is ∙ by sound.hearing
  where
    by : (e.coming ≡ []) ⊎ IsQuiet U e.upper e.waiting → e.coming ≡ []
    by (inl none) = none
    by (inr quiet) = let never = sym quiet.none_waits ∙ does.first in cc
moved_none {S} U link (Arrival pdu) e e' sound does = ap (λ (x : End S). x.coming) does.is
moved_none {S} U link (Telling event) e e' sound does = ap (λ (x : End S). x.coming) does.is ∙ does.none_comes

-- where the link is down, or the host leaves it, nothing is being handed over
never_down : {S T G : Type 0} (U : Upper S G) (Q : S → Type 0) (link : Bool) (e : End S) (f : End T) → link ≡ false → IsHanded U Q link e f → f.coming ≡ []
never_down U Q link e f down (inl none) = none
never_down U Q link e f down (inr rests) = let never = sym rests.on ∙ down in cc

never_leaves : {S T G : Type 0} (U : Upper S G) (Q : S → Type 0) (link : Bool) (e : End S) (f : End T) → U.leaves_link e.upper ≡ true → IsHanded U Q link e f → f.coming ≡ []
never_leaves U Q link e f leaves (inl none) = none
never_leaves U Q link e f leaves (inr rests) = let never = sym rests.stays ∙ leaves in cc

fired_none : {S G : Type 0} (U : Upper S G) (g : List G) (e : End S) → e.coming ≡ [] → (fired U g e).coming ≡ []
fired_none {S} U g e none = by (U.armed e.upper)
  where
    by : (armed : Bool) → (if armed then told U g TimerFired e else e).coming ≡ []
    by true = none
    by false = none

module _ {S T G H : Type 0} (U : Upper S G) (V : Upper T H) (Y : S → Type 0) (X : T → Type 0) where
  -- ---- both

  pub record HandsOver (c : Carriage S T) : Type 0 where
    pub to_b : IsHanded U Y c.link c.a c.b
    pub to_a : IsHanded V X c.link c.b c.a

  none_handed : (c : Carriage S T) → c.a.coming ≡ [] → c.b.coming ≡ [] → HandsOver c
  none_handed c none_a none_b = record { to_b = inl none_b; to_a = inl none_a }

  -- a frame is in the air of a link that is up
  link_is : {Z K : Type 0} (W : Upper Z K) (link : Bool) (e : End Z) (frame : List ℕ) (rest : List (List ℕ)) → IsIdle W e → Sound W link e → e.queue ≡ frame ∷ rest → link ≡ true
  link_is W link e frame rest idle sound first = by e.linked refl
    where
      by : (linked : Bool) → e.linked ≡ linked → link ≡ true
      by true is = sym (idle_linked W link e idle sound) ∙ is
      by false is = let never = sym (sound.off_queue is) ∙ first in cc

  deed_hands : (deed : Deed) (old new : Carriage S T) → IsAtRest U V old → ActsOn U V deed old new → Both U V old → Y old.a.upper × X old.b.upper → HandsOver new
  deed_hands Nothing old new rest acts both quiet = absurd acts
  deed_hands (Meets Ab fate) old new rest (e, f, meeting, same) both quiet =
      let on = link_is U old.link old.a meeting.frame meeting.rest rest.idle_a both.a meeting.is in
      subst HandsOver (sym same) (record {
        to_b = subst (λ (x : End S). IsHanded U Y old.link x f) (sym meeting.one_is)
            (inr (record {
              on = on;
              idle = record { none_owed = rest.idle_a.none_owed; none_comes = rest.idle_a.none_comes; said_all = rest.idle_a.said_all };
              none_owed = ap (λ (y : End T). y.owed) meeting.other_is ∙ rest.idle_b.none_owed;
              stays = rest.calm.no_fall_a on;
              quiet = quiet.0;
            }));
        to_a = inl (ap (λ (x : End S). x.coming) meeting.one_is ∙ rest.idle_a.none_comes);
      })
  deed_hands (Meets Ba fate) old new rest (e, f, meeting, same) both quiet =
      let on = link_is V old.link old.b meeting.frame meeting.rest rest.idle_b both.b meeting.is in
      subst HandsOver (sym same) (record {
        to_b = inl (ap (λ (y : End T). y.coming) meeting.one_is ∙ rest.idle_b.none_comes);
        to_a = subst (λ (y : End T). IsHanded V X old.link y e) (sym meeting.one_is)
            (inr (record {
              on = on;
              idle = record { none_owed = rest.idle_b.none_owed; none_comes = rest.idle_b.none_comes; said_all = rest.idle_b.said_all };
              none_owed = ap (λ (x : End S). x.owed) meeting.other_is ∙ rest.idle_a.none_owed;
              stays = rest.calm.no_fall_b on;
              quiet = quiet.1;
            }));
      })
  deed_hands (Fires sides.A) old new rest (armed, g, same) both quiet = subst HandsOver (sym same) (none_handed (record old { a = told U g TimerFired old.a }) rest.idle_a.none_comes rest.idle_b.none_comes)
  deed_hands (Fires sides.B) old new rest (armed, h, same) both quiet = subst HandsOver (sym same) (none_handed (record old { b = told V h TimerFired old.b }) rest.idle_a.none_comes rest.idle_b.none_comes)
  deed_hands FiresBoth old new rest (armed, g, h, same) both quiet =
      subst HandsOver (sym same) (none_handed (record old { a = fired U g old.a; b = fired V h old.b }) (fired_none U g old.a rest.idle_a.none_comes) (fired_none V h old.b rest.idle_b.none_comes))
  deed_hands Breaks old new rest same both quiet = subst HandsOver (sym same) (none_handed _ rest.idle_a.none_comes rest.idle_b.none_comes)
  deed_hands Cancels old new rest (may, g, same) both quiet = subst HandsOver (sym same) (none_handed _ rest.idle_a.none_comes rest.idle_b.none_comes)

  -- where both hosts are so whenever all is at rest
  pub done-hands : (doing : Doing) (old new : Carriage S T) → IsDone U V doing old new → Both U V old → RestsIn (λ (c : Carriage S T). Y c.a.upper × X c.b.upper) doing old → HandsOver old → HandsOver new
  done-hands (Moved sides.A motion) old new (e, does, same) both quiet hands = subst HandsOver (sym same) (record { to_b = by hands.to_b; to_a = inl (moved_none U old.link motion old.a e both.a does) })
    where
      by : IsHanded U Y old.link old.a old.b → IsHanded U Y old.link e old.b
      by (inl none) = inl none
      by (inr rests) = absurd (idle_stays U motion old.a e rests.idle does)
  done-hands (Moved sides.B motion) old new (f, does, same) both quiet hands = subst HandsOver (sym same) (record { to_b = inl (moved_none V old.link motion old.b f both.b does); to_a = by hands.to_a })
    where
      by : IsHanded V X old.link old.b old.a → IsHanded V X old.link f old.a
      by (inl none) = inl none
      by (inr rests) = absurd (idle_stays V motion old.b f rests.idle does)
  done-hands (Deeds word) old new (rest, acts) both quiet hands = deed_hands (finds word old) old new rest acts both quiet
  done-hands (Misses word) old new (rest, nothing, same) both quiet hands = subst HandsOver (sym same) (none_handed old rest.idle_a.none_comes rest.idle_b.none_comes)
  done-hands Rises old new (down, idle, going, wants, same) both quiet hands = subst HandsOver (sym same) (none_handed _ idle.none_comes (never_down U Y old.link old.a old.b down hands.to_b))
  done-hands (Falls sides.A) old new (up, idle, leaves, same) both quiet hands = subst HandsOver (sym same) (none_handed _ idle.none_comes (never_leaves U Y old.link old.a old.b leaves hands.to_b))
  done-hands (Falls sides.B) old new (up, idle, leaves, same) both quiet hands = subst HandsOver (sym same) (none_handed _ (never_leaves V X old.link old.b old.a leaves hands.to_a) idle.none_comes)
  done-hands (Opens name) old new (down, idle, pushes, next, g, same) both quiet hands = subst HandsOver (sym same) (none_handed _ idle.none_comes (never_down U Y old.link old.a old.b down hands.to_b))
  done-hands (Closes outcome) old new (down, idle_a, idle_b, going, pushes, is, same) both quiet hands = subst HandsOver (sym same) (none_handed _ idle_a.none_comes idle_b.none_comes)
