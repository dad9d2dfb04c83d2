-- What follows of pushes of which each is kept or left out.
use Rattle.std.proofs.Common.{inl, inr, ◌≡◌, ℕ, ◌+◌, ◌-◌, ◌≤◌, List, [], ◌∷◌, ◌++◌, length, Some, refl, sym, ap, subst, ◌∙◌, arith, append-nil, append_assoc}
use Rattle.std.specs.List.{AllByRecursion, flat_map}
use Rattle.std.proofs.lemmas.List.{length-append, append_cancel_left}
use Rattle.tape_laws.specs.bt_base.specs.declared.settings.Settings.{Settings}
use Rattle.tape_laws.specs.bt_base.specs.Objects.{Object}
use Rattle.tape_laws.specs.push_laws.specs.Faults.{spent_from}
use Rattle.tape_laws.specs.push_laws.specs.Gains.{objects}
use Rattle.tape_laws.specs.push_laws.specs.Laws.{new_over}
use Rattle.tape_laws.specs.push_laws.specs.Losing.{LeavesOut}
use Rattle.tape_laws.specs.push_laws.specs.Occurrences.{Occurrence}
use Rattle.tape_laws.specs.push_laws.specs.Parties.{server_side, client_side, Push, ended_with, over_pushes}
use Rattle.tape_laws.specs.push_laws.specs.Spelled.{ArePushed, name_of}
use Rattle.tape_laws.specs.push_laws.proofs.Losing.{leaves_none, leaves_one, leaves_more, leaves_joined, pushes-gain_less}
use Rattle.done_laws.specs.Kept.{IsDone, IsKept, AreKept, HasGained, SpellsHere, SpellEach, KeepsLast, DoneIsLast, KeptLeaveOut, DonePushesAreKept}
use Rattle.done_laws.proofs.Kept.{pushes-spell_each}

pub one_object : (objects : List Object) → length objects ≡ 1 → (object : Object) × (objects ≡ object ∷ [])
one_object [] is = absurd (omega (arith, is))
one_object (object ∷ []) is = (object, refl)
one_object (object ∷ other ∷ objects) is = absurd (omega (arith, is))

module _ (settings : Settings) (before : List Object) where
  abbrev Gains : List Occurrence → List Object → Type 0
  Gains past gain = HasGained settings before past gain

  abbrev Each : List Occurrence → List Push → Push → Type 0
  Each past pushes last = SpellEach settings before past pushes last

  pub over_one : (push : Push) (pushes : List Push) (last : Push) (past : List Occurrence) → (past ++ ended_with push) ++ over_pushes pushes last ≡ past ++ over_pushes (push ∷ pushes) last
  over_one push pushes last past = append_assoc past (ended_with push) (over_pushes pushes last) ∙ ap (λ (os : List Occurrence). past ++ os) (sym (append_assoc (ended_with push) (flat_map ended_with pushes) (server_side last.moves)))

  -- ---- pushes whose clients did nothing

  abbrev IsStill : Push → Type 0
  IsStill push = client_side push.moves ≡ []

  -- nothing is spelled or gained of them
  record Quiet (past now : List Occurrence) : Type 0 where
    spelled : objects settings now ≡ objects settings past
    stored : (gain : List Object) → Gains past gain → Gains now gain

  still_here : (past now : List Occurrence) (push : Push) → SpellsHere settings before past now push → IsStill push → Quiet past now
  still_here past now push one still =
      let none = one.kept.still still in
      let left : one.gained ≡ [] = elim one.kept.either [ inl nothing ↦ nothing | inr same ↦ same ∙ none ] in
      record {
        spelled = one.spelled ∙ (ap (λ (os : List Object). objects settings past ++ os) none ∙ append-nil (objects settings past));
        stored = λ gain held. subst (Gains now) (ap (λ (os : List Object). gain ++ os) left ∙ append-nil gain) (one.stored gain held);
      }

  still_each : (pushes : List Push) (last : Push) (past : List Occurrence) → Each past pushes last → AllByRecursion IsStill (pushes ++ last ∷ []) → Quiet past (past ++ over_pushes pushes last)
  still_each [] last past each still = still_here past (past ++ server_side last.moves) last each still.0
  still_each (push ∷ pushes) last past each still =
      let next = past ++ ended_with push in
      let one = still_here past next push each.0 still.0 in
      let rest = still_each pushes last next each.1 still.1 in
      subst (Quiet past) (over_one push pushes last past) (record { spelled = rest.spelled ∙ one.spelled; stored = λ gain held. rest.stored gain (one.stored gain held) })

  -- ---- the last one that is done

  keeps_here : (past now since : List Occurrence) (push : Push) (gain : List Object) → SpellsHere settings before past now push → IsDone push → Gains past gain → Quiet now (past ++ since) → KeepsLast settings before push (past ++ since)
  keeps_here past now since push gain one is held quiet =
      let both = one.kept.done is in
      let found = one_object one.here both.1 in
      record {
        front = past;
        since = since;
        parts = refl;
        object = found.0;
        spelled = quiet.spelled ∙ (one.spelled ∙ ap (λ (os : List Object). objects settings past ++ os) found.1);
        gain = gain;
        held = held;
        stored = quiet.stored (gain ++ found.0 ∷ []) (subst (Gains now) (ap (λ (os : List Object). gain ++ os) (both.0 ∙ found.1)) (one.stored gain held));
        once = λ shelf of. subst (ArePushed shelf (name_of push)) found.1 (one.kept.once shelf of);
      }

  none_more : (past : List Occurrence) → Quiet past past
  none_more past = record { spelled = refl; stored = λ gain held. held }

  some_behind : (ahead : List Push) (one : Push) (behind : List Push) → [] ≡ ahead ++ one ∷ behind → ⊥
  some_behind [] one behind is = cc
  some_behind (push ∷ ahead) one behind is = cc

  last_kept : (ahead : List Push) (one : Push) (behind : List Push) (pushes : List Push) (last : Push) (past : List Occurrence) (gain : List Object) → Each past pushes last → pushes ++ last ∷ [] ≡ ahead ++ one ∷ behind → IsDone one → AllByRecursion IsStill behind → Gains past gain
      → KeepsLast settings before one (past ++ over_pushes pushes last)
  last_kept [] one behind [] last past gain each is so still held =
      let same : last ≡ one = cc in
      subst (λ (push : Push). IsDone push → KeepsLast settings before push (past ++ server_side last.moves)) same (λ so'. keeps_here past (past ++ server_side last.moves) (server_side last.moves) last gain each so' held (none_more (past ++ server_side last.moves))) so
  last_kept [] one behind (push ∷ pushes) last past gain each is so still held =
      let same : push ≡ one = cc in
      let rest : pushes ++ last ∷ [] ≡ behind = cc in
      let next = past ++ ended_with push in
      let quiet = subst (Quiet next) (over_one push pushes last past) (still_each pushes last next each.1 (subst (AllByRecursion IsStill) (sym rest) still)) in
      subst (λ (p : Push). IsDone p → KeepsLast settings before p (past ++ over_pushes (push ∷ pushes) last)) same (λ so'. keeps_here past next (over_pushes (push ∷ pushes) last) push gain each.0 so' held quiet) so
  last_kept (first ∷ ahead) one behind [] last past gain each is so still held = let none : [] ≡ ahead ++ one ∷ behind = cc in absurd (some_behind ahead one behind none)
  last_kept (first ∷ ahead) one behind (push ∷ pushes) last past gain each is so still held =
      let rest : pushes ++ last ∷ [] ≡ ahead ++ one ∷ behind = cc in
      subst (KeepsLast settings before one) (over_one push pushes last past) (last_kept ahead one behind pushes last (past ++ ended_with push) (gain ++ each.0.gained) each.1 rest so still (each.0.stored gain held))

  -- ---- all of them

  pub record All (past : List Occurrence) (gain : List Object) (pushes : List Push) (last : Push) : Type 0 where
    pub gained : List Object
    pub spelled : List Object
    pub spells : objects settings (past ++ over_pushes pushes last) ≡ objects settings past ++ spelled
    pub stored : Gains (past ++ over_pushes pushes last) (gain ++ gained)
    pub kept : AreKept (pushes ++ last ∷ []) gained spelled

  pub all_kept : (pushes : List Push) (last : Push) (past : List Occurrence) (gain : List Object) → Each past pushes last → Gains past gain → All past gain pushes last
  all_kept [] last past gain one held = record {
    gained = one.gained;
    spelled = one.here;
    spells = one.spelled;
    stored = one.stored gain held;
    kept = (one.gained, one.here, [], [], sym (append-nil one.gained), sym (append-nil one.here), one.kept, (refl, refl));
  }
  all_kept (push ∷ pushes) last past gain each held =
      let one = each.0 in
      let rest = all_kept pushes last (past ++ ended_with push) (gain ++ one.gained) each.1 (one.stored gain held) in
      let over = over_one push pushes last past in
      record {
        gained = one.gained ++ rest.gained;
        spelled = one.here ++ rest.spelled;
        spells = ap (objects settings) (sym over) ∙ (rest.spells ∙ (ap (λ (os : List Object). os ++ rest.spelled) one.spelled ∙ append_assoc (objects settings past) one.here rest.spelled));
        stored = subst (λ (os : List Occurrence). Gains os (gain ++ (one.gained ++ rest.gained))) over (subst (Gains ((past ++ ended_with push) ++ over_pushes pushes last)) (append_assoc gain one.gained rest.gained) rest.stored);
        kept = (one.gained, one.here, rest.gained, rest.spelled, refl, refl, one.kept, rest.kept);
      }

pub done_is_last : DoneIsLast
done_is_last settings before pushes last each ahead one behind is so still = last_kept settings before ahead one behind pushes last [] [] each is so still (ap (λ (os : List Object). Some os) (sym (append-nil before)))

-- ---- how many are left out

-- of one push
one_left : (push : Push) (kept here : List Object) → IsKept push kept here → (less : ℕ) × (length here ≡ length kept + less) × LeavesOut kept here less
one_left push kept here fits = elim fits.either [
  | inr same ↦ (0, (let long = ap length same in omega (arith, long)), subst (λ (os : List Object). LeavesOut os here 0) (sym same) (leaves_none here 0))
  | inl none ↦ (length here, (let nothing = ap length none in omega (arith, nothing)), subst (λ (os : List Object). LeavesOut os here (length here)) (sym none) (all_left here fits.few))
]
  where
    all_left : (objects : List Object) → length objects ≤ 1 → LeavesOut [] objects (length objects)
    all_left [] few = refl
    all_left (object ∷ objects) few = leaves_one (object ∷ objects) (length (object ∷ objects)) few (omega arith)

left_of : (pushes : List Push) (gained spelled : List Object) → AreKept pushes gained spelled → (less : ℕ) × (length spelled ≡ length gained + less) × LeavesOut gained spelled less
left_of [] gained spelled kept = (0, (let a = ap length kept.0 in let b = ap length kept.1 in omega (arith, a, b)), subst (λ (os : List Object). LeavesOut gained os 0) (sym kept.1) kept.0)
left_of (push ∷ pushes) gained spelled (keeps, here, gains, rest, gained_is, spelled_is, fits, kept) =
    let one = one_left push keeps here fits in
    let later = left_of pushes gains rest kept in
    let a = ap length gained_is in
    let b = ap length spelled_is in
    let c = length-append keeps gains in
    let d = length-append here rest in
    let first = one.1 in
    let second = later.1 in (
      one.0 + later.0,
      omega (arith, a, b, c, d, first, second),
      subst (λ (os : List Object). LeavesOut os spelled (one.0 + later.0)) (sym gained_is) (subst (λ (os : List Object). LeavesOut (keeps ++ gains) os (one.0 + later.0)) (sym spelled_is) (leaves_joined keeps gains here rest one.0 later.0 one.2 later.2)),
    )

pub kept_leave_out : KeptLeaveOut
kept_leave_out pushes gained spelled most kept few =
    let left = left_of pushes gained spelled kept in
    let long = left.1 in
    let same : (most - left.0) + left.0 ≡ most = omega (arith, long, few) in
    subst (LeavesOut gained spelled) same (leaves_more gained spelled left.0 (most - left.0) left.2)

-- ---- with how many are left out

-- what is left out of some objects is not among the others
fewer_left : (kept objects : List Object) (most : ℕ) → LeavesOut kept objects most → length objects ≤ length kept + most
fewer_left kept [] most none = omega arith
fewer_left kept (object ∷ objects) most (inl stays) = let rest = fewer_left stays.0 objects most stays.2 in let same = ap length stays.1 in omega (arith, rest, same)
fewer_left kept (object ∷ objects) most (inr left) = let rest = fewer_left kept objects left.0 left.2 in let same = left.1 in omega (arith, rest, same)

pub done-pushes_are_kept : DonePushesAreKept
done-pushes_are_kept settings before pushes last offered over serve =
    let occurrences = over_pushes pushes last in
    let all = all_kept settings before pushes last [] [] (pushes-spell_each settings before pushes last offered over serve) (ap (λ (os : List Object). Some os) (sym (append-nil before))) in
    let less = pushes-gain_less settings before pushes last offered over serve in
    record {
      gain = all.gained;
      stored = all.stored;
      kept = subst (AreKept (pushes ++ last ∷ []) all.gained) (sym all.spells) all.kept;
      few = (let few = fewer_left less.gain (objects settings occurrences) (spent_from (new_over settings before) occurrences) less.leaves in
          let same = ap length (append_cancel_left before less.gain all.gained (same_some (before ++ less.gain) (before ++ all.gained) (sym less.stored ∙ all.stored))) in
          omega (arith, few, same));
    }
  where
    same_some : (xs ys : List Object) → Some xs ≡ Some ys → xs ≡ ys
    same_some xs ys is = cc
