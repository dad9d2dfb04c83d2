-- Of what the packets spell one list of marks tells at each moment what the inbox has gained.
use Rattle.std.proofs.Common.{inl, inr, ◌⊎◌, Bool, true, false, ◌≡◌, List, [], ◌∷◌, ◌++◌, length, Some, refl, sym, ap, subst, ◌∙◌, append-nil, append_assoc}
use Rattle.std.specs.Prelude.{get_or}
use Rattle.tape_laws.specs.bt_base.specs.declared.settings.Settings.{Settings}
use Rattle.tape_laws.specs.bt_base.specs.Objects.{Object}
use Rattle.tape_laws.specs.capture.proofs.HistoryLaws.{given_by-more}
use Rattle.tape_laws.specs.push_model.specs.Server.{Reacted}
use Rattle.tape_laws.specs.push_laws.specs.Faults as faulty
use Rattle.tape_laws.specs.push_laws.specs.Faults.{Marked, unmarked, mark_of, marked_from}
use Rattle.tape_laws.specs.push_laws.specs.Gains as clear
use Rattle.tape_laws.specs.push_laws.specs.Laws.{new_over}
use Rattle.tape_laws.specs.push_laws.specs.Occurrences.{Occurrence, done}
use Rattle.tape_laws.specs.push_laws.specs.OneName.{AllKeptOrLeft, TellsEach}
use Rattle.tape_laws.specs.push_laws.specs.Parties.{AllServeDirectly}
use Rattle.tape_laws.specs.push_laws.specs.Premises.{NoneShort}
use Rattle.tape_laws.specs.push_laws.proofs.Marking.{gains-all_but_refusals}
use Rattle.tape_laws.specs.push_laws.proofs.Missing.{first_stays, all_may_miss}
use Rattle.tape_laws.specs.push_laws.proofs.Readings.{unmarked_more}
use Rattle.done_laws.specs.Kept.{HasGained}
use Rattle.done_laws.specs.Storing.{kept_of}
use Rattle.done_laws.proofs.Kept.{serve_front}

-- ---- marks

abbrev mark_each : Bool → List Object → List Bool
mark_each mark [] = []
mark_each mark (object ∷ objects) = mark ∷ mark_each mark objects

all_kept : (objects more : List Object) (kept : List Bool) → kept_of (mark_each true objects ++ kept) (objects ++ more) ≡ objects ++ kept_of kept more
all_kept [] more kept = refl
all_kept (object ∷ objects) more kept = ap (λ (os : List Object). object ∷ os) (all_kept objects more kept)

none_kept : (objects more : List Object) (kept : List Bool) → kept_of (mark_each false objects ++ kept) (objects ++ more) ≡ kept_of kept more
none_kept [] more kept = refl
none_kept (object ∷ objects) more kept = none_kept objects more kept

-- of what is spelled with one thing, where all of it is gained or nothing
record Marks (gained here : List Object) : Type 0 where
  marks : List Bool
  are : (more : List Object) (kept : List Bool) → kept_of (marks ++ kept) (here ++ more) ≡ gained ++ kept_of kept more

marks_of : (gained here : List Object) → (gained ≡ []) ⊎ (gained ≡ here) → Marks gained here
marks_of gained here (inl none) = record { marks = mark_each false here; are = λ more kept. none_kept here more kept ∙ ap (λ (os : List Object). os ++ kept_of kept more) (sym none) }
marks_of gained here (inr same) = record { marks = mark_each true here; are = λ more kept. all_kept here more kept ∙ ap (λ (os : List Object). os ++ kept_of kept more) (sym same) }

-- an object that is kept behind others has its mark
pub marked_at : (kept : List Bool) (front : List Object) (object : Object) → kept_of kept (front ++ object ∷ []) ≡ kept_of kept front ++ object ∷ [] → get_or kept (length front) false ≡ true
marked_at [] [] object is = cc
marked_at [] (first ∷ front) object is = cc
marked_at (true ∷ kept) [] object is = refl
marked_at (false ∷ kept) [] object is = cc
marked_at (true ∷ kept) (first ∷ front) object is = let later : kept_of kept (front ++ object ∷ []) ≡ kept_of kept front ++ object ∷ [] = cc in marked_at kept front object later
marked_at (false ∷ kept) (first ∷ front) object is = marked_at kept front object is

-- ---- what happened

module _ (settings : Settings) (before : List Object) where
  -- by these so many objects are spelled more, and of them those were gained that are kept
  record Gains (kept : List Bool) (past : List Marked) (at : Reacted) (front : List Occurrence) : Type 0 where
    more : List Object
    spelled : clear.objects settings (unmarked past ++ front) ≡ clear.objects settings (unmarked past) ++ more
    gained : faulty.objects settings (past ++ marked_from (unmarked past) at front) ≡ faulty.objects settings past ++ kept_of kept more

  record All (past : List Marked) (at : Reacted) (occurrences : List Occurrence) : Type 0 where
    kept : List Bool
    gains : (front behind : List Occurrence) → occurrences ≡ front ++ behind → Gains kept past at front

  no_more : (kept : List Bool) (past : List Marked) (at : Reacted) → Gains kept past at []
  no_more kept past at = record {
    more = [];
    spelled = ap (clear.objects settings) (append-nil (unmarked past)) ∙ sym (append-nil (clear.objects settings (unmarked past)));
    gained = ap (faulty.objects settings) (append-nil past) ∙ sym (append-nil (faulty.objects settings past));
  }

  module _ (past : List Marked) (at : Reacted) (one : Occurrence) where
    abbrev mark : Marked
    mark = mark_of (unmarked past) at one

    abbrev gained : List Object
    gained = faulty.objects_with settings past (mark_of (unmarked past) at one)

    abbrev here : List Object
    here = clear.objects_with settings (unmarked past) one

    gains_more : (marks : Marks gained here) (kept : List Bool) (front : List Occurrence) → Gains kept (past ++ mark ∷ []) (done one at) front → Gains (marks.marks ++ kept) past at (one ∷ front)
    gains_more marks kept front later =
        let unmarks : unmarked (past ++ mark ∷ []) ≡ unmarked past ++ one ∷ [] = unmarked_more past mark in
        record {
          more = here ++ later.more;
          spelled = ap (clear.objects settings) (sym (append_assoc (unmarked past) (one ∷ []) front) ∙ ap (λ (os : List Occurrence). os ++ front) (sym unmarks))
              ∙ (later.spelled ∙ (ap (λ (os : List Object). os ++ later.more) (ap (clear.objects settings) unmarks ∙ given_by-more (clear.objects_with settings) (unmarked past) one)
              ∙ append_assoc (clear.objects settings (unmarked past)) here later.more));
          gained = ap (faulty.objects settings)
              (sym (append_assoc past (mark ∷ []) (marked_from (unmarked past ++ one ∷ []) (done one at) front)) ∙ ap (λ (os : List Occurrence). (past ++ mark ∷ []) ++ marked_from os (done one at) front) (sym unmarks))
              ∙ (later.gained ∙ (ap (λ (os : List Object). os ++ kept_of kept later.more) (given_by-more (faulty.objects_with settings) past mark)
              ∙ (append_assoc (faulty.objects settings past) gained (kept_of kept later.more) ∙ ap (λ (os : List Object). faulty.objects settings past ++ os) (sym (marks.are later.more kept)))));
        }

  none_gains : (past : List Marked) (at : Reacted) (front behind : List Occurrence) → [] ≡ front ++ behind → Gains [] past at front
  none_gains past at [] behind is = no_more [] past at
  none_gains past at (first ∷ front) behind is = cc

  one_gains : (past : List Marked) (at : Reacted) (one : Occurrence) (rest : List Occurrence) (marks : Marks (gained past at one) (here past at one)) (later : All (past ++ mark past at one ∷ []) (done one at) rest) (front behind : List Occurrence) → one ∷ rest ≡ front ++ behind
      → Gains (marks.marks ++ later.kept) past at front
  one_gains past at one rest marks later [] behind is = no_more (marks.marks ++ later.kept) past at
  one_gains past at one rest marks later (first ∷ front) behind is =
      let same : one ≡ first = cc in
      let others : rest ≡ front ++ behind = cc in
      subst (λ (o : Occurrence). Gains (marks.marks ++ later.kept) past at (o ∷ front)) same (gains_more past at one marks later.kept front (later.gains front behind others))

  all_gains : (occurrences : List Occurrence) (past : List Marked) (at : Reacted) → AllKeptOrLeft settings past at occurrences → All past at occurrences
  all_gains [] past at each = record { kept = []; gains = none_gains past at }
  all_gains (one ∷ rest) past at each =
      let marks = marks_of (gained past at one) (here past at one) each.0 in
      let later = all_gains rest (past ++ mark past at one ∷ []) (done one at) each.1 in
      record { kept = marks.marks ++ later.kept; gains = one_gains past at one rest marks later }

  -- ---- from the first moment on

  pub record KeepsFronts (occurrences : List Occurrence) : Type 0 where
    pub kept : List Bool
    pub so : (front behind : List Occurrence) → occurrences ≡ front ++ behind → HasGained settings before front (kept_of kept (clear.objects settings front))

  pub keeps_fronts : (occurrences : List Occurrence) → AllServeDirectly NoneShort (new_over settings before) occurrences → TellsEach settings before occurrences → KeepsFronts occurrences
  keeps_fronts occurrences serve tells =
      let new = new_over settings before in
      let all = all_gains occurrences [] new tells.each in
      record {
        kept = all.kept;
        so = λ front behind is.
            let serves = (serve_front settings before front behind new (subst (AllServeDirectly NoneShort new) is serve)).0 in
            let but = gains-all_but_refusals settings before front (all_may_miss settings before front [] new (first_stays settings before) serves) in
            let gains = all.gains front behind is in
            but.gains ∙ ap (λ (os : List Object). Some (before ++ os)) (gains.gained ∙ ap (kept_of all.kept) (sym gains.spelled));
      }
