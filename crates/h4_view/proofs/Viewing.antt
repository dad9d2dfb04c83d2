-- What the view of an input of items comes to, whatever the items are.
use Rattle.std.proofs.Common.{◌≡◌, ℕ, ◌+◌, List, [], ◌∷◌, ◌++◌, length, Option, Some, None, IfSome, Ok, Err, sym, ap, subst, ◌∙◌, append_assoc, arith, length-append}
use Rattle.std.proofs.lemmas.List.{append-nil}
use Rattle.std.specs.List.{AllByRecursion, flat_map}
use Rattle.bt_base.specs.Streams.{gained}
use Rattle.bt_base.proofs.PortLaws.{gained-gained, front_none, front_then}
use Rattle.h4_view.specs.declared.refusal.ViewRefusal.{ViewRefusal}
use Rattle.h4_view.specs.declared.refusal.ViewFault.{ViewFault}
use Rattle.h4_view.specs.declared.refusal.ViewFault.TheVariants.{Refused, ReadFault, WriteFault, NoMemory}
use Rattle.h4_view.specs.Lines.{refusal_line}
use Rattle.h4_view.specs.View.{IsRefusal}
use Rattle.h4_view.specs.Viewing.{lines_from, Viewed, OfLines, OfAll, ViewsAs}

pub each_more : {I : Type 0} (P : I → Type 0) (items : List I) (item : I) → AllByRecursion P items → P item → AllByRecursion P (items ++ item ∷ [])
each_more P [] item each is = (is, tt)
each_more P (x ∷ items) item (first, each) is = (first, each_more P items item each is)

-- one item more adds its lines
pub lines_more : {I : Type 0} (octets : I → List ℕ) (lines : List I → ℕ → I → List ℕ) (past : List I) (offset : ℕ) (items : List I) (item : I)
    → lines_from octets lines past offset (items ++ item ∷ []) ≡ lines_from octets lines past offset items ++ lines (past ++ items) (offset + length (flat_map octets items)) item
lines_more octets lines past offset [] item =
    append-nil (lines past offset item) ∙ ap (λ ps. lines ps offset item) (sym (append-nil past)) ∙ ap (λ (k : ℕ). lines (past ++ []) k item) (omega arith)
lines_more octets lines past offset (x ∷ items) item =
    let here : List ℕ = lines past offset x in
    let after : ℕ = offset + length (octets x) in
    ap (λ (t : List ℕ). here ++ t) (lines_more octets lines (past ++ x ∷ []) after items item)
    ∙ sym (append_assoc here (lines_from octets lines (past ++ x ∷ []) after items) (lines ((past ++ x ∷ []) ++ items) (after + length (flat_map octets items)) item))
    ∙ ap (λ ps. (here ++ lines_from octets lines (past ++ x ∷ []) after items) ++ lines ps (after + length (flat_map octets items)) item) (append_assoc past (x ∷ []) items)
    ∙ ap (λ (k : ℕ). (here ++ lines_from octets lines (past ++ x ∷ []) after items) ++ lines (past ++ x ∷ items) k item) (omega (arith, length-append (octets x) (flat_map octets items)))

-- items were shown, and then the view stops
abbrev pub Shows : {I : Type 0} → Viewed I → List ℕ → Option (List ℕ) → Option (List ℕ) → Option (ViewRefusal × ℕ) → Type 0
Shows {I} kind input old new verdict = (items : List I) × kind.is_view input items verdict × (new ≡ gained old (kind.text items))

pub whole_views : {I : Type 0} (kind : Viewed I) (input : List ℕ) (left old new : Option (List ℕ)) (verdict : Option (ViewRefusal × ℕ)) → verdict ≡ None → Shows kind input old new verdict → ViewsAs kind input left old new (Ok tt)
whole_views kind input left old new verdict none shown = subst (Shows kind input old new) none shown

refusal_views : {I : Type 0} (kind : Viewed I) (input : List ℕ) (left old mid new : Option (List ℕ)) (refusal : ViewRefusal) (place : ℕ) (fault : ViewFault) → Shows kind input old mid (Some (refusal, place)) → IsRefusal refusal place mid new fault
    → ViewsAs kind input left old new (Err fault)
refusal_views kind input left old mid new refusal place (Refused refusal' place') (items, view, wrote) (r, p, w) =
    subst (λ (x : ViewRefusal). ViewsAs kind input left old new (Err (Refused x place'))) (sym r) (subst (λ (n : ℕ). ViewsAs kind input left old new (Err (Refused refusal n))) (sym p)
    (items, view, w ∙ ap (λ (c : Option (List ℕ)). gained c (refusal_line refusal place)) wrote ∙ gained-gained old (kind.text items) (refusal_line refusal place)))
refusal_views kind input left old mid new refusal place ReadFault shown is = absurd is
refusal_views kind input left old mid new refusal place WriteFault (items, view, wrote) front = OfAll items refusal place view (front_then old mid new (kind.text items) (refusal_line refusal place) wrote front)
refusal_views kind input left old mid new refusal place NoMemory (items, view, wrote) front = OfAll items refusal place view (front_then old mid new (kind.text items) (refusal_line refusal place) wrote front)

pub refused_views : {I : Type 0} (kind : Viewed I) (input : List ℕ) (left old mid new : Option (List ℕ)) (verdict : Option (ViewRefusal × ℕ)) (refusal : ViewRefusal) (place : ℕ) (fault : ViewFault) → verdict ≡ Some (refusal, place)
    → IsRefusal refusal place mid new fault → Shows kind input old mid verdict → ViewsAs kind input left old new (Err fault)
refused_views kind input left old mid new verdict refusal place fault some written shown = refusal_views kind input left old mid new refusal place fault (subst (Shows kind input old mid) some shown) written

-- what is known of the input where it is told
pub told_then : {P Q : List ℕ → Type 0} (input : Option (List ℕ)) → ((all : List ℕ) → P all → Q all) → IfSome input P → IfSome input Q
told_then None h told = tt
told_then (Some all) h told = h all told

-- nothing was shown for want of memory
pub nothing_views : {I : Type 0} (kind : Viewed I) (input left old : Option (List ℕ)) → ((all : List ℕ) → kind.begins all []) → IfSome input (λ all. ViewsAs kind all left old old (Err NoMemory))
nothing_views kind None left old none = tt
nothing_views kind (Some all) left old none = OfLines [] (none all) (front_none old (kind.text []))
