-- What a run has come to, and how it ends.
use Rattle.std.proofs.Common.{◌≡◌, ◌≢◌, ℕ, ◌+◌, ◌-◌, ◌≤◌, List, [], ◌++◌, length, Option, Some, None, IfSome, Ok, Err, refl, sym, ap, subst, ◌∙◌, append_assoc, arith, inl, inr, length-append}
use Rattle.std.proofs.lemmas.List.{append-nil}
use Rattle.bt_base.specs.Streams.{gained, GainedFront}
use Rattle.bt_base.proofs.PortLaws.{gained-gained, front_none, front_whole, front_then}
use Rattle.item_stream.specs.declared.end.Ending.{Ending}
use Rattle.item_stream.specs.declared.end.Ending.TheVariants.{Refused}
use Rattle.item_stream.specs.declared.end.StreamFault.{StreamFault}
use Rattle.item_stream.specs.declared.end.StreamFault.TheVariants.{ReadFault, WriteFault, NoMemory}
use Rattle.item_stream.specs.declared.teller.Front.{Front}
use Rattle.item_stream.specs.declared.teller.Front.TheVariants as front
use Rattle.item_stream.specs.Telling.{Found, TellsAll}
use Rattle.item_stream.specs.Running.{input_limit, Took, Told, Within, Behind, Ends, IsShort, FrontTold, Runs, IsOfSource, IsOfSink, Standing, EndsAt, EndsAtLimit, Writes}

-- taken in two goes
took_then : (input mid left : Option (List ℕ)) (a b : List ℕ) → Took input mid a → Took mid left b → Took input left (a ++ b)
took_then None None left a b p q = q
took_then None (Some mid) left a b p q = absurd cc
took_then (Some input) None left a b (rest, e, f) q = absurd cc
took_then (Some input) (Some mid) left a b (rest, e, f) (rest', e', f') =
    let same : mid ≡ rest = cc in
    (rest', e ∙ ap (λ (t : List ℕ). a ++ t) (sym same ∙ e') ∙ sym (append_assoc a b rest'), f')

took_none : (input : Option (List ℕ)) → Took input input []
took_none None = refl
took_none (Some all) = (all, refl, refl)

-- what is known of the input where it is told
told : {P : List ℕ → Type 0} (input : Option (List ℕ)) → ((all : List ℕ) → input ≡ Some all → P all) → IfSome input P
told None h = tt
told (Some all) h = h all refl

-- the octets that were taken are the front of the input
taken_front : (input left : Option (List ℕ)) (octets all : List ℕ) → Took input left octets → input ≡ Some all → (rest : List ℕ) × (all ≡ octets ++ rest) × (left ≡ Some rest)
taken_front None left octets all took e = absurd cc
taken_front (Some known) left octets all (rest, whole, left-is) e = let same : known ≡ all = cc in (rest, sym same ∙ whole, left-is)

-- nothing was read yet
pub standing_none : {T : Type 0} (has_told : T → List ℕ → List ℕ → Type 0) (input old new : Option (List ℕ)) (now : T) (opening : List ℕ) → has_told now [] opening → new ≡ gained old opening → Standing has_told input input old new now [] 0
standing_none has_told input old new now opening h wrote = record {
  taken = [];
  said = opening;
  took = took_none input;
  count = refl;
  within = omega arith;
  told = h;
  written = wrote;
}

-- the items that are held were told of, and what was told is written
abbrev pub standing_told : {T : Type 0} (has_told : T → T → List ℕ → List ℕ → Type 0) (first : T) (finds : T → List ℕ → Front → Type 0) (input left old new new' : Option (List ℕ)) (now now' : T) (held held' text : List ℕ) (found : Front) (fed : ℕ)
    → Standing (has_told first) input left old new now held fed → TellsAll has_told finds now now' held held' [] text found → new' ≡ gained new text → Standing (has_told first) input left old new' now' held' fed
standing_told has_told first finds input left old new new' now now' held held' text found fed s tells wrote =
    let more = tells.goes first s.taken s.said s.told in
    record {
      taken = s.taken ++ tells.eaten;
      said = s.said ++ more.0;
      took = subst (λ (t : List ℕ). Took input left t) (ap (λ (t : List ℕ). s.taken ++ t) tells.whole ∙ sym (append_assoc s.taken tells.eaten held')) s.took;
      count = omega (arith, s.count, length-append s.taken tells.eaten, ap length tells.whole, length-append tells.eaten held');
      within = s.within;
      told = more.2;
      written = wrote ∙ ap (λ (c : Option (List ℕ)). gained c text) s.written ∙ gained-gained old s.said text ∙ ap (λ (t : List ℕ). gained old (s.said ++ t)) more.1;
    }

-- a piece more was read
pub standing_fed : {T : Type 0} (has_told : T → List ℕ → List ℕ → Type 0) (input left left' old new : Option (List ℕ)) (now : T) (held xs : List ℕ) (fed n : ℕ)
    → Standing has_told input left old new now held fed → Took left left' xs → length xs ≡ n → fed + n ≤ input_limit → Standing has_told input left' old new now (held ++ xs) (fed + n)
standing_fed has_told input left left' old new now held xs fed n s took size within = record {
  taken = s.taken;
  said = s.said;
  took = subst (λ (t : List ℕ). Took input left' t) (append_assoc s.taken held xs) (took_then input left left' (s.taken ++ held) xs s.took took);
  count = omega (arith, s.count, length-append held xs, size);
  within = within;
  told = s.told;
  written = s.written;
}

-- what was told of the input
told_of : {T : Type 0} (has_told : T → List ℕ → List ℕ → Type 0) (input left old new : Option (List ℕ)) (now : T) (held all : List ℕ) (fed : ℕ) (s : Standing has_told input left old new now held fed) → input ≡ Some all
    → (rest : List ℕ) × (left ≡ Some rest) × Told has_told all now s.taken held rest old new
told_of has_told input left old new now held all fed s e =
    let begin = taken_front input left (s.taken ++ held) all s.took e in
    (begin.0, begin.2, record { said = s.said; whole = begin.1; within = omega (arith, s.count, s.within); told = s.told; wrote = s.written })

-- the same where nothing is left
told_whole : {T : Type 0} (has_told : T → List ℕ → List ℕ → Type 0) (input left old new : Option (List ℕ)) (now : T) (held all : List ℕ) (fed : ℕ) (s : Standing has_told input left old new now held fed) → input ≡ Some all → IfSome left (λ octets. octets ≡ [])
    → Told has_told all now s.taken held [] old new
told_whole has_told input left old new now held all fed s e empty =
    let t = told_of has_told input left old new now held all fed s e in
    let none : t.0 ≡ [] = rw t.1 at empty in
    subst (λ (rest : List ℕ). Told has_told all now s.taken held rest old new) none t.2

-- and nothing is held
told_all : {T : Type 0} (has_told : T → List ℕ → List ℕ → Type 0) (all : List ℕ) (now : T) (taken held : List ℕ) (old new : Option (List ℕ)) → held ≡ [] → Told has_told all now taken held [] old new → Told has_told all now all [] [] old new
told_all has_told all now taken held old new none t =
    let is : all ≡ taken = t.whole ∙ append-nil (taken ++ held) ∙ ap (λ (h : List ℕ). taken ++ h) none ∙ append-nil taken in
    record {
      said = t.said;
      whole = sym (append-nil (all ++ []) ∙ append-nil all);
      within = omega (arith, ap length is, t.within);
      told = subst (λ (x : List ℕ). has_told now x t.said) (sym is) t.told;
      wrote = t.wrote;
    }

-- no item stands at the front of what is held
pub ends_refused : {T : Type 0} (has_told : T → List ℕ → List ℕ → Type 0) (finds : T → List ℕ → Front → Type 0) (input left old new : Option (List ℕ)) (now : T) (held : List ℕ) (fed place : ℕ)
    → Standing has_told input left old new now held fed → Found finds now held front.Refused → place ≡ fed - length held → IfSome input (λ all. Ends has_told finds now all old new (Refused place))
ends_refused has_told finds input left old new now held fed place s found at = told input (λ all e.
    let t = told_of has_told input left old new now held all fed s e in (s.taken, held, t.0, t.2, found, omega (arith, s.count, at)))

-- the input was read to its end
pub ends_at : {T : Type 0} (has_told : T → List ℕ → List ℕ → Type 0) (finds : T → List ℕ → Front → Type 0) (input left old new : Option (List ℕ)) (now : T) (held : List ℕ) (fed place : ℕ) (found : Front) (ending : Ending)
    → Standing has_told input left old new now held fed → Found finds now held found → IfSome left (λ octets. octets ≡ []) → place ≡ fed - length held → EndsAt found place ending → IfSome input (λ all. Ends has_told finds now all old new ending)
ends_at has_told finds input left old new now held fed place (front.Item n) ending s found empty at ends = absurd found
ends_at has_told finds input left old new now held fed place (front.Cut n) ending s found empty at (inl (within, is)) = told input (λ all e.
    subst (λ (x : Ending). Ends has_told finds now all old new x) (sym is)
    (s.taken, held, told_whole has_told input left old new now held all fed s e empty, (n, found, omega (arith, within, s.count, at)), omega (arith, s.count, at)))
ends_at has_told finds input left old new now held fed place (front.Cut n) ending s found empty at (inr (past, is)) = told input (λ all e.
    subst (λ (x : Ending). Ends has_told finds now all old new x) (sym is)
    (s.taken, held, [], told_whole has_told input left old new now held all fed s e empty, Within n found (omega (arith, past, s.count, at)) (inl refl)))
ends_at has_told finds input left old new now held fed place front.Nothing ending s (none, finds') empty at is = told input (λ all e.
    subst (λ (x : Ending). Ends has_told finds now all old new x) (sym is)
    (told_all has_told all now s.taken held old new none (told_whole has_told input left old new now held all fed s e empty), subst (λ (h : List ℕ). finds now h front.Nothing) none finds'))
ends_at has_told finds input left old new now held fed place front.Refused ending s found empty at is =
    subst (λ (x : Ending). IfSome input (λ all. Ends has_told finds now all old new x)) (sym is) (ends_refused has_told finds input left old new now held fed place s found at)

-- it was read up to the greatest length
pub ends_at_limit : {T : Type 0} (has_told : T → List ℕ → List ℕ → Type 0) (finds : T → List ℕ → Front → Type 0) (input left old new : Option (List ℕ)) (now : T) (held : List ℕ) (fed : ℕ) (found : Front) (ending : Ending)
    → Standing has_told input left old new now held fed → Found finds now held found → (found ≡ front.Refused → ⊥) → fed ≡ input_limit → EndsAtLimit found left ending → IfSome input (λ all. Ends has_told finds now all old new ending)
ends_at_limit has_told finds input left old new now held fed (front.Item n) ending s found known full ends = absurd found
ends_at_limit has_told finds input left old new now held fed (front.Cut n) ending s found known full is = told input (λ all e.
    let t = told_of has_told input left old new now held all fed s e in
    subst (λ (x : Ending). Ends has_told finds now all old new x) (sym is) (s.taken, held, t.0, t.2, Within n found (omega (arith, found.0, s.count, full)) (inr (omega (arith, s.count, full)))))
ends_at_limit has_told finds input left old new now held fed front.Nothing ending s (none, finds') known full (inl (is, empty)) =
    ends_at has_told finds input left old new now held fed (fed - length held) front.Nothing ending s (none, finds') empty refl is
ends_at_limit has_told finds input left old new now held fed front.Nothing ending s (none, finds') known full (inr (is, more)) = told input (λ all e.
    let t = told_of has_told input left old new now held all fed s e in
    let more' : t.0 ≢ [] = rw t.1 at more in
    let size : length s.taken ≡ input_limit = omega (arith, s.count, full, ap length none) in
    subst (λ (x : Ending). Ends has_told finds now all old new x) (sym is) (s.taken, held, t.0, t.2, Behind none (subst (λ (h : List ℕ). finds now h front.Nothing) none finds') size more'))
ends_at_limit has_told finds input left old new now held fed front.Refused ending s found known full ends = absurd (known refl)

-- what was told of items that the input begins with
front_stands : {T : Type 0} (has_told : T → List ℕ → List ℕ → Type 0) (input left old new : Option (List ℕ)) (now : T) (held : List ℕ) (fed : ℕ) → Standing has_told input left old new now held fed → IfSome input (λ all. FrontTold has_told all old new)
front_stands has_told input left old new now held fed s = told input (λ all e.
    let t = told_of has_told input left old new now held all fed s e in
    record { then_ = now; taken = s.taken; left = held ++ t.0; said = s.said; whole = t.2.whole ∙ append_assoc s.taken held t.0; within = omega (arith, t.2.within); told = s.told; wrote = front_whole old new s.said s.written })

-- a front of what is told of those that are held was written
front_more : {T : Type 0} (has_told : T → T → List ℕ → List ℕ → Type 0) (first : T) (finds : T → List ℕ → Front → Type 0) (input left old new new' : Option (List ℕ)) (now now' : T) (held held' added : List ℕ) (found : Front) (fed : ℕ)
    → Standing (has_told first) input left old new now held fed → TellsAll has_told finds now now' held held' [] added found → GainedFront new new' added → IfSome input (λ all. FrontTold (has_told first) all old new')
front_more has_told first finds input left old new new' now now' held held' added found fed s tells front = told input (λ all e.
    let s' = standing_told has_told first finds input left old new (gained new added) now now' held held' added found fed s tells refl in
    let t = told_of (has_told first) input left old (gained new added) now' held' all fed s' e in
    record {
      then_ = now';
      taken = s'.taken;
      left = held' ++ t.0;
      said = s'.said;
      whole = t.2.whole ∙ append_assoc s'.taken held' t.0;
      within = omega (arith, t.2.within);
      told = s'.told;
      wrote = subst (λ (x : List ℕ). GainedFront old new' (s.said ++ x)) (tells.goes first s.taken s.said s.told).1 (front_then old new new' s.said added s.written front);
    })

-- a fault of the sink
pub sink_fault : {T : Type 0} (has_told : T → T → List ℕ → List ℕ → Type 0) (first : T) (finds : T → List ℕ → Front → Type 0) (input left old new new' : Option (List ℕ)) (now now' : T) (held held' : List ℕ) (fed : ℕ) (fault : StreamFault)
    → Standing (has_told first) input left old new now held fed → IsOfSink fault → Writes has_told finds now now' held held' new new' (Err fault) → IfSome input (λ all. Runs (has_told first) finds now' all left old new' (Err fault))
sink_fault has_told first finds input left old new new' now now' held held' fed ReadFault s sink writes = absurd sink
sink_fault has_told first finds input left old new new' now now' held held' fed WriteFault s sink (inl same) = subst (λ (c : Option (List ℕ)). IfSome input (λ all. FrontTold (has_told first) all old c)) (sym same) (front_stands (has_told first) input left old new now held fed s)
sink_fault has_told first finds input left old new new' now now' held held' fed WriteFault s sink (inr (rest, added, found, tells, front)) = front_more has_told first finds input left old new new' now now' held rest added found fed s tells front
sink_fault has_told first finds input left old new new' now now' held held' fed NoMemory s sink (inl same) = subst (λ (c : Option (List ℕ)). IfSome input (λ all. FrontTold (has_told first) all old c)) (sym same) (front_stands (has_told first) input left old new now held fed s)
sink_fault has_told first finds input left old new new' now now' held held' fed NoMemory s sink (inr (rest, added, found, tells, front)) = front_more has_told first finds input left old new new' now now' held rest added found fed s tells front

short : {T : Type 0} (finds : T → List ℕ → Front → Type 0) (now : T) (held : List ℕ) (found : Front) → Found finds now held found → (found ≡ front.Refused → ⊥) → IsShort finds now held
short finds now held (front.Item n) found known = absurd found
short finds now held (front.Cut n) found known = inr (n, found)
short finds now held front.Nothing found known = inl found
short finds now held front.Refused found known = absurd (known refl)

-- a fault of the source
pub source_fault : {T : Type 0} (has_told : T → List ℕ → List ℕ → Type 0) (finds : T → List ℕ → Front → Type 0) (input left left' old new : Option (List ℕ)) (now : T) (held : List ℕ) (fed : ℕ) (found : Front) (fault : StreamFault)
    → Standing has_told input left old new now held fed → Found finds now held found → (found ≡ front.Refused → ⊥) → IsOfSource fault → left' ≡ left → IfSome input (λ all. Runs has_told finds now all left' old new (Err fault))
source_fault has_told finds input left left' old new now held fed found ReadFault s is known source kept = told input (λ all e.
    let t = told_of has_told input left old new now held all fed s e in
    (s.taken, held, t.0, t.2, kept ∙ t.1, short finds now held found is known))
source_fault has_told finds input left left' old new now held fed found WriteFault s is known source kept = absurd source
source_fault has_told finds input left left' old new now held fed found NoMemory s is known source kept = front_stands has_told input left old new now held fed s

-- want of memory
pub memory_fault : {T : Type 0} (has_told : T → List ℕ → List ℕ → Type 0) (finds : T → List ℕ → Front → Type 0) (input left left' old new : Option (List ℕ)) (now now' : T) (held : List ℕ) (fed : ℕ)
    → Standing has_told input left old new now held fed → IfSome input (λ all. Runs has_told finds now' all left' old new (Err NoMemory))
memory_fault has_told finds input left left' old new now now' held fed s = front_stands has_told input left old new now held fed s

-- the items that were held were told of, and a piece more was read
pub goes_on : {T : Type 0} (has_told : T → T → List ℕ → List ℕ → Type 0) (first : T) (finds : T → List ℕ → Front → Type 0) (input left left' old new new' : Option (List ℕ)) (now now' : T) (held held' held'' xs : List ℕ) (found : Front) (fed fed' n : ℕ)
    → Writes has_told finds now now' held held' new new' (Ok found) → Took left left' xs → length xs ≡ n → fed' ≡ fed → fed' + n ≤ input_limit → held'' ≡ held' ++ xs
    → Standing (has_told first) input left old new now held fed → Standing (has_told first) input left' old new' now' held'' (fed' + n)
goes_on has_told first finds input left left' old new new' now now' held held' held'' xs found fed fed' n writes took size same within items s =
    let told' = standing_told has_told first finds input left old new new' now now' held held' writes.0 found fed s writes.1 writes.2 in
    let s' : Standing (has_told first) input left old new' now' held' fed' = subst (λ (k : ℕ). Standing (has_told first) input left old new' now' held' k) (sym same) told' in
    subst (λ (h : List ℕ). Standing (has_told first) input left' old new' now' h (fed' + n)) (sym items) (standing_fed (has_told first) input left left' old new' now' held' xs fed' n s' took size within)

-- the octets that are held were read
pub held_within : {T : Type 0} (has_told : T → List ℕ → List ℕ → Type 0) (input left old new : Option (List ℕ)) (now : T) (held : List ℕ) (fed : ℕ) → Standing has_told input left old new now held fed → length held ≤ fed
held_within has_told input left old new now held fed s = omega (arith, s.count)

-- a new run, which holds nothing
pub standing_new : {T : Type 0} (has_told : T → List ℕ → List ℕ → Type 0) (input old new : Option (List ℕ)) (now : T) (opening held : List ℕ) → held ≡ [] → has_told now [] opening → new ≡ gained old opening → Standing has_told input input old new now held 0
standing_new has_told input old new now opening held none h wrote = subst (λ (t : List ℕ). Standing has_told input input old new now t 0) (sym none) (standing_none has_told input old new now opening h wrote)

-- a front of the opening was written
opening_front : {T : Type 0} (has_told : T → List ℕ → List ℕ → Type 0) (input old new : Option (List ℕ)) (now : T) (opening : List ℕ) → has_told now [] opening → GainedFront old new opening → IfSome input (λ all. FrontTold has_told all old new)
opening_front has_told input old new now opening h front = told input (λ all e. record { then_ = now; taken = []; left = all; said = opening; whole = refl; within = omega arith; told = h; wrote = front })

-- nothing was told but a front of the opening
pub opening_fault : {T : Type 0} (has_told : T → List ℕ → List ℕ → Type 0) (finds : T → List ℕ → Front → Type 0) (input left old new : Option (List ℕ)) (now : T) (opening : List ℕ) (fault : StreamFault) → has_told now [] opening → GainedFront old new opening → IsOfSink fault
    → IfSome input (λ all. Runs has_told finds now all left old new (Err fault))
opening_fault has_told finds input left old new now opening ReadFault h front sink = absurd sink
opening_fault has_told finds input left old new now opening WriteFault h front sink = opening_front has_told input old new now opening h front
opening_fault has_told finds input left old new now opening NoMemory h front sink = opening_front has_told input old new now opening h front

-- no memory could be had for the run
pub nothing_told : {T : Type 0} (has_told : T → List ℕ → List ℕ → Type 0) (finds : T → List ℕ → Front → Type 0) (input left old : Option (List ℕ)) (now : T) (opening : List ℕ) → has_told now [] opening → IfSome input (λ all. Runs has_told finds now all left old old (Err NoMemory))
nothing_told has_told finds input left old now opening h = opening_front has_told input old old now opening h (front_none old opening)
