-- Items that are told of one after the other.
use Rattle.std.proofs.Common.{◌≡◌, ℕ, ◌+◌, ◌-◌, ◌≤◌, List, [], ◌++◌, length, take, drop, refl, sym, ap, subst, ◌∙◌, append_assoc, arith, length-drop}
use Rattle.std.proofs.lemmas.List.{append-nil, take-append-drop, take_all, drop-drop}
use Rattle.item_stream.specs.declared.teller.Front.{Front}
use Rattle.item_stream.specs.declared.teller.Front.TheVariants.{Item, Cut, Nothing, Refused}
use Rattle.item_stream.specs.Telling.{GoesOn, Tells, Found, TellsAll}

-- some items at the front of octets were taken and told of, and these octets are left
pub record HasTold {T : Type 0} (has_told : T → T → List ℕ → List ℕ → Type 0) (old new : T) (octets rest text text' : List ℕ) : Type 0 where
  pub eaten : List ℕ
  pub whole : octets ≡ eaten ++ rest
  pub goes : GoesOn has_told old new eaten text text'

pub told_none : {T : Type 0} (has_told : T → T → List ℕ → List ℕ → Type 0) (now : T) (octets text : List ℕ) → HasTold has_told now now octets octets text text
told_none has_told now octets text = record {
  eaten = [];
  whole = refl;
  goes = λ first before said h. (
    [],
    sym (append-nil text),
    subst (λ (b : List ℕ). has_told first now b (said ++ [])) (sym (append-nil before)) (subst (λ (s : List ℕ). has_told first now before s) (sym (append-nil said)) h),
  );
}

-- one item more
pub told_item : {T : Type 0} (has_told : T → T → List ℕ → List ℕ → Type 0) (finds : T → List ℕ → Front → Type 0) (old mid new : T) (octets rest text text' text'' : List ℕ) (n : ℕ)
    → HasTold has_told old mid octets rest text text' → Tells has_told finds mid new rest text' text'' (Item n) → HasTold has_told old new octets (drop n rest) text text''
told_item has_told finds old mid new octets rest text text' text'' n so_far (some, within, goes) = record {
  eaten = so_far.eaten ++ take n rest;
  whole = so_far.whole ∙ ap (λ (t : List ℕ). so_far.eaten ++ t) (sym (take-append-drop n rest)) ∙ sym (append_assoc so_far.eaten (take n rest) (drop n rest));
  goes = λ first before said h.
      let one = so_far.goes first before said h in
      let two = goes first (before ++ so_far.eaten) (said ++ one.0) one.2 in (
        one.0 ++ two.0,
        two.1 ∙ ap (λ (t : List ℕ). t ++ two.0) one.1 ∙ append_assoc text one.0 two.0,
        subst (λ (b : List ℕ). has_told first new b (said ++ (one.0 ++ two.0))) (append_assoc before so_far.eaten (take n rest))
            (subst (λ (s : List ℕ). has_told first new ((before ++ so_far.eaten) ++ take n rest) s) (append_assoc said one.0 two.0) two.2),
      );
}

-- and then no whole item
pub told_last : {T : Type 0} (has_told : T → T → List ℕ → List ℕ → Type 0) (finds : T → List ℕ → Front → Type 0) (old mid new : T) (octets rest text text' text'' : List ℕ) (front : Front)
    → HasTold has_told old mid octets rest text text' → text'' ≡ text' → ((first : T) (before said : List ℕ) → has_told first mid before said → has_told first new before said) → Found finds new rest front
    → TellsAll has_told finds old new octets rest text text'' front
told_last has_told finds old mid new octets rest text text' text'' front so_far same stays found = record {
  eaten = so_far.eaten;
  whole = so_far.whole;
  goes = λ first before said h. let one = so_far.goes first before said h in (one.0, same ∙ one.1, stays first (before ++ so_far.eaten) (said ++ one.0) one.2);
  found = found;
}

pub told_all : {T : Type 0} (has_told : T → T → List ℕ → List ℕ → Type 0) (finds : T → List ℕ → Front → Type 0) (old mid new : T) (octets rest text text' text'' : List ℕ) (front : Front)
    → HasTold has_told old mid octets rest text text' → ((n : ℕ) → front ≡ Item n → ⊥) → Tells has_told finds mid new rest text' text'' front → TellsAll has_told finds old new octets rest text text'' front
told_all has_told finds old mid new octets rest text text' text'' (Item n) so_far none tells = absurd (none n refl)
told_all has_told finds old mid new octets rest text text' text'' (Cut n) so_far none (short, most, finds', (same, stays)) = told_last has_told finds old mid new octets rest text text' text'' (Cut n) so_far same stays (short, most, finds')
told_all has_told finds old mid new octets rest text text' text'' Nothing so_far none (empty, finds', (same, stays)) = told_last has_told finds old mid new octets rest text text' text'' Nothing so_far same stays (empty, finds')
told_all has_told finds old mid new octets rest text text' text'' Refused so_far none (some, finds', (same, stays)) = told_last has_told finds old mid new octets rest text text' text'' Refused so_far same stays (some, finds')

-- what stands behind a place of octets
behind : (octets : List ℕ) (used : ℕ) → take (length octets - used) (drop used octets) ≡ drop used octets
behind octets used = take_all (length octets - used) (drop used octets) (omega (arith, length-drop used octets))

-- an item behind that place
pub told_next : {T : Type 0} (has_told : T → T → List ℕ → List ℕ → Type 0) (finds : T → List ℕ → Front → Type 0) (old mid new : T) (octets text text' text'' : List ℕ) (used n : ℕ) (front : Front)
    → (used ≤ length octets) × HasTold has_told old mid octets (drop used octets) text text' → front ≡ Item n → Tells has_told finds mid new (take (length octets - used) (drop used octets)) text' text'' front
    → (used + n ≤ length octets) × HasTold has_told old new octets (drop (used + n) octets) text text''
told_next has_told finds old mid new octets text text' text'' used n front (within, so_far) is tells =
    let tells' : Tells has_told finds mid new (drop used octets) text' text'' (Item n) = subst (λ (f : Front). Tells has_told finds mid new (drop used octets) text' text'' f) is (subst (λ (t : List ℕ). Tells has_told finds mid new t text' text'' front) (behind octets used) tells) in (
      omega (arith, tells'.1, length-drop used octets, within),
      subst (λ (t : List ℕ). HasTold has_told old new octets t text text'') (drop-drop n used octets) (told_item has_told finds old mid new octets (drop used octets) text text' text'' n so_far tells'),
    )

-- no item behind that place
pub told_end : {T : Type 0} (has_told : T → T → List ℕ → List ℕ → Type 0) (finds : T → List ℕ → Front → Type 0) (old mid new : T) (octets text text' text'' : List ℕ) (used : ℕ) (front : Front)
    → (used ≤ length octets) × HasTold has_told old mid octets (drop used octets) text text' → ((n : ℕ) → front ≡ Item n → ⊥) → Tells has_told finds mid new (take (length octets - used) (drop used octets)) text' text'' front
    → (used ≤ length octets) × TellsAll has_told finds old new octets (drop used octets) text text'' front
told_end has_told finds old mid new octets text text' text'' used front (within, so_far) none tells =
    (within, told_all has_told finds old mid new octets (drop used octets) text text' text'' front so_far none (subst (λ (t : List ℕ). Tells has_told finds mid new t text' text'' front) (behind octets used) tells))
