-- What an inbox had stored stays in front, whatever it is asked to do.
use Rattle.std.proofs.Common.{◌≡◌, ℕ, ◌+◌, ◌-◌, ◌≤◌, true, Bool, List, [], ◌∷◌, ◌++◌, length, take, Option, Some, None, Result, Ok, Err, refl, sym, ap, ◌∙◌, subst, arith, length-append}
use Rattle.std.specs.Prelude.{min, is_some, IfSome, option_to_list}
use Rattle.std.specs.Option.{option_map}
use Rattle.std.proofs.lemmas.List.{take-append-le}
use Rattle.bt_base.specs.Objects.{Object, Contents, aborted, committed, stepped}
use Rattle.bt_base.specs.declared.ports.PortFault.{PortFault}
use Rattle.watched_ports.specs.Gains.{most_kept, HasKept, Keeps}

same_option : {A : Type 0} (x y : A) → Some x ≡ Some y → x ≡ y
same_option x y same = cc

-- nothing is stored
pub stays : (past old new : Option Contents) (kept : ℕ) (step : Contents → Contents) → ((contents : Contents) → (step contents).stored ≡ contents.stored) → new ≡ option_map step old → Keeps past kept old → Keeps past kept new
stays past None new kept step same is keeps before after was now = let none : None ≡ Some after = sym is ∙ now in absurd cc
stays past (Some contents) new kept step same is keeps before after was now =
    let there : step contents ≡ after = same_option (step contents) after (sym is ∙ now) in
    let stored : contents.stored ≡ after.stored = sym (same contents) ∙ ap (λ (c : Contents). c.stored) there in
    let so = keeps before contents was refl in
    record {
      more = subst (λ (xs : List Object). length before.stored ≤ length xs) stored so.more;
      front = subst (λ (xs : List Object). take (length before.stored) xs ≡ before.stored) stored so.front;
      counted = subst (λ (xs : List Object). kept ≡ min (length xs - length before.stored) most_kept) stored so.counted;
    }

pub stays_after : {A : Type 0} (result : Result A PortFault) (past old new : Option Contents) (kept : ℕ) (step : Contents → Contents) → ((contents : Contents) → (step contents).stored ≡ contents.stored) → new ≡ stepped result step old → Keeps past kept old
    → Keeps past kept new
stays_after (Ok done) past old new kept step same is keeps = stays past old new kept step same is keeps
stays_after (Err fault) past old new kept step same is keeps = stays past old new kept aborted (λ contents. refl) is keeps

-- an inbox with an object pending tells one, where it tells its content
pub pending_told : (content : Option Contents) (pending : Bool) → IfSome content (λ contents. is_some contents.pending ≡ pending) → pending ≡ true → IfSome content (λ contents. is_some contents.pending ≡ true)
pending_told None pending told is = tt
pending_told (Some contents) pending told is = told ∙ is

-- an object is stored
one_more : (xs : List Object) (pending : Option Object) → is_some pending ≡ true → length (xs ++ option_to_list pending) ≡ length xs + 1
one_more xs None some = absurd cc
one_more xs (Some object) some = length-append xs (object ∷ [])

pub grows : (past old new : Option Contents) (kept kept' : ℕ) → IfSome old (λ contents. is_some contents.pending ≡ true) → new ≡ option_map committed old → kept' ≡ min (kept + 1) most_kept → Keeps past kept old → Keeps past kept' new
grows past None new kept kept' told is counted keeps before after was now = let none : None ≡ Some after = sym is ∙ now in absurd cc
grows past (Some contents) new kept kept' told is counted keeps before after was now =
    let there : committed contents ≡ after = same_option (committed contents) after (sym is ∙ now) in
    let so = keeps before contents was refl in
    let more = one_more contents.stored contents.pending told in
    subst (λ (c : Contents). HasKept before kept' c) there (record {
      more = omega (arith, so.more, more);
      front = take-append-le (length before.stored) contents.stored (option_to_list contents.pending) so.more ∙ so.front;
      counted = omega (arith, so.more, so.counted, more, counted);
    })
