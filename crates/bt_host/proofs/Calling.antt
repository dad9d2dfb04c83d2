-- Calls that ask a port, one after the other.
use Rattle.std.proofs.Common.{◌≡◌, ◌∙◌, Bool, false, List, [], ◌++◌, sym, ap, append_assoc}
use Rattle.std.specs.Prelude.{Result, Ok, Err, OnErr, OnOk, is_err}
use Rattle.bt_host.specs.Calls.{Does, JoinAnswers}

module _ {G P : Type 0} (Answers : P → List G → P → Type 0) (join : JoinAnswers Answers) where
  -- a port that is not asked
  pub does_none : {S : Type 0} (before after : List G → S) (port : P) → ((rest : List G) → before rest ≡ after rest) → Does Answers before after port port
  does_none before after port same = record { used = []; answered = join.none port; does = same }

  -- one call behind the other
  pub does_then : {S : Type 0} (before mid after : List G → S) (first second last : P) → Does Answers before mid first second → Does Answers mid after second last → Does Answers before after first last
  does_then before mid after first second last one two = record {
    used = one.used ++ two.used;
    answered = join.then first second last one.used two.used one.answered two.answered;
    does = λ rest. ap before (append_assoc one.used two.used rest) ∙ one.does (two.used ++ rest) ∙ two.does rest;
  }

module _ {G P : Type 0} (Answers : P → List G → P → Type 0) where
  -- the same call under a function
  pub does_map : {S T : Type 0} (f : S → T) (before after : List G → S) (port port' : P) → Does Answers before after port port' → Does Answers (λ rest. f (before rest)) (λ rest. f (after rest)) port port'
  does_map f before after port port' one = record { used = one.used; answered = one.answered; does = λ rest. ap f (one.does rest) }

  pub does_from : {S : Type 0} (other before after : List G → S) (port port' : P) → ((rest : List G) → other rest ≡ before rest) → Does Answers before after port port' → Does Answers other after port port'
  does_from other before after port port' same one = record { used = one.used; answered = one.answered; does = λ rest. same (one.used ++ rest) ∙ one.does rest }

  pub does_to : {S : Type 0} (before after other : List G → S) (port port' : P) → ((rest : List G) → after rest ≡ other rest) → Does Answers before after port port' → Does Answers before other port port'
  does_to before after other port port' same one = record { used = one.used; answered = one.answered; does = λ rest. one.does rest ∙ same rest }

-- what holds anyhow
pub on_err_anyhow : {A E : Type 0} {X : Type 0} (result : Result A E) → X → OnErr result X
on_err_anyhow (Ok done) x = tt
on_err_anyhow (Err fault) x = x

-- what holds of a call that did not fail, where it answers that it did
pub on_ok_works : {A E : Type 0} {X : Type 0} (result : Result A E) (failed : Bool) → is_err result ≡ failed → (failed ≡ false → X) → OnOk result X
on_ok_works (Ok done) failed is x = x (sym is)
on_ok_works (Err fault) failed is x = tt
