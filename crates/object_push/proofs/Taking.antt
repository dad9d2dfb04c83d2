-- What is kept of an input is read as the whole input.
use Rattle.std.proofs.Common.{◌≡◌, ℕ, ◌<◌, ◌≤◌, List, [], ◌∷◌, length, length-append, take, Bool, false, Option, Some, None, IfSome, Ok, Err, refl, sym, ap, ◌∙◌, arith, inl, inr}
use Rattle.std.specs.Prelude.{◌^◌, is_some, replicate}
use Rattle.std.proofs.lemmas.Bool.{cases_lt, lt-ltb}
use Rattle.std.proofs.lemmas.List.{take_all, length-take, length-replicate, drop_all}
use Rattle.bt_base.specs.Objects.{Object, Contents}
use Rattle.scenario_play.specs.capture.specs.Air.{words_of}
use Rattle.push_terms.specs.declared.word.Word.{Word}
use Rattle.push_script.specs.declared.scenario.Scenario.{Scenario}
use Rattle.push_script.specs.declared.refusal.ScriptRefusal.{ScriptRefusal}
use Rattle.push_script.specs.declared.refusal.ScriptRefusal.TheVariants.{TooLong}
use Rattle.push_script.specs.Turns.{word_count}
use Rattle.push_script.proofs.FewWords.{has_few_words}
use Rattle.push_script.specs.Reading.{Script, reading, script_of, text_limit}
use Rattle.push_script.specs.Refusals.{refusal_line}
use Rattle.push_script.proofs.FewWords.{has_few_runs}
use Rattle.btpush_forms.specs.declared.status.Status.{Status}
use Rattle.btpush_forms.specs.Gathering.{kept_limit, reading_limit, unread}
use Rattle.btpush_forms.specs.Refusing.{Refuses}
use Rattle.object_push.specs.Ports.{Ports}
use Rattle.object_push.specs.Pushing.{Pushes, NotTaken, Taken}
use Rattle.object_push.specs.Running.{Runs}
use Rattle.object_push.specs.Told.{RunsTell}

-- a text that is too long
too_long : (text : List ℕ) → text_limit < length text → reading text ≡ Err (0, TooLong)
unfolding reading
too_long text lt = rw (lt-ltb text_limit (length text) lt) refl

-- a text that is a scenario is short enough
pub short_read : (text : List ℕ) (script : Script) → reading text ≡ Ok script → length text ≤ text_limit
short_read text script h = (has_few_runs text script h).1

reading_kept : (input : List ℕ) → reading (take kept_limit input) ≡ reading input
reading_kept input = elim (cases_lt text_limit (length input)) [
  | inl lt ↦ too_long (take kept_limit input) (omega (arith, length-take kept_limit input)) ∙ sym (too_long input lt)
  | inr ge ↦ ap reading (take_all kept_limit input (omega arith))
]

-- the same of an input that is told
pub if_some : {A : Type 0} {P Q : A → Type 0} (o : Option A) → ((x : A) → P x → Q x) → IfSome o P → IfSome o Q
if_some None h p = tt
if_some (Some x) h p = h x p

pub not_taken : (input text given : List ℕ) (left : Option (List ℕ)) (old new : Ports) (Untouched : Type 0) (line : ℕ) (refusal : ScriptRefusal) (result : Status)
    → text ≡ take kept_limit input → given ≡ text → left ≡ unread input → reading given ≡ Err (line, refusal) → Refuses (refusal_line line refusal) old.sink.content new.sink.content result → Untouched
    → Pushes input left old new Untouched result
not_taken input text given left old new Untouched line refusal result e f l read refuses same =
    NotTaken line refusal l (sym (reading_kept input) ∙ ap reading (sym e ∙ sym f) ∙ read) refuses same

counted : (runs : List (ℕ × Word)) → length (words_of runs) ≡ word_count runs
counted [] = refl
counted ((count, word) ∷ runs) =
    let more = counted runs in
    let long = length-replicate count word in
    let both = length-append (replicate count word) (words_of runs) in
    omega arith

-- the words of a scenario that was read can be counted
few_words : (text : List ℕ) (scenario : Scenario) → reading text ≡ Ok (script_of scenario) → length (words_of scenario.script) < 2 ^ 64
few_words text scenario read =
    let few = has_few_words text (script_of scenario) read in
    let same = counted scenario.script in
    omega arith

-- an inbox in which no object is pending, where it tells what it holds
pub none_pending : (content : Option Contents) (pending : Bool) → IfSome content (λ held. is_some held.pending ≡ pending) → pending ≡ false → IfSome content (λ held. held.pending ≡ None)
none_pending None pending told none = tt
none_pending (Some held) pending told none = nothing held.pending (told ∙ none)
  where
    nothing : (object : Option Object) → is_some object ≡ false → object ≡ None
    nothing None is = refl
    nothing (Some object) is = absurd cc

-- a scenario is kept whole, and nothing behind it is left
pub taken : RunsTell → (input text given : List ℕ) (left : Option (List ℕ)) (old new : Ports) (Untouched : Type 0) (scenario : Scenario) (result : Status)
    → text ≡ take kept_limit input → given ≡ text → left ≡ unread input → reading given ≡ Ok (script_of scenario) → IfSome old.inbox.content (λ held. held.pending ≡ None) → Runs scenario old new result → Pushes input left old new Untouched result
taken law input text given left old new Untouched scenario result e f l read none runs =
    let whole : reading input ≡ Ok (script_of scenario) = sym (reading_kept input) ∙ ap (λ (t : List ℕ). reading t) (sym e ∙ sym f) ∙ read in
    let short : length input ≤ text_limit = short_read input (script_of scenario) whole in
    let nothing : left ≡ Some [] = l ∙ ap (λ (t : List ℕ). Some t) (drop_all reading_limit input (omega (arith, short))) in
    Taken scenario nothing whole (law scenario old new result none (few_words input scenario whole) runs)
