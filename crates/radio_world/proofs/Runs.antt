-- The words of runs, run by run.
use Rattle.std.proofs.Common.{◌≡◌, ℕ, ◌+◌, ◌-◌, ◌*◌, ◌≤◌, ◌<◌, length-append, zero, suc, List, [], ◌∷◌, ◌++◌, length, take, drop, replicate, Some, None, append_assoc, sym, ap, subst, ◌∙◌, arith}
use Rattle.std.specs.List.{slice_get, AllByRecursion}
use Rattle.std.proofs.lemmas.List.{append-nil, length-replicate, replicate-append-replicate, take-append-drop}
use Rattle.std.proofs.lemmas.Grind.{flat_map-append}
use Rattle.std.proofs.lemmas.Option.{slice_get_within, slice_get-get_or}
use Rattle.std.proofs.Math.Seq.{take-suc}
use Rattle.push_terms.specs.declared.word.Word.{Word}
use Rattle.push_terms.specs.Words.{IsWord}
use Rattle.push_script.specs.Runs.{IsRun}
use Rattle.capture.specs.Air.{words_of}
use Rattle.radio_world.specs.Crowds.{ScriptsAreCounted}

pub once_more : (n : ℕ) (word : Word) → replicate n word ++ word ∷ [] ≡ replicate (n + 1) word
once_more n word = replicate-append-replicate n 1 word

same_some : (x y : ℕ × Word) → Some x ≡ Some y → x ≡ y
same_some x y e = cc

one_run : (count : ℕ) (word : Word) → words_of ((count, word) ∷ []) ≡ replicate count word
one_run count word = append-nil (replicate count word)

pub run_more : (runs : List (ℕ × Word)) (i count : ℕ) (word : Word) → slice_get runs i ≡ Some (count, word) → words_of (take i runs) ++ replicate count word ≡ words_of (take (i + 1) runs)
run_more runs i count word is =
    let within : i < length runs = slice_get_within runs i (count, word) is in
    let got = same_some _ _ (sym is ∙ slice_get-get_or runs i (count, word) within) in
    let next : i + 1 ≡ suc i = omega arith in
    sym (ap (λ n. words_of (take n runs)) next ∙ ap words_of (take-suc runs i (count, word) within) ∙ ap (λ x. words_of (take i runs ++ x ∷ [])) (sym got)
    ∙ flat_map-append (λ run. replicate run.0 run.1) (take i runs) ((count, word) ∷ []) ∙ ap (λ xs. words_of (take i runs) ++ xs) (one_run count word))

pub none_beyond : (runs : List (ℕ × Word)) (i n : ℕ) → n ≡ length runs → i < n → slice_get runs i ≡ None → ⊥
none_beyond runs i n is below none =
    let within : i < length runs = omega (arith, is, below) in
    some_there runs i within none
  where
    some_there : (runs : List (ℕ × Word)) (i : ℕ) → i < length runs → slice_get runs i ≡ None → ⊥
    some_there [] i within none = absurd (omega arith)
    some_there (run ∷ runs) i within none = let e = slice_get-get_or (run ∷ runs) i run within in absurd cc

-- turned so often and then the rest of the time, it is turned as often as it stands
pub times_and_rest : (done count : ℕ) (word : Word) → done < count → replicate done word ++ replicate (count - done) word ≡ replicate count word
times_and_rest done count word below =
    let whole : done + (count - done) ≡ count = omega (arith, below) in
    replicate-append-replicate done (count - done) word ∙ ap (λ n. replicate n word) whole

-- the words that come behind one that is turned
pub times_and_one : (done count : ℕ) (word : Word) → done < count → replicate count word ≡ replicate done word ++ ((word ∷ []) ++ replicate (count - (done + 1)) word)
times_and_one done count word below =
    let whole : count ≡ done + suc (count - (done + 1)) = omega (arith, below) in
    ap (λ n. replicate n word) whole ∙ sym (replicate-append-replicate done (suc (count - (done + 1))) word)

-- and those behind a run
pub runs_behind : (runs : List (ℕ × Word)) (i count : ℕ) (word : Word) → slice_get runs i ≡ Some (count, word) → words_of runs ≡ words_of (take i runs) ++ (replicate count word ++ words_of (drop (i + 1) runs))
runs_behind runs i count word is =
    ap words_of (sym (take-append-drop (i + 1) runs)) ∙ flat_map-append (λ run. replicate run.0 run.1) (take (i + 1) runs) (drop (i + 1) runs)
    ∙ ap (λ ws. ws ++ words_of (drop (i + 1) runs)) (sym (run_more runs i count word is)) ∙ append_assoc (words_of (take i runs)) (replicate count word) (words_of (drop (i + 1) runs))

-- each word of a script is one
pub word_at : (runs : List (ℕ × Word)) (i count : ℕ) (word : Word) → AllByRecursion IsRun runs → slice_get runs i ≡ Some (count, word) → IsWord word
word_at runs i count word are is = (run_at runs i (count, word) are is).2
  where
    run_at : (runs : List (ℕ × Word)) (i : ℕ) (run : ℕ × Word) → AllByRecursion IsRun runs → slice_get runs i ≡ Some run → IsRun run
    run_at [] i run are is = absurd cc
    run_at (first ∷ runs) zero run are is = let same : first ≡ run = cc in subst IsRun same are.0
    run_at (first ∷ runs) (suc i) run are is = run_at runs i run are.1 is

-- ---- how many words there are

few_words : (runs : List (ℕ × Word)) → AllByRecursion IsRun runs → length (words_of runs) ≤ 4294967295 * length runs
few_words [] are = omega arith
few_words ((count, word) ∷ runs) (is, are) =
    let low = is.1 in
    let more = few_words runs are in
    let long = length-replicate count word in
    let both = length-append (replicate count word) (words_of runs) in
    omega arith

pub scripts_are_counted : ScriptsAreCounted
scripts_are_counted script are few = let words = few_words script are in omega arith
