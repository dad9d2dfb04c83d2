-- A scenario that is read has no more runs of words than its text has octets, and so its words are few.
use Rattle.std.proofs.Common.{◌≡◌, ℕ, ◌+◌, ◌*◌, ◌≤◌, Bool, true, false, cond, List, [], ◌∷◌, ◌++◌, length, Option, Result, Ok, Err, refl, ap, subst, arith}
use Rattle.std.specs.Prelude.{◌==◌, nat_lt, codes, take, count_by}
use Rattle.std.specs.Str.{bytes_eq, is_utf8}
use Rattle.std.specs.Str.Lossy.{utf8_valid_len}
use Rattle.std.proofs.lemmas.Bool.{ltb-false}
use Rattle.std.proofs.lemmas.List.{length_push}
use Rattle.bt_base.specs.declared.settings.Transport.{Transport}
use Rattle.push_script.specs.declared.refusal.ScriptRefusal.{ScriptRefusal}
use Rattle.push_script.specs.declared.refusal.ScriptRefusal.TheVariants.{BadLine, UnknownKey, OutOfRange, NotUtf8, TooLong}
use Rattle.push_script.specs.declared.stated.Key.{Key}
use Rattle.push_script.specs.declared.stated.Key.TheVariants as keyed
use Rattle.push_terms.specs.declared.word.Word.{Word}
use Rattle.push_script.specs.Keys.{◌>>=◌, or_refusal, key_of, with_key}
use Rattle.push_script.specs.Laws.{RunsAreFew, WordsAreFew}
use Rattle.script_words.specs.Parts.{first_word, rest_of, number_of}
use Rattle.script_words.specs.Words.{said_of, word_within}
use Rattle.push_script.specs.Radio.{count_within, lossless, run_of}
use Rattle.push_script.specs.Stated.{Known}
use Rattle.push_script.specs.Turns.{word_count}
use Rattle.push_script.specs.Reading.{Script, name_stated, with_value, key_line_read, whole, radio_begun, run_read, is_ignored, line_read, at_line, with_defaults, finished, lines, in_front, lines_read, no_draft, text_limit, is_feed, reading}

-- ---- what answers well in steps

record Bound {A B : Type 0} (first : Result A ScriptRefusal) (then : A → Result B ScriptRefusal) (out : B) : Type 0 where
  value : A
  first_is : first ≡ Ok value
  then_is : then value ≡ Ok out

bound : {A B : Type 0} (first : Result A ScriptRefusal) (then : A → Result B ScriptRefusal) (out : B) → (first >>= then) ≡ Ok out → Bound first then out
bound (Ok value) then out is = record { value = value; first_is = refl; then_is = is }
bound (Err refusal) then out is = absurd cc

abbrev the : (X : Type 0) → X → X
the X x = x

same_ok : {A E : Type 0} (x y : A) → the (Result A E) (Ok x) ≡ Ok y → x ≡ y
same_ok x y is = cc

chosen_by : {A E : Type 0} (P : Type 0) (test : Bool) (x y : Result A E) (out : A) → (test ≡ true → x ≡ Ok out → P) → (test ≡ false → y ≡ Ok out → P) → cond test x y ≡ Ok out → P
chosen_by P true x y out one other is = one refl is
chosen_by P false x y out one other is = other refl is

located : {A : Type 0} (number : ℕ) (result : Result A ScriptRefusal) (out : A) → at_line number result ≡ Ok out → result ≡ Ok out
located number (Ok value) out is = ap Ok (same_ok _ _ is)
located number (Err refusal) out is = absurd cc

-- ---- the run of a line

few_times : (n count : ℕ) → count_within n ≡ Ok count → count ≤ 4294967295
few_times n count is =
    chosen_by (count ≤ 4294967295) (n == 0) (Err OutOfRange) _ count (λ none never. absurd cc)
    (λ some. chosen_by (count ≤ 4294967295) (nat_lt 4294967295 n) (Err OutOfRange) (Ok n) count (λ many never. absurd cc)
    (λ few same. subst (λ m. m ≤ 4294967295) (same_ok n count same) (ltb-false 4294967295 n few))) is

few_in_run : (transport : Option Transport) (line : List ℕ) (run : ℕ × Word) → run_of transport line ≡ Ok run → run.0 ≤ 4294967295
unfolding run_of
few_in_run transport line run is =
    let text = bound (or_refusal BadLine (rest_of line)) _ run is in
    let number = bound (or_refusal BadLine (number_of (first_word line))) _ run text.then_is in
    let said = bound (or_refusal BadLine (said_of text.value)) _ run number.then_is in
    let count = bound (count_within number.value) _ run said.then_is in
    let word = bound (or_refusal OutOfRange (word_within said.value)) _ run count.then_is in
    let whole = bound (lossless transport word.value) _ run word.then_is in
    subst (λ (r : ℕ × Word). r.0 ≤ 4294967295) (same_ok _ _ whole.then_is) (few_times number.value count.value count.first_is)

-- ---- a line adds one run at most

record Grows (draft out : Known) : Type 0 where
  runs : length out.runs ≤ length draft.runs + 1
  words : word_count out.runs ≤ word_count draft.runs + 4294967295

stays : (draft out : Known) → draft.runs ≡ out.runs → Grows draft out
stays draft out same = let lengths = ap length same in let counts = ap word_count same in record { runs = omega arith; words = omega arith }

count_more : (runs : List (ℕ × Word)) (run : ℕ × Word) → word_count (runs ++ run ∷ []) ≡ word_count runs + run.0
count_more [] run = omega arith
count_more (first ∷ runs) run = omega (arith, count_more runs run)

key_grows : (key : Key) (draft out : Known) (value : List ℕ) → (with_key draft.keys key value >>= λ keys. Ok (record draft { keys = keys })) ≡ Ok out → Grows draft out
key_grows key draft out value is = let both = bound (with_key draft.keys key value) _ out is in subst (Grows draft) (same_ok _ _ both.then_is) (stays draft _ refl)

value_grows : (key : Key) (draft out : Known) (value : List ℕ) → with_value draft key value ≡ Ok out → Grows draft out
value_grows keyed.Transport draft out value is = key_grows keyed.Transport draft out value is
value_grows keyed.Serves draft out value is = key_grows keyed.Serves draft out value is
value_grows keyed.Acl draft out value is = key_grows keyed.Acl draft out value is
value_grows keyed.Chunk draft out value is = key_grows keyed.Chunk draft out value is
value_grows keyed.Mtu draft out value is = key_grows keyed.Mtu draft out value is
value_grows keyed.Mps draft out value is = key_grows keyed.Mps draft out value is
value_grows keyed.Window draft out value is = key_grows keyed.Window draft out value is
value_grows keyed.Tries draft out value is = key_grows keyed.Tries draft out value is
value_grows keyed.Credits draft out value is = key_grows keyed.Credits draft out value is
value_grows keyed.Obex draft out value is = key_grows keyed.Obex draft out value is
value_grows keyed.Srm draft out value is = key_grows keyed.Srm draft out value is
value_grows keyed.Object draft out value is =
    let both = bound (name_stated (length draft.names) value) _ out is in
    subst (Grows draft) (same_ok _ _ both.then_is) (stays draft _ refl)

key_line_grows : (draft out : Known) (line : List ℕ) → key_line_read draft line ≡ Ok out → Grows draft out
unfolding key_line_read
key_line_grows draft out line is =
    let key = bound (or_refusal UnknownKey (key_of (first_word line))) _ out is in
    let value = bound (or_refusal BadLine (rest_of line)) _ out key.then_is in
    value_grows key.value draft out value.value value.then_is

radio_grows : (draft out : Known) → radio_begun draft ≡ Ok out → Grows draft out
unfolding radio_begun
radio_grows draft out is = let both = bound (whole draft) _ out is in subst (Grows draft) (same_ok _ _ both.then_is) (stays draft _ refl)

run_grows : (draft out : Known) (line : List ℕ) → run_read draft line ≡ Ok out → Grows draft out
unfolding run_read
run_grows draft out line is =
    let run = bound (run_of draft.keys.transport line) _ out is in
    let few = few_in_run draft.keys.transport line run.value run.first_is in
    subst (Grows draft) (same_ok _ _ run.then_is) (record { runs = omega (arith, length_push draft.runs run.value); words = omega (arith, few, count_more draft.runs run.value) })

line_grows : (draft out : Known) (line : List ℕ) → line_read draft line ≡ Ok out → Grows draft out
unfolding line_read
line_grows draft out line is =
    chosen_by (Grows draft out) (is_ignored line) (Ok draft) _ out (λ ignored same. subst (Grows draft) (same_ok _ _ same) (stays draft _ refl))
    (λ said. chosen_by (Grows draft out) draft.radio (run_read draft line) _ out (λ radio. run_grows draft out line)
    (λ early. chosen_by (Grows draft out) (bytes_eq line (codes "radio")) (radio_begun draft) (key_line_read draft line) out (λ begins. radio_grows draft out) (λ other. key_line_grows draft out line))) is

-- ---- all of them

-- there are so many runs at most, each of which stands for 4,294,967,295 words at most
record AreFew (limit : ℕ) (script : List (ℕ × Word)) : Type 0 where
  runs : length script ≤ limit
  words : word_count script ≤ 4294967295 * limit

one_more : (limit : ℕ) (draft out : Known) → AreFew limit draft.runs → Grows draft out → AreFew (limit + 1) out.runs
one_more limit draft out few more = record { runs = omega (arith, few.runs, more.runs); words = omega (arith, few.words, more.words) }

end_few : (limit : ℕ) (draft : Known) (script : Script) → AreFew limit draft.runs → finished draft ≡ Ok script → AreFew limit script.runs
unfolding finished with_defaults
end_few limit draft script few is = let both = bound (whole draft) _ script is in subst (λ (s : Script). AreFew limit s.runs) (same_ok _ _ both.then_is) few

lines_few : (number limit : ℕ) (read : Result Known (ℕ × ScriptRefusal)) (rest : List (List ℕ)) (script : Script) → ((draft : Known) → read ≡ Ok draft → AreFew limit draft.runs) → lines_read number read rest ≡ Ok script → AreFew (limit + length rest) script.runs
lines_few number limit (Err refused) [] script few is = absurd cc
lines_few number limit (Err refused) (line ∷ rest) script few is = absurd cc
lines_few number limit (Ok draft) [] script few is =
    let none : limit ≡ limit + 0 = omega arith in
    subst (λ n. AreFew n script.runs) none (end_few limit draft script (few draft refl) (located number (finished draft) script is))
lines_few number limit (Ok draft) (line ∷ rest) script few is =
    let one : limit + 1 + length rest ≡ limit + length (line ∷ rest) = omega arith in
    subst (λ n. AreFew n script.runs) one
    (lines_few (number + 1) (limit + 1) (at_line number (line_read draft line)) rest script
    (λ next there. one_more limit draft next (few draft refl) (line_grows draft next line (located number (line_read draft line) next there))) is)

-- a text has no more lines than octets
front_length : (octet : ℕ) (ls : List (List ℕ)) → length (in_front octet ls) ≤ length ls + 1
front_length octet [] = omega arith
front_length octet (line ∷ more) = omega arith

line_count : (octet : ℕ) (more : List ℕ) (feed : Bool) → length (the (List (List ℕ)) (cond feed ([] ∷ lines more) (in_front octet (lines more)))) ≤ length (lines more) + 1
line_count octet more true = omega arith
line_count octet more false = front_length octet (lines more)

few_lines : (text : List ℕ) → length (lines text) ≤ length text
few_lines [] = omega arith
few_lines (octet ∷ more) = omega (arith, few_lines more, line_count octet more (is_feed octet))

record IsFew (text : List ℕ) (script : Script) : Type 0 where
  short : length text ≤ text_limit
  runs : AreFew (length (lines text)) script.runs

reading_few : (text : List ℕ) (script : Script) → reading text ≡ Ok script → IsFew text script
unfolding reading
reading_few text script is =
    let all : 0 + length (lines text) ≡ length (lines text) = omega arith in
    chosen_by (IsFew text script) (nat_lt text_limit (length text)) (Err (0, TooLong)) _ script (λ long never. absurd cc)
    (λ short. chosen_by (IsFew text script) (is_utf8 text) (lines_read 1 (Ok no_draft) (lines text)) (Err (count_by is_feed (take (utf8_valid_len text) text) + 1, NotUtf8)) script
    (λ utf8 read. record {
      short = ltb-false text_limit (length text) short;
      runs = subst (λ n. AreFew n script.runs) all (lines_few 1 0 (Ok no_draft) (lines text) script (λ draft same. subst (λ (d : Known). AreFew 0 d.runs) (same_ok no_draft draft same) (record { runs = omega arith; words = omega arith })) read);
    })
    (λ bad never. absurd cc)) is

pub has_few_runs : RunsAreFew
has_few_runs text script is = let few = reading_few text script is in (omega (arith, few.runs.runs, few_lines text), few.short)

pub has_few_words : WordsAreFew
has_few_words text script is = let few = reading_few text script is in omega (arith, few.runs.words, few_lines text, few.short)
