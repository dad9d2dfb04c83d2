-- The text of a scenario is read again as that scenario.
use Rattle.std.proofs.Common.{◌≡◌, ℕ, ◌+◌, ◌<◌, ◌≤◌, true, false, List, [], ◌∷◌, ◌++◌, length, map, Some, Result, Ok, refl, sym, ap, subst, ◌∙◌, arith, append_assoc, append-nil}
use Rattle.std.specs.Prelude.{codes, nat_lt, ◌==◌, decimal}
use Rattle.std.specs.List.{list_all, flat_map, AllByRecursion}
use Rattle.std.specs.Str.{is_utf8, IsUtf8, bytes_eq}
use Rattle.std.proofs.lemmas.Bool.{le-ltb, ne_eqb, and_parts, leb-true}
use Rattle.std.proofs.lemmas.List.{length_push}
use Rattle.std.proofs.lemmas.Str.{is_utf8-from_IsUtf8}
use Rattle.push_script.specs.declared.refusal.ScriptRefusal.{ScriptRefusal}
use Rattle.push_script.specs.declared.scenario.Scenario.{Scenario}
use Rattle.push_script.specs.declared.stated.Key.{Key}
use Rattle.push_script.specs.declared.stated.Key.TheVariants as keyed
use Rattle.push_terms.specs.declared.word.Word.{Word}
use Rattle.push_script.specs.Names.{IsName}
use Rattle.push_script.specs.Runs.{IsRun, IsBorne}
use Rattle.push_script.specs.Stated.{Stated, Known}
use Rattle.push_terms.specs.Words.{word_text}
use Rattle.push_script.specs.Scenarios.{transport_text, serves_text, switch_text, scenario_text}
use Rattle.script_words.specs.Parts.{is_digit}
use Rattle.push_script.proofs.TextLines.{name_line, word_line, late_lines, all_lines, all_text, are_lines}
use Rattle.push_script.specs.Keys.{key_of, with_key}
use Rattle.push_script.specs.Laws.{IsReadAs}
use Rattle.push_script.specs.Reading.{Script, script_of, with_value, is_ignored, radio_begun, run_read, line_read, at_line, finished, with_defaults, lines, lines_read, no_draft, reading, text_limit}
use Rattle.script_words.proofs.Numbers.{digits_number}
use Rattle.script_words.proofs.Splitting.{is_graphic, seen}
use Rattle.push_script.proofs.Splitting.{ended, lines_again, text_of_lines}
use Rattle.push_script.proofs.RunsAgain.{run_again}
use Rattle.push_script.proofs.KeysAgain.{number_again, transport_again, serves_again, switch_again, acl_again, key_line_again, named, name_again}

-- the lines give that scenario, behind what was read already
record Yields (draft : Known) (ls : List (List ℕ)) (script : Script) : Type 0 where
  gives : (n : ℕ) → lines_read n (Ok draft) ls ≡ Ok script

one_line : (draft draft' : Known) (line : List ℕ) (more : List (List ℕ)) (script : Script) → line_read draft line ≡ Ok draft' → Yields draft' more script → Yields draft (line ∷ more) script
one_line draft draft' line more script e rest = record { gives = λ n. ap (λ (read : Result Known ScriptRefusal). lines_read (n + 1) (at_line n read) more) e ∙ rest.gives (n + 1) }

-- the keys, the names, the line `radio` and these runs were read
abbrev running : Stated → List (List ℕ) → List (ℕ × Word) → Known
running keys names runs = record { keys = keys; names = names; radio = true; runs = runs }

not_ignored : (digits rest : List ℕ) → list_all is_digit digits ≡ true → is_ignored (digits ++ 32 ∷ rest) ≡ false
not_ignored [] rest h = refl
not_ignored (d ∷ ds) rest h =
    let low : 48 ≤ d = leb-true 48 d (and_parts _ _ (and_parts (is_digit d) (list_all is_digit ds) h).0).0 in
    ne_eqb d 35 (λ e. omega arith)

run_from : (keys : Stated) (names : List (List ℕ)) (past : List (ℕ × Word)) (line : List ℕ) (run : ℕ × Word) → is_ignored line ≡ false → run_read (running keys names past) line ≡ Ok (running keys names (past ++ run ∷ [])) → line_read (running keys names past) line ≡ Ok (running keys names (past ++ run ∷ []))
unfolding line_read
run_from keys names past line run e1 e2 = rw e1 e2

run_read_again : (keys : Stated) (names : List (List ℕ)) (past : List (ℕ × Word)) (run : ℕ × Word) → IsRun run → IsBorne keys.transport run → line_read (running keys names past) (word_line run) ≡ Ok (running keys names (past ++ run ∷ []))
unfolding run_read
run_read_again keys names past (count, word) is borne =
    let small : count < 4294967296 = is.1 in
    run_from keys names past _ (count, word) (not_ignored (decimal count) (word_text word) (digits_number count (omega arith))) (rw (run_again keys.transport count word is borne) refl)

runs_yield : (keys : Stated) (names : List (List ℕ)) (past runs : List (ℕ × Word)) (script : Script) → AllByRecursion IsRun runs → AllByRecursion (IsBorne keys.transport) runs
    → Yields (running keys names (past ++ runs)) [] script → Yields (running keys names past) (map word_line runs) script
runs_yield keys names past [] script is borne rest = rw append-nil at rest
runs_yield keys names past (run ∷ runs) script is borne rest =
    let same : past ++ (run ∷ []) ++ runs ≡ past ++ run ∷ runs = append_assoc past (run ∷ []) runs in
    one_line _ _ (word_line run) _ script (run_read_again keys names past run is.0 borne.0)
    (runs_yield keys names (past ++ run ∷ []) runs script is.1 borne.1 (rw same rest))

names_yield : (keys : Stated) (past names : List (List ℕ)) (more : List (List ℕ)) (script : Script) → AllByRecursion IsName names → length past + length names ≤ 64
    → Yields (named keys (past ++ names)) more script → Yields (named keys past) (map name_line names ++ more) script
names_yield keys past [] more script is few rest = rw append-nil at rest
names_yield keys past (name ∷ names) more script is few rest =
    let same : past ++ (name ∷ []) ++ names ≡ past ++ name ∷ names = append_assoc past (name ∷ []) names in
    let longer : length (past ++ name ∷ []) ≡ length past + 1 = length_push past name in
    one_line _ _ (name_line name) _ script (name_again keys past name is.0 (omega arith))
    (names_yield keys (past ++ name ∷ []) names more script is.1 (omega arith) (rw same rest))

radio_again : (keys : Stated) (names : List (List ℕ)) (t : _) → keys.transport ≡ Some t → 1 ≤ length names → line_read (named keys names) (codes "radio") ≡ Ok (running keys names [])
unfolding line_read radio_begun
radio_again keys names t is some =
    let none : (length names == 0) ≡ false = ne_eqb (length names) 0 (λ e. omega arith) in
    rw (is, none) refl

-- what the lines up to that of a key state
abbrev up_to_transport : Scenario → Stated
up_to_transport s = record no_draft.keys { transport = Some s.settings.transport }

abbrev up_to_serves : Scenario → Stated
up_to_serves s = record (up_to_transport s) { serves = Some s.settings.serves }

abbrev up_to_acl : Scenario → Stated
up_to_acl s = record (up_to_serves s) { acl = Some (s.acl_length, s.acl_count) }

abbrev up_to_chunk : Scenario → Stated
up_to_chunk s = record (up_to_acl s) { chunk = Some s.chunk }

abbrev up_to_mtu : Scenario → Stated
up_to_mtu s = record (up_to_chunk s) { mtu = Some s.settings.mtu }

abbrev up_to_mps : Scenario → Stated
up_to_mps s = record (up_to_mtu s) { mps = Some s.settings.mps }

abbrev up_to_window : Scenario → Stated
up_to_window s = record (up_to_mps s) { window = Some s.settings.window }

abbrev up_to_tries : Scenario → Stated
up_to_tries s = record (up_to_window s) { tries = Some s.settings.tries }

abbrev up_to_credits : Scenario → Stated
up_to_credits s = record (up_to_tries s) { credits = Some s.settings.credits }

abbrev up_to_obex : Scenario → Stated
up_to_obex s = record (up_to_credits s) { obex = Some s.settings.obex }

abbrev up_to_srm : Scenario → Stated
up_to_srm s = record (up_to_obex s) { srm = Some s.settings.srm }

finished_again : (s : Scenario) → finished (running (up_to_srm s) s.names s.script) ≡ Ok (script_of s)
unfolding finished with_defaults
finished_again s = let none : (length s.names == 0) ≡ false = ne_eqb (length s.names) 0 (λ e. omega (arith, s.some)) in rw none refl

all_read : (s : Scenario) → Yields (running (up_to_srm s) s.names s.script) [] (script_of s)
all_read s = record { gives = λ n. ap (at_line n) (finished_again s) }

late_yield : (s : Scenario) → Yields (named (up_to_srm s) []) (late_lines s) (script_of s)
late_yield s =
    names_yield (up_to_srm s) [] s.names _ (script_of s) s.named (omega (arith, s.few))
    (one_line _ _ (codes "radio") _ (script_of s) (radio_again (up_to_srm s) s.names s.settings.transport refl s.some)
    (runs_yield (up_to_srm s) s.names [] s.script (script_of s) s.spelled s.borne (all_read s)))

one_key : (keys keys' : Stated) (word value : List ℕ) (key : Key) (more : List (List ℕ)) (script : Script) → list_all is_graphic word ≡ true → key_of word ≡ Some key → is_ignored (word ++ 32 ∷ value) ≡ false → bytes_eq (word ++ 32 ∷ value) (codes "radio") ≡ false
    → with_value (named keys []) key value ≡ Ok (named keys' []) → Yields (named keys' []) more script → Yields (named keys []) ((word ++ 32 ∷ value) ∷ more) script
one_key keys keys' word value key more script seen is other radio valued rest =
    one_line (named keys []) (named keys' []) (word ++ 32 ∷ value) more script (key_line_again keys [] (named keys' []) word value key seen is other radio valued) rest

lines_yield : (s : Scenario) → Yields no_draft (all_lines s) (script_of s)
unfolding with_key
lines_yield s =
    let x = s.settings in
    one_key no_draft.keys (up_to_transport s) (codes "transport") (transport_text x.transport) keyed.Transport _ (script_of s) refl refl refl refl (rw (transport_again x.transport) refl) (
    one_key (up_to_transport s) (up_to_serves s) (codes "serves") (serves_text x.serves) keyed.Serves _ (script_of s) refl refl refl refl (rw (serves_again x.serves) refl) (
    one_key (up_to_serves s) (up_to_acl s) (codes "acl") (decimal s.acl_length ++ 32 ∷ decimal s.acl_count) keyed.Acl _ (script_of s) refl refl refl refl (rw (acl_again s.acl_length s.acl_count s.acl_length_low s.acl_length_high s.acl_count_low s.acl_count_high) refl) (
    one_key (up_to_acl s) (up_to_chunk s) (codes "chunk") (decimal s.chunk) keyed.Chunk _ (script_of s) refl refl refl refl (rw (number_again keyed.Chunk s.chunk s.chunk_low s.chunk_high (omega (arith, s.chunk_high))) refl) (
    one_key (up_to_chunk s) (up_to_mtu s) (codes "mtu") (decimal x.mtu) keyed.Mtu _ (script_of s) refl refl refl refl (rw (number_again keyed.Mtu x.mtu x.mtu_low x.mtu_high (omega (arith, x.mtu_high))) refl) (
    one_key (up_to_mtu s) (up_to_mps s) (codes "mps") (decimal x.mps) keyed.Mps _ (script_of s) refl refl refl refl (rw (number_again keyed.Mps x.mps x.mps_low x.mps_high (omega (arith, x.mps_high))) refl) (
    one_key (up_to_mps s) (up_to_window s) (codes "window") (decimal x.window) keyed.Window _ (script_of s) refl refl refl refl (rw (number_again keyed.Window x.window x.window_low x.window_high (omega (arith, x.window_high))) refl) (
    one_key (up_to_window s) (up_to_tries s) (codes "tries") (decimal x.tries) keyed.Tries _ (script_of s) refl refl refl refl (rw (number_again keyed.Tries x.tries x.tries_low x.tries_high (omega (arith, x.tries_high))) refl) (
    one_key (up_to_tries s) (up_to_credits s) (codes "credits") (decimal x.credits) keyed.Credits _ (script_of s) refl refl refl refl (rw (number_again keyed.Credits x.credits x.credits_low x.credits_high (omega (arith, x.credits_high))) refl) (
    one_key (up_to_credits s) (up_to_obex s) (codes "obex") (decimal x.obex) keyed.Obex _ (script_of s) refl refl refl refl (rw (number_again keyed.Obex x.obex x.obex_low x.obex_high (omega (arith, x.obex_high))) refl) (
    one_key (up_to_obex s) (up_to_srm s) (codes "srm") (switch_text x.srm) keyed.Srm _ (script_of s) refl refl refl refl (rw (switch_again x.srm) refl) (
    late_yield s)))))))))))

reading_from : (text : List ℕ) (script : Script) → length text ≤ text_limit → IsUtf8 text → lines_read 1 (Ok no_draft) (lines text) ≡ Ok script → reading text ≡ Ok script
unfolding reading
reading_from text script short utf8 e =
    let fits : nat_lt text_limit (length text) ≡ false = le-ltb text_limit (length text) short in
    let is : is_utf8 text ≡ true = is_utf8-from_IsUtf8 text utf8 in
    rw (fits, is) e

pub text_again : (s : Scenario) → length (scenario_text s) ≤ text_limit → reading (scenario_text s) ≡ Ok (script_of s)
text_again s short =
    let same : scenario_text s ≡ flat_map ended (all_lines s) = all_text s in
    let split : lines (scenario_text s) ≡ all_lines s = ap lines same ∙ lines_again (all_lines s) (are_lines s) in
    reading_from (scenario_text s) (script_of s) short (subst IsUtf8 (sym same) (text_of_lines (all_lines s) (are_lines s)))
    (ap (λ (ls : List (List ℕ)). lines_read 1 (Ok no_draft) ls) split ∙ (lines_yield s).gives 1)

-- a text that was written is read again
pub written_again : (s : Scenario) (text : List ℕ) → text ≡ scenario_text s → IsReadAs s text
written_again s text e short = ap reading e ∙ text_again s (subst (λ (t : List ℕ). length t ≤ text_limit) e short)
