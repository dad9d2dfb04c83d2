-- The text of a made scenario is short enough to be read again.
use Rattle.std.proofs.Common.{◌≡◌, ℕ, ◌*◌, ◌^◌, ◌<◌, ◌≤◌, Bool, true, false, List, ◌++◌, length, Ok, refl, ap, subst, ◌∙◌, arith}
use Rattle.std.proofs.lemmas.List.{length-append}
use Rattle.std.proofs.lemmas.Fmt.{length-decimal-le}
use Rattle.std.specs.Fmt.{digits}
use Rattle.std.specs.Prelude.{codes, decimal}
use Rattle.std.specs.List.{flat_map, AllByRecursion}
use Rattle.bt_base.specs.declared.settings.Transport.{Transport}
use Rattle.bt_base.specs.declared.settings.Transport.TheVariants as transports
use Rattle.object_push.specs.push_terms.specs.Words.{word_text}
use Rattle.object_push.specs.push_terms.specs.declared.word.Word.{Word}
use Rattle.object_push.specs.push_terms.specs.declared.word.Word.TheVariants.{Pass, Lose, Repeat}
use Rattle.object_push.specs.push_terms.specs.declared.word.Way.TheVariants.{Ab}
use Rattle.push_script.specs.declared.scenario.Scenario.{Scenario}
use Rattle.push_script.specs.Made.{made_script, made_names, made_runs, made_transport, made_objects, is_even, stated_only}
use Rattle.push_script.specs.Reading.{Script, script_of, reading, text_limit, with_defaults}
use Rattle.push_script.specs.Runs.{IsRun}
use Rattle.push_script.specs.Scenarios.{key_line, transport_text, serves_text, switch_text, object_line, run_line, scenario_text}
use Rattle.push_script.specs.Turns.{turns}
use Rattle.push_script.proofs.Again.{text_again}

-- the text of a scenario by what it states, in front of its runs and whole
abbrev front_of : Script → List ℕ
front_of x =
    key_line (codes "transport") (transport_text x.transport)
    ++ key_line (codes "serves") (serves_text x.serves)
    ++ key_line (codes "acl") (decimal x.acl.0 ++ codes " " ++ decimal x.acl.1)
    ++ key_line (codes "chunk") (decimal x.chunk)
    ++ key_line (codes "mtu") (decimal x.mtu)
    ++ key_line (codes "mps") (decimal x.mps)
    ++ key_line (codes "window") (decimal x.window)
    ++ key_line (codes "tries") (decimal x.tries)
    ++ key_line (codes "credits") (decimal x.credits)
    ++ key_line (codes "obex") (decimal x.obex)
    ++ key_line (codes "srm") (switch_text x.srm)

abbrev text_of : Script → List ℕ
text_of x = front_of x ++ flat_map object_line x.names ++ codes "radio\n" ++ flat_map run_line x.runs

stated : (s : Scenario) → scenario_text s ≡ text_of (script_of s)
stated s = refl

-- what stands in front of the runs of a made scenario
front_length : (transport : Transport) (runs : List (ℕ × Word)) → length (front_of (with_defaults transport (stated_only transport made_names runs))) ≤ 200
unfolding digits with_defaults
front_length transports.L2cap runs = omega arith
front_length transports.Rfcomm runs = omega arith

run_length : (count : ℕ) (word : Word) → count < 2 ^ 32 → length (word_text word) ≤ 10 → length (run_line (count, word)) ≤ 22
run_length count word lt short = omega (arith, length-append {A = ℕ}, length-decimal-le 10 count (omega arith) (omega arith) (omega arith))

runs_length : (even : Bool) (enough : ℕ) → AllByRecursion IsRun (made_runs even enough) → length (flat_map run_line (made_runs even enough)) ≤ 88
runs_length true enough is =
    let last : 3 * enough < 2 ^ 32 = is.1.1.1.0.1 in
    omega (arith, length-append {A = ℕ}, run_length 40 Pass (omega arith) (omega arith), run_length 1 (Lose Ab) (omega arith) (omega arith), run_length 1 (Repeat Ab) (omega arith) (omega arith), run_length (3 * enough) Pass last (omega arith))
runs_length false enough is =
    let last : enough < 2 ^ 32 = is.0.1 in
    omega (arith, length-append {A = ℕ}, run_length enough Pass last (omega arith))

names_length : length (flat_map object_line made_names) ≤ 80
names_length = omega arith

joined_length : (front names head runs : List ℕ) → length front ≤ 200 → length names ≤ 80 → length head ≤ 10 → length runs ≤ 88 → length (front ++ names ++ head ++ runs) ≤ text_limit
joined_length front names head runs hf hn hh hr = omega (arith, length-append {A = ℕ})

text_length : (transport : Transport) (even : Bool) (enough : ℕ) → AllByRecursion IsRun (made_runs even enough) → length (text_of (with_defaults transport (stated_only transport made_names (made_runs even enough)))) ≤ text_limit
unfolding with_defaults
text_length transport even enough is =
    joined_length (front_of (with_defaults transport (stated_only transport made_names (made_runs even enough)))) (flat_map object_line made_names) (codes "radio\n") (flat_map run_line (made_runs even enough))
    (front_length transport (made_runs even enough)) names_length (omega arith) (runs_length even enough is)

abbrev enough_of : ℕ → ℕ
enough_of number = turns (made_objects number) made_names

runs_are : (number : ℕ) (script : Script) → script ≡ made_script number → script.runs ≡ made_runs (is_even number) (enough_of number)
unfolding with_defaults
runs_are number script e = ap (λ (x : Script). x.runs) e

-- the text of the scenario of a number is read as that scenario
pub made_again : (number : ℕ) (s : Scenario) (text : List ℕ) → script_of s ≡ made_script number → text ≡ scenario_text s → reading text ≡ Ok (made_script number)
made_again number s text e te =
    let spelled : AllByRecursion IsRun (made_runs (is_even number) (enough_of number)) = subst (λ (runs : List (ℕ × Word)). AllByRecursion IsRun runs) (runs_are number (script_of s) e) s.spelled in
    let same : scenario_text s ≡ text_of (made_script number) = stated s ∙ ap text_of e in
    let fits : length (text_of (made_script number)) ≤ text_limit = text_length (made_transport (is_even number)) (is_even number) (enough_of number) spelled in
    let short : length (scenario_text s) ≤ text_limit = omega (arith, ap length same, fits) in
    ap reading te ∙ text_again s short ∙ ap (λ (script : Script). Ok script) e
