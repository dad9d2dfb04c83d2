-- The text of a scenario is that of its lines.
use Rattle.std.proofs.Common.{◌≡◌, ℕ, ◌^◌, ◌<◌, Bool, true, false, List, [], ◌∷◌, ◌++◌, map, refl, sym, ap, ◌∙◌, arith, append_assoc}
use Rattle.std.specs.Prelude.{codes, ◌==◌, decimal}
use Rattle.std.specs.List.{list_all, list_any, flat_map, AllByRecursion}
use Rattle.std.proofs.lemmas.Bool.{and_from, or_parts, not_from_false}
use Rattle.std.proofs.lemmas.Str.{IsUtf8-from_is_utf8, IsUtf8-append}
use Rattle.bt_base.specs.declared.settings.Settings.{Settings}
use Rattle.bt_base.specs.declared.settings.Transport.{Transport}
use Rattle.bt_base.specs.declared.settings.Transport.TheVariants as transports
use Rattle.bt_base.specs.declared.settings.Serves.{Serves}
use Rattle.bt_base.specs.declared.settings.Serves.TheVariants as services
use Rattle.push_script.specs.declared.scenario.Scenario.{Scenario}
use Rattle.push_terms.specs.declared.word.Word.{Word}
use Rattle.push_script.specs.Names.{IsName, ends_name}
use Rattle.push_script.specs.Runs.{IsRun}
use Rattle.push_terms.specs.Words.{word_text}
use Rattle.push_script.specs.Scenarios.{transport_text, serves_text, switch_text, key_line, object_line, run_line, scenario_text}
use Rattle.script_words.proofs.Numbers.{graphic_number}
use Rattle.script_words.proofs.Splitting.{differs, is_printable, all_append, seen}
use Rattle.push_script.proofs.Splitting.{ended, IsLine, printable_line, value_line}
use Rattle.script_words.proofs.WordsAgain.{word_printable}

abbrev pub name_line : List ℕ → List ℕ
name_line name = codes "object" ++ 32 ∷ name

abbrev pub word_line : ℕ × Word → List ℕ
word_line (count, word) = decimal count ++ 32 ∷ word_text word

-- the lines of a scenario
abbrev pub late_lines : Scenario → List (List ℕ)
late_lines s = map name_line s.names ++ codes "radio" ∷ map word_line s.script

abbrev pub all_lines : Scenario → List (List ℕ)
all_lines s =
    (codes "transport" ++ 32 ∷ transport_text s.settings.transport)
    ∷ (codes "serves" ++ 32 ∷ serves_text s.settings.serves)
    ∷ (codes "acl" ++ 32 ∷ (decimal s.acl_length ++ 32 ∷ decimal s.acl_count))
    ∷ (codes "chunk" ++ 32 ∷ decimal s.chunk)
    ∷ (codes "mtu" ++ 32 ∷ decimal s.settings.mtu)
    ∷ (codes "mps" ++ 32 ∷ decimal s.settings.mps)
    ∷ (codes "window" ++ 32 ∷ decimal s.settings.window)
    ∷ (codes "tries" ++ 32 ∷ decimal s.settings.tries)
    ∷ (codes "credits" ++ 32 ∷ decimal s.settings.credits)
    ∷ (codes "obex" ++ 32 ∷ decimal s.settings.obex)
    ∷ (codes "srm" ++ 32 ∷ switch_text s.settings.srm)
    ∷ late_lines s

-- the text is that of its lines
regroup : (a b c d e f g h i j k m n o : List ℕ) → ((a ++ b ++ c ++ d ++ e ++ f ++ g ++ h ++ i ++ j ++ k) ++ m ++ n) ++ o ≡ a ++ (b ++ (c ++ (d ++ (e ++ (f ++ (g ++ (h ++ (i ++ (j ++ (k ++ (m ++ (n ++ o))))))))))))
regroup a b c d e f g h i j k m n o = simp append_assoc

regrouped : (word value : List ℕ) → key_line word value ≡ ended (word ++ 32 ∷ value)
regrouped word value = ap (λ (t : List ℕ). t ++ codes "\n") (append_assoc word (32 ∷ []) value)

words_text : (runs : List (ℕ × Word)) → flat_map ended (map word_line runs) ≡ flat_map run_line runs
words_text [] = refl
words_text ((count, word) ∷ runs) = rw (regrouped (decimal count) (word_text word), words_text runs) refl

names_text : (names : List (List ℕ)) (more : List (List ℕ)) → flat_map ended (map name_line names ++ more) ≡ flat_map object_line names ++ flat_map ended more
names_text [] more = refl
names_text (name ∷ names) more = ap (λ (t : List ℕ). object_line name ++ t) (names_text names more) ∙ sym (append_assoc (object_line name) (flat_map object_line names) (flat_map ended more))

late_text : (s : Scenario) → flat_map ended (late_lines s) ≡ flat_map object_line s.names ++ (codes "radio\n" ++ flat_map run_line s.script)
late_text s = names_text s.names _ ∙ ap (λ (t : List ℕ). flat_map object_line s.names ++ (codes "radio\n" ++ t)) (words_text s.script)

-- the lines of the keys, with that value of `acl`, and what stands behind them
abbrev joined : Scenario → List ℕ → List ℕ → List ℕ
joined s acl late = key_line (codes "transport") (transport_text s.settings.transport) ++ (key_line (codes "serves") (serves_text s.settings.serves) ++ (key_line (codes "acl") acl ++ (key_line (codes "chunk") (decimal s.chunk) ++ (key_line (codes "mtu") (decimal s.settings.mtu) ++ (key_line (codes "mps") (decimal s.settings.mps) ++ (key_line (codes "window") (decimal s.settings.window)
    ++ (key_line (codes "tries") (decimal s.settings.tries) ++ (key_line (codes "credits") (decimal s.settings.credits) ++ (key_line (codes "obex") (decimal s.settings.obex) ++ (key_line (codes "srm") (switch_text s.settings.srm) ++ late))))))))))

pub all_text : (s : Scenario) → scenario_text s ≡ flat_map ended (all_lines s)
all_text s =
    let x : Settings = s.settings in
    regroup (key_line (codes "transport") (transport_text x.transport)) (key_line (codes "serves") (serves_text x.serves)) (key_line (codes "acl") (decimal s.acl_length ++ codes " " ++ decimal s.acl_count)) (key_line (codes "chunk") (decimal s.chunk)) (key_line (codes "mtu") (decimal x.mtu)) (key_line (codes "mps") (decimal x.mps)) (key_line (codes "window") (decimal x.window)) (key_line (codes "tries") (decimal x.tries)) (key_line (codes "credits") (decimal x.credits)) (key_line (codes "obex") (decimal x.obex)) (key_line (codes "srm") (switch_text x.srm)) (flat_map object_line s.names) (codes "radio\n") (flat_map run_line s.script)
    ∙ ap (λ (acl : List ℕ). joined s acl (flat_map object_line s.names ++ (codes "radio\n" ++ flat_map run_line s.script))) (append_assoc (decimal s.acl_length) (32 ∷ []) (decimal s.acl_count))
    ∙ ap (λ (late : List ℕ). joined s (decimal s.acl_length ++ 32 ∷ decimal s.acl_count) late) (sym (late_text s))

-- each line is one
no_feeds : (name : List ℕ) → list_any ends_name name ≡ false → list_all (differs 10) name ≡ true
no_feeds [] h = refl
no_feeds (c ∷ cs) h =
    let parts : (ends_name c ≡ false) × (list_any ends_name cs ≡ false) = or_parts (ends_name c) (list_any ends_name cs) h in
    and_from (differs 10 c) (list_all (differs 10) cs) (not_from_false (c == 10) (or_parts (c == 0) (c == 10) parts.0).1) (no_feeds cs parts.1)

name_is_line : (name : List ℕ) → IsName name → IsLine (name_line name)
name_is_line name is = record {
  one = no_feeds name is.line;
  text = IsUtf8-append (codes "object ") name (printable_line (codes "object ") refl).text (IsUtf8-from_is_utf8 name is.text);
}

names_lines : (names : List (List ℕ)) (more : List (List ℕ)) → AllByRecursion IsName names → AllByRecursion IsLine more → AllByRecursion IsLine (map name_line names ++ more)
names_lines [] more h k = k
names_lines (name ∷ names) more h k = (name_is_line name h.0, names_lines names more h.1 k)

words_lines : (runs : List (ℕ × Word)) → AllByRecursion IsRun runs → AllByRecursion IsLine (map word_line runs)
words_lines [] h = tt
words_lines ((count, word) ∷ runs) h =
    let small : count < 4294967296 = h.0.1 in
    (value_line (decimal count) (word_text word) (graphic_number count (omega arith)) (word_printable word h.0.2), words_lines runs h.1)

number_printable : (n : ℕ) → n < 10 ^ 10 → list_all is_printable (decimal n) ≡ true
number_printable n lt = seen (decimal n) (graphic_number n lt)

transport_printable : (t : Transport) → list_all is_printable (transport_text t) ≡ true
transport_printable transports.L2cap = refl
transport_printable transports.Rfcomm = refl

serves_printable : (s : Serves) → list_all is_printable (serves_text s) ≡ true
serves_printable services.Both = refl
serves_printable services.L2cap = refl
serves_printable services.Rfcomm = refl

switch_printable : (on : Bool) → list_all is_printable (switch_text on) ≡ true
switch_printable true = refl
switch_printable false = refl

pub are_lines : (s : Scenario) → AllByRecursion IsLine (all_lines s)
are_lines s =
    let x : Settings = s.settings in (
      value_line (codes "transport") (transport_text x.transport) refl (transport_printable x.transport),
      (
        value_line (codes "serves") (serves_text x.serves) refl (serves_printable x.serves),
        (
          value_line (codes "acl") (decimal s.acl_length ++ 32 ∷ decimal s.acl_count) refl (all_append is_printable (decimal s.acl_length) (32 ∷ decimal s.acl_count) (number_printable s.acl_length (omega (arith, s.acl_length_high))) (number_printable s.acl_count (omega (arith, s.acl_count_high)))),
          (
            value_line (codes "chunk") (decimal s.chunk) refl (number_printable s.chunk (omega (arith, s.chunk_high))),
            (
              value_line (codes "mtu") (decimal x.mtu) refl (number_printable x.mtu (omega (arith, x.mtu_high))),
              (
                value_line (codes "mps") (decimal x.mps) refl (number_printable x.mps (omega (arith, x.mps_high))),
                (
                  value_line (codes "window") (decimal x.window) refl (number_printable x.window (omega (arith, x.window_high))),
                  (
                    value_line (codes "tries") (decimal x.tries) refl (number_printable x.tries (omega (arith, x.tries_high))),
                    (
                      value_line (codes "credits") (decimal x.credits) refl (number_printable x.credits (omega (arith, x.credits_high))),
                      (
                        value_line (codes "obex") (decimal x.obex) refl (number_printable x.obex (omega (arith, x.obex_high))),
                        (
                          value_line (codes "srm") (switch_text x.srm) refl (switch_printable x.srm),
                          names_lines s.names _ s.named (printable_line (codes "radio") refl, words_lines s.script s.spelled),
                        ),
                      ),
                    ),
                  ),
                ),
              ),
            ),
          ),
        ),
      ),
    )
