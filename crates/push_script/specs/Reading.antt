-- How the text of a scenario is read (this project's own).
use Rattle.std.specs.Prelude.{ℕ, ◌≡◌, ◌+◌, Bool, true, false, cond, ◌==◌, nat_lt, List, [], ◌∷◌, ◌++◌, length, take, count_by, codes, Option, Some, None, Result, Ok, Err}
use Rattle.std.specs.List.{list_any}
use Rattle.std.specs.Str.{bytes_eq, is_utf8}
use Rattle.std.specs.Str.Lossy.{utf8_valid_len}
use Rattle.bt_base.specs.declared.settings.Settings.{Settings}
use Rattle.bt_base.specs.declared.settings.Transport.{Transport}
use Rattle.bt_base.specs.declared.settings.Serves.{Serves}
use Rattle.bt_base.specs.declared.settings.Serves.TheVariants as services
use Rattle.push_script.specs.declared.refusal.ScriptRefusal.{ScriptRefusal}
use Rattle.push_script.specs.declared.refusal.ScriptRefusal.TheVariants.{BadLine, UnknownKey, OutOfRange, NoTransport, NoObject, TooManyObjects, NotUtf8, TooLong}
use Rattle.push_script.specs.declared.refusal.LineFault.{LineFault}
use Rattle.push_script.specs.declared.refusal.LineFault.TheVariants as faults
use Rattle.push_script.specs.declared.refusal.ScriptFault.{ScriptFault}
use Rattle.push_script.specs.declared.refusal.ScriptFault.TheVariants as ends
use Rattle.push_script.specs.declared.stated.Key.{Key}
use Rattle.push_script.specs.declared.stated.Key.TheVariants as keyed
use Rattle.push_script.specs.declared.scenario.Scenario.{Scenario}
use Rattle.push_terms.specs.declared.word.Word.{Word}
use Rattle.push_script.specs.Names.{ends_name, utf16_length}
use Rattle.push_script.specs.Stated.{Stated, Known}
use Rattle.script_words.specs.Parts.{first_word, rest_of}
use Rattle.push_script.specs.Keys.{◌>>=◌, or_refusal, default_number, key_of, with_key}
use Rattle.push_script.specs.Radio.{run_of}

-- a scenario without where it lies in memory
pub record Script : Type 0 where
  pub transport : Transport
  pub serves : Serves
  pub acl : ℕ × ℕ
  pub chunk : ℕ
  pub mtu : ℕ
  pub mps : ℕ
  pub window : ℕ
  pub tries : ℕ
  pub credits : ℕ
  pub obex : ℕ
  pub srm : Bool
  pub names : List (List ℕ)
  pub runs : List (ℕ × Word)

abbrev pub script_of : Scenario → Script
script_of s = record {
  transport = s.settings.transport;
  serves = s.settings.serves;
  acl = (s.acl_length, s.acl_count);
  chunk = s.chunk;
  mtu = s.settings.mtu;
  mps = s.settings.mps;
  window = s.settings.window;
  tries = s.settings.tries;
  credits = s.settings.credits;
  obex = s.settings.obex;
  srm = s.settings.srm;
  names = s.names;
  runs = s.script;
}

-- the lines of a text; a line feed at its end begins no line
abbrev pub in_front : ℕ → List (List ℕ) → List (List ℕ)
in_front octet [] = (octet ∷ []) ∷ []
in_front octet (line ∷ more) = (octet ∷ line) ∷ more

abbrev pub is_feed : ℕ → Bool
is_feed octet = octet == 10

abbrev pub lines : List ℕ → List (List ℕ)
lines [] = []
lines (octet ∷ more) = cond (is_feed octet) ([] ∷ lines more) (in_front octet (lines more))

-- The line of an object: its name is judged, in this order, for a NUL, for one object too many, and for its length.
unfoldable pub name_stated : ℕ → List ℕ → Result (Unit {0}) ScriptRefusal
name_stated count name =
    cond (list_any ends_name name) (Err BadLine) (
    cond (nat_lt 63 count) (Err TooManyObjects) (
    cond (utf16_length name == 0) (Err OutOfRange) (
    cond (nat_lt 100 (utf16_length name)) (Err OutOfRange) (Ok tt))))

abbrev pub with_value : Known → Key → List ℕ → Result Known ScriptRefusal
with_value draft keyed.Object value = name_stated (length draft.names) value >>= λ fits. Ok (record draft { names = draft.names ++ value ∷ [] })
with_value draft key value = with_key draft.keys key value >>= λ keys. Ok (record draft { keys = keys })

-- a line that states a key
unfoldable pub key_line_read : Known → List ℕ → Result Known ScriptRefusal
key_line_read draft line = do
  key ← or_refusal UnknownKey (key_of (first_word line))
  value ← or_refusal BadLine (rest_of line)
  with_value draft key value

-- the keys are whole: there is a transport, and an object
abbrev pub whole : Known → Result Transport ScriptRefusal
whole draft = or_refusal NoTransport draft.keys.transport >>= λ transport. cond (length draft.names == 0) (Err NoObject) (Ok transport)

-- the line `radio`, behind which only words may stand
unfoldable pub radio_begun : Known → Result Known ScriptRefusal
radio_begun draft = whole draft >>= λ transport. Ok (record draft { radio = true })

-- a line of the radio script
unfoldable pub run_read : Known → List ℕ → Result Known ScriptRefusal
run_read draft line = run_of draft.keys.transport line >>= λ run. Ok (record draft { runs = draft.runs ++ run ∷ [] })

-- the line is empty, or a comment
abbrev pub is_ignored : List ℕ → Bool
is_ignored [] = true
is_ignored (first ∷ more) = first == 35

-- a line of a scenario
unfoldable pub line_read : Known → List ℕ → Result Known ScriptRefusal
line_read draft line =
    cond (is_ignored line) (Ok draft) (
    cond draft.radio (run_read draft line) (
    cond (bytes_eq line (codes "radio")) (radio_begun draft) (
    key_line_read draft line)))

-- a refusal with its line
abbrev pub at_line : {A : Type 0} → ℕ → Result A ScriptRefusal → Result A (ℕ × ScriptRefusal)
at_line number (Ok x) = Ok x
at_line number (Err refusal) = Err (number, refusal)

abbrev pub stated_or : {A : Type 0} → Option A → A → A
stated_or (Some x) other = x
stated_or None other = other

-- the settings that were stated, or their defaults
pub record IsSettings (chosen : Transport) (stated : Stated) (settings : Settings) : Type 0 where
  pub transport : settings.transport ≡ chosen
  pub serves : settings.serves ≡ stated_or stated.serves services.Both
  pub mtu : settings.mtu ≡ stated_or stated.mtu (default_number keyed.Mtu)
  pub mps : settings.mps ≡ stated_or stated.mps (default_number keyed.Mps)
  pub window : settings.window ≡ stated_or stated.window (default_number keyed.Window)
  pub tries : settings.tries ≡ stated_or stated.tries (default_number keyed.Tries)
  pub credits : settings.credits ≡ stated_or stated.credits (default_number keyed.Credits)
  pub obex : settings.obex ≡ stated_or stated.obex (default_number keyed.Obex)
  pub srm : settings.srm ≡ stated_or stated.srm false

-- what the lines state over that transport; what they do not state has its default
unfoldable pub with_defaults : Transport → Known → Script
with_defaults transport draft = record {
  transport = transport;
  serves = stated_or draft.keys.serves services.Both;
  acl = stated_or draft.keys.acl (1021, 8);
  chunk = stated_or draft.keys.chunk (default_number keyed.Chunk);
  mtu = stated_or draft.keys.mtu (default_number keyed.Mtu);
  mps = stated_or draft.keys.mps (default_number keyed.Mps);
  window = stated_or draft.keys.window (default_number keyed.Window);
  tries = stated_or draft.keys.tries (default_number keyed.Tries);
  credits = stated_or draft.keys.credits (default_number keyed.Credits);
  obex = stated_or draft.keys.obex (default_number keyed.Obex);
  srm = stated_or draft.keys.srm false;
  names = draft.names;
  runs = draft.runs;
}

-- The scenario that the lines give. Where the line `radio` was read the keys are whole already.
unfoldable pub finished : Known → Result Script ScriptRefusal
finished draft = whole draft >>= λ transport. Ok (with_defaults transport draft)

-- The lines from that number on, read one after the other, and then the end, which stands behind the last line.
abbrev pub lines_read : ℕ → Result Known (ℕ × ScriptRefusal) → List (List ℕ) → Result Script (ℕ × ScriptRefusal)
lines_read number (Err refused) lines = Err refused
lines_read number (Ok draft) [] = at_line number (finished draft)
lines_read number (Ok draft) (line ∷ more) = lines_read (number + 1) (at_line number (line_read draft line)) more

-- nothing was read yet
abbrev pub no_draft : Known
no_draft = record {
  keys = record { transport = None; serves = None; acl = None; chunk = None; mtu = None; mps = None; window = None; tries = None; credits = None; obex = None; srm = None };
  names = [];
  radio = false;
  runs = [];
}

-- a scenario's text has at most that many octets: 1 MiB
abbrev pub text_limit : ℕ
text_limit = 1048576

-- What a text is read as: it is judged for its length first, then as UTF-8, and then line by line. A text that is not
-- UTF-8 is refused at the line of the first octet that is none.
unfoldable pub reading : List ℕ → Result Script (ℕ × ScriptRefusal)
reading text =
    cond (nat_lt text_limit (length text)) (Err (0, TooLong)) (
    cond (is_utf8 text) (lines_read 1 (Ok no_draft) (lines text))
    (Err (count_by is_feed (take (utf8_valid_len text) text) + 1, NotUtf8)))

-- what a function answered, unless memory ran out
abbrev pub Gives : Result Known LineFault → Result Known ScriptRefusal → Type 0
Gives (Ok draft) read = read ≡ Ok draft
Gives (Err (faults.Refused refusal)) read = read ≡ Err refusal
Gives (Err faults.NoMemory) read = Unit {0}

abbrev pub Finishes : Result Scenario ScriptRefusal → Result Script ScriptRefusal → Type 0
Finishes (Ok scenario) read = read ≡ Ok (script_of scenario)
Finishes (Err refusal) read = read ≡ Err refusal

abbrev pub Reads : Result Scenario ScriptFault → Result Script (ℕ × ScriptRefusal) → Type 0
Reads (Ok scenario) read = read ≡ Ok (script_of scenario)
Reads (Err (ends.Refused line refusal)) read = read ≡ Err (line, refusal)
Reads (Err ends.NoMemory) read = Unit {0}
