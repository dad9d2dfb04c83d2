-- The keys of a scenario and the lines that state them (this project's own).
use Rattle.std.specs.Prelude.{ℕ, Bool, true, false, cond, List, codes, Option, Some, None, Result, Ok, Err, is_some}
use Rattle.std.specs.Str.{bytes_eq}
use Rattle.bt_base.specs.declared.settings.Transport.{Transport}
use Rattle.bt_base.specs.declared.settings.Serves.{Serves}
use Rattle.push_script.specs.declared.refusal.ScriptRefusal.{ScriptRefusal}
use Rattle.push_script.specs.declared.refusal.ScriptRefusal.TheVariants.{BadLine, Repeated, OutOfRange}
use Rattle.push_script.specs.declared.stated.Key.{Key}
use Rattle.push_script.specs.declared.stated.Key.TheVariants as keyed
use Rattle.push_script.specs.Stated.{Stated}
use Rattle.push_script.specs.Choices.{transport_of, serves_of, switch_of}
use Rattle.script_words.specs.Parts.{number_of, pair_of}
use Rattle.script_words.specs.Words.{number_within}

infixl 10 ◌>>=◌
abbrev pub ◌>>=◌ : {A B : Type 0} → Result A ScriptRefusal → (A → Result B ScriptRefusal) → Result B ScriptRefusal
(Ok x) >>= f = f x
(Err refusal) >>= f = Err refusal

-- a value, or that refusal where there is none
abbrev pub or_refusal : {A : Type 0} → ScriptRefusal → Option A → Result A ScriptRefusal
or_refusal refusal (Some x) = Ok x
or_refusal refusal None = Err refusal

-- the key of that name
abbrev pub late_key_of : List ℕ → Option Key
late_key_of name =
    cond (bytes_eq name (codes "tries")) (Some keyed.Tries) (
    cond (bytes_eq name (codes "credits")) (Some keyed.Credits) (
    cond (bytes_eq name (codes "obex")) (Some keyed.Obex) (
    cond (bytes_eq name (codes "srm")) (Some keyed.Srm) (
    cond (bytes_eq name (codes "object")) (Some keyed.Object) None))))

abbrev pub key_of : List ℕ → Option Key
key_of name =
    cond (bytes_eq name (codes "transport")) (Some keyed.Transport) (
    cond (bytes_eq name (codes "serves")) (Some keyed.Serves) (
    cond (bytes_eq name (codes "acl")) (Some keyed.Acl) (
    cond (bytes_eq name (codes "chunk")) (Some keyed.Chunk) (
    cond (bytes_eq name (codes "mtu")) (Some keyed.Mtu) (
    cond (bytes_eq name (codes "mps")) (Some keyed.Mps) (
    cond (bytes_eq name (codes "window")) (Some keyed.Window) (
    late_key_of name)))))))

-- the range of a key's number
abbrev pub lowest : Key → ℕ
lowest keyed.Mtu = 255
lowest keyed.Obex = 255
lowest keyed.Mps = 48
lowest keyed.Tries = 2
lowest _ = 1

abbrev pub highest : Key → ℕ
highest keyed.Mtu = 32767
highest keyed.Obex = 32767
highest keyed.Mps = 1010
highest keyed.Window = 63
highest keyed.Tries = 20
highest keyed.Credits = 40
highest _ = 4096

-- the number of a key that no line states
abbrev pub default_number : Key → ℕ
default_number keyed.Mps = 1010
default_number keyed.Window = 10
default_number keyed.Tries = 4
default_number keyed.Credits = 7
default_number _ = 1024

abbrev pub unless_stated : Bool → Result (Unit {0}) ScriptRefusal
unless_stated true = Err Repeated
unless_stated false = Ok tt

-- a number that is within a range, or `OutOfRange`
abbrev pub within : ℕ → ℕ → ℕ → Result ℕ ScriptRefusal
within low high number = or_refusal OutOfRange (number_within low high number)

-- What a line states a number to be: its shape is judged first, then whether the key was stated before, and last the
-- range.
unfoldable pub number_stated : Key → Bool → List ℕ → Result ℕ ScriptRefusal
number_stated key stated value = do
  number ← or_refusal BadLine (number_of value)
  fresh ← unless_stated stated
  within (lowest key) (highest key) number

-- the length and the count of ACL packets
unfoldable pub acl_stated : Bool → List ℕ → Result (ℕ × ℕ) ScriptRefusal
acl_stated stated value = do
  pair ← or_refusal BadLine (pair_of value)
  fresh ← unless_stated stated
  length ← within 27 1021 pair.0
  count ← within 1 64 pair.1
  Ok (length, count)

unfoldable pub transport_stated : Bool → List ℕ → Result Transport ScriptRefusal
transport_stated stated value = do
  transport ← or_refusal BadLine (transport_of value)
  fresh ← unless_stated stated
  Ok transport

unfoldable pub serves_stated : Bool → List ℕ → Result Serves ScriptRefusal
serves_stated stated value = do
  serves ← or_refusal BadLine (serves_of value)
  fresh ← unless_stated stated
  Ok serves

unfoldable pub switch_stated : Bool → List ℕ → Result Bool ScriptRefusal
switch_stated stated value = do
  on ← or_refusal BadLine (switch_of value)
  fresh ← unless_stated stated
  Ok on

-- the keys with one that is stated by a line; `object` is none of them
unfoldable pub with_key : Stated → Key → List ℕ → Result Stated ScriptRefusal
with_key keys keyed.Transport value = transport_stated (is_some keys.transport) value >>= λ x. Ok (record keys { transport = Some x })
with_key keys keyed.Serves value = serves_stated (is_some keys.serves) value >>= λ x. Ok (record keys { serves = Some x })
with_key keys keyed.Acl value = acl_stated (is_some keys.acl) value >>= λ x. Ok (record keys { acl = Some x })
with_key keys keyed.Chunk value = number_stated keyed.Chunk (is_some keys.chunk) value >>= λ n. Ok (record keys { chunk = Some n })
with_key keys keyed.Mtu value = number_stated keyed.Mtu (is_some keys.mtu) value >>= λ n. Ok (record keys { mtu = Some n })
with_key keys keyed.Mps value = number_stated keyed.Mps (is_some keys.mps) value >>= λ n. Ok (record keys { mps = Some n })
with_key keys keyed.Window value = number_stated keyed.Window (is_some keys.window) value >>= λ n. Ok (record keys { window = Some n })
with_key keys keyed.Tries value = number_stated keyed.Tries (is_some keys.tries) value >>= λ n. Ok (record keys { tries = Some n })
with_key keys keyed.Credits value = number_stated keyed.Credits (is_some keys.credits) value >>= λ n. Ok (record keys { credits = Some n })
with_key keys keyed.Obex value = number_stated keyed.Obex (is_some keys.obex) value >>= λ n. Ok (record keys { obex = Some n })
with_key keys keyed.Srm value = switch_stated (is_some keys.srm) value >>= λ on. Ok (record keys { srm = Some on })
with_key keys keyed.Object value = Ok keys
