-- Which answers a payload has, by what a command is alone.
use Rattle.std.specs.Prelude.{ℕ, ◌≡◌, ◌≢◌, ◌^◌, ◌<◌, ◌≤◌, ◌⊎◌, List, [], ◌∷◌, ◌++◌, length, map, slice_index, slice_get, Some, Ok, Err}
use Rattle.std.specs.List.{flat_map, AllByRecursion}
use Rattle.bt_base.specs.Octets.{IsOctets}
use Rattle.l2cap_signal.specs.declared.refusal.SignalRefusal.{SignalRefusal}
use Rattle.l2cap_signal.specs.declared.refusal.SignalRefusal.TheVariants.{ZeroIdentifier, BadLength, UnknownCode, AboveMtu}
use Rattle.l2cap_signal.specs.Commands.{Content, Command, code_of, payload_of, framed, spelling, IsContent, IsCommand}
use Rattle.l2cap_signal.specs.Reading.{Answer, answers}

-- a payload says this under a code
pub record Says (code : ℕ) (payload : List ℕ) (what : Content) : Type 0 where
  pub code_is : code ≡ code_of what
  pub payload_is : payload ≡ payload_of what
  pub fits : IsContent what

-- why a command that is there whole is refused: its identifier is 0; else its code is none of the
-- eleven; else nothing of that code has its payload
abbrev pub Refuses : ℕ → ℕ → List ℕ → SignalRefusal → Type 0
Refuses code identifier payload (ZeroIdentifier k i) = (k ≡ code) × (i ≡ Some identifier) × (identifier ≡ 0)
Refuses code identifier payload (UnknownCode k i) = (k ≡ code) × (i ≡ Some identifier) × (0 < identifier) × ((code ≡ 0) ⊎ (11 < code))
Refuses code identifier payload (BadLength k i) =
    (k ≡ code) × (i ≡ Some identifier) × (0 < identifier) × (1 ≤ code) × (code ≤ 11) × ((what : Content) → ¬ Says code payload what)
Refuses code identifier payload (AboveMtu k i) = ⊥

-- what is answered to a command that is there whole
abbrev pub Judges : ℕ → ℕ → List ℕ → Answer → Type 0
Judges code identifier payload (Ok c) = (c.identifier ≡ identifier) × (0 < identifier) × Says code payload c.content
Judges code identifier payload (Err refusal) = Refuses code identifier payload refusal

-- the octets begin with a whole command, to which this is answered
pub record Begins (octets : List ℕ) (given : Answer) (rest : List ℕ) : Type 0 where
  pub code : ℕ
  pub identifier : ℕ
  pub payload : List ℕ
  pub size : length payload < 2 ^ 16
  pub parts : octets ≡ framed code identifier payload ++ rest
  pub judged : Judges code identifier payload given

-- octets are left, and no whole command begins them
pub record Breaks (octets : List ℕ) (given : Answer) : Type 0 where
  pub some : 0 < length octets
  pub none : (code identifier : ℕ) (payload rest : List ℕ) → length payload < 2 ^ 16 → octets ≢ framed code identifier payload ++ rest
  pub refusal : given ≡ Err (BadLength (slice_index octets 0) (slice_get octets 1))

-- one answer to each command in turn, and one to a rest that is no command, where there is such a rest
abbrev pub AreGiven : List ℕ → List Answer → Type 0
AreGiven octets [] = octets ≡ []
AreGiven octets (given ∷ list) = (Breaks octets given × (list ≡ [])) ⊎ ((rest : List ℕ) × Begins octets given rest × AreGiven rest list)

-- these are the answers to a payload: above 672 octets there is one answer
abbrev pub AreAnswers : List ℕ → List Answer → Type 0
AreAnswers payload list =
    ((672 < length payload) × (list ≡ Err (AboveMtu (slice_index payload 0) (slice_get payload 1)) ∷ []))
    ⊎ ((length payload ≤ 672) × AreGiven payload list)

-- ---- the laws

-- what is answered to a payload is what the commands in it ask for
abbrev pub AnswersAreRight : Type 0
AnswersAreRight = (payload : List ℕ) → IsOctets payload → AreAnswers payload (answers payload)

-- and nothing else is
abbrev pub AnswersAreOnly : Type 0
AnswersAreOnly = (payload : List ℕ) (list : List Answer) → IsOctets payload → AreAnswers payload list → list ≡ answers payload

-- commands that were written, one behind the other, are read again
abbrev pub WrittenIsRead : Type 0
WrittenIsRead = (commands : List Command) → AllByRecursion IsCommand commands → length (flat_map spelling commands) ≤ 672
    → answers (flat_map spelling commands) ≡ map Ok commands
