-- The upper machine of a host: any machine that hears news and says PDUs, one at a time (this project's own). With each news come
-- the answers that its ports give in that reaction; it keeps them, and uses them up as it speaks.
use Rattle.std.specs.Prelude.{ℕ, zero, suc, ◌≡◌, ◌<◌, Bool, List, [], ◌∷◌, Option, Some, None}
use Rattle.push_terms.specs.declared.outcome.Outcome.{Outcome}

-- a link comes up or goes down, by Connection Complete and Disconnection Complete (Core 5.1, Volume 2 Part E, 7.7.3 and 7.7.5)
pub data LinkEvent : Type 0 where
  Up : LinkEvent
  Down : (reason : ℕ) → LinkEvent

pub data News : Type 0 where
  Linked : (event : LinkEvent) → News
  -- a link was asked for, and was not made
  Failed : (status : ℕ) → News
  -- a whole L2CAP PDU
  Heard : (pdu : List ℕ) → News
  TimerFired : News
  Cancelled : News
  -- the object of that name is to be pushed
  Opening : (name : List ℕ) → News

-- `S` is what the machine is at a moment, and `G` an answer of a port
pub record Upper (S G : Type 0) : Type 0 where
  pub first : S
  pub hear : List G → News → S → S
  -- what it says next, and what it is then; it is asked until it says nothing, and only while a link is up
  pub next : S → Option (List ℕ × S)
  -- it says less and less, until it hears something
  pub left : S → ℕ
  pub falls : (s : S) (pdu : List ℕ) (t : S) → next s ≡ Some (pdu, t) → left t < left s
  -- whether it asks for a link, and whether it ends the one that is up, once it has said all
  pub wants_link : S → Bool
  pub leaves_link : S → Bool
  -- whether no push goes on, and what came of the last one
  pub is_idle : S → Bool
  pub outcome : S → Option Outcome
  -- whether something waits for its timer, and whether the push under way can still be cancelled
  pub armed : S → Bool
  pub may_cancel : S → Bool
  -- whether its channel of that number has a check word
  pub has_check : S → ℕ → Bool

-- ---- all that it says

-- what it said, and what it is then
pub record Spoken (S : Type 0) : Type 0 where
  pub said : List (List ℕ)
  pub after : S

abbrev pub said_next : {S : Type 0} → S → Option (List ℕ × S) → (S → Spoken S) → Spoken S
said_next s None more = record { said = []; after = s }
said_next s (Some one) more = record { said = one.0 ∷ (more one.1).said; after = (more one.1).after }

-- so many PDUs, or all that it says where these are fewer
abbrev pub drain : {S G : Type 0} → Upper S G → ℕ → S → Spoken S
drain U zero s = record { said = []; after = s }
drain U (suc count) s = said_next s (U.next s) (λ t. drain U count t)

abbrev pub all_said : {S G : Type 0} → Upper S G → S → Spoken S
all_said U s = drain U (U.left s) s

-- ---- reactions

-- How far a machine comes with what it has to say until it hears the next news. It says all; or its link goes down before: then so
-- many PDUs have moved, and so many was it asked for.
pub data Breath : Type 0 where
  Whole : Breath
  Short : (moved asked : ℕ) → Breath

-- the answers of the ports in one reaction, and how far it comes
pub record Reaction (G : Type 0) : Type 0 where
  pub answers : List G
  pub breath : Breath
