-- Credits of a channel (RFCOMM 1.2, 6.5), read off what happened on it.
use Rattle.std.specs.Prelude.{ℕ, List, sum, map}

-- what happens to the credits of a side
pub data CreditEvent : Type 0 where
  -- its peer grants credits to it
  Granted : (n : ℕ) → CreditEvent
  -- a frame with information goes out
  Spent : CreditEvent
  -- a frame with information comes in
  Heard : CreditEvent
  -- it grants credits to its peer
  Gave : (n : ℕ) → CreditEvent

abbrev pub granted_by : CreditEvent → ℕ
granted_by (Granted n) = n
granted_by Spent = 0
granted_by Heard = 0
granted_by (Gave n) = 0

abbrev pub spent_by : CreditEvent → ℕ
spent_by (Granted n) = 0
spent_by Spent = 1
spent_by Heard = 0
spent_by (Gave n) = 0

abbrev pub heard_by : CreditEvent → ℕ
heard_by (Granted n) = 0
heard_by Spent = 0
heard_by Heard = 1
heard_by (Gave n) = 0

abbrev pub given_by : CreditEvent → ℕ
given_by (Granted n) = 0
given_by Spent = 0
given_by Heard = 0
given_by (Gave n) = n

-- all credits that were granted to the side
abbrev pub granted_in : List CreditEvent → ℕ
granted_in history = sum (map granted_by history)

-- all frames with information that went out, each for one credit
abbrev pub spent_in : List CreditEvent → ℕ
spent_in history = sum (map spent_by history)

-- all frames with information that came in, each for one credit of the peer
abbrev pub heard_in : List CreditEvent → ℕ
heard_in history = sum (map heard_by history)

-- all credits that the peer was granted, after those from the start on
abbrev pub given_in : List CreditEvent → ℕ
given_in history = sum (map given_by history)
