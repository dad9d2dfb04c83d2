-- What a call does that asks a port (this project's own).
use Rattle.std.specs.Prelude.{◌≡◌, List, [], ◌++◌}

-- A call goes from one value to another; both are told for all that the port may answer from then on. The port gave these answers in
-- the call, whatever it answers later.
pub record Does {G S P : Type 0} (Answers : P → List G → P → Type 0) (before after : List G → S) (port port' : P) : Type 0 where
  pub used : List G
  pub answered : Answers port used port'
  pub does : (rest : List G) → before (used ++ rest) ≡ after rest

-- one list of answers behind another, from port to port
pub record JoinAnswers {G P : Type 0} (Answers : P → List G → P → Type 0) : Type 0 where
  pub none : (port : P) → Answers port [] port
  pub then : (first mid last : P) (xs ys : List G) → Answers first xs mid → Answers mid ys last → Answers first (xs ++ ys) last
