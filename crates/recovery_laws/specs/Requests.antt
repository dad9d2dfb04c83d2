-- Requests of one end that wait for their answers, and how many passes they may still need (this project's own; requests and
-- answers are those of Core 5.1, Volume 3 Part A, 4 and 6.2, and Part B, 4.2).
use Rattle.std.specs.Prelude.{ℕ, ◌≡◌, ◌+◌, ◌*◌, ◌≤◌, Bool, true, ◌&&◌, not, List, [], ◌∷◌, ◌++◌, length, if◌then◌else◌}
use Rattle.std.specs.List.{AllByRecursion, list_any}

-- a request that waits, by the PDUs that are copies of it and by those that answer it
pub record Request : Type 0 where
  pub asks : List ℕ → Bool
  pub answers : List ℕ → Bool

-- neither a copy nor an answer is on its way, so that nothing but the timer goes on
abbrev pub is_lost : (going coming : List (List ℕ)) → Request → Bool
is_lost going coming request = not (list_any request.asks going) && not (list_any request.answers coming)

abbrev pub lost : (going coming : List (List ℕ)) → List Request → ℕ
lost going coming [] = 0
lost going coming (request ∷ requests) = (if is_lost going coming request then 1 else 0) + lost going coming requests

-- An end that asks: its requests that wait, how many it will still make, and what is on its way from it and to it.
pub record Asker : Type 0 where
  pub waiting : List Request
  pub planned : ℕ
  pub going : List (List ℕ)
  pub coming : List (List ℕ)

-- a copy may bring one answer; a request that is still to be made puts one copy; and a timer puts one
abbrev pub passes_for : Asker → ℕ
passes_for a = (2 * length a.going + length a.coming) + (2 * a.planned + 3 * lost a.going a.coming a.waiting)

-- ---- what both ends keep to

-- each request of which the PDU is a copy is answered
abbrev pub AreAnswered : List ℕ → (answers : List (List ℕ)) → List Request → Type 0
AreAnswered pdu answers requests = AllByRecursion (λ (request : Request). request.asks pdu ≡ true → list_any request.answers answers ≡ true) requests

-- of each request a copy is among these
abbrev pub HaveCopies : List (List ℕ) → List Request → Type 0
HaveCopies copies requests = AllByRecursion (λ (request : Request). list_any request.asks copies ≡ true) requests

-- those wait on that the PDU does not answer
abbrev pub unanswered : List ℕ → List Request → List Request
unanswered pdu [] = []
unanswered pdu (request ∷ requests) = if request.answers pdu then unanswered pdu requests else request ∷ unanswered pdu requests

abbrev pub how_many : (Request → Bool) → List Request → ℕ
how_many test [] = 0
how_many test (request ∷ requests) = (if test request then 1 else 0) + how_many test requests

-- ---- the laws

-- a copy is handed over, and answered; it goes, or it stays
abbrev pub heard : (behind answers : List (List ℕ)) → Asker → Asker
heard behind answers a = record a { going = behind; coming = a.coming ++ answers }

-- an answer is handed over: what it answers waits no more, and new requests are made
abbrev pub told : List ℕ → (behind copies : List (List ℕ)) → (new : List Request) → (planned : ℕ) → Asker → Asker
told pdu behind copies new planned a = record { waiting = unanswered pdu a.waiting ++ new; planned = planned; going = a.going ++ copies; coming = behind }

abbrev pub timed : List (List ℕ) → Asker → Asker
timed copies a = record a { going = a.going ++ copies }

pub record RequestsRecover : Type 0 where
  -- each pass lowers the number
  pub copy_comes : (a : Asker) (pdu : List ℕ) (behind answers : List (List ℕ)) → a.going ≡ pdu ∷ behind → length answers ≤ 1 → AreAnswered pdu answers a.waiting → 1 + passes_for (heard behind answers a) ≤ passes_for a
  pub answer_comes : (a : Asker) (pdu : List ℕ) (behind copies : List (List ℕ)) (new : List Request) (planned : ℕ) → a.coming ≡ pdu ∷ behind → length copies + planned ≤ a.planned → HaveCopies copies new
      → 1 + passes_for (told pdu behind copies new planned a) ≤ passes_for a
  pub timers_fire : (a : Asker) (copies : List (List ℕ)) → a.going ≡ [] → a.coming ≡ [] → 1 ≤ length a.waiting → length copies ≤ length a.waiting → HaveCopies copies a.waiting → 1 + passes_for (timed copies a) ≤ passes_for a
  -- a loss, a repeat or a timer out of turn raises it by little; no PDU is a copy of two requests, or answers two
  pub copy_lost : (a : Asker) (pdu : List ℕ) (behind : List (List ℕ)) → a.going ≡ pdu ∷ behind → how_many (λ (request : Request). request.asks pdu) a.waiting ≤ 1 → passes_for (record a { going = behind }) ≤ 1 + passes_for a
  pub answer_lost : (a : Asker) (pdu : List ℕ) (behind : List (List ℕ)) → a.coming ≡ pdu ∷ behind → how_many (λ (request : Request). request.answers pdu) a.waiting ≤ 1 → passes_for (record a { coming = behind }) ≤ 2 + passes_for a
  pub copy_repeated : (a : Asker) (answers : List (List ℕ)) → length answers ≤ 1 → passes_for (heard a.going answers a) ≤ 1 + passes_for a
  pub answer_repeated : (a : Asker) (pdu : List ℕ) (copies : List (List ℕ)) (new : List Request) (planned : ℕ) → length copies + planned ≤ a.planned → HaveCopies copies new
      → passes_for (told pdu a.coming copies new planned a) ≤ passes_for a
  pub timers_early : (a : Asker) (copies : List (List ℕ)) → passes_for (timed copies a) ≤ 2 * length copies + passes_for a
