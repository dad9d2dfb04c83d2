-- How many responses a list of requests has, with one request more and of a front of it.
use Rattle.std.proofs.Common.{◌≡◌, ◌≤◌, ◌+◌, ℕ, Bool, true, false, List, [], ◌∷◌, ◌++◌, length, sym, ap, ◌∙◌, length-append, arith, if◌then◌else◌}
use Rattle.request_laws.specs.bt_base.specs.declared.settings.Settings.{Settings}
use Rattle.request_laws.specs.obex_session.specs.Calls.{session_behind}
use Rattle.request_laws.specs.obex_session.specs.Past.{Serving}
use Rattle.request_laws.specs.obex_session.specs.Serving.{heard_with}
use Rattle.request_laws.specs.obex_session.specs.Views.{is_silent}
use Rattle.orderly_laws.specs.Answered.{fresh_session, due_for, due_from, responses_due, LastIsDue}

abbrev pub one_if : Bool → ℕ
one_if silent = if silent then 0 else 1

more_from : (session : Serving) (requests : List (List ℕ)) (request : List ℕ) → due_from session (requests ++ request ∷ []) ≡ due_from session requests + due_for (session_behind session requests) request
more_from session [] request = by (due_for session request)
  where
    by : (n : ℕ) → n + 0 ≡ 0 + n
    by n = omega arith
more_from session (first ∷ requests) request =
    let rest = more_from (heard_with session first []).session requests request in
    by (due_for session first) (due_from (heard_with session first []).session (requests ++ request ∷ [])) (due_from (heard_with session first []).session requests) (due_for (session_behind session (first ∷ requests)) request) rest
  where
    by : (a b c d : ℕ) → b ≡ c + d → a + b ≡ (a + c) + d
    by a b c d is = omega (arith, is)

pub due_more : (settings : Settings) (requests : List (List ℕ)) (request : List ℕ) → responses_due settings (requests ++ request ∷ []) ≡ responses_due settings requests + due_for (session_behind (fresh_session settings) requests) request
due_more settings requests request = more_from (fresh_session settings) requests request

front_from : (session : Serving) (xs ys : List (List ℕ)) → due_from session xs ≤ due_from session (xs ++ ys)
front_from session [] ys = by (due_from session ys)
  where
    by : (n : ℕ) → 0 ≤ n
    by n = omega arith
front_from session (x ∷ xs) ys =
    by (due_for session x) (due_from (heard_with session x []).session xs) (due_from (heard_with session x []).session (xs ++ ys)) (front_from (heard_with session x []).session xs ys)
  where
    by : (a b c : ℕ) → b ≤ c → a + b ≤ a + c
    by a b c few = omega (arith, few)

pub due_front : (settings : Settings) (xs ys : List (List ℕ)) → responses_due settings xs ≤ responses_due settings (xs ++ ys)
due_front settings xs ys = front_from (fresh_session settings) xs ys

-- one that has a response
pub due_one : (settings : Settings) (requests : List (List ℕ)) (request : List ℕ) → is_silent (session_behind (fresh_session settings) requests) request ≡ false → responses_due settings (requests ++ request ∷ []) ≡ responses_due settings requests + 1
due_one settings requests request loud = due_more settings requests request ∙ ap (λ (silent : Bool). responses_due settings requests + one_if silent) loud

-- one that has none
pub due_none : (settings : Settings) (requests : List (List ℕ)) (request : List ℕ) → is_silent (session_behind (fresh_session settings) requests) request ≡ true → responses_due settings (requests ++ request ∷ []) ≡ responses_due settings requests
due_none settings requests request silent = due_more settings requests request ∙ (ap (λ (off : Bool). responses_due settings requests + one_if off) silent ∙ by (responses_due settings requests))
  where
    by : (n : ℕ) → n + 0 ≡ n
    by n = omega arith

-- where there are no requests
pub no_last : (settings : Settings) (requests : List (List ℕ)) → requests ≡ [] → LastIsDue settings requests
no_last settings requests none past request is = let e = ap length (sym none ∙ is) ∙ length-append past (request ∷ []) in absurd (omega (arith, e))
