-- Which packets a line loses: one draw each (this project's own).
use Rattle.std.specs.Prelude.{ℕ, ◌%◌, ◌==◌, Bool, false, Option, Some, None}
use Rattle.draws.specs.Generator.{first_state, next_state, drawn}

-- the next packet is lost; without a number none is
abbrev pub loses : Option ℕ → Bool
loses None = false
loses (Some state) = drawn (next_state state) % 4 == 0

-- the draws behind that one
abbrev pub drawn_on : Option ℕ → Option ℕ
drawn_on None = None
drawn_on (Some state) = Some (next_state state)

-- the draws that a number begins with
abbrev pub draws_from : Option ℕ → Option ℕ
draws_from None = None
draws_from (Some number) = Some (first_state number)
