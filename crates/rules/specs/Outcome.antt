-- The outline's sections 'The book' and 'One outcome': the direction that a state needs, and the one that a message asks for. 0 is none.
-- Assumes nothing.
use Rattle.std.specs.Prelude.{ℕ, Bool, cond, ◌||◌, ◌==◌}
use Rattle.rules.specs.Numbers.{close, compensate, to_close, to_compensate}

-- a coordinator seat in 6 needs direction 1, in 7 or 9 direction 2
unfoldable pub needed_by : ℕ → ℕ
needed_by state = cond (state == 6) to_close (cond (state == 7) to_compensate (cond (state == 9) to_compensate 0))

-- a state suits the direction that it needs, and every direction where it needs none
unfoldable pub suits : ℕ → ℕ → Bool
suits direction state = needed_by state == 0 || needed_by state == direction

-- a sent Close sets direction 1, a sent Compensate direction 2
unfoldable pub asked_by : ℕ → ℕ
asked_by message = cond (message == close) to_close (cond (message == compensate) to_compensate 0)
