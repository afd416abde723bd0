-- The outline's numbers of the code's actions, refusals and directions.
-- Assumes nothing.
use Rattle.std.specs.Prelude.{ℕ, Option, Some, None}
use Rattle.rules.specs.declared.Action.{Action}
use Rattle.rules.specs.declared.Action.TheVariants.{Ignore, Reply, Forget, None as no_action}
use Rattle.rules.specs.declared.Refusal.{Refusal}
use Rattle.rules.specs.declared.Refusal.TheVariants.{NoSeat, Event, Way, InvalidState, Outcome}
use Rattle.rules.specs.declared.Direction.{Direction}
use Rattle.rules.specs.declared.Direction.TheVariants.{Close, Compensate}

abbrev pub action_number : Action → ℕ
action_number no_action = 0
action_number Ignore = 1
action_number Reply = 2
action_number Forget = 3

abbrev pub refusal_number : Refusal → ℕ
refusal_number NoSeat = 11
refusal_number Event = 12
refusal_number Way = 13
refusal_number InvalidState = 14
refusal_number Outcome = 15

-- 0 is no direction
abbrev pub direction_number : Option Direction → ℕ
direction_number None = 0
direction_number (Some Close) = 1
direction_number (Some Compensate) = 2
