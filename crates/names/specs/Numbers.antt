-- The number of each message and of each way, and what a field names as a number.
-- Assumes nothing.
use Rattle.std.specs.Prelude.{◌≡◌, ℕ, ◌<◌, ◌⊎◌, Option, Some, None, Result, MatchResult}
use Rattle.names.specs.declared.Message.{Message}
use Rattle.names.specs.declared.Message.TheVariants.{Cancel, Complete, Close, Compensate, Failed, Exited, NotCompleted, Exit, Completed, Fail, CannotComplete, Canceled, Closed, Compensated}
use Rattle.names.specs.declared.NoMessage.{NoMessage}
use Rattle.names.specs.declared.Way.{Way}
use Rattle.names.specs.declared.Way.TheVariants.{Got, Sent}

abbrev pub message_number : Message → ℕ
message_number Cancel = 1
message_number Complete = 2
message_number Close = 3
message_number Compensate = 4
message_number Failed = 5
message_number Exited = 6
message_number NotCompleted = 7
message_number Exit = 8
message_number Completed = 9
message_number Fail = 10
message_number CannotComplete = 11
message_number Canceled = 12
message_number Closed = 13
message_number Compensated = 14

abbrev pub way_number : Way → ℕ
way_number Got = 0
way_number Sent = 1

-- 0 where a field names no message, 2 where it names no way
abbrev pub message_told : Option Message → ℕ
message_told (Some m) = message_number m
message_told None = 0

abbrev pub way_told : Option Way → ℕ
way_told (Some w) = way_number w
way_told None = 2

-- the message that has a number, or an error with a number that none has
abbrev pub MessageOf : ℕ → Result Message NoMessage → Type 0
MessageOf n r = MatchResult r (λ m. message_number m ≡ n) (λ e. (e.0 ≡ n) × ((n ≡ 0) ⊎ (14 < n)))
