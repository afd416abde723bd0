-- The outline's numbers by their names; states and actions stand as numbers where they are used.
-- Assumes nothing.
use Rattle.std.specs.Prelude.{ℕ}

-- coordinator to participant
abbrev pub cancel : ℕ
cancel = 1

abbrev pub complete : ℕ
complete = 2

abbrev pub close : ℕ
close = 3

abbrev pub compensate : ℕ
compensate = 4

abbrev pub failed : ℕ
failed = 5

abbrev pub exited : ℕ
exited = 6

abbrev pub not_completed : ℕ
not_completed = 7

-- participant to coordinator
abbrev pub exit : ℕ
exit = 8

abbrev pub completed : ℕ
completed = 9

abbrev pub fail : ℕ
fail = 10

abbrev pub cannot_complete : ℕ
cannot_complete = 11

abbrev pub canceled : ℕ
canceled = 12

abbrev pub closed : ℕ
closed = 13

abbrev pub compensated : ℕ
compensated = 14

-- ways
abbrev pub received : ℕ
received = 0

abbrev pub sent : ℕ
sent = 1

-- roles
abbrev pub coordinator : ℕ
coordinator = 1

abbrev pub participant : ℕ
participant = 2

-- tables
abbrev pub plain : ℕ
plain = 1

abbrev pub split : ℕ
split = 2

-- directions
abbrev pub to_close : ℕ
to_close = 1

abbrev pub to_compensate : ℕ
to_compensate = 2

-- the refusal that an Invalid State is
abbrev pub invalid_state : ℕ
invalid_state = 14
