-- The outline's marked (*) lot cases, as one list. They hold (proofs/Cases.antt).
-- Assumes nothing.
use Rattle.std.specs.Prelude.{ℕ, List, [], ◌∷◌}
use Rattle.rules.specs.declared.Answer.{Answer}
use Rattle.rules.specs.Numbers.{received, coordinator, participant, plain, split, complete, close, compensate, exited, exit, completed, fail, closed}
use Rattle.rules.specs.Rules.{entry_of, answer_of, answer}

-- a role, a table and a state, the message that the seat got, and the answer that is to come: refusal, state, action, reply
pub record Case : Type 0 where
  pub role : ℕ
  pub table : ℕ
  pub state : ℕ
  pub got : ℕ
  pub gives : Answer

abbrev case : ℕ → ℕ → ℕ → ℕ → Answer → Case
case r t s m a = record { role = r; table = t; state = s; got = m; gives = a }

abbrev pub marked : List Case
marked =
    case coordinator split 3 completed (answer 0 5 0 0)
    ∷ case coordinator split 2 completed (answer 14 2 0 0)
    ∷ case coordinator split 14 exit (answer 0 14 2 exited)
    ∷ case coordinator split 12 exit (answer 0 12 1 0)
    ∷ case participant split 14 complete (answer 0 14 2 fail)
    ∷ case participant plain 12 close (answer 0 12 2 closed)
    ∷ case participant split 12 close (answer 0 12 1 0)
    ∷ case participant plain 9 compensate (answer 0 9 2 fail)
    ∷ case participant split 9 compensate (answer 0 9 2 fail)
    ∷ []

abbrev pub answered : Case → Answer
answered c = answer_of (entry_of c.role c.table received c.got c.state) c.state
