-- The outline's section 'The tables', line by line in its order. What is not listed is Invalid State.
-- Assumes nothing.
use Rattle.std.specs.Prelude.{ℕ, zero, suc, ◌-◌, Bool, false, cond, not, ◌&&◌, ◌||◌, List, [], ◌∷◌, ◌==◌}
use Rattle.rules.specs.declared.Entry.{Entry}
use Rattle.rules.specs.declared.Entry.TheVariants.{Invalid, Ignore, Move, Forget, Reply}
use Rattle.rules.specs.Numbers.{cancel, complete, close, compensate, failed, exited, not_completed, exit, completed, fail, cannot_complete, canceled, closed, compensated}

-- a line: a message, the states, and what happens there; in the plain table (P), in the split one (S), or in both (B)
pub data Line : Type 0 where
  P S B : ℕ → List ℕ → Entry → Line

abbrev up_from : ℕ → ℕ → List ℕ
up_from i zero = []
up_from i (suc n) = i ∷ up_from (suc i) n

-- the states from i to j
infixl 20 ◌to◌
abbrev pub ◌to◌ : ℕ → ℕ → List ℕ
i to j = up_from i (suc j - i)

abbrev pub just : ℕ → List ℕ
just s = s ∷ []

-- states 12 to 15 are "ended"
abbrev pub ended : List ℕ
ended = 12 to 15

-- Coordinator receives
abbrev pub coordinator_receives_lines : List Line
coordinator_receives_lines =
    B exit (1 to 4) (Move 11)
    ∷ B exit (just 11) Ignore
    ∷ P exit (just 12) (Reply exited)
    ∷ S exit (just 14) (Reply exited)
    ∷ S exit (12 ∷ 13 ∷ 15 ∷ []) Ignore
    ∷ B completed (3 to 4) (Move 5)
    ∷ B completed (5 ∷ 9 ∷ ended) Ignore
    ∷ B completed (just 6) (Reply close)
    ∷ B completed (just 7) (Reply compensate)
    ∷ B fail (1 to 4) (Move 8)
    ∷ B fail (just 7) (Move 9)
    ∷ B fail (8 to 9) Ignore
    ∷ P fail (just 12) (Reply failed)
    ∷ S fail (just 13) (Reply failed)
    ∷ S fail (12 ∷ 14 ∷ 15 ∷ []) Ignore
    ∷ B cannot_complete (1 to 4) (Move 10)
    ∷ B cannot_complete (just 10) Ignore
    ∷ P cannot_complete (just 12) (Reply not_completed)
    ∷ S cannot_complete (just 15) (Reply not_completed)
    ∷ S cannot_complete (12 to 14) Ignore
    ∷ B canceled (2 to 3) (Forget 12)
    ∷ B closed (just 6) (Forget 12)
    ∷ B compensated (just 7) (Forget 12)
    ∷ B canceled ended Ignore
    ∷ B closed ended Ignore
    ∷ B compensated ended Ignore
    ∷ []

-- Coordinator sends
abbrev pub coordinator_sends_lines : List Line
coordinator_sends_lines =
    B cancel (1 to 2) (Move 2)
    ∷ B cancel (3 to 4) (Move 3)
    ∷ B complete (1 ∷ 4 ∷ []) (Move 4)
    ∷ B close (5 to 6) (Move 6)
    ∷ B compensate (5 ∷ 7 ∷ []) (Move 7)
    -- each may be sent again from the ended state it leads to
    ∷ P failed (8 ∷ 9 ∷ 12 ∷ []) (Move 12)
    ∷ S failed (8 ∷ 9 ∷ 13 ∷ []) (Move 13)
    ∷ P exited (11 ∷ 12 ∷ []) (Move 12)
    ∷ S exited (11 ∷ 14 ∷ []) (Move 14)
    ∷ P not_completed (10 ∷ 12 ∷ []) (Move 12)
    ∷ S not_completed (10 ∷ 15 ∷ []) (Move 15)
    ∷ []

-- Participant receives
abbrev pub participant_receives_lines : List Line
participant_receives_lines =
    B cancel (1 ∷ 4 ∷ []) (Move 2)
    ∷ B cancel (2 ∷ 6 ∷ 7 ∷ 9 ∷ []) Ignore
    ∷ B cancel (just 5) (Reply completed)
    ∷ B cancel (just 8) (Reply fail)
    ∷ B cancel (just 10) (Reply cannot_complete)
    ∷ B cancel (just 11) (Reply exit)
    ∷ P cancel (just 12) (Reply canceled)
    ∷ S cancel (just 13) (Reply canceled)
    ∷ S cancel (12 ∷ 14 ∷ 15 ∷ []) Ignore
    ∷ B complete (just 1) (Move 4)
    ∷ B complete (2 ∷ 4 ∷ 6 ∷ 7 ∷ 9 ∷ []) Ignore
    ∷ B complete (just 5) (Reply completed)
    ∷ B complete (just 8) (Reply fail)
    ∷ B complete (just 10) (Reply cannot_complete)
    ∷ B complete (just 11) (Reply exit)
    ∷ P complete (just 12) (Reply fail)
    ∷ S complete (13 to 15) (Reply fail)
    ∷ S complete (just 12) Ignore
    ∷ B close (just 5) (Move 6)
    ∷ B close (just 6) Ignore
    ∷ P close (just 12) (Reply closed)
    ∷ S close (just 14) (Reply closed)
    ∷ S close (12 ∷ 13 ∷ 15 ∷ []) Ignore
    ∷ B compensate (just 5) (Move 7)
    ∷ B compensate (just 7) Ignore
    ∷ B compensate (just 9) (Reply fail)
    ∷ P compensate (just 12) (Reply compensated)
    ∷ S compensate (just 15) (Reply compensated)
    ∷ S compensate (12 to 14) Ignore
    ∷ B failed (8 to 9) (Forget 12)
    ∷ B exited (just 11) (Forget 12)
    ∷ B not_completed (just 10) (Forget 12)
    ∷ B failed ended Ignore
    ∷ B exited ended Ignore
    ∷ B not_completed ended Ignore
    ∷ []

-- Participant sends
abbrev pub participant_sends_lines : List Line
participant_sends_lines =
    B exit (1 ∷ 4 ∷ 11 ∷ []) (Move 11)
    ∷ B completed (4 to 5) (Move 5)
    ∷ B fail (1 ∷ 2 ∷ 4 ∷ 8 ∷ []) (Move 8)
    ∷ B fail (7 ∷ 9 ∷ []) (Move 9)
    ∷ B cannot_complete (1 ∷ 4 ∷ 10 ∷ []) (Move 10)
    -- each again from the state it leads to
    ∷ P canceled (2 ∷ 12 ∷ []) (Move 12)
    ∷ S canceled (2 ∷ 13 ∷ []) (Move 13)
    ∷ P closed (6 ∷ 12 ∷ []) (Move 12)
    ∷ S closed (6 ∷ 14 ∷ []) (Move 14)
    ∷ P compensated (7 ∷ 12 ∷ []) (Move 12)
    ∷ S compensated (7 ∷ 15 ∷ []) (Move 15)
    ∷ []

-- how a line is found
abbrev pub one_of : List ℕ → ℕ → Bool
one_of [] s = false
one_of (k ∷ ks) s = s == k || one_of ks s

abbrev pub speaks : Line → Bool → ℕ → ℕ → Bool
speaks (P k ss e) is_split m s = m == k && not is_split && one_of ss s
speaks (S k ss e) is_split m s = m == k && is_split && one_of ss s
speaks (B k ss e) is_split m s = m == k && one_of ss s

abbrev pub says : Line → Entry
says (P k ss e) = e
says (S k ss e) = e
says (B k ss e) = e

abbrev pub look : List Line → Bool → ℕ → ℕ → Entry
look [] is_split m s = Invalid
look (l ∷ ls) is_split m s = cond (speaks l is_split m s) (says l) (look ls is_split m s)

-- "A received move has action 0 unless "forget" stands by it."
abbrev pub as_received : ℕ → Entry → Entry
as_received s e = e

-- "A legal send has action 3 when it goes from a state that is not ended to one that is, else 0."
abbrev pub as_sent : ℕ → Entry → Entry
as_sent s (Move next) = cond (not (one_of ended s) && one_of ended next) (Forget next) (Move next)
as_sent s Invalid = Invalid
as_sent s Ignore = Ignore
as_sent s (Forget next) = Forget next
as_sent s (Reply m) = Reply m

unfoldable pub coordinator_receives : Bool → ℕ → ℕ → Entry
coordinator_receives is_split m s = as_received s (look coordinator_receives_lines is_split m s)

unfoldable pub coordinator_sends : Bool → ℕ → ℕ → Entry
coordinator_sends is_split m s = as_sent s (look coordinator_sends_lines is_split m s)

unfoldable pub participant_receives : Bool → ℕ → ℕ → Entry
participant_receives is_split m s = as_received s (look participant_receives_lines is_split m s)

unfoldable pub participant_sends : Bool → ℕ → ℕ → Entry
participant_sends is_split m s = as_sent s (look participant_sends_lines is_split m s)
