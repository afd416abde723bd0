-- What a seat answers to a message, for every role, table, way, message and state.
-- Assumes nothing.
use Rattle.std.specs.Prelude.{ℕ, List, [], ◌∷◌, get_or, Bool, true, false, cond, not, ◌&&◌, ◌||◌, ◌==◌, nat_le}
use Rattle.rules.specs.declared.Entry.{Entry}
use Rattle.rules.specs.declared.Entry.TheVariants.{Invalid, Ignore, Move, Forget, Reply}
use Rattle.rules.specs.declared.Answer.{Answer}
use Rattle.rules.specs.Numbers.{received, sent, coordinator, participant, plain, split, invalid_state}
use Rattle.rules.specs.Tables.{coordinator_receives, coordinator_sends, participant_receives, participant_sends}

-- the last state of a table: 13 to 15 are the split one's alone
unfoldable pub last_state : ℕ → ℕ
last_state table = cond (table == plain) 12 (cond (table == split) 15 0)

-- the states that a role has under a table: 3 is the coordinator's alone
unfoldable pub has_state : ℕ → ℕ → ℕ → Bool
has_state role table s =
    nat_le 1 s && nat_le s (last_state table) && (role == coordinator || (role == participant && not (s == 3)))

-- 1 to 7 go from coordinator to participant, 8 to 14 from participant to coordinator
unfoldable pub sends : ℕ → ℕ → Bool
sends role m =
    (role == coordinator && nat_le 1 m && nat_le m 7) || (role == participant && nat_le 8 m && nat_le m 14)

unfoldable pub receives : ℕ → ℕ → Bool
receives role m =
    (role == participant && nat_le 1 m && nat_le m 7) || (role == coordinator && nat_le 8 m && nat_le m 14)

-- whether a role moves a message that way
unfoldable pub moves : ℕ → ℕ → ℕ → Bool
moves role way m = (way == sent && sends role m) || (way == received && receives role m)

-- what the lines of a role's table say of a message that goes that way
unfoldable pub line_of : ℕ → ℕ → ℕ → ℕ → ℕ → Entry
line_of role table way m s =
    cond (way == received)
    (cond (role == coordinator) (coordinator_receives (table == split) m s) (participant_receives (table == split) m s))
    (cond (way == sent)
    (cond (role == coordinator) (coordinator_sends (table == split) m s) (participant_sends (table == split) m s))
    Invalid)

-- the table's entry; Invalid in a state that the role or the table doesn't have, "ended" or not
unfoldable pub entry_of : ℕ → ℕ → ℕ → ℕ → ℕ → Entry
entry_of role table way m s = cond (has_state role table s) (line_of role table way m s) Invalid

abbrev pub answer : ℕ → ℕ → ℕ → ℕ → Answer
answer r s a m = record { refusal = r; state = s; action = a; reply = m }

-- the four bytes of an answer, and the answer that four bytes are
abbrev pub four_of : Answer → List ℕ
four_of a = a.refusal ∷ a.state ∷ a.action ∷ a.reply ∷ []

abbrev pub of_four : List ℕ → Answer
of_four four = answer (get_or four 0 0) (get_or four 1 0) (get_or four 2 0) (get_or four 3 0)

-- an entry in the outline's numbers, at a seat in state s: refusal, state after, action (0 none, 1 ignore, 2 reply, 3 forget), reply
abbrev pub answer_of : Entry → ℕ → Answer
answer_of Invalid s = answer invalid_state s 0 0
answer_of Ignore s = answer 0 s 1 0
answer_of (Move next) s = answer 0 next 0 0
answer_of (Forget next) s = answer 0 next 3 0
answer_of (Reply m) s = answer 0 s 2 m

abbrev pub legal : Entry → Bool
legal Invalid = false
legal Ignore = true
legal (Move next) = true
legal (Forget next) = true
legal (Reply m) = true
