-- A reading's line and count fit 32 bits: a text has no more lines than bytes, and at most 65,536 bytes.
-- Assumes nothing.
use Rattle.std.specs.Prelude.{◌≡◌, refl, Bool, true, false, cond, List, [], ◌∷◌, ℕ, suc, ◌+◌, ◌≤◌, length, eqb, ltb}
use Rattle.std.proofs.Common.{arith, ltb-false}
use Rattle.line.specs.Grammar.{newline, Line, Good, Refused, line_of}
use Rattle.journal.specs.Journal.{longer, lines, has_room, roomed, Outcome, events, refused, on_line, lines_from, outcome, reading_of, reading}

more_lines : (x : ℕ) (ls : List (List ℕ)) → length (longer x ls) ≤ suc (length ls)
more_lines x [] = omega arith
more_lines x (l ∷ ls) = omega arith

few_lines : (t : List ℕ) → length (lines t) ≤ length t
few_lines [] = omega arith
few_lines (x ∷ t) = at (eqb x newline) (few_lines t) where
  at : (b : Bool) → length (lines t) ≤ length t → length (cond b ((x ∷ []) ∷ lines t) (longer x (lines t))) ≤ suc (length t)
  at true h = omega arith
  at false h = omega (arith, more_lines x (lines t))

-- what m lines after n give: a line up to n + m, or up to m events
abbrev Within : ℕ → ℕ → Outcome → Type 0
Within n m (events es) = length es ≤ m
Within n m (refused r k) = k ≤ n + m

one_more : (n m : ℕ) (l : Line) (o : Outcome) → Within (suc n) m o → Within n (suc m) (on_line (suc n) l o)
one_more n m (Good e) (events es) h = omega arith
one_more n m (Good e) (refused r k) h = omega arith
one_more n m (Refused r) o h = omega arith

in_lines : (area n : ℕ) (ls : List (List ℕ)) → Within n (length ls) (lines_from area n ls)
in_lines area n [] = omega arith
in_lines area n (l ∷ ls) =
    one_more n (length ls) (roomed (has_room area n) (line_of l)) (lines_from area (suc n) ls) (in_lines area (suc n) ls)

pub record Small (text : List ℕ) (area : ℕ) : Type 0 where
  pub line : (reading text area).line ≤ 65536
  pub count : (reading text area).count ≤ 65536

pub small : (text : List ℕ) (area : ℕ) → Small text area
unfolding reading outcome
small text area = at (ltb 65536 (length text)) refl where
  by : (o : Outcome) → Within 0 (length (lines text)) o → length text ≤ 65536 → ((reading_of o).line ≤ 65536) × ((reading_of o).count ≤ 65536)
  by (events es) h l = (omega arith, omega (arith, few_lines text))
  by (refused r k) h l = (omega (arith, few_lines text), omega arith)

  at : (b : Bool) → ltb 65536 (length text) ≡ b → Small text area
  at true e = record { line = rw e (omega arith); count = rw e (omega arith) }
  at false e =
      let p = by (lines_from area 0 (lines text)) (in_lines area 0 (lines text)) (ltb-false _ _ e) in
      record { line = rw e p.0; count = rw e p.1 }

pub small_line : (text : List ℕ) (area : ℕ) → (reading text area).line ≤ 65536
small_line text area = (small text area).line

pub small_count : (text : List ℕ) (area : ℕ) → (reading text area).count ≤ 65536
small_count text area = (small text area).count
