-- The aids: how a row is put into them, and what their rows and masks say.
-- The argument: each of the sixteen rows has a count of letters that no name has, or is the row of its own message; and the mask of
-- each count of letters is that of the name with its newline. Both are computed.
-- Assumes nothing.
use Rattle.std.proofs.Common.{◌≡◌, ℕ, zero, suc, ◌+◌, ◌-◌, ◌*◌, ◌^◌, ◌<◌, ◌≤◌, min, Bool, true, ◌&&◌, ◌||◌, eqb, ltb, leb, List, [], ◌∷◌, ◌++◌, length, get_or, take, drop, replicate, sym, refl, ap, subst, ◌∙◌, ⊎_elim, append_assoc, arith, drop-drop, ltb-true, eqb-true, leb-true}
use mir.Facts.{eqb_yes}
use Rattle.lemmas.specs.Bools.{both, either, T_is}
use Rattle.lemmas.specs.Ranges.{each_at}
use Rattle.records.specs.Records.{placed}
use Rattle.words.specs.Words.{word_at}
use Rattle.words.specs.Laws.{Bytes, bytes_are}
use Rattle.names.specs.Names.{name_of, same}
use Rattle.names.specs.Laws.{same_is}
use Rattle.line.specs.Grammar.{newline}
use Rattle.line.specs.Quick.{guesses, with_row, rows_to, aid_bytes}

-- a part that is copied to a place
pub put_is : (l part mid : List ℕ) (at : ℕ) → mid ≡ part → take at l ++ (mid ++ drop (at + length part - at) (drop at l)) ≡ placed l at part
unfolding placed
put_is l part mid at e =
    let z : at + length part - at ≡ length part = omega arith in
    rw (z, e, drop-drop (length part) at l) (sym (append_assoc (take at l) part (drop (at + length part) l)))

-- row by row
pub rows_on : (m : ℕ) → 1 ≤ m → rows_to m ≡ with_row (rows_to (m - 1)) m (name_of m)
unfolding rows_to
rows_on zero h = absurd (omega arith)
rows_on (suc m) h = let z : suc m - 1 ≡ m = omega arith in rw z

pub rows_length : (m : ℕ) → m ≤ 14 → length (rows_to m) ≡ 320
unfolding rows_to with_row placed
rows_length m h = eqb_yes (each_at (λ k. eqb (length (rows_to k)) 320) 15 0 tt m (omega arith) (omega arith))

-- and then the guesses and the masks
pub rows_all : placed (placed (rows_to 14) 256 guesses) 304 (replicate 16 0) ≡ aid_bytes
unfolding aid_bytes rows_to with_row placed
rows_all = refl

-- what a row holds
pub record Row (m letters : ℕ) : Type 0 where
  pub some : 1 ≤ m
  pub known : m ≤ 14
  pub size : length (name_of m) ≡ letters
  pub bytes : take (letters + 1) (drop (16 * m) aid_bytes) ≡ name_of m ++ newline ∷ []

own : ℕ → Bool
own m =
    leb 1 m
    && (leb m 14
    && (eqb (get_or aid_bytes (16 * m + 15) 0) (length (name_of m))
    && same (take (length (name_of m) + 1) (drop (16 * m) aid_bytes)) (name_of m ++ newline ∷ [])))

right : ℕ → Bool
right m = ltb 14 (get_or aid_bytes (16 * m + 15) 0) || own m

row_right : (m : ℕ) → m < 16 → right m ≡ true
unfolding aid_bytes right own
row_right m h = T_is (right m) (each_at right 16 0 tt m (omega arith) (omega arith))

own_row : (m letters : ℕ) → get_or aid_bytes (16 * m + 15) 0 ≡ letters → own m ≡ true → Row m letters
unfolding own
own_row m letters e h =
    let a = both (leb 1 m) _ h in
    let b = both (leb m 14) _ a.1 in
    let d = both (eqb (get_or aid_bytes (16 * m + 15) 0) (length (name_of m))) _ b.1 in
    let n : length (name_of m) ≡ letters = sym (eqb-true _ _ d.0) ∙ e in
    record {
      some = leb-true 1 m a.0;
      known = leb-true m 14 b.0;
      size = n;
      bytes = ap (λ (k : ℕ). take (k + 1) (drop (16 * m) aid_bytes)) (sym n) ∙ same_is _ _ d.1;
    }

pub row_is : (m letters : ℕ) → m < 16 → letters ≤ 14 → get_or aid_bytes (16 * m + 15) 0 ≡ letters → Row m letters
unfolding right
row_is m letters h k e =
    ⊎_elim (λ (f : ltb 14 (get_or aid_bytes (16 * m + 15) 0) ≡ true). absurd (omega (arith, ltb-true 14 (get_or aid_bytes (16 * m + 15) 0) f)))
    (λ f. own_row m letters e f) (either (ltb 14 (get_or aid_bytes (16 * m + 15) 0)) (own m) (row_right m h))

-- the masks of a name with its newline, in its first eight bytes and in those after them
pub mask_low : (letters : ℕ) → letters ≤ 14 → word_at aid_bytes (288 + 15 - letters) ≡ 2 ^ (8 * min 8 (letters + 1)) - 1
unfolding aid_bytes word_at
mask_low letters h = eqb_yes (each_at (λ k. eqb (word_at aid_bytes (288 + 15 - k)) (2 ^ (8 * min 8 (k + 1)) - 1)) 15 0 tt letters (omega arith) (omega arith))

pub mask_high : (letters : ℕ) → letters ≤ 14 → word_at aid_bytes (288 + 23 - letters) ≡ 2 ^ (8 * (letters + 1 - 8)) - 1
unfolding aid_bytes word_at
mask_high letters h = eqb_yes (each_at (λ k. eqb (word_at aid_bytes (288 + 23 - k)) (2 ^ (8 * (k + 1 - 8)) - 1)) 15 0 tt letters (omega arith) (omega arith))

pub aids_length : (t : List ℕ) → t ≡ aid_bytes → length t ≡ 320
unfolding aid_bytes
aids_length t e = ap length e ∙ eqb_yes tt

pub aids_fit : (t : List ℕ) → t ≡ aid_bytes → Bytes t
unfolding aid_bytes
aids_fit t e = subst Bytes (sym e) (bytes_are aid_bytes tt)
