-- The grammar, field by field, at the places that the code finds.
-- Assumes nothing.
use Rattle.std.proofs.Common.{◌≡◌, ℕ, ◌+◌, ◌-◌, ◌<◌, ◌≤◌, Bool, true, false, cond, ap, ◌&&◌, Some, None, List, length, take, drop, refl, arith, length-take, take-take, ◌==◌, ltb-true, ltb-false, le-ltb, lt-ltb, le-leb}
use Rattle.std.proofs.lemmas.Bool.{lt-leb}
use Rattle.std.specs.List.{position_or_len}
use Rattle.std.proofs.lemmas.List.Recursion.{is_position_or_len}
use Rattle.names.specs.Names.{way_named}
use Rattle.names.specs.Numbers.{way_number}
use Rattle.names.specs.declared.Way.{Way}
use Rattle.names.specs.Laws.{way_range}
use Rattle.line.specs.Grammar.{Refused, newline, space, line_most, index_of, has, before, is_seat, value, third_of, second_of, fields_of, line_of}
use Rattle.line.specs.Seats.{place_in, digits_are, seat_in}
use Rattle.line.specs.declared.Number.{Number}
use Rattle.line.specs.Places.{tail, index_within, index_take}

-- the first place of a byte, as `place_of` finds it
index_is : (b : ℕ) (l : List ℕ) → index_of b l ≡ position_or_len (λ x. x == b) l
index_is b l = is_position_or_len (index_of b) (λ x. x == b) refl (λ x xs. ap (cond (x == b) 0) (omega arith)) l

some_cond : (t : Bool) (i n : ℕ) → cond t (Some i) None ≡ Some n → (t ≡ true) × (i ≡ n)
some_cond true i n h = (refl, cc)
some_cond false i n h = absurd (let z : ◌≡◌ {A = ℕ} 0 1 = cc in omega arith)

no_cond : (t : Bool) (i : ℕ) → cond t (Some i) None ≡ None → t ≡ false
no_cond true i h = absurd (let z : ◌≡◌ {A = ℕ} 0 1 = cc in omega arith)
no_cond false i h = refl

module _ (b : ℕ) (l : List ℕ) where
  pub at_place : (n : ℕ) → place_in b l ≡ Some n → (n ≡ index_of b l) × (n < length l)
  unfolding place_in
  at_place n h = let w = some_cond _ _ n h in let i = index_is b l in (omega arith, omega (arith, ltb-true _ _ w.0))

  pub no_place : place_in b l ≡ None → index_of b l ≡ length l
  unfolding place_in
  no_place h = omega (arith, index_is b l, index_within b l, ltb-false _ _ (no_cond _ _ h))

-- the first field, as `first` finds it
at_cond : (t : Bool) (v j number size : ℕ) → cond t (digits_are v j) None ≡ digits_are number size → (t ≡ true) × (v ≡ number) × (j ≡ size)
at_cond true v j number size h =
    let e : ◌≡◌ {A = Number} (record { value = v; size = j }) (record { value = number; size = size }) = cc in
    (refl, ap (λ (x : Number). x.value) e, ap (λ (x : Number). x.size) e)
at_cond false v j number size h = absurd (let z : ◌≡◌ {A = ℕ} 0 1 = cc in omega arith)

none_cond : (t : Bool) (v j : ℕ) → cond t (digits_are v j) None ≡ None → t ≡ false
none_cond true v j h = absurd (let z : ◌≡◌ {A = ℕ} 0 1 = cc in omega arith)
none_cond false v j h = refl

module _ (l : List ℕ) where
  pub first_none : seat_in l ≡ None → fields_of l ≡ Refused 22
  unfolding seat_in fields_of
  first_none h = rw (none_cond (has space l && is_seat (before space l)) (value 0 (before space l)) (index_of space l) h)

  module _ (number size : ℕ) (h : seat_in l ≡ digits_are number size) where
    first_is : ((has space l && is_seat (before space l)) ≡ true) × (value 0 (before space l) ≡ number) × (index_of space l ≡ size)
    unfolding seat_in
    first_is = at_cond (has space l && is_seat (before space l)) (value 0 (before space l)) (index_of space l) number size h

    pub first_at : fields_of l ≡ second_of number (drop (size + 1) l)
    unfolding fields_of
    first_at = rw (first_is.0, first_is.1, first_is.2)

-- the second, at the place of its space
module _ (l : List ℕ) (at : ℕ) (e : at ≡ index_of space l) (h : at < length l) where
  pub second_bad : (seat : ℕ) → 1 < way_named (take at l) → second_of seat l ≡ Refused 23
  unfolding second_of
  second_bad seat b = rw (← e, lt-ltb at (length l) h, lt-leb (way_named (take at l)) 1 b)

-- and at what the code finds
module _ (l : List ℕ) (seat : ℕ) where
  pub second_none : place_in space l ≡ None → second_of seat l ≡ Refused 23
  unfolding second_of
  second_none h = rw (le-ltb (index_of space l) (length l) (omega (arith, no_place space l h)))

  module _ (at : ℕ) (h : place_in space l ≡ Some at) where
    pub second_unnamed : 2 ≡ way_named (take at l) → second_of seat l ≡ Refused 23
    second_unnamed b = let p = at_place space l at h in second_bad l at p.0 p.1 seat (omega (arith, b))

    pub second_good : (way : Way) → way_number way ≡ way_named (take at l) → second_of seat l ≡ third_of seat (way_number way) (take (length l - (at + 1)) (drop (at + 1) l))
    unfolding second_of
    second_good way q =
        let p = at_place space l at h in
        rw (← p.0, lt-ltb at (length l) p.1, ← q, le-leb (way_number way) 1 (way_range way), tail (at + 1) l)

-- and the newline, in as much of a text as its first line can be
module _ (l f : List ℕ) (e : f ≡ take line_most l) where
  pub line_ends : (n : ℕ) → place_in newline f ≡ Some n → line_of l ≡ fields_of (take n f)
  unfolding line_of
  line_ends n h =
      let p = at_place newline f n h in
      let i : index_of newline l ≡ n = omega (arith, index_take newline line_most l, ap (index_of newline) e, ap length e, length-take line_most l) in
      let w : n ≤ 26 = omega (arith, ap length e, length-take line_most l) in
      let t : has newline (take line_most l) ≡ true = rw (← e) (lt-ltb (index_of newline f) (length f) (omega arith)) in
      let b : take n f ≡ take n l = rw e (take-take n line_most l w) in
      rw (t, i, b)

  pub line_long : place_in newline f ≡ None → line_of l ≡ Refused 21
  unfolding line_of
  line_long h =
      let t : has newline (take line_most l) ≡ false = rw (← e) (le-ltb (index_of newline f) (length f) (omega (arith, no_place newline f h))) in
      rw t

-- a line by its newline, and its fields by the seat
pub ruleset line_steps = (line_ends, line_long, at_place, no_place)

pub ruleset field_steps = (first_none, first_at, tail)
