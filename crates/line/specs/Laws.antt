-- What a reader of whole texts needs of a line: it reads the bytes up to its newline and no others.
-- Assumes nothing.
use Rattle.std.specs.Prelude.{◌≡◌, ℕ, zero, suc, ◌<◌, ◌≤◌, min, Bool, true, false, cond, ◌&&◌, List, ◌++◌, length, take, ◌==◌, ◌≢◌, nat_le, nat_lt, refl}
use Rattle.std.proofs.Common.{arith, sym, ◌∙◌, length-take, take-take, leb-true, ltb-true, ltb-false, lt-ltb, le-ltb}
use Rattle.std.proofs.Math.Bool.{and-eq-true_iff}
use Rattle.std.proofs.lemmas.List.{take-append-le}
use Rattle.std.proofs.lemmas.Bool.{eqb-false}
use Rattle.names.specs.Names.{message_named, way_named}
use Rattle.names.specs.Laws.{message_only}
use Rattle.records.specs.declared.Event.{Event}
use Rattle.line.specs.Grammar.{Line, Good, Refused, newline, space, line_most, index_of, has, before, after, well_begun, all_digits, value, is_seat, third_of, second_of, fields_of, line_of}
use Rattle.line.specs.Places.{index_take, index_append, index_within}

good_test : (t : Bool) (x : Line) (r : ℕ) (e : Event) → cond t x (Refused r) ≡ Good e → t ≡ true
good_test true x r e h = refl
good_test false x r e h = absurd (let z : ◌≡◌ {A = ℕ} 0 1 = cc in omega arith)

-- a good line has its newline, and in its first 26 bytes
pub line_newline : (l : List ℕ) (e : Event) → line_of l ≡ Good e → (index_of newline l < line_most) × (index_of newline l < length l)
unfolding line_of
line_newline l e h =
    let i = index_of newline (take line_most l) in
    let t : i < length (take line_most l) = ltb-true i (length (take line_most l)) (good_test (has newline (take line_most l)) (fields_of (before newline l)) 21 e h) in
    let p = index_take newline line_most l in
    let q = length-take line_most l in
    (omega arith, omega arith)

-- the bytes after the newline say nothing
module _ (i n : ℕ) (h : i ≤ n) where
  first_window : (t : Bool) → nat_lt (min 26 i) (min 26 n) ≡ t → nat_lt (min 26 i) (min 26 (min (suc i) n)) ≡ t
  first_window true e = lt-ltb (min 26 i) (min 26 (min (suc i) n)) (omega (arith, ltb-true (min 26 i) (min 26 n) e))
  first_window false e = le-ltb (min 26 i) (min 26 (min (suc i) n)) (omega (arith, ltb-false (min 26 i) (min 26 n) e))

pub line_first : (l : List ℕ) → line_of (take (suc (index_of newline l)) l) ≡ line_of l
unfolding line_of
line_first l =
    let i = index_of newline l in
    let f = take (suc i) l in
    let at : index_of newline f ≡ i = index_take newline (suc i) l ∙ omega arith in
    let body : take (index_of newline f) f ≡ take i l = rw at (take-take i (suc i) l (omega arith)) in
    let same : has newline (take line_most f) ≡ has newline (take line_most l) =
    rw (index_take newline line_most f, at, length-take line_most f, length-take (suc i) l, index_take newline line_most l, length-take line_most l)
    (first_window i (length l) (index_within newline l) _ refl)
    in
    rw (same, body)

-- what a line can say: an event that a run takes, or one of the line's own four numbers
pub record Sound (e : Event) : Type 0 where
  pub seat : e.seat ≤ 65535
  pub way : e.way ≤ 1
  pub some : 1 ≤ e.message
  pub known : e.message ≤ 14

abbrev pub Judged : Line → Type 0
Judged (Good e) = Sound e
Judged (Refused r) = (21 ≤ r) × (r ≤ 24)

pos : (n : ℕ) → (n ≢ 0) → 1 ≤ n
pos zero h = absurd (h refl)
pos (suc n) h = omega arith

judged_cond : (t : Bool) (x y : Line) → (t ≡ true → Judged x) → (t ≡ false → Judged y) → Judged (cond t x y)
judged_cond true x y p q = p refl
judged_cond false x y p q = q refl

third_judged : (seat way : ℕ) (l : List ℕ) → seat ≤ 65535 → way ≤ 1 → Judged (third_of seat way l)
unfolding third_of
third_judged seat way l p q =
    judged_cond (message_named l == 0) (Refused 24) (Good (record { seat = seat; way = way; message = message_named l }))
    (λ t. (omega arith, omega arith))
    (λ t.
    let n = eqb-false (message_named l) 0 t in
    let k = message_only l (message_named l) refl n in
    record { seat = p; way = q; some = pos (message_named l) n; known = k.0 })

second_judged : (seat : ℕ) (l : List ℕ) → seat ≤ 65535 → Judged (second_of seat l)
unfolding second_of
second_judged seat l p =
    judged_cond (has space l && nat_le (way_named (before space l)) 1) (third_of seat (way_named (before space l)) (after space l)) (Refused 23)
    (λ t. third_judged seat (way_named (before space l)) (after space l) p (leb-true (way_named (before space l)) 1 ((and-eq-true_iff (has space l) _).0 t).1))
    (λ t. (omega arith, omega arith))

fields_judged : (l : List ℕ) → Judged (fields_of l)
unfolding fields_of is_seat
fields_judged l =
    let f = before space l in
    judged_cond (has space l && is_seat f) (second_of (value 0 f) (after space l)) (Refused 22)
    (λ t.
    let s = ((and-eq-true_iff (well_begun f) _).0 ((and-eq-true_iff (has space l) (is_seat f)).0 t).1).1 in
    second_judged (value 0 f) (after space l) (leb-true (value 0 f) 65535 ((and-eq-true_iff (all_digits f) _).0 s).1))
    (λ t. (omega arith, omega arith))

pub line_judged : (l : List ℕ) → Judged (line_of l)
unfolding line_of
line_judged l =
    judged_cond (has newline (take line_most l)) (fields_of (before newline l)) (Refused 21)
    (λ t. fields_judged (before newline l)) (λ t. (omega arith, omega arith))

-- what is added behind a good line's newline does not change it
pub line_append : (l m : List ℕ) (e : Event) → line_of l ≡ Good e → line_of (l ++ m) ≡ Good e
line_append l m e h =
    let w = line_newline l e h in
    let i = index_of newline l in
    let at : index_of newline (l ++ m) ≡ i = index_append newline l m w.1 in
    let front : take (suc i) (l ++ m) ≡ take (suc i) l = take-append-le (suc i) l m w.1 in
    sym (line_first (l ++ m)) ∙ rw (at, front) (line_first l ∙ h)
