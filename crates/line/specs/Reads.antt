-- A line of its fields, each between its own spaces, is read as the event that they say, whatever follows its newline.
-- The argument: no field has a space or a newline in it, so the grammar cuts such a line into those fields.
-- Assumes nothing.
use Rattle.std.specs.Prelude.{◌≡◌, ℕ, ◌<◌, ◌≤◌, Bool, true, cond, ◌&&◌, T, List, ◌∷◌, ◌++◌, length, take, ◌==◌, nat_le, refl}
use Rattle.std.proofs.Common.{arith, ◌∙◌, ne_eqb, leb-true, le-leb, lt-ltb}
use Rattle.std.proofs.Math.Path.{ap}
use Rattle.std.proofs.Math.ListN.{length-append, length-take}
use Rattle.lemmas.specs.Bools.{both, T_is}
use Rattle.lemmas.specs.Ranges.{each_at}
use Rattle.records.specs.declared.Event.{Event}
use Rattle.names.specs.Names.{message_named, way_named, name_of, way_name}
use Rattle.names.specs.Laws.{message_own, way_own}
use Rattle.line.specs.Grammar.{Line, Good, Refused, newline, space, line_most, index_of, has, before, all_digits, well_begun, value, is_seat, third_of, second_of, fields_of, line_of}
use Rattle.line.specs.Places.{index_take}
use Rattle.line.specs.Digits.{digits_free}
use Rattle.line.specs.Cuts.{free, free_append, index_free, has_free, before_free, after_free}

-- the two last fields, and a line without its newline
abbrev pub last_two : ℕ → ℕ → List ℕ
last_two w m = way_name w ++ space ∷ name_of m

abbrev pub fields_from : List ℕ → ℕ → ℕ → List ℕ
fields_from seat w m = seat ++ space ∷ last_two w m

-- a word of at most n bytes, with no space and no newline
abbrev word : ℕ → List ℕ → Bool
word n l = free space l && (free newline l && nat_le (length l) n)

pub record Word (n : ℕ) (l : List ℕ) : Type 0 where
  pub spaceless : free space l ≡ true
  pub whole : free newline l ≡ true
  pub short : length l ≤ n

-- what the test says
word_is : (n : ℕ) (l : List ℕ) → T (word n l) → Word n l
word_is n l t =
    let w = both (free space l) (free newline l && nat_le (length l) n) (T_is (word n l) t) in
    let v = both (free newline l) (nat_le (length l) n) w.1 in
    record { spaceless = w.0; whole = v.0; short = leb-true (length l) n v.1 }

-- each field is one: the longest way has four bytes, the longest name fourteen
way_word : (k : ℕ) → k ≤ 1 → Word 4 (way_name k)
way_word k h = word_is 4 (way_name k) (each_at (λ k. word 4 (way_name k)) 2 0 tt k (omega arith) (omega arith))

pub name_word : (k : ℕ) → k ≤ 14 → Word 14 (name_of k)
name_word k h = word_is 14 (name_of k) (each_at (λ k. word 14 (name_of k)) 15 0 tt k (omega arith) (omega arith))

-- and the longest seat has five
seat_word : (l : List ℕ) → is_seat l ≡ true → length l ≤ 5 → Word 5 l
unfolding is_seat
seat_word l h p =
    let w = both (well_begun l) (all_digits l && nat_le (value 0 l) 65535) h in
    let d = (both (all_digits l) (nat_le (value 0 l) 65535) w.1).0 in
    record { spaceless = digits_free space l (omega arith) d; whole = digits_free newline l (omega arith) d; short = p }

-- an event by its numbers, and a test that is passed
abbrev pub event : ℕ → ℕ → ℕ → Event
event s w m = record { seat = s; way = w; message = m }

passed : (t : Bool) (x y : Line) → t ≡ true → cond t x y ≡ x
passed t x y h = rw h

-- the last field is read as its name
reads_name : (s w m : ℕ) (l : List ℕ) → message_named l ≡ m → 1 ≤ m → third_of s w l ≡ Good (event s w m)
unfolding third_of
reads_name s w m l h p =
    (λ j. cond (h j == 0) (Refused 24) (Good (event s w (h j))))
    ∙ ap (λ (t : Bool). cond t (Refused 24) (Good (event s w m))) (ne_eqb m 0 (λ q. omega arith))

module _ (l m : List ℕ) (e : Event) where
  -- the second as its way, and then what follows its space
  reads_way : (s w : ℕ) → free space l ≡ true → way_named l ≡ w → w ≤ 1 → third_of s w m ≡ Good e → second_of s (l ++ space ∷ m) ≡ Good e
  unfolding second_of
  reads_way s w f n p h =
      let way : way_named (before space (l ++ space ∷ m)) ≡ w = ap way_named (before_free space m l f) ∙ n in
      (λ j. cond (has_free space m l f j && nat_le (way j) 1) (third_of s (way j) (after_free space m l f j)) (Refused 23))
      ∙ passed (nat_le w 1) (third_of s w m) (Refused 23) (le-leb w 1 p) ∙ h

  -- the first as its seat, and then what follows its space
  reads_seat : (s : ℕ) → free space l ≡ true → is_seat l ≡ true → value 0 l ≡ s → second_of s m ≡ Good e → fields_of (l ++ space ∷ m) ≡ Good e
  unfolding fields_of
  reads_seat s f i v h =
      let front = before_free space m l f in
      (λ j. cond (has_free space m l f j && is_seat (front j)) (second_of (value 0 (front j)) (after_free space m l f j)) (Refused 22))
      ∙ passed (is_seat l) (second_of (value 0 l) m) (Refused 22) i
      ∙ ap (λ (n : ℕ). second_of n m) v ∙ h

  -- and the line as what stands before its newline
  reads_line : free newline l ≡ true → length l < line_most → fields_of l ≡ Good e → line_of (l ++ newline ∷ m) ≡ Good e
  unfolding line_of
  reads_line f p h =
      let t = l ++ newline ∷ m in
      let i = index_take newline line_most t in
      let near : index_of newline (take line_most t) < length (take line_most t) =
      omega (arith, i, index_free newline m l f, length-take line_most t, length-append l (newline ∷ m))
      in
      passed (has newline (take line_most t)) (fields_of (before newline t)) (Refused 21) (lt-ltb _ _ near)
      ∙ ap fields_of (before_free newline m l f) ∙ h

-- the fields of a seat, a way and a message
module _ (d : List ℕ) (w m : ℕ) (seat : is_seat d ≡ true) (five : length d ≤ 5) (way : w ≤ 1) (some : 1 ≤ m) (known : m ≤ 14) where
  own_fields : fields_of (fields_from d w m) ≡ Good (event (value 0 d) w m)
  own_fields =
      let e = event (value 0 d) w m in
      reads_seat d (last_two w m) e (value 0 d) (seat_word d seat five).spaceless seat refl
      (reads_way (way_name w) (name_of m) e (value 0 d) w (way_word w way).spaceless (way_own w (omega arith)) way
      (reads_name (value 0 d) w m (name_of m) (message_own m some known) some))

  -- they have no newline in them
  pub fields_whole : free newline (fields_from d w m) ≡ true
  fields_whole =
      free_append newline d (space ∷ last_two w m) (seat_word d seat five).whole
      (free_append newline (way_name w) (space ∷ name_of m) (way_word w way).whole (name_word m known).whole)

  -- and are at most 25 bytes
  pub fields_most : length (fields_from d w m) ≤ 25
  fields_most =
      omega (
        arith,
        length-append d (space ∷ last_two w m),
        length-append (way_name w) (space ∷ name_of m),
        (way_word w way).short,
        (name_word m known).short,
      )

  -- with a newline behind them they are a good line
  pub fields_line : (rest : List ℕ) → line_of (fields_from d w m ++ newline ∷ rest) ≡ Good (event (value 0 d) w m)
  fields_line rest = reads_line (fields_from d w m) rest (event (value 0 d) w m) fields_whole (omega (arith, fields_most)) own_fields
