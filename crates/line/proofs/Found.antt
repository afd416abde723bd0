-- What the quick way finds: a seat, a way and a name, each with the byte behind it.
-- The argument: bytes whose words are the same, whole or under a mask, are the same (`same_lower`, `same_masked`).
-- Assumes nothing.
use Rattle.std.proofs.Common.{◌≡◌, ℕ, zero, suc, ◌+◌, ◌-◌, ◌*◌, ◌%◌, ◌^◌, ◌<◌, ◌≤◌, min, Bool, true, false, not, ◌&&◌, ◌||◌, eqb, leb, ◌⊎◌, List, [], ◌∷◌, ◌++◌, length, get_or, take, drop, sym, refl, ap, ◌∙◌, inl, inr, ⊎_elim, append_assoc, add-one, arith, length-append, take-append-drop, length-take, drop-cons, drop-drop, take-add, ne_eqb, eqb-true, bit_and}
use Rattle.std.proofs.lemmas.Bool.{false≢true, eqb-false, not-true, not-false}
use mir.Facts.{eqb_yes}
use Rattle.lemmas.specs.Bools.{both, both_of}
use Rattle.lemmas.specs.Ranges.{each_at}
use Rattle.lemmas.specs.Orders.{below_or}
use Rattle.words.specs.Words.{word_at}
use Rattle.words.specs.Laws.{Bytes, bytes_are, same_lower, same_masked}
use Rattle.names.specs.Names.{bytes, name_of, way_name}
use Rattle.names.specs.Numbers.{way_number}
use Rattle.names.specs.declared.Way.{Way}
use Rattle.names.specs.declared.Way.TheVariants.{Got, Sent}
use Rattle.names.specs.Laws.{way_range}
use Rattle.line.specs.Grammar.{newline, space, line_most, index_of, well_begun, is_seat, Good, line_of}
use Rattle.line.specs.Places.{index_take}
use Rattle.line.specs.Cuts.{index_free}
use Rattle.line.specs.Reads.{last_two, fields_from, event, fields_whole, fields_most, fields_line}
use Rattle.line.specs.Quick.{aid_bytes, Digits, SeatAt, WayAt, NameAt}
use Rattle.line.specs.declared.Number.{Number}
use Rattle.line.proofs.Rows.{row_is, mask_low, mask_high, aids_length, aids_fit}

-- a seat: some digits, and no 0 before others
begun : (l : List ℕ) (n : ℕ) → (n ≡ 0 → ⊥) → n ≤ length l → (n ≤ 1) ⊎ (get_or l 0 0 ≡ 48 → ⊥) → well_begun (take n l) ≡ true
begun l zero s p w = absurd (s refl)
begun [] (suc n) s p w = absurd (omega arith)
begun (x ∷ l) (suc zero) s p w = refl
begun (x ∷ []) (suc (suc n)) s p w = absurd (omega arith)
begun (x ∷ y ∷ l) (suc (suc n)) s p (inl w) = absurd (omega arith)
begun (x ∷ y ∷ l) (suc (suc n)) s p (inr w) = ap not (ne_eqb x 48 w)

pub seat_found :
    (l : List ℕ) (x : Number) → Digits l x → 6 ≤ length l → (x.size ≤ 1) ⊎ (get_or l 0 0 ≡ 48 → ⊥)
    → ((not (eqb x.size 0) && leb x.value 65535) && eqb (get_or l x.size 0) 32) ≡ true → SeatAt l x
unfolding is_seat
seat_found l x d p w t =
    let a = both (not (eqb x.size 0) && leb x.value 65535) _ t in
    let b = both (not (eqb x.size 0)) (leb x.value 65535) a.0 in
    record {
      seat = both_of (begun l x.size (eqb-false x.size 0 (not-true _ b.0)) (omega (arith, d.most)) w)
          (both_of d.each (ap (λ (n : ℕ). leb n 65535) (sym d.says) ∙ b.1));
      behind = eqb-true (get_or l x.size 0) 32 a.1;
    }

-- the bytes at a place, and what follows them
stands : (l m : List ℕ) (at n : ℕ) → take n (drop at l) ≡ m → drop at l ≡ m ++ drop (at + n) l
stands l m at n e = sym (take-append-drop n (drop at l)) ∙ (λ j. e j ++ drop-drop n at l j)

-- a test that is passed neither way
neither : (a b : Bool) → (a || b) ≡ false → (a ≡ false) × (b ≡ false)
neither true b h = absurd (false≢true (sym h))
neither false b h = (refl, h)

-- a way: four bytes compared as one number, and a space
four : Way → List ℕ
four Sent = bytes "sent"
four Got = bytes "got "

abbrev four_bytes : ℕ
four_bytes = 2 ^ 32

abbrev pub four_of : Way → ℕ
four_of Sent = 0x746e6573
four_of Got = 0x20746f67

module _ (l : List ℕ) (at : ℕ) (b : Bytes l) (p : at + 8 ≤ length l) where
  is_four : (w : Way) → word_at l at % four_bytes ≡ four_of w → take 4 (drop at l) ≡ four w
  unfolding word_at four
  is_four Sent e = same_lower l (bytes "sent") at 0 4 b (bytes_are (bytes "sent") tt) (omega arith) (omega arith) (omega arith) e
  is_four Got e = same_lower l (bytes "got ") at 0 4 b (bytes_are (bytes "got ") tt) (omega arith) (omega arith) (omega arith) e

  way_stands : (w : Way) → word_at l at % four_bytes ≡ four_of w → get_or l (at + 3 + way_number w) 0 ≡ 32
      → drop at l ≡ way_name (way_number w) ++ space ∷ drop (at + 4 + way_number w) l
  unfolding four
  way_stands Sent e s =
      let z : at + 3 + 1 ≡ at + 4 = omega arith in
      let y : suc (at + 4) ≡ at + 4 + 1 = omega arith in
      stands l (bytes "sent") at 4 (is_four Sent e)
      ∙ ap (λ (r : List ℕ). bytes "sent" ++ r) (drop-cons l (at + 4) 0 (omega arith) ∙ (λ j. (ap (λ (k : ℕ). get_or l k 0) (sym z) ∙ s) j ∷ drop (y j) l))
  way_stands Got e s =
      let z : at + 4 ≡ at + 4 + 0 = omega arith in
      stands l (bytes "got ") at 4 (is_four Got e) ∙ ap (λ (k : ℕ). bytes "got " ++ drop k l) z

  pub way_found :
      (w : Way) (word number : ℕ) → word ≡ word_at l at → number ≡ four_of w
      → (not (eqb (word % four_bytes) number) || not (eqb (get_or l (at + 3 + way_number w) 0) 32)) ≡ false → WayAt l at (way_number w)
  way_found w word number e f h =
      let n = neither (not (eqb (word % four_bytes) number)) _ h in
      let same : word_at l at % four_bytes ≡ four_of w = ap (λ (x : ℕ). x % four_bytes) (sym e) ∙ eqb-true (word % four_bytes) number (not-false _ n.0) ∙ f in
      record {
        most = omega (arith, way_range w);
        stands = λ _. way_stands w same (eqb-true (get_or l (at + 3 + way_number w) 0) 32 (not-false _ n.1));
      }

-- a name: its bytes and the newline, compared as two numbers with those of a row of the aids t
module _
    (l t : List ℕ) (at m letters : ℕ) (e : t ≡ aid_bytes) (b : Bytes l) (p : at + 16 ≤ length l) (h : m < 16) (k : letters ≤ 14)
  where
    module _ (low high : ℕ) (u : low ≡ word_at t (288 + 15 - letters)) (v : high ≡ word_at t (288 + 23 - letters)) where
      module _
          (f : bit_and (word_at l at) low ≡ bit_and (word_at t (16 * m)) low) (g : bit_and (word_at l (at + 8)) high ≡ bit_and (word_at t (16 * m + 8)) high)
        where
          first : take (min 8 (letters + 1)) (drop at l) ≡ take (min 8 (letters + 1)) (drop (16 * m) t)
          first =
              let z = aids_length t e in
              let a = aids_fit t e in
              let mask = u ∙ ap (λ (s : List ℕ). word_at s (288 + 15 - letters)) e ∙ mask_low letters k in
              same_masked l t at (16 * m) (min 8 (letters + 1)) b a (omega arith) (omega arith) (omega arith) low mask f

          last : take (letters + 1 - 8) (drop (at + 8) l) ≡ take (letters + 1 - 8) (drop (16 * m + 8) t)
          last =
              let z = aids_length t e in
              let a = aids_fit t e in
              let mask = v ∙ ap (λ (s : List ℕ). word_at s (288 + 23 - letters)) e ∙ mask_high letters k in
              same_masked l t (at + 8) (16 * m + 8) (letters + 1 - 8) b a (omega arith) (omega arith) (omega arith) high mask g

          whole : take (letters + 1) (drop at l) ≡ take (letters + 1) (drop (16 * m) t)
          whole =
              ⊎_elim (λ (s : letters < 8). let z : min 8 (letters + 1) ≡ letters + 1 = omega arith in rw z at first)
              (λ (s : 8 ≤ letters).
              let z : min 8 (letters + 1) ≡ 8 = omega arith in
              let y : letters + 1 ≡ 8 + (letters + 1 - 8) = omega arith in
              let x : take 8 (drop at l) ≡ take 8 (drop (16 * m) t) = rw z at first in
              rw (y, take-add 8 (letters + 1 - 8) (drop at l), take-add 8 (letters + 1 - 8) (drop (16 * m) t), drop-drop 8 at l, drop-drop 8 (16 * m) t)
              (λ j. x j ++ last j))
              (below_or letters 8)

      pub name_found :
          (w₁ w₂ w₃ w₄ : ℕ) → w₁ ≡ word_at l at → w₂ ≡ word_at t (16 * m) → w₃ ≡ word_at l (at + 8) → w₄ ≡ word_at t (16 * m + 8)
          → get_or t (16 * m + 15) 0 ≡ letters → (eqb (bit_and w₁ low) (bit_and w₂ low) && eqb (bit_and w₃ high) (bit_and w₄ high)) ≡ true
          → NameAt l at m letters
      name_found w₁ w₂ w₃ w₄ e₁ e₂ e₃ e₄ c s =
          let w = both (eqb (bit_and w₁ low) (bit_and w₂ low)) (eqb (bit_and w₃ high) (bit_and w₄ high)) s in
          let f : bit_and (word_at l at) low ≡ bit_and (word_at t (16 * m)) low = rw (← e₁, ← e₂) (eqb-true _ _ w.0) in
          let g : bit_and (word_at l (at + 8)) high ≡ bit_and (word_at t (16 * m + 8)) high = rw (← e₃, ← e₄) (eqb-true _ _ w.1) in
          let r = row_is m letters h k (ap (λ (s : List ℕ). get_or s (16 * m + 15) 0) (sym e) ∙ c) in
          let row : take (letters + 1) (drop (16 * m) t) ≡ name_of m ++ newline ∷ [] = rw e r.bytes in
          let z : at + (letters + 1) ≡ at + letters + 1 = omega arith in
          record {
            some = r.some;
            known = r.known;
            size = r.size;
            stands = stands l (name_of m ++ newline ∷ []) at (letters + 1) (whole f g ∙ row)
                ∙ append_assoc (name_of m) (newline ∷ []) (drop (at + (letters + 1)) l)
                ∙ ap (λ (n : ℕ). name_of m ++ newline ∷ drop n l) z;
          }

-- so the line is read
way_length : (w : ℕ) → w ≤ 1 → length (way_name w) ≡ 3 + w
way_length w h = eqb_yes (each_at (λ k. eqb (length (way_name k)) (3 + k)) 2 0 tt w (omega arith) (omega arith))

regroup : (a b c r : List ℕ) → a ++ space ∷ (b ++ space ∷ (c ++ newline ∷ r)) ≡ (a ++ space ∷ (b ++ space ∷ c)) ++ newline ∷ r
regroup a b c r = simp append_assoc

module _ (l : List ℕ) (x : Number) (d : Digits l x) (s : SeatAt l x) (p : 32 ≤ length l) (w m letters : ℕ) (h : w ≤ 1) where
  module _ (v : WayAt l (x.size + 1) w) (n : NameAt l (x.size + 5 + w) m letters) where
    seat : List ℕ
    seat = take x.size l

    rest : List ℕ
    rest = drop (x.size + 5 + w + letters + 1) l

    is_line : l ≡ fields_from seat w m ++ newline ∷ rest
    unfolding seat rest
    is_line =
        let z : x.size + 1 + 4 + w ≡ x.size + 5 + w = omega arith in
        sym (take-append-drop x.size l)
        ∙ ap (λ (r : List ℕ). seat ++ r)
        (drop-cons l x.size 0 (omega (arith, d.most)) ∙ (λ j. s.behind j ∷ drop (sym (add-one x.size) j) l)
        ∙ ap (λ (r : List ℕ). space ∷ r) (v.stands h ∙ ap (λ (k : ℕ). way_name w ++ space ∷ drop k l) z ∙ ap (λ (r : List ℕ). way_name w ++ space ∷ r) n.stands))
        ∙ regroup seat (way_name w) (name_of m) rest

    five : length seat ≤ 5
    unfolding seat
    five = omega (arith, d.most, length-take x.size l)

    is_seat_lem : is_seat seat ≡ true
    unfolding seat
    is_seat_lem = s.seat

    pub line_found : (end : ℕ) → end ≡ x.size + 5 + w + letters → (line_of l ≡ Good (event x.value w m)) × (index_of newline (take line_most l) ≡ end)
    unfolding seat
    line_found end e =
        let f = fields_from seat w m in (
          ap line_of is_line
              ∙ fields_line seat w m is_seat_lem five h n.some n.known rest
              ∙ ap (λ (k : ℕ). Good (event k w m)) (sym d.says),
          index_take newline line_most l
              ∙ omega (
                arith,
                e,
                ap (index_of newline) is_line ∙ index_free newline rest f (fields_whole seat w m is_seat_lem five h n.some n.known),
                fields_most seat w m is_seat_lem five h n.some n.known,
                length-append seat (space ∷ last_two w m),
                length-append (way_name w) (space ∷ name_of m),
                way_length w h,
                n.size,
                length-take x.size l,
                d.most,
              ),
        )
