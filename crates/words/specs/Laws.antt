-- A number of bytes says each of them, and its lower part says the first ones: two words that are the same under a mask of n
-- bytes have the same first n bytes.
-- Assumes nothing.
use Rattle.std.specs.Prelude.{ℕ, zero, suc, ◌+◌, ◌*◌, ◌-◌, ◌^◌, ◌/◌, ◌%◌, ◌<◌, ◌≤◌, ◌≡◌, refl, List, [], ◌∷◌, T, ltb, length, get_or, take, drop}
use Rattle.std.proofs.Common.{arith, mod-eq_of_lt, sym, ◌∙◌, ap, length-take, length-drop, pow_pos, pow-add, take-take, get_or-drop, drop-cons}
use Rattle.std.proofs.Math.Arith.{mod-mul}
use Rattle.std.specs.Int.Bits.{bit_and}
use Rattle.std.proofs.lemmas.Nat.{and_mask}
use Rattle.std.proofs.Math.Pow.{are_bytes}
use Rattle.std.proofs.Math.Facts.{and_yes, ltb_yes}
use Rattle.words.specs.Words.{word_of, word_at}

-- a list of bytes
abbrev pub Bytes : List ℕ → Type 0
Bytes l = (i : ℕ) → get_or l i 0 < 256

-- which can be computed of a list that is written out
pub bytes_are : (l : List ℕ) → T (are_bytes l) → Bytes l
bytes_are [] t i = omega arith
bytes_are (x ∷ l) t zero = ltb_yes (and_yes (ltb x 256) (are_bytes l) t).0
bytes_are (x ∷ l) t (suc i) = bytes_are l (and_yes (ltb x 256) (are_bytes l) t).1 i

pub bytes_drop : (n : ℕ) (l : List ℕ) → Bytes l → Bytes (drop n l)
bytes_drop n l b i = rw (get_or-drop n l i 0) (b (n + i))

pub bytes_take : (n : ℕ) (l : List ℕ) → Bytes l → Bytes (take n l)
bytes_take zero l b i = omega arith
bytes_take (suc n) [] b i = omega arith
bytes_take (suc n) (x ∷ l) b zero = b 0
bytes_take (suc n) (x ∷ l) b (suc i) = bytes_take n l (λ j. b (suc j)) i

-- of one length, they are the same where their numbers are
pub same_word : (l m : List ℕ) → Bytes l → Bytes m → length l ≡ length m → word_of l ≡ word_of m → l ≡ m
same_word [] [] b c n e = refl
same_word [] (y ∷ m) b c n e = absurd (omega arith)
same_word (x ∷ l) [] b c n e = absurd (omega arith)
same_word (x ∷ l) (y ∷ m) b c n e =
    let p : x ≡ y = omega (arith, b 0, c 0) in
    let q : word_of l ≡ word_of m = omega (arith, b 0, c 0) in
    let t : l ≡ m = same_word l m (λ i. b (suc i)) (λ i. c (suc i)) (omega arith) q in
    (λ j. p j ∷ t j)

-- the number of the first n is the lower part
step : (x w p : ℕ) → x < 256 → 0 < p → (x + 256 * w) % (p * 256) ≡ x + 256 * (w % p)
step x w p h q =
    let d : (x + 256 * w) / 256 ≡ w = omega arith in
    let r : (x + 256 * w) % 256 ≡ x = omega arith in
    mod-mul (x + 256 * w) {m = p} {c = 256} q (omega arith) ∙ rw (d, r) (omega arith)

pub word_take : (n : ℕ) (l : List ℕ) → Bytes l → word_of (take n l) ≡ word_of l % 2 ^ (8 * n)
word_take zero l b = omega arith
word_take (suc n) [] b = sym (mod-eq_of_lt (pow_pos (8 * suc n)))
word_take (suc n) (x ∷ l) b =
    let s : 8 * suc n ≡ 8 * n + 8 = omega arith in
    rw (word_take n l (λ i. b (suc i)), s, pow-add 2 (8 * n) 8) (sym (step x (word_of l) (2 ^ (8 * n)) (b 0) (pow_pos (8 * n))))

-- so is a word's of its first n
pub word_first : (n : ℕ) (l : List ℕ) (at : ℕ) → Bytes l → n ≤ 8 → word_of (take n (drop at l)) ≡ word_at l at % 2 ^ (8 * n)
unfolding word_at
word_first n l at b h =
    ap word_of (sym (take-take n 8 (drop at l) h)) ∙ word_take n (take 8 (drop at l)) (bytes_take 8 (drop at l) (bytes_drop at l b))

-- two parts of n bytes are the same where their words are, in their lower part or under a mask
module _ (l m : List ℕ) (at to n : ℕ) (b : Bytes l) (c : Bytes m) (p : at + n ≤ length l) (q : to + n ≤ length m) (h : n ≤ 8) where
  pub same_lower : word_at l at % 2 ^ (8 * n) ≡ word_at m to % 2 ^ (8 * n) → take n (drop at l) ≡ take n (drop to m)
  same_lower e =
      let k : length (take n (drop at l)) ≡ length (take n (drop to m)) = simp (length-take, length-drop) (omega arith) in
      same_word (take n (drop at l)) (take n (drop to m)) (bytes_take n (drop at l) (bytes_drop at l b)) (bytes_take n (drop to m) (bytes_drop to m c)) k
      (word_first n l at b h ∙ e ∙ sym (word_first n m to c h))

  pub same_masked : (mask : ℕ) → mask ≡ 2 ^ (8 * n) - 1 → bit_and (word_at l at) mask ≡ bit_and (word_at m to) mask → take n (drop at l) ≡ take n (drop to m)
  same_masked mask k e = same_lower (sym (and_mask (word_at l at) (8 * n)) ∙ rw k at e ∙ and_mask (word_at m to) (8 * n))

-- the eight bytes one by one
module _ (l : List ℕ) where
  byte : (n i j : ℕ) → i < length l → suc i ≡ j → word_of (take (suc n) (drop i l)) ≡ get_or l i 0 + 256 * word_of (take n (drop j l))
  byte n i j h e = ap (λ (t : List ℕ). word_of (take (suc n) t)) (drop-cons l i 0 h) ∙ rw e

  more : (n i j w : ℕ) → i < length l → suc i ≡ j → word_of (take n (drop j l)) ≡ w → word_of (take (suc n) (drop i l)) ≡ get_or l i 0 + 256 * w
  more n i j w h e r = byte n i j h e ∙ ap (λ (x : ℕ). get_or l i 0 + 256 * x) r

  pub word_at_lem :
      (at : ℕ) → at + 8 ≤ length l
      → word_at l at
      ≡ get_or l at 0
      + 256 * (get_or l (at + 1) 0
      + 256 * (get_or l (at + 2) 0
      + 256 * (get_or l (at + 3) 0
      + 256 * (get_or l (at + 4) 0 + 256 * (get_or l (at + 5) 0 + 256 * (get_or l (at + 6) 0 + 256 * get_or l (at + 7) 0))))))
  unfolding word_at
  word_at_lem at p =
      more 7 at (at + 1) _ (omega arith) (omega arith)
      (more 6 (at + 1) (at + 2) _ (omega arith) (omega arith)
      (more 5 (at + 2) (at + 3) _ (omega arith) (omega arith)
      (more 4 (at + 3) (at + 4) _ (omega arith) (omega arith)
      (more 3 (at + 4) (at + 5) _ (omega arith) (omega arith)
      (more 2 (at + 5) (at + 6) _ (omega arith) (omega arith)
      (more 1 (at + 6) (at + 7) _ (omega arith) (omega arith)
      (byte 0 (at + 7) (at + 8) (omega arith) (omega arith) ∙ omega arith)))))))
