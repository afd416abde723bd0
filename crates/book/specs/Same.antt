-- A book is its header and its records: two that agree on these are the same bytes.
-- The argument: each byte past the header is a field of one activity or of one seat, found by dividing its place by the record's size.
-- Assumes nothing.
use Rattle.std.specs.Prelude.{◌≡◌, refl, List, ℕ, ◌+◌, ◌*◌, ◌-◌, ◌/◌, ◌≤◌, ◌<◌, length, get_or}
use Rattle.std.proofs.Common.{sym, ap, ◌∙◌, ⊎_elim, arith, ext_get_or, get_or-take}
use Rattle.lemmas.specs.Orders.{same_or, below_or}
use Rattle.book.specs.declared.Activity.{Activity}
use Rattle.book.specs.declared.Seat.{Seat}
use Rattle.book.specs.Layout.{activity_count, seat_count, head_size, activity_size, seat_size, activity_at, seat_at, direction_at, state_at, activity_of, seat_of, head_of, Shaped}

head_at : (b c : List ℕ) → head_of b ≡ head_of c → (i : ℕ) → i < head_size → get_or b i 0 ≡ get_or c i 0
unfolding head_of
head_at b c h i l = sym (get_or-take head_size b i 0 l) ∙ ap (λ (t : List ℕ). get_or t i 0) h ∙ get_or-take head_size c i 0 l

-- a byte at a place that two lists name alike
at_place : (b c : List ℕ) (i j j' : ℕ) → i ≡ j → j ≡ j' → get_or b j 0 ≡ get_or c j' 0 → get_or b i 0 ≡ get_or c i 0
at_place b c i j j' e f h = ap (λ (p : ℕ). get_or b p 0) e ∙ h ∙ ap (λ (p : ℕ). get_or c p 0) (sym (e ∙ f))

activity_at_lem : (b c : List ℕ) (k : ℕ) → activity_of b k ≡ activity_of c k → (i : ℕ) → activity_at k ≤ i → i < activity_at k + activity_size → get_or b i 0 ≡ get_or c i 0
unfolding activity_of
activity_at_lem b c k e i lo hi =
    ⊎_elim (λ z. at_place b c i (activity_at k) (activity_at k) z refl (ap (λ (y : Activity). y.kind) e))
    (λ n. at_place b c i (direction_at k) (direction_at k) (omega arith) refl (ap (λ (y : Activity). y.direction) e))
    (same_or i (activity_at k))

seat_at_lem : (b c : List ℕ) (n : ℕ) → seat_at b n ≡ seat_at c n → seat_of b n ≡ seat_of c n
    → (i : ℕ) → seat_at b n ≤ i → i < seat_at b n + seat_size → get_or b i 0 ≡ get_or c i 0
unfolding seat_of
seat_at_lem b c n f e i lo hi =
    ⊎_elim (λ z. at_place b c i (seat_at b n) (seat_at c n) z f (ap (λ (x : Seat). x.activity) e))
    (λ n₀. ⊎_elim (λ z. at_place b c i (seat_at b n + 1) (seat_at c n + 1) z (omega arith) (ap (λ (x : Seat). x.role) e))
    (λ n₁. ⊎_elim (λ z. at_place b c i (seat_at b n + 2) (seat_at c n + 2) z (omega arith) (ap (λ (x : Seat). x.table) e))
    (λ n₂. at_place b c i (state_at b n) (state_at c n) (omega arith) (omega arith) (ap (λ (x : Seat). x.state) e))
    (same_or i (seat_at b n + 2)))
    (same_or i (seat_at b n + 1)))
    (same_or i (seat_at b n))

-- two books of the same counts that agree on their header and on each record
pub same_book : (b c : List ℕ) → Shaped b → Shaped c → length b ≡ length c → head_of b ≡ head_of c
    → activity_count b ≡ activity_count c → seat_count b ≡ seat_count c
    → ((k : ℕ) → k < activity_count b → activity_of b k ≡ activity_of c k)
    → ((n : ℕ) → n < seat_count b → seat_of b n ≡ seat_of c n)
    → b ≡ c
same_book b c sb sc len head ca cs acts seats = ext_get_or 0 b c len (λ i l. byte i l) where
  byte : (i : ℕ) → i < length b → get_or b i 0 ≡ get_or c i 0
  byte i l =
      ⊎_elim (λ h. head_at b c head i h)
      (λ past. ⊎_elim
      (λ h. let k = (i - head_size) / activity_size in activity_at_lem b c k (acts k (omega arith)) i (omega arith) (omega arith))
      (λ h. let n = (i - (head_size + activity_size * activity_count b)) / seat_size in
      seat_at_lem b c n (omega (arith, sb.seats_from, sc.seats_from, ca)) (seats n (omega (arith, sb.len))) i (omega (arith, sb.seats_from)) (omega (arith, sb.seats_from)))
      (below_or i (head_size + activity_size * activity_count b)))
      (below_or i head_size)
