-- What is read of a book after a write.
-- The argument: a write changes one byte, and a record's bytes are its own (byte positions are compared by omega).
-- Assumes nothing.
use Rattle.std.specs.Prelude.{◌≡◌, refl, ◌≢◌, List, [], ◌∷◌, ℕ, zero, suc, ◌+◌, ◌*◌, ◌≤◌, ◌<◌, length, get_or, set, take}
use Rattle.std.proofs.Common.{sym, ap, ◌∙◌, arith}
use Rattle.std.proofs.Math.ListN.{length-set}
use Rattle.std.proofs.Math.Seq.{get_or-set_same, get_or-set_other}
use Rattle.std.proofs.lemmas.List.{set-get_or}
use Rattle.book.specs.declared.Activity.{Activity}
use Rattle.records.specs.Records.{at16}
use Rattle.book.specs.Layout.{activity_count, seat_count, head_size, activity_size, seat_size, activity_at, seat_at, direction_at, state_at, activity_of, seat_of, head_of, put_state, put_direction, with_state, with_direction, moved, Shaped}

-- a seat, and an activity, is what its bytes say
seat_same : (b b' : List ℕ) (m : ℕ) → seat_at b' m ≡ seat_at b m → ((p : ℕ) → seat_at b m ≤ p → p < seat_at b m + seat_size → get_or b' p 0 ≡ get_or b p 0)
    → seat_of b' m ≡ seat_of b m
unfolding seat_of
seat_same b b' m e s =
    simp (e, s (seat_at b m) (omega arith) (omega arith), s (seat_at b m + 1) (omega arith) (omega arith), s (seat_at b m + 2) (omega arith) (omega arith), s (state_at b m) (omega arith) (omega arith))

activity_same : (b b' : List ℕ) (k : ℕ) → ((p : ℕ) → activity_at k ≤ p → p < activity_at k + activity_size → get_or b' p 0 ≡ get_or b p 0) → activity_of b' k ≡ activity_of b k
unfolding activity_of
activity_same b b' k s = simp (s (activity_at k) (omega arith) (omega arith), s (direction_at k) (omega arith) (omega arith))

-- a write past the header leaves the header
at16_set : (b : List ℕ) (p v i : ℕ) → i + 1 < p → at16 (set b p v) i ≡ at16 b i
unfolding at16
at16_set b p v i h = simp (get_or-set_other b p i v 0 (λ e. omega arith), get_or-set_other b p (i + 1) v 0 (λ e. omega arith))

shaped_set : (b : List ℕ) (p v : ℕ) → head_size ≤ p → Shaped b → Shaped (set b p v)
shaped_set b p v h sh =
    let e₀ = at16_set b p v 0 (omega arith) in
    let e₂ = at16_set b p v 2 (omega arith) in
    let e₄ = at16_set b p v 4 (omega arith) in
    let e₆ = at16_set b p v 6 (omega arith) in
    let l = length-set b p v in
    record { acts = omega arith; seats = omega arith; acts_from = omega arith; seats_from = omega arith; len = omega arith }

take_set : (k : ℕ) (b : List ℕ) (p v : ℕ) → k ≤ p → take k (set b p v) ≡ take k b
take_set zero b p v h = refl
take_set (suc k) [] p v h = refl
take_set (suc k) (x ∷ b) zero v h = absurd (omega arith)
take_set (suc k) (x ∷ b) (suc p) v h = ap (λ (l : List ℕ). x ∷ l) (take_set k b p v (omega arith))

module _ (b : List ℕ) (n v : ℕ) (sh : Shaped b) where
  state_head : head_of (put_state b n v) ≡ head_of b
  unfolding put_state head_of
  state_head = take_set head_size b (state_at b n) v (omega arith)

  state_length : length (put_state b n v) ≡ length b
  unfolding put_state
  state_length = length-set b (state_at b n) v

  pub state_at16 : (i : ℕ) → i + 2 ≤ head_size → at16 (put_state b n v) i ≡ at16 b i
  unfolding put_state
  state_at16 i h = at16_set b (state_at b n) v i (omega arith)

  pub state_shaped : Shaped (put_state b n v)
  unfolding put_state
  state_shaped = shaped_set b (state_at b n) v (omega arith) sh

  other : (p : ℕ) → p ≢ state_at b n → get_or (put_state b n v) p 0 ≡ get_or b p 0
  unfolding put_state
  other p ne = get_or-set_other b (state_at b n) p v 0 ne

  here : n < seat_count b → get_or (put_state b n v) (state_at b n) 0 ≡ v
  unfolding put_state
  here h = get_or-set_same b (state_at b n) v 0 (omega arith)

  from : (m : ℕ) → seat_at (put_state b n v) m ≡ seat_at b m
  from m = ap (λ (f : ℕ). f + seat_size * m) (state_at16 6 (omega arith))

  state_activity : (k : ℕ) → k < activity_count b → activity_of (put_state b n v) k ≡ activity_of b k
  state_activity k h = activity_same b (put_state b n v) k (λ p lo hi. other p (λ e. omega arith))

  state_seat : n < seat_count b → seat_of (put_state b n v) n ≡ with_state (seat_of b n) v
  unfolding seat_of
  state_seat h = simp (from n, other (seat_at b n) (λ e. omega arith), other (seat_at b n + 1) (λ e. omega arith), other (seat_at b n + 2) (λ e. omega arith), here h)

  state_other : (m : ℕ) → m ≢ n → seat_of (put_state b n v) m ≡ seat_of b m
  state_other m ne = seat_same b (put_state b n v) m (from m) (λ p lo hi. other p (λ e. ne (omega arith)))

module _ (b : List ℕ) (k v : ℕ) (sh : Shaped b) (h : k < activity_count b) where
  direction_head : head_of (put_direction b k v) ≡ head_of b
  unfolding put_direction head_of
  direction_head = take_set head_size b (direction_at k) v (omega arith)

  direction_length : length (put_direction b k v) ≡ length b
  unfolding put_direction
  direction_length = length-set b (direction_at k) v

  direction_at16 : (i : ℕ) → i + 2 ≤ head_size → at16 (put_direction b k v) i ≡ at16 b i
  unfolding put_direction
  direction_at16 i l = at16_set b (direction_at k) v i (omega arith)

  direction_shaped : Shaped (put_direction b k v)
  unfolding put_direction
  direction_shaped = shaped_set b (direction_at k) v (omega arith) sh

  beside : (p : ℕ) → p ≢ direction_at k → get_or (put_direction b k v) p 0 ≡ get_or b p 0
  unfolding put_direction
  beside p ne = get_or-set_other b (direction_at k) p v 0 ne

  there : get_or (put_direction b k v) (direction_at k) 0 ≡ v
  unfolding put_direction
  there = get_or-set_same b (direction_at k) v 0 (omega arith)

  direction_seat : (m : ℕ) → seat_of (put_direction b k v) m ≡ seat_of b m
  direction_seat m =
      seat_same b (put_direction b k v) m (ap (λ (f : ℕ). f + seat_size * m) (direction_at16 6 (omega arith))) (λ p lo hi. beside p (λ e. omega arith))

  direction_activity : activity_of (put_direction b k v) k ≡ with_direction (activity_of b k) v
  unfolding activity_of
  direction_activity = simp (beside (activity_at k) (λ e. omega arith), there)

  direction_other : (j : ℕ) → j ≢ k → activity_of (put_direction b k v) j ≡ activity_of b j
  direction_other j ne = activity_same b (put_direction b k v) j (λ p lo hi. beside p (λ e. ne (omega arith)))

-- The same of both writes of one event: seat n's state becomes v and its activity's direction d.
module _ (b : List ℕ) (n v d : ℕ) (sh : Shaped b) (l : n < seat_count b) (kl : (seat_of b n).activity < activity_count b) where
  abbrev k : ℕ
  k = (seat_of b n).activity

  sh₁ : Shaped (put_state b n v)
  sh₁ = state_shaped b n v sh

  kl₁ : k < activity_count (put_state b n v)
  kl₁ = omega (arith, state_at16 b n v sh 0 (omega arith), kl)

  pub moved_head : head_of (moved b n v d) ≡ head_of b
  moved_head = direction_head (put_state b n v) k d sh₁ kl₁ ∙ state_head b n v sh

  pub moved_length : length (moved b n v d) ≡ length b
  moved_length = direction_length (put_state b n v) k d sh₁ kl₁ ∙ state_length b n v sh

  pub moved_shaped : Shaped (moved b n v d)
  moved_shaped = direction_shaped (put_state b n v) k d sh₁ kl₁

  pub moved_activities : activity_count (moved b n v d) ≡ activity_count b
  moved_activities = direction_at16 (put_state b n v) k d sh₁ kl₁ 0 (omega arith) ∙ state_at16 b n v sh 0 (omega arith)

  pub moved_seats : seat_count (moved b n v d) ≡ seat_count b
  moved_seats = direction_at16 (put_state b n v) k d sh₁ kl₁ 2 (omega arith) ∙ state_at16 b n v sh 2 (omega arith)

  pub moved_seat : seat_of (moved b n v d) n ≡ with_state (seat_of b n) v
  moved_seat = direction_seat (put_state b n v) k d sh₁ kl₁ n ∙ state_seat b n v sh l

  pub moved_other : (m : ℕ) → m ≢ n → seat_of (moved b n v d) m ≡ seat_of b m
  moved_other m ne = direction_seat (put_state b n v) k d sh₁ kl₁ m ∙ state_other b n v sh m ne

  pub moved_activity : activity_of (moved b n v d) k ≡ with_direction (activity_of b k) d
  moved_activity =
      direction_activity (put_state b n v) k d sh₁ kl₁ ∙ ap (λ (z : Activity). with_direction z d) (state_activity b n v sh k kl)

  pub moved_neighbour : (j : ℕ) → j < activity_count b → j ≢ k → activity_of (moved b n v d) j ≡ activity_of b j
  moved_neighbour j jl ne = direction_other (put_state b n v) k d sh₁ kl₁ j ne ∙ state_activity b n v sh j jl

-- what is written as it was
pub state_kept : (b : List ℕ) (n : ℕ) → put_state b n (seat_of b n).state ≡ b
unfolding put_state seat_of
state_kept b n = set-get_or b (state_at b n) 0

direction_kept : (b : List ℕ) (k : ℕ) → put_direction b k (activity_of b k).direction ≡ b
unfolding put_direction activity_of
direction_kept b k = set-get_or b (direction_at k) 0

pub moved_kept : (b : List ℕ) (n v : ℕ) → Shaped b → (seat_of b n).activity < activity_count b
    → moved b n v (activity_of b (seat_of b n).activity).direction ≡ put_state b n v
moved_kept b n v sh kl =
    ap (λ (y : Activity). put_direction (put_state b n v) (seat_of b n).activity y.direction) (sym (state_activity b n v sh (seat_of b n).activity kl))
    ∙ direction_kept (put_state b n v) (seat_of b n).activity
