-- A role, a table and a state, a byte each, as one number x that counts from the first role and the first table.
-- The argument: the three are in range exactly where x's two low bytes are at most 1 and x is below 16 · 65536 (omega); and at each of the 64
-- places in range antt computes that the product with the code's constant holds the number of the place.
-- Assumes nothing.
use Rattle.std.proofs.Common.{◌≡◌, ℕ, ◌+◌, ◌-◌, ◌*◌, ◌/◌, ◌%◌, ◌<◌, ◌≤◌, T, eqb, sym, ap, ◌∙◌, ⊎_elim, arith, eqb→eq}
use Rattle.lemmas.specs.Orders.{below_or}
use Rattle.lemmas.specs.Ranges.{each, each_at}
use Rattle.rules.specs.Place.{place_of}
use Rattle.rules.specs.Marks.{Ranged, unmarked, marked_place, place_counted}

module _ (x role table s : ℕ) (r : role < 256) (t : table < 256) (l : s < 256) (w : (x + 257) % 18446744073709551616 ≡ role + 256 * table + 65536 * s) where
  pub place_in : x % 256 ≤ 1 → x / 256 % 256 ≤ 1 → x < 1048576 → Ranged role table s × (x ≡ (role - 1) + 256 * (table - 1) + 65536 * s)
  place_in p q h =
      let e : x + 257 ≡ role + 256 * table + 65536 * s = omega arith in
      (record { role_low = omega (arith, e, p); role_high = omega (arith, e, p); table_low = omega (arith, e, p, q); table_high = omega (arith, e, p, q); high = omega (arith, e, p, q, h) }, omega (arith, e, p, q, h))

  pub in_place : x < 18446744073709551616 → Ranged role table s → (x % 256 ≤ 1) × (x / 256 % 256 ≤ 1) × (x < 1048576)
  in_place f i =
      let e : x + 257 ≡ role + 256 * table + 65536 * s =
      ⊎_elim (λ (b : x < 18446744073709551359). omega (arith, w, b)) (λ (b : 18446744073709551359 ≤ x). absurd (omega (arith, w, b, f, i.role_low, i.table_low)))
      (below_or x 18446744073709551359)
      in
      let d : x / 256 ≡ (table - 1) + 256 * s = omega (arith, e, i.role_low, i.role_high, i.table_low) in
      (omega (arith, e, i.role_low, i.role_high), omega (arith, d, i.table_low, i.table_high), omega (arith, e, i.high, i.role_high, i.table_high))

spread : T (each (λ r. each (λ t. each (λ s. eqb ((r + 256 * t + 65536 * s) * 0x201001 / 65536 % 64) (32 * r + 16 * t + s)) 0 16) 0 2) 0 2)
spread = tt

pub place_is : (x role table s : ℕ) → Ranged role table s → x ≡ (role - 1) + 256 * (table - 1) + 65536 * s → x * 0x201001 / 65536 % 64 ≡ place_of role table s
place_is x role table s i e =
    ap (λ (n : ℕ). n * 0x201001 / 65536 % 64) e
    ∙ eqb→eq _ _
    (each_at (λ s. eqb (((role - 1) + 256 * (table - 1) + 65536 * s) * 0x201001 / 65536 % 64) (32 * (role - 1) + 16 * (table - 1) + s)) 16 0
    (each_at (λ t. each (λ s. eqb (((role - 1) + 256 * t + 65536 * s) * 0x201001 / 65536 % 64) (32 * (role - 1) + 16 * t + s)) 0 16) 2 0
    (each_at (λ r. each (λ t. each (λ s. eqb ((r + 256 * t + 65536 * s) * 0x201001 / 65536 % 64) (32 * r + 16 * t + s)) 0 16) 0 2) 2 0 spread (role - 1) (omega arith) (omega arith))
    (table - 1) (omega arith) (omega arith))
    s (omega arith) (omega arith))
    ∙ sym (place_counted role table s i)

-- what `marked` is proved by
pub ruleset marking = (place_in, in_place, place_is, unmarked, marked_place)
