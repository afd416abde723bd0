-- A text is read line by line: what its first line says, then what the text after that line's newline gives.
-- Assumes nothing.
use Rattle.std.specs.Prelude.{ℕ, suc, ◌+◌, ◌*◌, ◌<◌, ◌≤◌, ◌≡◌, refl, Bool, true, false, cond, List, [], ◌∷◌, ◌++◌, eqb, ltb, leb, length, take, drop}
use Rattle.std.proofs.Common.{arith, sym, ◌∙◌, ap, append_assoc}
use Rattle.std.proofs.Math.Bool.{and-false, and-eq-true_iff}
use borrow.Author.Tests.{ltb-true, leb-true, lt-ltb, le-ltb, le-leb, lt-leb}
use Rattle.records.specs.declared.Event.{Event}
use Rattle.line.specs.Grammar.{newline, index_of, line_of, Line, Good, Refused}
use Rattle.line.specs.Laws.{line_first}
use Rattle.journal.specs.Journal.{longer, lines, has_room, roomed, Outcome, events, refused, infront, on_line, lines_from}

-- the first line ends with the first newline
module _ (x : ℕ) where
  lines_step :
      (b : Bool) (i : ℕ) (t : List ℕ) → lines t ≡ take (suc i) t ∷ lines (drop (suc i) t)
      → cond b ((x ∷ []) ∷ lines t) (longer x (lines t))
      ≡ take (suc (cond b 0 (suc i))) (x ∷ t) ∷ lines (drop (suc (cond b 0 (suc i))) (x ∷ t))
  lines_step true i t h = refl
  lines_step false i t h = rw h

  lines_lone : (b : Bool) → cond b ((x ∷ []) ∷ []) ((x ∷ []) ∷ []) ≡ take (suc (cond b 0 1)) (x ∷ []) ∷ lines (drop (suc (cond b 0 1)) (x ∷ []))
  lines_lone true = refl
  lines_lone false = refl

pub lines_first : (t : List ℕ) → 0 < length t → lines t ≡ take (suc (index_of newline t)) t ∷ lines (drop (suc (index_of newline t)) t)
lines_first [] h = absurd (omega arith)
lines_first (x ∷ []) h = lines_lone x (eqb x newline)
lines_first (x ∷ y ∷ t) h = lines_step x (eqb x newline) (index_of newline (y ∷ t)) (y ∷ t) (lines_first (y ∷ t) (omega arith))

-- events in front of events
pub infront_none : (o : Outcome) → infront [] o ≡ o
infront_none (events es) = refl
infront_none (refused r n) = refl

pub infront_more : (es fs : List Event) (o : Outcome) → infront es (infront fs o) ≡ infront (es ++ fs) o
infront_more es fs (events gs) = ap events (sym (append_assoc es fs gs))
infront_more es fs (refused r n) = refl

-- a good line has room, and is good without the test for it
pub roomed_good : (b : Bool) (said : Line) (e : Event) → roomed b said ≡ Good e → (b ≡ true) × (said ≡ Good e)
roomed_good true said e h = (refl, h)
roomed_good false (Good f) e h = absurd (let z : ◌≡◌ {A = ℕ} 0 1 = cc in omega arith)
roomed_good false (Refused r) e h = absurd (let z : ◌≡◌ {A = ℕ} 0 1 = cc in omega arith)

pub roomed_refused : (b : Bool) (r : ℕ) → roomed b (Refused r) ≡ Refused r
roomed_refused true r = refl
roomed_refused false r = refl

module _ (area n : ℕ) where
  pub has_room_lem : has_room area n ≡ true → (n < 4096) × (4 * n + 4 ≤ area)
  unfolding has_room
  has_room_lem h =
      let w = (and-eq-true_iff (leb (4 * n + 4) area) (ltb n 4096)).0 h in
      (ltb-true n 4096 w.1, leb-true (4 * n + 4) area w.0)

  pub room_left : n < 4096 → 4 * n + 4 ≤ area → has_room area n ≡ true
  unfolding has_room
  room_left p q = rw (le-leb (4 * n + 4) area q, lt-ltb n 4096 p)

  pub area_full : area < 4 * n + 4 → has_room area n ≡ false
  unfolding has_room
  area_full q = rw (lt-leb (4 * n + 4) area q)

  pub run_full : 4096 ≤ n → has_room area n ≡ false
  unfolding has_room
  run_full p = rw (le-ltb n 4096 p, and-false)

-- the first line's answer decides how the reading goes on
module _ (area n : ℕ) (t : List ℕ) (h : 0 < length t) where
  pub first_said :
      lines_from area n (lines t)
      ≡ on_line (suc n) (roomed (has_room area n) (line_of t)) (lines_from area (suc n) (lines (drop (suc (index_of newline t)) t)))
  first_said = rw (lines_first t h, line_first t)

  pub first_refused : (r : ℕ) → roomed (has_room area n) (line_of t) ≡ Refused r → lines_from area n (lines t) ≡ refused r (suc n)
  first_refused r q = first_said ∙ rw q

  pub first_good :
      (e : Event) → roomed (has_room area n) (line_of t) ≡ Good e
      → lines_from area n (lines t) ≡ infront (e ∷ []) (lines_from area (suc n) (lines (drop (suc (index_of newline t)) t)))
  first_good e q = first_said ∙ rw q
