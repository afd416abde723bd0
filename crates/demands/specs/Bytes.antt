-- Answers and events as bytes: what a run leaves reads back as its answers, and the events of two lists joined are both lists' events.
-- Assumes nothing.
use Rattle.std.specs.Prelude.{◌≡◌, refl, List, [], ◌∷◌, ◌++◌, ℕ, zero, suc, ◌+◌, ◌*◌, ◌/◌, ◌%◌, ◌≤◌, ◌<◌, length, get_or}
use Rattle.std.proofs.Common.{sym, ap, ◌∙◌, append_assoc, append-nil, arith, add-zero, add-suc, length-append, get_or-append-add}
use Rattle.std.proofs.Math.ListN.{get_or-append}
use Rattle.records.specs.Records.{at16, flat, event_at, first_events, events_of}
use Rattle.rules.specs.declared.Answer.{Answer}
use Rattle.run.specs.Step.{answer_bytes}
use Rattle.demands.specs.Groups.{first_answers}

pub answers_back : (xs : List Answer) (rest : List ℕ) → first_answers (length xs) (flat answer_bytes xs ++ rest) ≡ xs
answers_back [] rest = refl
answers_back (x ∷ xs) rest = ap (λ (l : List Answer). x ∷ l) (answers_back xs rest)

-- an event in the first of two lists, and one in the second
event_first : (l k : List ℕ) (n : ℕ) → 4 * n + 4 ≤ length l → event_at (l ++ k) n ≡ event_at l n
unfolding event_at at16
event_first l k n h =
    let at : (i : ℕ) → i < length l → get_or (l ++ k) i 0 ≡ get_or l i 0 = λ i q. get_or-append l k 0 i q in
    simp (at (4 * n) (omega arith), at (4 * n + 1) (omega arith), at (4 * n + 2) (omega arith), at (4 * n + 3) (omega arith))

event_second : (l k : List ℕ) (n i : ℕ) → length l ≡ 4 * n → event_at (l ++ k) (n + i) ≡ event_at k i
unfolding event_at at16
event_second l k n i h =
    let at : (p q : ℕ) → p ≡ length l + q → get_or (l ++ k) p 0 ≡ get_or k q 0 =
    λ p q e. ap (λ (r : ℕ). get_or (l ++ k) r 0) e ∙ get_or-append-add l k q 0
    in
    simp (at (4 * (n + i)) (4 * i) (omega arith), at (4 * (n + i) + 1) (4 * i + 1) (omega arith), at (4 * (n + i) + 2) (4 * i + 2) (omega arith), at (4 * (n + i) + 3) (4 * i + 3) (omega arith))

first_part : (l k : List ℕ) (n : ℕ) → 4 * n ≤ length l → first_events (l ++ k) n ≡ first_events l n
first_part l k zero h = refl
first_part l k (suc n) h = λ j. first_part l k n (omega arith) j ++ (event_first l k n (omega arith) j ∷ [])

both_parts : (l k : List ℕ) (n m : ℕ) → length l ≡ 4 * n → first_events (l ++ k) (n + m) ≡ first_events l n ++ first_events k m
both_parts l k n zero h =
    ap (first_events (l ++ k)) (add-zero n) ∙ first_part l k n (omega arith) ∙ sym (append-nil (first_events l n))
both_parts l k n (suc m) h =
    ap (first_events (l ++ k)) (add-suc n m)
    ∙ (λ j. both_parts l k n m h j ++ (event_second l k n m h j ∷ []))
    ∙ append_assoc (first_events l n) (first_events k m) (event_at k m ∷ [])

pub events_joined : (l k : List ℕ) → length l % 4 ≡ 0 → events_of (l ++ k) ≡ events_of l ++ events_of k
events_joined l k h =
    let e : length (l ++ k) / 4 ≡ length l / 4 + length k / 4 = omega (arith, length-append l k) in
    ap (first_events (l ++ k)) e ∙ both_parts l k (length l / 4) (length k / 4) (omega arith)
