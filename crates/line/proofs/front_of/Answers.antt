-- `line::front_of` meets its contract: a shorter text is its own front. Assumes nothing.
use Rattle.std.proofs.Common.{◌≡◌, ℕ, ◌<◌, ◌≤◌, ◌+◌, ◌⊎◌, Option, Some, None, List, Bor, length, take, sym, arith, take_all}
use Rattle.std.specs.Option.{MatchOption, unwrap_or}
use Rattle.std.specs.List.{slice_range}
use Rattle.line.proofs.front_of.Goals as goal

front :
    (n : ℕ) (r : Option (Bor (List ℕ))) (s t : Bor (List ℕ)) → t ≡ unwrap_or r s
    → MatchOption r ((n < 0) ⊎ (length s.now < n)) (λ x. (0 ≤ n) × (n ≤ length s.now) × (x.now ≡ slice_range s.now 0 n) × (length x.now + 0 ≡ n))
    → n ≡ 26 → t.now ≡ take 26 s.now
front n None s t e m h = rw e (sym (take_all 26 s.now (omega (arith, m, h))))
front n (Some x) s t e m h = rw e (rw h at m.2)

pub returns-clause-front : goal.returns-clause-front
returns-clause-front c = front _ c.get.result c.args.rest c.unwrap_or.result c.unwrap_or.ensures c.get.ensures.lookup.0 (omega arith)
