-- Names and numbers are each other's: a name is read as its own number, and no other bytes are read as that number.
-- Both are proved of any list of names. That each of ours is found at its own place is computed.
-- Assumes nothing.
use Prim.Native.Nat.{ℕ, zero, suc, ◌+◌, ◌-◌, ◌≤◌, ◌<◌}
use Rattle.std.proofs.Common.{arith, sym, ◌∙◌, inl, inr, eqb-true}
use Rattle.std.specs.Prelude.{◌≡◌, refl, Bool, true, false, ◌&&◌, cond, ◌⊎◌, eqb, length, get_or}
use Rattle.std.proofs.Math.Bool.{and-eq-true_iff}
use Rattle.std.proofs.lemmas.Bool.{false≢true}
use Rattle.std.proofs.Math.Logic.{⊎_elim}
use mathlib.Core.List.{List, [], ◌∷◌}
use Rattle.names.specs.Names.{message_names, way_names, name_of, way_name, same, named, look, message_named, way_named}
use Rattle.names.specs.Numbers.{message_number, way_number}
use Rattle.names.specs.declared.Message.{Message}
use Rattle.names.specs.declared.Message.TheVariants.{Cancel, Complete, Close, Compensate, Failed, Exited, NotCompleted, Exit, Completed, Fail, CannotComplete, Canceled, Closed, Compensated}
use Rattle.names.specs.declared.Way.{Way}
use Rattle.names.specs.declared.Way.TheVariants.{Got, Sent}

pub same_is : (l m : List ℕ) → same l m ≡ true → l ≡ m
same_is [] [] h = refl
same_is [] (y ∷ m) h = absurd (false≢true h)
same_is (x ∷ l) [] h = absurd (false≢true h)
same_is (x ∷ l) (y ∷ m) h =
    let both = (and-eq-true_iff (eqb x y) (same l m)).0 h in
    rw (eqb-true x y both.0, same_is l m both.1)

which : (t : Bool) (k r m : ℕ) → cond t k r ≡ m → ((t ≡ true) × (k ≡ m)) ⊎ (r ≡ m)
which true k r m h = inl (refl, h)
which false k r m h = inr h

-- what was found is the name at its place
module _ (none : ℕ) (l : List ℕ) (m : ℕ) (some : m ≡ none → ⊥) where
  pub look_name : (ns : List (List ℕ)) (k : ℕ) → look none l ns k ≡ m → (k ≤ m) × (m < k + length ns) × (l ≡ get_or ns (m - k) [])
  unfolding named
  look_name [] k h = absurd (some (sym h))
  look_name (n ∷ ns) k h =
      ⊎_elim
      (λ w. let z : m - k ≡ 0 = omega (arith, w.1) in (omega (arith, w.1), omega (arith, w.1), rw z (same_is l n w.0)))
      (λ w.
      let r = look_name ns (suc k) w in
      let z : m - k ≡ suc (m - suc k) = omega (arith, r.0) in
      (omega (arith, r.0), omega (arith, r.1), rw z r.2))
      (which (same l n) k (look none l ns (suc k)) m h)

-- whether each of the names ns, counted from k, is found at its own place among all, counted from `first`
abbrev own : ℕ → ℕ → List (List ℕ) → List (List ℕ) → ℕ → Bool
own none first all [] k = true
own none first all (n ∷ ns) k = eqb (look none n all first) k && own none first all ns (suc k)

module _ (none first : ℕ) (all : List (List ℕ)) where
  own_place : (ns : List (List ℕ)) (k i : ℕ) → own none first all ns k ≡ true → i < length ns → look none (get_or ns i []) all first ≡ k + i
  own_place [] k i t h = absurd (omega arith)
  own_place (n ∷ ns) k zero t h = eqb-true (look none n all first) k ((and-eq-true_iff _ (own none first all ns (suc k))).0 t).0 ∙ omega arith
  own_place (n ∷ ns) k (suc i) t h = own_place ns (suc k) i ((and-eq-true_iff (eqb (look none n all first) k) _).0 t).1 (omega arith) ∙ omega arith

-- the name of a message is read as that message
pub message_own : (k : ℕ) → 1 ≤ k → k ≤ 14 → message_named (name_of k) ≡ k
unfolding named
message_own zero p q = absurd (omega arith)
message_own (suc k) p q = own_place 0 1 message_names message_names 1 k refl (omega arith) ∙ omega arith

-- and only its name is: no other spelling is taken
pub message_only : (l : List ℕ) (k : ℕ) → message_named l ≡ k → (k ≡ 0 → ⊥) → (k ≤ 14) × (l ≡ name_of k)
message_only l zero h n = absurd (n refl)
message_only l (suc k) h n =
    let f = look_name 0 l (suc k) n message_names 1 h in
    let z : suc k - 1 ≡ k = omega arith in
    (omega arith, f.2 ∙ rw z)

-- the same of the two ways
pub way_own : (k : ℕ) → k < 2 → way_named (way_name k) ≡ k
unfolding named
way_own k p = own_place 2 0 way_names way_names 0 k refl (omega arith) ∙ omega arith

pub way_only : (l : List ℕ) (k : ℕ) → way_named l ≡ k → (k ≡ 2 → ⊥) → (k < 2) × (l ≡ way_name k)
way_only l k h n =
    let f = look_name 2 l k n way_names 0 h in
    let z : k - 0 ≡ k = omega arith in
    (omega arith, f.2 ∙ rw z)

-- each message has one of the numbers 1 to 14, and each way 0 or 1
pub message_range : (m : Message) → (1 ≤ message_number m) × (message_number m ≤ 14)
message_range Cancel = (omega arith, omega arith)
message_range Complete = (omega arith, omega arith)
message_range Close = (omega arith, omega arith)
message_range Compensate = (omega arith, omega arith)
message_range Failed = (omega arith, omega arith)
message_range Exited = (omega arith, omega arith)
message_range NotCompleted = (omega arith, omega arith)
message_range Exit = (omega arith, omega arith)
message_range Completed = (omega arith, omega arith)
message_range Fail = (omega arith, omega arith)
message_range CannotComplete = (omega arith, omega arith)
message_range Canceled = (omega arith, omega arith)
message_range Closed = (omega arith, omega arith)
message_range Compensated = (omega arith, omega arith)

pub way_range : (w : Way) → way_number w ≤ 1
way_range Got = omega arith
way_range Sent = omega arith
