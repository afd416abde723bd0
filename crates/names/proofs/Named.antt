-- A field compared with a name by `==`, and with the names of messages one after the other. Assumes nothing.
use Rattle.std.proofs.Common.{ℕ, suc, ◌+◌, ◌<◌, ◌≡◌, refl, sym, ◌∙◌, ap, add-one, Bool, true, false, cond, List, [], ◌∷◌, length, slice_index_or, drop, drop-cons, nat_eq}
use lib.Pointwise.{pointwise}
use Rattle.names.specs.Names.{same, named, name_of}
use Rattle.names.specs.Numbers.{message_number}
use Rattle.names.specs.declared.Message.{Message}

-- `==` compares byte by byte
pub eq_same : (a b : List ℕ) → pointwise nat_eq a b ≡ same a b
eq_same [] [] = refl
eq_same [] (y ∷ b) = refl
eq_same (x ∷ a) [] = refl
eq_same (x ∷ a) (y ∷ b) = rw (eq_same a b)

pub named_eq : (l n : List ℕ) (k others : ℕ) (t : Bool) → t ≡ pointwise nat_eq l n → named l n k others ≡ cond t k others
unfolding named
named_eq l n k others t e = rw (← eq_same l n, ← e)

-- the number of the first of the messages whose name l is; 0 where it is none of theirs
abbrev pub first_of : List ℕ → List Message → ℕ
first_of l [] = 0
first_of l (m ∷ ms) = named l (name_of (message_number m)) (message_number m) (first_of l ms)

-- the message at a place is it, or those after it decide
module _ (l : List ℕ) (ms : List Message) (i : ℕ) (d : Message) (n : List ℕ) (t : Bool) (p : i < length ms) where
  module _ (q : n ≡ name_of (message_number (slice_index_or ms i d))) (e : t ≡ pointwise nat_eq l n) where
    at : first_of l (drop i ms) ≡ cond t (message_number (slice_index_or ms i d)) (first_of l (drop (i + 1) ms))
    at =
        let m = slice_index_or ms i d in
        rw (drop-cons ms i d p, add-one) (named_eq l (name_of (message_number m)) (message_number m) (first_of l (drop (suc i) ms)) t (e ∙ ap (pointwise nat_eq l) q))

    pub first_here : t ≡ true → message_number (slice_index_or ms i d) ≡ first_of l (drop i ms)
    first_here h = sym (rw h at at)

    pub first_on : t ≡ false → first_of l (drop i ms) ≡ first_of l (drop (i + 1) ms)
    first_on h = rw h at at
