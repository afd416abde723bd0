-- What a page's methods leave of it, and two texts one after the other.
-- Assumes nothing.
use Rattle.std.specs.Prelude.{ℕ, ◌+◌, ◌≤◌, ◌≡◌, refl, List, [], ◌++◌, length}
use Rattle.std.proofs.Common.{arith, ◌∙◌}
use Rattle.text.specs.Text.{Put}
use Rattle.text.specs.Laws.{joined, put_none, put_same}
use Rattle.text.specs.declared.Page.{Page}

-- as many more bytes can be written
abbrev pub HasRoom : Page → ℕ → Type 0
HasRoom p n = p.size + n ≤ length p.area.now

-- the same area, with the text behind what was written
pub record Wrote (p : Page) (text : List ℕ) (p' : Page) : Type 0 where
  pub same_reference : p'.area.ghost_name ≡ p.area.ghost_name
  pub same_length : length p'.area.now ≡ length p.area.now
  pub put : Put p.area.now p.size text p'.area.now p'.size

pub wrote_none : (p : Page) → HasRoom p 0 → Wrote p [] p
wrote_none p h = record { same_reference = refl; same_length = refl; put = put_none p.area.now p.size (omega arith) }

pub wrote_next : {p q r : Page} {x y : List ℕ} → Wrote p x q → Wrote q y r → Wrote p (x ++ y) r
wrote_next {p} {q} {r} {x} {y} f g =
    record { same_reference = g.same_reference ∙ f.same_reference; same_length = g.same_length ∙ f.same_length; put = joined f.put g.put }

pub wrote_same : {p q : Page} {x y : List ℕ} → x ≡ y → Wrote p x q → Wrote p y q
wrote_same {p} {q} {x} {y} e f = record { same_reference = f.same_reference; same_length = f.same_length; put = put_same e f.put }
