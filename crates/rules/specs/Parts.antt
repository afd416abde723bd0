-- What the code's small parts answer. No promise of a public function speaks of these.
-- Assumes nothing.
use Rattle.std.specs.Prelude.{ℕ, Bool, cond, ◌==◌}
use Rattle.rules.specs.declared.Entry.{Entry}
use Rattle.rules.specs.declared.Entry.TheVariants.{Invalid, Ignore, Move, Forget, Reply}

-- the ended state that a seat comes to
abbrev pub end_of : ℕ → Bool → ℕ
end_of home is_split = cond is_split home 12

-- a seat's last word asked for again, the send that ends the seat, and that send again
abbrev pub late_of : ℕ → ℕ → Bool → ℕ → Entry
late_of home word is_split s = cond (s == end_of home is_split) (Reply word) (cond is_split Ignore Invalid)

abbrev pub ends_of : ℕ → Bool → Entry
ends_of home is_split = Forget (end_of home is_split)

abbrev pub again_of : ℕ → Bool → ℕ → Entry
again_of home is_split s = cond (s == end_of home is_split) (Move s) Invalid
