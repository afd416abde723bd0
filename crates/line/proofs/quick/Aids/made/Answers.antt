-- `line::quick::Aids::made` meets its contract: each row is put where the rows before it end, and then the guesses and the masks.
-- Assumes nothing.
use Rattle.std.proofs.Common.{ℕ, List, length, take, drop, length-take, length-drop, replicate, refl, ap, ◌∙◌, ◌≡◌, arith}
use Rattle.records.specs.Records.{placed}
use Rattle.line.specs.Quick.{guesses, rows_to}
use Rattle.line.proofs.Rows.{put_is, rows_all}
use Rattle.line.proofs.quick.Aids.made.Goals as goal

pub put_row-requires : goal.put_row-requires
unfolding rows_to
put_row-requires c = refl

pub returns : goal.returns
returns c =
    let sixteen : length (take 16 (drop 304 c.put.new.area)) ≡ 16 = simp (length-take, length-drop) (omega (arith, c.put.ensures.size)) in
    let zeros : c.fill.new.self ≡ replicate 16 0 = c.fill.ensures.after (λ y e. e) ∙ ap (λ (n : ℕ). replicate n 0) sixteen in
    put_is c.put.new.area (replicate 16 0) c.fill.new.self 304 zeros
    ∙ ap (λ (t : List ℕ). placed t 304 (replicate 16 0)) (c.put.ensures.bytes ∙ ap (λ (t : List ℕ). placed t 256 guesses) c.put_row-14.ensures)
    ∙ rows_all
