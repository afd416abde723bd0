-- `line::quick::is_seat` meets its contract: what its tests showed is what a seat is.
-- Assumes nothing.
use Rattle.std.proofs.Common.{◌≡◌, ◌≤◌, ◌⊎◌, get_or, arith}
use Rattle.line.proofs.Found.{seat_found}
use Rattle.line.proofs.quick.is_seat.Goals as goal

pub returns : goal.returns
returns c t =
    let begins : (c.args.x.size ≤ 1) ⊎ (get_or c.args.rest.now 0 0 ≡ 48 → ⊥) = grind arith in
    seat_found c.args.rest.now c.args.x c.requires.digits c.requires.length begins t
