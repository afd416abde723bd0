-- Each legal entry is `sound` (specs/Laws.antt), and what that says of it, part by part.
-- The argument: antt computes `sound` at each of the 1,680 entries in range, and a legal entry is in range (`within`).
-- Assumes nothing.
use Rattle.std.proofs.Common.{◌≡◌, ℕ, true, not, ◌&&◌, ◌||◌, T, ◌==◌, nat_eq, refl, ⊎_elim, arith, eqb-true}
use Rattle.lemmas.specs.Bools.{both, either, implied, T_is}
use Rattle.lemmas.specs.Ranges.{each, each_at}
use Rattle.rules.specs.declared.Entry.TheVariants.{Reply}
use Rattle.rules.specs.Numbers.{sent, coordinator}
use Rattle.rules.specs.Tables.{coordinator_receives, coordinator_sends, participant_receives, participant_sends}
use Rattle.rules.specs.Rules.{last_state, has_state, sends, receives, moves, line_of, entry_of, answer_of, legal}
use Rattle.rules.specs.Outcome.{needed_by, asked_by}
use Rattle.rules.specs.Laws.{Within, within, reply_fits, turns, sound, Turns, none, kept, asked}

all_sound : T (each (λ r. each (λ t. each (λ w. each (λ m. each (λ s. sound r t w m s) 1 15) 1 14) 0 2) 1 2) 1 2)
unfolding sound entry_of line_of has_state last_state moves sends receives coordinator_receives coordinator_sends participant_receives participant_sends needed_by asked_by
all_sound = tt

sound_at : (role table way m s : ℕ) → Within role table way m s → sound role table way m s ≡ true
sound_at role table way m s i =
    T_is _
    (each_at (λ s. sound role table way m s) 15 1
    (each_at (λ m. each (λ s. sound role table way m s) 1 15) 14 1
    (each_at (λ w. each (λ m. each (λ s. sound role table w m s) 1 15) 1 14) 2 0
    (each_at (λ t. each (λ w. each (λ m. each (λ s. sound role t w m s) 1 15) 1 14) 0 2) 2 1
    (each_at (λ r. each (λ t. each (λ w. each (λ m. each (λ s. sound r t w m s) 1 15) 1 14) 0 2) 1 2) 2 1 all_sound
    role i.has.role_low (omega arith))
    table i.has.table_low (omega arith))
    way (omega (arith, i.known.way_high)) (omega (arith, i.known.way_high)))
    m i.known.low (omega (arith, i.known.high)))
    s i.has.low (omega arith))

turns_is : (way m s next : ℕ) → turns way m s next ≡ true → Turns way m s next
turns_is way m s next h =
    ⊎_elim (λ (e : nat_eq (needed_by next) 0 ≡ true). none (eqb-true _ _ e))
    (λ f. ⊎_elim (λ (e : nat_eq (needed_by next) (needed_by s) ≡ true). kept (eqb-true _ _ e))
    (λ (e : (way == sent && needed_by next == asked_by m) ≡ true).
    let p = both (way == sent) (needed_by next == asked_by m) e in asked (eqb-true _ _ p.0) (eqb-true _ _ p.1))
    (either _ _ f))
    (either (needed_by next == 0) (needed_by next == needed_by s || (way == sent && needed_by next == asked_by m)) h)

module _ (role table way m s : ℕ) (h : legal (entry_of role table way m s) ≡ true) where
  parts : (has_state role table (answer_of (entry_of role table way m s) s).state ≡ true)
      × (moves role way m ≡ true)
      × (reply_fits role (entry_of role table way m s) ≡ true)
      × ((not (role == coordinator) || turns way m s (answer_of (entry_of role table way m s) s).state) ≡ true)
  unfolding sound
  parts =
      let p = both _ _ (implied _ _ (sound_at role table way m s (within role table way m s h)) h) in
      let q = both _ _ p.1 in
      let r = both _ _ q.1 in
      (p.0, q.0, r.0, r.1)

  -- a next state is again one that the role has under that table
  pub next_has : has_state role table (answer_of (entry_of role table way m s) s).state ≡ true
  next_has = parts.0

  -- what is legal is moved that way
  pub legal_moves : moves role way m ≡ true
  legal_moves = parts.1

  -- a reply names a message that this role sends
  pub reply_sends : (k : ℕ) → entry_of role table way m s ≡ Reply k → sends role k ≡ true
  reply_sends k e = rw e at parts.2

  -- the direction that the next state of a coordinator needs
  pub next_turns : role ≡ coordinator → Turns way m s (answer_of (entry_of role table way m s) s).state
  next_turns e = turns_is way m s _ (implied (role == coordinator) _ parts.3 (rw e refl))
