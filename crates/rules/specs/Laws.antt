-- Laws of the tables that callers use in place of their text.
-- The argument: a legal entry has its role, table, way, message and state in range (`Within`), and what is to be shown of it is a
-- test (`sound`), which each entry passes (proofs/Sound.antt).
-- Assumes nothing.
use Rattle.std.specs.Prelude.{◌≡◌, ℕ, ◌≤◌, Bool, true, false, cond, not, ◌&&◌, ◌||◌, ◌⊎◌, List, [], ◌∷◌, ◌==◌, nat_eq, nat_le, refl}
use Rattle.std.proofs.Common.{subst, true≢false, inl, inr, ⊎_elim, arith, leb-true, eqb-true}
use Rattle.std.proofs.lemmas.Bool.{false≢true}
use Rattle.lemmas.specs.Bools.{both, either}
use Rattle.rules.specs.declared.Entry.{Entry}
use Rattle.rules.specs.declared.Entry.TheVariants.{Invalid, Ignore, Move, Forget, Reply}
use Rattle.rules.specs.Numbers.{received, sent, coordinator, participant, plain, split}
use Rattle.rules.specs.Tables.{Line, P, S, B, speaks, look, one_of, as_sent, coordinator_receives, coordinator_sends, participant_receives, participant_sends, coordinator_receives_lines, coordinator_sends_lines, participant_receives_lines, participant_sends_lines}
use Rattle.rules.specs.Rules.{last_state, has_state, sends, receives, moves, line_of, entry_of, answer_of, legal}
use Rattle.rules.specs.Outcome.{needed_by, asked_by}

-- what a role and a table that have a state are
pub record HasState (role table s : ℕ) : Type 0 where
  pub role_low : 1 ≤ role
  pub role_high : role ≤ 2
  pub table_low : 1 ≤ table
  pub table_high : table ≤ 2
  pub low : 1 ≤ s
  pub high : s ≤ 15

table_of : (table s : ℕ) → 1 ≤ s → s ≤ last_state table → (1 ≤ table) × (table ≤ 2) × (s ≤ 15)
unfolding last_state
table_of table s l h = at (table == plain) (table == split) refl refl h where
  at : (t u : Bool) → (table == plain) ≡ t → (table == split) ≡ u → s ≤ cond t 12 (cond u 15 0) → (1 ≤ table) × (table ≤ 2) × (s ≤ 15)
  at true u e f k = let z : table ≡ 1 = eqb-true table 1 e in (omega arith, omega arith, omega arith)
  at false true e f k = let z : table ≡ 2 = eqb-true table 2 f in (omega arith, omega arith, omega arith)
  at false false e f k = absurd (omega arith)

role_of : (role s : ℕ) → (role == coordinator || (role == participant && not (s == 3))) ≡ true → (1 ≤ role) × (role ≤ 2)
role_of role s h =
    ⊎_elim (λ (e : nat_eq role coordinator ≡ true). let z : role ≡ 1 = eqb-true role 1 e in (omega arith, omega arith))
    (λ (e : (role == participant && not (s == 3)) ≡ true).
    let z : role ≡ 2 = eqb-true role 2 (both (role == participant) (not (s == 3)) e).0 in (omega arith, omega arith))
    (either (role == coordinator) (role == participant && not (s == 3)) h)

pub has_state_lem : (role table s : ℕ) → has_state role table s ≡ true → HasState role table s
unfolding has_state
has_state_lem role table s h =
    let p = both (nat_le 1 s && nat_le s (last_state table)) (role == coordinator || (role == participant && not (s == 3))) h in
    let q = both (nat_le 1 s) (nat_le s (last_state table)) p.0 in
    let l : 1 ≤ s = leb-true 1 s q.0 in
    let t = table_of table s l (leb-true s (last_state table) q.1) in
    let r = role_of role s p.1 in
    record { role_low = r.0; role_high = r.1; table_low = t.0; table_high = t.1; low = l; high = t.2 }

-- a way and a message of the outline
pub record Known (way m : ℕ) : Type 0 where
  pub way_high : way ≤ 1
  pub low : 1 ≤ m
  pub high : m ≤ 14

-- what a role moves is known, and so is the role
pub record Moves (role way m : ℕ) : Type 0 where
  pub role_low : 1 ≤ role
  pub role_high : role ≤ 2
  pub known : Known way m

message_of_lem : (role a b m : ℕ) → ((role == a && nat_le 1 m && nat_le m 7) || (role == b && nat_le 8 m && nat_le m 14)) ≡ true
    → ((role ≡ a) ⊎ (role ≡ b)) × (1 ≤ m) × (m ≤ 14)
message_of_lem role a b m h =
    ⊎_elim
    (λ (e : (role == a && nat_le 1 m && nat_le m 7) ≡ true).
    let p = both (role == a && nat_le 1 m) (nat_le m 7) e in
    let q = both (role == a) (nat_le 1 m) p.0 in
    let k : m ≤ 7 = leb-true m 7 p.1 in
    (inl (eqb-true role a q.0), leb-true 1 m q.1, omega arith))
    (λ (e : (role == b && nat_le 8 m && nat_le m 14) ≡ true).
    let p = both (role == b && nat_le 8 m) (nat_le m 14) e in
    let q = both (role == b) (nat_le 8 m) p.0 in
    let k : 8 ≤ m = leb-true 8 m q.1 in
    (inr (eqb-true role b q.0), omega arith, leb-true m 14 p.1))
    (either (role == a && nat_le 1 m && nat_le m 7) (role == b && nat_le 8 m && nat_le m 14) h)

-- a role that is one of two
one_of_lem : {x : ℕ} (a b : ℕ) → 1 ≤ a → a ≤ 2 → 1 ≤ b → b ≤ 2 → (x ≡ a) ⊎ (x ≡ b) → (1 ≤ x) × (x ≤ 2)
one_of_lem a b la ha lb hb (inl e) = (omega arith, omega arith)
one_of_lem a b la ha lb hb (inr e) = (omega arith, omega arith)

pub moves_in : (role way m : ℕ) → moves role way m ≡ true → Moves role way m
unfolding moves sends receives
moves_in role way m h =
    ⊎_elim
    (λ (e : (way == sent && sends role m) ≡ true).
    let p = both (way == sent) (sends role m) e in
    let z : way ≡ 1 = eqb-true way 1 p.0 in
    let q = message_of_lem role coordinator participant m p.1 in
    let r = one_of_lem 1 2 (omega arith) (omega arith) (omega arith) (omega arith) q.0 in
    record { role_low = r.0; role_high = r.1; known = record { way_high = omega arith; low = q.1; high = q.2 } })
    (λ (e : (way == received && receives role m) ≡ true).
    let p = both (way == received) (receives role m) e in
    let z : way ≡ 0 = eqb-true way 0 p.0 in
    let q = message_of_lem role participant coordinator m p.1 in
    let r = one_of_lem 2 1 (omega arith) (omega arith) (omega arith) (omega arith) q.0 in
    record { role_low = r.0; role_high = r.1; known = record { way_high = omega arith; low = q.1; high = q.2 } })
    (either (way == sent && sends role m) (way == received && receives role m) h)

-- every line is of a message from 1 to 14, so what is found is
abbrev of_paper : Line → Bool
of_paper (P k ss e) = nat_le 1 k && nat_le k 14
of_paper (S k ss e) = nat_le 1 k && nat_le k 14
of_paper (B k ss e) = nat_le 1 k && nat_le k 14

abbrev all_of_paper : List Line → Bool
all_of_paper [] = true
all_of_paper (l ∷ ls) = of_paper l && all_of_paper ls

key : (k m : ℕ) (x : Bool) → (nat_le 1 k && nat_le k 14) ≡ true → (m == k && x) ≡ true → (1 ≤ m) × (m ≤ 14)
key k m x p h =
    let e : m ≡ k = eqb-true m k (both (m == k) x h).0 in
    let q = both (nat_le 1 k) (nat_le k 14) p in
    rw e (leb-true 1 k q.0, leb-true k 14 q.1)

spoken : (l : Line) (b : Bool) (m s : ℕ) → of_paper l ≡ true → speaks l b m s ≡ true → (1 ≤ m) × (m ≤ 14)
spoken (P k ss e) b m s p h = key k m (not b) p (both (m == k && not b) (one_of ss s) h).0
spoken (S k ss e) b m s p h = key k m b p (both (m == k && b) (one_of ss s) h).0
spoken (B k ss e) b m s p h = key k m (one_of ss s) p h

looked : (ls : List Line) (b : Bool) (m s : ℕ) → all_of_paper ls ≡ true → legal (look ls b m s) ≡ true → (1 ≤ m) × (m ≤ 14)
looked [] b m s p h = absurd (false≢true h)
looked (l ∷ ls) b m s p h = at (both (of_paper l) (all_of_paper ls) p) (looked ls b m s) (speaks l b m s) refl where
  at : (of_paper l ≡ true) × (all_of_paper ls ≡ true) → (all_of_paper ls ≡ true → legal (look ls b m s) ≡ true → (1 ≤ m) × (m ≤ 14))
      → (t : Bool) → speaks l b m s ≡ t → (1 ≤ m) × (m ≤ 14)
  at q later true e = spoken l b m s q.0 e
  at q later false e = later q.1 (simp e at h)

sent_legal : (s : ℕ) (e : Entry) → legal (as_sent s e) ≡ true → legal e ≡ true
sent_legal s Invalid h = h
sent_legal s Ignore h = refl
sent_legal s (Move next) h = refl
sent_legal s (Forget next) h = refl
sent_legal s (Reply m) h = refl

-- what the lines list is known
pub line_known : (role table way m s : ℕ) → legal (line_of role table way m s) ≡ true → Known way m
unfolding line_of coordinator_receives coordinator_sends participant_receives participant_sends
line_known role table way m s h = at (way == received) refl (way == sent) refl (role == coordinator) refl where
  placed : way ≤ 1 → (1 ≤ m) × (m ≤ 14) → Known way m
  placed w p = record { way_high = w; low = p.0; high = p.1 }

  or_zero : nat_eq way received ≡ true → way ≤ 1
  or_zero f = let z : way ≡ 0 = eqb-true way 0 f in omega arith

  or_one : nat_eq way sent ≡ true → way ≤ 1
  or_one f = let z : way ≡ 1 = eqb-true way 1 f in omega arith

  at : (u : Bool) → (way == received) ≡ u → (v : Bool) → (way == sent) ≡ v → (w : Bool) → (role == coordinator) ≡ w → Known way m
  at true f v g true k =
      placed (or_zero f) (looked coordinator_receives_lines (table == split) m s refl (simp (f, k) at h))
  at true f v g false k =
      placed (or_zero f) (looked participant_receives_lines (table == split) m s refl (simp (f, k) at h))
  at false f true g true k =
      placed (or_one g) (looked coordinator_sends_lines (table == split) m s refl
      (sent_legal s (look coordinator_sends_lines (table == split) m s) (simp (f, g, k) at h)))
  at false f true g false k =
      placed (or_one g) (looked participant_sends_lines (table == split) m s refl
      (sent_legal s (look participant_sends_lines (table == split) m s) (simp (f, g, k) at h)))
  at false f false g w k = absurd (false≢true (simp (f, g) at h))

pub entry_line : (role table way m s : ℕ) → has_state role table s ≡ true → entry_of role table way m s ≡ line_of role table way m s
unfolding entry_of
entry_line role table way m s e = simp e

-- a pair that the tables list is in a state that the role has
pub legal_state : (role table way m s : ℕ) → legal (entry_of role table way m s) ≡ true → has_state role table s ≡ true
unfolding entry_of
legal_state role table way m s h = at (has_state role table s) refl where
  at : (t : Bool) → has_state role table s ≡ t → t ≡ true
  at true e = refl
  at false e = absurd (false≢true (simp e at h))

-- what a legal entry's role, table, way, message and state are
pub record Within (role table way m s : ℕ) : Type 0 where
  pub has : HasState role table s
  pub known : Known way m

pub within : (role table way m s : ℕ) → legal (entry_of role table way m s) ≡ true → Within role table way m s
within role table way m s h =
    let e = legal_state role table way m s h in
    record { has = has_state_lem role table s e; known = line_known role table way m s (subst (λ (x : Entry). legal x ≡ true) (entry_line role table way m s e) h) }

-- what is shown of every entry: it moves a message of its role, to a state that the role has under that table; a reply is a
-- message that the role sends; and a coordinator's next state needs no direction, or the one that its state needs or its message asks for
abbrev pub reply_fits : ℕ → Entry → Bool
reply_fits role Invalid = true
reply_fits role Ignore = true
reply_fits role (Move next) = true
reply_fits role (Forget next) = true
reply_fits role (Reply m) = sends role m

abbrev pub turns : ℕ → ℕ → ℕ → ℕ → Bool
turns way m s next =
    (needed_by next == 0) || (needed_by next == needed_by s || (way == sent && needed_by next == asked_by m))

abbrev sound_entry : ℕ → ℕ → ℕ → ℕ → ℕ → Entry → Bool
sound_entry role table way m s e =
    not (legal e)
    || (has_state role table (answer_of e s).state
    && (moves role way m && (reply_fits role e && (not (role == coordinator) || turns way m s (answer_of e s).state))))

unfoldable pub sound : ℕ → ℕ → ℕ → ℕ → ℕ → Bool
sound role table way m s = sound_entry role table way m s (entry_of role table way m s)

-- the direction that a coordinator's next state needs
pub data Turns (way m s next : ℕ) : Type 0 where
  none : needed_by next ≡ 0 → Turns way m s next
  kept : needed_by next ≡ needed_by s → Turns way m s next
  asked : way ≡ sent → needed_by next ≡ asked_by m → Turns way m s next

-- an ignore or a reply leaves the state
pub ignore_leaves : (e : Entry) (s : ℕ) → (answer_of e s).action ≡ 1 → (answer_of e s).state ≡ s
ignore_leaves Invalid s h = refl
ignore_leaves Ignore s h = refl
ignore_leaves (Move next) s h = absurd (omega arith)
ignore_leaves (Forget next) s h = absurd (omega arith)
ignore_leaves (Reply m) s h = refl

pub reply_leaves : (e : Entry) (s : ℕ) → (answer_of e s).action ≡ 2 → (answer_of e s).state ≡ s
reply_leaves Invalid s h = refl
reply_leaves Ignore s h = refl
reply_leaves (Move next) s h = absurd (omega arith)
reply_leaves (Forget next) s h = absurd (omega arith)
reply_leaves (Reply m) s h = refl

-- an entry that is answered is legal
pub legal_good : (e : Entry) (s : ℕ) → (answer_of e s).refusal ≡ 0 → legal e ≡ true
legal_good Invalid s h = absurd (omega arith)
legal_good Ignore s h = refl
legal_good (Move next) s h = refl
legal_good (Forget next) s h = refl
legal_good (Reply m) s h = refl

-- a pair that the tables list is answered, and one that they do not list is Invalid
pub legal_answered : (e : Entry) (s : ℕ) → legal e ≡ true → (answer_of e s).refusal ≡ 0
legal_answered Invalid s h = absurd (false≢true h)
legal_answered Ignore s h = refl
legal_answered (Move next) s h = refl
legal_answered (Forget next) s h = refl
legal_answered (Reply m) s h = refl

pub illegal_invalid : (e : Entry) → legal e ≡ false → Invalid ≡ e
illegal_invalid Invalid h = refl
illegal_invalid Ignore h = absurd (true≢false h)
illegal_invalid (Move next) h = absurd (true≢false h)
illegal_invalid (Forget next) h = absurd (true≢false h)
illegal_invalid (Reply m) h = absurd (true≢false h)
