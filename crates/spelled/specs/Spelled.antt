-- Journals are read by the outline's grammar and by no other: an event's spelling is read as that event (`good_line`), and a line
-- that is read as an event is its spelling (`only_line`).
-- The argument: no field has a space or a newline in it, so the grammar cuts a spelling into its own fields; and each field that the
-- grammar takes is the one spelling of what it says (`seat_only`, `way_only`, `message_only`).
-- Assumes nothing.
use Rattle.std.specs.Prelude.{ℕ, suc, ◌≤◌, ◌≡◌, refl, Bool, true, false, ◌&&◌, cond, List, [], ◌∷◌, ◌++◌, eqb, leb, length, take, drop}
use Rattle.std.proofs.Common.{arith, add-one, sym, ◌∙◌, ap, subst, append_assoc, length-append, leb-true}
use Rattle.std.proofs.lemmas.Bool.{eqb-false}
use Rattle.lemmas.specs.Bools.{both}
use Rattle.records.specs.declared.Event.{Event}
use Rattle.names.specs.Names.{message_named, way_named, name_of, way_name}
use Rattle.names.specs.Laws.{message_only, way_only}
use Rattle.line.specs.Grammar.{newline, space, line_most, index_of, has, before, after, value, is_seat, third_of, second_of, fields_of, line_of, Line, Good, Refused}
use Rattle.line.specs.Laws.{Sound, Judged, line_judged, line_newline}
use Rattle.text.specs.Text.{decimal}
use Rattle.text.specs.Laws.{decimal_most}
use Rattle.line.specs.Cuts.{free, after_free, cut, cut_front}
use Rattle.line.specs.Reads.{fields_from, last_two, event, fields_whole, fields_most, fields_line}
use Rattle.spelled.specs.Numbers.{seat_own, seat_only}

-- 01: seat in decimal, one space, `got` or `sent`, one space, a message name, newline
unfoldable pub spelled : Event → List ℕ
spelled e = decimal e.seat ++ space ∷ way_name e.way ++ space ∷ name_of e.message ++ newline ∷ []

-- the same without its newline
abbrev fields : Event → List ℕ
fields e = fields_from (decimal e.seat) e.way e.message

-- the spelling is those fields and the newline
spelled_fields : (e : Event) → spelled e ≡ fields e ++ newline ∷ []
unfolding spelled
spelled_fields e = ap (λ (l : List ℕ). l ++ newline ∷ []) (append_assoc (decimal e.seat) (space ∷ way_name e.way) (space ∷ name_of e.message))

-- so it has a byte
pub spelled_some : (e : Event) → 1 ≤ length (spelled e)
spelled_some e = omega (arith, ap length (spelled_fields e), length-append (fields e) (newline ∷ []))

module _ (e : Event) (s : Sound e) where
  -- its fields are those of a good line
  own_most : length (fields e) ≤ 25
  own_most = fields_most (decimal e.seat) e.way e.message (seat_own e.seat s.seat).0 (decimal_most e.seat) s.way s.some s.known

  own_whole : free newline (fields e) ≡ true
  own_whole = fields_whole (decimal e.seat) e.way e.message (seat_own e.seat s.seat).0 (decimal_most e.seat) s.way s.some s.known

  -- the longest line is 26 bytes with its newline
  pub spelled_most : length (spelled e) ≤ line_most
  spelled_most = omega (arith, ap length (spelled_fields e), length-append (fields e) (newline ∷ []), own_most)

  -- an event's spelling is read as that event, whatever follows it
  pub good_line : (rest : List ℕ) → line_of (spelled e ++ rest) ≡ Good e
  good_line rest =
      ap (λ (l : List ℕ). line_of (l ++ rest)) (spelled_fields e)
      ∙ ap line_of (append_assoc (fields e) (newline ∷ []) rest)
      ∙ fields_line (decimal e.seat) e.way e.message (seat_own e.seat s.seat).0 (decimal_most e.seat) s.way s.some s.known rest
      ∙ ap (λ (n : ℕ). Good (event n e.way e.message)) (seat_own e.seat s.seat).1

  -- and what follows it is the rest after that line
  pub rest_line : (rest : List ℕ) → drop (suc (index_of newline (spelled e ++ rest))) (spelled e ++ rest) ≡ rest
  rest_line rest =
      let t = fields e ++ newline ∷ rest in
      let same : spelled e ++ rest ≡ t = ap (λ (l : List ℕ). l ++ rest) (spelled_fields e) ∙ append_assoc (fields e) (newline ∷ []) rest in
      ap (λ (l : List ℕ). drop (suc (index_of newline l)) l) same
      ∙ ap (λ (k : ℕ). drop k t) (sym (add-one (index_of newline t)))
      ∙ after_free newline rest (fields e) own_whole

-- the test that a good line passed, where passing goes on and where it refuses
good_if : (t : Bool) (x : Line) (r : ℕ) (e : Event) → cond t x (Refused r) ≡ Good e → (t ≡ true) × (x ≡ Good e)
good_if true x r e h = (refl, h)
good_if false x r e h = absurd (let z : ◌≡◌ {A = ℕ} 0 1 = cc in omega arith)

good_else : (t : Bool) (r : ℕ) (x : Line) (e : Event) → cond t (Refused r) x ≡ Good e → (t ≡ false) × (x ≡ Good e)
good_else true r x e h = absurd (let z : ◌≡◌ {A = ℕ} 0 1 = cc in omega arith)
good_else false r x e h = (refl, h)

-- one line says one event
good_same : (a e : Event) → Good a ≡ Good e → a ≡ e
good_same a e h = cc

-- a last field that is read is the name of the event's message
only_name : (s w : ℕ) (l : List ℕ) (e : Event) → third_of s w l ≡ Good e → (s ≡ e.seat) × (w ≡ e.way) × (l ≡ name_of e.message)
unfolding third_of
only_name s w l e h =
    let g = good_else (eqb (message_named l) 0) 24 (Good (event s w (message_named l))) e h in
    let q : event s w (message_named l) ≡ e = good_same (event s w (message_named l)) e g.1 in (
      ap (λ (x : Event). x.seat) q,
      ap (λ (x : Event). x.way) q,
      (message_only l (message_named l) refl (eqb-false (message_named l) 0 g.0)).1 ∙ ap (λ (x : Event). name_of x.message) q,
    )

-- the two last fields are its way and its name
only_way : (s : ℕ) (l : List ℕ) (e : Event) → second_of s l ≡ Good e → (s ≡ e.seat) × (l ≡ last_two e.way e.message)
unfolding second_of
only_way s l e h =
    let w = way_named (before space l) in
    let g = good_if (has space l && leb w 1) (third_of s w (after space l)) 23 e h in
    let b = both (has space l) (leb w 1) g.0 in
    let n = only_name s w (after space l) e g.1 in
    let p : before space l ≡ way_name e.way =
    (way_only (before space l) w refl (λ q. omega (arith, leb-true w 1 b.1))).1 ∙ ap way_name n.1
    in
    (n.0, cut space l b.0 ∙ (λ j. p j ++ space ∷ n.2 j))

-- and all three its seat, its way and its name
only_seat : (l : List ℕ) (e : Event) → fields_of l ≡ Good e → l ≡ fields e
unfolding fields_of
only_seat l e h =
    let g = good_if (has space l && is_seat (before space l)) (second_of (value 0 (before space l)) (after space l)) 22 e h in
    let b = both (has space l) (is_seat (before space l)) g.0 in
    let n = only_way (value 0 (before space l)) (after space l) e g.1 in
    let p : before space l ≡ decimal e.seat = seat_only (before space l) b.1 ∙ ap decimal n.0 in
    cut space l b.0 ∙ (λ j. p j ++ space ∷ n.1 j)

-- a line that is read as an event is that event's spelling: no leading zero, no other number, no other word
pub only_line : (l : List ℕ) (e : Event) → line_of l ≡ Good e → Sound e × (take (suc (index_of newline l)) l ≡ spelled e)
unfolding line_of
only_line l e h =
    let g = good_if (has newline (take line_most l)) (fields_of (before newline l)) 21 e h in (
      subst Judged h (line_judged l),
      cut_front newline l (line_newline l e h).1
          ∙ ap (λ (f : List ℕ). f ++ newline ∷ []) (only_seat (before newline l) e g.1)
          ∙ sym (spelled_fields e),
    )

-- there is a line of 26 bytes: `65535 sent CannotComplete`
pub longest : length (spelled (event 65535 1 11)) ≡ line_most
unfolding spelled decimal
longest = refl
