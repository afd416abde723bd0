-- What the contract of `journal::read` comes to: one answer, a count of lines, nothing written on a refusal, and line after line.
-- Assumes nothing.
use Rattle.std.specs.Prelude.{ℕ, suc, ◌+◌, ◌*◌, ◌<◌, ◌≤◌, ◌≡◌, refl, Bool, true, false, cond, List, [], ◌∷◌, ◌++◌, eqb, ltb, length, drop}
use Rattle.std.proofs.Common.{arith, sym, ◌∙◌, ap, length-append}
use Rattle.std.proofs.lemmas.List.{drop-append-le}
use Rattle.records.specs.Records.{flat, event_bytes}
use Rattle.records.specs.declared.Event.{Event}
use Rattle.line.specs.Grammar.{newline, index_of, line_of, Line, Good, Refused}
use Rattle.line.specs.Places.{index_append}
use Rattle.line.specs.Laws.{line_newline, line_append, Judged, line_judged}
use Rattle.journal.specs.Journal.{Reading, lines, has_room, roomed, Outcome, events, refused, infront, on_line, lines_from, outcome, events_in, reading_of, reading, area_after}
use Rattle.journal.specs.Laws.{infront_none, infront_more, roomed_good, first_said, first_good}

-- any two answers that the contract allows are the same, numbers and bytes
pub one_answer :
    (text area : List ℕ) (r r' : Reading) (a a' : List ℕ)
    → r ≡ reading text (length area) → a ≡ area_after text area → r' ≡ reading text (length area) → a' ≡ area_after text area
    → (r ≡ r') × (a ≡ a')
one_answer text area r r' a a' p q p' q' = (p ∙ sym p', q ∙ sym q')

-- a line that gives events is good, and so are those after it
on_line_lem :
    (m : ℕ) (said : Line) (more : Outcome) (e : Event) (es : List Event) → on_line m said more ≡ events (e ∷ es) → (said ≡ Good e) × (more ≡ events es)
on_line_lem m (Good f) (events fs) e es h = (cc, cc)
on_line_lem m (Good f) (refused r n) e es h = absurd (let z : ◌≡◌ {A = ℕ} 0 1 = cc in omega arith)
on_line_lem m (Refused r) more e es h = absurd (let z : ◌≡◌ {A = ℕ} 0 1 = cc in omega arith)

on_none : (m : ℕ) (said : Line) (more : Outcome) → on_line m said more ≡ events [] → ⊥
on_none m (Good f) (events fs) h = let z : ◌≡◌ {A = ℕ} 0 1 = cc in omega arith
on_none m (Good f) (refused r n) h = let z : ◌≡◌ {A = ℕ} 0 1 = cc in omega arith
on_none m (Refused r) more h = let z : ◌≡◌ {A = ℕ} 0 1 = cc in omega arith

none_left : (area n : ℕ) (t : List ℕ) → lines_from area n (lines t) ≡ events [] → t ≡ []
none_left area n [] h = refl
none_left area n (x ∷ t) h =
    let more = lines_from area (suc n) (lines (drop (suc (index_of newline (x ∷ t))) (x ∷ t))) in
    absurd (on_none (suc n) (roomed (has_room area n) (line_of (x ∷ t))) more (sym (first_said area n (x ∷ t) (omega arith)) ∙ h))

first_event :
    (area n : ℕ) (t : List ℕ) (e : Event) (es : List Event) → lines_from area n (lines t) ≡ events (e ∷ es)
    → (roomed (has_room area n) (line_of t) ≡ Good e) × (lines_from area (suc n) (lines (drop (suc (index_of newline t)) t)) ≡ events es)
first_event area n [] e es h = absurd (let z : ◌≡◌ {A = ℕ} 0 1 = cc in omega arith)
first_event area n (x ∷ t) e es h = on_line_lem _ _ _ e es (sym (first_said area n (x ∷ t) (omega arith)) ∙ h)

first_line : (area n : ℕ) (t : List ℕ) (e : Event) → roomed (has_room area n) (line_of t) ≡ Good e → line_of t ≡ Good e
first_line area n t e h = (roomed_good (has_room area n) (line_of t) e h).1

-- how many newlines a text has
abbrev pub newlines : List ℕ → ℕ
newlines [] = 0
newlines (x ∷ t) = cond (eqb x newline) (suc (newlines t)) (newlines t)

newlines_step :
    (b : Bool) (x i : ℕ) (t : List ℕ) → (i < length t → newlines t ≡ suc (newlines (drop (suc i) t))) → cond b 0 (suc i) < suc (length t)
    → cond b (suc (newlines t)) (newlines t) ≡ suc (newlines (drop (suc (cond b 0 (suc i))) (x ∷ t)))
newlines_step true x i t f h = refl
newlines_step false x i t f h = f (omega arith)

newlines_first : (t : List ℕ) → index_of newline t < length t → newlines t ≡ suc (newlines (drop (suc (index_of newline t)) t))
newlines_first [] h = absurd (omega arith)
newlines_first (x ∷ t) h = newlines_step (eqb x newline) x (index_of newline t) t (newlines_first t) h

-- each line of a text that gives events gives one
pub line_each : (es : List Event) (area n : ℕ) (t : List ℕ) → lines_from area n (lines t) ≡ events es → length es ≡ newlines t
line_each [] area n t h = ap newlines (sym (none_left area n t h))
line_each (e ∷ es) area n t h =
    let f = first_event area n t e es h in
    ap suc (line_each es area (suc n) (drop (suc (index_of newline t)) t) f.1)
    ∙ sym (newlines_first t (line_newline t e (first_line area n t e f.0)).1)

-- good whole lines in front of a text: their events, and then the text's as it is read after them
pub lines_on :
    (es : List Event) (area n : ℕ) (t u : List ℕ) → lines_from area n (lines t) ≡ events es
    → lines_from area n (lines (t ++ u)) ≡ infront es (lines_from area (n + length es) (lines u))
lines_on [] area n t u h =
    let z : n + 0 ≡ n = omega arith in
    rw (none_left area n t h, z) (sym (infront_none (lines_from area n (lines u))))
lines_on (e ∷ es) area n t u h =
    let f = first_event area n t e es h in
    let w = line_newline t e (first_line area n t e f.0) in
    let i = index_of newline t in
    let at : index_of newline (t ++ u) ≡ i = index_append newline t u w.1 in
    let rest : drop (suc i) (t ++ u) ≡ drop (suc i) t ++ u = drop-append-le (suc i) t u w.1 in
    let said : roomed (has_room area n) (line_of (t ++ u)) ≡ Good e =
    rw (line_append t u e (first_line area n t e f.0)) (rw (first_line area n t e f.0) at f.0)
    in
    let z : suc n + length es ≡ n + suc (length es) = omega arith in
    first_good area n (t ++ u) (simp length-append (omega arith)) e said
    ∙ rw (at, rest, lines_on es area (suc n) (drop (suc i) t) u f.1, z) (infront_more (e ∷ []) es (lines_from area (n + suc (length es)) (lines u)))

-- a refusal has one of the numbers 21 to 26, so it is told from a good read
abbrev pub Numbered : Outcome → Type 0
Numbered (events es) = Unit {0}
Numbered (refused r n) = (21 ≤ r) × (r ≤ 26)

numbered_line : (m : ℕ) (b : Bool) (said : Line) (more : Outcome) → Judged said → Numbered more → Numbered (on_line m (roomed b said) more)
numbered_line m true (Good e) (events es) j k = tt
numbered_line m true (Good e) (refused r n) j k = k
numbered_line m true (Refused r) more j k = (omega arith, omega arith)
numbered_line m false (Good e) more j k = (omega arith, omega arith)
numbered_line m false (Refused r) more j k = (omega arith, omega arith)

numbered_lines : (area n : ℕ) (ls : List (List ℕ)) → Numbered (lines_from area n ls)
numbered_lines area n [] = tt
numbered_lines area n (l ∷ ls) = numbered_line (suc n) (has_room area n) (line_of l) (lines_from area (suc n) ls) (line_judged l) (numbered_lines area (suc n) ls)

numbered_text : (b : Bool) (o : Outcome) → Numbered o → Numbered (cond b (refused 26 0) o)
numbered_text true o k = (omega arith, omega arith)
numbered_text false o k = k

pub numbered : (text : List ℕ) (area : ℕ) → Numbered (outcome text area)
unfolding outcome
numbered text area = numbered_text (ltb 65536 (length text)) (lines_from area 0 (lines text)) (numbered_lines area 0 (lines text))

-- a good read counts the text's lines, and no other number
count_of : (b : Bool) (o : Outcome) (k : ℕ) → Numbered o → ((es : List Event) → o ≡ events es → length es ≡ k)
    → (reading_of (cond b (refused 26 0) o)).refusal ≡ 0 → (reading_of (cond b (refused 26 0) o)).count ≡ k
count_of true o k j f h = absurd (omega arith)
count_of false (events es) k j f h = f es refl
count_of false (refused r n) k j f h = absurd (omega arith)

pub good_count : (text : List ℕ) (area : ℕ) → (reading text area).refusal ≡ 0 → (reading text area).count ≡ newlines text
unfolding reading outcome
good_count text area h =
    count_of (ltb 65536 (length text)) (lines_from area 0 (lines text)) (newlines text) (numbered_lines area 0 (lines text))
    (λ es q. line_each es area 0 text q) h

-- a refusal writes nothing
nothing_of : (o : Outcome) (area : List ℕ) → ((reading_of o).refusal ≡ 0 → ⊥) → flat event_bytes (events_in o) ++ drop (4 * length (events_in o)) area ≡ area
nothing_of (events es) area h = absurd (h refl)
nothing_of (refused r n) area h = refl

pub refused_nothing : (text area : List ℕ) → ((reading text (length area)).refusal ≡ 0 → ⊥) → area_after text area ≡ area
unfolding reading area_after
refused_nothing text area h = nothing_of (outcome text (length area)) area h
