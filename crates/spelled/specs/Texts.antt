-- A text is read as events exactly where it is their spellings, one after the other, and they fit: no other text is a journal.
-- The argument: line by line. The first line of a spelled text is the first event's spelling and leaves the others (`good_line`,
-- `rest_line`); the first line of a text that gives events is the first one's spelling (`only_line`).
-- Assumes nothing.
use Rattle.std.specs.Prelude.{ℕ, suc, ◌+◌, ◌*◌, ◌≤◌, ◌<◌, ◌≡◌, refl, Bool, true, false, cond, List, [], ◌∷◌, ◌++◌, ltb, length, drop}
use Rattle.std.proofs.Common.{arith, sym, ◌∙◌, ap, length-append, take-append-drop, le-ltb, ltb-false}
use Rattle.records.specs.Records.{flat}
use Rattle.records.specs.declared.Event.{Event}
use Rattle.line.specs.Grammar.{newline, index_of, line_of, Line, Good, Refused}
use Rattle.line.specs.Laws.{Sound}
use Rattle.journal.specs.Journal.{lines, has_room, roomed, Outcome, events, refused, infront, on_line, lines_from, outcome}
use Rattle.journal.specs.Laws.{roomed_good, has_room_lem, room_left, first_said, first_good}
use Rattle.spelled.specs.Spelled.{spelled, spelled_some, good_line, rest_line, only_line}

-- each event is one that a line can say
abbrev pub AllSound : List Event → Type 0
AllSound [] = Unit {0}
AllSound (e ∷ es) = Sound e × AllSound es

-- 01: a text of at most 65,536 bytes, of good lines, whose events have room in the area and are at most 4,096
pub record Journal (text : List ℕ) (area : ℕ) (es : List Event) : Type 0 where
  pub sound : AllSound es
  pub bytes : text ≡ flat spelled es
  pub short : length text ≤ 65536
  pub few : length es ≤ 4096
  pub room : 4 * length es ≤ area

-- spelled events that fit after n others are read as themselves
good_lines : (es : List Event) (area n : ℕ) → AllSound es → n + length es ≤ 4096 → 4 * (n + length es) ≤ area
    → lines_from area n (lines (flat spelled es)) ≡ events es
good_lines [] area n s p q = refl
good_lines (e ∷ es) area n s p q =
    let rest = flat spelled es in
    let room : has_room area n ≡ true = room_left area n (omega arith) (omega arith) in
    let said : roomed (has_room area n) (line_of (spelled e ++ rest)) ≡ Good e = (λ j. roomed (room j) (good_line e s.0 rest j)) in
    first_good area n (spelled e ++ rest) (omega (arith, length-append (spelled e) rest, spelled_some e)) e said
    ∙ ap (λ (t : List ℕ). infront (e ∷ []) (lines_from area (suc n) (lines t))) (rest_line e s.0 rest)
    ∙ ap (infront (e ∷ [])) (good_lines es area (suc n) s.1 (omega arith) (omega arith))

-- a line that gives events gives the first of them, and those after it the others
record First (said : Line) (more : Outcome) (es : List Event) : Type 0 where
  pub event : Event
  pub others : List Event
  pub all : es ≡ event ∷ others
  pub good : said ≡ Good event
  pub on : more ≡ events others

-- which is so of a line's answer ..
first_of : (m : ℕ) (said : Line) (more : Outcome) (es : List Event) → on_line m said more ≡ events es → First said more es
first_of m (Good e) (events fs) es h = record { event = e; others = fs; all = cc; good = refl; on = refl }
first_of m (Good e) (refused r n) es h = absurd (let z : ◌≡◌ {A = ℕ} 0 1 = cc in omega arith)
first_of m (Refused r) more es h = absurd (let z : ◌≡◌ {A = ℕ} 0 1 = cc in omega arith)

-- .. and hence of the first line of a text
first_line : (area n : ℕ) (t : List ℕ) (es : List Event) → 0 < length t → lines_from area n (lines t) ≡ events es
    → First (roomed (has_room area n) (line_of t)) (lines_from area (suc n) (lines (drop (suc (index_of newline t)) t))) es
first_line area n t es p h =
    first_of (suc n) (roomed (has_room area n) (line_of t)) (lines_from area (suc n) (lines (drop (suc (index_of newline t)) t))) es
    (sym (first_said area n t p) ∙ h)

-- lines that are read as events after n others are their spellings, and fit
record Lines (t : List ℕ) (area n : ℕ) (es : List Event) : Type 0 where
  pub sound : AllSound es
  pub bytes : t ≡ flat spelled es
  pub few : n + length es ≤ 4096
  pub room : 4 * (n + length es) ≤ area

-- .. line by line
only_lines : (es : List Event) (area n : ℕ) (t : List ℕ) → n ≤ 4096 → 4 * n ≤ area → lines_from area n (lines t) ≡ events es → Lines t area n es
only_lines [] area n [] p q h = record { sound = tt; bytes = refl; few = omega arith; room = omega arith }
only_lines (e ∷ es) area n [] p q h = absurd (let z : ◌≡◌ {A = ℕ} 0 1 = cc in omega arith)
only_lines [] area n (x ∷ t) p q h = absurd (omega (arith, ap length (first_line area n (x ∷ t) [] (omega arith) h).all))
only_lines (e ∷ es) area n (x ∷ t) p q h =
    let l = x ∷ t in
    let f = first_line area n l (e ∷ es) (omega arith) h in
    let same : (f.event ≡ e) × (f.others ≡ es) = (cc f.all, cc f.all) in
    let g = roomed_good (has_room area n) (line_of l) e (f.good ∙ ap Good same.0) in
    let r = has_room_lem area n g.0 in
    let o = only_line l e g.1 in
    let i = suc (index_of newline l) in
    let next = only_lines es area (suc n) (drop i l) (omega (arith, r.0)) (omega (arith, r.1)) (f.on ∙ ap events same.1) in
    record {
      sound = (o.0, next.sound);
      bytes = sym (take-append-drop i l) ∙ (λ j. o.1 j ++ next.bytes j);
      few = omega (arith, next.few);
      room = omega (arith, next.room);
    }

-- a text that is a journal of events is read as them ..
pub good_text : (text : List ℕ) (area : ℕ) (es : List Event) → Journal text area es → outcome text area ≡ events es
unfolding outcome
good_text text area es h =
    ap (λ (t : Bool). cond t (refused 26 0) (lines_from area 0 (lines text))) (le-ltb 65536 (length text) h.short)
    ∙ ap (λ (t : List ℕ). lines_from area 0 (lines t)) h.bytes
    ∙ good_lines es area 0 h.sound (omega (arith, h.few)) (omega (arith, h.room))

-- .. and a text that is read as events is a journal of them
pub only_text : (text : List ℕ) (area : ℕ) (es : List Event) → outcome text area ≡ events es → Journal text area es
unfolding outcome
only_text text area es = at (ltb 65536 (length text)) refl where
  at : (t : Bool) → ltb 65536 (length text) ≡ t → cond t (refused 26 0) (lines_from area 0 (lines text)) ≡ events es → Journal text area es
  at true q h = absurd (let z : ◌≡◌ {A = ℕ} 0 1 = cc in omega arith)
  at false q h =
      let o = only_lines es area 0 text (omega arith) (omega arith) h in
      record {
        sound = o.sound;
        bytes = o.bytes;
        short = ltb-false 65536 (length text) q;
        few = omega (arith, o.few);
        room = omega (arith, o.room);
      }
