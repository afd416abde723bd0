-- What is kept while a text is read: after n good lines the kept bytes begin with the records of their events, and what the whole
-- text gives is those events in front of what the text from the next line on gives.
-- Assumes nothing.
use Rattle.std.proofs.Common.{◌==◌, eqb-true, true, false, ℕ, suc, ◌+◌, ◌*◌, ◌<◌, ◌≤◌, arith, add-one, ◌≡◌, refl, sym, ◌∙◌, ap, List, [], ◌∷◌, ◌++◌, append-nil, length, take, drop, length-append, length-drop, take_at, lt-ltb, le-ltb}
use Rattle.std.proofs.lemmas.List.{nil_from_length}
use Rattle.records.specs.Records.{placed, flat, event_bytes}
use Rattle.records.specs.Laws.{placed_next, flat_append, length_flat}
use Rattle.records.specs.declared.Event.{Event}
use Rattle.line.specs.Grammar.{newline, line_most, index_of, line_of, Good, Refused}
use Rattle.line.specs.Places.{index_take}
use Rattle.line.specs.Laws.{line_newline}
use Rattle.journal.specs.Journal.{Reading, lines, has_room, roomed, Outcome, events, refused, infront, lines_from, events_in, reading_of, outcome, reading, area_after, Owed}
use Rattle.journal.specs.Laws.{infront_none, infront_more, roomed_good, has_room_lem, first_refused, first_good}

length_records : (es : List Event) → length (flat event_bytes es) ≡ 4 * length es
length_records es = length_flat event_bytes 4 (λ e. refl) es

pub record Kept (text : List ℕ) (area : ℕ) (kept₀ kept rest : List ℕ) (n : ℕ) : Type 0 where
  pub so_far : List Event
  pub count : length so_far ≡ n
  pub bytes : kept ≡ flat event_bytes so_far ++ drop (4 * n) kept₀
  pub left : lines_from area 0 (lines text) ≡ infront so_far (lines_from area n (lines rest))

-- what `is_empty` says of a text
pub some_left : (rest : List ℕ) → false ≡ (length rest == 0) → 0 < length rest
some_left [] h = absurd (cc)
some_left (x ∷ rest) h = omega arith

pub none_left : (rest : List ℕ) → true ≡ (length rest == 0) → length rest ≡ 0
none_left rest h = eqb-true (length rest) 0 (sym h)

pub kept_none : (text : List ℕ) (area : ℕ) (kept : List ℕ) → Kept text area kept kept text 0
kept_none text area kept = record { so_far = []; count = refl; bytes = refl; left = sym (infront_none (lines_from area 0 (lines text))) }

module _ (text : List ℕ) (area : ℕ) (kept₀ kept rest : List ℕ) (n : ℕ) (k : Kept text area kept₀ kept rest n) where
  pub kept_length : 4 * n ≤ length kept₀ → length kept ≡ length kept₀
  kept_length h = rw (k.bytes, length-append, length_records k.so_far, k.count, length-drop (4 * n) kept₀) (omega arith)

  module _ (more : 0 < length rest) where
    pub kept_refused : (r : ℕ) → roomed (has_room area n) (line_of rest) ≡ Refused r → lines_from area 0 (lines text) ≡ refused r (n + 1)
    kept_refused r q = k.left ∙ rw (first_refused area n rest more r q, add-one)

    module _ (e : Event) (said : roomed (has_room area n) (line_of rest) ≡ Good e) where
      pub room_left : (n < 4096) × (4 * n + 4 ≤ area)
      room_left = has_room_lem area n (roomed_good (has_room area n) (line_of rest) e said).0

      pub line_within : (m : ℕ) → m ≡ index_of newline (take line_most rest) → (m ≡ index_of newline rest) × (m < length rest)
      line_within m q =
          let g = line_newline rest e (roomed_good (has_room area n) (line_of rest) e said).1 in
          let p = index_take newline line_most rest in
          (omega arith, omega arith)

      pub kept_good :
          (m : ℕ) → m ≡ index_of newline (take line_most rest) → (kept' : List ℕ) → kept' ≡ placed kept (4 * n) (event_bytes e)
          → Kept text area kept₀ kept' (drop (m + 1) rest) (n + 1)
      kept_good m q kept' k' =
          let es = k.so_far in
          let f : length (flat event_bytes es) ≡ 4 * n = length_records es ∙ ap (λ (x : ℕ). 4 * x) k.count in
          let s : 4 * (n + 1) ≡ 4 * n + 4 = omega arith in
          let d : suc (index_of newline rest) ≡ m + 1 = omega (arith, (line_within m q).0) in
          record {
            so_far = es ++ (e ∷ []);
            count = length-append es (e ∷ []) ∙ omega (arith, k.count);
            bytes = rw (k', k.bytes, placed_next (flat event_bytes es) kept₀ (event_bytes e) (4 * n) f, flat_append event_bytes es (e ∷ []), s);
            left = k.left ∙ ap (infront es) (first_good area n rest more e said)
                ∙ infront_more es (e ∷ []) (lines_from area (suc n) (lines (drop (suc (index_of newline rest)) rest)))
                ∙ rw (d, add-one n);
          }

module _ (whole : Outcome) (kept : List ℕ) (area : ℕ) where
  pub owed_refused : (number line : ℕ) → whole ≡ refused number line → Owed whole (record { refusal = number; line = line; count = 0 }) kept area
  owed_refused number line w = rw w (record { value = refl; records = refl; fits = omega arith; within = omega arith })

  pub owed_good :
      (text kept₀ rest : List ℕ) (n : ℕ) → whole ≡ lines_from area 0 (lines text) → Kept text area kept₀ kept rest n → length rest ≡ 0
      → 4 * n ≤ area → 4 * n ≤ length kept → (m : ℕ) → m ≡ n → Owed whole (record { refusal = 0; line = 0; count = m }) kept area
  owed_good text kept₀ rest n v k z h g m e =
      let es = k.so_far in
      let w : whole ≡ events es = v ∙ k.left ∙ rw (nil_from_length rest z, append-nil) in
      let f : length (flat event_bytes es) ≡ 4 * n = length_records es ∙ ap (λ (x : ℕ). 4 * x) k.count in
      let c : take (4 * n) kept ≡ flat event_bytes es = rw k.bytes (take_at (flat event_bytes es) (drop (4 * n) kept₀) (4 * n) f) in
      rw e (record { value = rw (w, k.count); records = rw w c; fits = h; within = g })

count_of : (o : Outcome) → (reading_of o).count ≡ length (events_in o)
count_of (events es) = refl
count_of (refused r n) = refl

-- a text that is too long
module _ (text area : List ℕ) where
  pub read_none : 65536 < length text → (record { refusal = 26; line = 0; count = 0 } ≡ reading text (length area)) × (area ≡ area_after text area)
  unfolding reading area_after outcome
  read_none h = let t = lt-ltb 65536 (length text) h in (rw t, rw t)

  -- any other: what is owed for its lines, copied out
  module _ (h : length text ≤ 65536) (kept : List ℕ) (r : Reading) (owed : Owed (lines_from (length area) 0 (lines text)) r kept (length area)) where
    whole_is : outcome text (length area) ≡ lines_from (length area) 0 (lines text)
    unfolding outcome
    whole_is = rw (le-ltb 65536 (length text) h)

    pub read_value : r ≡ reading text (length area)
    unfolding reading
    read_value = owed.value ∙ ap reading_of (sym whole_is)

    pub copied_out : (part : List ℕ) → part ≡ take (4 * r.count) kept → part ++ drop (4 * r.count) area ≡ area_after text area
    unfolding area_after
    copied_out part p =
        let m : r.count ≡ length (events_in (lines_from (length area) 0 (lines text))) = ap (λ (x : Reading). x.count) owed.value ∙ count_of (lines_from (length area) 0 (lines text)) in
        rw (p, owed.records, whole_is, m)
