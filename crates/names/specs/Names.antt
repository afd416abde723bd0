-- The words of a journal, in 01's spelling and order: one list for the messages and one for the ways. A reader of names looks
-- a field up in them, and a writer takes a name out of them.
-- Assumes nothing.
use Rattle.std.specs.Prelude.{ℕ, zero, suc, Bool, true, false, ◌&&◌, cond, List, [], ◌∷◌, eqb, get_or}
use Prim.Native.Char.{code}
use Prim.Native.String.{String, [] as []ˢ, ◌∷◌ as ◌∷ˢ◌}

-- the bytes of a text of ASCII characters
abbrev pub bytes : String → List ℕ
bytes []ˢ = []
bytes (c ∷ˢ s) = code c ∷ bytes s

-- message 1 stands first
abbrev pub message_names : List (List ℕ)
message_names =
    bytes "Cancel" ∷ bytes "Complete" ∷ bytes "Close" ∷ bytes "Compensate" ∷ bytes "Failed" ∷ bytes "Exited" ∷ bytes "NotCompleted"
    ∷ bytes "Exit" ∷ bytes "Completed" ∷ bytes "Fail" ∷ bytes "CannotComplete" ∷ bytes "Canceled" ∷ bytes "Closed" ∷ bytes "Compensated" ∷ []

-- way 0 stands first
abbrev pub way_names : List (List ℕ)
way_names = bytes "got" ∷ bytes "sent" ∷ []

-- the name of a message, of a way; no bytes where there is none
abbrev pub name_of : ℕ → List ℕ
name_of zero = []
name_of (suc k) = get_or message_names k []

abbrev pub way_name : ℕ → List ℕ
way_name k = get_or way_names k []

-- whether two lists are the same, byte by byte
abbrev pub same : List ℕ → List ℕ → Bool
same [] [] = true
same [] (y ∷ m) = false
same (x ∷ l) [] = false
same (x ∷ l) (y ∷ m) = eqb x y && same l m

-- k where l is the name n, and else what the names after it give
unfoldable pub named : List ℕ → List ℕ → ℕ → ℕ → ℕ
named l n k others = cond (same l n) k others

-- the place among the names, counted from k, of the one that l is; `none` where it is none of them
abbrev pub look : ℕ → List ℕ → List (List ℕ) → ℕ → ℕ
look none l [] k = none
look none l (n ∷ ns) k = named l n k (look none l ns (suc k))

-- the message that l names, 1 to 14; 0 where it names none
abbrev pub message_named : List ℕ → ℕ
message_named l = look 0 l message_names 1

-- the way that l names: 0 got, 1 sent, 2 neither
abbrev pub way_named : List ℕ → ℕ
way_named l = look 2 l way_names 0
