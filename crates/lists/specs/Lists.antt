-- Lists of numbers as the calls are lent them, words or bytes: parts of one length, numbers put in the place of others, and parts moved by one place.
use Rattle.std.specs.Prelude.{ℕ, ◌+◌, ◌-◌, ◌*◌, List, [], ◌∷◌, ◌++◌, Bool, true, false, ◌&&◌, eqb, length, take, drop}

-- Part i of a list that is cut into parts of w.
abbrev pub part : ℕ → List ℕ → ℕ → List ℕ
part w l i = take w (drop (i * w) l)

-- Some numbers in the place of as many from a on.
abbrev pub put : List ℕ → ℕ → List ℕ → List ℕ
put l a new = take a l ++ (new ++ drop (length new) (drop a l))

-- Of n parts of w, those from part p on moved up by one place. No other place changes.
abbrev pub shift_up : ℕ → List ℕ → ℕ → ℕ → List ℕ
shift_up w l p n = put l ((p + 1) * w) (take ((n - p) * w) (drop (p * w) l))

-- Of n parts of w, those behind part p moved down by one place. No other place changes.
abbrev pub shift_down : ℕ → List ℕ → ℕ → ℕ → List ℕ
shift_down w l p n = put l (p * w) (take ((n - (p + 1)) * w) (drop ((p + 1) * w) l))

-- Whether two lists are the same numbers.
unfoldable pub same : List ℕ → List ℕ → Bool
same [] [] = true
same [] (y ∷ ys) = false
same (x ∷ xs) [] = false
same (x ∷ xs) (y ∷ ys) = eqb x y && same xs ys
