-- Document 01, "The program `retake`": its example of a score and of edits, and what is "printed, for any full bank".
use Rattle.std.specs.Prelude.{ℕ, ◌≡◌, List, [], ◌∷◌, ◌++◌, length}
use Prim.Native.String.{String}
use Rattle.text.specs.Text.{bytes, lf}
use Rattle.inputs.specs.Inputs.{bytes_of_bank}
use Rattle.retake_lib.specs.Program.{program}

-- A text by its lines: "LF ends every line."
abbrev pub text : List String → List ℕ
text [] = []
text (line ∷ lines) = bytes line ++ lf ∷ text lines

-- score.txt
abbrev pub example_score : List ℕ
example_score =
    text
    ("timbre note morph harmonics restart"
    ∷ "00000000 42700000 00000000 00000000 00000001"
    ∷ "3f000000 42700000 00000000 00000000 00000000"
    ∷ "3f000000 42700000 00000000 00000000 00000001"
    ∷ [])

-- edits.txt
abbrev pub example_edits : List ℕ
example_edits =
    text
    ("row note timbre morph harmonics restart"
    ∷ "00000001 42700000 3f800000 00000000 00000000 00000000"
    ∷ "00000000 42700000 3f800000 00000000 00000000 00000001"
    ∷ "00000002 42700000 3f000000 00000000 00000000 00000001"
    ∷ [])

-- "printed, for any full bank"
abbrev pub example_printed : List ℕ
example_printed =
    text
    ("row rendered held"
    ∷ "1 1 0"
    ∷ "0 2 0"
    ∷ "2 0 0"
    ∷ [])

-- The claim. A full bank has 50,688 bytes, whatever they are.
abbrev pub ExamplePrinted : Type 0
ExamplePrinted = (bank : List ℕ) → length bank ≡ bytes_of_bank → (program example_score example_edits bank).printed ≡ example_printed
