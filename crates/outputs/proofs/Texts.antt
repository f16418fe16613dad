-- The lines that the program prints are text: each of their bytes is ASCII, so they are UTF-8.
use Rattle.std.proofs.Common.{rules, arith, ℕ, zero, suc, ◌/◌, ◌%◌, ◌<◌, false, List, [], ◌∷◌, decimal, IsAscii, IsUtf8, Result, Ok, Err}
use Rattle.std.proofs.lemmas.Str.{IsUtf8-from_ascii, IsUtf8-append, IsAscii-append}
use Rattle.std.proofs.lemmas.Str.Ascii.{IsAscii-nil}
use Rattle.std.specs.Fmt.{digits, digits_onto, digit_glyph}
use Rattle.text.specs.Text.{bytes}
use Rattle.rows.specs.declared.Report.{Report}
use Rattle.score.specs.declared.refusal.Refusal.{Refusal}
use Rattle.score.specs.Numbers.{number_of, place_of}
use Rattle.outputs.specs.Lines.{number, heading, counts_line, refused_line, edit_line}

-- ---- a number of any size

digits_ascii : (k n : ℕ) (behind : List ℕ) → IsAscii behind → IsAscii (digits_onto k 10 false n behind)
digits_ascii zero n behind h = h
digits_ascii (suc k) n behind h = grind (arith, digits_ascii k (n / 10) (digit_glyph false (n % 10) ∷ behind))

number_text : (n end : ℕ) → end < 128 → IsUtf8 (number n end)
unfolding digits
number_text n end h = IsUtf8-from_ascii (number n end) (IsAscii-append (decimal n) (end ∷ []) (digits_ascii 64 n [] IsAscii-nil) (search rules))

-- ---- the lines

pub heading_text : IsUtf8 heading
heading_text = search rules

counts_text : (row rendered held : ℕ) → IsUtf8 (counts_line row rendered held)
unfolding counts_line
counts_text row rendered held = IsUtf8-append _ _ (number_text row _ (omega arith))
    (IsUtf8-append _ _ (number_text rendered _ (omega arith)) (number_text held _ (omega arith)))

pub refused_text : (n place : ℕ) → IsUtf8 (refused_line n place)
unfolding refused_line
refused_text n place = IsUtf8-append (bytes "refused ") _ (search rules)
    (IsUtf8-append _ _ (number_text n _ (omega arith)) (number_text place _ (omega arith)))

pub edit_text : (row : ℕ) (answer : Result Report Refusal) → IsUtf8 (edit_line row answer)
unfolding edit_line
edit_text row (Ok report) = counts_text row report.rows report.holds.held
edit_text row (Err r) = refused_text (number_of r) (place_of r)
