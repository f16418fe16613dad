-- Document 01, "Score text", and document 02, "A tidy writer": lines, fields and words, over the bytes of a text, as they are read and written.
use Rattle.std.specs.Prelude.{ℕ, zero, suc, ◌+◌, ◌-◌, ◌*◌, ◌/◌, ◌%◌, Bool, true, not, ◌&&◌, ◌||◌, cond, List, [], ◌∷◌, ◌++◌, length, leb, ltb, eqb, Option, position}
use Rattle.std.specs.List.{slice_split, join_with_byte}
use Prim.Native.Char.{code}
use Prim.Native.String.{String, [] as end, ◌∷◌ as ◌then◌}
use Rattle.lists.specs.Lists.{same}

-- The bytes of a text of ASCII characters.
abbrev pub bytes : String → List ℕ
bytes end = []
bytes (c then s) = code c ∷ bytes s

-- ---- lines and fields

-- "LF (byte 10)"
abbrev pub lf : ℕ
lf = 10

-- "One space between"
abbrev pub space : ℕ
space = code " "

-- The pieces into which each byte `at` cuts a text: one more than there are such bytes, and any of them may be empty.
unfoldable pub split : ℕ → List ℕ → List (List ℕ)
split at text = slice_split (λ b. eqb b at) text

-- Pieces with the byte `at` between them, as `split` cuts them apart.
unfoldable pub joined : ℕ → List (List ℕ) → List ℕ
joined at pieces = join_with_byte at pieces

-- The fields of a line.
abbrev pub fields_of : List ℕ → List (List ℕ)
fields_of line = split space line

-- A line: the bytes up to an LF, or the bytes at the text's end that no LF ends.
pub data Line : Type 0 where
  ended unended : List ℕ → Line

-- What stands on a line.
abbrev pub contents : Line → List ℕ
contents (ended bs) = bs
contents (unended bs) = bs

-- "LF after every line": a piece that another follows is a line; the last one is what follows the last LF, and no line if that is nothing.
abbrev pub lined : List (List ℕ) → List Line
lined [] = []
lined ([] ∷ []) = []
lined ((b ∷ bs) ∷ []) = unended (b ∷ bs) ∷ []
lined (p ∷ q ∷ ps) = ended p ∷ lined (q ∷ ps)

-- The lines of a text.
unfoldable pub lines_of : List ℕ → List Line
lines_of text = lined (split lf text)

-- The first line: with no line at all, an empty one that no LF ends.
abbrev pub first_of : List Line → Line
first_of [] = unended []
first_of (line ∷ lines) = line

-- The lines after the first.
abbrev pub rest_of : List Line → List Line
rest_of [] = []
rest_of (line ∷ lines) = lines

-- A line of some fields as it is written: "One space between", "LF (byte 10) after every line"
abbrev pub line_of : List (List ℕ) → List ℕ
line_of fields = joined space fields ++ lf ∷ []

-- Lines as they are written, one after the other.
unfoldable pub text_of : List (List (List ℕ)) → List ℕ
text_of [] = []
text_of (fields ∷ lines) = line_of fields ++ text_of lines

-- ---- names

-- The column of a name: the number of the first field that is the name, if one is.
unfoldable pub column_of : List ℕ → List (List ℕ) → Option ℕ
column_of name fields = position (same name) fields

-- ---- words

-- A byte from one character to another.
abbrev pub between : ℕ → ℕ → ℕ → Bool
between low high b = leb low b && leb b high

-- "hexadecimal digits, either letter case"
unfoldable pub is_digit : ℕ → Bool
is_digit b = between (code "0") (code "9") b || (between (code "A") (code "F") b || between (code "a") (code "f") b)

-- The value of a digit.
unfoldable pub digit_of : ℕ → ℕ
digit_of b = cond (between (code "0") (code "9") b) (b - code "0") (cond (between (code "A") (code "F") b) (b - code "A" + 10) (b - code "a" + 10))

-- Each byte of a field is a digit.
unfoldable pub each_digit : List ℕ → Bool
each_digit [] = true
each_digit (b ∷ bs) = is_digit b && each_digit bs

-- "A word is 32 bits, written as eight hexadecimal digits"
abbrev pub word_digits : ℕ
word_digits = 8

unfoldable pub is_word : List ℕ → Bool
is_word field = eqb (length field) word_digits && each_digit field

-- A number and then some digits, the highest first.
unfoldable pub followed_by : ℕ → List ℕ → ℕ
followed_by number [] = number
followed_by number (b ∷ bs) = followed_by (number * 16 + digit_of b) bs

-- The word that a field writes.
unfoldable pub word_of : List ℕ → ℕ
word_of field = followed_by 0 field

-- Each of some fields is a word.
unfoldable pub each_word : List (List ℕ) → Bool
each_word [] = true
each_word (field ∷ fields) = is_word field && each_word fields

-- "lower-case digits": the digit of a value
unfoldable pub lower_digit : ℕ → ℕ
lower_digit value = cond (ltb value 10) (code "0" + value) (code "a" + (value - 10))

-- The last so many digits of a number, the highest first.
unfoldable pub lower_digits : ℕ → ℕ → List ℕ
lower_digits zero number = []
lower_digits (suc count) number = lower_digits count (number / 16) ++ lower_digit (number % 16) ∷ []

-- The field that writes a word.
unfoldable pub field_of : ℕ → List ℕ
field_of word = lower_digits word_digits word

-- No byte of a text is a capital letter.
unfoldable pub no_capital : List ℕ → Bool
no_capital [] = true
no_capital (b ∷ bs) = not (between (code "A") (code "Z") b) && no_capital bs
