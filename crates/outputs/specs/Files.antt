-- Document 01, "The program `retake`": the files that it writes.
use Rattle.std.specs.Prelude.{ℕ, List, [], ◌∷◌, map, Option, None, Some}
use Rattle.formats.specs.Formats.{low_first}
use Rattle.text.specs.Text.{bytes}
use Rattle.outputs.specs.declared.files.OutputFile.{OutputFile}

-- A file: its name, and what it holds.
pub record File : Type 0 where
  pub name : List ℕ
  pub bytes : List ℕ

-- A file of words, "low byte first".
abbrev pub words_file : List ℕ → List ℕ → File
words_file name words = record { name = name; bytes = low_first words }

-- "it writes `out.f32` and `aux.f32`"
unfoldable pub files_of : List ℕ → List ℕ → List File
files_of out aux = words_file (bytes "out.f32") out ∷ words_file (bytes "aux.f32") aux ∷ []

-- A file as the program has it, and the files that it hands over, if it writes any.
abbrev pub file_in : {n : ℕ} → OutputFile n → File
file_in f = record { name = f.name.now; bytes = f.bytes.items }

abbrev pub files_in : {n : ℕ} → Option (List (OutputFile n)) → List File
files_in None = []
files_in (Some files) = map file_in files
