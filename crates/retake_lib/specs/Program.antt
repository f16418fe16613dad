-- Document 01, "The program `retake`": what it prints and which files it writes, as functions of the three files that it reads.
use Rattle.std.specs.Prelude.{ℕ, zero, suc, ◌*◌, ◌≡◌, List, [], ◌∷◌, ◌++◌, ℤ, get_or, length, take, drop, Result, Ok, Err}
use Rattle.formats.specs.Formats.{samples_of}
use Rattle.score.specs.Rows.{row_words}
use Rattle.reader.specs.Reading.{edit_words}
use Rattle.score.specs.declared.refusal.Refusal.{Refusal}
use Rattle.score.specs.Numbers.{number_of, place_of}
use Rattle.voice.specs.Voice.{kept_count}
use Rattle.rows.specs.declared.Settings.{Settings}
use Rattle.rows.specs.Rows.{Setup, setup, Take, lent}
use Rattle.refusals.specs.declared.Call.{Call}
use Rattle.refusals.specs.declared.Call.TheVariants.{Render, Edit}
use Rattle.refusals.specs.Calls.{position}
use Rattle.retakes.specs.Retakes.{take_of, Reel, reel, called, next, after, fresh_of, expected}
use Rattle.inputs.specs.declared.Inputs.{Inputs}
use Rattle.inputs.specs.Inputs.{zeros, inputs_of}
use Rattle.outputs.specs.Lines.{heading, refused_line, edit_line}
use Rattle.outputs.specs.Files.{File, files_of, files_in}
use Rattle.retake_lib.specs.declared.Written.{Written}

-- ---- Edits.

-- An edit's six words: the row, then the row's five.
abbrev pub edit_from : List ℕ → Call
edit_from w = Edit (get_or w 0 0) (get_or w 1 0 ∷ get_or w 2 0 ∷ get_or w 3 0 ∷ get_or w 4 0 ∷ get_or w 5 0 ∷ [])

-- So many edits.
unfoldable pub edits_from : ℕ → List ℕ → List Call
edits_from zero words = []
edits_from (suc n) words = edit_from words ∷ edits_from n (drop edit_words words)

-- ---- What the program does.

-- "Instrument 0, 48,000 Hz, 24 frames"
abbrev pub instrument : ℕ
instrument = 0

abbrev pub rate : ℕ
rate = 48000

abbrev pub frames : ℕ
frames = 24

abbrev pub settings : Settings
settings = record { instrument = instrument; rate = rate; frames = frames }

-- These with a bank's samples, and no map.
abbrev pub setup_with : List ℤ → Setup
setup_with bank = setup settings bank []

-- The bank's bytes: "i16, low byte first".
abbrev pub setup_of : List ℕ → Setup
setup_of bank = setup_with (samples_of bank)

-- The take of n rows before it is rendered.
abbrev pub blank : ℕ → Take
blank n = lent (zeros (n * frames)) (zeros (n * frames)) (zeros (n * kept_count))

-- The lines of edits, each of which is handed what the call before it left: "A refused edit prints its line in its turn and the next edit follows."
unfoldable pub edit_lines : Setup → Reel → List Call → List ℕ
edit_lines s o [] = []
edit_lines s o (e ∷ es) = edit_line (position e) (called s o e).answer ++ edit_lines s (next s o e) es

-- What is printed, and the files that are written.
pub record Output : Type 0 where
  pub printed : List ℕ
  pub files : List File

-- The same by its two parts.
abbrev pub output : List ℕ → List File → Output
output printed files = record { printed = printed; files = files }

-- "After a refusal of these three, nothing more is printed or written."
abbrev pub turned : Refusal → Output
turned r = record { printed = refused_line (number_of r) (place_of r); files = [] }

-- A score of n rows rendered whole into a take, then edit after edit. "After the last edit it writes `out.f32` and `aux.f32`".
unfoldable pub played : Setup → ℕ → List ℕ → Take → List Call → Output
played s n rows t es =
    let o = next s (reel n rows t) Render in
    let t' = (after s o es).left in
    record { printed = heading ++ edit_lines s o es; files = files_of t'.out t'.aux }

-- By what the texts and the bank gave.
unfoldable pub output_of : Result Inputs Refusal → List ℕ → Output
output_of (Err r) bank = turned r
output_of (Ok given) bank =
    played (setup_of bank) given.count (take (given.count * row_words) given.rows) (blank given.count) (edits_from given.edit_count given.edits)

-- The program, by the bytes of `score.txt`, `edits.txt` and `bank.bin`.
unfoldable pub program : List ℕ → List ℕ → List ℕ → Output
program score edits bank = output_of (inputs_of score edits (length bank)) bank

-- What the code hands over, as an output.
abbrev pub output_in : Written → Output
output_in w = record { printed = w.printed.items; files = files_in w.files }

-- Demand 3 as far as the files: they hold the fresh rendering of the score with each accepted edit's row put in.
abbrev pub FilesFresh : Type 0
FilesFresh =
    (score edits bank : List ℕ) (given : Inputs) → inputs_of score edits (length bank) ≡ Ok given
    → let s = setup_of bank in
    let o = reel given.count (take (given.count * row_words) given.rows) (blank given.count) in
    let last = take_of (fresh_of s (expected s o (Render ∷ edits_from given.edit_count given.edits))) in
    (program score edits bank).files ≡ files_of last.out last.aux
