-- Document 01, "Calls and their numbers", and document 02's changes: what the calls over a score and a take refuse, in the table's order.
use Rattle.std.specs.Prelude.{ℕ, ◌+◌, ◌*◌, List, Bool, false, cond, not, ◌||◌, eqb, ltb, length, Err}
use Rattle.std.specs.Result.{result_and}
use Rattle.utils.specs.Rendered.{most_frames}
use Rattle.oscillator.specs.Bank.{bank_length}
use Rattle.terrain.specs.Heights.{map_length}
use Rattle.voice.specs.Voice.{map_instrument, oscillator_instrument, kept_count}
use Rattle.score.specs.Rows.{row_words, wrong_rows}
use Rattle.score.specs.Limits.{limit_refusal}
use Rattle.score.specs.Numbers.{Tested, accepted}
use Rattle.score.specs.declared.refusal.Refusal.TheVariants as refusal
use Rattle.rows.specs.Rows.{Setup, Take}
use Rattle.refusals.specs.declared.Call.{Call}
use Rattle.refusals.specs.declared.Call.TheVariants.{Render, Edit, Insert, Remove}
use Rattle.refusals.specs.Calls.{count_after, rows_after, position, least_count, largest_count}

-- 1: "not 0 wavetable, 1 terrain, 2 terrain with map"; "Number 1 now means above 3"
abbrev pub wrong_instrument : ℕ → Bool
wrong_instrument instrument = ltb oscillator_instrument instrument

-- 2: "whole number of Hz outside 32,000 to 192,000"
abbrev pub lowest_rate : ℕ
lowest_rate = 32000

abbrev pub highest_rate : ℕ
highest_rate = 192000

abbrev pub wrong_rate : ℕ → Bool
wrong_rate rate = ltb rate lowest_rate || ltb highest_rate rate

-- 3: "frames 0 or above 128"
abbrev pub wrong_block : ℕ → Bool
wrong_block frames = eqb frames 0 || ltb most_frames frames

-- 4: "length not 25,344"
abbrev pub wrong_bank : ℕ → Bool
wrong_bank bank = not (eqb bank bank_length)

-- 5: "length not 4,096 for 2, not 0 for 0 and 1"; "and 5 wants length 0 here", on instrument 3
abbrev pub map_length_of : ℕ → ℕ
map_length_of instrument = cond (eqb instrument map_instrument) map_length 0

abbrev pub wrong_map : ℕ → ℕ → Bool
wrong_map instrument map = not (eqb map (map_length_of instrument))

-- 6 is score · Rows · `wrong_rows`, which the writer tests too.

-- 7: "now means too short instead of unequal": "out or aux not rows times frames, or kept not 13 times rows"
abbrev pub short_take : ℕ → ℕ → ℕ → ℕ → ℕ → Bool
short_take n frames out aux kept = ltb out (n * frames) || (ltb aux (n * frames) || ltb kept (n * kept_count))

-- 8: "edited row not below the row count"; "An insertion's position may equal the count; a higher one gives 8."
unfoldable pub wrong_position : ℕ → Call → Bool
wrong_position n Render = false
wrong_position n (Edit k row) = not (ltb k n)
wrong_position n (Insert p row) = ltb n p
wrong_position n (Remove p) = not (ltb p n)

-- 13: "full: an insertion with no spare place in some buffer", a place for one row more
abbrev pub no_spare : ℕ → ℕ → ℕ → ℕ → ℕ → ℕ → Bool
no_spare n frames rows out aux kept = ltb rows ((n + 1) * row_words) || short_take (n + 1) frames out aux kept

unfoldable pub full : Setup → ℕ → List ℕ → Take → Call → Bool
full s n rows t Render = false
full s n rows t (Edit k row) = false
full s n rows t (Insert p row) = no_spare n s.frames (length rows) (length t.out) (length t.aux) (length t.kept)
full s n rows t (Remove p) = false

-- ---- The table, in its order: 1 to 8, 13, 9.

-- The first of 1 to 5 that holds.
unfoldable pub settings_refusal : Setup → Tested
settings_refusal s =
    cond (wrong_instrument s.instrument) (Err refusal.Instrument)
    (cond (wrong_rate s.rate) (Err refusal.Rate)
    (cond (wrong_block s.frames) (Err refusal.Block)
    (cond (wrong_bank (length s.bank)) (Err refusal.Bank)
    (cond (wrong_map s.instrument (length s.map)) (Err refusal.Map) accepted))))

-- The first of 6 and 7 that holds, for a call on so many rows.
unfoldable pub lengths_refusal : Setup → ℕ → List ℕ → Take → Call → Tested
lengths_refusal s n rows t c =
    cond (wrong_rows (least_count c) (largest_count c) n (length rows)) (Err refusal.Rows)
    (cond (short_take n s.frames (length t.out) (length t.aux) (length t.kept)) (Err refusal.Take) accepted)

-- 8, with the position as its place; then 13, "tested after 8"; then 9, which "reads the resulting score".
unfoldable pub score_refusal : Setup → ℕ → List ℕ → Take → Call → Tested
score_refusal s n rows t c =
    cond (wrong_position n c) (Err (refusal.Position (position c)))
    (cond (full s n rows t c) (Err refusal.Full)
    (limit_refusal (count_after n c) (rows_after n rows c)))

-- What a call refuses, handed a count of n: the first refusal of these tests.
unfoldable pub refusal_of : Setup → ℕ → List ℕ → Take → Call → Tested
refusal_of s n rows t c = result_and (settings_refusal s) (result_and (lengths_refusal s n rows t c) (score_refusal s n rows t c))
