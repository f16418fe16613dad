-- The answers of the float helpers for one word after the other, to be compared with the Rust's over all words.
use Rattle.std.specs.Prelude.{ℕ, ◌+◌, ◌%◌, ◌^◌, cond, List, ◌==◌, from_bits, to_bits, Float}
use Rattle.std.specs.Float.{binary32}
use Rattle.words.specs.Parts.{whole_part, whole_float, whole_i32_float}
use Rattle.utils.specs.Units.{a0_of, note_to_frequency, lut_pitch_ratio_high, lut_pitch_ratio_low}
use Rattle.utils.specs.Utils.{abs_of, fast_rsqrt_carmack}
use Rattle.utils.specs.Frames.{each_of}
use Rattle.sine_oscillator.specs.Sine.{sine_of, lut_sine}

-- A float's word.
abbrev word : Float → ℕ
word x = to_bits binary32 x

-- The rate of the frequencies.
abbrev pub rate : ℕ
rate = 48000

-- The answer of a helper, by its number, at a float.
unfoldable pub answer_at : ℕ → Float → ℕ
answer_at which x =
    cond (which == 0) (word x)
    (cond (which == 1) (whole_part x)
    (cond (which == 2) (word (whole_float x))
    (cond (which == 3) (word (whole_i32_float x))
    (cond (which == 4) (word (abs_of x))
    (cond (which == 5) (word (fast_rsqrt_carmack x))
    (cond (which == 6) (word (sine_of lut_sine x))
    (word (note_to_frequency lut_pitch_ratio_high lut_pitch_ratio_low x (a0_of rate)))))))))

-- The next word; after the last one the first.
abbrev pub next_word : ℕ → ℕ
next_word w = (w + 1) % 2 ^ 32

-- The answers for n words from the given one on.
abbrev pub answers_from : ℕ → ℕ → ℕ → List ℕ
answers_from which n from = each_of next_word (λ w. answer_at which (from_bits binary32 w)) n from
