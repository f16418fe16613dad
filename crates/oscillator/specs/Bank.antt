-- Document 01, "Wavetable voice": "Bank: 25,344 i16, lent, 192 waves of 132."
use Rattle.std.specs.Prelude.{ℕ, Float}
use Rattle.words.specs.Binary32.{of_count}

abbrev pub bank_length : ℕ
bank_length = 25344

abbrev pub waves : ℕ
waves = 192

-- TABLE_SIZE_FULL: a wave with its first four samples once more after its last.
abbrev pub wave_length : ℕ
wave_length = 132

-- TABLE_SIZE: a period of a wave; and as a float.
abbrev pub table_size : ℕ
table_size = 128

abbrev pub table_size_f : Float
table_size_f = of_count table_size

-- "tops: phase 127": the highest whole phase, in samples of a period.
abbrev pub phase_top : ℕ
phase_top = 127
