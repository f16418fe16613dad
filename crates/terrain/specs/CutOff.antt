-- How far whole parts go in code.
use Rattle.std.specs.Prelude.{ℕ}

-- Whole parts of coordinates are cut off above every edge: that moves no place.
abbrev pub cut_off : ℕ
cut_off = 65535
