-- Document 01, "The program `retake`": a file is written beside the old one first.
use Rattle.std.specs.Prelude.{ℕ, List, ◌++◌, codes}

-- The file beside: `.new` behind the file's own name, which has 60 bytes at most.
abbrev pub beside : List ℕ → List ℕ
beside name = name ++ codes ".new"

abbrev pub most_beside : ℕ
most_beside = 64
