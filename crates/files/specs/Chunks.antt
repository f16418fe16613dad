-- Document 01, "The program `retake`": files are read "4 KiB at a time".
use Rattle.std.specs.Prelude.{ℕ, ◌+◌, ◌≤◌, ◌≡◌, List, length, take, drop, Option}
use Rattle.std.specs.Io.KnownBytes.{Consumes}

-- "4 KiB"
abbrev pub chunk : ℕ
chunk = 4096

-- So many bytes came in from byte `at` on, at most a chunk, and a reader lost them, where it is known what it has left. The bytes before stay.
pub record CameIn (left left' : Option (List ℕ)) (before : List ℕ) (at : ℕ) (now : List ℕ) (got : ℕ) : Type 0 where
  pub within : at + got ≤ length now
  pub small : got ≤ chunk
  pub front : take at now ≡ take at before
  pub read : Consumes left left' (take got (drop at now))
