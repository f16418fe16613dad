-- What the program may count on of the bytes that its three files were read into.
use Rattle.std.specs.Prelude.{ℕ, ◌≤◌, ◌<◌, List, length}

-- A file was read into a buffer, so many bytes of it, with room for one more than the most that is taken: a longer file is noticed.
pub record ReadInto (buffer : List ℕ) (count most : ℕ) : Type 0 where
  pub within : count ≤ length buffer
  pub room : most < length buffer
