-- `formats::samples_of`: each sample so far is that of its two bytes.
use Rattle.std.proofs.Common.{◌≡◌, ◌<◌, ◌*◌, ℕ, pos, get_or, length}
use Rattle.formats.proofs.Bytes.{sample_at}
use Rattle.formats.proofs.samples_of.Given as goal

abbrev pub invariant-loop-i : goal.invariant-loop-i
invariant-loop-i l =
    (length l.samples ≡ l.i-end) × ((k : ℕ) → k < l.i → get_or l.samples k (pos 0) ≡ sample_at l.bytes (k * 2))
