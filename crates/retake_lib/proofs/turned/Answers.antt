-- `retake_lib::turned` meets its contract: the refusal's line is printed whole (written_first).
use Rattle.std.proofs.Common.{◌∙◌, ap, List}
use Rattle.std.specs.Prelude.{ℕ, []}
use Rattle.formats.proofs.Writing.{written_first}
use Rattle.retake_lib.specs.Program.{output}
use Rattle.retake_lib.proofs.turned.Goals as goal

pub returns : goal.returns
returns c =
    let first = rw (c.number.ensures, c.place.ensures) at (written_first c.put_refusal-end.ensures.written) in
    let line = (rw c.new-printed.ensures at c.print.ensures.bytes) ∙ first in
    ap (λ (printed : List ℕ). output printed []) line
