-- `words::whole_i32` meets its contract: the equation by fields is the whole part to i32 (of_float).
use Rattle.std.proofs.Common.{◌≡◌, sym, ◌∙◌, w32, to_z-of_z}
use Rattle.std.specs.Float.Ieee.{to_signed}
use Rattle.std.specs.Float.Ieee.Casts.{to_signed_in}
use Rattle.std.specs.Bool.{passes}
use Rattle.words.proofs.ByFields.{of_float}
use Rattle.words.proofs.whole_i32.Goals as goal

pub returns : goal.returns
returns c =
    let e : c.signed_whole.result ≡ to_signed 31 c.args.x =
    c.signed_whole.ensures
    ∙ rw (c.from.ensures.0, c.from.ensures.1.0, c.from.ensures.1.1, c.to_word.ensures)
    (sym (of_float c.args.x (passes _ c.well_formed.0.1)).to_i32) in
    to_z-of_z {w = w32} (record { sfits = rw e (to_signed_in 31 c.args.x) }) ∙ e
