-- `make_row` makes the row that its words and those before it give, by the law `makes`.
use Rattle.std.proofs.Common.{sym, ◌∙◌, arith}
use Rattle.runs.proofs.Making.{makes}
use Rattle.runs.proofs.make_row.Goals as goal

pub render-block-requires : goal.render-block-requires
render-block-requires c =
    let places = c.requires.places in
    record {
      lent = c.requires.lent;
      places = record { few_frames = omega (arith, places.frames_most, places.out_long); aux_long = places.aux_long ∙ sym places.out_long };
    }

pub returns : goal.returns
returns c =
    makes _ _ _ _ _ _ _ _ _ _ _ c.requires.places.out_long c.start.ensures c.parameters.ensures c.render-block.ensures c.kept_words-state.ensures
