-- `render_row` is the definition's row, put into the take: by the contracts of the calls that it makes and the law `row_done`.
use Rattle.std.proofs.Common.{refl, ◌∙◌, arith}
use Rattle.lists.proofs.Copying.{part_long, put_is}
use Rattle.runs.proofs.Making.{blocks, place_most, row_done}
use Rattle.runs.proofs.render_row.Goals as goal

pub overflow_mul-a : goal.overflow_mul-a
overflow_mul-a c = omega (arith, place_most _ _ _ _ c.requires.room)

pub overflow_add-e : goal.overflow_add-e
overflow_add-e c = omega (arith, place_most _ _ _ _ c.requires.room)

pub offset_bounds-take-a : goal.offset_bounds-take-a
offset_bounds-take-a c = omega (arith, place_most _ _ _ _ c.requires.room)

pub offset_bounds-take-a-2 : goal.offset_bounds-take-a-2
offset_bounds-take-a-2 c = omega (arith, place_most _ _ _ _ c.requires.room)

pub make_row-made-requires : goal.make_row-made-requires
make_row-made-requires c = record { lent = c.requires.lent; places = blocks _ _ _ _ c.requires.room }

pub returns-clause-done : goal.returns-clause-done
returns-clause-done c =
    let room = c.requires.room in
    let made = c.make_row-made in
    let out = made.new.out in
    let aux = made.new.aux in
    row_done _ _ _ _ _ _ _ _ out aux _ _ _ _ c.row_at-row.ensures c.words_before-before.ensures made.ensures room
    (put_is c.args.take.now.out.now _ _ out out room.out_room refl made.auto.out) (made.auto.out ∙ part_long _ _ _ room.out_room)
    (put_is c.args.take.now.aux.now _ _ aux aux room.aux_room refl made.auto.aux) (made.auto.aux ∙ part_long _ _ _ room.aux_room)
    c.keep-same.ensures.value c.keep-same.ensures.kept_after c.keep-same.auto.kept
