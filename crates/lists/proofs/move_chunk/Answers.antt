-- `move_chunk` puts the words in their new place: copied into a buffer, and from there.
use Rattle.lists.proofs.Moving.{chunk_moved}
use Rattle.lists.proofs.move_chunk.Goals as goal

pub returns : goal.returns
returns c =
    chunk_moved c.args.words.now c.args.buffer.now _ _ _ _ _ c.requires.1.0 c.requires.1.1 c.copy_from_slice.ensures.after c.copy_from_slice-2.ensures.after
