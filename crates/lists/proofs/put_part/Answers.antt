-- `put_part` puts words into a part's place, by `put_is`.
use Rattle.lists.proofs.Copying.{put_is}
use Rattle.lists.proofs.put_part.Goals as goal

pub returns : goal.returns
returns g c =
    put_is c.args.words.now _ _ _ _ c.requires c.copy_from_slice.ensures.after c.copy_from_slice.ensures.len
