-- `formats::put_text`: what was copied into the part is put in its place (put_is).
use Rattle.std.proofs.Common.{rules, refl, length}
use Rattle.lists.proofs.Copying.{put_is}
use Rattle.formats.proofs.put_text.Goals as goal

pub returns : goal.returns
returns c =
    let a = c.args in
    record { put_in = put_is a.bytes.now a.at (length a.text.now) _ a.text.now (search rules) c.copy_from_slice.ensures.after (search rules); end_is = refl }
