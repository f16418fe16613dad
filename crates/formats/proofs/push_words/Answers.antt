-- `formats::push_words`: the bytes so far are those of the words so far, behind the bytes that were there.
use Rattle.std.proofs.Common.{rules, append-nil}
use Rattle.formats.specs.Formats.{low_first}
use Rattle.formats.proofs.Bytes.{low_behind, low_room}
use Rattle.formats.proofs.push_words.Goals as goal

pub loop-word-init : goal.loop-word-init
unfolding low_first
loop-word-init g c = search (rules, append-nil)

pub loop-word-preserved : goal.loop-word-preserved
loop-word-preserved g c =
    let before = c.args.bytes.now.items in
    let words = c.args.words.now in
    let l = c.loop-word in
    let room = low_room before words _ l.word-index (search rules) l.invariant in
    let more = low_behind before words _ l.word-index 0 (search rules) l.invariant in
    search (rules, room, more)
