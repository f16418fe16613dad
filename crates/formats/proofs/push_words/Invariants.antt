-- `formats::push_words`: the bytes so far are those of the words so far, behind the bytes that were there.
use Rattle.std.proofs.Common.{◌≡◌, ◌++◌, take}
use Rattle.formats.specs.Formats.{low_first}
use Rattle.formats.proofs.push_words.Given as goal

abbrev pub invariant-loop-word : goal.invariant-loop-word
invariant-loop-word g l = l.bytes.items ≡ l.initial.bytes.items ++ low_first (take l.word-index l.words)
