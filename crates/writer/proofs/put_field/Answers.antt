-- `put_field` puts a word, and a byte behind it.
use Rattle.std.proofs.Common.{ap, ◌∙◌, List, [], ◌∷◌, ◌++◌, ℕ, rules}
use Rattle.text.specs.Text.{word_digits}
use Rattle.writer.proofs.Lines.{then_put}
use Rattle.writer.proofs.put_field.Goals as goal

pub returns : goal.returns
returns c =
    let put = c.put_word in
    then_put word_digits c.args.text.now put.new.text c.args.after c.requires (search rules)
    ∙ ap (λ (z : List ℕ). z ++ c.args.after ∷ []) put.ensures
