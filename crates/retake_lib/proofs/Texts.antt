-- What the program prints is text: each of its lines is (outputs · Texts).
use Rattle.std.proofs.Common.{◌≡◌, sym, subst, ℕ, List, [], ◌∷◌, Result, Ok, Err, IsUtf8}
use Rattle.std.proofs.lemmas.Str.{IsUtf8-nil, IsUtf8-append}
use Rattle.score.specs.declared.refusal.Refusal.{Refusal}
use Rattle.rows.specs.Rows.{Setup}
use Rattle.refusals.specs.declared.Call.{Call}
use Rattle.retakes.specs.Retakes.{Reel, next}
use Rattle.inputs.specs.declared.Inputs.{Inputs}
use Rattle.outputs.proofs.Texts.{heading_text, refused_text, edit_text}
use Rattle.retake_lib.specs.Program.{edit_lines, Output, played, output_of, program}

lines_text : (s : Setup) (o : Reel) (es : List Call) → IsUtf8 (edit_lines s o es)
unfolding edit_lines
lines_text s o [] = IsUtf8-nil
lines_text s o (e ∷ es) = IsUtf8-append _ _ (edit_text _ _) (lines_text s (next s o e) es)

output_text : (given : Result Inputs Refusal) (bank : List ℕ) → IsUtf8 (output_of given bank).printed
unfolding output_of played
output_text (Ok given) bank = IsUtf8-append _ _ heading_text (lines_text _ _ _)
output_text (Err r) bank = refused_text _ _

pub program_text : (score edits bank : List ℕ) → IsUtf8 (program score edits bank).printed
unfolding program
program_text score edits bank = output_text _ bank

-- so is what a run answers that is the program's
pub printed_text : (o : Output) (score edits bank : List ℕ) → o ≡ program score edits bank → IsUtf8 o.printed
printed_text o score edits bank e = subst (λ (p : Output). IsUtf8 p.printed) (sym e) (program_text score edits bank)
