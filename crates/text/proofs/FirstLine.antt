-- The lines of a text, from the front: what the first LF ends is the first line, and the others are the lines of what follows.
use Rattle.std.proofs.Common.{◌≡◌, refl, sym, ap, ◌∙◌, List, [], ◌∷◌, Bool, true, false, cond, ℕ, suc, ◌+◌, ◌≤◌, ◌<◌, add-one, arith, eqb, length, take, drop, drop_of_length-le, take_all, drop-cons}
use Rattle.std.specs.List.{onto_first}
use Rattle.text.specs.Text.{lf, split, ended, unended, lined, lines_of, first_of, rest_of}
use Rattle.text.proofs.Split.{reach, first_piece}

lined_ended : (p q : List ℕ) (qs ps : List (List ℕ)) → ps ≡ q ∷ qs → lined (p ∷ ps) ≡ ended p ∷ lined ps
lined_ended [] q qs ps e = rw e
lined_ended (b ∷ p) q qs ps e = rw e

pub lined_cut : (p text : List ℕ) → lined (p ∷ split lf text) ≡ ended p ∷ lines_of text
unfolding lines_of
lined_cut p text = lined_ended p _ _ (split lf text) (first_piece lf text)

lined_open : (text : List ℕ) → first_of (lined (text ∷ [])) ≡ unended text
lined_open [] = refl
lined_open (b ∷ text) = refl

module _ (text : List ℕ) where
  pub first_line : (end : ℕ) → end ≡ reach lf text → end < length text → lines_of text ≡ ended (take end text) ∷ lines_of (drop (end + 1) text)
  unfolding lines_of
  first_line end e h =
      ap lined (first_piece lf text)
      ∙ rw (sym e, drop-cons text end 0 h, add-one) (lined_cut (take end text) (drop (suc end) text))

  pub open_line : length text ≤ reach lf text → first_of (lines_of text) ≡ unended text
  unfolding lines_of
  open_line h =
      ap (λ (ps : List (List ℕ)). first_of (lined ps)) (first_piece lf text)
      ∙ rw (take_all (reach lf text) text h, drop_of_length-le text h) (lined_open text)

-- ---- whether there is a line
lined_some : (b : ℕ) (ps : List (List ℕ)) → lined (onto_first b ps) ≡ first_of (lined (onto_first b ps)) ∷ rest_of (lined (onto_first b ps))
lined_some b [] = refl
lined_some b ([] ∷ []) = refl
lined_some b ((x ∷ q) ∷ []) = refl
lined_some b ([] ∷ r ∷ qs) = refl
lined_some b ((x ∷ q) ∷ r ∷ qs) = refl

pub some_line : (text : List ℕ) → 0 < length text → lines_of text ≡ first_of (lines_of text) ∷ rest_of (lines_of text)
unfolding lines_of split
some_line [] h = absurd (omega arith)
some_line (b ∷ text) h = go (eqb b lf)
  where
    go : (t : Bool) → lined (cond t ([] ∷ split lf text) (onto_first b (split lf text)))
        ≡ first_of (lined (cond t ([] ∷ split lf text) (onto_first b (split lf text)))) ∷ rest_of (lined (cond t ([] ∷ split lf text) (onto_first b (split lf text))))
    go true = rw (lined_cut [] text)
    go false = lined_some b (split lf text)

pub no_line : lines_of [] ≡ []
unfolding lines_of split
no_line = refl
