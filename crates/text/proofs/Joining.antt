-- Pieces joined by a byte that none of them has are cut apart again, and the pieces of a text, joined, are the text; the same of lines and texts.
use Rattle.std.proofs.Common.{◌≡◌, refl, ap, ◌∙◌, Bool, true, false, not, ◌&&◌, List, [], ◌∷◌, ◌++◌, map, append_assoc, ℕ, eq-eqb, eqb}
use Rattle.std.proofs.lemmas.Bool.{false≢true}
use Rattle.std.specs.List.{onto_first}
use Rattle.std.proofs.lemmas.List.Splits.{join_with_byte-slice_split}
use Rattle.text.specs.Text.{lf, space, split, joined, fields_of, Line, ended, unended, contents, lined, lines_of, text_of}
use Rattle.text.proofs.FirstLine.{lined_cut, no_line}
use Rattle.lists.proofs.Cases.{both}

-- ---- a byte that pieces lack
abbrev pub lacks : ℕ → List ℕ → Bool
lacks at [] = true
lacks at (b ∷ bs) = not (eqb b at) && lacks at bs

abbrev pub each_lacks : ℕ → List (List ℕ) → Bool
each_lacks at [] = true
each_lacks at (p ∷ ps) = lacks at p && each_lacks at ps

unequal : (b : Bool) → not b ≡ true → b ≡ false
unequal true e = absurd (false≢true e)
unequal false e = refl

-- the byte that a piece lacks cuts where it ends
module _ (at : ℕ) where
  pub split_behind : (p rest : List ℕ) → lacks at p ≡ true → split at (p ++ at ∷ rest) ≡ p ∷ split at rest
  unfolding split
  split_behind [] rest e = rw (eq-eqb at at refl)
  split_behind (b ∷ p) rest e =
      let d = both _ _ e in
      rw (unequal (eqb b at) d.0) (ap (onto_first b) (split_behind p rest d.1))

  split_whole : (p : List ℕ) → lacks at p ≡ true → split at p ≡ p ∷ []
  unfolding split
  split_whole [] e = refl
  split_whole (b ∷ p) e =
      let d = both _ _ e in
      rw (unequal (eqb b at) d.0) (ap (onto_first b) (split_whole p d.1))

  pub split_joined : (p : List ℕ) (ps : List (List ℕ)) → each_lacks at (p ∷ ps) ≡ true → split at (joined at (p ∷ ps)) ≡ p ∷ ps
  unfolding joined
  split_joined p [] e = split_whole p (both _ _ e).0
  split_joined p (q ∷ ps) e =
      let d = both _ _ e in
      split_behind p (joined at (q ∷ ps)) d.0 ∙ ap (λ (qs : List (List ℕ)). p ∷ qs) (split_joined q ps d.1)

  -- ---- the pieces of a text
  pub joined_split : (text : List ℕ) → joined at (split at text) ≡ text
  unfolding split joined
  joined_split text = join_with_byte-slice_split at text

-- a byte that all pieces lack and that does not join them
lacks_of : (at : ℕ) (a b : List ℕ) → lacks at a ≡ true → lacks at b ≡ true → lacks at (a ++ b) ≡ true
lacks_of at [] b e f = f
lacks_of at (x ∷ a) b e f = let d = both (not (eqb x at)) (lacks at a) e in rw d.0 (lacks_of at a b d.1 f)

pub lacks_joined : (at by : ℕ) → eqb by at ≡ false → (ps : List (List ℕ)) → each_lacks at ps ≡ true → lacks at (joined by ps) ≡ true
unfolding joined
lacks_joined at by n [] e = refl
lacks_joined at by n (p ∷ []) e = (both _ _ e).0
lacks_joined at by n (p ∷ q ∷ ps) e =
    let d = both _ _ e in
    lacks_of at p (by ∷ joined by (q ∷ ps)) d.0 (rw n (lacks_joined at by n (q ∷ ps) d.1))

-- ---- lines
-- what stands on the line of some fields
abbrev pub written : List (List ℕ) → Line
written fields = ended (joined space fields)

pub line_cut : (line rest : List ℕ) → lacks lf line ≡ true → lines_of ((line ++ lf ∷ []) ++ rest) ≡ ended line ∷ lines_of rest
unfolding lines_of
line_cut line rest e =
    ap lines_of (append_assoc line (lf ∷ []) rest)
    ∙ ap lined (split_behind lf line rest e)
    ∙ lined_cut line rest

abbrev pub each_line : List (List (List ℕ)) → Bool
each_line [] = true
each_line (fields ∷ lines) = lacks lf (joined space fields) && each_line lines

pub lines_written : (lines : List (List (List ℕ))) → each_line lines ≡ true → lines_of (text_of lines) ≡ map written lines
unfolding text_of
lines_written [] e = no_line
lines_written (fields ∷ lines) e =
    let d = both _ _ e in
    line_cut (joined space fields) (text_of lines) d.0 ∙ ap (λ (ls : List Line). written fields ∷ ls) (lines_written lines d.1)

-- ---- the lines of a text
abbrev pub is_ended : Line → Bool
is_ended (ended bs) = true
is_ended (unended bs) = false

abbrev pub each_ended : List Line → Bool
each_ended [] = true
each_ended (line ∷ lines) = is_ended line && each_ended lines

abbrev pub fields_on : List Line → List (List (List ℕ))
fields_on lines = map (λ (line : Line). fields_of (contents line)) lines

text_of_pieces : (ps : List (List ℕ)) → each_ended (lined ps) ≡ true → text_of (fields_on (lined ps)) ≡ joined lf ps
unfolding text_of joined
text_of_pieces [] e = refl
text_of_pieces ([] ∷ []) e = refl
text_of_pieces ((b ∷ bs) ∷ []) e = absurd (false≢true e)
text_of_pieces (p ∷ q ∷ ps) e =
    ap (λ (z : List ℕ). (z ++ lf ∷ []) ++ text_of (fields_on (lined (q ∷ ps)))) (joined_split space p)
    ∙ append_assoc p (lf ∷ []) _
    ∙ ap (λ (z : List ℕ). p ++ lf ∷ z) (text_of_pieces (q ∷ ps) e)

pub text_of_lines : (text : List ℕ) → each_ended (lines_of text) ≡ true → text_of (fields_on (lines_of text)) ≡ text
unfolding lines_of
text_of_lines text e = text_of_pieces (split lf text) e ∙ joined_split lf text
