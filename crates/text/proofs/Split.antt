-- Cutting a text at a byte, from the front: the first piece runs up to the first such byte, and the other pieces are those of what follows it.
use Rattle.std.proofs.Common.{◌≡◌, refl, sym, ap, Bool, true, false, not, cond, List, [], ◌∷◌, ℕ, suc, ◌+◌, ◌≤◌, ◌<◌, zero-le, suc-le-suc, arith, eqb-true, ltb-false, eqb, ltb, Option, Some, None, unwrap_or, position, length, get_or, take, drop}
use Rattle.std.specs.List.{onto_first, position_or_len}
use Rattle.text.specs.Text.{split}

-- how many bytes the first piece has
abbrev pub reach : ℕ → List ℕ → ℕ
reach cut text = length (get_or (split cut text) 0 [])

on_first_lem : (x : ℕ) (ps : List (List ℕ)) → length (get_or (onto_first x ps) 0 []) ≡ suc (length (get_or ps 0 []))
on_first_lem x [] = refl
on_first_lem x (p ∷ ps) = refl

-- the first cut ends the first piece
pub reach_position : (cut : ℕ) (text : List ℕ) → reach cut text ≡ position_or_len (λ b. eqb b cut) text
unfolding split
reach_position cut [] = refl
reach_position cut (x ∷ text) = go (eqb x cut) (reach_position cut text)
  where
    go : (b : Bool) → reach cut text ≡ position_or_len (λ y. eqb y cut) text
        → length (get_or (cond b ([] ∷ split cut text) (onto_first x (split cut text))) 0 []) ≡ cond (not b) (1 + position_or_len (λ y. eqb y cut) text) 0
    go true h = refl
    go false h = rw (on_first_lem x (split cut text)) (omega (arith, h))

-- the pieces after the first, from the cut that ends it
abbrev pub after : ℕ → List ℕ → List (List ℕ)
after cut [] = []
after cut (x ∷ text) = split cut text

abbrev Starts : ℕ → List (List ℕ) → List ℕ → Type 0
Starts cut ps text = ps ≡ take (length (get_or ps 0 [])) text ∷ after cut (drop (length (get_or ps 0 [])) text)

starts_on : (cut x : ℕ) (ps : List (List ℕ)) (text : List ℕ) → Starts cut ps text → Starts cut (onto_first x ps) (x ∷ text)
starts_on cut x ps text h = rw (on_first_lem x ps) (ap (onto_first x) h)

pub first_piece : (cut : ℕ) (text : List ℕ) → Starts cut (split cut text) text
unfolding split
first_piece cut [] = refl
first_piece cut (x ∷ text) = go (eqb x cut) (first_piece cut text)
  where
    go : (b : Bool) → Starts cut (split cut text) text → Starts cut (cond b ([] ∷ split cut text) (onto_first x (split cut text))) (x ∷ text)
    go true h = refl
    go false h = starts_on cut x (split cut text) text h

pub reach_fits : (cut : ℕ) (text : List ℕ) → reach cut text ≤ length text
unfolding split
reach_fits cut [] = zero-le
reach_fits cut (x ∷ text) = go (eqb x cut) (reach_fits cut text)
  where
    go : (b : Bool) → reach cut text ≤ length text → length (get_or (cond b ([] ∷ split cut text) (onto_first x (split cut text))) 0 []) ≤ suc (length text)
    go true h = zero-le
    go false h = rw (on_first_lem x (split cut text)) (suc-le-suc h)

-- where the first cut is found, or the text's length where there is none
pub reach_found : (cut : ℕ) (text : List ℕ) (found : Option ℕ) → found ≡ position (λ b. eqb b cut) text → unwrap_or found (length text) ≡ reach cut text
reach_found cut text found e = rw e (go (ltb (position_or_len (λ b. eqb b cut) text) (length text)) refl)
  where
    go : (b : Bool) → ltb (position_or_len (λ y. eqb y cut) text) (length text) ≡ b
        → unwrap_or (cond b (Some (position_or_len (λ y. eqb y cut) text)) None) (length text) ≡ reach cut text
    go true h = sym (reach_position cut text)
    go false h = omega (arith, ltb-false _ _ h, reach_position cut text, reach_fits cut text)

pub reach_at : (cut : ℕ) (text : List ℕ) → reach cut text < length text → get_or text (reach cut text) 0 ≡ cut
unfolding split
reach_at cut [] h = absurd (omega arith)
reach_at cut (x ∷ text) h = go (eqb x cut) refl (reach_at cut text) h
  where
    go : (b : Bool) → eqb x cut ≡ b → (reach cut text < length text → get_or text (reach cut text) 0 ≡ cut)
        → length (get_or (cond b ([] ∷ split cut text) (onto_first x (split cut text))) 0 []) < suc (length text)
        → get_or (x ∷ text) (length (get_or (cond b ([] ∷ split cut text) (onto_first x (split cut text))) 0 [])) 0 ≡ cut
    go true e f h = eqb-true x cut e
    go false e f h = let i = rw (on_first_lem x (split cut text)) at h in rw (on_first_lem x (split cut text)) (f (omega arith))
