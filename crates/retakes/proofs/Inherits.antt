-- What each made row has, if the row before it has it, every row has after an accepted rendering and any list of calls, `Inherited`: a call makes
-- its rows from row to row, and leaves the others as they were, where they came from.
use Rattle.std.proofs.Common.{false, ◌≡◌, refl, sym, subst, List, [], ◌∷◌, Bool, true, cond, ◌⊎◌, inl, inr, ℕ, zero, suc, ◌+◌, ◌*◌, ◌≤◌, ◌<◌, le_refl, arith, take, drop, drop-drop, Option, None, Some, option_map, Ok, Err}
use Rattle.std.proofs.lemmas.Bool.{cases_lt}
use Rattle.score.specs.Rows.{row_words, row_at}
use Rattle.score.specs.Limits.{row_within, first_bad}
use Rattle.score.specs.Numbers.{Tested, accepted}
use Rattle.score.proofs.FirstBad.{none_refused}
use Rattle.rows.specs.Rows.{Setup, Take, before_row}
use Rattle.refusals.specs.declared.Call.{Call}
use Rattle.refusals.specs.declared.Call.TheVariants.{Render}
use Rattle.refusals.specs.Calls.{count_after, rows_after, position}
use Rattle.retakes.specs.Retakes.{Reel, refusal_in, next, after, Five, Fives, came, words_at, Unchanging, Inherits, Inherited}
use Rattle.retakes.proofs.Doing.{Does, next_refused, is_accepted, unchanging_or_not, doing, moves, after_is, side, others, next_unchanging}
use Rattle.retakes.proofs.Retakes.{accepted_is, five, unchanged_not, all_rows}

-- ---- A score that 9 does not refuse.

within_all : (n : ℕ) (rows : List ℕ) → first_bad n rows ≡ None → (i : ℕ) → i < n → row_within (row_at rows i) ≡ true
unfolding first_bad
within_all zero rows h i l = absurd (omega arith)
within_all (suc n) rows h i l = go i l (row_within (take row_words rows)) refl (first_bad n (drop row_words rows)) h (within_all n (drop row_words rows))
  where
    go : (i : ℕ) → i < suc n → (b : Bool) → row_within (take row_words rows) ≡ b → (bad : Option ℕ) → cond b (option_map suc bad) (Some 0) ≡ None
        → (bad ≡ None → (j : ℕ) → j < n → row_within (row_at (drop row_words rows) j) ≡ true) → row_within (row_at rows i) ≡ true
    go i k false w bad f again = cc
    go i k true w (Some bad) f again = cc
    go zero k true w None f again = w
    go (suc i) k true w None f again =
        let e : suc i * row_words ≡ row_words + i * row_words = omega arith in
        rw (e, sym (drop-drop (i * row_words) row_words rows)) (again refl i (omega arith))

module _ (s : Setup) (Has : Take → Type 0) (law : Inherits s Has) where
  -- Rows before row j have it.
  abbrev Before : Take → ℕ → Type 0
  Before t j = (i : ℕ) → i < j → Has (words_at s.frames t i)

  -- ---- A call that changes something.

  module _ (o : Reel) (c : Call) (z : refusal_in s o c ≡ accepted) (f : Five c) (w : Unchanging o c → ⊥) where
    abbrev D : Does s o.count o.rows o.left c
    D = doing s o c z f w

    abbrev u : Take
    u = D.run.left

    abbrev n' : ℕ
    n' = count_after o.count c

    abbrev rows' : List ℕ
    rows' = rows_after o.count o.rows c

    good : (i : ℕ) → i < n' → row_within (row_at rows' i) ≡ true
    good = within_all n' rows' (none_refused n' rows' (is_accepted s o c z).within)

    -- A row that the call made, from one that has it.
    made_has : (i : ℕ) → position c ≤ i → i < D.did.stop → Before u i → Has (words_at s.frames u i)
    unfolding before_row
    made_has zero l m b = subst Has (sym (D.did.made zero l m)) (law.first (row_at rows' zero) (good zero (omega (arith, D.did.first.most))))
    made_has (suc i) l m b =
        subst Has (sym (D.did.made (suc i) l m))
        (law.next (row_at rows' (suc i)) (words_at s.frames u i) (good (suc i) (omega (arith, D.did.first.most))) (b i (omega arith)))

    -- If the rows that it does not make have it, so have all.
    all_have : ((i : ℕ) → (i < position c) ⊎ (D.did.stop ≤ i) → i < n' → Has (words_at s.frames u i)) → (j : ℕ) → j ≤ n' → Before u j
    all_have h zero l i m = absurd (omega arith)
    all_have h (suc j) l i m = go (all_have h j (omega arith)) (cases_lt i j)
      where
        row : Before u j → (j < position c) ⊎ (position c ≤ j) → (j < D.did.stop) ⊎ (D.did.stop ≤ j) → Has (words_at s.frames u j)
        row b (inl x) y = h j (inl x) (omega arith)
        row b (inr x) (inl y) = made_has j x y b
        row b (inr x) (inr y) = h j (inr y) (omega arith)

        go : Before u j → (i < j) ⊎ (j ≤ i) → Has (words_at s.frames u i)
        go b (inl x) = b i x
        go b (inr x) =
            let q : j ≡ i = omega arith in
            subst (λ (k : ℕ). Has (words_at s.frames u k)) q (row b (cases_lt j (position c)) (cases_lt j D.did.stop))

    -- Where every row had it, the others have it where they came from.
    changed_has : Before o.left o.count → Before (next s o c).left (next s o c).count
    changed_has b = rw (after_is s o c z f w) (all_have (λ i x l. subst Has (sym (others s o c z f w i x l)) (b (came c i) ((moves s o c z f w).within i (side s o c z f w i x) l))) n' (le_refl n'))

  -- ---- A whole rendering, of any take.

  rendered_has : (o : Reel) (z : refusal_in s o Render ≡ accepted) → Before (next s o Render).left (next s o Render).count
  rendered_has o z = rw (after_is s o Render z five unchanged) (all_have o Render z five unchanged none (count_after o.count Render) (le_refl _))
    where
      unchanged : Unchanging o Render → ⊥
      unchanged = unchanged_not s o z

      none : (i : ℕ) → (i < position Render) ⊎ ((doing s o Render z five unchanged).did.stop ≤ i) → i < count_after o.count Render
          → Has (words_at s.frames (doing s o Render z five unchanged).run.left i)
      none = unfold count_after position in λ i x l. absurd (outside i x l)
        where
          outside : (i : ℕ) → (i < 0) ⊎ ((doing s o Render z five unchanged).did.stop ≤ i) → i < o.count → ⊥
          outside i (inl x) l = omega arith
          outside i (inr x) l = omega (arith, all_rows s o z)

  -- ---- A list of calls.

  call_has : (o : Reel) (c : Call) → Five c → Before o.left o.count → Before (next s o c).left (next s o c).count
  call_has o c f b = go (refusal_in s o c) refl
    where
      same : next s o c ≡ o → Before (next s o c).left (next s o c).count
      same q = subst (λ (x : Reel). Before x.left x.count) (sym q) b

      go : (r : Tested) → refusal_in s o c ≡ r → Before (next s o c).left (next s o c).count
      go (Err r) h = same (next_refused s o c r h)
      go (Ok u) z = by (unchanging_or_not s o c)
        where
          by : Unchanging o c ⊎ (Unchanging o c → ⊥) → Before (next s o c).left (next s o c).count
          by (inl w) = same (next_unchanging s o c f w z)
          by (inr w) = changed_has o c z f w b

  list_has : (cs : List Call) → Fives cs → (o : Reel) → Before o.left o.count → Before (after s o cs).left (after s o cs).count
  unfolding after Fives
  list_has [] f o b = b
  list_has (c ∷ cs) f o b = list_has cs f.1 (next s o c) (call_has o c f.0 b)

pub inherited : Inherited
unfolding after
inherited s Has law o cs f x = list_has s Has law cs f (next s o Render) (rendered_has s Has law o (accepted_is s o x))
