-- Rows that stand as made, from row 0 on, are the fresh rendering's: by induction each starts from the words that the fresh one keeps.
use Rattle.std.proofs.Common.{◌≡◌, refl, sym, ap, ◌∙◌, List, [], ◌∷◌, ◌++◌, ℕ, zero, suc, ◌+◌, ◌*◌, ◌≤◌, ◌<◌, add-zero, zero-add, suc-mul, zero-mul, arith, length, get_or, take, drop, length-drop, take-append-drop, length-take-le, drop-cons, drop-drop}
use Rattle.std.proofs.lemmas.List.{nil_from_length}
use Rattle.lists.specs.Lists.{part}
use Rattle.lists.proofs.Shifts.{laid_is, part_of_cut}
use Rattle.voice.specs.declared.State.{State}
use Rattle.voice.specs.Voice.{kept_count, voice_of, state_of}
use Rattle.voice.proofs.Laws.{fresh_back}
use Rattle.score.specs.Rows.{row_words, row_at}
use Rattle.rows.specs.Rows.{Setup, Take, fresh_start, kept_at, before_row, words_before, Row, row_from, row_by, row_in}
use Rattle.retakes.specs.Retakes.{fresh_from, fresh, joined, take_of, no_row, before_in, words_at, Past, made_from, laid_over, cut}
use Rattle.retakes.proofs.Takes.{Roomy, take_is}
use Rattle.retakes.proofs.Runs.{Made}

module _ (s : Setup) (rows : List ℕ) where
  pub fresh_long : (l i : ℕ) (st : State) → length (fresh_from s rows l i st) ≡ l
  unfolding fresh_from
  fresh_long zero i st = refl
  fresh_long (suc l) i st = ap suc (fresh_long l (i + 1) _)

  -- Row 0 starts from the fresh state, which comes back from its words.
  first_row : (kept : List ℕ) → row_from s (row_at rows 0) (fresh_start s) ≡ row_in s rows kept 0
  unfolding row_by before_row
  first_row kept = ap (λ (st : State). row_from s (row_at rows 0) st) (sym (fresh_back (voice_of s.instrument) s.rate))

  -- A row behind another starts from the words that that one keeps.
  later_row : (kept : List ℕ) (k : ℕ) → row_from s (row_at rows (k + 1)) (state_of (voice_of s.instrument) (kept_at kept k)) ≡ row_in s rows kept (k + 1)
  unfolding row_by before_row
  later_row kept k = let q : k + 1 ≡ suc k = omega arith in rw q refl

  -- Row k + d, where row k starts alike and the rows between keep what they are made to keep.
  fresh_row : (kept : List ℕ) (d l k : ℕ) (st : State) → d < l → row_from s (row_at rows k) st ≡ row_in s rows kept k
      → ((i : ℕ) → k ≤ i → i < k + d → kept_at kept i ≡ (row_in s rows kept i).words.kept)
      → get_or (fresh_from s rows l k st) d no_row ≡ row_in s rows kept (k + d)
  unfolding fresh_from
  fresh_row kept d zero k st h e f = absurd (omega arith)
  fresh_row kept zero (suc l) k st h e f = e ∙ ap (λ (i : ℕ). row_in s rows kept i) (sym (add-zero k))
  fresh_row kept (suc d) (suc l) k st h e f =
      let w : (row_from s (row_at rows k) st).words.kept ≡ kept_at kept k = ap (λ (r : Row). r.words.kept) e ∙ sym (f k (omega arith) (omega arith)) in
      let q : k + 1 + d ≡ k + suc d = omega arith in
      let start = ap (λ (x : List ℕ). row_from s (row_at rows (k + 1)) (state_of (voice_of s.instrument) x)) w ∙ later_row kept k in
      fresh_row kept d l (k + 1) _ (omega arith) start (λ i x y. f i (omega arith) (omega arith)) ∙ ap (λ (i : ℕ). row_in s rows kept i) q

  module _ (n : ℕ) (t : Take) where
    -- The row that is made from the words kept before it, where the rows before it stand as made.
    pub fresh_at : (i : ℕ) → i < n → ((j : ℕ) → j < i → Made s rows t j) → get_or (fresh s n rows) i no_row ≡ row_in s rows t.kept i
    fresh_at i h m =
        fresh_row t.kept i n 0 _ h (first_row t.kept) (λ j x y. ap (λ (w : Take). w.kept) (m j (omega arith)))
        ∙ ap (λ (j : ℕ). row_in s rows t.kept j) (zero-add i)

    module _ (m : (i : ℕ) → i < n → Made s rows t i) where
      row_fresh : (i : ℕ) → i < n → get_or (fresh s n rows) i no_row ≡ row_in s rows t.kept i
      row_fresh i h = fresh_at i h (λ j x. m j (omega arith))

      pub made_fresh : (i : ℕ) → i < n → words_at s.frames t i ≡ (get_or (fresh s n rows) i no_row).words
      made_fresh i h = m i h ∙ ap (λ (r : Row). r.words) (sym (row_fresh i h))

      -- The words before a row are those before it in the fresh rendering.
      pub before_fresh : (i : ℕ) → i ≤ n → words_before s t.kept i ≡ before_in s (fresh s n rows) i
      unfolding before_row
      before_fresh zero h = refl
      before_fresh (suc i) h = ap (λ (w : Take). w.kept) (made_fresh i (omega arith))

      -- Rows made from the words kept before them are rows of the fresh rendering.
      pub rows_fresh : (l a : ℕ) → a + l ≤ n → made_from s rows t.kept l a ≡ take l (drop a (fresh s n rows))
      unfolding made_from
      rows_fresh zero a h = refl
      rows_fresh (suc l) a h =
          let long : length (fresh s n rows) ≡ n = fresh_long n 0 _ in
          let q : suc a ≡ a + 1 = omega arith in
          rw (drop-cons (fresh s n rows) a no_row (omega arith), q, row_fresh a (omega arith), rows_fresh l (a + 1) (omega arith))

-- ---- All parts.

-- Words whose parts are those of some rows are the rows' words one after the other.
parts_joined : (w : ℕ) (of : Take → List ℕ) (rs : List Row) (l : List ℕ) → length l ≡ length rs * w
    → ((i : ℕ) → i < length rs → part w l i ≡ of (get_or rs i no_row).words) → l ≡ joined of rs
unfolding joined
parts_joined w of [] l e p = nil_from_length l (e ∙ zero-mul w)
parts_joined w of (r ∷ rs) l e p =
    let z : take w l ≡ of r.words = ap (λ (m : ℕ). take w (drop m l)) (sym (zero-mul w)) ∙ p 0 (omega arith) in
    let m : length l ≡ length rs * w + w = e ∙ suc-mul (length rs) w in
    let t : drop w l ≡ joined of rs =
    parts_joined w of rs (drop w l) (rw length-drop (omega arith))
    (λ i h.
    let q : w + i * w ≡ suc i * w = omega (arith, suc-mul i w) in
    ap (λ (y : List ℕ). take w y) (drop-drop (i * w) w l ∙ ap (λ (y : ℕ). drop y l) q) ∙ p (suc i) (omega arith)) in
    sym (take-append-drop w l) ∙ ap (λ (y : List ℕ). y ++ drop w l) z ∙ ap (λ (y : List ℕ). of r.words ++ y) t

-- Where every row below the count stands as made, the take begins with the fresh rendering's.
module _ (s : Setup) (rows : List ℕ) (n : ℕ) (t : Take) (z : Roomy s n rows t) (m : (i : ℕ) → i < n → Made s rows t i) where
  abbrev F : List Row
  F = fresh s n rows

  -- Of out, of aux or of kept.
  begins : (w : ℕ) (of : Take → List ℕ) (l : List ℕ) → n * w ≤ length l → ((i : ℕ) → i < n → part w l i ≡ of (words_at s.frames t i)) → take (n * w) l ≡ joined of F
  begins w of l r p =
      let long : length F ≡ n = fresh_long s rows n 0 _ in
      parts_joined w of F (take (n * w) l) (rw long (length-take-le (n * w) l r))
      (λ i h.
      let k : i < n = omega arith in
      part_of_cut w n i l k ∙ p i k ∙ ap of (made_fresh s rows n t m i k))

  pub cut_fresh : cut s n t ≡ take_of F
  cut_fresh =
      take_is (cut s n t) (take_of F)
      (begins s.frames (λ (w : Take). w.out) t.out z.out_room (λ i h. refl))
      (begins s.frames (λ (w : Take). w.aux) t.aux z.aux_room (λ i h. refl))
      (begins kept_count (λ (w : Take). w.kept) t.kept z.kept_room (λ i h. refl))

  -- So what was past the count before, and still is, has it laid over it.
  pub laid_fresh : (old : Take) → Past s.frames n old t → t ≡ laid_over old (take_of F)
  laid_fresh old p =
      let c = cut_fresh in
      take_is t (laid_over old (take_of F))
      (laid_is (n * s.frames) old.out t.out (take_of F).out z.out_room (ap (λ (u : Take). u.out) c) p.out)
      (laid_is (n * s.frames) old.aux t.aux (take_of F).aux z.aux_room (ap (λ (u : Take). u.aux) c) p.aux)
      (laid_is (n * kept_count) old.kept t.kept (take_of F).kept z.kept_room (ap (λ (u : Take). u.kept) c) p.kept)

-- ---- A fresh rendering reads the rows below the count alone.

same_rows : (s : Setup) (rows rows' : List ℕ) (l i : ℕ) (st : State) → ((j : ℕ) → j < i + l → row_at rows' j ≡ row_at rows j) → fresh_from s rows' l i st ≡ fresh_from s rows l i st
unfolding fresh_from
same_rows s rows rows' zero i st h = refl
same_rows s rows rows' (suc l) i st h =
    rw (h i (omega arith)) (ap (λ (rs : List Row). row_from s (row_at rows i) st ∷ rs) (same_rows s rows rows' l (i + 1) _ (λ j k. h j (omega arith))))

pub fresh_cut : (s : Setup) (n : ℕ) (rows : List ℕ) → fresh s n (take (n * row_words) rows) ≡ fresh s n rows
fresh_cut s n rows = same_rows s rows (take (n * row_words) rows) n 0 _ (λ j k. part_of_cut row_words n j rows (omega arith))
