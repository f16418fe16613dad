-- Holds are summed by one law, for frames, rows and calls: the total of two lists is the sum of their totals. Each law goes by the record's fields,
-- all six in one sentence of arithmetic.
use Rattle.std.proofs.Common.{◌≡◌, refl, sym, ap, ◌∙◌, Bool, true, false, ◌||◌, List, [], ◌∷◌, ◌++◌, ℕ, ◌+◌, ◌≤◌, Option, None, Some, arith}
use Rattle.std.proofs.lemmas.Bool.{false≢true}
use Rattle.utils.specs.Holds.{none, once, of_frame, of_reading, plus, total, AtMost}
use Rattle.utils.specs.declared.holds.Holds.{Holds}
use Rattle.utils.specs.declared.holds.Surface.{Surface}
use Rattle.utils.specs.declared.holds.Surface.TheVariants.{Map, Bank}

-- two records of the same counts
abbrev Same : Holds → Holds → Type 0
Same a b =
    (a.held ≡ b.held)
    × ((a.phase ≡ b.phase)
    × ((a.wave_position ≡ b.wave_position) × ((a.level ≡ b.level) × ((a.map ≡ b.map) × (a.bank ≡ b.bank)))))

abbrev holds : ℕ → ℕ → ℕ → ℕ → ℕ → ℕ → Holds
holds a b c d e f = record { held = a; phase = b; wave_position = c; level = d; map = e; bank = f }

pub same_counts : (a b : Holds) → Same a b → a ≡ b
same_counts a b s =
    ap (λ (n : ℕ). holds n a.phase a.wave_position a.level a.map a.bank) s.0
    ∙ ap (λ (n : ℕ). holds b.held n a.wave_position a.level a.map a.bank) s.1.0
    ∙ ap (λ (n : ℕ). holds b.held b.phase n a.level a.map a.bank) s.1.1.0
    ∙ ap (λ (n : ℕ). holds b.held b.phase b.wave_position n a.map a.bank) s.1.1.1.0
    ∙ ap (λ (n : ℕ). holds b.held b.phase b.wave_position b.level n a.bank) s.1.1.1.1.0
    ∙ ap (λ (n : ℕ). holds b.held b.phase b.wave_position b.level b.map n) s.1.1.1.1.1

pub plus_none : (a : Holds) → plus a none ≡ a
unfolding plus
plus_none a = same_counts (plus a none) a (omega arith)

pub none_plus : (a : Holds) → plus none a ≡ a
unfolding plus
none_plus a = same_counts (plus none a) a (omega arith)

-- a frame that holds nothing adds nothing
no_frame : (phase position level : Bool) → phase || position || level ≡ false → of_frame phase position level ≡ none
unfolding of_frame
no_frame false false false e = refl
no_frame false false true e = absurd (false≢true (sym e))
no_frame false true level e = absurd (false≢true (sym e))
no_frame true position level e = absurd (false≢true (sym e))

pub adds_nothing : (h : Holds) (phase position level : Bool) → phase || position || level ≡ false → h ≡ plus h (of_frame phase position level)
adds_nothing h phase position level e = sym (ap (plus h) (no_frame phase position level e) ∙ plus_none h)

pub plus_assoc : (a b c : Holds) → plus (plus a b) c ≡ plus a (plus b c)
unfolding plus
plus_assoc a b c = same_counts (plus (plus a b) c) (plus a (plus b c)) (omega arith)

-- the middle two of four change places
pub plus_four : (a b c d : Holds) → plus (plus a b) (plus c d) ≡ plus (plus a c) (plus b d)
unfolding plus
plus_four a b c d = same_counts (plus (plus a b) (plus c d)) (plus (plus a c) (plus b d)) (omega arith)

-- ---- the total of a list

pub total_append : (l m : List Holds) → total (l ++ m) ≡ plus (total l) (total m)
unfolding total
total_append [] m = sym (none_plus (total m))
total_append (h ∷ l) m = ap (plus h) (total_append l m) ∙ sym (plus_assoc h (total l) (total m))

pub total_snoc : (l : List Holds) (h : Holds) → total (l ++ (h ∷ [])) ≡ plus (total l) h
unfolding total
total_snoc l h = total_append l (h ∷ []) ∙ ap (plus (total l)) (plus_none h)

-- ---- bounds add up

most_of : {n : ℕ} {h : Holds}
    → (h.held ≤ n) × ((h.phase ≤ n) × ((h.wave_position ≤ n) × ((h.level ≤ n) × ((h.map ≤ n) × (h.bank ≤ n)))))
    → AtMost n h
most_of p =
    record {
      held_most = p.0;
      phase_most = p.1.0;
      position_most = p.1.1.0;
      level_most = p.1.1.1.0;
      map_most = p.1.1.1.1.0;
      bank_most = p.1.1.1.1.1;
    }

pub most_none : (n : ℕ) → AtMost n none
most_none n = most_of (omega arith)

pub most_reading : (held : Option Surface) → AtMost 1 (of_reading held)
most_reading None = most_none 1
most_reading (Some Map) = most_of (omega arith)
most_reading (Some Bank) = most_of (omega arith)

once_most : (b : Bool) → once b ≤ 1
once_most true = omega arith
once_most false = omega arith

pub most_frame : (phase position level : Bool) → AtMost 1 (of_frame phase position level)
unfolding of_frame
most_frame phase position level =
    most_of (omega (arith, once_most (phase || position || level), once_most phase, once_most position, once_most level))

pub most_more : {m n : ℕ} {h : Holds} → m ≤ n → AtMost m h → AtMost n h
most_more l p = most_of (omega (arith, p))

pub most_plus : {m n : ℕ} {a b : Holds} → AtMost m a → AtMost n b → AtMost (m + n) (plus a b)
unfolding plus
most_plus p q = most_of (omega (arith, p, q))
