-- The bytes of words one behind the other, and samples one by one.
use Rattle.std.proofs.Common.{ℤ, pos, ◌≡◌, refl, sym, ap, ◌∙◌, arith, ℕ, suc, ◌+◌, ◌*◌, ◌<◌, List, [], ◌∷◌, ◌++◌, length, take, get_or, length-append, length-take-le, append_assoc, take-suc, flat_map, append-nil, add-one}
use Rattle.std.proofs.Common.{set, FitsSigned, to_z, of_z, to_z-of_z}
use Rattle.std.proofs.lemmas.List.Edits.{fill_by_more}
use Rattle.std.proofs.lemmas.Grind.{flat_map-append}
use Rattle.std.proofs.lemmas.List.Concat.{flat_map-cons}
use Rattle.std.specs.Int.{w16, w32, to_le_bytes, from_le_bytes, cast_signed}
use Rattle.formats.specs.Formats.{low_first, samples_of}

-- four bytes a word
pub low_long : (words : List ℕ) → length (low_first words) ≡ length words * 4
unfolding low_first
low_long [] = refl
low_long (w ∷ ws) =
    let f = to_le_bytes w32 in
    let last : length (f w) + length (flat_map f ws) ≡ length (w ∷ ws) * 4 = omega (arith, low_long ws) in
    ap length (flat_map-cons f w ws) ∙ length-append (f w) (flat_map f ws) ∙ last

-- one word more
pub low_more : (words : List ℕ) (i d : ℕ) → i < length words → low_first (take (i + 1) words) ≡ low_first (take i words) ++ to_le_bytes w32 (get_or words i d)
unfolding low_first
low_more words i d h =
    let f = to_le_bytes w32 in
    let x = get_or words i d in
    let e : take (i + 1) words ≡ take i words ++ x ∷ [] = ap (λ (n : ℕ). take n words) (add-one i) ∙ take-suc words i d h in
    ap (flat_map f) e
    ∙ flat_map-append f (take i words) (x ∷ [])
    ∙ ap (λ (y : List ℕ). flat_map f (take i words) ++ y) (flat_map-cons f x [] ∙ append-nil (f x))

-- behind bytes
pub low_behind : (before words now : List ℕ) (i d : ℕ) → i < length words → now ≡ before ++ low_first (take i words)
    → now ++ to_le_bytes w32 (get_or words i d) ≡ before ++ low_first (take (i + 1) words)
low_behind before words now i d h e =
    let word = to_le_bytes w32 (get_or words i d) in
    ap (λ (l : List ℕ). l ++ word) e ∙ append_assoc before (low_first (take i words)) word ∙ ap (λ (l : List ℕ). before ++ l) (sym (low_more words i d h))

pub low_room : (before words now : List ℕ) (i : ℕ) → i < length words → now ≡ before ++ low_first (take i words) → length now ≡ length before + i * 4
low_room before words now i h e =
    ap length e ∙ length-append before (low_first (take i words)) ∙ ap (λ (n : ℕ). length before + n) (low_long (take i words) ∙ ap (λ (n : ℕ). n * 4) (length-take-le i words (omega arith)))

-- samples that are each that of its two bytes
unfoldable pub sample_at : List ℕ → ℕ → ℤ
sample_at bytes j = cast_signed w16 (from_le_bytes w16 (get_or bytes j 0 ∷ get_or bytes (suc j) 0 ∷ []))

-- one sample more
pub sample_more : (bytes : List ℕ) (samples : List ℤ) (i : ℕ) (v : ℤ) → FitsSigned w16 v
    → v ≡ cast_signed w16 (get_or bytes (i * 2) 0 + get_or bytes (i * 2 + 1) 0 * 256) → i < length samples
    → ((k : ℕ) → k < i → get_or samples k (pos 0) ≡ sample_at bytes (k * 2))
    → (k : ℕ) → k < i + 1 → get_or (set samples i (to_z w16 (of_z w16 v))) k (pos 0) ≡ sample_at bytes (k * 2)
unfolding sample_at
sample_more bytes samples i v fits e h made =
    let is : to_z w16 (of_z w16 v) ≡ sample_at bytes (i * 2) =
    to_z-of_z fits ∙ e ∙ ap (λ (j : ℕ). cast_signed w16 (get_or bytes (i * 2) 0 + get_or bytes j 0 * 256)) (add-one (i * 2)) in
    rw is (fill_by_more (λ (k : ℕ). sample_at bytes (k * 2)) samples i (pos 0) h made)

pub samples_are : (bytes : List ℕ) (samples : List ℤ) → length bytes ≡ length samples * 2
    → ((i : ℕ) → i < length samples → get_or samples i (pos 0) ≡ sample_at bytes (i * 2)) → samples ≡ samples_of bytes
unfolding samples_of sample_at
samples_are [] [] e h = refl
samples_are [] (s ∷ samples) e h = absurd (omega arith)
samples_are (low ∷ []) [] e h = absurd (omega arith)
samples_are (low ∷ []) (s ∷ samples) e h = absurd (omega arith)
samples_are (low ∷ high ∷ bytes) [] e h = absurd (omega arith)
samples_are (low ∷ high ∷ bytes) (s ∷ samples) e h =
    let two : (i : ℕ) → suc i * 2 ≡ suc (suc (i * 2)) = λ i. omega arith in
    let next : (i : ℕ) → i < length samples → get_or samples i (pos 0) ≡ sample_at bytes (i * 2) =
    λ i l. h (suc i) (omega arith) ∙ ap (λ (j : ℕ). sample_at (low ∷ high ∷ bytes) j) (two i) in
    ap (λ (x : ℤ). x ∷ samples) (h 0 (omega arith))
    ∙ ap (λ (xs : List ℤ). cast_signed w16 (from_le_bytes w16 (low ∷ high ∷ [])) ∷ xs) (samples_are bytes samples (omega arith) next)
