-- `words::fields::Fields::signed_whole` meets its contract.
use Rattle.std.proofs.Common.{eq-eqb, ne_eqb, lt-ltb, ◌≡◌, sym, subst, ◌∙◌, ℕ, ◌<◌, lit≤, w32}
use Rattle.std.proofs.Math.IntN.{+ℤ_idl}
use Rattle.std.proofs.Math.Facts.{to_z_pos}
use Rattle.words.specs.Fields.{whole_magnitude, signed_whole}
use Rattle.words.proofs.WholeParts.{neg_mag, taken_off}
use Rattle.words.proofs.ByFields.{not_special, magnitude_below}
use Rattle.words.proofs.fields.Fields.signed_whole.Goals as goal

-- the magnitude is an i32
few : (n e t : ℕ) → n ≡ whole_magnitude e t → t < 8388608 → e < 158 → n < 2147483648
few n e t q k l = subst (λ (m : ℕ). m < 2147483648) (sym q) (magnitude_below 31 e t k l)

pub overflow_cast-n : goal.overflow_cast-n
overflow_cast-n c = record { sfits = few _ _ _ c.whole_magnitude-n.ensures c.args.self.few c.if-self.true }

pub overflow_sub-result : goal.overflow_sub-result
overflow_sub-result c =
    let m = few _ _ _ c.whole_magnitude-n.ensures c.args.self.few c.if-self.true in
    rw (to_z_pos w32 m, +ℤ_idl) (neg_mag _ m)

pub returns-then-self-eq1 : goal.returns-then-self-eq1
unfolding signed_whole
returns-then-self-eq1 c =
    let l = c.if-self.true in
    let q = c.whole_magnitude-n.ensures in
    taken_off _ (few _ _ _ q c.args.self.few l) ∙ simp (eq-eqb _ _ c.if-self-eq1.true, not_special _ _ l (lit≤ tt), lt-ltb _ _ l, q)

pub returns-else-self-eq1 : goal.returns-else-self-eq1
unfolding signed_whole
returns-else-self-eq1 c =
    let l = c.if-self.true in
    let q = c.whole_magnitude-n.ensures in
    to_z_pos w32 (few _ _ _ q c.args.self.few l) ∙ simp (ne_eqb _ _ c.if-self-eq1.false, not_special _ _ l (lit≤ tt), lt-ltb _ _ l, q)
