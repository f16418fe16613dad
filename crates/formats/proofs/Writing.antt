-- Texts put one behind the other are their concatenation put at the first one's place; and a text that was put at the front is what stands
-- there.
use Rattle.std.proofs.Common.{◌≡◌, sym, ap, ◌∙◌, subst, arith, ℕ, ◌+◌, ◌≤◌, List, ◌++◌, append_assoc, length, take, drop, length-append, take_at, drop_at, length-take-le, drop-drop}
use Rattle.lists.specs.Lists.{put}
use Rattle.formats.specs.Formats.{Written}

put_put : (l : List ℕ) (a : ℕ) (x y : List ℕ) → a ≤ length l → put (put l a x) (a + length x) y ≡ put l a (x ++ y)
put_put l a x y h =
    let p = take a l ++ x in
    let r = drop (length x) (drop a l) in
    let k : length p ≡ a + length x = rw (length-append, length-take-le a l h) in
    let s : put l a x ≡ p ++ r = sym (append_assoc (take a l) x r) in
    let d : drop (length y) r ≡ drop (length (x ++ y)) (drop a l) =
    drop-drop (length y) (length x) (drop a l) ∙ ap (λ (n : ℕ). drop n (drop a l)) (sym (length-append x y)) in
    rw (s, take_at p r (a + length x) k, drop_at p r (a + length x) k, d) (simp append_assoc)

pub written_more : {x y p p' p'' : List ℕ} {a e e' : ℕ} → a ≤ length p → Written x p a p' e → Written y p' e p'' e' → Written (x ++ y) p a p'' e'
written_more {x} {y} {p} {p'} {p''} {a} {e} {e'} h u v =
    record {
      put_in = rw (v.put_in, u.put_in, u.end_is) (put_put p a x y h);
      end_is = rw (v.end_is, u.end_is, length-append) (omega arith);
    }

pub written_three : {x y z p p' p'' p''' : List ℕ} {a e e' e'' : ℕ} → a ≤ length p
    → Written x p a p' e → Written y p' e p'' e' → Written z p'' e' p''' e'' → Written (x ++ (y ++ z)) p a p''' e''
written_three {x} {y} {z} {p} {p'} {p''} {p'''} {a} {e} {e'} {e''} h u v w =
    subst (λ (text : List ℕ). Written text p a p''' e'') (append_assoc x y z) (written_more h (written_more h u v) w)

pub written_first : {text p p' : List ℕ} {e : ℕ} → Written text p 0 p' e → take e p' ≡ text
written_first {text} {p} {p'} {e} w =
    let l : length text ≡ e = omega (arith, w.end_is) in
    ap (take e) w.put_in ∙ take_at text (drop (length text) p) e l
