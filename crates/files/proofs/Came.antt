-- Bytes that came from a reader behind those that came before: together they are the first that it had left. Past the part that was lent
-- nothing changes.
use Rattle.std.proofs.Common.{◌≡◌, ap, ◌∙◌, sym, subst, arith, ℕ, ◌+◌, ◌-◌, ◌≤◌, List, ◌++◌, append_assoc, length, take, drop, take-add, length-append, length-take-le, drop-drop, drop_at}
use Rattle.std.specs.Prelude.{Option}
use Rattle.std.specs.Io.KnownBytes.{Consumes}
use Rattle.std.proofs.KnownBytes.{Consumes-trans}

pub came_more : (left left' left'' : Option (List ℕ)) (before now : List ℕ) (at got : ℕ) → Consumes left left' (take at before)
    → take at now ≡ take at before → Consumes left' left'' (take got (drop at now)) → Consumes left left'' (take (at + got) now)
came_more left left' left'' before now at got c e d =
    let front : Consumes left left' (take at now) = subst (Consumes left left') (sym e) c in
    subst (Consumes left left'') (sym (take-add at got now)) (Consumes-trans left left' left'' _ _ front d)

pub past_stays : (l part : List ℕ) (at k most : ℕ) → at + k ≤ length l → length part ≡ k → k ≤ most
    → drop (at + most) (take at l ++ (part ++ drop k (drop at l))) ≡ drop (at + most) l
past_stays l part at k most h e m =
    let now = take at l ++ (part ++ drop k (drop at l)) in
    let n : at + most ≡ (at + k) + (most - k) = omega arith in
    let front : length (take at l ++ part) ≡ at + k = length-append (take at l) part ∙ ap (λ (j : ℕ). j + length part) (length-take-le at l (omega (arith, h))) ∙ ap (λ (j : ℕ). at + j) e in
    let rest : drop (at + k) now ≡ drop (at + k) l =
    ap (drop (at + k)) (sym (append_assoc (take at l) part (drop k (drop at l)))) ∙ drop_at (take at l ++ part) (drop k (drop at l)) (at + k) front ∙ drop-drop k at l in
    ap (λ (j : ℕ). drop j now) n ∙ sym (drop-drop (most - k) (at + k) now) ∙ ap (drop (most - k)) rest ∙ drop-drop (most - k) (at + k) l ∙ sym (ap (λ (j : ℕ). drop j l) n)
