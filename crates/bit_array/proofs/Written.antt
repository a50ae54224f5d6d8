-- A list that is written bit by bit over one that is false.
use Rattle.std.proofs.Common.{◌≡◌, ℕ, suc, ◌+◌, ◌-◌, ◌<◌, Bool, false, List, [], ◌∷◌, ◌++◌, length, replicate, set, get_or, take, sym, ◌∙◌, ap, arith, rules, append_assoc}
use Rattle.std.proofs.lemmas.List.{take_more, set-append_right, length-take}

-- one bit more is written, after which all is false
pub one_bit_more : (bits : List Bool) (i n : ℕ) → i < length bits → i < n → set (take i bits ++ replicate (n - i) false) i (get_or bits i false) ≡ take (i + 1) bits ++ replicate (n - (i + 1)) false
one_bit_more bits i n inside below =
    let b : Bool = get_or bits i false in
    let left : n - i ≡ suc (n - (i + 1)) = omega arith in
    let none : i - i ≡ 0 = omega arith in
    set-append_right (take i bits) (replicate (n - i) false) i i b (search (rules, length-take)) (omega arith)
    ∙ ap (λ m. take i bits ++ set (replicate m false) (i - i) b) left
    ∙ ap (λ m. take i bits ++ set (false ∷ replicate (n - (i + 1)) false) m b) none
    ∙ sym (append_assoc (take i bits) (b ∷ []) (replicate (n - (i + 1)) false))
    ∙ ap (λ l. l ++ replicate (n - (i + 1)) false) (sym (take_more bits i false inside))
