use Rattle.std.proofs.Common.{◌≡◌, ℕ, ◌+◌, ◌-◌, ◌*◌, ◌/◌, ◌%◌, ◌^◌, ◌<◌, ◌≤◌, List, [], ◌∷◌, ◌++◌, length, refl, sym, ap, subst, ◌∙◌, arith}
use Rattle.std.proofs.raw_atomic.Walks.{proved}
use base.Fml.{ftrue, flft}
use base.Logic.{id⊢, emp}
use contract.BorrowLft.{◌⊑◌}
use contract.Monad.{fact, fact_i}
use contract.Running.{tables}
use Prim.Native.Nat.{zero, suc}
use mir.Syntax.{named, w64, a_type, dcons, dnil}
use mir.MapTy.{inst_fn}
use mir.Val.{Val, vint}
use types.Kit.{‵, raw, ◌⊛◌, some, later, ◌$◌, ◌∵◌, !, qed, done, move, drop, use0, use1, use2, split, split3, join, fsplit, fjoin, feq_i, flt_i, pick, await, rewrite, suffices, frame}
use types.Part.{agg, sub, whole}
use types.Run.{enter, addr, bin, fld, stop, no_more, and_then, returns, size_word}
use types.ByLocal.{alloc_all, pass_all, free_all, look_at, get, get_in, through, sets, is, lands_as}
use denote.Builtin.{usize}
use denote.Exit.{yes, no}
use denote.Param.{layout, bounded, copied, param}
use denote.Param.Laws.{copied_laws, param_laws}
use denote.Plain.{uint_vals, uint_Tells}
use denote.RattleType.{owns}
use denote.Signature.{plain, mut_slice_of}
use denote.Slice.{MutSlice, Room, slice_val, mut_slice_vals, mut_slice_Tells}
use denote.Steps.{nothing, heard, only, peeks}
use denote.Triple.Walked.{Stays, walk_of, stay_dropped, Goes-spent_slice, Goes-dropped, ends_at}
use denote.Triple.Call.{calls_at}
use denote.Triple.Spec.{triple_of}
use denote.Triple.Table.{framed}
use Rattle.bit_addressing.specs.declared.length.TheConstants.{MAX_BITS}
use Rattle.bit_addressing.specs.Row.{words_for}
use denote.Laws.{shows}
use denote.Triple.Clauses.{lasts, Lasts}
use Rattle.bit_slice.specs.declared.run.Run.{Run}
use Rattle.bit_slice.specs.contracts.run.Run.{the_row as run_row}
use Rattle.bit_slice.proofs.run.Run.TheLaws.{lowers}
use native.Mathlib.Nat.{mul-le-mul_right, zero-mul, suc-mul}
use lib.ListN.{take, drop as drop_list, take-append-drop, length-drop}
use prog.Memory.{size, capped}
use prog.Capped.{capped_is}
use base.Fml.{GName}
use Rattle.std.proofs.Common.{MutBor}
use Rattle.std.proofs.Math.Nat.{mod-lt}
use borrow.Table.Elements.{at, at_mul, length-take-le}
use Rattle.bit_addressing.proofs.Rows.{width_positive}
use Rattle.bit_slice.proofs.Parts.{part_room, part_shows}
use Rattle.bit_slice.proofs.Parting.{lends_part, part_lent}
use Rattle.bit_slice.specs.contracts.slice_mut.BitSliceMut.from_parts_mut as h
use Rattle.bit_slice.proofs.slice_mut.BitSliceMut.from_parts_mut.Met.{met as made}
use Rattle.std.proofs.Common.{slice_range, Bool}
use Rattle.std.proofs.lemmas.Nat.{div-add-mod'}
use Rattle.bit_addressing.proofs.lists.Sized.{room}
use Rattle.bit_addressing.proofs.Typed.{length_row}
use Rattle.bit_slice.proofs.Shown.{shown_all}
use Rattle.bit_addressing.specs.Typed.{row}
use denote.Array.{Array}
use denote.Follow.{follows}
use Rattle.bit_slice.specs.BitSliceMut.{list_of}
use Rattle.bit_slice.specs.Lends.{with_part}
use Rattle.bit_slice.specs.declared.slice_mut.BitSliceMut.{BitSliceMut}
use Rattle.bit_slice.specs.contracts.slice_mut.BitSliceMut.{the_row as view_row}
use Rattle.bit_slice.proofs.slice_mut.BitSliceMut.TheLaws.{lowers as view_lowers}
use Rattle.bit_slice.specs.contracts.run.Run.of as g
use Rattle.bit_slice.proofs.run.Run.of.Met.{met}
use Rattle.bit_slice.specs.contracts.run.run_mut as f
use Rattle.bit_slice.proofs.run.run_mut.Statement.{statement}
use Rattle.bit_slice.proofs.run.run_mut.Code as code

-- where the product fits a word, the count is zero or the size fits too
uncapped : (i k : ℕ) → i * k < 2 ^ 64 → i * capped k ≡ i * k
uncapped zero k h = zero-mul (capped k) ∙ sym (zero-mul k)
uncapped (suc i) k h = let step = suc-mul i k in ap (λ (j : ℕ). suc i * j) (capped_is k (omega arith))

pub run_mut_spec : {M : Type 1} → statement M
run_mut_spec 𝓤 𝓛 𝓜 𝓡 wired T₀ O₀ L₁ L₂ C₁ W Wd K Kd P Pd met₁ met₂ met₃ =
    let T = copied 0 T₀ in let O = param 1 O₀ in let L = copied_laws 0 T₀ L₁ in let L' = param_laws 1 O₀ L₂ in
    let ended = f.ended T₀ O₀ W Wd K Kd P Pd in let c = f.clauses T₀ O₀ W Wd K Kd P Pd 𝓛 𝓜.mem 𝓡.returns in
    let stayed : Stays ended.signature.params ended.kept = (stay_dropped (mut_slice_of (0 ∷ []) tt (plain (λ _. T))) no, (stay_dropped (plain (λ _. usize)) yes, (stay_dropped (plain (λ _. usize)) yes, tt))) in
    let V = walk_of 𝓛 ended stayed c in
    let args = bounded (a_type ∷ a_type ∷ []) (T₀, (O₀, tt)) (dcons Wd (dcons Kd (dcons Pd dnil))) in
    proved 𝓛 ended stayed c 𝓜 𝓡 (Goes-spent_slice 𝓛 3 (0 ∷ []) tt (plain (λ _. T)), (Goes-dropped 𝓛 3 (plain (λ _. usize)) yes (λ κs x g. refl), (Goes-dropped 𝓛 3 (plain (λ _. usize)) yes (λ κs x g. refl), tt)))
    (f.Key.name args) (inst_fn args code.function) (code.unfolded 𝓤 𝓛.H 𝓜 𝓡 wired (T₀, (O₀, tt)) Wd Kd Pd)
    (λ κs. (mut_slice_vals, (uint_vals w64, (uint_vals w64, tt)))) (λ κs. (mut_slice_Tells (named 0) κs.0 T, (uint_Tells w64, (uint_Tells w64, tt)))) (λ κs qs bounds a _ are.
    let κ = κs.0 in let q = qs.0 in let b = a.0.ref_ptr.0 in let o = a.0.ref_ptr.1 in let γ = a.0.ghost_name in let xs = a.0.now in let m = a.1.0 in let e = a.1.1.0 in
    let rm : Room T (length xs) = are.0.0.1 in let fm : m < 2 ^ 64 = are.1.0.1 in let fe : e < 2 ^ 64 = are.1.1.0.1 in
    let y : V.Ghost = ((κs, qs, bounds, a, (mut_slice_vals a.0, (vint w64 m ∷ [], (vint w64 e ∷ [], tt)))), tt) in
    let κ₂ = κs.1.0 in let κ₃ = κs.1.1.0 in
    let toks = ‵ (flft κ₂ qs.1.0) ⊛ ‵ (flft κ₃ qs.1.1.0) ⊛ ‵ ftrue in
    qed 𝓛 (((‵ (flft κ q) ⊛ toks) ⊛ ‵ (owns (MutSlice (named 0) κ T ∷ usize ∷ usize ∷ []) a (mut_slice_vals a.0, (vint w64 m ∷ [], (vint w64 e ∷ [], tt))))) ∷ raw ((c κs a).requires tt) ∷ []) ∵
    move ! (1 ∷ []) $ use1 𝓛 (raw (fact 𝓤 (κ₂ ⊑ T₀.lives)) ⊛ raw (fact 𝓤 (κ₃ ⊑ O₀.lives)) ⊛ raw (fact 𝓤 (m ≤ e)) ⊛ raw (fact 𝓤 (e ≤ W.BITS * length xs)) ⊛ raw (fact 𝓤 (e - m ≤ MAX_BITS))) (id⊢ 𝓤 _) $
    split ! $ heard ! _ (λ long₂. split ! $ heard ! _ (λ long₃. split ! $ heard ! _ (λ ordered. split ! $ heard ! _ (λ inside. heard ! _ (λ few.
    split ! $ split ! $ move ! (1 ∷ []) $ split ! $ move ! (3 ∷ 0 ∷ 1 ∷ 2 ∷ []) $
    -- [the slice and the numbers; the tokens of κ₂; of κ₃ and true; of κ]
    enter ! _ _ _ _ _ $ alloc_all ! (λ l. pass_all ! refl ((tt, (tt, (record { fits = rm.0 }, tt))), ((tt, record { fits = fm }), ((tt, record { fits = fe }), tt))) $
    fsplit ! $ move ! (1 ∷ []) $ drop ! $
    -- [the slice; the token of κ₂; those of κ₃ and true; that of κ]
    let G = triple_of 𝓛 (g.signature T₀) (g.spec T₀ W Wd K Kd 𝓛 𝓜.mem 𝓡.returns) in
    let z : G.Ghost = (((κ₂, tt), (qs.1.0, tt), tt, (m, (e, tt)), (vint w64 m ∷ [], (vint w64 e ∷ [], tt))), tt) in
    nothing ! $ flt_i ! e (2 ^ 64) fe $ feq_i ! (List Val) (vint w64 e ∷ []) (vint w64 e ∷ []) refl $ fjoin ! $ join ! $
    flt_i ! m (2 ^ 64) fm $ feq_i ! (List Val) (vint w64 m ∷ []) (vint w64 m ∷ []) refl $ fjoin ! $ join ! $
    nothing ! $ move ! (3 ∷ 0 ∷ []) $ join ! $ join ! $
    use0 𝓛 (raw (fact 𝓤 (m ≤ e))) (fact_i 𝓤 _ (emp 𝓤) ordered) $ use0 𝓛 (raw (fact 𝓤 (κ₂ ⊑ T₀.lives))) (fact_i 𝓤 _ (emp 𝓤) long₂) $ join ! $ move ! (1 ∷ 0 ∷ []) $ use2 𝓛 (raw (G.pre z)) (id⊢ 𝓤 _) $
    calls_at ! (framed 𝓤 𝓛.H 𝓜 (tables 𝓤 𝓛.H 𝓜 𝓡 𝓡.env)) G (met 𝓤 𝓛 𝓜 𝓡 (code.calls-bit_slice::run::Run::of 𝓡.env wired) T₀ L₁ C₁ W Wd K Kd met₁ met₂) z
    (and_then ! (get ! refl) (and_then ! (get ! refl) (no_more !))) (λ r.
    let width = W.BITS in let first = m / width in let head = m % width in let count = words_for width (head + (e - m)) in
    use1 𝓛 (later (some (λ (u : Run). ((‵ (flft κ₂ qs.1.0) ⊛ ‵ ftrue) ⊛ ‵ (run_row.own_val u (r ∷ []))) ⊛
    some (λ (ws : Lasts (g.ended T₀ W Wd K Kd) z.0.0 z.0.3). ‵ (lasts (g.ended T₀ W Wd K Kd) z.0.0 z.0.3 ws) ⊛ raw (fact 𝓤 (u.first ≡ first)) ⊛ raw (fact 𝓤 (u.end ≡ first + count)) ⊛ raw (fact 𝓤 (u.head ≡ head)) ⊛ raw (fact 𝓤 (u.len ≡ e - m))
    ⊛ raw (fact 𝓤 (u.first < 2 ^ 64)) ⊛ raw (fact 𝓤 (u.end < 2 ^ 64)) ⊛ raw (fact 𝓤 (u.head < 2 ^ 64)) ⊛ raw (fact 𝓤 (u.len < 2 ^ 64)))))) (id⊢ 𝓤 _) $
    await ! tt $ pick ! (λ u. split ! $ split ! $ move ! (2 ∷ []) $ pick ! (λ ws. split ! $ drop ! $
    split ! $ heard ! _ (λ is_first. split ! $ heard ! _ (λ is_end. split ! $ heard ! _ (λ is_head. split ! $ heard ! _ (λ is_len. split ! $ heard ! _ (λ f₁. split ! $ heard ! _ (λ f₂. split ! $ heard ! _ (λ f₃. heard ! _ (λ f₄.
    split ! $ move ! (2 ∷ []) $
    peeks ! run_row _ (shows 𝓛 run_row) u (r ∷ []) (λ is_low. drop ! $
    lands_as ! (ap only (lowers.val_is u (r ∷ []) is_low)) refl (tt, (record { fits = f₁ }, (record { fits = f₂ }, (record { fits = f₃ }, (record { fits = f₄ }, tt))))) $
    move ! (1 ∷ []) $ drop ! $
    -- [the token of κ₂; the slice; the tokens of κ₃ and true; that of κ]
    let s : ℕ = size (layout T₀) in
    let fit : length xs * s < 2 ^ 63 = rm.1 in
    let positive = width_positive width met₁.width in
    let fits : m + (e - m) ≤ width * length xs = omega (arith, ordered, inside) in
    let there : first + count ≤ length xs = part_room width (length xs) m (e - m) positive fits in
    let end : ℕ = first + count in let n : ℕ = end - first in
    let short : first ≤ length xs = omega (arith, there) in
    let low : u.first ≤ length xs = omega (arith, short, is_first) in
    let up : u.first ≤ u.end = omega (arith, is_first, is_end) in
    let within : u.first * s ≤ length xs * s = mul-le-mul_right s low in
    let fs : u.first * s < 2 ^ 64 = omega (arith, within, fit) in
    let fr : u.end - u.first < 2 ^ 64 = omega (arith, f₂) in
    let front : List T₀.Denot = take first xs in let mid : List T₀.Denot = take n (drop_list first xs) in let back : List T₀.Denot = drop_list n (drop_list first xs) in
    let lf : length front ≡ u.first = length-take-le first xs short ∙ sym is_first in
    let lb : length (drop_list first xs) ≡ length xs - first = length-drop first xs in
    let on : at o s (length front) ≡ u.first * s + o = at_mul o s (length front) ∙ ap (λ (k : ℕ). k * s + o) lf in
    let cut : xs ≡ front ++ (mid ++ back) = sym (take-append-drop first xs) ∙ ap (λ (l : List T₀.Denot). front ++ l) (sym (take-append-drop n (drop_list first xs))) in
    let exact : length mid ≡ n = length-take-le n (drop_list first xs) (omega (arith, lb, there)) in
    let long : length mid ≡ u.end - u.first = omega (arith, exact, is_first, is_end) in
    let fewer : length mid ≤ length xs = omega (arith, exact, there) in
    let less : length mid * s ≤ length xs * s = mul-le-mul_right s fewer in
    let fm' : length mid < 2 ^ 64 = omega (arith, long, fr) in
    let roomy : Room T (length mid) = (fm', omega (arith, less, fit)) in
    let p : ℕ = u.first * s + o in
    let part : GName → MutBor (List T₀.Denot) = λ δ. record { ref_ptr = (b, p); ghost_name = δ; now = mid } in
    sets ! (is ! (bin ! (get_in ! (fld ! refl (stop !)) (sub ! 0 refl (whole !))) (size_word !) (record { fits = subst (λ (k : ℕ). k < 2 ^ 64) (sym (uncapped u.first s fs)) fs })) (ap (vint w64) (uncapped u.first s fs))) refl (tt, record { fits = fs }) $
    sets ! (bin ! (get_in ! (fld ! refl (stop !)) (sub ! 0 refl (whole !))) (get ! refl) tt) refl (tt, tt) $
    sets ! (bin ! (get_in ! (fld ! refl (stop !)) (sub ! 1 refl (whole !))) (get_in ! (fld ! refl (stop !)) (sub ! 0 refl (whole !))) up) refl (tt, record { fits = fr }) $
    sets ! (addr ! (through ! refl (stop !))) refl (tt, tt) $
    sets ! (agg ! (and_then ! (get ! refl) (and_then ! (get ! refl) (no_more !)))) refl (tt, (tt, (record { fits = fr }, tt))) $
    move ! (1 ∷ 3 ∷ 0 ∷ 2 ∷ []) $
    use2 𝓛 (later (some (part_lent 𝓛 (named 0) κ q b o γ T xs front mid back cut p on))) (lends_part 𝓛 (named 0) κ q b o γ T xs front mid back cut p on roomy (mut_slice_vals a.0)) $ await ! tt $ pick ! (λ δ. split3 ! $
    rewrite ! 0 (λ (k : ℕ). ‵ ((MutSlice (named 0) κ T).own_val (part δ) (slice_val (b, p) k ∷ []))) long refl $
    -- [the part; the token of κ; what the words follow; the token of κ₂; those of κ₃ and true]
    let H = triple_of 𝓛 (h.signature T₀ O₀ W Wd K Kd P Pd) (h.spec T₀ O₀ W Wd K Kd P Pd 𝓛 𝓜.mem 𝓡.returns) in
    let z' : H.Ghost = (((κ, (κ₂, (κ₃, tt))), (q, (qs.1.0, (qs.1.1.0, tt))), bounds, (part δ, (u.head, (u.len, tt))), (slice_val (b, p) (u.end - u.first) ∷ [], (vint w64 u.head ∷ [], (vint w64 u.len ∷ [], tt)))), tt) in
    let in_word : u.head < width = omega (arith, is_head, mod-lt m positive) in
    let small : u.len ≤ MAX_BITS = omega (arith, is_len, few) in
    let enough : length mid ≡ words_for width (u.head + u.len) = exact ∙ (let whole_count : n ≡ count = omega arith in whole_count) ∙ ap (λ (k : ℕ). words_for width (k + (e - m))) (sym is_head) ∙ ap (λ (k : ℕ). words_for width (u.head + k)) (sym is_len) in
    nothing ! $ flt_i ! u.len (2 ^ 64) f₄ $ feq_i ! (List Val) (vint w64 u.len ∷ []) (vint w64 u.len ∷ []) refl $ fjoin ! $ join ! $
    flt_i ! u.head (2 ^ 64) f₃ $ feq_i ! (List Val) (vint w64 u.head ∷ []) (vint w64 u.head ∷ []) refl $ fjoin ! $ join ! $ move ! (1 ∷ 0 ∷ []) $ join ! $
    move ! (3 ∷ 4 ∷ []) $ join ! $ move ! (2 ∷ 0 ∷ []) $ join ! $ join ! $
    use0 𝓛 (raw (fact 𝓤 (length mid ≡ words_for width (u.head + u.len)))) (fact_i 𝓤 _ (emp 𝓤) enough) $ use0 𝓛 (raw (fact 𝓤 (u.len ≤ MAX_BITS))) (fact_i 𝓤 _ (emp 𝓤) small) $ join ! $
    use0 𝓛 (raw (fact 𝓤 (u.head < width))) (fact_i 𝓤 _ (emp 𝓤) in_word) $ join ! $
    use0 𝓛 (raw (fact 𝓤 (κ₃ ⊑ O₀.lives))) (fact_i 𝓤 _ (emp 𝓤) long₃) $ join ! $
    use0 𝓛 (raw (fact 𝓤 (κ₂ ⊑ T₀.lives))) (fact_i 𝓤 _ (emp 𝓤) long₂) $ join ! $ move ! (1 ∷ 0 ∷ []) $ use2 𝓛 (raw (H.pre z')) (id⊢ 𝓤 _) $
    calls_at ! (framed 𝓤 𝓛.H 𝓜 (tables 𝓤 𝓛.H 𝓜 𝓡 𝓡.env)) H (made 𝓤 𝓛 𝓜 𝓡 (code.calls-bit_slice::slice_mut::BitSliceMut::from_parts_mut 𝓡.env wired) T₀ O₀ L₁ L₂ C₁ W Wd K Kd P Pd met₁ met₂ met₃) z'
    (and_then ! (get ! refl) (and_then ! (get_in ! (fld ! refl (stop !)) (sub ! 2 refl (whole !))) (and_then ! (get_in ! (fld ! refl (stop !)) (sub ! 3 refl (whole !))) (no_more !)))) (λ r'.
    let C = view_row (record { mir = named 0; lft = κ }) T O W P in
    use1 𝓛 (later (some (λ (v : BitSliceMut T₀.Denot O₀.Denot W P). ((‵ (flft κ q) ⊛ toks) ⊛ ‵ (C.own_val v (r' ∷ []))) ⊛
    some (λ (ws : Lasts (h.ended T₀ O₀ W Wd K Kd P Pd) z'.0.0 z'.0.3). ‵ (lasts (h.ended T₀ O₀ W Wd K Kd P Pd) z'.0.0 z'.0.3 ws) ⊛ raw (fact 𝓤 (v.words.ghost_name ≡ δ)) ⊛ raw (fact 𝓤 (v.words.now ≡ mid))
    ⊛ raw (fact 𝓤 (v.head ≡ u.head)) ⊛ raw (fact 𝓤 (v.len ≡ u.len)) ⊛ raw (fact 𝓤 (list_of v ≡ slice_range (row W P mid) u.head (u.head + u.len))))))) (id⊢ 𝓤 _) $
    await ! tt $ pick ! (λ v. split ! $ split ! $ move ! (2 ∷ []) $ pick ! (λ ws. split ! $ drop ! $
    split ! $ heard ! _ (λ same. split ! $ heard ! _ (λ words. split ! $ heard ! _ (λ head'. split ! $ heard ! _ (λ len'. heard ! _ (λ list.
    -- [the tokens; the view; what the words follow]
    rewrite ! 2 (λ (ε : GName). ‵ (follows (Array T 0) (Array T 0) γ ε (with_part xs first end))) (sym same) refl $ move ! (1 ∷ []) $
    let low' = view_lowers (record { mir = named 0; lft = κ }) T O W P L L' in
    peeks ! C _ (shows 𝓛 C) v (r' ∷ []) (λ is_low'.
    rewrite ! 0 (λ (us : List Val). ‵ (C.own_val v us)) (low'.val_is v (r' ∷ []) is_low') refl $
    lands_as ! (ap only (low'.val_is v (r' ∷ []) is_low')) refl (tt, ((tt, (record { fits = subst (λ (ws : List T.Denot). length ws < 2 ^ 64) (sym words) fm' }, tt)), (record { fits = subst (λ (k : ℕ). k < 2 ^ 64) (sym head') f₃ }, (record { fits = subst (λ (k : ℕ). k < 2 ^ 64) (sym len') f₄ }, (tt, tt))))) $
    returns ! (look_at ! 0 refl) $ free_all ! refl $
    move ! (1 ∷ []) $ split ! $ move ! (2 ∷ 0 ∷ 3 ∷ 1 ∷ []) $
    let bits = row W P in
    let all : 0 + width * length xs ≤ width * length xs = omega arith in
    let begin : m / width * width + m % width ≡ 0 + m = omega (arith, div-add-mod' m width) in
    let shown : list_of v ≡ slice_range (bits xs) m e =
    list ∙ ap (λ (k : ℕ). slice_range (bits mid) k (k + u.len)) is_head ∙ ap (λ (k : ℕ). slice_range (bits mid) head (head + k)) is_len
    ∙ part_shows W.value P.place width xs 0 (width * length xs) m e first count head positive all ordered inside begin ((room width (head + (e - m)) positive).0) there
    ∙ ap (λ (l : List Bool). slice_range l m e) (shown_all (bits xs) (width * length xs) (sym (length_row W.value P.place width xs))) in
    suffices ! _ (ends_at 𝓛 ended stayed c y (low'.lowered v) v (tt, (tt, (tt, tt))) (tt, (tt, (tt, tt)))) $
    nothing ! $ nothing ! $ fjoin ! $ nothing ! $ fjoin ! $ nothing ! $ fjoin ! $ join ! $ move ! (1 ∷ 3 ∷ []) $ join ! $ join ! $ frame ! $
    use0 𝓛 (raw (fact 𝓤 (list_of v ≡ slice_range (bits xs) m e))) (fact_i 𝓤 _ (emp 𝓤) shown) $ use0 𝓛 (raw (fact 𝓤 (v.len ≡ e - m))) (fact_i 𝓤 _ (emp 𝓤) (len' ∙ is_len)) $
    use0 𝓛 (raw (fact 𝓤 (v.head ≡ head))) (fact_i 𝓤 _ (emp 𝓤) (head' ∙ is_head)) $ use0 𝓛 (raw (fact 𝓤 (v.words.now ≡ slice_range xs first (first + count)))) (fact_i 𝓤 _ (emp 𝓤) words) $
    move ! (4 ∷ []) $ done !)))))))))))))))))))))))))))))
