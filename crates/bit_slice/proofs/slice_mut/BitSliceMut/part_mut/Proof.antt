use Rattle.std.proofs.Common.{◌≡◌, ℕ, ◌+◌, ◌-◌, ◌*◌, ◌/◌, ◌%◌, ◌^◌, ◌<◌, ◌≤◌, sym, List, [], ◌∷◌, length, slice_range, refl, ap, ◌∙◌, arith}
use Rattle.std.proofs.raw_atomic.Walks.{proved}
use base.Fraction.{full_share}
use base.Fml.{GName, ftrue, flft, fat}
use base.Logic.{id⊢, emp}
use mir.Syntax.{Ty, ty_ref, ty_int, named, erased, mut, w64}
use mir.Val.{Val, vint}
use types.Kit.{‵, raw, ◌⊛◌, some, later, ◌$◌, ◌∵◌, !, qed, done, move, drop, use0, use1, use2, use3, split, split3, join, fsplit, fsplit3, fjoin, fjoin3, feq_i, feq_l, flt_i, flt_l, pick, await, rewrite, suffices, frame}
use types.Mut.{open_ref, close_ref}
use types.Part.{agg, look_in, sub, whole}
use types.Run.{enter, of_opd, addr, load, stop, fld, hop, no_more, and_then, returns, look, bin}
use types.ByLocal.{alloc_all, pass_all, free_all, look_at, get, through, sets, lands_as}
use contract.BorrowLft.{◌⊑◌}
use contract.Monad.{fact, fact_i}
use contract.Running.{tables}
use denote.Array.{Array}
use denote.Builtin.{usize, RefMutOf}
use denote.Laws.{shows}
use denote.Param.{layout, bounded, copied, param}
use denote.Param.Laws.{copied_laws, param_laws}
use mir.Syntax.{a_type, dcons, dnil, tcons, tnil, ty_param}
use mir.Table.{spell_with, nth_t, standing}
use mir.MapTy.{inst_fn}
use denote.Exit.{yes, no}
use denote.Follow.{follows, follows_then}
use denote.Memory.{mem, part_at}
use denote.Plain.{uint_vals, uint_Tells}
use denote.RattleType.{owns}
use denote.Ref.{MutRef, mut_vals, mut_Tells}
use denote.Signature.{plain, named_lft}
use denote.Slice.{MutSlice, slice_ty, slice_val, mut_slice_vals}
use denote.Steps.{nothing, only, heard, peeks}
use denote.Through.{renamed}
use denote.Triple.Call.{calls_at}
use denote.Triple.Clauses.{lasts, Lasts}
use denote.Triple.Spec.{triple_of}
use denote.Triple.Table.{framed}
use denote.Triple.Walked.{Stays, walk_of, stay_dropped, Goes-spent_ref, Goes-dropped, ends_at}
use borrow.Table.OneValue.{part_out_at, part_in_at}
use Rattle.std.proofs.Math.Nat.{mod-le}
use Rattle.bit_addressing.specs.Row.{words_for}
use Rattle.bit_addressing.specs.Typed.{row}
use Rattle.bit_addressing.specs.declared.length.TheConstants.{MAX_BITS}
use Rattle.bit_addressing.proofs.Rows.{width_positive, width_small}
use Rattle.bit_slice.specs.BitSliceMut.{list_of}
use Rattle.bit_slice.specs.declared.slice_mut.BitSliceMut.{BitSliceMut}
use Rattle.bit_slice.specs.contracts.slice_mut.BitSliceMut.{the_row}
use Rattle.bit_slice.specs.contracts.run.run_mut as g
use Rattle.bit_slice.proofs.slice_mut.BitSliceMut.TheLaws.{lowers}
use Rattle.bit_slice.proofs.run.run_mut.Met.{met}
use Rattle.bit_slice.specs.Lends.{with_words, with_part}
use Rattle.bit_slice.proofs.Lending.{Kept, out, back, lends, KeptHead, head_out, head_back}
use Rattle.bit_slice.proofs.Parts.{in_row, part_room, run_in_run, words_cut}
use Rattle.bit_slice.specs.contracts.slice_mut.BitSliceMut.part_mut as f
use Rattle.bit_slice.proofs.slice_mut.BitSliceMut.part_mut.Statement.{statement}
use Rattle.bit_slice.proofs.slice_mut.BitSliceMut.part_mut.Code as code

pub part_mut_spec : {M : Type 1} → statement M
part_mut_spec 𝓤 𝓛 𝓜 𝓡 wired T₀ O₀ L₁ L₂ C₁ W Wd K Kd P Pd met₁ met₂ met₃ =
    let T = copied 0 T₀ in let O = param 1 O₀ in let L = copied_laws 0 T₀ L₁ in let L' = param_laws 1 O₀ L₂ in
    let ended = f.ended T₀ O₀ W Wd K Kd P Pd in let c = f.clauses T₀ O₀ W Wd K Kd P Pd 𝓛 𝓜.mem 𝓡.returns in
    let stayed : Stays ended.signature.params ended.kept = (stay_dropped (RefMutOf (0 ∷ []) tt (plain (λ κs. the_row (named_lft 4 1 tt κs) T O W P)) (λ _. tt)) no, (stay_dropped (plain (λ _. usize)) yes, (stay_dropped (plain (λ _. usize)) yes, tt))) in
    let V = walk_of 𝓛 ended stayed c in
    let ptr : Ty = spell_with (nth_t (tcons (layout T₀) (tcons (layout O₀) tnil))) (λ τ. τ) standing (ty_ref erased mut (ty_param 0)) in
    let args = bounded (a_type ∷ a_type ∷ []) (T₀, (O₀, tt)) (dcons Wd (dcons Kd (dcons Pd dnil))) in
    proved 𝓛 ended stayed c 𝓜 𝓡 (Goes-spent_ref 𝓛 4 (0 ∷ []) tt (plain (λ κs. the_row (named_lft 4 1 tt κs) T O W P)), (Goes-dropped 𝓛 4 (plain (λ _. usize)) yes (λ κs x g. refl), (Goes-dropped 𝓛 4 (plain (λ _. usize)) yes (λ κs x g. refl), tt)))
    (f.Key.name args) (inst_fn args code.function) (code.unfolded 𝓤 𝓛.H 𝓜 𝓡 wired (T₀, (O₀, tt)) Wd Kd Pd)
    (λ κs. (mut_vals, (uint_vals w64, (uint_vals w64, tt)))) (λ κs. (mut_Tells (named 0) κs.0 (the_row (named_lft 4 1 tt κs) T O W P), (uint_Tells w64, (uint_Tells w64, tt)))) (λ κs qs bounds a _ are.
    let κ = κs.0 in let q = qs.0 in let N = named_lft 4 1 tt κs in let R = the_row N T O W P in let F = MutSlice (named 1) κs.1.0 T in
    let b = a.0.ref_ptr.0 in let o = a.0.ref_ptr.1 in let d = a.0.now in let h = d.words in let n = length h.now in let γ = a.0.ghost_name in let vs = mut_vals a.0 in
    let m = a.1.0 in let e = a.1.1.0 in let fm : m < 2 ^ 64 = are.1.0.1 in let fe : e < 2 ^ 64 = are.1.1.0.1 in
    let y : V.Ghost = ((κs, qs, bounds, a, (vs, (vint w64 m ∷ [], (vint w64 e ∷ [], tt)))), tt) in
    let κ₂ = κs.1.1.0 in let κ₃ = κs.1.1.1.0 in
    let toks = ‵ (flft κ₂ qs.1.1.0) ⊛ ‵ (flft κ₃ qs.1.1.1.0) ⊛ ‵ ftrue in
    qed 𝓛 (((‵ (flft κ q) ⊛ ‵ (flft κs.1.0 qs.1.0) ⊛ toks) ⊛ ‵ (owns (MutRef (named 0) κ R ∷ usize ∷ usize ∷ []) a (vs, (vint w64 m ∷ [], (vint w64 e ∷ [], tt))))) ∷ raw ((c κs a).requires tt) ∷ []) ∵
    move ! (1 ∷ []) $ use1 𝓛 (raw (fact 𝓤 (κ₂ ⊑ T₀.lives)) ⊛ raw (fact 𝓤 (κ₃ ⊑ O₀.lives)) ⊛ raw (fact 𝓤 (m ≤ e)) ⊛ raw (fact 𝓤 (e ≤ d.len))) (id⊢ 𝓤 _) $
    split ! $ heard ! _ (λ long₂. split ! $ heard ! _ (λ long₃. split ! $ heard ! _ (λ ordered. heard ! _ (λ inside.
    split ! $ split ! $ move ! (1 ∷ []) $ split ! $ move ! (3 ∷ 2 ∷ 0 ∷ 1 ∷ []) $
    let width = W.BITS in let m' : ℕ = d.head + m in let e' : ℕ = d.head + e in
    let positive = width_positive width met₁.width in
    let most : d.head + d.len < 2 ^ 64 = omega (arith, d.fits.in_word, d.fits.few, width_small width met₁.width) in
    let fm' : m' < 2 ^ 64 = omega (arith, most, ordered, inside) in
    let fe' : e' < 2 ^ 64 = omega (arith, most, inside) in
    -- [self and the numbers; the token of κ; the token of the words' lifetime; the tokens of the types' lifetimes]
    enter ! _ _ _ _ _ $ alloc_all ! (λ l. pass_all ! refl ((tt, tt), ((tt, record { fits = fm }), ((tt, record { fits = fe }), tt))) $
    fsplit ! $ move ! (1 ∷ []) $ drop ! $
    fsplit3 ! $ drop ! $ open_ref ! tt (mem R) {b = b} {o = o} $
    use1 𝓛 (‵ (part_at usize full_share d.head b (o + 16)) ⊛ raw (KeptHead 𝓛 T O L L' W P N d b o)) (head_out 𝓛 T O L L' W P N d b o) $ split ! $
    use1 𝓛 (some (λ (v : Val). ‵ (fat full_share (ty_int w64) b (o + 16) v) ⊛ ‵ (usize.own_val d.head (v ∷ [])))) (part_out_at 𝓛 usize refl full_share d.head b (o + 16) (ty_int w64) refl) $ pick ! (λ v₁.
    split ! $ move ! (1 ∷ []) $ fsplit ! $ feq_l ! (λ e₁. flt_l ! (λ fits₁. rewrite ! 0 (λ (cv : Val). ‵ (fat full_share (ty_int w64) b (o + 16) cv)) (ap only e₁) refl $
    sets ! (of_opd ! (load ! (through ! refl (fld ! refl (stop !))) (look ! 0 refl))) refl (tt, record { fits = fits₁ }) $
    flt_i ! d.head (2 ^ 64) fits₁ $ feq_i ! (List Val) (vint w64 d.head ∷ []) (vint w64 d.head ∷ []) refl $ fjoin ! $ move ! (1 ∷ 0 ∷ []) $
    use2 𝓛 (‵ (part_at usize full_share d.head b (o + 16))) (part_in_at 𝓛 usize refl full_share d.head b (o + 16) (ty_int w64) refl (vint w64 d.head)) $
    use2 𝓛 (‵ (part_at R full_share d b o)) (head_back 𝓛 T O L L' W P N d b o) $
    sets ! (bin ! (get ! refl) (get ! refl) (record { fits = fm' })) refl (tt, record { fits = fm' }) $
    sets ! (bin ! (get ! refl) (get ! refl) (record { fits = fe' })) refl (tt, record { fits = fe' }) $
    use1 𝓛 (‵ (part_at F full_share h b (o + 0)) ⊛ raw (Kept 𝓛 T O L L' W P N d b o)) (out 𝓛 T O L L' W P N d b o) $ split ! $
    use1 𝓛 (some (λ (v : Val). ‵ (fat full_share (slice_ty ptr) b (o + 0) v) ⊛ ‵ (F.own_val h (v ∷ [])))) (part_out_at 𝓛 F refl full_share h b (o + 0) (slice_ty ptr) refl) $ pick ! (λ v.
    split ! $ move ! (1 ∷ []) $ fsplit3 ! $ fsplit3 ! $ feq_l ! (λ ev. flt_l ! (λ fits. flt_l ! (λ small.
    rewrite ! 2 (λ (cv : Val). ‵ (fat full_share (slice_ty ptr) b (o + 0) cv)) (ap only ev) refl $
    -- [the slice's name and borrow; the cell of the field; what is kept of the struct; its open borrow, in three entries; the other tokens]
    sets ! (of_opd ! (load ! (through ! refl (fld ! refl (fld ! refl (stop !)))) (look_in ! 2 (sub ! 1 refl (whole !))))) refl (tt, record { fits = fits }) $
    sets ! (addr ! (through ! refl (fld ! refl (fld ! refl (hop ! (look_in ! 2 (sub ! 0 refl (whole !))) (stop !)))))) refl (tt, tt) $
    flt_i ! (n * (mem T).size) (2 ^ 63) small $ flt_i ! n (2 ^ 64) fits $ feq_i ! (List Val) (mut_slice_vals h) (mut_slice_vals h) refl $ fjoin3 ! $ fjoin3 ! $ move ! (1 ∷ 0 ∷ []) $
    use2 𝓛 (‵ (part_at F full_share h b (o + 0))) (part_in_at 𝓛 F refl full_share h b (o + 0) (slice_ty ptr) refl (slice_val h.ref_ptr n)) $
    use2 𝓛 (‵ (part_at R full_share d b o)) (back 𝓛 T O L L' W P N d b o h d refl) $
    close_ref ! tt (mem R) d {b = b} {o = o} $
    use3 𝓛 (later (some (λ (γ' : GName). ‵ ((MutSlice (named 0) κ T).own_val (renamed h γ') (mut_slice_vals h)) ⊛ ‵ (flft κ q) ⊛ ‵ (follows R (Array T 0) γ γ' (with_words W P d)))))
    (lends 𝓛 T O L L' W P N d b o κ q γ bounds.0 (fits, small)) $ await ! tt $ pick ! (λ γ'. split3 ! $
    -- [the slice; the token of κ; what the whole follows; the token of the words' lifetime; the tokens of the types' lifetimes]
    sets ! (agg ! (and_then ! (get ! refl) (and_then ! (get ! refl) (no_more !)))) refl (tt, (tt, (record { fits = fits }, tt))) $
    let G = triple_of 𝓛 (g.signature T₀ O₀ W Wd K Kd P Pd) (g.spec T₀ O₀ W Wd K Kd P Pd 𝓛 𝓜.mem 𝓡.returns) in
    let z : G.Ghost = (((κ, (κ₂, (κ₃, tt))), (q, (qs.1.1.0, (qs.1.1.1.0, tt))), (bounds.1.0, tt), (renamed h γ', (m', (e', tt))), (mut_slice_vals h, (vint w64 m' ∷ [], (vint w64 e' ∷ [], tt)))), tt) in
    let room = d.fits.room in
    let low : m' ≤ e' = omega (arith, ordered) in
    let up : e' ≤ width * n = omega (arith, inside, room) in
    let few : e' - m' ≤ MAX_BITS = omega (arith, inside, d.fits.few) in
    let span : e' - m' ≡ e - m = omega arith in
    let within : m' + (e' - m') ≤ width * n = omega (arith, low, up) in
    let there : m' / width + words_for width (m' % width + (e' - m')) ≤ n = part_room width n m' (e' - m') positive within in
    let first : ℕ = m' / width in let count : ℕ = words_for width (m' % width + (e' - m')) in
    nothing ! $ flt_i ! e' (2 ^ 64) fe' $ feq_i ! (List Val) (vint w64 e' ∷ []) (vint w64 e' ∷ []) refl $ fjoin ! $ join ! $
    flt_i ! m' (2 ^ 64) fm' $ feq_i ! (List Val) (vint w64 m' ∷ []) (vint w64 m' ∷ []) refl $ fjoin ! $ join ! $ move ! (1 ∷ 0 ∷ []) $ join ! $
    move ! (1 ∷ 4 ∷ 0 ∷ []) $ join ! $ join ! $
    use0 𝓛 (raw (fact 𝓤 (e' - m' ≤ MAX_BITS))) (fact_i 𝓤 _ (emp 𝓤) few) $ use0 𝓛 (raw (fact 𝓤 (e' ≤ width * n))) (fact_i 𝓤 _ (emp 𝓤) up) $ join ! $
    use0 𝓛 (raw (fact 𝓤 (m' ≤ e'))) (fact_i 𝓤 _ (emp 𝓤) low) $ join ! $
    use0 𝓛 (raw (fact 𝓤 (κ₃ ⊑ O₀.lives))) (fact_i 𝓤 _ (emp 𝓤) long₃) $ join ! $
    use0 𝓛 (raw (fact 𝓤 (κ₂ ⊑ T₀.lives))) (fact_i 𝓤 _ (emp 𝓤) long₂) $ join ! $ move ! (1 ∷ 0 ∷ []) $ use2 𝓛 (raw (G.pre z)) (id⊢ 𝓤 _) $
    calls_at ! (framed 𝓤 𝓛.H 𝓜 (tables 𝓤 𝓛.H 𝓜 𝓡 𝓡.env)) G (met 𝓤 𝓛 𝓜 𝓡 (code.calls-bit_slice::run::run_mut 𝓡.env wired) T₀ O₀ L₁ L₂ C₁ W Wd K Kd P Pd met₁ met₂ met₃) z
    (and_then ! (get ! refl) (and_then ! (get ! refl) (and_then ! (get ! refl) (no_more !)))) (λ r.
    let C = the_row (record { mir = named 0; lft = κ }) T O W P in
    use1 𝓛 (later (some (λ (u : BitSliceMut T₀.Denot O₀.Denot W P). ((‵ (flft κ q) ⊛ toks) ⊛ ‵ (C.own_val u (r ∷ []))) ⊛
    some (λ (ws : Lasts (g.ended T₀ O₀ W Wd K Kd P Pd) z.0.0 z.0.3). ‵ (lasts (g.ended T₀ O₀ W Wd K Kd P Pd) z.0.0 z.0.3 ws) ⊛ ‵ (follows (Array T 0) (Array T 0) γ' u.words.ghost_name (with_part h.now first (first + count)))
    ⊛ raw (fact 𝓤 (u.words.now ≡ slice_range h.now first (first + count))) ⊛ raw (fact 𝓤 (u.head ≡ m' % width)) ⊛ raw (fact 𝓤 (u.len ≡ e' - m')) ⊛ raw (fact 𝓤 (list_of u ≡ slice_range (row W P h.now) m' e')))))) (id⊢ 𝓤 _) $
    await ! tt $ pick ! (λ u. split ! $ split ! $ move ! (2 ∷ []) $ pick ! (λ ws. split ! $ drop ! $
    split ! $ move ! (1 ∷ []) $ split ! $ heard ! _ (λ words. split ! $ heard ! _ (λ head. split ! $ heard ! _ (λ len. heard ! _ (λ list.
    -- [what the words follow; the tokens of κ and of the types' lifetimes; the part; what the whole follows; the token of the words' lifetime]
    move ! (3 ∷ 0 ∷ []) $
    use2 𝓛 (‵ (follows R (Array T 0) γ u.words.ghost_name (λ ws. with_words W P d (with_part h.now first (first + count) ws)))) (follows_then 𝓛 R (Array T 0) (Array T 0) (with_words W P d) (with_part h.now first (first + count)) γ γ' u.words.ghost_name) $
    rewrite ! 0 (λ (k : ℕ). ‵ (follows R (Array T 0) γ u.words.ghost_name (λ ws. with_words W P d (with_part h.now first (first + words_for width (m' % width + k)) ws)))) span refl $
    move ! (2 ∷ 1 ∷ 0 ∷ []) $
    let lower = lowers (record { mir = named 0; lft = κ }) T O W P L L' in
    let long : length u.words.now ≡ count = ap length words ∙ words_cut h.now first count there in
    let fw : length u.words.now < 2 ^ 64 = omega (arith, long, there, fits) in
    let fh : u.head < 2 ^ 64 = omega (arith, head, fm', mod-le m' width) in
    let fl : u.len < 2 ^ 64 = omega (arith, len, fe') in
    peeks ! C _ (shows 𝓛 C) u (r ∷ []) (λ is.
    rewrite ! 0 (λ (us : List Val). ‵ (C.own_val u us)) (lower.val_is u (r ∷ []) is) refl $
    lands_as ! (ap only (lower.val_is u (r ∷ []) is)) refl (tt, ((tt, (record { fits = fw }, tt)), (record { fits = fh }, (record { fits = fl }, (tt, tt))))) $
    returns ! (look_at ! 0 refl) $ free_all ! refl $ move ! (1 ∷ []) $ split ! $ move ! (4 ∷ 1 ∷ []) $ join ! $ move ! (2 ∷ 1 ∷ 3 ∷ 0 ∷ []) $
    suffices ! _ (ends_at 𝓛 ended stayed c y (lower.lowered u) u (tt, (tt, (tt, tt))) (tt, (tt, (tt, tt)))) $
    nothing ! $ nothing ! $ fjoin ! $ nothing ! $ fjoin ! $ nothing ! $ fjoin ! $ join ! $ move ! (1 ∷ 3 ∷ []) $ join ! $ join ! $ frame ! $
    let bits = row W P h.now in
    let shown : list_of u ≡ slice_range (slice_range bits d.head (d.head + d.len)) m e =
    list ∙ sym (run_in_run bits d.head (d.head + d.len) m e (omega (arith, inside)) (in_row W P h.now (d.head + d.len) room) ordered) in
    let lent : u.words.now ≡ slice_range h.now first (first + words_for width (u.head + u.len)) =
    words ∙ ap (λ (k : ℕ). slice_range h.now first (first + words_for width (k + (e' - m')))) (sym head) ∙ ap (λ (k : ℕ). slice_range h.now first (first + words_for width (u.head + k))) (sym len) in
    use0 𝓛 (raw (fact 𝓤 (list_of u ≡ slice_range (slice_range bits d.head (d.head + d.len)) m e))) (fact_i 𝓤 _ (emp 𝓤) shown) $
    use0 𝓛 (raw (fact 𝓤 (u.len ≡ e - m))) (fact_i 𝓤 _ (emp 𝓤) (len ∙ span)) $ use0 𝓛 (raw (fact 𝓤 (u.head ≡ m' % width))) (fact_i 𝓤 _ (emp 𝓤) head) $
    use0 𝓛 (raw (fact 𝓤 (u.words.now ≡ slice_range h.now first (first + words_for width (u.head + u.len))))) (fact_i 𝓤 _ (emp 𝓤) lent) $
    move ! (4 ∷ []) $ done !))))))))))))))))))))))
