use Rattle.std.proofs.Common.{◌≡◌, ◌+◌, ◌*◌, ◌^◌, ◌≤◌, List, [], ◌∷◌, length, refl, ap}
use Rattle.std.proofs.raw_atomic.Walks.{proved}
use base.Fraction.{full_share}
use base.Logic.{emp}
use contract.Monad.{fact, fact_i}
use base.Fml.{GName, ftrue, flft, fat}
use mir.Syntax.{Ty, ty_ref, named, erased, mut}
use mir.Val.{Val}
use types.Kit.{‵, raw, ◌⊛◌, some, later, ◌$◌, ◌∵◌, !, qed, done, move, keep, drop, use0, use1, use2, use3, split, split3, join, fsplit3, fjoin, fjoin3, feq_i, feq_l, flt_i, flt_l, pick, await, rewrite, suffices, frame}
use types.Mut.{open_ref, close_ref}
use types.Part.{agg, look_in, sub, whole}
use types.Run.{enter, of_opd, addr, load, stop, fld, hop, no_more, and_then, returns}
use types.ByLocal.{alloc_all, pass_all, free_all, look_at, get, through, sets}
use denote.Array.{Array}
use denote.Builtin.{RefMutOf}
use denote.Param.{layout, bounded, copied, param}
use denote.Param.Laws.{copied_laws, param_laws}
use mir.Syntax.{a_type, dcons, dnil, tcons, tnil, ty_param}
use mir.Table.{spell_with, nth_t, standing}
use mir.MapTy.{inst_fn}
use denote.Exit.{no}
use denote.Follow.{follows}
use denote.Memory.{mem, part_at}
use denote.Ref.{MutRef, mut_vals, mut_Tells}
use denote.Signature.{plain, named_lft}
use denote.Slice.{MutSlice, slice_ty, slice_val, mut_slice_vals}
use denote.Steps.{nothing, only}
use denote.Through.{renamed}
use denote.Triple.Walked.{Stays, walk_of, stay_dropped, Goes-spent_ref, ends_at}
use borrow.Table.OneValue.{part_out_at, part_in_at}
use Rattle.bit_addressing.specs.declared.length.TheConstants.{MAX_BITS}
use Rattle.bit_addressing.specs.Typed.{row}
use Rattle.bit_addressing.proofs.Rows.{width_positive}
use Rattle.bit_addressing.proofs.lists.Sized.{few_words}
use Rattle.bit_slice.specs.BitSliceMut.{list_of, row_of, words_of}
use Rattle.bit_slice.specs.Overwritten.{list_in}
use Rattle.bit_slice.specs.contracts.slice_mut.BitSliceMut.{the_row}
use Rattle.bit_slice.specs.Lends.{with_words}
use Rattle.bit_slice.proofs.Lending.{Kept, out, back, lends}
use Rattle.bit_slice.specs.contracts.lists_mut.BitSliceMutBitListMut.as_raw_mut_slice as f
use Rattle.bit_slice.proofs.lists_mut.BitSliceMutBitListMut.as_raw_mut_slice.Statement.{statement}
use Rattle.bit_slice.proofs.lists_mut.BitSliceMutBitListMut.as_raw_mut_slice.Code as code

pub as_raw_mut_slice_spec : {M : Type 1} → statement M
as_raw_mut_slice_spec 𝓤 𝓛 𝓜 𝓡 wired T₀ O₀ L₁ L₂ C₁ W Wd K Kd P Pd met₁ met₂ met₃ =
    let T = copied 0 T₀ in let O = param 1 O₀ in let L = copied_laws 0 T₀ L₁ in let L' = param_laws 1 O₀ L₂ in
    let ended = f.ended T₀ O₀ W Wd K Kd P Pd in let c = f.clauses T₀ O₀ W Wd K Kd P Pd 𝓛 𝓜.mem 𝓡.returns in
    let stayed : Stays ended.signature.params ended.kept = (stay_dropped (RefMutOf (0 ∷ []) tt (plain (λ κs. the_row (named_lft 4 1 tt κs) T O W P)) (λ _. tt)) no, tt) in
    let V = walk_of 𝓛 ended stayed c in
    let ptr : Ty = spell_with (nth_t (tcons (layout T₀) (tcons (layout O₀) tnil))) (λ τ. τ) standing (ty_ref erased mut (ty_param 0)) in
    let args = bounded (a_type ∷ a_type ∷ []) (T₀, (O₀, tt)) (dcons Wd (dcons Kd (dcons Pd dnil))) in
    proved 𝓛 ended stayed c 𝓜 𝓡 (Goes-spent_ref 𝓛 4 (0 ∷ []) tt (plain (λ κs. the_row (named_lft 4 1 tt κs) T O W P)), tt)
    (f.Key.name args) (inst_fn args code.function) (code.unfolded 𝓤 𝓛.H 𝓜 𝓡 wired (T₀, (O₀, tt)) Wd Kd Pd)
    (λ κs. (mut_vals, tt)) (λ κs. (mut_Tells (named 0) κs.0 (the_row (named_lft 4 1 tt κs) T O W P), tt)) (λ κs qs bounds a _ are.
    let κ = κs.0 in let q = qs.0 in let N = named_lft 4 1 tt κs in let R = the_row N T O W P in let F = MutSlice (named 1) κs.1.0 T in
    let b = a.0.ref_ptr.0 in let o = a.0.ref_ptr.1 in let d = a.0.now in let h = d.words in let n = length h.now in let γ = a.0.ghost_name in let vs = mut_vals a.0 in
    let y : V.Ghost = ((κs, qs, bounds, a, (vs, tt)), tt) in
    qed 𝓛 (((‵ (flft κ q) ⊛ ‵ (flft κs.1.0 qs.1.0) ⊛ ‵ (flft κs.1.1.0 qs.1.1.0) ⊛ ‵ (flft κs.1.1.1.0 qs.1.1.1.0) ⊛ ‵ ftrue) ⊛ ‵ ((MutRef (named 0) κ R).own_val a.0 vs) ⊛ ‵ ftrue) ∷ raw ((c κs a).requires tt) ∷ []) ∵
    split ! $ split ! $ move ! (2 ∷ []) $ split ! $ keep ! (0 ∷ 2 ∷ 3 ∷ []) $
    -- [self; the token of κ; the other]
    enter ! _ _ _ _ _ $ alloc_all ! (λ l. pass_all ! refl ((tt, tt), tt) $
    fsplit3 ! $ drop ! $ open_ref ! tt (mem R) {b = b} {o = o} $
    use1 𝓛 (‵ (part_at F full_share h b (o + 0)) ⊛ raw (Kept 𝓛 T O L L' W P N d b o)) (out 𝓛 T O L L' W P N d b o) $ split ! $
    use1 𝓛 (some (λ (v : Val). ‵ (fat full_share (slice_ty ptr) b (o + 0) v) ⊛ ‵ (F.own_val h (v ∷ [])))) (part_out_at 𝓛 F refl full_share h b (o + 0) (slice_ty ptr) refl) $ pick ! (λ v.
    split ! $ move ! (1 ∷ []) $ fsplit3 ! $ fsplit3 ! $ feq_l ! (λ ev. flt_l ! (λ fits. flt_l ! (λ small.
    rewrite ! 2 (λ (cv : Val). ‵ (fat full_share (slice_ty ptr) b (o + 0) cv)) (ap only ev) refl $
    -- [the slice's name and borrow; the cell of the field; what is kept of the struct; its open borrow, in three entries; the other token]
    sets ! (of_opd ! (load ! (through ! refl (fld ! refl (fld ! refl (stop !)))) (look_in ! 2 (sub ! 1 refl (whole !))))) refl (tt, record { fits = fits }) $
    sets ! (addr ! (through ! refl (fld ! refl (fld ! refl (hop ! (look_in ! 2 (sub ! 0 refl (whole !))) (stop !)))))) refl (tt, tt) $
    flt_i ! (n * (mem T).size) (2 ^ 63) small $ flt_i ! n (2 ^ 64) fits $ feq_i ! (List Val) (mut_slice_vals h) (mut_slice_vals h) refl $ fjoin3 ! $ fjoin3 ! $ move ! (1 ∷ 0 ∷ []) $
    use2 𝓛 (‵ (part_at F full_share h b (o + 0))) (part_in_at 𝓛 F refl full_share h b (o + 0) (slice_ty ptr) refl (slice_val h.ref_ptr n)) $
    use2 𝓛 (‵ (part_at R full_share d b o)) (back 𝓛 T O L L' W P N d b o h d refl) $
    close_ref ! tt (mem R) d {b = b} {o = o} $
    use3 𝓛 (later (some (λ (γ' : GName). ‵ ((MutSlice (named 0) κ T).own_val (renamed h γ') (mut_slice_vals h)) ⊛ ‵ (flft κ q) ⊛ ‵ (follows R (Array T 0) γ γ' (with_words W P d)))))
    (lends 𝓛 T O L L' W P N d b o κ q γ bounds.0 (fits, small)) $ await ! tt $ pick ! (λ γ'. split3 ! $
    -- [the result; the token of κ; what the whole follows; the other token]
    sets ! (agg ! (and_then ! (get ! refl) (and_then ! (get ! refl) (no_more !)))) refl (tt, (tt, (record { fits = fits }, tt))) $
    returns ! (look_at ! 0 refl) $ free_all ! refl $
    suffices ! _ (ends_at 𝓛 ended stayed c y (slice_val h.ref_ptr n) (renamed h γ') (tt, tt) (tt, tt)) $
    nothing ! $ nothing ! $ fjoin ! $ join ! $ move ! (1 ∷ 3 ∷ []) $ join ! $ join ! $ frame ! $
    let few : W.BITS * n ≤ MAX_BITS + 2 * W.BITS = few_words W.BITS n d.head d.len MAX_BITS (width_positive W.BITS met₁.width) d.fits.in_word d.fits.few d.fits.exact in
    use0 𝓛 (raw (fact 𝓤 (list_in W P h.now d.head d.len ≡ list_of d))) (fact_i 𝓤 _ (emp 𝓤) refl) $
    use0 𝓛 (raw (fact 𝓤 (W.BITS * n ≤ MAX_BITS + 2 * W.BITS))) (fact_i 𝓤 _ (emp 𝓤) few) $
    use0 𝓛 (raw (fact 𝓤 (d.head + d.len ≤ W.BITS * n))) (fact_i 𝓤 _ (emp 𝓤) d.fits.room) $
    use0 𝓛 (raw (fact 𝓤 (row W P h.now ≡ row_of d))) (fact_i 𝓤 _ (emp 𝓤) refl) $
    use0 𝓛 (raw (fact 𝓤 (n ≡ n))) (fact_i 𝓤 _ (emp 𝓤) refl) $
    use0 𝓛 (raw (fact 𝓤 (h.now ≡ words_of d))) (fact_i 𝓤 _ (emp 𝓤) refl) $
    move ! (6 ∷ []) $ done !)))))))
