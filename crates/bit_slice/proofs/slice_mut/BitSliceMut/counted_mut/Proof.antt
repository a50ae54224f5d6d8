use Rattle.std.proofs.Common.{◌≡◌, ℕ, ◌+◌, ◌*◌, ◌^◌, ◌<◌, sym, subst, List, [], ◌∷◌, length, slice_range, refl, ap, ◌∙◌}
use Rattle.std.proofs.raw_atomic.Walks.{proved}
use base.Fraction.{full_share}
use base.Fml.{GName, ftrue, flft, fat}
use base.Logic.{id⊢, emp}
use mir.Syntax.{Ty, ty_ref, ty_int, named, erased, mut, w64}
use mir.Val.{Val, vint}
use types.Kit.{‵, raw, ◌⊛◌, some, later, ◌$◌, ◌∵◌, !, qed, done, move, drop, use0, use1, use2, use3, split, split3, join, fsplit, fsplit3, fjoin, fjoin3, feq_i, feq_l, flt_i, flt_l, pick, await, rewrite, suffices, frame}
use types.Mut.{open_ref, close_ref}
use types.Part.{agg, look_in, sub, whole}
use types.Run.{enter, of_opd, addr, load, stop, fld, hop, no_more, and_then, returns, look}
use types.ByLocal.{alloc_all, pass_all, free_all, look_at, get, through, sets, lands_as}
use contract.BorrowLft.{◌⊑◌}
use contract.Monad.{fact, fact_i}
use contract.Running.{tables}
use denote.Array.{Array}
use denote.Builtin.{usize, RefMutOf}
use denote.Laws.{shows}
use denote.Param.{layout, bounded, copied, param}
use denote.Param.Laws.{copied_laws, param_laws}
use mir.Syntax.{a_type, dcons, dnil, tcons, tnil, ty_param}
use mir.Table.{spell_with, nth_t, standing}
use mir.MapTy.{inst_fn}
use denote.Exit.{no}
use denote.Follow.{follows}
use denote.Memory.{mem, part_at}
use denote.Ref.{MutRef, mut_vals, mut_Tells}
use denote.Signature.{plain, named_lft}
use denote.Slice.{MutSlice, slice_ty, slice_val, mut_slice_vals}
use denote.Steps.{nothing, only, heard, peeks}
use denote.Through.{renamed}
use denote.Triple.Call.{calls_at}
use denote.Triple.Clauses.{lasts, Lasts}
use denote.Triple.Spec.{triple_of}
use denote.Triple.Table.{framed}
use denote.Triple.Walked.{Stays, walk_of, stay_dropped, Goes-spent_ref, ends_at}
use borrow.Table.OneValue.{part_out_at, part_in_at}
use Rattle.bit_addressing.specs.Typed.{row}
use Rattle.bit_slice.specs.Fits.{IsView}
use Rattle.bit_slice.specs.contracts.slice_mut.BitSliceMut.{the_row}
use Rattle.bit_slice.specs.declared.counted_mut.CountedMut.{CountedMut}
use Rattle.bit_slice.specs.contracts.counted_mut.CountedMut.{the_row as counted_row}
use Rattle.bit_slice.specs.contracts.counted_mut.CountedMut.of as g
use Rattle.bit_slice.proofs.counted_mut.CountedMut.TheLaws.{lowers}
use Rattle.bit_slice.proofs.counted_mut.CountedMut.of.Met.{met}
use Rattle.bit_slice.specs.Lends.{with_words}
use Rattle.bit_slice.proofs.Lending.{Kept, out, back, lends, KeptHead, head_out, head_back, KeptLen, len_out, len_back}
use Rattle.bit_slice.specs.contracts.slice_mut.BitSliceMut.counted_mut as f
use Rattle.bit_slice.proofs.slice_mut.BitSliceMut.counted_mut.Statement.{statement}
use Rattle.bit_slice.proofs.slice_mut.BitSliceMut.counted_mut.Code as code

pub counted_mut_spec : {M : Type 1} → statement M
counted_mut_spec 𝓤 𝓛 𝓜 𝓡 wired T₀ O₀ L₁ L₂ C₁ W Wd K Kd P Pd met₁ met₂ met₃ =
    let T = copied 0 T₀ in let O = param 1 O₀ in let L = copied_laws 0 T₀ L₁ in let L' = param_laws 1 O₀ L₂ in
    let ended = f.ended T₀ O₀ W Wd K Kd P Pd in let c = f.clauses T₀ O₀ W Wd K Kd P Pd 𝓛 𝓜.mem 𝓡.returns in
    let stayed : Stays ended.signature.params ended.kept = (stay_dropped (RefMutOf (0 ∷ []) tt (plain (λ κs. the_row (named_lft 4 1 tt κs) T O W P)) (λ _. tt)) no, tt) in
    let V = walk_of 𝓛 ended stayed c in
    let ptr : Ty = spell_with (nth_t (tcons (layout T₀) (tcons (layout O₀) tnil))) (λ τ. τ) standing (ty_ref erased mut (ty_param 0)) in
    let args = bounded (a_type ∷ a_type ∷ []) (T₀, (O₀, tt)) (dcons Wd (dcons Kd (dcons Pd dnil))) in
    proved 𝓛 ended stayed c 𝓜 𝓡 (Goes-spent_ref 𝓛 4 (0 ∷ []) tt (plain (λ κs. the_row (named_lft 4 1 tt κs) T O W P)), tt)
    (f.Key.name args) (inst_fn args code.function) (code.unfolded 𝓤 𝓛.H 𝓜 𝓡 wired (T₀, (O₀, tt)) Wd Kd Pd)
    (λ κs. (mut_vals, tt)) (λ κs. (mut_Tells (named 0) κs.0 (the_row (named_lft 4 1 tt κs) T O W P), tt)) (λ κs qs bounds a _ are.
    let κ = κs.0 in let q = qs.0 in let N = named_lft 4 1 tt κs in let R = the_row N T O W P in let F = MutSlice (named 1) κs.1.0 T in
    let b = a.0.ref_ptr.0 in let o = a.0.ref_ptr.1 in let d = a.0.now in let h = d.words in let n = length h.now in let γ = a.0.ghost_name in let vs = mut_vals a.0 in
    let y : V.Ghost = ((κs, qs, bounds, a, (vs, tt)), tt) in
    let κ₂ = κs.1.1.0 in let κ₃ = κs.1.1.1.0 in
    let toks = ‵ (flft κ₂ qs.1.1.0) ⊛ ‵ (flft κ₃ qs.1.1.1.0) ⊛ ‵ ftrue in
    qed 𝓛 (((‵ (flft κ q) ⊛ ‵ (flft κs.1.0 qs.1.0) ⊛ toks) ⊛ ‵ ((MutRef (named 0) κ R).own_val a.0 vs) ⊛ ‵ ftrue) ∷ raw ((c κs a).requires tt) ∷ []) ∵
    move ! (1 ∷ []) $ use1 𝓛 (raw (fact 𝓤 (κ₂ ⊑ T₀.lives)) ⊛ raw (fact 𝓤 (κ₃ ⊑ O₀.lives)) ⊛ ‵ ftrue) (id⊢ 𝓤 _) $ split ! $ heard ! _ (λ long₂. split ! $ heard ! _ (λ long₃. drop ! $
    split ! $ split ! $ move ! (2 ∷ []) $ split ! $ move ! (1 ∷ []) $ drop ! $ move ! (2 ∷ []) $ split ! $ move ! (2 ∷ 3 ∷ 0 ∷ 1 ∷ []) $
    -- [self; the token of κ; the token of the words' lifetime; the tokens of the types' lifetimes]
    enter ! _ _ _ _ _ $ alloc_all ! (λ l. pass_all ! refl ((tt, tt), tt) $
    fsplit3 ! $ drop ! $ open_ref ! tt (mem R) {b = b} {o = o} $
    use1 𝓛 (‵ (part_at usize full_share d.head b (o + 16)) ⊛ raw (KeptHead 𝓛 T O L L' W P N d b o)) (head_out 𝓛 T O L L' W P N d b o) $ split ! $
    use1 𝓛 (some (λ (v : Val). ‵ (fat full_share (ty_int w64) b (o + 16) v) ⊛ ‵ (usize.own_val d.head (v ∷ [])))) (part_out_at 𝓛 usize refl full_share d.head b (o + 16) (ty_int w64) refl) $ pick ! (λ v₁.
    split ! $ move ! (1 ∷ []) $ fsplit ! $ feq_l ! (λ e₁. flt_l ! (λ fits₁. rewrite ! 0 (λ (cv : Val). ‵ (fat full_share (ty_int w64) b (o + 16) cv)) (ap only e₁) refl $
    sets ! (of_opd ! (load ! (through ! refl (fld ! refl (stop !))) (look ! 0 refl))) refl (tt, record { fits = fits₁ }) $
    flt_i ! d.head (2 ^ 64) fits₁ $ feq_i ! (List Val) (vint w64 d.head ∷ []) (vint w64 d.head ∷ []) refl $ fjoin ! $ move ! (1 ∷ 0 ∷ []) $
    use2 𝓛 (‵ (part_at usize full_share d.head b (o + 16))) (part_in_at 𝓛 usize refl full_share d.head b (o + 16) (ty_int w64) refl (vint w64 d.head)) $
    use2 𝓛 (‵ (part_at R full_share d b o)) (head_back 𝓛 T O L L' W P N d b o) $
    use1 𝓛 (‵ (part_at usize full_share d.len b (o + 24)) ⊛ raw (KeptLen 𝓛 T O L L' W P N d b o)) (len_out 𝓛 T O L L' W P N d b o) $ split ! $
    use1 𝓛 (some (λ (v : Val). ‵ (fat full_share (ty_int w64) b (o + 24) v) ⊛ ‵ (usize.own_val d.len (v ∷ [])))) (part_out_at 𝓛 usize refl full_share d.len b (o + 24) (ty_int w64) refl) $ pick ! (λ v₂.
    split ! $ move ! (1 ∷ []) $ fsplit ! $ feq_l ! (λ e₂. flt_l ! (λ fits₂. rewrite ! 0 (λ (cv : Val). ‵ (fat full_share (ty_int w64) b (o + 24) cv)) (ap only e₂) refl $
    sets ! (of_opd ! (load ! (through ! refl (fld ! refl (stop !))) (look ! 0 refl))) refl (tt, record { fits = fits₂ }) $
    flt_i ! d.len (2 ^ 64) fits₂ $ feq_i ! (List Val) (vint w64 d.len ∷ []) (vint w64 d.len ∷ []) refl $ fjoin ! $ move ! (1 ∷ 0 ∷ []) $
    use2 𝓛 (‵ (part_at usize full_share d.len b (o + 24))) (part_in_at 𝓛 usize refl full_share d.len b (o + 24) (ty_int w64) refl (vint w64 d.len)) $
    use2 𝓛 (‵ (part_at R full_share d b o)) (len_back 𝓛 T O L L' W P N d b o) $
    use1 𝓛 (‵ (part_at F full_share h b (o + 0)) ⊛ raw (Kept 𝓛 T O L L' W P N d b o)) (out 𝓛 T O L L' W P N d b o) $ split ! $
    use1 𝓛 (some (λ (v : Val). ‵ (fat full_share (slice_ty ptr) b (o + 0) v) ⊛ ‵ (F.own_val h (v ∷ [])))) (part_out_at 𝓛 F refl full_share h b (o + 0) (slice_ty ptr) refl) $ pick ! (λ v.
    split ! $ move ! (1 ∷ []) $ fsplit3 ! $ fsplit3 ! $ feq_l ! (λ ev. flt_l ! (λ fits. flt_l ! (λ small.
    rewrite ! 2 (λ (cv : Val). ‵ (fat full_share (slice_ty ptr) b (o + 0) cv)) (ap only ev) refl $
    -- [the slice's name and borrow; the cell of the field; what is kept of the struct; its open borrow, in three entries; the other tokens]
    sets ! (of_opd ! (load ! (through ! refl (fld ! refl (fld ! refl (stop !)))) (look_in ! 2 (sub ! 1 refl (whole !))))) refl (tt, record { fits = fits }) $
    sets ! (addr ! (through ! refl (fld ! refl (fld ! refl (hop ! (look_in ! 2 (sub ! 0 refl (whole !))) (stop !)))))) refl (tt, tt) $
    flt_i ! (n * (mem T).size) (2 ^ 63) small $ flt_i ! n (2 ^ 64) fits $ feq_i ! (List Val) (mut_slice_vals h) (mut_slice_vals h) refl $ fjoin3 ! $ fjoin3 ! $ move ! (1 ∷ 0 ∷ []) $
    use2 𝓛 (‵ (part_at F full_share h b (o + 0))) (part_in_at 𝓛 F refl full_share h b (o + 0) (slice_ty ptr) refl (slice_val h.ref_ptr n)) $
    use2 𝓛 (‵ (part_at R full_share d b o)) (back 𝓛 T O L L' W P N d b o h d refl) $
    close_ref ! tt (mem R) d {b = b} {o = o} $
    use3 𝓛 (later (some (λ (γ' : GName). ‵ ((MutSlice (named 0) κ T).own_val (renamed h γ') (mut_slice_vals h)) ⊛ ‵ (flft κ q) ⊛ ‵ (follows R (Array T 0) γ γ' (with_words W P d)))))
    (lends 𝓛 T O L L' W P N d b o κ q γ bounds.0 (fits, small)) $ await ! tt $ pick ! (λ γ'. split3 ! $
    -- [the slice; the token of κ; what the whole follows; the token of the words' lifetime; the tokens of the types' lifetimes]
    sets ! (agg ! (and_then ! (get ! refl) (and_then ! (get ! refl) (no_more !)))) refl (tt, (tt, (record { fits = fits }, tt))) $
    let G = triple_of 𝓛 (g.signature T₀ O₀ W Wd K Kd P Pd) (g.spec T₀ O₀ W Wd K Kd P Pd 𝓛 𝓜.mem 𝓡.returns) in
    let z : G.Ghost = (((κ, (κ₂, (κ₃, tt))), (q, (qs.1.1.0, (qs.1.1.1.0, tt))), (bounds.1.0, tt), (renamed h γ', (d.head, (d.len, tt))), (mut_slice_vals h, (vint w64 d.head ∷ [], (vint w64 d.len ∷ [], tt)))), tt) in
    nothing ! $ flt_i ! d.len (2 ^ 64) fits₂ $ feq_i ! (List Val) (vint w64 d.len ∷ []) (vint w64 d.len ∷ []) refl $ fjoin ! $ join ! $
    flt_i ! d.head (2 ^ 64) fits₁ $ feq_i ! (List Val) (vint w64 d.head ∷ []) (vint w64 d.head ∷ []) refl $ fjoin ! $ join ! $ move ! (1 ∷ 0 ∷ []) $ join ! $
    move ! (1 ∷ 4 ∷ 0 ∷ []) $ join ! $ join ! $
    use0 𝓛 (raw (fact 𝓤 (IsView W.BITS n d.head d.len))) (fact_i 𝓤 _ (emp 𝓤) d.fits) $ use0 𝓛 (raw (fact 𝓤 (κ₃ ⊑ O₀.lives))) (fact_i 𝓤 _ (emp 𝓤) long₃) $ join ! $
    use0 𝓛 (raw (fact 𝓤 (κ₂ ⊑ T₀.lives))) (fact_i 𝓤 _ (emp 𝓤) long₂) $ join ! $ move ! (1 ∷ 0 ∷ []) $ use2 𝓛 (raw (G.pre z)) (id⊢ 𝓤 _) $
    calls_at ! (framed 𝓤 𝓛.H 𝓜 (tables 𝓤 𝓛.H 𝓜 𝓡 𝓡.env)) G (met 𝓤 𝓛 𝓜 𝓡 (code.calls-bit_slice::counted_mut::CountedMut::of 𝓡.env wired) T₀ O₀ L₁ L₂ C₁ W Wd K Kd P Pd met₁ met₂ met₃) z
    (and_then ! (get ! refl) (and_then ! (get ! refl) (and_then ! (get ! refl) (no_more !)))) (λ r.
    let C = counted_row (record { mir = named 0; lft = κ }) T O W P in
    use1 𝓛 (later (some (λ (u : CountedMut T₀.Denot O₀.Denot W P). ((‵ (flft κ q) ⊛ toks) ⊛ ‵ (C.own_val u (r ∷ []))) ⊛
    some (λ (ws : Lasts (g.ended T₀ O₀ W Wd K Kd P Pd) z.0.0 z.0.3). ‵ (lasts (g.ended T₀ O₀ W Wd K Kd P Pd) z.0.0 z.0.3 ws) ⊛ raw (fact 𝓤 (u.row.words.ghost_name ≡ γ')) ⊛ raw (fact 𝓤 (u.row.words.now ≡ h.now))
    ⊛ raw (fact 𝓤 (u.head ≡ d.head)) ⊛ raw (fact 𝓤 (u.len ≡ d.len)) ⊛ raw (fact 𝓤 (u.row.meter.reads ≡ 0)) ⊛ raw (fact 𝓤 (u.row.meter.writes ≡ 0)))))) (id⊢ 𝓤 _) $
    await ! tt $ pick ! (λ u. split ! $ split ! $ move ! (2 ∷ []) $ pick ! (λ ws. split ! $ drop ! $
    split ! $ heard ! _ (λ same. split ! $ heard ! _ (λ words. split ! $ heard ! _ (λ head. split ! $ heard ! _ (λ len. split ! $ heard ! _ (λ reads. heard ! _ (λ writes.
    -- [the tokens of κ and of the types' lifetimes; the counted view; what the whole follows; the token of the words' lifetime]
    rewrite ! 2 (λ (δ : GName). ‵ (follows R (Array T 0) γ δ (with_words W P d))) (sym same) refl $ move ! (1 ∷ []) $
    let low = lowers (record { mir = named 0; lft = κ }) T O W P L L' in
    peeks ! C _ (shows 𝓛 C) u (r ∷ []) (λ is.
    rewrite ! 0 (λ (us : List Val). ‵ (C.own_val u us)) (low.val_is u (r ∷ []) is) refl $
    lands_as ! (ap only (low.val_is u (r ∷ []) is)) refl (tt, (((tt, (record { fits = subst (λ (xs : List T.Denot). length xs < 2 ^ 64) (sym words) fits }, tt)), ((tt, tt), tt)), (record { fits = subst (λ (k : ℕ). k < 2 ^ 64) (sym head) fits₁ }, (record { fits = subst (λ (k : ℕ). k < 2 ^ 64) (sym len) fits₂ }, (tt, tt))))) $
    returns ! (look_at ! 0 refl) $ free_all ! refl $ move ! (1 ∷ []) $ split ! $ move ! (4 ∷ 1 ∷ []) $ join ! $ move ! (2 ∷ 1 ∷ 3 ∷ 0 ∷ []) $
    suffices ! _ (ends_at 𝓛 ended stayed c y (low.lowered u) u (tt, tt) (tt, tt)) $
    nothing ! $ nothing ! $ fjoin ! $ join ! $ move ! (1 ∷ 3 ∷ []) $ join ! $ join ! $ frame ! $
    let list : slice_range (row W P u.row.words.now) u.head (u.head + u.len) ≡ slice_range (row W P h.now) d.head (d.head + d.len) =
    ap (λ (ws : List T.Denot). slice_range (row W P ws) u.head (u.head + u.len)) words ∙ ap (λ (k : ℕ). slice_range (row W P h.now) k (k + u.len)) head ∙ ap (λ (k : ℕ). slice_range (row W P h.now) d.head (d.head + k)) len in
    use0 𝓛 (raw (fact 𝓤 (slice_range (row W P u.row.words.now) u.head (u.head + u.len) ≡ slice_range (row W P h.now) d.head (d.head + d.len)))) (fact_i 𝓤 _ (emp 𝓤) list) $
    use0 𝓛 (raw (fact 𝓤 (u.row.meter.writes ≡ 0))) (fact_i 𝓤 _ (emp 𝓤) writes) $ use0 𝓛 (raw (fact 𝓤 (u.row.meter.reads ≡ 0))) (fact_i 𝓤 _ (emp 𝓤) reads) $ use0 𝓛 (raw (fact 𝓤 (u.len ≡ d.len))) (fact_i 𝓤 _ (emp 𝓤) len) $
    use0 𝓛 (raw (fact 𝓤 (u.head ≡ d.head))) (fact_i 𝓤 _ (emp 𝓤) head) $ use0 𝓛 (raw (fact 𝓤 (u.row.words.now ≡ h.now))) (fact_i 𝓤 _ (emp 𝓤) words) $
    move ! (6 ∷ []) $ done !
    )))))))))))))))))))))))))
