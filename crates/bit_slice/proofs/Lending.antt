-- A `&mut` to a view hands on the words that the view holds, for all the time that it has left: what they are in the end stands in the view.
use Rattle.std.proofs.Common.{◌≡◌, ℕ, ◌+◌, List, [], ◌∷◌, length, refl, sym, subst, MutBor}
use Rattle.std.specs.List.{refill, length_refill}
use base.Fraction.{full_share}
use base.Fml.{Fml, GName, Lft, Share, Incl, fobs, fbor, flft, fsep}
use base.Logic.{SProp, ent, sep, ex, guard}
use base.Stored.{coded_list}
use mir.Syntax.{named}
use mir.Val.{Val}
use seplogic.Ra.Ura.{Ura}
use types.Kit.{‵, ◌⊛◌, raw, mean, check, some, later, ◌$◌, ◌∵◌, !, qed, done, move, use1, use2, use3, split, split3, fsplit, fsplit3, fjoin, fjoin3, fpick, fpack, feq_i, feq_l, pick, await, rewrite, updating, show, now as at_once}
use types.Logic.{Logic, sem}
use types.SemTy.{Body, Arr}
use types.Through.{hands_through}
use denote.Array.{Array}
use denote.Builtin.{usize}
use denote.Param.Laws.{Laws}
use Rattle.bit_addressing.specs.declared.store.BitStore as store
use Rattle.bit_addressing.specs.declared.order.BitOrder as order
use denote.Follow.{follows}
use denote.FollowSlice.{heres_id, slice_of}
use denote.Memory.{mem, part_at, cell_at, part_of}
use denote.RattleType.{RattleType}
use denote.Ref.{NamedLft, at_last}
use denote.Slice.{MutSlice, Room, room, slice_val, mut_slice_vals}
use denote.Struct.At.{put_at}
use denote.Struct.Declared.{Declared}
use denote.Struct.Values.{intos}
use denote.Through.{renamed}
use borrow.Struct.Apart.{part_apart}
use borrow.Struct.Lend.{kept_field, field_apart, field_fill}
use Rattle.bit_slice.specs.declared.slice_mut.BitSliceMut.{BitSliceMut}
use Rattle.bit_slice.specs.contracts.slice_mut.BitSliceMut.{the_row, the_type, struct}
use Rattle.bit_slice.proofs.slice_mut.BitSliceMut.TheLaws.{the_loose}
use Rattle.bit_slice.specs.Lends.{with_words}
use Rattle.bit_addressing.proofs.lists.Refilled.{refilled}

module _ {M : Type 1} {𝓤 : Ura M} (𝓛 : Logic 𝓤) (T O : RattleType) (L : Laws T) (L' : Laws O) (W : store.Ghosts T.Denot) (P : order.Ghosts O.Denot) (a : NamedLft) (d : BitSliceMut T.Denot O.Denot W P) (b o : ℕ) where
  open 𝓛 use {H, A}

  -- the view's type, the type of its words, and its words
  abbrev N : Declared
  N = the_type a T O W P

  abbrev S : RattleType
  S = MutSlice a.mir a.lft T

  abbrev h : MutBor (List T.Denot)
  h = d.words

  abbrev n : ℕ
  n = length h.now

  -- the rest of the view: its head, length and order
  abbrev pub Kept : SProp 𝓤
  Kept = mean 𝓛 (kept_field N (the_loose a T O W P L L') 0 0 M 𝓤 𝓛 ((struct a T O W P).as_values d) b o)

  -- a view in memory is its words and the rest
  pub out : ent 𝓤 (sem 𝓛 (part_at (the_row a T O W P) full_share d b o)) (sep 𝓤 (sem 𝓛 (part_at S full_share h b (o + 0))) Kept)
  out = subst (λ (X : Fml). ent 𝓤 (sem 𝓛 X) (sep 𝓤 (sem 𝓛 (part_at S full_share h b (o + 0))) Kept))
      (sym (part_apart N full_share d ((struct a T O W P).as_values d) refl b o)) (field_apart N (the_loose a T O W P L L') 0 0 𝓛 refl refl ((struct a T O W P).as_values d) b o)

  -- words and the rest are a view again
  pub back : (y : MutBor (List T.Denot)) (d' : BitSliceMut T.Denot O.Denot W P) → N.to d' ≡ intos N.parts (put_at N.parts 0 y ((struct a T O W P).as_values d))
      → ent 𝓤 (sep 𝓤 (sem 𝓛 (part_at S full_share y b (o + 0))) Kept) (sem 𝓛 (part_at (the_row a T O W P) full_share d' b o))
  back y d' e = subst (λ (X : Fml). ent 𝓤 (sep 𝓤 (sem 𝓛 (part_at S full_share y b (o + 0))) Kept) (sem 𝓛 X))
      (sym (part_apart N full_share d' (put_at N.parts 0 y ((struct a T O W P).as_values d)) e b o)) (field_fill N (the_loose a T O W P L L') 0 0 refl (λ w. w) (λ w. refl) M 𝓤 𝓛 ((struct a T O W P).as_values d) y b o)

  -- the number in field k, off bytes from the view's place, is read while the rest is kept
  module _ (k off : ℕ) where
    abbrev KeptAt : SProp 𝓤
    KeptAt = mean 𝓛 (kept_field N (the_loose a T O W P L L') k off M 𝓤 𝓛 ((struct a T O W P).as_values d) b o)

  abbrev pub KeptHead : SProp 𝓤
  KeptHead = KeptAt 1 16

  abbrev pub KeptLen : SProp 𝓤
  KeptLen = KeptAt 2 24

  -- the head of a lent row is lent by itself
  pub head_out : ent 𝓤 (sem 𝓛 (part_at (the_row a T O W P) full_share d b o)) (sep 𝓤 (sem 𝓛 (part_at usize full_share d.head b (o + 16))) KeptHead)
  head_out = subst (λ (X : Fml). ent 𝓤 (sem 𝓛 X) (sep 𝓤 (sem 𝓛 (part_at usize full_share d.head b (o + 16))) KeptHead))
      (sym (part_apart N full_share d ((struct a T O W P).as_values d) refl b o)) (field_apart N (the_loose a T O W P L L') 1 16 𝓛 refl refl ((struct a T O W P).as_values d) b o)

  -- and is given back
  pub head_back : ent 𝓤 (sep 𝓤 (sem 𝓛 (part_at usize full_share d.head b (o + 16))) KeptHead) (sem 𝓛 (part_at (the_row a T O W P) full_share d b o))
  head_back = subst (λ (X : Fml). ent 𝓤 (sep 𝓤 (sem 𝓛 (part_at usize full_share d.head b (o + 16))) KeptHead) (sem 𝓛 X))
      (sym (part_apart N full_share d ((struct a T O W P).as_values d) refl b o)) (field_fill N (the_loose a T O W P L L') 1 16 refl (λ w. w) (λ w. refl) M 𝓤 𝓛 ((struct a T O W P).as_values d) d.head b o)

  -- the length of a lent row is lent by itself
  pub len_out : ent 𝓤 (sem 𝓛 (part_at (the_row a T O W P) full_share d b o)) (sep 𝓤 (sem 𝓛 (part_at usize full_share d.len b (o + 24))) KeptLen)
  len_out = subst (λ (X : Fml). ent 𝓤 (sem 𝓛 X) (sep 𝓤 (sem 𝓛 (part_at usize full_share d.len b (o + 24))) KeptLen))
      (sym (part_apart N full_share d ((struct a T O W P).as_values d) refl b o)) (field_apart N (the_loose a T O W P L L') 2 24 𝓛 refl refl ((struct a T O W P).as_values d) b o)

  -- and is given back
  pub len_back : ent 𝓤 (sep 𝓤 (sem 𝓛 (part_at usize full_share d.len b (o + 24))) KeptLen) (sem 𝓛 (part_at (the_row a T O W P) full_share d b o))
  len_back = subst (λ (X : Fml). ent 𝓤 (sep 𝓤 (sem 𝓛 (part_at usize full_share d.len b (o + 24))) KeptLen) (sem 𝓛 X))
      (sym (part_apart N full_share d ((struct a T O W P).as_values d) refl b o)) (field_fill N (the_loose a T O W P L L') 2 24 refl (λ w. w) (λ w. refl) M 𝓤 𝓛 ((struct a T O W P).as_values d) d.len b o)

  -- what the loan of the words holds, the place of their reference, and both with the name's value
  abbrev Held : GName → Fml
  Held δ = Body (Arr (mem T) n) h.ref_ptr.0 h.ref_ptr.1 δ

  abbrev Cell : Fml
  Cell = fsep (cell_at full_share S.mir (mut_slice_vals h) b (o + 0)) (room T n)

  abbrev Has : List T.Denot → SProp 𝓤
  Has ws = sep 𝓤 (A.obs h.ghost_name ((coded_list T.coded).code ws)) (sep 𝓤 (A.bor a.lft (Held h.ghost_name)) (sem 𝓛 Cell))

  -- words in memory are as many as the reference says
  counts : (ws : List T.Denot) → ent 𝓤 (sem 𝓛 ((Arr (mem T) n).own_at ws h.ref_ptr.0 h.ref_ptr.1)) (guard 𝓤 (length ws ≡ n) (sem 𝓛 ((Arr (mem T) n).own_at ws h.ref_ptr.0 h.ref_ptr.1)))
  counts ws = qed 𝓛 (‵ ((Arr (mem T) n).own_at ws h.ref_ptr.0 h.ref_ptr.1) ∷ []) ∵ fsplit ! $ feq_l ! (λ e. check ! e $ feq_i ! ℕ (length ws) n e $ done !)

  -- a reference to words, taken apart and put together
  slice_out : ent 𝓤 (sem 𝓛 (part_at S full_share h b (o + 0))) (Has h.now)
  unfolding part_of
  slice_out = qed 𝓛 (‵ (part_at S full_share h b (o + 0)) ∷ []) ∵ fpick ! (λ vs. fsplit ! $ move ! (1 ∷ []) $ fsplit3 ! $ fsplit ! $ feq_l ! (λ e.
      rewrite ! 3 (λ (us : List Val). ‵ (cell_at full_share S.mir us b (o + 0))) e refl $
      rewrite ! 1 (λ (l : List T.Denot). ‵ (fobs h.ghost_name ((coded_list T.coded).code l))) (heres_id T h.now) refl $ move ! (1 ∷ 2 ∷ 3 ∷ 0 ∷ []) $ done !))

  slice_in : (ws : List T.Denot) → length ws ≡ n → ent 𝓤 (Has ws) (sem 𝓛 (part_at S full_share (at_last h ws) b (o + 0)))
  unfolding part_of
  slice_in ws e = qed 𝓛 (‵ (fobs h.ghost_name ((coded_list T.coded).code ws)) ∷ ‵ (fbor a.lft (Held h.ghost_name)) ∷ ‵ Cell ∷ []) ∵
      rewrite ! 0 (λ (l : List T.Denot). ‵ (fobs h.ghost_name ((coded_list T.coded).code l))) (sym (heres_id T ws)) refl $
      rewrite ! 1 (λ (k : ℕ). ‵ (fbor a.lft (Body (Arr (mem T) k) h.ref_ptr.0 h.ref_ptr.1 h.ghost_name))) (sym e) refl $
      rewrite ! 2 (λ (k : ℕ). ‵ (fsep (cell_at full_share S.mir (slice_val h.ref_ptr k ∷ []) b (o + 0)) (room T k))) (sym e) refl $
      move ! (2 ∷ []) $ fsplit ! $ move ! (1 ∷ []) $ feq_i ! (List Val) (mut_slice_vals (at_last h ws)) (mut_slice_vals (at_last h ws)) refl $ fjoin ! $ move ! (0 ∷ 2 ∷ 3 ∷ []) $ fjoin3 ! $ move ! (1 ∷ 0 ∷ []) $ fjoin ! $
      fpack ! (List Val) (λ us. fsep (cell_at full_share S.mir us b (o + 0)) (S.own_val (at_last h ws) us)) (mut_slice_vals (at_last h ws)) $ done !

  -- a view in memory is a loan of words and the rest, and so it is with other words in the end
  cut : ent 𝓤 (sem 𝓛 (part_at (the_row a T O W P) full_share d b o)) (sep 𝓤 (A.obs h.ghost_name ((coded_list T.coded).code h.now)) (sep 𝓤 (A.bor a.lft (Held h.ghost_name)) (sep 𝓤 (sem 𝓛 Cell) Kept)))
  cut = qed 𝓛 (‵ (part_at (the_row a T O W P) full_share d b o) ∷ []) ∵ use1 𝓛 (‵ (part_at S full_share h b (o + 0)) ⊛ raw Kept) out $ split ! $
      use1 𝓛 (‵ (fobs h.ghost_name ((coded_list T.coded).code h.now)) ⊛ ‵ (fbor a.lft (Held h.ghost_name)) ⊛ ‵ Cell) slice_out $ split3 ! $ done !

  closes : (ws : List T.Denot) → length ws ≡ n → ent 𝓤 (sep 𝓤 (A.obs h.ghost_name ((coded_list T.coded).code ws)) (sep 𝓤 (A.bor a.lft (Held h.ghost_name)) (sep 𝓤 (sem 𝓛 Cell) Kept))) (sem 𝓛 (part_at (the_row a T O W P) full_share (with_words W P d ws) b o))
  closes ws e = qed 𝓛 (‵ (fobs h.ghost_name ((coded_list T.coded).code ws)) ∷ ‵ (fbor a.lft (Held h.ghost_name)) ∷ ‵ Cell ∷ raw Kept ∷ []) ∵
      rewrite ! 0 (λ (l : List T.Denot). ‵ (fobs h.ghost_name ((coded_list T.coded).code l))) (sym (refilled n h.now ws e)) refl $
      use3 𝓛 (‵ (part_at S full_share (at_last h (refill n h.now ws)) b (o + 0))) (slice_in (refill n h.now ws) (sym (length_refill n h.now ws refl))) $
      use2 𝓛 (‵ (part_at (the_row a T O W P) full_share (with_words W P d ws) b o)) (back (at_last h (refill n h.now ws)) (with_words W P d ws) refl) $ done !

  module _ (κ : Lft) (q : Share) (γ : GName) where
    -- the words under a new name, the lifetime's token, and what the view ends as
    abbrev pub Lent : GName → SProp 𝓤
    Lent γ' = sep 𝓤 (sem 𝓛 ((MutSlice (named 0) κ T).own_val (renamed h γ') (mut_slice_vals h))) (sep 𝓤 (A.lft κ q) (sem 𝓛 (follows (the_row a T O W P) (Array T 0) γ γ' (with_words W P d))))

    -- the open loan of a view becomes one of its words
    pub lends : Incl κ a.lft → Room T n → ent 𝓤 (sep 𝓤 (A.obs γ ((the_row a T O W P).coded.code d)) (sep 𝓤 (A.bor κ (Body (mem (the_row a T O W P)) b o γ)) (A.lft κ q))) (H.⇛ (ex 𝓤 Lent))
    lends inc rm =
        qed 𝓛 (‵ (fobs γ ((the_row a T O W P).coded.code d)) ∷ ‵ (fbor κ (Body (mem (the_row a T O W P)) b o γ)) ∷ ‵ (flft κ q) ∷ []) ∵ updating ! $
        use3 𝓛 (later (some (λ (γ' : GName). ‵ (fobs γ' ((coded_list T.coded).code h.now)) ⊛ ‵ (fbor κ (Held γ')) ⊛ ‵ (flft κ q) ⊛ ‵ (follows (the_row a T O W P) (Array T 0) γ γ' (with_words W P d)))))
        (hands_through 𝓛 (mem (the_row a T O W P)) (Arr (mem T) n) (with_words W P d) κ a.lft inc b o h.ref_ptr.0 h.ref_ptr.1 γ h.ghost_name (sep 𝓤 (sem 𝓛 Cell) Kept) (λ ws. length ws ≡ n) counts closes q d h.now cut) $
        await ! tt $ pick ! (λ γ'. split3 ! $ use2 𝓛 (‵ ((MutSlice (named 0) κ T).own_val (renamed h γ') (mut_slice_vals h))) (slice_of 𝓛 T (named 0) κ h.ref_ptr.0 h.ref_ptr.1 γ' h.now rm) $ at_once ! $ show ! Lent γ' $ done !)
