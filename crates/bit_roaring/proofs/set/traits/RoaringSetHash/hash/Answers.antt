use Rattle.std.proofs.Common.{◌≡◌, [], ◌∷◌, ◌++◌, length, append-nil, append_assoc, sym, ◌∙◌, ap}
use Rattle.std.specs.Hash as fed
use Rattle.std.specs.Hash.{fed_along, fed_then}
use Rattle.std.specs.List.{flat_map}
use Rattle.std.proofs.lemmas.Grind.{flat_map-append}
use Rattle.bit_roaring.specs.SetLeft.{set_left}
use Rattle.bit_roaring.proofs.set.traits.RoaringSetHash.hash.Goals as goal

pub loop-number-preserved : goal.loop-number-preserved
loop-number-preserved g c =
    let write = g.H.Hasher.write in
    let at = c.loop-number in
    let number = c.in-Some.number in
    record {
      left = at.invariant.left ∙ ap (λ l. at.yielded ++ l) c.in-Some.ensures.steps ∙ sym (append_assoc at.yielded (number ∷ []) _);
      fed = fed_along write _ _ (sym (flat_map-append fed.u32 at.yielded (number ∷ []))) (fed_then write c.write_usize.new.self at.state c.write_u32.new.self (flat_map fed.u32 at.yielded) (fed.u32 number) at.invariant.fed c.write_u32.ensures);
    }

pub returns : goal.returns
returns g c =
    let write = g.H.Hasher.write in
    let at = c.loop-number in
    let rest : at.yielded ≡ c.args.self.now =
    sym (append-nil at.yielded) ∙ sym (ap (λ l. at.yielded ++ l) c.in-None.ensures.steps.0) ∙ sym at.invariant.left ∙ ap (λ it. set_left it) c.into_iter-number-iterator.ensures.into_iter_gives ∙ c.iter-number-items.ensures.list in
    fed_along write _ _ (ap (λ n. fed.usize n ++ flat_map fed.u32 at.yielded) c.len.ensures.value ∙ ap (λ l. fed.usize (length c.args.self.now) ++ flat_map fed.u32 l) rest)
    (fed_then write c.args.state.now c.write_usize.new.self at.state (fed.usize c.len.result) (flat_map fed.u32 at.yielded) c.write_usize.ensures at.invariant.fed)
