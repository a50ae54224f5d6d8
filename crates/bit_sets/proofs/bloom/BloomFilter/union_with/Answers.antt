use Rattle.std.proofs.Common.{◌≡◌, ◌||◌, length, subst, sym, ◌∙◌, ap, inl, inr, refl, arith}
use Rattle.std.specs.Prelude.{◌⊎◌}
use Rattle.bit_slice.specs.Operators.{or_of}
use Rattle.bit_slice.proofs.Combining.{length-combined}
use Rattle.bit_sets.specs.Bloom.{IsFound}
use Rattle.bit_sets.specs.Filter.{Filter}
use Rattle.bit_sets.proofs.Filters.{found_in_either}
use Rattle.bit_sets.proofs.bloom.BloomFilter.union_with.Goals as goal

pub returns-clause-stays : goal.returns-clause-stays
returns-clause-stays c hash there =
    let o = c.self.inside in
    let p = c.other.inside in
    let old : Filter = record { bits = o.bits.list; functions = o.functions } in
    let other : Filter = record { bits = p.bits.list; functions = p.functions } in
    let new : Filter = record { bits = c.or_bits.new.self.list; functions = o.functions } in
    let size : length o.bits.list ≡ length p.bits.list = omega (arith, c.len.ensures.value, c.len-2.ensures.value, c.if-len.false) in
    let made : new.bits ≡ or_of o.bits.list p.bits.list = c.or_bits.ensures.list ∙ ap (or_of o.bits.list) c.as_bitslice.ensures.list in
    let same : length new.bits ≡ length o.bits.list = ap length made ∙ length-combined (λ x y. x || y) o.bits.list p.bits.list in
    let where_found : IsFound old hash ⊎ IsFound other hash = elim there [
      | inl f ↦ inl (subst (λ (g : Filter). IsFound g hash) (sym c.self.view_is) f)
      | inr f ↦ inr (subst (λ (g : Filter). IsFound g hash) (sym c.other.view_is) f)
    ] in
    found_in_either old other new hash size c.if-self-other.false made same refl where_found
