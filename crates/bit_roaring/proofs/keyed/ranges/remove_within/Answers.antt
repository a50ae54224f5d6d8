use Rattle.std.proofs.Common.{◌≡◌, ◌<◌, ◌+◌, ◌/◌, ◌%◌, [], length, sym, ◌∙◌, subst}
use Rattle.std.specs.Prelude.{remove}
use Rattle.bit_blocks.specs.Numbers.{LosesBetween}
use Rattle.bit_roaring.specs.Changes.{Replaces}
use Rattle.bit_roaring.specs.Keyed.{AreKeyed, block_at, set_numbers}
use Rattle.bit_roaring.specs.Ranges.{LosesRange}
use Rattle.bit_roaring.proofs.Changed.{put_block, remove_set}
use Rattle.bit_roaring.proofs.Keys.{block_removed, keyed, keyed_removed}
use Rattle.bit_roaring.proofs.Made.{not_empty}
use Rattle.bit_roaring.proofs.Sets.{here_there, keyed_there, replaced_there}
use Rattle.bit_roaring.proofs.Within.{loses_within}
use Rattle.bit_roaring.proofs.keyed.ranges.remove_within.Goals as goal

pub returns-then-is_empty-clause-keyed : goal.returns-then-is_empty-clause-keyed
returns-then-is_empty-clause-keyed c =
    let bs = c.args.blocks.now.items in
    let new = keyed c.index_mut-keyed.result.now.key c.remove_range.new.self in
    subst AreKeyed (sym (c.remove-gone.ensures.items ∙ remove_set bs c.args.place new)) (keyed_removed 0 bs c.args.place c.requires.keyed)

pub returns-then-is_empty-clause-loses : goal.returns-then-is_empty-clause-loses
returns-then-is_empty-clause-loses c =
    let bs = c.args.blocks.now.items in
    let key = c.args.first / 65536 in
    let at = c.index_mut-keyed.result.now in
    let new = c.remove_range.new.self in
    let gone : new ≡ [] = sym (put_block bs c.args.place (keyed at.key new) c.index.result.now c.requires.there.inside c.index.ensures) ∙ c.is_empty.ensures.0 c.if-is_empty.true in
    let replaces : Replaces bs (remove bs c.args.place) key [] = block_removed 0 bs c.args.place key at c.requires.keyed c.requires.there.inside (c.requires.there.here at) in
    subst (λ l. LosesRange (set_numbers bs) (set_numbers l) c.args.first (c.args.last + 1)) (sym (c.remove-gone.ensures.items ∙ remove_set bs c.args.place (keyed at.key new)))
    (loses_within bs (remove bs c.args.place) c.args.first c.args.last [] c.requires.keyed (keyed_removed 0 bs c.args.place c.requires.keyed) c.requires.key replaces
    (subst (λ l. LosesBetween (block_at bs key) l (c.args.first % 65536) (c.args.last % 65536)) gone (subst (λ l. LosesBetween l new (c.args.first % 65536) (c.args.last % 65536)) (here_there bs (c.args.first / 65536) c.args.place at c.requires.there c.index_mut-keyed.ensures.value) c.in_ok-remove_range.ensures.loses)))

pub returns-else-is_empty-clause-keyed : goal.returns-else-is_empty-clause-keyed
returns-else-is_empty-clause-keyed c =
    let bs = c.args.blocks.now.items in
    let at = c.index_mut-keyed.result.now in
    let new = c.remove_range.new.self in
    let seen = put_block bs c.args.place (keyed at.key new) c.index.result.now c.requires.there.inside c.index.ensures in
    keyed_there bs (c.args.first / 65536) c.args.place at new c.requires.keyed c.requires.there c.index_mut-keyed.ensures.value c.remove_range.ensures.ascends
    (subst (λ l. 0 < length l) seen (not_empty c.index.result.now.block c.is_empty.result c.is_empty.ensures c.if-is_empty.false))

pub returns-else-is_empty-clause-loses : goal.returns-else-is_empty-clause-loses
returns-else-is_empty-clause-loses c =
    let bs = c.args.blocks.now.items in
    let at = c.index_mut-keyed.result.now in
    let new = c.remove_range.new.self in
    loses_within bs _ c.args.first c.args.last new c.requires.keyed (returns-else-is_empty-clause-keyed c) c.requires.key
    (replaced_there bs (c.args.first / 65536) c.args.place at new c.requires.keyed c.requires.there c.index_mut-keyed.ensures.value)
    (subst (λ l. LosesBetween l new (c.args.first % 65536) (c.args.last % 65536)) (here_there bs (c.args.first / 65536) c.args.place at c.requires.there c.index_mut-keyed.ensures.value) c.in_ok-remove_range.ensures.loses)
