use Rattle.bit_portable.specs.Stored.{content_lent}
use Rattle.bit_portable.proofs.Pieces.{is_writable}
use Rattle.bit_portable.proofs.writing.push_all.Goals as goal

pub push_lent-requires : goal.push_lent-requires
push_lent-requires c =
    let b = c.block-item.result in
    let fine = c.requires c.loop-block.block-index b c.loop-block-test.true in
    is_writable b.head (content_lent b.content) (rw c.block-item.is fine.holds)
