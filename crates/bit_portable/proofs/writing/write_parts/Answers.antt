use Rattle.bit_portable.proofs.Pieces.{all_pieces}
use Rattle.bit_portable.proofs.writing.write_parts.Goals as goal

pub push_heads-requires : goal.push_heads-requires
push_heads-requires c = all_pieces c.args.blocks.now c.requires.pieces

pub push_all-requires : goal.push_all-requires
push_all-requires c = all_pieces c.args.blocks.now c.requires.pieces
