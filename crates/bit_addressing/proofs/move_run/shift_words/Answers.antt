use Rattle.bit_addressing.proofs.move_run.shift_words.Goals as goal

pub shift_down-requires-clause-table : goal.shift_down-requires-clause-table
shift_down-requires-clause-table g c = rw c.new_unchecked-index.ensures c.requires.table

pub shift_down-requires-then-first-begin-2-clause-table :
    goal.shift_down-requires-then-first-begin-2-clause-table
shift_down-requires-then-first-begin-2-clause-table g c = rw c.new_unchecked-index.ensures c.requires.table

pub shift_up-requires-clause-table : goal.shift_up-requires-clause-table
shift_up-requires-clause-table g c = rw c.new_unchecked-index.ensures c.requires.table

pub shift_up-requires-else-begin-first-clause-table :
    goal.shift_up-requires-else-begin-first-clause-table
shift_up-requires-else-begin-first-clause-table g c = rw c.new_unchecked-index.ensures c.requires.table
