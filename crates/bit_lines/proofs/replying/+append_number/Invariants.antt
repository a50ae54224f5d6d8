use Rattle.bit_lines.proofs.replying.+append_number.Given as goal

abbrev pub decreases-append_number : goal.decreases-append_number
decreases-append_number l = l.number
