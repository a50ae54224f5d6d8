use Rattle.std.proofs.Common.{◌≡◌, ◌+◌, ◌*◌, ◌≤◌, map, length, set, get_or, refl, sym, ◌∙◌, ap, arith, rules, mul_comm}
use Rattle.std.proofs.lemmas.List.{map-set, length-map}
use Rattle.bit_addressing.specs.Row.{row_bit, row_of}
use Rattle.bit_addressing.proofs.Runs.{mul_mono}
use Rattle.bit_addressing.proofs.Rows.{width_positive}
use Rattle.bit_addressing.proofs.Shifts.{pair_bit, next_down, moved_none}
use Rattle.bit_addressing.proofs.move_run.shift_down.Goals as goal

pub loop-t-init : goal.loop-t-init
loop-t-init g c =
    let w = g.T.BitStore.BITS in
    record {
      same_words = refl;
      size = refl;
      reads = search rules;
      writes = search rules;
      bits = sym (moved_none (row_of g.O.BitOrder.place w (map g.T.BitStore.value c.args.row.now.words.now)) (c.args.begin * w + c.args.at) (c.args.first * w) (0 * w) (omega arith));
    }

pub loop-t-preserved : goal.loop-t-preserved
loop-t-preserved g c =
    let w = g.T.BitStore.BITS in
    let value = g.T.BitStore.value in
    let place = g.O.BitOrder.place in
    let t = c.loop-t.t in
    let begin = c.args.begin in
    let first = c.args.first in
    let at = c.args.at in
    let ws = c.loop-t.row.words.now in
    let words = map value ws in
    let old = map value c.args.row.now.words.now in
    let v = value c.window_by.result in
    let high = value c.load-high.result in
    let read : high ≡ get_or words (begin + t + 1) 0 = c.load-high.ensures.value ∙ ap (λ l. get_or (map value l) (begin + t + 1) 0) c.load-low.ensures.words in
    let long : length words ≡ length ws = length-map ws value in
    let same : length words ≡ length old = long ∙ c.loop-t.invariant.size ∙ sym (length-map c.args.row.now.words.now value) in
    let size = c.loop-t.invariant.size in
    let fewer = c.loop-t-test.true in
    let source = c.requires.source in
    let after : map value c.store.new.self.words.now ≡ set words (first + t) v = ap (map value) (c.store.ensures.words ∙ ap (λ l. set l (first + t) c.window_by.result) (c.load-high.ensures.words ∙ c.load-low.ensures.words)) ∙ map-set value ws (first + t) c.window_by.result in
    let expand : (begin + t) * w ≡ begin * w + t * w = grind arith in
    let two : (begin + t + 2) * w ≡ begin * w + t * w + w + w = grind arith in
    let room : (begin + t + 2) * w ≤ length words * w = mul_mono (begin + t + 2) (length words) w (omega arith) in
    let turned : w * length words ≡ length words * w = mul_comm w (length words) in
    let down : first * w ≤ begin * w = mul_mono first begin w c.requires.down in
    let within = c.requires.within in
    record {
      same_words = search rules;
      size = search rules;
      reads = search rules;
      writes = search rules;
      bits = ap (row_of place w) after
          ∙ next_down place w words old (begin * w + at) first t v (width_positive w g.met.T.BitStore.width) (omega arith) (omega arith) (omega arith) same
          (λ i h.
          let here : (begin + t) * w + at + i ≡ begin * w + at + t * w + i = omega arith in
          c.window_by.ensures i h ∙ pair_bit place w words (begin + t) (value c.load-low.result) high at i within h c.load-low.ensures.value (λ past. read) ∙ ap (row_bit place w words) here)
          c.loop-t.invariant.bits;
    }
