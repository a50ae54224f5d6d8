use Rattle.std.proofs.Common.{◌≡◌, ℕ, ◌+◌, ◌-◌, ◌*◌, ◌/◌, ◌≤◌, Bool, List, ◌++◌, length, take, slice_range, subst, sym, ◌∙◌, ap, arith}
use Rattle.std.proofs.Output.{has_written_styled_of_eq}
use Rattle.std.specs.Str.{IsAscii}
use Rattle.bit_addressing.specs.Row.{words_for}
use Rattle.bit_slice.specs.BitSlice.{list_of}
use Rattle.bit_slice.specs.Texts.{IsDigitSize, digits_from}
use Rattle.bit_slice.proofs.Digits.{block_joined, groups_are, size_positive, sixty_groups}
use Rattle.bit_slice.proofs.Parts.{in_row}
use Rattle.bit_addressing.specs.Typed.{row}
use Rattle.bit_addressing.proofs.lists.Shown.{length-between, shown_part}
use Rattle.bit_slice.proofs.texts.write_blocks.Goals as goal

each_is : (s : ℕ) → IsDigitSize s → (60 + (s - 1)) / s ≡ words_for s 60
each_is s size = sym (groups_are s 60 (size_positive s size))

pub put_groups-requires-clause-room : goal.put_groups-requires-clause-room
put_groups-requires-clause-room g c =
    let s = c.args.size in
    let k = c.loop-k.k in
    let d : ℕ = words_for s 60 in
    let few : d ≤ 60 = sixty_groups s c.requires.size in
    let each : k * ((60 + (s - 1)) / s) ≡ k * d = ap (λ n. k * n) (each_is s c.requires.size) in
    let inside : k * d + d ≤ 4 * d = grind (arith, c.loop-k-test.true) in
    omega arith

pub loop-k-preserved : goal.loop-k-preserved
loop-k-preserved g c =
    let s = c.args.size in
    let u = c.args.upper in
    let k = c.loop-k.k in
    let d : ℕ = words_for s 60 in
    let list = list_of c.args.view in
    let bits : List Bool = slice_range list c.args.from (c.args.from + 240) in
    let each : k * ((60 + (s - 1)) / s) ≡ k * d = ap (λ n. k * n) (each_is s c.requires.size) in
    let next : k * d + d ≡ (k + 1) * d = grind arith in
    let end : k * ((60 + (s - 1)) / s) + d ≡ (k + 1) * d = omega arith in
    let v = c.args.view in
    let long : length list ≡ v.len = length-between (row g.T.BitStore g.O.BitOrder v.words.now) v.head (v.head + v.len) (in_row g.T.BitStore g.O.BitOrder v.words.now (v.head + v.len) v.fits.room) ∙ omega arith in
    let part : slice_range list (c.args.from + k * 60) (c.args.from + k * 60 + 60) ≡ slice_range bits (k * 60) (k * 60 + 60) = shown_part list c.args.from 240 (k * 60) 60 (omega arith) (omega (arith, long, c.requires.within)) in
    record {
      text = ap (λ n. take n c.put_groups.new.piece) (sym end) ∙ c.put_groups.ensures.text
          ∙ ap (λ n. take n c.loop-k.piece ++ digits_from s u d (slice_range list (c.args.from + k * 60) (c.args.from + k * 60 + 60))) each
          ∙ ap (λ t. t ++ digits_from s u d (slice_range list (c.args.from + k * 60) (c.args.from + k * 60 + 60))) c.loop-k.invariant.text
          ∙ ap (λ l. digits_from s u (k * d) bits ++ digits_from s u d l) part
          ∙ block_joined s u c.requires.size bits k (k * 60 + 60) (omega arith);
      ascii = subst (λ n. IsAscii (take n c.put_groups.new.piece)) end
          (c.put_groups.ensures.ascii (subst (λ n. IsAscii (take n c.loop-k.piece)) (sym each) c.loop-k.invariant.ascii));
    }

pub text_of-requires-clause-ascii : goal.text_of-requires-clause-ascii
text_of-requires-clause-ascii g c =
    let four : c.loop-k.k ≡ 4 = omega arith in
    let all : c.loop-k.k * words_for c.args.size 60 ≡ 4 * ((60 + (c.args.size - 1)) / c.args.size) = ap (λ n. n * words_for c.args.size 60) four ∙ ap (λ n. 4 * n) (sym (each_is c.args.size c.requires.size)) in
    subst (λ n. IsAscii (take n c.loop-k.piece)) all c.loop-k.invariant.ascii

pub returns : goal.returns
returns g c flush ok =
    let four : c.loop-k.k ≡ 4 = omega arith in
    has_written_styled_of_eq _ _ _ _ _
    (c.text_of.ensures ∙ ap (λ n. take n c.loop-k.piece) (sym (ap (λ n. n * words_for c.args.size 60) four ∙ ap (λ n. 4 * n) (sym (each_is c.args.size c.requires.size)))) ∙ c.loop-k.invariant.text
    ∙ ap (λ n. digits_from c.args.size c.args.upper (n * words_for c.args.size 60) (slice_range (list_of c.args.view) c.args.from (c.args.from + 240))) four)
    (c.write_str.ensures.styled flush ok)
