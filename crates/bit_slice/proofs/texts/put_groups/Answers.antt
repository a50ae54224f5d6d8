use Rattle.std.proofs.Common.{◌≡◌, ℕ, ◌+◌, ◌*◌, ◌<◌, Bool, List, [], ◌∷◌, ◌++◌, length, min, take, drop, slice_range, append_assoc, subst, sym, ◌∙◌, ap, arith}
use Rattle.std.specs.Fmt.{digit_glyph}
use Rattle.std.specs.Str.{IsAscii}
use Rattle.bit_addressing.specs.Row.{binary, words_for}
use Rattle.bit_addressing.specs.Typed.{row}
use Rattle.bit_slice.specs.BitSlice.{list_of}
use Rattle.bit_slice.specs.Texts.{digits_from}
use Rattle.bit_slice.proofs.Writing.{chunk_of_list}
use Rattle.bit_slice.proofs.Parts.{in_row}
use Rattle.bit_addressing.proofs.lists.Shown.{length-between}
use Rattle.bit_slice.proofs.Digits.{digits_more, group_begins, group_cut, groups_are}
use Rattle.bit_slice.proofs.texts.put_groups.Goals as goal
use Rattle.bit_addressing.specs.Binary.{value_after}

pub put-requires-clause-room : goal.put-requires-clause-room
put-requires-clause-room g c = omega (arith, c.requires.room, c.loop-i-test.true, groups_are c.args.size c.args.n c.requires.some)

pub loop-i-preserved : goal.loop-i-preserved
loop-i-preserved g c =
    let v = c.args.view in
    let s = c.args.size in
    let n = c.args.n in
    let i = c.loop-i.i in
    let before : List ℕ = take c.args.at c.args.piece.now in
    let bits : List Bool = slice_range (list_of v) c.args.from (c.args.from + n) in
    let size : length (list_of v) ≡ v.len = length-between (row g.T.BitStore g.O.BitOrder v.words.now) v.head (v.head + v.len) (in_row g.T.BitStore g.O.BitOrder v.words.now (v.head + v.len) v.fits.room) ∙ omega arith in
    let all : length bits ≡ n = length-between (list_of v) c.args.from (c.args.from + n) (omega (arith, size, c.requires.within)) ∙ omega arith in
    let digits : binary n c.read_binary-number.result ≡ bits =
    c.read_binary-number.ensures.digits ∙ ap (λ ws. slice_range (row g.T.BitStore g.O.BitOrder ws) (c.head.result + c.args.from) (c.head.result + c.args.from + n)) c.as_raw_slice.ensures.words
    ∙ ap (λ h. slice_range (row g.T.BitStore g.O.BitOrder v.words.now) (h + c.args.from) (h + c.args.from + n)) c.head.ensures.value ∙ chunk_of_list g.T.BitStore g.O.BitOrder v c.args.from n c.requires.within in
    let begins : i * s < n = group_begins s n i c.requires.some (omega (arith, c.loop-i-test.true, c.loop-i.auto.i-end, groups_are s n c.requires.some)) in
    let digit : c.digit_of_bits.result ≡ digit_glyph c.args.upper (value_after 0 (take s (drop (i * s) bits))) =
    c.digit_of_bits.ensures.value ∙ ap (digit_glyph c.args.upper) c.value_of_bits-value.ensures.value ∙ ap (λ l. digit_glyph c.args.upper (value_after 0 (slice_range l (i * s) c.min-last.result))) digits
    ∙ ap (λ l. digit_glyph c.args.upper (value_after 0 l)) (group_cut bits (i * s) s c.min-last.result (omega arith) (c.min-last.ensures ∙ ap (min (i * s + s)) (sym all))) in
    let next : c.args.at + i + 1 ≡ c.args.at + (i + 1) = omega arith in
    record {
      text = ap (λ k. take k c.put.new.piece) (sym next) ∙ c.put.ensures.text ∙ ap (λ t. t ++ c.digit_of_bits.result ∷ []) c.loop-i.invariant.text
          ∙ append_assoc before (digits_from s c.args.upper i bits) (c.digit_of_bits.result ∷ []) ∙ ap (λ d. before ++ (digits_from s c.args.upper i bits ++ d ∷ [])) digit ∙ ap (λ t. before ++ t) (sym (digits_more s c.args.upper i bits));
      ascii = λ h. subst (λ k. IsAscii (take k c.put.new.piece)) next (c.put.ensures.ascii (c.loop-i.invariant.ascii h));
    }

pub returns-clause-text : goal.returns-clause-text
returns-clause-text g c =
    let s = c.args.size in
    let n = c.args.n in
    let bits : List Bool = slice_range (list_of c.args.view) c.args.from (c.args.from + n) in
    let end : c.loop-i.i ≡ words_for s n = omega (arith, c.loop-i-test.false, c.loop-i.auto.i-end, groups_are s n c.requires.some) in
    ap (λ k. take (c.args.at + k) c.loop-i.piece) (sym end) ∙ c.loop-i.invariant.text ∙ ap (λ k. take c.args.at c.args.piece.now ++ digits_from s c.args.upper k bits) end

pub returns-clause-ascii : goal.returns-clause-ascii
returns-clause-ascii g c =
    let end : c.loop-i.i ≡ words_for c.args.size c.args.n = omega (arith, c.loop-i-test.false, c.loop-i.auto.i-end, groups_are c.args.size c.args.n c.requires.some) in
    λ h. subst (λ k. IsAscii (take (c.args.at + k) c.loop-i.piece)) end (c.loop-i.invariant.ascii h)
