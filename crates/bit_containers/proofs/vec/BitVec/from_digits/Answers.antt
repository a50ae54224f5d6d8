use Rattle.std.proofs.Common.{◌≡◌, ℕ, ◌+◌, ◌-◌, min, Bool, List, [], ◌++◌, length, drop, get_or, rules, sym, subst, ◌∙◌, ap, arith}
use Rattle.std.specs.Prelude.{IfNone, None, Some, Err}
use Rattle.bit_addressing.specs.Row.{binary}
use Rattle.bit_containers.specs.DigitTexts.{bits_of_value, digits_of_text, digits_said, first_digit, value_of_digit}
use Rattle.bit_containers.proofs.DigitTexts.{all_said, char_at, digit_past, digits_missing, length-digits, nothing_read, read_back, read_on, said_more, said_once, wrong_digit}
use Rattle.bit_containers.proofs.vec.BitVec.from_digits.Goals as goal

pub loop-at-init : goal.loop-at-init
loop-at-init g c =
    let size = c.args.size in
    let len = c.args.len in
    let ds = digits_of_text c.as_bytes-bytes.result.now in
    let first = c.digits_range-first.result.0 in
    let none = c.new-v.ensures.list in
    let zero : 0 ≡ first - first = omega arith in
    let all : len ≡ len - 0 = omega arith in
    record {
      begins = omega arith;
      said = nothing_read (digits_said size len ds)
          ∙ ap (λ n. read_on [] 0 (digits_said size n ds)) all
          ∙ ap (λ k. read_on [] k (digits_said size (len - 0) (drop k ds))) zero
          ∙ ap (λ (l : List Bool). read_on l (first - first) (digits_said size (len - length l) (drop (first - first) ds))) (sym none);
      few = (let e = ap length none in omega arith);
      head = c.new-v.ensures.head;
      clean = c.new-v.ensures.clean;
    }

-- what holds of the bytes holds of the text
of_text : (size len at : ℕ) (bytes text : List ℕ) → bytes ≡ text → (k : ℕ) → at ≡ first_digit bytes + k → digits_said size len (digits_of_text bytes) ≡ Err k → (x : ℕ) × (at ≡ first_digit text + x) × (digits_said size len (digits_of_text text) ≡ Err x)
of_text size len at bytes text same k there said = subst (λ t. (x : ℕ) × (at ≡ first_digit t + x) × (digits_said size len (digits_of_text t) ≡ Err x)) same (k, there, said)

pub returns-then-n-eq0-clause-wrong : goal.returns-then-n-eq0-clause-wrong
returns-then-n-eq0-clause-wrong g c at is =
    let bytes = c.as_bytes-bytes.result.now in
    let r = c.digits_range-first in
    let ds = digits_of_text bytes in
    let bits = c.loop-at.v.list in
    let k : ℕ = c.loop-at.at - r.result.0 in
    let same : c.loop-at.at ≡ at = cc in
    let size = ap length r.ensures.digits in
    let long = length-digits bytes r.result.0 r.result.1 r.ensures.inside in
    of_text c.args.size c.args.len at bytes c.args.text.now c.as_bytes-bytes.ensures.value k
    (omega (arith, same, r.ensures.first, c.loop-at.invariant.begins))
    (digit_past c.args.size c.args.len k ds bits c.loop-at.invariant.said (omega (arith, size, long, c.loop-at-test.true, c.loop-at.invariant.begins)) (omega (arith, c.if-n-eq0.true, c.min-n.ensures, c.len.ensures.value, c.requires.some)))

pub returns-in_default-clause-wrong : goal.returns-in_default-clause-wrong
returns-in_default-clause-wrong g c at is =
    let bytes = c.as_bytes-bytes.result.now in
    let r = c.digits_range-first in
    let ds = digits_of_text bytes in
    let bits = c.loop-at.v.list in
    let k : ℕ = c.loop-at.at - r.result.0 in
    let same : c.loop-at.at ≡ at = cc in
    let size = ap length r.ensures.digits in
    let long = length-digits bytes r.result.0 r.result.1 r.ensures.inside in
    let n : c.min-n.result ≡ min (c.args.len - length bits) c.args.size = omega (arith, c.min-n.ensures, c.len.ensures.value) in
    let char = char_at bytes r.result.0 r.result.1 c.loop-at.at c.loop-at.invariant.begins (omega (arith, c.loop-at-test.true)) ∙ ap (λ l. get_or l k 0) r.ensures.digits in
    of_text c.args.size c.args.len at bytes c.args.text.now c.as_bytes-bytes.ensures.value k
    (omega (arith, same, r.ensures.first, c.loop-at.invariant.begins))
    (wrong_digit c.args.size c.args.len k ds bits c.loop-at.invariant.said (get_or bytes c.loop-at.at 0) (omega (arith, size, long, c.loop-at-test.true, c.loop-at.invariant.begins)) char (omega (arith, c.if-n-eq0.false, n))
    (ap (λ m. bits_of_value m (value_of_digit (get_or bytes c.loop-at.at 0))) (sym n) ∙ subst (λ o. IfNone o (bits_of_value c.min-n.result (value_of_digit (get_or bytes c.loop-at.at 0)) ≡ None)) c.in_default.is c.digit_of_bits.ensures.none))

pub loop-at-preserved : goal.loop-at-preserved
loop-at-preserved g c =
    let len = c.args.len in
    let bytes = c.as_bytes-bytes.result.now in
    let r = c.digits_range-first in
    let ds = digits_of_text bytes in
    let bits = c.loop-at.v.list in
    let k : ℕ = c.loop-at.at - r.result.0 in
    let size = ap length r.ensures.digits in
    let long = length-digits bytes r.result.0 r.result.1 r.ensures.inside in
    let n : c.min-n.result ≡ min (len - length bits) c.args.size = omega (arith, c.min-n.ensures, c.len.ensures.value) in
    let char = char_at bytes r.result.0 r.result.1 c.loop-at.at c.loop-at.invariant.begins (omega (arith, c.loop-at-test.true)) ∙ ap (λ l. get_or l k 0) r.ensures.digits in
    let value = c.in-Some.value in
    let says = subst (λ m. bits_of_value m (value_of_digit (get_or bytes c.loop-at.at 0)) ≡ Some (binary m value)) n c.in-Some.ensures.some in
    let said = said_more c.args.size len k ds bits c.loop-at.invariant.said (get_or bytes c.loop-at.at 0) value (omega (arith, size, long, c.loop-at-test.true, c.loop-at.invariant.begins)) char (omega (arith, c.if-n-eq0.false, n)) says in
    let list : bits ++ binary (min (len - length bits) c.args.size) value ≡ c.push_be.new.self.list = ap (λ m. bits ++ binary m value) (sym n) ∙ sym c.in_ok-push_be.ensures.list in
    let step : k + 1 ≡ c.loop-at.at + 1 - r.result.0 = omega (arith, c.loop-at.invariant.begins) in
    record {
      begins = omega (arith, c.loop-at.invariant.begins);
      said = said
          ∙ ap (λ (l : List Bool). read_on l (k + 1) (digits_said c.args.size (len - length l) (drop (k + 1) ds))) list
          ∙ ap (λ j. read_on c.push_be.new.self.list j (digits_said c.args.size (len - length c.push_be.new.self.list) (drop j ds))) step;
      few = omega (arith, c.in_ok-push_be.ensures.len, n, c.loop-at.invariant.few);
      head = search rules;
      clean = c.in_ok-push_be.ensures.clean c.loop-at.invariant.clean;
    }

pub returns-then-len-clause-wrong : goal.returns-then-len-clause-wrong
returns-then-len-clause-wrong g c at is =
    let bytes = c.as_bytes-bytes.result.now in
    let r = c.digits_range-first in
    let ds = digits_of_text bytes in
    let bits = c.loop-at.v.list in
    let k : ℕ = c.loop-at.at - r.result.0 in
    let same : r.result.1 ≡ at = cc in
    let size = ap length r.ensures.digits in
    let long = length-digits bytes r.result.0 r.result.1 r.ensures.inside in
    let end : c.loop-at.at ≡ r.result.1 = omega (arith, c.loop-at-test.false, c.loop-at.auto.at-end, r.ensures.ordered) in
    of_text c.args.size c.args.len at bytes c.args.text.now c.as_bytes-bytes.ensures.value k
    (omega (arith, same, end, r.ensures.first, c.loop-at.invariant.begins))
    (digits_missing c.args.size c.args.len k ds bits c.loop-at.invariant.said (omega (arith, size, long, end)) (omega (arith, c.if-len.true, c.len-2.ensures.value)))

pub returns-clause-list : goal.returns-clause-list
returns-clause-list g c =
    let bytes = c.as_bytes-bytes.result.now in
    let r = c.digits_range-first in
    let ds = digits_of_text bytes in
    let bits = c.loop-at.v.list in
    let k : ℕ = c.loop-at.at - r.result.0 in
    let size = ap length r.ensures.digits in
    let long = length-digits bytes r.result.0 r.result.1 r.ensures.inside in
    let end : c.loop-at.at ≡ r.result.1 = omega (arith, c.loop-at-test.false, c.loop-at.auto.at-end, r.ensures.ordered) in
    ap (λ t. digits_said c.args.size c.args.len (digits_of_text t)) (sym c.as_bytes-bytes.ensures.value)
    ∙ all_said c.args.size c.args.len k ds bits c.loop-at.invariant.said (omega (arith, size, long, end)) (omega (arith, c.if-len.false, c.len-2.ensures.value))

pub returns-clause-reads_back : goal.returns-clause-reads_back
returns-clause-reads_back g c upper bits full is =
    said_once (digits_said c.args.size c.args.len (digits_of_text c.args.text.now)) c.loop-at.v.list bits (returns-clause-list g c)
    (read_back c.args.size c.args.len upper c.args.text.now bits c.requires.some c.requires.few full is)
