-- Calls that append in several steps: one step refused is the whole call refused, and what was written before stays.
use Rattle.std.proofs.Common.{◌≡◌, ℕ, ◌+◌, ◌<◌, ◌≤◌, ◌++◌, Bool, List, length, take, Err, Result, sym, ◌∙◌, ap, arith}
use Rattle.std.proofs.lemmas.List.{length-append}
use Rattle.bit_addressing.specs.Row.{binary}
use Rattle.bit_addressing.specs.declared.length.TheConstants.{MAX_BITS}
use Rattle.bit_addressing.specs.declared.errors.GrowError.{GrowError}
use Rattle.bit_addressing.specs.declared.errors.GrowError.TheVariants.{TooLong, OutOfMemory}
use Rattle.bit_streams.specs.Streams.{MayRefuse, Refuses, Writing}
use Rattle.bit_rows.proofs.Binary.{length-binary}
use Rattle.bit_streams.proofs.Lists.{take_front}

-- the result of a call that is refused
abbrev refused : GrowError → Result (Unit {0}) GrowError
refused why = Err why

-- where no more bits are asked for than the whole call appends, it is refused as its step is
refused_by : (why : GrowError) (bits : List Bool) (wanted : ℕ) (old new was : Writing) → wanted ≤ length old.list + length bits → old.capacity ≤ was.capacity
    → (refused why ≡ Err TooLong → MAX_BITS < wanted) → (refused why ≡ Err OutOfMemory → was.capacity < wanted) → new.list ≡ old.list → MayRefuse (refused why) bits old new
refused_by why bits wanted old new was least grew long full same = record {
  too_long = λ e. (let p = long e in omega arith);
  memory = λ e. (let p = full e in omega arith);
  unchanged = same;
}

-- what was written after a list is cut off
cut_off : (old front now new : List Bool) (k : ℕ) → now ≡ old ++ front → new ≡ take k now → k ≡ length old → new ≡ old
cut_off old front now new k is cut at = cut ∙ ap (take k) is ∙ take_front k old front (sym at)

-- refused at the first step
pub refused_first : (why : GrowError) (bits : List Bool) (n : ℕ) (old new : Writing) → Refuses (refused why) (length old.list + n) old new → n ≤ length bits → MayRefuse (refused why) bits old new
refused_first why bits n old new r least = refused_by why bits (length old.list + n) old new old (omega arith) (omega arith) r.too_long.0 r.memory r.unchanged

-- the same, of a step that itself has several
pub may_refuse_first : (why : GrowError) (bits front back : List Bool) (old new : Writing) → MayRefuse (refused why) front old new → bits ≡ front ++ back → MayRefuse (refused why) bits old new
may_refuse_first why bits front back old new r all =
    let sum = ap length all ∙ length-append front back in
    refused_by why bits (length old.list + length front) old new old (omega arith) (omega arith) r.too_long r.memory r.unchanged

-- refused at a later step, after which the list is cut back
pub refused_after : (why : GrowError) (bits front : List Bool) (n k : ℕ) (old new was now : Writing) → Refuses (refused why) (length was.list + n) was now → was.list ≡ old.list ++ front → length front + n ≤ length bits
    → old.capacity ≤ was.capacity → new.list ≡ take k now.list → k ≡ length old.list → MayRefuse (refused why) bits old new
refused_after why bits front n k old new was now r is least grew cut at =
    let sum = ap length is ∙ length-append old.list front in
    refused_by why bits (length was.list + n) old new was (omega arith) grew r.too_long.0 r.memory (cut_off old.list front now.list new.list k (r.unchanged ∙ is) cut at)

-- the same, of a step that itself has several
pub may_refuse_after : (why : GrowError) (bits front back : List Bool) (k : ℕ) (old new was now : Writing) → MayRefuse (refused why) back was now → was.list ≡ old.list ++ front → bits ≡ front ++ back
    → old.capacity ≤ was.capacity → new.list ≡ take k now.list → k ≡ length old.list → MayRefuse (refused why) bits old new
may_refuse_after why bits front back k old new was now r is all grew cut at =
    let sum = ap length is ∙ length-append old.list front in
    let parts = ap length all ∙ length-append front back in
    refused_by why bits (length was.list + length back) old new was (omega arith) grew r.too_long r.memory (cut_off old.list front now.list new.list k (r.unchanged ∙ is) cut at)

-- a call in one step, whatever its result
pub one_step : (result : Result (Unit {0}) GrowError) (bits step : List Bool) (n : ℕ) (old new : Writing) → bits ≡ step → length step ≡ n → Refuses result (length old.list + n) old new → MayRefuse result bits old new
one_step result bits step n old new is size r =
    let all = ap length is in
    record { too_long = λ e. (let p = r.too_long.0 e in omega arith); memory = λ e. (let p = r.memory e in omega arith); unchanged = r.unchanged }

-- a number of n digits refused before more is written
pub number_refused : (why : GrowError) (n x : ℕ) (more : List Bool) (old new : Writing) → Refuses (refused why) (length old.list + n) old new → MayRefuse (refused why) (binary n x ++ more) old new
number_refused why n x more old new r =
    let sum = length-append (binary n x) more in
    let digits = length-binary n x in
    refused_first why (binary n x ++ more) n old new r (omega arith)

-- a number of n digits refused after other bits, which are cut off
pub number_refused_after : (why : GrowError) (front : List Bool) (n x k : ℕ) (old new was now : Writing) → Refuses (refused why) (length was.list + n) was now → was.list ≡ old.list ++ front
    → old.capacity ≤ was.capacity → new.list ≡ take k now.list → k ≡ length old.list → MayRefuse (refused why) (front ++ binary n x) old new
number_refused_after why front n x k old new was now r is grew cut at =
    let sum = length-append front (binary n x) in
    let digits = length-binary n x in
    refused_after why (front ++ binary n x) front n k old new was now r is (omega arith) grew cut at
