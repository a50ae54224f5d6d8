-- A reader with two registers, of which one holds nothing.
use Rattle.std.proofs.Common.{◌≡◌, ℕ, ◌+◌, ◌-◌, ◌*◌, ◌^◌, ◌<◌, ◌≤◌, Bool, List, ◌⊎◌, inl, inr, length, refl, sym, ◌∙◌, ap, subst, arith}
use Rattle.bit_streams.specs.Streams.{IsHeld, IsLow, IsReading, IsReadingBoth, padded}
use Rattle.bit_streams.proofs.Lows.{low_none, low_stays}
use Rattle.bit_streams.proofs.Padded.{reading_on}
use Rattle.bit_streams.proofs.Windows.{nothing_held}

-- a register that holds nothing holds what comes later as well
nothing_later : (row : List Bool) (from to have window : ℕ) → have ≡ 0 → IsHeld row from have window → IsHeld row to have window
nothing_later row from to have window none held =
    let v = held.number in
    let small : v < 2 ^ 0 = subst (λ k. v < 2 ^ k) none held.small in
    let zero : v ≡ 0 = (let e : 2 ^ 0 ≡ 1 = refl in omega arith) in
    let is : window ≡ 0 = held.is ∙ ap (λ k. k * 2 ^ (64 - have)) zero ∙ omega arith in
    subst (λ k. IsHeld row to have k) (sym is) (subst (λ k. IsHeld row to k 0) (sym none) (nothing_held row to))

-- digits taken from the lows leave what the register holds, since one of the two is empty
pub held_stays : (row : List Bool) (from n have lows window : ℕ) → (have ≡ 0) ⊎ (lows ≡ 0) → n ≤ lows → IsHeld row from have window → IsHeld row (from + n) have window
held_stays row from n have lows window (inl e) few held = nothing_later row from (from + n) have window e held
held_stays row from n have lows window (inr e) few held =
    let same : from ≡ from + n = omega arith in subst (λ f. IsHeld row f have window) same held

-- the second register was emptied
pub emptied : (row : List Bool) (w n start left end have window : ℕ) → IsReading row w n start left end have window → IsReadingBoth row w n start left end have window 0 0
emptied row w n start left end have window r =
    let within = r.within in
    record {
      reading = r;
      low_held = low_none (padded row) (end - left) 0 (let e : 2 ^ 0 ≡ 1 = refl in omega arith);
      low_ahead = omega arith;
      one = inr refl;
    }

module _ (row : List Bool) (w n start left end have window lows low : ℕ) (both : IsReadingBoth row w n start left end have window lows low) (size : length row ≡ w * n) where
  ahead_after : (k held other : ℕ) → (other ≡ 0) ⊎ (held ≡ 0) → k ≤ other → k ≤ left → end - left + held ≤ w * n + 64 → end - left + k + held ≤ w * n + 64
  ahead_after k held other (inl e) few enough ahead = omega arith
  ahead_after k held other (inr e) few enough ahead =
      let within = both.reading.within in
      let begins = both.reading.begins in
      omega arith

  swapped : {A B : Type 0} → A ⊎ B → B ⊎ A
  swapped (inl a) = inr a
  swapped (inr b) = inl b

  -- k bits of the first register are passed
  pub first_on : (k after held_after : ℕ) → k ≤ have → k ≤ left → after ≡ have - k → IsReading row w n start (left - k) end after held_after → IsReadingBoth row w n start (left - k) end after held_after lows low
  first_on k after held_after few enough rest reading =
      let begins = both.reading.begins in
      let to : end - left + k ≡ end - (left - k) = omega arith in
      let ahead = ahead_after k lows have both.one few enough both.low_ahead in
      record {
        reading = reading;
        low_held = subst (λ f. IsLow (padded row) f lows low) to (low_stays (padded row) (end - left) k have lows low both.one few both.low_held);
        low_ahead = omega arith;
        one = still both.one;
      }
    where
      still : (have ≡ 0) ⊎ (lows ≡ 0) → (after ≡ 0) ⊎ (lows ≡ 0)
      still (inl e) = inl (omega arith)
      still (inr e) = inr e

  -- k bits of the second register are passed
  pub second_on : (k after low_after : ℕ) → k ≤ lows → k ≤ left → after ≡ lows - k → IsLow (padded row) (end - left + k) after low_after → IsReadingBoth row w n start (left - k) end have window after low_after
  second_on k after low_after few enough rest held =
      let begins = both.reading.begins in
      let to : end - left + k ≡ end - (left - k) = omega arith in
      let most = both.low_ahead in
      record {
        reading = reading_on row w n start left end have window both.reading size k have window enough (ahead_after k have lows (swapped both.one) few enough both.reading.ahead)
            (held_stays (padded row) (end - left) k have lows window both.one few both.reading.held);
        low_held = subst (λ f. IsLow (padded row) f after low_after) to held;
        low_ahead = omega arith;
        one = still both.one;
      }
    where
      still : (have ≡ 0) ⊎ (lows ≡ 0) → (have ≡ 0) ⊎ (after ≡ 0)
      still (inl e) = inl e
      still (inr e) = inr (omega arith)

  -- the second register was filled
  pub second_filled : (k after low_after : ℕ) → k ≤ left → end - left + k + after ≤ w * n + 64 → IsLow (padded row) (end - left + k) after low_after → IsReadingBoth row w n start (left - k) end 0 0 after low_after
  second_filled k after low_after enough ahead held =
      let begins = both.reading.begins in
      let to : end - left + k ≡ end - (left - k) = omega arith in
      record {
        reading = reading_on row w n start left end have window both.reading size k 0 0 enough (omega arith) (nothing_held (padded row) (end - left + k));
        low_held = subst (λ f. IsLow (padded row) f after low_after) to held;
        low_ahead = omega arith;
        one = inl refl;
      }
