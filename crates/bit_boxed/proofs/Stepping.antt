-- Runs of calls of a box's owned iterator: its words stay, and so does the end of the bits that are left, or their beginning.
use Rattle.std.proofs.Common.{◌≡◌, ℕ, ◌+◌, Bool, Option, List, [], ◌∷◌, length, sym, ◌∙◌, ap}
use Rattle.std.specs.Iterator.{Yields, SkipsThenYields}
use Rattle.bit_boxed.specs.IntoIter.{Left, first_left, last_left}

module _ {X : Type 0} where
  words_yielded : (s t : Left X) (bits : List Bool) → Yields first_left s bits t → (t.words ≡ s.words) × (t.head + length t.list ≡ s.head + length s.list)
  words_yielded s t [] is = (ap (λ u. u.words) (sym is), ap (λ u. u.head + length u.list) (sym is))
  words_yielded s t (bit ∷ bits) is =
      let rest = words_yielded is.0 t bits is.2 in
      (rest.0 ∙ is.1.1, rest.1 ∙ is.1.2)

  back_yielded : (s t : Left X) (bits : List Bool) → Yields last_left s bits t → (t.words ≡ s.words) × (t.head ≡ s.head)
  back_yielded s t [] is = (ap (λ u. u.words) (sym is), ap (λ u. u.head) (sym is))
  back_yielded s t (bit ∷ bits) is =
      let rest = back_yielded is.0 t bits is.2 in
      (rest.0 ∙ is.1.1, rest.1 ∙ is.1.2)

  -- after `nth` the words are the same
  pub nth_words : (s t : Left X) (n : ℕ) (r : Option Bool) → SkipsThenYields first_left s n r t → t.words ≡ s.words
  nth_words s t n r is = is.1.2.1 ∙ (words_yielded s is.1.0 is.0 is.1.1).0

  -- and the bits that are left end where they did
  pub nth_end : (s t : Left X) (n : ℕ) (r : Option Bool) → SkipsThenYields first_left s n r t → t.head + length t.list ≡ s.head + length s.list
  nth_end s t n r is = is.1.2.2 ∙ (words_yielded s is.1.0 is.0 is.1.1).1
